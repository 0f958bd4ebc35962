-- A frame is handed out and becomes a table, a leaf is set or cleared: the invariant is kept.
use mathlib.Core.Path.{◌≡◌, refl, sym, ap, ap₂, ◌∙◌, subst}
use mathlib.Core.Logic.{◌≢◌, ◌⊎◌, inl, inr}
use Prim.Native.Nat.{ℕ, ◌+◌, ◌*◌, ◌-◌, ◌<◌, ◌≤◌}
use native.Mathlib.Omega.{arith}
use native.Mathlib.Decide.{ℕ_discrete}
use mathlib.Core.Bool.{true}
use mathlib.Core.List.{List, [], ◌∷◌, head-eq_of_cons-eq, tail-eq_of_cons-eq}
use mathlib.Core.Option.{Option, none, some, IsSome}
use lib.Dec.{not_T}
use lib.ListN.{length}
use borrow.Author.Tests.{lt-ltb}
use Rattle.spec.specs.Entry.{present, entry_limit}
use Rattle.spec.specs.Prefix.{same, any}
use Rattle.words.specs.Words.{at, word_in, zeroed}
use Rattle.pool.specs.declared.Area.{Area}
use Rattle.pool.specs.declared.Pool.{Pool}
use Rattle.pool.specs.declared.Way.TheVariants.{To, Not}
use Rattle.pool.specs.Header.{entry_at_of, put_entry_of, guest_room, guest_of, level_of, parent_of, slot_of, header_of}
use Rattle.pool.specs.Pool.{link, follow_of, end, pool_of, with_top, fresh_of, freed_of, take_of}
use Rattle.area.specs.Tree.{new_top_of, new_table_of, enter_of, attach_of}
use Rattle.spec_laws.proofs.Lists.{same_is, or_cases, or_right}
use Rattle.spec_laws.proofs.Distinct.{In, in_head}
use Rattle.area_laws.proofs.Change.{eq?, upd, upd_on, upd_at, upd_other, longer, no_empty, some_inj, not_some, is_some}
use Rattle.area_laws.proofs.Stores.{SameHead, frame_head, frame_entry, trans_head, at_inj, Beside, beside_one, beside_trans, put_length, put_here, put_other, put_else, put_head, Empty, empty_is}
use Rattle.area_laws.proofs.Invariant.{slot, link_small, follow_link, follow_zero, Mem, NoDup, Chain, chain_keep, Tables, none_below, frame_small, place_fits, place_inj}

-- ---- a frame is taken: what is known of it and of the next pool, over the old memory
pub record Took (a : Area) (p : Pool) (ts : List ℕ → Option ℕ) (fl : List ℕ) (m : List ℕ) (q : Pool) (kl : List ℕ) (f : ℕ) : Type 0 where
  pub taken : take_of a p m ≡ end q (To f) (zeroed m (f * 512) 512)
  pub used : q.used ≡ p.used + 1
  pub more : p.fresh ≤ q.fresh
  pub room : q.fresh ≤ a.size
  pub count : q.fresh ≡ q.used + length kl
  pub low : a.base ≤ f
  pub high : f < a.base + q.fresh
  pub span : (h : ℕ) → h < a.base + q.fresh → h ≢ f → h < a.base + p.fresh
  pub new : (x : List ℕ) → ts x ≢ some f
  pub kept : (h : ℕ) → Mem h kl → Mem h fl
  pub nodup : NoDup kl
  pub out : Mem f kl → ⊥
  pub chain : Chain m q.free kl
  pub top : q.top ≡ p.top

pub record Take (a : Area) (p : Pool) (ts : List ℕ → Option ℕ) (fl : List ℕ) (m : List ℕ) : Type 0 where
  pub pool : Pool
  pub list : List ℕ
  pub frame : ℕ
  pub took : Took a p ts fl m pool list frame

-- a frame is handed out while fewer than all are in use
pub take_is : {a : Area} {p : Pool} {ts : List ℕ → Option ℕ} {lv guest : List ℕ → ℕ} {fl : List ℕ} {ps : List (List ℕ)} {m : List ℕ}
    → Tables a p ts lv guest fl ps m → p.used < a.size → Take a p ts fl m
unfolding take_of fresh_of freed_of
take_is {a = a} {p = p} {ts = ts} {fl = []} {m = m} g l = record {
  pool = pool_of (p.fresh + 1) p.free (p.used + 1) p.top;
  list = [];
  frame = a.base + p.fresh;
  took = record {
    taken =
        let n = g.count in
        let k : p.fresh < a.size = omega arith in
        let e : follow_of a.base a.size p.free ≡ Not = ap (follow_of a.base a.size) g.chain ∙ follow_zero a.base a.size in
        rw (lt-ltb _ _ l, e, lt-ltb _ _ k);
    used = refl;
    more = omega arith;
    room = let n = g.count in omega arith;
    count = let n = g.count in omega arith;
    low = omega arith;
    high = omega arith;
    span = λ h i ne. omega (arith, ne);
    new = λ x e. let i = g.inside x _ e in omega arith;
    kept = λ f h. h;
    nodup = tt;
    out = λ h. h;
    chain = g.chain;
    top = refl;
  };
}
take_is {a = a} {p = p} {ts = ts} {fl = f ∷ fl} {m = m} g l = record {
  pool = pool_of p.fresh (word_in m f 0) (p.used + 1) p.top;
  list = fl;
  frame = f;
  took = record {
    taken =
        let o = g.off f (inl refl) in
        let h : f < a.base + a.size = omega (arith, g.room) in
        let e : follow_of a.base a.size p.free ≡ To f = ap (follow_of a.base a.size) g.chain.0 ∙ follow_link a.base a.size f o.0 h (omega (arith, g.small)) in
        rw (lt-ltb _ _ l, e);
    used = refl;
    more = omega arith;
    room = g.room;
    count = let n = g.count in omega arith;
    low = (g.off f (inl refl)).0;
    high = (g.off f (inl refl)).1;
    span = λ h i ne. i;
    new = (g.off f (inl refl)).2;
    kept = λ x h. inr h;
    nodup = g.nodup.1;
    out = g.nodup.0;
    chain = g.chain.1;
    top = refl;
  };
}

module _ {a : Area} {p : Pool} {ts : List ℕ → Option ℕ} {lv guest : List ℕ → ℕ} {fl : List ℕ} {ps : List (List ℕ)} {m : List ℕ}
    (g : Tables a p ts lv guest fl ps m) where
  -- ---- the frame f, just taken, is the table of the prefix x in the memory n; t is the top table's entry then
  pub record Adopt (q : Pool) (t : ℕ) (kl : List ℕ) (f : ℕ) (x : List ℕ) (n : List ℕ) : Type 0 where
    pub took : Took a p ts fl m q kl f
    pub len : length n ≡ length m
    pub bare : ts x ≡ none
    pub leaf : lv x ≡ 0
    pub zeros : (j : ℕ) → j < 512 → entry_at_of n f j ≡ 0
    pub rest : (y : List ℕ) (h j : ℕ) → ts y ≡ some h → j < 512 → entry_at_of n h j ≡ slot (upd ts x (some f) (j ∷ y)) (lv (j ∷ y))
    pub heads : (h : ℕ) → h ≢ f → SameHead m n h
    pub links : (h : ℕ) → Mem h kl → word_in n h 0 ≡ word_in m h 0
    pub top : t ≡ slot (upd ts x (some f) []) 0
    pub level : (level_of n f + length x ≡ a.levels) × (length x < a.levels)
    pub link : (i : ℕ) (y : List ℕ) → i ∷ y ≡ x → (ts y ≡ some (parent_of n f)) × (slot_of n f ≡ i)
    pub gives : guest_of n f ≡ guest x

  pub adopt : (q : Pool) (t : ℕ) (kl : List ℕ) (f : ℕ) (x : List ℕ) (n : List ℕ) → Adopt q t kl f x n → Tables a (with_top q t) (upd ts x (some f)) lv guest kl (x ∷ ps) n
  unfolding with_top
  adopt q t kl f x n c = record {
    small = g.small;
    flat = g.flat;
    long = rw c.len g.long;
    inj = λ y z h ty tz. injs y z h ty tz (eq? x y) (eq? x z);
    word = λ y h j ty l. words y h j ty l (eq? x y);
    top = c.top;
    root = g.root;
    below = λ i y ty. unders i y ty (eq? x y);
    narrow = g.narrow;
    plain = λ y h ty. plains y h ty (eq? x y);
    solid = g.solid;
    inside = λ y h ty. ins y h ty (eq? x y);
    chain = chain_keep m n kl q.free c.links c.took.chain;
    nodup = c.took.nodup;
    off = λ h k. offs h k;
    count = c.took.count;
    room = c.took.room;
    used = let u = c.took.used in let v = g.used in omega arith;
    once = (not_T (any (same x) ps) (λ h. subst IsSome c.bare ((g.stand x).0 h)), g.once);
    stand = λ y. stands y (eq? x y);
    level = λ y h ty. levels y h ty (eq? x y);
    link = λ i y h ty. links i y h ty (eq? x (i ∷ y));
    each = λ h lo hi. eachs h lo hi (ℕ_discrete h f);
    guests = λ y h ty. guestss y h ty (eq? x y);
  }
    where
      tu : List ℕ → Option ℕ
      tu = upd ts x (some f)

      new : (y : List ℕ) (h : ℕ) → tu y ≡ some h → x ≡ y → f ≡ h
      new y h ty e = some_inj (sym (upd_on ts x (some f) y e) ∙ ty)

      old : (y : List ℕ) (h : ℕ) → tu y ≡ some h → x ≢ y → ts y ≡ some h
      old y h ty e = sym (upd_other ts x (some f) y e) ∙ ty

      -- a table that stood stays, and is in another frame
      keep : (y : List ℕ) (h : ℕ) → ts y ≡ some h → tu y ≡ some h
      keep y h ty = upd_other ts x (some f) y (λ e. not_some (ap ts (sym e) ∙ c.bare) ty) ∙ ty

      other : (y : List ℕ) (h : ℕ) → ts y ≡ some h → h ≢ f
      other y h ty e = c.took.new y (ty ∙ ap some e)

      injs : (y z : List ℕ) (h : ℕ) → tu y ≡ some h → tu z ≡ some h → Dec (x ≡ y) → Dec (x ≡ z) → y ≡ z
      injs y z h ty tz (yes u) (yes v) = sym u ∙ v
      injs y z h ty tz (yes u) (no v) = absurd (other z h (old z h tz v) (sym (new y h ty u)))
      injs y z h ty tz (no u) (yes v) = absurd (other y h (old y h ty u) (sym (new z h tz v)))
      injs y z h ty tz (no u) (no v) = g.inj y z h (old y h ty u) (old z h tz v)

      words : (y : List ℕ) (h j : ℕ) → tu y ≡ some h → j < 512 → Dec (x ≡ y) → entry_at_of n h j ≡ slot (tu (j ∷ y)) (lv (j ∷ y))
      words y h j ty l (no u) = c.rest y h j (old y h ty u) l
      words y h j ty l (yes u) =
          let e : tu (j ∷ y) ≡ none = ap (λ z. tu (j ∷ z)) (sym u) ∙ upd_other ts x (some f) (j ∷ x) (longer j x) ∙ none_below g j x c.bare in
          let z : lv (j ∷ y) ≡ 0 = ap (λ z. lv (j ∷ z)) (sym u) ∙ g.below j x c.bare in
          ap (λ k. entry_at_of n k j) (sym (new y h ty u)) ∙ c.zeros j l ∙ sym (ap (λ o. slot o (lv (j ∷ y))) e ∙ z)

      unders : (i : ℕ) (y : List ℕ) → tu y ≡ none → Dec (x ≡ y) → lv (i ∷ y) ≡ 0
      unders i y ty (yes u) = absurd (not_some ty (upd_on ts x (some f) y u))
      unders i y ty (no u) = g.below i y (sym (upd_other ts x (some f) y u) ∙ ty)

      plains : (y : List ℕ) (h : ℕ) → tu y ≡ some h → Dec (x ≡ y) → lv y ≡ 0
      plains y h ty (yes u) = ap lv (sym u) ∙ c.leaf
      plains y h ty (no u) = g.plain y h (old y h ty u)

      ins : (y : List ℕ) (h : ℕ) → tu y ≡ some h → Dec (x ≡ y) → (a.base ≤ h) × (h < a.base + q.fresh)
      ins y h ty (yes u) = subst (λ k. (a.base ≤ k) × (k < a.base + q.fresh)) (new y h ty u) (c.took.low, c.took.high)
      ins y h ty (no u) = let i = g.inside y h (old y h ty u) in (i.0, omega (arith, c.took.more))

      offs : (h : ℕ) → Mem h kl → (a.base ≤ h) × (h < a.base + q.fresh) × ((y : List ℕ) → tu y ≢ some h)
      offs h k =
          let o = g.off h (c.took.kept h k) in
          (o.0, omega (arith, c.took.more), λ y ty. apart y ty (eq? x y))
        where
          apart : (y : List ℕ) → tu y ≡ some h → Dec (x ≡ y) → ⊥
          apart y ty (yes u) = c.took.out (subst (λ z. Mem z kl) (sym (new y h ty u)) k)
          apart y ty (no u) = (g.off h (c.took.kept h k)).2 y (old y h ty u)

      stands : (y : List ℕ) → Dec (x ≡ y) → (In y (x ∷ ps) → IsSome (tu y)) × (IsSome (tu y) → In y (x ∷ ps))
      stands y (yes u) = ((λ h. is_some (upd_on ts x (some f) y u)), (λ h. in_head y x ps (sym u)))
      stands y (no u) = (
        (λ h. subst IsSome (sym (upd_other ts x (some f) y u))
            (elim (or_cases (same y x) (any (same y) ps) h) [ inl e ↦ absurd (u (sym (same_is y x e))) | inr e ↦ (g.stand y).0 e ])),
        (λ h. or_right (same y x) _ ((g.stand y).1 (subst IsSome (upd_other ts x (some f) y u) h))),
      )

      levels : (y : List ℕ) (h : ℕ) → tu y ≡ some h → Dec (x ≡ y) → (level_of n h + length y ≡ a.levels) × (length y < a.levels)
      levels y h ty (yes u) =
          subst (λ k. (level_of n k + length y ≡ a.levels) × (length y < a.levels)) (new y h ty u)
          (subst (λ z. (level_of n f + length z ≡ a.levels) × (length z < a.levels)) u c.level)
      levels y h ty (no u) = let o = old y h ty u in rw (c.heads h (other y h o)).level (g.level y h o)

      links : (i : ℕ) (y : List ℕ) (h : ℕ) → tu (i ∷ y) ≡ some h → Dec (x ≡ i ∷ y) → (tu y ≡ some (parent_of n h)) × (slot_of n h ≡ i)
      links i y h ty (yes u) =
          subst (λ k. (tu y ≡ some (parent_of n k)) × (slot_of n k ≡ i)) (new (i ∷ y) h ty u)
          (let k = c.link i y (sym u) in (keep y (parent_of n f) k.0, k.1))
      links i y h ty (no u) =
          let o = old (i ∷ y) h ty u in
          let k = g.link i y h o in
          rw ((c.heads h (other (i ∷ y) h o)).parent, (c.heads h (other (i ∷ y) h o)).slot) (keep y (parent_of m h) k.0, k.1)

      eachs : (h : ℕ) → a.base ≤ h → h < a.base + q.fresh → Dec (h ≡ f) → (level_of n h ≡ 0) ⊎ ((y : List ℕ) × (tu y ≡ some h))
      eachs h lo hi (yes u) = inr (x, upd_at ts x (some f) ∙ ap some (sym u))
      eachs h lo hi (no u) = elim (g.each h lo (c.took.span h hi u)) [ inl z ↦ inl ((c.heads h u).level ∙ z) | inr z ↦ inr (z.0, keep z.0 h z.1) ]

      guestss : (y : List ℕ) (h : ℕ) → tu y ≡ some h → Dec (x ≡ y) → guest_of n h ≡ guest y
      guestss y h ty (yes u) = ap (guest_of n) (sym (new y h ty u)) ∙ c.gives ∙ ap guest u
      guestss y h ty (no u) = let o = old y h ty u in (c.heads h (other y h o)).guest ∙ g.guests y h o

  -- ---- a table is hung at index i of table h, which is that of the prefix x
  pub record Hung (h i : ℕ) (x : List ℕ) : Type 0 where
    pub pool : Pool
    pub list : List ℕ
    pub frame : ℕ
    pub memory : List ℕ
    pub done : attach_of a p m (guest (i ∷ x)) (a.levels - length (i ∷ x)) h i ≡ end pool (To frame) memory
    pub tables : Tables a pool (upd ts (i ∷ x) (some frame)) lv guest list ((i ∷ x) ∷ ps) memory
    pub used : pool.used ≡ p.used + 1
    pub beside : Beside a m memory

  pub attach_is : (h i : ℕ) (x : List ℕ) → ts x ≡ some h → i < 512 → ts (i ∷ x) ≡ none → lv (i ∷ x) ≡ 0
      → length (i ∷ x) < a.levels → guest (i ∷ x) < guest_room → p.used < a.size → Hung h i x
  unfolding attach_of new_table_of with_top
  attach_is h i x tx hi bare leaf deep thin l = record {
    pool = t.pool;
    list = t.list;
    frame = f;
    memory = n;
    done = rw k.taken;
    tables = adopt t.pool t.pool.top t.list f (i ∷ x) n (record {
      took = k;
      len = put_length z h i (link f) ∙ e.long;
      bare = bare;
      leaf = leaf;
      zeros = λ j hj. put_other z h i (link f) f j (λ q. k.new x (tx ∙ ap some (sym (at_inj f j h i hj hi q).0))) ∙ e.zeros j hj;
      rest = λ y d j ty hj. rests y d j ty hj (eq? (i ∷ x) (j ∷ y));
      heads = λ d ne. trans_head (frame_head m z d (e.else d ne)) (put_head z h i (link f) d here);
      links = λ d c. put_else z h i (link f) d hi (λ q. (g.off d (k.kept d c)).2 x (tx ∙ ap some (sym q))) 0 (omega arith)
          ∙ e.else d (λ q. k.out (subst (λ u. Mem u t.list) q c)) 0 (omega arith);
      top = top;
      level = let u = new.level in (rw (u, e.level) (omega arith), deep);
      link = λ j y q. (
        ap ts (tail-eq_of_cons-eq q) ∙ tx ∙ ap some (sym (new.parent ∙ e.parent)),
        new.slot ∙ e.slot ∙ sym (head-eq_of_cons-eq q),
      );
      gives = new.guest ∙ e.guest;
    });
    used = k.used;
    beside = beside_trans (beside_one a m z f k.low (omega (arith, k.high, k.room)) e.long e.else)
        (beside_one a z n h (g.inside x h tx).0 (frame_small g x h tx).0 (put_length z h i (link f)) (λ d ne. put_else z h i (link f) d hi ne));
  }
    where
      t : Take a p ts fl m
      t = take_is g l

      f : ℕ
      f = t.frame

      k : Took a p ts fl m t.pool t.list t.frame
      k = t.took

      z : List ℕ
      z = header_of (zeroed m (f * 512) 512) f (guest (i ∷ x)) (a.levels - length (i ∷ x)) h i

      e : Empty m z f (guest (i ∷ x)) (a.levels - length (i ∷ x)) h i
      e = empty_is m f (guest (i ∷ x)) (a.levels - length (i ∷ x)) h i (omega (arith, k.high, k.room, g.long)) thin (omega (arith, g.flat)) (frame_small g x h tx).1 hi

      n : List ℕ
      n = put_entry_of z h i (link f)

      here : at h i < length z
      here = rw e.long (place_fits g x h i tx hi)

      new : SameHead z n f
      new = put_head z h i (link f) f here

      rests : (y : List ℕ) (d j : ℕ) → ts y ≡ some d → j < 512 → Dec (i ∷ x ≡ j ∷ y) → entry_at_of n d j ≡ slot (upd ts (i ∷ x) (some f) (j ∷ y)) (lv (j ∷ y))
      rests y d j ty hj (yes q) =
          let u : i ≡ j = head-eq_of_cons-eq q in
          let c : h ≡ d = some_inj (sym tx ∙ ap ts (tail-eq_of_cons-eq q) ∙ ty) in
          ap₂ (entry_at_of n) (sym c) (sym u) ∙ put_here z h i (link f) here (link_small f (omega (arith, k.high, k.room, g.small)))
          ∙ sym (ap (λ o. slot o (lv (j ∷ y))) (upd_on ts (i ∷ x) (some f) (j ∷ y) q))
      rests y d j ty hj (no q) =
          put_other z h i (link f) d j (λ c. q (place_inj g x y h d i j tx ty hi hj c))
          ∙ frame_entry m z d j (e.else d (λ c. k.new y (ty ∙ ap some c))) hj ∙ g.word y d j ty hj
          ∙ sym (ap (λ o. slot o (lv (j ∷ y))) (upd_other ts (i ∷ x) (some f) (j ∷ y) q))

      top : t.pool.top ≡ slot (upd ts (i ∷ x) (some f) []) 0
      top = k.top ∙ g.top ∙ sym (ap (λ o. slot o 0) (upd_other ts (i ∷ x) (some f) [] (no_empty i x)))

  -- ---- the top table is handed out
  pub record Entered : Type 0 where
    pub pool : Pool
    pub list : List ℕ
    pub frame : ℕ
    pub memory : List ℕ
    pub done : enter_of a p m (guest []) ≡ end pool (To frame) memory
    pub tables : Tables a pool (upd ts [] (some frame)) lv guest list ([] ∷ ps) memory
    pub used : pool.used ≡ p.used + 1
    pub beside : Beside a m memory

  pub enter_is : ts [] ≡ none → 0 < a.levels → guest [] < guest_room → p.used < a.size → Entered
  unfolding enter_of new_top_of new_table_of with_top
  enter_is bare deep thin l = record {
    pool = with_top t.pool (link f);
    list = t.list;
    frame = f;
    memory = z;
    done = rw (none_there, k.taken);
    tables = adopt t.pool (link f) t.list f [] z (record {
      took = k;
      len = e.long;
      bare = bare;
      leaf = g.root;
      zeros = e.zeros;
      rest = λ y d j ty hj. frame_entry m z d j (e.else d (λ c. k.new y (ty ∙ ap some c))) hj ∙ g.word y d j ty hj
          ∙ sym (ap (λ o. slot o (lv (j ∷ y))) (upd_other ts [] (some f) (j ∷ y) (λ q. no_empty j y (sym q))));
      heads = λ d ne. frame_head m z d (e.else d ne);
      links = λ d c. e.else d (λ q. k.out (subst (λ u. Mem u t.list) q c)) 0 (omega arith);
      top = sym (ap (λ o. slot o 0) (upd_at ts [] (some f)));
      level = (rw e.level (omega arith), deep);
      link = λ j y q. absurd (no_empty j y q);
      gives = e.guest;
    });
    used = k.used;
    beside = beside_one a m z f k.low (omega (arith, k.high, k.room)) e.long e.else;
  }
    where
      none_there : follow_of a.base a.size p.top ≡ Not
      none_there = ap (follow_of a.base a.size) (g.top ∙ ap (λ o. slot o 0) bare) ∙ follow_zero a.base a.size

      t : Take a p ts fl m
      t = take_is g l

      f : ℕ
      f = t.frame

      k : Took a p ts fl m t.pool t.list f
      k = t.took

      z : List ℕ
      z = header_of (zeroed m (f * 512) 512) f (guest []) a.levels 0 0

      e : Empty m z f (guest []) a.levels 0 0
      e = empty_is m f (guest []) a.levels 0 0 (omega (arith, k.high, k.room, g.long)) thin g.flat (omega arith) (omega arith)

  -- ---- an entry is put where no table hangs
  pub put_leaf : (h i : ℕ) (x : List ℕ) (e : ℕ) → ts x ≡ some h → i < 512 → ts (i ∷ x) ≡ none → e < entry_limit → (e ≢ 0 → present e ≡ true)
      → Tables a p ts (upd lv (i ∷ x) e) guest fl ps (put_entry_of m h i e)
  put_leaf h i x e tx hi bare thin set = record {
    small = g.small;
    flat = g.flat;
    long = rw put_length g.long;
    inj = g.inj;
    word = λ y d j ty hj. words y d j ty hj (eq? (i ∷ x) (j ∷ y));
    top = g.top;
    root = upd_other lv (i ∷ x) e [] (no_empty i x) ∙ g.root;
    below = λ j y ty. upd_other lv (i ∷ x) e (j ∷ y) (λ q. not_some ty (ap ts (sym (tail-eq_of_cons-eq q)) ∙ tx)) ∙ g.below j y ty;
    narrow = λ j y l. upd_other lv (i ∷ x) e (j ∷ y) (λ q. let c : i ≡ j = head-eq_of_cons-eq q in omega arith) ∙ g.narrow j y l;
    plain = λ y d ty. upd_other lv (i ∷ x) e y (λ q. not_some (ap ts (sym q) ∙ bare) ty) ∙ g.plain y d ty;
    solid = λ y. solids y (eq? (i ∷ x) y);
    inside = g.inside;
    chain = chain_keep m n fl p.free (λ d c. put_else m h i e d hi (λ q. (g.off d c).2 x (tx ∙ ap some (sym q))) 0 (omega arith)) g.chain;
    nodup = g.nodup;
    off = g.off;
    count = g.count;
    room = g.room;
    used = g.used;
    once = g.once;
    stand = g.stand;
    level = λ y d ty. rw (heads d).level (g.level y d ty);
    link = λ j y d ty. rw ((heads d).parent, (heads d).slot) (g.link j y d ty);
    each = λ d lo hh. rw (heads d).level (g.each d lo hh);
    guests = λ y d ty. (heads d).guest ∙ g.guests y d ty;
  }
    where
      n : List ℕ
      n = put_entry_of m h i e

      here : at h i < length m
      here = place_fits g x h i tx hi

      heads : (d : ℕ) → SameHead m n d
      heads d = put_head m h i e d here

      words : (y : List ℕ) (d j : ℕ) → ts y ≡ some d → j < 512 → Dec (i ∷ x ≡ j ∷ y) → entry_at_of n d j ≡ slot (ts (j ∷ y)) (upd lv (i ∷ x) e (j ∷ y))
      words y d j ty hj (yes q) =
          let u : i ≡ j = head-eq_of_cons-eq q in
          let c : h ≡ d = some_inj (sym tx ∙ ap ts (tail-eq_of_cons-eq q) ∙ ty) in
          ap₂ (entry_at_of n) (sym c) (sym u) ∙ put_here m h i e here thin
          ∙ sym (ap₂ slot (ap ts (sym q) ∙ bare) (upd_on lv (i ∷ x) e (j ∷ y) q))
      words y d j ty hj (no q) =
          put_other m h i e d j (λ c. q (place_inj g x y h d i j tx ty hi hj c))
          ∙ g.word y d j ty hj ∙ sym (ap (slot (ts (j ∷ y))) (upd_other lv (i ∷ x) e (j ∷ y) q))

      solids : (y : List ℕ) → Dec (i ∷ x ≡ y) → upd lv (i ∷ x) e y ≢ 0 → present (upd lv (i ∷ x) e y) ≡ true
      solids y (yes q) k = let u = upd_on lv (i ∷ x) e y q in rw u (set (λ c. k (u ∙ c)))
      solids y (no q) k = let u = upd_other lv (i ∷ x) e y q in rw u (g.solid y (λ c. k (u ∙ c)))

  pub set_leaf : (h i : ℕ) (x : List ℕ) (e : ℕ) → ts x ≡ some h → i < 512 → ts (i ∷ x) ≡ none → e < entry_limit → present e ≡ true
      → Tables a p ts (upd lv (i ∷ x) e) guest fl ps (put_entry_of m h i e)
  set_leaf h i x e tx hi bare thin set = put_leaf h i x e tx hi bare thin (λ k. set)

  pub clear_leaf : (h i : ℕ) (x : List ℕ) → ts x ≡ some h → i < 512 → ts (i ∷ x) ≡ none → Tables a p ts (upd lv (i ∷ x) 0) guest fl ps (put_entry_of m h i 0)
  clear_leaf h i x tx hi bare = put_leaf h i x 0 tx hi bare (omega arith) (λ k. absurd (k refl))

  pub put_beside : (h i : ℕ) (x : List ℕ) (e : ℕ) → ts x ≡ some h → i < 512 → Beside a m (put_entry_of m h i e)
  put_beside h i x e tx hi = beside_one a m (put_entry_of m h i e) h (g.inside x h tx).0 (frame_small g x h tx).0 (put_length m h i e) (λ d ne. put_else m h i e d hi ne)
