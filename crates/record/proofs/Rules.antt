-- What the rules of a record give: the ranges that every crate below asks for.
use mathlib.Core.Path.{◌≡◌, refl, sym, ap, ◌∙◌}
use mathlib.Core.Logic.{◌⊎◌, inl, inr}
use mathlib.Core.Bool.{Bool, true, false, ◌&&◌, ◌||◌, cond, and-eq-true_iff}
use mathlib.Core.List.{List, [], ◌∷◌}
use mathlib.Core.Option.{Option, none, some, IsSome}
use Prim.Native.Nat.{ℕ, ◌+◌, ◌-◌, ◌*◌, ◌/◌, ◌%◌, ◌^◌, ◌<◌, ◌≤◌}
use native.Mathlib.Omega.{arith}
use borrow.Author.Tests.{eqb-true, eqb-false, leb-true, ltb-true, ltb-false, lt-ltb, le-ltb, le-leb, eq-eqb}
use lib.Dec.{eqb, leb, ltb}
use lib.ListN.{take}
use Rattle.spec.specs.Config.{Config, guest_base, frame_bits}
use Rattle.spec.specs.Refusal as spec
use Rattle.spec.specs.Refusal.{words_fit, areas_fit, frame_fits, marks_fit, top_fits, record_fits, open_refusal}
use Rattle.pool.specs.declared.Area.{Area}
use Rattle.pool.specs.declared.Pool.{Pool}
use Rattle.pool.specs.Header.{inside_of}
use Rattle.pool.specs.Pool.{link}
use Rattle.pool.proofs.Laws.{inside_true}
use Rattle.area_laws.proofs.Invariant.{slot, inside_is}
use Rattle.area_laws.proofs.Whole.{Holds}
use Rattle.layout.specs.declared.Layout.{Layout}
use Rattle.layout.specs.Layout.{LayoutFits, config}
use Rattle.marks.specs.declared.Marks.{Marks}
use Rattle.marks.specs.Key.{keys_fit}
use Rattle.marks.specs.Reading.{marks_of}
use Rattle.marks.proofs.Book.{keys_of, marks_fit_lem, all_held}
use Rattle.choice.specs.declared.Choice.{Choice}
use Rattle.choice.specs.Order.{order_fits, choice_fits}
use Rattle.choice.specs.Reading.{window_in, automatic_in}
use Rattle.choice.proofs.Shows.{shown_fits, shown_none}
use Rattle.choice.proofs.Automatic.{automatic_fits_lem}
use Rattle.record.specs.declared.Record.{Record}
use Rattle.record.specs.Record.{levels, layout_of, config_by, config_of, held_top, is_table, pool_fits, pools_fit, choices_fit, chosen_fits, fits_of, sizes_fit, tables_fit, zeros, head_of, head_root, with_head, with_marks}
use Rattle.record.specs.Open.{refusal_of}
use Rattle.spec_laws.proofs.Keeps.{InGuestArea}

both : (a b : Bool) → a && b ≡ true → (a ≡ true) × (b ≡ true)
both a b e = (and-eq-true_iff a b).0 e

-- a test of a sum that does not overflow
pub below : (h s n : ℕ) → h ≤ n → ltb s (n - h) ≡ ltb (h + s) n
below h s n l = go (ltb (h + s) n) refl
  where
    go : (t : Bool) → ltb (h + s) n ≡ t → ltb s (n - h) ≡ t
    go true q = let k = ltb-true (h + s) n q in lt-ltb s (n - h) (omega arith)
    go false q = let k = ltb-false (h + s) n q in le-ltb s (n - h) (omega arith)

-- ---- sizes as for opening
pub record Sized (l : Layout) : Type 0 where
  pub deep : l.levels ≡ levels
  pub frames : l.frames ≤ 65536
  pub hosts : l.levels ≤ l.hosts
  pub shadows : l.levels ≤ l.shadows
  pub guest : l.hosts + l.shadows < l.frames

sized : (l : Layout) → l.levels ≡ levels → l.frames ≤ 65536 → areas_fit (config l) ≡ true → Sized l
sized l n f e =
    let a = both (leb l.levels l.hosts && leb l.levels l.shadows) (ltb (l.hosts + l.shadows) l.frames) e in
    let b = both (leb l.levels l.hosts) (leb l.levels l.shadows) a.0 in
    record {
      deep = n;
      frames = f;
      hosts = leb-true l.levels l.hosts b.0;
      shadows = leb-true l.levels l.shadows b.1;
      guest = ltb-true (l.hosts + l.shadows) l.frames a.1;
    }

-- the levels are a choice
pub choices_levels : (l : Layout) → choices_fit l ≡ true → l.levels ≡ levels
unfolding choices_fit
choices_levels l e = eqb-true l.levels levels (both (eqb l.levels levels) (leb l.bits 1) e).0

pub sizes_say : (l : Layout) (len : ℕ) → choices_fit l ≡ true → sizes_fit l len ≡ true → Sized l
unfolding sizes_fit
sizes_say l len n e =
    let x = both (eqb len (l.frames * 512) && (ltb 0 l.frames && leb l.frames 65536)) (areas_fit (config l)) e in
    let y = both (eqb len (l.frames * 512)) (ltb 0 l.frames && leb l.frames 65536) x.0 in
    let z = both (ltb 0 l.frames) (leb l.frames 65536) y.1 in
    sized l (choices_levels l n) (leb-true l.frames 65536 z.1) x.1

-- a granted opening
pub granted_tests : (words h s : ℕ) (b : Bool) → refusal_of words h s b ≡ 0 → (words_fit words ≡ true) × (areas_fit (config_by words h s b) ≡ true)
unfolding refusal_of open_refusal
granted_tests words h s b e =
    let t = all_held ((words_fit words, 1) ∷ (areas_fit (config_by words h s b), 2) ∷ []) (omega arith, (omega arith, tt)) e in
    (t.0, t.1.0)

pub granted_sized : (words h s : ℕ) (b : Bool) → refusal_of words h s b ≡ 0 → Sized (layout_of words h s b) × (words / 512 * 512 ≡ words)
granted_sized words h s b e =
    let t = granted_tests words h s b e in
    let w = both (eqb (words % 512) 0 && ltb 0 (words / 512)) (leb (words / 512) 65536) t.0 in
    let d = eqb-true (words % 512) 0 (both (eqb (words % 512) 0) (ltb 0 (words / 512)) w.0).0 in
    (sized (layout_of words h s b) refl (leb-true (words / 512) 65536 w.1) t.1, omega arith)

-- the ranges of a layout
pub sized_layout : {l : Layout} → Sized l → LayoutFits l
sized_layout z = (omega (arith, z.deep), omega (arith, z.guest, z.frames), omega (arith, z.guest, z.frames), z.frames)

-- ---- what the areas keep
pub record Table (b s e : ℕ) : Type 0 where
  pub frame : ℕ
  pub is : e ≡ link frame
  pub low : b ≤ frame
  pub high : frame < b + s

pub table_is : (b s e : ℕ) → is_table b s e ≡ true → Table b s e
unfolding is_table link
table_is b s e h =
    let x = both (eqb (e % 4096) 1) (inside_of b s (e / 4096)) h in
    let one = eqb-true (e % 4096) 1 x.0 in
    let i = inside_true b s (e / 4096) x.1 in
    record { frame = e / 4096; is = omega arith; low = i.0; high = i.1 }

is_table_lem : (b s e : ℕ) → Table b s e → is_table b s e ≡ true
unfolding is_table link
is_table_lem b s e t =
    let one : e % 4096 ≡ 1 = omega (arith, t.is) in
    let at : e / 4096 ≡ t.frame = omega (arith, t.is) in
    rw (eq-eqb _ _ one, at, inside_is b s t.frame t.low t.high)

abbrev pub PoolFits : ℕ → ℕ → Pool → Type 0
PoolFits b s p = (p.fresh ≤ s) × (p.used ≤ p.fresh) × ((p.top ≡ 0) ⊎ Table b s p.top)

pool_fits_lem : (b s : ℕ) (p : Pool) → pool_fits b s p ≡ true → PoolFits b s p
unfolding pool_fits
pool_fits_lem b s p e =
    let x = both (leb p.fresh s && leb p.used p.fresh) (eqb p.top 0 || is_table b s p.top) e in
    let y = both (leb p.fresh s) (leb p.used p.fresh) x.0 in
    (leb-true p.fresh s y.0, leb-true p.used p.fresh y.1, top (eqb p.top 0) refl x.1)
  where
    top : (t : Bool) → eqb p.top 0 ≡ t → (t || is_table b s p.top) ≡ true → (p.top ≡ 0) ⊎ Table b s p.top
    top true q k = inl (eqb-true p.top 0 q)
    top false q k = inr (table_is b s p.top k)

fits_pool : (b s : ℕ) (p : Pool) → PoolFits b s p → pool_fits b s p ≡ true
unfolding pool_fits
fits_pool b s p f = rw (le-leb _ _ f.0, le-leb _ _ f.1) (top f.2)
  where
    top : (p.top ≡ 0) ⊎ Table b s p.top → (eqb p.top 0 || is_table b s p.top) ≡ true
    top (inl e) = rw (eq-eqb _ _ e)
    top (inr t) = or (eqb p.top 0) (is_table_lem b s p.top t)
      where
        or : (a : Bool) → is_table b s p.top ≡ true → (a || is_table b s p.top) ≡ true
        or true e = refl
        or false e = e

-- an area that holds leaves keeps a pool in its ranges, and its top table is one of it
top_table : {a : Area} {stays : Bool} {p : Pool} {m : List ℕ} {lv guest : List ℕ → ℕ} (h : Holds a stays p m lv guest) (f : ℕ) → h.tabs [] ≡ some f → Table a.base a.size p.top
top_table h f e =
    let i = h.tables.inside [] f e in
    record { frame = f; is = h.tables.top ∙ ap (λ o. slot o 0) e; low = i.0; high = omega (arith, i.1, h.tables.room) }

pub holds_top : {a : Area} {p : Pool} {m : List ℕ} {lv guest : List ℕ → ℕ} → Holds a true p m lv guest → Table a.base a.size p.top
holds_top {a} {p} h = go (h.tabs []) refl (h.top tt)
  where
    go : (o : Option ℕ) → h.tabs [] ≡ o → IsSome o → Table a.base a.size p.top
    go none e k = absurd k
    go (some f) e k = top_table h f e

pub holds_pool : {a : Area} {stays : Bool} {p : Pool} {m : List ℕ} {lv guest : List ℕ → ℕ} → Holds a stays p m lv guest → PoolFits a.base a.size p
holds_pool {a} {stays} {p} h = (h.tables.room, omega (arith, h.tables.count), go (h.tabs []) refl)
  where
    go : (o : Option ℕ) → h.tabs [] ≡ o → (p.top ≡ 0) ⊎ Table a.base a.size p.top
    go none e = inl (h.tables.top ∙ ap (λ o. slot o 0) e)
    go (some f) e = inr (top_table h f e)

-- ---- a record that breaks no rule
pub record Fits (r : Record) (len : ℕ) : Type 0 where
  pub long : len ≡ r.layout.frames * 512
  pub bits : r.layout.bits ≤ 1
  pub sizes : Sized r.layout
  pub root : r.guest.root.0 < 2 ^ frame_bits (config_of r)
  pub marks : marks_fit (config_of r) (marks_of r.layout.levels r.guest.marks) ≡ true
  pub chosen : chosen_fits r ≡ true
  pub held : (r.guest.held.0 ≡ 0) ⊎ InGuestArea (config_of r) r.guest.held.0
  pub top : Table 0 r.layout.hosts r.pools.host.top
  pub host : PoolFits 0 r.layout.hosts r.pools.host
  pub shadow : PoolFits r.layout.hosts r.layout.shadows r.pools.shadow

held_fits : (c : Config) (f : ℕ) → top_fits c (held_top f) ≡ true → (f ≡ 0) ⊎ InGuestArea c f
held_fits c f = go (eqb f 0) refl
  where
    go : (t : Bool) → eqb f 0 ≡ t → top_fits c (cond t none (some f)) ≡ true → (f ≡ 0) ⊎ InGuestArea c f
    go true q e = inl (eqb-true f 0 q)
    go false q e =
        let x = both (leb (guest_base c) f) (ltb f c.frames) e in
        inr (leb-true (guest_base c) f x.0, ltb-true f c.frames x.1)

fits_held : (c : Config) (f : ℕ) → (f ≡ 0) ⊎ InGuestArea c f → top_fits c (held_top f) ≡ true
fits_held c f o = go (eqb f 0) refl
  where
    go : (t : Bool) → eqb f 0 ≡ t → top_fits c (cond t none (some f)) ≡ true
    go true q = refl
    go false q = elim o [
      | inl e ↦ absurd (eqb-false f 0 q e)
      | inr k ↦ rw (le-leb _ _ k.0, lt-ltb _ _ k.1)
    ]

-- ---- the rule in the order in which it is tested, the marks by their keys

-- the words of a whole number of frames
words_whole : (f : ℕ) → (words_fit (f * 512) ≡ (ltb 0 f && leb f 65536)) × (f * 512 / 512 ≡ f)
words_whole f =
    let none : f * 512 % 512 ≡ 0 = omega arith in
    let free-words : f * 512 / 512 ≡ f = omega arith in
    (rw (eq-eqb _ _ none, free-words), free-words)

-- x, the rule of the choice in the specification's terms, follows from that of the marks (h) and that of its numbers (o)
tested : (n s g h x i o p : Bool) → (h ≡ true → o ≡ true → x ≡ true) → s && true && g && h && x && i && n && o && p ≡ (n && s && g && h && o && (i && p))
tested n s g true x i true p f = rw (f refl refl) (go n s g i)
  where
    go : (n s g i : Bool) → s && true && g && true && true && i && n && true && p ≡ (n && s && g && true && true && (i && p))
    go true true true true = refl
    go true true true false = refl
    go true true false i = refl
    go true false g i = refl
    go false true true true = refl
    go false true true false = refl
    go false true false i = refl
    go false false g i = refl
tested n s g true x i false p f = go n s g x i
  where
    go : (n s g x i : Bool) → s && true && g && true && x && i && n && false && p ≡ (n && s && g && true && false && (i && p))
    go true true true true true = refl
    go true true true true false = refl
    go true true true false i = refl
    go true true false x i = refl
    go true false g x i = refl
    go false true true true true = refl
    go false true true true false = refl
    go false true true false i = refl
    go false true false x i = refl
    go false false g x i = refl
tested n s g false x i o p f = go n s g
  where
    go : (n s g : Bool) → s && true && g && false && x && i && n && o && p ≡ (n && s && g && false && o && (i && p))
    go true true true = refl
    go true true false = refl
    go true false g = refl
    go false true true = refl
    go false true false = refl
    go false false g = refl

-- the rule of the choice in the specification's terms: what its numbers can say, or what else they may not
abbrev says_fit : Record → Bool
says_fit r =
    spec.choice_fits (config_of r) (eqb r.guest.choice.tally.on 1) (marks_of r.layout.levels r.guest.marks)
    (automatic_in r.layout.levels r.guest.choice.tally r.guest.choice.order r.guest.marks.place) (window_in r.layout.levels r.guest.choice.tally r.guest.choice.ring)

pub chosen_says : (r : Record) → keys_fit r.layout.levels (keys_of r.guest.marks) ≡ true → chosen_fits r ≡ true → says_fit r ≡ true
unfolding choice_fits
chosen_says r h o =
    let n = r.layout.levels in
    let x = r.guest.choice in
    let t = x.tally in
    let marks = r.guest.marks in
    let a = both (leb t.on 1 && leb t.count 64 && order_fits marks.place marks.set (take t.count x.order)) (eqb t.on 1 || (eqb t.count 0 && eqb t.charged 0)) o in
    let b = both (leb t.on 1 && leb t.count 64) (order_fits marks.place marks.set (take t.count x.order)) a.0 in
    rw (automatic_fits_lem n marks h (take t.count x.order) b.1, shown_fits (config_of r) t.charged t.at x.ring) (off (eqb t.on 1) a.1)
  where
    off : (on : Bool) → (on || (eqb r.guest.choice.tally.count 0 && eqb r.guest.choice.tally.charged 0)) ≡ true
        → (on || (spec.is_empty (automatic_in r.layout.levels r.guest.choice.tally r.guest.choice.order r.guest.marks.place)
        && spec.all_of spec.uncharged (window_in r.layout.levels r.guest.choice.tally r.guest.choice.ring))) ≡ true
    off true e = refl
    off false e =
        let z = both (eqb r.guest.choice.tally.count 0) (eqb r.guest.choice.tally.charged 0) e in
        rw (eqb-true r.guest.choice.tally.count 0 z.0) (shown_none r.guest.choice.tally.charged r.guest.choice.tally.at _ (eqb-true r.guest.choice.tally.charged 0 z.1))

pub fits_by : (r : Record) (len : ℕ) (b : Bool) → r.guest.marks.set < 2 ^ 64 → choices_fit r.layout ≡ true
    → b
    ≡ (choices_fit r.layout && sizes_fit r.layout len && frame_fits (config_of r) r.guest.root.0
    && keys_fit r.layout.levels (keys_of r.guest.marks) && chosen_fits r && tables_fit r.layout r.guest.held.0 r.pools)
    → b ≡ fits_of r len
unfolding fits_of record_fits sizes_fit tables_fit
fits_by r len b l d e =
    let c = config_of r in
    let w = words_whole r.layout.frames in
    rw (w.0, w.1, eq-eqb r.layout.frames r.layout.frames refl, marks_fit_lem c r.guest.marks l (omega (arith, choices_levels r.layout d)))
    (e ∙ sym (tested (choices_fit r.layout) (eqb len (r.layout.frames * 512) && (ltb 0 r.layout.frames && leb r.layout.frames 65536) && areas_fit c)
    (frame_fits c r.guest.root.0) (keys_fit r.layout.levels (keys_of r.guest.marks)) (says_fit r) (top_fits c (held_top r.guest.held.0)) (chosen_fits r)
    (pools_fit r.layout r.pools) (chosen_says r)))

-- a choice that no opening has breaks the rule
pub fits_choices : (r : Record) (len : ℕ) → choices_fit r.layout ≡ false → fits_of r len ≡ false
unfolding fits_of
fits_choices r len e = rw e (go (record_fits _ len))
  where
    go : (b : Bool) → b && false && chosen_fits r && pools_fit r.layout r.pools ≡ false
    go true = refl
    go false = refl

pub fits_layout : (r : Record) (len : ℕ) → fits_of r len ≡ true → Fits r len
unfolding fits_of record_fits pools_fit choices_fit
fits_layout r len e =
    let c = config_of r in
    let f = r.layout.frames in
    let a = eqb len (f * 512) in
    let b = words_fit (f * 512) in
    let d = areas_fit c in
    let q = eqb f (f * 512 / 512) in
    let g = frame_fits c r.guest.root.0 in
    let h = marks_fit c (marks_of r.layout.levels r.guest.marks) in
    let s = says_fit r in
    let i = top_fits c (held_top r.guest.held.0) in
    let o = chosen_fits r in
    let n = eqb r.layout.levels levels && leb r.layout.bits 1 in
    let x = is_table 0 r.layout.hosts r.pools.host.top in
    let y = pool_fits 0 r.layout.hosts r.pools.host in
    let z = pool_fits r.layout.hosts r.layout.shadows r.pools.shadow in
    let last = both (a && b && d && q && g && h && s && i && n && o) (x && y && z) e in
    let pools = both (x && y) z last.1 in
    let host = both x y pools.0 in
    let xo = both (a && b && d && q && g && h && s && i && n) o last.0 in
    let xn = both (a && b && d && q && g && h && s && i) n xo.0 in
    let chosen = both (eqb r.layout.levels levels) (leb r.layout.bits 1) xn.1 in
    let xi = both (a && b && d && q && g && h && s) i xn.0 in
    let xs = both (a && b && d && q && g && h) s xi.0 in
    let xh = both (a && b && d && q && g) h xs.0 in
    let xg = both (a && b && d && q) g xh.0 in
    let xq = both (a && b && d) q xg.0 in
    let xd = both (a && b) d xq.0 in
    let xb = both a b xd.0 in
    let few = both (ltb 0 f) (leb f 65536) (sym (words_whole f).0 ∙ xb.1) in
    record {
      long = eqb-true len (f * 512) xb.0;
      bits = leb-true r.layout.bits 1 chosen.1;
      sizes = sized r.layout (eqb-true r.layout.levels levels chosen.0) (leb-true f 65536 few.1) xd.1;
      root = ltb-true r.guest.root.0 (2 ^ frame_bits c) xg.1;
      marks = xh.1;
      chosen = xo.1;
      held = held_fits c r.guest.held.0 xi.1;
      top = table_is 0 r.layout.hosts r.pools.host.top host.0;
      host = pool_fits_lem 0 r.layout.hosts r.pools.host host.1;
      shadow = pool_fits_lem r.layout.hosts r.layout.shadows r.pools.shadow pools.1;
    }

-- and the other way round
sized_areas : {l : Layout} → Sized l → areas_fit (config l) ≡ true
sized_areas z = rw (le-leb _ _ z.hosts, le-leb _ _ z.shadows, lt-ltb _ _ z.guest)

pub fits_true : (r : Record) (len : ℕ) → r.guest.marks.set < 2 ^ 64 → Fits r len → fits_of r len ≡ true
unfolding fits_of record_fits pools_fit choices_fit
fits_true r len word f =
    let z = f.sizes in
    let w = words_whole r.layout.frames in
    let some : 0 < r.layout.frames = omega (arith, z.guest) in
    rw (
      eq-eqb _ _ f.long,
      w.0,
      lt-ltb _ _ some,
      le-leb _ _ z.frames,
      sized_areas z,
      w.1,
      eq-eqb r.layout.frames r.layout.frames refl,
      lt-ltb _ _ f.root,
      f.marks,
      chosen_says r (sym (marks_fit_lem (config_of r) r.guest.marks word (omega (arith, z.deep))) ∙ f.marks) f.chosen,
      f.chosen,
      fits_held (config_of r) r.guest.held.0 f.held,
      eq-eqb _ _ z.deep,
      le-leb _ _ f.bits,
      is_table_lem 0 r.layout.hosts r.pools.host.top f.top,
      fits_pool 0 r.layout.hosts r.pools.host f.host,
      fits_pool r.layout.hosts r.layout.shadows r.pools.shadow f.shadow,
    )

-- with another root, with other marks
module _ {r : Record} {len : ℕ} (f : Fits r len) where
  pub fits_root : (g : ℕ) → g < 2 ^ frame_bits (config_of r) → Fits (with_head r (head_root (head_of r) g)) len
  unfolding head_root
  fits_root g l = record {
    long = f.long;
    bits = f.bits;
    sizes = f.sizes;
    root = l;
    marks = f.marks;
    chosen = f.chosen;
    held = f.held;
    top = f.top;
    host = f.host;
    shadow = f.shadow;
  }

  pub fits_marks : (t : Marks) (x : Choice) → marks_fit (config_of r) (marks_of r.layout.levels t) ≡ true → choice_fits x.tally x.order t.place t.set ≡ true
      → Fits (with_marks r t x) len
  unfolding with_marks
  fits_marks t x e o = record {
    long = f.long;
    bits = f.bits;
    sizes = f.sizes;
    root = f.root;
    marks = e;
    chosen = o;
    held = f.held;
    top = f.top;
    host = f.host;
    shadow = f.shadow;
  }

-- the rule of the marks, told by their keys
pub fits_keys : {r : Record} {len : ℕ} → r.guest.marks.set < 2 ^ 64 → Fits r len → keys_fit r.layout.levels (keys_of r.guest.marks) ≡ true
fits_keys {r} l f = sym (marks_fit_lem (config_of r) r.guest.marks l (omega (arith, f.sizes.deep))) ∙ f.marks

-- ---- a record of zeros breaks a rule on every memory
pub zeros_refused : (len : ℕ) → fits_of zeros len ≡ false
unfolding zeros choices_fit
zeros_refused len = fits_choices zeros len refl
