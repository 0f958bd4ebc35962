-- Tables in use, and words read by a lookup, by the list of the paths that have a leaf.
use mathlib.Core.Path.{◌≡◌, refl, sym, ap, ap₂, ◌∙◌, subst}
use mathlib.Core.Logic.{◌≢◌, ◌⊎◌, inl, inr}
use Prim.Native.Nat.{ℕ, suc, ◌+◌, ◌<◌, ◌≤◌}
use native.Mathlib.Omega.{arith}
use mathlib.Core.Bool.{Bool, true, false, cond}
use mathlib.Core.List.{List, [], ◌∷◌}
use mathlib.Core.Option.{Option, none, some, IsSome}
use lib.Dec.{T, eqb, not_T, T_not, eqb→eq, eqb_refl}
use lib.ListN.{length}
use Rattle.spec.specs.Entry.{present, entry_limit}
use Rattle.spec.specs.Prefix.{begins, same, any, cons_all, propers, all_propers, distinct, tables_of}
use Rattle.spec.specs.Machine.{standing}
use Rattle.pool.specs.declared.Area.{Area}
use Rattle.pool.specs.declared.Pool.{Pool}
use Rattle.pool.specs.declared.Way.TheVariants.{Not}
use Rattle.pool.specs.Pool.{end}
use Rattle.area.specs.Tree.{insert_of}
use Rattle.spec_laws.proofs.Lists.{same_is, or_cases, or_left, or_right, and_left, and_right, both, is_true}
use Rattle.spec_laws.proofs.Members.{Of, all_propers_lem, propers_all}
use Rattle.spec_laws.proofs.Distinct.{In, Once, distinct_is, in_head}
use Rattle.area_laws.specs.Run.{words_read}
use Rattle.area_laws.proofs.Change.{eq?, upd, upd_on, upd_at, upd_other, no_empty, is_some}
use Rattle.area_laws.proofs.Paths.{onto, onto_long, turn_turn, turn_empty, turn_none, Pre, Ext, ext_empty, ext_pre, pre_ext, pre_long, Guests}
use Rattle.area_laws.proofs.Invariant.{present_set, Tables, Leaf, none_below}
use Rattle.area_laws.proofs.Find.{on_table, steps, lacks, steps_none, steps_lacks, lacks_leaf}
use Rattle.area_laws.proofs.Whole.{Holds, above_leaf, Fits, Next, holds_insert, holds_full}

-- the list has the paths with a leaf, from the top
abbrev pub Lists : (List ℕ → ℕ) → List (List ℕ) → Type 0
Lists lv xs = (y : List ℕ) → (In (onto [] y) xs → lv y ≢ 0) × (lv y ≢ 0 → In (onto [] y) xs)

-- ---- proper prefixes, from the top and last index first
in_cons : (x : ℕ) (q : List ℕ) (xs : List (List ℕ)) → In q xs → In (x ∷ q) (cons_all x xs)
in_cons x q [] h = h
in_cons x q (p ∷ xs) h = elim (or_cases (same q p) (any (same q) xs) h) [
  | inl a ↦ in_head (x ∷ q) (x ∷ p) (cons_all x xs) (ap (λ z. x ∷ z) (same_is q p a))
  | inr a ↦ or_right (same (x ∷ q) (x ∷ p)) _ (in_cons x q xs a)
]

record Rest (x : ℕ) (xs : List (List ℕ)) (q : List ℕ) : Type 0 where
  pub rest : List ℕ
  pub whole : q ≡ x ∷ rest
  pub inside : In rest xs

cons_in : (x : ℕ) (q : List ℕ) (xs : List (List ℕ)) → In q (cons_all x xs) → Rest x xs q
cons_in x q [] h = absurd h
cons_in x q (p ∷ xs) h = elim (or_cases (same q (x ∷ p)) (any (same q) (cons_all x xs)) h) [
  | inl a ↦ record { rest = p; whole = same_is q (x ∷ p) a; inside = in_head p p xs refl }
  | inr a ↦ more (cons_in x q xs a)
]
  where
    more : Rest x xs q → Rest x (p ∷ xs) q
    more t = record { rest = t.rest; whole = t.whole; inside = or_right (same t.rest p) _ t.inside }

propers_pre : (q is x : List ℕ) → In q (propers is) → Pre (onto x q) x is
unfolding onto
propers_pre q [] x h = absurd h
propers_pre q (i ∷ is) x h = elim (or_cases (same q []) (any (same q) (cons_all i (propers is))) h) [
  | inl a ↦ inl (ap (onto x) (same_is q [] a))
  | inr a ↦ (let t = cons_in i q (propers is) a in inr (subst (λ z. Pre (onto x z) (i ∷ x) is) (sym t.whole) (propers_pre t.rest is (i ∷ x) t.inside)))
]

record Prefix (y x is : List ℕ) : Type 0 where
  pub turned : List ℕ
  pub whole : y ≡ onto x turned
  pub inside : In turned (propers is)

pre_propers : (y is x : List ℕ) → Pre y x is → Prefix y x is
unfolding onto
pre_propers y [] x h = absurd h
pre_propers y (i ∷ is) x (inl e) = record { turned = []; whole = e; inside = tt }
pre_propers y (i ∷ is) x (inr h) =
    let t = pre_propers y is (i ∷ x) h in
    record { turned = i ∷ t.turned; whole = t.whole; inside = in_cons i t.turned (propers is) t.inside }

pub propers_ext : (q is : List ℕ) → In q (propers is) → Ext (onto [] q) (onto [] is)
propers_ext q is h = pre_ext (onto [] q) [] is (propers_pre q is [] h)

pub ext_propers : (y is : List ℕ) → Ext y (onto [] is) → In (onto [] y) (propers is)
ext_propers y is h = elim (ext_pre y [] is h) [
  | inl a ↦ absurd a
  | inr a ↦ (let t = pre_propers y is [] a in subst (λ z. In z (propers is)) (sym (ap (onto []) t.whole ∙ turn_turn t.turned)) t.inside)
]

-- ---- a list of prefixes turned round
unfoldable turned : List (List ℕ) → List (List ℕ)
turned [] = []
turned (x ∷ xs) = onto [] x ∷ turned xs

turned_long : (xs : List (List ℕ)) → length (turned xs) ≡ length xs
unfolding turned
turned_long [] = refl
turned_long (x ∷ xs) = ap suc (turned_long xs)

turned_in : (q : List ℕ) (xs : List (List ℕ)) → In q (turned xs) → In (onto [] q) xs
unfolding turned
turned_in q [] h = h
turned_in q (x ∷ xs) h = elim (or_cases (same q (onto [] x)) (any (same q) (turned xs)) h) [
  | inl a ↦ in_head (onto [] q) x xs (ap (onto []) (same_is q (onto [] x) a) ∙ turn_turn x)
  | inr a ↦ or_right (same (onto [] q) x) _ (turned_in q xs a)
]

in_turned : (y : List ℕ) (xs : List (List ℕ)) → In y xs → In (onto [] y) (turned xs)
unfolding turned
in_turned y [] h = h
in_turned y (x ∷ xs) h = elim (or_cases (same y x) (any (same y) xs) h) [
  | inl a ↦ in_head (onto [] y) (onto [] x) (turned xs) (ap (onto []) (same_is y x a))
  | inr a ↦ or_right (same (onto [] y) (onto [] x)) _ (in_turned y xs a)
]

turned_once : (xs : List (List ℕ)) → Once xs → Once (turned xs)
unfolding turned
turned_once [] o = tt
turned_once (x ∷ xs) o = (
  not_T (any (same (onto [] x)) (turned xs)) (λ h. T_not (any (same x) xs) o.0 (subst (λ z. In z xs) (turn_turn x) (turned_in (onto [] x) xs h))),
  turned_once xs o.1,
)

-- the count of different proper prefixes, by a list of them that holds each once, last index first
by_prefixes : (qs : List (List ℕ)) (ps : List (List ℕ)) → Once ps → ((y : List ℕ) → In y ps → In (onto [] y) qs) → ((q : List ℕ) → In q qs → In (onto [] q) ps)
    → distinct qs ≡ length ps
by_prefixes qs ps o f g =
    distinct_is qs (turned ps) (turned_once ps o) (λ q h. subst (λ z. In z qs) (turn_turn q) (f (onto [] q) (turned_in q ps h)))
    (λ q h. subst (λ z. In z (turned ps)) (turn_turn q) (in_turned (onto [] q) ps (g q h)))
    ∙ turned_long ps

-- ---- the missing prefixes put before the list of those that stand
unfoldable added : (List ℕ → Option ℕ) → List ℕ → List ℕ → List (List ℕ) → List (List ℕ)
added ts x [] ps = ps
added ts x (i ∷ is) ps = on_table (ts x) (x ∷ added ts (i ∷ x) is ps) (added ts (i ∷ x) is ps)

module _ (ts : List ℕ → Option ℕ) (ps : List (List ℕ)) (once : Once ps) (stand : (q : List ℕ) → (In q ps → IsSome (ts q)) × (IsSome (ts q) → In q ps)) where
  added_long : (x is : List ℕ) → length (added ts x is ps) ≡ length ps + lacks ts x is
  unfolding added lacks
  added_long x [] = omega arith
  added_long x (i ∷ is) = go (ts x) (added_long (i ∷ x) is)
    where
      go : (o : Option ℕ) → length (added ts (i ∷ x) is ps) ≡ length ps + lacks ts (i ∷ x) is
          → length (on_table o (x ∷ added ts (i ∷ x) is ps) (added ts (i ∷ x) is ps)) ≡ length ps + (on_table o 1 0 + lacks ts (i ∷ x) is)
      go none ih = omega arith
      go (some f) ih = omega arith

  added_from : (y x is : List ℕ) → In y (added ts x is ps) → In y ps ⊎ Pre y x is
  unfolding added
  added_from y x [] h = inl h
  added_from y x (i ∷ is) h = go (ts x) h (added_from y (i ∷ x) is)
    where
      up : In y ps ⊎ Pre y (i ∷ x) is → In y ps ⊎ ((y ≡ x) ⊎ Pre y (i ∷ x) is)
      up (inl a) = inl a
      up (inr a) = inr (inr a)

      go : (o : Option ℕ) → In y (on_table o (x ∷ added ts (i ∷ x) is ps) (added ts (i ∷ x) is ps)) → (In y (added ts (i ∷ x) is ps) → In y ps ⊎ Pre y (i ∷ x) is)
          → In y ps ⊎ ((y ≡ x) ⊎ Pre y (i ∷ x) is)
      go none k ih = elim (or_cases (same y x) (any (same y) (added ts (i ∷ x) is ps)) k) [ inl a ↦ inr (inl (same_is y x a)) | inr a ↦ up (ih a) ]
      go (some f) k ih = up (ih k)

  added_to : (y x is : List ℕ) → In y ps ⊎ Pre y x is → In y (added ts x is ps)
  unfolding added
  added_to y x [] (inl h) = h
  added_to y x [] (inr h) = absurd h
  added_to y x (i ∷ is) h = go (ts x) refl h (added_to y (i ∷ x) is)
    where
      go : (o : Option ℕ) → ts x ≡ o → In y ps ⊎ ((y ≡ x) ⊎ Pre y (i ∷ x) is) → (In y ps ⊎ Pre y (i ∷ x) is → In y (added ts (i ∷ x) is ps))
          → In y (on_table o (x ∷ added ts (i ∷ x) is ps) (added ts (i ∷ x) is ps))
      go none e (inl k) ih = or_right (same y x) _ (ih (inl k))
      go none e (inr (inl k)) ih = in_head y x (added ts (i ∷ x) is ps) k
      go none e (inr (inr k)) ih = or_right (same y x) _ (ih (inr k))
      go (some f) e (inl k) ih = ih (inl k)
      go (some f) e (inr (inl k)) ih = ih (inl ((stand y).1 (is_some (ap ts k ∙ e))))
      go (some f) e (inr (inr k)) ih = ih (inr k)

  added_once : (x is : List ℕ) → Once (added ts x is ps)
  unfolding added
  added_once x [] = once
  added_once x (i ∷ is) = go (ts x) refl (added_once (i ∷ x) is)
    where
      go : (o : Option ℕ) → ts x ≡ o → Once (added ts (i ∷ x) is ps) → Once (on_table o (x ∷ added ts (i ∷ x) is ps) (added ts (i ∷ x) is ps))
      go (some f) e ih = ih
      go none e ih = (
        not_T (any (same x) (added ts (i ∷ x) is ps)) (λ h. elim (added_from x (i ∷ x) is h) [
          | inl a ↦ subst IsSome e ((stand x).0 a)
          | inr a ↦ (let u = pre_long x (i ∷ x) is a in omega arith)
        ]),
        ih,
      )

module _ {a : Area} {stays : Bool} {p : Pool} {m : List ℕ} {lv guest : List ℕ → ℕ} (h : Holds a stays p m lv guest) where
  -- ---- tables in use: one for each different proper prefix, and for the empty one also without a path where the top table stays
  pub used_is : (xs : List (List ℕ)) → Lists lv xs → p.used ≡ distinct (cond stays ([] ∷ all_propers xs) (all_propers xs))
  unfolding onto
  used_is xs l = h.tables.used ∙ sym (by_prefixes (cond stays ([] ∷ all_propers xs) (all_propers xs)) h.pres h.tables.once from to)
    where
      in_some : (t : Bool) (q : List ℕ) (qs : List (List ℕ)) → In q qs → In q (cond t ([] ∷ qs) qs)
      in_some true q qs k = or_right (same q []) _ k
      in_some false q qs k = k

      in_top : (t : Bool) (qs : List (List ℕ)) → T t → In [] (cond t ([] ∷ qs) qs)
      in_top true qs k = tt
      in_top false qs k = absurd k

      in_out : (t : Bool) (q : List ℕ) (qs : List (List ℕ)) → In q (cond t ([] ∷ qs) qs) → In q qs ⊎ ((q ≡ []) × T t)
      in_out true q qs k = elim (or_cases (same q []) (any (same q) qs) k) [ inl c ↦ inr (same_is q [] c, tt) | inr c ↦ inl c ]
      in_out false q qs k = inl k

      from : (y : List ℕ) → In y h.pres → In (onto [] y) (cond stays ([] ∷ all_propers xs) (all_propers xs))
      from y k = elim (h.exact y ((h.tables.stand y).0 k)) [
        | inl r ↦ in_some stays (onto [] y) (all_propers xs) (propers_all (onto [] y) (onto [] r.path) xs ((l r.path).1 r.set)
            (ext_propers y (onto [] r.path) (subst (Ext y) (sym (turn_turn r.path)) r.under)))
        | inr r ↦ subst (λ z. In (onto [] z) (cond stays ([] ∷ all_propers xs) (all_propers xs))) (sym r.0) (in_top stays (all_propers xs) r.1)
      ]

      to : (q : List ℕ) → In q (cond stays ([] ∷ all_propers xs) (all_propers xs)) → In (onto [] q) h.pres
      to q k = elim (in_out stays q (all_propers xs) k) [
        | inl c ↦ (let t = all_propers_lem q xs c in (h.tables.stand (onto [] q)).1 (above_leaf h (onto [] q) (record {
          path = onto [] t.path;
          under = propers_ext q t.path t.proper;
          set = (l (onto [] t.path)).0 (subst (λ z. In z xs) (sym (turn_turn t.path)) t.listed);
        })))
        | inr c ↦ (h.tables.stand (onto [] q)).1 (subst (λ z. IsSome (h.tabs (onto [] z))) (sym c.0) (h.top c.1))
      ]

  -- the top table does not stay: exactly the different proper prefixes
  pub used_all : (xs : List (List ℕ)) → Lists lv xs → stays ≡ false → p.used ≡ tables_of xs
  used_all xs l e = used_is xs l ∙ ap (λ t. distinct (cond t ([] ∷ all_propers xs) (all_propers xs))) e

  -- the same wherever there is a path: then the empty prefix is among those of the paths
  pub used_some : (w : List ℕ) (xs : List (List ℕ)) → Lists lv xs → In w xs → p.used ≡ tables_of xs
  unfolding onto
  used_some w xs l k = used_is xs l ∙ go stays (top w k)
    where
      top : (v : List ℕ) → In v xs → In [] (all_propers xs)
      top [] i = absurd ((l []).0 i h.tables.root)
      top (j ∷ v) i = propers_all [] (j ∷ v) xs i tt

      go : (t : Bool) → In [] (all_propers xs) → distinct (cond t ([] ∷ all_propers xs) (all_propers xs)) ≡ tables_of xs
      go false i = refl
      go true i = ap (λ z. cond z 0 1 + tables_of xs) (is_true (any (same []) (all_propers xs)) i) ∙ omega arith

  -- without a path only a top table that stays
  pub used_none : Lists lv [] → p.used ≡ cond stays 1 0
  used_none l = used_is [] l ∙ go stays
    where
      go : (t : Bool) → distinct (cond t ([] ∷ []) []) ≡ cond t 1 0
      go true = refl
      go false = refl

  -- ---- with one more path: those in use and those that it lacks, whether the top table stays or not
  pub room_is : (is : List ℕ) (e : ℕ) (ys : List (List ℕ)) → 0 < length is → e ≢ 0 → Lists (upd lv (onto [] is) e) ys → tables_of ys ≡ p.used + lacks h.tabs [] is
  room_is is e ys nonempty set l =
      by_prefixes (all_propers ys) (added h.tabs [] is h.pres) (added_once h.tabs h.pres h.tables.once h.tables.stand [] is) from to
      ∙ added_long h.tabs h.pres h.tables.once h.tables.stand [] is ∙ ap (λ n. n + lacks h.tabs [] is) (sym h.tables.used)
    where
      z : List ℕ
      z = onto [] is

      listed : (y : List ℕ) → upd lv z e y ≢ 0 → (q : List ℕ) → Ext q y → In (onto [] q) (all_propers ys)
      listed y k q x = propers_all (onto [] q) (onto [] y) ys ((l y).1 k) (ext_propers q (onto [] y) (subst (Ext q) (sym (turn_turn y)) x))

      there : upd lv z e z ≢ 0
      there q = set (sym (upd_at lv z e) ∙ q)

      old : (y : List ℕ) → lv y ≢ 0 → upd lv z e y ≢ 0
      old y k = go (eq? z y)
        where
          go : Dec (z ≡ y) → upd lv z e y ≢ 0
          go (yes q) = λ c. set (sym (upd_on lv z e y q) ∙ c)
          go (no q) = λ c. k (sym (upd_other lv z e y q) ∙ c)

      from : (y : List ℕ) → In y (added h.tabs [] is h.pres) → In (onto [] y) (all_propers ys)
      from y k = elim (added_from h.tabs h.pres h.tables.once h.tables.stand y [] is k) [
        | inl c ↦ elim (h.exact y ((h.tables.stand y).0 c)) [
          | inl r ↦ listed r.path (old r.path r.set) y r.under
          | inr r ↦ listed z there y (subst (λ v. Ext v z) (sym r.0) (elim (ext_empty z) [ inl q ↦ absurd (let u = ap length q in let n = onto_long [] is in omega arith) | inr q ↦ q ]))
        ]
        | inr c ↦ listed z there y (pre_ext y [] is c)
      ]

      add : (y : List ℕ) → In y h.pres ⊎ Pre y [] is → In y (added h.tabs [] is h.pres)
      add y k = added_to h.tabs h.pres h.tables.once h.tables.stand y [] is k

      -- a prefix of a path that is listed stands, or is one of the new path
      to : (q : List ℕ) → In q (all_propers ys) → In (onto [] q) (added h.tabs [] is h.pres)
      to q k = go (eq? z w)
        where
          t : Of q ys
          t = all_propers_lem q ys k

          w : List ℕ
          w = onto [] t.path

          under : Ext (onto [] q) w
          under = propers_ext q t.path t.proper

          leaf : upd lv z e w ≢ 0
          leaf = (l w).0 (subst (λ v. In v ys) (sym (turn_turn t.path)) t.listed)

          go : Dec (z ≡ w) → In (onto [] q) (added h.tabs [] is h.pres)
          go (yes c) = add (onto [] q) (elim (ext_pre (onto [] q) [] is (subst (Ext (onto [] q)) (sym c) under)) [ inl v ↦ absurd v | inr v ↦ inr v ])
          go (no c) = add (onto [] q) (inl ((h.tables.stand (onto [] q)).1 (above_leaf h (onto [] q) (record {
            path = w;
            under = under;
            set = λ v. leaf (upd_other lv z e w c ∙ v);
          }))))

  -- ---- the same for an insert, by the list of the paths with the new one: done exactly if their different proper prefixes are no
  -- more than the frames
  module _ (is : List ℕ) (e : ℕ) (f : Fits a lv is) (set : present e ≡ true) (ys : List (List ℕ)) (l : Lists (upd lv (onto [] is) e) ys) where
    pub needs_is : tables_of ys ≡ p.used + lacks h.tabs [] is
    needs_is = room_is is e ys f.nonempty (present_set e set) l

    pub insert_next : (gs : List ℕ) → Guests guest gs 0 [] is → e < entry_limit → tables_of ys ≤ a.size
        → Next a stays p m (upd lv (onto [] is) e) guest (insert_of a gs p m is e)
    insert_next gs gg thin r = holds_insert h gs is e f gg thin set (rw needs_is at r)

    pub insert_not : (gs : List ℕ) → Guests guest gs 0 [] is → a.size < tables_of ys → insert_of a gs p m is e ≡ end p Not m
    insert_not gs gg r = holds_full h gs is e f gg (rw needs_is at r)

-- ---- words read: one for each table on the way
-- how many of the prefixes pass the test
unfoldable pub tally : (List ℕ → Bool) → List (List ℕ) → ℕ
tally f [] = 0
tally f (q ∷ qs) = cond (f q) 1 0 + tally f qs

pub standing_tally : (qs ps : List (List ℕ)) → standing qs ps ≡ tally (λ q. any (begins q) ps) qs
unfolding tally
standing_tally [] ps = refl
standing_tally (q ∷ qs) ps = ap (λ n. cond (any (begins q) ps) 1 0 + n) (standing_tally qs ps)

tally_cons : (f : List ℕ → Bool) (i : ℕ) (qs : List (List ℕ)) → tally f (cons_all i qs) ≡ tally (λ q. f (i ∷ q)) qs
unfolding tally
tally_cons f i [] = refl
tally_cons f i (q ∷ qs) = ap (λ n. cond (f (i ∷ q)) 1 0 + n) (tally_cons f i qs)

tally_more : (f : List ℕ → Bool) (q : List ℕ) (qs : List (List ℕ)) → tally f (q ∷ qs) ≡ cond (f q) 1 0 + tally f qs
unfolding tally
tally_more f q qs = refl

-- the tests agree on the prefixes
pub tally_same : (f k : List ℕ → Bool) (qs : List (List ℕ)) → ((q : List ℕ) → In q qs → f q ≡ k q) → tally f qs ≡ tally k qs
unfolding tally
tally_same f k [] e = refl
tally_same f k (q ∷ qs) e =
    ap₂ (λ t n. cond t 1 0 + n) (e q (in_head q q qs refl)) (tally_same f k qs (λ r i. e r (or_right (same r q) _ i)))

abbrev stands : Option ℕ → Bool
stands none = false
stands (some f) = true

module _ {a : Area} {p : Pool} {ts : List ℕ → Option ℕ} {lv guest : List ℕ → ℕ} {fl : List ℕ} {ps : List (List ℕ)} {m : List ℕ}
    (g : Tables a p ts lv guest fl ps m) where
  steps_tally : (x is : List ℕ) → steps ts x is ≡ tally (λ q. stands (ts (onto x q))) (propers is)
  unfolding steps tally onto
  steps_tally x [] = refl
  steps_tally x (i ∷ is) = go (ts x) refl (tally_cons (λ q. stands (ts (onto x q))) i (propers is) ∙ sym (steps_tally (i ∷ x) is))
    where
      go : (o : Option ℕ) → ts x ≡ o → tally (λ q. stands (ts (onto x q))) (cons_all i (propers is)) ≡ steps ts (i ∷ x) is
          → on_table o 0 (1 + steps ts (i ∷ x) is) ≡ cond (stands o) 1 0 + tally (λ q. stands (ts (onto x q))) (cons_all i (propers is))
      go none e rest = let k = steps_none ts (i ∷ x) is (none_below g i x e) in omega arith
      go (some f) e rest = omega arith

-- a prefix of a path, as the specification tests it
pub propers_begins : (q is : List ℕ) → In q (propers is) → T (begins q is)
propers_begins q [] h = absurd h
propers_begins q (i ∷ is) h = elim (or_cases (same q []) (any (same q) (cons_all i (propers is))) h) [
  | inl a ↦ subst (λ z. T (begins z (i ∷ is))) (sym (same_is q [] a)) tt
  | inr a ↦ (let t = cons_in i q (propers is) a in
      subst (λ z. T (begins z (i ∷ is))) (sym t.whole) (both (eqb i i) (begins t.rest is) (eqb_refl i) (propers_begins t.rest is t.inside)))
]

pub begins_propers : (q is : List ℕ) → T (begins q is) → (q ≡ is) ⊎ In q (propers is)
begins_propers [] [] h = inl refl
begins_propers [] (i ∷ is) h = inr tt
begins_propers (x ∷ q) [] h = absurd h
begins_propers (x ∷ q) (i ∷ is) h =
    let e : x ≡ i = eqb→eq x i (and_left (eqb x i) (begins q is) h) in
    elim (begins_propers q is (and_right (eqb x i) (begins q is) h)) [
      | inl a ↦ inl (ap₂ (λ b l. b ∷ l) e a)
      | inr a ↦ inr (subst (λ z. In (z ∷ q) (propers (i ∷ is))) (sym e) (in_cons i q (propers is) a))
    ]

record Found (f : List ℕ → Bool) (xs : List (List ℕ)) : Type 0 where
  pub path : List ℕ
  pub listed : In path xs
  pub passes : T (f path)

any_found : (f : List ℕ → Bool) (xs : List (List ℕ)) → T (any f xs) → Found f xs
any_found f [] h = absurd h
any_found f (x ∷ xs) h = elim (or_cases (f x) (any f xs) h) [
  | inl a ↦ record { path = x; listed = in_head x x xs refl; passes = a }
  | inr a ↦ (let t = any_found f xs a in record { path = t.path; listed = or_right (same t.path x) _ t.listed; passes = t.passes })
]

found_any : (f : List ℕ → Bool) (w : List ℕ) (xs : List (List ℕ)) → In w xs → T (f w) → T (any f xs)
found_any f w [] h k = h
found_any f w (x ∷ xs) h k = elim (or_cases (same w x) (any (same w) xs) h) [
  | inl a ↦ or_left (f x) _ (subst (λ z. T (f z)) (same_is w x a) k)
  | inr a ↦ or_right (f x) _ (found_any f w xs a k)
]

module _ {a : Area} {stays : Bool} {p : Pool} {m : List ℕ} {lv guest : List ℕ → ℕ} (h : Holds a stays p m lv guest) (is : List ℕ) (f : Fits a lv is) where
  -- at a leaf, one word for each index
  pub reads_leaf_lem : lv (onto [] is) ≢ 0 → steps h.tabs [] is ≡ length is
  reads_leaf_lem set = let k = steps_lacks h.tables [] is in let n = lacks_leaf h.tables [] is set in omega arith

  module _ (xs : List (List ℕ)) (l : Lists lv xs) where
    -- a prefix stands exactly if a listed path begins with it
    tested : (q : List ℕ) → In q (propers is) → ((q ≡ []) × T stays → ⊥) → stands (h.tabs (onto [] q)) ≡ any (begins q) xs
    tested q k n = go (h.tabs (onto [] q)) refl (any (begins q) xs) refl
      where
        there : (w : List ℕ) → In w xs → lv (onto [] w) ≢ 0
        there w i = (l (onto [] w)).0 (subst (λ z. In z xs) (sym (turn_turn w)) i)

        above : Found (begins q) xs → IsSome (h.tabs (onto [] q))
        above t = elim (begins_propers q t.path t.passes) [
          | inl e ↦ absurd (there q (subst (λ z. In z xs) (sym e) t.listed) ((f.apart (onto [] q)).0 (propers_ext q is k)))
          | inr e ↦ above_leaf h (onto [] q) (record { path = onto [] t.path; under = propers_ext q t.path e; set = there t.path t.listed })
        ]

        begun : Leaf lv (onto [] q) ⊎ ((onto [] q ≡ []) × T stays) → T (any (begins q) xs)
        begun (inl r) = found_any (begins q) (onto [] r.path) xs ((l r.path).1 r.set)
            (propers_begins q (onto [] r.path) (subst (λ z. In z (propers (onto [] r.path))) (turn_turn q)
            (ext_propers (onto [] q) (onto [] r.path) (subst (Ext (onto [] q)) (sym (turn_turn r.path)) r.under))))
        begun (inr r) = absurd (n (turn_none q r.0, r.1))

        go : (o : Option ℕ) → h.tabs (onto [] q) ≡ o → (t : Bool) → any (begins q) xs ≡ t → stands o ≡ t
        go none e true c = absurd (subst IsSome e (above (any_found (begins q) xs (subst T (sym c) tt))))
        go none e false c = refl
        go (some d) e true c = refl
        go (some d) e false c = absurd (subst T c (begun (h.exact (onto [] q) (is_some e))))

    pub reads_is : steps h.tabs [] is ≡ words_read stays xs is
    reads_is = steps_tally h.tables [] is ∙ go stays refl is refl
      where
        F : List ℕ → Bool
        F q = stands (h.tabs (onto [] q))

        go : (t : Bool) → stays ≡ t → (js : List ℕ) → is ≡ js → tally F (propers js) ≡ words_read t xs js
        go false e js c = tally_same F (λ q. any (begins q) xs) (propers js) (λ q k. tested q (subst (λ z. In q (propers z)) (sym c) k) (λ n. subst T e n.1)) ∙ sym (standing_tally (propers js) xs)
        go true e [] c = absurd (let u = ap length c in omega (arith, f.nonempty))
        go true e (j ∷ js) c = first
          where
            top : F [] ≡ true
            top = seen (h.tabs (onto [] [])) (subst (λ z. IsSome (h.tabs z)) (sym turn_empty) (h.top (subst T (sym e) tt)))
              where
                seen : (o : Option ℕ) → IsSome o → stands o ≡ true
                seen none k = absurd k
                seen (some d) k = refl

            first : tally F ([] ∷ cons_all j (propers js)) ≡ 1 + standing (cons_all j (propers js)) xs
            first = tally_more F [] (cons_all j (propers js)) ∙ ap₂ (λ t n. cond t 1 0 + n) top
                (tally_same F (λ q. any (begins q) xs) (cons_all j (propers js)) (λ q k. tested q (subst (λ z. In q (propers z)) (sym c) (or_right (same q []) _ k))
                (λ n. no_empty j (cons_in j q (propers js) k).rest (sym (cons_in j q (propers js) k).whole ∙ n.0))) ∙ sym (standing_tally (cons_all j (propers js)) xs))
