-- What a store is charged to by the shadow tables is what the book charges it to.
-- A path or prefix of a table is written last index first, a held path from the top.
-- Assumes nothing.
use mathlib.Core.Path.{◌≡◌, refl, sym, ap, ap₂, ◌∙◌, subst}
use mathlib.Core.Logic.{◌≢◌, ◌⊎◌, inl, inr}
use Prim.Native.Nat.{ℕ, zero, suc, ◌+◌, ◌-◌, ◌*◌, ◌/◌, ◌%◌, ◌^◌, ◌<◌, ◌≤◌}
use native.Mathlib.Omega.{arith}
use native.Mathlib.Decide.{ℕ_discrete}
use mathlib.Core.Bool.{Bool, true, false, ◌&&◌, ◌||◌, cond, or-false}
use mathlib.Core.List.{List, [], ◌∷◌, ◌++◌, append_assoc, append-nil}
use mathlib.Core.Option.{Option, none, some, IsSome}
use lib.Dec.{T, eqb, eqb→eq, eqb_refl, ltb}
use lib.ListN.{length, take, drop, length-append, drop_of_length-le}
use lib.Pow.{pow-add}
use lib.Seq.{take_at, drop_at}
use borrow.Author.Tests.{eq-eqb, eqb-true}
use Rattle.spec.specs.Config.{Config}
use Rattle.spec.specs.Entry.{present, index, indexes}
use Rattle.spec.specs.Plain.{Lead, is_span}
use Rattle.spec.specs.Prefix.{same, any, keep, All}
use Rattle.spec.specs.Walk.{granted}
use Rattle.spec.specs.Book.{Held}
use Rattle.spec.specs.Choice.{better, first_of, lower, reads_leaf, leaf_prefixes, charge_of}
use Rattle.spec_laws.proofs.Lists.{all_map, all_both, all_keep, same_is, same_refl, is_true, and_left, and_right, both, or_cases, or_left, or_right}
use Rattle.spec_laws.proofs.Indexes.{indexes_split}
use Rattle.spec_laws.proofs.Granted.{level_reads}
use Rattle.spec_laws.proofs.Large.{level_most}
use Rattle.spec_laws.proofs.Trail.{reads_from, Spans}
use Rattle.spec_laws.proofs.Charges.{IfSome, first_has, leaf_all}
use Rattle.spec_laws.proofs.Least.{prefixes, prefix_of, lowest_is, Within, least_same}
use Rattle.pool.specs.declared.Pool.{Pool}
use Rattle.pool.specs.Header.{guest_of, level_of, parent_of, entry_at_of}
use Rattle.area_laws.proofs.Change.{differ}
use Rattle.area_laws.proofs.Paths.{onto, onto_long, turn_turn, turn_empty, Small}
use Rattle.area_laws.proofs.Invariant.{slot, inside_is, present_set, above, none_last, frame_small}
use Rattle.area_laws.proofs.Whole.{Holds, above_leaf}
use Rattle.shadow.specs.Held.{shadow_area}
use Rattle.charge.specs.declared.Prefix.{Prefix}
use Rattle.charge.specs.declared.Prefix.TheVariants.{Is, Damaged}
use Rattle.charge.specs.declared.Charge.{Charge}
use Rattle.charge.specs.declared.Charge.TheVariants.{Nobody, To}
use Rattle.charge.specs.Charge as charge
use Rattle.charge.specs.Charge.{ends_at, lower_by, charge_by, visit_of, charged_from, charged_of}
use Rattle.drops_laws.proofs.Held.{leaf_at, HeldEntry, HeldEntries, leaf_any, any_leaf, no_span}

-- ---- prefixes as numbers, 9 bits for each index
abbrev number_of : List ℕ → ℕ
number_of [] = 0
number_of (i ∷ x) = number_of x * 512 + i

number_small : (x : List ℕ) → Small x → number_of x < 2 ^ (9 * length x)
number_small [] s = omega arith
number_small (i ∷ x) s =
    let k : 9 * length (i ∷ x) ≡ 9 + 9 * length x = omega arith in
    let n = number_small x s.1 in
    rw (k, pow-add 2 9 (9 * length x)) (omega arith)

onto_end : (x is : List ℕ) → onto x is ≡ onto [] is ++ x
unfolding onto
onto_end x [] = refl
onto_end x (i ∷ is) = onto_end (i ∷ x) is ∙ sym (ap (λ z. z ++ x) (onto_end (i ∷ []) is) ∙ append_assoc (onto [] is) (i ∷ []) x)

turn_last : (j : ℕ) (x : List ℕ) → onto [] (j ∷ x) ≡ onto [] x ++ j ∷ []
unfolding onto
turn_last j x = onto_end (j ∷ []) x

-- they are the indexes of that number
number_indexes : (x : List ℕ) → Small x → indexes (length x) (number_of x) ≡ onto [] x
unfolding indexes index
number_indexes [] s = sym turn_empty
number_indexes (j ∷ x) s =
    let k : length (j ∷ x) ≡ length x + 1 = omega arith in
    let high : (number_of x * 512 + j) / 2 ^ (9 * 1) ≡ number_of x = omega (arith, s.0) in
    let low : (number_of x * 512 + j) / 2 ^ (9 * 0) % 512 ≡ j = omega (arith, s.0) in
    ap (λ n. indexes n (number_of x * 512 + j)) k ∙ indexes_split (length x) 1 (number_of x * 512 + j)
    ∙ ap₂ (λ a b. a ++ b) (ap (indexes (length x)) high ∙ number_indexes x s.1) (ap (λ i. i ∷ []) low) ∙ sym (turn_last j x)

abbrev numbers : List (List ℕ) → List ℕ
numbers [] = []
numbers (p ∷ ps) = number_of (onto [] p) ∷ numbers ps

numbers_are : (k : ℕ) (ps : List (List ℕ)) → All (λ p. indexes k (number_of (onto [] p)) ≡ p) ps → prefixes k (numbers ps) ≡ ps
numbers_are k [] a = refl
numbers_are k (p ∷ ps) a = ap₂ (λ x xs. x ∷ xs) a.0 (numbers_are k ps a.1)

numbers_all : (P : ℕ → Type 0) (ps : List (List ℕ)) → All (λ p. P (number_of (onto [] p))) ps → All P (numbers ps)
numbers_all P [] a = tt
numbers_all P (p ∷ ps) a = (a.0, numbers_all P ps a.1)

-- ---- the level 1 word of a path

module _ (c : Config) (F : List ℕ → ℕ) where
  reads_split : (is js q : List ℕ) → reads_from c F q (is ++ js) ≡ reads_from c F q is ++ reads_from c F (onto q is) js
  unfolding onto
  reads_split [] js q = refl
  reads_split (i ∷ is) js q =
      ap (λ rs. level_reads c (F q) i ++ rs) (reads_split is js (i ∷ q)) ∙ sym (append_assoc (level_reads c (F q) i) (reads_from c F (i ∷ q) is) (reads_from c F (onto (i ∷ q) is) js))

  -- a word for each index at most, and just that many where a path ends above the page and in no span
  reads_most : (is q : List ℕ) → length (reads_from c F q is) ≤ length is
  reads_most [] q = omega arith
  reads_most (i ∷ is) q = omega (arith, length-append (level_reads c (F q) i) (reads_from c F (i ∷ q) is), level_most c (F q) i, reads_most is (i ∷ q))

  reads_all : Spans c F → (is q : List ℕ) → length q + length is < c.levels → is_span c (F (onto q is)) ≡ false
      → (is_span c (F q) ≡ false) × (length (reads_from c F q is) ≡ length is)
  unfolding onto
  reads_all s [] q l o = (o, refl)
  reads_all s (i ∷ is) q l o =
      let ih = reads_all s is (i ∷ q) (omega (arith, l)) o in
      let real = go (is_span c (F q)) refl ih.0 in
      let one : length (level_reads c (F q) i) ≡ 1 = ap (λ b. length (cond {A = List (ℕ × ℕ)} b [] ((F q, i) ∷ []))) real in
      (real, omega (arith, length-append (level_reads c (F q) i) (reads_from c F (i ∷ q) is), one, ih.1))
    where
      go : (b : Bool) → is_span c (F q) ≡ b → is_span c (F (i ∷ q)) ≡ false → is_span c (F q) ≡ false
      go true e o = differ (sym (s i q (omega (arith, l)) e) ∙ o)
      go false e o = e

-- a held path of N indexes: the last of them, and the prefix before it
module _ (c : Config) (h : Held) (j : ℕ) (x : List ℕ) (ends : onto [] h.path ≡ j ∷ x) (long : suc (length x) ≡ c.levels) where
  whole : h.path ≡ onto [] x ++ j ∷ []
  whole = sym (turn_turn h.path) ∙ ap (onto []) ends ∙ turn_last j x

  all_but : length (onto [] x) ≡ c.levels - 1
  all_but = let k = onto_long [] x in omega arith

  leaf_prefix : take (c.levels - 1) h.path ≡ onto [] x
  leaf_prefix = ap (take (c.levels - 1)) whole ∙ take_at (onto [] x) (j ∷ []) (c.levels - 1) all_but

  -- in a large page it read fewer words than N, and its last table, a span, is not the frame stored to
  leaf_reads : (F : List ℕ → ℕ) (t i : ℕ) → is_span c t ≡ false → Spans c F → h.reads ≡ reads_from c F [] h.path → reads_leaf c t i h ≡ (eqb t (F x) && eqb i j)
  leaf_reads F t i real s e =
      let n : length h.path ≡ c.levels = let k = onto_long [] h.path in let u = ap length ends in omega arith in
      ap₂ ◌&&◌ (eq-eqb (length h.path) c.levels n)
      (ap (λ rs. any is_word (drop (c.levels - 1) rs)) (e ∙ ap (reads_from c F []) whole ∙ reads_split c F (onto [] x) (j ∷ []) [] ∙ ap (λ y. words ++ reads_from c F y (j ∷ [])) (turn_turn x)
      ∙ ap (λ rs. words ++ rs) (append-nil (level_reads c (F x) j)))
      ∙ go (is_span c (F x)) refl)
    where
      is_word : ℕ × ℕ → Bool
      is_word r = eqb t r.0 && eqb i r.1

      words : List (ℕ × ℕ)
      words = reads_from c F [] (onto [] x)

      go : (b : Bool) → is_span c (F x) ≡ b → any is_word (drop (c.levels - 1) (words ++ cond b [] ((F x, j) ∷ []))) ≡ (eqb t (F x) && eqb i j)
      go true o =
          ap (λ rs. any is_word (drop (c.levels - 1) rs)) (append-nil words)
          ∙ ap (any is_word) (drop_of_length-le words {i = c.levels - 1} (omega (arith, reads_most c F (onto [] x) [], all_but)))
          ∙ sym (ap (λ b. b && eqb i j) (no_span c t (F x) real o))
      go false o =
          let k = (reads_all c F s (onto [] x) [] (omega (arith, all_but, long)) (ap (λ y. is_span c (F y)) (turn_turn x) ∙ o)).1 in
          ap (any is_word) (drop_at words ((F x, j) ∷ []) (c.levels - 1) (k ∙ all_but)) ∙ or-false (eqb t (F x) && eqb i j)

-- ---- the tables in which such a path ends
abbrev number_by : Prefix → ℕ
number_by (Is n) = n
number_by Damaged = 0

-- the prefix of the table in frame f, as a number
abbrev number_in : Config → List ℕ → ℕ → ℕ
number_in c m f = number_by (charge.prefix_of c m (c.levels - 1) f)

-- those in the first k frames, the last one first
abbrev found : Config → List ℕ → ℕ → ℕ → ℕ → List ℕ
found c m t i zero = []
found c m t i (suc k) = cond (ends_at m t i (c.hosts + k)) (number_in c m (c.hosts + k) ∷ found c m t i k) (found c m t i k)

abbrev charge_to : Option ℕ → Charge
charge_to none = Nobody
charge_to (some n) = To n

module _ (c : Config) (m : List ℕ) (t i : ℕ) where
  -- the pass takes the least of them, where no link is damaged
  least_is : (k : ℕ) → ((f : ℕ) → c.hosts ≤ f → f < c.hosts + k → T (ends_at m t i f) → charge.prefix_of c m (c.levels - 1) f ≡ Is (number_in c m f))
      → charged_from c m t i k ≡ charge_to (first_of ltb (found c m t i k))
  unfolding charged_from visit_of
  least_is zero s = refl
  least_is (suc k) s = go (ends_at m t i f) refl (least_is k (λ d lo hi. s d lo (omega arith)))
    where
      f : ℕ
      f = c.hosts + k

      pick : (o : Option ℕ) → lower_by (charge_to o) (number_in c m f) ≡ To (better ltb (number_in c m f) o)
      pick none = refl
      pick (some y) = refl

      go : (b : Bool) → ends_at m t i f ≡ b → charged_from c m t i k ≡ charge_to (first_of ltb (found c m t i k))
          → cond b (charge_by (charge.prefix_of c m (c.levels - 1) f) (charged_from c m t i k)) (charged_from c m t i k)
          ≡ charge_to (first_of ltb (cond b (number_in c m f ∷ found c m t i k) (found c m t i k)))
      go true e ih = ap₂ charge_by (s f (omega arith) (omega arith) (subst T (sym e) tt)) ih ∙ pick (first_of ltb (found c m t i k))
      go false e ih = ih

  -- each of them is found, and no other
  found_has : (k f : ℕ) → c.hosts ≤ f → f < c.hosts + k → T (ends_at m t i f) → T (any (eqb (number_in c m f)) (found c m t i k))
  found_has zero f lo hi e = absurd (omega arith)
  found_has (suc k) f lo hi e = go (ℕ_discrete f (c.hosts + k)) (λ l. found_has k f lo l e)
    where
      n : ℕ
      n = number_in c m f

      d : ℕ
      d = number_in c m (c.hosts + k)

      later : (b : Bool) → T (any (eqb n) (found c m t i k)) → T (any (eqb n) (cond b (d ∷ found c m t i k) (found c m t i k)))
      later true h = or_right (eqb n d) _ h
      later false h = h

      go : Dec (f ≡ c.hosts + k) → (f < c.hosts + k → T (any (eqb n) (found c m t i k)))
          → T (any (eqb n) (cond (ends_at m t i (c.hosts + k)) (d ∷ found c m t i k) (found c m t i k)))
      go (yes q) ih = rw (sym q, is_true (ends_at m t i f) e) (or_left (eqb n n) _ (eqb_refl n))
      go (no q) ih = later (ends_at m t i (c.hosts + k)) (ih (omega (arith, q)))

  found_all : (P : ℕ → Type 0) (k : ℕ) → ((f : ℕ) → c.hosts ≤ f → f < c.hosts + k → T (ends_at m t i f) → P (number_in c m f)) → All P (found c m t i k)
  found_all P zero s = tt
  found_all P (suc k) s = go (ends_at m t i (c.hosts + k)) refl (found_all P k (λ d lo hi. s d lo (omega arith)))
    where
      go : (b : Bool) → ends_at m t i (c.hosts + k) ≡ b → All P (found c m t i k) → All P (cond b (number_in c m (c.hosts + k) ∷ found c m t i k) (found c m t i k))
      go true e ih = (s (c.hosts + k) (omega arith) (omega arith) (subst T (sym e) tt), ih)
      go false e ih = ih

-- ---- the paths held
all_same : (P : Held → Type 0) (hs : List Held) → ((h : Held) → T (any (λ k. same k.path h.path) hs) → P h) → All P hs
all_same P [] f = tt
all_same P (h ∷ hs) f = (f h (or_left (same h.path h.path) _ (same_refl h.path)), all_same P hs (λ k e. f k (or_right (same h.path k.path) _ e)))

-- the prefix of a path above its level 1 word, as a number
abbrev number_above : Config → Held → ℕ
number_above c h = number_of (onto [] (take (c.levels - 1) h.path))

kept_number : (c : Config) (f : Held → Bool) (n : ℕ) (hs : List Held) → T (any (λ h. f h && eqb n (number_above c h)) hs)
    → T (any (eqb n) (numbers (leaf_prefixes c (keep f hs))))
kept_number c f n [] e = e
kept_number c f n (h ∷ hs) e = go (f h) e (kept_number c f n hs)
  where
    d : ℕ
    d = number_above c h

    go : (b : Bool) → T ((b && eqb n d) || any (λ h. f h && eqb n (number_above c h)) hs)
        → (T (any (λ h. f h && eqb n (number_above c h)) hs) → T (any (eqb n) (numbers (leaf_prefixes c (keep f hs)))))
        → T (any (eqb n) (numbers (leaf_prefixes c (cond b (h ∷ keep f hs) (keep f hs)))))
    go true e ih = elim (or_cases (eqb n d) _ e) [ inl k ↦ or_left (eqb n d) _ k | inr k ↦ or_right (eqb n d) _ (ih k) ]
    go false e ih = ih e

-- ---- both together
-- the shadow tables say nobody and so does the book, or they say the number of the prefix that the book says
pub record ChargedTo (k : ℕ) (x : Charge) (o : Option (List ℕ)) : Type 0 where
  pub number : ℕ
  pub small : number < 2 ^ (9 * k)
  pub to : x ≡ To number
  pub prefix : o ≡ some (indexes k number)

abbrev pub ChargeIs : ℕ → Charge → Option (List ℕ) → Type 0
ChargeIs k x o = ((x ≡ Nobody) × (o ≡ none)) ⊎ ChargedTo k x o

module _ {c : Config} {p : Pool} {m : List ℕ} {guest : List ℕ → ℕ} {G : List ℕ → Lead} {root : ℕ} {w : Held → ℕ} {hs : List Held}
    (h : Holds (shadow_area c) false p m (leaf_at w hs) guest) (a : HeldEntries c guest G root w hs) (t i : ℕ) (real : is_span c t ≡ false) (l : i < 512) where
  -- a table of level 1, and a path that ends in it
  record Ends (f : ℕ) : Type 0 where
    pub prefix : List ℕ
    pub stands : h.tabs prefix ≡ some f
    pub long : suc (length prefix) ≡ c.levels
    pub reads : guest prefix ≡ t
    pub leaf : leaf_at w hs (i ∷ prefix) ≢ 0

  prefix_is : (x : List ℕ) (f : ℕ) → h.tabs x ≡ some f → charge.prefix_of c m (length x) f ≡ Is (number_of x)
  unfolding charge.prefix_of
  prefix_is [] f e = refl
  prefix_is (j ∷ x) f e =
      let k = h.tables.link j x f e in
      rw (
        inside_is c.hosts c.shadows (parent_of m f) (h.tables.inside x (parent_of m f) k.0).0 (frame_small h.tables x (parent_of m f) k.0).0,
        prefix_is x (parent_of m f) k.0,
        k.1,
      )

  small_prefix : (x : List ℕ) (f : ℕ) → h.tabs x ≡ some f → Small x
  small_prefix [] f e = tt
  small_prefix (j ∷ x) f e = let k = above h.tables j x f e in (k.index, small_prefix x k.frame k.stands)

  ends_number : (f : ℕ) (e : Ends f) → charge.prefix_of c m (c.levels - 1) f ≡ Is (number_of e.prefix)
  ends_number f e =
      let k : c.levels - 1 ≡ length e.prefix = let n = e.long in omega arith in
      rw k (prefix_is e.prefix f e.stands)

  -- an entry of such a table is a leaf
  word_is : (x : List ℕ) (f : ℕ) → h.tabs x ≡ some f → level_of m f ≡ 1 → entry_at_of m f i ≡ leaf_at w hs (i ∷ x)
  word_is x f e one = h.tables.word x f i e l ∙ ap (λ o. slot o (leaf_at w hs (i ∷ x))) (none_last h.tables i x f e one)

  -- the test finds just these
  ends_table : (f : ℕ) → c.hosts ≤ f → f < c.hosts + p.fresh → T (ends_at m t i f) → Ends f
  unfolding ends_at
  ends_table f lo hi e = go (eqb (level_of m f) 1) refl (eqb (guest_of m f) t) refl (present (entry_at_of m f i)) refl e
    where
      go : (b : Bool) → eqb (level_of m f) 1 ≡ b → (d : Bool) → eqb (guest_of m f) t ≡ d → (s : Bool) → present (entry_at_of m f i) ≡ s → T (cond b (cond d s false) false) → Ends f
      go true q true r true u e = elim (h.tables.each f lo hi) [ inl z ↦ absurd (let one : level_of m f ≡ 1 = eqb-true _ _ q in omega arith) | inr z ↦ at z.0 z.1 ]
        where
          at : (x : List ℕ) → h.tabs x ≡ some f → Ends f
          at x z =
              let one : level_of m f ≡ 1 = eqb-true _ _ q in
              let n = h.tables.level x f z in
              record {
                prefix = x;
                stands = z;
                long = omega arith;
                reads = sym (h.tables.guests x f z) ∙ eqb-true _ _ r;
                leaf = present_set (leaf_at w hs (i ∷ x)) (ap present (sym (word_is x f z one)) ∙ u);
              }
      go true q true r false u e = absurd e
      go true q false r s u e = absurd e
      go false q d r s u e = absurd e

  table_ends : (f : ℕ) → Ends f → T (ends_at m t i f)
  unfolding ends_at
  table_ends f e =
      let x = e.prefix in
      let n = h.tables.level x f e.stands in
      let k = e.long in
      let one : level_of m f ≡ 1 = omega arith in
      rw (
        eq-eqb (level_of m f) 1 one,
        eq-eqb (guest_of m f) t (h.tables.guests x f e.stands ∙ e.reads),
        word_is x f e.stands one,
        h.tables.solid (i ∷ x) e.leaf,
      )
      tt

  -- a path that the book counts ends in such a table
  record Counted (k : Held) : Type 0 where
    pub frame : ℕ
    pub ends : Ends frame
    pub prefix : take (c.levels - 1) k.path ≡ onto [] ends.prefix

  counted : (k : Held) → HeldEntry c guest G root (w k) k → leaf_at w hs (onto [] k.path) ≢ 0 → T (reads_leaf c t i k) → Counted k
  counted k e s r = go (onto [] k.path) refl
    where
      go : (q : List ℕ) → onto [] k.path ≡ q → Counted k
      go [] u = absurd (s (ap (leaf_at w hs) u ∙ h.tables.root))
      go (j ∷ x) u =
          let d : length k.path ≡ c.levels = eqb→eq (length k.path) c.levels (and_left (eqb (length k.path) c.levels) _ r) in
          let v = onto_long [] k.path in
          let n : suc (length x) ≡ c.levels = let y = ap length u in omega arith in
          let b : T (eqb t (guest x) && eqb i j) = subst T (leaf_reads c k j x u n guest t i real a.spans e.reads) r in
          let word : t ≡ guest x = eqb→eq t (guest x) (and_left (eqb t (guest x)) (eqb i j) b) in
          let at : i ≡ j = eqb→eq i j (and_right (eqb t (guest x)) (eqb i j) b) in
          let o : leaf_at w hs (i ∷ x) ≢ 0 = subst (λ z. leaf_at w hs (z ∷ x) ≢ 0) (sym at) (subst (λ z. leaf_at w hs z ≢ 0) u s) in
          stands x n (sym word) o (leaf_prefix c k j x u n) (h.tabs x) refl (above_leaf h x (record { path = i ∷ x; under = inl refl; set = o }))
        where
          stands : (x : List ℕ) → suc (length x) ≡ c.levels → guest x ≡ t → leaf_at w hs (i ∷ x) ≢ 0 → take (c.levels - 1) k.path ≡ onto [] x
              → (o : Option ℕ) → h.tabs x ≡ o → IsSome (h.tabs x) → Counted k
          stands x n d v q none z y = absurd (subst IsSome z y)
          stands x n d v q (some f) z y = record { frame = f; ends = record { prefix = x; stands = z; long = n; reads = d; leaf = v }; prefix = q }

  -- and a path that ends in such a table is one that the book counts
  ends_counted : (f : ℕ) (e : Ends f) → T (any (eqb (number_of e.prefix)) (numbers (leaf_prefixes c (keep (reads_leaf c t i) hs))))
  ends_counted f e =
      kept_number c (reads_leaf c t i) (number_of x) hs
      (leaf_any _ w (λ k. reads_leaf c t i k && eqb (number_of x) (number_above c k)) (i ∷ x) here hs a.all e.leaf)
    where
      x : List ℕ
      x = e.prefix

      here : (k : Held) → HeldEntry c guest G root (w k) k → onto [] k.path ≡ i ∷ x
          → T (reads_leaf c t i k && eqb (number_of x) (number_above c k))
      here k s u =
          both (reads_leaf c t i k) _
          (subst T (sym (leaf_reads c k i x u e.long guest t i real a.spans s.reads)) (both (eqb t (guest x)) (eqb i i) (rw e.reads (eqb_refl t)) (eqb_refl i)))
          (rw (leaf_prefix c k i x u e.long, turn_turn x) (eqb_refl (number_of x)))

  -- ---- the prefixes that the book counts
  abbrev Good : List ℕ → Type 0
  Good q =
      (indexes (c.levels - 1) (number_of (onto [] q)) ≡ q) × (number_of (onto [] q) < 2 ^ (9 * (c.levels - 1)))
      × T (any (eqb (number_of (onto [] q))) (found c m t i p.fresh))

  good : (k : Held) → Counted k → Good (take (c.levels - 1) k.path)
  good k r =
      let f = r.frame in
      let x = r.ends.prefix in
      let n : c.levels - 1 ≡ length x = let u = r.ends.long in omega arith in
      let s = small_prefix x f r.ends.stands in
      let at = h.tables.inside x f r.ends.stands in
      let seen = found_has c m t i p.fresh f at.0 at.1 (table_ends f r.ends) in
      rw (r.prefix, turn_turn x) (
        ap (λ k. indexes k (number_of x)) n ∙ number_indexes x s,
        rw n (number_small x s),
        subst (λ z. T (any (eqb z) (found c m t i p.fresh))) (ap number_by (ends_number f r.ends)) seen,
      )

  goods : All Good (leaf_prefixes c (keep (reads_leaf c t i) hs))
  goods =
      leaf_all c Good (keep (reads_leaf c t i) hs)
      (all_map _ (λ (k : Held). Good (take (c.levels - 1) k.path)) (keep (reads_leaf c t i) hs) (λ k e. good k (counted k e.0.0 e.0.1 e.1))
      (all_keep _ (reads_leaf c t i) hs (all_both _ (λ (k : Held). leaf_at w hs (onto [] k.path) ≢ 0) hs a.all (all_same _ hs there))))
    where
      there : (k : Held) → T (any (λ d. same d.path k.path) hs) → leaf_at w hs (onto [] k.path) ≢ 0
      there k e =
          let r = any_leaf _ w (λ d. same d.path k.path) (λ d s. present_set (w d) s.set) hs a.all e in
          subst (λ q. leaf_at w hs (onto [] q) ≢ 0) (same_is r.held.path k.path r.passes) r.leaf

  -- a store to word i of host frame t is charged alike by the shadow tables and by the book, and the pass meets no damage
  pub charge_is : (wr : Bool) → ChargeIs (c.levels - 1) (charged_of c m p.fresh t i) (charge_of c i (granted (t, wr)) hs)
  unfolding charged_of charge_of
  charge_is wr = go (first_of ltb ns) small book (least_is c m t i p.fresh (λ f lo hi e. let d = ends_number f (ends_table f lo hi e) in d ∙ ap (λ x. Is (number_by x)) (sym d)))
    where
      k : ℕ
      k = c.levels - 1

      ps : List (List ℕ)
      ps = leaf_prefixes c (keep (reads_leaf c t i) hs)

      ns : List ℕ
      ns = found c m t i p.fresh

      in_table : Within (numbers ps) ns
      in_table = numbers_all _ ps (all_map Good _ ps (λ q e. e.2) goods)

      in_book : Within ns (numbers ps)
      in_book = found_all c m t i _ p.fresh (λ f lo hi e.
          let d = ends_table f lo hi e in
          subst (λ n. T (any (eqb n) (numbers ps))) (sym (ap number_by (ends_number f d))) (ends_counted f d))

      fits : All (λ n. n < 2 ^ (9 * k)) (numbers ps)
      fits = numbers_all _ ps (all_map Good _ ps (λ q e. e.1) goods)

      same_least : first_of ltb (numbers ps) ≡ first_of ltb ns
      same_least = least_same (numbers ps) ns in_table in_book

      small : IfSome (λ n. n < 2 ^ (9 * k)) (first_of ltb ns)
      small = subst (IfSome (λ n. n < 2 ^ (9 * k))) same_least (first_has (λ n. n < 2 ^ (9 * k)) ltb (numbers ps) fits)

      book : first_of lower ps ≡ prefix_of k (first_of ltb ns)
      book =
          ap (first_of lower) (sym (numbers_are k ps (all_map Good _ ps (λ q e. e.0) goods)))
          ∙ lowest_is k (numbers ps) fits ∙ ap (prefix_of k) same_least

      go : (o : Option ℕ) → IfSome (λ n. n < 2 ^ (9 * k)) o → first_of lower ps ≡ prefix_of k o → charged_from c m t i p.fresh ≡ charge_to o
          → ChargeIs k (charged_from c m t i p.fresh) (first_of lower ps)
      go none s b e = inl (e, b)
      go (some n) s b e = inr (record { number = n; small = s; to = e; prefix = b })
