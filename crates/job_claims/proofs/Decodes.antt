-- The records that the program splits off and decodes are those of document 01.
-- Assumes nothing.
use Rattle.std.proofs.Common.{Option, Some, None, ◌≡◌, refl, sym, ap, ◌∙◌, ◌⊎◌, inl, inr, Bool, true, false, cond, List, [], ◌∷◌, ℕ, zero, suc, ◌+◌, ◌-◌, ◌≤◌, ◌<◌, arith, leb-true, leb-false, ltb-true, ltb-false, le-leb, ne_eqb, leb, ltb, length, take, drop, length-take, length-drop}
use Rattle.std.proofs.lemmas.Bool.{lt-leb}
use Rattle.job_records.specs.declared.Cut.{Cut}
use Rattle.job_records.specs.declared.Cut.TheVariants.{Body, Short, Wrong}
use Rattle.job_records.specs.declared.Kind.{Kind}
use Rattle.job_records.specs.declared.Kind.TheVariants as kind
use Rattle.job_records.specs.Records.{number, cut_at, next_of, kind_at, size_in, job_in, job_by_kind, job_of, job_by, job_at}
use Rattle.job_stream.specs.Whole.{behind}
use Rattle.job_claims.specs.Job.{length_of, asks_of, until_bad, records_from, records_of}

-- ---- no kind has a body of more than 17 bytes

small : (k : Kind) → size_in k ≤ 17
small kind.Open = omega arith
small kind.Root = omega arith
small kind.Map = omega arith
small kind.Unmap = omega arith
small kind.SetMark = omega arith
small kind.ClearMark = omega arith
small kind.Load = omega arith
small kind.Store = omega arith
small kind.Device = omega arith

module _ (b : List ℕ) (long : 17 < length b) where
  kind_bad : (o : Option Kind) → job_by_kind o b ≡ None
  kind_bad None = refl
  kind_bad (Some k) =
      let s : size_in k ≤ 17 = small k in
      let other : length b ≡ size_in k → ⊥ = λ e. omega arith in
      ap (λ (t : Bool). cond t (Some (job_in k b)) None) (ne_eqb (length b) (size_in k) other)

  long_bad : (k : ℕ) → job_of k b ≡ None
  unfolding job_of
  long_bad k = kind_bad (kind_at k)

-- ---- the first record

-- it asks for the same, and ends at the same place, unless it is the last
pub record First (s : List ℕ) : Type 0 where
  pub asks : job_at s 0 ≡ asks_of s
  pub ends : (asks_of s ≡ None) ⊎ (behind s ≡ drop (2 + length_of s) s)

abbrev tree : Bool → Bool → Bool → Bool → Cut → Cut
tree a b c d x = cond a (cond b Wrong (cond c Wrong (cond d Short x))) Short

module _ (s : List ℕ) where
  abbrev n : ℕ
  n = length_of s

  abbrev numbered : ℕ
  numbered = number 2 s 2

  -- what is asked, by the two tests of the specification
  asks_by : (x y : Bool) → leb 2 n ≡ x → leb (2 + n) (length s) ≡ y → asks_of s ≡ cond x (cond y (job_of numbered (take (n - 2) (drop 4 s))) None) None
  asks_by x y p q = λ i. cond (p i) (cond (q i) (job_of numbered (take (n - 2) (drop 4 s))) None) None

  short_asks : (x : Bool) → leb 2 n ≡ x → length s < 2 + n → asks_of s ≡ None
  short_asks true p h = asks_by true false p (lt-leb (2 + n) (length s) h)
  short_asks false p h = asks_by false _ p refl

  cut_by_lem : (a b c d : Bool) → leb 2 (length s) ≡ a → ltb n 2 ≡ b → ltb 19 n ≡ c → ltb (length s - 2) n ≡ d → cut_at s 0 ≡ tree a b c d (Body numbered 4 (n - 2))
  cut_by_lem a b c d e f g h = λ i. tree (e i) (f i) (g i) (h i) (Body numbered 4 (n - 2))

  bad_first : cut_at s 0 ≡ Short ⊎ cut_at s 0 ≡ Wrong → asks_of s ≡ None → First s
  unfolding job_at
  bad_first (inl c) e = record { asks = ap (job_by s) c ∙ sym e; ends = inl e }
  bad_first (inr c) e = record { asks = ap (job_by s) c ∙ sym e; ends = inl e }

  long_asks : (y : Bool) → leb (2 + n) (length s) ≡ y → 19 < n → asks_of s ≡ None
  long_asks false q h = asks_by true false (le-leb 2 n (omega arith)) q
  long_asks true q h =
      let b = take (n - 2) (drop 4 s) in
      let l : 17 < length b = omega (arith, length-take (n - 2) (drop 4 s), length-drop 4 s, leb-true (2 + n) (length s) q) in
      asks_by true true (le-leb 2 n (omega arith)) q ∙ long_bad b l numbered

  pub first_same : First s
  unfolding job_at
  first_same = go (leb 2 (length s)) (ltb n 2) (ltb 19 n) (ltb (length s - 2) n) refl refl refl refl
    where
      go : (a b c d : Bool) → leb 2 (length s) ≡ a → ltb n 2 ≡ b → ltb 19 n ≡ c → ltb (length s - 2) n ≡ d → First s
      go false b c d e f g h = bad_first (inl (cut_by_lem false b c d e f g h)) (short_asks (leb 2 n) refl (omega (arith, leb-false 2 (length s) e)))
      go true true c d e f g h =
          let low : leb 2 n ≡ false = lt-leb 2 n (ltb-true n 2 f) in
          bad_first (inr (cut_by_lem true true c d e f g h)) (asks_by false _ low refl)
      go true false true d e f g h = bad_first (inr (cut_by_lem true false true d e f g h)) (long_asks (leb (2 + n) (length s)) refl (ltb-true 19 n g))
      go true false false true e f g h =
          bad_first (inl (cut_by_lem true false false true e f g h)) (short_asks (leb 2 n) refl (omega (arith, leb-true 2 (length s) e, ltb-true (length s - 2) n h)))
      go true false false false e f g h =
          let c = cut_by_lem true false false false e f g h in
          let low : 2 ≤ n = ltb-false n 2 f in
          let fits : 2 + n ≤ length s = omega (arith, leb-true 2 (length s) e, ltb-false (length s - 2) n h) in
          let end : 4 + (n - 2) ≡ 2 + n = omega arith in
          record {
            asks = ap (job_by s) c ∙ sym (asks_by true true (le-leb 2 n low) (le-leb (2 + n) (length s) fits));
            ends = inr (ap (λ (x : Cut). drop (next_of 0 x) s) c ∙ ap (λ (k : ℕ). drop k s) end);
          }

-- ---- the records of an input

-- any number of records will do that the input cannot have more of
records_enough : (k j : ℕ) (s : List ℕ) → length s ≤ k → length s ≤ j → records_from k s ≡ records_from j s
unfolding records_from
records_enough zero zero s p q = refl
records_enough zero (suc j) [] p q = refl
records_enough zero (suc j) (x ∷ s) p q = absurd (omega arith)
records_enough (suc k) zero [] p q = refl
records_enough (suc k) zero (x ∷ s) p q = absurd (omega arith)
records_enough (suc k) (suc j) [] p q = refl
records_enough (suc k) (suc j) (x ∷ s) p q =
    let w = x ∷ s in
    let e = 2 + length_of w in
    ap (until_bad (asks_of w)) (records_enough k j (drop e w) (omega (arith, length-drop e w)) (omega (arith, length-drop e w)))

-- an input has a first record and those of the rest; no bytes have none
pub records_none : records_of [] ≡ []
unfolding records_from
records_none = refl

pub records_step : (x : ℕ) (s : List ℕ) → let w = x ∷ s in records_of w ≡ until_bad (asks_of w) (records_of (drop (2 + length_of w) w))
unfolding records_from
records_step x s =
    let w = x ∷ s in
    let e = 2 + length_of w in
    ap (until_bad (asks_of w)) (records_enough (length s) (length (drop e w)) (drop e w) (omega (arith, length-drop e w)) (omega arith))
