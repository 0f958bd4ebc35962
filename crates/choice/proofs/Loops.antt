-- What one turn of each loop of this crate does to the list that the loop goes over.
use mathlib.Core.Path.{◌≡◌, refl, sym, ap, ◌∙◌}
use mathlib.Core.Bool.{Bool, true, false, ◌&&◌, cond}
use mathlib.Core.List.{List, [], ◌∷◌, ◌++◌, map, reverse, reverse-append, reverse-cons, append_assoc, append-nil, map-append}
use mathlib.Core.Option.{Option, none, some}
use Prim.Native.Nat.{ℕ, zero, suc, ◌+◌, ◌-◌, ◌%◌, ◌<◌, ◌≤◌}
use native.Mathlib.Omega.{arith}
use native.Mathlib.Numerals.{add-one}
use borrow.Author.Tests.{eq-eqb, ne_eqb, ltb-true, eqb-true}
use lib.Dec.{eqb, ltb}
use lib.Count.{ones}
use lib.ListN.{length, take, drop, set, get_or, length-append, length-reverse, length-take, length-drop, length-map, drop_of_length-le}
use lib.Seq.{slice, slice-cons, take-suc, take_all, take-append-le, drop-cons, append_snoc, set_at, get_or_at, get_or-drop, get_or-append-add, length-take-le}
use Rattle.spec.specs.Prefix.{keep}
use Rattle.spec.specs.Choice.{first_of}
use Rattle.spec_laws.proofs.Lists.{and_first, and_second}
use Rattle.bits.specs.Bit.{bit}
use Rattle.marks.specs.Table.{place_of}
use Rattle.choice.specs.declared.Tally.{Tally}
use Rattle.choice.specs.Window.{room, unroll, prefix_in, charges_of}
use Rattle.choice.specs.Order.{entry_fits, leaves_before, leaving_of, but, fronted, relocated}

-- ---- the first words of an array, and one more of them

-- from the word i on: that word, and those behind it
pub words_turn : (xs : List ℕ) (i n : ℕ) → length xs ≡ room → n ≤ room → i < n → slice i n xs ≡ get_or xs i 0 ∷ slice (i + 1) n xs
words_turn xs i n l k h = rw add-one (slice-cons i n xs 0 h (omega arith))

-- up to the word i, and that word
words_more : (xs : List ℕ) (i : ℕ) → i < length xs → take (i + 1) xs ≡ take i xs ++ (get_or xs i 0 ∷ [])
words_more xs i h = rw add-one (take-suc xs i 0 h)

-- the same backwards
back_more : (xs : List ℕ) (i : ℕ) → i < length xs → reverse (take (i + 1) xs) ≡ get_or xs i 0 ∷ reverse (take i xs)
back_more xs i h = rw (words_more xs i h, reverse-append)

-- ---- the window, from the newest word back

-- the newest word, before the place `at`, is the oldest one seen from its own place
record Turned (at before : ℕ) (ring : List ℕ) : Type 0 where
  rest : List ℕ
  whole : unroll at ring ≡ get_or ring before 0 ∷ rest
  next : unroll before ring ≡ rest ++ (get_or ring before 0 ∷ [])

turned_round : (ring : List ℕ) (m : ℕ) → length ring ≡ suc m → Turned 0 m ring
unfolding unroll
turned_round ring m l =
    let all : take (m + 1) ring ≡ ring = take_all (m + 1) ring (omega arith) in
    let none : drop (suc m) ring ≡ [] = drop_of_length-le ring {i = suc m} (omega arith) in
    record {
      rest = reverse (take m ring);
      whole = rw all at (back_more ring m (omega arith));
      next = rw (drop-cons ring m 0 (omega arith), none);
    }

turned_down : (ring : List ℕ) (k : ℕ) → k < length ring → Turned (suc k) k ring
unfolding unroll
turned_down ring k l = record {
  rest = reverse (take k ring) ++ reverse (drop (suc k) ring);
  whole = ap (λ (r : List ℕ). r ++ reverse (drop (suc k) ring)) (rw add-one at (back_more ring k l));
  next = rw (drop-cons ring k 0 l, reverse-cons, ← append_assoc (reverse (take k ring)) (reverse (drop (suc k) ring)) (get_or ring k 0 ∷ []));
}

turned : (ring : List ℕ) (at : ℕ) → length ring ≡ room → at < room → Turned at ((at + 63) % 64) ring
turned ring zero l h = turned_round ring 63 l
turned ring (suc k) l h = let e : (suc k + 63) % 64 ≡ k = omega arith in rw e (turned_down ring k (omega arith))

unroll_length : (at : ℕ) (ring : List ℕ) → length (unroll at ring) ≡ length ring
unfolding unroll
unroll_length at ring = simp (length-append, length-reverse, length-take, length-drop) (omega arith)

window_turn : (ring : List ℕ) (at left : ℕ) → length ring ≡ room → at < room → 0 < left → left ≤ room
    → take left (unroll at ring) ≡ get_or ring ((at + 63) % 64) 0 ∷ take (left - 1) (unroll ((at + 63) % 64) ring)
window_turn ring at zero l h p k = absurd (omega arith)
window_turn ring at (suc n) l h p k =
    let t = turned ring at l h in
    let s : suc n - 1 ≡ n = omega arith in
    let long : n ≤ length t.rest = omega (arith, ap length t.whole, unroll_length at ring) in
    rw (s, t.whole, t.next, take-append-le n t.rest (get_or ring ((at + 63) % 64) 0 ∷ []) long)

-- how many of the newest `left` words before the place `at` say the prefix p
unfoldable pub charges_in : ℕ → ℕ → List ℕ → ℕ → ℕ → ℕ
charges_in n p ring at left = length (keep (λ w. eqb (prefix_in n w) p) (take left (unroll at ring)))

pub charges_whole : (n : ℕ) (ring : List ℕ) (t : Tally) (p : ℕ) → charges_of n ring t p ≡ charges_in n p ring (t.at % 64) (ones t.charged)
unfolding charges_of charges_in
charges_whole n ring t p = refl

pub charges_end : (n p : ℕ) (ring : List ℕ) (at : ℕ) → charges_in n p ring at 0 ≡ 0
unfolding charges_in
charges_end n p ring at = refl

-- the newest of them, and the others
pub charges_turn : (n p : ℕ) (ring : List ℕ) (at left : ℕ) → length ring ≡ room → at < room → 0 < left → left ≤ room
    → charges_in n p ring at left ≡ cond (eqb (prefix_in n (get_or ring ((at + 63) % 64) 0)) p) 1 0 + charges_in n p ring ((at + 63) % 64) (left - 1)
unfolding charges_in
charges_turn n p ring at left l h q k = rw (window_turn ring at left l h q k) (go (eqb (prefix_in n (get_or ring ((at + 63) % 64) 0)) p))
  where
    rest : List ℕ
    rest = take (left - 1) (unroll ((at + 63) % 64) ring)

    go : (b : Bool) → length (cond b (get_or ring ((at + 63) % 64) 0 ∷ keep (λ w. eqb (prefix_in n w) p) rest) (keep (λ w. eqb (prefix_in n w) p) rest))
        ≡ cond b 1 0 + length (keep (λ w. eqb (prefix_in n w) p) rest)
    go true = omega arith
    go false = omega arith

-- ---- the places of the automatic marks

pub entry_says : (place : List ℕ) (rest i : ℕ) → entry_fits place rest i ≡ true → (i < room) × (bit rest i ≡ 1)
entry_says place rest i e =
    let set = eqb (bit rest i) 1 in
    let low = and_first (ltb i room && set) _ e in
    (ltb-true i room (and_first (ltb i room) set low), eqb-true _ 1 (and_second (ltb i room) set low))

-- ---- the first in some order of the first i words, seen from the last back

unfoldable pub first_in : (ℕ → ℕ → Bool) → List ℕ → ℕ → Option ℕ
first_in before xs i = first_of before (reverse (take i xs))

pub leaving_first : (n : ℕ) (ring : List ℕ) (t : Tally) (order place : List ℕ)
    → leaving_of n ring t order place ≡ first_in (leaves_before n ring t place) order t.count
unfolding leaving_of first_in
leaving_first n ring t order place = refl

module _ (before : ℕ → ℕ → Bool) (xs : List ℕ) where
  pub first_none : first_in before xs 0 ≡ none
  unfolding first_in
  first_none = refl

  pub first_one : 0 < length xs → first_in before xs 1 ≡ some (get_or xs 0 0)
  unfolding first_in
  first_one l = rw (back_more xs 0 l)

  -- the word at i goes before the first of those met, or it does not
  pub first_turn : (i best : ℕ) → i < length xs → first_in before xs i ≡ some best
      → first_in before xs (i + 1) ≡ some (cond (before (get_or xs i 0) best) (get_or xs i 0) best)
  unfolding first_in
  first_turn i best l e = rw (back_more xs i l, e)

-- ---- the words but p, of the first i words of an array

keep_append : {A : Type 0} (f : A → Bool) (xs ys : List A) → keep f (xs ++ ys) ≡ keep f xs ++ keep f ys
keep_append f [] ys = refl
keep_append {A} f (x ∷ xs) ys = go (f x) (keep_append f xs ys)
  where
    go : (t : Bool) → keep f (xs ++ ys) ≡ keep f xs ++ keep f ys → cond t (x ∷ keep f (xs ++ ys)) (keep f (xs ++ ys)) ≡ cond t (x ∷ keep f xs) (keep f xs) ++ keep f ys
    go true h = ap (λ (l : List A). x ∷ l) h
    go false h = h

-- how many they are, and the array with them in front
unfoldable pub packed_to : ℕ → List ℕ → ℕ → ℕ
packed_to p xs i = length (but p xs i)

unfoldable pub packed : ℕ → List ℕ → ℕ → List ℕ
packed p xs i = fronted (but p xs i) xs

pub packed_none : (p : ℕ) (xs : List ℕ) → (packed_to p xs 0 ≡ 0) × (packed p xs 0 ≡ xs)
unfolding packed packed_to
packed_none p xs = (refl, refl)

-- the words from there on are as they were
pub packed_word : (p : ℕ) (xs : List ℕ) (i : ℕ) → packed_to p xs i ≤ i → get_or (packed p xs i) i 0 ≡ get_or xs i 0
unfolding packed packed_to
packed_word p xs i k =
    let n = length (but p xs i) in
    let e : n + (i - n) ≡ i = omega arith in
    rw e at (get_or-append-add (but p xs i) (drop n xs) (i - n) 0 ∙ get_or-drop n xs (i - n) 0)

-- the word at i is p
pub packed_skip : (p : ℕ) (xs : List ℕ) (i : ℕ) → i < length xs → get_or xs i 0 ≡ p
    → (packed_to p xs (i + 1) ≡ packed_to p xs i) × (packed p xs (i + 1) ≡ packed p xs i)
unfolding packed packed_to
packed_skip p xs i l e =
    let same : but p xs (i + 1) ≡ but p xs i = rw (words_more xs i l, keep_append, eq-eqb p (get_or xs i 0) (sym e), append-nil) in
    (rw same, rw same)

-- it is not, and goes behind the others
pub packed_put : (p : ℕ) (xs : List ℕ) (i : ℕ) → i < length xs → packed_to p xs i ≤ i → (get_or xs i 0 ≡ p → ⊥)
    → (packed_to p xs (i + 1) ≡ packed_to p xs i + 1) × (packed p xs (i + 1) ≡ set (packed p xs i) (packed_to p xs i) (get_or xs i 0))
unfolding packed packed_to
packed_put p xs i l k n =
    let x = get_or xs i 0 in
    let ks = but p xs i in
    let more : but p xs (i + 1) ≡ ks ++ (x ∷ []) = rw (words_more xs i l, keep_append, ne_eqb p x (λ e. n (sym e))) in
    let one : length (ks ++ (x ∷ [])) ≡ suc (length ks) = rw length-append (omega arith) in
    let here = set_at ks (get_or xs (length ks) 0) (drop (suc (length ks)) xs) x (length ks) refl in
    (rw (more, one) (omega arith), rw (more, one, drop-cons xs (length ks) 0 (omega arith), here, append_snoc))

pub packed_is : (p : ℕ) (xs : List ℕ) (i : ℕ) → (packed_to p xs i ≡ length (but p xs i)) × (packed p xs i ≡ fronted (but p xs i) xs)
unfolding packed packed_to
packed_is p xs i = (refl, refl)

-- ---- the array with the first i words taken to others by g

unfoldable pub mapped : (ℕ → ℕ) → List ℕ → ℕ → List ℕ
mapped g xs i = map g (take i xs) ++ drop i xs

pub mapped_none : (g : ℕ → ℕ) (xs : List ℕ) → mapped g xs 0 ≡ xs
unfolding mapped
mapped_none g xs = refl

module _ (g : ℕ → ℕ) (xs : List ℕ) (i : ℕ) (l : i < length xs) where
  mapped_long : length (map g (take i xs)) ≡ i
  mapped_long = length-map (take i xs) g ∙ length-take-le i xs (omega arith)

  pub mapped_word : get_or (mapped g xs i) i 0 ≡ get_or xs i 0
  unfolding mapped
  mapped_word = rw (drop-cons xs i 0 l) (get_or_at (map g (take i xs)) (get_or xs i 0) (drop (suc i) xs) 0 i mapped_long)

  pub mapped_turn : mapped g xs (i + 1) ≡ set (mapped g xs i) i (g (get_or xs i 0))
  unfolding mapped
  mapped_turn =
      rw (
        words_more xs i l,
        map-append g (take i xs) (get_or xs i 0 ∷ []),
        drop-cons xs i 0 l,
        set_at (map g (take i xs)) (get_or xs i 0) (drop (suc i) xs) (g (get_or xs i 0)) i mapped_long,
        append_snoc,
        add-one,
      )

-- where the mark at the place i of the old places stands now
abbrev pub again : List ℕ → List ℕ → ℕ → ℕ → ℕ
again old place used i = place_of place used (get_or old (i % room) 0)

pub mapped_is : (n : ℕ) (order old place : List ℕ) (used : ℕ) → mapped (again old place used) order n ≡ relocated n order old place used
unfolding mapped
mapped_is n order old place used = refl
