-- Filling the first places with the keys and one more gives the table of the keys inserted.
use mathlib.Core.Path.{◌≡◌, refl, sym, ap, ◌∙◌}
use mathlib.Core.List.{List, [], ◌∷◌, ◌++◌}
use Prim.Native.Nat.{ℕ, zero, suc, ◌+◌, ◌-◌, ◌/◌, ◌^◌, ◌<◌, min, max}
use native.Mathlib.Omega.{arith}
use lib.Pow.{ones_split, ones_lt, high}
use lib.ListN.{length, set, replicate, length-append}
use lib.Seq.{append_snoc, set-append_seam}
use Rattle.marks.specs.declared.Marks.{Marks}
use Rattle.marks.specs.Table.{room, inserted, table_of}

-- the places, from the place n on, filled with the keys in their order and k among them
unfoldable pub filled : List ℕ → ℕ → ℕ → List ℕ → List ℕ
filled place n k [] = set place n k
filled place n k (x ∷ xs) = filled (set place n (min x k)) (n + 1) (max x k) xs

pub filled_turn : (place : List ℕ) (n k x : ℕ) (xs : List ℕ) → filled place n k (x ∷ xs) ≡ filled (set place n (min x k)) (n + 1) (max x k) xs
unfolding filled
filled_turn place n k x xs = refl

pub filled_end : (place : List ℕ) (n k : ℕ) → filled place n k [] ≡ set place n k
unfolding filled
filled_end place n k = refl

pub inserted_length : (k : ℕ) (xs : List ℕ) → length (inserted k xs) ≡ suc (length xs)
unfolding inserted
inserted_length k [] = refl
inserted_length k (x ∷ xs) = ap suc (inserted_length (max x k) xs)

filled_from : (first : List ℕ) (m k : ℕ) (xs : List ℕ) → length xs < m
    → filled (first ++ replicate m 0) (length first) k xs ≡ first ++ inserted k xs ++ replicate (m - suc (length xs)) 0
unfolding filled inserted
filled_from first zero k xs l = absurd (omega arith)
filled_from first (suc m) k [] l =
    let s : suc m - 1 ≡ m = omega arith in
    rw (s, set-append_seam first 0 (replicate m 0) k, append_snoc first k (replicate m 0))
filled_from first (suc m) k (x ∷ xs) l =
    let y = min x k in
    let more = first ++ (y ∷ []) in
    let s : suc m - suc (suc (length xs)) ≡ m - suc (length xs) = omega arith in
    let n : length first + 1 ≡ length more = sym (length-append first (y ∷ [])) in
    rw (s, set-append_seam first 0 (replicate m 0) y, ← append_snoc first y (replicate m 0), n, ← append_snoc first y (inserted (max x k) xs))
    (filled_from more m (max x k) xs (omega arith))

-- the word with the n lowest places set
low_places : (n : ℕ) → n < 64 → (2 ^ 64 - 1) / 2 ^ (63 - n) ≡ 2 ^ suc n - 1
low_places n l =
    let s : suc n + (63 - n) ≡ 64 = omega arith in
    let e = rw s at (ones_split (suc n) (63 - n)) in
    rw e (high (2 ^ suc n - 1) (63 - n) (ones_lt (63 - n)))

pub filled_table : (k n : ℕ) (xs : List ℕ) → length xs ≡ n → n < room
    → ◌≡◌ {A = Marks} (record { set = (2 ^ 64 - 1) / 2 ^ (63 - n); place = filled (replicate room 0) 0 k xs }) (table_of (inserted k xs))
unfolding table_of
filled_table k n xs e l =
    let long = inserted_length k xs ∙ ap suc e in
    let all = filled_from [] room k xs (omega arith) in
    rw (long, low_places n l, all, e)
