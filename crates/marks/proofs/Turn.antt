-- A loop over the set places of a table: one turn, and the end.
use mathlib.Core.Path.{◌≡◌, ap, ◌∙◌}
use mathlib.Core.Bool.{cond}
use mathlib.Core.List.{List, [], ◌∷◌, map}
use Prim.Native.Nat.{ℕ, ◌-◌, ◌^◌, ◌<◌}
use lib.Dec.{eqb}
use lib.Bits.{bit_and}
use lib.Count.{ones, count_trailing_zeros}
use lib.ListN.{length, get_or, length-map}
use Rattle.bits.specs.Bit.{places}
use Rattle.bits.proofs.Places.{places_turn, places_end, places_count}
use Rattle.marks.specs.Table.{room, keys, place_in, place_of}

-- i and next are what `lowest` and `after_lowest` yield
module _ (place : List ℕ) (set i next : ℕ) (some : 0 < set) (word : set < 2 ^ 64) (first : i ≡ count_trailing_zeros 64 set) (rest : next ≡ bit_and set (set - 1)) where
  turn : places room set ≡ i ∷ places room next
  turn = rw (first, rest) (places_turn 64 set some word)

  pub keys_turn : keys place set ≡ get_or place i 0 ∷ keys place next
  unfolding keys
  keys_turn = ap (map (λ i. get_or place i 0)) turn

  pub place_turn : (k : ℕ) → place_of place set k ≡ cond (eqb k (get_or place i 0)) i (place_of place next k)
  unfolding place_of place_in
  place_turn k = ap (place_in place k) turn

pub keys_end : (place : List ℕ) (set : ℕ) → set ≡ 0 → keys place set ≡ []
unfolding keys
keys_end place set e = ap (map (λ i. get_or place i 0)) (places_end 64 set e)

pub place_end : (place : List ℕ) (set k : ℕ) → set ≡ 0 → place_of place set k ≡ room
unfolding place_of place_in
place_end place set k e = ap (place_in place k) (places_end 64 set e)

pub keys_count : (place : List ℕ) (set : ℕ) → set < 2 ^ 64 → length (keys place set) ≡ ones set
unfolding keys
keys_count place set l = length-map (places room set) (λ i. get_or place i 0) ∙ places_count 64 set l
