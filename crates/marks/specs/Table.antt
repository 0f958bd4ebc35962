-- The table of marks: which keys it holds, and what it is with a key more and a key less.
use Rattle.std.specs.Prelude.{ℕ, ◌-◌, ◌^◌, min, max, cond, List, [], ◌∷◌, ◌++◌, map, eqb, ltb, length, get_or, replicate}
use Rattle.std.proofs.Math.Option.{Option, none, some}
use Rattle.std.specs.Int.Count.{ones}
use Rattle.spec.specs.declared.Lookup.{Lookup}
use Rattle.bits.specs.Bit.{places}
use Rattle.marks.specs.declared.Marks.{Marks}
use Rattle.marks.specs.Key.{low_page, search_of}

-- how many marks can be set
abbrev pub room : ℕ
room = 64

-- the keys of the set places, in the order of the places
unfoldable pub keys : List ℕ → ℕ → List ℕ
keys place set = map (λ i. get_or place i 0) (places room set)

-- what a search among the set places finds for an address, of n levels; and in a table
abbrev pub lookup_among : ℕ → List ℕ → ℕ → ℕ → Lookup
lookup_among n place set a = search_of n (low_page n a) (keys place set)

abbrev pub lookup_in : ℕ → Marks → ℕ → Lookup
lookup_in n t a = lookup_among n t.place t.set a

-- the first of the places that holds the key k; `room` where none does
unfoldable pub place_in : List ℕ → ℕ → List ℕ → ℕ
place_in place k [] = room
place_in place k (i ∷ is) = cond (eqb k (get_or place i 0)) i (place_in place k is)

unfoldable pub place_of : List ℕ → ℕ → ℕ → ℕ
place_of place set k = place_in place k (places room set)

-- k put among keys in ascending order
unfoldable pub inserted : ℕ → List ℕ → List ℕ
inserted k [] = k ∷ []
inserted k (x ∷ xs) = min x k ∷ inserted (max x k) xs

-- the table that holds these keys, in the first places
unfoldable pub table_of : List ℕ → Marks
table_of ks = record { set = 2 ^ length ks - 1; place = ks ++ replicate (room - length ks) 0 }

-- with the key k, where a place is free
unfoldable pub with_key : Marks → ℕ → Marks
with_key t k = cond (ltb (ones t.set) room) (table_of (inserted k (keys t.place t.set))) t

-- without the key k, where it is set: the others keep their places
abbrev pub cleared : Marks → ℕ → Marks
cleared t i = cond (ltb i room) (record { set = t.set - 2 ^ i; place = t.place }) t

unfoldable pub without_key : Marks → ℕ → Marks
without_key t k = cleared t (place_of t.place t.set k)

-- a refusal as the code has it: its number, or 0
abbrev pub number : Option ℕ → ℕ
number none = 0
number (some n) = n
