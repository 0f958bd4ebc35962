-- The automatic marks in numbers: their places in the table of marks, in the order in which they were set, the oldest first. They are the
-- first words of an array; what stands behind them is nobody's.
use Rattle.std.specs.Prelude.{ℕ, suc, ◌-◌, ◌/◌, ◌%◌, ◌^◌, Bool, true, not, ◌&&◌, ◌||◌, cond, List, [], ◌∷◌, ◌++◌, map, reverse, eqb, leb, ltb, length, take, drop, set, get_or}
use Rattle.std.proofs.Math.Option.{Option, none, some}
use Rattle.spec.specs.Prefix.{any, keep}
use Rattle.spec.specs.Choice.{first_of}
use Rattle.bits.specs.Bit.{bit}
use Rattle.marks.specs.Table.{place_of}
use Rattle.choice.specs.declared.Tally.{Tally}
use Rattle.choice.specs.declared.Choice.{Choice}
use Rattle.choice.specs.Window.{room, charges_of}

-- ---- the rules

-- a place that is set, with a mark of level 1; rest: the set places that were not met yet, so that none stands twice
abbrev pub entry_fits : List ℕ → ℕ → ℕ → Bool
entry_fits place rest i = ltb i room && eqb (bit rest i) 1 && eqb (get_or place i 0 % 8) 1

unfoldable pub order_fits : List ℕ → ℕ → List ℕ → Bool
order_fits place rest [] = true
order_fits place rest (i ∷ is) = entry_fits place rest i && order_fits place (rest - 2 ^ i) is

-- what is kept with the choice on, with the places of the marks and those that are set; off, there is no automatic mark and no charge
unfoldable pub choice_fits : Tally → List ℕ → List ℕ → ℕ → Bool
choice_fits t order place set =
    leb t.on 1 && leb t.count room && order_fits place set (take t.count order) && (eqb t.on 1 || (eqb t.count 0 && eqb t.charged 0))

-- ---- which are automatic

-- is the mark at the place i one of them?
unfoldable pub automatic_at : ℕ → List ℕ → ℕ → Bool
automatic_at count order i = any (eqb i) (take count order)

-- ---- which one leaves

-- the prefix of the mark of level 1 at a place
abbrev pub prefix_at : List ℕ → ℕ → ℕ
prefix_at place i = get_or place (i % room) 0 / 8

abbrev pub charges_at : ℕ → List ℕ → Tally → List ℕ → ℕ → ℕ
charges_at n ring t place i = charges_of n ring t (prefix_at place i)

-- does the mark at i leave before that at j? It has fewer charges; of two with as many the one that was set before the other leaves
abbrev pub leaves_before : ℕ → List ℕ → Tally → List ℕ → ℕ → ℕ → Bool
leaves_before n ring t place i j = ltb (charges_at n ring t place i) (charges_at n ring t place j)

unfoldable pub leaving_of : ℕ → List ℕ → Tally → List ℕ → List ℕ → Option ℕ
leaving_of n ring t order place = first_of (leaves_before n ring t place) (reverse (take t.count order))

-- the place, or `room` where none can leave
abbrev pub place_by : Option ℕ → ℕ
place_by none = room
place_by (some i) = i

-- ---- with one more, one less, and in another table

abbrev pub with_count : Tally → ℕ → Tally
with_count t n = record { on = t.on; charged = t.charged; at = t.at; count = n }

abbrev pub with_order : Choice → ℕ → List ℕ → Choice
with_order x n is = record { tally = with_count x.tally n; ring = x.ring; order = is }

-- an array with these words in front
abbrev pub fronted : List ℕ → List ℕ → List ℕ
fronted is order = is ++ drop (length is) order

-- these are the first words of the array now
abbrev pub ordered : Choice → List ℕ → Choice
ordered x is = with_order x (length is) (fronted is x.order)

-- the places but i, of the first n of an array
abbrev pub but : ℕ → List ℕ → ℕ → List ℕ
but i order n = keep (λ j. not (eqb i j)) (take n order)

-- the mark at the place i is automatic no longer
unfoldable pub without_of : Choice → ℕ → Choice
without_of x i = ordered x (but i x.order x.tally.count)

-- the mark at the place i is automatic, the last one set
unfoldable pub with_of : Choice → ℕ → Choice
with_of x i = cond (ltb x.tally.count room) (with_order x (suc x.tally.count) (set x.order x.tally.count i)) x

-- how many there are then, and their order
abbrev pub count_with : ℕ → ℕ
count_with n = cond (ltb n room) (suc n) n

abbrev pub order_with : ℕ → List ℕ → ℕ → List ℕ
order_with n order i = cond (ltb n room) (set order n i) order

-- the first n places of an array by their keys in the old places, in another table
abbrev pub relocated : ℕ → List ℕ → List ℕ → List ℕ → ℕ → List ℕ
relocated n order old place set = map (λ i. place_of place set (get_or old (i % room) 0)) (take n order) ++ drop n order

-- the marks were put into another table: each is found by its key in the old places
unfoldable pub moved_of : Choice → List ℕ → List ℕ → ℕ → Choice
moved_of x old place set = with_order x x.tally.count (relocated x.tally.count x.order old place set)
