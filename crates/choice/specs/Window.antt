-- The window in numbers. One word has a bit for each of the last 64 requests, the newest lowest: was it charged? A ring of words has the
-- prefixes charged, written round and round. So a request that is charged to nobody shifts the word, and nothing else.
use Rattle.std.specs.Prelude.{ℕ, ◌+◌, ◌-◌, ◌*◌, ◌%◌, ◌^◌, Bool, false, true, cond, List, ◌++◌, reverse, eqb, length, take, drop, set}
use Rattle.std.specs.Int.Count.{ones}
use Rattle.spec.specs.Prefix.{keep}
use Rattle.choice.specs.declared.Tally.{Tally}
use Rattle.choice.specs.declared.Choice.{Choice}

-- the requests of the window, and the words of the ring
abbrev pub room : ℕ
room = 64

-- the word after a request, which was charged or not: the oldest bit leaves by the word's width
unfoldable pub shifted : Bool → ℕ → ℕ
shifted hit n = n % 2 ^ 63 * 2 + cond hit 1 0

abbrev pub with_charged : Tally → ℕ → Tally
with_charged t n = record { on = t.on; charged = n; at = t.at; count = t.count }

-- a request that is charged to nobody; with the choice off there is no window
unfoldable pub requested_of : Tally → Tally
requested_of t = cond (eqb t.on 0) t (with_charged t (shifted false t.charged))

-- a root was loaded
unfoldable pub emptied_of : Tally → Tally
emptied_of t = with_charged t 0

-- a request that is charged to the prefix p, which goes into the ring
unfoldable pub tally_charged : Tally → Tally
tally_charged t = record { on = t.on; charged = shifted true t.charged; at = (t.at + 1) % room; count = t.count }

unfoldable pub charged_of : Choice → ℕ → Choice
charged_of x p = record { tally = tally_charged x.tally; ring = set x.ring (x.tally.at % room) p; order = x.order }

-- the words of a ring, the newest first; at: the place of the next one
unfoldable pub unroll : {A : Type 0} → ℕ → List A → List A
unroll at xs = reverse (take at xs) ++ reverse (drop at xs)

-- those of the window: as many as requests were charged
abbrev pub newest : Tally → List ℕ → List ℕ
newest t ring = take (ones t.charged) (unroll (t.at % room) ring)

-- the prefix that a word of the ring says, of n levels: its low bits, 9 for each index; the bits above are nobody's
unfoldable pub prefix_in : ℕ → ℕ → ℕ
prefix_in n w = w % 2 ^ (9 * (n - 1))

-- how many requests of the window were charged to p
unfoldable pub charges_of : ℕ → List ℕ → Tally → ℕ → ℕ
charges_of n ring t p = length (keep (λ w. eqb (prefix_in n w) p) (newest t ring))
