-- The refusals, each the number of the first test that fails. Document 01, "Each operation and its no".
-- Assumes nothing.
use Rattle.std.specs.Prelude.{ℕ, suc, ◌+◌, ◌-◌, ◌/◌, ◌%◌, ◌^◌, Bool, true, false, not, ◌&&◌, ◌||◌, cond, List, [], ◌∷◌, eqb, leb, ltb, length}
use Rattle.std.proofs.Math.Option.{Option, none, some}
use Rattle.spec.specs.Config.{Config, guest_base, sign_bit, frame_bits}
use Rattle.spec.specs.Bytes.{width_fits, aligned}
use Rattle.spec.specs.Machine.{Machine, with, is_mapped, host_tables}
use Rattle.spec.specs.Prefix.{same, any}
use Rattle.spec.specs.Book.{Mark, Book, Window, mark_at, is_set}
use Rattle.spec.specs.Choice.{window_room, leaf_mark, owned, room_for}
use Rattle.spec.specs.Call.{Call, root, map, unmap, set_mark, clear_mark, load, store, device, forecast, address_indexes}

abbrev pub first_failed : List (Bool × ℕ) → Option ℕ
first_failed [] = none
first_failed (x ∷ xs) = cond x.0 (first_failed xs) (some x.1)

-- ---- opening

-- refused with 1 unless the words are whole frames of 512, at least one frame and at most 65,536
abbrev pub words_fit : ℕ → Bool
words_fit words = eqb (words % 512) 0 && ltb 0 (words / 512) && leb (words / 512) 65536

-- refused with 2 unless H and S are at least N each and a frame is left for the guest
abbrev pub areas_fit : Config → Bool
areas_fit c = leb c.levels c.hosts && leb c.levels c.shadows && ltb (guest_base c) c.frames

abbrev pub config_of : ℕ → ℕ → ℕ → ℕ → ℕ → Bool → Config
config_of levels room words h s bits = record { levels = levels; mark_room = room; hosts = h; shadows = s; frames = words / 512; bits = bits }

unfoldable pub open_refusal : Config → ℕ → Option ℕ
open_refusal c words = first_failed ((words_fit words, 1) ∷ (areas_fit c, 2) ∷ [])

-- ---- the rules of a record, whose breach is 3

abbrev pub in_guest_area : Config → ℕ → Bool
in_guest_area c f = leb (guest_base c) f && ltb f c.frames

abbrev pub level_fits : Config → ℕ → Bool
level_fits c n = leb 1 n && leb n (suc c.levels)

abbrev pub all_of : {A : Type 0} → (A → Bool) → List A → Bool
all_of f [] = true
all_of f (x ∷ xs) = f x && all_of f xs

-- a mark has a level from 1 to N + 1 and exactly the N − level indexes (none at N + 1) that it keeps, each of 9 bits
abbrev pub mark_fits : Config → Mark → Bool
mark_fits c m = level_fits c m.level && eqb (length m.prefix) (c.levels - m.level) && all_of (λ i. ltb i 512) m.prefix

-- any two marks differ in level or in prefix
abbrev pub no_two_alike : List Mark → Bool
no_two_alike [] = true
no_two_alike (m ∷ ms) = not (is_set m ms) && no_two_alike ms

-- there are at most 64 marks, each fits, and no mark is there twice
abbrev pub marks_fit : Config → List Mark → Bool
marks_fit c ms = leb (length ms) c.mark_room && all_of (mark_fits c) ms && no_two_alike ms

-- a guest frame number, the root's too, has at most 36 bits
abbrev pub frame_fits : Config → ℕ → Bool
frame_fits c g = ltb g (2 ^ frame_bits c)

abbrev pub top_fits : Config → Option ℕ → Bool
top_fits c none = true
top_fits c (some f) = in_guest_area c f

-- the fields of the automatic choice (document 02, 7). A charge is to a prefix of N − 1 indexes
abbrev pub prefix_fits : Config → List ℕ → Bool
prefix_fits c p = eqb (length p) (c.levels - 1) && all_of (λ i. ltb i 512) p

abbrev pub charge_fits : Config → Option (List ℕ) → Bool
charge_fits c none = true
charge_fits c (some p) = prefix_fits c p

abbrev pub uncharged : Option (List ℕ) → Bool
uncharged none = true
uncharged (some p) = false

abbrev pub window_fits : Config → Window → Bool
window_fits c w = leb (length w) window_room && all_of (charge_fits c) w

abbrev pub no_two_same : List (List ℕ) → Bool
no_two_same [] = true
no_two_same (p ∷ ps) = not (any (same p) ps) && no_two_same ps

-- each automatic mark is set, of level 1, and no two are alike
abbrev pub automatic_fits : List Mark → List (List ℕ) → Bool
automatic_fits ms ps = all_of (λ p. is_set (leaf_mark p) ms) ps && no_two_same ps

abbrev pub is_empty : List (List ℕ) → Bool
is_empty [] = true
is_empty (p ∷ ps) = false

-- with the choice off there is no automatic mark and no charge
abbrev pub choice_fits : Config → Bool → List Mark → List (List ℕ) → Window → Bool
choice_fits c on ms ps w = automatic_fits ms ps && window_fits c w && (on || (is_empty ps && all_of uncharged w))

-- what a record says, as the rule reads it; top is the host frame that is held at depth N, if one is
pub record Record : Type 0 where
  pub words : ℕ
  pub config : Config
  pub root : ℕ
  pub marks : List Mark
  pub choice : Bool
  pub automatic : List (List ℕ)
  pub window : Window
  pub top : Option ℕ

-- refused with 3 unless the memory has the record's length, the sizes are such as an opening grants, the root, the marks and what the
-- automatic choice keeps fit, and a frame held at depth N lies in the guest area
unfoldable pub record_fits : Record → ℕ → Bool
record_fits r len =
    eqb len r.words && words_fit r.words && areas_fit r.config && eqb r.config.frames (r.words / 512)
    && frame_fits r.config r.root && marks_fit r.config r.marks && choice_fits r.config r.choice r.marks r.automatic r.window
    && top_fits r.config r.top

-- ---- later calls; those that no covered run meets, 3 and 11, are not here

-- are the bits of a word from bit k up all clear, or all set?
unfoldable pub alike_from : ℕ → ℕ → Bool
alike_from k a = eqb (a / 2 ^ k) 0 || eqb (a / 2 ^ k) (2 ^ (64 - k) - 1)

-- refused with 4 unless the address is legal and a multiple of the width; a mark's must only be legal. A guest-virtual address is legal in the
-- lower half and in the upper, where every bit above its indexes repeats the sign bit (document 02, 1)
abbrev pub address_fits : Config → ℕ → Bool
address_fits c a = alike_from (sign_bit c) a

-- a device's address is guest-physical: it has no sign, and is legal where its page is a guest frame's number
abbrev pub device_fits : Config → ℕ → Bool
device_fits c a = ltb a (2 ^ (12 + frame_bits c))

-- how many addresses a forecast takes; more are refused with 14, whatever they are (document 02, 2). With bits on there is no forecast: 16
abbrev pub forecast_room : ℕ
forecast_room = 256

-- the tests of a load or a store of w bytes at the address a; legal: the address is
abbrev pub access_tests : Bool → ℕ → ℕ → List (Bool × ℕ)
access_tests legal a w = (width_fits w, 15) ∷ (legal && aligned a w, 4) ∷ []

-- the tests of a call in their order, each with the number that it refuses with
unfoldable pub tests : Config → Call → Machine → Book → List (Bool × ℕ)
tests c (load a w) m b = access_tests (address_fits c a) a w
tests c (store a w v) m b = access_tests (address_fits c a) a w
tests c (device a w v) m b = access_tests (device_fits c a) a w
tests c (root r) m b = (frame_fits c r, 8) ∷ []
tests c (map g f w) m b =
    (frame_fits c g, 8) ∷ (in_guest_area c f, 9) ∷ (leb (host_tables c (with g f w m.mappings)) c.hosts, 10) ∷ []
tests c (unmap g) m b = (frame_fits c g, 8) ∷ (is_mapped g m.mappings, 12) ∷ []
tests c (set_mark a n) m b =
    let set : Bool = is_set (mark_at c n (address_indexes c a)) (owned b) in
    (address_fits c a, 4) ∷ (level_fits c n, 5) ∷ (not set, 6) ∷ (room_for c b, 7) ∷ []
tests c (clear_mark a n) m b =
    let set : Bool = is_set (mark_at c n (address_indexes c a)) (owned b) in
    (address_fits c a, 4) ∷ (level_fits c n, 5) ∷ (set, 6) ∷ []
tests c (forecast xs) m b = (not c.bits, 16) ∷ (leb (length xs) forecast_room, 14) ∷ []

-- the number that a call is refused with on this machine and book: that of its first test that fails
unfoldable pub refusal : Config → Call → Machine → Book → Option ℕ
refusal c x m b = first_failed (tests c x m b)
