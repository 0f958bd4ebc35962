-- Lines with the automatic choice on, on a guest like document 01's, as a test that the checker computes (document 02, 7 and 9). Its table of
-- level 1, in guest frame 3, hangs at three places: a load of 0, of 0x200000 and of 0x400000 reads its entry 0, by the prefixes (0, 0, 0),
-- (0, 0, 1) and (0, 0, 2); its entry 4 maps the table itself, its entry 5 the table of level 2.
-- Assumes nothing.
use Rattle.std.specs.Prelude.{ℕ, zero, suc, ◌+◌, ◌-◌, ◌*◌, ◌^◌, Bool, true, false, not, ◌&&◌, List, [], ◌∷◌, ◌++◌, replicate}
use Rattle.std.proofs.Math.Option.{none, some}
use Rattle.spec.specs.Answer.{Line, ok, value, done, no, figures}
use Rattle.spec.specs.Config.{Config, guest_base}
use Rattle.spec.specs.Book.{Mark}
use Rattle.spec.specs.Choice.{leaf_mark}
use Rattle.spec.specs.Call.{Call, root, map, set_mark, clear_mark, load_word, store_word, device_word, forecast}
use Rattle.spec.specs.Refusal.{config_of, choice_fits}
use Rattle.spec.specs.Run.{State, after, opening}
use Rattle.spec.specs.Guest.{answers, from, begun, absent}

-- n levels, n host frames, s shadow frames, eight guest frames, room for so many marks
unfoldable pub config : ℕ → ℕ → ℕ → Config
config n s room = config_of n room (512 * (n + s + 8)) n s false

-- n guest frames from k on, each at the frame of the guest area with its number
unfoldable pub mapped : Config → ℕ → ℕ → List Call
mapped c zero k = []
mapped c (suc n) k = map k (guest_base c + k) true ∷ mapped c n (suc k)

-- the first n guest frames, the last one first, at the frames of the guest area from k on
unfoldable pub turned : Config → ℕ → ℕ → List Call
turned c zero k = []
turned c (suc n) k = map n (guest_base c + k) true ∷ turned c n (suc k)

-- guest frames 0 to 7; the tables stand in the order of their levels, so that the one of level 1, which the lines store to, is the first in
-- memory: a word costs the checker its distance from the first word that changed
unfoldable pub start : Bool → Config → List Call → State
start on c tables = after (turned c c.levels 0 ++ mapped c (8 - c.levels) c.levels ++ tables) (from (begun (opening c on (replicate (512 * c.frames) 0))))

unfoldable pub guest : List Call
guest =
    device_word 0x0 0x1003 ∷ device_word 0x1000 0x2003 ∷ device_word 0x2000 0x3003 ∷ device_word 0x2008 0x3003 ∷ device_word 0x2010 0x3003
    ∷ device_word 0x3000 0x4003 ∷ device_word 0x3020 0x3003 ∷ device_word 0x3028 0x2003 ∷ []

unfoldable pub times : {A : Type 0} → ℕ → List A → List A
times zero xs = []
times (suc n) xs = xs ++ times n xs

-- entry 0 of the table of level 1 is stored to, with the value that it has, by the prefix (0, 0, 0) or (0, 0, 1)
unfoldable pub low : Call
low = store_word 0x4000 0x4003

unfoldable pub high : Call
high = store_word 0x204000 0x4003

-- n charges to (0, 0, 0); the store's own path is filled at the first
unfoldable pub charges : ℕ → List Call
charges n = times n (load_word 0 ∷ low ∷ [])

unfoldable pub thrice_lines : List Line
thrice_lines = value 0 4 1 ∷ done 4 2 ∷ value 0 4 1 ∷ done 4 1 ∷ value 0 4 1 ∷ done 4 1 ∷ []

-- what a mark for (0, 0, 0) does: a load of 0 reads 8 words, and a store into the table is not watched
unfoldable pub afterwards : List Call
afterwards = load_word 0 ∷ load_word 0 ∷ low ∷ forecast (0 ∷ 0 ∷ []) ∷ []

unfoldable pub charge_lines : State → State → Bool
charge_lines s off =
    let twice : State = after (charges 2) s in
    let marked : State = after (charges 1) twice in
    -- the third charge sets the mark, at no exit of its own; a forecast goes by it
    answers s (charges 3 ++ afterwards) (thrice_lines ++ (value 0 8 1 ∷ value 0 8 0 ∷ done 8 0 ∷ figures 16 0 3 ∷ []))
    -- the same calls with the choice off
    && answers off (charges 3 ++ afterwards) (thrice_lines ++ (value 0 4 1 ∷ value 0 4 0 ∷ done 4 1 ∷ figures 8 1 4 ∷ []))
    -- an automatic mark is not the operator's to clear; who sets it makes it theirs, and its paths drop
    && answers marked (load_word 0 ∷ clear_mark 0 1 ∷ load_word 0 ∷ set_mark 0 1 ∷ load_word 0 ∷ set_mark 0 1 ∷ clear_mark 0 1 ∷ load_word 0 ∷ [])
    (value 0 8 1 ∷ no 6 ∷ value 0 8 0 ∷ ok ∷ value 0 8 1 ∷ no 6 ∷ ok ∷ value 0 4 1 ∷ [])
    -- device stores drop, and are charged to nobody
    && answers s (times 3 (load_word 0 ∷ device_word 0x3000 0x4003 ∷ []) ++ (load_word 0 ∷ [])) (times 3 (value 0 4 1 ∷ done 4 1 ∷ []) ++ (value 0 4 1 ∷ []))
    -- a store into the level 1 word of its own path drops that path, and is charged to it
    && answers s (times 3 (store_word 0x4020 0x3003 ∷ []) ++ (load_word 0 ∷ [])) (times 3 (done 4 2 ∷ []) ++ (value 0 8 1 ∷ []))
    -- a word of level 2: paths drop, and nobody is charged
    && answers s (times 3 (load_word 0 ∷ store_word 0x5000 0x3003 ∷ []) ++ (load_word 0 ∷ [])) (times 3 (value 0 4 1 ∷ done 4 2 ∷ []) ++ (value 0 4 1 ∷ []))
    -- paths that the store's own fill dropped, for want of tables, do not count
    && answers s (times 3 (load_word 0x200000 ∷ low ∷ []) ++ (load_word 0x200000 ∷ [])) (times 3 (value 0 4 1 ∷ done 4 2 ∷ []) ++ (value 0 4 1 ∷ []))
    -- a root load empties the window, and leaves an automatic mark
    && answers twice (root 0 ∷ load_word 0x4000 ∷ load_word 0 ∷ low ∷ load_word 0 ∷ []) (ok ∷ value 0x4003 4 1 ∷ value 0 4 1 ∷ done 4 1 ∷ value 0 4 1 ∷ [])
    && answers marked (root 0 ∷ load_word 0 ∷ []) (ok ∷ value 0 8 1 ∷ [])

-- two charges, 60 loads, and a third charge: the window of 64 begins with the first charge, and there is a mark
unfoldable pub window_lines : State → Bool
window_lines s =
    let t : State = after (charges 2 ++ times 60 (load_word 0 ∷ [])) s in
    answers t (low ∷ load_word 0 ∷ []) (done 4 1 ∷ value 0 8 1 ∷ [])
    -- a refused load and a device store are not in it
    && answers t (load_word 4 ∷ device_word 0x5000 0 ∷ low ∷ load_word 0 ∷ []) (no 4 ∷ done 4 0 ∷ done 4 1 ∷ value 0 8 1 ∷ [])
    -- with one load more, or one fault, it begins after the first charge
    && answers t (load_word 0 ∷ low ∷ load_word 0 ∷ []) (value 0 4 0 ∷ done 4 1 ∷ value 0 4 1 ∷ [])
    && answers t (load_word 0x3000 ∷ low ∷ load_word 0 ∷ []) (absent 1 20 1 ∷ done 4 1 ∷ value 0 4 1 ∷ [])

-- with one shadow table more: both paths drop, and the lower prefix alone is charged
unfoldable pub lowest_lines : Bool
lowest_lines =
    answers (start true (config 4 5 64) guest) (times 3 (load_word 0 ∷ load_word 0x200000 ∷ low ∷ []) ++ (load_word 0 ∷ load_word 0x200000 ∷ []))
    (value 0 4 1 ∷ value 0 4 1 ∷ done 4 2 ∷ times 2 (value 0 4 1 ∷ value 0 4 1 ∷ done 4 1 ∷ []) ++ (value 0 8 1 ∷ value 0 4 1 ∷ []))

-- three charges by the store x to the prefix of the page a
unfoldable pub thrice : Call → ℕ → List Call
thrice x a = times 3 (load_word a ∷ x ∷ [])

-- with a mark for the prefix of the store x, three charges to that of a and to that of b
unfoldable pub charging : Call → ℕ → ℕ → List Call
charging x a b = thrice x a ++ thrice x b ++ (load_word 0 ∷ load_word 0x200000 ∷ [])

unfoldable pub charging_lines : List Line
charging_lines = value 0 4 1 ∷ done 8 2 ∷ times 5 (value 0 4 1 ∷ done 8 1 ∷ [])

unfoldable pub room_lines : Bool
room_lines =
    let one : State = start true (config 4 4 1) guest in
    let full : State = after (charges 3) one in
    -- full of the operator's marks: none is set
    answers one (set_mark (2 ^ 39) 1 ∷ charges 3 ++ (load_word 0 ∷ [])) (ok ∷ thrice_lines ++ (value 0 4 1 ∷ []))
    -- an automatic mark leaves for the operator's; then the table is full
    && answers full (load_word 0 ∷ set_mark (2 ^ 39) 1 ∷ load_word 0 ∷ set_mark (2 ^ 40) 1 ∷ []) (value 0 8 1 ∷ ok ∷ value 0 4 1 ∷ no 7 ∷ [])
    -- a call that is refused for another reason makes none leave
    && answers full (load_word 0 ∷ set_mark (2 ^ 39) 6 ∷ load_word 0 ∷ []) (value 0 8 1 ∷ no 5 ∷ value 0 8 0 ∷ [])
    -- the operator takes over an automatic mark in a full table
    && answers full (set_mark 0 1 ∷ set_mark (2 ^ 40) 1 ∷ []) (ok ∷ no 7 ∷ [])

-- three charges each to (0, 0, 1), (0, 0, 0) and (0, 0, 2) in turn set their marks, that of the middle address first
unfoldable pub three : List Call
three = thrice high 0x200000 ++ thrice high 0 ++ thrice high 0x400000

-- that first one becomes the operator's, is cleared, and is set again at its next charge; then the root load leaves none of them a charge
unfoldable pub again : List Call
again = set_mark 0x200000 1 ∷ clear_mark 0x200000 1 ∷ load_word 0x200000 ∷ high ∷ root 0 ∷ []

-- an operator's mark that finds the table full, and what it did to each
unfoldable pub pressing : List Call
pressing = set_mark (2 ^ 39) 1 ∷ load_word 0 ∷ load_word 0x200000 ∷ load_word 0x400000 ∷ []

-- which automatic mark leaves (document 02, 9)
unfoldable pub leaving_lines : Bool
leaving_lines =
    let two : State = start true (config 4 4 2) guest in
    let ties : State = after three (start true (config 4 4 3) guest) in
    -- three charges each: the mark that was set first leaves, whether its address is the higher or the lower one
    answers two (thrice high 0x200000 ++ charging high 0 0x400000) (thrice_lines ++ charging_lines ++ (value 0 8 1 ∷ value 0 4 1 ∷ []))
    && answers two (charges 3 ++ charging low 0x200000 0x400000) (thrice_lines ++ charging_lines ++ (value 0 4 1 ∷ value 0 8 1 ∷ []))
    -- of three too; one that is set again is the newest, and the next one leaves
    && answers ties pressing (ok ∷ value 0 8 1 ∷ value 0 4 1 ∷ value 0 8 1 ∷ [])
    && answers ties (again ++ pressing) (ok ∷ ok ∷ value 0 4 1 ∷ done 4 2 ∷ ok ∷ ok ∷ value 0 4 1 ∷ value 0 8 1 ∷ value 0 8 1 ∷ [])
    -- four charges against three: the newer one leaves. Charges stay when a mark goes
    && answers two (charges 3 ++ (set_mark 0 1 ∷ clear_mark 0 1 ∷ load_word 0 ∷ low ∷ []) ++ charging low 0x200000 0x400000)
    (thrice_lines ++ (ok ∷ ok ∷ value 0 4 1 ∷ done 4 2 ∷ []) ++ charging_lines ++ (value 0 8 0 ∷ value 0 4 1 ∷ []))

-- what 3 rules out in the fields of the choice, and what not: three charges without a mark, a charge under an operator's mark
unfoldable pub rule_lines : Bool
rule_lines =
    let c : Config = config 4 4 64 in
    let p : List ℕ = 0 ∷ 0 ∷ 1 ∷ [] in
    let m : Mark = leaf_mark p in
    choice_fits c true (m ∷ []) (p ∷ []) (none ∷ some p ∷ [])
    && choice_fits c true (m ∷ []) [] (some p ∷ some p ∷ some p ∷ [])
    && choice_fits c true [] [] (times 64 (some p ∷ []))
    && not (choice_fits c true [] [] (times 65 (none ∷ [])))
    && not (choice_fits c true [] [] (some (0 ∷ 0 ∷ []) ∷ []))
    && not (choice_fits c true [] [] (some (0 ∷ 0 ∷ 512 ∷ []) ∷ []))
    && not (choice_fits c true [] (p ∷ []) [])
    && not (choice_fits c true (record { level = 2; prefix = p } ∷ []) (p ∷ []) [])
    && not (choice_fits c true (m ∷ []) (p ∷ p ∷ []) [])
    && not (choice_fits c false (m ∷ []) (p ∷ []) [])
    && not (choice_fits c false (m ∷ []) [] (some p ∷ []))
    && choice_fits c false (m ∷ []) [] []

-- five levels: the charged prefix has four indexes
unfoldable pub deep_lines : Bool
deep_lines =
    let tables : List Call = device_word 0 0x1003 ∷ device_word 0x1000 0x2003 ∷ device_word 0x2000 0x3003 ∷ device_word 0x3000 0x4003 ∷ device_word 0x4000 0x5003 ∷ device_word 0x4020 0x4003 ∷ [] in
    answers (start true (config 5 5 64) tables) (times 3 (load_word 0 ∷ store_word 0x4000 0x5003 ∷ []) ++ (load_word 0 ∷ load_word 0x200000 ∷ []))
    (value 0 5 1 ∷ done 5 2 ∷ times 2 (value 0 5 1 ∷ done 5 1 ∷ []) ++ (value 0 10 1 ∷ absent 2 24 1 ∷ []))
