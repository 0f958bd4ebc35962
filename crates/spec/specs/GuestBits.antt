-- Lines of the sixteen-frame guest with accessed and dirty bits on, as a test that the checker computes. Document 02, 6). A load of
-- 0x4000 reads entry 0 of the guest's table of level 1, which maps itself as its page 4.
-- Assumes nothing.
use Rattle.std.specs.Prelude.{ℕ, Bool, true, false, ◌&&◌, List, [], ◌∷◌, ◌++◌, replicate}
use Rattle.spec.specs.Answer.{ok, value, done, no}
use Rattle.spec.specs.Config.{Config}
use Rattle.spec.specs.Call.{root, map, set_mark, store, load_word, store_word, device_word, forecast}
use Rattle.spec.specs.Refusal.{config_of}
use Rattle.spec.specs.Run.{State, after, opening}
use Rattle.spec.specs.Guest.{guest_words, answers, from, begun, absent, protected, host_absent, host_read_only}

-- the guest of document 01 with six shadow frames, so that two of its paths fit: guest frames 0 to 7 at 10 to 17
unfoldable pub config : Config
config = config_of 4 64 9216 4 6 true

unfoldable pub memory : List ℕ
memory = replicate 5120 0 ++ guest_words

unfoldable pub start : State
start =
    let s : State = from (begun (opening config false memory)) in
    after (map 0 10 true ∷ map 1 11 true ∷ map 2 12 true ∷ map 3 13 true ∷ map 4 14 true ∷ map 5 15 true ∷ map 6 16 true ∷ map 7 17 true ∷ root 0 ∷ []) s

unfoldable pub set_lines : State → Bool
set_lines s =
    -- a load sets bit 5 in its entries, also in those that it loads itself, and bit 6 in none
    answers s (load_word 0 ∷ load_word 0x4000 ∷ load_word 0x4020 ∷ load_word 0 ∷ []) (value 0 4 1 ∷ value 0x4023 4 1 ∷ value 0x3023 4 0 ∷ value 0 4 0 ∷ [])
    -- a store sets bit 6 too, at level 1 alone: guest frame 7 becomes an alias of the table of level 2
    && answers s (store_word 0 5 ∷ load_word 0x4000 ∷ map 7 12 true ∷ device_word 0x3008 0x7003 ∷ load_word 0x1000 ∷ []) (done 4 1 ∷ value 0x4063 4 1 ∷ ok ∷ done 4 1 ∷ value 0x3023 4 1 ∷ [])
    -- no fault sets one: A, P and H
    && answers s (load_word 0x3000 ∷ store_word 0x1000 1 ∷ load_word 0x2000 ∷ set_mark 0 5 ∷ load_word 0x4008 ∷ load_word 0x4010 ∷ [])
    (absent 1 20 1 ∷ protected 20 1 ∷ host_absent 8 24 1 ∷ ok ∷ value 0x5001 24 0 ∷ value 0x8003 24 0 ∷ [])
    -- a store into an entry of its own walk comes after the bits: a word overwrites them, a byte beside them does not
    && answers s (store_word 0x4020 0x3003 ∷ load_word 0x4020 ∷ []) (done 4 2 ∷ value 0x3023 4 1 ∷ [])
    && answers s (store 0x4021 1 0x30 ∷ load_word 0x4020 ∷ []) (done 4 2 ∷ value 0x3063 4 1 ∷ [])
    -- device stores set none
    && answers s (device_word 0x4000 7 ∷ set_mark 0 5 ∷ load_word 0x4000 ∷ []) (done 4 0 ∷ ok ∷ value 0x4003 24 0 ∷ [])

unfoldable pub refill_lines : State → Bool
refill_lines s =
    -- the path that a load filled forbids stores: the first one refills it, at one exit
    answers s (load_word 0 ∷ store_word 0 5 ∷ store_word 0 6 ∷ load_word 0 ∷ []) (value 0 4 1 ∷ done 4 1 ∷ done 4 0 ∷ value 6 4 0 ∷ [])
    && answers s (store_word 0 5 ∷ store_word 0 6 ∷ load_word 0 ∷ []) (done 4 1 ∷ done 4 0 ∷ value 6 4 0 ∷ [])
    -- even if another path, which own bit writes do not drop either, sets the bit meanwhile
    && answers s (load_word 0 ∷ store_word 0x200000 1 ∷ load_word 0 ∷ store_word 0 1 ∷ store_word 0 2 ∷ []) (value 0 4 1 ∷ done 4 1 ∷ value 1 4 0 ∷ done 4 1 ∷ done 4 0 ∷ [])
    -- one that a load fills while bit 6 is set lets them pass
    && answers s (device_word 0x3000 0x4043 ∷ load_word 0 ∷ store_word 0 1 ∷ []) (done 4 0 ∷ value 0 4 1 ∷ done 4 0 ∷ [])
    -- a store that faults leaves the path as it was
    && answers s (device_word 0x3000 0x4001 ∷ load_word 0 ∷ store_word 0 1 ∷ load_word 0 ∷ []) (done 4 0 ∷ value 0 4 1 ∷ protected 20 1 ∷ value 0 4 0 ∷ [])
    -- a fault past the shadow part fills nothing, counts plainly and pays again; on a held path it counts as ever
    && answers s (set_mark 0 1 ∷ load_word 0x2000 ∷ load_word 0x2000 ∷ load_word 0 ∷ load_word 0x2000 ∷ []) (ok ∷ host_absent 8 24 2 ∷ host_absent 8 24 2 ∷ value 0 8 1 ∷ host_absent 8 8 1 ∷ [])
    -- at depth 1 a load's path lets stores pass
    && answers s (set_mark 0 1 ∷ load_word 0 ∷ store_word 0 5 ∷ load_word 0x4000 ∷ []) (ok ∷ value 0 8 1 ∷ done 8 0 ∷ value 0x4063 8 0 ∷ [])

unfoldable pub owed_lines : State → Bool
owed_lines s =
    -- W for a bit, top level first; it sets none
    answers s (map 3 13 false ∷ load_word 0 ∷ map 0 10 false ∷ load_word 0 ∷ map 3 13 true ∷ map 0 10 true ∷ load_word 0x4000 ∷ [])
    (ok ∷ host_read_only 3 24 1 ∷ ok ∷ host_read_only 0 24 1 ∷ ok ∷ ok ∷ value 0x4003 4 1 ∷ [])
    -- after H, P and W of the page
    && answers s (map 3 13 false ∷ load_word 0x2000 ∷ store_word 0x1000 1 ∷ map 4 14 false ∷ store_word 0 1 ∷ []) (ok ∷ host_absent 8 24 1 ∷ protected 20 1 ∷ ok ∷ host_read_only 4 24 1 ∷ [])
    -- on a path not held: the plain count, and the second exit where the direct part reads the entry
    && answers s (map 3 13 false ∷ set_mark 0 1 ∷ load_word 0 ∷ load_word 0 ∷ []) (ok ∷ ok ∷ host_read_only 3 24 2 ∷ host_read_only 3 24 2 ∷ [])
    && answers s (map 2 12 false ∷ set_mark 0 1 ∷ load_word 0 ∷ load_word 0 ∷ []) (ok ∷ ok ∷ host_read_only 2 24 1 ∷ host_read_only 2 24 1 ∷ [])
    -- on a held path: a granted request's count. Entry 0 of guest frame 3 alone has bit 5
    && answers s (device_word 0x3000 0x4023 ∷ map 3 13 false ∷ set_mark 0 1 ∷ load_word 0 ∷ load_word 0x4000 ∷ store_word 0 1 ∷ load_word 0 ∷ [])
    (done 4 0 ∷ ok ∷ ok ∷ value 0 8 1 ∷ host_read_only 3 8 1 ∷ host_read_only 3 8 1 ∷ value 0 8 0 ∷ [])
    -- at depth 0 the plain count; the forbidding path stays
    && answers s (device_word 0x3000 0x4023 ∷ map 3 13 false ∷ load_word 0 ∷ store_word 0 1 ∷ load_word 0 ∷ []) (done 4 0 ∷ ok ∷ value 0 4 1 ∷ host_read_only 3 24 1 ∷ value 0 4 0 ∷ [])
    -- at depth N + 1
    && answers s (map 3 13 false ∷ set_mark 0 5 ∷ load_word 0 ∷ map 3 13 true ∷ load_word 0 ∷ store_word 0 1 ∷ load_word 0x4000 ∷ [])
    (ok ∷ ok ∷ host_read_only 3 24 1 ∷ ok ∷ value 0 24 0 ∷ done 24 0 ∷ value 0x4063 24 0 ∷ [])
    -- judged on the words as the request finds them: entry 0 of guest frame 0 maps guest frame 6, which is the same host frame read-only,
    -- so that one word is reached four times, once by guest frame 0
    && answers s (map 6 10 false ∷ device_word 0 0x6003 ∷ load_word 0 ∷ device_word 0 0x6023 ∷ load_word 0 ∷ []) (ok ∷ done 4 0 ∷ host_read_only 6 24 1 ∷ done 4 0 ∷ value 0x6023 4 1 ∷ [])
    -- no forecast, whatever its length
    && answers s (forecast [] ∷ forecast (replicate 257 0) ∷ []) (no 16 ∷ no 16 ∷ [])
