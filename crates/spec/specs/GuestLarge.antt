-- Lines of a guest that has large pages, each worked out by hand from the paper, as tests that the checker computes. Document 02, 8). Below its
-- root, guest frame 0, entry 3 of the table of level 3, guest frame 1, maps the 1 GiB from guest frame 0x40000 on, and entry 5 of the table of
-- level 2, guest frame 2, the 2 MiB from guest frame 512 on. The load of a page's first word says in which host frame it arrived.
-- Assumes nothing.
use Rattle.std.specs.Prelude.{ℕ, ◌+◌, ◌^◌, Bool, true, false, ◌&&◌, List, [], ◌∷◌, ◌++◌, replicate}
use Rattle.spec.specs.Answer.{Line, ok, value, done, fault, figures}
use Rattle.spec.specs.Config.{Config}
use Rattle.spec.specs.Call.{Call, root, map, set_mark, clear_mark, load_word, store_word, device_word, forecast}
use Rattle.spec.specs.Refusal.{config_of}
use Rattle.spec.specs.Run.{State, after, opening}
use Rattle.spec.specs.Guest.{frame, answers, costs, from, begun, host_absent, host_read_only}

-- twenty frames: 7 for host tables, 5 for shadow tables, 8 for the guest from frame 12 on
unfoldable pub config : Bool → Config
config bits = config_of 4 64 10240 7 5 bits

-- guest frames 0 to 4 are in host frames 12 to 16. Entry 0 of each table leads to the next one, and of guest frame 3, the table of level 1, to
-- the page 4, by an entry with bit 7; its entries 1 and 2 map the tables of level 3 and 2 as pages
unfoldable pub memory : List ℕ
memory =
    let pages : List ℕ = frame (16 ∷ []) (frame (17 ∷ []) (frame (18 ∷ []) (frame (19 ∷ []) []))) in
    let low : List ℕ = frame (0x3003 ∷ 0 ∷ 0 ∷ 0 ∷ 0 ∷ 0x200083 ∷ []) (frame (0x4083 ∷ 0x1003 ∷ 0x2003 ∷ []) pages) in
    replicate 6144 0 ++ frame (0x1003 ∷ []) (frame (0x2003 ∷ 0 ∷ 0 ∷ 0x40000083 ∷ []) low)

-- mapped besides are the first frame of the 2 MiB, 512, and 515 and 516 of them, and of the 1 GiB 0x40401 alone. Host tables: the prefixes
-- none, 0, 0 0, 0 0 0, 0 0 1, 0 1 and 0 1 2
unfoldable pub start : Bool → Bool → State
start bits choice =
    after
    (map 0 12 true ∷ map 1 13 true ∷ map 2 14 true ∷ map 3 15 true ∷ map 4 16 true ∷ map 515 17 true ∷ map 0x40401 18 true ∷ map 512 19 true ∷ map 516 19 true ∷ root 0 ∷ [])
    (from (begun (opening (config bits) choice memory)))

-- an address in guest frame 515, of the indexes 0 0 5 3, and one in 0x40401, of the indexes 0 3 2 1
abbrev pub mega : ℕ
mega = 0xA03000

abbrev pub giga : ℕ
giga = 0xC0401000

-- the addresses of the two large entries, the device's and, by the entries 1 and 2 of the table of level 1, the guest's too
abbrev pub mega_entry : ℕ
mega_entry = 0x2028

abbrev pub giga_entry : ℕ
giga_entry = 0x1018

abbrev pub malformed_at : ℕ → ℕ → ℕ → Line
malformed_at level r e = fault 77 level 0 r e

abbrev pub protected_at : ℕ → ℕ → ℕ → Line
protected_at level r e = fault 80 level 0 r e

unfoldable pub walk_lines : State → Bool
walk_lines s =
    -- at depth 5 the plain counts: each level not walked takes 5 from 24
    answers s (set_mark 0 5 ∷ load_word 0 ∷ load_word mega ∷ load_word giga ∷ store_word giga 1 ∷ []) (ok ∷ value 16 24 0 ∷ value 17 19 0 ∷ value 18 14 0 ∷ done 14 0 ∷ [])
    -- at depth 0 four references, and a path for each 4 KiB of a large page: 512 and 516 are in host frame 19
    && answers s (load_word mega ∷ load_word mega ∷ load_word 0xA04000 ∷ load_word 0xA00000 ∷ store_word mega 1 ∷ []) (value 17 4 1 ∷ value 17 4 0 ∷ value 19 4 1 ∷ value 19 4 1 ∷ done 4 0 ∷ [])
    -- the page's guest frame is the entry's with the lower indexes: a device stores to 0x203008 and 0x40401008
    && answers s (device_word 0x203008 7 ∷ device_word 0x40401008 8 ∷ load_word (mega + 8) ∷ load_word (giga + 8) ∷ []) (done 4 0 ∷ done 4 0 ∷ value 7 4 1 ∷ value 8 4 1 ∷ [])
    -- a path of four indexes has four shadow tables; with 0 0 5 3 and 0 3 2 1 six would be in use, and there are five frames for them
    && answers s (forecast (mega ∷ []) ∷ forecast (giga ∷ []) ∷ load_word mega ∷ load_word giga ∷ load_word mega ∷ []) (figures 4 1 4 ∷ figures 4 1 4 ∷ value 17 4 1 ∷ value 18 4 1 ∷ value 17 4 1 ∷ [])

unfoldable pub depth_lines : State → Bool
depth_lines s =
    -- the marked levels are 1 to the mark's. A large entry above them: depth 0, four references
    answers s (set_mark mega 1 ∷ load_word mega ∷ load_word mega ∷ forecast (mega ∷ []) ∷ []) (ok ∷ value 17 4 1 ∷ value 17 4 0 ∷ figures 4 0 4 ∷ [])
    && answers s (set_mark giga 1 ∷ load_word giga ∷ set_mark giga 2 ∷ load_word giga ∷ []) (ok ∷ value 18 4 1 ∷ ok ∷ value 18 4 1 ∷ [])
    -- among them it is read directly: 4 + 4 * 2 - 5 at level 2; one path for the whole table, which an ordinary page, 4 + 4 * 2, has too
    && answers s (set_mark mega 2 ∷ load_word mega ∷ load_word 0xA04000 ∷ load_word 0 ∷ []) (ok ∷ value 17 7 1 ∷ value 19 7 0 ∷ value 16 12 0 ∷ [])
    -- 4 + 4 * 3 - 5 and 4 + 4 * 3 - 5 * 2, then 4 + 4 * 4 - 5 and 4 + 4 * 4 - 5 * 2
    && answers s (set_mark 0 3 ∷ load_word mega ∷ load_word giga ∷ set_mark 0 4 ∷ load_word mega ∷ load_word giga ∷ []) (ok ∷ value 17 11 1 ∷ value 18 6 0 ∷ ok ∷ value 17 15 1 ∷ value 18 10 0 ∷ [])

-- the counts: 4 for the root, 5 for each entry that leads to a table, and the entry's own word
unfoldable pub malformed_lines : State → Bool
malformed_lines s =
    -- bit 7 at level 4, be its frame number 0; bit 7 at level 1 is ignored
    answers s (load_word 0 ∷ device_word 0 0x83 ∷ load_word 0 ∷ device_word 0 0x1083 ∷ load_word 0 ∷ []) (value 16 4 1 ∷ done 4 1 ∷ malformed_at 4 5 1 ∷ done 4 0 ∷ malformed_at 4 5 1 ∷ [])
    -- at level 2 a frame number with one of bits 12 to 20 of the entry; bit 21 is one that it may have: it leads to guest frame 1024 + 3, whose
    -- host walk ends after three words
    && answers s (device_word mega_entry 0x201083 ∷ load_word mega ∷ device_word mega_entry 0x300083 ∷ load_word mega ∷ device_word mega_entry 0x400083 ∷ load_word mega ∷ [])
    (done 4 0 ∷ malformed_at 2 15 1 ∷ done 4 0 ∷ malformed_at 2 15 1 ∷ done 4 0 ∷ host_absent 1027 18 1 ∷ [])
    -- at level 3 one of bits 12 to 29
    && answers s (device_word giga_entry 0x40001083 ∷ load_word giga ∷ device_word giga_entry 0x60000083 ∷ load_word giga ∷ []) (done 4 0 ∷ malformed_at 3 10 1 ∷ done 4 0 ∷ malformed_at 3 10 1 ∷ [])

unfoldable pub fault_lines : State → Bool
fault_lines s =
    -- P with the level where the walk ends, before the page's host walk: guest frame 513 is not mapped. In a direct part after two shadow entries
    answers s (device_word mega_entry 0x200081 ∷ store_word mega 1 ∷ store_word 0xA01000 1 ∷ load_word mega ∷ store_word mega 1 ∷ set_mark 0 2 ∷ store_word mega 1 ∷ [])
    (done 4 0 ∷ protected_at 2 15 1 ∷ protected_at 2 15 1 ∷ value 17 4 1 ∷ protected_at 2 15 1 ∷ ok ∷ protected_at 2 3 1 ∷ [])
    -- so too where an entry above is the one that is not writable
    && answers s (device_word giga_entry 0x40000081 ∷ store_word giga 1 ∷ device_word giga_entry 0x40000083 ∷ device_word 0 0x1001 ∷ store_word giga 1 ∷ []) (done 4 0 ∷ protected_at 3 10 1 ∷ done 4 0 ∷ done 4 0 ∷ protected_at 3 10 1 ∷ [])
    -- H and W with the page's own guest frame. The host walk of 0x40000, 0 1 0 0, ends after three words
    && answers s (load_word 0xA01000 ∷ load_word 0xC0402000 ∷ load_word 0xC0000000 ∷ []) (host_absent 513 19 1 ∷ host_absent 0x40402 14 1 ∷ host_absent 0x40000 13 1 ∷ [])
    && answers s (map 515 17 false ∷ map 0x40401 18 false ∷ store_word mega 1 ∷ store_word giga 1 ∷ load_word mega ∷ []) (ok ∷ ok ∷ host_read_only 515 19 1 ∷ host_read_only 0x40401 14 1 ∷ value 17 4 1 ∷ [])

unfoldable pub drop_lines : State → Bool
drop_lines s =
    -- another frame of the large page, and its first one, mapped anew: nothing; the frame of the path: it drops
    answers s (load_word mega ∷ map 516 18 true ∷ map 512 18 true ∷ load_word mega ∷ map 515 19 true ∷ load_word mega ∷ []) (value 17 4 1 ∷ ok ∷ ok ∷ value 17 4 0 ∷ ok ∷ value 19 4 1 ∷ [])
    -- the large entry is stored to, with the value that it has: its frame is watched, and the path drops. The table of level 1 is not watched
    && answers s (load_word mega ∷ device_word 0x2020 0 ∷ load_word mega ∷ device_word mega_entry 0x200083 ∷ load_word mega ∷ device_word 0x3028 0 ∷ load_word mega ∷ [])
    (value 17 4 1 ∷ done 4 1 ∷ value 17 4 0 ∷ done 4 1 ∷ value 17 4 1 ∷ done 4 0 ∷ value 17 4 0 ∷ [])
    && answers s (load_word giga ∷ device_word giga_entry 0x40000083 ∷ load_word giga ∷ device_word 0x2000 0x3003 ∷ load_word giga ∷ []) (value 18 4 1 ∷ done 4 1 ∷ value 18 4 1 ∷ done 4 0 ∷ value 18 4 0 ∷ [])
    -- a mark over it is set, and cleared: it drops, though its depth stays 0; one beside it does nothing
    && answers s (load_word mega ∷ set_mark mega 1 ∷ load_word mega ∷ set_mark 0 1 ∷ load_word mega ∷ clear_mark mega 1 ∷ load_word mega ∷ []) (value 17 4 1 ∷ ok ∷ value 17 4 1 ∷ ok ∷ value 17 4 0 ∷ ok ∷ value 17 4 1 ∷ [])

-- under a mark of level 1 two frames of a large page are two paths all the same; under one of level 2 they are one
unfoldable pub stretch_lines : State → Bool
stretch_lines s =
    let day : List Call = load_word mega ∷ load_word 0xA04000 ∷ store_word mega 1 ∷ [] in
    costs s (set_mark mega 1 ∷ []) day 2 && costs s (set_mark mega 2 ∷ []) day 1

-- with bits on. The guest loads the entries themselves
unfoldable pub bit_lines : State → Bool
bit_lines s =
    -- a load sets bit 5 in the large entry; a store, which refills the path, bit 6 too, and above it bit 5 alone
    answers s (load_word mega ∷ load_word mega_entry ∷ store_word mega 1 ∷ store_word mega 1 ∷ load_word mega_entry ∷ load_word 0x1000 ∷ []) (value 17 4 1 ∷ value 0x2000A3 4 1 ∷ done 4 1 ∷ done 4 0 ∷ value 0x2000E3 4 0 ∷ value 0x2023 4 1 ∷ [])
    && answers s (store_word giga 1 ∷ load_word giga_entry ∷ []) (done 4 1 ∷ value 0x400000E3 4 1 ∷ [])
    -- W for the bit, with the plain count of a granted request: at depth 0, under a mark of level 1 too, and at depth 2, where the direct part
    -- reads the entry
    && answers s (map 2 14 false ∷ set_mark mega 1 ∷ load_word mega ∷ set_mark mega 2 ∷ load_word mega ∷ []) (ok ∷ ok ∷ host_read_only 2 19 1 ∷ ok ∷ host_read_only 2 19 2 ∷ [])

-- with the choice on. A store to the large entry drops its path, and is charged to nobody: three set no mark, which would make the page 0 0 5 0
-- cost 8 once the entry leads to a table
unfoldable pub choice_lines : State → Bool
choice_lines s =
    answers s
    (load_word mega ∷ store_word mega_entry 0x200083 ∷ load_word mega ∷ store_word mega_entry 0x200083 ∷ load_word mega ∷ store_word mega_entry 0x200083 ∷ store_word mega_entry 0x3003 ∷ load_word 0xA00000 ∷ [])
    (value 17 4 1 ∷ done 4 2 ∷ value 17 4 1 ∷ done 4 1 ∷ value 17 4 1 ∷ done 4 1 ∷ done 4 1 ∷ value 16 4 1 ∷ [])

-- with five levels, a guest of one frame: entry 0 of its table leads to itself, and entry 1 does so with bit 7. A large page saves 6 a level:
-- 29 and 23 of 35. Bit 7 is malformed at levels 4 and 5
unfoldable pub five_lines : Bool
five_lines =
    let c : Config = config_of 5 64 5632 5 5 false in
    let s : State = after (map 0 10 true ∷ []) (from (begun (opening c false (replicate 5120 0 ++ frame (3 ∷ 0x83 ∷ []) [])))) in
    answers s (load_word 0x200000 ∷ load_word 0x40000000 ∷ load_word (2 ^ 39) ∷ load_word (2 ^ 48) ∷ set_mark 0 6 ∷ load_word 0 ∷ load_word 0x200000 ∷ load_word 0x40000000 ∷ [])
    (value 3 5 1 ∷ value 3 5 1 ∷ malformed_at 4 12 1 ∷ malformed_at 5 6 1 ∷ ok ∷ value 3 35 0 ∷ value 3 29 0 ∷ value 3 23 0 ∷ [])
