-- Loads worked out by hand. Document 02, request 10.
-- Assumes nothing.
use Rattle.std.specs.Prelude.{ℕ, ◌≡◌, refl, List, [], ◌∷◌, ◌++◌}
use Rattle.job_records.specs.Encoded.{call_bytes}
use Rattle.load_spec.specs.Load.{drawn_by, calls_from, bytes_all, load_of, load_by}

-- open 4 4
abbrev start : List ℕ
start = 6 ∷ 0 ∷ 1 ∷ 0 ∷ 4 ∷ 0 ∷ 4 ∷ 0 ∷ []

-- seed 1 draws, divided by 65,536: 16838, 5758, 10113; 17515, 31051, 5627; 23010, 7419.
-- 16838 = 8 · 2104 + 6, kind 8; 5758 = 4096 + 1662, address 13296 = 0x33f0; 10113 = 16 · 632 + 1, value 0x1003.
-- 17515 = 8 · 2189 + 3, kind 5; 31051 = 7 · 4096 + 2379, address 19032 = 0x4a58; 5627 = 5 · 1125 + 2, level 3.
-- 23010 = 8 · 2876 + 2, kind 4; 7419 = 16 · 463 + 11
abbrev stored : List ℕ
stored = 18 ∷ 0 ∷ 8 ∷ 0 ∷ 240 ∷ 51 ∷ 0 ∷ 0 ∷ 0 ∷ 0 ∷ 0 ∷ 0 ∷ 3 ∷ 16 ∷ 0 ∷ 0 ∷ 0 ∷ 0 ∷ 0 ∷ 0 ∷ []

abbrev marked : List ℕ
marked = 11 ∷ 0 ∷ 5 ∷ 0 ∷ 88 ∷ 74 ∷ 0 ∷ 0 ∷ 0 ∷ 0 ∷ 0 ∷ 0 ∷ 3 ∷ []

abbrev unmapped : List ℕ
unmapped = 10 ∷ 0 ∷ 4 ∷ 0 ∷ 11 ∷ 0 ∷ 0 ∷ 0 ∷ 0 ∷ 0 ∷ 0 ∷ 0 ∷ []

pub three_records : load_of 1 3 ≡ start ++ stored ++ marked ++ unmapped
unfolding load_of bytes_all calls_from drawn_by call_bytes
three_records = refl

-- seed 0 draws 12345, whose quotient is 0: kind 2; then 21468 = 16 · 1341 + 12
pub first_kind : load_of 0 1 ≡ start ++ (10 ∷ 0 ∷ 2 ∷ 0 ∷ 12 ∷ 0 ∷ 0 ∷ 0 ∷ 0 ∷ 0 ∷ 0 ∷ 0 ∷ [])
unfolding load_of bytes_all calls_from drawn_by call_bytes
first_kind = refl

-- the last seed draws 15929 = 8 · 1991 + 1, kind 3; 4409 = 16 · 275 + 9; 9862 = 8 · 1232 + 6, host frame 14; 26718 is even: read-only
pub last_seed : load_of 2147483647 1 ≡ start ++ (19 ∷ 0 ∷ 3 ∷ 0 ∷ 9 ∷ 0 ∷ 0 ∷ 0 ∷ 0 ∷ 0 ∷ 0 ∷ 0 ∷ 14 ∷ 0 ∷ 0 ∷ 0 ∷ 0 ∷ 0 ∷ 0 ∷ 0 ∷ 0 ∷ [])
unfolding load_of bytes_all calls_from drawn_by call_bytes
last_seed = refl

-- seed 4 draws 1817 = 8 · 227 + 1, kind 3; 24166 = 16 · 1510 + 6; 10491 = 8 · 1311 + 3, host frame 11; 3711 is odd: writable
pub writable_map : load_of 4 1 ≡ start ++ (19 ∷ 0 ∷ 3 ∷ 0 ∷ 6 ∷ 0 ∷ 0 ∷ 0 ∷ 0 ∷ 0 ∷ 0 ∷ 0 ∷ 11 ∷ 0 ∷ 0 ∷ 0 ∷ 0 ∷ 0 ∷ 0 ∷ 0 ∷ 1 ∷ [])
unfolding load_of bytes_all calls_from drawn_by call_bytes
writable_map = refl

-- ---- the ends of the ranges

pub no_records : load_of 7 0 ≡ start
unfolding load_of bytes_all calls_from
no_records = refl

pub seed_too_large : load_of 2147483648 1 ≡ []
unfolding load_of
seed_too_large = refl

pub count_too_large : load_of 1 65536 ≡ []
unfolding load_of
count_too_large = refl

-- ---- the input

-- seed 1 and count 0
abbrev asked : List ℕ
asked = 1 ∷ 0 ∷ 0 ∷ 0 ∷ 0 ∷ 0 ∷ 0 ∷ 0 ∷ 0 ∷ 0 ∷ 0 ∷ 0 ∷ 0 ∷ 0 ∷ 0 ∷ []

pub cut_input : load_by asked ≡ []
unfolding load_by
cut_input = refl

pub whole_input : load_by (asked ++ (0 ∷ [])) ≡ start
unfolding load_by load_of bytes_all calls_from
whole_input = refl

pub later_bytes : load_by (asked ++ (0 ∷ 255 ∷ 255 ∷ [])) ≡ start
unfolding load_by load_of bytes_all calls_from
later_bytes = refl
