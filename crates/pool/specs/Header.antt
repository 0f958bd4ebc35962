-- The words of a table. An entry is the low 52 bits of a word; the high 12 bits of words 0 to 8 hold the table's header:
-- its level, the frame of the table above it, its slot there, and the guest number, which says what it stands for.
-- No rule of document 01 reads those bits: an entry's rules end at bit 51.
-- Assumes nothing.
use Rattle.std.specs.Prelude.{ℕ, zero, suc, ◌+◌, ◌-◌, ◌*◌, ◌/◌, ◌%◌, List, [], ◌∷◌, Bool, true, false, cond, ltb}
use Rattle.spec.specs.Entry.{present, entry_limit}
use Rattle.words.specs.Words.{word_in, set_in}

-- the entry at index i of the table in frame f
unfoldable pub entry_at_of : List ℕ → ℕ → ℕ → ℕ
entry_at_of m f i = word_in m f i % entry_limit

-- the header bits of word k
unfoldable pub high_of : List ℕ → ℕ → ℕ → ℕ
high_of m f k = word_in m f k / entry_limit

-- the memory with entry i of the table in frame f set to e; the header bits stay
unfoldable pub put_entry_of : List ℕ → ℕ → ℕ → ℕ → List ℕ
put_entry_of m f i e = set_in m f i (word_in m f i / entry_limit * entry_limit + e % entry_limit)

-- a frame number in the bits of words i and i + 1
abbrev pub frame_at : List ℕ → ℕ → ℕ → ℕ
frame_at m f i = high_of m f i % 4096 + high_of m f (i + 1) % 16 * 4096

-- a guest number has 64 bits; one below 65536 is the host frame of a guest table
abbrev pub guest_room : ℕ
guest_room = 18446744073709551616

-- its upper 48 bits, in words 5 to 8
abbrev pub upper_of : List ℕ → ℕ → ℕ
upper_of m f = high_of m f 5 % 4096 + 4096 * (high_of m f 6 % 4096 + 4096 * (high_of m f 7 % 4096 + 4096 * (high_of m f 8 % 4096)))

unfoldable pub guest_of : List ℕ → ℕ → ℕ
guest_of m f = frame_at m f 0 + 65536 * upper_of m f

-- the level of the table; 0 says that the frame is no table
unfoldable pub level_of : List ℕ → ℕ → ℕ
level_of m f = high_of m f 1 / 16 % 8

-- the frame of the table above
unfoldable pub parent_of : List ℕ → ℕ → ℕ
parent_of m f = frame_at m f 2

-- the index of its entry there
unfoldable pub slot_of : List ℕ → ℕ → ℕ
slot_of m f = high_of m f 4 % 512

-- the words of frame f from word k on are written, with these header bits and no entry
unfoldable pub written : List ℕ → ℕ → ℕ → List ℕ → List ℕ
written m f k [] = m
written m f k (v ∷ vs) = written (set_in m f k (v * entry_limit)) f (suc k) vs

-- the header bits of words 5 to 8, and of words 0 to 8
abbrev pub upper_bits : ℕ → List ℕ
upper_bits upper = (upper % 4096) ∷ (upper / 4096 % 4096) ∷ (upper / 4096 / 4096 % 4096) ∷ (upper / 4096 / 4096 / 4096 % 4096) ∷ []

abbrev pub header_bits : ℕ → ℕ → ℕ → ℕ → List ℕ
header_bits guest level parent slot =
    (guest % 4096) ∷ (guest / 4096 % 16 + level % 8 * 16) ∷ (parent % 4096) ∷ (parent / 4096 % 16) ∷ (slot % 512) ∷ upper_bits (guest / 65536)

-- a header is written into a frame of zeros
unfoldable pub header_of : List ℕ → ℕ → ℕ → ℕ → ℕ → ℕ → List ℕ
header_of m f guest level parent slot = written m f 0 (header_bits guest level parent slot)

-- is f one of the s frames from b on?
unfoldable pub inside_of : ℕ → ℕ → ℕ → Bool
inside_of b s f = cond (ltb f b) false (ltb (f - b) s)

-- none of the first k entries is present
unfoldable pub bare_of : List ℕ → ℕ → ℕ → Bool
bare_of m f zero = true
bare_of m f (suc k) = cond (present (entry_at_of m f k)) false (bare_of m f k)
