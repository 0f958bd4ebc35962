-- A part of a word, and the bytes of an access as a part of the word around them. Document 02, 4).
-- Assumes nothing.
use Rattle.std.specs.Prelude.{ℕ, ◌+◌, ◌*◌, ◌/◌, ◌%◌, ◌^◌, Bool, List, [], ◌∷◌, eqb}
use Rattle.spec.specs.Prefix.{any}

-- the n bits of the word e from bit k on, with zeros above them
unfoldable pub part : ℕ → ℕ → ℕ → ℕ
part n k e = e / 2 ^ k % 2 ^ n

-- the word e with the low n bits of v as that part: above it and below it the bits of e
unfoldable pub with_part : ℕ → ℕ → ℕ → ℕ → ℕ
with_part n k v e = (e / 2 ^ (n + k) * 2 ^ n + v % 2 ^ n) * 2 ^ k + e % 2 ^ k

-- an access takes so many bytes; another width is refused with 15
abbrev pub widths : List ℕ
widths = 1 ∷ 2 ∷ 4 ∷ 8 ∷ []

abbrev pub width_fits : ℕ → Bool
width_fits w = any (eqb w) widths

-- an access is at a multiple of its width, so that its bytes lie in one word
abbrev pub aligned : ℕ → ℕ → Bool
aligned a w = eqb (a % w) 0

-- the word's bytes are in the order of their addresses, the lowest bits first: those at an address begin at this bit
abbrev pub bit_of : ℕ → ℕ
bit_of a = 8 * (a % 8)

-- what a load of w bytes at the address a finds in the word e around them
unfoldable pub bytes_at : ℕ → ℕ → ℕ → ℕ
bytes_at a w e = part (8 * w) (bit_of a) e

-- that word after a store of the low w bytes of v there
unfoldable pub with_bytes : ℕ → ℕ → ℕ → ℕ → ℕ
with_bytes a w v e = with_part (8 * w) (bit_of a) v e
