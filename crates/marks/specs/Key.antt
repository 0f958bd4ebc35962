-- A mark in one word, its key: the level in the low three bits, above them the indexes that it keeps, as one number.
-- So an address begins with them where its page number, shifted by the levels below, equals that number. The bits of an address
-- above its indexes, all set in the upper half, are in no key.
use Rattle.std.specs.Prelude.{ℕ, suc, ◌+◌, ◌-◌, ◌*◌, ◌/◌, ◌%◌, ◌^◌, Bool, true, not, ◌&&◌, cond, List, [], ◌∷◌, eqb, leb, ltb}
use Rattle.spec.specs.declared.Lookup.{Lookup}
use Rattle.spec.specs.Entry.{page_of}
use Rattle.spec.specs.Prefix.{any}
use Rattle.spec.specs.Search.{nothing, more}

-- the page number in the low bits of an address: those that its n indexes take
unfoldable pub low_page : ℕ → ℕ → ℕ
low_page n a = page_of a % 2 ^ (9 * n)

-- the key of the mark of level n at the page p
unfoldable pub key_of : ℕ → ℕ → ℕ
key_of n p = p / 2 ^ (9 * n) * 8 + n

-- and at an address, of that many levels
abbrev pub key_at : ℕ → ℕ → ℕ → ℕ
key_at levels n a = key_of n (low_page levels a)

-- the level of the key k where the page p begins with its indexes, else 0
unfoldable pub level_at : ℕ → ℕ → ℕ
level_at p k = cond (eqb (p / 2 ^ (9 * (k % 8))) (k / 8)) (k % 8) 0

-- the search among the keys at the page p, of n levels: the greatest level among those whose indexes it begins with, 0 if there is none,
-- and how many were read. It ends once a level is above all n, which only the key of level n + 1 has where all keys fit
unfoldable pub search_of : ℕ → ℕ → List ℕ → Lookup
search_of n p [] = nothing
search_of n p (k ∷ ks) = more (level_at p k) (cond (ltb n (level_at p k)) nothing (search_of n p ks))

-- a key of n levels: its level is 1 to n + 1, and above the level stand only the n − level indexes that it keeps
unfoldable pub key_fits : ℕ → ℕ → Bool
key_fits n k = leb 1 (k % 8) && leb (k % 8) (suc n) && ltb (k / 8) (2 ^ (9 * (n - k % 8)))

-- each key fits, and all are different
unfoldable pub keys_fit : ℕ → List ℕ → Bool
keys_fit n [] = true
keys_fit n (k ∷ ks) = key_fits n k && not (any (eqb k) ks) && keys_fit n ks

-- each key fits, and is greater than the one before it: the first than `last`
unfoldable pub ascending : ℕ → ℕ → List ℕ → Bool
ascending n last [] = true
ascending n last (k ∷ ks) = ltb last k && key_fits n k && ascending n k ks
