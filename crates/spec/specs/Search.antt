-- The search for the depth of an address among the marks, in the order of their places. It ends where nothing is left to find, and
-- says how many marks it read. Document 02, 3). Which place a mark has is no matter of the book's: a record says it.
-- Assumes nothing.
use Rattle.std.specs.Prelude.{ℕ, suc, max, Bool, cond, List, [], ◌∷◌, eqb}
use Rattle.spec.specs.declared.Lookup.{Lookup}
use Rattle.spec.specs.Book.{Mark, level_for}

-- no mark is read
abbrev pub nothing : Lookup
nothing = record { depth = 0; read = 0 }

-- a mark is read that gives the address the level l, and then what f says
abbrev pub more : ℕ → Lookup → Lookup
more l f = record { depth = max l f.depth; read = suc f.read }

-- of n levels, a mark of level n + 1 holds for all addresses, and no level is above its own
abbrev pub ends : ℕ → Mark → Bool
ends n m = eqb m.level (suc n)

-- each mark is read, also one that does not hold for the address, up to one that ends the search
abbrev pub search : ℕ → List Mark → List ℕ → Lookup
search n [] is = nothing
search n (m ∷ ms) is = more (level_for m is) (cond (ends n m) nothing (search n ms is))
