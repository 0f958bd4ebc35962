-- The operator's marks among automatic ones: which are theirs, whether there is room for one more, and why a set or a clear is refused.
use Rattle.std.specs.Prelude.{ℕ, Bool, not, ◌&&◌, ◌||◌, List, [], ◌∷◌, ltb}
use Rattle.std.proofs.Math.Option.{Option}
use Rattle.std.specs.Int.Count.{ones}
use Rattle.spec.specs.Refusal.{first_failed, address_fits, level_fits}
use Rattle.entry.specs.Levels.{of_levels}
use Rattle.marks.specs.declared.Marks.{Marks}
use Rattle.marks.specs.Key.{key_at}
use Rattle.marks.specs.Table.{place_of}
use Rattle.choice.specs.declared.Tally.{Tally}
use Rattle.choice.specs.Window.{room}
use Rattle.choice.specs.Order.{automatic_at}

-- is the mark with the key k set, and the operator's?
unfoldable pub owned_in : Tally → List ℕ → Marks → ℕ → Bool
owned_in t order marks k =
    ltb (place_of marks.place marks.set k) room && not (automatic_at t.count order (place_of marks.place marks.set k))

-- a place is free, or an automatic mark can leave
unfoldable pub room_in : Tally → Marks → Bool
room_in t marks = ltb (ones marks.set) room || ltb 0 t.count

-- a mark is set, of n levels: 4 if the address is not legal, 5 if there is no such level, 6 if it is the operator's already, 7 if there is no room
abbrev pub set_tests : ℕ → Tally → List ℕ → Marks → ℕ → ℕ → List (Bool × ℕ)
set_tests n t order marks a level =
    (address_fits (of_levels n) a, 4) ∷ (level_fits (of_levels n) level, 5) ∷ (not (owned_in t order marks (key_at n level a)), 6) ∷ (room_in t marks, 7) ∷ []

unfoldable pub set_refusal : ℕ → Tally → List ℕ → Marks → ℕ → ℕ → Option ℕ
set_refusal n t order marks a level = first_failed (set_tests n t order marks a level)

-- a mark is cleared: 4 and 5 as above, 6 if it is not the operator's
abbrev pub clear_tests : ℕ → Tally → List ℕ → Marks → ℕ → ℕ → List (Bool × ℕ)
clear_tests n t order marks a level =
    (address_fits (of_levels n) a, 4) ∷ (level_fits (of_levels n) level, 5) ∷ (owned_in t order marks (key_at n level a), 6) ∷ []

unfoldable pub clear_refusal : ℕ → Tally → List ℕ → Marks → ℕ → ℕ → Option ℕ
clear_refusal n t order marks a level = first_failed (clear_tests n t order marks a level)
