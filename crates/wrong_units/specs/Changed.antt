-- A table of calls with one call changed, whatever a call yields; several changes are put one on the other. So a wrong unit says only where
-- it is wrong, and a call that the specification gains is a line here and none there.
-- Assumes nothing.
use Rattle.std.specs.Prelude.{ℕ, Bool, List}
use Rattle.spec.specs.Call.{Call, root, map, unmap, set_mark, clear_mark, load, store, device, forecast}
use Rattle.words.specs.After.{After}
use Rattle.record.specs.declared.Record.{Record}
use Rattle.calls.specs.declared.Reply.{Reply}

-- what a call does with a record and its memory
abbrev pub Does : Type 0
Does = Record → List ℕ → After Reply

abbrev pub on_loads : {A : Type 0} → (ℕ → ℕ → A) → (Call → A) → Call → A
on_loads does calls (load a w) = does a w
on_loads does calls (root g) = calls (root g)
on_loads does calls (map g f w) = calls (map g f w)
on_loads does calls (unmap g) = calls (unmap g)
on_loads does calls (set_mark a n) = calls (set_mark a n)
on_loads does calls (clear_mark a n) = calls (clear_mark a n)
on_loads does calls (store a w v) = calls (store a w v)
on_loads does calls (device a w v) = calls (device a w v)
on_loads does calls (forecast xs) = calls (forecast xs)

abbrev pub on_stores : {A : Type 0} → (ℕ → ℕ → ℕ → A) → (Call → A) → Call → A
on_stores does calls (store a w v) = does a w v
on_stores does calls (root g) = calls (root g)
on_stores does calls (map g f w) = calls (map g f w)
on_stores does calls (unmap g) = calls (unmap g)
on_stores does calls (set_mark a n) = calls (set_mark a n)
on_stores does calls (clear_mark a n) = calls (clear_mark a n)
on_stores does calls (load a w) = calls (load a w)
on_stores does calls (device a w v) = calls (device a w v)
on_stores does calls (forecast xs) = calls (forecast xs)

abbrev pub on_devices : {A : Type 0} → (ℕ → ℕ → ℕ → A) → (Call → A) → Call → A
on_devices does calls (device a w v) = does a w v
on_devices does calls (root g) = calls (root g)
on_devices does calls (map g f w) = calls (map g f w)
on_devices does calls (unmap g) = calls (unmap g)
on_devices does calls (set_mark a n) = calls (set_mark a n)
on_devices does calls (clear_mark a n) = calls (clear_mark a n)
on_devices does calls (load a w) = calls (load a w)
on_devices does calls (store a w v) = calls (store a w v)
on_devices does calls (forecast xs) = calls (forecast xs)

abbrev pub on_roots : {A : Type 0} → (ℕ → A) → (Call → A) → Call → A
on_roots does calls (root g) = does g
on_roots does calls (map g f w) = calls (map g f w)
on_roots does calls (unmap g) = calls (unmap g)
on_roots does calls (set_mark a n) = calls (set_mark a n)
on_roots does calls (clear_mark a n) = calls (clear_mark a n)
on_roots does calls (load a w) = calls (load a w)
on_roots does calls (store a w v) = calls (store a w v)
on_roots does calls (device a w v) = calls (device a w v)
on_roots does calls (forecast xs) = calls (forecast xs)

abbrev pub on_maps : {A : Type 0} → (ℕ → ℕ → Bool → A) → (Call → A) → Call → A
on_maps does calls (map g f w) = does g f w
on_maps does calls (root g) = calls (root g)
on_maps does calls (unmap g) = calls (unmap g)
on_maps does calls (set_mark a n) = calls (set_mark a n)
on_maps does calls (clear_mark a n) = calls (clear_mark a n)
on_maps does calls (load a w) = calls (load a w)
on_maps does calls (store a w v) = calls (store a w v)
on_maps does calls (device a w v) = calls (device a w v)
on_maps does calls (forecast xs) = calls (forecast xs)

abbrev pub on_unmaps : {A : Type 0} → (ℕ → A) → (Call → A) → Call → A
on_unmaps does calls (unmap g) = does g
on_unmaps does calls (root g) = calls (root g)
on_unmaps does calls (map g f w) = calls (map g f w)
on_unmaps does calls (set_mark a n) = calls (set_mark a n)
on_unmaps does calls (clear_mark a n) = calls (clear_mark a n)
on_unmaps does calls (load a w) = calls (load a w)
on_unmaps does calls (store a w v) = calls (store a w v)
on_unmaps does calls (device a w v) = calls (device a w v)
on_unmaps does calls (forecast xs) = calls (forecast xs)

abbrev pub on_sets : {A : Type 0} → (ℕ → ℕ → A) → (Call → A) → Call → A
on_sets does calls (set_mark a n) = does a n
on_sets does calls (root g) = calls (root g)
on_sets does calls (map g f w) = calls (map g f w)
on_sets does calls (unmap g) = calls (unmap g)
on_sets does calls (clear_mark a n) = calls (clear_mark a n)
on_sets does calls (load a w) = calls (load a w)
on_sets does calls (store a w v) = calls (store a w v)
on_sets does calls (device a w v) = calls (device a w v)
on_sets does calls (forecast xs) = calls (forecast xs)

abbrev pub on_clears : {A : Type 0} → (ℕ → ℕ → A) → (Call → A) → Call → A
on_clears does calls (clear_mark a n) = does a n
on_clears does calls (root g) = calls (root g)
on_clears does calls (map g f w) = calls (map g f w)
on_clears does calls (unmap g) = calls (unmap g)
on_clears does calls (set_mark a n) = calls (set_mark a n)
on_clears does calls (load a w) = calls (load a w)
on_clears does calls (store a w v) = calls (store a w v)
on_clears does calls (device a w v) = calls (device a w v)
on_clears does calls (forecast xs) = calls (forecast xs)

abbrev pub on_forecasts : {A : Type 0} → (List ℕ → A) → (Call → A) → Call → A
on_forecasts does calls (forecast xs) = does xs
on_forecasts does calls (root g) = calls (root g)
on_forecasts does calls (map g f w) = calls (map g f w)
on_forecasts does calls (unmap g) = calls (unmap g)
on_forecasts does calls (set_mark a n) = calls (set_mark a n)
on_forecasts does calls (clear_mark a n) = calls (clear_mark a n)
on_forecasts does calls (load a w) = calls (load a w)
on_forecasts does calls (store a w v) = calls (store a w v)
on_forecasts does calls (device a w v) = calls (device a w v)
