-- The indexes of an address in its two parts, and the reply of a request by its translation.
-- Assumes nothing.
use mathlib.Core.Path.{◌≡◌, refl, sym, ap, ◌∙◌}
use Prim.Native.Nat.{ℕ, ◌+◌, ◌-◌, ◌*◌, ◌/◌, ◌^◌, ◌≤◌}
use native.Mathlib.Omega.{arith}
use mathlib.Core.Bool.{Bool, cond}
use mathlib.Core.List.{List, ◌++◌}
use lib.ListN.{take, drop}
use lib.Seq.{drop-append_seam}
use Rattle.spec.specs.declared.Fault.{Fault}
use Rattle.spec.specs.declared.Fault.TheVariants as fault
use Rattle.spec.specs.Config.{Config}
use Rattle.spec.specs.Entry.{indexes, page_of}
use Rattle.spec.specs.Walk.{Result, granted, failed}
use Rattle.spec.specs.Plain.{Place, upper}
use Rattle.spec.specs.Call.{address_indexes}
use Rattle.spec.specs.Count.{host_exit}
use Rattle.spec_laws.proofs.Indexes.{indexes_length, indexes_split, indexes_take}
use Rattle.walk.proofs.Stands.{plain_walked}
use Rattle.translate.specs.Translate.{exit_by, path_indexes}
use Rattle.request.specs.Access.{finish_by, load_by, store_by, refused}
use Rattle.translate.specs.declared.Held.{Held as Holding}
use Rattle.request.specs.declared.Put.{Put}
use Rattle.translate.specs.declared.Translated.{Translated}
use Rattle.walk.specs.declared.Walked.{Walked}
use Rattle.words.specs.After.{After}
use Rattle.record.specs.declared.Record.{Record}
use Rattle.record.specs.Record.{config_of, head_tables}
use Rattle.calls.specs.declared.Reply.{Reply}
use Rattle.calls.specs.Calls.{held_of, head_held, with_held, served_by}

-- the path of an address at depth d, and the indexes below it
pub path_upper : (c : Config) (d a : ℕ) → d ≤ c.levels → upper c d (address_indexes c a) ≡ path_indexes c d a
path_upper c d a l =
    let n : c.levels - d + d ≡ c.levels = omega arith in
    ap (λ k. take (c.levels - d) (indexes k (page_of a))) (sym n) ∙ indexes_take (c.levels - d) d (page_of a)

pub path_lower : (c : Config) (d a : ℕ) → d ≤ c.levels → drop (c.levels - d) (address_indexes c a) ≡ indexes d (page_of a)
path_lower c d a l =
    let n : c.levels - d + d ≡ c.levels = omega arith in
    let xs = indexes (c.levels - d) (page_of a / 2 ^ (9 * d)) in
    ap (λ k. drop (c.levels - d) (indexes k (page_of a))) (sym n)
    ∙ ap (drop (c.levels - d)) (indexes_split (c.levels - d) d (page_of a))
    ∙ ap (λ k. drop k (xs ++ indexes d (page_of a))) (sym (indexes_length (c.levels - d) (page_of a / 2 ^ (9 * d))))
    ∙ drop-append_seam xs (indexes d (page_of a))

-- H and W are the faults that call the monitor
pub exit_is : (x : Result Fault Place) (n : ℕ) → exit_by (plain_walked x n) ≡ host_exit x
exit_is (granted r) n = refl
exit_is (failed (fault.Absent l)) n = refl
exit_is (failed (fault.Malformed l)) n = refl
exit_is (failed (fault.Protected l)) n = refl
exit_is (failed (fault.HostAbsent g)) n = refl
exit_is (failed (fault.HostReadOnly g)) n = refl

-- ---- the replies of requests, by their translation

-- a request that leaves what was held leaves the record
pub held_same : (r : Record) → with_held r (held_of r) ≡ r
unfolding head_held head_tables
held_same r = refl

abbrev pub loaded_by : Record → ℕ → ℕ → (List ℕ → List ℕ) → After Translated → Walked → After Reply
loaded_by r a w set o x = served_by r (load_by (held_of r) a w set o x)

abbrev pub stored_by : Record → ℕ → ℕ → ℕ → (List ℕ → List ℕ) → After Translated → Walked → After Reply
stored_by r a w v set o x = served_by r (store_by (config_of r) (held_of r) a w v set o x)

-- a store that came to its bytes, by whether the drops before it met no damage
abbrev pub written_in : Record → Holding → ℕ → ℕ → ℕ → ℕ → ℕ → ℕ → (List ℕ → List ℕ) → After Put → Bool → After Reply
written_in r h n e t a w v set x b = served_by r (cond b (finish_by h n e t a w v x.result (set x.memory)) (refused (held_of r) 11 x.memory))
