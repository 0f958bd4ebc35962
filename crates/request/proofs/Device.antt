-- The walk of a device store: the last step of a store's walk, with every right.
use mathlib.Core.Path.{◌≡◌, refl, ap}
use Prim.Native.Nat.{ℕ}
use mathlib.Core.Bool.{true}
use mathlib.Core.List.{List}
use Rattle.spec.specs.declared.Fault.{Fault}
use Rattle.spec.specs.declared.Fault.TheVariants.{HostReadOnly}
use Rattle.spec.specs.Config.{Config}
use Rattle.spec.specs.Walk.{Walk, done, ◌>>=◌, ◌>>◌}
use Rattle.spec.specs.Plain.{Place, must, hosted, next}
use Rattle.walk.specs.declared.Walked.{Walked}
use Rattle.walk.specs.declared.Walked.TheVariants as walked
use Rattle.walk.specs.Memory.{walked_of}
use Rattle.walk.proofs.Laws.{TurnFits, page_fits}
use Rattle.translate.proofs.Fits.{ArrivedIn}

-- a device store's walk: one host walk, then W if the frame is mapped read-only
abbrev pub device_script : ℕ → Walk Fault Place
device_script g = hosted g >>= λ p. must p.1 (HostReadOnly g) >> done p

device_script_lem : (g : ℕ) → next true true g true ≡ device_script g
unfolding next
device_script_lem g = refl

pub device_walk_lem : (c : Config) (ht : ℕ) (m : List ℕ) (g : ℕ) → walked_of c ht m 0 (next true true g true) ≡ walked_of c ht m 0 (device_script g)
device_walk_lem c ht m g = ap (walked_of c ht m 0) (device_script_lem g)

pub device_in : (c : Config) (ht : ℕ) (m : List ℕ) (g : ℕ) → ArrivedIn c (walked_of c ht m 0 (next true true g true))
device_in c ht m g = go (walked_of c ht m 0 (next true true g true)) (page_fits c ht m 0 true g true)
  where
    go : (r : Walked) → TurnFits c 0 r → ArrivedIn c r
    go (walked.Arrived w p n) f = f.0
    go (walked.Faulted x n) f = tt
    go walked.Damaged f = tt
