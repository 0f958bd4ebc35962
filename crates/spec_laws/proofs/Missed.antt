-- A request at depth d of at most N that no held path serves, by its verdict and its plain walk.
-- Assumes nothing.
use mathlib.Core.Path.{◌≡◌, sym, ap, ap₂, ◌∙◌}
use Prim.Native.Nat.{ℕ, ◌+◌, ◌-◌, ◌≤◌}
use mathlib.Core.Bool.{Bool, false, not, ◌&&◌, cond, and-true, or-true}
use mathlib.Core.Option.{Option}
use borrow.Author.Tests.{le-leb}
use lib.Dec.{eqb}
use Rattle.spec.specs.declared.Fault.{Fault}
use Rattle.spec.specs.Config.{Config}
use Rattle.spec.specs.Entry.{page_of}
use Rattle.spec.specs.Walk.{Result, granted, failed}
use Rattle.spec.specs.Plain.{Place, upper}
use Rattle.spec.specs.Machine.{Machine, world}
use Rattle.spec.specs.Bits.{owes, judged}
use Rattle.spec.specs.Book.{Book, find, holding, fill}
use Rattle.spec.specs.Call.{address_indexes, plain, verdict}
use Rattle.spec.specs.Count.{is_granted, serves, held_by, right_of, others, late_exit, shadowed, unshadowed, request}
use Rattle.spec_laws.proofs.Indexes.{indexes_length}
use Rattle.spec_laws.proofs.Parts.{shadow_fault, direct_result}
use Rattle.spec_laws.proofs.Counts.{shadow_of, direct_of}

module _ (c : Config) (m : Machine) (b : Book) (st : Bool) (a d : ℕ) (low : d ≤ c.levels)
    (missed : serves st d (find (upper c d (address_indexes c a)) b.held) ≡ false) where
  abbrev owing : Option (ℕ × ℕ)
  owing = owes c (world c m) st (plain c m st a)

  shadows : (x : Result Fault Place) → (shadow_of c m st a d).result ≡ x
      → request c m b st a d ≡ shadowed c (world c m) b st d (address_indexes c a) (upper c d (address_indexes c a)) false owing (shadow_of c m st a d) x
  unfolding request
  shadows x e =
      ap₂ (λ t k. cond t (shadowed c (world c m) b st d (address_indexes c a) (upper c d (address_indexes c a)) k owing (shadow_of c m st a d) (shadow_of c m st a d).result)
      (unshadowed b (plain c m st a).count (verdict c m st a))) (le-leb d c.levels low) missed
      ∙ ap (shadowed c (world c m) b st d (address_indexes c a) (upper c d (address_indexes c a)) false owing (shadow_of c m st a d)) e

  -- a fault in its shadow part is the plain walk's
  pub missed_fault : (x : Fault) → (shadow_of c m st a d).result ≡ failed x → request c m b st a d ≡ record { references = (plain c m st a).count; exits = 1; book = b }
  unfolding plain
  missed_fault x e =
      shadows (failed x) e
      ∙ ap (λ n. record { references = n; exits = 1; book = b }) (sym (shadow_fault (world c m) c st d m.root (address_indexes c a) x (indexes_length c.levels (page_of a)) low e).1)

  -- past it: with bits on one that is not granted counts as the plain walk does, and fills nothing
  pub missed_request : (r : Place) → (shadow_of c m st a d).result ≡ granted r
      → let quits = c.bits && not (is_granted (verdict c m st a)) in
      let p = upper c d (address_indexes c a) in
      let s = shadow_of c m st a d in
      request c m b st a d ≡ record {
        references = cond quits (plain c m st a).count ((c.levels - d) + (direct_of c m st a d r).count);
        exits = 1 + late_exit d (owes c (world c m) st (plain c m st a)) (plain c m st a).result;
        book = cond quits b (holding b (fill c (held_by p s (right_of c (world c m) st d s r.1)) (others c p b.held)));
      }
  unfolding plain verdict
  missed_request r e =
      let f = direct_result (world c m) c st d m.root (address_indexes c a) r (indexes_length c.levels (page_of a)) low e in
      let p = upper c d (address_indexes c a) in
      let s = shadow_of c m st a d in
      let t = direct_of c m st a d r in
      let quits : Result Fault Place → Bool = λ x. c.bits && not (is_granted (judged owing x)) in
      shadows (granted r) e
      ∙ ap₂ (λ k n. record {
        references = cond k n ((c.levels - d) + t.count);
        exits = 1 + late_exit d owing t.result;
        book = cond (quits t.result) b (holding b (fill c (held_by p s (right_of c (world c m) st d s r.1)) (others c p b.held)));
      }) (ap (λ k. quits t.result && k) (or-true (eqb d 0)) ∙ and-true (quits t.result)) (sym f.1)
      ∙ ap (λ x. record {
        references = cond (quits x) (plain c m st a).count ((c.levels - d) + t.count);
        exits = 1 + late_exit d owing x;
        book = cond (quits x) b (holding b (fill c (held_by p s (right_of c (world c m) st d s r.1)) (others c p b.held)));
      }) (sym f.0)
