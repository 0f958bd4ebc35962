-- A guest's address by its own promise. A device's shift leaves 0 exactly if the address is below that power of two; then the multiple.
use Prim.Native.Nat.{◌+◌}
use borrow.Author.Tests.{eq-eqb, ne_eqb}
use Rattle.spec.specs.Config.{frame_bits}
use Rattle.entry.specs.Levels.{of_levels}
use Rattle.entry.proofs.Entries.{shift_out}
use Rattle.calls.proofs.address_ok.Goals as goal

pub returns-then-not-device : goal.returns-then-not-device
returns-then-not-device c = rw (c.if-not-device.true) c.names_bytes.ensures

pub returns-then-address-frame_bits-eq0 : goal.returns-then-address-frame_bits-eq0
returns-then-address-frame_bits-eq0 c =
    let args = c.args in
    let frame-bits = c.frame_bits in
    let below = eq-eqb _ _ (rw frame-bits.ensures at c.if-address-frame_bits-eq0.true) in
    rw (c.if-not-device.false, ← shift_out args.address (12 + frame_bits (of_levels args.levels)), below) c.aligned.ensures

pub returns-else-address-frame_bits-eq0 : goal.returns-else-address-frame_bits-eq0
returns-else-address-frame_bits-eq0 c =
    let args = c.args in
    let frame-bits = c.frame_bits in
    let above = ne_eqb _ _ (rw frame-bits.ensures at c.if-address-frame_bits-eq0.false) in
    rw (c.if-not-device.false, ← shift_out args.address (12 + frame_bits (of_levels args.levels)), above)
