-- A move leaves a record in its ranges.
use mathlib.Core.Path.{◌≡◌, refl}
use Prim.Native.Nat.{ℕ, suc, ◌≤◌}
use native.Mathlib.Omega.{arith}
use borrow.Author.Tests.{ltb-true}
use mathlib.Core.Bool.{Bool, true, false, not, cond}
use mathlib.Core.List.{List}
use lib.Dec.{eqb, ltb}
use lib.Count.{ones}
use lib.ListN.{length, take, length-take}
use Rattle.spec_laws.proofs.Choice.{keep_most}
use Rattle.marks.specs.declared.Marks.{Marks}
use Rattle.marks.specs.Table.{room}
use Rattle.choice.specs.declared.Choice.{Choice}
use Rattle.choice.specs.Order.{without_of, with_of, leaving_of, place_by}
use Rattle.record.specs.declared.Record.{Record}
use Rattle.record.specs.Record.{config_of, head_tables, with_marks}
use Rattle.drops.proofs.Fresh.{prefix_fits_lem}
use Rattle.drops.specs.Drop.{drop_prefix_of}
use Rattle.spec.specs.Entry.{indexes}
use Rattle.automatic.specs.Moves.{Sound, Ready, moved, marked_of, withdrawn_of, room_made_of}

-- so many automatic marks
abbrev pub Few : Choice → Type 0
Few x = x.tally.count ≤ room

pub without_few : (x : Choice) (i : ℕ) → Few x → Few (without_of x i)
unfolding without_of
without_few x i f =
    let k = keep_most (λ j. not (eqb i j)) (take x.tally.count x.order) in
    let l = length-take x.tally.count x.order in
    omega arith

pub with_few : (x : Choice) (i : ℕ) → Few x → Few (with_of x i)
unfolding with_of
with_few x i f = go (ltb x.tally.count room) refl
  where
    go : (b : Bool) → ltb x.tally.count room ≡ b → Few (cond b (record { tally = record { on = x.tally.on; charged = x.tally.charged; at = x.tally.at; count = suc x.tally.count }; ring = x.ring; order = lib.ListN.set x.order x.tally.count i }) x)
    go true e = let k = ltb-true x.tally.count room e in omega arith
    go false e = f

pub marked_ready : (r : Record) (m : List ℕ) (k p : ℕ) (t : Marks) (x : Choice) → Ready r → Few x → Ready (marked_of r m k p t x).result.unit
unfolding marked_of with_marks head_tables
marked_ready r m k p t x s f = go (drop_prefix_of (config_of r) r.pools.shadow m (indexes k p)).result.ok
  where
    go : (b : Bool) → Ready (cond b (moved (record {
      layout = r.layout;
      pools = record { host = r.pools.host; shadow = (drop_prefix_of (config_of r) r.pools.shadow m (indexes k p)).result.pool };
      guest = record { root = r.guest.root; held = Rattle.automatic.specs.Moves.held_after k r.guest.held; marks = t; choice = x };
    }) true (drop_prefix_of (config_of r) r.pools.shadow m (indexes k p)).memory) (moved r false (drop_prefix_of (config_of r) r.pools.shadow m (indexes k p)).memory)).result.unit
    go true = ((s.0.0, prefix_fits_lem (config_of r) r.pools.shadow m (indexes k p) s.0.1), s.1, f)
    go false = s

pub room_ready : (r : Record) (m : List ℕ) → Ready r → Ready (room_made_of r m).result.unit
unfolding room_made_of withdrawn_of
room_ready r m s = go (ltb (ones r.guest.marks.set) room) (eqb r.guest.choice.tally.count 0)
    (place_by (leaving_of r.layout.levels r.guest.choice.ring r.guest.choice.tally r.guest.choice.order r.guest.marks.place))
  where
    go : (b d : Bool) (i : ℕ) → Ready (cond b (moved r true m) (cond d (moved r true m) (withdrawn_of r m i))).result.unit
    go true d i = s
    go false true i = s
    go false false i = marked_ready r m _ _ _ (without_of r.guest.choice i) s (without_few r.guest.choice i s.2)
