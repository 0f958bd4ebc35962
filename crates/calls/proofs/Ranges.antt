-- What the tests of a call give: the ranges that the functions below it ask for.
use mathlib.Core.Path.{◌≡◌, sym, subst}
use mathlib.Core.Bool.{Bool, true, false, ◌&&◌, ◌||◌, and-eq-true_iff}
use Prim.Native.Nat.{ℕ, ◌<◌, ◌≤◌}
use native.Mathlib.Omega.{arith}
use lib.Dec.{T, eqb, leb}
use lib.ListN.{take}
use borrow.Author.Tests.{leb-true}
use Rattle.spec.specs.Bytes.{width_fits, aligned}
use Rattle.spec_laws.proofs.Bytes.{width_bounds, width_inside}
use Rattle.spec_laws.proofs.Lists.{and_right}
use Rattle.marks.proofs.Ascending.{level_below}
use Rattle.choice.specs.Order.{order_fits, choice_fits}
use Rattle.choice.proofs.Chosen.{may_set, may_clear}
use Rattle.automatic.specs.Moves.{Ready}
use Rattle.record.specs.declared.Record.{Record}
use Rattle.record.specs.Record.{config_of, fits_of}
use Rattle.record.proofs.Rules.{sized_layout, fits_layout}
use Rattle.translate.specs.Translate.{HeldFits}
use Rattle.request.specs.Access.{Inside}
use Rattle.calls.specs.Calls.{Sound, held_of, mark_refusal}

module _ (r : Record) (len : ℕ) (e : fits_of r len ≡ true) where
  pub fits_sound : Sound r
  fits_sound = let f = fits_layout r len e in (sized_layout f.sizes, f.shadow.0)

  -- what is held is in range
  pub fits_held : HeldFits (config_of r) (held_of r)
  fits_held = let f = fits_layout r len e in (f.shadow.0, f.held)

  pub fits_used : r.pools.shadow.used ≤ 65536
  fits_used = let f = fits_layout r len e in omega (arith, f.shadow.0, f.shadow.1, f.sizes.guest, f.sizes.frames)

  pub fits_levels : r.layout.levels < 6
  fits_levels = omega (arith, (fits_layout r len e).sizes.deep)

  pub fits_deep : 1 ≤ r.layout.levels
  fits_deep = omega (arith, (fits_layout r len e).sizes.deep)

  -- the marked levels that a large page may lie above
  pub fits_turns : 2 ≤ r.layout.levels
  fits_turns = omega (arith, (fits_layout r len e).sizes.deep)

-- the bytes of a request that passes its tests lie in one word; legal: its address is
pub fits_inside : (legal : Bool) (a w : ℕ) → width_fits w ≡ true → (legal && aligned a w) ≡ true → Inside a w
fits_inside legal a w d e =
    let t : T (width_fits w) = subst T (sym d) tt in
    ((width_bounds w t).0, width_inside a w t (and_right legal (aligned a w) (subst T (sym e) tt)))

-- what a mark's move is done with
module _ (r : Record) (len : ℕ) (e : fits_of r len ≡ true) where
  pub fits_ready : Ready r
  unfolding choice_fits
  fits_ready =
      let x = r.guest.choice in
      let t = x.tally in
      let marks = r.guest.marks in
      let a = (and-eq-true_iff (leb t.on 1 && leb t.count 64 && order_fits marks.place marks.set (take t.count x.order)) (eqb t.on 1 || (eqb t.count 0 && eqb t.charged 0))).0 (fits_layout r len e).chosen in
      let b = (and-eq-true_iff (leb t.on 1 && leb t.count 64) (order_fits marks.place marks.set (take t.count x.order))).0 a.0 in
      let d = (and-eq-true_iff (leb t.on 1) (leb t.count 64)).0 b.0 in
      (fits_sound r len e, fits_levels r len e, leb-true t.count 64 d.1)

-- a mark that is set or cleared has a level that a key can hold
pub mark_level : (b : Bool) (r : Record) (a level : ℕ) → r.layout.levels < 6 → mark_refusal b r a level ≡ 0 → level < 8
mark_level true r a level few e =
    omega (arith, few, level_below r.layout.levels level (may_set r.layout.levels r.guest.choice.tally r.guest.choice.order r.guest.marks a level e).fits)
mark_level false r a level few e =
    omega (arith, few, level_below r.layout.levels level (may_clear r.layout.levels r.guest.choice.tally r.guest.choice.order r.guest.marks a level e).fits)
