-- What the entry of a held path says.
use mathlib.Core.Path.{◌≡◌}
use Prim.Native.Nat.{ℕ, ◌/◌, ◌%◌, ◌^◌, ◌<◌}
use native.Mathlib.Omega.{arith}
use mathlib.Core.Bool.{Bool, true, false, cond}
use lib.Dec.{eqb}
use borrow.Author.Tests.{eq-eqb, ne_eqb}
use Rattle.spec.specs.Config.{Config}
use Rattle.spec.specs.Entry.{bit_set, present, writable, switch, frame_of, frame_limit, entry_limit}
use Rattle.spec.specs.Refusal.{in_guest_area}
use Rattle.layout.specs.declared.HostWalk.TheVariants.{Found}
use Rattle.layout.specs.Layout.{page, leaf_of}
use Rattle.shadow.specs.Held.{entry_for}

-- ---- the entry of a held path
is_bit : (x : ℕ) (b : Bool) → x ≡ cond b 1 0 → eqb x 1 ≡ b
is_bit x true h = eq-eqb x 1 h
is_bit x false h = ne_eqb x 1 (λ e. omega arith)

module _ (f : ℕ) where
  abbrev Fields : ℕ → Bool → Bool → Type 0
  Fields e s w = (e / 2 ^ 0 % 2 ≡ 1) × (e / 2 ^ 1 % 2 ≡ cond w 1 0) × (e / 2 ^ 9 % 2 ≡ cond s 1 0) × (e / 4096 ≡ f)

  fields : (s w : Bool) → Fields (entry_for f s w) s w
  unfolding entry_for
  fields true true = (omega arith, omega arith, omega arith, omega arith)
  fields true false = (omega arith, omega arith, omega arith, omega arith)
  fields false true = (omega arith, omega arith, omega arith, omega arith)
  fields false false = (omega arith, omega arith, omega arith, omega arith)

  pub entry_present : (s w : Bool) → present (entry_for f s w) ≡ true
  unfolding present bit_set
  entry_present s w = is_bit (entry_for f s w / 2 ^ 0 % 2) true (fields s w).0

  pub entry_writable : (s w : Bool) → writable (entry_for f s w) ≡ w
  unfolding writable bit_set
  entry_writable s w = is_bit (entry_for f s w / 2 ^ 1 % 2) w (fields s w).1

  pub entry_switch : (s w : Bool) → switch (entry_for f s w) ≡ s
  unfolding switch bit_set
  entry_switch s w = is_bit (entry_for f s w / 2 ^ 9 % 2) s (fields s w).2

  pub entry_frame : (s w : Bool) → f < frame_limit → frame_of (entry_for f s w) ≡ f
  unfolding frame_of
  entry_frame s w l = omega (arith, (fields s w).3)

  -- it fits below the header bits
  pub entry_small : (s w : Bool) → f < frame_limit → entry_for f s w < entry_limit
  entry_small s w l = omega (arith, (fields s w).3)

  -- read back, it is the frame and the write right
  pub entry_found_lem : (c : Config) (s w : Bool) (n : ℕ) → f < frame_limit → in_guest_area c f ≡ true → leaf_of c (entry_for f s w) n ≡ Found (page f) w
  unfolding leaf_of
  entry_found_lem c s w n l g = rw (entry_present s w, entry_frame s w l, entry_writable s w, g)
