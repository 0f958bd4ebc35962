-- What the end of a path names, in damaged memory too.
use mathlib.Core.Path.{◌≡◌, refl}
use Prim.Native.Nat.{ℕ, ◌<◌, ◌≤◌}
use native.Mathlib.Omega.{arith}
use mathlib.Core.Bool.{Bool, true, false, cond}
use mathlib.Core.List.{List}
use lib.Dec.{T, leb, ltb, leb→le, ltb→lt}
use lib.ListN.{length}
use Rattle.spec.specs.Config.{Config, guest_base}
use Rattle.spec.specs.Entry.{present, writable, frame_of, frame_limit}
use Rattle.spec.specs.Refusal.{in_guest_area}
use Rattle.spec_laws.proofs.Lists.{and_left, and_right}
use Rattle.area.specs.declared.Look.{Look}
use Rattle.area.specs.declared.Look.TheVariants.{Seen}
use Rattle.area.specs.declared.Look.TheVariants as look
use Rattle.area.specs.Tree.{lookup_of}
use Rattle.area.proofs.Laws.{LookGood, look_good}
use Rattle.layout.specs.declared.HostWalk.{HostWalk}
use Rattle.layout.specs.declared.HostWalk.TheVariants.{Found, Absent, Damaged}
use Rattle.layout.specs.Layout.{leaf_of, named_by, page}
use Rattle.spec_laws.proofs.Keeps.{InGuestArea}
use borrow.Author.Tests.{le-leb, lt-ltb}

pub area_small : (c : Config) → c.frames ≤ 65536 → (f : ℕ) → InGuestArea c f → f < frame_limit
area_small c few f g = omega (arith, g.1)

pub in_guest_area_lem : (c : Config) (f : ℕ) → T (in_guest_area c f) → InGuestArea c f
in_guest_area_lem c f h =
    (leb→le (guest_base c) f (and_left (leb (guest_base c) f) (ltb f c.frames) h), ltb→lt f c.frames (and_right (leb (guest_base c) f) (ltb f c.frames) h))

pub area_test : (c : Config) (f : ℕ) → InGuestArea c f → in_guest_area c f ≡ true
area_test c f a = rw (le-leb _ _ a.0, lt-ltb _ _ a.1)

-- a frame that is found lies in the guest area; an absent one is told after at most a word a level
abbrev pub HostFits : Config → HostWalk → Type 0
HostFits c (Found p w) = InGuestArea c p.0
HostFits c (Absent n) = n ≤ c.levels
HostFits c Damaged = Unit {0}

leaf_fits : (c : Config) (e n : ℕ) → n ≤ c.levels → HostFits c (leaf_of c e n)
unfolding leaf_of
leaf_fits c e n h = go (present e) (in_guest_area c (frame_of e)) refl
  where
    go : (p a : Bool) → in_guest_area c (frame_of e) ≡ a → HostFits c (cond p (cond a (Found (page (frame_of e)) (writable e)) Damaged) (Absent n))
    go true true q = in_guest_area_lem c (frame_of e) (rw q tt)
    go true false q = tt
    go false a q = h

-- after a lookup of at most a word a level
pub named_fits : (c : Config) (b s : ℕ) (m : List ℕ) (e : ℕ) (is : List ℕ) → length is ≤ c.levels → HostFits c (named_by c (lookup_of b s m e is 0))
named_fits c b s m e is l = go (lookup_of b s m e is 0) (look_good b s m e is 0 c.levels (omega arith))
  where
    go : (r : Look) → LookGood c.levels r → HostFits c (named_by c r)
    go (Seen x n) h = leaf_fits c x n h
    go look.Damaged h = tt
