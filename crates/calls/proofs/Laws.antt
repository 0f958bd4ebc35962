-- A call, once its tests are known: the laws that the code is proved by.
use mathlib.Core.Path.{◌≡◌, refl, ap}
use mathlib.Core.Logic.{◌≢◌}
use native.Mathlib.Omega.{arith}
use mathlib.Core.Bool.{Bool, true, false, cond}
use mathlib.Core.List.{List}
use Prim.Native.Nat.{ℕ}
use lib.ListN.{length}
use Rattle.spec.specs.Bytes.{width_fits}
use Rattle.words.specs.After.{After, yields}
use Rattle.spec.specs.Answer.{line}
use Rattle.record.specs.declared.Record.{Record}
use Rattle.record.specs.Record.{fits_of}
use Rattle.calls.specs.declared.Reply.{Reply}
use Rattle.calls.specs.Calls.{Promises, refused, judged, placed, refusal_by}

pub promised : {r : Reply} {m : List ℕ} {e : After Reply} → yields r m ≡ e → Promises r m e
promised p = record { leaves = p; says = ap (λ (e : After Reply). line e.result.answer) p }

-- the number by the tests of a request, as they are decided one after the other
pub says_3 : (f d b : Bool) → f ≡ false → 3 ≡ refusal_by f d b
says_3 f d b e = rw e

pub says_15 : (f d b : Bool) → f ≡ true → d ≡ false → 15 ≡ refusal_by f d b
says_15 f d b e q = rw (e, q)

pub says_4 : (f d b : Bool) → f ≡ true → d ≡ true → b ≡ false → 4 ≡ refusal_by f d b
says_4 f d b e q h = rw (e, q, h)

pub says_none : (f d b : Bool) → f ≡ true → d ≡ true → b ≡ true → 0 ≡ refusal_by f d b
says_none f d b e q h = rw (e, q, h)

-- a request that is served passed every test
pub all_taken : (f d b : Bool) → 0 ≡ refusal_by f d b → (f ≡ true) × (d ≡ true) × (b ≡ true)
all_taken true true true q = (refl, refl, refl)
all_taken true true false q = absurd (omega (arith, q))
all_taken true false b q = absurd (omega (arith, q))
all_taken false d b q = absurd (omega (arith, q))

module _ (r : Record) (m : List ℕ) where
  -- the record breaks a rule
  pub broken : (next : After Reply) → fits_of r (length m) ≡ false → refused r 3 m ≡ judged r m next
  broken next e = rw e

  -- it breaks none
  pub unbroken : (next : After Reply) → fits_of r (length m) ≡ true → next ≡ judged r m next
  unbroken next e = rw e

  -- and the next test is decided
  pub passed : (b : Bool) (x y : After Reply) → fits_of r (length m) ≡ true → b ≡ true → x ≡ judged r m (cond b x y)
  passed b x y e q = rw (e, q)

  pub failed : (b : Bool) (x y : After Reply) → fits_of r (length m) ≡ true → b ≡ false → y ≡ judged r m (cond b x y)
  failed b x y e q = rw (e, q)

  -- a request that is refused before it is served
  pub turned_away : (w : ℕ) (b : Bool) (x : After Reply) (n : ℕ) → n ≡ refusal_by (fits_of r (length m)) (width_fits w) b → n ≢ 0 → refused r n m ≡ placed r m w b x
  turned_away w b x n e z = go (fits_of r (length m)) (width_fits w) b e
    where
      go : (f d b : Bool) → n ≡ refusal_by f d b → refused r n m ≡ cond f (cond d (cond b x (refused r 4 m)) (refused r 15 m)) (refused r 3 m)
      go true true true q = absurd (z q)
      go true true false q = ap (λ k. refused r k m) q
      go true false b q = ap (λ k. refused r k m) q
      go false d b q = ap (λ k. refused r k m) q

  -- and one that is not
  pub taken : (w : ℕ) (b : Bool) (x : After Reply) → 0 ≡ refusal_by (fits_of r (length m)) (width_fits w) b → x ≡ placed r m w b x
  taken w b x e = let t = all_taken (fits_of r (length m)) (width_fits w) b e in rw (t.0, t.1, t.2)
