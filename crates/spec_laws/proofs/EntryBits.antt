-- What a walk reads in a word, and what setting bits 5 and 6 of it changes: these two bits and nothing else.
-- Assumes nothing.
use mathlib.Core.Path.{◌≡◌, refl, sym, ap, ap₂, ◌∙◌}
use Prim.Native.Nat.{ℕ, zero, suc, ◌+◌, ◌-◌, ◌/◌, ◌%◌, ◌^◌, ◌<◌}
use native.Mathlib.Omega.{arith}
use mathlib.Core.Bool.{Bool, true, false, not, ◌&&◌, ◌||◌, cond}
use borrow.Author.Tests.{eq-eqb, eqb-true, eqb-false}
use lib.Dec.{eqb, ltb}
use lib.Pow.{shr-shr}
use Rattle.spec.specs.Config.{Config, frame_bits}
use Rattle.spec.specs.Entry.{bit_set, present, writable, frame_of, large, frames_below, malformed, accessed, dirty, with_bit}
use Rattle.spec.specs.Bits.{has_bits, with_bits}
use Rattle.spec_laws.proofs.Lists.{and_first, and_second}

-- two words that agree but in bits 5 and 6
pub record AlikeWord (e f : ℕ) : Type 0 where
  pub low : f % 32 ≡ e % 32
  pub high : f / 128 ≡ e / 128

pub alike_refl : (e : ℕ) → AlikeWord e e
alike_refl e = record { low = refl; high = refl }

pub alike_trans : (e f g : ℕ) → AlikeWord e f → AlikeWord f g → AlikeWord e g
alike_trans e f g h k = record { low = k.low ∙ h.low; high = k.high ∙ h.high }

-- ---- what a walk reads

pub present_alike : (e f : ℕ) → AlikeWord e f → present f ≡ present e
unfolding present bit_set
present_alike e f h = let z : f / 1 % 2 ≡ e / 1 % 2 = omega (arith, h.low) in ap (λ x. eqb x 1) z

pub writable_alike : (e f : ℕ) → AlikeWord e f → writable f ≡ writable e
unfolding writable bit_set
writable_alike e f h = let z : f / 2 % 2 ≡ e / 2 % 2 = omega (arith, h.low) in ap (λ x. eqb x 1) z

above_alike : (e f : ℕ) → AlikeWord e f → f / 4096 ≡ e / 4096
above_alike e f h = omega (arith, h.high)

pub frame_alike : (e f : ℕ) → AlikeWord e f → frame_of f ≡ frame_of e
unfolding frame_of
frame_alike e f h = ap (λ (x : ℕ). x % 2 ^ 40) (above_alike e f h)

pub large_alike : (n e f : ℕ) → AlikeWord e f → large n f ≡ large n e
unfolding large bit_set
large_alike n e f h = ap (λ (x : ℕ). ltb 1 n && (ltb n 4 && eqb (x % 2) 1)) h.high

pub malformed_alike : (c : Config) (n e f : ℕ) → AlikeWord e f → malformed c n f ≡ malformed c n e
unfolding malformed bit_set
malformed_alike c n e f h =
    let b = frame_bits c in
    let top : f / 2 ^ (12 + b) ≡ e / 2 ^ (12 + b) = sym (shr-shr f 12 b) ∙ ap (λ (x : ℕ). x / 2 ^ b) (above_alike e f h) ∙ shr-shr e 12 b in
    ap₂ (λ (x y : ℕ). not (eqb (x % 2 ^ (40 - b)) 0) || ((ltb 3 n && eqb (y % 2) 1) || (large n f && not (eqb (frame_of f % frames_below n) 0)))) top h.high
    ∙ ap₂ (λ x (y : ℕ). not (eqb (e / 2 ^ (12 + b) % 2 ^ (40 - b)) 0) || ((ltb 3 n && eqb (e / 128 % 2) 1) || (x && not (eqb (y % frames_below n) 0))))
    (large_alike n e f h) (frame_alike e f h)

-- ---- setting a bit

-- a word f that is alike e and has lost neither bit
pub record Kept (e f : ℕ) : Type 0 where
  pub alike : AlikeWord e f
  pub keeps5 : accessed e ≡ true → accessed f ≡ true
  pub keeps6 : dirty e ≡ true → dirty f ≡ true

pub kept_refl : (e : ℕ) → Kept e e
kept_refl e = record { alike = alike_refl e; keeps5 = λ h. h; keeps6 = λ h. h }

pub kept_trans : (e f g : ℕ) → Kept e f → Kept f g → Kept e g
kept_trans e f g h k =
    record { alike = alike_trans e f g h.alike k.alike; keeps5 = λ z. k.keeps5 (h.keeps5 z); keeps6 = λ z. k.keeps6 (h.keeps6 z) }

pub bit_clear : (k e : ℕ) → bit_set k e ≡ false → e / 2 ^ k % 2 ≡ 0
unfolding bit_set
bit_clear k e h = let z = eqb-false (e / 2 ^ k % 2) 1 h in small (e / 2 ^ k % 2) (omega arith) z
  where
    small : (x : ℕ) → x < 2 → (x ≡ 1 → ⊥) → x ≡ 0
    small zero l n = refl
    small (suc x) l n = absurd (n (omega arith))

bit_on : (k e : ℕ) → e / 2 ^ k % 2 ≡ 1 → bit_set k e ≡ true
unfolding bit_set
bit_on k e h = eq-eqb (e / 2 ^ k % 2) 1 h

bit_is : (k e : ℕ) → bit_set k e ≡ true → e / 2 ^ k % 2 ≡ 1
unfolding bit_set
bit_is k e h = eqb-true (e / 2 ^ k % 2) 1 h

-- a word e whose bit k is clear, and with it
record Added (k e : ℕ) : Type 0 where
  alike : AlikeWord e (e + 2 ^ k)
  sets : (e + 2 ^ k) / 2 ^ k % 2 ≡ 1
  fifth : e / 32 % 2 ≡ 1 → (e + 2 ^ k) / 32 % 2 ≡ 1
  sixth : e / 64 % 2 ≡ 1 → (e + 2 ^ k) / 64 % 2 ≡ 1

with_bit_lem : (k e : ℕ) → (e / 2 ^ k % 2 ≡ 0 → Added k e) → Kept e (with_bit k e) × (bit_set k (with_bit k e) ≡ true)
unfolding with_bit accessed dirty
with_bit_lem k e add = go (bit_set k e) refl
  where
    go : (b : Bool) → bit_set k e ≡ b → Kept e (cond b e (e + 2 ^ k)) × (bit_set k (cond b e (e + 2 ^ k)) ≡ true)
    go true h = (kept_refl e, h)
    go false h =
        let f = add (bit_clear k e h) in
        let x = e + 2 ^ k in
        (record { alike = f.alike; keeps5 = λ z. bit_on 5 x (f.fifth (bit_is 5 e z)); keeps6 = λ z. bit_on 6 x (f.sixth (bit_is 6 e z)) }, bit_on k x f.sets)

with_5 : (e : ℕ) → Kept e (with_bit 5 e) × (bit_set 5 (with_bit 5 e) ≡ true)
with_5 e = with_bit_lem 5 e (λ z. record {
  alike = record { low = omega (arith, z); high = omega (arith, z) };
  sets = omega (arith, z);
  fifth = λ y. omega (arith, z, y);
  sixth = λ y. let u : (e + 32) / 64 ≡ e / 64 = omega (arith, z) in ap (λ (x : ℕ). x % 2) u ∙ y;
})

with_6 : (e : ℕ) → Kept e (with_bit 6 e) × (bit_set 6 (with_bit 6 e) ≡ true)
with_6 e = with_bit_lem 6 e (λ z. record {
  alike = record { low = omega (arith, z); high = omega (arith, z) };
  sets = omega (arith, z);
  fifth = λ y. omega (arith, z, y);
  sixth = λ y. omega (arith, z, y);
})

-- ---- the bits that an entry needs; ends: a store's walk ends at it

pub with_kept : (ends : Bool) (e : ℕ) → Kept e (with_bits ends e)
with_kept false e = (with_5 e).0
with_kept true e = kept_trans e (with_bit 5 e) (with_bit 6 (with_bit 5 e)) (with_5 e).0 (with_6 (with_bit 5 e)).0

pub with_has : (ends : Bool) (e : ℕ) → has_bits ends (with_bits ends e) ≡ true
unfolding accessed dirty
with_has false e = ap (λ b. b && true) (with_5 e).1
with_has true e = let t = with_6 (with_bit 5 e) in ap₂ (λ a b. a && b) (t.0.keeps5 (with_5 e).1) t.1

-- what is set already stays the word that it is
pub bits_same : (ends : Bool) (e : ℕ) → has_bits ends e ≡ true → with_bits ends e ≡ e
unfolding with_bit accessed dirty
bits_same ends e h = go ends h
  where
    -- the word e, if its bit k is set
    there : (k x : ℕ) → bit_set k x ≡ true → cond (bit_set k x) x (x + 2 ^ k) ≡ x
    there k x z = ap (λ b. cond b x (x + 2 ^ k)) z

    go : (b : Bool) → has_bits b e ≡ true → with_bits b e ≡ e
    go false z = there 5 e (and_first (bit_set 5 e) true z)
    go true z = ap (with_bit 6) (there 5 e (and_first (bit_set 5 e) (bit_set 6 e) z)) ∙ there 6 e (and_second (bit_set 5 e) (bit_set 6 e) z)
