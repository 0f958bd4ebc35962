-- The order of prefixes is the order of the numbers whose indexes they are.
-- Assumes nothing.
use mathlib.Core.Path.{◌≡◌, refl, sym, ap, ap₂, ◌∙◌, subst}
use Prim.Native.Nat.{ℕ, zero, suc, ◌+◌, ◌*◌, ◌/◌, ◌%◌, ◌^◌, ◌≤◌, ◌<◌}
use native.Mathlib.Nat.{mod-lt, mod-eq_of_lt, mul-le-mul_right, suc-mul}
use native.Mathlib.Omega.{arith}
use mathlib.Core.Bool.{Bool, true, false, ◌&&◌, ◌||◌}
use lib.Dec.{T, eqb, eqb→eq, eqb_refl, ltb, ltb→lt, lt→ltb}
use lib.Pow.{pow_pos, mod-pow-add}
use Rattle.spec.specs.Entry.{index, indexes}
use Rattle.spec.specs.Choice.{lower}
use Rattle.spec_laws.proofs.Lists.{is_false, is_true}

-- two tests that say the same
agree : (a b : Bool) → (T a → T b) → (T b → T a) → a ≡ b
agree true true f g = refl
agree true false f g = absurd (f tt)
agree false true f g = absurd (g tt)
agree false false f g = refl

less_high : (k a b c d : ℕ) → b < 2 ^ k → a < c → a * 2 ^ k + b < c * 2 ^ k + d
less_high k a b c d lb h =
    let m : suc a * 2 ^ k ≤ c * 2 ^ k = mul-le-mul_right (2 ^ k) h in
    let e : suc a * 2 ^ k ≡ a * 2 ^ k + 2 ^ k = suc-mul a (2 ^ k) in
    omega arith

-- numbers of a high and a low part are compared by the high part first
less_parts : (k a b c d : ℕ) → b < 2 ^ k → d < 2 ^ k → (ltb a c || (eqb a c && ltb b d)) ≡ ltb (a * 2 ^ k + b) (c * 2 ^ k + d)
less_parts k a b c d lb ld = go (ltb a c) refl (eqb a c) refl
  where
    go : (s : Bool) → ltb a c ≡ s → (t : Bool) → eqb a c ≡ t → (s || (t && ltb b d)) ≡ ltb (a * 2 ^ k + b) (c * 2 ^ k + d)
    go true e t f = sym (is_true _ (lt→ltb (a * 2 ^ k + b) (c * 2 ^ k + d) (less_high k a b c d lb (ltb→lt a c (subst T (sym e) tt)))))
    go false e true f =
        let g : a ≡ c = eqb→eq a c (subst T (sym f) tt) in
        let h : a * 2 ^ k ≡ c * 2 ^ k = ap (λ (x : ℕ). x * 2 ^ k) g in
        agree (ltb b d) (ltb (a * 2 ^ k + b) (c * 2 ^ k + d)) (λ t. let z = ltb→lt b d t in lt→ltb (a * 2 ^ k + b) (c * 2 ^ k + d) (omega arith))
        (λ t. let z = ltb→lt (a * 2 ^ k + b) (c * 2 ^ k + d) t in lt→ltb b d (omega arith))
    go false e false f =
        let n : a < c → ⊥ = λ h. subst T e (lt→ltb a c h) in
        let m : a ≡ c → ⊥ = λ h. subst T (ap (eqb a) h ∙ f) (eqb_refl a) in
        let l : c < a = omega arith in
        sym (is_false _ (λ t. let z = ltb→lt (a * 2 ^ k + b) (c * 2 ^ k + d) t in let w = less_high k c d a b ld l in absurd (omega arith)))

lower_parts : (k p q : ℕ) → lower (indexes k p) (indexes k q) ≡ ltb (p % 2 ^ (9 * k)) (q % 2 ^ (9 * k))
unfolding indexes index
lower_parts zero p q =
    let a : p % 1 ≡ 0 = omega arith in
    let b : q % 1 ≡ 0 = omega arith in
    sym (ap₂ ltb a b)
lower_parts (suc k) p q =
    let s : 9 * suc k ≡ 9 + 9 * k = omega arith in
    rw (s, mod-pow-add p 9 (9 * k), mod-pow-add q 9 (9 * k), lower_parts k p q)
    (less_parts (9 * k) (p / 2 ^ (9 * k) % 512) (p % 2 ^ (9 * k)) (q / 2 ^ (9 * k) % 512) (q % 2 ^ (9 * k)) (mod-lt p (pow_pos (9 * k))) (mod-lt q (pow_pos (9 * k))))

pub lower_is : (k p q : ℕ) → p < 2 ^ (9 * k) → q < 2 ^ (9 * k) → lower (indexes k p) (indexes k q) ≡ ltb p q
lower_is k p q lp lq = lower_parts k p q ∙ ap₂ ltb (mod-eq_of_lt lp) (mod-eq_of_lt lq)
