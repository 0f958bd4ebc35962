-- A number does not change with what follows it; a body that is found lies within the input.
-- Assumes nothing.
use Rattle.std.specs.Prelude.{◌≡◌, refl, Bool, true, false, cond, List, ◌++◌, ℕ, zero, suc, ◌+◌, ◌-◌, ◌*◌, ◌≤◌, leb, ltb, length, get_or}
use Rattle.std.proofs.Common.{ap, ap₂, arith, leb-true, ltb-false}
use Rattle.std.proofs.lemmas.List.{get_or_append_left}
use Rattle.job_records.specs.declared.Cut.{Cut}
use Rattle.job_records.specs.declared.Cut.TheVariants.{Body, Short, Wrong}
use Rattle.job_records.specs.Records.{number, cut_by, cut_at}

pub number_front : (w : ℕ) (s t : List ℕ) (i : ℕ) → i + w ≤ length s → number w (s ++ t) i ≡ number w s i
number_front zero s t i h = refl
number_front (suc w) s t i h = ap₂ (λ (x y : ℕ). x + 256 * y) (get_or_append_left s t 0 i (omega arith)) (number_front w s t (i + 1) (omega arith))

abbrev pub Within : ℕ → Cut → Type 0
Within l (Body k b n) = b + n ≤ l
Within l Short = Unit {0}
Within l Wrong = Unit {0}

either : (l : ℕ) (t : Bool) (x y : Cut) → (t ≡ true → Within l x) → (t ≡ false → Within l y) → Within l (cond t x y)
either l true x y f g = f refl
either l false x y f g = g refl

pub cut_within : (s : List ℕ) (at : ℕ) → Within (length s) (cut_at s at)
cut_within s at =
    let n = number 2 s at in
    let l = length s in
    either l (leb (at + 2) l) (cut_by s at n) Short
    (λ e. either l (ltb n 2) Wrong _ (λ _. tt)
    (λ e2. either l (ltb 19 n) Wrong _ (λ _. tt)
    (λ e3. either l (ltb (l - (at + 2)) n) Short _ (λ _. tt)
    (λ e4. omega (arith, leb-true (at + 2) l e, ltb-false n 2 e2, ltb-false (l - (at + 2)) n e4)))))
    (λ _. tt)

-- a number of twice the width, from its halves
pub number_4 : (s : List ℕ) (at : ℕ) → number 4 s at ≡ number 2 s at + 65536 * number 2 s (at + 2)
number_4 s at =
    let e : at + 1 + 1 ≡ at + 2 = omega arith in
    let f : at + 1 + 1 + 1 ≡ at + 2 + 1 = omega arith in
    omega (arith, ap (λ (i : ℕ). get_or s i 0) e, ap (λ (i : ℕ). get_or s i 0) f)

pub number_8 : (s : List ℕ) (at : ℕ) → number 8 s at ≡ number 4 s at + 4294967296 * number 4 s (at + 4)
number_8 s at =
    let at4 : at + 1 + 1 + 1 + 1 ≡ at + 4 = omega arith in
    omega (arith, ap (number 4 s) at4)
