-- The steps of the links and of the pass; a prefix of four indexes fits a word.
use mathlib.Core.Path.{◌≡◌, refl, ap, ◌∙◌}
use Prim.Native.Nat.{ℕ, zero, suc, ◌+◌, ◌-◌, ◌*◌, ◌^◌, ◌≤◌, ◌<◌}
use native.Mathlib.Nat.{mul-le-mul_right, add-mul, mul_assoc, mul_comm}
use native.Mathlib.Numerals.{add-one}
use native.Mathlib.Omega.{arith}
use mathlib.Core.Bool.{Bool, true, false, cond}
use lib.Dec.{ltb}
use lib.Pow.{pow-add}
use native.Mathlib.Nat.{mul-suc}
use Rattle.pool.proofs.Laws.{slot_small}
use mathlib.Core.List.{List}
use Rattle.spec.specs.Config.{Config}
use Rattle.pool.specs.Header.{parent_of, slot_of, inside_of}
use Rattle.charge.specs.declared.Prefix.{Prefix}
use Rattle.charge.specs.declared.Prefix.TheVariants.{Is, Damaged}
use Rattle.charge.specs.declared.Charge.{Charge}
use Rattle.charge.specs.declared.Charge.TheVariants.{Nobody, To}
use Rattle.charge.specs.declared.Charge.TheVariants as charge
use Rattle.charge.specs.Charge.{longer_by, prefix_of, lower_by, charge_by, ends_at, visit_of, charged_from, charged_of}

-- ---- links up

-- a prefix, and below it the indexes in low, of which the next one up counts for `place`
abbrev pub over : Prefix → ℕ → ℕ → Prefix
over (Is n) place low = Is (n * place + low)
over Damaged place low = Damaged

over_more : (x : Prefix) (i place low : ℕ) → over (longer_by x i) place low ≡ over x (place * 512) (low + i * place)
over_more Damaged i place low = refl
over_more (Is n) i place low =
    let a : (n * 512 + i) * place ≡ n * 512 * place + i * place = add-mul (n * 512) i place in
    let b : n * 512 * place ≡ n * (512 * place) = mul_assoc n 512 place in
    let d : n * (512 * place) ≡ n * (place * 512) = ap (λ z. n * z) (mul_comm 512 place) in
    let e : (n * 512 + i) * place + low ≡ n * (place * 512) + (low + i * place) = omega arith in
    ap Is e

module _ (c : Config) (m : List ℕ) (k f place low : ℕ) (more : 0 < k) where
  pub up_step : inside_of c.hosts c.shadows (parent_of m f) ≡ true
      → over (prefix_of c m k f) place low ≡ over (prefix_of c m (k - 1) (parent_of m f)) (place * 512) (low + slot_of m f * place)
  unfolding prefix_of
  up_step e = go k more
    where
      go : (k : ℕ) → 0 < k → over (prefix_of c m k f) place low ≡ over (prefix_of c m (k - 1) (parent_of m f)) (place * 512) (low + slot_of m f * place)
      go zero l = absurd (omega arith)
      go (suc k) l = let d : suc k - 1 ≡ k = omega arith in rw (d, e) (over_more (prefix_of c m k (parent_of m f)) (slot_of m f) place low)

  pub up_out : inside_of c.hosts c.shadows (parent_of m f) ≡ false → over (prefix_of c m k f) place low ≡ Damaged
  unfolding prefix_of
  up_out e = go k more
    where
      go : (k : ℕ) → 0 < k → over (prefix_of c m k f) place low ≡ Damaged
      go zero l = absurd (omega arith)
      go (suc k) l = rw e

pub up_none : (c : Config) (m : List ℕ) (f place low : ℕ) → over (prefix_of c m 0 f) place low ≡ Is low
unfolding prefix_of
up_none c m f place low = let e : 0 * place + low ≡ low = omega arith in ap Is e

pub up_all : (x : Prefix) → over x 1 0 ≡ x
up_all Damaged = refl
up_all (Is n) = let e : n * 1 + 0 ≡ n = omega arith in ap Is e

-- with k of at most four links left: what an index counts for
abbrev pub place_limit : ℕ → ℕ
place_limit k = 2 ^ (9 * (4 - k))

pub place_next : (k place : ℕ) → 0 < k → k ≤ 4 → place ≤ place_limit k → (place ≤ 134217728) × (place * 512 ≤ place_limit (k - 1))
place_next zero place l h b = absurd (omega arith)
place_next (suc zero) place l h b = (omega arith, omega arith)
place_next (suc (suc zero)) place l h b = (omega arith, omega arith)
place_next (suc (suc (suc zero))) place l h b = (omega arith, omega arith)
place_next (suc (suc (suc (suc zero)))) place l h b = (omega arith, omega arith)
place_next (suc (suc (suc (suc (suc k))))) place l h b = absurd (omega arith)

-- one index more below
pub low_next : (i place low : ℕ) → i < 512 → low < place → low + i * place < place * 512
low_next i place low l h =
    let a : i * place ≤ 511 * place = mul-le-mul_right place (omega arith) in
    omega arith

-- ---- the pass
pub charged_none : (c : Config) (m : List ℕ) (t i : ℕ) → charged_from c m t i 0 ≡ Nobody
unfolding charged_from
charged_none c m t i = refl

pub charged_step : (c : Config) (m : List ℕ) (t i k : ℕ) → charged_from c m t i (k + 1) ≡ visit_of c m t i (charged_from c m t i k) (c.hosts + k)
unfolding charged_from
charged_step c m t i k = rw (add-one k)

-- ---- sizes

abbrev SmallPrefix : ℕ → Prefix → Type 0
SmallPrefix k (Is n) = n < 2 ^ (9 * k)
SmallPrefix k Damaged = Unit {0}

-- a prefix has 9 bits for each link
prefix_small : (c : Config) (m : List ℕ) (k f : ℕ) → SmallPrefix k (prefix_of c m k f)
unfolding prefix_of
prefix_small c m zero f = omega arith
prefix_small c m (suc k) f = go (inside_of c.hosts c.shadows (parent_of m f)) (prefix_of c m k (parent_of m f)) (prefix_small c m k (parent_of m f))
  where
    go : (b : Bool) (x : Prefix) → SmallPrefix k x → SmallPrefix (suc k) (cond b (longer_by x (slot_of m f)) Damaged)
    go true (Is n) l =
        let e : 2 ^ (9 * suc k) ≡ 2 ^ (9 * k) * 512 = ap (λ (j : ℕ). 2 ^ j) (mul-suc 9 k) ∙ pow-add 2 (9 * k) 9 in
        omega (arith, slot_small m f)
    go true Damaged l = tt
    go false x l = tt

abbrev pub SmallCharge : ℕ → Charge → Type 0
SmallCharge k Nobody = Unit {0}
SmallCharge k (To n) = n < 2 ^ (9 * k)
SmallCharge k charge.Damaged = Unit {0}

-- and so has what a store is charged to
pub charged_small : (c : Config) (m : List ℕ) (fresh t i : ℕ) → SmallCharge (c.levels - 1) (charged_of c m fresh t i)
unfolding charged_of charged_from visit_of
charged_small c m fresh t i = from fresh
  where
    lower : (x : Charge) (n : ℕ) → SmallCharge (c.levels - 1) x → n < 2 ^ (9 * (c.levels - 1)) → SmallCharge (c.levels - 1) (lower_by x n)
    lower Nobody n h l = l
    lower (To k) n h l = go (ltb n k)
      where
        go : (b : Bool) → cond b n k < 2 ^ (9 * (c.levels - 1))
        go true = l
        go false = h
    lower charge.Damaged n h l = tt

    by : (p : Prefix) (x : Charge) → SmallPrefix (c.levels - 1) p → SmallCharge (c.levels - 1) x → SmallCharge (c.levels - 1) (charge_by p x)
    by (Is n) x l h = lower x n h l
    by Damaged x l h = tt

    from : (k : ℕ) → SmallCharge (c.levels - 1) (charged_from c m t i k)
    from zero = tt
    from (suc k) = go (ends_at m t i (c.hosts + k)) (from k)
      where
        go : (b : Bool) → SmallCharge (c.levels - 1) (charged_from c m t i k)
            → SmallCharge (c.levels - 1) (cond b (charge_by (prefix_of c m (c.levels - 1) (c.hosts + k)) (charged_from c m t i k)) (charged_from c m t i k))
        go true h = by (prefix_of c m (c.levels - 1) (c.hosts + k)) (charged_from c m t i k) (prefix_small c m (c.levels - 1) (c.hosts + k)) h
        go false h = h
