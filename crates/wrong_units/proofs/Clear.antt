-- A table handed out from a frame that is clear already: to set its words to 0 changes nothing. So a fill or a map on a fresh memory is
-- computed without writing 512 zeros one by one.
-- Assumes nothing.
use mathlib.Core.Path.{◌≡◌, refl, sym, ap, ◌∙◌}
use Prim.Native.Nat.{ℕ, zero, suc, ◌+◌, ◌-◌, ◌*◌, ◌<◌}
use native.Mathlib.Omega.{arith}
use native.Mathlib.Nat.{not-suc-le-zero, le_of_suc-le-suc}
use mathlib.Core.Bool.{Bool, true, ◌&&◌}
use mathlib.Core.List.{List, [], ◌∷◌}
use lib.Dec.{T, eqb, ltb, eqb→eq}
use lib.ListN.{get_or, set, drop}
use lib.Seq.{get_or-drop}
use Rattle.spec_laws.proofs.Lists.{and_left, and_right}
use Rattle.words.specs.Words.{zeroed}
use Rattle.pool.specs.declared.Area.{Area}
use Rattle.pool.specs.declared.Pool.{Pool}
use Rattle.pool.specs.declared.Way.TheVariants.{To, Not}
use Rattle.pool.specs.Header.{entry_at_of, put_entry_of, header_of}
use Rattle.pool.specs.Pool.{link, follow_of, end, pool_of, with_top, fresh_of, take_of}
use Rattle.area.specs.Tree.{new_table_of, new_top_of, enter_of, attach_of, descend_of, down_of}

-- the first n words are 0
abbrev pub zeros : ℕ → List ℕ → Bool
zeros zero xs = true
zeros (suc n) [] = true
zeros (suc n) (x ∷ xs) = eqb x 0 && zeros n xs

zeros_at : (n : ℕ) (xs : List ℕ) (j : ℕ) → T (zeros n xs) → j < n → get_or xs j 0 ≡ 0
zeros_at zero xs j t l = absurd (not-suc-le-zero l)
zeros_at (suc n) [] j t l = refl
zeros_at (suc n) (x ∷ xs) zero t l = eqb→eq x 0 (and_left (eqb x 0) (zeros n xs) t)
zeros_at (suc n) (x ∷ xs) (suc j) t l = zeros_at n xs j (and_right (eqb x 0) (zeros n xs) t) (le_of_suc-le-suc l)

set_zero : (m : List ℕ) (i : ℕ) → get_or m i 0 ≡ 0 → set m i 0 ≡ m
set_zero [] i e = refl
set_zero (x ∷ xs) zero e = ap (λ y. y ∷ xs) (sym e)
set_zero (x ∷ xs) (suc i) e = ap (λ ys. x ∷ ys) (set_zero xs i e)

zeroed_all : (m : List ℕ) (p n : ℕ) → ((j : ℕ) → j < n → get_or m (p + j) 0 ≡ 0) → zeroed m p n ≡ m
unfolding zeroed
zeroed_all m p zero h = refl
zeroed_all m p (suc n) h = ap (λ xs. set xs (p + n) 0) (zeroed_all m p n (λ j l. h j (omega arith))) ∙ set_zero m (p + n) (h n (omega arith))

pub zeroed_clear : (m : List ℕ) (p n : ℕ) → T (zeros n (drop p m)) → zeroed m p n ≡ m
zeroed_clear m p n t = zeroed_all m p n (λ j l. sym (get_or-drop p m j 0) ∙ zeros_at n (drop p m) j t l)

-- the next fresh frame is clear, and handed out
pub record Ready (a : Area) (p : Pool) (m : List ℕ) : Type 0 where
  pub room : ltb p.used a.size ≡ true
  pub no_freed : follow_of a.base a.size p.free ≡ Not
  pub fresh : ltb p.fresh a.size ≡ true
  pub clear : T (zeros 512 (drop ((a.base + p.fresh) * 512) m))

abbrev pub taken : Pool → Pool
taken p = pool_of (p.fresh + 1) p.free (p.used + 1) p.top

take_clear : (a : Area) (p : Pool) (m : List ℕ) → Ready a p m → take_of a p m ≡ end (taken p) (To (a.base + p.fresh)) m
unfolding take_of fresh_of
take_clear a p m r = rw (r.room, r.no_freed, r.fresh, zeroed_clear m ((a.base + p.fresh) * 512) 512 r.clear)

-- as the top table, where there is none
pub enter_clear : (a : Area) (p : Pool) (m : List ℕ) (guest : ℕ) → Ready a p m → follow_of a.base a.size p.top ≡ Not
    → enter_of a p m guest ≡ end (with_top (taken p) (link (a.base + p.fresh))) (To (a.base + p.fresh)) (header_of m (a.base + p.fresh) guest a.levels 0 0)
unfolding enter_of new_top_of new_table_of
enter_clear a p m guest r e = rw (e, take_clear a p m r)

-- as a lower one, on the way of a path
pub down_clear : (a : Area) (gs : List ℕ) (p : Pool) (m : List ℕ) (d f i j : ℕ) (is : List ℕ) (e : ℕ) → Ready a p m → follow_of a.base a.size (entry_at_of m f i) ≡ Not
    → down_of a gs p m d f i (j ∷ is) e
    ≡ down_of a gs (taken p) (put_entry_of (header_of m (a.base + p.fresh) (get_or gs (d + 1) 0) (a.levels - (d + 1)) f i) f i (link (a.base + p.fresh))) (d + 1) (a.base + p.fresh) j is e
unfolding down_of descend_of attach_of new_table_of
down_clear a gs p m d f i j is e r n = rw (n, take_clear a p m r)
