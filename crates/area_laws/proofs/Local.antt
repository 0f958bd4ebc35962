-- A lookup depends on the entries that it reads, and on no other word; for any memory.
use mathlib.Core.Path.{◌≡◌, refl, ap, ◌∙◌}
use Prim.Native.Nat.{ℕ, suc, ◌+◌}
use native.Mathlib.Omega.{arith}
use mathlib.Core.List.{List, [], ◌∷◌}
use lib.ListN.{length}
use Rattle.pool.specs.declared.Way.{Way}
use Rattle.pool.specs.declared.Way.TheVariants.{To, Not, Damaged}
use Rattle.area.specs.declared.Look.{Look}
use Rattle.area.specs.declared.Look.TheVariants.{Seen}
use Rattle.area.specs.declared.Look.TheVariants as look
use Rattle.pool.specs.Header.{entry_at_of}
use Rattle.pool.specs.Pool.{follow_of, on_way}
use Rattle.area.specs.Tree.{entries_read, lookup_of}
use Rattle.spec.specs.Prefix.{All}

abbrev pub SameEntry : List ℕ → List ℕ → ℕ × ℕ → Type 0
SameEntry m n x = entry_at_of n x.0 x.1 ≡ entry_at_of m x.0 x.1

pub look_local : (b s : ℕ) (m n : List ℕ) (is : List ℕ) (e k : ℕ) → All (SameEntry m n) (entries_read b s m e is) → lookup_of b s n e is k ≡ lookup_of b s m e is k
unfolding entries_read lookup_of
look_local b s m n [] e k h = refl
look_local b s m n (i ∷ is) e k h = go (follow_of b s e) h (λ f. look_local b s m n is (entry_at_of m f i) (k + 1))
  where
    go : (w : Way) → All (SameEntry m n) (on_way w [] [] (λ f. (f, i) ∷ entries_read b s m (entry_at_of m f i) is))
        → ((f : ℕ) → All (SameEntry m n) (entries_read b s m (entry_at_of m f i) is) → lookup_of b s n (entry_at_of m f i) is (k + 1) ≡ lookup_of b s m (entry_at_of m f i) is (k + 1))
        → on_way w (Seen 0 k) look.Damaged (λ f. lookup_of b s n (entry_at_of n f i) is (k + 1)) ≡ on_way w (Seen 0 k) look.Damaged (λ f. lookup_of b s m (entry_at_of m f i) is (k + 1))
    go (To f) q ih = ap (λ x. lookup_of b s n x is (k + 1)) q.0 ∙ ih f q.1
    go Not q ih = refl
    go Damaged q ih = refl

-- the count is how many
abbrev pub Counts : ℕ → Look → Type 0
Counts r (Seen e n) = n ≡ r
Counts r look.Damaged = Unit {0}

pub look_count : (b s : ℕ) (m : List ℕ) (is : List ℕ) (e k : ℕ) → Counts (k + length (entries_read b s m e is)) (lookup_of b s m e is k)
unfolding entries_read lookup_of
look_count b s m [] e k = omega arith
look_count b s m (i ∷ is) e k = go (follow_of b s e) (λ f. look_count b s m is (entry_at_of m f i) (k + 1))
  where
    more : (a c : ℕ) (l : Look) → a ≡ c → Counts a l → Counts c l
    more a c (Seen e n) q h = h ∙ q
    more a c look.Damaged q h = tt

    go : (w : Way) → ((f : ℕ) → Counts (k + 1 + length (entries_read b s m (entry_at_of m f i) is)) (lookup_of b s m (entry_at_of m f i) is (k + 1)))
        → Counts (k + length (on_way w [] [] (λ f. (f, i) ∷ entries_read b s m (entry_at_of m f i) is))) (on_way w (Seen 0 k) look.Damaged (λ f. lookup_of b s m (entry_at_of m f i) is (k + 1)))
    go (To f) ih =
        more (k + 1 + length (entries_read b s m (entry_at_of m f i) is)) (k + suc (length (entries_read b s m (entry_at_of m f i) is)))
        (lookup_of b s m (entry_at_of m f i) is (k + 1)) (omega arith) (ih f)
    go Not ih = omega arith
    go Damaged ih = tt
