-- No word that a frame or a table's header takes lies outside the area.
use mathlib.Core.Path.{◌≡◌, refl, ◌∙◌}
use mathlib.Core.Logic.{◌≢◌, ◌⊎◌, inl, inr}
use Prim.Native.Nat.{ℕ, suc, ◌+◌, ◌*◌, ◌<◌, ◌≤◌}
use native.Mathlib.Omega.{arith}
use mathlib.Core.List.{List, [], ◌∷◌}
use lib.ListN.{get_or, length, length-set}
use lib.Seq.{get_or-set_other}
use Rattle.spec.specs.Entry.{entry_limit}
use Rattle.words.specs.Words.{at, set_in, zeroed}
use Rattle.words.proofs.Laws.{zeroed_length, zeroed_below, zeroed_above}
use Rattle.pool.specs.Header.{put_entry_of, written, header_of}
use Rattle.pool.specs.Pool.{free_words}
use Rattle.pool.specs.Outside.{SameOutside}

-- ---- the relation
pub out_refl : (b s : ℕ) (m : List ℕ) → SameOutside b s m m
out_refl b s m = record { long = refl; same = λ j o. refl }

pub out_trans : (b s : ℕ) (m n o : List ℕ) → SameOutside b s n o → SameOutside b s m n → SameOutside b s m o
out_trans b s m n o y x = record { long = y.long ∙ x.long; same = λ j k. y.same j k ∙ x.same j k }

pub set_out : (b s : ℕ) (m : List ℕ) (f i v : ℕ) → b ≤ f → f < b + s → i < 512 → SameOutside b s m (set_in m f i v)
set_out b s m f i v l h k = record { long = length-set m (at f i) v; same = λ j o. get_or-set_other m (at f i) j v 0 (miss j o) }
  where
    miss : (j : ℕ) → (j < b * 512) ⊎ ((b + s) * 512 ≤ j) → j ≢ at f i
    miss j o e = elim o [ inl x ↦ omega arith | inr x ↦ omega arith ]

pub zero_out : (b s : ℕ) (m : List ℕ) (f : ℕ) → b ≤ f → f < b + s → SameOutside b s m (zeroed m (f * 512) 512)
zero_out b s m f l h = record { long = zeroed_length m (f * 512) 512; same = at-word }
  where
    at-word : (j : ℕ) → (j < b * 512) ⊎ ((b + s) * 512 ≤ j) → get_or (zeroed m (f * 512) 512) j 0 ≡ get_or m j 0
    at-word j o = elim o [
      | inl x ↦ zeroed_below m (f * 512) 512 j (omega arith)
      | inr x ↦ zeroed_above m (f * 512) 512 j (omega arith)
    ]

pub put_out : (b s : ℕ) (m : List ℕ) (f i e : ℕ) → b ≤ f → f < b + s → i < 512 → SameOutside b s m (put_entry_of m f i e)
unfolding put_entry_of
put_out b s m f i e l h k = set_out b s m f i _ l h k

written_out : (b s : ℕ) (m : List ℕ) (f k : ℕ) (vs : List ℕ) → b ≤ f → f < b + s → k + length vs ≤ 512 → SameOutside b s m (written m f k vs)
unfolding written
written_out b s m f k [] l h e = out_refl b s m
written_out b s m f k (v ∷ vs) l h e = out_trans b s _ _ _ (written_out b s (set_in m f k (v * entry_limit)) f (suc k) vs l h (omega arith)) (set_out b s m f k _ l h (omega arith))

pub head_out : (b s : ℕ) (m : List ℕ) (f guest level parent slot : ℕ) → b ≤ f → f < b + s → SameOutside b s m (header_of m f guest level parent slot)
unfolding header_of
head_out b s m f guest level parent slot l h = written_out b s m f 0 _ l h (omega arith)

pub free_words_out : (b s : ℕ) (m : List ℕ) (f next : ℕ) → b ≤ f → f < b + s → SameOutside b s m (free_words m f next)
unfolding free_words
free_words_out b s m f next l h = out_trans b s _ _ _ (set_out b s _ f 1 _ l h (omega arith)) (set_out b s m f 0 _ l h (omega arith))
