-- The steps of the loops' definitions, and what tables handed out and lookups always satisfy.
use mathlib.Core.Path.{◌≡◌, refl, sym, ap}
use Prim.Native.Nat.{ℕ, ◌+◌, ◌-◌, ◌≤◌, ◌<◌}
use native.Mathlib.Omega.{arith}
use mathlib.Core.Bool.{Bool, true, false}
use mathlib.Core.List.{List, [], ◌∷◌}
use lib.Dec.{leb}
use lib.ListN.{length, get_or}
use borrow.Author.Tests.{leb-true, leb-false, le-leb, lt-leb}
use Rattle.spec.specs.Entry.{index, indexes}
use Rattle.pool.specs.declared.Area.{Area}
use Rattle.pool.specs.declared.Pool.{Pool}
use Rattle.words.specs.After.{After}
use Rattle.pool.specs.declared.Went.{Went}
use Rattle.pool.specs.declared.Way.{Way}
use Rattle.pool.specs.declared.Way.TheVariants.{To, Not, Damaged}
use Rattle.area.specs.declared.Look.{Look}
use Rattle.area.specs.declared.Look.TheVariants.{Seen}
use Rattle.area.specs.declared.Look.TheVariants as look
use Rattle.pool.specs.Header.{entry_at_of, put_entry_of}
use Rattle.spec_laws.proofs.Indexes.{indexes_step}
use Rattle.pool.specs.Pool.{follow_of, on_way, end, take_of}
use Rattle.area.specs.Tree.{lookup_of, headed, new_table_of, topped, new_top_of, enter_of, attached, attach_of, descend_of, onward, down_of}
use Rattle.pool.proofs.Laws.{follow_good, AreaGood, take_good}

-- ---- what is handed out lies in the area
pub table_good : (a : Area) (p : Pool) (m : List ℕ) (guest level parent slot : ℕ) → AreaGood a (new_table_of a p m guest level parent slot).result.way
unfolding new_table_of
table_good a p m guest level parent slot = go (take_of a p m).result.way (take_good a p m)
  where
    go : (w : Way) → AreaGood a (take_of a p m).result.way → AreaGood a (headed (take_of a p m) w guest level parent slot).result.way
    go (To f) g = g
    go Not g = g
    go Damaged g = g

attach_good : (a : Area) (p : Pool) (m : List ℕ) (guest level f i : ℕ) → AreaGood a (attach_of a p m guest level f i).result.way
unfolding attach_of
attach_good a p m guest level f i =
    go (new_table_of a p m guest level f i).result.way (table_good a p m guest level f i)
  where
    go : (w : Way) → AreaGood a (new_table_of a p m guest level f i).result.way → AreaGood a (attached (new_table_of a p m guest level f i) w f i).result.way
    go (To f) g = g
    go Not g = g
    go Damaged g = g

pub descend_good : (a : Area) (p : Pool) (m : List ℕ) (guest level f i : ℕ) → AreaGood a (descend_of a p m guest level f i).result.way
unfolding descend_of
descend_good a p m guest level f i =
    go (follow_of a.base a.size (entry_at_of m f i)) (follow_good a.base a.size (entry_at_of m f i))
  where
    go : (w : Way) → AreaGood a w → AreaGood a (on_way w (attach_of a p m guest level f i) (end p Damaged m) (λ h. end p (To h) m)).result.way
    go (To h) g = g
    go Not g = attach_good a p m guest level f i
    go Damaged g = tt

pub enter_good : (a : Area) (p : Pool) (m : List ℕ) (guest : ℕ) → AreaGood a (enter_of a p m guest).result.way
unfolding enter_of new_top_of
enter_good a p m guest = go (follow_of a.base a.size p.top) (follow_good a.base a.size p.top)
  where
    new : After Went
    new = new_table_of a p m guest a.levels 0 0

    top : (w : Way) → AreaGood a w → AreaGood a (topped new w).result.way
    top (To f) g = g
    top Not g = table_good a p m guest a.levels 0 0
    top Damaged g = table_good a p m guest a.levels 0 0

    go : (w : Way) → AreaGood a w → AreaGood a (on_way w (topped new new.result.way) (end p Damaged m) (λ f. end p (To f) m)).result.way
    go (To f) g = g
    go Not g = top new.result.way (table_good a p m guest a.levels 0 0)
    go Damaged g = tt

-- ---- loops
pub look_step : (b s : ℕ) (m : List ℕ) (e g left n : ℕ) → 0 < left
    → lookup_of b s m e (indexes left g) n
    ≡ on_way (follow_of b s e) (Seen 0 n) look.Damaged (λ f. lookup_of b s m (entry_at_of m f (index (left - 1) g)) (indexes (left - 1) g) (n + 1))
unfolding lookup_of
look_step b s m e g left n l = ap (λ is. lookup_of b s m e is n) (indexes_step left g l)

pub look_last : (b s : ℕ) (m : List ℕ) (e g n : ℕ) → lookup_of b s m e (indexes 0 g) n ≡ Seen e n
unfolding lookup_of indexes
look_last b s m e g n = refl

abbrev pub LookGood : ℕ → Look → Type 0
LookGood k (Seen e n) = n ≤ k
LookGood k look.Damaged = Unit {0}

-- a walk reads no more words than the path has indexes
pub look_good : (b s : ℕ) (m : List ℕ) (e : ℕ) (is : List ℕ) (n k : ℕ) → n + length is ≤ k → LookGood k (lookup_of b s m e is n)
unfolding lookup_of
look_good b s m e [] n k l = omega arith
look_good b s m e (i ∷ is) n k l = go (follow_of b s e) (λ f. look_good b s m (entry_at_of m f i) is (n + 1) k (omega arith))
  where
    go : (w : Way) → ((f : ℕ) → LookGood k (lookup_of b s m (entry_at_of m f i) is (n + 1)))
        → LookGood k (on_way w (Seen 0 n) look.Damaged (λ f. lookup_of b s m (entry_at_of m f i) is (n + 1)))
    go (To f) h = h f
    go Not h = omega arith
    go Damaged h = tt

pub down_step : (a : Area) (guests : List ℕ) (p : Pool) (m : List ℕ) (d f g left e : ℕ) → 0 < left
    → down_of a guests p m d f (index left g) (indexes left g) e
    ≡ onward (descend_of a p m (get_or guests (d + 1) 0) (a.levels - (d + 1)) f (index left g)) (λ q n h. down_of a guests q n (d + 1) h (index (left - 1) g) (indexes (left - 1) g) e)
unfolding down_of
down_step a guests p m d f g left e l =
    ap (λ is. down_of a guests p m d f (index left g) is e) (indexes_step left g l)

pub down_last : (a : Area) (guests : List ℕ) (p : Pool) (m : List ℕ) (d f g e : ℕ)
    → down_of a guests p m d f (index 0 g) (indexes 0 g) e ≡ end p (To f) (put_entry_of m f (index 0 g) e)
unfolding down_of indexes
down_last a guests p m d f g e = refl

pub leb_same : (a b c d : ℕ) → (a ≤ b → c ≤ d) → (b < a → d < c) → leb a b ≡ leb c d
leb_same a b c d f g = go (leb a b) refl
  where
    go : (t : Bool) → leb a b ≡ t → t ≡ leb c d
    go true q = sym (le-leb c d (f (leb-true a b q)))
    go false q = sym (lt-leb c d (g (leb-false a b q)))
