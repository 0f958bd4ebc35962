-- Whatever the memory holds, no step of an insert changes a word outside the area.
use mathlib.Core.Path.{◌≡◌, refl}
use Prim.Native.Nat.{ℕ, zero, suc, ◌+◌, ◌*◌, ◌-◌, ◌<◌, ◌≤◌}
use native.Mathlib.Omega.{arith}
use mathlib.Core.Bool.{Bool, true, false, cond}
use mathlib.Core.List.{List, [], ◌∷◌}
use lib.Dec.{ltb}
use lib.ListN.{get_or}
use borrow.Author.Tests.{ltb-true}
use Rattle.spec.specs.Entry.{indexes}
use Rattle.entry.proofs.Entries.{index_fits}
use Rattle.words.specs.Words.{zeroed}
use Rattle.pool.specs.declared.Area.{Area}
use Rattle.pool.specs.declared.Pool.{Pool}
use Rattle.pool.specs.declared.Way.{Way}
use Rattle.pool.specs.declared.Way.TheVariants.{To, Not, Damaged}
use Rattle.pool.specs.Header.{entry_at_of}
use Rattle.pool.specs.Pool.{link, follow_of, on_way, end, pool_of, fresh_of, freed_of, take_of}
use Rattle.area.specs.Tree.{room_of, headed, new_table_of, topped, new_top_of, enter_of, attached, attach_of, descend_of, down_of, place_of, insert_of}
use Rattle.pool.specs.Outside.{SameOutside}
use Rattle.area.specs.Outside.{Narrow}
use Rattle.pool.proofs.Laws.{AreaGood, follow_good, take_good}
use Rattle.area.proofs.Laws.{enter_good, descend_good}
use Rattle.words.specs.After.{After}
use Rattle.pool.specs.declared.Went.{Went}
use Rattle.pool.proofs.Outside.{out_refl, out_trans, zero_out, put_out, head_out}

pub indexes_narrow : (k g : ℕ) → Narrow (indexes k g)
unfolding indexes
indexes_narrow zero g = tt
indexes_narrow (suc k) g = (index_fits k g, indexes_narrow k g)

module _ (a : Area) where
  abbrev pub Kept : List ℕ → After Went → Type 0
  Kept m t = SameOutside a.base a.size m t.memory

  abbrev pub In : ℕ → Type 0
  In f = (a.base ≤ f) × (f < a.base + a.size)

  pub same : (m : List ℕ) → SameOutside a.base a.size m m
  same m = out_refl a.base a.size m

  pub after : (m n o : List ℕ) → SameOutside a.base a.size n o → SameOutside a.base a.size m n → SameOutside a.base a.size m o
  after m n o y x = out_trans a.base a.size m n o y x

  -- ---- insert
  pub take_out : (p : Pool) (m : List ℕ) → Kept m (take_of a p m)
  unfolding take_of fresh_of freed_of
  take_out p m = go (ltb p.used a.size) (follow_of a.base a.size p.free) (follow_good a.base a.size p.free)
    where
      fresh : (t : Bool) → ltb p.fresh a.size ≡ t
          → Kept m (cond t (end (pool_of (p.fresh + 1) p.free (p.used + 1) p.top) (To (a.base + p.fresh)) (zeroed m ((a.base + p.fresh) * 512) 512)) (end p Damaged m))
      fresh true q =
          let l = ltb-true p.fresh a.size q in
          zero_out a.base a.size m (a.base + p.fresh) (omega arith) (omega arith)
      fresh false q = same m

      go : (t : Bool) (w : Way) → AreaGood a w → Kept m (cond t (on_way w (fresh_of a p m) (end p Damaged m) (freed_of p m)) (end p Not m))
      go true (To f) g = zero_out a.base a.size m f g.0 g.1
      go true Not g = fresh (ltb p.fresh a.size) refl
      go true Damaged g = same m
      go false w g = same m

  pub table_out : (p : Pool) (m : List ℕ) (guest level parent slot : ℕ) → Kept m (new_table_of a p m guest level parent slot)
  unfolding new_table_of
  table_out p m guest level parent slot = go (take_of a p m).result.way (take_good a p m)
    where
      go : (w : Way) → AreaGood a w → Kept m (headed (take_of a p m) w guest level parent slot)
      go (To f) g =
          after m (take_of a p m).memory _ (head_out a.base a.size (take_of a p m).memory f guest level parent slot g.0 g.1) (take_out p m)
      go Not g = take_out p m
      go Damaged g = take_out p m

  pub descend_out : (p : Pool) (m : List ℕ) (guest level f i : ℕ) → In f → i < 512 → Kept m (descend_of a p m guest level f i)
  unfolding descend_of attach_of
  descend_out p m guest level f i h k = go (follow_of a.base a.size (entry_at_of m f i))
    where
      attach : (w : Way) → Kept m (attached (new_table_of a p m guest level f i) w f i)
      attach (To d) =
          after m (new_table_of a p m guest level f i).memory _ (put_out a.base a.size (new_table_of a p m guest level f i).memory f i (link d) h.0 h.1 k) (table_out p m guest level f i)
      attach Not = table_out p m guest level f i
      attach Damaged = table_out p m guest level f i

      go : (w : Way) → Kept m (on_way w (attach_of a p m guest level f i) (end p Damaged m) (λ d. end p (To d) m))
      go (To d) = same m
      go Not = attach (new_table_of a p m guest level f i).result.way
      go Damaged = same m

  pub down_out : (is guests : List ℕ) (p : Pool) (m : List ℕ) (d f i e : ℕ) → In f → i < 512 → Narrow is → Kept m (down_of a guests p m d f i is e)
  unfolding down_of
  down_out [] guests p m d f i e h k n = put_out a.base a.size m f i e h.0 h.1 k
  down_out (j ∷ is) guests p m d f i e h k n =
      go step.result.way (descend_good a p m (get_or guests (d + 1) 0) (a.levels - (d + 1)) f i) (λ t l. down_out is guests step.result.pool step.memory (d + 1) t j e l n.0 n.1)
    where
      step : After Went
      step = descend_of a p m (get_or guests (d + 1) 0) (a.levels - (d + 1)) f i

      one : Kept m step
      one = descend_out p m (get_or guests (d + 1) 0) (a.levels - (d + 1)) f i h k

      go : (w : Way) → AreaGood a w → ((t : ℕ) → In t → Kept step.memory (down_of a guests step.result.pool step.memory (d + 1) t j is e))
          → Kept m (on_way w (end step.result.pool Damaged step.memory) (end step.result.pool Damaged step.memory) (λ t. down_of a guests step.result.pool step.memory (d + 1) t j is e))
      go (To t) g next = after m step.memory _ (next t g) one
      go Not g next = one
      go Damaged g next = one

  pub enter_out : (p : Pool) (m : List ℕ) (guest : ℕ) → Kept m (enter_of a p m guest)
  unfolding enter_of new_top_of
  enter_out p m guest = go (follow_of a.base a.size p.top)
    where
      new : After Went
      new = new_table_of a p m guest a.levels 0 0

      top : (w : Way) → Kept m (topped new w)
      top (To f) = table_out p m guest a.levels 0 0
      top Not = table_out p m guest a.levels 0 0
      top Damaged = table_out p m guest a.levels 0 0

      go : (w : Way) → Kept m (on_way w (topped new new.result.way) (end p Damaged m) (λ f. end p (To f) m))
      go (To f) = same m
      go Not = top new.result.way
      go Damaged = same m

  pub place_out : (guests : List ℕ) (p : Pool) (m : List ℕ) (i : ℕ) (is : List ℕ) (e : ℕ) → i < 512 → Narrow is → Kept m (place_of a guests p m i is e)
  unfolding place_of
  place_out guests p m i is e k n = go step.result.way (enter_good a p m (get_or guests 0 0))
    where
      step : After Went
      step = enter_of a p m (get_or guests 0 0)

      one : Kept m step
      one = enter_out p m (get_or guests 0 0)

      go : (w : Way) → AreaGood a w
          → Kept m (on_way w (end step.result.pool Damaged step.memory) (end step.result.pool Damaged step.memory) (λ t. down_of a guests step.result.pool step.memory 0 t i is e))
      go (To t) g = after m step.memory _ (down_out is guests step.result.pool step.memory 0 t i e g k n) one
      go Not g = one
      go Damaged g = one

  -- an insert changes no word outside the area
  pub insert_out : (guests : List ℕ) (p : Pool) (m is : List ℕ) (e : ℕ) → Narrow is → Kept m (insert_of a guests p m is e)
  unfolding insert_of
  insert_out guests p m [] e n = same m
  insert_out guests p m (i ∷ is) e n = go (room_of a p m (i ∷ is))
    where
      go : (w : Way) → Kept m (on_way w (end p Not m) (end p Damaged m) (λ k. place_of a guests p m i is e))
      go (To k) = place_out guests p m i is e n.0 n.1
      go Not = same m
      go Damaged = same m
