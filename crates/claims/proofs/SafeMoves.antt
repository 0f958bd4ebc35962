-- What the moves of marks leave, whatever the record and the memory: the layout, and each word outside the shadow tables.
-- Assumes nothing.
use mathlib.Core.Path.{◌≡◌, refl, sym, subst}
use Prim.Native.Nat.{ℕ, ◌-◌, ◌≤◌}
use mathlib.Core.Bool.{Bool, true, false, cond}
use mathlib.Core.List.{List}
use lib.Dec.{eqb, leb, ltb}
use lib.Count.{ones}
use Rattle.spec.specs.Entry.{indexes}
use Rattle.spec.specs.Choice.{charges_for_mark}
use Rattle.words.specs.After.{After}
use Rattle.pool.specs.Outside.{SameOutside}
use Rattle.pool.proofs.Outside.{out_refl, out_trans}
use Rattle.layout.specs.declared.Layout.{Layout}
use Rattle.marks.specs.declared.Marks.{Marks}
use Rattle.marks.specs.Key.{key_at}
use Rattle.marks.specs.Table.{room, place_of}
use Rattle.choice.specs.declared.Choice.{Choice}
use Rattle.choice.specs.Window.{charges_of}
use Rattle.choice.specs.Order.{automatic_at, leaving_of, place_by, without_of}
use Rattle.record.specs.declared.Record.{Record}
use Rattle.record.specs.Record.{config_of, head_tables, with_marks}
use Rattle.drops.specs.declared.Left.{Left}
use Rattle.drops.specs.Drop.{drop_prefix_of}
use Rattle.drops.proofs.Outside.{prefix_out}
use Rattle.drops.proofs.Fresh.{prefix_fits_lem}
use Rattle.automatic.specs.Moves.{Move, moved, with_shadow, held_after, marked_of, then_by, withdrawn_of, room_made_of, appointed_of, appointed_in, entered_of, judged_of, charged_of, above, added_of, taken_over_of, set_of, cleared_of}

-- from the record r and the memory m moves have led to q and n
pub record Stays (r : Record) (m : List ℕ) (q : Record) (n : List ℕ) : Type 0 where
  pub layout : q.layout ≡ r.layout
  pub fresh : q.pools.shadow.fresh ≤ r.layout.shadows
  pub same : SameOutside r.layout.hosts r.layout.shadows m n

abbrev pub StaysBy : Record → List ℕ → After Move → Type 0
StaysBy r m x = Stays r m x.result.unit x.memory

pub first_stays : (r : Record) (m : List ℕ) → r.pools.shadow.fresh ≤ r.layout.shadows → Stays r m r m
first_stays r m h = record { layout = refl; fresh = h; same = out_refl r.layout.hosts r.layout.shadows m }

module _ (r : Record) (m : List ℕ) where
  -- one move, also where it meets damage
  marked_stays : (q : Record) (n : List ℕ) (k p : ℕ) (t : Marks) (x : Choice) → Stays r m q n → StaysBy r m (marked_of q n k p t x)
  unfolding marked_of with_marks head_tables
  marked_stays q n k p t x s = go o.result.ok
    where
      o : After Left
      o = drop_prefix_of (config_of q) q.pools.shadow n (indexes k p)

      few : q.pools.shadow.fresh ≤ q.layout.shadows
      few = subst (λ (l : Layout). q.pools.shadow.fresh ≤ l.shadows) (sym s.layout) s.fresh

      same : SameOutside r.layout.hosts r.layout.shadows m o.memory
      same =
          out_trans r.layout.hosts r.layout.shadows m n o.memory
          (subst (λ (l : Layout). SameOutside l.hosts l.shadows n o.memory) s.layout (prefix_out (config_of q) q.pools.shadow n (indexes k p) few)) s.same

      fits : o.result.pool.fresh ≤ r.layout.shadows
      fits = subst (λ (l : Layout). o.result.pool.fresh ≤ l.shadows) s.layout (prefix_fits_lem (config_of q) q.pools.shadow n (indexes k p) few)

      go : (b : Bool) → StaysBy r m (cond b (moved (with_shadow (with_marks q t x) o.result.pool (held_after k q.guest.held)) true o.memory) (moved q false o.memory))
      go true = record { layout = s.layout; fresh = fits; same = same }
      go false = record { layout = s.layout; fresh = s.fresh; same = same }

  -- one after another
  then_stays : (o : After Move) (f : Record → List ℕ → After Move) → StaysBy r m o → ((q : Record) (n : List ℕ) → Stays r m q n → StaysBy r m (f q n)) → StaysBy r m (then_by o f)
  then_stays o f s k = go o.result.ok
    where
      go : (b : Bool) → StaysBy r m (cond b (f o.result.unit o.memory) o)
      go true = k o.result.unit o.memory s
      go false = s

  room_stays : (q : Record) (n : List ℕ) → Stays r m q n → StaysBy r m (room_made_of q n)
  unfolding room_made_of withdrawn_of
  room_stays q n s =
      go (ltb (ones q.guest.marks.set) room) (eqb q.guest.choice.tally.count 0)
      (place_by (leaving_of q.layout.levels q.guest.choice.ring q.guest.choice.tally q.guest.choice.order q.guest.marks.place))
    where
      go : (b d : Bool) (i : ℕ) → StaysBy r m (cond b (moved q true n) (cond d (moved q true n) (withdrawn_of q n i)))
      go true d i = s
      go false true i = s
      go false false i = marked_stays q n _ _ _ _ s

  appointed_stays : (p : ℕ) (q : Record) (n : List ℕ) → Stays r m q n → StaysBy r m (appointed_in p q n)
  unfolding appointed_of
  appointed_stays p q n s = go (ltb (ones q.guest.marks.set) room)
    where
      go : (b : Bool) → StaysBy r m (cond b (appointed_of q n p) (moved q true n))
      go true = marked_stays q n _ _ _ _ s
      go false = s

  judged_stays : (q : Record) (n : List ℕ) (p : ℕ) → Stays r m q n → StaysBy r m (judged_of q n p)
  judged_stays q n p s = go (leb charges_for_mark (charges_of q.layout.levels q.guest.choice.ring q.guest.choice.tally p))
    where
      go : (b : Bool) → StaysBy r m (cond b (then_by (room_made_of q n) (appointed_in p)) (moved q true n))
      go true = then_stays (room_made_of q n) (appointed_in p) (room_stays q n s) (appointed_stays p)
      go false = s

  entered_stays : (q : Record) (n : List ℕ) (p : ℕ) → Stays r m q n → Stays r m (entered_of q p) n
  unfolding with_marks
  entered_stays q n p s = record { layout = s.layout; fresh = s.fresh; same = s.same }

  -- a charge
  pub charged_stays : (q : Record) (n : List ℕ) (p : ℕ) → Stays r m q n → StaysBy r m (charged_of q n p)
  unfolding charged_of
  charged_stays q n p s = judged_stays (entered_of q p) n p (entered_stays q n p s)

  -- the operator's
  pub set_stays : (q : Record) (n : List ℕ) (a k : ℕ) → Stays r m q n → StaysBy r m (set_of q n a k)
  unfolding set_of taken_over_of
  set_stays q n a k s = go (place_of q.guest.marks.place q.guest.marks.set (key_at q.layout.levels k a))
    where
      by : (i : ℕ) (b : Bool) → StaysBy r m (cond b (marked_of q n (q.layout.levels - k) (above a k) q.guest.marks (without_of q.guest.choice i)) (then_by (room_made_of q n) (added_of a k)))
      by i true = marked_stays q n _ _ _ _ s
      by i false = then_stays (room_made_of q n) (added_of a k) (room_stays q n s) (λ u o x. marked_stays u o _ _ _ _ x)

      go : (i : ℕ)
          → StaysBy r m (cond (automatic_at q.guest.choice.tally.count q.guest.choice.order i) (marked_of q n (q.layout.levels - k) (above a k) q.guest.marks (without_of q.guest.choice i)) (then_by (room_made_of q n) (added_of a k)))
      go i = by i (automatic_at q.guest.choice.tally.count q.guest.choice.order i)

  pub cleared_stays : (q : Record) (n : List ℕ) (a k : ℕ) → Stays r m q n → StaysBy r m (cleared_of q n a k)
  unfolding cleared_of
  cleared_stays q n a k s = marked_stays q n _ _ _ _ s
