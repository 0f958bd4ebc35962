-- A move of marks on a record in parts: the paths are cut first; then head and arrays change, or nothing does.
use mathlib.Core.Path.{◌≡◌, refl, sym, ap, ◌∙◌, subst}
use Prim.Native.Nat.{ℕ, suc}
use mathlib.Core.Bool.{Bool, true, false, cond}
use mathlib.Core.List.{List}
use lib.Dec.{eqb, ltb}
use lib.Count.{ones}
use lib.ListN.{set}
use Rattle.spec.specs.Entry.{indexes}
use Rattle.words.specs.After.{After, yields}
use Rattle.layout.specs.Layout.{config}
use Rattle.marks.specs.declared.Marks.{Marks}
use Rattle.choice.specs.declared.Choice.{Choice}
use Rattle.choice.specs.Order.{leaving_of, place_by, with_order, with_of, count_with, order_with}
use Rattle.choice.specs.Window.{room}
use Rattle.record.specs.declared.Head.{Head}
use Rattle.record.specs.declared.Record.{Record}
use Rattle.record.specs.Record.{record_by, head_tables, head_marks, with_marks}
use Rattle.drops.specs.declared.Left.{Left}
use Rattle.drops.specs.Drop.{drop_prefix_of}
use Rattle.automatic.specs.declared.Moved.{Moved}
use Rattle.automatic.specs.Moves.{Move, held_after, head_shadow, moved, marked_of, left_by, then_by, withdrawn_of, room_made_of, appointed_of, appointed_in, cut_of, moved_in, kept_by}

abbrev dropped : Head → List ℕ → ℕ → ℕ → After Left
dropped h m k p = drop_prefix_of (config h.layout) h.pools.shadow m (indexes k p)

-- a cut, by whether its drop met damage
abbrev cut_by : Head → List ℕ → ℕ → ℕ → Bool → After Moved
cut_by h m k p b =
    yields (cond b (record { head = head_shadow h (dropped h m k p).result.pool (held_after k h.held); ok = true }) (record { head = h; ok = false })) (dropped h m k p).memory

no_way : {A : Type 0} → ◌≡◌ {A = Bool} true false → A
no_way e = absurd (subst (λ b. cond b (Unit {0}) ⊥) e tt)

module _ (h : Head) (place ring order m : List ℕ) (k p : ℕ) (t : Marks) (x : Choice) where
  abbrev whole : Record
  whole = record_by h place ring order

  abbrev left_but : Bool → After Move
  left_but b = left_by whole (with_marks whole t x) (held_after k h.held) (yields (record { pool = (dropped h m k p).result.pool; ok = b }) (dropped h m k p).memory)

  -- damage was met, and all is as it was
  pub marked_damaged : (o : After Moved) → o ≡ cut_of h m k p → o.result.ok ≡ false → yields (moved_in place ring order o.result) o.memory ≡ marked_of whole m k p t x
  unfolding cut_of marked_of head_tables with_marks
  marked_damaged o e f = go (dropped h m k p).result.ok e
    where
      go : (b : Bool) → o ≡ cut_by h m k p b → yields (moved_in place ring order o.result) o.memory ≡ left_but b
      go true q = no_way (sym (ap (λ (y : After Moved). y.result.ok) q) ∙ f)
      go false q = ap (λ (y : After Moved). yields (moved_in place ring order y.result) y.memory) q

  -- none was, and the record has these marks and this choice
  pub marked_cut : (o : After Moved) → o ≡ cut_of h m k p → o.result.ok ≡ true
      → moved (record_by (head_marks o.result.head t.set x.tally) t.place x.ring x.order) true o.memory ≡ marked_of whole m k p t x
  unfolding cut_of marked_of head_marks head_tables with_marks
  marked_cut o e f = go (dropped h m k p).result.ok e
    where
      go : (b : Bool) → o ≡ cut_by h m k p b → moved (record_by (head_marks o.result.head t.set x.tally) t.place x.ring x.order) true o.memory ≡ left_but b
      go true q = ap (λ (y : After Moved). moved (record_by (head_marks y.result.head t.set x.tally) t.place x.ring x.order) true y.memory) q
      go false q = no_way (sym f ∙ ap (λ (y : After Moved). y.result.ok) q)

-- a cut changes no mark
pub cut_set : (h : Head) (m : List ℕ) (k p : ℕ) (o : After Moved) → o ≡ cut_of h m k p → o.result.head.set ≡ h.set
unfolding cut_of head_tables
cut_set h m k p o e = ap (λ (y : After Moved). y.result.head.set) e ∙ go (dropped h m k p).result.ok
  where
    go : (b : Bool) → (cut_by h m k p b).result.head.set ≡ h.set
    go true = refl
    go false = refl

-- ---- moves that leave all as it was where they meet damage

abbrev pub Kept : Record → After Move → Type 0
Kept r o = o ≡ kept_by r o

pub marked_kept : (r : Record) (m : List ℕ) (k p : ℕ) (t : Marks) (x : Choice) → Kept r (marked_of r m k p t x)
unfolding marked_of
marked_kept r m k p t x = go o.result.ok
  where
    o : After Left
    o = drop_prefix_of (config r.layout) r.pools.shadow m (indexes k p)

    go : (b : Bool) → Kept r (left_by r (with_marks r t x) (held_after k r.guest.held) (yields (record { pool = o.result.pool; ok = b }) o.memory))
    go true = refl
    go false = refl

pub room_kept : (r : Record) (m : List ℕ) → Kept r (room_made_of r m)
unfolding room_made_of withdrawn_of
room_kept r m = go (ltb (ones r.guest.marks.set) room) (eqb r.guest.choice.tally.count 0)
    (place_by (leaving_of r.layout.levels r.guest.choice.ring r.guest.choice.tally r.guest.choice.order r.guest.marks.place))
  where
    go : (b d : Bool) (i : ℕ) → Kept r (cond b (moved r true m) (cond d (moved r true m) (withdrawn_of r m i)))
    go true d i = refl
    go false true i = refl
    go false false i = marked_kept r m _ _ _ _

pub appointed_kept : (p : ℕ) (r : Record) (m : List ℕ) → Kept r (appointed_in p r m)
unfolding appointed_of
appointed_kept p r m = go (ltb (ones r.guest.marks.set) room)
  where
    go : (b : Bool) → Kept r (cond b (appointed_of r m p) (moved r true m))
    go true = marked_kept r m _ _ _ _
    go false = refl

pub kept_damaged : (r : Record) (o : After Move) → Kept r o → o.result.ok ≡ false → o ≡ moved r false o.memory
kept_damaged r o k e = k ∙ ap (λ b. cond b o (moved r false o.memory)) e

-- ---- two moves that are one

module _ (r : Record) (o : After Move) (f : Record → List ℕ → After Move) where
  pub then_damaged : o.result.ok ≡ false → moved r false o.memory ≡ kept_by r (then_by o f)
  then_damaged e = rw e

  -- the first met none; y: what the second left
  module _ (e : o.result.ok ≡ true) (y : After Move) (q : y ≡ f o.result.unit o.memory) where
    then_second : kept_by r y ≡ kept_by r (then_by o f)
    then_second = ap (kept_by r) (q ∙ ap (λ b. cond b (f o.result.unit o.memory) o) (sym e))

    pub second_damaged : y.result.ok ≡ false → moved r false y.memory ≡ kept_by r (then_by o f)
    second_damaged d = ap (λ b. cond b y (moved r false y.memory)) (sym d) ∙ then_second

    pub second_goes : y.result.ok ≡ true → y ≡ kept_by r (then_by o f)
    second_goes d = ap (λ b. cond b y (moved r false y.memory)) (sym d) ∙ then_second

-- what is kept for one record is kept for another, where no damage was met
module _ (r q : Record) (x y : After Move) (e : y ≡ kept_by q x) where
  same_ok : y.result.ok ≡ x.result.ok
  same_ok = ap (λ (z : After Move). z.result.ok) e ∙ go x.result.ok refl
    where
      go : (b : Bool) → x.result.ok ≡ b → (cond b x (moved q false x.memory)).result.ok ≡ b
      go true f = f
      go false f = refl

  pub kept_goes : y.result.ok ≡ true → y ≡ kept_by r x
  kept_goes d =
      let f : x.result.ok ≡ true = sym same_ok ∙ d in
      e ∙ ap (λ b. cond b x (moved q false x.memory)) f ∙ ap (λ b. cond b x (moved r false x.memory)) (sym f)

  -- where damage was met: what was kept, and what is to be
  pub kept_back : y.result.ok ≡ false → y ≡ moved q false y.memory
  kept_back d =
      let f : x.result.ok ≡ false = sym same_ok ∙ d in
      let k : y ≡ moved q false x.memory = e ∙ ap (λ b. cond b x (moved q false x.memory)) f in
      k ∙ ap (λ (z : After Move). moved q false z.memory) (sym k)

  pub kept_instead : y.result.ok ≡ false → moved r false y.memory ≡ kept_by r x
  kept_instead d =
      let f : x.result.ok ≡ false = sym same_ok ∙ d in
      ap (λ (z : After Move). moved r false z.memory) (e ∙ ap (λ b. cond b x (moved q false x.memory)) f) ∙ ap (λ b. cond b x (moved r false x.memory)) (sym f)

-- the automatic marks with one more, in parts
pub with_parts : (x : Choice) (i : ℕ) → with_order x (count_with x.tally.count) (order_with x.tally.count x.order i) ≡ with_of x i
unfolding with_of
with_parts x i = go (ltb x.tally.count room)
  where
    go : (b : Bool) → with_order x (cond b (suc x.tally.count) x.tally.count) (cond b (set x.order x.tally.count i) x.order)
        ≡ cond b (with_order x (suc x.tally.count) (set x.order x.tally.count i)) x
    go true = refl
    go false = refl
