-- Marks that are set and cleared, by the operator and by the automatic choice: the table, what the choice keeps, and the held paths that go.
-- Assumes nothing.
use Rattle.std.specs.Prelude.{ℕ, ◌+◌, ◌-◌, ◌*◌, ◌/◌, ◌%◌, ◌^◌, ◌<◌, ◌≤◌, Bool, true, false, cond, List, eqb, leb, ltb, get_or}
use Rattle.std.specs.Int.Count.{ones}
use Rattle.spec.specs.Entry.{page_of, indexes}
use Rattle.spec.specs.Choice.{charges_for_mark}
use Rattle.words.specs.After.{After, yields}
use Rattle.entry.specs.declared.HostPhysical.{HostPhysical}
use Rattle.pool.specs.declared.Pool.{Pool}
use Rattle.layout.specs.Layout.{LayoutFits, config, page}
use Rattle.marks.specs.declared.Marks.{Marks}
use Rattle.marks.specs.Key.{key_at}
use Rattle.marks.specs.Table.{room, place_of, with_key, without_key}
use Rattle.choice.specs.declared.Choice.{Choice}
use Rattle.choice.specs.Window as window
use Rattle.choice.specs.Window.{charges_of}
use Rattle.choice.specs.Order.{automatic_at, prefix_at, leaving_of, place_by, without_of, with_of, moved_of}
use Rattle.record.specs.declared.Head.{Head}
use Rattle.record.specs.declared.Record.{Record}
use Rattle.record.specs.Record.{config_of, record_by, head_of, head_tables, with_head, with_marks}
use Rattle.drops.specs.declared.Left.{Left}
use Rattle.drops.specs.Drop.{drop_prefix_of}
use Rattle.automatic.specs.declared.Moved.{Moved}

-- what a move leaves: the record, and whether it met no damage
pub record Move : Type 0 where
  pub unit : Record
  pub ok : Bool

-- the ranges of a record that breaks no rule, as the functions here ask for them
abbrev pub SoundHead : Head → Type 0
SoundHead h = LayoutFits h.layout × (h.pools.shadow.fresh ≤ h.layout.shadows)

abbrev pub Sound : Record → Type 0
Sound r = SoundHead (head_of r)

abbrev pub Ready : Record → Type 0
Ready r = Sound r × (r.layout.levels < 6) × (r.guest.choice.tally.count ≤ room)

abbrev pub moved : Record → Bool → List ℕ → After Move
moved r ok m = yields (record { unit = r; ok = ok }) m

-- with another pool of the shadow tables, and another frame held in the record
abbrev pub head_shadow : Head → Pool → HostPhysical → Head
head_shadow h p f = head_tables h (record { host = h.pools.host; shadow = p }) f

abbrev pub with_shadow : Record → Pool → HostPhysical → Record
with_shadow r p f = with_head r (head_shadow (head_of r) p f)

-- the frame held in the record after a mark that keeps k indexes: it goes too where the mark keeps none
abbrev pub held_after : ℕ → HostPhysical → HostPhysical
held_after k f = cond (eqb k 0) (page 0) f

-- what a drop left; r is the record given, next the one after the drop, with the frame f held in it
abbrev pub left_by : Record → Record → HostPhysical → After Left → After Move
left_by r next f o = cond o.result.ok (moved (with_shadow next o.result.pool f) true o.memory) (moved r false o.memory)

-- a mark was set or cleared, or changed hands, which left the marks t and the choice x: the paths that begin with its indexes, the last k of
-- the number p, are dropped
unfoldable pub marked_of : Record → List ℕ → ℕ → ℕ → Marks → Choice → After Move
marked_of r m k p t x = left_by r (with_marks r t x) (held_after k r.guest.held) (drop_prefix_of (config_of r) r.pools.shadow m (indexes k p))

-- one move after another; damage met at the first ends them
abbrev pub then_by : After Move → (Record → List ℕ → After Move) → After Move
then_by o f = cond o.result.ok (f o.result.unit o.memory) o

-- ---- the automatic choice

-- the mark at the place i, which is automatic, is cleared
unfoldable pub withdrawn_of : Record → List ℕ → ℕ → After Move
withdrawn_of r m i =
    marked_of r m (r.layout.levels - 1) (prefix_at r.guest.marks.place i) (without_key r.guest.marks (get_or r.guest.marks.place (i % room) 0))
    (without_of r.guest.choice i)

-- where no place is free an automatic mark leaves, if there is one
unfoldable pub room_made_of : Record → List ℕ → After Move
room_made_of r m =
    cond (ltb (ones r.guest.marks.set) room) (moved r true m) (cond (eqb r.guest.choice.tally.count 0) (moved r true m)
    (withdrawn_of r m (place_by (leaving_of r.layout.levels r.guest.choice.ring r.guest.choice.tally r.guest.choice.order r.guest.marks.place))))

-- the key of the mark of level 1 for a prefix
abbrev pub leaf_key : ℕ → ℕ
leaf_key p = p * 8 + 1

-- the marks with the key k, and the choice, whose automatic marks may have other places in that table
abbrev pub marks_with : Record → ℕ → Marks
marks_with r k = with_key r.guest.marks k

abbrev pub choice_with : Record → ℕ → Choice
choice_with r k = moved_of r.guest.choice r.guest.marks.place (marks_with r k).place (marks_with r k).set

-- the prefix p gets an automatic mark, if a place is free
unfoldable pub appointed_of : Record → List ℕ → ℕ → After Move
appointed_of r m p =
    let k : ℕ = leaf_key p in
    marked_of r m (r.layout.levels - 1) p (marks_with r k) (with_of (choice_with r k) (place_of (marks_with r k).place (marks_with r k).set k))

abbrev pub appointed_in : ℕ → Record → List ℕ → After Move
appointed_in p r m = cond (ltb (ones r.guest.marks.set) room) (appointed_of r m p) (moved r true m)

-- the record with a request in its window that is charged to p
abbrev pub entered_of : Record → ℕ → Record
entered_of r p = with_marks r r.guest.marks (window.charged_of r.guest.choice p)

-- and the mark that the charge makes, where there are charges enough
abbrev pub judged_of : Record → List ℕ → ℕ → After Move
judged_of r m p =
    cond (leb charges_for_mark (charges_of r.layout.levels r.guest.choice.ring r.guest.choice.tally p)) (then_by (room_made_of r m) (appointed_in p)) (moved r true m)

-- a store is charged to the prefix p, after its own drops
unfoldable pub charged_of : Record → List ℕ → ℕ → After Move
charged_of r m p = judged_of (entered_of r p) m p

-- ---- the operator's marks

-- the page of an address without the indexes of the n lowest levels
abbrev pub above : ℕ → ℕ → ℕ
above a n = page_of a / 2 ^ (9 * n)

-- the mark of level n at a is set, which no place holds
abbrev pub added_of : ℕ → ℕ → Record → List ℕ → After Move
added_of a n r m = let k : ℕ = key_at r.layout.levels n a in marked_of r m (r.layout.levels - n) (above a n) (marks_with r k) (choice_with r k)

-- the automatic mark at the place i, of level n at a, becomes theirs
unfoldable pub taken_over_of : Record → List ℕ → ℕ → ℕ → ℕ → After Move
taken_over_of r m a n i = marked_of r m (r.layout.levels - n) (above a n) r.guest.marks (without_of r.guest.choice i)

-- the operator sets a mark: an automatic one becomes theirs at its place
unfoldable pub set_of : Record → List ℕ → ℕ → ℕ → After Move
set_of r m a n =
    let i : ℕ = place_of r.guest.marks.place r.guest.marks.set (key_at r.layout.levels n a) in
    cond (automatic_at r.guest.choice.tally.count r.guest.choice.order i) (taken_over_of r m a n i)
    (then_by (room_made_of r m) (added_of a n))

-- and clears one of theirs; the other marks keep their places
unfoldable pub cleared_of : Record → List ℕ → ℕ → ℕ → After Move
cleared_of r m a n = marked_of r m (r.layout.levels - n) (above a n) (without_key r.guest.marks (key_at r.layout.levels n a)) r.guest.choice

-- ---- on a record in parts

-- the paths that begin with the last k indexes of p are dropped
unfoldable pub cut_of : Head → List ℕ → ℕ → ℕ → After Moved
cut_of h m k p =
    let o : After Left = drop_prefix_of (config h.layout) h.pools.shadow m (indexes k p) in
    yields (cond o.result.ok (record { head = head_shadow h o.result.pool (held_after k h.held); ok = true }) (record { head = h; ok = false })) o.memory

-- a move by the head that it left, and the arrays
abbrev pub moved_in : List ℕ → List ℕ → List ℕ → Moved → Move
moved_in place ring order x = record { unit = record_by x.head place ring order; ok = x.ok }

-- two moves that are one: where the second meets damage, all is as before the first
abbrev pub kept_by : Record → After Move → After Move
kept_by r o = cond o.result.ok o (moved r false o.memory)
