-- What the entries of shadow tables say, at which of them held paths are cut; for any memory.
-- Assumes nothing.
use Rattle.std.specs.Prelude.{ℕ, zero, suc, ◌+◌, ◌%◌, Bool, true, false, cond, List, eqb}
use Rattle.spec.specs.Config.{Config}
use Rattle.spec.specs.Entry.{present, switch, frame_of}
use Rattle.spec.specs.Refusal.{in_guest_area}
use Rattle.spec.specs.Plain.{Lead, to, into, is_span, entry_lead, span_lead}
use Rattle.words.specs.Words.{word_in}
use Rattle.pool.specs.Header.{guest_of, level_of, parent_of, slot_of, inside_of}
use Rattle.drops.specs.declared.Kind.{Kind}
use Rattle.drops.specs.declared.Kind.TheVariants.{Gone, Leaf, Table, Damaged}
use Rattle.drops.specs.declared.Cut.{Cut}
use Rattle.drops.specs.declared.Cut.TheVariants.{Word, Names, Slot}
use Rattle.drops.specs.declared.Above.{Above}
use Rattle.drops.specs.declared.Above.TheVariants.{Met, To}
use Rattle.drops.specs.declared.Above.TheVariants as above

-- ---- entries

-- a present entry ends a held path in a table of level 1, and above it by the switch bit
unfoldable pub is_leaf : Bool → ℕ → Bool
is_leaf lowest e = cond lowest true (switch e)

-- what an entry says. Damaged: it is present and names a frame outside its area, which is the guest area for a leaf and the shadow
-- area for a table
unfoldable pub kind_of : Config → Bool → ℕ → Kind
kind_of c lowest e =
    cond (present e)
    (cond (is_leaf lowest e)
    (cond (in_guest_area c (frame_of e)) Leaf Damaged)
    (cond (inside_of c.hosts c.shadows (frame_of e)) (Table (frame_of e)) Damaged))
    Gone

-- ---- cuts

-- where level n leads by index i of the place t, a guest table's host frame or a span, by the words of memory
unfoldable pub lead_in : Config → List ℕ → ℕ → ℕ → ℕ → Lead
lead_in c m n t i = cond (is_span c t) (span_lead c n t i) (entry_lead n (word_in m t i))

-- is guest frame g's mapping used there? A lead into a large page uses none
abbrev pub leads_to : ℕ → Lead → Bool
leads_to g (to h) = eqb g h
leads_to g (into h) = false

-- is entry i of the table in frame f cut? A path goes if an entry on it is cut
abbrev pub cut_of : Config → List ℕ → Cut → ℕ → ℕ → Bool
cut_of c m (Word t j) f i = cond (eqb i (j % 512)) (eqb (guest_of m f) t.0) false
cut_of c m (Names g) f i = leads_to g.0 (lead_in c m (level_of m f) (guest_of m f) i)
cut_of c m (Slot t j) f i = cond (eqb i (j % 512)) (eqb f t.0) false

-- the entries of a table at which it may be cut: from low_of on, below end_of
abbrev pub low_of : Cut → ℕ
low_of (Word t j) = j % 512
low_of (Names g) = 0
low_of (Slot t j) = j % 512

abbrev pub end_of : Cut → ℕ
end_of (Word t j) = j % 512 + 1
end_of (Names g) = 512
end_of (Slot t j) = j % 512 + 1

-- may the table in frame f have an entry that is cut?
abbrev pub touches_of : List ℕ → Cut → ℕ → Bool
touches_of m (Word t j) f = eqb (guest_of m f) t.0
touches_of m (Names g) f = true
touches_of m (Slot t j) f = eqb f t.0

-- one link up: Met if the entry that names the table in frame f is cut, above.Damaged if the link leads out of the area
unfoldable pub link_up_of : Config → Cut → List ℕ → ℕ → Above
link_up_of c x m f =
    cond (inside_of c.hosts c.shadows (parent_of m f))
    (cond (cut_of c m x (parent_of m f) (slot_of m f)) Met (To (parent_of m f)))
    above.Damaged

abbrev pub up_by : Above → (ℕ → Above) → Above
up_by Met next = Met
up_by (To p) next = next p
up_by above.Damaged next = above.Damaged

-- k links up: Met if one of the entries above is cut
unfoldable pub links_up_of : Config → Cut → List ℕ → ℕ → ℕ → Above
links_up_of c x m zero f = To f
links_up_of c x m (suc k) f = up_by (link_up_of c x m f) (links_up_of c x m k)
