-- What a search among the marks says after a run. Document 02, 3).
-- Assumes nothing.
use Rattle.std.specs.Prelude.{◌≡◌, ℕ, suc, ◌≤◌, true, false, length}
use mathlib.Core.List.{List, Permᴰ}
use Rattle.spec.specs.declared.Lookup.{Lookup}
use Rattle.spec.specs.Config.{Config}
use Rattle.spec.specs.Prefix.{any}
use Rattle.spec.specs.Book.{Mark, Book, depth}
use Rattle.spec.specs.Search.{ends, search}
use Rattle.spec.specs.Call.{address_indexes}
use Rattle.marks.specs.Reading.{marks_of}
use Rattle.record.specs.declared.Record.{Record}

-- the record's marks, in the order of their places
abbrev pub marks_in : Record → List Mark
marks_in r = marks_of r.layout.levels r.guest.marks

-- the lookup f of the address a in the record r, b being the book
pub record LooksUp (c : Config) (b : Book) (r : Record) (a : ℕ) (f : Lookup) : Type 0 where
  pub marks : Permᴰ (marks_in r) b.marks  -- the record's marks are the book's, in some order
  pub searched : f ≡ search c.levels (marks_in r) (address_indexes c a)
  pub deep : f.depth ≡ depth b.marks (address_indexes c a)
  -- with no mark of level N + 1 it read all that are set, and with one at most N + 1
  pub all : any (ends c.levels) b.marks ≡ false → f.read ≡ length b.marks
  pub few : any (ends c.levels) b.marks ≡ true → f.read ≤ suc c.levels
