-- What a table of keys says in the specification's terms.
use Rattle.std.specs.Prelude.{ℕ, suc, ◌-◌, ◌*◌, ◌/◌, ◌%◌, ◌^◌, cond, List, map, ltb}
use Rattle.spec.specs.Entry.{indexes}
use Rattle.spec.specs.Book.{Mark}
use Rattle.marks.specs.declared.Marks.{Marks}
use Rattle.marks.specs.Table.{keys}

-- how many indexes the key k holds where there are n levels: those that its level keeps, or, where there is more in it,
-- more than any mark has
abbrev pub kept : ℕ → ℕ → ℕ
kept n k = cond (ltb (k / 8) (2 ^ (9 * (n - k % 8)))) (n - k % 8) (suc n)

-- the mark that it stands for
unfoldable pub mark_of : ℕ → ℕ → Mark
mark_of n k = record { level = k % 8; prefix = indexes (kept n k) (k / 8) }

-- the marks of a table
unfoldable pub marks_of : ℕ → Marks → List Mark
marks_of n t = map (mark_of n) (keys t.place t.set)
