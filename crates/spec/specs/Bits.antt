-- Accessed and dirty bits: which of them a request needs, whether they may be set, and setting them. Document 02, 6). A walk's trace
-- shows the entries that it read, the top one first, and the guest frames whose mappings it used: the k-th entry lies in the table of the
-- k-th frame. The walk itself reads neither bit.
-- Assumes nothing.
use Rattle.std.specs.Prelude.{ℕ, pred, Bool, true, false, not, ◌&&◌, ◌||◌, cond, List, [], ◌∷◌}
use Rattle.std.proofs.Math.Option.{Option, none, some}
use Rattle.spec.specs.declared.Fault.{Fault}
use Rattle.spec.specs.declared.Fault.TheVariants.{HostReadOnly}
use Rattle.spec.specs.Config.{Config}
use Rattle.spec.specs.Entry.{accessed, dirty, with_bit}
use Rattle.spec.specs.Walk.{World, Trace, Result, granted, failed}
use Rattle.spec.specs.Plain.{Place}
use Rattle.spec.specs.Machine.{Machine, word_in, stored}

-- ---- one entry

-- has the entry e the bits that it needs: accessed, and dirty too where a store's walk ends (ends)?
abbrev pub has_bits : Bool → ℕ → Bool
has_bits ends e = accessed e && (not ends || dirty e)

-- e with them
abbrev pub with_bits : Bool → ℕ → ℕ
with_bits ends e = cond ends (with_bit 6 (with_bit 5 e)) (with_bit 5 e)

-- ---- the entries of a walk

-- does the walk end at an entry? xs: those that it read after it
abbrev pub is_last : List (ℕ × ℕ) → Bool
is_last [] = true
is_last (x ∷ xs) = false

-- does one of the entries lack a bit that a load, or a store (st), needs?
unfoldable pub lacks : World → Bool → List (ℕ × ℕ) → Bool
lacks w st [] = false
lacks w st (x ∷ xs) = not (has_bits (st && is_last xs) (w.word_at x.0 x.1)) || lacks w st xs

-- may the frame be written that this host walk came to?
abbrev pub may_write : Option Place → Bool
may_write none = false
may_write (some r) = r.1

-- the first entry, from level n down, that lacks a bit and lies in a table that is mapped read-only: its level, and the guest frame of the
-- table
unfoldable pub owed : World → Bool → ℕ → List (ℕ × ℕ) → List ℕ → Option (ℕ × ℕ)
owed w st n [] gs = none
owed w st n (x ∷ xs) [] = none
owed w st n (x ∷ xs) (g ∷ gs) =
    cond (has_bits (st && is_last xs) (w.word_at x.0 x.1) || may_write (w.host_at g)) (owed w st (pred n) xs gs) (some (n, g))

-- what the walk r of a load or a store owes; nothing where bits are off
unfoldable pub owes : Config → World → Bool → Trace Fault Place → Option (ℕ × ℕ)
owes c w st r = cond c.bits (owed w st c.levels r.reads r.uses) none

-- a request that owes a bit meets W with the table's guest frame, after all other checks: a fault of its walk stays
abbrev pub judged : Option (ℕ × ℕ) → Result Fault Place → Result Fault Place
judged o (failed x) = failed x
judged none (granted p) = granted p
judged (some o) (granted p) = failed (HostReadOnly o.1)

-- is the dirty bit set in the last of the entries? It is where there is none
abbrev pub dirty_at : World → List (ℕ × ℕ) → Bool
dirty_at w [] = true
dirty_at w (x ∷ xs) = cond (is_last xs) (dirty (w.word_at x.0 x.1)) (dirty_at w xs)

-- ---- setting them

-- the machine once each of the entries has its bits
abbrev pub set_bits : Config → Bool → Machine → List (ℕ × ℕ) → Machine
set_bits c st m [] = m
set_bits c st m (x ∷ xs) =
    set_bits c st (stored c m x.0 x.1 (with_bits (st && is_last xs) (word_in c m x.0 x.1))) xs

-- the machine on which the request whose walk is r finds its word, if it is granted
unfoldable pub bits_set : Config → Bool → Machine → Trace Fault Place → Machine
bits_set c st m r = cond c.bits (set_bits c st m r.reads) m
