-- A translation: the held path found or filled, and the direct part from there; for any memory. In all definitions c is the
-- configuration, ht the entry of the top host table, st whether it is a store's, a the address, d its depth.
-- Assumes nothing.
use Rattle.std.specs.Prelude.{◌≡◌, ◌⊎◌, ℕ, ◌+◌, ◌-◌, ◌*◌, ◌/◌, ◌^◌, ◌<◌, ◌≤◌, Bool, true, false, not, ◌&&◌, ◌||◌, cond, List, eqb, leb, ltb}
use Rattle.std.proofs.Math.Option.{Option, none, some}
use Rattle.spec.specs.declared.Fault.{Fault}
use Rattle.spec.specs.declared.Fault.TheVariants as fault
use Rattle.spec.specs.Config.{Config, guest_base}
use Rattle.spec.specs.Entry.{page_of, indexes}
use Rattle.spec.specs.Walk.{Walk, trace}
use Rattle.spec.specs.Plain.{Place, is_span, levels, walk}
use Rattle.spec.specs.Bits.{lacks, owed, dirty_at}
use Rattle.spec.specs.Count.{one}
use Rattle.words.specs.After.{After, yields}
use Rattle.pool.specs.declared.Pool.{Pool}
use Rattle.pool.specs.declared.Way.{Way}
use Rattle.pool.specs.declared.Way.TheVariants.{To, Not, Damaged}
use Rattle.pool.specs.declared.Went.{Went}
use Rattle.layout.specs.declared.HostWalk.{HostWalk}
use Rattle.layout.specs.declared.HostWalk.TheVariants as host
use Rattle.layout.specs.Layout.{page}
use Rattle.walk.specs.declared.Walked.{Walked}
use Rattle.walk.specs.declared.Walked.TheVariants as walked
use Rattle.walk.specs.Memory.{memory_world, walked_of, root_trail}
use Rattle.accessed.specs.declared.Debt.{Debt}
use Rattle.accessed.specs.declared.Debt.TheVariants as debt
use Rattle.accessed.specs.Entries.{seen_of, seen_entries, words_of, owed_of}
use Rattle.shadow.specs.Held.{held_of, entry_for}
use Rattle.shadow.specs.Fill.{fill_of}
use Rattle.translate.specs.declared.Checked.{Checked}
use Rattle.translate.specs.declared.Checked.TheVariants as checked
use Rattle.translate.specs.declared.Held.{Held}
use Rattle.translate.specs.declared.Translated.{Translated}
use Rattle.translate.specs.declared.Verdict.{Verdict}
use Rattle.translate.specs.declared.Verdict.TheVariants as verdict

-- H and W cost an exit, the other faults none
abbrev pub exit_by : Walked → ℕ
exit_by (walked.Arrived w t n) = 0
exit_by (walked.Faulted (fault.Absent l) n) = 0
exit_by (walked.Faulted (fault.Malformed l) n) = 0
exit_by (walked.Faulted (fault.Protected l) n) = 0
exit_by (walked.Faulted (fault.HostAbsent g) n) = 1
exit_by (walked.Faulted (fault.HostReadOnly g) n) = 1
exit_by walked.Damaged = 0

-- the number whose N − d lowest indexes are the path of an address at depth d
abbrev pub path_of : ℕ → ℕ → ℕ
path_of d a = page_of a / 2 ^ (9 * d)

abbrev pub path_indexes : Config → ℕ → ℕ → List ℕ
path_indexes c d a = indexes (c.levels - d) (path_of d a)

-- what is held, with the frame f in the record
abbrev pub holding : Pool → ℕ → Held
holding p f = record { pool = p; frame = page f }

-- the ranges that the rules of a record give
abbrev pub HeldFits : Config → Held → Type 0
HeldFits c h = (h.pool.fresh ≤ c.shadows) × ((h.frame.0 ≡ 0) ⊎ ((guest_base c ≤ h.frame.0) × (h.frame.0 < c.frames)))

-- a walk that ended after at most k words
abbrev pub ReadsMost : ℕ → Walked → Type 0
ReadsMost k (walked.Arrived w p n) = n ≤ k
ReadsMost k (walked.Faulted x n) = n ≤ k
ReadsMost k walked.Damaged = Unit {0}

-- one that says at least j words, and not too many to be added to
abbrev pub ReadsFrom : ℕ → Walked → Type 0
ReadsFrom j (walked.Arrived w p n) = (j ≤ n) × (n ≤ 65536)
ReadsFrom j (walked.Faulted x n) = (j ≤ n) × (n ≤ 65536)
ReadsFrom j walked.Damaged = Unit {0}

-- an exit at most
abbrev pub ExitsOnce : Checked → Type 0
ExitsOnce (checked.Clear l) = Unit {0}
ExitsOnce (checked.Stopped x e) = e ≤ 1
ExitsOnce checked.Damaged = Unit {0}

-- what a translation leaves; sets: the bits of the request are to be set before its word is used
abbrev pub translation : Held → ℕ → Walked → Bool → Translated
translation h e r sets = record { held = h; exits = e; walked = r; sets = sets }

abbrev pub damaged : Held → List ℕ → After Translated
damaged h m = yields (translation h 0 walked.Damaged false) m

-- ---- the direct part, whatever the bits

-- from the guest table of level d in host frame t on
abbrev pub direct : Config → Bool → ℕ → ℕ → ℕ → Bool → Walk Fault Place
direct c st a d t w = levels c st (0 + d) t w (indexes d (page_of a))

-- the N − d shadow entries before it count too
unfoldable pub direct_of : Config → ℕ → List ℕ → Bool → ℕ → ℕ → ℕ → Bool → Walked
direct_of c ht m st a d t w = walked_of c ht m (c.levels - d) (direct c st a d t w)

-- through a path that is held or was just filled, e exits so far
unfoldable pub served_of : Config → ℕ → List ℕ → Held → Bool → ℕ → ℕ → ℕ → Bool → ℕ → Translated
served_of c ht m h st a d t w e = translation h (e + exit_by (direct_of c ht m st a d t w)) (direct_of c ht m st a d t w) false

-- the whole plain walk of an address
abbrev pub whole : Config → Bool → ℕ → ℕ → Walk Fault Place
whole c st root a = walk c st root (indexes c.levels (page_of a))

-- at depth N + 1 it is walked, without a shadow entry
unfoldable pub plain_of : Config → ℕ → List ℕ → Held → ℕ → Bool → ℕ → Translated
plain_of c ht m h root st a =
    let r = walked_of c ht m 0 (whole c st root a) in
    translation h (exit_by r) r false

-- ---- bits

-- what the bits of a walk say that came to r, at depth d; lack: one of its entries lacks a bit, o: what it owes. The exit of what is owed
-- is the direct part's, if that reads the entry. Where the walk itself ends, by other hands' doing, its end is said
abbrev pub owing_by : ℕ → Bool → Option (ℕ × ℕ) → Checked
owing_by d lack none = checked.Clear lack
owing_by d lack (some o) = checked.Stopped (fault.HostReadOnly o.1) (one (leb o.0 d))

abbrev pub checked_by : ℕ → Bool → Option (ℕ × ℕ) → Walked → Checked
checked_by d lack o (walked.Arrived w t n) = owing_by d lack o
checked_by d lack o (walked.Faulted x n) = checked.Stopped x (exit_by (walked.Faulted x n))
checked_by d lack o walked.Damaged = checked.Damaged

-- the bits of the whole plain walk
unfoldable pub checked_of : Config → ℕ → List ℕ → ℕ → Bool → ℕ → ℕ → Checked
checked_of c ht m root st a d =
    let w = memory_world c ht m in
    let t = trace w (whole c st root a) in
    checked_by d (lacks w st t.reads) (owed w st c.levels t.reads t.uses) (walked_of c ht m 0 (whole c st root a))

-- what is said where a table is owed a bit, at depth d
abbrev pub debt_by : ℕ → Debt → Checked
debt_by d debt.Nothing = checked.Clear true
debt_by d (debt.Table l g) = checked.Stopped (fault.HostReadOnly g) (one (leb l d))

-- the bits of the entries xs that a whole walk from the root read
unfoldable pub entries_of : Config → ℕ → List ℕ → ℕ → Bool → ℕ → List (ℕ × ℕ) → Checked
entries_of c ht m root st d xs = cond (lacks (words_of m) st xs) (debt_by d (owed_of c ht m st c.levels root xs)) (checked.Clear false)

-- a request that came to r by its bits; n references if they stop it
abbrev pub settled_by : Held → ℕ → Walked → Checked → Translated
settled_by h n r (checked.Clear lack) = translation h 0 r lack
settled_by h n r (checked.Stopped x k) = translation h k (walked.Faulted x n) false
settled_by h n r checked.Damaged = translation h 0 walked.Damaged false

-- a walk's end r, with bits on: judged by them if it arrived (judge) and otherwise as it is
abbrev pub judged_by : Held → Bool → Checked → Walked → Translated
judged_by h judge k (walked.Arrived w t n) = cond judge (settled_by h n (walked.Arrived w t n) k) (translation h 0 (walked.Arrived w t n) false)
judged_by h judge k (walked.Faulted x n) = translation h (exit_by (walked.Faulted x n)) (walked.Faulted x n) false
judged_by h judge k walked.Damaged = translation h 0 walked.Damaged false

-- a request that a held path serves, which leads to t. With bits on it is judged only if an entry of its direct part lacks a bit: those
-- that the path covers have theirs
unfoldable pub through_of : Config → ℕ → List ℕ → Held → ℕ → Bool → ℕ → ℕ → ℕ → Bool → Translated
through_of c ht m h root st a d t w =
    let k = memory_world c ht m in
    cond c.bits
    (judged_by h (lacks k st (trace k (direct c st a d t w)).reads) (checked_of c ht m root st a d) (direct_of c ht m st a d t w))
    (served_of c ht m h st a d t w 0)

-- whether an entry of the direct part lacks a bit: with bits on, where it arrived
abbrev pub lacking_by : Bool → Walked → Bool
lacking_by lack (walked.Arrived w t n) = lack
lacking_by lack (walked.Faulted x n) = false
lacking_by lack walked.Damaged = false

unfoldable pub lacking_of : Config → ℕ → List ℕ → Bool → ℕ → ℕ → ℕ → Bool → Bool
lacking_of c ht m st a d t w =
    let k = memory_world c ht m in
    lacking_by (c.bits && lacks k st (trace k (direct c st a d t w)).reads) (direct_of c ht m st a d t w)

-- no bit is to be looked at: bits are off, or no guest entry is read
unfoldable pub bitless_of : Config → ℕ → Bool
bitless_of c d = cond (eqb d 0) true (not c.bits)

-- a request at depth N + 1
unfoldable pub unshadowed_of : Config → ℕ → List ℕ → Held → ℕ → Bool → ℕ → ℕ → Translated
unshadowed_of c ht m h root st a d =
    cond c.bits (judged_by h true (checked_of c ht m root st a d) (walked_of c ht m 0 (whole c st root a))) (plain_of c ht m h root st a)

-- ---- held paths

-- is the request served by a held path with this writable bit? At depth 0 a store is not if the bit is unset
unfoldable pub serves_of : Bool → ℕ → Bool → Bool
serves_of st d w = cond (eqb d 0) (not st || w) true

-- the path held at depth d: a shadow entry, or at depth N the frame in the record
unfoldable pub found_of : Config → List ℕ → Held → ℕ → ℕ → HostWalk
found_of c m h a d =
    cond (ltb d c.levels) (held_of c m h.pool.top (path_indexes c d a))
    (cond (eqb h.frame.0 0) (host.Absent 0) (host.Found h.frame true))

abbrev pub fill_by : Held → ℕ → Walked → Bool → After Went → Way → After Translated
fill_by h e r sets s (To f) = yields (translation (record { pool = s.result.pool; frame = h.frame }) e r sets) s.memory
fill_by h e r sets s Not = damaged h s.memory
fill_by h e r sets s Damaged = damaged h s.memory

-- the path is filled with host frame t and writable bit w: a shadow entry, with the switch bit unless d is 0, or at depth N the
-- frame in the record. gs: the host frames of the guest tables on its way. The request comes to r, after e exits
unfoldable pub filled_of : Config → List ℕ → Held → List ℕ → ℕ → ℕ → ℕ → Bool → ℕ → Walked → Bool → After Translated
filled_of c m h gs a d t w e r sets =
    let s = fill_of c gs h.pool m (path_indexes c d a) (entry_for t (ltb 0 d) w) in
    cond (leb c.levels d) (yields (translation (holding h.pool t) e r sets) m) (fill_by h e r sets s s.result.way)

-- with bits on, the path that a load fills at depth 0 lets stores pass only if the entry where its walk ends is dirty; gs: the places of its
-- walk
unfoldable pub passes_of : Config → List ℕ → List ℕ → Bool → ℕ → ℕ → Bool → Bool
passes_of c m gs st a d w = w && (not (eqb d 0) || st || dirty_at (words_of m) (seen_entries gs (seen_of c gs (c.levels - d) (path_of d a))))

-- the plain count of a request whose shadow part read n words, where the direct part said k with N − d shadow entries
abbrev pub plainly : Config → ℕ → ℕ → ℕ → ℕ
plainly c d n k = n + (k - (c.levels - d))

-- a granted request by its bits: it fills its path, or is stopped
abbrev pub cleared_by : Config → List ℕ → List ℕ → Bool → ℕ → ℕ → ℕ → Bool → ℕ → Checked → Verdict
cleared_by c m gs st a d n w k (checked.Clear lack) = verdict.Fill (passes_of c m gs st a d w) lack
cleared_by c m gs st a d n w k (checked.Stopped x e) = verdict.End x (plainly c d n k) (1 + e)
cleared_by c m gs st a d n w k checked.Damaged = verdict.Damaged

-- with bits on only a granted request fills, and a fault counts as the plain walk does. b: what its bits say
abbrev pub strict_by : Config → List ℕ → List ℕ → Bool → ℕ → ℕ → ℕ → Bool → Checked → Walked → Verdict
strict_by c m gs st a d n w b (walked.Arrived v p k) = cleared_by c m gs st a d n w k b
strict_by c m gs st a d n w b (walked.Faulted x k) = verdict.End x (plainly c d n k) (1 + exit_by (walked.Faulted x k))
strict_by c m gs st a d n w b walked.Damaged = verdict.Damaged

-- with bits off a fault of the direct part fills too
abbrev pub lax_by : Bool → Walked → Verdict
lax_by w (walked.Arrived v p n) = verdict.Fill w false
lax_by w (walked.Faulted x n) = verdict.Fill w false
lax_by w walked.Damaged = verdict.Damaged

-- what becomes of a request whose shadow part read n words and whose direct part came to r; w: whether its path may be written through
unfoldable pub verdict_of : Config → ℕ → List ℕ → ℕ → List ℕ → Bool → ℕ → ℕ → ℕ → Bool → Walked → Verdict
verdict_of c ht m root gs st a d n w r = cond c.bits (strict_by c m gs st a d n w (checked_of c ht m root st a d) r) (lax_by w r)

-- the request by its verdict; a fill is an exit
abbrev pub ruled_by : Config → List ℕ → Held → List ℕ → ℕ → ℕ → ℕ → Walked → Verdict → After Translated
ruled_by c m h gs a d t r (verdict.Fill w sets) = filled_of c m h gs a d t w (1 + exit_by r) r sets
ruled_by c m h gs a d t r (verdict.End x n e) = yields (translation h e (walked.Faulted x n) false) m
ruled_by c m h gs a d t r verdict.Damaged = damaged h m

-- past a shadow part that read n words and came to t
unfoldable pub arrived_of : Config → ℕ → List ℕ → Held → ℕ → List ℕ → Bool → ℕ → ℕ → ℕ → ℕ → Bool → After Translated
arrived_of c ht m h root gs st a d n t w =
    let r = direct_of c ht m st a d t w in
    ruled_by c m h gs a d t r (verdict_of c ht m root gs st a d n w r)

abbrev pub missed_by : Config → ℕ → List ℕ → Held → ℕ → Bool → ℕ → ℕ → List ℕ → Walked → After Translated
missed_by c ht m h root st a d gs (walked.Arrived w t n) = cond (is_span c t.0) (damaged h m) (arrived_of c ht m h root gs st a d n t.0 w)
missed_by c ht m h root st a d gs (walked.Faulted x n) = yields (translation h 1 (walked.Faulted x n) false) m
missed_by c ht m h root st a d gs walked.Damaged = damaged h m

-- a path that does not serve: its shadow part is walked, and the places that the walk came through are those that a fill notes. At the depth of a
-- request it comes to no span
unfoldable pub missed_of : Config → ℕ → List ℕ → Held → ℕ → Bool → ℕ → ℕ → After Translated
missed_of c ht m h root st a d =
    let r = root_trail c ht m st root (path_indexes c d a) in
    missed_by c ht m h root st a d r.tables r.walked

abbrev pub found_by : Config → ℕ → List ℕ → Held → ℕ → Bool → ℕ → ℕ → HostWalk → After Translated
found_by c ht m h root st a d (host.Found t w) =
    cond (serves_of st d w) (yields (through_of c ht m h root st a d t.0 w) m) (missed_of c ht m h root st a d)
found_by c ht m h root st a d (host.Absent n) = missed_of c ht m h root st a d
found_by c ht m h root st a d host.Damaged = damaged h m

-- a load's or a store's translation at depth d
unfoldable pub translate_of : Config → ℕ → List ℕ → Held → ℕ → Bool → ℕ → ℕ → After Translated
translate_of c ht m h root st a d =
    cond (ltb c.levels d)
    (yields (unshadowed_of c ht m h root st a d) m)
    (found_by c ht m h root st a d (found_of c m h a d))

-- the translation of a request that no held path serves
unfoldable pub unserved_of : Config → ℕ → List ℕ → Held → ℕ → Bool → ℕ → ℕ → After Translated
unserved_of c ht m h root st a d = cond (ltb c.levels d) (yields (unshadowed_of c ht m h root st a d) m) (missed_of c ht m h root st a d)

-- ---- the depth of a request

-- the walk down to level d came to this: within a large page the depth is 0
abbrev pub soon_by : Config → ℕ → Walked → ℕ
soon_by c d (walked.Arrived w t n) = cond (is_span c t.0) 0 d
soon_by c d (walked.Faulted x n) = d
soon_by c d walked.Damaged = d

unfoldable pub walked_depth : Config → ℕ → List ℕ → ℕ → ℕ → ℕ → ℕ
walked_depth c ht m root a d = soon_by c d (walked_of c ht m 0 (walk c false root (path_indexes c d a)))

-- large pages end walks at levels 2 and 3: marks of a level above 2 are never below one
unfoldable pub may_turn : ℕ → Bool
may_turn d = cond (eqb d 0) false (ltb d 3)

-- the depth of a request whose marks give d, by its walk
unfoldable pub turned_depth : Config → ℕ → List ℕ → ℕ → ℕ → ℕ → ℕ
turned_depth c ht m root a d = cond (may_turn d) (walked_depth c ht m root a d) d

-- a path held at depth d says that depth, and a table in its place a longer path; where there is nothing the walk says it
abbrev pub depth_by : Config → ℕ → List ℕ → ℕ → ℕ → ℕ → HostWalk → ℕ
depth_by c ht m root a d (host.Found t w) = d
depth_by c ht m root a d (host.Absent n) = walked_depth c ht m root a d
depth_by c ht m root a d host.Damaged = 0

-- the same, by what is held where something is
unfoldable pub depth_of : Config → ℕ → List ℕ → Held → ℕ → ℕ → ℕ → ℕ
depth_of c ht m h root a d = cond (may_turn d) (depth_by c ht m root a d (found_of c m h a d)) d
