-- What a call changes in the book, and what it costs. Document 01, "Marks and held paths" and "Counts";
-- document 02, 6) to 8).
-- Assumes nothing.
use Rattle.std.specs.Prelude.{ℕ, zero, suc, ◌+◌, ◌-◌, ◌*◌, Bool, true, false, not, ◌&&◌, ◌||◌, cond, List, eqb, leb}
use Rattle.std.proofs.Math.Option.{Option, none, some}
use Rattle.spec.specs.declared.Fault.{Fault}
use Rattle.spec.specs.declared.Fault.TheVariants.{Absent, Malformed, Protected, HostAbsent, HostReadOnly}
use Rattle.spec.specs.Config.{Config}
use Rattle.spec.specs.Entry.{word_of}
use Rattle.spec.specs.Prefix.{same, keep}
use Rattle.spec.specs.Walk.{World, Trace, Result, granted, failed, trace}
use Rattle.spec.specs.Plain.{Place, is_span, upper, shadow_part, direct_part}
use Rattle.spec.specs.Machine.{Machine, world}
use Rattle.spec.specs.Bits.{owes, judged, dirty_at}
use Rattle.spec.specs.Book.{Held, Book, mark_at, depth, find, holding, unmarking, fill, drop_word, drop_mapping, drop_all, watched}
use Rattle.spec.specs.Choice.{charge_of, observed, emptied, operated}
use Rattle.spec.specs.Call.{Call, root, map, unmap, set_mark, clear_mark, load, store, device, forecast, address_indexes, plain, verdict, device_walk}

pub record Counted : Type 0 where
  pub references : ℕ
  pub exits : ℕ
  pub book : Book

abbrev pub one : Bool → ℕ
one b = cond b 1 0

-- a fault that the monitor has to see to, H or W, costs one exit; A, M and P cost none
abbrev pub host_exit : {A : Type 0} → Result Fault A → ℕ
host_exit (granted a) = 0
host_exit (failed (Absent n)) = 0
host_exit (failed (Malformed n)) = 0
host_exit (failed (Protected n)) = 0
host_exit (failed (HostAbsent g)) = 1
host_exit (failed (HostReadOnly g)) = 1

-- is the request served by the held path? Not if none is held, nor, at depth 0, if it is a store and the path is not writable
abbrev pub serves : Bool → ℕ → Option Held → Bool
serves st d none = false
serves st zero (some h) = not st || h.right
serves st (suc d) (some h) = true

-- what a path that is filled by a walk holds
abbrev pub held_by : List ℕ → Trace Fault Place → Bool → Held
held_by p s w = record { path = p; right = w; reads = s.reads; uses = s.uses }

abbrev pub is_granted : {A : Type 0} → Result Fault A → Bool
is_granted (granted a) = true
is_granted (failed x) = false

-- the writable bit of a path that is filled at depth d by a load or a store (st), whose shadow part s came to a place with the write right:
-- with bits on, a load whose walk ends at an entry that is not dirty fills a path that forbids stores
abbrev pub right_of : Config → World → Bool → ℕ → Trace Fault Place → Bool → Bool
right_of c w st d s right = right && (not (c.bits && eqb d 0) || st || dirty_at w s.reads)

-- the held paths beside p, which is filled anew; with bits off a path that is filled is not held
abbrev pub others : Config → List ℕ → List Held → List Held
others c p hs = cond c.bits (keep (λ h. not (same p h.path)) hs) hs

-- the exit of a request past its shadow part: one for H or W of its direct part, whose result is x, or for the bit that it owes, if the
-- entry of that level is one of the d that the direct part reads
abbrev pub late_exit : ℕ → Option (ℕ × ℕ) → Result Fault Place → ℕ
late_exit d o (failed x) = host_exit {A = Place} (failed x)
late_exit d none (granted p) = 0
late_exit d (some o) (granted p) = one (leb o.0 d)

-- A request at depth d of at most N, past its shadow part s, which came to the place r. held: a held path serves it; t: its direct part; o:
-- what it owes. The references are N − d shadow entries and the words of the direct part, N + 1 a level if it is granted, and a path that
-- was not held is filled. With bits on a request that is not granted fills nothing, and counts as the plain walk does at depth 0 and where
-- no held path serves it. Exits: one if none serves, and the late one
abbrev pub arrived : Config → World → Book → Bool → ℕ → List ℕ → Bool → Trace Fault Place → Place → Trace Fault Place → Option (ℕ × ℕ) → Counted
arrived c w b st d p held s r t o =
    let quits : Bool = c.bits && not (is_granted (judged o t.result)) in
    record {
      references = cond (quits && (eqb d 0 || not held)) (s.count + t.count) ((c.levels - d) + t.count);
      exits = one (not held) + late_exit d o t.result;
      book = cond (held || quits) b (holding b (fill c (held_by p s (right_of c w st d s r.1)) (others c p b.held)));
    }

-- The same from its beginning. A fault in the shadow part counts the words up to it, as the plain walk does, and fills nothing; its exit is
-- that of a request which no held path serves
abbrev pub shadowed : Config → World → Book → Bool → ℕ → List ℕ → List ℕ → Bool → Option (ℕ × ℕ) → Trace Fault Place → Result Fault Place → Counted
shadowed c w b st d is p held o s (failed x) = record { references = s.count; exits = one (not held); book = b }
shadowed c w b st d is p held o s (granted r) = arrived c w b st d p held s r (trace w (direct_part c st d r is)) o

-- nothing is shadowed: the n words of the walk count, and H or W is an exit. At depth N + 1 that is the plain walk, for a device store the host
-- walk of its frame; x: what the request comes to
abbrev pub unshadowed : Book → ℕ → Result Fault Place → Counted
unshadowed b n x = record { references = n; exits = host_exit x; book = b }

-- the depth where the walk down to level d came to this: 0 in a large page
abbrev pub depth_by : Config → ℕ → Result Fault Place → ℕ
depth_by c d (granted r) = cond (is_span c r.0) 0 d
depth_by c d (failed x) = d

-- The depth of a request of an address whose marks give d: where its walk comes into a large page above the marked levels, 1 to d, the depth is
-- 0, and its path has all N indexes (document 02, 8). It rests on guest words, then; a fault above those levels leaves it at d
unfoldable pub depth_in : Config → Machine → ℕ → ℕ → ℕ
depth_in c m a d = depth_by c d (trace (world c m) (shadow_part c false d m.root (address_indexes c a))).result

abbrev pub request_depth : Config → Machine → Book → ℕ → ℕ
request_depth c m b a = depth_in c m a (depth b.marks (address_indexes c a))

-- a load, or a store before its word is stored; d: the depth of the request
unfoldable pub request : Config → Machine → Book → Bool → ℕ → ℕ → Counted
request c m b st a d =
    let is : List ℕ = address_indexes c a in
    let w : World = world c m in
    let s : Trace Fault Place = trace w (shadow_part c st d m.root is) in
    cond (leb d c.levels)
    (shadowed c w b st d is (upper c d is) (serves st d (find (upper c d is) b.held)) (owes c w st (plain c m st a)) s s.result)
    (unshadowed b (plain c m st a).count (verdict c m st a))

-- what a granted request at depth d reads whose walk has k guest entries, N without large pages: N − d shadow entries, then the entries of its
-- direct part, each with a host walk; at depth N + 1 the root's host walk and all the entries
abbrev pub granted_reads : Config → ℕ → ℕ → ℕ
granted_reads c d k = cond (leb d c.levels) ((c.levels - d) + (k - (c.levels - d)) * suc c.levels) (c.levels + k * suc c.levels)

-- a store that is granted, after its path is filled: one exit more if its frame is watched, then the paths that read the word are
-- dropped. i: the word of the frame around the bytes that the store came to
unfoldable pub storing : ℕ → Result Fault Place → Counted → Counted
storing i (failed x) k = k
storing i (granted p) k = record {
  references = k.references;
  exits = k.exits + one (watched p.0 k.book.held);
  book = holding k.book (drop_word p.0 i k.book.held);
}

abbrev pub free : Book → Counted
free b = record { references = 0; exits = 0; book = b }

-- a guest load or store goes into the window, with what it is charged to, after its drops; references and exits are as they were
abbrev pub windowed : Config → Option (List ℕ) → Counted → Counted
windowed c x k = record { references = k.references; exits = k.exits; book = observed c x k.book }

unfoldable pub book_step : Config → Call → Machine → Book → Counted
book_step c (root r) m b = free (emptied (holding b (drop_all b.held)))
book_step c (map g f w) m b = free (holding b (drop_mapping g b.held))
book_step c (unmap g) m b = free (holding b (drop_mapping g b.held))
book_step c (set_mark a n) m b = free (operated c (mark_at c n (address_indexes c a)) b)
book_step c (clear_mark a n) m b = free (unmarking (mark_at c n (address_indexes c a)) b)
book_step c (load a w) m b = windowed c none (request c m b false a (request_depth c m b a))
book_step c (store a w v) m b =
    let r : Result Fault Place = verdict c m true a in
    let k : Counted = request c m b true a (request_depth c m b a) in
    windowed c (charge_of c (word_of a) r k.book.held) (storing (word_of a) r k)
book_step c (device a w v) m b =
    let r : Trace Fault Place = device_walk c m a in
    storing (word_of a) r.result (unshadowed b r.count r.result)
book_step c (forecast xs) m b = free b
