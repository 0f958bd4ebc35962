-- Loads and stores from address to bytes, and the held paths that a store drops; for any memory.
-- Assumes nothing.
use Rattle.std.specs.Prelude.{◌≡◌, ℕ, ◌+◌, ◌%◌, ◌<◌, ◌≤◌, Bool, true, false, cond, List, eqb}
use Rattle.spec.specs.declared.Answer.{Answer}
use Rattle.spec.specs.declared.Answer.TheVariants as answer
use Rattle.spec.specs.Config.{Config}
use Rattle.spec.specs.Entry.{page_of, word_of, frame_limit}
use Rattle.spec.specs.Bytes.{bytes_at, with_bytes}
use Rattle.spec.specs.Walk.{trace}
use Rattle.spec.specs.Plain.{next}
use Rattle.words.specs.After.{After, yields}
use Rattle.words.specs.Words.{word_in, set_in}
use Rattle.pool.specs.declared.Pool.{Pool}
use Rattle.layout.specs.declared.HostWalk.{HostWalk}
use Rattle.layout.specs.declared.HostWalk.TheVariants as host
use Rattle.layout.specs.Layout.{page}
use Rattle.walk.specs.declared.Walked.{Walked}
use Rattle.walk.specs.declared.Walked.TheVariants as walked
use Rattle.walk.specs.Memory.{memory_world, walked_of}
use Rattle.accessed.specs.Entries.{bits_in}
use Rattle.drops.specs.declared.Left.{Left}
use Rattle.drops.specs.declared.Cut.TheVariants.{Word}
use Rattle.shadow.specs.Watch.{watched_of}
use Rattle.drops.specs.Drop.{scan_of}
use Rattle.translate.specs.declared.Held.{Held}
use Rattle.request.specs.declared.Put.{Put}
use Rattle.request.specs.declared.Served.{Served}
use Rattle.translate.specs.declared.Translated.{Translated}
use Rattle.translate.specs.Translate.{exit_by, whole, serves_of, found_of, unserved_of, translate_of}

-- what a request leaves
abbrev pub serving : Held → Answer → List ℕ → After Served
serving h x m = yields (record { held = h; answer = x }) m

-- a refusal says its number and leaves what is held as it was
abbrev pub refused : Held → ℕ → List ℕ → After Served
refused h n m = serving h (answer.Refused n) m

-- ---- the bits of a request

abbrev pub set_by : Walked → List ℕ → List ℕ → List ℕ
set_by (walked.Arrived w t n) set m = set
set_by (walked.Faulted x n) set m = m
set_by walked.Damaged set m = m

-- the memory with the bits of a request's whole walk; as it was, where by other hands' doing that walk ends before its page
unfoldable pub bits_of : Config → ℕ → List ℕ → ℕ → Bool → ℕ → List ℕ
bits_of c ht m root st a =
    set_by (walked_of c ht m 0 (whole c st root a)) (bits_in st m (trace (memory_world c ht m) (whole c st root a)).reads) m

-- with them if they are to be set
unfoldable pub settled_of : Config → ℕ → ℕ → Bool → ℕ → Bool → List ℕ → List ℕ
settled_of c ht root st a sets m = cond sets (bits_of c ht m root st a) m

-- ---- the word of a store

abbrev pub put : Pool → ℕ → Bool → List ℕ → After Put
put p e b m = yields (record { pool = p; exits = e; ok = b }) m

abbrev pub dropped_by : Pool → After Left → After Put
dropped_by p o = cond o.result.ok (put o.result.pool 1 true o.memory) (put p 0 false o.memory)

-- before word i of host frame t is stored to: if the frame is watched that is an exit, and the paths that read the word are dropped; a
-- frame that is not watched has no word that a held path read. No guest word is changed yet, so damage met here has changed none
unfoldable pub dropped_of : Config → List ℕ → Pool → ℕ → ℕ → After Put
dropped_of c m p t i = cond (watched_of c m p.fresh t) (dropped_by p (scan_of c (Word (page t) i) p m)) (put p 0 true m)

-- w bytes at the address a lie in one word
abbrev pub Inside : ℕ → ℕ → Type 0
Inside a w = (0 < w) × (a % 8 + w ≤ 8)

-- in the host frame t they get the low bytes of v: the word around them is stored with the rest of it as it is
abbrev pub bytes_in : List ℕ → ℕ → ℕ → ℕ → ℕ → List ℕ
bytes_in m t a w v = set_in m t (word_of a) (with_bytes a w v (word_in m t (word_of a)))

-- a walk that arrives does so at a frame that an entry can name
abbrev pub ReachesFrame : Walked → Type 0
ReachesFrame (walked.Arrived y t n) = t.0 < frame_limit
ReachesFrame (walked.Faulted x n) = Unit {0}
ReachesFrame walked.Damaged = Unit {0}

-- ---- the common case

-- a path found at depth d, if it serves
abbrev pub serving_by : Bool → ℕ → HostWalk → HostWalk
serving_by st d (host.Found t w) = cond (serves_of st d w) (host.Found t w) (host.Absent 0)
serving_by st d (host.Absent n) = host.Absent n
serving_by st d host.Damaged = host.Damaged

unfoldable pub path_held_of : Config → List ℕ → Held → Bool → ℕ → ℕ → HostWalk
path_held_of c m h st a d = serving_by st d (found_of c m h a d)

-- a request that no held path serves is translated without one
abbrev pub Unserved : Config → ℕ → List ℕ → Held → ℕ → Bool → ℕ → ℕ → Type 0
Unserved c ht m h root st a d = translate_of c ht m h root st a d ≡ unserved_of c ht m h root st a d

-- ---- load

-- of w bytes, with what its bits leave (set); h: what was held when the load came
abbrev pub load_by : Held → ℕ → ℕ → (List ℕ → List ℕ) → After Translated → Walked → After Served
load_by h a w set o (walked.Arrived y t n) =
    let m : List ℕ = set o.memory in
    serving o.result.held (answer.Value (bytes_at a w (word_in m t.0 (word_of a))) n o.result.exits) m
load_by h a w set o (walked.Faulted x n) = serving o.result.held (answer.Faulted x n o.result.exits) o.memory
load_by h a w set o walked.Damaged = refused h 11 o.memory

abbrev pub load_from : Config → ℕ → ℕ → Held → ℕ → ℕ → After Translated → After Served
load_from c ht root h a w o = load_by h a w (settled_of c ht root false a o.result.sets) o o.result.walked

unfoldable pub load_of : Config → ℕ → List ℕ → Held → ℕ → ℕ → ℕ → ℕ → After Served
load_of c ht m h root a w d = load_from c ht root h a w (translate_of c ht m h root false a d)

-- ---- store

-- its bytes are written in host frame t, after n references and e exits; held: what was held before its drops, which left u
abbrev pub finish_by : Held → ℕ → ℕ → ℕ → ℕ → ℕ → ℕ → Put → List ℕ → After Served
finish_by held n e t a w v u m = serving (record { pool = u.pool; frame = held.frame }) (answer.Done n (e + u.exits)) (bytes_in m t a w v)

-- a store that came to its word, with what is held then and what its drops left: its bits are set, then its bytes
abbrev pub written_by : Held → Held → ℕ → ℕ → ℕ → ℕ → ℕ → ℕ → (List ℕ → List ℕ) → After Put → After Served
written_by h held n e t a w v set s = cond s.result.ok (finish_by held n e t a w v s.result (set s.memory)) (refused h 11 s.memory)

abbrev pub store_by : Config → Held → ℕ → ℕ → ℕ → (List ℕ → List ℕ) → After Translated → Walked → After Served
store_by c h a w v set o (walked.Arrived y t n) =
    written_by h o.result.held n o.result.exits t.0 a w v set (dropped_of c o.memory o.result.held.pool t.0 (word_of a))
store_by c h a w v set o (walked.Faulted x n) = serving o.result.held (answer.Faulted x n o.result.exits) o.memory
store_by c h a w v set o walked.Damaged = refused h 11 o.memory

abbrev pub store_from : Config → ℕ → ℕ → Held → ℕ → ℕ → ℕ → After Translated → After Served
store_from c ht root h a w v o = store_by c h a w v (settled_of c ht root true a o.result.sets) o o.result.walked

unfoldable pub store_of : Config → ℕ → List ℕ → Held → ℕ → ℕ → ℕ → ℕ → ℕ → After Served
store_of c ht m h root a w d v = store_from c ht root h a w v (translate_of c ht m h root true a d)

-- the common case: a store of depth 0 through the path held for it, into a frame that is not watched, writes its bytes. Whether it is one,
-- and the memory then
abbrev pub plainly_by : Config → List ℕ → Held → ℕ → ℕ → ℕ → HostWalk → After Bool
plainly_by c m h a w v (host.Found t y) = cond (watched_of c m h.pool.fresh t.0) (yields false m) (yields true (bytes_in m t.0 a w v))
plainly_by c m h a w v (host.Absent n) = yields false m
plainly_by c m h a w v host.Damaged = yields false m

unfoldable pub plainly_of : Config → List ℕ → Held → ℕ → ℕ → ℕ → ℕ → After Bool
plainly_of c m h a w d v = cond (eqb d 0) (plainly_by c m h a w v (path_held_of c m h true a d)) (yields false m)

-- a device store counts the words of its host walk; H or W is an exit, and so is a granted store into a watched frame. It sets no bits
abbrev pub device_by : Config → List ℕ → Held → ℕ → ℕ → ℕ → Walked → After Served
device_by c m h a w v (walked.Arrived y t n) = written_by h h n 0 t.0 a w v (λ x. x) (dropped_of c m h.pool t.0 (word_of a))
device_by c m h a w v (walked.Faulted x n) = serving h (answer.Faulted x n (exit_by (walked.Faulted x n))) m
device_by c m h a w v walked.Damaged = refused h 11 m

unfoldable pub device_of : Config → ℕ → List ℕ → Held → ℕ → ℕ → ℕ → After Served
device_of c ht m h a w v = device_by c m h a w v (walked_of c ht m 0 (next true true (page_of a) true))
