-- The words of the memory that a load or a store counts, and the requests that rest on them alone. Document 01, "Words counted";
-- document 02, 6).
-- Assumes nothing.
use Rattle.std.specs.Prelude.{◌≡◌, ◌⊎◌, ℕ, ◌<◌, ◌≤◌, Bool, true, false, cond, List, [], ◌∷◌, ◌++◌, T, leb, ltb, set}
use Rattle.spec.specs.declared.Fault.{Fault}
use Rattle.spec.specs.declared.Answer.{Answer}
use Rattle.spec.specs.declared.Answer.TheVariants as answer
use Rattle.spec.specs.Config.{Config, guest_base}
use Rattle.spec.specs.Entry.{word_of, indexes}
use Rattle.spec.specs.Bytes.{with_bytes}
use Rattle.spec.specs.Walk.{Walk, done, fail, host, word, granted, trace}
use Rattle.spec.specs.Plain.{Place, upper}
use Rattle.spec.specs.Bits.{lacks}
use Rattle.spec.specs.Machine.{Machine, place}
use Rattle.spec.specs.Book.{Book, find}
use Rattle.spec.specs.Call.{address_indexes}
use Rattle.spec.specs.Count as count
use Rattle.spec.specs.Count.{serves}
use Rattle.spec.specs.Prefix.{All}
use Rattle.words.specs.Words.{word_in}
use Rattle.area.specs.Tree.{entries_read}
use Rattle.words.specs.Words.{SameFrame}
use Rattle.layout.specs.declared.HostWalk.{HostWalk}
use Rattle.layout.specs.declared.HostWalk.TheVariants as hosts
use Rattle.host.specs.Walk.{host_walk_of}
use Rattle.walk.specs.declared.Walked.{Walked}
use Rattle.walk.specs.declared.Walked.TheVariants as walked
use Rattle.walk.specs.Memory.{place_of, memory_world}
use Rattle.accessed.specs.Entries.{bits_in}
use Rattle.record.specs.declared.Record.{Record}
use Rattle.record.specs.Record.{config_of, head_of, head_tally, with_head}
use Rattle.translate.specs.Translate.{path_indexes, found_of, direct, whole}
use Rattle.request.specs.Access.{settled_of}
use Rattle.calls.specs.Calls.{host_top, held_of, root_of, tally_after, request_depth, translated_of, load_call, store_call}
use Rattle.claims.specs.Run.{guest_area}
use Rattle.words.specs.After.{After}
use Rattle.calls.specs.declared.Reply.{Reply}

-- a word: its host frame and its index
abbrev pub Word : Type 0
Word = ℕ × ℕ

-- n has the words of m there
abbrev pub SameWords : List ℕ → List ℕ → List Word → Type 0
SameWords m n xs = All (λ x. word_in n x.0 x.1 ≡ word_in m x.0 x.1) xs

-- the host entries that the host walk of a guest frame reads
abbrev pub host_words : Config → ℕ → List ℕ → ℕ → List Word
host_words c ht m g = entries_read 0 c.hosts m ht (indexes c.levels g)

-- the words that a walk over memory reads, those of its host walks too, in the order of the walk
unfoldable pub walk_words : {A : Type 0} → Config → ℕ → List ℕ → Walk Fault A → List Word
walk_words c ht m (done a) = []
walk_words c ht m (fail x) = []
walk_words c ht m (host g k) = host_words c ht m g ++ walk_words c ht m (k (place_of (host_walk_of c ht m g)))
walk_words c ht m (word t i k) = (t, i) ∷ walk_words c ht m (k (word_in m t i))

-- the shadow entries that lead to the end of the path; at depth N there are none, since the path stands in the record
unfoldable pub path_words : Record → List ℕ → ℕ → ℕ → List Word
path_words r m a d =
    let c = config_of r in
    cond (ltb d c.levels) (entries_read c.hosts c.shadows m r.pools.shadow.top (path_indexes c d a)) []

-- the words that the direct part reads, from the guest table of level d that the held path leads to
abbrev pub direct_words : Config → ℕ → List ℕ → Bool → ℕ → ℕ → HostWalk → List Word
direct_words c ht m st a d (hosts.Found t w) = walk_words c ht m (direct c st a d t.0 w)
direct_words c ht m st a d (hosts.Absent n) = []
direct_words c ht m st a d hosts.Damaged = []

-- the words that a load or a store counts: where its path is held, the shadow entries on it and then the words of the direct part;
-- at depth N + 1 those of the whole plain walk
unfoldable pub counted_of : Record → List ℕ → Bool → ℕ → List Word
counted_of r m st a =
    let c = config_of r in
    let ht = host_top r in
    let d = request_depth r m a in
    cond (leb d c.levels)
    (path_words r m a d ++ direct_words c ht m st a d (found_of c m (held_of r) a d))
    (walk_words c ht m (whole c st (root_of r) a))

abbrev pub touched_by : ℕ → Walked → List Word
touched_by a (walked.Arrived w t n) = (t.0, word_of a) ∷ []
touched_by a (walked.Faulted x n) = []
touched_by a walked.Damaged = []

-- the word around the bytes that a load loads or a store stores, if it is granted
unfoldable pub touched_of : Record → List ℕ → Bool → ℕ → List Word
touched_of r m st a = touched_by a (translated_of r m st a).result.walked

-- the request's path is held, or its depth is N + 1, on machine and book; a store's held path must not forbid the store
unfoldable pub HeldOrPlain : Config → Machine → Book → Bool → ℕ → Type 0
HeldOrPlain c m b st a =
    let d = count.request_depth c m b a in
    T (serves st d (find (upper c d (address_indexes c a)) b.held)) ⊎ (c.levels < d)

-- with bits on, a request on a held path may rest on words of its plain walk that it does not count, if it sets a bit, refills the
-- path or meets W for a bit. A path that is to be refilled is none of `HeldOrPlain`; a request does one of the others exactly if its
-- direct part is granted and reads an entry that lacks a bit, since those that the path covers have theirs

-- the direct part from there reads no such entry, or is not granted
abbrev pub LacksNone : Config → ℕ → List ℕ → Bool → ℕ → ℕ → HostWalk → Type 0
LacksNone c ht m st a d (hosts.Found t w) =
    let v = memory_world c ht m in
    let x = trace v (direct c st a d t.0 w) in
    (p : Place) → x.result ≡ granted p → lacks v st x.reads ≡ false
LacksNone c ht m st a d (hosts.Absent n) = Unit {0}
LacksNone c ht m st a d hosts.Damaged = Unit {0}

-- with bits off, and at depth N + 1, nothing is asked
unfoldable pub SetsNone : Record → List ℕ → Bool → ℕ → Type 0
SetsNone r m st a =
    let c = config_of r in
    let d = request_depth r m a in
    c.bits ≡ true → d ≤ c.levels → LacksNone c (host_top r) m st a d (found_of c m (held_of r) a d)

-- the memory with the bits that the request itself sets
unfoldable pub own_of : Record → List ℕ → Bool → ℕ → List ℕ
own_of r m st a = settled_of (config_of r) (host_top r) (root_of r) st a (translated_of r m st a).result.sets m

-- on memory n it sets them in the same entries as on m
abbrev pub SameOwn : Record → List ℕ → List ℕ → Bool → ℕ → Type 0
SameOwn r m n st a = (xs : List Word) × (own_of r m st a ≡ bits_in st m xs) × (own_of r n st a ≡ bits_in st n xs)

-- the references of an answer that has any are x
abbrev pub References : ℕ → Answer → Type 0
References x answer.Ok = Unit {0}
References x (answer.Value v n e) = n ≡ x
References x (answer.Done n e) = n ≡ x
References x (answer.Faulted y n e) = n ≡ x
References x (answer.Refused n) = Unit {0}
References x (answer.Figures n e t) = n ≡ x

-- the record after a load that answers x: a request more in the window of the automatic choice, if that is on and the load is not refused
abbrev pub in_window : Answer → Record → Record
in_window x r = with_head r (head_tally (head_of r) (tally_after x r.guest.choice.tally))

-- a load on memory m, and the same load on memory n: there it says the same value or fault with the same counts; the record stays as it is
-- but for its window, and the memory but for its own bits
pub record SameLoad (r : Record) (m n : List ℕ) (a w : ℕ) : Type 0 where
  pub says : (load_call r n a w).result.answer ≡ (load_call r m a w).result.answer
  pub unit : (load_call r n a w).result.unit ≡ in_window (load_call r n a w).result.answer r
  pub memory : ((load_call r n a w).memory ≡ n) ⊎ ((load_call r n a w).memory ≡ own_of r n false a)
  pub own : SameOwn r m n false a

-- a store of w bytes at the address a, on memory m, is granted with k references and x exits in host frame t: they are those of v,
-- and nothing else of the guest area changes but its own bits, which it sets first
pub record Touches (r : Record) (m : List ℕ) (k x t a w v : ℕ) (e : After Reply) : Type 0 where
  pub says : e.result.answer ≡ answer.Done k x
  pub area : guest_area r e.memory ≡ set (guest_area r (own_of r m true a)) (place (config_of r) t (word_of a)) (with_bytes a w v (word_in (own_of r m true a) t (word_of a)))

-- a call on memory m is refused with 11, and no word of the guest area changes
pub record Refuses (r : Record) (m : List ℕ) (e : After Reply) : Type 0 where
  pub says : e.result.answer ≡ answer.Refused 11
  pub unit : e.result.unit ≡ r
  pub area : guest_area r e.memory ≡ guest_area r m

-- no host or shadow word is altered
abbrev pub SameTables : Config → List ℕ → List ℕ → Type 0
SameTables c m n = (f : ℕ) → f < guest_base c → SameFrame m n f

-- a store that is granted on memory m, and the same store on memory n: there it touches the same bytes with as many references, or
-- is refused with 11; if no host or shadow word differs it touches them, and its exits stay the same too
pub record SameStore (r : Record) (m n : List ℕ) (a w v k x : ℕ) : Type 0 where
  pub frame : ℕ
  pub touched : touched_of r m true a ≡ (frame, word_of a) ∷ []
  pub own : SameOwn r m n true a
  pub before : Touches r m k x frame a w v (store_call r m a w v)
  pub altered : ((y : ℕ) × Touches r n k y frame a w v (store_call r n a w v)) ⊎ Refuses r n (store_call r n a w v)
  pub only : SameTables (config_of r) m n → Touches r n k x frame a w v (store_call r n a w v)
