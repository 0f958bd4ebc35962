-- A forecast over the words of the lent memory, damaged memory too: what a list of loads would cost, with no word written. What was held
-- before the list is read from the shadow tables; the paths that the list itself would fill are known by their keys, in a room of the
-- call's own. A path's key is that of the mark of its depth at its address. In all definitions c is the configuration, ht the entry of the
-- top host table, m the memory, h what is held, ks the room, a the address, d its depth.
-- Assumes nothing.
use Rattle.std.specs.Prelude.{ℕ, zero, suc, ◌+◌, ◌-◌, ◌*◌, ◌/◌, ◌%◌, ◌^◌, max, Bool, true, false, not, ◌&&◌, cond, List, [], ◌∷◌, eqb, leb, ltb, get_or, set, replicate}
use Rattle.spec.specs.declared.Answer.{Answer}
use Rattle.spec.specs.declared.Answer.TheVariants as answer
use Rattle.spec.specs.Config.{Config}
use Rattle.spec.specs.Prefix.{any}
use Rattle.spec.specs.Plain.{is_span, walk}
use Rattle.spec.specs.Count.{one}
use Rattle.spec.specs.Bytes.{aligned}
use Rattle.spec.specs.Refusal.{address_fits, forecast_room}
use Rattle.words.specs.After.{After, yields}
use Rattle.layout.specs.declared.HostWalk.{HostWalk}
use Rattle.layout.specs.declared.HostWalk.TheVariants as host
use Rattle.walk.specs.declared.Walked.{Walked}
use Rattle.walk.specs.declared.Walked.TheVariants as walked
use Rattle.walk.specs.Memory.{walked_of}
use Rattle.marks.specs.Key.{low_page, key_at, search_of}
use Rattle.translate.specs.declared.Held.{Held}
use Rattle.translate.specs.declared.Translated.{Translated}
use Rattle.translate.specs.Translate.{path_indexes, served_of, found_of, plain_of, turned_depth}
use Rattle.forecast.specs.declared.Sum.{Sum}
use Rattle.forecast.specs.declared.Paths.{Paths}
use Rattle.forecast.specs.declared.Outlook.{Outlook}
use Rattle.forecast.specs.declared.Next.{Next}
use Rattle.forecast.specs.declared.Next.TheVariants.{Go, Damaged}

-- ---- the paths that the list itself holds

-- the keys in the first n places of the room, the newest first
unfoldable pub newest : List ℕ → ℕ → List ℕ
newest ks zero = []
newest ks (suc n) = get_or ks n 0 ∷ newest ks n

-- does the path with the key q pass through the table of level n whose indexes, as one number, are x?
unfoldable pub passes : ℕ → ℕ → ℕ → Bool
passes n x q = ltb (q % 8) n && eqb (q / 8 / 2 ^ (9 * (n - q % 8))) x

-- how many tables stand for the paths qs on the way of an address, from the table of level d + k down to that of level d + 1
unfoldable pub met_from : List ℕ → ℕ → ℕ → ℕ → ℕ → ℕ
met_from qs levels a d zero = 0
met_from qs levels a d (suc k) = cond (any (passes (d + suc k) (key_at levels (d + suc k) a / 8)) qs) (suc (met_from qs levels a d k)) 0

-- the tables in use once the path of a is filled: those that it lacks come to the u before. n of them stand in the shadow tables
abbrev pub tables_with : Config → ℕ → List ℕ → ℕ → ℕ → ℕ → ℕ
tables_with c u qs n a d = u + (c.levels - d - max n (met_from qs c.levels a d (c.levels - d)))

-- the path with the key q, of k indexes, is filled, which makes n tables; if they are too many, all others are forgotten, those of the
-- shadow tables too
unfoldable pub filled_of : Config → List ℕ → Paths → ℕ → ℕ → ℕ → After Paths
filled_of c ks p n q k =
    cond (leb n c.shadows) (yields (record { used = n; kept = p.kept; count = p.count + 1 }) (set ks p.count q))
    (yields (record { used = k; kept = false; count = 1 }) (set ks 0 q))

-- ---- one address

-- n references and e exits more, and t tables in use then
abbrev pub added : Sum → ℕ → ℕ → ℕ → Sum
added s n e t = record { references = s.references + n; exits = s.exits + e; tables = max s.tables t }

-- a load that came to a word or a fault is paid for; p: the paths held after it
abbrev pub paid_by : Sum → Paths → ℕ → Walked → Next
paid_by s p e (walked.Arrived w t n) = Go (record { sum = added s n e p.used; paths = p })
paid_by s p e (walked.Faulted x n) = Go (record { sum = added s n e p.used; paths = p })
paid_by s p e walked.Damaged = Damaged

unfoldable pub paid : Sum → Paths → Translated → Next
paid s p t = paid_by s p t.exits t.walked

-- a path that a walk came to and that the list holds (b), or that is filled now; n: how many of its tables stand in the shadow tables
unfoldable pub held_after : Config → List ℕ → Paths → Bool → ℕ → ℕ → ℕ → After Paths
held_after c ks p b n a d =
    cond b (yields p ks)
    (filled_of c ks p (tables_with c p.used (newest ks p.count) n a d) (key_at c.levels d a) (c.levels - d))

abbrev pub missed_by : Config → ℕ → List ℕ → Held → List ℕ → Outlook → Bool → ℕ → ℕ → ℕ → Walked → After Next
missed_by c ht m h ks o b n a d (walked.Arrived w t k) =
    let f : After Paths = held_after c ks o.paths b n a d in
    cond (is_span c t.0) (yields Damaged ks) (yields (paid o.sum f.result (served_of c ht m h false a d t.0 w (one (not b)))) f.memory)
missed_by c ht m h ks o b n a d (walked.Faulted x k) =
    yields (Go (record { sum = added o.sum k (one (not b)) o.paths.used; paths = o.paths })) ks
missed_by c ht m h ks o b n a d walked.Damaged = yields Damaged ks

-- a path that the shadow tables do not hold, or no more: its shadow part is walked, and costs an exit unless the list holds the path
unfoldable pub missed_of : Config → ℕ → List ℕ → Held → ℕ → List ℕ → Outlook → ℕ → ℕ → ℕ → After Next
missed_of c ht m h root ks o n a d =
    missed_by c ht m h ks o (any (eqb (key_at c.levels d a)) (newest ks o.paths.count)) n a d (walked_of c ht m 0 (walk c false root (path_indexes c d a)))

abbrev pub found_by : Config → ℕ → List ℕ → Held → ℕ → List ℕ → Outlook → ℕ → ℕ → HostWalk → After Next
found_by c ht m h root ks o a d (host.Found t w) = yields (paid o.sum o.paths (served_of c ht m h false a d t.0 w 0)) ks
found_by c ht m h root ks o a d (host.Absent n) = missed_of c ht m h root ks o n a d
found_by c ht m h root ks o a d host.Damaged = yields Damaged ks

-- what the shadow tables hold of the path, as long as they are not forgotten
unfoldable pub kept_of : Config → List ℕ → Held → Bool → ℕ → ℕ → HostWalk
kept_of c m h b a d = cond b (found_of c m h a d) (host.Absent 0)

-- at depth N + 1 the whole plain walk
unfoldable pub load_of : Config → ℕ → List ℕ → Held → ℕ → List ℕ → Outlook → ℕ → ℕ → After Next
load_of c ht m h root ks o a d =
    cond (ltb c.levels d)
    (yields (paid o.sum o.paths (plain_of c ht m h root false a)) ks)
    (found_by c ht m h root ks o a d (kept_of c m h o.paths.kept a d))

-- ---- the list

-- an address that would meet 4 costs nothing; marks: the keys of those that are set
unfoldable pub address_of : Config → ℕ → List ℕ → Held → ℕ → List ℕ → List ℕ → Outlook → ℕ → After Next
address_of c ht m h root marks ks o a =
    cond (address_fits c a && aligned a 8) (load_of c ht m h root ks o a (turned_depth c ht m root a (search_of c.levels (low_page c.levels a) marks).depth)) (yields (Go o) ks)

-- on with the list, or 11
abbrev pub onward : Next → (Outlook → Answer) → Answer
onward (Go o) f = f o
onward Damaged f = answer.Refused 11

unfoldable pub list_of : Config → ℕ → List ℕ → Held → ℕ → List ℕ → List ℕ → Outlook → List ℕ → Answer
list_of c ht m h root marks ks o [] = answer.Figures o.sum.references o.sum.exits o.sum.tables
list_of c ht m h root marks ks o (a ∷ xs) =
    let n : After Next = address_of c ht m h root marks ks o a in
    onward n.result (λ o. list_of c ht m h root marks n.memory o xs)

-- before the first address, u tables being in use
abbrev pub start : ℕ → Outlook
start u = record {
  sum = record { references = 0; exits = 0; tables = u };
  paths = record { used = u; kept = true; count = 0 };
}

unfoldable pub forecast_of : Config → ℕ → List ℕ → Held → ℕ → List ℕ → List ℕ → Answer
forecast_of c ht m h root marks xs = list_of c ht m h root marks (replicate forecast_room 0) (start h.pool.used) xs
