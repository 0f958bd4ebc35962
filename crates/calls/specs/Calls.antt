-- The calls of the unit, as total definitions over any record, any memory and any numbers.
use Rattle.std.specs.Prelude.{ℕ, ◌+◌, ◌-◌, ◌*◌, ◌^◌, ◌<◌, ◌≤◌, ◌≡◌, Bool, true, false, not, ◌&&◌, cond, List, eqb, leb, length}
use Rattle.spec.specs.declared.Answer.{Answer}
use Rattle.spec.specs.declared.Answer.TheVariants as answer
use Rattle.spec.specs.declared.Lookup.{Lookup}
use Rattle.spec.specs.Answer.{line}
use Rattle.spec.specs.Call.{Call, root, map, unmap, set_mark, clear_mark, load, store, device, forecast}
use Rattle.spec.specs.Config.{Config}
use Rattle.spec.specs.Entry.{word_of, frame_limit}
use Rattle.spec.specs.Bytes.{width_fits, aligned}
use Rattle.spec.specs.Refusal.{address_fits, device_fits, frame_fits, forecast_room}
use Rattle.words.specs.After.{After, yields}
use Rattle.entry.specs.declared.HostPhysical.{HostPhysical}
use Rattle.pool.specs.declared.Pool.{Pool}
use Rattle.pool.specs.Pool.{none_of}
use Rattle.host.specs.declared.Change.{Change}
use Rattle.layout.specs.declared.HostWalk.{HostWalk}
use Rattle.layout.specs.declared.HostWalk.TheVariants as host
use Rattle.host.specs.declared.Space.{Space}
use Rattle.layout.specs.Layout.{LayoutFits, config}
use Rattle.host.specs.Walk.{host_walk_of}
use Rattle.host.specs.Map.{map_of, unmap_of}
use Rattle.marks.specs.declared.Marks.{Marks}
use Rattle.marks.specs.Table.{keys, lookup_in, number}
use Rattle.choice.specs.declared.Tally.{Tally}
use Rattle.choice.specs.Window.{requested_of, emptied_of}
use Rattle.choice.specs.Refusal.{set_refusal, clear_refusal}
use Rattle.shadow.specs.Watch.{watched_of}
use Rattle.drops.specs.declared.Cut.TheVariants.{Names}
use Rattle.drops.specs.declared.Left.{Left}
use Rattle.drops.specs.Drop.{scan_of}
use Rattle.charge.specs.declared.Charge.{Charge}
use Rattle.charge.specs.declared.Charge.TheVariants as charge
use Rattle.charge.specs.Charge.{charged_of}
use Rattle.automatic.specs.declared.Moved.{Moved}
use Rattle.automatic.specs.Moves as automatic
use Rattle.automatic.specs.Moves.{Move, set_of, cleared_of}
use Rattle.walk.specs.declared.Walked.{Walked}
use Rattle.walk.specs.declared.Walked.TheVariants as walked
use Rattle.record.specs.declared.Head.{Head}
use Rattle.record.specs.declared.Record.{Record}
use Rattle.record.specs.Record.{config_of, guest_frame, record_by, head_of, head_root, head_tables, head_tally, with_head, fits_of}
use Rattle.record.specs.Open.{open_of}
use Rattle.translate.specs.declared.Held.{Held}
use Rattle.request.specs.declared.Served.{Served}
use Rattle.translate.specs.declared.Translated.{Translated}
use Rattle.translate.specs.Translate.{holding, translate_of, depth_of}
use Rattle.request.specs.declared.Put.{Put}
use Rattle.request.specs.Access.{settled_of, dropped_of, bytes_in, load_of, store_from, device_of}
use Rattle.forecast.specs.Forecast.{forecast_of}
use Rattle.calls.specs.declared.Reply.{Reply}
use Rattle.calls.specs.declared.Turn.{Turn}
use Rattle.calls.specs.declared.Owed.{Owed}
use Rattle.calls.specs.declared.Remapped.{Remapped}

-- ---- parts of a record

-- what is held: the shadow tables, and the frame in the record
abbrev pub held_in : Head → Held
held_in h = record { pool = h.pools.shadow; frame = h.held }

abbrev pub held_of : Record → Held
held_of r = held_in (head_of r)

-- nothing is held
abbrev pub nothing : Held
nothing = holding none_of 0

-- where the guest's frames are
abbrev pub space_in : Head → Space
space_in h = record { layout = h.layout; top = h.pools.host.top }

-- the entry of its top host table
abbrev pub host_top : Record → ℕ
host_top r = r.pools.host.top

abbrev pub root_of : Record → ℕ
root_of r = r.guest.root.0

-- with other paths held
unfoldable pub head_held : Head → Held → Head
head_held h x = head_tables h (record { host = h.pools.host; shadow = x.pool }) x.frame

abbrev pub with_held : Record → Held → Record
with_held r x = with_head r (head_held (head_of r) x)

-- with another pool of the host tables
unfoldable pub head_host : Head → Pool → Head
head_host h p = head_tables h (record { host = p; shadow = h.pools.shadow }) h.held

abbrev pub with_host : Record → Pool → Record
with_host r p = with_head r (head_host (head_of r) p)

-- ---- replies

-- what a call leaves
abbrev pub ended : Record → Answer → List ℕ → After Reply
ended r x m = yields (record { unit = r; answer = x }) m

-- a refusal says its number and hands the record back as it was given
abbrev pub refused : Record → ℕ → List ℕ → After Reply
refused r n m = ended r (answer.Refused n) m

-- what a call by value promises: its reply and its memory are those of the definition, and so is its line, in document 01's numbers
pub record Promises (r : Reply) (m : List ℕ) (e : After Reply) : Type 0 where
  pub leaves : yields r m ≡ e
  pub says : line r.answer ≡ line e.result.answer

abbrev pub served_reply : Record → Served → Reply
served_reply r s = record { unit = with_held r s.held; answer = s.answer }

abbrev pub turn_reply : Record → Turn → Reply
turn_reply r t = record { unit = with_head r t.head; answer = t.answer }

-- by the head that a call left, and the arrays
abbrev pub turn_in : List ℕ → List ℕ → List ℕ → Turn → Reply
turn_in place ring order t = record { unit = record_by t.head place ring order; answer = t.answer }

-- with the tables that a map or an unmap left
abbrev pub head_remapped : Head → Remapped → Head
head_remapped h x = head_tables h (record { host = x.host; shadow = x.held.pool }) x.held.frame

abbrev pub remap_reply : Record → Remapped → Reply
remap_reply r x = record { unit = with_head r (head_remapped (head_of r) x); answer = x.answer }

abbrev pub unmoved_by : Head → ℕ → Remapped
unmoved_by h n = record { host = h.pools.host; held = held_in h; answer = answer.Refused n }

-- the tally of the automatic choice after a load or a store: it is in the window, unless it is refused
abbrev pub tally_after : Answer → Tally → Tally
tally_after answer.Ok t = requested_of t
tally_after (answer.Value v r e) t = requested_of t
tally_after (answer.Done r e) t = requested_of t
tally_after (answer.Faulted x r e) t = requested_of t
tally_after (answer.Refused n) t = t
tally_after (answer.Figures r e n) t = requested_of t

-- with other paths held, and another tally
abbrev pub head_window : Head → Held → Tally → Head
head_window h x t = head_tally (head_held h x) t

abbrev pub windowed_turn : Head → Served → Turn
windowed_turn h s = record { head = head_window h s.held (tally_after s.answer h.tally); answer = s.answer }

abbrev pub windowed_reply : Record → Served → Reply
windowed_reply r s = turn_reply r (windowed_turn (head_of r) s)

-- a load or a store that was served, and charged to nobody
abbrev pub windowed_by : Record → After Served → After Reply
windowed_by r s = yields (windowed_reply r s.result) s.memory

-- a device's store, which is in no window
abbrev pub served_by : Record → After Served → After Reply
served_by r s = yields (served_reply r s.result) s.memory

-- the ranges that a record which breaks no rule has, as the functions below the calls ask for them
abbrev pub Sound : Record → Type 0
Sound r = LayoutFits r.layout × (r.pools.shadow.fresh ≤ r.layout.shadows)

-- 3 comes before all else: the memory has not the length that the record says, or the record breaks a rule
abbrev pub judged : Record → List ℕ → After Reply → After Reply
judged r m next = cond (fits_of r (length m)) next (refused r 3 m)

-- why a request is refused before it is served, by the tests of the record, of its width and of its address: its number, or 0
abbrev pub refusal_by : Bool → Bool → Bool → ℕ
refusal_by fits wide ok = cond fits (cond wide (cond ok 0 4) 15) 3

-- ---- open

-- ok, or the refusal with that number
abbrev pub answer_of : ℕ → Answer
answer_of n = cond (eqb n 0) answer.Ok (answer.Refused n)

abbrev pub opened_by : Record → ℕ → List ℕ → After Reply
opened_by r n m = ended r (answer_of n) m

-- bits, on: whether it chooses accessed and dirty bits, and the automatic choice
unfoldable pub open_call : List ℕ → ℕ → ℕ → Bool → Bool → After Reply
open_call m h s bits on = let t = open_of m h s bits on in opened_by t.result.unit t.result.refusal t.memory

-- ---- load, store, device store

-- what the search among the marks finds for an address, and its depth by that
abbrev pub lookup_at : Record → ℕ → Lookup
lookup_at r a = lookup_in r.layout.levels r.guest.marks a

abbrev pub depth_at : Record → ℕ → ℕ
depth_at r a = (lookup_at r a).depth

-- the depth of a request, which a large page on its way may make 0
abbrev pub request_depth : Record → List ℕ → ℕ → ℕ
request_depth r m a = depth_of (config_of r) (host_top r) m (held_of r) (root_of r) a (depth_at r a)

-- the translation of an address
unfoldable pub translated_of : Record → List ℕ → Bool → ℕ → After Translated
translated_of r m st a = translate_of (config_of r) (host_top r) m (held_of r) (root_of r) st a (request_depth r m a)

-- the tests after 3: 15 unless it is a width (wide), then 4 unless the address is one of its bytes (ok)
abbrev pub admitted : Bool → Bool → Record → List ℕ → After Reply → After Reply
admitted wide ok r m next = cond wide (cond ok next (refused r 4 m)) (refused r 15 m)

abbrev pub placed : Record → List ℕ → ℕ → Bool → After Reply → After Reply
placed r m w ok next = judged r m (admitted (width_fits w) ok r m next)

-- is it the address of w bytes? That of a device's store (d) is guest-physical
abbrev pub address_ok : Bool → Config → ℕ → ℕ → Bool
address_ok d c a w = cond d (device_fits c a) (address_fits c a) && aligned a w

unfoldable pub load_call : Record → List ℕ → ℕ → ℕ → After Reply
load_call r m a w =
    placed r m w (address_ok false (config_of r) a w) (windowed_by r (load_of (config_of r) (host_top r) m (held_of r) (root_of r) a w (request_depth r m a)))

-- what a store to word i of host frame t is charged to, with these paths held: nobody if the frame is not watched
unfoldable pub charged_in : Config → Held → List ℕ → ℕ → ℕ → Charge
charged_in c h m t i = cond (watched_of c m h.pool.fresh t) (charged_of c m h.pool.fresh t i) charge.Nobody

-- and nobody with the choice off
unfoldable pub charge_at : Record → Held → List ℕ → ℕ → ℕ → Charge
charge_at r h m t i = cond (eqb r.guest.choice.tally.on 0) charge.Nobody (charged_in (config_of r) h m t i)

-- after the charge of a store and the marks that it moved: its bits, then its bytes in host frame t. n references, e exits
abbrev pub finished_by : Record → ℕ → ℕ → ℕ → ℕ → ℕ → ℕ → (List ℕ → List ℕ) → After Move → After Reply
finished_by r a w v t n e set x =
    cond x.result.ok (ended x.result.unit (answer.Done n e) (bytes_in (set x.memory) t a w v)) (refused r 11 x.memory)

-- after its own drops it is charged to p; held: what was held before them
abbrev pub paid_by : Record → ℕ → ℕ → ℕ → ℕ → ℕ → ℕ → (List ℕ → List ℕ) → Held → ℕ → After Put → After Reply
paid_by r a w v t n e set held p s =
    cond s.result.ok
    (finished_by r a w v t n (e + s.result.exits) set (automatic.charged_of (with_held r (record { pool = s.result.pool; frame = held.frame })) s.memory p))
    (refused r 11 s.memory)

-- a store of the value v that is charged, from its translation on. No guest word is changed before the last drop, so that damage has changed none
unfoldable pub store_charged_of : Record → List ℕ → ℕ → ℕ → ℕ → Owed → After Reply
store_charged_of r m a w v x =
    paid_by r a w v x.page.0 x.reads x.exits (settled_of (config_of r) (host_top r) (root_of r) true a x.sets) x.held x.prefix
    (dropped_of (config_of r) m x.held.pool x.page.0 (word_of a))

-- what is left to do of a store that came to a page, after n references, and is charged to p
abbrev pub owing : Translated → HostPhysical → ℕ → ℕ → Owed
owing o t n p = record { held = o.held; page = t; reads = n; exits = o.exits; sets = o.sets; prefix = p }

-- a store that is charged to nobody
abbrev pub plain_store : Record → ℕ → ℕ → ℕ → After Translated → After Reply
plain_store r a w v o = windowed_by r (store_from (config_of r) (host_top r) (root_of r) (held_of r) a w v o)

abbrev pub store_by : Record → ℕ → ℕ → ℕ → After Translated → HostPhysical → ℕ → Charge → After Reply
store_by r a w v o t n charge.Nobody = plain_store r a w v o
store_by r a w v o t n (charge.To p) = store_charged_of r o.memory a w v (owing o.result t n p)
store_by r a w v o t n charge.Damaged = refused r 11 o.memory

-- a store by what its translation came to
abbrev pub stored_by : Record → ℕ → ℕ → ℕ → After Translated → Walked → After Reply
stored_by r a w v o (walked.Arrived y t n) = store_by r a w v o t n (charge_at r o.result.held o.memory t.0 (word_of a))
stored_by r a w v o (walked.Faulted x n) = plain_store r a w v o
stored_by r a w v o walked.Damaged = plain_store r a w v o

abbrev pub stored_of : Record → List ℕ → ℕ → ℕ → ℕ → After Reply
stored_of r m a w v = let o = translated_of r m true a in stored_by r a w v o o.result.walked

unfoldable pub store_call : Record → List ℕ → ℕ → ℕ → ℕ → After Reply
store_call r m a w v = placed r m w (address_ok false (config_of r) a w) (stored_of r m a w v)

-- ---- a store in parts, with the choice on

-- the ranges of what is left to do of a store that is charged
abbrev pub OwedFits : Config → Owed → Type 0
OwedFits c x = (x.held.pool.fresh ≤ c.shadows) × (x.page.0 < frame_limit) × (x.exits ≤ 65536) × (x.prefix < 2 ^ (9 * (c.levels - 1)))

-- after the charge and the marks that it moved, with the head that they left
abbrev pub settled_turn : Head → ℕ → ℕ → ℕ → Owed → ℕ → After Moved → After Turn
settled_turn h a w v x e o =
    let set : List ℕ → List ℕ = settled_of (config h.layout) h.pools.host.top h.root.0 true a x.sets in
    cond o.result.ok
    (yields (record { head = o.result.head; answer = answer.Done x.reads e }) (bytes_in (set o.memory) x.page.0 a w v))
    (yields (record { head = h; answer = answer.Refused 11 }) o.memory)

unfoldable pub device_call : Record → List ℕ → ℕ → ℕ → ℕ → After Reply
device_call r m a w v = placed r m w (address_ok true (config_of r) a w) (served_by r (device_of (config_of r) (host_top r) m (held_of r) a w v))

-- ---- root, map, unmap

-- a root is loaded: every path is dropped, the one in the record too, and the window is empty
abbrev pub head_rooted : Record → ℕ → Head
head_rooted r g = head_tally (head_root (head_held (head_of r) nothing) g) (emptied_of r.guest.choice.tally)

unfoldable pub root_call : Record → List ℕ → ℕ → After Reply
root_call r m g = judged r m (cond (frame_fits (config_of r) g) (ended (with_head r (head_rooted r g)) answer.Ok m) (refused r 8 m))

-- what a drop left; r is the record given, next the one after the drop, with the frame f held in it
abbrev pub dropped_by : Record → Record → HostPhysical → After Left → After Reply
dropped_by r next f o =
    cond o.result.ok (ended (with_held next (record { pool = o.result.pool; frame = f })) answer.Ok o.memory) (refused r 11 o.memory)

-- the mapping of g changed, and the host tables have the pool p: the paths whose shadow part used that mapping are dropped,
-- which is every one if the frame is the root's
unfoldable pub unmapped_of : Record → Pool → List ℕ → ℕ → After Reply
unmapped_of r p m g =
    cond (eqb g (root_of r)) (ended (with_held (with_host r p) nothing) answer.Ok m)
    (dropped_by r (with_host r p) r.guest.held (scan_of (config_of r) (Names (guest_frame g)) r.pools.shadow m))

-- was: what its host walk came to before. A frame that was not mapped has no path to drop; an entry that named a frame outside
-- the guest area is 11
abbrev pub mapped_by : Record → Pool → List ℕ → ℕ → HostWalk → After Reply
mapped_by r p m g (host.Found f w) = unmapped_of r p m g
mapped_by r p m g (host.Absent n) = ended (with_host r p) answer.Ok m
mapped_by r p m g host.Damaged = refused r 11 m

abbrev pub changed_by : Record → ℕ → HostWalk → After Change → After Reply
changed_by r g was t = cond (eqb t.result.refusal 0) (mapped_by r t.result.pool t.memory g was) (refused r t.result.refusal t.memory)

unfoldable pub map_call : Record → List ℕ → ℕ → ℕ → Bool → After Reply
map_call r m g f w = judged r m (changed_by r g (host_walk_of (config_of r) (host_top r) m g) (map_of (config_of r) r.pools.host m g f w))

unfoldable pub unmap_call : Record → List ℕ → ℕ → After Reply
unmap_call r m g = judged r m (changed_by r g (host_walk_of (config_of r) (host_top r) m g) (unmap_of (config_of r) r.pools.host m g))

-- ---- marks

abbrev pub keys_of : Record → List ℕ
keys_of r = keys r.guest.marks.place r.guest.marks.set

-- a mark is set (b), or one that is set is cleared: why it is refused, and what it leaves
abbrev pub refusal_in : Bool → ℕ → Tally → List ℕ → Marks → ℕ → ℕ → ℕ
refusal_in b levels t order marks a n = number (cond b (set_refusal levels t order marks a n) (clear_refusal levels t order marks a n))

abbrev pub mark_refusal : Bool → Record → ℕ → ℕ → ℕ
mark_refusal b r a n = refusal_in b r.layout.levels r.guest.choice.tally r.guest.choice.order r.guest.marks a n

abbrev pub moved_reply : Record → Move → Reply
moved_reply r x = cond x.ok (record { unit = x.unit; answer = answer.Ok }) (record { unit = r; answer = answer.Refused 11 })

abbrev pub moved_by : Record → After Move → After Reply
moved_by r x = yields (moved_reply r x.result) x.memory

abbrev pub mark_moves : Bool → Record → List ℕ → ℕ → ℕ → After Move
mark_moves b r m a n = cond b (set_of r m a n) (cleared_of r m a n)

abbrev pub mark_call : Bool → Record → List ℕ → ℕ → ℕ → After Reply
mark_call b r m a n = judged r m (cond (eqb (mark_refusal b r a n) 0) (moved_by r (mark_moves b r m a n)) (refused r (mark_refusal b r a n) m))

unfoldable pub set_mark_call : Record → List ℕ → ℕ → ℕ → After Reply
set_mark_call r m a n = mark_call true r m a n

unfoldable pub clear_mark_call : Record → List ℕ → ℕ → ℕ → After Reply
clear_mark_call r m a n = mark_call false r m a n

-- ---- forecast

-- record and memory are handed back as they were, whatever the answer: 3, 16 with bits on, 14, then figures or 11
unfoldable pub forecast_call : Record → List ℕ → List ℕ → After Reply
forecast_call r m xs =
    judged r m (cond (not (config_of r).bits)
    (cond (leb (length xs) forecast_room) (ended r (forecast_of (config_of r) (host_top r) m (held_of r) (root_of r) (keys_of r) xs) m) (refused r 14 m))
    (refused r 16 m))

-- ---- any call

unfoldable pub call_of : Call → Record → List ℕ → After Reply
call_of (root g) r m = root_call r m g
call_of (map g f w) r m = map_call r m g f w
call_of (unmap g) r m = unmap_call r m g
call_of (set_mark a n) r m = set_mark_call r m a n
call_of (clear_mark a n) r m = clear_mark_call r m a n
call_of (load a w) r m = load_call r m a w
call_of (store a w v) r m = store_call r m a w v
call_of (device a w v) r m = device_call r m a w v
call_of (forecast xs) r m = forecast_call r m xs
