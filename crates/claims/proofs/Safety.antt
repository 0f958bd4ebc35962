-- Demand 1: whatever the record, the memory and the numbers, a fault changes no guest word and a refusal changes nothing, but for
-- the tables of a memory found damaged. That each call ends, and inside the memory lent, is that the calls are proved functions.
-- Assumes nothing.
use mathlib.Core.Path.{◌≡◌, refl, sym, ap, ◌∙◌, subst}
use mathlib.Core.Logic.{◌≢◌, ◌⊎◌, inl, inr}
use Prim.Native.Nat.{ℕ, zero, suc, ◌+◌, ◌-◌, ◌*◌, ◌<◌, ◌≤◌}
use native.Mathlib.Omega.{arith}
use native.Mathlib.Decide.{ℕ_discrete}
use borrow.Author.Tests.{eqb-false}
use mathlib.Core.Bool.{Bool, true, false, not, cond}
use mathlib.Core.List.{List, [], ◌∷◌}
use mathlib.Core.Option.{Option, none, some}
use lib.Dec.{eqb, leb}
use lib.ListN.{length, drop, get_or, length-drop, length-set}
use lib.Seq.{get_or-drop, ext_get_or}
use Rattle.spec.specs.declared.Fault.{Fault}
use Rattle.spec.specs.declared.Answer.{Answer}
use Rattle.spec.specs.declared.Answer.TheVariants as answer
use Rattle.spec.specs.Config.{Config, guest_base}
use Rattle.spec.specs.Entry.{present, page_of, word_of, indexes}
use Rattle.spec.specs.Bytes.{width_fits, with_bytes}
use Rattle.spec.specs.Plain.{next}
use Rattle.spec.specs.Machine.{place}
use Rattle.spec.specs.Call.{Call, root, map, unmap, set_mark, clear_mark, load, store, device, forecast}
use Rattle.spec.specs.Refusal.{first_failed, frame_fits, in_guest_area, words_fit, areas_fit, open_refusal, forecast_room}
use Rattle.spec.specs.Prefix.{All}
use Rattle.entry.proofs.Entries.{word_fits}
use Rattle.pool.specs.declared.Area.{Area}
use Rattle.pool.specs.declared.Pool.{Pool}
use Rattle.pool.specs.declared.Way.{Way}
use Rattle.pool.specs.declared.Way.TheVariants.{To, Not, Damaged}
use Rattle.words.specs.Words.{at, word_in}
use Rattle.pool.specs.Header.{entry_at_of, put_entry_of, bare_of}
use Rattle.pool.specs.Pool.{on_way, end, with_top, with_freed, free_words}
use Rattle.area.specs.Tree.{room_of, enter_of, descend_of, down_of, place_of, insert_of}
use Rattle.prune.specs.Remove.{detach_of, release_top, release_of, last_table_of, last_index, clear_of, remove_of}
use Rattle.pool.specs.Outside.{SameOutside}
use Rattle.pool.proofs.Outside.{out_refl, out_trans}
use Rattle.prune.proofs.Outside.{remove_out}
use Rattle.area.proofs.Outside.{indexes_narrow, insert_out}
use Rattle.area_laws.specs.Host.{host_entry}
use Rattle.area_laws.proofs.Change.{some_inj, not_some}
use Rattle.layout.specs.Layout.{config}
use Rattle.layout.specs.declared.HostWalk.{HostWalk}
use Rattle.layout.specs.declared.HostWalk.TheVariants as host
use Rattle.host.specs.Walk.{host_walk_of}
use Rattle.host.specs.Map.{host_area, changed, change_by, changed_by, map_of, unmap_of}
use Rattle.walk.specs.declared.Walked.{Walked}
use Rattle.walk.specs.declared.Walked.TheVariants as walked
use Rattle.walk.specs.Memory.{walked_of}
use Rattle.marks.specs.Table.{number}
use Rattle.choice.specs.declared.Tally.{Tally}
use Rattle.choice.specs.Refusal.{set_tests, set_refusal, clear_tests, clear_refusal}
use Rattle.record.specs.declared.Record.{Record}
use Rattle.record.specs.Record.{config_of, config_by, fits_of, guest_frame, head_of, head_root, head_tables, head_tally, with_head}
use Rattle.record.specs.Open.{refusal_of}
use Rattle.record.proofs.Rules.{Fits, fits_layout}
use Rattle.record.proofs.Opening.{granted_long, granted_guest}
use Rattle.drops.specs.declared.Cut.TheVariants.{Names}
use Rattle.drops.specs.Drop.{scan_of}
use Rattle.drops.proofs.Outside.{scan_out}
use Rattle.entry.specs.declared.HostPhysical.{HostPhysical}
use Rattle.translate.specs.declared.Held.{Held as Holding}
use Rattle.forecast.specs.Forecast.{address_of, onward, list_of, forecast_of, start}
use Rattle.forecast.specs.declared.Outlook.{Outlook}
use Rattle.forecast.specs.declared.Next.{Next}
use Rattle.forecast.specs.declared.Next.TheVariants.{Go, Damaged as Broken}
use Rattle.request.specs.Access as access
use Rattle.request.specs.Access.{settled_of, dropped_of, bytes_in, load_by, load_of, finish_by, device_by, device_of}
use Rattle.translate.proofs.Fits.{ArrivedIn}
use Rattle.translate.proofs.Leaves.{Leaves, translate_leaves}
use Rattle.request.proofs.Leaves.{Drops, drop_leaves}
use Rattle.request.proofs.Device.{device_in}
use Rattle.charge.specs.declared.Charge.{Charge}
use Rattle.charge.specs.declared.Charge.TheVariants as charge
use Rattle.automatic.specs.Moves.{Move, charged_of, set_of, cleared_of}
use Rattle.calls.specs.Calls.{host_top, held_of, root_of, head_held, head_host, head_window, head_rooted, nothing, ended, refused, judged, placed, with_held, with_host, windowed_by, served_by, address_ok, request_depth, translated_of, charge_at, finished_by, paid_by, store_charged_of, plain_store, store_by, stored_by, load_call, store_call, device_call, root_call, dropped_by, unmapped_of, mapped_by, map_call, unmap_call, keys_of, mark_refusal, moved_by, call_of, set_mark_call, clear_mark_call, forecast_call, open_call}
use Rattle.calls.proofs.Ranges.{fits_held}
use Rattle.claims.specs.Safety.{GuestKept, BitsOnly, Numbered, RefusalKept, Untouched, Foretells, Keeps, OpenKeeps}
use Rattle.claims.specs.Run.{guest_area}
use Rattle.claims.proofs.Puts.{area_store}
use Rattle.claims.proofs.OwnBits.{only_refl, settled_only}
use Rattle.claims.proofs.Paths.{held_same}
use Rattle.claims.proofs.SafeMoves.{Stays, StaysBy, first_stays, charged_stays, set_stays, cleared_stays}
use Rattle.claims.proofs.Opens.{granted_call, refused_call}
use Rattle.words.specs.After.{After, yields}
use Rattle.pool.specs.declared.Went.{Went}
use Rattle.calls.specs.declared.Reply.{Reply}
use Rattle.request.specs.declared.Put.{Put}
use Rattle.drops.specs.declared.Left.{Left}
use Rattle.translate.specs.declared.Translated.{Translated}
use Rattle.host.specs.declared.Change.{Change}
use Rattle.spec_laws.proofs.Keeps.{InGuestArea}

abbrev Kept : Record → List ℕ → After Reply → Type 0
Kept r m e = Keeps r m e e.result.answer

-- ---- host and shadow frames
abbrev Tables : Record → List ℕ → List ℕ → Type 0
Tables r m n = SameOutside 0 (guest_base (config_of r)) m n

-- a part of them
wider : (b s e : ℕ) (m n : List ℕ) → b + s ≤ e → SameOutside b s m n → SameOutside 0 e m n
wider b s e m n l x = record { long = x.long; same = word }
  where
    word : (j : ℕ) → (j < 0 * 512) ⊎ ((0 + e) * 512 ≤ j) → get_or n j 0 ≡ get_or m j 0
    word j (inl k) = absurd (omega arith)
    word j (inr k) = x.same j (inr (omega arith))

same_area : (r : Record) (m n : List ℕ) → Tables r m n → guest_area r n ≡ guest_area r m
same_area r m n x =
    let k = 512 * guest_base (config_of r) in
    ext_get_or 0 (drop k n) (drop k m) (length-drop k n ∙ ap (λ z. z - k) x.long ∙ sym (length-drop k m))
    (λ i h. get_or-drop k n i 0 ∙ x.same (k + i) (inr (omega arith)) ∙ sym (get_or-drop k m i 0))

guest_kept : {r q : Record} {m n : List ℕ} {a : Answer} → config_of q ≡ config_of r → Tables r m n → GuestKept r m (ended q a n)
guest_kept {r} {m = m} {n = n} e x = record { layout = e; long = x.long; area = same_area r m n x }

-- ---- the records that calls return
held_layout : (r : Record) (h : Holding) → config_of (with_held r h) ≡ config_of r
unfolding head_held head_tables
held_layout r h = refl

host_layout : (r : Record) (p : Pool) → config_of (with_host r p) ≡ config_of r
unfolding head_host head_tables
host_layout r p = refl

root_layout : (r : Record) (g : ℕ) → config_of (with_head r (head_rooted r g)) ≡ config_of r
unfolding head_tally head_root head_held head_tables
root_layout r g = refl

-- that of a load or a store, in the window
window_layout : (r : Record) (h : Holding) (t : Tally) → config_of (with_head r (head_window (head_of r) h t)) ≡ config_of r
unfolding head_tally head_held head_tables
window_layout r h t = refl

-- what is held and the window as they were
same_window : (r : Record) → with_head r (head_window (head_of r) (held_of r) r.guest.choice.tally) ≡ r
unfolding head_tally head_held head_tables
same_window r = refl

module _ (r : Record) (m : List ℕ) where
  none_changed : Tables r m m
  none_changed = out_refl 0 (guest_base (config_of r)) m

  host_tables_lem : (n : List ℕ) → SameOutside 0 r.layout.hosts m n → Tables r m n
  host_tables_lem n x = wider 0 r.layout.hosts (guest_base (config_of r)) m n (omega arith) x

  shadow_tables_lem : (n : List ℕ) → SameOutside r.layout.hosts r.layout.shadows m n → Tables r m n
  shadow_tables_lem n x = wider r.layout.hosts r.layout.shadows (guest_base (config_of r)) m n (omega arith) x

  -- after a change of those of the shadow
  more_tables : (n o : List ℕ) → Tables r m n → SameOutside r.layout.hosts r.layout.shadows n o → Tables r m o
  more_tables n o x y = out_trans 0 (guest_base (config_of r)) m n o (wider r.layout.hosts r.layout.shadows (guest_base (config_of r)) n o (omega arith) y) x

  -- ---- refusals
  damage_kept : (n : List ℕ) → Tables r m n → Kept r m (refused r 11 n)
  damage_kept n x = record { numbered = tt; unit = refl; guest = guest_kept refl x; whole = λ e. absurd (e refl) }

  refusal_kept : (n : ℕ) → Numbered n → Kept r m (refused r n m)
  refusal_kept n l = record { numbered = l; unit = refl; guest = guest_kept refl none_changed; whole = λ e. refl }

  -- the test with 3, and one with its own number
  judged_kept : (e : After Reply) → (fits_of r (length m) ≡ true → Kept r m e) → Kept r m (judged r m e)
  judged_kept e f = go (fits_of r (length m)) refl
    where
      go : (b : Bool) → fits_of r (length m) ≡ b → Kept r m (cond b e (refused r 3 m))
      go true q = f q
      go false q = refusal_kept 3 tt

  tested_kept : (b : Bool) (e : After Reply) (n : ℕ) → Numbered n → Kept r m e → Kept r m (cond b e (refused r n m))
  tested_kept true e n l k = k
  tested_kept false e n l k = refusal_kept n l

  -- those of a request: 3, 15 and 4
  placed_kept : (w : ℕ) (b : Bool) (e : After Reply) → (fits_of r (length m) ≡ true → Kept r m e) → Kept r m (placed r m w b e)
  placed_kept w b e f = judged_kept _ (λ q. tested_kept (width_fits w) _ 15 tt (tested_kept b e 4 tt (f q)))

-- ---- an insert or a remove that answers Not has changed nothing
abbrev Sure : Way → Type 0
Sure (To f) = Unit {0}
Sure Not = ⊥
Sure Damaged = Unit {0}

abbrev NotLeaves : List ℕ → List ℕ → Way → Type 0
NotLeaves m n (To f) = Unit {0}
NotLeaves m n Not = n ≡ m
NotLeaves m n Damaged = Unit {0}

abbrev Refuses : List ℕ → After Went → Type 0
Refuses m t = NotLeaves m t.memory t.result.way

sure_leaves : (m n : List ℕ) (w : Way) → Sure w → NotLeaves m n w
sure_leaves m n (To f) s = tt
sure_leaves m n Not s = absurd s
sure_leaves m n Damaged s = tt

module _ (a : Area) where
  -- once a frame is handed out, no room is damage
  down_sure : (is guests : List ℕ) (p : Pool) (m : List ℕ) (d f i e : ℕ) → Sure (down_of a guests p m d f i is e).result.way
  unfolding down_of
  down_sure [] guests p m d f i e = tt
  down_sure (j ∷ is) guests p m d f i e = go t.result.way (λ h. down_sure is guests t.result.pool t.memory (d + 1) h j e)
    where
      t : After Went
      t = descend_of a p m (get_or guests (d + 1) 0) (a.levels - (d + 1)) f i

      go : (w : Way) → ((h : ℕ) → Sure (down_of a guests t.result.pool t.memory (d + 1) h j is e).result.way)
          → Sure (on_way w (end t.result.pool Damaged t.memory) (end t.result.pool Damaged t.memory) (λ h. down_of a guests t.result.pool t.memory (d + 1) h j is e)).result.way
      go (To h) k = k h
      go Not k = tt
      go Damaged k = tt

  place_sure : (guests : List ℕ) (p : Pool) (m : List ℕ) (i : ℕ) (is : List ℕ) (e : ℕ) → Sure (place_of a guests p m i is e).result.way
  unfolding place_of
  place_sure guests p m i is e = go t.result.way
    where
      t : After Went
      t = enter_of a p m (get_or guests 0 0)

      go : (w : Way)
          → Sure (on_way w (end t.result.pool Damaged t.memory) (end t.result.pool Damaged t.memory) (λ f. down_of a guests t.result.pool t.memory 0 f i is e)).result.way
      go (To f) = down_sure is guests t.result.pool t.memory 0 f i e
      go Not = tt
      go Damaged = tt

  insert_refuses : (guests : List ℕ) (p : Pool) (m is : List ℕ) (e : ℕ) → Refuses m (insert_of a guests p m is e)
  unfolding insert_of
  insert_refuses guests p m [] e = refl
  insert_refuses guests p m (i ∷ is) e = go (room_of a p m (i ∷ is))
    where
      go : (w : Way) → Refuses m (on_way w (end p Not m) (end p Damaged m) (λ n. place_of a guests p m i is e))
      go (To n) = let t = place_of a guests p m i is e in sure_leaves m t.memory t.result.way (place_sure guests p m i is e)
      go Not = refl
      go Damaged = tt

  release_top_sure : (stays : Bool) (p : Pool) (m : List ℕ) (f : ℕ) → Sure (release_top stays p m f).result.way
  unfolding release_top
  release_top_sure true p m f = tt
  release_top_sure false p m f = go (bare_of m f 512)
    where
      go : (b : Bool) → Sure (cond b (end (with_freed (with_top p 0) f) (To f) (free_words m f p.free)) (end p (To f) m)).result.way
      go true = tt
      go false = tt

  release_sure : (k : ℕ) (stays : Bool) (p : Pool) (m : List ℕ) (f : ℕ) → Sure (release_of a stays p m k f).result.way
  unfolding release_of
  release_sure zero stays p m f = release_top_sure stays p m f
  release_sure (suc k) stays p m f = go t.result.way (λ h. release_sure k stays t.result.pool t.memory h)
    where
      t : After Went
      t = detach_of a p m f

      go : (w : Way) → ((h : ℕ) → Sure (release_of a stays t.result.pool t.memory k h).result.way)
          → Sure (on_way w (end t.result.pool (To f) t.memory) (end t.result.pool Damaged t.memory) (λ h. release_of a stays t.result.pool t.memory k h)).result.way
      go (To h) g = g h
      go Not g = tt
      go Damaged g = tt

  clear_refuses : (stays : Bool) (p : Pool) (m : List ℕ) (k f i : ℕ) → Refuses m (clear_of a stays p m k f i)
  unfolding clear_of
  clear_refuses stays p m k f i = go (present (entry_at_of m f i))
    where
      go : (b : Bool) → Refuses m (cond b (release_of a stays p (put_entry_of m f i 0) k f) (end p Not m))
      go true =
          let t = release_of a stays p (put_entry_of m f i 0) k f in
          sure_leaves m t.memory t.result.way (release_sure k stays p (put_entry_of m f i 0) f)
      go false = refl

  remove_refuses : (stays : Bool) (p : Pool) (m is : List ℕ) → Refuses m (remove_of a stays p m is)
  unfolding remove_of
  remove_refuses stays p m [] = refl
  remove_refuses stays p m (i ∷ is) = go (last_table_of a.base a.size m p.top i is)
    where
      go : (w : Way) → Refuses m (on_way w (end p Not m) (end p Damaged m) (λ f. clear_of a stays p m (length is) f (last_index i is)))
      go (To f) = clear_refuses stays p m (length is) f (last_index i is)
      go Not = refl
      go Damaged = tt

-- ---- a change of the mapping
record ChangeKept (c : Config) (m : List ℕ) (t : After Change) : Type 0 where
  same : SameOutside 0 c.hosts m t.memory
  numbered : t.result.refusal ≢ 0 → Numbered t.result.refusal
  whole : t.result.refusal ≢ 0 → t.result.refusal ≢ 11 → t.memory ≡ m

module _ (c : Config) (p : Pool) (m : List ℕ) where
  stay_kept : (n : ℕ) → Numbered n → ChangeKept c m (changed p n m)
  stay_kept n l = record { same = out_refl 0 c.hosts m; numbered = λ z. l; whole = λ z e. refl }

  change_kept : (n : ℕ) (t : After Went) → Numbered n → SameOutside 0 c.hosts m t.memory → Refuses m t → ChangeKept c m (changed_by p n t)
  change_kept n t l x f = go t.result.way f
    where
      go : (w : Way) → NotLeaves m t.memory w → ChangeKept c m (yields (change_by p t.result.pool n w) t.memory)
      go (To g) k = record { same = x; numbered = λ z. absurd (z refl); whole = λ z e. absurd (z refl) }
      go Not k = record { same = x; numbered = λ z. l; whole = λ z e. k }
      go Damaged k = record { same = x; numbered = λ z. tt; whole = λ z e. absurd (e refl) }

  map_kept : (g f : ℕ) (w : Bool) → ChangeKept c m (map_of c p m g f w)
  unfolding map_of
  map_kept g f w = go (frame_fits c g) (in_guest_area c f)
    where
      t : After Went
      t = insert_of (host_area c) [] p m (indexes c.levels g) (host_entry f w)

      go : (a b : Bool) → ChangeKept c m (cond a (cond b (changed_by p 10 t) (changed p 9 m)) (changed p 8 m))
      go true true =
          change_kept 10 t tt (insert_out (host_area c) [] p m (indexes c.levels g) (host_entry f w) (indexes_narrow c.levels g))
          (insert_refuses (host_area c) [] p m (indexes c.levels g) (host_entry f w))
      go true false = stay_kept 9 tt
      go false b = stay_kept 8 tt

  unmap_kept : (g : ℕ) → ChangeKept c m (unmap_of c p m g)
  unfolding unmap_of
  unmap_kept g = go (frame_fits c g)
    where
      t : After Went
      t = remove_of (host_area c) true p m (indexes c.levels g)

      go : (a : Bool) → ChangeKept c m (cond a (changed_by p 12 t) (changed p 8 m))
      go true =
          change_kept 12 t tt (remove_out (host_area c) true p m (indexes c.levels g) (indexes_narrow c.levels g))
          (remove_refuses (host_area c) true p m (indexes c.levels g))
      go false = stay_kept 8 tt

-- ---- the calls
-- the number of the first test that failed has what the numbers of all tests have
pub failed_in : (P : ℕ → Type 0) (xs : List (Bool × ℕ)) → All (λ x. P x.1) xs → (n : ℕ) → first_failed xs ≡ some n → P n
failed_in P [] a n e = absurd (not_some refl e)
failed_in P (x ∷ xs) a n e = go x.0 e (failed_in P xs a.1 n)
  where
    go : (b : Bool) → cond b (first_failed xs) (some x.1) ≡ some n → (first_failed xs ≡ some n → P n) → P n
    go true k ih = ih k
    go false k ih = subst P (some_inj k) a.0

number_in : (P : ℕ → Type 0) (xs : List (Bool × ℕ)) → All (λ x. P x.1) xs → number (first_failed xs) ≢ 0 → P (number (first_failed xs))
number_in P xs a = go (first_failed xs) refl
  where
    go : (o : Option ℕ) → first_failed xs ≡ o → number o ≢ 0 → P (number o)
    go none q n = absurd (n refl)
    go (some k) q n = failed_in P xs a k q

module _ (r : Record) (m : List ℕ) where
  -- held paths are dropped, after the host tables may have changed
  dropped_kept : (q : Record) (f : HostPhysical) (n : List ℕ) (o : After Left) → config_of q ≡ config_of r → Tables r m n → SameOutside r.layout.hosts r.layout.shadows n o.memory → Kept r m (dropped_by r q f o)
  dropped_kept q f n o k x y = go o.result.ok
    where
      all : Tables r m o.memory
      all = more_tables r m n o.memory x y

      go : (b : Bool) → Kept r m (cond b (ended (with_held q (record { pool = o.result.pool; frame = f })) answer.Ok o.memory) (refused r 11 o.memory))
      go true = guest_kept (held_layout q (record { pool = o.result.pool; frame = f }) ∙ k) all
      go false = damage_kept r m o.memory all

  -- ---- load, store, device store

  -- damage leaves what was held, and the window
  damage_held : (n : List ℕ) → Tables r m n → Kept r m (refused (with_held r (held_of r)) 11 n)
  damage_held n x = subst (λ q. Kept r m (refused q 11 n)) (sym (held_same r)) (damage_kept r m n x)

  damage_window : (n : List ℕ) → Tables r m n → Kept r m (refused (with_head r (head_window (head_of r) (held_of r) r.guest.choice.tally)) 11 n)
  damage_window n x = subst (λ q. Kept r m (refused q 11 n)) (sym (same_window r)) (damage_kept r m n x)

  leaves : fits_of r (length m) ≡ true → (st : Bool) (a : ℕ) → Leaves (config_of r) m (translated_of r m st a)
  unfolding translated_of
  leaves f st a = translate_leaves (config_of r) (host_top r) m st (held_of r) (fits_held r (length m) f) (root_of r) a (request_depth r m a) (omega (arith, (fits_layout r (length m) f).sizes.deep))

  -- over a memory whose tables alone differ from m's, it sets a request's bits
  abbrev SetsBits : (List ℕ → List ℕ) → Type 0
  SetsBits set = (n : List ℕ) → Tables r m n → (length (set n) ≡ length m) × BitsOnly (config_of r).bits (guest_area r m) (guest_area r (set n))

  settled_kept : (st : Bool) (a : ℕ) (sets : Bool) → (sets ≡ true → (config_of r).bits ≡ true) → SetsBits (settled_of (config_of r) (host_top r) (root_of r) st a sets)
  settled_kept st a sets on n x =
      let k = settled_only (config_of r) (host_top r) (root_of r) st a sets on n in
      (k.0 ∙ x.long, subst (λ l. BitsOnly (config_of r).bits l (guest_area r (settled_of (config_of r) (host_top r) (root_of r) st a sets n))) (same_area r m n x) k.1)

  loaded_kept : (a w : ℕ) (o : After Translated) → Tables r m o.memory → (o.result.sets ≡ true → (config_of r).bits ≡ true) → (x : Walked)
      → Kept r m (windowed_by r (load_by (held_of r) a w (settled_of (config_of r) (host_top r) (root_of r) false a o.result.sets) o x))
  loaded_kept a w o x on (walked.Arrived y t n) =
      let k = settled_kept false a o.result.sets on o.memory x in
      record { layout = window_layout r o.result.held _; long = k.0; area = k.1 }
  loaded_kept a w o x on (walked.Faulted y n) = guest_kept (window_layout r o.result.held _) x
  loaded_kept a w o x on walked.Damaged = damage_window o.memory x

  load_kept : (a w : ℕ) → Kept r m (load_call r m a w)
  unfolding load_call load_of translated_of
  load_kept a w =
      let o = translated_of r m false a in
      placed_kept r m w (address_ok false (config_of r) a w) _ (λ f.
      (let l = leaves f false a in
      loaded_kept a w o (shadow_tables_lem r m o.memory l.same) l.sets o.result.walked))

  -- a store that came to host frame t; set: what its bits do
  module _ (f : Fits r (length m)) (t a w v : ℕ) (there : InGuestArea (config_of r) t) (set : List ℕ → List ℕ) (bits : SetsBits set) where
    -- its bits, then its bytes; n: the memory before, whose tables alone differ from m's
    word_kept : (q : Record) (k x : ℕ) (n : List ℕ) → config_of q ≡ config_of r → Tables r m n → Kept r m (ended q (answer.Done k x) (bytes_in (set n) t a w v))
    word_kept q k x n e y =
        let c = config_of r in
        let u = with_bytes a w v (word_in (set n) t (word_of a)) in
        let long = length-drop (512 * guest_base c) m in
        let i = word_fits a in
        record {
          layout = e;
          long = length-set (set n) (at t (word_of a)) u ∙ (bits n y).0;
          bitted = guest_area r (set n);
          bits = (bits n y).1;
          place = place c t (word_of a);
          word = u;
          inside = omega (arith, long, there.0, there.1, f.long, i);
          area = area_store c (set n) t (word_of a) u there.0;
        }

    -- its own drops; n is the memory after its translation, h what is held then
    module _ (n : List ℕ) (h : Holding) (y : Tables r m n) (fresh : h.pool.fresh ≤ r.layout.shadows) where
      abbrev put : After Put
      put = dropped_of (config_of r) n h.pool t (word_of a)

      drops : Drops (config_of r) n put
      drops = drop_leaves (config_of r) n h.pool t (word_of a) fresh

      all : Tables r m put.memory
      all = more_tables r m n put.memory y drops.same

      abbrev holds : Holding
      holds = record { pool = put.result.pool; frame = h.frame }

      window_kept : (k x : ℕ) (b : Bool) → Kept r m (windowed_by r (cond b (finish_by h k x t a w v put.result (set put.memory)) (access.refused (held_of r) 11 put.memory)))
      window_kept k x true = word_kept _ k (x + put.result.exits) put.memory (window_layout r holds _) all
      window_kept k x false = damage_window put.memory all

      served_kept : (k x : ℕ) (b : Bool) → Kept r m (served_by r (cond b (finish_by h k x t a w v put.result (set put.memory)) (access.refused (held_of r) 11 put.memory)))
      served_kept k x true = word_kept _ k (x + put.result.exits) put.memory (held_layout r holds) all
      served_kept k x false = damage_held put.memory all

      -- it is charged to p
      holds_stays : Stays r put.memory (with_held r holds) put.memory
      unfolding head_held head_tables
      holds_stays = record { layout = refl; fresh = drops.fresh; same = out_refl r.layout.hosts r.layout.shadows put.memory }

      paid_kept : (k x p : ℕ) → Kept r m (paid_by r a w v t k x set h p put)
      paid_kept k x p = go put.result.ok
        where
          o : After Move
          o = charged_of (with_held r holds) put.memory p

          stays : StaysBy r put.memory o
          stays = charged_stays r put.memory (with_held r holds) put.memory p holds_stays

          moves : Tables r m o.memory
          moves = more_tables r m put.memory o.memory all stays.same

          e : ℕ
          e = x + put.result.exits

          finished : (b : Bool) → Kept r m (cond b (ended o.result.unit (answer.Done k e) (bytes_in (set o.memory) t a w v)) (refused r 11 o.memory))
          finished true = word_kept o.result.unit k e o.memory (ap config stays.layout) moves
          finished false = damage_kept r m o.memory moves

          go : (b : Bool) → Kept r m (cond b (finished_by r a w v t k e set o) (refused r 11 put.memory))
          go true = finished o.result.ok
          go false = damage_kept r m put.memory all

  module _ (f : Fits r (length m)) (a w v : ℕ) (o : After Translated) (l : Leaves (config_of r) m o) where
    abbrev settles : List ℕ → List ℕ
    settles = settled_of (config_of r) (host_top r) (root_of r) true a o.result.sets

    settled : SetsBits settles
    settled = settled_kept true a o.result.sets l.sets

    came : Tables r m o.memory
    came = shadow_tables_lem r m o.memory l.same

    -- charged to nobody
    plain_kept : Kept r m (plain_store r a w v o)
    plain_kept = go o.result.walked l.arrived
      where
        go : (y : Walked) → ArrivedIn (config_of r) y → Kept r m (windowed_by r (access.store_by (config_of r) (held_of r) a w v settles o y))
        go (walked.Arrived y t n) g =
            window_kept f t.0 a w v g settles settled o.memory o.result.held came l.held.0 n o.result.exits
            (dropped_of (config_of r) o.memory o.result.held.pool t.0 (word_of a)).result.ok
        go (walked.Faulted x n) g = guest_kept (window_layout r o.result.held _) came
        go walked.Damaged g = damage_window o.memory came

    by_charge : (t : HostPhysical) (n : ℕ) → InGuestArea (config_of r) t.0 → (x : Charge) → Kept r m (store_by r a w v o t n x)
    unfolding store_charged_of
    by_charge t n g charge.Nobody = plain_kept
    by_charge t n g (charge.To p) = paid_kept f t.0 a w v g settles settled o.memory o.result.held came l.held.0 n o.result.exits p
    by_charge t n g charge.Damaged = damage_kept r m o.memory came

    stored_kept : (y : Walked) → ArrivedIn (config_of r) y → Kept r m (stored_by r a w v o y)
    stored_kept (walked.Arrived y t n) g = by_charge t n g (charge_at r o.result.held o.memory t.0 (word_of a))
    stored_kept (walked.Faulted x n) g = plain_kept
    stored_kept walked.Damaged g = plain_kept

  store_kept : (a w v : ℕ) → Kept r m (store_call r m a w v)
  unfolding store_call
  store_kept a w v =
      let o = translated_of r m true a in
      placed_kept r m w (address_ok false (config_of r) a w) _ (λ f.
      (let l = leaves f true a in stored_kept (fits_layout r (length m) f) a w v o l o.result.walked l.arrived))

  device_kept : (a w v : ℕ) → Kept r m (device_call r m a w v)
  unfolding device_call device_of
  device_kept a w v =
      placed_kept r m w (address_ok true (config_of r) a w) _ (λ f.
      (go (fits_layout r (length m) f) (walked_of (config_of r) (host_top r) m 0 (next true true (page_of a) true)) (device_in (config_of r) (host_top r) m (page_of a))))
    where
      none_set : SetsBits (λ q. q)
      none_set q x = (x.long, subst (BitsOnly (config_of r).bits (guest_area r m)) (sym (same_area r m q x)) (only_refl (config_of r).bits (guest_area r m)))

      go : Fits r (length m) → (y : Walked) → ArrivedIn (config_of r) y → Kept r m (served_by r (device_by (config_of r) m (held_of r) a w v y))
      go f (walked.Arrived y t n) g =
          served_kept f t.0 a w v g (λ q. q) none_set m (held_of r) (none_changed r m) f.shadow.0 n 0
          (dropped_of (config_of r) m r.pools.shadow t.0 (word_of a)).result.ok
      go f (walked.Faulted y n) g = guest_kept (held_layout r (held_of r)) (none_changed r m)
      go f walked.Damaged g = damage_held m (none_changed r m)

  -- ---- root, map, unmap
  root_kept : (g : ℕ) → Kept r m (root_call r m g)
  unfolding root_call
  root_kept g =
      judged_kept r m _ (λ f. tested_kept r m (frame_fits (config_of r) g) _ 8 tt (guest_kept (root_layout r g) (none_changed r m)))

  unmapped_kept : (p : Pool) (n : List ℕ) (g : ℕ) → r.pools.shadow.fresh ≤ r.layout.shadows → Tables r m n → Kept r m (unmapped_of r p n g)
  unfolding unmapped_of
  unmapped_kept p n g h x = go (eqb g r.guest.root.0)
    where
      o : After Left
      o = scan_of (config_of r) (Names (guest_frame g)) r.pools.shadow n

      go : (b : Bool) → Kept r m (cond b (ended (with_held (with_host r p) nothing) answer.Ok n) (dropped_by r (with_host r p) r.guest.held o))
      go true = guest_kept (held_layout (with_host r p) nothing ∙ host_layout r p) x
      go false = dropped_kept (with_host r p) r.guest.held n o (host_layout r p) x (scan_out (config_of r) (Names (guest_frame g)) r.pools.shadow n h)

  mapped_kept : (p : Pool) (n : List ℕ) (g : ℕ) → r.pools.shadow.fresh ≤ r.layout.shadows → Tables r m n → (w : HostWalk) → Kept r m (mapped_by r p n g w)
  mapped_kept p n g h x (host.Found f w) = unmapped_kept p n g h x
  mapped_kept p n g h x (host.Absent k) = guest_kept (host_layout r p) x
  mapped_kept p n g h x host.Damaged = damage_kept r m n x

  -- the mapping changed, or the refusal of the change
  changed_kept : (t : After Change) (e : After Reply) → ChangeKept (config_of r) m t → (Tables r m t.memory → Kept r m e) → Kept r m (cond (eqb t.result.refusal 0) e (refused r t.result.refusal t.memory))
  changed_kept t e k f = go (eqb t.result.refusal 0) refl
    where
      all : Tables r m t.memory
      all = host_tables_lem r m t.memory k.same

      go : (b : Bool) → eqb t.result.refusal 0 ≡ b → Kept r m (cond b e (refused r t.result.refusal t.memory))
      go true q = f all
      go false q =
          let z = eqb-false t.result.refusal 0 q in
          record { numbered = k.numbered z; unit = refl; guest = guest_kept refl all; whole = k.whole z }

  map_call_kept : (g f : ℕ) (w : Bool) → Kept r m (map_call r m g f w)
  unfolding map_call
  map_call_kept g f w =
      let t = map_of (config_of r) r.pools.host m g f w in
      judged_kept r m _ (λ e. let z = fits_layout r (length m) e in
      changed_kept t _ (map_kept (config_of r) r.pools.host m g f w)
      (λ x. mapped_kept t.result.pool t.memory g z.shadow.0 x (host_walk_of (config_of r) (host_top r) m g)))

  unmap_call_kept : (g : ℕ) → Kept r m (unmap_call r m g)
  unfolding unmap_call
  unmap_call_kept g =
      let t = unmap_of (config_of r) r.pools.host m g in
      judged_kept r m _ (λ e. let z = fits_layout r (length m) e in
      changed_kept t _ (unmap_kept (config_of r) r.pools.host m g)
      (λ x. mapped_kept t.result.pool t.memory g z.shadow.0 x (host_walk_of (config_of r) (host_top r) m g)))

  -- ---- marks
  moved_kept : (o : After Move) → StaysBy r m o → Kept r m (moved_by r o)
  moved_kept o s = go o.result.ok
    where
      all : Tables r m o.memory
      all = shadow_tables_lem r m o.memory s.same

      go : (b : Bool) → Kept r m (yields (cond b (record { unit = o.result.unit; answer = answer.Ok }) (record { unit = r; answer = answer.Refused 11 })) o.memory)
      go true = guest_kept (ap config s.layout) all
      go false = damage_kept r m o.memory all

  -- a mark is set or cleared, or refused with the number x
  marked_kept : (x : ℕ) (o : After Move) → (x ≢ 0 → Numbered x) → (Stays r m r m → StaysBy r m o) → Kept r m (judged r m (cond (eqb x 0) (moved_by r o) (refused r x m)))
  marked_kept x o l s = judged_kept r m _ (λ f. go (first_stays r m (fits_layout r (length m) f).shadow.0) (eqb x 0) refl)
    where
      go : Stays r m r m → (b : Bool) → eqb x 0 ≡ b → Kept r m (cond b (moved_by r o) (refused r x m))
      go k true q = moved_kept o (s k)
      go k false q = refusal_kept r m x (l (eqb-false x 0 q))

  set_kept : (a n : ℕ) → Kept r m (set_mark_call r m a n)
  unfolding set_mark_call set_refusal
  set_kept a n =
      let l : (Numbered 4 × (Numbered 5 × (Numbered 6 × (Numbered 7 × Unit {0})))) = (tt, (tt, (tt, (tt, tt)))) in
      let x = r.guest.choice in
      marked_kept (mark_refusal true r a n) (set_of r m a n) (number_in Numbered (set_tests r.layout.levels x.tally x.order r.guest.marks a n) l) (set_stays r m r m a n)

  clear_kept : (a n : ℕ) → Kept r m (clear_mark_call r m a n)
  unfolding clear_mark_call clear_refusal
  clear_kept a n =
      let l : (Numbered 4 × (Numbered 5 × (Numbered 6 × Unit {0}))) = (tt, (tt, (tt, tt))) in
      let x = r.guest.choice in
      marked_kept (mark_refusal false r a n) (cleared_of r m a n) (number_in Numbered (clear_tests r.layout.levels x.tally x.order r.guest.marks a n) l) (cleared_stays r m r m a n)

-- ---- forecast

-- damage ends a list with 11
list_tells : (c : Config) (ht : ℕ) (m : List ℕ) (h : Holding) (top : ℕ) (marks ks : List ℕ) (o : Outlook) (xs : List ℕ) → Foretells (list_of c ht m h top marks ks o xs)
unfolding list_of
list_tells c ht m h top marks ks o [] = tt
list_tells c ht m h top marks ks o (a ∷ xs) = go n.result (λ o. list_tells c ht m h top marks n.memory o xs)
  where
    n : After Next
    n = address_of c ht m h top marks ks o a

    go : (x : Next) → ((o : Outlook) → Foretells (list_of c ht m h top marks n.memory o xs))
        → Foretells (onward x (λ o. list_of c ht m h top marks n.memory o xs))
    go (Go o) f = f o
    go Broken f = inr (inr (inr refl))

module _ (r : Record) (m xs : List ℕ) where
  abbrev told : Answer
  told = forecast_of (config_of r) (host_top r) m (held_of r) (root_of r) (keys_of r) xs

  forecast_untouched : Untouched r m (forecast_call r m xs)
  unfolding forecast_call
  forecast_untouched = go (fits_of r (length m)) (not (config_of r).bits) (leb (length xs) forecast_room)
    where
      go : (a o b : Bool) → Untouched r m (cond a (cond o (cond b (ended r told m) (refused r 14 m)) (refused r 16 m)) (refused r 3 m))
      go true true true = record { unit = refl; memory = refl }
      go true true false = record { unit = refl; memory = refl }
      go true false b = record { unit = refl; memory = refl }
      go false o b = record { unit = refl; memory = refl }

  forecast_tells : Foretells (forecast_call r m xs).result.answer
  unfolding forecast_call forecast_of
  forecast_tells = go (fits_of r (length m)) (not (config_of r).bits) (leb (length xs) forecast_room)
    where
      go : (a o b : Bool) → Foretells (cond a (cond o (cond b (ended r told m) (refused r 14 m)) (refused r 16 m)) (refused r 3 m)).result.answer
      go true true true = list_tells (config_of r) (host_top r) m (held_of r) (root_of r) (keys_of r) _ (start r.pools.shadow.used) xs
      go true true false = inr (inr (inl refl))
      go true false b = inr (inl refl)
      go false o b = inl refl

  untouched_kept : (e : After Reply) → Untouched r m e → (x : Answer) → Foretells x → Keeps r m e x
  untouched_kept e u answer.Ok f = absurd f
  untouched_kept e u (answer.Value v n y) f = absurd f
  untouched_kept e u (answer.Done n y) f = absurd f
  untouched_kept e u (answer.Faulted z n y) f = absurd f
  untouched_kept e u (answer.Refused n) f = record {
    numbered = elim f [ inl e ↦ rw e tt | inr g ↦ elim g [ inl e ↦ rw e tt | inr d ↦ elim d [ inl e ↦ rw e tt | inr e ↦ rw e tt ] ] ];
    unit = u.unit;
    guest = record { layout = ap config_of u.unit; long = ap length u.memory; area = ap (guest_area r) u.memory };
    whole = λ z. u.memory;
  }
  untouched_kept e u (answer.Figures n y t) f = u

  forecast_kept : Kept r m (forecast_call r m xs)
  forecast_kept = untouched_kept (forecast_call r m xs) forecast_untouched (forecast_call r m xs).result.answer forecast_tells

-- ---- Demand 1. Any call, whatever its numbers, the record and the memory are, comes to an answer, a fault or a numbered refusal,
-- and the memory keeps its length. A fault leaves every guest word. A granted load changes at most accessed and dirty bits, with bits on. A refusal leaves everything, but that 11, for damaged tables,
-- may alter host and shadow frames. Figures leave everything
pub demand_1 : (x : Call) (r : Record) (m : List ℕ) → Keeps r m (call_of x r m) (call_of x r m).result.answer
unfolding call_of
demand_1 (root g) r m = root_kept r m g
demand_1 (map g f w) r m = map_call_kept r m g f w
demand_1 (unmap g) r m = unmap_call_kept r m g
demand_1 (set_mark a n) r m = set_kept r m a n
demand_1 (clear_mark a n) r m = clear_kept r m a n
demand_1 (load a w) r m = load_kept r m a w
demand_1 (store a w v) r m = store_kept r m a w v
demand_1 (device a w v) r m = device_kept r m a w v
demand_1 (forecast xs) r m = forecast_kept r m xs

open_numbers : (words h s : ℕ) (bits : Bool) → refusal_of words h s bits ≢ 0 → (refusal_of words h s bits ≡ 1) ⊎ (refusal_of words h s bits ≡ 2)
unfolding refusal_of open_refusal
open_numbers words h s bits = number_in (λ n. (n ≡ 1) ⊎ (n ≡ 2)) ((words_fit words, 1) ∷ (areas_fit (config_by words h s bits), 2) ∷ []) (inl refl, (inr refl, tt))

pub demand_1_open : (m : List ℕ) (h s : ℕ) (bits on : Bool) → OpenKeeps m h s (open_call m h s bits on) (open_call m h s bits on).result.answer
demand_1_open m h s bits on = go (ℕ_discrete (refusal_of (length m) h s bits) 0)
  where
    go : Dec (refusal_of (length m) h s bits ≡ 0) → OpenKeeps m h s (open_call m h s bits on) (open_call m h s bits on).result.answer
    go (yes e) = rw (granted_call m h s bits on e) (granted_long m h s bits on e, granted_guest m h s bits on e)
    go (no n) = rw (refused_call m h s bits on n) (open_numbers (length m) h s bits n, refl, refl)

-- ---- its parts

-- the memory that a call leaves is as long as the one lent
pub same_length : (x : Call) (r : Record) (m : List ℕ) → length (call_of x r m).memory ≡ length m
same_length x r m = go (call_of x r m).result.answer (demand_1 x r m)
  where
    go : (a : Answer) → Keeps r m (call_of x r m) a → length (call_of x r m).memory ≡ length m
    go answer.Ok k = k.long
    go (answer.Value v n y) k = k.long
    go (answer.Done n y) k = k.long
    go (answer.Faulted z n y) k = k.long
    go (answer.Refused n) k = k.guest.long
    go (answer.Figures n y t) k = ap length k.memory

pub same_length_open : (m : List ℕ) (h s : ℕ) (bits on : Bool) → length (open_call m h s bits on).memory ≡ length m
same_length_open m h s bits on = go (open_call m h s bits on).result.answer (demand_1_open m h s bits on)
  where
    go : (a : Answer) → OpenKeeps m h s (open_call m h s bits on) a → length (open_call m h s bits on).memory ≡ length m
    go answer.Ok k = k.0
    go (answer.Value v n y) k = absurd k
    go (answer.Done n y) k = absurd k
    go (answer.Faulted z n y) k = absurd k
    go (answer.Refused n) k = ap length k.2
    go (answer.Figures n y t) k = absurd k

module _ (x : Call) (r : Record) (m : List ℕ) where
  -- a fault leaves the guest area
  pub fault_keeps : (y : Fault) (n k : ℕ) → (call_of x r m).result.answer ≡ answer.Faulted y n k → guest_area r (call_of x r m).memory ≡ guest_area r m
  fault_keeps y n k e = (subst (Keeps r m (call_of x r m)) e (demand_1 x r m)).area

  -- a refusal other than 11 leaves the record and every word
  pub refusal_keeps : (n : ℕ) → (call_of x r m).result.answer ≡ answer.Refused n → n ≢ 11 → call_of x r m ≡ refused r n m
  refusal_keeps n e z =
      let k : RefusalKept r m (call_of x r m) n = subst (Keeps r m (call_of x r m)) e (demand_1 x r m) in
      let u = call_of x r m in
      ap (λ q. ended q u.result.answer u.memory) k.unit ∙ ap (λ q. ended r q u.memory) e ∙ ap (refused r n) (k.whole z)

  -- 11 leaves the record and the guest area
  pub damage_keeps : (call_of x r m).result.answer ≡ answer.Refused 11 → ((call_of x r m).result.unit ≡ r) × GuestKept r m (call_of x r m)
  damage_keeps e =
      let k : RefusalKept r m (call_of x r m) 11 = subst (Keeps r m (call_of x r m)) e (demand_1 x r m) in
      (k.unit, k.guest)

-- a forecast leaves the record and every word, also where it is refused with 11, and says its figures or 3, 16, 14 or 11
pub forecast_keeps : (xs : List ℕ) (r : Record) (m : List ℕ) → let e = call_of (forecast xs) r m in Untouched r m e × Foretells e.result.answer
unfolding call_of
forecast_keeps xs r m = (forecast_untouched r m xs, forecast_tells r m xs)
