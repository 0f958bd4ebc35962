-- A load or a store through a held path, or at depth N + 1, rests on the words that it counts and, a load, on the word that it
-- loads; any other word of the memory may be altered. Document 01, "Words counted". With bits on, a request on a held path that sets
-- a bit or meets W for one is let off (`SetsNone`), as document 02, 6) has it.
-- Assumes nothing.
use mathlib.Core.Path.{◌≡◌, refl, sym, ap, ap₂, ◌∙◌, subst}
use mathlib.Core.Logic.{◌⊎◌, inl, inr}
use Prim.Native.Nat.{ℕ, zero, suc, ◌+◌, ◌-◌, ◌*◌, ◌^◌, ◌<◌, ◌≤◌}
use native.Mathlib.Nat.{zero-add}
use native.Mathlib.Omega.{arith}
use mathlib.Core.Bool.{Bool, true, false, not, ◌&&◌, cond}
use mathlib.Core.List.{List, [], ◌∷◌, ◌++◌}
use mathlib.Core.Option.{Option, none, some}
use lib.Dec.{T, eqb, leb, ltb, leb→le, nleb→lt}
use lib.Count.{ones}
use lib.ListN.{length, get_or, set}
use Rattle.spec.specs.declared.Answer.TheVariants as answer
use Rattle.spec.specs.declared.Fault.{Fault}
use Rattle.spec.specs.Config.{Config, frame_bits}
use Rattle.spec.specs.Entry.{word_of, page_of, indexes}
use Rattle.spec.specs.Bytes.{width_fits, bytes_at, with_bytes}
use Rattle.spec.specs.Walk as result
use Rattle.spec.specs.Walk.{World, Trace, granted, trace}
use Rattle.spec.specs.Plain.{Place, Lead, levels, walk, upper, shadow_part, direct_part}
use Rattle.spec.specs.Machine.{Machine, place, world}
use Rattle.spec.specs.Bits.{has_bits, is_last, lacks}
use Rattle.spec.specs.Prefix.{All, begins}
use Rattle.spec.specs.Choice.{charges_for_mark}
use Rattle.spec.specs.Book.{Held, Book, find, drop_word, drop_prefix, reads_word, watched}
use Rattle.spec.specs.Call as call
use Rattle.spec.specs.Call.{Call, address_indexes}
use Rattle.spec.specs.Count as count
use Rattle.spec.specs.Count.{serves, one}
use Rattle.spec.specs.Run.{State, after, opened}
use Rattle.spec_laws.proofs.Lists.{is_true, or_second, all_kept}
use Rattle.spec_laws.proofs.Indexes.{indexes_length, indexes_all}
use Rattle.spec_laws.proofs.Asks.{placed_frame, levels_asks, walk_asks}
use Rattle.spec_laws.proofs.Parts.{direct_trace}
use Rattle.spec_laws.proofs.Keeps.{Valid, right_deep, InGuestArea, area_real}
use Rattle.spec_laws.proofs.Covered.{Covered}
use Rattle.entry.proofs.Entries.{word_fits}
use Rattle.words.specs.Words.{word_in}
use Rattle.entry.specs.declared.HostPhysical.{HostPhysical}
use Rattle.pool.specs.declared.Pool.{Pool}
use Rattle.pool.specs.Outside.{SameOutside}
use Rattle.pool.proofs.Outside.{out_refl}
use Rattle.area_laws.proofs.Paths.{onto}
use Rattle.area_laws.proofs.Stores.{Beside}
use Rattle.area_laws.proofs.Whole.{Holds, holds_memory}
use Rattle.area_laws.proofs.Hosts.{indexes_small}
use Rattle.layout.specs.declared.HostWalk.TheVariants as hosts
use Rattle.layout.specs.Layout.{page}
use Rattle.walk.specs.declared.Walked.{Walked}
use Rattle.walk.specs.declared.Walked.TheVariants as walked
use Rattle.walk.specs.Memory.{memory_world}
use Rattle.walk.proofs.Stands.{stands_trace}
use Rattle.marks.specs.declared.Marks.{Marks}
use Rattle.marks.specs.Table.{room}
use Rattle.choice.specs.declared.Choice.{Choice}
use Rattle.choice.specs.Window.{charges_of}
use Rattle.choice.specs.Order.{leaving_of, place_by}
use Rattle.charge.specs.declared.Charge.{Charge}
use Rattle.charge.specs.declared.Charge.TheVariants as charge
use Rattle.charge.specs.Charge.{charged_of}
use Rattle.record.specs.declared.Record.{Record}
use Rattle.record.specs.Record.{config_of, config_by, head_tables, head_tally, with_marks, fits_of}
use Rattle.record.specs.Open.{refusal_of}
use Rattle.drops.specs.declared.Cut.TheVariants.{Word}
use Rattle.shadow.specs.Held.{shadow_area}
use Rattle.shadow.specs.Watch.{watched_of}
use Rattle.drops.specs.Drop.{scan_of}
use Rattle.drops_laws.proofs.Scan.{Dropped}
use Rattle.drops_laws.proofs.Held.{leaf_at, HeldEntries}
use Rattle.drops_laws.proofs.Watch.{watched_is}
use Rattle.drops_laws.proofs.Drops.{named_in, drop_word_lem, drop_prefix_lem}
use Rattle.drops_laws.proofs.Charge.{charge_is}
use Rattle.drops_laws.proofs.Valid.{entry_of}
use Rattle.translate.specs.Translate.{direct, whole, serves_of, found_of}
use Rattle.request.specs.Access as access
use Rattle.request.specs.Access.{settled_of, load_from, load_of, put, dropped_by, dropped_of, bytes_in, finish_by, written_by}
use Rattle.automatic.specs.Moves as moves
use Rattle.automatic.specs.Moves.{Move, moved, with_shadow, held_after, marked_of, then_by, withdrawn_of, room_made_of, appointed_of, appointed_in, entered_of}
use Rattle.translate.proofs.Fits.{ArrivedIn}
use Rattle.translate.proofs.Leaves.{translate_leaves}
use Rattle.request.proofs.Leaves.{drop_leaves}
use Rattle.calls.specs.Calls.{host_top, held_of, root_of, head_held, with_held, ended, refused, windowed_by, admitted, request_depth, address_ok, translated_of, charged_in, charge_at, finished_by, paid_by, store_charged_of, store_by, stored_by, load_call, store_call}
use Rattle.claims.specs.Run.{guest_area, run_of}
use Rattle.claims.specs.Counted.{SameWords, SameLoad, SameStore, counted_of, touched_by, touched_of, HeldOrPlain, LacksNone, SetsNone, own_of, SameOwn, in_window, References, Touches, Refuses, SameTables}
use Rattle.claims.proofs.Invariant.{longer, frames, Inv}
use Rattle.claims.proofs.Moves.{shadow_drop}
use Rattle.claims.proofs.Puts.{area_store}
use Rattle.claims.proofs.SafeMoves.{charged_stays}
use Rattle.claims.proofs.Paths.{path_upper, path_lower}
use Rattle.claims.proofs.Found as found
use Rattle.claims.proofs.Depths.{depth_is}
use Rattle.claims.proofs.Bits.{walk_lacks}
use Rattle.claims.proofs.Translates as translates
use Rattle.claims.proofs.Demands.{after_run}
use Rattle.claims.proofs.WordsRead as read
use Rattle.claims.proofs.WordsRead.{Reaches, held, plain, comes, Alike, alike, Reads, walk_outside, bits_alike, own_long, own_alike}
use Rattle.words.specs.After.{After}
use Rattle.translate.specs.declared.Translated.{Translated}
use Rattle.calls.specs.declared.Reply.{Reply}
use Rattle.request.specs.declared.Put.{Put}

-- what is the same outside the shadow tables' area, frame by frame
outside_beside : (c : Config) {m n : List ℕ} → SameOutside c.hosts c.shadows m n → Beside (shadow_area c) m n
outside_beside c e = record {
  len = e.long;
  else = λ g o k l. e.same (g * 512 + k) (elim o [ inl z ↦ inl (omega arith) | inr z ↦ inr (omega arith) ]);
}

-- entries that come after others, all of which lack no bit
lacks_later : (w : World) (st : Bool) (xs ys : List (ℕ × ℕ)) → lacks w st (xs ++ ys) ≡ false → lacks w st ys ≡ false
unfolding lacks
lacks_later w st [] ys h = h
lacks_later w st (x ∷ xs) ys h = lacks_later w st xs ys (or_second (not (has_bits (st && is_last (xs ++ ys)) (w.word_at x.0 x.1))) (lacks w st (xs ++ ys)) h)

-- ---- the moves of marks over shadow tables that hold some paths, whatever the guest words: no damage is met
module _ (F : List ℕ → ℕ) (G : List ℕ → Lead) (root : ℕ) (e : Held → ℕ) where
  -- the shadow tables of q in the memory n hold the paths
  record Tabled (q : Record) (n : List ℕ) : Type 0 where
    held : List Held
    holds : Holds (shadow_area (config_of q)) false q.pools.shadow n (leaf_at e held) F
    entries : HeldEntries (config_of q) F G root e held

  abbrev Moves : After Move → Type 0
  Moves x = (x.result.ok ≡ true) × Tabled x.result.unit x.memory

  marked_moves : (q : Record) (n : List ℕ) (k p : ℕ) (t : Marks) (x : Choice) → k ≤ q.layout.levels → Tabled q n → Moves (marked_of q n k p t x)
  unfolding marked_of with_marks head_tables
  marked_moves q n k p t x l h =
      let d = drop_prefix_lem h.holds h.entries (indexes k p) (omega (arith, indexes_length k p)) (indexes_small k p) in
      let f = held_after k q.guest.held in
      let left : Moves (moved (with_shadow (with_marks q t x) d.pool f) true d.memory) = (
        refl,
        record {
          held = drop_prefix (indexes k p) h.held;
          holds = d.holds;
          entries = record { spans = h.entries.spans; all = all_kept _ (λ y. not (begins (indexes k p) y.path)) h.held h.entries.all };
        },
      ) in
      subst (λ o. Moves (moves.left_by q (with_marks q t x) f o)) (sym d.done) left

  room_moves : (q : Record) (n : List ℕ) → Tabled q n → Moves (room_made_of q n)
  unfolding room_made_of withdrawn_of
  room_moves q n h =
      go (ltb (ones q.guest.marks.set) room) (eqb q.guest.choice.tally.count 0)
      (place_by (leaving_of q.layout.levels q.guest.choice.ring q.guest.choice.tally q.guest.choice.order q.guest.marks.place))
    where
      go : (b d : Bool) (i : ℕ) → Moves (cond b (moved q true n) (cond d (moved q true n) (withdrawn_of q n i)))
      go true d i = (refl, h)
      go false true i = (refl, h)
      go false false i = marked_moves q n (q.layout.levels - 1) _ _ _ (omega arith) h

  appointed_moves : (p : ℕ) (q : Record) (n : List ℕ) → Tabled q n → Moves (appointed_in p q n)
  unfolding appointed_of
  appointed_moves p q n h = go (ltb (ones q.guest.marks.set) room)
    where
      go : (b : Bool) → Moves (cond b (appointed_of q n p) (moved q true n))
      go true = marked_moves q n (q.layout.levels - 1) p _ _ (omega arith) h
      go false = (refl, h)

  then_moves : (o : After Move) (f : Record → List ℕ → After Move) → Moves o → ((q : Record) (n : List ℕ) → Tabled q n → Moves (f q n)) → Moves (then_by o f)
  then_moves o f h k = rw h.0 (k o.result.unit o.memory h.1)

  charged_moves : (p : ℕ) (q : Record) (n : List ℕ) → Tabled q n → Moves (moves.charged_of q n p)
  unfolding moves.charged_of with_marks
  charged_moves p q n h =
      let x = entered_of q p in
      go (leb charges_for_mark (charges_of x.layout.levels x.guest.choice.ring x.guest.choice.tally p))
    where
      on : Tabled (entered_of q p) n
      on = record { held = h.held; holds = h.holds; entries = h.entries }

      go : (b : Bool) → Moves (cond b (then_by (room_made_of (entered_of q p) n) (appointed_in p)) (moved (entered_of q p) true n))
      go true = then_moves (room_made_of (entered_of q p) n) (appointed_in p) (room_moves (entered_of q p) n on) (appointed_moves p)
      go false = (refl, on)

module _ (s : State) (r : Record) (m : List ℕ) (inv : Inv s r m) (a : ℕ) where
  abbrev c : Config
  c = config_of r

  abbrev deep : ℕ
  deep = found.deep s r m inv a

  abbrev path : List ℕ
  path = found.path s r m inv a

  at : request_depth r m a ≡ deep
  at = depth_is s r m inv a

  three : 3 ≤ c.levels
  three = omega (arith, (found.rules s r m inv).sizes.deep)

  -- ---- the premises

  -- the path that the book holds
  by_path : (st : Bool) → HeldOrPlain c s.machine s.book st a → deep ≤ c.levels → (h : Held) × (find path s.book.held ≡ some h) × (serves_of st deep h.right ≡ true)
  unfolding HeldOrPlain
  by_path st (inl k) low = go (find path s.book.held) refl (subst (λ p. T (serves st deep (find p s.book.held))) (path_upper c deep a low) k)
    where
      go : (o : Option Held) → find path s.book.held ≡ o → T (serves st deep o) → (h : Held) × (find path s.book.held ≡ some h) × (serves_of st deep h.right ≡ true)
      go none e z = absurd z
      go (some h) e z = (h, e, sym (translates.serves_is st deep h) ∙ is_true (serves st deep (some h)) z)
  by_path st (inr k) low = absurd (omega (arith, low, k))

  -- the unit finds it
  reaches : (st : Bool) → HeldOrPlain c s.machine s.book st a → Reaches r st a deep m
  reaches st h = go (leb deep c.levels) refl
    where
      go : (b : Bool) → leb deep c.levels ≡ b → Reaches r st a deep m
      go true q =
          let low = leb→le deep c.levels (subst T (sym q) tt) in
          let k = by_path st h low in
          held (page (frames r m (onto [] path))) k.0.right low (found.found_some s r m inv a low k.0 k.1) k.2
      go false q = plain (nleb→lt deep c.levels (subst (λ b. T (not b)) (sym q) tt))

  -- ---- whom they let off

  module _ (covered : All (Covered c s.machine) s.book.held) (st : Bool)
      (has : (p : Place) → (call.plain c s.machine st a).result ≡ granted p → lacks (world c s.machine) st (call.plain c s.machine st a).reads ≡ false) where
    abbrev world-of : World
    world-of = world c s.machine

    abbrev frame : ℕ
    frame = frames r m (onto [] path)

    module _ (low : deep ≤ c.levels) (h : Held) (e : find path s.book.held ≡ some h) (sv : serves_of st deep h.right ≡ true) where
      abbrev valid : Valid c s.machine h
      valid = translates.valid s r m inv covered st a h low e sv

      -- what the direct part reads over memory the plain walk reads on the machine
      deep_has : LacksNone c (host_top r) m st a deep (hosts.Found (page frame) valid.wide)
      unfolding call.plain
      deep_has p g =
          let q = direct c st a deep frame valid.wide in
          let asks = levels_asks c (InGuestArea c) (area_real c) st (0 + deep) frame valid.wide (indexes deep (page_of a)) (omega (arith, low))
          (placed_frame c (InGuestArea c) (area_real c) (0 + deep) frame (translates.held_in_lem s r m inv covered st a h low e sv)) (indexes_all deep (page_of a)) in
          let upper-part = trace world-of (shadow_part c st deep s.machine.root (address_indexes c a)) in
          let lower-part = trace world-of (direct_part c st deep (frame, valid.wide) (address_indexes c a)) in
          let lower : trace world-of q ≡ lower-part =
          ap₂ (λ l js. trace world-of (levels c st l frame valid.wide js)) (zero-add deep) (sym (path_lower c deep a low)) in
          let all = direct_trace world-of c st deep s.machine.root (address_indexes c a) (frame, valid.wide) (indexes_length c.levels (page_of a)) low
          (ap (λ y. (trace world-of (walk c st s.machine.root y)).result) (path_upper c deep a low) ∙ translates.held_granted s r m inv covered st a h low e sv) in
          let grant = ap (λ (x : Trace Fault Place). x.result) all ∙ sym (ap (λ (x : Trace Fault Place). x.result) (stands_trace c s.machine (host_top r) m (found.memory_stands s r m inv) q _ asks ∙ lower)) ∙ g in
          walk_lacks c s.machine (host_top r) m (found.memory_stands s r m inv) q _ asks st
          ∙ ap (λ (x : Trace Fault Place). lacks world-of st x.reads) lower
          ∙ lacks_later world-of st upper-part.reads lower-part.reads (sym (ap (λ (x : Trace Fault Place). lacks world-of st x.reads) all) ∙ has p grant)

      -- at depth 0 there is none
      direct_has : LacksNone c (host_top r) m st a deep (hosts.Found (page frame) h.right)
      unfolding indexes levels trace lacks
      direct_has = go deep refl
        where
          go : (n : ℕ) → deep ≡ n → LacksNone c (host_top r) m st a deep (hosts.Found (page frame) h.right)
          go zero z = λ p g. ap (λ d. lacks (memory_world c (host_top r) m) st (trace (memory_world c (host_top r) m) (direct c st a d frame h.right)).reads) z
          go (suc n) z =
              subst (λ b. LacksNone c (host_top r) m st a deep (hosts.Found (page frame) b))
              (sym (right_deep c s.machine h valid (λ l. omega (arith, z, l, ap length (found.find_path path s.book.held h e), found.path_length s r m inv a low)))) deep_has

    -- only a request whose plain walk on the machine is granted and reads an entry that lacks a bit: it sets the bit, or meets W for it
    pub sets_none : HeldOrPlain c s.machine s.book st a → SetsNone r m st a
    unfolding SetsNone
    sets_none h on low =
        let shallow = subst (λ n. n ≤ c.levels) at low in
        let k = by_path st h shallow in
        subst (λ n. LacksNone c (host_top r) m st a n (found_of c m (held_of r) a n)) (sym at)
        (subst (LacksNone c (host_top r) m st a deep) (sym (found.found_some s r m inv a shallow k.0 k.1)) (direct_has shallow k.0 k.1 k.2))

  module _ (w : ℕ) where
    -- ---- load

    -- the bits that a request sets
    abbrev own : Bool → Bool → List ℕ → List ℕ
    own st sets n = settled_of c (host_top r) (root_of r) st a sets n

    same_own : (st : Bool) (n : List ℕ) → Alike r st a deep m n → SameOwn r m n st a
    unfolding own_of
    same_own st n l =
        let k = l.own in (
          k.0,
          ap (λ (o : After Translated). own st o.result.sets m) l.before ∙ k.2,
          ap (λ (o : After Translated). own st o.result.sets n) l.altered ∙ k.3,
        )

    abbrev loadOn : After Translated → After Reply
    loadOn o = windowed_by r (load_from c (host_top r) (root_of r) (held_of r) a w o)

    -- a reply e of a load on memory n, beside the reply f
    abbrev SameReply : List ℕ → List ℕ → After Reply → After Reply → Type 0
    SameReply n set e f = (e.result.answer ≡ f.result.answer) × (e.result.unit ≡ in_window e.result.answer r) × ((e.memory ≡ n) ⊎ (e.memory ≡ set))

    -- what a load says through such a translation
    load_says : (n : List ℕ) (e : ℕ) (x : Walked) (sets : Bool) → ((j : ℕ) → get_or n j 0 ≡ get_or m j 0 → get_or (own false sets n) j 0 ≡ get_or (own false sets m) j 0)
        → SameWords m n (touched_by a x) → SameReply n (own false sets n) (loadOn (read.left r false a deep e x sets n)) (loadOn (read.left r false a deep e x sets m))
    unfolding head_held head_tables
    load_says n e (walked.Arrived y t k) sets q h =
        (ap (λ b. answer.Value (bytes_at a w b) k e) (q (t.0 * 512 + word_of a) h.0), refl, inr refl)
    load_says n e (walked.Faulted y k) sets q h = (refl, refl, inl refl)
    load_says n e walked.Damaged sets q h = (refl, refl, inl refl)

    -- a memory of the same length is not refused with 3
    load_fits : (n : List ℕ) → length n ≡ length m
        → load_call r n a w ≡ admitted (width_fits w) (address_ok false c a w) r n (loadOn (translated_of r n false a))
    unfolding load_call load_of translated_of
    load_fits n e = ap (λ b. cond b (admitted (width_fits w) (address_ok false c a w) r n (loadOn (translated_of r n false a))) (refused r 3 n)) (ap (fits_of r) e ∙ inv.fits)

    -- the load says the same value or fault with the same counts, whatever memory n of that length holds elsewhere. On a held path, with bits
    -- on, that is said of a load that sets no bit and meets no W for one
    pub words_counted_load : HeldOrPlain c s.machine s.book false a → SetsNone r m false a
        → (n : List ℕ) → length n ≡ length m → SameWords m n (counted_of r m false a) → SameWords m n (touched_of r m false a) → SameLoad r m n a w
    unfolding touched_of own_of head_tally
    words_counted_load h clear n e counted touched =
        let x = subst (SameReply n (own_of r n false a) (load_call r n a w)) (sym (load_fits m refl))
        (subst (λ (y : After Reply). SameReply n (own_of r n false a) y (admitted (width_fits w) (address_ok false c a w) r m (loadOn (translated_of r m false a)))) (sym (load_fits n e))
        (go (width_fits w) (address_ok false c a w))) in
        record { says = x.0; unit = x.1; memory = x.2; own = same_own false n l }
      where
        l : Alike r false a deep m n
        l = alike r false a deep m n three at (reaches false h) clear counted

        kept : (j : ℕ) → get_or n j 0 ≡ get_or m j 0 → get_or (own false l.sets n) j 0 ≡ get_or (own false l.sets m) j 0
        kept j q =
            let k = l.own in
            ap (λ x. get_or x j 0) k.3 ∙ bits_alike false k.0 m n e k.1 j q ∙ sym (ap (λ x. get_or x j 0) k.2)

        go : (d b : Bool) → SameReply n (own false (translated_of r n false a).result.sets n) (admitted d b r n (loadOn (translated_of r n false a))) (admitted d b r m (loadOn (translated_of r m false a)))
        go false b = (refl, refl, inl refl)
        go true false = (refl, refl, inl refl)
        go true true =
            subst (λ (o : After Translated). SameReply n (own false o.result.sets n) (loadOn o) (loadOn (translated_of r m false a))) (sym l.altered)
            (subst (λ (o : After Translated). SameReply n (own false l.sets n) (loadOn (read.left r false a deep l.exits l.walked l.sets n)) (loadOn o)) (sym l.before)
            (load_says n l.exits l.walked l.sets kept (subst (λ (o : After Translated). SameWords m n (touched_by a o.result.walked)) l.before touched)))

    -- ---- the words counted are as many as the references, whatever bits are set

    counts : (st : Bool) → HeldOrPlain c s.machine s.book st a → (on : After Translated → After Reply)
        → ((e : ℕ) (x : Walked) (sets : Bool) → Reads (length (counted_of r m st a)) x → References (length (counted_of r m st a)) (on (read.left r st a deep e x sets m)).result.answer)
        → References (length (counted_of r m st a)) (admitted (width_fits w) (address_ok false c a w) r m (on (translated_of r m st a))).result.answer
    counts st h on said = go (width_fits w) (address_ok false c a w)
      where
        go : (d b : Bool) → References (length (counted_of r m st a)) (admitted d b r m (on (translated_of r m st a))).result.answer
        go false b = tt
        go true false = tt
        go true true =
            let l = comes r st a deep m at (reaches st h) in
            subst (λ (o : After Translated). References (length (counted_of r m st a)) (on o).result.answer) (sym l.done) (said l.exits l.walked l.sets l.count)

    pub load_counted : HeldOrPlain c s.machine s.book false a → References (length (counted_of r m false a)) (load_call r m a w).result.answer
    load_counted h =
        subst (λ (x : After Reply). References (length (counted_of r m false a)) x.result.answer) (sym (load_fits m refl)) (counts false h loadOn said)
      where
        said : (e : ℕ) (x : Walked) (sets : Bool) → Reads (length (counted_of r m false a)) x → References (length (counted_of r m false a)) (loadOn (read.left r false a deep e x sets m)).result.answer
        said e (walked.Arrived y t k) sets q = q
        said e (walked.Faulted y k) sets q = q
        said e walked.Damaged sets q = tt

    -- ---- store
    module _ (v : ℕ) where
      abbrev storeOn : After Translated → After Reply
      storeOn o = stored_by r a w v o o.result.walked

      store_fits : (n : List ℕ) → length n ≡ length m
          → store_call r n a w v ≡ admitted (width_fits w) (address_ok false c a w) r n (storeOn (translated_of r n true a))
      unfolding store_call
      store_fits n e = ap (λ b. cond b (admitted (width_fits w) (address_ok false c a w) r n (storeOn (translated_of r n true a))) (refused r 3 n)) (ap (fits_of r) e ∙ inv.fits)

      -- what the store leaves on a memory, in the guest frame t, with k references and e exits before its drops, and charged so
      module _ (t : HostPhysical) (y : Bool) (k e : ℕ) (sets : Bool) where
        abbrev dropsOn : List ℕ → After Put
        dropsOn n = dropped_of c n r.pools.shadow t.0 (word_of a)

        abbrev chargeOn : List ℕ → Charge
        chargeOn n = charge_at r (held_of r) n t.0 (word_of a)

        abbrev leftOn : List ℕ → Charge → After Reply
        leftOn n g = store_by r a w v (read.left r true a deep e (walked.Arrived y t k) sets n) t k g

        -- charged to nobody, after drops that left o; charged, and then after moves that left x
        abbrev writtenOn : After Put → After Reply
        writtenOn o = windowed_by r (written_by (held_of r) (held_of r) k e t.0 a w v (own true sets) o)

        abbrev paidOn : ℕ → After Put → After Reply
        paidOn p o = paid_by r a w v t.0 k e (own true sets) (held_of r) p o

        abbrev finishedOn : ℕ → After Move → After Reply
        finishedOn i x = finished_by r a w v t.0 k i (own true sets) x

        -- the record after the drops
        abbrev droppedTo : After Put → Record
        droppedTo o = with_held r (record { pool = o.result.pool; frame = r.guest.held })

        left_counts : (n : List ℕ) (x : ℕ) → k ≡ x → (g : Charge) → References x (leftOn n g).result.answer
        unfolding store_charged_of
        left_counts n x q charge.Nobody = go (dropsOn n).result.ok
          where
            go : (b : Bool) → References x (windowed_by r (cond b (finish_by (held_of r) k e t.0 a w v (dropsOn n).result (own true sets (dropsOn n).memory)) (access.refused (held_of r) 11 (dropsOn n).memory))).result.answer
            go true = q
            go false = tt
        left_counts n x q (charge.To p) = go (dropsOn n).result.ok (moves.charged_of (droppedTo (dropsOn n)) (dropsOn n).memory p)
          where
            by : (b : Bool) (o : After Move) → References x (cond b (ended o.result.unit (answer.Done k (e + (dropsOn n).result.exits)) (bytes_in (own true sets o.memory) t.0 a w v)) (refused r 11 o.memory)).result.answer
            by true o = q
            by false o = tt

            go : (b : Bool) (o : After Move) → References x (cond b (finishedOn (e + (dropsOn n).result.exits) o) (refused r 11 (dropsOn n).memory)).result.answer
            go true o = by o.result.ok o
            go false o = tt
        left_counts n x q charge.Damaged = tt

        -- the drops change words of shadow tables alone,
        outside : (n : List ℕ) → SameOutside c.hosts c.shadows n (dropsOn n).memory
        outside n = (drop_leaves c n r.pools.shadow t.0 (word_of a) (found.rules s r m inv).shadow.0).same

        -- and so do the moves of marks,
        moved_outside : (n : List ℕ) (p : ℕ) → SameOutside c.hosts c.shadows n (moves.charged_of (droppedTo (dropsOn n)) (dropsOn n).memory p).memory
        unfolding head_held head_tables
        moved_outside n p =
            let d = drop_leaves c n r.pools.shadow t.0 (word_of a) (found.rules s r m inv).shadow.0 in
            (charged_stays r n (droppedTo (dropsOn n)) (dropsOn n).memory p (record { layout = refl; fresh = d.fresh; same = d.same })).same

        -- so the bits set after them are those of the memory that was given
        own_outside : (n o : List ℕ) → SameOutside c.hosts c.shadows n o → SameOutside c.hosts c.shadows (own true sets n) (own true sets o)
        own_outside n o d =
            let root-fits = subst (λ g. g < 2 ^ frame_bits c) (sym inv.root) (found.root_small s r m inv) in
            let words = walk_outside c (host_top r) n o d (whole c true (root_of r) a) _
            (walk_asks c (InGuestArea c) (area_real c) true (root_of r) (indexes c.levels (page_of a)) root-fits (indexes_all c.levels (page_of a))) in
            record {
              long = own_long c (host_top r) (root_of r) true a sets o ∙ d.long ∙ sym (own_long c (host_top r) (root_of r) true a sets n);
              same = λ j q. own_alike c (host_top r) (root_of r) true a n o d.long words sets j (d.same j q);
            }

        module _ (there : InGuestArea c t.0) where
          -- on memory n, whose translation says that bits are to be set: the bytes, once drops and moves left o
          finishes : (n o : List ℕ) → SameOutside c.hosts c.shadows n o → (translated_of r n true a).result.sets ≡ sets → (q : Record) (i : ℕ)
              → Touches r n k i t.0 a w v (ended q (answer.Done k i) (bytes_in (own true sets o) t.0 a w v))
          unfolding own_of
          finishes n o d p q i =
              let x = own true sets o in
              let f = own_outside n o d in
              record {
                says = refl;
                area = area_store c x t.0 (word_of a) (with_bytes a w v (word_in x t.0 (word_of a))) there.0
                    ∙ ap₂ (λ l y. set l (place c t.0 (word_of a)) (with_bytes a w v y)) (shadow_drop c (outside_beside c f)) (f.same (t.0 * 512 + word_of a) (inr (omega (arith, there.0))))
                    ∙ ap (λ b. set (guest_area r (own true b n)) (place c t.0 (word_of a)) (with_bytes a w v (word_in (own true b n) t.0 (word_of a)))) (sym p);
              }

          -- damage met there has changed no guest word
          refuses : (n o : List ℕ) → SameOutside c.hosts c.shadows n o → Refuses r n (refused r 11 o)
          refuses n o d = record { says = refl; unit = refl; area = shadow_drop c (outside_beside c d) }

          abbrev Either : List ℕ → After Reply → Type 0
          Either n u = ((i : ℕ) × Touches r n k i t.0 a w v u) ⊎ Refuses r n u

          either : (n : List ℕ) → (translated_of r n true a).result.sets ≡ sets → (g : Charge) → Either n (leftOn n g)
          unfolding store_charged_of head_held head_tables head_tally
          either n p charge.Nobody = go (dropsOn n).result.ok
            where
              go : (b : Bool) → Either n (windowed_by r (cond b (finish_by (held_of r) k e t.0 a w v (dropsOn n).result (own true sets (dropsOn n).memory)) (access.refused (held_of r) 11 (dropsOn n).memory)))
              go true = inl (e + (dropsOn n).result.exits, finishes n (dropsOn n).memory (outside n) p _ _)
              go false = inr (refuses n (dropsOn n).memory (outside n))
          either n p (charge.To q) = go (dropsOn n).result.ok
            where
              o : After Move
              o = moves.charged_of (droppedTo (dropsOn n)) (dropsOn n).memory q

              by : (b : Bool) → Either n (cond b (ended o.result.unit (answer.Done k (e + (dropsOn n).result.exits)) (bytes_in (own true sets o.memory) t.0 a w v)) (refused r 11 o.memory))
              by true = inl (e + (dropsOn n).result.exits, finishes n o.memory (moved_outside n q) p o.result.unit _)
              by false = inr (refuses n o.memory (moved_outside n q))

              go : (b : Bool) → Either n (cond b (finishedOn (e + (dropsOn n).result.exits) o) (refused r 11 (dropsOn n).memory))
              go true = by o.result.ok
              go false = inr (refuses n (dropsOn n).memory (outside n))
          either n p charge.Damaged = inr (refuses n n (out_refl c.hosts c.shadows n))

          -- ---- no shadow word is altered: the tables hold what they held, and no damage is met
          module _ (n : List ℕ) (long : length n ≡ length m) (same : SameTables c m n) where
            tables : Holds (shadow_area c) false r.pools.shadow n (leaf_at (entry_of c (frames r m)) (longer s.book.held)) (frames r m)
            tables = holds_memory inv.shadow n long (λ f lo hi. same f hi)

            entries : HeldEntries c (frames r m) (named_in c m (frames r m)) (root_of r) (entry_of c (frames r m)) (longer s.book.held)
            entries = found.held_entries s r m inv

            -- the drops
            record Undamaged : Type 0 where
              pool : Pool
              memory : List ℕ
              done : dropsOn n ≡ put pool (one (watched t.0 (longer s.book.held))) true memory
              tabled : Tabled (frames r m) (named_in c m (frames r m)) (root_of r) (entry_of c (frames r m)) (with_held r (record { pool = pool; frame = r.guest.held })) memory

            undamaged : Undamaged
            unfolding dropped_of head_held head_tables
            undamaged = go (watched t.0 (longer s.book.held)) refl
              where
                scanned : Dropped c n (leaf_at (entry_of c (frames r m)) (drop_word t.0 (word_of a) (longer s.book.held))) (frames r m) (scan_of c (Word (page t.0) (word_of a)) r.pools.shadow n)
                scanned = drop_word_lem tables entries t.0 (word_of a) (area_real c t.0 there) (word_fits a)

                watches : watched_of c n r.pools.shadow.fresh t.0 ≡ watched t.0 (longer s.book.held)
                watches = watched_is tables entries t.0 (area_real c t.0 there)

                by : Bool → After Put
                by b = cond b (dropped_by r.pools.shadow (scan_of c (Word (page t.0) (word_of a)) r.pools.shadow n)) (put r.pools.shadow 0 true n)

                go : (b : Bool) → watched t.0 (longer s.book.held) ≡ b → Undamaged
                go true q = record {
                  pool = scanned.pool;
                  memory = scanned.memory;
                  done = ap by (watches ∙ q) ∙ ap (dropped_by r.pools.shadow) scanned.done ∙ ap (λ b. put scanned.pool (one b) true scanned.memory) (sym q);
                  tabled = record {
                    held = drop_word t.0 (word_of a) (longer s.book.held);
                    holds = scanned.holds;
                    entries = record { spans = entries.spans; all = all_kept _ (λ h. not (reads_word t.0 (word_of a) h)) (longer s.book.held) entries.all };
                  };
                }
                go false q = record {
                  pool = r.pools.shadow;
                  memory = n;
                  done = ap by (watches ∙ q) ∙ ap (λ b. put r.pools.shadow (one b) true n) (sym q);
                  tabled = record { held = longer s.book.held; holds = tables; entries = entries };
                }

            -- the charge
            charges : (P : Charge → Type 0) → P charge.Nobody → ((p : ℕ) → P (charge.To p)) → P (chargeOn n)
            unfolding charge_at charged_in
            charges P nobody to = go (eqb r.guest.choice.tally.on 0) (watched_of c n r.pools.shadow.fresh t.0)
              where
                found_by_lem : P (charged_of c n r.pools.shadow.fresh t.0 (word_of a))
                found_by_lem = elim (charge_is tables entries t.0 (word_of a) (area_real c t.0 there) (word_fits a) true) [ inl x ↦ subst P (sym x.0) nobody | inr x ↦ subst P (sym x.to) (to x.number) ]

                go : (b d : Bool) → P (cond b charge.Nobody (cond d (charged_of c n r.pools.shadow.fresh t.0 (word_of a)) charge.Nobody))
                go true d = nobody
                go false true = found_by_lem
                go false false = nobody

            whole_touches : (translated_of r n true a).result.sets ≡ sets → Touches r n k (e + one (watched t.0 (longer s.book.held))) t.0 a w v (leftOn n (chargeOn n))
            unfolding store_charged_of head_held head_tables
            whole_touches p = charges (λ g. Touches r n k (e + one (watched t.0 (longer s.book.held))) t.0 a w v (leftOn n g)) nobody to
              where
                d : Undamaged
                d = undamaged

                outside_of : SameOutside c.hosts c.shadows n d.memory
                outside_of = subst (λ (o : After Put). SameOutside c.hosts c.shadows n o.memory) d.done (outside n)

                nobody : Touches r n k (e + one (watched t.0 (longer s.book.held))) t.0 a w v (writtenOn (dropsOn n))
                nobody = subst (λ o. Touches r n k (e + one (watched t.0 (longer s.book.held))) t.0 a w v (writtenOn o)) (sym d.done) (finishes n d.memory outside_of p _ _)

                to : (q : ℕ) → Touches r n k (e + one (watched t.0 (longer s.book.held))) t.0 a w v (paidOn q (dropsOn n))
                to q =
                    let u = with_held r (record { pool = d.pool; frame = r.guest.held }) in
                    let x = moves.charged_of u d.memory q in
                    let ok = (charged_moves (frames r m) (named_in c m (frames r m)) (root_of r) (entry_of c (frames r m)) q u d.memory d.tabled).0 in
                    let out = subst (λ (o : After Put). SameOutside c.hosts c.shadows n (moves.charged_of (droppedTo o) o.memory q).memory) d.done (moved_outside n q) in
                    let i = e + one (watched t.0 (longer s.book.held)) in
                    subst (λ o. Touches r n k i t.0 a w v (paidOn q o)) (sym d.done)
                    (subst (λ b. Touches r n k i t.0 a w v (cond b (ended x.result.unit (answer.Done k i) (bytes_in (own true sets x.memory) t.0 a w v)) (refused r 11 x.memory))) (sym ok)
                    (finishes n x.memory out p x.result.unit i))

      pub store_counted : HeldOrPlain c s.machine s.book true a → References (length (counted_of r m true a)) (store_call r m a w v).result.answer
      store_counted h =
          subst (λ (x : After Reply). References (length (counted_of r m true a)) x.result.answer) (sym (store_fits m refl)) (counts true h storeOn said)
        where
          said : (e : ℕ) (x : Walked) (sets : Bool) → Reads (length (counted_of r m true a)) x → References (length (counted_of r m true a)) (storeOn (read.left r true a deep e x sets m)).result.answer
          said e (walked.Arrived y t k) sets q = left_counts t y k e sets m (length (counted_of r m true a)) q (chargeOn t y k e sets m)
          said e (walked.Faulted y k) sets q = q
          said e walked.Damaged sets q = tt

      -- the frame that a granted translation arrives at lies in the guest area
      arrives : ArrivedIn c (translated_of r m true a).result.walked
      unfolding translated_of
      arrives = (translate_leaves c (host_top r) m true (held_of r) ((found.rules s r m inv).shadow.0, (found.rules s r m inv).held) (root_of r) a (request_depth r m a) (omega (arith, (found.rules s r m inv).sizes.deep))).arrived

      -- a store that is granted touches the same bytes of the same word with as many references, or meets 11. On a held path, with bits on, that
      -- is said of a store that sets no bit
      pub words_counted_store : HeldOrPlain c s.machine s.book true a → SetsNone r m true a → (k e : ℕ) → (store_call r m a w v).result.answer ≡ answer.Done k e
          → (n : List ℕ) → length n ≡ length m → SameWords m n (counted_of r m true a) → SameStore r m n a w v k e
      unfolding touched_of
      words_counted_store h clear k e done n long counted = go (width_fits w) (address_ok false c a w) refl refl
        where
          l : Alike r true a deep m n
          l = alike r true a deep m n three at (reaches true h) clear counted

          by : (i : ℕ) (x : Walked) (sets : Bool) → translated_of r m true a ≡ read.left r true a deep i x sets m → translated_of r n true a ≡ read.left r true a deep i x sets n → ArrivedIn c x
              → store_call r m a w v ≡ storeOn (read.left r true a deep i x sets m) → store_call r n a w v ≡ storeOn (read.left r true a deep i x sets n) → SameStore r m n a w v k e
          by i (walked.Faulted y j) sets p q there f g =
              let z : answer.Faulted y j i ≡ answer.Done k e = sym (ap (λ (x : After Reply). x.result.answer) f) ∙ done in
              let x : ◌≡◌ {A = ℕ} 0 1 = cc in absurd (omega arith)
          by i walked.Damaged sets p q there f g =
              let z : answer.Refused 11 ≡ answer.Done k e = sym (ap (λ (x : After Reply). x.result.answer) f) ∙ done in
              let x : ◌≡◌ {A = ℕ} 0 1 = cc in absurd (omega arith)
          by i (walked.Arrived y t j) sets p q there f g =
              let z : answer.Done j exits ≡ answer.Done k e = sym here.says ∙ sym (ap (λ (x : After Reply). x.result.answer) f) ∙ done in
              let x : j ≡ k = cc in
              let u : exits ≡ e = cc in
              subst (λ l. SameStore r m n a w v l e) x (subst (SameStore r m n a w v j) u (record {
                frame = t.0;
                touched = ap (λ (u : After Translated). touched_by a u.result.walked) p;
                own = same_own true n l;
                before = subst (Touches r m j exits t.0 a w v) (sym f) here;
                altered = subst (λ u. ((y : ℕ) × Touches r n j y t.0 a w v u) ⊎ Refuses r n u) (sym g) (either t y j i sets there n now (chargeOn t y j i sets n));
                only = λ tables. subst (Touches r n j exits t.0 a w v) (sym g) (whole_touches t y j i sets there n long tables now);
              }))
            where
              exits : ℕ
              exits = i + one (watched t.0 (longer s.book.held))

              now : (translated_of r n true a).result.sets ≡ sets
              now = ap (λ (u : After Translated). u.result.sets) q

              here : Touches r m j (i + one (watched t.0 (longer s.book.held))) t.0 a w v (leftOn t y j i sets m (chargeOn t y j i sets m))
              here = whole_touches t y j i sets there m refl (λ f l i q. refl) (ap (λ (u : After Translated). u.result.sets) p)

          fits : (d b : Bool) → width_fits w ≡ d → address_ok false c a w ≡ b → (x : List ℕ) → length x ≡ length m → store_call r x a w v ≡ admitted d b r x (storeOn (translated_of r x true a))
          fits d b p q x l = store_fits x l ∙ ap₂ (λ d b. admitted d b r x (storeOn (translated_of r x true a))) p q

          refusal : (i : ℕ) → store_call r m a w v ≡ refused r i m → SameStore r m n a w v k e
          refusal i f =
              let z : answer.Refused i ≡ answer.Done k e = sym (ap (λ (x : After Reply). x.result.answer) f) ∙ done in
              let x : ◌≡◌ {A = ℕ} 0 1 = cc in absurd (omega arith)

          go : (d b : Bool) → width_fits w ≡ d → address_ok false c a w ≡ b → SameStore r m n a w v k e
          go false b p q = refusal 15 (fits false b p q m refl)
          go true false p q = refusal 4 (fits true false p q m refl)
          go true true p q =
              by l.exits l.walked l.sets l.before l.altered (subst (λ (o : After Translated). ArrivedIn c o.result.walked) l.before arrives)
              (fits true true p q m refl ∙ ap storeOn l.before)
              (fits true true p q n long ∙ ap storeOn l.altered)

-- a load through any held path
pub held_load : (c : Config) (m : Machine) (b : Book) (a : ℕ) (h : Held) → find (upper c (count.request_depth c m b a) (address_indexes c a)) b.held ≡ some h → HeldOrPlain c m b false a
unfolding HeldOrPlain
held_load c m b a h e = inl (subst (λ o. T (serves false (count.request_depth c m b a) o)) (sym e) (go (count.request_depth c m b a)))
  where
    go : (d : ℕ) → T (serves false d (some h))
    go zero = tt
    go (suc d) = tt

-- ---- after any run: a granted opening, on any memory, with its choice of bits and the automatic one, and any list of calls
module _ (m : List ℕ) (h s : ℕ) (bits on : Bool) (xs : List Call) (granted : refusal_of (length m) h s bits ≡ 0) where
  -- machine and book after it, and the configuration
  abbrev pub state : State
  state = after xs (opened (config_by (length m) h s bits) on m)

  abbrev pub book : Book
  book = state.book

  abbrev pub config : Config
  config = state.config

  -- the unit's record and memory after it
  abbrev pub ran : After Reply
  ran = run_of m h s bits on xs

  abbrev pub unit : Record
  unit = ran.result.unit

  abbrev pub memory : List ℕ
  memory = ran.memory

  abbrev stands : Inv state unit memory
  stands = (after_run m h s bits on xs granted).1

  here : (st : Bool) (a : ℕ) → HeldOrPlain config state.machine book st a → HeldOrPlain (config_of unit) state.machine book st a
  here st a k = subst (λ c. HeldOrPlain c state.machine book st a) (after_run m h s bits on xs granted).0 k

  -- the premise `SetsNone` below lets off only a request whose plain walk on the machine is granted and reads an entry that lacks a bit
  pub run_sets_none : (st : Bool) (a : ℕ) → HeldOrPlain config state.machine book st a
      → ((p : Place) → (call.plain config state.machine st a).result ≡ result.granted p → lacks (world config state.machine) st (call.plain config state.machine st a).reads ≡ false)
      → SetsNone unit memory st a
  run_sets_none st a k has =
      let e = (after_run m h s bits on xs granted).0 in
      sets_none state unit memory stands a (after_run m h s bits on xs granted).2.0 st
      (subst (λ c. (p : Place) → (call.plain c state.machine st a).result ≡ result.granted p → lacks (world c state.machine) st (call.plain c state.machine st a).reads ≡ false) e has)
      (here st a k)

  -- a load whose path is held, or at depth N + 1: any words of the memory but those that it counts and the one around the bytes that it loads may be
  -- altered, and its value or fault, its references and its exits are the same. With bits on, a load on a held path is let off if it sets a
  -- bit or meets W for one
  pub run_counted_load : (a w : ℕ) → HeldOrPlain config state.machine book false a → SetsNone unit memory false a
      → (n : List ℕ) → length n ≡ length memory → SameWords memory n (counted_of unit memory false a) → SameWords memory n (touched_of unit memory false a)
      → SameLoad unit memory n a w
  run_counted_load a w k = words_counted_load state unit memory stands a w (here false a k)

  -- a store that is granted through a held path or at depth N + 1: after such a change it stores to the same bytes, or is refused
  -- with 11, which happens only if a host or shadow word was altered. With bits on, a store on a held path is let off if it sets a bit; one
  -- that the path forbids refills it, and is none of these
  pub run_counted_store : (a w v k e : ℕ) → HeldOrPlain config state.machine book true a → SetsNone unit memory true a → (store_call unit memory a w v).result.answer ≡ answer.Done k e
      → (n : List ℕ) → length n ≡ length memory → SameWords memory n (counted_of unit memory true a) → SameStore unit memory n a w v k e
  run_counted_store a w v k e q clear = words_counted_store state unit memory stands a w v (here true a q) clear k e

  -- those words are as many as the references of the answer, of requests that set bits too
  pub run_counted_words : (a w : ℕ) → (HeldOrPlain config state.machine book false a → References (length (counted_of unit memory false a)) (load_call unit memory a w).result.answer)
      × ((v : ℕ) → HeldOrPlain config state.machine book true a → References (length (counted_of unit memory true a)) (store_call unit memory a w v).result.answer)
  run_counted_words a w =
      (λ k. load_counted state unit memory stands a w (here false a k), λ v k. store_counted state unit memory stands a w v (here true a k))
