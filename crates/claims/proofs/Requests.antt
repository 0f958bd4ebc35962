-- Loads, stores and device stores follow the specification's step.
-- Assumes nothing.
use mathlib.Core.Path.{◌≡◌, refl, sym, ap, ap₂, ◌∙◌, subst}
use Prim.Native.Nat.{ℕ, ◌+◌, ◌-◌, ◌*◌, ◌^◌, ◌<◌}
use native.Mathlib.Omega.{arith}
use native.Mathlib.Nat.{zero-add, add_comm}
use mathlib.Core.Logic.{◌⊎◌, inl, inr}
use mathlib.Core.Bool.{Bool, true, false, not, ◌&&◌, cond}
use mathlib.Core.List.{List, [], ◌∷◌}
use mathlib.Core.Option.{Option, none, some}
use lib.Dec.{T, eqb, ltb, ltb→lt}
use lib.ListN.{length}
use borrow.Author.Tests.{ltb-false, ne_eqb}
use lib.Pow.{shr_lt}
use Rattle.spec.specs.declared.Fault.{Fault}
use Rattle.spec.specs.declared.Fault.TheVariants.{HostReadOnly}
use Rattle.spec.specs.declared.Answer.{Answer}
use Rattle.spec.specs.declared.Answer.TheVariants as answer
use Rattle.spec.specs.Answer as say
use Rattle.spec.specs.Answer.{Line, line, fault_line}
use Rattle.spec.specs.Config.{Config, frame_bits}
use Rattle.spec.specs.Entry.{word_of, page_of, indexes}
use Rattle.spec.specs.Walk.{Walk, Trace, Result, granted, failed, trace, ◌>>◌}
use Rattle.spec.specs.Plain.{Place, is_span, must, hosted, next}
use Rattle.spec.specs.Machine.{Machine, world, word_in, stored}
use Rattle.spec.specs.Prefix.{All}
use Rattle.spec.specs.Book.{Held, Book, holding, drop_word, reads_word, watched}
use Rattle.spec.specs.Choice.{first_of, lower, reads_leaf, leaf_prefixes, charge_of, charged, entered, observed}
use Rattle.spec.specs.Bits.{set_bits, bits_set}
use Rattle.spec.specs.Call.{Call, load, store, device, plain, verdict, device_walk, access, asked, machine_step}
use Rattle.spec.specs.Count.{Counted, one, host_exit, is_granted, request_depth, request, storing, unshadowed, book_step}
use Rattle.spec.specs.Bytes.{width_fits, aligned, bytes_at, with_bytes}
use Rattle.spec.specs.Refusal.{first_failed, device_fits, tests, refusal}
use Rattle.spec.specs.Run.{State, line_of, answered, step}
use Rattle.spec_laws.proofs.Lists.{and_left, all_map, all_any, all_both, all_keep, all_kept}
use Rattle.spec_laws.proofs.Keeps.{Valid, plain_in, InGuestArea, area_real}
use Rattle.spec_laws.proofs.Charges.{IfSome, quiet_charge}
use Rattle.spec_laws.proofs.Choice.{keep_keep, observed_held}
use Rattle.spec_laws.proofs.Rules.{BookRules, SmallPath, ChargeRules, charge_rules, held_book, observed_book, request_rules}
use Rattle.spec_laws.proofs.Counts.{verdict_granted}
use Rattle.spec_laws.proofs.SetBits.{set_on}
use Rattle.spec_laws.proofs.Covered.{Covered}
use Rattle.spec_laws.proofs.Asks.{asks_trace, AnswerIn, FaultFits, Guest, asks_bind, hosted_asks}
use Rattle.words.specs.Words as words
use Rattle.words.specs.Words.{set_in}
use Rattle.entry.proofs.Entries.{word_fits}
use Rattle.layout.specs.Layout.{page}
use Rattle.walk.specs.Memory.{walked_of}
use Rattle.walk.proofs.Stands.{Stands, plain_walked, same_word, stands_walked}
use Rattle.pool.specs.declared.Pool.{Pool}
use Rattle.entry.specs.declared.HostPhysical.{HostPhysical}
use Rattle.marks.specs.declared.Marks.{Marks}
use Rattle.choice.specs.declared.Choice.{Choice}
use Rattle.choice.specs.Window.{requested_of}
use Rattle.choice.proofs.Chosen.{Chosen, chosen_requested}
use Rattle.charge.specs.declared.Charge.{Charge}
use Rattle.charge.specs.declared.Charge.TheVariants.{Nobody, To}
use Rattle.charge.specs.Charge as charge
use Rattle.shadow.specs.Watch.{watched_of}
use Rattle.drops_laws.proofs.Watch.{watched_is}
use Rattle.drops_laws.proofs.Charge.{ChargedTo, ChargeIs, charge_is}
use Rattle.drops_laws.proofs.Valid.{stays_store}
use Rattle.record.specs.declared.Record.{Record}
use Rattle.record.specs.Record.{config_of, head_of, head_tally, with_head, fits_of}
use Rattle.record.proofs.Rules.{fits_true}
use Rattle.translate.specs.Translate.{translation, exit_by}
use Rattle.request.proofs.Device.{device_script, device_walk_lem}
use Rattle.record.specs.Record.{head_tables}
use Rattle.accessed.specs.Entries.{bits_in}
use Rattle.translate.specs.declared.Held.{Held as Holding}
use Rattle.request.specs.Access.{bits_of, settled_of, bytes_in, load_by, load_from, load_of, dropped_of, written_by, device_by, device_of}
use Rattle.calls.specs.Calls.{host_top, held_of, head_held, head_window, ended, refused, judged, admitted, placed, with_held, windowed_by, served_by, address_ok, translated_of, charged_in, charge_at, finished_by, paid_by, store_charged_of, store_by, stored_by, load_call, store_call, device_call}
use Rattle.claims.proofs.Chosen.{chosen_fits_lem}
use Rattle.claims.proofs.Invariant.{longer, Inv, Follows, at}
use Rattle.claims.proofs.Paths.{exit_is}
use Rattle.claims.proofs.Found as found
use Rattle.claims.proofs.Moves.{at_inv, inv_fits, fits_chosen}
use Rattle.claims.proofs.Translates.{came_to, Translates, translates}
use Rattle.claims.proofs.Bits as bits
use Rattle.claims.proofs.Bits.{bits_are}
use Rattle.claims.proofs.Puts.{word_next, bits_next, Drops, drops, unread_next}
use Rattle.claims.proofs.Appoints.{changed, charge_moves}
use Rattle.words.specs.After.{After, yields}
use Rattle.translate.specs.declared.Translated.{Translated}
use Rattle.calls.specs.declared.Reply.{Reply}

-- a call that says l and leaves the record q, the memory n and the state t
pub follows_by : (x : Call) (s t : State) (r q : Record) (a : Answer) (l : Line) (n : List ℕ) → step x (at (config_of r) s) ≡ (l, t) → config_of q ≡ t.config → line a ≡ l
    → Inv t q n → Follows x s r (ended q a n)
follows_by x s t r q a l n e k i v =
    record { config = k ∙ sym (ap (λ y. y.1.config) e); says = i ∙ sym (ap (λ y. y.0) e); next = subst (λ y. Inv y q n) (sym (ap (λ y. y.1) e)) v }

-- a call that meets the invariant is not refused with 3
pub judged_by_lem : (x : Call) (s : State) (r : Record) (m : List ℕ) (e : After Reply) → Inv s r m → Follows x s r e → Follows x s r (judged r m e)
judged_by_lem x s r m e inv f = subst (λ b. Follows x s r (cond b e (refused r 3 m))) (sym inv.fits) f

-- ---- the window

-- a request that is charged to nobody goes into the window, of the book and of the record
pub window_next : (t : State) (q : Record) (n : List ℕ) → Inv t q n → BookRules (config_of q) t.book
    → Inv (record { config = config_of q; machine = t.machine; book = observed (config_of q) none t.book }) (with_head q (head_tally (head_of q) (requested_of q.guest.choice.tally))) n
unfolding observed head_tally
window_next t q n i rules = go t.book.choice chosen
  where
    c : Config
    c = config_of q

    next : Record
    next = with_head q (head_tally (head_of q) (requested_of q.guest.choice.tally))

    chosen : Chosen (config_of q) next.guest.choice next.guest.marks (observed (config_of q) none t.book)
    chosen = chosen_requested (config_of q) q.guest.choice q.guest.marks t.book i.chosen

    fits : fits_of next (length n) ≡ true
    fits = fits_true next (length n) i.sorted.word (fits_chosen (inv_fits i) (requested_of q.guest.choice.tally)
        (chosen_fits_lem (config_of q) next.guest.choice next.guest.marks (observed (config_of q) none t.book) chosen (observed_book (config_of q) none t.book tt rules).off))

    go : (x : Bool) → Chosen (config_of q) next.guest.choice next.guest.marks (cond x (entered none t.book) t.book)
        → Inv (record { config = config_of q; machine = t.machine; book = cond x (entered none t.book) t.book }) next n
    go true k = record {
      fits = fits;
      sorted = i.sorted;
      root = i.root;
      maps = i.maps;
      area = i.area;
      book = record { marks = i.book.marks; held = i.book.held };
      valid = i.valid;
      marks = i.marks;
      chosen = k;
      shadow = i.shadow;
      top = i.top;
    }
    go false k = record { fits = fits; sorted = i.sorted; root = i.root; maps = i.maps; area = i.area; book = i.book; valid = i.valid; marks = i.marks; chosen = k; shadow = i.shadow; top = i.top }

-- a record with other paths held, and a request more in its window
abbrev pub windowed_with : Record → Holding → Record
windowed_with r h = with_head r (head_window (head_of r) h (requested_of r.guest.choice.tally))

pub window_held : (t : State) (r : Record) (h : Holding) (n : List ℕ) → Inv t (with_held r h) n → BookRules (config_of r) t.book
    → Inv (record { config = config_of r; machine = t.machine; book = observed (config_of r) none t.book }) (windowed_with r h) n
unfolding head_held head_tables
window_held t r h n i rules = window_next t (with_held r h) n i rules

-- with the choice off a request leaves the book alone
observed_off : (c : Config) (x : Option (List ℕ)) (b : Book) → b.choice ≡ false → observed c x b ≡ b
unfolding observed
observed_off c x b e = ap (λ y. cond y (charged c x (entered x b)) b) e

-- ---- what a store is charged to

-- the path of no index has no level 1 word
charge_longer : (c : Config) (i : ℕ) (p : Place) (hs : List Held) → 0 < c.levels → charge_of c i (granted p) (longer hs) ≡ charge_of c i (granted p) hs
unfolding charge_of
charge_longer c i p hs l =
    ap (λ ks. first_of lower (leaf_prefixes c ks)) (keep_keep (reads_leaf c p.0 i) (λ (h : Held). ltb 0 (length h.path)) (reads_leaf c p.0 i) hs (all_any _ hs one))
  where
    one : (h : Held) → (ltb 0 (length h.path) && reads_leaf c p.0 i h) ≡ reads_leaf c p.0 i h
    one h = go (ltb 0 (length h.path)) refl
      where
        go : (b : Bool) → ltb 0 (length h.path) ≡ b → (b && reads_leaf c p.0 i h) ≡ reads_leaf c p.0 i h
        go true e = refl
        go false e = let z = ltb-false 0 (length h.path) e in sym (rw (ne_eqb (length h.path) c.levels (λ q. omega (arith, q, l))) refl)

-- the unit says nobody, and the book goes on as if nobody were charged; or both say the same prefix, and the choice is on. b: the book after the drops
abbrev Agrees : Config → Charge → Option (List ℕ) → Book → Type 0
Agrees c x o b = ((x ≡ Nobody) × (observed c o b ≡ observed c none b)) ⊎ ((b.choice ≡ true) × ChargedTo (c.levels - 1) x o)

-- no damage is met
charge_agrees : (s : State) (r : Record) (m : List ℕ) → Inv s r m → (i : ℕ) (p : Place) → i < 512 → is_span (config_of r) p.0 ≡ false → (b : Book) → b.choice ≡ s.book.choice
    → Agrees (config_of r) (charge_at r (held_of r) m p.0 i) (charge_of (config_of r) i (granted p) s.book.held) b
unfolding charge_at charged_in
charge_agrees s r m inv i p word real b e = go s.book.choice refl
  where
    c : Config
    c = config_of r

    o : Option (List ℕ)
    o = charge_of (config_of r) i (granted p) s.book.held

    by : ℕ → Charge
    by n = cond (eqb n 0) Nobody (charged_in (config_of r) (held_of r) m p.0 i)

    same : charge_of (config_of r) i (granted p) (longer s.book.held) ≡ charge_of (config_of r) i (granted p) s.book.held
    same = charge_longer (config_of r) i p s.book.held (omega (arith, (found.rules s r m inv).sizes.deep))

    charged-by : ChargeIs ((config_of r).levels - 1) (charge.charged_of (config_of r) m r.pools.shadow.fresh p.0 i) (charge_of (config_of r) i (granted p) (longer s.book.held))
    charged-by = charge_is inv.shadow (found.held_entries s r m inv) p.0 i real word p.1

    seen : s.book.choice ≡ true → (x : Charge) → ChargeIs ((config_of r).levels - 1) x o → Agrees (config_of r) x o b
    seen on x (inl k) = inl (k.0, ap (λ y. observed (config_of r) y b) k.1)
    seen on x (inr k) = inr (e ∙ on, k)

    watches : s.book.choice ≡ true → (y : Bool) → watched_of (config_of r) m r.pools.shadow.fresh p.0 ≡ y
        → Agrees (config_of r) (cond y (charge.charged_of (config_of r) m r.pools.shadow.fresh p.0 i) Nobody) o b
    watches on true q = seen on _ (subst (ChargeIs ((config_of r).levels - 1) (charge.charged_of (config_of r) m r.pools.shadow.fresh p.0 i)) same charged-by)
    watches on false q =
        let quiet : watched p.0 (longer s.book.held) ≡ false = sym (watched_is inv.shadow (found.held_entries s r m inv) p.0 real) ∙ q in
        inl (refl, ap (λ y. observed (config_of r) y b) (sym same ∙ quiet_charge (config_of r) i p (longer s.book.held) (subst (λ y. T (not y)) (sym quiet) tt)))

    go : (y : Bool) → s.book.choice ≡ y → Agrees (config_of r) (by r.guest.choice.tally.on) o b
    go true q =
        subst (λ n. Agrees (config_of r) (by n) o b) (sym (inv.chosen.on ∙ ap (λ y. cond y 1 0) q))
        (watches q (watched_of (config_of r) m r.pools.shadow.fresh p.0) refl)
    go false q =
        subst (λ n. Agrees (config_of r) (by n) o b) (sym (inv.chosen.on ∙ ap (λ y. cond y 1 0) q))
        (inl (refl, observed_off (config_of r) o b (e ∙ q) ∙ sym (observed_off (config_of r) none b (e ∙ q))))

-- a word that no held path read is stored to
pub silent_next : (s : State) (r : Record) (m : List ℕ) (t i v : ℕ) → i < 512 → InGuestArea (config_of r) t → All (λ h. T (not (reads_word t i h))) s.book.held → Inv s r m
    → Inv (record { config = config_of r; machine = stored (config_of r) s.machine t i v; book = s.book }) r (set_in m t i v)
silent_next s r m t i v word there silent inv =
    word_next s r m inv t i v word there
    (all_map (λ h. Valid (config_of r) s.machine h × T (not (reads_word t i h))) _ s.book.held
    (λ h k. stays_store (config_of r) s.machine t i v h (found.memory_stands s r m inv).inside (found.root_small s r m inv) there.0 word k.0 k.1)
    (all_both (Valid (config_of r) s.machine) (λ h. T (not (reads_word t i h))) s.book.held inv.valid silent))

-- after the drops of a word no held path reads it
dropped_silent : (t i : ℕ) (hs : List Held) → All (λ h. T (not (reads_word t i h))) (drop_word t i hs)
dropped_silent t i hs =
    all_map (λ h. Unit {0} × T (not (reads_word t i h))) _ (drop_word t i hs) (λ h k. k.1)
    (all_keep (λ h. Unit {0}) (λ h. not (reads_word t i h)) hs (all_any (λ h. Unit {0}) hs (λ h. tt)))

module _ (s : State) (r : Record) (m : List ℕ) (inv : Inv s r m) (covered : All (Covered (config_of r) s.machine) s.book.held) (rules : BookRules (config_of r) s.book) where
  abbrev c : Config
  c = config_of r

  abbrev mach : Machine
  mach = s.machine

  abbrev ht : ℕ
  ht = host_top r

  -- a call that is refused with n
  turned : (n : ℕ) (x : Call) → refusal c x mach s.book ≡ some n → Follows x s r (refused r n m)
  unfolding step
  turned n x e = follows_by x s (at c s) r r (answer.Refused n) (say.no n) m (ap (answered x (at c s)) e) refl refl (at_inv inv)

  -- a request of w bytes: 3, 15 and 4; ok: its address is that of so many bytes
  pub placed_by : (x : Call) (w : ℕ) (ok : Bool) (y : After Reply) → refusal c x mach s.book ≡ first_failed ((width_fits w, 15) ∷ (ok, 4) ∷ [])
      → (width_fits w ≡ true → ok ≡ true → Follows x s r y) → Follows x s r (placed r m w ok y)
  placed_by x w ok y e f = judged_by_lem x s r m _ inv (go (width_fits w) ok refl refl)
    where
      go : (d b : Bool) → width_fits w ≡ d → ok ≡ b → Follows x s r (admitted d b r m y)
      go true true p q = f p q
      go true false p q = turned 4 x (e ∙ ap₂ (λ d b. first_failed ((d, 15) ∷ (b, 4) ∷ [])) p q)
      go false b p q = turned 15 x (e ∙ ap (λ d. first_failed ((d, 15) ∷ (ok, 4) ∷ [])) p)

  -- the page of a granted walk is in the guest area
  pub page_in : (st : Bool) (a : ℕ) (p : Place) → (plain c mach st a).result ≡ granted p → InGuestArea c p.0
  page_in st a p e = plain_in c mach st a p (found.memory_stands s r m inv).inside (found.root_small s r m inv) e

  -- ---- the bits of a granted request
  module _ (st : Bool) (a : ℕ) (p : Place) (grant : verdict c mach st a ≡ granted p) where
    walk_grant : (plain c mach st a).result ≡ granted p
    walk_grant = verdict_granted c mach st a p grant

    -- the machine that has them
    abbrev pub bitted : Machine
    bitted = bits_set c st mach (plain c mach st a)

    -- over any memory that stands for the machine, with any marks and paths held, they are set as the machine's
    pub settled : (t : Marks) (x : Choice) (pool : Pool) (f : HostPhysical) (sets : Bool) → (sets ≡ false → bitted ≡ mach) → (sets ≡ true → c.bits ≡ true) → (b : Book) (n : List ℕ)
        → Inv (record { config = c; machine = mach; book = b }) (changed r t x pool f) n
        → Inv (record { config = c; machine = bitted; book = b }) (changed r t x pool f) (settled_of c ht r.guest.root.0 st a sets n)
    unfolding settled_of
    settled t x pool f false own chosen b n i = subst (λ y. Inv (record { config = c; machine = y; book = b }) (changed r t x pool f) n) (sym (own refl)) i
    settled t x pool f true own chosen b n i = subst (λ y. Inv (record { config = c; machine = y; book = b }) (changed r t x pool f) (bits_of c ht n r.guest.root.0 st a)) on_bits
        (subst (Inv (record { config = c; machine = set_bits c st mach (plain c mach st a).reads; book = b }) (changed r t x pool f)) (sym set_is)
        (bits_next (plain c mach st a).reads st (record { config = c; machine = mach; book = b }) (changed r t x pool f) n i reads_in))
      where
        here : Stands c mach ht n
        here = found.memory_stands (record { config = c; machine = mach; book = b }) (changed r t x pool f) n i

        small : mach.root < 2 ^ frame_bits c
        small = found.root_small s r m inv

        reads_in : All (λ x. InGuestArea c x.0 × (x.1 < 512)) (plain c mach st a).reads
        reads_in = bits.whole_reads c mach ht n here small st a

        on_bits : set_bits c st mach (plain c mach st a).reads ≡ bitted
        on_bits = set_on c st mach (plain c mach st a) (chosen refl)

        set_is : bits_of c ht n r.guest.root.0 st a ≡ bits_in st n (plain c mach st a).reads
        set_is =
            ap (λ x. bits_of c ht n x st a) inv.root ∙ bits_are c mach ht n here small st a p walk_grant

    pub settles : (sets : Bool) → (sets ≡ false → bitted ≡ mach) → (sets ≡ true → c.bits ≡ true) → (b : Book) (h : Holding) (n : List ℕ)
        → Inv (record { config = c; machine = mach; book = b }) (with_held r h) n
        → Inv (record { config = c; machine = bitted; book = b }) (with_held r h) (settled_of c ht r.guest.root.0 st a sets n)
    unfolding head_held head_tables
    settles sets own chosen b h n i = settled r.guest.marks r.guest.choice h.pool h.frame sets own chosen b n i

    -- the word that it comes to
    pub word_bitted : (t : Marks) (x : Choice) (pool : Pool) (f : HostPhysical) (b : Book) (n : List ℕ) → Inv (record { config = c; machine = bitted; book = b }) (changed r t x pool f) n
        → words.word_in n p.0 (word_of a) ≡ word_in c bitted p.0 (word_of a)
    word_bitted t x pool f b n i =
        same_word c bitted ht n (found.memory_stands (record { config = c; machine = bitted; book = b }) (changed r t x pool f) n i) p.0 (word_of a) (page_in st a p walk_grant)

    pub same_bitted : (b : Book) (h : Holding) (n : List ℕ) → Inv (record { config = c; machine = bitted; book = b }) (with_held r h) n
        → words.word_in n p.0 (word_of a) ≡ word_in c bitted p.0 (word_of a)
    unfolding head_held head_tables
    same_bitted b h n i = word_bitted r.guest.marks r.guest.choice h.pool h.frame b n i

  -- ---- load
  module _ (a w : ℕ) where
    abbrev costs : Bool → Counted
    costs st = request c mach s.book st a (request_depth c mach s.book a)

    pub load_step : width_fits w ≡ true → address_ok false c a w ≡ true
        → let o = asked c mach false a w none in
        step (load a w) (at c s) ≡ (line_of o.0 (costs false).references (costs false).exits, record { config = c; machine = o.1; book = observed c none (costs false).book })
    unfolding step refusal tests machine_step book_step
    load_step wide ok = ap₂ (λ d b. answered (load a w) (at c s) (first_failed ((d, 15) ∷ (b, 4) ∷ []))) wide ok

    -- what the request leaves in the book keeps the rules
    costs_rules : (st : Bool) → BookRules c (costs st).book
    costs_rules st = request_rules c mach s.book st a (request_depth c mach s.book a) rules

    loaded : width_fits w ≡ true → address_ok false c a w ≡ true → Follows (load a w) s r (windowed_by r (load_from c ht r.guest.root.0 (held_of r) a w (translated_of r m false a)))
    unfolding access head_held head_tables head_tally
    loaded wide ok = subst (Follows (load a w) s r) (sym (ap (λ (o : After Translated). windowed_by r (load_from c ht r.guest.root.0 (held_of r) a w o)) t.done)) (by (verdict c mach false a) refl)
      where
        k : Counted
        k = costs false

        t : Translates s r m false a (costs false) (translated_of r m false a)
        t = translates s r m inv covered false a

        set : List ℕ → List ℕ
        set = settled_of c ht r.guest.root.0 false a t.sets

        left : Result Fault Place → After Translated
        left y = yields (translation t.held k.exits (came_to t.right y k.references) t.sets) t.memory

        stepped : (y : Result Fault Place) → verdict c mach false a ≡ y
            → step (load a w) (at c s)
            ≡ (line_of (access c mach (bits_set c false mach (plain c mach false a)) a w none y).0 k.references k.exits, record { config = c; machine = (access c mach (bits_set c false mach (plain c mach false a)) a w none y).1; book = observed c none k.book })
        stepped y q = load_step wide ok ∙ ap (λ z. (line_of (access c mach (bits_set c false mach (plain c mach false a)) a w none z).0 k.references k.exits, record { config = c; machine = (access c mach (bits_set c false mach (plain c mach false a)) a w none z).1; book = observed c none k.book })) q

        at_by : (y : Result Fault Place) → verdict c mach false a ≡ y → Follows (load a w) s r (windowed_by r (load_by (held_of r) a w set (left y) (came_to t.right y k.references)))
        at_by (failed y) q =
            follows_by (load a w) s (record { config = c; machine = mach; book = observed c none k.book }) r (windowed_with r t.held) (answer.Faulted y k.references k.exits) (fault_line y k.references k.exits) t.memory
            (stepped (failed y) q) refl refl (window_held (record { config = c; machine = mach; book = k.book }) r t.held t.memory t.next (costs_rules false))
        at_by (granted p) q =
            let i = settles false a p q t.sets (λ z. t.own z (ap (λ (y : Result Fault Place). is_granted y) q)) t.chosen k.book t.held t.memory t.next in
            follows_by (load a w) s (record { config = c; machine = bitted false a p q; book = observed c none k.book }) r (windowed_with r t.held) (answer.Value (bytes_at a w (words.word_in (set t.memory) p.0 (word_of a))) k.references k.exits)
            (say.value (bytes_at a w (word_in c (bitted false a p q) p.0 (word_of a))) k.references k.exits) (set t.memory)
            (stepped (granted p) q) refl (ap (λ e. say.value (bytes_at a w e) k.references k.exits) (same_bitted false a p q k.book t.held (set t.memory) i))
            (window_held (record { config = c; machine = bitted false a p q; book = k.book }) r t.held (set t.memory) i (costs_rules false))

        by : (y : Result Fault Place) → verdict c mach false a ≡ y → Follows (load a w) s r (windowed_by r (load_from c ht r.guest.root.0 (held_of r) a w (left (verdict c mach false a))))
        by y q = subst (λ z. Follows (load a w) s r (windowed_by r (load_from c ht r.guest.root.0 (held_of r) a w (left z)))) (sym q) (at_by y q)

    pub load_follows : Follows (load a w) s r (load_call r m a w)
    unfolding load_call load_of translated_of refusal tests
    load_follows = placed_by (load a w) w (address_ok false c a w) _ refl (λ wide ok. loaded wide ok)

    -- ---- store
    module _ (v : ℕ) where
      -- the book and the machine after a granted store
      pub store_step : width_fits w ≡ true → address_ok false c a w ≡ true
          → let o = asked c mach true a w (some v) in
          let k = storing (word_of a) (verdict c mach true a) (costs true) in
          let x = charge_of c (word_of a) (verdict c mach true a) (costs true).book.held in
          step (store a w v) (at c s) ≡ (line_of o.0 k.references k.exits, record { config = c; machine = o.1; book = observed c x k.book })
      unfolding step refusal tests machine_step book_step
      store_step wide ok = ap₂ (λ d b. answered (store a w v) (at c s) (first_failed ((d, 15) ∷ (b, 4) ∷ []))) wide ok

      stored_is : width_fits w ≡ true → address_ok false c a w ≡ true → Follows (store a w v) s r (stored_by r a w v (translated_of r m true a) (translated_of r m true a).result.walked)
      unfolding access head_held head_tables head_tally storing store_charged_of charge_at charge_of
      stored_is wide ok = subst (Follows (store a w v) s r) (sym (ap (λ (o : After Translated). stored_by r a w v o o.result.walked) t.done)) (by (verdict c mach true a) refl)
        where
          k : Counted
          k = costs true

          t : Translates s r m true a (costs true) (translated_of r m true a)
          t = translates s r m inv covered true a

          set : List ℕ → List ℕ
          set = settled_of c ht r.guest.root.0 true a t.sets

          left : Result Fault Place → After Translated
          left y = yields (translation t.held k.exits (came_to t.right y k.references) t.sets) t.memory

          charge_by_lem : Result Fault Place → Option (List ℕ)
          charge_by_lem z = charge_of c (word_of a) z k.book.held

          stored_on : Result Fault Place → Line × State
          stored_on z = (
            line_of (access c mach (bits_set c true mach (plain c mach true a)) a w (some v) z).0 (storing (word_of a) z (costs true)).references (storing (word_of a) z (costs true)).exits,
            record {
              config = c;
              machine = (access c mach (bits_set c true mach (plain c mach true a)) a w (some v) z).1;
              book = observed c (charge_by_lem z) (storing (word_of a) z (costs true)).book;
            },
          )

          stepped : (y : Result Fault Place) → verdict c mach true a ≡ y → step (store a w v) (at c s) ≡ stored_on y
          stepped y q = store_step wide ok ∙ ap stored_on q

          at_by : (y : Result Fault Place) → verdict c mach true a ≡ y → Follows (store a w v) s r (stored_by r a w v (left y) (came_to t.right y k.references))
          at_by (failed y) q =
              follows_by (store a w v) s (record { config = c; machine = mach; book = observed c none k.book }) r (windowed_with r t.held) (answer.Faulted y k.references k.exits) (fault_line y k.references k.exits) t.memory
              (stepped (failed y) q) refl refl (window_held (record { config = c; machine = mach; book = k.book }) r t.held t.memory t.next (costs_rules true))
          at_by (granted p) q =
              to_by (charge_at r t.held t.memory p.0 (word_of a))
              (charge_agrees (record { config = c; machine = mach; book = k.book }) (with_held r t.held) t.memory t.next (word_of a) p (word_fits a) (area_real c p.0 there) kept refl)
            where
              there : InGuestArea c p.0
              there = page_in true a p (verdict_granted c mach true a p q)

              u : Drops (record { config = c; machine = mach; book = k.book }) (with_held r t.held) p.0 (word_of a) (dropped_of c t.memory t.held.pool p.0 (word_of a))
              u = drops (record { config = c; machine = mach; book = k.book }) (with_held r t.held) t.memory t.next p.0 (word_of a) (word_fits a) (area_real c p.0 there)

              h : Holding
              h = record { pool = u.pool; frame = t.held.frame }

              kept : Book
              kept = holding k.book (drop_word p.0 (word_of a) k.book.held)

              kept_rules : BookRules c (holding k.book (drop_word p.0 (word_of a) k.book.held))
              kept_rules = held_book c k.book _ (all_kept SmallPath (λ y. not (reads_word p.0 (word_of a) y)) k.book.held (costs_rules true).paths) (costs_rules true)

              own : t.sets ≡ false → bitted true a p q ≡ mach
              own z = t.own z (ap (λ (y : Result Fault Place). is_granted y) q)

              exits : ℕ
              exits = k.exits + one (watched p.0 k.book.held)

              -- what the step says, and leaves, by the book and the word
              left_by_lem : (b : Book) (e : ℕ) → observed c (charge_by_lem (granted p)) kept ≡ b → e ≡ word_in c (bitted true a p q) p.0 (word_of a)
                  → step (store a w v) (at c s) ≡ (say.done k.references exits, record { config = c; machine = stored c (bitted true a p q) p.0 (word_of a) (with_bytes a w v e); book = b })
              left_by_lem b e f g =
                  stepped (granted p) q
                  ∙ ap₂ (λ y z. (say.done k.references exits, record { config = c; machine = stored c (bitted true a p q) p.0 (word_of a) (with_bytes a w v z); book = y })) f (sym g)

              -- nobody is charged
              uncharged : observed c (charge_by_lem (granted p)) kept ≡ observed c none kept → Follows (store a w v) s r (store_by r a w v (left (granted p)) (page p.0) k.references Nobody)
              uncharged f =
                  let n = set u.memory in
                  let i = settles true a p q t.sets own t.chosen kept h u.memory u.next in
                  let e = with_bytes a w v (words.word_in n p.0 (word_of a)) in
                  subst (λ z. Follows (store a w v) s r (windowed_by r (written_by (held_of r) t.held k.references k.exits p.0 a w v set z))) (sym u.done)
                  (follows_by (store a w v) s (record { config = c; machine = stored c (bitted true a p q) p.0 (word_of a) e; book = observed c none kept }) r
                  (windowed_with r h) (answer.Done k.references exits) (say.done k.references exits) (bytes_in n p.0 a w v)
                  (left_by_lem (observed c none kept) (words.word_in n p.0 (word_of a)) f (same_bitted true a p q kept h n i))
                  refl refl
                  (window_held (record { config = c; machine = stored c (bitted true a p q) p.0 (word_of a) e; book = kept }) r h (bytes_in n p.0 a w v)
                  (unread_next (record { config = c; machine = bitted true a p q; book = k.book }) (with_held r h) n p.0 (word_of a) e k.book.held (word_fits a) there i) kept_rules))

              -- it is charged to the prefix n
              charged_to_lem : kept.choice ≡ true → (n : ℕ) → n < 2 ^ (9 * (c.levels - 1)) → charge_by_lem (granted p) ≡ some (indexes (c.levels - 1) n)
                  → Follows (store a w v) s r (store_by r a w v (left (granted p)) (page p.0) k.references (To n))
              charged_to_lem on n small f =
                  let pre = indexes (c.levels - 1) n in
                  let bare : ChargeRules c kept.marks pre =
                  subst (IfSome (ChargeRules c k.book.marks)) f (charge_rules c k.book (word_of a) (granted p) t.next.book (costs_rules true)) in
                  let x = charge_moves (record { config = c; machine = mach; book = kept }) (with_held r h) u.memory u.next kept_rules on n small bare in
                  let i = settled true a p q x.marks x.choice x.pool x.frame t.sets own t.chosen (observed c (some pre) kept) x.memory x.next in
                  let l = set x.memory in
                  let e = with_bytes a w v (words.word_in l p.0 (word_of a)) in
                  subst (λ z. Follows (store a w v) s r (paid_by r a w v p.0 k.references k.exits set t.held n z)) (sym u.done)
                  (subst (λ z. Follows (store a w v) s r (finished_by r a w v p.0 k.references exits set z)) (sym x.done)
                  (follows_by (store a w v) s (record { config = c; machine = stored c (bitted true a p q) p.0 (word_of a) e; book = observed c (some pre) kept }) r
                  (changed r x.marks x.choice x.pool x.frame) (answer.Done k.references exits) (say.done k.references exits) (bytes_in l p.0 a w v)
                  (left_by_lem (observed c (some pre) kept) (words.word_in l p.0 (word_of a)) (ap (λ y. observed c y kept) f) (word_bitted true a p q x.marks x.choice x.pool x.frame (observed c (some pre) kept) l i))
                  refl refl
                  (silent_next (record { config = c; machine = bitted true a p q; book = observed c (some pre) kept }) (changed r x.marks x.choice x.pool x.frame) l p.0 (word_of a) e (word_fits a) there
                  (observed_held (λ y. T (not (reads_word p.0 (word_of a) y))) c (some pre) kept (dropped_silent p.0 (word_of a) k.book.held)) i)))

              to_by : (x : Charge) → Agrees c x (charge_by_lem (granted p)) kept → Follows (store a w v) s r (store_by r a w v (left (granted p)) (page p.0) k.references x)
              to_by x (inl f) = subst (λ y. Follows (store a w v) s r (store_by r a w v (left (granted p)) (page p.0) k.references y)) (sym f.0) (uncharged f.1)
              to_by x (inr f) =
                  subst (λ y. Follows (store a w v) s r (store_by r a w v (left (granted p)) (page p.0) k.references y)) (sym f.1.to) (charged_to_lem f.0 f.1.number f.1.small f.1.prefix)

          by : (y : Result Fault Place) → verdict c mach true a ≡ y → Follows (store a w v) s r (stored_by r a w v (left (verdict c mach true a)) (came_to t.right (verdict c mach true a) k.references))
          by y q = subst (λ z. Follows (store a w v) s r (stored_by r a w v (left z) (came_to t.right z k.references))) (sym q) (at_by y q)

      pub store_follows : Follows (store a w v) s r (store_call r m a w v)
      unfolding store_call refusal tests
      store_follows = placed_by (store a w v) w (address_ok false c a w) _ refl (λ wide ok. stored_is wide ok)

      -- ---- device store
      pub device_step : width_fits w ≡ true → address_ok true c a w ≡ true
          → let o = access c mach mach a w (some v) (device_walk c mach a).result in
          let k = storing (word_of a) (device_walk c mach a).result (unshadowed s.book (device_walk c mach a).count (device_walk c mach a).result) in
          step (device a w v) (at c s) ≡ (line_of o.0 k.references k.exits, record { config = c; machine = o.1; book = k.book })
      unfolding step refusal tests machine_step book_step
      device_step wide ok = ap₂ (λ d b. answered (device a w v) (at c s) (first_failed ((d, 15) ∷ (b, 4) ∷ []))) wide ok

      -- a device address that fits names a guest frame
      device_small : address_ok true c a w ≡ true → page_of a < 2 ^ frame_bits c
      unfolding page_of
      device_small ok =
          let l : a < 2 ^ (12 + frame_bits c) = ltb→lt a (2 ^ (12 + frame_bits c)) (and_left (device_fits c a) (aligned a w) (subst T (sym ok) tt)) in
          shr_lt (frame_bits c) 12 (subst (λ n. a < 2 ^ n) (add_comm 12 (frame_bits c)) l)

      device_asks : (g : ℕ) → g < 2 ^ frame_bits c → Guest c (InGuestArea c) (area_real c) (device_script g) (λ q. InGuestArea c q.0)
      device_asks g b = asks_bind _ _ _ _ (hosted g) _ _ (hosted_asks c (InGuestArea c) (area_real c) g _ b (λ q f. go q.1 q f))
        where
          go : (x : Bool) (q : Place) → InGuestArea c q.0 → Guest c (InGuestArea c) (area_real c) (must x (HostReadOnly g) >> Walk.done q) (λ y. InGuestArea c y.0)
          go true q f = f
          go false q f = b

      -- the walk over memory is the machine's host walk
      device_walked : address_ok true c a w ≡ true
          → walked_of c ht m 0 (next true true (page_of a) true) ≡ plain_walked (device_walk c mach a).result (device_walk c mach a).count
      unfolding device_walk
      device_walked ok =
          device_walk_lem c ht m (page_of a)
          ∙ stands_walked c mach ht m (found.memory_stands s r m inv) 0 (device_script (page_of a)) (λ q. InGuestArea c q.0) (device_asks (page_of a) (device_small ok))
          ∙ ap (plain_walked (trace (world c mach) (device_script (page_of a))).result) (zero-add (trace (world c mach) (device_script (page_of a))).count)

      pub device_in : address_ok true c a w ≡ true → (p : Place) → (device_walk c mach a).result ≡ granted p → InGuestArea c p.0
      unfolding device_walk world
      device_in ok p e =
          (asks_trace (AnswerIn (InGuestArea c)) (λ g. g < 2 ^ frame_bits c) (λ t i. InGuestArea c t × (i < 512)) (FaultFits c) (world c mach) (device_script (page_of a)) (λ (q : Place). InGuestArea c q.0) (found.memory_stands s r m inv).inside
          (device_asks (page_of a) (device_small ok))).grants p e

      device_is : width_fits w ≡ true → address_ok true c a w ≡ true → (x : Result Fault Place) → (device_walk c mach a).result ≡ x
          → Follows (device a w v) s r (served_by r (device_by c m (held_of r) a w v (walked_of c ht m 0 (next true true (page_of a) true))))
      unfolding access head_held head_tables storing
      device_is wide ok x e =
          subst (λ y. Follows (device a w v) s r (served_by r (device_by c m (held_of r) a w v y))) (sym (device_walked ok ∙ ap (λ y. plain_walked y tr.count) e)) (by x e)
        where
          tr : Trace Fault Place
          tr = device_walk c mach a

          k : Result Fault Place → Counted
          k y = storing (word_of a) y (record { references = tr.count; exits = host_exit y; book = s.book })

          stepped : (y : Result Fault Place) → tr.result ≡ y
              → step (device a w v) (at c s) ≡ (line_of (access c mach mach a w (some v) y).0 (k y).references (k y).exits, record { config = c; machine = (access c mach mach a w (some v) y).1; book = (k y).book })
          stepped y q = device_step wide ok ∙ ap (λ z. (line_of (access c mach mach a w (some v) z).0 (k z).references (k z).exits, record { config = c; machine = (access c mach mach a w (some v) z).1; book = (k z).book })) q

          by : (y : Result Fault Place) → tr.result ≡ y → Follows (device a w v) s r (served_by r (device_by c m (held_of r) a w v (plain_walked y tr.count)))
          by (failed y) q =
              follows_by (device a w v) s (at c s) r r (answer.Faulted y tr.count (exit_by (plain_walked (failed y) tr.count))) (fault_line y tr.count (host_exit {A = Place} (failed y))) m
              (stepped (failed y) q) refl (ap (fault_line y tr.count) (exit_is (failed y) tr.count)) (at_inv inv)
          by (granted p) q =
              let there = device_in ok p q in
              let u = drops s r m inv p.0 (word_of a) (word_fits a) (area_real c p.0 there) in
              let h : Holding = record { pool = u.pool; frame = r.guest.held } in
              let after : State = record { config = c; machine = mach; book = holding s.book (drop_word p.0 (word_of a) s.book.held) } in
              let word = same_word c mach ht u.memory (found.memory_stands after (with_held r h) u.memory u.next) p.0 (word_of a) there in
              let e = with_bytes a w v (words.word_in u.memory p.0 (word_of a)) in
              let kept = holding s.book (drop_word p.0 (word_of a) s.book.held) in
              subst (λ z. Follows (device a w v) s r (served_by r (written_by (held_of r) (held_of r) tr.count 0 p.0 a w v (λ x. x) z))) (sym u.done)
              (follows_by (device a w v) s (record { config = c; machine = stored c mach p.0 (word_of a) e; book = holding s.book (drop_word p.0 (word_of a) s.book.held) }) r
              (with_held r h) (answer.Done tr.count (0 + one (watched p.0 s.book.held))) (say.done tr.count (0 + one (watched p.0 s.book.held))) (bytes_in u.memory p.0 a w v)
              (stepped (granted p) q ∙ ap (λ z. (say.done tr.count (0 + one (watched p.0 s.book.held)), record { config = c; machine = stored c mach p.0 (word_of a) (with_bytes a w v z); book = holding s.book (drop_word p.0 (word_of a) s.book.held) })) (sym word)) refl refl (unread_next s (with_held r h) u.memory p.0 (word_of a) e s.book.held (word_fits a) there u.next))

      pub device_follows : Follows (device a w v) s r (device_call r m a w v)
      unfolding device_call device_of refusal tests
      device_follows = placed_by (device a w v) w (address_ok true c a w) _ refl (λ wide ok. device_is wide ok (device_walk c mach a).result refl)
