-- A mark set and a mark cleared by the operator follow the specification.
-- Assumes nothing.
use mathlib.Core.Path.{◌≡◌, refl, sym, ap, ap₂, ◌∙◌, subst}
use Prim.Native.Nat.{ℕ, ◌-◌, ◌<◌}
use native.Mathlib.Omega.{arith}
use borrow.Author.Tests.{ne_eqb, lt-leb, lt-ltb}
use mathlib.Core.Bool.{Bool, true, false, not, ◌&&◌, ◌||◌, cond}
use mathlib.Core.List.Permᴰ
use mathlib.Core.List.{List, [], ◌∷◌}
use mathlib.Core.Option.{Option, none, some}
use lib.Dec.{T, eqb}
use lib.ListN.{length}
use Rattle.spec.specs.Config.{Config}
use Rattle.spec.specs.Entry.{page_of, indexes}
use Rattle.spec.specs.Prefix.{All, begins, same, any, keep}
use Rattle.spec.specs.Book.{Mark, Book, mark_at, same_mark, is_set, drop_prefix, marking, unmarking}
use Rattle.spec.specs.Choice.{leaf_mark, is_automatic, owned, room_for, room_made, withdrawn, operated, choosing}
use Rattle.spec.specs.Answer as say
use Rattle.spec.specs.Call.{Call, set_mark, clear_mark, address_indexes, machine_step}
use Rattle.spec.specs.Count.{book_step}
use Rattle.spec.specs.Refusal.{level_fits, tests, refusal}
use Rattle.spec.specs.Run.{State, step, told}
use Rattle.spec_laws.proofs.Lists.{all_map, all_any, all_keep, keep_all, is_true, and_first, not_both}
use Rattle.spec_laws.proofs.Runs.{BookFits, all_passed, mark_fits_lem, set_keeps, clear_keeps, operated_keeps}
use Rattle.spec_laws.proofs.Rules.{BookRules, room_free, room_book, step_rules}
use Rattle.spec_laws.proofs.Choice.{room_unset, mark_is}
use Rattle.spec_laws.proofs.Indexes.{indexes_above}
use Rattle.marks.specs.declared.Marks.{Marks}
use Rattle.marks.specs.Key.{key_at}
use Rattle.marks.specs.Table.{room, place_of, with_key, without_key, number}
use Rattle.marks.specs.Reading.{marks_of, mark_of}
use Rattle.marks.proofs.Order.{SameMembers, members_map}
use Rattle.marks.proofs.Search.{place_known}
use Rattle.marks.proofs.Tables.{keys_without, around_members}
use Rattle.marks.proofs.Book as table
use Rattle.marks.proofs.Book.{keys_of, Sorted, sorted_fits, set_sorted, clear_sorted, set_book, book_with, book_without, its_mark}
use Rattle.choice.specs.declared.Choice.{Choice}
use Rattle.choice.specs.Order.{automatic_at, without_of, moved_of}
use Rattle.choice.specs.Refusal.{set_refusal, clear_refusal}
use Rattle.choice.proofs.Automatic.{indexes_at, kept_set}
use Rattle.choice.proofs.Chosen.{Chosen, chosen_without, chosen_moved, chosen_unmarked, automatic_place, automatic_is, automatic_mark, owned_is, set_refused_lem, clear_refused_lem}
use Rattle.record.specs.declared.Record.{Record}
use Rattle.record.specs.Record.{config_of}
use Rattle.words.specs.After.{After}
use Rattle.automatic.specs.Moves.{Move, marked_of, room_made_of, then_by, added_of, above, taken_over_of, set_of, cleared_of}
use Rattle.calls.specs.Calls.{refused, judged, moved_by, set_mark_call, clear_mark_call}
use Rattle.claims.proofs.Invariant.{Inv, Follows, at}
use Rattle.claims.proofs.Moves.{Moved, after, follows_no, follows_ok, first_positive, inv_fits}
use Rattle.claims.proofs.Appoints.{changed, Moves, marked_moves, room_moves, free_place, moves_then}

-- what is kept is kept
keep_twice : {A : Type 0} (f : A → Bool) (xs : List A) → keep f (keep f xs) ≡ keep f xs
keep_twice f xs = keep_all f (keep f xs) (all_map (λ x. Unit {0} × T (f x)) (λ x. f x ≡ true) (keep f xs) (λ x k. is_true (f x) k.1) (all_keep (λ x. Unit {0}) f xs (all_any (λ x. Unit {0}) xs (λ x. tt))))

-- a move that follows the book is the reply of its call
move_follows : (s : State) (r : Record) (b : Book) (o : After Move) → Moves s r b o → Moved (record { config = config_of r; machine = s.machine; book = b }) r (moved_by r o)
move_follows s r b o k = rw k.done (record { config = refl; says = refl; next = k.next })

module _ (s : State) (r : Record) (m : List ℕ) (h : Inv s r m) (rules : BookRules (config_of r) s.book) (a n : ℕ) where
  abbrev c : Config
  c = config_of r

  abbrev levels : ℕ
  levels = r.layout.levels

  abbrev t : Marks
  t = r.guest.marks

  abbrev x : Choice
  x = r.guest.choice

  abbrev b : Book
  b = s.book

  -- the mark, and its key
  abbrev M : Mark
  M = mark_at (config_of r) n (address_indexes (config_of r) a)

  abbrev K : ℕ
  K = key_at r.layout.levels n a

  abbrev i : ℕ
  i = place_of r.guest.marks.place r.guest.marks.set (key_at r.layout.levels n a)

  few : levels < 7
  few = let z = (inv_fits h).sizes.deep in omega arith

  prefix_is : indexes (levels - n) (above a n) ≡ M.prefix
  prefix_is = indexes_above levels n (page_of a)

  module _ (level : level_fits c n ≡ true) where
    set_is : any (eqb K) (keys_of t) ≡ is_set M b.marks
    set_is = set_book c t b few h.sorted h.marks a n level

    -- whether the code takes the mark for automatic
    auto_is : automatic_at x.tally.count x.order i ≡ is_automatic b.automatic M
    auto_is = by (any (eqb K) (keys_of t)) refl
      where
        outside : any (eqb K) (keys_of t) ≡ false → (z : Bool) → automatic_at x.tally.count x.order i ≡ z → z ≡ false
        outside e true q =
            let l = (automatic_place c x t b h.chosen i q).inside in
            let k : true ≡ false = sym (lt-ltb i room l) ∙ place_known t.place K t.set ∙ e in
            k
        outside e false q = refl

        unset : is_set M b.marks ≡ false → (z : Bool) → is_automatic b.automatic M ≡ z → z ≡ false
        unset e true q = sym (is_true (is_set M b.marks) (automatic_set b.automatic rules.marks.set (subst T (sym q) tt))) ∙ e
          where
            automatic_set : (ps : List (List ℕ)) → All (λ p. T (is_set (leaf_mark p) b.marks)) ps → T (is_automatic ps M) → T (is_set M b.marks)
            automatic_set [] all k = absurd k
            automatic_set (p ∷ ps) all k = go (same_mark (leaf_mark p) M) refl k (automatic_set ps all.1)
              where
                go : (z : Bool) → same_mark (leaf_mark p) M ≡ z → T (z || is_automatic ps M) → (T (is_automatic ps M) → T (is_set M b.marks)) → T (is_set M b.marks)
                go true e k ih = subst (λ y. T (is_set y b.marks)) (mark_is (leaf_mark p) M (subst T (sym e) tt)) all.0
                go false e k ih = ih k
        unset e false q = refl

        by : (z : Bool) → any (eqb K) (keys_of t) ≡ z → automatic_at x.tally.count x.order i ≡ is_automatic b.automatic M
        by true e = automatic_is c x t b h.chosen few h.sorted h.marks a n level e
        by false e = outside e (automatic_at x.tally.count x.order i) refl ∙ sym (unset (sym set_is ∙ e) (is_automatic b.automatic M) refl)

    owned_by : is_set M (owned b) ≡ (is_set M b.marks && not (is_automatic b.automatic M))
    owned_by = kept_set (λ y. not (is_automatic b.automatic y)) M b.marks

    -- ---- set
    module _ (new : T (not (is_set M (owned b)))) (free : T (room_for c b)) (fitting : BookRules c (operated c M b)) where
      -- with the choice off the book has no automatic mark and no window, whether the mark was automatic (z) or not
      abbrev Off : Bool → Type 0
      Off z = let d = marking M (cond z (withdrawn M.prefix b) (room_made c b)) in d.choice ≡ false → (d.automatic ≡ []) × (d.window ≡ [])

      -- an automatic mark becomes the operator's
      taken_over : automatic_at x.tally.count x.order i ≡ true → Moves s r (marking M (withdrawn M.prefix b)) (marked_of r m (levels - n) (above a n) t (without_of x i))
      unfolding operated marks_of
      taken_over e =
          marked_moves s r m h (levels - n) (above a n) (omega arith) t (without_of x i) (marking M (withdrawn M.prefix b)) h.sorted members
          (keep_twice (λ z. not (begins M.prefix z.path)) b.held ∙ ap (λ q. drop_prefix q b.held) (sym prefix_is))
          (subst (λ z. BookFits c (marking M (cond z (withdrawn M.prefix b) (room_made c b)))) auto (operated_keeps c M b (mark_fits_lem c n a (subst T (sym level) tt)) h.book))
          (subst (λ q. Chosen c (without_of x i) t (choosing (marking M (withdrawn M.prefix b)) (keep (λ y. not (same q y)) b.automatic) b.window)) (ap (λ (y : Mark). y.prefix) is_leaf_lem)
          (chosen_without c x t b h.chosen (sorted_fits levels t h.sorted) (marking M (withdrawn M.prefix b)) refl i e))
          (subst Off auto fitting.off)
        where
          auto : is_automatic b.automatic M ≡ true
          auto = sym auto_is ∙ e

          is_leaf_lem : leaf_mark (indexes_at levels t.place i) ≡ M
          is_leaf_lem = automatic_mark c x t b h.chosen few h.sorted h.marks a n level e

          there : any (eqb K) (keys_of t) ≡ true
          there = sym (place_known t.place K t.set) ∙ lt-ltb i room (automatic_place c x t b h.chosen i e).inside

          leaf_prefix : leaf_mark M.prefix ≡ M
          leaf_prefix = ap (λ (y : Mark). leaf_mark y.prefix) (sym is_leaf_lem) ∙ is_leaf_lem

          members : SameMembers (marks_of levels t) (M ∷ keep (λ y. not (same_mark (leaf_mark M.prefix) y)) b.marks)
          members =
              subst (λ y. SameMembers (marks_of levels t) (M ∷ keep (λ z. not (same_mark y z)) b.marks)) (sym leaf_prefix)
              (Permᴰ.trans (members_map (mark_of levels) (around_members K _ _ (keys_without t K there)))
              (Permᴰ.cons (its_mark c t b few h.sorted h.marks a n level) (book_without c t b few h.sorted h.marks a n level there)))

      -- any other is set in a table with a place free
      unset : is_automatic b.automatic M ≡ false → is_set M b.marks ≡ false
      unset e = go (is_set M b.marks) refl
        where
          go : (z : Bool) → is_set M b.marks ≡ z → z ≡ false
          go true q = absurd (not_both (is_set M (owned b)) (subst T (sym (owned_by ∙ ap₂ (λ y w. y && not w) q e)) tt) new)
          go false q = refl

      k : Moves s r (room_made c b) (room_made_of r m)
      k = room_moves s r m h rules

      abbrev s2 : State
      s2 = record { config = config_of r; machine = s.machine; book = room_made (config_of r) s.book }

      abbrev r2 : Record
      r2 = changed r k.marks k.choice k.pool k.frame

      place_free : length (keys_of k.marks) < room
      place_free =
          free_place s2 r2 k.memory k.next (room_book c b rules)
          (lt-leb 64 (length (room_made c b).marks) (room_free c b rules.marks free))

      added : is_automatic b.automatic M ≡ false → Moves s2 r2 (marking M (room_made c b)) (added_of a n r2 k.memory)
      unfolding operated
      added e =
          marked_moves s2 r2 k.memory k.next (levels - n) (above a n) (omega arith) (with_key k.marks K)
          (moved_of k.choice k.marks.place (with_key k.marks K).place (with_key k.marks K).set) (marking M (room_made c b))
          (set_sorted levels k.marks K k.next.sorted (table.fits c k.marks (room_made c b) few k.next.sorted k.next.marks a n level) none_there place_free)
          (book_with c k.marks (room_made c b) few k.next.sorted k.next.marks a n level place_free)
          (ap (λ q. drop_prefix q (room_made c b).held) (sym prefix_is)) (set_keeps c (room_made c b) M (mark_fits_lem c n a (subst T (sym level) tt)) k.next.book)
          (chosen_moved c k.choice k.marks (room_made c b) k.next.chosen k.next.sorted place_free K (marking M (room_made c b)) refl refl refl)
          (subst Off e fitting.off)
        where
          none_there : any (eqb K) (keys_of k.marks) ≡ false
          none_there = set_book c k.marks (room_made c b) few k.next.sorted k.next.marks a n level ∙ room_unset c b M (unset e)

      set_moves : Moves s r (operated c M b) (set_of r m a n)
      unfolding operated set_of taken_over_of
      set_moves = go (automatic_at x.tally.count x.order i) refl
        where
          go : (z : Bool) → automatic_at x.tally.count x.order i ≡ z
              → Moves s r (marking M (cond (is_automatic b.automatic M) (withdrawn M.prefix b) (room_made c b)))
              (cond z (marked_of r m (levels - n) (above a n) t (without_of x i)) (then_by (room_made_of r m) (added_of a n)))
          go true e = subst (λ z. Moves s r (marking M (cond z (withdrawn M.prefix b) (room_made c b))) (marked_of r m (levels - n) (above a n) t (without_of x i))) (sym (sym auto_is ∙ e)) (taken_over e)
          go false e =
              let auto : is_automatic b.automatic M ≡ false = sym auto_is ∙ e in
              subst (λ z. Moves s r (marking M (cond z (withdrawn M.prefix b) (room_made c b))) (then_by (room_made_of r m) (added_of a n))) (sym auto)
              (moves_then s r (room_made c b) (marking M (room_made c b)) (room_made_of r m) (added_of a n) k (added auto))

    -- ---- clear
    clear_moves : T (is_set M (owned b)) → Moves s r (unmarking M b) (cleared_of r m a n)
    unfolding cleared_of
    clear_moves own =
        let o : is_set M (owned b) ≡ true = is_true (is_set M (owned b)) own in
        let there : any (eqb K) (keys_of t) ≡ true = set_is ∙ and_first (is_set M b.marks) (not (is_automatic b.automatic M)) (sym owned_by ∙ o) in
        marked_moves s r m h (levels - n) (above a n) (omega arith) (without_key t K) x (unmarking M b) (clear_sorted levels t K h.sorted there)
        (book_without c t b few h.sorted h.marks a n level there) (ap (λ q. drop_prefix q b.held) (sym prefix_is)) (clear_keeps c b M h.book)
        (chosen_unmarked c x t b h.chosen K (owned_is c x t b h.chosen few h.sorted h.marks a n level ∙ o) (unmarking M b) refl refl refl) rules.off

  -- ---- the calls

  after_rules : (y : Call) → refusal c y s.machine b ≡ none → BookRules c (after c y s).book
  unfolding step
  after_rules y free = rw free at (step_rules y (at c s) h.book rules)

  -- a call on marks, refused as the specification says
  by_refusal : (y : Call) (o : Option ℕ) (e : After Move) → o ≡ refusal c y s.machine b
      → All (λ (z : Bool × ℕ). 0 < z.1) (tests c y s.machine b) → told y (at c s) ≡ say.ok
      → (refusal c y s.machine b ≡ none → Moved (after c y s) r (moved_by r e))
      → Follows y s r (judged r m (cond (eqb (number o) 0) (moved_by r e) (refused r (number o) m)))
  unfolding refusal
  by_refusal y o e agree positive ok granted = rw h.fits (go o (sym agree))
    where
      go : (o : Option ℕ) → refusal c y s.machine b ≡ o → Follows y s r (cond (eqb (number o) 0) (moved_by r e) (refused r (number o) m))
      go none q = follows_ok y s r _ q ok (granted q)
      go (some j) q =
          let above = first_positive (tests c y s.machine b) j positive q in
          rw (ne_eqb j 0 (λ z. omega arith)) (follows_no y j h q)

  pub set_mark_follows : Follows (set_mark a n) s r (set_mark_call r m a n)
  unfolding set_mark_call refusal tests machine_step book_step
  set_mark_follows =
      by_refusal (set_mark a n) (set_refusal levels x.tally x.order t a n) (set_of r m a n)
      (set_refused_lem c x t b h.chosen few h.sorted h.marks s.machine a n refl)
      (omega arith, (omega arith, (omega arith, (omega arith, tt)))) refl
      (λ e.
      let p = all_passed (tests c (set_mark a n) s.machine b) e in
      move_follows s r (operated c M b) (set_of r m a n) (set_moves (is_true (level_fits c n) p.1.0) p.1.1.0 p.1.1.1.0 (after_rules (set_mark a n) e)))

  pub clear_mark_follows : Follows (clear_mark a n) s r (clear_mark_call r m a n)
  unfolding clear_mark_call refusal tests machine_step book_step
  clear_mark_follows =
      by_refusal (clear_mark a n) (clear_refusal levels x.tally x.order t a n) (cleared_of r m a n)
      (clear_refused_lem c x t b h.chosen few h.sorted h.marks s.machine a n)
      (omega arith, (omega arith, (omega arith, tt))) refl
      (λ e.
      let p = all_passed (tests c (clear_mark a n) s.machine b) e in
      move_follows s r (unmarking M b) (cleared_of r m a n) (clear_moves (is_true (level_fits c n) p.1.0) p.1.1.0))
