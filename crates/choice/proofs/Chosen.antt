-- What the automatic choice keeps in numbers, beside what the book says: they agree after every change, and answer alike.
use mathlib.Core.Path.{◌≡◌, refl, sym, ap, ap₂, ◌∙◌, subst}
use mathlib.Core.Bool.{Bool, true, false, not, ◌&&◌, ◌||◌, cond, or-true, true≢false}
use mathlib.Core.List.Permᴰ
use mathlib.Core.List.{List, [], ◌∷◌, ◌++◌, map, reverse, reverse-append}
use mathlib.Core.Option
use mathlib.Core.Option.{Option, none, some}
use Prim.Native.Nat.{ℕ, suc, ◌+◌, ◌-◌, ◌*◌, ◌/◌, ◌%◌, ◌^◌, ◌≤◌, ◌<◌}
use native.Mathlib.Nat.{mod-lt, mod-eq_of_lt}
use native.Mathlib.Omega.{arith}
use native.Mathlib.Decide.{dec_le}
use borrow.Author.Tests.{eq-eqb, ne_eqb, lt-ltb, le-ltb, ltb-true, le-leb, lt-leb, not-true}
use lib.Dec.{eqb, leb, ltb}
use lib.Count.{ones}
use lib.Pow.{pow_pos}
use lib.ListN.{length, take, drop, set, get_or, length-map, length-append, length-drop, length-reverse}
use lib.Seq.{length-take-le, take-append_seam, append_snoc, set_split}
use Rattle.spec.specs.Config.{Config}
use Rattle.spec.specs.Entry.{indexes}
use Rattle.spec.specs.Prefix.{All, same, any, keep}
use Rattle.spec.specs.Machine.{Machine}
use Rattle.spec.specs.Book.{Mark, Book, Window, mark_at, same_mark, is_set}
use Rattle.spec.specs.Choice.{first_of, charges, leaf_mark, is_automatic, owned, goes_before, leaving, choosing, entered, observed, emptied, is_some, room_for}
use Rattle.spec.specs.Call.{set_mark, clear_mark, address_indexes}
use Rattle.spec.specs.Refusal.{first_failed, address_fits, level_fits, tests, refusal}
use Rattle.spec_laws.proofs.Lists.{all_map, all_any, all_both, all_kept, all_append, and_first, and_second}
use Rattle.spec_laws.proofs.Indexes.{eqb_sym, indexes_low, indexes_same}
use Rattle.spec_laws.proofs.Charges.{IfSome, first_has}
use Rattle.spec_laws.proofs.Choice.{keep_same, keep_most, any_gone}
use Rattle.entry.specs.Levels.{of_levels}
use Rattle.bits.specs.Bit.{bit}
use Rattle.bits.proofs.Laws.{clear_bit}
use Rattle.marks.specs.declared.Marks.{Marks}
use Rattle.marks.specs.Key.{key_at, keys_fit}
use Rattle.marks.specs.Table.{place_of, with_key, without_key, number}
use Rattle.marks.specs.Reading.{mark_of, marks_of}
use Rattle.marks.proofs.Turn.{keys_count}
use Rattle.marks.proofs.Search.{place_known, place_found}
use Rattle.marks.proofs.Order.{SameMembers, members_any, members_length}
use Rattle.marks.proofs.Book.{keys_of, marks_count, Sorted, sorted_fits, its_mark, set_book}
use Rattle.choice.specs.declared.Tally.{Tally}
use Rattle.choice.specs.declared.Choice.{Choice}
use Rattle.choice.specs.Window.{room, shifted, requested_of, emptied_of, tally_charged, charged_of, with_charged, unroll, prefix_in, charges_of}
use Rattle.choice.specs.Order.{order_fits, automatic_at, charges_at, leaves_before, leaving_of, place_by, with_order, ordered, without_of, with_of, moved_of}
use Rattle.choice.specs.Refusal.{owned_in, room_in, set_tests, set_refusal, clear_tests, clear_refusal}
use Rattle.choice.proofs.Ring.{keep_reverse, map_reverse, map_take, map_set, map_unroll, keep_map}
use Rattle.choice.proofs.Automatic.{indexes_at, LeafPlace, all_made, all_reverse, any_mapped, eqb_agree, in_has, kept_set, leaf_is, apart, mapped_two, kept_apart, more_apart, none_equal, still_placed, key_in, same_key, placed_each, placed_apart, placed_from, placed_few, with_keys, first_mapped, each_in, without_found, place_self, leaf_at_lem, prefix_small, prefixes_same}
use Rattle.choice.proofs.Shows.{Shows, shows_request, shows_charge, shows_charges, shows_empty}

-- the places of the automatic marks, the oldest first
abbrev pub in_order : Choice → List ℕ
in_order x = take x.tally.count x.order

-- the choice x, beside the table of marks t, is that of the book b
pub record Chosen (c : Config) (x : Choice) (t : Marks) (b : Book) : Type 0 where
  pub on : x.tally.on ≡ cond b.choice 1 0
  pub window : Shows x.tally.charged x.tally.at (map (indexes (c.levels - 1)) x.ring) b.window
  pub few : x.tally.count ≤ room
  pub long : length x.order ≡ room
  pub placed : order_fits t.place t.set (in_order x) ≡ true
  pub order : map (indexes_at c.levels t.place) (reverse (in_order x)) ≡ b.automatic

abbrev pub with_tally : Choice → Tally → Choice
with_tally x t = record { tally = t; ring = x.ring; order = x.order }

-- and of any book that says the same of the choice
pub chosen_same : (c : Config) (x : Choice) (t : Marks) (b : Book) → Chosen c x t b
    → (d : Book) → d.automatic ≡ b.automatic → d.window ≡ b.window → d.choice ≡ b.choice → Chosen c x t d
chosen_same c x t b h d same-marks same_window same-choice = record {
  on = h.on ∙ ap (λ s. cond s 1 0) (sym same-choice);
  window = rw same_window h.window;
  few = h.few;
  long = h.long;
  placed = h.placed;
  order = h.order ∙ sym same-marks;
}

-- ---- the window

-- how a request shifts the word, with the choice on and off
requested_on : (t : Tally) → t.on ≡ 1 → requested_of t ≡ with_charged t (shifted false t.charged)
unfolding requested_of
requested_on t e = ap (λ n. cond (eqb n 0) t (with_charged t (shifted false t.charged))) e

requested_off : (t : Tally) → t.on ≡ 0 → requested_of t ≡ t
unfolding requested_of
requested_off t e = ap (λ n. cond (eqb n 0) t (with_charged t (shifted false t.charged))) e

module _ (c : Config) (x : Choice) (t : Marks) (b : Book) (h : Chosen c x t b) where
  prefixes : List (List ℕ)
  prefixes = map (indexes (c.levels - 1)) x.ring

  -- another word and ring, and the window that they show
  chosen_window : (charged at : ℕ) (ring : List ℕ) (w : Window) → Shows charged at (map (indexes (c.levels - 1)) ring) w
      → Chosen c (record { tally = record { on = x.tally.on; charged = charged; at = at; count = x.tally.count }; ring = ring; order = x.order }) t
      (choosing b b.automatic w)
  chosen_window charged at ring w s = record { on = h.on; window = s; few = h.few; long = h.long; placed = h.placed; order = h.order }

  -- a request that is charged to nobody
  pub chosen_requested : Chosen c (with_tally x (requested_of x.tally)) t (observed c none b)
  unfolding observed prefixes
  chosen_requested = go b.choice refl
    where
      go : (s : Bool) → b.choice ≡ s → Chosen c (with_tally x (requested_of x.tally)) t (cond s (entered none b) b)
      go true e =
          let on : x.tally.on ≡ 1 = h.on ∙ ap (λ s. cond s 1 0) e in
          subst (λ u. Chosen c (with_tally x u) t (entered none b)) (sym (requested_on x.tally on))
          (chosen_window _ x.tally.at x.ring _ (shows_request x.tally.charged x.tally.at prefixes b.window h.window))
      go false e =
          let off : x.tally.on ≡ 0 = h.on ∙ ap (λ s. cond s 1 0) e in
          subst (λ u. Chosen c (with_tally x u) t b) (sym (requested_off x.tally off)) h

  -- one that is charged to a prefix
  pub chosen_charged : (p : ℕ) → Chosen c (charged_of x p) t (entered (some (indexes (c.levels - 1) p)) b)
  unfolding charged_of tally_charged prefixes
  chosen_charged p =
      chosen_window _ _ (set x.ring (x.tally.at % room) p) _ (rw (map_set (indexes (c.levels - 1)) x.ring (x.tally.at % room) p)
      (shows_charge x.tally.charged x.tally.at prefixes b.window h.window (indexes (c.levels - 1) p)))

  -- a root load
  pub chosen_emptied : Chosen c (with_tally x (emptied_of x.tally)) t (emptied b)
  unfolding emptied_of prefixes
  chosen_emptied = chosen_window 0 x.tally.at x.ring [] (shows_empty x.tally.at prefixes h.window.ring)

  -- the charges of a prefix
  pub charges_are : (p : ℕ) → p < 2 ^ (9 * (c.levels - 1)) → charges_of c.levels x.ring x.tally p ≡ charges (indexes (c.levels - 1) p) b.window
  unfolding charges_of prefix_in prefixes
  charges_are p small = sym (
      shows_charges x.tally.charged x.tally.at prefixes b.window h.window (indexes k p)
      ∙ ap (λ us. length (keep (same (indexes k p)) (take (ones x.tally.charged) us))) (sym (map_unroll (indexes k) (x.tally.at % room) x.ring))
      ∙ ap (λ us. length (keep (same (indexes k p)) us)) (sym (map_take (indexes k) (ones x.tally.charged) (unroll (x.tally.at % room) x.ring)))
      ∙ ap length (keep_map (indexes k) (same (indexes k p)) ws) ∙ length-map (keep (λ w. same (indexes k p) (indexes k w)) ws) (indexes k)
      ∙ ap length (keep_same (λ w. same (indexes k p) (indexes k w)) (λ w. eqb (w % 2 ^ (9 * k)) p) ws (all_any _ ws one)))
    where
      k : ℕ
      k = c.levels - 1

      ws : List ℕ
      ws = take (ones x.tally.charged) (unroll (x.tally.at % room) x.ring)

      one : (w : ℕ) → same (indexes k p) (indexes k w) ≡ eqb (w % 2 ^ (9 * k)) p
      one w =
          ap (same (indexes k p)) (sym (indexes_low k w)) ∙ indexes_same k p (w % 2 ^ (9 * k)) small (mod-lt w (pow_pos (9 * k)))
          ∙ eqb_sym p (w % 2 ^ (9 * k))

-- ---- other automatic marks
module _ (c : Config) (x : Choice) (t : Marks) (b : Book) (h : Chosen c x t b) where
  in_order_lem : All (LeafPlace t.place t.set) (in_order x)
  in_order_lem = placed_each t.place t.set (in_order x) h.placed

  order_length : length (in_order x) ≡ x.tally.count
  order_length = length-take-le x.tally.count x.order (omega (arith, h.few, h.long))

  -- the place of an automatic mark
  pub automatic_place : (i : ℕ) → automatic_at x.tally.count x.order i ≡ true → LeafPlace t.place t.set i
  unfolding automatic_at
  automatic_place i a = in_has (LeafPlace t.place t.set) i (in_order x) in_order_lem a

  -- these places are the order now, in the table u
  chosen_ordered : (u : Marks) (d : Book) (is : List ℕ) → d.choice ≡ b.choice → length is ≤ room → order_fits u.place u.set is ≡ true
      → Chosen c (ordered x is) u (choosing d (map (indexes_at c.levels u.place) (reverse is)) b.window)
  chosen_ordered u d is same few fit =
      let first : take (length is) (is ++ drop (length is) x.order) ≡ is = take-append_seam is (drop (length is) x.order) in
      record {
        on = h.on ∙ ap (λ s. cond s 1 0) (sym same);
        window = h.window;
        few = few;
        long = length-append is (drop (length is) x.order) ∙ omega (arith, length-drop (length is) x.order, h.long);
        placed = ap (order_fits u.place u.set) first ∙ fit;
        order = ap (λ js. map (indexes_at c.levels u.place) (reverse js)) first;
      }

  -- one is automatic no longer; its place may be free now, the others stand where they stood
  module _ (fits : keys_fit c.levels (keys_of t) ≡ true) (d : Book) (same-choice : d.choice ≡ b.choice) (i : ℕ)
      (a : automatic_at x.tally.count x.order i ≡ true) where
    abbrev others : List ℕ
    others = keep (λ j. not (eqb i j)) (in_order x)

    abbrev less : List (List ℕ)
    less = keep (λ q. not (same (indexes_at c.levels t.place i) q)) b.automatic

    less_is : map (indexes_at c.levels t.place) (reverse others) ≡ less
    less_is =
        let f = indexes_at c.levels t.place in
        let here = automatic_place i a in
        sym (ap (keep (λ q. not (same (f i) q))) (sym h.order) ∙ keep_map f (λ q. not (same (f i) q)) (reverse (in_order x))
        ∙ ap (map f) (keep_same (λ j. not (same (f i) (f j))) (λ j. not (eqb i j)) (reverse (in_order x))
        (all_reverse _ (in_order x) (all_map (LeafPlace t.place t.set) _ (in_order x) (λ j q. ap not (prefixes_same c.levels t fits i j here q)) in_order_lem)))
        ∙ ap (map f) (keep_reverse (λ j. not (eqb i j)) (in_order x)))

    chosen_less : (set : ℕ) → ((j : ℕ) → (j ≡ i → ⊥) → bit set j ≡ bit t.set j)
        → Chosen c (without_of x i) (record { set = set; place = t.place }) (choosing d less b.window)
    unfolding without_of
    chosen_less set still =
        let each = still_placed t.place t.set set i still others (any_gone (eqb i) (in_order x)) (all_kept (LeafPlace t.place t.set) _ (in_order x) in_order_lem) in
        let fit = placed_from t.place set others each (kept_apart (λ j. not (eqb i j)) (in_order x) (placed_apart t.place t.set (in_order x) h.placed)) in
        let few : length others ≤ room = omega (arith, keep_most (λ j. not (eqb i j)) (in_order x), order_length, h.few) in
        subst (λ ps. Chosen c (without_of x i) (record { set = set; place = t.place }) (choosing d ps b.window)) less_is
        (chosen_ordered (record { set = set; place = t.place }) d others same-choice few fit)

    -- its mark stays: it is the operator's now
    pub chosen_without : Chosen c (without_of x i) t (choosing d (keep (λ q. not (same (indexes_at c.levels t.place i) q)) b.automatic) b.window)
    chosen_without = chosen_less t.set (λ j n. refl)

    -- its mark is cleared
    pub chosen_cleared : Chosen c (without_of x i) (without_key t (get_or t.place i 0))
        (choosing d (keep (λ q. not (same (indexes_at c.levels t.place i) q)) b.automatic) b.window)
    chosen_cleared =
        let p = automatic_place i a in
        subst (λ u. Chosen c (without_of x i) u (choosing d less b.window))
        (sym (without_found t (get_or t.place i 0) i (place_self c.levels t fits i p.inside p.taken) p.inside))
        (chosen_less (t.set - 2 ^ i) (clear_bit t.set i p.taken).1.other)

  -- the table is another one, with the same keys and perhaps more
  module _ (fits : keys_fit c.levels (keys_of t) ≡ true) (u : Marks)
      (more : (k : ℕ) → any (eqb k) (keys_of t) ≡ true → any (eqb k) (keys_of u) ≡ true) where
    -- where the mark at a place stands now
    abbrev moves : ℕ → ℕ
    moves i = place_of u.place u.set (get_or t.place (i % room) 0)

    -- j is such a place, with the key of the place i
    record Moved (i j : ℕ) : Type 0 where
      there : LeafPlace u.place u.set j
      kept : get_or u.place j 0 ≡ get_or t.place i 0

    moved_one : (i : ℕ) → LeafPlace t.place t.set i → Moved i (moves i)
    moved_one i p =
        let at : i % room ≡ i = mod-eq_of_lt p.inside in
        let k = get_or t.place i 0 in
        let held = more k (key_in t.place t.set i p.inside p.taken) in
        let l : place_of u.place u.set k < room = ltb-true (place_of u.place u.set k) room (place_known u.place k u.set ∙ held) in
        let (s, g) = place_found u.place k u.set l in
        subst (λ j. Moved i (place_of u.place u.set (get_or t.place j 0))) (sym at)
        (record { there = record { inside = l; taken = s; leaf = ap (λ (n : ℕ). n % 8) g ∙ p.leaf }; kept = g })

    -- different marks stand at different places
    moved_apart : (i j : ℕ) → LeafPlace t.place t.set i → LeafPlace t.place t.set j → eqb (moves i) (moves j) ≡ eqb i j
    moved_apart i j p q =
        eqb_agree (moves i) (moves j) i j (ap moves)
        (λ e. same_key c.levels t fits i j p.inside p.taken q.inside q.taken
        (sym (moved_one i p).kept ∙ ap (λ l. get_or u.place l 0) e ∙ (moved_one j q).kept))

    moved_prefixes : (is : List ℕ) → All (LeafPlace t.place t.set) is
        → map (indexes_at c.levels u.place) (map moves is) ≡ map (indexes_at c.levels t.place) is
    moved_prefixes [] a = refl
    moved_prefixes (i ∷ is) a =
        ap₂ (λ p ps. p ∷ ps) (ap (λ (k : ℕ). indexes (c.levels - 1) (k / 8)) (moved_one i a.0).kept) (moved_prefixes is a.1)

    moved_ordered : moved_of x t.place u.place u.set ≡ ordered x (map moves (in_order x))
    unfolding moved_of
    moved_ordered =
        ap (λ n. with_order x n (map moves (in_order x) ++ drop n x.order)) (sym (length-map (in_order x) moves ∙ order_length))

    moved_into : Chosen c (moved_of x t.place u.place u.set) u b
    moved_into =
        let is = map moves (in_order x) in
        let each : All (LeafPlace u.place u.set) is = all_made moves (LeafPlace u.place u.set) (in_order x)
        (all_map (LeafPlace t.place t.set) _ (in_order x) (λ i p. (moved_one i p).there) in_order_lem) in
        let alone : apart is ≡ true = mapped_two moves eqb eqb (LeafPlace t.place t.set) moved_apart (in_order x) in_order_lem
        ∙ placed_apart t.place t.set (in_order x) h.placed in
        let few : length is ≤ room = omega (arith, length-map (in_order x) moves, order_length, h.few) in
        let f = indexes_at c.levels u.place in
        let marks : map f (reverse is) ≡ b.automatic =
        map_reverse f is ∙ ap reverse (moved_prefixes (in_order x) in_order_lem) ∙ sym (map_reverse (indexes_at c.levels t.place) (in_order x)) ∙ h.order in
        subst (λ y. Chosen c y u b) (sym moved_ordered)
        (subst (λ ps. Chosen c (ordered x is) u (choosing b ps b.window)) marks
        (chosen_ordered u b is refl few (placed_from u.place u.set is each alone)))

    -- the order of the others has no place of a key that was not there
    moved_others : (k : ℕ) → any (eqb k) (keys_of t) ≡ false → place_of u.place u.set k < room
        → any (eqb (place_of u.place u.set k)) (in_order (moved_of x t.place u.place u.set)) ≡ false
    moved_others k new l =
        let i = place_of u.place u.set k in
        let is = map moves (in_order x) in
        let other : (j : ℕ) → LeafPlace t.place t.set j → eqb i (moves j) ≡ false =
        λ j p. ne_eqb i (moves j) (λ e. true≢false (sym (key_in t.place t.set j p.inside p.taken)
        ∙ ap (λ n. any (eqb n) (keys_of t)) (sym (moved_one j p).kept ∙ ap (λ m. get_or u.place m 0) (sym e) ∙ (place_found u.place k u.set l).1) ∙ new)) in
        ap (λ y. any (eqb i) (in_order y)) moved_ordered
        ∙ ap (any (eqb i)) (take-append_seam is (drop (length is) x.order))
        ∙ none_equal i is (all_made moves (λ j. eqb i j ≡ false) (in_order x) (all_map (LeafPlace t.place t.set) _ (in_order x) other in_order_lem))

  -- a mark that is not one of them is cleared
  pub chosen_unmarked : (k : ℕ) → owned_in x.tally x.order t k ≡ true
      → (d : Book) → d.automatic ≡ b.automatic → d.window ≡ b.window → d.choice ≡ b.choice → Chosen c x (without_key t k) d
  unfolding owned_in automatic_at
  chosen_unmarked k own =
      let i = place_of t.place t.set k in
      let is = in_order x in
      let l : i < room = ltb-true i room (and_first (ltb i room) (not (any (eqb i) is)) own) in
      let other = not-true (any (eqb i) is) (and_second (ltb i room) (not (any (eqb i) is)) own) in
      let rest = (clear_bit t.set i (place_found t.place k t.set l).0).1 in
      let each = still_placed t.place t.set (t.set - 2 ^ i) i rest.other is other in_order_lem in
      chosen_same c x (without_key t k) b (subst (λ u. Chosen c x u b) (sym (without_found t k i refl l)) (record {
        on = h.on;
        window = h.window;
        few = h.few;
        long = h.long;
        placed = placed_from t.place (t.set - 2 ^ i) is each (placed_apart t.place t.set is h.placed);
        order = h.order;
      }))

  -- the mark at a place is automatic, the last one set
  chosen_more : (i : ℕ) → LeafPlace t.place t.set i → any (eqb i) (in_order x) ≡ false → x.tally.count < room → (d : Book) → d.choice ≡ b.choice
      → Chosen c (with_of x i) t (choosing d (indexes_at c.levels t.place i ∷ b.automatic) b.window)
  unfolding with_of
  chosen_more i p new room-left d same-choice =
      let is = in_order x ++ (i ∷ []) in
      let f = indexes_at c.levels t.place in
      let n = x.tally.count in
      let long : length is ≡ suc n = length-append (in_order x) (i ∷ []) ∙ omega (arith, order_length) in
      let fit = placed_from t.place t.set is (all_append (LeafPlace t.place t.set) (in_order x) (i ∷ []) in_order_lem (p, tt))
      (more_apart i (in_order x) (placed_apart t.place t.set (in_order x) h.placed) new) in
      let marks : map f (reverse is) ≡ f i ∷ b.automatic = ap (map f) (reverse-append (in_order x) (i ∷ [])) ∙ ap (λ ps. f i ∷ ps) h.order in
      let array : is ++ drop (suc n) x.order ≡ set x.order n i = append_snoc (in_order x) i (drop (suc n) x.order) ∙ sym (set_split x.order n i (omega (arith, h.long))) in
      let done : ordered x is ≡ with_of x i =
      ap (λ k. with_order x k (is ++ drop k x.order)) long ∙ ap (with_order x (suc n)) array ∙ rw (lt-ltb n room room-left) refl in
      subst (λ y. Chosen c y t (choosing d (f i ∷ b.automatic) b.window)) done
      (subst (λ ps. Chosen c (ordered x is) t (choosing d ps b.window)) marks
      (chosen_ordered t d is same-choice (omega arith) fit))

-- ---- a mark is set
module _ (c : Config) (x : Choice) (t : Marks) (b : Book) (h : Chosen c x t b) (sorted : Sorted c.levels t) (free : length (keys_of t) < room) where
  more : (k j : ℕ) → any (eqb j) (keys_of t) ≡ true → any (eqb j) (keys_of (with_key t k)) ≡ true
  more k j held = with_keys t k sorted.word free j ∙ ap (λ s. eqb j k || s) held ∙ or-true (eqb j k)

  -- whoever sets it: the automatic ones stand elsewhere
  pub chosen_moved : (k : ℕ) (d : Book) → d.automatic ≡ b.automatic → d.window ≡ b.window → d.choice ≡ b.choice
      → Chosen c (moved_of x t.place (with_key t k).place (with_key t k).set) (with_key t k) d
  chosen_moved k =
      let u = with_key t k in
      chosen_same c (moved_of x t.place u.place u.set) u b (moved_into c x t b h (sorted_fits c.levels t sorted) u (more k))

  -- as an automatic one
  pub chosen_with : (p : ℕ) → any (eqb (p * 8 + 1)) (keys_of t) ≡ false → (d : Book) → d.choice ≡ b.choice
      → let u : Marks = with_key t (p * 8 + 1) in
      Chosen c (with_of (moved_of x t.place u.place u.set) (place_of u.place u.set (p * 8 + 1))) u
      (choosing d (indexes (c.levels - 1) p ∷ b.automatic) b.window)
  unfolding moved_of
  chosen_with p new d same-choice =
      let k = p * 8 + 1 in
      let u : Marks = with_key t k in
      let y : Choice = moved_of x t.place u.place u.set in
      let i = place_of u.place u.set k in
      let held : any (eqb k) (keys_of u) ≡ true = with_keys t k sorted.word free k ∙ ap (λ s. s || any (eqb k) (keys_of t)) (eq-eqb k k refl) in
      let l : i < room = ltb-true i room (place_known u.place k u.set ∙ held) in
      let (taken, key) = place_found u.place k u.set l in
      let leaf : k % 8 ≡ 1 = omega arith in
      let high : k / 8 ≡ p = omega arith in
      let few : x.tally.count < room =
      omega (arith, placed_few t.place t.set (in_order x) h.placed, order_length c x t b h, keys_count t.place t.set sorted.word) in
      let e : indexes_at c.levels u.place i ≡ indexes (c.levels - 1) p = ap (λ (n : ℕ). indexes (c.levels - 1) (n / 8)) key ∙ ap (indexes (c.levels - 1)) high in
      subst (λ q. Chosen c (with_of y i) u (choosing d (q ∷ b.automatic) b.window)) e
      (chosen_more c y u (choosing d b.automatic b.window) (chosen_moved k (choosing d b.automatic b.window) refl refl same-choice) i
      (record { inside = l; taken = taken; leaf = ap (λ (n : ℕ). n % 8) key ∙ leaf })
      (moved_others c x t b h (sorted_fits c.levels t sorted) u (more k) k new l) few d refl)

-- ---- which one leaves

-- the mark that leaves is one of the automatic ones
pub record Leaves (c : Config) (x : Choice) (t : Marks) (i : ℕ) : Type 0 where
  pub stands : LeafPlace t.place t.set i
  pub small : get_or t.place i 0 / 8 < 2 ^ (9 * (c.levels - 1))
  pub automatic : automatic_at x.tally.count x.order i ≡ true

-- the place says which one, if one leaves
pub leaving_some : (o : Option ℕ) → place_by o < room → o ≡ some (place_by o)
leaving_some none l = absurd (omega arith)
leaving_some (some i) l = refl

module _ (c : Config) (x : Choice) (t : Marks) (b : Book) (h : Chosen c x t b) (fits : keys_fit c.levels (keys_of t) ≡ true) where
  count_at : (i : ℕ) → LeafPlace t.place t.set i
      → charges (indexes_at c.levels t.place i) b.window ≡ charges_at c.levels x.ring x.tally t.place i
  count_at i p =
      sym (charges_are c x t b h (get_or t.place i 0 / 8) (prefix_small c.levels t fits i p))
      ∙ ap (λ m. charges_of c.levels x.ring x.tally (get_or t.place m 0 / 8)) (sym (mod-eq_of_lt p.inside))

  before_is : (i j : ℕ) → LeafPlace t.place t.set i → LeafPlace t.place t.set j
      → goes_before b.window (indexes_at c.levels t.place i) (indexes_at c.levels t.place j)
      ≡ leaves_before c.levels x.ring x.tally t.place i j
  before_is i j p q = ap₂ ltb (count_at i p) (count_at j q)

  pub leaving_is : leaving b.window b.automatic
      ≡ Option.map (indexes_at c.levels t.place) (leaving_of c.levels x.ring x.tally x.order t.place)
  unfolding leaving_of
  leaving_is =
      ap (leaving b.window) (sym h.order)
      ∙ first_mapped (indexes_at c.levels t.place) (goes_before b.window) (leaves_before c.levels x.ring x.tally t.place)
      (LeafPlace t.place t.set) before_is (reverse (in_order x)) (all_reverse _ (in_order x) (in_order_lem c x t b h))

  pub leaving_place : (i : ℕ) → leaving_of c.levels x.ring x.tally x.order t.place ≡ some i → Leaves c x t i
  unfolding leaving_of automatic_at
  leaving_place i e =
      let each : All (λ j. LeafPlace t.place t.set j × (any (eqb j) (in_order x) ≡ true)) (in_order x) =
      all_both (LeafPlace t.place t.set) (λ j. any (eqb j) (in_order x) ≡ true) (in_order x) (in_order_lem c x t b h) (each_in (in_order x)) in
      let r = subst (IfSome (λ j. LeafPlace t.place t.set j × (any (eqb j) (in_order x) ≡ true))) e
      (first_has _ (leaves_before c.levels x.ring x.tally t.place) (reverse (in_order x)) (all_reverse _ (in_order x) each)) in
      record { stands = r.0; small = prefix_small c.levels t fits i r.0; automatic = r.1 }

  pub leaving_none : room ≤ place_by (leaving_of c.levels x.ring x.tally x.order t.place)
      → leaving_of c.levels x.ring x.tally x.order t.place ≡ none
  leaving_none l = go (leaving_of c.levels x.ring x.tally x.order t.place) refl l
    where
      go : (o : Option ℕ) → leaving_of c.levels x.ring x.tally x.order t.place ≡ o → room ≤ place_by o → o ≡ none
      go none e g = refl
      go (some i) e g = absurd (omega (arith, (leaving_place i e).stands.inside))

-- ---- the operator's marks among them

not_leb : (m n : ℕ) → not (leb m n) ≡ ltb n m
not_leb m n = elim (dec_le m n) [ yes le ↦ ap not (le-leb m n le) ∙ sym (le-ltb n m le) | no gt ↦ ap not (lt-leb m n (omega arith)) ∙ sym (lt-ltb n m (omega arith)) ]

first_some : (f : List ℕ → List ℕ → Bool) (ps : List (List ℕ)) → is_some (first_of f ps) ≡ ltb 0 (length ps)
first_some f [] = refl
first_some f (p ∷ ps) = sym (lt-ltb 0 (suc (length ps)) (omega arith))

module _ (c : Config) (x : Choice) (t : Marks) (b : Book) (h : Chosen c x t b) (small : c.levels < 7) (sorted : Sorted c.levels t)
    (agree : SameMembers (marks_of c.levels t) b.marks) where
  whole : keys_fit c.levels (keys_of t) ≡ true
  whole = sorted_fits c.levels t sorted

  automatic_key : (k : ℕ) → any (eqb k) (keys_of t) ≡ true
      → automatic_at x.tally.count x.order (place_of t.place t.set k) ≡ is_automatic b.automatic (mark_of c.levels k)
  unfolding automatic_at
  automatic_key k held =
      let m = mark_of c.levels k in
      let i = place_of t.place t.set k in
      sym (ap (λ ps. is_automatic ps m) (sym h.order)
      ∙ any_mapped (indexes_at c.levels t.place) (λ p. same_mark (leaf_mark p) m) (eqb i) (reverse (in_order x))
      (all_reverse _ (in_order x) (all_map (LeafPlace t.place t.set) _ (in_order x) (λ j p. leaf_is c.levels t whole j k p held) (in_order_lem c x t b h)))
      ∙ members_any (eqb i) (Permᴰ.reverse (in_order x)))

  -- of any address, and a level that fits
  module _ (a l : ℕ) (level : level_fits c l ≡ true) where
    pub automatic_is : any (eqb (key_at c.levels l a)) (keys_of t) ≡ true
        → automatic_at x.tally.count x.order (place_of t.place t.set (key_at c.levels l a)) ≡ is_automatic b.automatic (mark_at c l (address_indexes c a))
    automatic_is held = automatic_key (key_at c.levels l a) held ∙ ap (is_automatic b.automatic) (its_mark c t b small sorted agree a l level)

    pub owned_is : owned_in x.tally x.order t (key_at c.levels l a) ≡ is_set (mark_at c l (address_indexes c a)) (owned b)
    unfolding owned_in
    owned_is =
        go (any (eqb k) (keys_of t)) refl ∙ ap (λ s. s && not (is_automatic b.automatic m)) (set_book c t b small sorted agree a l level)
        ∙ sym (kept_set (λ y. not (is_automatic b.automatic y)) m b.marks)
      where
        k : ℕ
        k = key_at c.levels l a

        i : ℕ
        i = place_of t.place t.set k

        m : Mark
        m = mark_at c l (address_indexes c a)

        go : (s : Bool) → any (eqb k) (keys_of t) ≡ s
            → (ltb i room && not (automatic_at x.tally.count x.order i)) ≡ (any (eqb k) (keys_of t) && not (is_automatic b.automatic m))
        go true e = ap₂ (λ s r. s && not r) (place_known t.place k t.set) (automatic_is e)
        go false e =
            ap (λ s. s && not (automatic_at x.tally.count x.order i)) (place_known t.place k t.set ∙ e)
            ∙ sym (ap (λ s. s && not (is_automatic b.automatic m)) e)

    -- an automatic mark is that of its prefix
    pub automatic_mark : automatic_at x.tally.count x.order (place_of t.place t.set (key_at c.levels l a)) ≡ true
        → leaf_mark (indexes_at c.levels t.place (place_of t.place t.set (key_at c.levels l a))) ≡ mark_at c l (address_indexes c a)
    automatic_mark e =
        let k = key_at c.levels l a in
        let i = place_of t.place t.set k in
        let p = automatic_place c x t b h i e in
        leaf_at_lem c.levels t whole i p ∙ ap (mark_of c.levels) (place_found t.place k t.set p.inside).1 ∙ its_mark c t b small sorted agree a l level

  -- ---- refusals

  pub room_is : c.mark_room ≡ room → room_in x.tally t ≡ room_for c b
  unfolding room_in
  room_is r =
      let all : ones t.set ≡ length b.marks = sym (marks_count c.levels t sorted.word) ∙ members_length agree in
      let chosen : x.tally.count ≡ length b.automatic =
      sym (ap length (sym h.order) ∙ length-map (reverse (in_order x)) (indexes_at c.levels t.place) ∙ length-reverse (in_order x) ∙ order_length c x t b h) in
      rw (r, all, chosen) (sym (ap₂ ◌||◌ (not_leb room (length b.marks)) (first_some (goes_before b.window) b.automatic)))

  -- refusals that turn on whether the mark is the operator's, once address and level fit
  agree_after : (a l : ℕ) (later : Bool → List (Bool × ℕ))
      → first_failed ((address_fits c a, 4) ∷ (level_fits c l, 5) ∷ later (owned_in x.tally x.order t (key_at c.levels l a)))
      ≡ first_failed ((address_fits c a, 4) ∷ (level_fits c l, 5) ∷ later (is_set (mark_at c l (address_indexes c a)) (owned b)))
  agree_after a l later = go (address_fits c a) refl (level_fits c l) refl
    where
      go : (f : Bool) → address_fits c a ≡ f → (g : Bool) → level_fits c l ≡ g
          → first_failed ((f, 4) ∷ (g, 5) ∷ later (owned_in x.tally x.order t (key_at c.levels l a)))
          ≡ first_failed ((f, 4) ∷ (g, 5) ∷ later (is_set (mark_at c l (address_indexes c a)) (owned b)))
      go false e g k = refl
      go true e false k = refl
      go true e true k = ap (λ (s : Bool). first_failed (later s)) (owned_is a l k)

  pub set_refused_lem : (m : Machine) (a l : ℕ) → c.mark_room ≡ room → set_refusal c.levels x.tally x.order t a l ≡ refusal c (set_mark a l) m b
  unfolding set_refusal refusal tests
  set_refused_lem m a l r = rw (room_is r) (agree_after a l (λ s. (not s, 6) ∷ (room_for c b, 7) ∷ []))

  pub clear_refused_lem : (m : Machine) (a l : ℕ) → clear_refusal c.levels x.tally x.order t a l ≡ refusal c (clear_mark a l) m b
  unfolding clear_refusal refusal tests
  clear_refused_lem m a l = agree_after a l (λ s. (s, 6) ∷ [])

-- ---- what a granted call says: every test held
all_held : (xs : List (Bool × ℕ)) → All (λ x. 0 < x.1) xs → number (first_failed xs) ≡ 0 → All (λ x. x.0 ≡ true) xs
all_held [] p e = tt
all_held (x ∷ xs) p e = go x.0 e (all_held xs p.1)
  where
    go : (t : Bool) → number (cond t (first_failed xs) (some x.1)) ≡ 0 → (number (first_failed xs) ≡ 0 → All (λ x. x.0 ≡ true) xs)
        → (t ≡ true) × All (λ x. x.0 ≡ true) xs
    go true f h = (refl, h f)
    go false f h = absurd (omega (arith, p.0))

module _ (n : ℕ) (t : Tally) (order : List ℕ) (marks : Marks) (a level : ℕ) where
  -- a mark that may be set: the code has 0
  pub record MaySet : Type 0 where
    pub legal : address_fits (of_levels n) a ≡ true
    pub fits : level_fits (of_levels n) level ≡ true
    pub new : owned_in t order marks (key_at n level a) ≡ false
    pub free : room_in t marks ≡ true

  pub may_set : number (set_refusal n t order marks a level) ≡ 0 → MaySet
  unfolding set_refusal
  may_set e =
      let h = all_held (set_tests n t order marks a level) (omega arith, (omega arith, (omega arith, (omega arith, tt)))) e in
      record { legal = h.0; fits = h.1.0; new = not-true _ h.1.1.0; free = h.1.1.1.0 }

  -- a mark that may be cleared
  pub record MayClear : Type 0 where
    pub legal : address_fits (of_levels n) a ≡ true
    pub fits : level_fits (of_levels n) level ≡ true
    pub own : owned_in t order marks (key_at n level a) ≡ true

  pub may_clear : number (clear_refusal n t order marks a level) ≡ 0 → MayClear
  unfolding clear_refusal
  may_clear e =
      let h = all_held (clear_tests n t order marks a level) (omega arith, (omega arith, (omega arith, tt))) e in
      record { legal = h.0; fits = h.1.0; own = h.1.1.0 }
