-- Marks that move follow the book: any table that holds the book's marks, an automatic mark that leaves, one that is set, the charge of a
-- store.
-- Assumes nothing.
use mathlib.Core.Path.{◌≡◌, refl, sym, ap, ◌∙◌, subst}
use mathlib.Core.Logic.{◌⊎◌, inl}
use Prim.Native.Nat.{ℕ, suc, ◌+◌, ◌-◌, ◌*◌, ◌/◌, ◌^◌, ◌<◌, ◌≤◌}
use native.Mathlib.Omega.{arith}
use native.Mathlib.Nat.{mod-eq_of_lt}
use borrow.Author.Tests.{eqb-true, eqb-false, ltb-true, ltb-false, leb-false, le-leb, lt-leb}
use mathlib.Core.Bool.{Bool, true, false, not, cond}
use mathlib.Core.List.{List, [], ◌∷◌, reverse}
use mathlib.Core.Option.{Option, none, some, map}
use lib.Dec.{eqb, leb, ltb}
use lib.Count.{ones}
use lib.ListN.{length, take, get_or, length-take, length-reverse}
use lib.Seq.{length-take-le}
use Rattle.spec.specs.Config.{Config}
use Rattle.spec.specs.Entry.{indexes}
use Rattle.spec.specs.Prefix.{All, begins, any, keep}
use Rattle.spec.specs.Book.{Held, Book, same_mark, is_set, mark_at, find, drop_prefix, marking, unmarking}
use Rattle.spec.specs.Choice as choice
use Rattle.spec.specs.Choice.{charges_for_mark, charges, leaf_mark, full, leaving, withdrawn, withdrawn_by, room_made, appointed, entered, observed}
use Rattle.spec.specs.Refusal.{level_fits}
use Rattle.spec.specs.Call.{address_indexes}
use Rattle.spec.specs.Run.{State}
use Rattle.spec_laws.proofs.Lists.{all_map, all_any, all_kept, all_take}
use Rattle.spec_laws.proofs.Keeps.{Valid, InGuestArea}
use Rattle.spec_laws.proofs.Charges.{bare_unset}
use Rattle.spec_laws.proofs.Runs.{BookFits, set_keeps, withdrawn_keeps}
use Rattle.spec_laws.proofs.Choice.{room_unset}
use Rattle.spec_laws.proofs.Rules.{BookRules, ChargeRules, withdrawn_book, room_book}
use Rattle.spec_laws.proofs.Indexes.{indexes_length}
use Rattle.area_laws.proofs.Hosts.{indexes_small}
use Rattle.words.specs.After.{After}
use Rattle.area_laws.proofs.Whole.{Holds}
use Rattle.shadow.specs.Held.{shadow_area}
use Rattle.entry.specs.declared.HostPhysical.{HostPhysical}
use Rattle.pool.specs.declared.Pool.{Pool}
use Rattle.layout.specs.Layout.{page}
use Rattle.walk.proofs.Stands.{Stands}
use Rattle.marks.specs.declared.Marks.{Marks}
use Rattle.marks.specs.Key.{key_at, key_fits, keys_fit}
use Rattle.marks.specs.Table.{room, with_key, without_key, place_of}
use Rattle.marks.specs.Reading.{marks_of}
use Rattle.marks.proofs.Order.{SameMembers, members_length}
use Rattle.marks.proofs.Turn.{keys_count}
use Rattle.marks.proofs.Book.{keys_of, marks_count, marks_fit_lem, Sorted, sorted_fits, set_sorted, clear_sorted, fits, set_book, book_with, book_without}
use Rattle.choice.specs.declared.Choice.{Choice}
use Rattle.choice.specs.Window as window
use Rattle.choice.specs.Window.{charges_of}
use Rattle.choice.specs.Order.{leaves_before, leaving_of, place_by, without_of, with_of, moved_of}
use Rattle.choice.proofs.Automatic.{indexes_at, address_of, leaf_key_at, leaf_mark_at, key_in}
use Rattle.choice.proofs.Chosen.{Chosen, Leaves, chosen_charged, charges_are, chosen_cleared, chosen_with, leaving_is, leaving_place}
use Rattle.record.specs.declared.Record.{Record}
use Rattle.record.specs.Record.{config_of, head_tables, with_marks}
use Rattle.record.proofs.Rules.{Fits, fits_marks, holds_pool}
use Rattle.drops.specs.Drop.{drop_prefix_of}
use Rattle.drops_laws.proofs.Scan.{Dropped}
use Rattle.drops_laws.proofs.Held.{leaf_at}
use Rattle.drops_laws.proofs.Drops.{prefix_all, drop_prefix_lem}
use Rattle.drops_laws.proofs.Valid.{frames_at, entry_of, valid_entries, stays_same}
use Rattle.automatic.specs.Moves.{Move, moved, held_after, left_by, marked_of, then_by, withdrawn_of, room_made_of, leaf_key, appointed_of, appointed_in, charged_of}
use Rattle.calls.specs.Calls.{host_top, head_held}
use Rattle.claims.proofs.Chosen.{chosen_fits_lem}
use Rattle.claims.proofs.Invariant.{longer, top_by, Inv, stands}
use Rattle.claims.proofs.Moves.{invariant, inv_fits, inv_stands, inv_root, inv_shadow, inv_top, fits_held, maps_beside, shadow_drop, shadow_on, top_on, longer_keep, all_longer, find_keep}

-- a record with other marks, another choice, and other paths held
abbrev pub changed : Record → Marks → Choice → Pool → HostPhysical → Record
changed r t x p f = record {
  layout = r.layout;
  pools = record { host = r.pools.host; shadow = p };
  guest = record { root = r.guest.root; held = f; marks = t; choice = x };
}

-- a move that left o: no damage is met, and what it leaves stands for the book b
pub record Moves (s : State) (r : Record) (b : Book) (o : After Move) : Type 0 where
  pub marks : Marks
  pub choice : Choice
  pub pool : Pool
  pub frame : HostPhysical
  pub memory : List ℕ
  pub done : o ≡ moved (changed r marks choice pool frame) true memory
  pub next : Inv (record { config = config_of r; machine = s.machine; book = b }) (changed r marks choice pool frame) memory

-- nothing moved
pub stays : (s : State) (r : Record) (m : List ℕ) → Inv s r m → Moves s r s.book (moved r true m)
stays s r m h = record {
  marks = r.guest.marks;
  choice = r.guest.choice;
  pool = r.pools.shadow;
  frame = r.guest.held;
  memory = m;
  done = refl;
  next = record { fits = h.fits; sorted = h.sorted; root = h.root; maps = h.maps; area = h.area; book = h.book; valid = h.valid; marks = h.marks; chosen = h.chosen; shadow = h.shadow; top = h.top };
}

-- ---- the prefix of a mark

-- it leaves the path of no index where it has an index itself
begins_none : (is p : List ℕ) → 0 < length is → p ≡ [] → not (begins is p) ≡ true
begins_none [] p l e = absurd (omega arith)
begins_none (i ∷ is) p l e = ap (λ q. not (begins (i ∷ is) q)) e

none_of_lem : (is : List ℕ) → length is ≡ 0 → is ≡ []
none_of_lem [] e = refl
none_of_lem (i ∷ is) e = absurd (omega arith)

-- ---- any table that holds the marks of the book after the move, and any choice that stands beside it
module _ (s : State) (r : Record) (m : List ℕ) (h : Inv s r m) (k p : ℕ) (few : k ≤ r.layout.levels) (t : Marks) (x : Choice) (b : Book)
    (sorted : Sorted r.layout.levels t) (agree : SameMembers (marks_of r.layout.levels t) b.marks)
    (drops : b.held ≡ drop_prefix (indexes k p) s.book.held) (book : BookFits (config_of r) b) (chosen : Chosen (config_of r) x t b)
    (off : b.choice ≡ false → (b.automatic ≡ []) × (b.window ≡ [])) where
  is : List ℕ
  is = indexes k p

  long : length is ≡ k
  unfolding is
  long = indexes_length k p

  left : List Held
  left = drop_prefix (indexes k p) s.book.held

  F : List ℕ → ℕ
  F = frames_at (config_of r) (host_top r) m s.machine.root

  top : HostPhysical
  top = held_after k r.guest.held

  abbrev marked : State
  marked = record { config = config_of r; machine = s.machine; book = b }

  dropped : Dropped (config_of r) m (leaf_at (entry_of (config_of r) F) (longer left)) F (drop_prefix_of (config_of r) r.pools.shadow m (indexes k p))
  unfolding F left
  dropped =
      let held = s.book.held in
      let entries = valid_entries (config_of r) s.machine (host_top r) m (inv_stands h) (inv_root h) h.maps.few (longer held) (all_longer _ held h.valid) in
      let d = drop_prefix_lem (inv_shadow h) entries (indexes k p) (omega (arith, indexes_length k p)) (indexes_small k p) in
      subst (λ hs. Dropped (config_of r) m (leaf_at (entry_of (config_of r) F) hs) F (drop_prefix_of (config_of r) r.pools.shadow m (indexes k p)))
      (sym (longer_keep (λ x. not (begins (indexes k p) x.path)) held)) d

  top_fits_lem : (top.0 ≡ 0) ⊎ InGuestArea (config_of r) top.0
  unfolding top
  top_fits_lem = go (eqb k 0)
    where
      go : (b : Bool) → ((cond b (page 0) r.guest.held).0 ≡ 0) ⊎ InGuestArea (config_of r) (cond b (page 0) r.guest.held).0
      go true = inl refl
      go false = (inv_fits h).held

  -- a mark that keeps no index drops the path of no index
  top_is : top.0 ≡ top_by (F []) (find [] left)
  unfolding top F left is
  top_is = go (eqb k 0) refl
    where
      go : (b : Bool) → eqb k 0 ≡ b → (cond b (page 0) r.guest.held).0 ≡ top_by (F []) (find [] (drop_prefix (indexes k p) s.book.held))
      go true e =
          let none : indexes k p ≡ [] = none_of_lem (indexes k p) (indexes_length k p ∙ eqb-true k 0 e) in
          sym (ap (λ q. top_by (F []) (find [] (drop_prefix q s.book.held))) none ∙ ap (λ hs. top_by (F []) (find [] hs)) (prefix_all s.book.held))
      go false e =
          let z = eqb-false k 0 e in
          inv_top h ∙ sym (ap (top_by (F [])) (find_keep (λ x. not (begins (indexes k p) x.path)) s.book.held (all_any _ s.book.held (λ x q. begins_none (indexes k p) x.path (omega (arith, indexes_length k p)) q))))

  pub marked_moves : Moves s r b (marked_of r m k p t x)
  unfolding marked_of with_marks head_tables head_held F left top
  marked_moves = record {
    marks = t;
    choice = x;
    pool = dropped.pool;
    frame = held_after k r.guest.held;
    memory = dropped.memory;
    done = ap (left_by r (with_marks r t x) (held_after k r.guest.held)) dropped.done;
    next = next;
  }
    where
      c : Config
      c = config_of r

      valid : All (Valid (config_of r) s.machine) b.held
      valid = subst (All (Valid (config_of r) s.machine)) (sym drops) (all_kept (Valid (config_of r) s.machine) (λ x. not (begins (indexes k p) x.path)) s.book.held h.valid)

      next : Inv (record { config = config_of r; machine = s.machine; book = b }) (changed r t x dropped.pool (held_after k r.guest.held)) dropped.memory
      next =
          let q = changed r t x dropped.pool (held_after k r.guest.held) in
          let maps = maps_beside (config_of r) dropped.beside h.maps in
          let area = shadow_drop (config_of r) dropped.beside ∙ h.area in
          let now : Stands (config_of r) s.machine (host_top r) dropped.memory = stands (config_of r) s.machine r.pools.host dropped.memory maps area in
          let staying = all_map _ _ b.held (λ x v. stays_same (config_of r) s.machine x v) valid in
          let marks = marks_fit_lem (config_of r) t sorted.word (omega arith) ∙ sorted_fits r.layout.levels t sorted in
          let rule = chosen_fits_lem (config_of r) x t b chosen off in
          invariant (record { config = config_of r; machine = s.machine; book = b }) q dropped.memory
          (subst (Fits q) (sym dropped.beside.len) (fits_held (fits_marks (inv_fits h) t x marks rule) (record { pool = dropped.pool; frame = held_after k r.guest.held }) (holds_pool dropped.holds) top_fits_lem))
          sorted h.root maps area book valid agree chosen
          (shadow_on b.held s.machine s.machine (host_top r) (host_top r) m dropped.memory (inv_stands h) now (inv_root h) (inv_root h) h.maps.few staying
          (subst (λ hs. Holds (shadow_area (config_of r)) false dropped.pool dropped.memory (leaf_at (entry_of (config_of r) F) (longer hs)) F) (sym drops) dropped.holds))
          ((top_is ∙ ap (λ hs. top_by (F []) (find [] hs)) (sym drops)) ∙ top_on (config_of r) b.held s.machine s.machine (host_top r) (host_top r) m dropped.memory (inv_stands h) now (inv_root h) (inv_root h) h.maps.few staying)

-- only an empty list has no first
first_nothing : {A : Type 0} (f : A → A → Bool) (xs : List A) → choice.first_of f xs ≡ none → length xs ≡ 0
first_nothing f [] e = refl
first_nothing f (x ∷ xs) e = let z : ◌≡◌ {A = ℕ} 0 1 = cc in absurd (omega arith)

-- ---- what the invariant says of the marks
module _ (s : State) (r : Record) (m : List ℕ) (h : Inv s r m) (rules : BookRules (config_of r) s.book) where
  abbrev c : Config
  c = config_of r

  abbrev n : ℕ
  n = r.layout.levels

  abbrev t : Marks
  t = r.guest.marks

  abbrev x : Choice
  x = r.guest.choice

  abbrev b : Book
  b = s.book

  four : n ≡ 4
  four = (inv_fits h).sizes.deep

  keys_fit_lem : keys_fit n (keys_of t) ≡ true
  keys_fit_lem = sorted_fits n t h.sorted

  level_1 : level_fits c 1 ≡ true
  level_1 = rw (le-leb 1 (suc n) (omega arith))

  -- as many marks as places are set
  so_many : length b.marks ≡ ones t.set
  so_many = sym (members_length h.marks) ∙ marks_count n t h.sorted.word

  not_full : ltb (ones t.set) room ≡ true → full c b ≡ false
  not_full e = lt-leb 64 (length b.marks) (omega (arith, so_many, ltb-true (ones t.set) room e))

  is_full : ltb (ones t.set) room ≡ false → full c b ≡ true
  is_full e = le-leb 64 (length b.marks) (omega (arith, so_many, ltb-false (ones t.set) room e))

  pub free_place : full c b ≡ false → length (keys_of t) < room
  free_place e = omega (arith, keys_count t.place t.set h.sorted.word, so_many, leb-false 64 (length b.marks) e)

  -- ---- an automatic mark leaves
  withdraw_moves : (i : ℕ) → Leaves c x t i → Moves s r (withdrawn (indexes_at n t.place i) b) (withdrawn_of r m i)
  unfolding withdrawn_of
  withdraw_moves i l =
      subst (λ j. Moves s r (withdrawn (indexes_at n t.place i) b) (marked_of r m (n - 1) (get_or t.place j 0 / 8) (without_key t (get_or t.place j 0)) (without_of x i))) (sym (mod-eq_of_lt l.stands.inside))
      (marked_moves s r m h (n - 1) p (omega arith) (without_key t key) (without_of x i) (withdrawn q b)
      (clear_sorted n t key h.sorted there) members refl (withdrawn_keeps c q b h.book)
      (chosen_cleared c x t b h.chosen keys_fit_lem (unmarking (leaf_mark q) b) refl i l.automatic) (withdrawn_book c q b rules).off)
    where
      key : ℕ
      key = get_or t.place i 0

      p : ℕ
      p = get_or t.place i 0 / 8

      q : List ℕ
      q = indexes (n - 1) (get_or t.place i 0 / 8)

      there : any (eqb (get_or t.place i 0)) (keys_of t) ≡ true
      there = key_in t.place t.set i l.stands.inside l.stands.taken

      is_key : key_at n 1 (address_of (get_or t.place i 0 / 8)) ≡ get_or t.place i 0
      is_key = leaf_key_at c (get_or t.place i 0 / 8) (omega (arith, four)) l.small ∙ (let e : get_or t.place i 0 / 8 * 8 + 1 ≡ get_or t.place i 0 = omega (arith, l.stands.leaf) in e)

      members : SameMembers (marks_of n (without_key t (get_or t.place i 0))) (withdrawn (indexes (n - 1) (get_or t.place i 0 / 8)) b).marks
      members =
          subst (λ k. SameMembers (marks_of n (without_key t k)) (withdrawn (indexes (n - 1) (get_or t.place i 0 / 8)) b).marks) is_key
          (subst (λ y. SameMembers (marks_of n (without_key t (key_at n 1 (address_of (get_or t.place i 0 / 8))))) (keep (λ z. not (same_mark y z)) b.marks)) (leaf_mark_at c (get_or t.place i 0 / 8) (omega (arith, four)) l.small)
          (book_without c t b (omega (arith, four)) h.sorted h.marks (address_of (get_or t.place i 0 / 8)) 1 level_1 (subst (λ k. any (eqb k) (keys_of t) ≡ true) (sym is_key) there)))

  pub room_moves : Moves s r (room_made c b) (room_made_of r m)
  unfolding room_made_of leaving_of
  room_moves = go (ltb (ones t.set) room) refl
    where
      -- none can leave
      nobody : x.tally.count ≡ 0 → leaving b.window b.automatic ≡ none
      nobody e = leaving_is c x t b h.chosen keys_fit_lem ∙ ap (λ k. map (indexes_at n t.place) (choice.first_of (leaves_before n x.ring x.tally t.place) (reverse (take k x.order)))) e

      by : (o : Option ℕ) → leaving_of n x.ring x.tally x.order t.place ≡ o → (eqb x.tally.count 0 ≡ false) → Moves s r (withdrawn_by (leaving b.window b.automatic) b) (withdrawn_of r m (place_by o))
      by none e z = absurd (eqb-false x.tally.count 0 z (nothing_in e))
        where
          nothing_in : leaving_of n x.ring x.tally x.order t.place ≡ none → x.tally.count ≡ 0
          nothing_in e =
              let l : length (reverse (take x.tally.count x.order)) ≡ 0 = first_nothing (leaves_before n x.ring x.tally t.place) (reverse (take x.tally.count x.order)) e in
              sym (length-take-le x.tally.count x.order (omega (arith, h.chosen.few, h.chosen.long))) ∙ sym (length-reverse (take x.tally.count x.order)) ∙ l
      by (some i) e z =
          subst (λ o. Moves s r (withdrawn_by o b) (withdrawn_of r m i)) (sym (leaving_is c x t b h.chosen keys_fit_lem ∙ ap (map (indexes_at n t.place)) e))
          (withdraw_moves i (leaving_place c x t b h.chosen keys_fit_lem i e))

      none_left : (z : Bool) → eqb x.tally.count 0 ≡ z
          → Moves s r (withdrawn_by (leaving b.window b.automatic) b) (cond z (moved r true m) (withdrawn_of r m (place_by (leaving_of n x.ring x.tally x.order t.place))))
      none_left true e = subst (λ o. Moves s r (withdrawn_by o b) (moved r true m)) (sym (nobody (eqb-true x.tally.count 0 e))) (stays s r m h)
      none_left false e = by (leaving_of n x.ring x.tally x.order t.place) refl e

      go : (f : Bool) → ltb (ones t.set) room ≡ f
          → Moves s r (cond (full c b) (withdrawn_by (leaving b.window b.automatic) b) b)
          (cond f (moved r true m) (cond (eqb x.tally.count 0) (moved r true m) (withdrawn_of r m (place_by (leaving_of n x.ring x.tally x.order t.place)))))
      go true e = rw (not_full e) (stays s r m h)
      go false e = rw (is_full e) (none_left (eqb x.tally.count 0) refl)

  -- ---- an automatic mark is set
  appoint_moves : (p : ℕ) → p < 2 ^ (9 * (n - 1)) → full c b ≡ false → is_set (leaf_mark (indexes (n - 1) p)) b.marks ≡ false → b.choice ≡ true
      → Moves s r (appointed (indexes (n - 1) p) b) (appointed_of r m p)
  unfolding appointed_of
  appoint_moves p small free unset on =
      marked_moves s r m h (n - 1) p (omega arith) (with_key t (leaf_key p)) (with_of (moved_of x t.place (with_key t (leaf_key p)).place (with_key t (leaf_key p)).set) (place_of (with_key t (leaf_key p)).place (with_key t (leaf_key p)).set (leaf_key p)))
      (appointed (indexes (n - 1) p) b) (set_sorted n t (leaf_key p) h.sorted key_fits_lem new (free_place free)) members refl set_fits
      (chosen_with c x t b h.chosen h.sorted (free_place free) p new (marking (leaf_mark (indexes (n - 1) p)) b) refl)
      (λ z. let y : ◌≡◌ {A = ℕ} 0 1 = cc in absurd (omega arith))
    where
      is_key : key_at n 1 (address_of p) ≡ leaf_key p
      is_key = leaf_key_at c p (omega (arith, four)) small

      is_mark : mark_at c 1 (address_indexes c (address_of p)) ≡ leaf_mark (indexes (n - 1) p)
      is_mark = leaf_mark_at c p (omega (arith, four)) small

      new : any (eqb (leaf_key p)) (keys_of t) ≡ false
      new =
          subst (λ k. any (eqb k) (keys_of t) ≡ false) is_key
          (set_book c t b (omega (arith, four)) h.sorted h.marks (address_of p) 1 level_1 ∙ ap (λ y. is_set y b.marks) is_mark ∙ unset)

      key_fits_lem : key_fits n (leaf_key p) ≡ true
      key_fits_lem = subst (λ k. key_fits n k ≡ true) is_key (fits c t b (omega (arith, four)) h.sorted h.marks (address_of p) 1 level_1)

      members : SameMembers (marks_of n (with_key t (leaf_key p))) (leaf_mark (indexes (n - 1) p) ∷ b.marks)
      members =
          subst (λ k. SameMembers (marks_of n (with_key t k)) (leaf_mark (indexes (n - 1) p) ∷ b.marks)) is_key
          (subst (λ y. SameMembers (marks_of n (with_key t (key_at n 1 (address_of p)))) (y ∷ b.marks)) is_mark
          (book_with c t b (omega (arith, four)) h.sorted h.marks (address_of p) 1 level_1 (free_place free)))

      set_fits : BookFits c (appointed (indexes (n - 1) p) b)
      set_fits = let k = set_keeps c b (leaf_mark (indexes (n - 1) p)) (record { kept = indexes_length (n - 1) p; bound = omega arith }) h.book in record { marks = k.marks; held = k.held }

-- ---- the charge of a store

-- of two moves one after the other
pub moves_then : (s : State) (r : Record) (d e : Book) (o : After Move) (f : Record → List ℕ → After Move) → (k : Moves s r d o)
    → Moves (record { config = config_of r; machine = s.machine; book = d }) (changed r k.marks k.choice k.pool k.frame) e (f (changed r k.marks k.choice k.pool k.frame) k.memory)
    → Moves s r e (then_by o f)
moves_then s r d e o f k l = record {
  marks = l.marks;
  choice = l.choice;
  pool = l.pool;
  frame = l.frame;
  memory = l.memory;
  done = ap (λ y. then_by y f) k.done ∙ l.done;
  next = l.next;
}

module _ (s : State) (r : Record) (m : List ℕ) (h : Inv s r m) (rules : BookRules (config_of r) s.book) (on : s.book.choice ≡ true) (p : ℕ)
    (small : p < 2 ^ (9 * ((config_of r).levels - 1))) (charge : ChargeRules (config_of r) s.book.marks (indexes ((config_of r).levels - 1) p)) where
  abbrev P : List ℕ
  P = indexes (r.layout.levels - 1) p

  -- the store is in the window
  abbrev b1 : Book
  b1 = entered (some (indexes (r.layout.levels - 1) p)) s.book

  abbrev s1 : State
  s1 = record { config = config_of r; machine = s.machine; book = entered (some (indexes (r.layout.levels - 1) p)) s.book }

  abbrev x1 : Choice
  x1 = window.charged_of r.guest.choice p

  abbrev r1 : Record
  r1 = changed r r.guest.marks (window.charged_of r.guest.choice p) r.pools.shadow r.guest.held

  chosen1 : Chosen (config_of r) x1 r.guest.marks b1
  chosen1 = chosen_charged (config_of r) r.guest.choice r.guest.marks s.book h.chosen p

  is_on : s.book.choice ≡ false → ⊥
  is_on z = let y : ◌≡◌ {A = ℕ} 0 1 = cc in absurd (omega arith)

  rules1 : BookRules (config_of r) b1
  rules1 = record {
    marks = rules.marks;
    short = let l = length-take 64 (some P ∷ s.book.window) in omega arith;
    charges = all_take _ 64 (some P ∷ s.book.window) (charge.fits, rules.charges);
    paths = rules.paths;
    off = λ z. absurd (is_on z);
  }

  h1 : Inv s1 r1 m
  unfolding with_marks
  h1 = invariant s1 r1 m
      (fits_marks (inv_fits h) r.guest.marks x1 (inv_fits h).marks (chosen_fits_lem (config_of r) x1 r.guest.marks b1 chosen1 (λ z. absurd (is_on z))))
      h.sorted h.root h.maps h.area (record { marks = h.book.marks; held = h.book.held }) h.valid h.marks chosen1 (inv_shadow h) (inv_top h)

  k : Moves s1 r1 (room_made (config_of r) b1) (room_made_of r1 m)
  k = room_moves s1 r1 m h1 rules1

  abbrev b2 : Book
  b2 = room_made (config_of r) (entered (some (indexes (r.layout.levels - 1) p)) s.book)

  abbrev s2 : State
  s2 = record { config = config_of r; machine = s.machine; book = room_made (config_of r) (entered (some (indexes (r.layout.levels - 1) p)) s.book) }

  abbrev r2 : Record
  r2 = changed r1 k.marks k.choice k.pool k.frame

  rules2 : BookRules (config_of r) b2
  rules2 = room_book (config_of r) b1 rules1

  still_on : b2.choice ≡ true
  still_on = go (full (config_of r) b1) (leaving b1.window b1.automatic)
    where
      go : (f : Bool) (o : Option (List ℕ)) → (cond f (withdrawn_by o b1) b1).choice ≡ true
      go true none = on
      go true (some y) = on
      go false o = on

  -- with charges enough: room, then the mark
  marked_new : Moves s1 r1 (choice.appointed_in (config_of r) P b2) (then_by (room_made_of r1 m) (appointed_in p))
  marked_new = moves_then s1 r1 b2 (choice.appointed_in (config_of r) P b2) (room_made_of r1 m) (appointed_in p) k (new (ltb (ones k.marks.set) room) refl)
    where
      new : (f : Bool) → ltb (ones k.marks.set) room ≡ f → Moves s2 r2 (cond (full (config_of r) b2) b2 (appointed P b2)) (cond f (appointed_of r2 k.memory p) (moved r2 true k.memory))
      new true e =
          let free = not_full s2 r2 k.memory k.next rules2 e in
          rw free (appoint_moves s2 r2 k.memory k.next rules2 p small free (room_unset (config_of r) b1 (leaf_mark P) (bare_unset s.book.marks P charge.bare)) still_on)
      new false e = rw (is_full s2 r2 k.memory k.next rules2 e) (stays s2 r2 k.memory k.next)

  enough : (f : Bool) → Moves s1 r1 (cond f (choice.appointed_in (config_of r) P b2) b1) (cond f (then_by (room_made_of r1 m) (appointed_in p)) (moved r1 true m))
  enough true = marked_new
  enough false = stays s1 r1 m h1

  pub charge_moves : Moves s r (observed (config_of r) (some (indexes ((config_of r).levels - 1) p)) s.book) (charged_of r m p)
  unfolding observed charged_of with_marks
  charge_moves = subst (λ d. Moves s r d (charged_of r m p)) (sym (ap (λ z. cond z (choice.charged (config_of r) (some P) b1) s.book) on)) (record {
    marks = e.marks;
    choice = e.choice;
    pool = e.pool;
    frame = e.frame;
    memory = e.memory;
    done = ap (λ z. cond (leb charges_for_mark z) (then_by (room_made_of r1 m) (appointed_in p)) (moved r1 true m)) (charges_are (config_of r) x1 r.guest.marks b1 chosen1 p small) ∙ e.done;
    next = e.next;
  })
    where
      e : Moves s1 r1 (cond (leb charges_for_mark (charges P b1.window)) (choice.appointed_in (config_of r) P b2) b1)
          (cond (leb charges_for_mark (charges P b1.window)) (then_by (room_made_of r1 m) (appointed_in p)) (moved r1 true m))
      e = enough (leb charges_for_mark (charges P b1.window))
