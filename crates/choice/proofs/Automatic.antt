-- The automatic marks as places of a table: which places they are, that no two are alike, and where a key stands.
use mathlib.Core.Path.{◌≡◌, refl, sym, ap, ap₂, ◌∙◌, subst}
use mathlib.Core.Bool.{Bool, true, false, not, ◌&&◌, ◌||◌, cond, and-false, or-true, true≢false, false≢true}
use mathlib.Core.List.Permᴰ
use mathlib.Core.List.{List, [], ◌∷◌, ◌++◌, map, map-append, reverse, reverse-cons}
use mathlib.Core.Option
use mathlib.Core.Option.{Option, none, some}
use Prim.Native.Nat.{ℕ, suc, ◌+◌, ◌-◌, ◌*◌, ◌/◌, ◌%◌, ◌^◌, ◌≤◌, ◌<◌}
use native.Mathlib.Nat.{mod-eq_of_lt}
use native.Mathlib.Omega.{arith}
use native.Mathlib.Decide.{ℕ_discrete}
use borrow.Author.Tests.{eq-eqb, ne_eqb, eqb-true, eqb-false, lt-ltb, ltb-true, not-true}
use lib.Dec.{T, eqb, leb, ltb}
use lib.Count.{ones}
use lib.Pow.{shl_lt}
use lib.ListN.{length, get_or, take}
use Rattle.spec.specs.Config.{Config}
use Rattle.spec.specs.Entry.{page_of, indexes}
use Rattle.spec.specs.Prefix.{All, same, any, keep}
use Rattle.spec.specs.Book.{Mark, mark_at, same_mark, is_set}
use Rattle.spec.specs.Call.{address_indexes}
use Rattle.spec.specs.Choice.{better, first_of, leaf_mark}
use Rattle.spec.specs.Refusal.{all_of, no_two_alike, no_two_same, automatic_fits}
use Rattle.spec_laws.proofs.Lists.{all_map, all_any, all_append, and_first, and_second, or_first, or_second}
use Rattle.spec_laws.proofs.Charges.{IfSome, first_has}
use Rattle.spec_laws.proofs.Choice.{any_kept, mark_is}
use Rattle.spec_laws.proofs.Added.{any_append}
use Rattle.spec_laws.proofs.Indexes.{eqb_sym, indexes_above, indexes_same}
use Rattle.bits.specs.Bit.{bit, places}
use Rattle.bits.proofs.Laws.{Changed, clear_bit}
use Rattle.bits.proofs.Places.{places_split}
use Rattle.marks.specs.declared.Marks.{Marks}
use Rattle.marks.specs.Key.{low_page, key_of, key_at, key_fits, keys_fit}
use Rattle.marks.specs.Table.{keys, place_of, with_key, cleared, without_key}
use Rattle.marks.specs.Reading.{mark_of, marks_of}
use Rattle.marks.proofs.Pages.{low_indexes}
use Rattle.marks.proofs.Search.{place_known, place_found}
use Rattle.marks.proofs.Order.{members_any, members_map, members_alike}
use Rattle.marks.proofs.Tables.{Around, around_members, inserted_members, keys_with}
use Rattle.marks.proofs.Reading.{alike_keys, set_keys, first_fits, others_fit}
use Rattle.marks.proofs.Book.{keys_of}
use Rattle.choice.specs.Window.{room}
use Rattle.choice.specs.Order.{entry_fits, order_fits}

-- the prefix, of n levels, of the mark of level 1 at a place
abbrev pub indexes_at : ℕ → List ℕ → ℕ → List ℕ
indexes_at n place i = indexes (n - 1) (get_or place i 0 / 8)

-- ---- lists

module _ {A : Type 0} where
  pub all_reverse : (P : A → Type 0) (xs : List A) → All P xs → All P (reverse xs)
  all_reverse P [] a = tt
  all_reverse P (x ∷ xs) a = subst (All P) (sym (reverse-cons x xs)) (all_append P (reverse xs) (x ∷ []) (all_reverse P xs a.1) (a.0, tt))

  -- what a map makes
  pub all_made : {B : Type 0} (f : A → B) (P : B → Type 0) (xs : List A) → All (λ x. P (f x)) xs → All P (map f xs)
  all_made f P [] a = tt
  all_made f P (x ∷ xs) a = (a.0, all_made f P xs a.1)

  pub all_mapped_lem : {B : Type 0} (f : A → B) (g : B → Bool) (xs : List A) → All (λ x. g (f x) ≡ true) xs → all_of g (map f xs) ≡ true
  all_mapped_lem f g [] a = refl
  all_mapped_lem f g (x ∷ xs) a = rw a.0 (all_mapped_lem f g xs a.1)

  pub any_mapped : {B : Type 0} (f : A → B) (g : B → Bool) (h : A → Bool) (xs : List A) → All (λ x. g (f x) ≡ h x) xs → any g (map f xs) ≡ any h xs
  any_mapped f g h [] a = refl
  any_mapped f g h (x ∷ xs) a = ap₂ ◌||◌ a.0 (any_mapped f g h xs a.1)

-- the first of what a map makes, where it keeps the order
pub first_mapped : {A B : Type 0} (f : A → B) (d : B → B → Bool) (e : A → A → Bool) (P : A → Type 0)
    → ((x y : A) → P x → P y → d (f x) (f y) ≡ e x y) → (xs : List A) → All P xs → first_of d (map f xs) ≡ Option.map f (first_of e xs)
first_mapped f d e P h [] a = refl
first_mapped {A} {B} f d e P h (x ∷ xs) a = ap (λ o. some (better d (f x) o)) (first_mapped f d e P h xs a.1) ∙ go (first_of e xs) (first_has P e xs a.1)
  where
    pick : (y : A) (s : Bool) → cond s (f x) (f y) ≡ f (cond s x y)
    pick y true = refl
    pick y false = refl

    go : (o : Option A) → IfSome P o → ◌≡◌ {A = Option B} (some (better d (f x) (Option.map f o))) (some (f (better e x o)))
    go none q = refl
    go (some y) q = ap (λ s. some (cond s (f x) (f y))) (h x y a.0 q) ∙ ap (λ z. some z) (pick y (e x y))

-- two tests of numbers that hold together
pub eqb_agree : (a b i j : ℕ) → (i ≡ j → a ≡ b) → (a ≡ b → i ≡ j) → eqb a b ≡ eqb i j
eqb_agree a b i j f g =
    elim (ℕ_discrete i j) [ yes e ↦ eq-eqb a b (f e) ∙ sym (eq-eqb i j e) | no ne ↦ ne_eqb a b (λ e. ne (g e)) ∙ sym (ne_eqb i j ne) ]

-- each number of a list is in it
pub each_in : (is : List ℕ) → All (λ i. any (eqb i) is ≡ true) is
each_in [] = tt
each_in (i ∷ is) = (
  ap (λ s. s || any (eqb i) is) (eq-eqb i i refl),
  all_map (λ j. any (eqb j) is ≡ true) (λ j. any (eqb j) (i ∷ is) ≡ true) is (λ j h. ap (λ s. eqb j i || s) h ∙ or-true (eqb j i)) (each_in is),
)

-- what each has, one of them has
pub in_has : (P : ℕ → Type 0) (n : ℕ) (xs : List ℕ) → All P xs → any (eqb n) xs ≡ true → P n
in_has P n [] a h = absurd (false≢true h)
in_has P n (x ∷ xs) a h = go (eqb n x) refl h (in_has P n xs a.1)
  where
    go : (s : Bool) → eqb n x ≡ s → (s || any (eqb n) xs) ≡ true → (any (eqb n) xs ≡ true → P n) → P n
    go true e k ih = subst P (sym (eqb-true n x e)) a.0
    go false e k ih = ih k

-- no two are alike by the test e
abbrev pub no_two : {A : Type 0} → (A → A → Bool) → List A → Bool
no_two e [] = true
no_two e (x ∷ xs) = not (any (e x) xs) && no_two e xs

abbrev pub apart : List ℕ → Bool
apart is = no_two eqb is

-- nor of what a map makes, where it keeps the test
pub mapped_two : {A B : Type 0} (f : A → B) (d : B → B → Bool) (e : A → A → Bool) (P : A → Type 0)
    → ((x y : A) → P x → P y → d (f x) (f y) ≡ e x y) → (xs : List A) → All P xs → no_two d (map f xs) ≡ no_two e xs
mapped_two f d e P h [] a = refl
mapped_two f d e P h (x ∷ xs) a =
    ap₂ (λ s r. not s && r) (any_mapped f (d (f x)) (e x) xs (all_map P _ xs (λ y q. h x y a.0 q) a.1)) (mapped_two f d e P h xs a.1)

pub kept_apart : (f : ℕ → Bool) (is : List ℕ) → apart is ≡ true → apart (keep f is) ≡ true
kept_apart f [] e = refl
kept_apart f (i ∷ is) e = go (f i) (kept_apart f is (and_second (not (any (eqb i) is)) (apart is) e))
  where
    alone : any (eqb i) (keep f is) ≡ false
    alone = any_kept (eqb i) f is (not-true (any (eqb i) is) (and_first (not (any (eqb i) is)) (apart is) e))

    go : (s : Bool) → apart (keep f is) ≡ true → apart (cond s (i ∷ keep f is) (keep f is)) ≡ true
    go true k = rw alone k
    go false k = k

pub more_apart : (i : ℕ) (is : List ℕ) → apart is ≡ true → any (eqb i) is ≡ false → apart (is ++ (i ∷ [])) ≡ true
more_apart i [] e new = refl
more_apart i (j ∷ is) e new =
    let alone = not-true (any (eqb j) is) (and_first (not (any (eqb j) is)) (apart is) e) in
    let other : eqb j i ≡ false = eqb_sym j i ∙ or_first (eqb i j) (any (eqb i) is) new in
    rw (any_append (eqb j) is (i ∷ []), alone, other)
    (more_apart i is (and_second (not (any (eqb j) is)) (apart is) e) (or_second (eqb i j) (any (eqb i) is) new))

-- ---- the places of automatic marks

-- a place that is set, with a mark of level 1
pub record LeafPlace (place : List ℕ) (set i : ℕ) : Type 0 where
  pub inside : i < room
  pub taken : bit set i ≡ 1
  pub leaf : get_or place i 0 % 8 ≡ 1

entry_place : (place : List ℕ) (set i : ℕ) → entry_fits place set i ≡ true → LeafPlace place set i
entry_place place set i e =
    let both = and_first (ltb i room && eqb (bit set i) 1) (eqb (get_or place i 0 % 8) 1) e in
    record {
      inside = ltb-true i room (and_first (ltb i room) (eqb (bit set i) 1) both);
      taken = eqb-true (bit set i) 1 (and_second (ltb i room) (eqb (bit set i) 1) both);
      leaf = eqb-true (get_or place i 0 % 8) 1 (and_second (ltb i room && eqb (bit set i) 1) (eqb (get_or place i 0 % 8) 1) e);
    }

place_entry : (place : List ℕ) (set i : ℕ) → LeafPlace place set i → entry_fits place set i ≡ true
place_entry place set i p = rw (lt-ltb i room p.inside, eq-eqb (bit set i) 1 p.taken, eq-eqb (get_or place i 0 % 8) 1 p.leaf)

-- with the place i taken out of the set, each other was one before
before : (place : List ℕ) (set i : ℕ) → LeafPlace place set i → (j : ℕ) → LeafPlace place (set - 2 ^ i) j → LeafPlace place set j × (eqb i j ≡ false)
before place set i p j q =
    let rest : Changed set i (set - 2 ^ i) 0 = (clear_bit set i p.taken).1 in
    let other : j ≡ i → ⊥ = λ e. let z : ◌≡◌ {A = ℕ} 1 0 = sym q.taken ∙ ap (bit (set - 2 ^ i)) e ∙ rest.same in omega arith in
    (record { inside = q.inside; taken = sym (rest.other j other) ∙ q.taken; leaf = q.leaf }, ne_eqb i j (λ e. other (sym e)))

pub none_equal : (i : ℕ) (is : List ℕ) → All (λ j. eqb i j ≡ false) is → any (eqb i) is ≡ false
none_equal i [] a = refl
none_equal i (j ∷ is) a = rw a.0 (none_equal i is a.1)

-- where only the place i changed, the others are what they were
pub still_placed : (place : List ℕ) (set next i : ℕ) → ((j : ℕ) → (j ≡ i → ⊥) → bit next j ≡ bit set j)
    → (is : List ℕ) → any (eqb i) is ≡ false → All (LeafPlace place set) is → All (LeafPlace place next) is
still_placed place set next i other [] n a = tt
still_placed place set next i other (j ∷ is) n a =
    let differ = eqb-false i j (or_first (eqb i j) (any (eqb i) is) n) in (
      record { inside = a.0.inside; taken = other j (λ e. differ (sym e)) ∙ a.0.taken; leaf = a.0.leaf },
      still_placed place set next i other is (or_second (eqb i j) (any (eqb i) is) n) a.1,
    )

-- the rule of the order says two things: each is such a place, and no two are equal
module _ (place : List ℕ) where
  placed_both : (set : ℕ) (is : List ℕ) → order_fits place set is ≡ true → All (LeafPlace place set) is × (apart is ≡ true)
  unfolding order_fits
  placed_both set [] e = (tt, refl)
  placed_both set (i ∷ is) e =
      let p = entry_place place set i (and_first (entry_fits place set i) (order_fits place (set - 2 ^ i) is) e) in
      let r = placed_both (set - 2 ^ i) is (and_second (entry_fits place set i) (order_fits place (set - 2 ^ i) is) e) in
      let Here : ℕ → Type 0 = λ j. LeafPlace place set j × (eqb i j ≡ false) in
      let others : All Here is = all_map (LeafPlace place (set - 2 ^ i)) Here is (before place set i p) r.0 in (
        (p, all_map Here (LeafPlace place set) is (λ j q. q.0) others),
        rw (none_equal i is (all_map Here (λ j. eqb i j ≡ false) is (λ j q. q.1) others)) r.1,
      )

  pub placed_each : (set : ℕ) (is : List ℕ) → order_fits place set is ≡ true → All (LeafPlace place set) is
  placed_each set is e = (placed_both set is e).0

  pub placed_apart : (set : ℕ) (is : List ℕ) → order_fits place set is ≡ true → apart is ≡ true
  placed_apart set is e = (placed_both set is e).1

  pub placed_from : (set : ℕ) (is : List ℕ) → All (LeafPlace place set) is → apart is ≡ true → order_fits place set is ≡ true
  unfolding order_fits
  placed_from set [] a e = refl
  placed_from set (i ∷ is) a e =
      let alone = not-true (any (eqb i) is) (and_first (not (any (eqb i) is)) (apart is) e) in
      rw (place_entry place set i a.0)
      (placed_from (set - 2 ^ i) is (still_placed place set (set - 2 ^ i) i (clear_bit set i a.0.taken).1.other is alone a.1)
      (and_second (not (any (eqb i) is)) (apart is) e))

  -- there are no more of them than set places
  pub placed_few : (set : ℕ) (is : List ℕ) → order_fits place set is ≡ true → length is ≤ ones set
  unfolding order_fits
  placed_few set [] e = omega arith
  placed_few set (i ∷ is) e =
      let p = entry_place place set i (and_first (entry_fits place set i) (order_fits place (set - 2 ^ i) is) e) in
      let less = placed_few (set - 2 ^ i) is (and_second (entry_fits place set i) (order_fits place (set - 2 ^ i) is) e) in
      omega (arith, (clear_bit set i p.taken).2)

-- what is kept of some marks
pub kept_set : (g : Mark → Bool) (m : Mark) (ms : List Mark) → is_set m (keep g ms) ≡ (is_set m ms && g m)
kept_set g m [] = refl
kept_set g m (y ∷ ms) = go (same_mark m y) refl (g y) refl (kept_set g m ms)
  where
    alike : same_mark m y ≡ true → g m ≡ g y
    alike e = ap g (mark_is m y (subst T (sym e) tt))

    go : (s : Bool) → same_mark m y ≡ s → (d : Bool) → g y ≡ d → is_set m (keep g ms) ≡ (is_set m ms && g m)
        → is_set m (cond d (y ∷ keep g ms) (keep g ms)) ≡ ((s || is_set m ms) && g m)
    go true e true q ih = ap (λ s. s || is_set m (keep g ms)) e ∙ sym (alike e ∙ q)
    go true e false q ih = ih ∙ ap (λ s. is_set m ms && s) (alike e ∙ q) ∙ and-false (is_set m ms) ∙ sym (alike e ∙ q)
    go false e true q ih = ap (λ s. s || is_set m (keep g ms)) e ∙ ih
    go false e false q ih = ih

-- ---- keys and their places

-- the keys around the one at a set place
keys_at : (place : List ℕ) (set i : ℕ) → i < room → bit set i ≡ 1 → Around (get_or place i 0) (keys place set) (keys place (set - 2 ^ i))
unfolding keys
keys_at place set i l s =
    let at : ℕ → ℕ = λ j. get_or place j 0 in
    let r = places_split room set i (set - 2 ^ i) l s (clear_bit set i s).1 in
    record {
      lower = map at (places i set);
      upper = map at r.above;
      with_it = ap (map at) r.with_it ∙ map-append at (places i set) (i ∷ r.above);
      without = ap (map at) r.without ∙ map-append at (places i set) r.above;
    }

pub key_in : (place : List ℕ) (set i : ℕ) → i < room → bit set i ≡ 1 → any (eqb (get_or place i 0)) (keys place set) ≡ true
key_in place set i l s =
    let k = get_or place i 0 in
    members_any (eqb k) (around_members k (keys place set) (keys place (set - 2 ^ i)) (keys_at place set i l s))
    ∙ ap (λ b. b || any (eqb k) (keys place (set - 2 ^ i))) (eq-eqb k k refl)

-- a table without a key, by the key's place
pub without_found : (t : Marks) (k i : ℕ) → place_of t.place t.set k ≡ i → i < room → without_key t k ≡ record { set = t.set - 2 ^ i; place = t.place }
unfolding without_key
without_found t k i e l = ap (cleared t) e ∙ rw (lt-ltb i room l)

-- the keys of a table with one more
pub with_keys : (t : Marks) (k : ℕ) → t.set < 2 ^ 64 → length (keys_of t) < room → (j : ℕ) → any (eqb j) (keys_of (with_key t k)) ≡ (eqb j k || any (eqb j) (keys_of t))
with_keys t k word free j = ap (any (eqb j)) (keys_with t k word free) ∙ members_any (eqb j) (inserted_members k (keys_of t))

-- the specification's tests that no two are alike
same_two : (ps : List (List ℕ)) → no_two_same ps ≡ no_two same ps
same_two [] = refl
same_two (p ∷ ps) = ap (λ r. not (any (same p) ps) && r) (same_two ps)

alike_two : (ms : List Mark) → no_two_alike ms ≡ no_two same_mark ms
alike_two [] = refl
alike_two (m ∷ ms) = ap (λ r. not (is_set m ms) && r) (alike_two ms)

leaves_alike : (ps : List (List ℕ)) → no_two_alike (map leaf_mark ps) ≡ no_two_same ps
leaves_alike ps =
    alike_two (map leaf_mark ps) ∙ mapped_two leaf_mark same_mark same (λ p. Unit {0}) (λ p q a b. refl) ps (all_any _ ps (λ p. tt)) ∙ sym (same_two ps)

module _ (n : ℕ) where
  -- of keys that fit, each fits, and none stands twice
  each_fits : (ks : List ℕ) → keys_fit n ks ≡ true → All (λ k. key_fits n k ≡ true) ks
  each_fits [] f = tt
  each_fits (k ∷ ks) f = (first_fits n k ks f, each_fits ks (others_fit n k ks f))

  once : (k : ℕ) (lower upper : List ℕ) → keys_fit n (lower ++ k ∷ upper) ≡ true → any (eqb k) (lower ++ upper) ≡ false
  unfolding keys_fit
  once k [] upper f =
      not-true (any (eqb k) upper) (and_second (key_fits n k) (not (any (eqb k) upper)) (and_first (key_fits n k && not (any (eqb k) upper)) (keys_fit n upper) f))
  once k (x ∷ lower) upper f =
      let later = lower ++ k ∷ upper in
      let new = not-true (any (eqb x) later) (and_second (key_fits n x) (not (any (eqb x) later)) (and_first (key_fits n x && not (any (eqb x) later)) (keys_fit n later) f)) in
      let differ = or_first (eqb x k) (any (eqb x) (lower ++ upper)) (sym (members_any (eqb x) (Permᴰ.middle k lower upper)) ∙ new) in
      rw (eqb_sym k x, differ) (once k lower upper (others_fit n x later f))

  -- a key of level 1 that fits: its prefix, and the mark that it stands for
  leaf_small : (k : ℕ) → key_fits n k ≡ true → k % 8 ≡ 1 → k / 8 < 2 ^ (9 * (n - 1))
  unfolding key_fits
  leaf_small k f e = rw e at (ltb-true (k / 8) (2 ^ (9 * (n - k % 8))) (and_second (leb 1 (k % 8) && leb (k % 8) (suc n)) _ f))

  leaf_key_lem : (k : ℕ) → key_fits n k ≡ true → k % 8 ≡ 1 → leaf_mark (indexes (n - 1) (k / 8)) ≡ mark_of n k
  unfolding mark_of
  leaf_key_lem k f e = rw (e, lt-ltb (k / 8) (2 ^ (9 * (n - 1))) (leaf_small k f e))

  -- a table whose keys fit
  module _ (t : Marks) (fits : keys_fit n (keys_of t) ≡ true) where
    abbrev key : ℕ → ℕ
    key i = get_or t.place i 0

    pub same_key : (i j : ℕ) → i < room → bit t.set i ≡ 1 → j < room → bit t.set j ≡ 1 → key i ≡ key j → i ≡ j
    same_key i j li si lj sj e =
        elim (ℕ_discrete i j) [
          | yes q ↦ q
          | no ne ↦
              let a = keys_at t.place t.set i li si in
              let none : any (eqb (key i)) (keys t.place (t.set - 2 ^ i)) ≡ false =
              rw a.without (once (key i) a.lower a.upper (rw a.with_it at fits)) in
              let still : bit (t.set - 2 ^ i) j ≡ 1 = (clear_bit t.set i si).1.other j (λ q. ne (sym q)) ∙ sj in
              let held = key_in t.place (t.set - 2 ^ i) j lj still in
              absurd (true≢false (sym held ∙ ap (λ k. any (eqb k) (keys t.place (t.set - 2 ^ i))) (sym e) ∙ none))
        ]

    -- a key is found where it stands
    pub place_self : (i : ℕ) → i < room → bit t.set i ≡ 1 → place_of t.place t.set (key i) ≡ i
    place_self i l s =
        let j = place_of t.place t.set (key i) in
        let lj : j < room = ltb-true j room (place_known t.place (key i) t.set ∙ key_in t.place t.set i l s) in
        let (sj, e) = place_found t.place (key i) t.set lj in
        same_key j i lj sj l s e

    module _ (i : ℕ) (p : LeafPlace t.place t.set i) where
      at_fits : key_fits n (key i) ≡ true
      at_fits = in_has (λ k. key_fits n k ≡ true) (key i) (keys_of t) (each_fits (keys_of t) fits) (key_in t.place t.set i p.inside p.taken)

      pub prefix_small : key i / 8 < 2 ^ (9 * (n - 1))
      prefix_small = leaf_small (key i) at_fits p.leaf

      pub leaf_at_lem : leaf_mark (indexes_at n t.place i) ≡ mark_of n (key i)
      leaf_at_lem = leaf_key_lem (key i) at_fits p.leaf

      pub leaf_set : is_set (leaf_mark (indexes_at n t.place i)) (marks_of n t) ≡ true
      unfolding marks_of
      leaf_set =
          ap (λ m. is_set m (map (mark_of n) (keys_of t))) leaf_at_lem ∙ set_keys n (key i) (keys_of t) at_fits
          ∙ key_in t.place t.set i p.inside p.taken

    -- prefixes at two places are the same where the places are
    pub prefixes_same : (i j : ℕ) → LeafPlace t.place t.set i → LeafPlace t.place t.set j
        → same (indexes_at n t.place i) (indexes_at n t.place j) ≡ eqb i j
    prefixes_same i j p q =
        indexes_same (n - 1) (key i / 8) (key j / 8) (prefix_small i p) (prefix_small j q)
        ∙ eqb_agree (key i / 8) (key j / 8) i j (ap (λ l. key l / 8))
        (λ e. same_key i j p.inside p.taken q.inside q.taken (omega (arith, p.leaf, q.leaf)))

    -- the mark at a place is that of a key where the key is found there
    pub leaf_is : (j k : ℕ) → LeafPlace t.place t.set j → any (eqb k) (keys_of t) ≡ true
        → same_mark (leaf_mark (indexes_at n t.place j)) (mark_of n k) ≡ eqb (place_of t.place t.set k) j
    leaf_is j k p held =
        let i = place_of t.place t.set k in
        let l : i < room = ltb-true i room (place_known t.place k t.set ∙ held) in
        ap (λ m. same_mark m (mark_of n k)) (leaf_at_lem j p) ∙ alike_keys n (key j) k (at_fits j p)
        ∙ eqb_agree (key j) k i j (λ e. ap key (sym e) ∙ (place_found t.place k t.set l).1)
        (λ e. ap (place_of t.place t.set) (sym e) ∙ place_self j p.inside p.taken)

    none_alike : (is : List ℕ) → All (LeafPlace t.place t.set) is → no_two_same (map (indexes_at n t.place) is) ≡ apart is
    none_alike is a =
        same_two (map (indexes_at n t.place) is)
        ∙ mapped_two (indexes_at n t.place) same eqb (LeafPlace t.place t.set) prefixes_same is a

    -- the rule of the automatic marks
    pub automatic_fits_lem : (is : List ℕ) → order_fits t.place t.set is ≡ true
        → automatic_fits (marks_of n t) (map (indexes_at n t.place) (reverse is)) ≡ true
    automatic_fits_lem is e =
        let f = indexes_at n t.place in
        let each = placed_each t.place t.set is e in
        let set : all_of (λ p. is_set (leaf_mark p) (marks_of n t)) (map f (reverse is)) ≡ true =
        all_mapped_lem f (λ p. is_set (leaf_mark p) (marks_of n t)) (reverse is)
        (all_reverse _ is (all_map (LeafPlace t.place t.set) (λ i. is_set (leaf_mark (f i)) (marks_of n t) ≡ true) is leaf_set each)) in
        rw set
        (sym (leaves_alike (map f (reverse is))) ∙ members_alike (members_map leaf_mark (members_map f (Permᴰ.reverse is)))
        ∙ leaves_alike (map f is) ∙ none_alike is each ∙ placed_apart t.place t.set is e)

-- ---- a prefix as a number: its mark is that of level 1 at an address
abbrev pub address_of : ℕ → ℕ
address_of p = p * 2 ^ 21

module _ (c : Config) (p : ℕ) (one : 0 < c.levels) (small : p < 2 ^ (9 * (c.levels - 1))) where
  leaf_page : low_page c.levels (address_of p) ≡ p * 512
  unfolding low_page page_of
  leaf_page =
      let page : p * 2 ^ 21 / 4096 ≡ p * 512 = omega arith in
      let bits : 9 * c.levels ≡ 9 * (c.levels - 1) + 9 = omega arith in
      let below : p * 512 < 2 ^ (9 * c.levels) = rw bits (shl_lt (9 * (c.levels - 1)) 9 small) in
      ap (λ (n : ℕ). n % 2 ^ (9 * c.levels)) page ∙ mod-eq_of_lt below

  pub leaf_key_at : key_at c.levels 1 (address_of p) ≡ p * 8 + 1
  unfolding key_of
  leaf_key_at = rw leaf_page (omega arith)

  pub leaf_mark_at : mark_at c 1 (address_indexes c (address_of p)) ≡ leaf_mark (indexes (c.levels - 1) p)
  leaf_mark_at =
      let high : p * 512 / 2 ^ 9 ≡ p = omega arith in
      ap leaf_mark (ap (take (c.levels - 1)) (sym (low_indexes c (address_of p)) ∙ ap (indexes c.levels) leaf_page)
      ∙ sym (indexes_above c.levels 1 (p * 512)) ∙ ap (indexes (c.levels - 1)) high)
