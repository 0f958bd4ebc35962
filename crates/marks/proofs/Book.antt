-- A table of marks beside the book's: the same depth, the same rule, and the same marks after a set or a clear.
use mathlib.Core.Path.{◌≡◌, refl, sym, ap, ◌∙◌}
use mathlib.Core.Bool.{Bool, true, false, not, cond}
use mathlib.Core.List.Permᴰ
use mathlib.Core.List.{List, [], ◌∷◌, map}
use mathlib.Core.Option.{some}
use Prim.Native.Nat.{ℕ, ◌-◌, ◌^◌, ◌<◌, ◌≤◌}
use native.Mathlib.Omega.{arith}
use borrow.Author.Tests.{ltb-true, le-leb}
use lib.Dec.{eqb, ltb}
use lib.Count.{ones, ones-le}
use lib.Pow.{pow_mono, pow_pos}
use lib.ListN.{length, length-map}
use Rattle.spec.specs.Config.{Config}
use Rattle.spec.specs.Prefix.{any, keep}
use Rattle.spec.specs.declared.Lookup.{Lookup}
use Rattle.spec.specs.Search.{search}
use Rattle.spec.specs.Book.{Mark, Book, mark_at, same_mark, is_set, depth}
use Rattle.spec.specs.Call.{address_indexes}
use Rattle.spec.specs.Refusal.{level_fits, mark_fits, marks_fit, all_of, no_two_alike, first_failed}
use Rattle.entry.specs.Levels.{of_levels}
use Rattle.spec_laws.proofs.Search.{search_depth}
use Rattle.spec.specs.Prefix.{All}
use Rattle.marks.specs.declared.Marks.{Marks}
use Rattle.marks.specs.Key.{low_page, key_at, key_fits, keys_fit, ascending}
use Rattle.marks.specs.Table.{room, keys, lookup_in, place_of, inserted, table_of, with_key, without_key, number}
use Rattle.marks.specs.Reading.{mark_of, marks_of}
use Rattle.marks.proofs.Pages.{low_small, low_indexes}
use Rattle.marks.proofs.Turn.{keys_end, keys_count}
use Rattle.marks.proofs.Insert.{inserted_length}
use Rattle.marks.proofs.Ascending.{and_right, level_below, ascending_fits}
use Rattle.marks.proofs.Reading.{search_keys, fits_marks, fits_keys, set_keys, mark_key, key_positive, key_fits_lem}
use Rattle.marks.proofs.Order.{SameMembers, members_any, members_depth, members_map, members_alike, members_without}
use Rattle.marks.proofs.Tables.{keys_with, keys_without, inserted_members, around_members, ascending_with, ascending_without}

-- the keys of a table
abbrev pub keys_of : Marks → List ℕ
keys_of t = keys t.place t.set

-- ---- a table that breaks no rule

pub lookup_marks : (c : Config) (t : Marks) (a : ℕ) → keys_fit c.levels (keys_of t) ≡ true
    → lookup_in c.levels t a ≡ search c.levels (marks_of c.levels t) (address_indexes c a)
unfolding marks_of
lookup_marks c t a fits =
    search_keys c.levels (low_page c.levels a) (keys_of t) (low_small c.levels a) fits
    ∙ ap (search c.levels (map (mark_of c.levels) (keys_of t))) (low_indexes c a)

pub depth_marks : (c : Config) (t : Marks) (a : ℕ) → keys_fit c.levels (keys_of t) ≡ true
    → (lookup_in c.levels t a).depth ≡ depth (marks_of c.levels t) (address_indexes c a)
unfolding marks_of
depth_marks c t a fits =
    ap (λ (f : Lookup). f.depth) (lookup_marks c t a fits)
    ∙ search_depth c.levels (marks_of c.levels t) (address_indexes c a) (fits_marks c.levels (keys_of t) fits)

-- ---- any table, damaged ones too

pub marks_count : (n : ℕ) (t : Marks) → t.set < 2 ^ 64 → length (marks_of n t) ≡ ones t.set
unfolding marks_of
marks_count n t l = length-map (keys_of t) (mark_of n) ∙ keys_count t.place t.set l

-- a table of no mark
pub no_marks : (n : ℕ) (t : Marks) → t.set ≡ 0 → marks_of n t ≡ []
unfolding marks_of
no_marks n t e = ap (map (mark_of n)) (keys_end t.place t.set e)

-- the rule of a record for its marks
pub marks_fit_lem : (c : Config) (t : Marks) → t.set < 2 ^ 64 → room ≤ c.mark_room → marks_fit c (marks_of c.levels t) ≡ keys_fit c.levels (keys_of t)
unfolding marks_of
marks_fit_lem c t l r =
    let few : length (map (mark_of c.levels) (keys_of t)) ≤ c.mark_room =
    rw (length-map (keys_of t) (mark_of c.levels), keys_count t.place t.set l) (omega (arith, ones-le 64 t.set l)) in
    rw (le-leb _ c.mark_room few) (fits_keys c (keys_of t))

below_8 : (n level : ℕ) → n < 7 → level_fits (of_levels n) level ≡ true → level < 8
below_8 n level small e = omega (arith, level_below n level e)

-- ---- what a granted call says: every test held
pub all_held : (xs : List (Bool × ℕ)) → All (λ x. 0 < x.1) xs → number (first_failed xs) ≡ 0 → All (λ x. x.0 ≡ true) xs
all_held [] p e = tt
all_held (x ∷ xs) p e = go x.0 e (all_held xs p.1)
  where
    go : (t : Bool) → number (cond t (first_failed xs) (some x.1)) ≡ 0 → (number (first_failed xs) ≡ 0 → All (λ x. x.0 ≡ true) xs)
        → (t ≡ true) × All (λ x. x.0 ≡ true) xs
    go true f h = (refl, h f)
    go false f h = absurd (omega (arith, p.0))

-- ---- a table as every call leaves it

-- its set places are those of a word, and their keys ascend
pub record Sorted (n : ℕ) (t : Marks) : Type 0 where
  pub word : t.set < 2 ^ 64
  pub ascend : ascending n 0 (keys_of t) ≡ true

pub sorted_fits : (n : ℕ) (t : Marks) → Sorted n t → keys_fit n (keys_of t) ≡ true
sorted_fits n t s = ascending_fits n 0 (keys_of t) s.ascend

pub none_sorted : (n : ℕ) (t : Marks) → t.set ≡ 0 → Sorted n t
unfolding ascending
none_sorted n t e = record { word = omega arith; ascend = ap (ascending n 0) (keys_end t.place t.set e) }

-- after each set and clear
module _ (n : ℕ) (t : Marks) (k : ℕ) (s : Sorted n t) where
  set_word : (with_key t k).set < 2 ^ 64
  unfolding with_key table_of
  set_word = go (ltb (ones t.set) room) refl
    where
      more : List ℕ
      more = inserted k (keys_of t)

      go : (b : Bool) → ltb (ones t.set) room ≡ b → (cond b (table_of more) t).set < 2 ^ 64
      go true e =
          let few : length more ≤ 64 = omega (arith, inserted_length k (keys_of t), keys_count t.place t.set s.word, ltb-true (ones t.set) room e) in
          let top : 2 ^ length more ≤ 2 ^ 64 = pow_mono few in
          omega (arith, pow_pos (length more))
      go false e = s.word

  clear_word : (without_key t k).set < 2 ^ 64
  unfolding without_key
  clear_word = go (place_of t.place t.set k)
    where
      go : (i : ℕ) → (cond (ltb i room) (record { set = t.set - 2 ^ i; place = t.place }) t).set < 2 ^ 64
      go i = by (ltb i room)
        where
          by : (b : Bool) → (cond b (record { set = t.set - 2 ^ i; place = t.place }) t).set < 2 ^ 64
          by true = omega (arith, s.word)
          by false = s.word

  pub set_sorted : key_fits n k ≡ true → any (eqb k) (keys_of t) ≡ false → length (keys_of t) < room → Sorted n (with_key t k)
  set_sorted fits new free = record {
    word = set_word;
    ascend = rw (keys_with t k s.word free) (ascending_with n 0 k (keys_of t) s.ascend (key_positive n k fits) fits new);
  }

  pub clear_sorted : any (eqb k) (keys_of t) ≡ true → Sorted n (without_key t k)
  clear_sorted held = record { word = clear_word; ascend = ascending_without n k _ _ (keys_without t k held) s.ascend }

-- ---- such a table that holds the book's marks
module _ (c : Config) (t : Marks) (b : Book) (small : c.levels < 7) (sorted : Sorted c.levels t) (agree : SameMembers (marks_of c.levels t) b.marks) where
  whole : keys_fit c.levels (keys_of t) ≡ true
  whole = sorted_fits c.levels t sorted

  pub depth_book : (a : ℕ) → (lookup_in c.levels t a).depth ≡ depth b.marks (address_indexes c a)
  depth_book a = depth_marks c t a whole ∙ members_depth (address_indexes c a) agree

  -- of any address, and a level that fits
  module _ (a n : ℕ) (level : level_fits c n ≡ true) where
    pub fits : key_fits c.levels (key_at c.levels n a) ≡ true
    fits = key_fits_lem c n (low_page c.levels a) (low_small c.levels a) (below_8 c.levels n small level) level

    pub its_mark : mark_of c.levels (key_at c.levels n a) ≡ mark_at c n (address_indexes c a)
    its_mark = mark_key c n (low_page c.levels a) (low_small c.levels a) (below_8 c.levels n small level) ∙ ap (mark_at c n) (low_indexes c a)

    pub set_book : any (eqb (key_at c.levels n a)) (keys_of t) ≡ is_set (mark_at c n (address_indexes c a)) b.marks
    unfolding marks_of
    set_book =
        sym (set_keys c.levels (key_at c.levels n a) (keys_of t) fits)
        ∙ ap (λ (m : Mark). is_set m (map (mark_of c.levels) (keys_of t))) its_mark
        ∙ members_any (same_mark (mark_at c n (address_indexes c a))) agree

    pub book_with : length (keys_of t) < room → SameMembers (marks_of c.levels (with_key t (key_at c.levels n a))) (mark_at c n (address_indexes c a) ∷ b.marks)
    unfolding marks_of
    book_with free =
        let k = key_at c.levels n a in
        let more = members_map (mark_of c.levels) (inserted_members k (keys_of t)) in
        rw (keys_with t k sorted.word free) (Permᴰ.trans more (Permᴰ.cons its_mark agree))

    pub book_without : any (eqb (key_at c.levels n a)) (keys_of t) ≡ true
        → SameMembers (marks_of c.levels (without_key t (key_at c.levels n a))) (keep (λ y. not (same_mark (mark_at c n (address_indexes c a)) y)) b.marks)
    unfolding marks_of
    book_without held =
        let k = key_at c.levels n a in
        let marks = map (mark_of c.levels) (keys_of t) in
        let alone = sym (members_alike agree) ∙ and_right (all_of (mark_fits c) marks) (no_two_alike marks) (fits_keys c (keys_of t) ∙ whole) in
        let less = members_map (mark_of c.levels) (around_members k _ _ (keys_without t k held)) in
        let old = Permᴰ.trans (Permᴰ.symm agree) less in
        members_without (mark_at c n (address_indexes c a)) b.marks (marks_of c.levels (without_key t k)) (rw its_mark at old) alone
