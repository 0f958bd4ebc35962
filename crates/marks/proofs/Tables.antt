-- The keys of a table with a key more and with a key less; that they ascend still.
use mathlib.Core.Path.{◌≡◌, refl, sym, ap, ◌∙◌}
use mathlib.Core.Bool.{Bool, true, false, ◌&&◌, ◌||◌}
use mathlib.Core.List.Permᴰ
use mathlib.Core.List.{List, [], ◌∷◌, ◌++◌, map, map-append}
use Prim.Native.Nat.{ℕ, zero, suc, ◌-◌, ◌^◌, ◌<◌, ◌≤◌, min, max}
use native.Mathlib.Omega.{arith}
use native.Mathlib.Decide.{dec_le}
use borrow.Author.Tests.{lt-ltb, ltb-true, eqb-false}
use lib.Dec.{eqb, ltb}
use lib.Count.{ones}
use lib.ListN.{length, get_or, take, replicate, length-append}
use lib.Seq.{take-suc, take_at}
use Rattle.spec.specs.Prefix.{any}
use Rattle.bits.specs.Bit.{places, below}
use Rattle.bits.proofs.Laws.{clear_bit}
use Rattle.bits.proofs.Places.{places_split, places_below}
use Rattle.marks.specs.declared.Marks.{Marks}
use Rattle.marks.specs.Key.{key_fits, ascending}
use Rattle.marks.specs.Table.{room, keys, place_of, inserted, table_of, with_key, without_key}
use Rattle.marks.proofs.Turn.{keys_count}
use Rattle.marks.proofs.Search.{place_known, place_found}
use Rattle.marks.proofs.Insert.{inserted_length}
use Rattle.marks.proofs.Ascending.{and_left, and_right, ascending_above}
use Rattle.marks.proofs.Order.{SameMembers}

-- ---- a key more

-- the table of a list of keys holds them, in their order
first_places : (l : List ℕ) (n : ℕ) → n ≤ length l → map (λ i. get_or l i 0) (below n) ≡ take n l
unfolding below
first_places l zero h = refl
first_places l (suc n) h =
    map-append (λ i. get_or l i 0) (below n) (n ∷ [])
    ∙ ap (λ r. r ++ (get_or l n 0 ∷ [])) (first_places l n (omega arith)) ∙ sym (take-suc l n 0 (omega arith))

keys_table : (ks : List ℕ) → length ks ≤ room → keys (table_of ks).place (table_of ks).set ≡ ks
unfolding keys table_of
keys_table ks l =
    let all = ks ++ replicate (room - length ks) 0 in
    ap (map (λ i. get_or all i 0)) (places_below room (length ks) l)
    ∙ first_places all (length ks) (rw (length-append ks (replicate (room - length ks) 0)) (omega arith))
    ∙ take_at ks (replicate (room - length ks) 0) (length ks) refl

pub keys_with : (t : Marks) (k : ℕ) → t.set < 2 ^ 64 → length (keys t.place t.set) < room
    → keys (with_key t k).place (with_key t k).set ≡ inserted k (keys t.place t.set)
unfolding with_key
keys_with t k word free =
    let ks = keys t.place t.set in
    let long : length (inserted k ks) ≤ room = rw (inserted_length k ks) (omega arith) in
    let some = lt-ltb (ones t.set) room (omega (arith, keys_count t.place t.set word)) in
    rw some (keys_table (inserted k ks) long)

pub inserted_members : (k : ℕ) (xs : List ℕ) → SameMembers (inserted k xs) (k ∷ xs)
unfolding inserted
inserted_members k [] = Permᴰ.refl (k ∷ [])
inserted_members k (x ∷ xs) =
    elim (dec_le x k) [
      | yes le ↦
          let low : min x k ≡ x = omega arith in
          let high : max x k ≡ k = omega arith in
          Permᴰ.trans (Permᴰ.cons low (Permᴰ.trans (inserted_members (max x k) xs) (Permᴰ.cons high (Permᴰ.refl xs)))) (Permᴰ.swap refl refl)
      | no gt ↦
          let low : min x k ≡ k = omega arith in
          let high : max x k ≡ x = omega arith in
          Permᴰ.cons low (Permᴰ.trans (inserted_members (max x k) xs) (Permᴰ.cons high (Permᴰ.refl xs)))
    ]

-- ---- a key less

-- the keys before and after the one that goes
pub record Around (k : ℕ) (old new : List ℕ) : Type 0 where
  pub lower : List ℕ
  pub upper : List ℕ
  pub with_it : old ≡ lower ++ k ∷ upper
  pub without : new ≡ lower ++ upper

without_found : (t : Marks) (k : ℕ) → place_of t.place t.set k < room
    → without_key t k ≡ record { set = t.set - 2 ^ place_of t.place t.set k; place = t.place }
unfolding without_key
without_found t k l = rw (lt-ltb _ room l)

pub keys_without : (t : Marks) (k : ℕ) → any (eqb k) (keys t.place t.set) ≡ true
    → Around k (keys t.place t.set) (keys (without_key t k).place (without_key t k).set)
unfolding keys
keys_without t k e =
    let i = place_of t.place t.set k in
    let at : ℕ → ℕ = λ j. get_or t.place j 0 in
    let l : i < room = ltb-true i room (place_known t.place k t.set ∙ e) in
    let (s, g) = place_found t.place k t.set l in
    let r = places_split room t.set i (t.set - 2 ^ i) l s (clear_bit t.set i s).1 in
    record {
      lower = map at (places i t.set);
      upper = map at r.above;
      with_it = ap (map at) r.with_it ∙ map-append at (places i t.set) (i ∷ r.above)
          ∙ ap (λ x. map at (places i t.set) ++ x ∷ map at r.above) g;
      without = ap (λ (u : Marks). keys u.place u.set) (without_found t k l) ∙ ap (map at) r.without ∙ map-append at (places i t.set) r.above;
    }

pub around_members : (k : ℕ) (old new : List ℕ) → Around k old new → SameMembers old (k ∷ new)
around_members k old new a = rw (a.with_it, a.without) (Permᴰ.middle k a.lower a.upper)

-- ---- keys that ascend still do
module _ (n : ℕ) where
  ascending_lower : (last low : ℕ) (ks : List ℕ) → low ≤ last → ascending n last ks ≡ true → ascending n low ks ≡ true
  unfolding ascending
  ascending_lower last low [] l e = refl
  ascending_lower last low (x ∷ xs) l e =
      let f = and_left (ltb last x && key_fits n x) (ascending n x xs) e in
      let g = ltb-true last x (and_left (ltb last x) (key_fits n x) f) in
      rw (lt-ltb low x (omega arith), and_right (ltb last x) (key_fits n x) f) (and_right (ltb last x && key_fits n x) (ascending n x xs) e)

  pub ascending_with : (last k : ℕ) (ks : List ℕ) → ascending n last ks ≡ true → last < k → key_fits n k ≡ true → any (eqb k) ks ≡ false
      → ascending n last (inserted k ks) ≡ true
  unfolding ascending inserted
  ascending_with last k [] e l fit new = rw (lt-ltb last k l, fit)
  ascending_with last k (x ∷ xs) e l fit new =
      let f = and_left (ltb last x && key_fits n x) (ascending n x xs) e in
      let r = and_right (ltb last x && key_fits n x) (ascending n x xs) e in
      let g = ltb-true last x (and_left (ltb last x) (key_fits n x) f) in
      let fits = and_right (ltb last x) (key_fits n x) f in
      let (ne, other) = or_false_both (eqb k x) (any (eqb k) xs) new in
      let differ = eqb-false k x ne in
      elim (dec_le x k) [
        | yes le ↦
            let low : min x k ≡ x = omega arith in
            let high : max x k ≡ k = omega arith in
            rw (low, high, lt-ltb last x g, fits) (ascending_with x k xs r (omega arith) fit other)
        | no gt ↦
            let low : min x k ≡ k = omega arith in
            let high : max x k ≡ x = omega arith in
            rw (low, high, lt-ltb last k l, fit) (ascending_with k x xs (ascending_lower x k xs (omega arith) r) (omega arith) fits (ascending_above n x x xs (omega arith) r))
      ]
    where
      or_false_both : (a b : Bool) → (a || b) ≡ false → (a ≡ false) × (b ≡ false)
      or_false_both true b e = absurd (let z : ◌≡◌ {A = ℕ} 0 1 = cc in omega arith)
      or_false_both false b e = (refl, e)

  ascending_cut : (last k : ℕ) (lower upper : List ℕ) → ascending n last (lower ++ k ∷ upper) ≡ true → ascending n last (lower ++ upper) ≡ true
  unfolding ascending
  ascending_cut last k [] upper e =
      let f = and_left (ltb last k && key_fits n k) (ascending n k upper) e in
      let g = ltb-true last k (and_left (ltb last k) (key_fits n k) f) in
      ascending_lower k last upper (omega arith) (and_right (ltb last k && key_fits n k) (ascending n k upper) e)
  ascending_cut last k (x ∷ lower) upper e =
      let f = and_left (ltb last x && key_fits n x) (ascending n x (lower ++ k ∷ upper)) e in
      rw f (ascending_cut x k lower upper (and_right (ltb last x && key_fits n x) (ascending n x (lower ++ k ∷ upper)) e))

  pub ascending_without : (k : ℕ) (old new : List ℕ) → Around k old new → ascending n 0 old ≡ true → ascending n 0 new ≡ true
  ascending_without k old new a e = rw a.without (ascending_cut 0 k a.lower a.upper (rw a.with_it at e))
