-- Paths: the indexes from the top, and prefixes with the last index first.
use mathlib.Core.Path.{◌≡◌, refl, sym, ap, ◌∙◌, subst}
use mathlib.Core.Logic.{◌≢◌, ◌⊎◌, inl, inr}
use Prim.Native.Nat.{ℕ, ◌+◌, ◌<◌, ◌≤◌}
use native.Mathlib.Omega.{arith}
use mathlib.Core.List.{List, [], ◌∷◌}
use lib.ListN.{length, get_or}
use Rattle.pool.specs.Header.{guest_room}

-- the prefix x and then the indexes
unfoldable pub onto : List ℕ → List ℕ → List ℕ
onto x [] = x
onto x (i ∷ is) = onto (i ∷ x) is

pub onto_long : (x is : List ℕ) → length (onto x is) ≡ length x + length is
unfolding onto
onto_long x [] = omega arith
onto_long x (i ∷ is) = let e = onto_long (i ∷ x) is in omega arith

pub onto_other : (x is y : List ℕ) → length y < length x → y ≢ onto x is
onto_other x is y l e = let u = ap length e in let v = onto_long x is in omega arith

onto_back : (x is : List ℕ) → onto [] (onto x is) ≡ onto is x
unfolding onto
onto_back x [] = refl
onto_back x (i ∷ is) = onto_back (i ∷ x) is

-- turned round twice
pub turn_turn : (is : List ℕ) → onto [] (onto [] is) ≡ is
unfolding onto
turn_turn is = onto_back [] is

pub turn_empty : onto [] [] ≡ []
unfolding onto
turn_empty = refl

pub turn_none : (q : List ℕ) → onto [] q ≡ [] → q ≡ []
turn_none q e = sym (turn_turn q) ∙ ap (onto []) e ∙ turn_empty

-- every index is one of a table
abbrev pub Small : List ℕ → Type 0
Small [] = Unit {0}
Small (i ∷ is) = (i < 512) × Small is

-- y is x, or x and some of the indexes, but not all
abbrev pub Pre : List ℕ → List ℕ → List ℕ → Type 0
Pre y x [] = ⊥
Pre y x (i ∷ is) = (y ≡ x) ⊎ Pre y (i ∷ x) is

-- y is a proper prefix of z
abbrev pub Ext : List ℕ → List ℕ → Type 0
Ext y [] = ⊥
Ext y (k ∷ z) = (y ≡ z) ⊎ Ext y z

pub ext_trans : (y x z : List ℕ) → Ext y x → Ext x z → Ext y z
ext_trans y x [] a c = c
ext_trans y x (k ∷ z) a (inl e) = inr (subst (Ext y) e a)
ext_trans y x (k ∷ z) a (inr c) = inr (ext_trans y x z a c)

pub ext_long : (y z : List ℕ) → Ext y z → length y < length z
ext_long y [] h = absurd h
ext_long y (k ∷ z) (inl e) = let u = ap length e in omega arith
ext_long y (k ∷ z) (inr h) = let u = ext_long y z h in omega arith

-- the empty prefix is one of every path that has an index
pub ext_empty : (z : List ℕ) → (z ≡ []) ⊎ Ext [] z
ext_empty [] = inl refl
ext_empty (k ∷ z) = elim (ext_empty z) [ inl a ↦ inr (inl (sym a)) | inr a ↦ inr (inr a) ]

ext_onto : (y x is : List ℕ) → Ext y x → Ext y (onto x is)
unfolding onto
ext_onto y x [] h = h
ext_onto y x (i ∷ is) h = ext_onto y (i ∷ x) is (inr h)

pub pre_ext : (y x is : List ℕ) → Pre y x is → Ext y (onto x is)
unfolding onto
pre_ext y x [] h = absurd h
pre_ext y x (i ∷ is) (inl e) = ext_onto y (i ∷ x) is (inl e)
pre_ext y x (i ∷ is) (inr h) = pre_ext y (i ∷ x) is h

pub ext_pre : (y x is : List ℕ) → Ext y (onto x is) → Ext y x ⊎ Pre y x is
unfolding onto
ext_pre y x [] h = inl h
ext_pre y x (i ∷ is) h = elim (ext_pre y (i ∷ x) is h) [ inl a ↦ elim a [ inl e ↦ inr (inl e) | inr e ↦ inl e ] | inr a ↦ inr (inr a) ]

pub pre_long : (y x is : List ℕ) → Pre y x is → length x ≤ length y
pre_long y x [] h = absurd h
pre_long y x (i ∷ is) (inl e) = let u = ap length e in omega arith
pre_long y x (i ∷ is) (inr h) = let u = pre_long y (i ∷ x) is h in omega arith

-- no leaf stands at x or on the way, but at the end
abbrev pub Clear : (List ℕ → ℕ) → List ℕ → List ℕ → Type 0
Clear lv x [] = Unit {0}
Clear lv x (i ∷ is) = (lv x ≡ 0) × Clear lv (i ∷ x) is

pub clear_by_lem : (lv : List ℕ → ℕ) (x is : List ℕ) → ((y : List ℕ) → Pre y x is → lv y ≡ 0) → Clear lv x is
clear_by_lem lv x [] h = tt
clear_by_lem lv x (i ∷ is) h = (h x (inl refl), clear_by_lem lv (i ∷ x) is (λ y k. h y (inr k)))

-- the list gives the host frame of the guest table of each prefix, by depth, from x of depth d on; each fits a header
abbrev pub Guests : (List ℕ → ℕ) → List ℕ → ℕ → List ℕ → List ℕ → Type 0
Guests guest gs d x [] = Unit {0}
Guests guest gs d x (i ∷ is) = (get_or gs d 0 ≡ guest x) × (guest x < guest_room) × Guests guest gs (d + 1) (i ∷ x) is
