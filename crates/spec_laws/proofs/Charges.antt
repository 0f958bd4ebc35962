-- What a store is charged to: a prefix of N − 1 indexes that carries no mark.
-- Assumes nothing.
use mathlib.Core.Path.{◌≡◌, refl, sym, ap, subst}
use Prim.Native.Nat.{ℕ, zero, suc, ◌-◌, max, ◌<◌, ◌≤◌}
use native.Mathlib.Omega.{arith}
use mathlib.Core.Bool.{Bool, true, false, not, ◌&&◌, ◌||◌, cond}
use mathlib.Core.Logic.{inl, inr}
use mathlib.Core.List.{List, [], ◌∷◌}
use mathlib.Core.Option.{Option, none, some}
use lib.Dec.{T, eqb, eqb→eq}
use lib.ListN.{length, take, drop}
use lib.Seq.{length-take-le}
use Rattle.spec.specs.declared.Fault.{Fault}
use Rattle.spec.specs.Config.{Config}
use Rattle.spec.specs.Prefix.{begins, any, keep}
use Rattle.spec.specs.Walk.{Result, granted, failed}
use Rattle.spec.specs.Plain.{Place}
use Rattle.spec.specs.Book.{Mark, Held, same_mark, is_set, depth, reads_word, reads_frame, watched}
use Rattle.spec.specs.Choice.{better, first_of, lower, reads_leaf, leaf_prefixes, charge_of, leaf_mark}
use Rattle.spec.specs.Prefix.{All}
use Rattle.spec_laws.proofs.Lists.{all_map, all_any, all_keep, none_passes, and_left, and_right, or_right, same_is, begins_refl, is_true, is_false, not_both}
use Rattle.spec_laws.proofs.Depth.{MarkFits, PathFits, depth_above, begins_is}

abbrev pub IfSome : {A : Type 0} → (A → Type 0) → Option A → Type 0
IfSome P none = Unit {0}
IfSome P (some x) = P x

-- the first of a list, in whatever order, has what all have
pub first_has : {A : Type 0} (P : A → Type 0) (f : A → A → Bool) (xs : List A) → All P xs → IfSome P (first_of f xs)
first_has P f [] a = tt
first_has {A} P f (x ∷ xs) a = go (first_of f xs) (first_has P f xs a.1)
  where
    pick : (y : A) (b : Bool) → P y → P (cond b x y)
    pick y true h = a.0
    pick y false h = h

    go : (o : Option A) → IfSome P o → P (better f x o)
    go none h = a.0
    go (some y) h = pick y (f x y) h

pub leaf_all : (c : Config) (P : List ℕ → Type 0) (hs : List Held) → All (λ (h : Held). P (take (c.levels - 1) h.path)) hs → All P (leaf_prefixes c hs)
leaf_all c P [] a = tt
leaf_all c P (h ∷ hs) a = (a.0, leaf_all c P hs a.1)

-- what is left of a list past k members has one only if the list is longer
past_long : {A : Type 0} (f : A → Bool) (k : ℕ) (xs : List A) → T (any f (drop k xs)) → k < length xs
past_long f zero [] h = absurd h
past_long f zero (x ∷ xs) h = omega arith
past_long f (suc k) [] h = absurd h
past_long f (suc k) (x ∷ xs) h = let l = past_long f k xs h in omega (arith, l)

-- what every prefix of a held path of N indexes has whose walk read N entries, the charge has
pub charge_has : (c : Config) (P : List ℕ → Type 0) (Q : Held → Type 0) (i : ℕ) (r : Result Fault Place) (hs : List Held)
    → ((h : Held) → Q h → length h.path ≡ c.levels → c.levels - 1 < length h.reads → P (take (c.levels - 1) h.path))
    → All Q hs → IfSome P (charge_of c i r hs)
unfolding charge_of
charge_has c P Q i (failed x) hs f a = tt
charge_has c P Q i (granted p) hs f a =
    first_has P lower (leaf_prefixes c (keep (reads_leaf c p.0 i) hs)) (leaf_all c P (keep (reads_leaf c p.0 i) hs)
    (all_map (λ h. Q h × T (reads_leaf c p.0 i h)) (λ (h : Held). P (take (c.levels - 1) h.path)) (keep (reads_leaf c p.0 i) hs)
    (λ h k. f h k.0 (eqb→eq (length h.path) c.levels (and_left (eqb (length h.path) c.levels) _ k.1))
    (past_long _ (c.levels - 1) h.reads (and_right (eqb (length h.path) c.levels) _ k.1)))
    (all_keep Q (reads_leaf c p.0 i) hs a)))

pub charge_long : (c : Config) (i : ℕ) (r : Result Fault Place) (hs : List Held) → IfSome (λ p. length p ≡ c.levels - 1) (charge_of c i r hs)
charge_long c i r hs =
    charge_has c (λ p. length p ≡ c.levels - 1) (λ h. Unit {0}) i r hs (λ h q l z. length-take-le (c.levels - 1) h.path (omega arith)) (all_any (λ h. Unit {0}) hs (λ h. tt))

-- every address under a charged prefix has depth 0: it carries no mark of any level
abbrev pub Bare : List Mark → List ℕ → Type 0
Bare ms p = (is : List ℕ) → T (begins p is) → depth ms is ≡ 0

pub charge_bare : (c : Config) (ms : List Mark) (i : ℕ) (r : Result Fault Place) (hs : List Held) → All (MarkFits c.levels) ms
    → All (λ (h : Held). PathFits c.levels ms h.path (length h.reads)) hs → IfSome (Bare ms) (charge_of c i r hs)
charge_bare c ms i r hs ok a = charge_has c (Bare ms) (λ h. PathFits c.levels ms h.path (length h.reads)) i r hs bare a
  where
    bare : (h : Held) → PathFits c.levels ms h.path (length h.reads) → length h.path ≡ c.levels → c.levels - 1 < length h.reads → Bare ms (take (c.levels - 1) h.path)
    bare h f l z is t =
        let n = c.levels in
        let p = h.path in
        let at : f.at ≡ 0 = elim f.long [ inl x ↦ omega (arith, l, x.0, x.1) | inr x ↦ omega (arith, z, x.1) ] in
        let d = f.deep p (begins_refl p) in
        let k : length (take (n - 1) p) ≡ n - 1 = length-take-le (n - 1) p (omega arith) in
        let e : take (n - 1) is ≡ take (n - 1) p = rw k at (begins_is (take (n - 1) p) is t) in
        let a = depth_above n 0 is p e ms ok in
        omega arith

-- a mark that is set counts for every address under it
pub depth_set : (m : Mark) (ms : List Mark) (is : List ℕ) → T (is_set m ms) → T (begins m.prefix is) → m.level ≤ depth ms is
depth_set m [] is h t = absurd h
depth_set m (y ∷ ms) is h t = go (same_mark m y) refl h (depth_set m ms is)
  where
    go : (b : Bool) → same_mark m y ≡ b → T (b || is_set m ms) → (T (is_set m ms) → T (begins m.prefix is) → m.level ≤ depth ms is)
        → m.level ≤ max (cond (begins y.prefix is) y.level 0) (depth ms is)
    go true e h ih =
        let k : T (same_mark m y) = subst T (sym e) tt in
        let l : m.level ≡ y.level = eqb→eq m.level y.level (and_left (eqb m.level y.level) _ k) in
        let p : m.prefix ≡ y.prefix = same_is m.prefix y.prefix (and_right (eqb m.level y.level) _ k) in
        let z = is_true (begins y.prefix is) (subst (λ q. T (begins q is)) p t) in
        rw z (omega arith)
    go false e h ih = let k = ih h t in omega arith

pub bare_unset : (ms : List Mark) (p : List ℕ) → Bare ms p → is_set (leaf_mark p) ms ≡ false
bare_unset ms p f =
    is_false (is_set (leaf_mark p) ms) (λ t. let a = f p (begins_refl p) in let b = depth_set (leaf_mark p) ms p t (begins_refl p) in absurd (omega arith))

-- ---- who is charged dropped something

any_drop : {A : Type 0} (f : A → Bool) (k : ℕ) (xs : List A) → T (any f (drop k xs)) → T (any f xs)
any_drop f zero xs h = h
any_drop f (suc k) [] h = h
any_drop f (suc k) (x ∷ xs) h = or_right (f x) (any f xs) (any_drop f k xs h)

-- a path that counts for a charge is one that the store drops
pub leaf_dropped : (c : Config) (t i : ℕ) (h : Held) → T (reads_leaf c t i h) → T (reads_word t i h)
leaf_dropped c t i h k = any_drop (λ r. eqb t r.0 && eqb i r.1) (c.levels - 1) h.reads (and_right (eqb (length h.path) c.levels) _ k)

word_frame : (t i : ℕ) (rs : List (ℕ × ℕ)) → T (any (λ r. eqb t r.0 && eqb i r.1) rs) → T (any (λ r. eqb t r.0) rs)
word_frame t i [] h = h
word_frame t i (r ∷ rs) h = go (eqb t r.0) h (word_frame t i rs)
  where
    go : (b : Bool) → T ((b && eqb i r.1) || any (λ r. eqb t r.0 && eqb i r.1) rs)
        → (T (any (λ r. eqb t r.0 && eqb i r.1) rs) → T (any (λ r. eqb t r.0) rs)) → T (b || any (λ r. eqb t r.0) rs)
    go true h ih = tt
    go false h ih = ih h

keep_nothing : {A : Type 0} (f : A → Bool) (xs : List A) → All (λ x. T (not (f x))) xs → keep f xs ≡ []
keep_nothing f [] a = refl
keep_nothing {A} f (x ∷ xs) a = go (f x) a.0 (keep_nothing f xs a.1)
  where
    go : (b : Bool) → T (not b) → keep f xs ≡ [] → cond b (x ∷ keep f xs) (keep f xs) ≡ []
    go true k e = absurd k
    go false k e = e

-- a store into a frame that is not watched is charged to nobody: on a quiet day no mark moves
pub quiet_charge : (c : Config) (i : ℕ) (p : Place) (hs : List Held) → T (not (watched p.0 hs)) → charge_of c i (granted p) hs ≡ none
unfolding charge_of
quiet_charge c i p hs q =
    ap (λ ks. first_of lower (leaf_prefixes c ks))
    (keep_nothing (reads_leaf c p.0 i) hs (all_map (λ h. T (not (reads_frame p.0 h))) (λ h. T (not (reads_leaf c p.0 i h))) hs
    (λ h k. off h k (reads_leaf c p.0 i h) refl) (none_passes (reads_frame p.0) hs q)))
  where
    off : (h : Held) → T (not (reads_frame p.0 h)) → (b : Bool) → reads_leaf c p.0 i h ≡ b → T (not b)
    off h k true e = not_both (reads_frame p.0 h) (word_frame p.0 i h.reads (leaf_dropped c p.0 i h (subst T (sym e) tt))) k
    off h k false e = tt
