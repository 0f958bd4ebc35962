-- The operator's marks and the automatic ones in one book: what each change of the choice leaves, and what a run keeps.
-- Assumes nothing.
use mathlib.Core.Path.{◌≡◌, refl, sym, ap, ap₂, ◌∙◌, subst}
use Prim.Native.Nat.{ℕ, suc, ◌≤◌, ◌<◌}
use native.Mathlib.Omega.{arith}
use mathlib.Core.Bool.{Bool, true, false, not, ◌&&◌, ◌||◌, cond, true≢false}
use mathlib.Core.List.{List, [], ◌∷◌}
use mathlib.Core.Option.{Option, none, some}
use lib.Dec.{T, eqb, eqb→eq, eqb_refl, leb}
use lib.ListN.{length, take}
use Rattle.spec.specs.Config.{Config}
use Rattle.spec.specs.Prefix.{begins, same, any, keep}
use Rattle.spec.specs.Book.{Mark, Held, Book, Window, same_mark, is_set, marking, unmarking}
use Rattle.spec.specs.Choice.{window_room, leaf_mark, is_automatic, owned, full, leaving, goes_before, withdrawn, withdrawn_by, room_made, appointed, appointed_in, charges, charges_for_mark, charged, entered, observed, operated}
use Rattle.spec.specs.Prefix.{All}
use Rattle.spec_laws.proofs.Lists.{all_map, all_any, all_keep, all_kept, any_has, none_passes, and_left, and_right, both, or_left, or_right, same_is, same_refl, is_true, is_false, is_not, not_is}
use Rattle.spec_laws.proofs.Charges.{IfSome, first_has}

-- ---- what is kept of a list

pub keep_keep : {A : Type 0} (f g h : A → Bool) (xs : List A) → All (λ x. (g x && f x) ≡ h x) xs → keep f (keep g xs) ≡ keep h xs
keep_keep f g h [] a = refl
keep_keep {A} f g h (x ∷ xs) a = go (g x) a.0 (keep_keep f g h xs a.1)
  where
    go : (b : Bool) → (b && f x) ≡ h x → keep f (keep g xs) ≡ keep h xs → keep f (cond b (x ∷ keep g xs) (keep g xs)) ≡ cond (h x) (x ∷ keep h xs) (keep h xs)
    go true e ih = ap₂ (λ t ys. cond t (x ∷ ys) ys) e ih
    go false e ih = ih ∙ ap (λ t. cond t (x ∷ keep h xs) (keep h xs)) e

pub keep_same : {A : Type 0} (f g : A → Bool) (xs : List A) → All (λ x. f x ≡ g x) xs → keep f xs ≡ keep g xs
keep_same f g [] a = refl
keep_same f g (x ∷ xs) a = ap₂ (λ t ys. cond t (x ∷ ys) ys) a.0 (keep_same f g xs a.1)

pub keep_most : {A : Type 0} (f : A → Bool) (xs : List A) → length (keep f xs) ≤ length xs
keep_most f [] = omega arith
keep_most {A} f (x ∷ xs) = go (f x) (keep_most f xs)
  where
    go : (b : Bool) → length (keep f xs) ≤ length xs → length (cond b (x ∷ keep f xs) (keep f xs)) ≤ suc (length xs)
    go true ih = omega arith
    go false ih = omega arith

-- one at least is taken away
pub keep_fewer : {A : Type 0} (f : A → Bool) (xs : List A) → T (any f xs) → length (keep (λ x. not (f x)) xs) < length xs
keep_fewer f [] h = absurd h
keep_fewer {A} f (x ∷ xs) h = go (f x) h (keep_fewer f xs) (keep_most (λ y. not (f y)) xs)
  where
    go : (b : Bool) → T (b || any f xs) → (T (any f xs) → length (keep (λ y. not (f y)) xs) < length xs) → length (keep (λ y. not (f y)) xs) ≤ length xs
        → length (cond (not b) (x ∷ keep (λ y. not (f y)) xs) (keep (λ y. not (f y)) xs)) < suc (length xs)
    go true k ih m = omega arith
    go false k ih m = let l = ih k in omega arith

pub any_map : {A : Type 0} (f g : A → Bool) (xs : List A) → ((x : A) → T (f x) → T (g x)) → T (any f xs) → T (any g xs)
any_map f g [] m h = h
any_map {A} f g (x ∷ xs) m h = go (f x) refl h (any_map f g xs m)
  where
    go : (b : Bool) → f x ≡ b → T (b || any f xs) → (T (any f xs) → T (any g xs)) → T (g x || any g xs)
    go true e k ih = or_left (g x) (any g xs) (m x (subst T (sym e) tt))
    go false e k ih = or_right (g x) (any g xs) (ih k)

-- a test that none passes, none that is kept passes
pub any_kept : {A : Type 0} (f g : A → Bool) (xs : List A) → any f xs ≡ false → any f (keep g xs) ≡ false
any_kept f g [] h = h
any_kept {A} f g (x ∷ xs) h = go (g x) (f x) refl h (any_kept f g xs)
  where
    go : (t s : Bool) → f x ≡ s → (s || any f xs) ≡ false → (any f xs ≡ false → any f (keep g xs) ≡ false) → any f (cond t (x ∷ keep g xs) (keep g xs)) ≡ false
    go true true e k ih = ap (λ s. s || any f (keep g xs)) e ∙ k
    go true false e k ih = ap (λ s. s || any f (keep g xs)) e ∙ ih k
    go false true e k ih = absurd (subst T k tt)
    go false false e k ih = ih k

-- what passes is taken away
pub any_gone : {A : Type 0} (f : A → Bool) (xs : List A) → any f (keep (λ x. not (f x)) xs) ≡ false
any_gone f [] = refl
any_gone {A} f (x ∷ xs) = go (f x) refl (any_gone f xs)
  where
    go : (s : Bool) → f x ≡ s → any f (keep (λ y. not (f y)) xs) ≡ false → any f (cond (not s) (x ∷ keep (λ y. not (f y)) xs) (keep (λ y. not (f y)) xs)) ≡ false
    go true e ih = ih
    go false e ih = ap (λ s. s || any f (keep (λ y. not (f y)) xs)) e ∙ ih

-- each element is in the list
pub all_in : (ps : List (List ℕ)) → All (λ p. T (any (same p) ps)) ps
all_in [] = tt
all_in (p ∷ ps) = (
  or_left (same p p) (any (same p) ps) (same_refl p),
  all_map (λ q. T (any (same q) ps)) (λ q. T (any (same q) (p ∷ ps))) ps (λ q h. or_right (same q p) (any (same q) ps) h) (all_in ps),
)

-- ---- marks

pub mark_is : (a b : Mark) → T (same_mark a b) → a ≡ b
mark_is a b h =
    ap₂ (λ (n : ℕ) (p : List ℕ). mark n p) (eqb→eq a.level b.level (and_left (eqb a.level b.level) (same a.prefix b.prefix) h))
    (same_is a.prefix b.prefix (and_right (eqb a.level b.level) (same a.prefix b.prefix) h))
  where
    mark : ℕ → List ℕ → Mark
    mark n p = record { level = n; prefix = p }

pub mark_refl : (a : Mark) → T (same_mark a a)
mark_refl a = both (eqb a.level a.level) (same a.prefix a.prefix) (eqb_refl a.level) (same_refl a.prefix)

-- a mark stays set if the test keeps it
pub set_kept : (f : Mark → Bool) (m : Mark) (ms : List Mark) → T (f m) → T (is_set m ms) → T (is_set m (keep f ms))
set_kept f m [] k h = h
set_kept f m (y ∷ ms) k h = go (same_mark m y) (f y) refl refl h (set_kept f m ms k)
  where
    go : (s t : Bool) → same_mark m y ≡ s → f y ≡ t → T (s || is_set m ms) → (T (is_set m ms) → T (is_set m (keep f ms))) → T (is_set m (cond t (y ∷ keep f ms) (keep f ms)))
    go true true e d h ih = or_left (same_mark m y) _ (subst T (sym e) tt)
    go true false e d h ih = absurd (subst T (ap f (mark_is m y (subst T (sym e) tt)) ∙ d) k)
    go false true e d h ih = or_right (same_mark m y) _ (ih h)
    go false false e d h ih = ih h

-- what is set among those kept passes the test
pub set_passes : (f : Mark → Bool) (m : Mark) (ms : List Mark) → T (is_set m (keep f ms)) → T (f m)
set_passes f m ms h =
    any_has (λ y. Unit {0} × T (f y)) (same_mark m) (keep f ms) (all_keep (λ y. Unit {0}) f ms (all_any (λ y. Unit {0}) ms (λ y. tt))) h
    (λ y k t. subst (λ z. T (f z)) (sym (mark_is m y t)) k.1)

-- and is not set where it was not
pub unset_kept : (f : Mark → Bool) (m : Mark) (ms : List Mark) → is_set m ms ≡ false → is_set m (keep f ms) ≡ false
unset_kept f m ms h = any_kept (same_mark m) f ms h

-- none of the marks is one that is not set
pub unset_all : (m : Mark) (ms : List Mark) → is_set m ms ≡ false → All (λ y. same_mark m y ≡ false) ms
unset_all m ms h =
    all_map (λ y. T (not (same_mark m y))) (λ y. same_mark m y ≡ false) ms (λ y k. is_not (same_mark m y) k) (none_passes (same_mark m) ms (not_is (is_set m ms) h))

-- ---- automatic marks

auto_without : (p : List ℕ) (ps : List (List ℕ)) (y : Mark) → same_mark (leaf_mark p) y ≡ false → is_automatic (keep (λ q. not (same p q)) ps) y ≡ is_automatic ps y
auto_without p [] y h = refl
auto_without p (q ∷ ps) y h = go (same p q) refl (auto_without p ps y h)
  where
    go : (b : Bool) → same p q ≡ b → is_automatic (keep (λ r. not (same p r)) ps) y ≡ is_automatic ps y
        → is_automatic (cond (not b) (q ∷ keep (λ r. not (same p r)) ps) (keep (λ r. not (same p r)) ps)) y ≡ is_automatic (q ∷ ps) y
    go true e ih = ih ∙ ap (λ s. s || is_automatic ps y) (sym h ∙ ap (λ r. same_mark (leaf_mark r) y) (same_is p q (subst T (sym e) tt)))
    go false e ih = ap (λ s. same_mark (leaf_mark q) y || s) ih

auto_in : (p : List ℕ) (ps : List (List ℕ)) (y : Mark) → T (any (same p) ps) → T (same_mark (leaf_mark p) y) → T (is_automatic ps y)
auto_in p ps y h k = any_map (same p) (λ q. same_mark (leaf_mark q) y) ps (λ q t. subst (λ r. T (same_mark (leaf_mark r) y)) (same_is p q t) k) h

-- an automatic mark is of level 1, and its prefix is in the list
pub auto_leaf : (x : Mark) (ps : List (List ℕ)) → T (is_automatic ps x) → x ≡ leaf_mark x.prefix
auto_leaf x ps h =
    any_has (λ p. Unit {0}) (λ p. same_mark (leaf_mark p) x) ps (all_any (λ p. Unit {0}) ps (λ p. tt)) h (λ p u t.
    let w : leaf_mark p ≡ x = mark_is (leaf_mark p) x t in sym w ∙ ap (λ (m : Mark). leaf_mark m.prefix) w)

pub auto_prefix : (x : Mark) (ps : List (List ℕ)) → T (is_automatic ps x) → T (any (same x.prefix) ps)
auto_prefix x ps h = any_map (λ p. same_mark (leaf_mark p) x) (same x.prefix) ps (λ p t.
    subst (λ q. T (same x.prefix q)) (sym (same_is p x.prefix (and_right (eqb 1 x.level) (same p x.prefix) t))) (same_refl x.prefix)) h

pub auto_gone : (x : Mark) (ps : List (List ℕ)) → is_automatic (keep (λ q. not (same x.prefix q)) ps) x ≡ false
auto_gone x [] = refl
auto_gone x (q ∷ ps) = go (same x.prefix q) refl (auto_gone x ps)
  where
    go : (b : Bool) → same x.prefix q ≡ b → is_automatic (keep (λ r. not (same x.prefix r)) ps) x ≡ false
        → is_automatic (cond (not b) (q ∷ keep (λ r. not (same x.prefix r)) ps) (keep (λ r. not (same x.prefix r)) ps)) x ≡ false
    go true e ih = ih
    go false e ih =
        ap (λ s. s || is_automatic (keep (λ r. not (same x.prefix r)) ps) x)
        (is_false (same_mark (leaf_mark q) x) (λ t.
        let w : q ≡ x.prefix = same_is q x.prefix (and_right (eqb 1 x.level) (same q x.prefix) t) in
        subst T (ap (same x.prefix) (sym w) ∙ e) (same_refl x.prefix))) ∙ ih

pub auto_fewer : (f : List ℕ → Bool) (ps : List (List ℕ)) (x : Mark) → is_automatic ps x ≡ false → is_automatic (keep f ps) x ≡ false
auto_fewer f ps x h = any_kept (λ p. same_mark (leaf_mark p) x) f ps h

-- ---- the operator's marks do not change when the choice sets or clears one

pub owned_withdrawn : (p : List ℕ) (b : Book) → T (any (same p) b.automatic) → owned (withdrawn p b) ≡ owned b
owned_withdrawn p b h = keep_keep _ _ _ b.marks (all_any _ b.marks at)
  where
    go : (y : Mark) (s : Bool) → same_mark (leaf_mark p) y ≡ s → (not s && not (is_automatic (keep (λ q. not (same p q)) b.automatic) y)) ≡ not (is_automatic b.automatic y)
    go y true e = ap not (sym (is_true (is_automatic b.automatic y) (auto_in p b.automatic y h (subst T (sym e) tt))))
    go y false e = ap not (auto_without p b.automatic y e)

    at : (y : Mark) → (not (same_mark (leaf_mark p) y) && not (is_automatic (keep (λ q. not (same p q)) b.automatic) y)) ≡ not (is_automatic b.automatic y)
    at y = go y (same_mark (leaf_mark p) y) refl

pub leaving_in_lem : (w : Window) (ps : List (List ℕ)) → IfSome (λ p. T (any (same p) ps)) (leaving w ps)
leaving_in_lem w ps = first_has (λ p. T (any (same p) ps)) (goes_before w) ps (all_in ps)

-- what the book has, and has after any of its automatic marks leaves, it has once room is made
pub room_has : (P : Book → Type 0) (c : Config) (b : Book) → P b → ((p : List ℕ) → T (any (same p) b.automatic) → P (withdrawn p b)) → P (room_made c b)
room_has P c b h f = go (full c b)
  where
    by : (o : Option (List ℕ)) → IfSome (λ p. T (any (same p) b.automatic)) o → P (withdrawn_by o b)
    by none k = h
    by (some p) k = f p k

    go : (t : Bool) → P (cond t (withdrawn_by (leaving b.window b.automatic) b) b)
    go true = by (leaving b.window b.automatic) (leaving_in_lem b.window b.automatic)
    go false = h

pub owned_room : (c : Config) (b : Book) → owned (room_made c b) ≡ owned b
owned_room c b = room_has (λ d. owned d ≡ owned b) c b refl (λ p k. owned_withdrawn p b k)

pub owned_appointed : (p : List ℕ) (b : Book) → is_set (leaf_mark p) b.marks ≡ false → owned (appointed p b) ≡ owned b
owned_appointed p b h =
    rw (is_true (same p p) (same_refl p))
    (keep_same _ _ b.marks (all_map (λ y. same_mark (leaf_mark p) y ≡ false) _ b.marks
    (λ y e. ap (λ s. not (s || is_automatic b.automatic y)) e) (unset_all (leaf_mark p) b.marks h)))

-- marks are fewer, so a prefix that carries none still carries none
pub room_unset : (c : Config) (b : Book) (m : Mark) → is_set m b.marks ≡ false → is_set m (room_made c b).marks ≡ false
room_unset c b m h =
    room_has (λ d. is_set m d.marks ≡ false) c b h (λ p k. unset_kept (λ y. not (same_mark (leaf_mark p) y)) m b.marks h)

-- the same of a request that is observed: with the choice off the book stays; with it on the request goes into the window, then an automatic
-- mark may leave, then the prefix charged may get its mark, where a place is free
pub observed_has : (P : Book → Type 0) (c : Config) (x : Option (List ℕ)) (b : Book) → (b.choice ≡ false → P b) → (b.choice ≡ true → P (entered x b))
    → ((p : List ℕ) → T (any (same p) b.automatic) → P (entered x b) → P (withdrawn p (entered x b)))
    → ((p : List ℕ) → x ≡ some p → b.choice ≡ true → let r = room_made c (entered x b) in full c r ≡ false → P r → P (appointed p r)) → P (observed c x b)
unfolding observed
observed_has P c x b off on out new = go b.choice refl
  where
    e : Book
    e = entered x b

    r : Book
    r = room_made c e

    set : (p : List ℕ) → x ≡ some p → b.choice ≡ true → P r → (t : Bool) → full c r ≡ t → P (cond t r (appointed p r))
    set p q z h true f = h
    set p q z h false f = new p q z f h

    enough : (p : List ℕ) → x ≡ some p → b.choice ≡ true → P e → (t : Bool) → P (cond t (appointed_in c p r) e)
    enough p q z h true = set p q z (room_has P c e h (λ o k. out o k h)) (full c r) refl
    enough p q z h false = h

    by : (y : Option (List ℕ)) → x ≡ y → b.choice ≡ true → P e → P (charged c y e)
    by none q z h = h
    by (some p) q z h = enough p q z h (leb charges_for_mark (charges p e.window))

    go : (t : Bool) → b.choice ≡ t → P (cond t (charged c x e) b)
    go true z = by x refl z (on z)
    go false z = off z

pub owned_observed : (c : Config) (x : Option (List ℕ)) (b : Book) → IfSome (λ p. is_set (leaf_mark p) b.marks ≡ false) x → owned (observed c x b) ≡ owned b
owned_observed c x b h =
    let e = entered x b in
    observed_has (λ d. owned d ≡ owned b) c x b (λ z. refl) (λ z. refl) (λ p k q. owned_withdrawn p e k)
    (λ p q z f o. owned_appointed p (room_made c e) (room_unset c e (leaf_mark p) (subst (IfSome (λ p. is_set (leaf_mark p) b.marks ≡ false)) q h)) ∙ o)

-- ---- the operator sets and clears

pub owned_operated : (c : Config) (x : Mark) (b : Book) → owned (operated c x b) ≡ x ∷ owned b
unfolding operated
owned_operated c x b = go (is_automatic b.automatic x) refl
  where
    add : (d : Book) → is_automatic d.automatic x ≡ false → owned (marking x d) ≡ x ∷ owned d
    add d e = rw e refl

    room : is_automatic b.automatic x ≡ false → is_automatic (room_made c b).automatic x ≡ false
    room e = room_has (λ d. is_automatic d.automatic x ≡ false) c b e (λ p k. auto_fewer (λ q. not (same p q)) b.automatic x e)

    go : (t : Bool) → is_automatic b.automatic x ≡ t → owned (marking x (cond t (withdrawn x.prefix b) (room_made c b))) ≡ x ∷ owned b
    go true e = add (withdrawn x.prefix b) (auto_gone x b.automatic) ∙ ap (λ ms. x ∷ ms) (owned_withdrawn x.prefix b (auto_prefix x b.automatic (subst T (sym e) tt)))
    go false e = add (room_made c b) (room e) ∙ ap (λ ms. x ∷ ms) (owned_room c b)

pub owned_unmarking : (x : Mark) (b : Book) → owned (unmarking x b) ≡ keep (λ y. not (same_mark x y)) (owned b)
owned_unmarking x b = keep_keep _ _ h b.marks (all_any _ b.marks (λ y. refl)) ∙ sym (keep_keep _ _ h b.marks (all_any _ b.marks (λ y. swap (not (is_automatic b.automatic y)) (not (same_mark x y)))))
  where
    h : Mark → Bool
    h y = not (same_mark x y) && not (is_automatic b.automatic y)

    swap : (s t : Bool) → (s && t) ≡ (t && s)
    swap true true = refl
    swap true false = refl
    swap false true = refl
    swap false false = refl

-- ---- the window

-- what the choice does with the marks leaves the window as it is
pub window_observed : (c : Config) (x : Option (List ℕ)) (b : Book) → b.choice ≡ true → (observed c x b).window ≡ take window_room (x ∷ b.window)
window_observed c x b on =
    let e = entered x b in
    observed_has (λ d. d.window ≡ e.window) c x b (λ z. absurd (true≢false (sym on ∙ z))) (λ z. refl) (λ p k q. q) (λ p q z f o. o)

-- ---- the choice drops paths, and fills none

pub withdrawn_held : (P : Held → Type 0) (p : List ℕ) (b : Book) → All P b.held → All P (withdrawn p b).held
withdrawn_held P p b a = all_kept P (λ h. not (begins p h.path)) b.held a

pub room_held : (P : Held → Type 0) (c : Config) (b : Book) → All P b.held → All P (room_made c b).held
room_held P c b a = room_has (λ d. All P d.held) c b a (λ p k. withdrawn_held P p b a)

pub observed_held : (P : Held → Type 0) (c : Config) (x : Option (List ℕ)) (b : Book) → All P b.held → All P (observed c x b).held
observed_held P c x b a =
    let r = room_made c (entered x b) in
    observed_has (λ d. All P d.held) c x b (λ z. a) (λ z. a) (λ p k h. withdrawn_held P p (entered x b) h)
    (λ p q z f h. all_kept P (λ k. not (begins p k.path)) r.held h)

pub operated_held : (P : Held → Type 0) (c : Config) (x : Mark) (b : Book) → All P b.held → All P (operated c x b).held
unfolding operated
operated_held P c x b a = go (is_automatic b.automatic x)
  where
    go : (t : Bool) → All P (marking x (cond t (withdrawn x.prefix b) (room_made c b))).held
    go true = all_kept P (λ h. not (begins x.prefix h.path)) (withdrawn x.prefix b).held (withdrawn_held P x.prefix b a)
    go false = all_kept P (λ h. not (begins x.prefix h.path)) (room_made c b).held (room_held P c b a)

-- a request that is charged to nobody moves the window alone
pub none_held : (c : Config) (b : Book) → (observed c none b).held ≡ b.held
unfolding observed
none_held c b = go b.choice
  where
    go : (t : Bool) → (cond t (entered none b) b).held ≡ b.held
    go true = refl
    go false = refl
