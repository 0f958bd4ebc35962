-- A whole list of calls: the area answers as the finite map does.
use mathlib.Core.Path.{◌≡◌, refl, sym, ap, ap₂, ◌∙◌, subst}
use mathlib.Core.Logic.{◌≢◌, ◌⊎◌, inl, inr}
use Prim.Native.Nat.{ℕ, ◌<◌}
use mathlib.Core.Bool.{Bool, true, false, ◌||◌, cond}
use mathlib.Core.List.{List, [], ◌∷◌}
use lib.Dec.{T, leb}
use borrow.Author.Tests.{leb-true, leb-false}
use Rattle.spec.specs.Entry.{present, entry_limit}
use Rattle.spec.specs.Prefix.{same, any, tables_of}
use Rattle.pool.specs.declared.Area.{Area}
use Rattle.pool.specs.declared.Way.TheVariants.{Not}
use Rattle.pool.specs.Pool.{end}
use Rattle.area.specs.Tree.{lookup_of, insert_of}
use Rattle.prune.specs.Remove.{remove_of}
use Rattle.area_laws.specs.Run.{Op, put, cut, see, did, saw, State, told, seen, left, answers, after, Map, get, without, paths, words_read, specified}
use Rattle.spec_laws.proofs.Lists.{same_is, same_refl, or_cases, or_left, or_right, is_true}
use Rattle.spec_laws.proofs.Distinct.{In}
use Rattle.area_laws.proofs.Change.{differ, eq?, upd, upd_on, upd_other}
use Rattle.area_laws.proofs.Stores.{Beside, beside_refl, beside_trans}
use Rattle.area_laws.proofs.Paths.{onto, turn_turn, Guests}
use Rattle.area_laws.proofs.Invariant.{present_set}
use Rattle.area_laws.proofs.Whole.{Holds, Fits, holds_look, Next, next_leaves, holds_remove, holds_absent}
use Rattle.area_laws.proofs.Count.{Lists, insert_next, insert_not, reads_is}
use Rattle.words.specs.After.{After}
use Rattle.pool.specs.declared.Went.{Went}

-- ---- the map as leaves
abbrev pub leaves : Map → List ℕ → ℕ
leaves es y = get es (onto [] y)

-- every entry of the map is present
unfoldable pub Solid : Map → Type 0
Solid [] = Unit {0}
Solid (x ∷ es) = (present x.1 ≡ true) × Solid es

pub same_true : (p q : List ℕ) → p ≡ q → same p q ≡ true
same_true p q e = is_true (same p q) (subst (λ z. T (same p z)) e (same_refl p))

get_listed : (es : Map) (is : List ℕ) → get es is ≢ 0 → In is (paths es)
unfolding get paths
get_listed [] is n = n refl
get_listed (x ∷ es) is n = go (same x.0 is) refl n (get_listed es is)
  where
    go : (t : Bool) → same x.0 is ≡ t → cond t x.1 (get es is) ≢ 0 → (get es is ≢ 0 → In is (paths es)) → T (same is x.0 || any (same is) (paths es))
    go true q k ih = or_left (same is x.0) _ (subst (λ z. T (same is z)) (sym (same_is x.0 is (subst T (sym q) tt))) (same_refl is))
    go false q k ih = or_right (same is x.0) _ (ih k)

listed_get : (es : Map) (is : List ℕ) → Solid es → In is (paths es) → present (get es is) ≡ true
unfolding get paths Solid
listed_get [] is s h = absurd h
listed_get (x ∷ es) is s h = go (same x.0 is) refl (or_cases (same is x.0) (any (same is) (paths es)) h) (listed_get es is s.1)
  where
    go : (t : Bool) → same x.0 is ≡ t → T (same is x.0) ⊎ In is (paths es) → (In is (paths es) → present (get es is) ≡ true) → present (cond t x.1 (get es is)) ≡ true
    go true q k ih = s.0
    go false q (inl k) ih = differ (sym (same_true x.0 is (sym (same_is is x.0 k))) ∙ q)
    go false q (inr k) ih = ih k

pub map_lists : (es : Map) → Solid es → Lists (leaves es) (paths es)
map_lists es s y = ((λ h. present_set (get es (onto [] y)) (listed_get es (onto [] y) s h)), (λ n. get_listed es (onto [] y) n))

-- present or none
pub get_solid : (es : Map) (is : List ℕ) → Solid es → present (get es is) ≡ false → get es is ≡ 0
unfolding get Solid
get_solid [] is s h = refl
get_solid (x ∷ es) is s h = go (same x.0 is) h (get_solid es is s.1)
  where
    go : (t : Bool) → present (cond t x.1 (get es is)) ≡ false → (present (get es is) ≡ false → get es is ≡ 0) → cond t x.1 (get es is) ≡ 0
    go true k ih = differ (sym s.0 ∙ k)
    go false k ih = ih k

turn_back : (is y : List ℕ) → onto [] is ≡ y → is ≡ onto [] y
turn_back is y e = sym (turn_turn is) ∙ ap (onto []) e

pub leaves_put : (es : Map) (is : List ℕ) (e : ℕ) (y : List ℕ) → upd (leaves es) (onto [] is) e y ≡ leaves ((is, e) ∷ es) y
unfolding get
leaves_put es is e y = go (eq? (onto [] is) y) (same is (onto [] y)) refl
  where
    go : Dec (onto [] is ≡ y) → (t : Bool) → same is (onto [] y) ≡ t → upd (leaves es) (onto [] is) e y ≡ cond t e (get es (onto [] y))
    go (yes q) true c = upd_on (leaves es) (onto [] is) e y q
    go (yes q) false c = differ (sym (same_true is (onto [] y) (turn_back is y q)) ∙ c)
    go (no q) true c = absurd (q (ap (onto []) (same_is is (onto [] y) (subst T (sym c) tt)) ∙ turn_turn y))
    go (no q) false c = upd_other (leaves es) (onto [] is) e y q

without_self : (es : Map) (is : List ℕ) → get (without is es) is ≡ 0
unfolding get without
without_self [] is = refl
without_self (x ∷ es) is = go (same x.0 is) refl (without_self es is)
  where
    go : (t : Bool) → same x.0 is ≡ t → get (without is es) is ≡ 0 → get (cond t (without is es) (x ∷ without is es)) is ≡ 0
    go true q ih = ih
    go false q ih = ap (λ t. cond t x.1 (get (without is es) is)) q ∙ ih

pub without_other : (es : Map) (is js : List ℕ) → is ≢ js → get (without is es) js ≡ get es js
unfolding get without
without_other [] is js n = refl
without_other (x ∷ es) is js n = go (same x.0 is) refl (same x.0 js) refl (without_other es is js n)
  where
    go : (t : Bool) → same x.0 is ≡ t → (u : Bool) → same x.0 js ≡ u → get (without is es) js ≡ get es js
        → get (cond t (without is es) (x ∷ without is es)) js ≡ cond u x.1 (get es js)
    go true q true r ih = absurd (n (sym (same_is x.0 is (subst T (sym q) tt)) ∙ same_is x.0 js (subst T (sym r) tt)))
    go true q false r ih = ih
    go false q u r ih = ap₂ (λ t v. cond t x.1 v) r ih

pub leaves_cut : (es : Map) (is y : List ℕ) → upd (leaves es) (onto [] is) 0 y ≡ leaves (without is es) y
leaves_cut es is y = go (eq? (onto [] is) y)
  where
    go : Dec (onto [] is ≡ y) → upd (leaves es) (onto [] is) 0 y ≡ leaves (without is es) y
    go (yes q) = upd_on (leaves es) (onto [] is) 0 y q ∙ sym (without_self es is) ∙ ap (get (without is es)) (turn_back is y q)
    go (no q) = upd_other (leaves es) (onto [] is) 0 y q ∙ sym (without_other es is (onto [] y) (λ e. q (ap (onto []) e ∙ turn_turn y)))

solid_without : (es : Map) (is : List ℕ) → Solid es → Solid (without is es)
unfolding Solid without
solid_without [] is s = tt
solid_without (x ∷ es) is s = go (same x.0 is) (solid_without es is s.1)
  where
    go : (t : Bool) → Solid (without is es) → Solid (cond t (without is es) (x ∷ without is es))
    go true h = h
    go false h = (s.0, h)

-- ---- what ties the area to the map
pub record Tied (a : Area) (stays : Bool) (guest : List ℕ → ℕ) (t : State) (es : Map) : Type 0 where
  pub holds : Holds a stays t.pool t.memory (leaves es) guest
  pub solid : Solid es

pub record Done (a : Area) (stays : Bool) (guest : List ℕ → ℕ) (t : State) (r : After Went) (es : Map) : Type 0 where
  pub yes : told r.result.way ≡ did true
  pub tied : Tied a stays guest (left r) es
  pub beside : Beside a t.memory r.memory

module _ {a : Area} {stays : Bool} {guest : List ℕ → ℕ} {t : State} {es : Map} (v : Tied a stays guest t es) (is : List ℕ) (f : Fits a (leaves es) is) where
  there : leaves es (onto [] is) ≡ get es is
  there = ap (get es) (turn_turn is)

  pub see_is : seen (lookup_of a.base a.size t.memory t.pool.top is 0) ≡ saw (get es is) (words_read stays (paths es) is)
  see_is = ap seen (holds_look v.holds is f) ∙ ap₂ saw there (reads_is v.holds is f (paths es) (map_lists es v.solid))

  made : (fs : Map) (r : After Went) → Solid fs → Next a stays t.pool t.memory (leaves fs) guest r → Done a stays guest t r fs
  made fs r s d = record {
    yes = ap (λ z. told z.result.way) d.done;
    tied = record { holds = subst (λ z. Holds a stays z.result.pool z.memory (leaves fs) guest) (sym d.done) d.holds; solid = s };
    beside = subst (λ z. Beside a t.memory z.memory) (sym d.done) d.beside;
  }

  module _ (gs : List ℕ) (e : ℕ) (gg : Guests guest gs 0 [] is) (thin : e < entry_limit) (set : present e ≡ true) where
    listed : Lists (upd (leaves es) (onto [] is) e) (is ∷ paths es)
    unfolding paths Solid
    listed = subst (λ lw. Lists lw (is ∷ paths es)) (λ i y. sym (leaves_put es is e y) i) (map_lists ((is, e) ∷ es) (set, v.solid))

    pub put_next : leb (tables_of (is ∷ paths es)) a.size ≡ true → Done a stays guest t (insert_of a gs t.pool t.memory is e) ((is, e) ∷ es)
    unfolding Solid
    put_next q = made ((is, e) ∷ es) _ (set, v.solid) (next_leaves (leaves ((is, e) ∷ es)) (leaves_put es is e)
        (insert_next v.holds is e f set (is ∷ paths es) listed gs gg thin (leb-true (tables_of (is ∷ paths es)) a.size q)))

    pub put_full : leb (tables_of (is ∷ paths es)) a.size ≡ false → insert_of a gs t.pool t.memory is e ≡ end t.pool Not t.memory
    put_full q = insert_not v.holds is e f set (is ∷ paths es) listed gs gg (leb-false (tables_of (is ∷ paths es)) a.size q)

  pub cut_next : present (get es is) ≡ true → Done a stays guest t (remove_of a stays t.pool t.memory is) (without is es)
  cut_next q = made (without is es) _ (solid_without es is v.solid)
      (next_leaves (leaves (without is es)) (leaves_cut es is) (holds_remove v.holds is f (λ z. present_set (get es is) q (sym there ∙ z))))

  pub cut_none : present (get es is) ≡ false → remove_of a stays t.pool t.memory is ≡ end t.pool Not t.memory
  cut_none q = holds_absent v.holds is f (there ∙ get_solid es is v.solid q)

-- ---- the list: each path fits the map of its moment; each entry is present and has 52 bits
unfoldable pub Ok : Area → (List ℕ → ℕ) → Bool → Map → List Op → Type 0
Ok a guest stays es [] = Unit {0}
Ok a guest stays es (put is gs e ∷ os) =
    Fits a (leaves es) is × Guests guest gs 0 [] is × (e < entry_limit) × (present e ≡ true)
    × Ok a guest stays (cond (leb (tables_of (is ∷ paths es)) a.size) ((is, e) ∷ es) es) os
Ok a guest stays es (cut is ∷ os) = Fits a (leaves es) is × Ok a guest stays (cond (present (get es is)) (without is es) es) os
Ok a guest stays es (see is ∷ os) = Fits a (leaves es) is × Ok a guest stays es os

pub claim : (a : Area) (guest : List ℕ → ℕ) (stays : Bool) (t : State) (es : Map) → Tied a stays guest t es → (os : List Op) → Ok a guest stays es os
    → answers a stays t os ≡ specified a.size stays es os
unfolding answers specified Ok
claim a guest stays t es v [] o = refl
claim a guest stays t es v (put is gs e ∷ os) o = go (leb (tables_of (is ∷ paths es)) a.size) refl (claim a guest stays t es v os) (λ u n. claim a guest stays u ((is, e) ∷ es) n os)
  where
    r : After Went
    r = insert_of a gs t.pool t.memory is e

    go : (d : Bool) → leb (tables_of (is ∷ paths es)) a.size ≡ d
        → (Ok a guest stays es os → answers a stays t os ≡ specified a.size stays es os)
        → ((u : State) → Tied a stays guest u ((is, e) ∷ es) → Ok a guest stays ((is, e) ∷ es) os → answers a stays u os ≡ specified a.size stays ((is, e) ∷ es) os)
        → told r.result.way ∷ answers a stays (left r) os
        ≡ cond (leb (tables_of (is ∷ paths es)) a.size) (did true ∷ specified a.size stays ((is, e) ∷ es) os) (did false ∷ specified a.size stays es os)
    go true q same more =
        let n = put_next v is o.0 gs e o.1 o.2 o.3 q in
        rw q (ap₂ (λ x rs. x ∷ rs) n.yes (more (left r) n.tied (rw q at o.4)))
    go false q same more =
        let n = put_full v is o.0 gs e o.1 o.2 o.3 q in
        rw q (ap (λ z. told z.result.way ∷ answers a stays (left z) os) n ∙ ap (λ rs. did false ∷ rs) (same (rw q at o.4)))
claim a guest stays t es v (cut is ∷ os) o = go (present (get es is)) refl (claim a guest stays t es v os) (λ u n. claim a guest stays u (without is es) n os)
  where
    r : After Went
    r = remove_of a stays t.pool t.memory is

    go : (d : Bool) → present (get es is) ≡ d
        → (Ok a guest stays es os → answers a stays t os ≡ specified a.size stays es os)
        → ((u : State) → Tied a stays guest u (without is es) → Ok a guest stays (without is es) os → answers a stays u os ≡ specified a.size stays (without is es) os)
        → told r.result.way ∷ answers a stays (left r) os
        ≡ cond (present (get es is)) (did true ∷ specified a.size stays (without is es) os) (did false ∷ specified a.size stays es os)
    go true q same more =
        let n = cut_next v is o.0 q in
        rw q (ap₂ (λ x rs. x ∷ rs) n.yes (more (left r) n.tied (rw q at o.1)))
    go false q same more =
        let n = cut_none v is o.0 q in
        rw q (ap (λ z. told z.result.way ∷ answers a stays (left z) os) n ∙ ap (λ rs. did false ∷ rs) (same (rw q at o.1)))
claim a guest stays t es v (see is ∷ os) o = ap₂ (λ x rs. x ∷ rs) (see_is v is o.0) (claim a guest stays t es v os o.1)

-- words outside the area never change, and the length stays
pub claim_beside : (a : Area) (guest : List ℕ → ℕ) (stays : Bool) (t : State) (es : Map) → Tied a stays guest t es → (os : List Op) → Ok a guest stays es os
    → Beside a t.memory (after a stays t os).memory
unfolding after Ok
claim_beside a guest stays t es v [] o = beside_refl a t.memory
claim_beside a guest stays t es v (put is gs e ∷ os) o =
    go (leb (tables_of (is ∷ paths es)) a.size) refl (claim_beside a guest stays t es v os) (λ u n. claim_beside a guest stays u ((is, e) ∷ es) n os)
  where
    r : After Went
    r = insert_of a gs t.pool t.memory is e

    go : (d : Bool) → leb (tables_of (is ∷ paths es)) a.size ≡ d
        → (Ok a guest stays es os → Beside a t.memory (after a stays t os).memory)
        → ((u : State) → Tied a stays guest u ((is, e) ∷ es) → Ok a guest stays ((is, e) ∷ es) os → Beside a u.memory (after a stays u os).memory)
        → Beside a t.memory (after a stays (left r) os).memory
    go true q same more =
        let n = put_next v is o.0 gs e o.1 o.2 o.3 q in
        beside_trans n.beside (more (left r) n.tied (rw q at o.4))
    go false q same more =
        let n = put_full v is o.0 gs e o.1 o.2 o.3 q in
        subst (λ z. Beside a t.memory (after a stays (left z) os).memory) (sym n) (same (rw q at o.4))
claim_beside a guest stays t es v (cut is ∷ os) o =
    go (present (get es is)) refl (claim_beside a guest stays t es v os) (λ u n. claim_beside a guest stays u (without is es) n os)
  where
    r : After Went
    r = remove_of a stays t.pool t.memory is

    go : (d : Bool) → present (get es is) ≡ d
        → (Ok a guest stays es os → Beside a t.memory (after a stays t os).memory)
        → ((u : State) → Tied a stays guest u (without is es) → Ok a guest stays (without is es) os → Beside a u.memory (after a stays u os).memory)
        → Beside a t.memory (after a stays (left r) os).memory
    go true q same more =
        let n = cut_next v is o.0 q in
        beside_trans n.beside (more (left r) n.tied (rw q at o.1))
    go false q same more =
        let n = cut_none v is o.0 q in
        subst (λ z. Beside a t.memory (after a stays (left z) os).memory) (sym n) (same (rw q at o.1))
claim_beside a guest stays t es v (see is ∷ os) o = claim_beside a guest stays t es v os o.1
