-- The held paths of the book as leaves of the shadow tables. What a drop of the book leaves is what is under no cut.
-- A path or prefix of a table is written last index first, a held path from the top.
-- Assumes nothing.
use mathlib.Core.Path.{◌≡◌, refl, sym, ap, ap₂, ◌∙◌, subst}
use mathlib.Core.Logic.{◌≢◌, ◌⊎◌, inl, inr}
use Prim.Native.Nat.{ℕ, ◌≤◌}
use native.Mathlib.Omega.{arith}
use mathlib.Core.Bool.{Bool, true, false, not, ◌&&◌, ◌||◌, cond, or-false}
use mathlib.Core.List.{List, [], ◌∷◌}
use lib.Dec.{T, eqb, ltb}
use lib.ListN.{length}
use borrow.Author.Tests.{ne_eqb}
use Rattle.spec.specs.Config.{Config, guest_base}
use Rattle.spec.specs.Entry.{present, switch, frame_of}
use Rattle.spec.specs.Plain.{Lead, to, into, is_span}
use Rattle.spec.specs.Prefix.{begins, same, any, keep, propers}
use Rattle.spec.specs.Refusal.{in_guest_area}
use Rattle.spec.specs.Book.{Held, reads_word, uses_mapping, drop_word, drop_mapping, drop_prefix}
use Rattle.spec.specs.Prefix.{All}
use Rattle.spec_laws.proofs.Lists.{all_map, all_any, begins_refl, same_is, same_refl, is_true, is_false, or_cases, or_left, or_right}
use Rattle.spec_laws.proofs.Distinct.{In}
use Rattle.spec_laws.proofs.Added.{any_append}
use Rattle.spec_laws.proofs.Granted.{level_reads, lead_uses}
use Rattle.spec_laws.proofs.Trail.{reads_from, uses_from, Spans}
use Rattle.area_laws.specs.Run.{Map, get}
use Rattle.area_laws.proofs.Change.{differ}
use Rattle.area_laws.proofs.Paths.{onto, onto_long, turn_turn, turn_none, Ext}
use Rattle.area_laws.proofs.Count.{propers_ext, ext_propers, propers_begins, begins_propers}
use Rattle.area_laws.proofs.Claim.{leaves}
use Rattle.drops.specs.Cut.{leads_to}
use Rattle.drops_laws.proofs.Scan.{under, Leaves}

-- two tests that say the same
pub both_tests : (a b : Bool) → (T a → T b) → (T b → T a) → a ≡ b
both_tests true b f g = sym (is_true b (f tt))
both_tests false b f g = sym (is_false b g)

-- ---- leaves
-- the held paths with their entries
unfoldable pub entries : (Held → ℕ) → List Held → Map
entries w [] = []
entries w (h ∷ hs) = (h.path, w h) ∷ entries w hs

-- the entry at a path, 0 if no such path is held
abbrev pub leaf_at : (Held → ℕ) → List Held → List ℕ → ℕ
leaf_at w hs q = leaves (entries w hs) q

pub leaf_none : (w : Held → ℕ) (q : List ℕ) → leaf_at w [] q ≡ 0
unfolding entries get
leaf_none w q = refl

-- a held path and its entry e, as the shadow tables have it: T gives the host frames of the guest tables and the spans, G where the last
-- index leads, both by prefix
pub record HeldEntry (c : Config) (T : List ℕ → ℕ) (G : List ℕ → Lead) (root e : ℕ) (h : Held) : Type 0 where
  pub set : present e ≡ true
  pub area : in_guest_area c (frame_of e) ≡ true
  pub ends : switch e ≡ ltb (length h.path) c.levels
  pub reads : h.reads ≡ reads_from c T [] h.path
  pub uses : h.uses ≡ root ∷ uses_from G [] h.path
  -- the words read are in the guest area
  pub inside : All (λ r. guest_base c ≤ r.0) h.reads

-- all of them
pub record HeldEntries (c : Config) (T : List ℕ → ℕ) (G : List ℕ → Lead) (root : ℕ) (w : Held → ℕ) (hs : List Held) : Type 0 where
  pub spans : Spans c T
  pub all : All (λ h. HeldEntry c T G root (w h) h) hs

-- where a leaf stands a path is held
pub record HeldAt (P : Held → Type 0) (w : Held → ℕ) (hs : List Held) (q : List ℕ) : Type 0 where
  pub held : Held
  pub fact : P held
  pub path : onto [] held.path ≡ q
  pub entry : leaf_at w hs q ≡ w held

at_path : (h : Held) (q : List ℕ) → same h.path (onto [] q) ≡ true → onto [] h.path ≡ q
at_path h q e = ap (onto []) (same_is h.path (onto [] q) (subst T (sym e) tt)) ∙ turn_turn q

path_at_lem : (h : Held) → same h.path (onto [] (onto [] h.path)) ≡ true
path_at_lem h = ap (same h.path) (turn_turn h.path) ∙ is_true (same h.path h.path) (same_refl h.path)

pub leaf_held : (P : Held → Type 0) (w : Held → ℕ) (hs : List Held) (q : List ℕ) → All P hs → leaf_at w hs q ≢ 0 → HeldAt P w hs q
unfolding entries get
leaf_held P w [] q a n = absurd (n refl)
leaf_held P w (h ∷ hs) q a n = go (same h.path (onto [] q)) refl n (leaf_held P w hs q a.1)
  where
    go : (b : Bool) → same h.path (onto [] q) ≡ b → cond b (w h) (leaf_at w hs q) ≢ 0 → (leaf_at w hs q ≢ 0 → HeldAt P w hs q) → HeldAt P w (h ∷ hs) q
    go true e k ih = record { held = h; fact = a.0; path = at_path h q e; entry = rw e }
    go false e k ih = let r = ih k in record { held = r.held; fact = r.fact; path = r.path; entry = rw e r.entry }

-- a test that such a path passes
pub leaf_any : (P : Held → Type 0) (w : Held → ℕ) (D : Held → Bool) (q : List ℕ) → ((h : Held) → P h → onto [] h.path ≡ q → T (D h)) → (hs : List Held) → All P hs
    → leaf_at w hs q ≢ 0 → T (any D hs)
unfolding entries get
leaf_any P w D q f [] a n = absurd (n refl)
leaf_any P w D q f (h ∷ hs) a n = go (same h.path (onto [] q)) refl n (leaf_any P w D q f hs a.1)
  where
    go : (b : Bool) → same h.path (onto [] q) ≡ b → cond b (w h) (leaf_at w hs q) ≢ 0 → (leaf_at w hs q ≢ 0 → T (any D hs)) → T (D h || any D hs)
    go true e k ih = or_left (D h) (any D hs) (f h a.0 (at_path h q e))
    go false e k ih = or_right (D h) (any D hs) (ih k)

-- where a path is held a leaf stands
pub record Passes (P : Held → Type 0) (w : Held → ℕ) (D : Held → Bool) (hs : List Held) : Type 0 where
  pub held : Held
  pub fact : P held
  pub passes : T (D held)
  pub leaf : leaf_at w hs (onto [] held.path) ≢ 0

pub any_leaf : (P : Held → Type 0) (w : Held → ℕ) (D : Held → Bool) → ((h : Held) → P h → w h ≢ 0) → (hs : List Held) → All P hs → T (any D hs) → Passes P w D hs
unfolding entries get
any_leaf P w D s [] a n = absurd n
any_leaf P w D s (h ∷ hs) a n = elim (or_cases (D h) (any D hs) n) [
  | inl k ↦ record { held = h; fact = a.0; passes = k; leaf = rw (path_at_lem h) (s h a.0) }
  | inr k ↦ more (any_leaf P w D s hs a.1 k)
]
  where
    more : Passes P w D hs → Passes P w D (h ∷ hs)
    more r = record { held = r.held; fact = r.fact; passes = r.passes; leaf = go (same h.path (onto [] (onto [] r.held.path))) }
      where
        go : (b : Bool) → cond b (w h) (leaf_at w hs (onto [] r.held.path)) ≢ 0
        go true = s h a.0
        go false = r.leaf

pub leaves_are : {c : Config} {F : List ℕ → ℕ} {G : List ℕ → Lead} {root : ℕ} {w : Held → ℕ} {hs : List Held} → HeldEntries c F G root w hs → Leaves c (leaf_at w hs)
leaves_are {c = c} {w = w} {hs = hs} a = record {
  area = λ y n. let r = leaf_held _ w hs y a.all n in rw r.entry r.fact.area;
  ends = λ y n.
      let r = leaf_held _ w hs y a.all n in
      let k = onto_long [] r.held.path in
      let u = ap length r.path in
      let e : length r.held.path ≡ length y = omega arith in
      rw r.entry (r.fact.ends ∙ ap (λ k. ltb k c.levels) e);
}

-- the same entries, the same leaves
pub leaf_same : (w v : Held → ℕ) (hs : List Held) → All (λ h. w h ≡ v h) hs → (q : List ℕ) → leaf_at w hs q ≡ leaf_at v hs q
unfolding entries get
leaf_same w v [] a q = refl
leaf_same w v (h ∷ hs) a q = ap₂ (cond (same h.path (onto [] q))) a.0 (leaf_same w v hs a.1 q)

-- ---- what a drop leaves
pub keep_leaf : (w : Held → ℕ) (C : List ℕ → Bool) (D : Held → Bool) (hs : List Held) (q : List ℕ) → All (λ h. D h ≡ under C (onto [] h.path)) hs
    → leaf_at w (keep (λ h. not (D h)) hs) q ≡ cond (under C q) 0 (leaf_at w hs q)
unfolding entries get
keep_leaf w C D [] q a = go (under C q)
  where
    go : (b : Bool) → ◌≡◌ {A = ℕ} 0 (cond b 0 0)
    go true = refl
    go false = refl
keep_leaf w C D (h ∷ hs) q a = go (D h) refl (same h.path (onto [] q)) refl (keep_leaf w C D hs q a.1)
  where
    here : same h.path (onto [] q) ≡ true → D h ≡ under C q
    here e = a.0 ∙ ap (under C) (at_path h q e)

    go : (d : Bool) → D h ≡ d → (s : Bool) → same h.path (onto [] q) ≡ s → leaf_at w (keep (λ h. not (D h)) hs) q ≡ cond (under C q) 0 (leaf_at w hs q)
        → leaf_at w (cond (not d) (h ∷ keep (λ h. not (D h)) hs) (keep (λ h. not (D h)) hs)) q ≡ cond (under C q) 0 (cond s (w h) (leaf_at w hs q))
    go true e true s ih = let u : under C q ≡ true = sym (here s) ∙ e in rw u (rw u at ih)
    go true e false s ih = ih
    go false e true s ih = let u : under C q ≡ false = sym (here s) ∙ e in rw (s, u)
    go false e false s ih = rw s ih

-- ---- where a stored word, a mapping, a prefix cuts
abbrev pub cut_word : ℕ → ℕ → (List ℕ → ℕ) → List ℕ → Bool
cut_word t i F [] = false
cut_word t i F (j ∷ q) = eqb t (F q) && eqb i j

abbrev pub cut_names : ℕ → (List ℕ → Lead) → List ℕ → Bool
cut_names g G q = leads_to g (G q)

abbrev pub cut_prefix : List ℕ → List ℕ → Bool
cut_prefix z q = same q z

swap : (c r u : Bool) → ((c || r) || u) ≡ (r || cond c true u)
swap true true u = refl
swap true false u = refl
swap false true u = refl
swap false false u = refl

-- a test of the words that one level reads, if it fails on a span; and of the mappings that it uses
pub level_any : (c : Config) (f : ℕ × ℕ → Bool) (t i : ℕ) → (is_span c t ≡ true → f (t, i) ≡ false) → any f (level_reads c t i) ≡ f (t, i)
level_any c f t i s = go (is_span c t) refl
  where
    go : (b : Bool) → is_span c t ≡ b → any f (cond b [] ((t, i) ∷ [])) ≡ f (t, i)
    go true e = sym (s e)
    go false e = or-false (f (t, i))

lead_any : (g : ℕ) (x : Lead) → any (eqb g) (lead_uses x) ≡ leads_to g x
lead_any g (to h) = or-false (eqb g h)
lead_any g (into h) = refl

-- a host frame is no span
pub no_span : (c : Config) (t u : ℕ) → is_span c t ≡ false → is_span c u ≡ true → eqb t u ≡ false
no_span c t u a b = ne_eqb t u (λ e. differ (sym b ∙ ap (is_span c) (sym e) ∙ a))

-- t is a host frame
module _ (c : Config) (t i : ℕ) (real : is_span c t ≡ false) (F : List ℕ → ℕ) where
  abbrev is_word : ℕ × ℕ → Bool
  is_word r = eqb t r.0 && eqb i r.1

  word_level : (u j : ℕ) → any is_word (level_reads c u j) ≡ (eqb t u && eqb i j)
  word_level u j = level_any c is_word u j (λ e. ap (λ b. b && eqb i j) (no_span c t u real e))

  word_from : (is q : List ℕ) → (any is_word (reads_from c F q is) || under (cut_word t i F) q) ≡ under (cut_word t i F) (onto q is)
  unfolding onto
  word_from [] q = refl
  word_from (j ∷ is) q =
      ap (λ b. b || under (cut_word t i F) q) (any_append is_word (level_reads c (F q) j) (reads_from c F (j ∷ q) is) ∙ ap (λ b. b || any is_word (reads_from c F (j ∷ q) is)) (word_level (F q) j))
      ∙ swap (eqb t (F q) && eqb i j) (any is_word (reads_from c F (j ∷ q) is)) (under (cut_word t i F) q) ∙ word_from is (j ∷ q)

  pub word_cut : (h : Held) → h.reads ≡ reads_from c F [] h.path → reads_word t i h ≡ under (cut_word t i F) (onto [] h.path)
  word_cut h e = ap (any is_word) e ∙ sym (or-false (any is_word (reads_from c F [] h.path))) ∙ word_from h.path []

names_from : (g : ℕ) (G : List ℕ → Lead) (is q : List ℕ) → (any (eqb g) (uses_from G q is) || under (cut_names g G) q) ≡ under (cut_names g G) (onto q is)
unfolding onto
names_from g G [] q = refl
names_from g G (j ∷ is) q =
    ap (λ b. b || under (cut_names g G) q) (any_append (eqb g) (lead_uses (G (j ∷ q))) (uses_from G (j ∷ q) is) ∙ ap (λ b. b || any (eqb g) (uses_from G (j ∷ q) is)) (lead_any g (G (j ∷ q))))
    ∙ swap (leads_to g (G (j ∷ q))) (any (eqb g) (uses_from G (j ∷ q) is)) (under (cut_names g G) q) ∙ names_from g G is (j ∷ q)

pub names_cut : (g root : ℕ) (G : List ℕ → Lead) (h : Held) → h.uses ≡ root ∷ uses_from G [] h.path → eqb g root ≡ false
    → uses_mapping g h ≡ under (cut_names g G) (onto [] h.path)
names_cut g root G h e n =
    ap (any (eqb g)) e ∙ ap (λ b. b || any (eqb g) (uses_from G [] h.path)) n
    ∙ sym (or-false (any (eqb g) (uses_from G [] h.path))) ∙ names_from g G h.path []

-- under the cut at one path: that path, and those of which it is a proper prefix
pub under_prefix : (z q : List ℕ) → T (under (cut_prefix z) q) → (z ≡ q) ⊎ Ext z q
under_prefix z [] h = absurd h
under_prefix z (i ∷ q) h = go (same (i ∷ q) z) refl h (under_prefix z q)
  where
    go : (b : Bool) → same (i ∷ q) z ≡ b → T (cond b true (under (cut_prefix z) q)) → (T (under (cut_prefix z) q) → (z ≡ q) ⊎ Ext z q) → (z ≡ i ∷ q) ⊎ ((z ≡ q) ⊎ Ext z q)
    go true e k ih = inl (sym (same_is (i ∷ q) z (subst T (sym e) tt)))
    go false e k ih = inr (ih k)

prefix_under : (z q : List ℕ) → z ≢ [] → (z ≡ q) ⊎ Ext z q → T (under (cut_prefix z) q)
prefix_under z [] n h = elim h [ inl e ↦ n e | inr e ↦ e ]
prefix_under z (i ∷ q) n h = go (same (i ∷ q) z) refl h (prefix_under z q n)
  where
    go : (b : Bool) → same (i ∷ q) z ≡ b → (z ≡ i ∷ q) ⊎ ((z ≡ q) ⊎ Ext z q) → ((z ≡ q) ⊎ Ext z q → T (under (cut_prefix z) q)) → T (cond b true (under (cut_prefix z) q))
    go true e k ih = tt
    go false e (inl k) ih = differ (sym (ap (same (i ∷ q)) k ∙ is_true (same (i ∷ q) (i ∷ q)) (same_refl (i ∷ q))) ∙ e)
    go false e (inr k) ih = ih k

-- a proper prefix, from the top and last index first
pub ext_begins : (p q : List ℕ) → Ext (onto [] p) (onto [] q) → T (begins p q)
ext_begins p q e = propers_begins p q (subst (λ z. In z (propers q)) (turn_turn p) (ext_propers (onto [] p) q e))

pub prefix_cut : (is : List ℕ) (h : Held) → is ≢ [] → begins is h.path ≡ under (cut_prefix (onto [] is)) (onto [] h.path)
prefix_cut is h n = both_tests _ _ there free-words
  where
    there : T (begins is h.path) → T (under (cut_prefix (onto [] is)) (onto [] h.path))
    there b = prefix_under (onto [] is) (onto [] h.path) (λ e. n (turn_none is e)) (elim (begins_propers is h.path b) [
      | inl e ↦ inl (ap (onto []) e)
      | inr e ↦ inr (propers_ext is h.path e)
    ])

    free-words : T (under (cut_prefix (onto [] is)) (onto [] h.path)) → T (begins is h.path)
    free-words b = elim (under_prefix (onto [] is) (onto [] h.path) b) [
      | inl e ↦ subst (λ z. T (begins is z)) (sym (turn_turn is) ∙ ap (onto []) e ∙ turn_turn h.path) (begins_refl is)
      | inr e ↦ ext_begins is h.path e
    ]

-- ---- the three drops of the book
module _ (w : Held → ℕ) (hs : List Held) (q : List ℕ) where
  pub word_drop : (c : Config) (t i : ℕ) → is_span c t ≡ false → (F : List ℕ → ℕ) → All (λ h. h.reads ≡ reads_from c F [] h.path) hs
      → leaf_at w (drop_word t i hs) q ≡ cond (under (cut_word t i F) q) 0 (leaf_at w hs q)
  word_drop c t i real F a = keep_leaf w (cut_word t i F) (reads_word t i) hs q (all_map _ _ hs (λ h e. word_cut c t i real F h e) a)

  pub names_drop : (g root : ℕ) (G : List ℕ → Lead) → All (λ h. h.uses ≡ root ∷ uses_from G [] h.path) hs → eqb g root ≡ false
      → leaf_at w (drop_mapping g hs) q ≡ cond (under (cut_names g G) q) 0 (leaf_at w hs q)
  names_drop g root G a n = keep_leaf w (cut_names g G) (uses_mapping g) hs q (all_map _ _ hs (λ h e. names_cut g root G h e n) a)

  pub prefix_drop : (is : List ℕ) → is ≢ [] → leaf_at w (drop_prefix is hs) q ≡ cond (under (cut_prefix (onto [] is)) q) 0 (leaf_at w hs q)
  prefix_drop is n = keep_leaf w (cut_prefix (onto [] is)) (λ h. begins is h.path) hs q (all_any _ hs (λ h. prefix_cut is h n))
