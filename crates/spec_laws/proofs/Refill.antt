-- A fill replaces the held path of the same indexes, if there is one: it needs the tables that it would need beside it, and leaves every
-- other path as it is.
-- Assumes nothing.
use mathlib.Core.Path.{◌≡◌, refl, sym, ap, ◌∙◌, subst}
use Prim.Native.Nat.{ℕ, ◌≤◌}
use native.Mathlib.Omega.{arith}
use mathlib.Core.Bool.{Bool, true, false, not, ◌&&◌, ◌||◌, cond}
use mathlib.Core.List.{List, [], ◌∷◌}
use mathlib.Core.Option.{none, some}
use borrow.Author.Tests.{le-leb}
use lib.Dec.{T, leb}
use Rattle.spec.specs.Config.{Config}
use Rattle.spec.specs.Prefix.{All, any, keep, same}
use Rattle.spec.specs.Book.{Held, find, paths, shadow_tables, fill}
use Rattle.spec.specs.Count.{others}
use Rattle.spec_laws.proofs.Lists.{all_kept, same_is}
use Rattle.spec_laws.proofs.Indexes.{same_sym}
use Rattle.spec_laws.proofs.Distinct.{without, kept_any}
use Rattle.spec_laws.proofs.Members.{SamePaths, tables_same}

abbrev besides : List ℕ → Held → Bool
besides p h = not (same p h.path)

-- ---- the other paths

pub others_all : (P : Held → Type 0) (c : Config) (p : List ℕ) (hs : List Held) → All P hs → All P (others c p hs)
others_all P c p hs a = go c.bits
  where
    go : (b : Bool) → All P (cond b (keep (besides p) hs) hs)
    go true = all_kept P (besides p) hs a
    go false = a

-- each is found as before
pub others_find : (c : Config) (p q : List ℕ) (hs : List Held) → same p q ≡ false → find q (others c p hs) ≡ find q hs
others_find c p q hs n = go c.bits
  where
    kept : (ks : List Held) → find q (keep (besides p) ks) ≡ find q ks
    kept [] = refl
    kept (k ∷ ks) = by (same p k.path) refl (kept ks)
      where
        by : (b : Bool) → same p k.path ≡ b → find q (keep (besides p) ks) ≡ find q ks
            → find q (cond (not b) (k ∷ keep (besides p) ks) (keep (besides p) ks)) ≡ cond (same q k.path) (some k) (find q ks)
        by false e ih = ap (cond (same q k.path) (some k)) ih
        by true e ih =
            ih ∙ sym (ap (λ b. cond b (some k) (find q ks)) (ap (same q) (sym (same_is p k.path (subst T (sym e) tt))) ∙ same_sym q p ∙ n))

    go : (b : Bool) → find q (cond b (keep (besides p) hs) hs) ≡ find q hs
    go true = kept hs
    go false = refl

-- where the path is not held, they are all
pub others_unheld : (c : Config) (p : List ℕ) (hs : List Held) → find p hs ≡ none → others c p hs ≡ hs
others_unheld c p hs n = go c.bits
  where
    kept : (ks : List Held) → find p ks ≡ none → keep (besides p) ks ≡ ks
    kept [] e = refl
    kept (k ∷ ks) e = by (same p k.path) e (kept ks)
      where
        by : (b : Bool) → cond b (some k) (find p ks) ≡ none → (find p ks ≡ none → keep (besides p) ks ≡ ks)
            → cond (not b) (k ∷ keep (besides p) ks) (keep (besides p) ks) ≡ k ∷ ks
        by true z ih = let y : ◌≡◌ {A = ℕ} 0 1 = cc in absurd (omega arith)
        by false z ih = ap (λ l. k ∷ l) (ih z)

    go : (b : Bool) → cond b (keep (besides p) hs) hs ≡ hs
    go true = kept hs n
    go false = refl

-- ---- the tables

kept_paths : (p : List ℕ) (hs : List Held) → paths (keep (besides p) hs) ≡ without p (paths hs)
kept_paths p [] = refl
kept_paths p (h ∷ hs) = go (same p h.path) (kept_paths p hs)
  where
    go : (b : Bool) → paths (keep (besides p) hs) ≡ without p (paths hs)
        → paths (cond (not b) (h ∷ keep (besides p) hs) (keep (besides p) hs)) ≡ cond (not b) (h.path ∷ without p (paths hs)) (without p (paths hs))
    go true ih = ih
    go false ih = ap (λ l. h.path ∷ l) ih

pub others_tables : (c : Config) (h : Held) (hs : List Held) → shadow_tables (h ∷ others c h.path hs) ≡ shadow_tables (h ∷ hs)
others_tables c h hs = go c.bits
  where
    p : List ℕ
    p = h.path

    alike : SamePaths (p ∷ without p (paths hs)) (p ∷ paths hs)
    alike q = ap (λ b. same q p || b) (kept_any (λ x. not (same p x)) q (paths hs) ∙ ap (λ b. not b && any (same q) (paths hs)) (same_sym p q)) ∙ by (same q p)
      where
        by : (b : Bool) → (b || (not b && any (same q) (paths hs))) ≡ (b || any (same q) (paths hs))
        by true = refl
        by false = refl

    go : (b : Bool) → shadow_tables (h ∷ cond b (keep (besides p) hs) hs) ≡ shadow_tables (h ∷ hs)
    go true = tables_same (p ∷ paths (keep (besides p) hs)) (p ∷ paths hs) (λ q. ap (λ l. any (same q) (p ∷ l)) (kept_paths p hs) ∙ alike q)
    go false = refl

-- so the others stay wherever the path would fit beside the one that it replaces
pub fill_others : (c : Config) (h : Held) (hs : List Held)
    → fill c h (others c h.path hs) ≡ cond (leb (shadow_tables (h ∷ hs)) c.shadows) (h ∷ others c h.path hs) (h ∷ [])
fill_others c h hs = ap (λ n. cond (leb n c.shadows) (h ∷ others c h.path hs) (h ∷ [])) (others_tables c h hs)

held_any : (p : List ℕ) (hs : List Held) (k : Held) → find p hs ≡ some k → any (same p) (paths hs) ≡ true
held_any p [] k e = let y : ◌≡◌ {A = ℕ} 0 1 = cc in absurd (omega arith)
held_any p (h ∷ hs) k e = go (same p h.path) e (held_any p hs k)
  where
    go : (b : Bool) → cond b (some h) (find p hs) ≡ some k → (find p hs ≡ some k → any (same p) (paths hs) ≡ true) → (b || any (same p) (paths hs)) ≡ true
    go true z ih = refl
    go false z ih = ih z

-- and it does where that one is held
pub refill_tables : (h : Held) (hs : List Held) (k : Held) → find h.path hs ≡ some k → shadow_tables (h ∷ hs) ≡ shadow_tables hs
refill_tables h hs k e = tables_same (h.path ∷ paths hs) (paths hs) (λ q. go q (same q h.path) refl)
  where
    go : (q : List ℕ) (b : Bool) → same q h.path ≡ b → (b || any (same q) (paths hs)) ≡ any (same q) (paths hs)
    go q true s = sym (ap (λ x. any (same x) (paths hs)) (same_is q h.path (subst T (sym s) tt)) ∙ held_any h.path hs k e)
    go q false s = refl

pub refill_keeps : (c : Config) (h : Held) (hs : List Held) (k : Held) → find h.path hs ≡ some k → shadow_tables hs ≤ c.shadows
    → fill c h (others c h.path hs) ≡ h ∷ others c h.path hs
refill_keeps c h hs k e room =
    fill_others c h hs
    ∙ ap (λ b. cond b (h ∷ others c h.path hs) (h ∷ [])) (le-leb (shadow_tables (h ∷ hs)) c.shadows (subst (λ n. n ≤ c.shadows) (sym (refill_tables h hs k e)) room))
