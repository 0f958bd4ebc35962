-- A record in a part of the input: where it starts does not matter, nor what follows it.
-- Assumes nothing.
use Rattle.std.proofs.Common.{◌≡◌, refl, sym, ap, ap₂, ◌∙◌, subst, Bool, true, false, cond, List, ◌++◌, ℕ, zero, suc, ◌+◌, ◌-◌, ◌*◌, ◌≤◌, ◌<◌, arith, leb-true, leb-false, ltb-true, ltb-false, le-leb, le-ltb, leb, ltb, length, take, drop, length-drop, length-append, get_or-drop, drop-drop}
use Rattle.std.proofs.lemmas.Bool.{lt-leb}
use Rattle.std.proofs.lemmas.List.{drop-append-le, take-append-le}
use Rattle.job_records.specs.declared.Cut.{Cut}
use Rattle.job_records.specs.declared.Cut.TheVariants.{Body, Short, Wrong}
use Rattle.job_records.specs.Records.{number, cut_by, cut_at, next_of, job_of, job_by, job_at}
use Rattle.job_records.specs.Laws.{number_front, Within, cut_within}

-- ---- where it starts

number_shift : (w : ℕ) (s : List ℕ) (at i : ℕ) → number w (drop at s) i ≡ number w s (at + i)
number_shift zero s at i = refl
number_shift (suc w) s at i =
    let e : at + (i + 1) ≡ at + i + 1 = omega arith in
    ap₂ (λ (x y : ℕ). x + 256 * y) (get_or-drop at s i 0) (number_shift w s at (i + 1) ∙ ap (number w s) e)

-- the same record, so many bytes later
abbrev pub later : ℕ → Cut → Cut
later at (Body k b n) = Body k (at + b) n
later at Short = Short
later at Wrong = Wrong

-- the tests of a cut, and the body where all pass
abbrev tree : Bool → Bool → Bool → Bool → Cut → Cut
tree a b c d x = cond a (cond b Wrong (cond c Wrong (cond d Short x))) Short

later_tree : (at : ℕ) (a b c d : Bool) (x : Cut) → later at (tree a b c d x) ≡ tree a b c d (later at x)
later_tree at false b c d x = refl
later_tree at true true c d x = refl
later_tree at true false true d x = refl
later_tree at true false false true x = refl
later_tree at true false false false x = refl

-- a test that is decided alike
alike : (a b c d : ℕ) → (a ≤ b → c ≤ d) → (b < a → d < c) → leb a b ≡ leb c d
alike a b c d f g = go (leb a b) refl
  where
    go : (t : Bool) → leb a b ≡ t → t ≡ leb c d
    go true q = sym (le-leb c d (f (leb-true a b q)))
    go false q = sym (lt-leb c d (g (leb-false a b q)))

-- the record at a position is the first one of what starts there
pub cut_shift : (s : List ℕ) (at : ℕ) → cut_at s at ≡ later at (cut_at (drop at s) 0)
cut_shift s at =
    let p = drop at s in
    let l : length p ≡ length s - at = length-drop at s in
    let z : at + 0 ≡ at = omega arith in
    let n : number 2 s at ≡ number 2 p 0 = sym (number_shift 2 s at 0 ∙ ap (number 2 s) z) in
    let k : number 2 s (at + 2) ≡ number 2 p 2 = sym (number_shift 2 s at 2) in
    let room : length s - (at + 2) ≡ length p - 2 = omega arith in
    let first : leb (at + 2) (length s) ≡ leb 2 (length p) = alike (at + 2) (length s) 2 (length p) (λ h. omega arith) (λ h. omega arith) in
    (λ i. tree (first i) (ltb (n i) 2) (ltb 19 (n i)) (ltb (room i) (n i)) (Body (k i) (at + 4) (n i - 2)))
    ∙ sym (later_tree at (leb 2 (length p)) (ltb (number 2 p 0) 2) (ltb 19 (number 2 p 0)) (ltb (length p - 2) (number 2 p 0)) (Body (number 2 p 2) 4 (number 2 p 0 - 2)))

next_later : (at : ℕ) (c : Cut) → next_of at (later at c) ≡ at + next_of 0 c
next_later at (Body k b n) = omega arith
next_later at Short = omega arith
next_later at Wrong = omega arith

pub next_shift : (s : List ℕ) (at : ℕ) → next_of at (cut_at s at) ≡ at + next_of 0 (cut_at (drop at s) 0)
next_shift s at = ap (next_of at) (cut_shift s at) ∙ next_later at (cut_at (drop at s) 0)

job_later : (s : List ℕ) (at : ℕ) (c : Cut) → job_by s (later at c) ≡ job_by (drop at s) c
job_later s at (Body k b n) = ap (λ (x : List ℕ). job_of k (take n x)) (sym (drop-drop b at s))
job_later s at Short = refl
job_later s at Wrong = refl

pub job_shift : (s : List ℕ) (at : ℕ) → job_at s at ≡ job_at (drop at s) 0
unfolding job_at
job_shift s at = ap (job_by s) (cut_shift s at) ∙ job_later s at (cut_at (drop at s) 0)

-- a body starts behind length and kind
abbrev Starts : ℕ → Cut → Type 0
Starts at (Body k b n) = b ≡ at + 4
Starts at Short = Unit {0}
Starts at Wrong = Unit {0}

starts_tree : (at : ℕ) (a b c d : Bool) (x : Cut) → Starts at x → Starts at (tree a b c d x)
starts_tree at false b c d x h = tt
starts_tree at true true c d x h = tt
starts_tree at true false true d x h = tt
starts_tree at true false false true x h = tt
starts_tree at true false false false x h = h

pub body_starts : (s : List ℕ) (at k b n : ℕ) → cut_at s at ≡ Body k b n → b ≡ at + 4
body_starts s at k b n e =
    let l = number 2 s at in
    subst (Starts at) e (starts_tree at (leb (at + 2) (length s)) (ltb l 2) (ltb 19 l) (ltb (length s - (at + 2)) l) (Body (number 2 s (at + 2)) (at + 4) (l - 2)) refl)

-- ---- what follows it

-- a cut by the numbers that it looks at: the input's length, the record's and its kind
abbrev cut : ℕ → ℕ → ℕ → ℕ → Cut
cut at l n k = tree (leb (at + 2) l) (ltb n 2) (ltb 19 n) (ltb (l - (at + 2)) n) (Body k (at + 4) (n - 2))

decided : (at l n k : ℕ) (a b c d : Bool) → leb (at + 2) l ≡ a → ltb n 2 ≡ b → ltb 19 n ≡ c → ltb (l - (at + 2)) n ≡ d → cut at l n k ≡ tree a b c d (Body k (at + 4) (n - 2))
decided at l n k a b c d e f g h = λ i. tree (e i) (f i) (g i) (h i) (Body k (at + 4) (n - 2))

longer : (at l m n k j : ℕ) → l ≤ m → (at + 4 ≤ l → j ≡ k) → (cut at l n k ≡ Short → ⊥) → cut at m n j ≡ cut at l n k
longer at l m n k j more same found = go (leb (at + 2) l) (ltb n 2) (ltb 19 n) (ltb (l - (at + 2)) n) refl refl refl refl
  where
    go : (a b c d : Bool) → leb (at + 2) l ≡ a → ltb n 2 ≡ b → ltb 19 n ≡ c → ltb (l - (at + 2)) n ≡ d → cut at m n j ≡ cut at l n k
    go false b c d e f g h = absurd (found (decided at l n k false b c d e f g h))
    go true true c d e f g h =
        let up : at + 2 ≤ m = omega (arith, leb-true (at + 2) l e) in
        decided at m n j true true c _ (le-leb (at + 2) m up) f g refl ∙ sym (decided at l n k true true c d e f g h)
    go true false true d e f g h =
        let up : at + 2 ≤ m = omega (arith, leb-true (at + 2) l e) in
        decided at m n j true false true _ (le-leb (at + 2) m up) f g refl ∙ sym (decided at l n k true false true d e f g h)
    go true false false true e f g h = absurd (found (decided at l n k true false false true e f g h))
    go true false false false e f g h =
        let up : at + 2 ≤ m = omega (arith, leb-true (at + 2) l e) in
        let in-l : n ≤ l - (at + 2) = ltb-false (l - (at + 2)) n h in
        let in-m : n ≤ m - (at + 2) = omega arith in
        let kind : j ≡ k = same (omega (arith, leb-true (at + 2) l e, ltb-false n 2 f)) in
        decided at m n j true false false false (le-leb (at + 2) m up) f g (le-ltb (m - (at + 2)) n in-m)
        ∙ ap (λ (x : ℕ). Body x (at + 4) (n - 2)) kind
        ∙ sym (decided at l n k true false false false e f g h)

-- a cut that has found a record, or a length that no kind has, finds the same in any longer input
pub cut_front : (s t : List ℕ) (at : ℕ) → (cut_at s at ≡ Short → ⊥) → cut_at (s ++ t) at ≡ cut_at s at
cut_front s t at found = go (leb (at + 2) (length s)) refl
  where
    go : (a : Bool) → leb (at + 2) (length s) ≡ a → cut_at (s ++ t) at ≡ cut_at s at
    go false e = absurd (found (λ i. cond (e i) (cut_by s at (number 2 s at)) Short))
    go true e =
        let l : length (s ++ t) ≡ length s + length t = length-append s t in
        let there : at + 2 ≤ length s = leb-true (at + 2) (length s) e in
        ap (λ (n : ℕ). cut at (length (s ++ t)) n (number 2 (s ++ t) (at + 2))) (number_front 2 s t at there)
        ∙ longer at (length s) (length (s ++ t)) (number 2 s at) (number 2 s (at + 2)) (number 2 (s ++ t) (at + 2)) (omega arith) (λ h. number_front 2 s t (at + 2) (omega arith)) found

job_by_front : (s t : List ℕ) (c : Cut) → Within (length s) c → job_by (s ++ t) c ≡ job_by s c
job_by_front s t (Body k b n) h =
    let l : length (drop b s) ≡ length s - b = length-drop b s in
    ap (λ (x : List ℕ). job_of k (take n x)) (drop-append-le b s t (omega arith)) ∙ ap (job_of k) (take-append-le n (drop b s) t (omega arith))
job_by_front s t Short h = refl
job_by_front s t Wrong h = refl

-- and so does what it asks for
pub job_front : (s t : List ℕ) (at : ℕ) → (cut_at s at ≡ Short → ⊥) → job_at (s ++ t) at ≡ job_at s at
unfolding job_at
job_front s t at found = ap (job_by (s ++ t)) (cut_front s t at found) ∙ job_by_front s t (cut_at s at) (cut_within s at)

never : (c : Cut) → c ≡ Short → c ≡ Wrong → ⊥
never c p q = let z : ◌≡◌ {A = ℕ} 0 1 = cc in omega arith

-- where a cut finds nothing yet, fewer bytes than the longest record has are there
pub short_few : (s : List ℕ) (at : ℕ) → cut_at s at ≡ Short → length (drop at s) < 21
short_few s at short = go (leb (at + 2) (length s)) (ltb (number 2 s at) 2) (ltb 19 (number 2 s at)) (ltb (length s - (at + 2)) (number 2 s at)) refl refl refl refl
  where
    go : (a b c d : Bool) → leb (at + 2) (length s) ≡ a → ltb (number 2 s at) 2 ≡ b → ltb 19 (number 2 s at) ≡ c → ltb (length s - (at + 2)) (number 2 s at) ≡ d
        → length (drop at s) < 21
    go false b c d e f g h = omega (arith, length-drop at s, leb-false (at + 2) (length s) e)
    go true true c d e f g h = absurd (never Wrong (sym (decided at (length s) (number 2 s at) (number 2 s (at + 2)) true true c d e f g h) ∙ short) refl)
    go true false true d e f g h = absurd (never Wrong (sym (decided at (length s) (number 2 s at) (number 2 s (at + 2)) true false true d e f g h) ∙ short) refl)
    go true false false true e f g h = omega (arith, length-drop at s, ltb-false 19 (number 2 s at) g, ltb-true (length s - (at + 2)) (number 2 s at) h)
    go true false false false e f g h =
        let z : ◌≡◌ {A = ℕ} 0 1 = cc (sym (decided at (length s) (number 2 s at) (number 2 s (at + 2)) true false false false e f g h) ∙ short) in
        omega arith
