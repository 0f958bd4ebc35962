-- What it means that bytes were put behind those that stood in a buffer, and how two such steps make one.
use Rattle.std.specs.Prelude.{ℕ, suc, ◌+◌, ◌<◌, ◌≡◌, List, [], ◌∷◌, ◌++◌, length, take, set, get_or}
use Rattle.std.proofs.Common.{arith, take-suc, take-suc-set, sym, ap, ◌∙◌, append_assoc}

-- the buffer out at the position at became out' at r: the text t was put behind what stood there
abbrev pub Puts : List ℕ → ℕ → List ℕ → ℕ → List ℕ → Type 0
Puts out at out' r t = take r out' ≡ take at out ++ t

pub then : (a b c : List ℕ) (i j k : ℕ) (t u : List ℕ) → Puts a i b j t → Puts b j c k u → Puts a i c k (t ++ u)
then a b c i j k t u p q = q ∙ ap (λ (x : List ℕ). x ++ u) p ∙ append_assoc (take i a) t u

pub puts_as : (a b : List ℕ) (i j : ℕ) (t u : List ℕ) → Puts a i b j t → t ≡ u → Puts a i b j u
puts_as a b i j t u p e = p ∙ ap (λ (x : List ℕ). take i a ++ x) e

pub puts_byte : (l : List ℕ) (i b : ℕ) → i < length l → Puts l i (set l i b) (i + 1) (b ∷ [])
puts_byte l i b h =
    let e : i + 1 ≡ suc i = omega arith in
    ap (λ (k : ℕ). take k (set l i b)) e ∙ take-suc-set l i b h

-- the text g is to stand in the buffer: once t is put, what is left of it is u
pub puts_front : (b c : List ℕ) (i j : ℕ) (t u g : List ℕ) → Puts b i c j t → take i b ++ (t ++ u) ≡ g → take j c ++ u ≡ g
puts_front b c i j t u g p e = ap (λ (x : List ℕ). x ++ u) p ∙ append_assoc (take i b) t u ∙ e

-- one more byte of a text
pub puts_next : (a b c : List ℕ) (at i r : ℕ) (s : List ℕ) → i < length s → r ≡ at + i + 1
    → Puts a at b (at + i) (take i s) → Puts b (at + i) c r (get_or s i 0 ∷ []) → Puts a at c (at + (i + 1)) (take (i + 1) s)
puts_next a b c at i r s h e p q =
    let f : at + (i + 1) ≡ r = omega arith in
    let g : suc i ≡ i + 1 = omega arith in
    ap (λ (k : ℕ). take k c) f
    ∙ puts_as a c at r _ _ (then a b c at (at + i) r (take i s) (get_or s i 0 ∷ []) p q) (sym (take-suc s i 0 h) ∙ ap (λ (k : ℕ). take k s) g)
