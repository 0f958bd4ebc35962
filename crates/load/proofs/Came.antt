-- What reads put into a buffer, one behind the other, is what they consumed; and a load is that of the whole input, since no more than 16 bytes of it count.
use Rattle.std.proofs.Common.{ℕ, ◌+◌, ◌≤◌, ◌<◌, ◌≡◌, List, ◌++◌, Some, None, ◌⊎◌, inl, inr, length, take, ap, sym, ◌∙◌, subst, arith, append-nil, IfSome, OnOk, Result}
use Rattle.std.proofs.lemmas.List.{length-take-le, take-append-le}
use Rattle.std.proofs.lemmas.Bool.{cases_lt}
use Rattle.std.proofs.lemmas.Result.{on_ok_weaker}
use Rattle.std.proofs.Math.Seq.{take-append-add}
use Rattle.std.proofs.KnownBytes.{Consumes-trans}
use Rattle.std.specs.Io.KnownBytes.{Appends, Consumes, IsAtEnd}
use Rattle.std.specs.declared.option.Option.{Option}
use borrow.Rule.Slice.PartMut.{put_mid, post_of}
use Rattle.load_spec.specs.Load.{load_by}
use Rattle.load_records.specs.Laws.{load_front}

-- the bytes ys are read into xs from i on, and n of them count
filled : (xs ys : List ℕ) (i k n : ℕ) → i ≤ length xs → n ≤ length ys → take (i + n) (put_mid i k xs ys) ≡ take i xs ++ take n ys
filled xs ys i k n h g =
    let b = put_mid i k xs ys in
    ap (λ (j : ℕ). take (j + n) b) (sym (length-take-le i xs h))
    ∙ take-append-add (take i xs) (ys ++ post_of i k xs) n
    ∙ ap (λ (l : List ℕ). take i xs ++ l) (take-append-le n ys (post_of i k xs) g)

pub read_on : (a b c : Option (List ℕ)) (xs ys : List ℕ) (i k n : ℕ) → i ≤ length xs → n ≤ length ys → Consumes a b (take i xs) → Consumes b c (take n ys)
    → Consumes a c (take (i + n) (put_mid i k xs ys))
read_on a b c xs ys i k n h g p q = subst (Consumes a c) (sym (filled xs ys i k n h g)) (Consumes-trans a b c (take i xs) (take n ys) p q)

-- n bytes of 16 came, and fewer than 16 only where the input ended
pub same_load : (a b : Option (List ℕ)) (s : List ℕ) (n : ℕ) → length s ≡ 16 → n ≤ length s → Consumes a b (take n s) → (n < length s → IsAtEnd b)
    → IfSome a (λ input. load_by (take n s) ≡ load_by input)
same_load None b s n l h p e = tt
same_load (Some x) None s n l h p e = absurd p
same_load (Some x) (Some y) s n l h p e = go (cases_lt n (length s))
  where
    go : (n < length s) ⊎ (length s ≤ n) → load_by (take n s) ≡ load_by x
    go (inl q) = ap load_by (sym (p ∙ ap (λ (t : List ℕ). take n s ++ t) (e q) ∙ append-nil (take n s)))
    go (inr q) = sym (ap load_by p ∙ load_front (take n s) y (length-take-le n s h ∙ omega arith))

some_weaker : (a : Option (List ℕ)) (P Q : List ℕ → Type 0) → IfSome a P → ((x : List ℕ) → P x → Q x) → IfSome a Q
some_weaker None P Q p f = tt
some_weaker (Some x) P Q p f = f x p

-- the load of the bytes that came is that of the input
pub wrote : {E : Type 0} (r : Result (Unit {0}) E) (a w v : Option (List ℕ)) (s : List ℕ) → IfSome a (λ input. load_by s ≡ load_by input) → OnOk r (Appends w v (load_by s))
    → OnOk r (IfSome a (λ input. Appends w v (load_by input)))
wrote r a w v s p q = on_ok_weaker r (λ h. some_weaker a _ _ p (λ x e. subst (Appends w v) e h)) q
