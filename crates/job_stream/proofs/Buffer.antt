-- The bytes of a buffer that move to its front.
-- Assumes nothing.
use Rattle.std.proofs.Common.{◌≡◌, refl, sym, ap, ◌∙◌, List, ℕ, ◌+◌, ◌-◌, ◌≤◌, min, Bool, true, false, arith, leb-true, leb-false, leb, length, take, drop, length-drop, take_all, take_at, length-take-le}
use Rattle.std.specs.List.{copy_within}
use Rattle.std.proofs.lemmas.Slice.{between_is}

take_min : (len : ℕ) (b : List ℕ) → take (min len (length b)) b ≡ take len b
take_min len b = go (leb len (length b)) refl
  where
    go : (t : Bool) → leb len (length b) ≡ t → take (min len (length b)) b ≡ take len b
    go true q = let e : min len (length b) ≡ len = omega (arith, leb-true len (length b) q) in ap (λ (k : ℕ). take k b) e
    go false q =
        let e : length b ≤ min len (length b) = omega (arith, leb-false len (length b) q) in
        take_all (min len (length b)) b e ∙ sym (take_all len b (omega (arith, leb-false len (length b) q)))

-- the bytes of b from at to end are copied to the front
pub kept : (b c : List ℕ) (at end len : ℕ) → at ≤ end → end ≡ min len (length b) → c ≡ copy_within b at end 0
    → (end - at ≡ length (drop at (take len b))) × (take (end - at) c ≡ drop at (take len b))
kept b c at end len h m e =
    let n = end - at in
    let moved = take n (drop at b) in
    let long : n ≤ length (drop at b) = omega (arith, length-drop at b) in
    let here : take end b ≡ take len b = ap (λ (k : ℕ). take k b) m ∙ take_min len b in
    let there : moved ≡ drop at (take len b) = between_is b at end ∙ ap (drop at) here in
    let front : take n c ≡ moved = ap (take n) e ∙ take_at moved (drop (0 + n) b) n (length-take-le n (drop at b) long) in
    (sym (length-take-le n (drop at b) long) ∙ ap length there, front ∙ there)
