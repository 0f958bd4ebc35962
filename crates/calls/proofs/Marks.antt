-- A mark that is set or cleared on a record in parts.
use mathlib.Core.Path.{◌≡◌, refl, sym, ap, ◌∙◌}
use mathlib.Core.Logic.{◌≢◌}
use mathlib.Core.Bool.{Bool, true, false, cond}
use mathlib.Core.List.{List}
use Prim.Native.Nat.{ℕ}
use lib.Dec.{eqb}
use lib.ListN.{length}
use borrow.Author.Tests.{eq-eqb, ne_eqb}
use Rattle.spec.specs.declared.Answer.TheVariants as answer
use Rattle.words.specs.After.{After, yields}
use Rattle.record.specs.declared.Head.{Head}
use Rattle.record.specs.declared.Record.{Record}
use Rattle.record.specs.Record.{record_by, fits_of}
use Rattle.automatic.specs.declared.Moved.{Moved}
use Rattle.automatic.specs.Moves.{Move, moved, moved_in, kept_by}
use Rattle.calls.specs.Calls.{refused, turn_in, mark_refusal, moved_by, mark_moves, mark_call}
use Rattle.calls.proofs.Laws.{failed, passed}

module _ (b : Bool) (r : Record) (m : List ℕ) (a n : ℕ) (fits : fits_of r (length m) ≡ true) where
  pub mark_refused : (k : ℕ) → k ≡ mark_refusal b r a n → k ≢ 0 → refused r k m ≡ mark_call b r m a n
  mark_refused k e z =
      ap (λ j. refused r j m) e
      ∙ failed r m (eqb (mark_refusal b r a n) 0) (moved_by r (mark_moves b r m a n)) (refused r (mark_refusal b r a n) m) fits (ne_eqb (mark_refusal b r a n) 0 (λ q. z (e ∙ q)))

  pub mark_moved : mark_refusal b r a n ≡ 0 → moved_by r (mark_moves b r m a n) ≡ mark_call b r m a n
  mark_moved e = passed r m (eqb (mark_refusal b r a n) 0) (moved_by r (mark_moves b r m a n)) (refused r (mark_refusal b r a n) m) fits (eq-eqb (mark_refusal b r a n) 0 e)

-- x: the move; o: what is left of it in parts, beside the arrays
module _ (h : Head) (place ring order : List ℕ) (x : After Move) (o : After Moved) (place₁ order₁ : List ℕ)
    (e : yields (moved_in place₁ ring order₁ o.result) o.memory ≡ kept_by (record_by h place ring order) x) where
  abbrev whole : Record
  whole = record_by h place ring order

  by_move : (b : Bool) → x.result.ok ≡ b → yields (moved_in place₁ ring order₁ o.result) o.memory ≡ cond b x (moved whole false x.memory)
  by_move b q = e ∙ ap (λ c. cond c x (moved whole false x.memory)) q

  same_ok : o.result.ok ≡ x.result.ok
  same_ok = go x.result.ok refl
    where
      go : (b : Bool) → x.result.ok ≡ b → o.result.ok ≡ b
      go true q = ap (λ (y : After Move). y.result.ok) (by_move true q) ∙ q
      go false q = ap (λ (y : After Move). y.result.ok) (by_move false q)

  pub turn_moved : o.result.ok ≡ true → yields (turn_in place₁ ring order₁ (record { head = o.result.head; answer = answer.Ok })) o.memory ≡ moved_by whole x
  turn_moved t =
      let q : x.result.ok ≡ true = sym same_ok ∙ t in
      ap (λ (y : After Move). yields (record { unit = y.result.unit; answer = answer.Ok }) y.memory) (by_move true q)
      ∙ ap (λ c. yields (cond c (record { unit = x.result.unit; answer = answer.Ok }) (record { unit = whole; answer = answer.Refused 11 })) x.memory) (sym q)

  pub turn_damaged : o.result.ok ≡ false → yields (turn_in place₁ ring order₁ (record { head = h; answer = answer.Refused 11 })) o.memory ≡ moved_by whole x
  turn_damaged t =
      let q : x.result.ok ≡ false = sym same_ok ∙ t in
      let k = by_move false q in
      let p : place₁ ≡ place = ap (λ (y : After Move). y.result.unit.guest.marks.place) k in
      let s : order₁ ≡ order = ap (λ (y : After Move). y.result.unit.guest.choice.order) k in
      rw (p, s) (ap (λ (y : After Move). refused whole 11 y.memory) k
      ∙ ap (λ c. yields (cond c (record { unit = x.result.unit; answer = answer.Ok }) (record { unit = whole; answer = answer.Refused 11 })) x.memory) (sym q))
