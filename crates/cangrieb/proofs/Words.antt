-- The words of a head after those of what is held were written, and that of the requests charged.
use mathlib.Core.Path.{◌≡◌, refl, sym, ap, subst}
use mathlib.Core.Bool.{Bool, true, false, cond}
use mathlib.Core.List.{List, [], ◌∷◌}
use Prim.Native.Nat.{ℕ, zero, suc}
use native.Mathlib.Omega.{arith}
use lib.ListN.{length, get_or, drop, set}
use lib.Dec.{eqb}
use borrow.Author.Tests.{eq-eqb}
use Rattle.spec.specs.declared.Answer.{Answer}
use Rattle.spec.specs.declared.Answer.TheVariants as answer
use Rattle.choice.specs.declared.Tally.{Tally}
use Rattle.choice.specs.Window.{with_charged, requested_of}
use Rattle.record.specs.declared.Head.{Head}
use Rattle.record.specs.Record.{head_tables, head_tally}
use Rattle.translate.specs.declared.Held.{Held}
use Rattle.calls.specs.Calls.{head_held, head_remapped, tally_after}
use Rattle.record.specs.Words.{head_in, head_words}
use Rattle.calls.specs.declared.Remapped.{Remapped}
use Rattle.cangrieb.specs.Flat.{head_charged, window_in}

-- the first n words of a list, one by one
first_of : ℕ → List ℕ → List ℕ
first_of zero ws = []
first_of (suc n) ws = get_or ws 0 0 ∷ first_of n (drop 1 ws)

-- a list of n words is those
all_first : (n : ℕ) (ws : List ℕ) → length ws ≡ n → ws ≡ first_of n ws
unfolding first_of
all_first zero [] e = refl
all_first zero (w ∷ ws) e = absurd (omega arith)
all_first (suc n) [] e = absurd (omega arith)
all_first (suc n) (w ∷ ws) e = ap (λ xs. w ∷ xs) (all_first n ws (omega arith))

abbrev put_held : List ℕ → Held → List ℕ
put_held ws h = set (set (set (set (set ws 9 h.pool.fresh) 10 h.pool.free) 11 h.pool.used) 12 h.pool.top) 14 h.frame.0

pub put_held_lem : (ws : List ℕ) (h : Held) → length ws ≡ 20 → put_held ws h ≡ head_words (head_held (head_in ws) h)
unfolding head_held head_tables first_of
put_held_lem ws h e = subst (λ xs. put_held xs h ≡ head_words (head_held (head_in xs) h)) (sym (all_first 20 ws e)) refl

abbrev put_host : List ℕ → Remapped → List ℕ
put_host ws x = set (set (set (set ws 5 x.host.fresh) 6 x.host.free) 7 x.host.used) 8 x.host.top

pub put_tables : (ws : List ℕ) (x : Remapped) → length ws ≡ 20 → put_held (put_host ws x) x.held ≡ head_words (head_remapped (head_in ws) x)
unfolding head_tables first_of
put_tables ws x e = subst (λ xs. put_held (put_host xs x) x.held ≡ head_words (head_remapped (head_in xs) x)) (sym (all_first 20 ws e)) refl

pub put_charged : (ws : List ℕ) (n : ℕ) → length ws ≡ 20 → set ws 17 n ≡ head_words (head_charged (head_in ws) n)
unfolding head_tally first_of
put_charged ws n e = subst (λ xs. set xs 17 n ≡ head_words (head_charged (head_in xs) n)) (sym (all_first 20 ws e)) refl

-- ---- the tally after a request

-- with the choice off it stays
requested_off : (t : Tally) → t.on ≡ 0 → requested_of t ≡ t
unfolding requested_of
requested_off t e = rw (eq-eqb _ _ e)

tally_off : (a : Answer) (t : Tally) → t.on ≡ 0 → tally_after a t ≡ t
tally_off answer.Ok t e = requested_off t e
tally_off (answer.Value v r x) t e = requested_off t e
tally_off (answer.Done r x) t e = requested_off t e
tally_off (answer.Faulted f r x) t e = requested_off t e
tally_off (answer.Refused n) t e = refl
tally_off (answer.Figures r x n) t e = requested_off t e

-- the word of the requests charged is all that changes
requested_word : (t : Tally) → with_charged t (requested_of t).charged ≡ requested_of t
unfolding requested_of
requested_word t = go (eqb t.on 0) _
  where
    go : (b : Bool) (n : ℕ) → with_charged t (cond b t (with_charged t n)).charged ≡ cond b t (with_charged t n)
    go true n = refl
    go false n = refl

tally_word : (a : Answer) (t : Tally) → with_charged t (tally_after a t).charged ≡ tally_after a t
tally_word answer.Ok t = requested_word t
tally_word (answer.Value v r x) t = requested_word t
tally_word (answer.Done r x) t = requested_word t
tally_word (answer.Faulted f r x) t = requested_word t
tally_word (answer.Refused n) t = refl
tally_word (answer.Figures r x n) t = requested_word t

module _ (h : Head) (x : Held) (a : Answer) where
  pub window_off : h.tally.on ≡ 0 → head_held h x ≡ window_in h x a
  unfolding head_held head_tables head_tally
  window_off e = ap (head_tally (head_held h x)) (sym (tally_off a h.tally e))

  pub window_on : head_charged (head_held h x) (tally_after a h.tally).charged ≡ window_in h x a
  unfolding head_held head_tables head_tally
  window_on = ap (head_tally (head_held h x)) (tally_word a h.tally)
