-- What a translation leaves, whatever the memory holds: no word outside the shadow tables' area changes, and what it hands back is
-- again in range.
use mathlib.Core.Path.{◌≡◌, refl}
use mathlib.Core.Logic.{inl, inr}
use Prim.Native.Nat.{ℕ, ◌+◌, ◌-◌, ◌≤◌}
use native.Mathlib.Omega.{arith}
use borrow.Author.Tests.{eqb-false, ltb-false}
use mathlib.Core.Bool.{Bool, true, false, cond, false≢true}
use mathlib.Core.List.{List}
use lib.Dec.{eqb, leb, ltb}
use Rattle.spec.specs.Config.{Config}
use Rattle.spec.specs.Entry.{page_of}
use Rattle.spec.specs.Plain.{is_span, walk}
use Rattle.pool.specs.declared.Way.{Way}
use Rattle.pool.specs.declared.Way.TheVariants.{To, Not, Damaged}
use Rattle.pool.specs.Outside.{SameOutside}
use Rattle.pool.proofs.Outside.{out_refl}
use Rattle.area.proofs.Outside.{indexes_narrow}
use Rattle.layout.specs.declared.HostWalk.{HostWalk}
use Rattle.layout.specs.declared.HostWalk.TheVariants as host
use Rattle.walk.specs.declared.Walked.{Walked}
use Rattle.walk.specs.declared.Walked.TheVariants as walked
use Rattle.spec.specs.Walk.{trace}
use Rattle.spec.specs.Bits.{lacks}
use Rattle.walk.specs.Memory.{memory_world, walked_of, root_trail}
use Rattle.spec_laws.proofs.Indexes.{indexes_all}
use Rattle.shadow.specs.Held.{entry_for}
use Rattle.shadow.specs.Fill.{fill_of}
use Rattle.shadow.proofs.Outside.{fill_out}
use Rattle.shadow.proofs.Fresh.{fill_fits}
use Rattle.translate.specs.declared.Held.{Held}
use Rattle.translate.specs.declared.Checked.{Checked}
use Rattle.translate.specs.declared.Checked.TheVariants as checked
use Rattle.translate.specs.Translate.{exit_by, path_of, path_indexes, holding, HeldFits, ExitsOnce, translation, whole, direct, direct_of, served_of, plain_of, checked_of, settled_by, judged_by, through_of, unshadowed_of, serves_of, found_of, fill_by, filled_of, passes_of, cleared_by, strict_by, lax_by, verdict_of, ruled_by, arrived_of, missed_by, missed_of, found_by, translate_of}
use Rattle.translate.proofs.Fits.{exit_small, ArrivedIn, ArrivedNear, direct_in, walk_in, shadow_near, FoundIs, found_is}
use Rattle.translate.proofs.Bits.{checked_once}
use Rattle.words.specs.After.{After, yields}
use Rattle.pool.specs.declared.Went.{Went}
use Rattle.translate.specs.declared.Translated.{Translated}
use Rattle.translate.specs.declared.Verdict.TheVariants as verdict
use Rattle.spec_laws.proofs.Keeps.{InGuestArea}

top_held : (c : Config) (h : Held) → HeldFits c h → eqb h.frame.0 0 ≡ false → InGuestArea c h.frame.0
top_held c h f q = elim f.1 [ inl z ↦ absurd (eqb-false h.frame.0 0 q z) | inr g ↦ g ]

-- ---- a translation
pub record Leaves (c : Config) (m : List ℕ) (o : After Translated) : Type 0 where
  pub same : SameOutside c.hosts c.shadows m o.memory
  pub held : HeldFits c o.result.held
  pub exits : o.result.exits ≤ 2
  pub arrived : ArrivedIn c o.result.walked
  pub sets : o.result.sets ≡ true → c.bits ≡ true

module _ (c : Config) (ht : ℕ) (m : List ℕ) (st : Bool) (h : Held) (f : HeldFits c h) (root a d : ℕ) where
  none : SameOutside c.hosts c.shadows m m
  none = out_refl c.hosts c.shadows m

  ended : (n : List ℕ) (e : ℕ) (r : Walked) → SameOutside c.hosts c.shadows m n → e ≤ 2 → ArrivedIn c r → Leaves c m (yields (translation h e r false) n)
  ended n e r o l g = record { same = o; held = f; exits = l; arrived = g; sets = λ z. absurd (false≢true z) }

  -- ---- bits

  settled_leaves : c.bits ≡ true → (n : ℕ) (r : Walked) (k : Checked) → ArrivedIn c r → ExitsOnce k → Leaves c m (yields (settled_by h n r k) m)
  settled_leaves on n r (checked.Clear l) g o = record { same = none; held = f; exits = omega arith; arrived = g; sets = λ z. on }
  settled_leaves on n r (checked.Stopped x e) g o = ended m e (walked.Faulted x n) none (omega arith) tt
  settled_leaves on n r checked.Damaged g o = ended m 0 walked.Damaged none (omega arith) tt

  judged_leaves : c.bits ≡ true → (b : Bool) (r : Walked) → ArrivedIn c r → Leaves c m (yields (judged_by h b (checked_of c ht m root st a d) r) m)
  judged_leaves on true (walked.Arrived w t n) g = settled_leaves on n (walked.Arrived w t n) (checked_of c ht m root st a d) g (checked_once c ht m root st a d)
  judged_leaves on false (walked.Arrived w t n) g = ended m 0 (walked.Arrived w t n) none (omega arith) g
  judged_leaves on b (walked.Faulted x n) g = ended m _ (walked.Faulted x n) none (let k = exit_small (walked.Faulted x n) in omega arith) tt
  judged_leaves on b walked.Damaged g = ended m 0 walked.Damaged none (omega arith) tt

  through_leaves : d ≤ c.levels → (t : ℕ) (w : Bool) → InGuestArea c t → Leaves c m (yields (through_of c ht m h root st a d t w) m)
  unfolding through_of served_of
  through_leaves low t w g = go c.bits refl
    where
      r : Walked
      r = direct_of c ht m st a d t w

      lack : Bool
      lack = lacks (memory_world c ht m) st (trace (memory_world c ht m) (direct c st a d t w)).reads

      go : (b : Bool) → c.bits ≡ b → Leaves c m (yields (cond b (judged_by h lack (checked_of c ht m root st a d) r) (translation h (0 + exit_by r) r false)) m)
      go true on = judged_leaves on lack r (direct_in c ht m st a d t w low g)
      go false off = ended m _ r none (let k = exit_small r in omega arith) (direct_in c ht m st a d t w low g)

  unshadowed_leaves : Leaves c m (yields (unshadowed_of c ht m h root st a d) m)
  unfolding unshadowed_of plain_of
  unshadowed_leaves = go c.bits refl
    where
      r : Walked
      r = walked_of c ht m 0 (whole c st root a)

      here : ArrivedIn c r
      here = walk_in c ht m st 0 root (page_of a)

      go : (b : Bool) → c.bits ≡ b → Leaves c m (yields (cond b (judged_by h true (checked_of c ht m root st a d) r) (translation h (exit_by r) r false)) m)
      go true on = judged_leaves on true r here
      go false off = ended m _ r none (let k = exit_small r in omega arith) here

  -- ---- fills

  filled_leaves : (gs : List ℕ) (t : ℕ) (w : Bool) (e : ℕ) (r : Walked) (sets : Bool) → InGuestArea c t → e ≤ 2 → ArrivedIn c r → (sets ≡ true → c.bits ≡ true) → Leaves c m (filled_of c m h gs a d t w e r sets)
  unfolding filled_of
  filled_leaves gs t w e r sets g l i on = go (leb c.levels d)
    where
      x : ℕ
      x = entry_for t (ltb 0 d) w

      s : After Went
      s = fill_of c gs h.pool m (path_indexes c d a) x

      same : SameOutside c.hosts c.shadows m s.memory
      same = fill_out c gs h.pool m (path_indexes c d a) x (indexes_narrow (c.levels - d) (path_of d a))

      by : (y : Way) → Leaves c m (fill_by h e r sets s y)
      by (To j) = record { same = same; held = (fill_fits c gs h.pool m (path_indexes c d a) x f.0, f.1); exits = l; arrived = i; sets = on }
      by Not = ended s.memory 0 walked.Damaged same (omega arith) tt
      by Damaged = ended s.memory 0 walked.Damaged same (omega arith) tt

      go : (b : Bool) → Leaves c m (cond b (yields (translation (holding h.pool t) e r sets) m) (fill_by h e r sets s s.result.way))
      go true = record { same = none; held = (f.0, inr g); exits = l; arrived = i; sets = on }
      go false = by s.result.way

  arrived_leaves : d ≤ c.levels → (gs : List ℕ) (n t : ℕ) (w : Bool) → InGuestArea c t → Leaves c m (arrived_of c ht m h root gs st a d n t w)
  unfolding arrived_of verdict_of
  arrived_leaves low gs n t w g = go c.bits refl
    where
      r : Walked
      r = direct_of c ht m st a d t w

      here : ArrivedIn c r
      here = direct_in c ht m st a d t w low g

      fills : (v : Bool) (x : Walked) (sets : Bool) → ArrivedIn c x → (sets ≡ true → c.bits ≡ true) → Leaves c m (ruled_by c m h gs a d t x (verdict.Fill v sets))
      fills v x sets i on = filled_leaves gs t v (1 + exit_by x) x sets g (let k = exit_small x in omega arith) i on

      grant : c.bits ≡ true → (x : Walked) (j : ℕ) (k : Checked) → ArrivedIn c x → ExitsOnce k → Leaves c m (ruled_by c m h gs a d t x (cleared_by c m gs st a d n w j k))
      grant on x j (checked.Clear l) i o = fills (passes_of c m gs st a d w) x l i (λ z. on)
      grant on x j (checked.Stopped y e) i o = ended m _ _ none (omega arith) tt
      grant on x j checked.Damaged i o = ended m 0 walked.Damaged none (omega arith) tt

      strict : c.bits ≡ true → (x : Walked) → ArrivedIn c x → Leaves c m (ruled_by c m h gs a d t x (strict_by c m gs st a d n w (checked_of c ht m root st a d) x))
      strict on (walked.Arrived v p j) i = grant on (walked.Arrived v p j) j (checked_of c ht m root st a d) i (checked_once c ht m root st a d)
      strict on (walked.Faulted x j) i = ended m _ _ none (let k = exit_small (walked.Faulted x j) in omega arith) tt
      strict on walked.Damaged i = ended m 0 walked.Damaged none (omega arith) tt

      lax : (x : Walked) → ArrivedIn c x → Leaves c m (ruled_by c m h gs a d t x (lax_by w x))
      lax (walked.Arrived v p j) i = fills w (walked.Arrived v p j) false i (λ z. absurd (false≢true z))
      lax (walked.Faulted x j) i = fills w (walked.Faulted x j) false i (λ z. absurd (false≢true z))
      lax walked.Damaged i = ended m 0 walked.Damaged none (omega arith) tt

      go : (b : Bool) → c.bits ≡ b → Leaves c m (ruled_by c m h gs a d t r (cond b (strict_by c m gs st a d n w (checked_of c ht m root st a d) r) (lax_by w r)))
      go true on = strict on r here
      go false off = lax r here

  missed_leaves : c.levels ≤ 5 → d ≤ c.levels → Leaves c m (missed_of c ht m h root st a d)
  unfolding missed_of root_trail
  missed_leaves five low = go (walked_of c ht m 0 (walk c st root (path_indexes c d a))) (shadow_near c ht m st 0 root (path_indexes c d a) (indexes_all (c.levels - d) (path_of d a)) five)
    where
      gs : List ℕ
      gs = (root_trail c ht m st root (path_indexes c d a)).tables

      go : (r : Walked) → ArrivedNear c ht m st r → Leaves c m (missed_by c ht m h root st a d gs r)
      go (walked.Arrived w t n) g = by (is_span c t.0) refl
        where
          by : (b : Bool) → is_span c t.0 ≡ b → Leaves c m (cond b (yields (translation h 0 walked.Damaged false) m) (arrived_of c ht m h root gs st a d n t.0 w))
          by true e = ended m 0 walked.Damaged none (omega arith) tt
          by false e = arrived_leaves low gs n t.0 w (g e)
      go (walked.Faulted x n) g = ended m 1 (walked.Faulted x n) none (omega arith) tt
      go walked.Damaged g = ended m 0 walked.Damaged none (omega arith) tt

  -- ---- a translation

  found_leaves : c.levels ≤ 5 → d ≤ c.levels → (r : HostWalk) → FoundIs c (InGuestArea c) (λ i g. g) r → Leaves c m (found_by c ht m h root st a d r)
  found_leaves five low (host.Found t w) g = go (serves_of st d w)
    where
      go : (b : Bool) → Leaves c m (cond b (yields (through_of c ht m h root st a d t.0 w) m) (missed_of c ht m h root st a d))
      go true = through_leaves low t.0 w g
      go false = missed_leaves five low
  found_leaves five low (host.Absent n) g = missed_leaves five low
  found_leaves five low host.Damaged g = ended m 0 walked.Damaged none (omega arith) tt

  pub translate_leaves : c.levels ≤ 5 → Leaves c m (translate_of c ht m h root st a d)
  unfolding translate_of
  translate_leaves five = go (ltb c.levels d) refl
    where
      at_depth : d ≤ c.levels → Leaves c m (found_by c ht m h root st a d (found_of c m h a d))
      at_depth low = found_leaves five low (found_of c m h a d) (found_is c (InGuestArea c) (λ i g. g) m h a d (top_held c h f))

      go : (b : Bool) → ltb c.levels d ≡ b → Leaves c m (cond b (yields (unshadowed_of c ht m h root st a d) m) (found_by c ht m h root st a d (found_of c m h a d)))
      go true e = unshadowed_leaves
      go false e = at_depth (ltb-false c.levels d e)
