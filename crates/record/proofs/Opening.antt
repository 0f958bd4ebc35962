-- What an opening leaves: the answer of the specification, the guest words, a record that breaks no rule, tables of no leaf.
use mathlib.Core.Path.{◌≡◌, refl, sym, ◌∙◌}
use mathlib.Core.Logic.{◌≢◌, inl, inr}
use mathlib.Core.Bool.{Bool, true, false, cond}
use mathlib.Core.List.{List, [], ◌∷◌}
use mathlib.Core.Option.{none, some}
use Prim.Native.Nat.{ℕ, ◌+◌, ◌*◌, ◌/◌, ◌≤◌}
use native.Mathlib.Omega.{arith}
use borrow.Author.Tests.{eq-eqb, ne_eqb}
use lib.ListN.{length, drop}
use Rattle.spec.specs.Answer as say
use Rattle.spec.specs.Config.{Config, guest_base}
use Rattle.spec.specs.Refusal.{first_failed, words_fit, areas_fit, open_refusal}
use Rattle.spec.specs.Run.{opened, opening}
use Rattle.words.proofs.Laws.{zeroed_length, zeroed_above}
use Rattle.pool.specs.declared.Area.{Area}
use Rattle.pool.specs.Pool.{none_of}
use Rattle.area_laws.proofs.Stores.{Beside, beside_drop}
use Rattle.area_laws.specs.Run.{get}
use Rattle.area_laws.specs.Host.{host_map}
use Rattle.area_laws.proofs.Whole.{Holds, holds_leaves, holds_none}
use Rattle.host.specs.Map.{host_area}
use Rattle.host.proofs.Mapping.{Maps, enter_maps}
use Rattle.marks.specs.Table.{table_of, number}
use Rattle.marks.specs.Reading.{marks_of}
use Rattle.choice.specs.Order.{order_fits, choice_fits}
use Rattle.marks.proofs.Book.{no_marks}
use Rattle.record.specs.declared.Record.{Record}
use Rattle.record.specs.Record.{levels, layout_of, config_by, fits_of, choice_of, zeros}
use Rattle.record.specs.Open.{refusal_of, cleared_of, entered_of, first_of, granted_of, granted, open_of}
use Rattle.record.proofs.Rules.{Sized, Fits, holds_top, holds_pool, granted_tests, granted_sized, fits_true, zeros_refused}
use Rattle.words.specs.After.{yields}

-- ---- the refusal
pub open_refusal_lem : (words h s : ℕ) (bits : Bool) → refusal_of words h s bits ≢ 0 → open_refusal (config_by words h s bits) words ≡ some (refusal_of words h s bits)
unfolding refusal_of open_refusal
open_refusal_lem words h s bits = go (words_fit words) (areas_fit (config_by words h s bits))
  where
    go : (a b : Bool) → number (first_failed ((a, 1) ∷ (b, 2) ∷ [])) ≢ 0 → first_failed ((a, 1) ∷ (b, 2) ∷ []) ≡ some (number (first_failed ((a, 1) ∷ (b, 2) ∷ [])))
    go true true n = absurd (n refl)
    go true false n = refl
    go false b n = refl

-- a refused opening hands back a record of zeros and leaves every word; no later call takes that record
module _ (m : List ℕ) (h s : ℕ) (bits on : Bool) (refused : refusal_of (length m) h s bits ≢ 0) where
  pub refused_opening : opening (config_by (length m) h s bits) on m ≡ (say.no (refusal_of (length m) h s bits), none)
  unfolding opening
  refused_opening = rw (open_refusal_lem (length m) h s bits refused)

  pub refused_open : open_of m h s bits on ≡ yields (record { unit = zeros; refusal = refusal_of (length m) h s bits }) m
  unfolding open_of
  refused_open = rw (ne_eqb _ _ refused)

  pub refused_record : (len : ℕ) → fits_of (open_of m h s bits on).result.unit len ≡ false
  refused_record len = rw refused_open (zeros_refused len)

-- ---- clearing
-- the first n frames as an area
abbrev first : ℕ → Area
first n = record { base = 0; size = n; levels = levels }

clear_beside : (m : List ℕ) (n : ℕ) → Beside (first n) m (cleared_of m n)
unfolding cleared_of
clear_beside m n = record {
  len = zeroed_length m 0 (n * 512);
  else = λ g o k l. zeroed_above m 0 (n * 512) (g * 512 + k) (elim o [ inl x ↦ omega arith | inr x ↦ omega arith ]);
}

-- ---- a granted opening
module _ (m : List ℕ) (h s : ℕ) (bits on : Bool) (grant : refusal_of (length m) h s bits ≡ 0) where
  abbrev c : Config
  c = config_by (length m) h s bits

  abbrev unit : Record
  unit = (granted_of m h s bits on).result

  abbrev memory : List ℕ
  memory = (granted_of m h s bits on).memory

  pub granted_opening : opening c on m ≡ (say.ok, some (opened c on m))
  unfolding opening open_refusal
  granted_opening = let t = granted_tests (length m) h s bits grant in rw (t.0, t.1)

  pub granted_open : open_of m h s bits on ≡ granted (granted_of m h s bits on)
  unfolding open_of
  granted_open = rw (eq-eqb _ _ grant)

  fits : Sized (layout_of (length m) h s bits)
  fits = (granted_sized (length m) h s bits grant).0

  whole : length m / 512 * 512 ≡ length m
  whole = (granted_sized (length m) h s bits grant).1

  entered : Maps c [] unit.pools.host memory × Beside (host_area c) (cleared_of m (h + s)) memory
  unfolding granted_of first_of entered_of
  entered = enter_maps c (cleared_of m (h + s)) (omega arith) (omega arith) (omega (arith, fits.hosts)) (omega (arith, fits.guest, fits.frames)) fits.frames
      (omega (arith, (clear_beside m (h + s)).len, fits.guest, whole))

  pub granted_long : length memory ≡ length m
  granted_long = entered.1.len ∙ (clear_beside m (h + s)).len

  -- the guest words are as before
  pub granted_guest : drop (512 * guest_base c) memory ≡ drop (512 * guest_base c) m
  granted_guest =
      beside_drop entered.1 (512 * guest_base c) (omega arith) ∙ beside_drop (clear_beside m (h + s)) (512 * guest_base c) (omega arith)

  -- ---- the tables: nothing is mapped, no path is held
  pub granted_maps : Maps c [] unit.pools.host memory
  granted_maps = entered.0

  pub granted_host : Holds (host_area c) true unit.pools.host memory (λ x. 0) (λ x. 0)
  unfolding host_map get
  granted_host = holds_leaves granted_maps.holds (λ x. 0) (λ x. refl)

  pub granted_shadow : (guest : List ℕ → ℕ) → Holds (record { base = h; size = s; levels = levels }) false unit.pools.shadow memory (λ x. 0) guest
  unfolding granted_of first_of
  granted_shadow guest = holds_none (record { base = h; size = s; levels = levels }) guest memory
      (omega (arith, fits.guest, fits.frames)) (omega arith) (omega (arith, granted_long, fits.guest, whole))

  -- ---- the record breaks no rule
  no_mark_lem : marks_of levels unit.guest.marks ≡ []
  unfolding granted_of first_of table_of
  no_mark_lem = no_marks levels (table_of []) refl

  none_chosen : (b : Bool) → choice_fits (choice_of b).tally (choice_of b).order (table_of []).place (table_of []).set ≡ true
  unfolding choice_fits order_fits
  none_chosen true = refl
  none_chosen false = refl

  small : (b : Bool) → cond b 1 0 ≤ 1
  small true = omega arith
  small false = omega arith

  rules : Fits unit (length memory)
  unfolding granted_of first_of none_of
  rules = record {
    long = granted_long ∙ sym whole;
    bits = small bits;
    sizes = fits;
    root = omega arith;
    marks = rw no_mark_lem;
    chosen = none_chosen on;
    held = inl refl;
    top = holds_top granted_host;
    host = holds_pool granted_host;
    shadow = (omega arith, omega arith, inl refl);
  }

  pub granted_fits : fits_of unit (length memory) ≡ true
  unfolding granted_of first_of table_of
  granted_fits = fits_true unit (length memory) (omega arith) rules
