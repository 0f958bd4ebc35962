-- An opening says what the specification's says; what a granted one leaves stands for machine and book.
-- Assumes nothing.
use mathlib.Core.Path.{◌≡◌, refl, sym, subst}
use Prim.Native.Nat.{ℕ}
use native.Mathlib.Omega.{arith}
use mathlib.Core.Bool.{Bool}
use mathlib.Core.List.Permᴰ
use mathlib.Core.List.{List, []}
use native.Mathlib.Decide.{ℕ_discrete}
use mathlib.Core.Logic.{◌≢◌}
use borrow.Author.Tests.{ne_eqb}
use lib.ListN.{length}
use Rattle.spec.specs.declared.Answer.TheVariants as answer
use Rattle.spec.specs.Answer.{line}
use Rattle.spec.specs.Run.{opened, opening}
use Rattle.spec_laws.proofs.Runs.{opened_fits}
use Rattle.area_laws.specs.Host.{host_map}
use Rattle.area_laws.proofs.Claim.{leaves}
use Rattle.area_laws.proofs.Whole.{holds_leaves}
use Rattle.host.proofs.Mapping.{Maps, no_leaves}
use Rattle.marks.specs.Table.{table_of}
use Rattle.marks.proofs.Order.{SameMembers}
use Rattle.marks.proofs.Book.{no_marks, none_sorted}
use Rattle.record.specs.Record.{levels, config_by, zeros, choice_of}
use Rattle.record.specs.Open.{refusal_of, first_of, granted_of}
use Rattle.record.proofs.Rules.{granted_sized}
use Rattle.record.proofs.Opening.{refused_opening, refused_open, granted_opening, granted_open, granted_fits, granted_guest, granted_host, granted_shadow}
use Rattle.drops_laws.proofs.Held.{leaf_at, leaf_none}
use Rattle.drops_laws.proofs.Valid.{frames_at, entry_of}
use Rattle.calls.specs.Calls.{host_top, ended, refused, open_call}
use Rattle.choice.specs.Order.{order_fits}
use Rattle.choice.proofs.Shows.{shows_empty}
use Rattle.choice.proofs.Chosen.{Chosen}
use Rattle.spec.specs.Book.{empty_book}
use Rattle.claims.proofs.Invariant.{Inv}

-- a refused opening hands back a record of zeros and leaves the memory
pub refused_call : (m : List ℕ) (h s : ℕ) (bits on : Bool) → refusal_of (length m) h s bits ≢ 0 → open_call m h s bits on ≡ refused zeros (refusal_of (length m) h s bits) m
unfolding open_call
refused_call m h s bits on n = rw (refused_open m h s bits on n, ne_eqb (refusal_of (length m) h s bits) 0 n)

pub granted_call : (m : List ℕ) (h s : ℕ) (bits on : Bool) → refusal_of (length m) h s bits ≡ 0 → open_call m h s bits on ≡ ended (granted_of m h s bits on).result answer.Ok (granted_of m h s bits on).memory
unfolding open_call
granted_call m h s bits on e = rw (granted_open m h s bits on e)

-- whatever the memory, the numbers and the choice of bits
pub open_says : (m : List ℕ) (h s : ℕ) (bits on : Bool) → line (open_call m h s bits on).result.answer ≡ (opening (config_by (length m) h s bits) on m).0
open_says m h s bits on = go (ℕ_discrete (refusal_of (length m) h s bits) 0)
  where
    go : Dec (refusal_of (length m) h s bits ≡ 0) → line (open_call m h s bits on).result.answer ≡ (opening (config_by (length m) h s bits) on m).0
    go (yes e) = rw (granted_call m h s bits on e, granted_opening m h s bits on e)
    go (no n) = rw (refused_call m h s bits on n, refused_opening m h s bits on n)

-- after a granted opening the invariant holds for a machine with nothing mapped and root 0, and an empty book
module _ (m : List ℕ) (h s : ℕ) (bits on : Bool) (grant : refusal_of (length m) h s bits ≡ 0) where
  maps : let k = granted_of m h s bits on in Maps (config_by (length m) h s bits) [] k.result.pools.host k.memory
  maps = record {
    deep = omega arith;
    few = (granted_sized (length m) h s bits grant).0.frames;
    holds = holds_leaves (granted_host m h s bits on grant) (leaves (host_map (config_by (length m) h s bits) [])) (no_leaves (config_by (length m) h s bits));
    frames = tt;
    inside = tt;
  }

  none_chosen : Chosen (config_by (length m) h s bits) (choice_of on) (table_of []) (empty_book on)
  unfolding order_fits
  none_chosen = record {
    on = refl;
    window = shows_empty 0 _ refl;
    few = omega arith;
    long = refl;
    placed = refl;
    order = refl;
  }

  pub opened_inv : let k = granted_of m h s bits on in Inv (opened (config_by (length m) h s bits) on m) k.result k.memory
  unfolding granted_of first_of table_of
  opened_inv =
      let c = config_by (length m) h s bits in
      let F = frames_at c (host_top (granted_of m h s bits on).result) (granted_of m h s bits on).memory 0 in
      record {
        fits = granted_fits m h s bits on grant;
        sorted = none_sorted levels (table_of []) refl;
        root = refl;
        maps = maps;
        area = granted_guest m h s bits on grant;
        book = opened_fits c on m;
        valid = tt;
        marks = subst (λ ms. SameMembers ms []) (sym (no_marks levels (table_of []) refl)) (Permᴰ.refl []);
        chosen = none_chosen;
        shadow = holds_leaves (granted_shadow m h s bits on grant F) (leaf_at (entry_of c F) []) (λ y. sym (leaf_none (entry_of c F) y));
        top = refl;
      }
