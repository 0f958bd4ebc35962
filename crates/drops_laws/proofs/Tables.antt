-- The shadow tables in use are those of the held paths, and a lookup meets those that stand on its way for them.
-- Assumes nothing.
use mathlib.Core.Path.{◌≡◌, refl, sym, subst}
use Prim.Native.Nat.{ℕ, ◌<◌}
use mathlib.Core.Bool.{true, false}
use mathlib.Core.List.{List, [], ◌∷◌}
use lib.ListN.{length}
use Rattle.spec.specs.Config.{Config}
use Rattle.spec.specs.Entry.{present, bit_set}
use Rattle.spec.specs.Plain.{Lead}
use Rattle.spec.specs.Book.{Held, paths}
use Rattle.spec.specs.Prefix.{tables_of}
use Rattle.spec_laws.proofs.Lists.{all_map}
use Rattle.spec_laws.proofs.Added.{standing, standing_read}
use Rattle.pool.specs.declared.Pool.{Pool}
use Rattle.area_laws.specs.Run as run
use Rattle.area_laws.proofs.Change.{upd}
use Rattle.area_laws.proofs.Paths.{onto}
use Rattle.area_laws.proofs.Invariant.{present_set}
use Rattle.area_laws.proofs.Find.{steps, lacks, steps_lacks}
use Rattle.area_laws.proofs.Whole.{Holds}
use Rattle.area_laws.proofs.Count.{Lists, used_all, room_is}
use Rattle.area_laws.proofs.Claim.{Solid, map_lists, leaves_put}
use Rattle.shadow.specs.Held.{shadow_area}
use Rattle.drops_laws.proofs.Held.{entries, leaf_at, HeldEntries}
use Rattle.drops_laws.proofs.Fill.{entries_paths, entries_solid}

module _ {c : Config} {p : Pool} {m : List ℕ} {guest : List ℕ → ℕ} {G : List ℕ → Lead} {root : ℕ} {w : Held → ℕ} {hs : List Held} (h : Holds (shadow_area c) false p m (leaf_at w hs) guest)
    (a : HeldEntries c guest G root w hs) where
  solid : Solid (entries w hs)
  solid = entries_solid w hs (all_map _ _ hs (λ h s. s.set) a.all)

  listed : Lists (leaf_at w hs) (paths hs)
  listed = subst (Lists (leaf_at w hs)) (entries_paths w hs) (map_lists (entries w hs) solid)

  -- with one more path, whatever present entry it has
  listed_with : (is : List ℕ) (e : ℕ) → present e ≡ true → Lists (upd (leaf_at w hs) (onto [] is) e) (is ∷ paths hs)
  unfolding run.paths Solid
  listed_with is e set = subst (λ ps. Lists (upd (leaf_at w hs) (onto [] is) e) (is ∷ ps)) (entries_paths w hs)
      (subst (λ lw. Lists lw (is ∷ run.paths (entries w hs))) (λ i y. sym (leaves_put (entries w hs) is e y) i) (map_lists ((is, e) ∷ entries w hs) (set, solid)))

  -- the shadow tables in use are the book's
  pub tables_used : p.used ≡ tables_of (paths hs)
  tables_used = used_all h (paths hs) listed refl

  -- a lookup meets as many tables as stand on its way for the held paths
  pub steps_standing : (is : List ℕ) → 0 < length is → steps h.tabs [] is ≡ standing is (paths hs)
  unfolding present bit_set
  steps_standing is l =
      standing_read is (paths hs) p.used (lacks h.tabs [] is) (steps h.tabs [] is) tables_used
      (room_is h is 1 (is ∷ paths hs) l (present_set 1 refl) (listed_with is 1 refl)) (steps_lacks h.tables [] is)
