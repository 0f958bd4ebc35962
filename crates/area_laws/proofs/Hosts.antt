-- The host tables stand for the machine's mapping: what a host walk finds and reads, what mapping and unmapping a frame leave.
use mathlib.Core.Path.{◌≡◌, refl, sym, ap, ap₂, ◌∙◌, subst}
use Prim.Native.Nat.{ℕ, zero, suc, ◌+◌, ◌*◌, ◌/◌, ◌%◌, ◌^◌, ◌<◌, ◌≤◌}
use native.Mathlib.Omega.{arith}
use mathlib.Core.Bool.{Bool, true, false, cond}
use mathlib.Core.List.{List, [], ◌∷◌}
use mathlib.Core.Option.{Option, none, some}
use lib.Dec.{eqb}
use borrow.Author.Tests.{eq-eqb}
use Rattle.spec.specs.Config.{Config}
use Rattle.spec.specs.Entry.{bit_set, present, writable, frame_of, index, indexes, frame_limit, entry_limit}
use Rattle.spec.specs.Prefix.{same}
use Rattle.spec.specs.Machine.{Mapping, lookup, with, host_paths, host_tables, cost_of, host_cost}
use Rattle.spec.specs.Machine as machine
use Rattle.spec_laws.proofs.Indexes.{indexes_length, indexes_same, eqb_sym}
use Rattle.pool.specs.declared.Area.{Area}
use Rattle.pool.specs.declared.Pool.{Pool}
use Rattle.pool.specs.declared.Way.TheVariants.{Not}
use Rattle.area.specs.declared.Look.TheVariants.{Seen}
use Rattle.pool.specs.Pool.{end}
use Rattle.area.specs.Tree.{lookup_of, insert_of}
use Rattle.prune.specs.Remove.{remove_of}
use Rattle.area_laws.specs.Run.{get, without, paths, words_read}
use Rattle.area_laws.specs.Host.{host_entry, entry_by, host_map}
use Rattle.spec.specs.Prefix.{All}
use Rattle.area_laws.proofs.Change.{differ, upd}
use Rattle.area_laws.proofs.Paths.{onto, turn_turn, Small}
use Rattle.area_laws.proofs.Invariant.{present_set}
use Rattle.area_laws.proofs.Find.{steps}
use Rattle.area_laws.proofs.Whole.{Holds, Fits, holds_look, Next, next_leaves, holds_remove, holds_absent}
use Rattle.area_laws.proofs.Count.{Lists, insert_next, insert_not, reads_leaf_lem, reads_is}
use Rattle.area_laws.proofs.Claim.{leaves, Solid, map_lists, leaves_put, leaves_cut, without_other, same_true}
use Rattle.area_laws.proofs.Starts.{Even, even_fits, no_guests}

-- ---- the entry of a mapping
pub entry_present : (f : ℕ) (w : Bool) → present (host_entry f w) ≡ true
unfolding present bit_set host_entry
entry_present f true = let o : (f * 4096 + 3) / 2 ^ 0 % 2 ≡ 1 = omega arith in rw (eq-eqb _ _ o)
entry_present f false = let o : (f * 4096 + 1) / 2 ^ 0 % 2 ≡ 1 = omega arith in rw (eq-eqb _ _ o)

pub entry_writable : (f : ℕ) (w : Bool) → writable (host_entry f w) ≡ w
unfolding writable bit_set host_entry
entry_writable f true = let o : (f * 4096 + 3) / 2 ^ 1 % 2 ≡ 1 = omega arith in rw (eq-eqb _ _ o)
entry_writable f false = let o : (f * 4096 + 1) / 2 ^ 1 % 2 ≡ 0 = omega arith in rw o

pub entry_frame : (f : ℕ) (w : Bool) → f < frame_limit → frame_of (host_entry f w) ≡ f
unfolding frame_of host_entry
entry_frame f true l = omega arith
entry_frame f false l = omega arith

pub entry_small : (f : ℕ) (w : Bool) → f < frame_limit → host_entry f w < entry_limit
unfolding host_entry
entry_small f true l = omega arith
entry_small f false l = omega arith

-- ---- the mapping as a map of paths
-- the guest frame numbers are split into indexes without loss
abbrev pub Frames : Config → List machine.Mapping → Type 0
Frames c xs = All (λ (x : Mapping). x.guest < 2 ^ (9 * c.levels)) xs

pub indexes_small : (n g : ℕ) → Small (indexes n g)
unfolding indexes index
indexes_small zero g = tt
indexes_small (suc n) g = (omega arith, indexes_small n g)

host_paths_lem : (c : Config) (xs : List Mapping) → paths (host_map c xs) ≡ host_paths c xs
unfolding paths host_map
host_paths_lem c [] = refl
host_paths_lem c (x ∷ xs) = ap (λ l. indexes c.levels x.guest ∷ l) (host_paths_lem c xs)

host_solid : (c : Config) (xs : List Mapping) → Solid (host_map c xs)
unfolding Solid host_map
host_solid c [] = tt
host_solid c (x ∷ xs) = (entry_present x.to x.right, host_solid c xs)

host_even : (c : Config) (xs : List Mapping) → Even c.levels (host_map c xs)
unfolding Even host_map
host_even c [] = tt
host_even c (x ∷ xs) = (indexes_length c.levels x.guest, host_even c xs)

module _ (c : Config) (g : ℕ) (small : g < 2 ^ (9 * c.levels)) where
  is : List ℕ
  is = indexes c.levels g

  same_frame : (h : ℕ) → h < 2 ^ (9 * c.levels) → same (indexes c.levels h) is ≡ eqb g h
  unfolding is
  same_frame h l = indexes_same c.levels h g l small ∙ eqb_sym h g

  host_get : (xs : List Mapping) → Frames c xs → get (host_map c xs) is ≡ entry_by (lookup g xs)
  unfolding get host_map
  host_get [] k = refl
  host_get (x ∷ xs) k = go (eqb g x.guest) (same_frame x.guest k.0) (host_get xs k.1)
    where
      go : (t : Bool) → same (indexes c.levels x.guest) is ≡ t → get (host_map c xs) is ≡ entry_by (lookup g xs)
          → cond (same (indexes c.levels x.guest) is) (host_entry x.to x.right) (get (host_map c xs) is)
          ≡ entry_by (cond t (some (x.to, x.right)) (lookup g xs))
      go true q ih = rw q
      go false q ih = rw q ih

  host_without : (xs : List Mapping) → Frames c xs → host_map c (machine.without g xs) ≡ without is (host_map c xs)
  unfolding without host_map
  host_without [] k = refl
  host_without (x ∷ xs) k = go (eqb g x.guest) (same_frame x.guest k.0) (host_without xs k.1)
    where
      go : (t : Bool) → same (indexes c.levels x.guest) is ≡ t → host_map c (machine.without g xs) ≡ without is (host_map c xs)
          → host_map c (cond t (machine.without g xs) (x ∷ machine.without g xs))
          ≡ cond (same (indexes c.levels x.guest) is) (without is (host_map c xs)) ((indexes c.levels x.guest, host_entry x.to x.right) ∷ without is (host_map c xs))
      go true q ih = rw q ih
      go false q ih = rw q (ap (λ l. (indexes c.levels x.guest, host_entry x.to x.right) ∷ l) ih)

  -- the entry that is set takes the place of the one that the frame had
  leaves_with : (xs : List Mapping) → Frames c xs → (f : ℕ) (w : Bool) (y : List ℕ)
      → upd (leaves (host_map c xs)) (onto [] is) (host_entry f w) y ≡ leaves (host_map c (with g f w xs)) y
  unfolding get host_map is
  leaves_with xs k f w y = leaves_put (host_map c xs) is (host_entry f w) y ∙ go (same is (onto [] y)) refl
    where
      go : (t : Bool) → same is (onto [] y) ≡ t → cond t (host_entry f w) (get (host_map c xs) (onto [] y)) ≡ cond t (host_entry f w) (get (host_map c (machine.without g xs)) (onto [] y))
      go true q = refl
      go false q = sym (ap (λ l. get l (onto [] y)) (host_without xs k) ∙ without_other (host_map c xs) is (onto [] y) (λ e. differ (sym (same_true is (onto [] y) e) ∙ q)))

  leaves_without : (xs : List Mapping) → Frames c xs → (y : List ℕ) → upd (leaves (host_map c xs)) (onto [] is) 0 y ≡ leaves (host_map c (machine.without g xs)) y
  leaves_without xs k y = leaves_cut (host_map c xs) is y ∙ ap (λ l. get l (onto [] y)) (sym (host_without xs k))

  -- ---- the host area
  module _ {a : Area} {p : Pool} {m : List ℕ} (xs : List Mapping) (k : Frames c xs) (deep : 0 < c.levels) (levels : a.levels ≡ c.levels)
      (h : Holds a true p m (leaves (host_map c xs)) (λ y. 0)) where
    fits : Fits a (leaves (host_map c xs)) is
    unfolding is
    fits = even_fits a (host_map c xs) is (subst (λ n. Even n (host_map c xs)) (sym levels) (host_even c xs)) (omega arith) (indexes_length c.levels g ∙ sym levels) (indexes_small c.levels g)

    there : leaves (host_map c xs) (onto [] is) ≡ entry_by (lookup g xs)
    there = ap (get (host_map c xs)) (turn_turn is) ∙ host_get xs k

    -- a host walk finds what the mapping says, and reads as many words
    pub host_look : lookup_of a.base a.size m p.top (indexes c.levels g) 0 ≡ Seen (entry_by (lookup g xs)) (host_cost c xs g)
    unfolding is host_cost
    host_look = holds_look h is fits ∙ ap₂ Seen there (cost (lookup g xs) refl)
      where
        cost : (r : Option (ℕ × Bool)) → lookup g xs ≡ r → steps h.tabs [] is ≡ cost_of c xs g r
        cost none e = reads_is h is fits (paths (host_map c xs)) (map_lists (host_map c xs) (host_solid c xs)) ∙ ap (λ ps. words_read true ps is) (host_paths_lem c xs)
        cost (some r) e =
            reads_leaf_lem h is fits (λ z. present_set (host_entry r.0 r.1) (entry_present r.0 r.1) (sym (there ∙ ap entry_by e) ∙ z))
            ∙ indexes_length c.levels g

    -- ---- a frame is mapped if the mappings with it need at most H host tables; else nothing is done: 10
    module _ (f : ℕ) (w : Bool) where
      listed : Lists (upd (leaves (host_map c xs)) (onto [] is) (host_entry f w)) (host_paths c (with g f w xs))
      listed = subst (Lists (upd (leaves (host_map c xs)) (onto [] is) (host_entry f w))) (host_paths_lem c (with g f w xs))
          (subst (λ lw. Lists lw (paths (host_map c (with g f w xs)))) (λ i y. sym (leaves_with xs k f w y) i)
          (map_lists (host_map c (with g f w xs)) (host_solid c (with g f w xs))))

      pub host_map_lem : f < frame_limit → host_tables c (with g f w xs) ≤ a.size
          → Next a true p m (leaves (host_map c (with g f w xs))) (λ y. 0) (insert_of a [] p m (indexes c.levels g) (host_entry f w))
      unfolding is
      host_map_lem thin l = next_leaves (leaves (host_map c (with g f w xs))) (leaves_with xs k f w)
          (insert_next h is (host_entry f w) fits (entry_present f w) (host_paths c (with g f w xs)) listed [] (no_guests 0 [] is) (entry_small f w thin) l)

      pub host_full : a.size < host_tables c (with g f w xs) → insert_of a [] p m (indexes c.levels g) (host_entry f w) ≡ end p Not m
      unfolding is
      host_full l = insert_not h is (host_entry f w) fits (entry_present f w) (host_paths c (with g f w xs)) listed [] (no_guests 0 [] is) l

    -- ---- a frame is unmapped, and tables that are empty then are free again; if it is not mapped nothing is done: 12
    pub host_unmap : (r : ℕ × Bool) → lookup g xs ≡ some r → Next a true p m (leaves (host_map c (machine.without g xs))) (λ y. 0) (remove_of a true p m (indexes c.levels g))
    unfolding is
    host_unmap r e = next_leaves (leaves (host_map c (machine.without g xs))) (leaves_without xs k)
        (holds_remove h is fits (λ z. present_set (host_entry r.0 r.1) (entry_present r.0 r.1) (sym (there ∙ ap entry_by e) ∙ z)))

    pub host_absent_lem : lookup g xs ≡ none → remove_of a true p m (indexes c.levels g) ≡ end p Not m
    unfolding is
    host_absent_lem e = holds_absent h is fits (there ∙ ap entry_by e)
