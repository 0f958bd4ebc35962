-- A root load, a map and an unmap follow the specification.
-- Assumes nothing.
use mathlib.Core.Path.{◌≡◌, refl, sym, ap, ap₂, ◌∙◌, subst}
use mathlib.Core.Logic.{◌≢◌, ◌⊎◌, inl, inr}
use Prim.Native.Nat.{ℕ, pred, ◌-◌, ◌*◌, ◌^◌, ◌<◌, ◌≤◌}
use native.Mathlib.Omega.{arith}
use borrow.Author.Tests.{ltb-true, leb-false, eqb-true, eqb-false, ne_eqb}
use mathlib.Core.Bool.{Bool, true, false, not, cond}
use mathlib.Core.List.{List, [], ◌∷◌, ◌++◌}
use mathlib.Core.Option.{Option, none, some}
use lib.Dec.{T, eqb, leb}
use lib.Pow.{pow_mono}
use lib.ListN.{length}
use Rattle.spec.specs.declared.Answer.TheVariants as answer
use Rattle.spec.specs.declared.Fault.{Fault}
use Rattle.spec.specs.Config.{Config, guest_base, frame_bits}
use Rattle.spec.specs.Entry.{indexes}
use Rattle.spec.specs.Prefix.{any}
use Rattle.spec.specs.Walk.{Walk, World, Trace, granted, trace}
use Rattle.spec.specs.Plain.{Place, Lead, to, into, hosted, levels, walk}
use Rattle.spec.specs.Machine.{Machine, Mapping, lookup, is_mapped, with, without, host_tables, host_cost, remapped, world}
use Rattle.spec.specs.Book.{Held, find, holding, uses_mapping, drop_mapping}
use Rattle.spec.specs.Call.{root, map, unmap, machine_step}
use Rattle.spec.specs.Count.{book_step}
use Rattle.spec.specs.Refusal.{first_failed, frame_fits, in_guest_area, tests, refusal}
use Rattle.spec.specs.Run.{State}
use Rattle.spec.specs.Prefix.{All}
use Rattle.spec_laws.proofs.Lists as lists
use Rattle.spec_laws.proofs.Lists.{all_map, all_keep, all_right, all_append, keep_all, is_true}
use Rattle.spec_laws.proofs.Granted.{lead_at, lead_uses, level_reads, Reaches, through, then_trace, hosted_granted, level_granted}
use Rattle.spec_laws.proofs.Trail.{reads_from, uses_from}
use Rattle.spec_laws.proofs.Local.{Seen, seen}
use Rattle.spec_laws.proofs.Keeps.{Valid, again, lookup_with, lookup_without, InGuestArea}
use Rattle.spec_laws.proofs.Runs.{BookFits, all_passed}
use Rattle.words.specs.Words.{at}
use Rattle.pool.specs.declared.Pool.{Pool}
use Rattle.pool.specs.Pool.{none_of}
use Rattle.area.specs.Tree.{insert_of}
use Rattle.prune.specs.Remove.{remove_of}
use Rattle.area_laws.specs.Host.{host_entry}
use Rattle.area_laws.proofs.Change.{some_inj, not_some}
use Rattle.area_laws.proofs.Stores.{Beside, beside_refl, beside_place}
use Rattle.area_laws.proofs.Whole.{Holds, holds_beside}
use Rattle.area_laws.proofs.Hosts.{host_full, host_absent_lem}
use Rattle.host.specs.Walk.{host_walk_of}
use Rattle.host.specs.Map.{host_area, changed, changed_by, map_of, unmap_of, maps, unmaps, mapping_only, no_book, number_by, mapping_by}
use Rattle.host.proofs.Mapping.{Maps, Step, answer_by, answer_of, walk_is, map_is, unmap_is, unmapped_lookup}
use Rattle.walk.proofs.Stands.{Stands}
use Rattle.record.specs.declared.Record.{Record}
use Rattle.record.specs.Record.{config_of, head_root, head_tables, head_tally, with_head}
use Rattle.choice.specs.Window.{emptied_of}
use Rattle.choice.proofs.Chosen.{Chosen, with_tally, chosen_emptied}
use Rattle.claims.proofs.Chosen.{chosen_fits_lem}
use Rattle.spec_laws.proofs.Rules.{BookRules}
use Rattle.spec.specs.Choice as choice
use Rattle.record.proofs.Rules.{Fits, fits_root, holds_pool, holds_top}
use Rattle.translate.specs.declared.Held.{Held as Holding}
use Rattle.drops.specs.declared.Cut.TheVariants.{Names}
use Rattle.shadow.specs.Held.{shadow_area}
use Rattle.drops.specs.Drop.{scan_of}
use Rattle.drops_laws.proofs.Scan.{Dropped}
use Rattle.drops_laws.proofs.Held.{leaf_at, HeldEntry, HeldEntries}
use Rattle.drops_laws.proofs.Drops.{named_in, lead_on, guest_frame, mapping_all, drop_mapping_lem, empty_mapping}
use Rattle.drops_laws.proofs.Valid.{frames_at, entry_of, valid_entries, Stays, stays_mapping}
use Rattle.calls.specs.Calls.{host_top, head_held, head_host, head_rooted, nothing, ended, refused, with_held, with_host, dropped_by, unmapped_of, mapped_by, root_call, map_call, unmap_call}
use Rattle.claims.proofs.Invariant.{longer, top_by, Inv, Follows, stands}
use Rattle.drops.specs.declared.Left.{Left}
use Rattle.claims.proofs.Moves.{Moved, dropped_left, after, follows_no, follows_ok, after_fits, first_positive, invariant, inv_fits, inv_stands, inv_root, inv_shadow, inv_top, fits_held, fits_host, fits_chosen, maps_beside, shadow_drop, host_drop, shadow_none, shadow_on, top_on, longer_keep, all_longer, find_keep, still_chosen}
use Rattle.words.specs.After.{After}
use Rattle.calls.specs.declared.Reply.{Reply}
use Rattle.host.specs.declared.Change.{Change}

no_place : {r : Place} → none ≡ some r → ⊥
no_place e = let z : ◌≡◌ {A = ℕ} 0 1 = cc in omega arith

-- ---- root
root_left : (s : State) (r : Record) (m : List ℕ) → Inv s r m → BookRules (config_of r) s.book → (g : ℕ) → frame_fits (config_of r) g ≡ true
    → Moved (after (config_of r) (root g) s) r (ended (with_head r (head_rooted r g)) answer.Ok m)
unfolding head_held head_tables head_root head_tally machine_step book_step refusal tests
root_left s r m h rules g e =
    let f = inv_fits h in
    let F = frames_at (config_of r) (host_top r) m g in
    let none = shadow_none f m refl (entry_of (config_of r) F) F in
    record {
      config = refl;
      says = refl;
      next = invariant (after (config_of r) (root g) s) (with_head r (head_rooted r g)) m
          (fits_chosen (fits_root (fits_held f nothing (holds_pool none) (inl refl)) g (ltb-true g (2 ^ frame_bits (config_of r)) e)) (emptied_of r.guest.choice.tally)
          (chosen_fits_lem (config_of r) _ r.guest.marks _ emptied (λ z. ((rules.off z).0, refl))))
          h.sorted refl h.maps h.area (after_fits (config_of r) (root g) s (rw e) h.book) tt h.marks emptied none refl;
    }
  where
    emptied : Chosen (config_of r) (with_tally r.guest.choice (emptied_of r.guest.choice.tally)) r.guest.marks (choice.emptied (holding s.book []))
    emptied = chosen_emptied (config_of r) r.guest.choice r.guest.marks (holding s.book []) (still_chosen h [])

-- a root is loaded: every path goes
pub root_follows : (s : State) (r : Record) (m : List ℕ) → Inv s r m → BookRules (config_of r) s.book → (g : ℕ) → Follows (root g) s r (root_call r m g)
unfolding root_call refusal tests machine_step
root_follows s r m h rules g = rw h.fits (go (frame_fits (config_of r) g) refl)
  where
    go : (b : Bool) → frame_fits (config_of r) g ≡ b → Follows (root g) s r (cond b (ended (with_head r (head_rooted r g)) answer.Ok m) (refused r 8 m))
    go true e = follows_ok (root g) s r _ (rw e) refl (root_left s r m h rules g e)
    go false e = follows_no (root g) 8 h (rw e)

-- ---- every mapping that a granted walk uses is there
module _ (w : World) (c : Config) (st : Bool) where
  lead_found : (x : Lead) (r : Place) → Reaches w c x r → All (λ g. w.host_at g ≢ none) (lead_uses x)
  lead_found (to g) r h = ((λ e. no_place (sym e ∙ h.1)), tt)
  lead_found (into g) r h = tt

  levels_found : (n t : ℕ) (v : Bool) (is : List ℕ) (r : Place) → (trace w (levels c st n t v is)).result ≡ granted r
      → All (λ g. w.host_at g ≢ none) (trace w (levels c st n t v is)).uses
  unfolding levels trace
  levels_found n t v [] r h = tt
  levels_found n t v (i ∷ is) r h =
      let l = level_granted w c st n t v i is r h in
      subst (λ (x : Trace Fault Place). All (λ g. w.host_at g ≢ none) x.uses) (sym l.whole)
      (all_append _ (lead_uses (lead_at w c n t i)) _ (lead_found (lead_at w c n t i) l.at l.reaches) (levels_found (pred n) l.at.0 l.at.1 is r l.next))

  walk_found : (g : ℕ) (is : List ℕ) (r : Place) → (trace w (walk c st g is)).result ≡ granted r → All (λ f. w.host_at f ≢ none) (trace w (walk c st g is)).uses
  unfolding walk
  walk_found g is r h =
      let k : Place → Walk Fault Place = λ q. levels c st c.levels q.0 true is in
      let t = through w (hosted g) k r h in
      let a = hosted_granted w g t.mid t.first in
      let e = then_trace w (hosted g) k (w.host_cost g) [] (g ∷ []) t.mid a.1 in
      subst (λ (x : Trace Fault Place). All (λ f. w.host_at f ≢ none) x.uses) (sym e)
      ((λ z. no_place (sym z ∙ a.0)), levels_found c.levels t.mid.0 true is r t.next)

none_used : (P : ℕ → Type 0) (g : ℕ) (us : List ℕ) → All P us → (P g → ⊥) → any (eqb g) us ≡ false
none_used P g [] a n = refl
none_used P g (u ∷ us) a n = rw (ne_eqb g u (λ e. n (subst P (sym e) a.0))) (none_used P g us a.1 n)

-- a frame that is not mapped has no path to drop
valid_unused : (c : Config) (s : Machine) (h : Held) → Valid c s h → (g : ℕ) → lookup g s.mappings ≡ none → uses_mapping g h ≡ false
unfolding again seen world
valid_unused c s h v g e =
    let found = walk_found (world c s) c false s.root h.path (v.frame, v.wide) (ap (λ (x : Seen Fault Place). x.result) v.comes) in
    none_used (λ f. lookup f s.mappings ≢ none) g h.uses
    (subst (All (λ f. lookup f s.mappings ≢ none)) (ap (λ (x : Seen Fault Place). x.uses) v.comes) found) (λ k. k e)

-- ---- after one frame's mapping changed
module _ (s : State) (r : Record) (m : List ℕ) (h : Inv s r m) (g : ℕ) (ys : List Mapping) (others : (f : ℕ) → (f ≡ g → ⊥) → lookup f ys ≡ lookup f s.machine.mappings)
    (p : Pool) (n : List ℕ) (maps : Maps (config_of r) ys p n) (beside : Beside (host_area (config_of r)) m n)
    (book : BookFits (config_of r) (holding s.book (drop_mapping g s.book.held))) where
  c : Config
  c = config_of r

  -- machine and book after it
  abbrev changed_state : State
  changed_state = record { config = config_of r; machine = remapped s.machine ys; book = holding s.book (drop_mapping g s.book.held) }

  held : List Held
  held = s.book.held

  left : List Held
  left = drop_mapping g held

  F : List ℕ → ℕ
  F = frames_at (config_of r) (host_top r) m s.machine.root

  staying : All (Stays c s.machine (remapped s.machine ys)) left
  unfolding c left held
  staying = all_map _ _ left (λ x k. stays_mapping c s.machine ys g x others k.0 k.1)
      (all_keep (Valid c s.machine) (λ x. not (uses_mapping g x)) held h.valid)

  -- with shadow tables that hold what the drop leaves
  moved : (q : Holding) (o : List ℕ) → Beside (shadow_area (config_of r)) n o → (q.frame.0 ≡ 0) ⊎ InGuestArea (config_of r) q.frame.0
      → Holds (shadow_area (config_of r)) false q.pool o (leaf_at (entry_of (config_of r) F) (longer left)) F → q.frame.0 ≡ top_by (F []) (find [] left)
      → Inv changed_state (with_held (with_host r p) q) o
  unfolding head_held head_host head_tables c left held F
  moved q o k fits holds is =
      let old = inv_fits h in
      let after : Maps c ys p o = maps_beside c k maps in
      let area = shadow_drop c k ∙ host_drop c beside ∙ h.area in
      let now : Stands c changed_state.machine p.top o = stands c changed_state.machine p o after area in
      let few = h.maps.few in
      let long : length m ≡ length o = sym (k.len ∙ beside.len) in
      invariant changed_state (with_held (with_host r p) q) o
      (subst (Fits (with_held (with_host r p) q)) long (fits_held (fits_host old p (holds_pool after.holds) (holds_top after.holds)) q (holds_pool holds) fits))
      h.sorted h.root after area book (all_map _ _ left (λ x v. v.after) staying) h.marks (still_chosen h left)
      (shadow_on left s.machine changed_state.machine (host_top r) p.top m o (inv_stands h) now (inv_root h) (inv_root h) few staying holds)
      (is ∙ top_on c left s.machine changed_state.machine (host_top r) p.top m o (inv_stands h) now (inv_root h) (inv_root h) few staying)

  entries : (hs : List Held) → All (Valid (config_of r) s.machine) hs
      → HeldEntries (config_of r) F (named_in (config_of r) m F) s.machine.root (entry_of (config_of r) F) hs
  unfolding F
  entries hs a = valid_entries (config_of r) s.machine (host_top r) m (inv_stands h) (inv_root h) h.maps.few hs a

  -- if the frame is the root's, every path used its mapping and goes
  all_left : g ≡ s.machine.root → Inv changed_state (with_held (with_host r p) nothing) n
  unfolding left held
  all_left e =
      let gone : drop_mapping g held ≡ [] = ap (λ x. drop_mapping x held) e ∙ mapping_all (entries held h.valid) in
      moved nothing n (beside_refl (shadow_area (config_of r)) n) (inl refl)
      (subst (λ hs. Holds (shadow_area (config_of r)) false none_of n (leaf_at (entry_of (config_of r) F) (longer hs)) F) (sym gone)
      (shadow_none (inv_fits h) n beside.len (entry_of (config_of r) F) F))
      (sym (ap (λ hs. top_by (F []) (find [] hs)) gone))

  -- the shadow tables are as they were
  shadow_stays : Holds (shadow_area (config_of r)) false r.pools.shadow n (leaf_at (entry_of (config_of r) F) (longer held)) F
  unfolding F held
  shadow_stays = holds_beside (inv_shadow h) (host_area (config_of r)) n (inr (omega arith)) beside

  -- nothing is dropped where the frame was not mapped
  none_left : lookup g s.machine.mappings ≡ none → Inv changed_state (with_host r p) n
  unfolding head_held head_host head_tables left held F
  none_left e =
      let same : drop_mapping g held ≡ held = keep_all _ held (all_map _ _ held (λ x v. ap not (valid_unused (config_of r) s.machine x v g e)) h.valid) in
      moved (record { pool = r.pools.shadow; frame = r.guest.held }) n (beside_refl (shadow_area (config_of r)) n) (inv_fits h).held
      (subst (λ hs. Holds (shadow_area (config_of r)) false r.pools.shadow n (leaf_at (entry_of (config_of r) F) (longer hs)) F) (sym same) shadow_stays)
      (inv_top h ∙ sym (ap (λ hs. top_by (F []) (find [] hs)) same))

  -- the guest entries on a held path are not in the host area
  named_same : (is q : List ℕ) → All (λ (x : ℕ × ℕ). guest_base (config_of r) ≤ x.0) (reads_from (config_of r) F q is) → uses_from (named_in (config_of r) m F) q is ≡ uses_from (named_in (config_of r) n F) q is
  unfolding named_in
  named_same [] q a = refl
  named_same (i ∷ is) q a =
      let here = lists.all_left _ (level_reads (config_of r) (F q) i) (reads_from (config_of r) F (i ∷ q) is) a in
      ap₂ (λ x us. lead_uses x ++ us)
      (sym (lead_on (config_of r) m n ((config_of r).levels - length q) (F q) i (λ k. beside_place beside (at (F q) i)
      (inr (omega (arith, (subst (λ b. All (λ (x : ℕ × ℕ). guest_base (config_of r) ≤ x.0) (cond b [] ((F q, i) ∷ []))) k here).0))))))
      (named_same is (i ∷ q) (all_right _ (level_reads (config_of r) (F q) i) (reads_from (config_of r) F (i ∷ q) is) a))

  entries_after : HeldEntries (config_of r) F (named_in (config_of r) n F) s.machine.root (entry_of (config_of r) F) (longer held)
  unfolding held
  entries_after = record { spans = (entries (longer held) (all_longer _ held h.valid)).spans; all = all_map _ _ (longer held) (λ x e. go x e) (entries (longer held) (all_longer _ held h.valid)).all }
    where
      go : (x : Held) → HeldEntry (config_of r) F (named_in (config_of r) m F) s.machine.root (entry_of (config_of r) F x) x
          → HeldEntry (config_of r) F (named_in (config_of r) n F) s.machine.root (entry_of (config_of r) F x) x
      go x e = record {
        set = e.set;
        area = e.area;
        ends = e.ends;
        reads = e.reads;
        uses = e.uses ∙ ap (λ us. s.machine.root ∷ us) (named_same x.path [] (subst (All _) e.reads e.inside));
        inside = e.inside;
      }

  -- the path of no index uses the root's mapping alone
  top_stays : g ≢ s.machine.root → r.guest.held.0 ≡ top_by (F []) (find [] left)
  unfolding F left held
  top_stays n = inv_top h ∙ sym (ap (top_by (F [])) (find_keep (λ x. not (uses_mapping g x)) held
      (all_map _ _ held (λ x e q. ap not (empty_mapping x q (named_in (config_of r) m F) s.machine.root e.uses g ∙ ne_eqb g s.machine.root n)) (entries held h.valid).all)))

  -- the paths that used the mapping go, and no other
  scan_left : g ≢ s.machine.root
      → Moved changed_state r (dropped_by r (with_host r p) r.guest.held (scan_of (config_of r) (Names (guest_frame g)) r.pools.shadow n))
  unfolding head_held head_host head_tables left held F
  scan_left other = go (drop_mapping_lem shadow_stays entries_after g other)
    where
      go : {t : After Left} → Dropped (config_of r) n (leaf_at (entry_of (config_of r) F) (drop_mapping g (longer held))) F t → Moved changed_state r (dropped_by r (with_host r p) r.guest.held t)
      go d = dropped_left d changed_state r (with_host r p) r.guest.held refl
          (moved (record { pool = d.pool; frame = r.guest.held }) d.memory d.beside (inv_fits h).held
          (subst (λ hs. Holds (shadow_area (config_of r)) false d.pool d.memory (leaf_at (entry_of (config_of r) F) hs) F) (sym (longer_keep (λ x. not (uses_mapping g x)) held)) d.holds)
          (top_stays other))

  unmapped_left : Moved changed_state r (unmapped_of r p n g)
  unfolding unmapped_of head_held head_host head_tables
  unmapped_left = go (eqb g r.guest.root.0) refl
    where
      go : (b : Bool) → eqb g r.guest.root.0 ≡ b
          → Moved changed_state r (cond b (ended (with_held (with_host r p) nothing) answer.Ok n) (dropped_by r (with_host r p) r.guest.held (scan_of (config_of r) (Names (guest_frame g)) r.pools.shadow n)))
      go true e = record { config = refl; says = refl; next = all_left (eqb-true g r.guest.root.0 e ∙ h.root) }
      go false e = scan_left (λ k. eqb-false g r.guest.root.0 e (k ∙ sym h.root))

-- ---- a refusal leaves the host tables
module _ (c : Config) (xs : List Mapping) (p : Pool) (m : List ℕ) (h : Maps c xs p m) (n g : ℕ) where
  small : frame_fits c g ≡ true → g < 2 ^ (9 * c.levels)
  small e = let w : 2 ^ frame_bits c ≤ 2 ^ (9 * c.levels) = pow_mono (omega arith) in omega (arith, ltb-true g (2 ^ frame_bits c) e)

  map_refused : (f : ℕ) (w : Bool) → refusal c (map g f w) (mapping_only xs) no_book ≡ some n → map_of c p m g f w ≡ changed p n m
  unfolding map_of refusal tests
  map_refused f w e = go (frame_fits c g) refl (in_guest_area c f) (leb (host_tables c (with g f w xs)) c.hosts) refl e
    where
      go : (a : Bool) → frame_fits c g ≡ a → (b d : Bool) → leb (host_tables c (with g f w xs)) c.hosts ≡ d → first_failed ((a, 8) ∷ (b, 9) ∷ (d, 10) ∷ []) ≡ some n
          → cond a (cond b (changed_by p 10 (insert_of (host_area c) [] p m (indexes c.levels g) (host_entry f w))) (changed p 9 m)) (changed p 8 m) ≡ changed p n m
      go false q b d l k = ap (λ x. changed p x m) (some_inj k)
      go true q false d l k = ap (λ x. changed p x m) (some_inj k)
      go true q true false l k =
          let z = host_full c g (small q) xs h.frames h.deep refl h.holds f w (leb-false (host_tables c (with g f w xs)) c.hosts l) in
          ap (changed_by p 10) z ∙ ap (λ x. changed p x m) (some_inj k)
      go true q true true l k = absurd (not_some refl k)

  unmap_refused : refusal c (unmap g) (mapping_only xs) no_book ≡ some n → unmap_of c p m g ≡ changed p n m
  unfolding unmap_of refusal tests
  unmap_refused e = go (frame_fits c g) refl (is_mapped g xs) refl e
    where
      go : (a : Bool) → frame_fits c g ≡ a → (b : Bool) → is_mapped g xs ≡ b → first_failed ((a, 8) ∷ (b, 12) ∷ []) ≡ some n
          → cond a (changed_by p 12 (remove_of (host_area c) true p m (indexes c.levels g))) (changed p 8 m) ≡ changed p n m
      go false q b l k = ap (λ x. changed p x m) (some_inj k)
      go true q false l k =
          ap (changed_by p 12) (host_absent_lem c g (small q) xs h.frames h.deep refl h.holds (unmapped_lookup g xs l)) ∙ ap (λ x. changed p x m) (some_inj k)
      go true q true l k = absurd (not_some refl k)

-- ---- map and unmap
module _ (s : State) (r : Record) (m : List ℕ) (h : Inv s r m) (g : ℕ) where
  -- a frame that fits is walked as the mapping says
  walked : T (frame_fits (config_of r) g) → host_walk_of (config_of r) (host_top r) m g ≡ answer_of (config_of r) s.machine.mappings g
  walked a = walk_is (config_of r) s.machine.mappings r.pools.host m h.maps g (ltb-true g (2 ^ frame_bits (config_of r)) (is_true (frame_fits (config_of r) g) a))

  -- a frame is mapped: if it was mapped before, the paths that used that mapping go
  module _ (f : ℕ) (w : Bool) where
    mapped_left : (p : Pool) (n : List ℕ) → Maps (config_of r) (with g f w s.machine.mappings) p n → Beside (host_area (config_of r)) m n
        → refusal (config_of r) (map g f w) s.machine s.book ≡ none
        → Moved (after (config_of r) (map g f w) s) r (mapped_by r p n g (answer_of (config_of r) s.machine.mappings g))
    unfolding machine_step book_step head_host head_tables
    mapped_left p n hosts beside e = go (lookup g s.machine.mappings) refl
      where
        others : (y : ℕ) → (y ≡ g → ⊥) → lookup y (with g f w s.machine.mappings) ≡ lookup y s.machine.mappings
        others y k = lookup_with g y f w s.machine.mappings k

        go : (o : Option Place) → lookup g s.machine.mappings ≡ o
            → Moved (after (config_of r) (map g f w) s) r (mapped_by r p n g (answer_by (host_cost (config_of r) s.machine.mappings g) o))
        go none q = record {
          config = refl;
          says = refl;
          next = none_left s r m h g (with g f w s.machine.mappings) others p n hosts beside (after_fits (config_of r) (map g f w) s e h.book) q;
        }
        go (some x) q = unmapped_left s r m h g (with g f w s.machine.mappings) others p n hosts beside (after_fits (config_of r) (map g f w) s e h.book)

    pub map_follows : Follows (map g f w) s r (map_call r m g f w)
    unfolding map_call refusal tests machine_step
    map_follows = rw h.fits (go (refusal (config_of r) (map g f w) s.machine s.book) refl)
      where
        over : After Change → After Reply
        over t = cond (eqb t.result.refusal 0) (mapped_by r t.result.pool t.memory g (host_walk_of (config_of r) (host_top r) m g)) (refused r t.result.refusal t.memory)

        go : (o : Option ℕ) → refusal (config_of r) (map g f w) s.machine s.book ≡ o → Follows (map g f w) s r (over (map_of (config_of r) r.pools.host m g f w))
        go (some n) e =
            let positive = first_positive (tests (config_of r) (map g f w) s.machine s.book) n (omega arith, (omega arith, (omega arith, tt))) e in
            rw (map_refused (config_of r) s.machine.mappings r.pools.host m h.maps n g f w e, ne_eqb n 0 (λ z. omega arith)) (follows_no (map g f w) n h e)
        go none e =
            let t : Step (config_of r) (with g f w s.machine.mappings) r.pools.host m 0 (map_of (config_of r) r.pools.host m g f w) =
            subst (λ o. Step (config_of r) (mapping_by o (maps g f w) s.machine.mappings) r.pools.host m (number_by o) (map_of (config_of r) r.pools.host m g f w)) e
            (map_is (config_of r) s.machine.mappings r.pools.host m h.maps g f w) in
            let a = all_passed (tests (config_of r) (map g f w) s.machine s.book) e in
            rw (t.done, walked a.0)
            (follows_ok (map g f w) s r _ e refl (mapped_left t.pool t.memory t.stands t.beside e))

  unmapped_all : (p : Pool) (n : List ℕ) → Maps (config_of r) (without g s.machine.mappings) p n → Beside (host_area (config_of r)) m n
      → refusal (config_of r) (unmap g) s.machine s.book ≡ none → (o : Option Place) → lookup g s.machine.mappings ≡ o
      → Moved (after (config_of r) (unmap g) s) r (mapped_by r p n g (answer_by (host_cost (config_of r) s.machine.mappings g) o))
  unfolding machine_step book_step head_host head_tables
  unmapped_all p n hosts beside e none q = record {
    config = refl;
    says = refl;
    next = none_left s r m h g (without g s.machine.mappings) (λ y k. lookup_without g y s.machine.mappings k) p n hosts beside (after_fits (config_of r) (unmap g) s e h.book) q;
  }
  unmapped_all p n hosts beside e (some x) q =
      unmapped_left s r m h g (without g s.machine.mappings) (λ y k. lookup_without g y s.machine.mappings k) p n hosts beside (after_fits (config_of r) (unmap g) s e h.book)

  pub unmap_follows : Follows (unmap g) s r (unmap_call r m g)
  unfolding unmap_call refusal tests machine_step book_step
  unmap_follows = rw h.fits (go (refusal (config_of r) (unmap g) s.machine s.book) refl)
    where
      over : After Change → After Reply
      over t = cond (eqb t.result.refusal 0) (mapped_by r t.result.pool t.memory g (host_walk_of (config_of r) (host_top r) m g)) (refused r t.result.refusal t.memory)

      go : (o : Option ℕ) → refusal (config_of r) (unmap g) s.machine s.book ≡ o → Follows (unmap g) s r (over (unmap_of (config_of r) r.pools.host m g))
      go (some n) e =
          let positive = first_positive (tests (config_of r) (unmap g) s.machine s.book) n (omega arith, (omega arith, tt)) e in
          rw (unmap_refused (config_of r) s.machine.mappings r.pools.host m h.maps n g e, ne_eqb n 0 (λ z. omega arith)) (follows_no (unmap g) n h e)
      go none e =
          let t : Step (config_of r) (without g s.machine.mappings) r.pools.host m 0 (unmap_of (config_of r) r.pools.host m g) =
          subst (λ o. Step (config_of r) (mapping_by o (unmaps g) s.machine.mappings) r.pools.host m (number_by o) (unmap_of (config_of r) r.pools.host m g)) e
          (unmap_is (config_of r) s.machine.mappings r.pools.host m h.maps g) in
          let a = all_passed (tests (config_of r) (unmap g) s.machine s.book) e in
          rw (t.done, walked a.0)
          (follows_ok (unmap g) s r _ e refl (unmapped_all t.pool t.memory t.stands t.beside e (lookup g s.machine.mappings) refl))
