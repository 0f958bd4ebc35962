-- The depth of a request, as the unit finds it: a path held at the depth that the marks give says that; a table in its place belongs to a path that is
-- longer, so a large page's; and where neither stands the walk over memory says it.
-- Assumes nothing.
use mathlib.Core.Path.{◌≡◌, refl, sym, ap, ◌∙◌, subst}
use mathlib.Core.Logic.{◌⊎◌, inl, inr}
use Prim.Native.Nat.{ℕ, ◌-◌, ◌*◌, ◌/◌, ◌^◌, ◌<◌, ◌≤◌}
use native.Mathlib.Omega.{arith}
use mathlib.Core.Bool.{Bool, true, false, not, cond}
use mathlib.Core.List.{List, [], ◌∷◌}
use mathlib.Core.Option.{Option, none, some, IsSome}
use lib.Dec.{T, eqb, ltb}
use lib.ListN.{length}
use borrow.Author.Tests.{eqb-true, eqb-false, lt-ltb, ltb-true, ltb-false}
use Rattle.spec.specs.declared.Fault.{Fault}
use Rattle.spec.specs.Config.{Config}
use Rattle.spec.specs.Entry.{page_of, frame_of}
use Rattle.spec.specs.Refusal.{in_guest_area}
use Rattle.spec.specs.Prefix.{All, begins, any, keep}
use Rattle.spec.specs.Walk.{Result, granted, failed, trace}
use Rattle.spec.specs.Plain.{Place, is_span, walk, upper}
use Rattle.spec.specs.Machine.{Machine, world}
use Rattle.spec.specs.Book.{Held, find}
use Rattle.spec.specs.Call.{address_indexes}
use Rattle.spec.specs.Count as count
use Rattle.spec.specs.Count.{depth_in}
use Rattle.spec.specs.Run.{State}
use Rattle.spec_laws.proofs.Lists.{all_map, all_both, all_kept, none_passes, not_both, is_false, not_is}
use Rattle.spec_laws.proofs.Indexes.{indexes_length, indexes_all}
use Rattle.area_laws.proofs.Hosts.{indexes_small}
use Rattle.spec_laws.proofs.Local.{Seen, seen}
use Rattle.spec_laws.proofs.Keeps.{Valid, again, depth_deep}
use Rattle.spec_laws.proofs.Apart.{apart, walk_prefix, beyond_span, not_shorter}
use Rattle.layout.specs.declared.HostWalk.{HostWalk}
use Rattle.layout.specs.declared.HostWalk.TheVariants as host
use Rattle.layout.specs.Layout.{leaf_of}
use Rattle.layout.proofs.Laws.{in_guest_area_lem}
use Rattle.pool.specs.Pool.{link}
use Rattle.area_laws.proofs.Paths.{onto, onto_long, Small, ext_long}
use Rattle.area_laws.proofs.Invariant.{present_link, frame_link, frame_small, present_set}
use Rattle.area_laws.proofs.Find.{steps, lookup_table}
use Rattle.area_laws.proofs.Count.{begins_propers, propers_ext}
use Rattle.area_laws.proofs.Whole.{above_leaf}
use Rattle.shadow.specs.Held as shadow
use Rattle.drops_laws.proofs.Held.{leaf_at, any_leaf}
use Rattle.drops_laws.proofs.Find.{entry_found, answer_found, leaf_find, find_all, Apart}
use Rattle.drops_laws.proofs.Valid.{entry_of}
use Rattle.walk.specs.Memory.{walked_of}
use Rattle.walk.proofs.Stands.{plain_walked, root_walked}
use Rattle.translate.specs.Translate.{path_indexes, found_of, soon_by, walked_depth, may_turn, turned_depth, depth_by, depth_of}
use Rattle.record.specs.declared.Record.{Record}
use Rattle.record.specs.Record.{config_of}
use Rattle.calls.specs.Calls.{host_top, held_of, root_of, depth_at, request_depth}
use Rattle.claims.proofs.Invariant.{longer, frames, Inv}
use Rattle.claims.proofs.Paths.{path_upper}
use Rattle.claims.proofs.Found as found

valid_comes : (c : Config) (m : Machine) (h : Held) (v : Valid c m h) → (trace (world c m) (walk c false m.root h.path)).result ≡ granted (v.frame, v.wide)
unfolding again seen
valid_comes c m h v = ap (λ (x : Seen Fault Place). x.result) v.comes

none_begins : (p : List ℕ) → 0 < length p → T (begins p []) → ⊥
none_begins [] l b = omega (arith, l)
none_begins (i ∷ p) l b = b

-- what all have that pass, all have if they pass
all_unkept : {A : Type 0} (P : A → Type 0) (f : A → Bool) (xs : List A) → All P (keep f xs) → All (λ x. T (f x) → P x) xs
all_unkept P f [] a = tt
all_unkept {A} P f (x ∷ xs) a = go (f x) refl a (all_unkept P f xs)
  where
    go : (b : Bool) → f x ≡ b → All P (cond b (x ∷ keep f xs) (keep f xs)) → (All P (keep f xs) → All (λ x. T (f x) → P x) xs) → (T (f x) → P x) × All (λ x. T (f x) → P x) xs
    go true e k ih = (λ _. k.0, ih k.1)
    go false e k ih = (λ t. absurd (subst T e t), ih k)

module _ (s : State) (r : Record) (m : List ℕ) (inv : Inv s r m) (a : ℕ) where
  abbrev c : Config
  c = config_of r

  abbrev mach : Machine
  mach = s.machine

  abbrev marked : ℕ
  marked = found.marked s r m inv a

  abbrev deep : ℕ
  deep = found.deep s r m inv a

  abbrev Well : Held → Type 0
  Well h = found.Holds-well s r m inv h

  -- the path at the marks' depth
  abbrev upward : List ℕ
  upward = path_indexes c marked a

  abbrev above : Result Fault Place
  above = (trace (world c mach) (walk c false mach.root upward)).result

  soon_is : (x : Result Fault Place) (n : ℕ) → soon_by c marked (plain_walked x n) ≡ count.depth_by c marked x
  soon_is (granted p) n = refl
  soon_is (failed x) n = refl

  -- by the walk over memory
  pub walked_is : marked ≤ c.levels → walked_depth c (host_top r) m (root_of r) a marked ≡ deep
  unfolding walked_depth depth_in
  walked_is low =
      ap (λ x. soon_by c marked (walked_of c (host_top r) m 0 (walk c false x upward))) inv.root
      ∙ ap (soon_by c marked) (root_walked c mach (host_top r) m (found.memory_stands s r m inv) false mach.root upward (found.root_small s r m inv) (indexes_all (c.levels - marked) (page_of a / 2 ^ (9 * marked))))
      ∙ soon_is above _
      ∙ ap (λ p. count.depth_by c marked (trace (world c mach) (walk c false mach.root p)).result) (sym (path_upper c marked a low))

  module _ (one : 1 ≤ marked) (two : marked < 3) where
    deep_enough : marked < c.levels
    deep_enough = omega (arith, two, (found.rules s r m inv).sizes.deep)

    low : marked ≤ c.levels
    low = omega (arith, deep_enough)

    upward_is : upper c marked (address_indexes c a) ≡ upward
    upward_is = path_upper c marked a low

    upward_long : length upward ≡ c.levels - marked
    upward_long = indexes_length (c.levels - marked) (page_of a / 2 ^ (9 * marked))

    upward_small : Small upward
    upward_small = indexes_small (c.levels - marked) (page_of a / 2 ^ (9 * marked))

    seen_at : (x : HostWalk) → shadow.held_of c m r.pools.shadow.top upward ≡ x → found_of c m (held_of r) a marked ≡ x
    unfolding found_of
    seen_at x e =
        ap (λ b. cond b (shadow.held_of c m r.pools.shadow.top upward) (cond (eqb r.guest.held.0 0) (host.Absent 0) (host.Found r.guest.held true))) (lt-ltb marked c.levels deep_enough) ∙ e

    -- the depth by what the walk comes to on the machine
    depth_by_lem : (x : Result Fault Place) → above ≡ x → deep ≡ count.depth_by c marked x
    unfolding depth_in
    depth_by_lem x e = ap (λ p. count.depth_by c marked (trace (world c mach) (walk c false mach.root p)).result) upward_is ∙ ap (count.depth_by c marked) e

    abbrev Finds : Type 0
    Finds = depth_by c (host_top r) m (root_of r) a marked (found_of c m (held_of r) a marked) ≡ deep

    finds : (x : HostWalk) → found_of c m (held_of r) a marked ≡ x → depth_by c (host_top r) m (root_of r) a marked x ≡ deep → Finds
    finds x e k = ap (depth_by c (host_top r) m (root_of r) a marked) e ∙ k

    held_comes : (h : Held) (v : Valid c mach h) → h.path ≡ upward → above ≡ granted (v.frame, v.wide)
    held_comes h v at = ap (λ p. (trace (world c mach) (walk c false mach.root p)).result) (sym at) ∙ valid_comes c mach h v

    looked : All (Apart upward) s.book.held → shadow.held_of c m r.pools.shadow.top upward ≡ answer_found (entry_of c (frames r m)) (find upward s.book.held) (steps inv.shadow.tabs [] upward)
    looked near = found.looked_up s r m inv upward (omega (arith, upward_long, deep_enough)) (omega (arith, upward_long)) upward_small near

    -- a path is held there: it leads to a table
    held_there : (h : Held) → find upward s.book.held ≡ some h → Finds
    held_there h e =
        let k = find_all Well upward h s.book.held (found.all_well s r m inv) e in
        let at = found.find_path upward s.book.held h e in
        let near = all_map Well (Apart upward) s.book.held (λ j z. subst (λ p. Apart p j) at
        (apart c mach s.book.marks j h z.0 k.0 z.1 k.1, apart c mach s.book.marks h j k.0 z.0 k.1 z.1)) (found.all_well s r m inv) in
        finds _ (seen_at _ (looked near ∙ ap (λ o. answer_found (entry_of c (frames r m)) o (steps inv.shadow.tabs [] upward)) e))
        (sym (depth_by_lem (granted (k.1.frame, k.1.wide)) (held_comes h k.1 at) ∙ ap (λ b. cond b 0 marked) k.1.real))

    -- a longer path is held: a table stands there, which is no frame of the guest area, and the walk is in a large page
    linked_seen : (f : ℕ) → inv.shadow.tabs (onto [] upward) ≡ some f → shadow.held_of c m r.pools.shadow.top upward ≡ host.Damaged
    unfolding shadow.held_of leaf_of
    linked_seen f e =
        let l = lookup_table inv.shadow.tables upward f upward_small e in
        let small = frame_small inv.shadow.tables (onto [] upward) f e in
        let out : in_guest_area c (frame_of (link f)) ≡ false =
        is_false (in_guest_area c (frame_of (link f))) (λ t. omega (arith, (in_guest_area_lem c (frame_of (link f)) t).0, frame_link f small.1, small.0)) in
        rw (l.1, present_link f, out)

    linked : (h : Held) → Well h → T (begins upward h.path) → length upward < length h.path → IsSome (inv.shadow.tabs (onto [] upward)) → Finds
    linked h k b l t = by (inv.shadow.tabs (onto [] upward)) refl t
      where
        w : (p : Place) × (above ≡ granted p)
        w = walk_prefix (world c mach) c mach.root upward h.path (k.1.frame, k.1.wide) b (valid_comes c mach h k.1)

        inside : is_span c w.0.0 ≡ true
        inside = beyond_span c mach s.book.marks inv.book.marks a h k.0 k.1 w.0
            (subst (λ p. T (begins p h.path)) (sym upward_is) b) (subst (λ p. length p < length h.path) (sym upward_is) l) low
            (ap (λ p. (trace (world c mach) (walk c false mach.root p)).result) upward_is ∙ w.1)

        by : (o : Option ℕ) → inv.shadow.tabs (onto [] upward) ≡ o → IsSome o → Finds
        by none e z = absurd z
        by (some f) e z = finds host.Damaged (seen_at host.Damaged (linked_seen f e)) (sym (depth_by_lem (granted w.0) w.1 ∙ ap (λ x. cond x 0 marked) inside))

    -- nothing is: the walk tells
    nothing_there : find upward s.book.held ≡ none → All (λ (h : Held). T (begins upward h.path) → ⊥) s.book.held → Finds
    nothing_there e off =
        let near = all_map (λ h. Well h × (T (begins upward h.path) → ⊥)) (Apart upward) s.book.held
        (λ h k. (subst (λ p. T (begins h.path p) → h.path ≡ p) upward_is (not_shorter c mach s.book.marks inv.book.marks a h k.0.0 k.0.1 low), λ b. absurd (k.1 b)))
        (all_both Well (λ (h : Held). T (begins upward h.path) → ⊥) s.book.held (found.all_well s r m inv) off) in
        finds _ (seen_at _ (looked near ∙ ap (λ o. answer_found (entry_of c (frames r m)) o (steps inv.shadow.tabs [] upward)) e)) (walked_is low)

    -- a longer path that begins with it
    abbrev goes_on : Held → Bool
    goes_on h = begins upward h.path

    abbrev entered : Held → ℕ
    entered = entry_of c (frames r m)

    longer_there : find upward s.book.held ≡ none → T (any goes_on (longer s.book.held)) → Finds
    longer_there e t =
        let p = any_leaf _ entered goes_on (λ h k. present_set (entered h) k.0.set) (longer s.book.held)
        (all_both _ Well (longer s.book.held) (found.held_entries s r m inv).all (all_kept Well (λ (h : Held). ltb 0 (length h.path)) s.book.held (found.all_well s r m inv))) t in
        elim (begins_propers upward p.held.path p.passes) [
          | inl q ↦ absurd (p.leaf (ap (λ z. leaf_at entered (longer s.book.held) (onto [] z)) (sym q) ∙ leaf_find entered (longer s.book.held) upward
              ∙ ap (entry_found entered) (found.find_longer upward s.book.held (omega (arith, upward_long, deep_enough)) ∙ e)))
          | inr q ↦ (
              let x = propers_ext upward p.held.path q in
              let l = ext_long (onto [] upward) (onto [] p.held.path) x in
              linked p.held p.fact.1 p.passes (omega (arith, l, onto_long [] upward, onto_long [] p.held.path))
              (above_leaf inv.shadow (onto [] upward) (record { path = onto [] p.held.path; under = x; set = p.leaf })))
        ]

    turned : Finds
    turned = go (find upward s.book.held) refl
      where
        -- a path of no index begins with none that has one
        off_short : (h : Held) → (T (ltb 0 (length h.path)) → T (begins upward h.path) → ⊥) → T (begins upward h.path) → ⊥
        off_short h f b = by h.path f b
          where
            by : (p : List ℕ) → (T (ltb 0 (length p)) → T (begins upward p) → ⊥) → T (begins upward p) → ⊥
            by [] f b = none_begins upward (omega (arith, upward_long, deep_enough)) b
            by (i ∷ p) f b = f (subst T (sym (lt-ltb 0 (length (i ∷ p)) (omega arith))) tt) b

        there : find upward s.book.held ≡ none → (x : Bool) → any goes_on (longer s.book.held) ≡ x → Finds
        there e true k = longer_there e (subst T (sym k) tt)
        there e false k =
            nothing_there e (all_map (λ (h : Held). T (ltb 0 (length h.path)) → T (begins upward h.path) → ⊥) _ s.book.held off_short
            (all_unkept (λ (h : Held). T (begins upward h.path) → ⊥) (λ (h : Held). ltb 0 (length h.path)) s.book.held
            (all_map (λ (h : Held). T (not (begins upward h.path))) _ (longer s.book.held) (λ h z b. not_both (begins upward h.path) b z)
            (none_passes goes_on (longer s.book.held) (not_is (any goes_on (longer s.book.held)) k)))))

        go : (o : Option Held) → find upward s.book.held ≡ o → Finds
        go none e = there e (any goes_on (longer s.book.held)) refl
        go (some h) e = held_there h e

  still : (marked ≡ 0) ⊎ (3 ≤ marked) → marked ≡ deep
  still b = sym (depth_deep c mach a marked (found.memory_stands s r m inv).inside b)

  -- a forecast takes the walk's word alone
  pub turned_is : turned_depth c (host_top r) m (root_of r) a (depth_at r a) ≡ deep
  unfolding turned_depth may_turn
  turned_is = ap (turned_depth c (host_top r) m (root_of r) a) (found.marked_is s r m inv a) ∙ by (eqb marked 0) refl (ltb marked 3) refl
    where
      by : (z : Bool) → eqb marked 0 ≡ z → (l : Bool) → ltb marked 3 ≡ l → cond (cond z false l) (walked_depth c (host_top r) m (root_of r) a marked) marked ≡ deep
      by true e l k = still (inl (eqb-true marked 0 e))
      by false e false k = still (inr (ltb-false marked 3 k))
      by false e true k = walked_is (omega (arith, ltb-true marked 3 k, (found.rules s r m inv).sizes.deep))

  -- the unit serves a request at its depth
  pub depth_is : request_depth r m a ≡ deep
  unfolding depth_of may_turn
  depth_is =
      ap (depth_of c (host_top r) m (held_of r) (root_of r) a) (found.marked_is s r m inv a)
      ∙ by (eqb marked 0) refl (ltb marked 3) refl
    where
      by : (z : Bool) → eqb marked 0 ≡ z → (l : Bool) → ltb marked 3 ≡ l
          → cond (cond z false l) (depth_by c (host_top r) m (root_of r) a marked (found_of c m (held_of r) a marked)) marked ≡ deep
      by true e l k = still (inl (eqb-true marked 0 e))
      by false e false k = still (inr (ltb-false marked 3 k))
      by false e true k = turned (omega (arith, eqb-false marked 0 e)) (ltb-true marked 3 k)
