-- The held path of an address: what the unit finds is what the book holds.
-- Assumes nothing.
use mathlib.Core.Path.{◌≡◌, refl, sym, ap, ap₂, ◌∙◌, subst}
use Prim.Native.Nat.{ℕ, ◌-◌, ◌*◌, ◌/◌, ◌^◌, ◌<◌, ◌≤◌}
use native.Mathlib.Omega.{arith}
use mathlib.Core.Bool.{Bool, true, false, cond}
use mathlib.Core.List.{List, [], ◌∷◌, ◌++◌}
use mathlib.Core.Option.{none, some}
use lib.Dec.{T, eqb, ltb, ltb→lt}
use borrow.Author.Tests.{lt-ltb, ltb-false, ne_eqb}
use lib.ListN.{length, take}
use Rattle.spec.specs.declared.Fault.{Fault}
use Rattle.spec.specs.Config.{Config, frame_bits}
use Rattle.spec.specs.Entry.{frame_of, writable, indexes, page_of, frame_limit}
use Rattle.spec.specs.Prefix.{same, any, propers, all_propers}
use Rattle.spec.specs.Walk.{granted, trace}
use Rattle.spec.specs.Plain.{Place, hosted, levels, walk}
use Rattle.spec.specs.Machine.{Machine, world}
use Rattle.spec.specs.Book.{Held, find, depth, paths}
use Rattle.spec.specs.Call.{address_indexes}
use Rattle.spec.specs.Count.{request_depth}
use Rattle.spec.specs.Prefix.{All}
use Rattle.spec.specs.Run.{State}
use Rattle.spec_laws.proofs.Lists.{all_map, all_both, all_keep, same_is}
use Rattle.spec_laws.proofs.Local.{Seen, seen}
use Rattle.spec_laws.proofs.Granted.{granted_is, through}
use Rattle.spec_laws.proofs.Indexes.{indexes_length}
use Rattle.spec_laws.proofs.Apart.{request_apart}
use Rattle.spec_laws.proofs.Runs.{HeldFits}
use Rattle.spec_laws.proofs.Keeps.{Valid, again, right_deep, InGuestArea}
use Rattle.spec_laws.proofs.Added.{standing, standing_most, unbroken, unbroken_standing}
use Rattle.area_laws.proofs.Paths.{onto, Small}
use Rattle.area_laws.proofs.Find.{steps}
use Rattle.area_laws.proofs.Hosts.{indexes_small}
use Rattle.area_laws.proofs.Whole as tree
use Rattle.layout.specs.declared.HostWalk.{HostWalk}
use Rattle.layout.specs.declared.HostWalk.TheVariants as host
use Rattle.layout.specs.Layout.{page}
use Rattle.walk.proofs.Stands.{Stands}
use Rattle.record.specs.declared.Record.{Record}
use Rattle.record.specs.Record.{config_of}
use Rattle.record.proofs.Rules.{Fits, fits_layout}
use Rattle.shadow.specs.Held as shadow
use Rattle.shadow.specs.Held.{shadow_area}
use Rattle.shadow.proofs.Parts.{entry_frame, entry_writable}
use Rattle.drops_laws.proofs.Held.{leaf_at, HeldEntries}
use Rattle.drops_laws.proofs.Find.{answer_found, held_is, find_all, Apart, path_fits}
use Rattle.drops_laws.proofs.Drops.{named_in}
use Rattle.drops_laws.proofs.Tables.{steps_standing}
use Rattle.drops_laws.proofs.Valid.{frames_at, entry_of, valid_entries, valid_frame, inside_area}
use Rattle.translate.specs.Translate.{path_indexes, found_of}
use Rattle.calls.specs.Calls.{host_top, held_of, depth_at}
use Rattle.claims.proofs.Invariant.{longer, top_by, frames, Inv, stands}
use Rattle.claims.proofs.Paths.{path_upper}
use Rattle.marks.proofs.Book.{depth_book}

-- ---- lists of held paths

-- a path with an index is found among the longer ones
pub find_longer : (p : List ℕ) (hs : List Held) → 0 < length p → find p (longer hs) ≡ find p hs
find_longer p [] l = refl
find_longer p (h ∷ hs) l = go (ltb 0 (length h.path)) refl (same p h.path) refl (find_longer p hs l)
  where
    go : (b : Bool) → ltb 0 (length h.path) ≡ b → (t : Bool) → same p h.path ≡ t → find p (longer hs) ≡ find p hs
        → find p (cond b (h ∷ longer hs) (longer hs)) ≡ cond t (some h) (find p hs)
    go true e t q ih = rw q (ap (cond t (some h)) ih)
    go false e false q ih = ih
    go false e true q ih =
        let z : p ≡ h.path = same_is p h.path (subst T (sym q) tt) in
        let k : ltb 0 (length h.path) ≡ true = ap (λ x. ltb 0 (length x)) (sym z) ∙ lt-ltb 0 (length p) l in
        let y : ◌≡◌ {A = Bool} false true = sym e ∙ k in
        let x : ◌≡◌ {A = ℕ} 0 1 = cc in absurd (omega arith)

-- a path of no index has no table
pub propers_longer : (hs : List Held) → all_propers (paths (longer hs)) ≡ all_propers (paths hs)
propers_longer [] = refl
propers_longer (h ∷ hs) = go h.path refl (propers_longer hs)
  where
    go : (p : List ℕ) → h.path ≡ p → all_propers (paths (longer hs)) ≡ all_propers (paths hs)
        → all_propers (paths (cond (ltb 0 (length h.path)) (h ∷ longer hs) (longer hs))) ≡ propers h.path ++ all_propers (paths hs)
    go [] e ih = rw e ih
    go (i ∷ p) e ih = rw (lt-ltb 0 (length h.path) (omega (arith, ap length e))) (ap (λ qs. propers h.path ++ qs) ih)

-- so it stands on the way of none
standing_longer : (p : List ℕ) (hs : List Held) → standing p (paths (longer hs)) ≡ standing p (paths hs)
standing_longer p hs =
    sym (unbroken_standing p (paths (longer hs))) ∙ ap (λ qs. unbroken (λ l. any (same (take l p)) qs) 0 (length p)) (propers_longer hs) ∙ unbroken_standing p (paths hs)

-- the path of what is found
pub find_path : (p : List ℕ) (hs : List Held) (h : Held) → find p hs ≡ some h → h.path ≡ p
find_path p [] h e = let z : ◌≡◌ {A = ℕ} 0 1 = cc in absurd (omega arith)
find_path p (k ∷ hs) h e = go (same p k.path) refl e (find_path p hs h)
  where
    go : (b : Bool) → same p k.path ≡ b → cond b (some k) (find p hs) ≡ some h → (find p hs ≡ some h → h.path ≡ p) → h.path ≡ p
    go true q x ih = let z : k ≡ h = cc in ap (λ (y : Held). y.path) (sym z) ∙ sym (same_is p k.path (subst T (sym q) tt))
    go false q x ih = ih x

-- ---- what the invariant says of an address

module _ (s : State) (r : Record) (m : List ℕ) (inv : Inv s r m) where
  abbrev pub cfg : Config
  cfg = config_of r

  abbrev pub mach : Machine
  mach = s.machine

  pub rules : Fits r (length m)
  rules = fits_layout r (length m) inv.fits

  pub root_small : mach.root < 2 ^ frame_bits cfg
  root_small = subst (λ x. x < 2 ^ frame_bits cfg) inv.root rules.root

  pub few : cfg.frames ≤ 65536
  few = rules.sizes.frames

  pub memory_stands : Stands cfg mach (host_top r) m
  memory_stands = stands cfg mach r.pools.host m inv.maps inv.area

  -- the entries of the held paths, with the record's root
  pub held_entries : HeldEntries cfg (frames r m) (named_in cfg m (frames r m)) r.guest.root.0 (entry_of cfg (frames r m)) (longer s.book.held)
  held_entries =
      subst (λ x. HeldEntries cfg (frames_at cfg (host_top r) m x) (named_in cfg m (frames_at cfg (host_top r) m x)) x (entry_of cfg (frames_at cfg (host_top r) m x)) (longer s.book.held)) (sym inv.root)
      (valid_entries cfg mach (host_top r) m memory_stands root_small few (longer s.book.held)
      (all_map (λ h. Valid cfg mach h × T (ltb 0 (length h.path))) (Valid cfg mach) (longer s.book.held) (λ h k. k.0)
      (all_keep (Valid cfg mach) (λ (h : Held). ltb 0 (length h.path)) s.book.held inv.valid)))

  -- each held path, with what the invariant says of it
  abbrev pub Holds-well : Held → Type 0
  Holds-well h = HeldFits cfg s.book.marks h × Valid cfg mach h

  pub all_well : All Holds-well s.book.held
  all_well = all_both (HeldFits cfg s.book.marks) (Valid cfg mach) s.book.held inv.book.held inv.valid

  -- a path that is apart from all of them, looked up in the shadow tables
  module _ (p : List ℕ) (some-index : 0 < length p) (short : length p ≤ cfg.levels) (small : Small p) (apart : All (Apart p) s.book.held) where
    pub free : tree.Fits (shadow_area cfg) (leaf_at (entry_of cfg (frames r m)) (longer s.book.held)) p
    free =
        path_fits cfg (entry_of cfg (frames r m)) (longer s.book.held) p some-index short small
        (all_map (λ h. Apart p h × T (ltb 0 (length h.path))) (Apart p) (longer s.book.held) (λ h k. k.0) (all_keep (Apart p) (λ (h : Held). ltb 0 (length h.path)) s.book.held apart))

    pub looked_up : shadow.held_of cfg m r.pools.shadow.top p ≡ answer_found (entry_of cfg (frames r m)) (find p s.book.held) (steps inv.shadow.tabs [] p)
    looked_up =
        held_is inv.shadow held_entries p free ∙ ap (λ o. answer_found (entry_of cfg (frames r m)) o (steps inv.shadow.tabs [] p)) (find_longer p s.book.held some-index)

  module _ (a : ℕ) where
    -- the depth that the marks give the address, that of its request, and the path of that
    abbrev pub marked : ℕ
    marked = depth s.book.marks (address_indexes cfg a)

    pub marked_is : depth_at r a ≡ marked
    marked_is = depth_book cfg r.guest.marks s.book (omega (arith, rules.sizes.deep)) inv.sorted inv.marks a

    abbrev pub deep : ℕ
    deep = request_depth cfg mach s.book a

    abbrev pub path : List ℕ
    path = path_indexes cfg deep a

    module _ (low : deep ≤ cfg.levels) where
      pub path_length : length path ≡ cfg.levels - deep
      path_length = indexes_length (cfg.levels - deep) (page_of a / 2 ^ (9 * deep))

      pub apart_all : All (Apart path) s.book.held
      apart_all =
          all_map Holds-well (Apart path) s.book.held
          (λ h k. subst (λ p. Apart p h) (path_upper cfg deep a low) (request_apart cfg mach s.book.marks inv.book.marks a h k.0 k.1 low)) all_well

      pub path_free : 0 < length path → tree.Fits (shadow_area cfg) (leaf_at (entry_of cfg (frames r m)) (longer s.book.held)) path
      path_free l = free path l (omega (arith, path_length)) (indexes_small (cfg.levels - deep) (page_of a / 2 ^ (9 * deep))) apart_all

      -- at depth N the path has no index
      pub path_empty : cfg.levels ≤ deep → path ≡ []
      unfolding indexes
      path_empty l = let z : cfg.levels - deep ≡ 0 = omega arith in ap (λ n. indexes n (page_of a / 2 ^ (9 * deep))) z

      -- a held path of no index: every guest entry so far is writable, and it leads to the root's frame, which is not 0
      empty_right : (h : Held) → Valid cfg mach h → h.path ≡ [] → h.right ≡ true
      unfolding again seen walk levels trace
      empty_right h v e =
          let z : (trace (world cfg mach) (walk cfg false mach.root [])).result ≡ granted (v.frame, v.wide) =
          ap (λ p. (trace (world cfg mach) (walk cfg false mach.root p)).result) (sym e) ∙ ap (λ (x : Seen Fault Place). x.result) v.comes in
          let t = through (world cfg mach) (hosted mach.root) (λ q. levels cfg false cfg.levels q.0 true []) (v.frame, v.wide) z in
          right_deep cfg mach h v (λ n. omega (arith, n, ap length e, rules.sizes.deep)) ∙ sym (ap (λ (x : Place). x.1) (granted_is (t.mid.0, true) (v.frame, v.wide) t.next))

      frame_held : (h : Held) → Valid cfg mach h → InGuestArea cfg (frames r m (onto [] h.path))
      frame_held h v =
          let i = inside_area cfg mach (host_top r) m memory_stands root_small few h v in
          subst (InGuestArea cfg) (sym (ap (λ x. frames_at cfg (host_top r) m x (onto [] h.path)) inv.root ∙ valid_frame cfg mach (host_top r) m memory_stands root_small few h v)) i

      frame_thin : (h : Held) → Valid cfg mach h → frames r m (onto [] h.path) < frame_limit
      frame_thin h v = omega (arith, (frame_held h v).1, few)

      abbrev pub found : HostWalk
      found = found_of cfg m (held_of r) a deep

      -- a path that is not held: a lookup tells how many of its tables stand
      pub found_none : find path s.book.held ≡ none → found ≡ host.Absent (standing path (paths s.book.held))
      unfolding found_of
      found_none e = go (ltb deep cfg.levels) refl
        where
          go : (b : Bool) → ltb deep cfg.levels ≡ b
              → cond b (shadow.held_of cfg m r.pools.shadow.top path) (cond (eqb r.guest.held.0 0) (host.Absent 0) (host.Found r.guest.held true)) ≡ host.Absent (standing path (paths s.book.held))
          go true q =
              let l : 0 < length path = let k = ltb→lt deep cfg.levels (subst T (sym q) tt) in omega (arith, path_length) in
              looked_up path l (omega (arith, path_length)) (indexes_small (cfg.levels - deep) (page_of a / 2 ^ (9 * deep))) apart_all
              ∙ ap (λ o. answer_found (entry_of cfg (frames r m)) o (steps inv.shadow.tabs [] path)) e
              ∙ ap host.Absent (steps_standing inv.shadow held_entries path l ∙ standing_longer path s.book.held)
          go false q =
              let l : cfg.levels ≤ deep = ltb-false deep cfg.levels q in
              let z : r.guest.held.0 ≡ 0 = inv.top ∙ ap (top_by (frames r m [])) (ap (λ p. find p s.book.held) (sym (path_empty l)) ∙ e) in
              let none : standing path (paths s.book.held) ≡ 0 = omega (arith, standing_most path (paths s.book.held), path_length) in
              rw (z, none)

      pub found_some : (h : Held) → find path s.book.held ≡ some h → found ≡ host.Found (page (frames r m (onto [] path))) h.right
      unfolding found_of onto entry_of
      found_some h e = go (ltb deep cfg.levels) refl
        where
          v : Valid cfg mach h
          v = find_all (Valid cfg mach) path h s.book.held inv.valid e

          at : h.path ≡ path
          at = find_path path s.book.held h e

          go : (b : Bool) → ltb deep cfg.levels ≡ b
              → cond b (shadow.held_of cfg m r.pools.shadow.top path) (cond (eqb r.guest.held.0 0) (host.Absent 0) (host.Found r.guest.held true)) ≡ host.Found (page (frames r m (onto [] path))) h.right
          go true q =
              let l : 0 < length path = let k = ltb→lt deep cfg.levels (subst T (sym q) tt) in omega (arith, path_length) in
              let w = entry_of cfg (frames r m) in
              looked_up path l (omega (arith, path_length)) (indexes_small (cfg.levels - deep) (page_of a / 2 ^ (9 * deep))) apart_all
              ∙ ap (λ o. answer_found w o (steps inv.shadow.tabs [] path)) e ∙ entry_found_lem
            where
              entry_found_lem : host.Found (page (frame_of (entry_of cfg (frames r m) h))) (writable (entry_of cfg (frames r m) h)) ≡ host.Found (page (frames r m (onto [] path))) h.right
              entry_found_lem =
                  ap₂ (λ f w. host.Found (page f) w) (entry_frame (frames r m (onto [] h.path)) (ltb (length h.path) cfg.levels) h.right (frame_thin h v) ∙ ap (λ p. frames r m (onto [] p)) at)
                  (entry_writable (frames r m (onto [] h.path)) (ltb (length h.path) cfg.levels) h.right)
          go false q =
              let l : cfg.levels ≤ deep = ltb-false deep cfg.levels q in
              let none : path ≡ [] = path_empty l in
              let top : r.guest.held.0 ≡ frames r m [] = inv.top ∙ ap (top_by (frames r m [])) (ap (λ p. find p s.book.held) (sym none) ∙ e) in
              let here : frames r m (onto [] path) ≡ frames r m [] = ap (λ p. frames r m (onto [] p)) none in
              let i : InGuestArea cfg (frames r m []) = subst (λ p. InGuestArea cfg (frames r m (onto [] p))) (at ∙ none) (frame_held h v) in
              let k : eqb r.guest.held.0 0 ≡ false = ne_eqb r.guest.held.0 0 (λ z. omega (arith, i.0, top, rules.sizes.hosts)) in
              rw (k, here, top, empty_right h v (at ∙ none))
