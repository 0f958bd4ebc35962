-- The host tables stand for the specification's mapping: after any list of maps and unmaps each refusal, and for every guest
-- frame the host walk with its count, are the specification's; the guest area is untouched.
use mathlib.Core.Path.{◌≡◌, refl, sym, ap, ap₂, ◌∙◌, subst}
use Prim.Native.Nat.{ℕ, ◌*◌, ◌^◌, ◌<◌, ◌≤◌}
use native.Mathlib.Omega.{arith}
use mathlib.Core.Bool.{Bool, true, false, not, ◌||◌, cond}
use mathlib.Core.List.{List, [], ◌∷◌}
use mathlib.Core.Option.{Option, none, some}
use lib.Dec.{T, eqb, leb, ltb→lt, leb→le, nleb→lt}
use lib.Pow.{pow_mono}
use lib.ListN.{length, drop}
use Rattle.spec.specs.Config.{Config, guest_base, frame_bits}
use Rattle.spec.specs.Entry.{indexes}
use Rattle.spec.specs.Plain.{Place}
use Rattle.spec.specs.Machine.{Mapping, lookup, with, without, is_mapped, host_tables, host_cost}
use Rattle.spec.specs.Refusal.{first_failed, frame_fits, in_guest_area, tests, refusal}
use Rattle.spec.specs.Prefix.{All}
use Rattle.pool.specs.declared.Pool.{Pool}
use Rattle.pool.specs.Pool.{none_of}
use Rattle.area.specs.Tree.{enter_of, insert_of}
use Rattle.prune.specs.Remove.{remove_of}
use Rattle.area_laws.specs.Host.{host_entry, entry_by, host_map}
use Rattle.area_laws.proofs.Stores.{Beside, beside_refl, beside_trans, beside_drop}
use Rattle.area_laws.proofs.Invariant.{present_zero}
use Rattle.area_laws.specs.Run.{get}
use Rattle.area_laws.proofs.Whole.{Holds, holds_leaves, holds_top}
use Rattle.area_laws.proofs.Claim.{leaves}
use Rattle.area_laws.proofs.Hosts.{Frames, entry_present, entry_writable, entry_frame, host_look, host_map_lem, host_full, host_unmap, host_absent_lem}
use Rattle.layout.specs.declared.HostWalk.{HostWalk}
use Rattle.layout.specs.declared.HostWalk.TheVariants.{Found, Absent}
use Rattle.layout.specs.Layout.{page, leaf_of, named_by}
use Rattle.host.specs.Walk.{host_walk_of}
use Rattle.host.specs.Map.{host_area, changed, changed_by, map_of, unmap_of, Remap, maps, unmaps, remap_of, Remapped, remaps_of, as_call, mapping_only, no_book, number_by, mapping_by, Mapped, maps_of}
use Rattle.layout.proofs.Laws.{in_guest_area_lem, area_test}
use Rattle.words.specs.After.{After}
use Rattle.pool.specs.declared.Went.{Went}
use Rattle.host.specs.declared.Change.{Change}
use Rattle.spec_laws.proofs.Keeps.{InGuestArea}

-- what the mapping says of a guest frame, as the code has it; n: the words read where there is none
abbrev pub answer_by : ℕ → Option Place → HostWalk
answer_by n none = Absent n
answer_by n (some r) = Found (page r.0) r.1

abbrev pub answer_of : Config → List Mapping → ℕ → HostWalk
answer_of c xs g = answer_by (host_cost c xs g) (lookup g xs)

-- the host tables of the memory m, with the pool p, stand for the mappings xs
pub record Maps (c : Config) (xs : List Mapping) (p : Pool) (m : List ℕ) : Type 0 where
  pub deep : 0 < c.levels
  pub few : c.frames ≤ 65536
  pub holds : Holds (host_area c) true p m (leaves (host_map c xs)) (λ y. 0)
  pub frames : Frames c xs
  pub inside : All (λ (x : Mapping). InGuestArea c x.to) xs

pub frame_small : (c : Config) (g : ℕ) → g < 2 ^ frame_bits c → g < 2 ^ (9 * c.levels)
frame_small c g h = let w : 2 ^ frame_bits c ≤ 2 ^ (9 * c.levels) = pow_mono (omega arith) in omega arith

pub lookup_inside : (c : Config) (g : ℕ) (xs : List Mapping) (r : Place) → All (λ (x : Mapping). InGuestArea c x.to) xs → lookup g xs ≡ some r → InGuestArea c r.0
lookup_inside c g [] r a e = let z : ◌≡◌ {A = ℕ} 0 1 = cc in absurd (omega arith)
lookup_inside c g (x ∷ xs) r a e = go (eqb g x.guest) e (lookup_inside c g xs r a.1)
  where
    go : (b : Bool) → cond b (some (x.to, x.right)) (lookup g xs) ≡ some r → (lookup g xs ≡ some r → InGuestArea c r.0) → InGuestArea c r.0
    go true k ih = let z : (x.to, x.right) ≡ r = cc in subst (λ (q : Place). InGuestArea c q.0) z a.0
    go false k ih = ih k

module _ (c : Config) (xs : List Mapping) (p : Pool) (m : List ℕ) (h : Maps c xs p m) where
  -- the host walk of every guest frame, with its count
  pub walk_is : (g : ℕ) → g < 2 ^ frame_bits c → host_walk_of c p.top m g ≡ answer_of c xs g
  unfolding host_walk_of leaf_of
  walk_is g b =
      let s = frame_small c g b in
      ap (named_by c) (host_look c g s xs h.frames h.deep refl h.holds)
      ∙ go (lookup g xs) refl
    where
      go : (r : Option Place) → lookup g xs ≡ r → leaf_of c (entry_by r) (host_cost c xs g) ≡ answer_by (host_cost c xs g) r
      go none e = rw present_zero
      go (some r) e =
          let i = lookup_inside c g xs r h.inside e in
          rw (entry_present r.0 r.1, entry_frame r.0 r.1 (omega (arith, i.1, h.few)), area_test c r.0 i, entry_writable r.0 r.1)

-- ---- one change of the mapping

-- what it leaves: n is the refusal, or 0
pub record Step (c : Config) (ms : List Mapping) (p : Pool) (m : List ℕ) (n : ℕ) (t : After Change) : Type 0 where
  pub pool : Pool
  pub memory : List ℕ
  pub done : t ≡ changed pool n memory
  pub stands : Maps c ms pool memory
  pub beside : Beside (host_area c) m memory

without_all : (P : Mapping → Type 0) (g : ℕ) (xs : List Mapping) → All P xs → All P (without g xs)
without_all P g [] a = tt
without_all P g (x ∷ xs) a = go (eqb g x.guest) (without_all P g xs a.1)
  where
    go : (b : Bool) → All P (without g xs) → All P (cond b (without g xs) (x ∷ without g xs))
    go true ih = ih
    go false ih = (a.0, ih)

-- a frame is mapped exactly if it is found
mapped_lookup : (g : ℕ) (xs : List Mapping) → is_mapped g xs ≡ true → (r : Place) × (lookup g xs ≡ some r)
mapped_lookup g [] h = let z : ◌≡◌ {A = ℕ} 0 1 = cc in absurd (omega arith)
mapped_lookup g (x ∷ xs) h = go (eqb g x.guest) h (mapped_lookup g xs)
  where
    go : (b : Bool) → (b || is_mapped g xs) ≡ true → (is_mapped g xs ≡ true → (r : Place) × (lookup g xs ≡ some r)) → (r : Place) × (cond b (some (x.to, x.right)) (lookup g xs) ≡ some r)
    go true k ih = ((x.to, x.right), refl)
    go false k ih = ih k

pub unmapped_lookup : (g : ℕ) (xs : List Mapping) → is_mapped g xs ≡ false → lookup g xs ≡ none
unmapped_lookup g [] h = refl
unmapped_lookup g (x ∷ xs) h = go (eqb g x.guest) h (unmapped_lookup g xs)
  where
    go : (b : Bool) → (b || is_mapped g xs) ≡ false → (is_mapped g xs ≡ false → lookup g xs ≡ none) → cond b (some (x.to, x.right)) (lookup g xs) ≡ none
    go true k ih = let z : ◌≡◌ {A = ℕ} 0 1 = cc in absurd (omega arith)
    go false k ih = ih k

module _ (c : Config) (xs : List Mapping) (p : Pool) (m : List ℕ) (h : Maps c xs p m) where
  stay : (n : ℕ) → Step c xs p m n (changed p n m)
  stay n = record { pool = p; memory = m; done = refl; stands = h; beside = beside_refl (host_area c) m }

  -- a frame is mapped where there is room
  map_room : (g f : ℕ) (w : Bool) → g < 2 ^ frame_bits c → InGuestArea c f → host_tables c (with g f w xs) ≤ c.hosts
      → Step c (with g f w xs) p m 0 (changed_by p 10 (insert_of (host_area c) [] p m (indexes c.levels g) (host_entry f w)))
  map_room g f w b i l =
      let s = frame_small c g b in
      let n = host_map_lem c g s xs h.frames h.deep refl h.holds f w (omega (arith, i.1, h.few)) l in
      record {
        pool = n.pool;
        memory = n.memory;
        done = ap (changed_by p 10) n.done;
        stands = record {
          deep = h.deep;
          few = h.few;
          holds = n.holds;
          frames = (s, without_all (λ (x : Mapping). x.guest < 2 ^ (9 * c.levels)) g xs h.frames);
          inside = (i, without_all (λ (x : Mapping). InGuestArea c x.to) g xs h.inside);
        };
        beside = n.beside;
      }

  pub map_is : (g f : ℕ) (w : Bool)
      → let n = refusal c (as_call (maps g f w)) (mapping_only xs) no_book in Step c (mapping_by n (maps g f w) xs) p m (number_by n) (map_of c p m g f w)
  unfolding map_of refusal tests
  map_is g f w = fits (frame_fits c g) refl
    where
      room : ℕ
      room = host_tables c (with g f w xs)

      t : After Change
      t = changed_by p 10 (insert_of (host_area c) [] p m (indexes c.levels g) (host_entry f w))

      out : Bool → Bool → Bool → Option ℕ
      out a b d = first_failed ((a, 8) ∷ (b, 9) ∷ (d, 10) ∷ [])

      last : (b : Bool) → leb room c.hosts ≡ b → g < 2 ^ frame_bits c → InGuestArea c f
          → Step c (mapping_by (out true true b) (maps g f w) xs) p m (number_by (out true true b)) t
      last true e s i = map_room g f w s i (leb→le room c.hosts (subst T (sym e) tt))
      last false e s i =
          let l = nleb→lt room c.hosts (subst (λ x. T (not x)) (sym e) tt) in
          let q = host_full c g (frame_small c g s) xs h.frames h.deep refl h.holds f w l in
          subst (λ x. Step c xs p m 10 (changed_by p 10 x)) (sym q) (stay 10)

      area : (b : Bool) → in_guest_area c f ≡ b → g < 2 ^ frame_bits c
          → Step c (mapping_by (out true b (leb room c.hosts)) (maps g f w) xs) p m (number_by (out true b (leb room c.hosts))) (cond b t (changed p 9 m))
      area true e s = last (leb room c.hosts) refl s (in_guest_area_lem c f (subst T (sym e) tt))
      area false e s = stay 9

      fits : (b : Bool) → frame_fits c g ≡ b
          → Step c (mapping_by (out b (in_guest_area c f) (leb room c.hosts)) (maps g f w) xs) p m (number_by (out b (in_guest_area c f) (leb room c.hosts)))
          (cond b (cond (in_guest_area c f) t (changed p 9 m)) (changed p 8 m))
      fits true e = area (in_guest_area c f) refl (ltb→lt g (2 ^ frame_bits c) (subst T (sym e) tt))
      fits false e = stay 8

  pub unmap_is : (g : ℕ)
      → let n = refusal c (as_call (unmaps g)) (mapping_only xs) no_book in Step c (mapping_by n (unmaps g) xs) p m (number_by n) (unmap_of c p m g)
  unfolding unmap_of refusal tests
  unmap_is g = fits (frame_fits c g) refl
    where
      t : After Change
      t = changed_by p 12 (remove_of (host_area c) true p m (indexes c.levels g))

      out : Bool → Bool → Option ℕ
      out a b = first_failed ((a, 8) ∷ (b, 12) ∷ [])

      there : (b : Bool) → is_mapped g xs ≡ b → g < 2 ^ frame_bits c → Step c (mapping_by (out true b) (unmaps g) xs) p m (number_by (out true b)) t
      there true e s =
          let r = mapped_lookup g xs e in
          let n = host_unmap c g (frame_small c g s) xs h.frames h.deep refl h.holds r.0 r.1 in
          record {
            pool = n.pool;
            memory = n.memory;
            done = ap (changed_by p 12) n.done;
            stands = record {
              deep = h.deep;
              few = h.few;
              holds = n.holds;
              frames = without_all (λ (x : Mapping). x.guest < 2 ^ (9 * c.levels)) g xs h.frames;
              inside = without_all (λ (x : Mapping). InGuestArea c x.to) g xs h.inside;
            };
            beside = n.beside;
          }
      there false e s =
          let q = host_absent_lem c g (frame_small c g s) xs h.frames h.deep refl h.holds (unmapped_lookup g xs e) in
          subst (λ x. Step c xs p m 12 (changed_by p 12 x)) (sym q) (stay 12)

      fits : (b : Bool) → frame_fits c g ≡ b → Step c (mapping_by (out b (is_mapped g xs)) (unmaps g) xs) p m (number_by (out b (is_mapped g xs))) (cond b t (changed p 8 m))
      fits true e = there (is_mapped g xs) refl (ltb→lt g (2 ^ frame_bits c) (subst T (sym e) tt))
      fits false e = stay 8

  pub remap_is : (x : Remap)
      → let n = refusal c (as_call x) (mapping_only xs) no_book in Step c (mapping_by n x xs) p m (number_by n) (remap_of c p m x)
  unfolding remap_of
  remap_is (maps g f w) = map_is g f w
  remap_is (unmaps g) = unmap_is g

-- ---- a list of them

pub record Remaps (c : Config) (m : List ℕ) (r : Mapped) (t : Remapped) : Type 0 where
  pub refusals : t.refusals ≡ r.refusals
  pub stands : Maps c r.mapping t.pool t.memory
  pub beside : Beside (host_area c) m t.memory

pub remaps_are : (c : Config) (ms : List Mapping) (p : Pool) (m : List ℕ) (xs : List Remap) → Maps c ms p m → Remaps c m (maps_of c ms xs) (remaps_of c p m xs)
unfolding maps_of remaps_of
remaps_are c ms p m [] h = record { refusals = refl; stands = h; beside = beside_refl (host_area c) m }
remaps_are c ms p m (x ∷ xs) h =
    let n = refusal c (as_call x) (mapping_only ms) no_book in
    let s = remap_is c ms p m h x in
    let t = remap_of c p m x in
    let pool : s.pool ≡ t.result.pool = sym (ap (λ (y : After Change). y.result.pool) s.done) in
    let memory : s.memory ≡ t.memory = sym (ap (λ (y : After Change). y.memory) s.done) in
    let stands : Maps c (mapping_by n x ms) t.result.pool t.memory = subst (λ q. Maps c (mapping_by n x ms) q t.memory) pool (subst (Maps c (mapping_by n x ms) s.pool) memory s.stands) in
    let ih = remaps_are c (mapping_by n x ms) t.result.pool t.memory xs stands in
    record {
      refusals = ap₂ (λ a b. a ∷ b) (ap (λ (y : After Change). y.result.refusal) s.done) ih.refusals;
      stands = ih.stands;
      beside = beside_trans (subst (Beside (host_area c) m) memory s.beside) ih.beside;
    }

-- the guest area is untouched
pub remaps_area : (c : Config) (ms : List Mapping) (p : Pool) (m : List ℕ) (xs : List Remap) → Maps c ms p m
    → drop (512 * guest_base c) (remaps_of c p m xs).memory ≡ drop (512 * guest_base c) m
remaps_area c ms p m xs h = beside_drop (remaps_are c ms p m xs h).beside (512 * guest_base c) (omega arith)

-- and every guest frame is walked as the mapping says
pub remaps_walk : (c : Config) (ms : List Mapping) (p : Pool) (m : List ℕ) (xs : List Remap) → Maps c ms p m → (g : ℕ) → g < 2 ^ frame_bits c
    → host_walk_of c (remaps_of c p m xs).pool.top (remaps_of c p m xs).memory g ≡ answer_of c (maps_of c ms xs).mapping g
remaps_walk c ms p m xs h g b =
    let t = remaps_of c p m xs in
    walk_is c (maps_of c ms xs).mapping t.pool t.memory (remaps_are c ms p m xs h).stands g b

-- ---- an opening: nothing is mapped, and the top table stands

pub no_leaves : (c : Config) (y : List ℕ) → 0 ≡ leaves (host_map c []) y
unfolding host_map get
no_leaves c y = refl

pub enter_maps : (c : Config) (m : List ℕ) → 0 < c.levels → c.levels < 8 → 0 < c.hosts → c.hosts ≤ 65536 → c.frames ≤ 65536 → c.hosts * 512 ≤ length m
    → let t = enter_of (host_area c) none_of m 0 in Maps c [] t.result.pool t.memory × Beside (host_area c) m t.memory
enter_maps c m deep flat one small few long =
    let o = holds_top (host_area c) (λ y. 0) m (omega arith) flat (omega arith) deep one (omega arith) in
    let t = enter_of (host_area c) none_of m 0 in
    let pool : o.pool ≡ t.result.pool = sym (ap (λ (y : After Went). y.result.pool) o.done) in
    let memory : o.memory ≡ t.memory = sym (ap (λ (y : After Went). y.memory) o.done) in
    let h : Maps c [] o.pool o.memory = record { deep = deep; few = few; holds = holds_leaves o.holds (leaves (host_map c [])) (no_leaves c); frames = tt; inside = tt } in
    (subst (λ q. Maps c [] q t.memory) pool (subst (Maps c [] o.pool) memory h), subst (Beside (host_area c) m) memory o.beside)
