-- A fill is the book's: the new path stands in place of one that has its indexes, and the others with it exactly if the tables find room.
-- Assumes nothing.
use mathlib.Core.Path.{◌≡◌, refl, sym, ap, ap₂, ◌∙◌, subst}
use mathlib.Core.Logic.{inl, inr}
use Prim.Native.Nat.{ℕ, suc, pred, ◌+◌, ◌-◌, ◌*◌, ◌<◌, ◌≤◌}
use native.Mathlib.Omega.{arith}
use mathlib.Core.Bool.{Bool, true, false, cond}
use mathlib.Core.List.{List, [], ◌∷◌}
use mathlib.Core.Option.{some}
use lib.Dec.{leb}
use lib.ListN.{length, get_or, replicate}
use borrow.Author.Tests.{leb-true, leb-false}
use Rattle.spec.specs.declared.Fault.{Fault}
use Rattle.spec.specs.Config.{Config}
use Rattle.spec.specs.Entry.{present, entry_limit}
use Rattle.spec.specs.Book.{Held, find, paths, shadow_tables, fill}
use Rattle.spec.specs.Count.{others}
use Rattle.spec.specs.Prefix.{All, same}
use Rattle.spec_laws.proofs.Lists.{all_map}
use Rattle.spec_laws.proofs.Indexes.{same_sym}
use Rattle.spec_laws.proofs.Refill.{others_find, fill_others}
use Rattle.spec.specs.Walk.{Walk, World, trace, granted}
use Rattle.spec.specs.Plain.{Place, Lead, to, into, span, is_span, entry_lead, span_lead, hosted, turn, levels, walk}
use Rattle.spec_laws.proofs.Granted.{through, hosted_granted, lead_at, turn_granted}
use Rattle.spec_laws.proofs.Trail.{frame_in, place_by, frame_at, reaches_place}
use Rattle.pool.specs.declared.Pool.{Pool}
use Rattle.pool.specs.Header.{guest_room}
use Rattle.pool.specs.Pool.{none_of}
use Rattle.area.specs.Tree.{insert_of}
use Rattle.layout.specs.declared.HostWalk.{HostWalk}
use Rattle.layout.specs.declared.HostWalk.TheVariants.{Found, Absent, Damaged}
use Rattle.host.specs.Walk.{host_walk_of}
use Rattle.layout.proofs.Laws.{HostFits}
use Rattle.host.proofs.Laws.{host_fits}
use Rattle.walk.specs.Memory.{place_of, memory_world, noted, passed_by, passed, passed_root, root_trail}
use Rattle.area_laws.specs.Run as run
use Rattle.area_laws.proofs.Change.{upd}
use Rattle.area_laws.proofs.Paths.{onto, Small, Pre, Ext, pre_ext, Guests}
use Rattle.area_laws.proofs.Whole.{Holds, Fits, Next, next_leaves, first_insert}
use Rattle.area_laws.proofs.Count.{Lists, insert_next, insert_not}
use Rattle.area_laws.proofs.Claim.{Solid, map_lists, leaves_put}
use Rattle.shadow.specs.Held.{shadow_area}
use Rattle.shadow.specs.Fill.{fill_of}
use Rattle.walk.proofs.Laws.{NearLead, span_near, entry_near}
use Rattle.walk.proofs.Trails.{noted_at}
use Rattle.drops_laws.proofs.Held.{entries, leaf_at, HeldEntries}
use Rattle.drops_laws.proofs.Find.{entry_found, get_find}

-- ---- the guest tables and spans on the way, as the walk over memory goes through them

-- by the places that F gives
abbrev places_on : (List ℕ → ℕ) → List ℕ → List ℕ → List ℕ
places_on F q [] = []
places_on F q (i ∷ is) = F q ∷ places_on F (i ∷ q) is

places_long : (F : List ℕ → ℕ) (q is : List ℕ) → length (places_on F q is) ≡ length is
places_long F q [] = refl
places_long F q (i ∷ is) = ap suc (places_long F (i ∷ q) is)

-- a list that has these places from d on; each fits a header
guests_by : (F : List ℕ → ℕ) (gs : List ℕ) → ((y : List ℕ) → Small y → length y ≤ 8 → F y < guest_room) → (is : List ℕ) (d : ℕ) (x : List ℕ)
    → Small x → Small is → length x + length is ≤ 8 → ((j : ℕ) → j < length is → get_or gs (d + j) 0 ≡ get_or (places_on F x is) j 0) → Guests F gs d x is
guests_by F gs s [] d x sx si l h = tt
guests_by F gs s (i ∷ is) d x sx si l h = (
  (let z : d + 0 ≡ d = omega arith in ap (λ k. get_or gs k 0) (sym z) ∙ h 0 (omega arith)),
  s x sx (omega (arith, l)),
  guests_by F gs s is (d + 1) (i ∷ x) (si.0, sx) si.1 (omega (arith, l))
      (λ j k. let z : d + 1 + j ≡ d + suc j = omega arith in ap (λ k. get_or gs k 0) z ∙ h (suc j) (omega (arith, k))),
)

found_small : (c : Config) (r : HostWalk) → c.frames ≤ 65536 → HostFits c r → frame_in (place_of r) < 65536
found_small c (Found p w) l h = omega (arith, h.1)
found_small c (Absent n) l h = omega arith
found_small c Damaged l h = omega arith

module _ (c : Config) (ht : ℕ) (m : List ℕ) where
  abbrev over : World
  over = memory_world c ht m

  mapped_small : c.frames ≤ 65536 → (g : ℕ) → frame_in ((memory_world c ht m).host_at g) < 65536
  unfolding memory_world
  mapped_small l g = found_small c (host_walk_of c ht m g) l (host_fits c ht m g)

  lead_near : (n t i : ℕ) → n ≤ 5 → i < 512 → NearLead c t (lead_at over c n t i)
  lead_near n t i l b = go (is_span c t) refl
    where
      go : (x : Bool) → is_span c t ≡ x → NearLead c t (cond x (span_lead c n t i) (entry_lead n (over.word_at t i)))
      go true e = span_near c n t i l b e
      go false e = entry_near c n t (over.word_at t i)

  place_most : c.frames ≤ 65536 → (t k : ℕ) → t < 2199023255552 + 35184372088832 * k → (x : Lead) → NearLead c t x → place_by over c x < 2199023255552 + 35184372088832 * suc k
  unfolding span
  place_most few t k b (to g) near = omega (arith, mapped_small few g)
  place_most few t k b (into g) (inl near) = omega (arith, few, near)
  place_most few t k b (into g) (inr near) = omega (arith, b, near)

  -- a place is a host frame, or a span some levels below a large page's entry
  frame_most : c.frames ≤ 65536 → c.levels ≤ 5 → (root : ℕ) (y : List ℕ) → Small y → frame_at over c root y < 2199023255552 + 35184372088832 * length y
  unfolding frame_at
  frame_most few deep root [] s = omega (arith, mapped_small few root)
  frame_most few deep root (i ∷ y) s =
      let n = c.levels - length y in
      let t = frame_at over c root y in
      place_most few t (length y) (frame_most few deep root y s.1) (lead_at over c n t i) (lead_near n t i (omega (arith, deep)) s.0)

  passed_is : (root : ℕ) (st : Bool) (n t : ℕ) (v : Bool) (is q : List ℕ) (r : Place) → t ≡ frame_at over c root q → n ≡ c.levels - length q
      → (trace over (levels c st n t v is)).result ≡ granted r → passed c ht m st n t v is ≡ places_on (frame_at over c root) q is
  unfolding passed levels frame_at
  passed_is root st n t v [] q r e l h = refl
  passed_is root st n t v (i ∷ is) q r e l h =
      let f : Place → Walk Fault Place = λ p. levels c st (pred n) p.0 p.1 is in
      let a = through over (turn c st n t i v) f r h in
      let z = turn_granted over c st n t i v a.mid a.first in
      let at : a.mid.0 ≡ frame_at over c root (i ∷ q) =
      reaches_place over c (lead_at over c n t i) a.mid z.reaches ∙ ap (place_by over c) (ap₂ (λ x y. lead_at over c x y i) l e) in
      ap (λ x. t ∷ passed_by x (λ p. passed c ht m st (pred n) p.0 p.1 is)) a.first
      ∙ ap₂ (λ x xs. x ∷ xs) e (passed_is root st (pred n) a.mid.0 a.mid.1 is (i ∷ q) r at (omega (arith, l)) a.next)

  root_passed : (root : ℕ) (st : Bool) (is : List ℕ) (r : Place) → (trace over (walk c st root is)).result ≡ granted r
      → passed_root c ht m st root is ≡ places_on (frame_at over c root) [] is
  unfolding passed_root walk frame_at
  root_passed root st is r h =
      let a = through over (hosted root) (λ p. levels c st c.levels p.0 true is) r h in
      let at = (hosted_granted over root a.mid a.first).0 in
      ap (λ x. passed_by x (λ p. passed c ht m st c.levels p.0 true is)) a.first
      ∙ passed_is root st c.levels a.mid.0 true is [] r (sym (ap frame_in at)) (omega arith) a.next

  -- a walk that arrives hands out at each depth the host frame of the guest table, or the span, as `frame_at` has it
  pub trail_is : c.frames ≤ 65536 → c.levels ≤ 5 → (st : Bool) (root : ℕ) (is : List ℕ) (r : Place) → Small is → length is ≤ 8
      → (trace (memory_world c ht m) (walk c st root is)).result ≡ granted r
      → Guests (frame_at (memory_world c ht m) c root) (root_trail c ht m st root is).tables 0 [] is
  unfolding root_trail
  trail_is few deep st root is r s b g = guests_by F _ fits is 0 [] tt s (omega (arith, b)) at
    where
      F : List ℕ → ℕ
      F = frame_at over c root

      fits : (y : List ℕ) → Small y → length y ≤ 8 → F y < guest_room
      fits y sy l = omega (arith, frame_most few deep root y sy, l)

      named : passed_root c ht m st root is ≡ places_on F [] is
      named = root_passed root st is r g

      long : length (passed_root c ht m st root is) ≡ length is
      long = ap length named ∙ places_long F [] is

      at : (j : ℕ) → j < length is → get_or (noted (replicate 8 0) 0 (passed_root c ht m st root is)) (0 + j) 0 ≡ get_or (places_on F [] is) j 0
      at j l = noted_at (passed_root c ht m st root is) (replicate 8 0) 0 j (omega (arith, long, b)) (omega (arith, long, l)) ∙ ap (λ xs. get_or xs j 0) named

-- only the tables on the way matter
pub guests_agree : (F G : List ℕ → ℕ) (gs : List ℕ) (d : ℕ) (x is : List ℕ) → ((y : List ℕ) → Pre y x is → G y ≡ F y) → Guests F gs d x is → Guests G gs d x is
guests_agree F G gs d x [] e h = tt
guests_agree F G gs d x (i ∷ is) e h =
    (h.0 ∙ sym (e x (inl refl)), subst (λ f. f < guest_room) (sym (e x (inl refl))) h.1, guests_agree F G gs (d + 1) (i ∷ x) is (λ y k. e y (inr k)) h.2)

-- ---- the paths of the list
pub entries_paths : (w : Held → ℕ) (hs : List Held) → run.paths (entries w hs) ≡ paths hs
unfolding run.paths entries
entries_paths w [] = refl
entries_paths w (h ∷ hs) = ap (λ ps. h.path ∷ ps) (entries_paths w hs)

pub entries_solid : (w : Held → ℕ) (hs : List Held) → All (λ h. present (w h) ≡ true) hs → Solid (entries w hs)
unfolding entries Solid
entries_solid w [] a = tt
entries_solid w (h ∷ hs) a = (a.0, entries_solid w hs a.1)

-- with one more path
leaf_put : (w : Held → ℕ) (k : Held) (hs : List Held) (y : List ℕ) → upd (leaf_at w hs) (onto [] k.path) (w k) y ≡ leaf_at w (k ∷ hs) y
unfolding entries
leaf_put w k hs y = leaves_put (entries w hs) k.path (w k) y

leaf_only : (w : Held → ℕ) (k : Held) (y : List ℕ) → upd (λ x. 0) (onto [] k.path) (w k) y ≡ leaf_at w (k ∷ []) y
unfolding entries run.get
leaf_only w k y = leaves_put [] k.path (w k) y

module _ {c : Config} {p : Pool} {m : List ℕ} {guest : List ℕ → ℕ} {G : List ℕ → Lead} {root : ℕ} {w : Held → ℕ} {hs : List Held} (h : Holds (shadow_area c) false p m (leaf_at w hs) guest)
    (a : HeldEntries c guest G root w hs) (k : Held) (f : Fits (shadow_area c) (leaf_at w hs) k.path) (gs : List ℕ) (gg : Guests guest gs 0 [] k.path)
    (thin : w k < entry_limit) (present-new : present (w k) ≡ true) (room : c.levels ≤ c.shadows) where
  listed : Lists (upd (leaf_at w hs) (onto [] k.path) (w k)) (paths (k ∷ hs))
  listed = subst (Lists (upd (leaf_at w hs) (onto [] k.path) (w k))) (entries_paths w (k ∷ hs))
      (subst (λ lw. Lists lw (run.paths (entries w (k ∷ hs)))) (λ i y. sym (leaf_put w k hs y) i)
      (map_lists (entries w (k ∷ hs)) (entries_solid w (k ∷ hs) (present-new, all_map _ _ hs (λ h s. s.set) a.all))))

  -- a path is filled, after all others are dropped if there are not tables enough
  pub inserted_is : Next (shadow_area c) false p m (leaf_at w (fill c k hs)) guest (fill_of c gs p m k.path (w k))
  unfolding fill_of
  inserted_is = go (leb (shadow_tables (k ∷ hs)) c.shadows) refl
    where
      fits : (n : Next (shadow_area c) false p m (upd (leaf_at w hs) (onto [] k.path) (w k)) guest (insert_of (shadow_area c) gs p m k.path (w k)))
          → Next (shadow_area c) false p m (leaf_at w (k ∷ hs)) guest (fill_of c gs p m k.path (w k))
      fits n = rw n.done (next_leaves (leaf_at w (k ∷ hs)) (leaf_put w k hs) (record { pool = n.pool; memory = n.memory; frame = n.frame; done = refl; holds = n.holds; beside = n.beside }))

      first : (n : Next (shadow_area c) false none_of m (upd (λ x. 0) (onto [] k.path) (w k)) guest (insert_of (shadow_area c) gs none_of m k.path (w k)))
          → Next (shadow_area c) false p m (leaf_at w (k ∷ [])) guest (insert_of (shadow_area c) gs none_of m k.path (w k))
      first n = next_leaves (leaf_at w (k ∷ [])) (leaf_only w k) (record { pool = n.pool; memory = n.memory; frame = n.frame; done = n.done; holds = n.holds; beside = n.beside })

      go : (b : Bool) → leb (shadow_tables (k ∷ hs)) c.shadows ≡ b
          → Next (shadow_area c) false p m (leaf_at w (cond b (k ∷ hs) (k ∷ []))) guest (fill_of c gs p m k.path (w k))
      go true e = fits (insert_next h k.path (w k) f present-new (paths (k ∷ hs)) listed gs gg thin (leb-true _ _ e))
      go false e = rw (insert_not h k.path (w k) f present-new (paths (k ∷ hs)) listed gs gg (leb-false _ _ e))
          (first (first_insert (shadow_area c) guest gs m k.path (w k) h.tables.small h.tables.flat h.tables.long f.nonempty f.short (let s = f.short in omega arith) f.small gg thin present-new))

-- ---- a path of the same indexes is replaced
module _ (c : Config) (w : Held → ℕ) (k : Held) (hs : List Held) (y : List ℕ) where
  abbrev rest : List Held
  rest = others c k.path hs

  -- of two paths with the same indexes the first is found
  replaced : leaf_at w (k ∷ hs) y ≡ leaf_at w (k ∷ rest) y
  replaced = get_find w q (k ∷ hs) ∙ ap (entry_found w) (go (same q k.path) refl) ∙ sym (get_find w q (k ∷ rest))
    where
      q : List ℕ
      q = onto [] y

      go : (b : Bool) → same q k.path ≡ b → cond b (some k) (find q hs) ≡ cond b (some k) (find q rest)
      go true e = refl
      go false e = sym (others_find c k.path q hs (same_sym k.path q ∙ e))

  refilled : leaf_at w (fill c k hs) y ≡ leaf_at w (fill c k rest) y
  refilled = go (leb (shadow_tables (k ∷ hs)) c.shadows) ∙ sym (ap (λ ks. leaf_at w ks y) (fill_others c k hs))
    where
      go : (b : Bool) → leaf_at w (cond b (k ∷ hs) (k ∷ [])) y ≡ leaf_at w (cond b (k ∷ rest) (k ∷ [])) y
      go true = replaced
      go false = refl

-- the new tables' headers name the guest tables of the walk over memory
pub fill_is : {c : Config} {p : Pool} {m : List ℕ} {guest : List ℕ → ℕ} {G : List ℕ → Lead} {root : ℕ} {w : Held → ℕ} {hs : List Held} → Holds (shadow_area c) false p m (leaf_at w hs) guest
    → HeldEntries c guest G root w hs → (k : Held) → Fits (shadow_area c) (leaf_at w hs) k.path → (F : List ℕ → ℕ) (gs : List ℕ) → Guests F gs 0 [] k.path
    → ((y : List ℕ) → Ext y (onto [] k.path) → guest y ≡ F y) → w k < entry_limit → present (w k) ≡ true → c.levels ≤ c.shadows
    → Next (shadow_area c) false p m (leaf_at w (fill c k (others c k.path hs))) guest (fill_of c gs p m k.path (w k))
fill_is {c = c} {guest = guest} {w = w} {hs = hs} h a k f F gs gg e thin set room =
    next_leaves (leaf_at w (fill c k (others c k.path hs))) (refilled c w k hs)
    (inserted_is h a k f gs (guests_agree F guest gs 0 [] k.path (λ y q. e y (pre_ext y [] k.path q)) gg) thin set room)
