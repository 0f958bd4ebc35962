-- Held paths that are valid on the machine, where memory stands for it: what the shadow tables must have of them.
-- Assumes nothing.
use mathlib.Core.Path.{◌≡◌, refl, sym, ap, ap₂, ◌∙◌, subst}
use mathlib.Core.Logic.{inl, inr}
use Prim.Native.Nat.{ℕ, ◌^◌, ◌<◌, ◌≤◌}
use native.Mathlib.Omega.{arith}
use mathlib.Core.Bool.{false, not, cond}
use mathlib.Core.List.{List, [], ◌∷◌, ◌++◌, head-eq_of_cons-eq}
use lib.Dec.{T, eqb, ltb}
use lib.ListN.{length}
use Rattle.spec.specs.declared.Fault.{Fault}
use Rattle.spec.specs.Config.{Config, guest_base, frame_bits}
use Rattle.spec.specs.Entry.{frame_limit, entry_limit}
use Rattle.spec.specs.Refusal.{in_guest_area}
use Rattle.spec.specs.Walk.{World, Trace, granted, trace}
use Rattle.spec.specs.Plain.{Place, to, into, entry_lead, walk}
use Rattle.spec.specs.Machine.{Machine, Mapping, lookup, world, stored, remapped}
use Rattle.spec.specs.Book.{Held, reads_word, uses_mapping}
use Rattle.spec.specs.Prefix.{All}
use Rattle.spec_laws.proofs.Lists.{all_map, all_any, none_passes, not_eqb}
use Rattle.spec_laws.proofs.Granted.{lead_uses}
use Rattle.spec_laws.proofs.Trail as trail
use Rattle.spec_laws.proofs.Trail.{frame_in, frame_at, named_at, reads_from, uses_from, walk_trail, frame_spans, On, SameLead, frames_same}
use Rattle.spec_laws.proofs.Local.{Seen, seen, SameMapping}
use Rattle.spec_laws.proofs.Asks.{walk_asks}
use Rattle.spec_laws.proofs.Keeps.{Valid, again, InGuestArea, MappedIn, area_real, held_in_lem, shadow_asked, store_words, store_keeps, mapping_keeps}
use Rattle.spec_laws.proofs.EntryBits.{frame_alike, large_alike}
use Rattle.spec_laws.proofs.SetBits.{MoreBits, more_keep}
use Rattle.pool.specs.declared.Pool.{Pool}
use Rattle.walk.specs.Memory.{memory_world}
use Rattle.walk.proofs.Stands.{Stands, same_host, same_word, stands_trace}
use Rattle.area_laws.proofs.Paths.{onto, Pre, Ext}
use Rattle.area_laws.proofs.Invariant.{Leaf}
use Rattle.area_laws.proofs.Whole.{Holds, holds_leaves, holds_guests}
use Rattle.shadow.specs.Held.{shadow_area, entry_for}
use Rattle.shadow.proofs.Parts.{entry_present, entry_switch, entry_frame, entry_small}
use Rattle.drops.specs.Cut.{lead_in}
use Rattle.drops_laws.proofs.Held.{leaf_at, HeldEntry, HeldEntries, leaf_held, leaf_same}
use Rattle.drops_laws.proofs.Watch.{ext_on}
use Rattle.drops_laws.proofs.Drops.{named_in}
use Rattle.layout.proofs.Laws.{area_test}

-- ---- entries
-- the entry of a held path, where F gives the host frames by prefix
unfoldable pub entry_of : Config → (List ℕ → ℕ) → Held → ℕ
entry_of c F h = entry_for (F (onto [] h.path)) (ltb (length h.path) c.levels) h.right

pub entry_thin : (c : Config) (F : List ℕ → ℕ) (h : Held) → F (onto [] h.path) < frame_limit → entry_of c F h < entry_limit
unfolding entry_of
entry_thin c F h l = entry_small (F (onto [] h.path)) (ltb (length h.path) c.levels) h.right l

onto_same : (q is : List ℕ) → trail.onto q is ≡ onto q is
unfolding onto
onto_same q [] = refl
onto_same q (i ∷ is) = onto_same (i ∷ q) is

-- the host frames of guest tables and pages, and the spans, by prefix, as the walk over memory reaches them
abbrev pub frames_at : Config → ℕ → List ℕ → ℕ → List ℕ → ℕ
frames_at c ht m root = frame_at (memory_world c ht m) c root

-- ---- the places on a held path

pre_on : (y q is : List ℕ) → Pre y q is → On y q is
pre_on y q [] h = absurd h
pre_on y q (i ∷ is) (inl h) = inl h
pre_on y q (i ∷ is) (inr h) = inr (pre_on y (i ∷ q) is h)

end_on : (q is : List ℕ) → On (onto q is) q is
unfolding onto
end_on q [] = refl
end_on q (i ∷ is) = inr (end_on (i ∷ q) is)

-- they are the same in each world in which its words lead the same way and its mappings are the same
module _ (c : Config) (s : Machine) (h : Held) (v : Valid c s h) where
  trail_valid : (h.reads ≡ reads_from c (frame_at (world c s) c s.root) [] h.path) × (h.uses ≡ s.root ∷ uses_from (named_at (world c s) c s.root) [] h.path)
  unfolding again seen
  trail_valid =
      let t = walk_trail (world c s) c s.root false h.path (v.frame, v.wide) (ap (λ (x : Seen Fault Place). x.result) v.comes) in
      (sym (ap (λ (x : Seen Fault Place). x.reads) v.comes) ∙ t.0, sym (ap (λ (x : Seen Fault Place). x.uses) v.comes) ∙ t.1)

  places_same : (u : World) → All (SameLead (world c s) u) h.reads → All (SameMapping (world c s) u) h.uses → (y : List ℕ) → On y [] h.path
      → frame_at u c s.root y ≡ frame_at (world c s) c s.root y
  unfolding frame_at
  places_same u a b y o =
      let k = subst (All (SameMapping (world c s) u)) trail_valid.1 b in
      frames_same (world c s) u c s.root s.root h.path [] y (ap frame_in k.0) (subst (All (SameLead (world c s) u)) trail_valid.0 a) k.1 o

module _ (c : Config) (s : Machine) (ht : ℕ) (m : List ℕ) (st : Stands c s ht m) (small : s.root < 2 ^ frame_bits c) (few : c.frames ≤ 65536) where
  named_same : (is q : List ℕ) → uses_from (named_at (memory_world c ht m) c s.root) q is ≡ uses_from (named_in c m (frames_at c ht m s.root)) q is
  unfolding named_at named_in lead_in memory_world
  named_same [] q = refl
  named_same (i ∷ is) q = ap (λ us. lead_uses (named_at (memory_world c ht m) c s.root (i ∷ q)) ++ us) (named_same is (i ∷ q))

  module _ (h : Held) (v : Valid c s h) where
    part : Trace Fault Place
    part = trace (world c s) (walk c false s.root h.path)

    same_part : trace (memory_world c ht m) (walk c false s.root h.path) ≡ part
    unfolding part
    same_part = stands_trace c s ht m st (walk c false s.root h.path) _ (walk_asks c (InGuestArea c) (area_real c) false s.root h.path small v.small)

    grants : part.result ≡ granted (v.frame, v.wide)
    unfolding part again seen
    grants = ap (λ (x : Seen Fault Place). x.result) v.comes

    read : part.reads ≡ h.reads
    unfolding part again seen
    read = ap (λ (x : Seen Fault Place). x.reads) v.comes

    used : part.uses ≡ h.uses
    unfolding part again seen
    used = ap (λ (x : Seen Fault Place). x.uses) v.comes

    trailed : ((trace (memory_world c ht m) (walk c false s.root h.path)).reads ≡ reads_from c (frames_at c ht m s.root) [] h.path)
        × ((trace (memory_world c ht m) (walk c false s.root h.path)).uses ≡ s.root ∷ uses_from (named_at (memory_world c ht m) c s.root) [] h.path)
        × (v.frame ≡ frames_at c ht m s.root (trail.onto [] h.path))
    trailed = walk_trail (memory_world c ht m) c s.root false h.path (v.frame, v.wide) (ap (λ (x : Trace Fault Place). x.result) same_part ∙ grants)

    -- the frame that the path leads to
    pub valid_frame : frames_at c ht m s.root (onto [] h.path) ≡ v.frame
    valid_frame = ap (frames_at c ht m s.root) (sym (onto_same [] h.path)) ∙ sym trailed.2

    pub inside_area : InGuestArea c v.frame
    inside_area = held_in_lem c s h st.inside small v

    -- the words that it read are in the guest area, and the mappings that it used are those of guest frame numbers
    asked_words : All (λ x. InGuestArea c x.0 × (x.1 < 512)) h.reads
    unfolding part
    asked_words = subst (All (λ (x : ℕ × ℕ). InGuestArea c x.0 × (x.1 < 512))) read (shadow_asked c s false h.path st.inside small v.small).reads

    asked_frames : All (λ g. g < 2 ^ frame_bits c) h.uses
    unfolding part
    asked_frames = subst (All (λ g. g < 2 ^ frame_bits c)) used (shadow_asked c s false h.path st.inside small v.small).uses

    -- so memory has the machine's places
    stand_places : (y : List ℕ) → On y [] h.path → frames_at c ht m s.root y ≡ frame_at (world c s) c s.root y
    unfolding world memory_world
    stand_places =
        places_same c s h v (memory_world c ht m)
        (all_map (λ (x : ℕ × ℕ). InGuestArea c x.0 × (x.1 < 512)) (SameLead (world c s) (memory_world c ht m)) h.reads
        (λ x k n. ap (entry_lead n) (same_word c s ht m st x.0 x.1 k.0)) asked_words)
        (all_map (λ g. g < 2 ^ frame_bits c) (SameMapping (world c s) (memory_world c ht m)) h.uses (λ g b. (same_host c s ht m st g b).0) asked_frames)

    pub valid_entry : HeldEntry c (frames_at c ht m s.root) (named_in c m (frames_at c ht m s.root)) s.root (entry_of c (frames_at c ht m s.root) h) h
    unfolding entry_of
    valid_entry = record {
      set = entry_present (frames_at c ht m s.root (onto [] h.path)) (ltb (length h.path) c.levels) h.right;
      area = ap (in_guest_area c) (entry_frame (frames_at c ht m s.root (onto [] h.path)) (ltb (length h.path) c.levels) h.right thin ∙ valid_frame) ∙ area_test c v.frame inside_area;
      ends = entry_switch (frames_at c ht m s.root (onto [] h.path)) (ltb (length h.path) c.levels) h.right;
      reads = sym read ∙ sym (ap (λ (x : Trace Fault Place). x.reads) same_part) ∙ trailed.0;
      uses = sym used ∙ sym (ap (λ (x : Trace Fault Place). x.uses) same_part) ∙ trailed.1 ∙ ap (λ us. s.root ∷ us) (named_same h.path []);
      inside = all_map _ _ h.reads (λ x k. k.0.0) asked_words;
    }
      where
        thin : frames_at c ht m s.root (onto [] h.path) < frame_limit
        thin = let e = valid_frame in let k = inside_area in omega arith

  pub valid_entries : (hs : List Held) → All (Valid c s) hs
      → HeldEntries c (frames_at c ht m s.root) (named_in c m (frames_at c ht m s.root)) s.root (entry_of c (frames_at c ht m s.root)) hs
  valid_entries hs a = record { spans = frame_spans (memory_world c ht m) c s.root; all = all_map _ _ hs valid_entry a }

-- ---- from one machine to the next

-- a held path that is valid on both machines, whose words lead the same way and whose mappings are the same
pub record Stays (c : Config) (s t : Machine) (h : Held) : Type 0 where
  pub before : Valid c s h
  pub after : Valid c t h
  pub leads : All (SameLead (world c s) (world c t)) h.reads
  pub mapped : All (λ g. lookup g t.mappings ≡ lookup g s.mappings) h.uses

-- it goes through the same places
stays_places : (c : Config) (s t : Machine) (h : Held) → Stays c s t h → (y : List ℕ) → On y [] h.path
    → frame_at (world c t) c t.root y ≡ frame_at (world c s) c s.root y
unfolding world
stays_places c s t h v y o =
    let root : t.root ≡ s.root = head-eq_of_cons-eq (sym (trail_valid c t h v.after).1 ∙ (trail_valid c s h v.before).1) in
    ap (λ x. frame_at (world c t) c x y) root ∙ places_same c s h v.before (world c t) v.leads v.mapped y o

pub stays_same : (c : Config) (s : Machine) (h : Held) → Valid c s h → Stays c s s h
stays_same c s h v = record { before = v; after = v; leads = all_any _ h.reads (λ x n. refl); mapped = all_any _ h.uses (λ g. refl) }

-- a store to a word that it did not read
pub stays_store : (c : Config) (s : Machine) (t i v : ℕ) (h : Held) → MappedIn c s → s.root < 2 ^ frame_bits c → guest_base c ≤ t → i < 512
    → Valid c s h → T (not (reads_word t i h)) → Stays c s (stored c s t i v) h
stays_store c s t i v h mi rb bt bi va nr = record {
  before = va;
  after = store_keeps c s t i v h mi rb bt bi va nr;
  leads = all_map _ _ h.reads (λ x e n. ap (entry_lead n) e) (store_words c s t i v h mi rb bt bi va nr);
  mapped = all_any _ h.uses (λ g. refl);
}

-- a change of a mapping that it did not use
pub stays_mapping : (c : Config) (s : Machine) (xs : List Mapping) (g : ℕ) (h : Held) → ((f : ℕ) → (f ≡ g → ⊥) → lookup f xs ≡ lookup f s.mappings)
    → Valid c s h → T (not (uses_mapping g h)) → Stays c s (remapped s xs) h
unfolding world
stays_mapping c s xs g h same va nu = record {
  before = va;
  after = mapping_keeps c s xs g h same va nu;
  leads = all_any _ h.reads (λ x n. refl);
  mapped = all_map _ _ h.uses (λ f k. same f (λ e. not_eqb g f k (sym e))) (none_passes (eqb g) h.uses nu);
}

-- bits set in its words
pub stays_more : (c : Config) (s t : Machine) (h : Held) → MoreBits c s t → Valid c s h → Stays c s t h
unfolding world entry_lead
stays_more c s t h a v = record {
  before = v;
  after = more_keep c s t h a v;
  leads = all_any _ h.reads (λ x n. let k = (a.words x.0 x.1).alike in ap₂ (λ b f. cond b (into f) (to f)) (large_alike n _ _ k) (frame_alike _ _ k));
  mapped = all_any _ h.uses (λ g. ap (lookup g) a.mappings);
}

-- the tables that stand for the held paths on one machine stand for them on the other
pub holds_on : {c : Config} {p : Pool} {o : List ℕ} (hs : List Held) (s t : Machine) (hm hn : ℕ) (m n : List ℕ) (sm : Stands c s hm m) (tn : Stands c t hn n)
    (bs : s.root < 2 ^ frame_bits c) (bt : t.root < 2 ^ frame_bits c) (few : c.frames ≤ 65536) → All (Stays c s t) hs
    → Holds (shadow_area c) false p o (leaf_at (entry_of c (frames_at c hm m s.root)) hs) (frames_at c hm m s.root)
    → Holds (shadow_area c) false p o (leaf_at (entry_of c (frames_at c hn n t.root)) hs) (frames_at c hn n t.root)
unfolding entry_of
holds_on {c = c} hs s t hm hn m n sm tn bs bt few a h =
    holds_leaves (holds_guests h F (λ x l. elim l [ inl r ↦ same x r | inr r ↦ absurd r.1 ]))
    (leaf_at (entry_of c F) hs) (leaf_same (entry_of c E) (entry_of c F) hs (all_map _ _ hs entry-same a))
  where
    E : List ℕ → ℕ
    E = frames_at c hm m s.root

    F : List ℕ → ℕ
    F = frames_at c hn n t.root

    on : (k : Held) → Stays c s t k → (y : List ℕ) → On y [] k.path → F y ≡ E y
    on k v y o = stand_places c t hn n tn bt few k v.after y o ∙ stays_places c s t k v y o ∙ sym (stand_places c s hm m sm bs few k v.before y o)

    same : (x : List ℕ) → Leaf (leaf_at (entry_of c E) hs) x → F x ≡ E x
    same x l =
        let r = leaf_held (Stays c s t) (entry_of c E) hs l.path a l.set in
        on r.held r.fact x (pre_on x [] r.held.path (ext_on x r.held.path (subst (Ext x) (sym r.path) l.under)))

    entry-same : (k : Held) → Stays c s t k → entry_of c E k ≡ entry_of c F k
    entry-same k v = ap (λ f. entry_for f (ltb (length k.path) c.levels) k.right) (sym (on k v (onto [] k.path) (end_on [] k.path)))
