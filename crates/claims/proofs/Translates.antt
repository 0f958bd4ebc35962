-- A translation of the unit is the request's verdict on the machine, at the book's price, and leaves what the book's request leaves.
-- Assumes nothing.
use mathlib.Core.Path.{◌≡◌, refl, sym, ap, ap₂, ◌∙◌, subst}
use Prim.Native.Nat.{ℕ, zero, suc, ◌+◌, ◌-◌, ◌*◌, ◌/◌, ◌^◌, ◌<◌, ◌≤◌}
use native.Mathlib.Nat.{zero-add}
use native.Mathlib.Omega.{arith}
use mathlib.Core.Bool.{Bool, true, false, not, ◌&&◌, ◌||◌, cond}
use mathlib.Core.List.{List, []}
use lib.ListN.{length}
use mathlib.Core.Option.{Option, none, some}
use lib.Dec.{eqb, leb, ltb}
use borrow.Author.Tests.{le-leb, lt-leb, ltb-true, ltb-false, ne_eqb}
use Rattle.spec.specs.declared.Fault.{Fault}
use Rattle.spec.specs.declared.Fault.TheVariants.{HostReadOnly}
use Rattle.spec.specs.Config.{Config}
use Rattle.spec.specs.Entry.{indexes, page_of}
use Rattle.spec.specs.Prefix.{All}
use Rattle.spec.specs.Walk.{World, Trace, Result, granted, failed, trace}
use Rattle.spec.specs.Plain.{Place, levels, walk, upper, direct_part}
use Rattle.spec.specs.Machine.{Machine, world}
use Rattle.spec.specs.Bits.{lacks, owed, owes, judged, bits_set}
use Rattle.spec.specs.Book.{Held, find, fill, holding}
use Rattle.spec.specs.Call.{address_indexes, plain, verdict}
use Rattle.spec.specs.Count.{Counted, one, host_exit, is_granted, serves, held_by, right_of, others, late_exit, shadowed, unshadowed, request}
use Rattle.spec.specs.Run.{State}
use Rattle.spec_laws.proofs.Local.{Seen, seen}
use Rattle.spec_laws.proofs.Granted.{ran, walk_serves}
use Rattle.spec_laws.proofs.Parts.{shadow_fault, direct_result}
use Rattle.spec_laws.proofs.Indexes.{indexes_length, indexes_all}
use Rattle.spec_laws.proofs.Asks.{Guest, placed_frame, levels_asks}
use Rattle.spec_laws.proofs.Parts.{lower}
use Rattle.spec_laws.proofs.Large.{walk_stores}
use Rattle.spec_laws.proofs.Keeps.{Valid, again, right_wide, right_deep, InGuestArea, area_real, PlaceIn}
use Rattle.spec_laws.proofs.SetBits.{lacks_bits}
use Rattle.spec_laws.proofs.Before.{off_owes, off_verdict, off_bits}
use Rattle.spec_laws.proofs.Covered.{Covered}
use Rattle.spec_laws.proofs.Served as served
use Rattle.spec_laws.proofs.Missed.{missed_fault, missed_request}
use Rattle.area_laws.proofs.Paths.{onto}
use Rattle.layout.specs.Layout.{page}
use Rattle.walk.specs.declared.Walked.{Walked}
use Rattle.walk.specs.declared.Walked.TheVariants as walked
use Rattle.walk.specs.Memory.{memory_world, walked_of, root_trail}
use Rattle.walk.proofs.Stands.{plain_walked, root_walked, table_walked}
use Rattle.record.specs.declared.Record.{Record}
use Rattle.record.specs.Record.{config_of, head_tables}
use Rattle.drops_laws.proofs.Find.{find_all}
use Rattle.drops_laws.proofs.Valid.{frames_at, valid_frame, inside_area}
use Rattle.translate.specs.declared.Translated.{Translated}
use Rattle.translate.specs.declared.Verdict.{Verdict}
use Rattle.translate.specs.declared.Verdict.TheVariants.{Fill}
use Rattle.translate.specs.declared.Held.{Held as Holding}
use Rattle.translate.specs.Translate.{translation, exit_by, direct, direct_of, served_of, plain_of, whole, owing_by, checked_of, settled_by, through_of, unshadowed_of, serves_of, found_of, filled_of, plainly, cleared_by, strict_by, lax_by, ruled_by, arrived_of, missed_by, missed_of, found_by, translate_of}
use Rattle.translate.proofs.Bits.{through_off, through_on, unshadowed_off, unshadowed_on, arrived_off, arrived_on, missed_by_lem}
use Rattle.words.specs.After.{After, yields}
use Rattle.calls.specs.Calls.{host_top, held_of, head_held, with_held, translated_of}
use Rattle.claims.proofs.Invariant.{frames, Inv}
use Rattle.claims.proofs.Moves.{at_inv}
use Rattle.claims.proofs.Paths.{path_upper, path_lower, exit_is}
use Rattle.claims.proofs.Depths.{depth_is}
use Rattle.claims.proofs.Found as found
use Rattle.claims.proofs.Bits.{walk_lacks, whole_walked, whole_checked}
use Rattle.claims.proofs.Fills as fills

-- what a request came to, as the code has it. The write right at its end is nothing that a request says
abbrev pub came_to : Bool → Result Fault Place → ℕ → Walked
came_to right (granted p) n = walked.Arrived right (page p.0) n
came_to right (failed x) n = walked.Faulted x n

-- what a translation on s leaves: the verdict, the book's references and exits, and the book's next state. Where the bits of a granted
-- request are not to be set, they are set
pub record Translates (s : State) (r : Record) (m : List ℕ) (st : Bool) (a : ℕ) (k : Counted) (o : After Translated) : Type 0 where
  pub held : Holding
  pub memory : List ℕ
  pub right : Bool
  pub sets : Bool
  pub done : o ≡ yields (translation held k.exits (came_to right (verdict (config_of r) s.machine st a) k.references) sets) memory
  pub next : Inv (record { config = config_of r; machine = s.machine; book = k.book }) (with_held r held) memory
  pub own : sets ≡ false → is_granted (verdict (config_of r) s.machine st a) ≡ true → bits_set (config_of r) st s.machine (plain (config_of r) s.machine st a) ≡ s.machine
  pub chosen : sets ≡ true → (config_of r).bits ≡ true

-- ---- results

abbrev pub right_in : Result Fault Place → Bool
right_in (granted p) = p.1
right_in (failed x) = false

pub came_is : (x : Result Fault Place) (n : ℕ) → plain_walked x n ≡ came_to (right_in x) x n
came_is (granted p) n = refl
came_is (failed x) n = refl

came_exit : (right : Bool) (x : Result Fault Place) (n : ℕ) → exit_by (came_to right x n) ≡ host_exit x
came_exit right (granted p) n = refl
came_exit right (failed x) n = exit_is (failed x) n

lax_fills : (w right : Bool) (x : Result Fault Place) (n : ℕ) → lax_by w (came_to right x n) ≡ Fill w false
lax_fills w right (granted p) n = refl
lax_fills w right (failed x) n = refl

no : {A : Type 0} → ◌≡◌ {A = Bool} false true → A
no e = let z : ◌≡◌ {A = ℕ} 0 1 = cc in absurd (omega arith)

-- a held path serves in the unit as on the book
pub serves_is : (st : Bool) (d : ℕ) (h : Held) → serves st d (some h) ≡ serves_of st d h.right
unfolding serves_of
serves_is st zero h = refl
serves_is st (suc d) h = let z : eqb (suc d) 0 ≡ false = ne_eqb (suc d) 0 (λ e. omega arith) in rw z

module _ (s : State) (r : Record) (m : List ℕ) (inv : Inv s r m) (covered : All (Covered (config_of r) s.machine) s.book.held) (st : Bool) (a : ℕ) where
  abbrev c : Config
  c = config_of r

  abbrev mach : Machine
  mach = s.machine

  abbrev deep : ℕ
  deep = found.deep s r m inv a

  abbrev path : List ℕ
  path = found.path s r m inv a

  abbrev w : World
  w = world c mach

  abbrev ht : ℕ
  ht = host_top r

  abbrev hold : Holding
  hold = held_of r

  abbrev rt : ℕ
  rt = r.guest.root.0

  abbrev part : Trace Fault Place
  part = fills.part s r m inv st a

  abbrev all : Trace Fault Place
  all = plain c mach st a

  -- what the request owes
  abbrev owing : Option (ℕ × ℕ)
  owing = owes c w st all

  abbrev price : Counted
  price = request c mach s.book st a deep

  -- the invariant where nothing changed
  same_inv : Inv (record { config = c; machine = mach; book = s.book }) (with_held r hold) m
  unfolding head_held head_tables
  same_inv = at_inv inv

  -- ---- the direct part
  module _ (t : ℕ) (right : Bool) (low : deep ≤ c.levels) (here : InGuestArea c t) where
    abbrev rest : Trace Fault Place
    rest = trace w (direct_part c st deep (t, right) (address_indexes c a))

    same_walk : direct c st a deep t right ≡ direct_part c st deep (t, right) (address_indexes c a)
    same_walk = ap₂ (λ l js. levels c st l t right js) (zero-add deep) (sym (path_lower c deep a low))

    asks : Guest c (InGuestArea c) (area_real c) (direct c st a deep t right) (λ q. PlaceIn c (lower (0 + deep) (indexes deep (page_of a))) q.0)
    asks = levels_asks c (InGuestArea c) (area_real c) st (0 + deep) t right (indexes deep (page_of a)) (omega (arith, low)) (placed_frame c (InGuestArea c) (area_real c) (0 + deep) t here) (indexes_all deep (page_of a))

    pub direct_is : direct_of c ht m st a deep t right ≡ came_to (right_in rest.result) rest.result ((c.levels - deep) + rest.count)
    unfolding direct_of
    direct_is =
        ap (λ l. walked_of c ht m (c.levels - deep) (levels c st l t right (indexes deep (page_of a)))) (zero-add deep)
        ∙ table_walked c mach ht m (found.memory_stands s r m inv) (c.levels - deep) st deep t right (indexes deep (page_of a)) low here (indexes_all deep (page_of a))
        ∙ ap (λ js. plain_walked (trace w (levels c st deep t right js)).result ((c.levels - deep) + (trace w (levels c st deep t right js)).count)) (sym (path_lower c deep a low))
        ∙ came_is rest.result ((c.levels - deep) + rest.count)

    direct_lack : lacks (memory_world c ht m) st (trace (memory_world c ht m) (direct c st a deep t right)).reads ≡ lacks w st rest.reads
    direct_lack =
        walk_lacks c mach ht m (found.memory_stands s r m inv) (direct c st a deep t right) _ asks st
        ∙ ap (λ p. lacks w st (trace w p).reads) same_walk

    -- at depth 0 nothing is left to walk
    rest_page : deep ≡ 0 → rest ≡ ran 0 [] [] (t, right)
    unfolding indexes levels trace
    rest_page z =
        ap (λ p. trace w p) (sym same_walk) ∙ ap (λ d. trace w (levels c st (0 + d) t right (indexes d (page_of a)))) z

  -- what its bits say where the plain walk is granted
  checked_is : (q : Place) → all.result ≡ granted q → checked_of c ht m rt st a deep ≡ owing_by deep (lacks w st all.reads) (owed w st c.levels all.reads all.uses)
  checked_is q e =
      ap (λ x. checked_of c ht m x st a deep) inv.root
      ∙ whole_checked c mach ht m (found.memory_stands s r m inv) (found.root_small s r m inv) st a deep q e

  -- what is owed with bits on
  owes_on : c.bits ≡ true → owed w st c.levels all.reads all.uses ≡ owing
  unfolding owes
  owes_on on = sym (ap (λ b. cond b (owed w st c.levels all.reads all.uses) none) on)

  verdict_is : (o : Option (ℕ × ℕ)) (x : Result Fault Place) → owing ≡ o → all.result ≡ x → verdict c mach st a ≡ judged o x
  unfolding verdict
  verdict_is o x e k = ap₂ judged e k

  -- a walk's fault is the verdict
  verdict_fault : (x : Fault) → all.result ≡ failed x → verdict c mach st a ≡ failed x
  verdict_fault x e = verdict_is owing (failed x) refl e

  refused_own : {A : Type 0} (x : Fault) → verdict c mach st a ≡ failed x → is_granted (verdict c mach st a) ≡ true → A
  refused_own x e k = no (sym (ap (λ (y : Result Fault Place). is_granted y) e) ∙ k)

  -- the whole walk that lacks no bit has nothing to set
  own_whole : lacks w st all.reads ≡ false → bits_set c st mach all ≡ mach
  own_whole e = lacks_bits c st mach all e

  -- ---- a held path that serves
  module _ (h : Held) (low : deep ≤ c.levels) (held : find path s.book.held ≡ some h) (sv : serves_of st deep h.right ≡ true) where
    pub valid : Valid c mach h
    valid = find_all (Valid c mach) path h s.book.held inv.valid held

    at : h.path ≡ path
    at = found.find_path path s.book.held h held

    abbrev pub t : ℕ
    t = frames r m (onto [] path)

    frame_is : t ≡ valid.frame
    frame_is =
        ap (λ x. frames_at c ht m x (onto [] path)) inv.root ∙ ap (λ p. frames_at c ht m mach.root (onto [] p)) (sym at)
        ∙ valid_frame c mach ht m (found.memory_stands s r m inv) (found.root_small s r m inv) (found.few s r m inv) h valid

    pub held_in_lem : InGuestArea c t
    held_in_lem = subst (InGuestArea c) (sym frame_is) (inside_area c mach ht m (found.memory_stands s r m inv) (found.root_small s r m inv) (found.few s r m inv) h valid)

    -- its shadow part comes there, a store's too
    pub held_granted : part.result ≡ granted (t, valid.wide)
    unfolding again seen serves_of
    held_granted = go st sv
      where
        base : (trace w (walk c false mach.root path)).result ≡ granted (t, valid.wide)
        base =
            ap (λ p. (trace w (walk c false mach.root p)).result) (sym at) ∙ ap (λ (x : Seen Fault Place). x.result) valid.comes
            ∙ ap (λ f. granted (f, valid.wide)) (sym frame_is)

        stored : (d : ℕ) → deep ≡ d → cond (eqb d 0) h.right true ≡ true → (trace w (walk c true mach.root path)).result ≡ granted (t, valid.wide)
        stored zero q k =
            ap (λ (x : Trace Fault Place). x.result) (walk_serves w c mach.root path t (base ∙ ap (λ b. granted (t, b)) (right_wide c mach h valid k))) ∙ base
        stored (suc d) q k = ap (λ (x : Trace Fault Place). x.result) (walk_stores w c mach.root path (t, valid.wide) (omega (arith, q, low, found.path_length s r m inv a low)) (area_real c t held_in_lem) base) ∙ base

        go : (b : Bool) → cond (eqb deep 0) (not b || h.right) true ≡ true → (trace w (walk c b mach.root path)).result ≡ granted (t, valid.wide)
        go false k = base
        go true k = stored deep refl k

    -- the laws of a held path, by the path as the specification has it
    upper_is : upper c deep (address_indexes c a) ≡ path
    upper_is = path_upper c deep a low

    comes : (trace w (walk c st mach.root (upper c deep (address_indexes c a)))).result ≡ granted (t, valid.wide)
    comes = ap (λ p. (trace w (walk c st mach.root p)).result) upper_is ∙ held_granted

    its : Covered c mach h
    its = find_all (Covered c mach) path h s.book.held covered held

    ok : serves st deep (some h) ≡ true
    ok = serves_is st deep h ∙ sv

    abbrev rested : Trace Fault Place
    rested = rest t valid.wide low held_in_lem

    -- what the code walks on from the held entry, whose bit may be lower than the walk's right at depth 0
    right_or_page : (d : ℕ) → deep ≡ d → (P : Bool → Type 0) → (deep ≡ 0 → P h.right) → (h.right ≡ valid.wide → P h.right) → P h.right
    right_or_page zero z P f g = f z
    right_or_page (suc d) z P f g = g (right_deep c mach h valid (λ e. omega (arith, z, e, ap length at, found.path_length s r m inv a low)))

    walked_on : (ρ : Bool) × (direct_of c ht m st a deep t h.right ≡ came_to ρ rested.result ((c.levels - deep) + rested.count))
    walked_on = right_or_page deep refl (λ b. (ρ : Bool) × (direct_of c ht m st a deep t b ≡ came_to ρ rested.result ((c.levels - deep) + rested.count)))
        (λ z. (
          h.right,
          direct_is t h.right low held_in_lem
              ∙ ap (λ (x : Trace Fault Place). came_to (right_in x.result) x.result ((c.levels - deep) + x.count)) (rest_page t h.right low held_in_lem z)
              ∙ sym (ap (λ (x : Trace Fault Place). came_to h.right x.result ((c.levels - deep) + x.count)) (rest_page t valid.wide low held_in_lem z)),
        ))
        (λ e. (right_in rested.result, ap (direct_of c ht m st a deep t) e ∙ direct_is t valid.wide low held_in_lem))

    lack_on : lacks (memory_world c ht m) st (trace (memory_world c ht m) (direct c st a deep t h.right)).reads ≡ lacks w st rested.reads
    lack_on = right_or_page deep refl (λ b. lacks (memory_world c ht m) st (trace (memory_world c ht m) (direct c st a deep t b)).reads ≡ lacks w st rested.reads)
        (λ z. direct_lack t h.right low held_in_lem ∙ ap (λ (x : Trace Fault Place). lacks w st x.reads) (rest_page t h.right low held_in_lem z)
        ∙ sym (ap (λ (x : Trace Fault Place). lacks w st x.reads) (rest_page t valid.wide low held_in_lem z)))
        (λ e. ap (λ b. lacks (memory_world c ht m) st (trace (memory_world c ht m) (direct c st a deep t b)).reads) e ∙ direct_lack t valid.wide low held_in_lem)

    -- the laws of the book
    priced : price ≡ record { references = (c.levels - deep) + rested.count; exits = host_exit (verdict c mach st a); book = s.book }
    priced = served.served_request c mach st a deep (t, valid.wide) h low comes valid its (at ∙ sym upper_is) ok s.book (ap (λ p. find p s.book.held) upper_is ∙ held)

    whole_is : all.result ≡ rested.result
    unfolding plain
    whole_is = (direct_result w c st deep mach.root (address_indexes c a) (t, valid.wide) (indexes_length c.levels (page_of a)) low comes).0

    abbrev refs : ℕ
    refs = (c.levels - deep) + rested.count

    -- what it says, by what the code says of it
    serve : (ρ sets : Bool) (x : Result Fault Place) (e : ℕ) → verdict c mach st a ≡ x → host_exit x ≡ e
        → through_of c ht m hold rt st a deep t h.right ≡ translation hold e (came_to ρ x refs) sets
        → (sets ≡ false → is_granted (verdict c mach st a) ≡ true → bits_set c st mach all ≡ mach) → (sets ≡ true → c.bits ≡ true)
        → Translates s r m st a price (yields (through_of c ht m hold rt st a deep t h.right) m)
    serve ρ sets x e v k q own chosen = subst (λ y. Translates s r m st a y (yields (through_of c ht m hold rt st a deep t h.right) m)) (sym priced) (record {
      held = hold;
      memory = m;
      right = ρ;
      sets = sets;
      done = ap (λ y. yields y m) (q ∙ ap₂ (λ i y. translation hold i (came_to ρ y refs) sets) (sym k ∙ ap (λ (y : Result Fault Place). host_exit y) (sym v)) (sym v));
      next = same_inv;
      own = own;
      chosen = chosen;
    })

    pub served_path : Translates s r m st a price (yields (through_of c ht m hold rt st a deep t h.right) m)
    unfolding served_of
    served_path = go c.bits refl
      where
        ρ : Bool
        ρ = walked_on.0

        came : direct_of c ht m st a deep t h.right ≡ came_to walked_on.0 rested.result refs
        came = walked_on.1

        -- bits off
        off_path : c.bits ≡ false → Translates s r m st a price (yields (through_of c ht m hold rt st a deep t h.right) m)
        off_path off = serve ρ false rested.result (host_exit rested.result) (off_verdict c mach st a off ∙ whole_is) refl
            (through_off c ht m hold rt st a deep t h.right off
            ∙ ap (λ y. translation hold (0 + exit_by y) y false) came
            ∙ ap (λ i. translation hold i (came_to ρ rested.result refs) false) (zero-add (exit_by (came_to ρ rested.result refs)) ∙ came_exit ρ rested.result refs))
            (λ z g. off_bits c st mach all off) no

        on_path : c.bits ≡ true → (x : Result Fault Place) → rested.result ≡ x → (l : Bool) → lacks w st rested.reads ≡ l
            → Translates s r m st a price (yields (through_of c ht m hold rt st a deep t h.right) m)
        on_path on (failed x) e l k =
            serve ρ false (failed x) (host_exit {A = Place} (failed x)) (verdict_fault x (whole_is ∙ e)) refl
            (through_on c ht m hold rt st a deep t h.right l (walked.Faulted x refs) on (lack_on ∙ k) (came ∙ ap (λ y. came_to ρ y refs) e)
            ∙ ap (λ i. translation hold i (walked.Faulted x refs) false) (exit_is (failed x) refs))
            (λ z g. refused_own x (verdict_fault x (whole_is ∙ e)) g) no
        on_path on (granted q) e false k =
            serve ρ false (granted q) 0 (served.served_verdict c mach st a deep (t, valid.wide) h low comes valid its (at ∙ sym upper_is) ok (λ y z. k) ∙ e) refl
            (through_on c ht m hold rt st a deep t h.right false (walked.Arrived ρ (page q.0) refs) on (lack_on ∙ k) (came ∙ ap (λ y. came_to ρ y refs) e))
            (λ z g. served.served_machine c mach st a deep (t, valid.wide) h low comes valid its (at ∙ sym upper_is) ok k) no
        on_path on (granted q) e true k = by owing refl
          where
            judge : (o : Option (ℕ × ℕ)) → owing ≡ o
                → through_of c ht m hold rt st a deep t h.right ≡ settled_by hold refs (walked.Arrived walked_on.0 (page q.0) refs) (owing_by deep (lacks w st all.reads) o)
            judge o z =
                through_on c ht m hold rt st a deep t h.right true (walked.Arrived walked_on.0 (page q.0) refs) on (lack_on ∙ k) (came ∙ ap (λ y. came_to walked_on.0 y refs) e)
                ∙ ap (settled_by hold refs (walked.Arrived walked_on.0 (page q.0) refs)) (checked_is q (whole_is ∙ e) ∙ ap (owing_by deep (lacks w st all.reads)) (owes_on on ∙ z))

            by : (o : Option (ℕ × ℕ)) → owing ≡ o → Translates s r m st a price (yields (through_of c ht m hold rt st a deep t h.right) m)
            by none z = serve ρ (lacks w st all.reads) (granted q) 0 (verdict_is none (granted q) z (whole_is ∙ e)) refl (judge none z) (λ y g. own_whole y) (λ y. on)
            by (some o) z =
                let v = verdict_is (some o) (granted q) z (whole_is ∙ e) in
                serve ρ false (failed (HostReadOnly o.1)) 1 v refl
                (judge (some o) z ∙ ap (λ b. translation hold (one b) (walked.Faulted (HostReadOnly o.1) refs) false)
                (le-leb o.0 deep (served.owed_low c mach st a deep (t, valid.wide) h low comes valid its (at ∙ sym upper_is) ok q o e z)))
                (λ y g. refused_own (HostReadOnly o.1) v g) no

        go : (b : Bool) → c.bits ≡ b → Translates s r m st a price (yields (through_of c ht m hold rt st a deep t h.right) m)
        go false off = off_path off
        go true on = on_path on rested.result refl (lacks w st rested.reads) refl

  -- the walk of the shadow part over memory
  pub walked_is : walked_of c ht m 0 (walk c st rt path) ≡ plain_walked part.result part.count
  walked_is =
      ap (λ x. walked_of c ht m 0 (walk c st x path)) inv.root
      ∙ root_walked c mach ht m (found.memory_stands s r m inv) st mach.root path (found.root_small s r m inv) (indexes_all (c.levels - deep) (page_of a / 2 ^ (9 * deep)))

  -- ---- a path that does not serve
  module _ (low : deep ≤ c.levels) (unserved : serves st deep (find path s.book.held) ≡ false) where
    missing : serves st deep (find (upper c deep (address_indexes c a)) s.book.held) ≡ false
    missing = ap (λ p. serves st deep (find p s.book.held)) (path_upper c deep a low) ∙ unserved

    part_upper : trace w (walk c st mach.root (upper c deep (address_indexes c a))) ≡ part
    part_upper = ap (λ p. trace w (walk c st mach.root p)) (path_upper c deep a low)

    abbrev missed : After Translated
    missed = missed_of c ht m hold rt st a deep

    missed_is : (x : Walked) → plain_walked part.result part.count ≡ x → missed ≡ missed_by c ht m hold rt st a deep (fills.gs s r m inv st a) x
    unfolding root_trail
    missed_is x e = missed_by_lem c ht m hold rt st a deep _ refl ∙ ap (missed_by c ht m hold rt st a deep (fills.gs s r m inv st a)) (walked_is ∙ e)

    fault_path : (x : Fault) → part.result ≡ failed x → Translates s r m st a price missed
    unfolding plain
    fault_path x e =
        let f = shadow_fault w c st deep mach.root (address_indexes c a) x (indexes_length c.levels (page_of a)) low (ap (λ (y : Trace Fault Place). y.result) part_upper ∙ e) in
        let v = verdict_fault x f.0 in
        subst (λ k. Translates s r m st a k missed) (sym (missed_fault c mach s.book st a deep low missing x (ap (λ (y : Trace Fault Place). y.result) part_upper ∙ e))) (record {
          held = hold;
          memory = m;
          right = false;
          sets = false;
          done = missed_is (walked.Faulted x part.count) (ap (λ y. plain_walked y part.count) e)
              ∙ ap₂ (λ y n. yields (translation hold 1 (came_to false y n) false) m) (sym v) (ap (λ (y : Trace Fault Place). y.count) (sym part_upper) ∙ sym f.1);
          next = same_inv;
          own = λ z g. refused_own x v g;
          chosen = no;
        })

    -- ---- past its shadow part
    module _ (t : ℕ) (wide : Bool) (shadow-comes : part.result ≡ granted (t, wide)) where
      onward_here : InGuestArea c t
      onward_here = (fills.new_here s r m inv st a t wide low shadow-comes).1

      upper_comes : (trace w (walk c st mach.root (upper c deep (address_indexes c a)))).result ≡ granted (t, wide)
      upper_comes = ap (λ (y : Trace Fault Place). y.result) part_upper ∙ shadow-comes

      abbrev onward : Trace Fault Place
      onward = rest t wide low onward_here

      parts : (all.result ≡ onward.result) × (all.count ≡ part.count + onward.count)
      unfolding plain
      parts =
          let d = direct_result w c st deep mach.root (address_indexes c a) (t, wide) (indexes_length c.levels (page_of a)) low upper_comes in
          (d.0, d.1 ∙ ap (λ (y : Trace Fault Place). y.count + onward.count) part_upper)

      abbrev onward-refs : ℕ
      onward-refs = (c.levels - deep) + onward.count

      abbrev filled : State
      filled = fills.after s r m inv st a t wide low shadow-comes

      -- the book's price, by whether the request is granted where bits are on
      missed_priced : (quits : Bool) (x : Result Fault Place) → c.bits && not (is_granted (verdict c mach st a)) ≡ quits → onward.result ≡ x
          → price ≡ record { references = cond quits all.count onward-refs; exits = 1 + late_exit deep owing x; book = cond quits s.book filled.book }
      missed_priced quits x q e =
          missed_request c mach s.book st a deep low missing (t, wide) upper_comes
          ∙ ap₂ (λ b y. record {
            references = cond b all.count onward-refs;
            exits = 1 + late_exit deep owing y;
            book = cond b s.book (holding s.book (fill c (held_by (upper c deep (address_indexes c a)) (trace w (walk c st mach.root (upper c deep (address_indexes c a))))
                (right_of c w st deep (trace w (walk c st mach.root (upper c deep (address_indexes c a)))) wide)) (others c (upper c deep (address_indexes c a)) s.book.held)));
          }) q (parts.0 ∙ e)
          ∙ ap (λ p. record {
            references = cond quits all.count onward-refs;
            exits = 1 + late_exit deep owing x;
            book = cond quits s.book (holding s.book (fill c (held_by p (trace w (walk c st mach.root p)) (right_of c w st deep (trace w (walk c st mach.root p)) wide)) (others c p s.book.held)));
          }) (path_upper c deep a low)

      onward_came : (x : Result Fault Place) → onward.result ≡ x → direct_of c ht m st a deep t wide ≡ came_to (right_in x) x onward-refs
      onward_came x e = direct_is t wide low onward_here ∙ ap (λ y. came_to (right_in y) y onward-refs) e

      -- by the verdict on what the direct part came to
      abbrev ruled : Walked → Verdict → After Translated
      ruled = ruled_by c m hold (fills.gs s r m inv st a) a deep t

      missed_at : missed ≡ arrived_of c ht m hold rt (fills.gs s r m inv st a) st a deep part.count t wide
      missed_at =
          missed_is (walked.Arrived wide (page t) part.count) (ap (λ y. plain_walked y part.count) shadow-comes)
          ∙ ap (λ b. cond b (yields (translation hold 0 walked.Damaged false) m) (arrived_of c ht m hold rt (fills.gs s r m inv st a) st a deep part.count t wide)) (area_real c t onward_here)

      -- a fill that says x
      by_fill : (e : ℕ) (y : Result Fault Place) (sets : Bool) → verdict c mach st a ≡ y → 1 + late_exit deep owing onward.result ≡ e
          → c.bits && not (is_granted (verdict c mach st a)) ≡ false
          → missed ≡ filled_of c m hold (fills.gs s r m inv st a) a deep t (fills.right s r m inv st a t wide low shadow-comes) e (came_to (right_in y) y onward-refs) sets
          → (sets ≡ false → is_granted (verdict c mach st a) ≡ true → bits_set c st mach all ≡ mach) → (sets ≡ true → c.bits ≡ true) → Translates s r m st a price missed
      by_fill e y sets v l q k own chosen =
          let f = fills.fills s r m inv st a t wide low shadow-comes unserved e (came_to (right_in y) y onward-refs) sets in
          subst (λ z. Translates s r m st a z missed) (sym (missed_priced false onward.result q refl)) (record {
            held = f.held;
            memory = f.memory;
            right = right_in y;
            sets = sets;
            done = k ∙ f.done ∙ ap₂ (λ i z. yields (translation f.held i (came_to (right_in y) z onward-refs) sets) f.memory) (sym l) (sym v);
            next = f.next;
            own = own;
            chosen = chosen;
          })

      -- a request that is stopped, with bits on
      by_stop : (e : ℕ) (x : Fault) → verdict c mach st a ≡ failed x → 1 + late_exit deep owing onward.result ≡ 1 + e → c.bits ≡ true
          → missed ≡ yields (translation hold (1 + e) (walked.Faulted x (plainly c deep part.count onward-refs)) false) m → Translates s r m st a price missed
      by_stop e x v l on k =
          let q : c.bits && not (is_granted (verdict c mach st a)) ≡ true = ap₂ (λ b y. b && not (is_granted {A = Place} y)) on v in
          let n : plainly c deep part.count onward-refs ≡ all.count = omega (arith, parts.1) in
          subst (λ z. Translates s r m st a z missed) (sym (missed_priced true onward.result q refl)) (record {
            held = hold;
            memory = m;
            right = false;
            sets = false;
            done = k ∙ ap₂ (λ i j. yields (translation hold i (walked.Faulted x j) false) m) (sym l) n ∙ ap (λ y. yields (translation hold (1 + late_exit deep owing onward.result) (came_to false y all.count) false) m) (sym v);
            next = same_inv;
            own = λ z g. refused_own x v g;
            chosen = no;
          })

      missed_off : c.bits ≡ false → Translates s r m st a price missed
      missed_off off =
          let x = onward.result in
          let o : owing ≡ none = off_owes c w st all off in
          let v : verdict c mach st a ≡ x = off_verdict c mach st a off ∙ parts.0 in
          by_fill (1 + host_exit x) x false v (ap (λ y. 1 + y) (late x o)) (ap (λ b. b && not (is_granted (verdict c mach st a))) off)
          (missed_at ∙ arrived_off c ht m hold rt st a deep t wide (fills.gs s r m inv st a) part.count off
          ∙ ap (λ y. ruled y (lax_by wide y)) (onward_came x refl)
          ∙ ap (ruled (came_to (right_in x) x onward-refs)) (lax_fills wide (right_in x) x onward-refs)
          ∙ ap₂ (λ b i. filled_of c m hold (fills.gs s r m inv st a) a deep t b (1 + i) (came_to (right_in x) x onward-refs) false) (sym (fills.right_is s r m inv st a t wide low shadow-comes off)) (came_exit (right_in x) x onward-refs))
          (λ z g. off_bits c st mach all off) no
        where
          late : (y : Result Fault Place) → owing ≡ none → late_exit deep owing y ≡ host_exit y
          late (failed z) o = refl
          late (granted z) o = ap (λ u. late_exit deep u (granted z)) o

      strict_at : c.bits ≡ true → (x : Result Fault Place) → onward.result ≡ x
          → missed ≡ ruled (came_to (right_in x) x onward-refs) (strict_by c m (fills.gs s r m inv st a) st a deep part.count wide (checked_of c ht m rt st a deep) (came_to (right_in x) x onward-refs))
      strict_at on x e =
          missed_at ∙ arrived_on c ht m hold rt st a deep t wide (fills.gs s r m inv st a) part.count on
          ∙ ap (λ y. ruled y (strict_by c m (fills.gs s r m inv st a) st a deep part.count wide (checked_of c ht m rt st a deep) y)) (onward_came x e)

      missed_on : c.bits ≡ true → (x : Result Fault Place) → onward.result ≡ x → Translates s r m st a price missed
      missed_on on (failed x) e =
          by_stop (exit_by (walked.Faulted x onward-refs)) x (verdict_fault x (parts.0 ∙ e)) (ap (λ y. 1 + late_exit deep owing y) e ∙ ap (λ i. 1 + i) (sym (exit_is (failed x) onward-refs))) on
          (strict_at on (failed x) e)
      missed_on on (granted q) e = by owing refl
        where
          grant : (o : Option (ℕ × ℕ)) → owing ≡ o
              → missed ≡ ruled (walked.Arrived q.1 (page q.0) onward-refs) (cleared_by c m (fills.gs s r m inv st a) st a deep part.count wide onward-refs (owing_by deep (lacks w st all.reads) o))
          grant o z =
              strict_at on (granted q) e
              ∙ ap (λ y. ruled (walked.Arrived q.1 (page q.0) onward-refs) (cleared_by c m (fills.gs s r m inv st a) st a deep part.count wide onward-refs y))
              (checked_is q (parts.0 ∙ e) ∙ ap (owing_by deep (lacks w st all.reads)) (owes_on on ∙ z))

          by : (o : Option (ℕ × ℕ)) → owing ≡ o → Translates s r m st a price missed
          by none z =
              let v = verdict_is none (granted q) z (parts.0 ∙ e) in
              by_fill 1 (granted q) (lacks w st all.reads) v (ap₂ (λ u y. 1 + late_exit deep u y) z e) (ap₂ (λ b y. b && not (is_granted {A = Place} y)) on v)
              (grant none z ∙ ap (λ b. filled_of c m hold (fills.gs s r m inv st a) a deep t b 1 (walked.Arrived q.1 (page q.0) onward-refs) (lacks w st all.reads)) (fills.passes_is s r m inv st a t wide low shadow-comes on))
              (λ y g. own_whole y) (λ y. on)
          by (some o) z =
              by_stop (one (leb o.0 deep)) (HostReadOnly o.1) (verdict_is (some o) (granted q) z (parts.0 ∙ e)) (ap₂ (λ u y. 1 + late_exit deep u y) z e) on (grant (some o) z)

      pub past : Translates s r m st a price missed
      past = go c.bits refl
        where
          go : (b : Bool) → c.bits ≡ b → Translates s r m st a price missed
          go false off = missed_off off
          go true on = missed_on on onward.result refl

    pub missed_path : Translates s r m st a price missed
    missed_path = go part.result refl
      where
        go : (x : Result Fault Place) → part.result ≡ x → Translates s r m st a price missed
        go (failed x) e = fault_path x e
        go (granted p) e = past p.0 p.1 e

  -- ---- the whole translation

  -- a path within the depth of the tables
  path_translates : deep ≤ c.levels → Translates s r m st a price (found_by c ht m hold rt st a deep (found_of c m hold a deep))
  path_translates low = go (find path s.book.held) refl
    where
      go : (o : Option Held) → find path s.book.held ≡ o → Translates s r m st a price (found_by c ht m hold rt st a deep (found_of c m hold a deep))
      go none e =
          subst (λ x. Translates s r m st a price (found_by c ht m hold rt st a deep x)) (sym (found.found_none s r m inv a low e)) (missed_path low (ap (serves st deep) e))
      go (some h) e =
          subst (λ x. Translates s r m st a price (found_by c ht m hold rt st a deep x)) (sym (found.found_some s r m inv a low h e)) (by (serves_of st deep h.right) refl)
        where
          by : (b : Bool) → serves_of st deep h.right ≡ b
              → Translates s r m st a price (cond (serves_of st deep h.right) (yields (through_of c ht m hold rt st a deep (frames r m (onto [] path)) h.right) m) (missed_of c ht m hold rt st a deep))
          by true q = subst (λ b. Translates s r m st a price (cond b (yields (through_of c ht m hold rt st a deep (frames r m (onto [] path)) h.right) m) (missed_of c ht m hold rt st a deep))) (sym q) (served_path h low e q)
          by false q = subst (λ b. Translates s r m st a price (cond b (yields (through_of c ht m hold rt st a deep (frames r m (onto [] path)) h.right) m) (missed_of c ht m hold rt st a deep))) (sym q)
              (missed_path low (ap (serves st deep) e ∙ serves_is st deep h ∙ q))

  -- at depth N + 1 the whole plain walk; what is held stays as it is
  plain_translates : c.levels < deep → Translates s r m st a price (yields (unshadowed_of c ht m hold rt st a deep) m)
  unfolding plain_of request plain
  plain_translates high =
      subst (λ k. Translates s r m st a k (yields (unshadowed_of c ht m hold rt st a deep) m))
      (sym (ap (λ b. cond b (shadowed c w s.book st deep (address_indexes c a) (upper c deep (address_indexes c a)) (serves st deep (find (upper c deep (address_indexes c a)) s.book.held)) owing
      (trace w (walk c st mach.root (upper c deep (address_indexes c a)))) (trace w (walk c st mach.root (upper c deep (address_indexes c a)))).result) (unshadowed s.book all.count (verdict c mach st a))) (lt-leb deep c.levels high)))
      (go c.bits refl)
    where
      all_walked : walked_of c ht m 0 (whole c st rt a) ≡ plain_walked all.result all.count
      all_walked =
          ap (λ x. walked_of c ht m 0 (whole c st x a)) inv.root
          ∙ whole_walked c mach ht m (found.memory_stands s r m inv) (found.root_small s r m inv) st a

      says : (ρ sets : Bool) (x : Result Fault Place) (e : ℕ) → verdict c mach st a ≡ x → host_exit x ≡ e → unshadowed_of c ht m hold rt st a deep ≡ translation hold e (came_to ρ x all.count) sets
          → (sets ≡ false → is_granted (verdict c mach st a) ≡ true → bits_set c st mach all ≡ mach) → (sets ≡ true → c.bits ≡ true)
          → Translates s r m st a (unshadowed s.book all.count (verdict c mach st a)) (yields (unshadowed_of c ht m hold rt st a deep) m)
      says ρ sets x e v k q own chosen = record {
        held = hold;
        memory = m;
        right = ρ;
        sets = sets;
        done = ap (λ y. yields y m) (q ∙ ap₂ (λ i y. translation hold i (came_to ρ y all.count) sets) (sym k ∙ ap (λ (y : Result Fault Place). host_exit y) (sym v)) (sym v));
        next = same_inv;
        own = own;
        chosen = chosen;
      }

      off_walk : c.bits ≡ false → Translates s r m st a (unshadowed s.book all.count (verdict c mach st a)) (yields (unshadowed_of c ht m hold rt st a deep) m)
      off_walk off =
          let x = all.result in
          let y = all_walked ∙ came_is x all.count in
          says (right_in x) false x (host_exit x) (off_verdict c mach st a off) refl
          (unshadowed_off c ht m hold rt st a deep off ∙ ap (λ z. translation hold (exit_by z) z false) y
          ∙ ap (λ i. translation hold i (came_to (right_in x) x all.count) false) (came_exit (right_in x) x all.count))
          (λ z g. off_bits c st mach all off) no

      on_walk : c.bits ≡ true → (x : Result Fault Place) → all.result ≡ x → Translates s r m st a (unshadowed s.book all.count (verdict c mach st a)) (yields (unshadowed_of c ht m hold rt st a deep) m)
      on_walk on (failed x) e =
          says false false (failed x) (host_exit {A = Place} (failed x)) (verdict_fault x e) refl
          (unshadowed_on c ht m hold rt st a deep (walked.Faulted x all.count) on (all_walked ∙ ap (λ y. plain_walked y all.count) e)
          ∙ ap (λ i. translation hold i (walked.Faulted x all.count) false) (exit_is (failed x) all.count))
          (λ z g. refused_own x (verdict_fault x e) g) no
      on_walk on (granted q) e = by owing refl
        where
          judge : (o : Option (ℕ × ℕ)) → owing ≡ o
              → unshadowed_of c ht m hold rt st a deep ≡ settled_by hold all.count (walked.Arrived q.1 (page q.0) all.count) (owing_by deep (lacks w st all.reads) o)
          judge o z =
              unshadowed_on c ht m hold rt st a deep (walked.Arrived q.1 (page q.0) all.count) on (all_walked ∙ ap (λ y. plain_walked y all.count) e)
              ∙ ap (settled_by hold all.count (walked.Arrived q.1 (page q.0) all.count)) (checked_is q e ∙ ap (owing_by deep (lacks w st all.reads)) (owes_on on ∙ z))

          by : (o : Option (ℕ × ℕ)) → owing ≡ o → Translates s r m st a (unshadowed s.book all.count (verdict c mach st a)) (yields (unshadowed_of c ht m hold rt st a deep) m)
          by none z = says q.1 (lacks w st all.reads) (granted q) 0 (verdict_is none (granted q) z e) refl (judge none z) (λ y g. own_whole y) (λ y. on)
          by (some o) z =
              let v = verdict_is (some o) (granted q) z e in
              let level : o.0 ≤ c.levels = served.owed_level w st c.levels all.reads all.uses o (owes_on on ∙ z) in
              says false false (failed (HostReadOnly o.1)) 1 v refl
              (judge (some o) z ∙ ap (λ b. translation hold (one b) (walked.Faulted (HostReadOnly o.1) all.count) false)
              (le-leb o.0 deep (omega (arith, level, high))))
              (λ y g. refused_own (HostReadOnly o.1) v g) no

      go : (b : Bool) → c.bits ≡ b → Translates s r m st a (unshadowed s.book all.count (verdict c mach st a)) (yields (unshadowed_of c ht m hold rt st a deep) m)
      go false off = off_walk off
      go true on = on_walk on all.result refl

  -- the translation of any address
  pub translates : Translates s r m st a price (translated_of r m st a)
  unfolding translated_of translate_of
  translates =
      subst (λ x. Translates s r m st a price (translate_of c ht m hold rt st a x)) (sym (depth_is s r m inv a)) (go (ltb c.levels deep) refl)
    where
      go : (b : Bool) → ltb c.levels deep ≡ b
          → Translates s r m st a price (cond (ltb c.levels deep) (yields (unshadowed_of c ht m hold rt st a deep) m) (found_by c ht m hold rt st a deep (found_of c m hold a deep)))
      go true q = rw q (plain_translates (ltb-true c.levels deep q))
      go false q = rw q (path_translates (ltb-false c.levels deep q))
