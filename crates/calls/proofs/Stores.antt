-- A store with the automatic choice off is the plain one; with it on, it goes by its charge.
use mathlib.Core.Path.{◌≡◌, refl, sym, ap, ◌∙◌}
use mathlib.Core.Logic.{◌≢◌}
use borrow.Author.Tests.{eq-eqb, ne_eqb}
use mathlib.Core.Bool.{Bool, true, false, cond}
use mathlib.Core.List.{List}
use Prim.Native.Nat.{ℕ, ◌-◌}
use lib.Dec.{eqb}
use Rattle.spec.specs.declared.Fault.{Fault}
use Rattle.spec.specs.declared.Answer.{Answer}
use Rattle.spec.specs.declared.Answer.TheVariants as answer
use Rattle.spec.specs.Config.{Config}
use Rattle.spec.specs.Entry.{word_of}
use Rattle.words.specs.After.{After, yields}
use Rattle.shadow.specs.Watch.{watched_of}
use Rattle.walk.specs.declared.Walked.{Walked}
use Rattle.walk.specs.declared.Walked.TheVariants as walked
use Rattle.charge.specs.declared.Charge.{Charge}
use Rattle.charge.specs.declared.Charge.TheVariants as charge
use Rattle.charge.specs.Charge.{charged_of}
use Rattle.charge.proofs.Laws.{SmallCharge, charged_small}
use Rattle.choice.specs.declared.Tally.{Tally}
use Rattle.choice.specs.Window.{requested_of}
use Rattle.translate.specs.declared.Held.{Held}
use Rattle.translate.specs.declared.Translated.{Translated}
use Rattle.translate.specs.Translate.{translation, translate_of}
use Rattle.request.specs.declared.Served.{Served}
use Rattle.request.specs.Access as access
use Rattle.request.specs.Access.{serving, settled_of, bytes_in, store_from, store_of, plainly_of}
use Rattle.request.proofs.Depths.{turn_none, depth_kept}
use Rattle.request.proofs.Held.{Plain, page_reached, plainly_one, plainly_stores}
use Rattle.record.specs.declared.Head.{Head}
use Rattle.record.specs.declared.Record.{Record}
use Rattle.record.specs.Record.{config_of, record_by, head_tables, head_tally}
use Rattle.calls.specs.Calls.{host_top, root_of, held_of, head_held, depth_at, request_depth, served_by, tally_after, windowed_by, charged_in, charge_at, plain_store, store_by, stored_by, stored_of, translated_of, ended, refused, turn_in, finished_by, settled_turn}
use Rattle.entry.specs.declared.HostPhysical.{HostPhysical}
use Rattle.automatic.specs.declared.Moved.{Moved}
use Rattle.automatic.specs.Moves.{Move, moved, moved_in, kept_by}
use Rattle.calls.specs.declared.Owed.{Owed}
use Rattle.calls.specs.declared.Turn.{Turn}

-- ---- off

off_requested : (t : Tally) → t.on ≡ 0 → requested_of t ≡ t
unfolding requested_of
off_requested t e = rw (eq-eqb t.on 0 e)

off_tally : (x : Answer) (t : Tally) → t.on ≡ 0 → tally_after x t ≡ t
off_tally answer.Ok t e = cc (off_requested t e)
off_tally (answer.Value v r n) t e = cc (off_requested t e)
off_tally (answer.Done r n) t e = cc (off_requested t e)
off_tally (answer.Faulted x r n) t e = cc (off_requested t e)
off_tally (answer.Refused n) t e = cc (off_requested t e)
off_tally (answer.Figures r n k) t e = cc (off_requested t e)

module _ (r : Record) (off : r.guest.choice.tally.on ≡ 0) where
  off_window : (s : After Served) → served_by r s ≡ windowed_by r s
  unfolding head_held head_tables head_tally
  off_window s i = yields (record {
    unit = record {
      layout = r.layout;
      pools = record { host = r.pools.host; shadow = s.result.held.pool };
      guest = record {
        root = r.guest.root;
        held = s.result.held.frame;
        marks = r.guest.marks;
        choice = record { tally = sym (off_tally s.result.answer r.guest.choice.tally off) i; ring = r.guest.choice.ring; order = r.guest.choice.order };
      };
    };
    answer = s.result.answer;
  }) s.memory

  pub off_store : (a w v : ℕ) (o : After Translated) (x : Walked) → plain_store r a w v o ≡ stored_by r a w v o x
  unfolding charge_at
  off_store a w v o (walked.Arrived y t n) = rw (eq-eqb r.guest.choice.tally.on 0 off)
  off_store a w v o (walked.Faulted x n) = refl
  off_store a w v o walked.Damaged = refl

  pub off_call : (m : List ℕ) (a w v : ℕ)
      → served_by r (store_of (config_of r) (host_top r) m (held_of r) (root_of r) a w (request_depth r m a) v) ≡ stored_of r m a w v
  unfolding store_of translated_of
  off_call m a w v =
      off_window (store_from (config_of r) (host_top r) (root_of r) (held_of r) a w v (translated_of r m true a)) ∙ off_store a w v (translated_of r m true a) (translated_of r m true a).result.walked

-- ---- on

pub charge_small : (c : Config) (h : Held) (m : List ℕ) (t i : ℕ) → SmallCharge (c.levels - 1) (charged_in c h m t i)
unfolding charged_in
charge_small c h m t i = go (watched_of c m h.pool.fresh t)
  where
    go : (b : Bool) → SmallCharge (c.levels - 1) (cond b (charged_of c m h.pool.fresh t i) charge.Nobody)
    go true = charged_small c m h.pool.fresh t i
    go false = tt

-- the common case: its frame is not watched, so it is charged to nobody
pub plain_stored : (r : Record) (m : List ℕ) (a w v : ℕ) (n : List ℕ) → yields true n ≡ plainly_of (config_of r) m (held_of r) a w (depth_at r a) v
    → windowed_by r (serving (held_of r) (answer.Done r.layout.levels 0) n) ≡ stored_of r m a w v
unfolding charge_at charged_in translated_of store_of
plain_stored r m a w v n k =
    let c = config_of r in
    let p = plainly_one c m (held_of r) a w (depth_at r a) v n k in
    let went = page_reached c (host_top r) m (held_of r) (root_of r) true a (depth_at r a) p.page p.writable p.none p.found in
    let kept : request_depth r m a ≡ depth_at r a = depth_kept c (host_top r) m (held_of r) (root_of r) a (depth_at r a) (turn_none (depth_at r a) p.none) in
    ap (windowed_by r) (plainly_stores c (host_top r) m (held_of r) (root_of r) a w (depth_at r a) v n k)
    ∙ ap (plain_store r a w v) went
    ∙ ap (store_by r a w v (came p) p.page c.levels) (nobody (eqb r.guest.choice.tally.on 0) ∙ ap (λ b. cond (eqb r.guest.choice.tally.on 0) charge.Nobody (cond b (charged_of c m (held_of r).pool.fresh p.page.0 (word_of a)) charge.Nobody)) (sym p.unwatched))
    ∙ ap (λ (o : After Translated). stored_by r a w v o o.result.walked) (sym (ap (translate_of c (host_top r) m (held_of r) (root_of r) true a) kept ∙ went))
  where
    came : Plain (config_of r) m (held_of r) a w (depth_at r a) v n → After Translated
    came p = yields (translation (held_of r) 0 (walked.Arrived p.writable p.page r.layout.levels) false) m

    nobody : (b : Bool) → charge.Nobody ≡ cond b charge.Nobody charge.Nobody
    nobody true = refl
    nobody false = refl

-- a store with the choice on, by its charge
pub on_store : (r : Record) → r.guest.choice.tally.on ≢ 0 → (a w v : ℕ) (o : After Translated) (t : HostPhysical) (y : Bool) (n : ℕ) (x : Charge)
    → o.result.walked ≡ walked.Arrived y t n → charged_in (config_of r) o.result.held o.memory t.0 (word_of a) ≡ x
    → store_by r a w v o t n x ≡ stored_by r a w v o o.result.walked
unfolding charge_at
on_store r on a w v o t y n x came e =
    ap (store_by r a w v o t n) (sym e ∙ ap (λ b. cond b charge.Nobody (charged_in (config_of r) o.result.held o.memory t.0 (word_of a))) (sym (ne_eqb r.guest.choice.tally.on 0 on)))
    ∙ ap (stored_by r a w v o) (sym came)

-- a store that came to no page
pub not_arrived : (r : Record) (a w v : ℕ) (o : After Translated) (x : Fault) (n : ℕ) → o.result.walked ≡ walked.Faulted x n
    → windowed_by r (serving o.result.held (answer.Faulted x n o.result.exits) o.memory) ≡ stored_by r a w v o o.result.walked
not_arrived r a w v o x n came =
    ap (λ y. windowed_by r (access.store_by (config_of r) (held_of r) a w v (settled_of (config_of r) (host_top r) (root_of r) true a o.result.sets) o y)) (sym came)
    ∙ ap (λ y. stored_by r a w v o y) (sym came)

pub not_walked : (r : Record) (a w v : ℕ) (o : After Translated) → o.result.walked ≡ walked.Damaged → refused r 11 o.memory ≡ stored_by r a w v o o.result.walked
unfolding head_held head_tables head_tally
not_walked r a w v o came =
    ap (λ y. windowed_by r (access.store_by (config_of r) (held_of r) a w v (settled_of (config_of r) (host_top r) (root_of r) true a o.result.sets) o y)) (sym came)
    ∙ ap (λ y. stored_by r a w v o y) (sym came)

-- ---- a store that is charged, in parts

-- after the charge and the marks that it moved; held: what was kept where they met damage
pub settled_turn_lem : (h : Head) (place ring order : List ℕ) (a w v : ℕ) (x : Owed) (e : ℕ) (q : Record) (y : After Move) (o : After Moved) (place₁ ring₁ order₁ : List ℕ)
    → q.guest.marks.place ≡ place → q.guest.choice.ring ≡ ring → q.guest.choice.order ≡ order
    → yields (moved_in place₁ ring₁ order₁ o.result) o.memory ≡ kept_by q y
    → let t = settled_turn h a w v x e o in
    let r = record_by h place ring order in
    yields (turn_in place₁ ring₁ order₁ t.result) t.memory
    ≡ finished_by r a w v x.page.0 x.reads e (settled_of (config_of r) (host_top r) (root_of r) true a x.sets) y
settled_turn_lem h place ring order a w v x e q y o place₁ ring₁ order₁ ps rs os k = go y.result.ok refl k
  where
    r : Record
    r = record_by h place ring order

    set : List ℕ → List ℕ
    set = settled_of (config_of r) (host_top r) (root_of r) true a x.sets

    z : After Move
    z = yields (moved_in place₁ ring₁ order₁ o.result) o.memory

    turn : Bool → After Turn
    turn b =
        cond b (yields (record { head = o.result.head; answer = answer.Done x.reads e }) (bytes_in (set o.memory) x.page.0 a w v))
        (yields (record { head = h; answer = answer.Refused 11 }) o.memory)

    go : (b : Bool) → y.result.ok ≡ b → z ≡ cond b y (moved q false y.memory)
        → yields (turn_in place₁ ring₁ order₁ (turn o.result.ok).result) (turn o.result.ok).memory
        ≡ cond b (ended y.result.unit (answer.Done x.reads e) (bytes_in (set y.memory) x.page.0 a w v)) (refused r 11 y.memory)
    go true f k =
        let ok : o.result.ok ≡ true = ap (λ (m : After Move). m.result.ok) k ∙ f in
        rw ok (ap (λ (m : After Move). ended m.result.unit (answer.Done x.reads e) (bytes_in (set m.memory) x.page.0 a w v)) k)
    go false f k =
        let ok : o.result.ok ≡ false = ap (λ (m : After Move). m.result.ok) k in
        let p : place₁ ≡ place = ap (λ (m : After Move). m.result.unit.guest.marks.place) k ∙ ps in
        let s : ring₁ ≡ ring = ap (λ (m : After Move). m.result.unit.guest.choice.ring) k ∙ rs in
        let t : order₁ ≡ order = ap (λ (m : After Move). m.result.unit.guest.choice.order) k ∙ os in
        rw (ok, p, s, t) (ap (λ (m : After Move). refused r 11 m.memory) k)
