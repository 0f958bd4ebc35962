-- A forecast follows the specification's step. With bits off the keys in its room and the shadow tables, while they are kept, stand for the
-- paths that the book holds as the list is served, and each address costs what the book's load costs; with bits on it is refused.
-- Assumes nothing.
use mathlib.Core.Path.{◌≡◌, refl, sym, ap, ap₂, ◌∙◌, subst}
use Prim.Native.Nat.{ℕ, suc, ◌+◌, ◌-◌, ◌<◌, ◌≤◌, max}
use native.Mathlib.Omega.{arith}
use mathlib.Core.Bool.{Bool, true, false, not, ◌&&◌, ◌||◌, cond, false≢true, or-false, or-true}
use mathlib.Core.List.{List, [], ◌∷◌, ◌++◌, map}
use mathlib.Core.Option.{Option, none, some}
use lib.Dec.{eqb, leb, ltb}
use lib.ListN.{length, set, replicate, length-set, length-replicate}
use borrow.Author.Tests.{lt-ltb, le-ltb, ltb-true, ltb-false, le-leb, lt-leb, leb-true}
use Rattle.spec.specs.declared.Fault.{Fault}
use Rattle.spec.specs.declared.Answer.{Answer}
use Rattle.spec.specs.declared.Answer.TheVariants as answer
use Rattle.spec.specs.Answer.{line}
use Rattle.spec.specs.Config.{Config}
use Rattle.spec.specs.Prefix.{All, same, any, distinct, tables_of}
use Rattle.spec.specs.Walk.{World, Trace, Result, granted, failed, trace}
use Rattle.spec.specs.Plain.{Place, walk, upper, direct_part}
use Rattle.spec.specs.Machine.{Machine, world}
use Rattle.spec.specs.Book.{Held, Book, depth, find, paths, shadow_tables}
use Rattle.spec.specs.Choice.{entered, observed}
use Rattle.spec.specs.Call.{forecast, address_indexes, plain, machine_step}
use Rattle.spec.specs.Count.{Counted, one, host_exit, serves, depth_in, request, windowed, book_step}
use Rattle.spec.specs.Bytes.{aligned}
use Rattle.spec.specs.Refusal.{address_fits, forecast_room, tests, refusal, first_failed}
use Rattle.spec.specs.Forecast.{Figures, served, served_by, figures_of}
use Rattle.spec.specs.Run.{State, figures_line, answered, step}
use Rattle.spec_laws.proofs.Lists.{all_any}
use Rattle.spec_laws.proofs.Indexes.{indexes_all}
use Rattle.spec_laws.proofs.Choice.{none_held}
use Rattle.spec.specs.Entry.{page_of}
use Rattle.spec_laws.proofs.Added.{standing, any_append, tables_added, tables_alone, standing_append}
use Rattle.spec_laws.proofs.Keeps.{right_off, InGuestArea, area_real}
use Rattle.spec_laws.proofs.Covered.{Covered}
use Rattle.spec_laws.proofs.Price.{Price, shadow_price, plain_price, price, Priced, load_priced, filled, serves_load}
use Rattle.area_laws.proofs.Paths.{onto}
use Rattle.layout.specs.declared.HostWalk.TheVariants as host
use Rattle.walk.specs.Memory.{walked_of}
use Rattle.walk.proofs.Stands.{plain_walked, root_walked}
use Rattle.marks.specs.Key.{key_at}
use Rattle.translate.specs.declared.Held.{Held as Holding}
use Rattle.translate.specs.Translate.{translation, exit_by, direct_of, served_of, serves_of, found_of, plain_of, turned_depth}
use Rattle.forecast.specs.declared.Sum.{Sum}
use Rattle.forecast.specs.declared.Paths.{Paths}
use Rattle.forecast.specs.declared.Outlook.{Outlook}
use Rattle.forecast.specs.declared.Next.{Next}
use Rattle.forecast.specs.declared.Next.TheVariants.{Go, Damaged}
use Rattle.forecast.specs.Forecast.{newest, met_from, tables_with, filled_of, added, paid, held_after, missed_by, missed_of, found_by, kept_of, load_of, address_of, onward, list_of, start, forecast_of}
use Rattle.forecast.proofs.Keys.{key_path, PathKey, key_path_lem, path_key, any_keys, met_standing, newest_set}
use Rattle.drops_laws.proofs.Tables.{tables_used}
use Rattle.words.specs.After.{After, yields}
use Rattle.record.specs.declared.Record.{Record}
use Rattle.record.specs.Record.{config_of}
use Rattle.calls.specs.Calls.{host_top, held_of, root_of, keys_of, depth_at, forecast_call, ended, refused}
use Rattle.claims.proofs.Invariant.{frames, Inv, Follows, at}
use Rattle.claims.proofs.Paths.{path_upper, exit_is}
use Rattle.claims.proofs.Moves.{at_inv, follows_no}
use Rattle.claims.proofs.Found as found
use Rattle.claims.proofs.Depths.{turned_is}
use Rattle.claims.proofs.Fills as fills
use Rattle.claims.proofs.Translates as translates
use Rattle.claims.proofs.Requests.{follows_by, judged_by_lem}

-- a load that came to a word or a fault is paid for, whichever it is
paid_is : (s : Sum) (p : Paths) (h : Holding) (e n : ℕ) (x : Result Fault Place)
    → paid s p (translation h e (plain_walked x n) false) ≡ Go (record { sum = added s n e p.used; paths = p })
unfolding paid
paid_is s p h e n (granted y) = refl
paid_is s p h e n (failed y) = refl

-- a path is held exactly if it is found, which is when it serves a load
found_held : (p : List ℕ) (hs : List Held) (o : Option Held) → find p hs ≡ o → any (same p) (paths hs) ≡ serves false 1 o
found_held p hs o e = sym (serves_load 1 p hs) ∙ ap (serves false 1) e

-- the tables in use at the start are among those counted
figures_from : (c : Config) (m : Machine) (xs : List ℕ) (b : Book) → shadow_tables b.held ≤ (figures_of c m xs b).tables
unfolding figures_of
figures_from c m [] b = omega arith
figures_from c m (a ∷ xs) b = omega arith

-- with bits off no entry needs its bits
covered_off : (c : Config) (m : Machine) (hs : List Held) → c.bits ≡ false → All (Covered c m) hs
covered_off c m hs off = all_any (Covered c m) hs (λ h. record { five = λ on. absurd (false≢true (sym off ∙ on)); six = λ on. absurd (false≢true (sym off ∙ on)) })

-- the record's own number of shadow tables in use is the book's
pub used_is : (s : State) (r : Record) (m : List ℕ) → Inv s r m → r.pools.shadow.used ≡ shadow_tables s.book.held
used_is s r m inv = tables_used inv.shadow (found.held_entries s r m inv) ∙ ap distinct (found.propers_longer s.book.held)

-- a load moves the window alone: marks stay too
none_marks : (c : Config) (b : Book) → (observed c none b).marks ≡ b.marks
unfolding observed
none_marks c b = go b.choice
  where
    go : (t : Bool) → (cond t (entered none b) b).marks ≡ b.marks
    go true = refl
    go false = refl

-- ---- with bits off
module _ (s : State) (r : Record) (m : List ℕ) (inv : Inv s r m) (off : (config_of r).bits ≡ false) where
  abbrev c : Config
  c = config_of r

  abbrev mach : Machine
  mach = s.machine

  abbrev w : World
  w = world c mach

  abbrev ht : ℕ
  ht = host_top r

  abbrev hold : Holding
  hold = held_of r

  -- the paths held before the list
  abbrev ps : List (List ℕ)
  ps = paths s.book.held

  covered : All (Covered c mach) s.book.held
  covered = covered_off c mach s.book.held off

  seven : c.levels < 8
  seven = omega (arith, (found.rules s r m inv).sizes.deep)

  -- the room and the shadow tables, while they are kept, have just the paths qs
  record Keeps (ks : List ℕ) (p : Paths) (qs : List (List ℕ)) : Type 0 where
    pub long : length ks ≡ forecast_room
    pub keys : All (PathKey c.levels) (newest ks p.count)
    pub held : qs ≡ map (key_path c.levels) (newest ks p.count) ++ cond p.kept ps []
    pub used : p.used ≡ tables_of qs

  -- an address comes to the outlook that the book's load k leads to
  record Advances (o : Outlook) (k : Counted) (e : After Next) : Type 0 where
    pub next : Paths
    pub room : List ℕ
    pub done : e ≡ yields (Go (record { sum = added o.sum k.references k.exits (shadow_tables k.book.held); paths = next })) room
    pub keeps : Keeps room next (paths k.book.held)
    pub few : next.count ≤ suc o.paths.count
    pub marks : k.book.marks ≡ s.book.marks

  -- figures go by held paths and marks, not by the window
  windowed_advances : (o : Outlook) (k : Counted) (e : After Next) → Advances o k e → Advances o (windowed c none k) e
  windowed_advances o k e v =
      let same_held : k.book.held ≡ (observed c none k.book).held = sym (none_held c k.book) in
      record {
        next = v.next;
        room = v.room;
        done = v.done ∙ ap (λ hs. yields (Go (record { sum = added o.sum k.references k.exits (shadow_tables hs); paths = v.next })) v.room) same_held;
        keeps = subst (λ hs. Keeps v.room v.next (paths hs)) same_held v.keeps;
        few = v.few;
        marks = none_marks c k.book ∙ v.marks;
      }

  module _ (b : Book) (ks : List ℕ) (o : Outlook) (kept : Keeps ks o.paths (paths b.held)) (same-marks : b.marks ≡ s.book.marks) (free : o.paths.count < forecast_room) (a : ℕ) where
    abbrev deep : ℕ
    deep = found.deep s r m inv a

    abbrev path : List ℕ
    path = found.path s r m inv a

    abbrev is : List ℕ
    is = address_indexes c a

    abbrev key : ℕ
    key = key_at c.levels deep a

    abbrev k : Counted
    k = request c mach b false a deep

    abbrev part : Trace Fault Place
    part = trace w (walk c false mach.root path)

    -- what was paid is the price, and what is held after it the book's
    advances : (p : List ℕ) (x : Price) → Priced c b p x k → (q : Paths) (n : List ℕ) (e : After Next)
        → e ≡ yields (Go (record { sum = added o.sum x.references x.exits q.used; paths = q })) n
        → Keeps n q (cond x.fills (filled c p (paths b.held)) (paths b.held)) → q.count ≤ suc o.paths.count → Advances o k e
    advances p x v q n e d g l = record {
      next = q;
      room = n;
      done = d
          ∙ ap₂ (λ y z. yields (Go (record { sum = added o.sum y z q.used; paths = q })) n) (sym v.references) (sym v.exits)
          ∙ ap (λ t. yields (Go (record { sum = added o.sum k.references k.exits t; paths = q })) n) (g.used ∙ ap tables_of (sym v.held));
      keeps = subst (Keeps n q) (sym v.held) g;
      few = l;
      marks = v.marks ∙ same-marks;
    }

    -- ---- depth N + 1

    plain_advances : c.levels < deep → Advances o k (load_of c ht m hold (root_of r) ks o a deep)
    unfolding load_of plain_of price plain
    plain_advances high =
        let p = trace w (walk c false mach.root is) in
        let q : walked_of c ht m 0 (walk c false (root_of r) is) ≡ plain_walked p.result p.count =
        ap (λ x. walked_of c ht m 0 (walk c false x is)) inv.root
        ∙ root_walked c mach ht m (found.memory_stands s r m inv) false mach.root is (found.root_small s r m inv) (indexes_all c.levels (page_of a)) in
        let t : plain_of c ht m hold (root_of r) false a ≡ translation hold (host_exit p.result) (plain_walked p.result p.count) false =
        ap (λ x. translation hold (exit_by x) x false) q ∙ ap (λ x. translation hold x (plain_walked p.result p.count) false) (exit_is p.result p.count) in
        let u = trace w (walk c false mach.root (upper c deep is)) in
        let x : price c mach false a deep (any (same (upper c deep is)) (paths b.held)) ≡ plain_price p =
        ap (λ y. cond y (shadow_price c mach false deep is (any (same (upper c deep is)) (paths b.held)) u.count u.result) (plain_price p)) (lt-leb deep c.levels high) in
        advances (upper c deep is) (plain_price p) (subst (λ y. Priced c b (upper c deep is) y k) x (load_priced c mach b a deep off)) o.paths ks _
        (ap (λ y. cond y (yields (paid o.sum o.paths (plain_of c ht m hold (root_of r) false a)) ks) (found_by c ht m hold (root_of r) ks o a deep (kept_of c m hold o.paths.kept a deep))) (lt-ltb c.levels deep high)
        ∙ ap (λ y. yields (paid o.sum o.paths y) ks) t ∙ ap (λ y. yields y ks) (paid_is o.sum o.paths hold (host_exit p.result) p.count p.result))
        kept (omega arith)

    -- ---- a depth that has a path
    module _ (low : deep ≤ c.levels) where
      path_is : upper c deep is ≡ path
      path_is = path_upper c deep a low

      key_is : key_path c.levels key ≡ path
      key_is = key_path_lem c deep a low seven ∙ path_is

      -- the price, by the walk of the shadow part
      priced : (h : Bool) (x : Result Fault Place) → any (same path) (paths b.held) ≡ h → part.result ≡ x → Priced c b path (shadow_price c mach false deep is h part.count x) k
      unfolding price
      priced h x e q =
          subst (λ y. Priced c b path y k)
          (ap (λ t. cond t (shadow_price c mach false deep is (any (same path) (paths b.held)) part.count part.result) (plain_price (plain c mach false a))) (le-leb deep c.levels low)
          ∙ ap₂ (λ t y. shadow_price c mach false deep is t part.count y) e q)
          (subst (λ u. Priced c b u (cond (leb deep c.levels) (shadow_price c mach false deep is (any (same u) (paths b.held)) (trace w (walk c false mach.root u)).count (trace w (walk c false mach.root u)).result) (plain_price (plain c mach false a))) k)
          path_is (load_priced c mach b a deep off))

      -- a load through a path that leads to t, e exits so far
      served_paid : (t : ℕ) (right : Bool) → InGuestArea c t → (p : Paths) (e : ℕ)
          → let d = trace w (direct_part c false deep (t, right) is) in
          paid o.sum p (served_of c ht m hold false a deep t right e) ≡ Go (record { sum = added o.sum ((c.levels - deep) + d.count) (e + host_exit d.result) p.used; paths = p })
      unfolding served_of
      served_paid t right here p e =
          let d = trace w (direct_part c false deep (t, right) is) in
          let n = (c.levels - deep) + d.count in
          let came : direct_of c ht m false a deep t right ≡ plain_walked d.result n =
          translates.direct_is s r m inv covered false a t right low here ∙ sym (translates.came_is d.result n) in
          ap (λ x. paid o.sum p (translation hold (e + exit_by x) x false)) came
          ∙ ap (λ x. paid o.sum p (translation hold (e + x) (plain_walked d.result n) false)) (exit_is d.result n)
          ∙ paid_is o.sum p hold (e + host_exit d.result) n d.result

      -- ---- held before the list, and kept
      found_advances : (h : Held) → find path s.book.held ≡ some h → o.paths.kept ≡ true
          → Advances o k (found_by c ht m hold (root_of r) ks o a deep (kept_of c m hold o.paths.kept a deep))
      unfolding kept_of serves_of
      found_advances h e q =
          let t = frames r m (onto [] path) in
          let sv = serves_any deep h.right in
          let here = translates.held_in_lem s r m inv covered false a h low e sv in
          let comes : part.result ≡ granted (t, h.right) =
          translates.held_granted s r m inv covered false a h low e sv ∙ ap (λ y. granted (t, y)) (sym (right_off c mach h (translates.valid s r m inv covered false a h low e sv) off)) in
          let x : any (same path) (paths b.held) ≡ true =
          ap (any (same path)) kept.held ∙ any_append (same path) (map (key_path c.levels) (newest ks o.paths.count)) (cond o.paths.kept ps [])
          ∙ ap (λ y. any (same path) (map (key_path c.levels) (newest ks o.paths.count)) || any (same path) (cond y ps [])) q
          ∙ ap (λ y. any (same path) (map (key_path c.levels) (newest ks o.paths.count)) || y) (found_held path s.book.held (some h) e)
          ∙ or-true (any (same path) (map (key_path c.levels) (newest ks o.paths.count))) in
          advances path (shadow_price c mach false deep is true part.count (granted (t, h.right))) (priced true (granted (t, h.right)) x comes) o.paths ks _
          (ap (λ y. found_by c ht m hold (root_of r) ks o a deep (cond y (found_of c m hold a deep) (host.Absent 0))) q
          ∙ ap (found_by c ht m hold (root_of r) ks o a deep) (found.found_some s r m inv a low h e)
          ∙ ap (λ y. yields y ks) (served_paid t h.right here o.paths 0))
          kept (omega arith)
        where
          serves_any : (d : ℕ) (right : Bool) → serves_of false d right ≡ true
          serves_any d right = go (eqb d 0)
            where
              go : (y : Bool) → cond y (not false || right) true ≡ true
              go true = refl
              go false = refl

      -- ---- not held before the list, or not any more; n of its tables stand in the shadow tables, while they are kept
      module _ (n : ℕ) (stand : n ≡ standing path (cond o.paths.kept ps [])) (lost : any (same path) (cond o.paths.kept ps []) ≡ false) where
        abbrev known : Bool
        known = any (eqb key) (newest ks o.paths.count)

        known_is : any (same path) (paths b.held) ≡ known
        known_is =
            ap (any (same path)) kept.held ∙ any_append (same path) (map (key_path c.levels) (newest ks o.paths.count)) (cond o.paths.kept ps [])
            ∙ ap₂ (λ x y. x || y) (ap (λ p. any (same p) (map (key_path c.levels) (newest ks o.paths.count))) (sym key_is) ∙ any_keys c.levels key (newest ks o.paths.count) (path_key c deep a low seven) kept.keys) lost
            ∙ or-false known

        -- the tables that the fill makes are the book's
        tables_are : tables_with c o.paths.used (newest ks o.paths.count) n a deep ≡ tables_of (path ∷ paths b.held)
        tables_are =
            let qs = map (key_path c.levels) (newest ks o.paths.count) in
            let rest = cond o.paths.kept ps [] in
            let met : met_from (newest ks o.paths.count) c.levels a deep (c.levels - deep) ≡ standing path qs =
            met_standing c a deep (newest ks o.paths.count) low seven kept.keys ∙ ap (λ p. standing p qs) path_is in
            let all : standing path (paths b.held) ≡ max (standing path qs) (standing path rest) = ap (standing path) kept.held ∙ standing_append path qs rest in
            let long = found.path_length s r m inv a low in
            let more = tables_added path (paths b.held) in
            let turned : max n (met_from (newest ks o.paths.count) c.levels a deep (c.levels - deep)) ≡ standing path (paths b.held) = ap₂ max stand met ∙ max_turn (standing path rest) (standing path qs) ∙ sym all in
            ap₂ (λ u l. u + (c.levels - deep - l)) kept.used turned ∙ ap (λ l. tables_of (paths b.held) + (l - standing path (paths b.held))) (sym long) ∙ sym more
          where
            max_turn : (x y : ℕ) → max x y ≡ max y x
            max_turn x y = omega arith

        fill_keeps : let f = filled_of c ks o.paths (tables_with c o.paths.used (newest ks o.paths.count) n a deep) key (c.levels - deep) in
            Keeps f.memory f.result (filled c path (paths b.held)) × (f.result.count ≤ suc o.paths.count)
        unfolding filled_of newest
        fill_keeps =
            subst (λ t. let f = cond {A = After Paths} (leb t c.shadows) (yields (record { used = t; kept = o.paths.kept; count = o.paths.count + 1 }) (set ks o.paths.count key)) (yields (record { used = c.levels - deep; kept = false; count = 1 }) (set ks 0 key)) in
            Keeps f.memory f.result (filled c path (paths b.held)) × (f.result.count ≤ suc o.paths.count)) (sym tables_are) (go (leb (tables_of (path ∷ paths b.held)) c.shadows))
          where
            go : (t : Bool)
                → let f = cond {A = After Paths} t (yields (record { used = tables_of (path ∷ paths b.held); kept = o.paths.kept; count = o.paths.count + 1 }) (set ks o.paths.count key)) (yields (record { used = c.levels - deep; kept = false; count = 1 }) (set ks 0 key)) in
                Keeps f.memory f.result (cond t (path ∷ paths b.held) (path ∷ [])) × (f.result.count ≤ suc o.paths.count)
            go true =
                let e = newest_set ks o.paths.count key (omega (arith, kept.long, free)) in (
                  record {
                    long = length-set ks o.paths.count key ∙ kept.long;
                    keys = subst (All (PathKey c.levels)) (sym e) (path_key c deep a low seven, kept.keys);
                    held = ap₂ (λ p qs. p ∷ qs) (sym key_is) kept.held ∙ ap (λ qs. map (key_path c.levels) qs ++ cond o.paths.kept ps []) (sym e);
                    used = refl;
                  },
                  omega arith,
                )
            go false =
                let e = newest_set ks 0 key (omega (arith, kept.long)) in (
                  record {
                    long = length-set ks 0 key ∙ kept.long;
                    keys = subst (All (PathKey c.levels)) (sym e) (path_key c deep a low seven, tt);
                    held = ap (λ p. p ∷ []) (sym key_is) ∙ ap (λ qs. map (key_path c.levels) qs ++ []) (sym e);
                    used = sym (tables_alone path ∙ found.path_length s r m inv a low);
                  },
                  omega arith,
                )

        after_keeps : (h : Bool) → known ≡ h
            → let f = held_after c ks o.paths h n a deep in
            Keeps f.memory f.result (cond (not h) (filled c path (paths b.held)) (paths b.held)) × (f.result.count ≤ suc o.paths.count)
        unfolding held_after
        after_keeps true e = (kept, omega arith)
        after_keeps false e = fill_keeps

        missed_advances : Advances o k (missed_of c ht m hold (root_of r) ks o n a deep)
        unfolding missed_of
        missed_advances = go part.result refl
          where
            came : walked_of c ht m 0 (walk c false (root_of r) path) ≡ plain_walked part.result part.count
            came = translates.walked_is s r m inv covered false a

            go : (x : Result Fault Place) → part.result ≡ x → Advances o k (missed_by c ht m hold ks o known n a deep (walked_of c ht m 0 (walk c false (root_of r) path)))
            go (failed x) e =
                advances path (shadow_price c mach false deep is known part.count (failed x)) (priced known (failed x) known_is e) o.paths ks _
                (ap (missed_by c ht m hold ks o known n a deep) (came ∙ ap (λ y. plain_walked y part.count) e)) kept (omega arith)
            go (granted p) e =
                let t = p.0 in
                let right = p.1 in
                let f = held_after c ks o.paths known n a deep in
                let here = (fills.new_here s r m inv false a t right low e).1 in
                let g = after_keeps known refl in
                advances path (shadow_price c mach false deep is known part.count (granted p)) (priced known (granted p) known_is e) f.result f.memory _
                (ap (missed_by c ht m hold ks o known n a deep) (came ∙ ap (λ y. plain_walked y part.count) e)
                ∙ ap (λ x. cond x (yields Damaged ks) (yields (paid o.sum f.result (served_of c ht m hold false a deep t right (one (not known)))) f.memory)) (area_real c t here)
                ∙ ap (λ y. yields y f.memory) (served_paid t right here f.result (one (not known))))
                g.0 g.1

      -- by what the shadow tables hold of the path, while they are kept
      path_advances : Advances o k (load_of c ht m hold (root_of r) ks o a deep)
      unfolding load_of kept_of standing
      path_advances =
          subst (λ y. Advances o k (cond y (yields (paid o.sum o.paths (plain_of c ht m hold (root_of r) false a)) ks) (found_by c ht m hold (root_of r) ks o a deep (kept_of c m hold o.paths.kept a deep))))
          (sym (le-ltb c.levels deep low)) (go o.paths.kept refl (find path s.book.held) refl)
        where
          absent : (n : ℕ) → kept_of c m hold o.paths.kept a deep ≡ host.Absent n → n ≡ standing path (cond o.paths.kept ps []) → any (same path) (cond o.paths.kept ps []) ≡ false
              → Advances o k (found_by c ht m hold (root_of r) ks o a deep (kept_of c m hold o.paths.kept a deep))
          absent n e f g = subst (λ y. Advances o k (found_by c ht m hold (root_of r) ks o a deep y)) (sym e) (missed_advances n f g)

          go : (y : Bool) → o.paths.kept ≡ y → (h : Option Held) → find path s.book.held ≡ h
              → Advances o k (found_by c ht m hold (root_of r) ks o a deep (kept_of c m hold o.paths.kept a deep))
          go false q h e = absent 0 (ap (λ y. cond y (found_of c m hold a deep) (host.Absent 0)) q) (sym (ap (λ y. standing path (cond y ps [])) q)) (ap (λ y. any (same path) (cond y ps [])) q)
          go true q (some h) e = found_advances h e q
          go true q none e =
              absent (standing path ps) (ap (λ y. cond y (found_of c m hold a deep) (host.Absent 0)) q ∙ found.found_none s r m inv a low e)
              (sym (ap (λ y. standing path (cond y ps [])) q)) (ap (λ y. any (same path) (cond y ps [])) q ∙ found_held path s.book.held none e)

    load_advances : Advances o k (load_of c ht m hold (root_of r) ks o a deep)
    load_advances = go (ltb c.levels deep) refl
      where
        go : (y : Bool) → ltb c.levels deep ≡ y → Advances o k (load_of c ht m hold (root_of r) ks o a deep)
        go true e = plain_advances (ltb-true c.levels deep e)
        go false e = path_advances (ltb-false c.levels deep e)

    -- ---- any address

    address_advances : (address_fits c a && aligned a 8) ≡ true → Advances o (served c mach a b) (address_of c ht m hold (root_of r) (keys_of r) ks o a)
    unfolding served refusal tests book_step address_of
    address_advances e =
        subst (λ y. Advances o (served_by c mach a b (first_failed ((y, 4) ∷ []))) (cond y (load_of c ht m hold (root_of r) ks o a (turned_depth c ht m (root_of r) a (depth_at r a))) (yields (Go o) ks))) (sym e)
        (subst (λ ms. Advances o (windowed c none (request c mach b false a (depth_in c mach a (depth ms is)))) (load_of c ht m hold (root_of r) ks o a (turned_depth c ht m (root_of r) a (depth_at r a)))) (sym same-marks)
        (subst (λ d. Advances o (windowed c none k) (load_of c ht m hold (root_of r) ks o a d)) (sym (turned_is s r m inv a)) (windowed_advances o k _ load_advances)))

  -- ---- the list

  -- from this outlook on, which stands for the book b, the list comes to the figures of serving it on b
  abbrev ComesTo : List ℕ → List ℕ → Outlook → Book → Type 0
  ComesTo xs ks o b =
      Keeps ks o.paths (paths b.held) → b.marks ≡ s.book.marks → o.paths.count + length xs ≤ forecast_room → o.paths.used ≤ o.sum.tables
      → let f = figures_of c mach xs b in
      list_of c ht m hold (root_of r) (keys_of r) ks o xs ≡ answer.Figures (o.sum.references + f.references) (o.sum.exits + f.exits) (max o.sum.tables f.tables)

  same_figures : (x u y v z t : ℕ) → x ≡ u → y ≡ v → z ≡ t → answer.Figures x y z ≡ answer.Figures u v t
  same_figures x u y v z t p q e = ap₂ (λ i j. answer.Figures i j z) p q ∙ ap (answer.Figures u v) e

  -- an address that meets 4
  unserved : (a : ℕ) (b : Book) → (address_fits c a && aligned a 8) ≡ false → served c mach a b ≡ record { references = 0; exits = 0; book = b }
  unfolding served refusal tests
  unserved a b e = ap (λ y. served_by c mach a b (first_failed ((y, 4) ∷ []))) e

  passed_over : (a : ℕ) (ks : List ℕ) (o : Outlook) → (address_fits c a && aligned a 8) ≡ false → address_of c ht m hold (root_of r) (keys_of r) ks o a ≡ yields (Go o) ks
  unfolding address_of
  passed_over a ks o e = ap (λ y. cond y (load_of c ht m hold (root_of r) ks o a (turned_depth c ht m (root_of r) a (depth_at r a))) (yields (Go o) ks)) e

  one_more : (a : ℕ) (xs ks : List ℕ) (o : Outlook) (b : Book) → ((ks : List ℕ) (o : Outlook) (b : Book) → ComesTo xs ks o b) → ComesTo (a ∷ xs) ks o b
  unfolding list_of figures_of
  one_more a xs ks o b ih kept e l most = go (address_fits c a && aligned a 8) refl
    where
      k : Counted
      k = served c mach a b

      f : Figures
      f = figures_of c mach xs k.book

      on : After Next → Answer
      on n = onward n.result (λ u. list_of c ht m hold (root_of r) (keys_of r) n.memory u xs)

      start_tables : o.paths.used ≡ shadow_tables b.held
      start_tables = kept.used

      go : (y : Bool) → (address_fits c a && aligned a 8) ≡ y
          → on (address_of c ht m hold (root_of r) (keys_of r) ks o a)
          ≡ answer.Figures (o.sum.references + (k.references + f.references)) (o.sum.exits + (k.exits + f.exits)) (max o.sum.tables (max (shadow_tables b.held) f.tables))
      go true q =
          let v = address_advances b ks o kept e (omega (arith, l)) a q in
          let from = figures_from c mach xs k.book in
          ap on v.done
          ∙ ih v.room (record { sum = added o.sum k.references k.exits (shadow_tables k.book.held); paths = v.next }) k.book v.keeps v.marks (omega (arith, v.few, l)) (omega (arith, v.keeps.used))
          ∙ same_figures _ _ _ _ _ _ (omega arith) (omega arith) (omega (arith, from, start_tables, most))
      go false q =
          let same-book : k ≡ record { references = 0; exits = 0; book = b } = unserved a b q in
          ap on (passed_over a ks o q)
          ∙ ih ks o b kept e (omega (arith, l)) most
          ∙ same_figures _ _ _ _ _ _ (omega arith) (omega arith) (omega (arith, start_tables, most))
          ∙ ap (λ (y : Counted). answer.Figures (o.sum.references + (y.references + (figures_of c mach xs y.book).references)) (o.sum.exits + (y.exits + (figures_of c mach xs y.book).exits)) (max o.sum.tables (max (shadow_tables b.held) (figures_of c mach xs y.book).tables))) (sym same-book)

  figures_are : (xs ks : List ℕ) (o : Outlook) (b : Book) → ComesTo xs ks o b
  unfolding list_of figures_of
  figures_are [] ks o b kept e l most = same_figures _ _ _ _ _ _ (omega arith) (omega arith) (omega (arith, kept.used, most))
  figures_are (a ∷ xs) ks o b kept e l most = one_more a xs ks o b (figures_are xs) kept e l most

  -- before the first address: no key in the room, and the shadow tables have the book's paths
  begins_so : Keeps (replicate forecast_room 0) (record { used = r.pools.shadow.used; kept = true; count = 0 }) ps
  unfolding newest
  begins_so = record {
    long = length-replicate {A = ℕ} forecast_room 0;
    keys = tt;
    held = refl;
    used = used_is s r m inv;
  }

  forecast_figures : (xs : List ℕ) → length xs ≤ forecast_room
      → line (forecast_of c ht m hold (root_of r) (keys_of r) xs) ≡ figures_line (figures_of c mach xs s.book)
  unfolding forecast_of
  forecast_figures xs few =
      let o = start r.pools.shadow.used in
      let told = figures_are xs (replicate forecast_room 0) o s.book begins_so refl (omega (arith, few)) (omega arith) in
      let from = figures_from c mach xs s.book in
      ap line (told ∙ same_figures _ _ _ _ _ _ (omega arith) (omega arith) (omega (arith, from, begins_so.used)))

-- ---- the call, whatever the bits
pub forecast_follows : (s : State) (r : Record) (m : List ℕ) → Inv s r m → (xs : List ℕ) → Follows (forecast xs) s r (forecast_call r m xs)
unfolding forecast_call step refusal tests machine_step book_step
forecast_follows s r m inv xs = judged_by_lem (forecast xs) s r m _ inv (go (config_of r).bits (leb (length xs) forecast_room) refl refl)
  where
    says : Answer
    says = forecast_of (config_of r) (host_top r) m (held_of r) (root_of r) (keys_of r) xs

    refuses : (b d : Bool) → (config_of r).bits ≡ b → leb (length xs) forecast_room ≡ d
        → refusal (config_of r) (forecast xs) s.machine s.book ≡ first_failed ((not b, 16) ∷ (d, 14) ∷ [])
    refuses b d p q = ap₂ (λ x y. first_failed ((not x, 16) ∷ (y, 14) ∷ [])) p q

    go : (b d : Bool) → (config_of r).bits ≡ b → leb (length xs) forecast_room ≡ d
        → Follows (forecast xs) s r (cond (not b) (cond d (ended r says m) (refused r 14 m)) (refused r 16 m))
    go true d p q = follows_no (forecast xs) 16 inv (refuses true d p q)
    go false false p q = follows_no (forecast xs) 14 inv (refuses false false p q)
    go false true p q =
        follows_by (forecast xs) s (at (config_of r) s) r r says (figures_line (figures_of (config_of r) s.machine xs s.book)) m
        (ap (answered (forecast xs) (at (config_of r) s)) (refuses false true p q)) refl (forecast_figures s r m inv p xs (leb-true (length xs) forecast_room q)) (at_inv inv)
