-- The bits of a walk over memory, read in the tables that it hands out.
use mathlib.Core.Path.{◌≡◌, refl, sym, ap, ap₂, ◌∙◌}
use Prim.Native.Nat.{ℕ, ◌+◌, ◌-◌, ◌≤◌}
use native.Mathlib.Nat.{zero-add}
use native.Mathlib.Omega.{arith}
use mathlib.Core.Bool.{Bool, true, false, not, ◌&&◌, cond, and-false}
use mathlib.Core.List.{List}
use mathlib.Core.Option.{Option, none, some}
use Rattle.spec.specs.declared.Fault.{Fault}
use Rattle.spec.specs.Config.{Config}
use Rattle.spec.specs.Entry.{indexes, page_of}
use Rattle.spec.specs.Walk.{World, Trace, granted, trace}
use Rattle.spec.specs.Plain.{Place, levels}
use Rattle.spec.specs.Bits.{lacks, owed}
use lib.Dec.{eqb, leb}
use borrow.Author.Tests.{eqb-true, eq-eqb, ne_eqb}
use Rattle.spec_laws.proofs.Indexes.{indexes_length}
use Rattle.spec_laws.proofs.Lists.{all_any}
use Rattle.spec_laws.proofs.Local.{SameWord}
use Rattle.spec_laws.proofs.SetBits.{lacks_owed, lacks_on}
use Rattle.layout.specs.Layout.{page}
use Rattle.walk.specs.declared.Walked.{Walked}
use Rattle.walk.specs.declared.Walked.TheVariants as walked
use Rattle.walk.proofs.Laws.{loop_end}
use Rattle.walk.specs.Memory.{memory_world, walked_of, trail_from, trail_of, root_trail}
use Rattle.accessed.specs.Entries.{seen_of, seen_entries, words_of, owed_by, owed_of}
use Rattle.accessed.proofs.Walks.{arrived_granted, walk_owed, trail_entries, root_entries}
use Rattle.translate.specs.declared.Checked.TheVariants as checked
use Rattle.translate.specs.Translate.{ExitsOnce, translation, exit_by, path_indexes, whole, direct, direct_of, served_of, plain_of, owing_by, checked_by, checked_of, debt_by, entries_of, judged_by, through_of, bitless_of, lacking_by, lacking_of, unshadowed_of, strict_by, lax_by, verdict_of, ruled_by, arrived_of, missed_by, missed_of}
use Rattle.translate.specs.declared.Held.{Held}
use Rattle.translate.specs.declared.Translated.{Translated}
use Rattle.translate.specs.declared.Verdict.{Verdict}
use Rattle.walk.specs.declared.Trail.{Trail}
use Rattle.words.specs.After.{After}
use Rattle.translate.proofs.Fits.{exit_small}
use Rattle.spec_laws.proofs.Counts.{one_most}

module _ (c : Config) (ht : ℕ) (m : List ℕ) where
  abbrev w : World
  w = memory_world c ht m

  -- a word is the same in both worlds
  words_lack : (st : Bool) (xs : List (ℕ × ℕ)) → lacks (words_of m) st xs ≡ lacks w st xs
  unfolding memory_world
  words_lack st xs = lacks_on w (words_of m) st xs (all_any (SameWord w (words_of m)) xs (λ x. refl))

  -- ---- the whole walk
  module _ (root : ℕ) (st : Bool) (a : ℕ) (t : ℕ) (v : Bool) (n : ℕ) (deep : c.levels ≤ 8)
      (arrived : walked_of c ht m 0 (whole c st root a) ≡ walked.Arrived v (page t) n) where
    abbrev r : Trace Fault Place
    r = trace w (whole c st root a)

    abbrev places : List ℕ
    places = (root_trail c ht m st root (indexes c.levels (page_of a))).tables

    grant : r.result ≡ granted (t, v)
    grant = arrived_granted c ht m 0 (whole c st root a) t v n arrived

    pub whole_entries : seen_entries places (seen_of c places c.levels (page_of a)) ≡ r.reads
    whole_entries = root_entries c ht m st root c.levels (page_of a) (t, v) deep (omega arith) grant

    -- what the entries in its tables say is what the walk's bits say
    pub whole_checked : (d : ℕ) → entries_of c ht m root st d (seen_entries places (seen_of c places c.levels (page_of a))) ≡ checked_of c ht m root st a d
    unfolding entries_of checked_of owed_of memory_world
    whole_checked d =
        ap (entries_of c ht m root st d) whole_entries
        ∙ ap₂ (λ b o. cond b (debt_by d (owed_by o)) (checked.Clear false)) (words_lack st r.reads)
        (sym (walk_owed w c st root (indexes c.levels (page_of a)) (t, v) c.levels (omega (arith, indexes_length c.levels (page_of a))) grant))
        ∙ by (lacks w st r.reads) refl
        ∙ sym (ap (checked_by d (lacks w st r.reads) (owed w st c.levels r.reads r.uses)) arrived)
      where
        owing : (o : Option (ℕ × ℕ)) → debt_by d (owed_by o) ≡ checked_by d true o (walked.Arrived v (page t) n)
        owing none = refl
        owing (some o) = refl

        by : (b : Bool) → lacks w st r.reads ≡ b
            → cond b (debt_by d (owed_by (owed w st c.levels r.reads r.uses))) (checked.Clear false) ≡ checked_by d b (owed w st c.levels r.reads r.uses) (walked.Arrived v (page t) n)
        by true e = owing (owed w st c.levels r.reads r.uses)
        by false e = ap (λ o. checked_by d false o (walked.Arrived v (page t) n)) (sym (lacks_owed w st c.levels r.reads r.uses e))

  -- ---- the direct part
  module _ (st : Bool) (a d t : ℕ) (v : Bool) (u : ℕ) (x : Bool) (n : ℕ) (deep : d ≤ 8)
      (arrived : direct_of c ht m st a d t v ≡ walked.Arrived x (page u) n) where
    direct_grant : (trace w (direct c st a d t v)).result ≡ granted (u, x)
    unfolding direct_of
    direct_grant = arrived_granted c ht m (c.levels - d) (direct c st a d t v) u x n arrived

    pub direct_lacks : let ts = (trail_of c ht m (c.levels - d) st (0 + d) t v (indexes d (page_of a))).tables in
        lacks (words_of m) st (seen_entries ts (seen_of c ts d (page_of a))) ≡ lacks w st (trace w (direct c st a d t v)).reads
    direct_lacks =
        ap (lacks (words_of m) st) (trail_entries c ht m (c.levels - d) st t v d (0 + d) (page_of a) (u, x) deep (omega arith) direct_grant)
        ∙ words_lack st (trace w (direct c st a d t v)).reads

-- ---- ranges

-- what stops a request by its bits costs an exit at most
pub checked_once : (c : Config) (ht : ℕ) (m : List ℕ) (root : ℕ) (st : Bool) (a d : ℕ) → ExitsOnce (checked_of c ht m root st a d)
unfolding checked_of
checked_once c ht m root st a d =
    let w = memory_world c ht m in
    let t = trace w (whole c st root a) in
    go (lacks w st t.reads) (owed w st c.levels t.reads t.uses) (walked_of c ht m 0 (whole c st root a))
  where
    owing : (l : Bool) (o : Option (ℕ × ℕ)) → ExitsOnce (owing_by d l o)
    owing l none = tt
    owing l (some o) = one_most (leb o.0 d)

    go : (l : Bool) (o : Option (ℕ × ℕ)) (r : Walked) → ExitsOnce (checked_by d l o r)
    go l o (walked.Arrived v p n) = owing l o
    go l o (walked.Faulted x n) = exit_small (walked.Faulted x n)
    go l o walked.Damaged = tt

-- ---- by the choice

pub lacking_none : (r : Walked) → lacking_by false r ≡ false
lacking_none (walked.Arrived w p n) = refl
lacking_none (walked.Faulted x n) = refl
lacking_none walked.Damaged = refl

pub not_not : (b : Bool) → not (not b) ≡ b
not_not true = refl
not_not false = refl

pub chosen_off : (b : ℕ) → b ≡ 0 → not (eqb b 0) ≡ false
chosen_off b e = ap not (eq-eqb b 0 e)

pub chosen_on : (b : ℕ) → (b ≡ 0 → ⊥) → not (eqb b 0) ≡ true
chosen_on b n = ap not (ne_eqb b 0 n)

module _ (c : Config) (ht : ℕ) (m : List ℕ) (st : Bool) (a d t : ℕ) (v : Bool) where
  abbrev pub lack : Bool
  lack = lacks (memory_world c ht m) st (trace (memory_world c ht m) (direct c st a d t v)).reads

  -- the trail of the direct part: where it came to, and what the entries in its tables lack
  module _ (x : Trail) (is : x ≡ trail_of c ht m (c.levels - d) st (0 + d) t v (indexes d (page_of a))) where
    pub trail_came : x.walked ≡ direct_of c ht m st a d t v
    unfolding direct_of trail_from
    trail_came = ap (λ (y : Trail). y.walked) is

    abbrev lackIn : List ℕ → Bool
    lackIn ts = lacks (words_of m) st (seen_entries ts (seen_of c ts d (page_of a)))

    pub trail_lacking : d ≤ 8 → lacking_by (c.bits && lackIn x.tables) x.walked ≡ lacking_of c ht m st a d t v
    unfolding lacking_of
    trail_lacking deep = go x.walked (sym trail_came) ∙ ap (lacking_by (c.bits && lack)) trail_came
      where
        go : (r : Walked) → direct_of c ht m st a d t v ≡ r → lacking_by (c.bits && lackIn x.tables) r ≡ lacking_by (c.bits && lack) r
        go (walked.Arrived y p n) e =
            ap (λ l. c.bits && l) (ap (λ (z : Trail). lackIn z.tables) is ∙ direct_lacks c ht m st a d t v p.0 y n deep e)
        go (walked.Faulted y n) e = refl
        go walked.Damaged e = refl

  -- at depth 0 there is no table to read, and the page is what the path leads to
  pub direct_page : d ≡ 0 → direct_of c ht m st a d t v ≡ walked.Arrived v (page t) c.levels
  unfolding direct_of
  direct_page e =
      let all : c.levels - d ≡ c.levels = omega (arith, e) in
      loop_end c ht m (c.levels - d) st 0 d t (page_of a) v e ∙ ap (walked.Arrived v (page t)) all

  -- where no bit is to be looked at, none lacks
  pub bitless_none : bitless_of c d ≡ true → lacking_of c ht m st a d t v ≡ false
  unfolding bitless_of lacking_of indexes levels lacks trace
  bitless_none e = by (eqb d 0) refl c.bits refl
    where
      nothing : (c.bits && lack) ≡ false → lacking_by (c.bits && lack) (direct_of c ht m st a d t v) ≡ false
      nothing z = ap (λ b. lacking_by b (direct_of c ht m st a d t v)) z ∙ lacking_none (direct_of c ht m st a d t v)

      by : (z : Bool) → eqb d 0 ≡ z → (b : Bool) → c.bits ≡ b → lacking_by (c.bits && lack) (direct_of c ht m st a d t v) ≡ false
      by true y b k =
          let no : lack ≡ false = ap (λ j. lacks (memory_world c ht m) st (trace (memory_world c ht m) (direct c st a j t v)).reads) (eqb-true d 0 y) in
          nothing (ap (λ l. c.bits && l) no ∙ and-false c.bits)
      by false y false k = nothing (ap (λ b. b && lack) k)
      by false y true k =
          let no : false ≡ true = sym (ap₂ (λ z b. cond z true (not b)) y k) ∙ e in
          let z : ◌≡◌ {A = ℕ} 0 1 = ap (λ b. cond b 1 0) no in absurd (omega arith)

-- past the shadow part
module _ (c : Config) (ht : ℕ) (m : List ℕ) (root : ℕ) (gs : List ℕ) (st : Bool) (a d n : ℕ) (w : Bool) (r : Walked) where
  pub verdict_off : c.bits ≡ false → verdict_of c ht m root gs st a d n w r ≡ lax_by w r
  unfolding verdict_of
  verdict_off e = ap (λ b. cond b (strict_by c m gs st a d n w (checked_of c ht m root st a d) r) (lax_by w r)) e

  pub verdict_on : c.bits ≡ true → verdict_of c ht m root gs st a d n w r ≡ strict_by c m gs st a d n w (checked_of c ht m root st a d) r
  unfolding verdict_of
  verdict_on e = ap (λ b. cond b (strict_by c m gs st a d n w (checked_of c ht m root st a d) r) (lax_by w r)) e

module _ (c : Config) (ht : ℕ) (m : List ℕ) (h : Held) (root : ℕ) (st : Bool) (a d : ℕ) where
  pub unshadowed_off : c.bits ≡ false → unshadowed_of c ht m h root st a d ≡ plain_of c ht m h root st a
  unfolding unshadowed_of
  unshadowed_off e =
      ap (λ b. cond b (judged_by h true (checked_of c ht m root st a d) (walked_of c ht m 0 (whole c st root a))) (plain_of c ht m h root st a)) e

  pub unshadowed_on : (r : Walked) → c.bits ≡ true → walked_of c ht m 0 (whole c st root a) ≡ r → unshadowed_of c ht m h root st a d ≡ judged_by h true (checked_of c ht m root st a d) r
  unfolding unshadowed_of
  unshadowed_on r e k =
      ap (λ b. cond b (judged_by h true (checked_of c ht m root st a d) (walked_of c ht m 0 (whole c st root a))) (plain_of c ht m h root st a)) e
      ∙ ap (judged_by h true (checked_of c ht m root st a d)) k

  module _ (t : ℕ) (v : Bool) where
    pub through_off : c.bits ≡ false → through_of c ht m h root st a d t v ≡ served_of c ht m h st a d t v 0
    unfolding through_of
    through_off e = ap (λ b. cond b (judged_by h (lack c ht m st a d t v) (checked_of c ht m root st a d) (direct_of c ht m st a d t v)) (served_of c ht m h st a d t v 0)) e

    pub through_on : (l : Bool) (r : Walked) → c.bits ≡ true → (lack c ht m st a d t v) ≡ l → direct_of c ht m st a d t v ≡ r → through_of c ht m h root st a d t v ≡ judged_by h l (checked_of c ht m root st a d) r
    unfolding through_of
    through_on l r e x k =
        ap (λ b. cond b (judged_by h (lack c ht m st a d t v) (checked_of c ht m root st a d) (direct_of c ht m st a d t v)) (served_of c ht m h st a d t v 0)) e
        ∙ ap₂ (λ b y. judged_by h b (checked_of c ht m root st a d) y) x k

    -- an end before the word is said as it is, whatever lacks
    pub through_end : (r : Walked) → c.bits ≡ true → direct_of c ht m st a d t v ≡ r → through_of c ht m h root st a d t v ≡ judged_by h (lack c ht m st a d t v) (checked_of c ht m root st a d) r
    through_end r e k = through_on (lack c ht m st a d t v) r e refl k

    -- judged where a bit lacks, and otherwise served as ever
    pub through_part : through_of c ht m h root st a d t v
        ≡ cond (lacking_of c ht m st a d t v) (judged_by h true (checked_of c ht m root st a d) (direct_of c ht m st a d t v)) (served_of c ht m h st a d t v 0)
    unfolding through_of lacking_of served_of
    through_part = by c.bits (lack c ht m st a d t v) (direct_of c ht m st a d t v)
      where
        by : (b l : Bool) (r : Walked) → cond b (judged_by h l (checked_of c ht m root st a d) r) (translation h (0 + exit_by r) r false)
            ≡ cond (lacking_by (b && l) r) (judged_by h true (checked_of c ht m root st a d) r) (translation h (0 + exit_by r) r false)
        by false l (walked.Arrived x p n) = refl
        by false l (walked.Faulted x n) = refl
        by false l walked.Damaged = refl
        by true true (walked.Arrived x p n) = refl
        by true false (walked.Arrived x p n) = refl
        by true l (walked.Faulted x n) = ap (λ e. translation h e (walked.Faulted x n) false) (sym (zero-add (exit_by (walked.Faulted x n))))
        by true l walked.Damaged = refl

    -- by what its direct part came to, and whether that lacks a bit
    pub through_by : (r : Walked) (l : Bool) → r ≡ direct_of c ht m st a d t v → l ≡ lacking_of c ht m st a d t v
        → through_of c ht m h root st a d t v ≡ cond l (judged_by h true (checked_of c ht m root st a d) r) (translation h (exit_by r) r false)
    unfolding served_of
    through_by r l e k =
        through_part
        ∙ ap (λ n. cond (lacking_of c ht m st a d t v) (judged_by h true (checked_of c ht m root st a d) (direct_of c ht m st a d t v)) (translation h n (direct_of c ht m st a d t v) false)) (zero-add (exit_by (direct_of c ht m st a d t v)))
        ∙ sym (ap₂ (λ b (y : Walked). cond b (judged_by h true (checked_of c ht m root st a d) y) (translation h (exit_by y) y false)) k e)

    module _ (gs : List ℕ) (n : ℕ) where
      abbrev ruled : Verdict → After Translated
      ruled = ruled_by c m h gs a d t (direct_of c ht m st a d t v)

      pub arrived_off : c.bits ≡ false → arrived_of c ht m h root gs st a d n t v ≡ ruled (lax_by v (direct_of c ht m st a d t v))
      unfolding arrived_of
      arrived_off e = ap ruled (verdict_off c ht m root gs st a d n v (direct_of c ht m st a d t v) e)

      pub arrived_on : c.bits ≡ true → arrived_of c ht m h root gs st a d n t v ≡ ruled (strict_by c m gs st a d n v (checked_of c ht m root st a d) (direct_of c ht m st a d t v))
      unfolding arrived_of
      arrived_on e = ap ruled (verdict_on c ht m root gs st a d n v (direct_of c ht m st a d t v) e)

  -- a walk of the shadow part, by what it came to
  pub missed_by_lem : (r : Trail) → root_trail c ht m st root (path_indexes c d a) ≡ r → missed_of c ht m h root st a d ≡ missed_by c ht m h root st a d r.tables r.walked
  unfolding missed_of
  missed_by_lem r e = ap (λ (x : Trail). missed_by c ht m h root st a d x.tables x.walked) e
