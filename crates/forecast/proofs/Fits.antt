-- What an address adds to a forecast, whatever the memory holds: at most 35 references, two exits and one path, and never more tables
-- than the area has.
use mathlib.Core.Path.{◌≡◌, refl}
use Prim.Native.Nat.{ℕ, suc, ◌+◌, ◌-◌, ◌*◌, ◌≤◌}
use native.Mathlib.Nat.{mul-le-mul}
use native.Mathlib.Omega.{arith}
use mathlib.Core.Bool.{Bool, true, false, not, ◌&&◌, cond}
use mathlib.Core.List.{List}
use lib.Dec.{eqb, leb, ltb}
use borrow.Author.Tests.{leb-true, ltb-false}
use lib.ListN.{length, set}
use Rattle.spec.specs.Config.{Config}
use Rattle.spec.specs.Entry.{indexes, page_of}
use Rattle.spec.specs.Prefix.{any}
use Rattle.spec.specs.Plain.{is_span, walk}
use Rattle.spec.specs.Count.{one}
use Rattle.spec.specs.Bytes.{aligned}
use Rattle.spec.specs.Refusal.{address_fits}
use Rattle.spec_laws.proofs.Indexes.{indexes_length}
use Rattle.words.specs.After.{After, yields}
use Rattle.entry.specs.declared.HostPhysical.{HostPhysical}
use Rattle.layout.specs.declared.HostWalk.{HostWalk}
use Rattle.layout.specs.declared.HostWalk.TheVariants as host
use Rattle.walk.specs.declared.Walked.{Walked}
use Rattle.walk.specs.declared.Walked.TheVariants as walked
use Rattle.walk.specs.Memory.{walked_of}
use Rattle.marks.specs.Key.{low_page, key_at, search_of}
use Rattle.translate.specs.declared.Held.{Held}
use Rattle.translate.specs.declared.Translated.{Translated}
use Rattle.translate.specs.Translate.{ReadsMost, path_of, path_indexes, direct_of, served_of, plain_of, turned_depth}
use Rattle.translate.proofs.Fits.{exit_small, levels_most, walk_most, FoundIs, found_is}
use Rattle.forecast.specs.declared.Sum.{Sum}
use Rattle.forecast.specs.declared.Paths.{Paths}
use Rattle.forecast.specs.declared.Outlook.{Outlook}
use Rattle.forecast.specs.declared.Next.{Next}
use Rattle.forecast.specs.declared.Next.TheVariants.{Go, Damaged}
use Rattle.forecast.specs.Forecast.{newest, tables_with, filled_of, paid_by, paid, held_after, missed_by, missed_of, found_by, kept_of, load_of, address_of}
use Rattle.forecast.specs.Fits.{SumFits, PathsFit, OutlookFits}
use Rattle.spec_laws.proofs.Counts.{one_most}
use Rattle.spec_laws.proofs.Keeps.{InGuestArea}

-- ---- the words of a walk

module _ (c : Config) (ht : ℕ) (m : List ℕ) (five : c.levels ≤ 5) where
  -- k levels of a walk
  words : (k : ℕ) (is : List ℕ) → k ≤ 5 → length is ≡ k → (1 + c.levels) * length is ≤ 6 * k
  words k is l e = rw e (mul-le-mul (omega arith) (omega arith))

  pub served_most : (h : Held) (st : Bool) (a d t : ℕ) (w : Bool) (e : ℕ) → d ≤ c.levels → ReadsMost 35 (served_of c ht m h st a d t w e).walked
  unfolding served_of direct_of
  served_most h st a d t w e low =
      let is = indexes d (page_of a) in
      levels_most c ht m st is (c.levels - d) (0 + d) t w 35 (omega (arith, words d is (omega arith) (indexes_length d (page_of a)), five, low))

  pub served_exits : (h : Held) (st : Bool) (a d t : ℕ) (w : Bool) (e : ℕ) → e ≤ 1 → (served_of c ht m h st a d t w e).exits ≤ 2
  unfolding served_of
  served_exits h st a d t w e l = omega (arith, exit_small (direct_of c ht m st a d t w))

  pub path_most : (st : Bool) (root a d : ℕ) → d ≤ c.levels → ReadsMost 35 (walked_of c ht m 0 (walk c st root (path_indexes c d a)))
  path_most st root a d low =
      walk_most c ht m st 0 root (path_indexes c d a) 35 (omega (arith, words (c.levels - d) (path_indexes c d a) (omega arith) (indexes_length (c.levels - d) (path_of d a)), five, low))

  pub plain_most : (h : Held) (st : Bool) (root a : ℕ) → ReadsMost 35 (plain_of c ht m h root st a).walked
  unfolding plain_of
  plain_most h st root a =
      let is = indexes c.levels (page_of a) in
      walk_most c ht m st 0 root is 35 (omega (arith, words c.levels is five (indexes_length c.levels (page_of a)), five))

  pub plain_exits : (h : Held) (st : Bool) (root a : ℕ) → (plain_of c ht m h root st a).exits ≤ 2
  unfolding plain_of
  plain_exits h st root a = omega (arith, exit_small (walked_of c ht m 0 (walk c st root (indexes c.levels (page_of a)))))

-- a frame found in the shadow tables while they are kept
pub kept_is : (c : Config) (P : ℕ → Type 0) (all : (f : ℕ) → InGuestArea c f → P f) (m : List ℕ) (h : Held) (b : Bool) (a d : ℕ)
    → (eqb h.frame.0 0 ≡ false → P h.frame.0) → FoundIs c P all (kept_of c m h b a d)
unfolding kept_of
kept_is c P all m h true a d k = found_is c P all m h a d k
kept_is c P all m h false a d k = tt

-- ---- one address

abbrev pub NextFits : ℕ → Next → Type 0
NextFits i (Go o) = OutlookFits i o
NextFits i Damaged = Unit {0}

pay_fits : (i : ℕ) (s : Sum) (p : Paths) (e : ℕ) (r : Walked) → SumFits i s → PathsFit (suc i) p → e ≤ 2 → ReadsMost 35 r → NextFits (suc i) (paid_by s p e r)
pay_fits i s p e (walked.Arrived w t n) f q x l = ((omega (arith, f.0, l), omega (arith, f.1, x)), q)
pay_fits i s p e (walked.Faulted y n) f q x l = ((omega (arith, f.0, l), omega (arith, f.1, x)), q)
pay_fits i s p e walked.Damaged f q x l = tt

paid_fits : (i : ℕ) (s : Sum) (p : Paths) (t : Translated) → SumFits i s → PathsFit (suc i) p → t.exits ≤ 2 → ReadsMost 35 t.walked → NextFits (suc i) (paid s p t)
unfolding paid
paid_fits i s p t f q x l = pay_fits i s p t.exits t.walked f q x l

module _ (c : Config) (ht : ℕ) (m : List ℕ) (h : Held) (root : ℕ) (five : c.levels ≤ 5) (few : c.shadows ≤ 65536) (i : ℕ) (ks : List ℕ) (o : Outlook) (fits : OutlookFits i o) where
  more : PathsFit (suc i) o.paths
  more = (fits.1.0, omega (arith, fits.1.1))

  filled_fits : (n q k : ℕ) → k ≤ 5 → PathsFit (suc i) (filled_of c ks o.paths n q k).result
  unfolding filled_of
  filled_fits n q k l = go (leb n c.shadows) refl
    where
      go : (b : Bool) → leb n c.shadows ≡ b
          → PathsFit (suc i) (cond {A = After Paths} b (yields (record { used = n; kept = o.paths.kept; count = o.paths.count + 1 }) (set ks o.paths.count q)) (yields (record { used = k; kept = false; count = 1 }) (set ks 0 q))).result
      go true e = (let y = leb-true n c.shadows e in omega (arith, y, few), omega (arith, fits.1.1))
      go false e = (omega arith, omega arith)

  held_fits : (b : Bool) (n a d : ℕ) → PathsFit (suc i) (held_after c ks o.paths b n a d).result
  unfolding held_after
  held_fits true n a d = more
  held_fits false n a d = filled_fits (tables_with c o.paths.used (newest ks o.paths.count) n a d) (key_at c.levels d a) (c.levels - d) (omega (arith, five))

  missed_fits : (n a d : ℕ) → d ≤ c.levels → NextFits (suc i) (missed_of c ht m h root ks o n a d).result
  unfolding missed_of
  missed_fits n a d low = go (walked_of c ht m 0 (walk c false root (path_indexes c d a))) (path_most c ht m five false root a d low)
    where
      b : Bool
      b = any (eqb (key_at c.levels d a)) (newest ks o.paths.count)

      arrived : (z : Bool) (t : HostPhysical) (w : Bool)
          → NextFits (suc i) (cond {A = After Next} z (yields Damaged ks) (yields (paid o.sum (held_after c ks o.paths b n a d).result (served_of c ht m h false a d t.0 w (one (not b)))) (held_after c ks o.paths b n a d).memory)).result
      arrived true t w = tt
      arrived false t w =
          paid_fits i o.sum _ _ fits.0 (held_fits b n a d) (served_exits c ht m five h false a d t.0 w (one (not b)) (one_most (not b))) (served_most c ht m five h false a d t.0 w (one (not b)) low)

      go : (r : Walked) → ReadsMost 35 r → NextFits (suc i) (missed_by c ht m h ks o b n a d r).result
      go (walked.Arrived w t k) l = arrived (is_span c t.0) t w
      go (walked.Faulted x k) l = ((omega (arith, fits.0.0, l), omega (arith, fits.0.1, one_most (not b))), more)
      go walked.Damaged l = tt

  found_fits : (a d : ℕ) (r : HostWalk) → d ≤ c.levels → NextFits (suc i) (found_by c ht m h root ks o a d r).result
  found_fits a d (host.Found t w) low =
      paid_fits i o.sum o.paths _ fits.0 more (served_exits c ht m five h false a d t.0 w 0 (omega arith)) (served_most c ht m five h false a d t.0 w 0 low)
  found_fits a d (host.Absent n) low = missed_fits n a d low
  found_fits a d host.Damaged low = tt

  load_fits : (a d : ℕ) → NextFits (suc i) (load_of c ht m h root ks o a d).result
  unfolding load_of
  load_fits a d = go (ltb c.levels d) refl
    where
      go : (b : Bool) → ltb c.levels d ≡ b
          → NextFits (suc i) (cond {A = After Next} b (yields (paid o.sum o.paths (plain_of c ht m h root false a)) ks) (found_by c ht m h root ks o a d (kept_of c m h o.paths.kept a d))).result
      go true e = paid_fits i o.sum o.paths _ fits.0 more (plain_exits c ht m five h false root a) (plain_most c ht m five h false root a)
      go false e = found_fits a d (kept_of c m h o.paths.kept a d) (ltb-false c.levels d e)

  pub address_fits_lem : (marks : List ℕ) (a : ℕ) → NextFits (suc i) (address_of c ht m h root marks ks o a).result
  unfolding address_of
  address_fits_lem marks a = go (address_fits c a && aligned a 8)
    where
      d : ℕ
      d = turned_depth c ht m root a (search_of c.levels (low_page c.levels a) marks).depth

      go : (b : Bool) → NextFits (suc i) (cond {A = After Next} b (load_of c ht m h root ks o a d) (yields (Go o) ks)).result
      go true = load_fits a d
      go false = ((omega (arith, fits.0.0), omega (arith, fits.0.1)), more)
