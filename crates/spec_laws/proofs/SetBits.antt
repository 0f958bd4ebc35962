-- Setting the bits of a walk's entries changes bits 5 and 6 of words and nothing else, loses none of them, and leaves no entry of the
-- walk without those that it needs; where none lacks one, it changes nothing.
-- Assumes nothing.
use mathlib.Core.Path.{◌≡◌, refl, sym, ap, ap₂, ◌∙◌, subst}
use Prim.Native.Nat.{ℕ, pred, ◌<◌}
use mathlib.Core.Bool.{Bool, true, false, not, ◌&&◌, ◌||◌, cond, or-false}
use mathlib.Core.List.{List, [], ◌∷◌}
use mathlib.Core.Option.{none, some}
use borrow.Author.Tests.{eqb-true, eqb-false, ltb-true, ltb-false, not-false}
use lib.Dec.{eqb, ltb}
use lib.ListN.{length, get_or, set, length-set}
use lib.Seq.{get_or-set_same, get_or-set_other, set_out, set-get_or}
use Rattle.spec.specs.declared.Fault.{Fault}
use Rattle.spec.specs.Config.{Config}
use Rattle.spec.specs.Entry.{accessed, dirty}
use Rattle.spec.specs.Prefix.{All}
use Rattle.spec.specs.Walk.{World, Trace}
use Rattle.spec.specs.Plain.{Place}
use Rattle.spec.specs.Machine.{Machine, place, word_in, stored, world}
use Rattle.spec.specs.Bits.{has_bits, with_bits, is_last, lacks, may_write, owed, owes, dirty_at, set_bits, bits_set}
use Rattle.spec.specs.Book.{Held}
use Rattle.spec_laws.proofs.Lists.{and_first, and_second, or_first, or_second}
use Rattle.spec_laws.proofs.EntryBits.{Kept, kept_refl, kept_trans, with_kept, with_has, bits_same}
use Rattle.spec_laws.proofs.Local.{SameMapping, SameWord}
use Rattle.spec_laws.proofs.Ignored.{AlikeWorld}
use Rattle.spec_laws.proofs.Keeps.{Valid, alike_world, alike_keeps}

-- ---- what it changes

-- n is the machine m with bits 5 and 6 of some words set
pub record MoreBits (c : Config) (m n : Machine) : Type 0 where
  pub mappings : n.mappings ≡ m.mappings
  pub root : n.root ≡ m.root
  pub long : length n.area ≡ length m.area
  pub words : (t i : ℕ) → Kept (word_in c m t i) (word_in c n t i)

pub more_refl : (c : Config) (m : Machine) → MoreBits c m m
more_refl c m = record { mappings = refl; root = refl; long = refl; words = λ t i. kept_refl (word_in c m t i) }

more_trans : (c : Config) (m n k : Machine) → MoreBits c m n → MoreBits c n k → MoreBits c m k
more_trans c m n k a b = record {
  mappings = b.mappings ∙ a.mappings;
  root = b.root ∙ a.root;
  long = b.long ∙ a.long;
  words = λ t i. kept_trans (word_in c m t i) (word_in c n t i) (word_in c k t i) (a.words t i) (b.words t i);
}

-- the law of ignored bits holds of them
pub more_alike : (c : Config) (m n : Machine) → MoreBits c m n → AlikeWorld (world c m) (world c n)
more_alike c m n a = alike_world c m n a.mappings (λ t i. (a.words t i).alike)

pub more_keep : (c : Config) (m n : Machine) (h : Held) → MoreBits c m n → Valid c m h → Valid c n h
more_keep c m n h a v = alike_keeps c m n h a.root (more_alike c m n a) v

-- one entry; a place beyond the list is none
set_kept : (l : List ℕ) (i k : ℕ) (ends : Bool) → Kept (get_or l k 0) (get_or (set l i (with_bits ends (get_or l i 0))) k 0)
set_kept l i k ends = go (eqb k i) refl (ltb i (length l)) refl
  where
    v : ℕ
    v = with_bits ends (get_or l i 0)

    go : (b : Bool) → eqb k i ≡ b → (d : Bool) → ltb i (length l) ≡ d → Kept (get_or l k 0) (get_or (set l i v) k 0)
    go true e true f =
        subst (λ n. Kept (get_or l n 0) (get_or (set l i v) n 0)) (sym (eqb-true k i e))
        (subst (Kept (get_or l i 0)) (sym (get_or-set_same l i v 0 (ltb-true i (length l) f))) (with_kept ends (get_or l i 0)))
    go true e false f = subst (λ x. Kept (get_or l k 0) (get_or x k 0)) (sym (set_out l i v (ltb-false i (length l) f))) (kept_refl (get_or l k 0))
    go false e d f = subst (Kept (get_or l k 0)) (sym (get_or-set_other l i k v 0 (eqb-false k i e))) (kept_refl (get_or l k 0))

abbrev once : Config → Machine → ℕ × ℕ → Bool → Machine
once c m x ends = stored c m x.0 x.1 (with_bits ends (word_in c m x.0 x.1))

pub once_more : (c : Config) (m : Machine) (x : ℕ × ℕ) (ends : Bool) → MoreBits c m (once c m x ends)
once_more c m x ends = record {
  mappings = refl;
  root = refl;
  long = length-set m.area (place c x.0 x.1) (with_bits ends (word_in c m x.0 x.1));
  words = λ t i. set_kept m.area (place c x.0 x.1) (place c t i) ends;
}

pub set_more : (c : Config) (st : Bool) (m : Machine) (xs : List (ℕ × ℕ)) → MoreBits c m (set_bits c st m xs)
set_more c st m [] = more_refl c m
set_more c st m (x ∷ xs) =
    let n = once c m x (st && is_last xs) in
    more_trans c m n (set_bits c st n xs) (once_more c m x (st && is_last xs)) (set_more c st n xs)

pub bits_more : (c : Config) (st : Bool) (m : Machine) (r : Trace Fault Place) → MoreBits c m (bits_set c st m r)
unfolding bits_set
bits_more c st m r = go c.bits
  where
    go : (b : Bool) → MoreBits c m (cond b (set_bits c st m r.reads) m)
    go true = set_more c st m r.reads
    go false = more_refl c m

pub bits_keep : (c : Config) (st : Bool) (m : Machine) (r : Trace Fault Place) (h : Held) → Valid c m h → Valid c (bits_set c st m r) h
bits_keep c st m r h v = more_keep c m (bits_set c st m r) h (bits_more c st m r) v

-- ---- entries that lack none of their bits

-- each has bit 5, and the last bit 6 where a store's walk ends at it
pub lacks_five : (w : World) (st : Bool) (xs : List (ℕ × ℕ)) → lacks w st xs ≡ false → All (λ x. accessed (w.word_at x.0 x.1) ≡ true) xs
unfolding lacks
lacks_five w st [] h = tt
lacks_five w st (x ∷ xs) h =
    let has = has_bits (st && is_last xs) (w.word_at x.0 x.1) in
    (and_first _ _ (not-false has (or_first (not has) (lacks w st xs) h)), lacks_five w st xs (or_second (not has) (lacks w st xs) h))

pub lacks_six : (w : World) (xs : List (ℕ × ℕ)) → lacks w true xs ≡ false → dirty_at w xs ≡ true
unfolding lacks
lacks_six w [] h = refl
lacks_six w (x ∷ []) h =
    let e = w.word_at x.0 x.1 in
    and_second (accessed e) (dirty e) (not-false (accessed e && dirty e) (or_first (not (accessed e && dirty e)) false h))
lacks_six w (x ∷ y ∷ ys) h = lacks_six w (y ∷ ys) (or_second (not (has_bits false (w.word_at x.0 x.1))) (lacks w true (y ∷ ys)) h)

pub lacks_none : (w : World) (st : Bool) (xs : List (ℕ × ℕ)) → All (λ x. accessed (w.word_at x.0 x.1) ≡ true) xs → (st ≡ true → dirty_at w xs ≡ true) → lacks w st xs ≡ false
unfolding lacks
lacks_none w st [] a k = refl
lacks_none w st (x ∷ xs) a k =
    ap₂ (λ b d. not (b && (not (st && is_last xs) || dirty (w.word_at x.0 x.1))) || d) a.0 (lacks_none w st xs a.1 (λ e. below xs (k e)))
    ∙ or-false _ ∙ ap not (last xs st k)
  where
    below : (ys : List (ℕ × ℕ)) → dirty_at w (x ∷ ys) ≡ true → dirty_at w ys ≡ true
    below [] e = refl
    below (y ∷ ys) e = e

    last : (ys : List (ℕ × ℕ)) (s : Bool) → (s ≡ true → dirty_at w (x ∷ ys) ≡ true) → (not (s && is_last ys) || dirty (w.word_at x.0 x.1)) ≡ true
    last [] true e = e refl
    last (y ∷ ys) true e = refl
    last ys false e = refl

-- they owe nothing
pub lacks_owed : (w : World) (st : Bool) (n : ℕ) (xs : List (ℕ × ℕ)) (gs : List ℕ) → lacks w st xs ≡ false → owed w st n xs gs ≡ none
unfolding lacks owed
lacks_owed w st n [] gs h = refl
lacks_owed w st n (x ∷ xs) [] h = refl
lacks_owed w st n (x ∷ xs) (g ∷ gs) h =
    let has = has_bits (st && is_last xs) (w.word_at x.0 x.1) in
    ap (λ b. cond (b || may_write (w.host_at g)) (owed w st (pred n) xs gs) (some (n, g))) (not-false has (or_first (not has) (lacks w st xs) h))
    ∙ lacks_owed w st (pred n) xs gs (or_second (not has) (lacks w st xs) h)

pub lacks_owes : (c : Config) (w : World) (st : Bool) (r : Trace Fault Place) → lacks w st r.reads ≡ false → owes c w st r ≡ none
unfolding owes
lacks_owes c w st r h = go c.bits
  where
    go : (b : Bool) → cond b (owed w st c.levels r.reads r.uses) none ≡ none
    go true = lacks_owed w st c.levels r.reads r.uses h
    go false = refl

-- and nothing is set
pub lacks_set : (c : Config) (st : Bool) (m : Machine) (xs : List (ℕ × ℕ)) → lacks (world c m) st xs ≡ false → set_bits c st m xs ≡ m
unfolding lacks world
lacks_set c st m [] h = refl
lacks_set c st m (x ∷ xs) h =
    let i = place c x.0 x.1 in
    let ends = st && is_last xs in
    let has = has_bits ends (get_or m.area i 0) in
    let same : set m.area i (with_bits ends (get_or m.area i 0)) ≡ m.area =
    ap (set m.area i) (bits_same ends (get_or m.area i 0) (not-false has (or_first (not has) (lacks (world c m) st xs) h))) ∙ set-get_or m.area i 0 in
    ap (λ l. set_bits c st (record { area = l; mappings = m.mappings; root = m.root }) xs) same ∙ lacks_set c st m xs (or_second (not has) (lacks (world c m) st xs) h)

pub lacks_bits : (c : Config) (st : Bool) (m : Machine) (r : Trace Fault Place) → lacks (world c m) st r.reads ≡ false → bits_set c st m r ≡ m
unfolding bits_set
lacks_bits c st m r h = go c.bits
  where
    go : (b : Bool) → cond b (set_bits c st m r.reads) m ≡ m
    go true = lacks_set c st m r.reads h
    go false = refl

-- ---- after they are set none is lacking

kept_has : (ends : Bool) (e f : ℕ) → Kept e f → has_bits ends e ≡ true → has_bits ends f ≡ true
kept_has ends e f k h = ap₂ (λ a b. a && b) (k.keeps5 (and_first _ _ h)) (go ends (and_second (accessed e) _ h))
  where
    go : (b : Bool) → (not b || dirty e) ≡ true → (not b || dirty f) ≡ true
    go true z = k.keeps6 z
    go false z = refl

-- the word of an entry stands in the area
abbrev pub Placed : Config → Machine → ℕ × ℕ → Type 0
Placed c m x = place c x.0 x.1 < length m.area

pub set_lacks : (c : Config) (st : Bool) (m : Machine) (xs : List (ℕ × ℕ)) → All (Placed c m) xs → lacks (world c (set_bits c st m xs)) st xs ≡ false
unfolding lacks world
set_lacks c st m [] a = refl
set_lacks c st m (x ∷ xs) a =
    let i = place c x.0 x.1 in
    let ends = st && is_last xs in
    let v = with_bits ends (word_in c m x.0 x.1) in
    let n = once c m x ends in
    let here : has_bits ends (word_in c n x.0 x.1) ≡ true = ap (has_bits ends) (get_or-set_same m.area i v 0 a.0) ∙ with_has ends (word_in c m x.0 x.1) in
    ap₂ (λ b d. not b || d) (kept_has ends _ _ ((set_more c st n xs).words x.0 x.1) here)
    (set_lacks c st n xs (subst (λ k. All (λ y. place c y.0 y.1 < k) xs) (sym (length-set m.area i v)) a.1))

pub bits_lacks : (c : Config) (st : Bool) (m : Machine) (r : Trace Fault Place) → c.bits ≡ true → All (Placed c m) r.reads
    → lacks (world c (bits_set c st m r)) st r.reads ≡ false
unfolding bits_set
bits_lacks c st m r on a =
    ap (λ b. lacks (world c (cond b (set_bits c st m r.reads) m)) st r.reads) on ∙ set_lacks c st m r.reads a

-- ---- where the words and the mappings asked for are the same, so are the answers

pub lacks_on : (w v : World) (st : Bool) (xs : List (ℕ × ℕ)) → All (SameWord w v) xs → lacks v st xs ≡ lacks w st xs
unfolding lacks
lacks_on w v st [] a = refl
lacks_on w v st (x ∷ xs) a = ap₂ (λ y b. not (has_bits (st && is_last xs) y) || b) a.0 (lacks_on w v st xs a.1)

pub owed_on : (w v : World) (st : Bool) (n : ℕ) (xs : List (ℕ × ℕ)) (gs : List ℕ) → All (SameWord w v) xs → All (SameMapping w v) gs → owed v st n xs gs ≡ owed w st n xs gs
unfolding owed
owed_on w v st n [] gs a b = refl
owed_on w v st n (x ∷ xs) [] a b = refl
owed_on w v st n (x ∷ xs) (g ∷ gs) a b =
    ap₂ (λ y h. cond (has_bits (st && is_last xs) y || may_write h) (owed v st (pred n) xs gs) (some (n, g))) a.0 b.0
    ∙ ap (λ o. cond (has_bits (st && is_last xs) (w.word_at x.0 x.1) || may_write (w.host_at g)) o (some (n, g))) (owed_on w v st (pred n) xs gs a.1 b.1)

pub dirty_on : (w v : World) (xs : List (ℕ × ℕ)) → All (SameWord w v) xs → dirty_at v xs ≡ dirty_at w xs
dirty_on w v [] a = refl
dirty_on w v (x ∷ xs) a = ap₂ (λ y b. cond (is_last xs) (dirty y) b) a.0 (dirty_on w v xs a.1)

-- ---- with bits on they are set
pub set_on : (c : Config) (st : Bool) (m : Machine) (r : Trace Fault Place) → c.bits ≡ true → set_bits c st m r.reads ≡ bits_set c st m r
unfolding bits_set
set_on c st m r on = sym (ap (λ b. cond b (set_bits c st m r.reads) m) on)
