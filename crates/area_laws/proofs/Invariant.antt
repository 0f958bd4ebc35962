-- Tables in an area by paths: which table stands for a prefix, which entry stands at a path.
-- A path or prefix is written last index first here: i ∷ q is q and then i.
use mathlib.Core.Path.{◌≡◌, refl, sym, ap, ◌∙◌, subst}
use mathlib.Core.Logic.{◌≢◌, ◌⊎◌, inl, inr}
use Prim.Native.Nat.{ℕ, ◌+◌, ◌*◌, ◌-◌, ◌/◌, ◌%◌, ◌^◌, ◌<◌, ◌≤◌}
use native.Mathlib.Omega.{arith}
use mathlib.Core.Bool.{Bool, true, false}
use mathlib.Core.List.{List, [], ◌∷◌}
use mathlib.Core.Option.{Option, none, some, IsSome}
use lib.Dec.{T}
use lib.ListN.{length}
use borrow.Author.Tests.{lt-ltb, le-ltb, eq-eqb}
use Rattle.spec.specs.Entry.{bit_set, present, switch, frame_of, entry_limit}
use Rattle.words.specs.Words.{at, word_in}
use Rattle.pool.specs.declared.Area.{Area}
use Rattle.pool.specs.declared.Pool.{Pool}
use Rattle.pool.specs.declared.Way.TheVariants.{To, Not}
use Rattle.pool.specs.Header.{entry_at_of, guest_of, level_of, parent_of, slot_of, inside_of}
use Rattle.pool.specs.Pool.{link, follow_of}
use Rattle.pool.proofs.Laws.{slot_small}
use Rattle.spec_laws.proofs.Distinct.{In, Once}
use Rattle.area_laws.proofs.Change.{not_some, is_some}
use Rattle.area_laws.proofs.Paths.{Ext}

-- ---- entries
-- the entry of a slot: it names the table that hangs there, or is the leaf x, or 0
abbrev pub slot : Option ℕ → ℕ → ℕ
slot none x = x
slot (some f) x = link f

pub inside_is : (b s f : ℕ) → b ≤ f → f < b + s → inside_of b s f ≡ true
unfolding inside_of
inside_is b s f l h = let k : f - b < s = omega arith in rw (le-ltb _ _ l, lt-ltb _ _ k)

pub present_link : (f : ℕ) → present (link f) ≡ true
unfolding present bit_set link
present_link f = let o : (f * 4096 + 1) / 2 ^ 0 % 2 ≡ 1 = omega arith in rw (eq-eqb _ _ o)

-- an entry that names a table has no switch bit
pub switch_link : (f : ℕ) → switch (link f) ≡ false
unfolding switch bit_set link
switch_link f = let o : (f * 4096 + 1) / 2 ^ 9 % 2 ≡ 0 = omega arith in rw o

pub present_zero : present 0 ≡ false
unfolding present bit_set
present_zero = refl

pub present_set : (e : ℕ) → present e ≡ true → e ≢ 0
present_set e h q = let z : true ≡ false = sym h ∙ ap present q ∙ present_zero in let y : ◌≡◌ {A = ℕ} 0 1 = cc in omega arith

pub link_small : (f : ℕ) → f < 65536 → link f < entry_limit
unfolding link
link_small f l = omega arith

pub frame_link : (f : ℕ) → f < 65536 → frame_of (link f) ≡ f
unfolding frame_of link
frame_link f l = omega arith

pub follow_link : (b s f : ℕ) → b ≤ f → f < b + s → f < 65536 → follow_of b s (link f) ≡ To f
unfolding follow_of
follow_link b s f l h k = rw (present_link f, frame_link f k, inside_is b s f l h)

pub follow_zero : (b s : ℕ) → follow_of b s 0 ≡ Not
unfolding follow_of
follow_zero b s = rw present_zero

-- ---- the freed frames, each linked to the next by its word 0
abbrev pub Mem : ℕ → List ℕ → Type 0
Mem f [] = ⊥
Mem f (x ∷ xs) = (f ≡ x) ⊎ Mem f xs

abbrev pub NoDup : List ℕ → Type 0
NoDup [] = Unit {0}
NoDup (x ∷ xs) = (Mem x xs → ⊥) × NoDup xs

abbrev pub Chain : List ℕ → ℕ → List ℕ → Type 0
Chain m e [] = e ≡ 0
Chain m e (f ∷ fl) = (e ≡ link f) × Chain m (word_in m f 0) fl

pub chain_keep : (m n : List ℕ) (fl : List ℕ) (e : ℕ) → ((f : ℕ) → Mem f fl → word_in n f 0 ≡ word_in m f 0) → Chain m e fl → Chain n e fl
chain_keep m n [] e h c = c
chain_keep m n (f ∷ fl) e h c =
    (c.0, subst (λ x. Chain n x fl) (sym (h f (inl refl))) (chain_keep m n fl (word_in m f 0) (λ g k. h g (inr k)) c.1))

-- ---- the invariant
-- `ts`: the frame of a prefix's table. `lv`: the entry wanted at a path where no table hangs, 0 for none.
-- `guest`: the host frame of a prefix's guest table, as the header says. `fl`: the freed frames. `ps`: the prefixes that stand.
pub record Tables (a : Area) (p : Pool) (ts : List ℕ → Option ℕ) (lv guest : List ℕ → ℕ) (fl : List ℕ) (ps : List (List ℕ)) (m : List ℕ) : Type 0 where
  -- frames and levels fit a header, and the area lies in the memory
  pub small : a.base + a.size ≤ 65536
  pub flat : a.levels < 8
  pub long : (a.base + a.size) * 512 ≤ length m
  -- one frame holds one table
  pub inj : (x y : List ℕ) (f : ℕ) → ts x ≡ some f → ts y ≡ some f → x ≡ y
  -- an entry of a table names the table below, or is the leaf
  pub word : (x : List ℕ) (f i : ℕ) → ts x ≡ some f → i < 512 → entry_at_of m f i ≡ slot (ts (i ∷ x)) (lv (i ∷ x))
  -- the pool names the top table
  pub top : p.top ≡ slot (ts []) 0
  -- a leaf stands in a table, at an index of it, where no table hangs, and its entry is present
  pub root : lv [] ≡ 0
  pub below : (i : ℕ) (x : List ℕ) → ts x ≡ none → lv (i ∷ x) ≡ 0
  pub narrow : (i : ℕ) (x : List ℕ) → 512 ≤ i → lv (i ∷ x) ≡ 0
  pub plain : (x : List ℕ) (f : ℕ) → ts x ≡ some f → lv x ≡ 0
  pub solid : (x : List ℕ) → lv x ≢ 0 → present (lv x) ≡ true
  -- tables are in frames that were handed out
  pub inside : (x : List ℕ) (f : ℕ) → ts x ≡ some f → (a.base ≤ f) × (f < a.base + p.fresh)
  -- the freed frames: linked, each once, handed out before, and no tables
  pub chain : Chain m p.free fl
  pub nodup : NoDup fl
  pub off : (f : ℕ) → Mem f fl → (a.base ≤ f) × (f < a.base + p.fresh) × ((x : List ℕ) → ts x ≢ some f)
  -- a frame that was handed out is in use or freed; the prefixes that stand, each once
  pub count : p.fresh ≡ p.used + length fl
  pub room : p.fresh ≤ a.size
  pub used : p.used ≡ length ps
  pub once : Once ps
  pub stand : (x : List ℕ) → (In x ps → IsSome (ts x)) × (IsSome (ts x) → In x ps)
  -- headers: level, table above and slot there, host frame of the guest table; level 0 for a frame that is no table
  pub level : (x : List ℕ) (f : ℕ) → ts x ≡ some f → (level_of m f + length x ≡ a.levels) × (length x < a.levels)
  pub link : (i : ℕ) (x : List ℕ) (f : ℕ) → ts (i ∷ x) ≡ some f → (ts x ≡ some (parent_of m f)) × (slot_of m f ≡ i)
  pub each : (f : ℕ) → a.base ≤ f → f < a.base + p.fresh → (level_of m f ≡ 0) ⊎ ((x : List ℕ) × (ts x ≡ some f))
  pub guests : (x : List ℕ) (f : ℕ) → ts x ≡ some f → guest_of m f ≡ guest x

-- a leaf below the table of y
pub record Leaf (lv : List ℕ → ℕ) (y : List ℕ) : Type 0 where
  pub path : List ℕ
  pub under : Ext y path
  pub set : lv path ≢ 0

-- each table has a leaf below it, but the top one where it stays
abbrev pub Exact : Bool → (List ℕ → Option ℕ) → (List ℕ → ℕ) → Type 0
Exact stays ts lv = (y : List ℕ) → IsSome (ts y) → Leaf lv y ⊎ ((y ≡ []) × T stays)

-- ---- what follows
module _ {a : Area} {p : Pool} {ts : List ℕ → Option ℕ} {lv guest : List ℕ → ℕ} {fl : List ℕ} {ps : List (List ℕ)} {m : List ℕ}
    (g : Tables a p ts lv guest fl ps m) where
  -- the table above one that stands
  pub record Above (i : ℕ) (x : List ℕ) : Type 0 where
    pub frame : ℕ
    pub stands : ts x ≡ some frame
    pub index : i < 512

  pub above : (i : ℕ) (x : List ℕ) (f : ℕ) → ts (i ∷ x) ≡ some f → Above i x
  above i x f e = record { frame = parent_of m f; stands = (g.link i x f e).0; index = subst (λ z. z < 512) (g.link i x f e).1 (slot_small m f) }

  -- no table without the one above it, and none at an index past the last
  pub none_below : (i : ℕ) (x : List ℕ) → ts x ≡ none → ts (i ∷ x) ≡ none
  none_below i x e = go (ts (i ∷ x)) refl
    where
      go : (o : Option ℕ) → ts (i ∷ x) ≡ o → o ≡ none
      go none q = refl
      go (some f) q = absurd (not_some e (g.link i x f q).0)

  pub none_past : (i : ℕ) (x : List ℕ) → 512 ≤ i → ts (i ∷ x) ≡ none
  none_past i x l = go (ts (i ∷ x)) refl
    where
      go : (o : Option ℕ) → ts (i ∷ x) ≡ o → o ≡ none
      go none q = refl
      go (some f) q = let k = (above i x f q).index in absurd (omega arith)

  -- none in a table of level 1
  pub none_last : (i : ℕ) (x : List ℕ) (f : ℕ) → ts x ≡ some f → level_of m f ≡ 1 → ts (i ∷ x) ≡ none
  none_last i x f e l = go (ts (i ∷ x)) refl
    where
      go : (o : Option ℕ) → ts (i ∷ x) ≡ o → o ≡ none
      go none q = refl
      go (some h) q = let k = g.level x f e in let n = g.level (i ∷ x) h q in absurd (omega arith)

  pub rooted : (x : List ℕ) (f : ℕ) → ts x ≡ some f → IsSome (ts [])
  rooted [] f e = is_some e
  rooted (i ∷ x) f e = let k = above i x f e in rooted x k.frame k.stands

  -- a table's frame: in the area, and so a number that an entry and a header hold
  pub frame_small : (x : List ℕ) (f : ℕ) → ts x ≡ some f → (f < a.base + a.size) × (f < 65536)
  frame_small x f e = let k = g.inside x f e in (omega (arith, g.room), omega (arith, g.room, g.small))

  pub frame_fits_lem : (x : List ℕ) (f : ℕ) → ts x ≡ some f → f * 512 + 512 ≤ length m
  frame_fits_lem x f e = let k = frame_small x f e in omega (arith, g.long)

  pub place_fits : (x : List ℕ) (f i : ℕ) → ts x ≡ some f → i < 512 → at f i < length m
  place_fits x f i e l = let k = frame_fits_lem x f e in omega arith

  pub follow_table : (x : List ℕ) (f : ℕ) → ts x ≡ some f → follow_of a.base a.size (link f) ≡ To f
  follow_table x f e = follow_link a.base a.size f (g.inside x f e).0 (frame_small x f e).0 (frame_small x f e).1

  -- one place holds the entry of one path
  pub place_inj : (x y : List ℕ) (f h i j : ℕ) → ts x ≡ some f → ts y ≡ some h → i < 512 → j < 512 → at h j ≡ at f i → i ∷ x ≡ j ∷ y
  place_inj x y f h i j tx ty hi hj e =
      let s : i ≡ j = omega arith in
      let c : h ≡ f = omega arith in
      let r : x ≡ y = g.inj x y f tx (ty ∙ ap some c) in
      λ z. s z ∷ r z

-- only the guest frames of prefixes that stand matter
pub guests_same : {a : Area} {p : Pool} {ts : List ℕ → Option ℕ} {lv guest : List ℕ → ℕ} {fl : List ℕ} {ps : List (List ℕ)} {m : List ℕ} (other : List ℕ → ℕ)
    → ((x : List ℕ) → IsSome (ts x) → other x ≡ guest x) → Tables a p ts lv guest fl ps m → Tables a p ts lv other fl ps m
guests_same other h g = record {
  small = g.small;
  flat = g.flat;
  long = g.long;
  inj = g.inj;
  word = g.word;
  top = g.top;
  root = g.root;
  below = g.below;
  narrow = g.narrow;
  plain = g.plain;
  solid = g.solid;
  inside = g.inside;
  chain = g.chain;
  nodup = g.nodup;
  off = g.off;
  count = g.count;
  room = g.room;
  used = g.used;
  once = g.once;
  stand = g.stand;
  level = g.level;
  link = g.link;
  each = g.each;
  guests = λ x f e. g.guests x f e ∙ sym (h x (is_some e));
}
