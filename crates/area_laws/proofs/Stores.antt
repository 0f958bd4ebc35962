-- What the stores of a table area leave of the entries and headers of its tables.
use mathlib.Core.Path.{◌≡◌, refl, sym, ap, ◌∙◌, subst}
use mathlib.Core.Logic.{◌≢◌, ◌⊎◌, inl, inr}
use Prim.Native.Nat.{ℕ, zero, suc, ◌+◌, ◌*◌, ◌-◌, ◌/◌, ◌%◌, ◌<◌, ◌≤◌}
use mathlib.Core.Bool.{Bool, true, false}
use native.Mathlib.Omega.{arith}
use native.Mathlib.Decide.{ℕ_discrete}
use mathlib.Core.List.{List, [], ◌∷◌}
use lib.ListN.{get_or, drop, length, length-set, length-drop}
use lib.Seq.{get_or-set_other, get_or-set_same, get_or-drop, ext_get_or}
use lib.Dec.{ltb}
use borrow.Author.Tests.{ltb-true, ltb-false}
use Rattle.spec.specs.Entry.{entry_limit}
use Rattle.words.specs.Words.{SameFrame, at, word_in, set_in, zeroed}
use Rattle.words.proofs.Laws.{zeroed_length, zeroed_below, zeroed_above, zeroed_inside}
use Rattle.pool.specs.declared.Area.{Area}
use Rattle.pool.specs.Header.{entry_at_of, high_of, put_entry_of, guest_room, guest_of, level_of, parent_of, slot_of, written, header_bits, header_of}
use Rattle.pool.specs.Pool.{free_words}

pub at_inj : (f i g j : ℕ) → i < 512 → j < 512 → at f i ≡ at g j → (f ≡ g) × (i ≡ j)
at_inj f i g j hi hj e =
    let r : i ≡ j = omega arith in
    (omega arith, r)

-- the header of frame g is the same
pub record SameHead (m n : List ℕ) (g : ℕ) : Type 0 where
  pub guest : guest_of n g ≡ guest_of m g
  pub level : level_of n g ≡ level_of m g
  pub parent : parent_of n g ≡ parent_of m g
  pub slot : slot_of n g ≡ slot_of m g

high_head : (m n : List ℕ) (g : ℕ) → ((k : ℕ) → k < 512 → high_of n g k ≡ high_of m g k) → SameHead m n g
unfolding guest_of level_of parent_of slot_of
high_head m n g h = record {
  guest = rw (h 0 (omega arith), h 1 (omega arith), h 5 (omega arith), h 6 (omega arith), h 7 (omega arith), h 8 (omega arith));
  level = rw (h 1 (omega arith));
  parent = rw (h 2 (omega arith), h 3 (omega arith));
  slot = rw (h 4 (omega arith));
}

pub trans_head : {m n o : List ℕ} {g : ℕ} → SameHead m n g → SameHead n o g → SameHead m o g
trans_head a b = record { guest = b.guest ∙ a.guest; level = b.level ∙ a.level; parent = b.parent ∙ a.parent; slot = b.slot ∙ a.slot }

pub frame_head : (m n : List ℕ) (g : ℕ) → SameFrame m n g → SameHead m n g
unfolding high_of
frame_head m n g h = high_head m n g (λ k l. ap (λ x. x / entry_limit) (h k l))

pub frame_entry : (m n : List ℕ) (g j : ℕ) → SameFrame m n g → j < 512 → entry_at_of n g j ≡ entry_at_of m g j
unfolding entry_at_of
frame_entry m n g j h l = ap (λ x. x % entry_limit) (h j l)

-- frames outside the area hold the same words, and the length is the same
pub record Beside (a : Area) (m n : List ℕ) : Type 0 where
  pub len : length n ≡ length m
  pub else : (g : ℕ) → (g < a.base) ⊎ (a.base + a.size ≤ g) → SameFrame m n g

pub beside_refl : (a : Area) (m : List ℕ) → Beside a m m
beside_refl a m = record { len = refl; else = λ g o k l. refl }

pub beside_trans : {a : Area} {m n o : List ℕ} → Beside a m n → Beside a n o → Beside a m o
beside_trans b c = record { len = c.len ∙ b.len; else = λ g o k l. c.else g o k l ∙ b.else g o k l }

-- one frame of the area changed
pub beside_one : (a : Area) (m n : List ℕ) (f : ℕ) → a.base ≤ f → f < a.base + a.size → length n ≡ length m → ((g : ℕ) → g ≢ f → SameFrame m n g) → Beside a m n
beside_one a m n f lo hi e h = record {
  len = e;
  else = λ g o. h g (λ q. elim o [ inl l ↦ (let z = q in omega arith) | inr l ↦ (let z = q in omega arith) ]);
}

-- the same by places, and for all that comes after the area
pub beside_place : {a : Area} {m n : List ℕ} → Beside a m n → (j : ℕ) → (j < a.base * 512) ⊎ ((a.base + a.size) * 512 ≤ j) → get_or n j 0 ≡ get_or m j 0
beside_place {a = a} {m = m} {n = n} b j o =
    let e : j ≡ at (j / 512) (j % 512) = omega arith in
    ap (λ z. get_or n z 0) e ∙ b.else (j / 512) (elim o [ inl l ↦ inl (omega arith) | inr l ↦ inr (omega arith) ]) (j % 512) (omega arith)
    ∙ sym (ap (λ z. get_or m z 0) e)

pub beside_drop : {a : Area} {m n : List ℕ} → Beside a m n → (k : ℕ) → (a.base + a.size) * 512 ≤ k → drop k n ≡ drop k m
beside_drop {m = m} {n = n} b k l =
    ext_get_or 0 (drop k n) (drop k m) (length-drop k n ∙ ap (λ z. z - k) b.len ∙ sym (length-drop k m))
    (λ i h. get_or-drop k n i 0 ∙ beside_place b (k + i) (inr (omega arith)) ∙ sym (get_or-drop k m i 0))

-- ---- one word is set
pub set_else : (m : List ℕ) (f i v g : ℕ) → i < 512 → g ≢ f → SameFrame m (set_in m f i v) g
set_else m f i v g hi ne k l = get_or-set_other m (at f i) (at g k) v 0 (λ q. ne (at_inj g k f i l hi q).0)

-- ---- an entry is put
pub put_length : (m : List ℕ) (f i e : ℕ) → length (put_entry_of m f i e) ≡ length m
unfolding put_entry_of
put_length m f i e = length-set m (at f i) _

pub put_word : (m : List ℕ) (f i e j : ℕ) → j ≢ at f i → get_or (put_entry_of m f i e) j 0 ≡ get_or m j 0
unfolding put_entry_of
put_word m f i e j h = get_or-set_other m (at f i) j _ 0 h

put_same : (m : List ℕ) (f i e : ℕ) → at f i < length m
    → word_in (put_entry_of m f i e) f i ≡ word_in m f i / entry_limit * entry_limit + e % entry_limit
unfolding put_entry_of
put_same m f i e l = get_or-set_same m (at f i) _ 0 l

pub put_here : (m : List ℕ) (f i e : ℕ) → at f i < length m → e < entry_limit → entry_at_of (put_entry_of m f i e) f i ≡ e
unfolding entry_at_of
put_here m f i e l s = ap (λ x. x % entry_limit) (put_same m f i e l) ∙ omega arith

-- another entry
pub put_other : (m : List ℕ) (f i e g j : ℕ) → at g j ≢ at f i → entry_at_of (put_entry_of m f i e) g j ≡ entry_at_of m g j
unfolding entry_at_of
put_other m f i e g j h = ap (λ x. x % entry_limit) (put_word m f i e (at g j) h)

pub put_else : (m : List ℕ) (f i e g : ℕ) → i < 512 → g ≢ f → SameFrame m (put_entry_of m f i e) g
put_else m f i e g hi ne k l = put_word m f i e (at g k) (λ q. ne (at_inj g k f i l hi q).0)

-- every header stays
pub put_head : (m : List ℕ) (f i e g : ℕ) → at f i < length m → SameHead m (put_entry_of m f i e) g
unfolding high_of
put_head m f i e g l = high_head m (put_entry_of m f i e) g (λ k h. go k (ℕ_discrete (at g k) (at f i)))
  where
    go : (k : ℕ) → Dec (at g k ≡ at f i) → word_in (put_entry_of m f i e) g k / entry_limit ≡ word_in m g k / entry_limit
    go k (yes q) = subst (λ z. get_or (put_entry_of m f i e) z 0 / entry_limit ≡ get_or m z 0 / entry_limit) (sym q)
        (ap (λ x. x / entry_limit) (put_same m f i e l) ∙ omega arith)
    go k (no q) = ap (λ x. x / entry_limit) (put_word m f i e (at g k) q)

-- ---- a frame of zeros
pub zero_else : (m : List ℕ) (f g : ℕ) → g ≢ f → SameFrame m (zeroed m (f * 512) 512) g
zero_else m f g ne i hi = go (ltb g f) refl
  where
    go : (t : Bool) → ltb g f ≡ t → word_in (zeroed m (f * 512) 512) g i ≡ word_in m g i
    go true q = let l = ltb-true g f q in zeroed_below m (f * 512) 512 (at g i) (omega arith)
    go false q =
        let l = ltb-false g f q in
        let k : f < g = omega (arith, ne) in
        zeroed_above m (f * 512) 512 (at g i) (omega arith)

pub zero_in : (m : List ℕ) (f i : ℕ) → i < 512 → f * 512 + 512 ≤ length m → word_in (zeroed m (f * 512) 512) f i ≡ 0
zero_in m f i hi l = zeroed_inside m (f * 512) 512 (at f i) (omega arith) (omega arith) (omega arith)

-- ---- words of frame f are written one after another, from word k on
written_length : (m : List ℕ) (f k : ℕ) (vs : List ℕ) → length (written m f k vs) ≡ length m
unfolding written
written_length m f k [] = refl
written_length m f k (v ∷ vs) = written_length (set_in m f k (v * entry_limit)) f (suc k) vs ∙ length-set m (at f k) (v * entry_limit)

written_else : (m : List ℕ) (f k : ℕ) (vs : List ℕ) (g : ℕ) → g ≢ f → k + length vs ≤ 512 → SameFrame m (written m f k vs) g
unfolding written
written_else m f k [] g ne h j l = refl
written_else m f k (v ∷ vs) g ne h j l =
    written_else (set_in m f k (v * entry_limit)) f (suc k) vs g ne (omega arith) j l ∙ set_else m f k (v * entry_limit) g (omega arith) ne j l

written_before : (m : List ℕ) (f k : ℕ) (vs : List ℕ) (j : ℕ) → j < k → word_in (written m f k vs) f j ≡ word_in m f j
unfolding written
written_before m f k [] j l = refl
written_before m f k (v ∷ vs) j l =
    written_before (set_in m f k (v * entry_limit)) f (suc k) vs j (omega arith) ∙ get_or-set_other m (at f k) (at f j) (v * entry_limit) 0 (λ q. omega arith)

-- the header bits are read back
written_at : (m : List ℕ) (f k : ℕ) (vs : List ℕ) (j : ℕ) → j < length vs → at f k + length vs ≤ length m → high_of (written m f k vs) f (k + j) ≡ get_or vs j 0
unfolding written high_of
written_at m f k [] j l h = absurd (omega arith)
written_at m f k (v ∷ vs) zero l h =
    ap (high_of (written (set_in m f k (v * entry_limit)) f (suc k) vs) f) (omega arith)
    ∙ ap (λ w. w / entry_limit) (written_before (set_in m f k (v * entry_limit)) f (suc k) vs k (omega arith) ∙ get_or-set_same m (at f k) (v * entry_limit) 0 (omega arith))
    ∙ omega arith
written_at m f k (v ∷ vs) (suc j) l h =
    ap (high_of (written (set_in m f k (v * entry_limit)) f (suc k) vs) f) (omega arith)
    ∙ written_at (set_in m f k (v * entry_limit)) f (suc k) vs j (omega arith) (rw length-set (omega arith))

-- and no entry is set
written_zeros : (m : List ℕ) (f k : ℕ) (vs : List ℕ) → at f k + length vs ≤ length m
    → ((j : ℕ) → j < 512 → entry_at_of m f j ≡ 0) → (j : ℕ) → j < 512 → entry_at_of (written m f k vs) f j ≡ 0
unfolding written entry_at_of
written_zeros m f k [] h w = w
written_zeros m f k (v ∷ vs) h w =
    written_zeros (set_in m f k (v * entry_limit)) f (suc k) vs (rw length-set (omega arith)) (λ j l. go j l (ℕ_discrete j k))
  where
    go : (j : ℕ) → j < 512 → Dec (j ≡ k) → word_in (set_in m f k (v * entry_limit)) f j % entry_limit ≡ 0
    go j l (yes q) = rw (q, get_or-set_same m (at f k) (v * entry_limit) 0 (omega arith)) (omega arith)
    go j l (no q) = rw (get_or-set_other m (at f k) (at f j) (v * entry_limit) 0 (λ e. q (omega arith))) (w j l)

-- ---- a header is written into a frame of zeros: the frame is an empty table
pub record Empty (m n : List ℕ) (f g l h i : ℕ) : Type 0 where
  pub long : length n ≡ length m
  pub else : (d : ℕ) → d ≢ f → SameFrame m n d
  pub zeros : (j : ℕ) → j < 512 → entry_at_of n f j ≡ 0
  pub guest : guest_of n f ≡ g
  pub level : level_of n f ≡ l
  pub parent : parent_of n f ≡ h
  pub slot : slot_of n f ≡ i

-- a number from its 12 low bits and the rest
twelve : (u v : ℕ) → v ≡ u / 4096 → u % 4096 % 4096 + 4096 * v ≡ u
twelve u v e = omega arith

four_twelves : (u : ℕ) → u < 281474976710656
    → u % 4096 % 4096 + 4096 * (u / 4096 % 4096 % 4096 + 4096 * (u / 4096 / 4096 % 4096 % 4096 + 4096 * (u / 4096 / 4096 / 4096 % 4096 % 4096))) ≡ u
four_twelves u s = twelve u _ (twelve (u / 4096) _ (twelve (u / 4096 / 4096) _ (omega arith)))

pub empty_is : (m : List ℕ) (f guest level parent slot : ℕ) → f * 512 + 512 ≤ length m → guest < guest_room → level < 8 → parent < 65536 → slot < 512
    → Empty m (header_of (zeroed m (f * 512) 512) f guest level parent slot) f guest level parent slot
unfolding header_of entry_at_of guest_of level_of parent_of slot_of
empty_is m f guest level parent slot fits sg sl sp ss = record {
  long = written_length z f 0 vs ∙ zeroed_length m (f * 512) 512;
  else = λ d ne j l. written_else z f 0 vs d ne (omega arith) j l ∙ zero_else m f d ne j l;
  zeros = written_zeros z f 0 vs room (λ j l. ap (λ v. v % entry_limit) (zero_in m f j l fits));
  guest = rw (bits 0 (omega arith), bits 1 (omega arith), bits 5 (omega arith), bits 6 (omega arith), bits 7 (omega arith), bits 8 (omega arith))
      (ap (λ x. guest % 4096 % 4096 + (guest / 4096 % 16 + level % 8 * 16) % 16 * 4096 + 65536 * x) (four_twelves (guest / 65536) (omega arith)) ∙ omega arith);
  level = rw (bits 1 (omega arith)) (omega arith);
  parent = rw (bits 2 (omega arith), bits 3 (omega arith)) (omega arith);
  slot = rw (bits 4 (omega arith)) (omega arith);
}
  where
    z : List ℕ
    z = zeroed m (f * 512) 512

    vs : List ℕ
    vs = header_bits guest level parent slot

    room : at f 0 + 9 ≤ length z
    room = rw zeroed_length (omega arith)

    bits : (j : ℕ) → j < 9 → high_of (written z f 0 vs) f j ≡ get_or vs j 0
    bits j l = ap (high_of (written z f 0 vs) f) (omega arith) ∙ written_at z f 0 vs j l room

-- ---- a frame is given back
pub free_words_length : (m : List ℕ) (f l : ℕ) → length (free_words m f l) ≡ length m
unfolding free_words
free_words_length m f l = length-set (set_in m f 0 l) (at f 1) 0 ∙ length-set m (at f 0) l

pub free_words_else : (m : List ℕ) (f l g : ℕ) → g ≢ f → SameFrame m (free_words m f l) g
unfolding free_words
free_words_else m f l g ne k h = set_else (set_in m f 0 l) f 1 0 g (omega arith) ne k h ∙ set_else m f 0 l g (omega arith) ne k h

pub free_words_link : (m : List ℕ) (f l : ℕ) → at f 0 < length m → word_in (free_words m f l) f 0 ≡ l
unfolding free_words
free_words_link m f l h = get_or-set_other (set_in m f 0 l) (at f 1) (at f 0) 0 0 (λ q. omega arith) ∙ get_or-set_same m (at f 0) l 0 h

-- word 1 cleared: it is no table any more
level_cleared : (m : List ℕ) (f : ℕ) → at f 1 < length m → level_of (set_in m f 1 0) f ≡ 0
unfolding level_of high_of
level_cleared m f h = ap (λ w. w / entry_limit / 16 % 8) (get_or-set_same m (at f 1) 0 0 h)

pub free_words_level : (m : List ℕ) (f l : ℕ) → at f 1 < length m → level_of (free_words m f l) f ≡ 0
unfolding free_words
free_words_level m f l h = level_cleared (set_in m f 0 l) f (rw length-set h)
