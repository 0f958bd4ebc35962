-- The window that a word of bits and a ring of prefixes show, and what each request does to them.
use mathlib.Core.Path.{◌≡◌, refl, sym, ap, ap₂, ◌∙◌, subst}
use Prim.Native.Nat.{ℕ, zero, suc, ◌+◌, ◌-◌, ◌*◌, ◌/◌, ◌%◌, ◌^◌, ◌≤◌, ◌<◌}
use native.Mathlib.Nat.{le_of_suc-le-suc, not-suc-le-zero}
use native.Mathlib.Omega.{arith}
use borrow.Author.Tests.{eq-eqb, eqb-true, eqb-false, le-leb}
use mathlib.Core.Bool.{Bool, true, false, cond}
use mathlib.Core.List.{List, [], ◌∷◌, ◌++◌, map}
use mathlib.Core.Option.{Option, none, some}
use lib.Dec.{eqb}
use lib.Count.{ones, ones-le, ones_step}
use lib.ListN.{length, take, set, replicate, length-take, length-set}
use lib.Pow.{mod-mod-pow, field, shr_lt}
use lib.Seq.{take-take, take_at}
use Rattle.spec.specs.Config.{Config}
use Rattle.spec.specs.Entry.{indexes}
use Rattle.spec.specs.Prefix.{same, keep}
use Rattle.spec.specs.Book.{Window}
use Rattle.spec.specs.Choice.{charged_to, charges}
use Rattle.spec.specs.Refusal.{all_of, charge_fits, uncharged, window_fits}
use Rattle.spec_laws.proofs.Indexes.{indexes_length, indexes_small}
use Rattle.choice.specs.Window.{room, shifted, unroll}
use Rattle.choice.specs.Reading.{bits, spread, shown}
use Rattle.choice.proofs.Ring.{ring_put, map_unroll}

-- a window, and requests that are not charged behind it, n in all: they count for nothing
unfoldable pub padded : ℕ → Window → Window
padded n w = take n (w ++ replicate n none)

-- word and ring show the window w: a shorter one ends in requests that were not charged
pub record Shows (charged at : ℕ) (ps : List (List ℕ)) (w : Window) : Type 0 where
  pub word : charged < 2 ^ 64
  pub ring : length ps ≡ room
  pub short : length w ≤ room
  pub shows : padded room w ≡ shown charged at ps

-- ---- bits

bits_length : (k n : ℕ) → length (bits k n) ≡ k
unfolding bits
bits_length zero n = refl
bits_length (suc k) n = ap suc (bits_length k (n / 2))

bits_take : (k n : ℕ) → take k (bits (suc k) n) ≡ bits k n
unfolding bits
bits_take zero n = refl
bits_take (suc k) n = ap (λ t. eqb (n % 2) 1 ∷ t) (bits_take k (n / 2))

-- the bits below k are those of the remainder
bits_low : (k n : ℕ) → bits k (n % 2 ^ k) ≡ bits k n
unfolding bits
bits_low zero n = refl
bits_low (suc k) n =
    let e : suc k ≡ k + 1 = omega arith in
    let a : n % 2 ^ suc k % 2 ≡ n % 2 = ap (λ (j : ℕ). n % 2 ^ j % 2) e ∙ mod-mod-pow n k 1 in
    let b : n % 2 ^ suc k / 2 ≡ n / 2 % 2 ^ k = ap (λ (j : ℕ). n % 2 ^ j / 2) e ∙ field n k 1 in
    ap₂ (λ s l. eqb s 1 ∷ l) a (ap (bits k) b ∙ bits_low k (n / 2))

bits_shifted : (k : ℕ) (b : Bool) (n : ℕ) → bits (suc k) (n % 2 ^ k * 2 + cond b 1 0) ≡ b ∷ bits k n
unfolding bits
bits_shifted k b n = ap₂ (λ s l. s ∷ l) (low b) (ap (bits k) (high b) ∙ bits_low k n)
  where
    low : (b : Bool) → eqb ((n % 2 ^ k * 2 + cond b 1 0) % 2) 1 ≡ b
    low true = let e : (n % 2 ^ k * 2 + 1) % 2 ≡ 1 = omega arith in rw e refl
    low false = let e : (n % 2 ^ k * 2 + 0) % 2 ≡ 0 = omega arith in rw e refl

    high : (b : Bool) → (n % 2 ^ k * 2 + cond b 1 0) / 2 ≡ n % 2 ^ k
    high true = omega arith
    high false = omega arith

-- how many are set
hits : List Bool → ℕ
hits [] = 0
hits (b ∷ bs) = cond b (suc (hits bs)) (hits bs)

hits_bits : (k n : ℕ) → n < 2 ^ k → hits (bits k n) ≡ ones n
unfolding bits hits
hits_bits zero n h = let l = ones-le 0 n h in omega arith
hits_bits (suc k) n h =
    let e : suc k ≡ k + 1 = omega arith in
    go (eqb (n % 2) 1) refl (hits_bits k (n / 2) (shr_lt k 1 (subst (λ (j : ℕ). n < 2 ^ j) e h)))
  where
    go : (b : Bool) → eqb (n % 2) 1 ≡ b → hits (bits k (n / 2)) ≡ ones (n / 2) → cond b (suc (hits (bits k (n / 2)))) (hits (bits k (n / 2))) ≡ ones n
    go true e half = omega (arith, eqb-true (n % 2) 1 e, ones_step n)
    go false e half = let d = eqb-false (n % 2) 1 e in omega (arith, ones_step n)

-- ---- the window that word and ring show

spread_take : (k : ℕ) (bs : List Bool) (ps : List (List ℕ)) → take k (spread bs ps) ≡ spread (take k bs) ps
unfolding spread
spread_take zero bs ps = refl
spread_take (suc k) [] ps = refl
spread_take (suc k) (true ∷ bs) [] = ap (λ t. none ∷ t) (spread_take k bs [])
spread_take (suc k) (true ∷ bs) (p ∷ ps) = ap (λ t. some p ∷ t) (spread_take k bs ps)
spread_take (suc k) (false ∷ bs) ps = ap (λ t. none ∷ t) (spread_take k bs ps)

-- prefixes behind the last bit do not matter
spread_cut : (k : ℕ) (bs : List Bool) (ps : List (List ℕ)) → length bs ≤ k → spread bs (take k ps) ≡ spread bs ps
unfolding spread
spread_cut k [] ps l = refl
spread_cut zero (b ∷ bs) ps l = absurd (not-suc-le-zero l)
spread_cut (suc k) (true ∷ bs) [] l = refl
spread_cut (suc k) (true ∷ bs) (p ∷ ps) l = ap (λ t. some p ∷ t) (spread_cut k bs ps (le_of_suc-le-suc l))
spread_cut (suc k) (false ∷ bs) ps l = ap (λ t. none ∷ t) (spread_cut (suc k) bs ps (omega arith))

spread_length : (bs : List Bool) (ps : List (List ℕ)) → length (spread bs ps) ≡ length bs
unfolding spread
spread_length [] ps = refl
spread_length (true ∷ bs) [] = ap suc (spread_length bs [])
spread_length (true ∷ bs) (p ∷ ps) = ap suc (spread_length bs ps)
spread_length (false ∷ bs) ps = ap suc (spread_length bs ps)

nothing_charged : (p : List ℕ) (bs : List Bool) → charges p (spread bs []) ≡ 0
unfolding spread
nothing_charged p [] = refl
nothing_charged p (true ∷ bs) = nothing_charged p bs
nothing_charged p (false ∷ bs) = nothing_charged p bs

-- the charges of a prefix: how often it stands among the newest, as many as bits are set
spread_charges : (p : List ℕ) (bs : List Bool) (ps : List (List ℕ)) → charges p (spread bs ps) ≡ length (keep (same p) (take (hits bs) ps))
unfolding spread hits
spread_charges p [] ps = refl
spread_charges p (true ∷ bs) [] = nothing_charged p bs
spread_charges p (true ∷ bs) (q ∷ ps) = go (same p q) (spread_charges p bs ps)
  where
    go : (b : Bool) → charges p (spread bs ps) ≡ length (keep (same p) (take (hits bs) ps))
        → length (cond b (some q ∷ keep (charged_to p) (spread bs ps)) (keep (charged_to p) (spread bs ps))) ≡ length (cond b (q ∷ keep (same p) (take (hits bs) ps)) (keep (same p) (take (hits bs) ps)))
    go true e = ap suc e
    go false e = e
spread_charges p (false ∷ bs) ps = spread_charges p bs ps

module _ {A : Type 0} where
  -- to cut first makes no difference
  take_cut : (n : ℕ) (l r : List A) → take n (take n l ++ r) ≡ take n (l ++ r)
  take_cut zero l r = refl
  take_cut (suc n) [] r = refl
  take_cut (suc n) (x ∷ l) r = ap (λ t. x ∷ t) (take_cut n l r)

  take_enter : (n : ℕ) (x : A) (l : List A) → take n (x ∷ take n l) ≡ take n (x ∷ l)
  take_enter zero x l = refl
  take_enter (suc n) x l = ap (λ t. x ∷ t) (take-take n (suc n) l (omega arith))

padded_keep : (f : Option (List ℕ) → Bool) (k n : ℕ) (w : Window) → f none ≡ false → length w ≤ n → n ≤ k → keep f (take n (w ++ replicate k none)) ≡ keep f w
padded_keep f k zero [] h l m = refl
padded_keep f zero (suc n) [] h l m = absurd (not-suc-le-zero m)
padded_keep f (suc k) (suc n) [] h l m = rw h (padded_keep f k n [] h (omega arith) (le_of_suc-le-suc m))
padded_keep f k zero (x ∷ w) h l m = absurd (not-suc-le-zero l)
padded_keep f k (suc n) (x ∷ w) h l m = ap (λ t. cond (f x) (x ∷ t) t) (padded_keep f k n w h (le_of_suc-le-suc l) (omega arith))

padded_charges : (p : List ℕ) (n : ℕ) (w : Window) → length w ≤ n → charges p (padded n w) ≡ charges p w
unfolding padded
padded_charges p n w l = ap length (padded_keep (charged_to p) n n w refl l (omega arith))

padded_whole : (n : ℕ) (w : Window) → length w ≡ n → padded n w ≡ w
unfolding padded
padded_whole n w l = take_at w (replicate n none) n l

padded_enter : (n : ℕ) (x : Option (List ℕ)) (w : Window) → padded n (take n (x ∷ w)) ≡ take n (x ∷ padded n w)
unfolding padded
padded_enter n x w = take_cut n (x ∷ w) (replicate n none) ∙ sym (take_enter n x (w ++ replicate n none))

-- ---- the steps, of n bits and one more

module _ (k n : ℕ) (us : List (List ℕ)) (w : Window) (s : padded (suc k) w ≡ spread (bits (suc k) n) us) where
  -- the word is shifted by one bit, and the oldest request is gone
  older : take k (padded (suc k) w) ≡ spread (bits k n) us
  older = ap (take k) s ∙ spread_take k (bits (suc k) n) us ∙ ap (λ bs. spread bs us) (bits_take k n)

  enter_none : padded (suc k) (take (suc k) (none ∷ w)) ≡ spread (bits (suc k) (n % 2 ^ k * 2 + cond false 1 0)) us
  unfolding spread
  enter_none = padded_enter (suc k) none w ∙ ap (λ l. none ∷ l) older ∙ ap (λ bs. spread bs us) (sym (bits_shifted k false n))

  enter_some : (p : List ℕ) → padded (suc k) (take (suc k) (some p ∷ w)) ≡ spread (bits (suc k) (n % 2 ^ k * 2 + cond true 1 0)) (take (suc k) (p ∷ us))
  unfolding spread
  enter_some p =
      padded_enter (suc k) (some p) w ∙ ap (λ l. some p ∷ l) older
      ∙ sym (spread_cut (suc k) (true ∷ bits k n) (p ∷ us) (omega (arith, bits_length k n)))
      ∙ ap (λ bs. spread bs (take (suc k) (p ∷ us))) (sym (bits_shifted k true n))

no_bits : (k : ℕ) (ps : List (List ℕ)) → padded k [] ≡ spread (bits k 0) ps
unfolding padded spread bits
no_bits k ps = go k
  where
    go : (n : ℕ) → take n (replicate n none) ≡ spread (bits n 0) ps
    go zero = refl
    go (suc n) = ap (λ l. none ∷ l) (go n)

short_enter : (k : ℕ) (x : Option (List ℕ)) (w : Window) → length (take k (x ∷ w)) ≤ k
short_enter k x w = let l = length-take k (x ∷ w) in omega arith

shifted_small : (b : Bool) (n : ℕ) → shifted b n < 2 ^ 64
unfolding shifted
shifted_small true n = omega arith
shifted_small false n = omega arith

module _ (charged at : ℕ) (ps : List (List ℕ)) (w : Window) (s : Shows charged at ps w) where
  -- a request that is not charged: the word is shifted
  pub shows_request : Shows (shifted false charged) at ps (take room (none ∷ w))
  unfolding shifted
  shows_request = record {
    word = shifted_small false charged;
    ring = s.ring;
    short = short_enter room none w;
    shows = enter_none 63 charged (unroll (at % room) ps) w s.shows;
  }

  -- one that is: its prefix is written, and its bit comes with the shift
  pub shows_charge : (p : List ℕ) → Shows (shifted true charged) ((at + 1) % room) (set ps (at % room) p) (take room (some p ∷ w))
  unfolding shifted
  shows_charge p = record {
    word = shifted_small true charged;
    ring = length-set ps (at % room) p ∙ s.ring;
    short = short_enter room (some p) w;
    shows = enter_some 63 charged (unroll (at % room) ps) w s.shows p
        ∙ ap (λ us. spread (bits room (shifted true charged)) us) (sym (ring_put at ps p s.ring));
  }

  -- the charges of a prefix: how often it stands among the newest entries, as many as bits are set
  pub shows_charges : (p : List ℕ) → charges p w ≡ length (keep (same p) (take (ones charged) (unroll (at % room) ps)))
  shows_charges p =
      sym (padded_charges p room w s.short) ∙ ap (charges p) s.shows ∙ spread_charges p (bits room charged) (unroll (at % room) ps)
      ∙ ap (λ n. length (keep (same p) (take n (unroll (at % room) ps)))) (hits_bits 64 charged s.word)

-- a root load: the word is zero, the ring stays as it is
pub shows_empty : (at : ℕ) (ps : List (List ℕ)) → length ps ≡ room → Shows 0 at ps []
shows_empty at ps long = record { word = omega arith; ring = long; short = omega arith; shows = no_bits room (unroll (at % room) ps) }

-- ---- what any word and ring show

shown_length : (charged at : ℕ) (ps : List (List ℕ)) → length (shown charged at ps) ≡ room
shown_length charged at ps = spread_length (bits room charged) (unroll (at % room) ps) ∙ bits_length room charged

pub shows_shown : (charged at : ℕ) (ps : List (List ℕ)) → charged < 2 ^ 64 → length ps ≡ room → Shows charged at ps (shown charged at ps)
shows_shown charged at ps word long = record {
  word = word;
  ring = long;
  short = omega (arith, shown_length charged at ps);
  shows = padded_whole room (shown charged at ps) (shown_length charged at ps);
}

spread_fits : (c : Config) (bs : List Bool) (ws : List ℕ) → all_of (charge_fits c) (spread bs (map (indexes (c.levels - 1)) ws)) ≡ true
unfolding spread
spread_fits c [] ws = refl
spread_fits c (true ∷ bs) [] = spread_fits c bs []
spread_fits c (true ∷ bs) (w ∷ ws) =
    rw (indexes_length (c.levels - 1) w, eq-eqb (c.levels - 1) _ refl, indexes_small (c.levels - 1) w) (spread_fits c bs ws)
spread_fits c (false ∷ bs) ws = spread_fits c bs ws

-- it breaks no rule
pub shown_fits : (c : Config) (charged at : ℕ) (ring : List ℕ) → window_fits c (shown charged at (map (indexes (c.levels - 1)) ring)) ≡ true
shown_fits c charged at ring =
    let ps = map (indexes (c.levels - 1)) ring in
    rw (le-leb (length (shown charged at ps)) 64 (omega (arith, shown_length charged at ps)))
    (ap (λ us. all_of (charge_fits c) (spread (bits room charged) us)) (sym (map_unroll (indexes (c.levels - 1)) (at % room) ring))
    ∙ spread_fits c (bits room charged) (unroll (at % room) ring))

spread_none : (k : ℕ) (ps : List (List ℕ)) → all_of uncharged (spread (bits k 0) ps) ≡ true
unfolding spread bits
spread_none zero ps = refl
spread_none (suc k) ps = spread_none k ps

-- and with the word zero it has no charge
pub shown_none : (charged at : ℕ) (ps : List (List ℕ)) → charged ≡ 0 → all_of uncharged (shown charged at ps) ≡ true
shown_none charged at ps e = rw e (spread_none room (unroll (at % room) ps))
