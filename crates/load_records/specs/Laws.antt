-- A draw is below 2^31, and so is the state after a call; a number, byte by byte; a load, record by record.
use Rattle.std.specs.Prelude.{ℕ, zero, suc, ◌+◌, ◌-◌, ◌/◌, ◌%◌, ◌≤◌, ◌<◌, ◌≡◌, refl, Bool, true, false, cond, List, [], ◌∷◌, ◌++◌, eqb, length}
use Rattle.std.proofs.Common.{arith, ap, ap₂, sym, ◌∙◌, lt-ltb, le-ltb, length-append}
use Rattle.job_records.specs.Laws.{number_front}
use Rattle.job_records.specs.Records.{number}
use Rattle.job_records.specs.Encoded.{bytes_of, open_bytes, call_bytes}
use Rattle.load_spec.specs.declared.Drawn.{Drawn}
use Rattle.load_spec.specs.Load.{states, next, kind_by, drawn_as, drawn_by, calls_from, bytes_all, most, load_of, load_by}

pub next_below : (s : ℕ) → next s < states
next_below s = omega arith

pub either : (P : Drawn → Type 0) (t : Bool) (x y : Drawn) → P x → P y → P (cond t x y)
either P true x y p q = p
either P false x y p q = q

-- the state after the call is one
abbrev Below : Drawn → Type 0
Below x = x.state < states

as_below : (k d e f : ℕ) → d < states → e < states → f < states → (drawn_as k d e f).state < states
as_below k d e f p q r =
    either Below (eqb k 2) _ _ p
    (either Below (eqb k 3) _ _ r
    (either Below (eqb k 4) _ _ p
    (either Below (eqb k 5) _ _ q
    (either Below (eqb k 6) _ _ q
    (either Below (eqb k 7) _ _ p
    (either Below (eqb k 8) _ _ q q))))))

pub drawn_below : (s : ℕ) → (drawn_by s).state < states
unfolding drawn_by
drawn_below s =
    as_below (kind_by (next s)) (next (next s)) (next (next (next s))) (next (next (next (next s))))
    (next_below (next s)) (next_below (next (next s))) (next_below (next (next (next s))))

-- ---- a number's bytes

-- none are left
pub bytes_none : (w i n : ℕ) → w ≤ i → bytes_of (w - i) n ≡ []
bytes_none w i n h =
    let e : w - i ≡ 0 = omega arith in
    ap (λ (k : ℕ). bytes_of k n) e

-- the next one, and those behind it
pub bytes_more : (w i n : ℕ) → i < w → bytes_of (w - i) n ≡ (n % 256) ∷ bytes_of (w - (i + 1)) (n / 256)
bytes_more w i n h =
    let e : w - i ≡ suc (w - (i + 1)) = omega arith in
    ap (λ (k : ℕ). bytes_of k n) e

pub length_bytes : (w n : ℕ) → length (bytes_of w n) ≡ w
length_bytes zero n = refl
length_bytes (suc w) n = ap suc (length_bytes w (n / 256))

-- ---- the load, record by record

pub load_is : (seed count : ℕ) → seed < states → count ≤ most → load_of seed count ≡ open_bytes 4 4 ++ bytes_all (calls_from count seed)
unfolding load_of
load_is seed count h k = rw (lt-ltb seed states h, le-ltb most count k)

pub calls_none : (n s : ℕ) → n ≡ 0 → bytes_all (calls_from n s) ≡ []
unfolding bytes_all calls_from
calls_none n s e = rw e

-- d is the call after the state, and i calls came before it
pub calls_more : (n i s : ℕ) (d : Drawn) → i < n → d ≡ drawn_by s → bytes_all (calls_from (n - i) s) ≡ call_bytes d.call ++ bytes_all (calls_from (n - (i + 1)) d.state)
unfolding bytes_all calls_from
calls_more n i s d h e =
    let f : n - i ≡ suc (n - (i + 1)) = omega arith in
    rw (e, f)

-- ---- what is out of range or cut asks for nothing

pub load_seed : (seed count : ℕ) → states ≤ seed → load_of seed count ≡ []
unfolding load_of
load_seed seed count h = rw (le-ltb seed states h)

pub load_count : (seed count : ℕ) → seed < states → most < count → load_of seed count ≡ []
unfolding load_of
load_count seed count h k = rw (lt-ltb seed states h, lt-ltb most count k)

pub load_cut : (input : List ℕ) → length input < 16 → load_by input ≡ []
unfolding load_by
load_cut input h = rw (lt-ltb (length input) 16 h)

pub load_whole_lem : (input : List ℕ) → 16 ≤ length input → load_by input ≡ load_of (number 8 input 0) (number 8 input 8)
unfolding load_by
load_whole_lem input h = rw (le-ltb (length input) 16 h)

-- ---- bytes behind the first 16 do not count

pub load_front : (s t : List ℕ) → length s ≡ 16 → load_by (s ++ t) ≡ load_by s
load_front s t h =
    let more : length (s ++ t) ≡ length s + length t = length-append s t in
    load_whole_lem (s ++ t) (omega arith)
    ∙ ap₂ load_of (number_front 8 s t 0 (omega arith)) (number_front 8 s t 8 (omega arith))
    ∙ sym (load_whole_lem s (omega arith))
