-- The automatic choice of marks. Document 02, 7) and 9): a guest store that drops paths of depth 0 by their level 1 word is charged to a prefix,
-- and a prefix that was charged often of late gets a level 1 mark, so that its table is read directly and stores to it cost no exit.
-- Assumes nothing.
use Rattle.std.specs.Prelude.{ℕ, ◌-◌, Bool, true, false, not, ◌&&◌, ◌||◌, cond, List, [], ◌∷◌, eqb, leb, ltb, length, take, drop}
use Rattle.std.proofs.Math.Option.{Option, none, some}
use Rattle.spec.specs.declared.Fault.{Fault}
use Rattle.spec.specs.Config.{Config}
use Rattle.spec.specs.Prefix.{same, any, keep}
use Rattle.spec.specs.Walk.{Result, granted, failed}
use Rattle.spec.specs.Plain.{Place}
use Rattle.spec.specs.Book.{Mark, Held, Book, Window, same_mark, marking, unmarking}

-- how many guest loads and stores the window holds
abbrev pub window_room : ℕ
window_room = 64

-- how many charges in the window make a mark
abbrev pub charges_for_mark : ℕ
charges_for_mark = 3

-- ---- the first of a list in some order; of two that neither goes before the other, the later in the list

abbrev pub better : {A : Type 0} → (A → A → Bool) → A → Option A → A
better before x none = x
better before x (some y) = cond (before x y) x y

abbrev pub first_of : {A : Type 0} → (A → A → Bool) → List A → Option A
first_of before [] = none
first_of before (x ∷ xs) = some (better before x (first_of before xs))

-- the order of addresses, on prefixes of one length
abbrev pub lower : List ℕ → List ℕ → Bool
lower [] ys = false
lower (x ∷ xs) [] = false
lower (x ∷ xs) (y ∷ ys) = ltb x y || (eqb x y && lower xs ys)

-- ---- charges

-- is h a path of depth 0 whose level 1 word is word i of host frame t? That word is the last of the N guest entries that its shadow part read
abbrev pub reads_leaf : Config → ℕ → ℕ → Held → Bool
reads_leaf c t i h = eqb (length h.path) c.levels && any (λ r. eqb t r.0 && eqb i r.1) (drop (c.levels - 1) h.reads)

abbrev pub leaf_prefixes : Config → List Held → List (List ℕ)
leaf_prefixes c [] = []
leaf_prefixes c (h ∷ hs) = take (c.levels - 1) h.path ∷ leaf_prefixes c hs

-- what a store to word i of its page is charged to: the lowest prefix of N − 1 indexes among the paths that it drops by their level 1 word;
-- hs: the paths held once the store has filled its own and before it drops
unfoldable pub charge_of : Config → ℕ → Result Fault Place → List Held → Option (List ℕ)
charge_of c i (failed x) hs = none
charge_of c i (granted p) hs = first_of lower (leaf_prefixes c (keep (reads_leaf c p.0 i) hs))

abbrev pub charged_to : List ℕ → Option (List ℕ) → Bool
charged_to p none = false
charged_to p (some q) = same p q

-- how many of the window's requests were charged to p
abbrev pub charges : List ℕ → Window → ℕ
charges p w = length (keep (charged_to p) w)

-- ---- automatic marks

abbrev pub leaf_mark : List ℕ → Mark
leaf_mark p = record { level = 1; prefix = p }

abbrev pub is_automatic : List (List ℕ) → Mark → Bool
is_automatic ps x = any (λ p. same_mark (leaf_mark p) x) ps

-- the operator's marks
abbrev pub owned : Book → List Mark
owned b = keep (λ x. not (is_automatic b.automatic x)) b.marks

abbrev pub full : Config → Book → Bool
full c b = leb c.mark_room (length b.marks)

-- Which automatic mark leaves where room is needed: the one with the fewest charges. They stand in the order of setting, the newest first, and
-- `first_of` takes the later of two alike: so of these the one that was set longest ago. A mark that is set again goes to the front, as a new one
abbrev pub goes_before : Window → List ℕ → List ℕ → Bool
goes_before w p q = ltb (charges p w) (charges q w)

abbrev pub leaving : Window → List (List ℕ) → Option (List ℕ)
leaving w ps = first_of (goes_before w) ps

-- with these automatic marks, and this window; the marks themselves are as they were
abbrev pub choosing : Book → List (List ℕ) → Window → Book
choosing b ps w = record { marks = b.marks; held = b.held; automatic = ps; window = w; choice = b.choice }

-- an automatic mark is cleared; its charges stay in the window
abbrev pub withdrawn : List ℕ → Book → Book
withdrawn p b = choosing (unmarking (leaf_mark p) b) (keep (λ q. not (same p q)) b.automatic) b.window

abbrev pub withdrawn_by : Option (List ℕ) → Book → Book
withdrawn_by none b = b
withdrawn_by (some p) b = withdrawn p b

-- where no mark more can be set, an automatic one leaves, if there is one
abbrev pub room_made : Config → Book → Book
room_made c b = cond (full c b) (withdrawn_by (leaving b.window b.automatic) b) b

-- an automatic mark is set
abbrev pub appointed : List ℕ → Book → Book
appointed p b = choosing (marking (leaf_mark p) b) (p ∷ b.automatic) b.window

abbrev pub appointed_in : Config → List ℕ → Book → Book
appointed_in c p b = cond (full c b) b (appointed p b)

-- the prefix just charged gets its mark, if it has charges enough and there is room
abbrev pub charged : Config → Option (List ℕ) → Book → Book
charged c none b = b
charged c (some p) b = cond (leb charges_for_mark (charges p b.window)) (appointed_in c p (room_made c b)) b

-- the request goes into the window, the oldest of 65 out of it
abbrev pub entered : Option (List ℕ) → Book → Book
entered x b = choosing b b.automatic (take window_room (x ∷ b.window))

-- a guest load or store that was not refused, after its drops; its charge is in the window when charges are counted
unfoldable pub observed : Config → Option (List ℕ) → Book → Book
observed c x b = cond b.choice (charged c x (entered x b)) b

-- a root load empties the window; automatic marks stay
abbrev pub emptied : Book → Book
emptied b = choosing b b.automatic []

-- ---- the operator's marks among them

abbrev pub is_some : {A : Type 0} → Option A → Bool
is_some none = false
is_some (some x) = true

-- can the operator's mark be set? A place is free, or an automatic mark can leave; refused with 7 if not
abbrev pub room_for : Config → Book → Bool
room_for c b = not (full c b) || is_some (leaving b.window b.automatic)

-- the operator sets a mark: an automatic one becomes theirs; any other that finds no place free makes an automatic one leave
unfoldable pub operated : Config → Mark → Book → Book
operated c x b = marking x (cond (is_automatic b.automatic x) (withdrawn x.prefix b) (room_made c b))
