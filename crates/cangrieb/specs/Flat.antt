-- A call's record and answer as the C interface has them: words in fixed order.
use Rattle.std.specs.Prelude.{ℕ, ◌+◌, ◌-◌, ◌*◌, ◌/◌, ◌%◌, ◌^◌, not, ◌&&◌, cond, List, eqb, leb, ltb, get_or}
use Rattle.spec.specs.declared.Answer.{Answer}
use Rattle.spec.specs.declared.Lookup.{Lookup}
use Rattle.spec.specs.Answer as say
use Rattle.spec.specs.Answer.{Line, line}
use Rattle.words.specs.After.{After, yields}
use Rattle.record.specs.declared.Head.{Head}
use Rattle.record.specs.declared.Record.{Record}
use Rattle.bits.specs.Bit.{bit}
use Rattle.marks.specs.Table.{room, lookup_in}
use Rattle.choice.specs.declared.Tally.{Tally}
use Rattle.choice.specs.Window.{with_charged, charges_of}
use Rattle.choice.specs.Order.{automatic_at}
use Rattle.record.specs.Record.{record_by, head_of, head_tally}
use Rattle.record.specs.Words.{head_in, head_words}
use Rattle.translate.specs.declared.Held.{Held}
use Rattle.calls.specs.declared.Reply.{Reply}
use Rattle.calls.specs.Calls.{tally_after, head_window}
use Rattle.cangrieb.specs.declared.FlatAnswer.{FlatAnswer}
use Rattle.cangrieb.specs.declared.FlatMark.{FlatMark}

-- ---- the record in four parts

-- with another word of the requests charged
abbrev pub head_charged : Head → ℕ → Head
head_charged h n = head_tally h (with_charged h.tally n)

-- after a load or a store with that answer, which left that held and is charged to nobody
abbrev pub window_in : Head → Held → Answer → Head
window_in h x a = head_window h x (tally_after a h.tally)

-- the record that the head and the three arrays say: the places of the marks, then the ring and the order of the automatic choice
abbrev pub record_in : List ℕ → List ℕ → List ℕ → List ℕ → Record
record_in ws place ring order = record_by (head_in ws) place ring order

-- ---- answers

abbrev pub said : ℕ → ℕ → ℕ → ℕ → ℕ → ℕ → ℕ → FlatAnswer
said k n c l g r e = record { kind = k; number = n; letter = c; level = l; frame = g; references = r; exits = e }

-- the numbers of a line: kind 0 is `ok`, 1 `value V R E`, 2 `done R E`, 3 `fault C L G R E`, 4 `no N`, 5 a forecast's figures; the number is V, N
-- or the tables
abbrev pub said_by : Line → FlatAnswer
said_by say.ok = said 0 0 0 0 0 0 0
said_by (say.value v r e) = said 1 v 0 0 0 r e
said_by (say.done r e) = said 2 0 0 0 0 r e
said_by (say.fault c l g r e) = said 3 0 c l g r e
said_by (say.no n) = said 4 n 0 0 0 0 0
said_by (say.figures r e t) = said 5 t 0 0 0 r e

abbrev pub answer_of : Answer → FlatAnswer
answer_of x = said_by (line x)

-- ---- what an exported call leaves

pub record Flat : Type 0 where
  pub head : List ℕ
  pub place : List ℕ
  pub ring : List ℕ
  pub order : List ℕ
  pub answer : FlatAnswer

abbrev pub flat : List ℕ → List ℕ → List ℕ → List ℕ → FlatAnswer → Flat
flat ws place ring order a = record { head = ws; place = place; ring = ring; order = order; answer = a }

abbrev pub reply_of : Reply → Flat
reply_of r =
    flat (head_words (head_of r.unit)) r.unit.guest.marks.place r.unit.guest.choice.ring r.unit.guest.choice.order (answer_of r.answer)

abbrev pub left_of : After Reply → After Flat
left_of e = yields (reply_of e.result) e.memory

-- ---- what the record's own methods say

-- the depth of an address by the places of the marks, and how many were read for it
abbrev pub lookup_of : Head → List ℕ → ℕ → Lookup
lookup_of h place a = lookup_in h.layout.levels (record { set = h.set; place = place }) a

abbrev pub no_mark : FlatMark
no_mark = record { kind = 0; level = 0; address = 0; charges = 0 }

-- the low bits of an address of n levels, with every bit above them as the highest of them
unfoldable pub legal_of : ℕ → ℕ → ℕ
legal_of n low = cond (ltb low (2 ^ (11 + 9 * n))) low (2 ^ 64 - 2 ^ (12 + 9 * n) + low)

-- the lowest address that a mark with the key k holds for: the indexes that it keeps, and 0 below them. Above level n − 1 it keeps none
unfoldable pub lowest_of : ℕ → ℕ → ℕ
lowest_of n k = cond (ltb n 6 && ltb (k % 8) n) (legal_of n (k / 8 % 2 ^ (9 * (n - k % 8)) * 2 ^ (12 + 9 * (k % 8)))) 0

-- of a mark at the place i: 2 if it is automatic, else 1. A count above 64 is no count of marks
unfoldable pub kind_at : ℕ → List ℕ → ℕ → ℕ
kind_at count order i = cond (leb count room && automatic_at count order i) 2 1

-- of a mark with the key k, of n levels: the requests of the window that were charged to its prefix. Only a mark of level 1 has any, with
-- the choice on; of 6 levels or more there is no record
unfoldable pub charges_at : ℕ → List ℕ → Tally → ℕ → ℕ
charges_at n ring t k = cond (eqb (k % 8) 1 && not (eqb t.on 0) && ltb n 6) (charges_of n ring t (k / 8)) 0

abbrev pub mark_with : Record → ℕ → ℕ → FlatMark
mark_with r i k = record {
  kind = kind_at r.guest.choice.tally.count r.guest.choice.order i;
  level = k % 8;
  address = lowest_of r.layout.levels k;
  charges = charges_at r.layout.levels r.guest.choice.ring r.guest.choice.tally k;
}

-- what stands at the place i
unfoldable pub mark_in : Record → ℕ → FlatMark
mark_in r i = cond (ltb i room && eqb (bit r.guest.marks.set i) 1) (mark_with r i (get_or r.guest.marks.place i 0)) no_mark
