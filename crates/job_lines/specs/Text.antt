-- The line of a record, byte by byte in ASCII. Document 01, "Job program".
-- Assumes nothing.
use Rattle.std.specs.Prelude.{ℕ, zero, suc, ◌+◌, ◌/◌, ◌%◌, cond, List, [], ◌∷◌, ◌++◌, ltb}
use Rattle.spec.specs.declared.Fault.{Fault}
use Rattle.spec.specs.declared.Answer.{Answer}
use Rattle.spec.specs.Answer as say
use Rattle.spec.specs.Answer.{Line, line, letter, level, frame}

-- the digit of a number below 16
abbrev pub digit : ℕ → ℕ
digit d = cond (ltb d 10) (48 + d) (87 + d)

-- a number in decimal digits: one, and at most so many more in front of it
unfoldable pub decimal : ℕ → ℕ → List ℕ
decimal zero n = digit (n % 10) ∷ []
decimal (suc k) n = cond (ltb n 10) (digit (n % 10) ∷ []) (decimal k (n / 10) ++ (digit (n % 10) ∷ []))

-- a word in hexadecimal, of just so many digits
unfoldable pub hexadecimal : ℕ → ℕ → List ℕ
hexadecimal zero n = []
hexadecimal (suc k) n = hexadecimal k (n / 16) ++ (digit (n % 16) ∷ [])

-- a space and a number; a number has at most 20 digits
abbrev pub number : ℕ → List ℕ
number n = (32 ∷ []) ++ decimal 19 n

abbrev pub pair : ℕ → ℕ → List ℕ
pair m n = number m ++ number n

-- the words ok, value, done, fault, no and figures, each after a space; value and fault are followed by one too
abbrev pub ok_text : List ℕ
ok_text = 32 ∷ 111 ∷ 107 ∷ []

abbrev pub value_text : List ℕ
value_text = 32 ∷ 118 ∷ 97 ∷ 108 ∷ 117 ∷ 101 ∷ 32 ∷ []

abbrev pub done_text : List ℕ
done_text = 32 ∷ 100 ∷ 111 ∷ 110 ∷ 101 ∷ []

abbrev pub fault_text : List ℕ
fault_text = 32 ∷ 102 ∷ 97 ∷ 117 ∷ 108 ∷ 116 ∷ 32 ∷ []

abbrev pub no_text : List ℕ
no_text = 32 ∷ 110 ∷ 111 ∷ []

abbrev pub figures_text : List ℕ
figures_text = 32 ∷ 102 ∷ 105 ∷ 103 ∷ 117 ∷ 114 ∷ 101 ∷ 115 ∷ []

abbrev pub fault_of : Fault → List ℕ
fault_of x = (letter x ∷ []) ++ pair (level x) (frame x)

-- what a call says, in bytes. No record of a job asks for a forecast: figures have a text so that each line has one
abbrev pub text_of : Line → List ℕ
text_of say.ok = ok_text
text_of (say.value v r e) = (value_text ++ hexadecimal 16 v) ++ pair r e
text_of (say.done r e) = done_text ++ pair r e
text_of (say.fault c l g r e) = (fault_text ++ ((c ∷ []) ++ pair l g)) ++ pair r e
text_of (say.no n) = no_text ++ number n
text_of (say.figures r e t) = (figures_text ++ pair r e) ++ number t

abbrev pub answer_text : Answer → List ℕ
answer_text x = text_of (line x)

-- the line of an answer: the record's number, the answer's text, and a newline
unfoldable pub line_of : ℕ → Answer → List ℕ
line_of n x = (decimal 19 n ++ answer_text x) ++ (10 ∷ [])
