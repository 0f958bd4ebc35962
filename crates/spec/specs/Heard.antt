-- What is heard of a call by who does not count: its line but for references, exits and a forecast's figures. Document 02, 7), says that
-- the automatic choice changes nothing else.
-- Assumes nothing.
use Rattle.spec.specs.Answer.{Line, ok, value, done, fault, no, figures}

abbrev pub bare : Line → Line
bare ok = ok
bare (value v r e) = value v 0 0
bare (done r e) = done 0 0
bare (fault x l g r e) = fault x l g 0 0
bare (no n) = no n
bare (figures r e t) = figures 0 0 0
