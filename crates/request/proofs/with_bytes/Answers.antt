-- A whole word is the value's; else the word by its promise, and then with another part of it.
use mathlib.Core.Path.{◌≡◌, sym, ap₂, ◌∙◌}
use Prim.Native.Nat.{◌*◌, ◌%◌}
use native.Mathlib.Nat.{mod-eq_of_lt}
use native.Mathlib.Omega.{arith}
use Rattle.spec.specs.Entry.{word_of}
use Rattle.spec.specs.Bytes.{with_part, with_bytes}
use Rattle.spec_laws.proofs.Bytes.{put_whole}
use Rattle.words.specs.Words.{at, word_in}
use Rattle.request.proofs.with_bytes.Goals as goal

pub returns-then-width-eq8 : goal.returns-then-width-eq8
unfolding with_bytes
returns-then-width-eq8 c =
    let args = c.args in
    let pre = c.requires in
    let word = word_in args.mem.now args.page.0 (word_of args.address) in
    let small = (c.shared_slice_known-1.given (at args.page.0 (word_of args.address))).fits in
    let all : 8 * args.width ≡ 64 = omega (arith, c.if-width-eq8.true) in
    let low : 8 * (args.address % 8) ≡ 0 = omega (arith, pre.1, c.if-width-eq8.true) in
    sym (ap₂ (λ n k. with_part n k args.value word) all low ∙ put_whole 64 args.value small ∙ mod-eq_of_lt (omega arith))

pub returns : goal.returns
unfolding with_bytes
returns c =
    let word_of_call = c.word_of in
    let word_in_call = c.word_in-word in
    rw (c.with_part.ensures, word_in_call.ensures, word_of_call.ensures.0)
