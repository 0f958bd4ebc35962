-- What is owed is asked only where a bit lacks.
use mathlib.Core.Path.{◌≡◌, ap, ◌∙◌}
use native.Mathlib.Omega.{arith}
use Rattle.spec.specs.Entry.{page_of}
use Rattle.layout.specs.Layout.{config}
use Rattle.accessed.specs.Entries.{seen_of, seen_entries, owed_of}
use Rattle.accessed.proofs.Walks.{seen_frames, seen_sum}
use Rattle.translate.specs.Translate.{debt_by, entries_of}
use Rattle.translate.proofs.judge.Goals.{After-read_by-read}
use Rattle.translate.proofs.judge.Goals as goal

-- the entries read
read : (c : After-read_by-read) → c.read_by-read.result ≡ seen_of (config c.args.space.layout) c.args.tables.now c.args.space.layout.levels (page_of c.args.request.address.0)
read c = c.read_by-read.ensures ∙ ap (seen_of (config c.args.space.layout) c.args.tables.now c.args.space.layout.levels) c.page.ensures

pub lacks-requires : goal.lacks-requires
lacks-requires c =
    let args = c.args in
    let pre = c.requires in
    let sum = seen_sum (config args.space.layout) args.tables.now args.space.layout.levels (page_of args.request.address.0) in
    rw (read (goal.at.lacks-requires c).After-read_by-read) (omega (arith, sum, pre.0), seen_frames (config args.space.layout) args.tables.now args.space.layout.levels (page_of args.request.address.0) pre.3)

pub returns-then-not-lacks : goal.returns-then-not-lacks
unfolding entries_of
returns-then-not-lacks c =
    let if1 = c.if-not-lacks in
    let lacks = c.lacks in
    rw (← read (goal.at.returns-then-not-lacks c).After-read_by-read, ← lacks.ensures, if1.true)

pub owed-debt-requires : goal.owed-debt-requires
owed-debt-requires c =
    let args = c.args in
    let pre = c.requires in
    let sum = seen_sum (config args.space.layout) args.tables.now args.space.layout.levels (page_of args.request.address.0) in
    rw (read (goal.at.owed-debt-requires c).After-read_by-read) (pre, omega (arith, sum, pre.0), omega (arith, sum, pre.0), seen_frames (config args.space.layout) args.tables.now args.space.layout.levels (page_of args.request.address.0) pre.3)

pub returns : goal.returns
unfolding entries_of
returns c =
    let args = c.args in
    let owes = c.owes in
    let owed = c.owed-debt in
    let if1 = c.if-not-lacks in
    let lacks = c.lacks in
    let read_by_lem = c.read_by-read in
    let sum = rw (← read (goal.at.returns c).After-read_by-read) at (seen_sum (config args.space.layout) args.tables.now args.space.layout.levels (page_of args.request.address.0)) in
    rw (← read (goal.at.returns c).After-read_by-read, ← lacks.ensures, if1.false)
    (owes.ensures ∙ ap (debt_by args.request.depth) (owed.ensures ∙ ap (λ n. owed_of (config args.space.layout) args.space.top args.mem.now args.request.store n args.root.0 (seen_entries args.tables.now read_by_lem.result)) sum))
