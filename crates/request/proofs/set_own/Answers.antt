-- Where the whole walk arrives, the entries in its tables are those that it read.
use mathlib.Core.Path.{◌≡◌, sym, ap, ◌∙◌}
use native.Mathlib.Omega.{arith}
use Rattle.spec.specs.Entry.{page_of}
use Rattle.layout.specs.Layout.{config}
use Rattle.walk.specs.declared.Trail.{Trail}
use Rattle.walk.specs.Memory.{walked_of, root_trail}
use Rattle.translate.specs.Translate as translate
use Rattle.accessed.specs.Entries.{seen_of}
use Rattle.accessed.proofs.Walks.{seen_frames, seen_sum}
use Rattle.translate.proofs.Bits.{whole_entries}
use Rattle.request.specs.Access.{bits_of}
use Rattle.request.proofs.set_own.Goals.{After-read_by-read}
use Rattle.request.proofs.set_own.Goals as goal

-- the entries read
read : (c : After-read_by-read) → let args = c.args in
    let places = c.whole-trail.result.tables in
    c.read_by-read.result ≡ seen_of (config args.space.layout) places args.space.layout.levels (page_of args.address.0)
read c =
    let args = c.args in
    let places = c.whole-trail.result.tables in
    c.read_by-read.ensures ∙ ap (seen_of (config args.space.layout) places args.space.layout.levels) c.page.ensures

pub set_bits-requires : goal.set_bits-requires
set_bits-requires c =
    let places = c.whole-trail.result.tables in
    let args = c.args in
    let pre = c.requires in
    let sum = seen_sum (config args.space.layout) places args.space.layout.levels (page_of args.address.0) in
    rw (read (goal.at.set_bits-requires c).After-read_by-read) (omega (arith, sum, pre.0), seen_frames (config args.space.layout) places args.space.layout.levels (page_of args.address.0) pre.3)

pub returns-in-Arrived : goal.returns-in-Arrived
unfolding bits_of root_trail
returns-in-Arrived c =
    let set-bits = c.set_bits in
    let whole = c.whole-trail in
    let args = c.args in
    let pre = c.requires in
    let came : walked_of (config args.space.layout) args.space.top args.mem.now 0 (translate.whole (config args.space.layout) args.store args.root.0 args.address.0) ≡ _ = sym (ap (λ (t : Trail). t.walked) whole.ensures) ∙ c.in-Arrived.is in
    rw (came) (rw (read (goal.at.returns-in-Arrived c).After-read_by-read, whole.ensures, whole_entries (config args.space.layout) args.space.top args.mem.now args.root.0 args.store args.address.0 _ _ _ (omega (arith, pre.0)) came) at set-bits.ensures)

pub returns-in-Faulted : goal.returns-in-Faulted
unfolding bits_of root_trail
returns-in-Faulted c =
    let whole = c.whole-trail in
    rw (← ap (λ (t : Trail). t.walked) whole.ensures, c.in-Faulted.is)

pub returns-in-Damaged : goal.returns-in-Damaged
unfolding bits_of root_trail
returns-in-Damaged c =
    let whole = c.whole-trail in
    rw (← ap (λ (t : Trail). t.walked) whole.ensures, c.in-Damaged.is)
