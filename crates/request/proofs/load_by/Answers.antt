-- Its bits are set, and then it is said.
use mathlib.Core.Path.{ap, ◌∙◌}
use mathlib.Core.Bool.{false}
use Rattle.words.specs.After.{yields}
use Rattle.layout.specs.Layout.{config}
use Rattle.translate.specs.Translate.{translation}
use Rattle.request.specs.Access.{load_by}
use Rattle.request.proofs.Held.{load_said}
use Rattle.request.proofs.load_by.Goals as goal

pub returns : goal.returns
returns c =
    let loaded = c.loaded in
    let settle = c.settle in
    let args = c.args in
    loaded.ensures
    ∙ ap (λ m. load_by args.before args.address.0 args.width (λ x. x) (yields (translation args.t.held args.t.exits args.t.walked false) m) args.t.walked) settle.ensures
    ∙ load_said (config args.space.layout) args.space.top args.root.0 args.before args.t.held args.address.0 args.width args.t.exits args.t.walked args.t.sets args.mem.now
