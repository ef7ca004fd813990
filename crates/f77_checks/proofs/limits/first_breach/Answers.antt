use Rattle.std.proofs.Common.{List}
use Rattle.meaning.specs.Dialect.{fortran77}
use Rattle.meaning.specs.Store.{Store}
use Rattle.f77_grammar.specs.Statement77.{Labelled}
use Rattle.f77_grammar.specs.program.Limits.{constants_of}
use Rattle.f77_grammar.specs.syntax.Views.{text_of}
use Rattle.f77_checks.proofs.Breaches.{first_of_limits}
use Rattle.f77_checks.proofs.limits.first_breach.Goals as goal

pub returns : goal.returns
returns c =
    let text : List Labelled = text_of c.args.text.now in
    let s : Store = constants_of (fortran77 c.args.known.now.constants.width) (text_of c.args.text.now) in
    first_of_limits c.args.known.now.constants.width (text_of c.args.text.now) c.breach_at-names.result c.breach_at-blocks.result c.breach_at-bounds.result c.breach_at-elements.result c.breach_at-values.result
    c.sooner.result c.sooner-2.result c.sooner-3.result c.sooner-4.result
    (c.breach_at-names.ensures c.args.known.now.constants.width text c.in_ok-many_names.ensures)
    (c.breach_at-blocks.ensures c.args.known.now.constants.width text c.in_ok-many_blocks.ensures)
    (c.breach_at-bounds.ensures c.args.known.now.constants.width text (c.in_ok-reversed_bounds.ensures s c.requires.constants))
    (c.breach_at-elements.ensures c.args.known.now.constants.width text (c.in_ok-many_elements.ensures s c.requires.constants))
    (c.breach_at-values.ensures c.args.known.now.constants.width text (c.in_ok-bad_constant.ensures s c.requires.constants))
    c.sooner.ensures c.sooner-2.ensures c.sooner-3.ensures c.sooner-4.ensures
