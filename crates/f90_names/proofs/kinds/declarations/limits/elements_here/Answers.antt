use Rattle.std.proofs.Common.{ap, sym, ◌∙◌}
use Rattle.meaning.specs.element_counts.Counts.{capped}
use Rattle.f90_names.proofs.kinds.OfDeclarations.SizeLaws.{given_are}
use Rattle.f90_names.proofs.kinds.declarations.limits.elements_here.Goals as goal

pub returns : goal.returns
returns c f h n =
    let g = given_are c.args.statement.now f h in
    c.elements_of.ensures g.entities (rw c.given.ensures g.are) (g.narrow n) ∙ ap capped (sym g.elements)
