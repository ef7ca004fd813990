use Rattle.f90_names.proofs.kinds.OfDeclarations.SizeLaws.{given_are}
use Rattle.f90_names.proofs.kinds.declarations.limits.has_bounds.Goals as goal

pub returns : goal.returns
returns c f h =
    let g = given_are c.args.statement.now f h in
    let b = c.have_bounds.ensures g.entities (rw c.given.ensures g.are) in
    (λ t. g.bounds.0 (b.0 t), λ k. b.1 (g.bounds.1 k))
