use Rattle.std.proofs.Common.{sym, subst}
use Rattle.tree.specs.View.{expression_of}
use Rattle.f90_names.specs.kinds.declarations.Names.{found}
use Rattle.f90_names.specs.kinds.Kinds.{IsKindOf}
use Rattle.f90_names.proofs.kinds.KindLaws.{told}
use Rattle.f90_names.proofs.kinds.kinds.kind_of.Goals as goal

pub returns : goal.returns
returns c ds t =
    subst (IsKindOf ds (expression_of c.args.expr.now)) (sym c.find_kind.ensures)
    (told ds (found c.args.names.now) t (expression_of c.args.expr.now))
