use Rattle.std.proofs.Common.{ℕ, List, Option}
use Rattle.std.proofs.lemmas.Bool.Decides.{Decides-at}
use Rattle.tree.specs.View.{expression_of}
use Rattle.f90_names.specs.declared.kinds.declarations.names.Declared.{Declared}
use Rattle.f90_names.specs.kinds.declarations.Names.{found}
use Rattle.f90_names.specs.kinds.FoundNames.{knows}
use Rattle.f90_names.proofs.kinds.FoundNameLaws.{names-known}
use Rattle.f90_names.proofs.kinds.known.knows_names.Goals as goal

pub returns : goal.returns
returns c ds t =
    let known : List ℕ → Option Declared = found c.args.names.now in
    Decides-at c.knows.result (knows known (expression_of c.args.expr.now)) (cc)
    (names-known ds known t (expression_of c.args.expr.now))
