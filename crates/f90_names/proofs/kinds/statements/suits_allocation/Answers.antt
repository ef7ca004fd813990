use Rattle.std.proofs.Common.{ℕ, List, Option, map}
use Rattle.std.proofs.lemmas.Bool.Decides.{Decides-at}
use Rattle.tree.specs.Plain.{expressions}
use Rattle.tree.specs.View.{expression_of}
use Rattle.f90_names.specs.declared.kinds.declarations.names.Declared.{Declared}
use Rattle.f90_names.specs.kinds.declarations.Names.{found}
use Rattle.f90_names.specs.kinds.Found.{allocates}
use Rattle.f90_names.proofs.kinds.StatementLaws.{allocation-is}
use Rattle.f90_names.proofs.kinds.statements.suits_allocation.Goals as goal

pub returns : goal.returns
returns c ds t =
    let known : List ℕ → Option Declared = found c.args.names.now in
    Decides-at c.allocates.result (allocates known c.args.name (expressions (map expression_of c.args.extents.now)))
    (cc) (allocation-is ds known t c.args.name (expressions (map expression_of c.args.extents.now)))
