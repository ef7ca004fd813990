use Rattle.std.proofs.Common.{ℕ, List, Option}
use Rattle.std.proofs.lemmas.Bool.Decides.{Decides-at}
use Rattle.tree.specs.View.{expression_of}
use Rattle.f90_names.specs.declared.kinds.declarations.names.Declared.{Declared}
use Rattle.f90_names.specs.kinds.declarations.Names.{found}
use Rattle.f90_names.specs.kinds.Found.{are_numbers}
use Rattle.f90_names.proofs.kinds.StatementLaws.{numbers-are}
use Rattle.f90_names.proofs.kinds.statements.are_numbers.Goals as goal

pub returns : goal.returns
returns c ds t =
    let known : List ℕ → Option Declared = found c.args.names.now in
    Decides-at c.three_numbers.result (are_numbers known (expression_of c.args.first.now)
    (expression_of c.args.last.now) (expression_of c.args.step.now)) (cc)
    (numbers-are ds known t (expression_of c.args.first.now) (expression_of c.args.last.now)
    (expression_of c.args.step.now))
