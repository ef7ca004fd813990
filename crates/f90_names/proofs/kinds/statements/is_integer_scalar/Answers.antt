use Rattle.std.proofs.Common.{ℕ, List, Option}
use Rattle.std.proofs.lemmas.Bool.Decides.{Decides-at}
use Rattle.f90_names.specs.declared.kinds.declarations.names.Declared.{Declared}
use Rattle.f90_names.specs.kinds.declarations.Names.{found}
use Rattle.f90_names.specs.kinds.Found.{is_integer_scalar}
use Rattle.f90_names.proofs.kinds.StatementLaws.{integer_scalar-is}
use Rattle.f90_names.proofs.kinds.statements.is_integer_scalar.Goals as goal

pub returns : goal.returns
returns c ds t =
    let known : List ℕ → Option Declared = found c.args.names.now in
    Decides-at c.holds_integer.result (is_integer_scalar (known c.args.name)) (cc)
    (integer_scalar-is ds known t c.args.name)
