use Rattle.std.proofs.Common.{ℕ, List, Option}
use Rattle.std.proofs.lemmas.Bool.Decides.{Decides-at}
use Rattle.f90_names.specs.declared.kinds.declarations.names.Declared.{Declared}
use Rattle.f90_names.specs.kinds.declarations.Names.{found}
use Rattle.f90_names.specs.kinds.Found.{is_later}
use Rattle.f90_names.proofs.kinds.StatementLaws.{deallocation-is}
use Rattle.f90_names.proofs.kinds.statements.suits_deallocation.Goals as goal

pub returns : goal.returns
returns c ds t =
    let known : List ℕ → Option Declared = found c.args.names.now in
    Decides-at c.is_later.result (is_later (known c.args.name)) (cc) (deallocation-is ds known t c.args.name)
