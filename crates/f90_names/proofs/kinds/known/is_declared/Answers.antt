use Rattle.std.proofs.Common.{ℕ, List, Option}
use Rattle.std.proofs.lemmas.Bool.Decides.{Decides-at}
use Rattle.f90_names.specs.declared.kinds.declarations.names.Declared.{Declared}
use Rattle.f90_names.specs.kinds.declarations.Names.{found}
use Rattle.f90_names.specs.kinds.FoundNames.{is_known}
use Rattle.f90_names.proofs.kinds.FoundNameLaws.{name-known}
use Rattle.f90_names.proofs.kinds.known.is_declared.Goals as goal

pub returns : goal.returns
returns c ds t =
    let known : List ℕ → Option Declared = found c.args.names.now in
    Decides-at c.is_known.result (is_known (known c.args.name) 0) (cc) (name-known ds known t c.args.name 0)
