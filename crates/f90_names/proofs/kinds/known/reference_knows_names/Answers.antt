use Rattle.std.proofs.Common.{ℕ, List, Option}
use Rattle.std.proofs.lemmas.Bool.Decides.{Decides-at}
use Rattle.tree.specs.View.{reference_of}
use Rattle.f90_names.specs.declared.kinds.declarations.names.Declared.{Declared}
use Rattle.f90_names.specs.kinds.declarations.Names.{found}
use Rattle.f90_names.specs.kinds.FoundNames.{knows_reference}
use Rattle.f90_names.proofs.kinds.FoundNameLaws.{reference-is_known}
use Rattle.f90_names.proofs.kinds.known.reference_knows_names.Goals as goal

pub returns : goal.returns
returns c ds t =
    let known : List ℕ → Option Declared = found c.args.names.now in
    Decides-at c.knows_reference.result (knows_reference known (reference_of c.args.reference.now)) (cc)
    (reference-is_known ds known t (reference_of c.args.reference.now))
