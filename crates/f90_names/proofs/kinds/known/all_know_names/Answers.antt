use Rattle.std.proofs.Common.{ℕ, List, Option, map}
use Rattle.std.proofs.lemmas.Bool.Decides.{Decides-at}
use Rattle.tree.specs.Plain.{expressions}
use Rattle.tree.specs.View.{expression_of}
use Rattle.f90_names.specs.declared.kinds.declarations.names.Declared.{Declared}
use Rattle.f90_names.specs.kinds.declarations.Names.{found}
use Rattle.f90_names.specs.kinds.FoundNames.{knows_all}
use Rattle.f90_names.proofs.kinds.FoundNameLaws.{all-known}
use Rattle.f90_names.proofs.kinds.known.all_know_names.Goals as goal

pub returns : goal.returns
returns c ds t =
    let known : List ℕ → Option Declared = found c.args.names.now in
    Decides-at c.knows_all.result (knows_all known (expressions (map expression_of c.args.exprs.now))) (cc)
    (all-known ds known t (expressions (map expression_of c.args.exprs.now)))
