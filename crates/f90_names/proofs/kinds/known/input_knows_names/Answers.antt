use Rattle.std.proofs.Common.{ℕ, List, Option, map}
use Rattle.std.proofs.lemmas.Bool.Decides.{Decides-at}
use Rattle.tree.specs.Plain.{items}
use Rattle.tree.specs.View.{item_of}
use Rattle.f90_grammar.specs.Items.{Input}
use Rattle.f90_names.specs.declared.kinds.declarations.names.Declared.{Declared}
use Rattle.f90_names.specs.kinds.declarations.Names.{found}
use Rattle.f90_names.specs.kinds.FoundNames.{knows_items}
use Rattle.f90_names.proofs.kinds.FoundNameLaws.{items-known}
use Rattle.f90_names.proofs.kinds.known.input_knows_names.Goals as goal

pub returns : goal.returns
returns c ds t =
    let known : List ℕ → Option Declared = found c.args.names.now in
    Decides-at c.knows_items.result (knows_items known Input (items (map item_of c.args.list.now))) (cc)
    (items-known ds known t Input (items (map item_of c.args.list.now)))
