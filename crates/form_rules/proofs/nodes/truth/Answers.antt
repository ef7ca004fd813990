use Rattle.tree.specs.Plain.{Logic}
use Rattle.form_rules.proofs.Writing.{truth_ready}
use Rattle.form_rules.proofs.nodes.truth.Goals as goal

pub returns : goal.returns
returns c =
    let loops = c.args.loops.now in
    let symbols = c.args.symbols.now in
    c.settled.ensures (Logic c.args.value) (truth_ready loops symbols c.args.value)
