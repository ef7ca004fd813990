use Rattle.tree.specs.Plain.{Constructor, expressions}
use Rattle.tree.specs.View.{constructor_loops as plain_loops}
use Rattle.form_rules.proofs.Writing.{list_ready}
use Rattle.form_rules.proofs.nodes.listed.Goals as goal

pub returns : goal.returns
returns c =
    let loops = c.args.loops.now in
    let symbols = c.args.symbols.now in
    λ es ls w t. c.settled.ensures (Constructor (expressions es) (plain_loops ls))
    (list_ready loops symbols es ls c.args.list c.args.turns.0 c.args.turns.1 c.either-had_loop.result w t c.either-had_loop.ensures)
