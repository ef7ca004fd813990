use Rattle.tree.specs.Plain.{Apply, expressions}
use Rattle.form_rules.proofs.Writing.{call_ready}
use Rattle.form_rules.proofs.nodes.called.Goals as goal

pub returns : goal.returns
returns c =
    let loops = c.args.loops.now in
    let symbols = c.args.symbols.now in
    λ es a. c.settled.ensures (Apply c.args.function (expressions es))
    (call_ready loops symbols c.args.function es c.args.arguments c.constant_part-part.result c.call_of.result a c.constant_part-part.ensures.constant c.call_of.ensures c.constant_part-part.ensures.form)
