use Rattle.std.proofs.Common.{◌≡◌, ◌++◌, length, rules}
use Rattle.tree.specs.View.{expression_of}
use Rattle.tree.specs.Plain.{Unary}
use Rattle.form_rules.proofs.Writing.{un_ready}
use Rattle.form_rules.proofs.nodes.with_sign.Goals as goal

pub returns : goal.returns
returns c =
    let loops = c.args.loops.now in
    let symbols = c.args.symbols.now in
    let same : c.in_ok-operand.operand.value ≡ c.args.a.expr = search rules in
    λ d w. c.settled.ensures (Unary c.args.op d)
    (un_ready loops symbols c.args.op d c.args.a c.sign_part-part.result w
    (λ few. c.sign_part-part.ensures (length loops) (loops ++ symbols) (expression_of c.args.a.expr) few (w.known few)) c.in_ok-operand.operand same)
