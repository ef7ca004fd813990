use Rattle.std.proofs.Common.{◌≡◌, ◌++◌, length, rules}
use Rattle.tree.specs.View.{expression_of}
use Rattle.tree.specs.Plain.{Binary}
use Rattle.form_rules.proofs.Writing.{bin_ready}
use Rattle.form_rules.proofs.nodes.in_pair.Goals as goal

pub returns : goal.returns
returns c =
    let loops = c.args.loops.now in
    let symbols = c.args.symbols.now in
    let one : c.in_ok-left.left.value ≡ c.args.a.expr = search rules in
    let two : c.in_ok-right.right.value ≡ c.args.b.expr = search rules in
    λ d e v w. c.settled.ensures (Binary c.args.op d e)
    (bin_ready loops symbols c.args.op d e c.args.a c.args.b c.either-had_loop.result c.pair_part-part.result v w c.either-had_loop.ensures
    (λ few. c.pair_part-part.ensures (length loops) (loops ++ symbols) (expression_of c.args.a.expr) (expression_of c.args.b.expr) few (v.known few) (w.known few))
    c.in_ok-left.left c.in_ok-right.right one two)
