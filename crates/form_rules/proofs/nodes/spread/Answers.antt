use Rattle.std.proofs.Common.{◌≡◌, rules}
use Rattle.tree.specs.Plain.{Spread}
use Rattle.form_rules.proofs.Writing.{spread_ready}
use Rattle.form_rules.proofs.nodes.spread.Goals as goal

pub returns : goal.returns
returns c =
    let loops = c.args.loops.now in
    let symbols = c.args.symbols.now in
    let one : c.in_ok-left.left.value ≡ c.args.array.expr = search rules in
    let two : c.in_ok-right.right.value ≡ c.args.extent.expr = search rules in
    λ d e v w. c.settled.ensures (Spread d c.args.dimension e)
    (spread_ready loops symbols c.args.dimension d e c.args.array c.args.extent c.either-had_loop.result v w c.either-had_loop.ensures c.in_ok-left.left c.in_ok-right.right one two)
