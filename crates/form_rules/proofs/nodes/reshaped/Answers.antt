use Rattle.std.proofs.Common.{◌≡◌, rules}
use Rattle.tree.specs.Plain.{Reshape, expressions}
use Rattle.form_rules.proofs.Writing.{reshape_ready}
use Rattle.form_rules.proofs.nodes.reshaped.Goals as goal

pub returns : goal.returns
returns c =
    let loops = c.args.loops.now in
    let symbols = c.args.symbols.now in
    let same : c.in_ok-inner.inner.value ≡ c.args.array.expr = search rules in
    λ d es v w. c.settled.ensures (Reshape d (expressions es))
    (reshape_ready loops symbols d es c.args.array c.args.extents c.either-had_loop.result v w c.either-had_loop.ensures c.in_ok-inner.inner same)
