use Rattle.std.proofs.Common.{◌≡◌, rules}
use Rattle.tree.specs.Plain.{Transpose}
use Rattle.form_rules.proofs.Writing.{transpose_ready}
use Rattle.form_rules.proofs.nodes.transposed.Goals as goal

pub returns : goal.returns
returns c =
    let loops = c.args.loops.now in
    let symbols = c.args.symbols.now in
    let same : c.in_ok-inner.inner.value ≡ c.args.array.expr = search rules in
    λ d w. c.settled.ensures (Transpose d) (transpose_ready loops symbols d c.args.array w c.in_ok-inner.inner same)
