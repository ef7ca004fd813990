use Rattle.std.proofs.Common.{◌≡◌, rules}
use Rattle.tree.specs.Plain.{Reduce}
use Rattle.form_rules.proofs.Writing.{reduce_ready}
use Rattle.form_rules.proofs.nodes.reduced.Goals as goal

pub returns : goal.returns
returns c =
    let loops = c.args.loops.now in
    let symbols = c.args.symbols.now in
    let same : c.in_ok-inner.inner.value ≡ c.args.array.expr = search rules in
    λ d w. c.settled.ensures (Reduce c.args.reduction d) (reduce_ready loops symbols c.args.reduction d c.args.array w c.in_ok-inner.inner same)
