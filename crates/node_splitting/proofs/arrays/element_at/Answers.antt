use Rattle.std.proofs.Common.{◌≡◌, reverse, rules, arith}
use Rattle.std.proofs.lemmas.Grind.{common_steps}
use Rattle.node_splitting.proofs.Elements.{element_is}
use Rattle.node_splitting.proofs.arrays.element_at.Goals as goal

pub returns : goal.returns
returns c =
    let turned : c.from_vec.result ≡ reverse c.args.subs.items = first_of (search rules, grind (arith, common_steps)) in
    element_is c.args.array c.args.subs.items c.from_vec.result turned
