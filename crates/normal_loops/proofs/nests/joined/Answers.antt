use Rattle.std.proofs.Common.{◌≡◌, ◌++◌, rules, arith}
use Rattle.std.proofs.lemmas.Grind.{common_steps}
use Rattle.tree.specs.declared.stmts.Block.{out-Block}
use Rattle.normal_loops.proofs.BlockLaws.{joined-is}
use Rattle.normal_loops.proofs.nests.joined.Goals as goal

pub returns : goal.returns
returns c =
    let both : c.from_vec.result ≡ (out-Block c.args.first).stmts ++ (out-Block c.args.more).stmts = first_of (cc, search rules, grind (arith, common_steps)) in
    joined-is c.args.first c.args.more c.from_vec.result both
