use Rattle.std.proofs.Common.{◌≡◌, map, arith}
use Rattle.std.proofs.lemmas.Grind.{common_steps}
use Rattle.tree.specs.View.{statement_of}
use Rattle.tree.specs.declared.stmts.Block.{out-Block}
use Rattle.tree.proofs.Equations.{block_of-renewed}
use Rattle.tree.proofs.stmts.+stmt_copy.Goals as goal

pub Block::copy-returns : goal.Block::copy-returns
Block::copy-returns t c =
    let b = c.args.self.now in
    let ss = c.loop-stmt.stmts in
    let same : map statement_of ss ≡ map statement_of (out-Block b).stmts = grind (arith, common_steps) in
    block_of-renewed b ss same
