-- Statements behind a block.
use Rattle.std.proofs.Common.{◌≡◌, List, ◌++◌, map, ap, ◌∙◌}
use Rattle.tree.specs.Plain as P
use Rattle.tree.specs.View.{block_of, statement_of}
use Rattle.tree.specs.declared.stmts.Block.{Block, roll-Block}
use Rattle.tree.specs.declared.stmts.Stmt.{Stmt}
use Rattle.tree.proofs.Equations.{block_of-made}
use Rattle.nest.specs.Allocations.{block_then}
use Rattle.normal_loops.proofs.BlockLaws.{joined-is}
use Rattle.tree.specs.declared.stmts.Block.{out-Block}

pub behind-is : (a : Block) (more ss : List Stmt) → ss ≡ (out-Block a).stmts ++ more
    → block_of (roll-Block (record { stmts = ss })) ≡ block_then (block_of a) (P.block (map statement_of more))
behind-is a more ss e = joined-is a (roll-Block (record { stmts = more })) ss e ∙ ap (block_then (block_of a)) (block_of-made more)

pub ruleset block_laws = (behind-is)
