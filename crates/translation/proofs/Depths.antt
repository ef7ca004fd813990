-- How deep blocks stand in the trees of a program.
use Rattle.std.proofs.Common.{◌≡◌, ℕ, ◌+◌, max, map, ap}
use Rattle.meaning.specs.Blocks.{blocks_in, blocks_in_arms, blocks_of}
use Rattle.tree.specs.Plain.{block}
use Rattle.tree.specs.View.{statement_of, tested_of, block_of, arms, Tested}
use Rattle.tree.specs.declared.names.Name.{Name}
use Rattle.tree.specs.declared.lists.Seq.{Seq}
use Rattle.tree.specs.declared.exprs.Expr.{Expr}
use Rattle.tree.specs.declared.stmts.Stmt.TheVariants as stmts
use Rattle.tree.specs.declared.stmts.Arm.{Arm, out-Arm}
use Rattle.tree.specs.declared.stmts.Block.{Block, out-Block}
use Rattle.tree.proofs.Equations.{statement_equations, statement_of-if, statement_of-do, tested_of-is, block_of-is}

pub depth-if : (line : ℕ) (ts : Seq Arm) (other : Block) → blocks_of (statement_of (stmts.If line ts other))
    ≡ 1 + max (blocks_in_arms (arms (map tested_of ts))) (blocks_in (block_of other))
depth-if line ts other = ap blocks_of (statement_of-if line ts other)

pub depth-do : (line : ℕ) (x : Name) (a b c : Expr) (body : Block)
    → blocks_of (statement_of (stmts.Do line x a b c body)) ≡ 1 + blocks_in (block_of body)
depth-do line x a b c body = ap blocks_of (statement_of-do line x a b c body)

pub depth-arm : (a : Arm) → blocks_in (tested_of a).body ≡ blocks_in (block_of (out-Arm a).body)
depth-arm a = ap (λ (t : Tested). blocks_in t.body) (tested_of-is a)

pub depth-block : (b : Block) → blocks_in (block_of b) ≡ blocks_in (block (map statement_of (out-Block b).stmts))
depth-block b = ap blocks_in (block_of-is b)

pub ruleset depth_laws = (statement_equations, depth-if, depth-do, depth-arm)

pub ruleset block_laws = (depth-block)
