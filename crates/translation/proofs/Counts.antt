-- How many statements stand in the trees of a program.
use Rattle.std.proofs.Common.{◌≡◌, ℕ, ◌+◌, ◌<◌, map, ap, arith}
use Rattle.meaning.specs.Blocks.{statement_count_in, statement_count_in_arms, statement_count_of}
use Rattle.tree.specs.Plain.{Statement, Assignment, Where, If, Do, Label, GoTo, Stop, Read, Print, Allocate}
use Rattle.tree.specs.Plain.{Deallocate, block}
use Rattle.tree.specs.View.{statement_of, tested_of, block_of, arms, Tested}
use Rattle.tree.specs.declared.names.Name.{Name}
use Rattle.tree.specs.declared.lists.Seq.{Seq}
use Rattle.tree.specs.declared.exprs.Expr.{Expr}
use Rattle.tree.specs.declared.stmts.Stmt.TheVariants as stmts
use Rattle.tree.specs.declared.stmts.Arm.{Arm, out-Arm}
use Rattle.tree.specs.declared.stmts.Block.{Block, out-Block}
use Rattle.tree.proofs.Equations.{statement_equations, statement_of-if, statement_of-do, tested_of-is, block_of-is}

pub some_statement : (c : Statement) → 0 < statement_count_of c
some_statement (Assignment line mark left right) = omega arith
some_statement (Where line mark mask left right) = omega arith
some_statement (If line ts other) = omega arith
some_statement (Do line x first last step body) = omega arith
some_statement (Label n) = omega arith
some_statement (GoTo line n) = omega arith
some_statement (Stop line) = omega arith
some_statement (Read line is) = omega arith
some_statement (Print line is) = omega arith
some_statement (Allocate line x es) = omega arith
some_statement (Deallocate line x) = omega arith

pub count-if : (line : ℕ) (ts : Seq Arm) (other : Block) → statement_count_of (statement_of (stmts.If line ts other))
    ≡ 1 + (statement_count_in_arms (arms (map tested_of ts)) + statement_count_in (block_of other))
count-if line ts other = ap statement_count_of (statement_of-if line ts other)

pub count-do : (line : ℕ) (x : Name) (a b c : Expr) (body : Block)
    → statement_count_of (statement_of (stmts.Do line x a b c body)) ≡ 1 + statement_count_in (block_of body)
count-do line x a b c body = ap statement_count_of (statement_of-do line x a b c body)

pub count-arm : (a : Arm) → statement_count_in (tested_of a).body ≡ statement_count_in (block_of (out-Arm a).body)
count-arm a = ap (λ (t : Tested). statement_count_in t.body) (tested_of-is a)

pub count-block : (b : Block)
    → statement_count_in (block_of b) ≡ statement_count_in (block (map statement_of (out-Block b).stmts))
count-block b = ap statement_count_in (block_of-is b)

pub ruleset count_laws = (statement_equations, some_statement, count-if, count-do, count-arm)

pub ruleset block_laws = (count-block)
