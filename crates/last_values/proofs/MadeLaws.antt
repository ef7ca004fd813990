-- An IF with one arm and no ELSE part, as a statement and as a part of a nest.
use Rattle.std.proofs.Common.{◌≡◌, ℕ, List, [], ◌∷◌, map, ap, ◌∙◌}
use Rattle.tree.specs.Plain.{If, arm, no_arms, block}
use Rattle.tree.specs.View.{Tested, expression_of, statement_of, tested_of, block_of, arms}
use Rattle.tree.specs.declared.lists.Seq.{Seq}
use Rattle.tree.specs.declared.exprs.Expr.{Expr}
use Rattle.tree.specs.declared.stmts.Stmt.{Stmt}
use Rattle.tree.specs.declared.stmts.Stmt.TheVariants as stmts
use Rattle.tree.specs.declared.stmts.Arm.{Arm, roll-Arm}
use Rattle.tree.specs.declared.stmts.Block.{Block, roll-Block}
use Rattle.tree.proofs.Equations.{statement_of-if, tested_of-made, block_of-made}
use Rattle.nest.specs.declared.parts.Part.{Part}
use Rattle.nest.specs.declared.parts.Part.TheVariants as variants
use Rattle.nest.specs.declared.parts.NestArm.{NestArm, roll-NestArm}
use Rattle.nest.specs.Plain as P
use Rattle.nest.specs.View.{Branch, branch_of, branches, part_of}
use Rattle.nest.proofs.Equations.{part_of-choice, branch_of-made}
use Rattle.last_values.specs.Endings.{only_where}
use Rattle.last_values.specs.PartsInPlace.{only_where_part}

pub only_where_is : (line : ℕ) (test : Expr) (ss other : Seq Stmt) (as' : Seq Arm)
    → as' ≡ roll-Arm (record { test = test; body = roll-Block (record { stmts = ss }) }) ∷ [] → other ≡ []
    → statement_of (stmts.If line as' (roll-Block (record { stmts = other }))) ≡ only_where line (expression_of test) (map statement_of ss)
only_where_is line test ss other as' one none =
    let body : Block = roll-Block (record { stmts = ss }) in
    let rest : Block = roll-Block (record { stmts = other }) in
    statement_of-if line as' rest
    ∙ ap (λ (ts : List Arm). If line (arms (map tested_of ts)) (block_of rest)) one
    ∙ ap (λ (t : Tested). If line (arms (t ∷ [])) (block_of rest)) (tested_of-made test body)
    ∙ ap (λ b. If line (arm (expression_of test) b no_arms) (block_of rest)) (block_of-made ss)
    ∙ ap (If line (arm (expression_of test) (block (map statement_of ss)) no_arms)) (block_of-made other ∙ ap (λ (cs : List Stmt). block (map statement_of cs)) none)

pub only_where_part_is : (test : Expr) (ps other : Seq Part) (as' : Seq NestArm)
    → as' ≡ roll-NestArm (record { test = test; body = ps }) ∷ [] → other ≡ []
    → part_of (variants.Choice as' other) ≡ only_where_part (expression_of test) (map part_of ps)
only_where_part_is test ps other as' one none =
    part_of-choice as' other
    ∙ ap (λ (bs : List NestArm). P.Choice (branches (map branch_of bs)) (P.parts (map part_of other))) one
    ∙ ap (λ (b : Branch). P.Choice (branches (b ∷ [])) (P.parts (map part_of other))) (branch_of-made test ps)
    ∙ ap (λ (qs : List Part). P.Choice (P.branch (expression_of test) (P.parts (map part_of ps)) P.no_branches) (P.parts (map part_of qs))) none
