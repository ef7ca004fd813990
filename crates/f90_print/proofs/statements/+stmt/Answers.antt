use Rattle.std.proofs.Common.{◌≡◌, ◌∷◌, [], ap, ◌∙◌, arith, rules}
use Rattle.std.proofs.lemmas.Grind.{common_steps}
use Rattle.tree.specs.declared.stmts.Block.{out-Block}
use Rattle.tree.specs.View.{statement_of}
use Rattle.f90_print.specs.Texts.{statement_text}
use Rattle.f90_print.proofs.StatementTexts as texts
use Rattle.f90_print.proofs.statements.+stmt.Goals as goal

pub print_arms-loop-arm-preserved : goal.print_arms-loop-arm-preserved
print_arms-loop-arm-preserved t c = let e = texts.arm-text c.arm-item.result in grind (arith, common_steps)

pub print_block-returns : goal.print_block-returns
print_block-returns t c = let e = texts.block-text c.args.block.now in grind (arith, common_steps)

pub print_else-returns-then-is_empty : goal.print_else-returns-then-is_empty
print_else-returns-then-is_empty t c =
    let none : (out-Block c.args.other.now).stmts ≡ [] = grind (arith, common_steps) in
    let e = texts.no_else-text c.args.other.now none in grind (arith, common_steps)

pub print_else-returns : goal.print_else-returns
print_else-returns t c =
    let some : (out-Block c.args.other.now).stmts ≡ [] → ⊥ = grind (arith, common_steps) in
    let e = texts.else-text c.args.other.now some in grind (arith, common_steps)

pub print_statement-returns-in_default : goal.print_statement-returns-in_default
print_statement-returns-in_default t c =
    let none : c.in-If.arms ≡ [] = grind (arith, common_steps) in
    let e = ap (λ x. statement_text (statement_of x)) c.in-If.is ∙ texts.no_arms-text c.in-If.line c.in-If.arms c.in-If.other none in
    grind (arith, common_steps)

pub print_statement-returns-in_ok-print_mark-in-Assign : goal.print_statement-returns-in_ok-print_mark-in-Assign
print_statement-returns-in_ok-print_mark-in-Assign t c =
    let e =
    ap (λ x. statement_text (statement_of x)) c.in-Assign.is
    ∙ texts.assign-text c.in-Assign.line c.in-Assign.mark c.in-Assign.left c.in-Assign.right in
    grind (arith, common_steps)

pub print_statement-returns-in_ok-print_mark-in-Masked : goal.print_statement-returns-in_ok-print_mark-in-Masked
print_statement-returns-in_ok-print_mark-in-Masked t c =
    let e =
    ap (λ x. statement_text (statement_of x)) c.in-Masked.is
    ∙ texts.where-text c.in-Masked.line c.in-Masked.mark c.in-Masked.mask c.in-Masked.left c.in-Masked.right in
    grind (arith, common_steps)

pub print_statement-returns-in_ok-print_else-in-If : goal.print_statement-returns-in_ok-print_else-in-If
print_statement-returns-in_ok-print_else-in-If t c =
    let there : c.in-Some.first.now ∷ c.in-Some.rest.now ≡ c.in-If.arms = search rules in
    let e =
    ap (λ x. statement_text (statement_of x)) c.in-If.is
    ∙ texts.if-text c.in-If.line c.in-Some.first.now c.in-Some.rest.now c.in-If.arms c.in-If.other there in
    grind (arith, common_steps)

pub print_statement-returns-in_ok-print_block-in-Do : goal.print_statement-returns-in_ok-print_block-in-Do
print_statement-returns-in_ok-print_block-in-Do t c =
    let e =
    ap (λ x. statement_text (statement_of x)) c.in-Do.is
    ∙ texts.do-text c.in-Do.line c.in-Do.var c.in-Do.first c.in-Do.last c.in-Do.step c.in-Do.body in
    grind (arith, common_steps)
