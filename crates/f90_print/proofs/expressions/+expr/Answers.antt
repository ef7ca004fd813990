use Rattle.std.proofs.Common.{◌≡◌, ◌∷◌, [], true, false, ap, ◌∙◌, arith, rules, map}
use Rattle.std.proofs.lemmas.Grind.{common_steps}
use Rattle.tree.specs.View.{expression_of, subscript_of}
use Rattle.f90_grammar.specs.Printing.{is_one}
use Rattle.f90_grammar.specs.PrintedText.{expression_text}
use Rattle.f90_print.specs.Texts.{subscript_text}
use Rattle.f90_print.proofs.ExpressionTexts as texts
use Rattle.f90_print.proofs.expressions.+expr.Goals as goal

pub print_expression-returns-in_ok-push_sign-in-Un : goal.print_expression-returns-in_ok-push_sign-in-Un
print_expression-returns-in_ok-push_sign-in-Un t c =
    let e = ap (λ x. expression_text (expression_of x)) c.in-Un.is ∙ texts.un-text c.in-Un.op c.in-Un.a in grind (arith, common_steps)

pub print_expression-returns-in_ok-push-in-Bin-3 : goal.print_expression-returns-in_ok-push-in-Bin-3
print_expression-returns-in_ok-push-in-Bin-3 t c =
    let e = ap (λ x. expression_text (expression_of x)) c.in-Bin.is ∙ texts.bin-text c.in-Bin.op c.in-Bin.left c.in-Bin.right in grind (arith, common_steps)

pub print_expression-returns-in_ok-push-in-Call : goal.print_expression-returns-in_ok-push-in-Call
print_expression-returns-in_ok-push-in-Call t c =
    let e = ap (λ x. expression_text (expression_of x)) c.in-Call.is ∙ texts.call-text c.in-Call.function c.in-Call.arguments in grind (arith, common_steps)

pub print_expression-returns-in_ok-print_loops-in-List : goal.print_expression-returns-in_ok-print_loops-in-List
print_expression-returns-in_ok-print_loops-in-List t c =
    let some : c.in-List.loops ≡ [] → ⊥ = grind (arith, common_steps) in
    let e =
    ap (λ x. expression_text (expression_of x)) c.in-List.is ∙ texts.list-text c.in-List.values c.in-List.loops
    ∙ texts.constructor_phrase-some c.in-List.loops (map expression_of c.in-List.values) some in
    grind (arith, common_steps)

pub print_expression-returns-in_ok-print_expression-in-Spread-2 : goal.print_expression-returns-in_ok-print_expression-in-Spread-2
print_expression-returns-in_ok-print_expression-in-Spread-2 t c =
    let e = ap (λ x. expression_text (expression_of x)) c.in-Spread.is ∙ texts.spread-text c.in-Spread.array c.in-Spread.dimension c.in-Spread.extent in grind (arith, common_steps)

pub print_expression-returns-in_ok-print_expression-in-Transpose : goal.print_expression-returns-in_ok-print_expression-in-Transpose
print_expression-returns-in_ok-print_expression-in-Transpose t c =
    let e = ap (λ x. expression_text (expression_of x)) c.in-Transpose.is ∙ texts.transpose-text c.in-Transpose.array in grind (arith, common_steps)

pub print_expression-returns-in_ok-print_values-in-Reshape : goal.print_expression-returns-in_ok-print_values-in-Reshape
print_expression-returns-in_ok-print_values-in-Reshape t c =
    let e = ap (λ x. expression_text (expression_of x)) c.in-Reshape.is ∙ texts.reshape-text c.in-Reshape.array c.in-Reshape.extents in grind (arith, common_steps)

pub print_expression-returns-in_ok-print_expression-in-Reduce : goal.print_expression-returns-in_ok-print_expression-in-Reduce
print_expression-returns-in_ok-print_expression-in-Reduce t c =
    let e = ap (λ x. expression_text (expression_of x)) c.in-Reduce.is ∙ texts.reduce-text c.in-Reduce.reduction c.in-Reduce.array in grind (arith, common_steps)

pub print_first_value-returns-then-list-ne1 : goal.print_first_value-returns-then-list-ne1
print_first_value-returns-then-list-ne1 t c = let e = texts.first_value-other c.args.list.now (λ h. omega arith) in grind (arith, common_steps)

pub print_list-returns : goal.print_list-returns
print_list-returns t c =
    let there : c.in-Some.first.now ∷ c.in-Some.rest.now ≡ c.args.list.now = search rules in
    let e = texts.separated-parts c.in-Some.first.now c.in-Some.rest.now c.args.list.now there in grind (arith, common_steps)

pub print_loop-returns : goal.print_loop-returns
print_loop-returns t c = let e = texts.turn-text c.args.turn.now in grind (arith, common_steps)

pub print_reference-returns : goal.print_reference-returns
print_reference-returns t c = let e = texts.reference-text c.args.r.now in grind (arith, common_steps)

pub print_subscript-returns-then-is_one : goal.print_subscript-returns-then-is_one
print_subscript-returns-then-is_one t c =
    let one : is_one (expression_of c.in-Part.stride) ≡ true = cc in
    let e = ap (λ x. subscript_text (subscript_of x)) c.in-Part.is ∙ texts.part-text c.in-Part.lower c.in-Part.upper c.in-Part.stride one in
    grind (arith, common_steps)

pub print_subscript-returns-in_ok-push-in-Part-2 : goal.print_subscript-returns-in_ok-push-in-Part-2
print_subscript-returns-in_ok-push-in-Part-2 t c =
    let other : is_one (expression_of c.in-Part.stride) ≡ false = cc in
    let e = ap (λ x. subscript_text (subscript_of x)) c.in-Part.is ∙ texts.strided-text c.in-Part.lower c.in-Part.upper c.in-Part.stride other in
    grind (arith, common_steps)

pub print_subscripts-returns : goal.print_subscripts-returns
print_subscripts-returns t c =
    let there : c.in-Some.first.now ∷ c.in-Some.rest.now ≡ c.args.subs.now = search rules in
    let e = texts.listed-parts c.in-Some.first.now c.in-Some.rest.now c.args.subs.now there in grind (arith, common_steps)

pub print_values-returns : goal.print_values-returns
print_values-returns t c =
    let some : c.args.list.now ≡ [] → ⊥ = grind (arith, common_steps) in
    let e = texts.values-some c.args.list.now some in grind (arith, common_steps)
