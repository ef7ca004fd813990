use Rattle.std.proofs.Common.{◌≡◌, ◌∷◌, ◌++◌, ◌∙◌, [], List, ap, sym, subst, map, arith, rules, SFits}
use Rattle.std.specs.Int.{w128}
use Rattle.std.proofs.lemmas.Int.{to_z-of_z}
use Rattle.std.specs.Prelude.{IfOk, ◌||◌}
use Rattle.std.proofs.lemmas.Grind.{common_steps}
use mathlib.Core.Path.{ap₂}
use Rattle.tree.specs.Plain.{Binary, Number, Reduce, Reshape, Spread, Transpose, Unary, Expression, expressions}
use Rattle.tree.specs.View.{expression_of}
use Rattle.tree.proofs.Equations.{expression_of-int, expression_of-truth, expression_of-item, expression_of-un, expression_of-bin, expression_of-call, expression_of-list, expression_of-spread, expression_of-transpose, expression_of-reshape, expression_of-reduce}
use Rattle.form_rules.specs.Written.{IsWritten}
use Rattle.form_rules.proofs.Gathering.{AreTaken, one_taken, all_taken}
use Rattle.form_rules.proofs.Writing.{loop_same, parts_same, one_same, part_same}
use Rattle.form_rules.proofs.trees.+writing.Goals as goal

pub write_expression-returns-in-Int : goal.write_expression-returns-in-Int
write_expression-returns-in-Int t c =
    let fits : SFits w128 c.in-Int.value = search rules in
    subst (λ (e : Expression). IfOk c.number.result (λ w. IsWritten c.args.loops.now c.args.symbols.now e w))
    (ap Number (to_z-of_z w128 c.in-Int.value fits) ∙ sym (ap expression_of c.in-Int.is ∙ expression_of-int c.in-Int.value)) c.number.ensures

pub write_expression-returns-in-Truth : goal.write_expression-returns-in-Truth
write_expression-returns-in-Truth t c =
    subst (λ (e : Expression). IfOk c.truth.result (λ w. IsWritten c.args.loops.now c.args.symbols.now e w))
    (sym (ap expression_of c.in-Truth.is ∙ expression_of-truth c.in-Truth.value)) c.truth.ensures

pub write_expression-returns-in-Item : goal.write_expression-returns-in-Item
write_expression-returns-in-Item t c =
    subst (λ (e : Expression). IfOk c.write_item.result (λ w. IsWritten c.args.loops.now c.args.symbols.now e w))
    (sym (ap expression_of c.in-Item.is ∙ expression_of-item c.in-Item.item)) c.write_item.ensures

pub write_expression-returns-in-Un : goal.write_expression-returns-in-Un
write_expression-returns-in-Un t c =
    subst (λ (e : Expression). IfOk c.write_sign.result (λ w. IsWritten c.args.loops.now c.args.symbols.now e w))
    (ap (λ x. Unary c.in-Un.op (expression_of x)) c.deref.ensures ∙ sym (ap expression_of c.in-Un.is ∙ expression_of-un c.in-Un.op c.in-Un.a)) c.write_sign.ensures

pub write_expression-returns-in_ok-a-in-Bin : goal.write_expression-returns-in_ok-a-in-Bin
write_expression-returns-in_ok-a-in-Bin t c =
    subst (λ (e : Expression). IfOk c.write_pair.result (λ w. IsWritten c.args.loops.now c.args.symbols.now e w))
    (ap₂ (λ x y. Binary c.in-Bin.op (expression_of x) (expression_of y)) c.deref-in-Bin.ensures c.deref-in-Bin-2.ensures ∙ sym (ap expression_of c.in-Bin.is ∙ expression_of-bin c.in-Bin.op c.in-Bin.a c.in-Bin.b)) (c.write_pair.ensures _ c.in_ok-a-in-Bin.ensures)

pub write_expression-returns-in-Call : goal.write_expression-returns-in-Call
write_expression-returns-in-Call t c =
    subst (λ (e : Expression). IfOk c.write_call.result (λ w. IsWritten c.args.loops.now c.args.symbols.now e w))
    (sym (ap expression_of c.in-Call.is ∙ expression_of-call c.in-Call.function c.in-Call.exprs)) c.write_call.ensures

pub write_expression-returns-in_ok-values-in-List : goal.write_expression-returns-in_ok-values-in-List
write_expression-returns-in_ok-values-in-List t c =
    subst (λ (e : Expression). IfOk c.write_list.result (λ w. IsWritten c.args.loops.now c.args.symbols.now e w))
    (sym (ap expression_of c.in-List.is ∙ expression_of-list c.in-List.values c.in-List.turns)) (c.write_list.ensures _ c.in_ok-values-in-List.ensures)

pub write_expression-returns-in_ok-array-in-Spread : goal.write_expression-returns-in_ok-array-in-Spread
write_expression-returns-in_ok-array-in-Spread t c =
    subst (λ (e : Expression). IfOk c.write_spread.result (λ w. IsWritten c.args.loops.now c.args.symbols.now e w))
    (ap₂ (λ x y. Spread (expression_of x) c.in-Spread.dimension (expression_of y)) c.deref-in-Spread.ensures c.deref-in-Spread-2.ensures ∙ sym (ap expression_of c.in-Spread.is ∙ expression_of-spread c.in-Spread.array c.in-Spread.dimension c.in-Spread.extent)) (c.write_spread.ensures _ c.in_ok-array-in-Spread.ensures)

pub write_expression-returns-in-Transpose : goal.write_expression-returns-in-Transpose
write_expression-returns-in-Transpose t c =
    subst (λ (e : Expression). IfOk c.write_transpose.result (λ w. IsWritten c.args.loops.now c.args.symbols.now e w))
    (ap (λ x. Transpose (expression_of x)) c.deref-in-Transpose.ensures ∙ sym (ap expression_of c.in-Transpose.is ∙ expression_of-transpose c.in-Transpose.array)) c.write_transpose.ensures

pub write_expression-returns-in_ok-array-in-Reshape : goal.write_expression-returns-in_ok-array-in-Reshape
write_expression-returns-in_ok-array-in-Reshape t c =
    subst (λ (e : Expression). IfOk c.write_reshape.result (λ w. IsWritten c.args.loops.now c.args.symbols.now e w))
    (ap (λ x. Reshape (expression_of x) (expressions (map expression_of c.in-Reshape.extents))) c.deref-in-Reshape.ensures ∙ sym (ap expression_of c.in-Reshape.is ∙ expression_of-reshape c.in-Reshape.array c.in-Reshape.extents)) (c.write_reshape.ensures _ c.in_ok-array-in-Reshape.ensures)

pub write_expression-returns-in-Reduce : goal.write_expression-returns-in-Reduce
write_expression-returns-in-Reduce t c =
    subst (λ (e : Expression). IfOk c.write_reduce.result (λ w. IsWritten c.args.loops.now c.args.symbols.now e w))
    (ap (λ x. Reduce c.in-Reduce.reduction (expression_of x)) c.deref-in-Reduce.ensures ∙ sym (ap expression_of c.in-Reduce.is ∙ expression_of-reduce c.in-Reduce.reduction c.in-Reduce.array)) c.write_reduce.ensures

pub write_parts-returns : goal.write_parts-returns
write_parts-returns t c =
    parts_same c.args.loops.now c.args.symbols.now c.args.item.now c.in_ok-written.written.0 c.in_ok-written.written.1 c.in_ok-written.ensures

pub write_turn-returns : goal.write_turn-returns
write_turn-returns t c =
    loop_same c.args.loops.now c.args.symbols.now c.args.turn.now c.in_ok-first.first c.in_ok-last.last c.either-had_loop.result c.in_ok-first.ensures c.in_ok-last.ensures c.either-had_loop.ensures

pub write_subscript-returns-in_ok-written-in-One : goal.write_subscript-returns-in_ok-written-in-One
write_subscript-returns-in_ok-written-in-One t c =
    one_same c.args.loops.now c.args.symbols.now c.args.sub.now c.in-One.expr c.in_ok-written-in-One.written c.in-One.is c.in_ok-written-in-One.ensures

pub write_subscript-returns-in_ok-stride-in-Part : goal.write_subscript-returns-in_ok-stride-in-Part
write_subscript-returns-in_ok-stride-in-Part t c =
    part_same c.args.loops.now c.args.symbols.now c.args.sub.now c.in-Part.lower c.in-Part.upper c.in-Part.stride c.in_ok-lower-in-Part.lower c.in_ok-upper-in-Part.upper c.in_ok-stride-in-Part.stride
    c.either-had_loop.result c.in-Part.is c.in_ok-lower-in-Part.ensures c.in_ok-upper-in-Part.ensures c.in_ok-stride-in-Part.ensures
    (c.either-had_loop.ensures ∙ ap (λ b. b || c.in_ok-stride-in-Part.stride.had_loop) c.either-both.ensures)

pub write_arguments-loop-expr-preserved : goal.write_arguments-loop-expr-preserved
write_arguments-loop-expr-preserved t c = record {
  made = first_of (search rules, grind (arith, common_steps));
  had_loop = first_of (search rules, grind (arith, common_steps));
  given = λ few.
      let w = c.in_ok-written.written in
      let pushed : map expression_of c.push.new.self ≡ map expression_of c.loop-expr.made ++ expression_of w.expr ∷ [] = first_of (search rules, grind (arith, common_steps)) in
      subst (λ (es : List Expression). AreTaken c.args.function es c.with_constant-given.result) (sym pushed)
      (one_taken c.args.function (map expression_of c.loop-expr.made) c.loop-expr.given c.with_constant-given.result (expression_of w.expr) w.part.constant
      (c.loop-expr.invariant.given few) ((c.in_ok-written.ensures.known few).constant) c.with_constant-given.ensures);
}

pub write_arguments-returns : goal.write_arguments-returns
write_arguments-returns t c = record {
  list = record { made = first_of (search rules, grind (arith, common_steps)); stands = first_of (search rules, grind (arith, common_steps)) };
  constant = λ few. all_taken c.args.function (map expression_of c.loop-expr.made) c.loop-expr.given (c.loop-expr.invariant.given few);
}
