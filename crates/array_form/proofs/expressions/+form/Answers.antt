use Rattle.std.proofs.Common.{◌≡◌, true, false, arith, rules}
use Rattle.tree.specs.View.{expression_of}
use Rattle.tree.specs.declared.exprs.Expr.{the_lemmas}
use Rattle.tree.specs.declared.exprs.Expr.TheVariants as exprs
use Rattle.meaning.specs.Reads.{names_in}
use Rattle.array_form.specs.holds.View.{surroundings_view}
use Rattle.array_form.specs.Loops.{viewed}
use Rattle.array_form.proofs.AnswerLaws.{bare_is, here_loops, item_ok, kept_ok, listed_ok, placed_ok, rank_one, section_is, variable_item}
use Rattle.array_form.proofs.FormLaws as forms
use Rattle.array_form.proofs.expressions.+form.Goals as goal

pub form-returns-in-Int : goal.form-returns-in-Int
form-returns-in-Int t c =
    let a = c.args.a.now in
    kept_ok a c.args.over.now c.args.expr.now (exprs.Int c.in-Int.field-0) c.copy.result (forms.form-int (surroundings_view a) (viewed a c.args.over.now) c.in-Int.field-0) c.in-Int.is c.copy.ensures

pub form-returns-in-Truth : goal.form-returns-in-Truth
form-returns-in-Truth t c =
    let a = c.args.a.now in
    kept_ok a c.args.over.now c.args.expr.now (exprs.Truth c.in-Truth.field-0) c.copy-in-Truth.result (forms.form-truth (surroundings_view a) (viewed a c.args.over.now) c.in-Truth.field-0) c.in-Truth.is c.copy-in-Truth.ensures

pub form-returns-in-List : goal.form-returns-in-List
form-returns-in-List t c =
    let a = c.args.a.now in
    kept_ok a c.args.over.now c.args.expr.now (exprs.List c.in-List.field-0 c.in-List.field-1) c.copy-in-List.result (forms.form-list (surroundings_view a) (viewed a c.args.over.now) c.in-List.field-0 c.in-List.field-1) c.in-List.is c.copy-in-List.ensures

pub form-returns-in-Spread : goal.form-returns-in-Spread
form-returns-in-Spread t c =
    let a = c.args.a.now in
    kept_ok a c.args.over.now c.args.expr.now (exprs.Spread c.in-Spread.field-0 c.in-Spread.field-1 c.in-Spread.field-2) c.copy-in-Spread.result (forms.form-spread (surroundings_view a) (viewed a c.args.over.now) c.in-Spread.field-0 c.in-Spread.field-1 c.in-Spread.field-2) c.in-Spread.is c.copy-in-Spread.ensures

pub form-returns-in-Transpose : goal.form-returns-in-Transpose
form-returns-in-Transpose t c =
    let a = c.args.a.now in
    kept_ok a c.args.over.now c.args.expr.now (exprs.Transpose c.in-Transpose.field-0) c.copy-in-Transpose.result (forms.form-transpose (surroundings_view a) (viewed a c.args.over.now) c.in-Transpose.field-0) c.in-Transpose.is c.copy-in-Transpose.ensures

pub form-returns-in-Reshape : goal.form-returns-in-Reshape
form-returns-in-Reshape t c =
    let a = c.args.a.now in
    kept_ok a c.args.over.now c.args.expr.now (exprs.Reshape c.in-Reshape.field-0 c.in-Reshape.field-1) c.copy-in-Reshape.result (forms.form-reshape (surroundings_view a) (viewed a c.args.over.now) c.in-Reshape.field-0 c.in-Reshape.field-1) c.in-Reshape.is c.copy-in-Reshape.ensures

pub form-returns-in-Reduce : goal.form-returns-in-Reduce
form-returns-in-Reduce t c =
    let a = c.args.a.now in
    kept_ok a c.args.over.now c.args.expr.now (exprs.Reduce c.in-Reduce.field-0 c.in-Reduce.field-1) c.copy-in-Reduce.result (forms.form-reduce (surroundings_view a) (viewed a c.args.over.now) c.in-Reduce.field-0 c.in-Reduce.field-1) c.in-Reduce.is c.copy-in-Reduce.ensures

pub form-item_form-requires : goal.form-item_form-requires
form-item_form-requires t c = (
  search (rules, the_lemmas),
  (
    c.requires.places,
    (
      c.requires.over,
      here_loops c.args.a.now c.args.over.now c.in_ok-here-in-Item.here c.as_slice.result.now (names_in (expression_of c.args.expr.now)) c.requires.over c.in_ok-here-in-Item.ensures c.as_slice.ensures,
    ),
  ),
)

pub form-returns-in_ok-here-in-Item : goal.form-returns-in_ok-here-in-Item
form-returns-in_ok-here-in-Item t c =
    item_ok c.args.a.now c.args.over.now c.in_ok-here-in-Item.here c.as_slice.result.now c.args.expr.now c.in-Item.item c.item_form.result c.in-Item.is c.in_ok-here-in-Item.ensures c.as_slice.ensures c.item_form.ensures

pub item_form-returns-then-is_empty : goal.item_form-returns-then-is_empty
item_form-returns-then-is_empty t c =
    bare_is c.args.a.now c.args.over.now c.args.here.now c.args.item.now c.in_ok-copy_ref.field-0 c.is_empty.result c.is_empty.ensures c.if-is_empty.true c.in_ok-copy_ref.ensures

pub item_form-returns-then-is_empty-2 : goal.item_form-returns-then-is_empty-2
item_form-returns-then-is_empty-2 t c =
    variable_item c.args.a.now c.args.over.now c.args.here.now c.args.item.now c.is_empty.result c.is_empty-2.result c.variable_form.result c.is_empty.ensures c.if-is_empty.false c.is_empty-2.ensures c.if-is_empty-2.true
    c.variable_form.ensures

pub item_form-returns-then-not-branch : goal.item_form-returns-then-not-branch
item_form-returns-then-not-branch t c =
    let f : c.in_ok-one_each.field-0 ≡ false = first_of (cc, search rules, grind arith) in
    listed_ok c.args.a.now c.args.over.now c.args.here.now c.args.item.now c.in_ok-copy_ref-2.field-0 c.is_empty.result c.is_empty-2.result c.in_ok-one_each.field-0 c.constructed.result
    c.is_empty.ensures c.if-is_empty.false c.is_empty-2.ensures c.if-is_empty-2.false c.in_ok-one_each.ensures f c.in_ok-copy_ref-2.ensures c.constructed.ensures

pub item_form-returns : goal.item_form-returns
item_form-returns t c =
    let f : c.in_ok-one_each.field-0 ≡ true = first_of (cc, search rules, grind arith) in
    placed_ok c.args.a.now c.args.over.now c.args.here.now c.in_ok-order.order c.args.item.now c.in_ok-subs.subs c.as_slice.result.now c.is_empty.result c.is_empty-2.result c.in_ok-one_each.field-0 c.placed.result
    c.is_empty.ensures c.if-is_empty.false c.is_empty-2.ensures c.if-is_empty-2.false c.in_ok-one_each.ensures f c.in_ok-order.ensures c.as_slice.ensures c.in_ok-subs.ensures c.placed.ensures

pub subscript_form-section_or-requires-clause-here : goal.subscript_form-section_or-requires-clause-here
subscript_form-section_or-requires-clause-here t c =
    here_loops c.args.a.now c.args.over.now c.in_ok-here-in-One.here c.as_slice.result.now (names_in (expression_of c.in-One.expr)) c.requires.over c.in_ok-here-in-One.ensures c.as_slice.ensures

pub subscript_form-returns-in-Some : goal.subscript_form-returns-in-Some
subscript_form-returns-in-Some t c =
    section_is c.args.a.now c.args.over.now c.in_ok-here-in-One.here c.as_slice.result.now c.args.sub.now c.in-One.expr c.in-Some.sub c.in_ok-sub-in-One.field-0
    c.in-One.is c.in_ok-here-in-One.ensures c.as_slice.ensures c.in-Some.is c.in_ok-sub-in-One.ensures

pub subscript_form-form-requires : goal.subscript_form-form-requires
subscript_form-form-requires t c = (
  search (rules, the_lemmas),
  (
    c.requires.places,
    here_loops c.args.a.now c.args.over.now c.in_ok-here-in-One.here c.as_slice-in-None.result.now (names_in (expression_of c.in-One.expr)) c.requires.over c.in_ok-here-in-One.ensures c.as_slice-in-None.ensures,
  ),
)

pub subscript_form-returns-in-One : goal.subscript_form-returns-in-One
subscript_form-returns-in-One t c =
    rank_one c.args.a.now c.args.over.now c.in_ok-here-in-One.here c.as_slice.result.now c.as_slice-in-None.result.now c.args.sub.now c.in-One.expr c.in_ok-form-in-None.field-0 c.in_ok-sub-in-One.field-0
    c.in-One.is c.in_ok-here-in-One.ensures c.as_slice.ensures c.as_slice-in-None.ensures c.in-None.is c.in_ok-sub-in-One.ensures c.in_ok-form-in-None.ensures
