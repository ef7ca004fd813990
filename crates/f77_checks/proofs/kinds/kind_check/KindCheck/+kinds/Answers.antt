-- Arrays have no kind in FORTRAN 77.
use Rattle.std.proofs.Common.{sym, ap, ◌∙◌, not, ◌&&◌, map, length}
use Rattle.tree.specs.View.{expression_of, subscript_of}
use Rattle.f77_grammar.specs.program.Kinds as kinds
use Rattle.f77_checks.specs.kinds.KnownUses.{known_uses}
use Rattle.tree.specs.OperatorTable.{is_unary, result_kind_of, operand_kind}
use Rattle.tree.specs.declared.exprs.Expr.TheVariants as exprs
use Rattle.tree.specs.declared.ops.Kind.TheVariants.{Integer}
use Rattle.tree.specs.Functions.{suits_number}
use Rattle.tree.specs.Plain.{expressions}
use Rattle.f77_checks.proofs.kinds.KindLaws.{kind-int, kind-truth, kind-un, kind-bin, kind-call, first_holds, first_fails, then_holds, then_fails, same_operand, told}
use Rattle.f77_checks.proofs.kinds.KindLaws.{kind-list, kind-spread, kind-transpose, kind-reshape, kind-reduce, subscript-part}
use Rattle.f77_checks.proofs.kinds.kind_check.KindCheck.+kinds.Goals as goal
use Rattle.f77_checks.proofs.kinds.kind_check.KindCheck.+kinds.Goals.{has_kind-then-binary_gives, has_kind-else-binary_gives}

-- ---- the nodes of FORTRAN 77

pub has_kind-returns-in-Int : goal.has_kind-returns-in-Int
has_kind-returns-in-Int t c =
    told (known_uses c.args.self.now) c.args.expr.now (exprs.Int c.in-Int.field-0) c.args.kind c.same_kind.result _ c.same_kind.ensures c.in-Int.is
    (kind-int (known_uses c.args.self.now) c.in-Int.field-0 c.args.kind)

pub has_kind-returns-in-Truth : goal.has_kind-returns-in-Truth
has_kind-returns-in-Truth t c =
    told (known_uses c.args.self.now) c.args.expr.now (exprs.Truth c.in-Truth.field-0) c.args.kind c.same_kind-in-Truth.result _ c.same_kind-in-Truth.ensures c.in-Truth.is
    (kind-truth (known_uses c.args.self.now) c.in-Truth.field-0 c.args.kind)

pub has_kind-returns-then-unary_gives : goal.has_kind-returns-then-unary_gives
has_kind-returns-then-unary_gives t c =
    told (known_uses c.args.self.now) c.args.expr.now (exprs.Un c.in-Un.op c.in-Un.a) c.args.kind c.has_kind.result _
    (first_holds c.unary_gives.result (is_unary c.in-Un.op) (kinds.same_kind (result_kind_of c.in-Un.op) c.args.kind)
    (kinds.has_kind (known_uses c.args.self.now) (expression_of c.in-Un.a.value) (operand_kind c.in-Un.op)) c.has_kind.result
    c.unary_gives.ensures c.if-unary_gives.true
    (same_operand (known_uses c.args.self.now) _ c.in-Un.a.value _ (operand_kind c.in-Un.op) c.has_kind.result c.has_kind.ensures c.deref.ensures c.operand_kind.ensures))
    c.in-Un.is (kind-un (known_uses c.args.self.now) c.in-Un.op c.in-Un.a c.args.kind)

pub has_kind-returns-else-unary_gives : goal.has_kind-returns-else-unary_gives
has_kind-returns-else-unary_gives t c =
    told (known_uses c.args.self.now) c.args.expr.now (exprs.Un c.in-Un.op c.in-Un.a) c.args.kind c.unary_gives.result _
    (first_fails c.unary_gives.result (is_unary c.in-Un.op) (kinds.same_kind (result_kind_of c.in-Un.op) c.args.kind)
    (kinds.has_kind (known_uses c.args.self.now) (expression_of c.in-Un.a.value) (operand_kind c.in-Un.op)) c.unary_gives.ensures c.if-unary_gives.false)
    c.in-Un.is (kind-un (known_uses c.args.self.now) c.in-Un.op c.in-Un.a c.args.kind)

pub has_kind-returns-then-has_kind : goal.has_kind-returns-then-has_kind
has_kind-returns-then-has_kind t c =
    told (known_uses c.args.self.now) c.args.expr.now (exprs.Bin c.in-Bin.op c.in-Bin.a c.in-Bin.b) c.args.kind c.has_kind-then-has_kind.result _
    (then_holds c.if-binary_gives.value (not (is_unary c.in-Bin.op) && kinds.same_kind (result_kind_of c.in-Bin.op) c.args.kind && kinds.has_kind (known_uses c.args.self.now) (expression_of c.in-Bin.a.value) (operand_kind c.in-Bin.op)) (kinds.has_kind (known_uses c.args.self.now) (expression_of c.in-Bin.b.value) (operand_kind c.in-Bin.op)) c.has_kind-then-has_kind.result
    (elim c.if-binary_gives.branch [
      | has_kind-then-binary_gives w ↦ w.value-is ∙ first_holds c.binary_gives.result (not (is_unary c.in-Bin.op)) (kinds.same_kind (result_kind_of c.in-Bin.op) c.args.kind) (kinds.has_kind (known_uses c.args.self.now) (expression_of c.in-Bin.a.value) (operand_kind c.in-Bin.op)) w.has_kind-then-binary_gives.result
          c.binary_gives.ensures w.if-binary_gives.true
          (same_operand (known_uses c.args.self.now) _ c.in-Bin.a.value _ (operand_kind c.in-Bin.op) w.has_kind-then-binary_gives.result w.has_kind-then-binary_gives.ensures
          w.deref-then-binary_gives.ensures w.operand_kind-then-binary_gives.ensures)
      | has_kind-else-binary_gives w ↦ w.value-is
          ∙ first_fails c.binary_gives.result (not (is_unary c.in-Bin.op)) (kinds.same_kind (result_kind_of c.in-Bin.op) c.args.kind) (kinds.has_kind (known_uses c.args.self.now) (expression_of c.in-Bin.a.value) (operand_kind c.in-Bin.op)) c.binary_gives.ensures w.if-binary_gives.false
    ])
    c.if-has_kind.true
    (same_operand (known_uses c.args.self.now) _ c.in-Bin.b.value _ (operand_kind c.in-Bin.op) c.has_kind-then-has_kind.result c.has_kind-then-has_kind.ensures
    c.deref-then-has_kind.ensures c.operand_kind-then-has_kind.ensures))
    c.in-Bin.is (kind-bin (known_uses c.args.self.now) c.in-Bin.op c.in-Bin.a c.in-Bin.b c.args.kind)

pub has_kind-returns-else-has_kind : goal.has_kind-returns-else-has_kind
has_kind-returns-else-has_kind t c =
    told (known_uses c.args.self.now) c.args.expr.now (exprs.Bin c.in-Bin.op c.in-Bin.a c.in-Bin.b) c.args.kind c.if-binary_gives.value _
    (then_fails c.if-binary_gives.value (not (is_unary c.in-Bin.op) && kinds.same_kind (result_kind_of c.in-Bin.op) c.args.kind && kinds.has_kind (known_uses c.args.self.now) (expression_of c.in-Bin.a.value) (operand_kind c.in-Bin.op)) (kinds.has_kind (known_uses c.args.self.now) (expression_of c.in-Bin.b.value) (operand_kind c.in-Bin.op))
    (elim c.if-binary_gives.branch [
      | has_kind-then-binary_gives w ↦ w.value-is ∙ first_holds c.binary_gives.result (not (is_unary c.in-Bin.op)) (kinds.same_kind (result_kind_of c.in-Bin.op) c.args.kind) (kinds.has_kind (known_uses c.args.self.now) (expression_of c.in-Bin.a.value) (operand_kind c.in-Bin.op)) w.has_kind-then-binary_gives.result
          c.binary_gives.ensures w.if-binary_gives.true
          (same_operand (known_uses c.args.self.now) _ c.in-Bin.a.value _ (operand_kind c.in-Bin.op) w.has_kind-then-binary_gives.result w.has_kind-then-binary_gives.ensures
          w.deref-then-binary_gives.ensures w.operand_kind-then-binary_gives.ensures)
      | has_kind-else-binary_gives w ↦ w.value-is
          ∙ first_fails c.binary_gives.result (not (is_unary c.in-Bin.op)) (kinds.same_kind (result_kind_of c.in-Bin.op) c.args.kind) (kinds.has_kind (known_uses c.args.self.now) (expression_of c.in-Bin.a.value) (operand_kind c.in-Bin.op)) c.binary_gives.ensures w.if-binary_gives.false
    ])
    c.if-has_kind.false)
    c.in-Bin.is (kind-bin (known_uses c.args.self.now) c.in-Bin.op c.in-Bin.a c.in-Bin.b c.args.kind)

pub has_kind-returns-then-call_gives : goal.has_kind-returns-then-call_gives
has_kind-returns-then-call_gives t c =
    told (known_uses c.args.self.now) c.args.expr.now (exprs.Call c.in-Call.function c.in-Call.arguments) c.args.kind c.are_arguments.result _
    (first_holds c.call_gives.result (suits_number c.in-Call.function (length c.in-Call.arguments)) (kinds.same_kind Integer c.args.kind)
    (kinds.are_arguments (known_uses c.args.self.now) (expressions (map expression_of c.in-Call.arguments))) c.are_arguments.result
    (c.call_gives.ensures ∙ ap (λ n. suits_number c.in-Call.function n && kinds.same_kind Integer c.args.kind) c.len.ensures) c.if-call_gives.true
    c.are_arguments.ensures)
    c.in-Call.is (kind-call (known_uses c.args.self.now) c.in-Call.function c.in-Call.arguments c.args.kind)

pub has_kind-returns-else-call_gives : goal.has_kind-returns-else-call_gives
has_kind-returns-else-call_gives t c =
    told (known_uses c.args.self.now) c.args.expr.now (exprs.Call c.in-Call.function c.in-Call.arguments) c.args.kind c.call_gives.result _
    (first_fails c.call_gives.result (suits_number c.in-Call.function (length c.in-Call.arguments)) (kinds.same_kind Integer c.args.kind)
    (kinds.are_arguments (known_uses c.args.self.now) (expressions (map expression_of c.in-Call.arguments)))
    (c.call_gives.ensures ∙ ap (λ n. suits_number c.in-Call.function n && kinds.same_kind Integer c.args.kind) c.len.ensures) c.if-call_gives.false)
    c.in-Call.is (kind-call (known_uses c.args.self.now) c.in-Call.function c.in-Call.arguments c.args.kind)

-- ---- and those of Fortran 90 alone

pub has_kind-returns-in-List : goal.has_kind-returns-in-List
has_kind-returns-in-List t c =
    sym (ap (λ e. kinds.has_kind (known_uses c.args.self.now) (expression_of e) c.args.kind) c.in-List.is
    ∙ kind-list (known_uses c.args.self.now) c.in-List.field-0 c.in-List.field-1 c.args.kind)

pub has_kind-returns-in-Spread : goal.has_kind-returns-in-Spread
has_kind-returns-in-Spread t c =
    sym (ap (λ e. kinds.has_kind (known_uses c.args.self.now) (expression_of e) c.args.kind) c.in-Spread.is
    ∙ kind-spread (known_uses c.args.self.now) c.in-Spread.field-0 c.in-Spread.field-1 c.in-Spread.field-2 c.args.kind)

pub has_kind-returns-in-Transpose : goal.has_kind-returns-in-Transpose
has_kind-returns-in-Transpose t c =
    sym (ap (λ e. kinds.has_kind (known_uses c.args.self.now) (expression_of e) c.args.kind) c.in-Transpose.is
    ∙ kind-transpose (known_uses c.args.self.now) c.in-Transpose.field-0 c.args.kind)

pub has_kind-returns-in-Reshape : goal.has_kind-returns-in-Reshape
has_kind-returns-in-Reshape t c =
    sym (ap (λ e. kinds.has_kind (known_uses c.args.self.now) (expression_of e) c.args.kind) c.in-Reshape.is
    ∙ kind-reshape (known_uses c.args.self.now) c.in-Reshape.field-0 c.in-Reshape.field-1 c.args.kind)

pub has_kind-returns-in-Reduce : goal.has_kind-returns-in-Reduce
has_kind-returns-in-Reduce t c =
    sym (ap (λ e. kinds.has_kind (known_uses c.args.self.now) (expression_of e) c.args.kind) c.in-Reduce.is
    ∙ kind-reduce (known_uses c.args.self.now) c.in-Reduce.field-0 c.in-Reduce.field-1 c.args.kind)

pub is_subscript-returns-in-Part : goal.is_subscript-returns-in-Part
is_subscript-returns-in-Part t c =
    sym (ap (λ s. kinds.is_subscript (known_uses c.args.self.now) (subscript_of s)) c.in-Part.is
    ∙ subscript-part (known_uses c.args.self.now) c.in-Part.field-0 c.in-Part.field-1 c.in-Part.field-2)
