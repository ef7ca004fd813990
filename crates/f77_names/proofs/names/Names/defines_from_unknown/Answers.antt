use Rattle.std.proofs.Common.{◌∷◌, ◌++◌, ◌||◌, ◌+◌, map, drop, refl, sym, ap, ◌∙◌, arith}
use Rattle.std.specs.List.{list_any}
use Rattle.tree.specs.View.{expression_of}
use Rattle.f77_grammar.specs.program.Uses as plain
use Rattle.f77_grammar.specs.program.Declarations.{defines_from_unknown}
use Rattle.f77_grammar.specs.syntax.Views.{constant_of}
use Rattle.f77_names.specs.UsesView.{plain_use}
use Rattle.f77_names.specs.Seen.{is_unknown_use, defined_after}
use Rattle.f77_names.proofs.SeenLaws.{behind_more}
use Rattle.f77_names.proofs.DeclarationLaws.{unknown_ahead, unknown_ends, define_more, none_own}
use Rattle.f77_names.proofs.names.Names.defines_from_unknown.Goals as goal

pub returns-then-has_unknown : goal.returns-then-has_unknown
returns-then-has_unknown c defined h =
    sym (unknown_ahead c.args.self.now c.loop-constant.own defined (defined_after c.args.constants.now c.loop-constant.constant-index defined) c.args.constants.now c.loop-constant.constant-index c.constant-item.result
    (omega arith) c.constant-item.is (c.loop-constant.invariant.own defined h) (c.loop-constant.invariant.left defined h)
    ∙ ap (λ us. list_any (is_unknown_use c.args.self.now c.loop-constant.own) us || defines_from_unknown (c.constant-item.result.0 ∷ defined_after c.args.constants.now c.loop-constant.constant-index defined) (map constant_of (drop (c.loop-constant.constant-index + 1) c.args.constants.now)))
    (sym (ap (map plain_use) c.as_slice.ensures ∙ c.in_ok-add_expr.ensures ∙ ap (λ us. us ++ plain.uses77_in (expression_of c.constant-item.result.1)) c.new-value.ensures))
    ∙ ap (λ b. b || defines_from_unknown (c.constant-item.result.0 ∷ defined_after c.args.constants.now c.loop-constant.constant-index defined) (map constant_of (drop (c.loop-constant.constant-index + 1) c.args.constants.now)))
    (sym c.has_unknown.ensures ∙ c.if-has_unknown.true))

pub loop-constant-preserved : goal.loop-constant-preserved
loop-constant-preserved c = record {
  own = λ defined h.
      define_more c.args.self.now c.loop-constant.own c.note.new.self c.args.constants.now c.loop-constant.constant-index c.constant-item.result defined (omega arith) c.constant-item.is
      c.in_ok-note.ensures (c.loop-constant.invariant.own defined h);
  left = λ defined h.
      unknown_ahead c.args.self.now c.loop-constant.own defined (defined_after c.args.constants.now c.loop-constant.constant-index defined) c.args.constants.now c.loop-constant.constant-index c.constant-item.result
      (omega arith) c.constant-item.is (c.loop-constant.invariant.own defined h) (c.loop-constant.invariant.left defined h)
      ∙ ap (λ us. list_any (is_unknown_use c.args.self.now c.loop-constant.own) us || defines_from_unknown (c.constant-item.result.0 ∷ defined_after c.args.constants.now c.loop-constant.constant-index defined) (map constant_of (drop (c.loop-constant.constant-index + 1) c.args.constants.now)))
      (sym (ap (map plain_use) c.as_slice.ensures ∙ c.in_ok-add_expr.ensures ∙ ap (λ us. us ++ plain.uses77_in (expression_of c.constant-item.result.1)) c.new-value.ensures))
      ∙ ap (λ b. b || defines_from_unknown (c.constant-item.result.0 ∷ defined_after c.args.constants.now c.loop-constant.constant-index defined) (map constant_of (drop (c.loop-constant.constant-index + 1) c.args.constants.now)))
      (sym c.has_unknown.ensures ∙ c.if-has_unknown.false)
      ∙ ap (λ names. defines_from_unknown names (map constant_of (drop (c.loop-constant.constant-index + 1) c.args.constants.now)))
      (sym (behind_more (λ d. d.0) c.args.constants.now c.loop-constant.constant-index c.constant-item.result defined (omega arith) c.constant-item.is));
}

pub loop-constant-init : goal.loop-constant-init
loop-constant-init c = record {
  own = λ defined h. none_own c.args.self.now c.new-own.result defined c.new-own.ensures h;
  left = λ defined h. refl;
}

pub returns : goal.returns
returns c defined h =
    unknown_ends defined (defined_after c.args.constants.now c.loop-constant.constant-index defined) c.args.constants.now c.loop-constant.constant-index c.loop-constant-test.false (c.loop-constant.invariant.left defined h)
