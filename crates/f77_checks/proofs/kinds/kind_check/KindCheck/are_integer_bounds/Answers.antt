use Rattle.std.proofs.Common.{◌∙◌, ap, map}
use Rattle.f77_grammar.specs.program.Kinds.{are_integer_bounds}
use Rattle.f77_grammar.specs.syntax.Views.{bounds_of}
use Rattle.f77_checks.specs.kinds.KnownUses.{known_uses}
use Rattle.f77_checks.proofs.kinds.StatementLaws.{bounds_stop, bounds_go_on}
use Rattle.f77_checks.proofs.kinds.kind_check.KindCheck.are_integer_bounds.Goals as goal

pub returns-then-not-is_integer_bound : goal.returns-then-not-is_integer_bound
returns-then-not-is_integer_bound c =
    bounds_stop (known_uses c.args.self.now) c.as_slice-bound-items.result.now c.loop-bound.bound-index c.bound-item.result
    (are_integer_bounds (known_uses c.args.self.now) (map bounds_of c.as_slice-bound-items.result.now)) c.is_integer_bound.result c.loop-bound-test.true c.bound-item.is
    c.loop-bound.invariant c.is_integer_bound.ensures c.if-not-is_integer_bound.true
    ∙ ap (λ xs. are_integer_bounds (known_uses c.args.self.now) (map bounds_of xs)) c.as_slice-bound-items.ensures

pub loop-bound-preserved : goal.loop-bound-preserved
loop-bound-preserved c =
    bounds_go_on (known_uses c.args.self.now) c.as_slice-bound-items.result.now c.loop-bound.bound-index c.bound-item.result
    (are_integer_bounds (known_uses c.args.self.now) (map bounds_of c.as_slice-bound-items.result.now)) c.is_integer_bound.result c.loop-bound-test.true c.bound-item.is
    c.loop-bound.invariant c.is_integer_bound.ensures c.if-not-is_integer_bound.false
