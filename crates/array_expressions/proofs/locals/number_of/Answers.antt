use Rattle.std.proofs.Common.{◌≡◌, sym, subst, ◌∙◌, ◌+◌, take, arith, rules}
use Rattle.array_values.proofs.Steps.{settled}
use Rattle.array_expressions.specs.Locals.{Holds}
use Rattle.array_expressions.proofs.LocalLaws.{held_own, held_other, held_all}
use Rattle.array_expressions.proofs.locals.number_of.Goals as goal
use Rattle.array_expressions.proofs.locals.number_of.Goals.{then-eq, else-eq}

pub loop-local-preserved : goal.loop-local-preserved
loop-local-preserved c =
    let ls = c.args.locals.now in
    let i = c.loop-local.local-index in
    elim c.if-eq.branch [
      | then-eq w ↦ subst (Holds (take (i + 1) ls) c.args.name) (sym w.found-is) (rw (settled c.local-item.result.number (search rules)) (held_own ls c.args.name i c.local-item.result (omega arith) c.local-item.is (sym c.eq.ensures ∙ w.if-eq.true)))
      | else-eq w ↦ subst (Holds (take (i + 1) ls) c.args.name) (sym w.found-is) (held_other ls c.args.name i c.local-item.result c.loop-local.found (omega arith) c.local-item.is (sym c.eq.ensures ∙ w.if-eq.false) c.loop-local.invariant)
    ]

pub returns : goal.returns
returns c = held_all c.args.locals.now c.args.name c.loop-local.local-index c.loop-local.found (omega arith) c.loop-local.invariant
