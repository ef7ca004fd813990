use Rattle.std.proofs.Common.{arith, ap, sym, subst, length, ◌+◌, ◌≡◌, ◌∙◌}
use Rattle.std.specs.Prelude.{slice_index}
use Rattle.std.proofs.lemmas.Bool.{both_ways}
use Rattle.subscripts.proofs.Coupling.{apart_next, coupled_from, coupled_next, coupled_to}
use Rattle.subscripts.specs.Partitions.{AreGroupedUpTo}
use Rattle.subscripts.proofs.groups.join_earlier.Goals as goal
use Rattle.subscripts.proofs.groups.join_earlier.Goals.{then-shares_loop, else-shares_loop}

pub loop-earlier-preserved : goal.loop-earlier-preserved
loop-earlier-preserved c =
    elim c.if-shares_loop.branch [
      | then-shares_loop w ↦
          let a = coupled_from c.args.ps.now c.loop-earlier.earlier c.args.place _ _ (omega arith) (omega arith) (c.shares_loop.ensures.0 w.if-shares_loop.true) in
          let e = w.groups-is in
          let n : length w.join.new.groups ≡ 7 = sym (ap length e) ∙ omega arith in
          subst (λ gs. AreGroupedUpTo c.args.ps.now gs c.args.place (c.loop-earlier.earlier + 1)) (sym e)
          (coupled_next c.args.ps.now c.loop-earlier.groups w.join.new.groups c.args.place c.loop-earlier.earlier (omega arith) (omega arith) c.loop-earlier.invariant a (λ k l. w.join.ensures k (omega arith)))
      | else-shares_loop w ↦
          let e = w.groups-is in
          subst (λ gs. AreGroupedUpTo c.args.ps.now gs c.args.place (c.loop-earlier.earlier + 1)) (sym e)
          (apart_next c.args.ps.now c.loop-earlier.groups c.args.place c.loop-earlier.earlier c.loop-earlier.invariant
          (λ h. both_ways c.shares_loop.result w.if-shares_loop.false (c.shares_loop.ensures.1 (coupled_to c.args.ps.now c.loop-earlier.earlier c.args.place _ _ h))))
    ]
