use Rattle.std.proofs.Common.{◌-◌, map, reverse, ap, subst, ◌∙◌, sym, refl, arith}
use Rattle.f77_structure.specs.LoopLabels.{waiting_of}
use Rattle.f77_structure.proofs.LoopLabelLaws.{ArePassed, none_passed, many_wait, not_here, found_here, none_bears}
use Rattle.f77_structure.proofs.loop_labels.Ends.drop_bearer.Goals as goal

pub loop-i-init : goal.loop-i-init
loop-i-init c = record {
  within = omega arith;
  still = refl;
  passed = λ xs h. none_passed c.args.label xs c.len-i.result (omega (arith, many_wait c.args.self.now.waiting.items xs h));
}

pub returns-then-bears : goal.returns-then-bears
returns-then-bears c = λ xs h.
    ap reverse c.remove.ensures.by_index.2
    ∙ found_here c.args.label c.loop-i.self.waiting.items xs (c.loop-i.i - 1) c.index.result.now
    (ap reverse c.loop-i.invariant.still ∙ h) (subst (ArePassed c.args.label xs) (omega arith) (c.loop-i.invariant.passed xs h))
    c.index.ensures (sym c.bears.ensures ∙ c.if-bears.true)

pub loop-i-preserved : goal.loop-i-preserved
loop-i-preserved c = record {
  within = omega arith;
  still = c.loop-i.invariant.still;
  passed = λ xs h.
      not_here c.args.label c.loop-i.self.waiting.items xs (c.loop-i.i - 1) c.index.result.now
      (ap reverse c.loop-i.invariant.still ∙ h) (subst (ArePassed c.args.label xs) (omega arith) (c.loop-i.invariant.passed xs h))
      c.index.ensures (sym c.bears.ensures ∙ c.if-bears.false);
}

pub returns : goal.returns
returns c = λ xs h.
    ap reverse c.loop-i.invariant.still ∙ h
    ∙ ap (map waiting_of) (sym (none_bears c.args.label xs (subst (ArePassed c.args.label xs) (omega arith) (c.loop-i.invariant.passed xs h))))
