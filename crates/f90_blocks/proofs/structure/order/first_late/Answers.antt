use Rattle.std.proofs.Common.{sym, ◌∙◌}
use Rattle.f90_blocks.specs.structure.Order.{IsPassed}
use Rattle.f90_blocks.proofs.structure.Walks.{begun, passed, stopped, ended}
use Rattle.f90_blocks.proofs.structure.order.first_late.Goals as goal

pub loop-i-init : goal.loop-i-init
loop-i-init c ps a = begun _ (IsPassed c.nothing-passed.result) c.args.text.now ps c.nothing-passed.ensures

pub loop-i-preserved : goal.loop-i-preserved
loop-i-preserved c ps a =
    passed _ (IsPassed c.loop-i.passed) c.args.text.now ps
    (IsPassed c.more-passed.result) c.loop-i.i c.index-text-i.result c.loop-i-test.true
    (sym c.index-text-i.is) a
    (λ p here n is b. sym c.if-is_late.false
    ∙ c.is_late.ensures p.before p.here.form is.is b)
    (λ before p is b. c.more-passed.ensures before p is.is b)
    (c.loop-i.invariant ps a)

pub returns-then-is_late : goal.returns-then-is_late
returns-then-is_late c ps a =
    stopped _ (IsPassed c.loop-i.passed) c.args.text.now ps c.loop-i.i c.index-text-i.result c.loop-i-test.true
    (sym c.index-text-i.is) a
    (λ p here n is b. sym c.if-is_late.true
    ∙ c.is_late.ensures p.before p.here.form is.is b)
    (c.loop-i.invariant ps a)

pub returns : goal.returns
returns c ps a =
    ended _ (IsPassed c.loop-i.passed) c.args.text.now ps c.loop-i.i c.loop-i-test.false a (c.loop-i.invariant ps a)
