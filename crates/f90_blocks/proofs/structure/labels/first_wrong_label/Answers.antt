use Rattle.std.proofs.Common.{sym, ◌∙◌}
use Rattle.f90_blocks.specs.structure.Labels.{AreLabels}
use Rattle.f90_blocks.proofs.structure.Walks.{begun, passed, stopped, ended}
use Rattle.f90_blocks.proofs.structure.labels.first_wrong_label.Goals as goal

pub loop-i-init : goal.loop-i-init
loop-i-init c ps a = begun _ (AreLabels c.new-labels.result) c.args.text.now ps c.new-labels.ensures

pub loop-i-preserved : goal.loop-i-preserved
loop-i-preserved c ps a =
    passed _ (AreLabels c.loop-i.labels) c.args.text.now ps
    (AreLabels c.pass.new.self) c.loop-i.i c.index-text-i.result c.loop-i-test.true
    (sym c.index-text-i.is) a
    (λ p here n is b. sym c.if-refuse.false
    ∙ c.refuse.ensures p.before p.here.form is.is b)
    (λ before p is b. c.in_ok-pass.ensures before p is.is b)
    (c.loop-i.invariant ps a)

pub returns-then-refuse : goal.returns-then-refuse
returns-then-refuse c ps a =
    stopped _ (AreLabels c.loop-i.labels) c.args.text.now ps c.loop-i.i c.index-text-i.result c.loop-i-test.true
    (sym c.index-text-i.is) a
    (λ p here n is b. sym c.if-refuse.true
    ∙ c.refuse.ensures p.before p.here.form is.is b)
    (c.loop-i.invariant ps a)

pub returns : goal.returns
returns c ps a =
    ended _ (AreLabels c.loop-i.labels) c.args.text.now ps c.loop-i.i c.loop-i-test.false a (c.loop-i.invariant ps a)
