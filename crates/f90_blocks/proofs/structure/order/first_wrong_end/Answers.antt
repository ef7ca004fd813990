use Rattle.std.proofs.Common.{sym, ◌∙◌}
use Rattle.f90_blocks.proofs.structure.Walks.{Anything, begun, passed, stopped, ended, last_is}
use Rattle.f90_blocks.proofs.structure.order.first_wrong_end.Goals as goal

pub loop-i-init : goal.loop-i-init
loop-i-init c ps a = begun _ Anything c.args.text.now ps tt

pub loop-i-preserved : goal.loop-i-preserved
loop-i-preserved c ps a =
    passed _ Anything c.args.text.now ps Anything c.loop-i.i c.index-text-i.result c.loop-i-test.true
    (sym c.index-text-i.is) a
    (λ p here n is b. sym c.if-ends_wrongly.false
    ∙ c.ends_wrongly.ensures p.here.form p.after is.is (last_is c.args.text.now ps p c.loop-i.i a here n))
    (λ before p is b. tt)
    (c.loop-i.invariant ps a)

pub returns-then-ends_wrongly : goal.returns-then-ends_wrongly
returns-then-ends_wrongly c ps a =
    stopped _ Anything c.args.text.now ps c.loop-i.i c.index-text-i.result c.loop-i-test.true
    (sym c.index-text-i.is) a
    (λ p here n is b. sym c.if-ends_wrongly.true
    ∙ c.ends_wrongly.ensures p.here.form p.after is.is (last_is c.args.text.now ps p c.loop-i.i a here n))
    (c.loop-i.invariant ps a)

pub returns : goal.returns
returns c ps a =
    ended _ Anything c.args.text.now ps c.loop-i.i c.loop-i-test.false a (c.loop-i.invariant ps a)
