use Rattle.std.proofs.Common.{ℕ, Option, List, ap, sym, ◌∙◌}
use Rattle.f90_grammar.specs.Order.{is_misnamed}
use Rattle.f90_blocks.proofs.structure.Walks.{Anything, begun, passed, stopped, ended}
use Rattle.f90_blocks.proofs.structure.names.first_misnamed.Goals as goal

pub loop-i-init : goal.loop-i-init
loop-i-init c ps a = begun _ Anything c.args.text.now ps tt

pub loop-i-preserved : goal.loop-i-preserved
loop-i-preserved c ps a =
    passed _ Anything c.args.text.now ps Anything c.loop-i.i c.index-text-i.result c.loop-i-test.true
    (sym c.index-text-i.is) a
    (λ p here n is b. sym c.if-is_misnamed.false
    ∙ (c.is_misnamed.ensures p.here.form is.is
    ∙ ap (λ (title : Option (List ℕ)). is_misnamed title p.here.form) (c.title_of-title.ensures ps a)))
    (λ before p is b. tt)
    (c.loop-i.invariant ps a)

pub returns-then-is_misnamed : goal.returns-then-is_misnamed
returns-then-is_misnamed c ps a =
    stopped _ Anything c.args.text.now ps c.loop-i.i c.index-text-i.result c.loop-i-test.true
    (sym c.index-text-i.is) a
    (λ p here n is b. sym c.if-is_misnamed.true
    ∙ (c.is_misnamed.ensures p.here.form is.is
    ∙ ap (λ (title : Option (List ℕ)). is_misnamed title p.here.form) (c.title_of-title.ensures ps a)))
    (c.loop-i.invariant ps a)

pub returns : goal.returns
returns c ps a =
    ended _ Anything c.args.text.now ps c.loop-i.i c.loop-i-test.false a (c.loop-i.invariant ps a)
