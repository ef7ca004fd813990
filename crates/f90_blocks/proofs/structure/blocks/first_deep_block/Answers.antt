use Rattle.std.proofs.Common.{[], sym, ◌∙◌}
use Rattle.f90_grammar.specs.Order.{blocks_round, opened_behind}
use Rattle.f90_blocks.proofs.structure.OpenBlocks.{AreOpenBehind, open_behind}
use Rattle.f90_blocks.proofs.structure.Walks.{begun, passed, stopped, ended}
use Rattle.f90_blocks.proofs.structure.blocks.first_deep_block.Goals as goal

pub loop-i-init : goal.loop-i-init
loop-i-init c ps a = begun _ (AreOpenBehind c.new-blocks.result) c.args.text.now ps c.new-blocks.ensures

pub loop-i-preserved : goal.loop-i-preserved
loop-i-preserved c ps a =
    passed _ (AreOpenBehind c.loop-i.blocks) c.args.text.now ps
    (AreOpenBehind c.pass.new.self) c.loop-i.i c.index-text-i.result c.loop-i-test.true
    (sym c.index-text-i.is) a
    (λ p here n is b. sym c.if-are_too_many.false
    ∙ c.are_too_many.ensures p.here.form (blocks_round p) is.is b)
    (λ before p is b. open_behind c.pass.new.self before p
    (c.in_ok-pass.ensures p.form (opened_behind [] before) is.is b))
    (c.loop-i.invariant ps a)

pub returns-then-are_too_many : goal.returns-then-are_too_many
returns-then-are_too_many c ps a =
    stopped _ (AreOpenBehind c.loop-i.blocks) c.args.text.now ps c.loop-i.i c.index-text-i.result c.loop-i-test.true
    (sym c.index-text-i.is) a
    (λ p here n is b. sym c.if-are_too_many.true
    ∙ c.are_too_many.ensures p.here.form (blocks_round p) is.is b)
    (c.loop-i.invariant ps a)

pub returns : goal.returns
returns c ps a =
    ended _ (AreOpenBehind c.loop-i.blocks) c.args.text.now ps c.loop-i.i c.loop-i-test.false a
    (c.loop-i.invariant ps a)
