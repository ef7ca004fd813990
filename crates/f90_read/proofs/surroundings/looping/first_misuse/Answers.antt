use Rattle.std.proofs.Common.{arith, sym, ap, ◌∙◌, List, ℕ}
use Rattle.std.specs.Prelude.{reverse}
use Rattle.meaning.specs.Names.{is_among}
use Rattle.f90_read.specs.surroundings.Lists.{scalar_in}
use Rattle.f90_read.specs.surroundings.Misuses.{misuses_form}
use Rattle.f90_read.proofs.OfSurroundings.LoopLaws.{start, stop, found, further}
use Rattle.f90_read.proofs.surroundings.looping.first_misuse.Goals as goal

pub loop-i-init : goal.loop-i-init
loop-i-init c ps a = start (scalar_in c.args.names.now) ps c.new-blocks.result c.new-blocks.ensures

pub returns-then-wrong : goal.returns-then-wrong
returns-then-wrong c ps a =
    found (scalar_in c.args.names.now) ps c.args.text.now c.loop-i.i c.index-text-i.result c.in_ok-wrong.wrong _ a (omega arith) (sym c.index-text-i.is)
    (λ f h. c.in_ok-wrong.ensures f h ∙ ap (λ (vs : List (List ℕ)). misuses_form (scalar_in c.args.names.now) (is_among (reverse vs)) f) c.as_slice.ensures.value)
    c.if-wrong.true (c.loop-i.invariant ps a)

pub loop-i-preserved : goal.loop-i-preserved
loop-i-preserved c ps a =
    further (scalar_in c.args.names.now) ps c.args.text.now c.loop-i.i c.index-text-i.result c.in_ok-wrong.wrong _ c.pass.new.self a (omega arith) (sym c.index-text-i.is)
    (λ f h. c.in_ok-wrong.ensures f h ∙ ap (λ (vs : List (List ℕ)). misuses_form (scalar_in c.args.names.now) (is_among (reverse vs)) f) c.as_slice.ensures.value)
    c.if-wrong.false (λ f os h o. c.in_ok-pass.ensures f os h o) (c.loop-i.invariant ps a)

pub returns : goal.returns
returns c ps a = stop (scalar_in c.args.names.now) ps c.args.text.now _ c.loop-i.i a (omega arith) (c.loop-i.invariant ps a)
