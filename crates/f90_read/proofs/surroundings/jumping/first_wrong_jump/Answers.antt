use Rattle.std.proofs.Common.{◌-◌, arith, sym, subst}
use Rattle.f90_blocks.specs.declared.places.forms.placing.Placed.{Placed}
use Rattle.f90_statement.specs.Views.{IsStatementOf}
use Rattle.f90_read.proofs.OfSurroundings.JumpLaws.{start, stop, further}
use Rattle.f90_read.proofs.surroundings.jumping.first_wrong_jump.Goals as goal

pub loop-i-init : goal.loop-i-init
loop-i-init c ps a = start ps c.args.text.now c.new-ahead.result a c.new-ahead.ensures

pub loop-i-preserved : goal.loop-i-preserved
loop-i-preserved c ps a =
    further ps c.args.text.now c.loop-i.i (c.loop-i.i - 1) c.index-text-i.result c.are_missed_by-is_missed.result c.loop-i.ahead c.pass.new.self c.loop-i.found
    c.nearer-found.result a (omega arith) (omega arith) (sym c.index-text-i.is)
    (λ f qs h k. c.are_missed_by-is_missed.ensures f qs (subst (λ (x : Placed). IsStatementOf x.statement f) c.index-text-i.is h) k) c.nearer-found.ensures
    (λ p qs h k. c.in_ok-pass.ensures p qs (subst (λ (x : Placed). IsStatementOf x.statement p.form) c.index-text-i.is h) k) (c.loop-i.invariant ps a)

pub returns : goal.returns
returns c ps a = stop ps c.loop-i.ahead c.loop-i.found c.loop-i.i c.loop-i-test.false (c.loop-i.invariant ps a)
