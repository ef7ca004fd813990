use Rattle.array_form.proofs.holds.SameLaws.{difference_is, past_limits}
use Rattle.array_form.proofs.holds.bounds.is_same.Goals as goal

pub returns-in-Some-combined : goal.returns-in-Some-combined
returns-in-Some-combined c = λ n f g few h i.
    difference_is n f g c.in-Some.other c.in-Some-combined.rest c.args.other.now c.combined.result c.is_zero.result c.in-Some.is i (λ p k. c.combined.ensures n f p few h k) c.in-Some-combined.is (λ p k. c.is_zero.ensures n p few k)

pub returns-in-None : goal.returns-in-None
returns-in-None c = λ n f g few h i.
    past_limits n f g c.in-Some.other c.args.other.now c.combined.result c.in-Some.is i (λ p k. c.combined.ensures n f p few h k) c.in-None.is
