use Rattle.interchange.proofs.FormLaws.{both_none, both_some}
use Rattle.interchange.proofs.reads.same_form.Goals as goal

pub returns-in-Some-combined : goal.returns-in-Some-combined
returns-in-Some-combined c =
    λ n f g few h k. both_some n f g c.args.one c.args.other c.in-Some.one c.in-Some-other.other c.in-Some-combined.difference c.combined.result c.is_zero.result few c.in-Some.is c.in-Some-other.is h k
    c.combined.ensures c.in-Some-combined.is c.is_zero.ensures

pub returns-in-None : goal.returns-in-None
returns-in-None c =
    λ n f g few h k. both_none n f g c.args.one c.args.other c.in-Some.one c.in-Some-other.other c.combined.result few c.in-Some.is c.in-Some-other.is h k c.combined.ensures c.in-None.is
