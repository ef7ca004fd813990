use Rattle.f90_names.proofs.calls.CallLaws.{passes}
use Rattle.f90_names.proofs.calls.walk.masked_suits.Goals as goal

pub returns : goal.returns
returns c m l r hm hl hr =
    passes _ _ c.in_ok-suits_calls.field-0 c.assignment_suits.result c.if-not-branch.false
    (c.in_ok-suits_calls.ensures m hm) (c.assignment_suits.ensures l r hl hr)
