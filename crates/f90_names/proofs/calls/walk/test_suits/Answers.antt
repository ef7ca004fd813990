use Rattle.f90_names.proofs.calls.CallLaws.{passes}
use Rattle.f90_names.proofs.calls.walk.test_suits.Goals as goal

pub returns : goal.returns
returns c p f hp hf =
    passes _ _ c.in_ok-suits_calls.field-0 c.action_suits.result c.if-not-branch.false
    (c.in_ok-suits_calls.ensures p hp) (c.action_suits.ensures f hf)
