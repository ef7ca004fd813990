use Rattle.f90_names.proofs.kinds.OfDeclarations.OrderLaws.{all_bounds, in_order}
use Rattle.f90_names.proofs.kinds.declarations.declaring.declarations.Goals as goal

pub returns : goal.returns
returns c ps h a =
    in_order ps c.in_ok-as_written.field-0 c.sorted.result a
    (c.in_ok-as_written.ensures ps h (all_bounds ps a)) c.sorted.ensures.same c.sorted.ensures.rising
