use Rattle.std.proofs.Common.{refl}
use Rattle.interchange.proofs.laws.worked_orders.Goals as goal

pub returns-clause-product : goal.returns-clause-product
returns-clause-product c = refl

pub returns-clause-two : goal.returns-clause-two
returns-clause-two c = refl

pub returns-clause-backward : goal.returns-clause-backward
returns-clause-backward c = refl

pub returns-clause-any : goal.returns-clause-any
returns-clause-any c = refl

pub returns-clause-fit : goal.returns-clause-fit
returns-clause-fit c = refl

pub returns-clause-same_trip : goal.returns-clause-same_trip
returns-clause-same_trip c = refl

pub returns-clause-other_trip : goal.returns-clause-other_trip
returns-clause-other_trip c = refl
