use Rattle.components.proofs.Places as places
use Rattle.components.proofs.laws.order_has_components.Goals as goal

pub returns : goal.returns
returns c = λ part leaps pairs classes distinct agree order. places.order_has_components part leaps pairs classes distinct agree order
