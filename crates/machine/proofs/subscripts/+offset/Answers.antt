use Rattle.std.proofs.Common.{sym, subst, ◌<◌, IfSome}
use Rattle.tree.specs.View.{bounds_of}
use Rattle.meaning.specs.Extents.{elements_of}
use Rattle.machine.specs.Storage.{bounds_list}
use Rattle.machine.proofs.StoreLaws.{joined_below}
use Rattle.machine.proofs.subscripts.+offset.Goals as goal

pub returns-clause-within : goal.returns-clause-within
returns-clause-within t c =
    subst (λ ds. IfSome c.join.result (λ k. k < elements_of (bounds_list ds))) (sym c.in-Some.ensures.cases.0)
    (joined_below (bounds_of c.in-Some.dim.now) (bounds_list c.in-Some.inner.now) _ _ c.join.result c.join.ensures c.in_ok-rest.ensures.within)
