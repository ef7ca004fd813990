use Rattle.std.proofs.Common.{◌≡◌, [], ◌∷◌, ◌++◌, rules}
use Rattle.std.proofs.lemmas.Result.{err_from_is_err_and}
use Rattle.f90_grammar.specs.Forms.{SuitsAllocatable, written_dimension}
use Rattle.f90_statement.specs.Views.{IsDimensionOf}
use Rattle.f90_statement.proofs.ListLaws.{list_begun, list_grown, reads_begun, reads_grown, reads_ended, list_err, grown_err, shorter}
use Rattle.f90_statement.proofs.declarations.dimensions.Goals as goal

pub returns-in_err-first-clause-only : goal.returns-in_err-first-clause-only
returns-in_err-first-clause-only c parts last g l s =
    let p = err_from_is_err_and c.from_residual.result c.from_residual.ensures.1 in
    rw (p.1, p.2) (list_err IsDimensionOf (SuitsAllocatable c.args.is_allocatable) written_dimension _ _ _ _ c.in_err-first.ensures.only parts last g l s)

pub dimensions-init : goal.dimensions-init
dimensions-init c =
    let e : c.push.new.self ≡ c.in_ok-first.first ∷ [] = search rules in
    record {
      so_far = rw e (list_begun IsDimensionOf (SuitsAllocatable c.args.is_allocatable) written_dimension _ _ _ c.in_ok-first.ensures.found);
      only = rw e (reads_begun IsDimensionOf (SuitsAllocatable c.args.is_allocatable) written_dimension _ _ _ c.in_ok-first.ensures.only);
    }

pub returns-in_err-next-clause-only : goal.returns-in_err-next-clause-only
returns-in_err-next-clause-only c parts last g l s =
    let p = err_from_is_err_and c.from_residual-in_err-next.result c.from_residual-in_err-next.ensures.1 in
    rw (p.1, p.2) (grown_err IsDimensionOf (SuitsAllocatable c.args.is_allocatable) written_dimension _ _ _ _ _ _ _ c.dimensions.invariant.only c.in-Some.ensures c.in_err-next.ensures.only parts last g l s)

pub dimensions-smaller : goal.dimensions-smaller
dimensions-smaller c = shorter c.dimensions.rest.now c.in-Some.more.now c.in_ok-next.tail.now (written_dimension c.in_ok-next.ensures.found.part) c.in-Some.ensures c.in_ok-next.ensures.found.same

pub dimensions-preserved : goal.dimensions-preserved
dimensions-preserved c =
    let e : c.push-in-Some.new.self ≡ c.dimensions.dimensions ++ c.in_ok-next.next ∷ [] = search rules in
    record {
      so_far = rw e (list_grown IsDimensionOf (SuitsAllocatable c.args.is_allocatable) written_dimension _ _ _ _ _ _ c.dimensions.invariant.so_far c.in-Some.ensures c.in_ok-next.ensures.found);
      only = rw e (reads_grown IsDimensionOf (SuitsAllocatable c.args.is_allocatable) written_dimension _ _ _ _ _ _ c.dimensions.invariant.only c.in-Some.ensures c.in_ok-next.ensures.only);
    }

pub returns-clause-only : goal.returns-clause-only
returns-clause-only c parts last g l s = reads_ended IsDimensionOf (SuitsAllocatable c.args.is_allocatable) written_dimension _ _ _ c.dimensions.invariant.only c.in_default.ensures parts last g l s
