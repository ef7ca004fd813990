use Rattle.std.proofs.Common.{◌≡◌, [], ◌∷◌, ◌++◌, rules}
use Rattle.std.proofs.lemmas.Result.{err_from_is_err_and}
use Rattle.f90_grammar.specs.Forms.{written_extent}
use Rattle.f90_grammar.specs.Phrases.{IsExpression90}
use Rattle.f90_expressions.specs.Reading.{IsMadeOf}
use Rattle.f90_statement.proofs.ListLaws.{list_begun, list_grown, reads_begun, reads_grown, reads_ended, list_err, grown_err, shorter}
use Rattle.f90_statement.proofs.parts.extents.Goals as goal

pub returns-in_err-first-clause-only : goal.returns-in_err-first-clause-only
returns-in_err-first-clause-only c parts last g l s =
    let p = err_from_is_err_and c.from_residual.result c.from_residual.ensures.1 in
    rw (p.1, p.2) (list_err IsMadeOf IsExpression90 written_extent _ _ _ _ c.in_err-first.ensures.only parts last g l s)

pub extents-init : goal.extents-init
extents-init c =
    let e : c.push.new.self ≡ c.in_ok-first.first ∷ [] = search rules in
    record {
      so_far = rw e (list_begun IsMadeOf IsExpression90 written_extent _ _ _ c.in_ok-first.ensures.found);
      only = rw e (reads_begun IsMadeOf IsExpression90 written_extent _ _ _ c.in_ok-first.ensures.only);
    }

pub returns-in_err-next-clause-only : goal.returns-in_err-next-clause-only
returns-in_err-next-clause-only c parts last g l s =
    let p = err_from_is_err_and c.from_residual-in_err-next.result c.from_residual-in_err-next.ensures.1 in
    rw (p.1, p.2) (grown_err IsMadeOf IsExpression90 written_extent _ _ _ _ _ _ _ c.extents.invariant.only c.in-Some.ensures c.in_err-next.ensures.only parts last g l s)

pub extents-smaller : goal.extents-smaller
extents-smaller c = shorter c.extents.rest.now c.in-Some.more.now c.in_ok-next.tail.now (written_extent c.in_ok-next.ensures.found.part) c.in-Some.ensures c.in_ok-next.ensures.found.same

pub extents-preserved : goal.extents-preserved
extents-preserved c =
    let e : c.push-in-Some.new.self ≡ c.extents.extents ++ c.in_ok-next.next ∷ [] = search rules in
    record {
      so_far = rw e (list_grown IsMadeOf IsExpression90 written_extent _ _ _ _ _ _ c.extents.invariant.so_far c.in-Some.ensures c.in_ok-next.ensures.found);
      only = rw e (reads_grown IsMadeOf IsExpression90 written_extent _ _ _ _ _ _ c.extents.invariant.only c.in-Some.ensures c.in_ok-next.ensures.only);
    }

pub returns-clause-only : goal.returns-clause-only
returns-clause-only c parts last g l s = reads_ended IsMadeOf IsExpression90 written_extent _ _ _ c.extents.invariant.only c.in_default.ensures parts last g l s
