use Rattle.std.proofs.Common.{◌≡◌, [], length, sym, ◌∙◌, append-nil, arith}
use Rattle.std.proofs.lemmas.Bool.Decides.{nat_tests}
use Rattle.std.proofs.lemmas.Result.{err_from_is_err_and}
use Rattle.f77_statement.proofs.GivenLaws.{given_err, none_left}
use Rattle.f77_statement.proofs.statements.entities.Goals as goal

pub returns-in_err-entities-clause-only : goal.returns-in_err-entities-clause-only
returns-in_err-entities-clause-only c es g e =
    let p = err_from_is_err_and c.from_residual.result c.from_residual.ensures.1 in
    rw (p.1, p.2) (given_err _ _ _ (c.in_err-entities.ensures.only es [] g tt (e ∙ sym (append-nil _))))

pub returns-then-not-is_empty-clause-only : goal.returns-then-not-is_empty-clause-only
returns-then-not-is_empty-clause-only c es g e =
    let k = c.in_ok-entities.ensures.only es [] g tt (e ∙ sym (append-nil _)) in
    let n : length c.in_ok-entities.rest.now ≡ 0 = none_left c.in_ok-entities.rest.now k.2 in
    grind (arith, nat_tests)
