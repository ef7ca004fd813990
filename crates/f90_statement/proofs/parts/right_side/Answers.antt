use Rattle.f90_statement.proofs.PartLaws.{right_longer, right_err}
use Rattle.f90_statement.proofs.TokenLaws.{some_left}
use Rattle.f90_statement.proofs.parts.right_side.Goals as goal

pub returns-then-not-is_empty : goal.returns-then-not-is_empty
returns-then-not-is_empty c =
    right_longer _ _ _ _ c.in-Some.ensures c.in-Ok.ensures.only
    (λ e. some_left c.in-Ok.rest.now c.is_empty.result c.is_empty.ensures c.if-not-is_empty.true e)

pub returns-in-Err : goal.returns-in-Err
returns-in-Err c = right_err _ _ c.in-Err.stop c.in-Some.ensures c.in-Err.ensures.only
