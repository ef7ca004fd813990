use Rattle.std.proofs.Common.{rules}
use Rattle.f90_statement.proofs.EntityLaws.{bounded_only, bounded_err}
use Rattle.f90_statement.proofs.declarations.entity.Goals as goal

pub returns-in-Ok-clause-only : goal.returns-in-Ok-clause-only
returns-in-Ok-clause-only c e last g i h =
    bounded_only c.args.is_allocatable _ _ _ _ c.in-Ok.entity (search rules) c.in-Ok.ensures.only e last g i h

pub returns-in-Err-clause-only : goal.returns-in-Err-clause-only
returns-in-Err-clause-only c e last g i h =
    bounded_err _ c.args.is_allocatable _ _ _ c.in-Err.stop (search rules) c.in-Err.ensures.only e last g i h
