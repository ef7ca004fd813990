use Rattle.f90_statement.specs.items.Views.{direction_of}
use Rattle.f90_statement.proofs.items.MadeLaws.{no_further_at}
use Rattle.f90_statement.proofs.items.reader.next_part.Goals as goal

pub returns-in_default : goal.returns-in_default
returns-in_default c ns h =
    no_further_at (direction_of c.args.direction) c.args.due c.args.loops c.args.tokens.now c.if-due.false (c.requires.some c.if-due.false) c.in_default.ensures ns h
