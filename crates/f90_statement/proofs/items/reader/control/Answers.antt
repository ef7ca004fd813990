use Rattle.f90_expressions.specs.words.Tokens.{words_of}
use Rattle.f90_statement.proofs.items.MadeLaws.{control_unclosed}
use Rattle.f90_statement.proofs.items.reader.control.Goals as goal

pub returns-in_default : goal.returns-in_default
returns-in_default c d ns h =
    control_unclosed d c.args.loops c.args.name (words_of c.args.tokens.now) (words_of c.in-Ok.rest.now) c.in-Ok.bounds
    (λ a b k r g e f. c.in-Ok.ensures.only a b k r g e f) c.in_default.ensures ns h
