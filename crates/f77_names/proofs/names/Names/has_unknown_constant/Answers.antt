use Rattle.std.proofs.Common.{ap, ◌∙◌}
use Rattle.f77_grammar.specs.program.Declarations.{bounds_of_entities, defines_from_unknown, has_unknown}
use Rattle.f77_grammar.specs.syntax.Views.{statement_of}
use Rattle.f77_names.proofs.DeclarationLaws.{unknown_first, unknown_second}
use Rattle.f77_names.proofs.names.Names.has_unknown_constant.Goals as goal

pub returns-then-in_bounds : goal.returns-then-in_bounds
returns-then-in_bounds c defined h =
    unknown_first defined (statement_of c.args.statement.now) c.in_ok-in_bounds.in_bounds
    (c.in_ok-in_bounds.ensures defined h ∙ ap (λ es. has_unknown defined (bounds_of_entities es)) c.entities.ensures) c.if-in_bounds.true

pub returns-else-in_bounds : goal.returns-else-in_bounds
returns-else-in_bounds c defined h =
    unknown_second defined (statement_of c.args.statement.now) c.in_ok-in_bounds.in_bounds c.in_ok-in_values.in_values
    (c.in_ok-in_bounds.ensures defined h ∙ ap (λ es. has_unknown defined (bounds_of_entities es)) c.entities.ensures) c.if-in_bounds.false
    (c.in_ok-in_values.ensures defined h ∙ ap (defines_from_unknown defined) c.definitions.ensures)
