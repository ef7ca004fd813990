use Rattle.std.proofs.Common.{◌++◌, map, ap, ◌∙◌}
use Rattle.std.specs.List.{list_any}
use Rattle.f77_grammar.specs.program.Declarations.{bounds_of_entities}
use Rattle.f77_grammar.specs.syntax.Views.{entity_of}
use Rattle.f77_names.specs.Seen.{is_unknown_use}
use Rattle.f77_names.specs.UsesView.{plain_use}
use Rattle.f77_names.proofs.DeclarationLaws.{unknown_same, none_own}
use Rattle.f77_names.proofs.names.Names.bounds_from_unknown.Goals as goal

pub returns : goal.returns
returns c defined h =
    c.has_unknown.ensures
    ∙ ap (list_any (is_unknown_use c.args.self.now c.new-own.result))
    (ap (map plain_use) c.as_slice.ensures ∙ c.in_ok-add_all_bounds.ensures ∙ ap (λ us. us ++ bounds_of_entities (map entity_of c.args.entities.now)) c.new-bounds.ensures)
    ∙ unknown_same c.args.self.now c.new-own.result defined (bounds_of_entities (map entity_of c.args.entities.now)) (none_own c.args.self.now c.new-own.result defined c.new-own.ensures h)
