use Rattle.std.proofs.Common.{◌≡◌, ◌+◌, map, drop}
use Rattle.std.specs.Prelude.{sum}
use Rattle.f77_grammar.specs.program.Limits.{elements}
use Rattle.f77_grammar.specs.syntax.Views.{entity_of}
use Rattle.f77_names.specs.constants.Constants.{store_of}
use Rattle.f77_names.specs.constants.Bounds.{bounds_in}
use Rattle.meaning.specs.element_counts.Counts.{capped}
use Rattle.meaning.specs.Dialect.{fortran77}
use Rattle.f77_names.proofs.constants.constants.Constants.all_elements.Given as goal

abbrev pub invariant-loop-entity : goal.invariant-loop-entity
invariant-loop-entity l = record {
  sum : capped (sum (map (elements (fortran77 l.self.width) (store_of l.self)) (bounds_in (map entity_of l.entities))))
      ≡ capped (l.count + sum (map (elements (fortran77 l.self.width) (store_of l.self)) (bounds_in (map entity_of (drop l.entity-index l.entities)))));
  capped : l.count ≡ capped l.count;
}
