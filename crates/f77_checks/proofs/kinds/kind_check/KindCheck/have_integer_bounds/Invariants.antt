use Rattle.std.proofs.Common.{◌≡◌, map, drop}
use Rattle.f77_grammar.specs.program.Kinds as kinds
use Rattle.f77_grammar.specs.syntax.Views.{entity_of}
use Rattle.f77_checks.specs.kinds.KnownUses.{known_uses}
use Rattle.f77_checks.proofs.kinds.kind_check.KindCheck.have_integer_bounds.Given as goal

abbrev pub invariant-loop-entity : goal.invariant-loop-entity
invariant-loop-entity l = kinds.has_integer_bounds (known_uses l.self) (map entity_of l.entity-items) ≡ kinds.has_integer_bounds (known_uses l.self) (map entity_of (drop l.entity-index l.entity-items))
