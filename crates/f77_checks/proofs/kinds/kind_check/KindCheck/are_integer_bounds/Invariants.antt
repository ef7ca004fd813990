use Rattle.std.proofs.Common.{◌≡◌, map, drop}
use Rattle.f77_grammar.specs.program.Kinds as kinds
use Rattle.f77_grammar.specs.syntax.Views.{bounds_of}
use Rattle.f77_checks.specs.kinds.KnownUses.{known_uses}
use Rattle.f77_checks.proofs.kinds.kind_check.KindCheck.are_integer_bounds.Given as goal

abbrev pub invariant-loop-bound : goal.invariant-loop-bound
invariant-loop-bound l = kinds.are_integer_bounds (known_uses l.self) (map bounds_of l.bound-items) ≡ kinds.are_integer_bounds (known_uses l.self) (map bounds_of (drop l.bound-index l.bound-items))
