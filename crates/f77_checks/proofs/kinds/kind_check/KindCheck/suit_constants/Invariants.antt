use Rattle.std.proofs.Common.{◌≡◌, map, drop}
use Rattle.f77_grammar.specs.Statement77 as plain
use Rattle.f77_grammar.specs.program.Kinds as kinds
use Rattle.f77_grammar.specs.syntax.Views.{constant_of}
use Rattle.f77_checks.specs.kinds.KnownUses.{known_uses}
use Rattle.f77_checks.proofs.kinds.kind_check.KindCheck.suit_constants.Given as goal

abbrev pub invariant-loop-constant : goal.invariant-loop-constant
invariant-loop-constant l =
    kinds.suits (known_uses l.self) (plain.Constants (map constant_of l.constant-items))
    ≡ kinds.suits (known_uses l.self) (plain.Constants (map constant_of (drop l.constant-index l.constant-items)))
