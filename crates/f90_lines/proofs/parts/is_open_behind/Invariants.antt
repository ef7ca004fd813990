use Rattle.std.proofs.Common.{◌≡◌, drop}
use Rattle.f90_grammar.specs.FreeForm.{is_open_behind}
use Rattle.f90_lines.proofs.parts.is_open_behind.Given as goal

abbrev pub invariant-loop-byte : goal.invariant-loop-byte
invariant-loop-byte l = is_open_behind l.in_constant l.chars ≡ is_open_behind l.open (drop l.byte-index l.chars)
