use Rattle.std.proofs.Common.{◌≡◌, map, take}
use Rattle.tree.specs.View.{declaration_of, block_of}
use Rattle.nest_reasons.specs.Symbols.{symbols_of}
use Rattle.nest_reasons.proofs.symbols.symbols_of.Given as goal

abbrev pub invariant-loop-decl : goal.invariant-loop-decl
invariant-loop-decl l = l.symbols ≡ symbols_of (map declaration_of (take l.decl-index l.decl-items)) l.variable (block_of l.body)
