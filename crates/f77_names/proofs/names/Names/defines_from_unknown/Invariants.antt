use Rattle.std.proofs.Common.{◌≡◌, ℕ, List, map, drop}
use Rattle.f77_grammar.specs.program.Declarations.{defines_from_unknown}
use Rattle.f77_grammar.specs.syntax.Views.{constant_of}
use Rattle.f77_names.specs.Seen.{Define, defined_after, AreDefined}
use Rattle.f77_names.proofs.names.Names.defines_from_unknown.Given as goal

abbrev pub invariant-loop-constant : goal.invariant-loop-constant
invariant-loop-constant l = record {
  own : (defined : List (List ℕ)) → AreDefined l.self defined → Define l.self l.own (defined_after l.constants l.constant-index defined);
  left : (defined : List (List ℕ)) → AreDefined l.self defined
      → defines_from_unknown defined (map constant_of l.constants)
      ≡ defines_from_unknown (defined_after l.constants l.constant-index defined) (map constant_of (drop l.constant-index l.constants));
}
