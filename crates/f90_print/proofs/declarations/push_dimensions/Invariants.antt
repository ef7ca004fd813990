use Rattle.std.proofs.Common.{◌≡◌, ◌++◌, map, take}
use Rattle.std.specs.Prelude.{flat_map}
use Rattle.tree.specs.View.{bounds_of}
use Rattle.f90_grammar.specs.PrintedForms.{dimension}
use Rattle.f90_grammar.specs.PrintedText.{dimension_text}
use Rattle.f90_print.specs.Texts.{after_comma}
use Rattle.f90_print.proofs.declarations.push_dimensions.Given as goal

-- the dimensions so far are written
abbrev pub invariant-loop-dim : goal.invariant-loop-dim
invariant-loop-dim l = l.text.items ≡ l.initial.text.items ++ flat_map (after_comma dimension_text) (map dimension (map bounds_of (take l.dim-index l.rest)))
