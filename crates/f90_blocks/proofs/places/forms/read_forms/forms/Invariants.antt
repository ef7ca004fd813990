use Rattle.std.proofs.Common.{drop}
use Rattle.f90_lines.specs.Views.{statements_seen}
use Rattle.f90_blocks.proofs.places.OfForms.FormLaws.{ReadSoFar}
use Rattle.f90_blocks.proofs.places.forms.read_forms.forms.Given as goal

abbrev pub invariant-reading : goal.invariant-reading
invariant-reading l = ReadSoFar (statements_seen l.statements) (statements_seen (drop l.written-index l.statements)) l.forms
