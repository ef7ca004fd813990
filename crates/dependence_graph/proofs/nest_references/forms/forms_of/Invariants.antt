-- The forms so far are those of the subscripts so far.
use Rattle.std.proofs.Common.{map, take}
use Rattle.std.specs.Prelude.{All}
use Rattle.tree.specs.Plain.{subscripts}
use Rattle.tree.specs.View.{subscript_of}
use Rattle.dependence_graph.specs.nest_references.Occurrences.{AreFormsIn, HasSevenLoops}
use Rattle.dependence_graph.proofs.nest_references.forms.forms_of.Given as goal

abbrev pub invariant-loop-sub : goal.invariant-loop-sub
invariant-loop-sub l = record {
  forms : AreFormsIn l.loops l.symbols (subscripts (map subscript_of (take l.sub-index l.sub-items))) l.forms;
  seven : All HasSevenLoops l.forms;
}
