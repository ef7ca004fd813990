-- In how many of the subscripts so far the name stands.
use Rattle.std.proofs.Common.{◌≡◌, ◌≤◌, map, take}
use Rattle.array_form.specs.forms.Statements.{subscript_occurrences}
use Rattle.tree.specs.Plain.{subscripts}
use Rattle.tree.specs.View.{subscript_of}
use Rattle.array_form.proofs.holds.left_sides.occurrences.Given as goal

abbrev pub invariant-loop-sub : goal.invariant-loop-sub
invariant-loop-sub l = record {
  count : l.count ≡ subscript_occurrences l.name (subscripts (map subscript_of (take l.sub-index l.sub-items)));
  within : l.count ≤ l.sub-index;
}
