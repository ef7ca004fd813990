-- Each loop so far stands in exactly one.
use Rattle.std.proofs.Common.{◌≡◌, ◌==◌, map, take, true}
use Rattle.std.specs.List.{list_all}
use Rattle.array_form.specs.forms.Statements.{subscript_occurrences}
use Rattle.tree.specs.Plain.{subscripts}
use Rattle.tree.specs.View.{subscript_of}
use Rattle.array_form.specs.declared.holds.loops.CountedLoop.{CountedLoop}
use Rattle.array_form.proofs.holds.left_sides.occur_once.Given as goal

abbrev pub invariant-loop-turns : goal.invariant-loop-turns
invariant-loop-turns l = list_all (λ (t : CountedLoop). subscript_occurrences t.var (subscripts (map subscript_of l.subs)) == 1) (take l.turns-index l.loops) ≡ true
