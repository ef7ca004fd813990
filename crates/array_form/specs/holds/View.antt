-- What stands round a statement as the program has it.
use Rattle.std.specs.Prelude.{ℕ, List, map, length}
use Rattle.array_form.specs.forms.Loops as forms
use Rattle.array_form.specs.declared.holds.loops.CountedLoop.{CountedLoop}
use Rattle.array_form.specs.declared.holds.loops.Surroundings.{Surroundings}
use Rattle.array_form.specs.holds.Surroundings.{counted_of}

abbrev pub surroundings_view : Surroundings → forms.FormSurroundings
surroundings_view a = record {
  loops = map (counted_of (length a.loops)) a.loops;
  symbols = a.symbols;
  may_spread = a.may_spread;
}

abbrev pub loop_names : List CountedLoop → List (List ℕ)
loop_names ls = map (λ (l : CountedLoop). l.var) ls
