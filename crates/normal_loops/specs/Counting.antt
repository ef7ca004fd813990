-- A loop from 1 by 1 as a loop of a nest.
use Rattle.std.specs.Prelude.{ℕ, pos, Some, List, []}
use Rattle.tree.specs.Plain.{Number}
use Rattle.nest.specs.Plain.{Loop}
use Rattle.last_values.specs.normal_forms.NormalLoops.{counters_of}
use Rattle.last_values.specs.normal_forms.Texts.{trip_text}
use Rattle.last_values.specs.declared.normal_forms.loops.NormalLoop.{NormalLoop}

-- the loop l of the source as r, which counts from 1 to its trip by 1
unfoldable pub counting : List (List ℕ) → List NormalLoop → Loop → NormalLoop → Loop
counting symbols round l r = record {
  number = l.number;
  variable = r.counter;
  first = Number (pos 1);
  last = trip_text (counters_of round) symbols [] r.trip;
  step = pos 1;
  trip = Some r.trip;
}
