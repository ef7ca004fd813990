-- None so far was made with this name.
use Rattle.std.proofs.Common.{◌≡◌, map, take, false}
use Rattle.std.specs.List.{list_any}
use Rattle.std.specs.Str.{bytes_eq}
use Rattle.nest.specs.Plain.{Made}
use Rattle.nest.specs.View.{made_of}
use Rattle.array_form.proofs.holds.noted.is_made.Given as goal

abbrev pub invariant-loop-array : goal.invariant-loop-array
invariant-loop-array l = list_any (λ (m : Made). bytes_eq m.name l.name) (map made_of (take l.array-index l.array-items)) ≡ false
