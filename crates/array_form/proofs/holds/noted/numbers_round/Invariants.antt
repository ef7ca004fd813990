-- The numbers so far.
use Rattle.std.proofs.Common.{◌≡◌, map, take}
use Rattle.nest.specs.Plain.{Loop}
use Rattle.nest.specs.View.{loop_of}
use Rattle.array_form.proofs.holds.noted.numbers_round.Given as goal

abbrev pub invariant-loop-turns : goal.invariant-loop-turns
invariant-loop-turns l = l.numbers ≡ map (λ (m : Loop). m.number) (map loop_of (take l.turns-index l.turns-items))
