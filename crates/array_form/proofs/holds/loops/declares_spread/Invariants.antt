-- None so far declares it.
use Rattle.std.proofs.Common.{◌≡◌, map, take, false}
use Rattle.std.specs.List.{list_any}
use Rattle.tree.specs.Plain.{Declaration}
use Rattle.tree.specs.View.{declaration_of}
use Rattle.array_form.specs.holds.Surroundings.{is_spread_name}
use Rattle.array_form.proofs.holds.loops.declares_spread.Given as goal

abbrev pub invariant-loop-decl : goal.invariant-loop-decl
invariant-loop-decl l = list_any (λ (d : Declaration). is_spread_name d.name) (map declaration_of (take l.decl-index l.decl-items)) ≡ false
