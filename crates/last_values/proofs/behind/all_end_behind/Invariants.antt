use Rattle.std.proofs.Common.{◌≡◌, take, true}
use Rattle.std.specs.List.{list_all}
use Rattle.last_values.specs.Behind as behind
use Rattle.last_values.proofs.behind.all_end_behind.Given as goal

abbrev pub invariant-loop-nested : goal.invariant-loop-nested
invariant-loop-nested l = list_all (behind.may_end_behind l.count l.variable) (take l.nested-index l.nested-items) ≡ true
