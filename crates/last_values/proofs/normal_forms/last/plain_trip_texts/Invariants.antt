use Rattle.std.proofs.Common.{◌≡◌, map, take}
use Rattle.tree.specs.View.{expression_of}
use Rattle.last_values.specs.normal_forms.LastTexts as last
use Rattle.last_values.proofs.normal_forms.last.plain_trip_texts.Given as goal

abbrev pub invariant-loop-turns : goal.invariant-loop-turns
invariant-loop-turns l = map expression_of l.texts.items ≡ last.plain_trip_texts l.symbols (take l.turns-index l.round)
