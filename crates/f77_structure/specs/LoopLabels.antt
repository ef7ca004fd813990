-- END DO statements that wait for a DO before them, as the code keeps them.
use Rattle.std.specs.Prelude.{◌≡◌, List, map, reverse}
use Rattle.f77_grammar.specs.Statement77.{Labelled}
use Rattle.f77_structure.specs.declared.loop_labels.Ends.{Ends}
use Rattle.f77_structure.specs.declared.loop_labels.Waiting.{Waiting}

abbrev pub waiting_of : Labelled → Waiting
waiting_of x = record { label = x.label; line = x.line }

-- these wait, the nearest first
abbrev pub AreWaiting : Ends → List Labelled → Type 0
AreWaiting ends xs = reverse ends.waiting.items ≡ map waiting_of xs
