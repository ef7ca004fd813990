-- What the statements from one on have become has the shape of what is open before them.
use Rattle.std.proofs.Common.{ℕ, List}
use Rattle.std.specs.List.{AllByRecursion}
use Rattle.meaning.specs.Store.{Store}
use Rattle.f77_grammar.specs.Statement77.{Labelled}
use Rattle.f77_grammar.specs.program.Text.{places_from}
use Rattle.f77_grammar.specs.program.Uses.{Use77}
use Rattle.f77_laws.specs.trees.Steps.{rest_from}
use Rattle.f77_laws.proofs.trees.Shapes as nested
use Rattle.f77_laws.proofs.Sound.{IsRight}
use Rattle.f77_laws.proofs.Frames.{frames}
use Rattle.f77_laws.proofs.Moves.{AllEnd, all_nested}
pub use Rattle.f77_laws.proofs.trees.Shapes.{Closes, IsShaped, label_is, no_frames}

pub shape : (us : List Use77) (s : Store) (named : List ℕ) (text before xs : List Labelled)
    → AllByRecursion (IsRight text) (places_from before xs) → AllEnd xs (frames xs before 0)
    → IsShaped (frames xs before 0) (rest_from us s named xs)
shape us s named text before xs r h = nested.shape us s named before xs (all_nested text before xs r) h
