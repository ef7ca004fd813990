-- How deep a list of PRINT or READ is, from its parts.
use Rattle.std.specs.Prelude.{ℕ, max, Option, List, [], ◌∷◌}
use Rattle.f90_grammar.specs.Phrases.{Phrase90, phrase_depth90}
use Rattle.f90_grammar.specs.Items.{step_depth90}
use Rattle.f90_expressions.specs.Machine.{counted, deeper}
use Rattle.f90_statement.specs.items.Flat.{Node, Of, Text, Begin, Turns}

-- the depth so far in the innermost implied DO list, and in those round it
pub record Levels : Type 0 where
  pub inner : ℕ
  pub outer : List ℕ

abbrev pub levels : ℕ → List ℕ → Levels
levels m ls = record { inner = m; outer = ls }

abbrev pub ended : ℕ → List ℕ → Levels
ended m [] = levels m []
ended m (l ∷ ls) = levels (max l m) ls

abbrev pub depth_of_bounds : Phrase90 → Phrase90 → Option Phrase90 → ℕ
depth_of_bounds a b c = max (max (counted (phrase_depth90 a)) (counted (phrase_depth90 b))) (counted (step_depth90 c))

abbrev pub with_part : Node → Levels → Levels
with_part (Of p) l = levels (max l.inner (counted (phrase_depth90 p))) l.outer
with_part (Text t) l = l
with_part Begin l = levels 0 (l.inner ∷ l.outer)
with_part (Turns x a b c) l =
    ended (deeper (max l.inner (depth_of_bounds a b c))) l.outer

abbrev pub with_parts : List Node → Levels → Levels
with_parts [] l = l
with_parts (n ∷ ns) l = with_parts ns (with_part n l)
