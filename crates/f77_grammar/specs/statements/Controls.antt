-- A DO variable with its parameters, as a DO statement and an implied DO list have it, and what it stands for (ANSI
-- X3.9-1978, sections 11.10 and 12.8.2.3).
use Rattle.std.specs.Prelude.{ℕ, max, pos, Option, Some, None, List, [], ◌∷◌, ◌++◌}
use Rattle.tree.specs.Plain.{Expression, Number}
use Rattle.f77_grammar.specs.expressions.Phrases.{Phrase77, IsExpression77, written77, tree77_of, phrase_depth77}
use Rattle.f77_grammar.specs.expressions.Words as words
use Rattle.f77_grammar.specs.expressions.Words.{Word77}

-- the step may be left out
pub record Control : Type 0 where
  pub variable : List ℕ
  pub first : Phrase77
  pub last : Phrase77
  pub step : Option Phrase77

abbrev pub IsStep77 : Option Phrase77 → Type 0
IsStep77 None = Unit {0}
IsStep77 (Some p) = IsExpression77 p

abbrev pub IsControl : Control → Type 0
IsControl k = IsExpression77 k.first × IsExpression77 k.last × IsStep77 k.step

abbrev pub written_step77 : Option Phrase77 → List Word77
written_step77 None = []
written_step77 (Some p) = words.Comma ∷ written77 p

-- what stands behind the equals sign
abbrev pub written_bounds77 : Control → List Word77
written_bounds77 k = written77 k.first ++ words.Comma ∷ (written77 k.last ++ written_step77 k.step)

abbrev pub written_control : Control → List Word77
written_control k = words.Name k.variable ∷ (words.Equals ∷ written_bounds77 k)

-- a step that is left out is 1
abbrev pub step_tree77 : Option Phrase77 → Expression
step_tree77 None = Number (pos 1)
step_tree77 (Some p) = tree77_of p

abbrev pub step_depth77 : Option Phrase77 → ℕ
step_depth77 None = 0
step_depth77 (Some p) = phrase_depth77 p

abbrev pub control_depth : Control → ℕ
control_depth k = max (max (phrase_depth77 k.first) (phrase_depth77 k.last)) (step_depth77 k.step)
