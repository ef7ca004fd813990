-- Forms that are left out: arithmetic IF, computed and assigned GO TO.
use Rattle.std.specs.Prelude.{ℕ, ◌≡◌, Bool, true, false, ◌==◌, List, [], ◌∷◌, ◌++◌}
use Rattle.f77_grammar.specs.expressions.Squeezing.{Symbol77, Char}
use Rattle.f77_grammar.specs.statements.Recognition.{AreLabels, IsArithmeticIf, IsComputedGoTo, IsAssignedGoTo}

pub record AreThreeLabels (text : List Symbol77) : Type 0 where
  pub first : List ℕ
  pub second : List ℕ
  pub third : List ℕ
  pub labels : AreLabels first (second ∷ third ∷ []) text

-- without the comma at the front, if there is one
abbrev pub without_comma_by : Bool → Symbol77 → List Symbol77 → List Symbol77
without_comma_by true s ss = ss
without_comma_by false s ss = s ∷ ss

abbrev pub without_comma : List Symbol77 → List Symbol77
without_comma [] = []
without_comma (Char c ∷ ss) = without_comma_by (44 == c) (Char c) ss
without_comma (s ∷ ss) = s ∷ ss

-- labels in parentheses, and nothing behind them
pub record AreEnclosed (text : List Symbol77) : Type 0 where
  pub first : List ℕ
  pub later : List (List ℕ)
  pub list : List Symbol77
  pub labels : AreLabels first later list
  pub same : text ≡ Char 40 ∷ (list ++ Char 41 ∷ [])

pub data IsFormLeftOut (text : List Symbol77) : ℕ → Type 0 where
  ArithmeticIf : IsArithmeticIf text → IsFormLeftOut text 32
  ComputedGoTo : IsComputedGoTo text → IsFormLeftOut text 33
  AssignedGoTo : IsAssignedGoTo text → IsFormLeftOut text 34
