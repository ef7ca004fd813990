-- What is known of the parts of an expression.
use Rattle.std.specs.Prelude.{◌≡◌, Option, Some, ℕ, ℤ, List}
use Rattle.tree.specs.Plain.{Expression}
use Rattle.linear_forms.specs.Linear.{Form, constant_value, linear}
use Rattle.linear_forms.specs.Affines.{IsFound}
use Rattle.linear_forms.specs.declared.forms.Part.{Part}

-- a constant has itself as its form
abbrev pub HasConstant : Option ℤ → Form → Type 0
HasConstant k f = (z : ℤ) → k ≡ Some z → f.constant ≡ z

-- the value of an expression where it is constant, and its form
pub record IsPartOf (n : ℕ) (names : List (List ℕ)) (e : Expression) (part : Part) : Type 0 where
  pub constant : part.constant ≡ constant_value e
  pub form : IsFound n (linear n names e) part.form
