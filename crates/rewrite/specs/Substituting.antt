-- A scalar variable that an expression stands for.
use Rattle.std.specs.Prelude.{ℕ, Bool, false, if◌then◌else◌, List}
use Rattle.std.specs.Str.{bytes_eq}
use Rattle.tree.specs.Plain.{Expression, Named, no_subscripts, subscript}
use Rattle.rewrite.specs.Making.{Making}

-- the expression is the variable x by itself
abbrev pub is_variable_alone : List ℕ → Expression → Bool
is_variable_alone x (Named y no_subscripts) = bytes_eq y x
is_variable_alone x (Named y (subscript p ps)) = false
is_variable_alone x e = false

module _ (x : List ℕ) (by : Expression) where
  abbrev pub replaced : Expression → Expression
  replaced e = if is_variable_alone x e then by else e

  abbrev pub substituting : Making
  substituting = record { expression = λ first e. replaced e; left = λ l. l }
