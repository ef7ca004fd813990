-- What an expression in the place of a scalar makes of a tree, and when it stands for the scalar.
use Rattle.std.specs.Prelude.{◌≡◌, ℕ, List}
use Rattle.tree.specs.Plain.{Expression, Named, no_subscripts}
use Rattle.meaning.specs.Store.{Store}
use Rattle.meaning.specs.Value.{value_of}
use Rattle.rewrite.specs.Following.{sequential}
use Rattle.rewrite.specs.Making.{made}
use Rattle.rewrite.specs.Substituting.{substituting}

module _ (x : List ℕ) (by : Expression) where
  -- each reference to the scalar x has become the expression; a name with subscripts stays, and its subscripts are
  -- looked at
  abbrev pub substituted : Expression → Expression
  substituted = made (substituting x by)

-- in this store the variable and the expression have one value, or one fault
abbrev pub StandsFor : ℕ → List ℕ → Expression → Store → Type 0
StandsFor bits x by s = value_of (sequential bits) by s ≡ value_of (sequential bits) (Named x no_subscripts) s
