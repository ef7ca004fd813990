-- What stands behind the loops of a nest, beside its inductions.
use Rattle.std.specs.Prelude.{◌≡◌, ℕ, All, Contains, List}
use Rattle.meaning.specs.Reads.{names_in_block}
use Rattle.rewrite.specs.Names.{uses_in_block}
use Rattle.rewrite.specs.declared.uses.Use.{Use}
use Rattle.rewrite.specs.declared.uses.Way.TheVariants.{Writes}
use Rattle.nest.specs.Plain.{Nest}
use Rattle.inductions.specs.Found.{inductions_of}
use Rattle.inductions.specs.Nests.{induction_names}

-- no induction stands behind the loops, and no symbol gets a value there
pub record IsApartBehind (n : Nest) : Type 0 where
  pub inductions : All (λ (x : List ℕ). ¬ Contains (induction_names (inductions_of n)) x) (names_in_block n.after)
  pub symbols : All (λ (u : Use). u.way ≡ Writes → ¬ Contains n.symbols u.name) (uses_in_block n.after)
