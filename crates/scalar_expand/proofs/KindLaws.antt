-- Kinds of what has dimensions.
use Rattle.std.proofs.Common.{◌≡◌, refl, List, [], ◌∷◌, map, None}
use Rattle.tree.specs.Plain.{Given}
use Rattle.tree.specs.View.{bounds_of}
use Rattle.tree.specs.declared.ops.Kind.{Kind}
use Rattle.tree.specs.declared.programs.Dim.{Dim}
use Rattle.scalar_expand.specs.Privates.{kind_of_scalar}

pub kind_of_array : (ds : List Dim) (k : Kind) → (ds ≡ [] → ⊥) → kind_of_scalar (Given (map bounds_of ds)) k ≡ None
kind_of_array [] k n = absurd (n refl)
kind_of_array (d ∷ ds) k n = refl

pub ruleset kind_laws = (kind_of_array)
