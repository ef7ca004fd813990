-- What becomes of lists of parts, each one by itself.
use Rattle.std.proofs.Common.{◌≡◌, refl, ap, ℕ, List, [], ◌∷◌, map}
use Rattle.rewrite.specs.Making.{Making}
use Rattle.nest.specs.Plain.{Part, parts}
use Rattle.scalar_expand.specs.Expanded.{expanded_part, expanded_parts}
use Rattle.scalar_expand.specs.declared.privates.Private.{Private}

module _ (line : ℕ) (m : Making) (ps : List Private) where
  pub each_part : (qs : List Part) → map (expanded_part line m ps) qs ≡ expanded_parts line m ps (parts qs)
  each_part [] = refl
  each_part (q ∷ qs) = ap (λ rs. expanded_part line m ps q ∷ rs) (each_part qs)
