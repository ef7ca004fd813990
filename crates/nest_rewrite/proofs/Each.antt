-- What is made of lists of parts and of arms, each one by itself.
use Rattle.std.proofs.Common.{◌≡◌, refl, ap, List, [], ◌∷◌, map}
use Rattle.rewrite.specs.Making.{Making, made}
use Rattle.nest.specs.Plain.{Part, parts, part, branch}
use Rattle.nest.specs.View.{Branch, branches}
use Rattle.nest_rewrite.specs.Rewritten.{rewritten, rewritten_parts, rewritten_branch, rewritten_branches}

module _ (m : Making) where
  pub each_part : (ps : List Part) → parts (map (rewritten m) ps) ≡ rewritten_parts m (parts ps)
  each_part [] = refl
  each_part (p ∷ ps) = ap (part (rewritten m p)) (each_part ps)

  pub each_branch : (bs : List Branch) → branches (map (rewritten_branch m) bs) ≡ rewritten_branches m (branches bs)
  each_branch [] = refl
  each_branch (b ∷ bs) = ap (branch (made m b.test) (rewritten_parts m b.body)) (each_branch bs)
