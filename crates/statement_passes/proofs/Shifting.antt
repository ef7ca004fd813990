-- Parts of a nest by the places of a longer list of symbols.
use Rattle.std.proofs.Common.{◌≡◌, ℕ, List, [], ◌∷◌, map, refl, ap, ap₂}
use Rattle.nest.specs.Blocks.{arms_of_branches, block_of_parts, numeral, statement_of_part}
use Rattle.nest.specs.Plain.{Branches, no_branches, branch, Part, Run, Turns, Choice, Label, Jump, Parts, no_parts, part, parts}
use Rattle.nest.specs.View.{Branch, branches}
use Rattle.tree.specs.Plain as tree
use Rattle.statement_passes.specs.Laws.{ShiftedRunsAlike}
use Rattle.statement_passes.specs.Shifted.{shifted_branch, shifted_branches, shifted_part, shifted_parts}

module _ (at : ℕ) where
  pub each_part : (ps : List Part) → parts (map (shifted_part at) ps) ≡ shifted_parts at (parts ps)
  each_part [] = refl
  each_part (p ∷ ps) = ap (part (shifted_part at p)) (each_part ps)

  pub each_branch : (bs : List Branch) → branches (map (shifted_branch at) bs) ≡ shifted_branches at (branches bs)
  each_branch [] = refl
  each_branch (b ∷ bs) = ap (branch b.test (shifted_parts at b.body)) (each_branch bs)

-- ---- the run

module _ (line at : ℕ) where
  mutual
    part-alike : (p : Part) → statement_of_part line (shifted_part at p) ≡ statement_of_part line p
    part-alike (Run g) = refl
    part-alike (Turns l ps) = ap (λ (b : tree.Block). tree.Do line l.variable l.first l.last (numeral l.step) b) (parts-alike ps)
    part-alike (Choice bs ps) = ap₂ (tree.If line) (branches-alike bs) (parts-alike ps)
    part-alike (Label n) = refl
    part-alike (Jump n) = refl

    parts-alike : (ps : Parts) → block_of_parts line (shifted_parts at ps) ≡ block_of_parts line ps
    parts-alike no_parts = refl
    parts-alike (part p ps) = ap₂ tree.statement (part-alike p) (parts-alike ps)

    branches-alike : (bs : Branches) → arms_of_branches line (shifted_branches at bs) ≡ arms_of_branches line bs
    branches-alike no_branches = refl
    branches-alike (branch test ps bs) = ap₂ (tree.arm test) (parts-alike ps) (branches-alike bs)

pub shifted_runs_alike : ShiftedRunsAlike
shifted_runs_alike line at p = part-alike line at p
