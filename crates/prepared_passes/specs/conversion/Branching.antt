-- Nests of loops, statements, block IFs, labels and jumps ahead, which if-conversion is about.
use Rattle.std.specs.Prelude.{◌≡◌, ⊤, ℕ, None, All, List, []}
use Rattle.meaning.specs.Reads.{names_in_block}
use Rattle.nest.specs.Blocks.{block_of_nest}
use Rattle.nest.specs.Plain.{Nest, Part, Run, Turns, Choice, Label, Jump, Parts, no_parts, part, Branches, no_branches}
use Rattle.nest.specs.Plain.{branch}
use Rattle.pass_laws.specs.branch_meaning.Jumps.{JumpsAhead}
use Rattle.pass_laws.specs.prepared_nests.After.{AreEndings}
use Rattle.if_convert.specs.Masks.{mask_name}

-- statements have no guards, and each IF has an arm
abbrev mutual
  pub IsUnguarded : Part → Type 0
  IsUnguarded (Run g) = g.guard ≡ None
  IsUnguarded (Turns l ps) = AreUnguarded ps
  IsUnguarded (Choice bs other) = HasArm bs × BranchesAreUnguarded bs × AreUnguarded other
  IsUnguarded (Label k) = ⊤
  IsUnguarded (Jump k) = ⊤

  pub AreUnguarded : Parts → Type 0
  AreUnguarded no_parts = ⊤
  AreUnguarded (part p ps) = IsUnguarded p × AreUnguarded ps

  pub BranchesAreUnguarded : Branches → Type 0
  BranchesAreUnguarded no_branches = ⊤
  BranchesAreUnguarded (branch test ps bs) = AreUnguarded ps × BranchesAreUnguarded bs

  pub HasArm : Branches → Type 0
  HasArm no_branches = ⊥
  HasArm (branch test ps bs) = ⊤

-- a name that no mask has
abbrev pub IsNoMask : List ℕ → Type 0
IsNoMask x = (i : ℕ) → ¬ (mask_name i ≡ x)

-- jumps lead ahead, loops stand in no IFs, and no mask stands in it so far
pub record IsBranching (n : Nest) : Type 0 where
  pub unguarded : IsUnguarded n.body
  pub jumps : JumpsAhead [] n.body
  pub after : AreEndings n.after
  pub names : All IsNoMask (names_in_block (block_of_nest n))
