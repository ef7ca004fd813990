-- Blocks in which other statements stand in the place of some loops.
use Rattle.std.specs.Prelude.{◌≡◌, ◌⊎◌}
use Rattle.tree.specs.Plain.{Statement, If, Do, Arms, no_arms, arm, Block, no_statements, statement, Program}
use Rattle.nest.specs.Allocations.{block_then}
use Rattle.pass_laws.specs.prepared_runs.Unlabelled.{HasNoLabel}
use Rattle.translation.specs.placed_loops.Beside.{DoesAs}
use Rattle.tree.specs.declared.width.Width.{Width}

abbrev pub one : Statement → Block
one c = statement c no_statements

module _ (width : Width) (p q : Program) where
  -- a block without labels that does what a loop does, in its place; or the loop itself with such blocks in it
  abbrev mutual
    pub StandsFor : Statement → Block → Type 0
    StandsFor (Do line x first last step body) b =
        (DoesAs width p q (Do line x first last step body) b × HasNoLabel b)
        ⊎ ((inside : Block) × (b ≡ one (Do line x first last step inside)) × IsPlaced body inside)
    StandsFor (If line arms other) b =
        (ms : Arms) × (no : Block) × (b ≡ one (If line ms no)) × ArePlaced arms ms × IsPlaced other no
    StandsFor c b = b ≡ one c

    pub ArePlaced : Arms → Arms → Type 0
    ArePlaced no_arms ms = ms ≡ no_arms
    ArePlaced (arm test body arms) ms =
        (inside : Block) × (rest : Arms) × (ms ≡ arm test inside rest) × IsPlaced body inside × ArePlaced arms rest

    pub IsPlaced : Block → Block → Type 0
    IsPlaced no_statements d = d ≡ no_statements
    IsPlaced (statement c cs) d =
        (b : Block) × (rest : Block) × (d ≡ block_then b rest) × StandsFor c b × IsPlaced cs rest
