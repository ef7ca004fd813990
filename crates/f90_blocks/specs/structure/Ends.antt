-- Ends of blocks that are left for blocks before them.
use Rattle.std.specs.Prelude.{◌≡◌, ℕ, nat_lt, List}
use Rattle.f90_grammar.specs.Blocks.{Placed}
use Rattle.f90_grammar.specs.Order.{has_end_if90, has_end_do}
use Rattle.f90_blocks.specs.declared.structure.ends.Ends.{Ends}

-- With `n` block IFs opened since, one before these statements has its END IF among them if more than `n` are left for
-- blocks before them; so too of loops
pub record AreFree (s : Ends) (after : List Placed) : Type 0 where
  pub ifs : (n : ℕ) → has_end_if90 after n ≡ nat_lt n s.ifs
  pub loops : (n : ℕ) → has_end_do after n ≡ nat_lt n s.loops
