-- The numbers of loops, in the order of the text.
use Rattle.std.specs.Prelude.{ℕ, ◌+◌, nat_lt, if◌then◌else◌}
use Rattle.tree.specs.Plain.{Statement, Assignment, Where, If, Do, Label, GoTo, Stop, Read, Print, Allocate, Deallocate}
use Rattle.tree.specs.Plain.{Arms, no_arms, arm, Block, no_statements, statement}

-- the number of the next loop, where k loops stand before it; it fits 32 bits, as in every program with fewer loops
abbrev pub next_loop_number : ℕ → ℕ
next_loop_number k = if nat_lt k 4294967295 then k + 1 else k

-- the number of the last loop up to the end of a statement, where that before it is k
abbrev mutual
  pub number_after : ℕ → Statement → ℕ
  number_after k (Assignment line mark left right) = k
  number_after k (Where line mark mask left right) = k
  number_after k (If line arms other) = after_block (after_arms k arms) other
  number_after k (Do line x a b c body) = after_block (next_loop_number k) body
  number_after k (Label n) = k
  number_after k (GoTo line n) = k
  number_after k (Stop line) = k
  number_after k (Read line is) = k
  number_after k (Print line is) = k
  number_after k (Allocate line x es) = k
  number_after k (Deallocate line x) = k

  pub after_arms : ℕ → Arms → ℕ
  after_arms k no_arms = k
  after_arms k (arm test body arms) = after_arms (after_block k body) arms

  pub after_block : ℕ → Block → ℕ
  after_block k no_statements = k
  after_block k (statement c cs) = after_block (number_after k c) cs
