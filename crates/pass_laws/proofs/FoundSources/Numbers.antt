-- The numbers of loops fit 32 bits.
use Rattle.std.proofs.Common.{◌≡◌, refl, ℕ, ◌+◌, ◌≤◌, ◌<◌, Bool, true, false, cond, arith}
use Rattle.std.specs.Prelude.{nat_lt}
use Rattle.std.proofs.lemmas.Bool.Decides.{Decides-ltb}
use Rattle.tree.specs.Plain.{Statement, Assignment, Where, If, Do, Label, GoTo, Stop, Read, Print, Allocate}
use Rattle.tree.specs.Plain.{Deallocate, Arms, no_arms, arm, Block, no_statements, statement}
use Rattle.find_nests.specs.nest_parts.Numbers.{next_loop_number, number_after, after_arms, after_block}

pub next_small : (k : ℕ) → k ≤ 4294967295 → next_loop_number k ≤ 4294967295
next_small k h = by (nat_lt k 4294967295) refl
  where
    by : (b : Bool) → nat_lt k 4294967295 ≡ b → cond b (k + 1) k ≤ 4294967295
    by true e = let below : k < 4294967295 = (Decides-ltb k 4294967295).0 e in omega (arith, below)
    by false e = h

mutual
  pub after_small : (k : ℕ) (c : Statement) → k ≤ 4294967295 → number_after k c ≤ 4294967295
  after_small k (Assignment line mark left right) h = h
  after_small k (Where line mark mask left right) h = h
  after_small k (If line arms other) h = after_block_small (after_arms k arms) other (after_arms_small k arms h)
  after_small k (Do line x a b c body) h = after_block_small (next_loop_number k) body (next_small k h)
  after_small k (Label n) h = h
  after_small k (GoTo line n) h = h
  after_small k (Stop line) h = h
  after_small k (Read line is) h = h
  after_small k (Print line is) h = h
  after_small k (Allocate line x es) h = h
  after_small k (Deallocate line x) h = h

  pub after_arms_small : (k : ℕ) (arms : Arms) → k ≤ 4294967295 → after_arms k arms ≤ 4294967295
  after_arms_small k no_arms h = h
  after_arms_small k (arm test body arms) h = after_arms_small (after_block k body) arms (after_block_small k body h)

  pub after_block_small : (k : ℕ) (b : Block) → k ≤ 4294967295 → after_block k b ≤ 4294967295
  after_block_small k no_statements h = h
  after_block_small k (statement c cs) h = after_block_small (number_after k c) cs (after_small k c h)
