-- The numbers of the last loops up to the ends of statements.
use Rattle.std.proofs.Common.{◌≡◌, refl, ℕ, zero, suc, ◌+◌, ◌≤◌, ◌<◌, Bool, true, false, cond, arith}
use Rattle.std.specs.Prelude.{nat_lt}
use Rattle.std.proofs.lemmas.Bool.Decides.{Decides-ltb}
use Rattle.meaning.specs.Blocks.{statement_count_of, statement_count_in_arms, statement_count_in}
use Rattle.tree.specs.Plain.{Statement, Assignment, Where, If, Do, Label, GoTo, Stop, Read, Print, Allocate}
use Rattle.tree.specs.Plain.{Deallocate, Arms, no_arms, arm, Block, no_statements, statement}
use Rattle.find_nests.specs.nest_parts.Numbers.{number_after, after_arms, after_block, next_loop_number}

-- ---- the next number

pub next_from_one : (k : ℕ) → 1 ≤ next_loop_number k
next_from_one zero = omega arith
next_from_one (suc k) = by (nat_lt (suc k) 4294967295)
  where
    by : (b : Bool) → 1 ≤ cond b (suc k + 1) (suc k)
    by true = omega arith
    by false = omega arith

pub next_is : (k : ℕ) → k < 4294967295 → next_loop_number k ≡ k + 1
next_is k h = by (nat_lt k 4294967295) refl
  where
    by : (b : Bool) → nat_lt k 4294967295 ≡ b → cond b (k + 1) k ≡ k + 1
    by true e = refl
    by false e = let yes = (Decides-ltb k 4294967295).1 h in let no : ⊥ = cc in absurd no

next_least : (k : ℕ) → k ≤ next_loop_number k
next_least k = by (nat_lt k 4294967295)
  where
    by : (b : Bool) → k ≤ cond b (k + 1) k
    by true = omega arith
    by false = omega arith

next_most : (k : ℕ) → next_loop_number k ≤ k + 1
next_most k = by (nat_lt k 4294967295)
  where
    by : (b : Bool) → cond b (k + 1) k ≤ k + 1
    by true = omega arith
    by false = omega arith

-- ---- behind statements: no less than before them

mutual
  pub after_least : (k : ℕ) (c : Statement) → k ≤ number_after k c
  after_least k (Assignment line mark left right) = omega arith
  after_least k (Where line mark mask left right) = omega arith
  after_least k (If line arms other) =
      let first = after_arms_least k arms in
      let rest = after_block_least (after_arms k arms) other in
      omega (arith, first, rest)
  after_least k (Do line x a b c body) =
      let first = next_least k in
      let rest = after_block_least (next_loop_number k) body in
      omega (arith, first, rest)
  after_least k (Label n) = omega arith
  after_least k (GoTo line n) = omega arith
  after_least k (Stop line) = omega arith
  after_least k (Read line is) = omega arith
  after_least k (Print line is) = omega arith
  after_least k (Allocate line x es) = omega arith
  after_least k (Deallocate line x) = omega arith

  pub after_arms_least : (k : ℕ) (arms : Arms) → k ≤ after_arms k arms
  after_arms_least k no_arms = omega arith
  after_arms_least k (arm test body arms) =
      let first = after_block_least k body in
      let rest = after_arms_least (after_block k body) arms in
      omega (arith, first, rest)

  pub after_block_least : (k : ℕ) (b : Block) → k ≤ after_block k b
  after_block_least k no_statements = omega arith
  after_block_least k (statement c cs) =
      let first = after_least k c in
      let rest = after_block_least (number_after k c) cs in
      omega (arith, first, rest)

-- no more than there are statements
mutual
  pub after_most : (k : ℕ) (c : Statement) → number_after k c ≤ k + statement_count_of c
  after_most k (Assignment line mark left right) = omega arith
  after_most k (Where line mark mask left right) = omega arith
  after_most k (If line arms other) =
      let first = after_arms_most k arms in
      let rest = after_block_most (after_arms k arms) other in
      omega (arith, first, rest)
  after_most k (Do line x a b c body) =
      let first = next_most k in
      let rest = after_block_most (next_loop_number k) body in
      omega (arith, first, rest)
  after_most k (Label n) = omega arith
  after_most k (GoTo line n) = omega arith
  after_most k (Stop line) = omega arith
  after_most k (Read line is) = omega arith
  after_most k (Print line is) = omega arith
  after_most k (Allocate line x es) = omega arith
  after_most k (Deallocate line x) = omega arith

  pub after_arms_most : (k : ℕ) (arms : Arms) → after_arms k arms ≤ k + statement_count_in_arms arms
  after_arms_most k no_arms = omega arith
  after_arms_most k (arm test body arms) =
      let first = after_block_most k body in
      let rest = after_arms_most (after_block k body) arms in
      omega (arith, first, rest)

  pub after_block_most : (k : ℕ) (b : Block) → after_block k b ≤ k + statement_count_in b
  after_block_most k no_statements = omega arith
  after_block_most k (statement c cs) =
      let first = after_most k c in
      let rest = after_block_most (number_after k c) cs in
      omega (arith, first, rest)
