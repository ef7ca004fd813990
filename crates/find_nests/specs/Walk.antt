-- The loops that stand in no nest, part by part.
use Rattle.std.specs.Prelude.{ℕ, if◌then◌else◌, List, [], ◌∷◌, ◌++◌}
use Rattle.tree.specs.Plain.{Statement, Assignment, Where, If, Do, Label, GoTo, Stop, Read, Print}
use Rattle.tree.specs.Plain.{Allocate, Deallocate, Arms, no_arms, arm, Block, no_statements, statement, Declaration}
use Rattle.tree.specs.View.{Tested}
use Rattle.find_nests.specs.nest_parts.Numbers.{next_loop_number, number_after, after_arms, after_block}
use Rattle.find_nests.specs.Loops.{SourceLoop, Numbered}
use Rattle.find_nests.specs.LookedAt.{reason_of, is_kept}
use Rattle.find_nests.specs.Found.{nests_with}

module _ (ds : List Declaration) where
  abbrev mutual
    pub outermost_in : ℕ → Statement → List Numbered
    outermost_in k (Assignment line mark left right) = []
    outermost_in k (Where line mark mask left right) = []
    outermost_in k (If line arms other) = outermost_in_arms k arms ++ outermost_in_block (after_arms k arms) other
    outermost_in k (Do line x a b c body) =
        let l : SourceLoop = record { line = line; variable = x; first = a; last = b; step = c; body = body } in
        record { before = k; loop = l } ∷ (if is_kept ds l then outermost_in_block (next_loop_number k) body else [])
    outermost_in k (Label n) = []
    outermost_in k (GoTo line n) = []
    outermost_in k (Stop line) = []
    outermost_in k (Read line is) = []
    outermost_in k (Print line is) = []
    outermost_in k (Allocate line x es) = []
    outermost_in k (Deallocate line x) = []

    pub outermost_in_arms : ℕ → Arms → List Numbered
    outermost_in_arms k no_arms = []
    outermost_in_arms k (arm test body arms) =
        outermost_in_block k body ++ outermost_in_arms (after_block k body) arms

    pub outermost_in_block : ℕ → Block → List Numbered
    outermost_in_block k no_statements = []
    outermost_in_block k (statement c cs) = outermost_in k c ++ outermost_in_block (number_after k c) cs

  -- lists of statements, and of arms
  abbrev pub outermost_list : ℕ → List Statement → List Numbered
  outermost_list k [] = []
  outermost_list k (c ∷ cs) = outermost_in k c ++ outermost_list (number_after k c) cs

  abbrev pub outermost_each : ℕ → List Tested → List Numbered
  outermost_each k [] = []
  outermost_each k (t ∷ ts) = outermost_in_block k t.body ++ outermost_each (after_block k t.body) ts

  -- the number of the last nest up to their end, behind n nests
  abbrev pub nests_among : ℕ → List Numbered → ℕ
  nests_among n [] = n
  nests_among n (l ∷ ls) = nests_among (nests_with n (reason_of ds l.loop)) ls
