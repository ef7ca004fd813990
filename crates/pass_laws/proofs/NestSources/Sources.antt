-- The statements that parts stand for.
use Rattle.std.proofs.Common.{◌≡◌, ℕ, Bool, true, false, ◌&&◌, Option, None, List, [], ◌∷◌, ◌++◌, refl, ap, ◌∙◌}
use mathlib.Core.Path.{ap₂}
use Rattle.tree.specs.Plain.{Expression, Statement, Assignment, Where, If, Do, Label, GoTo, Stop, Read, Print, Allocate}
use Rattle.tree.specs.Plain.{Deallocate, Arms, no_arms, arm, Block, no_statements, statement}
use Rattle.meaning.specs.Relined.{without_lines, arms_without_lines, block_without_lines}
use Rattle.nest_reasons.specs.Increments.{step_of}
use Rattle.nest.specs.Plain.{Part, Run, Turns, Choice, Label as Label', Jump, Parts, parts}
use Rattle.nest.specs.Blocks.{numeral, statement_of_part, block_of_parts, arms_of_branches}
use Rattle.find_nests.specs.nest_parts.Numbers.{next_loop_number, number_after, after_arms, after_block}
use Rattle.find_nests.specs.nest_parts.Statements.{source_loop, step_or_zero, parts_of, branches_of, parts_of_block}
use Rattle.find_nests.specs.Loops.{Numbered}
use Rattle.pass_laws.specs.nest_sources.Sources.{may_stand, arms_may_stand, block_may_stand, with_numbers, arms_with_numbers, block_with_numbers, PartsAreStatements, NestIsLoop}

both : (a b : Bool) → (a && b) ≡ true → (a ≡ true) × (b ≡ true)
both true b h = (refl, h)
both false b h = cc

module _ (line : ℕ) where
  -- the one part that a statement is
  record OnePart (k : ℕ) (c : Statement) : Type 0 where
    one : Part
    is : parts_of k c ≡ one ∷ []
    same : without_lines (statement_of_part line one) ≡ without_lines (with_numbers c)

  abbrev block_at : ℕ → Block → Block
  block_at k b = block_without_lines (block_of_parts line (parts (parts_of_block k b)))

  mutual
    one_part : (k : ℕ) (c : Statement) → may_stand c ≡ true → OnePart k c
    one_part k (Assignment l mark left right) h =
        record { one = Run (record { line = l; guard = None; left = left; right = right }); is = refl; same = refl }
    one_part k (Where l mark mask left right) h = let no : ⊥ = cc in absurd no
    one_part k (If l arms other) h =
        let two = both (arms_may_stand arms) (block_may_stand other) h in
        record {
          one = Choice (branches_of k arms) (parts (parts_of_block (after_arms k arms) other));
          is = refl;
          same = ap₂ (λ as' b. If 0 as' b) (same_arms k arms two.0) (same_block (after_arms k arms) other two.1);
        }
    one_part k (Do l x a b c body) h =
        record {
          one = Turns (source_loop (next_loop_number k) x a b c) (parts (parts_of_block (next_loop_number k) body));
          is = refl;
          same = ap (λ d. Do 0 x a b (numeral (step_or_zero (step_of c))) d) (same_block (next_loop_number k) body h);
        }
    one_part k (Label n) h = record { one = Label' n; is = refl; same = refl }
    one_part k (GoTo l n) h = record { one = Jump n; is = refl; same = refl }
    one_part k (Stop l) h = let no : ⊥ = cc in absurd no
    one_part k (Read l is) h = let no : ⊥ = cc in absurd no
    one_part k (Print l is) h = let no : ⊥ = cc in absurd no
    one_part k (Allocate l x es) h = let no : ⊥ = cc in absurd no
    one_part k (Deallocate l x) h = let no : ⊥ = cc in absurd no

    same_arms : (k : ℕ) (arms : Arms) → arms_may_stand arms ≡ true
        → arms_without_lines (arms_of_branches line (branches_of k arms)) ≡ arms_without_lines (arms_with_numbers arms)
    same_arms k no_arms h = refl
    same_arms k (arm test body arms) h =
        let two = both (block_may_stand body) (arms_may_stand arms) h in
        ap₂ (λ b as'. arm test b as') (same_block k body two.0) (same_arms (after_block k body) arms two.1)

    same_block : (k : ℕ) (b : Block) → block_may_stand b ≡ true → block_at k b ≡ block_without_lines (block_with_numbers b)
    same_block k no_statements h = refl
    same_block k (statement c cs) h =
        let two = both (may_stand c) (block_may_stand cs) h in
        let first = one_part k c two.0 in
        ap (λ ps. block_without_lines (block_of_parts line (parts (ps ++ parts_of_block (number_after k c) cs)))) first.is
        ∙ ap₂ (λ d ds. statement d ds) first.same (same_block (number_after k c) cs two.1)

pub parts_are_statements : PartsAreStatements
parts_are_statements line k b h = same_block line k b h

pub nest_is_loop : NestIsLoop
nest_is_loop line l h = ap (λ d. Do 0 l.loop.variable l.loop.first l.loop.last (numeral (step_or_zero (step_of l.loop.step))) d) (same_block line (next_loop_number l.before) l.loop.body h)
