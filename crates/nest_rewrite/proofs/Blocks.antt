-- The block of a rewritten nest is the rewritten block of the nest.
use Rattle.std.proofs.Common.{◌≡◌, refl, sym, ap, ◌∙◌, ℕ, ℤ, Option, Some, None, List, [], ◌∷◌, map}
use Rattle.std.specs.Option.{option_map}
use Rattle.tree.specs.Plain.{Expression, expression, expressions, Statement, If, Do, Allocate, Deallocate, Block, no_statements, statement, arm, no_arms, Arms}
use Rattle.rewrite.specs.Making.{Making, made, made_left, made_expressions}
use Rattle.rewrite.specs.MadeBlocks.{made_statement, made_arms, made_block}
use Rattle.rewrite.proofs.Equations.{made_each}
use Rattle.nest.specs.Blocks.{numeral, assignment_of, under_guard, guarded_statement, statement_of_part, block_of_parts}
use Rattle.nest.specs.Blocks.{arms_of_branches, block_of_nest}
use Rattle.nest.specs.Allocations.{allocation_then, deallocation_then, allocations_then, deallocations, block_then}
use Rattle.nest.specs.Plain.{Loop, Guarded, Part, Run, Turns, Choice, Label, Jump, Parts, no_parts, part, Branches, no_branches, branch, Made, Nest}
use Rattle.nest_rewrite.specs.Rewritten.{rewritten_loop, rewritten, rewritten_parts, rewritten_branches}
use Rattle.nest_rewrite.specs.Rewritten.{rewritten_array, rewritten_nest, KeepsIncrements, KeepsIncrementsOfEach}
use Rattle.nest_rewrite.specs.Rewritten.{KeepsIncrementsOfBranches}
use Rattle.nest_rewrite.specs.Statements.{rewritten_statement}

module _ (m : Making) where
  guard_made : (line : ℕ) (g : Option Expression) (c : Statement) → under_guard line (option_map (made m) g) (made_statement m c) ≡ made_statement m (under_guard line g c)
  guard_made line None c = refl
  guard_made line (Some e) c = refl

  statement_made : (s : Guarded) → guarded_statement (rewritten_statement m s) ≡ made_statement m (guarded_statement s)
  statement_made s = guard_made s.line s.guard (assignment_of s)

  module _ (line : ℕ) where
    loop_made : (l : Loop) (b c : Block) → made m (numeral l.step) ≡ numeral l.step → b ≡ made_block m c
        → Do line l.variable (made m l.first) (made m l.last) (numeral l.step) b ≡ made_statement m (Do line l.variable l.first l.last (numeral l.step) c)
    loop_made l b c e h =
        ap (λ s. Do line l.variable (made m l.first) (made m l.last) s b) (sym e)
        ∙ ap (Do line l.variable (made m l.first) (made m l.last) (made m (numeral l.step))) h

    choice_made : (a : Arms) (b : Arms) (c d : Block) → a ≡ made_arms m b → c ≡ made_block m d → If line a c ≡ made_statement m (If line b d)
    choice_made a b c d e h = ap (λ x. If line x c) e ∙ ap (If line (made_arms m b)) h

    mutual
      part_made : (p : Part) → KeepsIncrements m p → statement_of_part line (rewritten m p) ≡ made_statement m (statement_of_part line p)
      part_made (Run s) h = statement_made s
      part_made (Turns l ps) h = loop_made l (block_of_parts line (rewritten_parts m ps)) (block_of_parts line ps) h.0 (parts_made ps h.1)
      part_made (Choice bs ps) h = choice_made (arms_of_branches line (rewritten_branches m bs)) (arms_of_branches line bs) (block_of_parts line (rewritten_parts m ps)) (block_of_parts line ps) (branches_made bs h.0) (parts_made ps h.1)
      part_made (Label n) h = refl
      part_made (Jump n) h = refl

      parts_made : (ps : Parts) → KeepsIncrementsOfEach m ps → block_of_parts line (rewritten_parts m ps) ≡ made_block m (block_of_parts line ps)
      parts_made no_parts h = refl
      parts_made (part p ps) h =
          ap (λ c. statement c (block_of_parts line (rewritten_parts m ps))) (part_made p h.0)
          ∙ ap (statement (made_statement m (statement_of_part line p))) (parts_made ps h.1)

      branches_made : (bs : Branches) → KeepsIncrementsOfBranches m bs → arms_of_branches line (rewritten_branches m bs) ≡ made_arms m (arms_of_branches line bs)
      branches_made no_branches h = refl
      branches_made (branch test ps bs) h =
          ap (λ b. arm (made m test) b (arms_of_branches line (rewritten_branches m bs))) (parts_made ps h.0)
          ∙ ap (arm (made m test) (made_block m (block_of_parts line ps))) (branches_made bs h.1)

    -- ---- made arrays

    allocation_made : (x : List ℕ) (es : List Expression) (b : Block) → allocation_then line x (map (made m) es) (made_block m b) ≡ made_block m (allocation_then line x es b)
    allocation_made x [] b = refl
    allocation_made x (e ∷ es) b = ap (λ f. statement (Allocate line x f) (made_block m b)) (made_each m (e ∷ es))

    deallocation_made : (x : List ℕ) (es : List Expression) (b : Block) → deallocation_then line x (map (made m) es) (made_block m b) ≡ made_block m (deallocation_then line x es b)
    deallocation_made x [] b = refl
    deallocation_made x (e ∷ es) b = refl

    allocations_made : (as' : List Made) (b : Block) → allocations_then line (map (rewritten_array m) as') (made_block m b) ≡ made_block m (allocations_then line as' b)
    allocations_made [] b = refl
    allocations_made (a ∷ as') b =
        ap (allocation_then line a.name (map (made m) a.extents)) (allocations_made as' b)
        ∙ allocation_made a.name a.extents (allocations_then line as' b)

    deallocations_made : (as' : List Made) → deallocations line (map (rewritten_array m) as') ≡ made_block m (deallocations line as')
    deallocations_made [] = refl
    deallocations_made (a ∷ as') =
        ap (deallocation_then line a.name (map (made m) a.extents)) (deallocations_made as')
        ∙ deallocation_made a.name a.extents (deallocations line as')

  then_made : (b c : Block) → block_then (made_block m b) (made_block m c) ≡ made_block m (block_then b c)
  then_made no_statements c = refl
  then_made (statement s b) c = ap (statement (made_statement m s)) (then_made b c)

  pub block_of_rewritten : (n : Nest) → KeepsIncrements m n.body → block_of_nest (rewritten_nest m n) ≡ made_block m (block_of_nest n)
  block_of_rewritten n h =
      let rest = ap (block_then (made_block m n.after)) (deallocations_made n.line n.made) ∙ then_made n.after (deallocations n.line n.made) in
      let all = ap (λ c. statement c (block_then (made_block m n.after) (deallocations n.line (map (rewritten_array m) n.made)))) (part_made n.line n.body h)
      ∙ ap (statement (made_statement m (statement_of_part n.line n.body))) rest in
      ap (allocations_then n.line (map (rewritten_array m) n.made)) all
      ∙ allocations_made n.line n.made (statement (statement_of_part n.line n.body) (block_then n.after (deallocations n.line n.made)))
