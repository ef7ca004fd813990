-- Loops in lists of statements and of arms.
use Rattle.std.proofs.Common.{◌≡◌, ℕ, Bool, List, [], ◌∷◌, ◌||◌, map, refl, ap, ◌∙◌}
use Rattle.std.specs.List.{list_any}
use Rattle.tree.specs.Plain.{Expression, Statement, Block, block}
use Rattle.tree.specs.View.{statement_of, block_of, arms, Tested}
use Rattle.tree.specs.declared.stmts.Block.{Block as Block', out-Block}
use Rattle.tree.proofs.Equations.{statement_equations, block_of-is}
use Rattle.nest_reasons.specs.Walks.{any_loop, any_in_arms, any_in_block}
use Rattle.nest_reasons.specs.Arms.{any_in_arm}

module _ (test : List (List ℕ) → Expression → Expression → Expression → Block → Bool) (around : List (List ℕ)) where
  pub each_arm : (ts : List Tested) → any_in_arms test around (arms ts) ≡ list_any (any_in_arm test around) ts
  each_arm [] = refl
  each_arm (t ∷ ts) = ap (λ b. any_in_arm test around t || b) (each_arm ts)

  pub each_statement : (cs : List Statement) → any_in_block test around (block cs) ≡ list_any (any_loop test around) cs
  each_statement [] = refl
  each_statement (c ∷ cs) = ap (λ b. any_loop test around c || b) (each_statement cs)

  pub loops-block : (k : Block') → any_in_block test around (block_of k) ≡ list_any (any_loop test around) (map statement_of (out-Block k).stmts)
  loops-block k = ap (any_in_block test around) (block_of-is k) ∙ each_statement (map statement_of (out-Block k).stmts)

pub ruleset loop_laws = (statement_equations, each_arm)

pub ruleset block_laws = (loops-block)
