-- Parts of lists of statements and of arms.
use Rattle.std.proofs.Common.{◌≡◌, ℕ, Option, None, List, [], ◌∷◌, ◌++◌, map, refl, ap, ◌∙◌, append_assoc, drop}
use Rattle.std.proofs.lemmas.List.{append-nil, map-append}
use Rattle.tree.specs.Plain.{Statement, block}
use Rattle.tree.specs.View.{expression_of, reference_of, statement_of, tested_of, block_of, arms, Tested}
use Rattle.tree.specs.declared.names.Name.{Name}
use Rattle.tree.specs.declared.lists.Seq.{Seq}
use Rattle.tree.specs.declared.exprs.Expr.{Expr}
use Rattle.tree.specs.declared.exprs.Ref.{Ref}
use Rattle.tree.specs.declared.stmts.Mark.{Mark}
use Rattle.tree.specs.declared.stmts.Stmt.{Stmt}
use Rattle.tree.specs.declared.stmts.Stmt.TheVariants as stmts
use Rattle.tree.specs.declared.stmts.Arm.{Arm, out-Arm}
use Rattle.tree.specs.declared.stmts.Block.{Block, out-Block}
use Rattle.tree.proofs.Equations.{statement_equations, statement_of-assign, statement_of-if, statement_of-do, statement_of-label, statement_of-go, tested_of-is, block_of-is}
use Rattle.nest.specs.Plain.{Part, Run, Turns, Choice, Label, Jump, branch, parts}
use Rattle.nest.specs.View.{Branch, branches}
use Rattle.nest.proofs.Equations.{part_equations}
use Rattle.find_nests.specs.nest_parts.Numbers.{next_loop_number, number_after, after_arms, after_block}
use Rattle.find_nests.specs.nest_parts.Lists.{after_each, after_list, branch_at, branch_list, parts_list}
use Rattle.find_nests.specs.nest_parts.Statements.{source_loop, branches_of, parts_of, parts_of_block}

pub after_each_is : (k : ℕ) (ts : List Tested) → after_arms k (arms ts) ≡ after_each k ts
after_each_is k [] = refl
after_each_is k (t ∷ ts) = after_each_is (after_block k t.body) ts

pub branches_each : (k : ℕ) (ts : List Tested) → branches_of k (arms ts) ≡ branches (branch_list k ts)
branches_each k [] = refl
branches_each k (t ∷ ts) = ap (branch t.test (parts (parts_of_block k t.body))) (branches_each (after_block k t.body) ts)

-- ---- what is left of a list that is gone through

-- the parts so far, with those of the statements that are left
pub record Between (ss : List Stmt) (k n i : ℕ) (ps : List Part) : Type 0 where
  pub parts : ps ++ parts_list n (map statement_of (drop i ss)) ≡ parts_list k (map statement_of ss)
  pub loops : after_list n (map statement_of (drop i ss)) ≡ after_list k (map statement_of ss)

-- the same of arms
pub record BetweenArms (as' : List Arm) (k n i : ℕ) (bs : List Branch) : Type 0 where
  pub branches : bs ++ branch_list n (map tested_of (drop i as')) ≡ branch_list k (map tested_of as')
  pub loops : after_each n (map tested_of (drop i as')) ≡ after_each k (map tested_of as')

-- ---- statements

pub number_after-if : (k line : ℕ) (ts : Seq Arm) (other : Block) → number_after k (statement_of (stmts.If line ts other)) ≡ after_block (after_each k (map tested_of ts)) (block_of other)
number_after-if k line ts other = ap (number_after k) (statement_of-if line ts other) ∙ ap (λ n. after_block n (block_of other)) (after_each_is k (map tested_of ts))

pub number_after-do : (k line : ℕ) (x : Name) (a b c : Expr) (body : Block) → number_after k (statement_of (stmts.Do line x a b c body)) ≡ after_block (next_loop_number k) (block_of body)
number_after-do k line x a b c body = ap (number_after k) (statement_of-do line x a b c body)

pub number_after-arm : (k : ℕ) (a : Arm) → after_block k (tested_of a).body ≡ after_block k (block_of (out-Arm a).body)
number_after-arm k a = ap (λ (t : Tested). after_block k t.body) (tested_of-is a)

pub parts-assign : (k line : ℕ) (m : Option Mark) (left : Ref) (right : Expr)
    → parts_of k (statement_of (stmts.Assign line m left right)) ≡ Run (record { line = line; guard = None; left = reference_of left; right = expression_of right }) ∷ []
parts-assign k line m left right = ap (parts_of k) (statement_of-assign line m left right)

pub parts-if : (k line : ℕ) (ts : Seq Arm) (other : Block) → parts_of k (statement_of (stmts.If line ts other))
    ≡ Choice (branches (branch_list k (map tested_of ts))) (parts (parts_of_block (after_each k (map tested_of ts)) (block_of other))) ∷ []
parts-if k line ts other =
    ap (parts_of k) (statement_of-if line ts other)
    ∙ ap (λ bs. Choice bs (parts (parts_of_block (after_arms k (arms (map tested_of ts))) (block_of other))) ∷ []) (branches_each k (map tested_of ts))
    ∙ ap (λ n. Choice (branches (branch_list k (map tested_of ts))) (parts (parts_of_block n (block_of other))) ∷ []) (after_each_is k (map tested_of ts))

pub parts-do : (k line : ℕ) (x : Name) (a b c : Expr) (body : Block) → parts_of k (statement_of (stmts.Do line x a b c body))
    ≡ Turns (source_loop (next_loop_number k) x (expression_of a) (expression_of b) (expression_of c)) (parts (parts_of_block (next_loop_number k) (block_of body))) ∷ []
parts-do k line x a b c body = ap (parts_of k) (statement_of-do line x a b c body)

pub parts-label : (k n : ℕ) → parts_of k (statement_of (stmts.Label n)) ≡ Label n ∷ []
parts-label k n = ap (parts_of k) (statement_of-label n)

pub parts-go : (k line n : ℕ) → parts_of k (statement_of (stmts.Go line n)) ≡ Jump n ∷ []
parts-go k line n = ap (parts_of k) (statement_of-go line n)

pub branch-at : (k : ℕ) (a : Arm) → branch_at k (tested_of a) ≡ record { test = expression_of (out-Arm a).test; body = parts (parts_of_block k (block_of (out-Arm a).body)) }
branch-at k a = ap (branch_at k) (tested_of-is a)

-- ---- blocks

after_list_is : (k : ℕ) (cs : List Statement) → after_block k (block cs) ≡ after_list k cs
after_list_is k [] = refl
after_list_is k (c ∷ cs) = after_list_is (number_after k c) cs

parts_list_is : (k : ℕ) (cs : List Statement) → parts_of_block k (block cs) ≡ parts_list k cs
parts_list_is k [] = refl
parts_list_is k (c ∷ cs) = ap (λ ps. parts_of k c ++ ps) (parts_list_is (number_after k c) cs)

pub number_after-block : (k : ℕ) (b : Block) → after_block k (block_of b) ≡ after_list k (map statement_of (out-Block b).stmts)
number_after-block k b = ap (after_block k) (block_of-is b) ∙ after_list_is k (map statement_of (out-Block b).stmts)

pub parts-block : (k : ℕ) (b : Block) → parts_of_block k (block_of b) ≡ parts_list k (map statement_of (out-Block b).stmts)
parts-block k b = ap (parts_of_block k) (block_of-is b) ∙ parts_list_is k (map statement_of (out-Block b).stmts)

pub ruleset part_laws = (statement_equations, part_equations, number_after-if, number_after-do, number_after-arm, parts-assign, parts-if, parts-do, parts-label, parts-go, branch-at, map-append, append_assoc, append-nil)

pub ruleset block_laws = (number_after-block, parts-block)
