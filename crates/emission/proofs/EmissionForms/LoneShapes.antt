-- A shape in which one statement stands alone in its loops, and its array form, which is one statement.
use Rattle.std.proofs.Common.{◌≡◌, refl, ap, ℕ, List, [], ◌∷◌, Option, Some, None}
use Rattle.array_form.specs.forms.Statements.{and_all, guarded_by, guarded_form, loops_from, form_tests_of}
use Rattle.array_form.specs.forms.Loops.{form_names_of}
use Rattle.emission.specs.emission_pieces.Nests.{loops_at, standing_at}
use Rattle.emission.specs.emission_pieces.Pieces.{formed_block, mark_of}
use Rattle.tree.specs.Plain.{Expression, Statement, If, no_arms, arm, Block, no_statements, statement}
use Rattle.nest_order.specs.runs.Alone.{chain}
use Rattle.nest.specs.Plain.{Nest}
use Rattle.array_form.specs.holds.Surroundings.{surroundings_of}
use Rattle.emission.specs.emission_forms.Forms.{Lone, lone_in, within}

-- ---- shapes

pub lone_in_chain : (ls : List ℕ) (s : ℕ) → lone_in (chain ls s) ≡ Some (record { loops = ls; statement = s })
lone_in_chain [] s = refl
lone_in_chain (l ∷ ls) s = ap (within l) (lone_in_chain ls s)

pub same_statement : (x y : Lone) → ◌≡◌ {A = Option Lone} (Some x) (Some y) → x.statement ≡ y.statement
same_statement x y e = let same : x ≡ y = cc in ap (λ (z : Lone). z.statement) same

-- where a loop has a statement alone, what stands in the loop has that statement alone
pub lone_inside : (l : ℕ) (o : Option Lone) (x : Lone) → within l o ≡ Some x → (y : Lone) × (o ≡ Some y) × (y.statement ≡ x.statement)
lone_inside l None x e = absurd cc
lone_inside l (Some y) x e = (y, refl, same_statement (record { loops = l ∷ y.loops; statement = y.statement }) x e)

-- ---- array forms

pub record IsOne (b : Block) : Type 0 where
  pub is : Statement
  pub block : b ≡ statement is no_statements

one_guarded : (line : ℕ) (tests : List Expression) (c : Statement) → IsOne (guarded_by line tests (statement c no_statements))
one_guarded line [] c = record { is = c; block = refl }
one_guarded line (e ∷ es) c =
    record { is = If line (arm (and_all e es) (statement c no_statements) no_arms) no_statements; block = refl }

pub one_formed : (n : Nest) (k s : ℕ) → IsOne (formed_block n k s)
one_formed n k s =
    let a = surroundings_of n (loops_at n s) in
    let x = (standing_at n s).statement in
    one_guarded x.line (form_tests_of (form_names_of a) (loops_from a k))
    (guarded_form a k x.line (Some (mark_of n s k)) x.guard x.left x.right)
