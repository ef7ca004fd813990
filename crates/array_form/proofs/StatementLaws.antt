-- A statement under the condition on its trips.
use Rattle.std.proofs.Common.{◌≡◌, ℕ, ◌+◌, ◌-◌, List, [], ◌∷◌, map, drop, length, Option, Some, None, refl, sym, ap, ◌∙◌, arith}
use mathlib.Core.Path.{ap₂}
use Rattle.std.proofs.lemmas.List.{drop-map}
use Rattle.tree.specs.Plain.{Block, Expression, If, Reference, Statement, arm, no_arms, no_statements, statement, subscripts}
use Rattle.tree.specs.Plain.{block}
use Rattle.tree.specs.View.{block_of, statement_of}
use Rattle.tree.specs.declared.lists.Seq.{Seq}
use Rattle.std.proofs.Common.{Result, Ok, Err}
use Rattle.std.specs.Prelude.{IfOk}
use Rattle.std.specs.Option.{option_map}
use Rattle.tree.specs.View.{Tested, arms, expression_of, tested_of}
use Rattle.tree.specs.declared.exprs.Expr.{Expr}
use Rattle.tree.specs.declared.lists.Memory.{Memory}
use Rattle.tree.specs.declared.stmts.Arm.{Arm, roll-Arm}
use Rattle.tree.specs.declared.stmts.Block.{Block as Block', roll-Block}
use Rattle.tree.specs.declared.stmts.Stmt.TheVariants as stmts
use Rattle.tree.proofs.Equations.{statement_of-if, tested_of-made}
use Rattle.tree.specs.declared.stmts.Stmt.{Stmt}
use Rattle.tree.proofs.Equations.{block_of-made}
use Rattle.tree.specs.declared.stmts.Mark.{Mark}
use Rattle.array_form.specs.forms.Loops as forms
use Rattle.array_form.specs.forms.Statements.{and_all, array_form_of, guarded_by, guarded_form, loops_from, form_tests_of}
use Rattle.array_form.specs.holds.Surroundings.{counted_of}
use Rattle.array_form.specs.holds.View.{surroundings_view}
use Rattle.array_form.specs.declared.holds.loops.CountedLoop.{CountedLoop}
use Rattle.array_form.specs.declared.holds.loops.Surroundings.{Surroundings}
use Rattle.array_form.specs.Loops.{viewed}
use Rattle.array_form.specs.Statement.{block_of_one, under_condition}
use Rattle.array_form.specs.Texts.{with_tests}

pub one_block : (ss : Seq Stmt) (c : Stmt) → ss ≡ c ∷ [] → block_of (roll-Block (record { stmts = ss })) ≡ statement (statement_of c) no_statements
one_block ss c h = block_of-made ss ∙ ap (λ (cs : List Stmt). block (map statement_of cs)) h

pub if_ok : (line : ℕ) (test : Expr) (body : Block') (given : Seq Arm) (none : Seq Stmt) (condition : Option Expr) (r : Result Block' Memory) → condition ≡ Some test
    → given ≡ roll-Arm (record { test = test; body = body }) ∷ [] → none ≡ [] → IfOk r (λ b. block_of b ≡ block_of_one (statement_of (stmts.If line given (roll-Block (record { stmts = none })))))
    → IfOk r (λ b. block_of b ≡ under_condition line (option_map expression_of condition) (block_of body))
if_ok line test body given none condition (Ok b) c g n h =
    h ∙ ap block_of_one (statement_of-if line given (roll-Block (record { stmts = none }))
    ∙ ap₂ (λ (as' : List Arm) (e : Block). If line (arms (map tested_of as')) e) g (block_of-made none ∙ ap (λ (ss : List Stmt). block (map statement_of ss)) n)
    ∙ ap (λ (t : Tested). If line (arm t.test t.body no_arms) no_statements) (tested_of-made test body))
    ∙ ap (λ o. under_condition line (option_map expression_of o) (block_of body)) (sym c)
if_ok line test body given none condition (Err m) c g n h = h

all_joined : (e : Expression) (es : List Expression) → with_tests (Some e) es ≡ Some (and_all e es)
all_joined e [] = refl
all_joined e (f ∷ es) = all_joined (Rattle.tree.specs.Plain.Binary Rattle.tree.specs.declared.ops.Op.TheVariants.And e f) es

guarded_is : (line : ℕ) (es : List Expression) (body : Block) → guarded_by line es body ≡ under_condition line (with_tests None es) body
guarded_is line [] body = refl
guarded_is line (e ∷ es) body = ap (λ o. under_condition line o body) (sym (all_joined e es))

module _ (a : Surroundings) where
  pub from_place : (from : ℕ) → loops_from (surroundings_view a) (from + 1) ≡ viewed a (drop from a.loops)
  from_place from =
      let e : (from + 1) - 1 ≡ from = omega arith in
      ap (λ n. drop n (map (counted_of (length a.loops)) a.loops)) e ∙ drop-map (counted_of (length a.loops)) from a.loops

  pub statement_is : (from line : ℕ) (mark : Option Mark) (guard : Option Expression) (left : Reference) (right : Expression) (whole body : Block) (o : Option Expression) (part : List CountedLoop)
      → part ≡ drop from a.loops → whole ≡ under_condition line o body
      → o ≡ with_tests None (form_tests_of (forms.form_names_of (surroundings_view a)) (viewed a part))
      → body ≡ block_of_one (guarded_form (surroundings_view a) (from + 1) line mark guard left right)
      → whole ≡ array_form_of (surroundings_view a) (from + 1) line mark guard left right
  statement_is from line mark guard left right whole body o part p w tests b =
      w ∙ ap₂ (under_condition line) (tests ∙ ap (λ ls. with_tests None (form_tests_of (forms.form_names_of (surroundings_view a)) (viewed a ls))) p ∙ ap (λ ls. with_tests None (form_tests_of (forms.form_names_of (surroundings_view a)) ls)) (sym (from_place from))) b
      ∙ sym (guarded_is line (form_tests_of (forms.form_names_of (surroundings_view a)) (loops_from (surroundings_view a) (from + 1))) (block_of_one (guarded_form (surroundings_view a) (from + 1) line mark guard left right)))

pub statement_ok : (a : Surroundings) (from line : ℕ) (mark : Option Mark) (guard : Option Expression) (left : Reference) (right : Expression) (r : Result Block' Memory) (body : Block) (condition : Option Expr) (part : List CountedLoop)
    → part ≡ drop from a.loops → IfOk r (λ b. block_of b ≡ under_condition line (option_map expression_of condition) body)
    → option_map expression_of condition ≡ with_tests None (form_tests_of (forms.form_names_of (surroundings_view a)) (viewed a part))
    → body ≡ block_of_one (guarded_form (surroundings_view a) (from + 1) line mark guard left right)
    → IfOk r (λ b. block_of b ≡ array_form_of (surroundings_view a) (from + 1) line mark guard left right)
statement_ok a from line mark guard left right (Ok b) body condition part p w tests e =
    statement_is a from line mark guard left right (block_of b) body (option_map expression_of condition) part p w tests e
statement_ok a from line mark guard left right (Err m) body condition part p w tests e = w

pub ruleset statement_laws = (from_place, statement_is)
