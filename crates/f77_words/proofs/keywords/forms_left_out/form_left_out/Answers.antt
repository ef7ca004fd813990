use Rattle.std.proofs.Common.{ap, ℕ}
use Rattle.std.specs.Prelude.{Some}
use Rattle.f77_expressions.specs.Symbols.{symbols_of}
use Rattle.f77_words.specs.keywords.FormsLeftOut.{ArithmeticIf, ComputedGoTo, AssignedGoTo}
use Rattle.f77_words.proofs.keywords.FormLaws.{form_of_arithmetic, form_of_computed, form_of_assigned, no_form}
use Rattle.f77_words.proofs.keywords.forms_left_out.form_left_out.Goals as goal

pub returns-then-is_arithmetic_if-clause-found : goal.returns-then-is_arithmetic_if-clause-found
returns-then-is_arithmetic_if-clause-found c = ArithmeticIf (c.is_arithmetic_if.ensures.0 c.if-is_arithmetic_if.true)

pub returns-then-is_arithmetic_if-clause-only : goal.returns-then-is_arithmetic_if-clause-only
returns-then-is_arithmetic_if-clause-only c n h =
    ap (λ (q : ℕ). Some q) (form_of_arithmetic (symbols_of c.args.text.now) n (c.is_arithmetic_if.ensures.0 c.if-is_arithmetic_if.true) h)

pub returns-then-is_computed_go_to-clause-found : goal.returns-then-is_computed_go_to-clause-found
returns-then-is_computed_go_to-clause-found c = ComputedGoTo (c.is_computed_go_to.ensures.0 c.if-is_computed_go_to.true)

pub returns-then-is_computed_go_to-clause-only : goal.returns-then-is_computed_go_to-clause-only
returns-then-is_computed_go_to-clause-only c n h =
    ap (λ (q : ℕ). Some q) (form_of_computed (symbols_of c.args.text.now) n (λ k. let e = c.is_arithmetic_if.ensures.1 k in let f = c.if-is_arithmetic_if.false in let z : ⊥ = cc in z)
    (c.is_computed_go_to.ensures.0 c.if-is_computed_go_to.true) h)

pub returns-then-is_assigned_go_to-clause-found : goal.returns-then-is_assigned_go_to-clause-found
returns-then-is_assigned_go_to-clause-found c = AssignedGoTo (c.is_assigned_go_to.ensures.0 c.if-is_assigned_go_to.true)

pub returns-then-is_assigned_go_to-clause-only : goal.returns-then-is_assigned_go_to-clause-only
returns-then-is_assigned_go_to-clause-only c n h =
    ap (λ (q : ℕ). Some q) (form_of_assigned (symbols_of c.args.text.now) n (λ k. let e = c.is_arithmetic_if.ensures.1 k in let f = c.if-is_arithmetic_if.false in let z : ⊥ = cc in z)
    (λ k. let e = c.is_computed_go_to.ensures.1 k in let f = c.if-is_computed_go_to.false in let z : ⊥ = cc in z) h)

pub returns-else-is_assigned_go_to-clause-only : goal.returns-else-is_assigned_go_to-clause-only
returns-else-is_assigned_go_to-clause-only c n h =
    absurd (no_form (symbols_of c.args.text.now) n (λ k. let e = c.is_arithmetic_if.ensures.1 k in let f = c.if-is_arithmetic_if.false in let z : ⊥ = cc in z)
    (λ k. let e = c.is_computed_go_to.ensures.1 k in let f = c.if-is_computed_go_to.false in let z : ⊥ = cc in z)
    (λ k. let e = c.is_assigned_go_to.ensures.1 k in let f = c.if-is_assigned_go_to.false in let z : ⊥ = cc in z) h)
