-- When an operator and a function fault, at values of any kind.
use Rattle.std.proofs.Common.{◌≡◌, refl, sym, ◌∙◌, ◌↔◌, ◌⊎◌, inl, inr, ⊎_elim, Bool, true, false, List, [], ◌∷◌, Result, Ok, Err, IsTrue, length, subst}
use Rattle.std.specs.Prelude.{IfErr, IsErrOf}
use Rattle.std.specs.List.{All}
use Rattle.std.proofs.lemmas.Bool.{false≢true}
use Rattle.std.proofs.lemmas.List.Elements.{All-nil, All-cons, All-head, All-tail}
use Rattle.tree.specs.Functions.{suits_number}
use Rattle.tree.specs.Operators.{apply, call}
use Rattle.tree.specs.OperationFaults.{suits, IsNumber, IsOperationFault, SuitsCall}
use Rattle.tree.specs.declared.ops.Op.{Op}
use Rattle.tree.specs.declared.functions.Fun.{Fun}
use Rattle.tree.specs.declared.ops.Value.{Value}
use Rattle.tree.specs.declared.ops.Value.TheVariants.{Int, Truth}
use Rattle.tree.specs.declared.ops.Fault.{Fault}
use Rattle.tree.specs.declared.ops.Fault.TheVariants.{Overflow, ZeroDivide, Bounds, ZeroStep, TripCount, InputEnd, InputForm, Shape, Allocated}
use Rattle.tree.proofs.Laws.{IsArithmeticFault, apply-Overflow, apply-ZeroDivide, apply-faults, apply-kind, call-Overflow, call-ZeroDivide, call-faults, call-kind}
use Rattle.tree.proofs.Unsuited.{unsuited, miscounted, unnumbered}

-- ---- operators

no_shape : (r : Result Value Fault) → IfErr r IsArithmeticFault → ¬ IsErrOf r Shape
no_shape r h e = subst (λ (x : Result Value Fault). IfErr x IsArithmeticFault) e h

of_operation : (f : Fault) → IsArithmeticFault f → IsOperationFault f
of_operation Overflow h = tt
of_operation ZeroDivide h = tt
of_operation Bounds h = absurd h
of_operation ZeroStep h = absurd h
of_operation TripCount h = absurd h
of_operation InputEnd h = absurd h
of_operation InputForm h = absurd h
of_operation Shape h = tt
of_operation Allocated h = absurd h

arithmetic_alone : (r : Result Value Fault) → IfErr r IsArithmeticFault → IfErr r IsOperationFault
arithmetic_alone (Ok v) h = tt
arithmetic_alone (Err f) h = of_operation f h

shape_alone : (r : Result Value Fault) → r ≡ Err Shape → IfErr r IsOperationFault
shape_alone r e = subst (λ (x : Result Value Fault). IfErr x IsOperationFault) (sym e) tt

-- it faults as Shape exactly where the values are of kinds that don't suit
pub apply-Shape : (o : Op) (v w : Value) → IsErrOf (apply o v w) Shape ↔ ¬ IsTrue (suits o v w)
apply-Shape o v w = (λ e. λ s. no_shape (apply o v w) (apply-faults o v w s) e, λ h. by (suits o v w) refl h)
  where
    by : (b : Bool) → suits o v w ≡ b → ¬ IsTrue b → IsErrOf (apply o v w) Shape
    by true e h = absurd (h refl)
    by false e h = unsuited o v w e

pub apply-only : (o : Op) (v w : Value) → IfErr (apply o v w) IsOperationFault
apply-only o v w = by (suits o v w) refl
  where
    by : (b : Bool) → suits o v w ≡ b → IfErr (apply o v w) IsOperationFault
    by true e = arithmetic_alone (apply o v w) (apply-faults o v w e)
    by false e = shape_alone (apply o v w) (unsuited o v w e)

pub ruleset apply_laws = (apply-Overflow, apply-ZeroDivide, apply-Shape, apply-only, apply-kind)

-- ---- functions

numbers_or_not : (vs : List Value) → All IsNumber vs ⊎ (¬ All IsNumber vs)
numbers_or_not [] = inl (All-nil IsNumber)
numbers_or_not (Truth b ∷ vs) = inr (λ h. All-head IsNumber (Truth b) vs h)
numbers_or_not (Int z ∷ vs) =
    ⊎_elim (λ h. inl (All-cons IsNumber (Int z) vs tt h)) (λ h. inr (λ k. h (All-tail IsNumber (Int z) vs k))) (numbers_or_not vs)

-- it faults as Shape exactly where the arguments don't suit
pub call-Shape : (f : Fun) (vs : List Value) → IsErrOf (call f vs) Shape ↔ ¬ SuitsCall f vs
call-Shape f vs = (
  λ e. λ s. no_shape (call f vs) (call-faults f vs s.count s.numbers) e,
  λ h. ⊎_elim (λ n. miscounted f vs n (λ c. h (record { count = c; numbers = n }))) (λ n. unnumbered f vs n) (numbers_or_not vs),
)

pub call-only : (f : Fun) (vs : List Value) → IfErr (call f vs) IsOperationFault
call-only f vs = ⊎_elim (λ n. by (suits_number f (length vs)) refl n) (λ n. shape_alone (call f vs) (unnumbered f vs n)) (numbers_or_not vs)
  where
    by : (b : Bool) → suits_number f (length vs) ≡ b → All IsNumber vs → IfErr (call f vs) IsOperationFault
    by true e n = arithmetic_alone (call f vs) (call-faults f vs e n)
    by false e n = shape_alone (call f vs) (miscounted f vs n (λ c. false≢true (sym e ∙ c)))

pub ruleset call_laws = (call-Overflow, call-ZeroDivide, call-Shape, call-only, call-kind)
