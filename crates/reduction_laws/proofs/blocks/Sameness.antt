-- Expressions that are told to be the same are.
use Rattle.std.proofs.Common.{◌≡◌, refl, sym, ap, ap₂, ◌∙◌, ℕ, Bool, true, false, ◌&&◌, cond}
use Rattle.std.specs.Prelude.{◌==◌}
use Rattle.std.specs.Str.{bytes_eq}
use Rattle.std.proofs.lemmas.Bool.{eqb-true}
use Rattle.std.proofs.lemmas.Bool.Decides.{Decides-int_eq}
use Rattle.std.proofs.lemmas.Slice.Eq.{bytes_eq-Decides}
use Rattle.tree.specs.Plain.{Expression, Number, Logic, Named, Unary, Binary, Apply, Constructor, Spread, Transpose, Reshape, Reduce, Expressions, no_expressions, expression, Subscript, Only, Section, Subscripts, no_subscripts, subscript, Loops, no_loops, loop, Reference}
use Rattle.tree.specs.declared.ops.Op.{Op}
use Rattle.tree.specs.declared.ops.Op.TheVariants.{Pow, Mul, Div, Neg, Add, Sub, Lt, Le, Eq, Ne, Gt, Ge, Not, And, Or, Eqv, Neqv}
use Rattle.tree.specs.declared.functions.Fun.{Fun}
use Rattle.tree.specs.declared.functions.Fun.TheVariants.{Abs, Mod, Max, Min}
use Rattle.tree.specs.declared.functions.Red.{Red}
use Rattle.tree.specs.declared.functions.Red.TheVariants.{Sum, MaxVal, MinVal}
use Rattle.meaning.specs.Value.{named}
use Rattle.reductions.specs.Same.{is_reference, number_of_function, number_of_operator, number_of_reduction, same, same_each, same_function, same_loops, same_operator, same_reduction, same_subscript, same_subscripts, same_truth}

pub both : (a b : Bool) → (a && b) ≡ true → (a ≡ true) × (b ≡ true)
both true true e = (refl, refl)
both true false e = cc
both false b e = cc

truths : (b c : Bool) → same_truth b c ≡ true → b ≡ c
truths true true e = refl
truths true false e = cc
truths false true e = cc
truths false false e = refl

-- ---- operators and functions, from their numbers

abbrev operator_at : ℕ → Op
operator_at n = cond (n == 0) Pow (cond (n == 1) Mul (cond (n == 2) Div (cond (n == 3) Neg (cond (n == 4) Add (cond (n == 5) Sub (cond (n == 6) Lt (cond (n == 7) Le (cond (n == 8) Eq (cond (n == 9) Ne (cond (n == 10) Gt (cond (n == 11) Ge (cond (n == 12) Not (cond (n == 13) And (cond (n == 14) Or (cond (n == 15) Eqv (Neqv))))))))))))))))

operator_back : (o : Op) → operator_at (number_of_operator o) ≡ o
operator_back Pow = refl
operator_back Mul = refl
operator_back Div = refl
operator_back Neg = refl
operator_back Add = refl
operator_back Sub = refl
operator_back Lt = refl
operator_back Le = refl
operator_back Eq = refl
operator_back Ne = refl
operator_back Gt = refl
operator_back Ge = refl
operator_back Not = refl
operator_back And = refl
operator_back Or = refl
operator_back Eqv = refl
operator_back Neqv = refl

operators : (o q : Op) → same_operator o q ≡ true → o ≡ q
operators o q e = sym (operator_back o) ∙ (ap operator_at (eqb-true (number_of_operator o) (number_of_operator q) e) ∙ operator_back q)

abbrev function_at : ℕ → Fun
function_at n = cond (n == 0) Abs (cond (n == 1) Mod (cond (n == 2) Max (Min)))

function_back : (o : Fun) → function_at (number_of_function o) ≡ o
function_back Abs = refl
function_back Mod = refl
function_back Max = refl
function_back Min = refl

functions : (o q : Fun) → same_function o q ≡ true → o ≡ q
functions o q e = sym (function_back o) ∙ (ap function_at (eqb-true (number_of_function o) (number_of_function q) e) ∙ function_back q)

abbrev reduction_at : ℕ → Red
reduction_at n = cond (n == 0) Sum (cond (n == 1) MaxVal (MinVal))

reduction_back : (o : Red) → reduction_at (number_of_reduction o) ≡ o
reduction_back Sum = refl
reduction_back MaxVal = refl
reduction_back MinVal = refl

reductions : (o q : Red) → same_reduction o q ≡ true → o ≡ q
reductions o q e = sym (reduction_back o) ∙ (ap reduction_at (eqb-true (number_of_reduction o) (number_of_reduction q) e) ∙ reduction_back q)

-- ---- trees

mutual
  same_is : (e f : Expression) → same e f ≡ true → e ≡ f
  same_is (Number n) (Number n') e = ap Number ((Decides-int_eq n n').0 e)
  same_is (Number n) (Logic b') h = cc
  same_is (Number n) (Named x' ps') h = cc
  same_is (Number n) (Unary o' a') h = cc
  same_is (Number n) (Binary o' a' b') h = cc
  same_is (Number n) (Apply f' es') h = cc
  same_is (Number n) (Constructor es' ls') h = cc
  same_is (Number n) (Spread a' m' e') h = cc
  same_is (Number n) (Transpose a') h = cc
  same_is (Number n) (Reshape a' es') h = cc
  same_is (Number n) (Reduce r' a') h = cc
  same_is (Logic b) (Number n') h = cc
  same_is (Logic b) (Logic b') e = ap Logic (truths b b' e)
  same_is (Logic b) (Named x' ps') h = cc
  same_is (Logic b) (Unary o' a') h = cc
  same_is (Logic b) (Binary o' a' b') h = cc
  same_is (Logic b) (Apply f' es') h = cc
  same_is (Logic b) (Constructor es' ls') h = cc
  same_is (Logic b) (Spread a' m' e') h = cc
  same_is (Logic b) (Transpose a') h = cc
  same_is (Logic b) (Reshape a' es') h = cc
  same_is (Logic b) (Reduce r' a') h = cc
  same_is (Named x ps) (Number n') h = cc
  same_is (Named x ps) (Logic b') h = cc
  same_is (Named x ps) (Named x' ps') e = let h = both (bytes_eq x x') (same_subscripts ps ps') e in ap₂ Named ((bytes_eq-Decides x x').0 h.0) (same_subscripts_is ps ps' h.1)
  same_is (Named x ps) (Unary o' a') h = cc
  same_is (Named x ps) (Binary o' a' b') h = cc
  same_is (Named x ps) (Apply f' es') h = cc
  same_is (Named x ps) (Constructor es' ls') h = cc
  same_is (Named x ps) (Spread a' m' e') h = cc
  same_is (Named x ps) (Transpose a') h = cc
  same_is (Named x ps) (Reshape a' es') h = cc
  same_is (Named x ps) (Reduce r' a') h = cc
  same_is (Unary o a) (Number n') h = cc
  same_is (Unary o a) (Logic b') h = cc
  same_is (Unary o a) (Named x' ps') h = cc
  same_is (Unary o a) (Unary o' a') e = let h = both (same_operator o o') (same a a') e in ap₂ Unary (operators o o' h.0) (same_is a a' h.1)
  same_is (Unary o a) (Binary o' a' b') h = cc
  same_is (Unary o a) (Apply f' es') h = cc
  same_is (Unary o a) (Constructor es' ls') h = cc
  same_is (Unary o a) (Spread a' m' e') h = cc
  same_is (Unary o a) (Transpose a') h = cc
  same_is (Unary o a) (Reshape a' es') h = cc
  same_is (Unary o a) (Reduce r' a') h = cc
  same_is (Binary o a b) (Number n') h = cc
  same_is (Binary o a b) (Logic b') h = cc
  same_is (Binary o a b) (Named x' ps') h = cc
  same_is (Binary o a b) (Unary o' a') h = cc
  same_is (Binary o a b) (Binary o' a' b') e = let h = both (same_operator o o') (same a a' && same b b') e in let k = both (same a a') (same b b') h.1 in
      ap₂ (λ q c. Binary q c b) (operators o o' h.0) (same_is a a' k.0) ∙ ap (Binary o' a') (same_is b b' k.1)
  same_is (Binary o a b) (Apply f' es') h = cc
  same_is (Binary o a b) (Constructor es' ls') h = cc
  same_is (Binary o a b) (Spread a' m' e') h = cc
  same_is (Binary o a b) (Transpose a') h = cc
  same_is (Binary o a b) (Reshape a' es') h = cc
  same_is (Binary o a b) (Reduce r' a') h = cc
  same_is (Apply f es) (Number n') h = cc
  same_is (Apply f es) (Logic b') h = cc
  same_is (Apply f es) (Named x' ps') h = cc
  same_is (Apply f es) (Unary o' a') h = cc
  same_is (Apply f es) (Binary o' a' b') h = cc
  same_is (Apply f es) (Apply f' es') e = let h = both (same_function f f') (same_each es es') e in ap₂ Apply (functions f f' h.0) (same_each_is es es' h.1)
  same_is (Apply f es) (Constructor es' ls') h = cc
  same_is (Apply f es) (Spread a' m' e') h = cc
  same_is (Apply f es) (Transpose a') h = cc
  same_is (Apply f es) (Reshape a' es') h = cc
  same_is (Apply f es) (Reduce r' a') h = cc
  same_is (Constructor es ls) (Number n') h = cc
  same_is (Constructor es ls) (Logic b') h = cc
  same_is (Constructor es ls) (Named x' ps') h = cc
  same_is (Constructor es ls) (Unary o' a') h = cc
  same_is (Constructor es ls) (Binary o' a' b') h = cc
  same_is (Constructor es ls) (Apply f' es') h = cc
  same_is (Constructor es ls) (Constructor es' ls') e = let h = both (same_each es es') (same_loops ls ls') e in ap₂ Constructor (same_each_is es es' h.0) (same_loops_is ls ls' h.1)
  same_is (Constructor es ls) (Spread a' m' e') h = cc
  same_is (Constructor es ls) (Transpose a') h = cc
  same_is (Constructor es ls) (Reshape a' es') h = cc
  same_is (Constructor es ls) (Reduce r' a') h = cc
  same_is (Spread a m e) (Number n') h = cc
  same_is (Spread a m e) (Logic b') h = cc
  same_is (Spread a m e) (Named x' ps') h = cc
  same_is (Spread a m e) (Unary o' a') h = cc
  same_is (Spread a m e) (Binary o' a' b') h = cc
  same_is (Spread a m e) (Apply f' es') h = cc
  same_is (Spread a m e) (Constructor es' ls') h = cc
  same_is (Spread a m e) (Spread a' m' e') g = let h = both (m == m') (same a a' && same e e') g in let k = both (same a a') (same e e') h.1 in
      ap₂ (λ c n. Spread c n e) (same_is a a' k.0) (eqb-true m m' h.0) ∙ ap (Spread a' m') (same_is e e' k.1)
  same_is (Spread a m e) (Transpose a') h = cc
  same_is (Spread a m e) (Reshape a' es') h = cc
  same_is (Spread a m e) (Reduce r' a') h = cc
  same_is (Transpose a) (Number n') h = cc
  same_is (Transpose a) (Logic b') h = cc
  same_is (Transpose a) (Named x' ps') h = cc
  same_is (Transpose a) (Unary o' a') h = cc
  same_is (Transpose a) (Binary o' a' b') h = cc
  same_is (Transpose a) (Apply f' es') h = cc
  same_is (Transpose a) (Constructor es' ls') h = cc
  same_is (Transpose a) (Spread a' m' e') h = cc
  same_is (Transpose a) (Transpose a') e = ap Transpose (same_is a a' e)
  same_is (Transpose a) (Reshape a' es') h = cc
  same_is (Transpose a) (Reduce r' a') h = cc
  same_is (Reshape a es) (Number n') h = cc
  same_is (Reshape a es) (Logic b') h = cc
  same_is (Reshape a es) (Named x' ps') h = cc
  same_is (Reshape a es) (Unary o' a') h = cc
  same_is (Reshape a es) (Binary o' a' b') h = cc
  same_is (Reshape a es) (Apply f' es') h = cc
  same_is (Reshape a es) (Constructor es' ls') h = cc
  same_is (Reshape a es) (Spread a' m' e') h = cc
  same_is (Reshape a es) (Transpose a') h = cc
  same_is (Reshape a es) (Reshape a' es') e = let h = both (same a a') (same_each es es') e in ap₂ Reshape (same_is a a' h.0) (same_each_is es es' h.1)
  same_is (Reshape a es) (Reduce r' a') h = cc
  same_is (Reduce r a) (Number n') h = cc
  same_is (Reduce r a) (Logic b') h = cc
  same_is (Reduce r a) (Named x' ps') h = cc
  same_is (Reduce r a) (Unary o' a') h = cc
  same_is (Reduce r a) (Binary o' a' b') h = cc
  same_is (Reduce r a) (Apply f' es') h = cc
  same_is (Reduce r a) (Constructor es' ls') h = cc
  same_is (Reduce r a) (Spread a' m' e') h = cc
  same_is (Reduce r a) (Transpose a') h = cc
  same_is (Reduce r a) (Reshape a' es') h = cc
  same_is (Reduce r a) (Reduce r' a') e = let h = both (same_reduction r r') (same a a') e in ap₂ Reduce (reductions r r' h.0) (same_is a a' h.1)

  same_each_is : (es fs : Expressions) → same_each es fs ≡ true → es ≡ fs
  same_each_is no_expressions no_expressions e = refl
  same_each_is no_expressions (expression f fs) e = cc
  same_each_is (expression e es) no_expressions h = cc
  same_each_is (expression e es) (expression f fs) h = let k = both (same e f) (same_each es fs) h in ap₂ expression (same_is e f k.0) (same_each_is es fs k.1)

  same_subscripts_is : (ps qs : Subscripts) → same_subscripts ps qs ≡ true → ps ≡ qs
  same_subscripts_is no_subscripts no_subscripts e = refl
  same_subscripts_is no_subscripts (subscript q qs) e = cc
  same_subscripts_is (subscript p ps) no_subscripts e = cc
  same_subscripts_is (subscript p ps) (subscript q qs) e = let k = both (same_subscript p q) (same_subscripts ps qs) e in ap₂ subscript (same_subscript_is p q k.0) (same_subscripts_is ps qs k.1)

  same_subscript_is : (p q : Subscript) → same_subscript p q ≡ true → p ≡ q
  same_subscript_is (Only a) (Only b) e = ap Only (same_is a b e)
  same_subscript_is (Only a) (Section b c d) e = cc
  same_subscript_is (Section a b c) (Only d) e = cc
  same_subscript_is (Section a b c) (Section d e f) h =
      let k = both (same a d) (same b e && same c f) h in let m = both (same b e) (same c f) k.1 in
      ap₂ (λ x y. Section x y c) (same_is a d k.0) (same_is b e m.0) ∙ ap (Section d e) (same_is c f m.1)

  same_loops_is : (ls ms : Loops) → same_loops ls ms ≡ true → ls ≡ ms
  same_loops_is no_loops no_loops e = refl
  same_loops_is no_loops (loop y c d ms) e = cc
  same_loops_is (loop x a b ls) no_loops e = cc
  same_loops_is (loop x a b ls) (loop y c d ms) e =
      let h = both (bytes_eq x y && (same a c && same b d)) (same_loops ls ms) e in
      let k = both (bytes_eq x y) (same a c && same b d) h.0 in let m = both (same a c) (same b d) k.1 in
      ap₂ (λ z f. loop z f b ls) ((bytes_eq-Decides x y).0 k.0) (same_is a c m.0) ∙ ap₂ (λ f ns. loop y c f ns) (same_is b d m.1) (same_loops_is ls ms h.1)

-- an expression that is told to be a reference is that reference
pub reference_is : (r : Reference) (e : Expression) → is_reference r e ≡ true → e ≡ named r
reference_is r (Number n) h = cc
reference_is r (Logic b) h = cc
reference_is r (Named x ps) e = let h = both (bytes_eq r.name x) (same_subscripts r.subscripts ps) e in ap₂ Named (sym ((bytes_eq-Decides r.name x).0 h.0)) (sym (same_subscripts_is r.subscripts ps h.1))
reference_is r (Unary o a) h = cc
reference_is r (Binary o a b) h = cc
reference_is r (Apply f es) h = cc
reference_is r (Constructor es ls) h = cc
reference_is r (Spread a m e) h = cc
reference_is r (Transpose a) h = cc
reference_is r (Reshape a es) h = cc
reference_is r (Reduce f a) h = cc
