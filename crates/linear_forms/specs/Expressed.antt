-- The canonical text of a linear form: its terms in the order of their places, and then its constant.
use Rattle.std.specs.Prelude.{ℕ, suc, zero, ◌==◌, ℤ, pos, negsuc, if◌then◌else◌, Option, Some, None, List, [], ◌∷◌, map}
use Rattle.tree.specs.Plain.{Expression, Number, Named, Unary, Binary, no_subscripts}
use Rattle.tree.specs.declared.ops.Op.TheVariants.{Mul, Neg, Add, Sub}
use Rattle.linear_forms.specs.Linear.{Form}

-- a coefficient 1 isn't written
abbrev pub term : ℕ → Expression → Expression
term n t = if n == 1 then t else Binary Mul (Number (pos n)) t

-- a sign stands before the first term, and between two; none is written before a first term that is added
abbrev pub plus_term : Option Expression → Expression → Expression
plus_term None t = t
plus_term (Some e) t = Binary Add e t

abbrev pub minus_term : Option Expression → Expression → Expression
minus_term None t = Unary Neg t
minus_term (Some e) t = Binary Sub e t

-- what stands so far, with one more term; one with the coefficient 0 is left out
abbrev pub with_term : Option Expression → ℤ → Expression → Option Expression
with_term o (pos zero) t = o
with_term o (pos (suc n)) t = Some (plus_term o (term (suc n) t))
with_term o (negsuc n) t = Some (minus_term o (term (suc n) t))

abbrev pub with_terms : Option Expression → List ℤ → List Expression → Option Expression
with_terms o [] ts = o
with_terms o (c ∷ cs) [] = o
with_terms o (c ∷ cs) (t ∷ ts) = with_terms (with_term o c t) cs ts

-- a constant 0 is written by itself alone
abbrev pub with_constant : Option Expression → ℤ → Expression
with_constant None (pos n) = Number (pos n)
with_constant None (negsuc n) = Unary Neg (Number (pos (suc n)))
with_constant (Some e) (pos zero) = e
with_constant (Some e) (pos (suc n)) = Binary Add e (Number (pos (suc n)))
with_constant (Some e) (negsuc n) = Binary Sub e (Number (pos (suc n)))

-- by what stands for each place: a loop variable, a symbol or a divided trip
abbrev pub expressed : List Expression → Form → Expression
expressed terms f = with_constant (with_terms None f.coefficients terms) f.constant

abbrev pub variable : List ℕ → Expression
variable x = Named x no_subscripts

abbrev pub variables : List (List ℕ) → List Expression
variables names = map variable names
