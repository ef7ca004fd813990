-- Laws of linear forms.
use Rattle.std.specs.Prelude.{◌≡◌, Ok, Some, ℕ, ◌≤◌, ◌^◌, ℤ, nat_abs, IsTrue, List, [], ◌∷◌, ◌++◌, length}
use Rattle.tree.specs.Plain.{Expression}
use Rattle.tree.specs.declared.ops.Value.{Value}
use Rattle.tree.specs.declared.ops.Value.TheVariants.{Int}
use Rattle.meaning.specs.Dialect.{Dialect}
use Rattle.meaning.specs.Store.{Store, Cell}
use Rattle.meaning.specs.Value.{value_of}
use Rattle.subscripts.specs.declared.affine.Affine.{Affine}
use Rattle.linear_forms.specs.Linear.{Form, number_at, HaveValues, is_limited, form_of}
use Rattle.linear_forms.specs.Expressed.{variables, expressed}
use Rattle.linear_forms.specs.Affines.{IsAffineOf}
use Rattle.linear_forms.specs.Texts.{text_of}

-- numbers of 64 bits, as INTEGER has at most
abbrev pub AreSized : List ℤ → Type 0
AreSized [] = Unit {0}
AreSized (x ∷ xs) = (nat_abs x ≤ 2 ^ 63) × AreSized xs

-- each expression has its value
abbrev pub EachHasValue : Dialect → List Expression → Store → List ℤ → Type 0
EachHasValue lang [] s [] = Unit {0}
EachHasValue lang (t ∷ ts) s (x ∷ xs) = (value_of lang t s ≡ Ok (Int x)) × EachHasValue lang ts s xs
EachHasValue lang _ s _ = ⊥

-- an expression with a linear form has the form's number as its value, and meets no fault
abbrev pub LinearHasValue : Type 0
LinearHasValue =
    (lang : Dialect) (loops symbols : List (List ℕ)) (e : Expression) (f : Form) (s : Store) (xs : List ℤ)
    → form_of loops symbols e ≡ Some f → HaveValues (loops ++ symbols) s xs → AreSized xs
    → value_of lang e s ≡ Ok (Int (number_at f xs))

-- so has the canonical text of a form within its limits
abbrev pub TextHasValue : Type 0
TextHasValue = (lang : Dialect) (loops : ℕ) (terms : List Expression) (f : Form) (s : Store) (xs : List ℤ)
    → loops ≤ 7 → IsTrue (is_limited loops f) → EachHasValue lang terms s xs → AreSized xs
    → value_of lang (expressed terms f) s ≡ Ok (Int (number_at f xs))

-- The text of an affine form over the names of its loops and symbols, and divided trips behind them, is the canonical
-- text of the form
abbrev pub AffineHasText : Type 0
AffineHasText = (loops symbols : List (List ℕ)) (trips : List Expression) (f : Form) (a : Affine)
    → IsAffineOf (length loops) f a
    → text_of loops symbols trips a ≡ expressed (variables (loops ++ symbols) ++ trips) f

-- so, within the limits, it has the form's number as its value
abbrev pub AffineTextHasValue : Type 0
AffineTextHasValue =
    (lang : Dialect) (loops symbols : List (List ℕ)) (trips : List Expression) (f : Form) (a : Affine) (s : Store)
    (xs ys : List ℤ) → length loops ≤ 7 → IsTrue (is_limited (length loops) f) → IsAffineOf (length loops) f a
    → HaveValues (loops ++ symbols) s xs → EachHasValue lang trips s ys → AreSized xs → AreSized ys
    → value_of lang (text_of loops symbols trips a) s ≡ Ok (Int (number_at f (xs ++ ys)))

-- each number that a store holds is one of 64 bits
abbrev pub HoldsSized : Store → Type 0
HoldsSized s = (c : Cell) (z : ℤ) → s.held c ≡ Int z → nat_abs z ≤ 2 ^ 63

-- where an expression has a value, the canonical text of its form has the same, whatever the names hold
abbrev pub TextKeepsValue : Type 0
TextKeepsValue = (lang : Dialect) (loops symbols : List (List ℕ)) (e : Expression) (f : Form) (s : Store) (v : Value)
    → form_of loops symbols e ≡ Some f → HoldsSized s → value_of lang e s ≡ Ok v
    → value_of lang (expressed (variables (loops ++ symbols)) f) s ≡ Ok v
