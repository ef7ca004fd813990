-- Linear forms as the program has them: seven coefficients of loops, and up to eight symbols with their coefficients.
use Rattle.std.specs.Prelude.{ℕ, suc, ◌-◌, ℤ, pos, if◌then◌else◌, List, [], ◌∷◌, ◌++◌, length, replicate}
use Rattle.std.specs.Ordering.{int_eq}
use Rattle.linear_forms.specs.Linear.{Form}

-- the coefficients other than 0, each with its place, which is counted from o
abbrev pub terms_from : ℕ → List ℤ → List (ℕ × ℤ)
terms_from o [] = []
terms_from o (c ∷ cs) = if int_eq c (pos 0) then terms_from (suc o) cs else (o, c) ∷ terms_from (suc o) cs

-- (0, 0) in the places that aren't used
abbrev pub padded : List (ℕ × ℤ) → List (ℕ × ℤ)
padded ts = ts ++ replicate (8 - length ts) (0, pos 0)

-- 1 for one place, 0 for all others
abbrev pub unit_form : ℕ → Form
unit_form k = record { coefficients = replicate k (pos 0) ++ pos 1 ∷ []; constant = pos 0 }
