-- Affine forms of the program that are linear forms.
use Rattle.std.specs.Prelude.{◌≡◌, Option, Some, None, ℕ, pos, take, drop, slice_index_or}
use Rattle.subscripts.specs.declared.affine.Affine.{Affine}
use Rattle.linear_forms.specs.Linear.{Form}
use Rattle.linear_forms.specs.Places.{padded, terms_from}

-- the first n places of a form are those of loops, and a symbol's place is counted from the first one behind them
pub record IsAffineOf (n : ℕ) (f : Form) (a : Affine) : Type 0 where
  pub loops : (k : ℕ) → slice_index_or a.loops k (pos 0) ≡ slice_index_or (take n f.coefficients) k (pos 0)
  pub symbols : a.syms ≡ padded (terms_from 0 (drop n f.coefficients))
  pub constant : a.constant ≡ f.constant

-- there is none exactly where there is no form
abbrev pub IsFound : ℕ → Option Form → Option Affine → Type 0
IsFound n None None = Unit {0}
IsFound n (Some f) (Some a) = IsAffineOf n f a
IsFound n _ _ = ⊥
