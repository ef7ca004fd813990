-- A pairing cut to the loops that matter, and the least pair of iterations.
use Rattle.std.specs.Prelude.{◌≡◌, ◌⊎◌, ℕ, zero, suc, ℤ, pos, negsuc, ◌<ℤ◌}
use Rattle.std.specs.Prelude.{List, [], ◌∷◌, ◌++◌, Bool, true, false, cond, ◌&&◌}
use Rattle.subscripts.specs.Forms.{IsPairOf}
use Rattle.subscripts.specs.Iterations.{once}
use Rattle.subscripts.specs.declared.affine.Dir.{Dir}
use Rattle.subscripts.specs.declared.affine.Dir.TheVariants.{Any}
use Rattle.subscripts.specs.declared.affine.Dirs.{Dirs}
use Rattle.subscripts.specs.declared.affine.Span.{Span}
use Rattle.subscripts.specs.declared.pairing.Pairing.{Pairing}

abbrev pub is_zero : ℤ → Bool
is_zero (pos zero) = true
is_zero (pos (suc n)) = false
is_zero (negsuc n) = false

-- the spans of a side whose coefficients come first: a loop runs once where it has no coefficient on this side, nor,
-- among the first n, on the other
abbrev pub spans_that_matter : ℕ → List ℤ → List ℤ → List Span → List Span
spans_that_matter n [] bs ss = ss
spans_that_matter n (a ∷ as') [] ss = ss
spans_that_matter n (a ∷ as') (b ∷ bs) [] = []
spans_that_matter zero (a ∷ as') (b ∷ bs) (s ∷ ss) = cond (is_zero a) once s ∷ spans_that_matter zero as' bs ss
spans_that_matter (suc n) (a ∷ as') (b ∷ bs) (s ∷ ss) =
    cond (is_zero a && is_zero b) once s ∷ spans_that_matter n as' bs ss

-- the directions: nothing is asked of a loop without a coefficient
abbrev pub dirs_that_matter : List ℤ → List ℤ → List Dir → List Dir
dirs_that_matter [] bs ds = ds
dirs_that_matter (a ∷ as') [] ds = ds
dirs_that_matter (a ∷ as') (b ∷ bs) [] = []
dirs_that_matter (a ∷ as') (b ∷ bs) (d ∷ ds) = cond (is_zero a && is_zero b) Any d ∷ dirs_that_matter as' bs ds

-- the pairing and the directions cut to the loops that matter: the others run once, in any direction
abbrev pub cut : Pairing → Pairing
cut p = record p {
  from_spans = spans_that_matter p.common p.from.loops p.to.loops p.from_spans;
  to_spans = spans_that_matter p.common p.to.loops p.from.loops p.to_spans;
}

abbrev pub cut_dirs : Pairing → Dirs → Dirs
cut_dirs p d = record d { at = dirs_that_matter p.from.loops p.to.loops d.at }

-- in lexicographic order
abbrev pub IsNoLater : List ℤ → List ℤ → Type 0
IsNoLater [] ys = Unit {0}
IsNoLater (x ∷ xs) [] = Unit {0}
IsNoLater (x ∷ xs) (y ∷ ys) = (x <ℤ y) ⊎ ((x ≡ y) × IsNoLater xs ys)

-- the least pair of iterations of the loops that matter, the first iteration before the second
pub record IsLeastPair (p : Pairing) (d : Dirs) (x y : List ℤ) : Type 0 where
  pub pair : IsPairOf (cut p) (cut_dirs p d) x y
  pub least : (x' y' : List ℤ) → IsPairOf (cut p) (cut_dirs p d) x' y' → IsNoLater (x ++ y) (x' ++ y')
