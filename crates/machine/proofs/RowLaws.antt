-- The rows in which the elements of an array stand, along its first dimension.
use Rattle.std.proofs.Common.{◌≡◌, ap, ◌∙◌, subst, zero, suc, ℕ, ◌*◌, ◌+◌, ◌<◌, List, ◌∷◌, arith}
use Rattle.std.specs.Prelude.{◌/◌, ◌%◌}
use Rattle.std.proofs.lemmas.Nat.{div-mul-add, mod-mul-add, div_below}
use Rattle.tree.specs.View.{bounds_of}
use Rattle.tree.specs.declared.programs.Dim.{Dim}
use Rattle.meaning.specs.Store.{size_of}
use Rattle.meaning.specs.Extents.{elements_of}
use Rattle.machine.specs.Storage.{bounds_list}

positive : (n m k : ℕ) → k < n * m → 0 < n
positive zero m k l = absurd (omega (arith, l))
positive (suc n) m k l = omega arith

module _ (ds : List Dim) (d : Dim) (inner : List Dim) (k : ℕ) (e : ds ≡ d ∷ inner) (l : k < elements_of (bounds_list ds)) where
  within : k < size_of (bounds_of d) * elements_of (bounds_list inner)
  within = subst (λ ds. k < elements_of (bounds_list ds)) e l

  pub some_size : 0 < size_of (bounds_of d)
  some_size = positive (size_of (bounds_of d)) (elements_of (bounds_list inner)) k within

  pub row_within : k / size_of (bounds_of d) < elements_of (bounds_list inner)
  row_within = div_below k (size_of (bounds_of d)) (elements_of (bounds_list inner)) some_size (let w = within in grind (arith, w))

pub ruleset row_laws = (some_size, row_within)

-- all places below the size of the dimension are in the first row
pub first_row : (k n : ℕ) → k < n → (k / n ≡ 0) × (k % n ≡ k)
first_row k n l = (
  ap (λ j. j / n) (let e : k ≡ 0 * n + k = omega arith in e) ∙ div-mul-add 0 n k l,
  ap (λ j. j % n) (let e : k ≡ 0 * n + k = omega arith in e) ∙ mod-mul-add 0 n k l,
)
