-- How answers are merged and ordered.
use Rattle.std.specs.Prelude.{◌≡◌, ◌⊎◌, ℕ, zero, suc, ◌<◌, List, [], ◌∷◌, ◌++◌, map}
use Rattle.subscripts.specs.declared.affine.Dir.{Dir}
use Rattle.subscripts.specs.declared.affine.Dir.TheVariants.{Lt, Eq, Gt, Any}
use Rattle.dependence_graph.specs.nest_graph.Arcs.{VectorVerdict, Assumed, Met, Never, Verdict}

-- with one more direction in front of each vector
abbrev pub under_direction : Dir → List VectorVerdict → List VectorVerdict
under_direction e answers = map (λ (a : VectorVerdict). (e ∷ a.0, a.1)) answers

-- whatever the pair of iterations
abbrev pub kind_of : Verdict → Verdict
kind_of (Never w) = Never w
kind_of (Met x y w) = Met [] [] w
kind_of (Assumed w) = Assumed w

abbrev pub verdict_kinds : List VectorVerdict → List VectorVerdict
verdict_kinds answers = map (λ (a : VectorVerdict). (a.0, kind_of a.1)) answers

-- the answers with `<`, `=` and `>` in front, in this order, which aren't all alike
pub record IsSplit (P : List VectorVerdict → Type 0) (answers : List VectorVerdict) : Type 0 where
  pub less : List VectorVerdict
  pub equal : List VectorVerdict
  pub greater : List VectorVerdict
  pub is : answers ≡ under_direction Lt less ++ (under_direction Eq equal ++ under_direction Gt greater)
  pub merged : P less × P equal × P greater
  pub differ : verdict_kinds less ≡ verdict_kinds equal → verdict_kinds less ≡ verdict_kinds greater → ⊥

-- the answers to all vectors of so many loops: from the innermost loop out, three lists that are alike become one, with
-- `*` in front
abbrev pub IsMerged : ℕ → List VectorVerdict → Type 0
IsMerged zero answers = (v : Verdict) × (answers ≡ ([], v) ∷ [])
IsMerged (suc n) answers =
    ((rest : List VectorVerdict) × (answers ≡ under_direction Any rest) × IsMerged n rest) ⊎ IsSplit
    (IsMerged n) answers

-- the answers to all in which the first statement may come first: those with `<` in front, merged, and then those with
-- `=`; a vector of no loop where it stands before the second
abbrev pub IsListed : ℕ → ℕ → ℕ → List VectorVerdict → Type 0
IsListed first second zero answers =
    ((first < second) × IsMerged zero answers) ⊎ ((first < second → ⊥) × (answers ≡ []))
IsListed first second (suc n) answers =
    (less : List VectorVerdict) × (equal : List VectorVerdict)
    × (answers ≡ under_direction Lt less ++ under_direction Eq equal) × IsMerged n less
    × IsListed first second n equal
