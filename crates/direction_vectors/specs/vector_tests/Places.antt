-- The parts of a test: the iterations of each loop by itself, and the members of a group.
use Rattle.std.specs.Prelude.{◌≡◌, ℕ, ◌<◌, ℤ, IsTrue, All, List, [], ◌∷◌, Some, cond, nat_eq, slice_get, slice_index_or}
use Rattle.subscripts.specs.Classes.{Loop, Shared, First, Second, HasOneLoop, IsMiv, span_of}
use Rattle.subscripts.specs.Forms.{HasNoPair, IsPairOf}
use Rattle.subscripts.specs.Iterations.{WithinSpan, IsRelated, once}
use Rattle.subscripts.specs.Refutations.{IsExact, IsRefutedByGcd, IsOneSided}
use Rattle.subscripts.specs.declared.affine.Dir.{Dir}
use Rattle.subscripts.specs.declared.affine.Dir.TheVariants.{Any}
use Rattle.subscripts.specs.declared.affine.Dirs.{Dirs}
use Rattle.subscripts.specs.declared.affine.Span.{Span}
use Rattle.subscripts.specs.declared.pairing.Pairing.{Pairing}
use Rattle.subscripts.specs.declared.verdict.Test.{Test}
use Rattle.subscripts.specs.declared.verdict.Test.TheVariants.{Trip, Scalar, Ziv, Strong, WeakZero, Crossing, Siv}
use Rattle.subscripts.specs.declared.verdict.Test.TheVariants.{Delta, Gcd, Range, Miv, Unknown}
use Rattle.dependence_tests.specs.declared.delta_test.constraint.Constraint.{Constraint}
use Rattle.dependence_tests.specs.delta_test.IterationsLeft.{IsLeastLeft}
use Rattle.dependence_tests.specs.loop_lines.line_points.Least.{IsAtMost}
use Rattle.dependence_tests.specs.loop_lines.OneLoop.{dir_of}
use Rattle.dependence_tests.specs.siv_tests.Words.{IsWordOf}
use Rattle.direction_vectors.specs.vector_tests.Ways.{AreEqualAt, EachGrouped, IsSolution}
use Rattle.direction_vectors.specs.vector_tests.Words.{IsSeparable}
use Rattle.direction_vectors.specs.declared.vector_tests.refs.RefPair.{RefPair}

-- ---- one loop's iterations

abbrev pub loop_span : RefPair → Loop → Span
loop_span r (Shared k) = slice_index_or r.from_spans k once
loop_span r (First k) = slice_index_or r.from_spans k once
loop_span r (Second k) = slice_index_or r.to_spans k once

-- a loop round both references, or in one of the seven places of either
abbrev pub IsPlaceOf : RefPair → Loop → Type 0
IsPlaceOf r (Shared k) = k < r.common
IsPlaceOf r (First k) = k < 7
IsPlaceOf r (Second k) = k < 7

-- both sides of each pair that has this one loop are equal
abbrev pub SolvesEach : List Pairing → Loop → ℤ → ℤ → Type 0
SolvesEach ps l i j = All (λ p. HasOneLoop p l → AreEqualAt p l i j) ps

pub record IsLoopSolution (r : RefPair) (d : Dirs) (l : Loop) (i j : ℤ) : Type 0 where
  pub first : WithinSpan (loop_span r l) i
  pub second : WithinSpan (loop_span r l) j
  pub related : IsRelated (dir_of d l) i j
  pub solves : SolvesEach r.subs l i j

pub record IsLeastSolution (r : RefPair) (d : Dirs) (l : Loop) (i j : ℤ) : Type 0 where
  pub solution : IsLoopSolution r d l i j
  pub least : (i' j' : ℤ) → IsLoopSolution r d l i' j' → IsAtMost i j i' j'

-- a loop in this place of either reference
abbrev pub IsLoopIn : ℕ → Loop → Type 0
IsLoopIn k (Shared m) = m ≡ k
IsLoopIn k (First m) = m ≡ k
IsLoopIn k (Second m) = m ≡ k

-- iterations of the loops in one place that the vector and the pairs of those loops allow
pub record IsAllowedAt (r : RefPair) (d : Dirs) (k : ℕ) (i j : ℤ) : Type 0 where
  pub first : WithinSpan (slice_index_or r.from_spans k once) i
  pub second : WithinSpan (slice_index_or r.to_spans k once) j
  pub related : IsRelated (slice_index_or d.at k Any) i j
  pub solves : (l : Loop) → IsLoopIn k l → SolvesEach r.subs l i j

pub record IsLeastAllowed (r : RefPair) (d : Dirs) (k : ℕ) (i j : ℤ) : Type 0 where
  pub allowed : IsAllowedAt r d k i j
  pub least : (i' j' : ℤ) → IsAllowedAt r d k i' j' → IsAtMost i j i' j'

-- iterations of the common loop in this place, one of either reference, that stand in this direction, and at which both
-- sides of each pair that has this one loop are equal
pub record HasSolution (r : RefPair) (k : ℕ) (e : Dir) : Type 0 where
  pub i : ℤ
  pub j : ℤ
  pub first : WithinSpan (slice_index_or r.from_spans k once) i
  pub second : WithinSpan (slice_index_or r.from_spans k once) j
  pub related : IsRelated e i j
  pub solves : SolvesEach r.subs (Shared k) i j

-- some in each direction
abbrev pub HasEachDirection : RefPair → ℕ → Type 0
HasEachDirection r k = (e : Dir) → (e ≡ Any → ⊥) → HasSolution r k e

-- a constraint leaves iterations up to the trip in this direction
abbrev pub LeavesSome : Constraint → ℤ → Dir → Type 0
LeavesSome left trip dir = (i : ℤ) × ((j : ℤ) × IsLeastLeft left trip dir i j)

-- ---- groups

-- the pairings whose numbers, which stand beside them, are this one
abbrev pub picked : ℕ → List ℕ → List Pairing → List Pairing
picked least ns [] = []
picked least [] (p ∷ ps) = []
picked least (n ∷ ns) (p ∷ ps) = cond (nat_eq n least) (p ∷ picked least ns ps) (picked least ns ps)

-- ---- what is left of the pairing or the group in one place

pub record IsLeft (p : Pairing) (d : Dirs) : Type 0 where
  pub gcd : IsRefutedByGcd p → ⊥
  pub range : IsOneSided p d → ⊥

-- a pair of one loop is refuted in no way: its loop has a solution, where the trip is a constant
pub record IsOneLeft (p : Pairing) (d : Dirs) : Type 0 where
  pub loop : (l : Loop) → HasOneLoop p l → IsTrue (span_of p l).fixed → (i : ℤ) × ((j : ℤ) × IsSolution p d l i j)
  pub ways : (IsExact p → ⊥) → IsLeft p d

abbrev pub IsSivLeft : List Pairing → Dirs → ℕ → Type 0
IsSivLeft ps d at =
    (p : Pairing) (l : Loop) → slice_get ps at ≡ Some p → IsSeparable ps at → HasOneLoop p l → IsOneLeft p d

-- a pair of one loop is refuted, and the word is that of its class
pub record IsOneRefuted (p : Pairing) (d : Dirs) (w : Test) : Type 0 where
  pub word : IsWordOf p w
  pub none : HasNoPair p d

-- a pair of several loops is refuted, and the word is that of the first test that does
abbrev pub IsMivWord : Pairing → Dirs → Test → Type 0
IsMivWord p d Gcd = IsRefutedByGcd p
IsMivWord p d Range = IsOneSided p d × (IsRefutedByGcd p → ⊥)
IsMivWord p d Trip = ⊥
IsMivWord p d Scalar = ⊥
IsMivWord p d Ziv = ⊥
IsMivWord p d Strong = ⊥
IsMivWord p d WeakZero = ⊥
IsMivWord p d Crossing = ⊥
IsMivWord p d Siv = ⊥
IsMivWord p d Delta = ⊥
IsMivWord p d Miv = ⊥
IsMivWord p d Unknown = ⊥

pub record IsSeveralRefuted (p : Pairing) (d : Dirs) (w : Test) : Type 0 where
  pub several : IsMiv p
  pub word : IsMivWord p d w
  pub none : HasNoPair p d

abbrev pub IsMivLeft : List Pairing → Dirs → ℕ → Type 0
IsMivLeft ps d at = (p : Pairing) → slice_get ps at ≡ Some p → IsSeparable ps at → IsMiv p → IsLeft p d

-- the separable pair in some place is refuted
pub record IsRefutedIn (ps : List Pairing) (P : Pairing → Type 0) : Type 0 where
  pub at : ℕ
  pub pairing : Pairing
  pub is_at : slice_get ps at ≡ Some pairing
  pub separable : IsSeparable ps at
  pub so : P pairing

-- all in the group have this one loop, whose trip is a constant
abbrev pub HasExactLoop : List Pairing → ℕ → Loop → Type 0
HasExactLoop ps at l = EachGrouped ps at (λ p. HasOneLoop p l × IsTrue (span_of p l).fixed)

-- a group of several is refuted in no way
pub record IsGroupLeft (ps : List Pairing) (d : Dirs) (at : ℕ) : Type 0 where
  pub loop :
      (l : Loop) → HasExactLoop ps at l → (i : ℤ) × ((j : ℤ) × EachGrouped ps at (λ p. IsSolution p d l i j))
  pub ways : ((l : Loop) → HasExactLoop ps at l → ⊥) → EachGrouped ps at (λ p. IsLeft p d)

-- no pair of iterations of all in the group
abbrev pub IsGroupRefuted : List Pairing → Dirs → ℕ → Type 0
IsGroupRefuted ps d at = (x y : List ℤ) → EachGrouped ps at (λ p. IsPairOf p d x y) → ⊥
