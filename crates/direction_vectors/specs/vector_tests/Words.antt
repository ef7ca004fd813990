-- The words of answers: why a vector is dropped, and how an edge was tested.
use Rattle.std.specs.Prelude.{◌≡◌, ℕ, ℤ, ◌<◌, All, List, [], Some, slice_get}
use Rattle.subscripts.specs.Classes.{IsZiv, HasClass}
use Rattle.subscripts.specs.Forms.{HasNoPair, IsPairOf}
use Rattle.subscripts.specs.Partitions.{AreCoupled}
use Rattle.subscripts.specs.Refutations.{IsRefutedByGcd, IsOneSided}
use Rattle.subscripts.specs.declared.affine.Dirs.{Dirs}
use Rattle.subscripts.specs.declared.pairing.Class.{Class}
use Rattle.subscripts.specs.declared.pairing.Class.TheVariants as class
use Rattle.subscripts.specs.declared.pairing.Pairing.{Pairing}
use Rattle.subscripts.specs.declared.verdict.Test.{Test}
use Rattle.subscripts.specs.declared.verdict.Test.TheVariants.{Trip, Scalar, Ziv, Strong, WeakZero, Crossing, Siv}
use Rattle.subscripts.specs.declared.verdict.Test.TheVariants.{Delta, Gcd, Range, Miv, Unknown}
use Rattle.subscripts.specs.declared.verdict.Verdict.{Verdict}
use Rattle.subscripts.specs.declared.verdict.Verdict.TheVariants as verdict
use Rattle.direction_vectors.specs.vector_tests.Ways.{EachGrouped, HasNoTrip}
use Rattle.direction_vectors.specs.declared.vector_tests.refs.RefPair.{RefPair}

-- coupled with no other pair
abbrev pub IsSeparable : List Pairing → ℕ → Type 0
IsSeparable ps i = (j : ℕ) → AreCoupled ps i j → j ≡ i

-- a pair without a loop whose constants differ
pub record HasUnequalConstants (ps : List Pairing) : Type 0 where
  pub at : ℕ
  pub pairing : Pairing
  pub is_at : slice_get ps at ≡ Some pairing
  pub ziv : IsZiv pairing
  pub differ : pairing.from.constant ≡ pairing.to.constant → ⊥

-- neither a trip nor constants refute the vector
pub record IsLater (r : RefPair) (d : Dirs) : Type 0 where
  pub trips : HasNoTrip r d → ⊥
  pub constants : HasUnequalConstants r.subs → ⊥

-- a separable pair of this class of which this holds
pub record HasSeparable (ps : List Pairing) (c : Class) (P : Pairing → Type 0) : Type 0 where
  pub at : ℕ
  pub pairing : Pairing
  pub is_at : slice_get ps at ≡ Some pairing
  pub separable : IsSeparable ps at
  pub has_class : HasClass pairing c
  pub so : P pairing

-- a group of several pairs that have no pair of iterations together
pub record HasRefutedGroup (ps : List Pairing) (d : Dirs) : Type 0 where
  pub at : ℕ
  pub several : IsSeparable ps at → ⊥
  pub none : (x y : List ℤ) → EachGrouped ps at (λ p. IsPairOf p d x y) → ⊥

-- the words that a dropped vector may bear: each names a cause that by itself leaves no pair of iterations
abbrev pub IsDropWord : RefPair → Dirs → Test → Type 0
IsDropWord r d Trip = HasNoTrip r d
IsDropWord r d Ziv = (HasNoTrip r d → ⊥) × HasUnequalConstants r.subs
IsDropWord r d Strong = IsLater r d × HasSeparable r.subs class.Strong (λ p. HasNoPair p d)
IsDropWord r d WeakZero = IsLater r d × HasSeparable r.subs class.WeakZero (λ p. HasNoPair p d)
IsDropWord r d Crossing = IsLater r d × HasSeparable r.subs class.WeakCrossing (λ p. HasNoPair p d)
IsDropWord r d Siv = IsLater r d × HasSeparable r.subs class.GeneralSiv (λ p. HasNoPair p d)
IsDropWord r d Delta = IsLater r d × HasRefutedGroup r.subs d
IsDropWord r d Gcd = IsLater r d × HasSeparable r.subs class.Miv IsRefutedByGcd
IsDropWord r d Range =
    IsLater r d × HasSeparable r.subs class.Miv (λ p. IsOneSided p d × (IsRefutedByGcd p → ⊥))
IsDropWord r d Scalar = ⊥
IsDropWord r d Miv = ⊥
IsDropWord r d Unknown = ⊥

-- ---- edges

-- by the class
abbrev pub IsClassWord : Pairing → Test → Type 0
IsClassWord p Strong = HasClass p class.Strong
IsClassWord p WeakZero = HasClass p class.WeakZero
IsClassWord p Crossing = HasClass p class.WeakCrossing
IsClassWord p Siv = HasClass p class.GeneralSiv
IsClassWord p Miv = HasClass p class.Miv
IsClassWord p Unknown = HasClass p class.Unknown
IsClassWord p Trip = ⊥
IsClassWord p Scalar = ⊥
IsClassWord p Ziv = ⊥
IsClassWord p Delta = ⊥
IsClassWord p Gcd = ⊥
IsClassWord p Range = ⊥

-- the first pair that has a loop, or isn't linear
pub record IsFirstNotZiv (ps : List Pairing) (i : ℕ) (p : Pairing) : Type 0 where
  pub is_at : slice_get ps i ≡ Some p
  pub not_ziv : IsZiv p → ⊥
  pub earlier : (j : ℕ) (q : Pairing) → j < i → slice_get ps j ≡ Some q → IsZiv q

-- the word of an edge
pub record IsEdgeWord (ps : List Pairing) (w : Test) : Type 0 where
  pub scalar : ps ≡ [] → w ≡ Scalar
  pub ziv : (ps ≡ [] → ⊥) → All IsZiv ps → w ≡ Ziv
  pub separable : (i : ℕ) (p : Pairing) → IsFirstNotZiv ps i p → IsSeparable ps i → IsClassWord p w
  pub group : (i : ℕ) (p : Pairing) → IsFirstNotZiv ps i p → (IsSeparable ps i → ⊥) → w ≡ Delta

-- ---- verdicts

abbrev pub IfNever : Verdict → (Test → Type 0) → Type 0
IfNever (verdict.Never w) P = P w
IfNever (verdict.Pair x y w) P = Unit {0}
IfNever (verdict.Assumed w) P = Unit {0}

-- of the word of a vector that isn't dropped
abbrev pub IfKept : Verdict → (Test → Type 0) → Type 0
IfKept (verdict.Never w) P = Unit {0}
IfKept (verdict.Pair x y w) P = P w
IfKept (verdict.Assumed w) P = P w
