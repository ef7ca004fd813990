-- The words of answers: why a vector is dropped, and how an edge was tested.
use Rattle.std.specs.Prelude.{◌≡◌, ℕ, ◌<◌, ℤ, All, Option, Some, List, [], slice_get}
use Rattle.subscripts.specs.declared.affine.Dir.{Dir}
use Rattle.subscripts.specs.declared.verdict.Test.{Test}
use Rattle.subscripts.specs.declared.verdict.Test.TheVariants.{Trip, Scalar, Ziv, Strong, WeakZero, Crossing, Siv}
use Rattle.subscripts.specs.declared.verdict.Test.TheVariants.{Delta, Gcd, Range, Miv, Unknown}
use Rattle.dependence_graph.specs.nest_graph.Indices.{EachGrouped, HasClass, IsPairAt, IsSeparable, SubscriptPair}
use Rattle.dependence_graph.specs.nest_graph.Indices.{subscript_pairs}
use Rattle.dependence_graph.specs.nest_graph.Refuted.{AreEqual, AreNeverEqual, HasNoTrip, IsInVector, IsOneSided}
use Rattle.dependence_graph.specs.nest_graph.Refuted.{IsRefutedByGcd}
use Rattle.dependence_graph.specs.nest_graph.Tested.{Both}

-- a separable pair of this class of which this holds
pub record HasSeparable (b : Both) (w : Test) (P : SubscriptPair → Type 0) : Type 0 where
  pub at : ℕ
  pub pair : SubscriptPair
  pub is_at : IsPairAt b at pair
  pub separable : IsSeparable b at
  pub has_class : HasClass b (Some pair) w
  pub so : P pair

-- a group of several pairs whose sides are nowhere equal together
pub record HasRefutedGroup (b : Both) (v : List Dir) : Type 0 where
  pub at : ℕ
  pub several : IsSeparable b at → ⊥
  pub none : (x y : List ℤ) → IsInVector b v x y → EachGrouped b at (λ p. AreEqual b p x y) → ⊥

-- what by itself leaves no pair of iterations
abbrev pub IsCause : Both → List Dir → Test → Type 0
IsCause b v Trip = HasNoTrip b v
IsCause b v Ziv = HasSeparable b Ziv (λ p. p.first.constant ≡ p.second.constant → ⊥)
IsCause b v Strong = HasSeparable b Strong (AreNeverEqual b v)
IsCause b v WeakZero = HasSeparable b WeakZero (AreNeverEqual b v)
IsCause b v Crossing = HasSeparable b Crossing (AreNeverEqual b v)
IsCause b v Siv = HasSeparable b Siv (AreNeverEqual b v)
IsCause b v Delta = HasRefutedGroup b v
IsCause b v Gcd = HasSeparable b Miv (IsRefutedByGcd b)
IsCause b v Range = HasSeparable b Miv (λ p. IsOneSided b v p × (IsRefutedByGcd b p → ⊥))
IsCause b v Scalar = ⊥
IsCause b v Miv = ⊥
IsCause b v Unknown = ⊥

-- the words that a dropped vector may bear: a cause, of which trips come first, and then constants
pub record IsDropWord (b : Both) (v : List Dir) (w : Test) : Type 0 where
  pub cause : IsCause b v w
  pub trips : (w ≡ Trip → ⊥) → IsCause b v Trip → ⊥
  pub constants : (w ≡ Trip → ⊥) → (w ≡ Ziv → ⊥) → IsCause b v Ziv → ⊥

-- the first pair that has an index variable, or isn't linear
pub record IsFirstNotZiv (b : Both) (k : ℕ) (o : Option SubscriptPair) : Type 0 where
  pub is_at : slice_get (subscript_pairs b) k ≡ Some o
  pub not_ziv : HasClass b o Ziv → ⊥
  pub earlier : (m : ℕ) (q : Option SubscriptPair) → m < k → slice_get (subscript_pairs b) m ≡ Some q → HasClass b q Ziv

-- the word of an edge: that of the first such pair's class, DELTA where it isn't separable
pub record IsEdgeWord (b : Both) (w : Test) : Type 0 where
  pub scalar : subscript_pairs b ≡ [] → w ≡ Scalar
  pub ziv : (subscript_pairs b ≡ [] → ⊥) → All (λ o. HasClass b o Ziv) (subscript_pairs b) → w ≡ Ziv
  pub separable : (k : ℕ) (o : Option SubscriptPair) → IsFirstNotZiv b k o → IsSeparable b k → HasClass b o w
  pub group : (k : ℕ) (o : Option SubscriptPair) → IsFirstNotZiv b k o → (IsSeparable b k → ⊥) → w ≡ Delta
