-- When the tests are exact, and the ways in which they refute a vector (Goff, Kennedy and Tseng 1991).
use Rattle.std.specs.Prelude.{◌≡◌, ◌⊎◌, ℕ, ◌<◌, ℤ, pos, ◌+ℤ◌, ◌*ℤ◌, ◌<ℤ◌}
use Rattle.std.specs.Prelude.{IsTrue, IsSomeAnd, All, List, Some, slice_get, slice_index_or}
use Rattle.subscripts.specs.Classes.{Loop, IsZiv, HasOneLoop, first_of, second_of, span_of}
use Rattle.subscripts.specs.Iterations.{WithinSpan, IsRelated, once}
use Rattle.subscripts.specs.Partitions.{AreGrouped}
use Rattle.subscripts.specs.Refutations.{IsRefutedByGcd, IsOneSided}
use Rattle.subscripts.specs.declared.affine.Dir.{Dir}
use Rattle.subscripts.specs.declared.affine.Dir.TheVariants.{Lt, Eq, Gt, Any}
use Rattle.subscripts.specs.declared.affine.Dirs.{Dirs}
use Rattle.subscripts.specs.declared.affine.Span.{Span}
use Rattle.subscripts.specs.declared.pairing.Pairing.{Pairing}
use Rattle.dependence_tests.specs.loop_lines.OneLoop.{dir_of}
use Rattle.direction_vectors.specs.declared.vector_tests.refs.RefPair.{RefPair}

-- no loop, or one. Such pairs that are coupled have one and the same loop.
abbrev pub IsZivOrSiv : Pairing → Type 0
IsZivOrSiv p = IsZiv p ⊎ ((l : Loop) × HasOneLoop p l)

-- the class in which the tests are exact: no pair of several loops, nor one that isn't linear, and constant trips
pub record IsExactClass (r : RefPair) : Type 0 where
  pub subscripts : All IsZivOrSiv r.subs
  pub from_fixed : All (λ s. IsTrue s.fixed) r.from_spans
  pub to_fixed : All (λ s. IsTrue s.fixed) r.to_spans

-- ---- a loop without the iterations that a vector asks for

abbrev pub EndsBefore : ℤ → Span → Type 0
EndsBefore n s = IsSomeAnd s.last (λ last. last <ℤ n)

-- the two iterations differ
abbrev pub IsCarrying : Dir → Type 0
IsCarrying Lt = Unit {0}
IsCarrying Eq = ⊥
IsCarrying Gt = Unit {0}
IsCarrying Any = ⊥

abbrev pub LacksTripAt : RefPair → Dirs → ℕ → Type 0
LacksTripAt r d k =
    EndsBefore (pos 1) (slice_index_or r.from_spans k once)
    ⊎ (EndsBefore (pos 1) (slice_index_or r.to_spans k once)
    ⊎ (IsCarrying (slice_index_or d.at k Any) × EndsBefore (pos 2) (slice_index_or r.from_spans k once)))

-- a loop round a reference has no iteration, or one where two are asked for; places past the loops have one
abbrev pub HasNoTrip : RefPair → Dirs → Type 0
HasNoTrip r d = (k : ℕ) × ((k < 7) × LacksTripAt r d k)

-- ---- one loop

-- both sides of a pair of this one loop are equal at its iterations
abbrev pub AreEqualAt : Pairing → Loop → ℤ → ℤ → Type 0
AreEqualAt p l i j = first_of p l *ℤ i +ℤ p.from.constant ≡ second_of p l *ℤ j +ℤ p.to.constant

-- iterations of the loop, related as the vector says, at which both sides of the pair are equal
pub record IsSolution (p : Pairing) (d : Dirs) (l : Loop) (i j : ℤ) : Type 0 where
  pub first : WithinSpan (span_of p l) i
  pub second : WithinSpan (span_of p l) j
  pub related : IsRelated (dir_of d l) i j
  pub equal : AreEqualAt p l i j

-- what holds of each pairing in the group of the one at this place, which is a group of one where it is separable
abbrev pub EachGrouped : List Pairing → ℕ → (Pairing → Type 0) → Type 0
EachGrouped ps at P = (j : ℕ) (p : Pairing) → AreGrouped ps at j → slice_get ps j ≡ Some p → P p

-- a group of pairs of one and the same loop, whose trip is a constant, where no iterations of that loop solve all
pub record IsRefutedByOneLoop (r : RefPair) (d : Dirs) : Type 0 where
  pub at : ℕ
  pub some : (p : Pairing) × (slice_get r.subs at ≡ Some p)
  pub loop : Loop
  pub each : EachGrouped r.subs at (λ p. HasOneLoop p loop × IsTrue (span_of p loop).fixed)
  pub none : (i j : ℤ) → EachGrouped r.subs at (λ p. IsSolution p d loop i j) → ⊥

-- a linear pair that the GCD test refutes, or Banerjee's
pub record IsRefutedByPair (r : RefPair) (d : Dirs) : Type 0 where
  pub at : ℕ
  pub pairing : Pairing
  pub is_at : slice_get r.subs at ≡ Some pairing
  pub linear : IsTrue pairing.known
  pub refuted : IsRefutedByGcd pairing ⊎ IsOneSided pairing d

abbrev pub IsRefutedVector : RefPair → Dirs → Type 0
IsRefutedVector r d = HasNoTrip r d ⊎ (IsRefutedByPair r d ⊎ IsRefutedByOneLoop r d)
