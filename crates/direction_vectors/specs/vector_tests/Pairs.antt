-- Pairs of iterations of two references, over all their subscripts at once.
use Rattle.std.specs.Prelude.{◌≡◌, ℕ, ℤ, pos, ◌<◌, IsTrue, All, List, ◌++◌, length, slice_index_or}
use Rattle.subscripts.specs.Classes.{at_place}
use Rattle.subscripts.specs.Cuts.{IsNoLater}
use Rattle.subscripts.specs.Forms.{difference}
use Rattle.subscripts.specs.Iterations.{WithinSpan, IsRelated, once}
use Rattle.subscripts.specs.declared.affine.Dir.TheVariants.{Any}
use Rattle.subscripts.specs.declared.affine.Dirs.{Dirs}
use Rattle.subscripts.specs.declared.affine.Span.{Span}
use Rattle.direction_vectors.specs.declared.vector_tests.refs.RefPair.{RefPair}

-- an iteration of each loop with these spans, and 1 in each further one of seven places
pub record IsIteration (spans : List Span) (x : List ℤ) : Type 0 where
  pub places : length x ≡ 7
  pub within : (k : ℕ) → k < 7 → WithinSpan (slice_index_or spans k once) (at_place x k)

-- iterations of all loops round each reference, which stand in the common loops as the vector says
pub record IsInVector (r : RefPair) (d : Dirs) (x y : List ℤ) : Type 0 where
  pub first : IsIteration r.from_spans x
  pub second : IsIteration r.to_spans y
  pub related : (k : ℕ) → k < r.common → IsRelated (slice_index_or d.at k Any) (at_place x k) (at_place y k)

-- a pair of iterations at which the references meet: for some values of the symbols both sides of each subscript pair
-- are equal. A pair of which a side isn't linear says nothing.
pub record IsMeeting (r : RefPair) (d : Dirs) (x y : List ℤ) : Type 0 where
  pub within : IsInVector r d x y
  pub values : ℕ → ℤ
  pub equal : All (λ p. IsTrue p.known → difference p values x y ≡ pos 0) r.subs

abbrev pub NeverMeet : RefPair → Dirs → Type 0
NeverMeet r d = (x y : List ℤ) → IsMeeting r d x y → ⊥

-- the least of them, the first iteration before the second
pub record IsLeastMeeting (r : RefPair) (d : Dirs) (x y : List ℤ) : Type 0 where
  pub meeting : IsMeeting r d x y
  pub least : (x' y' : List ℤ) → IsMeeting r d x' y' → IsNoLater (x ++ y) (x' ++ y')
