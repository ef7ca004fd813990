-- Boxes: vectors with `*` in places that the answer doesn't hang on.
use Rattle.std.specs.Prelude.{◌≡◌, ◌⊎◌, ℕ, ◌<◌, ◌≤◌, pos, All, IsTrue, slice_index_or}
use Rattle.dependence_tests.specs.loop_lines.OneLoop.{HasNoneAt}
use Rattle.subscripts.specs.Iterations.{once}
use Rattle.subscripts.specs.declared.affine.Dir.TheVariants.{Any}
use Rattle.subscripts.specs.declared.affine.Dirs.{Dirs}
use Rattle.subscripts.specs.declared.verdict.Test.{Test}
use Rattle.subscripts.specs.declared.verdict.Test.TheVariants.{Trip}
use Rattle.subscripts.specs.declared.verdict.Verdict.{Verdict}
use Rattle.subscripts.specs.declared.verdict.Verdict.TheVariants.{Never}
use Rattle.direction_vectors.specs.vector_tests.Pairs.{NeverMeet}
use Rattle.direction_vectors.specs.vector_tests.Places.{HasEachDirection}
use Rattle.direction_vectors.specs.vector_tests.Refs.{IsVectorOf}
use Rattle.direction_vectors.specs.vector_tests.Ways.{EndsBefore, HasNoTrip, IsExactClass}
use Rattle.direction_vectors.specs.vector_tests.Words.{IfKept, IsDropWord}
use Rattle.direction_vectors.specs.declared.vector_tests.refs.RefPair.{RefPair}
use Rattle.direction_vectors.specs.Candidates.{Covers, dir_at}

-- the loop has two iterations, so that each direction has some
abbrev pub HasRoom : RefPair → ℕ → Type 0
HasRoom r m = EndsBefore (pos 2) (slice_index_or r.from_spans m once) → ⊥

-- no linear subscript pair has a coefficient in the place
abbrev pub IsUnnamed : RefPair → ℕ → Type 0
IsUnnamed r m = All (λ p. IsTrue p.known → HasNoneAt p m) r.subs

-- where a box is kept, its answer doesn't hang on the place
abbrev pub IsFree : RefPair → ℕ → Type 0
IsFree r m = IsUnnamed r m ⊎ (IsExactClass r × HasEachDirection r m)

-- what holds of each place with `*`
abbrev pub InStarred : RefPair → Dirs → (ℕ → Type 0) → Type 0
InStarred r d P = (m : ℕ) → m < r.common → dir_at d m ≡ Any → P m

-- a vector whose places with `*` the answer doesn't hang on: each direction has iterations there, unless some loop has
-- none whatever the directions there; and where it isn't dropped, no subscript pair has a coefficient there, or in the
-- exact class each direction has a solution
pub record IsBox (r : RefPair) (d : Dirs) (v : Verdict) : Type 0 where
  pub vector : IsVectorOf r d
  pub trips : HasNoTrip r d ⊎ InStarred r d (HasRoom r)
  pub free : IfKept v (λ w. InStarred r d (IsFree r))

-- a box in a box, or a vector in one
pub record IsInBox (r : RefPair) (d u : Dirs) : Type 0 where
  pub vector : IsVectorOf r u
  pub covers : Covers r d u

-- a box with `*` from place k on, in whose earlier places with `*` each direction has iterations
pub record IsOpenBox (r : RefPair) (d : Dirs) (k : ℕ) : Type 0 where
  pub vector : IsVectorOf r d
  pub within : k ≤ r.common
  pub starred : (m : ℕ) → k ≤ m → dir_at d m ≡ Any
  pub rooms : (m : ℕ) → m < k → dir_at d m ≡ Any → HasRoom r m

-- the places with `*` before place k are free
abbrev pub IsFreeBefore : RefPair → Dirs → ℕ → Type 0
IsFreeBefore r d k = (m : ℕ) → m < k → dir_at d m ≡ Any → IsFree r m

-- the references never meet in the box, and the word is one that it may bear, unless a loop has no iteration
pub record IsDroppedBox (r : RefPair) (d : Dirs) (w : Test) : Type 0 where
  pub never : NeverMeet r d
  pub word : (HasNoTrip r d → ⊥) → IsDropWord r d w

abbrev pub IsTripless : Verdict → Type 0
IsTripless v = v ≡ Never Trip

-- what holds of the places from the first number on, before the second
abbrev pub InSkipped : ℕ → ℕ → (ℕ → Type 0) → Type 0
InSkipped k n P = (m : ℕ) → k ≤ m → m < n → P m
