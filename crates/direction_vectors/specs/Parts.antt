-- Parts of the answers: those under the first places of a vector.
use Rattle.std.specs.Prelude.{◌≡◌, ◌⊎◌, ℕ, ℤ, ◌<◌, ◌≤◌, ◌-◌, All, List}
use Rattle.subscripts.specs.declared.affine.Dir.TheVariants.{Eq}
use Rattle.subscripts.specs.declared.affine.Dirs.{Dirs}
use Rattle.subscripts.specs.declared.verdict.Point.{Point}
use Rattle.subscripts.specs.declared.verdict.Verdict.{Verdict}
use Rattle.subscripts.specs.declared.verdict.Verdict.TheVariants.{Never, Pair, Assumed}
use Rattle.direction_vectors.specs.vector_tests.Refs.{IsVectorOf}
use Rattle.direction_vectors.specs.declared.vector_tests.refs.RefPair.{RefPair}
use Rattle.direction_vectors.specs.Answers.{IsLeastOfThree, IsRight}
use Rattle.direction_vectors.specs.Candidates.{Allows, Answer, Covers, HoldsOnce, IsCandidate, IsPlain, dir_at}
use Rattle.direction_vectors.specs.Merged.{IsListed, IsMerged}

-- the first k places are the same
abbrev pub HasPrefix : Dirs → ℕ → Dirs → Type 0
HasPrefix d k v = (m : ℕ) → m < k → dir_at v m ≡ dir_at d m

-- in the first k places the vector is in the box
abbrev pub IsWithin : Dirs → ℕ → Dirs → Type 0
IsWithin d k v = (m : ℕ) → m < k → Allows (dir_at d m) (dir_at v m)

-- a plain vector
pub record IsPlainVector (r : RefPair) (v : Dirs) : Type 0 where
  pub vector : IsVectorOf r v
  pub plain : (m : ℕ) → m < r.common → IsPlain (dir_at v m)

-- an answer about vectors in the box, with the same first k places
pub record IsAnswerUnder (r : RefPair) (d : Dirs) (k : ℕ) (a : Answer) : Type 0 where
  pub vector : IsVectorOf r a.0
  pub prefix : HasPrefix d k a.0
  pub right : IsRight r a.0 a.1

-- the answers about all vectors in a box with `*` from place k on
pub record AreUnder (r : RefPair) (d : Dirs) (k : ℕ) (answers : List Answer) : Type 0 where
  pub each : All (IsAnswerUnder r d k) answers
  pub once : (v : Dirs) → IsPlainVector r v → IsWithin d k v → HoldsOnce (λ a. Covers r a.0 v) answers
  pub merged : IsMerged (r.common - k) k answers

-- `=` in the first k places
pub record IsEqualPrefix (r : RefPair) (d : Dirs) (k : ℕ) : Type 0 where
  pub vector : IsVectorOf r d
  pub within : k ≤ r.common
  pub equal : (m : ℕ) → m < k → dir_at d m ≡ Eq

-- an answer that covers candidates alone
pub record IsCandidateAnswer (r : RefPair) (d : Dirs) (k : ℕ) (a : Answer) : Type 0 where
  pub under : IsAnswerUnder r d k a
  pub candidates : (v : Dirs) → IsPlainVector r v → Covers r a.0 v → IsCandidate r v

-- the answers about all candidates with this prefix
pub record AreListedUnder (r : RefPair) (d : Dirs) (k : ℕ) (answers : List Answer) : Type 0 where
  pub each : All (IsCandidateAnswer r d k) answers
  pub once : (v : Dirs) → IsCandidate r v → HasPrefix d k v → HoldsOnce (λ a. Covers r a.0 v) answers
  pub listed : IsListed r.same_turn (r.common - k) k answers

-- the pair of iterations that is the least of those of three verdicts; else the first of these
pub record IsOneOfThree (x y x1 y1 x2 y2 x3 y3 : List ℤ) : Type 0 where
  pub one : ((x ≡ x1) × (y ≡ y1)) ⊎ (((x ≡ x2) × (y ≡ y2)) ⊎ ((x ≡ x3) × (y ≡ y3)))
  pub least : IsLeastOfThree x y x1 y1 x2 y2 x3 y3

abbrev pub IsUnited : Verdict → Verdict → Verdict → Verdict → Type 0
IsUnited (Never w) b c u = u ≡ Never w
IsUnited (Assumed w) b c u = u ≡ Assumed w
IsUnited (Pair x1 y1 w) (Never wb) c u = Unit {0}
IsUnited (Pair x1 y1 w) (Assumed wb) c u = Unit {0}
IsUnited (Pair x1 y1 w) (Pair x2 y2 wb) (Never wc) u = Unit {0}
IsUnited (Pair x1 y1 w) (Pair x2 y2 wb) (Assumed wc) u = Unit {0}
IsUnited (Pair x1 y1 w) (Pair x2 y2 wb) (Pair x3 y3 wc) u =
    (x : Point) × ((y : Point) × ((u ≡ Pair x y w) × IsOneOfThree x.at y.at x1.at y1.at x2.at y2.at x3.at y3.at))
