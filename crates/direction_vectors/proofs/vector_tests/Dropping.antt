-- The last tests: either one refutes the vector, or none does.
use Rattle.std.proofs.Common.{ℕ, ◌<◌, List, length}
use Rattle.std.specs.Prelude.{MatchOption, Option, Some, None}
use Rattle.subscripts.specs.declared.affine.Dirs.{Dirs}
use Rattle.subscripts.specs.declared.verdict.Test.{Test}
use Rattle.direction_vectors.proofs.vector_tests.Causes.{several_never, several_word}
use Rattle.direction_vectors.proofs.vector_tests.Standing.{stands}
use Rattle.direction_vectors.specs.vector_tests.Pairs.{NeverMeet}
use Rattle.direction_vectors.specs.vector_tests.Places.{IsGroupLeft, IsMivLeft, IsRefutedIn, IsSeveralRefuted, IsSivLeft}
use Rattle.direction_vectors.specs.vector_tests.Refs.{IsRefPair, IsVectorOf}
use Rattle.direction_vectors.specs.vector_tests.Ways.{IsRefutedVector}
use Rattle.direction_vectors.specs.vector_tests.Words.{IsDropWord, IsLater, IsSeparable}
use Rattle.direction_vectors.specs.declared.vector_tests.refs.RefPair.{RefPair}

pub last_word : (r : RefPair) (d : Dirs) (o : Option Test) → IsRefPair r → IsVectorOf r d → IsLater r d
    → ((k : ℕ) → k < length r.subs → IsSivLeft r.subs d k) → ((k : ℕ) → k < length r.subs → (IsSeparable r.subs k → ⊥) → IsGroupLeft r.subs d k)
    → MatchOption o ((k : ℕ) → k < length r.subs → IsMivLeft r.subs d k) (λ w. IsRefutedIn r.subs (λ p. IsSeveralRefuted p d w))
    → MatchOption o (IsRefutedVector r d → ⊥) (λ w. NeverMeet r d × IsDropWord r d w)
last_word r d None c v l s g h = stands r d c v (record { trips = l.trips; constants = l.constants; siv = s; groups = g; miv = h })
last_word r d (Some w) c v l s g h = (several_never r d w c v h, several_word r d w l h)
