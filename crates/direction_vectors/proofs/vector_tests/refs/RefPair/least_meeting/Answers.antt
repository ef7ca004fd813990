use Rattle.std.proofs.Common.{rules, ◌≡◌, ◌+◌, ◌≢◌, ℕ, ◌<◌, List, length, get_or, set, inl, inr, arith, subst, sym, get_or-set_same, get_or-set_other, length-set}
use Rattle.std.specs.Prelude.{ℤ, pos, FitsSigned}
use Rattle.std.proofs.lemmas.Bool.{cases_eq}
use Rattle.std.proofs.lemmas.Int.{to_z-of_z}
use mir.Syntax.{w64}
use Rattle.subscripts.specs.declared.affine.Dirs.{Dirs}
use Rattle.direction_vectors.proofs.vector_tests.LeastMeetings.{least_of_places}
use Rattle.direction_vectors.specs.vector_tests.Places.{IsLeastAllowed}
use Rattle.direction_vectors.specs.declared.vector_tests.refs.RefPair.{RefPair}
use Rattle.direction_vectors.proofs.vector_tests.refs.RefPair.least_meeting.Goals as goal

-- one place more
one_place : (r : RefPair) (d : Dirs) (x y : List ℤ) (n : ℕ) (i j : ℤ) (k : ℕ) → n < length x → n < length y → ((m : ℕ) → m < n → IsLeastAllowed r d m (get_or x m (pos 0)) (get_or y m (pos 0))) → IsLeastAllowed r d n i j → k < n + 1
    → IsLeastAllowed r d k (get_or (set x n i) k (pos 0)) (get_or (set y n j) k (pos 0))
one_place r d x y n i j k a b h l e =
    elim (cases_eq k n) [
      | inl s ↦ subst (λ (m : ℕ). IsLeastAllowed r d m (get_or (set x n i) m (pos 0)) (get_or (set y n j) m (pos 0))) (sym s)
          (subst (λ (z : ℤ). IsLeastAllowed r d n z (get_or (set y n j) n (pos 0))) (sym (get_or-set_same x n i (pos 0) a))
          (subst (λ (z : ℤ). IsLeastAllowed r d n i z) (sym (get_or-set_same y n j (pos 0) b)) l))
      | inr u ↦ subst (λ (z : ℤ). IsLeastAllowed r d k z (get_or (set y n j) k (pos 0))) (sym (get_or-set_other x n k i (pos 0) u))
          (subst (λ (z : ℤ). IsLeastAllowed r d k (get_or x k (pos 0)) z) (sym (get_or-set_other y n k j (pos 0) u)) (h k (omega arith)))
    ]

pub loop-place-preserved : goal.loop-place-preserved
loop-place-preserved c =
    let fi : FitsSigned w64 c.least_at-i.result.0 = search rules in
    let fj : FitsSigned w64 c.least_at-i.result.1 = search rules in
    simp to_z-of_z (record {
      least = λ k b. one_place c.args.self.now c.args.d.now c.loop-place.first.at c.loop-place.second.at c.loop-place.place c.least_at-i.result.0 c.least_at-i.result.1 k (omega arith) (omega arith) c.loop-place.invariant.least c.least_at-i.ensures b;
      first = simp length-set c.loop-place.invariant.first;
      second = simp length-set c.loop-place.invariant.second;
    })

pub returns : goal.returns
returns c =
    least_of_places c.args.self.now c.args.d.now c.loop-place.first.at c.loop-place.second.at c.requires.refs c.requires.vector c.requires.exact c.requires.left c.loop-place.invariant.first c.loop-place.invariant.second
    (λ k b. c.loop-place.invariant.least k (omega arith))
