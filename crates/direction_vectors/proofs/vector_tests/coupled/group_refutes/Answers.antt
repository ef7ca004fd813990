use Rattle.std.proofs.Common.{rules, ◌≡◌, ◌≤◌, ℕ, List, length, sym, subst, arith, ◌∙◌, inl, inr}
use Rattle.std.specs.Prelude.{All, slice_index}
use Rattle.std.proofs.lemmas.Bool.{both_ways, false≢true}
use Rattle.subscripts.specs.Forms.{IsPairOf}
use Rattle.subscripts.specs.Groups.{IsExactGroup}
use Rattle.subscripts.specs.Shapes.{AreDirsOf, members}
use Rattle.subscripts.specs.declared.pairing.Pairing.{Pairing}
use Rattle.dependence_tests.specs.delta_test.Members.{HasNoPairOfAll}
use Rattle.dependence_tests.specs.delta_test.Groups.{AreNotRefuted, IsLeastOfAll}
use Rattle.dependence_tests.specs.loop_lines.Verdicts.{IfPair, OnAssumed, OnNever}
use Rattle.direction_vectors.proofs.vector_tests.Groups.{AreKnown, IsNumbered, all_from, each_of_all, picked_group}
use Rattle.direction_vectors.proofs.vector_tests.GroupTests.{group_left}
use Rattle.direction_vectors.specs.vector_tests.Places.{picked}
use Rattle.direction_vectors.proofs.vector_tests.coupled.group_refutes.Goals as goal
use Rattle.direction_vectors.proofs.vector_tests.coupled.group_refutes.Goals.{then-from-place-via-then-from-place, then-from-place-via-else-from-place+then-is_separable}

pub returns-then-from-place-clause-complete : goal.returns-then-from-place-clause-complete
returns-then-from-place-clause-complete c =
    elim c.then-from-place.branch [
      | then-from-place-via-then-from-place w ↦ λ e n s. absurd (w.if-from-place.true (c.from.ensures ∙ n))
      | then-from-place-via-else-from-place+then-is_separable w ↦ λ e n s. absurd (s (w.is_separable.ensures.0 w.if-is_separable.true))
    ]

pub test_group-requires-clause-group : goal.test_group-requires-clause-group
test_group-requires-clause-group c =
    let n : IsNumbered c.args.ps.now c.args.groups.now.of c.args.place = record { partition = c.requires.groups; long = search rules; count = c.requires.count; within = c.requires.place } in
    let a : AreKnown c.args.ps.now c.args.d.now = record { pairings = c.requires.pairings; beside = c.requires.beside; dirs = c.requires.dirs; places = c.requires.places } in
    let few = c.requires.count in
    let counted = c.group_of.ensures.count in
    picked_group c.args.ps.now c.args.groups.now.of c.args.d.now c.args.place n a c.group_of.result c.group_of.ensures.members (omega arith)
    (λ s. both_ways c.is_separable.result c.if-is_separable.false (c.is_separable.ensures.1 s))

pub test_group-requires-clause-dirs : goal.test_group-requires-clause-dirs
test_group-requires-clause-dirs c =
    let n : IsNumbered c.args.ps.now c.args.groups.now.of c.args.place = record { partition = c.requires.groups; long = search rules; count = c.requires.count; within = c.requires.place } in
    subst (λ (ms : List Pairing). All (λ p. AreDirsOf p c.args.d.now) ms) (sym c.group_of.ensures.members)
    (all_from (λ p. AreDirsOf p c.args.d.now) c.args.ps.now c.args.groups.now.of c.args.place n (each_of_all (λ p. AreDirsOf p c.args.d.now) c.args.ps.now c.args.place c.requires.dirs))

pub returns-in-Never-clause-sound : goal.returns-in-Never-clause-sound
returns-in-Never-clause-sound c =
    let n : IsNumbered c.args.ps.now c.args.groups.now.of c.args.place = record { partition = c.requires.groups; long = search rules; count = c.requires.count; within = c.requires.place } in
    let never : HasNoPairOfAll (picked (slice_index c.args.groups.now.of c.args.place) c.args.groups.now.of c.args.ps.now) c.args.d.now =
    subst (λ (ms : List Pairing). HasNoPairOfAll ms c.args.d.now) c.group_of.ensures.members c.in-Never.ensures.never in
    λ t. record {
      at = c.args.place;
      several = λ s. both_ways c.is_separable.result c.if-is_separable.false (c.is_separable.ensures.1 s);
      none = λ x y each. never x y (all_from (λ p. IsPairOf p c.args.d.now x y) c.args.ps.now c.args.groups.now.of c.args.place n each);
    }

pub returns-in-Pair : goal.returns-in-Pair
returns-in-Pair c =
    let n : IsNumbered c.args.ps.now c.args.groups.now.of c.args.place = record { partition = c.requires.groups; long = search rules; count = c.requires.count; within = c.requires.place } in
    let a : AreKnown c.args.ps.now c.args.d.now = record { pairings = c.requires.pairings; beside = c.requires.beside; dirs = c.requires.dirs; places = c.requires.places } in
    record {
      sound = λ t. absurd (false≢true t);
      complete = λ e f s.
          group_left c.args.ps.now c.args.groups.now.of c.args.d.now c.args.place n a c.test_group.result
          (subst (λ (ms : List Pairing). IfPair c.test_group.result (λ x y. IsExactGroup ms × IsLeastOfAll ms c.args.d.now x.at y.at)) c.group_of.ensures.members c.test_group.ensures.pair)
          (subst (λ (ms : List Pairing). OnAssumed c.test_group.result ((IsExactGroup ms → ⊥) × AreNotRefuted ms c.args.d.now)) c.group_of.ensures.members c.test_group.ensures.assumed)
          (λ w q. elim c.in-Pair.is [ inl b ↦ cc | inr b ↦ cc ]);
    }
