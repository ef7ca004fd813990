use Rattle.std.proofs.Common.{◌<◌, arith}
use Rattle.std.specs.Prelude.{pos}
use Rattle.std.proofs.lemmas.List.Elements.{All-set}
use Rattle.subscripts.specs.Classes.{Shared, First, Second, at_place}
use Rattle.dependence_tests.specs.loop_lines.OneLoop.{first_at, second_at}
use Rattle.dependence_tests.specs.delta_test.Constraints.{Allows, IsConstraint}
use Rattle.dependence_tests.specs.delta_test.Kept.{constraint_on}
use Rattle.dependence_tests.proofs.delta_test.Holding.{kept_set}
use Rattle.dependence_tests.proofs.delta_test.constraints.Constraints.with.Goals as goal

pub returns-in-Shared-clause-kept : goal.returns-in-Shared-clause-kept
returns-in-Shared-clause-kept c x y k a l =
    let b = rw c.in-Shared.is at a in
    let p : c.in-Shared.place < 7 = rw c.in-Shared.is at c.requires.at in
    elim l as (λ m. Allows (constraint_on (record { shared = _; first = c.args.self.first; second = c.args.self.second }) m) (first_at m x) (second_at m y)) [
      | Shared m ↦ kept_set c.args.self.shared c.in-Shared.place c.args.constraint c.meet_of.result (at_place x) (at_place y) (omega arith) c.meet_of.ensures.meet (λ n. k (Shared n)) b m
      | First m ↦ k (First m)
      | Second m ↦ k (Second m)
    ]

pub returns-in-First-clause-kept : goal.returns-in-First-clause-kept
returns-in-First-clause-kept c x y k a l =
    let b = rw c.in-First.is at a in
    let p : c.in-First.place < 7 = rw c.in-First.is at c.requires.at in
    elim l as (λ m. Allows (constraint_on (record { shared = c.args.self.shared; first = _; second = c.args.self.second }) m) (first_at m x) (second_at m y)) [
      | Shared m ↦ k (Shared m)
      | First m ↦ kept_set c.args.self.first c.in-First.place c.args.constraint c.meet_of-in-First.result (at_place x) (λ n. pos 1) (omega arith) c.meet_of-in-First.ensures.meet (λ n. k (First n)) b m
      | Second m ↦ k (Second m)
    ]

pub returns-in-Second-clause-constraints : goal.returns-in-Second-clause-constraints
returns-in-Second-clause-constraints c = record {
  shared = c.requires.constraints.shared;
  first = c.requires.constraints.first;
  second = All-set IsConstraint c.args.self.second c.in-Second.place c.meet_of-in-Second.result c.meet_of-in-Second.ensures.constraint c.requires.constraints.second;
}

pub returns-in-Second-clause-kept : goal.returns-in-Second-clause-kept
returns-in-Second-clause-kept c x y k a l =
    let b = rw c.in-Second.is at a in
    let p : c.in-Second.place < 7 = rw c.in-Second.is at c.requires.at in
    elim l as (λ m. Allows (constraint_on (record { shared = c.args.self.shared; first = c.args.self.first; second = _ }) m) (first_at m x) (second_at m y)) [
      | Shared m ↦ k (Shared m)
      | First m ↦ k (First m)
      | Second m ↦ kept_set c.args.self.second c.in-Second.place c.args.constraint c.meet_of-in-Second.result (λ n. pos 1) (at_place y) (omega arith) c.meet_of-in-Second.ensures.meet (λ n. k (Second n)) b m
    ]
