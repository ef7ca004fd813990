use Rattle.std.proofs.Common.{◌≡◌, ℕ, take, map, refl, subst}
use Rattle.subscripts.specs.Cuts.{cut}
use Rattle.subscripts.specs.Groups.{IsExactGroup, IsLeastPairOfAll, group_dirs}
use Rattle.dependence_tests.specs.loop_lines.Places.{loop_at}
use Rattle.dependence_tests.specs.delta_test.Groups.{AreNotRefuted}
use Rattle.dependence_tests.proofs.delta_test.group.test_group.Goals as goal

pub returns-in-Some-least_pair_of_all-clause-pair : goal.returns-in-Some-least_pair_of_all-clause-pair
returns-in-Some-least_pair_of_all-clause-pair c =
    let e : c.from.result ≡ c.args.g.now.count = c.from.ensures in (
      subst (λ (n : ℕ). IsExactGroup (take n c.args.g.now.at)) e (record { loop = loop_at c.in-Some.at; each = λ k q h. (c.in-Some.ensures.one k q h, c.in-Some.ensures.fixed k q h) }),
      subst (λ (n : ℕ). IsLeastPairOfAll (map cut (take n c.args.g.now.at)) (group_dirs (take n c.args.g.now.at) c.args.d.now) c.in-Some-least_pair_of_all.first.at c.in-Some-least_pair_of_all.second.at) e
          c.in-Some-least_pair_of_all.ensures,
    )

pub returns-clause-assumed : goal.returns-clause-assumed
returns-clause-assumed c =
    let e : c.from.result ≡ c.args.g.now.count = c.from.ensures in (
      subst (λ (n : ℕ). IsExactGroup (take n c.args.g.now.at) → ⊥) e c.in_default.ensures,
      subst (λ (n : ℕ). AreNotRefuted (take n c.args.g.now.at) c.args.d.now) e (c.if-one_is_refuted.ensures.complete refl),
    )
