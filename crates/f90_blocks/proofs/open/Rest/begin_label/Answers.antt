use Rattle.std.proofs.Common.{◌≡◌, true, arith, rules}
use Rattle.std.proofs.lemmas.Grind.{common_steps}
use Rattle.std.specs.BTreeSet.{contains}
use Rattle.std.specs.Ordering.{nat_cmp}
use Rattle.f90_blocks.specs.Rests.{block_seen, opens_seen}
use Rattle.f90_blocks.proofs.RestLaws.{label_shows}
use Rattle.f90_blocks.proofs.open.Rest.begin_label.Goals as goal

pub returns : goal.returns
returns c =
    let named : contains nat_cmp c.args.targets.now c.in-Some.number ≡ true =
    first_of (search rules, cc, grind (arith, common_steps)) in
    label_shows (λ n. contains nat_cmp c.args.targets.now n) c.args.label c.in-Some.number
    (block_seen c.args.self.stmts.items) (opens_seen c.args.self.opened.items) c.precede.result c.in-Some.is named
    c.precede.ensures
