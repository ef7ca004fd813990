use Rattle.std.proofs.Common.{◌≡◌, ◌<◌, ℕ, length, sym, ap, ◌∙◌, subst, arith}
use Rattle.std.proofs.lemmas.List.{length_push}
use Rattle.components.specs.Classes.{AreMembers}
use Rattle.components.specs.Counts.{times_to}
use Rattle.components.specs.Labels.{at}
use Rattle.components.specs.Reachability.{AreBelow}
use Rattle.components.specs.Rest.{AreFilled, Nexts}
use Rattle.components.specs.Targets.{AreTargets}
use Rattle.components.proofs.Grouping.{below_between, class_rows}
use Rattle.components.proofs.Ordering.{IsUnderWay, are_filled, rest_begun, under_way_begun, under_way_ended, under_way_more}
use Rattle.components.proofs.classes.in_order.Goals as goal

pub pairs_between-requires : goal.pairs_between-requires
pairs_between-requires c = subst (λ z. AreBelow z c.args.pairs.now) (sym c.requires.labels.size) c.requires.pairs

pub new-requires-clause-labels : goal.new-requires-clause-labels
new-requires-clause-labels c = λ a h. c.requires.labels.below a (subst (λ z. a < z) c.requires.labels.size h)

pub new-requires-clause-between : goal.new-requires-clause-between
new-requires-clause-between c =
    subst (AreBelow c.args.count) (sym c.as_slice.ensures.value)
    (below_between c.args.n c.args.pairs.now c.args.count c.args.labels.now c.in_ok-between.between.items c.requires.pairs c.requires.labels c.in_ok-between.ensures)

pub counts_of-requires : goal.counts_of-requires
counts_of-requires c =
    subst (AreBelow c.args.count) (sym c.as_slice-2.ensures.value)
    (below_between c.args.n c.args.pairs.now c.args.count c.args.labels.now c.in_ok-between.between.items c.requires.pairs c.requires.labels c.in_ok-between.ensures)

pub new-requires-2 : goal.new-requires-2
new-requires-2 c =
    let members = subst (λ z. AreMembers z c.args.count c.args.labels.now c.in_ok-tables.tables.members.items) c.requires.labels.size c.in_ok-tables.ensures.members in
    subst (λ z. AreFilled z c.in_ok-tables.tables) (sym c.in_ok-counts.ensures.size)
    (are_filled c.args.n c.args.pairs.now c.args.count c.args.labels.now c.in_ok-tables.tables c.requires.labels members)

pub classes-init : goal.classes-init
classes-init c =
    let t = c.in_ok-tables.tables in
    let between = c.in_ok-between.between.items in
    let members = subst (λ z. AreMembers z c.args.count c.args.labels.now t.members.items) c.requires.labels.size c.in_ok-tables.ensures.members in
    let onward = subst (λ z. AreTargets c.args.count z t.onward.items) c.as_slice.ensures.value c.in_ok-tables.ensures.onward in
    let each = subst (λ z. (k : ℕ) → at c.in_ok-counts.counts.items k ≡ times_to k z) c.as_slice-2.ensures.value c.in_ok-counts.ensures.each in
    subst (IsUnderWay c.args.n c.args.count c.args.labels.now t c.in_ok-rest.rest) (sym c.new-classes.ensures)
    (under_way_begun c.args.n c.args.count c.args.labels.now t c.in_ok-rest.rest
    (rest_begun c.args.n c.args.pairs.now c.args.count c.args.labels.now between t c.in_ok-counts.counts.items c.in_ok-rest.rest
    c.requires.labels members onward c.in_ok-counts.ensures.size each c.in_ok-rest.ensures.counts c.in_ok-rest.ensures.ready))

pub next_class-requires : goal.next_class-requires
next_class-requires c = let way = c.classes.invariant in (c.args.n, c.args.count, way.done, way.is)

pub classes-smaller : goal.classes-smaller
classes-smaller c =
    let more = under_way_more c.args.n c.args.count c.args.labels.now c.in_ok-tables.tables c.classes.rest c.classes.classes c.classes.invariant c.next_class.new.self c.in-Some.class
    (subst (Nexts c.args.labels.now c.in_ok-tables.tables c.classes.rest c.next_class.new.self) c.in-Some.is c.in_ok-next.ensures) in
    let below = more.1 in
    let longer = ap length c.in_ok-push.ensures.ok ∙ length_push c.classes.classes c.in-Some.class in
    omega arith

pub classes-preserved : goal.classes-preserved
classes-preserved c =
    let more = under_way_more c.args.n c.args.count c.args.labels.now c.in_ok-tables.tables c.classes.rest c.classes.classes c.classes.invariant c.next_class.new.self c.in-Some.class
    (subst (Nexts c.args.labels.now c.in_ok-tables.tables c.classes.rest c.next_class.new.self) c.in-Some.is c.in_ok-next.ensures) in
    subst (IsUnderWay c.args.n c.args.count c.args.labels.now c.in_ok-tables.tables c.next_class.new.self) (sym c.in_ok-push.ensures.ok) more.0

pub returns-in_default : goal.returns-in_default
returns-in_default c =
    let t = c.in_ok-tables.tables in
    let onward = subst (λ z. AreTargets c.args.count z t.onward.items) c.as_slice.ensures.value c.in_ok-tables.ensures.onward in
    under_way_ended c.args.n c.args.count c.args.labels.now t c.classes.rest c.classes.classes c.classes.invariant c.next_class.new.self
    c.args.pairs.now c.requires.pairs c.requires.labels
    (class_rows c.args.pairs.now c.args.count c.args.labels.now c.in_ok-between.between.items t.onward.items c.in_ok-between.ensures onward)
    (subst (Nexts c.args.labels.now t c.classes.rest c.next_class.new.self) c.in_default.is c.in_ok-next.ensures)
