use Rattle.std.proofs.Common.{◌<◌, subst, arith}
use Rattle.nest.specs.View.{nest_of}
use Rattle.nest.specs.declared.nests.Nest.{Nest}
use Rattle.listing.proofs.programs.Sources.{may_be_listed_moved, may_be_listed_split, passed_as}
use Rattle.listing.specs.programs.Counted.{AreCounted}
use Rattle.listing.proofs.programs.nests.from_normal.Goals as goal
use Rattle.tree.specs.declared.width.Width.TheVariants.{Wide}

pub split_nest-requires : goal.split_nest-requires
split_nest-requires c =
    record { nest = nest_of c.args.found.now; source = c.requires.source; made = c.requires.made }

pub arranged-requires-clause-given : goal.arranged-requires-clause-given
arranged-requires-clause-given c =
    let r = c.in_ok-whole.whole in
    let box = r.nest.value in
    let masks : c.deref-before.result.now.masks < 4294967296 = omega arith in
    let copies : c.deref-before.result.now.copies < 4294967296 = omega arith in
    may_be_listed_split Wide c.args.counts (nest_of c.args.normal.now) (nest_of box) r.graph
    (record { nest = nest_of c.args.found.now; source = c.requires.source; made = c.requires.made })
    c.in_ok-whole.ensures (subst (λ (n : Nest). n.masks < 4294967296) c.deref-before.ensures masks)
    (subst (λ (n : Nest). n.copies < 4294967296) c.deref-before.ensures copies)

pub arranged-requires-clause-graph : goal.arranged-requires-clause-graph
arranged-requires-clause-graph c = c.in_ok-whole.ensures.is_split.graph

pub arranged-requires-clause-moved : goal.arranged-requires-clause-moved
arranged-requires-clause-moved c =
    let r = c.in_ok-whole.whole in
    let box = r.nest.value in
    let masks : c.deref-before.result.now.masks < 4294967296 = omega arith in
    let copies : c.deref-before.result.now.copies < 4294967296 = omega arith in
    may_be_listed_moved Wide c.args.counts (nest_of c.args.normal.now) (nest_of box) r.graph
    (record { nest = nest_of c.args.found.now; source = c.requires.source; made = c.requires.made })
    c.in_ok-whole.ensures (subst (λ (n : Nest). n.masks < 4294967296) c.deref-before.ensures masks)
    (subst (λ (n : Nest). n.copies < 4294967296) c.deref-before.ensures copies)

pub returns : goal.returns
returns c =
    let r = c.in_ok-whole.whole in
    let box = r.nest.value in
    let masks : c.deref-before.result.now.masks < 4294967296 = omega arith in
    let copies : c.deref-before.result.now.copies < 4294967296 = omega arith in
    passed_as c.args.counts (nest_of c.args.found.now) (nest_of c.args.normal.now) (nest_of box) r.graph
    c.in_ok-passed.passed c.requires.made c.in_ok-whole.ensures
    (subst (λ (n : Nest). n.masks < 4294967296) c.deref-before.ensures masks)
    (subst (λ (n : Nest). n.copies < 4294967296) c.deref-before.ensures copies) c.in_ok-passed.ensures
    (subst (λ (n : Nest). AreCounted (nest_of n)) c.deref-last.ensures c.in_ok-check_counts.ensures)
