use Rattle.std.proofs.Common.{◌≡◌, ◌<◌, ◌∙◌, sym, ap, subst, arith}
use Rattle.std.specs.Prelude.{IfOk}
use Rattle.dependence_graph.specs.nest_graph.Graph.{IsGraphOf}
use Rattle.dependence_graph.specs.nest_graph.Ready.{IsReady}
use Rattle.nest.specs.Plain as plain
use Rattle.nest.specs.View.{nest_of}
use Rattle.nest.specs.declared.nests.Nest.{Nest}
use Rattle.listing.proofs.programs.Sources.{ready_before, ready_split, split_of}
use Rattle.listing.specs.programs.Stages.{IsSplitBy, with_copies_before}
use Rattle.listing.specs.programs.Testable.{MayBeSplitReady}
use Rattle.listing.proofs.programs.nests.split_nest.Goals as goal
use Rattle.tree.specs.declared.width.Width.TheVariants.{Wide}

pub with_graph-requires : goal.with_graph-requires
with_graph-requires c =
    let counts = c.args.counts in
    let made = c.in_ok-made.made in
    let box = c.in_ok-nest.nest.value in
    let small : c.deref-before.result.now.masks < 4294967296 = omega arith in
    let is : nest_of box ≡ with_copies_before counts.copies (nest_of made)
    = ap nest_of c.in_ok-nest.ensures.ok ∙ c.counted_from.ensures in
    let few : box.masks < 4294967296 = subst (λ (n : Nest). n.masks < 4294967296) c.deref-before.ensures small in
    subst IsReady (sym is)
    (ready_before Wide counts (nest_of c.args.normal.now) (nest_of made) c.requires c.in_ok-made.ensures
    (subst (λ (n : plain.Nest). n.masks < 4294967296) is few))

pub split-requires-clause-graph : goal.split-requires-clause-graph
split-requires-clause-graph c =
    let whole = c.in_ok-whole in
    subst (λ (n : plain.Nest). IsGraphOf n whole.whole.graph) (sym whole.ensures.nest) whole.ensures.graph

pub split-requires-clause-split : goal.split-requires-clause-split
split-requires-clause-split c =
    let counts = c.args.counts in
    let made = c.in_ok-made.made in
    let box = c.in_ok-nest.nest.value in
    let small : c.deref-before.result.now.masks < 4294967296 = omega arith in
    let is : nest_of box ≡ with_copies_before counts.copies (nest_of made)
    = ap nest_of c.in_ok-nest.ensures.ok ∙ c.counted_from.ensures in
    let few : box.masks < 4294967296 = subst (λ (n : Nest). n.masks < 4294967296) c.deref-before.ensures small in
    subst MayBeSplitReady (sym (c.in_ok-whole.ensures.nest ∙ is))
    (ready_split Wide counts (nest_of c.args.normal.now) (nest_of made) c.requires c.in_ok-made.ensures
    (subst (λ (n : plain.Nest). n.masks < 4294967296) is few))

pub returns : goal.returns
returns c =
    let counts = c.args.counts in
    let made = c.in_ok-made.made in
    let whole = c.in_ok-whole.whole in
    let is : nest_of c.in_ok-nest.nest.value ≡ with_copies_before counts.copies (nest_of made)
    = ap nest_of c.in_ok-nest.ensures.ok ∙ c.counted_from.ensures in
    let all : nest_of whole.nest.value ≡ with_copies_before counts.copies (nest_of made) = c.in_ok-whole.ensures.nest ∙ is in
    split_of counts (nest_of c.args.normal.now) (nest_of made) whole.graph c.split.result c.in_ok-made.ensures
    (subst (λ (n : plain.Nest). IsGraphOf n whole.graph) is c.in_ok-whole.ensures.graph)
    (subst (λ (n : plain.Nest). IfOk c.split.result (λ a. IsSplitBy n whole.graph (nest_of a.nest.value) a.graph)) all
    c.split.ensures)
