use Rattle.std.proofs.Common.{◌<◌, sym, ap, subst, arith, None, Some}
use Rattle.std.specs.Option.{option_map}
use Rattle.dependence_graph.specs.nest_graph.Ready.{IsReady}
use Rattle.nest.specs.View.{nest_of}
use Rattle.nest.specs.declared.nests.Nest.{Nest}
use Rattle.node_splitting.specs.Split.{IsSplitNest}
use Rattle.listing.proofs.programs.Sources.{split_none, split_some}
use Rattle.listing.proofs.programs.nests.split.Goals as goal

pub with_graph-requires : goal.with_graph-requires
with_graph-requires c =
    let made = c.in-Some.made in
    let box = c.in_ok-nest-in-Some.nest.value in
    let whole = c.args.whole in
    let same = ap (option_map nest_of) c.in-Some.is in
    let is = subst (λ (n : Nest). IsSplitNest (nest_of n) whole.graph (Some (nest_of made))) c.deref-before.ensures
    (subst (IsSplitNest (nest_of c.deref-before.result.now) whole.graph) same c.in_ok-made.ensures) in
    let small : c.deref-read.result.now.copies < 4294967296 = omega arith in
    let few = subst (λ (n : Nest). n.copies < 4294967296) c.deref-read.ensures small in
    subst (λ (n : Nest). IsReady (nest_of n)) (sym c.in_ok-nest-in-Some.ensures.ok)
    (c.requires.split is.may (nest_of made) (sym is.is)
    (subst (λ (n : Nest). n.copies < 4294967296) c.in_ok-nest-in-Some.ensures.ok few))

pub returns-in_ok-nest-in-Some : goal.returns-in_ok-nest-in-Some
returns-in_ok-nest-in-Some c =
    let made = c.in-Some.made in
    let whole = c.args.whole in
    let same = ap (option_map nest_of) c.in-Some.is in
    let is = subst (λ (n : Nest). IsSplitNest (nest_of n) whole.graph (Some (nest_of made))) c.deref-before.ensures
    (subst (IsSplitNest (nest_of c.deref-before.result.now) whole.graph) same c.in_ok-made.ensures) in
    split_some (nest_of whole.nest.value) (nest_of c.in_ok-nest-in-Some.nest.value) whole.graph c.with_graph.result
    (subst (λ (n : Nest). IsSplitNest (nest_of whole.nest.value) whole.graph (Some (nest_of n))) (sym c.in_ok-nest-in-Some.ensures.ok) is)
    c.with_graph.ensures.nest c.with_graph.ensures.graph

pub returns-in-None : goal.returns-in-None
returns-in-None c =
    let whole = c.args.whole in
    let same = ap (option_map nest_of) c.in-None.is in
    split_none (nest_of whole.nest.value) whole.graph c.requires.graph
    (subst (λ (n : Nest). IsSplitNest (nest_of n) whole.graph None) c.deref-before.ensures
    (subst (IsSplitNest (nest_of c.deref-before.result.now) whole.graph) same c.in_ok-made.ensures))
