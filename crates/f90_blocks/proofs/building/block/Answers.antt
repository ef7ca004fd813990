use Rattle.std.proofs.Common.{rules, ◌∙◌, ap, refl}
use Rattle.std.specs.BTreeSet.{contains}
use Rattle.std.specs.List.{list_any}
use Rattle.std.specs.Ordering.{nat_cmp}
use Rattle.tree.specs.View.{block_of}
use Rattle.f90_blocks.specs.declared.nodes.Treed.{Treed}
use Rattle.f90_blocks.specs.Targets.{target_at, names}
use Rattle.f90_blocks.proofs.Walks.{begins, walks_on, walks_past, walks_end}
use Rattle.f90_blocks.proofs.building.block.Goals as goal

pub trees-init : goal.trees-init
trees-init c = begins c.args.trees c.into_vec-trees.result.items c.new-rest.result c.into_vec-trees.ensures
    c.new-rest.ensures

pub trees-preserved-in-Some-tree : goal.trees-preserved-in-Some-tree
trees-preserved-in-Some-tree c =
    walks_on c.args.trees c.trees.trees.items c.pop.new.self.items c.in-Some.treed c.trees.rest c.in_ok-rest.rest
    c.in-Some.treed.line c.in-Some-tree.tree
    (λ n. contains nat_cmp c.in_ok-targets.targets n) c.in-Some.ensures.items refl c.in-Some-tree.is
    (λ n. c.in_ok-targets.ensures n ∙ ap (list_any (λ (t : Treed). names (target_at t) n)) c.as_slice.ensures)
    c.in_ok-rest.ensures c.trees.invariant

pub trees-preserved : goal.trees-preserved
trees-preserved c =
    walks_past c.args.trees c.trees.trees.items c.pop.new.self.items c.in-Some.treed c.trees.rest
    c.in-Some.ensures.items c.in_default-tree.is c.trees.invariant

pub returns : goal.returns
returns c = walks_end c.args.trees c.trees.trees.items c.trees.rest (block_of c.finish.result) (search rules)
    c.finish.ensures c.trees.invariant
