use Rattle.std.proofs.Common.{arith, suc, ◌≡◌, ◌-◌, ◌∙◌, false, List, ℕ, ap, sym, subst}
use Rattle.std.specs.Prelude.{reverse}
use Rattle.meaning.specs.Names.{is_among}
use Rattle.f90_statement.specs.items.Flat.{flat_items}
use Rattle.f90_statement.specs.items.Views.{AreNodesOf, direction_of}
use Rattle.f90_statement.specs.declared.items.nodes.Node.{Node}
use Rattle.f90_read.specs.surroundings.Lists.{scalar_in, walked}
use Rattle.f90_read.proofs.OfSurroundings.ListLaws.{none_walked, one_walked, told}
use Rattle.f90_read.proofs.surroundings.listing.Surroundings.misuses_list.Goals as goal

pub loop-i-init : goal.loop-i-init
loop-i-init c parts a =
    none_walked (scalar_in c.args.self.now.names.now) (is_among (reverse c.args.self.now.variables.now)) (direction_of c.args.direction) c.as_slice-nodes.result.now parts a
    ∙ ap (λ (xs : List (List ℕ)). walked false (reverse xs)) (sym c.new-lists.ensures.items)

pub loop-i-preserved : goal.loop-i-preserved
loop-i-preserved c parts a =
    one_walked (scalar_in c.args.self.now.names.now) (is_among (reverse c.args.self.now.variables.now)) (direction_of c.args.direction) c.as_slice-nodes.result.now parts
    c.loop-i.i (c.loop-i.i - 1) c.index-nodes-i.result (walked c.loop-i.wrong (reverse c.loop-i.lists.items))
    (walked c.in_ok-wrong.wrong (reverse c.with_node.new.lists.items)) a (omega arith) (omega arith) (sym c.index-nodes-i.is)
    (λ part h. c.in_ok-wrong.ensures part h) (c.loop-i.invariant parts a)

pub returns : goal.returns
returns c is m =
    told (scalar_in c.args.self.now.names.now) (is_among (reverse c.args.self.now.variables.now)) (direction_of c.args.direction) is c.loop-i.i c.loop-i.wrong
    (reverse c.loop-i.lists.items) c.loop-i-test.false
    (c.loop-i.invariant (flat_items is) (subst (λ (ns : List Node). AreNodesOf ns (flat_items is)) (sym c.as_slice-nodes.ensures) m.nodes))
