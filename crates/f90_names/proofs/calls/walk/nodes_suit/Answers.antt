use Rattle.std.proofs.Common.{arith, ◌≡◌, ◌<◌, ◌≤◌, length, get_or, rules}
use Rattle.f90_statement.specs.items.Views.{IsNodeOf}
use Rattle.f90_statement.proofs.AnyLaws.{nodes_are}
use Rattle.f90_trees.specs.Hiding.{function_in}
use Rattle.f90_names.specs.calls.Calls.{NodeSuits}
use Rattle.f90_names.proofs.calls.CallLaws.{begun, passed, met, ended}
use Rattle.f90_names.proofs.calls.walk.nodes_suit.Goals as goal

pub loop-node-init : goal.loop-node-init
loop-node-init c all a =
    begun IsNodeOf (NodeSuits (function_in c.args.functions.now) c.args.direction) c.args.nodes.now all a

pub loop-node-preserved : goal.loop-node-preserved
loop-node-preserved c all a =
    let l : c.loop-node.node-index < length c.args.nodes.now = first_of (omega arith, search rules) in
    let g : get_or c.args.nodes.now c.loop-node.node-index c.node-item.result ≡ c.node-item.result
    = first_of (cc, search rules) in
    passed IsNodeOf (NodeSuits (function_in c.args.functions.now) c.args.direction) c.args.nodes.now
    c.loop-node.node-index c.node-item.result
    c.in_ok-node_suits.field-0 all l g c.if-not-branch.false c.in_ok-node_suits.ensures (c.loop-node.invariant all a)

pub returns-then-not-branch : goal.returns-then-not-branch
returns-then-not-branch c all a =
    let l : c.loop-node.node-index < length c.args.nodes.now = first_of (omega arith, search rules) in
    let g : get_or c.args.nodes.now c.loop-node.node-index c.node-item.result ≡ c.node-item.result
    = first_of (cc, search rules) in
    met IsNodeOf (NodeSuits (function_in c.args.functions.now) c.args.direction) c.args.nodes.now c.loop-node.node-index
    c.node-item.result
    c.in_ok-node_suits.field-0 all l g c.if-not-branch.true c.in_ok-node_suits.ensures
    (c.loop-node.invariant all (nodes_are c.args.nodes.now all a))

pub returns : goal.returns
returns c all a =
    let l : length c.args.nodes.now ≤ c.loop-node.node-index = first_of (omega arith, search rules) in
    ended IsNodeOf (NodeSuits (function_in c.args.functions.now) c.args.direction) c.args.nodes.now
    c.loop-node.node-index all l
    (c.loop-node.invariant all (nodes_are c.args.nodes.now all a))
