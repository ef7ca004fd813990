use Rattle.std.proofs.Common.{arith, ◌≡◌, ◌<◌, ◌≤◌, length, get_or, sym, ◌∙◌, rules}
use Rattle.f90_statement.specs.items.Views.{IsNodeOf}
use Rattle.f90_statement.specs.Contents.{test_of, node_holds}
use Rattle.f90_statement.proofs.AnyLaws.{begun, passed, met, ended, nodes_are}
use Rattle.f90_statement.proofs.contents.Test.holds_of_nodes.Goals as goal

pub loop-node-init : goal.loop-node-init
loop-node-init c all a = begun IsNodeOf (node_holds (test_of c.args.self)) c.args.nodes.now all a

pub loop-node-preserved : goal.loop-node-preserved
loop-node-preserved c all a =
    let l : c.loop-node.node-index < length c.args.nodes.now = first_of (omega arith, search rules) in
    let g : get_or c.args.nodes.now c.loop-node.node-index c.node-item.result ≡ c.node-item.result = first_of (cc, search rules) in
    passed IsNodeOf (node_holds (test_of c.args.self)) c.args.nodes.now c.loop-node.node-index c.node-item.result all l g (λ p m. sym c.if-holds_of_node.false ∙ c.holds_of_node.ensures p m) (c.loop-node.invariant all a)

pub returns-then-holds_of_node : goal.returns-then-holds_of_node
returns-then-holds_of_node c all a =
    let l : c.loop-node.node-index < length c.args.nodes.now = first_of (omega arith, search rules) in
    let g : get_or c.args.nodes.now c.loop-node.node-index c.node-item.result ≡ c.node-item.result = first_of (cc, search rules) in
    met IsNodeOf (node_holds (test_of c.args.self)) c.args.nodes.now c.loop-node.node-index c.node-item.result all l g (λ p m. sym c.if-holds_of_node.true ∙ c.holds_of_node.ensures p m) (c.loop-node.invariant all (nodes_are c.args.nodes.now all a))

pub returns : goal.returns
returns c all a =
    let l : length c.args.nodes.now ≤ c.loop-node.node-index = first_of (omega arith, search rules) in
    ended IsNodeOf (node_holds (test_of c.args.self)) c.args.nodes.now c.loop-node.node-index all l (c.loop-node.invariant all (nodes_are c.args.nodes.now all a))
