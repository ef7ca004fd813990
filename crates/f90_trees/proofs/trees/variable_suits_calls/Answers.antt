use Rattle.std.proofs.Common.{◌≡◌, true, false, rules}
use Rattle.f90_expressions.specs.Views.{node_seen}
use Rattle.f90_trees.specs.Trees.{is_list}
use Rattle.f90_trees.proofs.TreeLaws.{listed_at, other_at}
use Rattle.f90_trees.proofs.trees.variable_suits_calls.Goals as goal

pub returns-then-not-is_list : goal.returns-then-not-is_list
returns-then-not-is_list c p m =
    let t : is_list (node_seen c.in-Some.last.now) ≡ false = first_of (cc, search rules) in
    other_at c.as_slice.result.now c.args.variable.now c.args.functions.now p c.in-Some.parts.now c.in-Some.last.now c.as_slice.ensures c.in-Some.ensures.cases.0 t m

pub returns : goal.returns
returns c p m =
    let t : is_list (node_seen c.in-Some.last.now) ≡ true = first_of (cc, search rules) in
    listed_at c.as_slice.result.now c.suit.result c.args.variable.now c.args.functions.now p c.in-Some.parts.now c.in-Some.last.now c.as_slice.ensures c.in-Some.ensures.cases.0 t
    c.suit.ensures m
