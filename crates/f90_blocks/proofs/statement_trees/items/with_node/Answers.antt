use Rattle.std.proofs.Common.{◌≡◌, [], ◌∷◌, ◌++◌, refl, subst, rules}
use Rattle.f90_statement.specs.items.Views.{IsNodeOf}
use Rattle.f90_statement.specs.declared.items.nodes.Node.{Node}
use Rattle.f90_trees.specs.Hiding.{function_in}
use Rattle.f90_blocks.proofs.StatementTrees.ListLaws.{value_made, text_made, list_ended, list_alone}
use Rattle.f90_blocks.proofs.StatementTrees.PartLaws.{if_ok}
use Rattle.f90_blocks.proofs.statement_trees.items.with_node.Goals as goal

pub returns-in_ok-tree-in-Value : goal.returns-in_ok-tree-in-Value
returns-in_ok-tree-in-Value c part n =
    if_ok _ _ c.with_item.result
    (λ made h. value_made (function_in c.args.functions.now) c.in-Value.expression c.in_ok-tree-in-Value.field-0
    c.args.inner _ made c.args.outer.now.items part
    (subst (λ (q : Node). IsNodeOf q part) c.in-Value.is n) c.in_ok-tree-in-Value.ensures c.inner.view_is h)
    c.with_item.ensures

pub returns-in_ok-copy_text-in-Text : goal.returns-in_ok-copy_text-in-Text
returns-in_ok-copy_text-in-Text c part n =
    if_ok _ _ c.with_item-in-Text.result
    (λ made h. text_made (function_in c.args.functions.now) c.in-Text.text c.in_ok-copy_text-in-Text.field-0
    c.args.inner _ made c.args.outer.now.items part
    (subst (λ (q : Node). IsNodeOf q part) c.in-Text.is n) c.in_ok-copy_text-in-Text.ensures c.inner-in-Text.view_is h)
    c.with_item-in-Text.ensures

pub returns-in-Some : goal.returns-in-Some
returns-in-Some c part n =
    let e : c.args.outer.now.items ≡ c.pop.new.self.items ++ c.in-Some.outside ∷ [] = search rules in
    if_ok _ _ c.with_item-in-Some.result
    (λ made h. list_ended (function_in c.args.functions.now) c.in-Turns.var c.in-Turns.bounds
    (c.in_ok-first-in-Turns.first, c.in_ok-first-in-Turns.last, c.in_ok-first-in-Turns.step) c.args.inner c.args.inner
    c.in-Some.outside made c.args.outer.now.items
    c.pop.new.self.items part (subst (λ
    (q : Node). IsNodeOf q part) c.in-Turns.is n) c.in_ok-first-in-Turns.ensures refl e h)
    c.with_item-in-Some.ensures

pub returns-in-None : goal.returns-in-None
returns-in-None c part n =
    let e : c.args.outer.now.items ≡ [] = search rules in
    let f : c.pop.new.self.items ≡ [] = search rules in
    if_ok _ _ c.with_item-in-None.result
    (λ made h. list_alone (function_in c.args.functions.now) c.in-Turns.var c.in-Turns.bounds
    (c.in_ok-first-in-Turns.first, c.in_ok-first-in-Turns.last, c.in_ok-first-in-Turns.step) c.args.inner c.args.inner
    c.new-in-None.result made c.args.outer.now.items
    c.pop.new.self.items part (subst (λ
    (q : Node). IsNodeOf q part) c.in-Turns.is n) c.in_ok-first-in-Turns.ensures refl e f c.new-in-None.ensures h)
    c.with_item-in-None.ensures
