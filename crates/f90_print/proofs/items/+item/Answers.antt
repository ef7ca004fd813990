use Rattle.std.proofs.Common.{◌≡◌, ◌∷◌, ap, ◌∙◌, arith, rules}
use Rattle.std.proofs.lemmas.Grind.{common_steps}
use Rattle.tree.specs.View.{item_of}
use Rattle.f90_grammar.specs.PrintedForms.{item_phrase}
use Rattle.f90_grammar.specs.PrintedText.{item_text}
use Rattle.f90_print.proofs.ItemTexts.{turns-text, items-parts}
use Rattle.f90_print.proofs.items.+item.Goals as goal

pub print_item-returns-in_ok-push_bounds-in-Turns : goal.print_item-returns-in_ok-push_bounds-in-Turns
print_item-returns-in_ok-push_bounds-in-Turns t c =
    let e =
    ap (λ x. item_text (item_phrase (item_of x))) c.in-Turns.is
    ∙ turns-text c.in-Turns.list c.in-Turns.var c.in-Turns.first c.in-Turns.last c.in-Turns.step in
    grind (arith, common_steps)

pub print_items-returns : goal.print_items-returns
print_items-returns t c =
    let there : c.in-Some.first.now ∷ c.in-Some.rest.now ≡ c.args.list.now = search rules in
    let e = items-parts c.in-Some.first.now c.in-Some.rest.now c.args.list.now there in grind (arith, common_steps)
