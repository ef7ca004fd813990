-- The items so far are printed.
use Rattle.std.proofs.Common.{◌≡◌, ◌++◌, map, take}
use Rattle.std.specs.Prelude.{flat_map}
use Rattle.tree.specs.View.{item_of}
use Rattle.f90_grammar.specs.PrintedForms.{item_phrase}
use Rattle.f90_grammar.specs.PrintedText.{item_text}
use Rattle.f90_print.specs.Texts.{after_comma}
use Rattle.f90_print.proofs.items.+item.Given as goal

abbrev pub invariant-print_items-loop-item : goal.invariant-print_items-loop-item
invariant-print_items-loop-item l = l.text.items ≡ l.initial.text.items ++ flat_map (after_comma (λ i. item_text (item_phrase i))) (map item_of (take l.item-index l.rest))
