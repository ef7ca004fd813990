-- The parts so far are printed.
use Rattle.std.proofs.Common.{◌≡◌, ◌++◌, map, take}
use Rattle.std.specs.Prelude.{flat_map}
use Rattle.tree.specs.View.{expression_of, subscript_of, loop_of}
use Rattle.f90_grammar.specs.PrintedText.{expression_text}
use Rattle.f90_print.specs.Texts.{subscript_text, after_comma, loop_end_text}
use Rattle.f90_print.proofs.expressions.+expr.Given as goal

abbrev pub invariant-print_list-loop-e : goal.invariant-print_list-loop-e
invariant-print_list-loop-e l = l.text.items ≡ l.initial.text.items ++ flat_map (after_comma expression_text) (map expression_of (take l.e-index l.rest))

abbrev pub invariant-print_subscripts-loop-sub : goal.invariant-print_subscripts-loop-sub
invariant-print_subscripts-loop-sub l = l.text.items ≡ l.initial.text.items ++ flat_map (after_comma subscript_text) (map subscript_of (take l.sub-index l.rest))

abbrev pub invariant-print_loops-loop-turn : goal.invariant-print_loops-loop-turn
invariant-print_loops-loop-turn l = l.text.items ≡ l.fn.text.items ++ flat_map loop_end_text (map loop_of (take l.turn-index l.loops))
