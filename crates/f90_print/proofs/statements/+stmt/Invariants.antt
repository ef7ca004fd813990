-- The statements and arms so far are printed.
use Rattle.std.proofs.Common.{◌≡◌, ◌++◌, map, take}
use Rattle.std.specs.Prelude.{flat_map}
use Rattle.tree.specs.View.{statement_of, tested_of}
use Rattle.f90_print.specs.Texts.{statement_text, arm_text}
use Rattle.f90_print.proofs.statements.+stmt.Given as goal

abbrev pub invariant-print_block-loop-statement : goal.invariant-print_block-loop-statement
invariant-print_block-loop-statement l = l.out.items ≡ l.fn.out.items ++ flat_map statement_text (map statement_of (take l.statement-index l.statement-items))

abbrev pub invariant-print_arms-loop-arm : goal.invariant-print_arms-loop-arm
invariant-print_arms-loop-arm l = l.out.items ≡ l.fn.out.items ++ flat_map arm_text (map tested_of (take l.arm-index l.arms))
