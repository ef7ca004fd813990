use Rattle.std.proofs.Common.{◌≡◌, map, drop}
use Rattle.tree.specs.Plain.{subscripts, expressions}
use Rattle.tree.specs.View.{expression_of, subscript_of}
use Rattle.f77_grammar.specs.program.Kinds as kinds
use Rattle.f77_checks.specs.kinds.KnownUses.{known_uses}
use Rattle.f77_checks.proofs.kinds.kind_check.KindCheck.+kinds.Given as goal

abbrev pub invariant-are_arguments-loop-argument : goal.invariant-are_arguments-loop-argument
invariant-are_arguments-loop-argument l =
    kinds.are_arguments (known_uses l.self) (expressions (map expression_of l.argument-items))
    ≡ kinds.are_arguments (known_uses l.self) (expressions (map expression_of (drop l.argument-index l.argument-items)))

abbrev pub invariant-are_subscripts-loop-sub : goal.invariant-are_subscripts-loop-sub
invariant-are_subscripts-loop-sub l =
    kinds.are_subscripts (known_uses l.self) (subscripts (map subscript_of l.sub-items))
    ≡ kinds.are_subscripts (known_uses l.self) (subscripts (map subscript_of (drop l.sub-index l.sub-items)))
