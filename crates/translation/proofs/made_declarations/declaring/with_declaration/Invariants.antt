-- What is put so far, and what remains with the made name as long as it is missing.
use Rattle.std.proofs.Common.{◌≡◌, ◌++◌, length, map}
use Rattle.std.specs.Vec.Iter.{into_iter_items, into_iter_len}
use Rattle.tree.specs.View.{declaration_of}
use Rattle.translation.specs.made_declarations.Declaring.{declaration_of_name, with_declaration}
use Rattle.translation.proofs.MadeDeclarations.Placing.{remaining}
use Rattle.translation.proofs.made_declarations.declaring.with_declaration.Given as goal

abbrev pub invariant-loop-decl : goal.invariant-loop-decl
invariant-loop-decl l =
    (with_declaration (map declaration_of l.fn.decls) (declaration_of_name l.made)
    ≡ map declaration_of l.all
    ++ remaining l.missing (map declaration_of (into_iter_items l.decl-iterator)) (declaration_of_name l.made))
    × (length (into_iter_items l.decl-iterator) ≡ into_iter_len l.decl-iterator)
