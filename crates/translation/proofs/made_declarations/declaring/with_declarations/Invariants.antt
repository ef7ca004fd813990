-- The names that remain are still to be put.
use Rattle.std.proofs.Common.{◌≡◌, drop, map}
use Rattle.tree.specs.View.{declaration_of}
use Rattle.translation.specs.made_declarations.Declaring.{declaration_by, declaration_of_name, with_declarations}
use Rattle.translation.proofs.made_declarations.declaring.with_declarations.Given as goal

abbrev pub invariant-loop-name : goal.invariant-loop-name
invariant-loop-name l =
    with_declarations (map declaration_of l.fn.decls) (map (declaration_by (map declaration_of_name l.made)) l.names)
    ≡ with_declarations (map declaration_of l.all)
    (map (declaration_by (map declaration_of_name l.made)) (drop l.name-index l.names))
