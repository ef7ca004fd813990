use Rattle.std.proofs.Common.{◌≡◌, ◌++◌, map, take}
use Rattle.std.specs.Prelude.{flat_map}
use Rattle.tree.specs.View.{declaration_of}
use Rattle.f90_print.specs.Texts.{declaration_lines}
use Rattle.f90_print.proofs.declarations.print_declarations.Given as goal

-- the declarations so far are printed
abbrev pub invariant-loop-decl : goal.invariant-loop-decl
invariant-loop-decl l = l.out.items ≡ l.fn.out.items ++ flat_map declaration_lines (map declaration_of (take l.decl-index l.decls))
