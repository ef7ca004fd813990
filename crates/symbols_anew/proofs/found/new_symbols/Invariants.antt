-- The symbols so far are the new ones among the declarations so far.
use Rattle.std.proofs.Common.{◌≡◌, filter, map, take}
use Rattle.nest.specs.View.{nest_of}
use Rattle.symbols_anew.specs.Found.{is_new, known_names, names_assigned}
use Rattle.tree.specs.Plain.{Declaration}
use Rattle.tree.specs.View.{declaration_of}
use Rattle.symbols_anew.proofs.found.new_symbols.Given as goal

abbrev pub invariant-loop-decl : goal.invariant-loop-decl
invariant-loop-decl l =
    l.symbols
    ≡ map (λ (d : Declaration). d.name)
    (filter (is_new (names_assigned (nest_of l.before)) (known_names (nest_of l.nest)))
    (map declaration_of (take l.decl-index l.decl-items)))
