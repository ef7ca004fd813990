use Rattle.std.proofs.Common.{◌≡◌, map, not}
use Rattle.std.specs.Prelude.{◌||◌}
use Rattle.std.specs.List.{filter}
use Rattle.tree.specs.Plain.{Declaration}
use Rattle.tree.specs.View.{declaration_of}
use Rattle.meaning.specs.Names.{is_among}
use Rattle.reductions.specs.Finding.{is_source}
use Rattle.reductions.proofs.programs.declarations_left.Given as goal

abbrev pub invariant-loop-decl : goal.invariant-loop-decl
invariant-loop-decl l = map declaration_of l.left
    ≡ filter (λ (d : Declaration). is_source d.name || (is_among l.new.keys d.name || not (is_among l.old.keys d.name))) (map declaration_of l.yielded)
