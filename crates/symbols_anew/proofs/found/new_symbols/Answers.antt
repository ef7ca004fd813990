use Rattle.std.proofs.Common.{arith, rules}
use Rattle.nest.specs.View.{nest_of}
use Rattle.nest_reasons.proofs.Lists.{kept_mapped}
use Rattle.symbols_anew.specs.Found.{is_new, known_names, names_assigned}
use Rattle.tree.specs.Plain.{Declaration}
use Rattle.tree.specs.View.{declaration_of}
use Rattle.symbols_anew.proofs.found.new_symbols.Goals as goal

pub loop-decl-preserved : goal.loop-decl-preserved
loop-decl-preserved c =
    kept_mapped (is_new (names_assigned (nest_of c.args.before.now)) (known_names (nest_of c.args.nest.now)))
    (λ (d : Declaration). d.name) declaration_of c.as_slice-decl-items.result.now c.loop-decl.decl-index c.decl-item.result
    c.is_new-chosen.result c.loop-decl.symbols c.push_if.new.names (omega arith) c.decl-item.is
    (search rules) c.loop-decl.invariant c.in_ok-push_if.ensures
