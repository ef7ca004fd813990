use Rattle.std.proofs.Common.{arith, rules}
use Rattle.tree.specs.Plain.{Declaration}
use Rattle.tree.specs.View.{declaration_of, block_of}
use Rattle.rewrite.specs.Names.{names_written_in}
use Rattle.nest_reasons.specs.Symbols.{is_symbol}
use Rattle.nest_reasons.proofs.Lists.{kept_mapped}
use Rattle.nest_reasons.proofs.symbols.symbols_of.Goals as goal

pub loop-decl-preserved : goal.loop-decl-preserved
loop-decl-preserved c =
    kept_mapped (is_symbol c.args.variable (names_written_in (block_of c.args.body.now))) (λ (d : Declaration). d.name) declaration_of c.as_slice-decl-items.result.now
    c.loop-decl.decl-index c.decl-item.result c.is_symbol-chosen.result c.loop-decl.symbols c.push_if.new.names (omega arith) c.decl-item.is
    (search rules) c.loop-decl.invariant c.in_ok-push_if.ensures
