use Rattle.std.proofs.Common.{map, arith}
use Rattle.f77_grammar.specs.program.Uses.{is_variable}
use Rattle.f77_names.specs.UsesView.{plain_use}
use Rattle.f77_names.specs.constants.Declarations.{variables_from}
use Rattle.f77_names.proofs.constants.DeclarationLaws.{variables_more, ascends_more}
use Rattle.f77_names.proofs.constants.declarations.variables.Goals as goal

pub loop-used-preserved : goal.loop-used-preserved
loop-used-preserved c = record {
  noted = λ us h.
      variables_more us c.args.uses.now c.loop-used.used-index c.used-item.result (variables_from us (map plain_use c.args.uses.now)) c.loop-used.variables.items c.add_variable.new.variables.items
      (omega arith) c.used-item.is (c.loop-used.invariant.noted us h) (c.in_ok-add_variable.ensures us h (c.loop-used.invariant.ascends us h));
  ascends = λ us h.
      ascends_more (is_variable us c.used-item.result.name) c.used-item.result.name c.loop-used.variables.items c.add_variable.new.variables.items
      (c.loop-used.invariant.ascends us h) (c.in_ok-add_variable.ensures us h (c.loop-used.invariant.ascends us h));
}
