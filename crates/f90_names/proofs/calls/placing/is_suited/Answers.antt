use Rattle.f90_trees.specs.Hiding.{function_in}
use Rattle.f90_names.proofs.calls.FormlessLaws.{form_told, no_form_told}
use Rattle.f90_names.proofs.calls.placing.is_suited.Goals as goal

pub returns-in-Some : goal.returns-in-Some
returns-in-Some c s =
    form_told (function_in c.args.functions.now) s c.args.form.now c.in-Some.statement c.statement_suits.result
    c.in-Some.is c.statement_suits.ensures

pub returns-in-None : goal.returns-in-None
returns-in-None c s = no_form_told (function_in c.args.functions.now) s c.args.form.now c.in-None.is
