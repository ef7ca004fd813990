use Rattle.std.proofs.Common.{arith}
use Rattle.tree.specs.declared.refusals.Cause.TheVariants.{TypeClash90}
use Rattle.f90_grammar.specs.Declared.{declarations_of}
use Rattle.f90_grammar.specs.Refusals.{HoldsAt}
use Rattle.f90_read.proofs.CheckLaws.{kinds, first_refused}
use Rattle.f90_read.proofs.StatementLaws.{ready, fewer}
use Rattle.f90_read.proofs.causes.check_kinds.Goals as goal

pub returns : goal.returns
returns c source ps k clear =
    let t = k.is_text in
    let are_ready = ready source ps t.of_text c.args.functions.now k.are_functions t.calls
    (fewer source 36 39 (omega arith) clear) in
    kinds source ps t.of_text c.refuse.result clear
    (first_refused ps TypeClash90 (HoldsAt TypeClash90 ps) c.in_ok-unsuited.unsuited c.refuse.result
    (c.refuse.ensures ps t.are)
    (c.in_ok-unsuited.ensures.first ps (declarations_of ps) t.are k.are_names are_ready))
