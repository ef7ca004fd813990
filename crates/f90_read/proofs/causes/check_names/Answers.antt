use Rattle.std.proofs.Common.{arith, IsTrue}
use Rattle.tree.specs.declared.refusals.Cause.TheVariants.{Declared90}
use Rattle.f90_grammar.specs.Declared.{declarations_of, declares_again, HasKnownNames}
use Rattle.f90_grammar.specs.Order.{Place90}
use Rattle.f90_grammar.specs.Refusals.{HoldsAt}
use Rattle.f90_read.proofs.CheckLaws.{names, first_refused, first_of_either}
use Rattle.f90_read.proofs.StatementLaws.{ready, fewer}
use Rattle.f90_read.proofs.causes.check_names.Goals as goal

pub returns : goal.returns
returns c source ps k clear =
    let t = k.is_text in
    let are_ready = ready source ps t.of_text c.args.functions.now k.are_functions t.calls
    (fewer source 36 38 (omega arith) clear) in
    let found = first_of_either ps (λ (p : Place90). IsTrue (declares_again p.before p.here.form))
    (λ (p : Place90). HasKnownNames (declarations_of ps) p.here.form → ⊥)
    c.in_ok-repeated.repeated c.in_ok-unknown.unknown c.earlier.result c.earlier.ensures
    (c.in_ok-repeated.ensures ps t.are) (c.in_ok-unknown.ensures.first ps (declarations_of ps) t.are k.are_names
    are_ready) in
    names source ps t.of_text c.refuse.result clear
    (first_refused ps Declared90 (HoldsAt Declared90 ps) c.earlier.result c.refuse.result (c.refuse.ensures ps t.are)
    found)
