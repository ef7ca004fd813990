use Rattle.std.proofs.lemmas.Result.{err_from_is_err_and}
use Rattle.std.proofs.Common.{arith, IsTrue, ◌≡◌, [], sym, subst}
use Rattle.tree.specs.declared.refusals.Cause.TheVariants.{Structure}
use Rattle.f90_laws.specs.blocks.Places.{IsWrongAt, SuitsPlace, surroundings_of}
use Rattle.f90_grammar.specs.Declared.{declarations_of, functions_in}
use Rattle.f90_grammar.specs.Order.{Place90, is_disordered}
use Rattle.f90_grammar.specs.Refusals.{Refused90}
use Rattle.f90_grammar.specs.Surroundings.{is_wrong_label90, label_digits_in}
use Rattle.f90_read.proofs.CheckLaws.{nothing, disorder_refused, misplaced, are_ordered, empty_list, some_list}
use Rattle.f90_read.proofs.CheckLaws.{none_held, some_held, first_refused, first_of_either}
use Rattle.f90_read.proofs.StatementLaws.{proper, written_out, fewer}
use Rattle.f90_read.proofs.causes.check_structure.Goals as goal

pub returns-then-is_empty : goal.returns-then-is_empty
returns-then-is_empty c source ps t n clear =
    let e : ps ≡ [] = none_held c.args.text.now ps (empty_list c.args.text.now c.is_empty.result c.is_empty.ensures
    c.if-is_empty.true) t.are in
    subst (Refused90 source) (sym c.at.ensures.refusal) (nothing source ps t.of_text clear e)

pub returns-in_err-refuse : goal.returns-in_err-refuse
returns-in_err-refuse c source ps t n clear =
    let p = err_from_is_err_and c.from_residual-in_err-refuse.result c.from_residual-in_err-refuse.ensures.1 in
    rw (p.1, p.2) (disorder_refused source ps t.of_text _ clear
    (first_refused ps Structure (λ (p : Place90). IsTrue (is_disordered ps p)) c.in_ok-disorder.disorder _
    (c.in_err-refuse.ensures ps t.are) (c.in_ok-disorder.ensures ps t.are)))

pub returns : goal.returns
returns c source ps t n clear =
    let s = t.of_text in
    let none = first_refused ps Structure (λ (p : Place90). IsTrue (is_disordered ps p)) c.in_ok-disorder.disorder _
    (c.in_ok-refuse.ensures ps t.are) (c.in_ok-disorder.ensures ps t.are) in
    let ordered = are_ordered source ps s (some_held c.args.text.now ps
    (some_list c.args.text.now c.is_empty.result c.is_empty.ensures c.if-is_empty.false) t.are) none in
    let wrong = first_of_either ps (λ (p : Place90). IsTrue (is_wrong_label90 p.before (label_digits_in p.here.form)))
    (λ (p : Place90). SuitsPlace (declarations_of ps) (functions_in ps) p.here.form (surroundings_of p) → ⊥)
    c.in_ok-label.label c.in_ok-misplaced.misplaced c.earlier.result c.earlier.ensures
    (c.in_ok-label.ensures ps t.are)
    (c.in_ok-misplaced.ensures ps (declarations_of ps) (functions_in ps) t.are n
    (proper source ps s (fewer source 35 37 (omega arith) clear)) (written_out source ps s)) in
    misplaced source ps s ordered c.refuse-2.result clear
    (first_refused ps Structure (IsWrongAt ps) c.earlier.result c.refuse-2.result (c.refuse-2.ensures ps t.are) wrong)
