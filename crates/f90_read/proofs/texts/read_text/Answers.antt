use Rattle.std.proofs.Common.{List, subst}
use Rattle.std.proofs.lemmas.Result.{err_from_is_err_and}
use Rattle.f90_names.specs.calls.Formless.{HaveSuitedForms}
use Rattle.f90_lines.specs.declared.readings.Statement.{Statement}
use Rattle.f90_lines.specs.Views.{statements_seen}
use Rattle.f90_read.proofs.TextLaws.{refused_in_lines, refused_in_words, clear_of_words, is_text, NoneFormless}
use Rattle.f90_read.proofs.texts.read_text.Goals as goal

pub returns-in_err-written : goal.returns-in_err-written
returns-in_err-written c =
    let p = err_from_is_err_and c.from_residual.result c.from_residual.ensures.1 in
    rw (p.1, p.2) (refused_in_lines c.args.text.now _ c.in_err-written.ensures.refused)

pub returns-in_err-placed : goal.returns-in_err-placed
returns-in_err-placed c =
    let p = err_from_is_err_and c.from_residual-in_err-placed.result c.from_residual-in_err-placed.ensures.1 in
    rw (p.1, p.2)
    (refused_in_words c.args.text.now c.in_ok-written.written c.as_slice.result.now _ c.as_slice.ensures
    c.in_ok-written.ensures.ok c.in_ok-written.ensures.unrefused c.in_err-placed.ensures.refused)

pub returns : goal.returns
returns c =
    let ss = statements_seen c.in_ok-written.written in
    let h = subst (λ (xs : List Statement). HaveSuitedForms (statements_seen xs) c.in_ok-placed.placed)
    c.as_slice.ensures c.in_ok-placed.ensures.ok in
    let none = subst (λ (xs : List Statement). NoneFormless (statements_seen xs)) c.as_slice.ensures
    c.in_ok-placed.ensures.unrefused in
    let clear = clear_of_words c.args.text.now ss c.in_ok-written.ensures.ok c.in_ok-written.ensures.unrefused none in
    c.read_placed.ensures c.args.text.now h.placed (is_text c.args.text.now ss c.in_ok-placed.placed
    c.as_slice-2.result.now c.in_ok-written.ensures.ok h c.as_slice-2.ensures) clear
