use Rattle.std.proofs.Common.{List, ap, sym, ◌∙◌, subst}
use Rattle.std.specs.List.{list_any}
use Rattle.std.proofs.lemmas.Result.{err_from_is_err_and}
use Rattle.f77_grammar.specs.expressions.Words.{is_wide_word}
use Rattle.f77_grammar.specs.expressions.Spelling.{AreWords77}
use Rattle.f77_grammar.specs.expressions.Squeezing.{Symbol77}
use Rattle.f77_grammar.specs.statements.Controls.{written_control}
use Rattle.f77_expressions.specs.Symbols.{symbols_of}
use Rattle.f77_expressions.specs.Views.{words_of}
use Rattle.f77_statement.proofs.GivenLaws.{words_err, given_err}
use Rattle.f77_statement.proofs.LoopLaws.{control_begins, loop_found}
use Rattle.f77_statement.proofs.forms.do_statement.Goals as goal

pub returns-in_default-clause-only_plain : goal.returns-in_default-clause-only_plain
returns-in_default-clause-only_plain c control h = c.in_default.ensures.only_plain h.0.0 (control_begins control h.0.0 h.0.2) h.0.1

pub returns-in_err-tokens-clause-only : goal.returns-in_err-tokens-clause-only
returns-in_err-tokens-clause-only c digits comma control h =
    let p = err_from_is_err_and c.from_residual.result c.from_residual.ensures.1 in
    let k = c.in-Some.ensures.only digits comma h.0.0 h.1 (control_begins control h.0.0 h.0.2) h.0.1 in
    rw (p.1, p.2) (words_err _ _ (written_control control) (c.in_err-tokens.ensures.only _ (subst (λ (q : List Symbol77). AreWords77 q (written_control control)) (sym k.1) h.0.2)))

pub returns-in_err-tokens-clause-only_plain : goal.returns-in_err-tokens-clause-only_plain
returns-in_err-tokens-clause-only_plain c control h =
    let p = err_from_is_err_and c.from_residual.result c.from_residual.ensures.1 in
    let k = c.in-Some.ensures.only_plain h.0.0 (control_begins control h.0.0 h.0.2) h.0.1 in
    rw (p.1, p.2) (words_err _ _ (written_control control) (c.in_err-tokens.ensures.only _ (subst (λ (q : List Symbol77). AreWords77 q (written_control control)) (sym k.1) h.0.2)))

pub returns-in_err-control-clause-only : goal.returns-in_err-control-clause-only
returns-in_err-control-clause-only c digits comma control h =
    let p = err_from_is_err_and c.from_residual-in_err-control.result c.from_residual-in_err-control.ensures.1 in
    let k = c.in-Some.ensures.only digits comma h.0.0 h.1 (control_begins control h.0.0 h.0.2) h.0.1 in
    let w = c.in_ok-tokens.ensures.only (written_control control) (subst (λ (q : List Symbol77). AreWords77 q (written_control control)) (sym k.1) h.0.2) in
    rw (p.1, p.2) (given_err _ _ _ (c.in_err-control.ensures.only control h.2 (ap words_of c.as_slice.ensures.value ∙ w)))

pub returns-in_err-control-clause-only_plain : goal.returns-in_err-control-clause-only_plain
returns-in_err-control-clause-only_plain c control h =
    let p = err_from_is_err_and c.from_residual-in_err-control.result c.from_residual-in_err-control.ensures.1 in
    let k = c.in-Some.ensures.only_plain h.0.0 (control_begins control h.0.0 h.0.2) h.0.1 in
    let w = c.in_ok-tokens.ensures.only (written_control control) (subst (λ (q : List Symbol77). AreWords77 q (written_control control)) (sym k.1) h.0.2) in
    rw (p.1, p.2) (given_err _ _ _ (c.in_err-control.ensures.only control h.1 (ap words_of c.as_slice.ensures.value ∙ w)))

pub returns-clause-found : goal.returns-clause-found
returns-clause-found c =
    loop_found (symbols_of c.args.text.now) (symbols_of c.in-Some.rest.now) c.in-Some.label (words_of c.as_slice.result.now) c.in_ok-control.control c.has_wide.result c.loop_statement.result
    c.in-Some.ensures.found (subst (λ q. AreWords77 (symbols_of c.in-Some.rest.now) q) (sym (ap words_of c.as_slice.ensures.value)) c.in_ok-tokens.ensures.found) c.in_ok-control.ensures.found
    (c.has_wide.ensures ∙ ap (λ q. list_any is_wide_word (words_of q)) (c.as_slice-2.ensures.value ∙ sym c.as_slice.ensures.value)) c.loop_statement.ensures.labelled c.loop_statement.ensures.plain

pub returns-clause-only : goal.returns-clause-only
returns-clause-only c digits comma control h =
    let k = c.in-Some.ensures.only digits comma h.0.0 h.1 (control_begins control h.0.0 h.0.2) h.0.1 in
    let w = c.in_ok-tokens.ensures.only (written_control control) (subst (λ (q : List Symbol77). AreWords77 q (written_control control)) (sym k.1) h.0.2) in
    c.loop_statement.ensures.labelled digits comma control k.0 (c.in_ok-control.ensures.only control h.2 (ap words_of c.as_slice.ensures.value ∙ w))
    (c.has_wide.ensures ∙ ap (list_any is_wide_word) (ap words_of c.as_slice-2.ensures.value ∙ w))

pub returns-clause-only_plain : goal.returns-clause-only_plain
returns-clause-only_plain c control h =
    let k = c.in-Some.ensures.only_plain h.0.0 (control_begins control h.0.0 h.0.2) h.0.1 in
    let w = c.in_ok-tokens.ensures.only (written_control control) (subst (λ (q : List Symbol77). AreWords77 q (written_control control)) (sym k.1) h.0.2) in
    c.loop_statement.ensures.plain control k.0 (c.in_ok-control.ensures.only control h.1 (ap words_of c.as_slice.ensures.value ∙ w))
    (c.has_wide.ensures ∙ ap (list_any is_wide_word) (ap words_of c.as_slice-2.ensures.value ∙ w))
