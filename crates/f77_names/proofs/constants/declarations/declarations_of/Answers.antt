use Rattle.std.proofs.Common.{◌≡◌, map, ap, ◌∙◌}
use Rattle.std.proofs.lemmas.Result.{IfOk-weaker}
use Rattle.tree.specs.View as view
use Rattle.f77_grammar.specs.program.Uses.{uses_in_text}
use Rattle.f77_grammar.specs.syntax.Views.{text_of}
use Rattle.f77_names.specs.UsesView.{plain_use}
use Rattle.f77_names.proofs.FactLaws.{names_known}
use Rattle.f77_names.specs.constants.Constants.{store_of}
use Rattle.f77_names.specs.constants.Declarations.{AreFacts, narrow_declarations, variables_from, all_declarations}
use Rattle.f77_names.proofs.constants.NarrowLaws.{all_declared}
use Rattle.f77_names.proofs.constants.declarations.declarations_of.Goals as goal

pub returns-clause-declarations : goal.returns-clause-declarations
returns-clause-declarations c = λ s h good.
    let us = uses_in_text (text_of c.args.text.now) in
    let facts : AreFacts c.args.known.now.names us = record { facts = names_known c.args.known.now us c.requires } in
    IfOk-weaker c.declare.result
    (λ ds. map view.declaration_of ds ≡ narrow_declarations c.args.constants.now.width us (store_of c.args.constants.now) (text_of c.args.text.now) c.as_slice-2.result.now)
    (λ ds. map view.declaration_of ds ≡ all_declarations c.args.constants.now.width us s (text_of c.args.text.now))
    (λ ds declared. all_declared c.args.constants.now.width us s (store_of c.args.constants.now) (text_of c.args.text.now) c.as_slice-2.result.now (map view.declaration_of ds) declared h.same good
    (c.as_slice-2.ensures.value ∙ c.in_ok-variables.ensures us facts ∙ ap (λ vs. variables_from us (map plain_use vs)) c.as_slice.ensures ∙ ap (variables_from us) c.requires))
    (c.declare.ensures.declarations us facts)
