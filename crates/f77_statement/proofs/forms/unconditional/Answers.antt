use Rattle.std.proofs.Common.{sym, ◌∙◌}
use Rattle.f77_grammar.specs.statements.Forms.{Form77}
use Rattle.f77_expressions.specs.Symbols.{symbols_of}
use Rattle.f77_statement.specs.Parts.{Given, IsFormedOf}
use Rattle.f77_statement.proofs.RecognitionLaws.{negated, affirmed, of_keyword, of_loop, of_assignment}
use Rattle.f77_statement.proofs.forms.unconditional.Goals as goal

pub returns-then-not-outside-clause-only : goal.returns-then-not-outside-clause-only
returns-then-not-outside-clause-only c f u =
    let e = negated c.of-outside.result.equals c.if-not-outside.true in
    of_keyword (λ (g : Form77). Given c.keyword_statement.result (λ made. IsFormedOf made g)) (symbols_of c.args.text.now) f (sym c.of-outside.ensures.equals ∙ e) c.keyword_statement.ensures.only u

pub returns-then-outside-clause-only : goal.returns-then-outside-clause-only
returns-then-outside-clause-only c f u =
    let e = affirmed c.of-outside.result.equals c.if-not-outside.false in
    of_loop (λ (g : Form77). Given c.do_statement.result (λ made. IsFormedOf made g)) (symbols_of c.args.text.now) f (sym c.of-outside.ensures.equals ∙ e) (sym c.of-outside.ensures.comma ∙ c.if-outside.true)
    c.do_statement.ensures.only c.do_statement.ensures.only_plain u

pub returns-else-outside-clause-only : goal.returns-else-outside-clause-only
returns-else-outside-clause-only c f u =
    let e = affirmed c.of-outside.result.equals c.if-not-outside.false in
    of_assignment (λ (g : Form77). Given c.assignment_statement.result (λ made. IsFormedOf made g)) (symbols_of c.args.text.now) f (sym c.of-outside.ensures.equals ∙ e)
    (sym c.of-outside.ensures.comma ∙ c.if-outside.false) c.assignment_statement.ensures.only u
