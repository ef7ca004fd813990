use Rattle.f77_grammar.specs.statements.Forms.{Form77}
use Rattle.f77_expressions.specs.Symbols.{symbols_of}
use Rattle.f77_statement.specs.Parts.{Given, IsFormedOf}
use Rattle.f77_statement.proofs.RecognitionLaws.{found_conditional, is_conditional, is_unconditional}
use Rattle.f77_statement.proofs.forms.form.Goals as goal

pub returns-in-Some-clause-found : goal.returns-in-Some-clause-found
returns-in-Some-clause-found c =
    found_conditional (symbols_of c.args.text.now) (symbols_of c.in-Some.inside.now) (symbols_of c.in-Some.rest.now) c.if_statement.result c.in-Some.ensures.found c.if_statement.ensures.found

pub returns-in-Some-clause-only : goal.returns-in-Some-clause-only
returns-in-Some-clause-only c f h =
    is_conditional (λ (g : Form77). Given c.if_statement.result (λ made. IsFormedOf made g)) (symbols_of c.args.text.now) (symbols_of c.in-Some.inside.now) (symbols_of c.in-Some.rest.now) f
    c.in-Some.ensures.found c.in-Some.ensures.only c.if_statement.ensures.only h

pub returns-in-None-clause-only : goal.returns-in-None-clause-only
returns-in-None-clause-only c f h =
    is_unconditional (λ (g : Form77). Given c.unconditional.result (λ made. IsFormedOf made g)) (symbols_of c.args.text.now) f c.in-None.ensures.only c.unconditional.ensures.only h
