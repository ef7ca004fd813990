use Rattle.std.proofs.Common.{List, subst}
use Rattle.f90_lines.specs.Views.{statement_seen}
use Rattle.f90_expressions.specs.words.Tokens.{words_of}
use Rattle.f90_expressions.specs.declared.words.tokens.Token.{Token}
use Rattle.f90_blocks.specs.places.forms.Forms.{ReadsWords}
use Rattle.f90_blocks.proofs.places.OfForms.FormLaws.{form_at, no_words}
use Rattle.f90_blocks.proofs.places.forms.read_forms.form.Goals as goal

pub returns-in-Ok : goal.returns-in-Ok
returns-in-Ok c =
    form_at c.form_of_words.result (statement_seen c.args.written.now) c.as_slice.result.now (words_of c.in-Ok.tokens) c.as_slice.ensures c.in-Ok.ensures.found
    c.in-Ok.ensures.only
    (subst (λ (ts : List Token). ReadsWords (words_of ts) c.form_of_words.result) c.as_slice-in-Ok.ensures c.form_of_words.ensures)

pub returns-in-Err-Syntax : goal.returns-in-Err-Syntax
returns-in-Err-Syntax c f g =
    no_words (statement_seen c.args.written.now) c.as_slice.result.now c.as_slice.ensures
    (λ vs h. rw c.in-Err-Syntax.field-0-is at (c.in-Err-Syntax.ensures.only vs h)) f g
