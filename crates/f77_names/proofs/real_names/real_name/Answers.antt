use Rattle.std.proofs.Common.{sym, ◌∙◌}
use Rattle.f77_grammar.specs.program.Uses.{uses_in_text}
use Rattle.f77_grammar.specs.syntax.Views.{text_of}
use Rattle.f77_names.proofs.TypingLaws.{real_beside_none, real_without}
use Rattle.f77_names.proofs.real_names.real_name.Goals as goal

pub returns-then-has_implicit_none : goal.returns-then-has_implicit_none
returns-then-has_implicit_none c =
    real_beside_none (text_of c.args.text.now) (uses_in_text (text_of c.args.text.now)) (sym c.has_implicit_none.ensures ∙ c.if-has_implicit_none.true)

pub returns : goal.returns
returns c =
    real_without (text_of c.args.text.now) (uses_in_text (text_of c.args.text.now)) c.real_use.result (sym c.has_implicit_none.ensures ∙ c.if-has_implicit_none.false) c.real_use.ensures
