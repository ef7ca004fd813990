use Rattle.std.proofs.Common.{sym, ◌∙◌}
use Rattle.f77_grammar.specs.program.Uses.{uses_in_text}
use Rattle.f77_grammar.specs.syntax.Views.{text_of}
use Rattle.f77_names.proofs.TypingLaws.{untyped_beside_none, untyped_without}
use Rattle.f77_names.proofs.real_names.untyped_name.Goals as goal

pub returns-then-has_implicit_none : goal.returns-then-has_implicit_none
returns-then-has_implicit_none c =
    untyped_beside_none (text_of c.args.text.now) (uses_in_text (text_of c.args.text.now)) c.untyped_use.result (sym c.has_implicit_none.ensures ∙ c.if-has_implicit_none.true) c.untyped_use.ensures

pub returns-else-has_implicit_none : goal.returns-else-has_implicit_none
returns-else-has_implicit_none c =
    untyped_without (text_of c.args.text.now) (uses_in_text (text_of c.args.text.now)) (sym c.has_implicit_none.ensures ∙ c.if-has_implicit_none.false)
