use Rattle.std.proofs.Common.{map, subst, ap, ◌∙◌}
use Rattle.f77_cards.specs.Card.{card_of}
use Rattle.f77_grammar.specs.syntax.Views.{text_of}
use Rattle.f77_read.specs.Outcomes.{IsTextBuilt}
use Rattle.f77_read.proofs.Answers.{text_built}
use Rattle.f77_read.proofs.programs.build_cards.Goals as goal

pub returns-clause-built : goal.returns-clause-built
returns-clause-built c =
    text_built c.args.width (map card_of c.args.cards.now) (text_of c.in_ok-written.written) c.build_text.result c.in_ok-written.ensures
    (subst (λ xs. IsTextBuilt c.args.width xs c.build_text.result) (ap text_of c.as_slice.ensures ∙ c.in_ok-text.ensures) c.build_text.ensures.built)
