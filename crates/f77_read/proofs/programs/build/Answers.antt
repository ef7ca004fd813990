use Rattle.std.proofs.Common.{map, subst}
use Rattle.f77_cards.specs.Card.{card_of}
use Rattle.f77_read.specs.Outcomes.{AreCardsBuilt}
use Rattle.f77_read.proofs.Answers.{program_if_ok, answered_if_refused}
use Rattle.f77_read.proofs.SourceLaws.{program_of_source}
use Rattle.f77_read.proofs.programs.build.Goals as goal

pub returns-clause-refused : goal.returns-clause-refused
returns-clause-refused c = λ r e rising.
    answered_if_refused c.args.width (map card_of c.args.cards.now) c.build_cards.result r (subst (λ xs. AreCardsBuilt c.args.width (map card_of xs) c.build_cards.result) c.as_slice.ensures c.build_cards.ensures.built) e rising

pub returns-clause-program : goal.returns-clause-program
returns-clause-program c = λ source h.
    program_of_source c.args.width source (map card_of c.args.cards.now) c.build_cards.result h
    (program_if_ok c.args.width (map card_of c.args.cards.now) c.build_cards.result (subst (λ xs. AreCardsBuilt c.args.width (map card_of xs) c.build_cards.result) c.as_slice.ensures c.build_cards.ensures.built))
