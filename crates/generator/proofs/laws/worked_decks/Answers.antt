use Rattle.generator.proofs.DeckTexts.{eleven, twelve, zero_digit, one_digit, two_digit, three_digit, four_digit, five_digit, six_digit, seven_digit}
use Rattle.generator.specs.Draws.{next_state, state_after}
use Rattle.generator.specs.Statements.{reference_text, statement_text}
use Rattle.generator.specs.Decks.{nest_text, nest_at, nests_of, deck_of}
use Rattle.generator.proofs.laws.worked_decks.Goals as goal

pub returns-clause-one : goal.returns-clause-one
unfolding next_state state_after reference_text statement_text nest_text nest_at nests_of deck_of
returns-clause-one c = simp (eleven, zero_digit, one_digit, two_digit, three_digit, six_digit)

pub returns-clause-two : goal.returns-clause-two
unfolding next_state state_after reference_text statement_text nest_text nest_at nests_of deck_of
returns-clause-two c = simp (eleven, twelve, one_digit, two_digit, three_digit, four_digit, five_digit, seven_digit)
