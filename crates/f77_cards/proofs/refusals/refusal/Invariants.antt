use Rattle.std.proofs.Common.{◌≡◌, drop}
use Rattle.std.specs.Prelude.{map}
use Rattle.f77_grammar.specs.Cards.{statement_lines}
use Rattle.f77_grammar.proofs.CardCauses.{first_cause, causes}
use Rattle.f77_cards.specs.Source.{cause_of}
use Rattle.f77_cards.proofs.refusals.refusal.Given as goal

abbrev pub invariant-loop-cause : goal.invariant-loop-cause
invariant-loop-cause l =
    first_cause (map cause_of (drop l.cause-index l.cause-items)) (statement_lines l.text) ≡ first_cause causes (statement_lines l.text)
