use Rattle.std.proofs.Common.{◌≡◌, ◌<◌, ◌^◌, ℕ, List, length, sym, subst, arith}
use Rattle.generator.specs.Draws.{state_after}
use Rattle.generator.specs.Decks.{nests_of, deck_of}
use Rattle.generator.proofs.DeckTexts.{whole_deck, short_deck}
use Rattle.generator.proofs.decks.generated.Goals as goal

pub loop-before-init : goal.loop-before-init
unfolding nests_of state_after
loop-before-init c = record { deck = c.in_ok-deck.ensures.items; state = c.from_seed-draws.ensures }

pub returns-clause-short : goal.returns-clause-short
returns-clause-short c =
    let last : c.loop-before.before ≡ c.args.nests = omega arith in
    let e : c.push.new.text.items ≡ deck_of c.args.nests = whole_deck c.args.nests c.loop-before.before _ _ last c.loop-before.invariant.deck c.in_ok-push.ensures in
    subst (λ (t : List ℕ). length t < 2 ^ 24) (sym e) (short_deck c.args.nests c.requires)
