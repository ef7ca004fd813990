use Rattle.std.proofs.Common.{◌≡◌, ◌++◌, ◌*◌, codes}
use Rattle.generator.specs.Draws.{state_after}
use Rattle.generator.specs.Decks.{nests_of}
use Rattle.generator.proofs.decks.generated.Given as goal

-- the nests so far stand there, and the state is that before the next one
abbrev pub invariant-loop-before : goal.invariant-loop-before
invariant-loop-before l =
    record {
      deck : l.deck.items ≡ codes "      INTEGER A(200), B(200), C(200)\n" ++ nests_of l.nests l.before;
      state : l.draws.state ≡ state_after (10 * l.before) l.nests;
    }
