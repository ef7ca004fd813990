use Rattle.std.proofs.Common.{◌≡◌, length}
use Rattle.f77_cards.specs.Left.{lines_left}
use Rattle.f77_cards.proofs.source.LinesIterator.next.Given as goal

abbrev pub invariant-loop-line : goal.invariant-loop-line
invariant-loop-line l =
    lines_left l.self ≡ lines_left l.initial.self

abbrev pub decreases-loop-line : goal.decreases-loop-line
decreases-loop-line l = length l.self.rest.now
