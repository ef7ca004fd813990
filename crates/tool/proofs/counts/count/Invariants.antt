use Rattle.std.proofs.Common.{◌≡◌, ◌≤◌, ◌+◌, length}
use Rattle.std.specs.Prelude.{count_by}
use Rattle.meaning.specs.Deck.{lines_of}
use Rattle.tool.specs.Counts.{is_counted_line, line_count}
use Rattle.tool.proofs.counts.count.Given as goal

-- the lines so far are counted, and no line has less than a byte
abbrev pub invariant-loop-line : goal.invariant-loop-line
invariant-loop-line l =
    record {
      counted : l.count + count_by (is_counted_line l.counted (lines_of l.text)) (lines_of l.rest) ≡ line_count l.counted l.text;
      few : l.count + length l.rest ≤ length l.text;
    }

abbrev pub decreases-loop-line : goal.decreases-loop-line
decreases-loop-line l = length l.rest
