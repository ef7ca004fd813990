use Rattle.std.proofs.Common.{◌≡◌, ◌≤◌, ◌+◌, drop}
use Rattle.tool.specs.ArrayMarks.{numbers_listed}
use Rattle.tool.proofs.MarkLaws.{commas}
use Rattle.tool.proofs.marks.numbers_listed.Given as goal

-- the commas so far are counted, and those that are left aren't
abbrev pub invariant-loop-byte : goal.invariant-loop-byte
invariant-loop-byte l =
    record {
      counted : l.numbers + commas (drop l.byte-index l.text) ≡ numbers_listed l.text;
      few : l.numbers ≤ l.byte-index + 1;
    }
