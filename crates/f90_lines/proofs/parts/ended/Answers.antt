use Rattle.std.proofs.Common.{ne_eqb}
use Rattle.f90_lines.proofs.PartLaws.{ended_ampersand, ended_blank, ended_other}
use Rattle.f90_lines.proofs.parts.ended.Goals as goal
use Rattle.f90_lines.proofs.parts.ended.Goals.{else-end-gt0-via-then-end-gt0+else-text-end-eq38, else-end-gt0-via-else-end-gt0}

pub returns-then-text-end-eq38 : goal.returns-then-text-end-eq38
returns-then-text-end-eq38 c =
    ended_ampersand c.args.is_pulled c.args.text.now c.end-end.result c.end-end.ensures c.if-end-gt0.true c.if-text-end-eq38.true

pub returns-else-end-gt0 : goal.returns-else-end-gt0
returns-else-end-gt0 c =
    elim c.else-end-gt0.branch [
      | else-end-gt0-via-then-end-gt0+else-text-end-eq38 w ↦
          ended_other c.args.is_pulled c.args.text.now c.end-end.result c.end-end.ensures w.if-end-gt0.true (ne_eqb _ 38 w.if-text-end-eq38.false)
      | else-end-gt0-via-else-end-gt0 w ↦ ended_blank c.args.is_pulled c.args.text.now c.end-end.result c.end-end.ensures w.if-end-gt0.false
    ]
