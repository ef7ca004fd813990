use Rattle.std.proofs.Common.{◌∙◌, sym, ap, arith, map, rules, ◌+◌, drop}
use Rattle.nest.specs.statement_loops.Standings.{standing_of}
use Rattle.inductions.specs.Growing.{one_number, writes_from}
use Rattle.inductions.proofs.WriteLaws.{first-found, none-here, one-here, second-found, with_found}
use Rattle.inductions.proofs.growing.only_write.Goals as goal
use Rattle.inductions.proofs.growing.only_write.Goals.{then-eq+else-is_some, else-eq}

pub returns-then-is_some : goal.returns-then-is_some
returns-then-is_some c =
    sym (c.loop-number.invariant
    ∙ ap (λ ks. one_number (with_found c.loop-number.found ks)) (one-here c.args.name c.args.all.now c.loop-number.number c.index-all-number.result (omega arith) c.index-all-number.is (search rules))
    ∙ second-found c.loop-number.found c.loop-number.number (writes_from (c.loop-number.number + 1) (drop (c.loop-number.number + 1) (map standing_of c.args.all.now)) c.args.name) (search rules))

pub loop-number-preserved : goal.loop-number-preserved
loop-number-preserved c = elim c.if-eq.branch [
  | then-eq+else-is_some w ↦
      c.loop-number.invariant
      ∙ ap (λ ks. one_number (with_found c.loop-number.found ks)) (one-here c.args.name c.args.all.now c.loop-number.number c.index-all-number.result (omega arith) c.index-all-number.is (search rules))
      ∙ first-found c.loop-number.found c.if-eq.found c.loop-number.number (writes_from (c.loop-number.number + 1) (drop (c.loop-number.number + 1) (map standing_of c.args.all.now)) c.args.name) (search rules) (search rules)
  | else-eq w ↦
      c.loop-number.invariant
      ∙ ap (λ ks. one_number (with_found c.loop-number.found ks)) (none-here c.args.name c.args.all.now c.loop-number.number c.index-all-number.result (omega arith) c.index-all-number.is (search rules))
      ∙ ap (λ o. one_number (with_found o (writes_from (c.loop-number.number + 1) (drop (c.loop-number.number + 1) (map standing_of c.args.all.now)) c.args.name))) (search rules)
]
