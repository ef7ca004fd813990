use Rattle.std.proofs.Common.{arith}
use Rattle.std.proofs.lemmas.Bool.{both_ways}
use Rattle.components.proofs.Parts.{started}
use Rattle.components.proofs.walk.Walk.visit.Goals as goal

pub enter-requires-clause-walk : goal.enter-requires-clause-walk
enter-requires-clause-walk c =
    let old = c.args.self.now in
    started c.args.rows.now c.args.start old.marks.items old.path.items old.work.items old.starts.items old.count c.requires.walk c.requires.path

pub enter-requires-clause-new : goal.enter-requires-clause-new
enter-requires-clause-new c = c.is_new.ensures.0 c.if-not-is_new.false

pub returns-then-not-is_new : goal.returns-then-not-is_new
returns-then-not-is_new c = record {
  goes = (record { is = c.requires.walk; keeps = λ v e. e; less = omega arith }, c.requires.path);
  met = λ e. both_ways c.is_new.result c.if-not-is_new.true (c.is_new.ensures.1 e);
}

pub returns-clause-met : goal.returns-clause-met
returns-clause-met c = λ e. c.in_ok-enter.ensures.met (c.in_ok-run.ensures.0.keeps c.args.start e)
