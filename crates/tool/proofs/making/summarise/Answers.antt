use Rattle.std.proofs.Common.{◌∙◌, arith}
use Rattle.tool.specs.Works.{Writing}
use Rattle.tool.proofs.Summaries.{counts_cut, not_taken, ran, run_spoken}
use Rattle.tool.proofs.making.summarise.Goals as goal

pub returns-in_default-clause-summarises : goal.returns-in_default-clause-summarises
returns-in_default-clause-summarises g c deck translates same =
    counts_cut deck c.args.translation.now translates (g.K.Sink.taken c.args.out.now) (g.K.Sink.taken c.write_all.new.to)
    (g.K.Sink.faults c.args.out.now) (g.K.Sink.faults c.write_all.new.to) c.args.counts.now same c.in_default.ensures.fault c.in_default.ensures.part

pub returns-in-Refused-clause-summarises : goal.returns-in-Refused-clause-summarises
returns-in-Refused-clause-summarises g c deck translates same =
    let w : Writing = record {
      before = g.K.Sink.taken c.write_all.new.to;
      now = g.K.Sink.taken c.run90.new.out;
      faults_before = g.K.Sink.faults c.write_all.new.to;
      faults_now = g.K.Sink.faults c.run90.new.out;
    } in
    not_taken deck c.args.translation.now translates (g.K.Sink.taken c.args.out.now) w.before w.now
    (g.K.Sink.faults c.args.out.now) w.faults_before w.faults_now c.args.counts.now same c.in-Ok.ensures.ok
    c.in-Refused.field-0 c.in-Refused.ensures.works

pub returns-in_default-run90 : goal.returns-in_default-run90
returns-in_default-run90 g c =
    let w : Writing = record {
      before = g.K.Sink.taken c.write_all.new.to;
      now = g.K.Sink.taken c.run90.new.out;
      faults_before = g.K.Sink.faults c.write_all.new.to;
      faults_now = g.K.Sink.faults c.run90.new.out;
    } in
    record {
      summarises = λ deck translates same.
          ran deck c.args.translation.now translates (g.K.Sink.taken c.args.out.now) w.before w.now
          (g.K.Sink.faults c.args.out.now) w.faults_before w.faults_now c.args.counts.now same c.in-Ok.ensures.ok
          c.run90.result c.in_default-run90.not-Refused c.write_all.ensures.later c.run90.ensures.works;
      spoken = λ nests. run_spoken c.args.translation.now w nests c.run90.result c.in_default-run90.not-Refused c.run90.ensures.works;
      no_fault = λ other. c.run90.ensures.no_fault other ∙ c.in-Ok.ensures.no_fault;
      later = omega (arith, c.run90.ensures.later, c.write_all.ensures.later);
    }
