use Rattle.std.proofs.Common.{refl, arith}
use Rattle.machine.specs.Moments.{seen_at}
use Rattle.machine.proofs.ReadLaws.{begins_at_end, begins_there}
use Rattle.machine.proofs.progress.Progress.begin_line.Goals as goal

pub returns-then-self-input : goal.returns-then-self-input
returns-then-self-input c = λ ds s bytes. begins_at_end c.args.line c.args.input.now (seen_at ds s c.args.self.now) bytes (omega arith)

pub returns : goal.returns
returns c = λ ds s bytes. begins_there c.args.line c.args.input.now (seen_at ds s c.args.self.now) _ bytes (omega arith) refl refl refl
