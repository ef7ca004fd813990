use Rattle.std.proofs.Common.{refl}
use Rattle.machine.specs.Moments.{seen_at}
use Rattle.machine.proofs.ReadLaws.{skips}
use Rattle.machine.proofs.progress.Progress.skip_line.Goals as goal

pub returns : goal.returns
returns c = λ ds s bytes. skips c.args.input.now (seen_at ds s c.args.self.now) _ bytes c.line_end-self.ensures refl refl refl refl
