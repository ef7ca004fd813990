use Rattle.meaning.specs.Dialect.{fortran77}
use Rattle.tree.specs.declared.width.Width.{Width}
use Rattle.std.proofs.Common.{sym, ◌∙◌, subst, [], Some}
use Rattle.tree.specs.Plain.{Program}
use Rattle.tree.specs.View.{block_of}
use Rattle.meaning.specs.Profile77.{IsProgram77}
use Rattle.meaning.specs.Run.{run, does_all}
use Rattle.machine.specs.Acts.{Runs}
use Rattle.meaning.specs.Blocks.{outermost}
use Rattle.run77.specs.declared.programs.Machine77.{Machine77}
use Rattle.machine.specs.Statements.{BlockHasArms}
use Rattle.run77.specs.Machine.{IsMachineOf}
use Rattle.run77.specs.Moments.{seen}
use Rattle.run77.proofs.JumpLaws.{jumps_forward}
use Rattle.run77.proofs.ProgramLaws.{block_has_arms}
use Rattle.machine.proofs.MachineLaws.{runs_to_end, keeps_names, left_at}
use Rattle.machine.proofs.Telling.{nothing_given}
use Rattle.run77.proofs.programs.Machine77.run.Goals as goal

has_arms : (w : Width) (p : Program) (m : Machine77) → IsProgram77 (fortran77 w) p → IsMachineOf w p m → BlockHasArms (block_of m.body)
has_arms w p m h is = subst BlockHasArms (sym is.body) (block_has_arms p.declarations p.body outermost h.statements)

pub returns-clause-run : goal.returns-clause-run
returns-clause-run g c = λ w p h is.
    rw c.ended.ensures
    (runs_to_end (fortran77 w) p c.args.limit c.args.input.now (seen c.begin.new.self) (seen c.block.new.self) (block_of c.args.self.now.body) (g.K.Sink.taken c.args.out.now) (g.K.Sink.taken c.block.new.out) c.block.result
    (c.begin.ensures.names ∙ is.names) is.body (jumps_forward w p h) c.begin.ensures.opening
    (subst (λ (v : Width). Runs (λ limit. does_all (fortran77 v) limit (block_of c.args.self.now.body)) c.args.input.now (seen c.begin.new.self) (g.K.Sink.taken c.args.out.now) (seen c.block.new.self) (g.K.Sink.taken c.block.new.out) c.block.result) is.width
    (c.block.ensures.run (has_arms w p c.args.self.now h is))))

pub returns-clause-machine : goal.returns-clause-machine
returns-clause-machine g c = λ w p h is. record {
  names = keeps_names (fortran77 w) p c.args.limit c.args.input.now (seen c.begin.new.self) (seen c.block.new.self) (block_of c.args.self.now.body) (g.K.Sink.taken c.args.out.now) (g.K.Sink.taken c.block.new.out) c.block.result
      (c.begin.ensures.names ∙ is.names) c.begin.ensures.opening
      (subst (λ (v : Width). Runs (λ limit. does_all (fortran77 v) limit (block_of c.args.self.now.body)) c.args.input.now (seen c.begin.new.self) (g.K.Sink.taken c.args.out.now) (seen c.block.new.self) (g.K.Sink.taken c.block.new.out) c.block.result) is.width
      (c.block.ensures.run (has_arms w p c.args.self.now h is)));
  body = is.body;
  width = is.width;
}

pub returns-clause-unwritten : goal.returns-clause-unwritten
returns-clause-unwritten g c = λ w p h is e.
    left_at (fortran77 w) p c.args.limit c.args.input.now (seen c.begin.new.self) (seen c.block.new.self) (block_of c.args.self.now.body) (g.K.Sink.taken c.args.out.now)
    (g.K.Sink.taken c.block.new.out) c.block.result (c.begin.ensures.names ∙ is.names) is.body c.begin.ensures.opening
    (subst (λ (v : Width). Runs (λ limit. does_all (fortran77 v) limit (block_of c.args.self.now.body)) c.args.input.now (seen c.begin.new.self) (g.K.Sink.taken c.args.out.now) (seen c.block.new.self) (g.K.Sink.taken c.block.new.out) c.block.result) is.width
    (c.block.ensures.run (has_arms w p c.args.self.now h is))) (sym c.ended.ensures ∙ e)

pub returns-clause-untouched : goal.returns-clause-untouched
returns-clause-untouched g c = λ w p h is n.
    let k = c.block.ensures.told (has_arms w p c.args.self.now h is) [] in
    k.untouched
    (nothing_given p.declarations (run (fortran77 w) c.args.limit p c.args.input.now) (seen c.block.new.self) k.after _ n
    (runs_to_end (fortran77 w) p c.args.limit c.args.input.now (seen c.begin.new.self) (seen c.block.new.self) (block_of c.args.self.now.body) (Some []) (Some k.after) c.block.result
    (c.begin.ensures.names ∙ is.names) is.body (jumps_forward w p h) c.begin.ensures.opening
    (subst (λ (v : Width). Runs (λ limit. does_all (fortran77 v) limit (block_of c.args.self.now.body)) c.args.input.now (seen c.begin.new.self) (Some []) (seen c.block.new.self) (Some k.after) c.block.result) is.width k.does)))
