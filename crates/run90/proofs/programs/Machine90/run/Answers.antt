use Rattle.std.proofs.Common.{◌≡◌, sym, ◌∙◌, subst, map, []}
use Rattle.tree.specs.Plain.{Program}
use Rattle.tree.specs.View.{block_of, declaration_of}
use Rattle.meaning.specs.Blocks.{outermost}
use Rattle.meaning.specs.Dialect.{fortran90}
use Rattle.meaning.specs.Profile90.{IsProgram90, IsBlock}
use Rattle.meaning.specs.Run.{run}
use Rattle.machine.proofs.Residuals.{residual}
use Rattle.meaning_laws.proofs.profiles.Forward.{target_jumps_forward}
use Rattle.array_expressions.specs.assignments.Moments.{seen}
use Rattle.run90.specs.declared.programs.Machine90.{Machine90}
use Rattle.run90.specs.Machine.{IsMachineOf}
use Rattle.run90.proofs.Ending.{no_front, opening, named, suits_opening, only_unwritten, run_ends, run_left, run_gives_nothing}
use Rattle.tree.specs.declared.width.Width.{Width}
use Rattle.machine.specs.Endings.{Ends, IsLeftAt}
use Rattle.run90.specs.Machine.{HasFrontOf, ending_of}
use Rattle.std.specs.Prelude.{MatchResult}
use Rattle.run90.proofs.programs.Machine90.run.Goals as goal

statements : (w : Width) (p : Program) (m : Machine90) → IsProgram90 p → IsMachineOf w p m → IsBlock p.declarations (block_of m.body) outermost
statements w p m h is = subst (λ b. IsBlock p.declarations b outermost) (sym is.body) h.statements

pub returns-in_err-moment-clause-run : goal.returns-in_err-moment-clause-run
returns-in_err-moment-clause-run g c = λ w p h is. rw (residual c.from_residual.ensures.1) (no_front (run (fortran90 w) c.args.limit p c.args.input.now).written (g.K.Sink.taken c.args.out.now))

pub returns-clause-run : goal.returns-clause-run
returns-clause-run g c = λ w p h is.
    let m = c.in_ok-moment.moment in
    let ds = map declaration_of c.args.self.now.decls in
    rw c.finished.ensures
    (subst (λ (u : Width). MatchResult (ending_of c.block.result) (λ end. Ends p.declarations (run (fortran90 u) c.args.limit p c.args.input.now) (seen c.block.new.moment) (g.K.Sink.taken c.args.out.now) (g.K.Sink.taken c.block.new.out) end) (λ _. HasFrontOf (run (fortran90 u) c.args.limit p c.args.input.now).written (g.K.Sink.taken c.args.out.now) (g.K.Sink.taken c.block.new.out))) is.width
    (run_ends c.args.self.now.width p c.args.limit c.args.input.now (seen m) (seen c.block.new.moment) (block_of c.args.self.now.body) (named c.args.self.now.width p c.args.limit ds (seen m) c.in_ok-moment.ensures is.names) is.body (target_jumps_forward p h)
    (opening c.args.self.now.width p c.args.limit ds (seen m) c.in_ok-moment.ensures is.names)
    (g.K.Sink.taken c.args.out.now) (g.K.Sink.taken c.block.new.out) c.block.result
    (c.block.ensures.run p outermost (statements w p c.args.self.now h is) (suits_opening c.args.self.now.width p c.args.limit ds (seen m) c.in_ok-moment.ensures is.names))))

pub returns-clause-unwritten : goal.returns-clause-unwritten
returns-clause-unwritten g c = λ w p h is e.
    let m = c.in_ok-moment.moment in
    let ds = map declaration_of c.args.self.now.decls in
    subst (λ (u : Width). IsLeftAt (fortran90 u) c.args.limit p c.args.input.now (seen c.block.new.moment).store (g.K.Sink.taken c.args.out.now) (g.K.Sink.taken c.block.new.out)) is.width
    (run_left c.args.self.now.width p c.args.limit c.args.input.now (seen m) (seen c.block.new.moment) (block_of c.args.self.now.body) (named c.args.self.now.width p c.args.limit ds (seen m) c.in_ok-moment.ensures is.names) is.body (target_jumps_forward p h)
    (opening c.args.self.now.width p c.args.limit ds (seen m) c.in_ok-moment.ensures is.names)
    (g.K.Sink.taken c.args.out.now) (g.K.Sink.taken c.block.new.out) c.block.result
    (c.block.ensures.run p outermost (statements w p c.args.self.now h is) (suits_opening c.args.self.now.width p c.args.limit ds (seen m) c.in_ok-moment.ensures is.names))
    (sym c.finished.ensures ∙ e))

pub returns-clause-machine : goal.returns-clause-machine
returns-clause-machine g c = λ w p h is. record { names = is.names; body = is.body; width = is.width }

pub returns-clause-untouched : goal.returns-clause-untouched
returns-clause-untouched g c = λ w p h is n.
    let m = c.in_ok-moment.moment in
    let ds = map declaration_of c.args.self.now.decls in
    let k = c.block.ensures.told p outermost (statements w p c.args.self.now h is) (suits_opening c.args.self.now.width p c.args.limit ds (seen m) c.in_ok-moment.ensures is.names) [] in
    k.untouched
    (run_gives_nothing c.args.self.now.width p c.args.limit c.args.input.now (seen m) (seen c.block.new.moment) (block_of c.args.self.now.body) (named c.args.self.now.width p c.args.limit ds (seen m) c.in_ok-moment.ensures is.names) is.body (target_jumps_forward p h)
    (opening c.args.self.now.width p c.args.limit ds (seen m) c.in_ok-moment.ensures is.names) k.after c.block.result k.does (subst (λ (u : Width). (run (fortran90 u) c.args.limit p c.args.input.now).written ≡ []) (sym is.width) n))

pub returns-clause-fault : goal.returns-clause-fault
returns-clause-fault g c = λ e. c.block.ensures.fault (only_unwritten c.block.result (sym c.finished.ensures ∙ e))
