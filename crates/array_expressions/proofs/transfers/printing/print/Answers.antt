use Rattle.std.proofs.Common.{sym, ◌∙◌, subst, [], ◌∷◌, ◌++◌, Ok, Err, Some}
use Rattle.streams.specs.Streams.{Gives, GivesPart}
use Rattle.meaning.specs.Dialect.{fortran90}
use Rattle.meaning.specs.Run.{first_blank, writes, then, prints_items}
use Rattle.machine.specs.declared.progress.Left.TheVariants.{Unwritten}
use Rattle.machine.specs.Acts.{Runs}
use Rattle.machine.specs.Printing.{prints, plain_items}
use Rattle.machine.proofs.Residuals.{residual}
use Rattle.machine.proofs.ActLaws.{Runs-then}
use Rattle.machine.proofs.TurnLaws.{Runs-left, Stays-then, Stays-writes, Stays-prints_items, Extends-then, Extends-writes, Extends-prints_items}
use Rattle.machine.proofs.WriteLaws.{Runs-writes, Runs-unsent}
use Rattle.array_expressions.specs.assignments.Moments.{seen}
use Rattle.array_expressions.specs.transfers.Unfinished.{left_at}
use Rattle.machine.proofs.Telling.{given, behind_text, between_texts, line_ended, taken_whole}
use Rattle.array_expressions.proofs.transfers.printing.print.Goals as goal

pub returns-in_err-write_all-clause-run : goal.returns-in_err-write_all-clause-run
returns-in_err-write_all-clause-run g c = λ input.
    rw (residual c.from_residual.ensures.1)
    (Runs-left (λ limit. writes (first_blank (plain_items c.args.items.now))) (λ limit. then (prints_items (fortran90 c.args.width) limit (plain_items c.args.items.now) c.args.line) (writes (10 ∷ []))) input (seen c.args.moment.now) (seen c.args.moment.now) (g.K.Sink.taken c.args.out.now) (g.K.Sink.taken c.write_all.new.to) Unwritten
    (Runs-writes (first_blank (plain_items c.args.items.now)) input (seen c.args.moment.now) (g.K.Sink.taken c.args.out.now) (g.K.Sink.taken c.write_all.new.to) (Err c.in_err-write_all.field-0.0) (subst (λ t. GivesPart (g.K.Sink.taken c.args.out.now) t (g.K.Sink.taken c.write_all.new.to)) c.first_blank.ensures c.in_err-write_all.ensures.part))
    (Stays-then (λ limit. prints_items (fortran90 c.args.width) limit (plain_items c.args.items.now) c.args.line) (λ limit. writes (10 ∷ [])) (Stays-prints_items (fortran90 c.args.width) (plain_items c.args.items.now) c.args.line) (Stays-writes (10 ∷ [])))
    (Extends-then (λ limit. prints_items (fortran90 c.args.width) limit (plain_items c.args.items.now) c.args.line) (λ limit. writes (10 ∷ [])) (Extends-prints_items (fortran90 c.args.width) (plain_items c.args.items.now) c.args.line) (Extends-writes (10 ∷ []))))

pub returns-in_err-print_items-clause-run : goal.returns-in_err-print_items-clause-run
returns-in_err-print_items-clause-run g c = λ input.
    rw (residual c.from_residual-in_err-print_items.ensures.1)
    (Runs-then (λ limit. writes (first_blank (plain_items c.args.items.now))) (λ limit. then (prints_items (fortran90 c.args.width) limit (plain_items c.args.items.now) c.args.line) (writes (10 ∷ []))) input (seen c.args.moment.now) (seen c.args.moment.now) (g.K.Sink.taken c.args.out.now) (g.K.Sink.taken c.write_all.new.to) (seen c.print_items.new.moment) (g.K.Sink.taken c.print_items.new.out) (Err (left_at c.in_err-print_items.field-0.0))
    (Runs-writes (first_blank (plain_items c.args.items.now)) input (seen c.args.moment.now) (g.K.Sink.taken c.args.out.now) (g.K.Sink.taken c.write_all.new.to) (Ok tt) (subst (λ t. Gives (g.K.Sink.taken c.args.out.now) t (g.K.Sink.taken c.write_all.new.to)) c.first_blank.ensures c.in_ok-write_all.ensures.ok))
    (Runs-left (λ limit. prints_items (fortran90 c.args.width) limit (plain_items c.args.items.now) c.args.line) (λ limit. writes (10 ∷ [])) input (seen c.args.moment.now) (seen c.print_items.new.moment) (g.K.Sink.taken c.write_all.new.to) (g.K.Sink.taken c.print_items.new.out) (left_at c.in_err-print_items.field-0.0) (c.in_err-print_items.ensures.run input) (Stays-writes (10 ∷ [])) (Extends-writes (10 ∷ []))))

pub returns-in_err-write_all-2-clause-run : goal.returns-in_err-write_all-2-clause-run
returns-in_err-write_all-2-clause-run g c = λ input.
    rw (residual c.from_residual-in_err-write_all-2.ensures.1)
    (Runs-then (λ limit. writes (first_blank (plain_items c.args.items.now))) (λ limit. then (prints_items (fortran90 c.args.width) limit (plain_items c.args.items.now) c.args.line) (writes (10 ∷ []))) input (seen c.args.moment.now) (seen c.args.moment.now) (g.K.Sink.taken c.args.out.now) (g.K.Sink.taken c.write_all.new.to) (seen c.print_items.new.moment) (g.K.Sink.taken c.write_all-2.new.to) (Err Unwritten)
    (Runs-writes (first_blank (plain_items c.args.items.now)) input (seen c.args.moment.now) (g.K.Sink.taken c.args.out.now) (g.K.Sink.taken c.write_all.new.to) (Ok tt) (subst (λ t. Gives (g.K.Sink.taken c.args.out.now) t (g.K.Sink.taken c.write_all.new.to)) c.first_blank.ensures c.in_ok-write_all.ensures.ok))
    (Runs-then (λ limit. prints_items (fortran90 c.args.width) limit (plain_items c.args.items.now) c.args.line) (λ limit. writes (10 ∷ [])) input (seen c.args.moment.now) (seen c.print_items.new.moment) (g.K.Sink.taken c.write_all.new.to) (g.K.Sink.taken c.print_items.new.out) (seen c.print_items.new.moment) (g.K.Sink.taken c.write_all-2.new.to) (Err Unwritten) (c.in_ok-print_items.ensures.run input)
    (Runs-writes (10 ∷ []) input (seen c.print_items.new.moment) (g.K.Sink.taken c.print_items.new.out) (g.K.Sink.taken c.write_all-2.new.to) (Err c.in_err-write_all-2.field-0.0) c.in_err-write_all-2.ensures.part)))

pub returns-clause-run : goal.returns-clause-run
returns-clause-run g c = λ input.
    subst (λ n. Runs (λ limit. prints (fortran90 c.args.width) limit c.args.line (plain_items c.args.items.now)) input (seen c.args.moment.now) (g.K.Sink.taken c.args.out.now) (seen c.print_items.new.moment) n (Ok tt)) (sym c.send.ensures.taken)
    (Runs-then (λ limit. writes (first_blank (plain_items c.args.items.now))) (λ limit. then (prints_items (fortran90 c.args.width) limit (plain_items c.args.items.now) c.args.line) (writes (10 ∷ []))) input (seen c.args.moment.now) (seen c.args.moment.now) (g.K.Sink.taken c.args.out.now) (g.K.Sink.taken c.write_all.new.to) (seen c.print_items.new.moment) (g.K.Sink.taken c.write_all-2.new.to) (Ok tt)
    (Runs-writes (first_blank (plain_items c.args.items.now)) input (seen c.args.moment.now) (g.K.Sink.taken c.args.out.now) (g.K.Sink.taken c.write_all.new.to) (Ok tt) (subst (λ t. Gives (g.K.Sink.taken c.args.out.now) t (g.K.Sink.taken c.write_all.new.to)) c.first_blank.ensures c.in_ok-write_all.ensures.ok))
    (Runs-then (λ limit. prints_items (fortran90 c.args.width) limit (plain_items c.args.items.now) c.args.line) (λ limit. writes (10 ∷ [])) input (seen c.args.moment.now) (seen c.print_items.new.moment) (g.K.Sink.taken c.write_all.new.to) (g.K.Sink.taken c.print_items.new.out) (seen c.print_items.new.moment) (g.K.Sink.taken c.write_all-2.new.to) (Ok tt) (c.in_ok-print_items.ensures.run input)
    (Runs-writes (10 ∷ []) input (seen c.print_items.new.moment) (g.K.Sink.taken c.print_items.new.out) (g.K.Sink.taken c.write_all-2.new.to) (Ok tt) c.in_ok-write_all-2.ensures.ok)))

pub returns-in_err-send-clause-run : goal.returns-in_err-send-clause-run
returns-in_err-send-clause-run g c = λ input.
    rw (residual c.from_residual-in_err-send.ensures.1)
    (subst (λ n. Runs (λ limit. prints (fortran90 c.args.width) limit c.args.line (plain_items c.args.items.now)) input (seen c.args.moment.now) (g.K.Sink.taken c.args.out.now) (seen c.print_items.new.moment) n (Err Unwritten)) (sym c.send.ensures.taken)
    (Runs-unsent (λ limit. prints (fortran90 c.args.width) limit c.args.line (plain_items c.args.items.now)) input (seen c.args.moment.now) (seen c.print_items.new.moment) (g.K.Sink.taken c.args.out.now) (g.K.Sink.taken c.write_all-2.new.to)
    (Runs-then (λ limit. writes (first_blank (plain_items c.args.items.now))) (λ limit. then (prints_items (fortran90 c.args.width) limit (plain_items c.args.items.now) c.args.line) (writes (10 ∷ []))) input (seen c.args.moment.now) (seen c.args.moment.now) (g.K.Sink.taken c.args.out.now) (g.K.Sink.taken c.write_all.new.to) (seen c.print_items.new.moment) (g.K.Sink.taken c.write_all-2.new.to) (Ok tt)
    (Runs-writes (first_blank (plain_items c.args.items.now)) input (seen c.args.moment.now) (g.K.Sink.taken c.args.out.now) (g.K.Sink.taken c.write_all.new.to) (Ok tt) (subst (λ t. Gives (g.K.Sink.taken c.args.out.now) t (g.K.Sink.taken c.write_all.new.to)) c.first_blank.ensures c.in_ok-write_all.ensures.ok))
    (Runs-then (λ limit. prints_items (fortran90 c.args.width) limit (plain_items c.args.items.now) c.args.line) (λ limit. writes (10 ∷ [])) input (seen c.args.moment.now) (seen c.print_items.new.moment) (g.K.Sink.taken c.write_all.new.to) (g.K.Sink.taken c.print_items.new.out) (seen c.print_items.new.moment) (g.K.Sink.taken c.write_all-2.new.to) (Ok tt) (c.in_ok-print_items.ensures.run input)
    (Runs-writes (10 ∷ []) input (seen c.print_items.new.moment) (g.K.Sink.taken c.print_items.new.out) (g.K.Sink.taken c.write_all-2.new.to) (Ok tt) c.in_ok-write_all-2.ensures.ok)))))

pub returns-in_err-write_all-clause-told : goal.returns-in_err-write_all-clause-told
returns-in_err-write_all-clause-told g c = λ input bytes.
    let blank = first_blank (plain_items c.args.items.now) in
    given blank bytes (λ e. c.write_all.ensures.untouched (c.first_blank.ensures ∙ e))
    (rw (residual c.from_residual.ensures.1)
    (Runs-left (λ limit. writes (first_blank (plain_items c.args.items.now))) (λ limit. then (prints_items (fortran90 c.args.width) limit (plain_items c.args.items.now) c.args.line) (writes (10 ∷ []))) input (seen c.args.moment.now) (seen c.args.moment.now) (Some bytes) (Some (bytes ++ blank)) Unwritten
    (Runs-writes (first_blank (plain_items c.args.items.now)) input (seen c.args.moment.now) (Some bytes) (Some (bytes ++ blank)) (Err c.in_err-write_all.field-0.0) (taken_whole blank bytes (Err c.in_err-write_all.field-0.0)))
    (Stays-then (λ limit. prints_items (fortran90 c.args.width) limit (plain_items c.args.items.now) c.args.line) (λ limit. writes (10 ∷ [])) (Stays-prints_items (fortran90 c.args.width) (plain_items c.args.items.now) c.args.line) (Stays-writes (10 ∷ [])))
    (Extends-then (λ limit. prints_items (fortran90 c.args.width) limit (plain_items c.args.items.now) c.args.line) (λ limit. writes (10 ∷ [])) (Extends-prints_items (fortran90 c.args.width) (plain_items c.args.items.now) c.args.line) (Extends-writes (10 ∷ [])))))

pub returns-in_err-print_items-clause-told : goal.returns-in_err-print_items-clause-told
returns-in_err-print_items-clause-told g c = λ input bytes.
    let blank = first_blank (plain_items c.args.items.now) in
    let l = c.in_err-print_items.ensures.told input (bytes ++ blank) in
    behind_text blank bytes (λ e. c.write_all.ensures.untouched (c.first_blank.ensures ∙ e)) l
    (rw (residual c.from_residual-in_err-print_items.ensures.1)
    (Runs-then (λ limit. writes (first_blank (plain_items c.args.items.now))) (λ limit. then (prints_items (fortran90 c.args.width) limit (plain_items c.args.items.now) c.args.line) (writes (10 ∷ []))) input (seen c.args.moment.now) (seen c.args.moment.now) (Some bytes) (Some (bytes ++ blank)) (seen c.print_items.new.moment) (Some l.after) (Err (left_at c.in_err-print_items.field-0.0))
    (Runs-writes (first_blank (plain_items c.args.items.now)) input (seen c.args.moment.now) (Some bytes) (Some (bytes ++ blank)) (Ok tt) (taken_whole blank bytes (Ok tt)))
    (Runs-left (λ limit. prints_items (fortran90 c.args.width) limit (plain_items c.args.items.now) c.args.line) (λ limit. writes (10 ∷ [])) input (seen c.args.moment.now) (seen c.print_items.new.moment) (Some (bytes ++ blank)) (Some l.after) (left_at c.in_err-print_items.field-0.0) l.does (Stays-writes (10 ∷ [])) (Extends-writes (10 ∷ [])))))

pub returns-in_err-write_all-2-clause-told : goal.returns-in_err-write_all-2-clause-told
returns-in_err-write_all-2-clause-told g c = λ input bytes.
    let blank = first_blank (plain_items c.args.items.now) in
    let l = c.in_ok-print_items.ensures.told input (bytes ++ blank) in
    between_texts blank (10 ∷ []) bytes (λ e. c.write_all.ensures.untouched (c.first_blank.ensures ∙ e)) l c.write_all-2.ensures.untouched
    (rw (residual c.from_residual-in_err-write_all-2.ensures.1)
    (Runs-then (λ limit. writes (first_blank (plain_items c.args.items.now))) (λ limit. then (prints_items (fortran90 c.args.width) limit (plain_items c.args.items.now) c.args.line) (writes (10 ∷ []))) input (seen c.args.moment.now) (seen c.args.moment.now) (Some bytes) (Some (bytes ++ blank)) (seen c.print_items.new.moment) (Some (l.after ++ 10 ∷ [])) (Err Unwritten)
    (Runs-writes (first_blank (plain_items c.args.items.now)) input (seen c.args.moment.now) (Some bytes) (Some (bytes ++ blank)) (Ok tt) (taken_whole blank bytes (Ok tt)))
    (Runs-then (λ limit. prints_items (fortran90 c.args.width) limit (plain_items c.args.items.now) c.args.line) (λ limit. writes (10 ∷ [])) input (seen c.args.moment.now) (seen c.print_items.new.moment) (Some (bytes ++ blank)) (Some l.after) (seen c.print_items.new.moment) (Some (l.after ++ 10 ∷ [])) (Err Unwritten) l.does
    (Runs-writes (10 ∷ []) input (seen c.print_items.new.moment) (Some l.after) (Some (l.after ++ 10 ∷ [])) (Err c.in_err-write_all-2.field-0.0) (taken_whole (10 ∷ []) l.after (Err c.in_err-write_all-2.field-0.0))))))

pub returns-clause-told : goal.returns-clause-told
returns-clause-told g c = λ input bytes.
    let blank = first_blank (plain_items c.args.items.now) in
    let l = c.in_ok-print_items.ensures.told input (bytes ++ blank) in
    line_ended blank bytes l
    (Runs-then (λ limit. writes (first_blank (plain_items c.args.items.now))) (λ limit. then (prints_items (fortran90 c.args.width) limit (plain_items c.args.items.now) c.args.line) (writes (10 ∷ []))) input (seen c.args.moment.now) (seen c.args.moment.now) (Some bytes) (Some (bytes ++ blank)) (seen c.print_items.new.moment) (Some (l.after ++ 10 ∷ [])) (Ok tt)
    (Runs-writes (first_blank (plain_items c.args.items.now)) input (seen c.args.moment.now) (Some bytes) (Some (bytes ++ blank)) (Ok tt) (taken_whole blank bytes (Ok tt)))
    (Runs-then (λ limit. prints_items (fortran90 c.args.width) limit (plain_items c.args.items.now) c.args.line) (λ limit. writes (10 ∷ [])) input (seen c.args.moment.now) (seen c.print_items.new.moment) (Some (bytes ++ blank)) (Some l.after) (seen c.print_items.new.moment) (Some (l.after ++ 10 ∷ [])) (Ok tt) l.does
    (Runs-writes (10 ∷ []) input (seen c.print_items.new.moment) (Some l.after) (Some (l.after ++ 10 ∷ [])) (Ok tt) (taken_whole (10 ∷ []) l.after (Ok tt)))))

pub returns-in_err-send-clause-told : goal.returns-in_err-send-clause-told
returns-in_err-send-clause-told g c = λ input bytes.
    let blank = first_blank (plain_items c.args.items.now) in
    let l = c.in_ok-print_items.ensures.told input (bytes ++ blank) in
    line_ended blank bytes l
    (rw (residual c.from_residual-in_err-send.ensures.1)
    (Runs-unsent (λ limit. prints (fortran90 c.args.width) limit c.args.line (plain_items c.args.items.now)) input (seen c.args.moment.now) (seen c.print_items.new.moment) (Some bytes) (Some (l.after ++ 10 ∷ []))
    (Runs-then (λ limit. writes (first_blank (plain_items c.args.items.now))) (λ limit. then (prints_items (fortran90 c.args.width) limit (plain_items c.args.items.now) c.args.line) (writes (10 ∷ []))) input (seen c.args.moment.now) (seen c.args.moment.now) (Some bytes) (Some (bytes ++ blank)) (seen c.print_items.new.moment) (Some (l.after ++ 10 ∷ [])) (Ok tt)
    (Runs-writes (first_blank (plain_items c.args.items.now)) input (seen c.args.moment.now) (Some bytes) (Some (bytes ++ blank)) (Ok tt) (taken_whole blank bytes (Ok tt)))
    (Runs-then (λ limit. prints_items (fortran90 c.args.width) limit (plain_items c.args.items.now) c.args.line) (λ limit. writes (10 ∷ [])) input (seen c.args.moment.now) (seen c.print_items.new.moment) (Some (bytes ++ blank)) (Some l.after) (seen c.print_items.new.moment) (Some (l.after ++ 10 ∷ [])) (Ok tt) l.does
    (Runs-writes (10 ∷ []) input (seen c.print_items.new.moment) (Some l.after) (Some (l.after ++ 10 ∷ [])) (Ok tt) (taken_whole (10 ∷ []) l.after (Ok tt)))))))
