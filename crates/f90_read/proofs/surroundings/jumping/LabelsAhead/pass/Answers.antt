use Rattle.std.proofs.Common.{sym, subst}
use Rattle.f90_laws.specs.blocks.Places.{labels_ahead}
use Rattle.f90_statement.specs.Views.{IsStatementOf}
use Rattle.f90_read.specs.surroundings.Jumps.{left}
use Rattle.f90_read.proofs.OfSurroundings.PassLaws.{Begins, Ends, Turns, ahead_of_begun, ahead_of_ended, ahead_of_turned, ahead_of_label, on_ok}
use Rattle.f90_read.proofs.surroundings.jumping.LabelsAhead.pass.Goals as goal

pub returns-in-Label : goal.returns-in-Label
returns-in-Label c p ps h l =
    on_ok c.add.result (λ k. ahead_of_label c.add.new.self p ps c.in-Label.label (subst (λ s. IsStatementOf s p.form) c.in-Label.is h) k)
    (c.add.ensures (labels_ahead ps) l)

pub returns-in-ElseIf : goal.returns-in-ElseIf
returns-in-ElseIf c p ps h l =
    on_ok c.turn.result (λ k. ahead_of_turned c.turn.new.self p ps c.args.statement.now (subst Turns (sym c.in-ElseIf.is) tt) h k) (c.turn.ensures (labels_ahead ps) l)

pub returns-in-Else : goal.returns-in-Else
returns-in-Else c p ps h l =
    on_ok c.turn-in-Else.result (λ k. ahead_of_turned c.turn-in-Else.new.self p ps c.args.statement.now (subst Turns (sym c.in-Else.is) tt) h k) (c.turn-in-Else.ensures (labels_ahead ps) l)

pub returns-in-EndIf : goal.returns-in-EndIf
returns-in-EndIf c p ps h l =
    on_ok c.enter.result (λ k. ahead_of_ended c.enter.new.self p ps c.args.statement.now (subst Ends (sym c.in-EndIf.is) tt) h k) (c.enter.ensures (labels_ahead ps) l)

pub returns-in-EndDo : goal.returns-in-EndDo
returns-in-EndDo c p ps h l =
    on_ok c.enter-in-EndDo.result (λ k. ahead_of_ended c.enter-in-EndDo.new.self p ps c.args.statement.now (subst Ends (sym c.in-EndDo.is) tt) h k) (c.enter-in-EndDo.ensures (labels_ahead ps) l)

pub returns-in-If : goal.returns-in-If
returns-in-If c p ps h l = ahead_of_begun c.leave.new.self p ps c.args.statement.now (subst Begins (sym c.in-If.is) tt) h (c.leave.ensures (labels_ahead ps) l)

pub returns-in-Do : goal.returns-in-Do
returns-in-Do c p ps h l = ahead_of_begun c.leave-in-Do.new.self p ps c.args.statement.now (subst Begins (sym c.in-Do.is) tt) h (c.leave-in-Do.ensures (labels_ahead ps) l)
