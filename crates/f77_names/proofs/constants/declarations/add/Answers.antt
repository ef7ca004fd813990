use Rattle.f77_names.proofs.constants.NameOrder.{already, placed}
use Rattle.f77_names.proofs.constants.declarations.add.Goals as goal

pub returns-in-Ok : goal.returns-in-Ok
returns-in-Ok c = λ h. already c.args.name c.deref.result.now c.args.names.now.items c.in-Ok.field-0 c.deref.ensures.value h c.in-Ok.ensures.bound c.in-Ok.ensures.position

pub returns-in_ok-insert-in-Err : goal.returns-in_ok-insert-in-Err
returns-in_ok-insert-in-Err c = λ h.
    placed c.args.name c.deref.result.now c.args.names.now.items c.insert.new.self.items c.in-Err.place c.deref.ensures.value h c.in-Err.ensures.bound c.in-Err.ensures.position
    c.in_ok-insert-in-Err.ensures.items
