use Rattle.std.proofs.Common.{◌≡◌, sym, ap, ◌∙◌, subst, cond, Some, None, map, arith}
use Rattle.streams.specs.Streams.{Gives}
use Rattle.streams.proofs.Chained.{gives_none}
use Rattle.meaning.specs.Store.{cells_of}
use Rattle.meaning.specs.Steps.{lines_of_cells}
use Rattle.machine.specs.Texts.{WritesText}
use Rattle.machine.proofs.ShowLaws.{no_values_there}
use Rattle.array_values.specs.storage.Bounds.{bounds_held}
use Rattle.array_values.specs.storage.Slots.{store_among}
use Rattle.array_values.proofs.storage.HeldBounds.{held_dims}
use Rattle.array_values.proofs.storage.ShowLaws.{all_values, filled_lines, empty_lines}
use Rattle.array_values.proofs.storage.slots.Slot.show.Goals as goal

pub returns-in-Filled-clause-text : goal.returns-in-Filled-clause-text
returns-in-Filled-clause-text g c = λ vs i h.
    let v = c.args.self.now in
    let x = c.args.name in
    let items : c.deref.result.now ≡ v.values.items = c.deref.ensures.value in
    let held = all_values vs x v i h (omega (arith, v.filled, v.values.ok.0)) in
    subst (λ ls. WritesText (g.K.Sink.taken c.args.out.now) ls (g.K.Sink.taken c.write_lines.new.out) c.write_lines.result)
    (filled_lines x v (store_among vs) c.if-not-self.false c.in-Filled.dims c.as_slice.result.now c.in-Filled.is c.as_slice.ensures)
    (c.write_lines.ensures.text (store_among vs)
    (ap (λ bs. map (store_among vs).held (cells_of x bs)) (held_dims v.bounds c.in-Filled.dims c.as_slice.result.now c.in-Filled.is c.as_slice.ensures) ∙ held ∙ sym items))

pub returns-in-Filled-clause-untouched : goal.returns-in-Filled-clause-untouched
returns-in-Filled-clause-untouched g c = λ vs i h e.
    let v = c.args.self.now in
    let x = c.args.name in
    let items : c.deref.result.now ≡ v.values.items = c.deref.ensures.value in
    let held = all_values vs x v i h (omega (arith, v.filled, v.values.ok.0)) in
    c.write_lines.ensures.untouched
    (items ∙ no_values_there x (bounds_held v.bounds) (store_among vs) v.values.items held
    (sym (ap (λ b. lines_of_cells x (cond b (Some (bounds_held v.bounds)) None) (store_among vs)) c.if-not-self.false) ∙ e))

pub returns-in-Empty-clause-text : goal.returns-in-Empty-clause-text
returns-in-Empty-clause-text g c = λ vs i h.
    subst (λ t. Gives (g.K.Sink.taken c.args.out.now) t (g.K.Sink.taken c.args.out.now))
    (sym (empty_lines c.args.name c.args.self.now (store_among vs) c.if-not-self.false c.in-Empty.field-0 c.in-Empty.is))
    (gives_none (g.K.Sink.taken c.args.out.now))
