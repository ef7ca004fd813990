use Rattle.std.proofs.Common.{◌≡◌, sym, ap, ◌∙◌, ◌+◌, ◌-◌, take, drop, List, subst, map, arith}
use mathlib.Core.Path.{ap₂}
use Rattle.tree.specs.declared.ops.Value.{Value}
use Rattle.meaning.specs.Store.{cells_of}
use Rattle.meaning.specs.Steps.{lines_of_cells}
use Rattle.meaning.specs.Extents.{elements_of}
use Rattle.std.proofs.Common.{Some}
use Rattle.machine.specs.Storage.{bounds_list}
use Rattle.machine.specs.Stored.{names_in, store_in, bounds_here}
use Rattle.machine.specs.Texts.{WritesText}
use Rattle.machine.proofs.ColumnMajor.{all_held}
use Rattle.machine.proofs.ShowLaws.{no_values_there}
use Rattle.machine.proofs.storage.Storage.show_elements.Goals as goal

pub returns-clause-text : goal.returns-clause-text
returns-clause-text g c =
    let v = c.args.variable.now in
    let s = c.args.self.now in
    let bs : bounds_list c.dims_of-dims.result.now ≡ bounds_here v = c.dims_of-dims.ensures in
    let n : elements_of (bounds_here v) ≡ v.start + c.elements.result - v.start =
    (let e = c.elements.ensures ∙ ap elements_of bs in omega arith) in
    let held = all_held (names_in s) s.values.items c.args.name v c.requires (omega (arith, s.filled, s.values.ok.0, c.requires.fits))
    ∙ ap₂ (λ m (xs : List Value). take m (drop v.start xs)) n (sym c.deref.ensures.value) in
    subst (λ bs. WritesText (g.K.Sink.taken c.args.out.now) (lines_of_cells c.args.name (Some bs) (store_in s))
    (g.K.Sink.taken c.write_lines.new.out) c.write_lines.result) bs
    (c.write_lines.ensures.text (store_in s) (ap (λ bs. map (store_in s).held (cells_of c.args.name bs)) bs ∙ held))

pub returns-clause-untouched : goal.returns-clause-untouched
returns-clause-untouched g c = λ e.
    let v = c.args.variable.now in
    let s = c.args.self.now in
    let bs : bounds_list c.dims_of-dims.result.now ≡ bounds_here v = c.dims_of-dims.ensures in
    let n : elements_of (bounds_here v) ≡ v.start + c.elements.result - v.start =
    (let e = c.elements.ensures ∙ ap elements_of bs in omega arith) in
    let held = all_held (names_in s) s.values.items c.args.name v c.requires (omega (arith, s.filled, s.values.ok.0, c.requires.fits))
    ∙ ap₂ (λ m (xs : List Value). take m (drop v.start xs)) n (sym c.deref.ensures.value) in
    c.write_lines.ensures.untouched (no_values_there c.args.name (bounds_here v) (store_in s) _ held e)
