use Rattle.std.proofs.Common.{◌≡◌, sym, ap, subst, ◌∙◌, ℕ, ◌<◌, List, length, Result, Ok}
use Rattle.std.specs.Prelude.{All}
use Rattle.tree.specs.declared.ops.Value.{Value}
use Rattle.tree.specs.declared.ops.Fault.{Fault}
use Rattle.meaning.specs.Dialect.{fortran90}
use Rattle.meaning.specs.ArrayValues.{size}
use Rattle.array_values.specs.Arrays.{elements_in}
use Rattle.array_values.proofs.Steps.{residual}
use Rattle.array_values.specs.storage.array_places.Places.{places_there}
use Rattle.array_values.proofs.storage.ArrayPlaces.Stages.{mask_failed, values_failed, range_failed, these_stored}
use Rattle.array_values.proofs.storage.array_places.writes.writes_under.Goals as goal

pub returns-in_err-chosen : goal.returns-in_err-chosen
returns-in_err-chosen c = λ bs axes x s.
    rw (residual c.from_residual.ensures.1)
    (mask_failed (fortran90 c.args.width) (elements_in c.args.mask.now) x axes (elements_in c.args.right.now) bs c.as_slice-extents.result.now c.in_err-chosen.field-0.0
    (c.as_slice-extents.ensures ∙ s.extents) c.in_err-chosen.ensures.places)

pub values_at-requires : goal.values_at-requires
values_at-requires c = subst (All (λ k. k < size c.as_slice-extents.result.now)) (sym c.as_slice-picks.ensures) c.in_ok-chosen.ensures.within

pub returns-in_err-values : goal.returns-in_err-values
returns-in_err-values c = λ bs axes x s.
    rw (residual c.from_residual-in_err-values.ensures.1)
    (values_failed (fortran90 c.args.width) (elements_in c.args.mask.now) x axes (elements_in c.args.right.now) bs c.as_slice-extents.result.now c.as_slice-picks.result.now c.in_err-values.field-0.0
    (c.as_slice-extents.ensures ∙ s.extents)
    (c.in_ok-chosen.ensures.places ∙ ap (λ (ks : List ℕ). let r : Result (List ℕ) Fault = Ok ks in r) (sym c.as_slice-picks.ensures)) c.in_err-values.ensures)

pub returns-in_err-check_all : goal.returns-in_err-check_all
returns-in_err-check_all c = λ bs axes x s.
    rw (residual c.from_residual-in_err-check_all.ensures.1)
    (range_failed (fortran90 c.args.width) (elements_in c.args.mask.now) x axes (elements_in c.args.right.now) c.as_slice-extents.result.now c.as_slice-picks.result.now c.as_slice-found.result.now c.in_err-check_all.field-0.0
    (c.as_slice-extents.ensures ∙ s.extents)
    (c.in_ok-chosen.ensures.places ∙ ap (λ (ks : List ℕ). let r : Result (List ℕ) Fault = Ok ks in r) (sym c.as_slice-picks.ensures))
    (c.in_ok-values.ensures ∙ ap (λ (vs : List Value). let r : Result (List Value) Fault = Ok vs in r) (sym c.as_slice-found.ensures))
    c.in_err-check_all.ensures)

pub picked-requires : goal.picked-requires
picked-requires c =
    let e : size c.as_slice-extents.result.now ≡ length c.as_slice-all.result.now = ap size c.as_slice-extents.ensures ∙ sym c.requires ∙ sym (ap length c.as_slice-all.ensures) in
    subst (All (λ k. k < length c.as_slice-all.result.now)) (sym c.as_slice-picks.ensures)
    (subst (λ n. All (λ k. k < n) c.in_ok-chosen.chosen) e c.in_ok-chosen.ensures.within)

pub returns : goal.returns
returns c = λ bs axes x s.
    let t = c.args.target.now in
    let e : size c.as_slice-extents.result.now ≡ length t.places = ap size c.as_slice-extents.ensures ∙ sym c.requires in
    these_stored (fortran90 c.args.width) (elements_in c.args.mask.now) x axes (elements_in c.args.right.now) bs t c.as_slice-extents.result.now c.as_slice-picks.result.now c.as_slice-found.result.now
    (record { places = c.in_ok-places.places; values = c.in_ok-values.values }) s
    (c.as_slice-extents.ensures ∙ s.extents)
    (c.in_ok-chosen.ensures.places ∙ ap (λ (ks : List ℕ). let r : Result (List ℕ) Fault = Ok ks in r) (sym c.as_slice-picks.ensures))
    (c.in_ok-values.ensures ∙ ap (λ (vs : List Value). let r : Result (List Value) Fault = Ok vs in r) (sym c.as_slice-found.ensures))
    c.in_ok-check_all.ensures
    (subst (All (λ k. k < length t.places)) (sym c.as_slice-picks.ensures) (subst (λ n. All (λ k. k < n) c.in_ok-chosen.chosen) e c.in_ok-chosen.ensures.within))
    (c.in_ok-places.ensures ∙ ap (λ ks. places_there ks c.as_slice-picks.result.now) c.as_slice-all.ensures)
    (sym c.as_slice-found.ensures)
