-- The extents of a prepared nest's arrays are within the limits of linear forms.
use Rattle.std.proofs.Common.{◌≡◌, refl, sym, ap, ◌∙◌, subst, inl, inr, ℕ, pos, Bool, true, false, cond, List, [], ◌∷◌, ◌++◌, length, Option, Some, None, arith}
use Rattle.std.specs.Prelude.{int_div}
use Rattle.components.proofs.ListLaws.{Each-append}
use Rattle.last_values.specs.declared.normal_forms.combinations.Multiple.{Multiple}
use Rattle.last_values.specs.normal_forms.Combinations.{combination, number_form, times, without_loops}
use Rattle.last_values.specs.normal_forms.NormalLoops.{is_constant, trip_of}
use Rattle.last_values.specs.normal_forms.Steps.{◌>>=◌}
use Rattle.nest.specs.Bodies.{nest_loops}
use Rattle.nest.specs.Plain.{Nest}
use Rattle.nest.specs.declared.parts.Trip.{Trip}
use Rattle.nest_order.specs.orders.Lists.{In}
use Rattle.pass_laws.proofs.NormalFacts.StatementKinds.{IsSmallForm, small_form}
use Rattle.pass_laws.proofs.NormalFacts.Tables.{each_asked}
use Rattle.pass_laws.proofs.ReadyNests.Sums.{Zero, number_is_form, small_quotient, sum_is_form, sum_of}
use Rattle.pass_laws.specs.prepared_nests.Loops.{IsPreparedLoop, IsPreparedTrip, variables_of_loops}
use Rattle.pass_laws.specs.prepared_nests.Nests.{IsPrepared}
use Rattle.pass_laws.proofs.PreparedNests.Lists.{some_of}
use Rattle.pass_laws.proofs.PreparedNests.Normal.LoopSizes.{IsSized, sum_sized, trip_sized}
use Rattle.pass_laws.proofs.PreparedNests.Walks.{walked}
use Rattle.subscripts.specs.declared.affine.Affine.{Affine}
use Rattle.tree.specs.Plain.{Declaration}
use Rattle.scalar_expand.specs.Extents.{extent_under, extents_of_trips, extents_under, greatest_from}
use Rattle.scalar_expand.specs.Privates.{private_scalars, trip_or_none, trips_of}
use Rattle.scalar_expand.specs.declared.privates.Private.{Private}
use Rattle.scalar_expand.specs.declared.privates.RoundLoop.{RoundLoop}
use Rattle.scalar_expand.proofs.Covers.{Found, extents_found}
use Rattle.prepared_passes.specs.expansion.Laws.{MayBeExpanded}
use Rattle.prepared_passes.proofs.ExpandedNests.Round.{begins, round_loop_is}
use Rattle.prepared_passes.proofs.ExpandedNests.Texts.{AllSmall, IsSmallTrip, form_sized}

none_past : (a : Affine) → Zero 7 a
none_past a k l m = absurd (omega (arith, l, m))

sum_small : (n : ℕ) (ts : List Multiple) (a : Affine) → combination n ts ≡ Some a → IsSmallForm a
sum_small n ts a h = small_form 7 a (sum_is_form n 7 ts a h (omega arith) (none_past a))

pub trip_small : (n : ℕ) (ts : List Multiple) (a : Affine) (t : Trip) → combination n ts ≡ Some a → IsSmallTrip t → IsSmallTrip (trip_of a t.by)
trip_small n ts a t h s = subst (λ z. IsSmallTrip (trip_of a z)) (sym s.by) (by (is_constant a) (trip_sized a (pos s.divisor) (sum_sized n ts a h)))
  where
    by : (b : Bool) → IsSized (cond {A = Trip} b (record { top = number_form (int_div a.constant (pos s.divisor)); by = pos 1 }) (record { top = a; by = pos s.divisor })).top
        → IsSmallTrip (cond {A = Trip} b (record { top = number_form (int_div a.constant (pos s.divisor)); by = pos 1 }) (record { top = a; by = pos s.divisor }))
    by true z = record {
      top = small_form 7 (number_form (int_div a.constant (pos s.divisor))) (number_is_form 7 (int_div a.constant (pos s.divisor)) (small_quotient a.constant s.divisor (sum_of n ts a h).constant));
      sized = z;
      divisor = 1;
      by = refl;
      positive = omega arith;
      small = omega arith;
    }
    by false z = record { top = sum_small n ts a h; sized = z; divisor = s.divisor; by = refl; positive = s.positive; small = s.small }

pub extents_small : (n : ℕ) (ts us fin : List Trip) → AllSmall us → extents_under n ts us ≡ Some fin → AllSmall ts → AllSmall fin
unfolding extent_under
extents_small n ts [] fin d h k = let same : ts ≡ fin = cc in subst AllSmall same k
extents_small n ts (t ∷ us) fin d h k =
    by (combination n (greatest_from 0 t.top ts ++ times (pos 1) (without_loops t.top) ∷ [])) refl h
    (λ a f g. extents_small n (ts ++ trip_of a t.by ∷ []) us fin d.1 g (Each-append IsSmallTrip ts (trip_of a t.by ∷ []) k (trip_small n (greatest_from 0 t.top ts ++ times (pos 1) (without_loops t.top) ∷ []) a t f d.0, tt)))
  where
    by : (o : Option Affine) → combination n (greatest_from 0 t.top ts ++ times (pos 1) (without_loops t.top) ∷ []) ≡ o → extents_under n ts (t ∷ us) ≡ Some fin
        → ((a : Affine) → combination n (greatest_from 0 t.top ts ++ times (pos 1) (without_loops t.top) ∷ []) ≡ Some a → extents_under n (ts ++ trip_of a t.by ∷ []) us ≡ Some fin → AllSmall fin) → AllSmall fin
    by None f g r =
        let bad : ◌≡◌ {A = Option (List Trip)} None (Some fin) = sym (ap (λ (o : Option Affine). (do e ← (do a ← o; Some (trip_of a t.by)); extents_under n (ts ++ e ∷ []) us)) f) ∙ g in
        cc
    by (Some a) f g r = r a f (sym (ap (λ (o : Option Affine). (do e ← (do a ← o; Some (trip_of a t.by)); extents_under n (ts ++ e ∷ []) us)) f) ∙ g)

module _ (es : List Declaration) (around : List (List ℕ)) (deepest : ℕ) (m : Nest) (h : IsPrepared es around deepest m) (may : MayBeExpanded es m) where
  round_small : (p : Private) → In p (private_scalars m) → (l : RoundLoop) → In l p.loops → IsSmallTrip l.trip
  round_small p i l j =
      let o = round_loop_is es around deepest m h may p i l j in
      let r = each_asked (IsPreparedLoop es m.symbols) (nest_loops m) [] m.body h.plain (walked (IsPreparedLoop es m.symbols) [] m.body h.parts.loops) o.0 o.1 in
      let s = some_of (IsPreparedTrip (variables_of_loops r.round) m.symbols o.0.last) o.0.trip r.asked.trip in
      let t : Trip = s.value in
      let same : l.trip ≡ t = ap (λ (k : RoundLoop). k.trip) o.2 ∙ ap trip_or_none s.is in
      let q = s.has in
      subst IsSmallTrip (sym same) (record {
        top = small_form (length (variables_of_loops r.round)) t.top q.top;
        sized = form_sized m.symbols (variables_of_loops r.round) o.0.last t q;
        divisor = q.divisor;
        by = q.by;
        positive = q.positive;
        small = q.small;
      })

  pub trips_small : (p : Private) → In p (private_scalars m) → AllSmall (trips_of p.loops)
  trips_small p i = each p.loops (λ l j. round_small p i l j)
    where
      each : (ls : List RoundLoop) → ((l : RoundLoop) → In l ls → IsSmallTrip l.trip) → AllSmall (trips_of ls)
      each [] f = tt
      each (l ∷ ls) f = (f l (inl refl), each ls (λ k j. f k (inr j)))

  pub found_extents : (p : Private) → In p (private_scalars m) → Found (length m.symbols) (λ k. pos 0) (trips_of p.loops) p.extents
  found_extents p i =
      let b = begins es around deepest m h may p i in
      extents_found (length m.symbols) (λ k. pos 0) (trips_of p.loops) p.extents (ap (λ (ls : List RoundLoop). extents_of_trips (length m.symbols) (trips_of ls)) b.2.loops ∙ b.2.extents)

  pub all_small : (p : Private) → In p (private_scalars m) → AllSmall p.extents
  all_small p i = extents_small (length m.symbols) [] (trips_of p.loops) p.extents (trips_small p i) (found_extents p i).under tt
