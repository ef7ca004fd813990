-- The last iterations of loops, and trips that stay.
use Rattle.std.proofs.Common.{◌≡◌, refl, sym, ap, ◌∙◌, inl, inr, subst, ℕ, ℤ, pos, ◌+ℤ◌, true, List, [], ◌∷◌, ◌++◌, map, length}
use Rattle.std.specs.Prelude.{int_div}
use Rattle.std.specs.List.{list_all}
use Rattle.linear_forms.proofs.Sizes.{both}
use Rattle.nest.specs.Plain.{Loop}
use Rattle.nest_order.specs.orders.Lists.{In}
use Rattle.subscripts.specs.declared.affine.Affine.{Affine}
use Rattle.last_values.specs.declared.normal_forms.places.Place.TheVariants as place
use Rattle.last_values.specs.normal_forms.Combinations.{number_of_place}
use Rattle.last_values.specs.normal_forms.NormalLoops.{has_no_loops}
use Rattle.last_values.specs.normal_forms.Numbers.{number_of_form, products}
use Rattle.last_values.proofs.NormalForms.Numbers.{products-alike, products-zero}
use Rattle.scalar_expand.specs.Flow.{lasts_of}
use Rattle.scalar_expand.specs.Laws.{End, Steady}
use Rattle.scalar_expand.specs.Numbers.{TripsEnd, at_loops, ends_of, ends_under, trip_at, turns_to}
use Rattle.scalar_expand.specs.Privates.{private_scalars, round_loop, trip_or_none}
use Rattle.scalar_expand.specs.declared.privates.RoundLoop.{RoundLoop}
use Rattle.scalar_expand.proofs.Covers.{loops_zero}

abbrev plain : RoundLoop → Rattle.std.specs.Prelude.Bool
plain l = has_no_loops l.trip.top

each_plain : (ls : List Loop) → list_all plain (map round_loop ls) ≡ true → (l : Loop) → In l ls → has_no_loops (trip_or_none l.trip).top ≡ true
each_plain [] h l i = absurd i
each_plain (o ∷ ls) h l (inl e) =
    subst (λ (k : Loop). has_no_loops (trip_or_none k.trip).top ≡ true) (sym e) (both (plain (round_loop o)) (list_all plain (map round_loop ls)) h).0
each_plain (o ∷ ls) h l (inr i) = each_plain ls (both (plain (round_loop o)) (list_all plain (map round_loop ls)) h).1 l i

module _ (n : ℕ) (values : ℕ → ℤ) where
  no_loops : (F : ℕ → ℤ) (a : Affine) → has_no_loops a ≡ true → products 7 0 (λ k. number_of_place a (place.Loop k)) F ≡ pos 0
  no_loops F a h = products-alike 7 0 (λ k. number_of_place a (place.Loop k)) (λ k. pos 0) F (λ k m. loops_zero a.loops k h) ∙ products-zero 7 0 F

  stays : (F G : ℕ → ℤ) (a : Affine) → has_no_loops a ≡ true → number_of_form n F values a ≡ number_of_form n G values a
  stays F G a h =
      ap (λ z. z +ℤ (products n 0 (λ j. number_of_place a (place.Symbol j)) values +ℤ number_of_place a place.Constant)) (no_loops F a h ∙ sym (no_loops G a h))

  ends-are : (done : List ℕ) (ls : List Loop) → ends_under n values done (map round_loop ls) ≡ lasts_of (trip_at n values) done ls
  ends-are done [] = refl
  ends-are done (l ∷ ls) = ap (λ (is : List ℕ). trip_at n values done l ∷ is) (ends-are (done ++ trip_at n values done l ∷ []) ls)

pub trips_end : TripsEnd
trips_end m values = (ends, steady)
  where
    ends : End (private_scalars m) (ends_of (length m.symbols) values) (trip_at (length m.symbols) values)
    ends p i ls e = ap (ends_under (length m.symbols) values []) e ∙ ends-are (length m.symbols) values [] ls

    steady : Steady (private_scalars m) (trip_at (length m.symbols) values)
    steady p i known ls e l j is js =
        let none = each_plain ls (sym (ap (list_all plain) e) ∙ known) l j in
        ap (λ z. turns_to (int_div z (trip_or_none l.trip).by)) (stays (length m.symbols) values (at_loops (map pos is)) (at_loops (map pos js)) (trip_or_none l.trip).top none)
