-- What stands round a statement, with its loops as they stand.
use Rattle.std.proofs.Common.{◌≡◌, ℕ, ◌≤◌, ◌<◌, ◌^◌, List, [], ◌∷◌, map, length, get_or, sym, ap, subst, ◌∙◌, arith}
use Rattle.std.specs.Prelude.{All}
use Rattle.std.proofs.lemmas.List.{length-map, get_or-map}
use Rattle.subscripts.specs.Shapes.{IsForm}
use Rattle.array_form.specs.forms.Loops as forms
use Rattle.nest.specs.Plain.{Loop, Nest}
use Rattle.array_form.specs.holds.Surroundings.{counted_loop, known_trip, surroundings_of}
use Rattle.array_form.specs.holds.View.{surroundings_view}
use Rattle.array_form.specs.declared.holds.loops.CountedLoop.{CountedLoop}
use Rattle.array_form.specs.declared.holds.loops.Surroundings.{Surroundings}
use Rattle.array_form.proofs.holds.TripLaws.{among_at}
use Rattle.array_form.specs.Loops.{AreLoopsOf, HasPlaces}

-- its loops are loops of it, where their trips are forms
pub own_loops : (a : Surroundings) (ls : List Loop) → a.loops ≡ map counted_loop ls → All (λ l. IsForm (length ls) (known_trip l.trip).top) ls → AreLoopsOf a a.loops
own_loops a ls e h = λ k d g. record { among = among_at a.loops k d g; trip = trip_at k d g }
  where
    size : length a.loops ≡ length ls
    size = ap length e ∙ length-map ls counted_loop

    first : (ls : List Loop) (k : ℕ) → k < length ls → Loop
    first [] k g = absurd (omega arith)
    first (l ∷ ls) k g = l

    at : (ls : List Loop) (k : ℕ) (d : CountedLoop) (g : k < length ls) → get_or (map counted_loop ls) k d ≡ counted_loop (get_or ls k (first ls k g))
    at ls k d g = get_or-map counted_loop ls k (first ls k g) d g

    trip_at : (k : ℕ) (d : CountedLoop) → k < length a.loops → IsForm (length a.loops) (get_or a.loops k d).trip.top
    trip_at k d g =
        let inside : k < length ls = let s = size in omega arith in
        subst (λ (c : CountedLoop). IsForm (length a.loops) c.trip.top) (sym (ap (λ (cs : List CountedLoop). get_or cs k d) e ∙ at ls k d inside))
        (subst (λ n. IsForm n (counted_loop (get_or ls k (first ls k inside))).trip.top) (sym size) (h k (first ls k inside) inside))

-- and forms have places for them
pub has_places : (a : Surroundings) (n : Nest) (ls : List Loop) → surroundings_view a ≡ surroundings_of n ls → a.loops ≡ map counted_loop ls → length ls ≤ 7 → length n.symbols < 2 ^ 16 → HasPlaces a
has_places a n ls v e few small =
    let size : length a.loops ≡ length ls = ap length e ∙ length-map ls counted_loop in
    record {
      loops = omega arith;
      symbols = subst (λ xs. length xs < 2 ^ 16) (sym (ap (λ (b : forms.FormSurroundings). b.symbols) v)) small;
    }
