-- The trips of prepared loops, for graphs and for array forms, and the names in what is written.
use Rattle.std.proofs.Common.{◌≡◌, inl, inr, refl, sym, ap, ap₂, subst, ℕ, suc, ◌≤◌, ℤ, pos, List, [], ◌∷◌}
use Rattle.std.proofs.Common.{◌++◌, map, length, length-append, Option, Some, None, append_assoc, arith}
use Rattle.std.specs.Option.{IsSomeAnd}
use Rattle.std.specs.Prelude.{◌≤ℤ◌}
use Rattle.std.proofs.lemmas.Int.{ints}
use Rattle.std.proofs.lemmas.List.{length-map, map-append}
use Rattle.array_form.specs.holds.Surroundings.{no_affine}
use Rattle.components.proofs.ListLaws.{Each-append}
use Rattle.components.specs.Lists as lists
use Rattle.dependence_graph.specs.nest_graph.Ready.{IsTripIn, HaveTrips}
use Rattle.emission.specs.emission_forms.Written.{IsTripText, HaveTripTexts}
use Rattle.last_values.specs.declared.normal_forms.loops.NormalLoop.{NormalLoop}
use Rattle.last_values.specs.normal_forms.NormalLoops.{counter_name, counters_of}
use Rattle.last_values.specs.normal_forms.Texts.{trip_text}
use Rattle.linear_forms.specs.CanonicalLaws.{AreDistinct}
use Rattle.meaning.specs.Reads.{names_in}
use Rattle.nest.specs.Plain.{Loop}
use Rattle.nest.specs.declared.parts.Trip.{Trip}
use Rattle.nest_order.specs.orders.Lists.{In}
use Rattle.nest_order.specs.shapes.Shapes.{numbers_of}
use Rattle.pass_laws.proofs.NormalFacts.CounterNames.{distinct_names}
use Rattle.pass_laws.proofs.NormalFacts.FoundStatements.{IsShort}
use Rattle.pass_laws.proofs.NormalFacts.LoopLimits.{HasTop}
use Rattle.pass_laws.proofs.NormalFacts.Tables.{each_from}
use Rattle.pass_laws.proofs.NormalFacts.Texts.{named, trip_over}
use Rattle.pass_laws.proofs.NormalFacts.Trips.{IsTripOf, trip_is, trip_is_text}
use Rattle.tree.specs.Plain.{Declaration, Expression}
use Rattle.pass_laws.specs.prepared_nests.Loops.{IsPreparedLoop, IsPreparedTrip, variables_of_loops}
use Rattle.pass_laws.proofs.PreparedNests.Lists.{within_32}
use Rattle.pass_laws.proofs.PreparedNests.Walks.{AreOnce, Follow, once_before}

-- ---- one trip

variables_length : (ls : List Loop) → length (variables_of_loops ls) ≡ length ls
variables_length ls = length-map ls (λ (l : Loop). l.variable)

positive_by : (z : ℤ) (n : ℕ) → z ≡ pos n → 1 ≤ n → pos 1 ≤ℤ z
positive_by z n e h = subst (λ y. pos 1 ≤ℤ y) (sym e) (let k : pos 1 ≤ℤ pos n = omega (arith, ints, h) in k)

pub has_top : (round symbols : List (List ℕ)) (last : Expression) (t : Trip) → IsPreparedTrip round symbols last t → HasTop (length symbols) (length round) t
has_top round symbols last t h = record { form = h.form; affine = h.affine; limited = h.limited; short = h.short; seven = h.seven }

trip_in : (ls : List Loop) (symbols : List (List ℕ)) (last : Expression) (t : Trip) → IsPreparedTrip (variables_of_loops ls) symbols last t → IsTripIn (length ls) t
trip_in ls symbols last t h = subst (λ d. IsTripIn d t) (variables_length ls) (record { top = h.top; positive = positive_by t.by h.divisor h.by h.positive })

-- ---- trips from the outside in

trip_of_loop : (ls : List Loop) (symbols : List (List ℕ)) (last : Expression) (o : Option Trip) → IsSomeAnd o (IsPreparedTrip (variables_of_loops ls) symbols last) → IsSomeAnd o (IsTripIn (length ls))
trip_of_loop ls symbols last None h = absurd h
trip_of_loop ls symbols last (Some t) h = trip_in ls symbols last t h

pub have_trips : (es : List Declaration) (symbols : List (List ℕ)) (before ls : List Loop) → Follow (IsPreparedLoop es symbols) before ls → HaveTrips (length before) ls
have_trips es symbols before [] h = tt
have_trips es symbols before (l ∷ ls) h =
    let one : length (before ++ l ∷ []) ≡ suc (length before) = (let more = length-append before (l ∷ []) in omega (arith, more)) in
    (trip_of_loop before symbols l.last l.trip h.0.trip, subst (λ d. HaveTrips d ls) one (have_trips es symbols (before ++ l ∷ []) ls h.1))

-- ---- names of counters

abbrev pub BearsNumber : Loop → Type 0
BearsNumber l = (l.variable ≡ counter_name l.number) × (l.number ≤ 4294967295)

pub bears_number : (es : List Declaration) (symbols : List (List ℕ)) (round : List Loop) (l : Loop) → IsPreparedLoop es symbols round l → BearsNumber l
bears_number es symbols round l h = (h.variable, within_32 l.number h.number)

names_of_counters : (ls : List Loop) → lists.Each BearsNumber ls → variables_of_loops ls ≡ map counter_name (numbers_of ls)
names_of_counters [] h = refl
names_of_counters (l ∷ ls) h = ap₂ (λ x xs. x ∷ xs) h.0.0 (names_of_counters ls h.1)

small_numbers : (ls : List Loop) → lists.Each BearsNumber ls → (k : ℕ) → In k (numbers_of ls) → k ≤ 4294967295
small_numbers [] h k i = absurd i
small_numbers (l ∷ ls) h k (inl e) = subst (λ j. j ≤ 4294967295) (sym e) h.0.1
small_numbers (l ∷ ls) h k (inr i) = small_numbers ls h.1 k i

module _ (symbols : List (List ℕ)) (short : (y : List ℕ) → In y symbols → IsShort y) (distinct : AreDistinct symbols) where
  pub names_apart : (ls : List Loop) → lists.Each BearsNumber ls → AreOnce ls → AreDistinct (variables_of_loops ls ++ symbols)
  names_apart ls named once =
      subst (λ xs. AreDistinct (xs ++ symbols)) (sym (names_of_counters ls named))
      (distinct_names (numbers_of ls) symbols once (small_numbers ls named) short distinct)

  -- ---- what is written

  module _ (ls : List Loop) (last : Expression) (t : Trip) (few : length ls ≤ 7) (named : lists.Each BearsNumber ls) (once : AreOnce ls)
      (h : IsPreparedTrip (variables_of_loops ls) symbols last t) where
    few_names : length (variables_of_loops ls) ≤ 7
    few_names = let many = variables_length ls in omega (arith, many, few)

    pub number_of_trip : IsTripOf (variables_of_loops ls) symbols last t
    number_of_trip =
        subst (λ e. IsTripOf (variables_of_loops ls) symbols e t) (sym h.text)
        (trip_is (variables_of_loops ls) symbols t h.divisor few_names (names_apart ls named once) (has_top (variables_of_loops ls) symbols last t h) h.by)

    pub text_of_trip : IsTripText (variables_of_loops ls) symbols last t
    text_of_trip =
        subst (λ e. IsTripText (variables_of_loops ls) symbols e t) (sym h.text)
        (trip_is_text (variables_of_loops ls) symbols t h.divisor few_names (names_apart ls named once) (has_top (variables_of_loops ls) symbols last t h) h.by)

  text_in_loop : (es : List Declaration) (before : List Loop) (l : Loop) (o : Option Trip) → length before ≤ 7 → lists.Each BearsNumber before → AreOnce before
      → IsSomeAnd o (IsPreparedTrip (variables_of_loops before) symbols l.last) → IsSomeAnd o (IsTripText (variables_of_loops before) symbols l.last)
  text_in_loop es before l None few named once h = absurd h
  text_in_loop es before l (Some t) few named once h = text_of_trip before l.last t few named once h

  pub trip_texts : (es : List Declaration) (before ls : List Loop) → Follow (IsPreparedLoop es symbols) before ls → lists.Each BearsNumber before → AreOnce (before ++ ls)
      → HaveTripTexts symbols (variables_of_loops before) ls
  trip_texts es before [] h named once = tt
  trip_texts es before (l ∷ ls) h named once =
      let less = h.0.depth in (
        text_in_loop es before l l.trip (omega (arith, less)) named (once_before before (l ∷ ls) once) h.0.trip,
        subst (λ xs. HaveTripTexts symbols xs ls) (map-append (λ (l : Loop). l.variable) before (l ∷ []))
            (trip_texts es (before ++ l ∷ []) ls h.1 (Each-append BearsNumber before (l ∷ []) named (bears_number es symbols before l h.0, tt))
            (subst AreOnce (sym (append_assoc before (l ∷ []) ls)) once)),
      )

-- ---- the names in a trip

-- loops that count by these names
abbrev counting : List ℕ → NormalLoop
counting x = record {
  variable = x;
  counter = x;
  step = pos 1;
  first = no_affine;
  below = no_affine;
  value = no_affine;
  trip = record { top = no_affine; by = pos 1 };
  end = no_affine;
}

counted_by : (xs : List (List ℕ)) → counters_of (map counting xs) ≡ xs
counted_by [] = refl
counted_by (x ∷ xs) = ap (λ ys. x ∷ ys) (counted_by xs)

pub names_of_trip : (P : List ℕ → Type 0) (round symbols : List (List ℕ)) (t : Trip) → ((y : List ℕ) → In y round → P y) → ((y : List ℕ) → In y symbols → P y)
    → (x : List ℕ) → In x (names_in (trip_text round symbols [] t)) → P x
names_of_trip P round symbols t f g x i =
    named P (trip_text (counters_of (map counting round)) symbols [] t)
    (trip_over P symbols (each_from P symbols g) (map counting round) t (each round f))
    x (subst (λ xs. In x (names_in (trip_text xs symbols [] t))) (sym (counted_by round)) i)
  where
    each : (xs : List (List ℕ)) → ((y : List ℕ) → In y xs → P y) → lists.Each (λ (r : NormalLoop). P r.counter) (map counting xs)
    each [] f = tt
    each (y ∷ xs) f = (f y (inl refl), each xs (λ z j. f z (inr j)))
