-- Where the array of a copy is allocated by its extents, each iteration of the loops round its statement has an element.
use Rattle.std.proofs.Common.{◌≡◌, refl, sym, ap, ap₂, ◌∙◌, subst, ℕ, ◌+◌, ◌≤◌, ◌<◌, ℤ, pos, true, List, [], ◌∷◌, map, reverse, length, Result, Ok, Option, Some, None, inl, inr, arith}
use Rattle.std.specs.Option.{IsSomeAnd}
use Rattle.std.specs.Prelude.{slice_get}
use Rattle.std.proofs.lemmas.Int.{ints}
use Rattle.std.proofs.lemmas.List.{length-map}
use Rattle.tree.specs.Plain.{Program, Subscript, subscripts}
use Rattle.tree.specs.Steps.{◌>>=◌}
use Rattle.tree.specs.declared.ops.Fault.{Fault}
use Rattle.tree.specs.declared.ops.Kind.TheVariants.{Integer}
use Rattle.tree.specs.declared.ops.Value.{Value}
use Rattle.tree.specs.declared.ops.Value.TheVariants.{Int}
use Rattle.last_values.specs.normal_forms.Steps as steps
use Rattle.linear_forms.specs.Expressed.{variable as named_variable}
use Rattle.linear_forms.specs.Linear.{HaveValues}
use Rattle.meaning.specs.Dialect.{fortran77}
use Rattle.tree.specs.declared.width.Width.{Width}
use Rattle.meaning.specs.Holding.{HoldsProgram}
use Rattle.meaning.specs.Store.{Store, cell_in, is_within}
use Rattle.meaning.specs.Typed.{declared}
use Rattle.meaning.specs.Value.{cell_named, value_of}
use Rattle.nest.specs.Plain.{Loop, Nest}
use Rattle.nest.specs.declared.parts.Trip.{Trip}
use Rattle.nest_order.proofs.runs.Results.{ok_same}
use Rattle.nest_order.specs.facts.Facts as facts
use Rattle.nest_order.specs.orders.Lists.{In}
use Rattle.nest_order.specs.runs.Guarded.{variable_cell}
use Rattle.nest_order.specs.runs.Touched.{nth_of}
use Rattle.nest_steps.specs.Rounds.{Hold}
use Rattle.nest_steps.specs.Statements.{cell_of}
use Rattle.pass_laws.proofs.NormalFacts.Tables.{all_in}
use Rattle.pass_laws.proofs.PreparedNests.Facts as prepared
use Rattle.pass_laws.proofs.PreparedNests.Lists.{HasSome, ordered_distinct, some_of}
use Rattle.pass_laws.specs.prepared_nests.Loops.{variables_of_loops}
use Rattle.pass_laws.specs.prepared_nests.Made.{AreBoundsBy}
use Rattle.pass_laws.specs.prepared_nests.Nests.{IsPrepared, IsPreparedSymbol}
use Rattle.prepared_passes.proofs.ExpandedNests.Before.{has_place}
use Rattle.prepared_passes.proofs.ExpandedNests.Beginning.{bounds_said, in_place, map_reverse, place_of, some_there, tell_onto}
use Rattle.prepared_passes.proofs.ExpandedNests.ExtentNumbers.{Says, Tell, texts_tell}
use Rattle.prepared_passes.proofs.ExpandedNests.Round.{as_many_extents}
use Rattle.prepared_passes.proofs.ExpandedNests.Sizes.{AllKnown, extents_known}
use Rattle.prepared_passes.proofs.ExpandedNests.Trips.{symbol_values}
use Rattle.prepared_passes.specs.expansion.Laws.{value_among}
use Rattle.rewrite.specs.Following.{sequential}
use Rattle.scalar_expand.proofs.Covers.{extents_cover, extents_found}
use Rattle.scalar_expand.specs.Expanded as expanded
use Rattle.scalar_expand.specs.Extents.{extents_of_trips}
use Rattle.scalar_expand.specs.Flow.{AreTurns}
use Rattle.scalar_expand.specs.Numbers.{from_place, limits_of, numbers_under, trip_at}
use Rattle.scalar_expand.specs.Privates.{round_loop, trip_or_none}
use Rattle.scalar_expand.specs.Privates as privates
use Rattle.scalar_expand.specs.Stores.{AreTurned, element_cell, numbers}
use Rattle.scalar_expand.specs.Texts.{extent_texts}
use Rattle.scalar_expand.specs.declared.privates.Private.{Private}
use Rattle.node_splitting.specs.Arrays.{copy_name, copy_element, extents_over, texts_over, trips_if_all, variable_subscript, with_trip}
use Rattle.scalar_expand.specs.declared.privates.RoundLoop.{RoundLoop}
use Rattle.prepared_passes.proofs.SplitNests.Cells.{element_place}

-- ---- trips

pub trips_are : (ls : List Loop) (ts : List Trip) → trips_if_all ls ≡ Some ts → privates.trips_of (map round_loop ls) ≡ ts
trips_are [] ts e = let same : [] ≡ ts = cc in same
trips_are (l ∷ ls) ts e = by (λ us g. trips_are ls us g) l.trip (trips_if_all ls) refl refl e
  where
    by : ((us : List Trip) → trips_if_all ls ≡ Some us → privates.trips_of (map round_loop ls) ≡ us)
        → (o : Option Trip) (p : Option (List Trip)) → l.trip ≡ o → trips_if_all ls ≡ p → with_trip o p ≡ Some ts → privates.trips_of (map round_loop (l ∷ ls)) ≡ ts
    by q None p f g h = cc
    by q (Some t) None f g h = cc
    by q (Some t) (Some us) f g h =
        let same : t ∷ us ≡ ts = cc in
        ap₂ (λ (x : Trip) (xs : List Trip). x ∷ xs) (ap trip_or_none f) (q us g) ∙ same

-- where the loops have extents
pub extents_are : (n : ℕ) (ls : List Loop) (es : List Trip) → extents_over n ls ≡ Some es → extents_of_trips n (privates.trips_of (map round_loop ls)) ≡ Some es
extents_are n ls es e = by (trips_if_all ls) refl e
  where
    by : (o : Option (List Trip)) → trips_if_all ls ≡ o → steps.◌>>=◌ o (extents_of_trips n) ≡ Some es → extents_of_trips n (privates.trips_of (map round_loop ls)) ≡ Some es
    by None f g = cc
    by (Some ts) f g = ap (extents_of_trips n) (trips_are ls ts f) ∙ g

-- the array of a copy, as one over these loops
abbrev pub over : List Loop → List Trip → ℕ → Private
over ls es j = record { name = []; array = copy_name j; kind = Integer; loops = map round_loop ls; extents = es }

pub few_extents : (n : ℕ) (ls : List Loop) (es : List Trip) → extents_over n ls ≡ Some es → (length es ≤ 7) × (length es ≡ length ls)
few_extents n ls es e =
    let f = extents_found n (λ k. pos 0) (privates.trips_of (map round_loop ls)) es (extents_are n ls es e) in
    let many = as_many_extents n [] (privates.trips_of (map round_loop ls)) es f.under in
    let few = f.few in
    let one = length-map (map round_loop ls) (λ (l : RoundLoop). l.trip) in
    let two = length-map ls round_loop in
    (omega (arith, many, few), omega (arith, many, one, two))

-- ---- elements

pub same_variables : (ls : List Loop) → map expanded.loop_subscript (map round_loop ls) ≡ map variable_subscript (variables_of_loops ls)
same_variables [] = refl
same_variables (l ∷ ls) = ap (λ (ss : List Subscript). variable_subscript l.variable ∷ ss) (same_variables ls)

pub element_is : (ls : List Loop) (es : List Trip) (j : ℕ) → expanded.element (over ls es j) ≡ copy_element (variables_of_loops ls) j
element_is ls es j = ap (λ (ss : List Subscript). record { name = copy_name j; subscripts = subscripts (reverse ss) }) (same_variables ls)

pub turned : (ls : List Loop) (is : List ℕ) (u : Store) → ((o : Loop) → In o ls → u.bounds o.variable ≡ Some []) → Hold ls is u → AreTurned (map round_loop ls) is u
turned [] [] u b h = tt
turned [] (i ∷ is) u b h = absurd h
turned (l ∷ ls) [] u b h = absurd h
turned (l ∷ ls) (i ∷ is) u b h = (b l (inl refl), h.0, turned ls is u (λ o j. b o (inr j)) h.1)

-- ---- in a store that holds the program

abbrev at_most : Option (List ℕ) → ℤ → ℤ
at_most None z = pos 0
at_most (Some y) z = z

module _ (width : Width) (p : Program) (around : List (List ℕ)) (deepest : ℕ) (m : Nest) (h : IsPrepared p.declarations around deepest m) (s : Store) (holds : HoldsProgram (fortran77 width) p s)
    (v : ℕ → ℤ) (valued : (k : ℕ) (y : List ℕ) → nth_of m.symbols k ≡ Some y → s.held (variable_cell y) ≡ Int (v k)) where
  pub symbol_bounds : (y : List ℕ) → In y m.symbols → s.bounds y ≡ Some []
  symbol_bounds y i =
      prepared.scalar_bounds (declared p.declarations y) (s.bounds y) (all_in (IsPreparedSymbol p.declarations) m.symbols h.parts.symbols y i).scalar (holds.bounds y)

  pub symbol_held : (y : List ℕ) → In y m.symbols → s.held (cell_of y) ≡ Int (value_among m.symbols 0 v y)
  symbol_held y i =
      let q = has_place m.symbols 0 v y i in
      let e : 0 + q.place ≡ q.place = omega arith in
      valued q.place y q.there ∙ ap Int (ap v (sym e) ∙ sym q.value)

  have_values : HaveValues m.symbols s (facts.values_from v 0 m.symbols)
  have_values = symbol_values m.symbols 0 v s (ordered_distinct m.symbols h.parts.ordered) (λ y i. (symbol_bounds y i, symbol_held y i))

  module _ (ls : List Loop) (es : List Trip) (are : extents_over (length m.symbols) ls ≡ Some es) where
    known : AllKnown (length m.symbols) es
    known =
        let f = extents_found (length m.symbols) v (privates.trips_of (map round_loop ls)) es (extents_are (length m.symbols) ls es are) in
        extents_known (length m.symbols) [] (privates.trips_of (map round_loop ls)) es f.divisors f.under tt

    said : (k : ℕ) (y : List ℕ) → slice_get m.symbols k ≡ Some y → Says (fortran77 width) s (named_variable y) (at_most (slice_get m.symbols k) (v k))
    said k y e r f =
        let at = place_of m.symbols k y e in
        let there : value_of (fortran77 width) (named_variable y) s ≡ Ok (Int (v k))
        = ap (λ (o : Option (List (ℤ × ℤ))). do c ← cell_in o y []; Ok (s.held c)) (symbol_bounds y (in_place m.symbols k y at))
        ∙ ap (λ (w : Value). let r : Result Value Fault = Ok w in r) (valued k y at) in
        sym (ok_same {F = Fault} (Int (v k)) r (sym there ∙ f)) ∙ ap (λ (o : Option (List ℕ)). Int (at_most o (v k))) (sym e)

    told : Tell (fortran77 width) s (extent_texts m.symbols es) (numbers_under (length m.symbols) v [] es)
    told =
        texts_tell (fortran77 width) s m.symbols (λ k. at_most (slice_get m.symbols k) (v k)) said
        (λ k e. ap (λ (o : Option (List ℕ)). at_most o (v k)) e) v there es [] [] known tt (let most = (few_extents (length m.symbols) ls es are).0 in omega (arith, most))
      where
        there : (k : ℕ) → k < length m.symbols → at_most (slice_get m.symbols k) (v k) ≡ v k
        there k less = by (slice_get m.symbols k) refl
          where
            by : (o : Option (List ℕ)) → slice_get m.symbols k ≡ o → at_most (slice_get m.symbols k) (v k) ≡ v k
            by None e = absurd (some_there m.symbols k less e)
            by (Some y) e = ap (λ (o : Option (List ℕ)). at_most o (v k)) e

    -- the array's bounds are its limits
    pub limits_are : (j : ℕ) → IsSomeAnd (s.bounds (copy_name j)) (AreBoundsBy m.symbols v (texts_over m.symbols (extents_over (length m.symbols) ls)))
        → s.bounds (copy_name j) ≡ Some (limits_of (length m.symbols) v (pos 1) (over ls es j))
    limits_are j made = by (some_of (AreBoundsBy m.symbols v (reverse (extent_texts m.symbols es))) (s.bounds (copy_name j)) (subst (λ o. IsSomeAnd (s.bounds (copy_name j)) (AreBoundsBy m.symbols v (texts_over m.symbols o))) are made))
      where
        by : HasSome (AreBoundsBy m.symbols v (reverse (extent_texts m.symbols es))) (s.bounds (copy_name j)) → s.bounds (copy_name j) ≡ Some (limits_of (length m.symbols) v (pos 1) (over ls es j))
        by q =
            q.is
            ∙ ap (λ (bs : List (ℤ × ℤ)). Some bs)
            (bounds_said width s m.symbols v have_values (length m.symbols) v (reverse (extent_texts m.symbols es)) (reverse (numbers_under (length m.symbols) v [] es)) q.value q.has
            (tell_onto width s (extent_texts m.symbols es) (numbers_under (length m.symbols) v [] es) [] [] told tt)
            ∙ map_reverse (from_place (length m.symbols) v (pos 1)) (numbers_under (length m.symbols) v [] es))

    pub covered : (j : ℕ) (is : List ℕ) → AreTurns (trip_at (length m.symbols) v) [] ls is → is_within (limits_of (length m.symbols) v (pos 1) (over ls es j)) (numbers is) ≡ true
    covered j is t = extents_cover (length m.symbols) v (pos 1) (omega (arith, ints)) (over ls es j) ls is (extents_are (length m.symbols) ls es are) t

    -- so the element of each iteration has its cell, in a store with these bounds
    pub cell_there : (bits j : ℕ) (is : List ℕ) (u : Store) → u.bounds (copy_name j) ≡ s.bounds (copy_name j)
        → IsSomeAnd (s.bounds (copy_name j)) (AreBoundsBy m.symbols v (texts_over m.symbols (extents_over (length m.symbols) ls)))
        → AreTurns (trip_at (length m.symbols) v) [] ls is → ((o : Loop) → In o ls → u.bounds o.variable ≡ Some []) → Hold ls is u
        → cell_named (sequential bits) (copy_element (variables_of_loops ls) j) u ≡ Ok (element_cell (over ls es j) is)
    cell_there bits j is u same made t b hold =
        subst (λ r. cell_named (sequential bits) r u ≡ Ok (element_cell (over ls es j) is)) (element_is ls es j)
        (element_place bits u (over ls es j) is (limits_of (length m.symbols) v (pos 1) (over ls es j)) (turned ls is u b hold) (same ∙ limits_are j made) (covered j is t))
