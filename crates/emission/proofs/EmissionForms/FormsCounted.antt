-- Where the trips of a statement's inner loops are counted as far as they are come to, each of them can be counted, or
-- one of the loops has no turn, and then there is no instance.
use Rattle.std.proofs.Common.{◌≡◌, refl, sym, ap, ap₂, ◌∙◌, subst, ◌⊎◌, inl, inr, ℕ, zero, suc, ◌+◌, ◌≤◌, ℤ, pos}
use Rattle.std.proofs.Common.{negsuc, List, [], ◌∷◌, ◌++◌, map, length, Ok, Some, append_assoc, append-nil, arith}
use Rattle.std.proofs.lemmas.Bool.{cases_lt}
use Rattle.std.proofs.lemmas.List.{length-map}
use Rattle.tree.specs.declared.ops.Value.TheVariants.{Int}
use Rattle.meaning.specs.Sections.{not_negative}
use Rattle.meaning.specs.Store.{Store, Cell, put}
use Rattle.meaning.specs.Value.{number_of}
use Rattle.emission.specs.graph_orders.Nests.{run_nest}
use Rattle.linear_forms.specs.Laws.{AreSized}
use Rattle.linear_forms.specs.Linear.{HaveValues}
use Rattle.nest_order.specs.facts.Facts.{HasFacts, values_from}
use Rattle.nest_order.proofs.facts.Facts.{facts_suffice, have-append, loops_have, sized-append, small_sized, symbols-have}
use Rattle.nest_order.proofs.facts.Facts.{symbols-sized}
use Rattle.dependence_graph.specs.nest_graph.Instances.{turns_at}
use Rattle.nest_order.specs.orders.Lists.{In, Each, Distinct}
use Rattle.nest_order.specs.orders.Shapes.{no_shapes, shape, loops_of_shape, instances, instances_in, turns, within_turn}
use Rattle.nest_order.proofs.orders.Lists.{Distinct-rest, Each-append, In-left, In-right}
use Rattle.nest_order.proofs.orders.Membership.{In-map}
use Rattle.nest_order.specs.runs.Alone.{chain}
use Rattle.nest_order.specs.runs.Forms.{AreCounted}
use Rattle.nest_order.specs.runs.Guarded.{sequential}
use Rattle.nest_order.specs.runs.Nests as runs
use Rattle.nest_order.specs.runs.Nests.{AreAt}
use Rattle.nest_order.specs.runs.Stores.{HoldsNest, Setting}
use Rattle.nest_order.proofs.runs.Ending.{count_from_one, turns_to}
use Rattle.nest_order.proofs.runs.Going.{trip_bounded}
use Rattle.nest_order.proofs.runs.Holding.{variable_inside}
use Rattle.nest_order.proofs.runs.Variables.{AreAt-more, AreAt-put, put_there, var}
use Rattle.nest_order.specs.shapes.Shapes.{loop_numbered, numbers_of, trip_of_loop, variable_of_loop}
use Rattle.nest.specs.Bodies.{nest_loops}
use Rattle.nest.specs.Plain.{Loop, Nest}
use Rattle.emission.specs.emission_forms.Written.{HaveTripTexts, IsTripText}
use Rattle.emission.proofs.EmissionForms.FormsGiven.{trip_has_value}
use Rattle.emission.proofs.EmissionForms.FormsTurns.{IsFree, map-append, some_trip, trip_in, turns_anywhere, turns_there}
use Rattle.tree.specs.Widths.{bits_of}
use Rattle.meaning.proofs.Widths.{in_range_more, narrowest}
use Rattle.tree.specs.declared.width.Width.{Width}

-- ---- no instance

turns_none : {X : Type 0} (f : ℕ → List X) (i m : ℕ) → ((k : ℕ) → f k ≡ []) → turns i m f ≡ []
turns_none f i zero h = refl
turns_none f i (suc m) h = ap₂ (λ xs ys. xs ++ ys) (h i) (turns_none f (suc i) m h)

pub no_instances : (trip : ℕ → List ℕ → ℕ) (ls bef : List ℕ) (s l : ℕ) → In l ls → ((is : List ℕ) → trip l (bef ++ is) ≡ 0) → instances trip (chain ls s) bef ≡ []
no_instances trip [] bef s l i h = absurd i
no_instances trip (m ∷ ls) bef s l (inl e) h =
    ap (λ k. turns 1 k (λ i. map (within_turn i) (instances_in trip (shape (chain ls s) no_shapes) (bef ++ i ∷ [])))) (ap (λ k. trip k bef) (sym e) ∙ (ap (trip l) (sym (append-nil bef)) ∙ h []))
no_instances trip (m ∷ ls) bef s l (inr j) h =
    turns_none (λ i. map (within_turn i) (instances_in trip (shape (chain ls s) no_shapes) (bef ++ i ∷ []))) 1 (trip m bef)
    (λ i. ap (λ xs. map (within_turn i) (xs ++ [])) (no_instances trip ls (bef ++ i ∷ []) s l j (λ is. ap (trip l) (append_assoc bef (i ∷ []) is) ∙ h (i ∷ is))))

-- ---- counts

turns_to_is : (z : ℤ) → turns_to z ≡ not_negative z
turns_to_is (pos k) = refl
turns_to_is (negsuc k) = refl

at_as_many : (r : runs.RunNest) (ls is : List ℕ) (s : Store) → AreAt r ls is s → length is ≡ length ls
at_as_many r [] [] s h = refl
at_as_many r [] (i ∷ is) s h = absurd h
at_as_many r (l ∷ ls) [] s h = absurd h
at_as_many r (l ∷ ls) (i ∷ is) s h = ap suc (at_as_many r ls is s h.1)

zero_plus : (j : ℕ) → j ≡ 0 + j
zero_plus j = omega arith

module _ (width : Width) (n : Nest) (w : Setting) (facts : HasFacts (bits_of width) (run_nest n) w) where
  values_have : (round bef : List ℕ) (st : Store) → ((m : ℕ) → In m round → In m (loops_of_shape (run_nest n).shape)) → HoldsNest (bits_of width) (run_nest n) w st → AreAt (run_nest n) round bef st
      → HaveValues (map (run_nest n).variable_at round ++ n.symbols) st (map pos bef ++ values_from w.values 0 n.symbols)
  values_have round bef st known holds at = have-append (map (run_nest n).variable_at round) n.symbols st (map pos bef) (values_from w.values 0 n.symbols)
      (loops_have (bits_of width) (run_nest n) w facts round bef st (λ m j. holds.bounds ((run_nest n).variable_at m) ∙ facts.variables m (known m j)) at)
      (symbols-have w.values st n.symbols 0 (λ x i. holds.bounds x ∙ facts.symbols x i) (λ j x e. holds.symbols j x e ∙ ap (λ m. Int (w.values m)) (zero_plus j)))

  values_sized : (bef : List ℕ) (st : Store) → Each (λ i. i ≤ 2147483646) bef → AreSized (map pos bef ++ values_from w.values 0 n.symbols)
  values_sized bef st small = sized-append (map pos bef) (values_from w.values 0 n.symbols) (small_sized bef small)
      (symbols-sized w.values st n.symbols 0 (λ j x e. subst (λ m. Rattle.std.specs.Prelude.nat_abs (w.values m) ≤ Rattle.std.specs.Prelude.◌^◌ 2 63) (zero_plus j) (facts.values j x e)))

  module _ (outs ins : List Loop) (before : List ℕ) (as_many : length before ≡ length outs) (s : ℕ) where
    abbrev turns_of : Loop → ℤ
    turns_of l = turns_there n outs ins w.values before as_many l

    pub record Stops (ls : List Loop) : Type 0 where
      pub loop : Loop
      pub among : In loop ls
      pub none : not_negative (turns_of loop) ≡ 0

    abbrev pub AreSmall : List Loop → Type 0
    AreSmall ls = (l : Loop) → In l ls → not_negative (turns_of l) ≤ 2147483646

    joined : (l : Loop) (ls : List Loop) → not_negative (turns_of l) ≤ 2147483646 → AreSmall ls ⊎ Stops ls → AreSmall (l ∷ ls) ⊎ Stops (l ∷ ls)
    joined l ls h (inl more) = inl (λ m i. elim i [ inl e ↦ subst (λ (k : Loop). not_negative (turns_of k) ≤ 2147483646) (sym e) h | inr j ↦ more m j ])
    joined l ls h (inr stops) = inr (record { loop = stops.loop; among = inr stops.among; none = stops.none })

    pub counted_or_none : (ls : List Loop) (round bef is : List ℕ) (st : Store) → bef ≡ before ++ is → Each (IsFree n outs ins) ls → HaveTripTexts n.symbols (map (run_nest n).variable_at round) ls
        → ((l : Loop) → In l ls → loop_numbered (nest_loops n) l.number ≡ Some l) → Distinct (round ++ numbers_of ls) → ((m : ℕ) → In m (round ++ numbers_of ls) → In m (loops_of_shape (run_nest n).shape))
        → Each (λ i. i ≤ 2147483646) bef → HoldsNest (bits_of width) (run_nest n) w st → AreAt (run_nest n) round bef st → AreCounted (bits_of width) (run_nest n) w round bef (chain (numbers_of ls) s) → AreSmall ls ⊎ Stops ls
    counted_or_none [] round bef is st e free texts numbered once known small holds at counted = inl (λ l i. absurd i)
    counted_or_none (l ∷ ls) round bef is st e free texts numbered once known small holds at counted =
        let c = counted.0 in
        let it = numbered l (inl refl) in
        let value : number_of (sequential (bits_of width)) l.last st ≡ Ok c.top = subst (λ o. number_of (sequential (bits_of width)) (trip_of_loop o) st ≡ Ok c.top) it (c.gives st holds at) in
        let text = (some_trip l.trip (IsTripText (map (run_nest n).variable_at round) n.symbols l.last) texts.0).1 in
        let long : length (map pos bef) ≡ length (map (run_nest n).variable_at round) = length-map bef pos ∙ (at_as_many (run_nest n) round bef st at ∙ sym (length-map round (run_nest n).variable_at)) in
        let round_known : (m : ℕ) → In m round → In m (loops_of_shape (run_nest n).shape) = λ m j. known m (In-left m round (numbers_of (l ∷ ls)) j) in
        let top : c.top ≡ turns_at (trip_in l) w.values (map pos bef)
        = trip_has_value (sequential (bits_of width)) (map (run_nest n).variable_at round) n.symbols w.values (map pos bef) st long (values_have round bef st round_known holds at) (values_sized bef st small) l.last (trip_in l) c.top text value in
        let same : c.top ≡ turns_of l = top ∙ (ap (λ js. turns_at (trip_in l) w.values (map pos js)) e ∙ turns_anywhere n outs ins w.values before as_many l free.0 is) in
        let k = (run_nest n).turns_of w.values l.number bef in
        let count : k ≡ not_negative (turns_of l) = count_from_one c.top k c.counts ∙ (turns_to_is c.top ∙ ap not_negative same) in
        let most : k ≤ 2147483646 = trip_bounded c.top k c.counts in
        let own : In l.number (round ++ numbers_of (l ∷ ls)) = In-right l.number round (numbers_of (l ∷ ls)) (inl refl) in
        let fresh : ¬ (In (var (run_nest n) l.number) (map (var (run_nest n)) round)) = λ i.
        let o = In-map (var (run_nest n)) (var (run_nest n) l.number) round i in
        let q : l.number ≡ o.it = facts.text.variables l.number o.it (known l.number own) (round_known o.it o.inside) (ap (λ (d : Cell). d.name) o.is) in
        Distinct-rest l.number round (numbers_of ls) once (In-left l.number round (numbers_of ls) (subst (λ m. In m round) (sym q) o.inside)) in
        let next : Store = put (var (run_nest n) l.number) (Int (pos 1)) st in
        let further : (round ++ l.number ∷ []) ++ numbers_of ls ≡ round ++ numbers_of (l ∷ ls) = append_assoc round (l.number ∷ []) (numbers_of ls) in
        elim (cases_lt 0 k) [
          | inl some ↦ joined l ls (omega arith) (counted_or_none ls (round ++ l.number ∷ []) (bef ++ 1 ∷ []) (is ++ 1 ∷ []) next
              (ap (λ js. js ++ 1 ∷ []) e ∙ append_assoc before is (1 ∷ [])) free.1
              (subst (λ xs. HaveTripTexts n.symbols xs ls) (sym (map-append (run_nest n).variable_at round (l.number ∷ []) ∙ ap (λ o. map (run_nest n).variable_at round ++ variable_of_loop o ∷ []) it)) texts.1)
              (λ m i. numbered m (inr i)) (subst Distinct (sym further) once) (λ m i. known m (subst (In m) further i))
              (Each-append (λ i. i ≤ 2147483646) bef (1 ∷ []) small (omega arith, tt))
              (variable_inside (bits_of width) (run_nest n) w (facts_suffice (bits_of width) (run_nest n) w facts) l.number (known l.number own) (pos 1) st (in_range_more 31 (bits_of width) (narrowest width) (Int (pos 1)) refl) holds)
              (AreAt-more (run_nest n) round bef l.number 1 next (AreAt-put (run_nest n) round bef (var (run_nest n) l.number) (Int (pos 1)) st fresh at) (put_there (var (run_nest n) l.number) (Int (pos 1)) st))
              (counted.1 1 (omega arith) (omega arith)).0)
          | inr none ↦ inr (record { loop = l; among = inl refl; none = omega arith })
        ]
