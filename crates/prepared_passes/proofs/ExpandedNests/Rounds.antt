-- The loops round a statement of a prepared nest: how often they turn, and the forms of their variables.
use Rattle.std.proofs.Common.{◌≡◌, ◌⊎◌, inl, inr, refl, sym, ap, ap₂, ◌∙◌, subst, ℕ, suc, ◌≤◌, ℤ, pos, negsuc, Bool, true, false, cond, List, [], ◌∷◌, ◌++◌, map, length, drop, Option, Some, arith}
use Rattle.std.specs.Prelude.{IsSome, int_div, nat_le}
use Rattle.std.proofs.lemmas.List.{length-drop, length-map}
use Rattle.tree.specs.Plain.{Declaration, Expression, Named, no_subscripts}
use Rattle.components.specs.Lists as lists
use Rattle.dependence_graph.specs.nest_graph.Instances.{turns_at}
use Rattle.emission.specs.graph_orders.Nests.{bare_nest, run_nest, turns_in, turns_of_loop, turns_of_trip}
use Rattle.last_values.specs.normal_forms.Numbers.{number_of_form}
use Rattle.linear_forms.specs.CanonicalLaws.{AreDistinct}
use Rattle.linear_forms.specs.Linear.{form_of, number_at}
use Rattle.nest.specs.Bodies.{Standing, nest_loops, nest_statements}
use Rattle.nest.specs.Plain.{Loop, Nest}
use Rattle.nest.specs.declared.parts.Trip.{Trip}
use Rattle.nest_order.specs.facts.Facts.{counted, number_by, places_of, values_from}
use Rattle.nest_order.specs.orders.Lists.{Distinct, In}
use Rattle.nest_order.specs.orders.Shapes.{Within}
use Rattle.nest_order.specs.runs.Nests.{variables_round}
use Rattle.nest_order.specs.runs.Touched.{MayHave, nth_of}
use Rattle.nest_order.specs.shapes.Shapes.{loop_numbered, loops_round as rounds_of, numbers_of, variable_of_loop}
use Rattle.pass_laws.proofs.NormalFacts.FoundStatements.{IsShort}
use Rattle.pass_laws.proofs.NormalFacts.Tables.{all_in, loop_there}
use Rattle.pass_laws.proofs.PreparedNests.Lists.{distinct_too, ordered_distinct, some_of}
use Rattle.pass_laws.proofs.PreparedNests.Ready.{few_loops, round_statement}
use Rattle.pass_laws.proofs.PreparedNests.Trips.{BearsNumber, bears_number, names_apart}
use Rattle.pass_laws.proofs.PreparedNests.Walks.{AreRound, Follow}
use Rattle.pass_laws.specs.prepared_nests.Loops.{IsPreparedLoop, IsPreparedTrip, variables_of_loops}
use Rattle.pass_laws.specs.prepared_nests.Nests.{IsPrepared, IsPreparedSymbol}
use Rattle.scalar_expand.specs.Flow.{AreTurns}
use Rattle.scalar_expand.specs.Numbers.{at_loops, number_under, trip_at, turns_to}
use Rattle.scalar_expand.specs.Privates.{trip_or_none}
use Rattle.subscripts.specs.Forms.{value_at}
use Rattle.prepared_passes.proofs.ExpandedNests.Walks.{round_in}
use Rattle.prepared_passes.proofs.ExpandedNests.Trips.{form_number}
use Rattle.prepared_passes.proofs.ExpandedNests.Variables.{IsAt, Pairs, each_at, front_distinct, pairs_map, variable_form}

-- ---- turns

counted_less : (z : ℤ) (i : ℕ) → i ≤ counted z → i ≤ turns_to z
counted_less (pos k) i h = by (nat_le k 2147483646) h
  where
    by : (b : Bool) → i ≤ cond b k 0 → i ≤ k
    by true h = h
    by false h = omega (arith, h)
counted_less (negsuc k) i h = h

module _ (es : List Declaration) (around : List (List ℕ)) (deepest : ℕ) (k : Nest) (h : IsPrepared es around deepest k) (v : ℕ → ℤ) where
  once : Distinct (numbers_of (nest_loops k))
  once = distinct_too (numbers_of (nest_loops k)) h.parts.once

  -- a loop has no more turns than its extent is made for
  one_turn : (round : List Loop) (l : Loop) (done : List ℕ) (i : ℕ) → IsPreparedLoop es k.symbols round l → In l (nest_loops k) → i ≤ turns_in k v l.number done
      → i ≤ trip_at (length k.symbols) v done l
  one_turn round l done i prepared inside less =
      let t = some_of (IsPreparedTrip (variables_of_loops round) k.symbols l.last) l.trip prepared.trip in
      by t.value t.is t.has
    where
      by : (t : Trip) → l.trip ≡ Some t → IsPreparedTrip (variables_of_loops round) k.symbols l.last t → i ≤ trip_at (length k.symbols) v done l
      by t is p =
          let one : turns_in k v l.number done ≡ counted (turns_at t v (map pos done))
          = ap (λ (o : Option Loop). turns_of_loop o v done) (loop_there (nest_loops k) l once inside) ∙ ap (λ (o : Option Trip). turns_of_trip o v done) is in
          subst (λ (o : Option Trip). i ≤ turns_to (number_under (length k.symbols) v (map pos done) (trip_or_none o))) (sym is)
          (subst (λ z. i ≤ turns_to (int_div z t.by)) form
          (counted_less (turns_at t v (map pos done)) i (subst (λ n. i ≤ n) one less)))
        where
          few : length (drop (length (variables_of_loops round)) p.form.coefficients) ≤ length k.symbols
          few = let short = p.short in let dropped = length-drop (length (variables_of_loops round)) p.form.coefficients in omega (arith, short, dropped)

          form : value_at t.top v (map pos done) ≡ number_of_form (length k.symbols) (at_loops (map pos done)) v t.top
          form = form_number (length k.symbols) v t.top (map pos done) (drop (length (variables_of_loops round)) p.form.coefficients) p.seven p.affine.symbols few

  all_turns : (before ls : List Loop) (done is : List ℕ) → Follow (IsPreparedLoop es k.symbols) before ls → ((o : Loop) → In o ls → In o (nest_loops k))
      → Within (turns_in k v) done (numbers_of ls) is → AreTurns (trip_at (length k.symbols) v) done ls is
  all_turns before [] done [] f g h = tt
  all_turns before [] done (i ∷ is) f g h = absurd h
  all_turns before (l ∷ ls) done [] f g h = absurd h
  all_turns before (l ∷ ls) done (i ∷ is) f g h =
      (h.0, one_turn before l done i f.0 (g l (inl refl)) h.1, all_turns (before ++ l ∷ []) ls (done ++ i ∷ []) is f.1 (λ o j. g o (inr j)) h.2)

  turns_length : (ls : List Loop) (done is : List ℕ) → Within (turns_in k v) done (numbers_of ls) is → length is ≡ length ls
  turns_length [] done [] h = refl
  turns_length [] done (i ∷ is) h = absurd h
  turns_length (l ∷ ls) done [] h = absurd h
  turns_length (l ∷ ls) done (i ∷ is) h = ap suc (turns_length ls (done ++ i ∷ []) is h.2)

  -- ---- loops round a statement

  bears : (before ls : List Loop) → Follow (IsPreparedLoop es k.symbols) before ls → lists.Each BearsNumber ls
  bears before [] f = tt
  bears before (l ∷ ls) f = (bears_number es k.symbols before l f.0, bears (before ++ l ∷ []) ls f.1)

  variables_at : (ls : List Loop) → ((o : Loop) → In o ls → In o (nest_loops k)) → map (λ n. variable_of_loop (loop_numbered (nest_loops k) n)) (numbers_of ls) ≡ variables_of_loops ls
  variables_at [] f = refl
  variables_at (l ∷ ls) f =
      ap₂ (λ (y : List ℕ) (ys : List (List ℕ)). y ∷ ys) (ap variable_of_loop (loop_there (nest_loops k) l once (f l (inl refl)))) (variables_at ls (λ o i. f o (inr i)))

  symbol_short : (y : List ℕ) → In y k.symbols → IsShort y
  symbol_short y i = (all_in (IsPreparedSymbol es) k.symbols h.parts.symbols y i).name.within

  module _ (s : ℕ) (y : Standing) (there : nth_of (nest_statements k) s ≡ Some y) (inside : In y (nest_statements k)) where
    round : AreRound (IsPreparedLoop es k.symbols) y.loops
    round = round_statement es around deepest k h y inside

    in_nest : (o : Loop) → In o y.loops → In o (nest_loops k)
    in_nest o i = by (round_in [] k.body h.plain y inside o i)
      where
        by : In o [] ⊎ In o (nest_loops k) → In o (nest_loops k)
        by (inl j) = absurd j
        by (inr j) = j

    few : length (variables_of_loops y.loops) ≤ 7
    few =
        let most = few_loops es around deepest k h y inside in
        let same = length-map y.loops (λ (l : Loop). l.variable) in
        omega (arith, most, same)

    distinct : AreDistinct (variables_of_loops y.loops)
    distinct =
        front_distinct (variables_of_loops y.loops) k.symbols
        (names_apart k.symbols symbol_short (ordered_distinct k.symbols h.parts.ordered) y.loops (bears [] y.loops round.follow) round.once)

    numbers_here : (run_nest k).loops_of s ≡ numbers_of y.loops
    numbers_here = ap rounds_of there

    variables_here : variables_round (bare_nest k) s ≡ variables_of_loops y.loops
    variables_here = ap (map (λ n. variable_of_loop (loop_numbered (nest_loops k) n))) (ap rounds_of there) ∙ variables_at y.loops in_nest

    linear_here : (e : Expression) → (run_nest k).linear s e ≡ number_by k.symbols (form_of (variables_of_loops y.loops) k.symbols e)
    linear_here e = ap (λ xs. number_by k.symbols (form_of xs k.symbols e)) variables_here

    -- ---- an instance

    module _ (is : List ℕ) (turns : Within (turns_in k v) [] (numbers_of y.loops) is) where
      pub at_turns : AreTurns (trip_at (length k.symbols) v) [] y.loops is
      at_turns = all_turns [] y.loops [] is round.follow in_nest turns

      same_length : length is ≡ length (variables_of_loops y.loops)
      same_length = turns_length y.loops [] is turns ∙ sym (length-map y.loops (λ (l : Loop). l.variable))

      here : (x : List ℕ) (i : ℕ) → IsAt (variables_of_loops y.loops) is x i → MayHave (run_nest k) v is ((run_nest k).linear s (Named x no_subscripts)) (pos i)
      here x i a =
          let f = variable_form (variables_of_loops y.loops) k.symbols is (values_from v 0 k.symbols) x i few a in
          let found : (run_nest k).linear s (Named x no_subscripts) ≡ Some (λ (w : ℕ → ℤ) (js : List ℕ). number_at f.form (places_of w k.symbols js))
          = linear_here (Named x no_subscripts) ∙ ap (number_by k.symbols) f.is_form in
          subst (λ o. MayHave (run_nest k) v is o (pos i)) (sym found) (sym f.number)

      pub each_here : Pairs (λ x i. MayHave (run_nest k) v is ((run_nest k).linear s (Named x no_subscripts)) (pos i)) (variables_of_loops y.loops) is
      each_here =
          pairs_map (IsAt (variables_of_loops y.loops) is) (λ x i. MayHave (run_nest k) v is ((run_nest k).linear s (Named x no_subscripts)) (pos i))
          (variables_of_loops y.loops) is (λ x i j a. here x i a) (each_at (variables_of_loops y.loops) is same_length distinct)

    -- ---- linear subscripts

    abbrev some_iterations : (ls : List Loop) → List ℕ
    some_iterations [] = []
    some_iterations (l ∷ ls) = 1 ∷ some_iterations ls

    some_length : (ls : List Loop) → length (some_iterations ls) ≡ length (variables_of_loops ls)
    some_length [] = refl
    some_length (l ∷ ls) = ap suc (some_length ls)

    pick : (P : List ℕ → ℕ → Type 0) (xs : List (List ℕ)) (is : List ℕ) → Pairs P xs is → (x : List ℕ) → In x xs → (i : ℕ) × P x i
    pick P [] is h x j = absurd j
    pick P (z ∷ xs) [] h x j = absurd h
    pick P (z ∷ xs) (i ∷ is) h x (inl e) = (i, subst (λ w. P w i) (sym e) h.0)
    pick P (z ∷ xs) (i ∷ is) h x (inr j) = pick P xs is h.1 x j

    pub linear_variable : (x : List ℕ) → In x (variables_of_loops y.loops) → IsSome ((run_nest k).linear s (Named x no_subscripts))
    linear_variable x i =
        let js = some_iterations y.loops in
        let p = pick (IsAt (variables_of_loops y.loops) js) (variables_of_loops y.loops) js (each_at (variables_of_loops y.loops) js (some_length y.loops) distinct) x i in
        let f = variable_form (variables_of_loops y.loops) k.symbols js [] x p.0 few p.1 in
        let found : (run_nest k).linear s (Named x no_subscripts) ≡ Some (λ (w : ℕ → ℤ) (is : List ℕ). number_at f.form (places_of w k.symbols is))
        = linear_here (Named x no_subscripts) ∙ ap (number_by k.symbols) f.is_form in
        subst IsSome (sym found) refl
