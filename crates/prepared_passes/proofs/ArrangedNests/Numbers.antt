-- The loops of a chain by their numbers, and how often each turns.
use Rattle.std.proofs.Common.{◌≡◌, refl, sym, ap, ◌∙◌, subst, ◌⊎◌, inl, inr, ℕ, zero, suc, ◌+◌, ◌==◌, ◌<◌, ◌≤◌, ◌^◌, ℤ, pos, negsuc, ◌-ℤ◌, Bool, true, false, cond, Option, Some, None, Ok, List, [], ◌∷◌, ◌++◌, length, map, get_or, arith}
use Rattle.std.specs.Prelude.{IsSomeAnd, int_div, nat_abs, nat_le, slice_get, ◌≤ℤ◌}
use Rattle.std.specs.List.{range_with_len}
use Rattle.std.proofs.lemmas.Bool.Decides.{Decides-ltb}
use Rattle.std.proofs.lemmas.Int.{ints}
use Rattle.tree.specs.Operators.{fits}
use Rattle.meaning.specs.Store.{Store}
use Rattle.meaning.specs.Typed.{declared}
use Rattle.meaning.specs.Reads.{names_in}
use Rattle.meaning.specs.Value.{number_of, trip_count}
use Rattle.subscripts.specs.declared.affine.Span.{Span}
use Rattle.components.specs.Lists as components
use Rattle.nest.specs.declared.parts.Trip.{Trip}
use Rattle.nest.specs.Bodies.{Standing, nest_loops, nest_statements}
use Rattle.nest.specs.Plain.{Loop, Nest}
use Rattle.dependence_graph.specs.declared.graphs.Graph.{Graph}
use Rattle.dependence_graph.specs.nest_graph.Instances.{turns_at}
use Rattle.dependence_graph.specs.nest_graph.Ready.{HaveTrips, IsTripIn}
use Rattle.dependence_graph.specs.nest_graph.Spans.{span_of, spans_of}
use Rattle.array_form.specs.holds.Statements.{no_statement}
use Rattle.emission.specs.emission_forms.Written.{HaveTripTexts, IsTripText}
use Rattle.emission.specs.emission_pieces.Nests.{loops_at}
use Rattle.emission.specs.graph_orders.Nests.{run_nest, turns_of_loop, turns_of_trip}
use Rattle.emission.proofs.GraphOrders.Tables.{loop_known}
use Rattle.nest_order.specs.facts.Facts.{counted}
use Rattle.nest_order.specs.orders.Lists.{In}
use Rattle.nest_order.specs.orders.Shapes.{loops_of_shape}
use Rattle.nest_order.proofs.orders.Membership.{In-map, map-In}
use Rattle.nest_order.proofs.runs.Ending.{count_from_one, turns_to}
use Rattle.nest_order.proofs.runs.Going.{trip_bounded}
use Rattle.nest_order.specs.runs.Guarded.{sequential}
use Rattle.nest_order.specs.runs.Stores.{HoldsNest, Setting}
use Rattle.nest_order.specs.shapes.Shapes.{loop_numbered, numbers_of, shape_of, sizes_of, trip_of_loop, variable_of_loop}
use Rattle.interchange.specs.Arranged.{is_loop_free}
use Rattle.interchange.specs.Chains.{Chain}
use Rattle.interchange.specs.Orders.{has_constant, has_turn, is_count, same_trip}
use Rattle.interchange.specs.Laws.{IsChainOf}
use Rattle.interchange.proofs.ChainLaws.{StandsUnder, chain_statement, few_loops, linear_trips}
use Rattle.interchange.proofs.ChainParts.{chains_are_loops}
use Rattle.interchange_laws.specs.orders.Moves.{chain_of as shape_chain}
use Rattle.interchange_laws.proofs.orders.Chains.{chain_loops}
use Rattle.interchange_laws.specs.runs.Counted.{HaveNumbers, HaveSymbolTrips, IsCountable}
use Rattle.prepared_passes.specs.arrangement.Laws.{MayMove}
use Rattle.prepared_passes.proofs.ArrangedNests.Counts.{countable_number}
use Rattle.prepared_passes.proofs.ArrangedNests.Known.{constant_turns, loop_at, same_number, span_at, span_says, trip_at}
use Rattle.prepared_passes.proofs.ArrangedNests.Shapes.{shape_of_chain}
use Rattle.prepared_passes.proofs.ArrangedNests.Trips.{IsNumber, quotient_size, same_turns, trip_number}

-- ---- lists

in_at : {X : Type 0} (x : X) (xs : List X) → components.IsMember x xs → (k : ℕ) × (slice_get xs k ≡ Some x)
in_at x [] i = absurd i
in_at x (y ∷ xs) (inl e) = (0, ap Some (sym e))
in_at x (y ∷ xs) (inr i) = let r = in_at x xs i in (suc r.0, r.1)

at_in : {X : Type 0} (xs : List X) (k : ℕ) (x : X) → slice_get xs k ≡ Some x → In x xs
at_in [] k x e = cc
at_in (y ∷ xs) zero x e = inl cc
at_in (y ∷ xs) (suc k) x e = inr (at_in xs k x e)

got_or : {X : Type 0} (xs : List X) (k : ℕ) (x d : X) → slice_get xs k ≡ Some x → (k < length xs) × (get_or xs k d ≡ x)
got_or [] k x d e = cc
got_or (y ∷ xs) zero x d e = (omega arith, cc)
got_or (y ∷ xs) (suc k) x d e = let r = got_or xs k x d e in (omega (arith, r.0), r.1)

-- ---- the texts of trips, each with the variables of the loops round it

record Texted (symbols : List (List ℕ)) (before : List (List ℕ)) (ls : List Loop) (x : Loop) : Type 0 where
  round : List (List ℕ)
  text : IsSomeAnd x.trip (IsTripText round symbols x.last)
  among : (y : List ℕ) → In y round → In y before ⊎ ((l : Loop) × In l ls × (y ≡ l.variable))
  short : length round ≤ length before + length ls

In_split : {X : Type 0} (x : X) (xs ys : List X) → In x (xs ++ ys) → In x xs ⊎ In x ys
In_split x [] ys i = inr i
In_split x (y ∷ xs) ys (inl e) = inl (inl e)
In_split x (y ∷ xs) ys (inr i) = by (In_split x xs ys i)
  where
    by : In x xs ⊎ In x ys → ((x ≡ y) ⊎ In x xs) ⊎ In x ys
    by (inl j) = inl (inr j)
    by (inr j) = inr j

append_length : {X : Type 0} (xs ys : List X) → length (xs ++ ys) ≡ length xs + length ys
append_length [] ys = omega arith
append_length (x ∷ xs) ys = let h = append_length xs ys in omega (arith, h)

texted : (symbols : List (List ℕ)) (before : List (List ℕ)) (ls : List Loop) → HaveTripTexts symbols before ls → (x : Loop) → In x ls → Texted symbols before ls x
texted symbols before [] h x i = absurd i
texted symbols before (l ∷ ls) h x (inl e) =
    subst (Texted symbols before (l ∷ ls)) (sym e) (record { round = before; text = h.0; among = λ y j. inl j; short = omega arith })
texted symbols before (l ∷ ls) h x (inr i) =
    let r = texted symbols (before ++ l.variable ∷ []) ls h.1 x i in
    let e : length (before ++ l.variable ∷ []) ≡ length before + 1 = append_length before (l.variable ∷ []) in
    let f : length r.round ≤ length (before ++ l.variable ∷ []) + length ls = r.short in
    record { round = r.round; text = r.text; among = λ y j. by y (r.among y j); short = omega arith }
  where
    by : (y : List ℕ) → In y (before ++ l.variable ∷ []) ⊎ ((m : Loop) × In m ls × (y ≡ m.variable)) → In y before ⊎ ((m : Loop) × In m (l ∷ ls) × (y ≡ m.variable))
    by y (inl j) = front (In_split y before (l.variable ∷ []) j)
      where
        front : In y before ⊎ In y (l.variable ∷ []) → In y before ⊎ ((m : Loop) × In m (l ∷ ls) × (y ≡ m.variable))
        front (inl k) = inl k
        front (inr (inl e)) = inr (l, inl refl, e)
        front (inr (inr none)) = absurd none
    by y (inr k) = inr (k.0, inr k.1, k.2)

-- ---- a trip as it is tested

record Tested (x : Loop) : Type 0 where
  depth : ℕ
  is : IsSomeAnd x.trip (IsTripIn depth)

tested : (depth : ℕ) (ls : List Loop) → HaveTrips depth ls → (x : Loop) → In x ls → Tested x
tested depth [] h x i = absurd i
tested depth (l ∷ ls) h x (inl e) = subst Tested (sym e) (record { depth = depth; is = h.0 })
tested depth (l ∷ ls) h x (inr i) = tested (suc depth) ls h.1 x i

-- ---- the number and the turns of a loop

abbrev pub top_of_trip : (ℕ → ℤ) → Option Trip → ℤ
top_of_trip v None = pos 0
top_of_trip v (Some t) = turns_at t v []

abbrev pub top_of_loop : (ℕ → ℤ) → Option Loop → ℤ
top_of_loop v None = pos 0
top_of_loop v (Some x) = top_of_trip v x.trip

counted_is : (z : ℤ) (k : ℕ) → k ≡ turns_to z → k ≤ 2147483646 → k ≡ counted z
counted_is (pos m) k e h = e ∙ sym (ap (λ c. cond c m 0) (small m (let f : k ≡ m = e in omega arith)))
  where
    small : (m : ℕ) → m ≤ 2147483646 → nat_le m 2147483646 ≡ true
    small m h = grind arith
counted_is (negsuc m) k e h = e

module _ (bits : ℕ) (high : bits ≤ 63) (m : Nest) (g : Graph) (c : Chain) (trips : List Trip) (w : Setting) (may : MayMove bits m g c trips w) where
  -- a statement of the chain
  stands : StandsUnder (nest_statements m) c.loops
  stands = chain_statement m c may.chain

  place : (k : ℕ) × (slice_get (nest_statements m) k ≡ Some stands.standing)
  place = in_at stands.standing (nest_statements m) stands.among

  pub known : (x : Loop) → In x c.loops → loop_numbered (nest_loops m) x.number ≡ Some x
  known x i = loop_known m may.plain may.ready place.0 stands.standing place.1 x (subst (In x) (sym stands.round) i)

  loops_here : loops_at m place.0 ≡ c.loops
  loops_here = ap (λ (s : Standing). s.loops) (got_or (nest_statements m) place.0 stands.standing no_statement place.1).1 ∙ stands.round

  texts : HaveTripTexts m.symbols [] c.loops
  texts = subst (HaveTripTexts m.symbols []) loops_here (may.forms.trips place.0 (got_or (nest_statements m) place.0 stands.standing no_statement place.1).0)

  trip_of : (x : Loop) → In x c.loops → (t : Trip) × (x.trip ≡ Some t) × (is_loop_free t ≡ true)
  trip_of x i = by (index x c.loops i)
    where
      index : (x : Loop) (xs : List Loop) → In x xs → (k : ℕ) × (slice_get xs k ≡ Some x)
      index x [] i = absurd i
      index x (y ∷ xs) (inl e) = (0, ap Some (sym e))
      index x (y ∷ xs) (inr i) = let r = index x xs i in (suc r.0, r.1)

      by : (k : ℕ) × (slice_get c.loops k ≡ Some x) → (t : Trip) × (x.trip ≡ Some t) × (is_loop_free t ≡ true)
      by r = let a = trip_at c.loops trips r.0 x may.are r.1 in (a.0, a.2, a.3)

  abbrev top : ℕ → ℤ
  top k = top_of_loop w.values (loop_numbered (nest_loops m) k)

  abbrev turns : ℕ → ℕ
  turns k = (run_nest m).turns_of w.values k []

  top_is : (x : Loop) → In x c.loops → (t : Trip) → x.trip ≡ Some t → top x.number ≡ turns_at t w.values []
  top_is x i t e = ap (top_of_loop w.values) (known x i) ∙ ap (top_of_trip w.values) e

  turns_are : (x : Loop) → In x c.loops → (t : Trip) → x.trip ≡ Some t → (before : List ℕ) → (run_nest m).turns_of w.values x.number before ≡ counted (turns_at t w.values (map pos before))
  turns_are x i t e before = ap (λ o. turns_of_loop o w.values before) (known x i) ∙ ap (λ o. turns_of_trip o w.values before) e

  numbered_in : (k : ℕ) → In k (numbers_of c.loops) → (x : Loop) × In x c.loops × (k ≡ x.number)
  numbered_in k i = let o = In-map (λ (x : Loop). x.number) k c.loops i in (o.it, o.inside, o.is)

  -- ---- the numbers of trips

  loop_in_nest : (x : Loop) → In x c.loops → In x (nest_loops m)
  loop_in_nest x i = found (nest_loops m) (known x i)
    where
      found : (ls : List Loop) → loop_numbered ls x.number ≡ Some x → In x ls
      found [] e = cc
      found (l ∷ ls) e = by (l.number == x.number) e (found ls)
        where
          by : (b : Bool) → cond b (Some l) (loop_numbered ls x.number) ≡ Some x → (loop_numbered ls x.number ≡ Some x → In x ls) → In x (l ∷ ls)
          by true f more = inl (let same : l ≡ x = cc in sym same)
          by false f more = inr (more f)

  pub parts : IsChainOf m.body c
  parts = chains_are_loops m.body c may.chain

  -- the statements by their numbers
  abbrev pub listed : List ℕ
  listed = range_with_len 0 (sizes_of c.body)

  pub shape_is : (run_nest m).shape ≡ shape_chain (numbers_of (parts.first ∷ parts.rest)) listed
  shape_is = ap (shape_of 0) parts.is ∙ shape_of_chain parts.first parts.rest c.body parts.body

  pub loops_are : loops_of_shape (run_nest m).shape ≡ numbers_of c.loops
  loops_are =
      ap loops_of_shape shape_is
      ∙ (chain_loops (numbers_of (parts.first ∷ parts.rest)) listed (record { first = parts.first.number; rest = numbers_of parts.rest; is = refl })
      ∙ ap numbers_of (sym parts.loops_are))

  number_in_shape : (x : Loop) → In x c.loops → In x.number (loops_of_shape (run_nest m).shape)
  number_in_shape x i = subst (In x.number) (sym loops_are) (map-In (λ (y : Loop). y.number) x c.loops i)

  variable_is : (x : Loop) → In x c.loops → IsNumber w x.variable
  variable_is x i =
      let e : (run_nest m).variable_at x.number ≡ x.variable = ap variable_of_loop (known x i) in
      let d = may.forms.variables x.number (number_in_shape x i) in
      record {
        declaration = d.0;
        is = subst (λ y. declared w.program.declarations y ≡ Some d.0) e d.1;
        integer = d.2;
        scalar = subst (λ y. w.bounds y ≡ Some []) e (may.facts.variables x.number (number_in_shape x i));
      }

  value_of_trip : (x : Loop) → In x c.loops → (t : Trip) → x.trip ≡ Some t → is_loop_free t ≡ true → (s : Store) → HoldsNest bits (run_nest m) w s → number_of (sequential bits) x.last s ≡ Ok (turns_at t w.values [])
  value_of_trip x i t e none s inside =
      let a = texted m.symbols [] c.loops texts x i in
      let b = tested 0 c.loops (linear_trips m may.ready c may.chain) x i in
      trip_number bits high (run_nest m) w s inside may.facts.symbols may.facts.values a.round
      (let short : length a.round ≤ 0 + length c.loops = a.short in let few : length c.loops ≤ 7 = few_loops m may.ready c may.chain in omega arith)
      (λ y j. number y (a.among y j)) x.last t (subst (λ o. IsSomeAnd o (IsTripText a.round m.symbols x.last)) e a.text)
      (subst (λ o. IsSomeAnd o (IsTripIn b.depth)) e b.is).positive none
    where
      number : (y : List ℕ) → In y [] ⊎ ((l : Loop) × In l c.loops × (y ≡ l.variable)) → IsNumber w y
      number y (inl none) = absurd none
      number y (inr k) = subst (IsNumber w) (sym k.2) (variable_is k.0 k.1)

  pub number_given : (k : ℕ) (s : Store) → In k (numbers_of c.loops) → HoldsNest bits (run_nest m) w s → number_of (sequential bits) ((run_nest m).trip_at k) s ≡ Ok (top k)
  number_given k s i inside = gives (numbered_in k i)
    where
      gives : (x : Loop) × In x c.loops × (k ≡ x.number) → number_of (sequential bits) ((run_nest m).trip_at k) s ≡ Ok (top k)
      gives (x, i, e) =
          let t = trip_of x i in
          ap (λ j. number_of (sequential bits) ((run_nest m).trip_at j) s) e
          ∙ (ap (λ o. number_of (sequential bits) (trip_of_loop o) s) (known x i)
          ∙ (value_of_trip x i t.0 t.1 t.2 s inside ∙ ap Ok (sym (top_is x i t.0 t.1) ∙ ap top (sym e))))

  pub turns_alike : (k : ℕ) (before : List ℕ) → In k (numbers_of c.loops) → (run_nest m).turns_of w.values k before ≡ turns k
  turns_alike k before i = same (numbered_in k i)
    where
      same : (x : Loop) × In x c.loops × (k ≡ x.number) → (run_nest m).turns_of w.values k before ≡ turns k
      same (x, i, e) =
          let t = trip_of x i in
          ap (λ j. (run_nest m).turns_of w.values j before) e
          ∙ (turns_are x i t.0 t.1 before ∙ (ap counted (same_turns t.0 w.values (map pos before) t.2) ∙ (sym (turns_are x i t.0 t.1 []) ∙ ap turns (sym e))))

  abbrev pub have_numbers : HaveNumbers bits (run_nest m) w (numbers_of c.loops)
  have_numbers = record { top = top; gives = number_given; turns = turns; same = turns_alike }

  turns_counted : (x : Loop) → In x c.loops → turns x.number ≡ counted (top x.number)
  turns_counted x i = let t = trip_of x i in turns_are x i t.0 t.1 [] ∙ ap counted (sym (top_is x i t.0 t.1))

  pub have_symbol_trips : HaveSymbolTrips bits (run_nest m) w (numbers_of c.loops)
  have_symbol_trips = record {
    numbers = have_numbers;
    names = λ k y i j. names k y (numbered_in k i) j;
    counted = λ k n i e. counts k n (numbered_in k i) e;
  }
    where
      names : (k : ℕ) (y : List ℕ) → (x : Loop) × In x c.loops × (k ≡ x.number) → In y (names_in ((run_nest m).trip_at k)) → In y m.symbols
      names k y (x, i, e) j =
          let t = trip_of x i in
          may.names x t.0 y (loop_in_nest x i) t.1 t.2 (subst (λ z. In y (names_in z)) (ap (run_nest m).trip_at e ∙ ap trip_of_loop (known x i)) j)

      counts : (k n : ℕ) → (x : Loop) × In x c.loops × (k ≡ x.number) → trip_count (pos 1) (top k) (pos 1) ≡ Ok n → n ≡ turns k
      counts k n (x, i, f) e =
          counted_is (top k) n (count_from_one (top k) n e) (trip_bounded (top k) n e)
          ∙ (ap (λ j. counted (top j)) f ∙ (sym (turns_counted x i) ∙ ap turns (sym f)))

  -- ---- what the rules on trips know

  module _ (l : Loop) where
    abbrev pub number : ℕ → ℕ
    number k = (get_or c.loops k l).number

    at_place : (k : ℕ) (x : Loop) → slice_get c.loops k ≡ Some x → In x c.loops × (number k ≡ x.number)
    at_place k x e = (at_in c.loops k x e, ap (λ (y : Loop). y.number) (got_or c.loops k x l e).1)

    small_fits : (z : ℤ) → nat_abs z ≤ 2 ^ 41 → fits 127 z ≡ true
    small_fits (pos k) h = (Decides-ltb k (2 ^ 127)).1 (omega (arith, h))
    small_fits (negsuc k) h = (Decides-ltb k (2 ^ 127)).1 (omega (arith, h))

    one_less : (z : ℤ) → nat_abs z ≤ 2 ^ 40 → fits 127 (z -ℤ pos 1) ≡ true
    one_less (pos zero) h = ap (fits 127) (let e : pos 0 -ℤ pos 1 ≡ negsuc 0 = omega (arith, ints) in e) ∙ small_fits (negsuc 0) (omega arith)
    one_less (pos (suc k)) h = ap (fits 127) (let e : pos (suc k) -ℤ pos 1 ≡ pos k = omega (arith, ints) in e) ∙ small_fits (pos k) (omega (arith, h))
    one_less (negsuc k) h = ap (fits 127) (let e : negsuc k -ℤ pos 1 ≡ negsuc (suc k) = omega (arith, ints) in e) ∙ small_fits (negsuc (suc k)) (omega (arith, h))

    divisor : (z : ℤ) → pos 1 ≤ℤ z → (b : ℕ) × (z ≡ pos b) × (0 < b)
    divisor (pos b) h = (b, refl, omega (arith, ints, h))
    divisor (negsuc b) h = absurd (omega (arith, ints, h))

    pub constants : (k : ℕ) → has_constant is_count (slice_get (spans_of [] c.loops) k) ≡ true → IsCountable top turns (number k)
    constants k e = by (slice_get (spans_of [] c.loops) k) refl e
      where
        on : (s : Span) (x : Loop) → slice_get c.loops k ≡ Some x → (before : List Span) × (s ≡ span_of before x.trip) → has_constant is_count (Some s) ≡ true → IsCountable top turns (number k)
        on s x f (before, is) h =
            let i = at_place k x f in
            let t = trip_of x i.0 in
            let says = span_says is_count before t.0 (ap (λ z. has_constant is_count (Some z)) (sym (is ∙ ap (span_of before) t.1)) ∙ h) in
            let b = tested 0 c.loops (linear_trips m may.ready c may.chain) x i.0 in
            let form : IsTripIn b.depth t.0 = subst (λ o. IsSomeAnd o (IsTripIn b.depth)) t.1 b.is in
            let d = divisor t.0.by form.positive in
            let z : ℤ = int_div t.0.top.constant t.0.by in
            let size : nat_abs z ≤ 2 ^ 40 =
            (let q : nat_abs (int_div t.0.top.constant (pos d.0)) ≤ nat_abs t.0.top.constant = quotient_size t.0.top.constant d.0 d.2 in
            let r : nat_abs t.0.top.constant ≤ 2 ^ 40 = form.top.small_constant in
            subst (λ y. nat_abs (int_div t.0.top.constant y) ≤ 2 ^ 40) (sym d.1) (omega (arith, q, r))) in
            let tops : top (number k) ≡ z = ap top i.1 ∙ (top_is x i.0 t.0 t.1 ∙ constant_turns t.0 w.values says.0) in
            let counts : turns (number k) ≡ counted z = ap turns i.1 ∙ (turns_counted x i.0 ∙ ap counted (sym (ap top i.1) ∙ tops)) in
            subst (λ y. trip_count (pos 1) y (pos 1) ≡ Ok (turns (number k))) (sym tops)
            (countable_number z (small_fits z (omega (arith, size))) (one_less z size) says.1 ∙ ap Ok (sym counts))

        by : (o : Option Span) → slice_get (spans_of [] c.loops) k ≡ o → has_constant is_count o ≡ true → IsCountable top turns (number k)
        by None f h = cc
        by (Some s) f h = let a = span_at [] c.loops k s f in on s a.0 a.1 a.2 h

    pub turning : (k : ℕ) → has_constant has_turn (slice_get (spans_of [] c.loops) k) ≡ true → has_turn (top (number k)) ≡ true
    turning k e = by (slice_get (spans_of [] c.loops) k) refl e
      where
        on : (s : Span) (x : Loop) → slice_get c.loops k ≡ Some x → (before : List Span) × (s ≡ span_of before x.trip) → has_constant has_turn (Some s) ≡ true → has_turn (top (number k)) ≡ true
        on s x f (before, is) h =
            let i = at_place k x f in
            let t = trip_of x i.0 in
            let says = span_says has_turn before t.0 (ap (λ z. has_constant has_turn (Some z)) (sym (is ∙ ap (span_of before) t.1)) ∙ h) in
            ap (λ z. has_turn (top z)) i.1 ∙ (ap has_turn (top_is x i.0 t.0 t.1 ∙ constant_turns t.0 w.values says.0) ∙ says.1)

        by : (o : Option Span) → slice_get (spans_of [] c.loops) k ≡ o → has_constant has_turn o ≡ true → has_turn (top (number k)) ≡ true
        by None f h = cc
        by (Some s) f h = let a = span_at [] c.loops k s f in on s a.0 a.1 a.2 h

    pub equal : (j k : ℕ) → same_trip (slice_get trips j) (slice_get trips k) ≡ true → IsCountable top turns (number j) → IsCountable top turns (number k)
    equal j k e h = by (slice_get trips j) refl (slice_get trips k) refl e
      where
        on : (t u : Trip) → slice_get trips j ≡ Some t → slice_get trips k ≡ Some u → same_trip (Some t) (Some u) ≡ true → IsCountable top turns (number k)
        on t u f g e =
            let a = loop_at c.loops trips j t may.are f in
            let b = loop_at c.loops trips k u may.are g in
            let x = at_place j a.0 a.1 in
            let y = at_place k b.0 b.1 in
            let tops : top (number j) ≡ top (number k) =
            ap top x.1 ∙ (top_is a.0 x.0 t a.2 ∙ (same_number t u w.values a.3 b.3 e ∙ (sym (top_is b.0 y.0 u b.2) ∙ ap top (sym y.1)))) in
            let counts : turns (number j) ≡ turns (number k) =
            ap turns x.1 ∙ (turns_counted a.0 x.0 ∙ (ap (λ z. counted (top z)) (sym x.1) ∙ (ap counted tops ∙ (ap (λ z. counted (top z)) y.1 ∙ (sym (turns_counted b.0 y.0) ∙ ap turns (sym y.1)))))) in
            subst (λ z. trip_count (pos 1) z (pos 1) ≡ Ok (turns (number k))) tops (h ∙ ap Ok counts)

        by : (o : Option Trip) → slice_get trips j ≡ o → (p : Option Trip) → slice_get trips k ≡ p → same_trip o p ≡ true → IsCountable top turns (number k)
        by None f p g e = cc
        by (Some t) f None g e = cc
        by (Some t) f (Some u) g e = on t u f g e
