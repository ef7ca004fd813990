-- A nest with its loops in another order is a nest.
use Rattle.std.proofs.Common.{◌≡◌, refl, sym, ap, ◌∙◌, subst, inl, inr, ℕ, suc, ◌<◌, ℤ, pos, List, [], ◌∷◌, length, map, Result, Ok, Option, Some, None, arith}
use Rattle.std.specs.Option.{option_map}
use Rattle.tree.specs.Plain.{Expression}
use Rattle.tree.specs.declared.ops.Fault.{Fault}
use Rattle.tree.specs.declared.ops.Value.TheVariants.{Int}
use Rattle.meaning.specs.Store.{Store}
use Rattle.meaning.specs.Value.{number_of, trip_count, value_of}
use Rattle.nest_order.specs.orders.Lists.{Distinct, In, Pairwise}
use Rattle.nest_order.specs.orders.Nests.{IsInstance, IsNest}
use Rattle.nest_order.specs.orders.Shapes.{Instance, Stands, StandsIn, Within, loops_of_shape, statements}
use Rattle.nest_order.proofs.orders.Common.{statement_stands}
use Rattle.nest_order.specs.runs.Guarded.{at_iterations, effect, sequential}
use Rattle.nest_order.specs.runs.Nests.{RunNest, effect_of, variables_round}
use Rattle.nest_order.specs.runs.Stores.{HoldsNest, IsNestIn, Setting}
use Rattle.nest_order.proofs.runs.Loops.{loop_in}
use Rattle.interchange_laws.specs.orders.Moves.{chain_of, inner, rearranged, restored, restored_instance, singles}
use Rattle.interchange_laws.specs.runs.Counted.{HaveSymbolTrips, RearrangedNestIsNest}
use Rattle.interchange_laws.specs.runs.Nests.{rearranged_nest}
use Rattle.interchange_laws.proofs.orders.Chains.{HasLoop, WithinEach, chain_loops, chain_statements, each_within, stands_in_chain, still_has_loop, within_each, within_restored}
use Rattle.interchange_laws.proofs.orders.Meeting.{within-length}
use Rattle.interchange_laws.proofs.orders.Moves.{Distinct_rearranged, In_rearranged, rearranged_length, rearranged_restored, restored_rearranged}
use Rattle.interchange_laws.proofs.runs.Acts.{at_rearranged, distinct_variables, map_rearranged, rearranged_In}

-- what stands in a chain is one of its statements
single_stands : (ss : List ℕ) (s : ℕ) (ks : List ℕ) → StandsIn (singles ss) s ks → In s ss
single_stands [] s ks h = absurd h
single_stands (r ∷ ss) s [] (inl h) = inl (sym h)
single_stands (r ∷ ss) s (k ∷ ks) (inl h) = absurd h
single_stands (r ∷ ss) s ks (inr h) = inr (single_stands ss s ks h)

inner_stands : (ls ss : List ℕ) (s : ℕ) (ks : List ℕ) → StandsIn (inner ls ss) s ks → In s ss
inner_stands [] ss s ks h = single_stands ss s ks h
inner_stands (l ∷ ls) ss s [] (inl h) = absurd h
inner_stands (l ∷ ls) ss s (k ∷ ks) (inl h) = inner_stands ls ss s ks h.1
inner_stands (l ∷ ls) ss s ks (inr h) = absurd h

chain_stands : (ls ss : List ℕ) (s : ℕ) (ks : List ℕ) → HasLoop ls → Stands (chain_of ls ss) s ks → In s ss
chain_stands [] ss s ks h k = absurd (let f : 0 ≡ suc (length h.rest) = ap length h.is in omega arith)
chain_stands (l ∷ ls) ss s [] h k = absurd k
chain_stands (l ∷ ls) ss s (m ∷ ks) h k = inner_stands ls ss s ks k.1

module _ (bits : ℕ) (n : RunNest) (w : Setting) (l : ℕ) (ls ss ps : List ℕ) (ok : IsNestIn bits n w) (chain : n.shape ≡ chain_of (l ∷ ls) ss) (has : HaveSymbolTrips bits n w (l ∷ ls)) where
  abbrev other : RunNest
  other = rearranged_nest ps n (l ∷ ls) ss

  abbrev ms : List ℕ
  ms = rearranged ps (l ∷ ls)

  abbrev trip : ℕ → List ℕ → ℕ
  trip = n.turns_of w.values

  first : HasLoop (l ∷ ls)
  first = record { first = l; rest = ls; is = refl }

  first_too : HasLoop ms
  first_too = still_has_loop (l ∷ ls) ms first (rearranged_length ps (l ∷ ls))

  loops_here : loops_of_shape n.shape ≡ l ∷ ls
  loops_here = ap loops_of_shape chain ∙ chain_loops (l ∷ ls) ss first

  statements_here : statements n.shape ≡ ss
  statements_here = ap statements chain ∙ chain_statements (l ∷ ls) ss first

  in_list : (m : ℕ) → In m (loops_of_shape other.shape) → In m (l ∷ ls)
  in_list m i = In_rearranged m ps (l ∷ ls) (subst (In m) (chain_loops ms ss first_too) i)

  in_nest : (m : ℕ) → In m (loops_of_shape other.shape) → In m (loops_of_shape n.shape)
  in_nest m i = subst (In m) (sym loops_here) (in_list m i)

  in_text : (s : ℕ) → In s (statements other.shape) → In s (statements n.shape)
  in_text s i = subst (In s) (sym statements_here) (subst (In s) (chain_statements ms ss first_too) i)

  round : (s : ℕ) → In s (statements n.shape) → n.loops_of s ≡ l ∷ ls
  round s i =
      let h = statement_stands n.shape s i in
      ok.text.nest.fits s h.0 h.1 ∙ sym (stands_in_chain (l ∷ ls) ss s h.0 first (subst (λ t. Stands t s h.0) chain h.1))

  nest_too : IsNest other.loops_of other.shape
  nest_too = record {
    rising = subst (Pairwise (λ s r. s < r)) (statements_here ∙ sym (chain_statements ms ss first_too)) ok.text.nest.rising;
    single = subst Distinct (sym (chain_loops ms ss first_too)) (Distinct_rearranged ps (l ∷ ls) (subst Distinct loops_here ok.text.nest.single));
    fits = λ s ks h. ap (rearranged ps) (round s (subst (In s) (sym statements_here) (chain_stands ms ss s ks first_too h))) ∙ stands_in_chain ms ss s ks first_too h;
  }

  inside_too : (s : Store) → HoldsNest bits other w s → HoldsNest bits n w s
  inside_too s h = record { program = h.program; bounds = h.bounds; symbols = h.symbols }

  -- ---- an instance is one of the nest, and does what that does

  was_instance : (x : Instance) → IsInstance other.loops_of trip other.shape x → IsInstance n.loops_of trip n.shape (restored_instance ps x)
  was_instance x h =
      let i = in_text x.statement h.0 in
      let e : n.loops_of x.statement ≡ l ∷ ls = round x.statement i in
      let v : WithinEach has.numbers.turns ms x.iterations =
      within_each has.numbers.turns trip [] ms x.iterations (λ m b j. has.numbers.same m b (In_rearranged m ps (l ∷ ls) j)) (subst (λ zs. Within trip [] (rearranged ps zs) x.iterations) e h.1) in
      let u : WithinEach has.numbers.turns (l ∷ ls) (restored ps x.iterations) =
      subst (λ zs. WithinEach has.numbers.turns zs (restored ps x.iterations)) (restored_rearranged ps (l ∷ ls)) (within_restored has.numbers.turns ps ms x.iterations v) in
      (i, subst (λ zs. Within trip [] zs (restored ps x.iterations)) (sym e) (each_within has.numbers.turns trip [] (l ∷ ls) (restored ps x.iterations) (λ m b j. has.numbers.same m b j) u))

  variables_apart : Distinct (map n.variable_at (l ∷ ls))
  variables_apart = distinct_variables n.variable_at (l ∷ ls) (λ a b i j e. ok.text.variables a b (subst (In a) (sym loops_here) i) (subst (In b) (sym loops_here) j) e) (subst Distinct loops_here ok.text.nest.single)

  map_length : {X Y : Type 0} (f : X → Y) (xs : List X) → length (map f xs) ≡ length xs
  map_length f [] = refl
  map_length f (x ∷ xs) = ap suc (map_length f xs)

  same_store : (x : Instance) → IsInstance other.loops_of trip other.shape x → (t : Store)
      → at_iterations (variables_round other x.statement) x.iterations t ≡ at_iterations (variables_round n x.statement) (restored ps x.iterations) t
  same_store x h t =
      let e = round x.statement (in_text x.statement h.0) in
      let was = was_instance x h in
      let long : length (restored ps x.iterations) ≡ length (n.loops_of x.statement) = within-length trip [] (n.loops_of x.statement) (restored ps x.iterations) was.1 in
      let apart : Distinct (variables_round n x.statement) = subst (λ zs. Distinct (map n.variable_at zs)) (sym e) variables_apart in
      let size : length (variables_round n x.statement) ≡ length (restored ps x.iterations) = map_length n.variable_at (n.loops_of x.statement) ∙ sym long in
      ap (λ zs. at_iterations zs x.iterations t) (map_rearranged n.variable_at ps (n.loops_of x.statement))
      ∙ (ap (λ zs. at_iterations (rearranged ps (variables_round n x.statement)) zs t) (sym (rearranged_restored ps x.iterations))
      ∙ at_rearranged ps (variables_round n x.statement) (restored ps x.iterations) t apart size)

  same_effect : (x : Instance) → IsInstance other.loops_of trip other.shape x → (t : Store) → effect_of other (sequential bits) x t ≡ effect_of n (sequential bits) (restored_instance ps x) t
  same_effect x h t = ap (effect (sequential bits) (n.statement_at x.statement)) (same_store x h t)

  -- ---- linear expressions

  abbrev in_order : ((ℕ → ℤ) → List ℕ → ℤ) → (ℕ → ℤ) → List ℕ → ℤ
  in_order f v is = f v (restored ps is)

  linear_too : (x : Instance) (t : Store) (e : Expression) (f : (ℕ → ℤ) → List ℕ → ℤ) (z : ℤ) → IsInstance other.loops_of trip other.shape x → HoldsNest bits other w t
      → other.linear x.statement e ≡ Some f → value_of (sequential bits) e (at_iterations (variables_round other x.statement) x.iterations t) ≡ Ok (Int z) → z ≡ f w.values x.iterations
  linear_too x t e f z h inside g v = by (n.linear x.statement e) refl g
    where
      none_some : {A : Type 0} (a : A) → ◌≡◌ {A = Option A} None (Some a) → ⊥
      none_some a k = cc

      some_same : {A : Type 0} (a b : A) → ◌≡◌ {A = Option A} (Some a) (Some b) → a ≡ b
      some_same a b k = cc

      by : (o : Option ((ℕ → ℤ) → List ℕ → ℤ)) → n.linear x.statement e ≡ o → option_map in_order o ≡ Some f → z ≡ f w.values x.iterations
      by None k g = absurd (none_some f g)
      by (Some f0) k g =
          let e1 : in_order f0 ≡ f = some_same (in_order f0) f g in
          ok.linear (restored_instance ps x) t e f0 z (was_instance x h) (inside_too t inside) k (subst (λ (s : Store). value_of (sequential bits) e s ≡ Ok (Int z)) (same_store x h t) v)
          ∙ ap (λ (q : (ℕ → ℤ) → List ℕ → ℤ). q w.values x.iterations) e1

  -- ---- trips

  same_number : (a b : ℤ) → ◌≡◌ {A = Result ℤ Fault} (Ok a) (Ok b) → a ≡ b
  same_number a b e = cc

  trips_too : (before : List ℕ) (m : ℕ) (t : Store) (z : ℤ) (k : ℕ) → In m (loops_of_shape other.shape) → HoldsNest bits other w t → number_of (sequential bits) (n.trip_at m) t ≡ Ok z → trip_count (pos 1) z (pos 1) ≡ Ok k → k ≡ trip m before
  trips_too before m t z k i inside e c =
      let j = in_list m i in
      let f : z ≡ has.numbers.top m = same_number z (has.numbers.top m) (sym e ∙ has.numbers.gives m t j (inside_too t inside)) in
      has.counted m k j (subst (λ y. trip_count (pos 1) y (pos 1) ≡ Ok k) f c) ∙ sym (has.numbers.same m before j)

  is_nest : IsNestIn bits other w
  is_nest = record {
    text = record {
      nest = nest_too;
      variables = λ a b i j e. ok.text.variables a b (in_nest a i) (in_nest b j) e;
      own = λ s m i j k. rearranged_In m ps (n.loops_of s) (ok.text.own s m (in_text s i) (in_nest m j) k);
      unwritten = λ s m i j. ok.text.unwritten s m (in_text s i) (in_nest m j);
      symbols = λ s x i j. ok.text.symbols s x (in_text s i) j;
      others = λ m x i j. ok.text.others m x (in_nest m i) j;
      trips = λ ks m x h i. inl (has.names m x (in_list m (loop_in other.shape ks m h)) i);
      plain = λ s i. ok.text.plain s (in_text s i);
    };
    variables = λ m i. ok.variables m (in_nest m i);
    integer = λ m i. ok.integer m (in_nest m i);
    symbols = ok.symbols;
    typed = λ x t c v h inside e. ok.typed (restored_instance ps x) t c v (was_instance x h) (inside_too t inside) (sym (same_effect x h t) ∙ e);
    trips = λ ks m before t z k h v inside at e c. trips_too before m t z k (loop_in other.shape ks m h) inside e c;
    linear = linear_too;
  }

pub rearranged_nest_is_nest : RearrangedNestIsNest
rearranged_nest_is_nest bits n w l ls ss ps ok chain has = is_nest bits n w l ls ss ps ok chain has
