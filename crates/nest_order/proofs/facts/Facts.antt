-- The facts of a nest suffice.
use Rattle.std.proofs.Common.{◌≡◌, refl, sym, ap, ◌∙◌, subst, inl, inr, ℕ, suc, ◌+◌, ◌^◌, ◌≤◌, nat_le, nat_lt, ℤ, pos, negsuc, int_div, Bool, true, false, cond, List, [], ◌∷◌, ◌++◌, map, Result, Ok, Err, Option, Some, None, arith}
use Rattle.std.specs.Prelude.{IfSome, nat_abs}
use Rattle.std.specs.Ordering.{int_eq}
use Rattle.std.proofs.Math.Pow.{pow_mono}
use Rattle.tree.specs.Operators.{as_number, quotient, number, fits, apply}
use Rattle.tree.specs.OperationFaults.{kind_of}
use Rattle.tree.specs.Plain.{Expression, Number, Binary, Declaration}
use Rattle.tree.specs.declared.ops.Kind.TheVariants.{Integer}
use Rattle.tree.specs.declared.ops.Op.TheVariants.{Div}
use Rattle.tree.specs.declared.ops.Value.{Value}
use Rattle.tree.specs.declared.ops.Value.TheVariants.{Int, Truth}
use Rattle.tree.specs.declared.ops.Fault.{Fault}
use Rattle.tree.specs.declared.ops.Fault.TheVariants.{Overflow, ZeroDivide}
use Rattle.meaning.specs.Holding.{HoldsProgram}
use Rattle.meaning.specs.Store.{Store, Cell}
use Rattle.meaning.specs.Typed.{declared}
use Rattle.meaning.specs.Value.{value_of, number_of, is_in_range, bound_to, trip_count}
use Rattle.meaning.proofs.Exchanges.{unread}
use Rattle.linear_forms.specs.Laws.{AreSized}
use Rattle.linear_forms.specs.Linear.{Form, number_at, form_of, HaveValues}
use Rattle.linear_forms.proofs.Faultless.{linear_has_value}
use Rattle.nest_order.specs.orders.Lists.{In, Each, Distinct}
use Rattle.nest_order.specs.orders.Nests.{IsInstance}
use Rattle.nest_order.specs.orders.Shapes.{Instance, Within, loops_of_shape, statements}
use Rattle.nest_order.proofs.orders.Common.{statement_stands}
use Rattle.nest_order.proofs.orders.Lists.{Each-In}
use Rattle.nest_order.specs.runs.Guarded.{sequential, variable_cell, at_iterations}
use Rattle.nest_order.specs.runs.Nests.{RunNest, AreAt, LoopStands, effect_of, variables_round}
use Rattle.nest_order.specs.runs.Stores.{Setting, HoldsNest}
use Rattle.nest_order.specs.runs.Touched.{nth_of}
use Rattle.nest_order.proofs.runs.Alone.{stands_loops, stands_once}
use Rattle.nest_order.proofs.runs.Ending.{turns_to, count_from_one}
use Rattle.nest_order.proofs.runs.Going.{trip_bounded}
use Rattle.nest_order.proofs.runs.Holding.{HoldsProgram-put, nth-In, some_map, effect_stored, named_cell}
use Rattle.nest_order.proofs.runs.Results.{both_ok, ok_same}
use Rattle.nest_order.proofs.runs.Loops.{outer_loop}
use Rattle.nest_order.proofs.runs.Variables.{Within-length, var, bounds_there, put_there}
use Rattle.meaning_laws.proofs.profiles.ValueKinds.{value_has_kind}
use Rattle.nest_order.specs.facts.Facts.{values_from, places_of, number_by, counted, HasTrip, HasFacts, FactsSuffice}

-- ---- lists of names with their values

pub have-append : (ys zs : List (List ℕ)) (s : Store) (xs us : List ℤ) → HaveValues ys s xs → HaveValues zs s us → HaveValues (ys ++ zs) s (xs ++ us)
have-append [] zs s [] us h g = g
have-append [] zs s (x ∷ xs) us h g = absurd h
have-append (y ∷ ys) zs s [] us h g = absurd h
have-append (y ∷ ys) zs s (x ∷ xs) us h g = (h.0, h.1, have-append ys zs s xs us h.2 g)

pub sized-append : (xs us : List ℤ) → AreSized xs → AreSized us → AreSized (xs ++ us)
sized-append [] us h g = g
sized-append (x ∷ xs) us h g = (h.0, sized-append xs us h.1 g)

pub small_sized : (is : List ℕ) → Each (λ i. i ≤ 2147483646) is → AreSized (map pos is)
small_sized [] h = tt
small_sized (i ∷ is) h = (let a : i ≤ 2147483646 = h.0 in small i a, small_sized is h.1)
  where
    small : (i : ℕ) → i ≤ 2147483646 → nat_abs (pos i) ≤ 2 ^ 63
    small i h = let e : i ≤ 9223372036854775808 = omega arith in e

module _ (v : ℕ → ℤ) (s : Store) where
  pub symbols-have : (xs : List (List ℕ)) (k : ℕ) → ((x : List ℕ) → In x xs → s.bounds x ≡ Some []) → ((j : ℕ) (x : List ℕ) → nth_of xs j ≡ Some x → s.held (variable_cell x) ≡ Int (v (k + j)))
      → HaveValues xs s (values_from v k xs)
  symbols-have [] k b h = tt
  symbols-have (x ∷ xs) k b h = (
    b x (inl refl),
    subst (λ j. s.held (variable_cell x) ≡ Int (v j)) (let e : k + 0 ≡ k = omega arith in e) (h 0 x refl),
    symbols-have xs (suc k) (λ y i. b y (inr i)) (λ j y e. subst (λ m. s.held (variable_cell y) ≡ Int (v m)) (let f : k + suc j ≡ suc k + j = omega arith in f) (h (suc j) y e)),
  )

  pub symbols-sized : (xs : List (List ℕ)) (k : ℕ) → ((j : ℕ) (x : List ℕ) → nth_of xs j ≡ Some x → nat_abs (v (k + j)) ≤ 2 ^ 63) → AreSized (values_from v k xs)
  symbols-sized [] k h = tt
  symbols-sized (x ∷ xs) k h = (
    subst (λ j. nat_abs (v j) ≤ 2 ^ 63) (let e : k + 0 ≡ k = omega arith in e) (h 0 x refl),
    symbols-sized xs (suc k) (λ j y e. subst (λ m. nat_abs (v m) ≤ 2 ^ 63) (let f : k + suc j ≡ suc k + j = omega arith in f) (h (suc j) y e)),
  )

-- ---- trips

quotient_is : (m : ℤ) (b : ℕ) (v : Value) → apply Div (Int m) (Int (pos b)) ≡ Ok v → v ≡ Int (int_div m (pos b))
quotient_is m b v e =
    let p = both_ok (quotient m (pos b)) number v e in
    by (int_eq (pos b) (pos 0)) p.0 p.1 p.2
  where
    last : (q : ℤ) → number q ≡ Ok v → v ≡ Int q
    last q h = on (fits 127 q) h
      where
        on : (c : Bool) → ◌≡◌ {A = Result Value Fault} (cond c (Ok (Int q)) (Err Overflow)) (Ok v) → v ≡ Int q
        on true h = sym (ok_same {F = Fault} (Int q) v h)
        on false h = cc

    by : (c : Bool) (q : ℤ) → ◌≡◌ {A = Result ℤ Fault} (cond c (Err ZeroDivide) (Ok (int_div m (pos b)))) (Ok q) → number q ≡ Ok v → v ≡ Int (int_div m (pos b))
    by true q f h = cc
    by false q f h = last q h ∙ ap Int (sym (ok_same {F = Fault} (int_div m (pos b)) q f))

int_of : (a z : ℤ) → as_number (Int a) ≡ Ok z → a ≡ z
int_of a z e = ok_same {F = Fault} a z e

counted_is : (z : ℤ) (k : ℕ) → k ≡ turns_to z → k ≤ 2147483646 → k ≡ counted z
counted_is (pos m) k e h = e ∙ sym (ap (λ c. cond c m 0) (small m (let f : k ≡ m = e in omega arith)))
  where
    small : (m : ℕ) → m ≤ 2147483646 → nat_le m 2147483646 ≡ true
    small m h = grind arith
counted_is (negsuc m) k e h = e

module _ (bits : ℕ) (n : RunNest) (w : Setting) (facts : HasFacts bits n w) where
  abbrev turns : ℕ → List ℕ → ℕ
  turns = n.turns_of w.values

  abbrev IsIt : Instance → Type 0
  IsIt = IsInstance n.loops_of turns n.shape

  -- ---- iterations of loops of the nest can be counted

  pub small_iterations : (ls is before : List ℕ) → ((m : ℕ) → In m ls → In m (loops_of_shape n.shape)) → Within turns before ls is → Each (λ i. i ≤ 2147483646) is
  small_iterations [] [] before known v = tt
  small_iterations [] (i ∷ is) before known v = absurd v
  small_iterations (l ∷ ls) [] before known v = absurd v
  small_iterations (l ∷ ls) (i ∷ is) before known v =
      let a : turns l before ≤ 2147483646 = facts.bounded l before (known l (inl refl)) in
      let b : i ≤ turns l before = v.1 in
      ((let c : i ≤ 2147483646 = omega arith in c), small_iterations ls is (before ++ i ∷ []) (λ m j. known m (inr j)) v.2)

  in_range : (k : ℕ) → k ≤ 2147483646 → is_in_range bits (Int (pos k)) ≡ true
  in_range k h =
      let a : 2 ^ 31 ≤ 2 ^ bits = pow_mono facts.wide in
      let b : 2147483648 ≤ 2 ^ bits = a in
      let e : nat_lt k (2 ^ bits) ≡ true = grind arith in e

  -- ---- the store in which loops are at iterations

  abbrev there : List ℕ → List ℕ → Store → Store
  there ls is t = at_iterations (map n.variable_at ls) is t

  program_there : (ls is : List ℕ) (t : Store) → ((m : ℕ) → In m ls → In m (loops_of_shape n.shape)) → Each (λ i. i ≤ 2147483646) is → HoldsProgram (sequential bits) w.program t → HoldsProgram (sequential bits) w.program (there ls is t)
  program_there [] [] t known small h = h
  program_there [] (i ∷ is) t known small h = h
  program_there (l ∷ ls) [] t known small h = h
  program_there (l ∷ ls) (i ∷ is) t known small h = program_there ls is (bound_to (n.variable_at l) (pos i) t) (λ m j. known m (inr j)) small.1
      (HoldsProgram-put (sequential bits) w.program (variable_cell (n.variable_at l)) (Int (pos i)) t h
      (some_map (declared w.program.declarations (n.variable_at l)) (λ (d : Declaration). d.kind ≡ Integer) (λ (d : Declaration). kind_of (Int (pos i)) ≡ d.kind) (λ d e. sym e) (facts.integer l (known l (inl refl))))
      (in_range i small.0))

  untouched : (ls is : List ℕ) (t : Store) (c : Cell) → ((m : ℕ) → In m ls → ¬ (var n m ≡ c)) → (there ls is t).held c ≡ t.held c
  untouched [] [] t c free = refl
  untouched [] (i ∷ is) t c free = refl
  untouched (l ∷ ls) [] t c free = refl
  untouched (l ∷ ls) (i ∷ is) t c free = untouched ls is (bound_to (n.variable_at l) (pos i) t) c (λ m j. free m (inr j)) ∙ sym (unread (var n l) c (Int (pos i)) t (free l (inl refl)))

  at_there : (ls is before : List ℕ) (t : Store) → Distinct ls → ((m : ℕ) → In m ls → In m (loops_of_shape n.shape)) → Within turns before ls is → AreAt n ls is (there ls is t)
  at_there [] [] before t d known v = tt
  at_there [] (i ∷ is) before t d known v = absurd v
  at_there (l ∷ ls) [] before t d known v = absurd v
  at_there (l ∷ ls) (i ∷ is) before t d known v = (
    untouched ls is (bound_to (n.variable_at l) (pos i) t) (var n l) (λ m j e. Each-In (λ z. ¬ (l ≡ z)) ls d.0 m j (facts.text.variables l m (known l (inl refl)) (known m (inr j)) (sym (ap (λ (c : Cell). c.name) e))))
        ∙ put_there (var n l) (Int (pos i)) t,
    at_there ls is (before ++ i ∷ []) (bound_to (n.variable_at l) (pos i) t) d.1 (λ m j. known m (inr j)) v.2,
  )

  -- ---- values of the places of a form

  pub loops_have : (ls is : List ℕ) (s : Store) → ((m : ℕ) → In m ls → s.bounds (n.variable_at m) ≡ Some []) → AreAt n ls is s → HaveValues (map n.variable_at ls) s (map pos is)
  loops_have [] [] s b h = tt
  loops_have [] (i ∷ is) s b h = absurd h
  loops_have (l ∷ ls) [] s b h = absurd h
  loops_have (l ∷ ls) (i ∷ is) s b h = (b l (inl refl), h.0, loops_have ls is s (λ m j. b m (inr j)) h.1)

  places_have : (ls is : List ℕ) (s : Store) → ((m : ℕ) → In m ls → In m (loops_of_shape n.shape)) → ((x : List ℕ) → s.bounds x ≡ w.bounds x) → ((k : ℕ) (x : List ℕ) → nth_of n.symbols k ≡ Some x → s.held (variable_cell x) ≡ Int (w.values k)) → AreAt n ls is s
      → HaveValues (map n.variable_at ls ++ n.symbols) s (places_of w.values n.symbols is)
  places_have ls is s known b h at = have-append (map n.variable_at ls) n.symbols s (map pos is) (values_from w.values 0 n.symbols)
      (loops_have ls is s (λ m j. b (n.variable_at m) ∙ facts.variables m (known m j)) at)
      (symbols-have w.values s n.symbols 0 (λ x i. b x ∙ facts.symbols x i) (λ j x e. h j x e ∙ ap (λ m. Int (w.values m)) (let f : j ≡ 0 + j = omega arith in f)))

  places_sized : (is : List ℕ) (s : Store) → Each (λ i. i ≤ 2147483646) is → AreSized (places_of w.values n.symbols is)
  places_sized is s small = sized-append (map pos is) (values_from w.values 0 n.symbols) (small_sized is small)
      (symbols-sized w.values s n.symbols 0 (λ j x e. subst (λ m. nat_abs (w.values m) ≤ 2 ^ 63) (let f : j ≡ 0 + j = omega arith in f) (facts.values j x e)))

  -- ---- of an instance

  loops_known : (s : ℕ) → In s (statements n.shape) → Distinct (n.loops_of s) × ((m : ℕ) → In m (n.loops_of s) → In m (loops_of_shape n.shape))
  loops_known s i =
      let k = statement_stands n.shape s i in
      let e : k.0 ≡ n.loops_of s = sym (facts.text.nest.fits s k.0 k.1) in (
        subst Distinct e (stands_once n.shape s k.0 k.1 facts.text.nest.single),
        λ m j. stands_loops n.shape s k.0 k.1 m (subst (In m) (sym e) j),
      )

  symbol_free : (ls is : List ℕ) (t : Store) → ((m : ℕ) → In m ls → In m (loops_of_shape n.shape)) → HoldsNest bits n w t → (k : ℕ) (x : List ℕ) → nth_of n.symbols k ≡ Some x → (there ls is t).held (variable_cell x) ≡ Int (w.values k)
  symbol_free ls is t known h k x e = untouched ls is t (variable_cell x) (λ m j f. facts.text.others m x (known m j) (nth-In n.symbols k x e) (ap (λ (c : Cell). c.name) f)) ∙ h.symbols k x e

  typed : (x : Instance) (t : Store) (c : Cell) (v : Value) → IsIt x → HoldsNest bits n w t → effect_of n (sequential bits) x t ≡ Ok (Some (c, v)) → IfSome (declared w.program.declarations c.name) (λ (d : Declaration). kind_of v ≡ d.kind)
  typed x t c v is h e =
      let known = (loops_known x.statement is.0).1 in
      let small = small_iterations (n.loops_of x.statement) x.iterations [] known is.1 in
      let here = there (n.loops_of x.statement) x.iterations t in
      let st = effect_stored bits (n.statement_at x.statement) here c v e in
      let name = named_cell bits (n.statement_at x.statement).left here c st.place in
      let k = facts.kinds x.statement is.0 in
      let kind = value_has_kind (sequential bits) w.program (n.statement_at x.statement).right k.0 here v (program_there (n.loops_of x.statement) x.iterations t known small h.program) k.1 st.gives in
      subst (λ y. IfSome (declared w.program.declarations y) (λ (d : Declaration). kind_of v ≡ d.kind)) (sym name)
      (some_map (declared w.program.declarations (n.statement_at x.statement).left.name) (λ (d : Declaration). d.kind ≡ k.0) (λ (d : Declaration). kind_of v ≡ d.kind) (λ d f. kind ∙ sym f) k.2)

  linear : (x : Instance) (t : Store) (e : Expression) (f : (ℕ → ℤ) → List ℕ → ℤ) (z : ℤ) → IsIt x → HoldsNest bits n w t → n.linear x.statement e ≡ Some f
      → value_of (sequential bits) e (at_iterations (variables_round n x.statement) x.iterations t) ≡ Ok (Int z) → z ≡ f w.values x.iterations
  linear x t e f z is h g val =
      let facts_of = loops_known x.statement is.0 in
      let small = small_iterations (n.loops_of x.statement) x.iterations [] facts_of.1 is.1 in
      let here = there (n.loops_of x.statement) x.iterations t in
      let have = places_have (n.loops_of x.statement) x.iterations here facts_of.1 (λ y. bounds_there n (variables_round n x.statement) x.iterations t y ∙ h.bounds y)
      (symbol_free (n.loops_of x.statement) x.iterations t facts_of.1 h) (at_there (n.loops_of x.statement) x.iterations [] t facts_of.0 facts_of.1 is.1) in
      by here have (places_sized x.iterations here small) val (form_of (variables_round n x.statement) n.symbols e) refl (sym (facts.linear x.statement e is.0) ∙ g)
    where
      by : (here : Store) → HaveValues (variables_round n x.statement ++ n.symbols) here (places_of w.values n.symbols x.iterations) → AreSized (places_of w.values n.symbols x.iterations) → value_of (sequential bits) e here ≡ Ok (Int z)
          → (o : Option Form) → form_of (variables_round n x.statement) n.symbols e ≡ o → number_by n.symbols o ≡ Some f → z ≡ f w.values x.iterations
      by here have sized val None g k = absurd (none k)
        where
          none : ◌≡◌ {A = Option ((ℕ → ℤ) → List ℕ → ℤ)} None (Some f) → ⊥
          none k = cc
      by here have sized val (Some q) g k =
          let known = linear_has_value (sequential bits) (variables_round n x.statement) n.symbols e q here (places_of w.values n.symbols x.iterations) g have sized in
          let same : Int z ≡ Int (number_at q (places_of w.values n.symbols x.iterations)) = ok_same {F = Fault} (Int z) (Int (number_at q (places_of w.values n.symbols x.iterations))) (sym val ∙ known) in
          number_same same ∙ ap (λ o. apply_to o) k
        where
          int_value : Value → ℤ
          int_value (Int m) = m
          int_value (Truth b) = pos 0

          number_same : {a b : ℤ} → Int a ≡ Int b → a ≡ b
          number_same e = ap int_value e

          apply_to : Option ((ℕ → ℤ) → List ℕ → ℤ) → ℤ
          apply_to None = pos 0
          apply_to (Some h) = h w.values x.iterations

  trips : (round : List ℕ) (l : ℕ) (before : List ℕ) (t : Store) (z : ℤ) (k : ℕ) → LoopStands n.shape round l → Within turns [] round before → HoldsNest bits n w t → AreAt n round before t
      → number_of (sequential bits) (n.trip_at l) t ≡ Ok z → trip_count (pos 1) z (pos 1) ≡ Ok k → k ≡ turns l before
  trips round l before t z k lies v h at e count =
      let known : (m : ℕ) → In m round → In m (loops_of_shape n.shape) = λ m i. (outer_loop n.shape round l m facts.text.nest.single lies i).0 in
      let small = small_iterations round before [] known v in
      let have = places_have round before t known h.bounds h.symbols at in
      let sized = places_sized before t small in
      let d = facts.trips round l lies in
      let number : z ≡ d.0 (places_of w.values n.symbols before) = by have sized d.0 d.1 in
      counted_is z k (count_from_one z k count) (trip_bounded z k count) ∙ (ap counted number ∙ sym (d.2 before (sym (Within-length turns [] round before v))))
    where
      -- the value of an expression with a linear form
      of_form : HaveValues (map n.variable_at round ++ n.symbols) t (places_of w.values n.symbols before) → AreSized (places_of w.values n.symbols before) → (a : Expression) (f : Form) (x : Value) → form_of (map n.variable_at round) n.symbols a ≡ Some f → value_of (sequential bits) a t ≡ Ok x
          → x ≡ Int (number_at f (places_of w.values n.symbols before))
      of_form have sized a f x g val = ok_same {F = Fault} x (Int (number_at f (places_of w.values n.symbols before))) (sym val ∙ linear_has_value (sequential bits) (map n.variable_at round) n.symbols a f t (places_of w.values n.symbols before) g have sized)

      by : HaveValues (map n.variable_at round ++ n.symbols) t (places_of w.values n.symbols before) → AreSized (places_of w.values n.symbols before) → (y : List ℤ → ℤ) → HasTrip (map n.variable_at round) n.symbols (n.trip_at l) y → z ≡ y (places_of w.values n.symbols before)
      by have sized y (inl (f, g, is)) =
          let p = both_ok (value_of (sequential bits) (n.trip_at l) t) as_number z e in
          let q = of_form have sized (n.trip_at l) f p.0 g p.1 in
          sym (int_of (number_at f (places_of w.values n.symbols before)) z (subst (λ x. as_number x ≡ Ok z) q p.2)) ∙ sym (is (places_of w.values n.symbols before))
      by have sized y (inr (f, a, b, same, g, is)) =
          let p = both_ok (value_of (sequential bits) (n.trip_at l) t) as_number z e in
          let val : value_of (sequential bits) (Binary Div a (Number (pos b))) t ≡ Ok p.0 = subst (λ k. value_of (sequential bits) k t ≡ Ok p.0) same p.1 in
          let q = both_ok (value_of (sequential bits) a t) (λ x. apply Div x (Int (pos b))) p.0 val in
          let r = of_form have sized a f q.0 g q.1 in
          let s = quotient_is (number_at f (places_of w.values n.symbols before)) b p.0 (subst (λ x. apply Div x (Int (pos b)) ≡ Ok p.0) r q.2) in
          sym (int_of (int_div (number_at f (places_of w.values n.symbols before)) (pos b)) z (subst (λ x. as_number x ≡ Ok z) s p.2)) ∙ sym (is (places_of w.values n.symbols before))

pub facts_suffice : FactsSuffice
facts_suffice bits n w facts = record {
  text = facts.text;
  variables = facts.variables;
  integer = facts.integer;
  symbols = facts.symbols;
  typed = typed bits n w facts;
  trips = trips bits n w facts;
  linear = linear bits n w facts;
}
