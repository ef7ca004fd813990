-- A statement of a nest in the tables of runs, and the names round its array form.
use Rattle.std.proofs.Common.{◌≡◌, refl, sym, ap, ap₂, ◌∙◌, subst, ◌⊎◌, inl, inr, ℕ, zero, suc, ◌+◌, ◌<◌, ◌≤◌, ◌==◌}
use Rattle.std.proofs.Common.{Bool, true, false, cond, List, [], ◌∷◌, ◌++◌, map, length, get_or, Option, Some, None, arith}
use Rattle.std.specs.List.{range_with_len}
use Rattle.std.specs.Str.{bytes_eq}
use Rattle.std.proofs.lemmas.Bool.{cases_lt}
use Rattle.std.proofs.lemmas.Slice.Eq.{bytes_eq-Decides}
use Rattle.array_form.specs.forms.Loops as forms
use Rattle.array_form.specs.forms.Trips as trips
use Rattle.components.specs.Lists as lists
use Rattle.emission.specs.emission_pieces.Nests.{loops_at, standing_at}
use Rattle.emission.specs.emission_pieces.Shapes.{numbers_at}
use Rattle.emission.proofs.EmissionPieces.Ordered.{statements_are}
use Rattle.emission.specs.graph_orders.Nests.{run_nest}
use Rattle.dependence_graph.specs.nest_graph.Ready.{IsReady}
use Rattle.dependence_graph.specs.nest_graph.References.{variables_round as names_round}
use Rattle.nest_order.specs.orders.Lists.{In, Each, Distinct}
use Rattle.nest_order.specs.orders.Shapes.{statements, loops_of_shape}
use Rattle.nest_order.proofs.orders.Common.{statement_stands}
use Rattle.nest_order.proofs.orders.Lists.{Each-In, In-append, In-left, In-right}
use Rattle.nest_order.proofs.orders.Membership.{In-map, map-In}
use Rattle.nest_order.specs.runs.Guarded as runs
use Rattle.nest_order.specs.runs.Nests.{variables_round}
use Rattle.nest_order.specs.runs.Stores.{IsNestText}
use Rattle.nest_order.specs.runs.Touched.{nth_of}
use Rattle.nest_order.proofs.runs.Alone.{stands_loops, stands_once}
use Rattle.nest_order.specs.shapes.Shapes.{IsPlain, ArePlain, guarded_of, loop_numbered, loops_round, numbers_of}
use Rattle.nest_order.specs.shapes.Shapes.{variable_of_loop}
use Rattle.nest.specs.Bodies.{Standing, loops_of, loops_in_parts, nest_loops, nest_statements, statements_in}
use Rattle.nest.specs.Bodies.{statements_in_parts}
use Rattle.nest.specs.Plain.{Loop, Nest, Part, Run, Turns, Choice, Label, Jump, Parts, no_parts, part}
use Rattle.array_form.specs.holds.Statements.{no_statement}
use Rattle.array_form.specs.lone.Cells.{StatementsStand}
use Rattle.array_form.specs.holds.Surroundings.{counted_loop, counted_of}
use Rattle.emission.specs.emission_forms.Forms.{surroundings_at}

-- ---- lists

pub nth_is : {X : Type 0} (xs : List X) (k : ℕ) (d : X) → k < length xs → nth_of xs k ≡ Some (get_or xs k d)
nth_is [] k d h = absurd (omega arith)
nth_is (x ∷ xs) zero d h = refl
nth_is (x ∷ xs) (suc k) d h = nth_is xs k d (omega arith)

element : {X : Type 0} (xs : List X) (k : ℕ) (d : X) → k < length xs → In (get_or xs k d) xs
element [] k d g = absurd (omega arith)
element (x ∷ xs) zero d g = inl refl
element (x ∷ xs) (suc k) d g = inr (element xs k d (omega arith))

in_range : (a m k : ℕ) → a ≤ k → k < a + m → In k (range_with_len a m)
in_range a zero k h g = absurd (omega arith)
in_range a (suc m) k h g = by (cases_lt a k) (in_range (a + 1) m k)
  where
    by : (a < k) ⊎ (k ≤ a) → (a + 1 ≤ k → k < a + 1 + m → In k (range_with_len (a + 1) m)) → (k ≡ a) ⊎ In k (range_with_len (a + 1) m)
    by (inl l) more = inr (more (omega arith) (omega arith))
    by (inr l) more = inl (omega arith)

each_is : {X : Type 0} (P : X → Type 0) (xs : List X) → lists.Each P xs → Each P xs
each_is P [] h = tt
each_is P (x ∷ xs) h = (h.0, each_is P xs h.1)

pub distinct_is : {X : Type 0} (xs : List X) → lists.Distinct xs → Distinct xs
distinct_is [] h = tt
distinct_is (x ∷ xs) h = (each_is (λ y. ¬ (x ≡ y)) xs h.0, distinct_is xs h.1)

-- ---- loops round a statement

mutual
  loops_inside : (p : Part) (ls : List Loop) → IsPlain p → (x : Standing) → In x (statements_in ls p) → (l : Loop) → In l x.loops → In l ls ⊎ In l (loops_of p)
  loops_inside (Run g) ls plain x (inl e) l j = inl (subst (λ (y : Standing). In l y.loops) e j)
  loops_inside (Run g) ls plain x (inr i) l j = absurd i
  loops_inside (Turns m ps) ls plain x i l j =
      elim (loops_inside_parts ps (ls ++ m ∷ []) plain.1 x i l j) [
        | inl a ↦ elim (In-append l ls (m ∷ []) a) [ inl b ↦ inl b | inr b ↦ elim b [ inl e ↦ inr (inl e) | inr c ↦ absurd c ] ]
        | inr b ↦ inr (inr b)
      ]
  loops_inside (Choice bs ps) ls plain x i l j = absurd plain
  loops_inside (Label m) ls plain x i l j = absurd plain
  loops_inside (Jump m) ls plain x i l j = absurd plain

  loops_inside_parts : (ps : Parts) (ls : List Loop) → ArePlain ps → (x : Standing) → In x (statements_in_parts ls ps) → (l : Loop) → In l x.loops → In l ls ⊎ In l (loops_in_parts ps)
  loops_inside_parts no_parts ls plain x i l j = absurd i
  loops_inside_parts (part p ps) ls plain x i l j =
      elim (In-append x (statements_in ls p) (statements_in_parts ls ps) i) [
        | inl a ↦ elim (loops_inside p ls plain.0 x a l j) [ inl b ↦ inl b | inr b ↦ inr (In-left l (loops_of p) (loops_in_parts ps) b) ]
        | inr a ↦ elim (loops_inside_parts ps ls plain.1 x a l j) [ inl b ↦ inl b | inr b ↦ inr (In-right l (loops_of p) (loops_in_parts ps) b) ]
      ]

same_number : (m : ℕ) → (m == m) ≡ true
same_number m = grind arith

other_number : (m k : ℕ) → ¬ (m ≡ k) → (m == k) ≡ false
other_number m k h = grind arith

numbered : (ls : List Loop) (l : Loop) → Distinct (numbers_of ls) → In l ls → loop_numbered ls l.number ≡ Some l
numbered [] l d i = absurd i
numbered (m ∷ ls) l d (inl e) = subst (λ (z : Loop). cond (m.number == z.number) (Some m) (loop_numbered ls z.number) ≡ Some z) (sym e) (ap (λ b. cond b (Some m) (loop_numbered ls m.number)) (same_number m.number))
numbered (m ∷ ls) l d (inr i) =
    let apart = Each-In (λ y. ¬ (m.number ≡ y)) (numbers_of ls) d.0 l.number (map-In (λ (z : Loop). z.number) l ls i) in
    ap (λ b. cond b (Some m) (loop_numbered ls l.number)) (other_number m.number l.number apart) ∙ numbered ls l d.1 i

-- ---- names

not_among : (xs : List (List ℕ)) (x : List ℕ) → ¬ (In x xs) → forms.is_among xs x ≡ false
not_among [] x h = refl
not_among (y ∷ xs) x h = by (bytes_eq y x) refl (not_among xs x (λ i. h (inr i)))
  where
    by : (b : Bool) → bytes_eq y x ≡ b → forms.is_among xs x ≡ false → cond b true (forms.is_among xs x) ≡ false
    by true e more = absurd (h (inl (sym ((bytes_eq-Decides y x).0 e))))
    by false e more = more

apart_names : (f : ℕ → List ℕ) (ls : List ℕ) (ys : List (List ℕ)) → Distinct ls → ((l m : ℕ) → In l ls → In m ls → f l ≡ f m → l ≡ m) → trips.AreDistinct ys
    → ((l : ℕ) (x : List ℕ) → In l ls → In x ys → ¬ (f l ≡ x)) → trips.AreDistinct (map f ls ++ ys)
apart_names f [] ys d same once other = once
apart_names f (l ∷ ls) ys d same once other = (
  not_among (map f ls ++ ys) (f l) (λ i. elim (In-append (f l) (map f ls) ys i) [
    | inl a ↦ (let o = In-map f (f l) ls a in Each-In (λ z. ¬ (l ≡ z)) ls d.0 o.it o.inside (same l o.it (inl refl) (inr o.inside) o.is))
    | inr b ↦ other l (f l) (inl refl) b refl
  ]),
  apart_names f ls ys d.1 (λ k m i j. same k m (inr i) (inr j)) once (λ k x i. other k x (inr i)),
)

pub variables_counted : (k : ℕ) (ls : List Loop) → forms.form_variables_of (map (λ (l : Loop). counted_of k (counted_loop l)) ls) ≡ map (λ (l : Loop). l.variable) ls
variables_counted k [] = refl
variables_counted k (l ∷ ls) = ap (λ xs. l.variable ∷ xs) (variables_counted k ls)

pub variables_numbered : (n : Nest) (ls : List Loop) → ((l : Loop) → In l ls → loop_numbered (nest_loops n) l.number ≡ Some l) → map (run_nest n).variable_at (numbers_of ls) ≡ map (λ (l : Loop). l.variable) ls
variables_numbered n [] h = refl
variables_numbered n (l ∷ ls) h = ap₂ (λ x xs. x ∷ xs) (ap variable_of_loop (h l (inl refl))) (variables_numbered n ls (λ m i. h m (inr i)))

-- ---- a statement

module _ (n : Nest) (plain : IsPlain n.body) (ready : IsReady n) (s : ℕ) (within : s < length (nest_statements n)) where
  there : nth_of (nest_statements n) s ≡ Some (standing_at n s)
  there = nth_is (nest_statements n) s no_statement within

  pub guarded_there : ◌≡◌ {A = runs.GuardedAssignment} ((run_nest n).statement_at s) (record { guard = (standing_at n s).statement.guard; left = (standing_at n s).statement.left; right = (standing_at n s).statement.right })
  guarded_there = ap guarded_of there

  pub loops_there : (run_nest n).loops_of s ≡ numbers_at n s
  loops_there = ap loops_round there

  pub in_nest : In s (statements (run_nest n).shape)
  in_nest = subst (λ xs. In s xs) (statements_are n plain) (in_range 0 (length (nest_statements n)) s (omega arith) (omega arith))

  -- its loops are the nest's
  pub known_loop : (l : Loop) → In l (loops_at n s) → loop_numbered (nest_loops n) l.number ≡ Some l
  known_loop l i =
      let j = loops_inside n.body [] plain (standing_at n s) (element (nest_statements n) s no_statement within) l i in
      numbered (nest_loops n) l (distinct_is (numbers_of (nest_loops n)) ready.loops) (elim j [ inl k ↦ absurd k | inr k ↦ k ])

  pub variables_there : map (run_nest n).variable_at (numbers_at n s) ≡ map (λ (l : Loop). l.variable) (loops_at n s)
  variables_there = variables_numbered n (loops_at n s) known_loop

  module _ (text : IsNestText (run_nest n)) where
    pub loops_known : Distinct (numbers_at n s) × ((m : ℕ) → In m (numbers_at n s) → In m (loops_of_shape (run_nest n).shape))
    loops_known =
        let k = statement_stands (run_nest n).shape s in_nest in
        let e : k.0 ≡ numbers_at n s = sym (text.nest.fits s k.0 k.1) ∙ loops_there in (
          subst Distinct e (stands_once (run_nest n).shape s k.0 k.1 text.nest.single),
          λ m j. stands_loops (run_nest n).shape s k.0 k.1 m (subst (In m) (sym e) j),
        )

    pub names_distinct : trips.AreDistinct n.symbols → trips.AreDistinct (forms.form_names_of (surroundings_at n s))
    names_distinct once =
        let variables : map (run_nest n).variable_at (numbers_at n s) ≡ forms.form_variables_of (surroundings_at n s).loops
        = variables_there ∙ sym (variables_counted (length (loops_at n s)) (loops_at n s)) in
        subst (λ xs. trips.AreDistinct (xs ++ n.symbols)) variables
        (apart_names (run_nest n).variable_at (numbers_at n s) n.symbols loops_known.0 (λ l m i j. text.variables l m (loops_known.1 l i) (loops_known.1 m j)) once
        (λ l x i j. text.others l x (loops_known.1 l i) j))

-- ---- the statements of the nest in the shape of its runs

nth_inside : {X : Type 0} (xs : List X) (k : ℕ) (x : X) → nth_of xs k ≡ Some x → k < length xs
nth_inside [] k x h = cc
nth_inside (y ∷ xs) zero x h = omega arith
nth_inside (y ∷ xs) (suc k) x h = (let more = nth_inside xs k x h in omega arith)

same_there : {X : Type 0} (a : Option X) (x y : X) → a ≡ Some x → a ≡ Some y → x ≡ y
same_there a x y h g = cc

pub statements_stand : (n : Nest) → IsPlain n.body → IsReady n → StatementsStand n (run_nest n)
statements_stand n plain ready s x at =
    let within = nth_inside (nest_statements n) s x at in
    let same : standing_at n s ≡ x = same_there (nth_of (nest_statements n) s) (standing_at n s) x (nth_is (nest_statements n) s no_statement within) at in
    let round : variables_round (run_nest n) s ≡ names_round (standing_at n s)
    = ap (map (run_nest n).variable_at) (loops_there n plain ready s within) ∙ variables_there n plain ready s within in (
      in_nest n plain ready s within,
      round ∙ ap names_round same,
    )
