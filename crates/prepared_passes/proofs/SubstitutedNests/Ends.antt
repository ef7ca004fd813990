-- The last values of inductions: behind them the second store is the first one.
use Rattle.std.proofs.Common.{◌≡◌, refl, sym, ap, ◌∙◌, subst, ℕ, zero, suc, ◌+◌, ◌≤◌, ◌^◌, ℤ, pos, negsuc, ◌+ℤ◌, ◌*ℤ◌, Bool, true, false, cond, ◌&&◌, List, [], ◌∷◌, ◌++◌, length, map, Ok, Some, None, arith}
use Rattle.std.specs.Prelude.{int_le, int_lt, nat_abs}
use Rattle.std.specs.Str.{bytes_eq}
use Rattle.std.proofs.lemmas.Bool.{le-leb}
use Rattle.std.proofs.lemmas.Int.{ints}
use Rattle.std.proofs.lemmas.Slice.Eq.{bytes_eq-Decides}
use Rattle.std.proofs.Math.IntN.{*ℤ-zero}
use Rattle.tree.specs.Operators.{apply, as_truth}
use Rattle.tree.specs.Plain.{Block, Expression, If, arm, block, no_arms, no_statements}
use Rattle.tree.specs.Steps as results
use Rattle.tree.specs.declared.ops.Op.TheVariants.{Ge}
use Rattle.tree.specs.declared.ops.Value.{Value}
use Rattle.tree.specs.declared.ops.Value.TheVariants.{Int}
use Rattle.meaning.specs.Run.{Act, Going, State, counts_step, does, does_all, either, evaluates, nothing, while_going}
use Rattle.meaning.specs.Store.{Cell, Store, cell_in, put}
use Rattle.meaning.specs.Value.{is_in_range, truth_of, value_of}
use Rattle.rewrite.specs.Following.{sequential}
use Rattle.rewrite.proofs.Replacing.{bytes_eq-false}
use Rattle.linear_forms.specs.Laws.{AreSized}
use Rattle.linear_forms.specs.Linear.{HaveValues}
use Rattle.linear_forms.proofs.Sizes.{both}
use Rattle.nest.specs.declared.parts.Trip.{Trip}
use Rattle.nest_order.proofs.runs.Ending.{turns_to}
use Rattle.nest_order.specs.orders.Lists.{Each}
use Rattle.nest_steps.specs.Leading.{Led}
use Rattle.nest_steps.specs.Statements.{cell_of}
use Rattle.nest_steps.proofs.Acts.{Goes}
use Rattle.nest_steps.proofs.Assigning.{second_assignment}
use Rattle.last_values.specs.Endings.{assigned, only_where}
use Rattle.last_values.specs.Scalars.{scalar}
use Rattle.last_values.specs.normal_forms.NormalLoops.{is_constant, is_known, is_positive, is_undivided}
use Rattle.last_values.specs.normal_forms.Numbers.{trip_number}
use Rattle.last_values.specs.normal_forms.Texts.{at_least_one, trip_text}
use Rattle.pass_laws.proofs.LastRuns.Forms.{At}
use Rattle.pass_laws.proofs.LastRuns.LastNumbers.{known_number}
use Rattle.pass_laws.proofs.LastRuns.Pieces.{none_yet}
use Rattle.pass_laws.specs.prepared_nests.Loops.{IsPreparedTrip}
use Rattle.inductions.specs.Ends.{induction_end_text, induction_ending}
use Rattle.inductions.specs.Found.{end_form}
use Rattle.inductions.specs.Stores.{element}
use Rattle.inductions.specs.declared.found.Induction.{Induction}
use Rattle.inductions.proofs.Texts.{sized}
use Rattle.prepared_passes.proofs.SubstitutedNests.EndNumbers.{end_value, trip_value}
use Rattle.prepared_passes.proofs.SubstitutedNests.Once.{AreOnce}

-- ---- one run alone

pub Goes-then : (before middle after : Store → Store → Type 0) (g h : Act) → Goes before middle g → Goes middle after h → Goes before after (λ s. h (g s))
Goes-then before middle after g h f k = record { at = λ s u n w a. by s (g (record s { store = u; steps = n })) w (f.at s u n w a) }
  where
    by : (s t : State) → s.way ≡ Going → Led middle s t → Led after s (h t)
    by s t w m = subst (λ (r : State). Led after s (h r)) (sym m.rest) (k.at s t.store t.steps w m.stores)

Goes-nothing : (before after : Store → Store → Type 0) → ((s u : Store) → before s u → after s u) → Goes before after nothing
Goes-nothing before after less = record { at = λ s u n w a. record { stores = less s.store u a; rest = refl; going = w } }

-- ---- turns

at_least : (z : ℤ) (m : ℕ) → int_le (pos 1) z ≡ true → m ≡ turns_to z → z ≡ pos m
at_least (pos k) m h e = ap pos (sym e)
at_least (negsuc k) m h e = let no : ⊥ = cc in absurd no

below_one : (z : ℤ) (m : ℕ) → int_le (pos 1) z ≡ false → m ≡ turns_to z → m ≡ 0
below_one (pos zero) m h e = e
below_one (pos (suc k)) m h e = let yes : int_le (pos 1) (pos (suc k)) ≡ true = le-leb 1 (suc k) (omega arith) in let no : ⊥ = cc in absurd no
below_one (negsuc k) m h e = e

above : (z : ℤ) → int_lt (pos 0) z ≡ true → int_le (pos 1) z ≡ true
above (pos zero) h = let no : ⊥ = cc in absurd no
above (pos (suc k)) h = le-leb 1 (suc k) (omega arith)
above (negsuc k) h = let no : ⊥ = cc in absurd no

module _ (bits : ℕ) (high : bits ≤ 63) (start : List ℕ → ℤ) (symbols : List (List ℕ)) (vs : List ℤ) (turns : ℕ) (few : turns ≤ 2147483646) where
  -- what an induction has grown to
  abbrev grown : Induction → ℤ
  grown d = start d.name +ℤ d.step *ℤ pos turns

  -- some are still as they were before the nest
  pub record AreToCome (todo : List Induction) (s u : Store) : Type 0 where
    pub bounds : (y : List ℕ) → s.bounds y ≡ u.bounds y
    pub elements : (y : List ℕ) (j : ℤ) (js : List ℤ) → s.held (element y j js) ≡ u.held (element y j js)
    pub held : (x : List ℕ) → Each (λ (d : Induction). ¬ (d.name ≡ x)) todo → s.held (cell_of x) ≡ u.held (cell_of x)
    pub scalar : Each (λ (d : Induction). u.bounds d.name ≡ Some []) todo
    pub first : Each (λ (d : Induction). s.held (cell_of d.name) ≡ Int (start d.name +ℤ d.step *ℤ pos turns)) todo
    pub second : Each (λ (d : Induction). u.held (cell_of d.name) ≡ Int (start d.name)) todo
    pub start_in : Each (λ (d : Induction). is_in_range bits (Int (start d.name)) ≡ true) todo
    pub range : Each (λ (d : Induction). is_in_range bits (Int (start d.name +ℤ d.step *ℤ pos turns)) ≡ true) todo
    pub have : HaveValues symbols u vs
    -- no symbol is one of them
    pub apart : Each (λ (d : Induction). Each (λ y. ¬ (d.name ≡ y)) symbols) todo

  none_same : (d : Induction) (es : List Induction) (u : Store) (w : Value) (P : Induction → Store → Type 0)
      → ((e : Induction) → ¬ (d.name ≡ e.name) → P e u → P e (put (cell_of d.name) w u))
      → Each (λ (e : Induction). ¬ (d.name ≡ e.name)) es → Each (λ (e : Induction). P e u) es → Each (λ (e : Induction). P e (put (cell_of d.name) w u)) es
  none_same d [] u w P f h k = tt
  none_same d (e ∷ es) u w P f h k = (f e h.0 k.0, none_same d es u w P f h.1 k.1)

  other_put : (x y : List ℕ) (w : Value) (u : Store) → ¬ (x ≡ y) → (put (cell_of x) w u).held (cell_of y) ≡ u.held (cell_of y)
  other_put x y w u h = ap (λ b. cond (b && true) w (u.held (cell_of y))) (bytes_eq-false x y h)

  own_put : (x : List ℕ) (w : Value) (u : Store) → (put (cell_of x) w u).held (cell_of x) ≡ w
  own_put x w u = ap (λ b. cond (b && true) w (u.held (cell_of x))) ((bytes_eq-Decides x x).1 refl)

  element_put : (x y : List ℕ) (j : ℤ) (js : List ℤ) (w : Value) (u : Store) → (put (cell_of x) w u).held (element y j js) ≡ u.held (element y j js)
  element_put x y j js w u = ap (λ b. cond b w (u.held (element y j js))) (never (bytes_eq x y))
    where
      never : (b : Bool) → (b && false) ≡ false
      never true = refl
      never false = refl

  have_put : (x : List ℕ) (w : Value) (u : Store) (ys : List (List ℕ)) (zs : List ℤ) → Each (λ y. ¬ (x ≡ y)) ys → HaveValues ys u zs → HaveValues ys (put (cell_of x) w u) zs
  have_put x w u [] [] h a = tt
  have_put x w u [] (z ∷ zs) h a = absurd a
  have_put x w u (y ∷ ys) [] h a = absurd a
  have_put x w u (y ∷ ys) (z ∷ zs) h a = (a.0, other_put x y w u h.0 ∙ a.1, have_put x w u ys zs h.1 a.2)

  -- the first of them gets its last value
  settled : (d : Induction) (es : List Induction) → Each (λ (e : Induction). ¬ (d.name ≡ e.name)) es → (s u : Store) → AreToCome (d ∷ es) s u
      → AreToCome es s (put (cell_of d.name) (Int (start d.name +ℤ d.step *ℤ pos turns)) u)
  settled d es once s u a = record {
    bounds = a.bounds;
    elements = λ y j js. a.elements y j js ∙ sym (element_put d.name y j js w u);
    held = λ x h. by x h (bytes_eq d.name x) refl;
    scalar = a.scalar.1;
    first = a.first.1;
    second = none_same d es u w (λ e t. t.held (cell_of e.name) ≡ Int (start e.name)) (λ e n k. other_put d.name e.name w u n ∙ k) once a.second.1;
    start_in = a.start_in.1;
    range = a.range.1;
    have = have_put d.name w u symbols vs a.apart.0 a.have;
    apart = a.apart.1;
  }
    where
      w : Value
      w = Int (start d.name +ℤ d.step *ℤ pos turns)

      by : (x : List ℕ) → Each (λ (e : Induction). ¬ (e.name ≡ x)) es → (b : Bool) → bytes_eq d.name x ≡ b → s.held (cell_of x) ≡ (put (cell_of d.name) w u).held (cell_of x)
      by x h true e =
          let same = (bytes_eq-Decides d.name x).0 e in
          subst (λ y. s.held (cell_of y) ≡ (put (cell_of d.name) w u).held (cell_of y)) same (a.first.0 ∙ sym (own_put d.name w u))
      by x h false e =
          let apart : ¬ (d.name ≡ x) = λ q. (let yes = (bytes_eq-Decides d.name x).1 q in let no : true ≡ false = sym yes ∙ e in let none : ⊥ = cc in none) in
          a.held x (apart, h) ∙ sym (other_put d.name x w u apart)

  -- where there was no turn it has it already
  unmoved : (d : Induction) (es : List Induction) → turns ≡ 0 → (s u : Store) → AreToCome (d ∷ es) s u → AreToCome es s u
  unmoved d es none s u a = record {
    bounds = a.bounds;
    elements = a.elements;
    held = λ x h. by x h (bytes_eq d.name x) refl;
    scalar = a.scalar.1;
    first = a.first.1;
    second = a.second.1;
    start_in = a.start_in.1;
    range = a.range.1;
    have = a.have;
    apart = a.apart.1;
  }
    where
      no_more : (x : ℤ) → x +ℤ pos 0 ≡ x
      no_more x = omega (arith, ints)

      stays : Int (start d.name +ℤ d.step *ℤ pos turns) ≡ Int (start d.name)
      stays = ap (λ m. Int (start d.name +ℤ d.step *ℤ pos m)) none ∙ (ap (λ z. Int (start d.name +ℤ z)) (*ℤ-zero d.step) ∙ ap Int (no_more (start d.name)))

      by : (x : List ℕ) → Each (λ (e : Induction). ¬ (e.name ≡ x)) es → (b : Bool) → bytes_eq d.name x ≡ b → s.held (cell_of x) ≡ u.held (cell_of x)
      by x h true e =
          let same = (bytes_eq-Decides d.name x).0 e in
          subst (λ y. s.held (cell_of y) ≡ u.held (cell_of y)) same (a.first.0 ∙ (stays ∙ sym a.second.0))
      by x h false e =
          let apart : ¬ (d.name ≡ x) = λ q. (let yes = (bytes_eq-Decides d.name x).1 q in let no : true ≡ false = sym yes ∙ e in let none : ⊥ = cc in none) in
          a.held x (apart, h)

  module _ (last : Expression) (t : Trip) (p : IsPreparedTrip [] symbols last t) (all : AreSized vs)
      (count : turns ≡ turns_to (trip_number (length symbols) none_yet (At (vs ++ [])) t)) (line : ℕ) where
    abbrev z : ℤ
    z = trip_number (length symbols) none_yet (At (vs ++ [])) t

    abbrev moved : State → ℕ → State
    moved s k = record s { steps = k; way = Going }

    chooses_at : (line : ℕ) (test : Expression) (body : Block) (s : State) (b : Bool) → s.way ≡ Going → truth_of (sequential bits) test s.store ≡ Ok b
        → does (sequential bits) None (If line (arm test body no_arms) no_statements) s ≡ either b (does_all (sequential bits) None body) nothing (moved s (s.steps + 1))
    unfolding while_going evaluates counts_step
    chooses_at line test body s b w f = rw (w, f) refl

    -- its text has the number, where there is a turn
    valued : (d : Induction) (es : List Induction) → end_form symbols t d.name d.step ≡ Some d.end → int_le (pos 1) (trip_number (length symbols) none_yet (At (vs ++ [])) t) ≡ true
        → (s u : Store) → AreToCome (d ∷ es) s u → value_of (sequential bits) (induction_end_text symbols t d) u ≡ Ok (Int (start d.name +ℤ d.step *ℤ pos turns))
    valued d es end one s u a =
        let is : z ≡ pos turns = at_least z turns one count in
        let small : nat_abs z ≤ 2 ^ 63 = subst (λ y. nat_abs y ≤ 2 ^ 63) (sym is) (let f = few in omega (arith, f)) in
        end_value bits symbols last t p d end u vs a.have all (start d.name) a.scalar.0 a.second.0 (sized bits high (start d.name) a.start_in.0) small
        ∙ ap (λ y. Ok (Int (start d.name +ℤ d.step *ℤ y))) is

    assigns : (d : Induction) (es : List Induction) → end_form symbols t d.name d.step ≡ Some d.end → Each (λ (e : Induction). ¬ (d.name ≡ e.name)) es
        → int_le (pos 1) (trip_number (length symbols) none_yet (At (vs ++ [])) t) ≡ true
        → Goes (AreToCome (d ∷ es)) (AreToCome es) (does (sequential bits) None (assigned line d.name (induction_end_text symbols t d)))
    assigns d es end once one = second_assignment bits (AreToCome (d ∷ es)) (AreToCome es) line None (scalar d.name) (induction_end_text symbols t d)
        (λ s u a. (Int (start d.name +ℤ d.step *ℤ pos turns), cell_of d.name, valued d es end one s u a, ap (λ b. cell_in b d.name []) a.scalar.0, a.range.0, settled d es once s u a))

    test_value : (u : Store) → HaveValues symbols u vs
        → truth_of (sequential bits) (at_least_one (trip_text [] symbols [] t)) u ≡ Ok (int_le (pos 1) (trip_number (length symbols) none_yet (At (vs ++ [])) t))
    test_value u h =
        ap (λ q. results.◌>>=◌ (results.◌>>=◌ q (λ x. apply Ge x (Int (pos 1)))) as_truth) (trip_value bits symbols last t p u vs h all)

    under_test : (d : Induction) (es : List Induction) → end_form symbols t d.name d.step ≡ Some d.end → Each (λ (e : Induction). ¬ (d.name ≡ e.name)) es
        → Goes (AreToCome (d ∷ es)) (AreToCome es)
        (does (sequential bits) None (only_where line (at_least_one (trip_text [] symbols [] t)) (assigned line d.name (induction_end_text symbols t d) ∷ [])))
    under_test d es end once = record {
      at = λ s u n w a. subst (λ (r : State). Led (AreToCome es) s r)
          (sym (chooses_at line (at_least_one (trip_text [] symbols [] t)) (block (assigned line d.name (induction_end_text symbols t d) ∷ [])) (record s { store = u; steps = n }) (int_le (pos 1) z) w (test_value u a.have)))
          (by s u n w a (int_le (pos 1) z) refl);
    }
      where
        by : (s : State) (u : Store) (n : ℕ) → s.way ≡ Going → AreToCome (d ∷ es) s.store u → (b : Bool) → int_le (pos 1) z ≡ b
            → Led (AreToCome es) s
            (either b (does_all (sequential bits) None (block (assigned line d.name (induction_end_text symbols t d) ∷ []))) nothing (moved (record s { store = u; steps = n }) (n + 1)))
        by s u n w a true e =
            subst (λ y. Led (AreToCome es) s (does (sequential bits) None (assigned line d.name (induction_end_text symbols t d)) (record s { store = u; steps = n + 1; way = y }))) w
            ((assigns d es end once e).at s u (n + 1) w a)
        by s u n w a false e = record {
          stores = unmoved d es (below_one z turns e count) s.store u a;
          rest = ap (λ y. record s { store = u; steps = n + 1; way = y }) (sym w);
          going = w;
        }

    one_goes : (d : Induction) (es : List Induction) → end_form symbols t d.name d.step ≡ Some d.end → Each (λ (e : Induction). ¬ (d.name ≡ e.name)) es
        → Goes (AreToCome (d ∷ es)) (AreToCome es) (does (sequential bits) None (induction_ending symbols line t d))
    one_goes d es end once = by (is_positive t) refl
      where
        by : (b : Bool) → is_positive t ≡ b → Goes (AreToCome (d ∷ es)) (AreToCome es)
            (does (sequential bits) None (cond b (assigned line d.name (induction_end_text symbols t d))
            (only_where line (at_least_one (trip_text [] symbols [] t)) (assigned line d.name (induction_end_text symbols t d) ∷ []))))
        by true e =
            let f = both (is_known t) (int_lt (pos 0) t.top.constant) e in
            let g = both (is_undivided t) (is_constant t.top) f.0 in
            assigns d es end once
            (ap (int_le (pos 1)) (known_number (length symbols) none_yet (At (vs ++ [])) t g.0 g.1) ∙ above t.top.constant f.1)
        by false e = under_test d es end once

    pub all_go : (ds : List Induction) → Each (λ (d : Induction). end_form symbols t d.name d.step ≡ Some d.end) ds → AreOnce ds
        → Goes (AreToCome ds) (AreToCome []) (does_all (sequential bits) None (block (map (induction_ending symbols line t) ds)))
    all_go [] ends once = Goes-nothing (AreToCome []) (AreToCome []) (λ s u a. a)
    all_go (d ∷ es) ends once =
        Goes-then (AreToCome (d ∷ es)) (AreToCome es) (AreToCome []) (does (sequential bits) None (induction_ending symbols line t d)) (does_all (sequential bits) None (block (map (induction_ending symbols line t) es)))
        (one_goes d es ends.0 once.0) (all_go es ends.1 once.1)

  -- then the two stores are one
  pub same_store : (s u : Store) → AreToCome [] s u → u ≡ s
  same_store s u a = λ i. record { bounds = λ y. sym (a.bounds y) i; held = λ c. by c i }
    where
      by : (c : Cell) → u.held c ≡ s.held c
      by c = of c.name c.subscripts
        where
          of : (x : List ℕ) (js : List ℤ) → u.held (record { name = x; subscripts = js }) ≡ s.held (record { name = x; subscripts = js })
          of x [] = sym (a.held x tt)
          of x (j ∷ js) = sym (a.elements x j js)
