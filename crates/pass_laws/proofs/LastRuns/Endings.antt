-- The statements that give a loop's variable its last value behind all loops, one after the other.
use Rattle.std.proofs.Common.{◌≡◌, refl, sym, ap, ◌∙◌, subst, ℕ, zero, suc, ◌+◌, ◌≤◌, ◌<◌, ℤ, pos, negsuc, ◌+ℤ◌, ◌*ℤ◌}
use Rattle.std.proofs.Common.{Bool, true, false, cond, ◌&&◌, not, List, [], ◌∷◌, ◌++◌, length, Ok, Option, Some, None}
use Rattle.std.proofs.Common.{arith}
use Rattle.std.specs.Prelude.{int_le, int_lt}
use Rattle.std.specs.Str.{bytes_eq}
use Rattle.std.proofs.lemmas.Bool.{le-leb}
use Rattle.std.proofs.lemmas.Bool.Decides.{Decides-ltb}
use Rattle.std.proofs.lemmas.Int.{ints}
use Rattle.std.proofs.Math.IntN.{*ℤ-zero}
use Rattle.tree.specs.Operators.{apply, as_truth}
use Rattle.tree.specs.Plain.{Expression, Binary, Reference, Assignment, If, arm, no_arms, Block, no_statements}
use Rattle.tree.specs.Plain.{Statement, block}
use Rattle.tree.specs.declared.ops.Op.TheVariants.{And, Ge}
use Rattle.tree.specs.declared.ops.Value.{Value}
use Rattle.tree.specs.declared.ops.Value.TheVariants.{Int, Truth}
use Rattle.tree.specs.Steps as results
use Rattle.meaning.specs.Dialect.{Dialect}
use Rattle.meaning.specs.Run.{State, Going, does, does_all, either, nothing, while_going, evaluates, counts_step}
use Rattle.meaning.specs.Run.{stores, checks_range}
use Rattle.meaning.specs.Store.{Store, Cell, put}
use Rattle.meaning.specs.Value.{cell_named, is_array, is_in_range, named, truth_of, value_of}
use Rattle.rewrite.proofs.Replacing.{either_false}
use Rattle.last_values.specs.Endings.{all_hold, assigned, loop_ending, ending_behind, last_texts, only_where}
use Rattle.last_values.specs.Scalars.{scalar}
use Rattle.last_values.specs.Endings.{where_all_hold}
use Rattle.linear_forms.specs.Laws.{AreSized}
use Rattle.linear_forms.specs.Linear.{HaveValues}
use Rattle.linear_forms.proofs.Sizes.{both}
use Rattle.nest_order.specs.orders.Lists.{Each}
use Rattle.nest_order.specs.runs.Guarded.{sequential, variable_cell}
use Rattle.nest_order.proofs.runs.Ending.{turns_to}
use Rattle.nest_order.proofs.runs.Going.{moved}
use Rattle.nest_order.proofs.runs.Results.{true_false}
use Rattle.nest_order.proofs.runs.Variables.{place_of, put_there}
use Rattle.last_values.specs.normal_forms.LastValues.{have_plain_trips, last_forms}
use Rattle.last_values.specs.normal_forms.LastTexts.{last_end_text, last_first_text, last_trip_text}
use Rattle.last_values.specs.normal_forms.LastTexts.{plain_trip_text, tests_of}
use Rattle.last_values.specs.normal_forms.NormalLoops.{is_constant, is_known, is_positive, is_undivided}
use Rattle.last_values.specs.normal_forms.Numbers.{values_from}
use Rattle.last_values.specs.normal_forms.Texts.{at_least_one}
use Rattle.last_values.specs.declared.normal_forms.last.LastForms.{LastForms}
use Rattle.last_values.specs.declared.normal_forms.loops.NormalLoop.{NormalLoop}
use Rattle.nest.specs.statement_loops.Names.{is_among}
use Rattle.pass_laws.proofs.LastRuns.LastNumbers.{known_number}
use Rattle.pass_laws.proofs.LastRuns.Listed.{all_turn, are_few, last_round}
use Rattle.pass_laws.proofs.LastRuns.Pieces.{IsMade, Number, count, end, has_turn, if_so, in_last, none_yet, or_before, top}
use Rattle.pass_laws.proofs.LastRuns.Pieces.{value_or}
use Rattle.pass_laws.proofs.LastRuns.Sources.{element, one_after, put_scalar}
use Rattle.pass_laws.proofs.LastRuns.Stores.{apart_turned, put_elsewhere}
use Rattle.pass_laws.proofs.LastRuns.Texts.{StayTops, first_value, known_top, last_end_value, last_trip_value, plain_value}
use Rattle.pass_laws.proofs.LastRuns.Texts.{tops_stay}

-- ---- single statements

assigns_at : (lang : Dialect) (line : ℕ) (r : Reference) (e : Expression) (s : State) (c : Cell) (v : Value) → s.way ≡ Going
    → is_array lang (named r) s.store ≡ false → value_of lang e s.store ≡ Ok v → cell_named lang r s.store ≡ Ok c → is_in_range lang.bits v ≡ true
    → does lang None (Assignment line None r e) s ≡ moved s (s.steps + 1 + 1) (put c v s.store)
unfolding while_going evaluates counts_step stores checks_range
assigns_at lang line r e s c v w a f g h = rw (w, a, f, g, h) refl

chooses_at : (lang : Dialect) (line : ℕ) (test : Expression) (body : Block) (s : State) (b : Bool) → s.way ≡ Going → truth_of lang test s.store ≡ Ok b
    → does lang None (If line (arm test body no_arms) no_statements) s ≡ either b (does_all lang None body) nothing (moved s (s.steps + 1) s.store)
unfolding while_going evaluates counts_step
chooses_at lang line test body s b w f = rw (w, f) refl

-- the variable y is set to o, and nothing else has changed
pub record Left (y : List ℕ) (o : Option ℤ) (s t : State) : Type 0 where
  pub way : t.way ≡ Going
  pub bounds : (x : List ℕ) → t.store.bounds x ≡ s.store.bounds x
  pub other : (c : Cell) → bytes_eq y c.name ≡ false → t.store.held c ≡ s.store.held c
  pub elements : (x : List ℕ) (j : ℤ) (js : List ℤ) → t.store.held (element x j js) ≡ s.store.held (element x j js)
  pub value : t.store.held (variable_cell y) ≡ value_or o (s.store.held (variable_cell y))

left_put : (y : List ℕ) (z : ℤ) (s : State) (k : ℕ) → Left y (Some z) s (moved s k (put (variable_cell y) (Int z) s.store))
left_put y z s k = record {
  way = refl;
  bounds = λ x. refl;
  other = λ c h. put_elsewhere (variable_cell y) c (Int z) s.store h;
  elements = λ x j js. put_scalar y x j js (Int z) s.store;
  value = put_there (variable_cell y) (Int z) s.store;
}

left_alone : (y : List ℕ) (s : State) (k : ℕ) → Left y None s (moved s k s.store)
left_alone y s k = record { way = refl; bounds = λ x. refl; other = λ c h. refl; elements = λ x j js. refl; value = refl }

pub left_here : (y : List ℕ) (s : State) → s.way ≡ Going → Left y None s s
left_here y s w = record { way = w; bounds = λ x. refl; other = λ c h. refl; elements = λ x j js. refl; value = refl }

left_then : (y : List ℕ) (o p : Option ℤ) (s t v : State) → Left y o s t → Left y p t v → Left y (or_before p o) s v
left_then y o p s t v a b = record {
  way = b.way;
  bounds = λ x. b.bounds x ∙ a.bounds x;
  other = λ c h. b.other c h ∙ a.other c h;
  elements = λ x j js. b.elements x j js ∙ a.elements x j js;
  value = b.value ∙ (ap (value_or p) a.value ∙ one_after p o (s.store.held (variable_cell y)));
}

pub left_known : (y : List ℕ) (o : Option ℤ) (s t : State) (names : List (List ℕ)) (xs : List ℤ) → is_among names y ≡ false → Left y o s t → HaveValues names s.store xs → HaveValues names t.store xs
left_known y o s t [] [] h l k = tt
left_known y o s t [] (x ∷ xs) h l k = absurd k
left_known y o s t (x ∷ names) [] h l k = absurd k
left_known y o s t (x ∷ names) (z ∷ xs) h l k =
    let p = either_false (bytes_eq x y) (is_among names y) h in
    (l.bounds x ∙ k.0, l.other (variable_cell x) (apart_turned x y p.0) ∙ k.1, left_known y o s t names xs p.1 l k.2)

-- ---- tests

lower_than : (z : ℤ) → int_lt (pos 0) z ≡ true → has_turn (turns_to z) ≡ true
lower_than (pos zero) h = cc
lower_than (pos (suc k)) h = refl
lower_than (negsuc k) h = cc

not_lower : (z : ℤ) → int_lt (pos 0) z ≡ false → turns_to z ≡ 0
not_lower (pos zero) h = refl
not_lower (pos (suc k)) h = absurd (true_false (sym ((Decides-ltb 0 (suc k)).1 (omega arith)) ∙ h))
not_lower (negsuc k) h = refl

at_least : (z : ℤ) → int_le (pos 1) z ≡ has_turn (turns_to z)
at_least (pos zero) = refl
at_least (pos (suc k)) = le-leb 1 (suc k) (omega arith)
at_least (negsuc k) = refl

no_turn : (k : ℕ) → has_turn k ≡ false → k ≡ 0
no_turn zero h = refl
no_turn (suc k) h = absurd (true_false h)

abbrev ands : List Bool → Bool
ands [] = true
ands (b ∷ bs) = b && ands bs

module _ (lang : Dialect) where
  abbrev AreTrue : Store → List Expression → List Bool → Type 0
  AreTrue u [] [] = Unit {0}
  AreTrue u (t ∷ ts) (b ∷ bs) = (value_of lang t u ≡ Ok (Truth b)) × AreTrue u ts bs
  AreTrue u _ _ = ⊥

  and_grouped : (a b c : Bool) → ((a && b) && c) ≡ (a && (b && c))
  and_grouped true b c = refl
  and_grouped false b c = refl

  all_hold_value : (u : Store) (e : Expression) (ts : List Expression) (b : Bool) (bs : List Bool) → value_of lang e u ≡ Ok (Truth b) → AreTrue u ts bs → value_of lang (all_hold e ts) u ≡ Ok (Truth (b && ands bs))
  all_hold_value u e [] b [] h k = h ∙ ap (λ c. Ok (Truth c)) (one b)
    where
      one : (b : Bool) → b ≡ (b && true)
      one true = refl
      one false = refl
  all_hold_value u e [] b (c ∷ bs) h k = absurd k
  all_hold_value u e (t ∷ ts) b [] h k = absurd k
  all_hold_value u e (t ∷ ts) b (c ∷ bs) h k =
      all_hold_value u (Binary And e t) ts (b && c) bs
      (ap (λ q. results.◌>>=◌ q (λ x. results.◌>>=◌ (value_of lang t u) (λ y. apply And x y))) h ∙ ap (λ q. results.◌>>=◌ q (λ y. apply And (Truth b) y)) k.0) k.1
      ∙ ap (λ c. Ok (Truth c)) (and_grouped b c (ands bs))

  at_least_value : (u : Store) (e : Expression) (z : ℤ) → value_of lang e u ≡ Ok (Int z) → value_of lang (at_least_one e) u ≡ Ok (Truth (has_turn (turns_to z)))
  at_least_value u e z h = ap (λ q. results.◌>>=◌ q (λ x. apply Ge x (Int (pos 1)))) h ∙ ap (λ b. Ok (Truth b)) (at_least z)

  -- under the tests, if there are any
  record Where (line : ℕ) (ts : List Expression) (b : Bool) (cs : List Statement) (s : State) : Type 0 where
    steps : ℕ
    is : does_all lang None (block (where_all_hold line ts cs)) s ≡ either b (does_all lang None (block cs)) nothing (moved s steps s.store)

  where_goes : (line : ℕ) (ts : List Expression) (bs : List Bool) (cs : List Statement) (s : State) → s.way ≡ Going → AreTrue s.store ts bs → Where line ts (ands bs) cs s
  where_goes line [] [] cs s w k = record { steps = s.steps; is = ap (does_all lang None (block cs)) (same s w) }
    where
      same : (s : State) → s.way ≡ Going → s ≡ moved s s.steps s.store
      same s w = ap (λ w. let t : State = record s { way = w } in t) w
  where_goes line [] (b ∷ bs) cs s w k = absurd k
  where_goes line (t ∷ ts) [] cs s w k = absurd k
  where_goes line (t ∷ ts) (b ∷ bs) cs s w k = record {
    steps = s.steps + 1;
    is = chooses_at lang line (all_hold t ts) (block cs) s (b && ands bs) w (ap (λ q. results.◌>>=◌ q as_truth) (all_hold_value s.store t ts b bs k.0 k.1));
  }

-- ---- a loop

module _ (bits line : ℕ) (symbols : List (List ℕ)) (values : ℕ → ℤ) (sized : AreSized (values_from (length symbols) 0 values)) where
  abbrev n : ℕ
  n = length symbols

  abbrev lang : Dialect
  lang = sequential bits

  -- what a run has shown of a loop in the last turns of those round it
  pub record IsEnding (round : List NormalLoop) (r : NormalLoop) : Type 0 where
    pub few : count (length symbols) values (last_round (length symbols) values round) r ≤ 2147483646
    pub first : is_in_range bits (Int (Number (length symbols) values (last_round (length symbols) values round) r.first)) ≡ true
    pub end : is_in_range bits (Int (end (length symbols) values (last_round (length symbols) values round) r)) ≡ true

  record AreTests (u : Store) (d : ℕ) (at : ℕ → ℤ) (rs : List NormalLoop) : Type 0 where
    truths : List Bool
    are : AreTrue (sequential bits) u (tests_of symbols rs) truths
    all : ands truths ≡ all_turn (length symbols) values d at rs

  tests : (u : Store) (known : HaveValues symbols u (values_from (length symbols) 0 values)) (rs : List NormalLoop) (d : ℕ) (at : ℕ → ℤ) → Each (IsMade (length symbols)) rs
      → StayTops (sequential bits) symbols values u known sized d at rs → AreTests u d at rs
  tests u known [] d at made stay = record { truths = []; are = tt; all = refl }
  tests u known (r ∷ rs) d at made stay = by (tests u known rs (suc d) (in_last n values d at r) made.1 stay.1) (is_positive r.trip) refl
    where
      by : AreTests u (suc d) (in_last n values d at r) rs → (b : Bool) → is_positive r.trip ≡ b → AreTests u d at (r ∷ rs)
      by rest true e =
          let p = both (is_known r.trip) (int_lt (pos 0) r.trip.top.constant) e in
          let q = both (is_undivided r.trip) (is_constant r.trip.top) p.0 in
          let turn : has_turn (count n values at r) ≡ true = ap (λ z. has_turn (turns_to z)) (known_number n at values r.trip q.0 q.1) ∙ lower_than r.trip.top.constant p.1 in
          record {
            truths = rest.truths;
            are = subst (λ b. AreTrue lang u (cond (not b) (at_least_one (plain_trip_text symbols r) ∷ []) [] ++ tests_of symbols rs) rest.truths) (sym e) rest.are;
            all = rest.all ∙ ap (λ b. b && all_turn n values (suc d) (in_last n values d at r) rs) (sym turn);
          }
      by rest false e = record {
        truths = has_turn (count n values at r) ∷ rest.truths;
        are = subst (λ b. AreTrue lang u (cond (not b) (at_least_one (plain_trip_text symbols r) ∷ []) [] ++ tests_of symbols rs) (has_turn (count n values at r) ∷ rest.truths)) (sym e)
            (at_least_value lang u (plain_trip_text symbols r) (top n values at r) (plain_value lang symbols values u known sized r made.0 ∙ ap (λ z. Ok (Int z)) stay.0), rest.are);
        all = ap (λ b. has_turn (count n values at r) && b) rest.all;
      }

  -- y is set to the value of a text
  set_left : (y : List ℕ) (e : Expression) (z : ℤ) (s : State) → s.way ≡ Going → s.store.bounds y ≡ Some [] → value_of (sequential bits) e s.store ≡ Ok (Int z) → is_in_range bits (Int z) ≡ true
      → Left y (Some z) s (does (sequential bits) None (assigned line y e) s)
  set_left y e z s w b h range =
      subst (Left y (Some z) s) (sym (assigns_at lang line (scalar y) e s (variable_cell y) (Int z) w refl h (place_of y s.store b) range)) (left_put y z s (s.steps + 1 + 1))

  module _ (round : List NormalLoop) (r : NormalLoop) (f : LastForms) (is : last_forms (length symbols) round r ≡ Some f) (plain : have_plain_trips round ≡ true) (deep : length round < 7)
      (made_round : Each (IsMade (length symbols)) round) (made : IsMade (length symbols) r) (turns : all_turn (length symbols) values 0 none_yet round ≡ true) (few : are_few (length symbols) values 0 none_yet round)
      (apart : is_among symbols r.variable ≡ false) (own_few : count (length symbols) values (last_round (length symbols) values round) r ≤ 2147483646)
      (first_range : is_in_range bits (Int (Number (length symbols) values (last_round (length symbols) values round) r.first)) ≡ true)
      (end_range : is_in_range bits (Int (end (length symbols) values (last_round (length symbols) values round) r)) ≡ true) where
    abbrev L : ℕ → ℤ
    L = last_round n values round

    abbrev F : ℤ
    F = Number n values L r.first

    abbrev E : ℤ
    E = end n values L r

    end_of_none : count (length symbols) values (last_round (length symbols) values round) r ≡ 0 → end (length symbols) values (last_round (length symbols) values round) r ≡ Number (length symbols) values (last_round (length symbols) values round) r.first
    end_of_none h = ap (λ k. F +ℤ r.step *ℤ pos k) h ∙ (ap (λ z. F +ℤ z) (*ℤ-zero r.step) ∙ alone F)
      where
        alone : (z : ℤ) → z +ℤ pos 0 ≡ z
        alone z = omega (arith, ints)

    set_first : (s : State) → s.way ≡ Going → s.store.bounds r.variable ≡ Some [] → HaveValues symbols s.store (values_from (length symbols) 0 values)
        → Left r.variable (Some (Number (length symbols) values (last_round (length symbols) values round) r.first)) s (does (sequential bits) None (assigned line r.variable (last_first_text symbols round f)) s)
    set_first s w b known = set_left r.variable (last_first_text symbols round f) F s w b (first_value lang symbols values s.store known sized round r f is plain deep made_round made turns few) first_range

    set_end : (s : State) → s.way ≡ Going → s.store.bounds r.variable ≡ Some [] → HaveValues symbols s.store (values_from (length symbols) 0 values) → has_turn (count (length symbols) values (last_round (length symbols) values round) r) ≡ true
        → Left r.variable (Some (end (length symbols) values (last_round (length symbols) values round) r)) s (does (sequential bits) None (assigned line r.variable (last_end_text symbols round f)) s)
    set_end s w b known h = set_left r.variable (last_end_text symbols round f) E s w b (last_end_value lang symbols values s.store known sized round r f is plain deep made_round made turns few h own_few) end_range

    -- the end value where there is a turn
    end_where : (s : State) → s.way ≡ Going → s.store.bounds r.variable ≡ Some [] → HaveValues symbols s.store (values_from (length symbols) 0 values)
        → (b : Bool) → has_turn (count (length symbols) values (last_round (length symbols) values round) r) ≡ b
        → Left r.variable (cond b (Some (end (length symbols) values (last_round (length symbols) values round) r)) None) s
        (does (sequential bits) None (only_where line (at_least_one (last_trip_text symbols round f)) (assigned line r.variable (last_end_text symbols round f) ∷ [])) s)
    end_where s w b known t h =
        let truth = at_least_value lang s.store (last_trip_text symbols round f) (top n values L r) (last_trip_value lang symbols values s.store known sized round r f is plain deep made_round made turns few) ∙ ap (λ b. Ok (Truth b)) h in
        subst (Left r.variable (cond t (Some E) None) s)
        (sym (chooses_at lang line (at_least_one (last_trip_text symbols round f)) (block (assigned line r.variable (last_end_text symbols round f) ∷ [])) s t w (ap (λ q. results.◌>>=◌ q as_truth) truth)))
        (by t h)
      where
        by : (t : Bool) → has_turn (count n values L r) ≡ t
            → Left r.variable (cond t (Some E) None) s (either t (does_all lang None (block (assigned line r.variable (last_end_text symbols round f) ∷ []))) nothing (moved s (s.steps + 1) s.store))
        by true h =
            left_then r.variable None (Some E) s (moved s (s.steps + 1) s.store) (does lang None (assigned line r.variable (last_end_text symbols round f)) (moved s (s.steps + 1) s.store))
            (left_alone r.variable s (s.steps + 1)) (set_end (moved s (s.steps + 1) s.store) refl b known h)
        by false h = left_alone r.variable s (s.steps + 1)

    pub ending_left : (s : State) → s.way ≡ Going → s.store.bounds r.variable ≡ Some [] → HaveValues symbols s.store (values_from (length symbols) 0 values)
        → Left r.variable (Some (end (length symbols) values (last_round (length symbols) values round) r)) s (does_all (sequential bits) None (block (loop_ending line r.variable f.trip (last_texts symbols round f))) s)
    ending_left s w b known = by (is_positive f.trip) (is_known f.trip) refl refl
      where
        top_is : is_known f.trip ≡ true → top n values L r ≡ f.trip.top.constant
        top_is h = known_top lang symbols values s.store known sized round r f is plain deep made_round made turns few h

        once : (t : Bool) → has_turn (count n values L r) ≡ t → or_before (cond t (Some E) None) (Some F) ≡ Some E
        once true h = refl
        once false h = ap Some (sym (end_of_none (no_turn (count n values L r) h)))

        by : (p k : Bool) → is_positive f.trip ≡ p → is_known f.trip ≡ k
            → Left r.variable (Some E) s (does_all lang None (block (cond p (assigned line r.variable (last_end_text symbols round f) ∷ [])
            (cond k (assigned line r.variable (last_first_text symbols round f) ∷ [])
            (assigned line r.variable (last_first_text symbols round f) ∷ only_where line (at_least_one (last_trip_text symbols round f)) (assigned line r.variable (last_end_text symbols round f) ∷ []) ∷ [])))) s)
        by true k e g =
            let q = both (is_known f.trip) (int_lt (pos 0) f.trip.top.constant) e in
            set_end s w b known (ap (λ z. has_turn (turns_to z)) (top_is q.0) ∙ lower_than f.trip.top.constant q.1)
        by false true e g =
            let low : int_lt (pos 0) f.trip.top.constant ≡ false = ap (λ c. c && int_lt (pos 0) f.trip.top.constant) (sym g) ∙ e in
            let same : E ≡ F = end_of_none (ap turns_to (top_is g) ∙ not_lower f.trip.top.constant low) in
            subst (λ z. Left r.variable (Some z) s (does lang None (assigned line r.variable (last_first_text symbols round f)) s)) (sym same) (set_first s w b known)
        by false false e g =
            let s1 : State = does lang None (assigned line r.variable (last_first_text symbols round f)) s in
            let a = set_first s w b known in
            let c = end_where s1 a.way (a.bounds r.variable ∙ b) (left_known r.variable (Some F) s s1 symbols (values_from n 0 values) apart a known) (has_turn (count n values L r)) refl in
            subst (λ o. Left r.variable o s (does lang None (only_where line (at_least_one (last_trip_text symbols round f)) (assigned line r.variable (last_end_text symbols round f) ∷ [])) s1)) (once (has_turn (count n values L r)) refl)
            (left_then r.variable (Some F) (cond (has_turn (count n values L r)) (Some E) None) s s1 (does lang None (only_where line (at_least_one (last_trip_text symbols round f)) (assigned line r.variable (last_end_text symbols round f) ∷ [])) s1) a c)

  -- ---- under the tests

  pub ending_behind_left : (round : List NormalLoop) (r : NormalLoop) (f : LastForms) → last_forms (length symbols) round r ≡ Some f → have_plain_trips round ≡ true → length round < 7
      → Each (IsMade (length symbols)) round → IsMade (length symbols) r → is_among symbols r.variable ≡ false
      → (all_turn (length symbols) values 0 none_yet round ≡ true → (IsEnding round r × are_few (length symbols) values 0 none_yet round))
      → (s : State) → s.way ≡ Going → (all_turn (length symbols) values 0 none_yet round ≡ true → s.store.bounds r.variable ≡ Some []) → HaveValues symbols s.store (values_from (length symbols) 0 values)
      → Left r.variable (if_so (all_turn (length symbols) values 0 none_yet round) (Some (end (length symbols) values (last_round (length symbols) values round) r))) s
      (does_all (sequential bits) None (block (ending_behind symbols line round r f)) s)
  ending_behind_left round r f is plain deep made_round made apart shown s w b known =
      let t = tests s.store known round 0 none_yet made_round (tops_stay lang symbols values s.store known sized round plain) in
      let g = where_goes lang line (tests_of symbols round) t.truths (loop_ending line r.variable f.trip (last_texts symbols round f)) s w t.are in
      let E : ℤ = end n values (last_round n values round) r in
      let cs : List Statement = loop_ending line r.variable f.trip (last_texts symbols round f) in
      subst (Left r.variable (if_so (all_turn n values 0 none_yet round) (Some E)) s) (sym (g.is ∙ ap (λ b. either b (does_all lang None (block cs)) nothing (moved s g.steps s.store)) t.all))
      (by g.steps (all_turn n values 0 none_yet round) refl)
    where
      by : (k : ℕ) (t : Bool) → all_turn n values 0 none_yet round ≡ t
          → Left r.variable (if_so t (Some (end n values (last_round n values round) r))) s (either t (does_all lang None (block (loop_ending line r.variable f.trip (last_texts symbols round f)))) nothing (moved s k s.store))
      by k true h =
          let p = shown h in
          left_then r.variable None (Some (end n values (last_round n values round) r)) s (moved s k s.store) (does_all lang None (block (loop_ending line r.variable f.trip (last_texts symbols round f))) (moved s k s.store))
          (left_alone r.variable s k)
          (ending_left round r f is plain deep made_round made h p.1 apart p.0.few p.0.first p.0.end (moved s k s.store) refl (b h) known)
      by k false h = left_alone r.variable s k
