-- The last value of a loop's variable in place.
use Rattle.std.proofs.Common.{◌≡◌, refl, sym, ap, ◌∙◌, subst, ℕ, ◌+◌, ◌≤◌, ℤ, pos, ◌+ℤ◌, ◌*ℤ◌, Bool, true, false, cond}
use Rattle.std.proofs.Common.{List, [], ◌∷◌, ◌++◌, length, Ok, Some, None, Contains, arith}
use Rattle.std.specs.Prelude.{int_le}
use Rattle.std.proofs.lemmas.Int.{ints}
use Rattle.std.proofs.Math.IntN.{*ℤ-zero}
use Rattle.tree.specs.Operators.{fits}
use Rattle.tree.specs.Plain.{Expression}
use Rattle.tree.specs.declared.ops.Value.TheVariants.{Int}
use Rattle.meaning.specs.Store.{Store, put}
use Rattle.meaning.specs.Value.{value_of}
use Rattle.meaning.specs.Run.{State, does, does_all, either, nothing}
use Rattle.rewrite.specs.Following.{sequential}
use Rattle.last_values.specs.Endings.{assigned}
use Rattle.last_values.specs.InPlace.{assigned_part, end_part, end_text, first_text, own_trip_text}
use Rattle.last_values.specs.PartsInPlace.{only_where_part, parts_before, parts_behind}
use Rattle.nest_order.specs.runs.Guarded.{variable_cell}
use Rattle.nest_order.proofs.runs.Ending.{count_from_one, turns_to}
use Rattle.nest_order.proofs.runs.Going.{moved}
use Rattle.nest_order.proofs.runs.Results.{true_false}
use Rattle.nest_order.proofs.runs.Variables.{put_there}
use Rattle.nest.specs.Blocks.{block_of_parts, statement_of_part}
use Rattle.nest.specs.Plain.{Nest, Part, parts}
use Rattle.last_values.specs.normal_forms.NormalLoops.{counters_of, is_known, is_positive}
use Rattle.last_values.specs.normal_forms.Numbers.{trip_number}
use Rattle.last_values.specs.normal_forms.Texts.{at_least_one}
use Rattle.last_values.specs.declared.normal_forms.loops.NormalLoop.{NormalLoop}
use Rattle.pass_laws.specs.normal_values.Beside.{iteration_at}
use Rattle.pass_laws.specs.normal_values.Laws.{HasLastTexts, HasNormalBounds}
use Rattle.pass_laws.specs.normal_runs.Sources.{IsNormalSource}
use Rattle.pass_laws.proofs.NormalRuns.Moments.{Goes, moved_on, put_beside, IsKept}
use Rattle.pass_laws.proofs.NormalRuns.Running.{scalar_assigned, condition_done, at_least_one_is}
use Rattle.pass_laws.proofs.NormalRuns.Trips.{some_turn, no_turn, positive_turns, known_turns}

-- one block after the other
pub block_joined : (bits line : ℕ) (xs ys : List Part) (t : State)
    → does_all (sequential bits) None (block_of_parts line (parts (xs ++ ys))) t ≡ does_all (sequential bits) None (block_of_parts line (parts ys)) (does_all (sequential bits) None (block_of_parts line (parts xs)) t)
block_joined bits line [] ys t = refl
block_joined bits line (x ∷ xs) ys t = block_joined bits line xs ys (does (sequential bits) None (statement_of_part line x) t)

module _ (bits : ℕ) (high : bits ≤ 63) (n : Nest) (source : IsNormalSource n) (values : ℕ → ℤ) (start : Store)
    (apart : List ℕ → Bool) (round : List NormalLoop) (r : NormalLoop) (is : List ℕ)
    (own : apart r.variable ≡ true) (no_counter : Contains (counters_of round) r.variable → ⊥) (free : IsKept bits high n source values start r.variable → ⊥) where
  abbrev Both : State → State → Type 0
  Both = Goes bits high n source values start apart round is

  abbrev block : List Part → State → State
  block ps = does_all (sequential bits) None (block_of_parts n.line (parts ps))

  -- the variable has this value
  pub record Holds (z : ℤ) (s t : State) : Type 0 where
    pub goes : Both s t
    pub value : t.store.held (variable_cell r.variable) ≡ Int z

  given : (e : Expression) (z : ℤ) (s t : State) → Both s t → t.store.bounds r.variable ≡ Some [] → value_of (sequential bits) e t.store ≡ Ok (Int z) → fits bits z ≡ true
      → Holds z s (block (assigned_part n.line r.variable e ∷ []) t)
  given e z s t g bare v fit =
      let done = scalar_assigned bits n.line r.variable e t z g.way_beside v bare fit in
      let store : (does (sequential bits) None (assigned n.line r.variable e) t).store ≡ put (variable_cell r.variable) (Int z) t.store = ap (λ (u : State). u.store) done in
      record {
        goes = put_beside bits high n source values start apart round is s t (does (sequential bits) None (assigned n.line r.variable e) t) r.variable z (ap (λ (u : State). u.way) done) store own no_counter free fit g;
        value = ap (λ (u : Store). u.held (variable_cell r.variable)) store ∙ put_there (variable_cell r.variable) (Int z) t.store;
      }

  -- ---- before the loop

  pub record Began (z : ℤ) (s t : State) : Type 0 where
    pub goes : Both s t
    pub value : is_positive r.trip ≡ false → t.store.held (variable_cell r.variable) ≡ Int z

  pub before : (z : ℤ) (s t : State) → Both s t → t.store.bounds r.variable ≡ Some [] → value_of (sequential bits) (first_text n.symbols round r) t.store ≡ Ok (Int z) → fits bits z ≡ true
      → Began z s (block (parts_before n.symbols n.line round r) t)
  unfolding parts_before
  before z s t g bare v fit = by (is_positive r.trip) refl
    where
      by : (b : Bool) → is_positive r.trip ≡ b → Began z s (block (cond b [] (assigned_part n.line r.variable (first_text n.symbols round r) ∷ [])) t)
      by true e = record { goes = g; value = λ f. absurd (true_false (sym e ∙ f)) }
      by false e = let h = given (first_text n.symbols round r) z s t g bare v fit in record { goes = h.goes; value = λ f. h.value }

  -- ---- and behind it

  module _ (a step : ℤ) (k : ℕ) (s t : State) (g : Both s t) (bare : t.store.bounds r.variable ≡ Some [])
      (bounds : HasNormalBounds bits n.symbols values round is t.store step r a k) (texts : HasLastTexts bits n.symbols round t.store step r a k)
      (fit : fits bits (a +ℤ step *ℤ pos k) ≡ true) (none : k ≡ 0 → is_positive r.trip ≡ false → t.store.held (variable_cell r.variable) ≡ Int a) where
    turns_are : k ≡ turns_to bounds.top
    turns_are = count_from_one bounds.top k bounds.turns

    top_is : turns_to (trip_number (length n.symbols) (iteration_at is) values r.trip) ≡ k
    top_is = ap turns_to bounds.trip ∙ sym turns_are

    abbrev end : ℤ
    end = a +ℤ step *ℤ pos k

    without : k ≡ 0 → is_positive r.trip ≡ false → Holds end s t
    without e f = record { goes = g; value = none e f ∙ ap Int (sym (ap (λ j. a +ℤ step *ℤ pos j) e ∙ (ap (λ z. a +ℤ z) (*ℤ-zero step) ∙ zero_more a))) }
      where
        zero_more : (a : ℤ) → a +ℤ pos 0 ≡ a
        zero_more a = omega (arith, ints)

    ended : 1 ≤ k → Holds end s (block (end_part n.symbols n.line round r ∷ []) t)
    ended h = given (end_text n.symbols round r) end s t g bare (texts.end h) fit

    -- the moment behind a condition
    asked : (b : Bool) → int_le (pos 1) bounds.top ≡ b → is_positive r.trip ≡ false → Holds end s (either b (block (end_part n.symbols n.line round r ∷ [])) nothing (moved t (t.steps + 1) t.store))
    asked true e f =
        let t1 : State = moved t (t.steps + 1) t.store in
        given (end_text n.symbols round r) end s t1 (moved_on bits high n source values start apart round is s t s t1 g.way refl refl refl g) bare
        (texts.end (subst (λ j. 1 ≤ j) (sym turns_are) (some_turn bounds.top e))) fit
    asked false e f =
        let t1 : State = moved t (t.steps + 1) t.store in
        let h = without (turns_are ∙ no_turn bounds.top e) f in
        record { goes = moved_on bits high n source values start apart round is s t s t1 g.way refl refl refl g; value = h.value }

    abbrev conditional : List Part
    conditional = only_where_part (at_least_one (own_trip_text n.symbols round r)) (end_part n.symbols n.line round r ∷ []) ∷ []

    where_turned : is_positive r.trip ≡ false → Holds end s (block conditional t)
    where_turned f =
        let test = at_least_one_is bits (own_trip_text n.symbols round r) t.store bounds.top bounds.text in
        let done = condition_done bits n.line (at_least_one (own_trip_text n.symbols round r)) (block_of_parts n.line (parts (end_part n.symbols n.line round r ∷ []))) t (int_le (pos 1) bounds.top) g.way_beside test in
        subst (λ (u : State). Holds end s u) (sym done) (asked (int_le (pos 1) bounds.top) refl f)

    pub behind : Holds end s (block (parts_behind n.symbols n.line round r) t)
    unfolding parts_behind
    behind = by (is_positive r.trip) refl (is_known r.trip) refl
      where
        by : (b : Bool) → is_positive r.trip ≡ b → (c : Bool) → is_known r.trip ≡ c → Holds end s (block (cond b (end_part n.symbols n.line round r ∷ []) (cond c [] conditional)) t)
        by true e c f = ended (subst (λ j. 1 ≤ j) top_is (positive_turns (length n.symbols) (iteration_at is) values r.trip e))
        by false e true f = without (sym top_is ∙ known_turns (length n.symbols) (iteration_at is) values r.trip f e) e
        by false e false f = where_turned e
