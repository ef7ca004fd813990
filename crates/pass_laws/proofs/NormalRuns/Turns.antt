-- The turns of a loop beside those of its loop from 1 by 1.
use Rattle.std.proofs.Common.{◌≡◌, refl, sym, ap, ◌∙◌, subst, ℕ, zero, suc, ◌+◌, ◌≤◌, ℤ, pos, ◌+ℤ◌, ◌-ℤ◌, ◌*ℤ◌, Bool}
use Rattle.std.proofs.Common.{true, List, [], ◌∷◌, ◌++◌, length, Ok, Some, None, arith}
use Rattle.std.proofs.lemmas.Int.{ints}
use Rattle.std.proofs.Math.IntN.{*ℤ-one, one, *ℤ-zero}
use Rattle.tree.specs.Operators.{as_number, fits}
use Rattle.tree.specs.Plain.{Expression, Number, Do, Block}
use Rattle.tree.specs.declared.ops.Value.{Value}
use Rattle.tree.specs.declared.ops.Value.TheVariants.{Int}
use Rattle.meaning.specs.Store.{Store, put, cell_at}
use Rattle.meaning.specs.Value.{exact, number_of, trip_count}
use Rattle.meaning.specs.Run.{State, Going, Act, does, does_all, repeated, turn}
use Rattle.rewrite.specs.Following.{sequential}
use Rattle.linear_forms.proofs.Ring.{spread_left}
use Rattle.nest_order.specs.runs.Guarded.{variable_cell}
use Rattle.nest_order.proofs.runs.Going.{moved, loops_at, turns_at, small_exact, trip_bounded}
use Rattle.nest_order.proofs.runs.Variables.{place_of, scalar_place}
use Rattle.nest.specs.Blocks.{numeral}
use Rattle.nest.specs.Plain.{Nest}
use Rattle.last_values.specs.declared.normal_forms.loops.NormalLoop.{NormalLoop}
use Rattle.pass_laws.proofs.ReadyNests.LoopForms.{HaveZeros}
use Rattle.pass_laws.specs.normal_runs.Sources.{IsNormalSource}
use Rattle.pass_laws.proofs.NormalRuns.Held.{kept}
use Rattle.pass_laws.proofs.NormalRuns.Moments.{Goes, moved_on, other_stores, Opens, opened}
use Rattle.pass_laws.proofs.NormalRuns.Numbers.{count_fits}
use Rattle.pass_laws.proofs.NormalRuns.Running.{LoopDone, TurnDone, turn_done, turns_from}
use Rattle.pass_laws.proofs.NormalRuns.Stores.{number_there, many, left}

-- the value of the variable in the i-th turn
abbrev pub value_in : ℤ → ℤ → ℕ → ℤ
value_in a step i = a +ℤ step *ℤ (pos i -ℤ pos 1)

pub first_value : (a step : ℤ) → value_in a step 1 ≡ a
first_value a step = ap (λ z. a +ℤ step *ℤ z) one ∙ (ap (λ z. a +ℤ z) (*ℤ-zero step) ∙ none a)
  where
    one : pos 1 -ℤ pos 1 ≡ pos 0
    one = omega (arith, ints)

    none : (a : ℤ) → a +ℤ pos 0 ≡ a
    none a = omega (arith, ints)

pub next_value : (a step : ℤ) (i : ℕ) → value_in a step i +ℤ step ≡ value_in a step (suc i)
unfolding one
next_value a step i =
    regroup a (step *ℤ (pos i -ℤ pos 1)) step (step *ℤ pos 1) (*ℤ-one step)
    ∙ ap (λ z. a +ℤ z) (sym (spread_left step (pos i -ℤ pos 1) (pos 1)) ∙ ap (λ z. step *ℤ z) (more i))
  where
    regroup : (a x d e : ℤ) → e ≡ d → (a +ℤ x) +ℤ d ≡ a +ℤ (x +ℤ e)
    regroup a x d e h = omega (arith, ints, h)

    more : (i : ℕ) → (pos i -ℤ pos 1) +ℤ pos 1 ≡ pos (suc i) -ℤ pos 1
    more i = omega (arith, ints)

pub behind_value : (a step : ℤ) (k : ℕ) → value_in a step (suc k) ≡ a +ℤ step *ℤ pos k
behind_value a step k = ap (λ z. a +ℤ step *ℤ z) (less k)
  where
    less : (k : ℕ) → pos (suc k) -ℤ pos 1 ≡ pos k
    less k = omega (arith, ints)

one_more : (i : ℕ) → pos i +ℤ pos 1 ≡ pos (suc i)
one_more i = omega (arith, ints)

number_is : (v : Value) (z k : ℤ) → v ≡ Int z → as_number v ≡ Ok k → k ≡ z
number_is v z k e h = let same : as_number (Int z) ≡ Ok k = subst (λ w. as_number w ≡ Ok k) e h in cc

module _ (bits : ℕ) (low : 31 ≤ bits) (high : bits ≤ 63) (n : Nest) (source : IsNormalSource n) (values : ℕ → ℤ) (start : Store)
    (apart : List ℕ → Bool) (round : List NormalLoop) (r : NormalLoop) (is : List ℕ) (zeros : HaveZeros (length round) round)
    (opens : Opens bits high n source values start apart round r is zeros) (line : ℕ) (a step : ℤ) (body beside : Block)
    (value : (i : ℕ) → number_there n.symbols values apart round r is i ≡ value_in a step i)
    (each : (i : ℕ) (s t : State) → Goes bits high n source values start apart (round ++ r ∷ []) (is ++ i ∷ []) s t → (does_all (sequential bits) None body s).way ≡ Going
    → Goes bits high n source values start apart (round ++ r ∷ []) (is ++ i ∷ []) (does_all (sequential bits) None body s) (does_all (sequential bits) None beside t)) where
  abbrev Outer : State → State → Type 0
  Outer = Goes bits high n source values start apart round is

  abbrev pub In : ℕ → State → State → Type 0
  In i = Goes bits high n source values start apart (round ++ r ∷ []) (is ++ i ∷ [])

  abbrev pub turn_of : Act
  turn_of = turn (sequential bits) None line r.variable step (does_all (sequential bits) None body)

  abbrev pub turn_beside : Act
  turn_beside = turn (sequential bits) None line r.counter (pos 1) (does_all (sequential bits) None beside)

  pub record Turned (i : ℕ) (s t : State) : Type 0 where
    pub goes : In i s t
    pub range : fits bits (value_in a step i) ≡ true

  -- behind the body
  increased : (i : ℕ) → suc i ≤ 2147483647 → length round ≡ length is → (s t u w : State) → In i u w → (d : TurnDone bits line r.variable step (does_all (sequential bits) None body) s (turn_of s))
      → does_all (sequential bits) None body (record s { steps = s.steps + 1 }) ≡ u → t.way ≡ Going → does_all (sequential bits) None beside (moved t (t.steps + 1) t.store) ≡ w
      → Turned (suc i) (turn_of s) (turn_beside t)
  increased i few long s t u w g d from way from_beside =
      let lf = left n.symbols values apart round r is i u.store w.store zeros long g.stores in
      let place = subst (λ (z : State). cell_at r.variable [] z.store ≡ Ok d.cell) from d.place in
      let cell : d.cell ≡ variable_cell r.variable = scalar_place (u.store.bounds r.variable) r.variable [] d.cell lf.bare place in
      let gives = subst (λ (z : State). as_number (z.store.held d.cell) ≡ Ok d.number) from d.gives in
      let number : d.number ≡ value_in a step i = number_is (u.store.held d.cell) (value_in a step i) d.number (ap u.store.held cell ∙ (lf.value ∙ ap Int (value i))) gives in
      let now : d.number +ℤ step ≡ value_in a step (suc i) = ap (λ z. z +ℤ step) number ∙ next_value a step i in
      let done : turn_of s ≡ record u { store = put d.cell (Int (d.number +ℤ step)) u.store } = d.is ∙ ap (λ (z : State). let q : State = record z { store = put d.cell (Int (d.number +ℤ step)) z.store } in q) from in
      let exactly : exact (pos i +ℤ pos 1) ≡ Ok (pos i +ℤ pos 1) = subst (λ z. exact z ≡ Ok z) (sym (one_more i)) (small_exact (suc i) few) in
      let range : fits bits (pos i +ℤ pos 1) ≡ true = subst (λ z. fits bits z ≡ true) (sym (one_more i)) (count_fits bits (suc i) low few) in
      let done_beside = turns_at (sequential bits) line r.counter (does_all (sequential bits) None beside) t (pos i) way w from_beside g.way_beside (place_of r.counter w.store lf.bare_counter) lf.count exactly range in
      let fit : fits bits (value_in a step (suc i)) ≡ true = subst (λ z. fits bits z ≡ true) now d.range in
      record {
        goes = opened bits high n source values start apart round r is zeros (suc i) (value_in a step (suc i)) u w (turn_of s) (turn_beside t) opens
            (other_stores bits high n source values start apart apart (round ++ r ∷ []) round (is ++ i ∷ []) is u w g lf.stores) lf.bare lf.bare_counter (sym (value (suc i))) fit (count_fits bits (suc i) low few)
            (ap (λ (z : State). z.way) done ∙ g.way)
            (ap (λ (z : State). z.store) done ∙ (ap (λ c. put c (Int (d.number +ℤ step)) u.store) cell ∙ ap (λ z. put (variable_cell r.variable) (Int z) u.store) now))
            (ap (λ (z : State). z.way) done_beside)
            (ap (λ (z : State). z.store) done_beside ∙ ap (λ z. put (variable_cell r.counter) (Int z) w.store) (one_more i));
        range = fit;
      }

  one_turn : (i : ℕ) → suc i ≤ 2147483647 → length round ≡ length is → (s t : State) → In i s t → (turn_of s).way ≡ Going → Turned (suc i) (turn_of s) (turn_beside t)
  one_turn i few long s t g go =
      let d = turn_done bits line r.variable step (does_all (sequential bits) None body) s go in
      let s1 : State = record s { steps = s.steps + 1 } in
      let t1 : State = moved t (t.steps + 1) t.store in
      let b = each i s1 t1 (moved_on bits high n source values start apart (round ++ r ∷ []) (is ++ i ∷ []) s t s1 t1 g.way refl refl refl g) d.within in
      increased i few long s t (does_all (sequential bits) None body s1) (does_all (sequential bits) None beside t1) b d refl g.way_beside refl

  pub all_turns : (k i : ℕ) → i + k ≤ 2147483647 → length round ≡ length is → (s t : State) → Turned i s t → (repeated k turn_of s).way ≡ Going → Turned (i + k) (repeated k turn_of s) (repeated k turn_beside t)
  all_turns zero i few long s t g go = subst (λ j. Turned j s t) (none i) g
    where
      none : (i : ℕ) → i ≡ i + 0
      none i = omega arith
  all_turns (suc k) i few long s t g go =
      subst (λ j. Turned j (repeated k turn_of (turn_of s)) (repeated k turn_beside (turn_beside t))) (more i k)
      (all_turns k (suc i) (omega (arith, few)) long (turn_of s) (turn_beside t)
      (one_turn i (omega (arith, few)) long s t g.goes (turns_from bits line r.variable step (does_all (sequential bits) None body) k (turn_of s) go)) go)
    where
      more : (i k : ℕ) → suc i + k ≡ i + suc k
      more i k = omega arith

  -- ---- the whole loop

  pub record Looped (k : ℕ) (s t p q : State) : Type 0 where
    pub turned : Turned (1 + k) p q
    -- where it has no turn
    pub none : k ≡ 0 → q.store.held (variable_cell r.variable) ≡ t.store.held (variable_cell r.variable)

  unturned : (k : ℕ) (t : State) → (r.counter ≡ r.variable → ⊥) → k ≡ 0
      → (repeated k turn_beside (moved t t.steps (put (variable_cell r.counter) (Int (pos 1)) t.store))).store.held (variable_cell r.variable) ≡ t.store.held (variable_cell r.variable)
  unturned zero t other e = kept (variable_cell r.counter) (variable_cell r.variable) (Int (pos 1)) t.store other
  unturned (suc k) t other e = let no : ⊥ = omega (arith, e) in absurd no

  pub looped : (first last trip : Expression) (top : ℤ) (s t : State) → Outer s t → (does (sequential bits) None (Do line r.variable first last (numeral step) body) s).way ≡ Going
      → (d : LoopDone bits line r.variable first last step body s (does (sequential bits) None (Do line r.variable first last (numeral step) body) s))
      → d.low ≡ a → number_of (sequential bits) trip t.store ≡ Ok top → trip_count (pos 1) top (pos 1) ≡ Ok d.turns → t.store.bounds r.counter ≡ Some [] → s.store.bounds r.variable ≡ Some [] → (r.counter ≡ r.variable → ⊥)
      → Looped d.turns s t (does (sequential bits) None (Do line r.variable first last (numeral step) body) s) (does (sequential bits) None (Do line r.counter (Number (pos 1)) trip (Number (pos 1)) beside) t)
  looped first last trip top s t g go d lows text counts bare_counter bare other =
      let cell : d.cell ≡ variable_cell r.variable = scalar_place (s.store.bounds r.variable) r.variable [] d.cell bare d.place in
      let few = trip_bounded top d.turns counts in
      let s1 : State = record s { store = put d.cell (Int d.low) s.store } in
      let t1 : State = moved t t.steps (put (variable_cell r.counter) (Int (pos 1)) t.store) in
      let done = loops_at (sequential bits) line r.counter trip beside t top d.turns g.way_beside text counts (place_of r.counter t.store bare_counter) (count_fits bits 1 low (omega arith)) in
      let begun : Turned 1 s1 t1 = record {
        goes = opened bits high n source values start apart round r is zeros 1 d.low s t s1 t1 opens g bare bare_counter (lows ∙ (sym (first_value a step) ∙ sym (value 1))) d.range (count_fits bits 1 low (omega arith))
            g.way (ap (λ c. put c (Int d.low) s.store) cell) refl refl;
        range = subst (λ z. fits bits z ≡ true) (lows ∙ sym (first_value a step)) d.range;
      } in
      let all = all_turns d.turns 1 (omega (arith, few)) (many n.symbols values apart round is s.store t.store g.stores) s1 t1 begun (subst (λ (z : State). z.way ≡ Going) d.is go) in
      record {
        turned = subst (λ (z : State). Turned (1 + d.turns) z (does (sequential bits) None (Do line r.counter (Number (pos 1)) trip (Number (pos 1)) beside) t)) (sym d.is)
            (subst (λ (z : State). Turned (1 + d.turns) (repeated d.turns turn_of s1) z) (sym done) all);
        none = λ e. ap (λ (z : State). z.store.held (variable_cell r.variable)) done ∙ unturned d.turns t other e;
      }
