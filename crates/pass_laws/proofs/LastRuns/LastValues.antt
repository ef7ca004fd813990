-- The last values of loop variables behind all loops are those that the nest's run leaves.
use mathlib.Core.Path.{ap₂}
use Rattle.std.proofs.Common.{◌≡◌, refl, sym, ap, ◌∙◌, subst, ◌⊎◌, inl, inr, ℕ, ◌≤◌, ℤ, Bool, true, false, ◌&&◌, ◌||◌}
use Rattle.std.proofs.Common.{List, [], ◌∷◌, ◌++◌, map, length, None}
use Rattle.std.specs.List.{flat_map, list_all}
use Rattle.std.specs.Str.{bytes_eq}
use Rattle.std.proofs.lemmas.Slice.Eq.{bytes_eq-Decides}
use Rattle.tree.specs.Plain.{block}
use Rattle.meaning.specs.Run.{State, Going, does, does_all}
use Rattle.meaning.specs.Store.{Store, Cell}
use Rattle.rewrite.proofs.Replacing.{bytes_eq-false, either_false}
use Rattle.pass_laws.specs.last_runs.Laws.{AreSameButCounters, LacksLastValues, LastValuesBehind}
use Rattle.last_values.specs.Behind.{may_end_behind, stands_behind}
use Rattle.last_values.specs.ValuesBehind.{left_behind, values_behind}
use Rattle.last_values.specs.Occurrences.{occurs_only_within}
use Rattle.last_values.specs.declared.behind.NestedLoop.{NestedLoop}
use Rattle.linear_forms.specs.Laws.{AreSized, HoldsSized}
use Rattle.linear_forms.specs.Linear.{HaveValues}
use Rattle.linear_forms.proofs.Sizes.{both}
use Rattle.nest_order.specs.orders.Lists.{Each}
use Rattle.nest_order.specs.runs.Guarded.{sequential, variable_cell}
use Rattle.nest_order.proofs.runs.Results.{true_false}
use Rattle.nest.specs.Blocks.{statement_of_part}
use Rattle.nest.specs.Plain.{Nest}
use Rattle.last_values.specs.normal_forms.Numbers.{values_from}
use Rattle.pass_laws.specs.normal_runs.Sources.{HasOwnVariable, IsNormalSource, counters_in, ends_behind}
use Rattle.pass_laws.specs.normal_runs.Sources.{loops_in, variables_in}
use Rattle.nest.specs.statement_loops.Names.{is_among}
use Rattle.pass_laws.proofs.LastRuns.Behind as behind
use Rattle.pass_laws.proofs.LastRuns.Behind.{Begins, Fits, among_first, among_later, each_fits, none_behind, run_behind}
use Rattle.pass_laws.proofs.LastRuns.LeftNames.{all_outside, kept_in}
use Rattle.pass_laws.proofs.LastRuns.Listed.{HasRun, last_of, listed, plain_listed, run_listed}
use Rattle.pass_laws.proofs.LastRuns.Made.{IsOwn, each_front, each_of_all, each_rest, piece_of}
use Rattle.pass_laws.proofs.LastRuns.Pieces.{Piece, none_yet, value_or}
use Rattle.pass_laws.proofs.LastRuns.Sources.{element, run_piece}
use Rattle.pass_laws.proofs.LastRuns.Stores.{IsSetting, There}

-- ---- lists

abbrev variables : List NestedLoop → List (List ℕ)
variables ms = map (λ (m : NestedLoop). m.turns.variable) ms

-- what holds of each name of a list
among_each : (P : List ℕ → Type 0) (ys : List (List ℕ)) (x : List ℕ) → is_among ys x ≡ true → Each P ys → P x
among_each P [] x h k = absurd (true_false (sym h))
among_each P (y ∷ ys) x h k = by (bytes_eq y x) refl h (λ g. among_each P ys x g k.1)
  where
    by : (b : Bool) → bytes_eq y x ≡ b → (b || is_among ys x) ≡ true → (is_among ys x ≡ true → P x) → P x
    by true e g more = subst P ((bytes_eq-Decides y x).0 e) k.0
    by false e g more = more g

not_among : (ys : List (List ℕ)) (x : List ℕ) → (is_among ys x ≡ true → ⊥) → is_among ys x ≡ false
not_among ys x h = by (is_among ys x) refl
  where
    by : (b : Bool) → is_among ys x ≡ b → b ≡ false
    by true e = absurd (h e)
    by false e = refl

-- a variable that stands behind, if there is any
first_behind : (stands : List ℕ → Bool) (ms : List NestedLoop) → ((x : List ℕ) × (is_among (variables ms) x ≡ true) × (stands x ≡ true)) ⊎ Each (λ (m : NestedLoop). stands m.turns.variable ≡ false) ms
first_behind stands [] = inr tt
first_behind stands (m ∷ ms) = by (stands m.turns.variable) refl (first_behind stands ms)
  where
    by : (b : Bool) → stands m.turns.variable ≡ b → ((x : List ℕ) × (is_among (variables ms) x ≡ true) × (stands x ≡ true)) ⊎ Each (λ (m : NestedLoop). stands m.turns.variable ≡ false) ms
        → ((x : List ℕ) × (is_among (variables (m ∷ ms)) x ≡ true) × (stands x ≡ true)) ⊎ Each (λ (m : NestedLoop). stands m.turns.variable ≡ false) (m ∷ ms)
    by true e h = inl (m.turns.variable, among_first m.turns.variable (variables ms), e)
    by false e (inl p) = inl (p.0, among_later m.turns.variable p.0 (variables ms) p.1, p.2)
    by false e (inr h) = inr (e, h)

apart_each : (stands : List ℕ → Bool) (ms : List NestedLoop) (x : List ℕ) → ((y : List ℕ) → is_among (variables ms) y ≡ true → stands y ≡ true → bytes_eq y x ≡ false)
    → Each (λ (m : NestedLoop). stands m.turns.variable ≡ true → bytes_eq m.turns.variable x ≡ false) ms
apart_each stands [] x h = tt
apart_each stands (m ∷ ms) x h = (
  h m.turns.variable (among_first m.turns.variable (variables ms)),
  apart_each stands ms x (λ y i. h y (among_later m.turns.variable y (variables ms) i)),
)

sized_known : (names : List (List ℕ)) (xs : List ℤ) (s : Store) → HoldsSized s → HaveValues names s xs → AreSized xs
sized_known [] [] s h k = tt
sized_known [] (x ∷ xs) s h k = absurd k
sized_known (y ∷ names) [] s h k = absurd k
sized_known (y ∷ names) (x ∷ xs) s h k = (h (variable_cell y) x k.1, sized_known names xs s h k.2)

kept_known : (names : List (List ℕ)) (xs : List ℤ) (s u : Store) → ((y : List ℕ) → is_among names y ≡ true → (u.bounds y ≡ s.bounds y) × (u.held (variable_cell y) ≡ s.held (variable_cell y))) → HaveValues names s xs → HaveValues names u xs
kept_known [] [] s u h k = tt
kept_known [] (x ∷ xs) s u h k = absurd k
kept_known (y ∷ names) [] s u h k = absurd k
kept_known (y ∷ names) (x ∷ xs) s u h k =
    let p = h y (among_first y names) in
    (p.0 ∙ k.0, p.1 ∙ k.1, kept_known names xs s u (λ z g. h z (among_later y z names g)) k.2)

-- ---- a nest

module _ (n : Nest) where
  each_own : (ms : List NestedLoop) → Each HasOwnVariable ms → Each (λ y. is_among n.symbols y ≡ false) (map (λ (m : NestedLoop). m.turns.variable) ms) → Each (IsOwn n.symbols) ms
  each_own [] own apart = tt
  each_own (m ∷ ms) own apart = (record { own = own.0; apart = apart.0 }, each_own ms own.1 apart.1)

  module _ (normal : IsNormalSource n) where
    apart_names : Each (λ y. is_among n.symbols y ≡ false) (variables_in n ++ counters_in n)
    apart_names = each_of_all (λ y. is_among n.symbols y ≡ false) (variables_in n ++ counters_in n) normal.apart

    apart_variables : Each (λ y. is_among n.symbols y ≡ false) (variables_in n)
    apart_variables = each_front (λ y. is_among n.symbols y ≡ false) (variables_in n) (counters_in n) apart_names

    apart_counters : Each (λ y. is_among n.symbols y ≡ false) (counters_in n)
    apart_counters = each_rest (λ y. is_among n.symbols y ≡ false) (variables_in n) (counters_in n) apart_names

    pieces : Piece n.symbols (kept_in n) [] n.body
    pieces = piece_of n.symbols (kept_in n) [] [] n.body refl normal.normal normal.straight (all_outside n normal)
        (each_own (loops_in n) (each_of_all HasOwnVariable (loops_in n) normal.own) apart_variables)

    -- no counter is a loop variable, and no symbol is either
    not_counter : (y : List ℕ) → is_among (variables_in n) y ≡ true → is_among (counters_in n) y ≡ false
    not_counter y g = not_among (counters_in n) y
        (λ c. true_false (sym g ∙ among_each (λ x. is_among (variables_in n) x ≡ false) (counters_in n) y c (each_of_all (λ x. is_among (variables_in n) x ≡ false) (counters_in n) normal.counters)))

    symbol_apart : (y : List ℕ) → is_among n.symbols y ≡ true → (is_among (variables_in n) y ≡ false) × (is_among (counters_in n) y ≡ false)
    symbol_apart y g = (
      not_among (variables_in n) y (λ c. true_false (sym g ∙ among_each (λ x. is_among n.symbols x ≡ false) (variables_in n) y c apart_variables)),
      not_among (counters_in n) y (λ c. true_false (sym g ∙ among_each (λ x. is_among n.symbols x ≡ false) (counters_in n) y c apart_counters)),
    )

  stands_all : (v : List ℕ) → stands_behind (length n.symbols) (loops_in n) n.body v ≡ true → list_all (may_end_behind (length n.symbols) v) (loops_in n) ≡ true
  unfolding stands_behind
  stands_all v h = (both (occurs_only_within v n.body) (list_all (may_end_behind (length n.symbols) v) (loops_in n)) h).1

module _ (bits : ℕ) (n : Nest) (values : ℕ → ℤ) (s u : State) (high : bits ≤ 63) (normal : IsNormalSource n) (going : u.way ≡ Going) (holds : HoldsSized s.store)
    (known : HaveValues n.symbols s.store (values_from (length n.symbols) 0 values)) (go : (does (sequential bits) None (statement_of_part n.line n.body) s).way ≡ Going)
    (lacks : LacksLastValues n s.store (does (sequential bits) None (statement_of_part n.line n.body) s).store u.store) where
  abbrev K : List ℕ → Bool
  K = kept_in n

  abbrev S : List ℕ → Bool
  S y = stands_behind (length n.symbols) (loops_in n) n.body y

  abbrev C : List ℕ → Bool
  C y = is_among (counters_in n) y

  abbrev t : State
  t = does (sequential bits) None (statement_of_part n.line n.body) s

  sized : AreSized (values_from (length n.symbols) 0 values)
  sized = sized_known n.symbols (values_from (length n.symbols) 0 values) s.store holds known

  -- the source's run, looked at for one variable
  record Ended (x : List ℕ) : Type 0 where
    bounds : (y : List ℕ) → (does (sequential bits) None (statement_of_part n.line n.body) s).store.bounds y ≡ s.store.bounds y
    known_then : HaveValues n.symbols (does (sequential bits) None (statement_of_part n.line n.body) s).store (values_from (length n.symbols) 0 values)
    value : (does (sequential bits) None (statement_of_part n.line n.body) s).store.held (variable_cell x) ≡ value_or (last_of (length n.symbols) values x (loops_in n)) (s.store.held (variable_cell x))
    elements : (j : ℤ) (js : List ℤ) → (does (sequential bits) None (statement_of_part n.line n.body) s).store.held (element x j js) ≡ s.store.held (element x j js)
    runs : Each (HasRun n.symbols K values bits s.store.bounds) (loops_in n)

  ended : (x : List ℕ) → is_among (variables_in n) x ≡ true → stands_behind (length n.symbols) (loops_in n) n.body x ≡ true → Ended x
  ended x i stands =
      let setting : IsSetting n.symbols values s.store.bounds [] none_yet = record { fixed = λ its a. refl; sized = tt } in
      let there : There n.symbols values s.store.bounds [] none_yet s.store = record { here = tt; known = known; bounds_are = λ y. refl } in
      let d = run_piece bits n.line high n.symbols K values s.store.bounds (λ y h. (either_false (ends_behind n y) (is_among n.symbols y) h).1) sized x (ap (λ b. b || is_among n.symbols x) (ap₂ (λ a b. a && b) i stands))
      (pieces n normal) (plain_listed n.symbols K values x (pieces n normal) (stands_all n x stands)) none_yet setting s there go in
      record {
        bounds = d.there.bounds_are;
        known_then = d.there.known;
        value = d.value ∙ ap (λ o. value_or o (s.store.held (variable_cell x))) (sym (listed n.symbols K values x (pieces n normal)));
        elements = d.elements;
        runs = run_listed n.symbols K values bits s.store.bounds (pieces n normal) tt (λ h. (d.ran, tt));
      }

  abbrev after_loops : State
  after_loops = does_all (sequential bits) None (block (flat_map (left_behind n.symbols n.line (loops_in n) n.body) (loops_in n))) u

  abbrev Same : Type 0
  Same = (after_loops.way ≡ Going) × AreSameButCounters n t.store after_loops.store

  -- where some variable stands behind
  some_stand : (x : List ℕ) → is_among (variables_in n) x ≡ true → stands_behind (length n.symbols) (loops_in n) n.body x ≡ true
      → ((does_all (sequential bits) None (block (flat_map (left_behind n.symbols n.line (loops_in n) n.body) (loops_in n))) u).way ≡ Going)
      × AreSameButCounters n (does (sequential bits) None (statement_of_part n.line n.body) s).store (does_all (sequential bits) None (block (flat_map (left_behind n.symbols n.line (loops_in n) n.body) (loops_in n))) u).store
  some_stand x i stands = ((b x).way, record { bounds = λ y h. (b x).bounds_stay y ∙ lacks.bounds y h; held = λ c h. by c h (ends_behind n c.name) refl })
    where
      d : Ended x
      d = ended x i stands

      fits : Each (Fits bits n.line n.symbols K values s.store.bounds sized S C) (loops_in n)
      fits = each_fits bits n.line n.symbols K values s.store.bounds sized S C (loops_in n) (ended x i stands).runs (apart_variables n normal) (λ y h. not_counter n normal y h) (λ v h. stands_all n v h)

      begins : Begins bits n.line n.symbols K values s.store.bounds sized S C u
      begins = record {
        way = going;
        bounds_are = λ y h. lacks.bounds y h ∙ (ended x i stands).bounds y;
        known = kept_known n.symbols (values_from (length n.symbols) 0 values) t.store u.store
            (λ y g. (let a = symbol_apart n normal y g in (lacks.bounds y a.1, lacks.held (variable_cell y) a.1 (ap (λ b. b && S y) a.0)))) (ended x i stands).known_then;
      }

      b : (y : List ℕ) → behind.Done bits n.line n.symbols K values s.store.bounds sized S C (loops_in n) y u after_loops
      b y = run_behind bits n.line n.symbols K values s.store.bounds sized S C (loops_in n) fits y u begins

      of_behind : (y : List ℕ) (js : List ℤ) → is_among (variables_in n) y ≡ true → S y ≡ true → ends_behind n y ≡ true → after_loops.store.held (record { name = y; subscripts = js }) ≡ t.store.held (record { name = y; subscripts = js })
      of_behind y [] k g e =
          (b y).value g ∙ (ap (value_or (last_of (length n.symbols) values y (loops_in n))) (lacks.before (variable_cell y) e) ∙ sym (ended y k g).value)
      of_behind y (j ∷ js) k g e = (b y).elements y j js ∙ (lacks.before (element y j js) e ∙ sym ((ended y k g).elements j js))

      by : (c : Cell) → C c.name ≡ false → (e : Bool) → ends_behind n c.name ≡ e → after_loops.store.held c ≡ t.store.held c
      by c h true e = let p = both (is_among (variables_in n) c.name) (S c.name) e in of_behind c.name c.subscripts p.0 p.1 e
      by c h false e =
          (b x).others c (apart_each S (loops_in n) c.name (λ y k g. bytes_eq-false y c.name (λ q. true_false (sym (ap₂ (λ a b. a && b) k g) ∙ (ap (λ z. ends_behind n z) q ∙ e)))))
          ∙ lacks.held c h e

  -- where none does
  none_stand : Each (λ (m : NestedLoop). stands_behind (length n.symbols) (loops_in n) n.body m.turns.variable ≡ false) (loops_in n)
      → ((does_all (sequential bits) None (block (flat_map (left_behind n.symbols n.line (loops_in n) n.body) (loops_in n))) u).way ≡ Going)
      × AreSameButCounters n (does (sequential bits) None (statement_of_part n.line n.body) s).store (does_all (sequential bits) None (block (flat_map (left_behind n.symbols n.line (loops_in n) n.body) (loops_in n))) u).store
  none_stand h =
      subst (λ (v : State). (v.way ≡ Going) × AreSameButCounters n t.store v.store) (sym (none_behind bits n.line n.symbols K values s.store.bounds sized S C (loops_in n) h u))
      (going, record { bounds = lacks.bounds; held = λ c g. lacks.held c g (none (loops_in n) c.name h) })
    where
      none : (ms : List NestedLoop) (y : List ℕ) → Each (λ (m : NestedLoop). S m.turns.variable ≡ false) ms → (is_among (variables ms) y && S y) ≡ false
      none [] y h = refl
      none (m ∷ ms) y h = either (bytes_eq m.turns.variable y) refl (none ms y h.1)
        where
          either : (b : Bool) → bytes_eq m.turns.variable y ≡ b → (is_among (variables ms) y && S y) ≡ false → ((b || is_among (variables ms) y) && S y) ≡ false
          either true e k = ap S (sym ((bytes_eq-Decides m.turns.variable y).0 e)) ∙ h.0
          either false e k = k

  pub last_values : ((does_all (sequential bits) None (values_behind n.symbols n.line (loops_in n) n.body) u).way ≡ Going)
      × AreSameButCounters n (does (sequential bits) None (statement_of_part n.line n.body) s).store (does_all (sequential bits) None (values_behind n.symbols n.line (loops_in n) n.body) u).store
  unfolding values_behind
  last_values = by (first_behind S (loops_in n))
    where
      by : ((x : List ℕ) × (is_among (variables (loops_in n)) x ≡ true) × (S x ≡ true)) ⊎ Each (λ (m : NestedLoop). S m.turns.variable ≡ false) (loops_in n) → Same
      by (inl p) = some_stand p.0 p.1 p.2
      by (inr h) = none_stand h

pub last_values_behind : LastValuesBehind
last_values_behind bits n values s u low high normal way going holds known go lacks = last_values bits n values s u high normal going holds known go lacks
