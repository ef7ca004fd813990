-- The run of a straight part of a nest: what a loop variable is after it.
use mathlib.Core.Path.{ap₂}
use Rattle.std.proofs.Common.{◌≡◌, refl, sym, ap, ◌∙◌, subst, ℕ, zero, suc, ◌+◌, ◌≤◌, ℤ, pos, ◌+ℤ◌, ◌-ℤ◌, ◌*ℤ◌, Bool}
use Rattle.std.proofs.Common.{true, false, cond, ◌&&◌, List, [], ◌∷◌, ◌++◌, length, Result, Ok, Option, Some, None}
use Rattle.std.proofs.Common.{arith}
use Rattle.std.specs.Prelude.{int_div, nat_abs}
use Rattle.std.specs.Str.{bytes_eq}
use Rattle.std.proofs.lemmas.Slice.Eq.{bytes_eq-Decides}
use Rattle.tree.specs.Plain.{Expression}
use Rattle.tree.specs.declared.ops.Value.{Value}
use Rattle.tree.specs.declared.ops.Value.TheVariants.{Int}
use Rattle.tree.specs.declared.ops.Fault.{Fault}
use Rattle.meaning.specs.Run.{State, Going, Act, does, does_all, repeated, turn}
use Rattle.meaning.specs.Store.{Store, Cell, cell_at, put}
use Rattle.meaning.specs.Value.{is_in_range, number_of, numbered, subscript_values}
use Rattle.rewrite.proofs.Replacing.{bytes_eq-false}
use Rattle.linear_forms.specs.Laws.{AreSized}
use Rattle.linear_forms.proofs.Faultless.{linear_has_value}
use Rattle.nest_order.specs.runs.Guarded.{sequential, variable_cell}
use Rattle.nest_order.proofs.runs.Ending.{assigned}
use Rattle.nest_order.proofs.runs.Results.{both_ok, true_false}
use Rattle.nest_order.proofs.runs.Runs.{number_is}
use Rattle.nest_order.proofs.runs.Variables.{cell_name, put_there, scalar_place}
use Rattle.nest.specs.Blocks.{block_of_parts, statement_of_part, under_guard, assignment_of}
use Rattle.nest.specs.Plain.{Guarded, Loop, Part, Parts}
use Rattle.last_values.specs.normal_forms.Numbers.{values_from}
use Rattle.last_values.specs.normal_forms.NormalLoops.{sign_of, variables_of}
use Rattle.last_values.specs.declared.normal_forms.loops.NormalLoop.{NormalLoop}
use Rattle.nest.specs.statement_loops.Names.{is_among}
use Rattle.pass_laws.proofs.LastRuns.Loops.{looped, trip_counts, turned, turns_from}
use Rattle.pass_laws.proofs.LastRuns.Pieces.{Piece, Pieces, assignment, turning, none, next, IsLoop, IsRun, Ran, RanAll, after}
use Rattle.pass_laws.proofs.LastRuns.Pieces.{after_all, count, end, has_turn, if_so, in_last, or_before, set_by, top, value_or}
use Rattle.pass_laws.proofs.LastRuns.Pieces.{ArePlainFor, IsPlainFor, alike_all_set, among_last, longer, unset_all}
use Rattle.pass_laws.proofs.LastRuns.Stores.{There, IsSetting, both_sized, have_both, loop_numbers, lower, numbers}
use Rattle.pass_laws.proofs.LastRuns.Stores.{put_elsewhere, range_size, scalar_bounds, setting_more, there_less, there_more}
use Rattle.pass_laws.proofs.LastRuns.Stores.{there_put, turn_of, upper, value_at, value_begins, value_behind, value_grows}

-- what is set over again
over_again : (o p : Option ℤ) (v : Value) → (o ≡ None → p ≡ None) → value_or o (value_or p v) ≡ value_or o v
over_again (Some z) p v h = refl
over_again None p v h = ap (λ q. value_or q v) (h refl)

pub one_after : (o p : Option ℤ) (v : Value) → value_or o (value_or p v) ≡ value_or (or_before o p) v
one_after (Some z) p v = refl
one_after None p v = refl

abbrev pub element : List ℕ → ℤ → List ℤ → Cell
element x j js = record { name = x; subscripts = j ∷ js }

pub put_scalar : (v x : List ℕ) (j : ℤ) (js : List ℤ) (z : Value) (s : Store) → (put (variable_cell v) z s).held (element x j js) ≡ s.held (element x j js)
put_scalar v x j js z s = by (bytes_eq v x)
  where
    by : (b : Bool) → cond (b && false) z (s.held (element x j js)) ≡ s.held (element x j js)
    by true = refl
    by false = refl

module _ (bits line : ℕ) (high : bits ≤ 63) (symbols : List (List ℕ)) (keeps : List ℕ → Bool) (values : ℕ → ℤ) (bounds : List ℕ → Option (List (ℤ × ℤ)))
    (outside_symbols : (y : List ℕ) → keeps y ≡ false → is_among symbols y ≡ false) (sized : AreSized (values_from (length symbols) 0 values))
    (x : List ℕ) (x_kept : keeps x ≡ true) where
  abbrev n : ℕ
  n = length symbols

  abbrev Here : List NormalLoop → (ℕ → ℤ) → Store → Type 0
  Here round at s = There symbols values bounds round at s

  -- after what is done; o is what the variable x is set to
  pub record Done (round : List NormalLoop) (at : ℕ → ℤ) (o : Option ℤ) (R : Type 0) (s t : Store) : Type 0 where
    pub there : There symbols values bounds round at t
    pub value : t.held (variable_cell x) ≡ value_or o (s.held (variable_cell x))
    pub elements : (j : ℤ) (js : List ℤ) → t.held (element x j js) ≡ s.held (element x j js)
    pub ran : R

  -- ---- where a run goes on at the end, it did at the beginning

  mutual
    from_piece : {round : List NormalLoop} {p : Part} → Piece symbols keeps round p → (s : State) → (does (sequential bits) None (statement_of_part line p) s).way ≡ Going → s.way ≡ Going
    from_piece (assignment {round} {g} u f free) s go =
        (assigned bits g.line None g.left g.right s (subst (λ o. (does (sequential bits) None (under_guard g.line o (assignment_of g)) s).way ≡ Going) u go)).from
    from_piece (turning {round} {l} {ps} r h more) s go = (looped bits line l.variable l.first l.last l.step (block_of_parts line ps) s go).from

    from_all : {round : List NormalLoop} {ps : Parts} → Pieces symbols keeps round ps → (s : State) → (does_all (sequential bits) None (block_of_parts line ps) s).way ≡ Going → s.way ≡ Going
    from_all none s go = go
    from_all (next {round} {p} e more) s go = from_piece e s (from_all more (does (sequential bits) None (statement_of_part line p) s) go)

  -- ---- an assignment

  statement_done : (round : List NormalLoop) (at : ℕ → ℤ) (g : Guarded) → keeps g.left.name ≡ false → is_among (variables_of round) g.left.name ≡ false → (s : State) → Here round at s.store
      → (does (sequential bits) None (assignment_of g) s).way ≡ Going → Done round at None (Unit {0}) s.store (does (sequential bits) None (assignment_of g) s).store
  statement_done round at g f free s t go =
      let a = assigned bits g.line None g.left g.right s go in
      let c = both_ok (subscript_values (sequential bits) g.left.subscripts s.store) (λ is. cell_at g.left.name is s.store) a.cell a.place in
      let named : a.cell.name ≡ g.left.name = (cell_name (s.store.bounds g.left.name) g.left.name c.0 a.cell c.2).0 in
      let unkept : keeps a.cell.name ≡ false = ap keeps named ∙ f in
      let apart : bytes_eq a.cell.name x ≡ false = bytes_eq-false a.cell.name x (λ e. true_false (sym x_kept ∙ (ap keeps (sym e) ∙ unkept))) in
      subst (Done round at None (Unit {0}) s.store) (sym a.store) (record {
        there = there_put symbols values bounds round at a.cell a.value s.store (ap (is_among (variables_of round)) named ∙ free) (outside_symbols a.cell.name unkept) t;
        value = put_elsewhere a.cell (variable_cell x) a.value s.store apart;
        elements = λ j js. put_elsewhere a.cell (element x j js) a.value s.store apart;
        ran = tt;
      })

  -- ---- a loop

  module _ (round : List NormalLoop) (l : Loop) (r : NormalLoop) (h : IsLoop symbols round l r) (at : ℕ → ℤ) (setting : IsSetting symbols values bounds round at)
      (scalar : bounds l.variable ≡ Some []) (body : Act) (o : (ℕ → ℤ) → Option ℤ) (R : (ℕ → ℤ) → Type 0)
      (each : (i : ℕ) → IsSetting symbols values bounds (round ++ r ∷ []) (turn_of symbols values bounds (length round) at i)
      → (s : State) → There symbols values bounds (round ++ r ∷ []) (turn_of symbols values bounds (length round) at i) s.store → (body s).way ≡ Going
      → Done (round ++ r ∷ []) (turn_of symbols values bounds (length round) at i) (o (turn_of symbols values bounds (length round) at i)) (R (turn_of symbols values bounds (length round) at i)) s.store (body s).store)
      (alike : (i j : ℕ) → o (turn_of symbols values bounds (length round) at j) ≡ None → o (turn_of symbols values bounds (length round) at i) ≡ None) where
    abbrev in_turn : ℕ → ℕ → ℤ
    in_turn i = turn_of symbols values bounds (length round) at i

    abbrev first : ℤ
    first = lower symbols values bounds round l r h at setting

    abbrev V : ℕ → ℤ
    V i = value_at symbols values bounds round l r h at setting i

    abbrev one : Act
    one = turn (sequential bits) None line l.variable l.step body

    -- turns up to the turn m
    pub record TurnsDone (m : ℕ) (s t : Store) : Type 0 where
      pub there : There symbols values bounds round at t
      pub variable : t.held (variable_cell l.variable) ≡ Int (value_at symbols values bounds round l r h at setting (suc m))
      pub range : is_in_range bits (Int (value_at symbols values bounds round l r h at setting (suc m))) ≡ true
      pub value : bytes_eq l.variable x ≡ false → t.held (variable_cell x) ≡ value_or (o (turn_of symbols values bounds (length round) at m)) (s.held (variable_cell x))
      pub elements : (j : ℤ) (js : List ℤ) → t.held (element x j js) ≡ s.held (element x j js)
      pub ran : R (turn_of symbols values bounds (length round) at m)

    one_turn : (i : ℕ) (s : State) → Here round at s.store → s.store.held (variable_cell l.variable) ≡ Int (V i) → is_in_range bits (Int (V i)) ≡ true → (one s).way ≡ Going → TurnsDone i s.store (one s).store
    one_turn i s t v range go =
        let a = turned bits line l.variable l.step body s go in
        let s1 : State = record s { steps = s.steps + 1 } in
        let inner = setting_more symbols values bounds round l r h at setting i (range_size bits high (V i) range) in
        let d = each i inner s1 (there_more symbols values bounds round l r h at setting i s.store t (t.bounds_are l.variable ∙ scalar) v) a.within in
        let back = there_less symbols values bounds round l r h at setting i (body s1).store d.there in
        let p : a.cell ≡ variable_cell l.variable = scalar_place ((body s1).store.bounds l.variable) l.variable [] a.cell (back.0.bounds_are l.variable ∙ scalar) a.place in
        let m : a.number ≡ V i = number_is ((body s1).store.held a.cell) (V i) a.number (ap ((body s1).store.held) p ∙ back.1) a.gives in
        let grown : a.number +ℤ l.step ≡ V (suc i) = ap (λ z. z +ℤ l.step) m ∙ value_grows symbols values bounds round l r h at setting i in
        let is : (one s).store ≡ put (variable_cell l.variable) (Int (V (suc i))) (body s1).store
        = ap (λ (z : State). z.store) a.is ∙ ap₂ (λ c z. put c (Int z) (body s1).store) p grown in
        subst (TurnsDone i s.store) (sym is) (record {
          there = there_put symbols values bounds round at (variable_cell l.variable) (Int (V (suc i))) (body s1).store h.own h.apart back.0;
          variable = put_there (variable_cell l.variable) (Int (V (suc i))) (body s1).store;
          range = ap (λ z. is_in_range bits (Int z)) (sym grown) ∙ a.range;
          value = λ e. put_elsewhere (variable_cell l.variable) (variable_cell x) (Int (V (suc i))) (body s1).store e ∙ d.value;
          elements = λ j js. put_scalar l.variable x j js (Int (V (suc i))) (body s1).store ∙ d.elements j js;
          ran = d.ran;
        })

    more_turns : (j i m : ℕ) → m ≡ i + j → (s : State) → Here round at s.store → s.store.held (variable_cell l.variable) ≡ Int (V i) → is_in_range bits (Int (V i)) ≡ true
        → (repeated (suc j) one s).way ≡ Going → TurnsDone m s.store (repeated (suc j) one s).store
    more_turns zero i m e s t v range go =
        let same : i ≡ m = omega (arith, e) in subst (λ m. TurnsDone m s.store (one s).store) same (one_turn i s t v range go)
    more_turns (suc j) i m e s t v range go =
        let a = one_turn i s t v range (turns_from bits line (suc j) l.variable l.step body (one s) go) in
        let b = more_turns j (suc i) m (omega (arith, e)) (one s) a.there a.variable a.range go in
        record {
          there = b.there;
          variable = b.variable;
          range = b.range;
          value = λ q. b.value q ∙ (ap (value_or (o (in_turn m))) (a.value q) ∙ over_again (o (in_turn m)) (o (in_turn i)) (s.store.held (variable_cell x)) (alike i m));
          elements = λ p ps. b.elements p ps ∙ a.elements p ps;
          ran = b.ran;
        }

    -- k turns
    pub record LoopDone (k : ℕ) (s t : Store) : Type 0 where
      pub there : There symbols values bounds round at t
      pub range : is_in_range bits (Int (value_at symbols values bounds round l r h at setting (suc k))) ≡ true
      pub value : t.held (variable_cell x) ≡ value_or (or_before (if_so (has_turn k) (o (turn_of symbols values bounds (length round) at k))) (cond (bytes_eq l.variable x) (Some (value_at symbols values bounds round l r h at setting (suc k))) None)) (s.held (variable_cell x))
      pub elements : (j : ℤ) (js : List ℤ) → t.held (element x j js) ≡ s.held (element x j js)
      pub ran : has_turn k ≡ true → R (turn_of symbols values bounds (length round) at k)

    module _ (own : bytes_eq l.variable x ≡ true → (its : ℕ → ℤ) → o its ≡ None) where
      -- by whether the loop's variable is x
      value_of_x : (p : Option ℤ) (z : ℤ) (v w : Value) (b : Bool) → bytes_eq l.variable x ≡ b → (b ≡ true → p ≡ None) → (b ≡ true → w ≡ Int z) → (b ≡ false → w ≡ value_or p v)
          → w ≡ value_or (or_before p (cond b (Some z) None)) v
      value_of_x p z v w true e h k g = k refl ∙ ap (λ q. value_or (or_before q (Some z)) v) (sym (h refl))
      value_of_x (Some y) z v w false e h k g = g refl
      value_of_x None z v w false e h k g = g refl

      is_x : (t : Store) (z : ℤ) → bytes_eq l.variable x ≡ true → t.held (variable_cell l.variable) ≡ Int z → t.held (variable_cell x) ≡ Int z
      is_x t z e v = ap (λ y. t.held (variable_cell y)) (sym ((bytes_eq-Decides l.variable x).0 e)) ∙ v

      pub all_turns : (k : ℕ) (s : State) (s0 : Store) → s.store ≡ put (variable_cell l.variable) (Int first) s0 → Here round at s.store → is_in_range bits (Int first) ≡ true
          → (repeated k one s).way ≡ Going → LoopDone k s0 (repeated k one s).store
      all_turns zero s s0 is t range go =
          let begins = value_begins symbols values bounds round l r h at setting in
          let v : s.store.held (variable_cell l.variable) ≡ Int (V 1) = ap (λ (u : Store). u.held (variable_cell l.variable)) is ∙ (put_there (variable_cell l.variable) (Int first) s0 ∙ ap Int (sym begins)) in
          record {
            there = t;
            range = ap (λ z. is_in_range bits (Int z)) begins ∙ range;
            value = value_of_x None (V 1) (s0.held (variable_cell x)) (s.store.held (variable_cell x)) (bytes_eq l.variable x) refl
                (λ e. refl) (λ e. is_x s.store (V 1) e v) (λ e. ap (λ (u : Store). u.held (variable_cell x)) is ∙ put_elsewhere (variable_cell l.variable) (variable_cell x) (Int first) s0 e);
            elements = λ p ps. ap (λ (u : Store). u.held (element x p ps)) is ∙ put_scalar l.variable x p ps (Int first) s0;
            ran = λ e. absurd (true_false (sym e));
          }
      all_turns (suc j) s s0 is t range go =
          let begins = value_begins symbols values bounds round l r h at setting in
          let v : s.store.held (variable_cell l.variable) ≡ Int (V 1) = ap (λ (u : Store). u.held (variable_cell l.variable)) is ∙ (put_there (variable_cell l.variable) (Int first) s0 ∙ ap Int (sym begins)) in
          let d = more_turns j 1 (suc j) (omega arith) s t v (ap (λ z. is_in_range bits (Int z)) begins ∙ range) go in
          record {
            there = d.there;
            range = d.range;
            value = value_of_x (o (in_turn (suc j))) (V (suc (suc j))) (s0.held (variable_cell x)) ((repeated (suc j) one s).store.held (variable_cell x)) (bytes_eq l.variable x) refl
                (λ e. own e (in_turn (suc j))) (λ e. is_x (repeated (suc j) one s).store (V (suc (suc j))) e d.variable)
                (λ e. d.value e ∙ ap (value_or (o (in_turn (suc j)))) (ap (λ (u : Store). u.held (variable_cell x)) is ∙ put_elsewhere (variable_cell l.variable) (variable_cell x) (Int first) s0 e));
            elements = λ p ps. d.elements p ps ∙ (ap (λ (u : Store). u.held (element x p ps)) is ∙ put_scalar l.variable x p ps (Int first) s0);
            ran = λ e. d.ran;
          }

    -- in the words of the forms
    pub loop_done : (s t : Store) (k : ℕ) → k ≡ count n values at r → k ≤ 2147483646 → is_in_range bits (Int first) ≡ true → LoopDone k s t
        → Done round at (or_before (if_so (has_turn (count n values at r)) (o (in_last n values (length round) at r))) (set_by symbols keeps values x at r))
        (IsRun symbols keeps values bits bounds at r × (has_turn (count n values at r) ≡ true → R (in_last n values (length round) at r))) s t
    loop_done s t k e few range done =
        let d = subst (λ k. LoopDone k s t) e done in
        let same = loop_numbers symbols values bounds round l r h at setting at (λ k m. refl) in
        let behind : V (suc (count n values at r)) ≡ end n values at r
        = value_behind symbols values bounds round l r h at setting (count n values at r) ∙ ap₂ (λ p q. p +ℤ q *ℤ pos (count n values at r)) (sym same.first) (sym h.step) in
        record {
          there = d.there;
          value = d.value ∙ ap₂ (λ z y. value_or (or_before (if_so (has_turn (count n values at r)) (o (in_last n values (length round) at r))) (cond (bytes_eq y x) (Some z) None)) (s.held (variable_cell x))) behind (sym h.variable);
          elements = d.elements;
          ran = (
            record {
              few = subst (λ k. k ≤ 2147483646) e few;
              first = ap (λ z. is_in_range bits (Int z)) same.first ∙ range;
              end = ap (λ z. is_in_range bits (Int z)) (sym behind) ∙ d.range;
              scalar = ap bounds h.variable ∙ scalar;
            },
            d.ran,
          );
        }

  -- ---- the parts

  number_same : (z w : ℤ) (q : Result ℤ Fault) → q ≡ Ok z → q ≡ Ok w → w ≡ z
  number_same z w q e f = cc

  mutual
    pub run_piece : {round : List NormalLoop} {p : Part} → (e : Piece symbols keeps round p) → IsPlainFor symbols keeps values x e → (at : ℕ → ℤ) → IsSetting symbols values bounds round at
        → (s : State) → There symbols values bounds round at s.store → (does (sequential bits) None (statement_of_part line p) s).way ≡ Going
        → Done round at (after symbols keeps values x e at) (Ran symbols keeps values bits bounds e at) s.store (does (sequential bits) None (statement_of_part line p) s).store
    run_piece (assignment {round} {g} u f free) i at setting s t go =
        let act : Option Expression → State = λ o. does (sequential bits) None (under_guard g.line o (assignment_of g)) s in
        subst (λ o. Done round at None (Unit {0}) s.store (act o).store) (sym u) (statement_done round at g f free s t (subst (λ o. (act o).way ≡ Going) u go))
    run_piece (turning {round} {l} {ps} r h more) i at setting s t go =
        let a = looped bits line l.variable l.first l.last l.step (block_of_parts line ps) s go in
        let body : Act = does_all (sequential bits) None (block_of_parts line ps) in
        let scalar : bounds l.variable ≡ Some [] = sym (t.bounds_are l.variable) ∙ scalar_bounds (s.store.bounds l.variable) l.variable a.cell a.place in
        let xs : List ℤ = numbers symbols values bounds at round in
        let vs : List ℤ = values_from n 0 values in
        let have = have_both (variables_of round) symbols s.store xs vs t.here t.known in
        let all_sized = both_sized xs vs setting.sized sized in
        let low : a.lower ≡ lower symbols values bounds round l r h at setting
        = number_same (lower symbols values bounds round l r h at setting) a.lower (number_of (sequential bits) l.first s.store)
        (ap numbered (linear_has_value (sequential bits) (variables_of round) symbols l.first h.lower s.store (xs ++ vs) h.lower_is have all_sized)) a.first_is in
        let high_is : a.upper ≡ upper symbols values bounds round l r h at setting
        = number_same (upper symbols values bounds round l r h at setting) a.upper (number_of (sequential bits) l.last s.store)
        (ap numbered (linear_has_value (sequential bits) (variables_of round) symbols l.last h.upper s.store (xs ++ vs) h.upper_is have all_sized)) a.last_is in
        let same = loop_numbers symbols values bounds round l r h at setting at (λ k m. refl) in
        let counts = trip_counts a.lower a.upper l.step (top n values at r) a.turns a.counts
        (same.trip ∙ ap₂ (λ p q. int_div (sign_of l.step *ℤ ((q -ℤ p) +ℤ l.step)) (pos (nat_abs l.step))) (sym low) (sym high_is)) in
        let p : a.cell ≡ variable_cell l.variable = scalar_place (s.store.bounds l.variable) l.variable [] a.cell (t.bounds_are l.variable ∙ scalar) a.place in
        let start : State = record s { store = put a.cell (Int a.lower) s.store } in
        let is : start.store ≡ put (variable_cell l.variable) (Int (lower symbols values bounds round l r h at setting)) s.store = ap₂ (λ c z. put c (Int z) s.store) p low in
        let range : is_in_range bits (Int (lower symbols values bounds round l r h at setting)) ≡ true = ap (λ z. is_in_range bits (Int z)) (sym low) ∙ a.range in
        let t0 : There symbols values bounds round at start.store
        = subst (There symbols values bounds round at) (sym is)
        (there_put symbols values bounds round at (variable_cell l.variable) (Int (lower symbols values bounds round l r h at setting)) s.store h.own h.apart t) in
        let d = all_turns round l r h at setting scalar body (λ its. after_all symbols keeps values x more its) (λ its. RanAll symbols keeps values bits bounds more its)
        (λ j inner s t go. run_all more i.1 (turn_of symbols values bounds (length round) at j) inner s t go)
        (λ j m. alike_all_set symbols keeps values x more i.1 (longer symbols keeps values x round r) (turn_of symbols values bounds (length round) at m) (turn_of symbols values bounds (length round) at j))
        (λ e its. unset_all symbols keeps values x more (among_last symbols keeps values x round r (ap (λ y. bytes_eq y x) h.variable ∙ e)) its)
        a.turns start s.store is t0 range (subst (λ (z : State). z.way ≡ Going) a.is go) in
        subst (λ (z : State). Done round at (after symbols keeps values x (turning r h more) at) (Ran symbols keeps values bits bounds (turning r h more) at) s.store z.store) (sym a.is)
        (loop_done round l r h at setting scalar body (λ its. after_all symbols keeps values x more its) (λ its. RanAll symbols keeps values bits bounds more its)
        (λ j inner s t go. run_all more i.1 (turn_of symbols values bounds (length round) at j) inner s t go)
        (λ j m. alike_all_set symbols keeps values x more i.1 (longer symbols keeps values x round r) (turn_of symbols values bounds (length round) at m) (turn_of symbols values bounds (length round) at j))
        s.store (repeated a.turns (turn (sequential bits) None line l.variable l.step body) start).store a.turns counts.0 counts.1 range d)

    pub run_all : {round : List NormalLoop} {ps : Parts} → (e : Pieces symbols keeps round ps) → ArePlainFor symbols keeps values x e → (at : ℕ → ℤ) → IsSetting symbols values bounds round at
        → (s : State) → There symbols values bounds round at s.store → (does_all (sequential bits) None (block_of_parts line ps) s).way ≡ Going
        → Done round at (after_all symbols keeps values x e at) (RanAll symbols keeps values bits bounds e at) s.store (does_all (sequential bits) None (block_of_parts line ps) s).store
    run_all none i at setting s t go = record { there = t; value = refl; elements = λ j js. refl; ran = tt }
    run_all (next {round} {p} {ps} e more) i at setting s t go =
        let a = run_piece e i.0 at setting s t (from_all more (does (sequential bits) None (statement_of_part line p) s) go) in
        let b = run_all more i.1 at setting (does (sequential bits) None (statement_of_part line p) s) a.there go in
        record {
          there = b.there;
          value = b.value ∙ (ap (value_or (after_all symbols keeps values x more at)) a.value ∙ one_after (after_all symbols keeps values x more at) (after symbols keeps values x e at) (s.store.held (variable_cell x)));
          elements = λ j js. b.elements j js ∙ a.elements j js;
          ran = (a.ran, b.ran);
        }
