-- The run of the last values behind all loops.
use Rattle.std.proofs.Common.{◌≡◌, refl, sym, ap, ◌∙◌, subst, ℕ, ℤ, Bool, true, false, cond, ◌||◌, List, [], ◌∷◌, ◌++◌}
use Rattle.std.proofs.Common.{map, length, Option, Some, None}
use Rattle.std.specs.List.{flat_map, list_all}
use Rattle.std.specs.Str.{bytes_eq}
use Rattle.std.proofs.lemmas.Slice.Eq.{bytes_eq-Decides}
use Rattle.tree.specs.Plain.{Statement, block}
use Rattle.meaning.specs.Run.{State, Going, does, does_all}
use Rattle.meaning.specs.Store.{Cell}
use Rattle.last_values.specs.Behind.{are_within, ends_behind, may_end_behind}
use Rattle.last_values.specs.ValuesBehind.{statements_or_none}
use Rattle.last_values.specs.Endings.{after_statements, ending_behind, with_last_forms}
use Rattle.last_values.specs.declared.behind.NestedLoop.{NestedLoop}
use Rattle.linear_forms.specs.Laws.{AreSized}
use Rattle.linear_forms.specs.Linear.{HaveValues}
use Rattle.linear_forms.proofs.Sizes.{both}
use Rattle.nest_order.specs.orders.Lists.{Each}
use Rattle.nest_order.specs.runs.Guarded.{sequential, variable_cell}
use Rattle.last_values.specs.normal_forms.LastValues.{have_plain_trips, last_forms}
use Rattle.last_values.specs.normal_forms.Numbers.{values_from}
use Rattle.last_values.specs.declared.normal_forms.last.LastForms.{LastForms}
use Rattle.nest.specs.statement_loops.Names.{is_among}
use Rattle.pass_laws.proofs.LastRuns.Endings.{Left, ending_behind_left, left_here, left_known}
use Rattle.pass_laws.proofs.LastRuns.Listed.{HasRun, all_turn, ending_of, last_of, last_round}
use Rattle.pass_laws.proofs.LastRuns.Pieces.{end, if_so, none_yet, value_or}
use Rattle.pass_laws.proofs.LastRuns.Sources.{element, one_after}

if_none : (b : Bool) → if_so b None ≡ None
if_none true = refl
if_none false = refl

within_some : (o : Option LastForms) → are_within o ≡ true → (f : LastForms) × (o ≡ Some f)
within_some None h = let no : ⊥ = cc in absurd no
within_some (Some f) h = (f, refl)

or_true : (b c : Bool) → c ≡ true → (b || c) ≡ true
or_true true c e = refl
or_true false c e = e

pub among_first : (y : List ℕ) (ys : List (List ℕ)) → is_among (y ∷ ys) y ≡ true
among_first y ys = ap (λ b. b || is_among ys y) ((bytes_eq-Decides y y).1 refl)

pub among_later : (z y : List ℕ) (ys : List (List ℕ)) → is_among ys y ≡ true → is_among (z ∷ ys) y ≡ true
among_later z y ys h = or_true (bytes_eq z y) (is_among ys y) h

module _ (bits line : ℕ) (symbols : List (List ℕ)) (keeps : List ℕ → Bool) (values : ℕ → ℤ) (bounds : List ℕ → Option (List (ℤ × ℤ))) (sized : AreSized (values_from (length symbols) 0 values))
    (stands counts : List ℕ → Bool) where
  abbrev n : ℕ
  n = length symbols

  abbrev pub left : NestedLoop → List Statement
  left m = cond (stands m.turns.variable) (statements_or_none (after_statements symbols line m.round m.turns)) []

  pub record Fits (m : NestedLoop) : Type 0 where
    pub run : HasRun symbols keeps values bits bounds m
    pub apart : is_among symbols m.turns.variable ≡ false
    pub counted : counts m.turns.variable ≡ false
    pub ends : stands m.turns.variable ≡ true → ends_behind (length symbols) m ≡ true

  -- where these statements begin
  pub record Begins (s : State) : Type 0 where
    pub way : s.way ≡ Going
    pub bounds_are : (y : List ℕ) → counts y ≡ false → s.store.bounds y ≡ bounds y
    pub known : HaveValues symbols s.store (values_from (length symbols) 0 values)

  statements_are : (m : NestedLoop) (f : LastForms) → have_plain_trips m.round ≡ true → last_forms (length symbols) m.round m.turns ≡ Some f
      → after_statements symbols line m.round m.turns ≡ Some (ending_behind symbols line m.round m.turns f)
  unfolding after_statements
  statements_are m f h is =
      ap (λ b. cond b (with_last_forms symbols line m.round m.turns (last_forms n m.round m.turns)) None) h ∙ ap (with_last_forms symbols line m.round m.turns) is

  loop_left : (m : NestedLoop) → Fits m → (s : State) → Begins s
      → Left m.turns.variable (if_so (stands m.turns.variable) (ending_of (length symbols) values m.turns.variable m)) s (does_all (sequential bits) None (block (left m)) s)
  loop_left m fit s begins = by (stands m.turns.variable) refl
    where
      by : (b : Bool) → stands m.turns.variable ≡ b
          → Left m.turns.variable (if_so b (ending_of n values m.turns.variable m)) s (does_all (sequential bits) None (block (cond b (statements_or_none (after_statements symbols line m.round m.turns)) [])) s)
      by false e = left_here m.turns.variable s begins.way
      by true e =
          let q = both (have_plain_trips m.round) (are_within (last_forms n m.round m.turns)) (fit.ends e) in
          let g = within_some (last_forms n m.round m.turns) q.1 in
          let E : ℤ = end n values (last_round n values m.round) m.turns in
          let l = ending_behind_left bits line symbols values sized m.round m.turns g.0 g.1 q.0 fit.run.deep fit.run.made_round fit.run.made fit.apart
          (λ t. (let p = fit.run.ran t in (record { few = p.0.few; first = p.0.first; end = p.0.end }, p.1))) s begins.way
          (λ t. begins.bounds_are m.turns.variable fit.counted ∙ (fit.run.ran t).0.scalar) begins.known in
          subst (λ o. Left m.turns.variable (ending_of n values m.turns.variable m) s (does_all (sequential bits) None (block (statements_or_none o)) s)) (sym (statements_are m g.0 q.0 g.1))
          (subst (λ b. Left m.turns.variable (if_so (all_turn n values 0 none_yet m.round) (cond b (Some E) None)) s (does_all (sequential bits) None (block (ending_behind symbols line m.round m.turns g.0)) s))
          (sym ((bytes_eq-Decides m.turns.variable m.turns.variable).1 refl)) l)

  joined : (cs ds : List Statement) (s : State) → does_all (sequential bits) None (block (cs ++ ds)) s ≡ does_all (sequential bits) None (block ds) (does_all (sequential bits) None (block cs) s)
  joined [] ds s = refl
  joined (c ∷ cs) ds s = joined cs ds (does (sequential bits) None c s)

  pub record Done (ms : List NestedLoop) (x : List ℕ) (s t : State) : Type 0 where
    pub way : t.way ≡ Going
    pub bounds_stay : (y : List ℕ) → t.store.bounds y ≡ s.store.bounds y
    pub elements : (y : List ℕ) (j : ℤ) (js : List ℤ) → t.store.held (element y j js) ≡ s.store.held (element y j js)
    pub value : stands x ≡ true → t.store.held (variable_cell x) ≡ value_or (last_of (length symbols) values x ms) (s.store.held (variable_cell x))
    pub others : (c : Cell) → Each (λ (m : NestedLoop). stands m.turns.variable ≡ true → bytes_eq m.turns.variable c.name ≡ false) ms → t.store.held c ≡ s.store.held c

  -- what one loop leaves x with
  of_one : (m : NestedLoop) (x : List ℕ) (s t : State) → Left m.turns.variable (if_so (stands m.turns.variable) (ending_of (length symbols) values m.turns.variable m)) s t → stands x ≡ true
      → t.store.held (variable_cell x) ≡ value_or (ending_of (length symbols) values x m) (s.store.held (variable_cell x))
  of_one m x s t l e = by (bytes_eq m.turns.variable x) refl
    where
      by : (b : Bool) → bytes_eq m.turns.variable x ≡ b → t.store.held (variable_cell x) ≡ value_or (ending_of n values x m) (s.store.held (variable_cell x))
      by true g =
          subst (λ y. t.store.held (variable_cell y) ≡ value_or (if_so (stands y) (ending_of n values y m)) (s.store.held (variable_cell y))) ((bytes_eq-Decides m.turns.variable x).0 g) l.value
          ∙ ap (λ b. value_or (if_so b (ending_of n values x m)) (s.store.held (variable_cell x))) e
      by false g =
          let E : ℤ = end n values (last_round n values m.round) m.turns in
          l.other (variable_cell x) g
          ∙ sym (ap (λ b. value_or (if_so (all_turn n values 0 none_yet m.round) (cond b (Some E) None)) (s.store.held (variable_cell x))) g
          ∙ ap (λ o. value_or o (s.store.held (variable_cell x))) (if_none (all_turn n values 0 none_yet m.round)))

  of_other : (m : NestedLoop) (c : Cell) (s : State) → Left m.turns.variable (if_so (stands m.turns.variable) (ending_of (length symbols) values m.turns.variable m)) s (does_all (sequential bits) None (block (left m)) s)
      → (stands m.turns.variable ≡ true → bytes_eq m.turns.variable c.name ≡ false) → (does_all (sequential bits) None (block (left m)) s).store.held c ≡ s.store.held c
  of_other m c s l h = by (stands m.turns.variable) refl
    where
      by : (b : Bool) → stands m.turns.variable ≡ b → (does_all (sequential bits) None (block (left m)) s).store.held c ≡ s.store.held c
      by true e = l.other c (h e)
      by false e = ap (λ b. (does_all (sequential bits) None (block (cond b (statements_or_none (after_statements symbols line m.round m.turns)) [])) s).store.held c) e

  pub run_behind : (ms : List NestedLoop) → Each Fits ms → (x : List ℕ) (s : State) → Begins s → Done ms x s (does_all (sequential bits) None (block (flat_map left ms)) s)
  run_behind [] fit x s begins = record { way = begins.way; bounds_stay = λ y. refl; elements = λ y j js. refl; value = λ e. refl; others = λ c h. refl }
  run_behind (m ∷ ms) fit x s begins =
      let s1 : State = does_all (sequential bits) None (block (left m)) s in
      let a = loop_left m fit.0 s begins in
      let o : Option ℤ = if_so (stands m.turns.variable) (ending_of n values m.turns.variable m) in
      let b = run_behind ms fit.1 x s1 (record {
        way = a.way;
        bounds_are = λ y h. a.bounds y ∙ begins.bounds_are y h;
        known = left_known m.turns.variable o s s1 symbols (values_from n 0 values) fit.0.apart a begins.known;
      }) in
      subst (Done (m ∷ ms) x s) (sym (joined (left m) (flat_map left ms) s)) (record {
        way = b.way;
        bounds_stay = λ y. b.bounds_stay y ∙ a.bounds y;
        elements = λ y j js. b.elements y j js ∙ a.elements y j js;
        value = λ e. b.value e ∙ (ap (value_or (last_of n values x ms)) (of_one m x s s1 a e) ∙ one_after (last_of n values x ms) (ending_of n values x m) (s.store.held (variable_cell x)));
        others = λ c h. b.others c h.1 ∙ of_other m c s a h.0;
      })

  -- where none stands behind, nothing is done
  pub none_behind : (ms : List NestedLoop) → Each (λ (m : NestedLoop). stands m.turns.variable ≡ false) ms → (s : State) → does_all (sequential bits) None (block (flat_map left ms)) s ≡ s
  none_behind [] h s = refl
  none_behind (m ∷ ms) h s =
      joined (left m) (flat_map left ms) s
      ∙ (ap (λ b. does_all (sequential bits) None (block (flat_map left ms)) (does_all (sequential bits) None (block (cond b (statements_or_none (after_statements symbols line m.round m.turns)) [])) s)) h.0
      ∙ none_behind ms h.1 s)

  -- ---- each loop fits

  pub each_fits : (ms : List NestedLoop) → Each (HasRun symbols keeps values bits bounds) ms → Each (λ y. is_among symbols y ≡ false) (map (λ (m : NestedLoop). m.turns.variable) ms)
      → ((y : List ℕ) → is_among (map (λ (m : NestedLoop). m.turns.variable) ms) y ≡ true → counts y ≡ false)
      → ((v : List ℕ) → stands v ≡ true → list_all (may_end_behind (length symbols) v) ms ≡ true) → Each Fits ms
  each_fits [] run apart counted ends = tt
  each_fits (m ∷ ms) run apart counted ends = (
    record {
      run = run.0;
      apart = apart.0;
      counted = counted m.turns.variable (among_first m.turns.variable (map (λ (m : NestedLoop). m.turns.variable) ms));
      ends = λ e. sym (ap (λ b. cond b (ends_behind n m) true) ((bytes_eq-Decides m.turns.variable m.turns.variable).1 refl))
          ∙ (both (may_end_behind n m.turns.variable m) (list_all (may_end_behind n m.turns.variable) ms) (ends m.turns.variable e)).0;
    },
    each_fits ms run.1 apart.1 (λ y h. counted y (among_later m.turns.variable y (map (λ (m : NestedLoop). m.turns.variable) ms) h))
        (λ v e. (both (may_end_behind n v m) (list_all (may_end_behind n v) ms) (ends v e)).1),
  )
