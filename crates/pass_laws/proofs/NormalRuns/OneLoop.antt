-- A loop of a nest beside what stands for it in the normal body.
use Rattle.std.proofs.Common.{◌≡◌, refl, sym, ap, ◌∙◌, subst, inl, inr, ℕ, suc, ◌+◌, ◌≤◌, ℤ, pos, ◌+ℤ◌, ◌*ℤ◌, Bool}
use Rattle.std.proofs.Common.{true, false, cond, ◌&&◌, List, [], ◌∷◌, ◌++◌, length, Ok, Option, Some, None, Contains}
use Rattle.std.proofs.Common.{arith}
use Rattle.std.proofs.lemmas.List.Elements.{Contains-push, All-contains}
use Rattle.std.specs.Prelude.{not}
use Rattle.meaning_laws.proofs.arrays.Members.{each_member, nowhere}
use Rattle.tree.specs.Operators.{fits}
use Rattle.tree.specs.Plain.{Number, Do, Block}
use Rattle.tree.specs.declared.ops.Value.TheVariants.{Int}
use Rattle.meaning.specs.Store.{Store, Cell, cell_in}
use Rattle.meaning.specs.Run.{State, Going, does, does_all}
use Rattle.rewrite.specs.Following.{sequential}
use Rattle.last_values.specs.Behind.{stands_behind}
use Rattle.last_values.specs.PartsInPlace.{parts_before, parts_behind}
use Rattle.last_values.specs.declared.behind.NestedLoop.{NestedLoop}
use Rattle.normal_loops.specs.Counting.{counting}
use Rattle.nest_order.specs.runs.Guarded.{variable_cell}
use Rattle.nest_order.proofs.runs.Results.{true_false}
use Rattle.nest.specs.Blocks.{block_of_parts, numeral, statement_of_part}
use Rattle.nest.specs.Bodies.{Standing}
use Rattle.nest.specs.Plain.{Loop, Nest, Part, Turns, Parts, parts}
use Rattle.last_values.specs.normal_forms.NormalLoops.{counters_of, normal_loop, variables_of}
use Rattle.last_values.specs.normal_forms.Texts.{trip_text}
use Rattle.last_values.specs.declared.normal_forms.loops.NormalLoop.{NormalLoop}
use Rattle.pass_laws.specs.normal_values.Beside.{AreApart, IsBeside}
use Rattle.pass_laws.specs.normal_values.Laws.{BoundsBeside, HasLastTexts, HasNormalBounds, LastValueInPlace}
use Rattle.nest.specs.statement_loops.Names.{is_among}
use Rattle.pass_laws.specs.normal_runs.Sources.{IsNormalSource, apart_within, counters_in, ends_behind, loops_in, variables_in}
use Rattle.pass_laws.proofs.NormalRuns.Held.{among}
use Rattle.pass_laws.proofs.NormalRuns.Moments.{Goes, IsKept, Opens, across, has_none, no_symbol, only_symbols, other_stores}
use Rattle.pass_laws.proofs.NormalRuns.Names.{Around, Fresh, are_apart, apart_more, apart_there, behind_apart, counter_apart}
use Rattle.pass_laws.proofs.NormalRuns.Names.{counter_no_symbol, fresh, is_common, nested_loop, no_variable, not_apart}
use Rattle.pass_laws.proofs.NormalRuns.Names.{variable_apart, variable_no_symbol, variables_last}
use Rattle.pass_laws.proofs.NormalRuns.Places.{Began, before, behind, block_joined}
use Rattle.pass_laws.proofs.NormalRuns.Running.{LoopDone, loop_done}
use Rattle.pass_laws.proofs.NormalRuns.Stores.{left, many, stronger, weaker}
use Rattle.pass_laws.proofs.NormalRuns.Turns.{behind_value, looped, value_in}

bare_of : (b : Option (List (ℤ × ℤ))) (x : List ℕ) (c : Cell) → cell_in b x [] ≡ Ok c → b ≡ Some []
bare_of None x c e = cc
bare_of (Some []) x c e = refl
bare_of (Some (p ∷ ps)) x c e = let no : ⊥ = cc in absurd no

none_is : (zs : List ℤ) → has_none zs ≡ true → zs ≡ []
unfolding has_none
none_is [] h = refl
none_is (z ∷ zs) h = let no : ⊥ = cc in absurd no

-- the loop from 1 by 1 as it runs
counting_is : (bits line : ℕ) (symbols : List (List ℕ)) (round : List NormalLoop) (l : Loop) (r : NormalLoop) (ps : Parts) (t : State)
    → does (sequential bits) None (statement_of_part line (Turns (counting symbols round l r) ps)) t
    ≡ does (sequential bits) None (Do line r.counter (Number (pos 1)) (trip_text (counters_of round) symbols [] r.trip) (Number (pos 1)) (block_of_parts line ps)) t
unfolding counting
counting_is bits line symbols round l r ps t = refl

module _ (bounds_beside : BoundsBeside) (last_value : LastValueInPlace) (bits : ℕ) (low : 31 ≤ bits) (high : bits ≤ 63) (n : Nest) (source : IsNormalSource n) (values : ℕ → ℤ) (start : Store)
    (bare_counters : (x : List ℕ) → Contains (counters_in n) x → start.bounds x ≡ Some []) where
  abbrev pub Both : (List ℕ → Bool) → List NormalLoop → List ℕ → State → State → Type 0
  Both = Goes bits high n source values start

  module _ (round : List NormalLoop) (is : List ℕ) (ss : List Standing) (ls : List NestedLoop) (l : Loop) (r : NormalLoop) (normal : normal_loop n.symbols round l ≡ Some r)
      (around : Around n source round ss (nested_loop n source round r ∷ ls)) (ps qs : Parts) where
    abbrev A : List ℕ → Bool
    A = apart_within n round

    abbrev A' : List ℕ → Bool
    A' = apart_within n (round ++ r ∷ [])

    abbrev X : List ℕ → Bool
    X = only_symbols bits high n source values start

    new : Fresh n source round l r
    new = fresh n source round ss ls l r normal around

    are : AreApart n.symbols A round
    are = are_apart n source round ss (nested_loop n source round r ∷ ls) around

    common : (x : List ℕ) → Contains n.symbols x → A x ≡ false
    common x c = All-contains (λ x. A x ≡ false) n.symbols x are.common c

    are_symbols : AreApart n.symbols X round
    are_symbols = record {
      loops = are.loops;
      variables = each_member (λ x. X x ≡ true) (variables_of round) (λ x c. no_symbol bits high n source values start x (variable_no_symbol n source x (around.within x c)));
      counters = each_member (λ x. X x ≡ true) (counters_of round) (λ x c. no_symbol bits high n source values start x (counter_no_symbol n source x (around.counters x c)));
      common = each_member (λ x. X x ≡ false) n.symbols (λ x c. ap not (among n.symbols x c));
      once = are.once;
    }

    last_variable : Contains (variables_of (round ++ r ∷ [])) r.variable
    last_variable = subst (λ ys. Contains ys r.variable) (sym (variables_last round r)) (Contains-push (variables_of round) r.variable)

    opens : Opens bits high n source values start A' round r is around.zeros
    opens = record {
      variable_apart = variable_apart n (round ++ r ∷ []) r.variable last_variable;
      counter_apart = counter_apart n (round ++ r ∷ []) r.counter new.counter_in;
      variable = new.variable;
      counter = new.counter;
      variable_in = new.variable_in;
      counter_in = new.counter_in;
    }

    two_names : r.counter ≡ r.variable → ⊥
    two_names e = no_variable n source r.counter new.counter_in (subst (Contains (variables_in n)) (sym e) new.variable_in)

    no_counter : Contains (counters_of round) r.variable → ⊥
    no_counter c = no_variable n source r.variable (around.counters r.variable c) new.variable_in

    within_more : (s t : State) → Both A round is s t → Both A' round is s t
    within_more s t g = other_stores bits high n source values start A A' round round is is s t g (weaker n.symbols values A A' round is s.store t.store (λ x e. apart_more n round r x e) g.stores)

    -- ---- back out of the loop

    closed : (s t : State) → Both A' round is s t → (A r.variable ≡ false → (s.store.bounds r.variable ≡ t.store.bounds r.variable) × (s.store.held (variable_cell r.variable) ≡ t.store.held (variable_cell r.variable)))
        → Both A round is s t
    closed s t g same = other_stores bits high n source values start A' A round round is is s t g (stronger n.symbols values A' A round is s.store t.store bounds held g.stores)
      where
        bounds : (x : List ℕ) → A x ≡ false → A' x ≡ true → s.store.bounds x ≡ t.store.bounds x
        bounds x e f = let v = apart_there n round r x e f in subst (λ y. s.store.bounds y ≡ t.store.bounds y) v (same (ap A v ∙ e)).0

        inner : (c : Cell) → A c.name ≡ false → r.variable ≡ c.name → (b : Bool) → has_none c.subscripts ≡ b → s.store.held c ≡ t.store.held c
        inner c e v true h =
            let cell : ◌≡◌ {A = Cell} (variable_cell r.variable) c = λ i. record { name = v i; subscripts = (sym (none_is c.subscripts h)) i } in
            subst (λ d. s.store.held d ≡ t.store.held d) cell (same (ap A v ∙ e)).1
        inner c e v false h =
            let p = not_apart n round c.name e in
            g.elements c h (is_common n [] c.name (record { counter = p.counter; behind = p.behind; variable = λ k. nowhere c.name k }))

        held : (c : Cell) → A c.name ≡ false → A' c.name ≡ true → s.store.held c ≡ t.store.held c
        held c e f = inner c e (apart_there n round r c.name e f) (has_none c.subscripts) refl

    -- ---- the loop itself

    abbrev pub body : Block
    body = block_of_parts n.line ps

    abbrev beside : Block
    beside = block_of_parts n.line qs

    abbrev given_loop : State → State
    given_loop = does (sequential bits) None (Do n.line r.variable l.first l.last (numeral l.step) body)

    abbrev normal_one : State → State
    normal_one = does (sequential bits) None (statement_of_part n.line (Turns (counting n.symbols round l r) qs))

    module _ (each : (i : ℕ) (s t : State) → Both A' (round ++ r ∷ []) (is ++ i ∷ []) s t → (does_all (sequential bits) None body s).way ≡ Going
        → Both A' (round ++ r ∷ []) (is ++ i ∷ []) (does_all (sequential bits) None body s) (does_all (sequential bits) None beside t))
        (s t : State) (g : Both A round is s t) (go : (given_loop s).way ≡ Going) where
      done : LoopDone bits n.line r.variable l.first l.last l.step body s (given_loop s)
      done = loop_done bits n.line r.variable l.first l.last l.step body s go

      bare : s.store.bounds r.variable ≡ Some []
      bare = bare_of (s.store.bounds r.variable) r.variable done.cell done.place

      -- what holds of a moment of the other run, by the store before the loop
      bounds_at : (q : State) → IsBeside n.symbols values X round is s.store q.store → HasNormalBounds bits n.symbols values round is q.store l.step r done.low done.turns
      bounds_at q h = bounds_beside bits n.symbols values X round is s.store q.store l r done.low done.high done.turns low high are_symbols h normal done.begins done.ends done.counts

      texts_at : (q : State) → IsBeside n.symbols values X round is s.store q.store → HasLastTexts bits n.symbols round q.store l.step r done.low done.turns
      texts_at q h = last_value bits n.symbols values X round is s.store q.store l r done.low done.high done.turns low high are_symbols h normal done.begins done.ends done.counts

      -- behind the loop
      record Behind (q w : State) : Type 0 where
        goes : Both A' round is (given_loop s) w
        bare_there : (given_loop s).store.bounds r.variable ≡ Some []
        value : (given_loop s).store.held (variable_cell r.variable) ≡ Int (done.low +ℤ l.step *ℤ pos done.turns)
        range : fits bits (done.low +ℤ l.step *ℤ pos done.turns) ≡ true
        none : done.turns ≡ 0 → w.store.held (variable_cell r.variable) ≡ q.store.held (variable_cell r.variable)

      behind_loop : (q : State) → Both A' round is s q → Behind q (normal_one q)
      behind_loop q h =
          let x = across bits high n source values start A A' round is s t s q common g h in
          let b = bounds_at q x in
          let turned = looped bits low high n source values start A' round r is around.zeros opens n.line done.low l.step body beside b.value each l.first l.last (trip_text (counters_of round) n.symbols [] r.trip) b.top
          s q h go done refl b.text b.turns (h.bounds r.counter ∙ bare_counters r.counter new.counter_in) bare two_names in
          let one : 1 + done.turns ≡ suc done.turns = omega arith in
          let last : value_in done.low l.step (1 + done.turns) ≡ done.low +ℤ l.step *ℤ pos done.turns = ap (value_in done.low l.step) one ∙ behind_value done.low l.step done.turns in
          let w : State = does (sequential bits) None (Do n.line r.counter (Number (pos 1)) (trip_text (counters_of round) n.symbols [] r.trip) (Number (pos 1)) beside) q in
          let k = left n.symbols values A' round r is (1 + done.turns) (given_loop s).store w.store around.zeros (many n.symbols values A round is s.store t.store g.stores) turned.turned.goes.stores in
          subst (λ (z : State). Behind q z) (sym (counting_is bits n.line n.symbols round l r qs q)) (record {
            goes = other_stores bits high n source values start A' A' (round ++ r ∷ []) round (is ++ (1 + done.turns) ∷ []) is (given_loop s) w turned.turned.goes k.stores;
            bare_there = k.bare;
            value = k.value ∙ ap Int (b.value (1 + done.turns) ∙ last);
            range = subst (λ z. fits bits z ≡ true) last turned.turned.range;
            none = turned.none;
          })

      -- ---- the variable's value in place

      module _ (in_place : ends_behind n r.variable ≡ false) where
        kept_free : IsKept bits high n source values start r.variable → ⊥
        kept_free (inl e) = true_false (sym e ∙ in_place)
        kept_free (inr c) = variable_no_symbol n source r.variable new.variable_in c

        shared : A r.variable ≡ false
        shared = is_common n round r.variable (record { counter = λ c. no_variable n source r.variable c new.variable_in; behind = in_place; variable = new.variable })

        abbrev block : List Part → State → State
        block rs = does_all (sequential bits) None (block_of_parts n.line (parts rs))

        bare_beside : t.store.bounds r.variable ≡ Some []
        bare_beside = sym (g.stores.bounds r.variable shared) ∙ bare

        began : Began bits high n source values start A' round r is opens.variable_apart no_counter kept_free done.low s (block (parts_before n.symbols n.line round r) t)
        began =
            let x = across bits high n source values start A A round is s t s t common g g in
            before bits high n source values start A' round r is opens.variable_apart no_counter kept_free done.low s t (within_more s t g) bare_beside (texts_at t x).first done.range

        placed_goes : Both A round is (given_loop s) (block (parts_behind n.symbols n.line round r) (normal_one (block (parts_before n.symbols n.line round r) t)))
        placed_goes =
            let t1 : State = block (parts_before n.symbols n.line round r) t in
            let h = behind_loop t1 began.goes in
            let t2 : State = normal_one t1 in
            let x = across bits high n source values start A A' round is s t (given_loop s) t2 common g h.goes in
            let bare2 : t2.store.bounds r.variable ≡ Some [] = h.goes.bounds r.variable ∙ (sym (g.bounds r.variable) ∙ bare_beside) in
            let f = behind bits high n source values start A' round r is opens.variable_apart no_counter kept_free done.low l.step done.turns (given_loop s) t2 h.goes bare2 (bounds_at t2 x) (texts_at t2 x) h.range
            (λ e p. h.none e ∙ began.value p) in
            let t3 : State = block (parts_behind n.symbols n.line round r) t2 in
            closed (given_loop s) t3 f.goes (λ e. (h.bare_there ∙ sym (f.goes.bounds r.variable ∙ (sym (g.bounds r.variable) ∙ bare_beside)), h.value ∙ sym f.value))

      pub loop_goes : (d : Bool) → stands_behind (length n.symbols) (loops_in n) n.body r.variable ≡ d
          → Both A round is (given_loop s) (does_all (sequential bits) None (block_of_parts n.line (parts (cond d (Turns (counting n.symbols round l r) qs ∷ [])
          (parts_before n.symbols n.line round r ++ Turns (counting n.symbols round l r) qs ∷ parts_behind n.symbols n.line round r)))) t)
      loop_goes true e =
          closed (given_loop s) (normal_one t) (behind_loop t (within_more s t g)).goes
          (λ f. absurd (true_false (sym (behind_apart n round r.variable (ends (among (variables_in n) r.variable new.variable_in) e)) ∙ f)))
        where
          ends : is_among (variables_in n) r.variable ≡ true → stands_behind (length n.symbols) (loops_in n) n.body r.variable ≡ true → ends_behind n r.variable ≡ true
          ends p q = ap (λ b. b && stands_behind (length n.symbols) (loops_in n) n.body r.variable) p ∙ q
      loop_goes false e =
          let in_place : ends_behind n r.variable ≡ false = second (is_among (variables_in n) r.variable) (stands_behind (length n.symbols) (loops_in n) n.body r.variable) e in
          subst (λ (z : State). Both A round is (given_loop s) z)
          (sym (block_joined bits n.line (parts_before n.symbols n.line round r) (Turns (counting n.symbols round l r) qs ∷ parts_behind n.symbols n.line round r) t))
          (placed_goes in_place)
        where
          second : (a b : Bool) → b ≡ false → (a && b) ≡ false
          second true b h = h
          second false b h = refl
