-- The run of a nest with IFs and jumps: what a loop variable is after it, by the loops of the nest alone.
use mathlib.Core.Path.{ap₂}
use Rattle.std.proofs.Common.{◌≡◌, refl, sym, ap, ◌∙◌, subst, ◌⊎◌, inl, inr, ℕ, zero, suc, ◌+◌, ◌≤◌, ℤ, pos, ◌+ℤ◌, ◌-ℤ◌, ◌*ℤ◌, Bool}
use Rattle.std.proofs.Common.{true, false, ◌&&◌, is_some, List, [], ◌∷◌, ◌++◌, length, Result}
use Rattle.std.proofs.Common.{Ok, Err, Option, Some, None}
use Rattle.std.specs.Prelude.{int_div, nat_abs}
use Rattle.std.specs.Str.{bytes_eq}
use Rattle.std.proofs.lemmas.List.{map-append}
use Rattle.tree.specs.Plain.{Expression}
use Rattle.tree.specs.declared.ops.Fault.{Fault}
use Rattle.tree.specs.declared.ops.Value.TheVariants.{Int}
use Rattle.meaning.specs.Run.{Act, State, Going, arrives, does, does_all, either, goes, nothing, repeated}
use Rattle.meaning.specs.Run.{counts_step, turn, while_going}
use Rattle.meaning.specs.Store.{Store, put}
use Rattle.meaning.specs.Value.{is_in_range, number_of, numbered, truth_of}
use Rattle.linear_forms.specs.Laws.{AreSized}
use Rattle.linear_forms.proofs.Faultless.{linear_has_value}
use Rattle.linear_forms.proofs.Sizes.{both}
use Rattle.normal_loops.specs.Loops.{nested, nested_in_branches, nested_in_parts, nested_loops}
use Rattle.normal_loops.specs.Normal.{are_normal, is_normal}
use Rattle.normal_loops.specs.Loops.{with_loop}
use Rattle.nest_order.specs.orders.Lists.{Each}
use Rattle.nest_order.specs.runs.Guarded.{sequential, variable_cell}
use Rattle.nest_order.proofs.runs.Going.{moved}
use Rattle.nest_order.proofs.runs.Variables.{scalar_place}
use Rattle.nest.specs.Blocks.{block_of_parts, statement_of_part}
use Rattle.nest.specs.Bodies.{Standing, loops_in_branches, loops_in_parts, loops_of, statements_in}
use Rattle.nest.specs.Bodies.{statements_in_branches, statements_in_parts}
use Rattle.nest.specs.Plain.{Branches, no_branches, branch, Guarded, Loop, Part, Run, Turns, Choice, Label, Jump}
use Rattle.nest.specs.Plain.{Parts, no_parts, part}
use Rattle.last_values.specs.normal_forms.Numbers.{values_from}
use Rattle.last_values.specs.normal_forms.NormalLoops.{normal_loop, sign_of, variables_of}
use Rattle.last_values.specs.declared.normal_forms.loops.NormalLoop.{NormalLoop}
use Rattle.pass_laws.specs.normal_runs.Sources.{AreStraight}
use Rattle.nest.specs.statement_loops.Names.{is_among}
use Rattle.pass_laws.proofs.LastRuns.Listed.{each_joined}
use Rattle.pass_laws.proofs.LastRuns.Loops.{looped, trip_counts}
use Rattle.pass_laws.proofs.LastRuns.Made.{IsOutside, each_front, each_rest, names_of}
use Rattle.pass_laws.proofs.LastRuns.Pieces.{Piece, Pieces, assignment, turning, none, next, ArePlainFor, IsLoop, IsPlainFor, Ran}
use Rattle.pass_laws.proofs.LastRuns.Pieces.{RanAll, after, after_all, alike_all_set, among_last, longer, top, unset_all, value_or}
use Rattle.pass_laws.proofs.LastRuns.Sources.{Done, all_turns, loop_done, one_after, run_piece}
use Rattle.pass_laws.proofs.LastRuns.Stores.{IsSetting, There, both_sized, have_both, loop_numbers, lower, numbers}
use Rattle.pass_laws.proofs.LastRuns.Stores.{scalar_bounds, there_put, turn_of, upper}
use Rattle.pass_laws.specs.branch_meaning.Jumps.{AllJumpAhead, JumpsAhead, labels_ahead}
use Rattle.pass_laws.specs.branch_meaning.Sources.{IsStraightStanding}
use Rattle.pass_laws.proofs.BranchMeaning.Ways.{Comes, IsOn, all_from, choice_idle, chosen, going_comes, going_on, going_or_not}
use Rattle.pass_laws.proofs.BranchMeaning.Ways.{jump_idle, jumped, lands, no_jump, none_left, none_right, not_chosen, part_from}
use Rattle.pass_laws.proofs.BranchMeaning.Ways.{counts_idle, run_idle}
use Rattle.pass_laws.proofs.BranchMeaning.Ways as ways

-- ---- the loops of parts, with parts behind them

abbrev mutual
  bare : Part → Parts → Parts
  bare (Run g) rest = rest
  bare (Turns l ps) rest = part (Turns l (bare_all ps)) rest
  bare (Choice bs ps) rest = rest
  bare (Label k) rest = rest
  bare (Jump k) rest = rest

  pub bare_all : Parts → Parts
  bare_all no_parts = no_parts
  bare_all (part p ps) = bare p (bare_all ps)

abbrev pub bare_body : Part → Part
bare_body (Run g) = Run g
bare_body (Turns l ps) = Turns l (bare_all ps)
bare_body (Choice bs ps) = Choice bs ps
bare_body (Label k) = Label k
bare_body (Jump k) = Jump k

module _ (symbols : List (List ℕ)) where
  no_nested_loop : (round : List NormalLoop) (o : Option NormalLoop) (l : Loop) (ls : List Loop) → l ∷ ls ≡ [] → nested round o ≡ []
  no_nested_loop round o l ls e = let none : ⊥ = cc in absurd none

  -- where no loop stands
  mutual
    no_nested : (round : List NormalLoop) (p : Part) → loops_of p ≡ [] → nested_loops symbols round p ≡ []
    no_nested round (Run g) e = refl
    no_nested round (Turns l ps) e = let none : ⊥ = cc in absurd none
    no_nested round (Choice bs ps) e =
        ap₂ (λ ms ks. ms ++ ks) (no_nested_branches round bs (none_left (loops_in_branches bs) (loops_in_parts ps) e)) (no_nested_parts round ps (none_right (loops_in_branches bs) (loops_in_parts ps) e))
    no_nested round (Label k) e = refl
    no_nested round (Jump k) e = refl

    no_nested_parts : (round : List NormalLoop) (ps : Parts) → loops_in_parts ps ≡ [] → nested_in_parts symbols round ps ≡ []
    no_nested_parts round no_parts e = refl
    no_nested_parts round (part p ps) e =
        ap₂ (λ ms ks. ms ++ ks) (no_nested round p (none_left (loops_of p) (loops_in_parts ps) e)) (no_nested_parts round ps (none_right (loops_of p) (loops_in_parts ps) e))

    no_nested_branches : (round : List NormalLoop) (bs : Branches) → loops_in_branches bs ≡ [] → nested_in_branches symbols round bs ≡ []
    no_nested_branches round no_branches e = refl
    no_nested_branches round (branch test ps bs) e =
        ap₂ (λ ms ks. ms ++ ks) (no_nested_parts round ps (none_left (loops_in_parts ps) (loops_in_branches bs) e)) (no_nested_branches round bs (none_right (loops_in_parts ps) (loops_in_branches bs) e))

  mutual
    bare_nested : (round : List NormalLoop) (p : Part) (rest : Parts) (later : List ℕ) → JumpsAhead later p → nested_in_parts symbols round (bare p rest) ≡ nested_loops symbols round p ++ nested_in_parts symbols round rest
    bare_nested round (Run g) rest later j = refl
    bare_nested round (Turns l ps) rest later j =
        ap (λ ks. (nested round (normal_loop symbols round l) ++ ks) ++ nested_in_parts symbols round rest) (bare_nested_all (with_loop round (normal_loop symbols round l)) ps [] j)
    bare_nested round (Choice bs ps) rest later j = ap (λ ms. ms ++ nested_in_parts symbols round rest) (sym (no_nested round (Choice bs ps) j.0))
    bare_nested round (Label k) rest later j = refl
    bare_nested round (Jump k) rest later j = refl

    bare_nested_all : (round : List NormalLoop) (ps : Parts) (later : List ℕ) → AllJumpAhead later ps → nested_in_parts symbols round (bare_all ps) ≡ nested_in_parts symbols round ps
    bare_nested_all round no_parts later j = refl
    bare_nested_all round (part p ps) later j =
        bare_nested round p (bare_all ps) (labels_ahead ps later) j.0 ∙ ap (λ ks. nested_loops symbols round p ++ ks) (bare_nested_all round ps later j.1)

  pub bare_body_nested : (p : Part) → JumpsAhead [] p → nested_loops symbols [] (bare_body p) ≡ nested_loops symbols [] p
  bare_body_nested (Run g) j = refl
  bare_body_nested (Turns l ps) j = ap (λ ks. nested [] (normal_loop symbols [] l) ++ ks) (bare_nested_all (with_loop [] (normal_loop symbols [] l)) ps [] j)
  bare_body_nested (Choice bs ps) j = refl
  bare_body_nested (Label k) j = refl
  bare_body_nested (Jump k) j = refl

  joined : (a b : Bool) → a ≡ true → b ≡ true → (a && b) ≡ true
  joined a b h k = ap₂ (λ x y. x && y) h k

  mutual
    bare_normal : (round : List NormalLoop) (p : Part) (rest : Parts) → is_normal symbols round p ≡ true → are_normal symbols round rest ≡ true → are_normal symbols round (bare p rest) ≡ true
    bare_normal round (Run g) rest h k = k
    bare_normal round (Turns l ps) rest h k =
        let p = both (is_some (normal_loop symbols round l)) (are_normal symbols (with_loop round (normal_loop symbols round l)) ps) h in
        joined (is_some (normal_loop symbols round l) && are_normal symbols (with_loop round (normal_loop symbols round l)) (bare_all ps)) (are_normal symbols round rest)
        (joined (is_some (normal_loop symbols round l)) (are_normal symbols (with_loop round (normal_loop symbols round l)) (bare_all ps)) p.0 (bare_normal_all (with_loop round (normal_loop symbols round l)) ps p.1)) k
    bare_normal round (Choice bs ps) rest h k = k
    bare_normal round (Label j) rest h k = k
    bare_normal round (Jump j) rest h k = k

    bare_normal_all : (round : List NormalLoop) (ps : Parts) → are_normal symbols round ps ≡ true → are_normal symbols round (bare_all ps) ≡ true
    bare_normal_all round no_parts h = refl
    bare_normal_all round (part p ps) h =
        let k = both (is_normal symbols round p) (are_normal symbols round ps) h in bare_normal round p (bare_all ps) k.0 (bare_normal_all round ps k.1)

  pub bare_body_normal : (p : Part) → is_normal symbols [] p ≡ true → is_normal symbols [] (bare_body p) ≡ true
  bare_body_normal (Run g) h = h
  bare_body_normal (Turns l ps) h =
      let p = both (is_some (normal_loop symbols [] l)) (are_normal symbols (with_loop [] (normal_loop symbols [] l)) ps) h in
      joined (is_some (normal_loop symbols [] l)) (are_normal symbols (with_loop [] (normal_loop symbols [] l)) (bare_all ps)) p.0 (bare_normal_all (with_loop [] (normal_loop symbols [] l)) ps p.1)
  bare_body_normal (Choice bs ps) h = h
  bare_body_normal (Label k) h = h
  bare_body_normal (Jump k) h = h

-- no statement stands in them
mutual
  bare_straight : (p : Part) (rest : Parts) → AreStraight rest → AreStraight (bare p rest)
  bare_straight (Run g) rest h = h
  bare_straight (Turns l ps) rest h = (bare_straight_all ps, h)
  bare_straight (Choice bs ps) rest h = h
  bare_straight (Label k) rest h = h
  bare_straight (Jump k) rest h = h

  pub bare_straight_all : (ps : Parts) → AreStraight (bare_all ps)
  bare_straight_all no_parts = tt
  bare_straight_all (part p ps) = bare_straight p (bare_all ps) (bare_straight_all ps)

module _ (Q : Standing → Type 0) where
  mutual
    bare_each : (ls : List Loop) (p : Part) (rest : Parts) → Each Q (statements_in_parts ls rest) → Each Q (statements_in_parts ls (bare p rest))
    bare_each ls (Run g) rest h = h
    bare_each ls (Turns l ps) rest h = each_joined Q (statements_in_parts (ls ++ l ∷ []) (bare_all ps)) (statements_in_parts ls rest) (bare_each_all (ls ++ l ∷ []) ps) h
    bare_each ls (Choice bs ps) rest h = h
    bare_each ls (Label k) rest h = h
    bare_each ls (Jump k) rest h = h

    pub bare_each_all : (ls : List Loop) (ps : Parts) → Each Q (statements_in_parts ls (bare_all ps))
    bare_each_all ls no_parts = tt
    bare_each_all ls (part p ps) = bare_each ls p (bare_all ps) (bare_each_all ls ps)

-- one loop more round, in the nest and in its normal form
same_more : (round : List NormalLoop) (ls : List Loop) (r : NormalLoop) (l : Loop) → r.variable ≡ l.variable → variables_of round ≡ names_of ls → variables_of (round ++ r ∷ []) ≡ names_of (ls ++ l ∷ [])
same_more round ls r l e h =
    map-append (λ (q : NormalLoop). q.variable) round (r ∷ []) ∙ (ap₂ (λ ys y. ys ++ y ∷ []) h e ∙ sym (map-append (λ (k : Loop). k.variable) ls (l ∷ [])))

number_same : (z w : ℤ) (q : Result ℤ Fault) → q ≡ Ok z → q ≡ Ok w → w ≡ z
number_same z w q e f = cc

module _ (bits line : ℕ) (high : bits ≤ 63) (symbols : List (List ℕ)) (keeps : List ℕ → Bool) (values : ℕ → ℤ) (bounds : List ℕ → Option (List (ℤ × ℤ)))
    (outside_symbols : (y : List ℕ) → keeps y ≡ false → is_among symbols y ≡ false) (sized : AreSized (values_from (length symbols) 0 values))
    (x : List ℕ) (x_kept : keeps x ≡ true) where
  abbrev n : ℕ
  n = length symbols

  abbrev one : Part → State → State
  one p = does (sequential bits) None (statement_of_part line p)

  abbrev all : Parts → State → State
  all ps = does_all (sequential bits) None (block_of_parts line ps)

  abbrev After : List NormalLoop → (ℕ → ℤ) → Option ℤ → Type 0 → Store → Store → Type 0
  After round at o R s t = Done bits line high symbols keeps values bounds outside_symbols sized x x_kept round at o R s t

  -- the variable x isn't set, and what is known of the loops stays so
  abbrev Quiet : List NormalLoop → (ℕ → ℤ) → Store → Store → Type 0
  Quiet round at s t = After round at None (Unit {0}) s t

  quiet_here : (round : List NormalLoop) (at : ℕ → ℤ) (s : Store) → There symbols values bounds round at s → Quiet round at s s
  quiet_here round at s t = record { there = t; value = refl; elements = λ j js. refl; ran = tt }

  quiet_then : (round : List NormalLoop) (at : ℕ → ℤ) (o : Option ℤ) (R : Type 0) (s t u : Store) → Quiet round at s t → After round at o R t u → After round at o R s u
  quiet_then round at o R s t u q d = record {
    there = d.there;
    value = d.value ∙ ap (value_or o) q.value;
    elements = λ j js. d.elements j js ∙ q.elements j js;
    ran = d.ran;
  }

  -- ---- parts without loops

  module _ (round : List NormalLoop) (ls : List Loop) (same : variables_of round ≡ names_of ls) (at : ℕ → ℤ) (setting : IsSetting symbols values bounds round at) where
    -- where the run is on behind it
    abbrev QuietAct : Act → Type 0
    QuietAct f = (s : State) → There symbols values bounds round at s.store → IsOn (f s).way → Quiet round at s.store (f s).store

    quiet_stays : (f : Act) (s : State) → f s ≡ s → There symbols values bounds round at s.store → Quiet round at s.store (f s).store
    quiet_stays f s e t = subst (λ (z : State). Quiet round at s.store z.store) (sym e) (quiet_here round at s.store t)

    quiet_run : (g : Guarded) → Each IsStraightStanding (statements_in ls (Run g)) → Each (IsOutside keeps) (statements_in ls (Run g)) → QuietAct (one (Run g))
    quiet_run g straight outside s t on = by (going_or_not s.way)
      where
        by : (s.way ≡ Going) ⊎ (s.way ≡ Going → ⊥) → Quiet round at s.store (one (Run g) s).store
        by (inl w) =
            run_piece bits line high symbols keeps values bounds outside_symbols sized x x_kept
            (assignment {round = round} {g = g} straight.0.unguarded outside.0.kept (ap (λ ys. is_among ys g.left.name) same ∙ outside.0.free)) tt at setting s t
            (no_jump (one (Run g) s).way on (lands bits line (Run g) [] tt s (going_comes [] s.way w)))
        by (inr idle) = quiet_stays (one (Run g)) s (run_idle bits line g s idle) t

    quiet_label : (k : ℕ) → QuietAct (one (Label k))
    quiet_label k s t on = by (arrives k s.way)
      where
        by : (b : Bool) → Quiet round at s.store (either b (goes Going) nothing s).store
        by true = quiet_here round at s.store t
        by false = quiet_here round at s.store t

    quiet_jump : (k : ℕ) → QuietAct (one (Jump k))
    quiet_jump k s t on = by (going_or_not s.way)
      where
        by : (s.way ≡ Going) ⊎ (s.way ≡ Going → ⊥) → Quiet round at s.store (one (Jump k) s).store
        by (inl w) = subst (λ (z : State). Quiet round at s.store z.store) (sym (jumped bits line k s w)) (quiet_here round at s.store t)
        by (inr idle) = quiet_stays (one (Jump k)) s (jump_idle bits line k s idle) t

    abbrev choosing : Branches → Act → Act
    choosing bs other = ways.choosing bits line bs other

    quiet_branch : (test : Expression) (qs : Parts) (bs : Branches) (other : Act) → QuietAct (all qs) → QuietAct (choosing bs other) → QuietAct (choosing (branch test qs bs) other)
    quiet_branch test qs bs other first rest s t on = by (going_or_not s.way)
      where
        s1 : State
        s1 = moved s (s.steps + 1) s.store

        answered : s.way ≡ Going → (r : Result Bool Fault) → truth_of (sequential bits) test s.store ≡ r → Quiet round at s.store (choosing (branch test qs bs) other s).store
        answered w (Err f) e = absurd (subst IsOn (not_chosen bits line test qs bs other s f w e) on)
        answered w (Ok true) e =
            let p = chosen bits line test qs bs other s true w e in
            subst (λ (z : State). Quiet round at s.store z.store) (sym p) (first (moved s (s.steps + 1) s.store) t (subst (λ (z : State). IsOn z.way) p on))
        answered w (Ok false) e =
            let p = chosen bits line test qs bs other s false w e in
            subst (λ (z : State). Quiet round at s.store z.store) (sym p) (rest (moved s (s.steps + 1) s.store) t (subst (λ (z : State). IsOn z.way) p on))

        by : (s.way ≡ Going) ⊎ (s.way ≡ Going → ⊥) → Quiet round at s.store (choosing (branch test qs bs) other s).store
        by (inl w) = answered w (truth_of (sequential bits) test s.store) refl
        by (inr idle) = quiet_stays (choosing (branch test qs bs) other) s (choice_idle bits line test qs bs other s idle) t

    mutual
      quiet_part : (p : Part) → loops_of p ≡ [] → Each IsStraightStanding (statements_in ls p) → Each (IsOutside keeps) (statements_in ls p) → QuietAct (one p)
      quiet_part (Run g) e straight outside = quiet_run g straight outside
      quiet_part (Turns l ps) e straight outside = let absent : ⊥ = cc in absurd absent
      quiet_part (Choice bs ps) e straight outside =
          quiet_choice bs (all ps) (none_left (loops_in_branches bs) (loops_in_parts ps) e)
          (each_front IsStraightStanding (statements_in_branches ls bs) (statements_in_parts ls ps) straight) (each_front (IsOutside keeps) (statements_in_branches ls bs) (statements_in_parts ls ps) outside)
          (quiet_all ps (none_right (loops_in_branches bs) (loops_in_parts ps) e)
          (each_rest IsStraightStanding (statements_in_branches ls bs) (statements_in_parts ls ps) straight) (each_rest (IsOutside keeps) (statements_in_branches ls bs) (statements_in_parts ls ps) outside))
      quiet_part (Label k) e straight outside = quiet_label k
      quiet_part (Jump k) e straight outside = quiet_jump k

      quiet_choice : (bs : Branches) (other : Act) → loops_in_branches bs ≡ [] → Each IsStraightStanding (statements_in_branches ls bs) → Each (IsOutside keeps) (statements_in_branches ls bs) → QuietAct other → QuietAct (choosing bs other)
      quiet_choice no_branches other e straight outside last = last
      quiet_choice (branch test qs bs) other e straight outside last =
          quiet_branch test qs bs other
          (quiet_all qs (none_left (loops_in_parts qs) (loops_in_branches bs) e)
          (each_front IsStraightStanding (statements_in_parts ls qs) (statements_in_branches ls bs) straight) (each_front (IsOutside keeps) (statements_in_parts ls qs) (statements_in_branches ls bs) outside))
          (quiet_choice bs other (none_right (loops_in_parts qs) (loops_in_branches bs) e)
          (each_rest IsStraightStanding (statements_in_parts ls qs) (statements_in_branches ls bs) straight) (each_rest (IsOutside keeps) (statements_in_parts ls qs) (statements_in_branches ls bs) outside) last)

      quiet_all : (ps : Parts) → loops_in_parts ps ≡ [] → Each IsStraightStanding (statements_in_parts ls ps) → Each (IsOutside keeps) (statements_in_parts ls ps) → QuietAct (all ps)
      quiet_all no_parts e straight outside s t on = quiet_here round at s.store t
      quiet_all (part p ps) e straight outside s t on =
          let a = quiet_part p (none_left (loops_of p) (loops_in_parts ps) e) (each_front IsStraightStanding (statements_in ls p) (statements_in_parts ls ps) straight)
          (each_front (IsOutside keeps) (statements_in ls p) (statements_in_parts ls ps) outside) s t (all_from bits line ps (one p s) on) in
          let b = quiet_all ps (none_right (loops_of p) (loops_in_parts ps) e) (each_rest IsStraightStanding (statements_in ls p) (statements_in_parts ls ps) straight)
          (each_rest (IsOutside keeps) (statements_in ls p) (statements_in_parts ls ps) outside) (one p s) a.there on in
          quiet_then round at None (Unit {0}) s.store (one p s).store (all (part p ps) s).store a b

  -- ---- a loop

  -- as if the run went on
  abbrev begun_so : Act → Act
  begun_so f s = f (record s { way = Going })

  turn_going : (v : List ℕ) (d : ℤ) (f : Act) (s : State) → s.way ≡ Going → turn (sequential bits) None line v d f s ≡ turn (sequential bits) None line v d (begun_so f) s
  unfolding while_going counts_step
  turn_going v d f s w = rw w refl

  same_turn : (v : List ℕ) (d : ℤ) (f : Act) (s : State) → turn (sequential bits) None line v d f s ≡ turn (sequential bits) None line v d (begun_so f) s
  same_turn v d f s = by (going_or_not s.way)
    where
      by : (s.way ≡ Going) ⊎ (s.way ≡ Going → ⊥) → turn (sequential bits) None line v d f s ≡ turn (sequential bits) None line v d (begun_so f) s
      by (inl w) = turn_going v d f s w
      by (inr idle) = counts_idle bits line _ s idle ∙ sym (counts_idle bits line _ s idle)

  same_turns : (v : List ℕ) (d : ℤ) (f : Act) (k : ℕ) (s : State) → repeated k (turn (sequential bits) None line v d f) s ≡ repeated k (turn (sequential bits) None line v d (begun_so f)) s
  same_turns v d f zero s = refl
  same_turns v d f (suc k) s = ap (repeated k (turn (sequential bits) None line v d f)) (same_turn v d f s) ∙ same_turns v d f k (turn (sequential bits) None line v d (begun_so f) s)

  module _ (round : List NormalLoop) (l : Loop) (qs bs : Parts) (r : NormalLoop) (h : IsLoop symbols round l r) (more : Pieces symbols keeps (round ++ r ∷ []) bs)
      (i : IsPlainFor symbols keeps values x (turning {round = round} {l = l} {ps = bs} r h more)) (at : ℕ → ℤ) (setting : IsSetting symbols values bounds round at)
      (inner : (its : ℕ → ℤ) → IsSetting symbols values bounds (round ++ r ∷ []) its → (s : State) → There symbols values bounds (round ++ r ∷ []) its s.store → s.way ≡ Going → (all qs s).way ≡ Going
      → After (round ++ r ∷ []) its (after_all symbols keeps values x more its) (RanAll symbols keeps values bits bounds more its) s.store (all qs s).store) where
    loop_runs : (s : State) → There symbols values bounds round at s.store → (one (Turns l qs) s).way ≡ Going
        → After round at (after symbols keeps values x (turning {round = round} {l = l} {ps = bs} r h more) at) (Ran symbols keeps values bits bounds (turning {round = round} {l = l} {ps = bs} r h more) at) s.store (one (Turns l qs) s).store
    loop_runs s t go =
        let a = looped bits line l.variable l.first l.last l.step (block_of_parts line qs) s go in
        let body : Act = begun_so (all qs) in
        let scalar : bounds l.variable ≡ Some [] = sym (t.bounds_are l.variable) ∙ scalar_bounds (s.store.bounds l.variable) l.variable a.cell a.place in
        let xs : List ℤ = numbers symbols values bounds at round in
        let vs : List ℤ = values_from n 0 values in
        let have = have_both (variables_of round) symbols s.store xs vs t.here t.known in
        let all_sized = both_sized xs vs setting.sized sized in
        let low : a.lower ≡ lower symbols values bounds round l r h at setting
        = number_same (lower symbols values bounds round l r h at setting) a.lower (number_of (sequential bits) l.first s.store)
        (ap numbered (linear_has_value (sequential bits) (variables_of round) symbols l.first h.lower s.store (xs ++ vs) h.lower_is have all_sized)) a.first_is in
        let high_is : a.upper ≡ upper symbols values bounds round l r h at setting
        = number_same (upper symbols values bounds round l r h at setting) a.upper (number_of (sequential bits) l.last s.store)
        (ap numbered (linear_has_value (sequential bits) (variables_of round) symbols l.last h.upper s.store (xs ++ vs) h.upper_is have all_sized)) a.last_is in
        let same = loop_numbers symbols values bounds round l r h at setting at (λ k m. refl) in
        let counts = trip_counts a.lower a.upper l.step (top n values at r) a.turns a.counts
        (same.trip ∙ ap₂ (λ p q. int_div (sign_of l.step *ℤ ((q -ℤ p) +ℤ l.step)) (pos (nat_abs l.step))) (sym low) (sym high_is)) in
        let p : a.cell ≡ variable_cell l.variable = scalar_place (s.store.bounds l.variable) l.variable [] a.cell (t.bounds_are l.variable ∙ scalar) a.place in
        let start : State = record s { store = put a.cell (Int a.lower) s.store } in
        let turned_is : one (Turns l qs) s ≡ repeated a.turns (turn (sequential bits) None line l.variable l.step body) start = a.is ∙ same_turns l.variable l.step (all qs) a.turns start in
        let is : start.store ≡ put (variable_cell l.variable) (Int (lower symbols values bounds round l r h at setting)) s.store = ap₂ (λ c z. put c (Int z) s.store) p low in
        let range : is_in_range bits (Int (lower symbols values bounds round l r h at setting)) ≡ true = ap (λ z. is_in_range bits (Int z)) (sym low) ∙ a.range in
        let t0 : There symbols values bounds round at start.store
        = subst (There symbols values bounds round at) (sym is)
        (there_put symbols values bounds round at (variable_cell l.variable) (Int (lower symbols values bounds round l r h at setting)) s.store h.own h.apart t) in
        let d = all_turns bits line high symbols keeps values bounds outside_symbols sized x x_kept round l r h at setting scalar body (λ its. after_all symbols keeps values x more its) (λ its. RanAll symbols keeps values bits bounds more its)
        (λ j deep s t go. inner (turn_of symbols values bounds (length round) at j) deep (record s { way = Going }) t refl go)
        (λ j m. alike_all_set symbols keeps values x more i.1 (longer symbols keeps values x round r) (turn_of symbols values bounds (length round) at m) (turn_of symbols values bounds (length round) at j))
        (λ e its. unset_all symbols keeps values x more (among_last symbols keeps values x round r (ap (λ y. bytes_eq y x) h.variable ∙ e)) its)
        a.turns start s.store is t0 range (subst (λ (z : State). z.way ≡ Going) turned_is go) in
        subst (λ (z : State). After round at (after symbols keeps values x (turning {round = round} {l = l} {ps = bs} r h more) at) (Ran symbols keeps values bits bounds (turning {round = round} {l = l} {ps = bs} r h more) at) s.store z.store) (sym turned_is)
        (loop_done bits line high symbols keeps values bounds outside_symbols sized x x_kept round l r h at setting scalar body (λ its. after_all symbols keeps values x more its) (λ its. RanAll symbols keeps values bits bounds more its)
        (λ j deep s t go. inner (turn_of symbols values bounds (length round) at j) deep (record s { way = Going }) t refl go)
        (λ j m. alike_all_set symbols keeps values x more i.1 (longer symbols keeps values x round r) (turn_of symbols values bounds (length round) at m) (turn_of symbols values bounds (length round) at j))
        s.store (repeated a.turns (turn (sequential bits) None line l.variable l.step body) start).store a.turns counts.0 counts.1 range d)

  -- ---- the parts

  abbrev AllRun : Parts → Type 0
  AllRun ps =
      (round : List NormalLoop) (ls : List Loop) (later : List ℕ) → variables_of round ≡ names_of ls → AllJumpAhead later ps → Each IsStraightStanding (statements_in_parts ls ps) → Each (IsOutside keeps) (statements_in_parts ls ps)
      → (e : Pieces symbols keeps round (bare_all ps)) → ArePlainFor symbols keeps values x e → (at : ℕ → ℤ) → IsSetting symbols values bounds round at
      → (s : State) → There symbols values bounds round at s.store → Comes (labels_ahead ps later) s.way → IsOn (all ps s).way
      → After round at (after_all symbols keeps values x e at) (RanAll symbols keeps values bits bounds e at) s.store (all ps s).store

  -- a part without loops, and those behind it
  quiet_first : (p : Part) (ps : Parts) → ((later : List ℕ) → JumpsAhead later p → loops_of p ≡ []) → AllRun ps
      → (round : List NormalLoop) (ls : List Loop) (later : List ℕ) → variables_of round ≡ names_of ls → AllJumpAhead later (part p ps) → Each IsStraightStanding (statements_in_parts ls (part p ps)) → Each (IsOutside keeps) (statements_in_parts ls (part p ps))
      → (e : Pieces symbols keeps round (bare_all ps)) → ArePlainFor symbols keeps values x e → (at : ℕ → ℤ) → IsSetting symbols values bounds round at
      → (s : State) → There symbols values bounds round at s.store → Comes (labels_ahead (part p ps) later) s.way → IsOn (all (part p ps) s).way
      → After round at (after_all symbols keeps values x e at) (RanAll symbols keeps values bits bounds e at) s.store (all (part p ps) s).store
  quiet_first p ps bare_of more round ls later same j straight outside e i at setting s t c on =
      let a = quiet_part round ls same at setting p (bare_of (labels_ahead ps later) j.0) (each_front IsStraightStanding (statements_in ls p) (statements_in_parts ls ps) straight)
      (each_front (IsOutside keeps) (statements_in ls p) (statements_in_parts ls ps) outside) s t (all_from bits line ps (one p s) on) in
      let b = more round ls later same j.1 (each_rest IsStraightStanding (statements_in ls p) (statements_in_parts ls ps) straight)
      (each_rest (IsOutside keeps) (statements_in ls p) (statements_in_parts ls ps) outside) e i at setting (one p s) a.there (lands bits line p (labels_ahead ps later) j.0 s c) on in
      quiet_then round at (after_all symbols keeps values x e at) (RanAll symbols keeps values bits bounds e at) s.store (one p s).store (all (part p ps) s).store a b

  -- a loop, and the parts behind it
  loop_first : (l : Loop) (qs ps : Parts) → AllRun qs → AllRun ps → AllRun (part (Turns l qs) ps)
  loop_first l qs ps within more round ls later same j straight outside (next (turning r h inner) e) i at setting s t c on =
      let s1 : State = one (Turns l qs) s in
      let on1 : IsOn s1.way = all_from bits line ps s1 on in
      let begun : s.way ≡ Going = no_jump s.way (part_from bits line (Turns l qs) s on1) c in
      let done : s1.way ≡ Going = no_jump s1.way on1 (lands bits line (Turns l qs) [] j.0 s c) in
      let a = loop_runs round l qs (bare_all qs) r h inner i.0 at setting
      (λ its deep p q going go. within (round ++ r ∷ []) (ls ++ l ∷ []) [] (same_more round ls r l h.variable same) j.0
      (each_front IsStraightStanding (statements_in_parts (ls ++ l ∷ []) qs) (statements_in_parts ls ps) straight) (each_front (IsOutside keeps) (statements_in_parts (ls ++ l ∷ []) qs) (statements_in_parts ls ps) outside)
      inner i.0.1 its deep p q (going_comes (labels_ahead qs []) p.way going) (going_on (all qs p).way go)) s t done in
      let b = more round ls later same j.1 (each_rest IsStraightStanding (statements_in_parts (ls ++ l ∷ []) qs) (statements_in_parts ls ps) straight)
      (each_rest (IsOutside keeps) (statements_in_parts (ls ++ l ∷ []) qs) (statements_in_parts ls ps) outside) e i.1 at setting s1 a.there (going_comes (labels_ahead ps later) s1.way done) on in
      record {
        there = b.there;
        value = b.value ∙ (ap (value_or (after_all symbols keeps values x e at)) a.value ∙ one_after (after_all symbols keeps values x e at) (after symbols keeps values x (turning {round = round} {l = l} {ps = bare_all qs} r h inner) at) (s.store.held (variable_cell x)));
        elements = λ z zs. b.elements z zs ∙ a.elements z zs;
        ran = (a.ran, b.ran);
      }

  none_run : AllRun no_parts
  none_run round ls later same j straight outside none i at setting s t c on = record { there = t; value = refl; elements = λ z zs. refl; ran = tt }

  mutual
    parts_run : (ps : Parts) → AllRun ps
    parts_run no_parts = none_run
    parts_run (part p ps) = first_run p ps (parts_run ps)

    first_run : (p : Part) (ps : Parts) → AllRun ps → AllRun (part p ps)
    first_run (Run g) ps more = quiet_first (Run g) ps (λ later j. refl) more
    first_run (Turns l qs) ps more = loop_first l qs ps (parts_run qs) more
    first_run (Choice bs qs) ps more = quiet_first (Choice bs qs) ps (λ later j. j.0) more
    first_run (Label k) ps more = quiet_first (Label k) ps (λ later j. refl) more
    first_run (Jump k) ps more = quiet_first (Jump k) ps (λ later j. refl) more

  -- a loop by itself
  pub loop_alone : (l : Loop) (ps : Parts) → AllJumpAhead [] ps → Each IsStraightStanding (statements_in [] (Turns l ps)) → Each (IsOutside keeps) (statements_in [] (Turns l ps))
      → (e : Piece symbols keeps [] (Turns l (bare_all ps))) → IsPlainFor symbols keeps values x e → (at : ℕ → ℤ) → IsSetting symbols values bounds [] at
      → (s : State) → There symbols values bounds [] at s.store → (does (sequential bits) None (statement_of_part line (Turns l ps)) s).way ≡ Going
      → Done bits line high symbols keeps values bounds outside_symbols sized x x_kept [] at (after symbols keeps values x e at) (Ran symbols keeps values bits bounds e at) s.store (does (sequential bits) None (statement_of_part line (Turns l ps)) s).store
  loop_alone l ps j straight outside (turning r h inner) i at setting s t go =
      loop_runs [] l ps (bare_all ps) r h inner i at setting
      (λ its deep p q begun go. parts_run ps (r ∷ []) (l ∷ []) [] (same_more [] [] r l h.variable refl) j straight outside inner i.1 its deep p q (going_comes (labels_ahead ps []) p.way begun) (going_on (all ps p).way go)) s t go
