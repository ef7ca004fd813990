-- The run of a nest with IFs and jumps beside that of its normal body: both go on, or jump to the same label.
use Rattle.std.proofs.Common.{◌≡◌, refl, sym, ap, ◌∙◌, subst, ◌⊎◌, inl, inr, ℕ, ◌+◌, ◌≤◌, ℤ, Bool, true, false, ◌&&◌}
use Rattle.std.proofs.Common.{◌||◌, is_some, List, [], ◌∷◌, ◌++◌, length, map, Option, Some, None, Contains, Result, Ok}
use Rattle.std.proofs.Common.{Err, cond}
use Rattle.std.specs.Str.{bytes_eq}
use Rattle.std.proofs.lemmas.Bool.{or_parts}
use Rattle.std.proofs.lemmas.List.{map-append}
use Rattle.std.proofs.lemmas.List.Elements.{All-contains, Contains-append_left, Contains-push}
use Rattle.std.proofs.lemmas.Slice.Eq.{bytes_eq-Decides}
use Rattle.meaning_laws.proofs.arrays.Members.{here}
use Rattle.tree.specs.Operators.{as_truth}
use Rattle.tree.specs.Plain.{Do, Expression}
use Rattle.tree.specs.declared.ops.Fault.{Fault}
use Rattle.tree.specs.declared.ops.Value.{Value}
use Rattle.meaning.specs.Reads.{names_in}
use Rattle.meaning.specs.Run.{Act, State, Going, Jumping, arrives, chooses, does, does_all, either, goes, nothing}
use Rattle.meaning.specs.Store.{Store}
use Rattle.meaning.specs.Value.{truth_of, value_of}
use Rattle.rewrite.specs.Following.{sequential}
use Rattle.last_values.specs.Behind.{stands_behind}
use Rattle.last_values.specs.Occurrences.{stands_in, stands_in_bounds, stands_outside, stands_outside_in_branches}
use Rattle.last_values.specs.Occurrences.{stands_outside_in_each}
use Rattle.last_values.specs.declared.behind.NestedLoop.{NestedLoop}
use Rattle.linear_forms.proofs.Sizes.{both}
use Rattle.normal_loops.specs.Bodies.{normal_branches, normal_part, normal_parts, normal_turns}
use Rattle.normal_loops.specs.Loops.{nested, nested_in_branches}
use Rattle.normal_loops.specs.Normal.{are_normal, are_normal_branches, is_normal}
use Rattle.normal_loops.specs.Loops.{nested_in_parts, nested_loops, with_loop}
use Rattle.normal_loops.specs.Values.{normal_statement}
use Rattle.normal_loops.specs.Tests.{normal_test}
use Rattle.nest_order.specs.orders.Lists.{Each}
use Rattle.nest_order.proofs.runs.Going.{moved}
use Rattle.nest_order.proofs.runs.Results.{both_ok}
use Rattle.nest.specs.Blocks.{arms_of_branches, block_of_parts, guarded_statement, numeral, statement_of_part}
use Rattle.nest.specs.Bodies.{Standing, loops_in_branches, loops_in_parts, statements_in}
use Rattle.nest.specs.Bodies.{statements_in_branches, statements_in_parts}
use Rattle.nest.specs.Plain.{Branches, no_branches, branch, Guarded, Loop, Nest, Part, Run, Turns, Choice, Label}
use Rattle.nest.specs.Plain.{Jump, Parts, no_parts, part, parts}
use Rattle.last_values.specs.normal_forms.NormalLoops.{normal_loop, variables_of}
use Rattle.last_values.specs.declared.normal_forms.loops.NormalLoop.{NormalLoop}
use Rattle.pass_laws.specs.normal_runs.Sources.{IsNormalSource, apart_within, counters_in, ends_behind}
use Rattle.pass_laws.specs.normal_runs.Sources.{loops_in, variables_in}
use Rattle.pass_laws.specs.normal_values.Beside.{NamesSuit}
use Rattle.pass_laws.proofs.NormalValues.Bounds.{bounds_are_beside}
use Rattle.pass_laws.proofs.NormalValues.Chains.{expression_is_beside}
use Rattle.pass_laws.proofs.NormalValues.LastValues.{last_value_is_in_place}
use Rattle.pass_laws.proofs.NormalValues.Statements.{statement_is_beside}
use Rattle.pass_laws.proofs.NormalRuns.Held.{among, among_is, not_among}
use Rattle.pass_laws.proofs.NormalRuns.Moments.{Goes, moved_on}
use Rattle.pass_laws.proofs.NormalRuns.Names.{Around, apart_cases, are_apart, around_first, around_more, around_rest, fresh}
use Rattle.pass_laws.proofs.NormalRuns.Names.{last_cases, variables_last}
use Rattle.pass_laws.proofs.NormalRuns.OneLoop.{loop_goes}
use Rattle.pass_laws.proofs.NormalRuns.Places.{block_joined}
use Rattle.pass_laws.proofs.NormalRuns.Statements.{IsOutside, IsTied, statement_goes}
use Rattle.nest.specs.statement_loops.Names.{is_among}
use Rattle.pass_laws.proofs.LastRuns.Made.{each_front, each_rest}
use Rattle.pass_laws.specs.branch_meaning.Jumps.{AllJumpAhead, BranchesJumpAhead, JumpsAhead, labels_ahead, labels_before}
use Rattle.pass_laws.specs.branch_meaning.Sources.{IsStraightStanding, IsSuitedTest, tests_in_branches, tests_in_parts, tests_of}
use Rattle.pass_laws.proofs.BranchMeaning.Ways.{Comes, IsOn, ahead_more, all_from, choice_idle, chosen, going_comes, going_on}
use Rattle.pass_laws.proofs.BranchMeaning.Ways.{jump_idle, jumped, jumping_not_going, lands, no_jump, none_right, not_chosen}
use Rattle.pass_laws.proofs.BranchMeaning.Ways.{going_or_not, on_cases, part_from, run_idle}
use Rattle.pass_laws.proofs.BranchMeaning.Flat.{flat_nest, same_behind, same_loops}

-- ---- one condition

test_holds : (bits : ℕ) (e : Expression) (s : Store) (b : Bool) → truth_of (sequential bits) e s ≡ Ok b → (v : Value) × (value_of (sequential bits) e s ≡ Ok v) × (as_truth v ≡ Ok b)
test_holds bits e s b h = both_ok (value_of (sequential bits) e s) as_truth b h

test_from : (bits : ℕ) (e : Expression) (s : Store) (v : Value) (b : Bool) → value_of (sequential bits) e s ≡ Ok v → as_truth v ≡ Ok b → truth_of (sequential bits) e s ≡ Ok b
test_from bits e s v b h k = rw h k

-- one loop more round it, of the source and from 1 by 1
tied_more : (round : List NormalLoop) (r : NormalLoop) (l : Loop) (ls : List Loop) → r.variable ≡ l.variable → IsTied round ls → IsTied (round ++ r ∷ []) (ls ++ l ∷ [])
tied_more round r l ls same tie x c =
    subst (λ ys. Contains ys x) (sym (map-append (λ (k : Loop). k.variable) ls (l ∷ [])))
    (elim (last_cases (variables_of round) r.variable x (subst (λ ys. Contains ys x) (variables_last round r) c)) [
      | inl d ↦ Contains-append_left (map (λ (k : Loop). k.variable) ls) (l.variable ∷ []) x (tie x d)
      | inr e ↦ subst (λ y. Contains (map (λ (k : Loop). k.variable) ls ++ l.variable ∷ []) y) (sym same ∙ e) (Contains-push (map (λ (k : Loop). k.variable) ls) l.variable)
    ])

module _ (bits : ℕ) (low : 31 ≤ bits) (high : bits ≤ 63) (n : Nest) (source : IsNormalSource (flat_nest n)) (values : ℕ → ℤ) (start : Store)
    (bare_counters : (x : List ℕ) → Contains (counters_in (flat_nest n)) x → start.bounds x ≡ Some []) where
  abbrev N : Nest
  N = flat_nest n

  abbrev pub Going_beside : List NormalLoop → List ℕ → State → State → Type 0
  Going_beside round = Goes bits high (flat_nest n) source values start (apart_within (flat_nest n) round) round

  -- the moment, as if the run went on
  abbrev resumed : State → State
  resumed s = record s { way = Going }

  -- moments of the two runs
  pub record Both (round : List NormalLoop) (is : List ℕ) (s t : State) : Type 0 where
    pub way : t.way ≡ s.way
    pub goes : Goes bits high (flat_nest n) source values start (apart_within (flat_nest n) round) round is (record s { way = Going }) (record t { way = Going })

  pub as_both : (round : List NormalLoop) (is : List ℕ) (s t : State) → Going_beside round is s t → Both round is s t
  as_both round is s t g = record {
    way = g.way_beside ∙ sym g.way;
    goes = moved_on bits high N source values start (apart_within N round) round is s t (resumed s) (resumed t) refl refl refl refl g;
  }

  pub as_going : (round : List NormalLoop) (is : List ℕ) (s t : State) → s.way ≡ Going → Both round is s t → Going_beside round is s t
  as_going round is s t w b = moved_on bits high N source values start (apart_within N round) round is (resumed s) (resumed t) s t w refl (b.way ∙ w) refl b.goes

  -- the same stores
  other_way : (round : List NormalLoop) (is : List ℕ) (s t p q : State) → Both round is s t → p.store ≡ s.store → q.store ≡ t.store → q.way ≡ p.way → Both round is p q
  other_way round is s t p q b e f w = record {
    way = w;
    goes = moved_on bits high N source values start (apart_within N round) round is (resumed s) (resumed t) (resumed p) (resumed q) refl e refl f b.goes;
  }

  -- ---- what is known of parts

  pub record Known (round : List NormalLoop) (ls : List Loop) (ss : List Standing) (ms : List NestedLoop) (es : List Expression) (stands : List ℕ → Bool) : Type 0 where
    pub tie : IsTied round ls
    pub around : Around (flat_nest n) source round ss ms
    pub straight : Each IsStraightStanding ss
    pub tests : Each (IsSuitedTest (flat_nest n)) es
    pub outside : IsOutside (flat_nest n) round stands

  known_first : (round : List NormalLoop) (ls : List Loop) (ss ts : List Standing) (ms ks : List NestedLoop) (es fs : List Expression) (a b : List ℕ → Bool)
      → Known round ls (ss ++ ts) (ms ++ ks) (es ++ fs) (λ x. a x || b x) → Known round ls ss ms es a
  known_first round ls ss ts ms ks es fs a b k = record {
    tie = k.tie;
    around = around_first N source round ss ts ms ks k.around;
    straight = each_front IsStraightStanding ss ts k.straight;
    tests = each_front (IsSuitedTest N) es fs k.tests;
    outside = λ x e free. (or_parts (a x) (b x) (k.outside x e free)).0;
  }

  known_rest : (round : List NormalLoop) (ls : List Loop) (ss ts : List Standing) (ms ks : List NestedLoop) (es fs : List Expression) (a b : List ℕ → Bool)
      → Known round ls (ss ++ ts) (ms ++ ks) (es ++ fs) (λ x. a x || b x) → Known round ls ts ks fs b
  known_rest round ls ss ts ms ks es fs a b k = record {
    tie = k.tie;
    around = around_rest N source round ss ts ms ks k.around;
    straight = each_rest IsStraightStanding ss ts k.straight;
    tests = each_rest (IsSuitedTest N) es fs k.tests;
    outside = λ x e free. (or_parts (a x) (b x) (k.outside x e free)).1;
  }

  abbrev pub KnownPart : List NormalLoop → List Loop → Part → Type 0
  KnownPart round ls p = Known round ls (statements_in ls p) (nested_loops n.symbols round p) (tests_of p) (λ x. stands_outside x p)

  abbrev KnownParts : List NormalLoop → List Loop → Parts → Type 0
  KnownParts round ls ps = Known round ls (statements_in_parts ls ps) (nested_in_parts n.symbols round ps) (tests_in_parts ps) (λ x. stands_outside_in_each x ps)

  abbrev KnownBranches : List NormalLoop → List Loop → Branches → Type 0
  KnownBranches round ls bs = Known round ls (statements_in_branches ls bs) (nested_in_branches n.symbols round bs) (tests_in_branches bs) (λ x. stands_outside_in_branches x bs)

  -- ---- a condition

  names_suit : (round : List NormalLoop) (xs : List (List ℕ)) → ((x : List ℕ) → Contains xs x → Contains (counters_in (flat_nest n)) x → ⊥) → IsOutside (flat_nest n) round (is_among xs) → NamesSuit (apart_within (flat_nest n) round) round xs
  names_suit round xs counters outside x c a = by (apart_cases N round x a)
    where
      inside : (b : Bool) → is_among (variables_of round) x ≡ b → ends_behind N x ≡ true → Contains (variables_of round) x
      inside true f e = among_is (variables_of round) x f
      inside false f e = absurd (not_among xs x (outside x e (not_among (variables_of round) x f)) c)

      by : Contains (counters_in N) x ⊎ ((ends_behind N x ≡ true) ⊎ Contains (variables_of round) x) → Contains (variables_of round) x
      by (inl k) = absurd (counters x c k)
      by (inr (inl e)) = inside (is_among (variables_of round) x) refl e
      by (inr (inr k)) = k

  test_beside : (round : List NormalLoop) (is : List ℕ) (ls : List Loop) (ss : List Standing) (ms : List NestedLoop) (e : Expression) (s t : State) (b : Bool)
      → Around (flat_nest n) source round ss ms → IsSuitedTest (flat_nest n) e → IsOutside (flat_nest n) round (λ x. stands_in x e) → Both round is s t
      → truth_of (sequential bits) e s.store ≡ Ok b → truth_of (sequential bits) (normal_test n.symbols round e) t.store ≡ Ok b
  test_beside round is ls ss ms e s t b around suited outside h f =
      let v = test_holds bits e s.store b f in
      let suits = names_suit round (names_in e) (λ x c k. not_among (counters_in N) x (All-contains (λ x. is_among (counters_in N) x ≡ false) (names_in e) x suited.counters c) k) outside in
      test_from bits (normal_test n.symbols round e) t.store v.0 b
      (expression_is_beside bits n.symbols values (apart_within N round) round is s.store t.store e v.0 low high (are_apart N source round ss ms around) h.goes.stores suited.plain suits v.1) v.2

  -- ---- the parts

  abbrev one : Part → State → State
  one p = does (sequential bits) None (statement_of_part n.line p)

  abbrev all : Parts → State → State
  all ps = does_all (sequential bits) None (block_of_parts n.line ps)

  abbrev choosing : Branches → Act → State → State
  choosing bs other = chooses (sequential bits) None n.line (arms_of_branches n.line bs) other

  abbrev normal : List NormalLoop → Part → List Part
  normal round p = normal_part n (loops_in n) round p

  abbrev normal_all : List NormalLoop → Parts → List Part
  normal_all round ps = normal_parts n (loops_in n) round ps

  abbrev normal_choices : List NormalLoop → Branches → Branches
  normal_choices round bs = normal_branches n (loops_in n) round bs

  -- of parts: where the run of the source is on behind them, the other one is beside it
  abbrev pub PartsBeside : List NormalLoop → List ℕ → List Loop → Parts → Type 0
  PartsBeside round is ls ps =
      (later : List ℕ) → Known round ls (statements_in_parts ls ps) (nested_in_parts n.symbols round ps) (tests_in_parts ps) (λ x. stands_outside_in_each x ps)
      → are_normal n.symbols round ps ≡ true → AllJumpAhead later ps → (s t : State) → Both round is s t
      → Comes (labels_ahead ps later) s.way → IsOn (does_all (sequential bits) None (block_of_parts n.line ps) s).way
      → Both round is (does_all (sequential bits) None (block_of_parts n.line ps) s) (does_all (sequential bits) None (block_of_parts n.line (parts (normal_parts n (loops_in n) round ps))) t)

  run_beside : (round : List NormalLoop) (is : List ℕ) (ls : List Loop) (g : Guarded) (later : List ℕ) → Known round ls (statements_in ls (Run g)) (nested_loops n.symbols round (Run g)) (tests_of (Run g)) (λ x. stands_outside x (Run g))
      → (s t : State) → Both round is s t → Comes later s.way → IsOn (does (sequential bits) None (guarded_statement g) s).way
      → Both round is (does (sequential bits) None (guarded_statement g) s) (does (sequential bits) None (guarded_statement (normal_statement n.symbols round g)) t)
  run_beside round is ls g later k s t b c on = by (on_cases s.way (part_from bits n.line (Run g) s on))
    where
      stays : (j : ℕ) → s.way ≡ Jumping j → Both round is (does (sequential bits) None (guarded_statement g) s) (does (sequential bits) None (guarded_statement (normal_statement n.symbols round g)) t)
      stays j e =
          let p = run_idle bits n.line g s (jumping_not_going s.way j e) in
          let q = run_idle bits n.line (normal_statement n.symbols round g) t (jumping_not_going t.way j (b.way ∙ e)) in
          subst (λ (x : State). Both round is x (does (sequential bits) None (guarded_statement (normal_statement n.symbols round g)) t)) (sym p) (subst (λ (x : State). Both round is s x) (sym q) b)

      by : (s.way ≡ Going) ⊎ ((j : ℕ) × (s.way ≡ Jumping j)) → Both round is (does (sequential bits) None (guarded_statement g) s) (does (sequential bits) None (guarded_statement (normal_statement n.symbols round g)) t)
      by (inl w) =
          let done : (does (sequential bits) None (guarded_statement g) s).way ≡ Going
          = no_jump (does (sequential bits) None (guarded_statement g) s).way on (lands bits n.line (Run g) [] tt s (going_comes [] s.way w)) in
          as_both round is (does (sequential bits) None (guarded_statement g) s) (does (sequential bits) None (guarded_statement (normal_statement n.symbols round g)) t)
          (statement_goes statement_is_beside bits low high N source values start round is (statements_in ls (Run g)) [] k.around ls g k.straight.0
          (k.around.suited (record { loops = ls; statement = g }) (here (record { loops = ls; statement = g }) [])) k.outside k.tie s t (as_going round is s t w b) done)
      by (inr p) = stays p.0 p.1

  label_beside : (round : List NormalLoop) (is : List ℕ) (j : ℕ) (s t : State) → Both round is s t → Both round is (one (Label j) s) (one (Label j) t)
  label_beside round is j s t b = by (arrives j s.way) (arrives j t.way) (ap (arrives j) b.way)
    where
      by : (x y : Bool) → y ≡ x → Both round is (either x (goes Going) nothing s) (either y (goes Going) nothing t)
      by true true e = other_way round is s t (resumed s) (resumed t) b refl refl refl
      by true false e = let no : ⊥ = cc in absurd no
      by false true e = let no : ⊥ = cc in absurd no
      by false false e = b

  jump_beside : (round : List NormalLoop) (is : List ℕ) (j : ℕ) (s t : State) → Both round is s t → IsOn (one (Jump j) s).way → Both round is (one (Jump j) s) (one (Jump j) t)
  jump_beside round is j s t b on = by (on_cases s.way (part_from bits n.line (Jump j) s on))
    where
      by : (s.way ≡ Going) ⊎ ((i : ℕ) × (s.way ≡ Jumping i)) → Both round is (one (Jump j) s) (one (Jump j) t)
      by (inl w) =
          let p = jumped bits n.line j s w in
          let q = jumped bits n.line j t (b.way ∙ w) in
          other_way round is s t (one (Jump j) s) (one (Jump j) t) b (ap (λ (z : State). z.store) p) (ap (λ (z : State). z.store) q) (ap (λ (z : State). z.way) q ∙ sym (ap (λ (z : State). z.way) p))
      by (inr i) =
          let p = jump_idle bits n.line j s (jumping_not_going s.way i.0 i.1) in
          let q = jump_idle bits n.line j t (jumping_not_going t.way i.0 (b.way ∙ i.1)) in
          subst (λ (x : State). Both round is x (one (Jump j) t)) (sym p) (subst (λ (x : State). Both round is s x) (sym q) b)

  -- ---- a block IF

  -- its first condition and what is behind it
  module _ (round : List NormalLoop) (is : List ℕ) (test : Expression) (qs : Parts) (bs : Branches) (other other' : Act)
      (asked : (s t : State) (b : Bool) → Both round is s t → truth_of (sequential bits) test s.store ≡ Ok b → truth_of (sequential bits) (normal_test n.symbols round test) t.store ≡ Ok b)
      (first : (s t : State) → s.way ≡ Going → Both round is s t → IsOn (all qs s).way → Both round is (all qs s) (all (parts (normal_all round qs)) t))
      (rest : (s t : State) → s.way ≡ Going → Both round is s t → IsOn (choosing bs other s).way → Both round is (choosing bs other s) (choosing (normal_choices round bs) other' t)) where
    abbrev given : State → State
    given = choosing (branch test qs bs) other

    abbrev beside : State → State
    beside = choosing (normal_choices round (branch test qs bs)) other'

    module _ (s t : State) (b : Both round is s t) (on : IsOn (given s).way) where
      stays : (s.way ≡ Going → ⊥) → Both round is (given s) (beside t)
      stays idle =
          let p = choice_idle bits n.line test qs bs other s idle in
          let q = choice_idle bits n.line (normal_test n.symbols round test) (parts (normal_all round qs)) (normal_choices round bs) other' t (λ e. idle (sym b.way ∙ e)) in
          subst (λ (x : State). Both round is x (beside t)) (sym p) (subst (λ (x : State). Both round is s x) (sym q) b)

      answered : s.way ≡ Going → (r : Result Bool Fault) → truth_of (sequential bits) test s.store ≡ r → Both round is (given s) (beside t)
      answered w (Err f) e = absurd (subst IsOn (not_chosen bits n.line test qs bs other s f w e) on)
      answered w (Ok true) e =
          let s1 : State = moved s (s.steps + 1) s.store in
          let t1 : State = moved t (t.steps + 1) t.store in
          let p = chosen bits n.line test qs bs other s true w e in
          let q = chosen bits n.line (normal_test n.symbols round test) (parts (normal_all round qs)) (normal_choices round bs) other' t true (b.way ∙ w) (asked s t true b e) in
          subst (λ (x : State). Both round is x (beside t)) (sym p)
          (subst (λ (x : State). Both round is (all qs s1) x) (sym q)
          (first s1 t1 refl (other_way round is s t s1 t1 b refl refl refl) (subst (λ (x : State). IsOn x.way) p on)))
      answered w (Ok false) e =
          let s1 : State = moved s (s.steps + 1) s.store in
          let t1 : State = moved t (t.steps + 1) t.store in
          let p = chosen bits n.line test qs bs other s false w e in
          let q = chosen bits n.line (normal_test n.symbols round test) (parts (normal_all round qs)) (normal_choices round bs) other' t false (b.way ∙ w) (asked s t false b e) in
          subst (λ (x : State). Both round is x (beside t)) (sym p)
          (subst (λ (x : State). Both round is (choosing bs other s1) x) (sym q)
          (rest s1 t1 refl (other_way round is s t s1 t1 b refl refl refl) (subst (λ (x : State). IsOn x.way) p on)))

      branch_beside : Both round is (given s) (beside t)
      branch_beside = by (going_or_not s.way)
        where
          by : (s.way ≡ Going) ⊎ (s.way ≡ Going → ⊥) → Both round is (given s) (beside t)
          by (inl e) = answered e (truth_of (sequential bits) test s.store) refl
          by (inr idle) = stays idle

  loop_case : (round : List NormalLoop) (is : List ℕ) (l : Loop) (ps : Parts) (ls : List Loop) (o : Option NormalLoop) → normal_loop n.symbols round l ≡ o
      → (is_some o && are_normal n.symbols (with_loop round o) ps) ≡ true
      → Known round ls (statements_in_parts (ls ++ l ∷ []) ps) (nested round o ++ nested_in_parts n.symbols (with_loop round o) ps) (tests_in_parts ps) (λ x. stands_outside x (Turns l ps))
      → AllJumpAhead [] ps → ((rs : List NormalLoop) (js : List ℕ) → PartsBeside rs js (ls ++ l ∷ []) ps)
      → (s t : State) → Going_beside round is s t → (one (Turns l ps) s).way ≡ Going
      → Going_beside round is (one (Turns l ps) s) (all (parts (normal_turns n (loops_in n) round l o (normal_all (with_loop round o) ps))) t)
  loop_case round is l ps ls None e h k jumps more s t g go = let no : ⊥ = cc in absurd no
  loop_case round is l ps ls (Some r) e h k jumps more s t g go =
      let ss : List Standing = statements_in_parts (ls ++ l ∷ []) ps in
      let ms : List NestedLoop = nested_in_parts n.symbols (round ++ r ∷ []) ps in
      let new = fresh N source round ss ms l r e k.around in
      let inside = around_more N source round ss ms l r e k.around in
      let known : KnownParts (round ++ r ∷ []) (ls ++ l ∷ []) ps = record {
        tie = tied_more round r l ls new.variable_is k.tie;
        around = inside;
        straight = k.straight;
        tests = k.tests;
        outside = inner_outside round l r ps new.variable_is k.outside;
      } in
      let qs : Parts = parts (normal_all (round ++ r ∷ []) ps) in
      let go' = subst (λ x. (does (sequential bits) None (Do n.line x l.first l.last (numeral l.step) (block_of_parts n.line ps)) s).way ≡ Going) (sym new.variable_is) go in
      let stands = same_behind n r.variable (variable_there r.variable new.variable_in) in
      let result = loop_goes bounds_are_beside last_value_is_in_place bits low high N source values start bare_counters round is ss ms l r e k.around ps qs
      (λ i p q b w. as_going (round ++ r ∷ []) (is ++ i ∷ []) (all ps p) (all qs q) w
      (more (round ++ r ∷ []) (is ++ i ∷ []) [] known h jumps p q (as_both (round ++ r ∷ []) (is ++ i ∷ []) p q b) (going_comes (labels_ahead ps []) p.way b.way) (going_on (all ps p).way w)))
      s t g go' (stands_behind (length n.symbols) (loops_in n) n.body r.variable) stands in
      subst (λ x. Going_beside round is (does (sequential bits) None (Do n.line x l.first l.last (numeral l.step) (block_of_parts n.line ps)) s)
      (all (parts (normal_turns n (loops_in n) round l (Some r) (normal_all (round ++ r ∷ []) ps))) t)) new.variable_is result
    where
      variable_there : (x : List ℕ) → Contains (variables_in N) x → is_among (variables_in n) x ≡ true
      variable_there x c = among (variables_in n) x (subst (λ ms. Contains (map (λ (m : NestedLoop). m.turns.variable) ms) x) (same_loops n) c)

      inner_outside : (round : List NormalLoop) (l : Loop) (r : NormalLoop) (ps : Parts) → r.variable ≡ l.variable → IsOutside N round (λ x. stands_outside x (Turns l ps)) → IsOutside N (round ++ r ∷ []) (λ x. stands_outside_in_each x ps)
      inner_outside round l r ps v h x e free = by (bytes_eq l.variable x) refl (or_parts (stands_in_bounds x l) (cond (bytes_eq l.variable x) false (stands_outside_in_each x ps)) (h x e (λ c. free (subst (λ ys. Contains ys x) (sym (variables_last round r)) (Contains-append_left (variables_of round) (r.variable ∷ []) x c))))).1
        where
          by : (b : Bool) → bytes_eq l.variable x ≡ b → cond b false (stands_outside_in_each x ps) ≡ false → stands_outside_in_each x ps ≡ false
          by true f k =
              let same : r.variable ≡ x = v ∙ (bytes_eq-Decides l.variable x).0 f in
              absurd (free (subst (Contains (variables_of (round ++ r ∷ []))) same
              (subst (λ ys. Contains ys r.variable) (sym (variables_last round r)) (Contains-push (variables_of round) r.variable))))
          by false f k = k

  mutual
    pub part_beside : (round : List NormalLoop) (is : List ℕ) (ls : List Loop) (p : Part) (later : List ℕ) → KnownPart round ls p → is_normal n.symbols round p ≡ true → JumpsAhead later p
        → (s t : State) → Both round is s t → Comes (labels_before p later) s.way → IsOn (one p s).way → Both round is (one p s) (all (parts (normal round p)) t)
    part_beside round is ls (Run g) later k h j s t b c on = run_beside round is ls g later k s t b c on
    part_beside round is ls (Turns l ps) later k h j s t b c on =
        let begun : s.way ≡ Going = no_jump s.way (part_from bits n.line (Turns l ps) s on) c in
        let done : (one (Turns l ps) s).way ≡ Going = no_jump (one (Turns l ps) s).way on (lands bits n.line (Turns l ps) [] j s c) in
        as_both round is (one (Turns l ps) s) (all (parts (normal round (Turns l ps))) t)
        (loop_case round is l ps ls (normal_loop n.symbols round l) refl h (record { tie = k.tie; around = k.around; straight = k.straight; tests = k.tests; outside = k.outside }) j
        (λ rs js later k h j s t b c on. parts_beside rs js (ls ++ l ∷ []) ps later k h j s t b c on) s t (as_going round is s t begun b) done)
    part_beside round is ls (Choice bs ps) later k h j s t b c on =
        let m = both (are_normal_branches n.symbols round bs) (are_normal n.symbols round ps) h in
        let known = known_rest round ls (statements_in_branches ls bs) (statements_in_parts ls ps) (nested_in_branches n.symbols round bs) (nested_in_parts n.symbols round ps) (tests_in_branches bs) (tests_in_parts ps) (λ x. stands_outside_in_branches x bs) (λ x. stands_outside_in_each x ps) k in
        choice_beside round is ls bs (all ps) (all (parts (normal_all round ps))) later
        (known_first round ls (statements_in_branches ls bs) (statements_in_parts ls ps) (nested_in_branches n.symbols round bs) (nested_in_parts n.symbols round ps) (tests_in_branches bs) (tests_in_parts ps) (λ x. stands_outside_in_branches x bs) (λ x. stands_outside_in_each x ps) k)
        m.0 j.1
        (λ p q d v o. parts_beside round is ls ps later known m.1 j.2 p q d (ahead_more ps later p.way (none_right (loops_in_branches bs) (loops_in_parts ps) j.0) v) o) s t b c on
    part_beside round is ls (Label i) later k h j s t b c on = label_beside round is i s t b
    part_beside round is ls (Jump i) later k h j s t b c on = jump_beside round is i s t b on

    choice_beside : (round : List NormalLoop) (is : List ℕ) (ls : List Loop) (bs : Branches) (other other' : Act) (later : List ℕ) → KnownBranches round ls bs
        → are_normal_branches n.symbols round bs ≡ true → BranchesJumpAhead later bs
        → ((s t : State) → Both round is s t → Comes later s.way → IsOn (other s).way → Both round is (other s) (other' t))
        → (s t : State) → Both round is s t → Comes later s.way → IsOn (choosing bs other s).way
        → Both round is (choosing bs other s) (choosing (normal_choices round bs) other' t)
    choice_beside round is ls no_branches other other' later k h j last s t b c on = last s t b c on
    choice_beside round is ls (branch test qs bs) other other' later k h j last s t b c on =
        let first = known_first round ls (statements_in_parts ls qs) (statements_in_branches ls bs) (nested_in_parts n.symbols round qs) (nested_in_branches n.symbols round bs) (test ∷ tests_in_parts qs) (tests_in_branches bs)
        (λ x. stands_in x test || stands_outside_in_each x qs) (λ x. stands_outside_in_branches x bs) k in
        let rest = known_rest round ls (statements_in_parts ls qs) (statements_in_branches ls bs) (nested_in_parts n.symbols round qs) (nested_in_branches n.symbols round bs) (test ∷ tests_in_parts qs) (tests_in_branches bs)
        (λ x. stands_in x test || stands_outside_in_each x qs) (λ x. stands_outside_in_branches x bs) k in
        let inner : KnownParts round ls qs = record {
          tie = first.tie;
          around = first.around;
          straight = first.straight;
          tests = first.tests.1;
          outside = λ x f free. (or_parts (stands_in x test) (stands_outside_in_each x qs) (first.outside x f free)).1;
        } in
        let both_normal = both (are_normal n.symbols round qs) (are_normal_branches n.symbols round bs) h in
        branch_beside round is test qs bs other other'
        (λ p r v d f. test_beside round is ls (statements_in_parts ls qs) (nested_in_parts n.symbols round qs) test p r v first.around first.tests.0
        (λ x g free. (or_parts (stands_in x test) (stands_outside_in_each x qs) (first.outside x g free)).0) d f)
        (λ p r w d o. parts_beside round is ls qs later inner both_normal.0 j.0 p r d (going_comes (labels_ahead qs later) p.way w) o)
        (λ p r w d o. choice_beside round is ls bs other other' later rest both_normal.1 j.1 last p r d (going_comes later p.way w) o) s t b on

    parts_beside : (round : List NormalLoop) (is : List ℕ) (ls : List Loop) (ps : Parts) → PartsBeside round is ls ps
    parts_beside round is ls no_parts later k h j s t b c on = b
    parts_beside round is ls (part p ps) later k h j s t b c on =
        let m = both (is_normal n.symbols round p) (are_normal n.symbols round ps) h in
        let s1 : State = one p s in
        let first = known_first round ls (statements_in ls p) (statements_in_parts ls ps) (nested_loops n.symbols round p) (nested_in_parts n.symbols round ps) (tests_of p) (tests_in_parts ps) (λ x. stands_outside x p) (λ x. stands_outside_in_each x ps) k in
        let rest = known_rest round ls (statements_in ls p) (statements_in_parts ls ps) (nested_loops n.symbols round p) (nested_in_parts n.symbols round ps) (tests_of p) (tests_in_parts ps) (λ x. stands_outside x p) (λ x. stands_outside_in_each x ps) k in
        let a = part_beside round is ls p (labels_ahead ps later) first m.0 j.0 s t b c (all_from bits n.line ps s1 on) in
        let d = parts_beside round is ls ps later rest m.1 j.1 s1 (all (parts (normal round p)) t) a (lands bits n.line p (labels_ahead ps later) j.0 s c) on in
        subst (λ (z : State). Both round is (all (part p ps) s) z) (sym (block_joined bits n.line (normal round p) (normal_all round ps) t)) d
