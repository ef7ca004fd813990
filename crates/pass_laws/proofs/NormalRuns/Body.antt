-- A nest beside its normal body.
use Rattle.std.proofs.Common.{◌≡◌, refl, sym, ap, ◌∙◌, subst, ℕ, ◌≤◌, ℤ, Bool, true, false, cond, ◌&&◌, not, is_some}
use Rattle.std.proofs.Common.{List, [], ◌∷◌, ◌++◌, length, map, Option, Some, None, Contains, inl, inr}
use Rattle.std.specs.Str.{bytes_eq}
use Rattle.std.proofs.lemmas.Bool.{or_parts}
use Rattle.std.proofs.lemmas.List.{map-append}
use Rattle.std.proofs.lemmas.List.Elements.{All-contains, Contains-append_left, Contains-push}
use Rattle.std.proofs.lemmas.Slice.Eq.{bytes_eq-Decides}
use Rattle.std.specs.List.{list_all}
use Rattle.meaning_laws.proofs.arrays.Members.{nowhere, here}
use Rattle.tree.specs.Plain.{Do}
use Rattle.meaning.specs.Store.{Store}
use Rattle.meaning.specs.Run.{State, Going, does, does_all}
use Rattle.rewrite.specs.Following.{sequential}
use Rattle.last_values.specs.Behind.{may_end_behind, stands_behind}
use Rattle.last_values.specs.Occurrences.{occurs_only_within, stands_in_bounds, stands_outside, stands_outside_in_each}
use Rattle.last_values.specs.declared.behind.NestedLoop.{NestedLoop}
use Rattle.linear_forms.proofs.Sizes.{both}
use Rattle.normal_loops.specs.Bodies.{normal_part, normal_parts, normal_turns}
use Rattle.normal_loops.specs.Loops.{nested, nested_in_parts, nested_loops, with_loop}
use Rattle.normal_loops.specs.Normal.{are_normal, is_normal}
use Rattle.normal_loops.specs.Normalised.{only_one}
use Rattle.nest.specs.Blocks.{block_of_parts, numeral, statement_of_part}
use Rattle.nest.specs.Bodies.{Standing, statements_in, statements_in_parts}
use Rattle.nest.specs.Plain.{Loop, Nest, Part, Run, Turns, Choice, Label, Jump, Parts, no_parts, part, parts}
use Rattle.last_values.specs.normal_forms.NormalLoops.{normal_loop, variables_of}
use Rattle.last_values.specs.declared.normal_forms.loops.NormalLoop.{NormalLoop}
use Rattle.pass_laws.specs.normal_values.Laws.{BoundsBeside, LastValueInPlace, StatementBeside}
use Rattle.nest.specs.statement_loops.Names.{is_among}
use Rattle.pass_laws.specs.normal_runs.Laws.{BodyBeside}
use Rattle.pass_laws.specs.normal_runs.Sources.{AreStraight, IsNormalSource, IsStraight, apart_within, counters_in, loops_in}
use Rattle.pass_laws.specs.normal_runs.Sources.{variables_in, IsSuitedStatement}
use Rattle.pass_laws.proofs.NormalValues.Bounds.{bounds_are_beside}
use Rattle.pass_laws.proofs.NormalValues.LastValues.{last_value_is_in_place}
use Rattle.pass_laws.proofs.NormalValues.Statements.{statement_is_beside}
use Rattle.pass_laws.proofs.NormalRuns.Moments.{Goes, as_beside}
use Rattle.pass_laws.proofs.NormalRuns.Names.{Around, around_first, around_more, around_rest, fresh, last_cases, variables_last}
use Rattle.pass_laws.proofs.NormalRuns.OneLoop.{loop_goes}
use Rattle.pass_laws.proofs.NormalRuns.Places.{block_joined}
use Rattle.pass_laws.proofs.NormalRuns.Running.{loop_done}
use Rattle.pass_laws.proofs.NormalRuns.Statements.{IsOutside, IsTied, statement_goes, wrote}

-- ---- where a part goes on, it began so

mutual
  part_from : (bits line : ℕ) (p : Part) (s : State) → IsStraight p → (does (sequential bits) None (statement_of_part line p) s).way ≡ Going → s.way ≡ Going
  part_from bits line (Run g) s h w = (wrote bits g s h.unguarded w).from
  part_from bits line (Turns l ps) s h w = (loop_done bits line l.variable l.first l.last l.step (block_of_parts line ps) s w).from
  part_from bits line (Choice bs ps) s h w = absurd h
  part_from bits line (Label k) s h w = absurd h
  part_from bits line (Jump k) s h w = absurd h

  parts_from : (bits line : ℕ) (ps : Parts) (s : State) → AreStraight ps → (does_all (sequential bits) None (block_of_parts line ps) s).way ≡ Going → s.way ≡ Going
  parts_from bits line no_parts s h w = w
  parts_from bits line (part p ps) s h w = part_from bits line p s h.0 (parts_from bits line ps (does (sequential bits) None (statement_of_part line p) s) h.1 w)

-- ---- where a variable stands

module _ (n : Nest) where
  first_outside : (round : List NormalLoop) (p : Part) (ps : Parts) → IsOutside n round (λ x. stands_outside_in_each x (part p ps)) → IsOutside n round (λ x. stands_outside x p)
  first_outside round p ps h x e free = (or_parts (stands_outside x p) (stands_outside_in_each x ps) (h x e free)).0

  rest_outside : (round : List NormalLoop) (p : Part) (ps : Parts) → IsOutside n round (λ x. stands_outside_in_each x (part p ps)) → IsOutside n round (λ x. stands_outside_in_each x ps)
  rest_outside round p ps h x e free = (or_parts (stands_outside x p) (stands_outside_in_each x ps) (h x e free)).1

  inner_outside : (round : List NormalLoop) (l : Loop) (r : NormalLoop) (ps : Parts) → r.variable ≡ l.variable → IsOutside n round (λ x. stands_outside x (Turns l ps)) → IsOutside n (round ++ r ∷ []) (λ x. stands_outside_in_each x ps)
  inner_outside round l r ps v h x e free = by (bytes_eq l.variable x) refl (or_parts (stands_in_bounds x l) (cond (bytes_eq l.variable x) false (stands_outside_in_each x ps)) (h x e (λ c. free (subst (λ ys. Contains ys x) (sym (variables_last round r)) (Contains-append_left (variables_of round) (r.variable ∷ []) x c))))).1
    where
      by : (b : Bool) → bytes_eq l.variable x ≡ b → cond b false (stands_outside_in_each x ps) ≡ false → stands_outside_in_each x ps ≡ false
      by true f k =
          let same : r.variable ≡ x = v ∙ (bytes_eq-Decides l.variable x).0 f in
          absurd (free (subst (Contains (variables_of (round ++ r ∷ []))) same
          (subst (λ ys. Contains ys r.variable) (sym (variables_last round r)) (Contains-push (variables_of round) r.variable))))
      by false f k = k

  not_true : (b : Bool) → not b ≡ true → b ≡ false
  not_true true h = let no : ⊥ = cc in absurd no
  not_true false h = refl

  body_outside : IsOutside n [] (λ x. stands_outside x n.body)
  unfolding stands_behind
  body_outside x e free =
      let p = both (is_among (variables_in n) x) (occurs_only_within x n.body && list_all (may_end_behind (length n.symbols) x) (loops_in n)) e in
      let q = both (occurs_only_within x n.body) (list_all (may_end_behind (length n.symbols) x) (loops_in n)) p.1 in
      not_true (stands_outside x n.body) q.0

-- ---- all parts

-- one loop more round it, of the source and from 1 by 1
tied_more : (round : List NormalLoop) (r : NormalLoop) (l : Loop) (ls : List Loop) → r.variable ≡ l.variable → IsTied round ls → IsTied (round ++ r ∷ []) (ls ++ l ∷ [])
tied_more round r l ls same tie x c =
    subst (λ ys. Contains ys x) (sym (map-append (λ (k : Loop). k.variable) ls (l ∷ [])))
    (elim (last_cases (variables_of round) r.variable x (subst (λ ys. Contains ys x) (variables_last round r) c)) [
      | inl d ↦ Contains-append_left (map (λ (k : Loop). k.variable) ls) (l.variable ∷ []) x (tie x d)
      | inr e ↦ subst (λ y. Contains (map (λ (k : Loop). k.variable) ls ++ l.variable ∷ []) y) (sym same ∙ e) (Contains-push (map (λ (k : Loop). k.variable) ls) l.variable)
    ])

module _ (statement_beside : StatementBeside) (bounds_beside : BoundsBeside) (last_value : LastValueInPlace) (bits : ℕ) (low : 31 ≤ bits) (high : bits ≤ 63) (n : Nest) (source : IsNormalSource n)
    (values : ℕ → ℤ) (start : Store) (bare_counters : (x : List ℕ) → Contains (counters_in n) x → start.bounds x ≡ Some []) where
  abbrev Both : List NormalLoop → List ℕ → State → State → Type 0
  Both round = Goes bits high n source values start (apart_within n round) round

  abbrev given : Parts → State → State
  given ps = does_all (sequential bits) None (block_of_parts n.line ps)

  abbrev beside : List Part → State → State
  beside ps = does_all (sequential bits) None (block_of_parts n.line (parts ps))

  loop_case : (round : List NormalLoop) (is : List ℕ) (l : Loop) (ps : Parts) (ls : List Loop) (o : Option NormalLoop) → normal_loop n.symbols round l ≡ o
      → (is_some o && are_normal n.symbols (with_loop round o) ps) ≡ true
      → Around n source round (statements_in_parts (ls ++ l ∷ []) ps) (nested round o ++ nested_in_parts n.symbols (with_loop round o) ps) → IsOutside n round (λ x. stands_outside x (Turns l ps))
      → IsTied round ls
      → ((rs : List NormalLoop) (js : List ℕ) (s t : State) → IsTied rs (ls ++ l ∷ []) → Around n source rs (statements_in_parts (ls ++ l ∷ []) ps) (nested_in_parts n.symbols rs ps) → are_normal n.symbols rs ps ≡ true
      → IsOutside n rs (λ x. stands_outside_in_each x ps) → Both rs js s t → (given ps s).way ≡ Going → Both rs js (given ps s) (beside (normal_parts n (loops_in n) rs ps) t))
      → (s t : State) → Both round is s t → (does (sequential bits) None (statement_of_part n.line (Turns l ps)) s).way ≡ Going
      → Both round is (does (sequential bits) None (statement_of_part n.line (Turns l ps)) s) (beside (normal_turns n (loops_in n) round l o (normal_parts n (loops_in n) (with_loop round o) ps)) t)
  loop_case round is l ps ls None e h around outside tie more s t g go = let no : ⊥ = cc in absurd no
  loop_case round is l ps ls (Some r) e h around outside tie more s t g go =
      let ss : List Standing = statements_in_parts (ls ++ l ∷ []) ps in
      let ms : List NestedLoop = nested_in_parts n.symbols (round ++ r ∷ []) ps in
      let new = fresh n source round ss ms l r e around in
      let inside = around_more n source round ss ms l r e around in
      let out = inner_outside n round l r ps new.variable_is outside in
      let qs : Parts = parts (normal_parts n (loops_in n) (round ++ r ∷ []) ps) in
      let go' = subst (λ x. (does (sequential bits) None (Do n.line x l.first l.last (numeral l.step) (block_of_parts n.line ps)) s).way ≡ Going) (sym new.variable_is) go in
      let result = loop_goes bounds_beside last_value bits low high n source values start bare_counters round is ss ms l r e around ps qs
      (λ i p q b w. more (round ++ r ∷ []) (is ++ i ∷ []) p q (tied_more round r l ls new.variable_is tie) inside h out b w) s t g go' (stands_behind (length n.symbols) (loops_in n) n.body r.variable) refl in
      subst (λ x. Both round is (does (sequential bits) None (Do n.line x l.first l.last (numeral l.step) (block_of_parts n.line ps)) s)
      (beside (normal_turns n (loops_in n) round l (Some r) (normal_parts n (loops_in n) (round ++ r ∷ []) ps)) t)) new.variable_is result

  mutual
    part_beside : (round : List NormalLoop) (is : List ℕ) (p : Part) (ls : List Loop) (s t : State) → IsTied round ls → Around n source round (statements_in ls p) (nested_loops n.symbols round p) → is_normal n.symbols round p ≡ true → IsStraight p
        → IsOutside n round (λ x. stands_outside x p) → Both round is s t → (does (sequential bits) None (statement_of_part n.line p) s).way ≡ Going
        → Both round is (does (sequential bits) None (statement_of_part n.line p) s) (beside (normal_part n (loops_in n) round p) t)
    part_beside round is (Run g) ls s t tie around h straight outside b go =
        statement_goes statement_beside bits low high n source values start round is (statements_in ls (Run g)) [] around ls g straight
        (around.suited (record { loops = ls; statement = g }) (here (record { loops = ls; statement = g }) [])) outside tie s t b go
    part_beside round is (Turns l ps) ls s t tie around h straight outside b go =
        loop_case round is l ps ls (normal_loop n.symbols round l) refl h around outside tie (λ rs js p q i a k o c w. parts_beside rs js ps (ls ++ l ∷ []) p q i a k straight o c w) s t b go
    part_beside round is (Choice bs ps) ls s t tie around h straight outside b go = absurd straight
    part_beside round is (Label k) ls s t tie around h straight outside b go = absurd straight
    part_beside round is (Jump k) ls s t tie around h straight outside b go = absurd straight

    parts_beside : (round : List NormalLoop) (is : List ℕ) (ps : Parts) (ls : List Loop) (s t : State) → IsTied round ls → Around n source round (statements_in_parts ls ps) (nested_in_parts n.symbols round ps) → are_normal n.symbols round ps ≡ true → AreStraight ps
        → IsOutside n round (λ x. stands_outside_in_each x ps) → Both round is s t → (given ps s).way ≡ Going → Both round is (given ps s) (beside (normal_parts n (loops_in n) round ps) t)
    parts_beside round is no_parts ls s t tie around h straight outside b go = b
    parts_beside round is (part p ps) ls s t tie around h straight outside b go =
        let k = both (is_normal n.symbols round p) (are_normal n.symbols round ps) h in
        let s1 : State = does (sequential bits) None (statement_of_part n.line p) s in
        let one = part_beside round is p ls s t tie
        (around_first n source round (statements_in ls p) (statements_in_parts ls ps) (nested_loops n.symbols round p) (nested_in_parts n.symbols round ps) around) k.0 straight.0 (first_outside n round p ps outside) b
        (parts_from bits n.line ps s1 straight.1 go) in
        let two = parts_beside round is ps ls s1 (beside (normal_part n (loops_in n) round p) t) tie
        (around_rest n source round (statements_in ls p) (statements_in_parts ls ps) (nested_loops n.symbols round p) (nested_in_parts n.symbols round ps) around) k.1 straight.1 (rest_outside n round p ps outside) one go in
        subst (λ (z : State). Both round is (given (part p ps) s) z) (sym (block_joined bits n.line (normal_part n (loops_in n) round p) (normal_parts n (loops_in n) round ps) t)) two

-- ---- the nest

around_all : (n : Nest) (source : IsNormalSource n) → Around n source [] (statements_in [] n.body) (loops_in n)
around_all n source = record {
  loops = tt;
  zeros = tt;
  within = λ x c. absurd (nowhere x c);
  counters = λ x c. absurd (nowhere x c);
  variables = tt;
  suited = λ s c. All-contains (IsSuitedStatement n) (statements_in [] n.body) s source.statements c;
  nested = λ l c. c;
  once = source.once;
}

only : (ps : List Part) (p : Part) → only_one ps ≡ Some p → ps ≡ p ∷ []
only [] p h = let no : ⊥ = cc in absurd no
only (q ∷ []) p h = let same : q ≡ p = cc in ap (λ x. x ∷ []) same
only (q ∷ (r ∷ ps)) p h = let no : ⊥ = cc in absurd no

body_goes_beside : StatementBeside → BoundsBeside → LastValueInPlace → BodyBeside
body_goes_beside statement_beside bounds_beside last_value bits n body values s t low high source one counters g go =
    let bare : (x : List ℕ) → Contains (counters_in n) x → t.store.bounds x ≡ Some [] = λ x c. All-contains (λ x. t.store.bounds x ≡ Some []) (counters_in n) x counters c in
    let begun : Goes bits high n source values t.store (apart_within n []) [] [] s t = record {
      way = g.way;
      way_beside = g.way_beside;
      stores = g.stores;
      keeps = λ c k. refl;
      bounds = λ x. refl;
      elements = λ c k a. g.stores.held c a;
    } in
    let all = part_beside statement_beside bounds_beside last_value bits low high n source values t.store bare [] [] n.body [] s t (λ x c. absurd (nowhere x c)) (around_all n source) source.normal source.straight (body_outside n) begun go in
    let same = only (normal_part n (loops_in n) [] n.body) body one in
    let done = subst (λ (ps : List Part). Goes bits high n source values t.store (apart_within n []) [] [] (does (sequential bits) None (statement_of_part n.line n.body) s) (does_all (sequential bits) None (block_of_parts n.line (parts ps)) t)) same all in (
      as_beside bits high n source values t.store (apart_within n []) [] [] (does (sequential bits) None (statement_of_part n.line n.body) s) (does (sequential bits) None (statement_of_part n.line body) t) done,
      λ c e. done.keeps c (inl e),
      done.bounds,
    )

pub body_beside : BodyBeside
body_beside = body_goes_beside statement_is_beside bounds_are_beside last_value_is_in_place
