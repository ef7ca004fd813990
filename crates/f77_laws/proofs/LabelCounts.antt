-- The labels of the tree: each once, each named by a GO TO; and how many statements there are.
use Rattle.std.proofs.Common.{◌≡◌, ◌⊎◌, inl, inr, ℕ, ◌+◌, ◌*◌, ◌≤◌, ◌==◌, Bool, true, false, ◌||◌, cond, Option, Some, None, List, [], ◌∷◌, ◌++◌, length, refl, ap, subst, ◌∙◌, arith, Contains}
use Rattle.std.specs.List.{AllByRecursion, list_any}
use Rattle.std.proofs.lemmas.Bool.Decides.{nat_tests}
use Rattle.tree.specs.Plain as tree
use Rattle.tree.specs.Plain.{Expression}
use Rattle.meaning.specs.Store.{Store}
use Rattle.f77_grammar.specs.Statement77.{Labelled, Statement77, Program, ImplicitNone, Declare, Dimension, Constants, Assign, Go, Test, If, ElseIf, Else, EndIf, Do, EndDo, Continue, Stop, Read, Print, End}
use Rattle.f77_grammar.specs.program.Text.{places_from, is_label, bears, label_stands_in, action}
use Rattle.f77_grammar.specs.program.Uses.{Use77}
use Rattle.meaning.specs.Profile77.{all_labels_of, all_labels_in_arms, all_labels_in, targets_of, targets_in_arms, targets_in, IsWithoutRepeats, statement_count_in_arms, statement_count_in}
use Rattle.f77_grammar.specs.program.Tree.{label_before, simple, target, targets}
use Rattle.f77_laws.specs.trees.Steps.{Rest, Outermost, InArm, outermost_block, rest_from}
use Rattle.f77_laws.specs.Source.{IsSourceAction, IsSourceStatement, IsSourceCard}
use Rattle.f77_laws.proofs.Lists.{left_false, right_false, here, there, nowhere, cases_of, Found, found, all_of}
use Rattle.f77_laws.proofs.Sound.{IsRight}
use Rattle.f77_laws.proofs.Frames.{Loop, Base, frames}
use Rattle.f77_laws.proofs.Moves.{moves, AllEnd, all_end, stands_no_more}
use Rattle.f77_laws.proofs.Shapes.{IsShaped, shape}
use Rattle.f77_laws.proofs.Measures.{Measure, in_rest, own_part, at_most, at_least}

-- ---- how often a number stands in a list

abbrev one_if : Bool → ℕ
one_if true = 1
one_if false = 0

abbrev occurs : ℕ → List ℕ → ℕ
occurs n [] = 0
occurs n (m ∷ ms) = one_if (m == n) + occurs n ms

occurs_appended : (n : ℕ) (ms ks : List ℕ) → occurs n (ms ++ ks) ≡ occurs n ms + occurs n ks
occurs_appended n [] ks = omega arith
occurs_appended n (m ∷ ms) ks = let e = occurs_appended n ms ks in omega (arith, e)

it_is : (m n : ℕ) → m ≡ n → one_if (m == n) ≡ 1
it_is m n e = ap one_if (let t : (m == n) ≡ true = grind (arith, nat_tests) in t)

occurs_there : (n : ℕ) (ms : List ℕ) → Contains ms n → 1 ≤ occurs n ms
occurs_there n [] h = absurd (nowhere n h)
occurs_there n (m ∷ ms) h = by (occurs_there n ms) (cases_of m ms n h)
  where
    by : (Contains ms n → 1 ≤ occurs n ms) → (m ≡ n) ⊎ Contains ms n → 1 ≤ one_if (m == n) + occurs n ms
    by more (inl e) = let a = it_is m n e in omega (arith, a)
    by more (inr c) = let a = more c in omega (arith, a)

there_occurs : (n : ℕ) (ms : List ℕ) → 1 ≤ occurs n ms → Contains ms n
there_occurs n [] h = absurd (omega (arith, h))
there_occurs n (m ∷ ms) h = by (m == n) refl (there_occurs n ms) h
  where
    by : (b : Bool) → (m == n) ≡ b → (1 ≤ occurs n ms → Contains ms n) → 1 ≤ one_if b + occurs n ms → Contains (m ∷ ms) n
    by true e more h = subst (λ (k : ℕ). Contains (m ∷ ms) k) (let t : m ≡ n = grind (arith, nat_tests) in t) (here m ms)
    by false e more h = there m ms n (more (omega (arith, h)))

once_each : (ms : List ℕ) → ((n : ℕ) → occurs n ms ≤ 1) → IsWithoutRepeats ms
once_each [] h = tt
once_each (m ∷ ms) h = (
  λ c. (let a = occurs_there m ms c in let b = h m in let d = it_is m m refl in omega (arith, a, b, d)),
  once_each ms (λ n. let a = h n in omega (arith, a)),
)

-- ---- the measures

labels_appended : (n : ℕ) (cs es : List tree.Statement) → occurs n (all_labels_in (tree.block (cs ++ es))) ≡ occurs n (all_labels_in (tree.block cs)) + occurs n (all_labels_in (tree.block es))
labels_appended n [] es = omega arith
labels_appended n (c ∷ cs) es =
    let a = labels_appended n cs es in
    let b = occurs_appended n (all_labels_of c) (all_labels_in (tree.block (cs ++ es))) in
    let d = occurs_appended n (all_labels_of c) (all_labels_in (tree.block cs)) in
    omega (arith, a, b, d)

abbrev of_labels : ℕ → Measure
of_labels n = record {
  blocks = λ b. occurs n (all_labels_in b);
  arms = λ a. occurs n (all_labels_in_arms a);
  own = 0;
  none = refl;
  appended = labels_appended n;
  no_arms = refl;
  more_arms = λ c b rest. occurs_appended n (all_labels_in b) (all_labels_in_arms rest);
  of_if = λ line a other. (let e = occurs_appended n (all_labels_in_arms a ++ all_labels_in other) [] in let f = occurs_appended n (all_labels_in_arms a) (all_labels_in other) in omega (arith, e, f));
  of_do = λ line v a b c body. (let e = occurs_appended n (all_labels_in body) [] in omega (arith, e));
}

targets_appended : (n : ℕ) (cs es : List tree.Statement) → occurs n (targets_in (tree.block (cs ++ es))) ≡ occurs n (targets_in (tree.block cs)) + occurs n (targets_in (tree.block es))
targets_appended n [] es = omega arith
targets_appended n (c ∷ cs) es =
    let a = targets_appended n cs es in
    let b = occurs_appended n (targets_of c) (targets_in (tree.block (cs ++ es))) in
    let d = occurs_appended n (targets_of c) (targets_in (tree.block cs)) in
    omega (arith, a, b, d)

abbrev of_targets : ℕ → Measure
of_targets n = record {
  blocks = λ b. occurs n (targets_in b);
  arms = λ a. occurs n (targets_in_arms a);
  own = 0;
  none = refl;
  appended = targets_appended n;
  no_arms = refl;
  more_arms = λ c b rest. occurs_appended n (targets_in b) (targets_in_arms rest);
  of_if = λ line a other. (let e = occurs_appended n (targets_in_arms a ++ targets_in other) [] in let f = occurs_appended n (targets_in_arms a) (targets_in other) in omega (arith, e, f));
  of_do = λ line v a b c body. (let e = occurs_appended n (targets_in body) [] in omega (arith, e));
}

statements_appended : (cs es : List tree.Statement) → statement_count_in (tree.block (cs ++ es)) ≡ statement_count_in (tree.block cs) + statement_count_in (tree.block es)
statements_appended [] es = omega arith
statements_appended (c ∷ cs) es = let a = statements_appended cs es in omega (arith, a)

abbrev of_statements : Measure
of_statements = record {
  blocks = statement_count_in;
  arms = statement_count_in_arms;
  own = 1;
  none = refl;
  appended = statements_appended;
  no_arms = refl;
  more_arms = λ c b rest. refl;
  of_if = λ line a other. omega arith;
  of_do = λ line v a b c body. omega arith;
}

-- the tree has all that is measured
in_outermost : (m : Measure) (ls : List Loop) (r : Rest) → IsShaped (Base ls) r → in_rest m r ≡ m.blocks (outermost_block r)
in_outermost m ls (Outermost ps) h = refl
in_outermost m ls (InArm ps arms other r) h = absurd h

module _ (us : List Use77) (s : Store) (named : List ℕ) where
  -- ---- labels

  -- by what the label of each statement adds
  abbrev total : (Option ℕ → ℕ) → List Labelled → ℕ
  total w [] = 0
  total w (x ∷ xs) = w x.label + total w xs

  no_labels : (line : ℕ) (c : Statement77) → all_labels_in (tree.block (simple us s line c)) ≡ []
  no_labels line (Test c b) = ap (λ ns. ((ns ++ []) ++ []) ++ []) (no_labels line b)
  no_labels line c = refl

  labels_total : (n : ℕ) (w : Option ℕ → ℕ) → ((end : Option ℕ) → occurs n (all_labels_in (tree.block (label_before named end))) ≤ w end) → (xs : List Labelled)
      → in_rest (of_labels n) (rest_from us s named xs) ≤ total w xs
  labels_total n w h [] = omega arith
  labels_total n w h (x ∷ xs) =
      let a = labels_total n w h xs in
      let b = h x.label in
      let e = ap (occurs n) (no_labels x.line x.statement) in
      let d = at_most (of_labels n) us s named x x.statement (w x.label) (rest_from us s named xs) (omega (arith, b, e)) (omega (arith, b)) in
      omega (arith, a, d)

  abbrev label_count : ℕ → Option ℕ → ℕ
  label_count n None = 0
  label_count n (Some m) = one_if (m == n)

  mark_counts : (n : ℕ) (end : Option ℕ) → occurs n (all_labels_in (tree.block (label_before named end))) ≤ label_count n end
  mark_counts n None = omega arith
  mark_counts n (Some m) = by (list_any (λ k. k == m) named)
    where
      by : (b : Bool) → occurs n (all_labels_in (tree.block (cond b (tree.Label m ∷ []) []))) ≤ one_if (m == n)
      by true = omega arith
      by false = omega arith

  no_mark : (n : ℕ) (end : Option ℕ) → list_any (λ k. k == n) named ≡ false → occurs n (all_labels_in (tree.block (label_before named end))) ≤ 0
  no_mark n None h = omega arith
  no_mark n (Some m) h = by (m == n) refl
    where
      unnamed : (b : Bool) → b ≡ false → occurs n (all_labels_in (tree.block (cond b (tree.Label m ∷ []) []))) ≤ 0
      unnamed true e = absurd cc
      unnamed false e = omega arith

      other : (b : Bool) → (m == n) ≡ false → occurs n (all_labels_in (tree.block (cond b (tree.Label m ∷ []) []))) ≤ 0
      other true e = let a = ap one_if e in omega (arith, a)
      other false e = omega arith

      by : (b : Bool) → (m == n) ≡ b → occurs n (all_labels_in (tree.block (cond (list_any (λ k. k == m) named) (tree.Label m ∷ []) []))) ≤ 0
      by true e = unnamed (list_any (λ k. k == m) named) (ap (λ i. list_any (λ k. k == i) named) (let t : m ≡ n = grind (arith, nat_tests) in t) ∙ h)
      by false e = other (list_any (λ k. k == m) named) e

  -- in the text each stands once

  none_stand : (n : ℕ) (xs : List Labelled) → label_stands_in xs n ≡ false → total (label_count n) xs ≡ 0
  none_stand n [] h = refl
  none_stand n (x ∷ xs) h =
      let a = not_counted x.label (left_false (bears n x) (label_stands_in xs n) h) in
      let b = none_stand n xs (right_false (bears n x) (label_stands_in xs n) h) in
      omega (arith, a, b)
    where
      not_counted : (end : Option ℕ) → is_label n end ≡ false → label_count n end ≡ 0
      not_counted None h = refl
      not_counted (Some m) h = ap one_if h

  once_in_text : (text before xs : List Labelled) (n : ℕ) → AllByRecursion (IsRight text) (places_from before xs) → total (label_count n) xs ≤ 1
  once_in_text text before [] n h = omega arith
  once_in_text text before (x ∷ xs) n h = by (bears n x) refl (once_in_text text (x ∷ before) xs n h.1)
    where
      counted : (end : Option ℕ) (b : Bool) → is_label n end ≡ b → label_count n end ≡ one_if b
      counted None true e = absurd cc
      counted None false e = refl
      counted (Some m) b e = ap one_if e

      by : (b : Bool) → bears n x ≡ b → total (label_count n) xs ≤ 1 → label_count n x.label + total (label_count n) xs ≤ 1
      by true e more =
          let a = counted x.label true e in
          let d = none_stand n xs (stands_no_more text (x ∷ before) xs n h.1 (ap (λ t. t || label_stands_in before n) e)) in
          omega (arith, a, d)
      by false e more = let a = counted x.label false e in omega (arith, a, more)

  -- ---- labels that a GO TO names

  target_kept : (n line : ℕ) (c : Statement77) → occurs n (target (action c)) ≤ occurs n (targets_in (tree.block (simple us s line c)))
  target_kept n line (Go k) = omega arith
  target_kept n line (Test c b) =
      let t = targets_in (tree.block (simple us s line b)) in
      let a = target_kept n line b in
      let d = occurs_appended n t [] in
      let e = occurs_appended n (t ++ []) [] in
      let f = occurs_appended n ((t ++ []) ++ []) [] in
      omega (arith, a, d, e, f)
  target_kept n line c = omega arith

  target_part : (n : ℕ) (x : Labelled) (c : Statement77) → occurs n (target (action c)) ≤ own_part (of_targets n) us s named x c
  target_part n x (If c) = omega arith
  target_part n x EndIf = omega arith
  target_part n x Else = omega arith
  target_part n x (ElseIf c) = omega arith
  target_part n x (Do (Some k) v a b c) = omega arith
  target_part n x c = target_kept n x.line c

  targets_kept : (text before xs : List Labelled) (n : ℕ) → AllByRecursion (IsRight text) (places_from before xs) → AllEnd xs (frames xs before 0) → occurs n (targets xs) ≤ in_rest (of_targets n) (rest_from us s named xs)
  targets_kept text before [] n r e = omega arith
  targets_kept text before (x ∷ xs) n r e =
      let a = targets_kept text (x ∷ before) xs n r.1 (all_end text before xs x r e) in
      let b = target_part n x x.statement in
      let d = occurs_appended n (target (action x.statement)) (targets xs) in
      let f = at_least (of_targets n) us s named x x.statement (frames (x ∷ xs) before 0) (frames xs (x ∷ before) 0) (rest_from us s named xs) (moves text before xs x r)
      (shape us s named text (x ∷ before) xs r.1 (all_end text before xs x r e)) in
      omega (arith, a, b, d, f)

  -- ---- how many statements there are

  one_action : (line : ℕ) (c : Statement77) → IsSourceAction c → statement_count_in (tree.block (simple us s line c)) ≤ 1
  one_action line (Assign left e) h = omega arith
  one_action line (Go n) h = omega arith
  one_action line Continue h = omega arith
  one_action line Stop h = omega arith
  one_action line (Read is) h = omega arith
  one_action line (Print is) h = omega arith
  one_action line (Program x) h = absurd h
  one_action line ImplicitNone h = absurd h
  one_action line (Declare k es) h = absurd h
  one_action line (Dimension es) h = absurd h
  one_action line (Constants cs) h = absurd h
  one_action line (Test c t) h = absurd h
  one_action line (If c) h = absurd h
  one_action line (ElseIf c) h = absurd h
  one_action line Else h = absurd h
  one_action line EndIf h = absurd h
  one_action line (Do n x b c d) h = absurd h
  one_action line EndDo h = absurd h
  one_action line End h = absurd h

  two_statements : (line : ℕ) (c : Statement77) → IsSourceStatement c → statement_count_in (tree.block (simple us s line c)) ≤ 2
  two_statements line (Test c b) h = let a = one_action line b h.1 in omega (arith, a)
  two_statements line c h = omega arith

  one_mark : (end : Option ℕ) → statement_count_in (tree.block (label_before named end)) ≤ 1
  one_mark None = omega arith
  one_mark (Some m) = by (list_any (λ k. k == m) named)
    where
      by : (b : Bool) → statement_count_in (tree.block (cond b (tree.Label m ∷ []) [])) ≤ 1
      by true = omega arith
      by false = omega arith

  three_each : (xs : List Labelled) → AllByRecursion IsSourceCard xs → in_rest of_statements (rest_from us s named xs) ≤ 3 * length xs
  three_each [] h = omega arith
  three_each (x ∷ xs) h =
      let a = three_each xs h.1 in
      let b = two_statements x.line x.statement h.0.statement in
      let e = one_mark x.label in
      let d = at_most of_statements us s named x x.statement 3 (rest_from us s named xs) (omega (arith, b, e)) (omega (arith, e)) in
      omega (arith, a, d)

-- ---- the tree of a text

module _ (us : List Use77) (s : Store) (text : List Labelled) (right : AllByRecursion (IsRight text) (places_from [] text)) where
  abbrev pub body : tree.Block
  body = outermost_block (rest_from us s (targets text) text)

  none_to_end : AllEnd text (frames text [] 0)
  none_to_end = λ j l. absurd (omega (arith, l))

  pub shaped : IsShaped (frames text [] 0) (rest_from us s (targets text) text)
  shaped = shape us s (targets text) text [] text right none_to_end

  pub each_label_once : IsWithoutRepeats (all_labels_in body)
  each_label_once = once_each (all_labels_in body) (λ n.
      let a = in_outermost (of_labels n) [] (rest_from us s (targets text) text) shaped in
      let b = labels_total us s (targets text) n (label_count us s (targets text) n) (mark_counts us s (targets text) n) text in
      let c = once_in_text us s (targets text) text [] text n right in
      omega (arith, a, b, c))

  nothing_in : (xs : List Labelled) → total us s (targets text) (λ end. 0) xs ≡ 0
  nothing_in [] = refl
  nothing_in (x ∷ xs) = let a = nothing_in xs in omega (arith, a)

  is_named : (n : ℕ) → Contains (all_labels_in body) n → Contains (targets_in body) n
  is_named n h = by (list_any (λ k. k == n) (targets text)) refl
    where
      of_found : Found (λ k. k == n) (targets text) → Contains (targets_in body) n
      of_found f =
          let e : f.it ≡ n = (let t : (f.it == n) ≡ true = f.passes in grind (arith, nat_tests)) in
          let a = occurs_there n (targets text) (subst (λ (k : ℕ). Contains (targets text) k) e f.among) in
          let b = targets_kept us s (targets text) text [] text n right none_to_end in
          let c = in_outermost (of_targets n) [] (rest_from us s (targets text) text) shaped in
          there_occurs n (targets_in body) (omega (arith, a, b, c))

      by : (b : Bool) → list_any (λ k. k == n) (targets text) ≡ b → Contains (targets_in body) n
      by true e = of_found (found (λ k. k == n) (targets text) e)
      by false e =
          let a = occurs_there n (all_labels_in body) h in
          let b = labels_total us s (targets text) n (λ end. 0) (λ end. no_mark us s (targets text) n end e) text in
          let c = in_outermost (of_labels n) [] (rest_from us s (targets text) text) shaped in
          let d = nothing_in text in
          absurd (omega (arith, a, b, c, d))

  pub each_label_named : AllByRecursion (Contains (targets_in body)) (all_labels_in body)
  each_label_named = all_of (Contains (targets_in body)) (all_labels_in body) is_named

  pub few_statements : AllByRecursion IsSourceCard text → statement_count_in body ≤ 3 * length text
  few_statements h =
      let a = three_each us s (targets text) text h in
      let b = in_outermost of_statements [] (rest_from us s (targets text) text) shaped in
      omega (arith, a, b)
