-- What is made of a nest that was found has subscripts that move with its loops.
use Rattle.std.proofs.Common.{◌≡◌, refl, sym, ap, ◌∙◌, subst, ℕ, ◌≤◌, Bool, List, [], ◌∷◌, ◌++◌, map, length, None}
use Rattle.std.proofs.lemmas.List.{length-map, map-append}
use Rattle.array_form.specs.forms.Loops.{FormSurroundings, form_variables_of}
use Rattle.array_form.specs.forms.Statements.{hold_at}
use Rattle.components.proofs.ListLaws.{Each-get}
use Rattle.emission.specs.emission_forms.Forms.{AreRegular}
use Rattle.last_values.specs.Scalars.{scalar}
use Rattle.last_values.specs.InPlace.{first_text, end_text}
use Rattle.linear_forms.specs.Canonical.{canonising}
use Rattle.normal_loops.specs.Counting.{counting}
use Rattle.normal_loops.specs.Values.{statement_with_values, normal_statement}
use Rattle.nest_rewrite.specs.Statements.{rewritten_statement}
use Rattle.nest.specs.Bodies.{Standing, nest_statements}
use Rattle.nest.specs.Plain.{Guarded, Loop, Nest}
use Rattle.last_values.specs.normal_forms.NormalLoops.{counters_of}
use Rattle.last_values.specs.declared.normal_forms.loops.NormalLoop.{NormalLoop}
use Rattle.pass_laws.proofs.ReadyNests.Made.{IsMadeOf, made_of}
use Rattle.pass_laws.proofs.ReadyNests.Walk.{EachIn, Steps, standing, assigning, each_statement}
use Rattle.array_form.specs.holds.Bounds.{is_safe}
use Rattle.array_form.specs.holds.Holds.{hold_of}
use Rattle.array_form.specs.holds.Statements.{no_statement}
use Rattle.array_form.specs.holds.Surroundings.{counted_loop, counted_of, surroundings_of}
use Rattle.pass_laws.proofs.NormalFacts.CanonicalPlain.{IsPlainStatement, plain_with_values}
use Rattle.pass_laws.proofs.NormalFacts.CanonicalSources.{any_loop, found_is_plain}
use Rattle.pass_laws.proofs.NormalFacts.Moved.{IsRegularFrom, statement_regular, scalar_held}
use Rattle.pass_laws.specs.normal_facts.Laws.{NormalNestIsRegular}
use Rattle.tree.specs.declared.width.Width.{Width}

-- ---- one statement

-- a statement that a rule makes canonical over these names is regular where nothing forbids its array form
abbrev IsRegularHere : FormSurroundings → Guarded → ℕ → Type 0
IsRegularHere a g k = (safe : Bool) → hold_at a k g.guard g.left safe ≡ None → IsRegularFrom a k g.guard g.left g.right

abbrev IsRegularMade : FormSurroundings → Guarded → ℕ → List (List ℕ) → List (List ℕ) → Type 0
IsRegularMade a g k loops symbols = IsRegularHere a (rewritten_statement (canonising loops symbols) g) k

made_regular : (a : FormSurroundings) (loops symbols : List (List ℕ)) → form_variables_of a.loops ≡ loops → a.symbols ≡ symbols
    → (g : Guarded) → IsPlainStatement g → (k : ℕ) → IsRegularMade a g k loops symbols
made_regular a loops symbols e f g p k =
    subst (λ xs. IsRegularMade a g k xs symbols) e
    (subst (λ ys. IsRegularMade a g k (form_variables_of a.loops) ys) f (λ safe h. statement_regular a k g.guard g.left g.right safe p.left p.right p.guard h))

-- ---- the loops round a statement

variables : List Loop → List (List ℕ)
variables ls = map (λ (l : Loop). l.variable) ls

variables_round : (d : ℕ) (ls : List Loop) → form_variables_of (map (λ l. counted_of d (counted_loop l)) ls) ≡ variables ls
unfolding variables
variables_round d [] = refl
variables_round d (l ∷ ls) = ap (λ xs. l.variable ∷ xs) (variables_round d ls)

one_more : (symbols : List (List ℕ)) (round : List NormalLoop) (ls : List Loop) (l : Loop) (r : NormalLoop) → variables ls ≡ counters_of round
    → variables (ls ++ counting symbols round l r ∷ []) ≡ counters_of (round ++ r ∷ [])
unfolding variables counting
one_more symbols round ls l r h =
    map-append (λ (l : Loop). l.variable) ls (counting symbols round l r ∷ [])
    ∙ (ap (λ xs. xs ++ r.counter ∷ []) h ∙ sym (map-append (λ (r : NormalLoop). r.counter) round (r ∷ [])))

none_round : variables [] ≡ counters_of []
unfolding variables
none_round = refl

-- ---- all statements

module _ (n m : Nest) (same : m.symbols ≡ n.symbols) where
  abbrev Asked : Standing → Type 0
  Asked x = (k : ℕ) → 1 ≤ k → k ≤ length x.loops → hold_of m x k ≡ None
      → IsRegularFrom (surroundings_of m x.loops) k x.statement.guard x.statement.left x.statement.right

  abbrev Under : List NormalLoop → List Loop → Type 0
  Under round ls = variables ls ≡ counters_of round

  run : (round : List NormalLoop) (ls : List Loop) (g : Guarded) → Under round ls → IsPlainStatement g → Asked (standing ls (normal_statement n.symbols round g))
  unfolding normal_statement
  run round ls g u p k from to h =
      made_regular (surroundings_of m ls) (counters_of round) n.symbols (variables_round (length ls) ls ∙ u) same
      (statement_with_values n.symbols [] round g) (plain_with_values n.symbols [] round g p) k (is_safe m (standing ls (normal_statement n.symbols round g))) h

  in_place : (ls : List Loop) (v : List ℕ) (g : Guarded) → g.left ≡ scalar v → Asked (standing ls g)
  in_place ls v g e k from to h =
      let a = surroundings_of m ls in
      let safe = is_safe m (standing ls g) in
      absurd (scalar_held a k g.guard v safe from (subst (λ d. k ≤ d) (sym (length-map ls (λ l. counted_of (length ls) (counted_loop l)))) to)
      (subst (λ r. hold_at a k g.guard r safe ≡ None) e h))

  steps : Steps n IsPlainStatement any_loop Under Asked
  steps = record {
    run = λ round ls g u p. run round ls g u p;
    turns = λ round ls l r u f e. one_more n.symbols round ls l r u;
    first = λ round ls l r u f e. in_place ls r.variable (assigning n.line r.variable (first_text n.symbols round r)) refl;
    end = λ round ls l r u f e. in_place ls r.variable (assigning n.line r.variable (end_text n.symbols round r)) refl;
  }

  made_is_regular : EachIn IsPlainStatement any_loop n.body → IsMadeOf n m → AreRegular m
  made_is_regular p is k s level h =
      let all = each_statement n m IsPlainStatement any_loop Under Asked steps none_round p is in
      let x = Each-get Asked (nest_statements m) all s no_statement level.0 k level.1 level.2 h in
      record { left = x.left; guard = x.guard_is; right = x.right }

pub normal_nest_is_regular : (width : Width) → NormalNestIsRegular width
normal_nest_is_regular width p n m is h e plain =
    let made = made_of n m e in
    made_is_regular n m made.symbols (found_is_plain width p n is h) made
