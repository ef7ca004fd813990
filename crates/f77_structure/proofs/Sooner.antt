-- The first place at which one of two things is wrong.
use Rattle.std.proofs.Common.{◌≡◌, ℕ, suc, ◌≤◌, min, Bool, true, false, ◌||◌, cond, Option, Some, None, List, [], ◌∷◌, refl, sym, ap, ◌∙◌, arith}
use Rattle.f77_grammar.specs.Statement77.{Labelled}
use Rattle.f77_grammar.specs.program.Text.{Place77, places}
use Rattle.f77_grammar.specs.program.Nesting.{is_left_open, is_closed_wrongly, is_nested_wrongly}
use Rattle.f77_grammar.specs.program.Order.{is_out_of_order}
use Rattle.f77_grammar.specs.syntax.First.{index_from, first_index, sooner}

index_above : (test : Place77 → Bool) (i : ℕ) (ps : List Place77) (k : ℕ) → index_from test i ps ≡ Some k → i ≤ k
index_above test i [] k h = cc
index_above test i (p ∷ ps) k h = cases (test p) h (index_above test (suc i) ps k)
  where
    cases : (b : Bool) → cond b (Some i) (index_from test (suc i) ps) ≡ Some k → (index_from test (suc i) ps ≡ Some k → suc i ≤ k) → i ≤ k
    cases true h ih = let e : i ≡ k = cc in omega arith
    cases false h ih = let lt : suc i ≤ k = ih h in omega arith

sooner_left : (i : ℕ) (o : Option ℕ) → ((k : ℕ) → o ≡ Some k → suc i ≤ k) → Some i ≡ sooner (Some i) o
sooner_left i None h = refl
sooner_left i (Some k) h = let lt : suc i ≤ k = h k refl in ap (λ n. Some n) (least i k lt)
  where
    least : (i k : ℕ) → suc i ≤ k → i ≡ min i k
    least i k h = omega arith

sooner_right : (i : ℕ) (o : Option ℕ) → ((k : ℕ) → o ≡ Some k → suc i ≤ k) → Some i ≡ sooner o (Some i)
sooner_right i None h = refl
sooner_right i (Some k) h = let lt : suc i ≤ k = h k refl in ap (λ n. Some n) (least i k lt)
  where
    least : (i k : ℕ) → suc i ≤ k → i ≡ min k i
    least i k h = omega arith

sooner_both : (i : ℕ) → Some i ≡ sooner (Some i) (Some i)
sooner_both i = ap (λ n. Some n) (least i)
  where
    least : (i : ℕ) → i ≡ min i i
    least i = omega arith

one_of : (f g : Place77 → Bool) (i : ℕ) (ps : List Place77) → index_from (λ p. f p || g p) i ps ≡ sooner (index_from f i ps) (index_from g i ps)
one_of f g i [] = refl
one_of f g i (p ∷ ps) = cases (f p) (g p) (one_of f g (suc i) ps) (index_above f (suc i) ps) (index_above g (suc i) ps)
  where
    cases : (a b : Bool) → index_from (λ p. f p || g p) (suc i) ps ≡ sooner (index_from f (suc i) ps) (index_from g (suc i) ps)
        → ((k : ℕ) → index_from f (suc i) ps ≡ Some k → suc i ≤ k) → ((k : ℕ) → index_from g (suc i) ps ≡ Some k → suc i ≤ k)
        → cond (a || b) (Some i) (index_from (λ p. f p || g p) (suc i) ps) ≡ sooner (cond a (Some i) (index_from f (suc i) ps)) (cond b (Some i) (index_from g (suc i) ps))
    cases true true ih above above' = sooner_both i
    cases true false ih above above' = sooner_left i (index_from g (suc i) ps) above'
    cases false true ih above above' = sooner_right i (index_from f (suc i) ps) above
    cases false false ih above above' = ih

pub first_of_three : (text : List Labelled) (a b c : Option ℕ) → a ≡ first_index is_left_open text → b ≡ first_index is_closed_wrongly text → c ≡ first_index is_out_of_order text
    → sooner (sooner a b) c ≡ first_index (λ p. is_nested_wrongly p || is_out_of_order p) text
first_of_three text a b c e f g =
    ap (λ o. sooner (sooner o b) c) e ∙ ap (λ o. sooner (sooner (first_index is_left_open text) o) c) f ∙ ap (sooner (sooner (first_index is_left_open text) (first_index is_closed_wrongly text))) g
    ∙ ap (λ o. sooner o (first_index is_out_of_order text)) (sym (one_of is_left_open is_closed_wrongly 0 (places text)))
    ∙ sym (one_of is_nested_wrongly is_out_of_order 0 (places text))

pub ruleset sooner_laws = (first_of_three)
