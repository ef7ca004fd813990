-- The holds of the statements of a nest, one statement after the other.
use Rattle.std.proofs.Common.{◌≡◌, ℕ, zero, suc, ◌+◌, ◌-◌, ◌≤◌, ◌<◌, ◌==◌, Bool, true, false, ◌&&◌, ◌||◌, ◌⊎◌, inl, inr}
use Rattle.std.proofs.Common.{Option, Some, None, List, ◌++◌, length, refl, sym, ap, ◌∙◌, subst, arith, eq-eqb}
use Rattle.std.specs.Prelude.{slice_index_or}
use Rattle.std.specs.List.{flat_map}
use Rattle.std.proofs.lemmas.Bool.{cases_eq}
use Rattle.std.proofs.lemmas.List.Folds.{list_any-append}
use Rattle.array_form.specs.forms.Statements as forms
use Rattle.dependence_graph.specs.declared.graphs.Hold.{Hold}
use Rattle.dependence_graph.specs.declared.graphs.HoldReason.{HoldReason}
use Rattle.dependence_graph.specs.declared.graphs.HoldReason.TheVariants.{Bounds, Form, Triangle}
use Rattle.emission.specs.emission_forms.Forms.{AreAllHolds, IsLevelOf, hold_there}
use Rattle.emission.specs.emission_pieces.Levels.{is_held, is_hold_of}
use Rattle.emission.specs.emission_pieces.Nests.{loops_at, standing_at}
use Rattle.meaning.specs.ArrayValues.{counted}
use Rattle.nest.specs.Bodies.{Standing, nest_statements}
use Rattle.nest.specs.Plain.{Nest}
use Rattle.array_form.specs.holds.Holds.{all_holds, hold_of, hold_with, holds_of, holds_of_standing}
use Rattle.array_form.specs.holds.Holds.{hold_reason_of}
use Rattle.array_form.specs.holds.Statements.{no_statement, statement_at}

-- what forbids the array form of a statement at a level is among the holds
abbrev IsListedAt : Nest → List Hold → ℕ → ℕ → Type 0
IsListedAt n holds k s = hold_there n k s ≡ None ⊎ (is_held holds k s ≡ true)

-- ---- the holds of one statement

held_left : (k s : ℕ) (xs ys : List Hold) → is_held xs k s ≡ true → is_held (xs ++ ys) k s ≡ true
held_left k s xs ys h = list_any-append (is_hold_of k s) xs ys ∙ ap (λ b. b || is_held ys k s) h

held_right : (k s : ℕ) (xs ys : List Hold) → is_held ys k s ≡ true → is_held (xs ++ ys) k s ≡ true
held_right k s xs ys h = list_any-append (is_hold_of k s) xs ys ∙ by (is_held xs k s) (is_held ys k s) h
  where
    by : (a b : Bool) → b ≡ true → (a || b) ≡ true
    by true b e = refl
    by false b e = e

own_hold : (k s : ℕ) (r : HoldReason) → is_held (hold_with (s + 1) k (Some r)) k s ≡ true
own_hold k s r =
    ap (λ a. (a && (k == k)) || false) (eq-eqb (s + 1) (s + 1) refl) ∙ ap (λ a. a || false) (eq-eqb k k refl)

held_with : (k s : ℕ) (o : Option forms.HoldCause) → o ≡ None ⊎ (is_held (hold_with (s + 1) k (hold_reason_of o)) k s ≡ true)
held_with k s None = inl refl
held_with k s (Some forms.FormHold) = inr (own_hold k s Form)
held_with k s (Some forms.TriangleHold) = inr (own_hold k s Triangle)
held_with k s (Some forms.BoundsHold) = inr (own_hold k s Bounds)

module _ (n : Nest) (x : Standing) (k s : ℕ) where
  abbrev holds_at : ℕ → List Hold
  holds_at i = hold_with (s + 1) i (hold_reason_of (hold_of n x i))

  abbrev holds_from : ℕ → ℕ → List Hold
  holds_from first count = flat_map holds_at (counted first count)

  abbrev IsListedAmong : List Hold → Type 0
  IsListedAmong holds = hold_of n x k ≡ None ⊎ (is_held holds k s ≡ true)

  listed_left : (xs ys : List Hold) → IsListedAmong xs → IsListedAmong (xs ++ ys)
  listed_left xs ys (inl e) = inl e
  listed_left xs ys (inr e) = inr (held_left k s xs ys e)

  listed_right : (xs ys : List Hold) → IsListedAmong ys → IsListedAmong (xs ++ ys)
  listed_right xs ys (inl e) = inl e
  listed_right xs ys (inr e) = inr (held_right k s xs ys e)

  listed_here : (first : ℕ) → k ≡ first → IsListedAmong (holds_at first)
  listed_here first e = subst (λ i. IsListedAmong (holds_at i)) e (held_with k s (hold_of n x k))

  listed_from : (count first : ℕ) → first ≤ k → k < first + count → IsListedAmong (holds_from first count)
  listed_from zero first h g = let no : ⊥ = omega arith in absurd no
  listed_from (suc count) first h g =
      by (cases_eq k first) (λ after within. listed_from count (first + 1) after within)
    where
      by : (k ≡ first) ⊎ (k ≡ first → ⊥)
          → (first + 1 ≤ k → k < (first + 1) + count → IsListedAmong (holds_from (first + 1) count))
          → IsListedAmong (holds_from first (suc count))
      by (inl e) later =
          listed_left (holds_at first) (holds_from (first + 1) count) (listed_here first e)
      by (inr e) later =
          let after : first + 1 ≤ k = omega (arith, e) in
          let within : k < (first + 1) + count = omega arith in
          listed_right (holds_at first) (holds_from (first + 1) count) (later after within)

-- ---- those of one statement more

same_statement : (n : Nest) (s : ℕ) → statement_at n (s + 1) ≡ standing_at n s
same_statement n s =
    let place : (s + 1) - 1 ≡ s = omega arith in
    ap (λ i. slice_index_or (nest_statements n) i no_statement) place

listed_of : (n : Nest) (k s : ℕ) → IsLevelOf n k s → IsListedAt n (holds_of n (s + 1)) k s
listed_of n k s level =
    let from : 1 ≤ k = level.1 in
    let most : k ≤ length (loops_at n s) = level.2 in
    let within : k < 1 + length (loops_at n s) = omega arith in
    subst (λ holds. IsListedAt n holds k s) (ap (holds_of_standing n (s + 1)) (sym (same_statement n s)))
    (listed_from n (standing_at n s) k s (length (loops_at n s)) 1 from within)

-- among those of the statements from this one on
listed_among : (n : Nest) (k s count first : ℕ) → IsLevelOf n k s → first ≤ s + 1 → s + 1 < first + count
    → IsListedAt n (flat_map (holds_of n) (counted first count)) k s
listed_among n k s zero first level h g = let no : ⊥ = omega arith in absurd no
listed_among n k s (suc count) first level h g =
    by (cases_eq (s + 1) first) (λ after within. listed_among n k s count (first + 1) level after within)
  where
    by : (s + 1 ≡ first) ⊎ (s + 1 ≡ first → ⊥)
        → (first + 1 ≤ s + 1 → s + 1 < (first + 1) + count
        → IsListedAt n (flat_map (holds_of n) (counted (first + 1) count)) k s)
        → IsListedAt n (flat_map (holds_of n) (counted first (suc count))) k s
    by (inl e) later =
        listed_left n (standing_at n s) k s (holds_of n first)
        (flat_map (holds_of n) (counted (first + 1) count))
        (subst (λ i. IsListedAt n (holds_of n i) k s) e (listed_of n k s level))
    by (inr e) later =
        let after : first + 1 ≤ s + 1 = omega (arith, e) in
        let within : s + 1 < (first + 1) + count = omega arith in
        listed_right n (standing_at n s) k s (holds_of n first)
        (flat_map (holds_of n) (counted (first + 1) count)) (later after within)

pub all_are_holds : (n : Nest) → AreAllHolds n (all_holds n)
all_are_holds n k s level =
    let there : s < length (nest_statements n) = level.0 in
    let from : 1 ≤ s + 1 = omega arith in
    let within : s + 1 < 1 + length (nest_statements n) = omega arith in
    listed_among n k s (length (nest_statements n)) 1 level from within
