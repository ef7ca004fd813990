-- The values of labels.
use Rattle.std.proofs.Common.{arith, ◌≡◌, ℕ, ◌<◌, ◌≤◌, Bool, true, false, cond, List, [], ◌∷◌, length, Option, Some, None, ap, subst, sym, ◌∙◌, codes}
use Rattle.std.specs.Char.{digit_value}
use Rattle.std.proofs.lemmas.Bool.{le-ltb}
use Rattle.std.proofs.lemmas.Bool.Decides.{nat_tests}
use Rattle.tree.specs.Limits.{greatest_literal}
use Rattle.f90_grammar.specs.Contents.{is_wide_literal}
use Rattle.f90_grammar.specs.Phrases.{value_of_digits}
use Rattle.f90_grammar.specs.Forms.{IsLabel90}
use Rattle.f90_grammar.specs.Words as words
use Rattle.f90_grammar.specs.Words.{Word90}
use Rattle.f90_expressions.specs.Literals.{value_in}
use Rattle.f90_statement.specs.Fronts.{IsLabelValue, IsLabelled}

digit_small : (c : ℕ) → digit_value c ≤ 36
digit_small c = grind (arith, nat_tests)

label_small : (t : List ℕ) → length t ≤ 5 → value_of_digits t < 400000
label_small [] l = omega arith
label_small (a ∷ []) l = omega (arith, digit_small a)
label_small (a ∷ b ∷ []) l = omega (arith, digit_small a, digit_small b)
label_small (a ∷ b ∷ c ∷ []) l = omega (arith, digit_small a, digit_small b, digit_small c)
label_small (a ∷ b ∷ c ∷ d ∷ []) l = omega (arith, digit_small a, digit_small b, digit_small c, digit_small d)
label_small (a ∷ b ∷ c ∷ d ∷ e ∷ []) l =
    omega (arith, digit_small a, digit_small b, digit_small c, digit_small d, digit_small e)
label_small (a ∷ b ∷ c ∷ d ∷ e ∷ f ∷ t) l = absurd (omega arith)

narrow : (t : List ℕ) → length t ≤ 5 → is_wide_literal t ≡ false
narrow t l = le-ltb greatest_literal (value_of_digits t) (omega (arith, label_small t l))

value_by : (b : Bool) (n v : ℕ) → Some v ≡ cond b None (Some n) → v ≡ n
value_by true n v e = absurd (cc)
value_by false n v e = cc

none_by : (b : Bool) (n : ℕ) → b ≡ false → None ≡ cond b None (Some n) → ⊥
none_by true n e f = cc
none_by false n e f = cc

pub value_is : (t : List ℕ) (v : ℕ) → Some v ≡ value_in t → v ≡ value_of_digits t
value_is t v e = value_by (is_wide_literal t) (value_of_digits t) v e

pub value_fits : (t : List ℕ) (v : ℕ) → length t ≤ 5 → Some v ≡ value_in t → v < 400000
value_fits t v l e = omega (arith, value_is t v e, label_small t l)

pub none_is : (t : List ℕ) → None ≡ value_in t → length t ≤ 5 → ⊥
none_is t e l = none_by (is_wide_literal t) (value_of_digits t) (narrow t l) e

-- ---- CONTINUE

same_label : (a b : ℕ) (cs ds : List ℕ) (us vs : List Word90) → words.Digits (a ∷ cs) ∷ us ≡ words.Digits (b ∷ ds) ∷ vs → a ∷ cs ≡ b ∷ ds
same_label a b cs ds us vs e = cc

pub labelled_is : (r : Option ℕ) (ws rest : List Word90) (t : List ℕ) → ws ≡ words.Digits t ∷ rest → 0 < length t → rest ≡ words.Name (codes "CONTINUE") ∷ []
    → IsLabelValue r t → IsLabelled r ws
labelled_is r ws rest [] e l k h = absurd (omega arith)
labelled_is (Some n) ws rest (d ∷ ds) e l k h =
    record { first = d; more = ds; same = e ∙ ap (λ (q : List Word90). words.Digits (d ∷ ds) ∷ q) k; value = h.0; few = h.1 }
labelled_is None ws rest (d ∷ ds) e l k h =
    λ a cs few f. h (subst IsLabel90 (same_label a d cs ds (words.Name (codes "CONTINUE") ∷ []) rest (sym f ∙ e)) few)

pub ruleset labels = (value_is, value_fits, none_is)
