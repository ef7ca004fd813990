-- What keeps the limits, by numbers alone: what bounds are worth in the iterations of the loops round them.
use Rattle.std.specs.Prelude.{◌≡◌, ℕ, suc, ℤ, pos, ◌+ℤ◌, ◌-ℤ◌, ◌*ℤ◌, nat_abs, int_div, int_le, Option, Some, None, Bool}
use Rattle.std.specs.Prelude.{true, if◌then◌else◌, List, [], ◌∷◌, ◌++◌, map, length}
use Rattle.std.specs.List.{filter, list_any}
use Rattle.std.specs.Option.{option_map}
use Rattle.std.specs.Str.{bytes_eq}
use Rattle.tree.specs.Plain.{Expression}
use Rattle.meaning.specs.Reads.{names_in}
use Rattle.linear_forms.specs.Linear.{Form, number_at, form_of}
use Rattle.nest_reasons.specs.Increments.{step_of}
use Rattle.find_nests.specs.Loops.{SourceLoop, SurroundedLoop}
use Rattle.find_nests.specs.bound_limits.Limits.{keeps_limits}

-- the variable of a loop, with its number in an iteration
pub record Counted : Type 0 where
  pub variable : List ℕ
  pub number : ℤ

abbrev pub stands : List (List ℕ) → Counted → Bool
stands names v = list_any (λ y. bytes_eq y v.variable) names

abbrev pub standing_in : Expression → List Counted → List Counted
standing_in e vs = filter (stands (names_in e)) vs

abbrev pub numbers : List Counted → List ℤ
numbers vs = map (λ (v : Counted). v.number) vs

-- what a bound is worth that is linear over the symbols, whose numbers are xs, and over those of the variables that
-- stand in it
abbrev pub number_in : List (List ℕ) → List ℤ → List Counted → Expression → Option ℤ
number_in symbols xs vs e =
    option_map (λ (f : Form). number_at f (numbers (standing_in e vs) ++ xs))
    (form_of (map (λ (v : Counted). v.variable) (standing_in e vs)) symbols e)

abbrev pub and_then : {A B : Type 0} → Option A → (A → Option B) → Option B
and_then None f = None
and_then (Some x) f = f x

-- a variable in an iteration, counted from 1: the first bound, and the increment as often as there are some before it
abbrev pub at_iteration : ℤ → Option ℤ → Option ℤ → Option ℤ
at_iteration j (Some first) (Some step) = Some (first +ℤ step *ℤ (j -ℤ pos 1))
at_iteration j (Some first) None = None
at_iteration j None step = None

module _ (symbols : List (List ℕ)) (xs : List ℤ) where
  -- the variables of loops in these iterations, from the outside in, behind those of the loops round them
  abbrev pub counted : List Counted → List SourceLoop → List ℤ → Option (List Counted)
  counted vs [] js = Some vs
  counted vs (l ∷ ls) [] = None
  counted vs (l ∷ ls) (j ∷ js) =
      and_then (at_iteration j (number_in symbols xs vs l.first) (step_of l.step))
      (λ z. counted (vs ++ record { variable = l.variable; number = z } ∷ []) ls js)

  abbrev pub number_within : List SourceLoop → List ℤ → Expression → Option ℤ
  number_within around js e = and_then (counted [] around js) (λ vs. number_in symbols xs vs e)

-- by the numbers of the symbols, and the iterations
abbrev pub Quantity : Type 0
Quantity = List ℤ → List ℤ → ℤ

-- n numbers of symbols, and the iterations of m loops
abbrev pub ForAll : ℕ → ℕ → (List ℤ → List ℤ → Type 0) → Type 0
ForAll n m P = (xs js : List ℤ) → length xs ≡ n → length js ≡ m → P xs js

-- the bound has these numbers under the loops
abbrev pub IsWorth : List (List ℕ) → List SourceLoop → Expression → Quantity → Type 0
IsWorth symbols around e q =
    ForAll (length symbols) (length around) (λ xs js. number_within symbols xs around js e ≡ Some (q xs js))

-- they are those of a form that keeps the limits
pub record HasForm (n m : ℕ) (q : Quantity) : Type 0 where
  pub form : Form
  pub is : ForAll n m (λ xs js. q xs js ≡ number_at form (xs ++ js))
  pub kept : keeps_limits n 0 form ≡ true

-- by one symbol more, which stands for the trip, before the others
abbrev pub with_trip : (ℤ → Quantity) → Quantity
with_trip q [] js = pos 0
with_trip q (t ∷ xs) js = q t xs js

-- what is divided by the increment's size to get the trip
abbrev pub dividend_of : ℤ → ℤ → ℤ → ℤ
dividend_of step first last =
    if int_le (pos 0) step then (last -ℤ first) +ℤ step else (first -ℤ last) -ℤ step

-- the last number of the variable: the trip is known where the dividend is, and is the dividend where the increment's
-- size is 1; else it is a symbol
pub record EndHasForm (n m : ℕ) (step : ℤ) (first top : Quantity) : Type 0 where
  pub known : (d : ℤ) → ForAll n m (λ xs js. top xs js ≡ d)
      → HasForm n m (λ xs js. first xs js +ℤ step *ℤ int_div d (pos (nat_abs step)))
  pub undivided : ((d : ℤ) → ForAll n m (λ xs js. top xs js ≡ d) → ⊥) → nat_abs step ≡ 1
      → HasForm n m (λ xs js. first xs js +ℤ step *ℤ top xs js)
  pub divided : ((d : ℤ) → ForAll n m (λ xs js. top xs js ≡ d) → ⊥) → (nat_abs step ≡ 1 → ⊥)
      → HasForm (suc n) m (with_trip (λ t xs js. first xs js +ℤ step *ℤ t))

-- the first bound, the same less the increment, the dividend of the trip, and the variable's last number
pub record KeepsLimits (symbols : List (List ℕ)) (p : SurroundedLoop) : Type 0 where
  pub step : ℤ
  pub first : Quantity
  pub last : Quantity
  pub step_is : step_of p.loop.loop.step ≡ Some step
  pub first_is : IsWorth symbols p.around p.loop.loop.first first
  pub last_is : IsWorth symbols p.around p.loop.loop.last last
  pub lower : HasForm (length symbols) (length p.around) first
  pub before : HasForm (length symbols) (length p.around) (λ xs js. first xs js -ℤ step)
  pub top : HasForm (length symbols) (length p.around) (λ xs js. dividend_of step (first xs js) (last xs js))
  pub end : EndHasForm (length symbols) (length p.around) step first
      (λ xs js. dividend_of step (first xs js) (last xs js))
