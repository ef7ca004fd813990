-- The number of a bound's form over the iterations of loops is what the bound is worth in these.
use mathlib.Core.Path.{ap₂}
use Rattle.std.proofs.Common.{◌≡◌, refl, sym, ap, ◌∙◌, subst, ℕ, ℤ, pos, negsuc, neg_ℤ, ◌+ℤ◌, ◌-ℤ◌, ◌*ℤ◌, Bool, true, false, cond, List, [], ◌∷◌, ◌++◌, map, filter, drop, length, Option, Some, None, arith}
use Rattle.std.specs.Prelude.{int_le}
use Rattle.std.specs.List.{list_any}
use Rattle.std.specs.Option.{option_map}
use Rattle.std.specs.Str.{bytes_eq}
use Rattle.std.proofs.lemmas.Int.{ints}
use Rattle.std.proofs.Math.IntN.{zero-*ℤ, *ℤ_comm, +ℤ_idl}
use Rattle.tree.specs.Plain.{Expression}
use Rattle.meaning.specs.Reads.{names_in}
use Rattle.linear_forms.specs.Linear.{Form, weighted, number_at, sum, multiple, constant_form, form_of}
use Rattle.linear_forms.specs.Places.{unit_form}
use Rattle.linear_forms.proofs.LinearLaws.{number_at-sum, number_at-multiple, minus}
use Rattle.linear_forms.proofs.Ring.{less_times}
use Rattle.find_nests.specs.bound_limits.Composed.{Outer, with_multiples, symbol_terms, composed, is_loop_among, those_in, outer_variables_of, composed_bound}
use Rattle.find_nests.specs.bound_limits.Limits.{plus_constant, difference, dividend, normal}
use Rattle.find_nests.specs.bound_limits.Numbers.{Counted, stands, standing_in, numbers, number_in, dividend_of}
use Rattle.find_nests.proofs.BoundNumbers.Weights.{At, filled_weighted}

-- ---- what stands for loops has the numbers of their variables

abbrev pub Hold : (Form → ℤ) → List Outer → List Counted → Type 0
Hold q [] [] = Unit {0}
Hold q [] (v ∷ vs) = ⊥
Hold q (o ∷ os) [] = ⊥
Hold q (o ∷ os) (v ∷ vs) = (o.variable ≡ v.variable) × (q o.form ≡ v.number) × Hold q os vs

pub hold_more : (q : Form → ℤ) (os : List Outer) (vs : List Counted) (o : Outer) (v : Counted) → Hold q os vs → o.variable ≡ v.variable → q o.form ≡ v.number
    → Hold q (os ++ o ∷ []) (vs ++ v ∷ [])
hold_more q [] [] o v h x z = (x, z, tt)
hold_more q [] (w ∷ ws) o v h x z = absurd h
hold_more q (p ∷ ps) [] o v h x z = absurd h
hold_more q (p ∷ ps) (w ∷ ws) o v h x z = (h.0, h.1, hold_more q ps ws o v h.2 x z)

hold_variables : (q : Form → ℤ) (os : List Outer) (vs : List Counted) → Hold q os vs → outer_variables_of os ≡ map (λ (v : Counted). v.variable) vs
hold_variables q [] [] h = refl
hold_variables q [] (v ∷ vs) h = absurd h
hold_variables q (o ∷ os) [] h = absurd h
hold_variables q (o ∷ os) (v ∷ vs) h = ap₂ (λ x xs. x ∷ xs) h.0 (hold_variables q os vs h.2)

hold_those : (names : List (List ℕ)) (q : Form → ℤ) (os : List Outer) (vs : List Counted) → Hold q os vs → Hold q (filter (is_loop_among names) os) (filter (stands names) vs)
hold_those names q [] [] h = tt
hold_those names q [] (v ∷ vs) h = absurd h
hold_those names q (o ∷ os) [] h = absurd h
hold_those names q (o ∷ os) (v ∷ vs) h =
    let same : is_loop_among names o ≡ stands names v = ap (λ x. list_any (λ y. bytes_eq y x) names) h.0 in
    subst (λ b. Hold q (cond (is_loop_among names o) (o ∷ filter (is_loop_among names) os) (filter (is_loop_among names) os)) (cond b (v ∷ filter (stands names) vs) (filter (stands names) vs))) same
    (by (is_loop_among names o) (hold_those names q os vs h.2))
  where
    by : (b : Bool) → Hold q (filter (is_loop_among names) os) (filter (stands names) vs)
        → Hold q (cond b (o ∷ filter (is_loop_among names) os) (filter (is_loop_among names) os)) (cond b (v ∷ filter (stands names) vs) (filter (stands names) vs))
    by true more = (h.0, h.1, more)
    by false more = more

-- ---- sums over loops

abbrev total : List ℤ → List Outer → (Form → ℤ) → ℤ
total cs [] q = pos 0
total cs (r ∷ rs) q = At cs 0 *ℤ q r.form +ℤ total (drop 1 cs) rs q

grouped : (x y z : ℤ) → (x +ℤ y) +ℤ z ≡ x +ℤ (y +ℤ z)
grouped x y z = omega (arith, ints)

no_more : (x : ℤ) → x ≡ x +ℤ pos 0
no_more x = omega (arith, ints)

nothing_total : (rs : List Outer) (q : Form → ℤ) → total [] rs q ≡ pos 0
nothing_total [] q = refl
nothing_total (r ∷ rs) q = ap (λ z. z +ℤ total [] rs q) (zero-*ℤ (q r.form)) ∙ +ℤ_idl (total [] rs q) ∙ nothing_total rs q

-- the first coefficients are those of the loops
front_weighted : (q : Form → ℤ) (cs : List ℤ) (os : List Outer) (vs : List Counted) (xs : List ℤ) → Hold q os vs
    → weighted cs (numbers vs ++ xs) ≡ total cs os q +ℤ weighted (drop (length os) cs) xs
front_weighted q cs [] [] xs h = sym (+ℤ_idl (weighted cs xs))
front_weighted q cs [] (v ∷ vs) xs h = absurd h
front_weighted q cs (o ∷ os) [] xs h = absurd h
front_weighted q [] (o ∷ os) (v ∷ vs) xs h = sym (ap (λ z. z +ℤ pos 0) (nothing_total (o ∷ os) q))
front_weighted q (c ∷ cs) (o ∷ os) (v ∷ vs) xs h =
    ap₂ (λ z w. c *ℤ z +ℤ w) (sym h.1) (front_weighted q cs os vs xs h.2)
    ∙ sym (grouped (c *ℤ q o.form) (total cs os q) (weighted (drop (length os) cs) xs))

-- ---- numbers of sums

pub sum_number : (f g : Form) (z : ℤ) (us : List ℤ) → number_at (sum f (multiple z g)) us ≡ number_at f us +ℤ z *ℤ number_at g us
sum_number f g z us = number_at-sum f (multiple z g) us ∙ ap (λ w. number_at f us +ℤ w) (number_at-multiple z g us)

pub plus_number : (f : Form) (z : ℤ) (us : List ℤ) → number_at (plus_constant f z) us ≡ number_at f us +ℤ z
plus_number f z us = number_at-sum f (constant_form z) us ∙ ap (λ w. number_at f us +ℤ w) (+ℤ_idl z)

difference_number : (f g : Form) (us : List ℤ) → number_at (difference f g) us ≡ number_at f us -ℤ number_at g us
difference_number f g us = sum_number f g (negsuc 0) us ∙ ap (λ w. number_at f us +ℤ w) (minus (number_at g us))

pub dividend_number : (step : ℤ) (first last : Form) (us : List ℤ) → dividend_of step (number_at first us) (number_at last us) ≡ number_at (dividend step first last) us
dividend_number step first last us = by (int_le (pos 0) step)
  where
    by : (b : Bool) → cond b ((number_at last us -ℤ number_at first us) +ℤ step) ((number_at first us -ℤ number_at last us) -ℤ step)
        ≡ number_at (cond b (plus_constant (difference last first) step) (plus_constant (difference first last) (neg_ℤ step))) us
    by true = sym (plus_number (difference last first) step us ∙ ap (λ z. z +ℤ step) (difference_number last first us))
    by false = sym (plus_number (difference first last) (neg_ℤ step) us ∙ ap (λ z. z +ℤ neg_ℤ step) (difference_number first last us))

multiples_number : (f : Form) (cs : List ℤ) (rs : List Outer) (us : List ℤ) → number_at (with_multiples f cs rs) us ≡ number_at f us +ℤ total cs rs (λ g. number_at g us)
multiples_number f cs [] us = no_more (number_at f us)
multiples_number f cs (r ∷ rs) us =
    multiples_number (sum f (multiple (At cs 0) r.form)) (drop 1 cs) rs us
    ∙ ap (λ z. z +ℤ total (drop 1 cs) rs (λ g. number_at g us)) (sum_number f r.form (At cs 0) us)
    ∙ grouped (number_at f us) (At cs 0 *ℤ number_at r.form us) (total (drop 1 cs) rs (λ g. number_at g us))

-- the variable of a loop in its iteration
pub normal_number : (place : ℕ) (step : ℤ) (first : Form) (us : List ℤ) (j : ℤ) → number_at (unit_form place) us ≡ j
    → number_at (normal place step first) us ≡ number_at first us +ℤ step *ℤ (j -ℤ pos 1)
normal_number place step first us j e =
    plus_number (sum first (multiple step (unit_form place))) (neg_ℤ step) us
    ∙ ap (λ z. z +ℤ neg_ℤ step) (sum_number first (unit_form place) step us ∙ ap (λ z. number_at first us +ℤ step *ℤ z) e)
    ∙ grouped (number_at first us) (step *ℤ j) (neg_ℤ step)
    ∙ ap (λ z. number_at first us +ℤ z) (sym (times_less step j))
  where
    one : (z : ℤ) → pos 1 *ℤ z ≡ z
    one z = omega (arith, ints)

    times_less : (s j : ℤ) → s *ℤ (j -ℤ pos 1) ≡ s *ℤ j -ℤ s
    times_less s j = *ℤ_comm s (j -ℤ pos 1) ∙ less_times j (pos 1) s ∙ ap₂ (λ a b. a -ℤ b) (*ℤ_comm j s) (one s)

-- ---- bounds

-- what is put together has the number of the form over the variables
module _ (symbols : List (List ℕ)) (xs js : List ℤ) (all : length xs ≡ length symbols) where
  abbrev pub at_all : Form → ℤ
  at_all f = number_at f (xs ++ js)

  composed_number : (os : List Outer) (vs : List Counted) (f : Form) → Hold at_all os vs → at_all (composed (length symbols) os f) ≡ number_at f (numbers vs ++ xs)
  composed_number os vs f h =
      multiples_number (symbol_terms (length symbols) (length os) f) f.coefficients os (xs ++ js)
      ∙ ap (λ z. (z +ℤ f.constant) +ℤ total f.coefficients os at_all) (filled_weighted (length symbols) (drop (length os) f.coefficients) xs js all)
      ∙ turned (weighted (drop (length os) f.coefficients) xs) f.constant (total f.coefficients os at_all)
      ∙ ap (λ z. z +ℤ f.constant) (sym (front_weighted at_all f.coefficients os vs xs h))
    where
      turned : (w c t : ℤ) → (w +ℤ c) +ℤ t ≡ (t +ℤ w) +ℤ c
      turned w c t = omega (arith, ints)

  pub bound_number : (os : List Outer) (vs : List Counted) (e : Expression) → Hold at_all os vs → option_map at_all (composed_bound symbols os e) ≡ number_in symbols xs vs e
  bound_number os vs e h =
      let few = hold_those (names_in e) at_all os vs h in
      by few (form_of (outer_variables_of (those_in e os)) symbols e)
      ∙ ap (λ names. option_map (λ (f : Form). number_at f (numbers (standing_in e vs) ++ xs)) (form_of names symbols e)) (hold_variables at_all (those_in e os) (standing_in e vs) few)
    where
      by : Hold at_all (those_in e os) (standing_in e vs) → (o : Option Form)
          → option_map at_all (option_map (composed (length symbols) (those_in e os)) o) ≡ option_map (λ (f : Form). number_at f (numbers (standing_in e vs) ++ xs)) o
      by few None = refl
      by few (Some f) = ap (λ z. let o : Option ℤ = Some z in o) (composed_number (those_in e os) (standing_in e vs) f few)
