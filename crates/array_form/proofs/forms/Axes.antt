-- What the subscripts of a form select, position by position.
use Rattle.std.proofs.Common.{◌≡◌, ◌≢◌, refl, sym, ap, ◌∙◌, subst, ◌⊎◌, inl, inr, ℕ, zero, suc, ◌+◌, ◌-◌, ◌≤◌, ◌<◌, ℤ, pos, ◌+ℤ◌, ◌-ℤ◌, ◌*ℤ◌, int_div, int_le, Bool, true, false, cond, ◌&&◌, not, List, [], ◌∷◌, ◌++◌, map, drop, length, filter, Result, Ok, Err, Option, Some, None, arith, Contains, nat_le}
use Rattle.std.specs.Ordering.{int_eq}
use Rattle.std.specs.Str.{bytes_eq}
use Rattle.std.proofs.lemmas.Bool.{leb-true}
use Rattle.std.proofs.lemmas.Bool.Decides.{Decides-int_eq}
use Rattle.std.proofs.lemmas.List.Elements.{Contains-append_cases}
use Rattle.std.proofs.lemmas.Int.{ints}
use Rattle.std.proofs.lemmas.Slice.Eq.{bytes_eq-Decides}
use Rattle.std.proofs.Math.IntN.{*ℤ_comm, suc_ℤ-*ℤ}
use mathlib.Core.Path.{ap₂}
use Rattle.tree.specs.Operators.{as_number, as_numbers}
use Rattle.tree.specs.declared.ops.Op.TheVariants.{Mul}
use Rattle.tree.specs.Plain.{Expression, Named, Binary, Subscript, Only, Section, Subscripts, no_subscripts, subscript}
use Rattle.tree.specs.Steps.{◌>>=◌}
use Rattle.tree.specs.declared.ops.Fault.{Fault}
use Rattle.tree.specs.declared.ops.Fault.TheVariants.{Bounds, ZeroStep}
use Rattle.tree.specs.declared.ops.Value.{Value}
use Rattle.tree.specs.declared.ops.Value.TheVariants.{Int, Truth}
use Rattle.meaning.specs.ArrayStatements.{axes_named}
use Rattle.meaning.specs.ArrayValues.{Array, Elements, in_whole, counted, positions}
use Rattle.meaning.specs.Dialect.{Dialect}
use Rattle.meaning.specs.Reads.{names_in, names_in_subscript}
use Rattle.meaning.specs.Sections.{Selector, Index, Triplet, Vector, Axis, Fixed, Along, not_negative, steps_from, is_within_bounds, all_stand_in, along, axis_on, axes_on, axes_selected, extents_of}
use Rattle.meaning.specs.Store.{Store, Cell, is_within, bounds_in, cell_in, cell_at}
use Rattle.meaning.specs.Value.{value_of, array_of, subscript_value, subscript_values, selector, selectors, is_scalar, is_index, are_indices, numbered, evaluated, selector_of, bound_to}
use Rattle.meaning_laws.proofs.arrays.OneToOne.{length_steps, triplet_selects_once}
use Rattle.meaning_laws.specs.arrays.Elements.{number_at, subscripts_at}
use Rattle.meaning_laws.specs.arrays.OneToOne.{AreDifferent, SelectOnce}
use Rattle.meaning_laws.proofs.arrays.Members.{here, there, nowhere, cases_of}
use Rattle.meaning_laws.proofs.arrays.Scalars.{single}
use Rattle.meaning_laws.proofs.arrays.Sections.{number_of_triplet}
use Rattle.meaning_laws.proofs.arrays.Stages.{bound, same_answer}
use Rattle.linear_forms.specs.Laws.{AreSized}
use Rattle.linear_forms.specs.Linear.{Form, HaveValues, constant_form, multiple, is_limited, all_small, is_small, not_zero, form_of}
use Rattle.linear_forms.specs.Linear as forms
use Rattle.linear_forms.proofs.Faultless.{linear_has_value}
use Rattle.linear_forms.proofs.Sizes.{both}
use Rattle.array_form.specs.forms.Following.{has_no_loop, is_moved, are_moved, is_regular, are_regular_subscripts}
use Rattle.array_form.specs.forms.Forms.{number_text, form_trip_text, form_of_trip, terms_with, sum_text, section, subscript_with, subscript_form, subscript_forms, form}
use Rattle.array_form.specs.forms.Instances.{count_of, counts_of}
use Rattle.array_form.specs.forms.Laws.{Turns}
use Rattle.array_form.specs.forms.Loops.{FormLoop, FormSurroundings, form_variables_of, form_names_of, is_among, loops_among}
use Rattle.array_form.specs.forms.Loops.{loops_in_order, one_each, same_loops, coefficient, form_without}
use Rattle.array_form.specs.forms.Trips.{AreDistinct}
use Rattle.array_form.proofs.forms.Bounds.{by_stride, number_known, lower_known, upper_known}
use Rattle.array_form.proofs.forms.Coefficients.{Found, found_form, replaced, replaced_sized, replaced_have, number_replaced, as_long, without_limited, without_short, coefficient_small}
use Rattle.array_form.proofs.forms.Constructing.{Full, whole_full}
use Rattle.array_form.proofs.forms.Positions.{AreFrom, positions_from, from_positions}
use Rattle.array_form.proofs.forms.Iterations.{at_those, bounds_at, element_at, value_part}
use Rattle.array_form.proofs.forms.Singles.{scalar_of}

-- ---- numbers of a stride

each_stands : (b : ℤ × ℤ) (zs : List ℤ) → ((i : ℕ) → i < length zs → is_within_bounds b (number_at zs i) ≡ true) → all_stand_in b zs ≡ true
each_stands b [] h = refl
each_stands b (z ∷ zs) h = ap₂ (λ p q. p && q) (h 0 (omega arith)) (each_stands b zs (λ i l. h (suc i) (omega (arith, l))))

-- a * i + r, by its first number and the stride a
from_first : (a r : ℤ) (i : ℕ) → a +ℤ r +ℤ pos i *ℤ a ≡ a *ℤ pos (suc i) +ℤ r
from_first a r i = rearranged a r (pos i *ℤ a) ∙ ap (λ w. w +ℤ r) (sym (suc_ℤ-*ℤ (pos i) a) ∙ *ℤ_comm (pos (suc i)) a)
  where
    rearranged : (a r t : ℤ) → a +ℤ r +ℤ t ≡ t +ℤ a +ℤ r
    rearranged a r t = omega (arith, ints)

span_of : (a r : ℤ) (n : ℕ) → (a *ℤ pos n +ℤ r) -ℤ (a +ℤ r) +ℤ a ≡ pos n *ℤ a
span_of a r n = rearranged a r (a *ℤ pos n) ∙ *ℤ_comm a (pos n)
  where
    rearranged : (a r t : ℤ) → (t +ℤ r) -ℤ (a +ℤ r) +ℤ a ≡ t
    rearranged a r t = omega (arith, ints)

not_nought : (z : ℤ) → not (int_eq z (pos 0)) ≡ true → (int_eq z (pos 0) ≡ false) × (z ≢ pos 0)
not_nought z h = by (int_eq z (pos 0)) refl h
  where
    by : (b : Bool) → int_eq z (pos 0) ≡ b → not b ≡ true → (int_eq z (pos 0) ≡ false) × (z ≢ pos 0)
    by true e k = absurd cc
    by false e k = (e, λ q. let same = (Decides-int_eq z (pos 0)).1 q in let both = sym e ∙ same in cc)

-- a value that is a number
number_of_value : (v : Value) (z : ℤ) → as_number v ≡ Ok z → v ≡ Int z
number_of_value (Int y) z h = ap Int (same_answer y z h)
number_of_value (Truth b) z h = absurd cc

-- numbers of values, and of one dimension
abbrev number_in : Result Value Fault → ℤ
number_in (Ok (Int z)) = z
number_in (Ok (Truth b)) = pos 0
number_in (Err f) = pos 0

abbrev first_place : List ℕ → ℕ
first_place [] = 0
first_place (i ∷ is) = i

numbers_of_map : (g : List ℕ → ℤ) (iss : List (List ℕ)) → as_numbers (map (λ is. Int (g is)) iss) ≡ Ok (map g iss)
numbers_of_map g [] = refl
numbers_of_map g (is ∷ iss) = ap (λ (r : Result (List ℤ) Fault). let q : Result (List ℤ) Fault = (do zs ← r; Ok (g is ∷ zs)) in q) (numbers_of_map g iss)

one_dimension : (f : ℕ → ℤ) (ks : List ℕ) → map (λ is. f (first_place is)) (map (λ i. i ∷ []) ks ++ []) ≡ map f ks
one_dimension f [] = refl
one_dimension f (k ∷ ks) = ap (λ zs. f k ∷ zs) (one_dimension f ks)

counted_long : (f : ℕ → ℤ) (k n : ℕ) → length (map f (counted k n)) ≡ n
counted_long f k zero = refl
counted_long f k (suc n) = ap (λ m. suc m) (counted_long f (k + 1) n)

number_counted : (f : ℕ → ℤ) (k n i : ℕ) → i < n → number_at (map f (counted k n)) i ≡ f (k + i)
number_counted f k zero i h = absurd (omega (arith, h))
number_counted f k (suc n) zero h = ap f (let e : k ≡ k + 0 = omega arith in e)
number_counted f k (suc n) (suc i) h = number_counted f (k + 1) n i (omega (arith, h)) ∙ ap f (let e : k + 1 + i ≡ k + suc i = omega arith in e)

module _ (d : Dialect) (a : FormSurroundings) (s : Store) (xs : List ℤ) (few : length a.loops ≤ 7) (values : HaveValues (form_names_of a) s xs) (sized : AreSized xs) (distinct : AreDistinct (form_names_of a)) where
  -- loops whose names have places, and that turn
  pub record Fit (D : List FormLoop) : Type 0 where
    pub turns : (l : FormLoop) → Contains D l → Turns a xs l
    pub among : (l : FormLoop) → Contains D l → is_among (form_names_of a) l.variable ≡ true
    pub one : (l m : FormLoop) → Contains D l → Contains D m → l.variable ≡ m.variable → l ≡ m

  -- iterations within the trips
  abbrev pub Within : List FormLoop → (List ℕ → ℕ) → Type 0
  Within D ι = (l : FormLoop) → Contains D l → (1 ≤ ι l.variable) × (ι l.variable ≤ count_of xs l)

  -- positions count from 0
  abbrev pub places : (List ℕ → ℕ) → List FormLoop → List ℕ
  places ι ls = map (λ (l : FormLoop). ι l.variable - 1) ls

  pub firsts : (D : List FormLoop) → Fit D → Within D (λ x. 1)
  firsts D fit l m = let t = (fit.turns l m).least in (omega arith, t)

  -- one loop at its i-th iteration, all others at their first
  abbrev pub only : FormLoop → ℕ → List ℕ → ℕ
  only l i x = cond (bytes_eq l.variable x) i 1

  pub only_itself : (l : FormLoop) (i : ℕ) → only l i l.variable ≡ i
  only_itself l i = ap (λ b. cond b i 1) ((bytes_eq-Decides l.variable l.variable).1 refl)

  pub only_within : (D : List FormLoop) → Fit D → (l : FormLoop) → Contains D l → (i : ℕ) → 1 ≤ i → i ≤ count_of xs l → Within D (only l i)
  only_within D fit l here i low high m there = by (bytes_eq l.variable m.variable) refl
    where
      by : (b : Bool) → bytes_eq l.variable m.variable ≡ b → (1 ≤ cond b i 1) × (cond b i 1 ≤ count_of xs m)
      by true e = let same = fit.one l m here there ((bytes_eq-Decides l.variable m.variable).0 e) in (low, subst (λ (k : FormLoop). i ≤ count_of xs k) same high)
      by false e = let t = (fit.turns m there).least in (omega arith, t)

  -- ---- one subscript

  -- at each instance it is a number within bounds
  abbrev pub IsWithin : List FormLoop → Expression → ℤ × ℤ → Type 0
  IsWithin D e b = (ι : List ℕ → ℕ) → Within D ι → (z : ℤ) × (value_of d e (at_those ι D s) ≡ Ok (Int z)) × (is_within_bounds b z ≡ true)

  pub record SelectsOne (D : List FormLoop) (e : Expression) (p : Subscript) (b : ℤ × ℤ) : Type 0 where
    pub number : ℤ
    pub known : selector d p s ≡ Ok (Index number)
    pub stands : is_within_bounds b number ≡ true
    pub index : is_index p s.bounds ≡ true
    pub at : (ι : List ℕ → ℕ) → Within D ι → value_of d e (at_those ι D s) ≡ Ok (Int number)

  pub record SelectsMany (D : List FormLoop) (e : Expression) (p : Subscript) (b : ℤ × ℤ) (l : FormLoop) : Type 0 where
    pub selected : Selector
    pub numbers : List ℤ
    pub known : selector d p s ≡ Ok selected
    pub on : axis_on b selected ≡ Ok (Along numbers)
    pub count : length numbers ≡ count_of xs l
    pub index : is_index p s.bounds ≡ false
    pub differ : (form_of (form_variables_of a.loops) a.symbols e ≡ None → ⊥) → AreDifferent numbers
    pub at : (ι : List ℕ → ℕ) → Within D ι → value_of d e (at_those ι D s) ≡ Ok (Int (number_at numbers (ι l.variable - 1)))

  abbrev pub Selects : List FormLoop → Expression → Subscript → ℤ × ℤ → List FormLoop → Type 0
  Selects D e p b [] = SelectsOne D e p b
  Selects D e p b (l ∷ []) = SelectsMany D e p b l
  Selects D e p b (l ∷ m ∷ ls) = ⊥

  -- the value of what has no loops
  pub still : (D : List FormLoop) (e : Expression) → loops_among D (names_in e) ≡ [] → (ι : List ℕ → ℕ) → value_of d e (at_those ι D s) ≡ value_of d e s
  still D e none ι = value_part ι d D e s ∙ ap (λ ls. value_of d e (at_those ι ls s)) none

  single_selector : (e : Expression) (z : ℤ) → value_of d e s ≡ Ok (Int z) → selector d (Only e) s ≡ Ok (Index z)
  single_selector e z h = ap₂ (λ b r. do v ← evaluated b r (array_of d e s); zs ← as_numbers v.values; Ok (selector_of v.extents zs)) (scalar_of d s e (Int z) h) h

  pub selects_one : (D : List FormLoop) → Fit D → (e : Expression) (b : ℤ × ℤ) → loops_among D (names_in e) ≡ [] → IsWithin D e b → SelectsOne D e (Only e) b
  selects_one D fit e b none h =
      let v = h (λ x. 1) (firsts D fit) in
      let now : value_of d e s ≡ Ok (Int v.0) = sym (still D e none (λ x. 1)) ∙ v.1 in
      record { number = v.0; known = single_selector e v.0 now; stands = v.2; index = scalar_of d s e (Int v.0) now; at = λ ι w. still D e none ι ∙ now }

  -- a linear subscript of one loop
  module _ (D : List FormLoop) (fit : Fit D) (l : FormLoop) (among : Contains D l) (e : Expression) (only_one : loops_among D (names_in e) ≡ l ∷ []) (f : Form) (linear : form_of (form_variables_of a.loops) a.symbols e ≡ Some f) where
    abbrev factor : ℤ
    factor = coefficient (form_names_of a) l.variable f.coefficients

    abbrev rest : ℤ
    rest = forms.number_at (form_without (form_names_of a) l.variable f) xs

    at_iteration : (i : ℕ) → i ≤ count_of xs l → value_of d e (bound_to l.variable (pos i) s) ≡ Ok (Int (factor *ℤ pos i +ℤ rest))
    at_iteration i high =
        let most = (fit.turns l among).most in
        linear_has_value d (form_variables_of a.loops) a.symbols e f (bound_to l.variable (pos i) s) (replaced (form_names_of a) l.variable (pos i) xs) linear
        (replaced_have (form_names_of a) l.variable (pos i) s xs distinct values) (replaced_sized (form_names_of a) l.variable (pos i) xs (omega (arith, most, high)) sized)
        ∙ ap (λ z. Ok (Int z)) (number_replaced (form_names_of a) l.variable (pos i) f xs (fit.among l among) (as_long (form_names_of a) s xs values))

    moving : (ι : List ℕ → ℕ) → Within D ι → value_of d e (at_those ι D s) ≡ Ok (Int (factor *ℤ pos (ι l.variable) +ℤ rest))
    moving ι w = value_part ι d D e s ∙ (ap (λ ls. value_of d e (at_those ι ls s)) only_one ∙ at_iteration (ι l.variable) (w l among).1)

    abbrev selected_numbers : List ℤ
    selected_numbers = steps_from (factor +ℤ rest) factor (count_of xs l)

    number_there : (i : ℕ) → i < count_of xs l → number_at selected_numbers i ≡ factor *ℤ pos (suc i) +ℤ rest
    number_there i h = number_of_triplet (factor +ℤ rest) factor i (count_of xs l) h ∙ from_first factor rest i

    moved_at : (ι : List ℕ → ℕ) → Within D ι → value_of d e (at_those ι D s) ≡ Ok (Int (number_at selected_numbers (ι l.variable - 1)))
    moved_at ι w =
        let low = (w l among).0 in
        let high = (w l among).1 in
        let next : suc (ι l.variable - 1) ≡ ι l.variable = omega (arith, low) in
        moving ι w ∙ ap (λ z. Ok (Int z)) (ap (λ i. factor *ℤ pos i +ℤ rest) (sym next) ∙ sym (number_there (ι l.variable - 1) (omega (arith, low, high))))

    pub selects_section : (b : ℤ × ℤ) → not (int_eq factor (pos 0)) ≡ true → IsWithin D e b → SelectsMany D e (section a l f) b l
    selects_section b moves h = record {
      selected = Triplet (factor +ℤ rest) (factor *ℤ pos (count_of xs l) +ℤ rest) factor;
      numbers = selected_numbers;
      known = ap₂ (λ (p q : Result Value Fault). do i ← numbered p; j ← numbered q; k ← numbered (value_of d (number_text factor) s); Ok (Triplet i j k)) low high
          ∙ ap (λ (p : Result Value Fault). do k ← numbered p; Ok (Triplet (factor +ℤ rest) (factor *ℤ pos (count_of xs l) +ℤ rest) k)) (number_known d s factor small);
      on = ap (λ q. let r : Result Axis Fault = cond q (Err ZeroStep) (along b (steps_from (factor +ℤ rest) factor (not_negative (int_div ((factor *ℤ pos (count_of xs l) +ℤ rest) -ℤ (factor +ℤ rest) +ℤ factor) factor)))) in r) nonzero.0
          ∙ (ap (λ n. along b (steps_from (factor +ℤ rest) factor n)) turns_so_often ∙ ap (λ q. let r : Result Axis Fault = cond q (Ok (Along selected_numbers)) (Err Bounds) in r) all);
      count = length_steps (factor +ℤ rest) factor (count_of xs l);
      index = refl;
      differ = λ n. triplet_selects_once (factor +ℤ rest) factor (count_of xs l) nonzero.1;
      at = moved_at;
    }
      where
        found : Found (form_variables_of a.loops) a.symbols f
        found = found_form (form_variables_of a.loops) a.symbols e f linear

        same_length : (ls : List FormLoop) → length (form_variables_of ls) ≡ length ls
        same_length [] = refl
        same_length (m ∷ ls) = ap (λ n. suc n) (same_length ls)

        limits : is_limited (length a.loops) f ≡ true
        limits = subst (λ n. is_limited n f ≡ true) (same_length a.loops) found.limits

        small : is_small factor ≡ true
        small = coefficient_small (form_names_of a) l.variable f.coefficients (both (all_small f.coefficients) (is_small f.constant && nat_le (not_zero (drop (length a.loops) f.coefficients)) 8) limits).0

        short : length (form_without (form_names_of a) l.variable f).coefficients ≤ length (form_names_of a)
        short = let k = found.short in let m = without_short (form_names_of a) l.variable f.coefficients in omega (arith, k, m)

        low : value_of d (sum_text (length a.loops) (terms_with (form_names_of a) l.trip) (number_text factor) (constant_form factor) (form_without (form_names_of a) l.variable f)) s ≡ Ok (Int (factor +ℤ rest))
        low = lower_known d a s xs few values sized l (fit.turns l among) factor (form_without (form_names_of a) l.variable f) small (without_limited (length a.loops) (form_names_of a) l.variable f limits) short

        high : value_of d (sum_text (length a.loops) (terms_with (form_names_of a) l.trip) (Binary Mul (number_text factor) (form_trip_text (form_names_of a) l.trip)) (multiple factor (form_of_trip (form_names_of a) l.trip)) (form_without (form_names_of a) l.variable f)) s ≡ Ok (Int (factor *ℤ pos (count_of xs l) +ℤ rest))
        high = upper_known d a s xs few values sized l (fit.turns l among) factor (form_without (form_names_of a) l.variable f) small (without_limited (length a.loops) (form_names_of a) l.variable f limits) short

        nonzero : (int_eq factor (pos 0) ≡ false) × (factor ≢ pos 0)
        nonzero = not_nought factor moves

        turns_so_often : not_negative (int_div ((factor *ℤ pos (count_of xs l) +ℤ rest) -ℤ (factor +ℤ rest) +ℤ factor) factor) ≡ count_of xs l
        turns_so_often = ap (λ z. not_negative (int_div z factor)) (span_of factor rest (count_of xs l)) ∙ by_stride (count_of xs l) factor nonzero.1

        stands_there : (i : ℕ) → i < length selected_numbers → is_within_bounds b (number_at selected_numbers i) ≡ true
        stands_there i h' =
            let long = length_steps (factor +ℤ rest) factor (count_of xs l) in
            let below : i < count_of xs l = omega (arith, h', long) in
            let w = only_within D fit l among (suc i) (omega arith) below in
            let v = h (only l (suc i)) w in
            let there : value_of d e (at_those (only l (suc i)) D s) ≡ Ok (Int (factor *ℤ pos (suc i) +ℤ rest)) = moving (only l (suc i)) w ∙ ap (λ j. Ok (Int (factor *ℤ pos j +ℤ rest))) (only_itself l (suc i)) in
            let same : v.0 ≡ factor *ℤ pos (suc i) +ℤ rest = let both' = sym v.1 ∙ there in cc in
            ap (is_within_bounds b) (number_there i below ∙ sym same) ∙ v.2

        all : all_stand_in b selected_numbers ≡ true
        all = each_stands b selected_numbers stands_there

  -- ---- all subscripts

  pub record SelectsAll (D : List FormLoop) (ps qs : Subscripts) (bs : List (ℤ × ℤ)) (ls : List FormLoop) : Type 0 where
    pub selected : List Selector
    pub axes : List Axis
    pub known : selectors d qs s ≡ Ok selected
    pub on : axes_on bs selected ≡ Ok axes
    pub extents : extents_of axes ≡ counts_of xs ls
    pub indices : are_indices qs s.bounds ≡ has_no_loop ls
    pub once : are_moved a D ps ≡ true → SelectOnce axes
    pub at : (ι : List ℕ → ℕ) → Within D ι → subscript_values d ps (at_those ι D s) ≡ Ok (subscripts_at axes (places ι ls))

  one_before : (D : List FormLoop) (e : Expression) (p : Subscript) (b : ℤ × ℤ) (ps qs : Subscripts) (bs : List (ℤ × ℤ)) (ls : List FormLoop)
      → (are_moved a D (subscript (Only e) ps) ≡ true → (is_moved a [] (form_of (form_variables_of a.loops) a.symbols e) false ≡ true) × (are_moved a D ps ≡ true)) → SelectsOne D e p b → SelectsAll D ps qs bs ls → SelectsAll D (subscript (Only e) ps) (subscript p qs) (b ∷ bs) ls
  one_before D e p b ps qs bs ls split_moved o m = record {
    selected = Index o.number ∷ m.selected;
    axes = Fixed o.number ∷ m.axes;
    known = ap₂ (λ (r : Result Selector Fault) (q : Result (List Selector) Fault). do z ← r; zs ← q; Ok (z ∷ zs)) o.known m.known;
    on = ap₂ (λ (r : Result Axis Fault) (q : Result (List Axis) Fault). do z ← r; zs ← q; Ok (z ∷ zs)) (ap (λ q. let r : Result Axis Fault = cond q (Ok (Fixed o.number)) (Err Bounds) in r) o.stands) m.on;
    extents = m.extents;
    indices = ap₂ (λ p q. p && q) o.index m.indices;
    once = λ h. m.once (split_moved h).1;
    at = λ ι w. ap₂ (λ (r : Result Value Fault) (q : Result (List ℤ) Fault). do i ← (do x ← r; as_number x); is ← q; Ok (i ∷ is)) (o.at ι w) (m.at ι w);
  }

  many_before : (D : List FormLoop) (e : Expression) (p : Subscript) (b : ℤ × ℤ) (ps qs : Subscripts) (bs : List (ℤ × ℤ)) (l : FormLoop) (ls : List FormLoop)
      → (are_moved a D (subscript (Only e) ps) ≡ true → (is_moved a (l ∷ []) (form_of (form_variables_of a.loops) a.symbols e) false ≡ true) × (are_moved a D ps ≡ true)) → SelectsMany D e p b l → SelectsAll D ps qs bs ls → SelectsAll D (subscript (Only e) ps) (subscript p qs) (b ∷ bs) (l ∷ ls)
  many_before D e p b ps qs bs l ls split_moved o m = record {
    selected = o.selected ∷ m.selected;
    axes = Along o.numbers ∷ m.axes;
    known = ap₂ (λ (r : Result Selector Fault) (q : Result (List Selector) Fault). do z ← r; zs ← q; Ok (z ∷ zs)) o.known m.known;
    on = ap₂ (λ (r : Result Axis Fault) (q : Result (List Axis) Fault). do z ← r; zs ← q; Ok (z ∷ zs)) o.on m.on;
    extents = ap₂ (λ (n : ℕ) (ns : List ℕ). n ∷ ns) o.count m.extents;
    indices = ap₂ (λ p q. p && q) o.index m.indices;
    once = λ h. (o.differ (λ n. let bad : false ≡ true = ap (λ f. is_moved a (l ∷ []) f false) (sym n) ∙ (split_moved h).0 in absurd cc), m.once (split_moved h).1);
    at = λ ι w. ap₂ (λ (r : Result Value Fault) (q : Result (List ℤ) Fault). do i ← (do x ← r; as_number x); is ← q; Ok (i ∷ is)) (o.at ι w) (m.at ι w);
  }

  before : (D : List FormLoop) (e : Expression) (p : Subscript) (b : ℤ × ℤ) (ps qs : Subscripts) (bs : List (ℤ × ℤ)) (hs ls : List FormLoop)
      → (are_moved a D (subscript (Only e) ps) ≡ true → (is_moved a hs (form_of (form_variables_of a.loops) a.symbols e) false ≡ true) × (are_moved a D ps ≡ true)) → Selects D e p b hs → SelectsAll D ps qs bs ls → SelectsAll D (subscript (Only e) ps) (subscript p qs) (b ∷ bs) (hs ++ ls)
  before D e p b ps qs bs [] ls h o m = one_before D e p b ps qs bs ls h o m
  before D e p b ps qs bs (l ∷ []) ls h o m = many_before D e p b ps qs bs l ls h o m
  before D e p b ps qs bs (l ∷ k ∷ hs) ls h o m = absurd o

  -- at each instance they are numbers within bounds
  abbrev pub AreWithin : List FormLoop → Subscripts → List (ℤ × ℤ) → Type 0
  AreWithin D ps bs = (ι : List ℕ → ℕ) → Within D ι → (zs : List ℤ) × (subscript_values d ps (at_those ι D s) ≡ Ok zs) × (is_within bs zs ≡ true)

  abbrev Parted : Store → Expression → Subscripts → ℤ × ℤ → List (ℤ × ℤ) → Type 0
  Parted t e ps b bs = (z : ℤ) × (ys : List ℤ) × (value_of d e t ≡ Ok (Int z)) × (subscript_values d ps t ≡ Ok ys) × (is_within_bounds b z ≡ true) × (is_within bs ys ≡ true)

  parted : (t : Store) (e : Expression) (ps : Subscripts) (b : ℤ × ℤ) (bs : List (ℤ × ℤ)) (zs : List ℤ) → subscript_values d (subscript (Only e) ps) t ≡ Ok zs → is_within (b ∷ bs) zs ≡ true → Parted t e ps b bs
  parted t e ps b bs zs h w =
      let i = bound (subscript_value d (Only e) t) (λ i. do is ← subscript_values d ps t; Ok (i ∷ is)) zs h in
      let x = bound (value_of d e t) (λ x. as_number x) i.0 i.1 in
      let is = bound (subscript_values d ps t) (λ is. Ok (i.0 ∷ is)) zs i.2 in
      let there : is_within (b ∷ bs) (i.0 ∷ is.0) ≡ true = ap (is_within (b ∷ bs)) (same_answer (i.0 ∷ is.0) zs is.2) ∙ w in
      let one = both (int_le b.0 i.0) (int_le i.0 b.1 && is_within bs is.0) there in
      let two = both (int_le i.0 b.1) (is_within bs is.0) one.1 in
      (i.0, is.0, x.1 ∙ ap Ok (number_of_value x.0 i.0 x.2), is.1, ap₂ (λ p q. p && q) one.0 two.0, two.1)

  among_all : (t : FormLoop → Bool) (ls : List FormLoop) (m : FormLoop) → Contains (filter t ls) m → Contains ls m
  among_all t [] m h = absurd (nowhere m h)
  among_all t (l ∷ ls) m h = by (t l) h (among_all t ls m)
    where
      by : (b : Bool) → Contains (cond b (l ∷ filter t ls) (filter t ls)) m → (Contains (filter t ls) m → Contains ls m) → Contains (l ∷ ls) m
      by true h more = either_one (cases_of l (filter t ls) m h)
        where
          either_one : (l ≡ m) ⊎ Contains (filter t ls) m → Contains (l ∷ ls) m
          either_one (inl e) = subst (Contains (l ∷ ls)) e (here l ls)
          either_one (inr k) = there l ls m (more k)
      by false h more = there l ls m (more h)

  -- ---- a subscript of one loop that isn't linear: its form has rank one

  pub record IsVector (l : FormLoop) (e F : Expression) : Type 0 where
    pub array : Elements Value
    pub known : array_of d F s ≡ Ok array
    pub extents : array.extents ≡ count_of xs l ∷ []
    pub scalar : is_scalar F s.bounds ≡ false
    pub at : (i : ℕ) → i < count_of xs l → array.at (i ∷ []) ≡ value_of d e (bound_to l.variable (pos (suc i)) s)

  module _ (D : List FormLoop) (fit : Fit D) (l : FormLoop) (among : Contains D l) (e F : Expression) (only_one : loops_among D (names_in e) ≡ l ∷ []) (not_linear : form_of (form_variables_of a.loops) a.symbols e ≡ None) (v : IsVector l e F) (b : ℤ × ℤ) (h : IsWithin D e b) where
    abbrev number_there_is : ℕ → ℤ
    number_there_is i = number_in (value_of d e (bound_to l.variable (pos (suc i)) s))

    abbrev count_there : ℕ
    count_there = count_of xs l

    of_instance : (ι : List ℕ → ℕ) → value_of d e (at_those ι D s) ≡ value_of d e (bound_to l.variable (pos (ι l.variable)) s)
    of_instance ι = value_part ι d D e s ∙ ap (λ ls. value_of d e (at_those ι ls s)) only_one

    at_number : (i : ℕ) → i < count_there → (value_of d e (bound_to l.variable (pos (suc i)) s) ≡ Ok (Int (number_there_is i))) × (is_within_bounds b (number_there_is i) ≡ true)
    at_number i low =
        let w = only_within D fit l among (suc i) (omega arith) (omega (arith, low)) in
        let z = h (only l (suc i)) w in
        let now : value_of d e (bound_to l.variable (pos (suc i)) s) ≡ Ok (Int z.0) = ap (λ j. value_of d e (bound_to l.variable (pos j) s)) (sym (only_itself l (suc i))) ∙ (sym (of_instance (only l (suc i))) ∙ z.1) in
        let same : z.0 ≡ number_there_is i = sym (ap number_in now) in
        (now ∙ ap (λ y. Ok (Int y)) same, ap (is_within_bounds b) (sym same) ∙ z.2)

    abbrev numbers_there : List ℤ
    numbers_there = map number_there_is (counted 0 count_there)

    vector_full : Full v.array (count_there ∷ []) (λ is. Int (number_there_is (first_place is)))
    vector_full = record { extents = v.extents; at = λ is c. by is (positions_from (count_there ∷ []) is c) }
      where
        by : (is : List ℕ) → AreFrom 0 (count_there ∷ []) is → v.array.at is ≡ Ok (Int (number_there_is (first_place is)))
        by [] f = absurd f
        by (i ∷ []) f = let low = f.0.1 in let below : i < count_there = omega (arith, low) in v.at i below ∙ (at_number i below).0
        by (i ∷ j ∷ is) f = absurd f.1

    vector_numbers : as_numbers (map (λ is. Int (number_there_is (first_place is))) (positions (count_there ∷ []))) ≡ Ok numbers_there
    vector_numbers = numbers_of_map (λ is. number_there_is (first_place is)) (positions (count_there ∷ [])) ∙ ap Ok (one_dimension number_there_is (counted 0 count_there))

    pub selects_vector : SelectsMany D e (Only F) b l
    selects_vector = record {
      selected = Vector numbers_there;
      numbers = numbers_there;
      known = ap (λ q. do w ← evaluated q (value_of d F s) (array_of d F s); zs ← as_numbers w.values; Ok (selector_of w.extents zs)) v.scalar
          ∙ (ap (λ (r : Result (Elements Value) Fault). do w ← (do g ← r; in_whole g); zs ← as_numbers w.values; Ok (selector_of w.extents zs)) v.known
          ∙ (ap (λ (r : Result Array Fault). do w ← r; zs ← as_numbers w.values; Ok (selector_of w.extents zs)) (whole_full v.array (count_there ∷ []) (λ is. Int (number_there_is (first_place is))) vector_full)
          ∙ ap (λ (r : Result (List ℤ) Fault). do zs ← r; Ok (selector_of (count_there ∷ []) zs)) vector_numbers));
      on = ap (λ q. let r : Result Axis Fault = cond q (Ok (Along numbers_there)) (Err Bounds) in r) (each_stands b numbers_there (λ i low.
          let below : i < count_there = (let long = counted_long number_there_is 0 count_there in omega (arith, low, long)) in
          ap (is_within_bounds b) (number_counted number_there_is 0 count_there i below) ∙ (let same : 0 + i ≡ i = omega arith in ap (λ j. is_within_bounds b (number_there_is j)) same ∙ (at_number i below).1)));
      count = counted_long number_there_is 0 count_there;
      index = v.scalar;
      differ = λ n. absurd (n not_linear);
      at = λ ι w.
          let low = (w l among).0 in
          let high = (w l among).1 in
          let below : ι l.variable - 1 < count_there = omega (arith, low, high) in
          let same : 0 + (ι l.variable - 1) ≡ ι l.variable - 1 = omega arith in
          let next : suc (ι l.variable - 1) ≡ ι l.variable = omega (arith, low) in
          of_instance ι ∙ (ap (λ j. value_of d e (bound_to l.variable (pos j) s)) (sym next) ∙ ((at_number (ι l.variable - 1) below).0
          ∙ ap (λ z. Ok (Int z)) (ap number_there_is (sym same) ∙ sym (number_counted number_there_is 0 count_there (ι l.variable - 1) below))));
    }

  -- the forms of the subscripts that aren't linear
  abbrev pub VectorFor : List FormLoop → Expression → Option Form → Type 0
  VectorFor (l ∷ []) e None = IsVector l e (form a (l ∷ []) e)
  VectorFor hs e f = Unit {0}

  abbrev pub Vectors : List FormLoop → Subscripts → Type 0
  Vectors D no_subscripts = Unit {0}
  Vectors D (subscript (Only e) ps) = VectorFor (loops_among D (names_in e)) e (form_of (form_variables_of a.loops) a.symbols e) × Vectors D ps
  Vectors D (subscript (Section i j k) ps) = Unit {0}

  selects_here : (D : List FormLoop) → Fit D → (e : Expression) (b : ℤ × ℤ) (hs : List FormLoop) → loops_among D (names_in e) ≡ hs → nat_le (length hs) 1 ≡ true
      → (o : Option Form) (other : Bool) → form_of (form_variables_of a.loops) a.symbols e ≡ o → is_moved a hs o other ≡ true → VectorFor hs e o → IsWithin D e b → Selects D e (subscript_with a hs e (form a hs e) o) b hs
  selects_here D fit e b [] none one o other linear moves v h = selects_one D fit e b none h
  selects_here D fit e b (l ∷ []) only_one one (Some f) other linear moves v h =
      selects_section D fit l (among_all (λ (m : FormLoop). is_among (names_in e) m.variable) D l (subst (λ ls. Contains ls l) (sym only_one) (here l []))) e only_one f linear b moves h
  selects_here D fit e b (l ∷ []) only_one one None other linear moves v h =
      selects_vector D fit l (among_all (λ (m : FormLoop). is_among (names_in e) m.variable) D l (subst (λ ls. Contains ls l) (sym only_one) (here l []))) e (form a (l ∷ []) e) only_one linear v b h
  selects_here D fit e b (l ∷ m ∷ hs) two one o other linear moves v h = absurd (let few : suc (suc (length hs)) ≤ 1 = leb-true (suc (suc (length hs))) 1 one in omega (arith, few))

  pub selects_all : (D : List FormLoop) → Fit D → (ps : Subscripts) (bs : List (ℤ × ℤ)) → one_each D ps ≡ true → are_regular_subscripts a D ps ≡ true → Vectors D ps → AreWithin D ps bs
      → SelectsAll D ps (subscript_forms a D ps) bs (loops_in_order D ps)
  selects_all D fit no_subscripts [] one moves v h = record { selected = []; axes = []; known = refl; on = refl; extents = refl; indices = refl; once = λ h. tt; at = λ ι w. refl }
  selects_all D fit no_subscripts (b ∷ bs) one moves v h =
      let w = h (λ x. 1) (firsts D fit) in
      absurd (let bad : false ≡ true = ap (is_within (b ∷ bs)) (same_answer [] w.0 w.1) ∙ w.2 in cc)
  selects_all D fit (subscript (Section i j k) ps) bs one moves v h = absurd cc
  selects_all D fit (subscript (Only e) ps) [] one moves v h =
      let w = h (λ x. 1) (firsts D fit) in
      let i = bound (subscript_value d (Only e) (at_those (λ x. 1) D s)) (λ i. do is ← subscript_values d ps (at_those (λ x. 1) D s); Ok (i ∷ is)) w.0 w.1 in
      let is = bound (subscript_values d ps (at_those (λ x. 1) D s)) (λ is. Ok (i.0 ∷ is)) w.0 i.2 in
      absurd (let bad : false ≡ true = ap (is_within []) (same_answer (i.0 ∷ is.0) w.0 is.2) ∙ w.2 in cc)
  selects_all D fit (subscript (Only e) ps) (b ∷ bs) one moves v h =
      let hs = loops_among D (names_in e) in
      let o = form_of (form_variables_of a.loops) a.symbols e in
      let ones = both (nat_le (length hs) 1) (one_each D ps) one in
      let other = is_regular a hs e in
      let moved = both (is_moved a hs o other) (are_regular_subscripts a D ps) moves in
      before D e (subscript_form a hs e (form a hs e)) b ps (subscript_forms a D ps) bs hs (loops_in_order D ps) (both (is_moved a hs o false) (are_moved a D ps))
      (selects_here D fit e b hs refl ones.0 o other refl moved.0 v.0 (λ ι w. let u = h ι w in let p = parted (at_those ι D s) e ps b bs u.0 u.1 u.2 in (p.0, p.2, p.4)))
      (selects_all D fit ps bs ones.1 moved.1 v.1 (λ ι w. let u = h ι w in let p = parted (at_those ι D s) e ps b bs u.0 u.1 u.2 in (p.1, p.3, p.5)))

  -- ---- positions

  -- counted from 0, they are within the trips
  pub from_there : (ls : List FormLoop) (ι : List ℕ → ℕ) → Within ls ι → AreFrom 0 (counts_of xs ls) (places ι ls)
  from_there [] ι w = tt
  from_there (l ∷ ls) ι w =
      let first = w l (here l ls) in
      let low = first.0 in
      let high = first.1 in
      ((omega arith, omega (arith, low, high)), from_there ls ι (λ m g. w m (there l ls m g)))

  pub contained : (ls : List FormLoop) (ι : List ℕ → ℕ) → Within ls ι → Contains (positions (counts_of xs ls)) (places ι ls)
  contained ls ι w = from_positions (counts_of xs ls) (places ι ls) (from_there ls ι w)

  -- ---- loops in the order of D are D

  all_of_D : (D : List FormLoop) (ps : Subscripts) (m : FormLoop) → Contains (loops_in_order D ps) m → Contains D m
  all_of_D D no_subscripts m h = absurd (nowhere m h)
  all_of_D D (subscript p ps) m h = by (Contains-append_cases (loops_among D (names_in_subscript p)) (loops_in_order D ps) m h) (all_of_D D ps m)
    where
      by : Contains (loops_among D (names_in_subscript p)) m ⊎ Contains (loops_in_order D ps) m → (Contains (loops_in_order D ps) m → Contains D m) → Contains D m
      by (inl k) more = among_all (λ (l : FormLoop). is_among (names_in_subscript p) l.variable) D m k
      by (inr k) more = more k

  pub same_lists : (D : List FormLoop) → Fit D → (ls ms : List FormLoop) → same_loops ls ms ≡ true → ((l : FormLoop) → Contains ls l → Contains D l) → ((l : FormLoop) → Contains ms l → Contains D l) → ls ≡ ms
  same_lists D fit [] [] e h k = refl
  same_lists D fit [] (m ∷ ms) e h k = absurd cc
  same_lists D fit (l ∷ ls) [] e h k = absurd cc
  same_lists D fit (l ∷ ls) (m ∷ ms) e h k =
      let p = both (bytes_eq l.variable m.variable) (same_loops ls ms) e in
      ap₂ (λ x y. x ∷ y) (fit.one l m (h l (here l ls)) (k m (here m ms)) ((bytes_eq-Decides l.variable m.variable).0 p.0))
      (same_lists D fit ls ms p.1 (λ n g. h n (there l ls n g)) (λ n g. k n (there m ms n g)))

  pub ordered : (D : List FormLoop) → Fit D → (ps : Subscripts) → same_loops D (loops_in_order D ps) ≡ true → D ≡ loops_in_order D ps
  ordered D fit ps e = same_lists D fit D (loops_in_order D ps) e (λ l h. h) (all_of_D D ps)

  -- ---- forms that have an expression's values

  -- without fault at each instance
  abbrev pub NoFault : List FormLoop → Expression → Type 0
  NoFault D e = (ι : List ℕ → ℕ) → Within D ι → (v : Value) × (value_of d e (at_those ι D s) ≡ Ok v)

  abbrev extents_if : Bool → List FormLoop → List ℕ
  extents_if b D = cond b [] (counts_of xs D)

  pub record Takes (D : List FormLoop) (e F : Expression) : Type 0 where
    pub array : Elements Value
    pub known : array_of d F s ≡ Ok array
    pub extents : array.extents ≡ cond (has_no_loop (loops_among D (names_in e))) [] (counts_of xs D)
    pub scalar : is_scalar F s.bounds ≡ has_no_loop (loops_among D (names_in e))
    pub at : (ι : List ℕ → ℕ) → Within D ι → array.at (places ι D) ≡ value_of d e (at_those ι D s)

  pub none_of : (ls : List FormLoop) → has_no_loop ls ≡ true → ls ≡ []
  none_of [] h = refl
  none_of (l ∷ ls) h = absurd cc

  -- what has no loops stays
  pub stays : (D : List FormLoop) → Fit D → (e : Expression) → has_no_loop (loops_among D (names_in e)) ≡ true → NoFault D e → Takes D e e
  stays D fit e none h =
      let empty = none_of (loops_among D (names_in e)) none in
      let v = h (λ x. 1) (firsts D fit) in
      let now : value_of d e s ≡ Ok v.0 = sym (still D e empty (λ x. 1)) ∙ v.1 in
      let g = single d s e v.0 (scalar_of d s e v.0 now) now in
      record {
        array = g.array;
        known = g.known;
        extents = g.extents ∙ ap (λ b. cond b [] (counts_of xs D)) (sym none);
        scalar = scalar_of d s e v.0 now ∙ sym none;
        at = λ ι w. g.element (places ι D) ∙ sym (still D e empty ι ∙ now);
      }

  -- ---- an element with all loops in order

  found_within : (h : Cell → Value) (bs : List (ℤ × ℤ)) (x : List ℕ) (zs : List ℤ) (v : Value) → ◌≡◌ {A = Result Value Fault} (do c ← cell_in (Some bs) x zs; Ok (h c)) (Ok v)
      → (is_within bs zs ≡ true) × (h (record { name = x; subscripts = zs }) ≡ v)
  found_within h bs x zs v e = by (is_within bs zs) refl e
    where
      by : (b : Bool) → is_within bs zs ≡ b → ◌≡◌ {A = Result Value Fault} (do c ← cond b (Ok (record { name = x; subscripts = zs })) (Err Bounds); Ok (h c)) (Ok v) → (is_within bs zs ≡ true) × (h (record { name = x; subscripts = zs }) ≡ v)
      by true p e = (p, same_answer (h (record { name = x; subscripts = zs })) v e)
      by false p e = absurd cc

  -- the cell of an element at an instance, and its value
  pub record Element (x : List ℕ) (ps : Subscripts) (bs : List (ℤ × ℤ)) (t : Store) (v : Value) : Type 0 where
    pub numbers : List ℤ
    pub known : subscript_values d ps t ≡ Ok numbers
    pub within : is_within bs numbers ≡ true
    pub held : t.held (record { name = x; subscripts = numbers }) ≡ v

  element_there : (x : List ℕ) (ps : Subscripts) (bs : List (ℤ × ℤ)) (t : Store) (v : Value) → t.bounds x ≡ Some bs → value_of d (Named x ps) t ≡ Ok v → Element x ps bs t v
  element_there x ps bs t v b h =
      let zs = bound (subscript_values d ps t) (λ is. do c ← cell_at x is t; Ok (t.held c)) v h in
      let f = found_within t.held bs x zs.0 v (ap (λ o. do c ← cell_in o x zs.0; Ok (t.held c)) (sym b) ∙ zs.2) in
      record { numbers = zs.0; known = zs.1; within = f.0; held = f.1 }

  module _ (D : List FormLoop) (fit : Fit D) (x : List ℕ) (e : Expression) (ps : Subscripts) (bs : List (ℤ × ℤ)) (bounds : s.bounds x ≡ Some bs) (one : one_each D (subscript (Only e) ps) ≡ true)
      (moves : are_regular_subscripts a D (subscript (Only e) ps) ≡ true) (vectors : Vectors D (subscript (Only e) ps)) (nf : NoFault D (Named x (subscript (Only e) ps))) where
    abbrev pub whole : Subscripts
    whole = subscript (Only e) ps

    abbrev pub formed : Subscripts
    formed = subscript_forms a D whole

    bounds_there : (ι : List ℕ → ℕ) → (at_those ι D s).bounds x ≡ Some bs
    bounds_there ι = ap (λ (b : List ℕ → Option (List (ℤ × ℤ))). b x) (bounds_at ι D s) ∙ bounds

    pub element : (ι : List ℕ → ℕ) → (w : Within D ι) → Element x whole bs (at_those ι D s) (nf ι w).0
    element ι w = element_there x whole bs (at_those ι D s) (nf ι w).0 (bounds_there ι) (nf ι w).1

    pub picks : SelectsAll D whole formed bs (loops_in_order D whole)
    picks = selects_all D fit whole bs one moves vectors (λ ι w. let m = element ι w in (m.numbers, m.known, m.within))

    pub axes_there : axes_named d (record { name = x; subscripts = formed }) s ≡ Ok picks.axes
    axes_there = ap₂ (λ (r : Result (List Selector) Fault) (o : Option (List (ℤ × ℤ))). do zs ← r; b ← bounds_in o; axes_selected formed b zs) picks.known bounds ∙ picks.on

    -- the cell at a position is that of the instance
    pub cell_there : (ι : List ℕ → ℕ) → (w : Within D ι) → (element ι w).numbers ≡ subscripts_at picks.axes (places ι (loops_in_order D whole))
    cell_there ι w = same_answer _ _ (sym (element ι w).known ∙ picks.at ι w)

    -- it has subscripts, so it is no loop variable
    pub unchanged : (ι : List ℕ → ℕ) → (w : Within D ι) → s.held (record { name = x; subscripts = (element ι w).numbers }) ≡ (nf ι w).0
    unchanged ι w =
        let t = at_those ι D s in
        let m = element ι w in
        let i = bound (subscript_value d (Only e) t) (λ i. do is ← subscript_values d ps t; Ok (i ∷ is)) m.numbers m.known in
        let is = bound (subscript_values d ps t) (λ is. Ok (i.0 ∷ is)) m.numbers i.2 in
        let cons : i.0 ∷ is.0 ≡ m.numbers = same_answer (i.0 ∷ is.0) m.numbers is.2 in
        ap (λ zs. s.held (record { name = x; subscripts = zs })) (sym cons) ∙ (sym (element_at ι D s x i.0 is.0) ∙ (ap (λ zs. t.held (record { name = x; subscripts = zs })) cons ∙ m.held))
