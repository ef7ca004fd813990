-- A loop and its form from 1 by 1 have the same turns.
use Rattle.std.proofs.Common.{◌≡◌, refl, sym, ap, ◌∙◌, subst, ℕ, zero, suc, ◌^◌, ◌≤◌, ◌<◌, ℤ, pos, negsuc, ◌+ℤ◌, ◌-ℤ◌}
use Rattle.std.proofs.Common.{◌*ℤ◌, Bool, true, false, List, [], ◌∷◌, ◌++◌, map, length, Result, Ok, Some, arith}
use Rattle.std.specs.Prelude.{nat_abs, int_div}
use Rattle.tree.specs.Operators.{as_number}
use Rattle.tree.specs.Steps.{◌>>=◌}
use Rattle.tree.specs.declared.ops.Fault.{Fault}
use Rattle.tree.specs.declared.ops.Value.TheVariants.{Int}
use Rattle.tree.specs.Plain.{Expression}
use Rattle.meaning.specs.Store.{Store}
use Rattle.meaning.specs.Value.{number_of, trip_count, value_of}
use Rattle.rewrite.specs.Following.{sequential}
use Rattle.linear_forms.specs.Linear.{Form, HaveValues, form_of, number_at}
use Rattle.linear_forms.specs.Texts.{text_of}
use Rattle.linear_forms.proofs.Faultless.{linear_has_value}
use Rattle.nest.specs.Plain.{Loop}
use Rattle.nest.specs.declared.parts.Trip.{Trip}
use Rattle.subscripts.specs.declared.affine.Affine.{Affine}
use Rattle.last_values.specs.declared.normal_forms.loops.NormalLoop.{NormalLoop}
use Rattle.last_values.specs.normal_forms.NormalLoops.{counters_of, variables_of, is_constant, is_zero, normal_loop, trip_of}
use Rattle.last_values.specs.normal_forms.Numbers.{number_of_form, trip_number, values_from, variable_numbers, LoopNumbers}
use Rattle.last_values.specs.normal_forms.Texts.{trip_text}
use Rattle.last_values.proofs.NormalForms.LoopNumbers.{normal_loop_has_numbers}
use Rattle.pass_laws.specs.normal_values.Beside.{AreApart, IsBeside, iteration_at}
use Rattle.pass_laws.specs.normal_values.Laws.{BoundsBeside, HasNormalBounds}
use Rattle.pass_laws.proofs.NormalValues.Affine.{IsTidy, number_same, sized_values, both_values, tidy_text, tidy_size}
use Rattle.pass_laws.proofs.NormalValues.Chains.{round_over}
use Rattle.pass_laws.proofs.NormalValues.Counters.{counters_there, symbols_there, values_count}
use Rattle.pass_laws.proofs.NormalValues.Forms.{AreOver, folded_or, first_tidy, trip_tidy, quotient_size}
use Rattle.pass_laws.proofs.NormalValues.Quotients.{quotient_value, sign_turned, turns_from_one}
use Rattle.pass_laws.proofs.NormalValues.Steps.{IsMade, loop_made}
use Rattle.pass_laws.proofs.NormalValues.ValueTexts.{counters_count}

-- ---- one more iteration

pub iteration_before : (is : List ℕ) (i k : ℕ) → k < length is → iteration_at (is ++ i ∷ []) k ≡ iteration_at is k
iteration_before [] i k h = absurd (omega (arith, h))
iteration_before (j ∷ is) i zero h = refl
iteration_before (j ∷ is) i (suc k) h = iteration_before is i k (omega (arith, h))

pub iteration_last : (is : List ℕ) (i : ℕ) → iteration_at (is ++ i ∷ []) (length is) ≡ pos i
iteration_last [] i = refl
iteration_last (j ∷ is) i = iteration_last is i

-- ---- a divisor isn't 0

step_size : (z : ℤ) → is_zero z ≡ false → 1 ≤ nat_abs z
step_size (pos zero) h = absurd cc
step_size (pos (suc n)) h = omega arith
step_size (negsuc n) h = omega arith

pub record IsDivisor (d : ℤ) : Type 0 where
  pub size : ℕ
  pub is : d ≡ pos size
  pub other : 1 ≤ size

divisor_of : (a : Affine) (m : ℕ) → 1 ≤ m → IsDivisor (trip_of a (pos m)).by
divisor_of a m h = by (is_constant a)
  where
    by : (b : Bool) → IsDivisor (folded_or a (pos m) b).by
    by true = record { size = 1; is = refl; other = omega arith }
    by false = record { size = m; is = refl; other = h }

pub trip_divisor : (symbols : List (List ℕ)) (round : List NormalLoop) (l : Loop) (r : NormalLoop) → IsMade symbols round l r → IsDivisor r.trip.by
trip_divisor symbols round l r made = subst (λ (t : Trip). IsDivisor t.by) made.trip (divisor_of made.top (nat_abs l.step) (step_size l.step made.step_other))

-- the number of an expression
number_is : (bits : ℕ) (e : Expression) (s : Store) (z a : ℤ) → value_of (sequential bits) e s ≡ Ok (Int z) → number_of (sequential bits) e s ≡ Ok a → z ≡ a
number_is bits e s z a h g = let same : ◌≡◌ {A = Result ℤ Fault} (Ok z) (Ok a) = sym (ap (λ r. do v ← r; as_number v) h) ∙ g in cc

module _ (bits : ℕ) (symbols : List (List ℕ)) (values : ℕ → ℤ) (apart : List ℕ → Bool) (round : List NormalLoop) (is : List ℕ) (s t : Store) (free : AreApart symbols apart round) (beside : IsBeside symbols values apart round is s t)
    (l : Loop) (r : NormalLoop) (normal : normal_loop symbols round l ≡ Some r) where
  abbrev n : ℕ
  n = length symbols

  abbrev it : ℕ → ℤ
  it = iteration_at is

  abbrev source_values : List ℤ
  source_values = variable_numbers (length symbols) (iteration_at is) values round ++ values_from (length symbols) 0 values

  pub made_here : IsMade symbols round l r
  made_here = loop_made symbols round l r normal

  pub over_here : AreOver (length round) round
  over_here = round_over symbols apart round free

  source_known : HaveValues (variables_of round ++ symbols) s source_values
  source_known = both_values (variables_of round) symbols s (variable_numbers n it values round) (values_from n 0 values) beside.variables beside.known

  -- a bound is the number of its form
  bound_number : (e : Expression) (f : Form) (a : ℤ) → form_of (variables_of round) symbols e ≡ Some f → number_of (sequential bits) e s ≡ Ok a → number_at f source_values ≡ a
  bound_number e f a h g =
      number_is bits e s (number_at f source_values) a
      (linear_has_value (sequential bits) (variables_of round) symbols e f s source_values h source_known (sized_values (variables_of round ++ symbols) s source_values beside.sized source_known)) g

  loop_numbers : (is : ℕ → ℤ) → LoopNumbers n (length round) is values r
      (number_at made_here.first_form (variable_numbers n is values round ++ values_from n 0 values)) (number_at made_here.last_form (variable_numbers n is values round ++ values_from n 0 values)) l.step
  loop_numbers is = normal_loop_has_numbers symbols round l r made_here.first_form made_here.last_form is values normal made_here.first_linear made_here.last_linear

  count_here : length is ≡ length round
  count_here =
      let e = values_count (counters_of round) t (map pos is) beside.counters in
      let f = counters_count round in
      let g = mapped is in
      omega (arith, e, f, g)
    where
      mapped : (js : List ℕ) → length (map pos js) ≡ length js
      mapped [] = refl
      mapped (j ∷ js) = ap suc (mapped js)

  -- the counters have their values, and the loops round are few enough
  pub few_here : length (counters_of round) ≤ 7
  few_here = let e = counters_count round in let h = made_here.deep in omega (arith, e, h)

  pub over_counters : (m : ℕ) (a : Affine) → IsTidy (length round) m a → IsTidy (length (counters_of round)) m a
  over_counters m a h = subst (λ d. IsTidy d m a) (sym (counters_count round)) h

  pub text_here : (a : Affine) → IsTidy (length round) n a → value_of (sequential bits) (text_of (counters_of round) symbols [] a) t ≡ Ok (Int (number_of_form n it values a))
  text_here a h =
      tidy_text (sequential bits) (counters_of round) symbols t beside.sized_beside it values (counters_there symbols values apart round is s t free beside) (symbols_there symbols values apart round is s t free beside) few_here
      a (over_counters n a h)

  size_here : (a : Affine) → IsTidy (length round) n a → nat_abs (number_of_form n it values a) < 2 ^ 126
  size_here a h =
      tidy_size (sequential bits) (counters_of round) symbols t beside.sized_beside it values (counters_there symbols values apart round is s t free beside) (symbols_there symbols values apart round is s t free beside) few_here
      a (over_counters n a h)

  abbrev pub top_here : ℤ
  top_here = trip_number (length symbols) (iteration_at is) values r.trip

  pub trip_value : value_of (sequential bits) (trip_text (counters_of round) symbols [] r.trip) t ≡ Ok (Int top_here)
  unfolding trip_text
  trip_value =
      let divisor = trip_divisor symbols round l r made_here in
      let tidy = trip_tidy symbols round l r made_here over_here in
      quotient_value (sequential bits) t (text_of (counters_of round) symbols [] r.trip.top) (number_of_form n it values r.trip.top) r.trip.by divisor.size divisor.is divisor.other (text_here r.trip.top tidy) (size_here r.trip.top tidy)

  top_size : nat_abs top_here < 2 ^ 126
  top_size =
      let divisor = trip_divisor symbols round l r made_here in
      let size = size_here r.trip.top (trip_tidy symbols round l r made_here over_here) in
      let less = quotient_size (number_of_form n it values r.trip.top) divisor.size in
      subst (λ d. nat_abs (int_div (number_of_form n it values r.trip.top) d) < 2 ^ 126) (sym divisor.is) (omega (arith, size, less))

  module _ (a b : ℤ) (k : ℕ) (first : number_of (sequential bits) l.first s ≡ Ok a) (last : number_of (sequential bits) l.last s ≡ Ok b) (turns : trip_count a b l.step ≡ Ok k) where
    pub first_here : number_of_form n it values r.first ≡ a
    first_here = (loop_numbers it).first ∙ bound_number l.first made_here.first_form a made_here.first_linear first

    top_is : top_here ≡ int_div ((b -ℤ a) +ℤ l.step) l.step
    top_is =
        let m1 = bound_number l.first made_here.first_form a made_here.first_linear first in
        let m2 = bound_number l.last made_here.last_form b made_here.last_linear last in
        (loop_numbers it).trip ∙ sign_turned (number_at made_here.first_form source_values) (number_at made_here.last_form source_values) l.step
        ∙ ap (λ z. int_div ((number_at made_here.last_form source_values -ℤ z) +ℤ l.step) l.step) m1
        ∙ ap (λ z. int_div ((z -ℤ a) +ℤ l.step) l.step) m2

    pub turns_here : trip_count (pos 1) top_here (pos 1) ≡ Ok k
    turns_here =
        ap (λ z. trip_count (pos 1) z (pos 1)) top_is
        ∙ turns_from_one a b l.step k (subst (λ z. nat_abs z < 2 ^ 126) top_is top_size) turns

    value_here : (i : ℕ) → number_of_form n (iteration_at (is ++ i ∷ [])) values r.value ≡ a +ℤ l.step *ℤ (pos i -ℤ pos 1)
    value_here i =
        let more : ℕ → ℤ = iteration_at (is ++ i ∷ []) in
        let numbers = loop_numbers more in
        let tidy = first_tidy symbols round l r made_here over_here in
        let depth : length round ≤ 7 = (let h = made_here.deep in omega (arith, h)) in
        let same = number_same (length round) n r.first tidy depth more it values (λ k h. iteration_before is i k (let e = count_here in omega (arith, e, h))) in
        let own : more (length round) ≡ pos i = ap more (sym count_here) ∙ iteration_last is i in
        numbers.value
        ∙ ap (λ z. z +ℤ l.step *ℤ (more (length round) -ℤ pos 1)) (sym numbers.first ∙ (same ∙ first_here))
        ∙ ap (λ z. a +ℤ l.step *ℤ (z -ℤ pos 1)) own

    pub bounds_here : HasNormalBounds bits symbols values round is t l.step r a k
    bounds_here = record {
      top = top_here;
      trip = refl;
      text = ap (λ r. do v ← r; as_number v) trip_value;
      turns = turns_here;
      first = first_here;
      value = value_here;
    }

pub bounds_are_beside : BoundsBeside
bounds_are_beside bits symbols values apart round is s t l r a b k low high free beside normal first last turns =
    bounds_here bits symbols values apart round is s t free beside l r normal a b k first last turns
