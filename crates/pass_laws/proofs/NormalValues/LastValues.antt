-- The texts of a loop's first value, and of its variable's value behind the last turn.
use mathlib.Core.Path.{ap₂}
use Rattle.std.proofs.Common.{◌≡◌, refl, sym, ap, ◌∙◌, ℕ, suc, ◌^◌, ◌≤◌, ◌<◌, ℤ, pos, ◌+ℤ◌, ◌*ℤ◌, Bool, true, false}
use Rattle.std.proofs.Common.{cond, List, length, Ok, Some, arith}
use Rattle.std.specs.Prelude.{nat_abs, int_div, ◌==◌}
use Rattle.std.proofs.lemmas.Bool.{eq-eqb}
use Rattle.std.proofs.lemmas.Bool.Decides.{Decides-int_eq}
use Rattle.tree.specs.declared.ops.Value.TheVariants.{Int}
use Rattle.meaning.specs.Store.{Store}
use Rattle.meaning.specs.Value.{number_of, trip_count, value_of}
use Rattle.rewrite.specs.Following.{sequential}
use Rattle.last_values.specs.InPlace.{end_text, own_trip_text}
use Rattle.nest.specs.Plain.{Loop}
use Rattle.nest_order.proofs.runs.Going.{trip_bounded}
use Rattle.last_values.specs.declared.normal_forms.loops.NormalLoop.{NormalLoop}
use Rattle.last_values.specs.normal_forms.NormalLoops.{counters_of, is_undivided, normal_loop, symbol_form, trip_form}
use Rattle.last_values.specs.normal_forms.Numbers.{number_of_form}
use Rattle.pass_laws.specs.normal_values.Beside.{AreApart, IsBeside, iteration_at}
use Rattle.pass_laws.specs.normal_values.Laws.{LastValueInPlace}
use Rattle.pass_laws.proofs.NormalValues.Affine.{IsTidy, number_more, tidy_text_behind}
use Rattle.pass_laws.proofs.NormalValues.Bounds.{made_here, over_here, over_counters, few_here, text_here, top_here, trip_value}
use Rattle.pass_laws.proofs.NormalValues.Bounds.{first_here, turns_here}
use Rattle.pass_laws.proofs.NormalValues.Counters.{counters_there, symbols_there}
use Rattle.pass_laws.proofs.NormalValues.Forms.{unequal, first_tidy, trip_tidy, end_tidy, end_number, symbol_number}
use Rattle.pass_laws.proofs.NormalValues.Points.{values_same}
use Rattle.pass_laws.proofs.NormalValues.Quotients.{by_one, turns_are}

-- the values of n symbols, and behind them that of a divided trip
abbrev with_trip : ℕ → (ℕ → ℤ) → ℤ → ℕ → ℤ
with_trip n values z j = cond (j == n) z (values j)

trip_before : (n : ℕ) (values : ℕ → ℤ) (z : ℤ) (j : ℕ) → j < n → with_trip n values z j ≡ values j
trip_before n values z j h = ap (λ b. cond b z (values j)) (unequal j n (λ e. omega (arith, h, e)))

trip_behind : (n : ℕ) (values : ℕ → ℤ) (z : ℤ) → with_trip n values z n ≡ z
trip_behind n values z = ap (λ b. cond b z (values n)) (eq-eqb n n refl)

module _ (bits : ℕ) (symbols : List (List ℕ)) (values : ℕ → ℤ) (apart : List ℕ → Bool) (round : List NormalLoop) (is : List ℕ) (s t : Store) (free : AreApart symbols apart round) (beside : IsBeside symbols values apart round is s t)
    (l : Loop) (r : NormalLoop) (normal : normal_loop symbols round l ≡ Some r)
    (a b : ℤ) (k : ℕ) (first : number_of (sequential bits) l.first s ≡ Ok a) (last : number_of (sequential bits) l.last s ≡ Ok b) (turns : trip_count a b l.step ≡ Ok k) where
  abbrev n : ℕ
  n = length symbols

  abbrev it : ℕ → ℤ
  it = iteration_at is

  top_is : 1 ≤ k → top_here bits symbols values apart round is s t free beside l r normal ≡ pos k
  top_is h = turns_are (top_here bits symbols values apart round is s t free beside l r normal) k h (turns_here bits symbols values apart round is s t free beside l r normal a b k first last turns)

  few_turns : k ≤ 2147483646
  few_turns = trip_bounded (top_here bits symbols values apart round is s t free beside l r normal) k (turns_here bits symbols values apart round is s t free beside l r normal a b k first last turns)

  abbrev more : ℕ → ℤ
  more = with_trip (length symbols) values (pos k)

  -- the trip as a form is the number of turns
  trip_form_number : 1 ≤ k → number_of_form (suc n) it more (trip_form n r.trip) ≡ pos k
  trip_form_number h = by (is_undivided r.trip) refl
    where
      tidy : IsTidy (length round) n r.trip.top
      tidy = trip_tidy symbols round l r (made_here bits symbols values apart round is s t free beside l r normal) (over_here bits symbols values apart round is s t free beside l r normal)

      by : (b : Bool) → is_undivided r.trip ≡ b → number_of_form (suc n) it more (cond b r.trip.top (symbol_form n)) ≡ pos k
      by true e =
          number_more (length round) n r.trip.top tidy it values more (λ j m. trip_before n values (pos k) j m)
          ∙ sym (ap (int_div (number_of_form n it values r.trip.top)) ((Decides-int_eq r.trip.by (pos 1)).0 e) ∙ by_one (number_of_form n it values r.trip.top))
          ∙ top_is h
      by false e = symbol_number n it more ∙ trip_behind n values (pos k)

  end_is : 1 ≤ k → number_of_form (suc n) it more r.end ≡ a +ℤ l.step *ℤ pos k
  end_is h =
      let made = made_here bits symbols values apart round is s t free beside l r normal in
      let over = over_here bits symbols values apart round is s t free beside l r normal in
      end_number symbols round l r made over it more
      ∙ ap₂ (λ x y. x +ℤ l.step *ℤ y)
      (number_more (length round) n r.first (first_tidy symbols round l r made over) it values more (λ j m. trip_before n values (pos k) j m)
      ∙ first_here bits symbols values apart round is s t free beside l r normal a b k first last turns)
      (trip_form_number h)

  pub end_value : 1 ≤ k → value_of (sequential bits) (end_text symbols round r) t ≡ Ok (Int (a +ℤ l.step *ℤ pos k))
  end_value h =
      let made = made_here bits symbols values apart round is s t free beside l r normal in
      let over = over_here bits symbols values apart round is s t free beside l r normal in
      let small : nat_abs (pos k) ≤ 2 ^ 63 = (let f = few_turns in omega (arith, f)) in
      tidy_text_behind (sequential bits) (counters_of round) symbols t beside.sized_beside it values (counters_there symbols values apart round is s t free beside) (symbols_there symbols values apart round is s t free beside)
      (few_here bits symbols values apart round is s t free beside l r normal)
      r.end (own_trip_text symbols round r) (pos k) more (over_counters bits symbols values apart round is s t free beside l r normal (suc n) r.end (end_tidy symbols round l r made over))
      (trip_value bits symbols values apart round is s t free beside l r normal ∙ ap (λ z. Ok (Int z)) (top_is h)) small
      (values_same n 0 values more (λ j m. sym (trip_before n values (pos k) j (omega (arith, m))))) (trip_behind n values (pos k))
      ∙ ap (λ z. Ok (Int z)) (end_is h)

pub last_value_is_in_place : LastValueInPlace
last_value_is_in_place bits symbols values apart round is s t l r a b k low high free beside normal first last turns = record {
  first =
      text_here bits symbols values apart round is s t free beside l r normal r.first
      (first_tidy symbols round l r (made_here bits symbols values apart round is s t free beside l r normal) (over_here bits symbols values apart round is s t free beside l r normal))
      ∙ ap (λ z. Ok (Int z)) (first_here bits symbols values apart round is s t free beside l r normal a b k first last turns);
  end = end_value bits symbols values apart round is s t free beside l r normal a b k first last turns;
}
