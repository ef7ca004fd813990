-- The values of the texts of a loop's forms in the last turn of each loop round it.
use mathlib.Core.Path.{ap₂}
use Rattle.std.proofs.Common.{◌≡◌, refl, sym, ap, ◌∙◌, subst, ◌⊎◌, inl, inr, ℕ, zero, suc, ◌+◌, ◌^◌, ◌≤◌, ◌<◌, ℤ, pos}
use Rattle.std.proofs.Common.{negsuc, ◌+ℤ◌, ◌*ℤ◌, Bool, true, false, cond, List, [], ◌∷◌, ◌++◌, length, Ok, Option}
use Rattle.std.proofs.Common.{Some, None, arith}
use Rattle.std.specs.Prelude.{◌==◌, int_div, nat_abs}
use Rattle.std.specs.List.{list_all}
use Rattle.std.proofs.lemmas.Bool.{eqb-true, eq-eqb}
use Rattle.tree.specs.Plain.{Expression}
use Rattle.meaning.specs.Dialect.{Dialect}
use Rattle.meaning.specs.Store.{Store}
use Rattle.meaning.specs.Value.{value_of}
use Rattle.tree.specs.declared.ops.Value.TheVariants.{Int}
use Rattle.linear_forms.specs.Laws.{AreSized, EachHasValue}
use Rattle.linear_forms.specs.Linear.{HaveValues}
use Rattle.linear_forms.specs.Texts.{text_of}
use Rattle.linear_forms.proofs.Sizes.{both}
use Rattle.nest_order.specs.orders.Lists.{Each}
use Rattle.nest_order.proofs.runs.Ending.{turns_to}
use Rattle.nest.specs.declared.parts.Trip.{Trip}
use Rattle.last_values.specs.normal_forms.Combinations.{combination, number_form, times}
use Rattle.last_values.specs.normal_forms.LastValues.{has_plain_trip, have_plain_trips, last_forms}
use Rattle.last_values.specs.normal_forms.LastTexts.{last_end_text, last_first_text}
use Rattle.last_values.specs.normal_forms.LastValues.{with_trips}
use Rattle.last_values.specs.normal_forms.LastTexts.{last_trip_text, plain_trip_text, plain_trip_texts}
use Rattle.last_values.specs.normal_forms.NormalLoops.{is_constant, is_known, is_undivided, plus_multiple, trip_form, trip_of}
use Rattle.last_values.specs.normal_forms.Numbers.{number_of_form, sum_of_numbers, trip_number, values_from}
use Rattle.last_values.specs.normal_forms.Steps.{◌>>=◌}
use Rattle.last_values.specs.normal_forms.Texts.{quotient_text, trip_text}
use Rattle.last_values.specs.declared.normal_forms.last.LastForms.{LastForms}
use Rattle.last_values.specs.declared.normal_forms.loops.NormalLoop.{NormalLoop}
use Rattle.last_values.proofs.NormalForms.Numbers.{combination_has_number}
use Rattle.subscripts.specs.declared.affine.Affine.{Affine}
use Rattle.pass_laws.proofs.LastRuns.Forms.{At, IsKnownForm, number_size, quotient_value, sum_known, text_number, trip_known}
use Rattle.pass_laws.proofs.LastRuns.LastNumbers.{TripsAre, behind_values, folded, front_values, known_number, number_alike}
use Rattle.pass_laws.proofs.LastRuns.LastNumbers.{number_stays, plus_number, trip_form_number, with_trips_number}
use Rattle.pass_laws.proofs.LastRuns.Listed.{all_turn, are_few, last_at, last_round}
use Rattle.pass_laws.proofs.LastRuns.Pieces.{IsMade, Number, count, end, has_turn, in_last, none_yet, plain_top, top}
use Rattle.pass_laws.proofs.LastRuns.Stores.{both_sized}

pub turns_of : (z : ℤ) → has_turn (turns_to z) ≡ true → z ≡ pos (turns_to z)
turns_of (pos k) h = refl
turns_of (negsuc k) h = cc

-- ---- steps

record Step {A B : Type 0} (o : Option A) (f : A → Option B) (y : B) : Type 0 where
  result : A
  is : o ≡ Some result
  then : f result ≡ Some y

step : {A B : Type 0} (o : Option A) (f : A → Option B) (y : B) → (o >>= f) ≡ Some y → Step o f y
step None f y h = cc
step (Some x) f y h = record { result = x; is = refl; then = h }

record AreMade (n : ℕ) (round : List NormalLoop) (r : NormalLoop) (f : LastForms) : Type 0 where
  first : combination (n + 7) (with_trips n round r.first) ≡ Some f.first
  top : Affine
  top_is : combination (n + 7) (with_trips n round r.trip.top) ≡ Some top
  trip : f.trip ≡ trip_of top r.trip.by
  end : plus_multiple (n + 7) f.first r.step (trip_form (n + length round) f.trip) ≡ Some f.end

module _ (n : ℕ) (round : List NormalLoop) (r : NormalLoop) (f : LastForms) where
  abbrev after_end : Affine → Affine → Affine → Option LastForms
  after_end first top end = Some (record { first = first; trip = trip_of top r.trip.by; end = end })

  abbrev after_top : Affine → Affine → Option LastForms
  after_top first top = plus_multiple (n + 7) first r.step (trip_form (n + length round) (trip_of top r.trip.by)) >>= after_end first top

  abbrev after_first : Affine → Option LastForms
  after_first first = combination (n + 7) (with_trips n round r.trip.top) >>= after_top first

  same_forms : (g : LastForms) → ◌≡◌ {A = Option LastForms} (Some g) (Some f) → g ≡ f
  same_forms g h = cc

  made_of : last_forms n round r ≡ Some f → AreMade n round r f
  unfolding last_forms
  made_of h =
      let s1 = step (combination (n + 7) (with_trips n round r.first)) after_first f h in
      let s2 = step (combination (n + 7) (with_trips n round r.trip.top)) (after_top s1.result) f s1.then in
      let s3 = step (plus_multiple (n + 7) s1.result r.step (trip_form (n + length round) (trip_of s2.result r.trip.by))) (after_end s1.result s2.result) f s2.then in
      let g : LastForms = record { first = s1.result; trip = trip_of s2.result r.trip.by; end = s3.result } in
      let same : g ≡ f = same_forms g s3.then in
      record {
        first = s1.is ∙ ap (λ (q : LastForms). Some q.first) same;
        top = s2.result;
        top_is = s2.is;
        trip = ap (λ (q : LastForms). q.trip) (sym same);
        end = ap₂ (λ (a : Affine) (t : Trip). plus_multiple (n + 7) a r.step (trip_form (n + length round) t)) (ap (λ (q : LastForms). q.first) (sym same)) (ap (λ (q : LastForms). q.trip) (sym same)) ∙ (s3.is ∙ ap (λ (q : LastForms). Some q.end) same);
      }

-- ---- trips

record HasDivisor (t : Trip) : Type 0 where
  divisor : ℕ
  positive : 0 < divisor
  is : t.by ≡ pos divisor

has_divisor : (n : ℕ) (r : NormalLoop) → IsMade n r → HasDivisor r.trip
has_divisor n r m = subst HasDivisor (sym m.trip) (by (is_constant m.top))
  where
    by : (b : Bool) → HasDivisor (cond {A = Trip} b (record { top = number_form (int_div m.top.constant (pos m.divisor)); by = pos 1 }) (record { top = m.top; by = pos m.divisor }))
    by true = record { divisor = 1; positive = omega arith; is = refl }
    by false = record { divisor = m.divisor; positive = m.positive; is = refl }

pub first_known : (n : ℕ) (r : NormalLoop) → IsMade n r → IsKnownForm n r.first
first_known n r m = sum_known n m.first_terms r.first m.first

pub top_known : (n : ℕ) (r : NormalLoop) → IsMade n r → IsKnownForm n r.trip.top
top_known n r m = subst (λ (t : Trip). IsKnownForm n t.top) (sym m.trip) (trip_known n m.top m.divisor (sum_known n m.top_terms m.top m.top_is))

module _ (lang : Dialect) (symbols : List (List ℕ)) (values : ℕ → ℤ) (u : Store) (known : HaveValues symbols u (values_from (length symbols) 0 values)) (sized : AreSized (values_from (length symbols) 0 values)) where
  abbrev n : ℕ
  n = length symbols

  abbrev vs : List ℤ
  vs = values_from n 0 values

  pub trip_value : (k : ℕ) (a : Affine) (d : ℕ) → 0 < d → IsKnownForm k a → (trips : List Expression) (ys : List ℤ) → EachHasValue lang trips u ys → AreSized ys
      → value_of lang (trip_text [] symbols trips (trip_of a (pos d))) u ≡ Ok (Int (trip_number k none_yet (At (values_from (length symbols) 0 values ++ ys)) (trip_of a (pos d))))
  unfolding trip_text
  trip_value k a d p q trips ys each small = by (is_constant a) (trip_known k a d q)
    where
      by : (b : Bool) → IsKnownForm k (cond {A = Trip} b (record { top = number_form (int_div a.constant (pos d)); by = pos 1 }) (record { top = a; by = pos d })).top
          → value_of lang (quotient_text (text_of [] symbols trips (cond {A = Trip} b (record { top = number_form (int_div a.constant (pos d)); by = pos 1 }) (record { top = a; by = pos d })).top)
          (cond {A = Trip} b (record { top = number_form (int_div a.constant (pos d)); by = pos 1 }) (record { top = a; by = pos d })).by) u
          ≡ Ok (Int (trip_number k none_yet (At (vs ++ ys)) (cond {A = Trip} b (record { top = number_form (int_div a.constant (pos d)); by = pos 1 }) (record { top = a; by = pos d }))))
      by true m = quotient_value lang (text_of [] symbols trips (number_form (int_div a.constant (pos d)))) u (number_of_form k none_yet (At (vs ++ ys)) (number_form (int_div a.constant (pos d)))) 1 (omega arith)
          (text_number lang symbols trips k (number_form (int_div a.constant (pos d))) m u vs ys known each sized small) (number_size k (number_form (int_div a.constant (pos d))) m (vs ++ ys) (both_sized vs ys sized small))
      by false m = quotient_value lang (text_of [] symbols trips a) u (number_of_form k none_yet (At (vs ++ ys)) a) d p (text_number lang symbols trips k a m u vs ys known each sized small) (number_size k a m (vs ++ ys) (both_sized vs ys sized small))

  front : (ts : List ℤ) (j : ℕ) → j < n → At (vs ++ ts) j ≡ values j
  front ts j l = front_values n 0 values ts j l ∙ ap values (let e : 0 + j ≡ j = omega arith in e)

  -- of a loop that has a plain trip
  pub plain_value : (r : NormalLoop) → IsMade (length symbols) r → value_of lang (plain_trip_text symbols r) u ≡ Ok (Int (top (length symbols) values none_yet r))
  unfolding plain_trip_text
  plain_value r m =
      ap (λ t. value_of lang (trip_text [] symbols [] t) u) m.trip
      ∙ (trip_value n m.top m.divisor m.positive (sum_known n m.top_terms m.top m.top_is) [] [] tt tt
      ∙ (ap (λ t. Ok (Int (trip_number n none_yet (At (vs ++ [])) t))) (sym m.trip)
      ∙ ap (λ z. Ok (Int (int_div z r.trip.by))) (number_alike n r.trip.top none_yet values (At (vs ++ [])) (front []))))

  -- ---- the trips of the loops round

  abbrev pub tops : ℕ → (ℕ → ℤ) → List NormalLoop → List ℤ
  tops d at [] = []
  tops d at (r ∷ rs) = top (length symbols) values at r ∷ tops (suc d) (in_last (length symbols) values d at r) rs

  -- the same as at no iterations
  abbrev pub StayTops : ℕ → (ℕ → ℤ) → List NormalLoop → Type 0
  StayTops d at [] = Unit {0}
  StayTops d at (r ∷ rs) = (top (length symbols) values none_yet r ≡ top (length symbols) values at r) × StayTops (suc d) (in_last (length symbols) values d at r) rs

  stay_plain : (rs : List NormalLoop) (d : ℕ) (at : ℕ → ℤ) → list_all has_plain_trip rs ≡ true → StayTops d at rs
  stay_plain [] d at h = tt
  stay_plain (r ∷ rs) d at h =
      let p = both (has_plain_trip r) (list_all has_plain_trip rs) h in
      (plain_top symbols (λ y. true) values [] r none_yet at p.0, stay_plain rs (suc d) (in_last n values d at r) p.1)

  pub tops_stay : (round : List NormalLoop) → have_plain_trips round ≡ true → StayTops 0 none_yet round
  unfolding have_plain_trips
  tops_stay [] h = tt
  tops_stay (r ∷ rs) h = (refl, stay_plain rs 1 (in_last n values 0 none_yet r) h)

  each_trip : (rs : List NormalLoop) (d : ℕ) (at : ℕ → ℤ) → Each (IsMade (length symbols)) rs → StayTops d at rs → EachHasValue lang (plain_trip_texts symbols rs) u (tops d at rs)
  each_trip [] d at m h = tt
  each_trip (r ∷ rs) d at m h = (plain_value r m.0 ∙ ap (λ z. Ok (Int z)) h.0, each_trip rs (suc d) (in_last n values d at r) m.1 h.1)

  few_size : (z : ℤ) → has_turn (turns_to z) ≡ true → turns_to z ≤ 2147483646 → nat_abs z ≤ 2 ^ 63
  few_size (pos k) h l = omega (arith, l)
  few_size (negsuc k) h l = cc

  tops_sized : (rs : List NormalLoop) (d : ℕ) (at : ℕ → ℤ) → all_turn (length symbols) values d at rs ≡ true → are_few (length symbols) values d at rs → AreSized (tops d at rs)
  tops_sized [] d at h k = tt
  tops_sized (r ∷ rs) d at h k =
      let p = both (has_turn (count n values at r)) (all_turn n values (suc d) (in_last n values d at r) rs) h in
      (few_size (top n values at r) p.0 k.0, tops_sized rs (suc d) (in_last n values d at r) p.1 k.1)

  length_tops : (rs : List NormalLoop) (d : ℕ) (at : ℕ → ℤ) → length (tops d at rs) ≡ length rs
  length_tops [] d at = refl
  length_tops (r ∷ rs) d at = ap suc (length_tops rs (suc d) (in_last n values d at r))

  -- ---- the iterations

  other_place : (k d : ℕ) → (k < d) ⊎ (d < k) → (k == d) ≡ false
  other_place k d h = by (k == d) refl
    where
      which : (k < d) ⊎ (d < k) → k ≡ d → ⊥
      which (inl l) e = omega (arith, l, e)
      which (inr l) e = omega (arith, l, e)

      by : (b : Bool) → (k == d) ≡ b → b ≡ false
      by true e = absurd (which h (eqb-true k d e))
      by false e = refl

  last_before : (rs : List NormalLoop) (d : ℕ) (at : ℕ → ℤ) (k : ℕ) → k < d → last_at (length symbols) values d at rs k ≡ at k
  last_before [] d at k l = refl
  last_before (r ∷ rs) d at k l =
      last_before rs (suc d) (in_last n values d at r) k (omega (arith, l)) ∙ ap (λ b. cond b (pos (count n values at r)) (at k)) (other_place k d (inl l))

  last_here : (r : NormalLoop) (rs : List NormalLoop) (d : ℕ) (at : ℕ → ℤ) → last_at (length symbols) values d at (r ∷ rs) d ≡ pos (count (length symbols) values at r)
  last_here r rs d at = last_before rs (suc d) (in_last n values d at r) d (omega arith) ∙ ap (λ b. cond b (pos (count n values at r)) (at d)) (eq-eqb d d refl)

  last_past : (rs : List NormalLoop) (d : ℕ) (at : ℕ → ℤ) (k : ℕ) → d + length rs ≤ k → at k ≡ pos 0 → last_at (length symbols) values d at rs k ≡ pos 0
  last_past [] d at k l h = h
  last_past (r ∷ rs) d at k l h =
      last_past rs (suc d) (in_last n values d at r) k (omega (arith, l)) (ap (λ b. cond b (pos (count n values at r)) (at k)) (other_place k d (inr (omega (arith, l)))) ∙ h)

  -- the trips of the loops round, as forms
  trips_are : (w last : ℕ → ℤ) (symbols_are : (j : ℕ) → j < length symbols → w j ≡ values j) → (rs : List NormalLoop) (d : ℕ) (at : ℕ → ℤ) → d + length rs ≤ 7
      → ((i : ℕ) → i < length rs → w (length symbols + (d + i)) ≡ At (tops d at rs) i)
      → ((k : ℕ) → last k ≡ last_at (length symbols) values d at rs k)
      → Each (IsMade (length symbols)) rs → StayTops d at rs → all_turn (length symbols) values d at rs ≡ true
      → TripsAre (length symbols) values w last symbols_are d rs
  trips_are w last symbols_are [] d at few there lasts made stay turns = tt
  trips_are w last symbols_are (r ∷ rs) d at few there lasts made stay turns =
      let p = both (has_turn (count n values at r)) (all_turn n values (suc d) (in_last n values d at r) rs) turns in
      let same : top n values at r ≡ last d = turns_of (top n values at r) p.0 ∙ sym (lasts d ∙ last_here r rs d at) in (
        trip_form_number (n + 7) (n + d) none_yet w r.trip (last d) (omega (arith, few))
            (ap (λ z. int_div z r.trip.by) (number_stays n 7 r.trip.top (top_known n r made.0) none_yet values w symbols_are) ∙ (stay.0 ∙ same))
            (ap (λ k. w (n + k)) (let e : d ≡ d + 0 = omega arith in e) ∙ (there 0 (omega arith) ∙ same)),
        subst (λ k. TripsAre n values w last symbols_are k rs) (let e : suc d ≡ d + 1 = omega arith in e)
            (trips_are w last symbols_are rs (suc d) (in_last n values d at r) (omega (arith, few))
            (λ i l. ap (λ k. w (n + k)) (let e : suc d + i ≡ d + suc i = omega arith in e) ∙ there (suc i) (omega (arith, l)))
            lasts made.1 stay.1 p.1),
      )

  -- ---- a loop in the last turn of each loop round it

  at_front : (xs ys : List ℤ) (i : ℕ) → i < length xs → At (xs ++ ys) i ≡ At xs i
  at_front [] ys i l = absurd (omega (arith, l))
  at_front (x ∷ xs) ys zero l = refl
  at_front (x ∷ xs) ys (suc i) l = at_front xs ys i (omega (arith, l))

  at_behind : (xs : List ℤ) (z : ℤ) (k : ℕ) → k ≡ length xs → At (xs ++ z ∷ []) k ≡ z
  at_behind [] z zero e = refl
  at_behind [] z (suc k) e = absurd (omega (arith, e))
  at_behind (x ∷ xs) z zero e = absurd (omega (arith, e))
  at_behind (x ∷ xs) z (suc k) e = at_behind xs z k (omega (arith, e))

  each_more : (ts : List Expression) (t : Expression) (xs : List ℤ) (z : ℤ) → EachHasValue lang ts u xs → value_of lang t u ≡ Ok (Int z) → EachHasValue lang (ts ++ t ∷ []) u (xs ++ z ∷ [])
  each_more [] t [] z h k = (k, tt)
  each_more [] t (x ∷ xs) z h k = absurd h
  each_more (s ∷ ts) t [] z h k = absurd h
  each_more (s ∷ ts) t (x ∷ xs) z h k = (h.0, each_more ts t xs z h.1 k)

  module _ (round : List NormalLoop) (r : NormalLoop) (f : LastForms) (is : last_forms (length symbols) round r ≡ Some f) (plain : have_plain_trips round ≡ true) (deep : length round < 7)
      (made_round : Each (IsMade (length symbols)) round) (made : IsMade (length symbols) r) (turns : all_turn (length symbols) values 0 none_yet round ≡ true) (few : are_few (length symbols) values 0 none_yet round) where
    abbrev ts : List ℤ
    ts = tops 0 none_yet round

    abbrev L : ℕ → ℤ
    L = last_round n values round

    abbrev T : ℤ
    T = top n values L r

    abbrev steps : AreMade (length symbols) round r f
    steps = made_of n round r f is

    -- values that begin with the trips
    abbrev BeginSo : List ℤ → Type 0
    BeginSo us = (i : ℕ) → i < length round → At us i ≡ At (tops 0 none_yet round) i

    moved_number : (us : List ℤ) → BeginSo us → (a : Affine) → IsKnownForm (length symbols) a
        → sum_of_numbers (length symbols + 7) none_yet (At (values_from (length symbols) 0 values ++ us)) (with_trips (length symbols) round a) ≡ number_of_form (length symbols) (last_round (length symbols) values round) values a
    moved_number us h a k =
        with_trips_number n values (At (vs ++ us)) L (front us) a k round (omega (arith, deep))
        (trips_are (At (vs ++ us)) L (front us) round 0 none_yet (omega (arith, deep)) (λ i l. behind_values n 0 values us i (n + (0 + i)) (omega arith) ∙ h i l) (λ k. refl) made_round (tops_stay round plain) turns)
        (λ k l. last_past round 0 none_yet k (omega (arith, l)) refl)

    first_number : (us : List ℤ) → BeginSo us → number_of_form (length symbols + 7) none_yet (At (values_from (length symbols) 0 values ++ us)) f.first ≡ Number (length symbols) values (last_round (length symbols) values round) r.first
    first_number us h = combination_has_number (n + 7) (with_trips n round r.first) f.first none_yet (At (vs ++ us)) steps.first ∙ moved_number us h r.first (first_known n r made)

    trip_number_is : (us : List ℤ) → BeginSo us → trip_number (length symbols + 7) none_yet (At (values_from (length symbols) 0 values ++ us)) f.trip ≡ top (length symbols) values (last_round (length symbols) values round) r
    trip_number_is us h =
        ap (trip_number (n + 7) none_yet (At (vs ++ us))) steps.trip
        ∙ (folded (n + 7) none_yet (At (vs ++ us)) steps.top r.trip.by
        ∙ ap (λ z. int_div z r.trip.by) (combination_has_number (n + 7) (with_trips n round r.trip.top) steps.top none_yet (At (vs ++ us)) steps.top_is ∙ moved_number us h r.trip.top (top_known n r made)))

    -- a trip that is known
    pub known_top : is_known f.trip ≡ true → top (length symbols) values (last_round (length symbols) values round) r ≡ f.trip.top.constant
    known_top h =
        let p = both (is_undivided f.trip) (is_constant f.trip.top) h in
        sym (trip_number_is ts (λ i l. refl)) ∙ known_number (n + 7) none_yet (At (vs ++ ts)) f.trip p.0 p.1

    with_own : BeginSo (tops 0 none_yet round ++ top (length symbols) values (last_round (length symbols) values round) r ∷ [])
    with_own i l = let e = length_tops round 0 none_yet in at_front ts (T ∷ []) i (omega (arith, l, e))

    end_number : number_of_form (length symbols + 7) none_yet (At (values_from (length symbols) 0 values ++ (tops 0 none_yet round ++ top (length symbols) values (last_round (length symbols) values round) r ∷ []))) f.end
        ≡ Number (length symbols) values (last_round (length symbols) values round) r.first +ℤ r.step *ℤ top (length symbols) values (last_round (length symbols) values round) r
    end_number =
        let us : List ℤ = ts ++ T ∷ [] in
        plus_number (n + 7) none_yet (At (vs ++ us)) f.first (trip_form (n + length round) f.trip) f.end r.step steps.end
        ∙ ap₂ (λ p q. p +ℤ r.step *ℤ q) (first_number us with_own)
        (trip_form_number (n + 7) (n + length round) none_yet (At (vs ++ us)) f.trip T (omega (arith, deep)) (trip_number_is us with_own)
        (behind_values n 0 values us (length round) (n + length round) refl ∙ at_behind ts T (length round) (sym (length_tops round 0 none_yet))))

    each : EachHasValue lang (plain_trip_texts symbols round) u (tops 0 none_yet round)
    each = each_trip round 0 none_yet made_round (tops_stay round plain)

    trips_sized : AreSized (tops 0 none_yet round)
    trips_sized = tops_sized round 0 none_yet turns few

    pub first_value : value_of lang (last_first_text symbols round f) u ≡ Ok (Int (Number (length symbols) values (last_round (length symbols) values round) r.first))
    first_value =
        text_number lang symbols (plain_trip_texts symbols round) (n + 7) f.first (sum_known (n + 7) (with_trips n round r.first) f.first steps.first) u vs ts known each sized trips_sized
        ∙ ap (λ z. Ok (Int z)) (first_number ts (λ i l. refl))

    pub last_trip_value : value_of lang (last_trip_text symbols round f) u ≡ Ok (Int (top (length symbols) values (last_round (length symbols) values round) r))
    last_trip_value =
        let d = has_divisor n r made in
        let same : f.trip ≡ trip_of steps.top (pos d.divisor) = steps.trip ∙ ap (trip_of steps.top) d.is in
        ap (λ t. value_of lang (trip_text [] symbols (plain_trip_texts symbols round) t) u) same
        ∙ (trip_value (n + 7) steps.top d.divisor d.positive (sum_known (n + 7) (with_trips n round r.trip.top) steps.top steps.top_is) (plain_trip_texts symbols round) ts each trips_sized
        ∙ ap (λ z. Ok (Int z)) (ap (trip_number (n + 7) none_yet (At (vs ++ ts))) (sym same) ∙ trip_number_is ts (λ i l. refl)))

    pub last_end_value : has_turn (count (length symbols) values (last_round (length symbols) values round) r) ≡ true → count (length symbols) values (last_round (length symbols) values round) r ≤ 2147483646
        → value_of lang (last_end_text symbols round f) u ≡ Ok (Int (end (length symbols) values (last_round (length symbols) values round) r))
    unfolding last_end_text
    last_end_value h k =
        text_number lang symbols (plain_trip_texts symbols round ++ last_trip_text symbols round f ∷ []) (n + 7) f.end
        (sum_known (n + 7) (times (pos 1) f.first ∷ times r.step (trip_form (n + length round) f.trip) ∷ []) f.end steps.end) u vs (ts ++ T ∷ []) known
        (each_more (plain_trip_texts symbols round) (last_trip_text symbols round f) ts T each last_trip_value) sized (both_sized ts (T ∷ []) trips_sized (few_size T h k, tt))
        ∙ ap (λ z. Ok (Int z)) (end_number ∙ ap (λ z. Number n values L r.first +ℤ r.step *ℤ z) (turns_of T h))
