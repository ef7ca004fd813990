-- The forms behind all loops of a loop under no other.
use mathlib.Core.Path.{ap₂}
use Rattle.std.proofs.Common.{◌≡◌, refl, sym, ap, ◌∙◌, inl, inr, ◌⊎◌, ℕ, zero, suc, ◌+◌, ◌-◌, ◌≤◌, ◌<◌, ℤ, pos, negsuc, ◌+ℤ◌, ◌*ℤ◌, Bool, true, false, cond, List, [], ◌∷◌, take, length, Option, Some, arith}
use Rattle.std.specs.Prelude.{int_div, int_rem, unsigned_abs}
use Rattle.std.specs.List.{list_all}
use Rattle.std.specs.Ordering.{int_eq}
use Rattle.std.proofs.lemmas.Bool.{cases_lt}
use Rattle.std.proofs.lemmas.Bool.Decides.{Decides-int_eq}
use Rattle.std.proofs.lemmas.Int.{ints, quot-rem, rem_below}
use Rattle.std.proofs.lemmas.List.{get_or_past}
use Rattle.subscripts.specs.declared.affine.Affine.{Affine}
use Rattle.linear_forms.specs.Linear.{is_small, all_small, not_zero}
use Rattle.linear_forms.specs.Places.{padded, terms_from}
use Rattle.nest.specs.declared.parts.Trip.{Trip}
use Rattle.last_values.specs.declared.normal_forms.combinations.Multiple.{Multiple}
use Rattle.last_values.specs.declared.normal_forms.last.LastForms.{LastForms}
use Rattle.last_values.specs.declared.normal_forms.loops.NormalLoop.{NormalLoop}
use Rattle.last_values.specs.declared.normal_forms.places.Place.TheVariants as place
use Rattle.last_values.specs.normal_forms.Steps.{◌>>=◌}
use Rattle.last_values.specs.normal_forms.Combinations.{coefficient_in, number_of_place, combined_at, combination, has_small_factor, number_form, seven, times, without_loops}
use Rattle.last_values.specs.normal_forms.NormalLoops.{is_constant, trip_of, trip_form, plus_multiple}
use Rattle.last_values.specs.normal_forms.LastValues.{with_trips, last_forms}
use Rattle.last_values.specs.normal_forms.Numbers.{values_from}
use Rattle.last_values.proofs.NormalForms.Numbers.{looked_up, places_of}
use Rattle.pass_laws.proofs.ReadyNests.LoopForms.{seven-at, without_at, number_at}
use Rattle.pass_laws.proofs.ReadyNests.Sums.{Zero, sum_of}
use Rattle.pass_laws.proofs.NormalNests.Combined.{HasSum, KeepsLimits, has_sum}
use Rattle.pass_laws.proofs.NormalNests.Spread.{At, small_at, alike_not_zero}

-- ---- forms without loops, by their symbols

pub record IsPlain (n : ℕ) (a : Affine) : Type 0 where
  pub loops : (k : ℕ) → At a.loops k ≡ pos 0
  pub seven : length a.loops ≡ 7
  pub symbols : List ℤ
  pub few : length symbols ≤ n
  pub count : not_zero symbols ≤ 8
  pub small : all_small symbols ≡ true
  pub syms : a.syms ≡ padded (terms_from 0 symbols)
  pub constant : is_small a.constant ≡ true

length-values : (n j : ℕ) (f : ℕ → ℤ) → length (values_from n j f) ≡ n
length-values zero j f = refl
length-values (suc n) j f = ap suc (length-values n (j + 1) f)

pub sum_plain : (n : ℕ) (ts : List Multiple) (a : Affine) → combination n ts ≡ Some a → Zero 0 a → IsPlain n a
sum_plain n ts a h none =
    let s = sum_of n ts a h in
    let len : length a.loops ≡ 7 = ap (λ (ls : List ℤ). length ls) s.loops in
    let many = ap (λ (es : List ℤ). length es) s.values in
    let all = length-values n 0 (λ j. combined_at ts (place.Symbol j)) in
    record {
      loops = λ k. by len k (cases_lt k 7);
      seven = len;
      symbols = s.symbols;
      few = omega (arith, many, all);
      count = s.few;
      small = s.small_symbols;
      syms = s.syms;
      constant = s.constant;
    }
  where
    by : length a.loops ≡ 7 → (k : ℕ) → (k < 7) ⊎ (7 ≤ k) → At a.loops k ≡ pos 0
    by len k (inl l) = none k (omega arith) l
    by len k (inr l) = get_or_past a.loops k (pos 0) (omega (arith, l, len))

pub number_plain : (n : ℕ) (z : ℤ) → is_small z ≡ true → IsPlain n (number_form z)
number_plain n z h = record {
  loops = λ k. number_at z k;
  seven = refl;
  symbols = [];
  few = omega arith;
  count = omega arith;
  small = refl;
  syms = refl;
  constant = h;
}

-- ---- lists with the same coefficients

same_terms : (o : ℕ) (cs ds : List ℤ) → ((j : ℕ) → At cs j ≡ At ds j) → terms_from o cs ≡ terms_from o ds
same_terms o [] [] h = refl
same_terms o [] (d ∷ ds) h = sym (ap (λ b. cond b (terms_from (suc o) ds) ((o, d) ∷ terms_from (suc o) ds)) ((Decides-int_eq d (pos 0)).1 (sym (h 0))) ∙ sym (same_terms (suc o) [] ds (λ j. h (suc j))))
same_terms o (c ∷ cs) [] h = ap (λ b. cond b (terms_from (suc o) cs) ((o, c) ∷ terms_from (suc o) cs)) ((Decides-int_eq c (pos 0)).1 (h 0)) ∙ same_terms (suc o) cs [] (λ j. h (suc j))
same_terms o (c ∷ cs) (d ∷ ds) h =
    ap₂ (λ z us. cond (int_eq z (pos 0)) us ((o, z) ∷ us)) (h 0) (same_terms (suc o) cs ds (λ j. h (suc j)))

same_list : (cs ds : List ℤ) → length cs ≡ length ds → ((j : ℕ) → At cs j ≡ At ds j) → cs ≡ ds
same_list [] [] e h = refl
same_list [] (d ∷ ds) e h = absurd (omega (arith, e))
same_list (c ∷ cs) [] e h = absurd (omega (arith, e))
same_list (c ∷ cs) (d ∷ ds) e h = ap₂ (λ x xs. x ∷ xs) (h 0) (same_list cs ds (omega (arith, e)) (λ j. h (suc j)))

fewer : (n : ℕ) (cs : List ℤ) → not_zero (take n cs) ≤ not_zero cs
fewer zero cs = omega arith
fewer (suc n) [] = omega arith
fewer (suc n) (c ∷ cs) = by (int_eq c (pos 0)) (fewer n cs)
  where
    by : (b : Bool) → not_zero (take n cs) ≤ not_zero cs → cond b (not_zero (take n cs)) (suc (not_zero (take n cs))) ≤ cond b (not_zero cs) (suc (not_zero cs))
    by true h = h
    by false h = omega (arith, h)

values_are : (m j i : ℕ) (f : ℕ → ℤ) → i < m → At (values_from m j f) i ≡ f (j + i)
values_are zero j i f h = absurd (omega (arith, h))
values_are (suc m) j zero f h = ap f (let e : j ≡ j + 0 = omega arith in e)
values_are (suc m) j (suc i) f h = values_are m (j + 1) i f (omega (arith, h)) ∙ ap f (let e : (j + 1) + i ≡ j + suc i = omega arith in e)

-- ---- a form with its counters replaced by trips, where there are none

one_of : (x : ℤ) → pos 1 *ℤ x +ℤ pos 0 ≡ x
one_of x = omega (arith, ints)

module _ (n m : ℕ) (a : Affine) (h : IsPlain n a) (more : n ≤ m) where
  abbrev ts : List Multiple
  ts = times (pos 1) (without_loops a) ∷ []

  symbol_at : (j : ℕ) → combined_at ts (place.Symbol j) ≡ At h.symbols j
  symbol_at j = one_of (number_of_place a (place.Symbol j)) ∙ ap (λ us. coefficient_in us j) h.syms ∙ looked_up 0 h.symbols (8 - length (terms_from 0 h.symbols)) j j (omega arith)

  loop_at : (k : ℕ) → combined_at ts (place.Loop k) ≡ pos 0
  loop_at k = one_of (number_of_place (without_loops a) (place.Loop k)) ∙ without_at a k

  all_values : (i : ℕ) → At (values_from m 0 (λ j. combined_at ts (place.Symbol j))) i ≡ At h.symbols i
  all_values i = by (cases_lt i m)
    where
      by : (i < m) ⊎ (m ≤ i) → At (values_from m 0 (λ j. combined_at ts (place.Symbol j))) i ≡ At h.symbols i
      by (inl l) = values_are m 0 i (λ j. combined_at ts (place.Symbol j)) l ∙ ap (λ k. combined_at ts (place.Symbol k)) (let e : 0 + i ≡ i = omega arith in e) ∙ symbol_at i
      by (inr l) =
          let len = length-values m 0 (λ j. combined_at ts (place.Symbol j)) in
          let few = h.few in
          get_or_past (values_from m 0 (λ j. combined_at ts (place.Symbol j))) i (pos 0) (omega (arith, l, len)) ∙ sym (get_or_past h.symbols i (pos 0) (omega (arith, l, few, more)))

  keeps : KeepsLimits m ts
  keeps =
      let same = alike_not_zero (values_from m 0 (λ j. combined_at ts (place.Symbol j))) h.symbols all_values in
      let most = h.count in
      record {
        factors = refl;
        loops = λ k l. ap is_small (loop_at k);
        symbols = λ j l. ap is_small (symbol_at j) ∙ small_at h.symbols h.small j;
        count = omega (arith, same, most);
        constant = ap is_small (one_of a.constant) ∙ h.constant;
      }

  pub plain_stays : combination m ts ≡ Some a
  plain_stays =
      let c = has_sum m ts keeps in
      let s = sum_of m ts c.form c.is in
      let len : length c.form.loops ≡ 7 = ap (λ (ls : List ℤ). length ls) s.loops in
      let len_a = h.seven in
      let loops_same : c.form.loops ≡ a.loops = same_list c.form.loops a.loops (omega (arith, len, len_a)) (λ k. ap (λ (ls : List ℤ). At ls k) s.loops ∙ by_loop k (cases_lt k 7) ∙ sym (h.loops k)) in
      let syms_same : c.form.syms ≡ a.syms
      = s.syms ∙ ap padded (same_terms 0 s.symbols h.symbols (λ j. ap (λ es. At es j) s.values ∙ all_values j)) ∙ sym h.syms in
      let constant_same : c.form.constant ≡ a.constant = (places_of m ts c.form c.is).constant ∙ one_of a.constant in
      c.is ∙ ap (λ (b : Affine). Some b) (whole c.form a loops_same syms_same constant_same)
    where
      by_loop : (k : ℕ) → (k < 7) ⊎ (7 ≤ k) → At (seven (λ k. combined_at ts (place.Loop k))) k ≡ pos 0
      by_loop k (inl l) = seven-at (λ k. combined_at ts (place.Loop k)) k l ∙ loop_at k
      by_loop k (inr l) = get_or_past (seven (λ k. combined_at ts (place.Loop k))) k (pos 0) l

      whole : (b c : Affine) → b.loops ≡ c.loops → b.syms ≡ c.syms → b.constant ≡ c.constant → b ≡ c
      whole b c e f g =
          ap (λ ls. let x : Affine = record { loops = ls; syms = b.syms; constant = b.constant } in x) e
          ∙ ap (λ us. let x : Affine = record { loops = c.loops; syms = us; constant = b.constant } in x) f
          ∙ ap (λ z. let x : Affine = record { loops = c.loops; syms = c.syms; constant = z } in x) g

-- ---- more places of symbols

pub sum_with_more : (n m : ℕ) (ts : List Multiple) (a : Affine) → combination n ts ≡ Some a → n ≤ m → list_all has_small_factor ts ≡ true
    → ((j : ℕ) → n ≤ j → combined_at ts (place.Symbol j) ≡ pos 0) → HasSum m ts
sum_with_more n m ts a h more f none =
    let p = places_of n ts a h in
    let s = sum_of n ts a h in
    let alike : (i : ℕ) → At (values_from m 0 (λ j. combined_at ts (place.Symbol j))) i ≡ At s.symbols i = λ i. all_alike s.symbols s.values i (cases_lt i n) (cases_lt i m) in
    let same = alike_not_zero (values_from m 0 (λ j. combined_at ts (place.Symbol j))) s.symbols alike in
    let most = s.few in
    has_sum m ts (record {
      factors = f;
      loops = λ k l. ap is_small (sym (p.loops k l)) ∙ small_at a.loops s.small k;
      symbols = λ j l. ap is_small (ap (λ i. combined_at ts (place.Symbol i)) (let e : j ≡ 0 + j = omega arith in e) ∙ sym (values_are m 0 j (λ j. combined_at ts (place.Symbol j)) l) ∙ alike j) ∙ small_at s.symbols s.small_symbols j;
      count = omega (arith, same, most);
      constant = ap is_small (sym p.constant) ∙ s.constant;
    })
  where
    all_alike : (es : List ℤ) → es ≡ values_from n 0 (λ j. combined_at ts (place.Symbol j)) → (i : ℕ) → (i < n) ⊎ (n ≤ i) → (i < m) ⊎ (m ≤ i)
        → At (values_from m 0 (λ j. combined_at ts (place.Symbol j))) i ≡ At es i
    all_alike es e i (inl l) (inl k) =
        values_are m 0 i (λ j. combined_at ts (place.Symbol j)) k ∙ sym (ap (λ us. At us i) e ∙ values_are n 0 i (λ j. combined_at ts (place.Symbol j)) l)
    all_alike es e i (inr l) (inl k) =
        values_are m 0 i (λ j. combined_at ts (place.Symbol j)) k ∙ none (0 + i) (omega (arith, l))
        ∙ sym (ap (λ us. At us i) e ∙ (let len = length-values n 0 (λ j. combined_at ts (place.Symbol j)) in get_or_past (values_from n 0 (λ j. combined_at ts (place.Symbol j))) i (pos 0) (omega (arith, l, len))))
    all_alike es e i (inl l) (inr k) = absurd (omega (arith, l, k, more))
    all_alike es e i (inr l) (inr k) =
        (let len = length-values m 0 (λ j. combined_at ts (place.Symbol j)) in get_or_past (values_from m 0 (λ j. combined_at ts (place.Symbol j))) i (pos 0) (omega (arith, k, len)))
        ∙ sym (ap (λ us. At us i) e ∙ (let len = length-values n 0 (λ j. combined_at ts (place.Symbol j)) in get_or_past (values_from n 0 (λ j. combined_at ts (place.Symbol j))) i (pos 0) (omega (arith, l, len))))

-- ---- a trip divided once more

small_is_zero : (z : ℤ) → unsigned_abs z < 1 → z ≡ pos 0
small_is_zero (pos zero) h = refl
small_is_zero (pos (suc n)) h = absurd (omega (arith, ints, h))
small_is_zero (negsuc n) h = absurd (omega (arith, ints, h))

by_one : (z : ℤ) → int_div z (pos 1) ≡ z
by_one z = alone (int_div z (pos 1)) (int_rem z (pos 1)) z (quot-rem z (pos 1)) (small_is_zero (int_rem z (pos 1)) (rem_below z (pos 1) (omega arith)))
  where
    alone : (q r z : ℤ) → q *ℤ pos 1 +ℤ r ≡ z → r ≡ pos 0 → q ≡ z
    alone q r z h e = omega (arith, ints, h, e)

pub trip_again : (a : Affine) (d : ℤ) → trip_of (trip_of a d).top (trip_of a d).by ≡ trip_of a d
trip_again a d = by (is_constant a) refl
  where
    by : (b : Bool) → is_constant a ≡ b → trip_of (cond {A = Trip} b (record { top = number_form (int_div a.constant d); by = pos 1 }) (record { top = a; by = d })).top (cond {A = Trip} b (record { top = number_form (int_div a.constant d); by = pos 1 }) (record { top = a; by = d })).by ≡ cond {A = Trip} b (record { top = number_form (int_div a.constant d); by = pos 1 }) (record { top = a; by = d })
    by true e = ap (λ z. let t : Trip = record { top = number_form z; by = pos 1 } in t) (by_one (int_div a.constant d))
    by false e = ap (λ b. cond {A = Trip} b (record { top = number_form (int_div a.constant d); by = pos 1 }) (record { top = a; by = d })) e

-- ---- the forms of a loop under no other

pub record HasForms (n : ℕ) (r : NormalLoop) : Type 0 where
  pub forms : LastForms
  pub is : last_forms n [] r ≡ Some forms

bind : {A B : Type 0} (o : Option A) (x : A) (k : A → Option B) → o ≡ Some x → (o >>= k) ≡ k x
bind o x k e = ap (λ q. q >>= k) e

module _ (n : ℕ) (r : NormalLoop) where
  abbrev after_end : Affine → Affine → Affine → Option LastForms
  after_end first top end = Some (record { first = first; trip = trip_of top r.trip.by; end = end })

  abbrev after_top : Affine → Affine → Option LastForms
  after_top first top = plus_multiple (n + 7) first r.step (trip_form (n + 0) (trip_of top r.trip.by)) >>= after_end first top

  abbrev after_first : Affine → Option LastForms
  after_first first = combination (n + 7) (with_trips n [] r.trip.top) >>= after_top first

  pub forms_alone : IsPlain n r.first → IsPlain n r.trip.top → trip_of r.trip.top r.trip.by ≡ r.trip
      → HasSum (n + 7) (times (pos 1) r.first ∷ times r.step (trip_form n r.trip) ∷ []) → HasForms n r
  unfolding last_forms
  forms_alone f t again e =
      let there : n + 0 ≡ n = omega arith in
      let trip_same : trip_form (n + 0) (trip_of r.trip.top r.trip.by) ≡ trip_form n r.trip = ap₂ (λ m u. trip_form m u) there again in
      record {
        forms = record { first = r.first; trip = trip_of r.trip.top r.trip.by; end = e.form };
        is =
            bind (combination (n + 7) (with_trips n [] r.first)) r.first after_first (plain_stays n (n + 7) r.first f (omega arith))
            ∙ bind (combination (n + 7) (with_trips n [] r.trip.top)) r.trip.top (after_top r.first) (plain_stays n (n + 7) r.trip.top t (omega arith))
            ∙ bind (plus_multiple (n + 7) r.first r.step (trip_form (n + 0) (trip_of r.trip.top r.trip.by))) e.form (after_end r.first r.trip.top)
            (ap (λ u. plus_multiple (n + 7) r.first r.step u) trip_same ∙ e.is);
      }
