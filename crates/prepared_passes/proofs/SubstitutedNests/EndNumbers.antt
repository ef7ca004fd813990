-- The text of an induction's last value has the number that it grew to.
use mathlib.Core.Path.{ap₂}
use Rattle.std.proofs.Common.{◌≡◌, ◌⊎◌, inl, inr, refl, sym, ap, ◌∙◌, subst, ℕ, zero, suc, ◌+◌, ◌<◌, ◌≤◌, ◌^◌, ℤ, pos, ◌+ℤ◌, ◌*ℤ◌, Bool, true, false, cond, ◌&&◌, List, [], ◌∷◌, ◌++◌, drop, insert, length, Result, Ok, Some, arith}
use Rattle.std.specs.Prelude.{◌==◌, int_div, nat_abs, nat_le}
use Rattle.std.proofs.lemmas.Bool.{cases_lt, eqb-true, eq-eqb, leb-true}
use Rattle.std.proofs.lemmas.Int.{ints}
use Rattle.std.proofs.lemmas.List.{append-nil, length-drop}
use Rattle.std.proofs.Math.IntN.{zero-*ℤ}
use Rattle.tree.specs.Plain.{Expression}
use Rattle.tree.specs.declared.ops.Fault.{Fault}
use Rattle.tree.specs.declared.ops.Value.{Value}
use Rattle.tree.specs.declared.ops.Value.TheVariants.{Int}
use Rattle.meaning.specs.Store.{Store}
use Rattle.meaning.specs.Value.{value_of}
use Rattle.rewrite.specs.Following.{sequential}
use Rattle.linear_forms.specs.Laws.{AreSized}
use Rattle.linear_forms.specs.Linear.{HaveValues, all_small, is_small, not_zero}
use Rattle.linear_forms.specs.Places.{terms_from}
use Rattle.linear_forms.specs.Texts.{text_of}
use Rattle.linear_forms.proofs.Sizes.{both}
use Rattle.nest.specs.declared.parts.Trip.{Trip}
use Rattle.nest_steps.specs.Statements.{cell_of}
use Rattle.last_values.specs.declared.normal_forms.places.Place.TheVariants as place
use Rattle.last_values.specs.normal_forms.Combinations.{number_of_place, coefficient_in, number_form, times}
use Rattle.last_values.specs.normal_forms.NormalLoops.{symbol_form, trip_form}
use Rattle.last_values.specs.normal_forms.Numbers.{number_of_form, products, trip_number}
use Rattle.last_values.specs.normal_forms.Texts.{quotient_text, trip_text}
use Rattle.last_values.proofs.NormalForms.Numbers.{Zeros, none_among_zeros}
use Rattle.pass_laws.proofs.LastRuns.Forms.{At, IsKnownForm, number_size, quotient_value, sum_known, text_number}
use Rattle.pass_laws.proofs.LastRuns.LastNumbers.{number_stays, plus_number, trip_form_number}
use Rattle.pass_laws.proofs.LastRuns.Pieces.{none_yet}
use Rattle.pass_laws.specs.prepared_nests.Loops.{IsPreparedTrip}
use Rattle.pass_laws.proofs.PreparedNests.Normal.LoopSizes.{IsSized, eight_places, terms_counted}
use Rattle.statement_passes.specs.Laws.{form_with_zero}
use Rattle.statement_passes.specs.Symbols.{place_among, shifted_trip, with_name_placed}
use Rattle.statement_passes.proofs.Forms.{shifted_is_affine, shifted_is_form, shifted_trip_has_text}
use Rattle.statement_passes.proofs.Names.{place_of-within}
use Rattle.prepared_passes.proofs.SymbolsAnew.Names.{length_more}
use Rattle.inductions.specs.Ends.{induction_end_text}
use Rattle.inductions.specs.Found.{end_form}
use Rattle.inductions.specs.declared.found.Induction.{Induction}

-- ---- a form that is 1 for one place

no_coefficients : (n j : ℕ) (c v : ℕ → ℤ) → ((i : ℕ) → j ≤ i → i < j + n → c i ≡ pos 0) → products n j c v ≡ pos 0
no_coefficients zero j c v h = refl
no_coefficients (suc n) j c v h =
    ap₂ (λ p q. p *ℤ v j +ℤ q) (h j (omega arith) (omega arith)) (no_coefficients n (j + 1) c v (λ i k l. h i (omega (arith, k)) (omega (arith, l)))) ∙ ap (λ z. z +ℤ pos 0) (zero-*ℤ (v j))

zero_at : (k : ℕ) → number_of_place (number_form (pos 0)) (place.Loop k) ≡ pos 0
zero_at zero = refl
zero_at (suc zero) = refl
zero_at (suc (suc zero)) = refl
zero_at (suc (suc (suc zero))) = refl
zero_at (suc (suc (suc (suc zero)))) = refl
zero_at (suc (suc (suc (suc (suc zero))))) = refl
zero_at (suc (suc (suc (suc (suc (suc zero)))))) = refl
zero_at (suc (suc (suc (suc (suc (suc (suc k))))))) = refl

other_place : (p i : ℕ) → (p < i) ⊎ (i < p) → (p == i) ≡ false
other_place p i k = by (p == i) refl
  where
    apart : (p < i) ⊎ (i < p) → p ≡ i → ⊥
    apart (inl l) e = omega (arith, l, e)
    apart (inr l) e = omega (arith, l, e)

    by : (b : Bool) → (p == i) ≡ b → b ≡ false
    by true e = absurd (apart k (eqb-true p i e))
    by false e = refl

none_there : (p i : ℕ) → (p < i) ⊎ (i < p) → coefficient_in (symbol_form p).syms i ≡ pos 0
none_there p i k = ap (λ b. cond b (pos 1) (coefficient_in (Zeros 7) i)) (other_place p i k) ∙ none_among_zeros 7 i

single : (n j p : ℕ) (v : ℕ → ℤ) → j ≤ p → p < j + n → products n j (λ i. coefficient_in (symbol_form p).syms i) v ≡ v p
single zero j p v l m = absurd (omega (arith, l, m))
single (suc n) j p v l m = by (λ k. single n (j + 1) p v (omega (arith, k)) (omega (arith, m))) (cases_lt j p)
  where
    here : (i : ℕ) → p ≡ i → coefficient_in (symbol_form p).syms i ≡ pos 1
    here i e = ap (λ b. cond b (pos 1) (coefficient_in (Zeros 7) i)) (eq-eqb p i e)

    zero_and : (x z : ℤ) → pos 0 +ℤ z ≡ z
    zero_and x z = omega (arith, ints)

    one_and : (z : ℤ) → pos 1 *ℤ z +ℤ pos 0 ≡ z
    one_and z = omega (arith, ints)

    by : (j < p → products n (j + 1) (λ i. coefficient_in (symbol_form p).syms i) v ≡ v p) → (j < p) ⊎ (p ≤ j) → products (suc n) j (λ i. coefficient_in (symbol_form p).syms i) v ≡ v p
    by more (inl k) =
        ap₂ (λ x y. x *ℤ v j +ℤ y) (none_there p j (inr k)) (more k)
        ∙ (ap (λ z. z +ℤ v p) (zero-*ℤ (v j)) ∙ zero_and (v j) (v p))
    by more (inr k) =
        let same : p ≡ j = omega (arith, k, l) in
        ap₂ (λ x y. x *ℤ v j +ℤ y) (here j same) (no_coefficients n (j + 1) (λ i. coefficient_in (symbol_form p).syms i) v (λ i a b. none_there p i (inl (omega (arith, a, same)))))
        ∙ (one_and (v j) ∙ ap v (sym same))

number_of_symbol : (n p : ℕ) (v : ℕ → ℤ) → p < n → number_of_form n none_yet v (symbol_form p) ≡ v p
number_of_symbol n p v l =
    ap₂ (λ x y. x +ℤ (y +ℤ pos 0)) (no_coefficients 7 0 (λ k. number_of_place (number_form (pos 0)) (place.Loop k)) none_yet (λ k a b. zero_at k)) (single n 0 p v (omega arith) (omega (arith, l)))
    ∙ alone (v p)
  where
    alone : (z : ℤ) → pos 0 +ℤ (z +ℤ pos 0) ≡ z
    alone z = omega (arith, ints)

-- ---- values into which one has come

at_insert : (xs ys : List ℤ) (k : ℕ) (x : ℤ) → k ≤ length xs → At (insert xs k x ++ ys) k ≡ x
at_insert [] ys zero x h = refl
at_insert [] ys (suc k) x h = absurd (omega (arith, h))
at_insert (y ∷ xs) ys zero x h = refl
at_insert (y ∷ xs) ys (suc k) x h = at_insert xs ys k x (omega (arith, h))

at_front : (xs ys : List ℤ) (i : ℕ) → i < length xs → At (xs ++ ys) i ≡ At xs i
at_front [] ys i l = absurd (omega (arith, l))
at_front (x ∷ xs) ys zero l = refl
at_front (x ∷ xs) ys (suc i) l = at_front xs ys i (omega (arith, l))

at_behind : (xs : List ℤ) (z : ℤ) (k : ℕ) → k ≡ length xs → At (xs ++ z ∷ []) k ≡ z
at_behind [] z zero e = refl
at_behind [] z (suc k) e = absurd (omega (arith, e))
at_behind (x ∷ xs) z zero e = absurd (omega (arith, e))
at_behind (x ∷ xs) z (suc k) e = at_behind xs z k (omega (arith, e))

have_more : (ys : List (List ℕ)) (xs : List ℤ) (k : ℕ) (y : List ℕ) (x : ℤ) (u : Store) → u.bounds y ≡ Some [] → u.held (cell_of y) ≡ Int x → HaveValues ys u xs
    → HaveValues (insert ys k y) u (insert xs k x)
have_more [] [] zero y x u b h a = (b, h, tt)
have_more [] [] (suc k) y x u b h a = (b, h, tt)
have_more [] (z ∷ xs) k y x u b h a = absurd a
have_more (w ∷ ys) [] k y x u b h a = absurd a
have_more (w ∷ ys) (z ∷ xs) zero y x u b h a = (b, h, a)
have_more (w ∷ ys) (z ∷ xs) (suc k) y x u b h a = (a.0, a.1, have_more ys xs k y x u b h a.2)

have_length : (ys : List (List ℕ)) (xs : List ℤ) (u : Store) → HaveValues ys u xs → length xs ≡ length ys
have_length [] [] u a = refl
have_length [] (x ∷ xs) u a = absurd a
have_length (y ∷ ys) [] u a = absurd a
have_length (y ∷ ys) (x ∷ xs) u a = ap suc (have_length ys xs u a.2)

sized_more : (xs : List ℤ) (k : ℕ) (x : ℤ) → nat_abs x ≤ 2 ^ 63 → AreSized xs → AreSized (insert xs k x)
sized_more [] zero x h a = (h, tt)
sized_more [] (suc k) x h a = (h, tt)
sized_more (z ∷ xs) zero x h a = (h, a)
sized_more (z ∷ xs) (suc k) x h a = (a.0, sized_more xs k x h a.1)

-- ---- trips

small_dropped : (d : ℕ) (cs : List ℤ) → all_small cs ≡ true → all_small (drop d cs) ≡ true
small_dropped zero [] h = refl
small_dropped zero (c ∷ cs) h = h
small_dropped (suc d) [] h = refl
small_dropped (suc d) (c ∷ cs) h = small_dropped d cs (both (is_small c) (all_small cs) h).1

known_form : (symbols : List (List ℕ)) (last : Expression) (t : Trip) → IsPreparedTrip [] symbols last t → IsKnownForm (length symbols) t.top
known_form symbols last t p =
    let one = both (all_small p.form.coefficients) (is_small p.form.constant && nat_le (not_zero (drop 0 p.form.coefficients)) 8) p.limited in
    let two = both (is_small p.form.constant) (nat_le (not_zero (drop 0 p.form.coefficients)) 8) one.1 in
    let short = p.short in
    let dropped = length-drop 0 p.form.coefficients in
    record {
      symbols = drop 0 p.form.coefficients;
      few = omega (arith, short, dropped);
      small = small_dropped 0 p.form.coefficients one.0;
      count = leb-true (not_zero (drop 0 p.form.coefficients)) 8 two.1;
      syms = p.affine.symbols;
      constant = ap is_small p.affine.constant ∙ two.0;
    }

-- of at most so many places
pub known_sized : (symbols : List (List ℕ)) (last : Expression) (t : Trip) → IsPreparedTrip [] symbols last t → IsSized t.top
known_sized symbols last t p =
    let k = known_form symbols last t p in
    let count = terms_counted 0 k.symbols in
    let few = k.count in
    let seven = p.seven in
    record {
      loops = omega (arith, seven);
      symbols = subst (λ (ts : List (ℕ × ℤ)). length ts ≤ 8) (sym k.syms) (eight_places (terms_from 0 k.symbols) (omega (arith, count, few)));
    }

-- the trip by the list into which a name has come
pub trip_comes : (symbols : List (List ℕ)) (x : List ℕ) (last : Expression) (t : Trip) → IsPreparedTrip [] symbols last t
    → IsPreparedTrip [] (with_name_placed symbols x) last (shifted_trip (place_among symbols x) t)
trip_comes symbols x last t h =
    let a = shifted_is_affine 0 (place_among symbols x) h.form t.top h.affine in
    let few = a.few in
    let short = h.short in
    let more = length_more symbols (place_among symbols x) x in
    record {
      top = shifted_is_form 0 (place_among symbols x) t.top h.top;
      form = form_with_zero (0 + place_among symbols x) h.form;
      affine = a.affine;
      limited = a.limited ∙ h.limited;
      short = omega (arith, few, short, more);
      seven = h.seven;
      divisor = h.divisor;
      by = h.by;
      positive = h.positive;
      small = h.small;
      text = h.text ∙ sym (shifted_trip_has_text [] symbols [] x t);
    }

module _ (bits : ℕ) (symbols : List (List ℕ)) (last : Expression) (t : Trip) (p : IsPreparedTrip [] symbols last t) (u : Store) (vs : List ℤ)
    (have : HaveValues symbols u vs) (sized : AreSized vs) where
  abbrev pub number : ℤ
  number = trip_number (length symbols) none_yet (At (vs ++ [])) t

  pub trip_value : value_of (sequential bits) (trip_text [] symbols [] t) u ≡ Ok (Int (trip_number (length symbols) none_yet (At (vs ++ [])) t))
  unfolding trip_text
  trip_value =
      ap (λ b. value_of (sequential bits) (quotient_text (text_of [] symbols [] t.top) b) u) p.by
      ∙ (quotient_value (sequential bits) (text_of [] symbols [] t.top) u (number_of_form (length symbols) none_yet (At (vs ++ [])) t.top) p.divisor p.positive
      (text_number (sequential bits) symbols [] (length symbols) t.top (known_form symbols last t p) u vs [] have tt sized tt)
      (number_size (length symbols) t.top (known_form symbols last t p) (vs ++ []) (subst AreSized (sym (append-nil vs)) sized))
      ∙ ap (λ b. Ok (Int (int_div (number_of_form (length symbols) none_yet (At (vs ++ [])) t.top) b))) (sym p.by))

-- ---- the last value

module _ (bits : ℕ) (symbols : List (List ℕ)) (last : Expression) (t : Trip) (p : IsPreparedTrip [] symbols last t) (d : Induction)
    (end : end_form symbols t d.name d.step ≡ Some d.end) (u : Store) (vs : List ℤ) (have : HaveValues symbols u vs) (sized : AreSized vs)
    (x0 : ℤ) (bounds : u.bounds d.name ≡ Some []) (held : u.held (cell_of d.name) ≡ Int x0) (small : nat_abs x0 ≤ 2 ^ 63) where
  abbrev k : ℕ
  k = place_among symbols d.name

  abbrev N : ℕ
  N = length symbols

  abbrev more : List (List ℕ)
  more = with_name_placed symbols d.name

  abbrev ws : List ℤ
  ws = insert vs (place_among symbols d.name) x0

  abbrev z : ℤ
  z = trip_number (length symbols) none_yet (At (vs ++ [])) t

  within : place_among symbols d.name ≤ length vs
  within = let w = place_of-within symbols d.name in let l = have_length symbols vs u have in omega (arith, w, l)

  long : length (insert vs (place_among symbols d.name) x0) ≡ length symbols + 1
  long = let l = have_length symbols vs u have in let m = length_more vs k x0 in omega (arith, l, m)

  longer : length (with_name_placed symbols d.name) ≡ length symbols + 1
  longer = length_more symbols k d.name

  have_all : HaveValues (with_name_placed symbols d.name) u (insert vs (place_among symbols d.name) x0)
  have_all = have_more symbols vs k d.name x0 u bounds held have

  sized_all : AreSized (insert vs (place_among symbols d.name) x0)
  sized_all = sized_more vs k x0 small sized

  -- by the longer list the trip has the same number
  same_number : trip_number (length (with_name_placed symbols d.name)) none_yet (At (insert vs (place_among symbols d.name) x0 ++ [])) (shifted_trip (place_among symbols d.name) t)
      ≡ trip_number (length symbols) none_yet (At (vs ++ [])) t
  same_number =
      let one = trip_value bits more last (shifted_trip k t) (trip_comes symbols d.name last t p) u ws have_all sized_all in
      let two = trip_value bits symbols last t p u vs have sized in
      let both : ◌≡◌ {A = Result Value Fault} (Ok (Int (trip_number (length more) none_yet (At (ws ++ [])) (shifted_trip k t)))) (Ok (Int z))
      = sym one ∙ (ap (λ e. value_of (sequential bits) e u) (shifted_trip_has_text [] symbols [] d.name t) ∙ two) in
      cc

  alike : (j : ℕ) → j < length (with_name_placed symbols d.name) → At (insert vs (place_among symbols d.name) x0 ++ z ∷ []) j ≡ At (insert vs (place_among symbols d.name) x0 ++ []) j
  alike j h =
      let l = long in
      let m = longer in
      at_front ws (z ∷ []) j (omega (arith, h, l, m)) ∙ sym (at_front ws [] j (omega (arith, h, l, m)))

  wide : length (with_name_placed symbols d.name) + 1 ≡ length symbols + 2
  wide = let m = longer in omega (arith, m)

  stays : number_of_form (length symbols + 2) none_yet (At (insert vs (place_among symbols d.name) x0 ++ z ∷ [])) (shifted_trip (place_among symbols d.name) t).top
      ≡ number_of_form (length (with_name_placed symbols d.name)) none_yet (At (insert vs (place_among symbols d.name) x0 ++ [])) (shifted_trip (place_among symbols d.name) t).top
  stays =
      subst (λ n. number_of_form n none_yet (At (ws ++ z ∷ [])) (shifted_trip k t).top ≡ number_of_form (length more) none_yet (At (ws ++ [])) (shifted_trip k t).top) wide
      (number_stays (length more) 1 (shifted_trip k t).top (known_form more last (shifted_trip k t) (trip_comes symbols d.name last t p)) none_yet (At (ws ++ [])) (At (ws ++ z ∷ [])) alike)

  end_number : number_of_form (length symbols + 2) none_yet (At (insert vs (place_among symbols d.name) x0 ++ z ∷ [])) d.end ≡ x0 +ℤ d.step *ℤ trip_number (length symbols) none_yet (At (vs ++ [])) t
  end_number =
      let w = within in
      let l = long in
      let m = have_length symbols vs u have in
      plus_number (N + 2) none_yet (At (ws ++ z ∷ [])) (symbol_form k) (trip_form (N + 1) (shifted_trip k t)) d.end d.step end
      ∙ ap₂ (λ a b. a +ℤ d.step *ℤ b)
      (number_of_symbol (N + 2) k (At (ws ++ z ∷ [])) (omega (arith, w, m)) ∙ at_insert vs (z ∷ []) k x0 w)
      (trip_form_number (N + 2) (N + 1) none_yet (At (ws ++ z ∷ [])) (shifted_trip k t) z (omega arith)
      (ap (λ q. int_div q t.by) stays ∙ same_number) (at_behind ws z (N + 1) (sym l)))

  -- where the trip is of 64 bits
  pub end_value : nat_abs (trip_number (length symbols) none_yet (At (vs ++ [])) t) ≤ 2 ^ 63
      → value_of (sequential bits) (induction_end_text symbols t d) u ≡ Ok (Int (x0 +ℤ d.step *ℤ trip_number (length symbols) none_yet (At (vs ++ [])) t))
  end_value few =
      text_number (sequential bits) more (trip_text [] symbols [] t ∷ []) (N + 2) d.end
      (sum_known (N + 2) (times (pos 1) (symbol_form k) ∷ times d.step (trip_form (N + 1) (shifted_trip k t)) ∷ []) d.end end)
      u ws (z ∷ []) have_all (trip_value bits symbols last t p u vs have sized, tt) sized_all (few, tt)
      ∙ ap (λ q. Ok (Int q)) end_number
