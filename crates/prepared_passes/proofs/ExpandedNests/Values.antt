-- The texts of extents have numbers, whatever the symbols hold. An extent that stands on divided ones may be past 64
-- bits, but no sum on the way to it is larger than the size that the array was held against the limits with.
use mathlib.Core.Path.{ap₂}
use Rattle.std.proofs.Common.{◌≡◌, refl, sym, ap, ◌∙◌, subst, inl, inr, ℕ, suc, ◌+◌, ◌^◌, ◌≤◌, ◌<◌, ℤ, pos, ◌+ℤ◌, ◌*ℤ◌, neg_ℤ, Bool, true, false, cond, ◌&&◌, List, [], ◌∷◌, ◌++◌, map, length, length-append, append_assoc, Result, Ok, Option, Some, None, arith}
use Rattle.std.specs.Prelude.{int_div, int_lt, is_some, nat_abs, nat_le}
use Rattle.std.specs.List.{list_all}
use Rattle.std.proofs.lemmas.Bool.{leb-true}
use Rattle.std.proofs.lemmas.Int.{ints}
use Rattle.std.proofs.lemmas.List.{append-nil}
use Rattle.std.proofs.Math.IntN.{+ℤ_idl}
use Rattle.last_values.specs.declared.normal_forms.places.Place.TheVariants as place
use Rattle.last_values.specs.normal_forms.Combinations.{number_of_place, coefficient_in, combination, times, without_loops, zero_loops}
use Rattle.last_values.specs.normal_forms.NormalLoops.{trip_of}
use Rattle.last_values.specs.normal_forms.Numbers.{number_of_form, products}
use Rattle.last_values.specs.normal_forms.Steps.{◌>>=◌}
use Rattle.last_values.specs.normal_forms.Texts.{quotient_text}
use Rattle.linear_forms.proofs.Sizes.{both}
use Rattle.linear_forms.specs.Expressed.{with_constant, with_term, with_terms}
use Rattle.linear_forms.specs.Laws.{AreSized, EachHasValue}
use Rattle.linear_forms.specs.Linear.{HaveValues, weighted}
use Rattle.linear_forms.specs.Texts.{text_of}
use Rattle.meaning.specs.Dialect.{Dialect}
use Rattle.meaning.specs.Store.{Store}
use Rattle.meaning.specs.Value.{number_of, numbered, value_of}
use Rattle.nest.specs.Plain.{Nest}
use Rattle.nest.specs.declared.parts.Trip.{Trip}
use Rattle.nest_order.specs.facts.Facts as facts
use Rattle.nest_order.specs.orders.Lists.{In}
use Rattle.pass_laws.proofs.LastRuns.Forms.{At, IsKnownForm, abs_quotient, number_size, quotient_value, sum_known, text_number, trip_known}
use Rattle.pass_laws.proofs.LastRuns.Pieces.{none_yet}
use Rattle.pass_laws.proofs.NormalValues.Points.{products_same}
use Rattle.pass_laws.specs.prepared_nests.Made.{AreOf64Bits, HasNumberBy}
use Rattle.pass_laws.specs.prepared_nests.Nests.{IsPrepared}
use Rattle.subscripts.specs.declared.affine.Affine.{Affine}
use Rattle.tree.specs.Limits.{array_dimensions}
use Rattle.tree.specs.Plain.{Declaration, Expression}
use Rattle.tree.specs.declared.ops.Fault.{Fault}
use Rattle.tree.specs.declared.ops.Value.{Value}
use Rattle.tree.specs.declared.ops.Value.TheVariants.{Int}
use Rattle.scalar_expand.specs.Extents.{are_counted, are_few, sizes_fit, extent_form, extent_under, extents_of_trips, extents_under, greatest_from, if_few, size_under, sized, sizes_from, sizes_under}
use Rattle.scalar_expand.specs.Numbers.{at_loops, number_under, numbers_under}
use Rattle.scalar_expand.specs.Privates.{private_scalars, trips_of}
use Rattle.scalar_expand.specs.Texts.{made_extent_text, extent_texts, extent_form_text, texts_with, with_each_symbol}
use Rattle.scalar_expand.specs.declared.privates.Private.{Private}
use Rattle.scalar_expand.specs.declared.privates.RoundLoop.{RoundLoop}
use Rattle.prepared_passes.specs.expansion.Laws.{MayBeExpanded}
use Rattle.prepared_passes.proofs.ExpandedNests.ExtentForms.{trip_small, trips_small}
use Rattle.prepared_passes.proofs.ExpandedNests.ExtentSizes.{AreSizes, Stand, constant_most, next_size, nothing, placed_most, size_is, trip_most, wide}
use Rattle.prepared_passes.proofs.ExpandedNests.ExtentSizes as extents
use Rattle.prepared_passes.proofs.ExpandedNests.Round.{begins}
use Rattle.prepared_passes.proofs.ExpandedNests.Sizes.{each_symbol}
use Rattle.prepared_passes.proofs.ExpandedNests.Tells.{at_symbols, same_number, sized_symbols}
use Rattle.prepared_passes.proofs.ExpandedNests.Sums.{Sum, constant_is, with_term_is}
use Rattle.prepared_passes.proofs.ExpandedNests.Texts.{AllSmall, IsSmallTrip}
use Rattle.prepared_passes.proofs.ExpandedNests.Weights.{AreWithin, IsBound, bound_front, bound_listed, bound_none, listed, products_neg, products_nought, weighted_front, weighted_last, weighted_neg, weighted_past, weighted_zeros, within_front, within_last, within_more, within_neg, zero_front, zeros_length, zeros_of}

-- ---- one text

abbrev IsSmallValue : (ℕ → ℤ) → Type 0
IsSmallValue G = (i : ℕ) → nat_abs (G i) ≤ 2 ^ 63

half : (w p k : ℤ) (s : ℕ) → nat_abs (w +ℤ (p +ℤ k)) ≤ s → nat_abs (neg_ℤ w +ℤ (neg_ℤ p +ℤ k)) ≤ s → nat_abs (p +ℤ w) ≤ s
half w p k s h g = omega (arith, ints, h, g)

part : (w k : ℤ) (s : ℕ) → nat_abs (w +ℤ (pos 0 +ℤ k)) ≤ s → nat_abs (neg_ℤ w +ℤ (pos 0 +ℤ k)) ≤ s → nat_abs w ≤ s
part w k s h g = omega (arith, ints, h, g)

module _ (symbols : List (List ℕ)) (v : ℕ → ℤ) (small : AreOf64Bits v) where
  abbrev n : ℕ
  n = length symbols

  -- a form whose number is at most s wherever the outer extents keep their sizes
  module _ (a : Affine) (ss : List ℕ) (s : ℕ) (seven : length a.loops ≤ 7) (fits : s < 2 ^ 127) (most : (F G : ℕ → ℤ) → IsBound F 0 ss → IsSmallValue G → nat_abs (number_of_form n F G a) ≤ s) where
    abbrev P : ℤ
    P = products n 0 (λ j. number_of_place a (place.Symbol j)) v

    form_is : (ws : List ℤ) (G : ℕ → ℤ) → number_of_form n (at_loops ws) G a ≡ weighted a.loops ws +ℤ (products n 0 (λ j. number_of_place a (place.Symbol j)) G +ℤ a.constant)
    form_is ws G = ap (λ z. z +ℤ (products n 0 (λ j. number_of_place a (place.Symbol j)) G +ℤ a.constant)) (listed 7 0 a.loops ws (λ k. number_of_place a (place.Loop k)) (at_loops ws) seven (λ i. zero_front (λ k. number_of_place a (place.Loop k)) i) (λ i. zero_front (at_loops ws) i))

    bounded : (ws : List ℤ) (G : ℕ → ℤ) → AreWithin ws ss → IsSmallValue G → nat_abs (weighted a.loops ws +ℤ (products n 0 (λ j. number_of_place a (place.Symbol j)) G +ℤ a.constant)) ≤ s
    bounded ws G h g = subst (λ z. nat_abs z ≤ s) (form_is ws G) (most (at_loops ws) G (bound_listed (at_loops ws) 0 ws ss (λ i. zero_front (at_loops ws) i) h) g)

    neg_small : IsSmallValue (λ i. neg_ℤ (v i))
    neg_small i = same (v i) (small i)
      where
        same : (z : ℤ) → nat_abs z ≤ 2 ^ 63 → nat_abs (neg_ℤ z) ≤ 2 ^ 63
        same z e = omega (arith, ints, e)

    -- a sum so far
    sum_most : (ws : List ℤ) → AreWithin ws ss → nat_abs (P +ℤ weighted a.loops ws) ≤ s
    sum_most ws h =
        half (weighted a.loops ws) P a.constant s (bounded ws v h small)
        (subst (λ z. nat_abs z ≤ s) (ap₂ (λ x y. x +ℤ (y +ℤ a.constant)) (weighted_neg a.loops ws) (products_neg n 0 (λ j. number_of_place a (place.Symbol j)) v)) (bounded (map neg_ℤ ws) (λ i. neg_ℤ (v i)) (within_neg ws ss h) neg_small))

    none_small : IsSmallValue nothing
    none_small i = omega arith

    term_most : (front cs ws : List ℤ) (c z : ℤ) → a.loops ≡ front ++ c ∷ cs → length front ≡ length ws → AreWithin (ws ++ z ∷ []) ss → nat_abs (c *ℤ z) ≤ s
    term_most front cs ws c z e l h =
        let ones : List ℤ = zeros_of ws ++ z ∷ [] in
        let inside : AreWithin ones ss = within_last ws z ss h in
        let alone : weighted a.loops ones ≡ c *ℤ z = ap (λ ls. weighted ls ones) e ∙ (weighted_last front cs (zeros_of ws) c z (l ∙ sym (zeros_length ws)) ∙ (ap (λ x. x +ℤ c *ℤ z) (weighted_zeros front ws) ∙ +ℤ_idl (c *ℤ z))) in
        let none = products_nought n 0 (λ j. number_of_place a (place.Symbol j)) in
        part (c *ℤ z) a.constant s
        (subst (λ x. nat_abs x ≤ s) (ap₂ (λ x y. x +ℤ (y +ℤ a.constant)) alone none) (bounded ones nothing inside none_small))
        (subst (λ x. nat_abs x ≤ s) (ap₂ (λ x y. x +ℤ (y +ℤ a.constant)) (weighted_neg a.loops ones ∙ ap neg_ℤ alone) none) (bounded (map neg_ℤ ones) nothing (within_neg ones ss inside) none_small))

    module _ (lang : Dialect) (u : Store) where
      terms_sum : (front cs done : List ℤ) (o : Option Expression) (ts : List Expression) (zs : List ℤ) → a.loops ≡ front ++ cs → length front ≡ length done → AreWithin (done ++ zs) ss → Sum lang u o (P +ℤ weighted a.loops done)
          → EachHasValue lang ts u zs → Sum lang u (with_terms o cs ts) (P +ℤ weighted a.loops (done ++ zs))
      terms_sum front [] done o ts zs e l h sum values =
          let whole : a.loops ≡ front = e ∙ append-nil front in
          subst (λ x. Sum lang u o (P +ℤ x)) (sym (ap (λ ls. weighted ls (done ++ zs)) whole ∙ (weighted_past front done zs l ∙ sym (ap (λ ls. weighted ls done) whole)))) sum
      terms_sum front (c ∷ cs) done o [] [] e l h sum values = subst (λ ws. Sum lang u o (P +ℤ weighted a.loops ws)) (sym (append-nil done)) sum
      terms_sum front (c ∷ cs) done o [] (z ∷ zs) e l h sum values = absurd values
      terms_sum front (c ∷ cs) done o (t ∷ ts) [] e l h sum values = absurd values
      terms_sum front (c ∷ cs) done o (t ∷ ts) (z ∷ zs) e l h sum values =
          let assoc : (done ++ z ∷ []) ++ zs ≡ done ++ z ∷ zs = append_assoc done (z ∷ []) zs in
          let all : AreWithin ((done ++ z ∷ []) ++ zs) ss = subst (λ ws. AreWithin ws ss) (sym assoc) h in
          let here : AreWithin (done ++ z ∷ []) ss = within_front (done ++ z ∷ []) zs ss all in
          let same : P +ℤ weighted a.loops (done ++ z ∷ []) ≡ (P +ℤ weighted a.loops done) +ℤ c *ℤ z =
          ap (λ x. P +ℤ x) (ap (λ ls. weighted ls (done ++ z ∷ [])) e ∙ (weighted_last front cs done c z l ∙ sym (ap (λ x. x +ℤ c *ℤ z) (ap (λ ls. weighted ls done) e ∙ weighted_front front (c ∷ cs) done [] l))))
          ∙ grouped P (weighted a.loops done) (c *ℤ z) in
          let term = term_most front cs done c z e l here in
          let so_far = sum_most (done ++ z ∷ []) here in
          let one = with_term_is lang u o (P +ℤ weighted a.loops done) c t z sum values.0 (under (nat_abs (c *ℤ z)) term) (under (nat_abs ((P +ℤ weighted a.loops done) +ℤ c *ℤ z)) (subst (λ x. nat_abs x ≤ s) same so_far)) in
          subst (λ ws. Sum lang u (with_terms (with_term o c t) cs ts) (P +ℤ weighted a.loops ws)) assoc
          (terms_sum (front ++ c ∷ []) cs (done ++ z ∷ []) (with_term o c t) ts zs (e ∙ sym (append_assoc front (c ∷ []) cs)) (longer front done c z l) all (subst (Sum lang u (with_term o c t)) (sym same) one) values.1)
        where
          under : (x : ℕ) → x ≤ s → x < 2 ^ 127
          under x h = omega (arith, h, fits)

          grouped : (x y z : ℤ) → x +ℤ (y +ℤ z) ≡ (x +ℤ y) +ℤ z
          grouped x y z = omega (arith, ints)

          longer : (xs ys : List ℤ) (x y : ℤ) → length xs ≡ length ys → length (xs ++ x ∷ []) ≡ length (ys ++ y ∷ [])
          longer xs ys x y e = let p = length-append xs (x ∷ []) in let q = length-append ys (y ∷ []) in omega (arith, p, q, e)

      symbols_sum : HaveValues symbols u (facts.values_from v 0 symbols) → IsKnownForm n a → Sum lang u (with_each_symbol symbols None a.syms) P
      symbols_sum have k = by (with_each_symbol symbols None a.syms) refl
        where
          bare : Affine
          bare = record { loops = zero_loops; syms = a.syms; constant = pos 0 }

          known : IsKnownForm n bare
          known = record { symbols = k.symbols; few = k.few; small = k.small; count = k.count; syms = k.syms; constant = refl }

          number_is : number_of_form n none_yet (At (facts.values_from v 0 symbols ++ [])) bare ≡ P
          number_is = same_number symbols v nothing bare refl ∙ (extents.loopless n nothing v a.syms (pos 0) ∙ zeros P)
            where
              zeros : (z : ℤ) → z +ℤ pos 0 ≡ z
              zeros z = omega (arith, ints)

          text_is : text_of [] symbols [] bare ≡ with_constant (with_each_symbol symbols None a.syms) (pos 0)
          text_is = ap (λ o. with_constant o (pos 0)) (sym (each_symbol symbols a.syms None))

          value : value_of lang (with_constant (with_each_symbol symbols None a.syms) (pos 0)) u ≡ Ok (Int P)
          value =
              sym (ap (λ e. value_of lang e u) text_is)
              ∙ (text_number lang symbols [] n bare known u (facts.values_from v 0 symbols) [] have tt (sized_symbols symbols 0 v small) tt ∙ ap (λ z. Ok (Int z)) number_is)

          by : (o : Option Expression) → with_each_symbol symbols None a.syms ≡ o → Sum lang u o P
          by None e = let same : ◌≡◌ {A = Result Value Fault} (Ok (Int (pos 0))) (Ok (Int P)) = sym (ap (λ o. value_of lang (with_constant o (pos 0)) u) e) ∙ value in inner same
            where
              inner : ◌≡◌ {A = Result Value Fault} (Ok (Int (pos 0))) (Ok (Int P)) → P ≡ pos 0
              inner e = let same : pos 0 ≡ P = cc in sym same
          by (Some e) f = sym (ap (λ o. value_of lang (with_constant o (pos 0)) u) f) ∙ value

      form_value : HaveValues symbols u (facts.values_from v 0 symbols) → IsKnownForm n a → (texts : List Expression) (zs : List ℤ) → AreWithin zs ss → EachHasValue lang texts u zs
          → value_of lang (extent_form_text symbols texts a) u ≡ Ok (Int (number_of_form n (at_loops zs) v a))
      form_value have k texts zs h values =
          let o = with_each_symbol symbols None a.syms in
          let start : Sum lang u o (P +ℤ weighted a.loops []) = subst (Sum lang u o) (sym (none a.loops)) (symbols_sum have k) in
          let sum = terms_sum [] a.loops [] o texts zs refl refl h start values in
          let same : (P +ℤ weighted a.loops zs) +ℤ a.constant ≡ number_of_form n (at_loops zs) v a = turned P (weighted a.loops zs) a.constant ∙ sym (form_is zs v) in
          let constant = constant_most_of in
          let whole = most (at_loops zs) v (bound_listed (at_loops zs) 0 zs ss (λ i. zero_front (at_loops zs) i) h) small in
          constant_is lang u (with_terms o a.loops texts) (P +ℤ weighted a.loops zs) a.constant sum (omega (arith, constant, fits)) (subst (λ x. nat_abs x < 2 ^ 127) (sym same) (omega (arith, whole, fits)))
          ∙ ap (λ z. Ok (Int z)) same
        where
          none : (cs : List ℤ) → P +ℤ weighted cs [] ≡ P
          none [] = zeros P
            where
              zeros : (z : ℤ) → z +ℤ pos 0 ≡ z
              zeros z = omega (arith, ints)
          none (c ∷ cs) = zeros P
            where
              zeros : (z : ℤ) → z +ℤ pos 0 ≡ z
              zeros z = omega (arith, ints)

          turned : (x y z : ℤ) → (x +ℤ y) +ℤ z ≡ y +ℤ (x +ℤ z)
          turned x y z = omega (arith, ints)

          constant_most_of : nat_abs a.constant ≤ s
          constant_most_of =
              subst (λ x. nat_abs x ≤ s) (ap₂ (λ x y. x +ℤ (y +ℤ a.constant)) (listed 7 0 a.loops [] (λ k. number_of_place a (place.Loop k)) nothing seven (λ i. zero_front (λ k. number_of_place a (place.Loop k)) i) (λ i. refl) ∙ weighted_nil a.loops) (products_nought n 0 (λ j. number_of_place a (place.Symbol j))) ∙ zeros a.constant)
              (most nothing nothing (bound_none 0 ss) none_small)
            where
              weighted_nil : (cs : List ℤ) → weighted cs [] ≡ pos 0
              weighted_nil [] = refl
              weighted_nil (c ∷ cs) = refl

              zeros : (z : ℤ) → pos 0 +ℤ (pos 0 +ℤ z) ≡ z
              zeros z = omega (arith, ints)

  -- ---- all extents

  -- these extents and sizes so far
  record AreSo (ts : List Trip) (fs : List Affine) (ss : List ℕ) : Type 0 where
    sizes : AreSizes n fs ss
    many : length ss ≡ length ts
    stand : (F G : ℕ → ℤ) → IsBound F 0 ss → IsSmallValue G → Stand n F G 0 ts ss

  abbrev Values : List Expression → List ℤ → Type 0
  Values texts zs = (lang : Dialect) (u : Store) → HaveValues symbols u (facts.values_from v 0 symbols) → EachHasValue lang texts u zs

  stand_last : (F G : ℕ → ℤ) (k : ℕ) (ts : List Trip) (ss : List ℕ) (t : Trip) (s : ℕ) → Stand n F G k ts ss → nat_abs (number_of_form n F G (extent_form (k + length ss) t)) ≤ s → Stand n F G k (ts ++ t ∷ []) (ss ++ s ∷ [])
  stand_last F G k [] [] t s h g = (subst (λ j. nat_abs (number_of_form n F G (extent_form j t)) ≤ s) (let e : k + 0 ≡ k = omega arith in e) g, tt)
  stand_last F G k [] (x ∷ ss) t s h g = absurd h
  stand_last F G k (y ∷ ts) [] t s h g = absurd h
  stand_last F G k (y ∷ ts) (x ∷ ss) t s h g =
      (h.0, stand_last F G (k + 1) ts ss t s h.1 (subst (λ j. nat_abs (number_of_form n F G (extent_form j t)) ≤ s) (let e : k + suc (length ss) ≡ (k + 1) + length ss = omega arith in e) g))

  sizes_last : (fs : List Affine) (ss : List ℕ) (f : Affine) (s : ℕ) → AreSizes n fs ss → number_of_form n nothing wide f ≡ pos s → AreSizes n (fs ++ f ∷ []) (ss ++ s ∷ [])
  sizes_last [] [] f s h e = (e, tt)
  sizes_last [] (x ∷ ss) f s h e = absurd h
  sizes_last (g ∷ fs) [] f s h e = absurd h
  sizes_last (g ∷ fs) (x ∷ ss) f s h e = (h.0, sizes_last fs ss f s h.1 e)

  values_last : (lang : Dialect) (u : Store) (texts : List Expression) (zs : List ℤ) (e : Expression) (z : ℤ) → EachHasValue lang texts u zs → value_of lang e u ≡ Ok (Int z) → EachHasValue lang (texts ++ e ∷ []) u (zs ++ z ∷ [])
  values_last lang u [] [] e z h k = (k, tt)
  values_last lang u [] (y ∷ zs) e z h k = absurd h
  values_last lang u (x ∷ texts) [] e z h k = absurd h
  values_last lang u (x ∷ texts) (y ∷ zs) e z h k = (h.0, values_last lang u texts zs e z h.1 k)

  texts_last : (texts : List Expression) (ts : List Trip) (t : Trip) → texts_with symbols texts (ts ++ t ∷ []) ≡ texts_with symbols texts ts ++ made_extent_text symbols (texts_with symbols texts ts) t ∷ []
  texts_last texts [] t = refl
  texts_last texts (s ∷ ts) t = texts_last (texts ++ made_extent_text symbols texts s ∷ []) ts t

  numbers_last : (zs : List ℤ) (ts : List Trip) (t : Trip) → numbers_under n v zs (ts ++ t ∷ []) ≡ numbers_under n v zs ts ++ number_under n v (numbers_under n v zs ts) t ∷ []
  numbers_last zs [] t = refl
  numbers_last zs (s ∷ ts) t = numbers_last (zs ++ number_under n v zs s ∷ []) ts t

  wide_small : AreOf64Bits wide
  wide_small k = omega arith

  size_fits : (f : Affine) (s : ℕ) → IsKnownForm n f → number_of_form n nothing wide f ≡ pos s → s < 2 ^ 127
  size_fits f s k e =
      let most = number_size n f k (facts.values_from wide 0 symbols ++ []) (subst AreSized (sym (append-nil (facts.values_from wide 0 symbols))) (sized_symbols symbols 0 wide wide_small)) in
      let same : number_of_form n none_yet (At (facts.values_from wide 0 symbols ++ [])) f ≡ pos s =
      ap (λ q. products 7 0 (λ k. number_of_place f (place.Loop k)) none_yet +ℤ (q +ℤ f.constant))
      (products_same n 0 (λ j. coefficient_in f.syms j) (At (facts.values_from wide 0 symbols ++ [])) wide (λ i k. at_symbols symbols 0 wide i (omega (arith, k)) ∙ ap wide (let e : 0 + i ≡ i = omega arith in e))) ∙ e in
      let small_size : nat_abs (pos s) < 2 ^ 127 = subst (λ z. nat_abs z < 2 ^ 127) same most in
      small_size

  record IsFar (fin : List Trip) : Type 0 where
    values : Values (texts_with symbols [] fin) (numbers_under n v [] fin)
    many : length (texts_with symbols [] fin) ≡ length (numbers_under n v [] fin)

  run : (us ts fin : List Trip) (fs gs : List Affine) (ss : List ℕ) → AllSmall us → AreSo ts fs ss → length ts + length us ≤ 7 → AreWithin (numbers_under n v [] ts) ss → length (numbers_under n v [] ts) ≡ length ss
      → length (texts_with symbols [] ts) ≡ length (numbers_under n v [] ts) → Values (texts_with symbols [] ts) (numbers_under n v [] ts) → extents_under n ts us ≡ Some fin → sizes_under n fs us ≡ Some gs → IsFar fin
  unfolding extent_under size_under
  run [] ts fin fs gs ss d so few within long many values e g = let same : ts ≡ fin = cc in subst IsFar same (record { values = values; many = many })
  run (b ∷ us) ts fin fs gs ss d so few within long many values e g =
      by (combination n (greatest_from 0 b.top ts ++ times (pos 1) (without_loops b.top) ∷ [])) refl e
      (λ a f h. other (combination n (sizes_from 0 b.top fs ++ times (pos 1) (sized b.top) ∷ [])) refl g
      (λ c k l. run us (ts ++ trip_of a b.by ∷ []) fin (fs ++ c ∷ []) gs (ss ++ s ∷ []) d.1 (so_next a f c k) (few_next a) (within_next a f) (long_next a) (many_next a) (values_next a f c k) h l))
    where
      zs : List ℤ
      zs = numbers_under n v [] ts

      texts : List Expression
      texts = texts_with symbols [] ts

      s : ℕ
      s = next_size n b.top ss

      Form : Affine → Type 0
      Form a = combination n (greatest_from 0 b.top ts ++ times (pos 1) (without_loops b.top) ∷ []) ≡ Some a

      Size : Affine → Type 0
      Size c = combination n (sizes_from 0 b.top fs ++ times (pos 1) (sized b.top) ∷ []) ≡ Some c

      small_t : (a : Affine) → Form a → IsSmallTrip (trip_of a b.by)
      small_t a f = trip_small n (greatest_from 0 b.top ts ++ times (pos 1) (without_loops b.top) ∷ []) a b f d.0

      number_c : (c : Affine) → Size c → number_of_form n nothing wide c ≡ pos s
      number_c c k = size_is n b.top c fs ss d.0.top d.0.sized so.sizes k

      constant : (a : Affine) → Form a → nat_abs a.constant ≤ s
      constant a f = constant_most n b.top a ts ss (so.stand nothing nothing (bound_none 0 ss) (λ i. omega arith)) f

      top : (a : Affine) → Form a → (F G : ℕ → ℤ) → IsBound F 0 ss → IsSmallValue G → nat_abs (number_of_form n F G (trip_of a b.by).top) ≤ s
      top a f F G bound small_g =
          subst (λ z. nat_abs (number_of_form n F G (trip_of a z).top) ≤ s) (sym d.0.by) (trip_most n F G b.top a d.0.divisor ts ss small_g (so.stand F G bound small_g) f (constant a f))

      inside : (a : Affine) → Form a → nat_abs (number_of_form n (at_loops zs) v (trip_of a b.by).top) ≤ s
      inside a f = top a f (at_loops zs) v (bound_listed (at_loops zs) 0 zs ss (λ i. zero_front (at_loops zs) i) within) small

      number_t : (a : Affine) → Form a → nat_abs (number_under n v zs (trip_of a b.by)) ≤ s
      number_t a f =
          let t = small_t a f in
          let less = abs_quotient (number_of_form n (at_loops zs) v (trip_of a b.by).top) t.divisor in
          let most = inside a f in
          subst (λ z. nat_abs (int_div (number_of_form n (at_loops zs) v (trip_of a b.by).top) z) ≤ s) (sym t.by) (omega (arith, less, most))

      fits : (c : Affine) → Size c → s < 2 ^ 127
      fits c k = size_fits c s (sum_known n (sizes_from 0 b.top fs ++ times (pos 1) (sized b.top) ∷ []) c k) (number_c c k)

      known_t : (a : Affine) → Form a → IsKnownForm n (trip_of a b.by).top
      known_t a f = subst (λ z. IsKnownForm n (trip_of a z).top) (sym d.0.by) (trip_known n a d.0.divisor (sum_known n (greatest_from 0 b.top ts ++ times (pos 1) (without_loops b.top) ∷ []) a f))

      one : (a : Affine) → Form a → (c : Affine) → Size c → (lang : Dialect) (u : Store) → HaveValues symbols u (facts.values_from v 0 symbols) → value_of lang (made_extent_text symbols texts (trip_of a b.by)) u ≡ Ok (Int (number_under n v zs (trip_of a b.by)))
      one a f c k lang u have =
          let t = small_t a f in
          let positive = t.positive in
          let most = inside a f in
          let limit = fits c k in
          subst (λ z. value_of lang (quotient_text (extent_form_text symbols texts (trip_of a b.by).top) z) u ≡ Ok (Int (int_div (number_of_form n (at_loops zs) v (trip_of a b.by).top) z))) (sym t.by)
          (quotient_value lang (extent_form_text symbols texts (trip_of a b.by).top) u (number_of_form n (at_loops zs) v (trip_of a b.by).top) t.divisor (omega (arith, positive))
          (form_value (trip_of a b.by).top ss s t.sized.loops limit (top a f) lang u have (known_t a f) texts zs within (values lang u have))
          (omega (arith, most, limit)))

      so_next : (a : Affine) → Form a → (c : Affine) → Size c → AreSo (ts ++ trip_of a b.by ∷ []) (fs ++ c ∷ []) (ss ++ s ∷ [])
      so_next a f c k = record {
        sizes = sizes_last fs ss c s so.sizes (number_c c k);
        many = (let p = length-append ss (s ∷ []) in let q = length-append ts (trip_of a b.by ∷ []) in let r = so.many in omega (arith, p, q, r));
        stand = λ F G bound small_g. (let p = bound_front F 0 ss s bound in
            stand_last F G 0 ts ss (trip_of a b.by) s (so.stand F G p.0 small_g)
            (placed_most n F G (0 + length ss) (trip_of a b.by) s (let r = so.many in omega (arith, r, few)) (top a f F G p.0 small_g) p.1));
      }

      few_next : (a : Affine) → length (ts ++ trip_of a b.by ∷ []) + length us ≤ 7
      few_next a = let q = length-append ts (trip_of a b.by ∷ []) in omega (arith, q, few)

      within_next : (a : Affine) → Form a → AreWithin (numbers_under n v [] (ts ++ trip_of a b.by ∷ [])) (ss ++ s ∷ [])
      within_next a f = subst (λ ws. AreWithin ws (ss ++ s ∷ [])) (sym (numbers_last [] ts (trip_of a b.by))) (within_more zs ss (number_under n v zs (trip_of a b.by)) s long within (number_t a f))

      long_next : (a : Affine) → length (numbers_under n v [] (ts ++ trip_of a b.by ∷ [])) ≡ length (ss ++ s ∷ [])
      long_next a =
          let last : length (numbers_under n v [] (ts ++ trip_of a b.by ∷ [])) ≡ length (zs ++ number_under n v zs (trip_of a b.by) ∷ []) = ap (λ (ws : List ℤ). length ws) (numbers_last [] ts (trip_of a b.by)) in
          let p = length-append zs (number_under n v zs (trip_of a b.by) ∷ []) in
          let q = length-append ss (s ∷ []) in
          omega (arith, last, p, q, long)

      many_next : (a : Affine) → length (texts_with symbols [] (ts ++ trip_of a b.by ∷ [])) ≡ length (numbers_under n v [] (ts ++ trip_of a b.by ∷ []))
      many_next a =
          let first : length (texts_with symbols [] (ts ++ trip_of a b.by ∷ [])) ≡ length (texts ++ made_extent_text symbols texts (trip_of a b.by) ∷ []) = ap (λ (es : List Expression). length es) (texts_last [] ts (trip_of a b.by)) in
          let last : length (numbers_under n v [] (ts ++ trip_of a b.by ∷ [])) ≡ length (zs ++ number_under n v zs (trip_of a b.by) ∷ []) = ap (λ (ws : List ℤ). length ws) (numbers_last [] ts (trip_of a b.by)) in
          let p = length-append texts (made_extent_text symbols texts (trip_of a b.by) ∷ []) in
          let q = length-append zs (number_under n v zs (trip_of a b.by) ∷ []) in
          omega (arith, first, last, p, q, many)

      values_next : (a : Affine) → Form a → (c : Affine) → Size c → Values (texts_with symbols [] (ts ++ trip_of a b.by ∷ [])) (numbers_under n v [] (ts ++ trip_of a b.by ∷ []))
      values_next a f c k =
          subst (λ es. Values es (numbers_under n v [] (ts ++ trip_of a b.by ∷ []))) (sym (texts_last [] ts (trip_of a b.by)))
          (subst (λ ws. Values (texts ++ made_extent_text symbols texts (trip_of a b.by) ∷ []) ws) (sym (numbers_last [] ts (trip_of a b.by)))
          (λ lang u have. values_last lang u texts zs (made_extent_text symbols texts (trip_of a b.by)) (number_under n v zs (trip_of a b.by)) (values lang u have) (one a f c k lang u have)))

      other : (o : Option Affine) → combination n (sizes_from 0 b.top fs ++ times (pos 1) (sized b.top) ∷ []) ≡ o → sizes_under n fs (b ∷ us) ≡ Some gs
          → ((c : Affine) → combination n (sizes_from 0 b.top fs ++ times (pos 1) (sized b.top) ∷ []) ≡ Some c → sizes_under n (fs ++ c ∷ []) us ≡ Some gs → IsFar fin) → IsFar fin
      other None f q r =
          let bad : ◌≡◌ {A = Option (List Affine)} None (Some gs) = sym (ap (λ (o : Option Affine). (do c ← o; sizes_under n (fs ++ c ∷ []) us)) f) ∙ q in
          cc
      other (Some c) f q r = r c f (sym (ap (λ (o : Option Affine). (do c ← o; sizes_under n (fs ++ c ∷ []) us)) f) ∙ q)

      by : (o : Option Affine) → combination n (greatest_from 0 b.top ts ++ times (pos 1) (without_loops b.top) ∷ []) ≡ o → extents_under n ts (b ∷ us) ≡ Some fin
          → ((a : Affine) → combination n (greatest_from 0 b.top ts ++ times (pos 1) (without_loops b.top) ∷ []) ≡ Some a → extents_under n (ts ++ trip_of a b.by ∷ []) us ≡ Some fin → IsFar fin) → IsFar fin
      by None f q r =
          let bad : ◌≡◌ {A = Option (List Trip)} None (Some fin) = sym (ap (λ (o : Option Affine). (do e ← (do a ← o; Some (trip_of a b.by)); extents_under n (ts ++ e ∷ []) us)) f) ∙ q in
          cc
      by (Some a) f q r = r a f (sym (ap (λ (o : Option Affine). (do e ← (do a ← o; Some (trip_of a b.by)); extents_under n (ts ++ e ∷ []) us)) f) ∙ q)

-- ---- what is asked of the trips of an array's loops

record AreKept (n : ℕ) (us es : List Trip) : Type 0 where
  few : length us ≤ 7
  extents_are : extents_under n [] us ≡ Some es
  sizes : List Affine
  sizes_are : sizes_under n [] us ≡ Some sizes

kept_of : (n : ℕ) (us es : List Trip) → extents_of_trips n us ≡ Some es → AreKept n us es
unfolding extents_of_trips
kept_of n us es e = by (are_counted us && sizes_fit n us) refl e
  where
    chosen : (o : Option (List Trip)) → extents_under n [] us ≡ o → (o >>= if_few) ≡ Some es → extents_under n [] us ≡ Some es
    chosen None f g = cc
    chosen (Some ts) f g = few (are_few ts) g
      where
        few : (b : Bool) → ◌≡◌ {A = Option (List Trip)} (cond b (Some ts) None) (Some es) → extents_under n [] us ≡ Some es
        few true h = f ∙ h
        few false h = cc

    some : (o : Option (List Affine)) → sizes_under n [] us ≡ o → is_some o ≡ true → (gs : List Affine) × (sizes_under n [] us ≡ Some gs)
    some None f h = cc
    some (Some gs) f h = (gs, f)

    by : (b : Bool) → (are_counted us && sizes_fit n us) ≡ b → cond b (extents_under n [] us >>= if_few) None ≡ Some es → AreKept n us es
    by true f g =
        let c = both (are_counted us) (sizes_fit n us) f in
        let d = both (nat_le (length us) array_dimensions) (list_all (λ (t : Trip). int_lt (pos 0) t.by) us) c.0 in
        let w = some (sizes_under n [] us) refl c.1 in
        record { few = leb-true (length us) array_dimensions d.0; extents_are = chosen (extents_under n [] us) refl g; sizes = w.0; sizes_are = w.1 }
    by false f g = cc

record IsPicked (symbols : List (List ℕ)) (v : ℕ → ℤ) (texts : List Expression) (zs : List ℤ) (e : Expression) : Type 0 where
  number : ℤ
  value : (lang : Dialect) (u : Store) → EachHasValue lang texts u zs → value_of lang e u ≡ Ok (Int number)

pick : (symbols : List (List ℕ)) (v : ℕ → ℤ) (texts : List Expression) (zs : List ℤ) (e : Expression) → length texts ≡ length zs → In e texts → IsPicked symbols v texts zs e
pick symbols v [] zs e l i = absurd i
pick symbols v (t ∷ texts) [] e l i = absurd (omega (arith, l))
pick symbols v (t ∷ texts) (z ∷ zs) e l (inl f) = record { number = z; value = λ lang u h. ap (λ x. value_of lang x u) f ∙ h.0 }
pick symbols v (t ∷ texts) (z ∷ zs) e l (inr i) = let r = pick symbols v texts zs e (omega (arith, l)) i in record { number = r.number; value = λ lang u h. r.value lang u h.1 }

as_number : (lang : Dialect) (e : Expression) (u : Store) (z : ℤ) → value_of lang e u ≡ Ok (Int z) → number_of lang e u ≡ Ok z
as_number lang e u z h = ap numbered h

-- the texts of extents have numbers, where the trips are small
pub texts_have_numbers : (symbols : List (List ℕ)) (us es : List Trip) → extents_of_trips (length symbols) us ≡ Some es → AllSmall us → (v : ℕ → ℤ) → AreOf64Bits v → (e : Expression)
    → In e (extent_texts symbols es) → (z : ℤ) × HasNumberBy symbols v e z
texts_have_numbers symbols us es e small v sized a j =
    let kept = kept_of (length symbols) us es e in
    let far = run symbols v sized us [] es [] kept.sizes [] small (record { sizes = tt; many = refl; stand = λ F G bound small. tt }) (let few = kept.few in omega (arith, few)) tt refl refl
    (λ lang u have. tt) kept.extents_are kept.sizes_are in
    let r = pick symbols v (extent_texts symbols es) (numbers_under (length symbols) v [] es) a far.many j in
    (r.number, λ lang u have. as_number lang a u r.number (r.value lang u (far.values lang u have)))

pub extent_has_value : (es : List Declaration) (around : List (List ℕ)) (deepest : ℕ) (m : Nest) (h : IsPrepared es around deepest m) (may : MayBeExpanded es m) (p : Private) → In p (private_scalars m)
    → (v : ℕ → ℤ) → AreOf64Bits v → (e : Expression) → In e (extent_texts m.symbols p.extents) → (z : ℤ) × HasNumberBy m.symbols v e z
extent_has_value es around deepest m h may p i v sized e j =
    let b = begins es around deepest m h may p i in
    texts_have_numbers m.symbols (trips_of p.loops) p.extents (ap (λ (ls : List RoundLoop). extents_of_trips (length m.symbols) (trips_of ls)) b.2.loops ∙ b.2.extents)
    (trips_small es around deepest m h may p i) v sized e j
