-- The texts of extents that stand on no divided one.
use Rattle.std.proofs.Common.{◌≡◌, refl, sym, ap, ap₂, ◌∙◌, subst, ℕ, zero, suc, ◌<◌, ℤ, pos, negsuc, Bool, true, false, cond, List, [], ◌∷◌, ◌++◌, map, length, Ok, Option, Some, None, arith}
use Rattle.std.specs.Prelude.{int_div, int_lt, slice_get}
use Rattle.std.specs.List.{list_all}
use Rattle.std.proofs.lemmas.Bool.Decides.{Decides-int_eq}
use Rattle.std.proofs.lemmas.List.{append-nil}
use Rattle.linear_forms.specs.Expressed.{variables, with_constant, with_term, with_terms}
use Rattle.linear_forms.specs.Laws.{AreSized, EachHasValue}
use Rattle.linear_forms.specs.Linear.{HaveValues}
use Rattle.linear_forms.specs.Texts.{text_of, with_place, with_symbols}
use Rattle.linear_forms.proofs.Sizes.{both}
use Rattle.meaning.specs.Dialect.{Dialect}
use Rattle.meaning.specs.Store.{Store}
use Rattle.meaning.specs.Value.{value_of}
use Rattle.nest.specs.Bodies.{nest_statements}
use Rattle.nest.specs.declared.parts.Trip.{Trip}
use Rattle.nest_order.specs.facts.Facts as facts
use Rattle.subscripts.specs.declared.affine.Affine.{Affine}
use Rattle.tree.specs.Plain.{Expression}
use Rattle.tree.specs.declared.ops.Value.TheVariants.{Int}
use Rattle.last_values.specs.normal_forms.Combinations.{combination, number_form, times, without_loops}
use Rattle.last_values.specs.normal_forms.Steps.{◌>>=◌}
use Rattle.last_values.specs.normal_forms.NormalLoops.{has_no_loops, is_constant, is_zero, trip_of}
use Rattle.last_values.specs.normal_forms.Numbers.{number_of_form}
use Rattle.last_values.specs.normal_forms.Texts.{quotient_text}
use Rattle.pass_laws.proofs.LastRuns.Forms.{At, IsKnownForm, number_size, quotient_value, sum_known, text_number, trip_known}
use Rattle.pass_laws.proofs.LastRuns.Pieces.{none_yet}
use Rattle.scalar_expand.specs.Extents.{extent_under, extents_under, greatest_from}
use Rattle.scalar_expand.specs.Numbers.{at_loops, number_under, numbers_under}
use Rattle.scalar_expand.specs.Privates.{names_written, private_among, round_loop, trips_of}
use Rattle.scalar_expand.specs.Texts.{made_extent_text, extent_form_text, texts_with, with_each_symbol, with_named}
use Rattle.scalar_expand.proofs.Covers.{extents_found}
use Rattle.scalar_expand.proofs.PrivateLaws.{first_begins, has_first}
use Rattle.scalar_expand.proofs.Theorems.{in_privates}
use Rattle.prepared_passes.specs.expansion.Sizes.{ExtentTextsHaveNumbers}
use Rattle.prepared_passes.proofs.ExpandedNests.Tells.{same_number, sized_symbols}
use Rattle.prepared_passes.proofs.ExpandedNests.Trips.{symbol_values}

-- ---- texts

zero_terms : (cs : List ℤ) (ts : List Expression) (o : Option Expression) → list_all is_zero cs ≡ true → with_terms o cs ts ≡ o
zero_terms [] ts o h = refl
zero_terms (c ∷ cs) [] o h = refl
zero_terms (c ∷ cs) (t ∷ ts) o h =
    let p = both (is_zero c) (list_all is_zero cs) h in
    ap (λ d. with_terms (with_term o d t) cs ts) ((Decides-int_eq c (pos 0)).0 p.0) ∙ zero_terms cs ts o p.1

one_symbol : (o : Option Expression) (c : ℤ) (symbols : List (List ℕ)) (k : ℕ) → with_named o c (slice_get symbols k) ≡ with_place o c (slice_get (variables symbols ++ []) k)
one_symbol o c [] k = refl
one_symbol o c (x ∷ symbols) zero = refl
one_symbol o c (x ∷ symbols) (suc k) = one_symbol o c symbols k

pub each_symbol : (symbols : List (List ℕ)) (ts : List (ℕ × ℤ)) (o : Option Expression) → with_each_symbol symbols o ts ≡ with_symbols o ts (variables symbols ++ [])
each_symbol symbols [] o = refl
each_symbol symbols (t ∷ ts) o =
    ap (λ (q : Option Expression). with_each_symbol symbols q ts) (one_symbol o t.1 symbols t.0) ∙ each_symbol symbols ts (with_place o t.1 (slice_get (variables symbols ++ []) t.0))

form_is_text : (symbols : List (List ℕ)) (texts : List Expression) (a : Affine) → has_no_loops a ≡ true → extent_form_text symbols texts a ≡ text_of [] symbols [] a
form_is_text symbols texts a h =
    ap (λ (o : Option Expression). with_constant o a.constant)
    (zero_terms a.loops texts (with_each_symbol symbols None a.syms) h
    ∙ (each_symbol symbols a.syms None ∙ ap (λ (o : Option Expression). with_symbols o a.syms (variables symbols ++ [])) (sym (none a.loops))))
  where
    none : (cs : List ℤ) → with_terms None cs [] ≡ None
    none [] = refl
    none (c ∷ cs) = refl

-- ---- extents

pub record IsKnown (n : ℕ) (t : Trip) : Type 0 where
  pub form : IsKnownForm n t.top
  pub divisor : ℕ
  pub by : t.by ≡ pos divisor
  pub some : 0 < divisor

abbrev pub AllKnown : ℕ → List Trip → Type 0
AllKnown n [] = Unit {0}
AllKnown n (t ∷ ts) = IsKnown n t × AllKnown n ts

known_last : (n : ℕ) (ts : List Trip) (t : Trip) → AllKnown n ts → IsKnown n t → AllKnown n (ts ++ t ∷ [])
known_last n [] t h k = (k, tt)
known_last n (s ∷ ts) t h k = (h.0, known_last n ts t h.1 k)

divided : (z : ℤ) → int_lt (pos 0) z ≡ true → (d : ℕ) × (z ≡ pos (suc d))
divided (pos zero) e = cc
divided (pos (suc d)) e = (d, refl)
divided (negsuc d) e = cc

trip_is_known : (n : ℕ) (a : Affine) (z : ℤ) → int_lt (pos 0) z ≡ true → IsKnownForm n a → IsKnown n (trip_of a z)
trip_is_known n a z h k = subst (λ (w : ℤ). IsKnown n (trip_of a w)) (sym d.1) (by (is_constant a) (trip_known n a (suc d.0) k))
  where
    d : (d : ℕ) × (z ≡ pos (suc d))
    d = divided z h

    by : (b : Bool) → IsKnownForm n (cond {A = Trip} b (record { top = number_form (int_div a.constant (pos (suc d.0))); by = pos 1 }) (record { top = a; by = pos (suc d.0) })).top
        → IsKnown n (cond {A = Trip} b (record { top = number_form (int_div a.constant (pos (suc d.0))); by = pos 1 }) (record { top = a; by = pos (suc d.0) }))
    by true f = record { form = f; divisor = 1; by = refl; some = omega arith }
    by false f = record { form = f; divisor = suc d.0; by = refl; some = omega arith }

pub extents_known : (n : ℕ) (ts us fin : List Trip) → list_all (λ (t : Trip). int_lt (pos 0) t.by) us ≡ true → extents_under n ts us ≡ Some fin → AllKnown n ts → AllKnown n fin
unfolding extent_under
extents_known n ts [] fin d h k = let same : ts ≡ fin = cc in subst (AllKnown n) same k
extents_known n ts (t ∷ us) fin d h k =
    by (combination n (greatest_from 0 t.top ts ++ times (pos 1) (without_loops t.top) ∷ [])) refl h
    (λ a f g. extents_known n (ts ++ trip_of a t.by ∷ []) us fin divisors.1 g (known_last n ts (trip_of a t.by) k (trip_is_known n a t.by divisors.0 (sum_known n (greatest_from 0 t.top ts ++ times (pos 1) (without_loops t.top) ∷ []) a f))))
  where
    divisors : (int_lt (pos 0) t.by ≡ true) × (list_all (λ (t : Trip). int_lt (pos 0) t.by) us ≡ true)
    divisors = both (int_lt (pos 0) t.by) (list_all (λ (t : Trip). int_lt (pos 0) t.by) us) d

    by : (o : Option Affine) → combination n (greatest_from 0 t.top ts ++ times (pos 1) (without_loops t.top) ∷ []) ≡ o → extents_under n ts (t ∷ us) ≡ Some fin
        → ((a : Affine) → combination n (greatest_from 0 t.top ts ++ times (pos 1) (without_loops t.top) ∷ []) ≡ Some a → extents_under n (ts ++ trip_of a t.by ∷ []) us ≡ Some fin → AllKnown n fin) → AllKnown n fin
    by None f g r =
        let bad : ◌≡◌ {A = Option (List Trip)} None (Some fin) = sym (ap (λ (o : Option Affine). (do e ← (do a ← o; Some (trip_of a t.by)); extents_under n (ts ++ e ∷ []) us)) f) ∙ g in
        cc
    by (Some a) f g r = r a f (sym (ap (λ (o : Option Affine). (do e ← (do a ← o; Some (trip_of a t.by)); extents_under n (ts ++ e ∷ []) us)) f) ∙ g)

-- ---- values

module _ (lang : Dialect) (symbols : List (List ℕ)) (values : ℕ → ℤ) (u : Store) (have : HaveValues symbols u (facts.values_from values 0 symbols)) (sized : AreSized (facts.values_from values 0 symbols)) where
  each_last : (es : List Expression) (zs : List ℤ) (e : Expression) (z : ℤ) → EachHasValue lang es u zs → value_of lang e u ≡ Ok (Int z) → EachHasValue lang (es ++ e ∷ []) u (zs ++ z ∷ [])
  each_last [] [] e z h k = (k, tt)
  each_last [] (y ∷ zs) e z h k = absurd h
  each_last (x ∷ es) [] e z h k = absurd h
  each_last (x ∷ es) (y ∷ zs) e z h k = (h.0, each_last es zs e z h.1 k)

  one_value : (texts : List Expression) (zs : List ℤ) (t : Trip) → IsKnown (length symbols) t → has_no_loops t.top ≡ true → value_of lang (made_extent_text symbols texts t) u ≡ Ok (Int (number_under (length symbols) values zs t))
  one_value texts zs t k none =
      ap₂ (λ (e : Expression) (b : ℤ). value_of lang (quotient_text e b) u) (form_is_text symbols texts t.top none) k.by
      ∙ (quotient_value lang (text_of [] symbols [] t.top) u (number_of_form (length symbols) none_yet (At (facts.values_from values 0 symbols ++ [])) t.top) k.divisor k.some
      (text_number lang symbols [] (length symbols) t.top k.form u (facts.values_from values 0 symbols) [] have tt sized tt)
      (number_size (length symbols) t.top k.form (facts.values_from values 0 symbols ++ []) (subst AreSized (sym (append-nil (facts.values_from values 0 symbols))) sized))
      ∙ ap₂ (λ (z : ℤ) (b : ℤ). Ok (Int (int_div z b))) (same_number symbols values (at_loops zs) t.top none) (sym k.by))

  all_values : (ts : List Trip) (texts : List Expression) (zs : List ℤ) → AllKnown (length symbols) ts → list_all (λ (t : Trip). has_no_loops t.top) ts ≡ true → EachHasValue lang texts u zs
      → EachHasValue lang (texts_with symbols texts ts) u (numbers_under (length symbols) values zs ts)
  all_values [] texts zs k none h = h
  all_values (t ∷ ts) texts zs k none h =
      let p = both (has_no_loops t.top) (list_all (λ (t : Trip). has_no_loops t.top) ts) none in
      all_values ts (texts ++ made_extent_text symbols texts t ∷ []) (zs ++ number_under (length symbols) values zs t ∷ []) k.1 p.1 (each_last texts zs (made_extent_text symbols texts t) (number_under (length symbols) values zs t) h (one_value texts zs t k.0 p.0))

pub extent_texts_have_numbers : ExtentTextsHaveNumbers
extent_texts_have_numbers lang m values u p distinct sized hold i alone =
    let known = in_privates m (names_written [] (nest_statements m)) p i in
    let f = has_first m p.name p (nest_statements m) known in
    let b = first_begins m p.name p f.before f.standing f.behind (ap (private_among m p.name) (sym f.splits) ∙ known) f.none f.stands in
    let e = extents_found (length m.symbols) values (trips_of (map round_loop f.standing.loops)) p.extents b.1.extents in
    all_values lang m.symbols values u (symbol_values m.symbols 0 values u distinct hold) (sized_symbols m.symbols 0 values sized) p.extents [] []
    (extents_known (length m.symbols) [] (trips_of (map round_loop f.standing.loops)) p.extents e.divisors e.under tt) alone tt
