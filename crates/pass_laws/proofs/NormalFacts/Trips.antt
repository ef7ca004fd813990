-- The text of a loop's trip has the number and the form of the trip.
use mathlib.Core.Path.{ap₂}
use Rattle.std.proofs.Common.{◌≡◌, refl, sym, ap, ◌∙◌, subst, inl, inr, ℕ, zero, suc, ◌≤◌, ℤ, pos, negsuc, neg_ℤ}
use Rattle.std.proofs.Common.{Bool, true, false, cond, List, [], ◌∷◌, ◌++◌, map, drop, length, length-append, Some}
use Rattle.std.proofs.Common.{append-nil, arith}
use Rattle.std.specs.Ordering.{int_eq}
use Rattle.std.specs.Prelude.{int_div}
use Rattle.std.proofs.Math.Nat.{div-one}
use Rattle.std.proofs.lemmas.Bool.Decides.{Decides-int_eq}
use Rattle.std.proofs.lemmas.List.{length-map}
use Rattle.dependence_graph.proofs.dep_graph.FormValues.{affine_value}
use Rattle.dependence_graph.proofs.dep_graph.Places.{form_short}
use Rattle.emission.specs.emission_forms.Written.{IsTripText}
use Rattle.tree.specs.Plain.{Expression, Number, Binary}
use Rattle.tree.specs.declared.ops.Op.TheVariants.{Div}
use Rattle.linear_forms.proofs.AffineTexts.{affine_has_text}
use Rattle.linear_forms.specs.CanonicalLaws.{AreDistinct}
use Rattle.linear_forms.specs.Expressed.{expressed, variables}
use Rattle.linear_forms.specs.Linear.{Form, number_at, form_of}
use Rattle.linear_forms.specs.Places.{padded, terms_from}
use Rattle.linear_forms.specs.Affines.{IsAffineOf}
use Rattle.linear_forms.specs.Texts.{text_of}
use Rattle.nest_order.specs.facts.Facts.{values_from, places_of, HasTrip}
use Rattle.dependence_graph.specs.nest_graph.Instances.{turns_at}
use Rattle.dependence_graph.specs.nest_graph.Touched as touched
use Rattle.nest.specs.declared.parts.Trip.{Trip}
use Rattle.last_values.specs.normal_forms.Texts.{quotient_text, trip_text}
use Rattle.pass_laws.proofs.NormalNests.Combined.{front_alike}
use Rattle.subscripts.specs.Forms.{value_at}
use Rattle.subscripts.specs.declared.affine.Affine.{Affine}
use Rattle.pass_laws.proofs.NormalFacts.Coefficients.{AreAlike, drop_alike}
use Rattle.pass_laws.proofs.NormalFacts.LoopLimits.{HasTop}
use Rattle.pass_laws.proofs.NormalFacts.TextForms.{text_has_form, form_of_text}

-- ---- forms whose coefficients are alike

terms_alike : (o : ℕ) (cs ds : List ℤ) → AreAlike cs ds → terms_from o cs ≡ terms_from o ds
terms_alike o [] [] h = refl
terms_alike o [] (d ∷ ds) h =
    terms_alike (suc o) [] ds (λ k. h (suc k)) ∙ ap (λ z. cond (int_eq z (pos 0)) (terms_from (suc o) ds) ((o, z) ∷ terms_from (suc o) ds)) (h zero)
terms_alike o (c ∷ cs) [] h =
    ap (λ z. cond (int_eq z (pos 0)) (terms_from (suc o) cs) ((o, z) ∷ terms_from (suc o) cs)) (h zero) ∙ terms_alike (suc o) cs [] (λ k. h (suc k))
terms_alike o (c ∷ cs) (d ∷ ds) h =
    ap₂ (λ (z : ℤ) (ts : List (ℕ × ℤ)). cond (int_eq z (pos 0)) ts ((o, z) ∷ ts)) (h zero) (terms_alike (suc o) cs ds (λ k. h (suc k)))

affine_alike : (d : ℕ) (f g : Form) (a : Affine) → AreAlike g.coefficients f.coefficients → g.constant ≡ f.constant → IsAffineOf d f a → IsAffineOf d g a
affine_alike d f g a h e is = record {
  loops = λ k. is.loops k ∙ sym (front_alike d g.coefficients f.coefficients (λ i l. h i) k);
  symbols = is.symbols ∙ ap padded (sym (terms_alike 0 (drop d g.coefficients) (drop d f.coefficients) (drop_alike d g.coefficients f.coefficients h)));
  constant = is.constant ∙ sym e;
}

-- ---- a trip

same_values : (v : ℕ → ℤ) (k : ℕ) (xs : List (List ℕ)) → touched.symbol_values_from v k xs ≡ values_from v k xs
same_values v k [] = refl
same_values v k (x ∷ xs) = ap (λ zs. v k ∷ zs) (same_values v (suc k) xs)

-- a text and a trip under loops with these counters: the text has a number, which is that of the turns at as many
-- iterations
pub record IsTripOf (counters symbols : List (List ℕ)) (e : Expression) (t : Trip) : Type 0 where
  pub number : List ℤ → ℤ
  pub has : HasTrip counters symbols e number
  pub turns : (v : ℕ → ℤ) (before : List ℕ) → length before ≡ length counters → turns_at t v (map pos before) ≡ number (places_of v symbols before)

form_value : (counters symbols : List (List ℕ)) (text : Expression) (g : Form) (a : Affine) → form_of counters symbols text ≡ Some g → IsAffineOf (length counters) g a
    → (v : ℕ → ℤ) (before : List ℕ) → length before ≡ length counters → value_at a v (map pos before) ≡ number_at g (places_of v symbols before)
form_value counters symbols text g a form is v before len =
    let many : length (map pos before) ≡ length counters = length-map before pos ∙ len in
    let places = length-append counters symbols in
    let short = form_short counters symbols text g form in
    ap (value_at a v) (sym (append-nil (map pos before)))
    ∙ (affine_value g a symbols v (map pos before) [] (subst (λ k. IsAffineOf k g a) (sym many) is) (omega (arith, many, places, short))
    ∙ ap (λ zs. number_at g (map pos before ++ zs)) (same_values v 0 symbols))

by_one : (z : ℤ) → int_div z (pos 1) ≡ z
by_one (pos n) = ap pos (div-one n)
by_one (negsuc n) = ap (λ k. neg_ℤ (pos k)) (div-one (suc n))

module _ (counters symbols : List (List ℕ)) (text : Expression) (t : Trip) (divisor : ℕ) (g : Form) (form : form_of counters symbols text ≡ Some g) (by : t.by ≡ pos divisor)
    (value : (v : ℕ → ℤ) (before : List ℕ) → length before ≡ length counters → value_at t.top v (map pos before) ≡ number_at g (places_of v symbols before)) where
  quotient_is : IsTripOf counters symbols (quotient_text text t.by) t
  quotient_is = either (int_eq t.by (pos 1)) refl
    where
      either : (b : Bool) → int_eq t.by (pos 1) ≡ b → IsTripOf counters symbols (cond b text (Binary Div text (Number t.by))) t
      either true e =
          let one : t.by ≡ pos 1 = (Decides-int_eq t.by (pos 1)).0 e in
          record {
            number = number_at g;
            has = inl (g, form, λ xs. refl);
            turns = λ v before len. ap (int_div (value_at t.top v (map pos before))) one ∙ (by_one (value_at t.top v (map pos before)) ∙ value v before len);
          }
      either false e = record {
        number = λ xs. int_div (number_at g xs) (pos divisor);
        has = inr (g, text, divisor, ap (λ z. Binary Div text (Number z)) by, form, λ xs. refl);
        turns = λ v before len. ap₂ int_div (value v before len) by;
      }

-- the text of the dividend has a form, which is the dividend's
record HasForm (counters symbols : List (List ℕ)) (t : Trip) : Type 0 where
  form : Form
  is : form_of counters symbols (text_of counters symbols [] t.top) ≡ Some form
  affine : IsAffineOf (length counters) form t.top

module _ (counters symbols : List (List ℕ)) (t : Trip) (divisor : ℕ) (few : length counters ≤ 7) (apart : AreDistinct (counters ++ symbols))
    (top : HasTop (length symbols) (length counters) t) (by : t.by ≡ pos divisor) where
  abbrev text : Expression
  text = text_of counters symbols [] t.top

  dividend : HasForm counters symbols t
  dividend =
      let written : text ≡ expressed (variables (counters ++ symbols)) top.form =
      affine_has_text counters symbols [] top.form t.top top.affine ∙ ap (λ ts. expressed ts top.form) (append-nil (variables (counters ++ symbols))) in
      let places = length-append counters symbols in
      let short = top.short in
      let h = text_has_form counters symbols few apart top.form top.limited (omega (arith, places, short)) in
      record {
        form = record { coefficients = h.coefficients; constant = top.form.constant };
        is = ap (form_of counters symbols) written ∙ (form_of_text counters symbols few (expressed (variables (counters ++ symbols)) top.form) ∙ h.is);
        affine = affine_alike (length counters) top.form (record { coefficients = h.coefficients; constant = top.form.constant }) t.top h.alike refl top.affine;
      }

  pub trip_is : IsTripOf counters symbols (trip_text counters symbols [] t) t
  unfolding trip_text
  trip_is =
      let h = dividend in
      quotient_is counters symbols text t divisor h.form h.is by (form_value counters symbols text h.form t.top h.is h.affine)

  -- the trip is what is written
  pub trip_is_text : IsTripText counters symbols (trip_text counters symbols [] t) t
  unfolding trip_text
  trip_is_text = either (int_eq t.by (pos 1)) refl
    where
      h : HasForm counters symbols t
      h = dividend

      either : (b : Bool) → int_eq t.by (pos 1) ≡ b → IsTripText counters symbols (cond b text (Binary Div text (Number t.by))) t
      either true e = record { form = h.form; text = inl (h.is, (Decides-int_eq t.by (pos 1)).0 e); top = h.affine; seven = top.seven }
      either false e =
          record { form = h.form; text = inr (text, divisor, ap (λ z. Binary Div text (Number z)) by, h.is, by); top = h.affine; seven = top.seven }
