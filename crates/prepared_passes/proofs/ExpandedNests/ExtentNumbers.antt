-- Where the text of an extent has a value, it is the number of the extent, also where extents stand on divided ones.
use Rattle.std.proofs.Common.{◌≡◌, refl, sym, ap, ap₂, ◌∙◌, subst, ℕ, zero, suc, ◌+◌, ◌-◌, ◌≤◌, ◌<◌, ℤ, pos, negsuc, ◌+ℤ◌, ◌-ℤ◌, ◌*ℤ◌, Bool, true, false, cond, List, [], ◌∷◌, ◌++◌, length, length-append, get_or, Ok, Option, Some, None, arith}
use Rattle.std.specs.Prelude.{int_div, neg_ℤ, slice_get}
use Rattle.std.specs.Ordering.{int_eq}
use Rattle.std.proofs.lemmas.Bool.{eqb-true}
use Rattle.std.proofs.lemmas.Bool.Decides.{Decides-int_eq}
use Rattle.std.proofs.lemmas.Int.{ints}
use Rattle.std.proofs.Math.IntN.{zero-*ℤ, *ℤ-zero}
use Rattle.std.specs.Prelude.{◌==◌}
use Rattle.tree.specs.Steps.{◌>>=◌}
use Rattle.tree.specs.Operators.{apply, number}
use Rattle.tree.specs.Plain.{Binary, Expression, Number, Unary}
use Rattle.tree.specs.declared.ops.Op.{Op}
use Rattle.tree.specs.declared.ops.Op.TheVariants.{Add, Div, Mul, Neg, Sub}
use Rattle.tree.specs.declared.ops.Value.{Value}
use Rattle.tree.specs.declared.ops.Value.TheVariants.{Int}
use Rattle.last_values.specs.normal_forms.Combinations.{coefficient_in}
use Rattle.last_values.specs.normal_forms.Numbers.{number_of_form, products}
use Rattle.last_values.specs.normal_forms.Texts.{quotient_text}
use Rattle.last_values.proofs.NormalForms.Numbers.{looked_up}
use Rattle.linear_forms.specs.Expressed.{minus_term, plus_term, term, variable, with_constant, with_term, with_terms}
use Rattle.linear_forms.specs.Places.{terms_from}
use Rattle.linear_forms.proofs.LinearLaws.{number-is}
use Rattle.linear_forms.proofs.Ring.{neg_times}
use Rattle.meaning.specs.Dialect.{Dialect}
use Rattle.meaning.specs.Store.{Store}
use Rattle.meaning.specs.Value.{value_of}
use Rattle.nest.specs.declared.parts.Trip.{Trip}
use Rattle.nest_order.proofs.runs.Results.{both_ok}
use Rattle.pass_laws.proofs.LastRuns.Forms.{IsKnownForm}
use Rattle.pass_laws.proofs.NormalValues.Points.{products_same, weighted_products}
use Rattle.pass_laws.proofs.NormalValues.Quotients.{by_one}
use Rattle.subscripts.specs.Forms.{over_loops, over_symbols}
use Rattle.subscripts.specs.declared.affine.Affine.{Affine}
use Rattle.scalar_expand.specs.Numbers.{at_loops, number_under, numbers_under}
use Rattle.scalar_expand.specs.Texts.{made_extent_text, extent_form_text, texts_with, with_each_symbol, with_named}
use Rattle.prepared_passes.proofs.ExpandedNests.Sizes.{AllKnown, IsKnown}
use Rattle.prepared_passes.proofs.ExpandedNests.Trips.{nowhere, quotient_is, shift, terms_sum}

-- ---- sums

-- as many places as the numbers need
over_at_most : (n : ℕ) (cs xs : List ℤ) → length xs ≤ n
    → over_loops cs xs ≡ products n 0 (λ k. get_or cs k (pos 0)) (λ k. get_or xs k (pos 0))
over_at_most n [] xs h = sym (none n 0)
  where
    none : (n j : ℕ) → products n j (λ k. get_or {A = ℤ} [] k (pos 0)) (λ k. get_or xs k (pos 0)) ≡ pos 0
    none zero j = refl
    none (suc n) j = ap₂ (λ p q. p +ℤ q) (zero-*ℤ (get_or xs j (pos 0))) (none n (j + 1))
over_at_most n (c ∷ cs) [] h = sym (nowhere n 0 (λ k. get_or (c ∷ cs) k (pos 0)))
over_at_most zero (c ∷ cs) (x ∷ xs) h = absurd (omega (arith, h))
over_at_most (suc n) (c ∷ cs) (x ∷ xs) h =
    ap (λ z. c *ℤ x +ℤ z)
    (over_at_most n cs xs (omega (arith, h))
    ∙ sym (shift n 0 (λ k. get_or (c ∷ cs) k (pos 0)) (λ k. get_or (x ∷ xs) k (pos 0))))

-- ---- what a text says where it has a value

module _ (lang : Dialect) (u : Store) where
  abbrev pub Says : Expression → ℤ → Type 0
  Says e z = (v : Value) → value_of lang e u ≡ Ok v → v ≡ Int z

  abbrev pub Tell : List Expression → List ℤ → Type 0
  Tell [] [] = Unit {0}
  Tell (e ∷ es) (z ∷ zs) = Says e z × Tell es zs
  Tell _ _ = ⊥

  pub tell_last : (es : List Expression) (zs : List ℤ) (e : Expression) (z : ℤ) → Tell es zs → Says e z
      → Tell (es ++ e ∷ []) (zs ++ z ∷ [])
  tell_last [] [] e z h k = (k, tt)
  tell_last [] (y ∷ zs) e z h k = absurd h
  tell_last (x ∷ es) [] e z h k = absurd h
  tell_last (x ∷ es) (y ∷ zs) e z h k = (h.0, tell_last es zs e z h.1 k)

  says_also : (e : Expression) (y z : ℤ) → y ≡ z → Says e y → Says e z
  says_also e y z same h v f = h v f ∙ ap Int same

  says_both : (o : Op) (a b : Expression) (x y z : ℤ) → apply o (Int x) (Int y) ≡ number z → Says a x → Says b y
      → Says (Binary o a b) z
  says_both o a b x y z is h k v f =
      let p = both_ok (value_of lang a u) (λ q. do r ← value_of lang b u; apply o q r) v f in
      let r = both_ok (value_of lang b u) (λ r. apply o p.0 r) v p.2 in
      number-is z v (sym is ∙ (ap₂ (λ q r. apply o q r) (sym (h p.0 p.1)) (sym (k r.0 r.1)) ∙ r.2))

  says_less : (a : Expression) (x : ℤ) → Says a x → Says (Unary Neg a) (neg_ℤ x)
  says_less a x h v f =
      let p = both_ok (value_of lang a u) (λ q. apply Neg q q) v f in
      let is : apply Neg (Int x) (Int x) ≡ number (neg_ℤ x) = refl in
      number-is (neg_ℤ x) v (sym is ∙ (ap (λ q. apply Neg q q) (sym (h p.0 p.1)) ∙ p.2))

  says_number : (z : ℤ) → Says (Number z) z
  says_number z v f = let same : Int z ≡ v = cc in sym same

  -- ---- terms

  says_times : (n : ℕ) (t : Expression) (z : ℤ) → Says t z → Says (term n t) (pos n *ℤ z)
  says_times n t z h = by (n == 1) refl
    where
      once : z ≡ pos 1 *ℤ z
      once = omega (arith, ints)

      by : (b : Bool) → (n == 1) ≡ b → Says (cond b t (Binary Mul (Number (pos n)) t)) (pos n *ℤ z)
      by true e = says_also t z (pos n *ℤ z) (once ∙ ap (λ k. pos k *ℤ z) (sym (eqb-true n 1 e))) h
      by false e = says_both Mul (Number (pos n)) t (pos n) z (pos n *ℤ z) refl (says_number (pos n)) h

  -- what stands so far; nothing is 0
  abbrev Gives : Option Expression → ℤ → Type 0
  Gives None r = r ≡ pos 0
  Gives (Some e) r = Says e r

  plus_none : (r z : ℤ) → r ≡ pos 0 → z ≡ r +ℤ z
  plus_none r z h = omega (arith, ints, h)

  none_more : (r : ℤ) → r ≡ r +ℤ pos 0
  none_more r = omega (arith, ints)

  gives_also : (o : Option Expression) (y z : ℤ) → y ≡ z → Gives o y → Gives o z
  gives_also None y z e h = sym e ∙ h
  gives_also (Some e) y z f h = says_also e y z f h

  with_less : (o : Option Expression) (r y z : ℤ) (t : Expression) → z ≡ neg_ℤ y → Gives o r → Says t y
      → Says (minus_term o t) (r +ℤ z)
  with_less None r y z t e g h = says_also (Unary Neg t) (neg_ℤ y) (r +ℤ z) (sym e ∙ plus_none r z g) (says_less t y h)
  with_less (Some a) r y z t e g h =
      says_both Sub a t r y (r +ℤ z) (ap number (let f : r -ℤ y ≡ r +ℤ z = omega (arith, ints, e) in f)) g h

  with_more : (o : Option Expression) (r z : ℤ) (t : Expression) → Gives o r → Says t z → Says (plus_term o t) (r +ℤ z)
  with_more None r z t g h = says_also t z (r +ℤ z) (plus_none r z g) h
  with_more (Some a) r z t g h = says_both Add a t r z (r +ℤ z) refl g h

  one_term : (o : Option Expression) (r c z : ℤ) (t : Expression) → Gives o r → Says t z
      → Gives (with_term o c t) (r +ℤ c *ℤ z)
  one_term o r (pos zero) z t g h = gives_also o r (r +ℤ pos 0 *ℤ z) (none_more r ∙ ap (λ y. r +ℤ y) (sym (zero-*ℤ z))) g
  one_term o r (pos (suc n)) z t g h = with_more o r (pos (suc n) *ℤ z) (term (suc n) t) g (says_times (suc n) t z h)
  one_term o r (negsuc n) z t g h =
      with_less o r (pos (suc n) *ℤ z) (negsuc n *ℤ z) (term (suc n) t) (neg_times (pos (suc n)) z) g (says_times (suc n) t z h)

  more_terms : (o : Option Expression) (r : ℤ) (cs : List ℤ) (ts : List Expression) (zs : List ℤ) → Gives o r → Tell ts zs
      → Gives (with_terms o cs ts) (r +ℤ over_loops cs zs)
  more_terms o r [] ts zs g h = gives_also o r (r +ℤ pos 0) (none_more r) g
  more_terms o r (c ∷ cs) [] [] g h = gives_also o r (r +ℤ pos 0) (none_more r) g
  more_terms o r (c ∷ cs) [] (z ∷ zs) g h = absurd h
  more_terms o r (c ∷ cs) (t ∷ ts) [] g h = absurd h
  more_terms o r (c ∷ cs) (t ∷ ts) (z ∷ zs) g h =
      gives_also (with_terms (with_term o c t) cs ts) ((r +ℤ c *ℤ z) +ℤ over_loops cs zs) (r +ℤ (c *ℤ z +ℤ over_loops cs zs))
      (together r (c *ℤ z) (over_loops cs zs))
      (more_terms (with_term o c t) (r +ℤ c *ℤ z) cs ts zs (one_term o r c z t g h.0) h.1)
    where
      together : (a b c : ℤ) → (a +ℤ b) +ℤ c ≡ a +ℤ (b +ℤ c)
      together a b c = omega (arith, ints)

  constant_too : (o : Option Expression) (r c : ℤ) → Gives o r → Says (with_constant o c) (r +ℤ c)
  constant_too None r (pos n) g = says_also (Number (pos n)) (pos n) (r +ℤ pos n) (plus_none r (pos n) g) (says_number (pos n))
  constant_too None r (negsuc n) g =
      says_also (Unary Neg (Number (pos (suc n)))) (neg_ℤ (pos (suc n))) (r +ℤ negsuc n) (plus_none r (negsuc n) g)
      (says_less (Number (pos (suc n))) (pos (suc n)) (says_number (pos (suc n))))
  constant_too (Some e) r (pos zero) g = says_also e r (r +ℤ pos 0) (none_more r) g
  constant_too (Some e) r (pos (suc n)) g =
      says_both Add e (Number (pos (suc n))) r (pos (suc n)) (r +ℤ pos (suc n)) refl g (says_number (pos (suc n)))
  constant_too (Some e) r (negsuc n) g =
      says_both Sub e (Number (pos (suc n))) r (pos (suc n)) (r +ℤ negsuc n)
      (ap number (let f : r -ℤ pos (suc n) ≡ r +ℤ negsuc n = omega (arith, ints) in f)) g (says_number (pos (suc n)))

  -- ---- symbols

  module _ (symbols : List (List ℕ)) (V : ℕ → ℤ) (known : (k : ℕ) (x : List ℕ) → slice_get symbols k ≡ Some x → Says (variable x) (V k))
      (none : (k : ℕ) → slice_get symbols k ≡ None → V k ≡ pos 0) where
    one_symbol : (o : Option Expression) (r c : ℤ) (k : ℕ) → Gives o r → Gives (with_named o c (slice_get symbols k)) (r +ℤ c *ℤ V k)
    one_symbol o r c k g = by (slice_get symbols k) refl
      where
        by : (s : Option (List ℕ)) → slice_get symbols k ≡ s → Gives (with_named o c s) (r +ℤ c *ℤ V k)
        by None e = gives_also o r (r +ℤ c *ℤ V k) (none_more r ∙ ap (λ z. r +ℤ z) (sym (*ℤ-zero c) ∙ ap (λ z. c *ℤ z) (sym (none k e)))) g
        by (Some x) e = one_term o r c (V k) (variable x) g (known k x e)

    each_symbol : (ts : List (ℕ × ℤ)) (o : Option Expression) (r : ℤ) → Gives o r
        → Gives (with_each_symbol symbols o ts) (r +ℤ over_symbols ts V)
    each_symbol [] o r g = gives_also o r (r +ℤ pos 0) (none_more r) g
    each_symbol (t ∷ ts) o r g =
        gives_also (with_each_symbol symbols (with_named o t.1 (slice_get symbols t.0)) ts) ((r +ℤ t.1 *ℤ V t.0) +ℤ over_symbols ts V)
        (r +ℤ (t.1 *ℤ V t.0 +ℤ over_symbols ts V)) (together r (t.1 *ℤ V t.0) (over_symbols ts V))
        (each_symbol ts (with_named o t.1 (slice_get symbols t.0)) (r +ℤ t.1 *ℤ V t.0) (one_symbol o r t.1 t.0 g))
      where
        together : (a b c : ℤ) → (a +ℤ b) +ℤ c ≡ a +ℤ (b +ℤ c)
        together a b c = omega (arith, ints)

    -- ---- forms

    module _ (values : ℕ → ℤ) (same : (k : ℕ) → k < length symbols → V k ≡ values k) where
      abbrev n : ℕ
      n = length symbols

      symbols_number : (a : Affine) → IsKnownForm n a → over_symbols a.syms V ≡ products n 0 (λ j. coefficient_in a.syms j) values
      symbols_number a k =
          let few = k.few in
          ap (λ ts. over_symbols ts V) k.syms
          ∙ (terms_sum 0 k.symbols n (8 - length (terms_from 0 k.symbols)) V few
          ∙ (sym (weighted_products n 0 k.symbols (λ j. coefficient_in a.syms j) V
          (λ i j. ap (λ ts. coefficient_in ts (0 + i)) k.syms ∙ looked_up 0 k.symbols (8 - length (terms_from 0 k.symbols)) i (0 + i) (let e : 0 + i ≡ 0 + i = refl in e)))
          ∙ products_same n 0 (λ j. coefficient_in a.syms j) V values (λ i j. same i (omega (arith, j)))))

      says_form : (texts : List Expression) (zs : List ℤ) (a : Affine) → IsKnownForm n a → Tell texts zs → length zs ≤ 7
          → Says (extent_form_text symbols texts a) (number_of_form n (at_loops zs) values a)
      says_form texts zs a k h few =
          says_also (extent_form_text symbols texts a) (((pos 0 +ℤ over_symbols a.syms V) +ℤ over_loops a.loops zs) +ℤ a.constant)
          (number_of_form n (at_loops zs) values a)
          (turned (over_symbols a.syms V) (over_loops a.loops zs) a.constant
          ∙ ap₂ (λ p q. p +ℤ (q +ℤ a.constant)) (over_at_most 7 a.loops zs few) (symbols_number a k))
          (constant_too (with_terms (with_each_symbol symbols None a.syms) a.loops texts)
          ((pos 0 +ℤ over_symbols a.syms V) +ℤ over_loops a.loops zs) a.constant
          (more_terms (with_each_symbol symbols None a.syms) (pos 0 +ℤ over_symbols a.syms V) a.loops texts zs
          (each_symbol a.syms None (pos 0) refl) h))
        where
          turned : (a b c : ℤ) → ((pos 0 +ℤ a) +ℤ b) +ℤ c ≡ b +ℤ (a +ℤ c)
          turned a b c = omega (arith, ints)

      says_quotient : (e : Expression) (z : ℤ) (d : ℕ) → Says e z → Says (quotient_text e (pos d)) (int_div z (pos d))
      says_quotient e z d h = by (int_eq (pos d) (pos 1)) refl
        where
          by : (b : Bool) → int_eq (pos d) (pos 1) ≡ b → Says (cond b e (Binary Div e (Number (pos d)))) (int_div z (pos d))
          by true f = says_also e z (int_div z (pos d)) (sym (by_one z) ∙ ap (int_div z) (sym ((Decides-int_eq (pos d) (pos 1)).0 f))) h
          by false f = λ v g.
              let p = both_ok (value_of lang e u) (λ q. do r ← value_of lang (Number (pos d)) u; apply Div q r) v g in
              quotient_is z d v (ap (λ q. apply Div q (Int (pos d))) (sym (h p.0 p.1)) ∙ p.2)

      says_extent : (texts : List Expression) (zs : List ℤ) (t : Trip) → IsKnown n t → Tell texts zs → length zs ≤ 7
          → Says (made_extent_text symbols texts t) (number_under n values zs t)
      says_extent texts zs t k h few =
          subst (λ b. Says (quotient_text (extent_form_text symbols texts t.top) b) (int_div (number_of_form n (at_loops zs) values t.top) b))
          (sym k.by)
          (says_quotient (extent_form_text symbols texts t.top) (number_of_form n (at_loops zs) values t.top) k.divisor
          (says_form texts zs t.top k.form h few))

      pub texts_tell : (ts : List Trip) (texts : List Expression) (zs : List ℤ) → AllKnown n ts → Tell texts zs
          → length zs + length ts ≤ 7 → Tell (texts_with symbols texts ts) (numbers_under n values zs ts)
      texts_tell [] texts zs k h few = h
      texts_tell (t ∷ ts) texts zs k h few =
          let more = length-append zs (number_under n values zs t ∷ []) in
          texts_tell ts (texts ++ made_extent_text symbols texts t ∷ []) (zs ++ number_under n values zs t ∷ []) k.1
          (tell_last texts zs (made_extent_text symbols texts t) (number_under n values zs t) h
          (says_extent texts zs t k.0 h (omega (arith, few)))) (omega (arith, few, more))

-- ---- how many texts there are

pub texts_length : (symbols : List (List ℕ)) (texts : List Expression) (ts : List Trip)
    → length (texts_with symbols texts ts) ≡ length texts + length ts
texts_length symbols texts [] = let e : length texts ≡ length texts + 0 = omega arith in e
texts_length symbols texts (t ∷ ts) =
    let more = length-append texts (made_extent_text symbols texts t ∷ []) in
    let rest = texts_length symbols (texts ++ made_extent_text symbols texts t ∷ []) ts in
    omega (arith, more, rest)
