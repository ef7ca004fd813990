-- The texts of extents: expressions over symbols alone, of limited depth.
use Rattle.std.proofs.Common.{◌≡◌, refl, sym, subst, ◌⊎◌, inl, inr, ℕ, zero, suc, ◌+◌, ◌*◌, ◌≤◌, ◌^◌, ℤ, pos, negsuc, Bool, true, false, cond, ◌&&◌, List, [], ◌∷◌, ◌++◌, drop, length, Option, Some, None, arith}
use Rattle.std.specs.Ordering.{int_eq}
use Rattle.std.specs.Prelude.{nat_le, slice_get, ◌==◌}
use Rattle.std.proofs.lemmas.Bool.{leb-true}
use Rattle.components.proofs.ListLaws.{Each-append}
use Rattle.components.specs.Lists.{Each}
use Rattle.linear_forms.specs.Expressed.{minus_term, plus_term, term, variable, with_constant, with_term, with_terms}
use Rattle.linear_forms.proofs.Sizes.{both}
use Rattle.linear_forms.specs.Linear.{all_small, is_small, not_zero}
use Rattle.linear_forms.specs.Places.{terms_from}
use Rattle.meaning.specs.Depths.{depth_of}
use Rattle.meaning.specs.Reads.{names_in}
use Rattle.meaning.specs.Typed90.{IsIntegerScalar}
use Rattle.nest.specs.declared.parts.Trip.{Trip}
use Rattle.nest_order.proofs.orders.Lists.{In-append}
use Rattle.nest_order.specs.orders.Lists.{In}
use Rattle.nest_order.specs.runs.Touched.{IsPlain}
use Rattle.pass_laws.proofs.NormalFacts.StatementKinds.{IsNumber, IsSmallForm}
use Rattle.pass_laws.specs.prepared_nests.Loops.{IsPreparedTrip}
use Rattle.pass_laws.proofs.PreparedNests.Normal.LoopSizes.{IsSized, eight_places, terms_counted}
use Rattle.pass_laws.proofs.PreparedNests.Normal.TextDepths as depths
use Rattle.pass_laws.proofs.PreparedNests.Normal.TextDepths.{constant_deep, one_deep, quotient_deep, terms_deep}
use Rattle.pass_laws.proofs.PreparedNests.Normal.TextKinds as kinds
use Rattle.pass_laws.proofs.PreparedNests.Normal.TextKinds.{constant_is, one_is, quotient_is, terms_are}
use Rattle.subscripts.specs.Shapes.{IsSmall}
use Rattle.tree.specs.Plain.{Binary, Declaration, Expression, Number, Unary}
use Rattle.tree.specs.declared.ops.Op.{Op}
use Rattle.tree.specs.declared.ops.Op.TheVariants.{Add, Div, Mul, Neg, Sub}
use Rattle.scalar_expand.specs.Texts.{made_extent_text, extent_form_text, texts_with, with_each_symbol, with_named}

symbol_in : (symbols : List (List ℕ)) (k : ℕ) (x : List ℕ) → slice_get symbols k ≡ Some x → In x symbols
symbol_in [] k x e = let no : ⊥ = cc in absurd no
symbol_in (y ∷ ys) zero x e = let same : y ≡ x = cc in inl (sym same)
symbol_in (y ∷ ys) (suc k) x e = inr (symbol_in ys k x e)

-- the dividend of a prepared trip
pub form_sized : (symbols round : List (List ℕ)) (last : Expression) (t : Trip) → IsPreparedTrip round symbols last t → IsSized t.top
form_sized symbols round last t p =
    let loops = p.seven in
    record {
      loops = omega (arith, loops);
      symbols = subst (λ ts. length ts ≤ 8) (sym p.affine.symbols) (eight_places (terms_from 0 (drop (length round) p.form.coefficients)) few);
    }
  where
    few : length (terms_from 0 (drop (length round) p.form.coefficients)) ≤ 8
    few =
        let one = both (all_small p.form.coefficients) (is_small p.form.constant && nat_le (not_zero (drop (length round) p.form.coefficients)) 8) p.limited in
        let two = both (is_small p.form.constant) (nat_le (not_zero (drop (length round) p.form.coefficients)) 8) one.1 in
        let most = leb-true (not_zero (drop (length round) p.form.coefficients)) 8 two.1 in
        let count = terms_counted 0 (drop (length round) p.form.coefficients) in
        omega (arith, most, count)

-- ---- what operators leave so

module _ (P : Expression → Type 0) (number : (z : ℤ) → P (Number z)) (unary : (o : Op) (e : Expression) → P e → P (Unary o e)) (binary : (o : Op) (e f : Expression) → P e → P f → P (Binary o e f)) where
  abbrev SoFar : Option Expression → Type 0
  SoFar None = Unit {0}
  SoFar (Some e) = P e

  term_so : (n : ℕ) (t : Expression) → P t → P (term n t)
  term_so n t h = by (n == 1)
    where
      by : (b : Bool) → P (cond b t (Binary Mul (Number (pos n)) t))
      by true = h
      by false = binary Mul (Number (pos n)) t (number (pos n)) h

  plus_so : (o : Option Expression) (t : Expression) → SoFar o → P t → P (plus_term o t)
  plus_so None t h k = k
  plus_so (Some e) t h k = binary Add e t h k

  minus_so : (o : Option Expression) (t : Expression) → SoFar o → P t → P (minus_term o t)
  minus_so None t h k = unary Neg t k
  minus_so (Some e) t h k = binary Sub e t h k

  one_so : (o : Option Expression) (c : ℤ) (t : Expression) → SoFar o → P t → SoFar (with_term o c t)
  one_so o (pos zero) t h k = h
  one_so o (pos (suc n)) t h k = plus_so o (term (suc n) t) h (term_so (suc n) t k)
  one_so o (negsuc n) t h k = minus_so o (term (suc n) t) h (term_so (suc n) t k)

  terms_so : (o : Option Expression) (cs : List ℤ) (ts : List Expression) → SoFar o → Each P ts → SoFar (with_terms o cs ts)
  terms_so o [] ts h k = h
  terms_so o (c ∷ cs) [] h k = h
  terms_so o (c ∷ cs) (t ∷ ts) h k = terms_so (with_term o c t) cs ts (one_so o c t h k.0) k.1

  constant_so : (o : Option Expression) (z : ℤ) → SoFar o → P (with_constant o z)
  constant_so None (pos n) h = number (pos n)
  constant_so None (negsuc n) h = unary Neg (Number (pos (suc n))) (number (pos (suc n)))
  constant_so (Some e) (pos zero) h = h
  constant_so (Some e) (pos (suc n)) h = binary Add e (Number (pos (suc n))) h (number (pos (suc n)))
  constant_so (Some e) (negsuc n) h = binary Sub e (Number (pos (suc n))) h (number (pos (suc n)))

  module _ (symbols : List (List ℕ)) (named : (x : List ℕ) → In x symbols → P (variable x)) where
    symbols_so : (o : Option Expression) (ts : List (ℕ × ℤ)) → SoFar o → SoFar (with_each_symbol symbols o ts)
    symbols_so o [] h = h
    symbols_so o (t ∷ ts) h = symbols_so (with_named o t.1 (slice_get symbols t.0)) ts (by (slice_get symbols t.0) refl)
      where
        by : (q : Option (List ℕ)) → slice_get symbols t.0 ≡ q → SoFar (with_named o t.1 q)
        by None e = h
        by (Some x) e = one_so o t.1 (variable x) h (named x (symbol_in symbols t.0 x e))

    extent_so : (texts : List Expression) (t : Trip) → Each P texts → P (made_extent_text symbols texts t)
    extent_so texts t h = by (int_eq t.by (pos 1))
      where
        form : P (extent_form_text symbols texts t.top)
        form = constant_so (with_terms (with_each_symbol symbols None t.top.syms) t.top.loops texts) t.top.constant (terms_so (with_each_symbol symbols None t.top.syms) t.top.loops texts (symbols_so None t.top.syms tt) h)

        by : (b : Bool) → P (cond b (extent_form_text symbols texts t.top) (Binary Div (extent_form_text symbols texts t.top) (Number t.by)))
        by true = form
        by false = binary Div (extent_form_text symbols texts t.top) (Number t.by) form (number t.by)

-- ---- kinds and depths

-- a trip with numbers within the limits
pub record IsSmallTrip (t : Trip) : Type 0 where
  pub top : IsSmallForm t.top
  pub sized : IsSized t.top
  pub divisor : ℕ
  pub by : t.by ≡ pos divisor
  pub positive : 1 ≤ divisor
  pub small : divisor ≤ 2 ^ 40

module _ (fs : List Declaration) (symbols : List (List ℕ)) (scalars : Each (IsIntegerScalar fs) symbols) (named : (x : List ℕ) → In x symbols → IsNumber fs (variable x)) where
  symbols_number : (o : Option Expression) (ts : List (ℕ × ℤ)) → Each (λ (t : ℕ × ℤ). IsSmall t.1) ts → kinds.SoFar fs o → kinds.SoFar fs (with_each_symbol symbols o ts)
  symbols_number o [] s h = h
  symbols_number o (t ∷ ts) s h = symbols_number (with_named o t.1 (slice_get symbols t.0)) ts s.1 (by (slice_get symbols t.0) refl)
    where
      by : (q : Option (List ℕ)) → slice_get symbols t.0 ≡ q → kinds.SoFar fs (with_named o t.1 q)
      by None e = h
      by (Some x) e = one_is fs o t.1 (variable x) s.0 h (named x (symbol_in symbols t.0 x e))

  extent_number : (texts : List Expression) (t : Trip) → IsSmallTrip t → Each (IsNumber fs) texts → IsNumber fs (made_extent_text symbols texts t)
  extent_number texts t s h =
      quotient_is fs (extent_form_text symbols texts t.top) t.by s.divisor s.by s.small
      (constant_is fs (with_terms (with_each_symbol symbols None t.top.syms) t.top.loops texts) t.top.constant s.top.constant
      (terms_are fs (with_each_symbol symbols None t.top.syms) t.top.loops texts s.top.loops (symbols_number None t.top.syms s.top.symbols tt) h))

symbols_deep : (symbols : List (List ℕ)) (o : Option Expression) (ts : List (ℕ × ℤ)) (d k : ℕ) → d + 2 ≤ k → depths.SoFar k o → depths.SoFar (k + 2 * length ts) (with_each_symbol symbols o ts)
symbols_deep symbols o [] d k m h = subst (λ n. depths.SoFar n o) (omega arith) h
symbols_deep symbols o (t ∷ ts) d k m h =
    subst (λ n. depths.SoFar n (with_each_symbol symbols (with_named o t.1 (slice_get symbols t.0)) ts)) (omega arith)
    (symbols_deep symbols (with_named o t.1 (slice_get symbols t.0)) ts d (k + 2) (omega (arith, m)) (by (slice_get symbols t.0)))
  where
    weaker : (o : Option Expression) → depths.SoFar k o → depths.SoFar (k + 2) o
    weaker None h = tt
    weaker (Some e) h = omega (arith, h)

    by : (q : Option (List ℕ)) → depths.SoFar (k + 2) (with_named o t.1 q)
    by None = weaker o h
    by (Some x) = one_deep o t.1 (variable x) d k m h (omega arith)

extent_deep : (symbols : List (List ℕ)) (texts : List Expression) (t : Trip) (d : ℕ) → IsSized t.top → Each (λ (e : Expression). depth_of e ≤ d) texts → depth_of (made_extent_text symbols texts t) ≤ d + 36
extent_deep symbols texts t d s h =
    let k : ℕ = (d + 2) + 2 * length t.top.syms in
    let few = s.loops in
    let some = s.symbols in
    let form = constant_deep (with_terms (with_each_symbol symbols None t.top.syms) t.top.loops texts) t.top.constant (k + 2 * length t.top.loops)
    (terms_deep (with_each_symbol symbols None t.top.syms) t.top.loops texts d k (omega arith) (symbols_deep symbols None t.top.syms d (d + 2) (omega arith) tt) h) in
    let whole = quotient_deep (extent_form_text symbols texts t.top) t.by ((k + 2 * length t.top.loops) + 2) form in
    omega (arith, whole, few, some)

-- ---- all extents of an array

pub record IsExtentText (fs : List Declaration) (symbols : List (List ℕ)) (d : ℕ) (e : Expression) : Type 0 where
  pub plain : IsPlain e
  pub names : (y : List ℕ) → In y (names_in e) → In y symbols
  pub number : IsNumber fs e
  pub deep : depth_of e ≤ d

abbrev pub AllSmall : List Trip → Type 0
AllSmall ts = Each IsSmallTrip ts

module _ (fs : List Declaration) (symbols : List (List ℕ)) (scalars : Each (IsIntegerScalar fs) symbols) (named : (x : List ℕ) → In x symbols → IsNumber fs (variable x)) where
  abbrev IsText : ℕ → Expression → Type 0
  IsText d e = IsExtentText fs symbols d e

  each_of : {A : Type 0} (P Q : A → Type 0) (xs : List A) → ((x : A) → P x → Q x) → Each P xs → Each Q xs
  each_of P Q [] f h = tt
  each_of P Q (x ∷ xs) f h = (f x h.0, each_of P Q xs f h.1)

  one_text : (d : ℕ) (texts : List Expression) (t : Trip) → IsSmallTrip t → Each (IsText d) texts → IsText (d + 36) (made_extent_text symbols texts t)
  one_text d texts t s h = record {
    plain = extent_so (λ (e : Expression). IsPlain e) (λ z. tt) (λ o e p. p) (λ o e f p q. (p, q)) symbols (λ x i. tt) texts t (each_of (IsText d) (λ (e : Expression). IsPlain e) texts (λ e p. p.plain) h);
    names = extent_so (λ (e : Expression). (y : List ℕ) → In y (names_in e) → In y symbols) (λ z y i. absurd i) (λ o e p. p) (λ o e f p q y i. either e f p q y (In-append y (names_in e) (names_in f) i)) symbols variable_named texts t
        (each_of (IsText d) (λ (e : Expression). (y : List ℕ) → In y (names_in e) → In y symbols) texts (λ e p. p.names) h);
    number = extent_number fs symbols scalars named texts t s (each_of (IsText d) (IsNumber fs) texts (λ e p. p.number) h);
    deep = extent_deep symbols texts t d s.sized (each_of (IsText d) (λ (e : Expression). depth_of e ≤ d) texts (λ e p. p.deep) h);
  }
    where
      either : (e f : Expression) → ((y : List ℕ) → In y (names_in e) → In y symbols) → ((y : List ℕ) → In y (names_in f) → In y symbols) → (y : List ℕ) → In y (names_in e) ⊎ In y (names_in f) → In y symbols
      either e f p q y (inl i) = p y i
      either e f p q y (inr i) = q y i

      variable_named : (x : List ℕ) → In x symbols → (y : List ℕ) → In y (x ∷ []) → In y symbols
      variable_named x i y (inl e) = subst (λ z. In z symbols) (sym e) i
      variable_named x i y (inr j) = absurd j

  deeper : (d n : ℕ) (e : Expression) → d ≤ n → IsText d e → IsText n e
  deeper d n e m h = record { plain = h.plain; names = h.names; number = h.number; deep = (let x = h.deep in omega (arith, x, m)) }

  pub all_texts : (ts : List Trip) (d : ℕ) (texts : List Expression) → AllSmall ts → Each (IsText d) texts → Each (IsText (d + 36 * length ts)) (texts_with symbols texts ts)
  all_texts [] d texts s h = each_of (IsText d) (IsText (d + 36 * 0)) texts (λ e p. deeper d (d + 36 * 0) e (omega arith) p) h
  all_texts (t ∷ ts) d texts s h =
      subst (λ n. Each (IsText n) (texts_with symbols (texts ++ made_extent_text symbols texts t ∷ []) ts)) (omega arith)
      (all_texts ts (d + 36) (texts ++ made_extent_text symbols texts t ∷ []) s.1
      (Each-append (IsText (d + 36)) texts (made_extent_text symbols texts t ∷ []) (each_of (IsText d) (IsText (d + 36)) texts (λ e p. deeper d (d + 36) e (omega arith) p) h) (one_text d texts t s.0 h, tt)))
