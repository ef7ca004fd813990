-- The canonical text of a linear form has this form.
use mathlib.Core.Path.{ap₂}
use Rattle.std.proofs.Common.{◌≡◌, refl, sym, ap, ◌∙◌, subst, ℕ, zero, suc, ◌^◌, ◌≤◌, ℤ, pos, negsuc, ◌+ℤ◌, ◌*ℤ◌}
use Rattle.std.proofs.Common.{Bool, true, false, cond, ◌&&◌, ◌||◌, List, [], ◌∷◌, ◌++◌, map, drop, length, get_or}
use Rattle.std.proofs.Common.{Result, Ok, Err, Option, Some, None, append-nil, append_assoc, arith}
use Rattle.std.specs.List.{AllByRecursion}
use Rattle.std.specs.Prelude.{nat_abs, nat_le, ◌==◌}
use Rattle.std.specs.Str.{bytes_eq}
use Rattle.std.proofs.Math.IntN.{*ℤ-zero, +ℤ_idl}
use Rattle.std.proofs.lemmas.Bool.{leb-true, le-leb, eqb-true}
use Rattle.std.proofs.lemmas.Int.{ints}
use Rattle.std.proofs.lemmas.Slice.Eq.{bytes_eq-Decides}
use Rattle.meaning.specs.Dialect.{fortran77}
use Rattle.tree.specs.declared.width.Width.TheVariants.{Plain}
use Rattle.meaning.specs.Names.{is_among}
use Rattle.meaning.specs.Value.{value_of}
use Rattle.tree.specs.Operators.{apply, fits}
use Rattle.tree.specs.Plain.{Expression, Number, Unary, Binary}
use Rattle.tree.specs.Steps.{◌>>=◌}
use Rattle.tree.specs.declared.ops.Fault.{Fault}
use Rattle.tree.specs.declared.ops.Fault.TheVariants.{Allocated, Overflow}
use Rattle.tree.specs.declared.ops.Op.{Op}
use Rattle.tree.specs.declared.ops.Op.TheVariants.{Mul, Neg, Add, Sub}
use Rattle.tree.specs.declared.ops.Value.{Value}
use Rattle.tree.specs.declared.ops.Value.TheVariants.{Int}
use Rattle.linear_forms.proofs.CanonicalTwice.{whole_form}
use Rattle.linear_forms.proofs.Sizes.{both, within_fits}
use Rattle.linear_forms.specs.CanonicalLaws.{AreDistinct}
use Rattle.linear_forms.specs.Expressed.{term, with_term, with_terms, with_constant, expressed, variable, variables}
use Rattle.linear_forms.specs.Linear.{Form, added, constant_form, is_small, all_small, not_zero, is_limited, limited}
use Rattle.linear_forms.specs.Linear.{no_store, known, as_constant, constant_of, unit, with_zero, with_no_constant}
use Rattle.linear_forms.specs.Linear.{form_of, form_of_pair, form_of_sign, constant_or, linear}
use Rattle.pass_laws.proofs.NormalFacts.Coefficients.{AreAlike, limited_alike, added_at, multiple_at, small_next, limited_front}
use Rattle.pass_laws.proofs.NormalFacts.Coefficients.{none_dropped, next_at, zero_alone, scaled_alike, negated_alone}
use Rattle.pass_laws.proofs.NormalFacts.Coefficients.{alone_small, alone_counts, alone}

-- ---- where a name stands

abbrev NotAmong : List (List ℕ) → List ℕ → Type 0
NotAmong ys y = AllByRecursion (λ x. bytes_eq x y ≡ false) ys

unit_at : (ys zs : List (List ℕ)) (y : List ℕ) → NotAmong ys y → unit (ys ++ y ∷ zs) y ≡ Some (alone (length ys) (pos 1))
unit_at [] zs y h = ap (λ b. cond b (Some (pos 1 ∷ [])) (with_zero (unit zs y))) ((bytes_eq-Decides y y).1 refl)
unit_at (x ∷ ys) zs y h = ap (λ b. cond b (Some (pos 1 ∷ [])) (with_zero (unit (ys ++ y ∷ zs) y))) h.0 ∙ ap with_zero (unit_at ys zs y h.1)

either : (a b : Bool) → (a || b) ≡ false → (a ≡ false) × (b ≡ false)
either true b h = cc
either false b h = (refl, h)

not_later : (ys zs : List (List ℕ)) (x y : List ℕ) → is_among (ys ++ y ∷ zs) x ≡ false → bytes_eq x y ≡ false
not_later [] zs x y h = (either (bytes_eq x y) (is_among zs x) h).0
not_later (z ∷ ys) zs x y h = not_later ys zs x y (either (bytes_eq x z) (is_among (ys ++ y ∷ zs) x) h).1

not_before : (ys zs : List (List ℕ)) (y : List ℕ) → AreDistinct (ys ++ y ∷ zs) → NotAmong ys y
not_before [] zs y h = tt
not_before (x ∷ ys) zs y h = (not_later ys zs x y h.0, not_before ys zs y h.1)

-- ---- texts of terms

abbrev form0 : List ℤ → Form
form0 cs = record { coefficients = cs; constant = pos 0 }

no_sum : pos 0 +ℤ pos 0 ≡ pos 0
no_sum = omega (arith, ints)

added_nil : (cs : List ℤ) → added cs [] ≡ cs
added_nil [] = refl
added_nil (c ∷ cs) = refl

module _ (loops symbols : List (List ℕ)) (few : length loops ≤ 7) where
  abbrev names : List (List ℕ)
  names = loops ++ symbols

  abbrev form_of_part : Expression → Option Form
  form_of_part e = linear (length loops) names e

  limited_yes : (f : Form) → is_limited (length loops) f ≡ true → limited (length loops) (Some f) ≡ Some f
  limited_yes f h = ap (λ b. cond b (Some f) None) h

  -- a text that has these coefficients and no constant
  record IsText (e : Expression) (ps : List ℤ) : Type 0 where
    coefficients : List ℤ
    is : form_of_part e ≡ Some (form0 coefficients)
    alike : AreAlike coefficients ps
    stuck : Fault
    no_value : value_of (fortran77 Plain) e no_store ≡ Err stuck

  abbrev IsLimited : List ℤ → Type 0
  IsLimited ps = is_limited (length loops) (form0 ps) ≡ true

  constant_none : (e : Expression) (f : Fault) → value_of (fortran77 Plain) e no_store ≡ Err f → constant_of e ≡ None
  constant_none e f h = ap (λ r. as_constant (known r)) h

  limited_by : (qs ps : List ℤ) → AreAlike qs ps → IsLimited ps → IsLimited qs
  limited_by qs ps a l = limited_alike (length loops) qs ps (pos 0) a ∙ l

  name_form : (y : List ℕ) (us : List ℤ) → unit names y ≡ Some us → IsLimited us → form_of_part (variable y) ≡ Some (form0 us)
  name_form y us h l = ap (λ o. limited (length loops) (with_no_constant o)) h ∙ limited_yes (form0 us) l

  constant_limited : (z : ℤ) → is_small z ≡ true → is_limited (length loops) (constant_form z) ≡ true
  constant_limited z h =
      let most = none_dropped (length loops) in
      ap (λ b. b && nat_le (not_zero (drop (length loops) [])) 8) h ∙ le-leb (not_zero (drop (length loops) [])) 8 (omega (arith, most))

  number_form : (k : ℕ) → is_small (pos k) ≡ true → form_of_part (Number (pos k)) ≡ Some (constant_form (pos k))
  number_form k h = limited_yes (constant_form (pos k)) (constant_limited (pos k) h)

  times_form : (m : ℕ) (y : List ℕ) (us : List ℤ) → unit names y ≡ Some us → IsLimited us → is_small (pos m) ≡ true → IsLimited (map (λ a. pos m *ℤ a) us)
      → form_of_part (Binary Mul (Number (pos m)) (variable y)) ≡ Some (form0 (map (λ a. pos m *ℤ a) us))
  times_form m y us h l small k =
      ap₂ (λ p q. limited (length loops) (form_of_pair Mul (Some (pos m)) None p q)) (number_form m small) (name_form y us h l)
      ∙ (ap (λ z. limited (length loops) (Some (record { coefficients = map (λ a. pos m *ℤ a) us; constant = z }))) (*ℤ-zero (pos m))
      ∙ limited_yes (form0 (map (λ a. pos m *ℤ a) us)) k)

  one_times : (cs : List ℤ) → AreAlike cs (map (λ a. pos 1 *ℤ a) cs)
  one_times cs k = one (get_or cs k (pos 0)) ∙ sym (multiple_at (pos 1) cs k)
    where
      one : (x : ℤ) → x ≡ pos 1 *ℤ x
      one x = omega (arith, ints)

  term_text : (m : ℕ) (y : List ℕ) (us : List ℤ) → unit names y ≡ Some us → IsLimited us → is_small (pos m) ≡ true → IsLimited (map (λ a. pos m *ℤ a) us)
      → IsText (term m (variable y)) (map (λ a. pos m *ℤ a) us)
  term_text m y us h l small k = by (m == 1) refl
    where
      by : (b : Bool) → (m == 1) ≡ b → IsText (cond b (variable y) (Binary Mul (Number (pos m)) (variable y))) (map (λ a. pos m *ℤ a) us)
      by true e =
          let one : m ≡ 1 = eqb-true m 1 e in
          record {
            coefficients = us;
            is = name_form y us h l;
            alike = subst (λ m. AreAlike us (map (λ a. pos m *ℤ a) us)) (sym one) (one_times us);
            stuck = Allocated;
            no_value = refl;
          }
      by false e = record {
        coefficients = map (λ a. pos m *ℤ a) us;
        is = times_form m y us h l small k;
        alike = λ k. refl;
        stuck = Allocated;
        no_value = refl;
      }

  -- ---- two parts

  abbrev pair_form : Op → Expression → Expression → Option Form → Option Form → Option Form
  pair_form o e t p q = form_of_pair o (constant_of e) (constant_of t) p q

  form_of_two_parts : (o : Op) (e t : Expression) (f g : Form) → constant_of (Binary o e t) ≡ None → form_of_part e ≡ Some f → form_of_part t ≡ Some g
      → form_of_part (Binary o e t) ≡ limited (length loops) (pair_form o e t (Some f) (Some g))
  form_of_two_parts o e t f g c h k =
      ap (λ c. limited (length loops) (constant_or c (pair_form o e t (form_of_part e) (form_of_part t)))) c
      ∙ ap₂ (λ p q. limited (length loops) (pair_form o e t p q)) h k

  no_pair : (o : Op) (e t : Expression) (f : Fault) → value_of (fortran77 Plain) e no_store ≡ Err f → value_of (fortran77 Plain) (Binary o e t) no_store ≡ Err f
  no_pair o e t f h = ap (λ r. do x ← r; y ← value_of (fortran77 Plain) t no_store; apply o x y) h

  sum_text : (e t : Expression) (ps us ws : List ℤ) → IsText e ps → IsText t us → ((k : ℕ) → get_or ws k (pos 0) ≡ get_or ps k (pos 0) +ℤ get_or us k (pos 0))
      → IsLimited ws → IsText (Binary Add e t) ws
  sum_text e t ps us ws a b w l =
      let qs = added a.coefficients b.coefficients in
      let alike : AreAlike qs ws = (λ k. added_at a.coefficients b.coefficients k ∙ (ap₂ (λ p q. p +ℤ q) (a.alike k) (b.alike k) ∙ sym (w k))) in
      let none = no_pair Add e t a.stuck a.no_value in
      record {
        coefficients = qs;
        is = form_of_two_parts Add e t (form0 a.coefficients) (form0 b.coefficients) (constant_none (Binary Add e t) a.stuck none) a.is b.is
            ∙ (ap (λ z. limited (length loops) (Some (record { coefficients = qs; constant = z }))) no_sum ∙ limited_yes (form0 qs) (limited_by qs ws alike l));
        alike = alike;
        stuck = a.stuck;
        no_value = none;
      }

  less_zero : pos 0 +ℤ (negsuc 0 *ℤ pos 0) ≡ pos 0
  less_zero = ap (λ z. pos 0 +ℤ z) (*ℤ-zero (negsuc 0)) ∙ no_sum

  difference_text : (e t : Expression) (ps us ws : List ℤ) → IsText e ps → IsText t us → ((k : ℕ) → get_or ws k (pos 0) ≡ get_or ps k (pos 0) +ℤ negsuc 0 *ℤ get_or us k (pos 0))
      → IsLimited ws → IsText (Binary Sub e t) ws
  difference_text e t ps us ws a b w l =
      let rs = map (λ a. negsuc 0 *ℤ a) b.coefficients in
      let qs = added a.coefficients rs in
      let alike : AreAlike qs ws = (λ k. added_at a.coefficients rs k
      ∙ (ap₂ (λ p q. p +ℤ q) (a.alike k) (multiple_at (negsuc 0) b.coefficients k ∙ ap (λ q. negsuc 0 *ℤ q) (b.alike k)) ∙ sym (w k))) in
      let none = no_pair Sub e t a.stuck a.no_value in
      record {
        coefficients = qs;
        is = form_of_two_parts Sub e t (form0 a.coefficients) (form0 b.coefficients) (constant_none (Binary Sub e t) a.stuck none) a.is b.is
            ∙ (ap (λ z. limited (length loops) (Some (record { coefficients = qs; constant = z }))) less_zero ∙ limited_yes (form0 qs) (limited_by qs ws alike l));
        alike = alike;
        stuck = a.stuck;
        no_value = none;
      }

  negative_text : (t : Expression) (us ws : List ℤ) → IsText t us → ((k : ℕ) → get_or ws k (pos 0) ≡ negsuc 0 *ℤ get_or us k (pos 0)) → IsLimited ws → IsText (Unary Neg t) ws
  negative_text t us ws b w l =
      let qs = map (λ a. negsuc 0 *ℤ a) b.coefficients in
      let alike : AreAlike qs ws = (λ k. multiple_at (negsuc 0) b.coefficients k ∙ (ap (λ q. negsuc 0 *ℤ q) (b.alike k) ∙ sym (w k))) in
      let none : value_of (fortran77 Plain) (Unary Neg t) no_store ≡ Err b.stuck = ap (λ r. do x ← r; apply Neg x x) b.no_value in
      record {
        coefficients = qs;
        is = ap (λ c. limited (length loops) (constant_or c (form_of_sign Neg (form_of_part t)))) (constant_none (Unary Neg t) b.stuck none)
            ∙ (ap (λ o. limited (length loops) (form_of_sign Neg o)) b.is
            ∙ (ap (λ z. limited (length loops) (Some (record { coefficients = qs; constant = z }))) (*ℤ-zero (negsuc 0)) ∙ limited_yes (form0 qs) (limited_by qs ws alike l)));
        alike = alike;
        stuck = b.stuck;
        no_value = none;
      }

  -- ---- one more term, whatever its sign

  abbrev IsSoFar : Option Expression → List ℤ → Type 0
  IsSoFar None ps = AreAlike [] ps
  IsSoFar (Some e) ps = IsText e ps

  text_alike : (e : Expression) (ps qs : List ℤ) → AreAlike ps qs → IsText e ps → IsText e qs
  text_alike e ps qs h k = record { coefficients = k.coefficients; is = k.is; alike = λ i. k.alike i ∙ h i; stuck = k.stuck; no_value = k.no_value }

  so_far_alike : (o : Option Expression) (ps qs : List ℤ) → AreAlike ps qs → IsSoFar o ps → IsSoFar o qs
  so_far_alike None ps qs h k = λ i. k i ∙ h i
  so_far_alike (Some e) ps qs h k = text_alike e ps qs h k

  alone_limited : (k : ℕ) (c : ℤ) → is_small c ≡ true → IsLimited (alone k c)
  alone_limited k c h =
      let most = alone_counts (length loops) k c in
      ap (λ b. b && (is_small (pos 0) && nat_le (not_zero (drop (length loops) (alone k c))) 8)) (alone_small k c h)
      ∙ le-leb (not_zero (drop (length loops) (alone k c))) 8 (omega (arith, most))

  -- the name y stands behind the names ys, as many as there are coefficients
  module _ (ps : List ℤ) (ys zs : List (List ℕ)) (y : List ℕ) (split : names ≡ ys ++ y ∷ zs) (even : length ps ≡ length ys) (apart : NotAmong ys y) where
    ours : unit names y ≡ Some (alone (length ys) (pos 1))
    ours = ap (λ l. unit l y) split ∙ unit_at ys zs y apart

    abbrev scaled : ℕ → List ℤ
    scaled i = map (λ a. pos (suc i) *ℤ a) (alone (length ys) (pos 1))

    this_term : (i : ℕ) → is_small (pos (suc i)) ≡ true → IsText (term (suc i) (variable y)) (scaled i)
    this_term i h = term_text (suc i) y (alone (length ys) (pos 1)) ours (alone_limited (length ys) (pos 1) refl) h
        (limited_by (scaled i) (alone (length ys) (pos (suc i))) (scaled_alike (pos (suc i)) (length ys)) (alone_limited (length ys) (pos (suc i)) h))

    -- the coefficients with one more
    next : (c : ℤ) (k : ℕ) → get_or (ps ++ c ∷ []) k (pos 0) ≡ get_or ps k (pos 0) +ℤ get_or (alone (length ys) c) k (pos 0)
    next c k = next_at ps c k ∙ ap (λ n. get_or ps k (pos 0) +ℤ get_or (alone n c) k (pos 0)) even

    nothing_more : AreAlike ps (ps ++ pos 0 ∷ [])
    nothing_more k = sum_zero (get_or ps k (pos 0)) (get_or (alone (length ys) (pos 0)) k (pos 0)) (zero_alone (length ys) k) ∙ sym (next (pos 0) k)
      where
        sum_zero : (x z : ℤ) → z ≡ pos 0 → x ≡ x +ℤ z
        sum_zero x z h = omega (arith, ints, h)

    first_one : AreAlike [] ps → (c : ℤ) → AreAlike (alone (length ys) c) (ps ++ c ∷ [])
    first_one h c k = sym (next c k ∙ (ap (λ z. z +ℤ get_or (alone (length ys) c) k (pos 0)) (sym (h k)) ∙ +ℤ_idl (get_or (alone (length ys) c) k (pos 0))))

    step : (c : ℤ) → is_small c ≡ true → IsLimited (ps ++ c ∷ []) → (o : Option Expression) → IsSoFar o ps → IsSoFar (with_term o c (variable y)) (ps ++ c ∷ [])
    step (pos zero) s l o r = so_far_alike o ps (ps ++ pos 0 ∷ []) nothing_more r
    step (pos (suc i)) s l None r =
        text_alike (term (suc i) (variable y)) (scaled i) (ps ++ pos (suc i) ∷ []) (λ k. scaled_alike (pos (suc i)) (length ys) k ∙ first_one r (pos (suc i)) k) (this_term i s)
    step (pos (suc i)) s l (Some e) r =
        sum_text e (term (suc i) (variable y)) ps (scaled i) (ps ++ pos (suc i) ∷ []) r (this_term i s)
        (λ k. next (pos (suc i)) k ∙ ap (λ z. get_or ps k (pos 0) +ℤ z) (sym (scaled_alike (pos (suc i)) (length ys) k))) l
    step (negsuc i) s l None r =
        negative_text (term (suc i) (variable y)) (scaled i) (ps ++ negsuc i ∷ []) (this_term i s)
        (λ k. sym (first_one r (negsuc i) k) ∙ (sym (negated_alone i (length ys) k) ∙ ap (λ z. negsuc 0 *ℤ z) (sym (scaled_alike (pos (suc i)) (length ys) k)))) l
    step (negsuc i) s l (Some e) r =
        difference_text e (term (suc i) (variable y)) ps (scaled i) (ps ++ negsuc i ∷ []) r (this_term i s)
        (λ k. next (negsuc i) k ∙ ap (λ z. get_or ps k (pos 0) +ℤ z) (sym (negated_alone i (length ys) k) ∙ ap (λ z. negsuc 0 *ℤ z) (sym (scaled_alike (pos (suc i)) (length ys) k)))) l

  -- ---- all terms

  one_longer : {A B : Type 0} (xs : List A) (x : A) (ys : List B) (y : B) → length xs ≡ length ys → length (xs ++ x ∷ []) ≡ length (ys ++ y ∷ [])
  one_longer [] x [] y h = refl
  one_longer [] x (z ∷ ys) y h = cc
  one_longer (z ∷ xs) x [] y h = cc
  one_longer (z ∷ xs) x (w ∷ ys) y h = let same : length xs ≡ length ys = omega (arith, h) in ap suc (one_longer xs x ys y same)

  walk : (cs ps : List ℤ) (ys zs : List (List ℕ)) → names ≡ ys ++ zs → length ps ≡ length ys → AreDistinct (ys ++ zs) → (k : ℤ) → is_limited (length loops) (record { coefficients = ps ++ cs; constant = k }) ≡ true
      → length cs ≤ length zs → (o : Option Expression) → IsSoFar o ps → IsSoFar (with_terms o cs (variables zs)) (ps ++ cs)
  walk [] ps ys zs split even apart k l short o r = subst (IsSoFar o) (sym (append-nil ps)) r
  walk (c ∷ cs) ps ys [] split even apart k l short o r = absurd (omega (arith, short))
  walk (c ∷ cs) ps ys (y ∷ zs) split even apart k l short o r =
      let joined : (ps ++ c ∷ []) ++ cs ≡ ps ++ c ∷ cs = append_assoc ps (c ∷ []) cs in
      let named : (ys ++ y ∷ []) ++ zs ≡ ys ++ y ∷ zs = append_assoc ys (y ∷ []) zs in
      let limits : is_limited (length loops) (record { coefficients = (ps ++ c ∷ []) ++ cs; constant = k }) ≡ true
      = ap (λ cs. is_limited (length loops) (record { coefficients = cs; constant = k })) joined ∙ l in
      let small = small_next ps c cs (both (all_small (ps ++ c ∷ cs)) (is_small k && nat_le (not_zero (drop (length loops) (ps ++ c ∷ cs))) 8) l).0 in
      let front = limited_front (length loops) (ps ++ c ∷ []) cs k limits in
      let here = not_before ys zs y apart in
      subst (IsSoFar (with_terms (with_term o c (variable y)) cs (variables zs))) joined
      (walk cs (ps ++ c ∷ []) (ys ++ y ∷ []) zs (split ∙ sym named) (one_longer ps c ys y even) (subst AreDistinct (sym named) apart) k limits (omega (arith, short))
      (with_term o c (variable y)) (step ps ys zs y split even here c small front o r))

  -- ---- the constant

  limited_with : (ps : List ℤ) (k : ℤ) → IsLimited ps → is_small k ≡ true → is_limited (length loops) (record { coefficients = ps; constant = k }) ≡ true
  limited_with ps k h s =
      let parts = both (all_small ps) (is_small (pos 0) && nat_le (not_zero (drop (length loops) ps)) 8) h in
      ap (λ b. b && (is_small k && nat_le (not_zero (drop (length loops) ps)) 8)) parts.0 ∙ (ap (λ b. b && nat_le (not_zero (drop (length loops) ps)) 8) s ∙ parts.1)

  -- an expression has these coefficients and this constant
  pub record HasForm (e : Expression) (ps : List ℤ) (k : ℤ) : Type 0 where
    pub coefficients : List ℤ
    pub is : form_of_part e ≡ Some (record { coefficients = coefficients; constant = k })
    pub alike : AreAlike coefficients ps

  with_number : (e : Expression) (ps : List ℤ) (k : ℤ) (o : Op) (n : ℕ) → IsText e ps → IsLimited ps → is_small k ≡ true → is_small (pos n) ≡ true
      → ((q : List ℤ) → form_of_pair o (constant_of e) (Some (pos n)) (Some (form0 q)) (Some (constant_form (pos n))) ≡ Some (record { coefficients = q; constant = k }))
      → HasForm (Binary o e (Number (pos n))) ps k
  with_number e ps k o n a l small this pair =
      let E = Binary o e (Number (pos n)) in
      let f : Form = record { coefficients = a.coefficients; constant = k } in
      let none = no_pair o e (Number (pos n)) a.stuck a.no_value in
      let limits = limited_alike (length loops) a.coefficients ps k a.alike ∙ limited_with ps k l small in
      record {
        coefficients = a.coefficients;
        is = form_of_two_parts o e (Number (pos n)) (form0 a.coefficients) (constant_form (pos n)) (constant_none E a.stuck none) a.is (number_form n this)
            ∙ (ap (limited (length loops)) (pair a.coefficients) ∙ limited_yes f limits);
        alike = a.alike;
      }

  negative_constant : (n : ℕ) → is_small (negsuc n) ≡ true → constant_of (Unary Neg (Number (pos (suc n)))) ≡ Some (negsuc n)
  negative_constant n h =
      let size = leb-true (nat_abs (negsuc n)) (2 ^ 40) h in
      let room : fits 127 (negsuc n) ≡ true = within_fits (negsuc n) (omega (arith, size)) in
      ap (λ b. let r : Result Value Fault = cond b (Ok (Int (negsuc n))) (Err Overflow) in as_constant (known r)) room

  whole : (o : Option Expression) (ps : List ℤ) (k : ℤ) → IsSoFar o ps → IsLimited ps → is_small k ≡ true → HasForm (with_constant o k) ps k
  whole None ps (pos n) r l s = record { coefficients = []; is = number_form n s; alike = r }
  whole None ps (negsuc n) r l s = record {
    coefficients = [];
    is = ap (λ c. limited (length loops) (constant_or c (form_of_sign Neg (form_of_part (Number (pos (suc n))))))) (negative_constant n s)
        ∙ limited_yes (constant_form (negsuc n)) (constant_limited (negsuc n) s);
    alike = r;
  }
  whole (Some e) ps (pos zero) r l s = record { coefficients = r.coefficients; is = r.is; alike = r.alike }
  whole (Some e) ps (pos (suc i)) r l s = with_number e ps (pos (suc i)) Add (suc i) r l s s
      (λ q. ap₂ (λ (cs : List ℤ) (z : ℤ). Some (record { coefficients = cs; constant = z })) (added_nil q) (+ℤ_idl (pos (suc i))))
  whole (Some e) ps (negsuc i) r l s = with_number e ps (negsuc i) Sub (suc i) r l s s
      (λ q. ap₂ (λ (cs : List ℤ) (z : ℤ). Some (record { coefficients = cs; constant = z })) (added_nil q) (less i))
    where
      less : (i : ℕ) → pos 0 +ℤ (negsuc 0 *ℤ pos (suc i)) ≡ negsuc i
      less i = omega (arith, ints)

  pub text_has_form : AreDistinct names → (f : Form) → is_limited (length loops) f ≡ true → length f.coefficients ≤ length names → HasForm (expressed (variables names) f) f.coefficients f.constant
  text_has_form apart f h short =
      let small = (both (is_small f.constant) (nat_le (not_zero (drop (length loops) f.coefficients)) 8)
      (both (all_small f.coefficients) (is_small f.constant && nat_le (not_zero (drop (length loops) f.coefficients)) 8) h).1).0 in
      let limits = limited_front (length loops) f.coefficients [] f.constant
      (ap (λ cs. is_limited (length loops) (record { coefficients = cs; constant = f.constant })) (append-nil f.coefficients) ∙ h) in
      whole (with_terms None f.coefficients (variables names)) f.coefficients f.constant
      (walk f.coefficients [] [] names refl refl apart f.constant h short None (λ k. refl)) limits small

  pub form_of_text : (e : Expression) → form_of loops symbols e ≡ form_of_part e
  form_of_text e = whole_form loops symbols few e
