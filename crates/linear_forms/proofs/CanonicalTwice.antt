-- The canonical text of a form is its own canonical text.
use Rattle.std.proofs.Common.{◌≡◌, refl, sym, ap, ◌∙◌, subst, ℕ, zero, suc, ◌+◌, ◌^◌, ◌≤◌, ℤ, pos, negsuc, ◌+ℤ◌, ◌-ℤ◌, ◌*ℤ◌, neg_ℤ, Bool, true, false, cond, ◌&&◌, ◌||◌, List, [], ◌∷◌, ◌++◌, map, drop, length, get_or, replicate, Result, Ok, Err, Option, Some, None, append-nil, append_assoc, arith}
use Rattle.std.specs.Prelude.{nat_abs, nat_le, ◌==◌}
use Rattle.std.specs.Str.{bytes_eq}
use Rattle.std.specs.Ordering.{int_eq}
use Rattle.std.specs.List.{AllByRecursion}
use Rattle.std.proofs.lemmas.Bool.{leb-true, le-leb, eqb-true}
use Rattle.std.proofs.lemmas.Int.{ints}
use Rattle.std.proofs.lemmas.List.{get_or-drop}
use Rattle.std.proofs.lemmas.Slice.Eq.{bytes_eq-Decides}
use Rattle.std.proofs.Math.IntN.{*ℤ-zero, +ℤ_idl}
use mathlib.Core.Path.{ap₂}
use Rattle.tree.specs.Steps.{◌>>=◌}
use Rattle.tree.specs.Operators.{apply}
use Rattle.tree.specs.declared.ops.Op.{Op}
use Rattle.tree.specs.declared.ops.Op.TheVariants.{Mul, Neg, Add, Sub}
use Rattle.tree.specs.declared.ops.Fault.{Fault}
use Rattle.tree.specs.declared.ops.Fault.TheVariants.{Allocated}
use Rattle.tree.specs.declared.ops.Value.{Value}
use Rattle.tree.specs.declared.ops.Value.TheVariants.{Int}
use Rattle.tree.specs.Plain.{Expression, Number, Named, Unary, Binary, no_subscripts}
use Rattle.meaning.specs.Dialect.{fortran77}
use Rattle.tree.specs.declared.width.Width.TheVariants.{Plain}
use Rattle.meaning.specs.Names.{is_among}
use Rattle.meaning.specs.Value.{value_of}
use Rattle.rewrite.specs.Making.{made}
use Rattle.rewrite.specs.Names.{mentions}
use Rattle.linear_forms.specs.Canonical.{text_or, canonical_text, canonical_node, canonising}
use Rattle.linear_forms.specs.CanonicalLaws.{AreDistinct}
use Rattle.linear_forms.specs.Linear.{Form, added, sum, multiple, constant_form, is_small, all_small, not_zero, is_limited, limited, no_store, known, as_constant, constant_of, unit, with_zero, with_no_constant, form_of, form_of_name, form_of_pair, form_of_sign, constant_or, linear}
use Rattle.linear_forms.specs.Expressed.{term, plus_term, minus_term, with_term, with_terms, with_constant, expressed, variable, variables}
use Rattle.linear_forms.proofs.AffineTexts.{places_alike}
use Rattle.linear_forms.proofs.Sizes.{both}
use Rattle.linear_forms.proofs.CanonicalRule.{name-node}
use Rattle.linear_forms.proofs.Units.{unit_limited}

-- ---- lists of coefficients that are alike, but for zeros at the end

abbrev Alike : List ℤ → List ℤ → Type 0
Alike cs ds = (k : ℕ) → get_or cs k (pos 0) ≡ get_or ds k (pos 0)

small-alike : (cs ds : List ℤ) → Alike cs ds → all_small cs ≡ all_small ds
small-alike [] [] h = refl
small-alike [] (d ∷ ds) h = small-alike [] ds (λ k. h (suc k)) ∙ ap (λ d. is_small d && all_small ds) (h zero)
small-alike (c ∷ cs) [] h = ap (λ c. is_small c && all_small cs) (h zero) ∙ small-alike cs [] (λ k. h (suc k))
small-alike (c ∷ cs) (d ∷ ds) h = ap₂ (λ c b. is_small c && b) (h zero) (small-alike cs ds (λ k. h (suc k)))

count-alike : (cs ds : List ℤ) → Alike cs ds → not_zero cs ≡ not_zero ds
count-alike [] [] h = refl
count-alike [] (d ∷ ds) h = count-alike [] ds (λ k. h (suc k)) ∙ ap (λ d. cond (int_eq d (pos 0)) (not_zero ds) (suc (not_zero ds))) (h zero)
count-alike (c ∷ cs) [] h = ap (λ c. cond (int_eq c (pos 0)) (not_zero cs) (suc (not_zero cs))) (h zero) ∙ count-alike cs [] (λ k. h (suc k))
count-alike (c ∷ cs) (d ∷ ds) h = ap₂ (λ c n. cond (int_eq c (pos 0)) n (suc n)) (h zero) (count-alike cs ds (λ k. h (suc k)))

drop-alike : (n : ℕ) (cs ds : List ℤ) → Alike cs ds → Alike (drop n cs) (drop n ds)
drop-alike n cs ds h k = get_or-drop n cs k (pos 0) ∙ (h (n + k) ∙ sym (get_or-drop n ds k (pos 0)))

limited-alike : (n : ℕ) (cs ds : List ℤ) (k : ℤ) → Alike cs ds → is_limited n (record { coefficients = cs; constant = k }) ≡ is_limited n (record { coefficients = ds; constant = k })
limited-alike n cs ds k h =
    ap₂ (λ a m. a && (is_small k && nat_le m 8)) (small-alike cs ds h) (count-alike (drop n cs) (drop n ds) (drop-alike n cs ds h))

added-at : (cs ds : List ℤ) (k : ℕ) → get_or (added cs ds) k (pos 0) ≡ get_or cs k (pos 0) +ℤ get_or ds k (pos 0)
added-at [] ds k = sym (+ℤ_idl (get_or ds k (pos 0)))
added-at (c ∷ cs) [] k = omega (arith, ints)
added-at (c ∷ cs) (d ∷ ds) zero = refl
added-at (c ∷ cs) (d ∷ ds) (suc k) = added-at cs ds k

multiple-at : (m : ℤ) (cs : List ℤ) (k : ℕ) → get_or (map (λ a. m *ℤ a) cs) k (pos 0) ≡ m *ℤ get_or cs k (pos 0)
multiple-at m [] k = sym (*ℤ-zero m)
multiple-at m (c ∷ cs) zero = refl
multiple-at m (c ∷ cs) (suc k) = multiple-at m cs k

-- ---- the front of a list of coefficients

small-front : (ps cs : List ℤ) → all_small (ps ++ cs) ≡ true → all_small ps ≡ true
small-front [] cs h = refl
small-front (p ∷ ps) cs h = let b = both (is_small p) (all_small (ps ++ cs)) h in ap (λ b. b && all_small ps) b.0 ∙ small-front ps cs b.1

small-next : (ps : List ℤ) (c : ℤ) (cs : List ℤ) → all_small (ps ++ c ∷ cs) ≡ true → is_small c ≡ true
small-next [] c cs h = (both (is_small c) (all_small cs) h).0
small-next (p ∷ ps) c cs h = small-next ps c cs (both (is_small p) (all_small (ps ++ c ∷ cs)) h).1

count-front : (ps cs : List ℤ) → not_zero ps ≤ not_zero (ps ++ cs)
count-front [] cs = omega arith
count-front (p ∷ ps) cs = by (int_eq p (pos 0)) (count-front ps cs)
  where
    by : (b : Bool) → not_zero ps ≤ not_zero (ps ++ cs) → cond b (not_zero ps) (suc (not_zero ps)) ≤ cond b (not_zero (ps ++ cs)) (suc (not_zero (ps ++ cs)))
    by true h = h
    by false h = omega (arith, h)

dropped-front : (n : ℕ) (ps cs : List ℤ) → not_zero (drop n ps) ≤ not_zero (drop n (ps ++ cs))
dropped-front zero ps cs = count-front ps cs
dropped-front (suc n) [] cs = omega arith
dropped-front (suc n) (p ∷ ps) cs = dropped-front n ps cs

limited-front : (n : ℕ) (ps cs : List ℤ) (k : ℤ) → is_limited n (record { coefficients = ps ++ cs; constant = k }) ≡ true → is_limited n (record { coefficients = ps; constant = pos 0 }) ≡ true
limited-front n ps cs k h =
    let parts = both (all_small (ps ++ cs)) (is_small k && nat_le (not_zero (drop n (ps ++ cs))) 8) h in
    let more = both (is_small k) (nat_le (not_zero (drop n (ps ++ cs))) 8) parts.1 in
    let most = leb-true (not_zero (drop n (ps ++ cs))) 8 more.1 in
    let fewer = dropped-front n ps cs in
    ap (λ b. b && (is_small (pos 0) && nat_le (not_zero (drop n ps)) 8)) (small-front ps cs parts.0) ∙ le-leb (not_zero (drop n ps)) 8 (omega (arith, most, fewer))

none_dropped : (n : ℕ) → not_zero (drop n []) ≤ 1
none_dropped zero = omega arith
none_dropped (suc n) = omega arith

-- ---- one more term

more_terms : (o : Option Expression) (ps : List ℤ) (c : ℤ) (ts : List Expression) (t : Expression) (us : List Expression) → length ps ≡ length ts
    → with_terms o (ps ++ c ∷ []) (ts ++ t ∷ us) ≡ with_term (with_terms o ps (ts ++ t ∷ us)) c t
more_terms o [] c [] t us h = refl
more_terms o [] c (x ∷ ts) t us h = cc
more_terms o (p ∷ ps) c [] t us h = cc
more_terms o (p ∷ ps) c (x ∷ ts) t us h = let same : length ps ≡ length ts = omega (arith, h) in more_terms (with_term o p x) ps c ts t us same

-- the coefficient c in the place k alone
abbrev alone : ℕ → ℤ → List ℤ
alone k c = replicate k (pos 0) ++ c ∷ []

next-at : (ps : List ℤ) (c : ℤ) (k : ℕ) → get_or (ps ++ c ∷ []) k (pos 0) ≡ get_or ps k (pos 0) +ℤ get_or (alone (length ps) c) k (pos 0)
next-at [] c k = sym (+ℤ_idl (get_or (c ∷ []) k (pos 0)))
next-at (p ∷ ps) c zero = omega (arith, ints)
next-at (p ∷ ps) c (suc k) = next-at ps c k

zero-alone : (n k : ℕ) → get_or (alone n (pos 0)) k (pos 0) ≡ pos 0
zero-alone zero zero = refl
zero-alone zero (suc k) = refl
zero-alone (suc n) zero = refl
zero-alone (suc n) (suc k) = zero-alone n k

scaled-alone : (m : ℤ) (n k : ℕ) → m *ℤ get_or (alone n (pos 1)) k (pos 0) ≡ get_or (alone n m) k (pos 0)
scaled-alone m zero zero = one m
  where
    one : (m : ℤ) → m *ℤ pos 1 ≡ m
    one m = omega (arith, ints)
scaled-alone m zero (suc k) = *ℤ-zero m
scaled-alone m (suc n) zero = *ℤ-zero m
scaled-alone m (suc n) (suc k) = scaled-alone m n k

-- ---- where a name stands

abbrev NotAmong : List (List ℕ) → List ℕ → Type 0
NotAmong ys y = AllByRecursion (λ x. bytes_eq x y ≡ false) ys

unit-at : (ys zs : List (List ℕ)) (y : List ℕ) → NotAmong ys y → unit (ys ++ y ∷ zs) y ≡ Some (alone (length ys) (pos 1))
unit-at [] zs y h = ap (λ b. cond b (Some (pos 1 ∷ [])) (with_zero (unit zs y))) ((bytes_eq-Decides y y).1 refl)
unit-at (x ∷ ys) zs y h = ap (λ b. cond b (Some (pos 1 ∷ [])) (with_zero (unit (ys ++ y ∷ zs) y))) h.0 ∙ ap with_zero (unit-at ys zs y h.1)

either : (a b : Bool) → (a || b) ≡ false → (a ≡ false) × (b ≡ false)
either true b h = cc
either false b h = (refl, h)

not_later : (ys zs : List (List ℕ)) (x y : List ℕ) → is_among (ys ++ y ∷ zs) x ≡ false → bytes_eq x y ≡ false
not_later [] zs x y h = (either (bytes_eq x y) (is_among zs x) h).0
not_later (z ∷ ys) zs x y h = not_later ys zs x y (either (bytes_eq x z) (is_among (ys ++ y ∷ zs) x) h).1

not_before : (ys zs : List (List ℕ)) (y : List ℕ) → AreDistinct (ys ++ y ∷ zs) → NotAmong ys y
not_before [] zs y h = tt
not_before (x ∷ ys) zs y h = (not_later ys zs x y h.0, not_before ys zs y h.1)

-- ---- sums of terms

abbrev form0 : List ℤ → Form
form0 cs = record { coefficients = cs; constant = pos 0 }

no_sum : pos 0 +ℤ pos 0 ≡ pos 0
no_sum = omega (arith, ints)

module _ (loops symbols : List (List ℕ)) (few : length loops ≤ 7) where
  abbrev names : List (List ℕ)
  names = loops ++ symbols

  abbrev form_of_part : Expression → Option Form
  form_of_part e = linear (length loops) names e

  abbrev node : Expression → Expression → Expression
  node = canonical_node loops symbols

  abbrev settled : Expression → Expression
  settled = made (canonising loops symbols)

  pub whole_form : (e : Expression) → form_of loops symbols e ≡ form_of_part e
  whole_form e = ap (λ b. cond b (form_of_part e) None) (le-leb (length loops) 7 few)

  stays : (first e : Expression) (f : Form) → form_of_part e ≡ Some f → expressed (variables names) f ≡ e → node first e ≡ e
  stays first e f h k = by (mentions loops first)
    where
      by : (b : Bool) → cond b (canonical_text loops symbols e) e ≡ e
      by true = ap (λ o. text_or loops symbols o e) (whole_form e ∙ h) ∙ k
      by false = refl

  limited_yes : (f : Form) → is_limited (length loops) f ≡ true → limited (length loops) (Some f) ≡ Some f
  limited_yes f h = ap (λ b. cond b (Some f) None) h

  -- an expression that is its own canonical text, with the coefficients of its form, and no constant
  record Kept (e : Expression) (ps : List ℤ) : Type 0 where
    fixed : settled e ≡ e
    coefficients : List ℤ
    is : form_of_part e ≡ Some (form0 coefficients)
    alike : Alike coefficients ps
    stuck : Fault
    no_value : value_of (fortran77 Plain) e no_store ≡ Err stuck

  abbrev IsLimited : List ℤ → Type 0
  IsLimited ps = is_limited (length loops) (form0 ps) ≡ true

  abbrev Text : List ℤ → Option Expression
  Text ps = with_terms None ps (variables names)

  -- a node over parts that stay, by its text
  from_text : (first e : Expression) (qs ps : List ℤ) → form_of_part e ≡ Some (form0 qs) → Alike qs ps → Text ps ≡ Some e → node first e ≡ e
  from_text first e qs ps h a t =
      stays first e (form0 qs) h (ap (λ (o : Option Expression). with_constant o (pos 0)) (places_alike None qs ps (variables names) a ∙ t))

  constant_none : (e : Expression) (f : Fault) → value_of (fortran77 Plain) e no_store ≡ Err f → constant_of e ≡ None
  constant_none e f h = ap (λ r. as_constant (known r)) h

  -- ---- a name, with its coefficient

  name_form : (y : List ℕ) (us : List ℤ) → unit names y ≡ Some us → IsLimited us → form_of_part (variable y) ≡ Some (form0 us)
  name_form y us h l = ap (λ o. limited (length loops) (with_no_constant o)) h ∙ limited_yes (form0 us) l

  name_stays : (y : List ℕ) → settled (variable y) ≡ variable y
  name_stays y = name-node 0 loops symbols (variable y) y no_subscripts

  constant_limited : (z : ℤ) → is_small z ≡ true → is_limited (length loops) (constant_form z) ≡ true
  constant_limited z h =
      let most = none_dropped (length loops) in
      ap (λ b. b && nat_le (not_zero (drop (length loops) [])) 8) h ∙ le-leb (not_zero (drop (length loops) [])) 8 (omega (arith, most))

  number_form : (k : ℕ) → is_small (pos k) ≡ true → form_of_part (Number (pos k)) ≡ Some (constant_form (pos k))
  number_form k h = limited_yes (constant_form (pos k)) (constant_limited (pos k) h)

  times_form : (m : ℕ) (y : List ℕ) (us : List ℤ) → unit names y ≡ Some us → IsLimited us → is_small (pos m) ≡ true → IsLimited (map (λ a. pos m *ℤ a) us)
      → form_of_part (Binary Mul (Number (pos m)) (variable y)) ≡ Some (form0 (map (λ a. pos m *ℤ a) us))
  times_form m y us h l small k =
      ap₂ (λ p q. limited (length loops) (form_of_pair Mul (Some (pos m)) None p q)) (number_form m small) (name_form y us h l)
      ∙ (ap (λ z. limited (length loops) (Some (record { coefficients = map (λ a. pos m *ℤ a) us; constant = z }))) (*ℤ-zero (pos m))
      ∙ limited_yes (form0 (map (λ a. pos m *ℤ a) us)) k)

  one_times : (cs : List ℤ) → Alike cs (map (λ a. pos 1 *ℤ a) cs)
  one_times cs k = one (get_or cs k (pos 0)) ∙ sym (multiple-at (pos 1) cs k)
    where
      one : (x : ℤ) → x ≡ pos 1 *ℤ x
      one x = omega (arith, ints)

  term_kept : (m : ℕ) (y : List ℕ) (us : List ℤ) → unit names y ≡ Some us → IsLimited us → is_small (pos m) ≡ true → IsLimited (map (λ a. pos m *ℤ a) us)
      → Text (map (λ a. pos m *ℤ a) us) ≡ Some (term m (variable y)) → Kept (term m (variable y)) (map (λ a. pos m *ℤ a) us)
  term_kept m y us h l small k t = by (m == 1) refl t
    where
      by : (b : Bool) → (m == 1) ≡ b → Text (map (λ a. pos m *ℤ a) us) ≡ Some (cond b (variable y) (Binary Mul (Number (pos m)) (variable y)))
          → Kept (cond b (variable y) (Binary Mul (Number (pos m)) (variable y))) (map (λ a. pos m *ℤ a) us)
      by true e t =
          let one : m ≡ 1 = eqb-true m 1 e in
          record {
            fixed = name_stays y;
            coefficients = us;
            is = name_form y us h l;
            alike = subst (λ m. Alike us (map (λ a. pos m *ℤ a) us)) (sym one) (one_times us);
            stuck = Allocated;
            no_value = refl;
          }
      by false e t =
          let f = times_form m y us h l small k in
          let e = Binary Mul (Number (pos m)) (variable y) in
          record {
            fixed = ap (λ v. node e (Binary Mul (Number (pos m)) v)) (name_stays y) ∙ from_text e e (map (λ a. pos m *ℤ a) us) (map (λ a. pos m *ℤ a) us) f (λ k. refl) t;
            coefficients = map (λ a. pos m *ℤ a) us;
            is = f;
            alike = λ k. refl;
            stuck = Allocated;
            no_value = refl;
          }

  -- ---- two parts

  abbrev pair_form : Op → Expression → Expression → Option Form → Option Form → Option Form
  pair_form o e t p q = form_of_pair o (constant_of e) (constant_of t) p q

  form_of_two_parts : (o : Op) (e t : Expression) (f g : Form) → constant_of (Binary o e t) ≡ None → form_of_part e ≡ Some f → form_of_part t ≡ Some g
      → form_of_part (Binary o e t) ≡ limited (length loops) (pair_form o e t (Some f) (Some g))
  form_of_two_parts o e t f g c h k =
      ap (λ c. limited (length loops) (constant_or c (pair_form o e t (form_of_part e) (form_of_part t)))) c
      ∙ ap₂ (λ p q. limited (length loops) (pair_form o e t p q)) h k

  no_pair : (o : Op) (e t : Expression) (f : Fault) → value_of (fortran77 Plain) e no_store ≡ Err f → value_of (fortran77 Plain) (Binary o e t) no_store ≡ Err f
  no_pair o e t f h = ap (λ r. do x ← r; y ← value_of (fortran77 Plain) t no_store; apply o x y) h

  both_fixed : (o : Op) (e t : Expression) → settled e ≡ e → settled t ≡ t → node (Binary o e t) (Binary o e t) ≡ Binary o e t → settled (Binary o e t) ≡ Binary o e t
  both_fixed o e t h k n = ap₂ (λ a b. node (Binary o e t) (Binary o a b)) h k ∙ n

  limited_by : (qs ps : List ℤ) → Alike qs ps → IsLimited ps → IsLimited qs
  limited_by qs ps a l = limited-alike (length loops) qs ps (pos 0) a ∙ l

  sum_kept : (e t : Expression) (ps us ws : List ℤ) → Kept e ps → Kept t us → ((k : ℕ) → get_or ws k (pos 0) ≡ get_or ps k (pos 0) +ℤ get_or us k (pos 0))
      → IsLimited ws → Text ws ≡ Some (Binary Add e t) → Kept (Binary Add e t) ws
  sum_kept e t ps us ws a b w l x =
      let qs = added a.coefficients b.coefficients in
      let alike : Alike qs ws = (λ k. added-at a.coefficients b.coefficients k ∙ (ap₂ (λ p q. p +ℤ q) (a.alike k) (b.alike k) ∙ sym (w k))) in
      let none = no_pair Add e t a.stuck a.no_value in
      let form : form_of_part (Binary Add e t) ≡ Some (form0 qs) =
      form_of_two_parts Add e t (form0 a.coefficients) (form0 b.coefficients) (constant_none (Binary Add e t) a.stuck none) a.is b.is
      ∙ (ap (λ z. limited (length loops) (Some (record { coefficients = qs; constant = z }))) no_sum ∙ limited_yes (form0 qs) (limited_by qs ws alike l)) in
      record {
        fixed = both_fixed Add e t a.fixed b.fixed (from_text (Binary Add e t) (Binary Add e t) qs ws form alike x);
        coefficients = qs;
        is = form;
        alike = alike;
        stuck = a.stuck;
        no_value = none;
      }

  less_zero : pos 0 +ℤ (negsuc 0 *ℤ pos 0) ≡ pos 0
  less_zero = ap (λ z. pos 0 +ℤ z) (*ℤ-zero (negsuc 0)) ∙ no_sum

  difference_kept : (e t : Expression) (ps us ws : List ℤ) → Kept e ps → Kept t us → ((k : ℕ) → get_or ws k (pos 0) ≡ get_or ps k (pos 0) +ℤ negsuc 0 *ℤ get_or us k (pos 0))
      → IsLimited ws → Text ws ≡ Some (Binary Sub e t) → Kept (Binary Sub e t) ws
  difference_kept e t ps us ws a b w l x =
      let rs = map (λ a. negsuc 0 *ℤ a) b.coefficients in
      let qs = added a.coefficients rs in
      let alike : Alike qs ws = (λ k. added-at a.coefficients rs k
      ∙ (ap₂ (λ p q. p +ℤ q) (a.alike k) (multiple-at (negsuc 0) b.coefficients k ∙ ap (λ q. negsuc 0 *ℤ q) (b.alike k)) ∙ sym (w k))) in
      let none = no_pair Sub e t a.stuck a.no_value in
      let form : form_of_part (Binary Sub e t) ≡ Some (form0 qs) =
      form_of_two_parts Sub e t (form0 a.coefficients) (form0 b.coefficients) (constant_none (Binary Sub e t) a.stuck none) a.is b.is
      ∙ (ap (λ z. limited (length loops) (Some (record { coefficients = qs; constant = z }))) less_zero ∙ limited_yes (form0 qs) (limited_by qs ws alike l)) in
      record {
        fixed = both_fixed Sub e t a.fixed b.fixed (from_text (Binary Sub e t) (Binary Sub e t) qs ws form alike x);
        coefficients = qs;
        is = form;
        alike = alike;
        stuck = a.stuck;
        no_value = none;
      }

  negative_kept : (t : Expression) (us ws : List ℤ) → Kept t us → ((k : ℕ) → get_or ws k (pos 0) ≡ negsuc 0 *ℤ get_or us k (pos 0))
      → IsLimited ws → Text ws ≡ Some (Unary Neg t) → Kept (Unary Neg t) ws
  negative_kept t us ws b w l x =
      let qs = map (λ a. negsuc 0 *ℤ a) b.coefficients in
      let alike : Alike qs ws = (λ k. multiple-at (negsuc 0) b.coefficients k ∙ (ap (λ q. negsuc 0 *ℤ q) (b.alike k) ∙ sym (w k))) in
      let none : value_of (fortran77 Plain) (Unary Neg t) no_store ≡ Err b.stuck = ap (λ r. do x ← r; apply Neg x x) b.no_value in
      let form : form_of_part (Unary Neg t) ≡ Some (form0 qs) =
      ap (λ c. limited (length loops) (constant_or c (form_of_sign Neg (form_of_part t)))) (constant_none (Unary Neg t) b.stuck none)
      ∙ (ap (λ o. limited (length loops) (form_of_sign Neg o)) b.is
      ∙ (ap (λ z. limited (length loops) (Some (record { coefficients = qs; constant = z }))) (*ℤ-zero (negsuc 0)) ∙ limited_yes (form0 qs) (limited_by qs ws alike l))) in
      record {
        fixed = ap (λ a. node (Unary Neg t) (Unary Neg a)) b.fixed ∙ from_text (Unary Neg t) (Unary Neg t) qs ws form alike x;
        coefficients = qs;
        is = form;
        alike = alike;
        stuck = b.stuck;
        no_value = none;
      }

  -- ---- one more term, whatever its sign

  abbrev Ready : Option Expression → List ℤ → Type 0
  Ready None ps = Alike [] ps
  Ready (Some e) ps = Kept e ps

  kept_alike : (e : Expression) (ps qs : List ℤ) → Alike ps qs → Kept e ps → Kept e qs
  kept_alike e ps qs h k = record { fixed = k.fixed; coefficients = k.coefficients; is = k.is; alike = λ i. k.alike i ∙ h i; stuck = k.stuck; no_value = k.no_value }

  ready_alike : (o : Option Expression) (ps qs : List ℤ) → Alike ps qs → Ready o ps → Ready o qs
  ready_alike None ps qs h k = λ i. k i ∙ h i
  ready_alike (Some e) ps qs h k = kept_alike e ps qs h k

  variables-append : (ys zs : List (List ℕ)) → variables (ys ++ zs) ≡ variables ys ++ variables zs
  variables-append [] zs = refl
  variables-append (y ∷ ys) zs = ap (λ ts. variable y ∷ ts) (variables-append ys zs)

  variables-length : (ys : List (List ℕ)) → length (variables ys) ≡ length ys
  variables-length [] = refl
  variables-length (y ∷ ys) = ap suc (variables-length ys)

  zeros-length : (n : ℕ) → length (replicate n (pos 0)) ≡ n
  zeros-length zero = refl
  zeros-length (suc n) = ap suc (zeros-length n)

  zeros_left : (n : ℕ) (ts : List Expression) → with_terms None (replicate n (pos 0)) ts ≡ None
  zeros_left zero ts = refl
  zeros_left (suc n) [] = refl
  zeros_left (suc n) (t ∷ ts) = zeros_left n ts

  alone_small : (k : ℕ) (c : ℤ) → is_small c ≡ true → all_small (alone k c) ≡ true
  alone_small zero c h = ap (λ b. b && true) h
  alone_small (suc k) c h = alone_small k c h

  alone_counts : (n k : ℕ) (c : ℤ) → not_zero (drop n (alone k c)) ≤ 1
  alone_counts zero zero c = by (int_eq c (pos 0))
    where
      by : (b : Bool) → cond b 0 1 ≤ 1
      by true = omega arith
      by false = omega arith
  alone_counts zero (suc k) c = alone_counts zero k c
  alone_counts (suc n) zero c = none_dropped n
  alone_counts (suc n) (suc k) c = alone_counts n k c

  alone_limited : (k : ℕ) (c : ℤ) → is_small c ≡ true → IsLimited (alone k c)
  alone_limited k c h =
      let most = alone_counts (length loops) k c in
      ap (λ b. b && (is_small (pos 0) && nat_le (not_zero (drop (length loops) (alone k c))) 8)) (alone_small k c h)
      ∙ le-leb (not_zero (drop (length loops) (alone k c))) 8 (omega (arith, most))

  scaled_alike : (m : ℤ) (n : ℕ) → Alike (map (λ a. m *ℤ a) (alone n (pos 1))) (alone n m)
  scaled_alike m n k = multiple-at m (alone n (pos 1)) k ∙ scaled-alone m n k

  negated-alone : (i n k : ℕ) → negsuc 0 *ℤ get_or (alone n (pos (suc i))) k (pos 0) ≡ get_or (alone n (negsuc i)) k (pos 0)
  negated-alone i zero zero = one i
    where
      one : (i : ℕ) → negsuc 0 *ℤ pos (suc i) ≡ negsuc i
      one i = omega (arith, ints)
  negated-alone i zero (suc k) = *ℤ-zero (negsuc 0)
  negated-alone i (suc n) zero = *ℤ-zero (negsuc 0)
  negated-alone i (suc n) (suc k) = negated-alone i n k

  -- the name y stands behind the names ys, as many as there are coefficients
  module _ (ps : List ℤ) (ys zs : List (List ℕ)) (y : List ℕ) (split : names ≡ ys ++ y ∷ zs) (even : length ps ≡ length ys) (apart : NotAmong ys y) where
    all_terms : variables names ≡ variables ys ++ variable y ∷ variables zs
    all_terms = ap variables split ∙ variables-append ys (y ∷ zs)

    text_next : (c : ℤ) → Text (ps ++ c ∷ []) ≡ with_term (Text ps) c (variable y)
    text_next c =
        ap (λ ts. with_terms None (ps ++ c ∷ []) ts) all_terms
        ∙ (more_terms None ps c (variables ys) (variable y) (variables zs) (even ∙ sym (variables-length ys))
        ∙ ap (λ ts. with_term (with_terms None ps ts) c (variable y)) (sym all_terms))

    text_alone : (c : ℤ) → Text (alone (length ys) c) ≡ with_term None c (variable y)
    text_alone c =
        ap (λ ts. with_terms None (alone (length ys) c) ts) all_terms
        ∙ (more_terms None (replicate (length ys) (pos 0)) c (variables ys) (variable y) (variables zs) (zeros-length (length ys) ∙ sym (variables-length ys))
        ∙ ap (λ o. with_term o c (variable y)) (zeros_left (length ys) (variables ys ++ variable y ∷ variables zs)))

    ours : unit names y ≡ Some (alone (length ys) (pos 1))
    ours = ap (λ l. unit l y) split ∙ unit-at ys zs y apart

    abbrev scaled : ℕ → List ℤ
    scaled i = map (λ a. pos (suc i) *ℤ a) (alone (length ys) (pos 1))

    this_term : (i : ℕ) → is_small (pos (suc i)) ≡ true → Kept (term (suc i) (variable y)) (scaled i)
    this_term i h = term_kept (suc i) y (alone (length ys) (pos 1)) ours (alone_limited (length ys) (pos 1) refl) h
        (limited_by (scaled i) (alone (length ys) (pos (suc i))) (scaled_alike (pos (suc i)) (length ys)) (alone_limited (length ys) (pos (suc i)) h))
        (places_alike None (scaled i) (alone (length ys) (pos (suc i))) (variables names) (scaled_alike (pos (suc i)) (length ys)) ∙ text_alone (pos (suc i)))

    -- the coefficients with one more
    next : (c : ℤ) (k : ℕ) → get_or (ps ++ c ∷ []) k (pos 0) ≡ get_or ps k (pos 0) +ℤ get_or (alone (length ys) c) k (pos 0)
    next c k = next-at ps c k ∙ ap (λ n. get_or ps k (pos 0) +ℤ get_or (alone n c) k (pos 0)) even

    nothing_more : Alike ps (ps ++ pos 0 ∷ [])
    nothing_more k = sum_zero (get_or ps k (pos 0)) (get_or (alone (length ys) (pos 0)) k (pos 0)) (zero-alone (length ys) k) ∙ sym (next (pos 0) k)
      where
        sum_zero : (x z : ℤ) → z ≡ pos 0 → x ≡ x +ℤ z
        sum_zero x z h = omega (arith, ints, h)

    first_one : Alike [] ps → (c : ℤ) → Alike (alone (length ys) c) (ps ++ c ∷ [])
    first_one h c k = sym (next c k ∙ (ap (λ z. z +ℤ get_or (alone (length ys) c) k (pos 0)) (sym (h k)) ∙ +ℤ_idl (get_or (alone (length ys) c) k (pos 0))))

    step : (c : ℤ) → is_small c ≡ true → IsLimited (ps ++ c ∷ []) → (o : Option Expression) → Text ps ≡ o → Ready o ps → Ready (with_term o c (variable y)) (ps ++ c ∷ [])
    step (pos zero) s l o t r = ready_alike o ps (ps ++ pos 0 ∷ []) nothing_more r
    step (pos (suc i)) s l None t r =
        kept_alike (term (suc i) (variable y)) (scaled i) (ps ++ pos (suc i) ∷ []) (λ k. scaled_alike (pos (suc i)) (length ys) k ∙ first_one r (pos (suc i)) k) (this_term i s)
    step (pos (suc i)) s l (Some e) t r =
        sum_kept e (term (suc i) (variable y)) ps (scaled i) (ps ++ pos (suc i) ∷ []) r (this_term i s)
        (λ k. next (pos (suc i)) k ∙ ap (λ z. get_or ps k (pos 0) +ℤ z) (sym (scaled_alike (pos (suc i)) (length ys) k)))
        l (text_next (pos (suc i)) ∙ ap (λ o. with_term o (pos (suc i)) (variable y)) t)
    step (negsuc i) s l None t r =
        negative_kept (term (suc i) (variable y)) (scaled i) (ps ++ negsuc i ∷ []) (this_term i s)
        (λ k. sym (first_one r (negsuc i) k) ∙ (sym (negated-alone i (length ys) k) ∙ ap (λ z. negsuc 0 *ℤ z) (sym (scaled_alike (pos (suc i)) (length ys) k))))
        l (text_next (negsuc i) ∙ ap (λ o. with_term o (negsuc i) (variable y)) t)
    step (negsuc i) s l (Some e) t r =
        difference_kept e (term (suc i) (variable y)) ps (scaled i) (ps ++ negsuc i ∷ []) r (this_term i s)
        (λ k. next (negsuc i) k ∙ ap (λ z. get_or ps k (pos 0) +ℤ z) (sym (negated-alone i (length ys) k) ∙ ap (λ z. negsuc 0 *ℤ z) (sym (scaled_alike (pos (suc i)) (length ys) k))))
        l (text_next (negsuc i) ∙ ap (λ o. with_term o (negsuc i) (variable y)) t)

  -- ---- all terms

  -- what the coefficients come to, of which those in use have names
  record Walked (cs : List ℤ) : Type 0 where
    all : Option Expression
    used : List ℤ
    text : Text cs ≡ all
    same : Text used ≡ all
    ready : Ready all used
    within : IsLimited used

  past_names : (o : Option Expression) (ps : List ℤ) (ts : List Expression) (cs : List ℤ) → length ps ≡ length ts → with_terms o (ps ++ cs) ts ≡ with_terms o ps ts
  past_names o [] [] [] h = refl
  past_names o [] [] (c ∷ cs) h = refl
  past_names o [] (t ∷ ts) cs h = cc
  past_names o (p ∷ ps) [] cs h = cc
  past_names o (p ∷ ps) (t ∷ ts) cs h = let same : length ps ≡ length ts = omega (arith, h) in past_names (with_term o p t) ps ts cs same

  one_longer : {A B : Type 0} (xs : List A) (x : A) (ys : List B) (y : B) → length xs ≡ length ys → length (xs ++ x ∷ []) ≡ length (ys ++ y ∷ [])
  one_longer [] x [] y h = refl
  one_longer [] x (z ∷ ys) y h = cc
  one_longer (z ∷ xs) x [] y h = cc
  one_longer (z ∷ xs) x (w ∷ ys) y h = let same : length xs ≡ length ys = omega (arith, h) in ap suc (one_longer xs x ys y same)

  walk : (cs ps : List ℤ) (ys zs : List (List ℕ)) → names ≡ ys ++ zs → length ps ≡ length ys → AreDistinct (ys ++ zs) → (k : ℤ) → is_limited (length loops) (record { coefficients = ps ++ cs; constant = k }) ≡ true
      → (o : Option Expression) → Text ps ≡ o → Ready o ps → Walked (ps ++ cs)
  walk [] ps ys zs split even apart k l o t r =
      let whole = append-nil ps in
      subst Walked (sym whole) (record { all = o; used = ps; text = t; same = t; ready = r; within = limited-front (length loops) ps [] k l })
  walk (c ∷ cs) ps ys [] split even apart k l o t r =
      let these : variables names ≡ variables ys = ap variables (split ∙ append-nil ys) in
      record {
        all = o;
        used = ps;
        text = ap (λ ts. with_terms None (ps ++ c ∷ cs) ts) these
            ∙ (past_names None ps (variables ys) (c ∷ cs) (even ∙ sym (variables-length ys)) ∙ (ap (λ ts. with_terms None ps ts) (sym these) ∙ t));
        same = t;
        ready = r;
        within = limited-front (length loops) ps (c ∷ cs) k l;
      }
  walk (c ∷ cs) ps ys (y ∷ zs) split even apart k l o t r =
      let joined : (ps ++ c ∷ []) ++ cs ≡ ps ++ c ∷ cs = append_assoc ps (c ∷ []) cs in
      let named : (ys ++ y ∷ []) ++ zs ≡ ys ++ y ∷ zs = append_assoc ys (y ∷ []) zs in
      let limits : is_limited (length loops) (record { coefficients = (ps ++ c ∷ []) ++ cs; constant = k }) ≡ true
      = ap (λ cs. is_limited (length loops) (record { coefficients = cs; constant = k })) joined ∙ l in
      let small = small-next ps c cs (both (all_small (ps ++ c ∷ cs)) (is_small k && nat_le (not_zero (drop (length loops) (ps ++ c ∷ cs))) 8) l).0 in
      let front = limited-front (length loops) (ps ++ c ∷ []) cs k limits in
      let here = not_before ys zs y apart in
      let text = text_next ps ys zs y split even here c ∙ ap (λ o. with_term o c (variable y)) t in
      subst Walked joined (walk cs (ps ++ c ∷ []) (ys ++ y ∷ []) zs (split ∙ sym named) (one_longer ps c ys y even)
      (subst AreDistinct (sym named) apart) k limits (with_term o c (variable y)) text (step ps ys zs y split even here c small front o t r))

  -- ---- the constant

  added-nil : (cs : List ℤ) → added cs [] ≡ cs
  added-nil [] = refl
  added-nil (c ∷ cs) = refl

  limited_with : (ps : List ℤ) (k : ℤ) → IsLimited ps → is_small k ≡ true → is_limited (length loops) (record { coefficients = ps; constant = k }) ≡ true
  limited_with ps k h s =
      let parts = both (all_small ps) (is_small (pos 0) && nat_le (not_zero (drop (length loops) ps)) 8) h in
      ap (λ b. b && (is_small k && nat_le (not_zero (drop (length loops) ps)) 8)) parts.0 ∙ (ap (λ b. b && nat_le (not_zero (drop (length loops) ps)) 8) s ∙ parts.1)

  constant_kept : (e : Expression) (used : List ℤ) (k : ℤ) (o : Op) (n : ℕ) → Kept e used → IsLimited used → Text used ≡ Some e → is_small k ≡ true → is_small (pos n) ≡ true
      → ((q : List ℤ) → form_of_pair o (constant_of e) (Some (pos n)) (Some (form0 q)) (Some (constant_form (pos n))) ≡ Some (record { coefficients = q; constant = k }))
      → with_constant (Some e) k ≡ Binary o e (Number (pos n)) → settled (Binary o e (Number (pos n))) ≡ Binary o e (Number (pos n))
  constant_kept e used k o n a l t small this pair whole =
      let E = Binary o e (Number (pos n)) in
      let f : Form = record { coefficients = a.coefficients; constant = k } in
      let none = no_pair o e (Number (pos n)) a.stuck a.no_value in
      let limits = limited-alike (length loops) a.coefficients used k a.alike ∙ limited_with used k l small in
      let form : form_of_part E ≡ Some f =
      form_of_two_parts o e (Number (pos n)) (form0 a.coefficients) (constant_form (pos n)) (constant_none E a.stuck none) a.is (number_form n this)
      ∙ (ap (limited (length loops)) (pair a.coefficients) ∙ limited_yes f limits) in
      both_fixed o e (Number (pos n)) a.fixed refl
      (stays E E f form (ap (λ (o : Option Expression). with_constant o k) (places_alike None a.coefficients used (variables names) a.alike ∙ t) ∙ whole))

  whole_kept : (o : Option Expression) (used : List ℤ) (k : ℤ) → Ready o used → IsLimited used → Text used ≡ o → is_small k ≡ true → settled (with_constant o k) ≡ with_constant o k
  whole_kept None used (pos n) r l t s = refl
  whole_kept None used (negsuc n) r l t s = refl
  whole_kept (Some e) used (pos zero) r l t s = r.fixed
  whole_kept (Some e) used (pos (suc i)) r l t s = constant_kept e used (pos (suc i)) Add (suc i) r l t s s
      (λ q. ap₂ (λ (cs : List ℤ) (z : ℤ). Some (record { coefficients = cs; constant = z })) (added-nil q) (+ℤ_idl (pos (suc i)))) refl
  whole_kept (Some e) used (negsuc i) r l t s = constant_kept e used (negsuc i) Sub (suc i) r l t s s
      (λ q. ap₂ (λ (cs : List ℤ) (z : ℤ). Some (record { coefficients = cs; constant = z })) (added-nil q) (less i)) refl
    where
      less : (i : ℕ) → pos 0 +ℤ (negsuc 0 *ℤ pos (suc i)) ≡ negsuc i
      less i = omega (arith, ints)

  -- the canonical text of a form within its limits
  pub text_settled : AreDistinct names → (f : Form) → is_limited (length loops) f ≡ true → settled (expressed (variables names) f) ≡ expressed (variables names) f
  text_settled apart f h =
      let w = walk f.coefficients [] [] names refl refl apart f.constant h None refl (λ k. refl) in
      let small = (both (is_small f.constant) (nat_le (not_zero (drop (length loops) f.coefficients)) 8)
      (both (all_small f.coefficients) (is_small f.constant && nat_le (not_zero (drop (length loops) f.coefficients)) 8) h).1).0 in
      let whole = whole_kept w.all w.used f.constant w.ready w.within w.same small in
      subst (λ (o : Option Expression). settled (with_constant o f.constant) ≡ with_constant o f.constant) (sym w.text) whole
