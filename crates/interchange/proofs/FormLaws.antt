-- Whether two linear forms are one, by affine forms.
use Rattle.std.proofs.Common.{◌≡◌, refl, sym, ap, ◌∙◌, subst, ℕ, zero, suc, ◌≤◌, ◌-◌, ℤ, pos, negsuc, Bool, true, false, ◌&&◌, cond, Option, Some, None, List, [], ◌∷◌, ◌++◌, length, get_or, take, drop, replicate, nat_le}
use Rattle.std.specs.Ordering.{int_eq}
use Rattle.std.proofs.lemmas.Bool.Decides.{Decides-int_eq}
use Rattle.subscripts.specs.declared.affine.Affine.{Affine}
use Rattle.linear_forms.specs.Affines.{IsAffineOf, IsFound}
use Rattle.linear_forms.specs.Linear.{Form, all_small, is_limited, is_small, limited, multiple, not_zero, sum}
use Rattle.linear_forms.specs.Places.{padded, terms_from}
use Rattle.interchange.specs.Reads.{all_zero, has_no_symbol, is_no_difference, is_zero_affine, same_form}

true_false : true ≡ false → ⊥
true_false e = cc

equal : (a b : Bool) → (a ≡ true → b ≡ true) → (b ≡ true → a ≡ true) → a ≡ b
equal true true f g = refl
equal true false f g = absurd (true_false (sym (f refl)))
equal false true f g = absurd (true_false (sym (g refl)))
equal false false f g = refl

and_both : (a b : Bool) → a && b ≡ true → (a ≡ true) × (b ≡ true)
and_both true b e = (refl, e)
and_both false b e = absurd (true_false (sym e))

and_assoc : (a b c : Bool) → (a && b) && c ≡ a && (b && c)
and_assoc true b c = refl
and_assoc false b c = refl

zero_is : (a : ℤ) → int_eq a (pos 0) ≡ true → a ≡ pos 0
zero_is a e = (Decides-int_eq a (pos 0)).0 e

is_nought : (a : ℤ) → a ≡ pos 0 → int_eq a (pos 0) ≡ true
is_nought a e = ap (λ z. int_eq z (pos 0)) e

-- ---- coefficients

zero_at : (xs : List ℤ) → all_zero xs ≡ true → (k : ℕ) → get_or xs k (pos 0) ≡ pos 0
zero_at [] e k = refl
zero_at (x ∷ xs) e zero = zero_is x (and_both (int_eq x (pos 0)) (all_zero xs) e).0
zero_at (x ∷ xs) e (suc k) = zero_at xs (and_both (int_eq x (pos 0)) (all_zero xs) e).1 k

zero_each : (xs : List ℤ) → ((k : ℕ) → get_or xs k (pos 0) ≡ pos 0) → all_zero xs ≡ true
zero_each [] h = refl
zero_each (x ∷ xs) h = ap (λ b. b && all_zero xs) (is_nought x (h 0)) ∙ zero_each xs (λ k. h (suc k))

same_zero : (xs ys : List ℤ) → ((k : ℕ) → get_or xs k (pos 0) ≡ get_or ys k (pos 0)) → all_zero xs ≡ all_zero ys
same_zero xs ys h = equal (all_zero xs) (all_zero ys) (λ e. zero_each ys (λ k. sym (h k) ∙ zero_at xs e k)) (λ e. zero_each xs (λ k. h k ∙ zero_at ys e k))

split_zero : (n : ℕ) (xs : List ℤ) → all_zero xs ≡ all_zero (take n xs) && all_zero (drop n xs)
split_zero zero xs = refl
split_zero (suc n) [] = refl
split_zero (suc n) (x ∷ xs) = ap (λ b. int_eq x (pos 0) && b) (split_zero n xs) ∙ sym (and_assoc (int_eq x (pos 0)) (all_zero (take n xs)) (all_zero (drop n xs)))

-- ---- terms of symbols

no_symbol_more : (ts us : List (ℕ × ℤ)) → has_no_symbol (ts ++ us) ≡ has_no_symbol ts && has_no_symbol us
no_symbol_more [] us = refl
no_symbol_more (t ∷ ts) us = ap (λ b. int_eq t.1 (pos 0) && b) (no_symbol_more ts us) ∙ sym (and_assoc (int_eq t.1 (pos 0)) (has_no_symbol ts) (has_no_symbol us))

no_symbol_padding : (n : ℕ) → has_no_symbol (replicate n (0, pos 0)) ≡ true
no_symbol_padding zero = refl
no_symbol_padding (suc n) = no_symbol_padding n

and_true : (a : Bool) → a && true ≡ a
and_true true = refl
and_true false = refl

no_symbol_terms : (o : ℕ) (cs : List ℤ) → has_no_symbol (terms_from o cs) ≡ all_zero cs
no_symbol_terms o [] = refl
no_symbol_terms o (c ∷ cs) = by (int_eq c (pos 0)) refl (no_symbol_terms (suc o) cs)
  where
    by : (b : Bool) → int_eq c (pos 0) ≡ b → has_no_symbol (terms_from (suc o) cs) ≡ all_zero cs
        → has_no_symbol (cond b (terms_from (suc o) cs) ((o, c) ∷ terms_from (suc o) cs)) ≡ b && all_zero cs
    by true e more = more
    by false e more = ap (λ b. b && has_no_symbol (terms_from (suc o) cs)) e

no_symbol_padded : (cs : List ℤ) → has_no_symbol (padded (terms_from 0 cs)) ≡ all_zero cs
no_symbol_padded cs =
    no_symbol_more (terms_from 0 cs) (replicate (8 - length (terms_from 0 cs)) (0, pos 0))
    ∙ (ap (λ b. has_no_symbol (terms_from 0 cs) && b) (no_symbol_padding (8 - length (terms_from 0 cs)))
    ∙ (and_true (has_no_symbol (terms_from 0 cs)) ∙ no_symbol_terms 0 cs))

affine_zero : (n : ℕ) (f : Form) (a : Affine) → IsAffineOf n f a → is_zero_affine a ≡ is_no_difference f
affine_zero n f a h =
    let loops : all_zero a.loops ≡ all_zero (take n f.coefficients) = same_zero a.loops (take n f.coefficients) h.loops in
    let symbols : has_no_symbol a.syms ≡ all_zero (drop n f.coefficients) = ap has_no_symbol h.symbols ∙ no_symbol_padded (drop n f.coefficients) in
    ap (λ b. b && (has_no_symbol a.syms && int_eq a.constant (pos 0))) loops
    ∙ (ap (λ b. all_zero (take n f.coefficients) && (b && int_eq a.constant (pos 0))) symbols
    ∙ (ap (λ z. all_zero (take n f.coefficients) && (all_zero (drop n f.coefficients) && int_eq z (pos 0))) h.constant
    ∙ (sym (and_assoc (all_zero (take n f.coefficients)) (all_zero (drop n f.coefficients)) (int_eq f.constant (pos 0)))
    ∙ ap (λ b. b && int_eq f.constant (pos 0)) (sym (split_zero n f.coefficients)))))

-- ---- a form that is 0 is within the limits

zero_small : (cs : List ℤ) → all_zero cs ≡ true → all_small cs ≡ true
zero_small [] e = refl
zero_small (c ∷ cs) e =
    let h = and_both (int_eq c (pos 0)) (all_zero cs) e in
    ap (λ z. is_small z && all_small cs) (zero_is c h.0) ∙ zero_small cs h.1

none_other : (cs : List ℤ) → all_zero cs ≡ true → not_zero cs ≡ 0
none_other [] e = refl
none_other (c ∷ cs) e =
    let h = and_both (int_eq c (pos 0)) (all_zero cs) e in
    ap (λ b. cond b (not_zero cs) (suc (not_zero cs))) h.0 ∙ none_other cs h.1

zero_limited : (n : ℕ) (f : Form) → is_no_difference f ≡ true → is_limited n f ≡ true
zero_limited n f e =
    let h = and_both (all_zero f.coefficients) (int_eq f.constant (pos 0)) e in
    let d = and_both (all_zero (take n f.coefficients)) (all_zero (drop n f.coefficients)) (sym (split_zero n f.coefficients) ∙ h.0) in
    ap (λ b. b && (is_small f.constant && nat_le (not_zero (drop n f.coefficients)) 8)) (zero_small f.coefficients h.0)
    ∙ (ap (λ z. is_small z && nat_le (not_zero (drop n f.coefficients)) 8) (zero_is f.constant h.1) ∙ ap (λ k. nat_le k 8) (none_other (drop n f.coefficients) d.1))

-- ---- two forms

abbrev pub is_found_zero : Option Affine → Bool
is_found_zero None = false
is_found_zero (Some d) = is_zero_affine d

pub none_first : (n : ℕ) (f g : Option Form) → IsFound n f None → same_form f g ≡ false
none_first n None g h = refl
none_first n (Some f) g h = absurd h

pub none_second : (n : ℕ) (f g : Option Form) (a : Affine) → IsFound n f (Some a) → IsFound n g None → same_form f g ≡ false
none_second n None g a h k = absurd h
none_second n (Some f) None a h k = refl
none_second n (Some f) (Some g) a h k = absurd k

found_zero : (n : ℕ) (f : Form) (d : Option Affine) → IsFound n (limited n (Some f)) d → is_found_zero d ≡ is_no_difference f
found_zero n f d h = by (is_limited n f) refl d h
  where
    by : (c : Bool) → is_limited n f ≡ c → (d : Option Affine) → IsFound n (cond c (Some f) None) d → is_found_zero d ≡ is_no_difference f
    by true e None h = absurd h
    by true e (Some x) h = affine_zero n f x h
    by false e None h = equal false (is_no_difference f) (λ z. absurd (true_false (sym z))) (λ z. absurd (true_false (sym (zero_limited n f z) ∙ e)))
    by false e (Some x) h = absurd h

pub by_difference : (n : ℕ) (f g : Option Form) (a b : Affine) (d : Option Affine) → IsFound n f (Some a) → IsFound n g (Some b)
    → ((p q : Form) → IsAffineOf n p a → IsAffineOf n q b → IsFound n (limited n (Some (sum p (multiple (negsuc 0) q)))) d) → is_found_zero d ≡ same_form f g
by_difference n None g a b d h k w = absurd h
by_difference n (Some f) None a b d h k w = absurd k
by_difference n (Some f) (Some g) a b d h k w = found_zero n (sum f (multiple (negsuc 0) g)) d (w f g h k)

-- ---- for the code

pub lone_first : (n : ℕ) (f g : Option Form) (one : Option Affine) → one ≡ None → IsFound n f one → false ≡ same_form f g
lone_first n f g one e h = sym (none_first n f g (subst (IsFound n f) e h))

pub lone_second : (n : ℕ) (f g : Option Form) (one other : Option Affine) (a : Affine) → one ≡ Some a → other ≡ None → IsFound n f one → IsFound n g other → false ≡ same_form f g
lone_second n f g one other a e k h i = sym (none_second n f g a (subst (IsFound n f) e h) (subst (IsFound n g) k i))

abbrev IsDifference : Affine → Affine → Option Affine → Type 0
IsDifference a b d = (n : ℕ) (p q : Form) → n ≤ 7 → IsAffineOf n p a → IsAffineOf n q b → IsFound n (limited n (Some (sum p (multiple (negsuc 0) q)))) d

pub both_some : (n : ℕ) (f g : Option Form) (one other : Option Affine) (a b x : Affine) (d : Option Affine) (r : Bool) → n ≤ 7 → one ≡ Some a → other ≡ Some b
    → IsFound n f one → IsFound n g other → IsDifference a b d → d ≡ Some x → r ≡ is_zero_affine x → r ≡ same_form f g
both_some n f g one other a b x d r few e k h i w s z =
    z ∙ (sym (ap is_found_zero s) ∙ by_difference n f g a b d (subst (IsFound n f) e h) (subst (IsFound n g) k i) (λ p q u v. w n p q few u v))

pub both_none : (n : ℕ) (f g : Option Form) (one other : Option Affine) (a b : Affine) (d : Option Affine) → n ≤ 7 → one ≡ Some a → other ≡ Some b
    → IsFound n f one → IsFound n g other → IsDifference a b d → d ≡ None → false ≡ same_form f g
both_none n f g one other a b d few e k h i w s =
    sym (ap is_found_zero s) ∙ by_difference n f g a b d (subst (IsFound n f) e h) (subst (IsFound n g) k i) (λ p q u v. w n p q few u v)

pub ruleset form_laws = (lone_first, lone_second, both_some, both_none)
