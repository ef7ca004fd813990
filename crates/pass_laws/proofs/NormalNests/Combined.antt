-- Sums of multiples of forms, beside the same sums of plain forms.
use mathlib.Core.Path.{ap₂}
use Rattle.std.proofs.Common.{◌≡◌, refl, sym, ap, ◌∙◌, inl, inr, ◌⊎◌, ℕ, zero, suc, ◌+◌, ◌-◌, ◌≤◌, ◌<◌, ℤ, pos, ◌+ℤ◌, ◌*ℤ◌, Bool, true, false, cond, ◌&&◌, List, [], ◌∷◌, ◌++◌, map, take, drop, length, Option, Some, None, arith}
use Rattle.std.specs.Prelude.{nat_le}
use Rattle.std.specs.List.{list_all}
use Rattle.std.specs.Ordering.{int_eq}
use Rattle.std.proofs.lemmas.Bool.{cases_lt, leb-true}
use Rattle.std.proofs.lemmas.Int.{ints}
use Rattle.subscripts.specs.declared.affine.Affine.{Affine}
use Rattle.linear_forms.specs.Linear.{Form, sum, multiple, is_small, all_small, not_zero}
use Rattle.linear_forms.specs.Merging.{all_pushed}
use Rattle.linear_forms.specs.Pushing.{small_or_none}
use Rattle.linear_forms.specs.Places.{terms_from}
use Rattle.linear_forms.specs.declared.terms.Terms.{Terms}
use Rattle.linear_forms.proofs.Merges.{Outcome, pushes}
use Rattle.linear_forms.proofs.Sizes.{both}
use Rattle.find_nests.specs.bound_limits.Limits.{keeps_limits}
use Rattle.find_nests.proofs.BoundLimits.Lists.{get_or-added, get_or-scaled}
use Rattle.last_values.specs.declared.normal_forms.combinations.Multiple.{Multiple}
use Rattle.last_values.specs.declared.normal_forms.places.Place.{Place}
use Rattle.last_values.specs.declared.normal_forms.places.Place.TheVariants as place
use Rattle.last_values.specs.normal_forms.Combinations.{coefficient_in, number_of_place, combined_at, with_number, all_within, seven, no_terms, with_symbol_terms, form_with, has_small_factor, combination, times}
use Rattle.last_values.specs.normal_forms.Numbers.{values_from}
use Rattle.last_values.proofs.NormalForms.Numbers.{places_of, looked_up}
use Rattle.pass_laws.proofs.ReadyNests.Sums.{sum_of, symbols-pushed}
use Rattle.pass_laws.proofs.NormalNests.Spread.{At, small_at, small_from, alike_not_zero}

-- ---- where there is a sum

all_small-seven : (f : ℕ → ℤ) → ((k : ℕ) → k < 7 → is_small (f k) ≡ true) → all_small (seven f) ≡ true
all_small-seven f h = small_from (seven f) each
  where
    each : (j : ℕ) → is_small (At (seven f) j) ≡ true
    each zero = h 0 (omega arith)
    each (suc zero) = h 1 (omega arith)
    each (suc (suc zero)) = h 2 (omega arith)
    each (suc (suc (suc zero))) = h 3 (omega arith)
    each (suc (suc (suc (suc zero)))) = h 4 (omega arith)
    each (suc (suc (suc (suc (suc zero))))) = h 5 (omega arith)
    each (suc (suc (suc (suc (suc (suc zero)))))) = h 6 (omega arith)
    each (suc (suc (suc (suc (suc (suc (suc k))))))) = refl

all_small-values : (n j : ℕ) (f : ℕ → ℤ) → ((i : ℕ) → i < j + n → is_small (f i) ≡ true) → all_small (values_from n j f) ≡ true
all_small-values zero j f h = refl
all_small-values (suc n) j f h =
    ap (λ b. b && all_small (values_from n (j + 1) f)) (h j (omega arith)) ∙ all_small-values n (j + 1) f (λ i l. h i (omega (arith, l)))

small_or : (z : ℤ) → is_small z ≡ true → small_or_none z ≡ Some z
small_or z h = ap (λ b. cond b (Some z) None) h

within_all : (zs : List ℤ) → all_small zs ≡ true → all_within zs ≡ Some zs
within_all [] h = refl
within_all (z ∷ zs) h =
    let p = both (is_small z) (all_small zs) h in
    ap₂ (λ o q. with_number o q) (small_or z p.0) (within_all zs p.1)

record IsThere (n : ℕ) (f : ℕ → ℤ) : Type 0 where
  terms : Terms
  is : with_symbol_terms f n 0 no_terms ≡ Some terms

pushed_there : (n : ℕ) (f : ℕ → ℤ) → all_small (values_from n 0 f) ≡ true → not_zero (values_from n 0 f) ≤ 8 → IsThere n f
pushed_there n f s c =
    by (all_pushed (terms_from 0 (values_from n 0 f)) no_terms) refl
    (pushes 0 (values_from n 0 f) [] no_terms (record { at = refl; used = refl }) (omega arith))
  where
    by : (o : Option Terms) → all_pushed (terms_from 0 (values_from n 0 f)) no_terms ≡ o → Outcome 0 (values_from n 0 f) [] o → IsThere n f
    by (Some t) e h = record { terms = t; is = symbols-pushed f n 0 no_terms ∙ e }
    by None e (inl h) = let no : ⊥ = cc in absurd no
    by None e (inr h) = absurd (omega (arith, c, h))

pub record HasSum (n : ℕ) (ts : List Multiple) : Type 0 where
  pub form : Affine
  pub is : combination n ts ≡ Some form

-- the numbers of the sum are within the limits
pub record KeepsLimits (n : ℕ) (ts : List Multiple) : Type 0 where
  pub factors : list_all has_small_factor ts ≡ true
  pub loops : (k : ℕ) → k < 7 → is_small (combined_at ts (place.Loop k)) ≡ true
  pub symbols : (j : ℕ) → j < n → is_small (combined_at ts (place.Symbol j)) ≡ true
  pub count : not_zero (values_from n 0 (λ j. combined_at ts (place.Symbol j))) ≤ 8
  pub constant : is_small (combined_at ts place.Constant) ≡ true

pub has_sum : (n : ℕ) (ts : List Multiple) → KeepsLimits n ts → HasSum n ts
unfolding combination
has_sum n ts h =
    let t = pushed_there n (λ j. combined_at ts (place.Symbol j)) (all_small-values n 0 (λ j. combined_at ts (place.Symbol j)) (λ i l. h.symbols i (omega (arith, l)))) h.count in
    let ls = seven (λ k. combined_at ts (place.Loop k)) in
    record {
      form = record { loops = seven (λ k. combined_at ts (place.Loop k)); syms = t.terms.at; constant = combined_at ts place.Constant };
      is =
          ap (λ b. cond b (form_with (all_within (seven (λ k. combined_at ts (place.Loop k)))) (with_symbol_terms (λ j. combined_at ts (place.Symbol j)) n 0 no_terms) (small_or_none (combined_at ts place.Constant))) None) h.factors
          ∙ (ap (λ o. form_with o (with_symbol_terms (λ j. combined_at ts (place.Symbol j)) n 0 no_terms) (small_or_none (combined_at ts place.Constant)))
          (within_all (seven (λ k. combined_at ts (place.Loop k))) (all_small-seven (λ k. combined_at ts (place.Loop k)) h.loops))
          ∙ (ap (λ o. form_with (Some (seven (λ k. combined_at ts (place.Loop k)))) o (small_or_none (combined_at ts place.Constant))) t.is
          ∙ ap (λ o. form_with (Some (seven (λ k. combined_at ts (place.Loop k)))) (Some t.terms) o) (small_or (combined_at ts place.Constant) h.constant)));
    }

-- ---- a form as a plain form: its places are the symbols, of which there are n, and behind them the loops

pub record IsSame (n : ℕ) (a : Affine) (f : Form) : Type 0 where
  pub symbols : (j : ℕ) → j < n → number_of_place a (place.Symbol j) ≡ At f.coefficients j
  pub loops : (k : ℕ) → k < 7 → number_of_place a (place.Loop k) ≡ At f.coefficients (n + k)
  pub constant : number_of_place a place.Constant ≡ f.constant

-- the same of a sum
pub record AddsUpTo (n : ℕ) (ts : List Multiple) (f : Form) : Type 0 where
  pub symbols : (j : ℕ) → j < n → combined_at ts (place.Symbol j) ≡ At f.coefficients j
  pub loops : (k : ℕ) → k < 7 → combined_at ts (place.Loop k) ≡ At f.coefficients (n + k)
  pub constant : combined_at ts place.Constant ≡ f.constant

values_past : (n j i : ℕ) (f : ℕ → ℤ) → n ≤ i → At (values_from n j f) i ≡ pos 0
values_past zero j i f h = refl
values_past (suc n) j zero f h = absurd (omega (arith, h))
values_past (suc n) j (suc i) f h = values_past n (j + 1) i f (omega (arith, h))

-- behind its symbols a sum has none
pub sum_past : (n : ℕ) (ts : List Multiple) (a : Affine) → combination n ts ≡ Some a → (j : ℕ) → n ≤ j → number_of_place a (place.Symbol j) ≡ pos 0
sum_past n ts a h j l =
    let s = sum_of n ts a h in
    let zeros = looked_up 0 s.symbols (8 - length (terms_from 0 s.symbols)) j j (omega arith) in
    ap (λ us. coefficient_in us j) s.syms ∙ zeros ∙ (ap (λ es. At es j) s.values ∙ values_past n 0 j (λ i. combined_at ts (place.Symbol i)) l)

pub sum_is_same : (n : ℕ) (ts : List Multiple) (a : Affine) (f : Form) → combination n ts ≡ Some a → AddsUpTo n ts f → IsSame n a f
sum_is_same n ts a f h s =
    let p = places_of n ts a h in
    record {
      symbols = λ j l. p.symbols j l ∙ s.symbols j l;
      loops = λ k l. p.loops k l ∙ s.loops k l;
      constant = p.constant ∙ s.constant;
    }

-- ---- limits of plain forms

-- as much of them as a sum has to keep
pub record IsWithin (n : ℕ) (f : Form) : Type 0 where
  pub small : (i : ℕ) → is_small (At f.coefficients i) ≡ true
  pub constant : is_small f.constant ≡ true
  pub count : not_zero (take n f.coefficients) ≤ 8

pub kept_within : (n : ℕ) (f : Form) → keeps_limits n 0 f ≡ true → IsWithin n f
kept_within n f h =
    let p = both (all_small f.coefficients) (is_small f.constant && (nat_le (not_zero (take n f.coefficients) + 0) 8 && nat_le (not_zero (drop n f.coefficients)) 7)) h in
    let q = both (is_small f.constant) (nat_le (not_zero (take n f.coefficients) + 0) 8 && nat_le (not_zero (drop n f.coefficients)) 7) p.1 in
    let r = both (nat_le (not_zero (take n f.coefficients) + 0) 8) (nat_le (not_zero (drop n f.coefficients)) 7) q.1 in
    let most = leb-true (not_zero (take n f.coefficients) + 0) 8 r.0 in
    record { small = small_at f.coefficients p.0; constant = q.0; count = omega (arith, most) }

no_front : (n i : ℕ) → At (take n []) i ≡ pos 0
no_front zero i = refl
no_front (suc n) i = refl

-- values at places, and the front of a list
pub values_front : (n j : ℕ) (g : ℕ → ℤ) (cs : List ℤ) → ((i : ℕ) → i < n → g (j + i) ≡ At cs i) → (i : ℕ) → At (values_from n j g) i ≡ At (take n cs) i
values_front zero j g cs h i = refl
values_front (suc n) j g [] h zero = ap g (let e : j ≡ j + 0 = omega arith in e) ∙ h 0 (omega arith)
values_front (suc n) j g [] h (suc i) =
    values_front n (j + 1) g [] (λ m l. ap g (let e : (j + 1) + m ≡ j + suc m = omega arith in e) ∙ h (suc m) (omega (arith, l))) i ∙ no_front n i
values_front (suc n) j g (c ∷ cs) h zero = ap g (let e : j ≡ j + 0 = omega arith in e) ∙ h 0 (omega arith)
values_front (suc n) j g (c ∷ cs) h (suc i) =
    values_front n (j + 1) g cs (λ m l. ap g (let e : (j + 1) + m ≡ j + suc m = omega arith in e) ∙ h (suc m) (omega (arith, l))) i

-- fronts with the same coefficients
pub front_alike : (n : ℕ) (cs ds : List ℤ) → ((i : ℕ) → i < n → At cs i ≡ At ds i) → (i : ℕ) → At (take n cs) i ≡ At (take n ds) i
front_alike zero cs ds h i = refl
front_alike (suc n) [] [] h i = refl
front_alike (suc n) [] (d ∷ ds) h zero = h 0 (omega arith)
front_alike (suc n) [] (d ∷ ds) h (suc i) = sym (no_front n i) ∙ front_alike n [] ds (λ j l. h (suc j) (omega (arith, l))) i
front_alike (suc n) (c ∷ cs) [] h zero = h 0 (omega arith)
front_alike (suc n) (c ∷ cs) [] h (suc i) = front_alike n cs [] (λ j l. h (suc j) (omega (arith, l))) i ∙ no_front n i
front_alike (suc n) (c ∷ cs) (d ∷ ds) h zero = h 0 (omega arith)
front_alike (suc n) (c ∷ cs) (d ∷ ds) h (suc i) = front_alike n cs ds (λ j l. h (suc j) (omega (arith, l))) i

pub sum_within : (n : ℕ) (ts : List Multiple) (f : Form) → list_all has_small_factor ts ≡ true → AddsUpTo n ts f → IsWithin n f → KeepsLimits n ts
sum_within n ts f h s w =
    let same = alike_not_zero (values_from n 0 (λ j. combined_at ts (place.Symbol j))) (take n f.coefficients)
    (values_front n 0 (λ j. combined_at ts (place.Symbol j)) f.coefficients (λ i l. ap (λ m. combined_at ts (place.Symbol m)) (let e : 0 + i ≡ i = omega arith in e) ∙ s.symbols i l)) in
    let most = w.count in
    record {
      factors = h;
      loops = λ k l. ap is_small (s.loops k l) ∙ w.small (n + k);
      symbols = λ j l. ap is_small (s.symbols j l) ∙ w.small j;
      count = omega (arith, same, most);
      constant = ap is_small s.constant ∙ w.constant;
    }

-- a sum that is a plain form
pub record IsMade (n : ℕ) (ts : List Multiple) (f : Form) : Type 0 where
  pub form : Affine
  pub is : combination n ts ≡ Some form
  pub same : IsSame n form f

pub sum_made : (n : ℕ) (ts : List Multiple) (f : Form) → list_all has_small_factor ts ≡ true → AddsUpTo n ts f → IsWithin n f → IsMade n ts f
sum_made n ts f h s w =
    let m = has_sum n ts (sum_within n ts f h s w) in
    record { form = m.form; is = m.is; same = sum_is_same n ts m.form f m.is s }

-- ---- plain forms with the same numbers

pub record IsAlike (f g : Form) : Type 0 where
  pub coefficients : (i : ℕ) → At f.coefficients i ≡ At g.coefficients i
  pub constant : f.constant ≡ g.constant

pub adds_alike : (n : ℕ) (ts : List Multiple) (f g : Form) → AddsUpTo n ts f → IsAlike f g → AddsUpTo n ts g
adds_alike n ts f g s e = record {
  symbols = λ j l. s.symbols j l ∙ e.coefficients j;
  loops = λ k l. s.loops k l ∙ e.coefficients (n + k);
  constant = s.constant ∙ e.constant;
}

-- ---- one and two terms

one_number : (z x y : ℤ) → x ≡ y → z *ℤ x +ℤ pos 0 ≡ z *ℤ y
one_number z x y e = ap (λ w. z *ℤ w +ℤ pos 0) e ∙ alone (z *ℤ y)
  where
    alone : (w : ℤ) → w +ℤ pos 0 ≡ w
    alone w = omega (arith, ints)

two_numbers : (z x y u v : ℤ) → x ≡ u → y ≡ v → pos 1 *ℤ x +ℤ (z *ℤ y +ℤ pos 0) ≡ u +ℤ z *ℤ v
two_numbers z x y u v e f = ap₂ (λ p q. pos 1 *ℤ p +ℤ (z *ℤ q +ℤ pos 0)) e f ∙ simple u (z *ℤ v)
  where
    simple : (p q : ℤ) → pos 1 *ℤ p +ℤ (q +ℤ pos 0) ≡ p +ℤ q
    simple p q = omega (arith, ints)

pub sum_at : (f g : Form) (z : ℤ) (i : ℕ) → At (sum f (multiple z g)).coefficients i ≡ At f.coefficients i +ℤ z *ℤ At g.coefficients i
sum_at f g z i = get_or-added f.coefficients (map (λ a. z *ℤ a) g.coefficients) i ∙ ap (λ x. At f.coefficients i +ℤ x) (get_or-scaled z g.coefficients i)

pub one_adds : (n : ℕ) (z : ℤ) (a : Affine) (f : Form) → IsSame n a f → AddsUpTo n (times z a ∷ []) (multiple z f)
one_adds n z a f s = record {
  symbols = λ j l. one_number z (number_of_place a (place.Symbol j)) (At f.coefficients j) (s.symbols j l) ∙ sym (get_or-scaled z f.coefficients j);
  loops = λ k l. one_number z (number_of_place a (place.Loop k)) (At f.coefficients (n + k)) (s.loops k l) ∙ sym (get_or-scaled z f.coefficients (n + k));
  constant = one_number z (number_of_place a place.Constant) f.constant s.constant;
}

pub two_add : (n : ℕ) (z : ℤ) (a b : Affine) (f g : Form) → IsSame n a f → IsSame n b g → AddsUpTo n (times (pos 1) a ∷ times z b ∷ []) (sum f (multiple z g))
two_add n z a b f g s t = record {
  symbols = λ j l. two_numbers z (number_of_place a (place.Symbol j)) (number_of_place b (place.Symbol j)) (At f.coefficients j) (At g.coefficients j) (s.symbols j l) (t.symbols j l) ∙ sym (sum_at f g z j);
  loops = λ k l. two_numbers z (number_of_place a (place.Loop k)) (number_of_place b (place.Loop k)) (At f.coefficients (n + k)) (At g.coefficients (n + k)) (s.loops k l) (t.loops k l) ∙ sym (sum_at f g z (n + k));
  constant = two_numbers z (number_of_place a place.Constant) (number_of_place b place.Constant) f.constant g.constant s.constant t.constant;
}

-- ---- terms behind others

pub joined_at : (ts us : List Multiple) (p : Place) → combined_at (ts ++ us) p ≡ combined_at ts p +ℤ combined_at us p
joined_at [] us p = nothing (combined_at us p)
  where
    nothing : (z : ℤ) → z ≡ pos 0 +ℤ z
    nothing z = omega (arith, ints)
joined_at (t ∷ ts) us p = ap (λ z. t.times *ℤ number_of_place t.form p +ℤ z) (joined_at ts us p) ∙ grouped (t.times *ℤ number_of_place t.form p) (combined_at ts p) (combined_at us p)
  where
    grouped : (x y z : ℤ) → x +ℤ (y +ℤ z) ≡ (x +ℤ y) +ℤ z
    grouped x y z = omega (arith, ints)

sum_alone : (f g : Form) (i : ℕ) → At (sum f g).coefficients i ≡ At f.coefficients i +ℤ At g.coefficients i
sum_alone f g i = get_or-added f.coefficients g.coefficients i

pub joined_add : (n : ℕ) (ts us : List Multiple) (f g : Form) → AddsUpTo n ts f → AddsUpTo n us g → AddsUpTo n (ts ++ us) (sum f g)
joined_add n ts us f g s t = record {
  symbols = λ j l. joined_at ts us (place.Symbol j) ∙ ap₂ (λ x y. x +ℤ y) (s.symbols j l) (t.symbols j l) ∙ sym (sum_alone f g j);
  loops = λ k l. joined_at ts us (place.Loop k) ∙ ap₂ (λ x y. x +ℤ y) (s.loops k l) (t.loops k l) ∙ sym (sum_alone f g (n + k));
  constant = joined_at ts us place.Constant ∙ ap₂ (λ x y. x +ℤ y) s.constant t.constant;
}

-- ---- one place of a symbol more

values_more : (n j : ℕ) (f : ℕ → ℤ) → not_zero (values_from (n + 1) j f) ≡ not_zero (values_from n j f) + not_zero (f (j + n) ∷ [])
values_more n j f = ap (λ m. not_zero (values_from m j f)) (let e : n + 1 ≡ suc n = omega arith in e) ∙ by n j
  where
    by : (n j : ℕ) → not_zero (values_from (suc n) j f) ≡ not_zero (values_from n j f) + not_zero (f (j + n) ∷ [])
    by zero j = let e : j ≡ j + 0 = omega arith in ap (λ m. not_zero (f m ∷ [])) e ∙ (let s : not_zero (f (j + 0) ∷ []) ≡ 0 + not_zero (f (j + 0) ∷ []) = omega arith in s)
    by (suc n) j = next (int_eq (f j) (pos 0)) (by n (j + 1) ∙ ap (λ m. not_zero (values_from n (j + 1) f) + not_zero (f m ∷ [])) (let e : (j + 1) + n ≡ j + suc n = omega arith in e))
      where
        next : (b : Bool) → not_zero (values_from (suc n) (j + 1) f) ≡ not_zero (values_from n (j + 1) f) + not_zero (f (j + suc n) ∷ [])
            → cond b (not_zero (values_from (suc n) (j + 1) f)) (suc (not_zero (values_from (suc n) (j + 1) f)))
            ≡ cond b (not_zero (values_from n (j + 1) f)) (suc (not_zero (values_from n (j + 1) f))) + not_zero (f (j + suc n) ∷ [])
        next true h = h
        next false h = omega (arith, h)

pub keeps_more : (n : ℕ) (ts : List Multiple) → KeepsLimits n ts → is_small (combined_at ts (place.Symbol n)) ≡ true
    → not_zero (values_from n 0 (λ j. combined_at ts (place.Symbol j))) + not_zero (combined_at ts (place.Symbol n) ∷ []) ≤ 8 → KeepsLimits (n + 1) ts
keeps_more n ts h s c =
    let more = values_more n 0 (λ j. combined_at ts (place.Symbol j)) in
    let here : not_zero (combined_at ts (place.Symbol (0 + n)) ∷ []) ≡ not_zero (combined_at ts (place.Symbol n) ∷ []) = ap (λ m. not_zero (combined_at ts (place.Symbol m) ∷ [])) (let e : 0 + n ≡ n = omega arith in e) in
    record {
      factors = h.factors;
      loops = h.loops;
      symbols = λ j l. by j (cases_lt j n) l;
      count = omega (arith, more, here, c);
      constant = h.constant;
    }
  where
    by : (j : ℕ) → (j < n) ⊎ (n ≤ j) → j < n + 1 → is_small (combined_at ts (place.Symbol j)) ≡ true
    by j (inl l) m = h.symbols j l
    by j (inr l) m = let e : j ≡ n = omega (arith, l, m) in ap (λ i. is_small (combined_at ts (place.Symbol i))) e ∙ s
