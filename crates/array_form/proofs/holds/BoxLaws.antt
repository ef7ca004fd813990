-- Linear subscripts over all iterations of their loops.
use Rattle.std.proofs.Common.{◌≡◌, refl, sym, ap, ◌∙◌, subst, ◌⊎◌, inl, inr, ℕ, zero, suc, ◌+◌, ◌-◌, ◌*◌, ◌^◌, ◌≤◌, ◌==◌, ℤ, pos, negsuc, ◌+ℤ◌, ◌*ℤ◌, ◌≤ℤ◌, T, Bool, true, false, ◌&&◌, ◌||◌, cond, List, [], ◌∷◌, ◌++◌, map, take, drop, length, get_or, replicate, Option, Some, None, Contains, arith}
use mathlib.Core.Path.{ap₂}
use Rattle.std.specs.Prelude.{IfSome, int_le, unsigned_abs}
use Rattle.std.specs.List.{list_all}
use Rattle.std.specs.Ordering.{int_eq}
use Rattle.std.proofs.Math.Nat.{mul-le-mul_left}
use Rattle.std.proofs.lemmas.Bool.Decides.{Decides-int_eq}
use Rattle.std.proofs.lemmas.Float.{T_from_true}
use Rattle.std.proofs.lemmas.Int.{ints}
use Rattle.std.proofs.lemmas.List.{length-map}
use borrow.Author.Differences.{up}
use Rattle.subscripts.specs.declared.affine.Affine.{Affine}
use Rattle.linear_forms.specs.Affines.{IsAffineOf}
use Rattle.linear_forms.specs.Linear.{Form, not_zero, weighted}
use Rattle.linear_forms.specs.Places.{padded, terms_from}
use Rattle.meaning.specs.Sections.{not_negative}
use Rattle.meaning_laws.proofs.arrays.Members.{here, there, nowhere, cases_of}
use Rattle.array_form.specs.forms.Instances.{in_sequence}
use Rattle.array_form.specs.forms.Loops as forms
use Rattle.array_form.proofs.TextLaws.{none_in, not_none, zeros_pass, all_both}
use Rattle.array_form.proofs.forms.Positions.{AreFrom, sequence_from, from_sequence}
use Rattle.array_form.specs.holds.Bounds.{Term, coefficients_of, is_between, is_constant_trip, is_in_box, iterations_of, stays_between, terms_in}
use Rattle.array_form.specs.holds.Boxes.{AreEnds, HasEnds, moved_by, sum_at, trips_of, widened}
use Rattle.array_form.specs.holds.Surroundings.{coefficients_from, form_of_affine, form_trip_of}
use Rattle.array_form.specs.declared.holds.boxes.Ends.{Ends}
use Rattle.array_form.specs.declared.holds.loops.CountedLoop.{CountedLoop}

abbrev is_zero : ℤ → Bool
is_zero c = int_eq c (pos 0)

-- ---- no coefficient

no_term_is : (n : ℕ) (a : Affine) → (not_zero (form_of_affine n a).coefficients == 0) ≡ (list_all (λ c. int_eq c (pos 0)) (take n a.loops) && list_all (λ c. int_eq c (pos 0)) (coefficients_from 0 a.syms))
no_term_is n a = none_in (take n a.loops ++ coefficients_from 0 a.syms) ∙ all_both is_zero (take n a.loops) (coefficients_from 0 a.syms)

pub no_term_then : (n : ℕ) (a : Affine) (part : List ℤ) (r s : Bool) → part ≡ take n a.loops → r ≡ list_all (λ c. int_eq c (pos 0)) part → s ≡ list_all (λ c. int_eq c (pos 0)) (coefficients_from 0 a.syms)
    → r ≡ true → s ≡ (not_zero (form_of_affine n a).coefficients == 0)
no_term_then n a part r s p loops symbols t =
    symbols ∙ sym (no_term_is n a ∙ ap (λ b. b && list_all is_zero (coefficients_from 0 a.syms)) (ap (list_all is_zero) (sym p) ∙ (sym loops ∙ t)))

pub no_term_else : (n : ℕ) (a : Affine) (part : List ℤ) (r : Bool) → part ≡ take n a.loops → r ≡ list_all (λ c. int_eq c (pos 0)) part
    → r ≡ false → r ≡ (not_zero (form_of_affine n a).coefficients == 0)
no_term_else n a part r p loops f =
    f ∙ sym (no_term_is n a ∙ ap (λ b. b && list_all is_zero (coefficients_from 0 a.syms)) (ap (list_all is_zero) (sym p) ∙ (sym loops ∙ f)))

-- ---- constant trips

abbrev all_constant : List Term → Bool
all_constant ts = list_all (λ (t : Term). is_constant_trip t.trip) ts

terms_cons : (t : forms.FormTrip) (ts : List forms.FormTrip) (c : ℤ) (cs : List ℤ) → all_constant (terms_in (t ∷ ts) (c ∷ cs)) ≡ ((int_eq c (pos 0) || is_constant_trip t) && all_constant (terms_in ts cs))
terms_cons t ts c cs = by (int_eq c (pos 0))
  where
    by : (b : Bool) → all_constant (cond b (terms_in ts cs) (record { coefficient = c; trip = t } ∷ terms_in ts cs)) ≡ ((b || is_constant_trip t) && all_constant (terms_in ts cs))
    by true = refl
    by false = refl

terms_of_none : (ts : List forms.FormTrip) → terms_in ts [] ≡ []
terms_of_none [] = refl
terms_of_none (t ∷ ts) = refl

pub constant_none : (depth : ℕ) (ls : List CountedLoop) (cs : List ℤ) → ls ≡ [] → true ≡ list_all (λ (t : Term). is_constant_trip t.trip) (terms_in (trips_of depth ls) cs)
constant_none depth ls cs h = sym (ap (λ ms. all_constant (terms_in (trips_of depth ms) cs)) h)

pub constant_without : (depth : ℕ) (ls : List CountedLoop) (cs : List ℤ) → cs ≡ [] → true ≡ list_all (λ (t : Term). is_constant_trip t.trip) (terms_in (trips_of depth ls) cs)
constant_without depth ls cs h = sym (ap (λ ds. all_constant (terms_in (trips_of depth ls) ds)) h ∙ ap all_constant (terms_of_none (trips_of depth ls)))

constant_both : (depth : ℕ) (ls ms : List CountedLoop) (l : CountedLoop) (cs ds : List ℤ) (c : ℤ) → ls ≡ l ∷ ms → cs ≡ c ∷ ds
    → all_constant (terms_in (trips_of depth ls) cs) ≡ ((int_eq c (pos 0) || is_constant_trip (form_trip_of depth l.trip)) && all_constant (terms_in (trips_of depth ms) ds))
constant_both depth ls ms l cs ds c h k =
    ap₂ (λ ks es. all_constant (terms_in (trips_of depth ks) es)) h k ∙ terms_cons (form_trip_of depth l.trip) (trips_of depth ms) c ds

pub constant_then : (depth : ℕ) (ls ms : List CountedLoop) (l : CountedLoop) (cs ds : List ℤ) (c : ℤ) (b r : Bool) → ls ≡ l ∷ ms → cs ≡ c ∷ ds → b ≡ (int_eq c (pos 0) || is_constant_trip (form_trip_of depth l.trip)) → b ≡ true
    → r ≡ list_all (λ (t : Term). is_constant_trip t.trip) (terms_in (trips_of depth ms) ds) → r ≡ list_all (λ (t : Term). is_constant_trip t.trip) (terms_in (trips_of depth ls) cs)
constant_then depth ls ms l cs ds c b r h k is t more =
    more ∙ sym (constant_both depth ls ms l cs ds c h k ∙ ap (λ x. x && all_constant (terms_in (trips_of depth ms) ds)) (sym is ∙ t))

pub constant_else : (depth : ℕ) (ls ms : List CountedLoop) (l : CountedLoop) (cs ds : List ℤ) (c : ℤ) (b : Bool) → ls ≡ l ∷ ms → cs ≡ c ∷ ds → b ≡ (int_eq c (pos 0) || is_constant_trip (form_trip_of depth l.trip)) → b ≡ false
    → b ≡ list_all (λ (t : Term). is_constant_trip t.trip) (terms_in (trips_of depth ls) cs)
constant_else depth ls ms l cs ds c b h k is f =
    f ∙ sym (constant_both depth ls ms l cs ds c h k ∙ ap (λ x. x && all_constant (terms_in (trips_of depth ms) ds)) (sym is ∙ f))

pub ruleset constant_laws = (constant_none, constant_without, constant_then, constant_else)

-- ---- the ends of a sum

pub le_true : (a b : ℤ) → a ≤ℤ b → int_le a b ≡ true
le_true a b h = by (int_le a b) refl
  where
    by : (t : Bool) → int_le a b ≡ t → int_le a b ≡ true
    by true e = e
    by false e = absurd (subst T e h.le)

pub true_le : (a b : ℤ) → int_le a b ≡ true → a ≤ℤ b
true_le a b h = record { le = T_from_true _ h }

-- a multiple lies between the first one and the last one
multiple_between : (c : ℤ) (n i : ℕ) → 1 ≤ i → i ≤ n → ((c ≤ℤ (c *ℤ pos i)) × ((c *ℤ pos i) ≤ℤ (c *ℤ pos n))) ⊎ (((c *ℤ pos n) ≤ℤ (c *ℤ pos i)) × ((c *ℤ pos i) ≤ℤ c))
multiple_between (pos a) n i h k =
    let e : a * 1 ≤ a * i = mul-le-mul_left a h in
    let f : a * i ≤ a * n = mul-le-mul_left a k in
    inl (omega (arith, ints), omega (arith, ints))
multiple_between (negsuc a) n i h k =
    let e : suc a * 1 ≤ suc a * i = mul-le-mul_left (suc a) h in
    let f : suc a * i ≤ suc a * n = mul-le-mul_left (suc a) k in
    inr (omega (arith, ints), omega (arith, ints))

rising : (u v w : ℤ) → ((u ≤ℤ w) × (w ≤ℤ v)) ⊎ ((v ≤ℤ w) × (w ≤ℤ u)) → int_le u v ≡ true → (u ≤ℤ w) × (w ≤ℤ v)
rising u v w (inl h) e = h
rising u v w (inr h) e = let a = true_le u v e in let b = h.0 in let c = h.1 in (omega (arith, ints), omega (arith, ints))

falling : (u v w : ℤ) → ((u ≤ℤ w) × (w ≤ℤ v)) ⊎ ((v ≤ℤ w) × (w ≤ℤ u)) → int_le u v ≡ false → (v ≤ℤ w) × (w ≤ℤ u)
falling u v w (inr h) e = h
falling u v w (inl h) e =
    let b = h.0 in
    let c = h.1 in
    let both : u ≤ℤ v = omega (arith, ints) in
    absurd (let bad : true ≡ false = sym (le_true u v both) ∙ e in cc)

plus_le : (a b x y : ℤ) → a ≤ℤ x → b ≤ℤ y → (b +ℤ a) ≤ℤ (x +ℤ y)
plus_le a b x y h k = omega (arith, ints)

le_plus : (a b x y : ℤ) → x ≤ℤ a → y ≤ℤ b → (x +ℤ y) ≤ℤ (b +ℤ a)
le_plus a b x y h k = omega (arith, ints)

turned : (a b x : ℤ) → x ≡ b → a +ℤ x ≡ b +ℤ a
turned a b x h = omega (arith, ints)

once_is : (c : ℤ) → c *ℤ pos 1 ≡ c
once_is c = omega (arith, ints)

-- by the counts of the loops
record Over (cs : List ℤ) (ns : List ℕ) (e : Ends) : Type 0 where
  within : (is : List ℕ) → AreFrom 1 ns is → (e.least ≤ℤ weighted cs (map pos is)) × (weighted cs (map pos is) ≤ℤ e.greatest)
  least : (is : List ℕ) × AreFrom 1 ns is × (weighted cs (map pos is) ≡ e.least)
  greatest : (is : List ℕ) × AreFrom 1 ns is × (weighted cs (map pos is) ≡ e.greatest)

abbrev up_ends : Ends → ℤ → ℕ → Ends
up_ends e c n = moved_by e c (c *ℤ pos n)

abbrev down_ends : Ends → ℤ → ℕ → Ends
down_ends e c n = moved_by e (c *ℤ pos n) c

module _ (cs : List ℤ) (ns : List ℕ) (e : Ends) (h : Over cs ns e) (c : ℤ) (n : ℕ) (some : 1 ≤ n) where
  first_at : (is : List ℕ) → AreFrom 1 ns is → AreFrom 1 (n ∷ ns) (1 ∷ is)
  first_at is a = ((omega arith, omega arith), a)

  last_at : (is : List ℕ) → AreFrom 1 ns is → AreFrom 1 (n ∷ ns) (n ∷ is)
  last_at is a = ((some, omega arith), a)

  rising_ends : int_le c (c *ℤ pos n) ≡ true → Over (c ∷ cs) (n ∷ ns) (up_ends e c n)
  rising_ends r = record {
    within = inside;
    least = (1 ∷ h.least.0, first_at h.least.0 h.least.1, ap (λ z. z +ℤ weighted cs (map pos h.least.0)) (once_is c) ∙ turned c e.least (weighted cs (map pos h.least.0)) h.least.2);
    greatest = (n ∷ h.greatest.0, last_at h.greatest.0 h.greatest.1, turned (c *ℤ pos n) e.greatest (weighted cs (map pos h.greatest.0)) h.greatest.2);
  }
    where
      inside : (is : List ℕ) → AreFrom 1 (n ∷ ns) is → ((e.least +ℤ c) ≤ℤ weighted (c ∷ cs) (map pos is)) × (weighted (c ∷ cs) (map pos is) ≤ℤ (e.greatest +ℤ c *ℤ pos n))
      inside [] a = absurd a
      inside (i ∷ is) a =
          let low : 1 ≤ i = a.0.0 in
          let g = a.0.1 in
          let high : i ≤ n = omega arith in
          let m = rising c (c *ℤ pos n) (c *ℤ pos i) (multiple_between c n i low high) r in
          let w = h.within is a.1 in
          (plus_le c e.least (c *ℤ pos i) (weighted cs (map pos is)) m.0 w.0, le_plus (c *ℤ pos n) e.greatest (c *ℤ pos i) (weighted cs (map pos is)) m.1 w.1)

  falling_ends : int_le c (c *ℤ pos n) ≡ false → Over (c ∷ cs) (n ∷ ns) (down_ends e c n)
  falling_ends r = record {
    within = inside;
    least = (n ∷ h.least.0, last_at h.least.0 h.least.1, turned (c *ℤ pos n) e.least (weighted cs (map pos h.least.0)) h.least.2);
    greatest = (1 ∷ h.greatest.0, first_at h.greatest.0 h.greatest.1, ap (λ z. z +ℤ weighted cs (map pos h.greatest.0)) (once_is c) ∙ turned c e.greatest (weighted cs (map pos h.greatest.0)) h.greatest.2);
  }
    where
      inside : (is : List ℕ) → AreFrom 1 (n ∷ ns) is → ((e.least +ℤ c *ℤ pos n) ≤ℤ weighted (c ∷ cs) (map pos is)) × (weighted (c ∷ cs) (map pos is) ≤ℤ (e.greatest +ℤ c))
      inside [] a = absurd a
      inside (i ∷ is) a =
          let low : 1 ≤ i = a.0.0 in
          let g = a.0.1 in
          let high : i ≤ n = omega arith in
          let m = falling c (c *ℤ pos n) (c *ℤ pos i) (multiple_between c n i low high) r in
          let w = h.within is a.1 in
          (plus_le (c *ℤ pos n) e.least (c *ℤ pos i) (weighted cs (map pos is)) m.0 w.0, le_plus c e.greatest (c *ℤ pos i) (weighted cs (map pos is)) m.1 w.1)

  wider : (b : Bool) → int_le c (c *ℤ pos n) ≡ b → Over (c ∷ cs) (n ∷ ns) (cond b (up_ends e c n) (down_ends e c n))
  wider true r = rising_ends r
  wider false r = falling_ends r

-- ---- terms

abbrev counts_in : List Term → List ℕ
counts_in ts = map (λ (t : Term). not_negative t.trip.form.constant) ts

abbrev AreSmall : ℕ → Ends → Type 0
AreSmall k e = (unsigned_abs e.least ≤ k * 2 ^ 103) × (unsigned_abs e.greatest ≤ k * 2 ^ 103)

over_ends : (ts : List Term) (e : Ends) → Over (coefficients_of ts) (counts_in ts) e → AreSmall (length ts) e → AreEnds ts e
over_ends ts e h small = record {
  within = λ is c. h.within is (sequence_from (counts_in ts) is c);
  least = (h.least.0, from_sequence (counts_in ts) h.least.0 h.least.1, h.least.2);
  greatest = (h.greatest.0, from_sequence (counts_in ts) h.greatest.0 h.greatest.1, h.greatest.2);
  small = small;
}

ends_over : (ts : List Term) (e : Ends) → AreEnds ts e → Over (coefficients_of ts) (counts_in ts) e
ends_over ts e h = record {
  within = λ is a. h.within is (from_sequence (counts_in ts) is a);
  least = (h.least.0, sequence_from (counts_in ts) h.least.0 h.least.1, h.least.2);
  greatest = (h.greatest.0, sequence_from (counts_in ts) h.greatest.0 h.greatest.1, h.greatest.2);
}

abbrev no_ends : Ends
no_ends = record { least = pos 0; greatest = pos 0 }

pub ends_of_none : AreEnds [] (record { least = pos 0; greatest = pos 0 })
ends_of_none = over_ends [] no_ends (record {
  within = λ is a. by is a;
  least = ([], tt, refl);
  greatest = ([], tt, refl);
}) (omega arith, omega arith)
  where
    by : (is : List ℕ) → AreFrom 1 [] is → (pos 0 ≤ℤ weighted [] (map pos is)) × (weighted [] (map pos is) ≤ℤ pos 0)
    by is a = (omega (arith, ints), omega (arith, ints))

abbrev with_term : ℤ → forms.FormTrip → List Term → List Term
with_term c t ts = record { coefficient = c; trip = t } ∷ ts

-- a loop that doesn't turn leaves no iteration
no_iteration : (c : ℤ) (t : forms.FormTrip) (ts : List Term) → not_negative t.form.constant ≡ 0 → iterations_of (with_term c t ts) ≡ []
no_iteration c t ts h = ap (λ n. in_sequence (n ∷ counts_in ts)) h

nothing_behind : (n : ℕ) (ns : List ℕ) → in_sequence ns ≡ [] → in_sequence (n ∷ ns) ≡ []
nothing_behind n ns h = none_of (in_sequence (n ∷ ns)) (λ is c. by is (sequence_from (n ∷ ns) is c))
  where
    none_of : (iss : List (List ℕ)) → ((is : List ℕ) → Contains iss is → ⊥) → iss ≡ []
    none_of [] f = refl
    none_of (is ∷ iss) f = absurd (f is (here is iss))

    by : (is : List ℕ) → AreFrom 1 (n ∷ ns) is → ⊥
    by [] a = a
    by (i ∷ is) a = nowhere is (subst (λ iss. Contains iss is) h (from_sequence ns is a.1))

one_more : (k : ℕ) (z y : ℤ) → unsigned_abs y ≤ k * 2 ^ 103 → unsigned_abs z ≤ unsigned_abs y + 2 ^ 103 → unsigned_abs z ≤ suc k * 2 ^ 103
one_more k z y h i = omega arith

no_turn : (z : ℤ) → int_le (pos 1) z ≡ false → not_negative z ≡ 0
no_turn (pos zero) h = refl
no_turn (pos (suc n)) h =
    let some : pos 1 ≤ℤ pos (suc n) = omega (arith, ints) in
    absurd (let bad : true ≡ false = sym (le_true (pos 1) (pos (suc n)) some) ∙ h in cc)
no_turn (negsuc n) h = refl

some_turn : (z : ℤ) → int_le (pos 1) z ≡ true → (n : ℕ) × (1 ≤ n) × (z ≡ pos n)
some_turn (pos n) h = let some = true_le (pos 1) (pos n) h in (n, omega (arith, ints), refl)
some_turn (negsuc n) h = let some = true_le (pos 1) (negsuc n) h in absurd (omega (arith, ints))

abbrev Grow : Ends → Ends → Type 0
Grow e f = (unsigned_abs f.least ≤ unsigned_abs e.least + 2 ^ 103) × (unsigned_abs f.greatest ≤ unsigned_abs e.greatest + 2 ^ 103)

pub term_widened : (c : ℤ) (t : forms.FormTrip) (ts : List Term) (e : Ends) (r : Option Ends) → AreEnds ts e → r ≡ widened e c t.form.constant
    → IfSome r (λ (f : Ends). (unsigned_abs f.least ≤ unsigned_abs e.least + 2 ^ 103) × (unsigned_abs f.greatest ≤ unsigned_abs e.greatest + 2 ^ 103)) → HasEnds (record { coefficient = c; trip = t } ∷ ts) r
term_widened c t ts e r h is sizes = by (int_le (pos 1) t.form.constant) refl is
  where
    by : (b : Bool) → int_le (pos 1) t.form.constant ≡ b
        → r ≡ cond b (Some (cond (int_le c (c *ℤ t.form.constant)) (moved_by e c (c *ℤ t.form.constant)) (moved_by e (c *ℤ t.form.constant) c))) None → HasEnds (with_term c t ts) r
    by false k g = subst (HasEnds (with_term c t ts)) (sym g) (no_iteration c t ts (no_turn t.form.constant k))
    by true k g =
        let turn = some_turn t.form.constant k in
        let n : ℕ = turn.0 in
        let made : Ends = cond (int_le c (c *ℤ pos n)) (up_ends e c n) (down_ends e c n) in
        let is_made : r ≡ Some made = g ∙ ap (λ z. Some (cond (int_le c (c *ℤ z)) (moved_by e c (c *ℤ z)) (moved_by e (c *ℤ z) c))) turn.2 in
        let grown : Grow e made = subst (λ o. IfSome o (Grow e)) is_made sizes in
        subst (HasEnds (with_term c t ts)) (sym is_made)
        (over_ends (with_term c t ts) made
        (subst (λ m. Over (c ∷ coefficients_of ts) (m ∷ counts_in ts) made) (sym (ap not_negative turn.2))
        (wider (coefficients_of ts) (counts_in ts) e (ends_over ts e h) c n turn.1 (int_le c (c *ℤ pos n)) refl))
        (one_more (length ts) made.least e.least h.small.0 grown.0, one_more (length ts) made.greatest e.greatest h.small.1 grown.1))

few_terms : (trips : List forms.FormTrip) (cs : List ℤ) → length (terms_in trips cs) ≤ length trips
few_terms [] cs = omega arith
few_terms (t ∷ ts) [] = omega arith
few_terms (t ∷ ts) (c ∷ cs) = by (int_eq c (pos 0)) (few_terms ts cs)
  where
    by : (b : Bool) → length (terms_in ts cs) ≤ length ts → length (cond b (terms_in ts cs) (record { coefficient = c; trip = t } ∷ terms_in ts cs)) ≤ suc (length ts)
    by true h = omega (arith, h)
    by false h = omega (arith, h)

-- one loop more
module _ (depth : ℕ) (ls ms : List CountedLoop) (l : CountedLoop) (cs ds : List ℤ) (c : ℤ) (loops : ls ≡ l ∷ ms) (times : cs ≡ c ∷ ds) where
  abbrev inner : List Term
  inner = terms_in (trips_of depth ms) ds

  with_loop : terms_in (trips_of depth ls) cs ≡ cond (int_eq c (pos 0)) (terms_in (trips_of depth ms) ds) (with_term c (form_trip_of depth l.trip) (terms_in (trips_of depth ms) ds))
  with_loop = ap₂ (λ ks es. terms_in (trips_of depth ks) es) loops times

  pub ends_of_no_turn : (o : Option Ends) → HasEnds (terms_in (trips_of depth ms) ds) o → o ≡ None → iterations_of (terms_in (trips_of depth ls) cs) ≡ []
  ends_of_no_turn o h e = subst (λ ts. iterations_of ts ≡ []) (sym with_loop) (by (int_eq c (pos 0)))
    where
      nothing : iterations_of inner ≡ []
      nothing = subst (HasEnds inner) e h

      by : (b : Bool) → iterations_of (cond b inner (with_term c (form_trip_of depth l.trip) inner)) ≡ []
      by true = nothing
      by false = nothing_behind (not_negative (form_trip_of depth l.trip).form.constant) (counts_in inner) nothing

  pub ends_without : (o : Option Ends) (e : Ends) (b : Bool) → HasEnds (terms_in (trips_of depth ms) ds) o → o ≡ Some e → b ≡ int_eq c (pos 0) → b ≡ true → AreEnds (terms_in (trips_of depth ls) cs) e
  ends_without o e b h i is t =
      subst (λ ts. AreEnds ts e) (sym (with_loop ∙ ap (λ d. cond d inner (with_term c (form_trip_of depth l.trip) inner)) (sym is ∙ t))) (subst (HasEnds inner) i h)

  pub ends_wider : (o r : Option Ends) (e : Ends) (b : Bool) → HasEnds (terms_in (trips_of depth ms) ds) o → o ≡ Some e → b ≡ int_eq c (pos 0) → b ≡ false → r ≡ widened e c l.trip.top.constant
      → IfSome r (λ (f : Ends). (unsigned_abs f.least ≤ unsigned_abs e.least + 2 ^ 103) × (unsigned_abs f.greatest ≤ unsigned_abs e.greatest + 2 ^ 103)) → HasEnds (terms_in (trips_of depth ls) cs) r
  ends_wider o r e b h i is f made sizes =
      subst (λ ts. HasEnds ts r) (sym (with_loop ∙ ap (λ d. cond d inner (with_term c (form_trip_of depth l.trip) inner)) (sym is ∙ f)))
      (term_widened c (form_trip_of depth l.trip) inner e r (subst (HasEnds inner) i h) made sizes)

-- of at most seven loops
pub ends_small : (depth : ℕ) (ls : List CountedLoop) (cs : List ℤ) (o : Option Ends) (e : Ends) → length ls ≤ 7 → HasEnds (terms_in (trips_of depth ls) cs) o → o ≡ Some e
    → (unsigned_abs e.least ≤ 7 * 2 ^ 103) × (unsigned_abs e.greatest ≤ 7 * 2 ^ 103)
ends_small depth ls cs o e few h i =
    let ends : AreEnds (terms_in (trips_of depth ls) cs) e = subst (HasEnds (terms_in (trips_of depth ls) cs)) i h in
    let terms = few_terms (trips_of depth ls) cs in
    let trips : length (trips_of depth ls) ≡ length ls = length-map ls (λ (l : CountedLoop). form_trip_of depth l.trip) in
    (at_most_seven (length (terms_in (trips_of depth ls) cs)) (unsigned_abs e.least) (omega arith) ends.small.0, at_most_seven (length (terms_in (trips_of depth ls) cs)) (unsigned_abs e.greatest) (omega arith) ends.small.1)
  where
    at_most_seven : (k z : ℕ) → k ≤ 7 → z ≤ k * 2 ^ 103 → z ≤ 7 * 2 ^ 103
    at_most_seven k z f g = omega arith

pub fewer : (ls ms : List CountedLoop) (l : CountedLoop) → ls ≡ l ∷ ms → length ls ≤ 7 → length ms ≤ 7
fewer ls ms l e few = let k = ap length e in omega arith

-- ---- the whole

all_at : {X : Type 0} (p : X → Bool) (xs : List X) → ((x : X) → Contains xs x → p x ≡ true) → list_all p xs ≡ true
all_at p [] h = refl
all_at p (x ∷ xs) h = ap₂ (λ b c. b && c) (h x (here x xs)) (all_at p xs (λ y c. h y (there x xs y c)))

pub at_all : {X : Type 0} (p : X → Bool) (xs : List X) → list_all p xs ≡ true → (x : X) → Contains xs x → p x ≡ true
at_all p [] h x c = absurd (nowhere x c)
at_all p (y ∷ ys) h x c = by (p y) refl (list_all p ys) h (λ b. at_all p ys b x) (cases_of y ys x c)
  where
    by : (a : Bool) → p y ≡ a → (b : Bool) → (a && b) ≡ true → (b ≡ true → Contains ys x → p x ≡ true) → (y ≡ x) ⊎ Contains ys x → p x ≡ true
    by true e b g more (inl q) = ap p (sym q) ∙ e
    by true e b g more (inr k) = more g k
    by false e b g more k = cc

pub either_way : (p q : Bool) → (p ≡ true → q ≡ true) → (q ≡ true → p ≡ true) → p ≡ q
either_way true q h k = sym (h refl)
either_way false true h k = k refl
either_way false false h k = refl

pub both_parts : (a b : Bool) → (a && b) ≡ true → (a ≡ true) × (b ≡ true)
both_parts true b h = (refl, h)
both_parts false b h = cc

and_true : (a b : Bool) → a ≡ true → b ≡ true → (a && b) ≡ true
and_true true b e h = h
and_true false b e h = cc

moved_low : (l e w z : ℤ) → l ≤ℤ (e +ℤ z) → e ≤ℤ w → l ≤ℤ (w +ℤ z)
moved_low l e w z h k = omega (arith, ints)

moved_high : (u e w z : ℤ) → (e +ℤ z) ≤ℤ u → w ≤ℤ e → (w +ℤ z) ≤ℤ u
moved_high u e w z h k = omega (arith, ints)

pub between_ends : (b : ℤ × ℤ) (z : ℤ) (ts : List Term) (e : Ends) → AreEnds ts e → stays_between b z ts ≡ (int_le b.0 (e.least +ℤ z) && int_le (e.greatest +ℤ z) b.1)
between_ends b z ts e h = either_way (stays_between b z ts) (int_le b.0 (e.least +ℤ z) && int_le (e.greatest +ℤ z) b.1) to_ends of_ends
  where
    there_it_is : (is : List ℕ) → Contains (iterations_of ts) is → stays_between b z ts ≡ true → (int_le b.0 (sum_at ts is +ℤ z) ≡ true) × (int_le (sum_at ts is +ℤ z) b.1 ≡ true)
    there_it_is is c t = both_parts (int_le b.0 (sum_at ts is +ℤ z)) (int_le (sum_at ts is +ℤ z) b.1) (at_all (λ js. is_between b (sum_at ts js +ℤ z)) (iterations_of ts) t is c)

    to_ends : stays_between b z ts ≡ true → (int_le b.0 (e.least +ℤ z) && int_le (e.greatest +ℤ z) b.1) ≡ true
    to_ends t =
        and_true (int_le b.0 (e.least +ℤ z)) (int_le (e.greatest +ℤ z) b.1)
        (subst (λ w. int_le b.0 (w +ℤ z) ≡ true) h.least.2 (there_it_is h.least.0 h.least.1 t).0)
        (subst (λ w. int_le (w +ℤ z) b.1 ≡ true) h.greatest.2 (there_it_is h.greatest.0 h.greatest.1 t).1)

    of_ends : (int_le b.0 (e.least +ℤ z) && int_le (e.greatest +ℤ z) b.1) ≡ true → stays_between b z ts ≡ true
    of_ends t =
        let parts = both_parts (int_le b.0 (e.least +ℤ z)) (int_le (e.greatest +ℤ z) b.1) t in
        all_at (λ js. is_between b (sum_at ts js +ℤ z)) (iterations_of ts) (λ is c.
        let w = h.within is c in
        and_true (int_le b.0 (sum_at ts is +ℤ z)) (int_le (sum_at ts is +ℤ z) b.1)
        (le_true b.0 (sum_at ts is +ℤ z) (moved_low b.0 e.least (sum_at ts is) z (true_le b.0 (e.least +ℤ z) parts.0) w.0))
        (le_true (sum_at ts is +ℤ z) b.1 (moved_high b.1 e.greatest (sum_at ts is) z (true_le (e.greatest +ℤ z) b.1 parts.1) w.1)))

-- the coefficients of loops as the program has them
no_coefficient : (ts : List forms.FormTrip) (c : ℤ) (cs : List ℤ) (t : forms.FormTrip) → c ≡ pos 0 → terms_in (t ∷ ts) (c ∷ cs) ≡ terms_in ts cs
no_coefficient ts c cs t h = ap (λ b. cond b (terms_in ts cs) (record { coefficient = c; trip = t } ∷ terms_in ts cs)) ((Decides-int_eq c (pos 0)).1 h)

terms_same : (ts : List forms.FormTrip) (xs ys : List ℤ) → ((k : ℕ) → get_or xs k (pos 0) ≡ get_or (take (length ts) ys) k (pos 0)) → terms_in ts xs ≡ terms_in ts ys
terms_same [] xs ys h = refl
terms_same (t ∷ ts) [] [] h = refl
terms_same (t ∷ ts) [] (y ∷ ys) h =
    sym (terms_of_none ts) ∙ (terms_same ts [] ys (λ k. h (suc k)) ∙ sym (no_coefficient ts y ys t (sym (h 0))))
terms_same (t ∷ ts) (x ∷ xs) [] h =
    no_coefficient ts x xs t (h 0) ∙ (terms_same ts xs [] (λ k. h (suc k) ∙ none_there (length ts) k) ∙ terms_of_none ts)
  where
    none_there : (n k : ℕ) → pos 0 ≡ get_or (take n []) k (pos 0)
    none_there zero k = refl
    none_there (suc n) k = refl
terms_same (t ∷ ts) (x ∷ xs) (y ∷ ys) h =
    ap₂ (λ c us. cond (int_eq c (pos 0)) us (record { coefficient = c; trip = t } ∷ us)) (h 0) (terms_same ts xs ys (λ k. h (suc k)))

-- the symbols
front_term : (o : ℕ) (ds : List ℤ) → ((terms_from o ds ≡ []) × ((not_zero ds == 0) ≡ true)) ⊎ ((t : ℕ × ℤ) × (ts : List (ℕ × ℤ)) × (terms_from o ds ≡ t ∷ ts) × (int_eq t.1 (pos 0) ≡ false) × ((not_zero ds == 0) ≡ false))
front_term o [] = inl (refl, refl)
front_term o (d ∷ ds) = by (int_eq d (pos 0)) refl (front_term (suc o) ds)
  where
    by : (b : Bool) → int_eq d (pos 0) ≡ b
        → ((terms_from (suc o) ds ≡ []) × ((not_zero ds == 0) ≡ true)) ⊎ ((t : ℕ × ℤ) × (ts : List (ℕ × ℤ)) × (terms_from (suc o) ds ≡ t ∷ ts) × (int_eq t.1 (pos 0) ≡ false) × ((not_zero ds == 0) ≡ false))
        → ((cond b (terms_from (suc o) ds) ((o, d) ∷ terms_from (suc o) ds) ≡ []) × ((cond b (not_zero ds) (suc (not_zero ds)) == 0) ≡ true))
        ⊎ ((t : ℕ × ℤ) × (ts : List (ℕ × ℤ)) × (cond b (terms_from (suc o) ds) ((o, d) ∷ terms_from (suc o) ds) ≡ t ∷ ts) × (int_eq t.1 (pos 0) ≡ false) × ((cond b (not_zero ds) (suc (not_zero ds)) == 0) ≡ false))
    by true e more = more
    by false e more = inr ((o, d), terms_from (suc o) ds, refl, e, not_none (suc (not_zero ds)) (λ q. absurd (omega arith)))

unused_is : (ds : List ℤ) → list_all (λ c. int_eq c (pos 0)) (coefficients_from 0 (padded (terms_from 0 ds))) ≡ (not_zero ds == 0)
unused_is ds = by (front_term 0 ds)
  where
    by : ((terms_from 0 ds ≡ []) × ((not_zero ds == 0) ≡ true)) ⊎ ((t : ℕ × ℤ) × (ts : List (ℕ × ℤ)) × (terms_from 0 ds ≡ t ∷ ts) × (int_eq t.1 (pos 0) ≡ false) × ((not_zero ds == 0) ≡ false))
        → list_all is_zero (coefficients_from 0 (padded (terms_from 0 ds))) ≡ (not_zero ds == 0)
    by (inl h) = ap (λ us. list_all is_zero (coefficients_from 0 (padded us))) h.0 ∙ sym h.1
    by (inr h) =
        let t = h.0 in
        let ts = h.1 in
        ap (λ us. list_all is_zero (coefficients_from 0 (padded us))) h.2
        ∙ (ap (λ b. list_all is_zero (cond b [] (replicate (t.0 - 0) (pos 0) ++ t.1 ∷ coefficients_from (suc t.0) (ts ++ replicate (8 - suc (length ts)) (0, pos 0))))) h.3
        ∙ (zeros_pass (t.0 - 0) t.1 (coefficients_from (suc t.0) (ts ++ replicate (8 - suc (length ts)) (0, pos 0))) h.3 ∙ sym h.4))

pub symbols_are : (n : ℕ) (f : Form) (a : Affine) (r : Bool) → IsAffineOf n f a → r ≡ list_all (λ c. int_eq c (pos 0)) (coefficients_from 0 a.syms) → r ≡ (not_zero (drop n f.coefficients) == 0)
symbols_are n f a r h is = is ∙ (ap (λ ts. list_all is_zero (coefficients_from 0 ts)) h.symbols ∙ unused_is (drop n f.coefficients))

module _ (ls : List CountedLoop) (f : Form) (a : Affine) (b : ℤ × ℤ) (h : IsAffineOf (length ls) f a) where
  abbrev trips : List forms.FormTrip
  trips = trips_of (length ls) ls

  as_many : length trips ≡ length ls
  as_many = length-map ls (λ (l : CountedLoop). form_trip_of (length ls) l.trip)

  own_terms : terms_in trips a.loops ≡ terms_in trips f.coefficients
  own_terms = terms_same trips a.loops f.coefficients (λ k. h.loops k ∙ ap (λ n. get_or (take n f.coefficients) k (pos 0)) (sym as_many))

  abbrev box : Bool
  box = is_in_box (trips_of (length ls) ls) f b

  box_is : is_in_box (trips_of (length ls) ls) f b ≡ ((not_zero (drop (length ls) f.coefficients) == 0) && (all_constant (terms_in trips a.loops) && stays_between b f.constant (terms_in trips a.loops)))
  box_is =
      ap₂ (λ n us. (not_zero (drop n f.coefficients) == 0) && (all_constant us && stays_between b f.constant us)) as_many (sym own_terms)

  pub not_unused : (r : Bool) → r ≡ list_all (λ c. int_eq c (pos 0)) (coefficients_from 0 a.syms) → r ≡ false → false ≡ is_in_box (trips_of (length ls) ls) f b
  not_unused r is not_so = sym (box_is ∙ ap (λ s. s && (all_constant (terms_in trips a.loops) && stays_between b f.constant (terms_in trips a.loops))) (sym (symbols_are (length ls) f a r h is) ∙ not_so))

  pub not_constant : (r s : Bool) → r ≡ list_all (λ c. int_eq c (pos 0)) (coefficients_from 0 a.syms) → r ≡ true
      → s ≡ list_all (λ (t : Term). is_constant_trip t.trip) (terms_in (trips_of (length ls) ls) a.loops) → s ≡ false → false ≡ is_in_box (trips_of (length ls) ls) f b
  not_constant r s is so c not_so =
      sym (box_is ∙ (ap (λ x. x && (all_constant (terms_in trips a.loops) && stays_between b f.constant (terms_in trips a.loops))) (sym (symbols_are (length ls) f a r h is) ∙ so)
      ∙ ap (λ x. x && stays_between b f.constant (terms_in trips a.loops)) (sym c ∙ not_so)))

  constant_box : (r s : Bool) → r ≡ list_all (λ c. int_eq c (pos 0)) (coefficients_from 0 a.syms) → r ≡ true
      → s ≡ list_all (λ (t : Term). is_constant_trip t.trip) (terms_in (trips_of (length ls) ls) a.loops) → s ≡ true → is_in_box (trips_of (length ls) ls) f b ≡ stays_between b f.constant (terms_in trips a.loops)
  constant_box r s is so c too =
      box_is ∙ (ap (λ x. x && (all_constant (terms_in trips a.loops) && stays_between b f.constant (terms_in trips a.loops))) (sym (symbols_are (length ls) f a r h is) ∙ so)
      ∙ ap (λ x. x && stays_between b f.constant (terms_in trips a.loops)) (sym c ∙ too))

  pub empty_box : (r s : Bool) → r ≡ list_all (λ c. int_eq c (pos 0)) (coefficients_from 0 a.syms) → r ≡ true
      → s ≡ list_all (λ (t : Term). is_constant_trip t.trip) (terms_in (trips_of (length ls) ls) a.loops) → s ≡ true
      → (o : Option Ends) → HasEnds (terms_in (trips_of (length ls) ls) a.loops) o → o ≡ None → true ≡ is_in_box (trips_of (length ls) ls) f b
  empty_box r s is so c too o h e =
      let none : iterations_of (terms_in trips a.loops) ≡ [] = subst (HasEnds (terms_in trips a.loops)) e h in
      sym (constant_box r s is so c too ∙ ap (list_all (λ js. is_between b (sum_at (terms_in trips a.loops) js +ℤ f.constant))) none)

  pub box_of_ends : (r s t : Bool) (o : Option Ends) (e : Ends) → r ≡ list_all (λ c. int_eq c (pos 0)) (coefficients_from 0 a.syms) → r ≡ true
      → s ≡ list_all (λ (t : Term). is_constant_trip t.trip) (terms_in (trips_of (length ls) ls) a.loops) → s ≡ true
      → HasEnds (terms_in (trips_of (length ls) ls) a.loops) o → o ≡ Some e → t ≡ (int_le b.0 (e.least +ℤ a.constant) && int_le (e.greatest +ℤ a.constant) b.1) → t ≡ is_in_box (trips_of (length ls) ls) f b
  box_of_ends r s t o e is so c too ends i answer =
      answer ∙ (ap (λ z. int_le b.0 (e.least +ℤ z) && int_le (e.greatest +ℤ z) b.1) h.constant
      ∙ sym (constant_box r s is so c too ∙ between_ends b f.constant (terms_in trips a.loops) e (subst (HasEnds (terms_in trips a.loops)) i ends)))

-- by what the program compares
pub lies_there : (low up least greatest c k a b p q : ℤ) (r t : Bool) → k ≡ c → a ≡ low → b ≡ up → p ≡ least +ℤ k → q ≡ greatest +ℤ k → r ≡ int_le a p → r ≡ true → t ≡ int_le q b
    → t ≡ (int_le low (least +ℤ c) && int_le (greatest +ℤ c) up)
lies_there low up least greatest c k a b p q r t same lower upper first last is so answer =
    answer ∙ (ap₂ int_le (last ∙ ap (λ z. greatest +ℤ z) same) upper
    ∙ sym (ap (λ d. d && int_le (greatest +ℤ c) up) (sym (ap₂ int_le lower (first ∙ ap (λ z. least +ℤ z) same)) ∙ (sym is ∙ so))))
