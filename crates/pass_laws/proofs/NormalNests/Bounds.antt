-- The form of a bound, over the loops that stand in it and over the counters of all loops.
use mathlib.Core.Path.{ap₂}
use Rattle.std.proofs.Common.{◌≡◌, refl, sym, ap, ◌∙◌, subst, ℕ, zero, suc, ◌+◌, ◌-◌, ◌≤◌, ◌<◌, ℤ, pos, ◌+ℤ◌, ◌*ℤ◌, Bool, true, false, cond, ◌&&◌, ◌||◌, List, [], ◌∷◌, ◌++◌, map, filter, take, drop, length, Option, Some, None, arith}
use Rattle.std.specs.Prelude.{nat_le}
use Rattle.std.specs.List.{list_all, list_any}
use Rattle.std.specs.Option.{option_map}
use Rattle.std.specs.Str.{bytes_eq}
use Rattle.std.proofs.lemmas.Int.{ints}
use Rattle.std.proofs.lemmas.List.{get_or-take, length-map}
use Rattle.std.proofs.lemmas.Slice.Eq.{bytes_eq-Decides}
use Rattle.std.proofs.Math.IntN.{zero-*ℤ, *ℤ-zero}
use Rattle.tree.specs.Plain.{Expression}
use Rattle.meaning.specs.Reads.{names_in}
use Rattle.subscripts.specs.declared.affine.Affine.{Affine}
use Rattle.linear_forms.specs.Linear.{Form, sum, multiple, is_small, all_small, not_zero, linear, form_of}
use Rattle.linear_forms.specs.Places.{terms_from}
use Rattle.linear_forms.proofs.Sizes.{both}
use Rattle.linear_forms.proofs.TextsKeep.{text_limited}
use Rattle.components.specs.Lists.{Each}
use Rattle.find_nests.specs.bound_limits.Composed as outer
use Rattle.find_nests.specs.bound_limits.Composed.{Outer, filled, with_multiples, composed, is_loop_among, those_in}
use Rattle.last_values.specs.declared.normal_forms.loops.NormalLoop.{NormalLoop}
use Rattle.last_values.specs.declared.normal_forms.places.Place.{Place}
use Rattle.last_values.specs.declared.normal_forms.places.Place.TheVariants as place
use Rattle.last_values.specs.normal_forms.Combinations.{number_of_place, combined_at, has_small_factor, affine_of, without_loops, times}
use Rattle.last_values.specs.normal_forms.NormalLoops.{variables_of, variable_values_from, with_counters}
use Rattle.last_values.proofs.NormalForms.Numbers.{looked_up}
use Rattle.pass_laws.proofs.ReadyNests.LoopForms.{without_at}
use Rattle.pass_laws.proofs.NormalNests.Combined.{IsSame, AddsUpTo, joined_at, sum_at}
use Rattle.pass_laws.proofs.NormalNests.Spread.{At, after_one, small_at, Spread, Spreads, passing, spread_rest, whole_form}

-- ---- sums over loops

-- so many times what each loop stands for; coefficients are 0 past the end
abbrev pub total : List ℤ → List Outer → (Form → ℤ) → ℤ
total cs [] q = pos 0
total cs (r ∷ rs) q = At cs 0 *ℤ q r.form +ℤ total (drop 1 cs) rs q

grouped : (x y z : ℤ) → (x +ℤ y) +ℤ z ≡ x +ℤ (y +ℤ z)
grouped x y z = omega (arith, ints)

no_more : (x : ℤ) → x ≡ x +ℤ pos 0
no_more x = omega (arith, ints)

multiples_total : (q : Form → ℤ) → ((f g : Form) (z : ℤ) → q (sum f (multiple z g)) ≡ q f +ℤ z *ℤ q g) → (f : Form) (cs : List ℤ) (rs : List Outer)
    → q (with_multiples f cs rs) ≡ q f +ℤ total cs rs q
multiples_total q adds f cs [] = no_more (q f)
multiples_total q adds f cs (r ∷ rs) =
    multiples_total q adds (sum f (multiple (At cs 0) r.form)) (drop 1 cs) rs
    ∙ ap (λ z. z +ℤ total (drop 1 cs) rs q) (adds f r.form (At cs 0))
    ∙ grouped (q f) (At cs 0 *ℤ q r.form) (total (drop 1 cs) rs q)

none_then : (x y : ℤ) → x ≡ pos 0 → (z : ℤ) → z ≡ x *ℤ y +ℤ z
none_then x y e z = sym (ap (λ w. w *ℤ y +ℤ z) e ∙ ap (λ w. w +ℤ z) (zero-*ℤ y) ∙ nothing z)
  where
    nothing : (z : ℤ) → pos 0 +ℤ z ≡ z
    nothing z = omega (arith, ints)

-- loops that don't pass have no coefficient
spread_total : (asked : Outer → Bool) (q : Form → ℤ) (rs : List Outer) (few all : List ℤ) → Spread (map asked rs) few all → total few (filter asked rs) q ≡ total all rs q
spread_total asked q [] few all h = refl
spread_total asked q (r ∷ rs) few all h = by (asked r) h (λ f a. spread_total asked q rs f a)
  where
    by : (b : Bool) → Spread (b ∷ map asked rs) few all → ((f a : List ℤ) → Spread (map asked rs) f a → total f (filter asked rs) q ≡ total a rs q)
        → total few (cond b (r ∷ filter asked rs) (filter asked rs)) q ≡ At all 0 *ℤ q r.form +ℤ total (drop 1 all) rs q
    by true g more = ap₂ (λ x y. x *ℤ q r.form +ℤ y) (sym g.0) (more (drop 1 few) (drop 1 all) g.1)
    by false g more = more few (drop 1 all) g.1 ∙ none_then (At all 0) (q r.form) g.0 (total (drop 1 all) rs q)

total_zero : (q : Form → ℤ) (rs : List Outer) (cs : List ℤ) → Each (λ (r : Outer). q r.form ≡ pos 0) rs → total cs rs q ≡ pos 0
total_zero q [] cs h = refl
total_zero q (r ∷ rs) cs h = ap₂ (λ x y. At cs 0 *ℤ x +ℤ y) h.0 (total_zero q rs (drop 1 cs) h.1) ∙ zeros (At cs 0)
  where
    zeros : (z : ℤ) → z *ℤ pos 0 +ℤ pos 0 ≡ pos 0
    zeros z = sym (no_more (z *ℤ pos 0)) ∙ *ℤ-zero z

-- what stands for each loop has this number
abbrev pub AllAt : Place → (Form → ℤ) → List NormalLoop → List Outer → Type 0
AllAt p q [] [] = Unit {0}
AllAt p q [] (o ∷ os) = ⊥
AllAt p q (r ∷ rs) [] = ⊥
AllAt p q (r ∷ rs) (o ∷ os) = (number_of_place r.value p ≡ q o.form) × AllAt p q rs os

values_total : (p : Place) (q : Form → ℤ) (k : ℕ) (a : Affine) (round : List NormalLoop) (around : List Outer) (cs : List ℤ)
    → ((i : ℕ) → i < length round → number_of_place a (place.Loop (k + i)) ≡ At cs i) → AllAt p q round around → combined_at (variable_values_from k a round) p ≡ total cs around q
values_total p q k a [] [] cs h s = refl
values_total p q k a [] (o ∷ os) cs h s = absurd s
values_total p q k a (r ∷ rs) [] cs h s = absurd s
values_total p q k a (r ∷ rs) (o ∷ os) cs h s =
    ap₂ (λ x y. x +ℤ y) (ap₂ (λ x y. x *ℤ y) (ap (λ m. number_of_place a (place.Loop m)) (let e : k ≡ k + 0 = omega arith in e) ∙ h 0 (omega arith)) s.0)
    (values_total p q (k + 1) a rs os (drop 1 cs)
    (λ i l. ap (λ m. number_of_place a (place.Loop m)) (let e : (k + 1) + i ≡ k + suc i = omega arith in e) ∙ h (suc i) (omega (arith, l)) ∙ after_one cs i) s.1)

-- ---- the coefficients of symbols

filled_at : (n : ℕ) (cs : List ℤ) (j : ℕ) → j < n → At (filled n cs) j ≡ At cs j
filled_at zero cs j h = absurd (omega (arith, h))
filled_at (suc n) [] zero h = refl
filled_at (suc n) [] (suc j) h = filled_at n [] j (omega (arith, h))
filled_at (suc n) (c ∷ cs) zero h = refl
filled_at (suc n) (c ∷ cs) (suc j) h = filled_at n cs j (omega (arith, h))

pub filled_past : (n : ℕ) (cs : List ℤ) (j : ℕ) → n ≤ j → At (filled n cs) j ≡ pos 0
filled_past zero cs j h = refl
filled_past (suc n) cs zero h = absurd (omega (arith, h))
filled_past (suc n) [] (suc j) h = filled_past n [] j (omega (arith, h))
filled_past (suc n) (c ∷ cs) (suc j) h = filled_past n cs j (omega (arith, h))

symbol_at : (d : ℕ) (f : Form) (j : ℕ) → number_of_place (without_loops (affine_of d f)) (place.Symbol j) ≡ At (drop d f.coefficients) j
symbol_at d f j = looked_up 0 (drop d f.coefficients) (8 - length (terms_from 0 (drop d f.coefficients))) j j (omega arith)

turned_round : (x y u : ℤ) → x ≡ u → y +ℤ (pos 1 *ℤ x +ℤ pos 0) ≡ u +ℤ y
turned_round x y u e = ap (λ w. y +ℤ (pos 1 *ℤ w +ℤ pos 0)) e ∙ simple u y
  where
    simple : (u y : ℤ) → y +ℤ (pos 1 *ℤ u +ℤ pos 0) ≡ u +ℤ y
    simple u y = omega (arith, ints)

-- ---- loops from 1 by 1, and what stands for the loops round a bound

pub record Stands (n : ℕ) (r : NormalLoop) (o : Outer) : Type 0 where
  pub variable : r.variable ≡ o.variable
  pub same : IsSame n r.value o.form
  pub past : (i : ℕ) → n + 7 ≤ i → At o.form.coefficients i ≡ pos 0

abbrev pub AllStand : ℕ → List NormalLoop → List Outer → Type 0
AllStand n [] [] = Unit {0}
AllStand n [] (o ∷ os) = ⊥
AllStand n (r ∷ rs) [] = ⊥
AllStand n (r ∷ rs) (o ∷ os) = Stands n r o × AllStand n rs os

pub same_length : (n : ℕ) (round : List NormalLoop) (around : List Outer) → AllStand n round around → length round ≡ length around
same_length n [] [] h = refl
same_length n [] (o ∷ os) h = absurd h
same_length n (r ∷ rs) [] h = absurd h
same_length n (r ∷ rs) (o ∷ os) h = ap suc (same_length n rs os h.1)

pub same_variables : (n : ℕ) (round : List NormalLoop) (around : List Outer) → AllStand n round around → variables_of round ≡ outer.outer_variables_of around
same_variables n [] [] h = refl
same_variables n [] (o ∷ os) h = absurd h
same_variables n (r ∷ rs) [] h = absurd h
same_variables n (r ∷ rs) (o ∷ os) h = ap₂ (λ x xs. x ∷ xs) h.0.variable (same_variables n rs os h.1)

all_at : (n : ℕ) (p : Place) (q : Form → ℤ) → ((a : Affine) (f : Form) → IsSame n a f → number_of_place a p ≡ q f) → (round : List NormalLoop) (around : List Outer) → AllStand n round around → AllAt p q round around
all_at n p q s [] [] h = tt
all_at n p q s [] (o ∷ os) h = absurd h
all_at n p q s (r ∷ rs) [] h = absurd h
all_at n p q s (r ∷ rs) (o ∷ os) h = (s r.value o.form h.0.same, all_at n p q s rs os h.1)

forms_past : (n : ℕ) (i : ℕ) → n + 7 ≤ i → (round : List NormalLoop) (around : List Outer) → AllStand n round around → Each (λ (o : Outer). At o.form.coefficients i ≡ pos 0) around
forms_past n i l [] [] h = tt
forms_past n i l [] (o ∷ os) h = absurd h
forms_past n i l (r ∷ rs) [] h = absurd h
forms_past n i l (r ∷ rs) (o ∷ os) h = (h.0.past i l, forms_past n i l rs os h.1)

-- ---- bounds

any_here : (b c : Bool) → b ≡ true → (b || c) ≡ true
any_here true c h = refl
any_here false c h = let no : ⊥ = cc in absurd no

any_later : (b c : Bool) → c ≡ true → (b || c) ≡ true
any_later true c h = refl
any_later false c h = h

-- a loop whose variable is a name passes
passes : (names : List (List ℕ)) → Each (λ (x : List ℕ). (r : Outer) → bytes_eq r.variable x ≡ true → is_loop_among names r ≡ true) names
passes names = each names (λ x r h. h)
  where
    each : (xs : List (List ℕ)) → ((x : List ℕ) (r : Outer) → list_any (λ y. bytes_eq y r.variable) xs ≡ true → is_loop_among names r ≡ true)
        → Each (λ (x : List ℕ). (r : Outer) → bytes_eq r.variable x ≡ true → is_loop_among names r ≡ true) xs
    each [] h = tt
    each (x ∷ xs) h = (
      λ r e. h x r (any_here (bytes_eq x r.variable) (list_any (λ y. bytes_eq y r.variable) xs) ((bytes_eq-Decides x r.variable).1 (sym ((bytes_eq-Decides r.variable x).0 e)))),
      each xs (λ y r e. h y r (any_later (bytes_eq x r.variable) (list_any (λ y. bytes_eq y r.variable) xs) e)),
    )

-- a bound whose form over the loops that stand in it is f
pub record IsBound (symbols : List (List ℕ)) (round : List NormalLoop) (e : Expression) (f : Form) : Type 0 where
  pub form : Form
  pub is : form_of (variables_of round) symbols e ≡ Some form
  pub factors : list_all has_small_factor (with_counters round (affine_of (length round) form)) ≡ true
  pub adds : AddsUpTo (length symbols) (with_counters round (affine_of (length round) form)) f
  pub past : (i : ℕ) → length symbols + 7 ≤ i → At f.coefficients i ≡ pos 0

small_values : (k : ℕ) (a : Affine) (round : List NormalLoop) → ((j : ℕ) → is_small (number_of_place a (place.Loop j)) ≡ true)
    → list_all has_small_factor (variable_values_from k a round ++ times (pos 1) (without_loops a) ∷ []) ≡ true
small_values k a [] h = refl
small_values k a (r ∷ rs) h = ap (λ b. b && list_all has_small_factor (variable_values_from (k + 1) a rs ++ times (pos 1) (without_loops a) ∷ [])) (h k) ∙ small_values (k + 1) a rs h

take_small : (n : ℕ) (cs : List ℤ) → all_small cs ≡ true → all_small (take n cs) ≡ true
take_small zero cs h = refl
take_small (suc n) [] h = refl
take_small (suc n) (c ∷ cs) h = let p = both (is_small c) (all_small cs) h in ap (λ b. b && all_small (take n cs)) p.0 ∙ take_small n cs p.1

form_small : (loops symbols : List (List ℕ)) (e : Expression) (f : Form) → form_of loops symbols e ≡ Some f → all_small f.coefficients ≡ true
form_small loops symbols e f h = by (nat_le (length loops) 7) h
  where
    by : (b : Bool) → cond b (linear (length loops) (loops ++ symbols) e) None ≡ Some f → all_small f.coefficients ≡ true
    by true k =
        (both (all_small f.coefficients) (is_small f.constant && nat_le (not_zero (drop (length loops) f.coefficients)) 8) (text_limited (length loops) (loops ++ symbols) e f k)).0
    by false k = let no : ⊥ = cc in absurd no

module _ (symbols : List (List ℕ)) (round : List NormalLoop) (around : List Outer) (stand : AllStand (length symbols) round around) (deep : length round ≤ 7) (e : Expression) where
  abbrev few : List Outer
  few = filter (is_loop_among (names_in e)) around

  count_marks : (asked : Outer → Bool) (rs : List Outer) → length (map asked rs) ≡ length rs
  count_marks asked rs = length-map rs asked

  count_few : (asked : Outer → Bool) (rs : List Outer) → passing (map asked rs) ≡ length (filter asked rs)
  count_few asked [] = refl
  count_few asked (r ∷ rs) = by (asked r) (count_few asked rs)
    where
      by : (b : Bool) → passing (map asked rs) ≡ length (filter asked rs) → passing (b ∷ map asked rs) ≡ length (cond b (r ∷ filter asked rs) (filter asked rs))
      by true h = ap suc h
      by false h = h

  -- over the loops that stand in it, and over all
  module _ (g f : Form) (spreads : Spreads (map (is_loop_among (names_in e)) around) g f) (is : form_of (variables_of round) symbols e ≡ Some f) where
    loops_are : (i : ℕ) → i < length round → number_of_place (affine_of (length round) f) (place.Loop (0 + i)) ≡ At f.coefficients i
    loops_are i l = ap (λ m. number_of_place (affine_of (length round) f) (place.Loop m)) (let s : 0 + i ≡ i = omega arith in s) ∙ get_or-take (length round) f.coefficients i (pos 0) l

    rest_are : (j : ℕ) → At (drop (length round) f.coefficients) j ≡ At (drop (length few) g.coefficients) j
    rest_are j =
        ap (λ m. At (drop m f.coefficients) j) (same_length (length symbols) round around stand ∙ sym (count_marks (is_loop_among (names_in e)) around))
        ∙ spread_rest (map (is_loop_among (names_in e)) around) g.coefficients f.coefficients spreads.coefficients j
        ∙ ap (λ m. At (drop m g.coefficients) j) (count_few (is_loop_among (names_in e)) around)

    -- what both are at a place
    at_place : (p : Place) (q : Form → ℤ) → ((f g : Form) (z : ℤ) → q (sum f (multiple z g)) ≡ q f +ℤ z *ℤ q g) → ((b : Affine) (h : Form) → IsSame (length symbols) b h → number_of_place b p ≡ q h)
        → number_of_place (without_loops (affine_of (length round) f)) p ≡ q (outer.symbol_terms (length symbols) (length few) g)
        → combined_at (with_counters round (affine_of (length round) f)) p ≡ q (composed (length symbols) few g)
    at_place p q adds same rest =
        joined_at (variable_values_from 0 (affine_of (length round) f) round) (times (pos 1) (without_loops (affine_of (length round) f)) ∷ []) p
        ∙ ap (λ z. z +ℤ (pos 1 *ℤ number_of_place (without_loops (affine_of (length round) f)) p +ℤ pos 0))
        (values_total p q 0 (affine_of (length round) f) round around f.coefficients loops_are (all_at (length symbols) p q same round around stand)
        ∙ sym (spread_total (is_loop_among (names_in e)) q around g.coefficients f.coefficients spreads.coefficients))
        ∙ turned_round (number_of_place (without_loops (affine_of (length round) f)) p) (total g.coefficients few q) (q (outer.symbol_terms (length symbols) (length few) g)) rest
        ∙ sym (multiples_total q adds (outer.symbol_terms (length symbols) (length few) g) g.coefficients few)

    adds_up : AddsUpTo (length symbols) (with_counters round (affine_of (length round) f)) (composed (length symbols) few g)
    adds_up = record {
      symbols = λ j l. at_place (place.Symbol j) (λ (h : Form). At h.coefficients j) (λ x y z. sum_at x y z j) (λ b h s. s.symbols j l)
          (symbol_at (length round) f j ∙ rest_are j ∙ sym (filled_at (length symbols) (drop (length few) g.coefficients) j l));
      loops = λ k l. at_place (place.Loop k) (λ (h : Form). At h.coefficients (length symbols + k)) (λ x y z. sum_at x y z (length symbols + k)) (λ b h s. s.loops k l)
          (without_at (affine_of (length round) f) k ∙ sym (filled_past (length symbols) (drop (length few) g.coefficients) (length symbols + k) (omega arith)));
      constant = at_place place.Constant (λ (h : Form). h.constant) (λ x y z. refl) (λ b h s. s.constant) spreads.constant;
    }

    bound_by : IsBound symbols round e (composed (length symbols) few g)
    bound_by = record {
      form = f;
      is = is;
      factors = small_values 0 (affine_of (length round) f) round (small_at (take (length round) f.coefficients) (take_small (length round) f.coefficients (form_small (variables_of round) symbols e f is)));
      adds = adds_up;
      past = λ i l.
          multiples_total (λ (h : Form). At h.coefficients i) (λ x y z. sum_at x y z i) (outer.symbol_terms (length symbols) (length few) g) g.coefficients few
          ∙ ap₂ (λ x y. x +ℤ y) (filled_past (length symbols) (drop (length few) g.coefficients) i (omega (arith, l)))
          (total_zero (λ (h : Form). At h.coefficients i) few g.coefficients (those_past i (forms_past (length symbols) i l round around stand)))
          ∙ no_zeros;
    }
      where
        no_zeros : pos 0 +ℤ pos 0 ≡ pos 0
        no_zeros = omega (arith, ints)

        those_past : (i : ℕ) → Each (λ (o : Outer). At o.form.coefficients i ≡ pos 0) around → Each (λ (o : Outer). At o.form.coefficients i ≡ pos 0) few
        those_past i h = among around h
          where
            among : (rs : List Outer) → Each (λ (o : Outer). At o.form.coefficients i ≡ pos 0) rs → Each (λ (o : Outer). At o.form.coefficients i ≡ pos 0) (filter (is_loop_among (names_in e)) rs)
            among [] h = tt
            among (r ∷ rs) h = by (is_loop_among (names_in e) r) (among rs h.1)
              where
                by : (b : Bool) → Each (λ (o : Outer). At o.form.coefficients i ≡ pos 0) (filter (is_loop_among (names_in e)) rs)
                    → Each (λ (o : Outer). At o.form.coefficients i ≡ pos 0) (cond b (r ∷ filter (is_loop_among (names_in e)) rs) (filter (is_loop_among (names_in e)) rs))
                by true k = (h.0, k)
                by false k = k

  pub bound_is : (f : Form) → outer.composed_bound symbols around e ≡ Some f → IsBound symbols round e f
  bound_is f h = by (form_of (outer.outer_variables_of few) symbols e) refl h
    where
      by : (o : Option Form) → form_of (outer.outer_variables_of few) symbols e ≡ o → option_map (composed (length symbols) few) o ≡ Some f → IsBound symbols round e f
      by None g k = let no : ⊥ = cc in absurd no
      by (Some c) g k =
          let same : composed (length symbols) few c ≡ f = cc in
          let count = same_length (length symbols) round around stand in
          let w = whole_form (is_loop_among (names_in e)) symbols around e c (omega (arith, deep, count)) (passes (names_in e)) g in
          let is : form_of (variables_of round) symbols e ≡ Some w.form = ap (λ xs. form_of xs symbols e) (same_variables (length symbols) round around stand) ∙ w.is in
          subst (IsBound symbols round e) same (bound_by c w.form w.spreads is)
