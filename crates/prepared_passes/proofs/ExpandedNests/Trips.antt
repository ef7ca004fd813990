-- The turns of a prepared loop by the number of its trip.
use mathlib.Core.Path.{ap₂}
use Rattle.std.proofs.Common.{◌≡◌, inl, inr, refl, sym, ap, ◌∙◌, subst, ℕ, zero, suc, ◌+◌, ◌-◌, ◌≤◌, ℤ, pos, negsuc, ◌+ℤ◌, ◌*ℤ◌, Bool, true, false, cond, List, [], ◌∷◌, ◌++◌, map, length, get_or, drop, Result, Ok, Err, Option, Some, None, arith}
use Rattle.std.specs.Prelude.{int_div, nat_le, replicate}
use Rattle.std.specs.Ordering.{int_eq}
use Rattle.std.specs.Str.{bytes_eq}
use Rattle.std.proofs.lemmas.Bool.Decides.{Decides-int_eq}
use Rattle.std.proofs.lemmas.Int.{ints}
use Rattle.std.proofs.lemmas.List.{length-drop, length-map}
use Rattle.std.proofs.lemmas.Slice.Eq.{bytes_eq-Decides}
use Rattle.std.proofs.Math.IntN.{zero-*ℤ, *ℤ-zero}
use Rattle.tree.specs.Operators.{apply, as_number, fits, number, quotient}
use Rattle.tree.specs.Plain.{Binary, Expression, Number}
use Rattle.tree.specs.declared.ops.Fault.{Fault}
use Rattle.tree.specs.declared.ops.Fault.TheVariants.{Overflow, ZeroDivide}
use Rattle.tree.specs.declared.ops.Op.TheVariants.{Div}
use Rattle.tree.specs.declared.ops.Value.{Value}
use Rattle.tree.specs.declared.ops.Value.TheVariants.{Int}
use Rattle.linear_forms.specs.CanonicalLaws.{AreDistinct}
use Rattle.linear_forms.specs.Linear.{Form, HaveValues, form_of, linear, number_at, weighted}
use Rattle.linear_forms.specs.Places.{padded, terms_from}
use Rattle.linear_forms.proofs.LinearLaws.{linear_is_value}
use Rattle.meaning.specs.Names.{is_among}
use Rattle.meaning.specs.Store.{Store}
use Rattle.meaning.specs.Value.{number_of, trip_count, value_of}
use Rattle.nest.specs.Plain.{Loop}
use Rattle.nest.specs.declared.parts.Trip.{Trip}
use Rattle.nest_order.specs.facts.Facts as facts
use Rattle.nest_order.specs.facts.Facts.{HasTrip, places_of}
use Rattle.nest_order.specs.orders.Lists.{In}
use Rattle.nest_order.proofs.runs.Ending as ending
use Rattle.nest_order.proofs.runs.Ending.{count_from_one}
use Rattle.nest_order.proofs.runs.Results.{both_ok, ok_same}
use Rattle.nest_steps.specs.Rounds.{Hold}
use Rattle.nest_steps.specs.Statements.{cell_of}
use Rattle.rewrite.specs.Following.{sequential}
use Rattle.rewrite.proofs.Replacing.{either_false}
use Rattle.subscripts.specs.Forms.{over_loops, over_symbols, value_at}
use Rattle.subscripts.specs.declared.affine.Affine.{Affine}
use Rattle.last_values.specs.normal_forms.Combinations.{coefficient_in}
use Rattle.last_values.specs.normal_forms.Numbers.{number_of_form, products, values_from}
use Rattle.last_values.proofs.NormalForms.Numbers.{looked_up}
use Rattle.pass_laws.proofs.NormalFacts.Trips.{IsTripOf}
use Rattle.pass_laws.proofs.NormalValues.Affine.{both_values}
use Rattle.pass_laws.proofs.NormalValues.Points.{weighted_products}
use Rattle.pass_laws.specs.prepared_nests.Loops.{IsPreparedTrip, variables_of_loops}
use Rattle.scalar_expand.specs.Numbers.{at_loops, number_under, trip_at, turns_to}
use Rattle.scalar_expand.specs.Privates.{trip_or_none}
use Rattle.prepared_passes.specs.expansion.Laws.{value_among}

-- ---- the number of a form

pub shift : (m j : ℕ) (c x : ℕ → ℤ) → products m (j + 1) c x ≡ products m j (λ k. c (suc k)) (λ k. x (suc k))
shift zero j c x = refl
shift (suc m) j c x = ap₂ (λ (i : ℕ) (r : ℤ). c i *ℤ x i +ℤ r) (let e : j + 1 ≡ suc j = omega arith in e) (shift m (j + 1) c x)

pub nowhere : (m j : ℕ) (c : ℕ → ℤ) → products m j c (λ k. pos 0) ≡ pos 0
nowhere zero j c = refl
nowhere (suc m) j c = ap₂ (λ p q. p +ℤ q) (*ℤ-zero (c j)) (nowhere m (j + 1) c)

over : (cs xs : List ℤ) → over_loops cs xs ≡ products (length cs) 0 (λ k. get_or cs k (pos 0)) (λ k. get_or xs k (pos 0))
over [] xs = refl
over (c ∷ cs) [] = sym (nowhere (suc (length cs)) 0 (λ k. get_or (c ∷ cs) k (pos 0)))
over (c ∷ cs) (x ∷ xs) = ap (λ z. c *ℤ x +ℤ z) (over cs xs ∙ sym (shift (length cs) 0 (λ k. get_or (c ∷ cs) k (pos 0)) (λ k. get_or (x ∷ xs) k (pos 0))))

zeros_sum : (m : ℕ) (v : ℕ → ℤ) → over_symbols (replicate m (0, pos 0)) v ≡ pos 0
zeros_sum zero v = refl
zeros_sum (suc m) v = ap₂ (λ p q. p +ℤ q) (zero-*ℤ (v 0)) (zeros_sum m v)

pub terms_sum : (o : ℕ) (cs : List ℤ) (k m : ℕ) (v : ℕ → ℤ) → length cs ≤ k → over_symbols (terms_from o cs ++ replicate m (0, pos 0)) v ≡ weighted cs (values_from k o v)
terms_sum o [] k m v h = zeros_sum m v
terms_sum o (c ∷ cs) zero m v h = absurd (omega (arith, h))
terms_sum o (c ∷ cs) (suc k) m v h =
    by (int_eq c (pos 0)) refl (terms_sum (suc o) cs k m v (omega (arith, h)) ∙ ap (λ i. weighted cs (values_from k i v)) (let e : suc o ≡ o + 1 = omega arith in e))
  where
    alone : (z : ℤ) → z ≡ pos 0 +ℤ z
    alone z = omega (arith, ints)

    by : (b : Bool) → int_eq c (pos 0) ≡ b → over_symbols (terms_from (suc o) cs ++ replicate m (0, pos 0)) v ≡ weighted cs (values_from k (o + 1) v)
        → over_symbols (cond b (terms_from (suc o) cs) ((o, c) ∷ terms_from (suc o) cs) ++ replicate m (0, pos 0)) v ≡ c *ℤ v o +ℤ weighted cs (values_from k (o + 1) v)
    by true e r =
        r ∙ (alone (weighted cs (values_from k (o + 1) v)) ∙ (ap (λ z. z +ℤ weighted cs (values_from k (o + 1) v)) (sym (zero-*ℤ (v o)))
        ∙ ap (λ z. z *ℤ v o +ℤ weighted cs (values_from k (o + 1) v)) (sym ((Decides-int_eq c (pos 0)).0 e))))
    by false e r = ap (λ z. c *ℤ v o +ℤ z) r

-- of so many symbols
pub form_number : (n : ℕ) (values : ℕ → ℤ) (a : Affine) (xs cs : List ℤ) → length a.loops ≡ 7 → a.syms ≡ padded (terms_from 0 cs) → length cs ≤ n → value_at a values xs ≡ number_of_form n (at_loops xs) values a
form_number n values a xs cs seven syms few =
    ap₂ (λ p q. p +ℤ (q +ℤ a.constant)) (over a.loops xs ∙ ap (λ m. products m 0 (λ k. get_or a.loops k (pos 0)) (λ k. get_or xs k (pos 0))) seven) symbols
  where
    m : ℕ
    m = 8 - length (terms_from 0 cs)

    symbols : over_symbols a.syms values ≡ products n 0 (λ j. coefficient_in a.syms j) values
    symbols =
        ap (λ ts. over_symbols ts values) syms
        ∙ (terms_sum 0 cs n (8 - length (terms_from 0 cs)) values few
        ∙ sym (weighted_products n 0 cs (λ j. coefficient_in a.syms j) values (λ i k. ap (λ ts. coefficient_in ts (0 + i)) syms ∙ looked_up 0 cs (8 - length (terms_from 0 cs)) i (0 + i) (let e : 0 + i ≡ 0 + i = refl in e))))

-- ---- the value of a trip

pub quotient_is : (m : ℤ) (b : ℕ) (v : Value) → apply Div (Int m) (Int (pos b)) ≡ Ok v → v ≡ Int (int_div m (pos b))
quotient_is m b v e =
    let p = both_ok (quotient m (pos b)) number v e in
    by (int_eq (pos b) (pos 0)) p.0 p.1 p.2
  where
    last : (q : ℤ) → number q ≡ Ok v → v ≡ Int q
    last q h = on (fits 127 q) h
      where
        on : (c : Bool) → ◌≡◌ {A = Result Value Fault} (cond c (Ok (Int q)) (Err Overflow)) (Ok v) → v ≡ Int q
        on true h = sym (ok_same {F = Fault} (Int q) v h)
        on false h = cc

    by : (c : Bool) (q : ℤ) → ◌≡◌ {A = Result ℤ Fault} (cond c (Err ZeroDivide) (Ok (int_div m (pos b)))) (Ok q) → number q ≡ Ok v → v ≡ Int (int_div m (pos b))
    by true q f h = cc
    by false q f h = last q h ∙ ap Int (sym (ok_same {F = Fault} (int_div m (pos b)) q f))

int_of : (a z : ℤ) → as_number (Int a) ≡ Ok z → a ≡ z
int_of a z e = ok_same {F = Fault} a z e

module _ (bits : ℕ) (round symbols : List (List ℕ)) (s : Store) (places : List ℤ) (have : HaveValues (round ++ symbols) s places) where
  of_form : (a : Expression) (f : Form) (x : Value) → form_of round symbols a ≡ Some f → value_of (sequential bits) a s ≡ Ok x → x ≡ Int (number_at f places)
  of_form a f x g e = by (nat_le (length round) 7) g
    where
      by : (b : Bool) → cond b (linear (length round) (round ++ symbols) a) None ≡ Some f → x ≡ Int (number_at f places)
      by true k = linear_is_value (sequential bits) (length round) (round ++ symbols) s places have a f k x e
      by false k = cc

  number_is : (last : Expression) (z : ℤ) (y : List ℤ → ℤ) → HasTrip round symbols last y → number_of (sequential bits) last s ≡ Ok z → z ≡ y places
  number_is last z y (inl (f, g, is)) e =
      let p = both_ok (value_of (sequential bits) last s) as_number z e in
      let q = of_form last f p.0 g p.1 in
      sym (int_of (number_at f places) z (subst (λ x. as_number x ≡ Ok z) q p.2)) ∙ sym (is places)
  number_is last z y (inr (f, a, b, same, g, is)) e =
      let p = both_ok (value_of (sequential bits) last s) as_number z e in
      let val : value_of (sequential bits) (Binary Div a (Number (pos b))) s ≡ Ok p.0 = subst (λ k. value_of (sequential bits) k s ≡ Ok p.0) same p.1 in
      let q = both_ok (value_of (sequential bits) a s) (λ x. apply Div x (Int (pos b))) p.0 val in
      let r = of_form a f q.0 g q.1 in
      let t = quotient_is (number_at f places) b p.0 (subst (λ x. apply Div x (Int (pos b)) ≡ Ok p.0) r q.2) in
      sym (int_of (int_div (number_at f places) (pos b)) z (subst (λ x. as_number x ≡ Ok z) t p.2)) ∙ sym (is places)

-- ---- what names hold

loop_values : (ls : List Loop) (is : List ℕ) (s : Store) → ((o : Loop) → In o ls → s.bounds o.variable ≡ Some []) → Hold ls is s → HaveValues (variables_of_loops ls) s (map pos is)
loop_values [] [] s b h = tt
loop_values [] (i ∷ is) s b h = absurd h
loop_values (l ∷ ls) [] s b h = absurd h
loop_values (l ∷ ls) (i ∷ is) s b h = (b l (inl refl), h.0, loop_values ls is s (λ o j. b o (inr j)) h.1)

held_length : (ls : List Loop) (is : List ℕ) (s : Store) → Hold ls is s → length is ≡ length ls
held_length [] [] s h = refl
held_length [] (i ∷ is) s h = absurd h
held_length (l ∷ ls) [] s h = absurd h
held_length (l ∷ ls) (i ∷ is) s h = ap suc (held_length ls is s h.1)

pub apart_from : (ys : List (List ℕ)) (y : List ℕ) → is_among ys y ≡ false → (z : List ℕ) → In z ys → bytes_eq y z ≡ false
apart_from [] y h z i = absurd i
apart_from (x ∷ ys) y h z (inl e) = ap (bytes_eq y) e ∙ (either_false (bytes_eq y x) (is_among ys y) h).0
apart_from (x ∷ ys) y h z (inr i) = apart_from ys y (either_false (bytes_eq y x) (is_among ys y) h).1 z i

pub symbol_values : (ys : List (List ℕ)) (k : ℕ) (v : ℕ → ℤ) (s : Store) → AreDistinct ys → ((y : List ℕ) → In y ys → (s.bounds y ≡ Some []) × (s.held (cell_of y) ≡ Int (value_among ys k v y)))
    → HaveValues ys s (facts.values_from v k ys)
symbol_values [] k v s d h = tt
symbol_values (y ∷ ys) k v s d h = (
  (h y (inl refl)).0,
  (h y (inl refl)).1 ∙ ap (λ b. Int (cond b (v k) (value_among ys (suc k) v y))) ((bytes_eq-Decides y y).1 refl),
  symbol_values ys (suc k) v s d.1 (λ z i. ((h z (inr i)).0, (h z (inr i)).1 ∙ ap (λ b. Int (cond b (v k) (value_among ys (suc k) v z))) (apart_from ys y d.0 z i))),
)

-- ---- turns

counted_turns : (z : ℤ) (n : ℕ) → trip_count (pos 1) z (pos 1) ≡ Ok n → turns_to z ≡ n
counted_turns z n e = same z ∙ sym (count_from_one z n e)
  where
    same : (z : ℤ) → turns_to z ≡ ending.turns_to z
    same (pos k) = refl
    same (negsuc k) = refl

module _ (bits : ℕ) (symbols : List (List ℕ)) (values : ℕ → ℤ) (distinct : AreDistinct symbols) (ls : List Loop) (l : Loop) (t : Trip) (is_trip : l.trip ≡ Some t)
    (prepared : IsPreparedTrip (variables_of_loops ls) symbols l.last t) (trip : IsTripOf (variables_of_loops ls) symbols l.last t) where
  pub turns_are : (is : List ℕ) (s : Store) (z : ℤ) (n : ℕ) → ((o : Loop) → In o ls → s.bounds o.variable ≡ Some []) → ((y : List ℕ) → In y symbols → (s.bounds y ≡ Some []) × (s.held (cell_of y) ≡ Int (value_among symbols 0 values y)))
      → Hold ls is s → number_of (sequential bits) l.last s ≡ Ok z → trip_count (pos 1) z (pos 1) ≡ Ok n → trip_at (length symbols) values is l ≡ n
  turns_are is s z n bounds fixed hold e count =
      let have = both_values (variables_of_loops ls) symbols s (map pos is) (facts.values_from values 0 symbols) (loop_values ls is s bounds hold) (symbol_values symbols 0 values s distinct fixed) in
      let number = number_is bits (variables_of_loops ls) symbols s (places_of values symbols is) have l.last z trip.number trip.has e in
      let many : length is ≡ length (variables_of_loops ls) = held_length ls is s hold ∙ sym (length-map ls (λ (o : Loop). o.variable)) in
      let turns = trip.turns values is many in
      ap (λ (o : Option Trip). turns_to (number_under (length symbols) values (map pos is) (trip_or_none o))) is_trip
      ∙ (ap turns_to (ap (λ w. int_div w t.by) (sym form) ∙ (turns ∙ sym number)) ∙ counted_turns z n count)
    where
      few : length (drop (length (variables_of_loops ls)) prepared.form.coefficients) ≤ length symbols
      few = let short = prepared.short in let dropped = length-drop (length (variables_of_loops ls)) prepared.form.coefficients in omega (arith, short, dropped)

      form : value_at t.top values (map pos is) ≡ number_of_form (length symbols) (at_loops (map pos is)) values t.top
      form = form_number (length symbols) values t.top (map pos is) (drop (length (variables_of_loops ls)) prepared.form.coefficients) prepared.seven prepared.affine.symbols few
