-- The variables of loops as linear forms: their numbers are the iterations.
use mathlib.Core.List.{reverse_aux}
use Rattle.std.proofs.Common.{◌≡◌, ◌⊎◌, inl, inr, refl, ap, ap₂, ◌∙◌, ℕ, zero, suc, ◌≤◌, ℤ, pos, ◌+ℤ◌, ◌*ℤ◌, true, false, cond, ◌&&◌, ◌||◌, List, [], ◌∷◌, ◌++◌, map, reverse, length, drop, Some, None, arith}
use Rattle.std.specs.Prelude.{IsSome, nat_le}
use Rattle.std.specs.Str.{bytes_eq}
use Rattle.std.proofs.lemmas.Bool.{le-leb}
use Rattle.std.proofs.lemmas.Int.{ints}
use Rattle.std.proofs.lemmas.Slice.Eq.{bytes_eq-Decides}
use Rattle.std.proofs.Math.IntN.{zero-*ℤ}
use Rattle.array_form.specs.lone.Cells.{AreLinear}
use Rattle.linear_forms.specs.CanonicalLaws.{AreDistinct}
use Rattle.linear_forms.specs.Linear.{Form, all_small, form_of, is_small, limited, not_zero, number_at, unit, weighted, with_no_constant, with_zero}
use Rattle.meaning.specs.Names.{is_among}
use Rattle.nest_order.specs.orders.Lists.{In}
use Rattle.nest_order.specs.runs.Nests.{RunNest}
use Rattle.nest_order.specs.runs.Touched.{MayHave, MayHaveEach}
use Rattle.rewrite.proofs.Replacing.{either_false}
use Rattle.scalar_expand.specs.Expanded.{loop_subscript}
use Rattle.scalar_expand.specs.declared.privates.RoundLoop.{RoundLoop}
use Rattle.tree.specs.Plain.{Named, Subscript, no_subscripts, subscripts}
use Rattle.prepared_passes.proofs.ExpandedNests.Trips.{apart_from}

-- ---- places

-- the first place of the name x is that of the iteration i
abbrev pub IsAt : List (List ℕ) → List ℕ → List ℕ → ℕ → Type 0
IsAt [] is x i = ⊥
IsAt (y ∷ ys) [] x i = ⊥
IsAt (y ∷ ys) (j ∷ js) x i = ((y ≡ x) × (j ≡ i)) ⊎ ((bytes_eq y x ≡ false) × IsAt ys js x i)

-- names with iterations
abbrev pub Pairs : (List ℕ → ℕ → Type 0) → List (List ℕ) → List ℕ → Type 0
Pairs P [] [] = Unit {0}
Pairs P (x ∷ xs) (i ∷ is) = P x i × Pairs P xs is
Pairs P _ _ = ⊥

pub pairs_map : (P Q : List ℕ → ℕ → Type 0) (xs : List (List ℕ)) (is : List ℕ) → ((x : List ℕ) (i : ℕ) → In x xs → P x i → Q x i) → Pairs P xs is → Pairs Q xs is
pairs_map P Q [] [] f h = tt
pairs_map P Q [] (i ∷ is) f h = absurd h
pairs_map P Q (x ∷ xs) [] f h = absurd h
pairs_map P Q (x ∷ xs) (i ∷ is) f h = (f x i (inl refl) h.0, pairs_map P Q xs is (λ y j k. f y j (inr k)) h.1)

pub each_at : (xs : List (List ℕ)) (is : List ℕ) → length is ≡ length xs → AreDistinct xs → Pairs (IsAt xs is) xs is
each_at [] [] e d = tt
each_at [] (i ∷ is) e d = let bad : suc (length is) ≡ 0 = e in absurd (omega (arith, bad))
each_at (x ∷ xs) [] e d = let bad : 0 ≡ suc (length xs) = e in absurd (omega (arith, bad))
each_at (x ∷ xs) (i ∷ is) e d = (
  inl (refl, refl),
  pairs_map (IsAt xs is) (IsAt (x ∷ xs) (i ∷ is)) xs is (λ y j k h. inr (apart_from xs x d.0 y k, h)) (each_at xs is (omega (arith, e)) d.1),
)

pub front_distinct : (xs ys : List (List ℕ)) → AreDistinct (xs ++ ys) → AreDistinct xs
front_distinct [] ys d = tt
front_distinct (x ∷ xs) ys d = (none xs d.0, front_distinct xs ys d.1)
  where
    none : (zs : List (List ℕ)) → is_among (zs ++ ys) x ≡ false → is_among zs x ≡ false
    none [] e = refl
    none (z ∷ zs) e =
        let f = either_false (bytes_eq x z) (is_among (zs ++ ys) x) e in
        ap₂ (λ a b. a || b) f.0 (none zs f.1)

-- ---- forms

record IsUnitAt (xs ys : List (List ℕ)) (is : List ℕ) (zs : List ℤ) (x : List ℕ) (i : ℕ) : Type 0 where
  coefficients : List ℤ
  is_unit : unit (xs ++ ys) x ≡ Some coefficients
  small : all_small coefficients ≡ true
  few : length coefficients ≤ length xs
  number : weighted coefficients (map pos is ++ zs) ≡ pos i

unit_at : (xs ys : List (List ℕ)) (is : List ℕ) (zs : List ℤ) (x : List ℕ) (i : ℕ) → IsAt xs is x i → IsUnitAt xs ys is zs x i
unit_at [] ys is zs x i h = absurd h
unit_at (y ∷ xs) ys [] zs x i h = absurd h
unit_at (y ∷ xs) ys (j ∷ js) zs x i h = by h (λ k. unit_at xs ys js zs x i k)
  where
    one : (z : ℤ) → pos 1 *ℤ z +ℤ pos 0 ≡ z
    one z = omega (arith, ints)

    none : (z w : ℤ) → pos 0 *ℤ z +ℤ w ≡ w
    none z w = ap (λ a. a +ℤ w) (zero-*ℤ z) ∙ (let e : pos 0 +ℤ w ≡ w = omega (arith, ints) in e)

    by : ((y ≡ x) × (j ≡ i)) ⊎ ((bytes_eq y x ≡ false) × IsAt xs js x i) → (IsAt xs js x i → IsUnitAt xs ys js zs x i) → IsUnitAt (y ∷ xs) ys (j ∷ js) zs x i
    by (inl (e, f)) more = record {
      coefficients = pos 1 ∷ [];
      is_unit = ap (λ b. cond b (Some (pos 1 ∷ [])) (with_zero (unit (xs ++ ys) x))) ((bytes_eq-Decides y x).1 e);
      small = refl;
      few = omega arith;
      number = one (pos j) ∙ ap pos f;
    }
    by (inr (e, k)) more =
        let r = more k in
        let few = r.few in
        record {
          coefficients = pos 0 ∷ r.coefficients;
          is_unit = ap (λ b. cond b (Some (pos 1 ∷ [])) (with_zero (unit (xs ++ ys) x))) e ∙ ap with_zero r.is_unit;
          small = r.small;
          few = omega (arith, few);
          number = none (pos j) (weighted r.coefficients (map pos js ++ zs)) ∙ r.number;
        }

none_left : (d : ℕ) (cs : List ℤ) → length cs ≤ d → drop d cs ≡ []
none_left zero [] h = refl
none_left zero (c ∷ cs) h = absurd (omega (arith, h))
none_left (suc d) [] h = refl
none_left (suc d) (c ∷ cs) h = none_left d cs (omega (arith, h))

pub record IsVariableForm (xs symbols : List (List ℕ)) (is : List ℕ) (zs : List ℤ) (x : List ℕ) (i : ℕ) : Type 0 where
  pub form : Form
  pub is_form : form_of xs symbols (Named x no_subscripts) ≡ Some form
  pub number : number_at form (map pos is ++ zs) ≡ pos i

abbrev form_with : List ℤ → Form
form_with cs = record { coefficients = cs; constant = pos 0 }

pub variable_form : (xs symbols : List (List ℕ)) (is : List ℕ) (zs : List ℤ) (x : List ℕ) (i : ℕ) → length xs ≤ 7 → IsAt xs is x i → IsVariableForm xs symbols is zs x i
variable_form xs symbols is zs x i few h = of_unit (unit_at xs symbols is zs x i h)
  where
    sum : (w : ℤ) → w +ℤ pos 0 ≡ w
    sum w = omega (arith, ints)

    of_unit : IsUnitAt xs symbols is zs x i → IsVariableForm xs symbols is zs x i
    of_unit u = record {
      form = form_with u.coefficients;
      is_form =
          ap (λ b. cond b (limited (length xs) (with_no_constant (unit (xs ++ symbols) x))) None) (le-leb (length xs) 7 few)
          ∙ (ap (λ o. limited (length xs) (with_no_constant o)) u.is_unit
          ∙ ap (λ b. cond b (Some (form_with u.coefficients)) None)
          (ap₂ (λ a cs. a && (is_small (pos 0) && nat_le (not_zero cs) 8)) u.small (none_left (length xs) u.coefficients u.few)));
      number = sum (weighted u.coefficients (map pos is ++ zs)) ∙ u.number;
    }

-- ---- the subscripts of elements

module _ (n : RunNest) (v : ℕ → ℤ) (s : ℕ) (is : List ℕ) where
  -- the variable x has the number i
  abbrev pub Here : List ℕ → ℕ → Type 0
  Here x i = MayHave n v is (n.linear s (Named x no_subscripts)) (pos i)

  each_onto : (ls : List RoundLoop) (js : List ℕ) (ss : List Subscript) (zs : List ℤ) → Pairs Here (map (λ (l : RoundLoop). l.variable) ls) js
      → MayHaveEach n v s is (subscripts ss) zs → MayHaveEach n v s is (subscripts (reverse_aux (map loop_subscript ls) ss)) (reverse_aux (map pos js) zs)
  each_onto [] [] ss zs h k = k
  each_onto [] (j ∷ js) ss zs h k = absurd h
  each_onto (l ∷ ls) [] ss zs h k = absurd h
  each_onto (l ∷ ls) (j ∷ js) ss zs h k = each_onto ls js (loop_subscript l ∷ ss) (pos j ∷ zs) h.1 (h.0, k)

  pub has_each : (ls : List RoundLoop) (js : List ℕ) → Pairs Here (map (λ (l : RoundLoop). l.variable) ls) js
      → MayHaveEach n v s is (subscripts (reverse (map loop_subscript ls))) (reverse (map pos js))
  has_each ls js h = each_onto ls js [] [] h tt

linear_onto : (n : RunNest) (s : ℕ) (ls : List RoundLoop) (ss : List Subscript) → ((l : RoundLoop) → In l ls → IsSome (n.linear s (Named l.variable no_subscripts)))
    → AreLinear n s (subscripts ss) → AreLinear n s (subscripts (reverse_aux (map loop_subscript ls) ss))
linear_onto n s [] ss f h = h
linear_onto n s (l ∷ ls) ss f h = linear_onto n s ls (loop_subscript l ∷ ss) (λ k i. f k (inr i)) (f l (inl refl), h)

pub are_linear : (n : RunNest) (s : ℕ) (ls : List RoundLoop) → ((l : RoundLoop) → In l ls → IsSome (n.linear s (Named l.variable no_subscripts)))
    → AreLinear n s (subscripts (reverse (map loop_subscript ls)))
are_linear n s ls f = linear_onto n s ls [] f tt
