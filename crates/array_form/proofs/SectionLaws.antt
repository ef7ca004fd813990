-- Sections of linear subscripts.
use Rattle.std.proofs.Common.{◌≡◌, ℕ, zero, suc, ◌+◌, ◌≤◌, ◌<◌, ◌==◌, ℤ, pos, ◌+ℤ◌, ◌*ℤ◌, Bool, true, false, not, cond, List, [], ◌∷◌, ◌++◌, map, take, drop, set, length, length-append, get_or, replicate, Option, Some, None, nat_abs, Result, Ok, Err, refl, sym, ap, subst, ◌∙◌, arith}
use mathlib.Core.Path.{ap₂}
use Rattle.std.specs.Prelude.{IfOk}
use Rattle.std.specs.List.{position_or_len}
use Rattle.std.specs.Str.{bytes_eq}
use Rattle.std.proofs.lemmas.Bool.Decides.{Decides-eqb}
use Rattle.std.proofs.lemmas.Int.{ints}
use Rattle.subscripts.specs.Shapes.{IsForm}
use Rattle.subscripts.specs.declared.affine.Affine.{Affine}
use Rattle.tree.specs.Plain.{Binary, Expression}
use Rattle.tree.specs.View.{expression_of}
use Rattle.tree.specs.declared.exprs.Expr.{Expr}
use Rattle.tree.specs.declared.lists.Memory.{Memory}
use Rattle.tree.specs.declared.ops.Op.TheVariants.{Add}
use Rattle.linear_forms.specs.Expressed.{expressed, variables}
use Rattle.linear_forms.specs.Linear.{Form, added, constant_form, is_limited, limited, multiple, sum}
use Rattle.linear_forms.specs.Places.{unit_form}
use Rattle.linear_forms.specs.Affines.{IsAffineOf, IsFound}
use Rattle.linear_forms.specs.Texts.{text_of}
use Rattle.linear_forms.proofs.AffineTexts.{affine_has_text}
use Rattle.linear_forms.proofs.Units.{symbol_found, unit_limited}
use Rattle.array_form.specs.forms.Forms.{sum_text, form_of_trip}
use Rattle.array_form.specs.forms.Loops as forms
use Rattle.nest.specs.declared.parts.Trip.{Trip}
use Rattle.array_form.specs.holds.Surroundings.{form_of_affine, form_trip_of}
use Rattle.array_form.specs.holds.View.{loop_names, surroundings_view}
use Rattle.array_form.specs.declared.holds.loops.Surroundings.{Surroundings}
use Rattle.array_form.proofs.holds.TripLaws.{names_counted}
use Rattle.array_form.proofs.AffineLaws.{affine_of_form}
use Rattle.array_form.proofs.TextLaws.{names_are}

-- ---- the place of a loop

abbrev place : List (List ℕ) → List ℕ → ℕ
place ns x = position_or_len (λ y. bytes_eq y x) ns

pub place_within : (ns : List (List ℕ)) (x : List ℕ) → forms.is_among ns x ≡ true → position_or_len (λ y. bytes_eq y x) ns < length ns
place_within [] x h = cc
place_within (y ∷ ns) x h = by (bytes_eq y x) (place_within ns x) h
  where
    by : (b : Bool) → (forms.is_among ns x ≡ true → place ns x < length ns) → cond b true (forms.is_among ns x) ≡ true → cond (not b) (1 + place ns x) 0 < suc (length ns)
    by true more h = omega arith
    by false more h = let g = more h in omega arith

after_one : (c : ℤ) (cs : List ℤ) (p : ℕ) → get_or (c ∷ cs) (1 + p) (pos 0) ≡ get_or cs p (pos 0)
after_one c cs p = let e : 1 + p ≡ suc p = omega arith in ap (λ m. get_or (c ∷ cs) m (pos 0)) e

coefficient_at : (ns zs : List (List ℕ)) (x : List ℕ) (cs : List ℤ) → forms.is_among ns x ≡ true → forms.coefficient (ns ++ zs) x cs ≡ get_or cs (place ns x) (pos 0)
coefficient_at [] zs x cs h = cc
coefficient_at (y ∷ ns) zs x [] h = refl
coefficient_at (y ∷ ns) zs x (c ∷ cs) h = by (bytes_eq y x) (coefficient_at ns zs x cs) h
  where
    by : (b : Bool) → (forms.is_among ns x ≡ true → forms.coefficient (ns ++ zs) x cs ≡ get_or cs (place ns x) (pos 0)) → cond b true (forms.is_among ns x) ≡ true
        → cond b c (forms.coefficient (ns ++ zs) x cs) ≡ get_or (c ∷ cs) (cond (not b) (1 + place ns x) 0) (pos 0)
    by true more h = refl
    by false more h = more h ∙ sym (after_one c cs (place ns x))

-- ---- the form without it

zero_set : (L : List ℤ) (k j : ℕ) → ((i : ℕ) → get_or L i (pos 0) ≡ pos 0) → get_or (set L k (pos 0)) j (pos 0) ≡ pos 0
zero_set [] k j h = refl
zero_set (c ∷ L) zero zero h = refl
zero_set (c ∷ L) zero (suc j) h = h (suc j)
zero_set (c ∷ L) (suc k) zero h = h zero
zero_set (c ∷ L) (suc k) (suc j) h = zero_set L k j (λ i. h (suc i))

set_after : (c : ℤ) (L : List ℤ) (p : ℕ) → set (c ∷ L) (1 + p) (pos 0) ≡ c ∷ set L p (pos 0)
set_after c L p = let e : 1 + p ≡ suc p = omega arith in ap (λ m. set (c ∷ L) m (pos 0)) e

without_at : (ns zs : List (List ℕ)) (x : List ℕ) (cs L : List ℤ) (j : ℕ) → forms.is_among ns x ≡ true → length ns ≤ length L
    → ((i : ℕ) → get_or L i (pos 0) ≡ get_or (take (length ns) cs) i (pos 0))
    → get_or (set L (place ns x) (pos 0)) j (pos 0) ≡ get_or (take (length ns) (forms.without (ns ++ zs) x cs)) j (pos 0)
without_at [] zs x cs L j h m g = cc
without_at (y ∷ ns) zs x cs [] j h m g = absurd (omega arith)
without_at (y ∷ ns) zs x [] (d ∷ L) j h m g = zero_set (d ∷ L) (place (y ∷ ns) x) j g
without_at (y ∷ ns) zs x (c ∷ cs) (d ∷ L) j h m g =
    by (bytes_eq y x) j (λ i e. without_at ns zs x cs L i e (omega arith) (λ k. g (suc k))) h
  where
    by : (b : Bool) (j : ℕ) → ((i : ℕ) → forms.is_among ns x ≡ true → get_or (set L (place ns x) (pos 0)) i (pos 0) ≡ get_or (take (length ns) (forms.without (ns ++ zs) x cs)) i (pos 0))
        → cond b true (forms.is_among ns x) ≡ true
        → get_or (set (d ∷ L) (cond (not b) (1 + place ns x) 0) (pos 0)) j (pos 0)
        ≡ get_or (take (suc (length ns)) (cond b (pos 0 ∷ cs) (c ∷ forms.without (ns ++ zs) x cs))) j (pos 0)
    by true zero more h = refl
    by true (suc j) more h = g (suc j)
    by false zero more h = ap (λ l. get_or l 0 (pos 0)) (set_after d L (place ns x)) ∙ g zero
    by false (suc j) more h = ap (λ l. get_or l (suc j) (pos 0)) (set_after d L (place ns x)) ∙ more j h

without_behind : (ns zs : List (List ℕ)) (x : List ℕ) (cs : List ℤ) → forms.is_among ns x ≡ true → drop (length ns) (forms.without (ns ++ zs) x cs) ≡ drop (length ns) cs
without_behind [] zs x cs h = cc
without_behind (y ∷ ns) zs x [] h = refl
without_behind (y ∷ ns) zs x (c ∷ cs) h = by (bytes_eq y x) (without_behind ns zs x cs) h
  where
    by : (b : Bool) → (forms.is_among ns x ≡ true → drop (length ns) (forms.without (ns ++ zs) x cs) ≡ drop (length ns) cs) → cond b true (forms.is_among ns x) ≡ true
        → drop (suc (length ns)) (cond b (pos 0 ∷ cs) (c ∷ forms.without (ns ++ zs) x cs)) ≡ drop (length ns) cs
    by true more h = refl
    by false more h = more h

module _ (a : Surroundings) where
  counted : length (loop_names a.loops) ≡ length a.loops
  counted = names_counted a.loops

  pub coefficient_is : (x : List ℕ) (f : Form) (g : Affine) → length a.loops ≤ 7 → forms.is_among (loop_names a.loops) x ≡ true → IsAffineOf (length a.loops) f g
      → get_or g.loops (position_or_len (λ y. bytes_eq y x) (loop_names a.loops)) (pos 0) ≡ forms.coefficient (forms.form_names_of (surroundings_view a)) x f.coefficients
  coefficient_is x f g few h is =
      let ns = loop_names a.loops in
      let k = place ns x in
      let inside : k < length a.loops = let w = place_within ns x h in let e = names_counted a.loops in omega arith in
      is.loops k ∙ taken f.coefficients (length a.loops) k inside ∙ sym (ap (λ xs. forms.coefficient xs x f.coefficients) (names_are a) ∙ coefficient_at ns a.symbols x f.coefficients h)
    where
      taken : (cs : List ℤ) (n k : ℕ) → k < n → get_or (take n cs) k (pos 0) ≡ get_or cs k (pos 0)
      taken cs zero k h = absurd (omega arith)
      taken [] (suc n) k h = refl
      taken (c ∷ cs) (suc n) zero h = refl
      taken (c ∷ cs) (suc n) (suc k) h = taken cs n k (omega arith)

  pub without_affine : (x : List ℕ) (f : Form) (g : Affine) → length a.loops ≤ 7 → length g.loops ≡ 7 → forms.is_among (loop_names a.loops) x ≡ true → IsAffineOf (length a.loops) f g
      → IsAffineOf (length a.loops) (forms.form_without (forms.form_names_of (surroundings_view a)) x f) (record g { loops = set g.loops (position_or_len (λ y. bytes_eq y x) (loop_names a.loops)) (pos 0) })
  without_affine x f g few seven h is =
      let ns = loop_names a.loops in
      let e = names_counted a.loops in
      let P : ℕ → List (List ℕ) → Type 0 = λ n xs. IsAffineOf n (forms.form_without xs x f) (record g { loops = set g.loops (place ns x) (pos 0) }) in
      let given : IsAffineOf (length ns) f g = subst (λ n. IsAffineOf n f g) (sym e) is in
      let made : P (length ns) (ns ++ a.symbols) = record {
        loops = λ j. without_at ns a.symbols x f.coefficients g.loops j h (omega arith) given.loops;
        symbols = given.symbols ∙ ap (λ l. Rattle.linear_forms.specs.Places.padded (Rattle.linear_forms.specs.Places.terms_from 0 l)) (sym (without_behind ns a.symbols x f.coefficients h));
        constant = given.constant;
      } in
      subst (λ xs. P (length a.loops) xs) (sym (names_are a)) (subst (λ n. P n (ns ++ a.symbols)) e made)

  -- ---- trips

  names_length : length (forms.form_names_of (surroundings_view a)) ≡ length a.loops + length a.symbols
  names_length = ap length (names_are a) ∙ length-append (loop_names a.loops) a.symbols ∙ ap (λ n. n + length a.symbols) (names_counted a.loops)

  pub whole_trip : (t : Trip) → length a.loops ≤ 7 → length t.top.loops ≡ 7 → length t.top.syms ≡ 8 → IsForm (length a.loops) t.top → nat_abs t.by ≡ 1
      → IsAffineOf (length a.loops) (form_of_trip (forms.form_names_of (surroundings_view a)) (form_trip_of (length a.loops) t)) t.top
  whole_trip t few seven eight h one =
      subst (λ d. IsAffineOf (length a.loops) (cond (d == 1) (form_of_affine (length a.loops) t.top) (unit_form (length (forms.form_names_of (surroundings_view a))))) t.top) (sym one)
      (affine_of_form (length a.loops) t.top few seven eight h)

  pub divided_trip : (t : Trip) (at : ℕ) → (nat_abs t.by ≡ 1 → ⊥) → at ≡ length a.symbols
      → IsAffineOf (length a.loops) (form_of_trip (forms.form_names_of (surroundings_view a)) (form_trip_of (length a.loops) t))
      (record { loops = replicate 7 (pos 0); syms = set (replicate 8 (0, pos 0)) 0 (at, pos 1); constant = pos 0 })
  divided_trip t at many same =
      let n = length a.loops in
      let made : Affine = record { loops = replicate 7 (pos 0); syms = set (replicate 8 (0, pos 0)) 0 (at, pos 1); constant = pos 0 } in
      let found : IsFound n (Some (unit_form (n + at))) (Some made) =
      subst (λ b. IsFound n (cond b (Some (unit_form (n + at))) None) (Some made)) (unit_limited n (n + at)) (symbol_found n at) in
      let place : n + at ≡ length (forms.form_names_of (surroundings_view a)) = ap (λ m. n + m) same ∙ sym names_length in
      subst (λ b. IsAffineOf n (cond b (form_of_affine n t.top) (unit_form (length (forms.form_names_of (surroundings_view a))))) made) (sym (unequal (nat_abs t.by) many))
      (subst (λ m. IsAffineOf n (unit_form m) made) place found)
    where
      unequal : (d : ℕ) → (d ≡ 1 → ⊥) → (d == 1) ≡ false
      unequal d h = from (d == 1) refl
        where
          from : (b : Bool) → (d == 1) ≡ b → b ≡ false
          from true e = absurd (h ((Decides-eqb d 1).0 e))
          from false e = refl

  -- ---- sums

  text : List Expression → Affine → Expression
  text trips g = text_of (loop_names a.loops) a.symbols trips g

  formed : (trips : List Expression) (f : Form) (g : Affine) → IsAffineOf (length a.loops) f g
      → text_of (loop_names a.loops) a.symbols trips g ≡ expressed (variables (forms.form_names_of (surroundings_view a)) ++ trips) f
  formed trips f g is =
      affine_has_text (loop_names a.loops) a.symbols trips f g (subst (λ n. IsAffineOf n f g) (sym (names_counted a.loops)) is)
      ∙ ap (λ xs. expressed (variables xs ++ trips) f) (sym (names_are a))

  pub sum_some : (trips : List Expression) (first : Expression) (f r : Form) (g : Affine) → IsFound (length a.loops) (limited (length a.loops) (Some (sum f r))) (Some g)
      → text_of (loop_names a.loops) a.symbols trips g ≡ sum_text (length a.loops) (variables (forms.form_names_of (surroundings_view a)) ++ trips) first f r
  sum_some trips first f r g h = by (is_limited (length a.loops) (sum f r)) h
    where
      by : (b : Bool) → IsFound (length a.loops) (cond b (Some (sum f r)) None) (Some g)
          → text_of (loop_names a.loops) a.symbols trips g
          ≡ cond b (expressed (variables (forms.form_names_of (surroundings_view a)) ++ trips) (sum f r)) (Binary Add first (expressed (variables (forms.form_names_of (surroundings_view a)) ++ trips) r))
      by true h = formed trips (sum f r) g h
      by false h = absurd h

  pub sum_none : (trips : List Expression) (first rest : Expression) (f r : Form) (g : Affine) → IsFound (length a.loops) (limited (length a.loops) (Some (sum f r))) None
      → IsAffineOf (length a.loops) r g → rest ≡ text_of (loop_names a.loops) a.symbols trips g
      → Binary Add first rest ≡ sum_text (length a.loops) (variables (forms.form_names_of (surroundings_view a)) ++ trips) first f r
  sum_none trips first rest f r g h is e = by (is_limited (length a.loops) (sum f r)) h
    where
      by : (b : Bool) → IsFound (length a.loops) (cond b (Some (sum f r)) None) None
          → Binary Add first rest
          ≡ cond b (expressed (variables (forms.form_names_of (surroundings_view a)) ++ trips) (sum f r)) (Binary Add first (expressed (variables (forms.form_names_of (surroundings_view a)) ++ trips) r))
      by true h = absurd h
      by false h = ap (Binary Add first) (e ∙ formed trips r g is)

-- ---- what is answered

module _ (a : Surroundings) where
  pub some_ok : (trips : List Expr) (first : Expression) (f r : Form) (g : Affine) (names : List (List ℕ)) (given : List Expr) (o : Result Expr Memory)
      → names ≡ loop_names a.loops → given ≡ trips → IsFound (length a.loops) (limited (length a.loops) (Some (sum f r))) (Some g)
      → IfOk o (λ e. expression_of e ≡ text_of names a.symbols (map expression_of given) g)
      → IfOk o (λ e. expression_of e ≡ sum_text (length a.loops) (variables (forms.form_names_of (surroundings_view a)) ++ map expression_of trips) first f r)
  some_ok trips first f r g names given (Ok e) n t h is =
      is ∙ ap₂ (λ xs (ts : List Expr). text_of xs a.symbols (map expression_of ts) g) n t ∙ sum_some a (map expression_of trips) first f r g h
  some_ok trips first f r g names given (Err m) n t h is = is

  pub none_ok : (trips : List Expr) (first : Expression) (rest : Expr) (f r : Form) (g : Affine) (names : List (List ℕ)) (given : List Expr) (o : Result Expr Memory)
      → names ≡ loop_names a.loops → given ≡ trips → IsFound (length a.loops) (limited (length a.loops) (Some (sum f r))) None
      → IsAffineOf (length a.loops) r g → expression_of rest ≡ text_of names a.symbols (map expression_of given) g
      → IfOk o (λ e. expression_of e ≡ Binary Add first (expression_of rest))
      → IfOk o (λ e. expression_of e ≡ sum_text (length a.loops) (variables (forms.form_names_of (surroundings_view a)) ++ map expression_of trips) first f r)
  none_ok trips first rest f r g names given (Ok e) n t h is w o =
      o ∙ sum_none a (map expression_of trips) first (expression_of rest) f r g h is (w ∙ ap₂ (λ xs (ts : List Expr). text_of xs a.symbols (map expression_of ts) g) n t)
  none_ok trips first rest f r g names given (Err m) n t h is w o = o

added_turned : (cs ds : List ℤ) → added cs ds ≡ added ds cs
added_turned [] [] = refl
added_turned [] (d ∷ ds) = refl
added_turned (c ∷ cs) [] = refl
added_turned (c ∷ cs) (d ∷ ds) = let e : c +ℤ d ≡ d +ℤ c = omega (arith, ints) in ap₂ (λ x xs. x ∷ xs) e (added_turned cs ds)

abbrev form_of_parts : List ℤ → ℤ → Form
form_of_parts cs z = record { coefficients = cs; constant = z }

sum_turned : (f g : Form) → sum f g ≡ sum g f
sum_turned f g = let e : f.constant +ℤ g.constant ≡ g.constant +ℤ f.constant = omega (arith, ints) in ap₂ form_of_parts (added_turned f.coefficients g.coefficients) e

-- a multiple comes first
pub multiple_first : (n : ℕ) (r f : Form) (z : ℤ) (o : Option Affine) → IsFound n (limited n (Some (sum r (multiple z f)))) o → IsFound n (limited n (Some (sum (multiple z f) r))) o
multiple_first n r f z o h = subst (λ g. IsFound n (limited n (Some g)) o) (sum_turned r (multiple z f)) h

times_one : (z : ℤ) → multiple z (constant_form (pos 1)) ≡ constant_form z
times_one z = let e : z *ℤ pos 1 ≡ z = omega (arith, ints) in ap (form_of_parts []) e

pub constant_first : (n : ℕ) (r : Form) (z : ℤ) (o : Option Affine) → IsFound n (limited n (Some (sum r (multiple z (constant_form (pos 1)))))) o → IsFound n (limited n (Some (sum (constant_form z) r))) o
constant_first n r z o h =
    subst (λ g. IsFound n (limited n (Some (sum g r))) o) (times_one z) (multiple_first n r (constant_form (pos 1)) z o h)

pub one_affine : (n : ℕ) → IsAffineOf n (constant_form (pos 1)) (record { loops = replicate 7 (pos 0); syms = replicate 8 (0, pos 0); constant = pos 1 })
one_affine n = record { loops = λ k. zeros 7 k ∙ sym (nothing n k); symbols = sym (ap (λ l. Rattle.linear_forms.specs.Places.padded (Rattle.linear_forms.specs.Places.terms_from 0 l)) (none n)); constant = refl }
  where
    zeros : (m k : ℕ) → get_or (replicate m (pos 0)) k (pos 0) ≡ pos 0
    zeros zero k = refl
    zeros (suc m) zero = refl
    zeros (suc m) (suc k) = zeros m k

    none : (n : ℕ) → ◌≡◌ {A = List ℤ} (drop n []) []
    none zero = refl
    none (suc n) = refl

    nothing : (n k : ℕ) → get_or (take n []) k (pos 0) ≡ pos 0
    nothing zero k = refl
    nothing (suc n) k = refl
