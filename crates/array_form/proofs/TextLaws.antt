-- The texts of trips.
use Rattle.std.proofs.Common.{◌≡◌, ℕ, zero, suc, ◌-◌, ◌≤◌, ◌==◌, ℤ, pos, Bool, true, false, ◌&&◌, cond, List, [], ◌∷◌, ◌++◌, take, length, get_or, refl, sym, ap, ◌∙◌, append-nil, nat_abs, replicate, Result, Ok, Err, arith}
use mathlib.Core.Path.{ap₂}
use Rattle.std.specs.Prelude.{IfOk}
use Rattle.std.specs.List.{list_all}
use Rattle.std.specs.Ordering.{int_eq}
use Rattle.std.proofs.lemmas.Bool.Decides.{Decides-eqb, Decides-int_eq}
use Rattle.subscripts.specs.Shapes.{IsForm}
use Rattle.subscripts.specs.declared.affine.Affine.{Affine}
use Rattle.tree.specs.Plain.{Expression}
use Rattle.tree.specs.View.{expression_of}
use Rattle.tree.specs.declared.exprs.Expr.{Expr}
use Rattle.tree.specs.declared.lists.Memory.{Memory}
use Rattle.std.proofs.lemmas.List.Folds.{list_all-append}
use Rattle.linear_forms.specs.Expressed.{expressed, variables}
use Rattle.linear_forms.specs.Linear.{not_zero}
use Rattle.linear_forms.specs.Texts.{text_of}
use Rattle.linear_forms.proofs.AffineTexts.{affine_has_text}
use Rattle.linear_forms.proofs.TextLaws.{constant_alone, constant_negative}
use Rattle.tree.proofs.Equations.{expression_of-un}
use Rattle.array_form.specs.forms.Forms.{divided_text}
use Rattle.array_form.specs.forms.Loops as forms
use Rattle.nest.specs.declared.parts.Trip.{Trip}
use Rattle.array_form.specs.holds.Surroundings.{coefficients_from, form_of_affine}
use Rattle.array_form.specs.holds.View.{loop_names, surroundings_view}
use Rattle.array_form.specs.declared.holds.loops.Surroundings.{Surroundings}
use Rattle.array_form.proofs.holds.TripLaws.{names_counted, names_viewed}
use Rattle.array_form.specs.Texts.{text_of_trip}
use Rattle.array_form.proofs.AffineLaws.{affine_of_form}

pub ruleset number_laws = (constant_alone, constant_negative, expression_of-un)

pub names_are : (a : Surroundings) → forms.form_names_of (surroundings_view a) ≡ loop_names a.loops ++ a.symbols
names_are a = ap (λ xs. xs ++ a.symbols) (names_viewed (length a.loops) a.loops)

-- the text of the trip's form
pub whole_text : (a : Surroundings) (top : Affine) → length a.loops ≤ 7 → length top.loops ≡ 7 → length top.syms ≡ 8 → IsForm (length a.loops) top
    → text_of (loop_names a.loops) a.symbols [] top ≡ expressed (variables (forms.form_names_of (surroundings_view a))) (form_of_affine (length a.loops) top)
whole_text a top few seven eight h =
    let n = names_counted a.loops in
    let affine = affine_of_form (length a.loops) top few seven eight h in
    affine_has_text (loop_names a.loops) a.symbols [] (form_of_affine (length a.loops) top) top (rw n affine)
    ∙ ap (λ ts. expressed ts (form_of_affine (length a.loops) top)) (append-nil (variables (loop_names a.loops ++ a.symbols)))
    ∙ ap (λ xs. expressed (variables xs) (form_of_affine (length a.loops) top)) (sym (names_are a))

pub trip_text_is : (a : Surroundings) (t : Trip) (e : Expression) → length a.loops ≤ 7 → length t.top.loops ≡ 7 → length t.top.syms ≡ 8 → IsForm (length a.loops) t.top
    → e ≡ divided_text (nat_abs t.by) (text_of (loop_names a.loops) a.symbols [] t.top) → e ≡ text_of_trip a t
trip_text_is a t e few seven eight h is = is ∙ ap (divided_text (nat_abs t.by)) (whole_text a t.top few seven eight h)

-- ---- constants

pub not_none : (k : ℕ) → (k ≡ 0 → ⊥) → (k == 0) ≡ false
not_none k n = from (k == 0) refl
  where
    from : (b : Bool) → (k == 0) ≡ b → b ≡ false
    from true e = absurd (n ((Decides-eqb k 0).0 e))
    from false e = refl

pub none_in : (cs : List ℤ) → (not_zero cs == 0) ≡ list_all (λ c. int_eq c (pos 0)) cs
none_in [] = refl
none_in (c ∷ cs) = by (int_eq c (pos 0)) (none_in cs)
  where
    by : (b : Bool) → (not_zero cs == 0) ≡ list_all (λ c. int_eq c (pos 0)) cs → (cond b (not_zero cs) (suc (not_zero cs)) == 0) ≡ (b && list_all (λ c. int_eq c (pos 0)) cs)
    by true h = h
    by false h = not_none (suc (not_zero cs)) (λ e. absurd (omega arith))

pub all_both : (p : ℤ → Bool) (xs ys : List ℤ) → list_all p (xs ++ ys) ≡ (list_all p xs && list_all p ys)
all_both p xs ys = list_all-append p xs ys

abbrev is_zero : ℤ → Bool
is_zero c = int_eq c (pos 0)

zero_front : (n : ℕ) (xs : List ℤ) → ((k : ℕ) → n ≤ k → get_or xs k (pos 0) ≡ pos 0) → list_all is_zero (take n xs) ≡ list_all is_zero xs
zero_front zero [] h = refl
zero_front zero (x ∷ xs) h =
    sym (ap₂ (λ a b. a && b) ((Decides-int_eq x (pos 0)).1 (h 0 (omega arith))) (sym (zero_front zero xs (λ k g. h (suc k) (omega arith)))))
zero_front (suc n) [] h = refl
zero_front (suc n) (x ∷ xs) h = ap (λ b. is_zero x && b) (zero_front n xs (λ k g. h (suc k) (omega arith)))

pub zeros_pass : (m : ℕ) (c : ℤ) (cs : List ℤ) → int_eq c (pos 0) ≡ false → list_all is_zero (replicate m (pos 0) ++ c ∷ cs) ≡ false
zeros_pass zero c cs h = ap (λ b. b && list_all is_zero cs) h
zeros_pass (suc m) c cs h = zeros_pass m c cs h

pub symbols_pass : (ts rest : List (ℕ × ℤ)) (t : ℕ × ℤ) (r : Bool) → ts ≡ t ∷ rest → r ≡ int_eq t.1 (pos 0) → r ≡ list_all (λ c. int_eq c (pos 0)) (coefficients_from 0 ts)
symbols_pass ts rest t r e is = is ∙ by (int_eq t.1 (pos 0)) refl ∙ ap (λ us. list_all is_zero (coefficients_from 0 us)) (sym e)
  where
    by : (b : Bool) → int_eq t.1 (pos 0) ≡ b → b ≡ list_all is_zero (cond b [] (replicate (t.0 - 0) (pos 0) ++ t.1 ∷ coefficients_from (suc t.0) rest))
    by true g = refl
    by false g = sym (zeros_pass (t.0 - 0) t.1 (coefficients_from (suc t.0) rest) g)

pub ruleset symbol_laws = (symbols_pass)

constant_is : (n : ℕ) (a : Affine) (r s : Bool) → IsForm n a → r ≡ list_all (λ c. int_eq c (pos 0)) a.loops → s ≡ list_all (λ c. int_eq c (pos 0)) (coefficients_from 0 a.syms)
    → (r && s) ≡ (not_zero (form_of_affine n a).coefficients == 0)
constant_is n a r s h loops symbols =
    ap₂ (λ b c. b && c) loops symbols
    ∙ sym (none_in (take n a.loops ++ coefficients_from 0 a.syms) ∙ all_both is_zero (take n a.loops) (coefficients_from 0 a.syms)
    ∙ ap (λ b. b && list_all is_zero (coefficients_from 0 a.syms)) (zero_front n a.loops h.past_depth))

pub constant_then : (n : ℕ) (a : Affine) (r s : Bool) → IsForm n a → r ≡ list_all (λ c. int_eq c (pos 0)) a.loops → s ≡ list_all (λ c. int_eq c (pos 0)) (coefficients_from 0 a.syms)
    → r ≡ true → s ≡ (not_zero (form_of_affine n a).coefficients == 0)
constant_then n a r s h loops symbols t = sym (ap (λ b. b && s) t) ∙ constant_is n a r s h loops symbols

pub constant_else : (n : ℕ) (a : Affine) (r : Bool) → IsForm n a → r ≡ list_all (λ c. int_eq c (pos 0)) a.loops
    → r ≡ false → r ≡ (not_zero (form_of_affine n a).coefficients == 0)
constant_else n a r h loops f =
    f ∙ sym (ap (λ b. b && list_all is_zero (coefficients_from 0 a.syms)) f) ∙ constant_is n a r (list_all is_zero (coefficients_from 0 a.syms)) h loops refl

pub divided_ok : (a : Surroundings) (t : Trip) (names : List (List ℕ)) (by : ℕ) (whole : Expr) (o : Result Expr Memory) → length a.loops ≤ 7 → length t.top.loops ≡ 7 → length t.top.syms ≡ 8
    → IsForm (length a.loops) t.top → names ≡ loop_names a.loops → by ≡ nat_abs t.by → expression_of whole ≡ text_of names a.symbols [] t.top
    → IfOk o (λ e. expression_of e ≡ divided_text by (expression_of whole)) → IfOk o (λ e. expression_of e ≡ text_of_trip a t)
divided_ok a t names by whole (Ok e) few seven eight h n b w is =
    trip_text_is a t (expression_of e) few seven eight h (is ∙ ap₂ divided_text b (w ∙ ap (λ xs. text_of xs a.symbols [] t.top) n))
divided_ok a t names by whole (Err m) few seven eight h n b w is = is
