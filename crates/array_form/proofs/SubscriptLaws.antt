-- Subscripts with loops in them.
use Rattle.std.proofs.Common.{◌≡◌, ℕ, ◌≤◌, ◌<◌, ℤ, pos, List, [], ◌∷◌, ◌++◌, map, set, length, get_or, Option, Some, None, Result, Ok, Err, refl, sym, ap, subst, ◌∙◌, arith}
use mathlib.Core.Path.{ap₂}
use Rattle.std.specs.Prelude.{IfOk, slice_get}
use Rattle.std.proofs.lemmas.List.{length-map}
use Rattle.std.specs.List.{position_or_len}
use Rattle.std.specs.Str.{bytes_eq}
use Rattle.subscripts.specs.declared.affine.Affine.{Affine}
use Rattle.tree.specs.Plain.{Expression, Only, Section, Subscript}
use Rattle.tree.specs.View.{expression_of, subscript_of}
use Rattle.tree.specs.declared.exprs.Expr.{Expr}
use Rattle.tree.specs.declared.exprs.Sub.TheVariants as subs
use Rattle.tree.specs.declared.lists.Memory.{Memory}
use Rattle.tree.proofs.Equations.{subscript_of-one, subscript_of-part}
use Rattle.linear_forms.specs.Expressed.{variables}
use Rattle.linear_forms.specs.Linear.{Form, constant_form, form_of, multiple}
use Rattle.linear_forms.specs.Affines.{IsAffineOf, IsFound}
use Rattle.array_form.specs.forms.Forms.{number_text, section, section_from, subscript_form, subscript_with, sum_text, form_of_trip}
use Rattle.array_form.specs.forms.Loops as forms
use Rattle.array_form.specs.holds.Surroundings.{counted_of, form_trip_of}
use Rattle.array_form.specs.holds.View.{loop_names, surroundings_view}
use Rattle.array_form.specs.declared.holds.loops.CountedLoop.{CountedLoop}
use Rattle.array_form.specs.declared.holds.loops.Surroundings.{Surroundings}
use Rattle.array_form.proofs.holds.TripLaws.{names_counted, names_viewed}
use Rattle.array_form.specs.Loops.{IsLoopOf, viewed}
use Rattle.array_form.specs.Texts.{lower_of, text_of_trip, upper_of}
use Rattle.array_form.proofs.SectionLaws.{coefficient_is, place_within, without_affine}

module _ (a : Surroundings) where
  same_form : (e : Expression) → form_of (forms.form_variables_of (surroundings_view a).loops) (surroundings_view a).symbols e ≡ form_of (loop_names a.loops) a.symbols e
  same_form e = ap (λ xs. form_of xs a.symbols e) (names_viewed (length a.loops) a.loops)

  none_first : (here : List CountedLoop) → slice_get here 0 ≡ None → here ≡ []
  none_first [] h = refl
  none_first (x ∷ rest) h = cc

  pub stays : (here : List CountedLoop) (copy : Expr) (e formed : Expression) → slice_get here 0 ≡ None → expression_of copy ≡ e
      → subscript_of (subs.One copy) ≡ subscript_form (surroundings_view a) (viewed a here) e formed
  stays here copy e formed h is =
      subscript_of-one copy ∙ ap Only is ∙ ap (λ ls. subscript_form (surroundings_view a) (viewed a ls) e formed) (sym (none_first here h))

  first_is : (here : List CountedLoop) (l : CountedLoop) → slice_get here 0 ≡ Some l → (rest : List CountedLoop) × (here ≡ l ∷ rest)
  first_is [] l h = cc
  first_is (x ∷ rest) l h = let e : x ≡ l = cc in (rest, ap (λ y. y ∷ rest) e)

  pub becomes : (here : List CountedLoop) (l : CountedLoop) (e formed : Expression) (g : Affine) (p : Subscript) → slice_get here 0 ≡ Some l
      → IsFound (length a.loops) (form_of (loop_names a.loops) a.symbols e) (Some g)
      → ((f : Form) → IsAffineOf (length a.loops) f g → p ≡ section (surroundings_view a) (counted_of (length a.loops) l) f)
      → p ≡ subscript_form (surroundings_view a) (viewed a here) e formed
  becomes here l e formed g p h found is =
      let r = first_is here l h in
      by (form_of (loop_names a.loops) a.symbols e) found
      ∙ ap (subscript_with (surroundings_view a) (viewed a (l ∷ r.0)) e formed) (sym (same_form e))
      ∙ ap (λ ls. subscript_form (surroundings_view a) (viewed a ls) e formed) (sym r.1)
    where
      by : (o : Option Form) → IsFound (length a.loops) o (Some g) → p ≡ subscript_with (surroundings_view a) (viewed a (l ∷ (first_is here l h).0)) e formed o
      by (Some f) k = is f k
      by None k = absurd k

  pub remains : (here : List CountedLoop) (l : CountedLoop) (e formed : Expression) → slice_get here 0 ≡ Some l
      → IsFound (length a.loops) (form_of (loop_names a.loops) a.symbols e) None
      → Only formed ≡ subscript_form (surroundings_view a) (viewed a here) e formed
  remains here l e formed h found =
      let r = first_is here l h in
      by (form_of (loop_names a.loops) a.symbols e) found
      ∙ ap (subscript_with (surroundings_view a) (viewed a (l ∷ r.0)) e formed) (sym (same_form e))
      ∙ ap (λ ls. subscript_form (surroundings_view a) (viewed a ls) e formed) (sym r.1)
    where
      by : (o : Option Form) → IsFound (length a.loops) o None → Only formed ≡ subscript_with (surroundings_view a) (viewed a (l ∷ (first_is here l h).0)) e formed o
      by (Some f) k = absurd k
      by None k = refl

  -- ---- a section by its bounds

  abbrev without : CountedLoop → Form → Form
  without l f = forms.form_without (forms.form_names_of (surroundings_view a)) l.var f

  pub rest_affine : (l : CountedLoop) (f : Form) (g rest : Affine) (place : ℕ) → length a.loops ≤ 7 → length g.loops ≡ 7 → IsLoopOf a l → IsAffineOf (length a.loops) f g
      → place ≡ position_or_len (λ x. bytes_eq x l.var) (loop_names a.loops) → rest ≡ record g { loops = set g.loops place (pos 0) }
      → IsAffineOf (length a.loops) (forms.form_without (forms.form_names_of (surroundings_view a)) l.var f) rest
  rest_affine l f g rest place few seven h is at e =
      subst (IsAffineOf (length a.loops) (without l f)) (sym (e ∙ ap (λ k. record g { loops = set g.loops k (pos 0) }) at)) (without_affine a l.var f g few seven h.among is)

  pub section_made : (l : CountedLoop) (f : Form) (g : Affine) (place : ℕ) (times : ℤ) (lower upper stride : Expr) → length a.loops ≤ 7 → IsLoopOf a l → IsAffineOf (length a.loops) f g
      → place ≡ position_or_len (λ x. bytes_eq x l.var) (loop_names a.loops) → times ≡ get_or g.loops place (pos 0)
      → expression_of lower ≡ lower_of a l times (forms.form_without (forms.form_names_of (surroundings_view a)) l.var f)
      → expression_of upper ≡ upper_of a l times (forms.form_without (forms.form_names_of (surroundings_view a)) l.var f)
      → expression_of stride ≡ number_text times
      → subscript_of (subs.Part lower upper stride) ≡ section (surroundings_view a) (counted_of (length a.loops) l) f
  section_made l f g place times lower upper stride few h is at e lo up st =
      let z : times ≡ forms.coefficient (forms.form_names_of (surroundings_view a)) l.var f.coefficients = e ∙ ap (λ k. get_or g.loops k (pos 0)) at ∙ coefficient_is a l.var f g few h.among is in
      subscript_of-part lower upper stride
      ∙ ap₂ (λ x y. Section x y (expression_of stride)) lo up ∙ ap (Section (lower_of a l times (without l f)) (upper_of a l times (without l f))) st
      ∙ ap (λ t. Section (lower_of a l t (without l f)) (upper_of a l t (without l f)) (number_text t)) z
      ∙ ap (λ m. section_from m (forms.form_names_of (surroundings_view a)) (counted_of (length a.loops) l) (forms.coefficient (forms.form_names_of (surroundings_view a)) l.var f.coefficients) (without l f))
      (sym (length-map a.loops (counted_of (length a.loops))))

  -- ---- the bounds

  pub lower_ok : (l : CountedLoop) (times : ℤ) (first trip : Expr) (trips : List Expr) (r : Form) (o : Result Expr Memory) → trips ≡ trip ∷ [] → expression_of trip ≡ text_of_trip a l.trip
      → expression_of first ≡ number_text times
      → IfOk o (λ e. expression_of e ≡ sum_text (length a.loops) (variables (forms.form_names_of (surroundings_view a)) ++ map expression_of trips) (expression_of first) (constant_form times) r)
      → IfOk o (λ e. expression_of e ≡ lower_of a l times r)
  lower_ok l times first trip trips r (Ok e) t u f is =
      is ∙ ap₂ (λ ts x. sum_text (length a.loops) (variables (forms.form_names_of (surroundings_view a)) ++ ts) x (constant_form times) r) (ap (map expression_of) t ∙ ap (λ x. x ∷ []) u) f
  lower_ok l times first trip trips r (Err m) t u f is = is

  pub upper_ok : (l : CountedLoop) (times : ℤ) (first trip : Expr) (trips : List Expr) (r : Form) (o : Result Expr Memory) → trips ≡ trip ∷ [] → expression_of trip ≡ text_of_trip a l.trip
      → expression_of first ≡ Rattle.tree.specs.Plain.Binary Rattle.tree.specs.declared.ops.Op.TheVariants.Mul (number_text times) (text_of_trip a l.trip)
      → IfOk o (λ e. expression_of e ≡ sum_text (length a.loops) (variables (forms.form_names_of (surroundings_view a)) ++ map expression_of trips) (expression_of first)
      (multiple times (form_of_trip (forms.form_names_of (surroundings_view a)) (form_trip_of (length a.loops) l.trip))) r)
      → IfOk o (λ e. expression_of e ≡ upper_of a l times r)
  upper_ok l times first trip trips r (Ok e) t u f is =
      is ∙ ap₂ (λ ts x. sum_text (length a.loops) (variables (forms.form_names_of (surroundings_view a)) ++ ts) x (multiple times (form_of_trip (forms.form_names_of (surroundings_view a)) (form_trip_of (length a.loops) l.trip))) r)
      (ap (map expression_of) t ∙ ap (λ x. x ∷ []) u) f
  upper_ok l times first trip trips r (Err m) t u f is = is

-- the place of a loop is one of the seven of a form
pub place_small : (a : Surroundings) (l : CountedLoop) (loops : List CountedLoop) (k : ℕ) → loops ≡ a.loops → IsLoopOf a l → length a.loops ≤ 7
    → k ≡ position_or_len (λ x. bytes_eq x l.var) (loop_names loops) → k < 7
place_small a l loops k e h few at =
    let w : position_or_len (λ x. bytes_eq x l.var) (loop_names a.loops) < length (loop_names a.loops) = place_within (loop_names a.loops) l.var h.among in
    let n = names_counted a.loops in
    let same : k ≡ position_or_len (λ x. bytes_eq x l.var) (loop_names a.loops) = at ∙ ap (λ ls. position_or_len (λ x. bytes_eq x l.var) (loop_names ls)) e in
    omega arith
