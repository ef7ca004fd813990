-- The hold at a level.
use Rattle.std.proofs.Common.{◌≡◌, ℕ, zero, suc, ◌+◌, ◌-◌, add-one, add-zero, add_comm, [], ◌∷◌, ◌++◌, Bool, true, false, not, ◌&&◌, cond, Option, Some, None, List, map, drop, length, sym, ap, ◌∙◌, arith}
use Rattle.std.specs.List.{flat_map}
use Rattle.std.proofs.lemmas.Grind.{flat_map-append}
use Rattle.std.proofs.lemmas.List.{append-nil, drop-map}
use Rattle.meaning.specs.ArrayValues.{counted}
use Rattle.tree.specs.Plain.{Expression, Reference, subscripts}
use Rattle.tree.specs.View.{reference_of, subscript_of}
use Rattle.tree.specs.declared.exprs.Ref.{Ref, out-Ref}
use Rattle.tree.proofs.Equations.{reference_of-is}
use Rattle.array_form.specs.forms.Loops as forms'
use Rattle.array_form.specs.forms.Statements as forms
use Rattle.dependence_graph.specs.declared.graphs.Hold.{Hold}
use Rattle.dependence_graph.specs.declared.graphs.HoldReason.{HoldReason}
use Rattle.dependence_graph.specs.declared.graphs.HoldReason.TheVariants.{Form, Triangle, Bounds}
use Rattle.array_form.specs.holds.Surroundings.{counted_of}
use Rattle.array_form.specs.holds.View.{surroundings_view}
use Rattle.array_form.specs.declared.holds.loops.Surroundings.{Surroundings}
use Rattle.array_form.specs.holds.Levels.{loops_from_place}
use Rattle.array_form.specs.holds.Holds.{hold_at_level, hold_with, hold_reason_of}

abbrev first_of : Bool → Bool → Bool → Option forms.HoldCause
first_of f t b = cond (not f) (Some forms.FormHold) (cond t (Some forms.TriangleHold) (cond b (Some forms.BoundsHold) None))

abbrev has_form_from : Surroundings → ℕ → Ref → Bool
has_form_from a from left = forms.has_form (surroundings_view a) (loops_from_place a from) (subscripts (map subscript_of (out-Ref left).subs))

abbrev is_outside : Surroundings → ℕ → Option Expression → Bool → Bool
is_outside a from guard safe = forms.stand_in_guard (loops_from_place a from) guard && not safe

place_of_level : (a : Surroundings) (from : ℕ) → forms.loops_from (surroundings_view a) (from + 1) ≡ loops_from_place a from
place_of_level a from =
    let e : (from + 1) - 1 ≡ from = omega arith in
    ap (λ n. drop n (map (counted_of (length a.loops)) a.loops)) e ∙ drop-map (counted_of (length a.loops)) from a.loops

hold-is : (a : Surroundings) (from : ℕ) (guard : Option Expression) (left : Ref) (safe : Bool) → forms.hold_at (surroundings_view a) (from + 1) guard (reference_of left) safe
    ≡ first_of (has_form_from a from left) (forms.is_triangle (surroundings_view a) (loops_from_place a from)) (is_outside a from guard safe)
hold-is a from guard left safe =
    ap (λ (r : Reference). forms.hold_at (surroundings_view a) (from + 1) guard r safe) (reference_of-is left)
    ∙ ap (λ ls. first_of (forms.has_form (surroundings_view a) ls (subscripts (map subscript_of (out-Ref left).subs))) (forms.is_triangle (surroundings_view a) ls) (forms.stand_in_guard ls guard && not safe)) (place_of_level a from)

module _ (a : Surroundings) (from : ℕ) (guard : Option Expression) (left : Ref) (safe : Bool) where
  abbrev triangle : Bool
  triangle = forms.is_triangle (surroundings_view a) (loops_from_place a from)

  abbrev reason : Option HoldReason
  reason = hold_reason_of (forms.hold_at (surroundings_view a) (from + 1) guard (reference_of left) safe)

  pub reason-form : has_form_from a from left ≡ false → hold_reason_of (forms.hold_at (surroundings_view a) (from + 1) guard (reference_of left) safe) ≡ Some Form
  reason-form f = ap hold_reason_of (hold-is a from guard left safe ∙ ap (λ b. first_of b triangle (is_outside a from guard safe)) f)

  pub reason-triangle : has_form_from a from left ≡ true → forms.is_triangle (surroundings_view a) (loops_from_place a from) ≡ true
      → hold_reason_of (forms.hold_at (surroundings_view a) (from + 1) guard (reference_of left) safe) ≡ Some Triangle
  reason-triangle f t = ap hold_reason_of (hold-is a from guard left safe ∙ ap (λ b. first_of b triangle (is_outside a from guard safe)) f ∙ ap (λ b. first_of true b (is_outside a from guard safe)) t)

  pub reason-bounds : has_form_from a from left ≡ true → forms.is_triangle (surroundings_view a) (loops_from_place a from) ≡ false → (forms.stand_in_guard (loops_from_place a from) guard && not safe) ≡ true
      → hold_reason_of (forms.hold_at (surroundings_view a) (from + 1) guard (reference_of left) safe) ≡ Some Bounds
  reason-bounds f t b =
      ap hold_reason_of (hold-is a from guard left safe ∙ ap (λ b. first_of b triangle (is_outside a from guard safe)) f ∙ ap (λ b. first_of true b (is_outside a from guard safe)) t ∙ ap (first_of true false) b)

  pub reason-none : has_form_from a from left ≡ true → forms.is_triangle (surroundings_view a) (loops_from_place a from) ≡ false → (forms.stand_in_guard (loops_from_place a from) guard && not safe) ≡ false
      → hold_reason_of (forms.hold_at (surroundings_view a) (from + 1) guard (reference_of left) safe) ≡ None
  reason-none f t b =
      ap hold_reason_of (hold-is a from guard left safe ∙ ap (λ b. first_of b triangle (is_outside a from guard safe)) f ∙ ap (λ b. first_of true b (is_outside a from guard safe)) t ∙ ap (first_of true false) b)

pub ruleset hold_laws = (reason-form, reason-triangle, reason-bounds, reason-none)

-- ---- level by level

counted_suc : (k n : ℕ) → counted k (suc n) ≡ counted k n ++ (k + n) ∷ []
counted_suc k zero = ap (λ m. m ∷ []) (sym (add-zero k))
counted_suc k (suc n) =
    ap (λ ms. k ∷ ms) (counted_suc (k + 1) n)
    ∙ (let e : (k + 1) + n ≡ k + suc n = omega arith in ap (λ m. k ∷ counted (k + 1) n ++ m ∷ []) e)

pub counted_more : (k n : ℕ) → counted k (n + 1) ≡ counted k n ++ (k + n) ∷ []
counted_more k n = ap (counted k) (add-one n) ∙ counted_suc k n

-- what each number from 1 on adds
pub number_more : {X : Type 0} (f : ℕ → List X) (n : ℕ) (old new more : List X) → old ≡ flat_map f (counted 1 n) → new ≡ old ++ more → more ≡ f (n + 1) → new ≡ flat_map f (counted 1 (n + 1))
number_more f n old new more before now is =
    now ∙ ap (λ hs. hs ++ more) before
    ∙ ap (λ hs. flat_map f (counted 1 n) ++ hs) (is ∙ ap f (add_comm n 1))
    ∙ ap (λ hs. flat_map f (counted 1 n) ++ hs) (sym (append-nil (f (1 + n))))
    ∙ sym (flat_map-append f (counted 1 n) ((1 + n) ∷ []))
    ∙ ap (flat_map f) (sym (counted_more 1 n))

pub level_more : (s : ℕ) (a : forms'.FormSurroundings) (guard : Option Expression) (left : Reference) (safe : Bool) (n : ℕ) (old new : List Hold) (r : Option HoldReason)
    → old ≡ flat_map (hold_at_level s a guard left safe) (counted 1 n) → new ≡ old ++ hold_with s (n + 1) r → r ≡ hold_reason_of (forms.hold_at a (n + 1) guard left safe)
    → new ≡ flat_map (hold_at_level s a guard left safe) (counted 1 (n + 1))
level_more s a guard left safe n old new r before now e =
    number_more (hold_at_level s a guard left safe) n old new (hold_with s (n + 1) r) before now (ap (hold_with s (n + 1)) e)
