-- The bounds of the pieces of a loop that is cut are texts of forms within the limits.
use Rattle.std.proofs.Common.{◌≡◌, refl, sym, ◌∙◌, subst, ℕ, ℤ, pos, ◌+ℤ◌, ◌*ℤ◌, ◌-◌, Bool, true, false, cond, List, [], ◌∷◌, ◌++◌, Option, Some, None, arith}
use Rattle.components.specs.Lists.{Each}
use Rattle.find_nests.specs.Found.{InNest, nest_of_loop}
use Rattle.find_nests.specs.Loops.{Numbered}
use Rattle.index_split.specs.Answers.{IsAnswerTo}
use Rattle.index_split.specs.Pieces.{all_bounds, bounds_from_to, constant, moved, one_more}
use Rattle.index_split.specs.declared.answers.Answer.TheVariants.{Cut}
use Rattle.index_split.specs.declared.pieces.Bounds.{Bounds}
use Rattle.index_split.specs.declared.pieces.Pieces.{Pieces}
use Rattle.linear_forms.specs.Affines.{IsAffineOf}
use Rattle.linear_forms.specs.Linear.{Form, form_of, is_limited, is_small}
use Rattle.nest_reasons.specs.Symbols.{symbols_of}
use Rattle.pass_laws.proofs.NormalValues.Steps.{IsMade}
use Rattle.split_programs.proofs.Cuts.{IsCutBy, IsCutNest, cut_is, cut_nest, form_limited, found_form}
use Rattle.split_programs.proofs.Nests.{counted, forms, loop_of}
use Rattle.split_programs.proofs.Texts.{IsBounded, form_bounded}
use Rattle.subscripts.specs.declared.affine.Affine.{Affine}
use Rattle.tree.specs.Plain.{Declaration, Program}

module _ (ds : List Declaration) where
  abbrev pub AreBounded : Bounds → Type 0
  AreBounded b = IsBounded ds b.first × IsBounded ds b.last

  module _ (f : Form) (a : Affine) (limited : is_limited 0 f ≡ true) (is : IsAffineOf 0 f a) where
    moved_bounded : (z : ℤ) (o : Option Affine) → moved a z ≡ o → (b : Affine) → o ≡ Some b → IsBounded ds b
    moved_bounded z o e b g = by (is_small (a.constant +ℤ z)) refl (e ∙ g)
      where
        same : (x y : Affine) → ◌≡◌ {A = Option Affine} (Some x) (Some y) → x ≡ y
        same x y f = cc

        by : (t : Bool) → is_small (a.constant +ℤ z) ≡ t → ◌≡◌ {A = Option Affine} (cond t (Some (record a { constant = a.constant +ℤ z })) None) (Some b) → IsBounded ds b
        by true s h = subst (IsBounded ds) (same (record a { constant = a.constant +ℤ z }) b h) (form_bounded ds f a (a.constant +ℤ z) limited is s)
        by false s h = let no : ⊥ = cc in absurd no

    same_list : (bs cs : List Bounds) → ◌≡◌ {A = Option (List Bounds)} (Some bs) (Some cs) → bs ≡ cs
    same_list bs cs h = cc

    each_bounded : (step : ℤ) (before : ℕ) (ends : List ℕ) (bs : List Bounds) → all_bounds a step before ends ≡ Some bs → Each (λ (b : Bounds). IsBounded ds b.first × IsBounded ds b.last) bs
    each_bounded step before [] bs h = subst (Each (λ (b : Bounds). IsBounded ds b.first × IsBounded ds b.last)) (same_list [] bs h) tt
    each_bounded step before (end ∷ ends) bs h =
        by (moved a (pos before *ℤ step)) (moved a (pos (end - 1) *ℤ step)) (all_bounds a step end ends) refl refl (λ cs e. each_bounded step end ends cs e) h
      where
        by : (o q : Option Affine) (r : Option (List Bounds)) → moved a (pos before *ℤ step) ≡ o → moved a (pos (end - 1) *ℤ step) ≡ q
            → ((cs : List Bounds) → r ≡ Some cs → Each (λ (b : Bounds). IsBounded ds b.first × IsBounded ds b.last) cs)
            → one_more (bounds_from_to o q) r ≡ Some bs → Each (λ (b : Bounds). IsBounded ds b.first × IsBounded ds b.last) bs
        by None q r e g more h = let no : ⊥ = cc in absurd no
        by (Some x) None r e g more h = let no : ⊥ = cc in absurd no
        by (Some x) (Some y) None e g more h = let no : ⊥ = cc in absurd no
        by (Some x) (Some y) (Some cs) e g more h =
            subst (Each (λ (b : Bounds). IsBounded ds b.first × IsBounded ds b.last)) (same_list (record { first = x; last = y } ∷ cs) bs h)
            ((moved_bounded (pos before *ℤ step) (Some x) e x refl, moved_bounded (pos (end - 1) *ℤ step) (Some y) g y refl), more cs refl)

  pub step_bounded : (z : ℤ) → is_small z ≡ true → IsBounded ds (constant z)
  step_bounded z h = record { few = omega arith; symbols = (refl, (refl, (refl, (refl, (refl, (refl, (refl, (refl, tt)))))))); constant = h }

-- the bounds of all pieces, over the symbols of the loop, and its step
pub record HasBoundedPieces (p : Program) (place : Numbered) (ps : Pieces) : Type 0 where
  pub symbols : ps.symbols ≡ symbols_of p.declarations place.loop.variable place.loop.body
  pub bounds : Each (λ (b : Bounds). IsBounded p.declarations b.first × IsBounded p.declarations b.last) ps.bounds
  pub step : is_small ps.step ≡ true

pub pieces_bounded : (p : Program) (number : ℕ) (place : Numbered) (ps : Pieces) → IsAnswerTo (InNest (nest_of_loop p number place)) (Cut ps) → HasBoundedPieces p place ps
pieces_bounded p number place ps answer =
    let symbols = symbols_of p.declarations place.loop.variable place.loop.body in
    let step = (loop_of place).step in
    let cut : IsCutNest (nest_of_loop p number place) answer.0 (loop_of place) ps = cut_nest (nest_of_loop p number place) answer.0 (loop_of place) ps refl answer.2 in
    let split : IsCutBy symbols step cut.cut.first (cut.points ++ cut.turns ∷ []) ps = cut_is symbols step cut.cut.first (cut.points ++ cut.turns ∷ []) ps cut.cut.is in
    let made : IsMade symbols [] (loop_of place) (counted p number place answer.0 answer.1 cut.turns cut.considered).form = forms p number place answer.0 answer.1 cut.turns cut.considered in
    let form = found_form made.first_form split.first (form_of [] symbols place.loop.first) cut.cut.first made.first_linear split.form cut.cut.form in
    let limited = form_limited symbols place.loop.first made.first_form made.first_linear in
    subst (HasBoundedPieces p place) (sym split.is) (record {
      symbols = refl;
      bounds = each_bounded p.declarations made.first_form split.first limited form step 0 (cut.points ++ cut.turns ∷ []) split.bounds split.are;
      step = made.step_small;
    })
