-- The forms of the subscripts of a reference.
use Rattle.std.proofs.Common.{◌≡◌, ℕ, ◌+◌, ◌<◌, ◌≤◌, Option, Some, None, List, [], ◌∷◌, ◌++◌, length, map, take, get_or, refl, sym, ap, ◌∙◌, subst, arith, add-one, Result}
use Rattle.std.specs.Prelude.{IfOk}
use Rattle.std.proofs.Math.Seq.{take-suc}
use Rattle.std.proofs.lemmas.List.{take_all, map-append}
use Rattle.tree.specs.Plain.{Subscript, Subscripts, no_subscripts, subscript, subscripts, Reference}
use Rattle.tree.specs.View.{reference_of, subscript_of}
use Rattle.tree.specs.declared.exprs.Ref.{Ref, out-Ref}
use Rattle.tree.specs.declared.exprs.Sub.{Sub}
use Rattle.tree.proofs.Equations.{reference_of-is}
use Rattle.subscripts.specs.declared.affine.Affine.{Affine}
use Rattle.dependence_graph.specs.nest_references.Occurrences.{AreFormsIn, IsFormIn}

pub forms-push : (loops symbols : List (List ℕ)) (ps : List Subscript) (fs : List (Option Affine)) (p : Subscript) (f : Option Affine)
    → AreFormsIn loops symbols (subscripts ps) fs → IsFormIn loops symbols p f → AreFormsIn loops symbols (subscripts (ps ++ p ∷ [])) (fs ++ f ∷ [])
forms-push loops symbols [] [] p f h k = (k, tt)
forms-push loops symbols [] (g ∷ fs) p f h k = absurd h
forms-push loops symbols (q ∷ ps) [] p f h k = absurd h
forms-push loops symbols (q ∷ ps) (g ∷ fs) p f h k = (h.0, forms-push loops symbols ps fs p f h.1 k)

one_more : {A : Type 0} (xs : List A) (i : ℕ) (x : A) → i < length xs → x ≡ get_or xs i x → take (i + 1) xs ≡ take i xs ++ x ∷ []
one_more xs i x h e = ap (λ n. take n xs) (add-one i) ∙ take-suc xs i x h ∙ ap (λ y. take i xs ++ y ∷ []) (sym e)

pub forms_more : (loops symbols : List (List ℕ)) (xs : List Sub) (i : ℕ) (x : Sub) (fs : List (Option Affine)) (f : Option Affine)
    → i < length xs → x ≡ get_or xs i x → AreFormsIn loops symbols (subscripts (map subscript_of (take i xs))) fs → IsFormIn loops symbols (subscript_of x) f
    → AreFormsIn loops symbols (subscripts (map subscript_of (take (i + 1) xs))) (fs ++ f ∷ [])
forms_more loops symbols xs i x fs f h e a k =
    subst (λ ps. AreFormsIn loops symbols (subscripts ps) (fs ++ f ∷ [])) (sym (ap (map subscript_of) (one_more xs i x h e) ∙ map-append subscript_of (take i xs) (x ∷ [])))
    (forms-push loops symbols (map subscript_of (take i xs)) fs (subscript_of x) f a k)

pub forms_of_reference : (loops symbols : List (List ℕ)) (r : Ref) (fs : List (Option Affine))
    → AreFormsIn loops symbols (subscripts (map subscript_of (out-Ref r).subs)) fs → AreFormsIn loops symbols (reference_of r).subscripts fs
forms_of_reference loops symbols r fs h = subst (λ (q : Reference). AreFormsIn loops symbols q.subscripts fs) (sym (reference_of-is r)) h

pub forms_all : (loops symbols : List (List ℕ)) (r : Ref) (xs : List Sub) (i : ℕ) (fs : List (Option Affine)) → xs ≡ (out-Ref r).subs → length xs ≤ i
    → AreFormsIn loops symbols (subscripts (map subscript_of (take i xs))) fs → AreFormsIn loops symbols (reference_of r).subscripts fs
forms_all loops symbols r xs i fs e l h =
    forms_of_reference loops symbols r fs
    (subst (λ (ys : List Sub). AreFormsIn loops symbols (subscripts (map subscript_of ys)) fs) (take_all i xs l ∙ e) h)
