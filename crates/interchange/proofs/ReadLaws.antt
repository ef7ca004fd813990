-- Subscripts with the same linear forms.
use Rattle.std.proofs.Common.{◌≡◌, refl, sym, ap, ◌∙◌, subst, ℕ, ◌≤◌, ◌==◌, Bool, true, false, ◌&&◌, Option, None, List, [], ◌∷◌, map, drop, zero, suc, length, arith}
use Rattle.std.specs.Prelude.{All}
use Rattle.std.specs.List.{list_all}
use Rattle.std.proofs.lemmas.List.Folds.{list_all-map}
use Rattle.tree.specs.declared.exprs.Ref.{Ref}
use Rattle.tree.specs.View.{reference_of}
use Rattle.tree.specs.Plain.{Reference, Only, Section, Subscript, Subscripts, no_subscripts, subscript}
use Rattle.subscripts.specs.declared.affine.Affine.{Affine}
use Rattle.linear_forms.specs.Affines.{IsFound}
use Rattle.linear_forms.specs.Linear.{Form}
use Rattle.dependence_graph.specs.nest_references.Occurrences.{AreFormsIn, IsFormIn}
use Rattle.interchange.specs.Reads.{same_form, same_forms, form_of_subscript}

-- what is answered for two forms, and for two lists of them
abbrev IsSameForm : Option Affine → Option Affine → Bool → Type 0
IsSameForm o u a = (n : ℕ) (f g : Option Form) → n ≤ 7 → IsFound n f o → IsFound n g u → a ≡ same_form f g

abbrev AreSameForms : List (Option Affine) → List (Option Affine) → Bool → Type 0
AreSameForms os us b = (loops symbols : List (List ℕ)) (ps qs : Subscripts) → length loops ≤ 7 → AreFormsIn loops symbols ps os → AreFormsIn loops symbols qs us
    → b ≡ same_forms loops symbols ps qs

module _ (loops symbols : List (List ℕ)) where
  found : (p : Subscript) (o : Option Affine) → IsFormIn loops symbols p o → IsFound (length loops) (form_of_subscript loops symbols p) o
  found (Only e) o h = h
  found (Section a b s) o h = subst (IsFound (length loops) None) (sym h) tt

  none_left : (ps qs : Subscripts) (us : List (Option Affine)) → AreFormsIn loops symbols ps [] → AreFormsIn loops symbols qs us → (length us == 0) ≡ same_forms loops symbols ps qs
  none_left no_subscripts no_subscripts [] h k = refl
  none_left no_subscripts no_subscripts (u ∷ us) h k = absurd k
  none_left no_subscripts (subscript q qs) [] h k = absurd k
  none_left no_subscripts (subscript q qs) (u ∷ us) h k = let n : (suc (length us) == 0) ≡ false = grind arith in n
  none_left (subscript p ps) qs us h k = absurd h

  short : (ps qs : Subscripts) (o : Option Affine) (os : List (Option Affine)) → AreFormsIn loops symbols ps (o ∷ os) → AreFormsIn loops symbols qs [] → false ≡ same_forms loops symbols ps qs
  short no_subscripts qs o os h k = absurd h
  short (subscript p ps) no_subscripts o os h k = refl
  short (subscript p ps) (subscript q qs) o os h k = absurd k

  more : (ps qs : Subscripts) (o u : Option Affine) (os us : List (Option Affine)) (a b : Bool) → length loops ≤ 7 → AreFormsIn loops symbols ps (o ∷ os) → AreFormsIn loops symbols qs (u ∷ us)
      → IsSameForm o u a → AreSameForms os us b → a && b ≡ same_forms loops symbols ps qs
  more no_subscripts qs o u os us a b few h k f g = absurd h
  more (subscript p ps) no_subscripts o u os us a b few h k f g = absurd k
  more (subscript p ps) (subscript q qs) o u os us a b few h k f g =
      ap (λ x. x && b) (f (length loops) (form_of_subscript loops symbols p) (form_of_subscript loops symbols q) few (found p o h.0) (found q u k.0))
      ∙ ap (λ x. same_form (form_of_subscript loops symbols p) (form_of_subscript loops symbols q) && x) (g loops symbols ps qs few h.1 k.1)

-- ---- for the code

pub forms_end : (one other : List (Option Affine)) (r : Bool) → one ≡ [] → r ≡ (length other == 0) → AreSameForms one other r
forms_end one other r e f loops symbols ps qs few h k = f ∙ none_left loops symbols ps qs other (subst (AreFormsIn loops symbols ps) e h) k

pub forms_short : (one other os : List (Option Affine)) (o : Option Affine) → one ≡ o ∷ os → other ≡ [] → AreSameForms one other false
forms_short one other os o e f loops symbols ps qs few h k = short loops symbols ps qs o os (subst (AreFormsIn loops symbols ps) e h) (subst (AreFormsIn loops symbols qs) f k)

forms_more : (one other os us : List (Option Affine)) (o u : Option Affine) (a b : Bool) → one ≡ o ∷ os → other ≡ u ∷ us → IsSameForm o u a → AreSameForms os us b → AreSameForms one other (a && b)
forms_more one other os us o u a b e f g i loops symbols ps qs few h k =
    more loops symbols ps qs o u os us a b few (subst (AreFormsIn loops symbols ps) e h) (subst (AreFormsIn loops symbols qs) f k) g i

pub forms_then : (one other os us : List (Option Affine)) (o u : Option Affine) (a b : Bool) → one ≡ o ∷ os → other ≡ u ∷ us → IsSameForm o u a → a ≡ true → AreSameForms os us b → AreSameForms one other b
forms_then one other os us o u a b e f g t i = subst (AreSameForms one other) (ap (λ x. x && b) t) (forms_more one other os us o u a b e f g i)

pub forms_else : (one other os us : List (Option Affine)) (o u : Option Affine) (a : Bool) → one ≡ o ∷ os → other ≡ u ∷ us → IsSameForm o u a → a ≡ false → AreSameForms one other false
forms_else one other os us o u a e f g t loops symbols ps qs few h k =
    subst (λ x. x ≡ same_forms loops symbols ps qs) (ap (λ x. x && same_forms loops symbols (rest_of ps) (rest_of qs)) t)
    (by ps qs (subst (AreFormsIn loops symbols ps) e h) (subst (AreFormsIn loops symbols qs) f k))
  where
    rest_of : Subscripts → Subscripts
    rest_of no_subscripts = no_subscripts
    rest_of (subscript p ps) = ps

    by : (ps qs : Subscripts) → AreFormsIn loops symbols ps (o ∷ os) → AreFormsIn loops symbols qs (u ∷ us) → a && same_forms loops symbols (rest_of ps) (rest_of qs) ≡ same_forms loops symbols ps qs
    by no_subscripts qs h k = absurd h
    by (subscript p ps) no_subscripts h k = absurd k
    by (subscript p ps) (subscript q qs) h k =
        ap (λ x. x && same_forms loops symbols ps qs) (g (length loops) (form_of_subscript loops symbols p) (form_of_subscript loops symbols q) few (found loops symbols p o h.0) (found loops symbols q u k.0))

-- what is asked of each item of a list is asked of each item of what is seen of it
pub all_seen : {X Y : Type 0} (P : Y → Type 0) (view : X → Y) (list all : List X) (seen : List Y) → list ≡ all → map view all ≡ seen → All P seen → All (λ x. P (view x)) list
all_seen {X} {Y} P view list all seen e f h = of list (subst (All P) (sym (ap (map view) e ∙ f)) h)
  where
    of : (xs : List X) → All P (map view xs) → All (λ x. P (view x)) xs
    of [] h k d less = absurd (omega arith)
    of (x ∷ xs) h zero d less = h 0 (view x) (omega arith)
    of (x ∷ xs) h (suc k) d less = of xs (λ j y g. h (suc j) y (omega arith)) k d (omega arith)

-- the references behind the left side
pub own_is : (test : Reference → Bool) (list items rest : List Ref) (first : Ref) (all : List Reference) → list ≡ items → list ≡ first ∷ rest → map reference_of items ≡ all
    → list_all (λ r. test (reference_of r)) rest ≡ list_all test (drop 1 all)
own_is test list items rest first all e f g =
    sym (list_all-map test reference_of rest) ∙ ap (λ rs. list_all test (drop 1 rs)) (ap (map reference_of) (sym f ∙ e) ∙ g)

-- a test of what is seen of each item
pub all_own : {X Y : Type 0} (test : Y → Bool) (view : X → Y) (list all : List X) (seen : List Y) → list ≡ all → map view all ≡ seen → list_all (λ x. test (view x)) list ≡ list_all test seen
all_own test view list all seen e f = sym (list_all-map test view list) ∙ ap (list_all test) (ap (map view) e ∙ f)

pub ruleset read_laws = (forms_end, forms_short, forms_then, forms_else)
