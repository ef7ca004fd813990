-- What is found in the operator table is so spelled.
use Rattle.std.proofs.Common.{◌≡◌, ◌∙◌, ap, refl, sym, ℕ, Bool, true, false, cond, List, [], ◌∷◌, Option, Some, None, subst}
use Rattle.std.specs.Prelude.{◌&&◌, IfSome, find}
use Rattle.std.specs.Str.{bytes_eq}
use Rattle.std.proofs.lemmas.Bool.{false≢true}
use Rattle.std.proofs.lemmas.Slice.Eq.{bytes_eq-Decides}
use Rattle.tree.specs.Operators.{same}
use Rattle.tree.specs.OperatorTable.{stands_between, is_spelled, IsSpelled}
use Rattle.tree.specs.declared.ops.Op.{Op}
use Rattle.tree.specs.Functions.{intrinsics, intrinsic_named, name_of_intrinsic}
use Rattle.tree.specs.declared.functions.Fun.TheVariants.{Abs, Mod, Max, Min}
use Rattle.tree.specs.declared.functions.Red.TheVariants.{Sum, MaxVal, MinVal}
use Rattle.tree.specs.declared.functions.Intrinsic.{Intrinsic}
use Rattle.tree.specs.declared.functions.Intrinsic.TheVariants.{Elemental, Reduction, Spread, Transpose, Reshape}

both : (a b : Bool) → (a && b) ≡ true → (a ≡ true) × (b ≡ true)
both true b e = (refl, e)
both false b e = absurd (false≢true e)

same_is : (a b : Bool) → same a b ≡ true → a ≡ b
same_is true b e = sym e
same_is false true e = absurd (false≢true e)
same_is false false e = refl

is_spelled_is : (spelling_of : Op → List ℕ) (text : List ℕ) (between : Bool) (o : Op) → is_spelled spelling_of text between o ≡ true → IsSpelled spelling_of text between o
is_spelled_is spelling_of text between o e =
    let parts = both (bytes_eq (spelling_of o) text) (same (stands_between o) between) e in
    record { text_is = (bytes_eq-Decides (spelling_of o) text).0 parts.0; place_is = same_is (stands_between o) between parts.1 }

first_or : {A : Type 0} (p : A → Bool) (b : Bool) (o : A) (r : Option A) → p o ≡ b → IfSome r (λ x. p x ≡ true) → IfSome (cond b (Some o) r) (λ x. p x ≡ true)
first_or p true o r e h = e
first_or p false o r e h = h

find_passes : {A : Type 0} (p : A → Bool) (os : List A) → IfSome (find p os) (λ o. p o ≡ true)
find_passes p [] = tt
find_passes p (o ∷ os) = first_or p (p o) o (find p os) refl (find_passes p os)

weaker : {A : Type 0} (P Q : A → Type 0) (r : Option A) → ((o : A) → P o → Q o) → IfSome r P → IfSome r Q
weaker P Q None f h = tt
weaker P Q (Some o) f h = f o h

pub find-IsSpelled : (spelling_of : Op → List ℕ) (text : List ℕ) (between : Bool) (os : List Op) (r : Option Op) → r ≡ find (is_spelled spelling_of text between) os → IfSome r (IsSpelled spelling_of text between)
find-IsSpelled spelling_of text between os r e =
    subst (λ (x : Option Op). IfSome x (IsSpelled spelling_of text between)) (sym e) (weaker (λ o. is_spelled spelling_of text between o ≡ true) (IsSpelled spelling_of text between) (find (is_spelled spelling_of text between) os) (is_spelled_is spelling_of text between) (find_passes (is_spelled spelling_of text between) os))

-- ---- functions of Fortran 90

pub intrinsic_named-named : (x : List ℕ) (r : Option Intrinsic) → r ≡ intrinsic_named x → IfSome r (λ f. name_of_intrinsic f ≡ x)
intrinsic_named-named x r e =
    subst (λ (q : Option Intrinsic). IfSome q (λ f. name_of_intrinsic f ≡ x)) (sym e)
    (weaker (λ f. bytes_eq (name_of_intrinsic f) x ≡ true) (λ f. name_of_intrinsic f ≡ x) (intrinsic_named x) (λ f. (bytes_eq-Decides (name_of_intrinsic f) x).0) (find_passes (λ f. bytes_eq (name_of_intrinsic f) x) intrinsics))

found : (f : Intrinsic) → intrinsic_named (name_of_intrinsic f) ≡ Some f
found (Elemental Abs) = refl
found (Elemental Mod) = refl
found (Elemental Max) = refl
found (Elemental Min) = refl
found (Reduction Sum) = refl
found (Reduction MaxVal) = refl
found (Reduction MinVal) = refl
found Spread = refl
found Transpose = refl
found Reshape = refl

pub intrinsic_named-every : (x : List ℕ) (r : Option Intrinsic) → r ≡ intrinsic_named x → (f : Intrinsic) → name_of_intrinsic f ≡ x → r ≡ Some f
intrinsic_named-every x r e f h = e ∙ ap intrinsic_named (sym h) ∙ found f
