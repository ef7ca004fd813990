-- A declared name hides a function.
use Rattle.std.proofs.Common.{◌≡◌, ℕ, Bool, true, false, ◌||◌, cond, List, [], ◌∷◌, ◌++◌, refl, ap, sym, ◌∙◌, Option, None}
use Rattle.std.specs.Str.{bytes_eq}
use Rattle.std.proofs.lemmas.Slice.Eq.{bytes_eq-Decides}
use Rattle.tree.specs.Functions.{intrinsic_named}
use Rattle.tree.specs.declared.functions.Intrinsic.{Intrinsic}
use Rattle.meaning.specs.Names.{is_among}
use Rattle.f90_grammar.specs.Refusals.{functions_but}
use Rattle.f90_trees.specs.Hiding.{without}

or_false : (b : Bool) → (b || false) ≡ b
or_false true = refl
or_false false = refl

or_assoc : (a b c : Bool) → ((a || b) || c) ≡ (a || (b || c))
or_assoc true b c = refl
or_assoc false b c = refl

among_push : (xs : List (List ℕ)) (y x : List ℕ) → is_among (xs ++ y ∷ []) x ≡ (is_among xs x || bytes_eq x y)
among_push [] y x = or_false (bytes_eq x y)
among_push (z ∷ zs) y x = ap (λ (b : Bool). bytes_eq x z || b) (among_push zs y x) ∙ sym (or_assoc (bytes_eq x z) (is_among zs x) (bytes_eq x y))

either : (a b : Bool) (i : Option Intrinsic) → cond (a || b) None i ≡ cond b None (cond a None i)
either true true i = refl
either true false i = refl
either false b i = refl

pub hidden_push : (xs : List (List ℕ)) (y x : List ℕ) → functions_but (xs ++ y ∷ []) x ≡ without y (functions_but xs) x
hidden_push xs y x =
    ap (λ (b : Bool). cond b None (intrinsic_named x)) (among_push xs y x) ∙ either (is_among xs x) (bytes_eq x y) (intrinsic_named x)

kept : (b : Bool) (i : Option Intrinsic) → (b ≡ true → i ≡ None) → i ≡ cond b None i
kept true i h = h refl
kept false i h = refl

none : (b : Bool) (i : Option Intrinsic) → i ≡ None → cond b None i ≡ None
none true i h = refl
none false i h = h

pub hidden_among : (xs : List (List ℕ)) (y x : List ℕ) → is_among xs y ≡ true → functions_but xs x ≡ without y (functions_but xs) x
hidden_among xs y x h = kept (bytes_eq x y) (functions_but xs x) (λ e.
    ap (λ (b : Bool). cond b None (intrinsic_named x)) (ap (is_among xs) ((bytes_eq-Decides x y).0 e) ∙ h))

pub hidden_other : (xs : List (List ℕ)) (y x : List ℕ) → intrinsic_named y ≡ None → functions_but xs x ≡ without y (functions_but xs) x
hidden_other xs y x h = kept (bytes_eq x y) (functions_but xs x) (λ e.
    none (is_among xs x) (intrinsic_named x) (ap intrinsic_named ((bytes_eq-Decides x y).0 e) ∙ h))

pub ruleset hiding = (hidden_push, hidden_among, hidden_other)
