-- Lists of texts.
use Rattle.std.proofs.Common.{◌≡◌, ℕ, List, [], ◌∷◌, ◌++◌, ap, sym, ◌∙◌, append-nil, append_assoc}
use Rattle.std.specs.Prelude.{flat_map}
use Rattle.f90_grammar.specs.PrintedText.{separated_text, comma, in_parentheses}
use Rattle.f90_print.specs.Texts.{listed_text, after_comma}

pub separated-first : {A : Type 0} (f : A → List ℕ) (x : A) (xs : List A) → separated_text f (x ∷ xs) ≡ f x ++ flat_map (after_comma f) xs
separated-first f x [] = sym (append-nil (f x))
separated-first f x (y ∷ ys) =
    ap (λ t. f x ++ (comma ++ t)) (separated-first f y ys) ∙ ap (λ t. f x ++ t) (sym (append_assoc comma (f y) (flat_map (after_comma f) ys)))

pub listed-first : {A : Type 0} (f : A → List ℕ) (x : A) (xs : List A) → listed_text f (x ∷ xs) ≡ in_parentheses (f x ++ flat_map (after_comma f) xs)
listed-first f x xs = ap in_parentheses (separated-first f x xs)
