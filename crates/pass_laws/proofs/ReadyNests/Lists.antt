-- Lists of loops, parts and what holds of each.
use Rattle.std.proofs.Common.{◌≡◌, refl, sym, ap, ◌∙◌, subst, ◌⊎◌, inl, inr, List, [], ◌∷◌, ◌++◌, append_assoc, Contains}
use Rattle.std.specs.Prelude.{All}
use Rattle.std.proofs.lemmas.List.{append-nil, map-append}
use Rattle.std.proofs.lemmas.List.Elements.{All-cons, All-nil}
use Rattle.components.specs.Lists.{Each}
use Rattle.nest.specs.Plain.{Loop, Part, parts}
use Rattle.nest.specs.Bodies.{Standing, loops_of, loops_in_parts, statements_in, statements_in_parts}
use Rattle.meaning_laws.proofs.profiles.Lists.{nowhere, cases_of}
use Rattle.pass_laws.specs.ready_nests.Distinct.{numbers_of}

pub Each-Contains : {A : Type 0} (P : A → Type 0) (xs : List A) (x : A) → Each P xs → Contains xs x → P x
Each-Contains P [] x h c = absurd (nowhere x c)
Each-Contains P (y ∷ ys) x h c = by (Each-Contains P ys x h.1) (cases_of y ys x c)
  where
    by : (Contains ys x → P x) → (y ≡ x) ⊎ Contains ys x → P x
    by more (inl e) = subst P e h.0
    by more (inr d) = more d

pub Each-All : {A : Type 0} (P : A → Type 0) (xs : List A) → Each P xs → All P xs
Each-All P [] h = All-nil P
Each-All P (x ∷ xs) h = All-cons P x xs h.0 (Each-All P xs h.1)

pub Each-weaker : {A : Type 0} (P Q : A → Type 0) (xs : List A) → ((x : A) → P x → Q x) → Each P xs → Each Q xs
Each-weaker P Q [] f h = tt
Each-weaker P Q (x ∷ xs) f h = (f x h.0, Each-weaker P Q xs f h.1)

pub numbers_joined : (ls ms : List Loop) → numbers_of (ls ++ ms) ≡ numbers_of ls ++ numbers_of ms
numbers_joined ls ms = map-append (λ (l : Loop). l.number) ls ms

pub numbers_alone : (ls : List Loop) → numbers_of (ls ++ []) ≡ numbers_of ls
numbers_alone ls = ap numbers_of (append-nil ls)

pub loops_joined : (ps qs : List Part) → loops_in_parts (parts (ps ++ qs)) ≡ loops_in_parts (parts ps) ++ loops_in_parts (parts qs)
loops_joined [] qs = refl
loops_joined (p ∷ ps) qs = ap (λ ls. loops_of p ++ ls) (loops_joined ps qs) ∙ sym (append_assoc (loops_of p) (loops_in_parts (parts ps)) (loops_in_parts (parts qs)))

pub statements_joined : (ls : List Loop) (ps qs : List Part) → statements_in_parts ls (parts (ps ++ qs)) ≡ statements_in_parts ls (parts ps) ++ statements_in_parts ls (parts qs)
statements_joined ls [] qs = refl
statements_joined ls (p ∷ ps) qs =
    ap (λ (ss : List Standing). statements_in ls p ++ ss) (statements_joined ls ps qs)
    ∙ sym (append_assoc (statements_in ls p) (statements_in_parts ls (parts ps)) (statements_in_parts ls (parts qs)))
