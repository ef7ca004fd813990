-- No jump of a list has left, by halves.
use mathlib.Core.Path.{ap₂}
use Rattle.std.specs.Prelude.{◌==◌}
use Rattle.std.proofs.Common.{◌≡◌, refl, sym, ◌∙◌, subst, Bool, true, false, true≢false, ℕ, zero, suc, ◌-◌, ◌≤◌, ◌<◌, List, [], ◌∷◌, length, take, drop, length-drop, arith}
use Rattle.std.specs.Prelude.{◌/◌}
use Rattle.std.proofs.lemmas.Bool.Decides.{Decides-eqb}
use Rattle.std.proofs.lemmas.List.{length-take-le}
use Rattle.tree.specs.Plain.{Logic, Binary}
use Rattle.tree.specs.declared.ops.Op.TheVariants.{And}
use Rattle.if_convert.specs.Masks.{first_half, none_left, none_of, not_left}
use Rattle.if_convert.specs.declared.points.Jumped.{Jumped}

-- of two or more neither half is the whole
less : (n : ℕ) → 2 ≤ n → (n - n / 2 < n)
less n h = omega (arith, h)

other_less : (n : ℕ) → 2 ≤ n → n - (n - n / 2) < n
other_less n h = omega (arith, h)

pub front_fits : (ls : List Jumped) (n : ℕ) → 2 ≤ length ls → length ls ≤ suc n → length (take (first_half ls) ls) ≤ n
front_fits ls n two h =
    let l = less (length ls) two in
    subst (λ k. k ≤ n) (sym (length-take-le (first_half ls) ls (omega (arith, l)))) (omega (arith, l, h))

pub rest_fits : (ls : List Jumped) (n : ℕ) → 2 ≤ length ls → length ls ≤ suc n → length (drop (first_half ls) ls) ≤ n
rest_fits ls n two h =
    let l = other_less (length ls) two in
    subst (λ k. k ≤ n) (sym (length-drop (first_half ls) ls)) (omega (arith, l, h))

-- more changes nothing
enough : (n m : ℕ) (ls : List Jumped) → length ls ≤ n → length ls ≤ m → none_of n ls ≡ none_of m ls
enough zero zero ls h i = refl
enough zero (suc m) [] h i = refl
enough zero (suc m) (l ∷ ls) h i = absurd (omega (arith, h))
enough (suc n) zero [] h i = refl
enough (suc n) zero (l ∷ ls) h i = absurd (omega (arith, i))
enough (suc n) (suc m) [] h i = refl
enough (suc n) (suc m) (l ∷ []) h i = refl
enough (suc n) (suc m) (l ∷ k ∷ ls) h i =
    let all : List Jumped = l ∷ k ∷ ls in
    let two : 2 ≤ length all = omega arith in
    ap₂ (Binary And)
    (enough n m (take (first_half all) all) (front_fits all n two h) (front_fits all m two i))
    (enough n m (drop (first_half all) all) (rest_fits all n two h) (rest_fits all m two i))

pub left-none : none_left [] ≡ Logic true
unfolding none_left
left-none = refl

pub left-one : (l : Jumped) → none_left (l ∷ []) ≡ not_left l
unfolding none_left
left-one l = refl

by_more : (ls : List Jumped) → 2 ≤ length ls
    → none_of (length ls) ls ≡ Binary And (none_of (length (take (first_half ls) ls)) (take (first_half ls) ls)) (none_of (length (drop (first_half ls) ls)) (drop (first_half ls) ls))
by_more [] h = absurd (omega (arith, h))
by_more (l ∷ []) h = absurd (omega (arith, h))
by_more (l ∷ k ∷ ls) h =
    let all : List Jumped = l ∷ k ∷ ls in
    ap₂ (Binary And)
    (enough (suc (length ls)) (length (take (first_half all) all)) (take (first_half all) all) (front_fits all (suc (length ls)) h (omega arith)) (omega arith))
    (enough (suc (length ls)) (length (drop (first_half all) all)) (drop (first_half all) all) (rest_fits all (suc (length ls)) h (omega arith)) (omega arith))

pub left-more : (ls : List Jumped) → 2 ≤ length ls → none_left ls ≡ Binary And (none_left (take (first_half ls) ls)) (none_left (drop (first_half ls) ls))
unfolding none_left
left-more ls h = by_more ls h

-- ---- how many there are

pub no_items : {X : Type 0} (xs : List X) → length xs ≡ 0 → xs ≡ []
no_items [] h = refl
no_items (x ∷ xs) h = let z : ⊥ = omega (arith, h) in absurd z

pub none_if : {X : Type 0} (b : Bool) (xs : List X) → b ≡ (length xs == 0) → b ≡ true → xs ≡ []
none_if b [] e h = refl
none_if b (x ∷ xs) e h = let z : length (x ∷ xs) ≡ 0 = (Decides-eqb (length (x ∷ xs)) 0).0 (sym e ∙ h) in absurd (omega arith)

pub two_if : {X : Type 0} (b : Bool) (xs rest : List X) (x : X) → xs ≡ x ∷ rest → b ≡ (length rest == 0) → b ≡ false → 2 ≤ length xs
two_if {X} b xs [] x e f h = let none : List X = [] in absurd (true≢false (sym (f ∙ (Decides-eqb (length none) 0).1 refl) ∙ h))
two_if b xs (y ∷ rest) x e f h = subst (λ zs. 2 ≤ length zs) (sym e) (omega arith)

pub ruleset halves_laws = (left-none, left-one, left-more)
