-- The first of a list of findings: there is one where there are findings, and only one.
use Rattle.std.proofs.Common.{◌≡◌, ◌⊎◌, inl, inr, ◌<◌, Bool, true, false, Option, Some, None, List, [], ◌∷◌, refl, subst, arith}
use Rattle.std.specs.List.{Contains, AllByRecursion}
use Rattle.std.proofs.lemmas.List.Elements.{All-from_recursion, All-contains, Contains-append_left, Contains-append_right, Contains-append_cases, Contains-get_or}
use Rattle.tree.specs.declared.refusals.Refusal.{Refusal}
use Rattle.reading.specs.refusal_order.Answered.{comes_before, IsAnswered}
use Rattle.f77_grammar.proofs.Answered.{not_before_itself, not_before_sooner}

abbrev pub earlier : Bool → Refusal → Refusal → Refusal
earlier true a b = a
earlier false a b = b

abbrev pub least_with : Refusal → List Refusal → Refusal
least_with a [] = a
least_with a (b ∷ bs) = least_with (earlier (comes_before b a) b a) bs

-- the first, or none of no findings
abbrev pub least : List Refusal → Option Refusal
least [] = None
least (a ∷ more) = Some (least_with a more)

-- ---- the first of a list

below_least_step : (o a b : Refusal) (t : Bool) → comes_before b a ≡ t → comes_before o a ≡ false → comes_before o (earlier t b a) ≡ false
below_least_step o a b true e h = not_before_sooner o a b h e
below_least_step o a b false e h = h

-- what isn't before a isn't before the first of a and others
below_least : (o a : Refusal) (bs : List Refusal) → comes_before o a ≡ false → comes_before o (least_with a bs) ≡ false
below_least o a [] h = h
below_least o a (b ∷ bs) h = below_least o (earlier (comes_before b a) b a) bs (below_least_step o a b (comes_before b a) refl h)

chosen : (a b : Refusal) (t : Bool) → comes_before b a ≡ t → comes_before b (earlier t b a) ≡ false
chosen a b true e = not_before_itself b
chosen a b false e = e

none_before : (a : Refusal) (bs : List Refusal) → AllByRecursion (λ o. comes_before o (least_with a bs) ≡ false) bs
none_before a [] = tt
none_before a (b ∷ bs) =
    let c = earlier (comes_before b a) b a in
    (below_least b c bs (chosen a b (comes_before b a) refl), none_before c bs)

here : (x : Refusal) (xs : List Refusal) → Contains (x ∷ xs) x
here x xs = Contains-get_or (x ∷ xs) 0 x (omega arith)

there : (y : Refusal) (xs : List Refusal) (x : Refusal) → Contains xs x → Contains (y ∷ xs) x
there y xs x h = Contains-append_right (y ∷ []) xs x h

skipped_cases : (a b r : Refusal) (bs : List Refusal) → Contains (a ∷ []) r ⊎ Contains bs r → Contains (a ∷ b ∷ bs) r
skipped_cases a b r bs (inl h) = Contains-append_left (a ∷ []) (b ∷ bs) r h
skipped_cases a b r bs (inr h) = there a (b ∷ bs) r (there b bs r h)

among_step : (a b r : Refusal) (bs : List Refusal) (t : Bool) → Contains (earlier t b a ∷ bs) r → Contains (a ∷ b ∷ bs) r
among_step a b r bs true h = there a (b ∷ bs) r h
among_step a b r bs false h = skipped_cases a b r bs (Contains-append_cases (a ∷ []) bs r h)

among : (a : Refusal) (bs : List Refusal) → Contains (a ∷ bs) (least_with a bs)
among a [] = here a []
among a (b ∷ bs) = among_step a b (least_with (earlier (comes_before b a) b a) bs) bs (comes_before b a) (among (earlier (comes_before b a) b a) bs)

-- ---- the refusal of a list of findings

-- one of a list is answered, where none of the list comes before it
pub answered_among : (found : List Refusal) (r : Refusal) → Contains found r → AllByRecursion (λ o. comes_before o r ≡ false) found → IsAnswered (Contains found) r
answered_among found r h f = record { holds = h; first = λ o g. All-contains (λ o. comes_before o r ≡ false) found o (All-from_recursion (λ o. comes_before o r ≡ false) found f) g }

pub least_is_first : (a : Refusal) (more : List Refusal) → IsAnswered (Contains (a ∷ more)) (least_with a more)
least_is_first a more = answered_among (a ∷ more) (least_with a more) (among a more) (below_least a a more (not_before_itself a), none_before a more)

-- there are no findings, or one of them is the first
pub none_or_first : (found : List Refusal) → (found ≡ []) ⊎ ((r : Refusal) × IsAnswered (Contains found) r)
none_or_first [] = inl refl
none_or_first (a ∷ more) = inr (least_with a more, least_is_first a more)

pub nothing_in : (r : Refusal) → Contains [] r → ⊥
nothing_in r h = let lt : h.0 < 0 = h.1 in omega arith

pub none_is_not_first : (found : List Refusal) (r : Refusal) → found ≡ [] → IsAnswered (Contains found) r → ⊥
none_is_not_first found r e f = nothing_in r (let P : List Refusal → Type 0 = λ xs. Contains xs r in subst P e f.holds)
