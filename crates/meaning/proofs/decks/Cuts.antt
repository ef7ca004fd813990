-- A text, cut at the first of some byte.
use Rattle.std.proofs.Common.{◌≡◌, ◌≢◌, ◌<◌, ◌+◌, ◌-◌, ℕ, suc, List, [], ◌∷◌, ◌++◌, length, take, drop, get_or, refl, ap, sym, ◌∙◌, subst, arith, Option, None, Some, Bool, true, false, cond}
use Rattle.std.specs.Prelude.{position, ◌==◌, nat_lt}
use Rattle.std.specs.List.{position_or_len, AllByRecursion}
use Rattle.std.proofs.lemmas.Bool.{ltb-true, ltb-false, eqb-true, eqb-false}
use Rattle.std.proofs.lemmas.List.Sums.{split_at_first, fails_before_first, passes_at_first}
use Rattle.std.proofs.lemmas.List.{take_rest, get_or-take, length-take-le}
use Rattle.meaning.proofs.decks.WholeLines.{Lacks}

some_inj : {A : Type 0} (x y : A) → ◌≡◌ {A = Option A} (Some x) (Some y) → x ≡ y
some_inj x y e = cc

lacks_from : (c : ℕ) (xs : List ℕ) → ((k : ℕ) → k < length xs → (get_or xs k 0 == c) ≡ false) → Lacks c xs
lacks_from c [] h = tt
lacks_from c (x ∷ xs) h = (λ e. eqb-false x c (h 0 (omega arith)) e, lacks_from c xs (λ k l. h (suc k) (omega arith)))

by_position : (b : Bool) (n k : ℕ) → cond b (Some n) None ≡ Some k → (b ≡ true) × (n ≡ k)
by_position true n k e = (refl, some_inj n k e)
by_position false n k e = absurd (cc)

by_none : (b : Bool) (n : ℕ) → ◌≡◌ {A = Option ℕ} (cond b (Some n) None) None → b ≡ false
by_none true n e = absurd (cc)
by_none false n e = refl

-- the text at the first such byte
at_first : (c : ℕ) (text : List ℕ) (at : ℕ) → position (λ b. b == c) text ≡ Some at
    → (text ≡ take at text ++ c ∷ drop (at + 1) text) × Lacks c (take at text) × (at < length text)
at_first c text at e =
    let p : ℕ → Bool = λ b. b == c in
    let n = position_or_len p text in
    let r = by_position (nat_lt n (length text)) n at e in
    let l : n < length text = ltb-true n (length text) r.0 in
    let same : n ≡ at = r.1 in
    let here : get_or text n 0 ≡ c = eqb-true (get_or text n 0) c (passes_at_first p text 0 l) in
    let split : text ≡ take n text ++ (get_or text n 0 ∷ drop (n + 1) text) = split_at_first p text 0 l in
    let lacks : Lacks c (take n text) = lacks_from c (take n text) (λ k h.
    let k_less : k < n = (let q = length-take-le n text (omega (arith, l)) in omega (arith, q, h)) in
    ap (λ b. b == c) (get_or-take n text k 0 k_less) ∙ fails_before_first p text k 0 k_less) in (
      split ∙ ap (λ b. take n text ++ b ∷ drop (n + 1) text) here ∙ ap (λ m. take m text ++ c ∷ drop (m + 1) text) same,
      subst (λ (m : ℕ). Lacks c (take m text)) same lacks,
      omega (arith, l, same),
    )

pub whole_cut : (c : ℕ) (text : List ℕ) (at : ℕ) → position (λ b. b == c) text ≡ Some at
    → text ≡ take at text ++ c ∷ take (length text - (at + 1)) (drop (at + 1) text)
whole_cut c text at e =
    let r = at_first c text at e in
    r.0 ∙ ap (λ t. take at text ++ c ∷ t) (sym (take_rest text (at + 1)))

pub none_uncut : (c : ℕ) (text : List ℕ) → position (λ b. b == c) text ≡ None → AllByRecursion (λ b. b ≢ c) text
none_uncut c text e =
    let p : ℕ → Bool = λ b. b == c in
    let n = position_or_len p text in
    let l = ltb-false n (length text) (by_none (nat_lt n (length text)) n e) in
    lacks_from c text (λ k h. fails_before_first p text k 0 (omega arith))

pub none_cut : (c : ℕ) (text : List ℕ) (at : ℕ) → position (λ b. b == c) text ≡ Some at → AllByRecursion (λ b. b ≢ c) (take at text)
none_cut c text at e = (at_first c text at e).1

-- how much is left to cut
abbrev pub left_of : Option (List ℕ) → ℕ
left_of None = 0
left_of (Some rest) = length rest + 1

-- what `cut` leaves to be shown
pub ruleset cut_laws = (whole_cut, none_uncut, none_cut)
