-- Arrays of nests with numbers of their own have names of their own.
use Rattle.std.proofs.Common.{◌≡◌, ◌⊎◌, inl, inr, refl, sym, ap, ap₂, ◌∙◌, ℕ, ◌≤◌, Bool, true, false, cond, codes, List, [], ◌∷◌, ◌++◌}
use Rattle.std.specs.Prelude.{decimal, ◌==◌}
use Rattle.std.proofs.lemmas.Bool.{eqb-true}
use Rattle.nest_order.specs.orders.Lists.{In}
use Rattle.pass_laws.proofs.NormalFacts.MadeStatements.{counter_same}
use Rattle.pass_laws.proofs.PreparedNests.Lists.{In-Contains, within_32}
use Rattle.tree.specs.Names.{IsSourceName}
use Rattle.scalar_expand.specs.Privates.{expanded_name, number_behind}
use Rattle.prepared_passes.specs.expansion.Found.{ArrayNamesAreApart}
use Rattle.prepared_passes.proofs.ExpandedNests.Names.{front_cancelled, source_is}

-- nothing, or what begins with an underscore
abbrev pub IsTail : List ℕ → Type 0
IsTail s = (s ≡ []) ⊎ ((r : List ℕ) × (s ≡ 95 ∷ r))

joined : (s : List ℕ) → IsTail s → (c : ℕ) (y : List ℕ) → ¬ In 95 (c ∷ y) → (t : List ℕ) → ¬ (s ≡ c ∷ (y ++ t))
joined s (inl f) c y other t e = let bad : ◌≡◌ {A = List ℕ} [] (c ∷ (y ++ t)) = sym f ∙ e in let none : ⊥ = cc in none
joined s (inr (r, f)) c y other t e =
    let same : ◌≡◌ {A = List ℕ} (95 ∷ r) (c ∷ (y ++ t)) = sym f ∙ e in
    let first : 95 ≡ c = cc in
    other (inl first)

pub split : (x y s t : List ℕ) → ¬ In 95 x → ¬ In 95 y → IsTail s → IsTail t → x ++ s ≡ y ++ t → (x ≡ y) × (s ≡ t)
split [] [] s t a b f g e = (refl, e)
split [] (c ∷ y) s t a b f g e = absurd (joined s f c y b t e)
split (c ∷ x) [] s t a b f g e = absurd (joined t g c x a s (sym e))
split (c ∷ x) (d ∷ y) s t a b f g e =
    let head : c ≡ d = cc in
    let rest : x ++ s ≡ y ++ t = cc in
    let r = split x y s t (λ i. a (inr i)) (λ i. b (inr i)) f g rest in
    (ap₂ (λ (z : ℕ) (zs : List ℕ). z ∷ zs) head r.0, r.1)

pub number_tail : (n : ℕ) → IsTail (number_behind n)
number_tail n = by (n == 1)
  where
    by : (b : Bool) → IsTail (cond b [] (codes "_" ++ decimal n))
    by true = inl refl
    by false = inr (decimal n, refl)

pub one_number : (i j : ℕ) → i ≤ 4294967295 → j ≤ 4294967295 → number_behind i ≡ number_behind j → i ≡ j
one_number i j low high e = by (i == 1) (j == 1) refl refl e
  where
    by : (b c : Bool) → (i == 1) ≡ b → (j == 1) ≡ c → cond b [] (codes "_" ++ decimal i) ≡ cond c [] (codes "_" ++ decimal j) → i ≡ j
    by true true f g h = eqb-true i 1 f ∙ sym (eqb-true j 1 g)
    by true false f g h = let bad : ◌≡◌ {A = List ℕ} [] (95 ∷ decimal j) = h in let none : ⊥ = cc in absurd none
    by false true f g h = let bad : ◌≡◌ {A = List ℕ} (95 ∷ decimal i) [] = h in let none : ⊥ = cc in absurd none
    by false false f g h =
        let same : decimal i ≡ decimal j = front_cancelled (codes "_") (decimal i) (decimal j) h in
        counter_same i j low high (ap (λ (ds : List ℕ). codes "FV_LOOP_" ++ ds) same)

full_name : (n : ℕ) (x : List ℕ) → IsSourceName x → expanded_name n x ≡ (codes "FV_EXP_" ++ x) ++ number_behind n
full_name n x s = ap (λ b. cond b ((codes "FV_EXP_" ++ x) ++ number_behind n) x) (source_is x s)

behind_front : (n : ℕ) (x : List ℕ) → (codes "FV_EXP_" ++ x) ++ number_behind n ≡ codes "FV_EXP_" ++ (x ++ number_behind n)
behind_front n x = refl

pub array_names_are_apart : ArrayNamesAreApart
array_names_are_apart i j x y low high s t e =
    let whole : codes "FV_EXP_" ++ (x ++ number_behind i) ≡ codes "FV_EXP_" ++ (y ++ number_behind j)
    = sym (behind_front i x) ∙ (sym (full_name i x s) ∙ (e ∙ (full_name j y t ∙ behind_front j y))) in
    let r = split x y (number_behind i) (number_behind j) (λ k. s.plain (In-Contains 95 x k)) (λ k. t.plain (In-Contains 95 y k)) (number_tail i) (number_tail j)
    (front_cancelled (codes "FV_EXP_") (x ++ number_behind i) (y ++ number_behind j) whole) in
    (one_number i j (within_32 i low) (within_32 j high) r.1, r.0)
