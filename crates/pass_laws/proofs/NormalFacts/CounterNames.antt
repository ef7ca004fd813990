-- The names of counters and the symbols of a nest are distinct.
use Rattle.std.proofs.Common.{◌≡◌, ◌⊎◌, inl, inr, refl, sym, ◌∙◌, ℕ, ◌≤◌, Bool, true, false, ◌||◌, List, [], ◌∷◌, ◌++◌}
use Rattle.std.proofs.Common.{map}
use Rattle.std.specs.Str.{bytes_eq}
use Rattle.std.proofs.lemmas.Slice.Eq.{bytes_eq-Decides}
use Rattle.meaning.specs.Names.{is_among}
use Rattle.linear_forms.specs.CanonicalLaws.{AreDistinct}
use Rattle.nest_order.proofs.orders.Lists.{Each-In, In-append}
use Rattle.nest_order.proofs.orders.Membership.{In-map}
use Rattle.nest_order.specs.orders.Lists.{In, Distinct}
use Rattle.last_values.specs.normal_forms.NormalLoops.{counter_name}
use Rattle.pass_laws.proofs.NormalFacts.FoundStatements.{IsShort}
use Rattle.pass_laws.proofs.NormalFacts.MadeStatements.{counter_same, counter_long}

none_among : (names : List (List ℕ)) (x : List ℕ) → ((y : List ℕ) → In y names → ¬ (x ≡ y)) → is_among names x ≡ false
none_among [] x f = refl
none_among (y ∷ names) x f = by (bytes_eq x y) refl (none_among names x (λ z i. f z (inr i)))
  where
    by : (b : Bool) → bytes_eq x y ≡ b → is_among names x ≡ false → (b || is_among names x) ≡ false
    by true e rest = absurd (f y (inl refl) ((bytes_eq-Decides x y).0 e))
    by false e rest = rest

pub distinct_names : (ks : List ℕ) (symbols : List (List ℕ)) → Distinct ks → ((k : ℕ) → In k ks → k ≤ 4294967295) → ((y : List ℕ) → In y symbols → IsShort y) → AreDistinct symbols
    → AreDistinct (map counter_name ks ++ symbols)
distinct_names [] symbols d small short h = h
distinct_names (k ∷ ks) symbols d small short h = (
  none_among (map counter_name ks ++ symbols) (counter_name k) (λ y i. other y (In-append y (map counter_name ks) symbols i)),
  distinct_names ks symbols d.1 (λ j i. small j (inr i)) short h,
)
  where
    other : (y : List ℕ) → In y (map counter_name ks) ⊎ In y symbols → ¬ (counter_name k ≡ y)
    other y (inl i) e =
        let r = In-map counter_name y ks i in
        let same : k ≡ r.it = counter_same k r.it (small k (inl refl)) (small r.it (inr r.inside)) (e ∙ r.is) in
        Each-In (λ z. ¬ (k ≡ z)) ks d.0 r.it r.inside same
    other y (inr i) e = counter_long y k (short y i) (sym e)
