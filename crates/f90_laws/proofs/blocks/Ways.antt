-- Ways there and back between alternatives.
use Rattle.std.proofs.Common.{◌≡◌, ◌↔◌, ◌⊎◌, inl, inr, sym, subst}
use mathlib.Core.Logic.{⊎_elim}

pub same : {A : Type 0} → A ↔ A
same = (λ a. a, λ a. a)

pub turned : {A B : Type 0} → A ↔ B → B ↔ A
turned h = (h.1, h.0)

pub and_then : {A B C : Type 0} → A ↔ B → B ↔ C → A ↔ C
and_then h g = (λ a. g.0 (h.0 a), λ c. h.1 (g.1 c))

pub along : {X : Type 0} (P : X → Type 0) {x y : X} → x ≡ y → P x ↔ P y
along P e = (subst P e, subst P (sym e))

pub or_both : {A B C D : Type 0} → A ↔ C → B ↔ D → (A ⊎ B) ↔ (C ⊎ D)
or_both h g = (⊎_elim (λ a. inl (h.0 a)) (λ b. inr (g.0 b)), ⊎_elim (λ c. inl (h.1 c)) (λ d. inr (g.1 d)))

pub or_regrouped : {A B C : Type 0} → (A ⊎ (B ⊎ C)) ↔ ((A ⊎ B) ⊎ C)
or_regrouped = (
  ⊎_elim (λ a. inl (inl a)) (⊎_elim (λ b. inl (inr b)) (λ c. inr c)),
  ⊎_elim (⊎_elim (λ a. inl a) (λ b. inr (inl b))) (λ c. inr (inr c)),
)

-- an alternative that never holds
pub without_left : {A B C : Type 0} → (A → ⊥) → B ↔ C → (A ⊎ B) ↔ C
without_left n h = (⊎_elim (λ a. absurd (n a)) h.0, λ c. inr (h.1 c))

pub without_right : {A B C : Type 0} → (B → ⊥) → A ↔ C → (A ⊎ B) ↔ C
without_right n h = (⊎_elim h.0 (λ b. absurd (n b)), λ c. inl (h.1 c))
