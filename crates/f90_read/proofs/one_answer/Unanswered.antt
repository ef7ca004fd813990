-- Where no refusal is answered, none holds: of those that hold one has the least number, then the first line, then the
-- least word.
use Rattle.std.proofs.Common.{◌≡◌, ◌⊎◌, inl, inr, ℕ, zero, suc, ◌+◌, ◌<◌, ◌≤◌, sym, ◌∙◌, arith}
use Rattle.std.proofs.lemmas.Bool.{cases_order}
use Rattle.tree.specs.declared.refusals.Refusal.{Refusal}
use Rattle.reading.specs.refusal_order.Answered.{IsAnswered}
use Rattle.reading.proofs.refusal_order.Answered.{FollowsIn, answered_by}

at_least : (a b : ℕ) → (b < a → ⊥) → a ≤ b
at_least a b h = by (cases_order a b)
  where
    by : (a ≡ b) ⊎ ((a < b) ⊎ (b < a)) → a ≤ b
    by (inl e) = omega arith
    by (inr (inl l)) = omega arith
    by (inr (inr l)) = absurd (h l)

later : (k l v w : ℕ) → (l < k → ⊥) → (l ≡ k → w < v → ⊥) → (k < l) ⊎ ((k ≡ l) × (v ≤ w))
later k l v w g h = by (cases_order k l)
  where
    by : (k ≡ l) ⊎ ((k < l) ⊎ (l < k)) → (k < l) ⊎ ((k ≡ l) × (v ≤ w))
    by (inl e) = inr (e, at_least v w (h (sym e)))
    by (inr (inl m)) = inl m
    by (inr (inr m)) = absurd (g m)

less_or_same : (a b : ℕ) → a < suc b → (a < b) ⊎ (a ≡ b)
less_or_same a b h = by (cases_order a b)
  where
    by : (a ≡ b) ⊎ ((a < b) ⊎ (b < a)) → (a < b) ⊎ (a ≡ b)
    by (inl e) = inr e
    by (inr (inl l)) = inl l
    by (inr (inr l)) = absurd (omega arith)

module _ (Holds : Refusal → Type 0) (none : (r : Refusal) → IsAnswered Holds r → ⊥) where
  abbrev NoneBelow : ℕ → Type 0
  NoneBelow n = (r : Refusal) → Holds r → r.number < n → ⊥

  -- of this number, before the line
  abbrev NoneBefore : ℕ → ℕ → Type 0
  NoneBefore n l = (r : Refusal) → Holds r → r.number ≡ n → r.line < l → ⊥

  -- at this line
  abbrev NoneSooner : ℕ → ℕ → ℕ → Type 0
  NoneSooner n l w = (r : Refusal) → Holds r → r.number ≡ n → r.line ≡ l → r.word < w → ⊥

  first : (n l w : ℕ) → NoneBelow n → NoneBefore n l → NoneSooner n l w → (r : Refusal) → Holds r → r.number ≡ n
      → r.line ≡ l → r.word ≡ w → ⊥
  first n l w below before sooner r h a b c = none r (answered_by Holds r h least follows)
    where
      least : (other : Refusal) → Holds other → r.number ≤ other.number
      least other g = at_least r.number other.number (λ m. below other g (omega arith))

      follows : (other : Refusal) → Holds other → FollowsIn r other
      follows other g e =
          later r.line other.line r.word other.word (λ m. before other g (e ∙ a) (omega arith))
          (λ f m. sooner other g (e ∙ a) (f ∙ b) (omega arith))

  none_sooner : (n l : ℕ) → NoneBelow n → NoneBefore n l → (w : ℕ) → NoneSooner n l w
  none_sooner n l below before zero r h a b m = absurd (omega arith)
  none_sooner n l below before (suc w) r h a b m =
      by (none_sooner n l below before w) (less_or_same r.word w m)
    where
      by : NoneSooner n l w → (r.word < w) ⊎ (r.word ≡ w) → ⊥
      by sooner (inl k) = sooner r h a b k
      by sooner (inr e) = first n l w below before sooner r h a b e

  none_before : (n : ℕ) → NoneBelow n → (l : ℕ) → NoneBefore n l
  none_before n below zero r h a m = absurd (omega arith)
  none_before n below (suc l) r h a m = by (none_before n below l) (less_or_same r.line l m)
    where
      by : NoneBefore n l → (r.line < l) ⊎ (r.line ≡ l) → ⊥
      by before (inl k) = before r h a k
      by before (inr e) = none_sooner n l below before (r.word + 1) r h a e (omega arith)

  none_below : (n : ℕ) → NoneBelow n
  none_below zero r h m = absurd (omega arith)
  none_below (suc n) r h m = by (none_below n) (less_or_same r.number n m)
    where
      by : NoneBelow n → (r.number < n) ⊎ (r.number ≡ n) → ⊥
      by below (inl k) = below r h k
      by below (inr e) = none_before n below (r.line + 1) r h e (omega arith)

  pub unanswered : (r : Refusal) → Holds r → ⊥
  unanswered r h = none_below (r.number + 1) r h (omega arith)
