-- The pairs of a table.
use Rattle.std.proofs.Common.{◌≡◌, ap, subst, ◌⊎◌, inl, inr, ℕ, zero, suc, ◌+◌, ◌≤◌, List, [], ◌∷◌, map, arith}
use Rattle.components.specs.Lists.{IsMember}
use Rattle.components.proofs.ListLaws.{In-append, In-left, In-right}
use Rattle.components.specs.Targets.{row, leads, leads_from}

In-paired : (k a b : ℕ) (targets : List ℕ) → IsMember {X = ℕ × ℕ} (a, b) (map (λ b. (k, b)) targets) → (a ≡ k) × IsMember b targets
In-paired k a b [] i = absurd i
In-paired k a b (t ∷ targets) (inl e) = (ap (λ p. p.0) e, inl (ap (λ p. p.1) e))
In-paired k a b (t ∷ targets) (inr i) = let h = In-paired k a b targets i in (h.0, inr h.1)

paired-In : (k b : ℕ) (targets : List ℕ) → IsMember b targets → IsMember {X = ℕ × ℕ} (k, b) (map (λ b. (k, b)) targets)
paired-In k b [] i = absurd i
paired-In k b (t ∷ targets) (inl e) = inl (ap (λ z. (k, z)) e)
paired-In k b (t ∷ targets) (inr i) = inr (paired-In k b targets i)

from_least : (k a b : ℕ) (rows : List (List ℕ)) → IsMember {X = ℕ × ℕ} (a, b) (leads_from k rows) → k ≤ a
from_least k a b [] i = absurd i
from_least k a b (targets ∷ rows) i = by (from_least (suc k) a b rows) (In-append (a, b) (map (λ b. (k, b)) targets) (leads_from (suc k) rows) i)
  where
    by : (IsMember {X = ℕ × ℕ} (a, b) (leads_from (suc k) rows) → suc k ≤ a) → IsMember {X = ℕ × ℕ} (a, b) (map (λ b. (k, b)) targets) ⊎ IsMember {X = ℕ × ℕ} (a, b) (leads_from (suc k) rows) → k ≤ a
    by later (inl j) = let h = (In-paired k a b targets j).0 in omega arith
    by later (inr j) = let h = later j in omega arith

row_of_lead : (k i a b : ℕ) (rows : List (List ℕ)) → a ≡ k + i → IsMember {X = ℕ × ℕ} (a, b) (leads_from k rows) → IsMember b (row rows i)
row_of_lead k i a b [] e j = absurd j
row_of_lead k zero a b (targets ∷ rows) e j = by (In-append (a, b) (map (λ b. (k, b)) targets) (leads_from (suc k) rows) j)
  where
    by : IsMember {X = ℕ × ℕ} (a, b) (map (λ b. (k, b)) targets) ⊎ IsMember {X = ℕ × ℕ} (a, b) (leads_from (suc k) rows) → IsMember b targets
    by (inl l) = (In-paired k a b targets l).1
    by (inr l) = absurd (let h = from_least (suc k) a b rows l in omega arith)
row_of_lead k (suc i) a b (targets ∷ rows) e j = by (row_of_lead (suc k) i a b rows (omega arith)) (In-append (a, b) (map (λ b. (k, b)) targets) (leads_from (suc k) rows) j)
  where
    by : (IsMember {X = ℕ × ℕ} (a, b) (leads_from (suc k) rows) → IsMember b (row rows i)) → IsMember {X = ℕ × ℕ} (a, b) (map (λ b. (k, b)) targets) ⊎ IsMember {X = ℕ × ℕ} (a, b) (leads_from (suc k) rows) → IsMember b (row rows i)
    by later (inl l) = absurd (let h = (In-paired k a b targets l).0 in omega arith)
    by later (inr l) = later l

lead_of_row : (k i b : ℕ) (rows : List (List ℕ)) → IsMember b (row rows i) → IsMember {X = ℕ × ℕ} (k + i, b) (leads_from k rows)
lead_of_row k i b [] j = absurd j
lead_of_row k zero b (targets ∷ rows) j =
    subst (λ z. IsMember (z, b) (leads_from k (targets ∷ rows))) (let e : k ≡ k + 0 = omega arith in e)
    (In-left (k, b) (map (λ b. (k, b)) targets) (leads_from (suc k) rows) (paired-In k b targets j))
lead_of_row k (suc i) b (targets ∷ rows) j =
    subst (λ z. IsMember (z, b) (leads_from k (targets ∷ rows))) (let e : suc k + i ≡ k + suc i = omega arith in e)
    (In-right (suc k + i, b) (map (λ b. (k, b)) targets) (leads_from (suc k) rows) (lead_of_row (suc k) i b rows j))

pub leads-In : (rows : List (List ℕ)) (a b : ℕ) → IsMember (a, b) (leads rows) → IsMember b (row rows a)
leads-In rows a b i = row_of_lead 0 a a b rows (omega arith) i

pub In-leads : (rows : List (List ℕ)) (a b : ℕ) → IsMember b (row rows a) → IsMember (a, b) (leads rows)
In-leads rows a b i = subst (λ z. IsMember (z, b) (leads rows)) (let e : 0 + a ≡ a = omega arith in e) (lead_of_row 0 a b rows i)
