-- Refusals in their order, and the one that is answered.
use Rattle.std.proofs.Common.{◌≡◌, ◌⊎◌, inl, inr, ℕ, ◌<◌, ◌≤◌, ◌==◌, nat_lt, Bool, true, false, ◌&&◌, ◌||◌, refl, ap, ◌∙◌, arith}
use Rattle.std.proofs.lemmas.Bool.Decides.{nat_tests}
use Rattle.tree.specs.declared.refusals.Refusal.{Refusal}
use Rattle.reading.specs.refusal_order.Answered.{comes_before, IsAnswered}

-- ---- the order, on the three numbers alone

abbrev before : ℕ → ℕ → ℕ → ℕ → ℕ → ℕ → Bool
before n l w m k v = nat_lt n m || (n == m && (nat_lt l k || (l == k && nat_lt w v)))

before_itself : (n l w : ℕ) → before n l w n l w ≡ false
before_itself n l w = grind (arith, nat_tests)

before_sooner : (n l w n' l' w' m k v : ℕ) → before n l w n' l' w' ≡ false → before m k v n' l' w' ≡ true → before n l w m k v ≡ false
before_sooner n l w n' l' w' m k v h g = grind (arith, nat_tests)

same_number : (n l w m k v : ℕ) → before n l w m k v ≡ false → before m k v n l w ≡ false → n ≡ m
same_number n l w m k v h g = grind (arith, nat_tests)

same_line : (n l w m k v : ℕ) → before n l w m k v ≡ false → before m k v n l w ≡ false → l ≡ k
same_line n l w m k v h g = grind (arith, nat_tests)

same_word : (n l w m k v : ℕ) → before n l w m k v ≡ false → before m k v n l w ≡ false → w ≡ v
same_word n l w m k v h g = grind (arith, nat_tests)

not_before : (n l w m k v : ℕ) → n ≤ m → (m ≡ n → (l < k) ⊎ ((l ≡ k) × (w ≤ v))) → before m k v n l w ≡ false
not_before n l w m k v h g = by (m == n) refl
  where
    less : (m n : ℕ) → n ≤ m → nat_lt m n ≡ false
    less m n h = grind (arith, nat_tests)

    later : (l w k v : ℕ) → (l < k) ⊎ ((l ≡ k) × (w ≤ v)) → (nat_lt k l || (k == l && nat_lt v w)) ≡ false
    later l w k v (inl lt) = grind (arith, nat_tests)
    later l w k v (inr same) = let e : l ≡ k = same.0 in let le : w ≤ v = same.1 in grind (arith, nat_tests)

    equal : (m n : ℕ) → (m == n) ≡ true → m ≡ n
    equal m n e = grind (arith, nat_tests)

    by : (t : Bool) → (m == n) ≡ t → (nat_lt m n || (m == n && (nat_lt k l || (k == l && nat_lt v w)))) ≡ false
    by true e = ap (λ b. b || (m == n && (nat_lt k l || (k == l && nat_lt v w)))) (less m n h) ∙ ap (λ b. m == n && b) (later l w k v (g (equal m n e))) ∙ ap (λ b. b && false) e
    by false e = ap (λ b. b || (m == n && (nat_lt k l || (k == l && nat_lt v w)))) (less m n h) ∙ ap (λ b. b && (nat_lt k l || (k == l && nat_lt v w))) e

-- ---- refusals

pub not_before_itself : (r : Refusal) → comes_before r r ≡ false
not_before_itself r = before_itself r.number r.line r.word

-- what isn't before r isn't before what is
pub not_before_sooner : (o r s : Refusal) → comes_before o r ≡ false → comes_before s r ≡ true → comes_before o s ≡ false
not_before_sooner o r s h g = before_sooner o.number o.line o.word r.number r.line r.word s.number s.line s.word h g

-- if it has the same number, it has a later line, or no lesser word on the same line
abbrev pub FollowsIn : Refusal → Refusal → Type 0
FollowsIn r other = other.number ≡ r.number → (r.line < other.line) ⊎ ((r.line ≡ other.line) × (r.word ≤ other.word))

pub not_before_least : (r other : Refusal) → r.number ≤ other.number → FollowsIn r other → comes_before other r ≡ false
not_before_least r other h g = not_before r.number r.line r.word other.number other.line other.word h g

refusal_of : ℕ → ℕ → ℕ → Refusal
refusal_of n l w = record { number = n; line = l; word = w }

same_refusal : (r s : Refusal) → r.number ≡ s.number → r.line ≡ s.line → r.word ≡ s.word → r ≡ s
unfolding refusal_of
same_refusal r s p q t =
    ap (λ n. refusal_of n r.line r.word) p ∙ ap (λ l. refusal_of s.number l r.word) q ∙ ap (λ w. refusal_of s.number s.line w) t

-- none comes before the other
pub same_place : (r s : Refusal) → comes_before r s ≡ false → comes_before s r ≡ false → r ≡ s
same_place r s a b =
    same_refusal r s
    (same_number r.number r.line r.word s.number s.line s.word a b)
    (same_line r.number r.line r.word s.number s.line s.word a b)
    (same_word r.number r.line r.word s.number s.line s.word a b)

-- ---- what is answered

module _ (Holds : Refusal → Type 0) where
  pub one_answer : (r s : Refusal) → IsAnswered Holds r → IsAnswered Holds s → r ≡ s
  one_answer r s f g = same_place r s (g.first r f.holds) (f.first s g.holds)

  pub answered_by : (r : Refusal) → Holds r → ((other : Refusal) → Holds other → r.number ≤ other.number) → ((other : Refusal) → Holds other → FollowsIn r other) → IsAnswered Holds r
  answered_by r h least follows = record { holds = h; first = λ other g. not_before_least r other (least other g) (follows other g) }
