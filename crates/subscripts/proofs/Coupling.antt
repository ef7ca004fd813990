-- Coupled pairings and the groups that they form.
use Rattle.std.proofs.Common.{◌≡◌, ℕ, ◌+◌, ◌<◌, ◌≤◌, ◌⊎◌, List, [], ◌∷◌, ◌++◌, Bool, true, false, cond, Some, None, length, suc, zero, max, min, refl, ap, arith, sym, ◌∙◌, inl, inr, subst, get_or}
use Rattle.std.specs.Prelude.{ℤ, pos, IsTrue, nat_eq, slice_get, slice_index}
use Rattle.std.proofs.lemmas.Bool.{cases_eq, cases_lt, cases_order, eq-eqb, ne_eqb}
use Rattle.std.proofs.lemmas.Option.{get_or_from_slice_get, slice_get-get_or}
use Rattle.subscripts.specs.Classes.{Loop, Shared, First, Second, Matters}
use Rattle.subscripts.specs.Partitions.{AreCoupled, AreGrouped, AreGroupedUpTo, IsChain, IsLeastOfGroup, SharesAt, SharesLoop, joined_number}
use Rattle.subscripts.specs.Shapes.{IsPairing}
use Rattle.subscripts.specs.declared.pairing.Pairing.{Pairing}

-- a loop matters to both somewhere
pub shares_from : (p q : Pairing) (k : ℕ) → IsTrue p.known → IsTrue q.known → SharesAt p q k → SharesLoop p q
shares_from p q k t u (inl h) = record { loop = Shared k; first_known = t; second_known = u; first = h.0; second = h.1 }
shares_from p q k t u (inr (inl h)) = record { loop = First k; first_known = t; second_known = u; first = h.0; second = h.1 }
shares_from p q k t u (inr (inr h)) = record { loop = Second k; first_known = t; second_known = u; first = h.0; second = h.1 }

somewhere : (p q : Pairing) (l : Loop) → p.common ≤ 7 → Matters p l → Matters q l → (k : ℕ) × ((k < 7) × SharesAt p q k)
somewhere p q (Shared k) h a b = (k, (let l = a.loop in omega arith, inl (a, b)))
somewhere p q (First k) h a b = (k, (a.loop.1, inr (inl (a, b))))
somewhere p q (Second k) h a b = (k, (a.loop.1, inr (inr (a, b))))

pub shares_to : (p q : Pairing) → IsPairing p → SharesLoop p q → (k : ℕ) × ((k < 7) × SharesAt p q k)
shares_to p q h s = somewhere p q s.loop (let a = h.from_common in let b = h.from_depth in omega arith) s.first s.second

-- ---- groups

coupled_back : (ps : List Pairing) (i j : ℕ) → AreCoupled ps i j → AreCoupled ps j i
coupled_back ps i j h = record {
  first = h.second;
  second = h.first;
  at_first = h.at_second;
  at_second = h.at_first;
  shares = record { loop = h.shares.loop; first_known = h.shares.second_known; second_known = h.shares.first_known; first = h.shares.second; second = h.shares.first };
}

chained : (ps : List Pairing) (i : ℕ) (ks : List ℕ) (j : ℕ) (ls : List ℕ) (k : ℕ) → IsChain ps i ks j → IsChain ps j ls k → IsChain ps i (ks ++ ls) k
chained ps i [] j ls k h g = subst (λ n. IsChain ps n ls k) (sym h) g
chained ps i (m ∷ ks) j ls k h g = (h.0, chained ps m ks j ls k h.1 g)

pub then : (ps : List Pairing) (i j k : ℕ) → AreGrouped ps i j → AreGrouped ps j k → AreGrouped ps i k
then ps i j k h g = (h.0 ++ g.0, chained ps i h.0 j g.0 k h.1 g.1)

pub one_step : (ps : List Pairing) (i j : ℕ) → AreCoupled ps i j → AreGrouped ps i j
one_step ps i j h = (j ∷ [], (h, refl))

back_along : (ps : List Pairing) (i : ℕ) (ks : List ℕ) (j : ℕ) → IsChain ps i ks j → AreGrouped ps j i
back_along ps i [] j h = ([], sym h)
back_along ps i (k ∷ ks) j h = then ps j k i (back_along ps k ks j h.1) (one_step ps k i (coupled_back ps i k h.0))

pub grouped_back : (ps : List Pairing) (i j : ℕ) → AreGrouped ps i j → AreGrouped ps j i
grouped_back ps i j h = back_along ps i h.0 j h.1

pub alone : (ps : List Pairing) (i : ℕ) → AreGrouped ps i i
alone ps i = ([], refl)

slice_get_within : (ps : List Pairing) (i : ℕ) (p : Pairing) → slice_get ps i ≡ Some p → i < length ps
slice_get_within [] i p e = absurd (cc)
slice_get_within (q ∷ ps) zero p e = omega arith
slice_get_within (q ∷ ps) (suc i) p e = let h = slice_get_within ps i p e in omega arith

pub first_within : (ps : List Pairing) (i j : ℕ) → AreCoupled ps i j → i < length ps
first_within ps i j h = slice_get_within ps i h.first h.at_first

pub second_within : (ps : List Pairing) (i j : ℕ) → AreCoupled ps i j → j < length ps
second_within ps i j h = slice_get_within ps j h.second h.at_second

-- ---- once all have been compared

coupled_same : (ps : List Pairing) (gs : List ℕ) (n : ℕ) → length ps ≤ n → AreGroupedUpTo ps gs n 0 → (i j : ℕ) → AreCoupled ps i j → slice_index gs i ≡ slice_index gs j
coupled_same ps gs n l h i j c =
    elim (cases_order i j) [
      | inl e ↦ ap (λ k. slice_index gs k) e
      | inr o ↦ elim o [
        | inl b ↦ h.same i j b (inl (let w = second_within ps i j c in omega arith)) c
        | inr b ↦ sym (h.same j i b (inl (let w = first_within ps i j c in omega arith)) (coupled_back ps i j c))
      ]
    ]

chain_same : (ps : List Pairing) (gs : List ℕ) (n : ℕ) → length ps ≤ n → AreGroupedUpTo ps gs n 0 → (i : ℕ) (ks : List ℕ) (j : ℕ) → IsChain ps i ks j → slice_index gs i ≡ slice_index gs j
chain_same ps gs n l h i [] j c = ap (λ k. slice_index gs k) c
chain_same ps gs n l h i (k ∷ ks) j c = coupled_same ps gs n l h i k c.0 ∙ chain_same ps gs n l h k ks j c.1

pub least_of_all : (ps : List Pairing) (gs : List ℕ) (n : ℕ) → length ps ≤ n → AreGroupedUpTo ps gs n 0 → (i : ℕ) → i < 7 → IsLeastOfGroup ps i (slice_index gs i)
least_of_all ps gs n l h i m = record {
  grouped = h.grouped i m;
  first = λ j g.
      let e = chain_same ps gs n l h i g.0 j g.1 in
      elim (cases_lt j 7) [ inl a ↦ let b = h.no_later j a in omega arith | inr a ↦ let b = h.no_later i m in omega arith ];
}

-- ---- two groups made one

joined_other : (a b n : ℕ) → n ≡ max a b → joined_number a b n ≡ min a b
joined_other a b n e = ap (λ t. cond t (min a b) n) (eq-eqb n (max a b) e)

joined_same : (a b n : ℕ) → (n ≡ max a b → ⊥) → joined_number a b n ≡ n
joined_same a b n e = ap (λ t. cond t (min a b) n) (ne_eqb n (max a b) e)

joined_no_later : (a b n : ℕ) → joined_number a b n ≤ n
joined_no_later a b n =
    elim (cases_eq n (max a b)) [ inl e ↦ let h = joined_other a b n e in omega arith | inr e ↦ let h = joined_same a b n e in omega arith ]

joined_first : (a b : ℕ) → joined_number a b a ≡ min a b
joined_first a b = elim (cases_eq a (max a b)) [ inl e ↦ joined_other a b a e | inr e ↦ joined_same a b a e ∙ omega arith ]

joined_second : (a b : ℕ) → joined_number a b b ≡ min a b
joined_second a b = elim (cases_eq b (max a b)) [ inl e ↦ joined_other a b b e | inr e ↦ joined_same a b b e ∙ omega arith ]

-- the number stays in the group, where the two joined are in one
joined_grouped : (ps : List Pairing) (k a b n : ℕ) → AreGrouped ps k n → AreGrouped ps a b → AreGrouped ps k (joined_number a b n)
joined_grouped ps k a b n h g =
    elim (cases_eq n (max a b)) [
      | inl e ↦ elim (cases_lt a b) [
        | inl l ↦
            let o : joined_number a b n ≡ a = joined_other a b n e ∙ omega arith in
            let m : n ≡ b = omega arith in
            subst (λ x. AreGrouped ps k x) (sym o) (then ps k b a (subst (λ x. AreGrouped ps k x) m h) (grouped_back ps a b g))
        | inr l ↦
            let o : joined_number a b n ≡ b = joined_other a b n e ∙ omega arith in
            let m : n ≡ a = omega arith in
            subst (λ x. AreGrouped ps k x) (sym o) (then ps k a b (subst (λ x. AreGrouped ps k x) m h) g)
      ]
      | inr e ↦ subst (λ x. AreGrouped ps k x) (sym (joined_same a b n e)) h
    ]

-- the next pairing compared with one more
pub coupled_next : (ps : List Pairing) (gs hs : List ℕ) (n m : ℕ) → n < 7 → m < n → AreGroupedUpTo ps gs n m → AreCoupled ps m n
    → ((k : ℕ) → k < 7 → slice_index hs k ≡ joined_number (slice_index gs m) (slice_index gs n) (slice_index gs k)) → AreGroupedUpTo ps hs n (m + 1)
coupled_next ps gs hs n m l b h c j =
    let together : AreGrouped ps (slice_index gs m) (slice_index gs n) =
    then ps (slice_index gs m) m (slice_index gs n) (grouped_back ps m (slice_index gs m) (h.grouped m (omega arith))) (then ps m n (slice_index gs n) (one_step ps m n c) (h.grouped n l)) in
    record {
      grouped = λ k i. subst (λ x. AreGrouped ps k x) (sym (j k i)) (joined_grouped ps k (slice_index gs m) (slice_index gs n) (slice_index gs k) (h.grouped k i) together);
      no_later = λ k i. let e = j k i in let f = joined_no_later (slice_index gs m) (slice_index gs n) (slice_index gs k) in let g = h.no_later k i in omega arith;
      same = λ i k s d q.
          let w : k < 7 = elim d [ inl x ↦ omega arith | inr x ↦ let y = x.0 in omega arith ] in
          let u = j i (omega arith) in
          let v = j k w in
          let old : (slice_index gs i ≡ slice_index gs k) ⊎ ((i ≡ m) × (k ≡ n)) =
          elim d [
            | inl x ↦ inl (h.same i k s (inl x) q)
            | inr x ↦ elim (cases_eq i m) [ inl e ↦ inr (e, x.0) | inr e ↦ inl (h.same i k s (inr (x.0, let y = x.1 in omega arith)) q) ]
          ] in
          elim old [
            | inl e ↦ u ∙ ap (λ x. joined_number (slice_index gs m) (slice_index gs n) x) e ∙ sym v
            | inr e ↦
                u ∙ ap (λ x. joined_number (slice_index gs m) (slice_index gs n) (slice_index gs x)) e.0 ∙ joined_first (slice_index gs m) (slice_index gs n)
                ∙ sym (v ∙ ap (λ x. joined_number (slice_index gs m) (slice_index gs n) (slice_index gs x)) e.1 ∙ joined_second (slice_index gs m) (slice_index gs n))
          ];
    }

pub apart_next : (ps : List Pairing) (gs : List ℕ) (n m : ℕ) → AreGroupedUpTo ps gs n m → (AreCoupled ps m n → ⊥) → AreGroupedUpTo ps gs n (m + 1)
apart_next ps gs n m h c = record {
  grouped = h.grouped;
  no_later = h.no_later;
  same = λ i k s d q.
      elim d [
        | inl x ↦ h.same i k s (inl x) q
        | inr x ↦ elim (cases_eq i m) [
          | inl e ↦ absurd (c (subst (λ a. AreCoupled ps a n) e (subst (λ b. AreCoupled ps i b) x.0 q)))
          | inr e ↦ h.same i k s (inr (x.0, let y = x.1 in omega arith)) q
        ]
      ];
}

pub compared : (ps : List Pairing) (gs : List ℕ) (n : ℕ) → AreGroupedUpTo ps gs n n → AreGroupedUpTo ps gs (n + 1) 0
compared ps gs n h = record {
  grouped = h.grouped;
  no_later = h.no_later;
  same = λ i k s d q.
      elim d [
        | inl x ↦ elim (cases_eq k n) [ inl e ↦ h.same i k s (inr (e, omega arith)) q | inr e ↦ h.same i k s (inl (omega arith)) q ]
        | inr x ↦ absurd (let y = x.1 in omega arith)
      ];
}

pub coupled_from : (ps : List Pairing) (i j : ℕ) (d e : Pairing) → i < length ps → j < length ps → SharesLoop (get_or ps i d) (get_or ps j e) → AreCoupled ps i j
coupled_from ps i j d e l m h = record { first = get_or ps i d; second = get_or ps j e; at_first = slice_get-get_or ps i d l; at_second = slice_get-get_or ps j e m; shares = h }

pub coupled_to : (ps : List Pairing) (i j : ℕ) (d e : Pairing) → AreCoupled ps i j → SharesLoop (get_or ps i d) (get_or ps j e)
coupled_to ps i j d e h =
    subst (λ p. SharesLoop p (get_or ps j e)) (sym (get_or_from_slice_get ps i h.first d h.at_first))
    (subst (λ q. SharesLoop h.first q) (sym (get_or_from_slice_get ps j h.second e h.at_second)) h.shares)
