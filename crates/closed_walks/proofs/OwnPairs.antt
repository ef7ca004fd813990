-- Walks need no pair of a number with itself.
use Rattle.std.proofs.Common.{◌≡◌, refl, sym, subst, ◌⊎◌, inl, inr, ℕ, List, [], ◌∷◌, ◌++◌}
use Rattle.std.specs.List.{concat}
use Rattle.std.proofs.lemmas.Bool.{cases_eq}
use Rattle.components.specs.Lists.{Distinct, Each, IsMember, Pairwise}
use Rattle.components.specs.Orders.{HasLess, IsComponent, LeastFirst, MayComeNext, NoneBack}
use Rattle.components.specs.Reachability.{AreMutual, Reaches, Walk}
use Rattle.closed_walks.specs.OwnPairs.{OwnPairsChangeNoOrder, SameButOwn}

turned : (pairs others : List (ℕ × ℕ)) → SameButOwn pairs others → SameButOwn others pairs
turned pairs others same a b d = ((same a b d).1, (same a b d).0)

module _ (pairs others : List (ℕ × ℕ)) (same : SameButOwn pairs others) where
  walked : (a : ℕ) (over : List ℕ) (b : ℕ) → Walk pairs a over b → Reaches others a b
  walked a [] b w = ([], w)
  walked a (q ∷ over) b w = by (cases_eq a q) (walked q over b w.1)
    where
      by : (a ≡ q) ⊎ (a ≡ q → ⊥) → Reaches others q b → Reaches others a b
      by (inl e) r = subst (λ z. Reaches others z b) (sym e) r
      by (inr d) r = (q ∷ r.0, ((same a q d).0 w.0, r.1))

mutual_too : (pairs others : List (ℕ × ℕ)) → SameButOwn pairs others → (a b : ℕ) → AreMutual pairs a b → AreMutual others a b
mutual_too pairs others same a b m = (walked pairs others same a m.0.0 b m.0.1, walked pairs others same b m.1.0 a m.1.1)

Each-weaker : {X : Type 0} (P R : X → Type 0) (xs : List X) → ((x : X) → IsMember x xs → P x → R x) → Each P xs → Each R xs
Each-weaker P R [] f h = tt
Each-weaker P R (x ∷ xs) f h = (f x (inl refl) h.0, Each-weaker P R xs (λ y i. f y (inr i)) h.1)

module _ (pairs others : List (ℕ × ℕ)) (same : SameButOwn pairs others) where
  component : (c : List ℕ) → IsComponent pairs c → IsComponent others c
  component c h a b i = (
    λ j. mutual_too pairs others same a b ((h a b i).0 j),
    λ m. (h a b i).1 (mutual_too others pairs (turned pairs others same) a b m),
  )

  -- two classes have no common number
  none_back : (c d : List ℕ) → ((a : ℕ) → IsMember a c → IsMember a d → ⊥) → NoneBack pairs c d → NoneBack others c d
  none_back c d apart h a b i j k = h a b i j ((same a b (λ e. apart b j (subst (λ z. IsMember z d) e i))).1 k)

  may_come : (left : List (List ℕ)) (c : List ℕ) → MayComeNext others left c → MayComeNext pairs left c
  may_come left c h a b i j k = by (cases_eq a b)
    where
      by : (a ≡ b) ⊎ (a ≡ b → ⊥) → IsMember a c
      by (inl e) = subst (λ z. IsMember z c) (sym e) j
      by (inr d) = h a b i j ((same a b d).0 k)

  least_first : (cs : List (List ℕ)) → LeastFirst pairs cs → LeastFirst others cs
  least_first [] h = tt
  least_first (c ∷ cs) h = (
    Each-weaker (λ d. MayComeNext pairs (c ∷ cs) d → HasLess c d) (λ d. MayComeNext others (c ∷ cs) d → HasLess c d) cs (λ d i f m. f (may_come (c ∷ cs) d m)) h.0,
    least_first cs h.1,
  )

  In-front : (a : ℕ) (c rest : List ℕ) → IsMember a c → IsMember a (c ++ rest)
  In-front a [] rest i = absurd i
  In-front a (x ∷ c) rest (inl e) = inl e
  In-front a (x ∷ c) rest (inr i) = inr (In-front a c rest i)

  In-back : (a : ℕ) (c rest : List ℕ) → IsMember a rest → IsMember a (c ++ rest)
  In-back a [] rest i = i
  In-back a (x ∷ c) rest i = inr (In-back a c rest i)

  In-concat : (a : ℕ) (d : List ℕ) (cs : List (List ℕ)) → IsMember d cs → IsMember a d → IsMember a (concat cs)
  In-concat a d [] i j = absurd i
  In-concat a d (c ∷ cs) (inl e) j = In-front a c (concat cs) (subst (IsMember a) e j)
  In-concat a d (c ∷ cs) (inr i) j = In-back a c (concat cs) (In-concat a d cs i j)

  Each-at : {X : Type 0} (P : X → Type 0) (xs : List X) → Each P xs → (x : X) → IsMember x xs → P x
  Each-at P [] h x i = absurd i
  Each-at P (y ∷ ys) h x (inl e) = subst P (sym e) h.0
  Each-at P (y ∷ ys) h x (inr i) = Each-at P ys h.1 x i

  apart : (c rest : List ℕ) → Distinct (c ++ rest) → (a : ℕ) → IsMember a c → IsMember a rest → ⊥
  apart [] rest d a i j = absurd i
  apart (x ∷ c) rest d a (inl e) j = Each-at (λ y. ¬ (x ≡ y)) (c ++ rest) d.0 a (In-back a c rest j) (sym e)
  apart (x ∷ c) rest d a (inr i) j = apart c rest d.1 a i j

  rest_distinct : (c rest : List ℕ) → Distinct (c ++ rest) → Distinct rest
  rest_distinct [] rest d = d
  rest_distinct (x ∷ c) rest d = rest_distinct c rest d.1

  forward : (cs : List (List ℕ)) → Distinct (concat cs) → Pairwise (NoneBack pairs) cs → Pairwise (NoneBack others) cs
  forward [] d h = tt
  forward (c ∷ cs) d h = (
    Each-weaker (NoneBack pairs c) (NoneBack others c) cs (λ e i f. none_back c e (λ a j k. apart c (concat cs) d a j (In-concat a e cs i k)) f) h.0,
    forward cs (rest_distinct c (concat cs) d) h.1,
  )

pub own_pairs_change_no_order : OwnPairsChangeNoOrder
own_pairs_change_no_order n pairs others cs same o = record {
  members = o.members;
  once = o.once;
  filled = o.filled;
  rising = o.rising;
  components = Each-weaker (IsComponent pairs) (IsComponent others) cs (λ c i h. component pairs others same c h) o.components;
  forward = forward pairs others same cs o.once o.forward;
  least_first = least_first pairs others same cs o.least_first;
}
