-- The symbols of a form: a symbol in each place that is used, in rising order.
use Rattle.std.proofs.Common.{◌≡◌, ◌≢◌, ◌⊎◌, ℕ, ◌+◌, ◌-◌, ◌<◌, ◌≤◌, List, length, map, take, drop, get_or, inl, inr, sym, ap, subst, ◌∙◌, arith}
use Rattle.std.specs.Prelude.{All, ℤ, pos, slice_index}
use Rattle.std.specs.List.Sorted.{IsStrictlyIncreasing}
use Rattle.std.proofs.lemmas.Bool.{cases_lt}
use Rattle.std.proofs.lemmas.List.{drop_all, get_or-drop, get_or-map, get_or-take, length-drop, length-map, length-take-le, take_all}
use Rattle.std.proofs.lemmas.List.Elements.{All-from_get_or}
use Rattle.subscripts.specs.Shapes.{AreSymbols}

pub rises : (ts : List (ℕ × ℤ)) (n : ℕ) → length ts ≤ n → ((k : ℕ) → k + 1 < n → (get_or ts k (0, pos 0)).0 < (get_or ts (k + 1) (0, pos 0)).0)
    → (k : ℕ) → k + 1 < length (map (λ t. t.0) ts) → slice_index (map (λ t. t.0) ts) k < slice_index (map (λ t. t.0) ts) (k + 1)
rises ts n l h k m =
    let e : length (map (λ t. t.0) ts) ≡ length ts = simp length-map in
    let a : get_or (map (λ t. t.0) ts) k 0 ≡ (get_or ts k (0, pos 0)).0 = get_or-map (λ t. t.0) ts k (0, pos 0) 0 (omega arith) in
    let b : get_or (map (λ t. t.0) ts) (k + 1) 0 ≡ (get_or ts (k + 1) (0, pos 0)).0 = get_or-map (λ t. t.0) ts (k + 1) (0, pos 0) 0 (omega arith) in
    let c = h k (omega arith) in
    omega arith

pub stops : (ts : List (ℕ × ℤ)) (k i : ℕ) → k + 1 ≡ i → i < length ts → (get_or ts i (0, pos 0)).0 ≤ (get_or ts k (0, pos 0)).0
    → ((j : ℕ) → j + 1 < length (map (λ t. t.0) ts) → slice_index (map (λ t. t.0) ts) j < slice_index (map (λ t. t.0) ts) (j + 1)) → ⊥
stops ts k i s l g h =
    let e : length (map (λ t. t.0) ts) ≡ length ts = simp length-map in
    let a : get_or (map (λ t. t.0) ts) k 0 ≡ (get_or ts k (0, pos 0)).0 = get_or-map (λ t. t.0) ts k (0, pos 0) 0 (omega arith) in
    let b : get_or (map (λ t. t.0) ts) (k + 1) 0 ≡ (get_or ts (k + 1) (0, pos 0)).0 = get_or-map (λ t. t.0) ts (k + 1) (0, pos 0) 0 (omega arith) in
    let f : (get_or ts (k + 1) (0, pos 0)).0 ≡ (get_or ts i (0, pos 0)).0 = ap (λ m. (get_or ts m (0, pos 0)).0) s in
    let q = h k (omega arith) in
    omega arith

-- the places that are used are those before the first coefficient 0
before : (ts : List (ℕ × ℤ)) (i u : ℕ) → i < u → u ≤ length ts → (get_or ts i (0, pos 0)).1 ≡ pos 0 → AreSymbols u ts → ⊥
before ts i u l m z h =
    h.nonzero i (0, pos 0) (let e = length-take-le u ts m in omega arith) (ap (λ (t : ℕ × ℤ). t.1) (get_or-take u ts i (0, pos 0) l) ∙ z)

before_all : (ts : List (ℕ × ℤ)) (i u : ℕ) → i < length ts → length ts ≤ u → (get_or ts i (0, pos 0)).1 ≡ pos 0 → AreSymbols u ts → ⊥
before_all ts i u l m z h =
    h.nonzero i (0, pos 0) (subst (λ (xs : List (ℕ × ℤ)). i < length xs) (sym (take_all u ts m)) l) (ap (λ (xs : List (ℕ × ℤ)). (get_or xs i (0, pos 0)).1) (take_all u ts m) ∙ z)

after : (ts : List (ℕ × ℤ)) (i u : ℕ) → u < i → i ≤ length ts → ((k : ℕ) → k < i → (get_or ts k (0, pos 0)).1 ≢ pos 0) → AreSymbols u ts → ⊥
after ts i u l m n h =
    let e = length-drop u ts in
    let f : u + 0 ≡ u = omega arith in
    let d : (get_or (drop u ts) 0 (0, pos 0)).1 ≡ (get_or ts u (0, pos 0)).1 =
    ap (λ (t : ℕ × ℤ). t.1) (get_or-drop u ts 0 (0, pos 0)) ∙ ap (λ j. (get_or ts j (0, pos 0)).1) f in
    n u l (sym d ∙ (h.unused 0 (0, pos 0) (omega arith)).1)

all_used : (ts : List (ℕ × ℤ)) (i u : ℕ) → length ts ≤ i → length ts ≤ u → AreSymbols u ts → AreSymbols i ts
all_used ts i u l m h =
    let t : take u ts ≡ take i ts = take_all u ts m ∙ sym (take_all i ts l) in
    let d : drop u ts ≡ drop i ts = drop_all u ts m ∙ sym (drop_all i ts l) in
    record {
      rising = subst (λ (xs : List (ℕ × ℤ)). IsStrictlyIncreasing (map (λ t. t.0) xs)) t h.rising;
      nonzero = subst (λ (xs : List (ℕ × ℤ)). All (λ t. t.1 ≢ pos 0) xs) t h.nonzero;
      unused = subst (λ (xs : List (ℕ × ℤ)). All (λ t. (t.0 ≡ 0) × (t.1 ≡ pos 0)) xs) d h.unused;
    }

up_to : (ts : List (ℕ × ℤ)) (i u : ℕ) → i ≤ u → i ≤ length ts → (i < length ts → (get_or ts i (0, pos 0)).1 ≡ pos 0) → AreSymbols u ts
    → (i < length ts) ⊎ (length ts ≤ i) → (u < length ts) ⊎ (length ts ≤ u) → (i < u) ⊎ (u ≤ i) → AreSymbols i ts
up_to ts i u l m z h (inr a) b c = all_used ts i u a (omega arith) h
up_to ts i u l m z h (inl a) (inr b) c = absurd (before_all ts i u a b (z a) h)
up_to ts i u l m z h (inl a) (inl b) (inl c) = absurd (before ts i u c (omega arith) (z a) h)
up_to ts i u l m z h (inl a) (inl b) (inr c) = let e : u ≡ i = omega arith in subst (λ j. AreSymbols j ts) e h

either_side : (ts : List (ℕ × ℤ)) (i u : ℕ) → i ≤ length ts → ((k : ℕ) → k < i → (get_or ts k (0, pos 0)).1 ≢ pos 0) → (i < length ts → (get_or ts i (0, pos 0)).1 ≡ pos 0)
    → AreSymbols u ts → (u < i) ⊎ (i ≤ u) → AreSymbols i ts
either_side ts i u m n z h (inl l) = absurd (after ts i u l m n h)
either_side ts i u m n z h (inr l) = up_to ts i u l m z h (cases_lt i (length ts)) (cases_lt u (length ts)) (cases_lt i u)

rest_is : (ts : List (ℕ × ℤ)) (i : ℕ) → take (length ts - i) (drop i ts) ≡ drop i ts
rest_is ts i = take_all (length ts - i) (drop i ts) (let e = length-drop i ts in omega arith)

used_are : (ts : List (ℕ × ℤ)) (i : ℕ) → i ≤ length ts → ((k : ℕ) → k < i → (get_or ts k (0, pos 0)).1 ≢ pos 0) → All (λ t. t.1 ≢ pos 0) (take i ts)
used_are ts i m f =
    All-from_get_or (λ t. t.1 ≢ pos 0) (take i ts) (0, pos 0)
    (λ k l z. let e = length-take-le i ts m in let h : k < i = omega arith in f k h (sym (ap (λ (t : ℕ × ℤ). t.1) (get_or-take i ts k (0, pos 0) h)) ∙ z))

-- with the places that are used those before the first coefficient 0
pub symbols_are : (ts : List (ℕ × ℤ)) (i : ℕ) → i ≤ length ts → ((k : ℕ) → k < i → (get_or ts k (0, pos 0)).1 ≢ pos 0) → IsStrictlyIncreasing (map (λ t. t.0) (take i ts))
    → All (λ t. (t.0 ≡ 0) × (t.1 ≡ pos 0)) (take (length ts - i) (drop i ts)) → (used : ℕ) × AreSymbols used ts
symbols_are ts i m f p q =
    (i, record { rising = p; nonzero = used_are ts i m f; unused = subst (λ (xs : List (ℕ × ℤ)). All (λ t. (t.0 ≡ 0) × (t.1 ≡ pos 0)) xs) (rest_is ts i) q })

pub only_symbols : (ts : List (ℕ × ℤ)) (i : ℕ) → i ≤ length ts → ((k : ℕ) → k < i → (get_or ts k (0, pos 0)).1 ≢ pos 0) → (i < length ts → (get_or ts i (0, pos 0)).1 ≡ pos 0)
    → ((used : ℕ) × AreSymbols used ts) → IsStrictlyIncreasing (map (λ t. t.0) (take i ts)) × All (λ t. (t.0 ≡ 0) × (t.1 ≡ pos 0)) (take (length ts - i) (drop i ts))
only_symbols ts i m f z h =
    let a = either_side ts i h.0 m f z h.1 (cases_lt h.0 i) in
    (a.rising, subst (λ (xs : List (ℕ × ℤ)). All (λ t. (t.0 ≡ 0) × (t.1 ≡ pos 0)) xs) (sym (rest_is ts i)) a.unused)
