-- Answers of steps, one after the other, and of a list's elements in turn.
use Rattle.std.proofs.Common.{◌≡◌, refl, sym, ap, ◌∙◌, subst, zero, suc, ℕ, ◌+◌, ◌-◌, ◌<◌, ◌≤◌, List, [], ◌∷◌, ◌++◌, map, drop, length, get_or, Result, Ok, Err, arith, append_assoc}
use Rattle.std.proofs.lemmas.List.{append-nil, at_drop_more, at_drop_all}
use Rattle.std.proofs.Common.{ℤ, SFits, to_z, of_z}
use Rattle.std.specs.Int.{w128}
use Rattle.std.proofs.lemmas.Int.{to_z-of_z}
use Rattle.std.specs.Prelude.{All}
use Rattle.std.specs.Result.{IsErrAnd}
use Rattle.tree.specs.Steps.{◌>>=◌}
use Rattle.tree.specs.declared.ops.Fault.{Fault}
use Rattle.meaning.specs.ArrayValues.{each, counted}
use Rattle.array_values.specs.declared.failure.Failure.{Failure}
use Rattle.array_values.specs.declared.failure.Failure.TheVariants as failure
use Rattle.array_values.specs.Answers.{Answers}

-- the first step has failed
pub fails : {A B C D : Type 0} (view : C → A) (other : D → B) (q : Result A Fault) (k : A → Result B Fault) (e : Failure)
    → Answers view q (Err e) → Answers other (q >>= k) (Err e)
fails view other q k (failure.Fault f) h = ap (λ r. r >>= k) h
fails view other q k failure.Memory h = tt

-- the first step has given this
pub goes : {A B D : Type 0} (other : D → B) (q : Result A Fault) (k : A → Result B Fault) (x : A) (r : Result D Failure)
    → q ≡ Ok x → Answers other (k x) r → Answers other (q >>= k) r
goes other q k x r e h = subst (λ q. Answers other (q >>= k) r) (sym e) h

-- the answer to an equal question
pub same : {A B : Type 0} (view : B → A) (p q : Result A Fault) (r : Result B Failure) → p ≡ q → Answers view q r → Answers view p r
same view p q r e h = subst (λ q. Answers view q r) (sym e) h

-- ---- a list's elements in turn

-- what f gives for each, where those before have given `done`
unfoldable pub left_of : {A B : Type 0} → (A → Result B Fault) → List B → List A → Result (List B) Fault
left_of f done xs = do
  ys ← each f xs
  Ok (done ++ ys)

module _ {A B : Type 0} (f : A → Result B Fault) where
  pub left_begun : (xs : List A) → each f xs ≡ left_of f [] xs
  unfolding left_of
  left_begun xs = by (each f xs)
    where
      by : (q : Result (List B) Fault) → q ≡ (q >>= λ ys. Ok ([] ++ ys))
      by (Ok ys) = refl
      by (Err e) = refl

  pub left_done : (done : List B) → left_of f done [] ≡ Ok done
  unfolding left_of
  left_done done = ap (λ ys. let r : Result (List B) Fault = Ok ys in r) (append-nil done)

  pub left_fault : (done : List B) (x : A) (xs : List A) (e : Fault) → f x ≡ Err e → left_of f done (x ∷ xs) ≡ Err e
  unfolding left_of
  left_fault done x xs e h = ap (λ (r : Result B Fault). do ys ← (do y ← r; ys ← each f xs; Ok (y ∷ ys)); Ok (done ++ ys)) h

  pub left_more : (done : List B) (x : A) (xs : List A) (y : B) → f x ≡ Ok y → left_of f done (x ∷ xs) ≡ left_of f (done ++ y ∷ []) xs
  unfolding left_of
  left_more done x xs y h =
      ap (λ (r : Result B Fault). do ys ← (do y ← r; ys ← each f xs; Ok (y ∷ ys)); Ok (done ++ ys)) h
      ∙ by (each f xs)
    where
      by : (q : Result (List B) Fault) → ◌≡◌ {A = Result (List B) Fault} (do ys ← (do ys ← q; Ok (y ∷ ys)); Ok (done ++ ys)) (do ys ← q; Ok ((done ++ y ∷ []) ++ ys))
      by (Ok ys) = ap (λ ys. let r : Result (List B) Fault = Ok ys in r) (sym (append_assoc done (y ∷ []) ys))
      by (Err e) = refl

pub counted_more : (k n : ℕ) → k < n → counted k (n - k) ≡ k ∷ counted (k + 1) (n - (k + 1))
counted_more k n h = ap (counted k) (let e : n - k ≡ suc (n - (k + 1)) = omega arith in e)

pub counted_none : (k n : ℕ) → n ≤ k → counted k (n - k) ≡ []
counted_none k n h = ap (counted k) (let e : n - k ≡ 0 = omega arith in e)

-- what `?` gives where it leaves a function with the same error
pub residual : {A E : Type 0} {r : Result A E} {e : E} → IsErrAnd r (λ x. x ≡ e) → r ≡ Err e
residual {r = Ok x} h = absurd h
residual {r = Err x} h = ap (λ y. let q = Err y in q) h

-- the same for the numbers below n, at their places
module _ {A B : Type 0} (f : A → Result B Fault) (p : ℕ → A) (n : ℕ) where
  pub places_begun : (m : ℕ) → m ≡ n → each f (map p (counted 0 m)) ≡ left_of f [] (map p (counted 0 (n - 0)))
  places_begun m e = left_begun f (map p (counted 0 m)) ∙ ap (λ k. left_of f [] (map p (counted 0 k))) (let h : m ≡ n - 0 = omega arith in h)

  module _ (whole : Result (List B) Fault) (done : List B) (k : ℕ) (so_far : whole ≡ left_of f done (map p (counted k (n - k)))) where
    pub places_fault : (e : Fault) → k < n → f (p k) ≡ Err e → whole ≡ Err e
    places_fault e l h = so_far ∙ ap (λ ks. left_of f done (map p ks)) (counted_more k n l) ∙ left_fault f done (p k) (map p (counted (k + 1) (n - (k + 1)))) e h

    pub places_more : (y : B) → k < n → f (p k) ≡ Ok y → whole ≡ left_of f (done ++ y ∷ []) (map p (counted (k + 1) (n - (k + 1))))
    places_more y l h = so_far ∙ ap (λ ks. left_of f done (map p ks)) (counted_more k n l) ∙ left_more f done (p k) (map p (counted (k + 1) (n - (k + 1)))) y h

    pub places_done : n ≤ k → whole ≡ Ok done
    places_done l = so_far ∙ ap (λ ks. left_of f done (map p ks)) (counted_none k n l) ∙ left_done f done

-- the same for a list from a place in it on
module _ {A B : Type 0} (f : A → Result B Fault) (whole : Result (List B) Fault) (done : List B) (xs : List A) (i : ℕ) (so_far : whole ≡ left_of f done (drop i xs)) where
  pub list_fault : (d : A) (e : Fault) → i < length xs → f (get_or xs i d) ≡ Err e → whole ≡ Err e
  list_fault d e l k = so_far ∙ at_drop_more (left_of f done) xs i d l ∙ left_fault f done (get_or xs i d) (drop (i + 1) xs) e k

  pub list_more : (d : A) (y : B) → i < length xs → f (get_or xs i d) ≡ Ok y → whole ≡ left_of f (done ++ y ∷ []) (drop (i + 1) xs)
  list_more d y l k = so_far ∙ at_drop_more (left_of f done) xs i d l ∙ left_more f done (get_or xs i d) (drop (i + 1) xs) y k

  pub list_done : length xs ≤ i → whole ≡ Ok done
  list_done l = so_far ∙ at_drop_all (left_of f done) xs i l ∙ left_done f done

-- a number of 128 bits, written and read back
pub settled : (z : ℤ) → SFits w128 z → to_z w128 (of_z w128 z) ≡ z
settled z h = to_z-of_z w128 z h

pub all_of_one : {A : Type 0} (P : A → Type 0) (x : A) → P x → All P (x ∷ [])
all_of_one P x p zero d h = p
all_of_one P x p (suc k) d h = absurd (omega arith)
