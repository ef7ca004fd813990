-- What a result without fault has gone through, and lists of actions.
use Rattle.std.proofs.Common.{◌≡◌, refl, sym, ap, ◌∙◌, subst, inl, inr, true, false, List, [], ◌∷◌, ◌++◌, map, Result, Ok, Err}
use Rattle.std.specs.List.{AllByRecursion}
use Rattle.tree.specs.Steps.{◌>>=◌}
use Rattle.tree.specs.declared.ops.Fault.{Fault}
use Rattle.nest_order.specs.orders.Lists.{In}
use Rattle.nest_order.specs.orders.Orders.{and_then, runs}

pub ok_same : {S F : Type 0} (s t : S) → ◌≡◌ {A = Result S F} (Ok s) (Ok t) → s ≡ t
ok_same s t e = cc

pub true_false : true ≡ false → ⊥
true_false e = cc

-- both steps had an answer
pub both_ok : {A B : Type 0} (r : Result A Fault) (k : A → Result B Fault) (b : B) → (r >>= k) ≡ Ok b → (a : A) × (r ≡ Ok a) × (k a ≡ Ok b)
both_ok (Ok a) k b e = (a, refl, e)
both_ok (Err f) k b e = cc

pub after_ok : {A B : Type 0} (r : Result A Fault) (k : A → Result B Fault) (a : A) → r ≡ Ok a → (r >>= k) ≡ k a
after_ok r k a e = ap (λ q. q >>= k) e

pub each_of : {X : Type 0} (P : X → Type 0) (xs : List X) → ((x : X) → In x xs → P x) → AllByRecursion P xs
each_of P [] h = tt
each_of P (x ∷ xs) h = (h x (inl refl), each_of P xs (λ y i. h y (inr i)))

-- ---- runs of lists

pub runs-append : {S A F : Type 0} (step : A → S → Result S F) (xs ys : List A) (s t u : S) → runs step xs s ≡ Ok t → runs step ys t ≡ Ok u → runs step (xs ++ ys) s ≡ Ok u
runs-append {S} {A} {F} step [] ys s t u e f = subst (λ z. runs step ys z ≡ Ok u) (sym (ok_same {F = F} s t e)) f
runs-append {S} {A} {F} step (x ∷ xs) ys s t u e f = by (step x s) e (λ m g. runs-append step xs ys m t u g f)
  where
    by : (r : Result S F) → and_then r (runs step xs) ≡ Ok t → ((m : S) → runs step xs m ≡ Ok t → runs step (xs ++ ys) m ≡ Ok u) → and_then r (runs step (xs ++ ys)) ≡ Ok u
    by (Ok m) e more = more m e
    by (Err g) e more = cc

pub runs-map : {S A B F : Type 0} (step : B → S → Result S F) (next : A → S → Result S F) (f : A → B) (xs : List A) (s : S) → ((x : A) (s : S) → step (f x) s ≡ next x s) → runs step (map f xs) s ≡ runs next xs s
runs-map step next f [] s h = refl
runs-map {S} {A} {B} {F} step next f (x ∷ xs) s h = ap (λ r. and_then r (runs step (map f xs))) (h x s) ∙ by (next x s) (λ m. runs-map step next f xs m h)
  where
    by : (r : Result S F) → ((m : S) → runs step (map f xs) m ≡ runs next xs m) → and_then r (runs step (map f xs)) ≡ and_then r (runs next xs)
    by (Ok m) more = more m
    by (Err g) more = refl

pub runs-split : {S A F : Type 0} (step : A → S → Result S F) (xs ys : List A) (s u : S) → runs step (xs ++ ys) s ≡ Ok u → (t : S) × (runs step xs s ≡ Ok t) × (runs step ys t ≡ Ok u)
runs-split step [] ys s u e = (s, refl, e)
runs-split {S} {A} {F} step (x ∷ xs) ys s u e = by (step x s) e (λ m f. runs-split step xs ys m u f)
  where
    by : (r : Result S F) → and_then r (runs step (xs ++ ys)) ≡ Ok u → ((m : S) → runs step (xs ++ ys) m ≡ Ok u → (t : S) × (runs step xs m ≡ Ok t) × (runs step ys t ≡ Ok u))
        → (t : S) × (and_then r (runs step xs) ≡ Ok t) × (runs step ys t ≡ Ok u)
    by (Ok m) e more = more m e
    by (Err g) e more = cc
