-- Lists of actions, one after another.
use Rattle.std.proofs.Common.{◌≡◌, sym, ap, subst, ◌∙◌, List, [], ◌∷◌, ◌++◌, Result, Ok, Err}
use Rattle.nest_order.specs.orders.Orders.{and_then, runs}

pub ok_same : {S F : Type 0} (s t : S) → ◌≡◌ {A = Result S F} (Ok s) (Ok t) → s ≡ t
ok_same s t e = cc

pub runs-append : {S A F : Type 0} (step : A → S → Result S F) (xs ys : List A) (s t u : S) → runs step xs s ≡ Ok t → runs step ys t ≡ Ok u → runs step (xs ++ ys) s ≡ Ok u
runs-append {S} {A} {F} step [] ys s t u e f = subst (λ z. runs step ys z ≡ Ok u) (sym (ok_same {F = F} s t e)) f
runs-append {S} {A} {F} step (x ∷ xs) ys s t u e f = by (step x s) e (λ m g. runs-append step xs ys m t u g f)
  where
    by : (r : Result S F) → and_then r (runs step xs) ≡ Ok t → ((m : S) → runs step xs m ≡ Ok t → runs step (xs ++ ys) m ≡ Ok u) → and_then r (runs step (xs ++ ys)) ≡ Ok u
    by (Ok m) e more = more m e
    by (Err g) e more = cc

-- the first and then the others
pub runs-first : {S A F : Type 0} (step : A → S → Result S F) (x : A) (xs : List A) (s t u : S) → step x s ≡ Ok t → runs step xs t ≡ Ok u → runs step (x ∷ xs) s ≡ Ok u
runs-first {S} {A} {F} step x xs s t u e f = ap (λ (r : Result S F). and_then r (runs step xs)) e ∙ f

pub runs-one : {S A F : Type 0} (step : A → S → Result S F) (x : A) (s t : S) → step x s ≡ Ok t → runs step (x ∷ []) s ≡ Ok t
runs-one {S} {A} {F} step x s t e = ap (λ (r : Result S F). and_then r (runs step [])) e
