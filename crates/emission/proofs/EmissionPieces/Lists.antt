-- Searches of lists.
use Rattle.std.proofs.Common.{◌≡◌, Bool, true, false, ◌&&◌, ◌||◌, List, [], ◌∷◌, inl, inr, refl, sym, ap, ◌∙◌}
use Rattle.std.specs.List.{list_any}
use Rattle.components.specs.Lists.{IsMember}

pub any_in : {X : Type 0} (p : X → Bool) (xs : List X) → list_any p xs ≡ true → (x : X) × IsMember x xs × (p x ≡ true)
any_in p [] h = cc
any_in p (x ∷ xs) h = by (p x) refl h (any_in p xs)
  where
    by : (b : Bool) → p x ≡ b → (b || list_any p xs) ≡ true
        → (list_any p xs ≡ true → (y : _) × IsMember y xs × (p y ≡ true)) → (y : _) × IsMember y (x ∷ xs) × (p y ≡ true)
    by true e g among = (x, inl refl, e)
    by false e g among = let r = among g in (r.0, inr r.1, r.2)

pub in_any : {X : Type 0} (p : X → Bool) (xs : List X) (x : X) → IsMember x xs → p x ≡ true → list_any p xs ≡ true
in_any p [] x h e = absurd h
in_any p (y ∷ xs) x (inl g) e = ap (λ b. b || list_any p xs) (ap p (sym g) ∙ e)
in_any p (y ∷ xs) x (inr h) e = by (p y) (in_any p xs x h e)
  where
    by : (b : Bool) → list_any p xs ≡ true → (b || list_any p xs) ≡ true
    by true g = refl
    by false g = g

pub both_true : (b c : Bool) → (b && c) ≡ true → (b ≡ true) × (c ≡ true)
both_true true c h = (refl, h)
both_true false c h = cc
