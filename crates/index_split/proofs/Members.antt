-- Members of a list, by their places.
use Rattle.std.proofs.Common.{◌≡◌, inl, inr, sym, ℕ, zero, suc, ◌<◌, List, [], ◌∷◌, length, get_or, Contains, arith}
use Rattle.components.specs.Lists.{IsMember}

pub contains_in : (x : ℕ) (xs : List ℕ) → Contains xs x → IsMember x xs
contains_in x xs h = at xs h.0 h.1 h.2
  where
    at : (ys : List ℕ) (k : ℕ) → k < length ys → get_or ys k x ≡ x → IsMember x ys
    at [] k l e = absurd (omega (arith, l))
    at (y ∷ ys) zero l e = inl (sym e)
    at (y ∷ ys) (suc k) l e = inr (at ys k (omega (arith, l)) e)

pub in_contains : (x : ℕ) (xs : List ℕ) → IsMember x xs → Contains xs x
in_contains x [] h = absurd h
in_contains x (y ∷ ys) (inl e) = (0, omega arith, sym e)
in_contains x (y ∷ ys) (inr i) = let h = in_contains x ys i in let l = h.1 in (suc h.0, omega (arith, l), h.2)
