-- Whether words are left.
use Rattle.std.proofs.Common.{arith, ◌≡◌, ◌<◌, ◌==◌, Bool, true, false, List, [], ◌∷◌, length, refl}
use Rattle.std.specs.Prelude.{IsTrue, ◌↔◌}
use Rattle.f90_expressions.specs.words.Tokens.{words_of}
use Rattle.f90_expressions.specs.declared.words.tokens.Token.{Token}

pub some_left : (ts : List Token) (b : Bool) → b ≡ (length ts == 0) → b ≡ false → words_of ts ≡ [] → ⊥
some_left [] b h k e = cc
some_left (t ∷ ts) b h k e = cc

pub some_in : {A : Type 0} (xs : List A) (b : Bool) → (IsTrue b ↔ (xs ≡ [])) → b ≡ false → 0 < length xs
some_in [] b h k = let t : b ≡ true = h.1 refl in absurd (cc)
some_in (x ∷ xs) b h k = omega arith

pub denied : {P : Type 0} (b : Bool) → (IsTrue b ↔ P) → b ≡ false → P → ⊥
denied true h k p = cc
denied false h k p = let t : false ≡ true = h.1 p in cc

pub told : {P : Type 0} (b : Bool) → (IsTrue b ↔ P) → b ≡ true → P
told b h k = h.0 k
