-- The DO variables of loops, each with the place at which the last of its loops ends.
use Rattle.std.proofs.Common.{◌≡◌, ℕ, Bool, true, false, cond, Option, Some, None, List, refl, sym, ap, ◌∙◌}
use Rattle.std.specs.Str.{bytes_eq}
use Rattle.std.proofs.lemmas.Slice.Eq.{bytes_eq-Decides}
use Rattle.f77_structure.specs.jumps.Targets.{later}

pub later_none : (o : Option ℕ) → later o None ≡ o
later_none None = refl
later_none (Some k) = refl

same_bytes : (x : List ℕ) → bytes_eq x x ≡ true
same_bytes x = (bytes_eq-Decides x x).1 refl

pub bytes_turned : (x y : List ℕ) → bytes_eq x y ≡ bytes_eq y x
bytes_turned x y = cases (bytes_eq x y) (bytes_eq y x) (bytes_eq-Decides x y).0 (bytes_eq-Decides y x).0 (bytes_eq-Decides x y).1 (bytes_eq-Decides y x).1
  where
    cases : (a b : Bool) → (a ≡ true → x ≡ y) → (b ≡ true → y ≡ x) → (x ≡ y → a ≡ true) → (y ≡ x → b ≡ true) → a ≡ b
    cases true true f g h k = refl
    cases false false f g h k = refl
    cases true false f g h k = sym (k (sym (f refl)))
    cases false true f g h k = h (sym (g refl))

-- the last place of the name, and so of each name with its bytes, becomes that of the loop if it is later
pub put_later : (old new : List ℕ → Option ℕ) (name : List ℕ) (end : Option ℕ) (last : ℕ) → Some last ≡ later (old name) end
    → ((x : List ℕ) → new x ≡ cond (bytes_eq name x) (Some last) (old x)) → (x : List ℕ) → new x ≡ later (old x) (cond (bytes_eq x name) end None)
put_later old new name end last e h x = h x ∙ ap (λ b. cond b (Some last) (old x)) (bytes_turned name x) ∙ cases (bytes_eq x name) (bytes_eq-Decides x name).0
  where
    cases : (b : Bool) → (b ≡ true → x ≡ name) → cond b (Some last) (old x) ≡ later (old x) (cond b end None)
    cases true f = e ∙ ap (λ y. later (old y) end) (sym (f refl))
    cases false f = sym (later_none (old x))

pub put_nothing : (old : List ℕ → Option ℕ) (name : List ℕ) (end : Option ℕ) → None ≡ later (old name) end → (x : List ℕ) → old x ≡ later (old x) (cond (bytes_eq x name) end None)
put_nothing old name end e x = cases (bytes_eq x name) (bytes_eq-Decides x name).0
  where
    nothing : (a b : Option ℕ) → None ≡ later a b → a ≡ later a b
    nothing None b e = e
    nothing (Some i) None e = refl
    nothing (Some i) (Some j) e = cc

    cases : (b : Bool) → (b ≡ true → x ≡ name) → old x ≡ later (old x) (cond b end None)
    cases true f = nothing (old x) end (e ∙ ap (λ y. later (old y) end) (sym (f refl)))
    cases false f = sym (later_none (old x))

pub ruleset last_laws = (put_later, put_nothing, later_none)
