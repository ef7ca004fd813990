-- What is known of an answer, be it a value or a fault.
use Rattle.std.proofs.Common.{◌≡◌, refl, subst, List, [], ◌∷◌, Result, Ok, Err}
use Rattle.std.specs.List.{AllByRecursion}
use Rattle.tree.specs.Steps.{◌>>=◌}
use Rattle.tree.specs.declared.ops.Fault.{Fault}
use Rattle.meaning.specs.ArrayValues.{each}

-- a value has P, a fault has F
abbrev pub Answers : {A : Type 0} → (Fault → Type 0) → (A → Type 0) → Result A Fault → Type 0
Answers F P (Ok x) = P x
Answers F P (Err f) = F f

abbrev pub AnyFault : Fault → Type 0
AnyFault f = Unit {0}

abbrev pub AnyValue : {A : Type 0} → A → Type 0
AnyValue x = Unit {0}

pub all_any : {A : Type 0} → (xs : List A) → AllByRecursion AnyValue xs
all_any [] = tt
all_any (x ∷ xs) = (tt, all_any xs)

module _ (F : Fault → Type 0) where
  pub behind : {A B : Type 0} (P : A → Type 0) (Q : B → Type 0) (r : Result A Fault) (f : A → Result B Fault) → Answers F P r → ((x : A) → P x → Answers F Q (f x)) → Answers F Q (r >>= f)
  behind P Q (Ok x) f h k = k x h
  behind P Q (Err g) f h k = h

  pub weaker : {A : Type 0} (P Q : A → Type 0) (r : Result A Fault) → ((x : A) → P x → Q x) → Answers F P r → Answers F Q r
  weaker P Q (Ok x) k h = k x h
  weaker P Q (Err g) k h = h

  -- where there is a value
  pub value : {A : Type 0} (P : A → Type 0) (r : Result A Fault) (x : A) → Answers F P r → r ≡ Ok x → P x
  value P r x h e = subst (Answers F P) e h

  -- where there is a fault
  pub fault : {A : Type 0} (P : A → Type 0) (r : Result A Fault) (g : Fault) → Answers F P r → r ≡ Err g → F g
  fault P r g h e = subst (Answers F P) e h

  pub known : {A : Type 0} (P : A → Type 0) (r : Result A Fault) → ((x : A) → r ≡ Ok x → P x) → ((g : Fault) → r ≡ Err g → F g) → Answers F P r
  known P (Ok x) h k = h x refl
  known P (Err g) h k = k g refl

  pub each_answers : {A B : Type 0} (P : A → Type 0) (Q : B → Type 0) (f : A → Result B Fault) (xs : List A) → ((x : A) → P x → Answers F Q (f x)) → AllByRecursion P xs → Answers F (AllByRecursion Q) (each f xs)
  each_answers P Q f [] h k = tt
  each_answers P Q f (x ∷ xs) h k =
      behind Q (AllByRecursion Q) (f x) (λ y. do ys ← each f xs; Ok (y ∷ ys)) (h x k.0) (λ y q.
      behind (AllByRecursion Q) (AllByRecursion Q) (each f xs) (λ ys. Ok (y ∷ ys)) (each_answers P Q f xs h k.1) (λ ys qs. (q, qs)))
