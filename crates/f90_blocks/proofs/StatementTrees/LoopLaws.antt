-- Going over what was read, from the first to the last.
use Rattle.std.proofs.Common.{arith, zero, suc, ◌≡◌, ◌+◌, ◌<◌, ◌≤◌, ℕ, List, [], ◌∷◌, ◌++◌, drop, length, get_or, ap}
use Rattle.std.proofs.Common.{refl, sym, subst, ◌∙◌, append-nil, append_assoc}
use Rattle.std.specs.List.{AllByRecursion}
use Rattle.std.proofs.lemmas.List.{drop_more, drop_all}
use Rattle.f90_statement.specs.Views.{AreOf}
use Rattle.f90_blocks.specs.statement_trees.Results.{IsOf}

module _ {A B : Type 0} (is : A → B → Type 0) where
  -- the first i are done, of which that holds
  pub record IsUpTo (holds : List B → Type 0) (xs : List A) (i : ℕ) (all : List B) : Type 0 where
    pub done : List B
    pub rest : List B
    pub same : all ≡ done ++ rest
    pub are : AreOf is (drop i xs) rest
    pub held : holds done

  pub begun : (holds : List B → Type 0) (xs : List A) (all : List B) → AreOf is xs all → holds []
      → IsUpTo holds xs 0 all
  begun holds xs all a h = record { done = []; rest = all; same = refl; are = a; held = h }

  pub passed : (holds next : List B → Type 0) (xs : List A) (i : ℕ) (x : A) (all : List B) → i < length xs
      → get_or xs i x ≡ x
      → ((done : List B) (b : B) → is x b → holds done → next (done ++ b ∷ [])) → IsUpTo holds xs i all
      → IsUpTo next xs (i + 1) all
  passed holds next xs i x all l g on h =
      by h.rest h.same (subst (λ (ys : List A). AreOf is ys h.rest) (drop_more xs i x l
      ∙ ap (λ (y : A). y ∷ drop (i + 1) xs) g) h.are)
    where
      by : (rest : List B) → all ≡ h.done ++ rest → AreOf is (x ∷ drop (i + 1) xs) rest → IsUpTo next xs (i + 1) all
      by [] e a = absurd a
      by (b ∷ bs) e a = record {
        done = h.done ++ b ∷ [];
        rest = bs;
        same = e ∙ sym (append_assoc h.done (b ∷ []) bs);
        are = a.1;
        held = on h.done b a.0 h.held;
      }

  pub ended : (holds : List B → Type 0) (xs : List A) (i : ℕ) (all : List B) → length xs ≤ i → IsUpTo holds xs i all
      → holds all
  ended holds xs i all l h = by h.rest h.same (subst (λ (ys : List A). AreOf is ys h.rest) (drop_all i xs l) h.are)
    where
      by : (rest : List B) → all ≡ h.done ++ rest → AreOf is [] rest → holds all
      by [] e a = subst holds (sym (e ∙ append-nil h.done)) h.held
      by (b ∷ bs) e a = absurd a

  -- each was read
  pub one_of : (xs : List A) (i : ℕ) (x : A) (all : List B) → i < length xs → get_or xs i x ≡ x → AreOf is xs all
      → IsOf is x
  one_of [] i x all l g a = absurd (omega arith)
  one_of (y ∷ xs) i x [] l g a = absurd a
  one_of (y ∷ xs) zero x (b ∷ all) l g a = record { one = b; is_of = subst (λ (z : A). is z b) g a.0 }
  one_of (y ∷ xs) (suc i) x (b ∷ all) l g a = one_of xs i x all (omega arith) g a.1

-- ---- one more

pub are_more : {A B : Type 0} (is : A → B → Type 0) (xs : List A) (ys : List B) (x : A) (y : B) → AreOf is xs ys
    → is x y → AreOf is (xs ++ x ∷ []) (ys ++ y ∷ [])
are_more is [] [] x y a h = (h, tt)
are_more is [] (z ∷ ys) x y a h = absurd a
are_more is (w ∷ xs) [] x y a h = absurd a
are_more is (w ∷ xs) (z ∷ ys) x y a h = (a.0, are_more is xs ys x y a.1 h)

-- each with what holds of each
pub are_both : {A B : Type 0} (is : A → B → Type 0) (good : B → Type 0) (xs : List A) (ys : List B) → AreOf is xs ys
    → AllByRecursion good ys
    → AreOf (λ (x : A) (y : B). is x y × good y) xs ys
are_both is good [] [] a h = tt
are_both is good [] (y ∷ ys) a h = absurd a
are_both is good (x ∷ xs) [] a h = absurd a
are_both is good (x ∷ xs) (y ∷ ys) a h = ((a.0, h.0), are_both is good xs ys a.1 h.1)

pub are_as_well : {A B : Type 0} (is also : A → B → Type 0) (good : B → Type 0) (xs : List A) (ys : List B)
    → ((x : A) (y : B) → is x y → good y → also x y) → AreOf is xs ys → AllByRecursion good ys → AreOf also xs ys
are_as_well is also good [] [] f a h = tt
are_as_well is also good [] (y ∷ ys) f a h = absurd a
are_as_well is also good (x ∷ xs) [] f a h = absurd a
are_as_well is also good (x ∷ xs) (y ∷ ys) f a h = (f x y a.0 h.0, are_as_well is also good xs ys f a.1 h.1)
