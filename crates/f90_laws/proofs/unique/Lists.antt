-- Lists with commas between their elements: no words are those of two lists whose elements are told apart.
use Rattle.std.proofs.Common.{◌≡◌, List, [], ◌∷◌, ◌++◌, refl, sym, ap, ◌∙◌, append_assoc}
use mathlib.Core.Path.{ap₂}
use Rattle.std.specs.List.{AllByRecursion}
use Rattle.f90_grammar.specs.Words.{Word90}
use Rattle.f90_grammar.specs.Words as words
use Rattle.f90_grammar.specs.Forms.{followed90, separated90}
use Rattle.reading.specs.Characters.{IsList}
use Rattle.f90_laws.specs.unique.Unique.{EndsExpression}

-- behind an element: another one, the end of its parenthesis, or nothing
abbrev pub EndsItem : List Word90 → Type 0
EndsItem [] = Unit {0}
EndsItem (words.Comma ∷ ws) = Unit {0}
EndsItem (words.Close ∷ ws) = Unit {0}
EndsItem ws = ⊥

pub ends_expression : (r : List Word90) → EndsItem r → EndsExpression r
ends_expression [] h = tt
ends_expression (words.Operator o ∷ ws) h = absurd h
ends_expression (w ∷ ws) h = tt

pub all_append : {A : Type 0} (P : A → Type 0) (xs ys : List A) → AllByRecursion P xs → AllByRecursion P ys → AllByRecursion P (xs ++ ys)
all_append P [] ys h k = k
all_append P (x ∷ xs) ys h k = (h.0, all_append P xs ys h.1 k)

pub followed_append : {A : Type 0} (write : A → List Word90) (xs ys : List A) → followed90 write (xs ++ ys) ≡ followed90 write xs ++ followed90 write ys
followed_append write [] ys = refl
followed_append write (x ∷ xs) ys =
    ap (λ (ws : List Word90). words.Comma ∷ ws) (ap (λ (ws : List Word90). write x ++ ws) (followed_append write xs ys) ∙ sym (append_assoc (write x) (followed90 write xs) (followed90 write ys)))

module _ {A : Type 0} (write : A → List Word90) (Good : A → Type 0) where
  -- the words of this element are those of no other
  abbrev pub Single : A → Type 0
  Single x = (y : A) (r s : List Word90) → Good y → EndsItem r → EndsItem s → write x ++ r ≡ write y ++ s → (x ≡ y) × (r ≡ s)

  -- no further element stands there
  abbrev pub NoMore : List Word90 → Type 0
  NoMore r = (y : A) (s : List Word90) → Good y → EndsItem s → r ≡ words.Comma ∷ (write y ++ s) → ⊥

  pub ends_followed : (xs : List A) (r : List Word90) → EndsItem r → EndsItem (followed90 write xs ++ r)
  ends_followed [] r h = h
  ends_followed (x ∷ xs) r h = tt

  abbrev flat : (x : A) (xs : List A) (r : List Word90) → (write x ++ followed90 write xs) ++ r ≡ write x ++ (followed90 write xs ++ r)
  flat x xs r = append_assoc (write x) (followed90 write xs) r

  pub followed_once : (xs ys : List A) (r s : List Word90) → AllByRecursion Single xs → AllByRecursion Good xs → AllByRecursion Good ys
      → EndsItem r → EndsItem s → NoMore r → NoMore s → followed90 write xs ++ r ≡ followed90 write ys ++ s → (xs ≡ ys) × (r ≡ s)
  followed_once [] [] r s h g k a b m n e = (refl, e)
  followed_once [] (y ∷ ys) r s h g k a b m n e =
      absurd (m y (followed90 write ys ++ s) k.0 (ends_followed ys s b) (e ∙ ap (λ (ws : List Word90). words.Comma ∷ ws) (flat y ys s)))
  followed_once (x ∷ xs) [] r s h g k a b m n e =
      absurd (n x (followed90 write xs ++ r) g.0 (ends_followed xs r a) (sym e ∙ ap (λ (ws : List Word90). words.Comma ∷ ws) (flat x xs r)))
  followed_once (x ∷ xs) (y ∷ ys) r s h g k a b m n e =
      let d : (write x ++ followed90 write xs) ++ r ≡ (write y ++ followed90 write ys) ++ s = cc in
      let f = h.0 y (followed90 write xs ++ r) (followed90 write ys ++ s) k.0 (ends_followed xs r a) (ends_followed ys s b)
      (sym (flat x xs r) ∙ (d ∙ flat y ys s)) in
      let t = followed_once xs ys r s h.1 g.1 k.1 a b m n f.1 in
      (ap₂ (λ (z : A) (zs : List A). z ∷ zs) f.0 t.0, t.1)

  pub list_once : (xs ys : List A) (r s : List Word90) → ((x : A) → Good x → Single x) → IsList Good xs → IsList Good ys
      → EndsItem r → EndsItem s → NoMore r → NoMore s → separated90 write xs ++ r ≡ separated90 write ys ++ s → (xs ≡ ys) × (r ≡ s)
  list_once [] ys r s one g k a b m n e = absurd g
  list_once (x ∷ xs) [] r s one g k a b m n e = absurd k
  list_once (x ∷ xs) (y ∷ ys) r s one g k a b m n e =
      let f = one x g.0 y (followed90 write xs ++ r) (followed90 write ys ++ s) k.0 (ends_followed xs r a) (ends_followed ys s b)
      (sym (flat x xs r) ∙ (e ∙ flat y ys s)) in
      let t = followed_once xs ys r s (all one xs g.1) g.1 k.1 a b m n f.1 in
      (ap₂ (λ (z : A) (zs : List A). z ∷ zs) f.0 t.0, t.1)
    where
      all : ((x : A) → Good x → Single x) → (xs : List A) → AllByRecursion Good xs → AllByRecursion Single xs
      all one [] g = tt
      all one (x ∷ xs) g = (one x g.0, all one xs g.1)

  pub none_behind_close : (r : List Word90) → NoMore (words.Close ∷ r)
  none_behind_close r y s k b e = cc

  pub none_behind_end : NoMore []
  none_behind_end y s k b e = cc
