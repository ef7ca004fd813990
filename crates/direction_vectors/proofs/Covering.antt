-- Which answers of a list cover a vector.
use Rattle.std.proofs.Common.{◌≡◌, ℕ, ◌+◌, ◌<◌, List, [], ◌∷◌, ◌++◌, length, get_or, zero, suc, subst, sym, arith, ◌∙◌, inl, inr}
use Rattle.std.specs.Prelude.{All}
use Rattle.std.proofs.lemmas.Bool.{cases_eq}
use Rattle.std.proofs.lemmas.List.Elements.{All-head, All-tail}
use Rattle.subscripts.specs.declared.affine.Dir.{Dir}
use Rattle.subscripts.specs.declared.affine.Dir.TheVariants.{Any}
use Rattle.subscripts.specs.declared.affine.Dirs.{Dirs}
use Rattle.direction_vectors.specs.vector_tests.Refs.{IsVectorOf}
use Rattle.direction_vectors.specs.declared.vector_tests.refs.RefPair.{RefPair}
use Rattle.direction_vectors.specs.Candidates.{Answer, Covers, HoldsNever, HoldsOnce, IsPlain, dir_at}
use Rattle.direction_vectors.specs.Parts.{IsPlainVector, IsWithin}
use Rattle.direction_vectors.specs.Vectors.{with_dir}
use Rattle.direction_vectors.proofs.Places.{other_dir, put_dir, put_vector}

-- ---- once in a list

pub never_of_all : (P : Answer → Type 0) (xs : List Answer) → All (λ a. P a → ⊥) xs → HoldsNever P xs
never_of_all P [] h = tt
never_of_all P (x ∷ xs) h = (All-head (λ a. P a → ⊥) x xs h, never_of_all P xs (All-tail (λ a. P a → ⊥) x xs h))

never_both : (P : Answer → Type 0) (xs ys : List Answer) → HoldsNever P xs → HoldsNever P ys → HoldsNever P (xs ++ ys)
never_both P [] ys h g = g
never_both P (x ∷ xs) ys h g = (h.0, never_both P xs ys h.1 g)

pub once_before : (P : Answer → Type 0) (xs ys : List Answer) → HoldsOnce P xs → HoldsNever P ys → HoldsOnce P (xs ++ ys)
once_before P [] ys h g = absurd h
once_before P (x ∷ xs) ys h g = elim h [ inl a ↦ inl (a.0, never_both P xs ys a.1 g) | inr a ↦ inr (a.0, once_before P xs ys a.1 g) ]

pub once_after : (P : Answer → Type 0) (xs ys : List Answer) → HoldsNever P xs → HoldsOnce P ys → HoldsOnce P (xs ++ ys)
once_after P [] ys h g = g
once_after P (x ∷ xs) ys h g = inr (h.0, once_after P xs ys h.1 g)

pub never_of_both : (P : Answer → Type 0) (xs ys : List Answer) → HoldsNever P xs → HoldsNever P ys → HoldsNever P (xs ++ ys)
never_of_both P xs ys h g = never_both P xs ys h g

-- in two lists of which the properties hold together
pub record HoldTogether (P Q : Answer → Type 0) (a b : Answer) : Type 0 where
  pub first : P a → Q b
  pub second : Q b → P a

never_together : (P Q : Answer → Type 0) (xs ys : List Answer) → length ys ≡ length xs → ((i : ℕ) (a : Answer) → i < length xs → HoldTogether P Q (get_or xs i a) (get_or ys i a)) → HoldsNever P xs → HoldsNever Q ys
never_together P Q [] [] e h n = tt
never_together P Q [] (y ∷ ys) e h n = absurd (omega arith)
never_together P Q (x ∷ xs) [] e h n = absurd (omega arith)
never_together P Q (x ∷ xs) (y ∷ ys) e h n =
    (λ q. n.0 ((h zero x (omega arith)).second q), never_together P Q xs ys (omega arith) (λ i a b. h (suc i) a (omega arith)) n.1)

pub once_together : (P Q : Answer → Type 0) (xs ys : List Answer) → length ys ≡ length xs → ((i : ℕ) (a : Answer) → i < length xs → HoldTogether P Q (get_or xs i a) (get_or ys i a)) → HoldsOnce P xs → HoldsOnce Q ys
once_together P Q [] ys e h n = absurd n
once_together P Q (x ∷ xs) [] e h n = absurd (omega arith)
once_together P Q (x ∷ xs) (y ∷ ys) e h n =
    elim n [
      | inl m ↦ inl ((h zero x (omega arith)).first m.0, never_together P Q xs ys (omega arith) (λ i a b. h (suc i) a (omega arith)) m.1)
      | inr m ↦ inr (λ q. m.0 ((h zero x (omega arith)).second q), once_together P Q xs ys (omega arith) (λ i a b. h (suc i) a (omega arith)) m.1)
    ]

-- ---- a direction in one place

-- an answer with another plain direction there doesn't cover the vector
pub not_covered : (r : RefPair) (a v : Dirs) (k : ℕ) (e f : Dir) → k < r.common → dir_at a k ≡ e → dir_at v k ≡ f → IsPlain e → (e ≡ f → ⊥) → Covers r a v → ⊥
not_covered r a v k e f b s t n u c =
    elim (c.at k b) [ inl x ↦ n (sym s ∙ x) | inr x ↦ u (sym s ∙ x ∙ t) ]

-- with `*` in place k, it covers the vector where it does with the vector's own direction there
pub starred_to : (r : RefPair) (a b v : Dirs) (k : ℕ) → IsVectorOf r b → ((m : ℕ) → (m ≡ k → ⊥) → dir_at b m ≡ dir_at a m) → dir_at b k ≡ dir_at v k → Covers r (with_dir a k Any) v → Covers r b v
starred_to r a b v k w h s c = record {
  vector = w;
  at = λ m l.
      elim (cases_eq m k) [
        | inl t ↦ inr (subst (λ (z : ℕ). dir_at b z ≡ dir_at v z) (sym t) s)
        | inr u ↦ elim (c.at m l) [
          | inl x ↦ inl (h m u ∙ sym (other_dir a k m Any u) ∙ x)
          | inr x ↦ inr (h m u ∙ sym (other_dir a k m Any u) ∙ x)
        ]
      ];
}

pub starred_from : (r : RefPair) (a b v : Dirs) (k : ℕ) → IsVectorOf r a → k < r.common → k < 7 → ((m : ℕ) → (m ≡ k → ⊥) → dir_at b m ≡ dir_at a m) → Covers r b v → Covers r (with_dir a k Any) v
starred_from r a b v k w l s h c = record {
  vector = put_vector r a k Any w l;
  at = λ m b'.
      elim (cases_eq m k) [
        | inl t ↦ inl (subst (λ (z : ℕ). dir_at (with_dir a k Any) z ≡ Any) (sym t) (put_dir a k Any w.places s))
        | inr u ↦ elim (c.at m b') [
          | inl x ↦ inl (other_dir a k m Any u ∙ sym (h m u) ∙ x)
          | inr x ↦ inr (other_dir a k m Any u ∙ sym (h m u) ∙ x)
        ]
      ];
}

-- ---- a plain vector with another direction in one place

pub replaced : (r : RefPair) (v : Dirs) (k : ℕ) (e : Dir) → IsPlainVector r v → k < r.common → k < 7 → IsPlain e → IsPlainVector r (with_dir v k e)
replaced r v k e p b l n = record {
  vector = put_vector r v k e p.vector b;
  plain = λ m h a.
      elim (cases_eq m k) [
        | inl s ↦ n (sym (subst (λ (z : ℕ). dir_at (with_dir v k e) z ≡ e) (sym s) (put_dir v k e p.vector.places l)) ∙ a)
        | inr u ↦ p.plain m h (sym (other_dir v k m e u) ∙ a)
      ];
}

pub replaced_within : (r : RefPair) (d v : Dirs) (k : ℕ) (e : Dir) → IsVectorOf r d → IsVectorOf r v → k < 7 → IsWithin d k v → IsWithin (with_dir d k e) (k + 1) (with_dir v k e)
replaced_within r d v k e a b l h m s =
    elim (cases_eq m k) [
      | inl t ↦ inr (subst (λ (z : ℕ). dir_at (with_dir d k e) z ≡ dir_at (with_dir v k e) z) (sym t) (put_dir d k e a.places l ∙ sym (put_dir v k e b.places l)))
      | inr u ↦ elim (h m (omega arith)) [
        | inl x ↦ inl (other_dir d k m e u ∙ x)
        | inr x ↦ inr (other_dir d k m e u ∙ x ∙ sym (other_dir v k m e u))
      ]
    ]

-- an answer with this direction covers the replaced vector where it covers the vector with `*` there
pub star_together : (r : RefPair) (a v : Dirs) (k : ℕ) (e : Dir) → IsVectorOf r a → IsVectorOf r v → k < r.common → k < 7 → dir_at a k ≡ e → Covers r a (with_dir v k e) → Covers r (with_dir a k Any) v
star_together r a v k e w x b l s c = record {
  vector = put_vector r a k Any w b;
  at = λ m h.
      elim (cases_eq m k) [
        | inl t ↦ inl (subst (λ (z : ℕ). dir_at (with_dir a k Any) z ≡ Any) (sym t) (put_dir a k Any w.places l))
        | inr u ↦ elim (c.at m h) [
          | inl y ↦ inl (other_dir a k m Any u ∙ y)
          | inr y ↦ inr (other_dir a k m Any u ∙ y ∙ other_dir v k m e u)
        ]
      ];
}

pub unstar_together : (r : RefPair) (a v : Dirs) (k : ℕ) (e : Dir) → IsVectorOf r a → IsVectorOf r v → k < r.common → k < 7 → dir_at a k ≡ e → Covers r (with_dir a k Any) v → Covers r a (with_dir v k e)
unstar_together r a v k e w x b l s c = record {
  vector = w;
  at = λ m h.
      elim (cases_eq m k) [
        | inl t ↦ inr (subst (λ (z : ℕ). dir_at a z ≡ dir_at (with_dir v k e) z) (sym t) (s ∙ sym (put_dir v k e x.places l)))
        | inr u ↦ elim (c.at m h) [
          | inl y ↦ inl (sym (other_dir a k m Any u) ∙ y)
          | inr y ↦ inr (sym (other_dir a k m Any u) ∙ y ∙ sym (other_dir v k m e u))
        ]
      ];
}
