-- Vectors, place by place.
use Rattle.std.proofs.Common.{◌≡◌, ℕ, ◌+◌, ◌<◌, ◌⊎◌, List, length, refl, ap, subst, sym, arith, ◌∙◌, inl, inr, get_or-set_same, get_or-set_other, length-set}
use Rattle.std.proofs.lemmas.Bool.{cases_eq, cases_lt}
use Rattle.std.proofs.lemmas.List.{ext_get_or}
use Rattle.subscripts.specs.declared.affine.Dir.{Dir}
use Rattle.subscripts.specs.declared.affine.Dir.TheVariants.{Lt, Eq, Gt, Any}
use Rattle.subscripts.specs.declared.affine.Dirs.{Dirs}
use Rattle.direction_vectors.specs.vector_tests.Refs.{IsVectorOf}
use Rattle.direction_vectors.specs.declared.vector_tests.refs.RefPair.{RefPair}
use Rattle.direction_vectors.specs.Candidates.{IsCovered, IsPlain, dir_at}
use Rattle.direction_vectors.specs.Parts.{HasPrefix, IsPlainVector, IsWithin}
use Rattle.direction_vectors.specs.Vectors.{with_dir}

pub dir_cases : (e : Dir) → IsPlain e → (e ≡ Lt) ⊎ ((e ≡ Eq) ⊎ (e ≡ Gt))
dir_cases Lt h = inl refl
dir_cases Eq h = inr (inl refl)
dir_cases Gt h = inr (inr refl)
dir_cases Any h = absurd (h refl)

pub put_dir : (d : Dirs) (k : ℕ) (e : Dir) → length d.at ≡ 7 → k < 7 → dir_at (with_dir d k e) k ≡ e
put_dir d k e n b = get_or-set_same d.at k e Any (omega arith)

pub other_dir : (d : Dirs) (k m : ℕ) (e : Dir) → (m ≡ k → ⊥) → dir_at (with_dir d k e) m ≡ dir_at d m
other_dir d k m e u = get_or-set_other d.at k m e Any u

-- a vector with another direction of a common loop
pub put_vector : (r : RefPair) (d : Dirs) (k : ℕ) (e : Dir) → IsVectorOf r d → k < r.common → IsVectorOf r (with_dir d k e)
put_vector r d k e v b = record {
  places = length-set d.at k e ∙ v.places;
  len = v.len;
  past_len = λ m h. other_dir d k m e (λ s. omega arith) ∙ v.past_len m h;
}

-- two vectors with the same directions of the common loops
pub same_vector : (r : RefPair) (d v : Dirs) → IsVectorOf r d → IsVectorOf r v → ((m : ℕ) → m < r.common → dir_at d m ≡ dir_at v m) → d ≡ v
same_vector r d v a b h =
    let e : d.len ≡ v.len = a.len ∙ sym b.len in
    let f : d.at ≡ v.at =
    ext_get_or Any d.at v.at (a.places ∙ sym b.places)
    (λ m l. elim (cases_lt m r.common) [ inl x ↦ h m x | inr x ↦ a.past_len m x ∙ sym (b.past_len m x) ]) in
    ap (λ (n : ℕ). record { len = n; at = d.at }) e ∙ ap (λ (ds : List Dir). record { len = v.len; at = ds }) f

-- a plain vector covers itself alone
pub itself : (r : RefPair) (d v : Dirs) → IsPlainVector r d → IsCovered r d v → d ≡ v
itself r d v p c =
    same_vector r d v p.vector c.vector
    (λ m b. elim (c.covers.at m b) [ inl a ↦ absurd (p.plain m b a) | inr e ↦ e ])

pub covers_itself : (r : RefPair) (d : Dirs) → IsPlainVector r d → IsCovered r d d
covers_itself r d p = record { vector = p.vector; plain = p.plain; covers = record { vector = p.vector; at = λ m b. inr refl } }

-- ---- prefixes

pub shorter : (d v : Dirs) (k : ℕ) (e : Dir) → HasPrefix (with_dir d k e) (k + 1) v → HasPrefix d k v
shorter d v k e h m b = h m (omega arith) ∙ other_dir d k m e (λ s. omega arith)

pub last_of : (d v : Dirs) (k : ℕ) (e : Dir) → length d.at ≡ 7 → k < 7 → HasPrefix (with_dir d k e) (k + 1) v → dir_at v k ≡ e
last_of d v k e n b h = h k (omega arith) ∙ put_dir d k e n b

pub with_last : (d v : Dirs) (k : ℕ) (e : Dir) → length d.at ≡ 7 → k < 7 → HasPrefix d k v → dir_at v k ≡ e → HasPrefix (with_dir d k e) (k + 1) v
with_last d v k e n b h s m l =
    elim (cases_eq m k) [
      | inl t ↦ subst (λ (z : ℕ). dir_at v z ≡ dir_at (with_dir d k e) z) (sym t) (s ∙ sym (put_dir d k e n b))
      | inr u ↦ h m (omega arith) ∙ sym (other_dir d k m e u)
    ]

-- ---- in the first places

pub prefix_within : (d : Dirs) (k : ℕ) (v : Dirs) → HasPrefix d k v → IsWithin d k v
prefix_within d k v h m b = inr (sym (h m b))

pub within_last : (d v : Dirs) (k : ℕ) (e : Dir) → length d.at ≡ 7 → k < 7 → IsWithin d k v → dir_at v k ≡ e → IsWithin (with_dir d k e) (k + 1) v
within_last d v k e n b h s m l =
    elim (cases_eq m k) [
      | inl t ↦ inr (subst (λ (z : ℕ). dir_at (with_dir d k e) z ≡ dir_at v z) (sym t) (put_dir d k e n b ∙ sym s))
      | inr u ↦ elim (h m (omega arith)) [
        | inl x ↦ inl (other_dir d k m e u ∙ x)
        | inr x ↦ inr (other_dir d k m e u ∙ x)
      ]
    ]
