-- What is in a vector of a box is in the box.
use Rattle.std.proofs.Common.{◌≡◌, ℕ, ◌<◌, List, [], ◌∷◌, length, get_or, zero, suc, subst, sym, arith, ◌∙◌, inl, inr}
use Rattle.std.specs.Prelude.{ℤ}
use Rattle.std.proofs.lemmas.Bool.{cases_lt}
use Rattle.subscripts.specs.Classes.{at_place}
use Rattle.subscripts.specs.Forms.{AreRelated, HasNoPair, IsInRegion, IsPairOf}
use Rattle.subscripts.specs.Iterations.{IsRelated}
use Rattle.subscripts.specs.declared.affine.Dir.{Dir}
use Rattle.subscripts.specs.declared.affine.Dir.TheVariants.{Any}
use Rattle.subscripts.specs.declared.affine.Dirs.{Dirs}
use Rattle.subscripts.specs.declared.pairing.Pairing.{Pairing}
use Rattle.direction_vectors.specs.vector_tests.Pairs.{IsInVector, IsMeeting, NeverMeet}
use Rattle.direction_vectors.specs.vector_tests.Ways.{HasNoTrip, IsCarrying}
use Rattle.direction_vectors.specs.declared.vector_tests.refs.RefPair.{RefPair}
use Rattle.direction_vectors.specs.Candidates.{Allows, IsCovered, dir_at}
use Rattle.direction_vectors.specs.Boxes.{HasRoom, InStarred, IsInBox}

-- a vector that a box covers is in it
pub inside : (r : RefPair) (d u : Dirs) → IsCovered r d u → IsInBox r d u
inside r d u c = record { vector = c.vector; covers = c.covers }

-- ---- in each of the seven places

pub allows_at : (r : RefPair) (d u : Dirs) (k : ℕ) → IsInBox r d u → Allows (dir_at d k) (dir_at u k)
allows_at r d u k c = elim (cases_lt k r.common) [ inl b ↦ c.covers.at k b | inr b ↦ inl (c.covers.vector.past_len k b) ]

weaker : (d e : Dir) (i j : ℤ) → Allows d e → IsRelated e i j → IsRelated d i j
weaker d e i j a h =
    elim a [ inl s ↦ subst (λ (z : Dir). IsRelated z i j) (sym s) tt | inr s ↦ subst (λ (z : Dir). IsRelated z i j) (sym s) h ]

pub in_box : (r : RefPair) (d u : Dirs) (x y : List ℤ) → IsInBox r d u → IsInVector r u x y → IsInVector r d x y
in_box r d u x y c h = record {
  first = h.first;
  second = h.second;
  related = λ k b. weaker (dir_at d k) (dir_at u k) (at_place x k) (at_place y k) (allows_at r d u k c) (h.related k b);
}

pub meets_box : (r : RefPair) (d u : Dirs) (x y : List ℤ) → IsInBox r d u → IsMeeting r u x y → IsMeeting r d x y
meets_box r d u x y c m = record { within = in_box r d u x y c m.within; values = m.values; equal = m.equal }

pub never_in : (r : RefPair) (d u : Dirs) → IsInBox r d u → NeverMeet r d → NeverMeet r u
never_in r d u c n x y m = n x y (meets_box r d u x y c m)

-- ---- regions

related_box : (ds es : List Dir) (x y : List ℤ) → length ds ≡ length es → ((k : ℕ) → k < length ds → Allows (get_or ds k Any) (get_or es k Any)) → AreRelated es x y → AreRelated ds x y
related_box [] es x y n a h = tt
related_box (d ∷ ds) [] x y n a h = absurd (omega arith)
related_box (d ∷ ds) (e ∷ es) [] y n a h = tt
related_box (d ∷ ds) (e ∷ es) (i ∷ x) [] n a h = tt
related_box (d ∷ ds) (e ∷ es) (i ∷ x) (j ∷ y) n a h =
    (weaker d e i j (a zero (omega arith)) h.0, related_box ds es x y (omega arith) (λ k b. a (suc k) (omega arith)) h.1)

pub region_box : (r : RefPair) (d u : Dirs) (p : Pairing) (x y : List ℤ) → IsInBox r d u → IsInRegion p u x y → IsInRegion p d x y
region_box r d u p x y c h = record {
  from_within = h.from_within;
  to_within = h.to_within;
  related = related_box d.at u.at x y (c.covers.vector.places ∙ sym c.vector.places) (λ k b. allows_at r d u k c) h.related;
}

pub pair_box : (r : RefPair) (d u : Dirs) (p : Pairing) (x y : List ℤ) → IsInBox r d u → IsPairOf p u x y → IsPairOf p d x y
pair_box r d u p x y c h = record { region = region_box r d u p x y c h.region; equal = h.equal }

pub none_in : (r : RefPair) (d u : Dirs) (p : Pairing) → IsInBox r d u → HasNoPair p d → HasNoPair p u
none_in r d u p c n x y h = n x y (pair_box r d u p x y c h)

-- ---- trips

pub no_trip_in : (r : RefPair) (d u : Dirs) → IsInBox r d u → HasNoTrip r d → HasNoTrip r u
no_trip_in r d u c h = (
  h.0,
  (
    h.1.0,
    elim h.1.1 [
      | inl e ↦ inl e
      | inr o ↦ elim o [
        | inl e ↦ inr (inl e)
        | inr t ↦ inr (inr (
          elim (allows_at r d u h.0 c) [
            | inl s ↦ let n : ⊥ = subst IsCarrying s t.0 in absurd n
            | inr s ↦ subst IsCarrying s t.0
          ],
          t.1,
        ))
      ]
    ],
  ),
)

pub no_trip_out : (r : RefPair) (d u : Dirs) → IsInBox r d u → InStarred r d (HasRoom r) → HasNoTrip r u → HasNoTrip r d
no_trip_out r d u c m h = (
  h.0,
  (
    h.1.0,
    elim h.1.1 [
      | inl e ↦ inl e
      | inr o ↦ elim o [
        | inl e ↦ inr (inl e)
        | inr t ↦ inr (inr (
          elim (cases_lt h.0 r.common) [
            | inl b ↦ elim (c.covers.at h.0 b) [
              | inl s ↦ absurd (m h.0 b s t.1)
              | inr s ↦ subst IsCarrying (sym s) t.0
            ]
            | inr b ↦ let n : ⊥ = subst IsCarrying (c.vector.past_len h.0 b) t.0 in absurd n
          ],
          t.1,
        ))
      ]
    ],
  ),
)
