-- The word of a dropped box is one of each vector in it.
use Rattle.std.proofs.Common.{List, inl, inr}
use Rattle.subscripts.specs.Forms.{HasNoPair}
use Rattle.subscripts.specs.Refutations.{IsOneSided}
use Rattle.subscripts.specs.declared.affine.Dirs.{Dirs}
use Rattle.subscripts.specs.declared.pairing.Class.{Class}
use Rattle.subscripts.specs.declared.pairing.Pairing.{Pairing}
use Rattle.subscripts.specs.declared.verdict.Test.{Test}
use Rattle.subscripts.specs.declared.verdict.Test.TheVariants.{Trip, Scalar, Ziv, Strong, WeakZero, Crossing, Siv}
use Rattle.subscripts.specs.declared.verdict.Test.TheVariants.{Delta, Gcd, Range, Miv, Unknown}
use Rattle.direction_vectors.specs.vector_tests.Ways.{HasNoTrip}
use Rattle.direction_vectors.specs.vector_tests.Words.{HasRefutedGroup, HasSeparable, IsDropWord, IsLater}
use Rattle.direction_vectors.specs.declared.vector_tests.refs.RefPair.{RefPair}
use Rattle.direction_vectors.proofs.Within.{no_trip_in, none_in, pair_box, region_box}
use Rattle.direction_vectors.specs.Boxes.{IsInBox}

later_in : (r : RefPair) (d u : Dirs) → IsInBox r d u → ((HasNoTrip r d → ⊥) → HasNoTrip r u → ⊥) → IsLater r d → IsLater r u
later_in r d u c t l = record { trips = t l.trips; constants = l.constants }

separable_in : (ps : List Pairing) (k : Class) (P Q : Pairing → Type 0) → ((p : Pairing) → P p → Q p) → HasSeparable ps k P → HasSeparable ps k Q
separable_in ps k P Q f h = record {
  at = h.at;
  pairing = h.pairing;
  is_at = h.is_at;
  separable = h.separable;
  has_class = h.has_class;
  so = f h.pairing h.so;
}

one_sided_in : (r : RefPair) (d u : Dirs) (p : Pairing) → IsInBox r d u → IsOneSided p d → IsOneSided p u
one_sided_in r d u p c o =
    elim o [ inl f ↦ inl (λ v x y h. f v x y (region_box r d u p x y c h)) | inr f ↦ inr (λ v x y h. f v x y (region_box r d u p x y c h)) ]

group_in : (r : RefPair) (d u : Dirs) → IsInBox r d u → HasRefutedGroup r.subs d → HasRefutedGroup r.subs u
group_in r d u c h = record {
  at = h.at;
  several = h.several;
  none = λ x y e. h.none x y (λ j p g s. pair_box r d u p x y c (e j p g s));
}

siv_in : (r : RefPair) (d u : Dirs) (k : Class) → IsInBox r d u → ((HasNoTrip r d → ⊥) → HasNoTrip r u → ⊥) → IsLater r d × HasSeparable r.subs k (λ p. HasNoPair p d) → IsLater r u × HasSeparable r.subs k (λ p. HasNoPair p u)
siv_in r d u k c t h = (later_in r d u c t h.0, separable_in r.subs k (λ p. HasNoPair p d) (λ p. HasNoPair p u) (λ p. none_in r d u p c) h.1)

pub word_in : (r : RefPair) (d u : Dirs) (w : Test) → IsInBox r d u → ((HasNoTrip r d → ⊥) → HasNoTrip r u → ⊥) → IsDropWord r d w → IsDropWord r u w
word_in r d u Trip c t h = no_trip_in r d u c h
word_in r d u Ziv c t h = (t h.0, h.1)
word_in r d u Strong c t h = siv_in r d u Class.Strong c t h
word_in r d u WeakZero c t h = siv_in r d u Class.WeakZero c t h
word_in r d u Crossing c t h = siv_in r d u Class.WeakCrossing c t h
word_in r d u Siv c t h = siv_in r d u Class.GeneralSiv c t h
word_in r d u Delta c t h = (later_in r d u c t h.0, group_in r d u c h.1)
word_in r d u Gcd c t h = (later_in r d u c t h.0, h.1)
word_in r d u Range c t h = (
  later_in r d u c t h.0,
  separable_in r.subs Class.Miv _ _ (λ p s. (one_sided_in r d u p c s.0, s.1)) h.1,
)
word_in r d u Scalar c t h = h
word_in r d u Miv c t h = h
word_in r d u Unknown c t h = h
