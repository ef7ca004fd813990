-- Each cause of a drop leaves no meeting, and has its word.
use Rattle.std.proofs.Common.{◌≡◌, ℕ, ◌<◌, ◌≤◌, List, length, get_or, refl, ap, subst, sym, arith, ◌∙◌, inl, inr}
use Rattle.std.specs.Prelude.{ℤ, pos, ◌≤ℤ◌, ◌<ℤ◌, Option, Some, None, IfSome, IsSomeAnd, slice_get}
use Rattle.std.proofs.lemmas.Bool.{cases_lt}
use Rattle.std.proofs.lemmas.Int.{ints}
use Rattle.subscripts.specs.Classes.{at_place, IsMiv}
use Rattle.subscripts.specs.Iterations.{WithinSpan, IsRelated, once}
use Rattle.subscripts.specs.declared.affine.Dir.{Dir}
use Rattle.subscripts.specs.declared.affine.Dir.TheVariants.{Lt, Eq, Gt, Any}
use Rattle.subscripts.specs.declared.affine.Dirs.{Dirs}
use Rattle.subscripts.specs.declared.affine.Span.{Span}
use Rattle.subscripts.specs.declared.pairing.Class.TheVariants as class
use Rattle.subscripts.specs.declared.verdict.Test.{Test}
use Rattle.subscripts.specs.declared.verdict.Test.TheVariants.{Trip, Scalar, Ziv, Strong, WeakZero, Crossing, Siv, Delta, Gcd, Range, Miv, Unknown}
use Rattle.dependence_tests.specs.loop_lines.OneLoop.{HasSevenLists}
use Rattle.dependence_tests.proofs.siv_tests.Zivs.{equal_constants}
use Rattle.direction_vectors.proofs.vector_tests.Meetings.{never_by, pair_at, related_in, subscript_at}
use Rattle.direction_vectors.specs.vector_tests.Pairs.{IsInVector, IsMeeting, NeverMeet}
use Rattle.direction_vectors.specs.vector_tests.Places.{IsOneRefuted, IsRefutedIn, IsSeveralRefuted}
use Rattle.direction_vectors.specs.vector_tests.Refs.{IsRefPair, IsVectorOf}
use Rattle.direction_vectors.specs.vector_tests.Ways.{EndsBefore, HasNoTrip, IsCarrying, LacksTripAt}
use Rattle.direction_vectors.specs.vector_tests.Words.{HasRefutedGroup, HasUnequalConstants, IsDropWord, IsLater}
use Rattle.direction_vectors.specs.declared.vector_tests.refs.RefPair.{RefPair}

-- ---- trips

ended : (o : Option ℤ) (n i : ℤ) → IsSomeAnd o (λ last. last <ℤ n) → IfSome o (λ last. i ≤ℤ last) → n ≤ℤ i → ⊥
ended None n i h g l = absurd h
ended (Some m) n i h g l = omega (arith, ints, h, g, l)

no_iteration : (s : Span) (i : ℤ) → EndsBefore (pos 1) s → WithinSpan s i → ⊥
no_iteration s i h w = ended s.last (pos 1) i h w.high w.low

no_two : (d : Dir) (s : Span) (i j : ℤ) → IsCarrying d → EndsBefore (pos 2) s → WithinSpan s i → WithinSpan s j → IsRelated d i j → ⊥
no_two Lt s i j k h v w b = ended s.last (pos 2) j h w.high (let l = v.low in omega (arith, ints, l, b))
no_two Eq s i j k h v w b = absurd k
no_two Gt s i j k h v w b = ended s.last (pos 2) i h v.high (let l = w.low in omega (arith, ints, l, b))
no_two Any s i j k h v w b = absurd k

-- a place where two are asked for is that of a common loop
carried_in : (r : RefPair) (d : Dirs) (k : ℕ) → IsVectorOf r d → IsCarrying (get_or d.at k Any) → k < r.common
carried_in r d k v c =
    elim (cases_lt k r.common) [ inl b ↦ b | inr b ↦ let n : ⊥ = subst IsCarrying (v.past_len k b) c in absurd n ]

lacks : (r : RefPair) (d : Dirs) (k : ℕ) (x y : List ℤ) → IsRefPair r → IsVectorOf r d → k < 7 → LacksTripAt r d k → IsInVector r d x y → ⊥
lacks r d k x y c v b l w =
    elim l [
      | inl h ↦ no_iteration (get_or r.from_spans k once) (at_place x k) h (w.first.within k b)
      | inr m ↦ elim m [
        | inl h ↦ no_iteration (get_or r.to_spans k once) (at_place y k) h (w.second.within k b)
        | inr h ↦ no_two (get_or d.at k Any) (get_or r.from_spans k once) (at_place x k) (at_place y k) h.0 h.1 (w.first.within k b)
            (subst (λ (s : Span). WithinSpan s (at_place y k)) (sym (c.common_spans k (carried_in r d k v h.0))) (w.second.within k b)) (related_in r d x y k v w)
      ]
    ]

pub no_trip_never : (r : RefPair) (d : Dirs) → IsRefPair r → IsVectorOf r d → HasNoTrip r d → NeverMeet r d
no_trip_never r d c v t = λ x y m. lacks r d t.0 x y c v t.1.0 t.1.1 m.within

-- ---- constants

pub unequal_never : (r : RefPair) (d : Dirs) → IsRefPair r → IsVectorOf r d → HasUnequalConstants r.subs → NeverMeet r d
unequal_never r d c v u = λ x y m.
    u.differ (equal_constants u.pairing d x y u.ziv (subscript_at r u.at u.pairing c u.is_at).places (pair_at r d x y u.at u.pairing c v m u.is_at))

-- ---- separable pairs

pub one_never : (r : RefPair) (d : Dirs) (w : Test) → IsRefPair r → IsVectorOf r d → IsRefutedIn r.subs (λ p. IsOneRefuted p d w) → NeverMeet r d
one_never r d w c v h = never_by r d h.at h.pairing c v h.is_at h.so.none

pub several_never : (r : RefPair) (d : Dirs) (w : Test) → IsRefPair r → IsVectorOf r d → IsRefutedIn r.subs (λ p. IsSeveralRefuted p d w) → NeverMeet r d
several_never r d w c v h = never_by r d h.at h.pairing c v h.is_at h.so.none

pub one_word : (r : RefPair) (d : Dirs) (w : Test) → IsLater r d → IsRefutedIn r.subs (λ p. IsOneRefuted p d w) → IsDropWord r d w
one_word r d Strong l h = (l, record { at = h.at; pairing = h.pairing; is_at = h.is_at; separable = h.separable; has_class = h.so.word; so = h.so.none })
one_word r d WeakZero l h = (l, record { at = h.at; pairing = h.pairing; is_at = h.is_at; separable = h.separable; has_class = h.so.word; so = h.so.none })
one_word r d Crossing l h = (l, record { at = h.at; pairing = h.pairing; is_at = h.is_at; separable = h.separable; has_class = h.so.word; so = h.so.none })
one_word r d Siv l h = (l, record { at = h.at; pairing = h.pairing; is_at = h.is_at; separable = h.separable; has_class = h.so.word; so = h.so.none })
one_word r d Trip l h = absurd h.so.word
one_word r d Scalar l h = absurd h.so.word
one_word r d Ziv l h = absurd h.so.word
one_word r d Delta l h = absurd h.so.word
one_word r d Gcd l h = absurd h.so.word
one_word r d Range l h = absurd h.so.word
one_word r d Miv l h = absurd h.so.word
one_word r d Unknown l h = absurd h.so.word

pub several_word : (r : RefPair) (d : Dirs) (w : Test) → IsLater r d → IsRefutedIn r.subs (λ p. IsSeveralRefuted p d w) → IsDropWord r d w
several_word r d Gcd l h = (l, record { at = h.at; pairing = h.pairing; is_at = h.is_at; separable = h.separable; has_class = h.so.several; so = h.so.word })
several_word r d Range l h = (l, record { at = h.at; pairing = h.pairing; is_at = h.is_at; separable = h.separable; has_class = h.so.several; so = h.so.word })
several_word r d Trip l h = absurd h.so.word
several_word r d Scalar l h = absurd h.so.word
several_word r d Ziv l h = absurd h.so.word
several_word r d Strong l h = absurd h.so.word
several_word r d WeakZero l h = absurd h.so.word
several_word r d Crossing l h = absurd h.so.word
several_word r d Siv l h = absurd h.so.word
several_word r d Delta l h = absurd h.so.word
several_word r d Miv l h = absurd h.so.word
several_word r d Unknown l h = absurd h.so.word

-- ---- groups

pub group_never : (r : RefPair) (d : Dirs) → IsRefPair r → IsVectorOf r d → HasRefutedGroup r.subs d → NeverMeet r d
group_never r d c v h = λ x y m. h.none x y (λ j p g e. pair_at r d x y j p c v m e)
