-- Steps of loops over subscript pairs.
use Rattle.std.proofs.Common.{◌≡◌, ℕ, ◌+◌, ◌<◌, ◌≤◌, ◌⊎◌, ◌↔◌, List, [], ◌∷◌, ◌++◌, length, get_or, take, set, zero, suc, refl, ap, subst, sym, arith, ◌∙◌, inl, inr, Bool, true, false, cond, add-one}
use Rattle.std.specs.Prelude.{ℤ, All, IsTrue, MatchOption, Option, Some, None, nat_eq, slice_get}
use Rattle.std.proofs.lemmas.Bool.{both_ways, cases_eq, cases_order, eq-eqb, ne_eqb}
use Rattle.std.proofs.lemmas.List.{append-nil, get_or_default, take_more_set}
use Rattle.std.proofs.lemmas.Option.{get_or_from_slice_get, slice_get-get_or, slice_get_within}
use Rattle.subscripts.specs.Classes.{Loop, HasClass, HasOneLoop, IsZiv}
use Rattle.subscripts.specs.Cuts.{IsLeastPair}
use Rattle.subscripts.specs.Partitions.{AreCoupled}
use Rattle.subscripts.specs.Refutations.{IsExact, IsOneSided, IsRefutedByGcd}
use Rattle.subscripts.specs.Shapes.{AreDirsOf, IsPairing}
use Rattle.subscripts.specs.declared.affine.Dirs.{Dirs}
use Rattle.subscripts.specs.declared.pairing.Group.{Group}
use Rattle.subscripts.specs.declared.pairing.Pairing.{Pairing}
use Rattle.subscripts.specs.declared.verdict.Test.{Test}
use Rattle.subscripts.specs.declared.verdict.Test.TheVariants.{Trip, Scalar, Ziv, Strong, WeakZero, Crossing, Siv, Delta, Gcd, Range, Miv, Unknown}
use Rattle.subscripts.specs.declared.verdict.Verdict.{Verdict}
use Rattle.subscripts.specs.declared.verdict.Verdict.TheVariants as verdict
use Rattle.dependence_tests.specs.loop_lines.line_points.Lines.{OnLine}
use Rattle.dependence_tests.specs.declared.loop_lines.line_points.points.Line.{Line}
use Rattle.dependence_tests.specs.delta_test.Constraints.{Allows}
use Rattle.dependence_tests.specs.declared.delta_test.constraint.Constraint.{Constraint}
use Rattle.dependence_tests.specs.loop_lines.OneLoop.{HasSevenPlaces, IsLineOf}
use Rattle.dependence_tests.specs.loop_lines.Verdicts.{IfPair, OnAssumed}
use Rattle.dependence_tests.specs.siv_tests.Ways.{IsRefuted}
use Rattle.dependence_tests.proofs.delta_test.Folding.{is_line_at, one_more}
use Rattle.dependence_tests.specs.delta_test.Groups.{line_at}
use Rattle.direction_vectors.proofs.vector_tests.Groups.{equal_on, on_equal, picked_more, same_pairing, solved_by_cut}
use Rattle.direction_vectors.specs.vector_tests.Places.{IsLeft, IsMivLeft, IsOneLeft, IsOneRefuted, IsRefutedIn, IsSeveralRefuted, IsSivLeft, SolvesEach, picked}
use Rattle.direction_vectors.specs.vector_tests.Ways.{AreEqualAt}
use Rattle.direction_vectors.specs.vector_tests.Words.{IsClassWord, IsEdgeWord, IsFirstNotZiv, IsSeparable}

-- ---- the constraint of a loop

pub solves_more : (ps : List Pairing) (l : Loop) (k : ℕ) (e : Pairing) (line : Line) (shared new met : Constraint) (i j : ℤ) → k < length ps → HasOneLoop (get_or ps k e) l → IsLineOf (get_or ps k e) l line
    → Allows shared i j ↔ SolvesEach (take k ps) l i j → Allows new i j ↔ OnLine line i j → Allows met i j ↔ (Allows shared i j × Allows new i j)
    → Allows met i j ↔ SolvesEach (take (k + 1) ps) l i j
solves_more ps l k e line shared new met i j h o w s n m =
    let same = is_line_at (get_or ps k e) l line w in
    let more = one_more (λ p. HasOneLoop p l → AreEqualAt p l i j) ps k e h in (
      λ a. let b = m.0 a in more.1 (s.0 b.0, λ q. equal_on (get_or ps k e) l i j (subst (λ (z : Line). OnLine z i j) same (n.0 b.1))),
      λ a. let b = more.0 a in m.1 (s.1 b.0, n.1 (subst (λ (z : Line). OnLine z i j) (sym same) (on_equal (get_or ps k e) l i j (b.1 o)))),
    )

pub solves_still : (ps : List Pairing) (l : Loop) (k : ℕ) (e : Pairing) (left : Constraint) (i j : ℤ) → k < length ps → (HasOneLoop (get_or ps k e) l → ⊥) → Allows left i j ↔ SolvesEach (take k ps) l i j
    → Allows left i j ↔ SolvesEach (take (k + 1) ps) l i j
solves_still ps l k e left i j h n s =
    let more = one_more (λ p. HasOneLoop p l → AreEqualAt p l i j) ps k e h in (
      λ a. more.1 (s.0 a, λ q. absurd (n q)),
      λ a. s.1 (more.0 a).0,
    )

-- ---- the members of a group

some_pairing : (ps : List Pairing) → 0 < length ps → Pairing
some_pairing [] h = absurd (omega arith)
some_pairing (q ∷ ps) h = q

pub member_more : (n : ℕ) (ns : List ℕ) (ps : List Pairing) (k c : ℕ) (at : List Pairing) (p q : Pairing) → k < length ps → k < length ns → c < length at → get_or ns k 0 ≡ n → p ≡ get_or ps k q → take c at ≡ picked n ns (take k ps)
    → take (c + 1) (set at c p) ≡ picked n ns (take (k + 1) ps)
member_more n ns ps k c at p q a b r e f h =
    take_more_set at c p r
    ∙ ap (λ (xs : List Pairing). xs ++ (p ∷ [])) h
    ∙ ap (λ (z : Pairing). picked n ns (take k ps) ++ (z ∷ [])) f
    ∙ sym (ap (λ (m : ℕ). picked n ns (take m ps)) (add-one k) ∙ picked_more n ns ps k q a b
    ∙ ap (λ (t : Bool). picked n ns (take k ps) ++ cond t (get_or ps k q ∷ []) []) (eq-eqb (get_or ns k 0) n e))

pub member_still : (n : ℕ) (ns : List ℕ) (ps : List Pairing) (k c : ℕ) (at : List Pairing) → k < length ps → k < length ns → (get_or ns k 0 ≡ n → ⊥) → take c at ≡ picked n ns (take k ps)
    → take c at ≡ picked n ns (take (k + 1) ps)
member_still n ns ps k c at a b u h =
    let q = some_pairing ps (omega arith) in
    h
    ∙ sym (ap (λ (m : ℕ). picked n ns (take m ps)) (add-one k) ∙ picked_more n ns ps k q a b
    ∙ ap (λ (t : Bool). picked n ns (take k ps) ++ cond t (get_or ps k q ∷ []) []) (ne_eqb (get_or ns k 0) n u)
    ∙ append-nil (picked n ns (take k ps)))

-- ---- what the test of a pair of one loop leaves

pub one_left : (p : Pairing) (d : Dirs) (v : Verdict) → IsPairing p → AreDirsOf p d → HasSevenPlaces p d → IfPair v (λ x y. IsExact p × IsLeastPair p d x.at y.at) → OnAssumed v ((IsExact p → ⊥) × (IsRefuted p d → ⊥))
    → ((w : Test) → v ≡ verdict.Never w → ⊥) → IsOneLeft p d
one_left p d (verdict.Never w) i a n h g u = absurd (u w refl)
one_left p d (verdict.Pair x y w) i a n h g u = record {
  loop = λ l o f. solved_by_cut p d l x.at y.at i a n o f h.1.pair;
  ways = λ q. absurd (q h.0);
}
one_left p d (verdict.Assumed w) i a n h g u = record {
  loop = λ l o f. absurd (g.0 (l, (o, f)));
  ways = λ q. record { gcd = λ r. g.1 (inl r); range = λ s. g.1 (inr (inl s)) };
}

-- ---- the word of an edge

pub class_word_not_ziv : (p : Pairing) (w : Test) → IsClassWord p w → IsZiv p → ⊥
class_word_not_ziv p Strong h z = z.none h.0 h.1.0.matters
class_word_not_ziv p WeakZero h z = z.none h.0 h.1.0.matters
class_word_not_ziv p Crossing h z = z.none h.0 h.1.0.matters
class_word_not_ziv p Siv h z = z.none h.0 h.1.0.matters
class_word_not_ziv p Miv h z = h.not_ziv z
class_word_not_ziv p Unknown h z = both_ways p.known h z.known
class_word_not_ziv p Trip h z = h
class_word_not_ziv p Scalar h z = h
class_word_not_ziv p Ziv h z = h
class_word_not_ziv p Delta h z = h
class_word_not_ziv p Gcd h z = h
class_word_not_ziv p Range h z = h

-- the first pair that isn't without a loop
first_one : (ps : List Pairing) (k i : ℕ) (q p : Pairing) → slice_get ps k ≡ Some q → (IsZiv q → ⊥) → ((j : ℕ) (m : Pairing) → j < k → slice_get ps j ≡ Some m → IsZiv m) → IsFirstNotZiv ps i p → i ≡ k
first_one ps k i q p e n a f =
    elim (cases_order i k) [
      | inl h ↦ h
      | inr o ↦ elim o [ inl b ↦ absurd (f.not_ziv (a i p b f.is_at)) | inr b ↦ absurd (n (f.earlier k q b e)) ]
    ]

first_pairing : (ps : List Pairing) (k i : ℕ) (q p : Pairing) → slice_get ps k ≡ Some q → IsFirstNotZiv ps i p → i ≡ k → q ≡ p
first_pairing ps k i q p e f h = same_pairing ps k q p e (subst (λ (m : ℕ). slice_get ps m ≡ Some p) h f.is_at)

pub separable_word : (ps : List Pairing) (k : ℕ) (q : Pairing) (w : Test) → slice_get ps k ≡ Some q → IsClassWord q w → ((j : ℕ) (m : Pairing) → j < k → slice_get ps j ≡ Some m → IsZiv m) → IsSeparable ps k → IsEdgeWord ps w
separable_word ps k q w e h a s = record {
  scalar = λ z. let b = slice_get_within ps k q e in absurd (let n : length ps ≡ 0 = ap length z in omega arith);
  ziv = λ n z. absurd (class_word_not_ziv q w h (subst IsZiv (get_or_from_slice_get ps k q q e) (z k q (slice_get_within ps k q e))));
  separable = λ i p f t. subst (λ (z : Pairing). IsClassWord z w) (first_pairing ps k i q p e f (first_one ps k i q p e (class_word_not_ziv q w h) a f)) h;
  group = λ i p f t. absurd (t (subst (λ (m : ℕ). IsSeparable ps m) (sym (first_one ps k i q p e (class_word_not_ziv q w h) a f)) s));
}

pub group_word : (ps : List Pairing) (k : ℕ) (q : Pairing) (w : Test) → slice_get ps k ≡ Some q → IsClassWord q w → ((j : ℕ) (m : Pairing) → j < k → slice_get ps j ≡ Some m → IsZiv m) → (IsSeparable ps k → ⊥) → IsEdgeWord ps Delta
group_word ps k q w e h a s = record {
  scalar = λ z. let b = slice_get_within ps k q e in absurd (let n : length ps ≡ 0 = ap length z in omega arith);
  ziv = λ n z. absurd (class_word_not_ziv q w h (subst IsZiv (get_or_from_slice_get ps k q q e) (z k q (slice_get_within ps k q e))));
  separable = λ i p f t. absurd (s (subst (λ (m : ℕ). IsSeparable ps m) (first_one ps k i q p e (class_word_not_ziv q w h) a f) t));
  group = λ i p f t. refl;
}

pub ziv_word_of_all : (ps : List Pairing) → (ps ≡ [] → ⊥) → ((j : ℕ) (m : Pairing) → slice_get ps j ≡ Some m → IsZiv m) → IsEdgeWord ps Ziv
ziv_word_of_all ps n a = record {
  scalar = λ z. absurd (n z);
  ziv = λ m z. refl;
  separable = λ i p f t. absurd (f.not_ziv (a i p f.is_at));
  group = λ i p f t. absurd (f.not_ziv (a i p f.is_at));
}

none_there : (ps : List Pairing) (i : ℕ) (p : Pairing) → ps ≡ [] → slice_get ps i ≡ Some p → ⊥
none_there ps i p e f = let b = slice_get_within ps i p f in let n : length ps ≡ 0 = ap length e in omega arith

pub scalar_word : (ps : List Pairing) → ps ≡ [] → IsEdgeWord ps Scalar
scalar_word ps e = record {
  scalar = λ z. refl;
  ziv = λ n z. absurd (n e);
  separable = λ i p f t. absurd (none_there ps i p e f.is_at);
  group = λ i p f t. absurd (none_there ps i p e f.is_at);
}

-- ---- the pair in one place

pub siv_at : (o : Option Test) (ps : List Pairing) (d : Dirs) (at : ℕ) (q : Pairing) → at < length ps → IsSeparable ps at → MatchOption o (IsOneLeft (get_or ps at q) d) (IsOneRefuted (get_or ps at q) d)
    → MatchOption o (IsSivLeft ps d at) (λ w. IsRefutedIn ps (λ p. IsOneRefuted p d w))
siv_at None ps d at q b s h = λ p l e t o. subst (λ (z : Pairing). IsOneLeft z d) (get_or_from_slice_get ps at p q e) h
siv_at (Some w) ps d at q b s h = record { at = at; pairing = get_or ps at q; is_at = slice_get-get_or ps at q b; separable = s; so = h }

pub miv_at : (o : Option Test) (ps : List Pairing) (d : Dirs) (at : ℕ) (q : Pairing) → at < length ps → IsSeparable ps at → MatchOption o (IsLeft (get_or ps at q) d) (IsSeveralRefuted (get_or ps at q) d)
    → MatchOption o (IsMivLeft ps d at) (λ w. IsRefutedIn ps (λ p. IsSeveralRefuted p d w))
miv_at None ps d at q b s h = λ p e t o. subst (λ (z : Pairing). IsLeft z d) (get_or_from_slice_get ps at p q e) h
miv_at (Some w) ps d at q b s h = record { at = at; pairing = get_or ps at q; is_at = slice_get-get_or ps at q b; separable = s; so = h }

-- one pair more without a loop
pub ziv_more : (ps : List Pairing) (k : ℕ) (e : Pairing) → IsZiv (get_or ps k e) → ((j : ℕ) (q : Pairing) → j < k → slice_get ps j ≡ Some q → IsZiv q) → (j : ℕ) (q : Pairing) → j < k + 1 → slice_get ps j ≡ Some q → IsZiv q
ziv_more ps k e z a j q b f =
    elim (cases_eq j k) [
      | inl s ↦ subst IsZiv (get_or_from_slice_get ps k q e (subst (λ (m : ℕ). slice_get ps m ≡ Some q) s f)) z
      | inr u ↦ a j q (omega arith) f
    ]
