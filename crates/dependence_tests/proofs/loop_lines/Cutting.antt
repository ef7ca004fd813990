-- A pairing of one loop, cut to it: the iterations of a pair are those of that loop, and 1 in each other place.
use Rattle.std.proofs.Common.{◌≡◌, ◌≢◌, ℕ, ◌<◌, List, length, get_or, set, length-set, refl, ap, subst, sym, arith, ◌∙◌, inl, inr, get_or-set_other, get_or-set_same}
use Rattle.std.specs.Prelude.{ℤ, pos}
use Rattle.std.proofs.lemmas.Int.{ints}
use Rattle.std.proofs.lemmas.Bool.{cases_eq}
use Rattle.std.proofs.lemmas.List.{ext_get_or, get_or-replicate}
use Rattle.subscripts.specs.Classes.{Loop, Shared, First, Second, HasOneLoop, at_place}
use Rattle.subscripts.specs.Cuts.{cut, cut_dirs}
use Rattle.subscripts.specs.Iterations.{WithinSpan, once}
use Rattle.subscripts.specs.Shapes.{IsPairing, AreDirsOf}
use Rattle.subscripts.specs.declared.affine.Dir.TheVariants.{Any}
use Rattle.subscripts.specs.declared.affine.Dirs.{Dirs}
use Rattle.subscripts.specs.declared.pairing.Pairing.{Pairing}
use Rattle.dependence_tests.specs.loop_lines.OneLoop.{dir_of, ones, HasSevenPlaces}
use Rattle.dependence_tests.proofs.loop_lines.Indexed.{mattering_once, mattering_kept, asked_any, asked_kept}
use Rattle.dependence_tests.proofs.loop_lines.Crossings.{first_zero, second_zero, place_of, within_seven}

-- a place other than the loop's
pub not_shared : (l : Loop) (m : ℕ) → (m ≡ place_of l → ⊥) → Shared m ≡ l → ⊥
not_shared l m n e = n (ap place_of e)

pub not_first : (l : Loop) (m : ℕ) → (m ≡ place_of l → ⊥) → First m ≡ l → ⊥
not_first l m n e = n (ap place_of e)

pub not_second : (l : Loop) (m : ℕ) → (m ≡ place_of l → ⊥) → Second m ≡ l → ⊥
not_second l m n e = n (ap place_of e)

no_shared_second : (p : Pairing) (l : Loop) (m : ℕ) → HasOneLoop p l → m < p.common → Second m ≡ l → ⊥
no_shared_second p l m h b e = let g = subst (λ (z : Loop). HasOneLoop p z) (sym e) h in omega (arith, g.matters.loop.0)

no_shared_first : (p : Pairing) (l : Loop) (m : ℕ) → HasOneLoop p l → m < p.common → First m ≡ l → ⊥
no_shared_first p l m h b e = let g = subst (λ (z : Loop). HasOneLoop p z) (sym e) h in omega (arith, g.matters.loop.0)

-- ---- spans of the cut pairing

pub from_once : (p : Pairing) (d : Dirs) (l : Loop) (m : ℕ) → HasSevenPlaces p d → HasOneLoop p l → m < 7 → (Shared m ≡ l → ⊥) → (First m ≡ l → ⊥)
    → get_or (cut p).from_spans m once ≡ once
from_once p d l m n h b s f =
    mattering_once p.common p.from.loops p.to.loops p.from_spans m (omega (arith, n.from_loops, n.from_spans)) (omega (arith, n.to_loops, n.from_spans)) (omega (arith, n.from_spans))
    (first_zero p l m h b s f) (λ c. second_zero p l m h b s (no_shared_second p l m h c))

pub to_once : (p : Pairing) (d : Dirs) (l : Loop) (m : ℕ) → HasSevenPlaces p d → HasOneLoop p l → m < 7 → (Shared m ≡ l → ⊥) → (Second m ≡ l → ⊥)
    → get_or (cut p).to_spans m once ≡ once
to_once p d l m n h b s f =
    mattering_once p.common p.to.loops p.from.loops p.to_spans m (omega (arith, n.to_loops, n.to_spans)) (omega (arith, n.from_loops, n.to_spans)) (omega (arith, n.to_spans))
    (second_zero p l m h b s f) (λ c. first_zero p l m h b s (no_shared_first p l m h c))

pub from_kept : (p : Pairing) (d : Dirs) (k : ℕ) → HasSevenPlaces p d → k < 7 → (at_place p.from.loops k ≡ pos 0 → (k < p.common → at_place p.to.loops k ≡ pos 0) → ⊥)
    → get_or (cut p).from_spans k once ≡ get_or p.from_spans k once
from_kept p d k n b u =
    mattering_kept p.common p.from.loops p.to.loops p.from_spans k (omega (arith, n.from_loops, n.from_spans)) (omega (arith, n.to_loops, n.from_spans)) (omega (arith, n.from_spans)) u

pub to_kept : (p : Pairing) (d : Dirs) (k : ℕ) → HasSevenPlaces p d → k < 7 → (at_place p.to.loops k ≡ pos 0 → (k < p.common → at_place p.from.loops k ≡ pos 0) → ⊥)
    → get_or (cut p).to_spans k once ≡ get_or p.to_spans k once
to_kept p d k n b u =
    mattering_kept p.common p.to.loops p.from.loops p.to_spans k (omega (arith, n.to_loops, n.to_spans)) (omega (arith, n.from_loops, n.to_spans)) (omega (arith, n.to_spans)) u

-- ---- directions of the cut pairing

pub other_any : (p : Pairing) (d : Dirs) (l : Loop) (m : ℕ) → HasSevenPlaces p d → HasOneLoop p l → m < 7 → (m ≡ place_of l → ⊥) → get_or (cut_dirs p d).at m Any ≡ Any
other_any p d l m n h b u =
    asked_any p.from.loops p.to.loops d.at m (omega (arith, n.from_loops, n.dirs)) (omega (arith, n.to_loops, n.dirs)) (omega (arith, n.dirs))
    (first_zero p l m h b (not_shared l m u) (not_first l m u)) (second_zero p l m h b (not_shared l m u) (not_second l m u))

kept_dir : (p : Pairing) (d : Dirs) (k : ℕ) → HasSevenPlaces p d → k < 7 → (at_place p.from.loops k ≡ pos 0 → at_place p.to.loops k ≡ pos 0 → ⊥)
    → get_or (cut_dirs p d).at k Any ≡ get_or d.at k Any
kept_dir p d k n b u = asked_kept p.from.loops p.to.loops d.at k (omega (arith, n.from_loops, n.dirs)) (omega (arith, n.to_loops, n.dirs)) (omega (arith, n.dirs)) u

pub own_dir : (p : Pairing) (d : Dirs) (l : Loop) → IsPairing p → AreDirsOf p d → HasSevenPlaces p d → HasOneLoop p l → get_or (cut_dirs p d).at (place_of l) Any ≡ dir_of d l
own_dir p d (Shared k) i a n h = kept_dir p d k n (within_seven p (Shared k) i h) h.matters.some
own_dir p d (First k) i a n h = kept_dir p d k n h.matters.loop.1 (λ z w. h.matters.some z refl) ∙ a.past_len k h.matters.loop.0
own_dir p d (Second k) i a n h = kept_dir p d k n h.matters.loop.1 (λ z w. h.matters.some refl w) ∙ a.past_len k h.matters.loop.0

-- ---- lists of ones

pub one_only : (i : ℤ) → WithinSpan once i → i ≡ pos 1
one_only i w = omega (arith, ints, w.low, w.high)

pub only_one : WithinSpan once (pos 1)
only_one = record { low = omega (arith, ints); high = omega (arith, ints) }

pub ones_at : (k : ℕ) → k < 7 → get_or ones k (pos 0) ≡ pos 1
ones_at k h = get_or-replicate 7 k (pos 1) (pos 0) h

pub ones_from : (x : List ℤ) → length x ≡ 7 → ((m : ℕ) → m < 7 → get_or x m (pos 0) ≡ pos 1) → x ≡ ones
ones_from x e h = ext_get_or (pos 0) x ones e (λ m l. let b : m < 7 = omega arith in h m b ∙ sym (ones_at m b))

pub set_from : (x : List ℤ) (k : ℕ) → length x ≡ 7 → k < 7 → ((m : ℕ) → m < 7 → (m ≡ k → ⊥) → get_or x m (pos 0) ≡ pos 1) → x ≡ set ones k (at_place x k)
set_from x k e b h =
    ext_get_or (pos 0) x (set ones k (at_place x k)) (simp length-set (omega arith))
    (λ m l. let c : m < 7 = omega arith in
    elim (cases_eq m k) [
      | inl s ↦ subst (λ (z : ℕ). get_or x z (pos 0) ≡ get_or (set ones k (at_place x k)) z (pos 0)) (sym s) (let kl : k < length ones = omega arith in rw get_or-set_same refl)
      | inr u ↦ let v : m ≢ k = u in rw get_or-set_other (h m c u ∙ sym (ones_at m c))
    ])

pub set_at : (k : ℕ) (i : ℤ) → k < 7 → at_place (set ones k i) k ≡ i
set_at k i h = let kl : k < length ones = omega arith in rw get_or-set_same refl

pub set_beside : (k m : ℕ) (i : ℤ) → m < 7 → (m ≡ k → ⊥) → at_place (set ones k i) m ≡ pos 1
set_beside k m i h u = let v : m ≢ k = u in rw get_or-set_other (ones_at m h)
