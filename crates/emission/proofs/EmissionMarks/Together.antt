-- Which marked statements stand in one loop.
use Rattle.std.proofs.Common.{◌≡◌, ◌≢◌, ◌⊎◌, ◌↔◌, ◌∙◌, inl, inr, refl, sym, ap, subst, arith, ℕ, zero, suc, ◌+◌, ◌<◌}
use Rattle.std.proofs.Common.{Some, List, [], ◌∷◌, ◌++◌, length, map, append-nil}
use Rattle.std.specs.List.{concat}
use Rattle.array_form.specs.forms.Loops.{form_names_of}
use Rattle.array_form.specs.forms.Statements.{loops_from, form_tests_of}
use Rattle.dependence_graph.specs.declared.graphs.Edge.{Edge}
use Rattle.dependence_graph.specs.declared.graphs.Hold.{Hold}
use Rattle.emission.specs.emission_pieces.Emission.{AreEmitted, AreEmittedFor, IsEmittedFor}
use Rattle.emission.specs.emission_pieces.Nests.{loops_at, standing_at}
use Rattle.emission.specs.emission_pieces.Pieces.{Piece, Kept, Formed, Turning, Pieces, no_pieces, piece}
use Rattle.emission.specs.emission_pieces.Pieces.{block_of_piece, block_of_pieces, mark_of, translation}
use Rattle.tree.specs.Plain.{Block}
use Rattle.nest_order.specs.orders.Lists.{In}
use Rattle.nest_order.proofs.orders.Lists.{In-append, In-left, In-right}
use Rattle.nest_order.proofs.orders.Membership.{In-map, map-In}
use Rattle.nest.specs.Allocations.{block_then, deallocations}
use Rattle.nest.specs.Plain.{Loop, Nest}
use Rattle.array_form.specs.holds.Surroundings.{surroundings_of}
use Rattle.emission.specs.emission_marks.Components.{IsWith}
use Rattle.emission.specs.emission_marks.Laws.{EmissionKeepsTogether, MayBeMarked}
use Rattle.emission.specs.emission_marks.ByGraph.{AreTogether}
use Rattle.emission.specs.emission_marks.Marks.{Round, StandTogether, bodies_at, bodies_in, marked_at, marked_in, turning_of}
use Rattle.emission.proofs.EmissionMarks.Blocks.{bodies_allocated, bodies_deallocated, bodies_guarded, bodies_kept, bodies_then}
use Rattle.emission.proofs.EmissionMarks.Blocks.{number_of, numbers_in, same_numbers}
use Rattle.emission.proofs.EmissionMarks.Bodies.{has_number, in_block, in_body, number_has}
use Rattle.emission.proofs.EmissionMarks.Lists.{among, contained, flat_in, in_flat, in_range}
use Rattle.emission.proofs.EmissionMarks.Marked.{number_at}
use Rattle.emission.proofs.EmissionMarks.Parts.{all_is_part, classes_same, everything, size}
use Rattle.emission.proofs.EmissionMarks.Pieces.{IsOne, IsPartIn, Marks, components_in, one_marked, turned, whole_part}
use Rattle.emission.proofs.EmissionMarks.Walks.{with_above}

module _ (n : Nest) (edges : List Edge) (holds : List Hold) (may : MayBeMarked n edges) where
  -- ---- the statements of a block that has the marks of a part

  number_in_part : (part : List ℕ) (round : List Round) (b : Block) (s : ℕ)
      → Marks n edges holds may part (marked_in round b) → In (s + 1) (numbers_in [] b) → In s part
  number_in_part part round b s marks i =
      let x = In-map number_of (s + 1) (marked_in round b) (subst (In (s + 1)) (same_numbers b [] round) i) in
      let m = marks.only x.it x.inside in
      let same : s + 1 ≡ m.0 + 1 = x.is ∙ (ap number_of m.4 ∙ number_at n edges holds may m.0 m.1) in
      let e : m.0 ≡ s = omega arith in
      subst (λ r. In r part) e m.2

  part_in_number : (part : List ℕ) (round : List Round) (b : Block) (s : ℕ)
      → Marks n edges holds may part (marked_in round b) → In s part → In (s + 1) (numbers_in [] b)
  part_in_number part round b s marks i =
      let m = marks.each s i in
      subst (In (s + 1)) (same_numbers b round [])
      (subst (λ k. In k (numbers_in round b)) (number_at n edges holds may s m.0)
      (map-In number_of (marked_at n s m.0) (marked_in round b) m.2))

  -- ---- one component in its loop

  record IsTurned (k : ℕ) (classes : List (List ℕ)) : Type 0 where
    class : List ℕ
    loop : Loop
    pieces : Pieces
    listed : In class classes
    emitted : IsEmittedFor n edges holds k class (Turning loop pieces)

  abbrev body_of : (k : ℕ) (classes : List (List ℕ)) → IsTurned k classes → Block
  body_of k classes t = block_of_pieces n (suc k) t.pieces

  abbrev HasBody : ℕ → List (List ℕ) → Block → Type 0
  HasBody k classes y = (t : IsTurned k classes) × (y ≡ body_of k classes t)

  body_in_one : (p : Piece) (k : ℕ) (c : List ℕ) (cs : List (List ℕ)) → IsEmittedFor n edges holds k c p → (y : Block)
      → In y (bodies_in (block_of_piece n k p)) → HasBody k (c ∷ cs) y
  body_in_one (Kept s) k c cs h y i =
      let x = (standing_at n s).statement in
      absurd (subst (In y) (bodies_kept x.line x.guard (Some (mark_of n s (length (loops_at n s) + 1))) x.left x.right) i)
  body_in_one (Formed s) k c cs h y i =
      let a = surroundings_of n (loops_at n s) in
      let x = (standing_at n s).statement in
      absurd (subst (In y) (bodies_guarded a k x.line (mark_of n s k) x.left x.right
      (form_tests_of (form_names_of a) (loops_from a k)) x.guard) i)
  body_in_one (Turning l qs) k c cs h y (inl e) =
      (record { class = c; loop = l; pieces = qs; listed = inl refl; emitted = h }, e)
  body_in_one (Turning l qs) k c cs h y (inr i) = absurd i

  abbrev later : (k : ℕ) (c : List ℕ) (cs : List (List ℕ)) → IsTurned k cs → IsTurned k (c ∷ cs)
  later k c cs t =
      record { class = t.class; loop = t.loop; pieces = t.pieces; listed = inr t.listed; emitted = t.emitted }

  body_in_all : (ps : Pieces) (k : ℕ) (classes : List (List ℕ)) → AreEmittedFor n edges holds k classes ps → (y : Block)
      → In y (bodies_in (block_of_pieces n k ps)) → HasBody k classes y
  body_in_all no_pieces k classes h y i = absurd i
  body_in_all (piece p ps) k [] h y i = absurd h
  body_in_all (piece p ps) k (c ∷ cs) h y i =
      by (In-append y (bodies_in (block_of_piece n k p)) (bodies_in (block_of_pieces n k ps))
      (subst (In y) (bodies_then (block_of_piece n k p) (block_of_pieces n k ps)) i)) (body_in_all ps k cs h.1 y)
    where
      by : In y (bodies_in (block_of_piece n k p)) ⊎ In y (bodies_in (block_of_pieces n k ps))
          → (In y (bodies_in (block_of_pieces n k ps)) → HasBody k cs y) → HasBody k (c ∷ cs) y
      by (inl j) more = body_in_one p k c cs h.0 y j
      by (inr j) more = let t = more j in (later k c cs t.0, t.1)

  module _ (d : ℕ) (round : List Round) (classes : List (List ℕ))
      (are : (c : List ℕ) → In c classes → IsOne n edges holds may d round c) (t : IsTurned (suc d) classes) where
    abbrev around : List Round
    around = round ++ turning_of t.loop ∷ []

    is_one : IsOne n edges holds may d round t.class
    is_one = are t.class t.listed

    inner : IsPartIn n edges holds may (suc d) around t.class
    inner = turned n edges holds may d round t.class t.loop t.pieces is_one t.emitted

    inner_marked : Marks n edges holds may t.class (marked_in around (body_of (suc d) classes t))
    inner_marked =
        subst (Marks n edges holds may t.class) (append-nil (marked_in around (body_of (suc d) classes t)))
        (one_marked n edges holds may (Turning t.loop t.pieces) d round t.class is_one t.emitted)

    inner_are : (c : List ℕ) → In c t.emitted.2.0 → IsOne n edges holds may (suc d) around c
    inner_are = components_in n edges holds may (suc d) around t.class t.emitted.2.0 inner t.emitted.2.1

    inner_same : (s : ℕ) → In s t.class ↔ In s (concat t.emitted.2.0)
    inner_same = classes_same n edges may (suc d) t.class t.emitted.2.0 inner.is_part t.emitted.2.1

  -- ---- what stands in one loop is in one component

  one_body : (j d : ℕ) (ps : Pieces) (round : List Round) (classes : List (List ℕ))
      → ((c : List ℕ) → In c classes → IsOne n edges holds may d round c)
      → AreEmittedFor n edges holds (suc d) classes ps
      → (body : Block) → In body (bodies_at (suc j) (block_of_pieces n (suc d) ps)) → (s r : ℕ)
      → In (s + 1) (numbers_in [] body) → In (r + 1) (numbers_in [] body) → IsWith edges (suc (d + j)) s r
  one_body zero d ps round classes are h body i s r a b =
      let y = in_flat (bodies_at 0) (bodies_in (block_of_pieces n (suc d) ps)) body i in
      let t = body_in_all ps (suc d) classes h y.0 y.1 in
      by t.0 (only y.2 ∙ t.1)
    where
      only : {y : Block} → In body (y ∷ []) → body ≡ y
      only (inl e) = e
      only (inr g) = absurd g

      by : (t : IsTurned (suc d) classes) → body ≡ body_of (suc d) classes t → IsWith edges (suc (d + zero)) s r
      by t e =
          let there : (q : ℕ) → In (q + 1) (numbers_in [] body) → In q t.class = λ q k.
          number_in_part t.class (around d round classes are t) (body_of (suc d) classes t) q
          (inner_marked d round classes are t)
          (subst (λ z. In (q + 1) (numbers_in [] z)) e k) in
          subst (λ k. IsWith edges (suc k) s r) (let f : d ≡ d + zero = omega arith in f)
          ((inner d round classes are t).is_part.joined s r (there s a) (there r b))
  one_body (suc j) d ps round classes are h body i s r a b =
      let y = in_flat (bodies_at (suc j)) (bodies_in (block_of_pieces n (suc d) ps)) body i in
      let t = body_in_all ps (suc d) classes h y.0 y.1 in
      subst (λ k. IsWith edges (suc k) s r) (let f : suc d + j ≡ d + suc j = omega arith in f)
      (one_body j (suc d) t.0.pieces (around d round classes are t.0) t.0.emitted.2.0
      (inner_are d round classes are t.0) t.0.emitted.2.2 body
      (subst (λ z. In body (bodies_at (suc j) z)) t.1 y.2) s r a b)

  -- ---- what is in one component stands in one loop

  record IsShared (k : ℕ) (classes : List (List ℕ)) (ps : Pieces) (s r : ℕ) : Type 0 where
    turned_one : IsTurned k classes
    first : In s turned_one.class
    second : In r turned_one.class
    body : In (body_of k classes turned_one) (bodies_in (block_of_pieces n k ps))

  two : (s r q : ℕ) (c : List ℕ) → s ≢ r → c ≡ q ∷ [] → In s c → In r c → ⊥
  two s r q c differ e i j = by (subst (In s) e i) (subst (In r) e j)
    where
      by : In s (q ∷ []) → In r (q ∷ []) → ⊥
      by (inl f) (inl g) = differ (f ∙ sym g)
      by (inr f) g = f
      by (inl f) (inr g) = g

  shared_one : (p : Piece) (ps : Pieces) (k : ℕ) (c : List ℕ) (cs : List (List ℕ)) (s r : ℕ) → s ≢ r
      → IsEmittedFor n edges holds k c p → In s c → In r c → IsShared k (c ∷ cs) (piece p ps) s r
  shared_one (Kept q) ps k c cs s r differ h i j = absurd (two s r q c differ h.0 i j)
  shared_one (Formed q) ps k c cs s r differ h i j = absurd (two s r q c differ h.0 i j)
  shared_one (Turning l qs) ps k c cs s r differ h i j = record {
    turned_one = record { class = c; loop = l; pieces = qs; listed = inl refl; emitted = h };
    first = i;
    second = j;
    body = inl refl;
  }

  shared : (ps : Pieces) (k : ℕ) (classes : List (List ℕ)) (s r : ℕ) → s ≢ r → AreEmittedFor n edges holds k classes ps
      → In s (concat classes) → ((c : List ℕ) → In c classes → In s c → In r c) → IsShared k classes ps s r
  shared no_pieces k [] s r differ h i all = absurd i
  shared no_pieces k (c ∷ cs) s r differ h i all = absurd h
  shared (piece p ps) k [] s r differ h i all = absurd h
  shared (piece p ps) k (c ∷ cs) s r differ h i all =
      by (In-append s c (concat cs) i) (λ j. shared ps k cs s r differ h.1 j (λ b g. all b (inr g)))
    where
      by : In s c ⊎ In s (concat cs) → (In s (concat cs) → IsShared k cs ps s r) → IsShared k (c ∷ cs) (piece p ps) s r
      by (inl j) more = shared_one p ps k c cs s r differ h.0 j (all c (inl refl) j)
      by (inr j) more =
          let f = more j in
          let b = body_of k cs f.turned_one in
          record {
            turned_one = later k c cs f.turned_one;
            first = f.first;
            second = f.second;
            body = subst (In b) (sym (bodies_then (block_of_piece n k p) (block_of_pieces n k ps)))
                (In-right b (bodies_in (block_of_piece n k p)) (bodies_in (block_of_pieces n k ps)) f.body);
          }

  abbrev HaveBody : ℕ → Block → ℕ → ℕ → Type 0
  HaveBody k b s r =
      (body : Block) × In body (bodies_at k b) × In (s + 1) (numbers_in [] body) × In (r + 1) (numbers_in [] body)

  -- r stands in the class of s
  in_class : (j d : ℕ) (round : List Round) (classes : List (List ℕ))
      → ((c : List ℕ) → In c classes → IsOne n edges holds may d round c) → (s r : ℕ) → r < size n edges may
      → IsWith edges (suc (d + j)) s r → (c : List ℕ) → In c classes → In s c → In r c
  in_class j d round classes are s r g w c i k =
      (are c i).is_part.whole s r k g
      (with_above edges (suc d) j s r
      (subst (λ m. IsWith edges m s r) (let e : suc (d + j) ≡ suc d + j = omega arith in e) w))

  share_body : (j d : ℕ) (ps : Pieces) (round : List Round) (classes : List (List ℕ))
      → ((c : List ℕ) → In c classes → IsOne n edges holds may d round c)
      → AreEmittedFor n edges holds (suc d) classes ps
      → (s r : ℕ) → s ≢ r → r < size n edges may → In s (concat classes) → IsWith edges (suc (d + j)) s r
      → HaveBody (suc j) (block_of_pieces n (suc d) ps) s r
  share_body zero d ps round classes are h s r differ g i w =
      let f = shared ps (suc d) classes s r differ h i (in_class zero d round classes are s r g w) in
      let t = f.turned_one in
      let b = body_of (suc d) classes t in
      let marks = inner_marked d round classes are t in (
        b,
        flat_in (bodies_at 0) (bodies_in (block_of_pieces n (suc d) ps)) b b f.body (inl refl),
        part_in_number t.class (around d round classes are t) b s marks f.first,
        part_in_number t.class (around d round classes are t) b r marks f.second,
      )
  share_body (suc j) d ps round classes are h s r differ g i w =
      let f = shared ps (suc d) classes s r differ h i (in_class (suc j) d round classes are s r g w) in
      let t = f.turned_one in
      let more = share_body j (suc d) t.pieces (around d round classes are t) t.emitted.2.0
      (inner_are d round classes are t) t.emitted.2.2 s r differ g
      ((inner_same d round classes are t s).0 f.first)
      (subst (λ k. IsWith edges (suc k) s r) (let e : d + suc j ≡ suc d + j = omega arith in e) w) in (
        more.0,
        flat_in (bodies_at (suc j)) (bodies_in (block_of_pieces n (suc d) ps)) more.0
            (body_of (suc d) classes t) f.body more.1,
        more.2,
        more.3,
      )

  -- ---- the nest

  module _ (ps : Pieces) (h : AreEmitted n edges holds 1 (everything n edges may) ps) where
    bodies_there : bodies_in (translation n ps) ≡ bodies_in (block_of_pieces n 1 ps) ++ bodies_in n.after
    bodies_there =
        let ends : Block = deallocations n.line n.made in
        bodies_allocated n.line n.made (block_then (block_of_pieces n 1 ps) (block_then n.after ends))
        ∙ (bodies_then (block_of_pieces n 1 ps) (block_then n.after ends)
        ∙ ap (λ xs. bodies_in (block_of_pieces n 1 ps) ++ xs)
        (bodies_then n.after ends
        ∙ (ap (λ xs. bodies_in n.after ++ xs) (bodies_deallocated n.line n.made) ∙ append-nil (bodies_in n.after))))

    outermost : (c : List ℕ) → In c h.classes → IsOne n edges holds may 0 [] c
    outermost =
        components_in n edges holds may 0 [] (everything n edges may) h.classes (whole_part n edges holds may)
        h.components

    to_with : (j s r : ℕ) → StandTogether (suc j) (translation n ps) s r → IsWith edges (suc j) s r
    to_with j s r t =
        let a = has_number t.body s t.first in
        let b = has_number t.body r t.second in
        let y = in_flat (bodies_at j) (bodies_in (translation n ps)) t.body
        (among (bodies_at (suc j) (translation n ps)) t.body t.among) in
        by y.0 a b y.2 (In-append y.0 (bodies_in (block_of_pieces n 1 ps)) (bodies_in n.after)
        (subst (In y.0) bodies_there y.1))
      where
        by : (y : Block) → In (s + 1) (numbers_in [] t.body) → In (r + 1) (numbers_in [] t.body)
            → In t.body (bodies_at j y)
            → In y (bodies_in (block_of_pieces n 1 ps)) ⊎ In y (bodies_in n.after) → IsWith edges (suc j) s r
        by y a b i (inl k) =
            subst (λ m. IsWith edges (suc m) s r) (let e : 0 + j ≡ j = omega arith in e)
            (one_body j 0 ps [] h.classes outermost h.emitted t.body
            (flat_in (bodies_at j) (bodies_in (block_of_pieces n 1 ps)) t.body y k i) s r a b)
        by y a b i (inr k) =
            absurd (subst (λ xs. In (s + 1) (map number_of xs)) may.after
            (in_block n.after [] y (s + 1) (in_body j y t.body (s + 1) i a) k))

    from_with : (j s r : ℕ) → s < size n edges may → r < size n edges may → s ≢ r → IsWith edges (suc j) s r
        → StandTogether (suc j) (translation n ps) s r
    from_with j s r low high differ w =
        let all = in_range 0 (size n edges may) s (omega arith) (omega arith) in
        let same = classes_same n edges may 0 (everything n edges may) h.classes (all_is_part n edges may)
        h.components in
        let b = share_body j 0 ps [] h.classes outermost h.emitted s r differ high ((same s).0 all)
        (subst (λ m. IsWith edges (suc m) s r) (let e : j ≡ 0 + j = omega arith in e) w) in
        let y = in_flat (bodies_at j) (bodies_in (block_of_pieces n 1 ps)) b.0 b.1 in
        let inside = subst (In y.0) (sym bodies_there) (In-left y.0 (bodies_in (block_of_pieces n 1 ps))
        (bodies_in n.after) y.1) in
        record {
          body = b.0;
          among =
              contained (bodies_at (suc j) (translation n ps)) b.0
              (flat_in (bodies_at j) (bodies_in (translation n ps)) b.0 y.0 inside y.2);
          first = number_has b.0 s b.2;
          second = number_has b.0 r b.3;
        }

    pub are_together : AreTogether n edges (translation n ps)
    are_together s r zero low high differ one first second = absurd (omega arith)
    are_together s r (suc j) low high differ one first second = (to_with j s r, from_with j s r low high differ)

pub emission_keeps_together : EmissionKeepsTogether
emission_keeps_together n edges holds ps may h = are_together n edges holds may ps h
