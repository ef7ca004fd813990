-- The marks of what is emitted, piece by piece.
use Rattle.std.proofs.Common.{◌≡◌, ◌∙◌, inl, inr, refl, sym, ap, subst, arith, ℕ, suc, ◌+◌, ◌-◌, ◌<◌, ◌≤◌}
use Rattle.std.proofs.Common.{Contains, List, [], ◌∷◌, ◌++◌, length, map, take, take_all, append-nil}
use Rattle.std.specs.List.{concat}
use Rattle.std.proofs.lemmas.List.{map-append}
use Rattle.array_form.specs.forms.Loops.{FormSurroundings, form_names_of}
use Rattle.array_form.specs.forms.Statements.{loops_from, form_tests_of}
use Rattle.dependence_graph.specs.declared.graphs.Edge.{Edge}
use Rattle.dependence_graph.specs.declared.graphs.Hold.{Hold}
use Rattle.emission.specs.emission_pieces.Emission.{AreEmitted, AreEmittedFor, IsEmittedFor}
use Rattle.emission.specs.emission_pieces.Levels.{AreComponents}
use Rattle.emission.specs.emission_pieces.Nests.{loops_at, standing_at}
use Rattle.emission.specs.emission_pieces.Pieces.{Piece, Kept, Formed, Turning, Pieces, no_pieces, piece}
use Rattle.emission.specs.emission_pieces.Pieces.{block_of_piece, block_of_pieces, kept_assignment, mark_of, translation}
use Rattle.tree.specs.Plain.{Expression, Block}
use Rattle.nest_order.specs.orders.Lists.{Distinct, In}
use Rattle.nest_order.proofs.orders.Once.{Pairwise-right}
use Rattle.nest.specs.Allocations.{block_then, deallocations}
use Rattle.nest.specs.Plain.{Guarded, Loop, Nest}
use Rattle.array_form.specs.holds.Surroundings.{surroundings_of}
use Rattle.emission.specs.emission_marks.Components.{IsAloneAt, IsLevel}
use Rattle.emission.specs.emission_marks.Laws.{EmissionIsMarked, MayBeMarked}
use Rattle.emission.specs.emission_marks.Marks.{Marked, Round, conditions_of, marked_at, marked_in, turning_of}
use Rattle.emission.specs.emission_marks.Marks.{guard_round}
use Rattle.emission.proofs.EmissionMarks.Blocks.{marked_allocated, marked_deallocated, marked_form, marked_guarded, marked_kept}
use Rattle.emission.proofs.EmissionMarks.Blocks.{marked_then, number_of}
use Rattle.emission.proofs.EmissionMarks.Lists.{among, contained, from_distinct, in_range, take_next}
use Rattle.emission.proofs.EmissionMarks.Marked.{HasMarks, IsComponentIn, formed_is, formed_level, kept_is, kept_level}
use Rattle.emission.proofs.EmissionMarks.Marked.{more_marks, one_mark, same_marks, still_late}
use Rattle.emission.proofs.EmissionMarks.Parts.{IsPart, all_is_part, class_is_part, classes_once, classes_same, everything}
use Rattle.emission.proofs.EmissionMarks.Parts.{in_part, next_loop, size}

module _ (n : Nest) (edges : List Edge) (holds : List Hold) (may : MayBeMarked n edges) where
  abbrev pub IsOne : ℕ → List Round → List ℕ → Type 0
  IsOne d round c = IsComponentIn n edges holds may d round c

  abbrev pub Marks : List ℕ → List Marked → Type 0
  Marks part xs = HasMarks n edges holds may part xs

  -- a part within d loops, of whose statements none is alone at one of these
  pub record IsPartIn (d : ℕ) (round : List Round) (part : List ℕ) : Type 0 where
    pub is_part : IsPart n edges may d part
    pub loops : (s : ℕ) → In s part → round ≡ map turning_of (take d (loops_at n s))
    pub late : (s j : ℕ) → In s part → IsAloneAt n edges holds s j → d < j

  pub components_in : (d : ℕ) (round : List Round) (part : List ℕ) (classes : List (List ℕ)) → IsPartIn d round part
      → AreComponents edges (suc d) part classes → (c : List ℕ) → In c classes → IsOne d round c
  components_in d round part classes is given c i = record {
    is_part = class_is_part n edges may d part classes is.is_part given c i;
    loops = λ s j. is.loops s (of_part s j);
    late = λ s j k a. is.late s j (of_part s k) a;
  }
    where
      of_part : (s : ℕ) → In s c → In s part
      of_part s j = in_part n edges may d part classes is.is_part given c i s j

  -- in its next loop
  pub turned : (d : ℕ) (round : List Round) (c : List ℕ) (l : Loop) (ps : Pieces) → IsOne d round c
      → IsEmittedFor n edges holds (suc d) c (Turning l ps) → IsPartIn (suc d) (round ++ turning_of l ∷ []) c
  turned d round c l ps is h = record {
    is_part = is.is_part;
    loops = λ s i. ap (λ around. around ++ turning_of l ∷ []) (is.loops s i)
        ∙ (sym (map-append turning_of (take d (loops_at n s)) (l ∷ []))
        ∙ ap (map turning_of)
        (sym (take_next (loops_at n s) d l (next_loop n edges may holds d c l is.is_part h.0 s i))));
    late = λ s j i a. still_late n edges holds may d round c is h.1 s j i a;
  }

  -- ---- single statements

  kept_marked : (d s : ℕ) (round : List Round) → IsOne d round (s ∷ []) → length (loops_at n s) < suc d
      → marked_in round (block_of_piece n (suc d) (Kept s)) ≡ marked_at n s (length (loops_at n s) + 1) ∷ []
  kept_marked d s round is h =
      marked_kept round x.line x.guard (mark_of n s (length (loops_at n s) + 1)) x.left x.right
      ∙ ap (λ y. y ∷ []) (ap kept same ∙ sym (kept_is n edges holds may s (length (loops_at n s) + 1) (omega arith)))
    where
      x : Guarded
      x = (standing_at n s).statement

      kept : List Round → Marked
      kept around = record {
        round = around ++ guard_round x.guard;
        mark = mark_of n s (length (loops_at n s) + 1);
        statement = kept_assignment n s;
      }

      same : round ≡ map turning_of (take (length (loops_at n s) + 1 - 1) (loops_at n s))
      same =
          is.loops s (inl refl)
          ∙ ap (map turning_of) (take_all d (loops_at n s) (omega arith)
          ∙ sym (take_all (length (loops_at n s) + 1 - 1) (loops_at n s) (omega arith)))

  formed_marked : (d s : ℕ) (round : List Round) → IsOne d round (s ∷ []) → suc d ≤ length (loops_at n s)
      → marked_in round (block_of_piece n (suc d) (Formed s)) ≡ marked_at n s (suc d) ∷ []
  formed_marked d s round is h =
      marked_guarded a (suc d) x.line (mark_of n s (suc d)) x.left x.right round tests x.guard
      ∙ ap (λ y. y ∷ []) (ap formed same ∙ sym (formed_is n edges holds may s (suc d) h))
    where
      a : FormSurroundings
      a = surroundings_of n (loops_at n s)

      x : Guarded
      x = (standing_at n s).statement

      tests : List Expression
      tests = form_tests_of (form_names_of a) (loops_from a (suc d))

      formed : List Round → Marked
      formed around =
          marked_form a (suc d) x.line (mark_of n s (suc d)) x.left x.right (around ++ conditions_of tests) x.guard

      same : round ≡ map turning_of (take (suc d - 1) (loops_at n s))
      same =
          is.loops s (inl refl)
          ∙ (let e : d ≡ suc d - 1 = omega arith in ap (λ k. map turning_of (take k (loops_at n s))) e)

  -- ---- all pieces

  mutual
    pub one_marked : (p : Piece) (d : ℕ) (round : List Round) (c : List ℕ) → IsOne d round c
        → IsEmittedFor n edges holds (suc d) c p → Marks c (marked_in round (block_of_piece n (suc d) p))
    one_marked (Kept s) d round c is h =
        let one = subst (IsOne d round) h.0 is in
        subst (λ part. Marks part (marked_in round (block_of_piece n (suc d) (Kept s)))) (sym h.0)
        (subst (Marks (s ∷ [])) (sym (kept_marked d s round one h.1))
        (one_mark n edges holds may s (length (loops_at n s) + 1) (kept_level n edges holds may d s round one h.1)))
    one_marked (Formed s) d round c is h =
        let one = subst (IsOne d round) h.0 is in
        subst (λ part. Marks part (marked_in round (block_of_piece n (suc d) (Formed s)))) (sym h.0)
        (subst (Marks (s ∷ [])) (sym (formed_marked d s round one h.1))
        (one_mark n edges holds may s (suc d) (formed_level n edges holds may d s round one h.1 h.2)))
    one_marked (Turning l ps) d round c is h =
        let inner = turned d round c l ps is h in
        let around = round ++ turning_of l ∷ [] in
        subst (Marks c) (sym (append-nil (marked_in around (block_of_pieces n (suc (suc d)) ps))))
        (same_marks n edges holds may c (concat h.2.0) (marked_in around (block_of_pieces n (suc (suc d)) ps))
        (classes_same n edges may (suc d) c h.2.0 inner.is_part h.2.1)
        (all_marked ps (suc d) around h.2.0 (components_in (suc d) around c h.2.0 inner h.2.1)
        (classes_once n edges may (suc d) c h.2.0 inner.is_part h.2.1) h.2.2))

    pub all_marked : (ps : Pieces) (d : ℕ) (round : List Round) (classes : List (List ℕ))
        → ((c : List ℕ) → In c classes → IsOne d round c) → Distinct (concat classes)
        → AreEmittedFor n edges holds (suc d) classes ps
        → Marks (concat classes) (marked_in round (block_of_pieces n (suc d) ps))
    all_marked no_pieces d round [] are once h =
        record { only = λ x i. absurd i; each = λ s i. absurd i; once = tt }
    all_marked no_pieces d round (c ∷ cs) are once h = absurd h
    all_marked (piece p ps) d round [] are once h = absurd h
    all_marked (piece p ps) d round (c ∷ cs) are once h =
        subst (Marks (c ++ concat cs))
        (sym (marked_then round (block_of_piece n (suc d) p) (block_of_pieces n (suc d) ps)))
        (more_marks n edges holds may c (concat cs) (marked_in round (block_of_piece n (suc d) p))
        (marked_in round (block_of_pieces n (suc d) ps)) once (one_marked p d round c (are c (inl refl)) h.0)
        (all_marked ps d round cs (λ b i. are b (inr i)) (Pairwise-right (λ x y. ¬ (x ≡ y)) c (concat cs) once) h.1))

  -- ---- the nest

  pub whole_part : IsPartIn 0 [] (everything n edges may)
  whole_part = record {
    is_part = all_is_part n edges may;
    loops = λ s i. refl;
    late = λ s j i a. a.first;
  }

  pub whole_marked : (ps : Pieces) → AreEmitted n edges holds 1 (everything n edges may) ps
      → Marks (everything n edges may) (marked_in [] (block_of_pieces n 1 ps))
  whole_marked ps h =
      same_marks n edges holds may (everything n edges may) (concat h.classes) (marked_in [] (block_of_pieces n 1 ps))
      (classes_same n edges may 0 (everything n edges may) h.classes (all_is_part n edges may) h.components)
      (all_marked ps 0 [] h.classes (components_in 0 [] (everything n edges may) h.classes whole_part h.components)
      (classes_once n edges may 0 (everything n edges may) h.classes (all_is_part n edges may) h.components) h.emitted)

  marked_translation : (ps : Pieces) → marked_in [] (translation n ps) ≡ marked_in [] (block_of_pieces n 1 ps)
  marked_translation ps =
      let ends : Block = deallocations n.line n.made in
      marked_allocated [] n.line n.made (block_then (block_of_pieces n 1 ps) (block_then n.after ends))
      ∙ (marked_then [] (block_of_pieces n 1 ps) (block_then n.after ends)
      ∙ (ap (λ xs. marked_in [] (block_of_pieces n 1 ps) ++ xs)
      (marked_then [] n.after ends
      ∙ (ap (λ xs. xs ++ marked_in [] ends) may.after ∙ marked_deallocated [] n.line n.made))
      ∙ append-nil (marked_in [] (block_of_pieces n 1 ps))))

  pub translation_marked : (ps : Pieces) → AreEmitted n edges holds 1 (everything n edges may) ps
      → Marks (everything n edges may) (marked_in [] (translation n ps))
  translation_marked ps h = subst (Marks (everything n edges may)) (sym (marked_translation ps)) (whole_marked ps h)

pub emission_is_marked : EmissionIsMarked
emission_is_marked n edges holds ps may h = record {
  only = λ x i. only (marks.only x (among all x i));
  each = λ s g. each s (marks.each s (in_range 0 (size n edges may) s (omega arith) (omega arith)));
  once = from_distinct (map number_of all) marks.once;
}
  where
    all : List Marked
    all = marked_in [] (translation n ps)

    marks : Marks n edges holds may (everything n edges may) all
    marks = translation_marked n edges holds may ps h

    only : {x : Marked} → (s k : ℕ) × In s (everything n edges may) × IsLevel n edges holds s k × (x ≡ marked_at n s k)
        → (s k : ℕ) × (s < size n edges may) × IsLevel n edges holds s k × (x ≡ marked_at n s k)
    only m = (m.0, m.1, (all_is_part n edges may).inside m.0 m.2, m.3, m.4)

    each : (s : ℕ) → (k : ℕ) × IsLevel n edges holds s k × In (marked_at n s k) all
        → (k : ℕ) × IsLevel n edges holds s k × Contains all (marked_at n s k)
    each s m = (m.0, m.1, contained all (marked_at n s m.0) m.2)
