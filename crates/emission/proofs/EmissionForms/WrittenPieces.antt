-- The pieces that are emitted for a nest are what their shapes stand for, with array forms in the place of loops.
use Rattle.std.proofs.Common.{◌≡◌, inl, inr, refl, sym, ap, subst, ◌∙◌, ℕ, zero, suc, ◌+◌, ◌-◌, ◌<◌, Bool, true, false}
use Rattle.std.proofs.Common.{◌&&◌, cond, List, [], ◌∷◌, ◌++◌, length, drop, Option, Some, None, append_assoc}
use Rattle.std.proofs.Common.{append-nil, arith}
use mathlib.Core.Path.{ap₂}
use Rattle.std.specs.Prelude.{nat_lt}
use Rattle.std.specs.List.{concat, range_with_len}
use Rattle.std.specs.Str.{bytes_eq}
use Rattle.std.proofs.lemmas.Bool.{lt-ltb}
use Rattle.std.proofs.lemmas.List.{length-append, length-map, length-drop}
use Rattle.std.proofs.lemmas.Slice.Eq.{bytes_eq-Decides}
use Rattle.dependence_graph.specs.declared.graphs.Edge.{Edge}
use Rattle.dependence_graph.specs.declared.graphs.Hold.{Hold}
use Rattle.emission.proofs.EmissionPieces.Emitted.{components_of}
use Rattle.emission.proofs.EmissionPieces.Ordered.{statements_are}
use Rattle.emission.specs.emission_pieces.Emission.{AreEmittedFor, IsEmittedFor}
use Rattle.emission.specs.emission_pieces.Levels.{may_be_formed}
use Rattle.emission.specs.emission_pieces.Nests.{loops_at}
use Rattle.emission.specs.emission_pieces.Pieces.{Piece, Kept, Formed, Turning, Pieces, no_pieces, piece, block_of_piece}
use Rattle.emission.specs.emission_pieces.Pieces.{block_of_pieces, formed_block}
use Rattle.emission.specs.emission_pieces.Shapes.{numbers_at, shape_of, shapes_of}
use Rattle.tree.specs.Plain.{Statement, Block, no_statements, statement}
use Rattle.emission.proofs.GraphEdges.Leading.{graph_emission}
use Rattle.emission.specs.graph_orders.Nests.{run_nest}
use Rattle.nest_order.proofs.orders.Once.{Pairwise-left, Pairwise-right}
use Rattle.nest_order.specs.orders.Lists.{In, Each, Distinct}
use Rattle.nest_order.specs.orders.Shapes as shapes
use Rattle.nest_order.specs.orders.Shapes.{Shape, Shapes, no_shapes, shape, Stands, StandsIn}
use Rattle.nest_order.specs.runs.Alone.{chain}
use Rattle.nest_order.specs.runs.Blocks.{loop_of, or_statement, written, written_in}
use Rattle.nest_order.specs.shapes.Shapes as nests
use Rattle.nest.specs.Allocations.{block_then}
use Rattle.nest.specs.Bodies.{nest_loops, nest_statements}
use Rattle.nest.specs.Plain.{Loop, Nest}
use Rattle.emission.proofs.EmissionForms.LoneShapes.{lone_in_chain, lone_inside, one_formed, same_statement}
use Rattle.emission.proofs.EmissionForms.WrittenTables.{kept_is, loop_of_nest, loops_once, ready_is_shallow, turning_is}
use Rattle.emission.specs.emission_forms.Forms.{Lone, form_of_lone, formed, lone_among, lone_in, marked_layout}
use Rattle.emission.specs.emission_forms.Forms.{may_stand, only_in, stands_in}
use Rattle.emission.specs.emission_forms.Laws.{PiecesAreWritten}

-- ---- words on lists

each_distinct : (cs : List (List ℕ)) → Distinct (concat cs) → Each Distinct cs
each_distinct [] h = tt
each_distinct (c ∷ cs) h =
    (Pairwise-left (λ x y. ¬ (x ≡ y)) c (concat cs) h, each_distinct cs (Pairwise-right (λ x y. ¬ (x ≡ y)) c (concat cs) h))

one_alone : (c : List ℕ) (x : ℕ) → Distinct c → In x c → ((s : ℕ) → In s c → s ≡ x) → c ≡ x ∷ []
one_alone [] x once i all = absurd i
one_alone (a ∷ []) x once i all = ap (λ s. s ∷ []) (all a (inl refl))
one_alone (a ∷ b ∷ c) x once i all = absurd (once.0.0 (all a (inl refl) ∙ sym (all b (inr (inl refl)))))

in_one : (s x : ℕ) → In s (x ∷ []) → s ≡ x
in_one s x (inl e) = e
in_one s x (inr h) = absurd h

in_range : (m a s : ℕ) → In s (range_with_len a m) → s < a + m
in_range zero a s h = absurd h
in_range (suc m) a s (inl e) = omega arith
in_range (suc m) a s (inr h) = let g = in_range m (a + 1) s h in omega arith

in_range_from_zero : (m s : ℕ) → In s (range_with_len 0 m) → s < m
in_range_from_zero m s h = let g = in_range m 0 s h in omega arith

range_after : (m a b : ℕ) → b < a → Each (λ y. ¬ (b ≡ y)) (range_with_len a m)
range_after zero a b h = tt
range_after (suc m) a b h = ((λ e. absurd (omega arith)), range_after m (a + 1) b (omega arith))

range_distinct : (m a : ℕ) → Distinct (range_with_len a m)
range_distinct zero a = tt
range_distinct (suc m) a = (range_after m (a + 1) a (omega arith), range_distinct m (a + 1))

length_next : (round : List ℕ) (l d : ℕ) → length round ≡ d → length (round ++ l ∷ []) ≡ suc d
length_next round l d at = let e = length-append round (l ∷ []) in omega arith

both : (a b : Bool) → a ≡ true → b ≡ true → (a && b) ≡ true
both a b e f = ap₂ (λ x y. x && y) e f

neither : (a b : Bool) → b ≡ false → (a && b) ≡ false
neither true b f = f
neither false b f = refl

-- ---- a class with one statement alone

module _ (n : Nest) (edges : List Edge) (holds : List Hold) where
  mutual
    lone_class : (d : ℕ) (c : List ℕ) (p : Piece) (x : Lone) → Distinct c → IsEmittedFor n edges holds (suc d) c p
        → lone_in (shape_of n d p) ≡ Some x → c ≡ x.statement ∷ []
    lone_class d c (Kept s) x once h e = h.0 ∙ ap (λ r. r ∷ []) (same_statement (record { loops = []; statement = s }) x e)
    lone_class d c (Formed s) x once h e =
        let ls = drop d (numbers_at n s) in
        h.0 ∙ ap (λ r. r ∷ []) (same_statement (record { loops = ls; statement = s }) x (sym (lone_in_chain ls s) ∙ e))
    lone_class d c (Turning l ps) x once h e =
        let y = lone_inside l.number (lone_among (shapes_of n (suc d) ps)) x e in
        let classes = h.2.0 in
        let inner = components_of edges (suc d) c classes once h.2.1 in
        let all = lone_classes (suc d) classes ps y.0 (each_distinct classes inner.once) h.2.2 y.1 in
        let same : concat classes ≡ x.statement ∷ [] = all ∙ ap (λ r. r ∷ []) y.2 in
        one_alone c x.statement once
        ((inner.same x.statement).1 (subst (λ cs. In x.statement cs) (sym same) (inl refl)))
        (λ s i. in_one s x.statement (subst (λ cs. In s cs) same ((inner.same s).0 i)))

    lone_classes : (d : ℕ) (cs : List (List ℕ)) (ps : Pieces) (x : Lone) → Each Distinct cs → AreEmittedFor n edges holds (suc d) cs ps
        → lone_among (shapes_of n d ps) ≡ Some x → concat cs ≡ x.statement ∷ []
    lone_classes d [] no_pieces x once h e = absurd cc
    lone_classes d (c ∷ cs) no_pieces x once h e = absurd h
    lone_classes d [] (piece p ps) x once h e = absurd h
    lone_classes d (c ∷ []) (piece p no_pieces) x once h e = append-nil c ∙ lone_class d c p x once.0 h.0 e
    lone_classes d (c ∷ b ∷ cs) (piece p no_pieces) x once h e = absurd h.1
    lone_classes d (c ∷ cs) (piece p (piece q ps)) x once h e = absurd cc

-- ---- array forms

chain_stands : (ls : List ℕ) (s : ℕ) → Stands (chain ls s) s ls
chain_stands [] s = refl
chain_stands (l ∷ ls) s = (refl, inl (chain_stands ls s))

module _ (n : Nest) (edges : List Edge) (holds : List Hold) where
  abbrev write : List ℕ → Shape → Statement
  write round t = written (run_nest n) (marked_layout n) (formed n edges holds) round t

  abbrev write_in : List ℕ → Shapes → Block
  write_in round ts = written_in (run_nest n) (marked_layout n) (formed n edges holds) round ts

  abbrev Known : List ℕ → ℕ → List ℕ → Type 0
  Known round s ls = (s < length (nest_statements n)) × (numbers_at n s ≡ round ++ ls)

  has_form : (round ls : List ℕ) (s : ℕ) → Known round s ls → may_be_formed edges holds (suc (length round)) s ≡ true
      → may_stand n edges holds round (record { loops = ls; statement = s }) ≡ true
  has_form round ls s known may =
      both (stands_in n edges holds round (record { loops = ls; statement = s })) (may_be_formed edges holds (suc (length round)) s)
      (both (nat_lt s (length (nest_statements n))) (bytes_eq (numbers_at n s) (round ++ ls))
      (lt-ltb s (length (nest_statements n)) known.0)
      ((bytes_eq-Decides (numbers_at n s) (round ++ ls)).1 known.1))
      may

  form_is : (round ls : List ℕ) (s : ℕ) → 0 < length ls → Known round s ls → may_be_formed edges holds (suc (length round)) s ≡ true
      → statement (write round (chain ls s)) no_statements ≡ formed_block n (suc (length round)) s
  form_is round [] s more known may = absurd (omega arith)
  form_is round (l ∷ ls) s more known may =
      let k = suc (length round) in
      let one = one_formed n k s in
      let body = loop_of (run_nest n) (marked_layout n) l (write_in (round ++ l ∷ []) (shape (chain ls s) no_shapes)) in
      let found : form_of_lone n edges holds round (lone_in (chain (l ∷ ls) s)) ≡ Some one.is =
      ap (form_of_lone n edges holds round) (lone_in_chain (l ∷ ls) s)
      ∙ (ap (λ b. cond b (only_in (formed_block n k s)) None) (has_form round (l ∷ ls) s known may)
      ∙ ap only_in one.block) in
      ap (λ o. statement (or_statement o body) no_statements) found ∙ sym one.block

  no_form : (round : List ℕ) (o : Option Lone)
      → ((x : Lone) → o ≡ Some x → may_be_formed edges holds (suc (length round)) x.statement ≡ false)
      → form_of_lone n edges holds round o ≡ None
  no_form round None h = refl
  no_form round (Some x) h =
      ap (λ b. cond b (only_in (formed_block n (suc (length round)) x.statement)) None)
      (neither (stands_in n edges holds round x) (may_be_formed edges holds (suc (length round)) x.statement) (h x refl))

  one_more : (round : List ℕ) (l s : ℕ) (ls : List ℕ) → Known round s (l ∷ ls) → Known (round ++ l ∷ []) s ls
  one_more round l s ls known = (known.0, known.1 ∙ sym (append_assoc round (l ∷ []) ls))

  -- ---- all pieces

  module _ (plain : nests.IsPlain n.body) (apart : Distinct (nests.numbers_of (nest_loops n))) where
    mutual
      piece_is : (d : ℕ) (round : List ℕ) (c : List ℕ) (p : Piece) → length round ≡ d → Distinct c
          → IsEmittedFor n edges holds (suc d) c p
          → ((s : ℕ) (ls : List ℕ) → Stands (shape_of n d p) s ls → Known round s ls)
          → statement (write round (shape_of n d p)) no_statements ≡ block_of_piece n (suc d) p
      piece_is d round c (Kept s) at once h known = ap (λ b. statement b no_statements) (kept_is n s (known s [] refl).0)
      piece_is d round c (Formed s) at once h known =
          let ls = drop d (numbers_at n s) in
          let more : 0 < length ls =
          let f = length-drop d (numbers_at n s) in
          let g = length-map (loops_at n s) (λ (l : Loop). l.number) in
          let k = h.1 in
          omega arith in
          let may : may_be_formed edges holds (suc (length round)) s ≡ true = ap (λ m. may_be_formed edges holds (suc m) s) at ∙ h.2 in
          form_is round ls s more (known s ls (chain_stands ls s)) may ∙ ap (λ m. formed_block n (suc m) s) at
      piece_is d round c (Turning l ps) at once h known =
          let classes = h.2.0 in
          let inner = components_of edges (suc d) c classes once h.2.1 in
          let ts = shapes_of n (suc d) ps in
          let next = round ++ l.number ∷ [] in
          let none : form_of_lone n edges holds round (lone_in (shapes.Loop l.number ts)) ≡ None =
          no_form round (lone_in (shapes.Loop l.number ts))
          (λ x e. ap (λ m. may_be_formed edges holds (suc m) x.statement) at
          ∙ h.1 x.statement (lone_class n edges holds d c (Turning l ps) x once h e)) in
          ap (λ o. statement (or_statement o (loop_of (run_nest n) (marked_layout n) l.number (write_in next ts))) no_statements) none
          ∙ (ap (λ b. statement (loop_of (run_nest n) (marked_layout n) l.number b) no_statements)
          (pieces_are (suc d) next classes ps (length_next round l.number d at) (each_distinct classes inner.once) h.2.2
          (λ s ls i. one_more round l.number s ls (known s (l.number ∷ ls) (refl, i))))
          ∙ ap (λ b. statement b no_statements)
          (turning_is n l (block_of_pieces n (suc (suc d)) ps) apart (loop_of_nest n h.0.statement (suc d - 1) l plain h.0.loop)))

      pieces_are : (d : ℕ) (round : List ℕ) (cs : List (List ℕ)) (ps : Pieces) → length round ≡ d → Each Distinct cs
          → AreEmittedFor n edges holds (suc d) cs ps
          → ((s : ℕ) (ls : List ℕ) → StandsIn (shapes_of n d ps) s ls → Known round s ls)
          → write_in round (shapes_of n d ps) ≡ block_of_pieces n (suc d) ps
      pieces_are d round [] no_pieces at once h known = refl
      pieces_are d round (c ∷ cs) no_pieces at once h known = absurd h
      pieces_are d round [] (piece p ps) at once h known = absurd h
      pieces_are d round (c ∷ cs) (piece p ps) at once h known =
          ap (λ b. statement (write round (shape_of n d p)) b) (pieces_are d round cs ps at once.1 h.1 (λ s ls i. known s ls (inr i)))
          ∙ ap (λ b. block_then b (block_of_pieces n (suc d) ps)) (piece_is d round c p at once.0 h.0 (λ s ls i. known s ls (inl i)))

pub pieces_are_written : PiecesAreWritten
pieces_are_written n g holds ps plain ready graph h =
    let apart = loops_once n ready in
    let part = range_with_len 0 (length (nest_statements n)) in
    let arranged = (graph_emission n g holds ps (λ l before. 0) plain apart (ready_is_shallow n ready) graph h).0 in
    let inner = components_of g.edges 0 part h.classes (range_distinct (length (nest_statements n)) 0) h.components in
    pieces_are n g.edges holds plain apart 0 [] h.classes ps refl (each_distinct h.classes inner.once) h.emitted
    (λ s ls i. (let w = arranged.only s ls i in
    (in_range_from_zero (length (nest_statements n)) s (subst (λ xs. In s xs) (sym (statements_are n plain)) w.0), w.1)))
