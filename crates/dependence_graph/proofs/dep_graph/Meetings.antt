-- Instances of a nest that touch a common cell, and iterations of two references at which they meet.
use Rattle.std.proofs.Common.{◌≡◌, ◌⊎◌, inl, inr, ℕ, zero, suc, ◌+◌, ◌-◌, ◌<◌, ◌≤◌, refl, sym, ap, ap₂, ◌∙◌, subst, arith, Option, Some, None, Bool, true, false, List, [], ◌∷◌, ◌++◌, length, map, take, get_or}
use Rattle.std.specs.Prelude.{ℤ, pos, negsuc, ◌-ℤ◌, All, IfSome, IsTrue, MatchOption, ⊤, slice_get}
use Rattle.std.proofs.lemmas.Int.{ints}
use Rattle.std.proofs.lemmas.List.{get_or-take, length-append, length-map, length-take}
use Rattle.std.proofs.lemmas.List.Elements.{All-cons, All-head, All-nil, All-tail}
use Rattle.meaning.specs.Store.{Cell}
use Rattle.tree.specs.Plain.{Expression, Only, Section, Subscripts, no_subscripts, subscript, Reference}
use Rattle.subscripts.specs.Classes.{at_place}
use Rattle.subscripts.specs.Forms.{WithinSpans, difference, value_at}
use Rattle.subscripts.specs.Iterations.{IsRelated}
use Rattle.subscripts.specs.declared.affine.Affine.{Affine}
use Rattle.subscripts.specs.declared.affine.Dir.TheVariants.{Any}
use Rattle.subscripts.specs.declared.affine.Dirs.{Dirs}
use Rattle.subscripts.specs.declared.affine.Span.{Span}
use Rattle.subscripts.specs.declared.pairing.Pairing.{Pairing}
use Rattle.linear_forms.specs.Linear.{Form, form_of, number_at}
use Rattle.linear_forms.specs.Affines.{IsAffineOf, IsFound}
use Rattle.nest.specs.Bodies.{Standing}
use Rattle.nest.specs.Plain.{Loop}
use Rattle.direction_vectors.specs.vector_tests.Pairs.{IsInVector, IsIteration, IsMeeting}
use Rattle.dependence_graph.specs.nest_graph.Instances.{AreTurns}
use Rattle.dependence_graph.specs.nest_graph.References.{variables_round}
use Rattle.dependence_graph.specs.nest_graph.Ready.{AreElements, HaveTrips}
use Rattle.dependence_graph.specs.nest_graph.Tested.{common_of}
use Rattle.dependence_graph.specs.nest_graph.Touched.{AreSubscriptsAt, IsSubscriptAt, Touches, symbol_values_from}
use Rattle.dependence_graph.specs.nest_references.Occurrences.{AreFormsIn, IsFormIn}
use Rattle.dependence_graph.specs.loop_spans.Greatest.{AreSpansOf}
use Rattle.dependence_graph.proofs.loop_spans.TurnLaws.{fixed_turns, spans_length, turns_within}
use Rattle.dependence_graph.specs.dep_graph.Joined.{pairing_with, pairings_with}
use Rattle.dependence_graph.proofs.dep_graph.FormValues.{affine_value}
use Rattle.dependence_graph.proofs.dep_graph.Lists.{iteration_front, iteration_is, iteration_of, iterations_count, ones, padded_at, with_ones}
use Rattle.dependence_graph.proofs.dep_graph.Places.{form_short}

-- ---- one subscript

module _ (loops symbols : List (List ℕ)) (values : ℕ → ℤ) (x : List ℤ) (deep : length x ≡ length loops) where
  form_value : (e : Expression) (f : Form) (a : Affine) → form_of loops symbols e ≡ Some f → IsAffineOf (length loops) f a
      → value_at a values (with_ones x) ≡ number_at f (x ++ symbol_values_from values 0 symbols)
  form_value e f a g h =
      affine_value f a symbols values x (ones (length x)) (subst (λ (n : ℕ). IsAffineOf n f a) (sym deep) h)
      (let s = form_short loops symbols e f g in omega (arith, length-append loops symbols))

  -- a linear subscript has the form's value
  pub value_of_subscript : (e : Expression) (a : Affine) (z : ℤ) → IsFound (length loops) (form_of loops symbols e) (Some a) → IsSubscriptAt loops symbols values x e z
      → z ≡ value_at a values (with_ones x)
  value_of_subscript e a z h k = by (form_of loops symbols e) refl h k
    where
      by : (o : Option Form) → form_of loops symbols e ≡ o → IsFound (length loops) o (Some a)
          → MatchOption o ⊤ (λ (f : Form). z ≡ number_at f (x ++ symbol_values_from values 0 symbols)) → z ≡ value_at a values (with_ones x)
      by None g i j = absurd i
      by (Some f) g i j = j ∙ sym (form_value e f a g i)

  pub subscript_of_value : (e : Expression) (a : Affine) (z : ℤ) → IsFound (length loops) (form_of loops symbols e) (Some a) → z ≡ value_at a values (with_ones x)
      → IsSubscriptAt loops symbols values x e z
  subscript_of_value e a z h k = by (form_of loops symbols e) refl h
    where
      by : (o : Option Form) → form_of loops symbols e ≡ o → IsFound (length loops) o (Some a)
          → MatchOption o ⊤ (λ (f : Form). z ≡ number_at f (x ++ symbol_values_from values 0 symbols))
      by None g i = absurd i
      by (Some f) g i = k ∙ form_value e f a g i

-- ---- all subscripts

difference_zero : (z v w : ℤ) → z ≡ v → z ≡ w → v -ℤ w ≡ pos 0
difference_zero z v w e f = omega (arith, ints)

zero_difference : (v w : ℤ) → v -ℤ w ≡ pos 0 → v ≡ w
zero_difference v w e = omega (arith, ints)

module _ (first second symbols : List (List ℕ)) (values : ℕ → ℤ) (x y : List ℤ) (deep : length x ≡ length first) (deeper : length y ≡ length second)
    (blank : Pairing) (unknown : blank.known ≡ false) where
  abbrev IsEqual : Pairing → Type 0
  IsEqual p = IsTrue p.known → difference p values (with_ones x) (with_ones y) ≡ pos 0

  blank_equal : IsEqual blank
  blank_equal h = absurd (no (sym h ∙ unknown))
    where
      no : true ≡ false → ⊥
      no e = cc

  one_equal : (e f : Expression) (p q : Option Affine) (z : ℤ) → IsFormIn first symbols (Only e) p → IsFormIn second symbols (Only f) q
      → IsSubscriptAt first symbols values x e z → IsSubscriptAt second symbols values y f z → IsEqual (pairing_with blank p q)
  one_equal e f None q z h k i j = blank_equal
  one_equal e f (Some a) None z h k i j = blank_equal
  one_equal e f (Some a) (Some b) z h k i j = λ t.
      difference_zero z _ _ (value_of_subscript first symbols values x deep e a z h i) (value_of_subscript second symbols values y deeper f b z k j)

  pub all_equal : (rs us : Subscripts) (ps qs : List (Option Affine)) (zs : List ℤ) → AreFormsIn first symbols rs ps → AreFormsIn second symbols us qs
      → AreSubscriptsAt first symbols values x rs zs → AreSubscriptsAt second symbols values y us zs → All IsEqual (pairings_with blank ps qs)
  all_equal rs us [] qs zs h k i j = All-nil IsEqual
  all_equal rs us (p ∷ ps) [] zs h k i j = All-nil IsEqual
  all_equal no_subscripts us (p ∷ ps) (q ∷ qs) zs h k i j = absurd h
  all_equal (subscript r rs) no_subscripts (p ∷ ps) (q ∷ qs) zs h k i j = absurd k
  all_equal (subscript (Section a b s) rs) (subscript u us) (p ∷ ps) (q ∷ qs) zs h k i j = absurd i
  all_equal (subscript (Only e) rs) (subscript (Section a b s) us) (p ∷ ps) (q ∷ qs) zs h k i j = absurd j
  all_equal (subscript (Only e) rs) (subscript (Only f) us) (p ∷ ps) (q ∷ qs) [] h k i j = absurd i
  all_equal (subscript (Only e) rs) (subscript (Only f) us) (p ∷ ps) (q ∷ qs) (z ∷ zs) h k i j =
      All-cons IsEqual (pairing_with blank p q) (pairings_with blank ps qs) (one_equal e f p q z h.0 k.0 i.0 j.0)
      (all_equal rs us ps qs zs h.1 k.1 i.1 j.1)

  -- the cell's subscripts, where all are linear
  pub record AreThere (rs us : Subscripts) : Type 0 where
    pub cells : List ℤ
    pub first_touched : AreSubscriptsAt first symbols values x rs cells
    pub second_touched : AreSubscriptsAt second symbols values y us cells

  known_blank : IsTrue blank.known → ⊥
  known_blank h = no (sym h ∙ unknown)
    where
      no : true ≡ false → ⊥
      no e = cc

  pub all_there : (rs us : Subscripts) (ps qs : List (Option Affine)) → AreElements rs → AreElements us → AreFormsIn first symbols rs ps → AreFormsIn second symbols us qs
      → length ps ≡ length qs → All (λ (p : Pairing). IsTrue p.known) (pairings_with blank ps qs) → All IsEqual (pairings_with blank ps qs) → AreThere rs us
  all_there no_subscripts no_subscripts [] [] c d h k l m n = record { cells = []; first_touched = tt; second_touched = tt }
  all_there no_subscripts us (p ∷ ps) qs c d h k l m n = absurd h
  all_there no_subscripts (subscript u us) [] [] c d h k l m n = absurd k
  all_there no_subscripts us [] (q ∷ qs) c d h k l m n = absurd (omega arith)
  all_there (subscript r rs) us [] qs c d h k l m n = absurd h
  all_there (subscript r rs) no_subscripts (p ∷ ps) [] c d h k l m n = absurd (omega arith)
  all_there (subscript r rs) no_subscripts (p ∷ ps) (q ∷ qs) c d h k l m n = absurd k
  all_there (subscript r rs) (subscript u us) (p ∷ ps) [] c d h k l m n = absurd (omega arith)
  all_there (subscript (Section a b s) rs) (subscript u us) (p ∷ ps) (q ∷ qs) c d h k l m n = absurd c
  all_there (subscript (Only e) rs) (subscript (Section a b s) us) (p ∷ ps) (q ∷ qs) c d h k l m n = absurd d
  all_there (subscript (Only e) rs) (subscript (Only f) us) (None ∷ ps) (q ∷ qs) c d h k l m n =
      absurd (known_blank (All-head (λ (p : Pairing). IsTrue p.known) blank (pairings_with blank ps qs) m))
  all_there (subscript (Only e) rs) (subscript (Only f) us) (Some a ∷ ps) (None ∷ qs) c d h k l m n =
      absurd (known_blank (All-head (λ (p : Pairing). IsTrue p.known) blank (pairings_with blank ps qs) m))
  all_there (subscript (Only e) rs) (subscript (Only f) us) (Some a ∷ ps) (Some b ∷ qs) c d h k l m n =
      let here = record blank { from = a; to = b; known = true } in
      let rest = all_there rs us ps qs c d h.1 k.1 (omega arith) (All-tail (λ (p : Pairing). IsTrue p.known) here (pairings_with blank ps qs) m) (All-tail IsEqual here (pairings_with blank ps qs) n) in
      let same : value_at a values (with_ones x) ≡ value_at b values (with_ones y) = zero_difference _ _ (All-head IsEqual here (pairings_with blank ps qs) n refl) in
      record {
        cells = value_at a values (with_ones x) ∷ rest.cells;
        first_touched = (subscript_of_value first symbols values x deep e a _ h.0 refl, rest.first_touched);
        second_touched = (subscript_of_value second symbols values y deeper f b _ k.0 same, rest.second_touched);
      }

-- ---- instances

-- of two statements, at iterations of their loops
pub record AreInstances (symbols : List (List ℕ)) (s t : Standing) (r u : Reference) (d : Dirs) (x y : List ℤ) : Type 0 where
  pub values : ℕ → ℤ
  pub cell : Cell
  pub first_turns : AreTurns values [] s.loops x
  pub second_turns : AreTurns values [] t.loops y
  pub related : (k : ℕ) → k < common_of s.loops t.loops → IsRelated (get_or d.at k Any) (at_place x k) (at_place y k)
  pub first_touches : Touches (variables_round s) symbols values x r cell
  pub second_touches : Touches (variables_round t) symbols values y u cell

-- what is known of two references
pub record AreKnown (symbols : List (List ℕ)) (s t : Standing) (r u : Reference) (blank : Pairing) (as' bs : List Span) (ps qs : List (Option Affine)) : Type 0 where
  pub first_trips : HaveTrips 0 s.loops
  pub second_trips : HaveTrips 0 t.loops
  pub first_spans : AreSpansOf [] s.loops as'
  pub second_spans : AreSpansOf [] t.loops bs
  pub first_depth : length as' ≤ 7
  pub second_depth : length bs ≤ 7
  pub first_elements : AreElements r.subscripts
  pub second_elements : AreElements u.subscripts
  pub first_forms : AreFormsIn (variables_round s) symbols r.subscripts ps
  pub second_forms : AreFormsIn (variables_round t) symbols u.subscripts qs
  pub same_rank : length ps ≡ length qs
  pub same_name : r.name ≡ u.name
  pub unknown : blank.known ≡ false
  pub common_first : common_of s.loops t.loops ≤ length as'
  pub common_second : common_of s.loops t.loops ≤ length bs

-- iterations within the spans, related as the vector says, at which all subscripts that are known are equal
pub record DoMeet (blank : Pairing) (as' bs : List Span) (ps qs : List (Option Affine)) (common : ℕ) (d : Dirs) (i j : List ℤ) : Type 0 where
  pub first : IsIteration as' i
  pub second : IsIteration bs j
  pub related : (k : ℕ) → k < common → IsRelated (get_or d.at k Any) (at_place i k) (at_place j k)
  pub values : ℕ → ℤ
  pub equal : All (λ (p : Pairing). IsTrue p.known → difference p values i j ≡ pos 0) (pairings_with blank ps qs)

round_length : (s : Standing) → length (variables_round s) ≡ length s.loops
round_length s = length-map s.loops (λ (l : Loop). l.variable)

pub instances_meet : (symbols : List (List ℕ)) (s t : Standing) (r u : Reference) (blank : Pairing) (as' bs : List Span) (ps qs : List (Option Affine)) (d : Dirs) (x y : List ℤ)
    → AreKnown symbols s t r u blank as' bs ps qs → AreInstances symbols s t r u d x y
    → (length x ≡ length as') × (length y ≡ length bs) × DoMeet blank as' bs ps qs (common_of s.loops t.loops) d (with_ones x) (with_ones y)
instances_meet symbols s t r u blank as' bs ps qs d x y k h =
    let w = turns_within 0 h.values [] [] s.loops as' x k.first_trips k.first_spans tt h.first_turns in
    let v = turns_within 0 h.values [] [] t.loops bs y k.second_trips k.second_spans tt h.second_turns in
    let m = iterations_count as' x w in let n = iterations_count bs y v in
    let deep : length x ≡ length (variables_round s) = m ∙ spans_length [] s.loops as' k.first_spans ∙ sym (round_length s) in
    let deeper : length y ≡ length (variables_round t) = n ∙ spans_length [] t.loops bs k.second_spans ∙ sym (round_length t) in (
      m,
      n,
      record {
        first = iteration_of as' x k.first_depth w;
        second = iteration_of bs y k.second_depth v;
        related = λ j l.
            let a = k.common_first in let b = k.common_second in
            subst (λ (z : ℤ). IsRelated (get_or d.at j Any) z (at_place (with_ones y) j)) (sym (padded_at x (ones (length x)) j (omega arith)))
            (subst (λ (z : ℤ). IsRelated (get_or d.at j Any) (at_place x j) z) (sym (padded_at y (ones (length y)) j (omega arith))) (h.related j l));
        values = h.values;
        equal = all_equal (variables_round s) (variables_round t) symbols h.values x y deep deeper blank k.unknown r.subscripts u.subscripts ps qs h.cell.subscripts
            k.first_forms k.second_forms h.first_touches.subscripts h.second_touches.subscripts;
      },
    )

-- where all subscripts are linear and all trips constants, references that meet are instances that touch a cell
pub meeting_instances : (symbols : List (List ℕ)) (s t : Standing) (r u : Reference) (blank : Pairing) (as' bs : List Span) (ps qs : List (Option Affine)) (d : Dirs) (i j : List ℤ)
    → AreKnown symbols s t r u blank as' bs ps qs → All (λ (a : Span). IsTrue a.fixed) as' → All (λ (a : Span). IsTrue a.fixed) bs
    → All (λ (p : Pairing). IsTrue p.known) (pairings_with blank ps qs) → DoMeet blank as' bs ps qs (common_of s.loops t.loops) d i j
    → AreInstances symbols s t r u d (take (length as') i) (take (length bs) j)
meeting_instances symbols s t r u blank as' bs ps qs d i j k f g o h =
    let x = take (length as') i in let y = take (length bs) j in
    let w = iteration_front as' i k.first_depth h.first in let v = iteration_front bs j k.second_depth h.second in
    let p = iteration_is as' i k.first_depth h.first in let q = iteration_is bs j k.second_depth h.second in
    let deep : length x ≡ length (variables_round s) = iterations_count as' x w ∙ spans_length [] s.loops as' k.first_spans ∙ sym (round_length s) in
    let deeper : length y ≡ length (variables_round t) = iterations_count bs y v ∙ spans_length [] t.loops bs k.second_spans ∙ sym (round_length t) in
    let equal : All (λ (z : Pairing). IsTrue z.known → difference z h.values (with_ones x) (with_ones y) ≡ pos 0) (pairings_with blank ps qs) =
    subst (λ (zs : List ℤ). All (λ (z : Pairing). IsTrue z.known → difference z h.values zs (with_ones y) ≡ pos 0) (pairings_with blank ps qs)) p
    (subst (λ (zs : List ℤ). All (λ (z : Pairing). IsTrue z.known → difference z h.values i zs ≡ pos 0) (pairings_with blank ps qs)) q h.equal) in
    let there = all_there (variables_round s) (variables_round t) symbols h.values x y deep deeper blank k.unknown r.subscripts u.subscripts ps qs
    k.first_elements k.second_elements k.first_forms k.second_forms k.same_rank o equal in
    record {
      values = h.values;
      cell = record { name = r.name; subscripts = there.cells };
      first_turns = fixed_turns 0 h.values [] [] s.loops as' x k.first_trips k.first_spans f w;
      second_turns = fixed_turns 0 h.values [] [] t.loops bs y k.second_trips k.second_spans g v;
      related = λ m l.
          let a = k.common_first in let b = k.common_second in
          subst (λ (z : ℤ). IsRelated (get_or d.at m Any) z (at_place y m)) (sym (get_or-take (length as') i m (pos 0) (omega arith)))
          (subst (λ (z : ℤ). IsRelated (get_or d.at m Any) (at_place i m) z) (sym (get_or-take (length bs) j m (pos 0) (omega arith))) (h.related m l));
      first_touches = record { name = refl; subscripts = there.first_touched };
      second_touches = record { name = k.same_name; subscripts = there.second_touched };
    }
