-- The only right listings of nests with a subscript that isn't linear.
use Rattle.std.proofs.Common.{◌≡◌, inl, inr, ℕ, zero, suc, refl, sym, ap, ◌∙◌, subst, arith, Option, Some, None, List, [], ◌∷◌}
use Rattle.std.specs.Prelude.{ℤ, pos, ◌<ℤ◌, codes, slice_get}
use Rattle.std.specs.List.{AllZip}
use Rattle.std.proofs.lemmas.Int.{ints}
use Rattle.tree.specs.Plain.{Binary, Expression, Reference}
use Rattle.tree.specs.declared.ops.Op.TheVariants.{Mul}
use Rattle.subscripts.specs.Forms.{AreRelated}
use Rattle.subscripts.specs.declared.verdict.Test.{Test}
use Rattle.subscripts.specs.declared.verdict.Test.TheVariants.{Strong, Unknown, Ziv}
use Rattle.components.specs.Lists.{IsMember}
use Rattle.dependence_graph.specs.declared.graphs.Dep.TheVariants.{Anti, Flow, Output}
use Rattle.dependence_graph.specs.nest_graph.Arcs.{Assumed, Couple, Met, Never, Verdict}
use Rattle.dependence_graph.specs.nest_graph.Graph.{IsCouple}
use Rattle.dependence_graph.specs.nest_graph.Indices.{IsSeparable, SubscriptPair, subscript_pairs}
use Rattle.dependence_graph.specs.nest_graph.Pair.{Pair}
use Rattle.dependence_graph.specs.nest_graph.References.{references_of}
use Rattle.dependence_graph.specs.nest_graph.Refuted.{IsInVector, IsRefuted, IsWithin, pair_difference, lasts_round}
use Rattle.dependence_graph.specs.nest_graph.Tested.{Both}
use Rattle.dependence_graph.specs.nest_graph.Words.{IsEdgeWord, IsFirstNotZiv}
use Rattle.dependence_graph.specs.worked_graphs.Listed.{HasOnly, assumed, at, drop, less}
use Rattle.dependence_graph.specs.worked_graphs.Nests.{beside_square, element, i, of_square, value, with_square}
use Rattle.dependence_graph.proofs.worked_graphs.Couples.{AreMeeting, drops}
use Rattle.dependence_graph.proofs.worked_graphs.Keys.{in_all, key}
use Rattle.dependence_graph.proofs.worked_graphs.OneAnswer.{IsRightHere, couple, refs, right_answer}
use Rattle.dependence_graph.proofs.worked_graphs.OneLoop.{IsEnd, line, standing, turn_of}
use Rattle.dependence_graph.proofs.worked_graphs.Pairs.{HasOnlyFront, IsOnlyPair, drop_word, in_one_loop, stands}
use Rattle.dependence_graph.proofs.worked_graphs.Worked.{drops_by, edges_by, elementwise_differ, left_one, one_couple, same_three, three_couples}

-- ---- A(I) = A(I*I)

abbrev square : Expression
square = value "A" (Binary Mul i i)

abbrev square_reference : Reference
square_reference = element "A" (Binary Mul i i)

square_first : IsEnd (references_of (standing 100 refl (element "A" i) square)) 0 (element "A" i) (pos 1) (pos 0)
square_first = record {
  index = i;
  found = line (pos 1) (pos 0);
  there = refl;
  subs = refl;
  form = refl;
  line = record { front = refl; past = λ k. refl; value = λ n. refl };
}

square_own : (x y : ℤ) → AreMeeting 100 refl (element "A" i) square 0 0 (element "A" i) (element "A" i) (pos 1) (pos 0) (pos 1) (pos 0) square_first square_first Output refl x y → ⊥
square_own x y m = (let e = m.equal in let f = m.before in let l = m.low in let k = m.high in omega (arith, ints))

-- the pair of two subscripts that aren't both linear
module _ (b : Both) (unknown : subscript_pairs b ≡ None ∷ []) where
  not_linear : (k : ℕ) (p : SubscriptPair) → slice_get (subscript_pairs b) k ≡ Some (Some p) → ⊥
  not_linear k p e = by k (subst (λ (os : List (Option SubscriptPair)). slice_get os k ≡ Some (Some p)) unknown e)
    where
      by : (k : ℕ) → slice_get (None ∷ []) k ≡ Some (Some p) → ⊥
      by zero f = cc
      by (suc k) f = cc

  separable : (k : ℕ) → IsSeparable b k
  separable k m c = absurd (not_linear k c.first c.first_is)

  not_ziv : Ziv ≡ Unknown → ⊥
  not_ziv e = cc

  first_not_ziv : IsFirstNotZiv b 0 None
  first_not_ziv = record {
    is_at = ap (λ (os : List (Option SubscriptPair)). slice_get os 0) unknown;
    not_ziv = not_ziv;
    earlier = λ m q l e. absurd (omega arith);
  }

  pub unknown_word : (w : Test) → IsEdgeWord b w → w ≡ Unknown
  unknown_word w h = h.separable 0 None first_not_ziv (separable 0)

module _ (x : Couple) where
  flow_pair : Pair of_square (record { from = at 0; to = at 1; kind = Flow; vector = less }) (pos 1 ∷ []) (pos 2 ∷ [])
  flow_pair = record {
    values = λ m. pos 0;
    cell = record { name = codes "A"; subscripts = pos 1 ∷ [] };
    refs = record {
      first = standing 100 refl (element "A" i) square;
      second = standing 100 refl (element "A" i) square;
      first_reference = element "A" i;
      second_reference = square_reference;
      first_is = record { statement = refl; reference = refl };
      second_is = record { statement = refl; reference = refl };
      same_name = refl;
    };
    first_instance = record { standing = standing 100 refl (element "A" i) square; is_at = refl; turns = turn_of 100 refl (element "A" i) square (λ m. pos 0) (pos 1) (omega (arith, ints)) (omega (arith, ints)) };
    second_instance = record { standing = standing 100 refl (element "A" i) square; is_at = refl; turns = turn_of 100 refl (element "A" i) square (λ m. pos 0) (pos 2) (omega (arith, ints)) (omega (arith, ints)) };
    related = (omega (arith, ints), tt);
    first_touches = record { name = refl; subscripts = (refl, tt) };
    second_touches = record { name = refl; subscripts = (tt, tt) };
  }

  anti_pair : Pair of_square (record { from = at 1; to = at 0; kind = Anti; vector = less }) (pos 1 ∷ []) (pos 2 ∷ [])
  anti_pair = record {
    values = λ m. pos 0;
    cell = record { name = codes "A"; subscripts = pos 2 ∷ [] };
    refs = record {
      first = standing 100 refl (element "A" i) square;
      second = standing 100 refl (element "A" i) square;
      first_reference = square_reference;
      second_reference = element "A" i;
      first_is = record { statement = refl; reference = refl };
      second_is = record { statement = refl; reference = refl };
      same_name = refl;
    };
    first_instance = record { standing = standing 100 refl (element "A" i) square; is_at = refl; turns = turn_of 100 refl (element "A" i) square (λ m. pos 0) (pos 1) (omega (arith, ints)) (omega (arith, ints)) };
    second_instance = record { standing = standing 100 refl (element "A" i) square; is_at = refl; turns = turn_of 100 refl (element "A" i) square (λ m. pos 0) (pos 2) (omega (arith, ints)) (omega (arith, ints)) };
    related = (omega (arith, ints), tt);
    first_touches = record { name = refl; subscripts = (tt, tt) };
    second_touches = record { name = refl; subscripts = (refl, tt) };
  }

  flow_verdict : (v : Verdict) → IsRightHere 100 refl (element "A" i) square 0 1 (element "A" i) square_reference refl refl Flow refl v → v ≡ Assumed Unknown
  flow_verdict (Never w) h = absurd (h.without_pair less stands (pos 1 ∷ [], (pos 2 ∷ [], flow_pair)))
  flow_verdict (Met y z w) h = absurd (h.exact.subscripts 0 None (omega arith))
  flow_verdict (Assumed w) h = ap (λ (t : Test). Assumed t) (unknown_word (refs 100 refl (element "A" i) square 0 1 (element "A" i) square_reference refl refl Flow refl) refl w h.word)

  anti_verdict : (v : Verdict) → IsRightHere 100 refl (element "A" i) square 1 0 square_reference (element "A" i) refl refl Anti refl v → v ≡ Assumed Unknown
  anti_verdict (Never w) h = absurd (h.without_pair less stands (pos 1 ∷ [], (pos 2 ∷ [], anti_pair)))
  anti_verdict (Met y z w) h = absurd (h.exact.subscripts 0 None (omega arith))
  anti_verdict (Assumed w) h = ap (λ (t : Test). Assumed t) (unknown_word (refs 100 refl (element "A" i) square 1 0 square_reference (element "A" i) refl refl Anti refl) refl w h.word)

  flow_couple : IsCouple of_square x → key x ≡ (at 0, at 1) → x ≡ couple 100 refl (element "A" i) square 0 1 (element "A" i) square_reference refl refl Flow refl ((less, Assumed Unknown) ∷ [])
  flow_couple h e =
      let one = right_answer 100 refl (element "A" i) square 0 1 (element "A" i) square_reference refl refl Flow refl x h e in
      one.1 ∙ ap (λ (v : Verdict). couple 100 refl (element "A" i) square 0 1 (element "A" i) square_reference refl refl Flow refl ((less, v) ∷ [])) (flow_verdict one.0 one.2)

  anti_couple : IsCouple of_square x → key x ≡ (at 1, at 0) → x ≡ couple 100 refl (element "A" i) square 1 0 square_reference (element "A" i) refl refl Anti refl ((less, Assumed Unknown) ∷ [])
  anti_couple h e =
      let one = right_answer 100 refl (element "A" i) square 1 0 square_reference (element "A" i) refl refl Anti refl x h e in
      one.1 ∙ ap (λ (v : Verdict). couple 100 refl (element "A" i) square 1 0 square_reference (element "A" i) refl refl Anti refl ((less, v) ∷ [])) (anti_verdict one.0 one.2)

pub of_square_listed : HasOnly of_square (assumed (at 0) (at 1) Flow "A" Unknown ∷ assumed (at 1) (at 0) Anti "A" Unknown ∷ []) (drop (at 0) (at 0) Output "A" Strong ∷ [])
of_square_listed g h =
    let t = three_couples 100 refl (element "A" i) square (element "A" i) square_reference refl refl g h in
    let each : (c : Couple) → IsMember c (t.0 ∷ t.1 ∷ t.2 ∷ []) → IsCouple of_square c =
    λ c j. in_all (IsCouple of_square) h.couples c h.each (subst (λ (cs : List Couple). IsMember c cs) (sym t.3) j) in
    let own = drops 100 refl (element "A" i) square 0 0 (element "A" i) (element "A" i) (pos 1) (pos 0) (pos 1) (pos 0) square_first square_first Output refl (left_one (pos 1)) Strong refl (omega (arith, ints)) square_own t.0 (each t.0 (inl refl)) t.4 in
    let flow = flow_couple t.1 (each t.1 (inr (inl refl))) t.5 in
    let anti = anti_couple t.2 (each t.2 (inr (inr (inl refl)))) t.6 in
    let all = t.3 ∙ same_three t.0 t.1 t.2 _ _ _ own flow anti in
    (edges_by h.couples _ g.edges h.edges all, drops_by h.couples _ g.dropped h.dropped all)

-- ---- A(I,I*I) = B(I)

abbrev right : Expression
right = value "B" i

abbrev b : Both
b = refs 100 refl with_square right 0 0 with_square with_square refl refl Output refl

abbrev own_pair : SubscriptPair
own_pair = record { first = line (pos 1) (pos 0); second = line (pos 1) (pos 0) }

only_first : (k : ℕ) (p : SubscriptPair) → slice_get (subscript_pairs b) k ≡ Some (Some p) → (k ≡ 0) × (own_pair ≡ p)
only_first zero p e = (refl, cc)
only_first (suc zero) p e = cc
only_first (suc (suc k)) p e = cc

only_own : IsOnlyPair b own_pair
only_own = record { is_at = refl; only = only_first }

front : HasOnlyFront own_pair.first (pos 1)
front = record { front = refl; past = λ k. refl }

-- an earlier iteration makes the first side less
one_less : (x y : List ℤ) → IsInVector b less x y → (values : ℕ → ℤ) → pair_difference b own_pair values x y <ℤ pos 0
one_less x y h values = by x y h.first h.second h.related
  where
    by : (x y : List ℤ) → AllZip IsWithin (lasts_round b.first) x → AllZip IsWithin (lasts_round b.second) y → AreRelated less x y → pair_difference b own_pair values x y <ℤ pos 0
    by [] y f g r = absurd f
    by (k ∷ x) [] f g r = absurd g
    by (k ∷ x) (l ∷ y) f g r = less_by k l x y r.0
      where
        less_by : (k l : ℤ) (x y : List ℤ) → k <ℤ l → pair_difference b own_pair values (k ∷ x) (l ∷ y) <ℤ pos 0
        less_by k l x y e = omega (arith, ints)

refuted : IsRefuted b less
refuted = inr (inl (record { at = 0; pair = own_pair; is_at = refl; refuted = inr (inr (λ values x y h. one_less x y h values)) }))

own_verdict : (v : Verdict) → IsRightHere 100 refl with_square right 0 0 with_square with_square refl refl Output refl v → v ≡ Never Strong
own_verdict (Never w) h =
    ap (λ (t : Test). Never t)
    (drop_word 100 b own_pair (pos 1) (pos 1) (in_one_loop 100 refl with_square right 0 0 with_square with_square refl refl) only_own front front (left_one (pos 1)) Strong refl
    (omega (arith, ints)) w (h.word less stands))
own_verdict (Met y z w) h = absurd (h.exact.subscripts 1 None (omega arith))
own_verdict (Assumed w) h = absurd (h.unrefuted less stands refuted)

own_couple : (x : Couple) → IsCouple beside_square x → key x ≡ (at 0, at 0) → x ≡ couple 100 refl with_square right 0 0 with_square with_square refl refl Output refl ((less, Never Strong) ∷ [])
own_couple x h e =
    let one = right_answer 100 refl with_square right 0 0 with_square with_square refl refl Output refl x h e in
    one.1 ∙ ap (λ (v : Verdict). couple 100 refl with_square right 0 0 with_square with_square refl refl Output refl ((less, v) ∷ [])) (own_verdict one.0 one.2)

pub beside_square_listed : HasOnly beside_square [] (drop (at 0) (at 0) Output "A" Strong ∷ [])
beside_square_listed g h =
    let t = one_couple 100 refl with_square right with_square (element "B" i) refl elementwise_differ g h in
    let each : (c : Couple) → IsMember c (t.0 ∷ []) → IsCouple beside_square c =
    λ c j. in_all (IsCouple beside_square) h.couples c h.each (subst (λ (cs : List Couple). IsMember c cs) (sym t.1) j) in
    let own = own_couple t.0 (each t.0 (inl refl)) t.2 in
    let all = t.1 ∙ ap (λ (c : Couple). c ∷ []) own in
    (edges_by h.couples _ g.edges h.edges all, drops_by h.couples _ g.dropped h.dropped all)
