-- The graph of a nest is complete.
use Rattle.std.proofs.Common.{◌≡◌, ◌⊎◌, ℕ, ◌<◌, List, [], ◌∷◌, ◌++◌, length, get_or, zero, suc, refl, ap, subst, sym, arith, ◌∙◌, inl, inr, Some, None, Option}
use Rattle.std.specs.Prelude.{All, slice_get}
use Rattle.std.proofs.lemmas.Option.{get_or_from_slice_get, slice_get_within}
use Rattle.subscripts.specs.declared.affine.Dir.{Dir}
use Rattle.subscripts.specs.declared.verdict.Test.{Test}
use Rattle.components.specs.Lists.{IsMember}
use Rattle.dependence_graph.specs.declared.graphs.Dep.{Dep}
use Rattle.dependence_graph.specs.declared.graphs.Dropped.{Dropped}
use Rattle.dependence_graph.specs.declared.graphs.Edge.{Edge}
use Rattle.dependence_graph.specs.declared.graphs.Graph.{Graph}
use Rattle.dependence_graph.specs.declared.graphs.Place.{Place}
use Rattle.nest.specs.Plain.{Nest}
use Rattle.dependence_graph.specs.nest_graph.Arcs.{VectorVerdict, Assumed, Couple, Met, Never, Verdict, drop_of, drops_of, edge_of, edges_of, in_places, vector_level, with_some}
use Rattle.dependence_graph.specs.nest_graph.Complete.{HasDropFor, HasEdgeFor, IsComplete}
use Rattle.dependence_graph.specs.nest_graph.Graph.{IsCouple, IsGraphOf, IsRightVerdict, all_drops, all_edges, candidate_of}
use Rattle.dependence_graph.specs.nest_graph.Pair.{Candidate, HasPair, IsCandidate, kind_between}
use Rattle.dependence_graph.specs.nest_graph.Tested.{Both, both}
use Rattle.dependence_graph.specs.nest_graph.Vectors.{HoldsOnce, StandsFor}
use Rattle.dependence_graph.proofs.dep_graph.Directions.{listed, listed_places}

-- ---- lists

in_front : {X : Type 0} (x : X) (xs ys : List X) → IsMember x xs → IsMember x (xs ++ ys)
in_front {X} x [] ys h = absurd h
in_front {X} x (z ∷ xs) ys h = elim h [ inl e ↦ inl e | inr r ↦ inr (in_front {X = X} x xs ys r) ]

in_rest : {X : Type 0} (x : X) (xs ys : List X) → IsMember x ys → IsMember x (xs ++ ys)
in_rest {X} x [] ys h = h
in_rest {X} x (z ∷ xs) ys h = inr (in_rest {X = X} x xs ys h)

in_either : {X : Type 0} (x : X) (xs ys : List X) → IsMember x (xs ++ ys) → IsMember x xs ⊎ IsMember x ys
in_either {X} x [] ys h = inr h
in_either {X} x (z ∷ xs) ys h = elim h [ inl e ↦ inl (inl e) | inr r ↦ elim (in_either {X = X} x xs ys r) [ inl a ↦ inl (inr a) | inr b ↦ inr b ] ]

-- ---- edges and drops of a couple

kept : (o : Option Edge) (e : Edge) (es : List Edge) → IsMember e es → IsMember e (with_some o es)
kept None e es h = h
kept (Some f) e es h = inr h

in_edges : (c : Couple) (a : VectorVerdict) (e : Edge) (as' : List VectorVerdict) → IsMember a as' → edge_of c a.0 a.1 ≡ Some e → IsMember e (edges_of c as')
in_edges c a e [] h s = absurd h
in_edges c a e (b ∷ as') h s =
    elim h [
      | inl f ↦ subst (λ (o : Option Edge). IsMember e (with_some o (edges_of c as'))) (sym s ∙ ap (λ (z : VectorVerdict). edge_of c z.0 z.1) f) (inl refl)
      | inr r ↦ kept (edge_of c b.0 b.1) e (edges_of c as') (in_edges c a e as' r s)
    ]

kept_drop : (o : Option Dropped) (e : Dropped) (es : List Dropped) → IsMember e es → IsMember e (with_some o es)
kept_drop None e es h = h
kept_drop (Some f) e es h = inr h

in_drops : (c : Couple) (a : VectorVerdict) (e : Dropped) (as' : List VectorVerdict) → IsMember a as' → drop_of c a.0 a.1 ≡ Some e → IsMember e (drops_of c as')
in_drops c a e [] h s = absurd h
in_drops c a e (b ∷ as') h s =
    elim h [
      | inl f ↦ subst (λ (o : Option Dropped). IsMember e (with_some o (drops_of c as'))) (sym s ∙ ap (λ (z : VectorVerdict). drop_of c z.0 z.1) f) (inl refl)
      | inr r ↦ kept_drop (drop_of c b.0 b.1) e (drops_of c as') (in_drops c a e as' r s)
    ]

-- ---- of all couples

couple_edges : (cs : List Couple) (i : ℕ) (c : Couple) (e : Edge) → slice_get cs i ≡ Some c → IsMember e (edges_of c c.answers) → IsMember e (all_edges cs)
couple_edges [] i c e s h = cc
couple_edges (d ∷ cs) zero c e s h = let f : d ≡ c = cc in in_front e (edges_of d d.answers) (all_edges cs) (subst (λ (z : Couple). IsMember e (edges_of z z.answers)) (sym f) h)
couple_edges (d ∷ cs) (suc i) c e s h = in_rest e (edges_of d d.answers) (all_edges cs) (couple_edges cs i c e s h)

couple_drops : (cs : List Couple) (i : ℕ) (c : Couple) (e : Dropped) → slice_get cs i ≡ Some c → IsMember e (drops_of c c.answers) → IsMember e (all_drops cs)
couple_drops [] i c e s h = cc
couple_drops (d ∷ cs) zero c e s h = let f : d ≡ c = cc in in_front e (drops_of d d.answers) (all_drops cs) (subst (λ (z : Couple). IsMember e (drops_of z z.answers)) (sym f) h)
couple_drops (d ∷ cs) (suc i) c e s h = in_rest e (drops_of d d.answers) (all_drops cs) (couple_drops cs i c e s h)

-- ---- one answer stands for a vector

record HasAnswer (answers : List VectorVerdict) (v : List Dir) : Type 0 where
  answer : VectorVerdict
  among : IsMember answer answers
  stands : StandsFor answer.0 v

answer_for : (answers : List VectorVerdict) (v : List Dir) → HoldsOnce (λ (a : VectorVerdict). StandsFor a.0 v) answers → HasAnswer answers v
answer_for [] v h = absurd h
answer_for (a ∷ as') v h =
    elim h [
      | inl o ↦ record { answer = a; among = inl refl; stands = o.0 }
      | inr o ↦ let g = answer_for as' v o.1 in record { answer = g.answer; among = inr g.among; stands = g.stands }
    ]

-- ---- a candidate's couple

one_of_both : (p q : ℕ) (k : Dep) → kind_between p q ≡ Some k → (p ≡ 0) ⊎ (q ≡ 0)
one_of_both zero q k e = inl refl
one_of_both (suc p) zero k e = inr refl
one_of_both (suc p) (suc q) k e = cc

couple_at : (n : Nest) (cs : List Couple) (i : ℕ) (c : Couple) → All (IsCouple n) cs → slice_get cs i ≡ Some c → IsCouple n c
couple_at n cs i c a e = subst (λ (z : Couple). IsCouple n z) (get_or_from_slice_get cs i c c e) (a i c (slice_get_within cs i c e))

kind_at : (p q : Place) (c : Couple) (k : Dep) → kind_between c.from.at c.to.at ≡ Some c.kind → c.from ≡ p → c.to ≡ q → kind_between p.at q.at ≡ Some k → c.kind ≡ k
kind_at p q c k a e f b =
    let g : kind_between p.at q.at ≡ Some c.kind = subst (λ (z : Place). kind_between z.at q.at ≡ Some c.kind) e (subst (λ (z : Place). kind_between c.from.at z.at ≡ Some c.kind) f a) in
    let d : Some c.kind ≡ Some k = sym g ∙ b in
    cc

same_as : (c : Couple) (d : Candidate) → c.from ≡ d.from → c.to ≡ d.to → c.kind ≡ d.kind → d ≡ candidate_of c d.vector
same_as c d e f k =
    sym (ap (λ (z : Place). record { from = z; to = c.to; kind = c.kind; vector = d.vector }) e
    ∙ ap (λ (z : Place). record { from = d.from; to = z; kind = c.kind; vector = d.vector }) f
    ∙ ap (λ (z : Dep). record { from = d.from; to = d.to; kind = z; vector = d.vector }) k)

-- ---- an answer is an edge or a drop

record HasEdgeOf (c : Couple) (d : List Dir) (v : Verdict) : Type 0 where
  edge : Edge
  is : edge_of c d v ≡ Some edge
  from : edge.from ≡ c.from
  to : edge.to ≡ c.to
  kind : edge.kind ≡ c.kind
  dirs : edge.dirs ≡ in_places d

record HasDropOf (c : Couple) (d : List Dir) (v : Verdict) : Type 0 where
  drop : Dropped
  is : drop_of c d v ≡ Some drop
  from : drop.from ≡ c.from
  to : drop.to ≡ c.to
  kind : drop.kind ≡ c.kind
  dirs : drop.dirs ≡ in_places d

answer_gives : (c : Couple) (d : List Dir) (v : Verdict) → HasEdgeOf c d v ⊎ HasDropOf c d v
answer_gives c d (Never w) = inr (record { drop = _; is = refl; from = refl; to = refl; kind = refl; dirs = refl })
answer_gives c d (Met x y w) = inl (record { edge = _; is = refl; from = refl; to = refl; kind = refl; dirs = refl })
answer_gives c d (Assumed w) = inl (record { edge = _; is = refl; from = refl; to = refl; kind = refl; dirs = refl })

covered_by : (n : Nest) (g : Graph) → IsGraphOf n g → (c : Candidate) → IsCandidate n c → HasEdgeFor g c ⊎ HasDropFor g c
covered_by n g h c i =
    let f = h.every c.from c.to (record { refs = i.refs; one_written = one_of_both c.from.at c.to.at c.kind i.kind }) in
    let k = couple_at n h.couples f.at f.couple h.each f.is_at in
    let kind = kind_at c.from c.to f.couple c.kind k.kind f.from_is f.to_is i.kind in
    let o = answer_for f.couple.answers c.vector (k.covered c.vector (subst (IsCandidate n) (same_as f.couple c f.from_is f.to_is kind) i)) in
    elim (answer_gives f.couple o.answer.0 o.answer.1) [
      | inl e ↦ inl (record {
        edge = e.edge;
        among = subst (λ (es : List Edge). IsMember e.edge es) (sym h.edges) (couple_edges h.couples f.at f.couple e.edge f.is_at (in_edges f.couple o.answer e.edge f.couple.answers o.among e.is));
        stands = record {
          from = e.from ∙ f.from_is;
          to = e.to ∙ f.to_is;
          kind = e.kind ∙ kind;
          dirs = record { vector = o.answer.0; places = e.dirs; stands = o.stands };
        };
      })
      | inr e ↦ inr (record {
        drop = e.drop;
        among = subst (λ (es : List Dropped). IsMember e.drop es) (sym h.dropped) (couple_drops h.couples f.at f.couple e.drop f.is_at (in_drops f.couple o.answer e.drop f.couple.answers o.among e.is));
        stands = record {
          from = e.from ∙ f.from_is;
          to = e.to ∙ f.to_is;
          kind = e.kind ∙ kind;
          dirs = record { vector = o.answer.0; places = e.dirs; stands = o.stands };
        };
      })
    ]

-- ---- where a drop comes from

record ComesFrom (cs : List Couple) (e : Dropped) : Type 0 where
  at : ℕ
  couple : Couple
  is_at : slice_get cs at ≡ Some couple
  among : IsMember e (drops_of couple couple.answers)

comes_from : (cs : List Couple) (e : Dropped) → IsMember e (all_drops cs) → ComesFrom cs e
comes_from [] e h = absurd h
comes_from (c ∷ cs) e h =
    elim (in_either e (drops_of c c.answers) (all_drops cs) h) [
      | inl a ↦ record { at = zero; couple = c; is_at = refl; among = a }
      | inr b ↦ let f = comes_from cs e b in record { at = suc f.at; couple = f.couple; is_at = f.is_at; among = f.among }
    ]

record AnswersDrop (c : Couple) (as' : List VectorVerdict) (e : Dropped) : Type 0 where
  at : ℕ
  within : at < length as'
  word : Test
  is_never : (get_or as' at ([], Never e.test)).1 ≡ Never word
  from : e.from ≡ c.from
  to : e.to ≡ c.to
  kind : e.kind ≡ c.kind
  dirs : e.dirs ≡ in_places (get_or as' at ([], Never e.test)).0

here_or_later : (c : Couple) (d : List Dir) (v : Verdict) (e : Dropped) (as' : List VectorVerdict) → IsMember e (with_some (drop_of c d v) (drops_of c as')) → AnswersDrop c ((d, v) ∷ as') e ⊎ IsMember e (drops_of c as')
here_or_later c d (Met x y w) e as' h = inr h
here_or_later c d (Assumed w) e as' h = inr h
here_or_later c d (Never w) e as' h =
    elim h [
      | inl f ↦ inl (record {
        at = zero;
        within = omega arith;
        word = w;
        is_never = refl;
        from = ap (λ (z : Dropped). z.from) f;
        to = ap (λ (z : Dropped). z.to) f;
        kind = ap (λ (z : Dropped). z.kind) f;
        dirs = ap (λ (z : Dropped). z.dirs) f;
      })
      | inr r ↦ inr r
    ]

answers_drop : (c : Couple) (as' : List VectorVerdict) (e : Dropped) → IsMember e (drops_of c as') → AnswersDrop c as' e
answers_drop c [] e h = absurd h
answers_drop c (a ∷ as') e h =
    elim (here_or_later c a.0 a.1 e as' h) [
      | inl f ↦ f
      | inr r ↦
          let f = answers_drop c as' e r in
          record { at = suc f.at; within = (let b = f.within in omega arith); word = f.word; is_never = f.is_never; from = f.from; to = f.to; kind = f.kind; dirs = f.dirs }
    ]

without_pair : (n : Nest) (c : Couple) (b : Both) (d : List Dir) (v : Verdict) (w : Test) → v ≡ Never w → IsRightVerdict n c b d v → IsRightVerdict n c b d (Never w)
without_pair n c b d v w e h = subst (λ (z : Verdict). IsRightVerdict n c b d z) e h

same_vector : (d v : List Dir) → in_places d ≡ in_places v → d ≡ v
same_vector d v e = sym (listed_places d) ∙ ap listed e ∙ listed_places v

dropped_none : (n : Nest) (g : Graph) → IsGraphOf n g → (c : Candidate) → IsCandidate n c → HasDropFor g c → HasPair n c → ⊥
dropped_none n g h c i o p =
    let f = comes_from h.couples o.drop (subst (λ (es : List Dropped). IsMember o.drop es) h.dropped o.among) in
    let k = couple_at n h.couples f.at f.couple h.each f.is_at in
    let a = answers_drop f.couple f.couple.answers o.drop f.among in
    let from : f.couple.from ≡ c.from = sym a.from ∙ o.stands.from in
    let to : f.couple.to ≡ c.to = sym a.to ∙ o.stands.to in
    let kind : f.couple.kind ≡ c.kind = sym a.kind ∙ o.stands.kind in
    let q : VectorVerdict = ([], Never o.drop.test) in
    let d = (get_or f.couple.answers a.at q).0 in
    let none = without_pair n f.couple (both n f.couple.from f.couple.to k.refs) d (get_or f.couple.answers a.at q).1 a.word a.is_never (k.right a.at q a.within) in
    let same : o.stands.dirs.vector ≡ d = same_vector o.stands.dirs.vector d (sym o.stands.dirs.places ∙ a.dirs) in
    none.without_pair c.vector (subst (λ (z : List Dir). StandsFor z c.vector) same o.stands.dirs.stands)
    (subst (λ (z : Candidate). HasPair n z) (same_as f.couple c from to kind) p)

-- ---- levels

level_is : (c : Couple) (d : List Dir) (v : Verdict) (e : Edge) (es : List Edge) → IsMember e (with_some (edge_of c d v) es) → (e.level ≡ vector_level e.dirs) ⊎ IsMember e es
level_is c d (Never w) e es h = inr h
level_is c d (Met x y w) e es h = elim h [ inl f ↦ inl (subst (λ (z : Edge). z.level ≡ vector_level z.dirs) (sym f) refl) | inr r ↦ inr r ]
level_is c d (Assumed w) e es h = elim h [ inl f ↦ inl (subst (λ (z : Edge). z.level ≡ vector_level z.dirs) (sym f) refl) | inr r ↦ inr r ]

couple_levels : (c : Couple) (as' : List VectorVerdict) (e : Edge) → IsMember e (edges_of c as') → e.level ≡ vector_level e.dirs
couple_levels c [] e h = absurd h
couple_levels c (a ∷ as') e h = elim (level_is c a.0 a.1 e (edges_of c as') h) [ inl l ↦ l | inr r ↦ couple_levels c as' e r ]

levels : (cs : List Couple) (e : Edge) → IsMember e (all_edges cs) → e.level ≡ vector_level e.dirs
levels [] e h = absurd h
levels (c ∷ cs) e h = elim (in_either e (edges_of c c.answers) (all_edges cs) h) [ inl a ↦ couple_levels c c.answers e a | inr b ↦ levels cs e b ]

pub complete : (n : Nest) (g : Graph) → IsGraphOf n g → IsComplete n g
complete n g h = record {
  covered = covered_by n g h;
  dropped = dropped_none n g h;
  levels = λ e i. levels h.couples e (subst (λ (es : List Edge). IsMember e es) h.edges i);
}
