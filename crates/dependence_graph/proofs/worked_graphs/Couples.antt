-- The answer of a couple in a nest of one loop and one statement, whose subscripts are linear in the loop.
use Rattle.std.proofs.Common.{◌≡◌, ℕ, ap, ap₂, ◌∙◌, subst, Some, List, [], ◌∷◌, ◌++◌}
use Rattle.std.specs.Prelude.{ℤ, pos, ◌≤ℤ◌, ◌<ℤ◌, int_div}
use Rattle.tree.specs.Plain.{Expression, Reference}
use Rattle.subscripts.specs.Cuts.{IsNoLater}
use Rattle.subscripts.specs.declared.affine.Dir.{Dir}
use Rattle.subscripts.specs.declared.verdict.Test.{Test}
use Rattle.subscripts.specs.declared.verdict.Test.TheVariants.{Trip}
use Rattle.dependence_graph.specs.declared.graphs.Dep.{Dep}
use Rattle.dependence_graph.specs.nest_graph.Arcs.{VectorVerdict, Assumed, Couple, Met, Never, Verdict}
use Rattle.dependence_graph.specs.nest_graph.Graph.{IsCouple}
use Rattle.dependence_graph.specs.nest_graph.Pair.{Pair, kind_between}
use Rattle.dependence_graph.specs.nest_graph.References.{references_of}
use Rattle.dependence_graph.specs.nest_graph.Tested.{Both}
use Rattle.dependence_graph.specs.nest_graph.Words.{IsDropWord}
use Rattle.dependence_graph.specs.worked_graphs.Listed.{at, less}
use Rattle.dependence_graph.proofs.worked_graphs.Keys.{key}
use Rattle.dependence_graph.proofs.worked_graphs.OneAnswer.{IsRightHere, couple, refs, right_answer}
use Rattle.dependence_graph.proofs.worked_graphs.OneLoop.{IsEnd, Meeting, meets, nest, standing, there, worth}
use Rattle.dependence_graph.proofs.worked_graphs.Pairs.{IsOfWord, drop_word_of, edge_word_of, exact, only_less, stands, trip_word_of}

-- ---- the couple

module _ (last : ℕ) (whole : int_div (pos last) (pos 1) ≡ pos last) (left : Reference) (right : Expression) (p q : ℕ) (r u : Reference) (a c b d : ℤ)
    (first : IsEnd (references_of (standing last whole left right)) p r a c) (second : IsEnd (references_of (standing last whole left right)) q u b d)
    (kind : Dep) (kind_is : kind_between p q ≡ Some kind) where
  abbrev pub couple_here : List VectorVerdict → Couple
  couple_here answers = couple last whole left right p q r u first.there second.there kind kind_is answers

  abbrev both_here : Both
  both_here = refs last whole left right p q r u first.there second.there kind kind_is

  abbrev IsRightOne : Verdict → Type 0
  IsRightOne v = IsRightHere last whole left right p q r u first.there second.there kind kind_is v

  -- turns in which the subscripts are equal, the first one before the second
  pub record AreMeeting (i j : ℤ) : Type 0 where
    pub low : pos 1 ≤ℤ i
    pub before : i <ℤ j
    pub high : j ≤ℤ pos last
    pub equal : worth a c i ≡ worth b d j

  meeting_of : (x y : List ℤ) → (m : Meeting last a c b d x y) → AreMeeting m.first m.second
  meeting_of x y m = record { low = m.low; before = m.before; high = m.high; equal = m.equal }

  -- these turns are the first that meet
  pub record IsFirstMeeting (i j : ℤ) : Type 0 where
    pub meeting : AreMeeting i j
    pub least : (k l : ℤ) → AreMeeting k l → IsNoLater (k ∷ l ∷ []) (i ∷ j ∷ []) → (k ≡ i) × (l ≡ j)

  module _ (some : a ≡ pos 0 → b ≡ pos 0 → ⊥) where
    -- no turns meet
    dropped : (word : Test) → ((w : Test) → IsDropWord both_here less w → w ≡ word) → ((i j : ℤ) → AreMeeting i j → ⊥) → (v : Verdict) → IsRightOne v → v ≡ Never word
    dropped word only none (Never w) h = ap (λ (z : Test). Never z) (only w (h.word less stands))
    dropped word only none (Met x y w) h =
        let pair = h.each less stands in
        let m = meets last whole left right p q r u a c b d first second kind pair.0 pair.1.0 pair.1.1 in
        absurd (none m.first m.second (meeting_of pair.0 pair.1.0 m))
    dropped word only none (Assumed w) h = absurd (h.inexact (exact last whole left right p q r u a c b d first second some))

    drops_with : (word : Test) → ((w : Test) → IsDropWord both_here less w → w ≡ word) → ((i j : ℤ) → AreMeeting i j → ⊥) → (x : Couple) → IsCouple (nest last whole left right) x
        → key x ≡ (at p, at q) → x ≡ couple_here ((less, Never word) ∷ [])
    drops_with word only none x h e =
        let one = right_answer last whole left right p q r u first.there second.there kind kind_is x h e in
        one.1 ∙ ap (λ (v : Verdict). couple_here ((less, v) ∷ [])) (dropped word only none one.0 one.2)

    pub drops : (word : Test) → IsOfWord a b word → pos 2 ≤ℤ pos last → ((i j : ℤ) → AreMeeting i j → ⊥) → (x : Couple) → IsCouple (nest last whole left right) x
        → key x ≡ (at p, at q) → x ≡ couple_here ((less, Never word) ∷ [])
    drops word of' more none x h e = drops_with word (drop_word_of last whole left right p q r u a c b d first second some word of' more) none x h e

    pub drops_once : last ≡ 1 → ((i j : ℤ) → AreMeeting i j → ⊥) → (x : Couple) → IsCouple (nest last whole left right) x
        → key x ≡ (at p, at q) → x ≡ couple_here ((less, Never Trip) ∷ [])
    drops_once once none x h e = drops_with Trip (trip_word_of last whole left right p q r u a c b d first second some once) none x h e

    met : (word : Test) → IsOfWord a b word → (i j : ℤ) → r.name ≡ u.name → IsFirstMeeting i j → (v : Verdict) → IsRightOne v → v ≡ Met (i ∷ []) (j ∷ []) word
    met word of' i j names f (Never w) h =
        let m = f.meeting in
        absurd (h.without_pair less stands
        (i ∷ [], (j ∷ [], there last whole left right p q r u a c b d first second kind i j names m.low m.before m.high m.equal)))
    met word of' i j names f (Assumed w) h = absurd (h.inexact (exact last whole left right p q r u a c b d first second some))
    met word of' i j names f (Met x y w) h =
        let m = f.meeting in
        let here : Pair (nest last whole left right) (record { from = at p; to = at q; kind = kind; vector = less }) x y =
        subst (λ (v : List Dir). Pair (nest last whole left right) (record { from = at p; to = at q; kind = kind; vector = v }) x y) (only_less h.vector h.stands) h.pair in
        let g = meets last whole left right p q r u a c b d first second kind x y here in
        let no_later : IsNoLater (x ++ y) (i ∷ j ∷ []) =
        h.least less (i ∷ []) (j ∷ []) stands
        (there last whole left right p q r u a c b d first second kind i j names m.low m.before m.high m.equal) in
        let first_no_later : IsNoLater (g.first ∷ g.second ∷ []) (i ∷ j ∷ []) =
        subst (λ (zs : List ℤ). IsNoLater (zs ++ g.second ∷ []) (i ∷ j ∷ [])) g.first_is (subst (λ (zs : List ℤ). IsNoLater (x ++ zs) (i ∷ j ∷ [])) g.second_is no_later) in
        let same = f.least g.first g.second (meeting_of x y g) first_no_later in
        ap₂ (λ (ms ns : List ℤ). Met ms ns w) (g.first_is ∙ ap (λ (n : ℤ). n ∷ []) same.0) (g.second_is ∙ ap (λ (n : ℤ). n ∷ []) same.1)
        ∙ ap (λ (t : Test). Met (i ∷ []) (j ∷ []) t) (edge_word_of last whole left right p q r u a c b d first second some word of' w h.word)

    -- an edge with this pair
    pub met_at : (word : Test) → IsOfWord a b word → (i j : ℤ) → r.name ≡ u.name → IsFirstMeeting i j → (x : Couple) → IsCouple (nest last whole left right) x
        → key x ≡ (at p, at q) → x ≡ couple_here ((less, Met (i ∷ []) (j ∷ []) word) ∷ [])
    met_at word of' i j names f x h e =
        let one = right_answer last whole left right p q r u first.there second.there kind kind_is x h e in
        one.1 ∙ ap (λ (v : Verdict). couple_here ((less, v) ∷ [])) (met word of' i j names f one.0 one.2)
