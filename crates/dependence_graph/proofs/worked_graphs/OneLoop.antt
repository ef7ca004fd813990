-- Instances of a nest of one loop and one statement, and pairs of them that touch a cell.
use Rattle.std.proofs.Common.{◌≡◌, ℕ, zero, suc, refl, sym, ap, ap₂, ◌∙◌, subst, arith, Option, Some, List, [], ◌∷◌}
use Rattle.std.specs.Prelude.{ℤ, pos, ◌≤ℤ◌, ◌<ℤ◌, int_div, MatchOption, ⊤, codes, slice_get}
use Rattle.std.proofs.lemmas.Int.{ints}
use Rattle.std.proofs.lemmas.List.Elements.{All-replicate}
use Rattle.tree.specs.Plain.{Expression, Only, Subscripts, no_subscripts, subscript, Reference}
use Rattle.linear_forms.specs.Linear.{Form, constant_form, form_of, number_at}
use Rattle.subscripts.specs.Forms.{AreRelated}
use Rattle.dependence_graph.specs.declared.graphs.Dep.{Dep}
use Rattle.nest.specs.Bodies.{Standing, nest_statements}
use Rattle.nest.specs.Plain.{Nest}
use Rattle.nest.specs.declared.parts.Trip.{Trip}
use Rattle.dependence_graph.specs.nest_graph.Indices.{SubscriptPair, coefficient_at, paired_forms, pairs_in, subscript_pairs}
use Rattle.dependence_graph.specs.nest_graph.Instances.{AreTurns, turns_at}
use Rattle.dependence_graph.specs.nest_graph.Paired.{affine_of}
use Rattle.dependence_graph.specs.nest_graph.Pair.{Pair}
use Rattle.dependence_graph.specs.nest_graph.References.{references_of, variables_round}
use Rattle.dependence_graph.specs.nest_graph.Tested.{AreReferences, Both, both}
use Rattle.dependence_graph.specs.nest_graph.Touched.{AreSubscriptsAt, Touches}
use Rattle.dependence_graph.specs.loop_spans.Greatest.{IsConstant}
use Rattle.dependence_graph.proofs.loop_spans.SpanLaws.{constant_at}
use Rattle.dependence_graph.specs.worked_graphs.Nests.{assignment, loop_to, one_loop}
use Rattle.dependence_graph.specs.worked_graphs.Listed.{at, less}

-- a I + c
abbrev pub line : ℤ → ℤ → Form
line a c = record { coefficients = a ∷ []; constant = c }

abbrev pub variables : List (List ℕ)
variables = codes "I" ∷ []

same_some : {A : Type 0} (o : Option A) (x y : A) → o ≡ Some x → o ≡ Some y → x ≡ y
same_some o x y e f = let g : Some x ≡ Some y = sym e ∙ f in cc

-- what a I + c is worth in a turn
abbrev pub worth : ℤ → ℤ → ℤ → ℤ
worth a c i = number_at (line a c) (i ∷ [])

-- the turn of the loop
pub record IsTurnOf (last : ℕ) (x : List ℤ) : Type 0 where
  pub turn : ℤ
  pub is : x ≡ turn ∷ []
  pub low : pos 1 ≤ℤ turn
  pub high : turn ≤ℤ pos last

-- the form of a I + c, which has no coefficient where a is 0
pub record IsLine (f : Form) (a c : ℤ) : Type 0 where
  pub front : coefficient_at f 0 ≡ a
  pub past : (k : ℕ) → coefficient_at f (suc k) ≡ pos 0
  pub value : (i : ℤ) → number_at f (i ∷ []) ≡ worth a c i

-- a reference in this place, whose only subscript is a I + c
pub record IsEnd (rs : List Reference) (k : ℕ) (r : Reference) (a c : ℤ) : Type 0 where
  pub index : Expression
  pub found : Form
  pub there : slice_get rs k ≡ Some r
  pub subs : r.subscripts ≡ subscript (Only index) no_subscripts
  pub form : form_of variables [] index ≡ Some found
  pub line : IsLine found a c

-- two turns, the first one before the second, in which the subscripts are equal
pub record Meeting (last : ℕ) (a c b d : ℤ) (x y : List ℤ) : Type 0 where
  pub first : ℤ
  pub second : ℤ
  pub first_is : x ≡ first ∷ []
  pub second_is : y ≡ second ∷ []
  pub low : pos 1 ≤ℤ first
  pub before : first <ℤ second
  pub high : second ≤ℤ pos last
  pub equal : worth a c first ≡ worth b d second

-- ---- subscripts

module _ (values : ℕ → ℤ) (i : ℤ) (index : Expression) (g : Form) (a c : ℤ) (form : form_of variables [] index ≡ Some g) (is : IsLine g a c) where
  abbrev AreWorth : Subscripts → List ℤ → Type 0
  AreWorth ss zs = AreSubscriptsAt variables [] values (i ∷ []) ss zs

  worth_here : (zs : List ℤ) → AreWorth (subscript (Only index) no_subscripts) zs → zs ≡ worth a c i ∷ []
  worth_here [] h = absurd h
  worth_here (z ∷ []) h = ap (λ (y : ℤ). y ∷ []) (at_form form h.0 ∙ is.value i)
    where
      at_form : form_of variables [] index ≡ Some g → MatchOption (form_of variables [] index) ⊤ (λ (f : Form). z ≡ number_at f (i ∷ [])) → z ≡ number_at g (i ∷ [])
      at_form e k = subst (λ (o : Option Form). MatchOption o ⊤ (λ (f : Form). z ≡ number_at f (i ∷ []))) e k
  worth_here (z ∷ y ∷ ys) h = absurd h.1

  here_worth : (z : ℤ) → z ≡ worth a c i → AreWorth (subscript (Only index) no_subscripts) (z ∷ [])
  here_worth z h = (subst (λ (o : Option Form). MatchOption o ⊤ (λ (f : Form). z ≡ number_at f (i ∷ []))) (sym form) (h ∙ sym (is.value i)), tt)

module _ (last : ℕ) (whole : int_div (pos last) (pos 1) ≡ pos last) (left : Reference) (right : Expression) where
  abbrev pub nest : Nest
  nest = one_loop last left right

  abbrev pub standing : Standing
  standing = record { loops = loop_to last ∷ []; statement = assignment left right }

  abbrev trip : Trip
  trip = record { top = affine_of 0 (constant_form (pos last)); by = pos 1 }

  -- ---- turns

  constant : IsConstant trip
  constant = record {
    loops = All-replicate (λ (z : ℤ). z ≡ pos 0) 7 (pos 0) refl;
    symbols = All-replicate (λ (t : ℕ × ℤ). t.1 ≡ pos 0) 8 (0, pos 0) refl;
  }

  turns_are : (values : ℕ → ℤ) (outer : List ℤ) → turns_at trip values outer ≡ pos last
  turns_are values outer = constant_at trip values outer constant ∙ whole

  one_turn : (values : ℕ → ℤ) (x : List ℤ) → AreTurns values [] (loop_to last ∷ []) x → IsTurnOf last x
  one_turn values [] h = absurd h
  one_turn values (i ∷ []) h = record { turn = i; is = refl; low = h.0.0; high = subst (λ (z : ℤ). i ≤ℤ z) (turns_are values []) h.0.1 }
  one_turn values (i ∷ j ∷ x) h = absurd h.1

  pub turn_of : (values : ℕ → ℤ) (i : ℤ) → pos 1 ≤ℤ i → i ≤ℤ pos last → AreTurns values [] (loop_to last ∷ []) (i ∷ [])
  turn_of values i l h = ((l, subst (λ (z : ℤ). i ≤ℤ z) (sym (turns_are values [])) h), tt)

  pub standing_is : (k : ℕ) (z : Standing) → slice_get (nest_statements nest) k ≡ Some z → z ≡ standing
  standing_is zero z e = cc
  standing_is (suc k) z e = cc

  -- ---- two references

  module _ (p q : ℕ) (r u : Reference) (first : slice_get (references_of standing) p ≡ Some r) (second : slice_get (references_of standing) q ≡ Some u) where
    pub first_same : (z : Standing) (x : Reference) → z ≡ standing → slice_get (references_of z) p ≡ Some x → x ≡ r
    first_same z x e h = same_some (slice_get (references_of standing) p) x r (subst (λ (s : Standing). slice_get (references_of s) p ≡ Some x) e h) first

    pub second_same : (z : Standing) (x : Reference) → z ≡ standing → slice_get (references_of z) q ≡ Some x → x ≡ u
    second_same z x e h = same_some (slice_get (references_of standing) q) x u (subst (λ (s : Standing). slice_get (references_of s) q ≡ Some x) e h) second

    abbrev of_both : Standing → Standing → Reference → Reference → Both
    of_both s t x y = record { symbols = []; first = s; second = t; first_reference = x; second_reference = y }

    -- what says how they depend
    abbrev pub two : Both
    two = of_both standing standing r u

    pub references_are : (h : AreReferences nest (at p) (at q)) → (h.first_reference ≡ r) × (h.second_reference ≡ u)
    references_are h = (
      first_same h.first h.first_reference (standing_is 0 h.first h.first_is.statement) h.first_is.reference,
      second_same h.second h.second_reference (standing_is 0 h.second h.second_is.statement) h.second_is.reference,
    )

    pub both_are : (h : AreReferences nest (at p) (at q)) → both nest (at p) (at q) h ≡ two
    both_are h =
        let g = references_are h in
        ap₂ (λ (z : Standing) (x : Reference). of_both z h.second x h.second_reference) (standing_is 0 h.first h.first_is.statement) g.0
        ∙ ap₂ (λ (z : Standing) (x : Reference). of_both standing z r x) (standing_is 0 h.second h.second_is.statement) g.1

  -- ---- whose subscripts are linear

  module _ (p q : ℕ) (r u : Reference) (a c b d : ℤ) (first : IsEnd (references_of standing) p r a c) (second : IsEnd (references_of standing) q u b d) where
    -- a pair of instances in which the first comes before the second
    pub meets : (k : Dep) (x y : List ℤ) → Pair nest (record { from = at p; to = at q; kind = k; vector = less }) x y → Meeting last a c b d x y
    meets k x y h =
        let e = standing_is 0 h.refs.first h.refs.first_is.statement in
        let f = standing_is 0 h.refs.second h.refs.second_is.statement in
        let er = first_same p q r u first.there second.there h.refs.first h.refs.first_reference e h.refs.first_is.reference in
        let fu = second_same p q r u first.there second.there h.refs.second h.refs.second_reference f h.refs.second_is.reference in
        let ei = standing_is 0 h.first_instance.standing h.first_instance.is_at in
        let fi = standing_is 0 h.second_instance.standing h.second_instance.is_at in
        let s = one_turn h.values x (subst (λ (z : Standing). AreTurns h.values [] z.loops x) ei h.first_instance.turns) in
        let t = one_turn h.values y (subst (λ (z : Standing). AreTurns h.values [] z.loops y) fi h.second_instance.turns) in
        let first_touched : AreSubscriptsAt variables [] h.values (s.turn ∷ []) (subscript (Only first.index) no_subscripts) h.cell.subscripts =
        subst (λ (zs : List ℤ). AreSubscriptsAt variables [] h.values zs (subscript (Only first.index) no_subscripts) h.cell.subscripts) s.is
        (subst (λ (ss : Subscripts). AreSubscriptsAt variables [] h.values x ss h.cell.subscripts) (ap (λ (z : Reference). z.subscripts) er ∙ first.subs)
        (subst (λ (z : Standing). Touches (variables_round z) [] h.values x h.refs.first_reference h.cell) e h.first_touches).subscripts) in
        let second_touched : AreSubscriptsAt variables [] h.values (t.turn ∷ []) (subscript (Only second.index) no_subscripts) h.cell.subscripts =
        subst (λ (zs : List ℤ). AreSubscriptsAt variables [] h.values zs (subscript (Only second.index) no_subscripts) h.cell.subscripts) t.is
        (subst (λ (ss : Subscripts). AreSubscriptsAt variables [] h.values y ss h.cell.subscripts) (ap (λ (z : Reference). z.subscripts) fu ∙ second.subs)
        (subst (λ (z : Standing). Touches (variables_round z) [] h.values y h.refs.second_reference h.cell) f h.second_touches).subscripts) in
        let related : AreRelated less (s.turn ∷ []) (t.turn ∷ []) =
        subst (λ (zs : List ℤ). AreRelated less zs (t.turn ∷ [])) s.is (subst (λ (zs : List ℤ). AreRelated less x zs) t.is h.related) in
        let same : worth a c s.turn ∷ [] ≡ worth b d t.turn ∷ [] =
        sym (worth_here h.values s.turn first.index first.found a c first.form first.line h.cell.subscripts first_touched)
        ∙ worth_here h.values t.turn second.index second.found b d second.form second.line h.cell.subscripts second_touched in
        record {
          first = s.turn;
          second = t.turn;
          first_is = s.is;
          second_is = t.is;
          low = s.low;
          before = related.0;
          high = t.high;
          equal = one_same (worth a c s.turn) (worth b d t.turn) same;
        }
      where
        one_same : (w z : ℤ) → w ∷ [] ≡ z ∷ [] → w ≡ z
        one_same w z g = cc

    -- such a pair is there
    pub there : (k : Dep) (i j : ℤ) → r.name ≡ u.name → pos 1 ≤ℤ i → i <ℤ j → j ≤ℤ pos last → worth a c i ≡ worth b d j
        → Pair nest (record { from = at p; to = at q; kind = k; vector = less }) (i ∷ []) (j ∷ [])
    there k i j names low before high equal = record {
      values = λ m. pos 0;
      cell = record { name = r.name; subscripts = worth a c i ∷ [] };
      refs = record {
        first = standing;
        second = standing;
        first_reference = r;
        second_reference = u;
        first_is = record { statement = refl; reference = first.there };
        second_is = record { statement = refl; reference = second.there };
        same_name = names;
      };
      first_instance = record { standing = standing; is_at = refl; turns = turn_of (λ m. pos 0) i low (omega (arith, ints)) };
      second_instance = record { standing = standing; is_at = refl; turns = turn_of (λ m. pos 0) j (omega (arith, ints)) high };
      related = (before, tt);
      first_touches = record {
        name = refl;
        subscripts = subst (λ (ss : Subscripts). AreSubscriptsAt variables [] (λ m. pos 0) (i ∷ []) ss (worth a c i ∷ [])) (sym first.subs)
            (here_worth (λ m. pos 0) i first.index first.found a c first.form first.line (worth a c i) refl);
      };
      second_touches = record {
        name = names;
        subscripts = subst (λ (ss : Subscripts). AreSubscriptsAt variables [] (λ m. pos 0) (j ∷ []) ss (worth a c i ∷ [])) (sym second.subs)
            (here_worth (λ m. pos 0) j second.index second.found b d second.form second.line (worth a c i) equal);
      };
    }

    -- ---- the pair of their subscripts

    abbrev pub pair : SubscriptPair
    pair = record { first = first.found; second = second.found }

    pub pairs_are : subscript_pairs (two p q r u first.there second.there) ≡ Some pair ∷ []
    pairs_are =
        ap₂ (λ (ss ts : Subscripts). pairs_in (two p q r u first.there second.there) ss ts) first.subs second.subs
        ∙ ap₂ (λ (f g : Option Form). paired_forms f g ∷ []) first.form second.form
