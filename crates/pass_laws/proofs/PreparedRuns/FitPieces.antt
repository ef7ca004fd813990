-- The pieces that are emitted for a nest are of the profile, where its statements and loops are fit for it.
use Rattle.std.proofs.Common.{◌≡◌, refl, sym, ap, ◌∙◌, subst, ◌⊎◌, inl, inr, ℕ, zero, suc, ◌+◌, ◌-◌, ◌^◌, ◌<◌, ◌≤◌}
use Rattle.std.proofs.Common.{Bool, true, false, not, List, [], ◌∷◌, ◌++◌, length, Option, Some, None, Contains, arith}
use Rattle.std.specs.Prelude.{nat_abs, slice_get}
use Rattle.std.specs.List.{concat, range_with_len}
use Rattle.std.specs.Option.{IsSomeAnd}
use Rattle.std.proofs.lemmas.List.{length-drop, length-map}
use Rattle.array_form.specs.holds.Bounds.{is_safe}
use Rattle.array_form.specs.profile.Laws.{ArrayFormIsOfProfile, IsGuard, rise}
use Rattle.array_form.specs.profile.Settings.{IsWritable}
use Rattle.array_form.specs.forms.Following.{has_no_loop}
use Rattle.array_form.specs.forms.Loops as forms
use Rattle.array_form.specs.forms.Statements.{loops_from}
use Rattle.dependence_graph.specs.declared.graphs.Edge.{Edge}
use Rattle.dependence_graph.specs.declared.graphs.Hold.{Hold}
use Rattle.components.specs.Lists as lists
use Rattle.emission.specs.emission_forms.Forms.{AreAllHolds, AreRegular, IsLevelOf, hold_there, surroundings_at}
use Rattle.array_form.proofs.forms.Holding.{unheld}
use Rattle.emission.specs.emission_pieces.Emission.{AreEmitted, AreEmittedFor, IsEmittedFor}
use Rattle.emission.specs.emission_pieces.Levels.{is_held, is_recurrent, may_be_formed}
use Rattle.emission.specs.emission_pieces.Nests.{loops_at, standing_at}
use Rattle.emission.specs.emission_pieces.Pieces.{Formed, Kept, Piece, Pieces, Turning, block_of_piece, block_of_pieces}
use Rattle.emission.specs.emission_pieces.Pieces.{kept_assignment, kept_statement, mark_of, no_pieces, piece}
use Rattle.emission.specs.emission_pieces.Pieces.{turning_statement}
use Rattle.emission.proofs.EmissionPieces.Emitted.{components_of}
use Rattle.emission.proofs.EmissionPieces.Lists.{both_true}
use Rattle.meaning.specs.Blocks.{Surroundings, before_labels, within_loop}
use Rattle.meaning.specs.Labels.{IsLine}
use Rattle.meaning.specs.Depths.{depth_of}
use Rattle.meaning.specs.Profile90.{IsAssignment, IsBlock, IsMark, IsStatement, IsWhole, IsWholeScalar}
use Rattle.meaning.specs.Typed.{declared}
use Rattle.meaning.specs.Typed90.{IsIntegerScalar, IsScalar}
use Rattle.meaning.specs.Value.{named}
use Rattle.tree.specs.Limits.{expression_depth90}
use Rattle.tree.specs.Plain.{Declaration, Expression, Reference, Statement, no_statements}
use Rattle.tree.specs.declared.ops.Kind.{Kind}
use Rattle.tree.specs.declared.ops.Kind.TheVariants.{Integer, Logical}
use Rattle.nest_order.proofs.orders.Lists.{Each-In, In-left, In-right}
use Rattle.nest_order.specs.orders.Emission.{Components}
use Rattle.nest_order.specs.orders.Lists.{Distinct, Each, In}
use Rattle.pass_laws.proofs.PreparedRuns.Pieces.{pieces_no_label}
use Rattle.nest.specs.Blocks.{under_guard}
use Rattle.nest.specs.Bodies.{nest_statements}
use Rattle.nest.specs.Plain.{Loop, Nest}
use Rattle.nest.specs.declared.parts.Trip.{Trip}
use Rattle.pass_laws.specs.prepared_nests.After.{CountsNone}
use Rattle.pass_laws.proofs.NormalFacts.MadeStatements.{counter_same}
use Rattle.last_values.specs.normal_forms.NormalLoops.{counter_name}
use Rattle.meaning_laws.proofs.profiles.Lists.{cases_of}
use Rattle.pass_laws.proofs.PreparedRuns.Blocks.{first_without, one_is, then_is}
use Rattle.array_form.specs.holds.Surroundings.{counted_of, counted_loop}
use Rattle.emission.specs.emission_pieces.Shapes.{edges_of}

-- ---- a statement, and a loop

-- An assignment of scalars of one kind, maybe under a condition, with room for its array form; its variable counts no
-- loop, and isn't one of the DO variables round the nest
pub record IsFitStatement (ds : List Declaration) (w : Surroundings) (line : ℕ) (guard : Option Expression) (left : Reference) (right : Expression) : Type 0 where
  pub line_is : IsLine line
  pub guard_is : IsGuard ds guard
  pub kind : Kind
  pub found : IsSomeAnd (declared ds left.name) (λ (d : Declaration). d.kind ≡ kind)
  pub left_is : IsScalar ds (named left) kind
  pub right_is : IsScalar ds right kind
  pub left_depth : depth_of (named left) + rise ≤ expression_depth90
  pub right_depth : depth_of right + rise ≤ expression_depth90
  pub apart : CountsNone left.name
  pub outside : Contains w.variables left.name → ⊥

pub record IsFitLoop (ds : List Declaration) (l : Loop) : Type 0 where
  pub number : l.number ≤ 4294967295
  pub name : l.variable ≡ counter_name l.number
  pub integer : IsIntegerScalar ds l.variable
  pub last : IsWholeScalar ds l.last Integer
  pub trip : IsSomeAnd l.trip (λ (t : Trip). nat_abs t.by ≤ 2 ^ 40)

-- what is asked of a nest; each of its loops stands at one depth
pub record IsFitNest (ds : List Declaration) (m : Nest) (w : Surroundings) : Type 0 where
  pub line : IsLine m.line
  pub number : m.number < 2 ^ 32
  pub few : length (nest_statements m) + 1 < 2 ^ 32
  pub round : (x : List ℕ) → Contains w.variables x → CountsNone x
  pub statements : (s : ℕ) → s < length (nest_statements m)
      → IsFitStatement ds w (standing_at m s).statement.line (standing_at m s).statement.guard (standing_at m s).statement.left (standing_at m s).statement.right
  pub loops : (s k : ℕ) (l : Loop) → s < length (nest_statements m) → slice_get (loops_at m s) k ≡ Some l → IsFitLoop ds l
  pub deep : (s : ℕ) → s < length (nest_statements m) → length (loops_at m s) ≤ 7
  pub depths : (s t i j : ℕ) (l k : Loop) → s < length (nest_statements m) → t < length (nest_statements m)
      → slice_get (loops_at m s) i ≡ Some l → slice_get (loops_at m t) j ≡ Some k → l.number ≡ k.number → i ≡ j
  pub writable : (s : ℕ) → s < length (nest_statements m) → IsWritable ds (surroundings_at m s)

-- ---- lists

in_concat : (s : ℕ) (c : List ℕ) (cs : List (List ℕ)) → In c cs → In s c → In s (concat cs)
in_concat s c [] i j = absurd i
in_concat s c (d ∷ cs) (inl e) j = In-left s d (concat cs) (subst (λ (xs : List ℕ). In s xs) e j)
in_concat s c (d ∷ cs) (inr i) j = In-right s d (concat cs) (in_concat s c cs i j)

distinct_left : (b more : List ℕ) → Distinct (b ++ more) → Distinct b
distinct_left [] more g = tt
distinct_left (x ∷ b) more g = (each b g.0, distinct_left b more g.1)
  where
    each : (b : List ℕ) → Each (λ y. ¬ (x ≡ y)) (b ++ more) → Each (λ y. ¬ (x ≡ y)) b
    each [] g = tt
    each (y ∷ b) g = (g.0, each b g.1)

distinct_right : (b more : List ℕ) → Distinct (b ++ more) → Distinct more
distinct_right [] more g = g
distinct_right (x ∷ b) more g = distinct_right b more g.1

-- a part of the nest: its statements, each once
record IsPart (n : ℕ) (c : List ℕ) : Type 0 where
  once : Distinct c
  below : (s : ℕ) → In s c → s < n

part_from : (n a k : ℕ) → a + k ≤ n → Each (λ (s : ℕ). (a ≤ s) × (s < n)) (range_with_len a k)
part_from n a zero h = tt
part_from n a (suc k) h = ((omega arith, omega arith), weaker (range_with_len (a + 1) k) (part_from n (a + 1) k (omega arith)))
  where
    weaker : (xs : List ℕ) → Each (λ (s : ℕ). (a + 1 ≤ s) × (s < n)) xs → Each (λ (s : ℕ). (a ≤ s) × (s < n)) xs
    weaker [] g = tt
    weaker (x ∷ xs) g = ((let b = g.0.0 in omega arith, g.0.1), weaker xs g.1)

range_once : (n a k : ℕ) → a + k ≤ n → Distinct (range_with_len a k)
range_once n a zero h = tt
range_once n a (suc k) h = (later (range_with_len (a + 1) k) (part_from n (a + 1) k (omega arith)), range_once n (a + 1) k (omega arith))
  where
    later : (xs : List ℕ) → Each (λ (s : ℕ). (a + 1 ≤ s) × (s < n)) xs → Each (λ (s : ℕ). ¬ (a ≡ s)) xs
    later [] g = tt
    later (x ∷ xs) g = ((λ e. let b = g.0.0 in absurd (omega (arith, e))), later xs g.1)

whole_part : (n : ℕ) → IsPart n (range_with_len 0 n)
whole_part n = record {
  once = range_once n 0 n (omega arith);
  below = λ s i. (Each-In (λ (s : ℕ). (0 ≤ s) × (s < n)) (range_with_len 0 n) (part_from n 0 n (omega arith)) s i).1;
}

some_loops : (a : forms.FormSurroundings) (k : ℕ) → k - 1 < length a.loops → has_no_loop (loops_from a k) ≡ false
some_loops a k h = by (loops_from a k) (length-drop (k - 1) a.loops)
  where
    by : (ls : List forms.FormLoop) → length ls ≡ length a.loops - (k - 1) → has_no_loop ls ≡ false
    by [] e = absurd (omega arith)
    by (l ∷ ls) e = refl

not_both : (b : Bool) → b ≡ true → not b ≡ true → ⊥
not_both b p q = cc

-- ---- pieces

module _ (forms_are : ArrayFormIsOfProfile) (ds : List Declaration) (m : Nest) (w : Surroundings) (fit : IsFitNest ds m w) (edges : List Edge) (holds : List Hold) (regular : AreRegular m) (all : AreAllHolds m holds) where
  abbrev count : ℕ
  count = length (nest_statements m)

  -- the variable of one of the first d loops round a statement
  record IsTurned (d : ℕ) (x : List ℕ) : Type 0 where
    statement : ℕ
    within : statement < count
    place : ℕ
    before : place < d
    loop : Loop
    there : slice_get (loops_at m statement) place ≡ Some loop
    name : x ≡ loop.variable

  abbrev IsRound : ℕ → Surroundings → Type 0
  IsRound d v = (x : List ℕ) → Contains v.variables x → Contains w.variables x ⊎ IsTurned d x

  turned_name : (d : ℕ) (x : List ℕ) (t : IsTurned d x) → x ≡ counter_name t.loop.number
  turned_name d x t = t.name ∙ (fit.loops t.statement t.place t.loop t.within t.there).name

  free_left : (d : ℕ) (v : Surroundings) (s : ℕ) → IsRound d v → s < count → Contains v.variables (standing_at m s).statement.left.name → ⊥
  free_left d v s r within c = by (r (standing_at m s).statement.left.name c)
    where
      by : Contains w.variables (standing_at m s).statement.left.name ⊎ IsTurned d (standing_at m s).statement.left.name → ⊥
      by (inl h) = (fit.statements s within).outside h
      by (inr t) = (fit.statements s within).apart t.loop.number (turned_name d (standing_at m s).statement.left.name t)

  free_counter : (d : ℕ) (v : Surroundings) (s : ℕ) (l : Loop) → IsRound d v → s < count → slice_get (loops_at m s) d ≡ Some l → ¬ (Contains v.variables l.variable)
  free_counter d v s l r within at c = by (r l.variable c)
    where
      own : IsFitLoop ds l
      own = fit.loops s d l within at

      by : Contains w.variables l.variable ⊎ IsTurned d l.variable → ⊥
      by (inl h) = fit.round l.variable h l.number own.name
      by (inr t) =
          let other = fit.loops t.statement t.place t.loop t.within t.there in
          let same : l.number ≡ t.loop.number = counter_same l.number t.loop.number own.number other.number (sym own.name ∙ turned_name d l.variable t) in
          let place : d ≡ t.place = fit.depths s t.statement d t.place l t.loop within t.within at t.there same in
          let before = t.before in
          omega (arith, place, before)

  round_more : (d : ℕ) (v : Surroundings) (s : ℕ) (l : Loop) → IsRound d v → s < count → slice_get (loops_at m s) d ≡ Some l → IsRound (suc d) (within_loop l.variable v)
  round_more d v s l r within at x c = by (cases_of l.variable v.variables x c)
    where
      later : Contains w.variables x ⊎ IsTurned d x → Contains w.variables x ⊎ IsTurned (suc d) x
      later (inl h) = inl h
      later (inr t) = inr (record {
        statement = t.statement;
        within = t.within;
        place = t.place;
        before = (let b = t.before in omega (arith, b));
        loop = t.loop;
        there = t.there;
        name = t.name;
      })

      by : (l.variable ≡ x) ⊎ Contains v.variables x → Contains w.variables x ⊎ IsTurned (suc d) x
      by (inl e) = inr (record { statement = s; within = within; place = d; before = omega arith; loop = l; there = at; name = sym e })
      by (inr h) = later (r x h)

  -- ---- statements

  mark_is : (s level : ℕ) → s < count → level < 2 ^ 32 → IsMark (mark_of m s level)
  mark_is s level within h = record { nest = fit.number; statement = (let f = fit.few in omega (arith, f, within)); level = h }

  small_level : (k : ℕ) → k ≤ 8 → k < 2 ^ 32
  small_level k h = let e : k < 4294967296 = omega (arith, h) in e

  less : (n : ℕ) → n + rise ≤ expression_depth90 → n ≤ expression_depth90
  less n h = omega (arith, h)

  assigns : (v : Surroundings) (line : ℕ) (guard : Option Expression) (left : Reference) (right : Expression) → IsFitStatement ds w line guard left right → (Contains v.variables left.name → ⊥)
      → IsAssignment ds left right v
  assigns v line guard left right f free = (by (declared ds left.name) f.found, inl f.right_is.1, free)
    where
      by : (o : Option Declaration) → IsSomeAnd o (λ (d : Declaration). d.kind ≡ f.kind)
          → IsSomeAnd o (λ (d : Declaration). IsWhole ds (named left) d.kind × IsWhole ds right d.kind)
      by None g = absurd g
      by (Some d) g =
          subst (λ k. IsWhole ds (named left) k × IsWhole ds right k) (sym g)
          (record { suits = f.left_is.0; depth = less (depth_of (named left)) f.left_depth }, record { suits = f.right_is.0; depth = less (depth_of right) f.right_depth })

  -- under its guard, if it has one
  under_is : (line : ℕ) (guard : Option Expression) (c : Statement) (x : List ℕ) (v : Surroundings) → IsLine line → IsGuard ds guard → (Contains v.variables x → ⊥)
      → ((u : Surroundings) → (Contains u.variables x → ⊥) → IsStatement ds c u) → IsStatement ds (under_guard line guard c) v
  under_is line None c x v l g free inner = inner v free
  under_is line (Some e) c x v l g free inner =
      let whole : IsWholeScalar ds e Logical = record { suits = g.0; depth = less (depth_of e) g.1 } in
      (l, refl, (whole, (inner (before_labels [] v) free, tt), tt), tt)

  kept_is : (d s : ℕ) (v : Surroundings) → IsRound d v → s < count → IsBlock ds (block_of_piece m (suc d) (Kept s)) v
  kept_is d s v r within =
      let x = standing_at m s in
      let f = fit.statements s within in
      let deep = fit.deep s within in
      let marked = mark_is s (length (loops_at m s) + 1) within (small_level (length (loops_at m s) + 1) (omega (arith, deep))) in
      one_is ds (kept_statement m s) v
      (under_is x.statement.line x.statement.guard (kept_assignment m s) x.statement.left.name v f.line_is f.guard_is (free_left d v s r within)
      (λ u free. ((f.line_is, marked), assigns u x.statement.line x.statement.guard x.statement.left x.statement.right f free)))

  -- ---- array forms

  level_is : (d s : ℕ) → s < count → suc d ≤ length (loops_at m s) → IsLevelOf m (suc d) s
  level_is d s within h = (within, omega arith, h)

  none_held : (d s : ℕ) → s < count → suc d ≤ length (loops_at m s) → may_be_formed edges holds (suc d) s ≡ true
      → hold_there m (suc d) s ≡ None
  none_held d s within h may = by (all (suc d) s (level_is d s within h))
    where
      by : (hold_there m (suc d) s ≡ None) ⊎ (is_held holds (suc d) s ≡ true) → hold_there m (suc d) s ≡ None
      by (inl e) = e
      by (inr held) = absurd (not_both (is_held holds (suc d) s) held (both_true (not (is_recurrent edges (suc d) s)) (not (is_held holds (suc d) s)) may).1)

  formed_is : (d s : ℕ) (v : Surroundings) → IsRound d v → s < count → suc d ≤ length (loops_at m s) → may_be_formed edges holds (suc d) s ≡ true
      → IsBlock ds (block_of_piece m (suc d) (Formed s)) v
  formed_is d s v r within h may =
      let x = standing_at m s in
      let f = fit.statements s within in
      let a = surroundings_at m s in
      let deep = fit.deep s within in
      let none = none_held d s within h may in
      let moves = regular (suc d) s (level_is d s within h) none in
      let many = length-map (loops_at m s) (λ (l : Loop). counted_of (length (loops_at m s)) (counted_loop l)) in
      forms_are ds a (suc d) x.statement.line (Some (mark_of m s (suc d))) x.statement.guard x.statement.left x.statement.right f.kind v
      (fit.writable s within) f.line_is (mark_is s (suc d) within (small_level (suc d) (omega (arith, deep, h))))
      f.guard_is f.left_is f.right_is (free_left d v s r within) f.left_depth f.right_depth
      (some_loops a (suc d) (omega (arith, many, h))) (unheld a (suc d) x.statement.guard x.statement.left (is_safe m x) none) moves.left moves.guard moves.right

  -- ---- all pieces

  classes_fit : (d : ℕ) (c : List ℕ) (classes : List (List ℕ)) → IsPart count c → Components (edges_of edges) d c classes → Each (IsPart count) classes
  classes_fit d c classes part h = each classes (λ s i. (h.same s).1 i) h.once
    where
      each : (cs : List (List ℕ)) → ((s : ℕ) → In s (concat cs) → In s c) → Distinct (concat cs) → Each (IsPart count) cs
      each [] f once = tt
      each (b ∷ cs) f once = (
        record { once = distinct_left b (concat cs) once; below = λ s i. part.below s (f s (In-left s b (concat cs) i)) },
        each cs (λ s i. f s (In-right s b (concat cs) i)) (distinct_right b (concat cs) once),
      )

  to_in : (s : ℕ) (xs : List ℕ) → lists.IsMember s xs → In s xs
  to_in s [] i = i
  to_in s (x ∷ xs) (inl e) = inl e
  to_in s (x ∷ xs) (inr i) = inr (to_in s xs i)

  only_below : (s : ℕ) (c : List ℕ) → c ≡ s ∷ [] → IsPart count c → s < count
  only_below s c e part = part.below s (subst (λ (xs : List ℕ). In s xs) (sym e) (inl refl))

  turning_is : (d : ℕ) (l : Loop) (ps : Pieces) (v : Surroundings) (s : ℕ) → IsRound d v → s < count → slice_get (loops_at m s) d ≡ Some l
      → IsBlock ds (block_of_pieces m (suc (suc d)) ps) (within_loop l.variable v) → IsBlock ds (block_of_piece m (suc d) (Turning l ps)) v
  turning_is d l ps v s r within at body =
      let own = fit.loops s d l within at in
      one_is ds (turning_statement m l (block_of_pieces m (suc (suc d)) ps)) v (
        fit.line,
        record { integer = own.integer; free = free_counter d v s l r within at },
        record { suits = ((omega arith, refl), refl); depth = omega arith },
        own.last,
        record { suits = ((omega arith, refl), refl); depth = omega arith },
        body,
      )

  mutual
    piece_is : (d : ℕ) (c : List ℕ) (p : Piece) (v : Surroundings) → IsPart count c → IsRound d v → IsEmittedFor m edges holds (suc d) c p → IsBlock ds (block_of_piece m (suc d) p) v
    piece_is d c (Kept s) v part r h = kept_is d s v r (only_below s c h.0 part)
    piece_is d c (Formed s) v part r h = formed_is d s v r (only_below s c h.0 part) h.1 h.2
    piece_is d c (Turning l ps) v part r h =
        let s = h.0.statement in
        let within = part.below s (to_in s c h.0.among) in
        let at : slice_get (loops_at m s) d ≡ Some l = (let e : suc d - 1 ≡ d = omega arith in ap (slice_get (loops_at m s)) (sym e) ∙ h.0.loop) in
        turning_is d l ps v s r within at
        (pieces_are (suc d) h.2.0 ps (within_loop l.variable v)
        (classes_fit (suc d) c h.2.0 part (components_of edges (suc d) c h.2.0 part.once h.2.1))
        (round_more d v s l r within at) h.2.2)

    pieces_are : (d : ℕ) (cs : List (List ℕ)) (ps : Pieces) (v : Surroundings) → Each (IsPart count) cs → IsRound d v → AreEmittedFor m edges holds (suc d) cs ps → IsBlock ds (block_of_pieces m (suc d) ps) v
    pieces_are d [] no_pieces v parts r h = tt
    pieces_are d [] (piece p ps) v parts r h = absurd h
    pieces_are d (c ∷ cs) no_pieces v parts r h = absurd h
    pieces_are d (c ∷ cs) (piece p ps) v parts r h =
        then_is ds (block_of_piece m (suc d) p) (block_of_pieces m (suc d) ps) v
        (first_without (block_of_piece m (suc d) p) no_statements (pieces_no_label m (suc d) (piece p no_pieces))) (pieces_no_label m (suc d) ps)
        (piece_is d c p v parts.0 r h.0) (pieces_are d cs ps v parts.1 r h.1)

  pub emission_is : (ps : Pieces) → AreEmitted m edges holds 1 (range_with_len 0 count) ps → IsBlock ds (block_of_pieces m 1 ps) w
  emission_is ps h =
      let part = whole_part count in
      pieces_are 0 h.classes ps w
      (classes_fit 0 (range_with_len 0 count) h.classes part (components_of edges 0 (range_with_len 0 count) h.classes part.once h.components))
      (λ x c. inl c) h.emitted
