-- The form of a loop of a program of the profile, and all statements with such forms.
use Rattle.std.proofs.Common.{◌≡◌, refl, sym, ap, ap₂, ◌∙◌, subst, ◌⊎◌, inl, inr, ℕ, ◌+◌, ◌-◌, ◌≤◌, ◌<◌, ◌^◌, max, nat_le, ℤ, pos, Bool, true, false, not, ◌&&◌, ◌||◌, cond, List, [], ◌∷◌, length, Option, Some, None, arith}
use Rattle.std.specs.Prelude.{Contains, is_some}
use Rattle.std.specs.Option.{IsSomeAnd}
use Rattle.std.specs.List.{AllByRecursion}
use Rattle.tree.specs.Functions.{name_of_reduction}
use Rattle.tree.specs.Limits as limits
use Rattle.tree.specs.OperatorTable.{left_least, right_least}
use Rattle.tree.specs.Plain.{Expression, Number, Logic, Named, Unary, Binary, Apply, Constructor, Spread, Transpose, Reshape, Reduce, Expressions, no_expressions, expression, Subscript, Only, Section, Subscripts, no_subscripts, subscript, Reference}
use Rattle.tree.specs.Plain.{Extent, Given, Later, Declaration, Program, Statement, Assignment, Where, If, Do, Label, GoTo, Stop, Read, Print, Allocate, Deallocate, Arms, no_arms, arm, Block, no_statements, statement}
use Rattle.tree.specs.declared.functions.Red.{Red}
use Rattle.tree.specs.declared.ops.Kind.{Kind}
use Rattle.tree.specs.declared.ops.Kind.TheVariants.{Integer, Logical}
use Rattle.tree.specs.declared.ops.Op.TheVariants.{Ge}
use Rattle.meaning.specs.Blocks.{Surroundings, before_labels, labels_of, outermost, within_loop}
use Rattle.meaning.specs.Depths.{depth_of, depth_of_subscript, depth_of_subscripts, enclosed, level}
use Rattle.meaning.specs.Labels.{IsWithoutRepeats, all_labels_in, targets_in}
use Rattle.meaning.specs.Profile90.{AreArms, IsBlock, IsMark, IsProgram90, IsStatement, IsWhole, IsWholeScalar}
use Rattle.meaning.specs.Typed.{declared, number_of_subscripts, rank_of_extent}
use Rattle.meaning.specs.Typed90.{AreSubscripts, Conform, HasKind, IsFree, IsSubscript, SuitsDimensions, rank_of, rank_of_each, rank_of_name, rank_of_subscript, rank_of_subscripts}
use Rattle.meaning.specs.Value.{are_indices, are_scalar, is_bare, is_index, is_scalar, named}
use Rattle.meaning_laws.proofs.profiles.Lists.{there}
use Rattle.rewrite.specs.Profile.{deepest_in, deepest_in_arms, deepest_of}
use Rattle.reductions.specs.declared.gathering.Gathering.{Gathering}
use Rattle.reductions.specs.declared.gathering.Gathering.TheVariants.{Adds, Takes, Greatest, Least}
use Rattle.reductions.specs.Finding.{Context, FoundLoop, bounds_by, bounds_given, context_of, is_hidden, is_positive, is_title, may_be_section, one_is_variable, reducible, stands_in_subscript, stands_in_subscripts}
use Rattle.reductions.specs.Gathering.{Lines, Loop, form_of, gatherer, in_section, in_turn, is_variable, listed, loop_of, of_all, section_of, sectioned, tested}
use Rattle.reductions.specs.Reduced.{form, formed_or, lines_of, outward, reduced, reduced_arms, reduced_block, values_of}
use Rattle.reduction_laws.specs.blocks.Profile.{ReducedIsProgram}
use Rattle.reduction_laws.proofs.blocks.Conditions.{Conditions, Typed, conditions, typed}
use Rattle.reduction_laws.proofs.blocks.Counts.{counted, counted_arms, counted_block}
use Rattle.reduction_laws.proofs.blocks.Sameness.{both}
use Rattle.reduction_laws.proofs.blocks.Shape.{lines_at, reducible_is}

-- ---- depths

at_least : (least own n : ℕ) → n ≤ enclosed least own n
at_least least own n = by (nat_le least own)
  where
    by : (b : Bool) → n ≤ cond b n (1 + n)
    by true = omega arith
    by false = omega arith

at_most : (least own n : ℕ) → enclosed least own n ≤ 1 + n
at_most least own n = by (nat_le least own)
  where
    by : (b : Bool) → cond b n (1 + n) ≤ 1 + n
    by true = omega arith
    by false = omega arith

turn_depth : (g : Gathering) (r : Reference) (e : Expression) → (1 + depth_of e ≤ depth_of (in_turn g (named r) e)) × (1 + depth_of (named r) ≤ depth_of (in_turn g (named r) e))
turn_depth (Adds false) r e = (deeper (depth_of (named r)) (depth_of e) _ (at_least _ (level e) (depth_of e)), other (depth_of (named r)) _)
  where
    deeper : (a b c : ℕ) → b ≤ c → 1 + b ≤ 1 + max a c
    deeper a b c h = omega (arith, h)

    other : (a c : ℕ) → 1 + a ≤ 1 + max a c
    other a c = omega arith
turn_depth (Adds true) r e = (deeper (depth_of (named r)) (depth_of e) _ (at_least _ (level e) (depth_of e)), other (depth_of (named r)) _)
  where
    deeper : (a b c : ℕ) → b ≤ c → 1 + b ≤ 1 + max c a
    deeper a b c h = omega (arith, h)

    other : (a c : ℕ) → 1 + a ≤ 1 + max c a
    other a c = omega arith
turn_depth Takes r e = (deeper (depth_of (named r)) (depth_of e) _ (at_least _ (level e) (depth_of e)), other (depth_of (named r)) _)
  where
    deeper : (a b c : ℕ) → b ≤ c → 1 + b ≤ 1 + max a c
    deeper a b c h = omega (arith, h)

    other : (a c : ℕ) → 1 + a ≤ 1 + max a c
    other a c = omega arith
turn_depth (Greatest false) r e = (omega arith, omega arith)
turn_depth (Greatest true) r e = (omega arith, omega arith)
turn_depth (Least false) r e = (omega arith, omega arith)
turn_depth (Least true) r e = (omega arith, omega arith)

all_depth : (g : Gathering) (r : Reference) (f : Expression) → depth_of (of_all g (named r) f) ≤ 1 + max (depth_of (named r)) (1 + depth_of f)
all_depth (Adds turned) r f = omega arith
all_depth Takes r f = omega arith
all_depth (Greatest turned) r f = omega arith
all_depth (Least turned) r f = omega arith

listed_depth : (i : List ℕ) (t e : Expression) → depth_of (listed i t e) ≤ 2 + max (depth_of e) (depth_of t)
listed_depth i t e = omega arith

section_depth : (i : List ℕ) (t : Expression) (ps : Subscripts) → depth_of_subscripts (sectioned i t ps) ≤ max (depth_of_subscripts ps) (1 + depth_of t)
section_depth i t no_subscripts = omega arith
section_depth i t (subscript p ps) = joined (depth_of_subscript (in_section i t p)) (depth_of_subscript p) (depth_of_subscripts (sectioned i t ps)) (depth_of_subscripts ps) (depth_of t) (one (is_variable i p)) (section_depth i t ps)
  where
    one : (b : Bool) → depth_of_subscript (cond b (Section (Number (pos 1)) t (Number (pos 1))) p) ≤ max (depth_of_subscript p) (depth_of t)
    one true = omega arith
    one false = omega arith

    joined : (a b c d e : ℕ) → a ≤ max b e → c ≤ max d (1 + e) → max (1 + a) c ≤ max (max (1 + b) d) (1 + e)
    joined a b c d e h k = omega (arith, h, k)

-- ---- ranks

module _ (ds : List Declaration) where
  bare_rank : (x : List ℕ) → is_bare (bounds_by ds x) ≡ true → rank_of_name ds x ≡ 0
  bare_rank x e = by (declared ds x) e
    where
      extent : (n : Extent) → is_bare (bounds_given n) ≡ true → rank_of_extent n ≡ 0
      extent (Given []) e = refl
      extent (Given (b ∷ bs)) e = cc
      extent (Later n) e = cc

      by : (o : Option Declaration) → is_bare (elim o [ None ↦ None | Some d ↦ bounds_given d.extent ]) ≡ true → ◌≡◌ {A = ℕ} (elim o [ None ↦ 0 | Some d ↦ rank_of_extent d.extent ]) 0
      by None e = cc
      by (Some d) e = extent d.extent e

  no_sum : (a b : ℕ) → a ≡ 0 → b ≡ 0 → a + b ≡ 0
  no_sum a b h k = omega (arith, h, k)

  no_max : (a b : ℕ) → a ≡ 0 → b ≡ 0 → max a b ≡ 0
  no_max a b h k = omega (arith, h, k)

  mutual
    scalar_rank : (e : Expression) → is_scalar e (bounds_by ds) ≡ true → rank_of ds e ≡ 0
    scalar_rank (Number n) h = refl
    scalar_rank (Logic b) h = refl
    scalar_rank (Named x no_subscripts) h = bare_rank x h
    scalar_rank (Named x (subscript q qs)) h = let k = both (is_index q (bounds_by ds)) (are_indices qs (bounds_by ds)) h in no_sum (rank_of_subscript ds q) (rank_of_subscripts ds qs) (index_rank q k.0) (indices_rank qs k.1)
    scalar_rank (Unary o a) h = scalar_rank a h
    scalar_rank (Binary o a b) h = let k = both (is_scalar a (bounds_by ds)) (is_scalar b (bounds_by ds)) h in no_max (rank_of ds a) (rank_of ds b) (scalar_rank a k.0) (scalar_rank b k.1)
    scalar_rank (Apply f es) h = scalars_rank es h
    scalar_rank (Constructor es ls) h = cc
    scalar_rank (Spread a k e) h = cc
    scalar_rank (Transpose a) h = cc
    scalar_rank (Reshape a es) h = cc
    scalar_rank (Reduce r a) h = refl

    scalars_rank : (es : Expressions) → are_scalar es (bounds_by ds) ≡ true → rank_of_each ds es ≡ 0
    scalars_rank no_expressions h = refl
    scalars_rank (expression e es) h = let k = both (is_scalar e (bounds_by ds)) (are_scalar es (bounds_by ds)) h in no_max (rank_of ds e) (rank_of_each ds es) (scalar_rank e k.0) (scalars_rank es k.1)

    indices_rank : (ps : Subscripts) → are_indices ps (bounds_by ds) ≡ true → rank_of_subscripts ds ps ≡ 0
    indices_rank no_subscripts h = refl
    indices_rank (subscript q qs) h = let k = both (is_index q (bounds_by ds)) (are_indices qs (bounds_by ds)) h in no_sum (rank_of_subscript ds q) (rank_of_subscripts ds qs) (index_rank q k.0) (indices_rank qs k.1)

    index_rank : (q : Subscript) → is_index q (bounds_by ds) ≡ true → rank_of_subscript ds q ≡ 0
    index_rank (Only e) h = scalar_rank e h
    index_rank (Section a b c) h = cc

  -- ---- kinds

  turn_kind : (g : Gathering) (x e : Expression) (k : Kind) → HasKind ds (in_turn g x e) k → k ≡ Integer
  turn_kind (Adds false) x e k h = h.1
  turn_kind (Adds true) x e k h = h.1
  turn_kind Takes x e k h = h.1
  turn_kind (Greatest false) x e k h = h.2
  turn_kind (Greatest true) x e k h = h.2
  turn_kind (Least false) x e k h = h.2
  turn_kind (Least true) x e k h = h.2

  all_kind : (g : Gathering) (x e f : Expression) (k : Kind) → HasKind ds (in_turn g x e) k → HasKind ds (Reduce (gatherer g) f) Integer → HasKind ds (of_all g x f) k
  all_kind (Adds false) x e f k h r = (h.0, h.1, h.2, r, inr (inl refl))
  all_kind (Adds true) x e f k h r = (h.0, h.1, h.3, r, inr (inl refl))
  all_kind Takes x e f k h r = (h.0, h.1, h.2, r, inr (inl refl))
  all_kind (Greatest false) x e f k h r = (h.0, h.1, h.2, (h.3.0, inr (inl refl), (r, inl refl, tt)))
  all_kind (Greatest true) x e f k h r = (h.0, h.1, h.2, (h.3.2.0, inr (inl refl), (r, inl refl, tt)))
  all_kind (Least false) x e f k h r = (h.0, h.1, h.2, (h.3.0, inr (inl refl), (r, inl refl, tt)))
  all_kind (Least true) x e f k h r = (h.0, h.1, h.2, (h.3.2.0, inr (inl refl), (r, inl refl, tt)))

  all_rank : (g : Gathering) (x f : Expression) → rank_of ds (of_all g x f) ≡ rank_of ds x
  all_rank (Adds turned) x f = omega arith
  all_rank Takes x f = omega arith
  all_rank (Greatest turned) x f = omega arith
  all_rank (Least turned) x f = omega arith

  -- ---- sections

  module _ (i : List ℕ) (t : Expression) (one : HasKind ds (Number (pos 1)) Integer × (rank_of ds (Number (pos 1)) ≡ 0)) (trip : HasKind ds t Integer × (rank_of ds t ≡ 0)) where
    section_subscripts : (ps : Subscripts) → AreSubscripts ds ps → AreSubscripts ds (sectioned i t ps)
    section_subscripts no_subscripts h = tt
    section_subscripts (subscript p ps) h = (by (is_variable i p), section_subscripts ps h.1)
      where
        by : (b : Bool) → IsSubscript ds (cond b (Section (Number (pos 1)) t (Number (pos 1))) p)
        by true = (one, trip, one)
        by false = h.0

  section_number : (i : List ℕ) (t : Expression) (ps : Subscripts) → number_of_subscripts (sectioned i t ps) ≡ number_of_subscripts ps
  section_number i t no_subscripts = refl
  section_number i t (subscript p ps) = ap (λ n. 1 + n) (section_number i t ps)

  section_rank : (i : List ℕ) (t : Expression) (ps : Subscripts) → one_is_variable i ps ≡ true → 1 ≤ rank_of_subscripts ds (sectioned i t ps)
  section_rank i t no_subscripts e = cc
  section_rank i t (subscript p ps) e = by (section_rank i t ps) (is_variable i p) e
    where
      later : (a b : ℕ) → 1 ≤ b → 1 ≤ a + b
      later a b h = omega (arith, h)

      by : (one_is_variable i ps ≡ true → 1 ≤ rank_of_subscripts ds (sectioned i t ps)) → (b : Bool) → cond b (not (stands_in_subscripts i ps)) (not (stands_in_subscript i p) && one_is_variable i ps) ≡ true
          → 1 ≤ rank_of_subscript ds (cond b (Section (Number (pos 1)) t (Number (pos 1))) p) + rank_of_subscripts ds (sectioned i t ps)
      by more true e = omega arith
      by more false e = later (rank_of_subscript ds p) (rank_of_subscripts ds (sectioned i t ps)) (more (both (not (stands_in_subscript i p)) (one_is_variable i ps) e).1)

  -- the values of e are an array of numbers
  pub record IsArray (f : Expression) (most : ℕ) : Type 0 where
    pub kind : HasKind ds f Integer
    pub rank : 1 ≤ rank_of ds f
    pub depth : depth_of f ≤ most

  module _ (l : Loop) (v : Surroundings) (ty : Typed ds l v) (scalar : is_scalar l.operand (bounds_by ds) ≡ true) (one : HasKind ds (Number (pos 1)) Integer × (rank_of ds (Number (pos 1)) ≡ 0)) (trip : HasKind ds l.trip Integer × (rank_of ds l.trip ≡ 0)) where
    listed_array : IsArray (listed l.variable l.trip l.operand) (2 + max (depth_of l.operand) (depth_of l.trip))
    listed_array = record {
      kind = (((ty.operand, scalar_rank l.operand scalar), tt), refl, (ty.integer, one, trip, tt));
      rank = omega arith;
      depth = listed_depth l.variable l.trip l.operand;
    }

    section_array : may_be_section l.variable l.operand ≡ true → IsArray (section_of l.variable l.trip l.operand) (2 + max (depth_of l.operand) (depth_of l.trip))
    section_array e = by l.operand e ty.operand
      where
        deep : (a b c : ℕ) → a ≤ max b (1 + c) → a ≤ 2 + max b c
        deep a b c h = omega (arith, h)

        dims : (x : List ℕ) (ps : Subscripts) → one_is_variable l.variable ps ≡ true → (n : ℕ) → SuitsDimensions ps n → SuitsDimensions (sectioned l.variable l.trip ps) n
        dims x no_subscripts e n h = cc
        dims x (subscript q qs) e n h = section_number l.variable l.trip (subscript q qs) ∙ h

        suits : (o : Option Declaration) (x : List ℕ) (ps : Subscripts) → one_is_variable l.variable ps ≡ true → IsSomeAnd o (λ d. (Integer ≡ d.kind) × SuitsDimensions ps (rank_of_extent d.extent))
            → IsSomeAnd o (λ d. (Integer ≡ d.kind) × SuitsDimensions (sectioned l.variable l.trip ps) (rank_of_extent d.extent))
        suits (Some d) x ps e h = (h.0, dims x ps e (rank_of_extent d.extent) h.1)
        suits None x ps e h = h

        ranked : (x : List ℕ) (ps : Subscripts) → one_is_variable l.variable ps ≡ true → 1 ≤ rank_of ds (Named x (sectioned l.variable l.trip ps))
        ranked x no_subscripts e = cc
        ranked x (subscript q qs) e = section_rank l.variable l.trip (subscript q qs) e

        by : (f : Expression) → may_be_section l.variable f ≡ true → HasKind ds f Integer → IsArray (section_of l.variable l.trip f) (2 + max (depth_of f) (depth_of l.trip))
        by (Named x ps) e h = record {
          kind = (suits (declared ds x) x ps e h.0, section_subscripts l.variable l.trip one trip ps h.1);
          rank = ranked x ps e;
          depth = deep (depth_of_subscripts (sectioned l.variable l.trip ps)) (depth_of_subscripts ps) (depth_of l.trip) (section_depth l.variable l.trip ps);
        }
        by (Number n) e h = cc
        by (Logic b) e h = cc
        by (Unary o a) e h = cc
        by (Binary o a b) e h = cc
        by (Apply f es) e h = cc
        by (Constructor es ls) e h = cc
        by (Spread a k f) e h = cc
        by (Transpose a) e h = cc
        by (Reshape a es) e h = cc
        by (Reduce r a) e h = cc

    values_array : (b : Bool) → may_be_section l.variable l.operand ≡ b → IsArray (cond b (section_of l.variable l.trip l.operand) (listed l.variable l.trip l.operand)) (2 + max (depth_of l.operand) (depth_of l.trip))
    values_array true e = section_array e
    values_array false e = listed_array

free_name : {A : Type 0} (o : Option A) (t : Bool) → (is_some o || t) ≡ false → o ≡ None
free_name None t e = refl
free_name (Some a) t e = cc

-- ---- the form of a loop

module _ (p : Program) where
  abbrev ds : List Declaration
  ds = p.declarations

  abbrev w : Context
  w = context_of p

  form_typed : (f : FoundLoop) (v : Surroundings) → Conditions w f.loop → IsStatement ds (loop_of (lines_at f) f.loop) v → deepest_of (loop_of (lines_at f) f.loop) + 4 ≤ limits.expression_depth90 → IsStatement ds (form f) v
  form_typed f v c h deep = by (is_positive f.loop.trip)
    where
      ty : Typed ds f.loop v
      ty = typed ds (lines_at f) f.loop v h

      array : IsArray ds (values_of f) (2 + max (depth_of f.loop.operand) (depth_of f.loop.trip))
      array = values_array ds f.loop v ty c.operand h.2.suits h.3.suits (may_be_section f.loop.variable f.loop.operand) refl

      reduces : HasKind ds (Reduce (gatherer f.loop.how) (values_of f)) Integer
      reduces = (free_name (declared ds (name_of_reduction (gatherer f.loop.how))) (is_title p.name (name_of_reduction (gatherer f.loop.how))) c.free, array.rank, refl, array.kind)

      limit : (t x e r a f0 : ℕ) → max (max 0 (max t 0)) (max (max x r) 0) + 4 ≤ limits.expression_depth90 → 1 + e ≤ r → 1 + x ≤ r → f0 ≤ 2 + max e t → a ≤ 1 + max x (1 + f0) → a ≤ limits.expression_depth90
      limit t x e r a f0 h k m n o = omega (arith, h, k, m, n, o)

      whole : (k : Kind) → HasKind ds (in_turn f.loop.how (named f.loop.left) f.loop.operand) k → IsWhole ds (of_all f.loop.how (named f.loop.left) (values_of f)) k
      whole k s =
          let d = turn_depth f.loop.how f.loop.left f.loop.operand in
          record {
            suits = all_kind ds f.loop.how (named f.loop.left) f.loop.operand (values_of f) k s reduces;
            depth = limit (depth_of f.loop.trip) (depth_of (named f.loop.left)) (depth_of f.loop.operand) (depth_of (in_turn f.loop.how (named f.loop.left) f.loop.operand))
                (depth_of (of_all f.loop.how (named f.loop.left) (values_of f))) (depth_of (values_of f)) deep d.0 d.1 array.depth (all_depth f.loop.how f.loop.left (values_of f));
          }

      sides : (o : Option Declaration) → IsSomeAnd o (λ d. IsWhole ds (named f.loop.left) d.kind × IsWhole ds (in_turn f.loop.how (named f.loop.left) f.loop.operand) d.kind)
          → IsSomeAnd o (λ d. IsWhole ds (named f.loop.left) d.kind × IsWhole ds (of_all f.loop.how (named f.loop.left) (values_of f)) d.kind)
      sides (Some d) k = (k.0, whole d.kind k.1.suits)
      sides None k = k

      lower : (m n : ℕ) → m < n → m - 1 < n
      lower m n h = omega (arith, h)

      stored : IsStatement ds (form_of (lines_of f) f.loop (values_of f)) v
      stored =
          let a = h.5.0.1 in
          let m = h.5.0.0 in (
            (m.0, record { nest = m.1.nest; statement = m.1.statement; level = lower f.mark.level (2 ^ 32) m.1.level }),
            (sides (declared ds f.loop.left.name) a.0, inr (all_rank ds f.loop.how (named f.loop.left) (values_of f)), λ n. a.2 (there f.loop.variable v.variables f.loop.left.name n)),
          )

      shallow : (t x r : ℕ) → max (max 0 (max t 0)) (max (max x r) 0) + 4 ≤ limits.expression_depth90 → (a b : ℕ) → a ≤ 1 + t → b ≤ 1 → 1 + max a b ≤ limits.expression_depth90
      shallow t x r h a b k m = omega (arith, h, k, m)

      no_rank : (n : ℕ) → n ≡ 0 → max n 0 ≡ 0
      no_rank n e = omega (arith, e)

      test : IsWholeScalar ds (Binary Ge f.loop.trip (Number (pos 1))) Logical
      test = record {
        suits = ((refl, refl, h.3.suits.0, h.2.suits.0, inr (inl refl)), no_rank (rank_of ds f.loop.trip) h.3.suits.1);
        depth = shallow (depth_of f.loop.trip) (depth_of (named f.loop.left)) (depth_of (in_turn f.loop.how (named f.loop.left) f.loop.operand)) deep
            (enclosed (left_least Ge) (level f.loop.trip) (depth_of f.loop.trip)) (enclosed (right_least Ge) 10 0) (at_most (left_least Ge) (level f.loop.trip) (depth_of f.loop.trip)) (at_most (right_least Ge) 10 0);
      }

      by : (b : Bool) → IsStatement ds (cond b (form_of (lines_of f) f.loop (values_of f)) (tested (lines_of f) f.loop (form_of (lines_of f) f.loop (values_of f)))) v
      by true = stored
      by false = (h.0, refl, (test, (stored, tt), tt), tt)

  -- ---- all statements

  first_deep : (a b n : ℕ) → max a b + 4 ≤ n → a + 4 ≤ n
  first_deep a b n h = omega (arith, h)

  then_deep : (a b n : ℕ) → max a b + 4 ≤ n → b + 4 ≤ n
  then_deep a b n h = omega (arith, h)

  mutual
    statement_typed : (c : Statement) (v : Surroundings) → IsStatement ds c v → deepest_of c + 4 ≤ limits.expression_depth90 → IsStatement ds (reduced w c) v
    statement_typed (If line arms other) v h deep = (
      h.0,
      (counted_arms w arms).some ∙ h.1,
      arms_typed arms v h.2 (first_deep (deepest_in_arms arms) (deepest_in other) limits.expression_depth90 deep),
      block_typed other v h.3 (then_deep (deepest_in_arms arms) (deepest_in other) limits.expression_depth90 deep),
    )
    statement_typed (Do line x a b c body) v h deep =
        by (block_typed body (within_loop x v) h.5 (then_deep (max (depth_of a) (max (depth_of b) (depth_of c))) (deepest_in body) limits.expression_depth90 deep)) (reducible w (Do line x a b c body)) refl
      where
        by : IsBlock ds (reduced_block w body) (within_loop x v) → (o : Option FoundLoop) → reducible w (Do line x a b c body) ≡ o → IsStatement ds (formed_or w o (Do line x a b c (reduced_block w body))) v
        by k None e = (h.0, h.1, h.2, h.3, h.4, k)
        by k (Some f) e =
            let found = reducible_is w line x a b c body f e in
            form_typed f v (conditions w f.loop found.reducible) (subst (λ d. IsStatement ds d v) found.is h) (subst (λ d. deepest_of d + 4 ≤ limits.expression_depth90) found.is deep)
    statement_typed (Assignment line m r e) v h deep = h
    statement_typed (Where line m k r e) v h deep = h
    statement_typed (Label n) v h deep = h
    statement_typed (GoTo line n) v h deep = h
    statement_typed (Stop line) v h deep = h
    statement_typed (Read line is) v h deep = h
    statement_typed (Print line is) v h deep = h
    statement_typed (Allocate line x es) v h deep = h
    statement_typed (Deallocate line x) v h deep = h

    arms_typed : (arms : Arms) (v : Surroundings) → AreArms ds arms v → deepest_in_arms arms + 4 ≤ limits.expression_depth90 → AreArms ds (reduced_arms w arms) v
    arms_typed no_arms v h deep = tt
    arms_typed (arm test body arms) v h deep =
        let more = then_deep (depth_of test) (max (deepest_in body) (deepest_in_arms arms)) limits.expression_depth90 deep in
        (h.0, block_typed body v h.1 (first_deep (deepest_in body) (deepest_in_arms arms) limits.expression_depth90 more), arms_typed arms v h.2 (then_deep (deepest_in body) (deepest_in_arms arms) limits.expression_depth90 more))

    block_typed : (cs : Block) (v : Surroundings) → IsBlock ds cs v → deepest_in cs + 4 ≤ limits.expression_depth90 → IsBlock ds (reduced_block w cs) v
    block_typed no_statements v h deep = tt
    block_typed (statement c cs) v h deep = (
      subst (λ ns. IsStatement ds (reduced w c) (before_labels ns v)) (sym (counted_block w cs).own) (statement_typed c (before_labels (labels_of cs) v) h.0 (first_deep (deepest_of c) (deepest_in cs) limits.expression_depth90 deep)),
      block_typed cs v h.1 (then_deep (deepest_of c) (deepest_in cs) limits.expression_depth90 deep),
    )

-- ---- the program

no_more : (a b n : ℕ) → a ≤ b → b ≤ n → a ≤ n
no_more a b n h k = omega (arith, h, k)

fewer : (a b n : ℕ) → a ≤ b → b < n → a < n
fewer a b n h k = omega (arith, h, k)

pub reduced_is_program : ReducedIsProgram
reduced_is_program p h deep =
    let k = counted_block (context_of p) p.body in
    record {
      name = h.name;
      declarations = h.declarations;
      statements = block_typed p p.body outermost h.statements deep;
      blocks = no_more _ _ _ k.blocks h.blocks;
      labels = subst IsWithoutRepeats (sym k.labels) h.labels;
      named = subst (λ ns. AllByRecursion (Contains (targets_in (reduced_block (context_of p) p.body))) ns) (sym k.labels) (subst (λ ts. AllByRecursion (Contains ts) (all_labels_in p.body)) (sym k.targets) h.named);
      few = fewer _ _ _ k.statements h.few;
    }
