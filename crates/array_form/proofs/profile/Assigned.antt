-- The array form of an assignment, with the IF on its trips, is a block of the profile.
use Rattle.std.proofs.Common.{◌≡◌, refl, sym, ap, ◌∙◌, subst, ◌⊎◌, inl, inr, ℕ, suc, ◌+◌, ◌-◌, ◌≤◌, pos, Bool, true}
use Rattle.std.proofs.Common.{false, cond, List, [], ◌∷◌, length, Option, Some, None, Contains, arith}
use Rattle.std.specs.Prelude.{IfSome, not}
use Rattle.std.specs.Option.{IsSomeAnd}
use Rattle.std.proofs.lemmas.Bool.{and_from, both_ways}
use Rattle.std.proofs.lemmas.List.{length-drop}
use Rattle.tree.specs.Plain.{Expression, Number, Named, Binary, Reference, Subscripts, no_subscripts, subscript}
use Rattle.tree.specs.Plain.{Only, Section, Declaration, Where, If, no_arms, arm, Block, no_statements, statement}
use Rattle.tree.specs.declared.ops.Kind.{Kind}
use Rattle.tree.specs.declared.ops.Kind.TheVariants.{Logical}
use Rattle.tree.specs.declared.ops.Op.TheVariants.{Ge, And}
use Rattle.tree.specs.declared.stmts.Mark.{Mark}
use Rattle.meaning.specs.Blocks.{Surroundings as Round, before_labels}
use Rattle.meaning.specs.Labels.{IsLine}
use Rattle.meaning.specs.Depths.{level, enclosed, depth_of, depth_of_subscripts}
use Rattle.meaning.specs.Profile90.{IsAssignment, IsBlock, IsMark, IsMasked, IsWhole, IsWholeScalar}
use Rattle.meaning.specs.Reads.{names_in}
use Rattle.meaning.specs.Typed.{declared, rank_of_extent, number_of_subscripts}
use Rattle.meaning.specs.Typed90.{HasKind, IsScalar, SuitsDimensions, rank_of, rank_of_subscripts}
use Rattle.meaning.specs.Value.{named}
use Rattle.linear_forms.specs.Linear.{Form, form_of}
use Rattle.linear_forms.proofs.Sizes.{both}
use Rattle.meaning_laws.proofs.arrays.Members.{here, there}
use Rattle.array_form.specs.forms.Following.{are_moved, are_regular_subscripts, has_no_loop, is_moved, is_regular}
use Rattle.array_form.specs.forms.Forms.{form, subscript_forms, form_trip_text}
use Rattle.array_form.specs.forms.Loops.{FormLoop, FormSurroundings, form_variables_of, form_names_of, is_positive_constant, loops_among}
use Rattle.array_form.specs.forms.Loops.{loops_in_order}
use Rattle.array_form.specs.forms.Guarded.{is_regular_guard}
use Rattle.array_form.specs.forms.Statements.{and_all, array_assignment, guarded_by, guarded_form, left_form}
use Rattle.array_form.specs.forms.Statements.{loops_assigned, loops_from, right_form, stand_in_guard, form_tests_of}
use Rattle.array_form.specs.forms.Statements.{unguarded_hold}
use Rattle.array_form.proofs.forms.Orders.{Ordered, of_drop, ordered_loops}
use Rattle.array_form.specs.profile.Laws.{ArrayFormIsOfProfile, IsGuard}
use Rattle.array_form.specs.profile.Settings.{AreSomeLoops, IsWritable}
use Rattle.array_form.proofs.profile.Among.{few_loops}
use Rattle.array_form.proofs.profile.Formed.{AreFormedSubscripts, IsFormed, formed, formed_subscripts, name_suits}
use Rattle.array_form.proofs.profile.Formed.{subscripts_no_rank, subscripts_rank}
use Rattle.array_form.proofs.profile.Texts.{joined, no_rank_of_two, number_is, trip_of_loop, wrapped}

-- ---- the left side: each subscript in which a loop stands is linear

moved_more : (a : FormSurroundings) (hs : List FormLoop) (o : Option Form) (b : Bool) → is_moved a hs o false ≡ true
    → is_moved a hs o b ≡ true
moved_more a [] o b h = refl
moved_more a (l ∷ hs) (Some f) b h = h
moved_more a (l ∷ hs) None b h = absurd (both_ways false refl h)

moved_are_regular : (a : FormSurroundings) (D : List FormLoop) (ps : Subscripts) → are_moved a D ps ≡ true
    → are_regular_subscripts a D ps ≡ true
moved_are_regular a D no_subscripts h = refl
moved_are_regular a D (subscript (Only e) ps) h =
    let hs = loops_among D (names_in e) in
    let o = form_of (form_variables_of a.loops) a.symbols e in
    let parts = both (is_moved a hs o false) (are_moved a D ps) h in
    and_from (is_moved a hs o (is_regular a hs e)) (are_regular_subscripts a D ps)
    (moved_more a hs o (is_regular a hs e) parts.0) (moved_are_regular a D ps parts.1)
moved_are_regular a D (subscript (Section b c e) ps) h = absurd (both_ways false refl h)

abbrev test : List (List ℕ) → FormLoop → Expression
test names l = Binary Ge (form_trip_text names l.trip) (Number (pos 1))

tests_long : (names : List (List ℕ)) (ls : List FormLoop) → length (form_tests_of names ls) ≤ length ls
tests_long names [] = omega arith
tests_long names (l ∷ ls) = by (is_positive_constant l.trip) (tests_long names ls)
  where
    by : (b : Bool) → length (form_tests_of names ls) ≤ length ls
        → length (cond b (form_tests_of names ls) (test names l ∷ form_tests_of names ls)) ≤ suc (length ls)
    by true more = omega (arith, more)
    by false more = omega (arith, more)

module _ (ds : List Declaration) where
  left_rank : (x : List ℕ) (ps qs : Subscripts) (n : ℕ) → number_of_subscripts qs ≡ number_of_subscripts ps
      → rank_of ds (Named x ps) ≡ 0 → rank_of_subscripts ds qs ≡ n → rank_of ds (Named x qs) ≡ n
  left_rank x no_subscripts no_subscripts n e r h = r ∙ h
  left_rank x no_subscripts (subscript q qs) n e r h = absurd (omega (arith, e))
  left_rank x (subscript p ps) qs n e r h = subscripts_rank ds x qs (number_of_subscripts ps) e ∙ h

  both_whole : (o : Option Declaration) (kind : Kind) (P : Declaration → Type 0) (left right : Expression)
      → IsSomeAnd o (λ d. (kind ≡ d.kind) × P d)
      → HasKind ds left kind → HasKind ds right kind → depth_of left ≤ 1000 → depth_of right ≤ 1000
      → IsSomeAnd o (λ d. IsWhole ds left d.kind × IsWhole ds right d.kind)
  both_whole (Some d) kind P left right h t u i j =
      let first : IsWhole ds left d.kind = record { suits = subst (HasKind ds left) h.0 t; depth = i } in
      let second : IsWhole ds right d.kind = record { suits = subst (HasKind ds right) h.0 u; depth = j } in
      (first, second)
  both_whole None kind P left right h t u i j = absurd h

  -- ---- tests

  record IsTest (most : ℕ) (e : Expression) : Type 0 where
    kind : HasKind ds e Logical
    rank : rank_of ds e ≡ 0
    depth : depth_of e ≤ most

  abbrev AreTests : List Expression → Type 0
  AreTests [] = Unit {0}
  AreTests (e ∷ es) = IsTest 24 e × AreTests es

  test_deeper : (m n : ℕ) (e : Expression) → m ≤ n → IsTest m e → IsTest n e
  test_deeper m n e h s = record { kind = s.kind; rank = s.rank; depth = after (depth_of e) s.depth }
    where
      after : (d : ℕ) → d ≤ m → d ≤ n
      after d k = omega (arith, h, k)

  and_is : (most : ℕ) (e f : Expression) → 24 ≤ most → IsTest most e → IsTest 24 f → IsTest (most + 2) (Binary And e f)
  and_is most e f h i j = record {
    kind = (refl, refl, i.kind, j.kind, inl i.rank);
    rank = no_rank_of_two (rank_of ds e) (rank_of ds f) i.rank j.rank;
    depth = joined (enclosed 4 (level e) (depth_of e)) (enclosed 5 (level f) (depth_of f)) (most + 1) (most + 2)
        (wrapped 4 (level e) (depth_of e) most i.depth)
        (less (enclosed 5 (level f) (depth_of f)) (wrapped 5 (level f) (depth_of f) 24 j.depth)) (omega arith);
  }
    where
      less : (n : ℕ) → n ≤ 24 + 1 → n ≤ most + 1
      less n k = omega (arith, h, k)

  all_are : (most n : ℕ) (e : Expression) (es : List Expression) → 24 ≤ most → most + (length es + length es) ≤ n
      → IsTest most e → AreTests es → IsTest n (and_all e es)
  all_are most n e [] h k i t = test_deeper most n e (omega (arith, k)) i
  all_are most n e (f ∷ es) h k i t = all_are (most + 2) n (Binary And e f) es (omega (arith, h)) (omega (arith, k))
      (and_is most e f h i t.0) t.1

  -- an IF round a block that is one wherever the name is no DO variable
  guarded_is : (line : ℕ) (es : List Expression) (body : Block) (x : List ℕ) (w : Round) → IsLine line → length es ≤ 7
      → AreTests es → (Contains w.variables x → ⊥)
      → ((v : Round) → (Contains v.variables x → ⊥) → IsBlock ds body v) → IsBlock ds (guarded_by line es body) w
  guarded_is line [] body x w h few t apart inner = inner w apart
  guarded_is line (e ∷ es) body x w h few t apart inner =
      let all = all_are 24 1000 e es (omega arith) (omega (arith, few)) t.0 t.1 in
      let whole : IsWholeScalar ds (and_all e es) Logical = record { suits = (all.kind, all.rank); depth = all.depth } in
      ((h, refl, (whole, inner (before_labels [] w) apart, tt), tt), tt)

  module _ (a : FormSurroundings) (w : IsWritable ds a) where
    test_is : (l : FormLoop) → Contains a.loops l → IsTest 24 (test (form_names_of a) l)
    test_is l c =
        let trip = trip_of_loop ds a w l c in
        let one = number_is ds 1 (omega arith) in
        let t = form_trip_text (form_names_of a) l.trip in
        record {
          kind = (refl, refl, trip.kind, one.kind, inl trip.rank);
          rank = no_rank_of_two (rank_of ds t) 0 trip.rank refl;
          depth = joined (enclosed 7 (level t) (depth_of t)) 0 22 24 (wrapped 7 (level t) (depth_of t) 21 trip.depth)
              (omega arith) (omega arith);
        }

    tests_are : (ls : List FormLoop) → ((l : FormLoop) → Contains ls l → Contains a.loops l)
        → AreTests (form_tests_of (form_names_of a) ls)
    tests_are [] h = tt
    tests_are (l ∷ ls) h = by (is_positive_constant l.trip) (tests_are ls (λ m c. h m (there l ls m c)))
      where
        by : (b : Bool) → AreTests (form_tests_of (form_names_of a) ls)
            → AreTests (cond b (form_tests_of (form_names_of a) ls) (test (form_names_of a) l ∷ form_tests_of (form_names_of a) ls))
        by true more = more
        by false more = (test_is l (h l (here l ls)), more)

    -- ---- the assignment

    right_conforms : (D : List FormLoop) (e F left : Expression) (k : Kind) → IsFormed ds D e F k
        → rank_of ds left ≡ length D → (rank_of ds F ≡ 0) ⊎ (rank_of ds F ≡ rank_of ds left)
    right_conforms D e F left k i r = by (has_no_loop (loops_among D (names_in e))) i.rank
      where
        by : (b : Bool) → rank_of ds F ≡ cond b 0 (length D) → (rank_of ds F ≡ 0) ⊎ (rank_of ds F ≡ rank_of ds left)
        by true h = inl h
        by false h = inr (h ∙ sym r)

    assignment_is : (D : List FormLoop) (left : Reference) (right : Expression) (kind : Kind) (qs : Subscripts)
        (F : Expression) (v : Round) → AreSomeLoops a D
        → IsScalar ds (named left) kind → (Contains v.variables left.name → ⊥) → depth_of (named left) + 100 ≤ 1000
        → depth_of right + 100 ≤ 1000 → loops_in_order D left.subscripts ≡ D
        → AreFormedSubscripts ds D left.subscripts qs → IsFormed ds D right F kind
        → IsAssignment ds (record { name = left.name; subscripts = qs }) F v
    assignment_is D left right kind qs F v s t apart room more_room same f i =
        let many : rank_of ds (Named left.name qs) ≡ length D = left_rank left.name left.subscripts qs
        (length D) f.number t.1 (f.rank ∙ ap (λ (xs : List FormLoop). length xs) same) in
        let seven = few_loops a D s w.few in (
          both_whole (declared ds left.name) kind (λ d. SuitsDimensions left.subscripts (rank_of_extent d.extent))
              (Named left.name qs) F t.0.0
              (name_suits (declared ds left.name) kind qs left.subscripts f.number t.0.0, f.kinds) i.kind
              (left_deep (depth_of_subscripts qs) (depth_of_subscripts left.subscripts) f.depth room)
              (right_deep (depth_of F) (depth_of right) (length D) i.depth seven more_room),
          right_conforms D right F (Named left.name qs) kind i many,
          apart,
        )
      where
        left_deep : (m n : ℕ) → m ≤ n + 51 → n + 100 ≤ 1000 → m ≤ 1000
        left_deep m n h k = omega (arith, h, k)

        right_deep : (m n l : ℕ) → m ≤ n + (50 + l) → l ≤ 7 → n + 100 ≤ 1000 → m ≤ 1000
        right_deep m n l h k j = omega (arith, h, k, j)

some_loop : (D : List FormLoop) (names : List (List ℕ)) → has_no_loop (loops_among D names) ≡ false → 1 ≤ length D
some_loop [] names h = absurd (both_ways true h refl)
some_loop (l ∷ D) names h = omega arith

negated : (b : Bool) → not b ≡ true → b ≡ false
negated true h = absurd (both_ways false refl h)
negated false h = refl

module _ (ds : List Declaration) (a : FormSurroundings) (k line : ℕ) (mark : Option Mark) (left : Reference)
    (right : Expression) (kind : Kind) (w : IsWritable ds a) (is_line : IsLine line) (is_mark : IfSome mark IsMark)
    (is_left : IsScalar ds (named left) kind) (is_right : IsScalar ds right kind)
    (room : depth_of (named left) + 100 ≤ 1000) (more : depth_of right + 100 ≤ 1000)
    (hold : unguarded_hold a k left ≡ None) (m : are_moved a (loops_assigned a k left) left.subscripts ≡ true)
    (r : is_regular a (loops_assigned a k left) right ≡ true) where
  abbrev D : List FormLoop
  D = loops_assigned a k left

  ordered : Ordered (loops_from a k) left.subscripts (loops_assigned a k left)
  ordered = ordered_loops a k left w.distinct hold

  some : AreSomeLoops a (loops_assigned a k left)
  some = record { among = λ l c. of_drop (k - 1) a.loops l (ordered.into l c); once = ordered.distinct }

  left_formed : AreFormedSubscripts ds (loops_assigned a k left) left.subscripts
      (subscript_forms a (loops_assigned a k left) left.subscripts)
  left_formed =
      formed_subscripts ds a w left.subscripts D some is_left.0.1 (subscripts_no_rank ds left.name left.subscripts
      is_left.1) (moved_are_regular a D left.subscripts m) ordered.ones

  assigned : (v : Round) → (Contains v.variables left.name → ⊥)
      → IsAssignment ds (left_form a k left) (right_form a k left right) v
  assigned v apart =
      assignment_is ds a w D left right kind (subscript_forms a D left.subscripts) (form a D right) v some is_left apart
      room more ordered.same left_formed (formed ds a w right D kind some is_right.0 is_right.1 r)

  plain_block : (v : Round) → (Contains v.variables left.name → ⊥)
      → IsBlock ds (statement (array_assignment a k line mark left right) no_statements) v
  plain_block v apart = (((is_line, is_mark), assigned (before_labels [] v) apart), tt)

  whole_left : rank_of ds (named (left_form a k left)) ≡ length (loops_assigned a k left)
  whole_left =
      left_rank ds left.name left.subscripts (subscript_forms a D left.subscripts) (length D) left_formed.number
      is_left.1 (left_formed.rank ∙ ap (λ (xs : List FormLoop). length xs) ordered.same)

  masked : (e : Expression) → IsScalar ds e Logical → depth_of e + 100 ≤ 1000
      → is_regular a (loops_assigned a k left) e ≡ true → stand_in_guard (loops_assigned a k left) (Some e) ≡ true
      → IsMasked ds (form a (loops_assigned a k left) e) (left_form a k left)
  masked e scalar deep regular stands =
      let i = formed ds a w e D Logical some scalar.0 scalar.1 regular in
      let loops = negated (has_no_loop (loops_among D (names_in e))) stands in
      let seven = few_loops a D some w.few in
      let many = some_loop D (names_in e) loops in
      let number = whole_left in (
        record { suits = i.kind; depth = shallow (depth_of (form a D e)) (depth_of e) (length D) i.depth seven deep },
        subst (λ n. 1 ≤ n) (sym number) many,
        i.rank ∙ (ap (λ b. cond b 0 (length D)) loops ∙ sym number),
      )
    where
      shallow : (u v l : ℕ) → u ≤ v + (50 + l) → l ≤ 7 → v + 100 ≤ 1000 → u ≤ 1000
      shallow u v l h i j = omega (arith, h, i, j)

  guarded_block : (guard : Option Expression) → IsGuard ds guard
      → is_regular_guard a (loops_assigned a k left) guard ≡ true
      → (v : Round) → (Contains v.variables left.name → ⊥)
      → IsBlock ds (statement (guarded_form a k line mark guard left right) no_statements) v
  guarded_block None g regular v apart = plain_block v apart
  guarded_block (Some e) g regular v apart = by (stand_in_guard (loops_assigned a k left) (Some e)) refl
    where
      by : (b : Bool) → stand_in_guard (loops_assigned a k left) (Some e) ≡ b
          → IsBlock ds (statement (cond b
          (Where line mark (form a (loops_assigned a k left) e) (left_form a k left) (right_form a k left right))
          (If line (arm e (statement (array_assignment a k line mark left right) no_statements) no_arms) no_statements))
          no_statements) v
      by true h = (((is_line, is_mark), masked e g.0 g.1 regular h, assigned (before_labels [] v) apart), tt)
      by false h =
          let whole : IsWholeScalar ds e Logical = record { suits = g.0; depth = less (depth_of e) g.1 } in
          ((is_line, refl, (whole, plain_block (before_labels [] v) apart, tt), tt), tt)
        where
          less : (n : ℕ) → n + 100 ≤ 1000 → n ≤ 1000
          less n h = omega (arith, h)

pub array_forms_of_profile : ArrayFormIsOfProfile
array_forms_of_profile ds a k line mark guard left right kind v w is_line is_mark is_guard is_left is_right apart room
    more some hold m regular r =
    let mine = loops_from a k in
    let tests = form_tests_of (form_names_of a) mine in
    let few = shorter (length tests) (length mine) (length a.loops) (k - 1) (tests_long (form_names_of a) mine)
    (length-drop (k - 1) a.loops) w.few in
    guarded_is ds line tests (statement (guarded_form a k line mark guard left right) no_statements) left.name v
    is_line few (tests_are ds a w mine (λ l c. of_drop (k - 1) a.loops l c)) apart
    (guarded_block ds a k line mark left right kind w is_line is_mark is_left is_right room more hold m r guard is_guard
    regular)
  where
    shorter : (m n l d : ℕ) → m ≤ n → n ≡ l - d → l ≤ 7 → m ≤ 7
    shorter m n l d h i j = omega (arith, h, i, j)
