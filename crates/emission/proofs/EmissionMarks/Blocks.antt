-- The marked statements of blocks, one block after the other.
use Rattle.std.proofs.Common.{◌≡◌, refl, sym, ap, ap₂, ◌∙◌, ℕ, Bool, true, false, cond, Option, Some, None}
use Rattle.std.proofs.Common.{List, [], ◌∷◌, ◌++◌, map, append_assoc, append-nil}
use Rattle.std.proofs.lemmas.List.{map-append}
use Rattle.array_form.specs.forms.Forms.{form}
use Rattle.array_form.specs.forms.Loops.{FormSurroundings}
use Rattle.array_form.specs.forms.Statements.{and_all, array_assignment, guarded_by, guarded_form, left_form}
use Rattle.array_form.specs.forms.Statements.{loops_assigned, right_form, stand_in_guard}
use Rattle.tree.specs.Plain.{Expression, Reference, Statement, Assignment, Where, If, Do, Label, GoTo, Stop, Read}
use Rattle.tree.specs.Plain.{Print, Allocate, Deallocate, Arms, no_arms, arm, Block, no_statements, statement}
use Rattle.tree.specs.declared.stmts.Mark.{Mark}
use Rattle.nest.specs.Allocations.{allocation_then, allocations_then, block_then, deallocation_then, deallocations}
use Rattle.nest.specs.Blocks.{under_guard}
use Rattle.nest.specs.Plain.{Made}
use Rattle.emission.specs.emission_marks.Marks.{Marked, Otherwise, Round, Turning, Under, bodies, bodies_in}
use Rattle.emission.specs.emission_marks.Marks.{conditions_of, marked, marked_in, marked_under, guard_round}
use Rattle.emission.specs.emission_marks.Marks.{with_mark}

pub marked_then : (round : List Round) (a b : Block)
    → marked_in round (block_then a b) ≡ marked_in round a ++ marked_in round b
marked_then round no_statements b = refl
marked_then round (statement c cs) b =
    ap (λ xs. marked round c ++ xs) (marked_then round cs b)
    ∙ sym (append_assoc (marked round c) (marked_in round cs) (marked_in round b))

pub bodies_then : (a b : Block) → bodies_in (block_then a b) ≡ bodies_in a ++ bodies_in b
bodies_then no_statements b = refl
bodies_then (statement c cs) b =
    ap (λ xs. bodies c ++ xs) (bodies_then cs b) ∙ sym (append_assoc (bodies c) (bodies_in cs) (bodies_in b))

-- ---- allocations

pub marked_allocated : (round : List Round) (line : ℕ) (ms : List Made) (b : Block)
    → marked_in round (allocations_then line ms b) ≡ marked_in round b
marked_allocated round line [] b = refl
marked_allocated round line (m ∷ ms) b = by m.extents (marked_allocated round line ms b)
  where
    by : (es : List Expression) → marked_in round (allocations_then line ms b) ≡ marked_in round b
        → marked_in round (allocation_then line m.name es (allocations_then line ms b)) ≡ marked_in round b
    by [] h = h
    by (e ∷ es) h = h

pub bodies_allocated : (line : ℕ) (ms : List Made) (b : Block) → bodies_in (allocations_then line ms b) ≡ bodies_in b
bodies_allocated line [] b = refl
bodies_allocated line (m ∷ ms) b = by m.extents (bodies_allocated line ms b)
  where
    by : (es : List Expression) → bodies_in (allocations_then line ms b) ≡ bodies_in b
        → bodies_in (allocation_then line m.name es (allocations_then line ms b)) ≡ bodies_in b
    by [] h = h
    by (e ∷ es) h = h

pub marked_deallocated : (round : List Round) (line : ℕ) (ms : List Made) → marked_in round (deallocations line ms) ≡ []
marked_deallocated round line [] = refl
marked_deallocated round line (m ∷ ms) = by m.extents (marked_deallocated round line ms)
  where
    by : (es : List Expression) → marked_in round (deallocations line ms) ≡ []
        → marked_in round (deallocation_then line m.name es (deallocations line ms)) ≡ []
    by [] h = h
    by (e ∷ es) h = h

pub bodies_deallocated : (line : ℕ) (ms : List Made) → bodies_in (deallocations line ms) ≡ []
bodies_deallocated line [] = refl
bodies_deallocated line (m ∷ ms) = by m.extents (bodies_deallocated line ms)
  where
    by : (es : List Expression) → bodies_in (deallocations line ms) ≡ []
        → bodies_in (deallocation_then line m.name es (deallocations line ms)) ≡ []
    by [] h = h
    by (e ∷ es) h = h

-- ---- a statement under conditions

nothing_more : {X : Type 0} (xs : List X) → ((xs ++ []) ++ []) ++ [] ≡ xs
nothing_more xs = append-nil ((xs ++ []) ++ []) ∙ (append-nil (xs ++ []) ∙ append-nil xs)

marked_conditions : (round : List Round) (line : ℕ) (es : List Expression) (b : Block)
    → marked_in round (guarded_by line es b) ≡ marked_in (round ++ conditions_of es) b
marked_conditions round line [] b = ap (λ around. marked_in around b) (sym (append-nil round))
marked_conditions round line (e ∷ es) b = nothing_more (marked_in (round ++ Under (and_all e es) ∷ []) b)

bodies_conditions : (line : ℕ) (es : List Expression) (b : Block) → bodies_in (guarded_by line es b) ≡ bodies_in b
bodies_conditions line [] b = refl
bodies_conditions line (e ∷ es) b = nothing_more (bodies_in b)

-- as it is
pub marked_kept : (round : List Round) (line : ℕ) (guard : Option Expression) (m : Mark) (left : Reference)
    (right : Expression)
    → marked_in round (statement (under_guard line guard (Assignment line (Some m) left right)) no_statements)
    ≡ record { round = round ++ guard_round guard; mark = m; statement = Assignment line (Some m) left right } ∷ []
marked_kept round line None m left right =
    ap (λ around. record { round = around; mark = m; statement = Assignment line (Some m) left right } ∷ [])
    (sym (append-nil round))
marked_kept round line (Some e) m left right = refl

pub bodies_kept : (line : ℕ) (guard : Option Expression) (m : Option Mark) (left : Reference) (right : Expression)
    → bodies_in (statement (under_guard line guard (Assignment line m left right)) no_statements) ≡ []
bodies_kept line None m left right = refl
bodies_kept line (Some e) m left right = refl

-- in array form
module _ (a : FormSurroundings) (k line : ℕ) (m : Mark) (left : Reference) (right : Expression) where
  abbrev stands : Option Expression → Bool
  stands guard = stand_in_guard (loops_assigned a k left) guard

  abbrev form_under : Option Expression → Statement
  form_under guard = guarded_form a k line (Some m) guard left right

  abbrev assigned : Statement
  assigned = array_assignment a k line (Some m) left right

  -- a WHERE or not
  abbrev pub marked_form : List Round → Option Expression → Marked
  marked_form round guard =
      cond (stands guard) (record { round = round; mark = m; statement = form_under guard })
      (record { round = round ++ guard_round guard; mark = m; statement = assigned })

  form_marked : (round : List Round) (guard : Option Expression)
      → marked_in round (statement (form_under guard) no_statements) ≡ marked_form round guard ∷ []
  form_marked round None =
      ap (λ around. record { round = around; mark = m; statement = assigned } ∷ []) (sym (append-nil round))
  form_marked round (Some e) = by (stands (Some e))
    where
      mask : Expression
      mask = form a (loops_assigned a k left) e

      masked : Statement
      masked = Where line (Some m) mask (left_form a k left) (right_form a k left right)

      alone : Statement
      alone = If line (arm e (statement assigned no_statements) no_arms) no_statements

      by : (b : Bool)
          → marked_in round (statement (cond b masked alone) no_statements)
          ≡ cond b (record { round = round; mark = m; statement = cond b masked alone })
          (record { round = round ++ Under e ∷ []; mark = m; statement = assigned })
          ∷ []
      by true = refl
      by false = refl

  form_bodies : (guard : Option Expression) → bodies_in (statement (form_under guard) no_statements) ≡ []
  form_bodies None = refl
  form_bodies (Some e) = by (stands (Some e))
    where
      by : (b : Bool)
          → bodies_in (statement (cond b
          (Where line (Some m) (form a (loops_assigned a k left) e) (left_form a k left) (right_form a k left right))
          (If line (arm e (statement assigned no_statements) no_arms) no_statements)) no_statements)
          ≡ []
      by true = refl
      by false = refl

  pub marked_guarded : (round : List Round) (es : List Expression) (guard : Option Expression)
      → marked_in round (guarded_by line es (statement (form_under guard) no_statements))
      ≡ marked_form (round ++ conditions_of es) guard ∷ []
  marked_guarded round es guard =
      marked_conditions round line es (statement (form_under guard) no_statements)
      ∙ form_marked (round ++ conditions_of es) guard

  pub bodies_guarded : (es : List Expression) (guard : Option Expression)
      → bodies_in (guarded_by line es (statement (form_under guard) no_statements)) ≡ []
  bodies_guarded es guard =
      bodies_conditions line es (statement (form_under guard) no_statements) ∙ form_bodies guard

-- ---- the numbers of the statements that are marked

abbrev pub number_of : Marked → ℕ
number_of x = x.mark.stmt

abbrev pub numbers_in : List Round → Block → List ℕ
numbers_in round b = map number_of (marked_in round b)

same_with : (m : Option Mark) (c : Statement) (round other : List Round)
    → map number_of (with_mark round m c) ≡ map number_of (with_mark other m c)
same_with None c round other = refl
same_with (Some m) c round other = refl

both : (xs ys zs ws : List Marked) → map number_of xs ≡ map number_of zs → map number_of ys ≡ map number_of ws
    → map number_of (xs ++ ys) ≡ map number_of (zs ++ ws)
both xs ys zs ws e f = map-append number_of xs ys ∙ (ap₂ (λ a b. a ++ b) e f ∙ sym (map-append number_of zs ws))

-- they are the same whatever stands round the block
mutual
  same_numbers_of : (c : Statement) (round other : List Round)
      → map number_of (marked round c) ≡ map number_of (marked other c)
  same_numbers_of (Assignment line mark left right) round other =
      same_with mark (Assignment line mark left right) round other
  same_numbers_of (Where line mark mask left right) round other =
      same_with mark (Where line mark mask left right) round other
  same_numbers_of (If line arms rest) round other =
      both (marked_under round arms) (marked_in (round ++ Otherwise ∷ []) rest) (marked_under other arms)
      (marked_in (other ++ Otherwise ∷ []) rest) (same_numbers_under arms round other)
      (same_numbers rest (round ++ Otherwise ∷ []) (other ++ Otherwise ∷ []))
  same_numbers_of (Do line x first last step body) round other =
      same_numbers body (round ++ Turning x first last step ∷ []) (other ++ Turning x first last step ∷ [])
  same_numbers_of (Label k) round other = refl
  same_numbers_of (GoTo line k) round other = refl
  same_numbers_of (Stop line) round other = refl
  same_numbers_of (Read line is) round other = refl
  same_numbers_of (Print line is) round other = refl
  same_numbers_of (Allocate line x es) round other = refl
  same_numbers_of (Deallocate line x) round other = refl

  same_numbers_under : (arms : Arms) (round other : List Round)
      → map number_of (marked_under round arms) ≡ map number_of (marked_under other arms)
  same_numbers_under no_arms round other = refl
  same_numbers_under (arm test body arms) round other =
      both (marked_in (round ++ Under test ∷ []) body) (marked_under round arms)
      (marked_in (other ++ Under test ∷ []) body) (marked_under other arms)
      (same_numbers body (round ++ Under test ∷ []) (other ++ Under test ∷ []))
      (same_numbers_under arms round other)

  pub same_numbers : (b : Block) (round other : List Round) → numbers_in round b ≡ numbers_in other b
  same_numbers no_statements round other = refl
  same_numbers (statement c cs) round other =
      both (marked round c) (marked_in round cs) (marked other c) (marked_in other cs) (same_numbers_of c round other)
      (same_numbers cs round other)
