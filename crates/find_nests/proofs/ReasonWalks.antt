-- Walks over the statements of a loop find what one of its loops has.
use Rattle.std.proofs.Common.{◌≡◌, refl, sym, ap, ap₂, ◌∙◌, ℕ, Bool, true, false, not, ◌&&◌, ◌||◌, cond, Option, Some, List, [], ◌∷◌, ◌++◌}
use Rattle.std.specs.List.{list_any}
use Rattle.tree.specs.Plain.{Expression, Statement, Assignment, Where, If, Do, Label, GoTo, Stop, Read, Print, Allocate}
use Rattle.tree.specs.Plain.{Deallocate, Arms, no_arms, arm, Block, no_statements, statement}
use Rattle.nest_reasons.specs.declared.flaws.Flaw.{Flaw}
use Rattle.nest_reasons.specs.declared.flaws.Flaw.TheVariants as flaws
use Rattle.nest_reasons.specs.Loops.{has_flaw}
use Rattle.nest_reasons.specs.Walks.{any_loop, any_in_arms, any_in_block}
use Rattle.find_nests.specs.bound_limits.Composed.{Outer}
use Rattle.find_nests.specs.bound_limits.Loops.{as_outer, leaves_limits}
use Rattle.find_nests.specs.bound_limits.Walks.{any_leaves, any_leaves_arms, any_leaves_block}
use Rattle.find_nests.specs.declared.reasons.Reason.{Reason}
use Rattle.find_nests.specs.declared.reasons.Reason.TheVariants.{Exit, InnerIf, Bound, Step, Deep, Large}
use Rattle.find_nests.specs.nest_parts.Numbers.{next_loop_number, number_after, after_arms, after_block}
use Rattle.find_nests.specs.Loops.{SurroundedLoop, SourceLoop, loops_in, loops_in_arms, loops_in_block}
use Rattle.find_nests.specs.Reasons.{first_that_holds, has_flawed, has_reason, loop_leaves_limits, outers, reason_over, reasons, source_variables_of}
use Rattle.find_nests.specs.WalkedReasons.{finds, finds_flaw, first_found, walked_reason}

or_joined : (a b c : Bool) → (a || (b || c)) ≡ ((a || b) || c)
or_joined true b c = refl
or_joined false b c = refl

any_both : {A : Type 0} (P : A → Bool) (xs ys : List A) → list_any P (xs ++ ys) ≡ (list_any P xs || list_any P ys)
any_both P [] ys = refl
any_both P (x ∷ xs) ys = ap (λ (b : Bool). P x || b) (any_both P xs ys) ∙ or_joined (P x) (list_any P xs) (list_any P ys)

-- ---- flaws

module _ (test : List (List ℕ) → Expression → Expression → Expression → Block → Bool) where
  abbrev here : SurroundedLoop → Bool
  here p =
      let l = p.loop.loop in test (source_variables_of p.around) l.first l.last l.step l.body

  one_more : (around : List SourceLoop) (l : SourceLoop) → source_variables_of (around ++ l ∷ []) ≡ source_variables_of around ++ l.variable ∷ []
  one_more [] l = refl
  one_more (o ∷ os) l = ap (λ (xs : List (List ℕ)). o.variable ∷ xs) (one_more os l)

  mutual
    loop_is : (k : ℕ) (around : List SourceLoop) (c : Statement) → any_loop test (source_variables_of around) c ≡ list_any here (loops_in k around c)
    loop_is k around (Assignment line mark left right) = refl
    loop_is k around (Where line mark mask left right) = refl
    loop_is k around (If line arms other) =
        ap₂ (λ (a b : Bool). a || b) (arms_are k around arms) (block_is (after_arms k arms) around other)
        ∙ sym (any_both here (loops_in_arms k around arms) (loops_in_block (after_arms k arms) around other))
    loop_is k around (Do line x a b c body) =
        let l : SourceLoop = record { line = line; variable = x; first = a; last = b; step = c; body = body } in
        ap (λ (e : Bool). test (source_variables_of around) a b c body || e)
        (ap (λ (xs : List (List ℕ)). any_in_block test xs body) (sym (one_more around l)) ∙ block_is (next_loop_number k) (around ++ l ∷ []) body)
    loop_is k around (Label n) = refl
    loop_is k around (GoTo line n) = refl
    loop_is k around (Stop line) = refl
    loop_is k around (Read line is) = refl
    loop_is k around (Print line is) = refl
    loop_is k around (Allocate line x es) = refl
    loop_is k around (Deallocate line x) = refl

    arms_are : (k : ℕ) (around : List SourceLoop) (arms : Arms) → any_in_arms test (source_variables_of around) arms ≡ list_any here (loops_in_arms k around arms)
    arms_are k around no_arms = refl
    arms_are k around (arm e body arms) =
        ap₂ (λ (a b : Bool). a || b) (block_is k around body) (arms_are (after_block k body) around arms)
        ∙ sym (any_both here (loops_in_block k around body) (loops_in_arms (after_block k body) around arms))

    block_is : (k : ℕ) (around : List SourceLoop) (b : Block) → any_in_block test (source_variables_of around) b ≡ list_any here (loops_in_block k around b)
    block_is k around no_statements = refl
    block_is k around (statement c cs) =
        ap₂ (λ (a b : Bool). a || b) (loop_is k around c) (block_is (number_after k c) around cs)
        ∙ sym (any_both here (loops_in k around c) (loops_in_block (number_after k c) around cs))

pub flaw_is : (f : Flaw) (symbols : List (List ℕ)) (c : Statement) → finds_flaw f symbols c ≡ has_flawed f symbols c
flaw_is f symbols c = loop_is (has_flaw f symbols) 0 [] c

-- ---- limits

module _ (symbols : List (List ℕ)) where
  outers_more : (start : List Outer) (around : List SourceLoop) (l : SourceLoop) → outers symbols start (around ++ l ∷ [])
      ≡ outers symbols start around ++ as_outer symbols (outers symbols start around) l.variable l.first l.step ∷ []
  outers_more start [] l = refl
  outers_more start (o ∷ os) l = outers_more (start ++ as_outer symbols start o.variable o.first o.step ∷ []) os l

  abbrev round : List SourceLoop → List Outer
  round around = outers symbols [] around

  mutual
    leaving_is : (k : ℕ) (around : List SourceLoop) (c : Statement) → any_leaves symbols (round around) c ≡ list_any (loop_leaves_limits symbols) (loops_in k around c)
    leaving_is k around (Assignment line mark left right) = refl
    leaving_is k around (Where line mark mask left right) = refl
    leaving_is k around (If line arms other) =
        ap₂ (λ (a b : Bool). a || b) (leaving_arms k around arms) (leaving_block (after_arms k arms) around other)
        ∙ sym (any_both (loop_leaves_limits symbols) (loops_in_arms k around arms) (loops_in_block (after_arms k arms) around other))
    leaving_is k around (Do line x a b c body) =
        let l : SourceLoop = record { line = line; variable = x; first = a; last = b; step = c; body = body } in
        ap (λ (e : Bool). leaves_limits symbols (round around) a b c || e)
        (ap (λ (os : List Outer). any_leaves_block symbols os body) (sym (outers_more [] around l)) ∙ leaving_block (next_loop_number k) (around ++ l ∷ []) body)
    leaving_is k around (Label n) = refl
    leaving_is k around (GoTo line n) = refl
    leaving_is k around (Stop line) = refl
    leaving_is k around (Read line is) = refl
    leaving_is k around (Print line is) = refl
    leaving_is k around (Allocate line x es) = refl
    leaving_is k around (Deallocate line x) = refl

    leaving_arms : (k : ℕ) (around : List SourceLoop) (arms : Arms) → any_leaves_arms symbols (round around) arms
        ≡ list_any (loop_leaves_limits symbols) (loops_in_arms k around arms)
    leaving_arms k around no_arms = refl
    leaving_arms k around (arm e body arms) =
        ap₂ (λ (a b : Bool). a || b) (leaving_block k around body) (leaving_arms (after_block k body) around arms)
        ∙ sym (any_both (loop_leaves_limits symbols) (loops_in_block k around body) (loops_in_arms (after_block k body) around arms))

    leaving_block : (k : ℕ) (around : List SourceLoop) (b : Block) → any_leaves_block symbols (round around) b
        ≡ list_any (loop_leaves_limits symbols) (loops_in_block k around b)
    leaving_block k around no_statements = refl
    leaving_block k around (statement c cs) =
        ap₂ (λ (a b : Bool). a || b) (leaving_is k around c) (leaving_block (number_after k c) around cs)
        ∙ sym (any_both (loop_leaves_limits symbols) (loops_in k around c) (loops_in_block (number_after k c) around cs))

  pub leaves_is : (c : Statement) → any_leaves symbols [] c ≡ list_any (loop_leaves_limits symbols) (loops_in 0 [] c)
  leaves_is c = leaving_is 0 [] c

-- ---- reasons

pub finds_is : (r : Reason) (symbols : List (List ℕ)) (c : Statement) → finds r symbols c ≡ has_reason r symbols c
finds_is Exit symbols c = flaw_is flaws.Exit symbols c
finds_is InnerIf symbols c = flaw_is flaws.InnerIf symbols c
finds_is Bound symbols c =
    ap₂ (λ (a b : Bool). a || b) (flaw_is flaws.Bound symbols c)
    (ap₂ (λ (a b : Bool). not a && b) (flaw_is flaws.Step symbols c) (leaves_is symbols c))
finds_is Step symbols c = flaw_is flaws.Step symbols c
finds_is Deep symbols c = flaw_is flaws.Deep symbols c
finds_is Large symbols c = refl

first_is : (rs : List Reason) (symbols : List (List ℕ)) (c : Statement) → first_found rs symbols c ≡ first_that_holds rs symbols c
first_is [] symbols c = refl
first_is (r ∷ rs) symbols c =
    ap₂ (λ (b : Bool) (o : Option Reason). cond b (Some r) o) (finds_is r symbols c) (first_is rs symbols c)

pub reason_is : (symbols : List (List ℕ)) (c : Statement) → walked_reason symbols c ≡ reason_over symbols c
reason_is symbols c = first_is reasons symbols c
