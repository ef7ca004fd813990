-- Assignments, and IFs with one arm in which such stand, from stores that are the same but for the variables of loops
-- that they don't name: they do the same but for these, with arrays as values and without.
use Rattle.std.proofs.Common.{◌≡◌, refl, sym, ap, ◌∙◌, subst, inl, inr, ◌⊎◌, ℕ, ◌+◌, Bool, true, false, List, [], ◌∷◌}
use Rattle.std.proofs.Common.{◌++◌, Result, Ok, Option, Some, None}
use Rattle.tree.specs.Operators.{as_truth}
use Rattle.tree.specs.Plain.{Allocate, Assignment, Block, Deallocate, Do, Expression, GoTo, If, Label, Print, Read}
use Rattle.tree.specs.Plain.{Reference, Statement, Stop, Where, arm, no_arms, no_statements, statement}
use Rattle.tree.specs.Steps.{◌>>=◌}
use Rattle.tree.specs.declared.ops.Fault.{Fault}
use Rattle.tree.specs.declared.ops.Value.{Value}
use Rattle.tree.specs.declared.stmts.Mark.{Mark}
use Rattle.meaning.specs.Reads.{names_in_block}
use Rattle.meaning.specs.Reads.{names_in_statement}
use Rattle.meaning.specs.Dialect.{Dialect}
use Rattle.meaning.specs.Reads.{names_in, names_in_subscripts}
use Rattle.meaning.specs.Run.{Act, Going, State, counts_step, does, does_all, either, evaluates, nothing}
use Rattle.meaning.specs.Run.{while_going}
use Rattle.meaning.specs.Store.{Cell, Store}
use Rattle.meaning.specs.Value.{truth_of}
use Rattle.meaning_laws.specs.arrays.Instances.{after}
use Rattle.nest_order.proofs.orders.Lists.{In-append, In-left, In-right}
use Rattle.nest_order.specs.orders.Lists.{In}
use Rattle.nest_order.proofs.runs.Alike.{Alike, effect_alike, value_alike}
use Rattle.nest_order.proofs.runs.Dialects.{truth_kept}
use Rattle.nest_order.proofs.runs.Ending.{assigned, chosen}
use Rattle.nest_order.proofs.runs.Going.{guarded_went}
use Rattle.nest_order.proofs.runs.Results.{each_of}
use Rattle.nest_order.proofs.runs.Runs.{effected}
use Rattle.nest_order.proofs.runs.Variables.{Near-put, cell_name}
use Rattle.nest_order.specs.runs.Guarded.{GuardedAssignment, dialect, names_of, sequential}
use Rattle.nest_order.specs.runs.Laws.{GoesOnNear}
use Rattle.nest_order.specs.runs.Nests.{Near, RunNest, is_nest_variable}
use Rattle.nest_order.specs.runs.Quiet.{AreQuiet, IsQuiet}
use Rattle.pass_laws.specs.prepared_nests.After.{AreEndings, IsEnding}
use Rattle.pass_laws.specs.prepared_runs.Unlabelled.{HasNoLabel, IsNoLabel}

-- ---- they read and write no lines, and no label stands among them

mutual
  ending_quiet : (c : Statement) → IsEnding c → IsQuiet c
  ending_quiet (Assignment line mark left right) h = tt
  ending_quiet (If line no_arms other) h = absurd h.0
  ending_quiet (If line (arm test body (arm u d ms)) other) h = absurd h.0.1
  ending_quiet (If line (arm test body no_arms) (statement c cs)) h = absurd h.1
  ending_quiet (If line (arm test body no_arms) no_statements) h = ((endings_quiet body h.0.0, tt), tt)
  ending_quiet (Where line mark mask left right) h = absurd h
  ending_quiet (Do line x a b c body) h = absurd h
  ending_quiet (Label n) h = absurd h
  ending_quiet (GoTo line n) h = absurd h
  ending_quiet (Stop line) h = absurd h
  ending_quiet (Read line is) h = absurd h
  ending_quiet (Print line is) h = absurd h
  ending_quiet (Allocate line x es) h = absurd h
  ending_quiet (Deallocate line x) h = absurd h

  pub endings_quiet : (b : Block) → AreEndings b → AreQuiet b
  endings_quiet no_statements h = tt
  endings_quiet (statement c cs) h = (ending_quiet c h.0, endings_quiet cs h.1)

ending_no_label : (c : Statement) → IsEnding c → IsNoLabel c
ending_no_label (Assignment line mark left right) h = tt
ending_no_label (If line arms other) h = tt
ending_no_label (Where line mark mask left right) h = tt
ending_no_label (Do line x a b c body) h = tt
ending_no_label (Label n) h = absurd h
ending_no_label (GoTo line n) h = tt
ending_no_label (Stop line) h = tt
ending_no_label (Read line is) h = tt
ending_no_label (Print line is) h = tt
ending_no_label (Allocate line x es) h = tt
ending_no_label (Deallocate line x) h = tt

pub endings_no_label : (b : Block) → AreEndings b → HasNoLabel b
endings_no_label no_statements h = tt
endings_no_label (statement c cs) h = (ending_no_label c h.0, endings_no_label cs h.1)

-- ---- names

chooses_at : (lang : Dialect) (line : ℕ) (test : Expression) (body : Block) (s : State) (b : Bool) → s.way ≡ Going
    → truth_of lang test s.store ≡ Ok b
    → does lang None (If line (arm test body no_arms) no_statements) s
    ≡ either b (does_all lang None body) nothing (record s { steps = s.steps + 1; way = Going })
unfolding while_going evaluates counts_step
chooses_at lang line test body s b w f = rw (w, f) refl

-- each of these names is as is asked
abbrev pub Each : (List ℕ → Type 0) → List (List ℕ) → Type 0
Each P xs = (x : List ℕ) → In x xs → P x

module _ (P : List ℕ → Type 0) where
  on_left : (xs ys : List (List ℕ)) → Each P (xs ++ ys) → Each P xs
  on_left xs ys h x i = h x (In-left x xs ys i)

  on_right : (xs ys : List (List ℕ)) → Each P (xs ++ ys) → Each P ys
  on_right xs ys h x i = h x (In-right x xs ys i)

  assigned_names : (line : ℕ) (mark : Option Mark) (left : Reference) (right : Expression)
      → Each P (names_in_statement (Assignment line mark left right))
      → Each P (names_of (record { guard = None; left = left; right = right }))
  assigned_names line mark left right h x i = by (In-append x (names_in right) (left.name ∷ names_in_subscripts left.subscripts) i)
    where
      own : In x (left.name ∷ names_in_subscripts left.subscripts) → P x
      own (inl e) = h x (inl e)
      own (inr j) = h x (inr (In-left x (names_in_subscripts left.subscripts) (names_in right) j))

      by : In x (names_in right) ⊎ In x (left.name ∷ names_in_subscripts left.subscripts) → P x
      by (inl j) = h x (inr (In-right x (names_in_subscripts left.subscripts) (names_in right) j))
      by (inr j) = own j

-- ---- runs

module _ (bits : ℕ) (n : RunNest) (P : List ℕ → Type 0) (apart : (c : Cell) → P c.name → is_nest_variable n c ≡ false) where
  alike : (s t : Store) → Near n s t → (x : List ℕ) → P x → Alike bits s t x
  alike s t near x h =
      (near.bounds x, λ is c e. near.held c (apart c (subst P (sym (cell_name (s.bounds x) x is c e).0) h)))

  near_after : (o : Option (Cell × Value)) (s t : Store) → Near n s t → Near n (after o s) (after o t)
  near_after None s t h = h
  near_after (Some (c, v)) s t h = Near-put n c v s t h

  truth_alike : (e : Expression) (s t : Store) → Near n s t → Each P (names_in e)
      → truth_of (sequential bits) e s ≡ truth_of (sequential bits) e t
  truth_alike e s t near over =
      ap (λ (r : Result Value Fault). do x ← r; as_truth x)
      (value_alike bits s t e (each_of (Alike bits s t) (names_in e) (λ x i. alike s t near x (over x i))))

  module _ (arrays : Bool) where
    assignment_ends : (line : ℕ) (mark : Option Mark) (left : Reference) (right : Expression) (s u : State)
        → Each P (names_in_statement (Assignment line mark left right)) → GoesOnNear n s u
        → (does (sequential bits) None (Assignment line mark left right) s).way ≡ Going
        → GoesOnNear n (does (sequential bits) None (Assignment line mark left right) s)
        (does (dialect bits arrays) None (Assignment line mark left right) u)
    assignment_ends line mark left right s u over h going =
        let g : GuardedAssignment = record { guard = None; left = left; right = right } in
        let a = effected bits line mark g s going in
        let same = effect_alike bits s.store u.store g
        (each_of (Alike bits s.store u.store) (names_of g)
        (λ x i. alike s.store u.store h.near x (assigned_names P line mark left right over x i))) in
        let b = guarded_went bits arrays line mark g u a.write h.way (sym same ∙ a.effect) in
        record {
          way = b.way;
          near =
              subst (λ (t : Store). Near n t
              (does (dialect bits arrays) None (Assignment line mark left right) u).store) (sym a.store)
              (subst (λ (t : Store). Near n (after a.write s.store) t) (sym b.store)
              (near_after a.write s.store u.store h.near));
        }

    back : (s t : State) → s ≡ t → s.way ≡ Going → t.way ≡ Going
    back s t e w = subst (λ (z : State). z.way ≡ Going) e w

    mutual
      from_ending : (c : Statement) (s : State) → IsEnding c → (does (sequential bits) None c s).way ≡ Going
          → s.way ≡ Going
      from_ending (Assignment line mark left right) s h going = (assigned bits line mark left right s going).from
      from_ending (If line no_arms other) s h going = absurd h.0
      from_ending (If line (arm test body (arm u d ms)) other) s h going = absurd h.0.1
      from_ending (If line (arm test body no_arms) (statement c cs)) s h going = absurd h.1
      from_ending (If line (arm test body no_arms) no_statements) s h going = (chosen bits line test body s going).from
      from_ending (Where line mark mask left right) s h going = absurd h
      from_ending (Do line x a b c body) s h going = absurd h
      from_ending (Label k) s h going = absurd h
      from_ending (GoTo line k) s h going = absurd h
      from_ending (Stop line) s h going = absurd h
      from_ending (Read line is) s h going = absurd h
      from_ending (Print line is) s h going = absurd h
      from_ending (Allocate line x es) s h going = absurd h
      from_ending (Deallocate line x) s h going = absurd h

      from_endings : (b : Block) (s : State) → AreEndings b → (does_all (sequential bits) None b s).way ≡ Going
          → s.way ≡ Going
      from_endings no_statements s h going = going
      from_endings (statement c cs) s h going =
          from_ending c s h.0 (from_endings cs (does (sequential bits) None c s) h.1 going)

    arm_ends : (b : Bool) (f g : Act)
        → ((s u : State) → GoesOnNear n s u → (f s).way ≡ Going → GoesOnNear n (f s) (g u)) → (s u : State)
        → GoesOnNear n s u
        → (either b f nothing s).way ≡ Going → GoesOnNear n (either b f nothing s) (either b g nothing u)
    arm_ends true f g more s u k going = more s u k going
    arm_ends false f g more s u k going = k

    mutual
      ends : (c : Statement) (s u : State) → IsEnding c → Each P (names_in_statement c) → GoesOnNear n s u
          → (does (sequential bits) None c s).way ≡ Going
          → GoesOnNear n (does (sequential bits) None c s) (does (dialect bits arrays) None c u)
      ends (Assignment line mark left right) s u h over k going =
          assignment_ends line mark left right s u over k going
      ends (If line no_arms other) s u h over k going = absurd h.0
      ends (If line (arm test body (arm v d ms)) other) s u h over k going = absurd h.0.1
      ends (If line (arm test body no_arms) (statement c cs)) s u h over k going = absurd h.1
      ends (If line (arm test body no_arms) no_statements) s u h over k going =
          let more : Each P (names_in test ++ names_in_block body)
          = on_left P (names_in test ++ names_in_block body) []
          (on_left P ((names_in test ++ names_in_block body) ++ []) [] over) in
          let c = chosen bits line test body s going in
          let gives = truth_kept bits arrays u.store test c.truth
          (sym (truth_alike test s.store u.store k.near (on_left P (names_in test) (names_in_block body) more))
          ∙ c.gives) in
          let is = chooses_at (dialect bits arrays) line test body u c.truth k.way gives in
          let s1 : State = record s { steps = s.steps + 1 } in
          let u1 : State = record u { steps = u.steps + 1; way = Going } in
          let inside : Each P (names_in_block body) = on_right P (names_in test) (names_in_block body) more in
          subst (λ (y : State). GoesOnNear n
          (does (sequential bits) None (If line (arm test body no_arms) no_statements) s) y) (sym is)
          (subst (λ (x : State). GoesOnNear n x (either c.truth (does_all (dialect bits arrays) None body) nothing u1))
          (sym c.is)
          (arm_ends c.truth (does_all (sequential bits) None body) (does_all (dialect bits arrays) None body)
          (λ x y l g. all_end body x y h.0.0 inside l g)
          s1 u1 (record { way = refl; near = k.near })
          (back (does (sequential bits) None (If line (arm test body no_arms) no_statements) s)
          (either c.truth (does_all (sequential bits) None body) nothing s1) c.is going)))
      ends (Where line mark mask left right) s u h over k going = absurd h
      ends (Do line x a b c body) s u h over k going = absurd h
      ends (Label l) s u h over k going = absurd h
      ends (GoTo line l) s u h over k going = absurd h
      ends (Stop line) s u h over k going = absurd h
      ends (Read line is) s u h over k going = absurd h
      ends (Print line is) s u h over k going = absurd h
      ends (Allocate line x es) s u h over k going = absurd h
      ends (Deallocate line x) s u h over k going = absurd h

      pub all_end : (b : Block) (s u : State) → AreEndings b → Each P (names_in_block b) → GoesOnNear n s u
          → (does_all (sequential bits) None b s).way ≡ Going
          → GoesOnNear n (does_all (sequential bits) None b s) (does_all (dialect bits arrays) None b u)
      all_end no_statements s u h over k going = k
      all_end (statement c cs) s u h over k going =
          let t = does (sequential bits) None c s in
          let v = does (dialect bits arrays) None c u in
          all_end cs t v h.1 (on_right P (names_in_statement c) (names_in_block cs) over)
          (ends c s u h.0 (on_left P (names_in_statement c) (names_in_block cs) over) k (from_endings cs t h.1 going)) going
