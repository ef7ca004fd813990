-- The ways in which the run of a nest goes through its parts: it goes on, or jumps to a label that can be reached.
use Rattle.std.proofs.Common.{◌≡◌, refl, sym, ap, subst, ◌∙◌, ◌⊎◌, inl, inr, ℕ, Bool, true, false, List, [], ◌∷◌, ◌++◌}
use Rattle.std.proofs.Common.{Contains, Option, Some, None, Result, Ok, Err, ◌+◌, eq-eqb}
use Rattle.std.specs.Prelude.{◌==◌}
use Rattle.meaning_laws.proofs.arrays.Members.{there, nowhere, cases_of}
use Rattle.tree.specs.Plain.{Expression}
use Rattle.tree.specs.declared.ops.Fault.{Fault}
use Rattle.meaning.specs.Store.{Store}
use Rattle.meaning.specs.Dialect.{Dialect}
use Rattle.meaning.specs.Run.{State, Way, Going, Jumping, Stopped, Failed, Cut, Act, arrives, chooses, counts_step}
use Rattle.meaning.specs.Run.{does, does_all, either, evaluates, goes, nothing, on_way, while_going}
use Rattle.meaning.proofs.Kept.{IsKeptByParts, Keeps, Keeps-assignment, Keeps-counts_step, Keeps-either}
use Rattle.meaning.proofs.Kept.{Keeps-evaluates, Keeps-loops, Keeps-nothing, Keeps-then}
use Rattle.meaning.specs.Value.{truth_of}
use Rattle.rewrite.specs.Following.{sequential}
use Rattle.nest_order.proofs.runs.Going.{moved}
use Rattle.nest_order.proofs.runs.Results.{true_false}
use Rattle.nest.specs.Blocks.{arms_of_branches, assignment_of, block_of_parts, guarded_statement, numeral}
use Rattle.nest.specs.Blocks.{statement_of_part, under_guard}
use Rattle.nest.specs.Bodies.{loops_in_branches, loops_in_parts, loops_of}
use Rattle.nest.specs.Plain.{Branches, no_branches, branch, Guarded, Loop, Part, Run, Turns, Choice, Label, Jump}
use Rattle.nest.specs.Plain.{Parts, no_parts, part}
use Rattle.pass_laws.specs.branch_meaning.Jumps.{AllJumpAhead, BranchesJumpAhead, JumpsAhead, labels_ahead, labels_before}

-- it goes on or jumps
abbrev pub IsOn : Way → Type 0
IsOn Going = Unit {0}
IsOn (Jumping k) = Unit {0}
IsOn Stopped = ⊥
IsOn (Failed f line) = ⊥
IsOn Cut = ⊥

-- it is no jump, or one to one of these labels
abbrev pub Comes : List ℕ → Way → Type 0
Comes later Going = Unit {0}
Comes later (Jumping k) = Contains later k
Comes later Stopped = Unit {0}
Comes later (Failed f line) = Unit {0}
Comes later Cut = Unit {0}

on_or_not : (w : Way) → IsOn w ⊎ (IsOn w → ⊥)
on_or_not Going = inl tt
on_or_not (Jumping k) = inl tt
on_or_not Stopped = inr (λ h. h)
on_or_not (Failed f line) = inr (λ h. h)
on_or_not Cut = inr (λ h. h)

pub going_on : (w : Way) → w ≡ Going → IsOn w
going_on w e = subst IsOn (sym e) tt

pub going_comes : (later : List ℕ) (w : Way) → w ≡ Going → Comes later w
going_comes later w e = subst (Comes later) (sym e) tt

-- where no label can be reached it goes on
pub no_jump : (w : Way) → IsOn w → Comes [] w → w ≡ Going
no_jump Going h c = refl
no_jump (Jumping k) h c = absurd (nowhere k c)
no_jump Stopped h c = absurd h
no_jump (Failed f line) h c = absurd h
no_jump Cut h c = absurd h

-- it goes on, or jumps
pub on_cases : (w : Way) → IsOn w → (w ≡ Going) ⊎ ((k : ℕ) × (w ≡ Jumping k))
on_cases Going h = inl refl
on_cases (Jumping k) h = inr (k, refl)
on_cases Stopped h = absurd h
on_cases (Failed f line) h = absurd h
on_cases Cut h = absurd h

pub jumping_not_going : (w : Way) (k : ℕ) → w ≡ Jumping k → w ≡ Going → ⊥
jumping_not_going w k e f = let same : ◌≡◌ {A = Way} (Jumping k) Going = sym e ∙ f in cc

pub going_or_not : (w : Way) → (w ≡ Going) ⊎ (w ≡ Going → ⊥)
going_or_not Going = inl refl
going_or_not (Jumping k) = inr (λ e. cc)
going_or_not Stopped = inr (λ e. cc)
going_or_not (Failed f line) = inr (λ e. cc)
going_or_not Cut = inr (λ e. cc)

-- ---- labels

pub none_left : {X : Type 0} (xs ys : List X) → xs ++ ys ≡ [] → xs ≡ []
none_left [] ys e = refl
none_left (x ∷ xs) ys e = let none : ⊥ = cc in absurd none

pub none_right : {X : Type 0} (xs ys : List X) → xs ++ ys ≡ [] → ys ≡ []
none_right [] ys e = e
none_right (x ∷ xs) ys e = let none : ⊥ = cc in absurd none

-- where no loop stands all labels behind can be reached
before_more : (p : Part) (later : List ℕ) (w : Way) → loops_of p ≡ [] → Comes later w → Comes (labels_before p later) w
before_more (Run g) later w e h = h
before_more (Turns l ps) later w e h = let none : ⊥ = cc in absurd none
before_more (Choice bs ps) later w e h = h
before_more (Label k) later Going e h = tt
before_more (Label k) later (Jumping j) e h = there k later j h
before_more (Label k) later Stopped e h = tt
before_more (Label k) later (Failed f line) e h = tt
before_more (Label k) later Cut e h = tt
before_more (Jump k) later w e h = h

pub ahead_more : (ps : Parts) (later : List ℕ) (w : Way) → loops_in_parts ps ≡ [] → Comes later w → Comes (labels_ahead ps later) w
ahead_more no_parts later w e h = h
ahead_more (part p ps) later w e h =
    before_more p (labels_ahead ps later) w (none_left (loops_of p) (loops_in_parts ps) e)
    (ahead_more ps later w (none_right (loops_of p) (loops_in_parts ps) e) h)

module _ (bits line : ℕ) where
  abbrev lang : Dialect
  lang = sequential bits

  abbrev pub one : Part → Act
  one p = does (sequential bits) None (statement_of_part line p)

  abbrev pub all : Parts → Act
  all ps = does_all (sequential bits) None (block_of_parts line ps)

  abbrev pub choosing : Branches → Act → Act
  choosing bs other = chooses (sequential bits) None line (arms_of_branches line bs) other

  -- ---- what doesn't begin while the run jumps or has ended

  pub idle : (k : Act) (s : State) → (s.way ≡ Going → ⊥) → while_going k s ≡ s
  unfolding while_going
  idle k s over = by s.way refl
    where
      by : (w : Way) → s.way ≡ w → on_way w k s ≡ s
      by Going e = absurd (over e)
      by (Jumping j) e = refl
      by Stopped e = refl
      by (Failed f l) e = refl
      by Cut e = refl

  pub counts_idle : (k : Act) (s : State) → (s.way ≡ Going → ⊥) → counts_step (sequential bits) None k s ≡ s
  unfolding counts_step
  counts_idle k s over = idle _ s over

  evaluates_idle : {A : Type 0} (l : ℕ) (f : Store → Result A Fault) (k : A → Act) (s : State) → (s.way ≡ Going → ⊥) → evaluates l f k s ≡ s
  unfolding evaluates
  evaluates_idle l f k s over = idle _ s over

  pub run_idle : (g : Guarded) (s : State) → (s.way ≡ Going → ⊥) → does (sequential bits) None (guarded_statement g) s ≡ s
  run_idle g s over = by g.guard
    where
      by : (o : Option Expression) → does (sequential bits) None (under_guard g.line o (assignment_of g)) s ≡ s
      by None = counts_idle _ s over
      by (Some e) = counts_idle _ s over

  loop_idle : (l : Loop) (ps : Parts) (s : State) → (s.way ≡ Going → ⊥) → one (Turns l ps) s ≡ s
  loop_idle l ps s over = evaluates_idle line _ _ s over

  pub choice_idle : (test : Expression) (qs : Parts) (bs : Branches) (other : Act) (s : State) → (s.way ≡ Going → ⊥) → choosing (branch test qs bs) other s ≡ s
  choice_idle test qs bs other s over = counts_idle _ s over

  pub jump_idle : (k : ℕ) (s : State) → (s.way ≡ Going → ⊥) → one (Jump k) s ≡ s
  jump_idle k s over = counts_idle _ s over

  label_stays : (k : ℕ) (s : State) → arrives k s.way ≡ false → one (Label k) s ≡ s
  label_stays k s e = ap (λ b. either b (goes Going) nothing s) e

  -- ---- what begins while it goes on

  pub chosen : (test : Expression) (qs : Parts) (bs : Branches) (other : Act) (s : State) (b : Bool) → s.way ≡ Going → truth_of (sequential bits) test s.store ≡ Ok b
      → choosing (branch test qs bs) other s ≡ either b (all qs) (choosing bs other) (moved s (s.steps + 1) s.store)
  unfolding while_going evaluates counts_step
  chosen test qs bs other s b w f = rw (w, f) refl

  pub not_chosen : (test : Expression) (qs : Parts) (bs : Branches) (other : Act) (s : State) (f : Fault) → s.way ≡ Going → truth_of (sequential bits) test s.store ≡ Err f
      → (choosing (branch test qs bs) other s).way ≡ Failed f line
  unfolding while_going evaluates counts_step
  not_chosen test qs bs other s f w e = rw (w, e) refl

  pub jumped : (k : ℕ) (s : State) → s.way ≡ Going → one (Jump k) s ≡ record (moved s (s.steps + 1) s.store) { way = Jumping k }
  unfolding while_going counts_step
  jumped k s w = rw w refl

  -- ---- an ended run stays as it is

  not_on : (w : Way) → (IsOn w → ⊥) → w ≡ Going → ⊥
  not_on w over e = over (going_on w e)

  no_arrival : (k : ℕ) (w : Way) → (IsOn w → ⊥) → arrives k w ≡ false
  no_arrival k Going over = absurd (over tt)
  no_arrival k (Jumping j) over = absurd (over tt)
  no_arrival k Stopped over = refl
  no_arrival k (Failed f l) over = refl
  no_arrival k Cut over = refl

  ended_choice : (bs : Branches) (other : Act) (s : State) → other s ≡ s → (IsOn s.way → ⊥) → choosing bs other s ≡ s
  ended_choice no_branches other s h over = h
  ended_choice (branch test qs bs) other s h over = choice_idle test qs bs other s (not_on s.way over)

  mutual
    ended : (p : Part) (s : State) → (IsOn s.way → ⊥) → one p s ≡ s
    ended (Run g) s over = run_idle g s (not_on s.way over)
    ended (Turns l ps) s over = loop_idle l ps s (not_on s.way over)
    ended (Choice bs ps) s over = ended_choice bs (all ps) s (ended_all ps s over) over
    ended (Label k) s over = label_stays k s (no_arrival k s.way over)
    ended (Jump k) s over = jump_idle k s (not_on s.way over)

    ended_all : (ps : Parts) (s : State) → (IsOn s.way → ⊥) → all ps s ≡ s
    ended_all no_parts s over = refl
    ended_all (part p ps) s over = ap (all ps) (ended p s over) ∙ ended_all ps s over

  -- so a run that is on has been on
  on_from : (f : Act) (s : State) → ((IsOn s.way → ⊥) → f s ≡ s) → IsOn (f s).way → IsOn s.way
  on_from f s stays h = by (on_or_not s.way)
    where
      by : IsOn s.way ⊎ (IsOn s.way → ⊥) → IsOn s.way
      by (inl k) = k
      by (inr over) = subst (λ (z : State). IsOn z.way) (stays over) h

  pub all_from : (ps : Parts) (s : State) → IsOn (does_all (sequential bits) None (block_of_parts line ps) s).way → IsOn s.way
  all_from ps s h = on_from (all ps) s (ended_all ps s) h

  pub part_from : (p : Part) (s : State) → IsOn (does (sequential bits) None (statement_of_part line p) s).way → IsOn s.way
  part_from p s h = on_from (one p) s (ended p s) h

  -- ---- what holds at each moment

  module _ (P : State → Type 0) (kept : IsKeptByParts (sequential bits) None P) where
    pub run_keeps : (g : Guarded) → Keeps P (does (sequential bits) None (guarded_statement g))
    run_keeps g = by g.guard
      where
        by : (o : Option Expression) → Keeps P (does (sequential bits) None (under_guard g.line o (assignment_of g)))
        by None = Keeps-assignment (sequential bits) None P kept g.line None g.left g.right
        by (Some e) = Keeps-counts_step (sequential bits) None P kept _ (Keeps-evaluates (sequential bits) None P kept g.line _ _ (λ b.
            Keeps-either (sequential bits) None P kept b _ _
            (λ e. Keeps-then (sequential bits) None P kept _ _ (Keeps-assignment (sequential bits) None P kept g.line None g.left g.right) (Keeps-nothing (sequential bits) None P kept))
            (λ e. Keeps-nothing (sequential bits) None P kept)))

    pub loop_keeps : (l : Loop) (ps : Parts) → Keeps P (does_all (sequential bits) None (block_of_parts line ps)) → Keeps P (does (sequential bits) None (statement_of_part line (Turns l ps)))
    loop_keeps l ps h = Keeps-loops (sequential bits) None P kept line l.variable l.first l.last (numeral l.step) _ h

    pub jump_keeps : (k : ℕ) → ((s : State) → P s → P (record s { way = Jumping k })) → Keeps P (does (sequential bits) None (statement_of_part line (Jump k)))
    jump_keeps k h = Keeps-counts_step (sequential bits) None P kept _ (record { at = h })

    pub choice_keeps : (test : Expression) (qs : Parts) (bs : Branches) (other : Act) → Keeps P (all qs) → Keeps P (choosing bs other) → Keeps P (choosing (branch test qs bs) other)
    choice_keeps test qs bs other h k =
        Keeps-counts_step (sequential bits) None P kept _ (Keeps-evaluates (sequential bits) None P kept line _ _ (λ b.
        Keeps-either (sequential bits) None P kept b _ _ (λ e. h) (λ e. k)))

  -- ---- where jumps lead

  module _ (later : List ℕ) where
    abbrev P : State → Type 0
    P s = Comes later s.way

    kept : IsKeptByParts (sequential bits) None (λ s. Comes later s.way)
    kept = record {
      failed = λ f l s h. tt;
      cut = λ s n h. tt;
      written = λ t s h. h;
      stored = λ c v s e h. h;
      allocated = λ x bs s e h. h;
      deallocated = λ x s e h. h;
      input = λ rest b s h. h;
      step = λ s h. h;
    }

    label_lands : (k : ℕ) (s : State) → Comes (k ∷ later) s.way → Comes later (one (Label k) s).way
    label_lands k s h = by s.way refl h
      where
        other : (j : ℕ) → (j == k) ≡ false → (k ≡ j) ⊎ Contains later j → Contains later j
        other j e (inl f) = absurd (true_false (sym (eq-eqb j k (sym f)) ∙ e))
        other j e (inr c) = c

        met : (j : ℕ) (b : Bool) → (j == k) ≡ b → s.way ≡ Jumping j → Contains (k ∷ later) j → Comes later (either b (goes Going) nothing s).way
        met j true e f c = tt
        met j false e f c = subst (Comes later) (sym f) (other j e (cases_of k later j c))

        by : (w : Way) → s.way ≡ w → Comes (k ∷ later) w → Comes later (either (arrives k w) (goes Going) nothing s).way
        by Going e c = subst (Comes later) (sym e) tt
        by (Jumping j) e c = met j (j == k) refl e c
        by Stopped e c = subst (Comes later) (sym e) tt
        by (Failed f l) e c = subst (Comes later) (sym e) tt
        by Cut e c = subst (Comes later) (sym e) tt

  none_comes : (later : List ℕ) (w : Way) → Comes [] w → Comes later w
  none_comes later Going h = tt
  none_comes later (Jumping k) h = absurd (nowhere k h)
  none_comes later Stopped h = tt
  none_comes later (Failed f l) h = tt
  none_comes later Cut h = tt

  mutual
    pub lands : (p : Part) (later : List ℕ) → JumpsAhead later p → (s : State) → Comes (labels_before p later) s.way → Comes later (does (sequential bits) None (statement_of_part line p) s).way
    lands (Run g) later h s c = (run_keeps (P later) (kept later) g).at s c
    lands (Turns l ps) later h s c =
        none_comes later (one (Turns l ps) s).way
        ((loop_keeps (P []) (kept []) l ps (record { at = λ t d. lands_all ps [] h t (none_comes (labels_ahead ps []) t.way d) })).at s c)
    lands (Choice bs ps) later h s c =
        (choice_lands bs (all ps) later h.1 (none_left (loops_in_branches bs) (loops_in_parts ps) h.0)
        (record { at = λ t d. lands_all ps later h.2 t (ahead_more ps later t.way (none_right (loops_in_branches bs) (loops_in_parts ps) h.0) d) })).at s c
    lands (Label k) later h s c = label_lands later k s c
    lands (Jump k) later h s c = (jump_keeps (P later) (kept later) k (λ s d. h)).at s c

    choice_lands : (bs : Branches) (other : Act) (later : List ℕ) → BranchesJumpAhead later bs → loops_in_branches bs ≡ [] → Keeps (P later) other → Keeps (P later) (choosing bs other)
    choice_lands no_branches other later h e k = k
    choice_lands (branch test qs bs) other later h e k =
        choice_keeps (P later) (kept later) test qs bs other
        (record { at = λ s c. lands_all qs later h.0 s (ahead_more qs later s.way (none_left (loops_in_parts qs) (loops_in_branches bs) e) c) })
        (choice_lands bs other later h.1 (none_right (loops_in_parts qs) (loops_in_branches bs) e) k)

    pub lands_all : (ps : Parts) (later : List ℕ) → AllJumpAhead later ps → (s : State) → Comes (labels_ahead ps later) s.way → Comes later (does_all (sequential bits) None (block_of_parts line ps) s).way
    lands_all no_parts later h s c = c
    lands_all (part p ps) later h s c = lands_all ps later h.1 (one p s) (lands p (labels_ahead ps later) h.0 s c)
