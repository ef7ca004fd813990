-- The ways in which the run of a body without loops goes through its parts.
use Rattle.std.proofs.Common.{◌≡◌, refl, sym, ap, subst, ◌∙◌, ◌⊎◌, inl, inr, ℕ, ◌+◌, Bool, true, false}
use Rattle.std.proofs.Common.{None, Result, Ok, Err}
use Rattle.tree.specs.Plain.{Expression}
use Rattle.tree.specs.declared.ops.Fault.{Fault}
use Rattle.tree.specs.declared.ops.Fault.TheVariants.{Overflow}
use Rattle.tree.specs.declared.ops.Value.{Value}
use Rattle.meaning.specs.Store.{Store, Cell, put}
use Rattle.meaning.specs.Run.{State, Way, Going, Jumping, Stopped, Failed, Cut, Act, arrives, chooses, counts_step}
use Rattle.meaning.specs.Run.{does, does_all, either, evaluates, goes, nothing, on_way, while_going, stores, checks_range}
use Rattle.meaning.specs.Value.{truth_of, value_of, cell_named, is_in_range}
use Rattle.nest.specs.Blocks.{arms_of_branches, assignment_of, block_of_parts, guarded_statement}
use Rattle.nest.specs.Blocks.{statement_of_part, under_guard}
use Rattle.nest.specs.Plain.{Branches, no_branches, branch, Guarded, Part, Run, Turns, Choice, Label, Jump}
use Rattle.nest.specs.Plain.{Parts, no_parts, part}
use Rattle.rewrite.specs.Following.{sequential}
use Rattle.prepared_passes.proofs.ConvertedNests.Moments.{assigned, AreLoopless, IsLoopless}

abbrev pub is_going : Way → Bool
is_going Going = true
is_going (Jumping k) = false
is_going Stopped = false
is_going (Failed f line) = false
is_going Cut = false

-- the run is not in this block
abbrev pub is_away : Way → Bool
is_away Going = false
is_away (Jumping k) = false
is_away Stopped = true
is_away (Failed f line) = false
is_away Cut = false

-- without fault
abbrev pub IsFine : Way → Type 0
IsFine Going = Unit {0}
IsFine (Jumping k) = Unit {0}
IsFine Stopped = Unit {0}
IsFine (Failed f line) = ⊥
IsFine Cut = ⊥

pub going_fine : (w : Way) → w ≡ Going → IsFine w
going_fine w e = subst IsFine (sym e) tt

pub is_going_true : (w : Way) → w ≡ Going → is_going w ≡ true
is_going_true w e = ap is_going e

pub going_true : (w : Way) → is_going w ≡ true → w ≡ Going
going_true Going e = refl
going_true (Jumping k) e = let no : ⊥ = cc in absurd no
going_true Stopped e = let no : ⊥ = cc in absurd no
going_true (Failed f line) e = let no : ⊥ = cc in absurd no
going_true Cut e = let no : ⊥ = cc in absurd no

pub going_or_not : (w : Way) → (w ≡ Going) ⊎ ((w ≡ Going → ⊥) × (is_going w ≡ false))
going_or_not Going = inl refl
going_or_not (Jumping k) = inr ((λ e. cc), refl)
going_or_not Stopped = inr ((λ e. cc), refl)
going_or_not (Failed f line) = inr ((λ e. cc), refl)
going_or_not Cut = inr ((λ e. cc), refl)

pub jumping_not_going : (w : Way) (k : ℕ) → w ≡ Jumping k → w ≡ Going → ⊥
jumping_not_going w k e f = let same : ◌≡◌ {A = Way} (Jumping k) Going = sym e ∙ f in cc

pub away_not_jumping : (k : ℕ) → Stopped ≡ Jumping k → ⊥
away_not_jumping k e = cc

pub jumps_same : (j k : ℕ) → Jumping j ≡ Jumping k → j ≡ k
jumps_same j k e = cc

-- the moment in another block
abbrev pub away : State → State
away s = record s { way = Stopped }

abbrev pub moved : State → ℕ → Store → State
moved s k t = record s { store = t; steps = k; way = Going }

module _ (bits line : ℕ) where
  abbrev pub one : Part → Act
  one p = does (sequential bits) None (statement_of_part line p)

  abbrev pub all : Parts → Act
  all ps = does_all (sequential bits) None (block_of_parts line ps)

  abbrev pub choosing : Branches → Act → Act
  choosing bs other = chooses (sequential bits) None line (arms_of_branches line bs) other

  -- ---- what doesn't begin while the run jumps or has ended

  pub idle : (k : Act) (s : State) → (s.way ≡ Going → ⊥) → while_going k s ≡ s
  unfolding while_going
  idle k s over = by s.way refl
    where
      by : (w : Way) → s.way ≡ w → on_way w k s ≡ s
      by Going e = absurd (over e)
      by (Jumping j) e = refl
      by Stopped e = refl
      by (Failed f l) e = refl
      by Cut e = refl

  pub counts_idle : (k : Act) (s : State) → (s.way ≡ Going → ⊥) → counts_step (sequential bits) None k s ≡ s
  unfolding counts_step
  counts_idle k s over = idle _ s over

  pub run_idle : (g : Guarded) (s : State) → g.guard ≡ None → (s.way ≡ Going → ⊥) → does (sequential bits) None (guarded_statement g) s ≡ s
  run_idle g s e over = ap (λ o. does (sequential bits) None (under_guard g.line o (assignment_of g)) s) e ∙ counts_idle _ s over

  pub choice_idle : (test : Expression) (qs : Parts) (bs : Branches) (other : Act) (s : State) → (s.way ≡ Going → ⊥) → choosing (branch test qs bs) other s ≡ s
  choice_idle test qs bs other s over = counts_idle _ s over

  pub jump_idle : (k : ℕ) (s : State) → (s.way ≡ Going → ⊥) → one (Jump k) s ≡ s
  jump_idle k s over = counts_idle _ s over

  -- ---- what begins while it goes on

  pub chosen : (test : Expression) (qs : Parts) (bs : Branches) (other : Act) (s : State) (b : Bool) → s.way ≡ Going → truth_of (sequential bits) test s.store ≡ Ok b
      → choosing (branch test qs bs) other s ≡ either b (all qs) (choosing bs other) (moved s (s.steps + 1) s.store)
  unfolding while_going evaluates counts_step
  chosen test qs bs other s b w f = rw (w, f) refl

  pub not_chosen : (test : Expression) (qs : Parts) (bs : Branches) (other : Act) (s : State) (f : Fault) → s.way ≡ Going → truth_of (sequential bits) test s.store ≡ Err f
      → (choosing (branch test qs bs) other s).way ≡ Failed f line
  unfolding while_going evaluates counts_step
  not_chosen test qs bs other s f w e = rw (w, e) refl

  pub jumped : (k : ℕ) (s : State) → s.way ≡ Going → one (Jump k) s ≡ record (moved s (s.steps + 1) s.store) { way = Jumping k }
  unfolding while_going counts_step
  jumped k s w = rw w refl

  -- ---- an assignment that meets no fault

  pub record Assigned (g : Guarded) (s t : State) : Type 0 where
    pub left : assigned bits g s.store ≡ Ok t.store
    pub way : t.way ≡ Going

  assigns_at : (g : Guarded) (s : State) (v : Value) (c : Cell) → s.way ≡ Going → value_of (sequential bits) g.right s.store ≡ Ok v → cell_named (sequential bits) g.left s.store ≡ Ok c
      → is_in_range bits v ≡ true → does (sequential bits) None (assignment_of g) s ≡ moved s (s.steps + 1 + 1) (put c v s.store)
  unfolding while_going evaluates counts_step stores checks_range
  assigns_at g s v c w e f r = rw (w, e, f, r) refl

  out_of_range : (g : Guarded) (s : State) (v : Value) (c : Cell) → s.way ≡ Going → value_of (sequential bits) g.right s.store ≡ Ok v → cell_named (sequential bits) g.left s.store ≡ Ok c
      → is_in_range bits v ≡ false → (does (sequential bits) None (assignment_of g) s).way ≡ Failed Overflow g.line
  unfolding while_going evaluates counts_step stores checks_range
  out_of_range g s v c w e f r = rw (w, e, f, r) refl

  no_cell : (g : Guarded) (s : State) (v : Value) (x : Fault) → s.way ≡ Going → value_of (sequential bits) g.right s.store ≡ Ok v → cell_named (sequential bits) g.left s.store ≡ Err x
      → (does (sequential bits) None (assignment_of g) s).way ≡ Failed x g.line
  unfolding while_going evaluates counts_step stores checks_range
  no_cell g s v x w e f = rw (w, e, f) refl

  no_value : (g : Guarded) (s : State) (x : Fault) → s.way ≡ Going → value_of (sequential bits) g.right s.store ≡ Err x
      → (does (sequential bits) None (assignment_of g) s).way ≡ Failed x g.line
  unfolding while_going evaluates counts_step stores checks_range
  no_value g s x w e = rw (w, e) refl

  assigned_at : (g : Guarded) (t : Store) (v : Value) (c : Cell) → value_of (sequential bits) g.right t ≡ Ok v → cell_named (sequential bits) g.left t ≡ Ok c
      → is_in_range bits v ≡ true → assigned bits g t ≡ Ok (put c v t)
  assigned_at g t v c e f r = rw (e, f, r) refl

  pub does_assign : (g : Guarded) (s : State) → s.way ≡ Going → IsFine (does (sequential bits) None (assignment_of g) s).way → Assigned g s (does (sequential bits) None (assignment_of g) s)
  does_assign g s w h = by (value_of (sequential bits) g.right s.store) refl (cell_named (sequential bits) g.left s.store) refl
    where
      done : (v : Value) → value_of (sequential bits) g.right s.store ≡ Ok v → (c : Cell) → cell_named (sequential bits) g.left s.store ≡ Ok c → (b : Bool) → is_in_range bits v ≡ b
          → Assigned g s (does (sequential bits) None (assignment_of g) s)
      done v e c f true r = subst (Assigned g s) (sym (assigns_at g s v c w e f r)) (record { left = assigned_at g s.store v c e f r; way = refl })
      done v e c f false r = absurd (subst IsFine (out_of_range g s v c w e f r) h)

      by : (v : Result Value Fault) → value_of (sequential bits) g.right s.store ≡ v → (c : Result Cell Fault) → cell_named (sequential bits) g.left s.store ≡ c
          → Assigned g s (does (sequential bits) None (assignment_of g) s)
      by (Ok v) e (Ok c) f = done v e c f (is_in_range bits v) refl
      by (Ok v) e (Err x) f = absurd (subst IsFine (no_cell g s v x w e f) h)
      by (Err x) e c f = absurd (subst IsFine (no_value g s x w e) h)

  pub run_assigns : (g : Guarded) (s : State) → g.guard ≡ None → s.way ≡ Going → IsFine (one (Run g) s).way → Assigned g s (one (Run g) s)
  run_assigns g s e w h =
      let same : one (Run g) s ≡ does (sequential bits) None (assignment_of g) s = ap (λ o. does (sequential bits) None (under_guard g.line o (assignment_of g)) s) e in
      subst (Assigned g s) (sym same) (does_assign g s w (subst (λ (z : State). IsFine z.way) same h))

  -- ---- a run that has ended, or is away, stays as it is

  abbrev pub IsOver : Way → Type 0
  IsOver Going = ⊥
  IsOver (Jumping k) = ⊥
  IsOver Stopped = Unit {0}
  IsOver (Failed f l) = Unit {0}
  IsOver Cut = Unit {0}

  over_not_going : (w : Way) → IsOver w → w ≡ Going → ⊥
  over_not_going w h e = subst IsOver e h

  over_arrives : (k : ℕ) (w : Way) → IsOver w → arrives k w ≡ false
  over_arrives k Going h = absurd h
  over_arrives k (Jumping j) h = absurd h
  over_arrives k Stopped h = refl
  over_arrives k (Failed f l) h = refl
  over_arrives k Cut h = refl

  pub label_stays : (k : ℕ) (s : State) → arrives k s.way ≡ false → one (Label k) s ≡ s
  label_stays k s e = ap (λ b. either b (goes Going) nothing s) e

  pub label_met : (k : ℕ) (s : State) → arrives k s.way ≡ true → one (Label k) s ≡ record s { way = Going }
  label_met k s e = ap (λ b. either b (goes Going) nothing s) e

  pub over_choosing : (bs : Branches) (other : Act) (s : State) → other s ≡ s → IsOver s.way → choosing bs other s ≡ s
  over_choosing no_branches other s h over = h
  over_choosing (branch test qs bs) other s h over = choice_idle test qs bs other s (over_not_going s.way over)

  mutual
    pub over_one : (p : Part) (s : State) → IsLoopless p → IsOver s.way → does (sequential bits) None (statement_of_part line p) s ≡ s
    over_one (Run g) s h over = run_idle g s h (over_not_going s.way over)
    over_one (Turns l ps) s h over = absurd h
    over_one (Choice bs ps) s h over = over_choosing bs (all ps) s (over_all ps s h.2 over) over
    over_one (Label k) s h over = label_stays k s (over_arrives k s.way over)
    over_one (Jump k) s h over = jump_idle k s (over_not_going s.way over)

    pub over_all : (ps : Parts) (s : State) → AreLoopless ps → IsOver s.way → does_all (sequential bits) None (block_of_parts line ps) s ≡ s
    over_all no_parts s h over = refl
    over_all (part p ps) s h over = ap (all ps) (over_one p s h.0 over) ∙ over_all ps s h.1 over

  over_or_fine : (w : Way) → IsFine w ⊎ ((IsFine w → ⊥) × IsOver w)
  over_or_fine Going = inl tt
  over_or_fine (Jumping k) = inl tt
  over_or_fine Stopped = inl tt
  over_or_fine (Failed f l) = inr ((λ h. h), tt)
  over_or_fine Cut = inr ((λ h. h), tt)

  -- so one that is fine has been so
  pub fine_from : (ps : Parts) (s : State) → AreLoopless ps → IsFine (does_all (sequential bits) None (block_of_parts line ps) s).way → IsFine s.way
  fine_from ps s l h = by (over_or_fine s.way)
    where
      by : IsFine s.way ⊎ ((IsFine s.way → ⊥) × IsOver s.way) → IsFine s.way
      by (inl f) = f
      by (inr o) = subst (λ (z : State). IsFine z.way) (over_all ps s l o.1) h
