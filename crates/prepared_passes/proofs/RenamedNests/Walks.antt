-- The loops and statements of a nest lead to those of the nest in which values have other names.
use Rattle.std.proofs.Common.{◌≡◌, refl, sym, ap, ◌∙◌, subst, ℕ, ◌+◌, ◌≤◌, ℤ, pos, Bool, true, false, List, [], ◌∷◌, ◌++◌, None}
use Rattle.std.specs.List.{AllByRecursion}
use Rattle.std.specs.Str.{bytes_eq}
use Rattle.tree.specs.Plain.{Number}
use Rattle.tree.specs.declared.ops.Value.{Value}
use Rattle.meaning.specs.Reads.{names_in}
use Rattle.meaning.specs.Run.{does, does_all}
use Rattle.meaning.specs.Store.{Cell, Store, put}
use Rattle.meaning.specs.Value.{is_in_range}
use Rattle.nest.specs.Blocks.{block_of_parts, statement_of_part}
use Rattle.nest.specs.Plain.{Choice, Guarded, Jump, Label, Loop, Part, Parts, Run, Turns, no_parts, part, parts}
use Rattle.nest_order.proofs.runs.Alike.{Alike, number_alike}
use Rattle.nest_order.proofs.runs.Results.{each_of}
use Rattle.nest_order.proofs.runs.Variables.{cell_name}
use Rattle.nest_order.specs.orders.Lists.{In}
use Rattle.nest_steps.proofs.Mapped.{mapped_nest_leads, wide_enough}
use Rattle.nest_steps.proofs.Rounds.{loop_turns}
use Rattle.nest_steps.specs.Leading.{Leads}
use Rattle.nest_steps.specs.Mapped.{AllLead, AllLeadIn, count_in, count_of, mapped_parts_of}
use Rattle.nest_steps.specs.Rounds.{InLoops, Turning}
use Rattle.nest_steps.specs.Statements.{cell_of}
use Rattle.rewrite.specs.Following.{sequential}
use Rattle.prepared_passes.proofs.RenamedNests.Moved.{AreNamed, Fits, moved, names_stay, put_moved, renamed, statement_leads}

module _ (bits : ℕ) (names : ℕ → List ℕ → List ℕ) (Made : List ℕ → Type 0)
    (once : (k : ℕ) (x z : List ℕ) → ¬ Made x → ¬ Made z → names k x ≡ names k z → x ≡ z) where
  -- its value has its own name everywhere
  abbrev pub Still : List ℕ → Type 0
  Still x = ((k : ℕ) → names k x ≡ x) × (¬ Made x)

  abbrev pub each : List Loop → ℕ → Guarded → List Guarded
  each ls k g = renamed bits names Made once k g ∷ []

  still_held : (k : ℕ) (s u : Store) → AreNamed bits names Made k s u → (c : Cell) → Still c.name → u.held c ≡ s.held c
  still_held k s u a c h = ap (λ y. u.held (record { name = y; subscripts = c.subscripts })) (sym (by c.subscripts)) ∙ a.held c h.1
    where
      by : (is : List ℤ) → (moved bits names Made k (record { name = c.name; subscripts = is })).name ≡ c.name
      by [] = h.0 k
      by (i ∷ is) = refl

  still_alike : (k : ℕ) (s u : Store) → AreNamed bits names Made k s u → (x : List ℕ) → Still x → Alike bits u s x
  still_alike k s u a x h = (
    a.bounds x,
    λ is c e. still_held k s u a c (subst Still (sym (cell_name (u.bounds x) x is c e).0) h),
  )

  -- what is asked of a loop with m statements in it
  pub record FitsLoop (counters : List ℕ → Bool) (ls : List Loop) (k : ℕ) (l : Loop) (m : ℕ) : Type 0 where
    pub first : l.first ≡ Number (pos 1)
    pub step : l.step ≡ pos 1
    pub counter : counters l.variable ≡ true
    pub own : AllByRecursion (λ (o : Loop). bytes_eq l.variable o.variable ≡ false) ls
    pub last : (x : List ℕ) → In x (names_in l.last) → Still x
    pub same : (x : List ℕ) → ¬ Made x → names (k + m) x ≡ names k x

  module _ (counters : List ℕ → Bool) (still : (x : List ℕ) → counters x ≡ true → Still x) where
    abbrev mutual
      pub Fit : List Loop → ℕ → Part → Type 0
      Fit ls k (Run g) = Fits bits names Made once ls k g
      Fit ls k (Turns l ps) = FitsLoop counters ls k l (count_in ps) × FitIn (ls ++ l ∷ []) k ps
      Fit ls k (Choice bs ps) = ⊥
      Fit ls k (Label n) = ⊥
      Fit ls k (Jump n) = ⊥

      pub FitIn : List Loop → ℕ → Parts → Type 0
      FitIn ls k no_parts = Unit {0}
      FitIn ls k (part p ps) = Fit ls k p × FitIn ls (k + count_of p) ps

    abbrev like : List ℕ → ℕ → Store → Store → Type 0
    like is k = AreNamed bits names Made k

    abbrev pub At : List Loop → List ℕ → ℕ → Store → Store → Type 0
    At = InLoops bits counters (λ is k. AreNamed bits names Made k)

    abbrev Any : List ℕ → Loop → ℕ → Type 0
    Any is l n = Unit {0}

    steady : (is : List ℕ) (k : ℕ) (s u : Store) (y : List ℕ) (v : Value) → is_in_range bits v ≡ true → counters y ≡ true → AreNamed bits names Made k s u
        → AreNamed bits names Made k (put (cell_of y) v s) (put (cell_of y) v u)
    steady is k s u y v range c a =
        subst (λ (d : Cell). AreNamed bits names Made k (put (cell_of y) v s) (put d v u)) (ap cell_of ((still y c).0 k))
        (put_moved bits names Made once k k (cell_of y) v s u a (still y c).1 (λ d m differs. refl))

    turning : (ls : List Loop) (l : Loop) (is : List ℕ) (k m : ℕ) → FitsLoop counters ls k l m → Turning bits counters (λ is k. AreNamed bits names Made k) (λ is l n. Unit {0}) ls l is k m
    turning ls l is k m h = record {
      first = h.first;
      step = h.step;
      counter = h.counter;
      own = h.own;
      same = λ s u a z e. number_alike bits u s l.last (each_of (Alike bits u s) (names_in l.last) (λ x i. still_alike k s u a.stores x (h.last x i))) ∙ e;
      turns_are = λ s u a z n e f. tt;
      begins = λ s u a. a;
      next = λ i small s u a. names_stay bits names Made once (k + m) k s u (λ x n. sym (h.same x n)) a;
      ends = λ n known s u a. names_stay bits names Made once k (k + m) s u h.same a;
    }

    mutual
      part_leads : (line : ℕ) → 31 ≤ bits → (ls : List Loop) (is : List ℕ) (k : ℕ) (p : Part) → Fit ls k p
          → AllLead each bits line (λ is l n. Unit {0}) At ls is k p
      part_leads line wide ls is k (Run g) h = statement_leads bits names Made once counters ls is k g h
      part_leads line wide ls is k (Turns l ps) h = (
        loop_turns each bits line counters (λ is k. AreNamed bits names Made k) (wide_enough bits wide) steady (λ is l n. Unit {0}) ls l is k (count_in ps) (turning ls l is k (count_in ps) h.0),
        λ n known i low high. parts_lead line wide (ls ++ l ∷ []) (is ++ i ∷ []) k ps h.1,
      )
      part_leads line wide ls is k (Choice bs ps) h = absurd h
      part_leads line wide ls is k (Label n) h = absurd h
      part_leads line wide ls is k (Jump n) h = absurd h

      parts_lead : (line : ℕ) → 31 ≤ bits → (ls : List Loop) (is : List ℕ) (k : ℕ) (ps : Parts) → FitIn ls k ps
          → AllLeadIn each bits line (λ is l n. Unit {0}) At ls is k ps
      parts_lead line wide ls is k no_parts h = tt
      parts_lead line wide ls is k (part p ps) h = (part_leads line wide ls is k p h.0, parts_lead line wide ls is (k + count_of p) ps h.1)

    pub nest_leads : (line : ℕ) → 31 ≤ bits → (p : Part) → Fit [] 0 p
        → Leads (At [] [] 0) (At [] [] (count_of p)) (does (sequential bits) None (statement_of_part line p)) (does_all (sequential bits) None (block_of_parts line (parts (mapped_parts_of each [] 0 p))))
    nest_leads line wide p h = mapped_nest_leads each bits line (λ is l n. Unit {0}) At p wide (part_leads line wide [] [] 0 p h)
