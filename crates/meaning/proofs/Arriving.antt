-- Where all jumps lead forward, no jump leaves the program.
use Rattle.std.proofs.Common.{◌≡◌, refl, sym, subst, ℕ, Bool, true, false, List, [], ◌∷◌, ◌++◌, Option, ◌⊎◌, inl, inr, Contains, append_assoc, eq-eqb, arith}
use Rattle.std.specs.Prelude.{◌==◌, IsSome}
use Rattle.std.proofs.lemmas.List.Elements.{Contains-append_cases, Contains-append_right, All-contains, All-cons, All-nil}
use Rattle.tree.specs.Plain.{Statement, Assignment, Where, If, Do, Label, GoTo, Stop, Read, Print, Allocate, Deallocate, Arms, no_arms, arm, Block, no_statements, statement, Program}
use Rattle.meaning.specs.Run.{State, Way, Going, Jumping, Stopped, Failed, Cut, Act, nothing, either, goes, arrives, opening_state, does, chooses, does_all, run}
use Rattle.meaning.specs.Sequential.{end_of, ending}
use Rattle.meaning.specs.Blocks.{label_of, labels_of}
use Rattle.meaning.specs.Jumps.{JumpsForward, ArmsJumpForward, BlockJumpsForward, AllJumpsForward}
use Rattle.meaning.proofs.Kept.{IsKeptByParts, Keeps, Keeps-nothing, Keeps-evaluates, Keeps-counts_step, Keeps-either, Keeps-loops, Keeps-assignment, Keeps-where, Keeps-allocate, Keeps-deallocate, Keeps-read, Keeps-print}
use Rattle.meaning.specs.Dialect.{Dialect}

-- the way is no jump, or one to a label that comes
abbrev Comes : List ℕ → Way → Type 0
Comes later (Jumping n) = Contains later n
Comes later _ = Unit {0}

-- a jump to a label that comes later in any of two lists, of which the first has only a label that it isn't
passed : (n m : ℕ) (later : List ℕ) → (m == n) ≡ false → Contains (n ∷ [] ++ later) m → Contains later m
passed n m later e h = by (Contains-append_cases (n ∷ []) later m h)
  where
    by : Contains (n ∷ []) m ⊎ Contains later m → Contains later m
    by (inr k) = k
    by (inl k) =
        let same : m ≡ n = All-contains (λ y. y ≡ n) (n ∷ []) m (All-cons (λ y. y ≡ n) n [] refl (All-nil (λ y. y ≡ n))) k in
        let yes = eq-eqb m n same in
        cc

Comes-more : (xs later : List ℕ) (w : Way) → Comes later w → Comes (xs ++ later) w
Comes-more xs later Going h = tt
Comes-more xs later (Jumping n) h = Contains-append_right xs later n h
Comes-more xs later Stopped h = tt
Comes-more xs later (Failed f line) h = tt
Comes-more xs later Cut h = tt

module _ (lang : Dialect) (limit : Option ℕ) where
  parts : (later : List ℕ) → IsKeptByParts lang limit (λ s. Comes later s.way)
  parts later = record {
    failed = λ f line s h. tt;
    cut = λ s n h. tt;
    written = λ t s h. h;
    stored = λ c v s e h. h;
    allocated = λ x bs s e h. h;
    deallocated = λ x s e h. h;
    input = λ rest b s h. h;
    step = λ s h. h;
  }

  -- from a jump to a label that is here or comes later, to one that comes later
  record Lands (here later : List ℕ) (f : Act) : Type 0 where
    at : (s : State) → Comes (here ++ later) s.way → Comes later (f s).way

  keeping : (here later : List ℕ) (f : Act) → Lands here later f → Keeps (λ s. Comes later s.way) f
  keeping here later f h = record { at = λ s k. h.at s (Comes-more here later s.way k) }

  -- a statement that is no label
  landing : (later : List ℕ) (f : Act) → Keeps (λ s. Comes later s.way) f → Lands [] later f
  landing later f h = record { at = h.at }

  Lands-label : (n : ℕ) (later : List ℕ) → Lands (n ∷ []) later (does lang limit (Label n))
  Lands-label n later = record { at = λ s h. by s.way s refl h }
    where
      met : (m : ℕ) (b : Bool) (s : State) → (m == n) ≡ b → Contains (n ∷ [] ++ later) m → s.way ≡ Jumping m → Comes later (either b (goes Going) nothing s).way
      met m true s e h g = tt
      met m false s e h g = subst (Comes later) (sym g) (passed n m later e h)

      by : (w : Way) (s : State) → s.way ≡ w → Comes (n ∷ [] ++ later) w → Comes later (either (arrives n w) (goes Going) nothing s).way
      by Going s g h = subst (Comes later) (sym g) tt
      by (Jumping m) s g h = met m (m == n) s refl h g
      by Stopped s g h = subst (Comes later) (sym g) tt
      by (Failed f line) s g h = subst (Comes later) (sym g) tt
      by Cut s g h = subst (Comes later) (sym g) tt

  mutual
    Lands-does : (c : Statement) (later : List ℕ) → JumpsForward later c → Lands (label_of c) later (does lang limit c)
    Lands-does (Assignment line m r e) later h = landing later _ (Keeps-assignment lang limit _ (parts later) line m r e)
    Lands-does (Where line m k r e) later h = landing later _ (Keeps-where lang limit _ (parts later) line m k r e)
    Lands-does (If line arms other) later h = landing later _ (Keeps-arms line arms _ later h.0 (keeping (labels_of other) later _ (Lands-does_all other later h.1)))
    Lands-does (Do line x a b c body) later h = landing later _ (Keeps-loops lang limit _ (parts later) line x a b c _ (keeping (labels_of body) later _ (Lands-does_all body later h)))
    Lands-does (Label n) later h = Lands-label n later
    Lands-does (GoTo line n) later h = landing later _ (Keeps-counts_step lang limit _ (parts later) _ (record { at = λ s k. h }))
    Lands-does (Stop line) later h = landing later _ (Keeps-counts_step lang limit _ (parts later) _ (record { at = λ s k. tt }))
    Lands-does (Read line is) later h = landing later _ (Keeps-read lang limit _ (parts later) line is)
    Lands-does (Print line is) later h = landing later _ (Keeps-print lang limit _ (parts later) line is)
    Lands-does (Allocate line x es) later h = landing later _ (Keeps-allocate lang limit _ (parts later) line x es)
    Lands-does (Deallocate line x) later h = landing later _ (Keeps-deallocate lang limit _ (parts later) line x)

    Keeps-arms : (line : ℕ) (arms : Arms) (f : Act) (later : List ℕ) → ArmsJumpForward later arms → Keeps (λ s. Comes later s.way) f → Keeps (λ s. Comes later s.way) (chooses lang limit line arms f)
    Keeps-arms line no_arms f later h k = k
    Keeps-arms line (arm test body arms) f later h k = Keeps-counts_step lang limit _ (parts later) _ (Keeps-evaluates lang limit _ (parts later) line _ _ (λ b.
        Keeps-either lang limit _ (parts later) b _ _ (λ e. keeping (labels_of body) later _ (Lands-does_all body later h.0)) (λ e. Keeps-arms line arms f later h.1 k)))

    Lands-does_all : (cs : Block) (later : List ℕ) → BlockJumpsForward later cs → Lands (labels_of cs) later (does_all lang limit cs)
    Lands-does_all no_statements later h = landing later _ (Keeps-nothing lang limit _ (parts later))
    Lands-does_all (statement c cs) later h = record {
      at = λ s k.
          (Lands-does_all cs later h.1).at (does lang limit c s) ((Lands-does c (labels_of cs ++ later) h.0).at s (regroup s k));
    }
      where
        regroup : (s : State) → Comes (label_of c ++ labels_of cs ++ later) s.way → Comes (label_of c ++ (labels_of cs ++ later)) s.way
        regroup s k = subst (λ (xs : List ℕ). Comes xs s.way) (append_assoc (label_of c) (labels_of cs) later) k

known : (w : Way) → Comes [] w → IsSome (end_of w)
known Going h = refl
known (Jumping n) h = let l = h.1 in absurd (omega arith)
known Stopped h = refl
known (Failed f line) h = refl
known Cut h = refl

pub every_run_ends : (lang : Dialect) (limit : Option ℕ) (p : Program) (input : List ℕ) → AllJumpsForward p → IsSome (ending (run lang limit p input))
every_run_ends lang limit p input h = known (run lang limit p input).way ((Lands-does_all lang limit p.body [] h).at (opening_state p input) tt)
