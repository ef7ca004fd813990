-- Parts of a nest read and write no input and no output.
use Rattle.std.proofs.Common.{◌≡◌, refl, ap, ◌∙◌, ℕ, zero, suc, ◌+◌, ℤ, Bool, true, false, List, Option, Some, None, Result, Ok, Err}
use Rattle.tree.specs.declared.ops.Fault.{Fault}
use Rattle.tree.specs.declared.ops.Fault.TheVariants.{Overflow}
use Rattle.tree.specs.declared.ops.Value.{Value}
use Rattle.tree.specs.Plain.{Expression, Reference}
use Rattle.meaning.specs.Store.{Store, Cell}
use Rattle.meaning.specs.Value.{is_in_range}
use Rattle.meaning.specs.Run.{State, Way, Going, Jumping, Stopped, Failed, Cut, Act, nothing, then, either, repeated, goes, on_way, while_going, answered, evaluates, stores, counts_step, checks_range, arrives, chooses, does, does_all, loops, sets_variable, assigns}
use Rattle.rewrite.specs.Following.{sequential}
use Rattle.nest.specs.Blocks.{arms_of_branches, assignment_of, block_of_parts, numeral, statement_of_part, under_guard}
use Rattle.nest.specs.Plain.{Branches, no_branches, branch, Part, Run, Turns, Choice, Label, Jump, Parts, no_parts, part}

pub record Silent (f : Act) : Type 0 where
  pub at : (s : State) → f s ≡ record s { store = (f s).store; steps = (f s).steps; way = (f s).way }

silent-nothing : Silent nothing
silent-nothing = record { at = λ s. refl }

silent-then : (f g : Act) → Silent f → Silent g → Silent (then f g)
silent-then f g h k = record {
  at = λ s. k.at (f s) ∙ ap (λ (z : State). record z { store = (g (f s)).store; steps = (g (f s)).steps; way = (g (f s)).way }) (h.at s);
}

silent-either : (b : Bool) (f g : Act) → Silent f → Silent g → Silent (either b f g)
silent-either true f g h k = h
silent-either false f g h k = k

silent-goes : (w : Way) → Silent (goes w)
silent-goes w = record { at = λ s. refl }

silent-while_going : (f : Act) → Silent f → Silent (while_going f)
unfolding while_going
silent-while_going f h = record { at = λ s. by s.way s }
  where
    by : (w : Way) (s : State) → on_way w f s ≡ record s { store = (on_way w f s).store; steps = (on_way w f s).steps; way = (on_way w f s).way }
    by Going s = h.at s
    by (Jumping k) s = refl
    by Stopped s = refl
    by (Failed x l) s = refl
    by Cut s = refl

silent-answered : {A : Type 0} (line : ℕ) (r : Result A Fault) (k : A → Act) → ((x : A) → Silent (k x)) → Silent (answered line r k)
silent-answered line (Ok x) k h = h x
silent-answered line (Err f) k h = silent-goes (Failed f line)

silent-evaluates : {A : Type 0} (line : ℕ) (q : Store → Result A Fault) (k : A → Act) → ((x : A) → Silent (k x)) → Silent (evaluates line q k)
unfolding evaluates
silent-evaluates line q k h = silent-while_going _ (record { at = λ s. (silent-answered line (q s.store) k h).at s })

silent-stores : (c : Cell) (v : Value) → Silent (stores c v)
unfolding stores
silent-stores c v = silent-while_going _ (record { at = λ s. refl })

silent-repeated : (n : ℕ) (f : Act) → Silent f → Silent (repeated n f)
silent-repeated zero f h = silent-nothing
silent-repeated (suc n) f h = silent-then f (repeated n f) h (silent-repeated n f h)

module _ (bits : ℕ) where
  silent-counts_step : (k : Act) → Silent k → Silent (counts_step (sequential bits) None k)
  unfolding counts_step
  silent-counts_step k h = silent-while_going _ (record { at = λ s. h.at (record s { steps = s.steps + 1 }) })

  silent-checks_range : (line : ℕ) (v : Value) (k : Act) → Silent k → Silent (checks_range (sequential bits) None line v k)
  unfolding checks_range
  silent-checks_range line v k h = silent-while_going _ (silent-either (is_in_range bits v) k (goes (Failed Overflow line)) h (silent-goes (Failed Overflow line)))

  silent-assigns : (line : ℕ) (r : Reference) (e : Expression) → Silent (assigns (sequential bits) None line r e)
  silent-assigns line r e = silent-evaluates line _ _ (λ v. silent-evaluates line _ _ (λ c. silent-checks_range line v _ (silent-counts_step _ (silent-stores c v))))

  silent-sets_variable : (line : ℕ) (x : List ℕ) (z : ℤ) → Silent (sets_variable (sequential bits) None line x z)
  silent-sets_variable line x z = silent-evaluates line _ _ (λ c. silent-checks_range line _ _ (silent-stores c _))

  silent-loops : (line : ℕ) (x : List ℕ) (a b c : Expression) (f : Act) → Silent f → Silent (loops (sequential bits) None line x a b c f)
  silent-loops line x a b c f h =
      silent-evaluates line _ _ (λ m1. silent-evaluates line _ _ (λ m2. silent-evaluates line _ _ (λ m3.
      silent-then _ _ (silent-sets_variable line x m1)
      (silent-evaluates line _ _ (λ n. silent-repeated n _ (silent-counts_step _ (silent-then f _ h
      (silent-evaluates line _ _ (λ c. silent-evaluates line _ _ (λ z. silent-sets_variable line x z))))))))))

  module _ (line : ℕ) where
    mutual
      pub silent-part : (p : Part) → Silent (does (sequential bits) None (statement_of_part line p))
      silent-part (Run g) = by g.guard
        where
          by : (o : Option Expression) → Silent (does (sequential bits) None (under_guard g.line o (assignment_of g)))
          by None = silent-counts_step _ (silent-assigns g.line g.left g.right)
          by (Some e) = silent-counts_step _ (silent-evaluates g.line _ _ (λ b. silent-either b _ nothing (silent-then _ nothing (silent-counts_step _ (silent-assigns g.line g.left g.right)) silent-nothing) silent-nothing))
      silent-part (Turns l ps) = silent-loops line l.variable l.first l.last (numeral l.step) _ (silent-parts ps)
      silent-part (Choice bs ps) = silent-branches bs _ (silent-parts ps)
      silent-part (Label k) = record { at = λ s. (silent-either (arrives k s.way) (goes Going) nothing (silent-goes Going) silent-nothing).at s }
      silent-part (Jump k) = silent-counts_step _ (silent-goes (Jumping k))

      pub silent-parts : (ps : Parts) → Silent (does_all (sequential bits) None (block_of_parts line ps))
      silent-parts no_parts = silent-nothing
      silent-parts (part p ps) = silent-then _ _ (silent-part p) (silent-parts ps)

      silent-branches : (bs : Branches) (other : Act) → Silent other → Silent (chooses (sequential bits) None line (arms_of_branches line bs) other)
      silent-branches no_branches other h = h
      silent-branches (branch test ps bs) other h =
          silent-counts_step _ (silent-evaluates line _ _ (λ b. silent-either b _ _ (silent-parts ps) (silent-branches bs other h)))
