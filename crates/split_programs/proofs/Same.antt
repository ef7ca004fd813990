-- Acts that do the same from each moment whose store holds the program.
use Rattle.std.proofs.Common.{◌≡◌, refl, sym, ap, ◌∙◌, ℕ, zero, suc, ◌+◌, ℤ, Bool, true, false, List, Result, Ok, Err, Option}
use Rattle.tree.specs.Plain.{Expression, Program}
use Rattle.tree.specs.declared.ops.Fault.{Fault}
use Rattle.tree.specs.declared.ops.Value.TheVariants.{Int}
use Rattle.meaning.proofs.Kept.{Keeps}
use Rattle.meaning.specs.Dialect.{Dialect}
use Rattle.meaning.specs.Run.{Act, Cut, Failed, Going, Jumping, State, Stopped, Way, answered, counts_step, either, evaluates, goes, increases, is_allowed, loops, on_way, repeated, sets_variable, then, turn, while_going}
use Rattle.meaning.specs.Store.{Cell, Store}
use Rattle.meaning.specs.Value.{increment_of, number_of, trip_count}
use Rattle.meaning_laws.proofs.profiles.Answering.{AnyFault, AnyValue}
use Rattle.meaning_laws.proofs.profiles.Parts.{Good, IsVariable, keeps_checks_range, keeps_counts_step, keeps_evaluates, keeps_stores, keeps_then}
use Rattle.meaning_laws.proofs.profiles.Stores.{Fits}
use Rattle.meaning_laws.proofs.profiles.TargetRuns.{any_rest}
use Rattle.meaning_laws.proofs.profiles.ValueKinds.{any}
use Rattle.std.proofs.Common.{subst}

module _ (lang : Dialect) (limit : Option ℕ) (p : Program) where
  -- the store holds the program
  abbrev pub Holding : State → Type 0
  Holding s = Good lang limit p AnyFault any_rest s

  -- g does what f does
  pub record Same (f g : Act) : Type 0 where
    pub at : (s : State) → Good lang limit p AnyFault any_rest s → g s ≡ f s

  pub Same-refl : (f : Act) → Same f f
  Same-refl f = record { at = λ s q. refl }

  pub Same-then : (f f' g g' : Act) → Same f f' → Keeps (Good lang limit p AnyFault any_rest) f → Same g g' → Same (then f g) (then f' g')
  Same-then f f' g g' h k m = record { at = λ s q. ap g' (h.at s q) ∙ m.at (f s) (k.at s q) }

  Same-while_going : (f g : Act) → Same f g → Same (while_going f) (while_going g)
  unfolding while_going
  Same-while_going f g h = record { at = λ s q. by s.way s q }
    where
      by : (w : Way) (s : State) → Holding s → on_way w g s ≡ on_way w f s
      by Going s q = h.at s q
      by (Jumping l) s q = refl
      by Stopped s q = refl
      by (Failed e l) s q = refl
      by Cut s q = refl

  pub Same-either : (b : Bool) (f f' g g' : Act) → Same f f' → Same g g' → Same (either b f g) (either b f' g')
  Same-either true f f' g g' h k = h
  Same-either false f f' g g' h k = k

  Same-answered : {A : Type 0} (line : ℕ) (r : Result A Fault) (k k' : A → Act) → ((x : A) → Same (k x) (k' x)) → Same (answered line r k) (answered line r k')
  Same-answered line (Ok x) k k' h = h x
  Same-answered line (Err e) k k' h = record { at = λ s q. refl }

  pub Same-evaluates : {A : Type 0} (line : ℕ) (f : Store → Result A Fault) (k k' : A → Act) → ((x : A) → Same (k x) (k' x)) → Same (evaluates line f k) (evaluates line f k')
  unfolding evaluates
  Same-evaluates line f k k' h = Same-while_going _ _ (record { at = λ s q. (Same-answered line (f s.store) k k' h).at s q })

  pub Same-counts_step : (k k' : Act) → Same k k' → Same (counts_step lang limit k) (counts_step lang limit k')
  unfolding counts_step
  Same-counts_step k k' h = Same-while_going _ _ (record { at = λ s q. by (is_allowed limit s.steps) s q })
    where
      by : (b : Bool) (s : State) → Holding s → either b (λ t. k' (record t { steps = t.steps + 1 })) (goes Cut) s ≡ either b (λ t. k (record t { steps = t.steps + 1 })) (goes Cut) s
      by true s q = h.at (record s { steps = s.steps + 1 }) (record { store = q.store; way = q.way })
      by false s q = refl

  Same-repeated : (n : ℕ) (f g : Act) → Same f g → Keeps (Good lang limit p AnyFault any_rest) f → Same (repeated n f) (repeated n g)
  Same-repeated zero f g h k = record { at = λ s q. refl }
  Same-repeated (suc n) f g h k = Same-then f g (repeated n f) (repeated n g) h k (Same-repeated n f g h k)

  -- ---- loops

  module _ (line : ℕ) (x : List ℕ) (variable : IsVariable lang limit p AnyFault any_rest x) where
    keeps_sets : (z : ℤ) → Keeps (Good lang limit p AnyFault any_rest) (sets_variable lang limit line x z)
    keeps_sets z =
        keeps_evaluates lang limit p AnyFault any_rest (λ (c : Cell). c.name ≡ x) line _ _ variable.cell (λ c e.
        keeps_checks_range lang limit p AnyFault any_rest line (Int z) _ (λ r.
        keeps_stores lang limit p AnyFault any_rest c (Int z) (subst (λ y. Fits lang p y (Int z)) (sym e) (variable.fits' z r))))

    keeps_increases : (m3 : ℤ) → Keeps (Good lang limit p AnyFault any_rest) (increases lang limit line x m3)
    keeps_increases m3 =
        keeps_evaluates lang limit p AnyFault any_rest (λ (c : Cell). c.name ≡ x) line _ _ variable.cell (λ c e.
        keeps_evaluates lang limit p AnyFault any_rest AnyValue line _ _ (λ s q. any _) (λ z u. keeps_sets z))

    Same-turn : (m3 : ℤ) (f g : Act) → Same f g → Keeps (Good lang limit p AnyFault any_rest) f → Same (turn lang limit line x m3 f) (turn lang limit line x m3 g)
    Same-turn m3 f g h k = Same-counts_step _ _ (Same-then f g _ _ h k (Same-refl (increases lang limit line x m3)))

    keeps_turn : (m3 : ℤ) (f : Act) → Keeps (Good lang limit p AnyFault any_rest) f → Keeps (Good lang limit p AnyFault any_rest) (turn lang limit line x m3 f)
    keeps_turn m3 f k = keeps_counts_step lang limit p AnyFault any_rest _ (keeps_then lang limit p AnyFault any_rest f _ k (keeps_increases m3))

    pub Same-loops : (a b c : Expression) (f g : Act) → Same f g → Keeps (Good lang limit p AnyFault any_rest) f → Same (loops lang limit line x a b c f) (loops lang limit line x a b c g)
    Same-loops a b c f g h k =
        Same-evaluates line (number_of lang a) _ _ (λ m1. Same-evaluates line (number_of lang b) _ _ (λ m2. Same-evaluates line (increment_of lang c) _ _ (λ m3.
        Same-then _ _ _ _ (Same-refl (sets_variable lang limit line x m1)) (keeps_sets m1)
        (Same-evaluates line (λ s. trip_count m1 m2 m3) _ _ (λ n. Same-repeated n _ _ (Same-turn m3 f g h k) (keeps_turn m3 f k))))))
