-- Acts that come from one moment to the same one, where numbers have 64 bits at most.
use Rattle.std.proofs.Common.{◌≡◌, refl, sym, ap, ◌∙◌, ℕ, zero, suc, ◌+◌, ◌≤◌, ◌^◌, ℤ, Bool, true, false, cond, List, Result, Ok, Err, None}
use Rattle.std.specs.Prelude.{nat_abs}
use Rattle.tree.specs.declared.ops.Fault.{Fault}
use Rattle.tree.specs.declared.ops.Fault.TheVariants.{Overflow}
use Rattle.tree.specs.declared.ops.Value.{Value}
use Rattle.tree.specs.declared.ops.Value.TheVariants.{Int}
use Rattle.tree.specs.Plain.{Expression}
use Rattle.meaning.specs.Dialect.{Dialect}
use Rattle.meaning.specs.Run.{State, Way, Going, Jumping, Stopped, Failed, Cut, Act, nothing, then, either, repeated, goes, on_way, while_going, answered, evaluates, stores, counts_step, checks_range, sets_variable, increases, turn, loops}
use Rattle.meaning.specs.Store.{Store, Cell, put, same_cell}
use Rattle.meaning.specs.Value.{is_in_range}
use Rattle.rewrite.specs.Following.{IsSound, sequential}
use Rattle.rewrite.proofs.Acts.{Stays, Stays-counts_step, Stays-evaluates, Stays-repeated}
use Rattle.linear_forms.specs.Laws.{HoldsSized}
use Rattle.pass_laws.proofs.NormalRuns.Numbers.{sized_number}

pub record Alike (f g : Act) : Type 0 where
  pub at : (s : State) → HoldsSized s.store → IsSound (f s).way → (g s ≡ f s) × HoldsSized (f s).store

pub alike_nothing : Alike nothing nothing
alike_nothing = record { at = λ s h e. (refl, h) }

pub alike_then : (f f' g g' : Act) → Alike f f' → Stays g → Alike g g' → Alike (then f g) (then f' g')
alike_then f f' g g' a stays b = record {
  at = λ s h e.
      let one = a.at s h (stays.at (f s) e) in
      let two = b.at (f s) one.1 e in
      (ap g' one.0 ∙ two.0, two.1);
}

pub alike_going : (f f' : Act) → Alike f f' → Alike (while_going f) (while_going f')
unfolding while_going
alike_going f f' a = record { at = λ s. by s.way s }
  where
    by : (w : Way) (s : State) → HoldsSized s.store → IsSound (on_way w f s).way
        → (on_way w f' s ≡ on_way w f s) × HoldsSized (on_way w f s).store
    by Going s h e = a.at s h e
    by (Jumping l) s h e = (refl, h)
    by Stopped s h e = (refl, h)
    by (Failed x l) s h e = (refl, h)
    by Cut s h e = (refl, h)

pub alike_evaluates : {A : Type 0} (line : ℕ) (q q' : Store → Result A Fault) (k k' : A → Act)
    → ((s : Store) → HoldsSized s → (x : A) → q s ≡ Ok x → q' s ≡ Ok x) → ((x : A) → Alike (k x) (k' x))
    → Alike (evaluates line q k) (evaluates line q' k')
unfolding evaluates
alike_evaluates {A} line q q' k k' same a = alike_going _ _ (record { at = λ s h. by s h (q s.store) refl })
  where
    by : (s : State) → HoldsSized s.store → (r : Result A Fault) → q s.store ≡ r → IsSound (answered line r k s).way
        → (answered line (q' s.store) k' s ≡ answered line r k s) × HoldsSized (answered line r k s).store
    by s h (Ok x) e w =
        let one = (a x).at s h w in
        (ap (λ (r : Result A Fault). answered line r k' s) (same s.store h x e) ∙ one.0, one.1)
    by s h (Err f) e w = absurd w

pub alike_either : (b : Bool) (f f' g g' : Act) → Alike f f' → Alike g g' → Alike (either b f g) (either b f' g')
alike_either true f f' g g' a b = a
alike_either false f f' g g' a b = b

pub alike_repeated : (n : ℕ) (f f' : Act) → Alike f f' → Stays f → Alike (repeated n f) (repeated n f')
alike_repeated zero f f' a w = alike_nothing
alike_repeated (suc n) f f' a w =
    alike_then f f' (repeated n f) (repeated n f') a (Stays-repeated n f w) (alike_repeated n f f' a w)

pub alike_counts : (lang : Dialect) (k k' : Act) → Alike k k' → Alike (counts_step lang None k) (counts_step lang None k')
unfolding counts_step
alike_counts lang k k' a = alike_going _ _ (record { at = λ s h w. a.at (record s { steps = s.steps + 1 }) h w })

pub alike_checks : (lang : Dialect) (line : ℕ) (v : Value) (k k' : Act) → (is_in_range lang.bits v ≡ true → Alike k k')
    → Alike (checks_range lang None line v k) (checks_range lang None line v k')
unfolding checks_range
alike_checks lang line v k k' a = alike_going _ _ (by (is_in_range lang.bits v) refl)
  where
    by : (b : Bool) → is_in_range lang.bits v ≡ b
        → Alike (either b k (goes (Failed Overflow line))) (either b k' (goes (Failed Overflow line)))
    by true e = a e
    by false e = record { at = λ s h w. absurd w }

-- ---- what is stored

module _ (bits : ℕ) (few : bits ≤ 63) where
  sized_put : (c : Cell) (v : Value) (u : Store) → is_in_range bits v ≡ true → HoldsSized u → HoldsSized (put c v u)
  sized_put c v u range h d z e = by (same_cell c d) e
    where
      by : (b : Bool) → cond b v (u.held d) ≡ Int z → nat_abs z ≤ 2 ^ 63
      by true g = sized_number bits z few (ap (is_in_range bits) (sym g) ∙ range)
      by false g = h d z g

  pub alike_stores : (c : Cell) (v : Value) → is_in_range bits v ≡ true → Alike (stores c v) (stores c v)
  unfolding stores
  alike_stores c v r = alike_going _ _ (record { at = λ s h w. (refl, sized_put c v s.store r h) })

  -- ---- loops

  alike_sets : (line : ℕ) (x : List ℕ) (z : ℤ)
      → Alike (sets_variable (sequential bits) None line x z) (sets_variable (sequential bits) None line x z)
  alike_sets line x z =
      alike_evaluates line _ _ _ _ (λ s h c e. e)
      (λ c. alike_checks (sequential bits) line (Int z) _ _ (λ r. alike_stores c (Int z) r))

  alike_increases : (line : ℕ) (x : List ℕ) (d : ℤ)
      → Alike (increases (sequential bits) None line x d) (increases (sequential bits) None line x d)
  alike_increases line x d =
      alike_evaluates line _ _ _ _ (λ s h c e. e)
      (λ c. alike_evaluates line _ _ _ _ (λ s h z e. e) (λ z. alike_sets line x z))

  alike_turn : (line : ℕ) (x : List ℕ) (d : ℤ) (f f' : Act) → Alike f f'
      → Alike (turn (sequential bits) None line x d f) (turn (sequential bits) None line x d f')
  alike_turn line x d f f' a =
      alike_counts (sequential bits) _ _ (alike_then f f' _ _ a (Stays-evaluates line _ _) (alike_increases line x d))

  pub alike_loops : (line : ℕ) (x : List ℕ) (a b c : Expression) (f f' : Act) → Alike f f'
      → Alike (loops (sequential bits) None line x a b c f) (loops (sequential bits) None line x a b c f')
  alike_loops line x a b c f f' h =
      alike_evaluates line _ _ _ _ (λ s g z e. e)
      (λ m1. alike_evaluates line _ _ _ _ (λ s g z e. e)
      (λ m2. alike_evaluates line _ _ _ _ (λ s g z e. e)
      (λ m3. alike_then _ _ _ _ (alike_sets line x m1) (Stays-evaluates line _ _)
      (alike_evaluates line _ _ _ _ (λ s g n e. e)
      (λ n. alike_repeated n _ _ (alike_turn line x m3 f f' h) (Stays-counts_step (sequential bits) None _))))))
