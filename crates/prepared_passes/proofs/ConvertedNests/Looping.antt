-- Loops beside each other whose variables and bounds are the same in both stores.
use Rattle.std.proofs.Common.{◌≡◌, refl, sym, ap, subst, ◌∙◌, ℕ, zero, suc, ℤ, ◌+ℤ◌, List, [], None, Result, Ok}
use Rattle.tree.specs.Operators.{as_number}
use Rattle.tree.specs.Steps.{◌>>=◌}
use Rattle.tree.specs.declared.ops.Fault.{Fault}
use Rattle.tree.specs.declared.ops.Value.{Value}
use Rattle.tree.specs.declared.ops.Value.TheVariants.{Int}
use Rattle.tree.specs.Plain.{Expression}
use Rattle.meaning.specs.Store.{Store, Cell, put, cell_at}
use Rattle.meaning.specs.Value.{exact, increment_of, number_of, trip_count}
use Rattle.meaning.specs.Run.{Act, repeated, evaluates, sets_variable, increases, turn, loops}
use Rattle.rewrite.specs.Following.{sequential}
use Rattle.rewrite.proofs.Acts.{Stays-counts_step, Stays-evaluates, Stays-repeated}
use Rattle.nest_steps.specs.Leading.{Led, Leads}
use Rattle.nest_steps.proofs.Acts.{Leads-checks_same, Leads-counts_step, Leads-evaluates, Leads-from, Leads-nothing, Leads-stores, Leads-then}

-- the same answer
pub Leads-asks : (before after : Store → Store → Type 0) {A : Type 0} (line : ℕ) (q : Store → Result A Fault) (k k' : A → Act)
    → ((s u : Store) → before s u → (x : A) → q s ≡ Ok x → q u ≡ Ok x) → ((x : A) → Leads before after (k x) (k' x)) → Leads before after (evaluates line q k) (evaluates line q k')
Leads-asks before after {A} line q k k' same h = Leads-evaluates before after (λ s u x y. x ≡ y) line line q q k k'
    (λ s u a x e. record { answer = x; answered = same s u a x e; related = refl })
    (λ x y. record { at = λ s u n i a e. subst (λ (z : A). Led after (k x s) (k' z (record s { store = u; steps = n }))) a.1 ((h x).at s u n i a.0 e) })

module _ (bits : ℕ) (like : Store → Store → Type 0) (x : List ℕ)
    (cell : (s u : Store) → like s u → (c : Cell) → cell_at x [] s ≡ Ok c → cell_at x [] u ≡ Ok c)
    (held : (s u : Store) → like s u → (c : Cell) → cell_at x [] s ≡ Ok c → s.held c ≡ u.held c)
    (placed : (s u : Store) → like s u → (c : Cell) → cell_at x [] s ≡ Ok c → (v : Value) → like (put c v s) (put c v u)) where
  -- with the cell of the variable
  abbrev With : Cell → Store → Store → Type 0
  With c s u = like s u × (cell_at x [] s ≡ Ok c)

  with_cell : (line : ℕ) (after : Store → Store → Type 0) (k k' : Cell → Act) → ((c : Cell) → Leads (With c) after (k c) (k' c)) → Leads like after (evaluates line (cell_at x []) k) (evaluates line (cell_at x []) k')
  with_cell line after k k' h = Leads-evaluates like after (λ s u c d. (cell_at x [] s ≡ Ok c) × (c ≡ d)) line line (cell_at x []) (cell_at x []) k k'
      (λ s u a c e. record { answer = c; answered = cell s u a c e; related = (e, refl) })
      (λ c d. record { at = λ s u n i a e. subst (λ (z : Cell). Led after (k c s) (k' z (record s { store = u; steps = n }))) a.1.1 ((h c).at s u n i (a.0, a.1.0) e) })

  sets_lead : (line : ℕ) (z : ℤ) → Leads like like (sets_variable (sequential bits) None line x z) (sets_variable (sequential bits) None line x z)
  sets_lead line z = with_cell line like _ _ (λ c. Leads-checks_same bits (With c) like line line (Int z) _ _ (λ f. Leads-stores (With c) like c c (Int z) (Int z) (λ s u a. placed s u a.0 c a.1 (Int z))))

  increases_lead : (line : ℕ) (d : ℤ) → Leads like like (increases (sequential bits) None line x d) (increases (sequential bits) None line x d)
  increases_lead line d = with_cell line like _ _ (λ c. Leads-asks (With c) like line (λ s. do z ← as_number (s.held c); exact (z +ℤ d)) _ _
      (λ s u a z e. ap (λ v. do y ← as_number v; exact (y +ℤ d)) (sym (held s u a.0 c a.1)) ∙ e)
      (λ z. Leads-from like (With c) like _ _ (λ s u a. a.0) (sets_lead line z)))

  turn_leads : (line : ℕ) (d : ℤ) (f f' : Act) → Leads like like f f' → Leads like like (turn (sequential bits) None line x d f) (turn (sequential bits) None line x d f')
  turn_leads line d f f' h = Leads-counts_step bits like like _ _ (Leads-then like like like f f' _ _ h (Stays-evaluates line _ _) (increases_lead line d))

  turns_lead : (line n : ℕ) (d : ℤ) (f f' : Act) → Leads like like f f' → Leads like like (repeated n (turn (sequential bits) None line x d f)) (repeated n (turn (sequential bits) None line x d f'))
  turns_lead line zero d f f' h = Leads-nothing like
  turns_lead line (suc n) d f f' h =
      Leads-then like like like _ _ _ _ (turn_leads line d f f' h) (Stays-repeated n _ (Stays-counts_step (sequential bits) None _)) (turns_lead line n d f f' h)

  pub loops_lead : (line : ℕ) (a b c : Expression) (f f' : Act)
      → ((s u : Store) → like s u → (z : ℤ) → number_of (sequential bits) a s ≡ Ok z → number_of (sequential bits) a u ≡ Ok z)
      → ((s u : Store) → like s u → (z : ℤ) → number_of (sequential bits) b s ≡ Ok z → number_of (sequential bits) b u ≡ Ok z)
      → ((s u : Store) → like s u → (z : ℤ) → increment_of (sequential bits) c s ≡ Ok z → increment_of (sequential bits) c u ≡ Ok z)
      → Leads like like f f' → Leads like like (loops (sequential bits) None line x a b c f) (loops (sequential bits) None line x a b c f')
  loops_lead line a b c f f' first last step h =
      Leads-asks like like line (number_of (sequential bits) a) _ _ first (λ m1.
      Leads-asks like like line (number_of (sequential bits) b) _ _ last (λ m2.
      Leads-asks like like line (increment_of (sequential bits) c) _ _ step (λ m3.
      Leads-then like like like _ _ _ _ (sets_lead line m1) (Stays-evaluates line _ _)
      (Leads-asks like like line (λ s. trip_count m1 m2 m3) _ _ (λ s u a n e. e) (λ n. turns_lead line n m3 f f' h)))))
