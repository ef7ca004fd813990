-- What an assignment that met no fault has done.
use Rattle.std.proofs.Common.{◌≡◌, refl, sym, ap, ◌∙◌, subst, ℕ, ◌+◌, true, Ok, Some, None, Option}
use Rattle.tree.specs.declared.ops.Value.{Value}
use Rattle.tree.specs.declared.stmts.Mark.{Mark}
use Rattle.tree.specs.Plain.{Expression, Reference, Assignment, no_statements, statement}
use Rattle.meaning.specs.Dialect.{Dialect}
use Rattle.meaning.specs.Store.{Store, Cell, put}
use Rattle.meaning.specs.Value.{value_of, truth_of, cell_named, is_in_range}
use Rattle.meaning.specs.Run.{State, Going, nothing, does, while_going, evaluates, counts_step, stores, checks_range}
use Rattle.rewrite.specs.Following.{IsSound, sequential}
use Rattle.nest.specs.Blocks.{guarded_statement}
use Rattle.nest.specs.Plain.{Guarded}
use Rattle.nest_steps.specs.Leading.{Led, Leads}
use Rattle.nest_steps.proofs.Acts.{Lands, Leads-assignment, Leads-chooses, Goes}

module _ (bits : ℕ) where
  abbrev lang : Dialect
  lang = sequential bits

  abbrev pub moved : State → ℕ → Store → State
  moved s k t = record s { store = t; steps = k; way = Going }

  pub assigns_at : (line : ℕ) (m : Option Mark) (r : Reference) (e : Expression) (s : State) (c : Cell) (v : Value) → s.way ≡ Going
      → value_of lang e s.store ≡ Ok v → cell_named lang r s.store ≡ Ok c → is_in_range bits v ≡ true
      → does lang None (Assignment line m r e) s ≡ moved s (s.steps + 1 + 1) (put c v s.store)
  unfolding while_going evaluates counts_step stores checks_range
  assigns_at line m r e s c v w f g h = rw (w, f, g, h) refl

  pub record Assigned (r : Reference) (e : Expression) (s t : Store) : Type 0 where
    pub value : Value
    pub value_is : value_of lang e s ≡ Ok value
    pub cell : Cell
    pub cell_is : cell_named lang r s ≡ Ok cell
    pub range : is_in_range bits value ≡ true
    pub store : t ≡ put cell value s

  -- where it met no fault
  module _ (r : Reference) (e : Expression) (here : Store) where
    abbrev Here : Store → Store → Type 0
    Here p u = (p ≡ here) × (u ≡ here)

    abbrev Done : Store → Store → Type 0
    Done p u = Assigned r e here p

    lands : (p u : Store) → Here p u → (v : Value) → value_of lang e p ≡ Ok v → (c : Cell) → cell_named lang r p ≡ Ok c → Lands bits Done p u r c v
    lands p u h v f c g = record {
      cell = c;
      named = subst (λ (q : Store). cell_named lang r q ≡ Ok c) (h.0 ∙ sym h.1) g;
      put = λ range. record {
        value = v;
        value_is = subst (λ (q : Store). value_of lang e q ≡ Ok v) h.0 f;
        cell = c;
        cell_is = subst (λ (q : Store). cell_named lang r q ≡ Ok c) h.0 g;
        range = range;
        store = ap (put c v) h.0;
      };
    }

    leads : (line : ℕ) (m : Option Mark) → Leads Here Done (does lang None (Assignment line m r e)) (does lang None (Assignment line m r e))
    leads line m = Leads-assignment bits Here Done line line m m r r e e (λ p u h v f. subst (λ (q : Store). value_of lang e q ≡ Ok v) (h.0 ∙ sym h.1) f) lands

  pub assigned_well : (line : ℕ) (m : Option Mark) (r : Reference) (e : Expression) (s : State) → s.way ≡ Going → IsSound (does lang None (Assignment line m r e) s).way
      → Assigned r e s.store (does lang None (Assignment line m r e) s).store
  assigned_well line m r e s w sound = ((leads r e s.store line m).at s s.store s.steps w (refl, refl) sound).stores

  -- ---- one run alone

  pub Leads-first_assignment : (before after : Store → Store → Type 0) (line : ℕ) (m : Option Mark) (r : Reference) (e : Expression)
      → ((s u : Store) → before s u → (v : Value) → value_of lang e s ≡ Ok v → (c : Cell) → cell_named lang r s ≡ Ok c → is_in_range bits v ≡ true → after (put c v s) u)
      → Leads before after (does lang None (Assignment line m r e)) nothing
  Leads-first_assignment before after line m r e h = record {
    at = λ s u n w a sound.
        let done = assigned_well line m r e s w sound in
        let is = assigns_at line m r e s done.cell done.value w done.value_is done.cell_is done.range in
        let there : moved s (s.steps + 1 + 1) (put done.cell done.value s.store) ≡ does lang None (Assignment line m r e) s = sym is in
        subst (λ (t : State). Led after t (record s { store = u; steps = n })) there (record {
          stores = h s.store u a done.value done.value_is done.cell done.cell_is done.range;
          rest = ap (λ y. record s { store = u; steps = n; way = y }) w;
          going = refl;
        });
  }

  pub second_assignment : (before after : Store → Store → Type 0) (line : ℕ) (m : Option Mark) (r : Reference) (e : Expression)
      → ((s u : Store) → before s u → (v : Value) × (c : Cell) × (value_of lang e u ≡ Ok v) × (cell_named lang r u ≡ Ok c) × (is_in_range bits v ≡ true) × after s (put c v u))
      → Goes before after (does lang None (Assignment line m r e))
  second_assignment before after line m r e h = record {
    at = λ s u n w a.
        let k = h s.store u a in
        let is = assigns_at line m r e (record s { store = u; steps = n }) k.1 k.0 w k.2 k.3 k.4 in
        subst (λ (t : State). Led after s t) (sym is) (record { stores = k.5; rest = ap (λ y. record s { store = put k.1 k.0 u; steps = n + 1 + 1; way = y }) (sym w); going = w });
  }

  -- ---- a guarded statement that meets no fault goes on

  abbrev Same : Store → Store → Type 0
  Same p u = p ≡ u

  abbrev Any : Store → Store → Type 0
  Any p u = Unit {0}

  one : (line : ℕ) (r : Reference) (e : Expression) → Leads Same Any (does lang None (Assignment line None r e)) (does lang None (Assignment line None r e))
  one line r e = Leads-assignment bits Same Any line line None None r r e e
      (λ p u h v f. subst (λ (q : Store). value_of lang e q ≡ Ok v) h f)
      (λ p u h v f c k. record { cell = c; named = subst (λ (q : Store). cell_named lang r q ≡ Ok c) h k; put = λ range. tt })

  pub guarded_goes_on : (g : Guarded) (s : State) → s.way ≡ Going → IsSound (does lang None (guarded_statement g) s).way → (does lang None (guarded_statement g) s).way ≡ Going
  guarded_goes_on g s w sound = ((by g.guard).at s s.store s.steps w refl sound).going
    where
      by : (o : Option Expression) → Leads Same Any (does lang None (guarded_statement (record g { guard = o }))) (does lang None (guarded_statement (record g { guard = o })))
      by None = one g.line g.left g.right
      by (Some t) = Leads-chooses bits Same Any g.line g.line t t (statement (Assignment g.line None g.left g.right) no_statements) (statement (Assignment g.line None g.left g.right) no_statements) (λ p u h x f. subst (λ (q : Store). truth_of lang t q ≡ Ok x) h f)
          (record { at = λ s u n i a e. (one g.line g.left g.right).at s u n i a.0 e }) (λ p u h f. tt)
