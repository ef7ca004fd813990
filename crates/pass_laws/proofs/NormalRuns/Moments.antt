-- Moments of the two runs that are beside each other, and writes in them.
use Rattle.std.proofs.Common.{◌≡◌, refl, sym, ap, ◌∙◌, subst, ◌⊎◌, inl, inr, ℕ, ◌≤◌, ℤ, pos, Bool, true, false, List}
use Rattle.std.proofs.Common.{[], ◌∷◌, ◌++◌, length, Some, Contains}
use Rattle.std.specs.Prelude.{not}
use Rattle.tree.specs.Operators.{fits}
use Rattle.tree.specs.declared.ops.Value.TheVariants.{Int}
use Rattle.meaning.specs.Store.{Store, Cell, put}
use Rattle.meaning.specs.Run.{State, Going}
use Rattle.meaning.proofs.Exchanges.{unread}
use Rattle.nest_order.specs.runs.Guarded.{variable_cell}
use Rattle.nest_order.proofs.runs.Results.{true_false}
use Rattle.nest_order.proofs.runs.Variables.{put_there}
use Rattle.nest.specs.Plain.{Nest}
use Rattle.last_values.specs.normal_forms.NormalLoops.{counters_of, variables_of}
use Rattle.last_values.specs.declared.normal_forms.loops.NormalLoop.{NormalLoop}
use Rattle.pass_laws.specs.normal_values.Beside.{IsBeside}
use Rattle.pass_laws.specs.normal_values.Laws.{GoOnBeside}
use Rattle.pass_laws.proofs.ReadyNests.LoopForms.{HaveZeros}
use Rattle.nest.specs.statement_loops.Names.{is_among}
use Rattle.pass_laws.specs.normal_runs.Sources.{IsNormalSource, apart_within, counters_in, ends_behind, variables_in}
use Rattle.pass_laws.specs.normal_runs.Laws.{KeepsBounds}
use Rattle.pass_laws.proofs.NormalRuns.Held.{among_is, none_among}
use Rattle.pass_laws.proofs.NormalRuns.Stores.{number_there, put_left, put_right, sized_put, entered}
use Rattle.pass_laws.proofs.NormalRuns.Names.{no_variable, variable_no_symbol, counter_no_symbol, behind_variable}

unfoldable pub has_none : List ℤ → Bool
has_none [] = true
has_none (z ∷ zs) = false

-- a write to a scalar keeps the cells with subscripts
scalar_only : (x : List ℕ) (z : ℤ) (s : Store) (c : Cell) → has_none c.subscripts ≡ false → (put (variable_cell x) (Int z) s).held c ≡ s.held c
unfolding has_none
scalar_only x z s c h = sym (unread (variable_cell x) c (Int z) s (λ e. true_false (ap (λ (d : Cell). has_none d.subscripts) e ∙ h)))

elsewhere : (x : List ℕ) (z : ℤ) (s : Store) (c : Cell) → (x ≡ c.name → ⊥) → (put (variable_cell x) (Int z) s).held c ≡ s.held c
elsewhere x z s c h = sym (unread (variable_cell x) c (Int z) s (λ e. h (ap (λ (d : Cell). d.name) e)))

module _ (bits : ℕ) (high : bits ≤ 63) (n : Nest) (source : IsNormalSource n) (values : ℕ → ℤ) (start : Store) where
  -- what the other run leaves as it was
  abbrev pub IsKept : List ℕ → Type 0
  IsKept x = (ends_behind n x ≡ true) ⊎ Contains n.symbols x

  pub record Goes (apart : List ℕ → Bool) (round : List NormalLoop) (is : List ℕ) (s t : State) : Type 0 where
    pub way : s.way ≡ Going
    pub way_beside : t.way ≡ Going
    pub stores : IsBeside n.symbols values apart round is s.store t.store
    pub keeps : (c : Cell) → IsKept c.name → t.store.held c ≡ start.held c
    pub bounds : KeepsBounds start t.store
    pub elements : (c : Cell) → has_none c.subscripts ≡ false → apart_within n [] c.name ≡ false → s.store.held c ≡ t.store.held c

  pub as_beside : (apart : List ℕ → Bool) (round : List NormalLoop) (is : List ℕ) (s t : State) → Goes apart round is s t → GoOnBeside n.symbols values apart round is s t
  as_beside apart round is s t g = record { way = g.way; way_beside = g.way_beside; stores = g.stores }

  -- the same stores
  pub moved_on : (apart : List ℕ → Bool) (round : List NormalLoop) (is : List ℕ) (s t p q : State) → p.way ≡ Going → p.store ≡ s.store → q.way ≡ Going → q.store ≡ t.store → Goes apart round is s t → Goes apart round is p q
  moved_on apart round is s t p q v e w f g = record {
    way = v;
    way_beside = w;
    stores = subst (λ z. IsBeside n.symbols values apart round is z q.store) (sym e) (subst (IsBeside n.symbols values apart round is s.store) (sym f) g.stores);
    keeps = λ c k. ap (λ (z : Store). z.held c) f ∙ g.keeps c k;
    bounds = λ x. ap (λ (z : Store). z.bounds x) f ∙ g.bounds x;
    elements = λ c k a. ap (λ (z : Store). z.held c) e ∙ (g.elements c k a ∙ sym (ap (λ (z : Store). z.held c) f));
  }

  pub other_stores : (apart more : List ℕ → Bool) (round rs : List NormalLoop) (is js : List ℕ) (s t : State) → Goes apart round is s t → IsBeside n.symbols values more rs js s.store t.store → Goes more rs js s t
  other_stores apart more round rs is js s t g h = record { way = g.way; way_beside = g.way_beside; stores = h; keeps = g.keeps; bounds = g.bounds; elements = g.elements }

  -- ---- writes of scalars

  pub put_source : (apart : List ℕ → Bool) (round : List NormalLoop) (is : List ℕ) (s t p : State) (x : List ℕ) (z : ℤ) → p.way ≡ Going → p.store ≡ put (variable_cell x) (Int z) s.store
      → apart x ≡ true → (Contains (variables_of round) x → ⊥) → Contains (variables_in n) x → fits bits z ≡ true → Goes apart round is s t → Goes apart round is p t
  put_source apart round is s t p x z w e own free inside fit g = record {
    way = w;
    way_beside = g.way_beside;
    stores = subst (λ u. IsBeside n.symbols values apart round is u t.store) (sym e)
        (put_left n.symbols values apart round is s.store t.store (variable_cell x) (Int z) own free (variable_no_symbol n source x inside) (sized_put bits (variable_cell x) z s.store high fit g.stores.sized) g.stores);
    keeps = g.keeps;
    bounds = g.bounds;
    elements = λ c k a. ap (λ (u : Store). u.held c) e ∙ (scalar_only x z s.store c k ∙ g.elements c k a);
  }

  pub put_beside : (apart : List ℕ → Bool) (round : List NormalLoop) (is : List ℕ) (s t q : State) (x : List ℕ) (z : ℤ) → q.way ≡ Going → q.store ≡ put (variable_cell x) (Int z) t.store
      → apart x ≡ true → (Contains (counters_of round) x → ⊥) → (IsKept x → ⊥) → fits bits z ≡ true → Goes apart round is s t → Goes apart round is s q
  put_beside apart round is s t q x z w e own free other fit g = record {
    way = g.way;
    way_beside = w;
    stores = subst (IsBeside n.symbols values apart round is s.store) (sym e)
        (put_right n.symbols values apart round is s.store t.store (variable_cell x) (Int z) own free (sized_put bits (variable_cell x) z t.store high fit g.stores.sized_beside) g.stores);
    keeps = λ c k. ap (λ (u : Store). u.held c) e ∙ (elsewhere x z t.store c (λ f. other (subst IsKept (sym f) k)) ∙ g.keeps c k);
    bounds = λ y. ap (λ (u : Store). u.bounds y) e ∙ g.bounds y;
    elements = λ c k a. g.elements c k a ∙ (sym (scalar_only x z t.store c k) ∙ sym (ap (λ (u : Store). u.held c) e));
  }

  pub counter_not_kept : (x : List ℕ) → Contains (counters_in n) x → IsKept x → ⊥
  counter_not_kept x c (inl e) = no_variable n source x c (behind_variable n x e)
  counter_not_kept x c (inr d) = counter_no_symbol n source x c d

  -- ---- a turn begins

  module _ (apart : List ℕ → Bool) (round : List NormalLoop) (r : NormalLoop) (is : List ℕ) (zeros : HaveZeros (length round) round) where
    pub record Opens : Type 0 where
      pub variable_apart : apart r.variable ≡ true
      pub counter_apart : apart r.counter ≡ true
      pub variable : Contains (variables_of round) r.variable → ⊥
      pub counter : Contains (counters_of round) r.counter → ⊥
      pub variable_in : Contains (variables_in n) r.variable
      pub counter_in : Contains (counters_in n) r.counter

    pub opened : (i : ℕ) (z : ℤ) (s t p q : State) → Opens → Goes apart round is s t → s.store.bounds r.variable ≡ Some [] → t.store.bounds r.counter ≡ Some []
        → z ≡ number_there n.symbols values apart round r is i → fits bits z ≡ true → fits bits (pos i) ≡ true
        → p.way ≡ Going → p.store ≡ put (variable_cell r.variable) (Int z) s.store → q.way ≡ Going → q.store ≡ put (variable_cell r.counter) (Int (pos i)) t.store
        → Goes apart (round ++ r ∷ []) (is ++ i ∷ []) p q
    opened i z s t p q o g bare bare_counter same fit few w e v f =
        let a = put_source apart round is s t p r.variable z w e o.variable_apart o.variable o.variable_in fit g in
        let b = put_beside apart round is p t q r.counter (pos i) v f o.counter_apart o.counter (counter_not_kept r.counter o.counter_in) few a in
        other_stores apart apart round (round ++ r ∷ []) is (is ++ i ∷ []) p q b
        (entered n.symbols values apart round r is i p.store q.store zeros b.stores
        (ap (λ (u : Store). u.bounds r.variable) e ∙ bare)
        (ap (λ (u : Store). u.held (variable_cell r.variable)) e ∙ (put_there (variable_cell r.variable) (Int z) s.store ∙ ap Int same))
        (ap (λ (u : Store). u.bounds r.counter) f ∙ bare_counter)
        (ap (λ (u : Store). u.held (variable_cell r.counter)) f ∙ put_there (variable_cell r.counter) (Int (pos i)) t.store))

  -- ---- the symbols keep what they hold

  abbrev pub only_symbols : List ℕ → Bool
  only_symbols x = not (is_among n.symbols x)

  is_symbol : (x : List ℕ) → only_symbols x ≡ false → Contains n.symbols x
  is_symbol x h = among_is n.symbols x (by (is_among n.symbols x) h)
    where
      by : (b : Bool) → not b ≡ false → b ≡ true
      by true h = refl
      by false h = let no : ⊥ = cc in absurd no

  pub no_symbol : (x : List ℕ) → (Contains n.symbols x → ⊥) → only_symbols x ≡ true
  no_symbol x h = ap not (none_among n.symbols x h)

  -- the one store before a loop and the other one behind it
  pub across : (apart more : List ℕ → Bool) (round : List NormalLoop) (is : List ℕ) (s t p q : State) → ((x : List ℕ) → Contains n.symbols x → apart x ≡ false)
      → Goes apart round is s t → Goes more round is p q → IsBeside n.symbols values only_symbols round is s.store q.store
  across apart more round is s t p q common g h = record {
    bounds = λ x e. g.stores.bounds x (common x (is_symbol x e)) ∙ (g.bounds x ∙ sym (h.bounds x));
    held = λ c e. let k = is_symbol c.name e in g.stores.held c (common c.name k) ∙ (g.keeps c (inr k) ∙ sym (h.keeps c (inr k)));
    variables = g.stores.variables;
    counters = h.stores.counters;
    known = g.stores.known;
    sized = g.stores.sized;
    sized_beside = h.stores.sized_beside;
  }
