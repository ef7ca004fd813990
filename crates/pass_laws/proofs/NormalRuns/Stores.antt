-- Stores that are beside each other, before and behind a turn of a loop.
use Rattle.std.proofs.Common.{◌≡◌, refl, sym, ap, ◌∙◌, subst, ℕ, suc, ◌≤◌, ◌^◌, ℤ, pos, Bool, true, false, List, []}
use Rattle.std.proofs.Common.{◌∷◌, ◌++◌, map, length, Some, Contains, cond}
use Rattle.std.specs.Prelude.{nat_abs}
use Rattle.std.proofs.lemmas.List.{map-append}
use Rattle.tree.specs.Operators.{fits}
use Rattle.tree.specs.declared.ops.Value.{Value}
use Rattle.tree.specs.declared.ops.Value.TheVariants.{Int}
use Rattle.meaning.specs.Store.{Store, Cell, put, same_cell}
use Rattle.linear_forms.specs.Laws.{HoldsSized}
use Rattle.linear_forms.specs.Linear.{HaveValues}
use Rattle.nest_order.specs.runs.Guarded.{variable_cell}
use Rattle.nest_order.proofs.runs.Results.{true_false}
use Rattle.last_values.specs.normal_forms.NormalLoops.{counters_of, variables_of}
use Rattle.last_values.specs.normal_forms.Numbers.{number_of_form, values_from}
use Rattle.last_values.specs.declared.normal_forms.loops.NormalLoop.{NormalLoop}
use Rattle.pass_laws.specs.normal_values.Beside.{IsBeside, iteration_at, numbers_round}
use Rattle.pass_laws.proofs.ReadyNests.LoopForms.{HaveZeros}
use Rattle.pass_laws.proofs.NormalRuns.Held.{kept, values_kept, values_more, Front, values_front, as_many}
use Rattle.pass_laws.proofs.NormalRuns.Numbers.{numbers_more, sized_number}

-- ---- sizes

pub sized_put : (bits : ℕ) (c : Cell) (z : ℤ) (s : Store) → bits ≤ 63 → fits bits z ≡ true → HoldsSized s → HoldsSized (put c (Int z) s)
sized_put bits c z s few fit h d y e = by (same_cell c d) e
  where
    by : (b : Bool) → cond b (Int z) (s.held d) ≡ Int y → nat_abs y ≤ 2 ^ 63
    by true e = let same : z ≡ y = cc in subst (λ y. nat_abs y ≤ 2 ^ 63) same (sized_number bits z few fit)
    by false e = h d y e

pub counters_many : (round : List NormalLoop) → length (counters_of round) ≡ length round
counters_many [] = refl
counters_many (r ∷ round) = ap suc (counters_many round)

iterations_many : (is : List ℕ) → length (map pos is) ≡ length is
iterations_many [] = refl
iterations_many (i ∷ is) = ap suc (iterations_many is)

module _ (symbols : List (List ℕ)) (values : ℕ → ℤ) where
  abbrev pub Beside : (List ℕ → Bool) → List NormalLoop → List ℕ → Store → Store → Type 0
  Beside = IsBeside symbols values

  pub many : (apart : List ℕ → Bool) (round : List NormalLoop) (is : List ℕ) (s t : Store) → Beside apart round is s t → length round ≡ length is
  many apart round is s t h = sym (counters_many round) ∙ (as_many (counters_of round) (map pos is) t h.counters ∙ iterations_many is)

  -- with less in common
  pub weaker : (apart more : List ℕ → Bool) (round : List NormalLoop) (is : List ℕ) (s t : Store) → ((x : List ℕ) → more x ≡ false → apart x ≡ false) → Beside apart round is s t → Beside more round is s t
  weaker apart more round is s t less h = record {
    bounds = λ x e. h.bounds x (less x e);
    held = λ c e. h.held c (less c.name e);
    variables = h.variables;
    counters = h.counters;
    known = h.known;
    sized = h.sized;
    sized_beside = h.sized_beside;
  }

  -- with more in common
  pub stronger : (apart less : List ℕ → Bool) (round : List NormalLoop) (is : List ℕ) (s t : Store) → ((x : List ℕ) → less x ≡ false → (apart x ≡ true) → s.bounds x ≡ t.bounds x)
      → ((c : Cell) → less c.name ≡ false → apart c.name ≡ true → s.held c ≡ t.held c) → Beside apart round is s t → Beside less round is s t
  stronger apart less round is s t bounds held h = record {
    bounds = λ x e. by_bounds x e (apart x) refl;
    held = λ c e. by_held c e (apart c.name) refl;
    variables = h.variables;
    counters = h.counters;
    known = h.known;
    sized = h.sized;
    sized_beside = h.sized_beside;
  }
    where
      by_bounds : (x : List ℕ) → less x ≡ false → (b : Bool) → apart x ≡ b → s.bounds x ≡ t.bounds x
      by_bounds x e true f = bounds x e f
      by_bounds x e false f = h.bounds x f

      by_held : (c : Cell) → less c.name ≡ false → (b : Bool) → apart c.name ≡ b → s.held c ≡ t.held c
      by_held c e true f = held c e f
      by_held c e false f = h.held c f

  -- a write in the one
  pub put_left : (apart : List ℕ → Bool) (round : List NormalLoop) (is : List ℕ) (s t : Store) (c : Cell) (v : Value) → apart c.name ≡ true → (Contains (variables_of round) c.name → ⊥) → (Contains symbols c.name → ⊥)
      → HoldsSized (put c v s) → Beside apart round is s t → Beside apart round is (put c v s) t
  put_left apart round is s t c v own free other sized h = record {
    bounds = h.bounds;
    held = λ d e. kept c d v s (λ f. true_false (sym own ∙ (ap apart f ∙ e))) ∙ h.held d e;
    variables = values_kept (variables_of round) (numbers_round symbols values round is) c v s free h.variables;
    counters = h.counters;
    known = values_kept symbols (values_from (length symbols) 0 values) c v s other h.known;
    sized = sized;
    sized_beside = h.sized_beside;
  }

  -- and in the other one
  pub put_right : (apart : List ℕ → Bool) (round : List NormalLoop) (is : List ℕ) (s t : Store) (c : Cell) (v : Value) → apart c.name ≡ true → (Contains (counters_of round) c.name → ⊥)
      → HoldsSized (put c v t) → Beside apart round is s t → Beside apart round is s (put c v t)
  put_right apart round is s t c v own free sized h = record {
    bounds = h.bounds;
    held = λ d e. h.held d e ∙ sym (kept c d v t (λ f. true_false (sym own ∙ (ap apart f ∙ e))));
    variables = h.variables;
    counters = values_kept (counters_of round) (map pos is) c v t free h.counters;
    known = h.known;
    sized = h.sized;
    sized_beside = sized;
  }

  module _ (apart : List ℕ → Bool) (round : List NormalLoop) (r : NormalLoop) (is : List ℕ) (i : ℕ) where
    abbrev pub number_there : ℤ
    number_there = number_of_form (length symbols) (iteration_at (is ++ i ∷ [])) values r.value

    variables_are : variables_of (round ++ r ∷ []) ≡ variables_of round ++ r.variable ∷ []
    variables_are = map-append (λ (q : NormalLoop). q.variable) round (r ∷ [])

    counters_are : counters_of (round ++ r ∷ []) ≡ counters_of round ++ r.counter ∷ []
    counters_are = map-append (λ (q : NormalLoop). q.counter) round (r ∷ [])

    iterations_are : map pos (is ++ i ∷ []) ≡ map pos is ++ pos i ∷ []
    iterations_are = map-append pos is (i ∷ [])

    -- the variable and the counter hold their numbers
    pub entered : (s t : Store) → HaveZeros (length round) round → Beside apart round is s t → s.bounds r.variable ≡ Some [] → s.held (variable_cell r.variable) ≡ Int number_there
        → t.bounds r.counter ≡ Some [] → t.held (variable_cell r.counter) ≡ Int (pos i) → Beside apart (round ++ r ∷ []) (is ++ i ∷ []) s t
    entered s t zeros h bare value bare_counter count = record {
      bounds = h.bounds;
      held = h.held;
      variables = subst (λ ys. HaveValues ys s (numbers_round symbols values (round ++ r ∷ []) (is ++ i ∷ []))) (sym variables_are)
          (subst (HaveValues (variables_of round ++ r.variable ∷ []) s) (sym (numbers_more (length symbols) values round r is i zeros (many apart round is s t h)))
          (values_more (variables_of round) (numbers_round symbols values round is) r.variable number_there s h.variables bare value));
      counters = subst (λ ys. HaveValues ys t (map pos (is ++ i ∷ []))) (sym counters_are)
          (subst (HaveValues (counters_of round ++ r.counter ∷ []) t) (sym iterations_are) (values_more (counters_of round) (map pos is) r.counter (pos i) t h.counters bare_counter count));
      known = h.known;
      sized = h.sized;
      sized_beside = h.sized_beside;
    }

    pub record Left (s t : Store) : Type 0 where
      pub stores : Beside apart round is s t
      pub bare : s.bounds r.variable ≡ Some []
      pub value : s.held (variable_cell r.variable) ≡ Int number_there
      pub bare_counter : t.bounds r.counter ≡ Some []
      pub count : t.held (variable_cell r.counter) ≡ Int (pos i)

    pub left : (s t : Store) → HaveZeros (length round) round → length round ≡ length is → Beside apart (round ++ r ∷ []) (is ++ i ∷ []) s t → Left s t
    left s t zeros long h =
        let v : Front (variables_of round) (numbers_round symbols values round is) r.variable number_there s
        = values_front (variables_of round) (numbers_round symbols values round is) r.variable number_there s
        (subst (HaveValues (variables_of round ++ r.variable ∷ []) s) (numbers_more (length symbols) values round r is i zeros long)
        (subst (λ ys. HaveValues ys s (numbers_round symbols values (round ++ r ∷ []) (is ++ i ∷ []))) variables_are h.variables)) in
        let w : Front (counters_of round) (map pos is) r.counter (pos i) t
        = values_front (counters_of round) (map pos is) r.counter (pos i) t
        (subst (HaveValues (counters_of round ++ r.counter ∷ []) t) iterations_are (subst (λ ys. HaveValues ys t (map pos (is ++ i ∷ []))) counters_are h.counters)) in
        record {
          stores = record {
            bounds = h.bounds;
            held = h.held;
            variables = v.front;
            counters = w.front;
            known = h.known;
            sized = h.sized;
            sized_beside = h.sized_beside;
          };
          bare = v.bare;
          value = v.value;
          bare_counter = w.bare;
          count = w.value;
        }
