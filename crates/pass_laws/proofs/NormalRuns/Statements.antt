-- A statement of a nest beside its normal form.
use Rattle.std.proofs.Common.{◌≡◌, refl, sym, ap, ◌∙◌, subst, ◌⊎◌, inl, inr, ℕ, ◌≤◌, ℤ, Bool, true, false, ◌||◌, List}
use Rattle.std.proofs.Common.{[], ◌∷◌, ◌++◌, map, None, Contains, option_map}
use Rattle.std.proofs.lemmas.Bool.{or_parts}
use Rattle.std.proofs.lemmas.List.Elements.{All-contains, Contains-append_left, Contains-append_right}
use Rattle.std.specs.Str.{bytes_eq}
use Rattle.std.proofs.lemmas.Slice.Eq.{bytes_eq-Decides}
use Rattle.meaning_laws.proofs.arrays.Members.{here, there}
use Rattle.tree.specs.declared.ops.Value.{Value}
use Rattle.meaning.specs.Reads.{names_in, names_in_subscripts}
use Rattle.meaning.specs.Store.{Store, Cell, put, cell_at}
use Rattle.meaning.specs.Value.{subscript_values}
use Rattle.meaning.specs.Run.{State, Going, does}
use Rattle.rewrite.specs.Following.{sequential}
use Rattle.last_values.specs.Occurrences.{stands_in, stands_in_guard, stands_in_left, stands_in_statement}
use Rattle.last_values.specs.declared.behind.NestedLoop.{NestedLoop}
use Rattle.normal_loops.specs.Values.{normal_statement, statement_with_values, with_value, in_text}
use Rattle.nest_rewrite.specs.Statements.{rewritten_statement}
use Rattle.nest_order.proofs.runs.Ending.{Assigned, assigned}
use Rattle.nest_order.proofs.runs.Results.{both_ok, true_false}
use Rattle.nest_order.proofs.runs.Variables.{cell_name}
use Rattle.nest.specs.Blocks.{assignment_of, guarded_statement, under_guard}
use Rattle.nest.specs.Bodies.{Standing}
use Rattle.nest.specs.Plain.{Guarded, Loop, Nest}
use Rattle.last_values.specs.normal_forms.NormalLoops.{variables_of}
use Rattle.last_values.specs.declared.normal_forms.loops.NormalLoop.{NormalLoop}
use Rattle.pass_laws.specs.normal_values.Beside.{NamesSuit, SuitsStatement}
use Rattle.pass_laws.specs.normal_values.Laws.{GoOnBeside, StatementBeside}
use Rattle.nest.specs.statement_loops.Names.{is_among}
use Rattle.rewrite.specs.Making.{made}
use Rattle.pass_laws.specs.normal_runs.Sources.{IsNormalSource, IsStraightStatement, IsSuitedStatement, apart_within, counters_in}
use Rattle.pass_laws.specs.normal_runs.Sources.{ends_behind, names_of_statement}
use Rattle.pass_laws.proofs.NormalRuns.Held.{kept, not_among, among_is}
use Rattle.pass_laws.proofs.NormalRuns.Moments.{Goes, IsKept, as_beside, has_none}
use Rattle.pass_laws.proofs.NormalRuns.Names.{Around, are_apart, apart_cases, is_common, not_apart}

-- ---- what an assignment writes

pub record Wrote (x : List ℕ) (s t : State) : Type 0 where
  pub cell : Cell
  pub value : Value
  pub from : s.way ≡ Going
  pub named : cell.name ≡ x
  pub store : t.store ≡ put cell value s.store

pub wrote : (bits : ℕ) (g : Guarded) (s : State) → g.guard ≡ None → (does (sequential bits) None (guarded_statement g) s).way ≡ Going → Wrote g.left.name s (does (sequential bits) None (guarded_statement g) s)
wrote bits g s e w =
    let same : guarded_statement g ≡ assignment_of g = ap (λ o. under_guard g.line o (assignment_of g)) e in
    let a : Assigned bits g.left g.right s (does (sequential bits) None (assignment_of g) s) = assigned bits g.line None g.left g.right s (subst (λ c. (does (sequential bits) None c s).way ≡ Going) same w) in
    let p = both_ok (subscript_values (sequential bits) g.left.subscripts s.store) (λ is. cell_at g.left.name is s.store) a.cell a.place in
    record {
      cell = a.cell;
      value = a.value;
      from = a.from;
      named = (cell_name (s.store.bounds g.left.name) g.left.name p.0 a.cell p.2).0;
      store = ap (λ c. (does (sequential bits) None c s).store) same ∙ a.store;
    }

-- ---- the normal form stores in the same name

with_values_left : (symbols : List (List ℕ)) (outer rs : List NormalLoop) (g : Guarded) → (statement_with_values symbols outer rs g).left.name ≡ g.left.name
with_values_left symbols outer [] g = refl
with_values_left symbols outer (r ∷ rs) g = with_values_left symbols (outer ++ r ∷ []) rs (rewritten_statement (with_value symbols outer r) g)

with_values_guard : (symbols : List (List ℕ)) (outer rs : List NormalLoop) (g : Guarded) → g.guard ≡ None → (statement_with_values symbols outer rs g).guard ≡ None
with_values_guard symbols outer [] g h = h
with_values_guard symbols outer (r ∷ rs) g h =
    with_values_guard symbols (outer ++ r ∷ []) rs (rewritten_statement (with_value symbols outer r) g) (ap (option_map (made (with_value symbols outer r))) h)

normal_left : (symbols : List (List ℕ)) (round : List NormalLoop) (g : Guarded) → (normal_statement symbols round g).left.name ≡ g.left.name
unfolding normal_statement
normal_left symbols round g = with_values_left symbols [] round g

normal_guard : (symbols : List (List ℕ)) (round : List NormalLoop) (g : Guarded) → g.guard ≡ None → (normal_statement symbols round g).guard ≡ None
unfolding normal_statement
normal_guard symbols round g h = ap (option_map (made (in_text symbols round))) (with_values_guard symbols [] round g h)

-- ---- names that stand in it

module _ (n : Nest) where
  -- a variable whose last value stands behind all loops doesn't stand outside these loops
  abbrev pub IsOutside : List NormalLoop → (List ℕ → Bool) → Type 0
  IsOutside round stands = (x : List ℕ) → ends_behind n x ≡ true → (Contains (variables_of round) x → ⊥) → stands x ≡ false

  among_variables : (round : List NormalLoop) (x : List ℕ) → ((Contains (variables_of round) x → ⊥) → ⊥) → Contains (variables_of round) x
  among_variables round x h = by (is_among (variables_of round) x) refl
    where
      by : (b : Bool) → is_among (variables_of round) x ≡ b → Contains (variables_of round) x
      by true e = among_is (variables_of round) x e
      by false e = absurd (h (not_among (variables_of round) x e))

  names_suit : (round : List NormalLoop) (xs : List (List ℕ)) → ((x : List ℕ) → Contains xs x → Contains (counters_in n) x → ⊥) → IsOutside round (is_among xs) → NamesSuit (apart_within n round) round xs
  names_suit round xs counters outside x c a = by (apart_cases n round x a)
    where
      by : Contains (counters_in n) x ⊎ ((ends_behind n x ≡ true) ⊎ Contains (variables_of round) x) → Contains (variables_of round) x
      by (inl k) = absurd (counters x c k)
      by (inr (inl e)) = among_variables round x (λ free. not_among xs x (outside x e free) c)
      by (inr (inr k)) = k

-- each variable of the loops round it from 1 by 1 is one of these loops of the source
abbrev pub IsTied : List NormalLoop → List Loop → Type 0
IsTied round ls = (x : List ℕ) → Contains (variables_of round) x → Contains (map (λ (l : Loop). l.variable) ls) x

module _ (statement_beside : StatementBeside) (bits : ℕ) (low : 31 ≤ bits) (high : bits ≤ 63) (n : Nest) (source : IsNormalSource n) (values : ℕ → ℤ) (start : Store) where
  module _ (round : List NormalLoop) (is : List ℕ) (ss : List Standing) (ls : List NestedLoop) (around : Around n source round ss ls) (ms : List Loop) (g : Guarded)
      (straight : IsStraightStatement g) (suited : IsSuitedStatement n (record { loops = ms; statement = g })) (outside : IsOutside n round (λ x. stands_in_statement x g))
      (tie : IsTied round ms) where
    abbrev A : List ℕ → Bool
    A = apart_within n round

    no_round : Contains (variables_of round) g.left.name → ⊥
    no_round c = not_among (map (λ (l : Loop). l.variable) ms) g.left.name suited.variables (tie g.left.name c)

    -- the name stands in the statement
    no_behind : ends_behind n g.left.name ≡ false
    no_behind = by (ends_behind n g.left.name) refl
      where
        by : (b : Bool) → ends_behind n g.left.name ≡ b → b ≡ false
        by false e = refl
        by true e =
            let p = or_parts (stands_in_guard g.left.name g.guard) (stands_in_left g.left.name g.left || stands_in g.left.name g.right) (outside g.left.name e no_round) in
            let q = or_parts (stands_in_left g.left.name g.left) (stands_in g.left.name g.right) p.1 in
            let name = (or_parts (bytes_eq g.left.name g.left.name) (is_among (names_in_subscripts g.left.subscripts) g.left.name) q.0).0 in
            absurd (true_false (sym ((bytes_eq-Decides g.left.name g.left.name).1 refl) ∙ name))

    no_symbol : Contains n.symbols g.left.name → ⊥
    no_symbol = not_among n.symbols g.left.name suited.symbols

    no_counter : (x : List ℕ) → Contains (names_of_statement g) x → Contains (counters_in n) x → ⊥
    no_counter x c = not_among (counters_in n) x (All-contains (λ x. is_among (counters_in n) x ≡ false) (names_of_statement g) x suited.counters c)

    parts_outside : (x : List ℕ) → ends_behind n x ≡ true → (Contains (variables_of round) x → ⊥) → (is_among (names_in_subscripts g.left.subscripts) x ≡ false) × (is_among (names_in g.right) x ≡ false)
    parts_outside x e free =
        let p = or_parts (stands_in_guard x g.guard) (stands_in_left x g.left || stands_in x g.right) (outside x e free) in
        let q = or_parts (stands_in_left x g.left) (stands_in x g.right) p.1 in
        ((or_parts (bytes_eq g.left.name x) (is_among (names_in_subscripts g.left.subscripts) x) q.0).1, q.1)

    suits : SuitsStatement n.symbols A round g
    suits = record {
      unguarded = straight.unguarded;
      plain_left = straight.left;
      plain_right = straight.right;
      left = is_common n round g.left.name (record {
        counter = no_counter g.left.name (here g.left.name (names_in_subscripts g.left.subscripts ++ names_in g.right));
        behind = no_behind;
        variable = no_round;
      });
      kept = no_symbol;
      subscripts = names_suit n round (names_in_subscripts g.left.subscripts)
          (λ x c. no_counter x (there g.left.name (names_in_subscripts g.left.subscripts ++ names_in g.right) x (Contains-append_left (names_in_subscripts g.left.subscripts) (names_in g.right) x c)))
          (λ x e free. (parts_outside x e free).0);
      right = names_suit n round (names_in g.right)
          (λ x c. no_counter x (there g.left.name (names_in_subscripts g.left.subscripts ++ names_in g.right) x (Contains-append_right (names_in_subscripts g.left.subscripts) (names_in g.right) x c)))
          (λ x e free. (parts_outside x e free).1);
    }

    not_kept : (x : List ℕ) → IsKept bits high n source values start x → (g.left.name ≡ x → ⊥)
    not_kept x (inl e) f = true_false (sym (subst (λ y. ends_behind n y ≡ true) (sym f) e) ∙ no_behind)
    not_kept x (inr c) f = no_symbol (subst (Contains n.symbols) (sym f) c)

    pub statement_goes : (s t : State) → Goes bits high n source values start A round is s t → (does (sequential bits) None (guarded_statement g) s).way ≡ Going
        → Goes bits high n source values start A round is (does (sequential bits) None (guarded_statement g) s) (does (sequential bits) None (guarded_statement (normal_statement n.symbols round g)) t)
    statement_goes s t b w =
        let p : State = does (sequential bits) None (guarded_statement g) s in
        let q : State = does (sequential bits) None (guarded_statement (normal_statement n.symbols round g)) t in
        let done = statement_beside bits n.symbols values A round is s t g low high (are_apart n source round ss ls around) suits (as_beside bits high n source values start A round is s t b) w in
        let one = wrote bits g s straight.unguarded w in
        let two = wrote bits (normal_statement n.symbols round g) t (normal_guard n.symbols round g straight.unguarded) done.way_beside in
        let named : two.cell.name ≡ g.left.name = two.named ∙ normal_left n.symbols round g in
        together s t p q b done one two named
      where
        together : (s t p q : State) → Goes bits high n source values start A round is s t → GoOnBeside n.symbols values A round is p q → (one : Wrote g.left.name s p) → (two : Wrote (normal_statement n.symbols round g).left.name t q)
            → two.cell.name ≡ g.left.name → Goes bits high n source values start A round is p q
        together s t p q b done one two named = record {
          way = done.way;
          way_beside = done.way_beside;
          stores = done.stores;
          keeps = λ c k. ap (λ (u : Store). u.held c) two.store ∙ (kept two.cell c two.value t.store (λ e. not_kept c.name k (sym named ∙ e)) ∙ b.keeps c k);
          bounds = λ x. ap (λ (u : Store). u.bounds x) two.store ∙ b.bounds x;
          elements = λ c k a. by c k a (A c.name) refl;
        }
          where
            inside : (c : Cell) → apart_within n [] c.name ≡ false → A c.name ≡ true → Contains (variables_of round) c.name
            inside c a e =
                let h = not_apart n [] c.name a in
                let more : (ends_behind n c.name ≡ true) ⊎ Contains (variables_of round) c.name → Contains (variables_of round) c.name = λ o. elim o [ inl f ↦ absurd (true_false (sym f ∙ h.behind)) | inr k ↦ k ] in
                elim (apart_cases n round c.name e) [ inl k ↦ absurd (h.counter k) | inr o ↦ more o ]

            by : (c : Cell) → has_none c.subscripts ≡ false → apart_within n [] c.name ≡ false → (d : Bool) → A c.name ≡ d → p.store.held c ≡ q.store.held c
            by c k a false e = done.stores.held c e
            by c k a true e =
                let other : g.left.name ≡ c.name → ⊥ = λ f. no_round (subst (Contains (variables_of round)) (sym f) (inside c a e)) in
                ap (λ (u : Store). u.held c) one.store
                ∙ (kept one.cell c one.value s.store (λ f. other (sym one.named ∙ f))
                ∙ (b.elements c k a
                ∙ sym (ap (λ (u : Store). u.held c) two.store ∙ kept two.cell c two.value t.store (λ f. other (sym named ∙ f)))))
