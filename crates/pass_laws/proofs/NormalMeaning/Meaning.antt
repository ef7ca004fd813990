-- The body of a nest beside its normal body, and then the last values.
use Rattle.std.proofs.Common.{◌≡◌, refl, sym, ap, subst, ◌∙◌, ℕ, suc, ℤ, ◌≤◌, Bool, true, false, ◌||◌, ◌&&◌, Some, None, List, [], ◌∷◌, length, arith}
use Rattle.std.specs.Prelude.{All}
use Rattle.std.specs.Str.{bytes_eq}
use Rattle.std.proofs.lemmas.Slice.Eq.{bytes_eq-Decides}
use Rattle.tree.specs.Plain.{Block, no_statements, statement}
use Rattle.meaning.specs.Run.{State, Going, does, does_all}
use Rattle.meaning.specs.Store.{Cell}
use Rattle.rewrite.specs.Following.{sequential}
use Rattle.pass_laws.specs.last_runs.Laws.{LacksLastValues}
use Rattle.pass_laws.proofs.LastRuns.LastValues.{last_values_behind}
use Rattle.linear_forms.specs.Laws.{HoldsSized}
use Rattle.linear_forms.specs.Linear.{HaveValues}
use Rattle.nest.specs.Blocks.{block_of_nest, statement_of_part}
use Rattle.nest.specs.Allocations.{allocations_then, block_then, deallocations}
use Rattle.nest.specs.Plain.{Made, Nest, Part}
use Rattle.last_values.specs.normal_forms.Numbers.{values_from}
use Rattle.pass_laws.proofs.NormalRuns.Body.{body_beside}
use Rattle.pass_laws.specs.normal_runs.Sources.{IsNormalSource, apart_within, counters_in, ends_behind, loops_in, variables_in}
use Rattle.pass_laws.specs.normal_values.Beside.{IsBeside}
use Rattle.pass_laws.specs.normal_values.Laws.{GoOnBeside}
use Rattle.nest.specs.statement_loops.Names.{is_among}
use Rattle.pass_laws.specs.normal_meaning.Laws.{GoOnButCounters, NormalFormKeepsMeaning}
use Rattle.pass_laws.proofs.NormalMeaning.Bounds.{same_bounds}
use Rattle.pass_laws.proofs.NormalMeaning.Made.{IsMadeOf, behind, made_of}

-- ---- names

no_counter : (a b : Bool) → (a || (b || false)) ≡ false → a ≡ false
no_counter false b h = refl
no_counter true b h = let no : ⊥ = cc in absurd no

neither : (a b : Bool) → a ≡ false → b ≡ false → (a || (b || false)) ≡ false
neither false false h g = refl
neither true b h g = let no : ⊥ = cc in absurd no
neither false true h g = let no : ⊥ = cc in absurd no

left_true : (a b : Bool) → (a && b) ≡ true → a ≡ true
left_true true b h = refl
left_true false b h = let no : ⊥ = cc in absurd no

-- of these, none stands among the others
others : (ys xs : List (List ℕ)) (x : List ℕ) → All (λ z. is_among ys z ≡ false) xs → is_among xs x ≡ true → is_among ys x ≡ false
others ys [] x all h = let no : ⊥ = cc in absurd no
others ys (z ∷ xs) x all h = by (bytes_eq z x) refl h (others ys xs x (λ k d i. all (suc k) d (omega arith)))
  where
    by : (b : Bool) → bytes_eq z x ≡ b → (b || is_among xs x) ≡ true → (is_among xs x ≡ true → is_among ys x ≡ false) → is_among ys x ≡ false
    by true e g rest = subst (λ u. is_among ys u ≡ false) ((bytes_eq-Decides z x).0 e) (all 0 z (omega arith))
    by false e g rest = rest g

-- ---- the block of a nest to which nothing was added

then_nothing : (b : Block) → block_then b no_statements ≡ b
then_nothing no_statements = refl
then_nothing (statement c cs) = ap (statement c) (then_nothing cs)

-- without made arrays it is the body, and what comes after
bare_block : (n : Nest) (line : ℕ) (body : Part) (after : Block) → n.made ≡ [] → n.line ≡ line → n.body ≡ body → n.after ≡ after
    → block_of_nest n ≡ statement (statement_of_part line body) after
bare_block n line body after none at only behind' =
    ap (λ (ms : List Made). allocations_then n.line ms (statement (statement_of_part n.line n.body) (block_then n.after (deallocations n.line ms)))) none
    ∙ ap (statement (statement_of_part n.line n.body)) (then_nothing n.after)
    ∙ ap (λ k. statement (statement_of_part k n.body) n.after) at
    ∙ ap (λ p. statement (statement_of_part line p) n.after) only
    ∙ ap (statement (statement_of_part line body)) behind'

module _ (bits : ℕ) (n m : Nest) (values : ℕ → ℤ) (s t : State) (low : 31 ≤ bits) (high : bits ≤ 63) (source : IsNormalSource n)
    (is : IsMadeOf n m) (beside : GoOnButCounters n s t) (sized : HoldsSized s.store) (sized_beside : HoldsSized t.store)
    (known : HaveValues n.symbols s.store (values_from (length n.symbols) 0 values))
    (scalars : All (λ x. t.store.bounds x ≡ Some []) (counters_in n))
    (going : (does (sequential bits) None (statement_of_part n.line n.body) s).way ≡ Going) where
  abbrev first : State
  first = does (sequential bits) None (statement_of_part n.line n.body) s

  abbrev second : State
  second = does (sequential bits) None (statement_of_part n.line m.body) t

  start : GoOnBeside n.symbols values (apart_within n []) [] [] s t
  start = record {
    way = beside.way;
    way_beside = beside.way_beside;
    stores = record {
      bounds = λ x h. sym (beside.stores.bounds x (no_counter (is_among (counters_in n) x) (ends_behind n x) h));
      held = λ c h. sym (beside.stores.held c (no_counter (is_among (counters_in n) c.name) (ends_behind n c.name) h));
      variables = tt;
      counters = tt;
      known = known;
      sized = sized;
      sized_beside = sized_beside;
    };
  }

  behind_no_counter : (x : List ℕ) → ends_behind n x ≡ true → is_among (counters_in n) x ≡ false
  behind_no_counter x h =
      by_counter (is_among (counters_in n) x) refl
    where
      by_counter : (b : Bool) → is_among (counters_in n) x ≡ b → is_among (counters_in n) x ≡ false
      by_counter false e = e
      by_counter true e =
          let none : is_among (variables_in n) x ≡ false = others (variables_in n) (counters_in n) x source.counters e in
          let some : is_among (variables_in n) x ≡ true = left_true (is_among (variables_in n) x) _ h in
          let no : ⊥ = cc in absurd no

  ends : GoOnButCounters n first (does_all (sequential bits) None (behind n) second)
  ends =
      let both = body_beside bits n m.body values s t low high source is.body scalars start going in
      let after = both.0 in
      let lacking : LacksLastValues n s.store first.store second.store = record {
        bounds = λ x h. both.2 x ∙ (beside.stores.bounds x h ∙ sym (same_bounds bits n.line n.body s x source.straight));
        held = λ c h g. sym (after.stores.held c (neither (is_among (counters_in n) c.name) (ends_behind n c.name) h g));
        before = λ c h. both.1 c h ∙ beside.stores.held c (behind_no_counter c.name h);
      } in
      let last = last_values_behind bits n values s second low high source beside.way after.way_beside sized known going lacking in
      record { way = going; way_beside = last.0; stores = last.1 }

pub normal_form_keeps_meaning : NormalFormKeepsMeaning
normal_form_keeps_meaning bits n m values s t low high source none bare made beside sized sized_beside known scalars going =
    let is = made_of n m made in
    let old = bare_block n n.line n.body no_statements none refl refl bare in
    let new = bare_block m n.line m.body (behind n) (is.made ∙ none) is.line refl
    (is.after ∙ ap (λ b. block_then b (behind n)) bare) in
    let end = ends bits n m values s t low high source is beside sized sized_beside known scalars
    (subst (λ b. (does_all (sequential bits) None b s).way ≡ Going) old going) in
    subst (λ b. GoOnButCounters n (does_all (sequential bits) None b s) (does_all (sequential bits) None (block_of_nest m) t)) (sym old)
    (subst (λ b. GoOnButCounters n (does_all (sequential bits) None (statement (statement_of_part n.line n.body) no_statements) s) (does_all (sequential bits) None b t)) (sym new) end)
