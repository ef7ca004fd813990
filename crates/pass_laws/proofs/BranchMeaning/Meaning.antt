-- A nest with IFs and jumps beside its normal form, and then the last values behind all loops.
use Rattle.std.proofs.Common.{◌≡◌, refl, sym, ap, subst, ◌∙◌, inl, ℕ, ℤ, ◌≤◌, Bool, true, false, ◌||◌, Some, None}
use Rattle.std.proofs.Common.{List, [], ◌∷◌, length, Contains}
use Rattle.std.specs.Prelude.{All}
use Rattle.std.proofs.lemmas.List.Elements.{All-contains}
use Rattle.meaning_laws.proofs.arrays.Members.{nowhere}
use Rattle.tree.specs.Plain.{Block, Expression, no_statements, statement}
use Rattle.meaning.specs.Reads.{names_in}
use Rattle.meaning.specs.Run.{State, Going, does, does_all}
use Rattle.rewrite.specs.Following.{sequential}
use Rattle.pass_laws.specs.last_runs.Laws.{LacksLastValues}
use Rattle.pass_laws.proofs.LastRuns.Made.{each_of_all}
use Rattle.linear_forms.specs.Laws.{HoldsSized}
use Rattle.linear_forms.specs.Linear.{HaveValues}
use Rattle.normal_loops.specs.Bodies.{normal_part}
use Rattle.normal_loops.specs.Normalised.{only_one}
use Rattle.nest_order.specs.orders.Lists.{Each}
use Rattle.nest.specs.Blocks.{block_of_nest, block_of_parts}
use Rattle.nest.specs.Allocations.{allocations_then, block_then, deallocations}
use Rattle.nest.specs.Blocks.{statement_of_part}
use Rattle.nest.specs.Bodies.{nest_statements}
use Rattle.nest.specs.Plain.{Made, Nest, Part, parts}
use Rattle.last_values.specs.normal_forms.Numbers.{values_from}
use Rattle.pass_laws.specs.normal_meaning.Laws.{GoOnButCounters}
use Rattle.pass_laws.proofs.NormalMeaning.Made.{IsMadeOf, behind, made_of}
use Rattle.pass_laws.specs.normal_runs.Sources.{IsNormalSource, IsSuitedStatement, apart_within, counters_in, ends_behind, loops_in}
use Rattle.pass_laws.specs.normal_runs.Sources.{variables_in}
use Rattle.pass_laws.proofs.NormalRuns.Held.{none_among, not_among}
use Rattle.pass_laws.proofs.NormalRuns.Names.{behind_variable}
use Rattle.nest.specs.statement_loops.Names.{is_among}
use Rattle.pass_laws.specs.branch_meaning.Jumps.{labels_before}
use Rattle.pass_laws.specs.branch_meaning.Laws.{BranchedFormKeepsMeaning}
use Rattle.pass_laws.specs.branch_meaning.Sources.{IsBranchedSource, IsSuitedTest, tests_of}
use Rattle.pass_laws.proofs.BranchMeaning.Beside.{Going_beside, KnownPart, as_both, as_going, part_beside}
use Rattle.pass_laws.proofs.BranchMeaning.Bounds.{same_bounds}
use Rattle.pass_laws.proofs.BranchMeaning.Flat.{flat_nest, flat_source, same_counters, same_ends, same_loops, suited_too}
use Rattle.pass_laws.proofs.BranchMeaning.LastValues.{inside_all, last_values}
use Rattle.pass_laws.proofs.BranchMeaning.Ways.{going_comes, going_on}

-- ---- names

no_counter : (a b : Bool) → (a || (b || false)) ≡ false → a ≡ false
no_counter false b h = refl
no_counter true b h = let none : ⊥ = cc in absurd none

neither : (a b : Bool) → a ≡ false → b ≡ false → (a || (b || false)) ≡ false
neither false false h g = refl
neither true b h g = let none : ⊥ = cc in absurd none
neither false true h g = let none : ⊥ = cc in absurd none

-- ---- the block of a nest to which nothing was added

then_nothing : (b : Block) → block_then b no_statements ≡ b
then_nothing no_statements = refl
then_nothing (statement c cs) = ap (statement c) (then_nothing cs)

-- without made arrays it is the body, and what comes after
bare_block : (n : Nest) (line : ℕ) (body : Part) (after : Block) → n.made ≡ [] → n.line ≡ line → n.body ≡ body → n.after ≡ after
    → block_of_nest n ≡ statement (statement_of_part line body) after
bare_block n line body after none at only behind' =
    ap (λ (ms : List Made). allocations_then n.line ms (statement (statement_of_part n.line n.body) (block_then n.after (deallocations n.line ms)))) none
    ∙ ap (statement (statement_of_part n.line n.body)) (then_nothing n.after)
    ∙ ap (λ k. statement (statement_of_part k n.body) n.after) at
    ∙ ap (λ p. statement (statement_of_part line p) n.after) only
    ∙ ap (statement (statement_of_part line body)) behind'

only : (ps : List Part) (p : Part) → only_one ps ≡ Some p → ps ≡ p ∷ []
only [] p h = let none : ⊥ = cc in absurd none
only (q ∷ []) p h = let same : q ≡ p = cc in ap (λ x. x ∷ []) same
only (q ∷ (r ∷ ps)) p h = let none : ⊥ = cc in absurd none

module _ (bits : ℕ) (n m : Nest) (values : ℕ → ℤ) (s t : State) (low : 31 ≤ bits) (high : bits ≤ 63) (source : IsBranchedSource n)
    (is : IsMadeOf n m) (beside : GoOnButCounters n s t) (sized : HoldsSized s.store) (sized_beside : HoldsSized t.store)
    (known : HaveValues n.symbols s.store (values_from (length n.symbols) 0 values))
    (scalars : All (λ x. t.store.bounds x ≡ Some []) (counters_in n))
    (going : (does (sequential bits) None (statement_of_part n.line n.body) s).way ≡ Going) where
  abbrev first : State
  first = does (sequential bits) None (statement_of_part n.line n.body) s

  abbrev second : State
  second = does (sequential bits) None (statement_of_part n.line m.body) t

  abbrev N : Nest
  N = flat_nest n

  flat : IsNormalSource (flat_nest n)
  flat = flat_source n source

  bare : (x : List ℕ) → Contains (counters_in (flat_nest n)) x → t.store.bounds x ≡ Some []
  bare x c = All-contains (λ x. t.store.bounds x ≡ Some []) (counters_in n) x scalars (subst (λ ys. Contains ys x) (same_counters n) c)

  counter_not : (x : List ℕ) → apart_within (flat_nest n) [] x ≡ false → is_among (counters_in n) x ≡ false
  counter_not x h = ap (λ ys. is_among ys x) (sym (same_counters n)) ∙ no_counter (is_among (counters_in N) x) (ends_behind N x) h

  begun : Going_beside bits low high n flat values t.store bare [] [] s t
  begun = record {
    way = beside.way;
    way_beside = beside.way_beside;
    stores = record {
      bounds = λ x h. sym (beside.stores.bounds x (counter_not x h));
      held = λ c h. sym (beside.stores.held c (counter_not c.name h));
      variables = tt;
      counters = tt;
      known = known;
      sized = sized;
      sized_beside = sized_beside;
    };
    keeps = λ c k. refl;
    bounds = λ x. refl;
    elements = λ c k h. sym (beside.stores.held c (counter_not c.name h));
  }

  tests_too : (es : List Expression) → Each (IsSuitedTest n) es → Each (IsSuitedTest (flat_nest n)) es
  tests_too [] h = tt
  tests_too (e ∷ es) h = (
    record { plain = h.0.plain; counters = subst (λ ys. All (λ x. is_among ys x ≡ false) (names_in e)) (sym (same_counters n)) h.0.counters },
    tests_too es h.1,
  )

  body_known : KnownPart bits low high n flat values t.store bare [] [] n.body
  body_known = record {
    tie = λ x c. absurd (nowhere x c);
    around = record {
      loops = tt;
      zeros = tt;
      within = λ x c. absurd (nowhere x c);
      counters = λ x c. absurd (nowhere x c);
      variables = tt;
      suited = λ s c. suited_too n s (All-contains (IsSuitedStatement n) (nest_statements n) s source.statements c);
      nested = λ l c. subst (λ ms. Contains ms l) (sym (same_loops n)) c;
      once = source.once;
    };
    straight = each_of_all _ (nest_statements n) source.straight;
    tests = tests_too (tests_of n.body) (each_of_all (IsSuitedTest n) (tests_of n.body) source.tests);
    outside = λ x e free. inside_all n x (sym (same_ends n x) ∙ e) refl;
  }

  together : Going_beside bits low high n flat values t.store bare [] [] first second
  together =
      let all = part_beside bits low high n flat values t.store bare [] [] [] n.body [] body_known source.normal source.jumps s t
      (as_both bits low high n flat values t.store bare [] [] s t begun) (going_comes (labels_before n.body []) s.way beside.way) (going_on first.way going) in
      let same = only (normal_part n (loops_in n) [] n.body) m.body is.body in
      subst (λ (ps : List Part). Going_beside bits low high n flat values t.store bare [] [] first (does_all (sequential bits) None (block_of_parts n.line (parts ps)) t)) same
      (as_going bits low high n flat values t.store bare [] [] first (does_all (sequential bits) None (block_of_parts n.line (parts (normal_part n (loops_in n) [] n.body))) t) going all)

  behind_no_counter : (x : List ℕ) → ends_behind n x ≡ true → is_among (counters_in n) x ≡ false
  behind_no_counter x h =
      none_among (counters_in n) x (λ c.
      not_among (variables_in n) x (All-contains (λ x. is_among (variables_in n) x ≡ false) (counters_in n) x source.counters c) (behind_variable n x h))

  ends : GoOnButCounters n first (does_all (sequential bits) None (behind n) second)
  ends =
      let lacking : LacksLastValues n s.store first.store second.store = record {
        bounds = λ x h. together.bounds x ∙ (beside.stores.bounds x h ∙ sym (same_bounds bits n.line n.body s x));
        held = λ c h g. sym (together.stores.held c (neither (is_among (counters_in N) c.name) (ends_behind N c.name) (ap (λ ys. is_among ys c.name) (same_counters n) ∙ h) (same_ends n c.name ∙ g)));
        before = λ c h. together.keeps c (inl (same_ends n c.name ∙ h)) ∙ beside.stores.held c (behind_no_counter c.name h);
      } in
      let last = last_values bits n values s second high source together.way_beside sized known going lacking in
      record { way = going; way_beside = last.0; stores = last.1 }

pub branched_form_keeps_meaning : BranchedFormKeepsMeaning
branched_form_keeps_meaning bits n m values s t low high source none bare made beside sized sized_beside known scalars going =
    let is = made_of n m made in
    let old = bare_block n n.line n.body no_statements none refl refl bare in
    let new = bare_block m n.line m.body (behind n) (is.made ∙ none) is.line refl
    (is.after ∙ ap (λ b. block_then b (behind n)) bare) in
    let end = ends bits n m values s t low high source is beside sized sized_beside known scalars
    (subst (λ b. (does_all (sequential bits) None b s).way ≡ Going) old going) in
    subst (λ b. GoOnButCounters n (does_all (sequential bits) None b s) (does_all (sequential bits) None (block_of_nest m) t)) (sym old)
    (subst (λ b. GoOnButCounters n (does_all (sequential bits) None (statement (statement_of_part n.line n.body) no_statements) s) (does_all (sequential bits) None b t)) (sym new) end)
