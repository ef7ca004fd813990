-- A nest that was found has what the law of nests with IFs and jumps asks for.
use Rattle.std.proofs.Common.{◌≡◌, refl, sym, ap, subst, ◌∙◌, ℕ, true, false, List, [], ◌∷◌, ◌++◌, Option, Some}
use Rattle.std.proofs.Common.{None, arith}
use Rattle.std.specs.Prelude.{IsSome}
use Rattle.tree.specs.Plain.{Expression, Program}
use Rattle.meaning.specs.Blocks.{outermost, within_loop}
use Rattle.meaning.specs.Dialect.{Dialect, fortran77}
use Rattle.tree.specs.declared.width.Width.{Width}
use Rattle.meaning.specs.Profile77.{IsProgram77}
use Rattle.meaning.specs.Reads.{names_in}
use Rattle.rewrite.specs.Names.{names_written_in}
use Rattle.meaning_laws.proofs.arrays.Members.{nowhere}
use Rattle.components.specs.Lists as components
use Rattle.components.specs.Lists.{Each}
use Rattle.components.proofs.ListLaws.{Each-append}
use Rattle.find_nests.specs.Found.{nest_of_loop}
use Rattle.find_nests.specs.Laws.{IsFoundNest}
use Rattle.find_nests.specs.Loops.{SurroundedLoop, as_statement, loops_in_block}
use Rattle.find_nests.specs.LookedAt.{reason_of}
use Rattle.find_nests.specs.declared.reasons.Reason.TheVariants as reasons
use Rattle.find_nests.proofs.FoundLaws.{found_nest_is_loop, no_reason_holds}
use Rattle.find_nests.proofs.ReasonWalks.{finds_is}
use Rattle.last_values.specs.declared.behind.NestedLoop.{NestedLoop}
use Rattle.normal_loops.specs.Normal.{is_normal}
use Rattle.normal_loops.specs.Normalised.{normalised}
use Rattle.nest_order.specs.orders.Lists as order
use Rattle.find_nests.specs.nest_parts.Numbers.{next_loop_number}
use Rattle.nest_reasons.specs.Symbols.{is_symbol}
use Rattle.nest.specs.Bodies.{Standing, nest_loops, nest_statements}
use Rattle.nest.specs.Plain.{Nest}
use Rattle.pass_laws.proofs.NormalNests.There.{normalised_is_there}
use Rattle.pass_laws.specs.normal_runs.Sources.{HasOwnVariable, IsSuitedStatement, counters_in, loops_in}
use Rattle.pass_laws.specs.normal_runs.Sources.{names_of_statement, variables_in}
use Rattle.pass_laws.specs.ready_nests.Distinct.{numbers_of}
use Rattle.pass_laws.proofs.ReadyNests.FoundNumbers.{found_loops_are_distinct}
use Rattle.pass_laws.proofs.ReadyNests.Lists.{Each-All, Each-Contains, Each-weaker}
use Rattle.pass_laws.proofs.ReadyNests.Made.{made_of}
use Rattle.nest.specs.statement_loops.Names.{is_among}
use Rattle.meaning_laws.proofs.profiles.Lists.{here}
use Rattle.pass_laws.proofs.FoundSources.Counters.{IsShort, counters_by, counter_outside, distinct_counters, each_counter}
use Rattle.pass_laws.proofs.FoundSources.Counters.{name_outside}
use Rattle.pass_laws.proofs.FoundSources.Lists.{Each-map}
use Rattle.pass_laws.proofs.FoundSources.Numbers.{next_small}
use Rattle.pass_laws.proofs.FoundSources.PlainNames.{declared_short}
use Rattle.pass_laws.proofs.FoundSources.Sound.{AreSoundNested, IsSoundNested}
use Rattle.pass_laws.proofs.FoundSources.Symbols.{short_names, uses_apart, variable_no_symbol}
use Rattle.pass_laws.specs.branch_meaning.Jumps.{JumpsAhead}
use Rattle.pass_laws.specs.branch_meaning.Sources.{IsBranchedSource, IsLoop, IsStraightStanding, IsSuitedTest, tests_of}
use Rattle.pass_laws.proofs.BranchMeaning.Meaning as meaning
use Rattle.pass_laws.specs.branch_sources.Laws.{FoundNestIsBranchedSource, FoundNestKeepsMeaning}
use Rattle.pass_laws.proofs.BranchSources.Jumps.{loop_jumps}
use Rattle.pass_laws.proofs.BranchSources.Sound.{IsGoodStanding, IsSound, IsSoundTest, nested_sound, small_numbers, standings}
use Rattle.pass_laws.proofs.BranchSources.Sound.{tests_are}
use Rattle.pass_laws.proofs.BranchSources.Walk.{IsProper, proper_block, sound_block}

-- ---- a nest of sound parts, over names of the program

record IsSoundNest (n : Nest) : Type 0 where
  loop : IsLoop n.body
  jumps : JumpsAhead [] n.body
  body : IsSound n.symbols [] n.body
  symbols : Each IsShort n.symbols

module _ (n : Nest) (sound : IsSoundNest n) (normal : is_normal n.symbols [] n.body ≡ true)
    (numbers : components.Distinct (numbers_of (nest_loops n))) where
  nested_are : AreSoundNested n.symbols (loops_in n) (nest_loops n)
  nested_are = nested_sound n.symbols [] [] n.body (record { names = refl; zeros = tt }) normal sound.body

  short_variables : Each IsShort (variables_in n)
  short_variables =
      Each-map IsShort (λ (l : NestedLoop). l.turns.variable) (loops_in n)
      (Each-weaker (IsSoundNested n.symbols) (λ (l : NestedLoop). IsShort l.turns.variable) (loops_in n) (λ l h. h.short) nested_are.each)

  apart_variables : Each (λ x. is_among n.symbols x ≡ false) (variables_in n)
  apart_variables =
      Each-map (λ x. is_among n.symbols x ≡ false) (λ (l : NestedLoop). l.turns.variable) (loops_in n)
      (Each-weaker (IsSoundNested n.symbols) (λ (l : NestedLoop). is_among n.symbols l.turns.variable ≡ false) (loops_in n) (λ l h. h.apart) nested_are.each)

  no_counter_of : (x : List ℕ) → IsShort x → is_among (counters_in n) x ≡ false
  no_counter_of x h = subst (λ cs. is_among cs x ≡ false) (sym nested_are.counters) (name_outside (nest_loops n) x h)

  suited : (s : Standing) → IsGoodStanding n.symbols s → IsSuitedStatement n s
  suited s h = record {
    counters = Each-All (λ x. is_among (counters_in n) x ≡ false) (names_of_statement s.statement)
        (Each-weaker IsShort (λ x. is_among (counters_in n) x ≡ false) (names_of_statement s.statement) no_counter_of h.1.short);
    variables = h.1.free;
    symbols = h.1.apart;
  }

  suited_test : (e : Expression) → IsSoundTest e → IsSuitedTest n e
  suited_test e h = record {
    plain = h.plain;
    counters = Each-All (λ x. is_among (counters_in n) x ≡ false) (names_in e) (Each-weaker IsShort (λ x. is_among (counters_in n) x ≡ false) (names_in e) no_counter_of h.short);
  }

  each_of_counters : (P : List ℕ → Type 0) → Each P (counters_by (nest_loops n)) → Each P (counters_in n)
  each_of_counters P h = subst (Each P) (sym nested_are.counters) h

  good : Each (IsGoodStanding n.symbols) (nest_statements n)
  good = standings n.symbols [] [] n.body refl sound.body

  source_of : IsBranchedSource n
  source_of = record {
    normal = normal;
    loop = sound.loop;
    jumps = sound.jumps;
    straight = Each-All IsStraightStanding (nest_statements n) (Each-weaker (IsGoodStanding n.symbols) IsStraightStanding (nest_statements n) (λ s h. h.0) good);
    statements = Each-All (IsSuitedStatement n) (nest_statements n) (Each-weaker (IsGoodStanding n.symbols) (IsSuitedStatement n) (nest_statements n) suited good);
    tests = Each-All (IsSuitedTest n) (tests_of n.body) (Each-weaker IsSoundTest (IsSuitedTest n) (tests_of n.body) suited_test (tests_are n.symbols [] n.body sound.body));
    own = Each-All HasOwnVariable (loops_in n) (Each-weaker (IsSoundNested n.symbols) HasOwnVariable (loops_in n) (λ l h. h.own) nested_are.each);
    once = subst (λ (cs : List (List ℕ)). order.Distinct cs) (sym nested_are.counters)
        (distinct_counters (nest_loops n) (small_numbers n.symbols [] n.body sound.body) numbers);
    counters = Each-All (λ x. is_among (variables_in n) x ≡ false) (counters_in n)
        (each_of_counters (λ x. is_among (variables_in n) x ≡ false)
        (each_counter (λ x. is_among (variables_in n) x ≡ false) (λ k. counter_outside (variables_in n) k short_variables) (nest_loops n)));
    apart = Each-All (λ x. is_among n.symbols x ≡ false) (variables_in n ++ counters_in n)
        (Each-append (λ x. is_among n.symbols x ≡ false) (variables_in n) (counters_in n) apart_variables
        (each_of_counters (λ x. is_among n.symbols x ≡ false)
        (each_counter (λ x. is_among n.symbols x ≡ false) (λ k. counter_outside n.symbols k sound.symbols) (nest_loops n))));
  }

-- ---- a nest that was found

sound_loop : (d : Dialect) (p : Program) (k : ℕ) (q : SurroundedLoop) → IsProgram77 d p → IsProper p.declarations q → reason_of p.declarations q.loop.loop ≡ None
    → IsSoundNest (nest_of_loop p k q.loop)
sound_loop d p k q is h none =
    let x = q.loop.loop.variable in
    let body = q.loop.loop.body in
    let symbols = (nest_of_loop p k q.loop).symbols in
    record {
      loop = tt;
      jumps = loop_jumps p.declarations symbols q.loop.before x body h.round h.body h.labels
          (finds_is reasons.Exit symbols (as_statement q.loop.loop) ∙ no_reason_holds symbols (as_statement q.loop.loop) reasons.Exit none)
          (finds_is reasons.InnerIf symbols (as_statement q.loop.loop) ∙ no_reason_holds symbols (as_statement q.loop.loop) reasons.InnerIf none);
      body = (
        record {
          short = declared_short d p.declarations is.declarations x _ h.variable.integer.0;
          free = refl;
          apart = variable_no_symbol p.declarations x body;
          number = next_small q.loop.before h.before;
        },
        sound_block d p.declarations is.declarations symbols (next_loop_number q.loop.before) body (within_loop x h.round) (x ∷ [])
            (next_small q.loop.before h.before) (here x h.round.variables, tt) h.body (uses_apart p.declarations x body),
      );
      symbols = short_names d (is_symbol x (names_written_in body)) p.declarations is.declarations.each;
    }

sound_nest : (d : Dialect) (p : Program) (n : Nest) → IsProgram77 d p → IsFoundNest p n → IsSoundNest n
sound_nest d p n is f =
    let proper = Each-Contains (IsProper p.declarations) (loops_in_block 0 [] p.body) f.loop
    (proper_block p.declarations 0 [] p.body outermost (omega arith) is.statements (record { once = is.labels; apart = λ k c e. nowhere k c })) f.stands in
    subst IsSoundNest (sym f.is) (sound_loop d p n.number f.loop is proper f.no_reason)

is_normal_nest : (n : Nest) → IsSome (normalised n) → is_normal n.symbols [] n.body ≡ true
is_normal_nest n h = by (normalised n) refl h
  where
    by : (o : Option Nest) → normalised n ≡ o → IsSome o → is_normal n.symbols [] n.body ≡ true
    by None e k = let none : ⊥ = cc in absurd none
    by (Some m) e k = (made_of n m e).normal

pub found_nest_is_branched_source : (width : Width) → FoundNestIsBranchedSource width
found_nest_is_branched_source width p n is h =
    source_of n (sound_nest (fortran77 width) p n is (found_nest_is_loop p n h)) (is_normal_nest n (normalised_is_there (fortran77 width) p n is h))
    (found_loops_are_distinct (fortran77 width) p n is h)

pub found_nest_keeps_meaning : (width : Width) → FoundNestKeepsMeaning width
found_nest_keeps_meaning width bits p n m values s t low high is h made beside sized sized_beside known scalars going =
    let f = found_nest_is_loop p n h in
    meaning.branched_form_keeps_meaning bits n m values s t low high (found_nest_is_branched_source width p n is h) (ap (λ (k : Nest). k.made) f.is) (ap (λ (k : Nest). k.after) f.is)
    made beside sized sized_beside known scalars going
