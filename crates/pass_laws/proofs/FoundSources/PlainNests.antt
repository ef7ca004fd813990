-- What is made of a nest has loops and statements alone just where the nest has, and then no statement has a guard.
use Rattle.std.proofs.Common.{◌≡◌, refl, sym, ap, subst, ℕ, Bool, true, false, cond, List, [], ◌∷◌, ◌++◌, length}
use Rattle.std.proofs.Common.{Option, Some, None}
use Rattle.std.specs.Option.{option_map}
use Rattle.components.specs.Lists.{Each}
use Rattle.rewrite.specs.Making.{Making, made}
use Rattle.last_values.specs.Behind.{stands_behind}
use Rattle.last_values.specs.PartsInPlace.{parts_before, parts_behind}
use Rattle.last_values.specs.declared.behind.NestedLoop.{NestedLoop}
use Rattle.normal_loops.specs.Bodies.{placed_loop, normal_turns, normal_part, normal_parts}
use Rattle.normal_loops.specs.Counting.{counting}
use Rattle.normal_loops.specs.Laws.{CountsByOne}
use Rattle.normal_loops.specs.Loops.{with_loop}
use Rattle.normal_loops.specs.Values.{with_value, in_text, statement_with_values, normal_statement}
use Rattle.normal_loops.proofs.CountLaws.{normalised_counts}
use Rattle.nest_rewrite.specs.Statements.{rewritten_statement}
use Rattle.nest_order.specs.shapes.Shapes as shapes
use Rattle.nest.specs.Bodies.{Standing, loops_of, loops_in_parts, nest_loops, nest_statements}
use Rattle.nest.specs.Plain.{Guarded, Loop, Nest, Part, Run, Turns, Choice, Label, Jump, Parts, no_parts, part, parts}
use Rattle.last_values.specs.normal_forms.NormalLoops.{normal_loop}
use Rattle.last_values.specs.declared.normal_forms.loops.NormalLoop.{NormalLoop}
use Rattle.pass_laws.specs.normal_runs.Sources.{IsStraight, AreStraight}
use Rattle.pass_laws.proofs.ReadyNests.Lists.{Each-All}
use Rattle.pass_laws.proofs.ReadyNests.Made.{made_of}
use Rattle.pass_laws.proofs.ReadyNests.Walk.{EachIn, EachInParts, Steps, each_statement}
use Rattle.pass_laws.specs.found_sources.Laws.{NormalNestIsPlain}
use Rattle.pass_laws.specs.found_sources.Alone.{HasLoopsAlone, HaveLoopsAlone}
use Rattle.pass_laws.proofs.FoundSources.FoundSources.{found_nests_are_sources}
use Rattle.pass_laws.proofs.FoundSources.Lists.{Each-left, Each-right, Each-of_all, alone_left, alone_right}
use Rattle.tree.specs.declared.width.Width.{Width}

-- ---- back from what is made

module _ (n : Nest) (all : List NestedLoop) where
  placed_alone : (round : List NormalLoop) (r : NormalLoop) (p : Part) → HaveLoopsAlone (parts (placed_loop n all round r p)) → HasLoopsAlone p
  placed_alone round r p h = by (stands_behind (length n.symbols) all n.body r.variable) h
    where
      by : (b : Bool) → HaveLoopsAlone (parts (cond b (p ∷ []) (parts_before n.symbols n.line round r ++ p ∷ parts_behind n.symbols n.line round r)))
          → HasLoopsAlone p
      by true k = k.0
      by false k = (alone_right (parts_before n.symbols n.line round r) (p ∷ parts_behind n.symbols n.line round r) k).0

  turned_alone : (round : List NormalLoop) (l : Loop) (o : Option NormalLoop) (qs : List Part) → HaveLoopsAlone (parts (normal_turns n all round l o qs))
      → HaveLoopsAlone (parts qs)
  turned_alone round l None qs h = h.0
  turned_alone round l (Some r) qs h = placed_alone round r (Turns (counting n.symbols round l r) (parts qs)) h

  mutual
    source_alone : (round : List NormalLoop) (p : Part) → HaveLoopsAlone (parts (normal_part n all round p)) → HasLoopsAlone p
    source_alone round (Run g) h = tt
    source_alone round (Turns l ps) h =
        parts_alone (with_loop round (normal_loop n.symbols round l)) ps
        (turned_alone round l (normal_loop n.symbols round l) (normal_parts n all (with_loop round (normal_loop n.symbols round l)) ps) h)
    source_alone round (Choice bs ps) h = absurd h.0
    source_alone round (Label k) h = absurd h.0
    source_alone round (Jump k) h = absurd h.0

    parts_alone : (round : List NormalLoop) (ps : Parts) → HaveLoopsAlone (parts (normal_parts n all round ps)) → HaveLoopsAlone ps
    parts_alone round no_parts h = tt
    parts_alone round (part p ps) h = (
      source_alone round p (alone_left (normal_part n all round p) (normal_parts n all round ps) h),
      parts_alone round ps (alone_right (normal_part n all round p) (normal_parts n all round ps) h),
    )

-- ---- loops from 1 by 1

mutual
  plain : (p : Part) → HasLoopsAlone p → Each CountsByOne (loops_of p) → shapes.IsPlain p
  plain (Run g) h c = tt
  plain (Turns l ps) h c = (record { first = c.0.first; step = c.0.step }, plain_parts ps h c.1)
  plain (Choice bs ps) h c = absurd h
  plain (Label k) h c = absurd h
  plain (Jump k) h c = absurd h

  plain_parts : (ps : Parts) → HaveLoopsAlone ps → Each CountsByOne (loops_in_parts ps) → shapes.ArePlain ps
  plain_parts no_parts h c = tt
  plain_parts (part p ps) h c = (
    plain p h.0 (Each-left CountsByOne (loops_of p) (loops_in_parts ps) c),
    plain_parts ps h.1 (Each-right CountsByOne (loops_of p) (loops_in_parts ps) c),
  )

-- ---- guards

abbrev IsUnguarded : Guarded → Type 0
IsUnguarded g = g.guard ≡ None

abbrev any_loop : Loop → Type 0
any_loop l = Unit {0}

abbrev under_any : List NormalLoop → List Loop → Type 0
under_any round ls = Unit {0}

abbrev StandsUnguarded : Standing → Type 0
StandsUnguarded s = s.statement.guard ≡ None

mutual
  unguarded : (p : Part) → IsStraight p → EachIn IsUnguarded any_loop p
  unguarded (Run g) h = h.unguarded
  unguarded (Turns l ps) h = (tt, unguarded_parts ps h)
  unguarded (Choice bs ps) h = absurd h
  unguarded (Label k) h = absurd h
  unguarded (Jump k) h = absurd h

  unguarded_parts : (ps : Parts) → AreStraight ps → EachInParts IsUnguarded any_loop ps
  unguarded_parts no_parts h = tt
  unguarded_parts (part p ps) h = (unguarded p h.0, unguarded_parts ps h.1)

rule_unguarded : (m : Making) (g : Guarded) → IsUnguarded g → IsUnguarded (rewritten_statement m g)
rule_unguarded m g h = ap (option_map (made m)) h

values_unguarded : (symbols : List (List ℕ)) (outer rs : List NormalLoop) (g : Guarded) → IsUnguarded g → IsUnguarded (statement_with_values symbols outer rs g)
values_unguarded symbols outer [] g h = h
values_unguarded symbols outer (r ∷ rs) g h =
    values_unguarded symbols (outer ++ r ∷ []) rs (rewritten_statement (with_value symbols outer r) g) (rule_unguarded (with_value symbols outer r) g h)

normal_unguarded : (symbols : List (List ℕ)) (round : List NormalLoop) (g : Guarded) → IsUnguarded g → IsUnguarded (normal_statement symbols round g)
unfolding normal_statement
normal_unguarded symbols round g h =
    rule_unguarded (in_text symbols round) (statement_with_values symbols [] round g) (values_unguarded symbols [] round g h)

steps : (n : Nest) → Steps n IsUnguarded any_loop under_any StandsUnguarded
steps n = record {
  run = λ round ls g u h. normal_unguarded n.symbols round g h;
  turns = λ round ls l r u h e. tt;
  first = λ round ls l r u h e. refl;
  end = λ round ls l r u h e. refl;
}

-- ---- the law

pub normal_nests_are_plain : (width : Width) → NormalNestIsPlain width
normal_nests_are_plain width p n m is h e alone =
    let made = made_of n m e in
    let source : HasLoopsAlone n.body =
    source_alone n made.loops [] n.body (subst (λ (ps : List Part). HaveLoopsAlone (parts ps)) (sym made.body) (alone, tt)) in
    let found = found_nests_are_sources width p n is h source in (
      source,
      plain m.body alone (Each-of_all CountsByOne (nest_loops m) (normalised_counts n m e)),
      Each-All StandsUnguarded (nest_statements m)
          (each_statement n m IsUnguarded any_loop under_any StandsUnguarded (steps n) tt (unguarded n.body found.straight) made),
    )
