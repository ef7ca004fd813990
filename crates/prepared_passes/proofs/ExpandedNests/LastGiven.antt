-- What stands behind loops, as their last values: it gives values to variables of loops alone.
use Rattle.std.proofs.Common.{◌≡◌, inl, inr, refl, sym, ap, ◌∙◌, subst, ℕ, Bool, true, false, cond, ◌&&◌, List, [], ◌∷◌, ◌++◌, length, Option, Some, None}
use Rattle.std.specs.Prelude.{⊤}
use Rattle.std.specs.List.{AllByRecursion, flat_map, list_all}
use Rattle.tree.specs.Plain as tree
use Rattle.tree.specs.Plain.{Allocate, Arms, Assignment, Block, Deallocate, Do, Expression, GoTo, If, Print, Read, Statement, Stop, Subscripts, Where, arm, block, no_arms, no_statements, no_subscripts, statement}
use Rattle.components.specs.Lists.{Each}
use Rattle.components.proofs.ListLaws.{Each-append}
use Rattle.last_values.specs.Behind.{may_end_behind, stands_behind}
use Rattle.last_values.specs.Endings.{Texts, after_statements, assigned, loop_ending, last_texts, only_where, where_all_hold, with_last_forms}
use Rattle.last_values.specs.Occurrences.{occurs_only_within}
use Rattle.last_values.specs.ValuesBehind.{left_behind, statements_or_none, values_behind}
use Rattle.last_values.specs.declared.behind.NestedLoop.{NestedLoop}
use Rattle.last_values.specs.declared.normal_forms.last.LastForms.{LastForms}
use Rattle.last_values.specs.declared.normal_forms.loops.NormalLoop.{NormalLoop}
use Rattle.last_values.specs.normal_forms.LastTexts.{tests_of}
use Rattle.last_values.specs.normal_forms.LastValues.{have_plain_trips, last_forms}
use Rattle.last_values.specs.normal_forms.NormalLoops.{is_known, is_positive, normal_loop}
use Rattle.last_values.specs.normal_forms.Texts.{at_least_one}
use Rattle.linear_forms.proofs.Sizes.{both}
use Rattle.meaning.specs.Reads.{names_in, names_in_subscripts}
use Rattle.nest.specs.Plain.{Branches, Choice, Guarded, Jump, Label, Loop, Part, Parts, Run, Turns, branch, no_branches, no_parts, part}
use Rattle.nest.specs.declared.parts.Trip.{Trip}
use Rattle.nest_order.specs.orders.Lists.{In}
use Rattle.normal_loops.specs.Loops.{nested, nested_in_branches, nested_in_parts, nested_loops, with_loop}
use Rattle.pass_laws.proofs.NormalFacts.Texts.{named}
use Rattle.pass_laws.proofs.ReadyNests.LoopForms.{HaveZeros, normal_loop_is}
use Rattle.pass_laws.proofs.ReadyNests.NormalTrips.{zeros_more}
use Rattle.pass_laws.proofs.ReadyNests.Walk.{EachIn, EachInBranches, EachInParts}
use Rattle.pass_laws.proofs.PreparedNests.Normal.LastNames.{AreEndingsOver, IsEndingOver, values_over}
use Rattle.prepared_passes.specs.expansion.Runs.{AreFree, IsFree}

-- ---- statements that give values to v alone

module _ (v : List ℕ) where
  abbrev mutual
    Gives : Statement → Type 0
    Gives (Assignment line mark left right) = left.name ≡ v
    Gives (If line arms other) = ArmsGive arms
    Gives _ = ⊤

    ArmsGive : Arms → Type 0
    ArmsGive no_arms = ⊤
    ArmsGive (arm test body more) = AllGive body

    AllGive : Block → Type 0
    AllGive no_statements = ⊤
    AllGive (statement c cs) = Gives c × AllGive cs

  module _ (line : ℕ) where
    ending_gives : (t : Trip) (ts : Texts) → AllGive (block (loop_ending line v t ts))
    ending_gives t ts = by (is_positive t) (is_known t)
      where
        by : (b c : Bool) → AllGive
            (block (cond b (assigned line v ts.end ∷ []) (cond c (assigned line v ts.first ∷ [])
            (assigned line v ts.first ∷ only_where line (at_least_one ts.trip) (assigned line v ts.end ∷ []) ∷ []))))
        by true c = (refl, tt)
        by false true = (refl, tt)
        by false false = (refl, ((refl, tt), tt))

    where_gives : (es : List Expression) (cs : List Statement) → AllGive (block cs) → AllGive (block (where_all_hold line es cs))
    where_gives [] cs h = h
    where_gives (e ∷ es) cs h = (h, tt)

    after_gives : (symbols : List (List ℕ)) (round : List NormalLoop) (r : NormalLoop) → r.variable ≡ v → AllGive (block (statements_or_none (after_statements symbols line round r)))
    unfolding after_statements
    after_gives symbols round r e = by (have_plain_trips round) (last_forms (length symbols) round r)
      where
        by : (b : Bool) (o : Option LastForms) → AllGive (block (statements_or_none (cond b (with_last_forms symbols line round r o) None)))
        by true None = tt
        by true (Some f) =
            subst (λ x. AllGive (block (where_all_hold line (tests_of symbols round) (loop_ending line x f.trip (last_texts symbols round f))))) (sym e)
            (where_gives (tests_of symbols round) (loop_ending line v f.trip (last_texts symbols round f)) (ending_gives f.trip (last_texts symbols round f)))
        by false o = tt

-- ---- names that are read, and the one that gets values

all_recursive : (P : List ℕ → Type 0) (xs : List (List ℕ)) → ((x : List ℕ) → In x xs → P x) → AllByRecursion P xs
all_recursive P [] f = tt
all_recursive P (x ∷ xs) f = (f x (inl refl), all_recursive P xs (λ y i. f y (inr i)))

module _ (v : List ℕ) (R : List ℕ → Type 0) (W : List ℕ → Expression → Type 0) (may : (e : Expression) → W v e) where
  no_names : (qs : Subscripts) → qs ≡ no_subscripts → AllByRecursion R (names_in_subscripts qs)
  no_names qs e = subst (λ (ss : Subscripts). AllByRecursion R (names_in_subscripts ss)) (sym e) tt

  mutual
    one_free : (c : Statement) → IsEndingOver R c → Gives v c → IsFree R W c
    one_free (Assignment line mark left right) h g =
        (subst (λ x. W x right) (sym g) (may right), no_names left.subscripts h.0, all_recursive R (names_in right) (λ x i. named R right h.2 x i))
    one_free (If line (arm test body no_arms) no_statements) h g =
        ((all_recursive R (names_in test) (λ x i. named R test h.0.0 x i), all_free body h.0.1 g, tt), tt)
    one_free (If line (arm test body no_arms) (statement c cs)) h g = absurd h.1
    one_free (If line (arm test body (arm u d ms)) other) h g = absurd h.0.2
    one_free (If line no_arms other) h g = absurd h.0
    one_free (Where line mark mask left right) h g = absurd h
    one_free (Do line x a b c body) h g = absurd h
    one_free (tree.Label n) h g = absurd h
    one_free (GoTo line n) h g = absurd h
    one_free (Stop line) h g = absurd h
    one_free (Read line is) h g = absurd h
    one_free (Print line is) h g = absurd h
    one_free (Allocate line x es) h g = absurd h
    one_free (Deallocate line x) h g = absurd h

    all_free : (b : Block) → AreEndingsOver R b → AllGive v b → AreFree R W b
    all_free no_statements h g = tt
    all_free (statement c cs) h g = (one_free c h.0 g.0, all_free cs h.1 g.1)

-- ---- what the loops leave behind

front_over : (R : List ℕ → Type 0) (cs ds : List Statement) → AreEndingsOver R (block (cs ++ ds)) → AreEndingsOver R (block cs)
front_over R [] ds h = tt
front_over R (c ∷ cs) ds h = (h.0, front_over R cs ds h.1)

free_joined : (R : List ℕ → Type 0) (W : List ℕ → Expression → Type 0) (cs ds : List Statement) → AreFree R W (block cs) → AreFree R W (block ds) → AreFree R W (block (cs ++ ds))
free_joined R W [] ds h k = k
free_joined R W (c ∷ cs) ds h k = (h.0, free_joined R W cs ds h.1 k)

module _ (symbols : List (List ℕ)) (line : ℕ) (p : Part) (R : List ℕ → Type 0) (W : List ℕ → Expression → Type 0) (are : Each R symbols) where
  -- the one loop alone leaves its variable behind, too
  alone : (ls : List NestedLoop) (l : NestedLoop) → In l ls → stands_behind (length symbols) ls p l.turns.variable ≡ true
      → stands_behind (length symbols) (l ∷ []) p l.turns.variable ≡ true
  unfolding stands_behind
  alone ls l i e =
      let b = both (occurs_only_within l.turns.variable p) (list_all (may_end_behind (length symbols) l.turns.variable) ls) e in
      ap (λ c. c && (may_end_behind (length symbols) l.turns.variable l && true)) b.0
      ∙ ap (λ c. c && true) (of_all ls b.1 i)
    where
      of_all : (ms : List NestedLoop) → list_all (may_end_behind (length symbols) l.turns.variable) ms ≡ true → In l ms → may_end_behind (length symbols) l.turns.variable l ≡ true
      of_all [] f j = absurd j
      of_all (o ∷ ms) f (inl g) =
          subst (λ (x : NestedLoop). may_end_behind (length symbols) l.turns.variable x ≡ true) (sym g)
          (both (may_end_behind (length symbols) l.turns.variable o) (list_all (may_end_behind (length symbols) l.turns.variable) ms) f).0
      of_all (o ∷ ms) f (inr j) =
          of_all ms (both (may_end_behind (length symbols) l.turns.variable o) (list_all (may_end_behind (length symbols) l.turns.variable) ms) f).1 j

  one_over : (l : NestedLoop) → R l.turns.variable → stands_behind (length symbols) (l ∷ []) p l.turns.variable ≡ true
      → AreEndingsOver R (block (statements_or_none (after_statements symbols line l.round l.turns)))
  unfolding values_behind
  one_over l h e =
      subst (λ b. AreEndingsOver R (block (cond b (statements_or_none (after_statements symbols line l.round l.turns)) []))) e
      (front_over R (left_behind symbols line (l ∷ []) p l) [] (values_over R line symbols are (l ∷ []) p (h, tt)))

  each_free : (all ls : List NestedLoop) → ((l : NestedLoop) → In l ls → In l all)
      → ((l : NestedLoop) → In l ls → stands_behind (length symbols) all p l.turns.variable ≡ true → R l.turns.variable × ((e : Expression) → W l.turns.variable e))
      → AreFree R W (block (flat_map (left_behind symbols line all p) ls))
  each_free all [] among f = tt
  each_free all (l ∷ ls) among f =
      free_joined R W (left_behind symbols line all p l) (flat_map (left_behind symbols line all p) ls)
      (by (stands_behind (length symbols) all p l.turns.variable) refl)
      (each_free all ls (λ o i. among o (inr i)) (λ o i. f o (inr i)))
    where
      by : (b : Bool) → stands_behind (length symbols) all p l.turns.variable ≡ b
          → AreFree R W (block (cond b (statements_or_none (after_statements symbols line l.round l.turns)) []))
      by true e =
          let h = f l (inl refl) e in
          all_free l.turns.variable R W h.1 (block (statements_or_none (after_statements symbols line l.round l.turns)))
          (one_over l h.0 (alone all l (among l (inl refl)) e)) (after_gives l.turns.variable line symbols l.round l.turns refl)
      by false e = tt

  pub values_free : (ls : List NestedLoop)
      → ((l : NestedLoop) → In l ls → stands_behind (length symbols) ls p l.turns.variable ≡ true → R l.turns.variable × ((e : Expression) → W l.turns.variable e))
      → AreFree R W (values_behind symbols line ls p)
  unfolding values_behind
  values_free ls f = each_free ls ls (λ l i. i) f

-- ---- the variables of loops

module _ (symbols : List (List ℕ)) (S : Guarded → Type 0) (F : Loop → Type 0) (P : List ℕ → Type 0) (give : (l : Loop) → F l → P l.variable) where
  abbrev HasName : NestedLoop → Type 0
  HasName l = P l.turns.variable

  turned : (round : List NormalLoop) (l : Loop) (o : Option NormalLoop) (ps : Parts) → HaveZeros (length round) round → P l.variable → normal_loop symbols round l ≡ o
      → ((rs : List NormalLoop) → HaveZeros (length rs) rs → Each HasName (nested_in_parts symbols rs ps)) → Each HasName (nested round o ++ nested_in_parts symbols (with_loop round o) ps)
  turned round l None ps z s e inside = inside round z
  turned round l (Some r) ps z s e inside =
      let is = normal_loop_is symbols round l r z e in
      (subst P (sym is.variable) s, inside (round ++ r ∷ []) (zeros_more round r z is.value))

  mutual
    pub nested_named : (round : List NormalLoop) (p : Part) → HaveZeros (length round) round → EachIn S F p → Each HasName (nested_loops symbols round p)
    nested_named round (Run s) z h = tt
    nested_named round (Turns l ps) z h = turned round l (normal_loop symbols round l) ps z (give l h.0) refl (λ rs u. parts_named rs ps u h.1)
    nested_named round (Choice bs ps) z h =
        Each-append HasName (nested_in_branches symbols round bs) (nested_in_parts symbols round ps) (branches_named round bs z h.0) (parts_named round ps z h.1)
    nested_named round (Label k) z h = tt
    nested_named round (Jump k) z h = tt

    parts_named : (round : List NormalLoop) (ps : Parts) → HaveZeros (length round) round → EachInParts S F ps → Each HasName (nested_in_parts symbols round ps)
    parts_named round no_parts z h = tt
    parts_named round (part p ps) z h =
        Each-append HasName (nested_loops symbols round p) (nested_in_parts symbols round ps) (nested_named round p z h.0) (parts_named round ps z h.1)

    branches_named : (round : List NormalLoop) (bs : Branches) → HaveZeros (length round) round → EachInBranches S F bs → Each HasName (nested_in_branches symbols round bs)
    branches_named round no_branches z h = tt
    branches_named round (branch test ps bs) z h =
        Each-append HasName (nested_in_parts symbols round ps) (nested_in_branches symbols round bs) (parts_named round ps z h.0) (branches_named round bs z h.1)
