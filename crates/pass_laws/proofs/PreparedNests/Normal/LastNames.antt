-- The names in the last values behind a nest are those of its loop variables and symbols.
use Rattle.std.proofs.Common.{◌≡◌, ◌⊎◌, inl, inr, refl, sym, subst, ℕ, suc, ℤ, pos, negsuc, zero, Bool, true, false, cond, List, []}
use Rattle.std.proofs.Common.{◌∷◌, ◌++◌, Option, Some, None}
use Rattle.std.specs.List.{flat_map}
use Rattle.std.specs.Ordering.{int_eq}
use Rattle.std.specs.Prelude.{length, slice_get, ◌==◌, ⊤}
use Rattle.components.specs.Lists.{Each}
use Rattle.components.proofs.ListLaws.{Each-append}
use Rattle.meaning.specs.Reads.{names_in_block}
use Rattle.meaning.specs.Reads.{names_in_statement}
use Rattle.meaning.specs.Reads.{names_in, names_in_subscripts}
use Rattle.nest_order.proofs.orders.Lists.{In-append}
use Rattle.nest_order.specs.orders.Lists.{In}
use Rattle.tree.specs.Plain as tree
use Rattle.tree.specs.Plain.{Allocate, Arms, Assignment, Binary, Block, Deallocate, Declaration, Do, Expression, GoTo}
use Rattle.tree.specs.Plain.{If, Number, Print, Read, Reference, Statement, Stop, Subscripts, Where, arm}
use Rattle.tree.specs.Plain.{block, no_arms, no_statements, no_subscripts, statement}
use Rattle.tree.specs.declared.ops.Op.TheVariants.{And, Div, Mul}
use Rattle.last_values.specs.Behind.{stands_behind}
use Rattle.last_values.specs.ValuesBehind.{left_behind, statements_or_none, values_behind}
use Rattle.last_values.specs.Endings.{Texts, after_statements, all_hold, assigned, loop_ending, last_texts, only_where}
use Rattle.last_values.specs.Endings.{where_all_hold, with_last_forms}
use Rattle.last_values.specs.declared.behind.NestedLoop.{NestedLoop}
use Rattle.linear_forms.specs.Expressed.{minus_term, plus_term, term, variables, with_constant, with_term, with_terms}
use Rattle.linear_forms.specs.Texts.{places_behind, text_of, with_place, with_symbols}
use Rattle.normal_loops.specs.Loops.{nested, nested_in_branches, nested_in_parts, nested_loops, with_loop}
use Rattle.nest.specs.Plain.{Branches, branch, no_branches}
use Rattle.nest.specs.Plain.{Choice, Jump, Label, Loop, Part, Parts, Run, Turns, no_parts, part}
use Rattle.nest.specs.declared.parts.Trip.{Trip}
use Rattle.pass_laws.proofs.NormalFacts.FoundStatements.{IsShort, IsSource, IsSourceLoop}
use Rattle.pass_laws.proofs.NormalFacts.Texts.{IsOver, named}
use Rattle.last_values.specs.normal_forms.LastValues.{have_plain_trips, last_forms}
use Rattle.last_values.specs.normal_forms.LastTexts.{is_uncertain, last_end_text, last_trip_text}
use Rattle.last_values.specs.normal_forms.LastTexts.{plain_trip_text, plain_trip_texts, test_of, tests_of}
use Rattle.last_values.specs.normal_forms.NormalLoops.{is_known, is_positive, normal_loop}
use Rattle.last_values.specs.normal_forms.Texts.{at_least_one, quotient_text, trip_text}
use Rattle.last_values.specs.declared.normal_forms.last.LastForms.{LastForms}
use Rattle.last_values.specs.declared.normal_forms.loops.NormalLoop.{NormalLoop}
use Rattle.pass_laws.proofs.ReadyNests.LoopForms.{HaveZeros, normal_loop_is}
use Rattle.pass_laws.proofs.ReadyNests.NormalTrips.{zeros_more}
use Rattle.pass_laws.proofs.ReadyNests.Walk.{EachIn, EachInBranches, EachInParts}
use Rattle.subscripts.specs.declared.affine.Affine.{Affine}

-- ---- assignments to scalars, and IFs with one arm alone in which such statements stand, over names as is asked

abbrev pub IsNothing : Block → Type 0
IsNothing no_statements = ⊤
IsNothing (statement c cs) = ⊥

abbrev pub HasNoArms : Arms → Type 0
HasNoArms no_arms = ⊤
HasNoArms (arm test body more) = ⊥

module _ (P : List ℕ → Type 0) where
  abbrev mutual
    pub IsEndingOver : Statement → Type 0
    IsEndingOver (Assignment line mark left right) = (left.subscripts ≡ no_subscripts) × P left.name × IsOver P right
    IsEndingOver (If line arms other) = IsArmOver arms × IsNothing other
    IsEndingOver _ = ⊥

    pub IsArmOver : Arms → Type 0
    IsArmOver no_arms = ⊥
    IsArmOver (arm test body more) = IsOver P test × AreEndingsOver body × HasNoArms more

    pub AreEndingsOver : Block → Type 0
    AreEndingsOver no_statements = ⊤
    AreEndingsOver (statement c cs) = IsEndingOver c × AreEndingsOver cs

  -- ---- texts

  abbrev SoFar : Option Expression → Type 0
  SoFar None = Unit {0}
  SoFar (Some e) = IsOver P e

  term_over : (n : ℕ) (t : Expression) → IsOver P t → IsOver P (term n t)
  term_over n t h = by (n == 1)
    where
      by : (b : Bool) → IsOver P (cond b t (Binary Mul (Number (pos n)) t))
      by true = h
      by false = (tt, h)

  plus_over : (o : Option Expression) (t : Expression) → SoFar o → IsOver P t → IsOver P (plus_term o t)
  plus_over None t h k = k
  plus_over (Some e) t h k = (h, k)

  minus_over : (o : Option Expression) (t : Expression) → SoFar o → IsOver P t → IsOver P (minus_term o t)
  minus_over None t h k = k
  minus_over (Some e) t h k = (h, k)

  one_over : (o : Option Expression) (c : ℤ) (t : Expression) → SoFar o → IsOver P t → SoFar (with_term o c t)
  one_over o (pos zero) t h k = h
  one_over o (pos (suc n)) t h k = plus_over o (term (suc n) t) h (term_over (suc n) t k)
  one_over o (negsuc n) t h k = minus_over o (term (suc n) t) h (term_over (suc n) t k)

  terms_over : (o : Option Expression) (cs : List ℤ) (ts : List Expression) → SoFar o → Each (IsOver P) ts
      → SoFar (with_terms o cs ts)
  terms_over o [] ts h k = h
  terms_over o (c ∷ cs) [] h k = h
  terms_over o (c ∷ cs) (t ∷ ts) h k = terms_over (with_term o c t) cs ts (one_over o c t h k.0) k.1

  constant_over : (o : Option Expression) (z : ℤ) → SoFar o → IsOver P (with_constant o z)
  constant_over None (pos n) h = tt
  constant_over None (negsuc n) h = tt
  constant_over (Some e) (pos zero) h = h
  constant_over (Some e) (pos (suc n)) h = (h, tt)
  constant_over (Some e) (negsuc n) h = (h, tt)

  at_place : (ts : List Expression) (k : ℕ) (t : Expression) → Each (IsOver P) ts → slice_get ts k ≡ Some t → IsOver P t
  at_place [] k t h e = let no : ⊥ = cc in absurd no
  at_place (u ∷ ts) zero t h e = let same : u ≡ t = cc in subst (IsOver P) same h.0
  at_place (u ∷ ts) (suc k) t h e = at_place ts k t h.1 e

  place_over : (o : Option Expression) (c : ℤ) (q : Option Expression) → SoFar o → SoFar q → SoFar (with_place o c q)
  place_over o c None h k = h
  place_over o c (Some t) h k = one_over o c t h k

  got : (ts : List Expression) (k : ℕ) → Each (IsOver P) ts → SoFar (slice_get ts k)
  got ts k h = by (slice_get ts k) refl
    where
      by : (q : Option Expression) → slice_get ts k ≡ q → SoFar q
      by None e = tt
      by (Some t) e = at_place ts k t h e

  symbols_over : (o : Option Expression) (ss : List (ℕ × ℤ)) (ts : List Expression) → SoFar o → Each (IsOver P) ts
      → SoFar (with_symbols o ss ts)
  symbols_over o [] ts h k = h
  symbols_over o (s ∷ ss) ts h k =
      symbols_over (with_place o s.1 (slice_get ts s.0)) ss ts (place_over o s.1 (slice_get ts s.0) h (got ts s.0 k)) k

  variables_over : (xs : List (List ℕ)) → Each P xs → Each (IsOver P) (variables xs)
  variables_over [] h = tt
  variables_over (x ∷ xs) h = ((h.0, tt), variables_over xs h.1)

  quotient_over : (e : Expression) (z : ℤ) → IsOver P e → IsOver P (quotient_text e z)
  quotient_over e z h = by (int_eq z (pos 1))
    where
      by : (b : Bool) → IsOver P (cond b e (Binary Div e (Number z)))
      by true = h
      by false = (h, tt)

  -- ---- statements

  joined : (cs ds : List Statement) → AreEndingsOver (block cs) → AreEndingsOver (block ds)
      → AreEndingsOver (block (cs ++ ds))
  joined [] ds h k = k
  joined (c ∷ cs) ds h k = (h.0, joined cs ds h.1 k)

  hold_over : (e : Expression) (ts : List Expression) → IsOver P e → Each (IsOver P) ts → IsOver P (all_hold e ts)
  hold_over e [] h k = h
  hold_over e (t ∷ ts) h k = hold_over (Binary And e t) ts (h, k.0) k.1

  module _ (line : ℕ) where
    ending_over : (v : List ℕ) (trip : Trip) (t : Texts) → P v → IsOver P t.first → IsOver P t.trip → IsOver P t.end
        → AreEndingsOver (block (loop_ending line v trip t))
    ending_over v trip t h first turns end = by (is_positive trip) (is_known trip)
      where
        by : (b c : Bool) → AreEndingsOver
            (block (cond b (assigned line v t.end ∷ [])
            (cond c (assigned line v t.first ∷ [])
            (assigned line v t.first ∷ only_where line (at_least_one t.trip) (assigned line v t.end ∷ []) ∷ []))))
        by true c = ((refl, h, end), tt)
        by false true = ((refl, h, first), tt)
        by false false = ((refl, h, first), ((((turns, tt), ((refl, h, end), tt), tt), tt), tt))

    where_over : (ts : List Expression) (cs : List Statement) → Each (IsOver P) ts → AreEndingsOver (block cs)
        → AreEndingsOver (block (where_all_hold line ts cs))
    where_over [] cs h k = k
    where_over (t ∷ ts) cs h k = (((hold_over t ts h.0 h.1, k, tt), tt), tt)

    module _ (symbols : List (List ℕ)) (are : Each P symbols) where
      text_over : (trips : List Expression) (a : Affine) → Each (IsOver P) trips → IsOver P (text_of [] symbols trips a)
      text_over trips a t =
          constant_over (with_symbols (with_terms None a.loops (variables [])) a.syms
          (places_behind symbols trips)) a.constant
          (symbols_over (with_terms None a.loops (variables [])) a.syms (places_behind symbols trips)
          (terms_over None a.loops (variables []) tt tt)
          (Each-append (IsOver P) (variables symbols) trips (variables_over symbols are) t))

      trip_over : (trips : List Expression) (t : Trip) → Each (IsOver P) trips → IsOver P (trip_text [] symbols trips t)
      unfolding trip_text
      trip_over trips t h = quotient_over (text_of [] symbols trips t.top) t.by (text_over trips t.top h)

      plain_over : (r : NormalLoop) → IsOver P (plain_trip_text symbols r)
      unfolding plain_trip_text
      plain_over r = trip_over [] r.trip tt

      all_plain : (rs : List NormalLoop) → Each (IsOver P) (plain_trip_texts symbols rs)
      all_plain [] = tt
      all_plain (r ∷ rs) = (plain_over r, all_plain rs)

      one_test : (r : NormalLoop) → Each (IsOver P) (test_of symbols r)
      one_test r = by (is_uncertain r)
        where
          by : (b : Bool) → Each (IsOver P) (cond b (at_least_one (plain_trip_text symbols r) ∷ []) [])
          by true = ((plain_over r, tt), tt)
          by false = tt

      all_tests : (rs : List NormalLoop) → Each (IsOver P) (tests_of symbols rs)
      all_tests [] = tt
      all_tests (r ∷ rs) = Each-append (IsOver P) (test_of symbols r) (tests_of symbols rs) (one_test r) (all_tests rs)

      module _ (round : List NormalLoop) (f : LastForms) where
        abbrev trips : List Expression
        trips = plain_trip_texts symbols round

        turns_over : IsOver P (last_trip_text symbols round f)
        turns_over = trip_over trips f.trip (all_plain round)

        end_over : IsOver P (last_end_text symbols round f)
        unfolding last_end_text
        end_over =
            text_over (trips ++ last_trip_text symbols round f ∷ []) f.end
            (Each-append (IsOver P) trips (last_trip_text symbols round f ∷ []) (all_plain round) (turns_over, tt))

        behind_over : (v : List ℕ) → P v
            → AreEndingsOver (block (where_all_hold line (tests_of symbols round)
            (loop_ending line v f.trip (last_texts symbols round f))))
        behind_over v h =
            where_over (tests_of symbols round) (loop_ending line v f.trip (last_texts symbols round f)) (all_tests round)
            (ending_over v f.trip (last_texts symbols round f) h
            (text_over trips f.first (all_plain round)) turns_over end_over)

      after_over : (round : List NormalLoop) (r : NormalLoop) → P r.variable
          → AreEndingsOver (block (statements_or_none (after_statements symbols line round r)))
      unfolding after_statements
      after_over round r h = by (have_plain_trips round) (last_forms (length symbols) round r)
        where
          by : (b : Bool) (o : Option LastForms)
              → AreEndingsOver (block (statements_or_none (cond b (with_last_forms symbols line round r o) None)))
          by true None = tt
          by true (Some f) = behind_over round f r.variable h
          by false o = tt

      abbrev pub IsNestedOver : NestedLoop → Type 0
      IsNestedOver l = P l.turns.variable

      left_over : (ls : List NestedLoop) (p : Part) (l : NestedLoop) → IsNestedOver l
          → AreEndingsOver (block (left_behind symbols line ls p l))
      left_over ls p l h = by (stands_behind (length symbols) ls p l.turns.variable)
        where
          by : (b : Bool) → AreEndingsOver (block (cond b (statements_or_none (after_statements symbols line l.round l.turns)) []))
          by true = after_over l.round l.turns h
          by false = tt

      each_left : (all : List NestedLoop) (p : Part) (ls : List NestedLoop) → Each IsNestedOver ls
          → AreEndingsOver (block (flat_map (left_behind symbols line all p) ls))
      each_left all p [] h = tt
      each_left all p (l ∷ ls) h =
          joined (left_behind symbols line all p l) (flat_map (left_behind symbols line all p) ls)
          (left_over all p l h.0) (each_left all p ls h.1)

      pub values_over : (ls : List NestedLoop) (p : Part) → Each IsNestedOver ls
          → AreEndingsOver (values_behind symbols line ls p)
      unfolding values_behind
      values_over ls p h = each_left ls p ls h

-- ---- the variables of loops have names of a source

module _ (es : List Declaration) (symbols : List (List ℕ)) where
  abbrev IsShortLoop : NestedLoop → Type 0
  IsShortLoop l = IsShort l.turns.variable

  turned : (round : List NormalLoop) (l : Loop) (o : Option NormalLoop) (ps : Parts) → HaveZeros (length round) round
      → IsShort l.variable → normal_loop symbols round l ≡ o
      → ((rs : List NormalLoop) → HaveZeros (length rs) rs → Each IsShortLoop (nested_in_parts symbols rs ps))
      → Each IsShortLoop (nested round o ++ nested_in_parts symbols (with_loop round o) ps)
  turned round l None ps z s e inside = inside round z
  turned round l (Some r) ps z s e inside =
      let is = normal_loop_is symbols round l r z e in
      (subst IsShort (sym is.variable) s, inside (round ++ r ∷ []) (zeros_more round r z is.value))

  mutual
    pub nested_short : (round : List NormalLoop) (p : Part) → HaveZeros (length round) round
        → EachIn (IsSource es symbols) (IsSourceLoop es symbols) p
        → Each IsShortLoop (nested_loops symbols round p)
    nested_short round (Run s) z h = tt
    nested_short round (Turns l ps) z h =
        turned round l (normal_loop symbols round l) ps z h.0.short refl (λ rs u. parts_short rs ps u h.1)
    nested_short round (Choice bs ps) z h =
        Each-append IsShortLoop (nested_in_branches symbols round bs) (nested_in_parts symbols round ps)
        (branches_short round bs z h.0) (parts_short round ps z h.1)
    nested_short round (Label k) z h = tt
    nested_short round (Jump k) z h = tt

    parts_short : (round : List NormalLoop) (ps : Parts) → HaveZeros (length round) round
        → EachInParts (IsSource es symbols) (IsSourceLoop es symbols) ps
        → Each IsShortLoop (nested_in_parts symbols round ps)
    parts_short round no_parts z h = tt
    parts_short round (part p ps) z h =
        Each-append IsShortLoop (nested_loops symbols round p) (nested_in_parts symbols round ps)
        (nested_short round p z h.0) (parts_short round ps z h.1)

    branches_short : (round : List NormalLoop) (bs : Branches) → HaveZeros (length round) round
        → EachInBranches (IsSource es symbols) (IsSourceLoop es symbols) bs
        → Each IsShortLoop (nested_in_branches symbols round bs)
    branches_short round no_branches z h = tt
    branches_short round (branch test ps bs) z h =
        Each-append IsShortLoop (nested_in_parts symbols round ps) (nested_in_branches symbols round bs)
        (parts_short round ps z h.0) (branches_short round bs z h.1)

-- ---- names in a block

module _ (P : List ℕ → Type 0) where
  abbrev AllNames : List (List ℕ) → Type 0
  AllNames xs = (x : List ℕ) → In x xs → P x

  joined_names : (xs ys : List (List ℕ)) → AllNames xs → AllNames ys → AllNames (xs ++ ys)
  joined_names xs ys f g x i = by (In-append x xs ys i)
    where
      by : In x xs ⊎ In x ys → P x
      by (inl j) = f x j
      by (inr j) = g x j

  assignment_names : (left : Reference) (right : Expression) → (left.subscripts ≡ no_subscripts) × P left.name × IsOver P right
      → AllNames (left.name ∷ (names_in_subscripts left.subscripts ++ names_in right))
  assignment_names left right h x (inl e) = subst P (sym e) h.1
  assignment_names left right h x (inr i) = by left.subscripts h.0 i
    where
      by : (ss : Subscripts) → ss ≡ no_subscripts → In x (names_in_subscripts ss ++ names_in right) → P x
      by ss e j = named P right h.2 x (subst (λ ss. In x (names_in_subscripts ss ++ names_in right)) e j)

  mutual
    statement_names : (c : Statement) → IsEndingOver P c → AllNames (names_in_statement c)
    statement_names (Assignment line mark left right) h = assignment_names left right h
    statement_names (If line (arm test body no_arms) no_statements) h =
        joined_names (names_in test ++ names_in_block body ++ []) []
        (joined_names (names_in test ++ names_in_block body) []
        (joined_names (names_in test) (names_in_block body) (λ x i. named P test h.0.0 x i) (block_names body h.0.1)) (λ x i. absurd i)) (λ x i. absurd i)
    statement_names (If line (arm test body no_arms) (statement c cs)) h = absurd h.1
    statement_names (If line (arm test body (arm u d ms)) other) h = absurd h.0.2
    statement_names (If line no_arms other) h = absurd h.0
    statement_names (Where line mark mask left right) h = absurd h
    statement_names (Do line x a b c body) h = absurd h
    statement_names (tree.Label n) h = absurd h
    statement_names (GoTo line n) h = absurd h
    statement_names (Stop line) h = absurd h
    statement_names (Read line is) h = absurd h
    statement_names (Print line is) h = absurd h
    statement_names (Allocate line x es) h = absurd h
    statement_names (Deallocate line x) h = absurd h

    pub block_names : (b : Block) → AreEndingsOver P b → AllNames (names_in_block b)
    block_names no_statements h = λ x i. absurd i
    block_names (statement c cs) h = joined_names (names_in_statement c) (names_in_block cs) (statement_names c h.0) (block_names cs h.1)
