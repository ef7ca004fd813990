-- Names of a program in FORTRAN 77 have as many subscripts as dimensions.
use Rattle.std.proofs.Common.{◌≡◌, refl, sym, ap, ◌∙◌, ℕ, ◌≤◌, Bool, true, false, cond, ◌&&◌, not, List, [], ◌∷◌, ◌++◌, map, filter, length, length-append, Option, Some, None, Contains, arith}
use Rattle.std.specs.Prelude.{IsSomeAnd, codes, decimal}
use Rattle.std.specs.List.{list_any}
use Rattle.std.specs.Str.{bytes_eq}
use Rattle.tree.specs.Plain.{Expression, Number, Logic, Named, Unary, Binary, Apply, Constructor, Spread, Transpose, Reshape, Reduce, Expressions, no_expressions, expression, Subscript, Only, Section, Subscripts, no_subscripts, subscript, Reference}
use Rattle.tree.specs.Plain.{Statement, Assignment, Where, If, Do, Label, GoTo, Stop, Read, Print, Allocate, Deallocate, Arms, no_arms, arm, Block, no_statements, statement, Extent, Given, Later, Declaration}
use Rattle.tree.specs.declared.ops.Kind.{Kind}
use Rattle.tree.specs.declared.ops.Kind.TheVariants.{Integer}
use Rattle.tree.specs.OperatorTable.{operand_kind}
use Rattle.meaning.specs.Dialect.{Dialect}
use Rattle.meaning.specs.Typed77.{HasKind, AreArguments, AreSubscripts, IsSubscript, IsWhole, IsDoVariable}
use Rattle.meaning.specs.Typed.{declared, dimensions, number_of_subscripts}
use Rattle.meaning.specs.Blocks.{Surroundings, within_loop, before_labels, labels_of}
use Rattle.meaning.specs.Profile77.{AreDeclarations, IsDeclaration, IsAssignment, IsStatement, AreArms, IsBlock}
use Rattle.linear_forms.proofs.Sizes.{both}
use Rattle.meaning_laws.proofs.profiles.Lists.{here, there, all_at}
use Rattle.meaning_laws.proofs.profiles.Names.{found, once}
use Rattle.components.specs.Lists.{Each}
use Rattle.components.proofs.ListLaws.{Each-append}
use Rattle.nest.specs.Plain.{Loop, Guarded, Part, parts}
use Rattle.nest_reasons.specs.Symbols.{is_integer, is_scalar_extent, is_integer_scalar, is_symbol, symbols_of}
use Rattle.rewrite.specs.Names.{names_written_in}
use Rattle.find_nests.specs.nest_parts.Numbers.{next_loop_number, number_after, after_arms, after_block}
use Rattle.find_nests.specs.nest_parts.Statements.{parts_of, branches_of, parts_of_block}
use Rattle.find_nests.specs.Loops.{SourceLoop, SurroundedLoop, loops_in, loops_in_arms, loops_in_block}
use Rattle.dependence_graph.specs.nest_graph.Ready.{subscript_count}
use Rattle.last_values.specs.normal_forms.NormalLoops.{counter_name}
use Rattle.pass_laws.proofs.ReadyNests.Ranks.{HasRanks, HaveRanksEach, HaveRanks, IsRanked, AreScalars}
use Rattle.pass_laws.proofs.ReadyNests.Walk.{EachInParts, EachInBranches}

-- ---- ranks by the declarations

abbrev pub rank_or_zero : Option Declaration → ℕ
rank_or_zero None = 0
rank_or_zero (Some d) = length (dimensions d.extent)

-- 0 where the name isn't declared
abbrev pub rank_in : List Declaration → List ℕ → ℕ
rank_in ds x = rank_or_zero (declared ds x)

abbrev pub GuardHasRanks : (List ℕ → ℕ) → Option Expression → Type 0
GuardHasRanks rank None = Unit {0}
GuardHasRanks rank (Some e) = HasRanks rank e

-- a statement in which each name has as many subscripts as its rank
pub record IsRankedStatement (rank : List ℕ → ℕ) (s : Guarded) : Type 0 where
  pub guard : GuardHasRanks rank s.guard
  pub count : subscript_count s.left.subscripts ≡ rank s.left.name
  pub left : HaveRanks rank s.left.subscripts
  pub right : HasRanks rank s.right

abbrev pub HasScalar : (List ℕ → ℕ) → Loop → Type 0
HasScalar rank l = rank l.variable ≡ 0

module _ (ds : List Declaration) where
  count_is : (ss : Subscripts) → subscript_count ss ≡ number_of_subscripts ss
  count_is no_subscripts = refl
  count_is (subscript s ss) = let more = count_is ss in omega (arith, more)

  named : (x : List ℕ) (ss : Subscripts) (k : Kind) → IsSomeAnd (declared ds x) (λ (d : Declaration). (k ≡ d.kind) × (number_of_subscripts ss ≡ length (dimensions d.extent)))
      → subscript_count ss ≡ rank_in ds x
  named x ss k h = by (declared ds x) h
    where
      by : (o : Option Declaration) → IsSomeAnd o (λ (d : Declaration). (k ≡ d.kind) × (number_of_subscripts ss ≡ length (dimensions d.extent))) → subscript_count ss ≡ rank_or_zero o
      by None g = absurd g
      by (Some d) g = count_is ss ∙ g.1

  mutual
    ranked : (e : Expression) (k : Kind) → HasKind ds e k → HasRanks (rank_in ds) e
    ranked (Number n) k h = tt
    ranked (Logic b) k h = tt
    ranked (Named x ss) k h = (named x ss k h.0, ranked_in ss h.1)
    ranked (Unary o a) k h = ranked a (operand_kind o) h.2
    ranked (Binary o a b) k h = (ranked a (operand_kind o) h.2, ranked b (operand_kind o) h.3)
    ranked (Apply f es) k h = ranked_each es h.3
    ranked (Constructor es ls) k h = absurd h
    ranked (Spread a n e) k h = absurd h
    ranked (Transpose a) k h = absurd h
    ranked (Reshape a es) k h = absurd h
    ranked (Reduce r a) k h = absurd h

    ranked_each : (es : Expressions) → AreArguments ds es → HaveRanksEach (rank_in ds) es
    ranked_each no_expressions h = tt
    ranked_each (expression e es) h = (ranked e Integer h.0, ranked_each es h.1)

    ranked_in : (ss : Subscripts) → AreSubscripts ds ss → HaveRanks (rank_in ds) ss
    ranked_in no_subscripts h = tt
    ranked_in (subscript s ss) h = (ranked_one s h.0, ranked_in ss h.1)

    ranked_one : (s : Subscript) → IsSubscript ds s → IsRanked (rank_in ds) s
    ranked_one (Only e) h = ranked e Integer h
    ranked_one (Section a b s) h = absurd h

  -- ---- statements

  assigned : (line : ℕ) (left : Reference) (right : Expression) (w : Surroundings) → IsAssignment ds left right w
      → IsRankedStatement (rank_in ds) (record { line = line; guard = None; left = left; right = right })
  assigned line left right w h = by (declared ds left.name) h.0
    where
      by : (o : Option Declaration) → IsSomeAnd o (λ (d : Declaration). IsWhole ds (Named left.name left.subscripts) d.kind × IsWhole ds right d.kind)
          → IsRankedStatement (rank_in ds) (record { line = line; guard = None; left = left; right = right })
      by None g = absurd g
      by (Some d) g =
          let l = ranked (Named left.name left.subscripts) d.kind g.0.suits in
          record { guard = tt; count = l.0; left = l.1; right = ranked right d.kind g.1.suits }

  scalar : (x : List ℕ) (w : List (List ℕ)) → IsDoVariable ds x w → rank_in ds x ≡ 0
  scalar x w h = sym (named x no_subscripts Integer h.integer.0)

  followed : (ps qs : List Part) → EachInParts (IsRankedStatement (rank_in ds)) (HasScalar (rank_in ds)) (parts ps) → EachInParts (IsRankedStatement (rank_in ds)) (HasScalar (rank_in ds)) (parts qs)
      → EachInParts (IsRankedStatement (rank_in ds)) (HasScalar (rank_in ds)) (parts (ps ++ qs))
  followed [] qs h k = k
  followed (p ∷ ps) qs h k = (h.0, followed ps qs h.1 k)

  mutual
    parts_ranked : (k : ℕ) (c : Statement) (w : Surroundings) → IsStatement ds c w → EachInParts (IsRankedStatement (rank_in ds)) (HasScalar (rank_in ds)) (parts (parts_of k c))
    parts_ranked k (Assignment l mark left right) w h = (assigned l left right w h.2, tt)
    parts_ranked k (Where l mark mask left right) w h = absurd h
    parts_ranked k (If l arms other) w h = ((parts_ranked_arms k arms w h.2, parts_ranked_block (after_arms k arms) other w h.3), tt)
    parts_ranked k (Do l x a b c body) w h = ((scalar x w.variables h.1, parts_ranked_block (next_loop_number k) body (within_loop x w) h.5), tt)
    parts_ranked k (Label n) w h = (tt, tt)
    parts_ranked k (GoTo l n) w h = (tt, tt)
    parts_ranked k (Stop l) w h = tt
    parts_ranked k (Read l is) w h = tt
    parts_ranked k (Print l is) w h = tt
    parts_ranked k (Allocate l x es) w h = absurd h
    parts_ranked k (Deallocate l x) w h = absurd h

    parts_ranked_arms : (k : ℕ) (arms : Arms) (w : Surroundings) → AreArms ds arms w → EachInBranches (IsRankedStatement (rank_in ds)) (HasScalar (rank_in ds)) (branches_of k arms)
    parts_ranked_arms k no_arms w h = tt
    parts_ranked_arms k (arm test body arms) w h = (parts_ranked_block k body w h.1, parts_ranked_arms (after_block k body) arms w h.2)

    parts_ranked_block : (k : ℕ) (b : Block) (w : Surroundings) → IsBlock ds b w → EachInParts (IsRankedStatement (rank_in ds)) (HasScalar (rank_in ds)) (parts (parts_of_block k b))
    parts_ranked_block k no_statements w h = tt
    parts_ranked_block k (statement c cs) w h =
        followed (parts_of k c) (parts_of_block (number_after k c) cs) (parts_ranked k c (before_labels (labels_of cs) w) h.0) (parts_ranked_block (number_after k c) cs w h.1)

  -- ---- the loops of a program

  -- a loop whose variable is a scalar, and whose body has ranks, whichever number it gets
  pub record IsRankedLoop (q : SurroundedLoop) : Type 0 where
    pub variable : rank_in ds q.loop.loop.variable ≡ 0
    pub body : (k : ℕ) → EachInParts (IsRankedStatement (rank_in ds)) (HasScalar (rank_in ds)) (parts (parts_of_block k q.loop.loop.body))

  mutual
    loops_ranked : (k : ℕ) (around : List SourceLoop) (c : Statement) (w : Surroundings) → IsStatement ds c w → Each IsRankedLoop (loops_in k around c)
    loops_ranked k around (Assignment l mark left right) w h = tt
    loops_ranked k around (Where l mark mask left right) w h = tt
    loops_ranked k around (If l arms other) w h =
        Each-append IsRankedLoop (loops_in_arms k around arms) (loops_in_block (after_arms k arms) around other)
        (loops_ranked_arms k around arms w h.2) (loops_ranked_block (after_arms k arms) around other w h.3)
    loops_ranked k around (Do l x a b c body) w h = (
      record { variable = scalar x w.variables h.1; body = λ m. parts_ranked_block m body (within_loop x w) h.5 },
      loops_ranked_block (next_loop_number k) (around ++ record { line = l; variable = x; first = a; last = b; step = c; body = body } ∷ []) body (within_loop x w) h.5,
    )
    loops_ranked k around (Label n) w h = tt
    loops_ranked k around (GoTo l n) w h = tt
    loops_ranked k around (Stop l) w h = tt
    loops_ranked k around (Read l is) w h = tt
    loops_ranked k around (Print l is) w h = tt
    loops_ranked k around (Allocate l x es) w h = tt
    loops_ranked k around (Deallocate l x) w h = tt

    loops_ranked_arms : (k : ℕ) (around : List SourceLoop) (arms : Arms) (w : Surroundings) → AreArms ds arms w → Each IsRankedLoop (loops_in_arms k around arms)
    loops_ranked_arms k around no_arms w h = tt
    loops_ranked_arms k around (arm test body arms) w h =
        Each-append IsRankedLoop (loops_in_block k around body) (loops_in_arms (after_block k body) around arms)
        (loops_ranked_block k around body w h.1) (loops_ranked_arms (after_block k body) around arms w h.2)

    pub loops_ranked_block : (k : ℕ) (around : List SourceLoop) (b : Block) (w : Surroundings) → IsBlock ds b w → Each IsRankedLoop (loops_in_block k around b)
    loops_ranked_block k around no_statements w h = tt
    loops_ranked_block k around (statement c cs) w h =
        Each-append IsRankedLoop (loops_in k around c) (loops_in_block (number_after k c) around cs)
        (loops_ranked k around c (before_labels (labels_of cs) w) h.0) (loops_ranked_block (number_after k c) around cs w h.1)

  -- ---- the ranks of names

  module _ (d : Dialect) (are : AreDeclarations d ds) where
    pub few_dimensions : (x : List ℕ) → rank_in ds x ≤ 7
    few_dimensions x = by (declared ds x) refl
      where
        by : (o : Option Declaration) → declared ds x ≡ o → rank_or_zero o ≤ 7
        by None e = omega arith
        by (Some c) e =
            let f = found ds x c e in
            let is = all_at (IsDeclaration d) ds c are.each f.among in
            is.few

    pub counter_rank : (k : ℕ) → rank_in ds (counter_name k) ≡ 0
    counter_rank k = by (declared ds (counter_name k)) refl
      where
        by : (o : Option Declaration) → declared ds (counter_name k) ≡ o → rank_or_zero o ≡ 0
        by None e = refl
        by (Some c) e =
            let f = found ds (counter_name k) c e in
            let is = all_at (IsDeclaration d) ds c are.each f.among in
            let short : length c.name ≤ 6 = is.name.within in
            let same : length c.name ≡ length (codes "FV_LOOP_" ++ decimal k) = ap (λ (x : List ℕ). length x) f.name in
            let long = length-append (codes "FV_LOOP_") (decimal k) in
            absurd (omega (arith, short, same, long))

    no_dimensions : (x : Extent) → is_scalar_extent x ≡ true → length (dimensions x) ≡ 0
    no_dimensions (Given []) h = refl
    no_dimensions (Given (b ∷ bs)) h = let no : ⊥ = cc in absurd no
    no_dimensions (Later n) h = refl

    symbol_rank : (c : Declaration) → Contains ds c → is_integer_scalar c ≡ true → rank_in ds c.name ≡ 0
    symbol_rank c among h =
        ap rank_or_zero (once ds c are.ordered among) ∙ no_dimensions c.extent (both (is_integer c.kind) (is_scalar_extent c.extent) h).1

    symbols_ranks : (x : List ℕ) (written : List (List ℕ)) (cs : List Declaration) → ((c : Declaration) → Contains cs c → Contains ds c)
        → AreScalars (rank_in ds) (map (λ (c : Declaration). c.name) (filter (is_symbol x written) cs))
    symbols_ranks x written [] sub = tt
    symbols_ranks x written (c ∷ cs) sub = by (is_symbol x written c) refl (symbols_ranks x written cs (λ e i. sub e (there c cs e i)))
      where
        by : (b : Bool) → is_symbol x written c ≡ b → AreScalars (rank_in ds) (map (λ (c : Declaration). c.name) (filter (is_symbol x written) cs))
            → AreScalars (rank_in ds) (map (λ (c : Declaration). c.name) (cond b (c ∷ filter (is_symbol x written) cs) (filter (is_symbol x written) cs)))
        by true e rest =
            (symbol_rank c (sub c (here c cs)) (both (is_integer_scalar c) (not (bytes_eq c.name x) && not (list_any (bytes_eq c.name) written)) e).0, rest)
        by false e rest = rest

    pub symbols_are_scalars : (x : List ℕ) (body : Block) → AreScalars (rank_in ds) (symbols_of ds x body)
    symbols_are_scalars x body = symbols_ranks x (names_written_in body) ds (λ c i. i)

  symbols_within : (test : Declaration → Bool) (cs : List Declaration) → length (map (λ (c : Declaration). c.name) (filter test cs)) ≤ length cs
  symbols_within test [] = omega arith
  symbols_within test (c ∷ cs) = by (test c) (symbols_within test cs)
    where
      by : (b : Bool) → length (map (λ (c : Declaration). c.name) (filter test cs)) ≤ length cs
          → length (map (λ (c : Declaration). c.name) (cond b (c ∷ filter test cs) (filter test cs))) ≤ length (c ∷ cs)
      by true h = omega (arith, h)
      by false h = omega (arith, h)

  pub few_symbols : (x : List ℕ) (body : Block) → length (symbols_of ds x body) ≤ length ds
  few_symbols x body = symbols_within (is_symbol x (names_written_in body)) ds
