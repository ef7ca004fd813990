-- Statements in canonical text by all symbols of a nest.
use Rattle.std.proofs.Common.{◌≡◌, ◌⊎◌, inr, refl, sym, ap, ◌∙◌, subst, ℕ, ◌+◌, ◌≤◌, List, [], ◌∷◌, ◌++◌, length, Option, Some, None, IfSome, Contains, arith}
use Rattle.std.specs.Option.{IsSomeAnd}
use Rattle.std.specs.Prelude.{All, pos}
use Rattle.std.proofs.lemmas.List.{length-map}
use Rattle.std.proofs.lemmas.List.Elements.{All-cons, All-head, All-nil, All-tail}
use Rattle.components.specs.Lists.{Each}
use Rattle.components.proofs.ListLaws.{Each-append}
use Rattle.tree.specs.Names.{IsSourceName}
use Rattle.tree.specs.Plain.{Assignment, Declaration, Expression, Number, Reference, no_statements, no_subscripts, statement}
use Rattle.tree.specs.declared.ops.Kind.{Kind}
use Rattle.tree.specs.declared.ops.Kind.TheVariants.{Integer, Logical}
use Rattle.meaning.specs.Depths.{depth_of}
use Rattle.meaning.specs.Names.{IsInByteOrder}
use Rattle.meaning.specs.Typed.{declared, rank_of_extent}
use Rattle.meaning.specs.Typed90.{IsIntegerScalar, IsScalar}
use Rattle.meaning.specs.Value.{named}
use Rattle.rewrite.proofs.Profiles.{Becomes-left, Becomes-made, depth-alone}
use Rattle.rewrite.specs.Making.{Making, made, made_left}
use Rattle.rewrite.specs.Profile.{DeclaresAlso, KeepsProfile}
use Rattle.rewrite.specs.Suits.{Suits, SuitsLeft}
use Rattle.linear_forms.proofs.AllSuit.{suits_block}
use Rattle.linear_forms.proofs.CanonicalProfile.{canonising_keeps_profile}
use Rattle.linear_forms.specs.Canonical.{canonising}
use Rattle.linear_forms.specs.CanonicalLaws.{AreDistinct, AreIntegerScalars, all_suit}
use Rattle.nest.specs.Bodies.{Standing}
use Rattle.nest.specs.Plain.{Guarded, Loop, Nest}
use Rattle.nest_order.specs.orders.Lists.{In}
use Rattle.nest_order.specs.runs.Guarded.{names_of}
use Rattle.nest_order.specs.shapes.Shapes.{numbers_of}
use Rattle.nest_rewrite.specs.Statements.{rewritten_statement}
use Rattle.pass_laws.proofs.NormalFacts.MadeStatements.{IsKnown, short_known}
use Rattle.pass_laws.proofs.NormalFacts.Tables.{all_in, each_from}
use Rattle.pass_laws.proofs.NormalFacts.Texts.{IsStatementOver}
use Rattle.pass_laws.proofs.ReadyNests.Lists.{Each-All}
use Rattle.pass_laws.specs.normal_facts.Laws.{IsCounter}
use Rattle.pass_laws.specs.prepared_nests.Loops.{IsPreparedLoop, variables_of_loops}
use Rattle.pass_laws.specs.prepared_nests.Nests.{IsPreparedSymbol}
use Rattle.pass_laws.specs.prepared_nests.Statements.{IsCanonical, IsOwn, IsPreparedStatement, assignment, expressions_of, guard_or_none, made_names}
use Rattle.pass_laws.proofs.PreparedNests.Lists.{Contains-In, below_32, ordered_distinct}
use Rattle.pass_laws.proofs.PreparedNests.Normal.Conditions.{known_variables}
use Rattle.pass_laws.proofs.PreparedNests.Normal.Statements.{canonical_is, own_names, plain_statement}
use Rattle.pass_laws.proofs.PreparedNests.Trips.{BearsNumber, bears_number, names_apart}
use Rattle.pass_laws.proofs.PreparedNests.Walks.{AreRound, Follow, few}
use Rattle.symbols_anew.specs.Nests.{canonised}
use Rattle.prepared_passes.proofs.SymbolsAnew.Comes.{IsStatementBut}
use Rattle.prepared_passes.proofs.SymbolsAnew.Over.{settled_statement, statement_over}

-- ---- kinds and depths

alike : (es : List Declaration) → DeclaresAlso es es
alike es = record { names = λ x d e. e; free = λ f h. h }

suits : (m : Making) (e : Expression) → Suits m all_suit e
suits m e = (suits_block m (statement (Assignment 0 None (record { name = []; subscripts = no_subscripts }) e) no_statements)).0.1

suits_left : (m : Making) (r : Reference) → SuitsLeft m all_suit r
suits_left m r = (suits_block m (statement (Assignment 0 None r (Number (pos 0))) no_statements)).0.0

scalars_are : (es : List Declaration) (xs : List (List ℕ)) → Each (IsIntegerScalar es) xs → AreIntegerScalars es xs
scalars_are es [] h = tt
scalars_are es (x ∷ xs) h = (h.0, scalars_are es xs h.1)

counter_integer : (o : Option Declaration) → IsSomeAnd o IsCounter → IsSomeAnd o (λ (d : Declaration). (d.kind ≡ Integer) × (rank_of_extent d.extent ≡ 0))
counter_integer None h = absurd h
counter_integer (Some e) h = (h.kind, ap rank_of_extent h.scalar)

record IsScalarIn (es : List Declaration) (e : Expression) (k : Kind) (d : ℕ) : Type 0 where
  kind : IsScalar es e k
  deep : depth_of e ≤ d

module _ (es : List Declaration) (loops symbols : List (List ℕ)) (integers : Each (IsIntegerScalar es) (loops ++ symbols)) where
  keeps : KeepsProfile es 18 (canonising loops symbols) all_suit
  keeps = canonising_keeps_profile loops symbols es (scalars_are es (loops ++ symbols) integers)

  deeper : (a b d : ℕ) → a ≤ b + 18 → b ≤ d → a ≤ d + 18
  deeper a b d h k = omega (arith, h, k)

  scalar_settled : (e : Expression) (k : Kind) (d : ℕ) → IsScalar es e k → depth_of e ≤ d → IsScalarIn es (made (canonising loops symbols) e) k (d + 18)
  scalar_settled e k d h deep =
      let r = Becomes-made es es (alike es) 18 (canonising loops symbols) all_suit keeps e k (suits (canonising loops symbols) e) h.0 in
      record {
        kind = (r.kind, r.rank ∙ h.1);
        deep = deeper (depth_of (made (canonising loops symbols) e)) (depth_of e) d
            (depth-alone es es (alike es) 18 (canonising loops symbols) all_suit keeps e (made (canonising loops symbols) e) k r) deep;
      }

  left_settled : (l : Reference) (k : Kind) (d : ℕ) → IsScalar es (named l) k → depth_of (named l) ≤ d → IsScalarIn es (named (made_left (canonising loops symbols) l)) k (d + 18)
  left_settled l k d h deep =
      let r = Becomes-left es es (alike es) 18 (canonising loops symbols) all_suit keeps l k (suits_left (canonising loops symbols) l) h.0 in
      record {
        kind = (r.kind, r.rank ∙ h.1);
        deep = deeper (depth_of (named (made_left (canonising loops symbols) l))) (depth_of (named l)) d
            (depth-alone es es (alike es) 18 (canonising loops symbols) all_suit keeps (named l) (named (made_left (canonising loops symbols) l)) k r) deep;
      }

  abbrev IsDeep : ℕ → Expression → Type 0
  IsDeep d e = depth_of e ≤ d

  record AreSettled (g : Guarded) (k : Kind) (d : ℕ) : Type 0 where
    left : IsScalar es (named g.left) k
    right : IsScalar es g.right k
    guard : IfSome g.guard (λ (e : Expression). IsScalar es e Logical)
    deep : All (IsDeep d) (expressions_of g)

  -- the guard, the left side and the right side
  settled_kinds : (g : Guarded) (k : Kind) (d : ℕ) → AreSettled g k d → AreSettled (rewritten_statement (canonising loops symbols) g) k (d + 18)
  settled_kinds g k d h = by g.guard h.guard h.deep
    where
      both : All (IsDeep d) (named g.left ∷ g.right ∷ []) → IsScalarIn es (named (made_left (canonising loops symbols) g.left)) k (d + 18) × IsScalarIn es (made (canonising loops symbols) g.right) k (d + 18)
      both deep = (
        left_settled g.left k d h.left (All-head (IsDeep d) (named g.left) (g.right ∷ []) deep),
        scalar_settled g.right k d h.right (All-head (IsDeep d) g.right [] (All-tail (IsDeep d) (named g.left) (g.right ∷ []) deep)),
      )

      sides : IsScalarIn es (named (made_left (canonising loops symbols) g.left)) k (d + 18) × IsScalarIn es (made (canonising loops symbols) g.right) k (d + 18)
          → All (IsDeep (d + 18)) (named (made_left (canonising loops symbols) g.left) ∷ made (canonising loops symbols) g.right ∷ [])
      sides p =
          All-cons (IsDeep (d + 18)) (named (made_left (canonising loops symbols) g.left)) (made (canonising loops symbols) g.right ∷ []) p.0.deep
          (All-cons (IsDeep (d + 18)) (made (canonising loops symbols) g.right) [] p.1.deep (All-nil (IsDeep (d + 18))))

      by : (o : Option Expression) → IfSome o (λ (e : Expression). IsScalar es e Logical) → All (IsDeep d) (guard_or_none o ++ named g.left ∷ g.right ∷ [])
          → AreSettled (rewritten_statement (canonising loops symbols) (record g { guard = o })) k (d + 18)
      by None t deep =
          let p = both deep in
          record { left = p.0.kind; right = p.1.kind; guard = tt; deep = sides p }
      by (Some e) t deep =
          let p = both (All-tail (IsDeep d) e (named g.left ∷ g.right ∷ []) deep) in
          let q = scalar_settled e Logical d t (All-head (IsDeep d) e (named g.left ∷ g.right ∷ []) deep) in
          record {
            left = p.0.kind;
            right = p.1.kind;
            guard = q.kind;
            deep = All-cons (IsDeep (d + 18)) (made (canonising loops symbols) e)
                (named (made_left (canonising loops symbols) g.left) ∷ made (canonising loops symbols) g.right ∷ []) q.deep (sides p);
          }

-- ---- the loops round a statement

follow_each : (Asked : List Loop → Loop → Type 0) (P : Loop → Type 0) → ((round : List Loop) (l : Loop) → Asked round l → P l) → (before ls : List Loop) → Follow Asked before ls → Each P ls
follow_each Asked P f before [] h = tt
follow_each Asked P f before (l ∷ ls) h = (f before l h.0, follow_each Asked P f (before ++ l ∷ []) ls h.1)

integer_each : (es : List Declaration) (ls : List Loop) → Each (λ (l : Loop). IsIntegerScalar es l.variable) ls → Each (IsIntegerScalar es) (variables_of_loops ls)
integer_each es [] h = tt
integer_each es (l ∷ ls) h = (h.0, integer_each es ls h.1)

-- a statement in canonical text, in the same loops
abbrev pub settled_standing : List (List ℕ) → Standing → Standing
settled_standing symbols x = record { loops = x.loops; statement = canonised symbols x.loops x.statement }

module _ (es : List Declaration) (m : Nest) (are : All (IsPreparedSymbol es) m.symbols) (ordered : IsInByteOrder m.symbols) where
  symbol : (y : List ℕ) → In y m.symbols → IsPreparedSymbol es y
  symbol y i = all_in (IsPreparedSymbol es) m.symbols are y i

  short : (y : List ℕ) → In y m.symbols → length y ≤ 6
  short y i = (symbol y i).name.within

  symbols_integer : Each (IsIntegerScalar es) m.symbols
  symbols_integer = each_from (IsIntegerScalar es) m.symbols (λ y i. counter_integer (declared es y) (symbol y i).scalar)

  module _ (ls : List Loop) (u : AreRound (IsPreparedLoop es m.symbols) ls) where
    integers : Each (IsIntegerScalar es) (variables_of_loops ls ++ m.symbols)
    integers =
        Each-append (IsIntegerScalar es) (variables_of_loops ls) m.symbols
        (integer_each es ls
        (follow_each (IsPreparedLoop es m.symbols) (λ (l : Loop). IsIntegerScalar es l.variable) (λ round l h. counter_integer (declared es l.variable) h.counter) [] ls u.follow))
        symbols_integer

    few_names : length (variables_of_loops ls) ≤ 7
    few_names =
        let least = few (IsPreparedLoop es m.symbols) 7 (λ round l h. h.depth) [] ls u.follow (omega arith) in
        let same = length-map ls (λ (l : Loop). l.variable) in
        omega (arith, least, same)

    bear : Each BearsNumber ls
    bear = follow_each (IsPreparedLoop es m.symbols) BearsNumber (λ round l h. bears_number es m.symbols round l h) [] ls u.follow

    apart : AreDistinct (variables_of_loops ls ++ m.symbols)
    apart = names_apart m.symbols short (ordered_distinct m.symbols ordered) ls bear u.once

    known_symbols : Each (IsKnown ls) m.symbols
    known_symbols = each_from (IsKnown ls) m.symbols (λ y i. short_known ls y (short y i))

  -- it is prepared in a nest of these symbols, in which the same names were made
  pub settled_is : (k : Nest) (deepest : ℕ) (x : Standing) → k.symbols ≡ m.symbols → made_names k ≡ made_names m
      → AreRound (IsPreparedLoop es m.symbols) x.loops → IsStatementBut es (made_names m) (λ z. ¬ Contains m.symbols z) deepest x
      → IsPreparedStatement es k (deepest + 18) (settled_standing m.symbols x)
  settled_is k deepest x same_symbols same_made u h =
      let loops : List (List ℕ) = variables_of_loops x.loops in
      let over : IsStatementOver (IsKnown x.loops) x.statement
      = statement_over (IsKnown x.loops) x.statement h.plain
      (Each-All (IsKnown x.loops) (names_of (assignment x.statement))
      (each_from (IsKnown x.loops) (names_of (assignment x.statement))
      (λ y i j small e. Contains-In j (numbers_of x.loops) (all_in (IsOwn x.loops) (names_of (assignment x.statement)) h.names y i j (below_32 j small) e)))) in
      let settled : IsStatementOver (IsKnown x.loops) (canonised m.symbols x.loops x.statement)
      = settled_statement (IsKnown x.loops) loops m.symbols (known_variables x.loops x.loops (λ j i. i) (bear x.loops u)) (known_symbols x.loops u) x.statement over in
      let kinds = settled_kinds es loops m.symbols (integers x.loops u) x.statement h.kind deepest (record { left = h.left; right = h.right; guard = h.guard; deep = h.deep }) in
      record {
        line = h.line;
        plain = plain_statement (IsKnown x.loops) (canonised m.symbols x.loops x.statement) settled;
        names = own_names x.loops (canonised m.symbols x.loops x.statement) settled;
        target = subst (λ xs. IsSourceName x.statement.left.name ⊎ Contains xs x.statement.left.name) (sym same_made) h.target;
        free = λ c. h.free (subst (λ xs. Contains xs x.statement.left.name) same_symbols c);
        kind = h.kind;
        left = kinds.left;
        right = kinds.right;
        guard = kinds.guard;
        deep = kinds.deep;
        canonical = subst (λ xs. IsCanonical loops xs (canonised m.symbols x.loops x.statement)) (sym same_symbols)
            (canonical_is m.symbols (settled_standing m.symbols x) (few_names x.loops u) (apart x.loops u) (inr (x.statement, refl)));
      }
