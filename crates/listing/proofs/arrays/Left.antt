-- No private scalar is left in an expanded nest whose loops have moved: the last iteration of each loop is known in it,
-- so that no element is copied to its scalar.
use Rattle.std.proofs.Common.{◌≡◌, ◌⊎◌, inl, inr, refl, sym, ap, ap₂, ◌∙◌, subst, ℕ, ◌+◌, ◌≤◌, true, false, Bool, ◌&&◌, List, [], ◌∷◌}
use Rattle.std.proofs.Common.{◌++◌, map, Option, Some, None, Contains}
use Rattle.std.specs.List.{list_all}
use Rattle.std.specs.Prelude.{unwrap_or}
use Rattle.prepared_passes.proofs.ArrangedNests.MovedChains.{IsMovedChain, moved_chain, moved_is}
use Rattle.prepared_passes.proofs.ArrangedNests.Names.{found_in}
use Rattle.prepared_passes.proofs.ArrangedNests.Shapes.{all_guarded, standing_under}
use Rattle.prepared_passes.proofs.ExpandedNests.MadeArrays.{symbols_are}
use Rattle.prepared_passes.specs.expansion.Left.{NoPrivateScalarIsLeft, references_touched}
use Rattle.prepared_passes.proofs.SplitNests.Prepared.{split_nest_is_prepared}
use Rattle.prepared_passes.proofs.SplitNests.Private.{split_nest_has_no_private_scalars}
use Rattle.prepared_passes.specs.expansion.Prepared.{extent_depth}
use Rattle.prepared_passes.specs.splitting.Laws.{split_rise}
use Rattle.prepared_passes.specs.splitting.Splits.{MayBeSplit, nodes_split}
use Rattle.dependence_graph.specs.declared.graphs.Place.{Place}
use Rattle.interchange.specs.Arranged.{arranged, is_loop_free, with_moved_loops}
use Rattle.node_splitting.specs.Split.{with_nodes_split}
use Rattle.statement_passes.specs.Standings.{IsLoop}
use Rattle.last_values.specs.Scalars.{scalar}
use Rattle.last_values.specs.normal_forms.NormalLoops.{counter_name, has_no_loops}
use Rattle.nest.specs.Bodies.{Standing, nest_loops, nest_statements}
use Rattle.nest.specs.Plain.{Guarded, Loop, Made, Nest}
use Rattle.nest.specs.declared.parts.Trip.{Trip}
use Rattle.nest_order.proofs.orders.Lists.{In-append}
use Rattle.nest_order.proofs.orders.Membership.{In-map, map-In}
use Rattle.nest_order.specs.orders.Lists.{In}
use Rattle.nest_order.specs.runs.Touched.{IsPlainAssignment}
use Rattle.nest_rewrite.specs.Statements.{rewritten_statement}
use Rattle.pass_laws.proofs.NormalFacts.MadeStatements.{counter_long}
use Rattle.pass_laws.proofs.NormalFacts.Tables.{all_in}
use Rattle.pass_laws.proofs.PreparedNests.Lists.{Contains-In, In-Contains}
use Rattle.pass_laws.specs.prepared_nests.Loops.{IsPreparedLoop, variables_of_loops}
use Rattle.pass_laws.specs.prepared_nests.Made.{IsPreparedMade}
use Rattle.pass_laws.specs.prepared_nests.Nests.{IsPrepared}
use Rattle.pass_laws.specs.prepared_nests.Statements.{IsPreparedStatement, assignment, made_names}
use Rattle.rewrite.specs.Making.{Making, made_subscripts}
use Rattle.scalar_expand.proofs.PrivateLaws.{first_begins, has_first, in_middle}
use Rattle.scalar_expand.proofs.Theorems.{in_privates}
use Rattle.scalar_expand.specs.Expanded.{expanded, has_known_end}
use Rattle.scalar_expand.specs.Privates.{names_written, private_among, private_scalars, round_loop, trip_or_none}
use Rattle.scalar_expand.specs.declared.privates.Private.{Private}
use Rattle.scalar_expand.specs.declared.privates.RoundLoop.{RoundLoop}
use Rattle.subscripts.specs.declared.affine.Dirs.{Dirs}
use Rattle.tree.specs.Names.{IsSourceName}
use Rattle.tree.specs.Plain.{Declaration, Only, Reference, Section, Subscripts, no_subscripts, subscript}
use Rattle.listing.proofs.arrays.Counted.{nothing_deeper, prepared_counted}
use Rattle.listing.proofs.arrays.Moved.{loops_made, making, nest_is, new, new_statements, old, old_loops, old_statements, there}
use Rattle.listing.proofs.arrays.References.{ComesFrom, of_statement}
use Rattle.listing.proofs.programs.Splitting.{split_rest}
use Rattle.listing.specs.arrays.Laws.{ArrangedNestHasNoPrivateScalars}
use Rattle.listing.specs.programs.Stages.{with_copies_before}

-- ---- the last iteration is known where no trip has a loop's variable

known_end : (ls : List Loop) → ((l : Loop) → In l ls → (t : Trip) × (l.trip ≡ Some t) × (is_loop_free t ≡ true))
    → list_all (λ (l : RoundLoop). has_no_loops l.trip.top) (map round_loop ls) ≡ true
known_end [] f = refl
known_end (l ∷ ls) f =
    let t = f l (inl refl) in
    ap₂ (λ (a b : Bool). a && b)
    (ap (λ (o : Option Trip). has_no_loops (trip_or_none o).top) t.1 ∙ t.2)
    (known_end ls (λ k i. f k (inr i)))

-- ---- a scalar's subscripts

none_before : (m : Making) (qs : Subscripts) → no_subscripts ≡ made_subscripts m qs → qs ≡ no_subscripts
none_before m no_subscripts e = refl
none_before m (subscript (Only a) qs) e = let no : ⊥ = cc in absurd no
none_before m (subscript (Section a b c) qs) e = let no : ⊥ = cc in absurd no

-- ---- the names of private scalars

module _ (es : List Declaration) (around : List (List ℕ)) (deepest : ℕ) (m : Nest) (h : IsPrepared es around deepest m)
    (p : Private) (i : In p (private_scalars m)) where
  -- a statement that gives it a value
  record IsBegun : Type 0 where
    standing : Standing
    inside : In standing (nest_statements m)
    target : standing.statement.left.name ≡ p.name

  begun : IsBegun
  begun =
      let known : private_among m p.name (nest_statements m) ≡ Some p
      = in_privates m (names_written [] (nest_statements m)) p i in
      let f = has_first m p.name p (nest_statements m) known in
      let o = first_begins m p.name p f.before f.standing f.behind (ap (private_among m p.name) (sym f.splits) ∙ known)
      f.none f.stands in
      record {
        standing = f.standing;
        inside = subst (In f.standing) (sym f.splits) (in_middle f.before f.standing f.behind);
        target = o.0.left;
      }

  statement_is : IsPreparedStatement es m deepest begun.standing
  statement_is = all_in (IsPreparedStatement es m deepest) (nest_statements m) h.parts.statements begun.standing begun.inside

  no_symbol : ¬ In p.name m.symbols
  no_symbol j =
      statement_is.free
      (In-Contains begun.standing.statement.left.name m.symbols (subst (λ x. In x m.symbols) (sym begun.target) j))

  no_counter : (k : ℕ) → ¬ (p.name ≡ counter_name k)
  no_counter k e = by statement_is.target
    where
      is : begun.standing.statement.left.name ≡ counter_name k
      is = begun.target ∙ e

      by : IsSourceName begun.standing.statement.left.name ⊎ Contains (made_names m) begun.standing.statement.left.name → ⊥
      by (inl n) = counter_long begun.standing.statement.left.name k n.within is
      by (inr c) =
          let r = In-map (λ (a : Made). a.name) begun.standing.statement.left.name m.made
          (Contains-In begun.standing.statement.left.name (made_names m) c) in
          (all_in (IsPreparedMade es m.symbols deepest) m.made h.parts.made r.it r.inside).counter k (sym r.is ∙ is)

-- ---- the nest

module _ (es fs : List Declaration) (around outside : List (List ℕ)) (deepest deeper : ℕ) (m nest : Nest)
    (before : IsPrepared es around deepest m) (h : IsPrepared fs outside deeper nest)
    (same_symbols : nest.symbols ≡ m.symbols) (left : NoPrivateScalarIsLeft m nest) (k : Nest)
    (c : IsMovedChain nest k) where
  in_nest : (l : Loop) → In l (new nest k c) → In l (nest_loops nest)
  in_nest l i = subst (In l) (sym (old_loops nest k c)) (c.among l i)

  counter_is : (l : Loop) → In l (new nest k c) → l.variable ≡ counter_name l.number
  counter_is l i =
      (found_in (IsPreparedLoop fs nest.symbols) l [] nest.body h.plain h.parts.loops (in_nest l i)).1.variable

  module _ (p : Private) (i : In p (private_scalars m)) where
    apart : ¬ In p.name (variables_of_loops (new nest k c) ++ nest.symbols)
    apart j = by (In-append p.name (variables_of_loops (new nest k c)) nest.symbols j)
      where
        by : In p.name (variables_of_loops (new nest k c)) ⊎ In p.name nest.symbols → ⊥
        by (inl j) =
            let o = In-map (λ (l : Loop). l.variable) p.name (new nest k c) j in
            no_counter es around deepest m before p i o.it.number (o.is ∙ counter_is o.it o.inside)
        by (inr j) = no_symbol es around deepest m before p i (subst (In p.name) same_symbols j)

    -- it isn't copied, either
    nowhere_before : (g : Guarded) → In g (all_guarded c.body) → ¬ In (scalar p.name) (references_touched g)
    nowhere_before g inside j =
        let stands : In (standing_under (old nest k c) g) (nest_statements nest)
        = subst (In (standing_under (old nest k c) g)) (sym (old_statements nest k c))
        (map-In (standing_under (old nest k c)) g (all_guarded c.body) inside) in
        let copy = left p i (standing_under (old nest k c) g) stands j in
        let known : has_known_end p ≡ true
        = ap (list_all (λ (l : RoundLoop). has_no_loops l.trip.top)) (sym copy.loops) ∙ known_end (old nest k c) c.free in
        both (sym copy.unknown ∙ known)
      where
        both : false ≡ true → ⊥
        both e = cc

    nowhere_behind : (g : Guarded) → In g (all_guarded c.body)
        → ¬ In (scalar p.name) (references_touched (rewritten_statement (making nest k c) g))
    nowhere_behind g inside j =
        by (of_statement (variables_of_loops (new nest k c)) nest.symbols g plain (scalar p.name) j)
      where
        stands : In (standing_under (old nest k c) g) (nest_statements nest)
        stands =
            subst (In (standing_under (old nest k c) g)) (sym (old_statements nest k c))
            (map-In (standing_under (old nest k c)) g (all_guarded c.body) inside)

        plain : IsPlainAssignment (assignment g)
        plain =
            (all_in (IsPreparedStatement fs nest deeper) (nest_statements nest) h.parts.statements
            (standing_under (old nest k c) g) stands).plain

        by : ComesFrom (variables_of_loops (new nest k c)) nest.symbols (references_touched g) (scalar p.name) → ⊥
        by (inl n) = apart n
        by (inr o) =
            let none : o.first.subscripts ≡ no_subscripts
            = none_before (making nest k c) o.first.subscripts o.subscripts in
            let same : scalar p.name ≡ o.first
            = ap₂ (λ y (qs : Subscripts). record { name = y; subscripts = qs }) o.name (sym none) in
            nowhere_before g inside (subst (λ (r : Reference). In r (references_touched g)) (sym same) o.inside)

    none_left : (s : Standing) → In s (nest_statements (there nest k c))
        → ¬ In (scalar p.name) (references_touched s.statement)
    none_left s j r =
        let a = In-map (standing_under (loops_made (making nest k c) (new nest k c))) s
        (map (rewritten_statement (making nest k c)) (all_guarded c.body)) (subst (In s) (new_statements nest k c) j) in
        let b = In-map (rewritten_statement (making nest k c)) a.it (all_guarded c.body) a.inside in
        nowhere_behind b.it b.inside
        (subst (λ (g : Guarded). In (scalar p.name) (references_touched g)) (ap (λ (y : Standing). y.statement) a.is ∙ b.is) r)

  no_scalars : NoPrivateScalarIsLeft m (there nest k c)
  no_scalars p i s j r = absurd (none_left p i s j r)

-- ---- the split nest

module _ (es fs : List Declaration) (around outside : List (List ℕ)) (deepest deeper copies : ℕ) (m : Nest)
    (may : Place → Bool) (before : IsPrepared es around deepest m) (h : IsPrepared fs outside deeper (expanded m))
    (loop : IsLoop (expanded m).body) (can : MayBeSplit fs may (with_copies_before copies (expanded m)))
    (room : extent_depth ≤ deeper) (left : NoPrivateScalarIsLeft m (expanded m)) where
  abbrev e : Nest
  e = with_copies_before copies (expanded m)

  prepared_before : IsPrepared fs outside deeper (with_copies_before copies (expanded m))
  prepared_before = prepared_counted fs outside deeper (expanded m) copies h

  prepared_split : IsPrepared fs outside (deeper + split_rise) (nodes_split may (with_copies_before copies (expanded m)))
  prepared_split = by (with_nodes_split may e) refl
    where
      by : (o : Option Nest) → with_nodes_split may e ≡ o → IsPrepared fs outside (deeper + split_rise) (unwrap_or o e)
      by None f = nothing_deeper fs outside deeper split_rise e prepared_before
      by (Some k) f = split_nest_is_prepared fs outside deeper may e k prepared_before can room f

  left_split : NoPrivateScalarIsLeft m (nodes_split may (with_copies_before copies (expanded m)))
  left_split =
      split_nest_has_no_private_scalars es fs around outside deepest deeper may m e before prepared_before loop left

  symbols_split : (nodes_split may (with_copies_before copies (expanded m))).symbols ≡ m.symbols
  symbols_split = ap (λ (z : Nest). z.symbols) (split_rest may e) ∙ symbols_are m

  abbrev s : Nest
  s = nodes_split may (with_copies_before copies (expanded m))

  left_moved : (vectors : List Dirs) → NoPrivateScalarIsLeft m (arranged (nodes_split may (with_copies_before copies (expanded m))) vectors)
  left_moved vectors = by (with_moved_loops s vectors) refl
    where
      by : (o : Option Nest) → with_moved_loops s vectors ≡ o → NoPrivateScalarIsLeft m (unwrap_or o s)
      by None f = left_split
      by (Some k) f =
          let c = moved_chain s vectors k (moved_is s vectors k f) in
          subst (NoPrivateScalarIsLeft m) (sym (nest_is s k c))
          (no_scalars es fs around outside deepest (deeper + split_rise) m s before prepared_split symbols_split left_split k c)

pub arranged_nest_has_no_private_scalars : ArrangedNestHasNoPrivateScalars
arranged_nest_has_no_private_scalars es fs around outside deepest deeper copies m split may vectors before h loop same can room left =
    subst (λ (z : Nest). NoPrivateScalarIsLeft m (arranged z vectors)) (sym same)
    (left_moved es fs around outside deepest deeper copies m may before h loop can room left vectors)
