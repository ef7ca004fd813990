-- Node splitting (Allen and Kennedy, "Optimizing Compilers for Modern Architectures", section 5.5): reads of what is
-- overwritten within a component are copied right before their statements, so that the antidependences from them hold
-- it together no more.
use Rattle.std.specs.Prelude.{◌≡◌, ◌↔◌, Option, Some, None, ℕ, suc, ◌+◌, Bool, true, ◌&&◌, is_some}
use Rattle.std.specs.Prelude.{List, [], ◌∷◌, ◌++◌, map, length, slice_index_or}
use Rattle.tree.specs.Plain.{Reference}
use Rattle.linear_forms.specs.Canonical.{canonising}
use Rattle.nest.specs.Bodies.{Standing, nest_statements}
use Rattle.nest.specs.Plain.{Guarded, Loop, Made, Nest}
use Rattle.nest_rewrite.specs.Statements.{rewritten_statement}
use Rattle.statement_passes.specs.Passes.{mapped_nest}
use Rattle.dependence_graph.specs.declared.graphs.Graph.{Graph}
use Rattle.dependence_graph.specs.declared.graphs.Place.{Place}
use Rattle.node_splitting.specs.Arrays.{arrays, copy_element, extents_over}
use Rattle.node_splitting.specs.Choice.{MayBeCopied}
use Rattle.node_splitting.specs.Counts.{variables_from_outside}
use Rattle.node_splitting.specs.Reads.{reads_in_statement, with_copies}

-- ---- statements

-- may: whether a reference may be copied. Of those of the k-th statement, where an array over its loops has extents
abbrev pub may_in : (Place → Bool) → ℕ → List Loop → ℕ → ℕ → Bool
may_in may symbols ls k q = is_some (extents_over symbols ls) && may (record { stmt = k; at = q })

abbrev pub reads_at : (Place → Bool) → ℕ → List Loop → ℕ → Guarded → List Reference
reads_at may symbols ls k g = reads_in_statement (variables_from_outside ls) (may_in may symbols ls k) g

-- in canonical text, by the variables of the loops round it and these symbols
abbrev pub in_canonical_text : List (List ℕ) → List Loop → Guarded → Guarded
in_canonical_text symbols ls g = rewritten_statement (canonising (variables_from_outside ls) symbols) g

-- what becomes of the k-th statement; firsts: how many copies there are before each
abbrev pub each_split : (Place → Bool) → List (List ℕ) → List ℕ → List Loop → ℕ → Guarded → List Guarded
each_split may symbols firsts ls k g =
    map (in_canonical_text symbols ls)
    (with_copies (variables_from_outside ls) (may_in may (length symbols) ls k)
    (copy_element (variables_from_outside ls))
    (slice_index_or firsts k 0) g)

-- ---- numbers, which go on from nest to nest

module _ (may : Place → Bool) (n : Nest) where
  -- of statements of which the first one has the number k, where there are c copies before
  abbrev pub firsts_from : ℕ → ℕ → List Standing → List ℕ
  firsts_from k c [] = []
  firsts_from k c (s ∷ ss) =
      c ∷ firsts_from (suc k) (c + length (reads_at may (length n.symbols) s.loops k s.statement)) ss

  abbrev pub last_from : ℕ → ℕ → List Standing → ℕ
  last_from k c [] = c
  last_from k c (s ∷ ss) =
      last_from (suc k) (c + length (reads_at may (length n.symbols) s.loops k s.statement)) ss

  abbrev pub arrays_from : ℕ → ℕ → List Standing → List Made
  arrays_from k c [] = []
  arrays_from k c (s ∷ ss) =
      let rs = reads_at may (length n.symbols) s.loops k s.statement in
      arrays n s.loops c rs ++ arrays_from (suc k) (c + length rs) ss

  abbrev pub firsts : List ℕ
  firsts = firsts_from 0 n.copies (nest_statements n)

  abbrev pub made_arrays : List Made
  made_arrays = arrays_from 0 n.copies (nest_statements n)

  -- how many copies there are in the program behind this nest
  abbrev pub last : ℕ
  last = last_from 0 n.copies (nest_statements n)

  -- ---- the nest

  -- with these arrays
  abbrev pub with_copy_arrays : List Made → Nest
  with_copy_arrays as' =
      let m = mapped_nest (each_split may n.symbols firsts) n in
      record m { made = n.made ++ as'; copies = last }

  abbrev pub if_copied : List Made → Option Nest
  if_copied [] = None
  if_copied (a ∷ as') = Some (with_copy_arrays (a ∷ as'))

  -- where there is a copy, the nest with all of them
  unfoldable pub with_nodes_split : Option Nest
  with_nodes_split = if_copied made_arrays

-- By the graph: what the nest becomes, or that nothing is copied
pub record IsSplitNest (n : Nest) (g : Graph) (new : Option Nest) : Type 0 where
  pub may : Place → Bool
  pub by_graph : (p : Place) → (may p ≡ true) ↔ MayBeCopied g.edges p
  pub is : new ≡ with_nodes_split may n
