-- What the program keeps: which references may be copied, and those of one statement.
use Rattle.std.specs.Prelude.{ℕ, ◌+◌, ◌==◌, Bool, not, ◌&&◌, List, ◌++◌, length}
use Rattle.tree.specs.Plain.{Expression, Expressions, Reference, Subscript, Subscripts}
use Rattle.nest.specs.Plain.{Guarded}
use Rattle.dependence_graph.specs.declared.graphs.Place.{Place}
use Rattle.node_splitting.specs.Arrays.{copy_element}
use Rattle.node_splitting.specs.Choice.{is_listed}
use Rattle.node_splitting.specs.Counts.{count_in_subscripts}
use Rattle.node_splitting.specs.Reads.{reads_in, reads_of, reads_of_all, reads_of_subscript, split_in, split_of}
use Rattle.node_splitting.specs.Reads.{split_of_all, split_of_subscript}
use Rattle.node_splitting.specs.declared.choice.Choice.{Choice}
use Rattle.node_splitting.specs.declared.reads.Reader.{Reader}

abbrev pub may_of : Choice → Place → Bool
may_of c p = is_listed c.overwritten p && not (is_listed c.fed p)

-- by its number
abbrev pub may_be_read : Reader → ℕ → Bool
may_be_read r q =
    (r.fits && may_of r.choice.now (record { stmt = r.stmt; at = q })) && not (r.whole && (q == r.right))

-- ---- what is copied of an expression or of subscripts, and what these become

module _ (r : Reader) where
  abbrev pub read_of : ℕ → Expression → List Reference
  read_of q e = reads_of r.loops.now (may_be_read r) q e

  abbrev pub read_of_all : ℕ → Expressions → List Reference
  read_of_all q es = reads_of_all r.loops.now (may_be_read r) q es

  abbrev pub read_of_subscript : ℕ → Subscript → List Reference
  read_of_subscript q s = reads_of_subscript r.loops.now (may_be_read r) q s

  abbrev pub read_in : ℕ → Subscripts → List Reference
  read_in q ss = reads_in r.loops.now (may_be_read r) q ss

  abbrev pub new_of : ℕ → ℕ → Expression → Expression
  new_of q c e = split_of r.loops.now (may_be_read r) (copy_element r.loops.now) q c e

  abbrev pub new_of_all : ℕ → ℕ → Expressions → Expressions
  new_of_all q c es = split_of_all r.loops.now (may_be_read r) (copy_element r.loops.now) q c es

  abbrev pub new_of_subscript : ℕ → ℕ → Subscript → Subscript
  new_of_subscript q c s = split_of_subscript r.loops.now (may_be_read r) (copy_element r.loops.now) q c s

  abbrev pub new_in : ℕ → ℕ → Subscripts → Subscripts
  new_in q c ss = split_in r.loops.now (may_be_read r) (copy_element r.loops.now) q c ss

  -- ---- and of a statement; left: the number of the first reference in the subscripts of its left side
  module _ (left : ℕ) (g : Guarded) where
    abbrev pub reads_by : List Reference
    reads_by = read_in left g.left.subscripts
        ++ read_of (left + count_in_subscripts r.loops.now g.left.subscripts) g.right

    abbrev pub left_by : ℕ → Reference
    left_by c = record { name = g.left.name; subscripts = new_in left c g.left.subscripts }

    abbrev pub right_by : ℕ → Expression
    right_by c =
        new_of (left + count_in_subscripts r.loops.now g.left.subscripts)
        (c + length (read_in left g.left.subscripts)) g.right

    abbrev pub split_by : ℕ → Guarded
    split_by c = record g { left = left_by c; right = right_by c }
