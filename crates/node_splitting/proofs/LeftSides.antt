-- One statement, as it is read.
use Rattle.std.proofs.Common.{◌≡◌, ◌∙◌, sym, ap, ℕ, ◌+◌, Bool, not, ◌&&◌, List, ◌++◌, length, append_assoc, append-nil, length-append}
use Rattle.std.specs.Prelude.{◌==◌, is_some}
use Rattle.tree.proofs.Equations.{expression_equations}
use Rattle.nest.specs.Plain.{Guarded, Loop}
use Rattle.node_splitting.specs.Arrays.{copy_element, extents_over}
use Rattle.node_splitting.specs.Counts.{count_in_subscripts, first_in_left, first_in_right, is_item, variables_from_outside}
use Rattle.node_splitting.specs.Reads.{but_whole, reads_in, reads_in_statement, reads_of, split_in, split_of, split_statement}
use Rattle.node_splitting.specs.Split.{may_in}
use Rattle.node_splitting.specs.View.{may_be_read, may_of, reads_by, split_by}
use Rattle.node_splitting.specs.declared.choice.Choice.{Choice}
use Rattle.node_splitting.specs.declared.reads.Reader.{Reader}
use Rattle.node_splitting.proofs.Counting.{left-subs}

pub ruleset plan_laws = (expression_equations, left-subs, append_assoc, append-nil, length-append)

pub may_is : (r : Reader) (choice : Choice) (symbols k : ℕ) (ls : List Loop) (g : Guarded) → r.choice.now ≡ choice → r.stmt ≡ k
    → r.fits ≡ is_some (extents_over symbols ls) → r.whole ≡ is_item g.right → r.right ≡ first_in_right (variables_from_outside ls) g
    → may_be_read r ≡ but_whole (variables_from_outside ls) (may_in (may_of choice) symbols ls k) g
may_is r choice symbols k ls g c s f w n = λ i. λ q. (f i && may_of (c i) (record { stmt = s i; at = q })) && not (w i && (q == n i))

module _ (r : Reader) (left : ℕ) (g : Guarded) (loops : List (List ℕ)) (may : ℕ → Bool) (l : r.loops.now ≡ loops) (m : may_be_read r ≡ but_whole loops may g) (f : left ≡ first_in_left loops g) where
  pub statement_is : (c : ℕ) → split_by r left g c ≡ split_statement loops may g (copy_element loops) c
  statement_is c = λ i. record g {
    left = record { name = g.left.name; subscripts = split_in (l i) (m i) (copy_element (l i)) (f i) c g.left.subscripts };
    right = split_of (l i) (m i) (copy_element (l i)) (f i + count_in_subscripts (l i) g.left.subscripts) (c + length (reads_in (l i) (m i) (f i) g.left.subscripts)) g.right;
  }

  pub reads_are : reads_by r left g ≡ reads_in_statement loops may g
  reads_are = λ i. reads_in (l i) (m i) (f i) g.left.subscripts ++ reads_of (l i) (m i) (f i + count_in_subscripts (l i) g.left.subscripts) g.right
