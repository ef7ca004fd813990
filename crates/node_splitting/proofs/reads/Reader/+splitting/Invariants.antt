-- What was made so far is what is made of the expressions or subscripts so far, and as much was read.
use Rattle.std.proofs.Common.{◌≡◌, ◌+◌, ◌++◌, length, map, take}
use Rattle.tree.specs.Plain.{expressions, subscripts}
use Rattle.tree.specs.View.{expression_of, reference_of, subscript_of}
use Rattle.node_splitting.specs.Arrays.{copy_element}
use Rattle.node_splitting.specs.Counts.{count_all, count_in_subscripts}
use Rattle.node_splitting.specs.View.{may_be_read, read_in, read_of_all}
use Rattle.node_splitting.proofs.ReadLaws.{new_all, new_subscripts}
use Rattle.node_splitting.proofs.reads.Reader.+splitting.Given as goal

abbrev pub invariant-split_all-loop-expr : goal.invariant-split_all-loop-expr
invariant-split_all-loop-expr l =
    let so_far = map expression_of (take l.expr-index l.expr-items) in
    record {
      made : map expression_of l.made ≡ new_all l.self.loops.now (may_be_read l.self) (copy_element l.self.loops.now) l.fn.at.next l.fn.at.copies so_far;
      next : l.at.next ≡ l.fn.at.next + count_all l.self.loops.now (expressions so_far);
      copies : l.at.copies ≡ l.fn.at.copies + length (read_of_all l.self l.fn.at.next (expressions so_far));
      reads : map reference_of l.at.reads ≡ map reference_of l.fn.at.reads ++ read_of_all l.self l.fn.at.next (expressions so_far);
    }

abbrev pub invariant-split_subs-loop-sub : goal.invariant-split_subs-loop-sub
invariant-split_subs-loop-sub l =
    let so_far = map subscript_of (take l.sub-index l.sub-items) in
    record {
      made : map subscript_of l.made ≡ new_subscripts l.self.loops.now (may_be_read l.self) (copy_element l.self.loops.now) l.fn.at.next l.fn.at.copies so_far;
      next : l.at.next ≡ l.fn.at.next + count_in_subscripts l.self.loops.now (subscripts so_far);
      copies : l.at.copies ≡ l.fn.at.copies + length (read_in l.self l.fn.at.next (subscripts so_far));
      reads : map reference_of l.at.reads ≡ map reference_of l.fn.at.reads ++ read_in l.self l.fn.at.next (subscripts so_far);
    }
