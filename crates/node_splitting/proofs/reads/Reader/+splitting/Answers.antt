use Rattle.std.proofs.Common.{◌≡◌, ◌∙◌, ◌+◌, ◌++◌, ◌<◌, List, false, sym, ap, length, map, rules, arith}
use Rattle.std.proofs.lemmas.Grind.{common_steps}
use Rattle.tree.specs.Plain.{Expression, Named, Reference, Subscripts, expressions, subscripts}
use Rattle.tree.specs.declared.exprs.Ref.{out-Ref}
use Rattle.tree.proofs.Equations.{reference_of-is, reference_of-made}
use Rattle.tree.specs.View.{expression_of, reference_of, subscript_of}
use Rattle.node_splitting.specs.Arrays.{copy_element}
use Rattle.node_splitting.specs.Counts.{count_in_subscripts}
use Rattle.node_splitting.specs.Reads.{read_as_expression, behind, is_copied}
use Rattle.node_splitting.specs.View.{may_be_read, new_in, new_of, new_of_subscript, read_in}
use Rattle.node_splitting.proofs.Counting.{count-named}
use Rattle.node_splitting.proofs.ReadLaws.{all-are, behind-is, in-are, kept-new, kept-reads, new_all, new_subscripts}
use Rattle.node_splitting.proofs.ReadLaws.{expr_copies_step, expr_made_step, expr_next_step, expr_reads_step, pushed_expr, pushed_sub, sub_copies_step, sub_made_step, sub_next_step, sub_reads_step}
use Rattle.node_splitting.proofs.reads.Reader.+splitting.Goals as goal

pub split_all-loop-expr-preserved : goal.split_all-loop-expr-preserved
split_all-loop-expr-preserved t c =
    let r = c.args.self.now in
    let first = c.args.at.now in
    let list = c.as_slice-expr-items.result.now in
    let i = c.loop-expr.expr-index in
    let x = c.expr-item.result in
    let now = c.loop-expr.invariant in
    let done = c.in_ok-split_expr.ensures in
    let inside : i < length list = omega arith in
    record {
      made =
          expr_made_step r.loops.now (may_be_read r) (copy_element r.loops.now) first.next first.copies list i x inside c.expr-item.is c.loop-expr.at.next c.loop-expr.at.copies
          (map expression_of c.loop-expr.made) (map expression_of c.push.new.self) now.next now.copies now.made
          (pushed_expr c.loop-expr.made c.push.new.self c.in_ok-split_expr.field-0 (new_of r c.loop-expr.at.next c.loop-expr.at.copies (expression_of x)) c.in_ok-push.ensures.ok done.made);
      next =
          expr_next_step r.loops.now (may_be_read r) (copy_element r.loops.now) first.next first.copies list i x inside c.expr-item.is c.loop-expr.at.next c.split_expr.new.at.next now.next done.next;
      copies =
          expr_copies_step r.loops.now (may_be_read r) (copy_element r.loops.now) first.next first.copies list i x inside c.expr-item.is c.loop-expr.at.next c.loop-expr.at.copies c.split_expr.new.at.copies
          now.next now.copies done.copies;
      reads =
          expr_reads_step r.loops.now (may_be_read r) (copy_element r.loops.now) first.next first.copies list i x inside c.expr-item.is c.loop-expr.at.next (map reference_of first.reads)
          (map reference_of c.loop-expr.at.reads) (map reference_of c.split_expr.new.at.reads) now.next now.reads done.reads;
    }

pub split_subs-loop-sub-preserved : goal.split_subs-loop-sub-preserved
split_subs-loop-sub-preserved t c =
    let r = c.args.self.now in
    let first = c.args.at.now in
    let list = c.as_slice-sub-items.result.now in
    let i = c.loop-sub.sub-index in
    let x = c.sub-item.result in
    let now = c.loop-sub.invariant in
    let done = c.in_ok-split_sub.ensures in
    let inside : i < length list = omega arith in
    record {
      made =
          sub_made_step r.loops.now (may_be_read r) (copy_element r.loops.now) first.next first.copies list i x inside c.sub-item.is c.loop-sub.at.next c.loop-sub.at.copies
          (map subscript_of c.loop-sub.made) (map subscript_of c.push.new.self) now.next now.copies now.made
          (pushed_sub c.loop-sub.made c.push.new.self c.in_ok-split_sub.field-0 (new_of_subscript r c.loop-sub.at.next c.loop-sub.at.copies (subscript_of x)) c.in_ok-push.ensures.ok done.made);
      next =
          sub_next_step r.loops.now (may_be_read r) (copy_element r.loops.now) first.next first.copies list i x inside c.sub-item.is c.loop-sub.at.next c.split_sub.new.at.next now.next done.next;
      copies =
          sub_copies_step r.loops.now (may_be_read r) (copy_element r.loops.now) first.next first.copies list i x inside c.sub-item.is c.loop-sub.at.next c.loop-sub.at.copies c.split_sub.new.at.copies
          now.next now.copies done.copies;
      reads =
          sub_reads_step r.loops.now (may_be_read r) (copy_element r.loops.now) first.next first.copies list i x inside c.sub-item.is c.loop-sub.at.next (map reference_of first.reads)
          (map reference_of c.loop-sub.at.reads) (map reference_of c.split_sub.new.at.reads) now.next now.reads done.reads;
    }

pub split_all-returns-clause-made : goal.split_all-returns-clause-made
split_all-returns-clause-made t c =
    let r = c.args.self.now in
    let q = c.args.at.now.next in
    let n = c.args.at.now.copies in
    let same : map expression_of c.loop-expr.made ≡ new_all r.loops.now (may_be_read r) (copy_element r.loops.now) q n (map expression_of c.args.exprs.now) = grind (arith, common_steps) in
    ap expressions same ∙ all-are r.loops.now (may_be_read r) (copy_element r.loops.now) q n (map expression_of c.args.exprs.now)

pub split_subs-returns-clause-made : goal.split_subs-returns-clause-made
split_subs-returns-clause-made t c =
    let r = c.args.self.now in
    let q = c.args.at.now.next in
    let n = c.args.at.now.copies in
    let same : map subscript_of c.loop-sub.made ≡ new_subscripts r.loops.now (may_be_read r) (copy_element r.loops.now) q n (map subscript_of c.args.subs.now) = grind (arith, common_steps) in
    ap subscripts same ∙ in-are r.loops.now (may_be_read r) (copy_element r.loops.now) q n (map subscript_of c.args.subs.now)

pub split_item-returns-clause-made : goal.split_item-returns-clause-made
split_item-returns-clause-made t c =
    let r = c.args.self.now in
    let q = c.args.at.now.next in
    let item = reference_of c.args.item.now in
    let kept : is_copied r.loops.now (may_be_read r) q item.name item.subscripts ≡ false = search rules in
    let is = reference_of-is c.args.item.now in
    let name = sym (ap (λ (x : Reference). x.name) is) in
    let subs = sym (ap (λ (x : Reference). x.subscripts) is) in
    let next : c.pass.new.self.next ≡ behind r.loops.now (may_be_read r) q item.name item.subscripts
    = c.in_ok-pass.ensures.next ∙ (ap (λ n. q + n) c.own_count.ensures ∙ sym (behind-is r.loops.now (may_be_read r) q item.name item.subscripts)) in
    ap (λ (x : Reference). read_as_expression x) (reference_of-made (out-Ref c.args.item.now).name c.in_ok-subs.subs)
    ∙ (ap (λ (ss : Subscripts). let e : Expression = Named (out-Ref c.args.item.now).name ss in e) c.in_ok-subs.ensures.made
    ∙ ((λ i. Named (name i) (new_in r (next i) (c.in_ok-pass.ensures.copies i) (subs i)))
    ∙ sym (kept-new r.loops.now (may_be_read r) (copy_element r.loops.now) q c.args.at.now.copies item kept)))

pub split_item-returns-clause-next : goal.split_item-returns-clause-next
split_item-returns-clause-next t c =
    let r = c.args.self.now in
    let item = reference_of c.args.item.now in
    let after = c.in_ok-subs.ensures.next in
    let passed = c.in_ok-pass.ensures.next in
    let own = c.own_count.ensures in
    let all = count-named r.loops.now item in
    let subs = ap (λ (x : Reference). count_in_subscripts r.loops.now x.subscripts) (reference_of-is c.args.item.now) in
    omega (arith, after, passed, own, all, subs)

pub split_item-returns-clause-copies : goal.split_item-returns-clause-copies
split_item-returns-clause-copies t c =
    let r = c.args.self.now in
    let q = c.args.at.now.next in
    let item = reference_of c.args.item.now in
    let kept : is_copied r.loops.now (may_be_read r) q item.name item.subscripts ≡ false = search rules in
    let subs = sym (ap (λ (x : Reference). x.subscripts) (reference_of-is c.args.item.now)) in
    let next : c.pass.new.self.next ≡ behind r.loops.now (may_be_read r) q item.name item.subscripts
    = c.in_ok-pass.ensures.next ∙ (ap (λ n. q + n) c.own_count.ensures ∙ sym (behind-is r.loops.now (may_be_read r) q item.name item.subscripts)) in
    c.in_ok-subs.ensures.copies
    ∙ ((λ i. c.in_ok-pass.ensures.copies i + length (read_in r (next i) (subs i)))
    ∙ ap (λ (rs : List Reference). c.args.at.now.copies + length rs) (sym (kept-reads r.loops.now (may_be_read r) (copy_element r.loops.now) q c.args.at.now.copies item kept)))

pub split_item-returns-clause-reads : goal.split_item-returns-clause-reads
split_item-returns-clause-reads t c =
    let r = c.args.self.now in
    let q = c.args.at.now.next in
    let item = reference_of c.args.item.now in
    let kept : is_copied r.loops.now (may_be_read r) q item.name item.subscripts ≡ false = search rules in
    let subs = sym (ap (λ (x : Reference). x.subscripts) (reference_of-is c.args.item.now)) in
    let next : c.pass.new.self.next ≡ behind r.loops.now (may_be_read r) q item.name item.subscripts
    = c.in_ok-pass.ensures.next ∙ (ap (λ n. q + n) c.own_count.ensures ∙ sym (behind-is r.loops.now (may_be_read r) q item.name item.subscripts)) in
    c.in_ok-subs.ensures.reads
    ∙ ((λ i. map reference_of (c.in_ok-pass.ensures.reads i) ++ read_in r (next i) (subs i))
    ∙ ap (λ (rs : List Reference). map reference_of c.args.at.now.reads ++ rs) (sym (kept-reads r.loops.now (may_be_read r) (copy_element r.loops.now) q c.args.at.now.copies item kept)))
