-- A block that was brought into canonical text stays as it is.
use Rattle.std.proofs.Common.{◌≡◌, refl, ap, ℕ, ◌≤◌, List, ◌++◌, length}
use mathlib.Core.Path.{ap₂}
use Rattle.tree.specs.Plain.{Expression, Number, Logic, Named, Unary, Binary, Apply, Constructor, Spread, Transpose, Reshape, Reduce, Reference, Item, Single, Constant, ImpliedDo, Items, no_items, item, Statement, Assignment, Where, If, Do, Label, GoTo, Stop, Read, Print, Allocate, Deallocate, Arms, no_arms, arm, Block, no_statements, statement}
use Rattle.rewrite.specs.Making.{Making, made, made_left}
use Rattle.rewrite.specs.MadeBlocks.{made_input, made_inputs, made_output, made_outputs, made_statement, made_arms}
use Rattle.rewrite.specs.MadeBlocks.{made_block}
use Rattle.linear_forms.specs.Canonical.{canonising}
use Rattle.linear_forms.specs.CanonicalLaws.{AreDistinct, CanonicalBlockStays}
use Rattle.linear_forms.proofs.CanonicalStays.{twice, each_twice, subscripts_twice}

module _ (loops symbols : List (List ℕ)) (few : length loops ≤ 7) (apart : AreDistinct (loops ++ symbols)) where
  abbrev m : Making
  m = canonising loops symbols

  once : (e : Expression) → made m (made m e) ≡ made m e
  once e = twice loops symbols few apart e

  left_twice : (r : Reference) → made_left m (made_left m r) ≡ made_left m r
  left_twice r = ap (λ ps. let s : Reference = record { name = r.name; subscripts = ps } in s) (subscripts_twice loops symbols few apart r.subscripts)

  mutual
    input_twice : (i : Item) → made_input m (made_input m i) ≡ made_input m i
    input_twice (Single (Named x ps)) = ap (λ ps. Single (Named x ps)) (subscripts_twice loops symbols few apart ps)
    input_twice (Single (Number n)) = refl
    input_twice (Single (Logic b)) = refl
    input_twice (Single (Unary o a)) = refl
    input_twice (Single (Binary o a b)) = refl
    input_twice (Single (Apply f es)) = refl
    input_twice (Single (Constructor es ls)) = refl
    input_twice (Single (Spread a k n)) = refl
    input_twice (Single (Transpose a)) = refl
    input_twice (Single (Reshape a es)) = refl
    input_twice (Single (Reduce r a)) = refl
    input_twice (Constant t) = refl
    input_twice (ImpliedDo is x a b c) =
        let p = inputs_twice is in
        let q = once a in
        let r = once b in
        let t = once c in
        (λ n. ImpliedDo (p n) x (q n) (r n) (t n))

    inputs_twice : (is : Items) → made_inputs m (made_inputs m is) ≡ made_inputs m is
    inputs_twice no_items = refl
    inputs_twice (item i is) = ap₂ item (input_twice i) (inputs_twice is)

  mutual
    output_twice : (i : Item) → made_output m (made_output m i) ≡ made_output m i
    output_twice (Single e) = ap Single (once e)
    output_twice (Constant t) = refl
    output_twice (ImpliedDo is x a b c) =
        let p = outputs_twice is in
        let q = once a in
        let r = once b in
        let t = once c in
        (λ n. ImpliedDo (p n) x (q n) (r n) (t n))

    outputs_twice : (is : Items) → made_outputs m (made_outputs m is) ≡ made_outputs m is
    outputs_twice no_items = refl
    outputs_twice (item i is) = ap₂ item (output_twice i) (outputs_twice is)

  mutual
    statement_twice : (c : Statement) → made_statement m (made_statement m c) ≡ made_statement m c
    statement_twice (Assignment line mark left right) = ap₂ (Assignment line mark) (left_twice left) (once right)
    statement_twice (Where line mark mask left right) =
        let p = once mask in
        let q = left_twice left in
        let r = once right in
        (λ n. Where line mark (p n) (q n) (r n))
    statement_twice (If line arms other) = ap₂ (If line) (arms_twice arms) (block_twice other)
    statement_twice (Do line x a b c body) =
        let p = once a in
        let q = once b in
        let r = once c in
        let t = block_twice body in
        (λ n. Do line x (p n) (q n) (r n) (t n))
    statement_twice (Label n) = refl
    statement_twice (GoTo line n) = refl
    statement_twice (Stop line) = refl
    statement_twice (Read line is) = ap (Read line) (inputs_twice is)
    statement_twice (Print line is) = ap (Print line) (outputs_twice is)
    statement_twice (Allocate line x es) = ap (Allocate line x) (each_twice loops symbols few apart es)
    statement_twice (Deallocate line x) = refl

    arms_twice : (arms : Arms) → made_arms m (made_arms m arms) ≡ made_arms m arms
    arms_twice no_arms = refl
    arms_twice (arm test body arms) =
        let p = once test in
        let q = block_twice body in
        let r = arms_twice arms in
        (λ n. arm (p n) (q n) (r n))

    block_twice : (cs : Block) → made_block m (made_block m cs) ≡ made_block m cs
    block_twice no_statements = refl
    block_twice (statement c cs) = ap₂ statement (statement_twice c) (block_twice cs)

pub canonical_block_stays : CanonicalBlockStays
canonical_block_stays loops symbols b few apart = block_twice loops symbols few apart b
