-- What is brought into canonical text does what the text did.
use Rattle.std.proofs.Common.{◌≡◌, refl, sym, ap, ◌∙◌, subst, inl, inr, ℕ, zero, suc, Option, Some, None, List, [], ◌∷◌, map}
use Rattle.std.specs.Prelude.{slice_get}
use Rattle.std.specs.List.{cons_option}
use Rattle.tree.specs.Plain.{Block, no_statements, statement}
use Rattle.rewrite.specs.Following.{RunFollows, sequential}
use Rattle.rewrite.specs.Making.{Making, made}
use Rattle.rewrite.specs.MadeBlocks.{made_block}
use Rattle.rewrite.proofs.Rewriting.{made_block_follows}
use Rattle.linear_forms.specs.Canonical.{canonising}
use Rattle.linear_forms.specs.CanonicalLaws.{all_suit}
use Rattle.linear_forms.proofs.AllSuit.{suits_block}
use Rattle.nest.specs.Blocks.{block_of_nest, numeral, statement_of_part}
use Rattle.nest.specs.Plain.{Choice, Jump, Label, Loop, Nest, Part, Parts, Run, Turns, no_parts, part}
use Rattle.nest_rewrite.proofs.Blocks.{block_of_rewritten}
use Rattle.nest_rewrite.specs.Rewritten.{KeepsIncrements, KeepsIncrementsOfEach, rewritten, rewritten_nest}
use Rattle.nest_order.specs.orders.Lists.{In}
use Rattle.nest_order.specs.shapes.Shapes.{ArePlain, IsNormal, IsPlain}
use Rattle.interchange.proofs.ChainParts.{chains_are_loops}
use Rattle.interchange.specs.Arranged.{in_order}
use Rattle.interchange.specs.Chains.{Chain, chain_of, part_in_loops}
use Rattle.interchange.specs.Laws.{IsChainOf}
use Rattle.prepared_passes.specs.arrangement.Laws.{CanonicalTextFollows, SameHeld}
use Rattle.prepared_passes.proofs.ArrangedNests.HeldRule.{canonising_keeps_held}
use Rattle.prepared_passes.proofs.ArrangedNests.Shapes.{chain_plain, loops_are_normal}

-- ---- the loops stay from 1 by 1

got : (xs : List Loop) (k : ℕ) (x : Loop) → slice_get xs k ≡ Some x → In x xs
got [] k x e = let no : ⊥ = cc in absurd no
got (y ∷ ys) zero x e = let same : y ≡ x = cc in inl (sym same)
got (y ∷ ys) (suc k) x e = inr (got ys k x e)

in_order_was : (xs : List Loop) (order : List ℕ) (x : Loop) → In x (in_order xs order) → In x xs
in_order_was xs [] x i = absurd i
in_order_was xs (k ∷ order) x i = by (slice_get xs k) refl i (λ j. in_order_was xs order x j)
  where
    by : (o : Option Loop) → slice_get xs k ≡ o → In x (cons_option o (in_order xs order)) → (In x (in_order xs order) → In x xs) → In x xs
    by None e j more = more j
    by (Some y) e (inl f) more = got xs k x (e ∙ ap (λ (z : Loop). Some z) (sym f))
    by (Some y) e (inr j) more = more j

pub chain_stays_plain : (p : Part) (c : Chain) (order : List ℕ) → IsPlain p → chain_of p ≡ Some c → IsPlain (part_in_loops p (in_order c.loops order) c.body)
chain_stays_plain p c order plain e = by (chains_are_loops p c e)
  where
    by : IsChainOf p c → IsPlain (part_in_loops p (in_order c.loops order) c.body)
    by h = put (in_order c.loops order) (λ x i. normal x (subst (In x) h.loops_are (in_order_was c.loops order x i)))
      where
        normal : (x : Loop) → In x (h.first ∷ h.rest) → IsNormal x
        normal x i = loops_are_normal h.first h.rest c.body (subst IsPlain h.is plain) x i

        put : (ls : List Loop) → ((x : Loop) → In x ls → IsNormal x) → IsPlain (part_in_loops p ls c.body)
        put [] each = plain
        put (l ∷ ls) each = chain_plain l ls c.body h.body each

-- ---- a plain part in canonical text

module _ (loops symbols : List (List ℕ)) where
  abbrev making : Making
  making = canonising loops symbols

  step_stays : (l : Loop) → IsNormal l → made making (numeral l.step) ≡ numeral l.step
  step_stays l h = subst (λ z. made making (numeral z) ≡ numeral z) (sym h.step) refl

  mutual
    keeps : (p : Part) → IsPlain p → KeepsIncrements making p
    keeps (Run s) h = tt
    keeps (Turns l ps) h = (step_stays l h.0, keeps_each ps h.1)
    keeps (Choice bs ps) h = absurd h
    keeps (Label n) h = absurd h
    keeps (Jump n) h = absurd h

    keeps_each : (ps : Parts) → ArePlain ps → KeepsIncrementsOfEach making ps
    keeps_each no_parts h = tt
    keeps_each (part p ps) h = (keeps p h.0, keeps_each ps h.1)

follows : (bits : ℕ) (m : Nest) (loops : List (List ℕ)) (p : Part) → IsPlain p
    → RunFollows (sequential bits) (SameHeld bits) (statement (statement_of_part m.line p) no_statements)
    (statement (statement_of_part m.line (rewritten (canonising loops m.symbols) p)) no_statements)
follows bits m loops p h =
    let rule : Making = canonising loops m.symbols in
    let alone : Nest = record m { body = p; made = []; after = no_statements } in
    let block : Block = statement (statement_of_part m.line p) no_statements in
    let same : block_of_nest (rewritten_nest rule alone) ≡ made_block rule (block_of_nest alone) = block_of_rewritten rule alone (keeps loops m.symbols p h) in
    subst (λ b. RunFollows (sequential bits) (SameHeld bits) block b) (sym same)
    (made_block_follows bits rule all_suit (SameHeld bits) (canonising_keeps_held bits loops m.symbols) block (suits_block rule block))

pub canonical_text_follows : CanonicalTextFollows
canonical_text_follows bits m c order plain e =
    follows bits m (variables (in_order c.loops order)) (part_in_loops m.body (in_order c.loops order) c.body) (chain_stays_plain m.body c order plain e)
  where
    variables : List Loop → List (List ℕ)
    variables ls = map (λ (l : Loop). l.variable) ls
