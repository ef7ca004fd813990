-- The body of an expanded nest: its statements one after another, and copies at the ends of turns.
use Rattle.std.proofs.Common.{◌≡◌, ◌⊎◌, inl, inr, refl, sym, subst, ℕ, ℤ, Bool, true, false, not, cond, All, List, [], ◌∷◌, ◌++◌, map}
use Rattle.std.proofs.lemmas.List.Elements.{All-append, All-cons, All-nil}
use Rattle.nest.specs.Bodies.{Standing, loops_in_parts, loops_of, nest_loops, nest_statements, statements_in, statements_in_parts}
use Rattle.nest.specs.Plain.{Loop, Nest, Part, Run, Turns, Choice, Label, Jump, Parts, no_parts, part, parts}
use Rattle.nest_order.proofs.orders.Lists.{In-append, In-left, In-right}
use Rattle.nest_order.specs.orders.Lists.{In}
use Rattle.nest_order.specs.shapes.Shapes.{ArePlain, IsPlain}
use Rattle.nest_rewrite.specs.Statements.{rewritten_statement}
use Rattle.pass_laws.proofs.ReadyNests.Lists.{statements_joined}
use Rattle.scalar_expand.specs.Expanded.{copied, copies_in, expanded_part, expanded_parts, expanding, has_known_end, is_copied_in, is_innermost}
use Rattle.scalar_expand.specs.Flow.{AreOfLoop, Flows, FlowsIn}
use Rattle.scalar_expand.specs.Laws.{own_of}
use Rattle.scalar_expand.specs.Privates.{private_scalars, round_loop}
use Rattle.scalar_expand.specs.declared.privates.Private.{Private}
use Rattle.scalar_expand.proofs.PrivateLaws.{both_true}
use Rattle.scalar_expand.proofs.Theorems.{in_declared}

not_true : (b : Bool) → not b ≡ true → b ≡ false
not_true true e = cc
not_true false e = refl

-- P holds of each statement in which private scalars have become elements, and of each copy in the loops of its scalar
module _ (m : Nest) (IsCounter : List ℕ → Type 0) (bits : ℕ) (value : List ℕ → ℤ) (trip : List ℕ → Loop → ℕ) (P : Standing → Type 0)
    (expanded_is : (s : Standing) → In s (nest_statements m) → P (record { loops = s.loops; statement = rewritten_statement (expanding (private_scalars m)) s.statement }))
    (copy_is : (ls : List Loop) → ((o : Loop) → In o ls → In o (nest_loops m)) → (p : Private) → In p (own_of m) → has_known_end p ≡ false → p.loops ≡ map round_loop ls
    → P (record { loops = ls; statement = copied m.line p })) where
  abbrev expand_part : Part → Part
  expand_part = expanded_part m.line (expanding (private_scalars m)) (own_of m)

  abbrev expand_parts : Parts → List Part
  expand_parts = expanded_parts m.line (expanding (private_scalars m)) (own_of m)

  copies : (ls : List Loop) (k : ℕ) (os : List Private) → ((p : Private) → In p os → is_copied_in k p ≡ true → P (record { loops = ls; statement = copied m.line p }))
      → All P (statements_in_parts ls (parts (copies_in m.line k os)))
  copies ls k [] f = All-nil P
  copies ls k (p ∷ os) f = by (is_copied_in k p) refl (copies ls k os (λ q i. f q (inr i)))
    where
      by : (b : Bool) → is_copied_in k p ≡ b → All P (statements_in_parts ls (parts (copies_in m.line k os)))
          → All P (statements_in_parts ls (parts (cond b (Run (copied m.line p) ∷ []) [] ++ copies_in m.line k os)))
      by true e rest = All-cons P (record { loops = ls; statement = copied m.line p }) (statements_in_parts ls (parts (copies_in m.line k os))) (f p (inl refl) e) rest
      by false e rest = rest

  abbrev Stand : List Standing → Type 0
  Stand ss = (s : Standing) → In s ss → In s (nest_statements m)

  abbrev Inside : List Loop → Type 0
  Inside ls = (o : Loop) → In o ls → In o (nest_loops m)

  inside_more : (ls : List Loop) (l : Loop) → Inside ls → In l (nest_loops m) → Inside (ls ++ l ∷ [])
  inside_more ls l f i o j = by (In-append o ls (l ∷ []) j)
    where
      by : In o ls ⊎ In o (l ∷ []) → In o (nest_loops m)
      by (inl k) = f o k
      by (inr (inl e)) = subst (λ (x : Loop). In x (nest_loops m)) (sym e) i
      by (inr (inr k)) = absurd k

  abbrev Flow : List Loop → List Private → List Private → Part → List Private → List Private → Type 0
  Flow = Flows (private_scalars m) m.symbols IsCounter bits value trip

  abbrev FlowIn : List Loop → List Private → List Private → Parts → List Private → List Private → Type 0
  FlowIn = FlowsIn (private_scalars m) m.symbols IsCounter bits value trip

  mutual
    pub part_is : (ls : List Loop) (q : Part) (begun past after behind : List Private) → IsPlain q → Stand (statements_in ls q) → Inside ls → Inside (loops_of q) → Flow ls begun past q after behind → All P (statements_in ls (expand_part q))
    part_is ls (Run g) begun past after behind plain f in1 in2 flow =
        All-cons P _ [] (expanded_is (record { loops = ls; statement = g }) (f (record { loops = ls; statement = g }) (inl refl))) (All-nil P)
    part_is ls (Turns l qs) begun past after behind plain f in1 in2 flow =
        let more = inside_more ls l in1 (in2 l (inl refl)) in
        subst (λ (ss : List Standing). All P ss) (sym (statements_joined (ls ++ l ∷ []) (expand_parts qs) (copies_in m.line l.number (own_of m))))
        (All-append P (statements_in_parts (ls ++ l ∷ []) (parts (expand_parts qs))) (statements_in_parts (ls ++ l ∷ []) (parts (copies_in m.line l.number (own_of m))))
        (parts_are (ls ++ l ∷ []) qs begun past (flow.3.0 ++ begun) (flow.3.1 ++ past) plain.1 f more (λ o i. in2 o (inr i)) flow.3.2)
        (copies (ls ++ l ∷ []) l.number (own_of m) (λ p i e. copy_is (ls ++ l ∷ []) more p i (unknown p e) (loops flow.3.3 p i e))))
      where
        unknown : (p : Private) → is_copied_in l.number p ≡ true → has_known_end p ≡ false
        unknown p e = not_true (has_known_end p) (both_true (not (has_known_end p)) (is_innermost l.number p.loops) e).0

        loops : {news inner : List Private} → AreOfLoop (private_scalars m) m.symbols IsCounter bits value trip ls l begun past news inner → (p : Private) → In p (own_of m) → is_copied_in l.number p ≡ true → p.loops ≡ map round_loop (ls ++ l ∷ [])
        loops o p i e =
            let inner = (both_true (not (has_known_end p)) (is_innermost l.number p.loops) e).1 in
            o.own p (o.all p (in_declared (private_scalars m) m.declarations p i) inner)
    part_is ls (Choice bs qs) begun past after behind plain f in1 in2 flow = absurd plain
    part_is ls (Label k) begun past after behind plain f in1 in2 flow = absurd plain
    part_is ls (Jump k) begun past after behind plain f in1 in2 flow = absurd plain

    parts_are : (ls : List Loop) (qs : Parts) (begun past after behind : List Private) → ArePlain qs → Stand (statements_in_parts ls qs) → Inside ls → Inside (loops_in_parts qs) → FlowIn ls begun past qs after behind
        → All P (statements_in_parts ls (parts (expand_parts qs)))
    parts_are ls no_parts begun past after behind plain f in1 in2 flow = All-nil P
    parts_are ls (part q qs) begun past after behind plain f in1 in2 flow =
        All-append P (statements_in ls (expand_part q)) (statements_in_parts ls (parts (expand_parts qs)))
        (part_is ls q begun past flow.0 flow.1 plain.0 (λ s i. f s (In-left s (statements_in ls q) (statements_in_parts ls qs) i)) in1 (λ o i. in2 o (In-left o (loops_of q) (loops_in_parts qs) i)) flow.2)
        (parts_are ls qs flow.0 flow.1 after behind plain.1 (λ s i. f s (In-right s (statements_in ls q) (statements_in_parts ls qs) i)) in1 (λ o i. in2 o (In-right o (loops_of q) (loops_in_parts qs) i)) flow.3)
