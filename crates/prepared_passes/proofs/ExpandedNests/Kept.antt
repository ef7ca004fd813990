-- The loops of an expanded nest.
use Rattle.std.proofs.Common.{◌≡◌, refl, sym, ap, ap₂, ◌∙◌, ℕ, Bool, true, false, cond, List, [], ◌∷◌, ◌++◌}
use Rattle.std.proofs.lemmas.List.{append-nil, append_assoc}
use Rattle.nest.specs.Bodies.{loops_in_parts, loops_of}
use Rattle.nest.specs.Plain.{Loop, Part, Run, Turns, Choice, Label, Jump, Parts, no_parts, part, parts}
use Rattle.nest_order.specs.shapes.Shapes.{ArePlain, IsPlain}
use Rattle.nest_rewrite.specs.Assembled.{with_parts}
use Rattle.rewrite.specs.Making.{Making}
use Rattle.pass_laws.specs.prepared_nests.Loops.{EachLoop, EachLoopIn, IsPreparedLoop}
use Rattle.scalar_expand.specs.Expanded.{copies_in, copied, expanded_part, expanded_parts, expanding, is_copied_in, with_made_arrays}
use Rattle.scalar_expand.specs.Laws.{own_of}
use Rattle.scalar_expand.specs.Privates.{private_scalars}
use Rattle.scalar_expand.specs.declared.privates.Private.{Private}
use Rattle.prepared_passes.specs.expansion.Kept.{ExpandedNestKeepsLoops}

-- ---- lists of parts

plain_both : (xs ys : List Part) → ArePlain (parts xs) → ArePlain (parts ys) → ArePlain (parts (xs ++ ys))
plain_both [] ys h k = k
plain_both (x ∷ xs) ys h k = (h.0, plain_both xs ys h.1 k)

loops_both : (xs ys : List Part) → loops_in_parts (parts (xs ++ ys)) ≡ loops_in_parts (parts xs) ++ loops_in_parts (parts ys)
loops_both [] ys = refl
loops_both (x ∷ xs) ys = ap (λ (ls : List Loop). loops_of x ++ ls) (loops_both xs ys) ∙ sym (append_assoc (loops_of x) (loops_in_parts (parts xs)) (loops_in_parts (parts ys)))

module _ (Asked : List Loop → Loop → Type 0) where
  each_both : (ls : List Loop) (xs ys : List Part) → EachLoopIn Asked ls (parts xs) → EachLoopIn Asked ls (parts ys) → EachLoopIn Asked ls (parts (xs ++ ys))
  each_both ls [] ys h k = k
  each_both ls (x ∷ xs) ys h k = (h.0, each_both ls xs ys h.1 k)

  -- what is copied stands in no loop of its own
  copies_each : (line n : ℕ) (ls : List Loop) (os : List Private) → EachLoopIn Asked ls (parts (copies_in line n os))
  copies_each line n ls [] = tt
  copies_each line n ls (p ∷ os) = by (is_copied_in n p) (copies_each line n ls os)
    where
      by : (b : Bool) → EachLoopIn Asked ls (parts (copies_in line n os)) → EachLoopIn Asked ls (parts (cond b (Run (copied line p) ∷ []) [] ++ copies_in line n os))
      by true h = (tt, h)
      by false h = h

copies_plain : (line n : ℕ) (os : List Private) → ArePlain (parts (copies_in line n os))
copies_plain line n [] = tt
copies_plain line n (p ∷ os) = by (is_copied_in n p) (copies_plain line n os)
  where
    by : (b : Bool) → ArePlain (parts (copies_in line n os)) → ArePlain (parts (cond b (Run (copied line p) ∷ []) [] ++ copies_in line n os))
    by true h = (tt, h)
    by false h = h

copies_none : (line n : ℕ) (os : List Private) → loops_in_parts (parts (copies_in line n os)) ≡ []
copies_none line n [] = refl
copies_none line n (p ∷ os) = by (is_copied_in n p) (copies_none line n os)
  where
    by : (b : Bool) → loops_in_parts (parts (copies_in line n os)) ≡ [] → loops_in_parts (parts (cond b (Run (copied line p) ∷ []) [] ++ copies_in line n os)) ≡ []
    by true h = h
    by false h = h

-- ---- parts

module _ (line : ℕ) (m : Making) (own : List Private) where
  mutual
    plain_part : (q : Part) → IsPlain q → IsPlain (expanded_part line m own q)
    plain_part (Run g) h = tt
    plain_part (Turns l qs) h = (h.0, plain_both (expanded_parts line m own qs) (copies_in line l.number own) (plain_parts qs h.1) (copies_plain line l.number own))
    plain_part (Choice bs qs) h = absurd h
    plain_part (Label k) h = absurd h
    plain_part (Jump k) h = absurd h

    plain_parts : (qs : Parts) → ArePlain qs → ArePlain (parts (expanded_parts line m own qs))
    plain_parts no_parts h = tt
    plain_parts (part q qs) h = (plain_part q h.0, plain_parts qs h.1)

  mutual
    same_loops : (q : Part) → IsPlain q → loops_of (expanded_part line m own q) ≡ loops_of q
    same_loops (Run g) h = refl
    same_loops (Turns l qs) h =
        ap (λ (ls : List Loop). l ∷ ls) (loops_both (expanded_parts line m own qs) (copies_in line l.number own)
        ∙ (ap₂ (λ (xs ys : List Loop). xs ++ ys) (same_loops_in qs h.1) (copies_none line l.number own) ∙ append-nil (loops_in_parts qs)))
    same_loops (Choice bs qs) h = absurd h
    same_loops (Label k) h = absurd h
    same_loops (Jump k) h = absurd h

    same_loops_in : (qs : Parts) → ArePlain qs → loops_in_parts (parts (expanded_parts line m own qs)) ≡ loops_in_parts qs
    same_loops_in no_parts h = refl
    same_loops_in (part q qs) h = ap₂ (λ (xs ys : List Loop). xs ++ ys) (same_loops q h.0) (same_loops_in qs h.1)

  module _ (Asked : List Loop → Loop → Type 0) where
    mutual
      each_part : (ls : List Loop) (q : Part) → IsPlain q → EachLoop Asked ls q → EachLoop Asked ls (expanded_part line m own q)
      each_part ls (Run g) plain h = tt
      each_part ls (Turns l qs) plain h =
          (h.0, each_both Asked (ls ++ l ∷ []) (expanded_parts line m own qs) (copies_in line l.number own) (each_parts (ls ++ l ∷ []) qs plain.1 h.1) (copies_each Asked line l.number (ls ++ l ∷ []) own))
      each_part ls (Choice bs qs) plain h = absurd plain
      each_part ls (Label k) plain h = absurd plain
      each_part ls (Jump k) plain h = absurd plain

      each_parts : (ls : List Loop) (qs : Parts) → ArePlain qs → EachLoopIn Asked ls qs → EachLoopIn Asked ls (parts (expanded_parts line m own qs))
      each_parts ls no_parts plain h = tt
      each_parts ls (part q qs) plain h = (each_part ls q plain.0 h.0, each_parts ls qs plain.1 h.1)

pub expanded_nest_keeps_loops : ExpandedNestKeepsLoops
unfolding with_made_arrays with_parts
expanded_nest_keeps_loops es around deepest m h = record {
  line = refl;
  number = refl;
  symbols = refl;
  plain = plain_part m.line (expanding (private_scalars m)) (own_of m) m.body h.plain;
  loops = each_part m.line (expanding (private_scalars m)) (own_of m) (IsPreparedLoop es m.symbols) [] m.body h.plain h.parts.loops;
  same = same_loops m.line (expanding (private_scalars m)) (own_of m) m.body h.plain;
}
