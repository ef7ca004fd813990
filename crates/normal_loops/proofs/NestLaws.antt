-- The only part of a body, and nests with other bodies.
use Rattle.std.proofs.Common.{◌≡◌, ◌<◌, ◌≤◌, Option, Some, None, Result, Ok, Err, IfOk, List, [], ◌∷◌, ◌++◌, ◌+◌, map, length, refl, ap, ◌∙◌, arith, sym, length-append}
use Rattle.tree.specs.Plain as F
use Rattle.tree.specs.declared.lists.Memory.{Memory}
use Rattle.nest.specs.Allocations.{block_then}
use Rattle.nest.specs.Plain as P
use Rattle.nest.specs.View.{nest_of, part_of}
use Rattle.nest.specs.declared.nests.Nest.{Nest}
use Rattle.nest.specs.declared.parts.Part.{Part}
use Rattle.nest_rewrite.specs.Assembled.{with_parts}
use Rattle.normal_loops.specs.Normalised.{only_one, with_body}

pub one-many : (ps : List Part) → 1 < length ps → only_one (map part_of ps) ≡ None
one-many [] h = absurd (omega arith)
one-many (p ∷ []) h = absurd (omega arith)
one-many (p ∷ q ∷ ps) h = refl

pub one-none : (ps : List Part) → ps ≡ [] → only_one (map part_of ps) ≡ None
one-none ps e = ap (λ qs. only_one (map part_of qs)) e

pub last-one : (xs ps : List Part) (x : Part) → ps ≡ xs ++ x ∷ [] → length ps ≤ 1 → only_one (map part_of ps) ≡ Some (part_of x)
last-one [] ps x e h = ap (λ qs. only_one (map part_of qs)) e
last-one (y ∷ xs) ps x e h =
    let count : length ps ≡ length (y ∷ xs) + 1 = ap length e ∙ length-append (y ∷ xs) (x ∷ []) in
    absurd (omega (arith, count, h))

pub ruleset one_laws = (one-many, one-none, last-one)

-- ---- another body, and more behind what comes after

same_made : (n : P.Nest) (p : P.Part) (more : F.Block) → with_parts n p n.made (block_then n.after more) ≡ with_body n more p
unfolding with_parts with_body
same_made n p more = refl

pub with_other_body : (n : P.Nest) (p : P.Part) (as' : List P.Made) (more after : F.Block) (r : Result Nest Memory) → as' ≡ n.made → after ≡ block_then n.after more
    → IfOk r (λ new. nest_of new ≡ with_parts n p as' after) → IfOk r (λ new. nest_of new ≡ with_body n more p)
with_other_body n p as' more after (Err e) arrays behind h = h
with_other_body n p as' more after (Ok new) arrays behind h = h ∙ ((λ i. with_parts n p (arrays i) (behind i)) ∙ same_made n p more)
