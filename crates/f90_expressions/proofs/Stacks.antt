-- The stack of the frames that the code holds, and the list that it writes.
use Rattle.std.proofs.Common.{arith, ◌≡◌, ◌<◌, ◌≤◌, ℕ, List, [], ◌∷◌, ◌++◌, map, refl, ap, sym, ◌∙◌, append_assoc, append-nil}
use Rattle.std.specs.Prelude.{reverse}
use Rattle.std.proofs.lemmas.Bool.{cond-true, cond-false, lt-ltb, le-ltb}
use Rattle.std.proofs.lemmas.List.{map_push, reverse-append}
use Rattle.f90_expressions.specs.declared.operands.Frame.{Frame}
use Rattle.f90_expressions.specs.declared.nodes.Node.{Node}
use Rattle.f90_expressions.specs.Flat as flat
use Rattle.f90_expressions.specs.Machine as machine
use Rattle.f90_expressions.specs.Machine.{Info, Held, held, close, frame_least, least, into, emitted}
use Rattle.f90_expressions.specs.Views.{frame_seen, stack, node_seen, nodes_seen}
use Rattle.std.specs.Prelude.{nat_lt}

pub stays : (n : ℕ) (fs : List machine.Frame) (m : Info) (ns : List flat.Node) → least fs ≤ n → close n fs m ns ≡ held fs m ns
stays n [] m ns h = refl
stays n (f ∷ fs) m ns h =
    cond-false (nat_lt n (frame_least f)) (close n fs (into f m) (ns ++ emitted f)) (held (f ∷ fs) m ns) (le-ltb n (frame_least f) h)

pub closes : (n : ℕ) (f : machine.Frame) (fs : List machine.Frame) (m : Info) (ns : List flat.Node) → n < frame_least f
    → close n (f ∷ fs) m ns ≡ close n fs (into f m) (ns ++ emitted f)
closes n f fs m ns h =
    cond-true (nat_lt n (frame_least f)) (close n fs (into f m) (ns ++ emitted f)) (held (f ∷ fs) m ns) (lt-ltb n (frame_least f) h)

pub stack_push : (frames : List Frame) (f : Frame) → stack (frames ++ f ∷ []) ≡ frame_seen f ∷ stack frames
stack_push frames f = ap (reverse {A = machine.Frame}) (map_push frame_seen frames f) ∙ reverse-append (map frame_seen frames) (frame_seen f ∷ [])

pub least_push : (frames : List Frame) (f : Frame) → least (stack (frames ++ f ∷ [])) ≡ frame_least (frame_seen f)
least_push frames f = ap least (stack_push frames f)

pub closes_push : (n : ℕ) (frames : List Frame) (f : Frame) (m : Info) (ns : List flat.Node) → n < frame_least (frame_seen f)
    → close n (stack (frames ++ f ∷ [])) m ns ≡ close n (stack frames) (into (frame_seen f) m) (ns ++ emitted (frame_seen f))
closes_push n frames f m ns h = ap (λ (q : List machine.Frame). close n q m ns) (stack_push frames f) ∙ closes n (frame_seen f) (stack frames) m ns h

pub node_push : (ns : List Node) (n : Node) → nodes_seen (ns ++ n ∷ []) ≡ nodes_seen ns ++ node_seen n ∷ []
node_push ns n = map_push node_seen ns n

pub nodes_push : (ns : List flat.Node) (a b : flat.Node) → (ns ++ a ∷ []) ++ b ∷ [] ≡ ns ++ a ∷ b ∷ []
nodes_push ns a b = append_assoc ns (a ∷ []) (b ∷ [])

pub ruleset stacks = (stack_push, least_push, closes_push, stays, node_push, nodes_push, append-nil)
