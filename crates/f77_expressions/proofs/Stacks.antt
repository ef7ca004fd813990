-- The stack of the frames that the code holds.
use Rattle.std.proofs.Common.{◌≡◌, ◌<◌, ℕ, List, [], ◌∷◌, ◌++◌, map, ap, ◌∙◌}
use Rattle.std.specs.Prelude.{reverse}
use Rattle.std.proofs.lemmas.List.{map_push, reverse-append}
use Rattle.f77_expressions.specs.declared.operands.Frame.{Frame}
use Rattle.f77_expressions.specs.Reader as R
use Rattle.f77_expressions.specs.Views.{frame_of, stack}
use Rattle.f77_expressions.proofs.Complete.{closes, stays}

pub stack_push : (frames : List Frame) (f : Frame) → stack (frames ++ f ∷ []) ≡ frame_of f ∷ stack frames
stack_push frames f = ap (reverse {A = R.Frame}) (map_push frame_of frames f) ∙ reverse-append (map frame_of frames) (frame_of f ∷ [])

pub least_push : (frames : List Frame) (f : Frame) → R.least (stack (frames ++ f ∷ [])) ≡ R.frame_least (frame_of f)
least_push frames f = ap R.least (stack_push frames f)

pub closes_push : (n : ℕ) (frames : List Frame) (f : Frame) (m : R.Operand) → n < R.frame_least (frame_of f)
    → R.close n (stack (frames ++ f ∷ [])) m ≡ R.close n (stack frames) (R.into (frame_of f) m)
closes_push n frames f m h = ap (λ (q : List R.Frame). R.close n q m) (stack_push frames f) ∙ closes n (frame_of f) (stack frames) m h

pub ruleset stacks = (stack_push, least_push, closes_push, stays)
