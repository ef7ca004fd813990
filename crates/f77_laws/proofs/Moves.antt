-- What each statement of a text without findings does to the block IFs and loops that are open.
use Rattle.std.proofs.Common.{◌≡◌, ℕ, true, false, List, ◌∷◌}
use Rattle.std.specs.List.{AllByRecursion}
use Rattle.f77_grammar.specs.Statement77.{Labelled}
use Rattle.f77_grammar.specs.program.Text.{Place77, places_from, label_stands_in, action}
use Rattle.f77_grammar.specs.program.Labels.{is_wrong_label77, is_unknown, label_named}
use Rattle.f77_laws.specs.trees.Laws.{IsWellNested}
use Rattle.f77_laws.proofs.trees.Moves as nested
use Rattle.f77_laws.proofs.Lists.{left_false, all_weaker}
use Rattle.f77_laws.proofs.Sound.{IsRight}
use Rattle.f77_laws.proofs.Frames.{frames}
pub use Rattle.f77_laws.proofs.trees.Moves.{HasNoElse, IsInIf, Moves, AllEnd}

is_well_nested : (text : List Labelled) (p : Place77) → IsRight text p → IsWellNested p
is_well_nested text p h =
    record {
      label =
          left_false (is_wrong_label77 p.before p.here.label) (is_unknown text (label_named (action p.here.statement)))
          h.label;
      nesting = h.nesting;
    }

pub all_nested : (text before xs : List Labelled) → AllByRecursion (IsRight text) (places_from before xs)
    → AllByRecursion IsWellNested (places_from before xs)
all_nested text before xs r =
    all_weaker (IsRight text) IsWellNested (is_well_nested text) (places_from before xs) r

pub stands_no_more : (text before xs : List Labelled) (m : ℕ) → AllByRecursion (IsRight text) (places_from before xs)
    → label_stands_in before m ≡ true → label_stands_in xs m ≡ false
stands_no_more text before xs m r h = nested.stands_no_more before xs m (all_nested text before xs r) h

pub moves : (text before xs : List Labelled) (x : Labelled)
    → AllByRecursion (IsRight text) (places_from before (x ∷ xs))
    → Moves x.statement x.label (frames (x ∷ xs) before 0) (frames xs (x ∷ before) 0)
moves text before xs x r = nested.moves before xs x (all_nested text before (x ∷ xs) r)

pub all_end : (text before xs : List Labelled) (x : Labelled)
    → AllByRecursion (IsRight text) (places_from before (x ∷ xs)) → AllEnd (x ∷ xs) (frames (x ∷ xs) before 0)
    → AllEnd xs (frames xs (x ∷ before) 0)
all_end text before xs x r h = nested.all_end before xs x (all_nested text before (x ∷ xs) r) h
