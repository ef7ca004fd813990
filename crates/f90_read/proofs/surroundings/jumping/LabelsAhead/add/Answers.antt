use Rattle.std.proofs.Common.{nat_eq, ◌∙◌, ap, ℕ, List, ◌++◌, ◌∷◌, []}
use Rattle.std.specs.Prelude.{reverse}
use Rattle.indexmap.specs.IndexMap.{get}
use Rattle.f90_read.proofs.OfSurroundings.LabelLaws.{label_added}
use Rattle.f90_read.proofs.surroundings.jumping.LabelsAhead.add.Goals as goal

pub returns : goal.returns
returns c at l =
    label_added c.args.self.now.labels.items (reverse c.args.self.now.starts.items) (get nat_eq c.args.self.now.firsts) at l c.args.label c.is_ahead-is_known.result c.push.new.self.items
    (reverse c.note.new.self.starts.items) (get nat_eq c.note.new.self.firsts) (c.is_ahead-is_known.ensures at l)
    (c.in_ok-push.ensures.items ∙ ap (λ (ls : List ℕ). ls ++ c.args.label ∷ []) c.in_ok-note.ensures.labels)
    (ap (λ (ss : List ℕ). reverse ss) c.in_ok-note.ensures.starts) (λ n. c.in_ok-note.ensures.firsts n)
