-- No label and no jump stands in what is emitted for a nest.
use Rattle.std.proofs.Common.{◌≡◌, refl, ap, ap₂, ℕ, suc, List, [], ◌∷◌, ◌++◌, Some}
use Rattle.array_form.specs.forms.Loops.{FormSurroundings, form_names_of}
use Rattle.array_form.specs.forms.Statements.{and_all, guarded_by, guarded_form, loops_from, form_tests_of}
use Rattle.emission.specs.emission_pieces.Nests.{loops_at, standing_at}
use Rattle.emission.specs.emission_pieces.Pieces.{Formed, Kept, Piece, Pieces, Turning, block_of_piece, block_of_pieces, mark_of}
use Rattle.emission.specs.emission_pieces.Pieces.{kept_assignment, kept_statement, no_pieces, piece, translation}
use Rattle.meaning.specs.Labels.{all_labels_in, all_labels_of, targets_in, targets_of}
use Rattle.tree.specs.Plain.{Expression, Statement, Assignment, Where, If, Do, Label, GoTo, Stop, Read}
use Rattle.tree.specs.Plain.{Print, Allocate, Deallocate, Block, arm, no_arms, no_statements, statement}
use Rattle.pass_laws.specs.prepared_nests.After.{AreEndings, IsEnding}
use Rattle.nest.specs.Allocations.{allocation_then, allocations_then, block_then, deallocation_then, deallocations}
use Rattle.nest.specs.Plain.{Guarded, Made, Nest}
use Rattle.pass_laws.proofs.PreparedRuns.Pieces.{of_form, of_kept}
use Rattle.translation.specs.placed_profile.Laws.{IsWithoutLabels}
use Rattle.array_form.specs.holds.Surroundings.{surroundings_of}

record IsUnlabelled (c : Statement) : Type 0 where
  labels : all_labels_of c ≡ []
  targets : targets_of c ≡ []

nothing : IsWithoutLabels no_statements
nothing = record { labels = refl; targets = refl }

none_of : (xs ys : List ℕ) → xs ≡ [] → ys ≡ [] → xs ++ ys ≡ []
none_of xs ys h k = ap₂ (λ (a b : List ℕ). a ++ b) h k

first_then : (c : Statement) (cs : Block) → IsUnlabelled c → IsWithoutLabels cs → IsWithoutLabels (statement c cs)
first_then c cs h k = record {
  labels = none_of (all_labels_of c) (all_labels_in cs) h.labels k.labels;
  targets = none_of (targets_of c) (targets_in cs) h.targets k.targets;
}

one : (c : Statement) → IsUnlabelled c → IsWithoutLabels (statement c no_statements)
one c h = first_then c no_statements h nothing

-- ---- last values

mutual
  ending_unlabelled : (c : Statement) → IsEnding c → IsUnlabelled c
  ending_unlabelled (Assignment line mark left right) h = record { labels = refl; targets = refl }
  ending_unlabelled (If line no_arms other) h = absurd h.0
  ending_unlabelled (If line (arm test body (arm u d ms)) other) h = absurd h.0.1
  ending_unlabelled (If line (arm test body no_arms) (statement c cs)) h = absurd h.1
  ending_unlabelled (If line (arm test body no_arms) no_statements) h =
      let inner = endings_unlabelled body h.0.0 in
      record {
        labels = none_of (all_labels_in body ++ []) [] (none_of (all_labels_in body) [] inner.labels refl) refl;
        targets = none_of (targets_in body ++ []) [] (none_of (targets_in body) [] inner.targets refl) refl;
      }
  ending_unlabelled (Where line mark mask left right) h = absurd h
  ending_unlabelled (Do line x a b c body) h = absurd h
  ending_unlabelled (Label n) h = absurd h
  ending_unlabelled (GoTo line n) h = absurd h
  ending_unlabelled (Stop line) h = absurd h
  ending_unlabelled (Read line is) h = absurd h
  ending_unlabelled (Print line is) h = absurd h
  ending_unlabelled (Allocate line x es) h = absurd h
  ending_unlabelled (Deallocate line x) h = absurd h

  pub endings_unlabelled : (b : Block) → AreEndings b → IsWithoutLabels b
  endings_unlabelled no_statements h = nothing
  endings_unlabelled (statement c cs) h = first_then c cs (ending_unlabelled c h.0) (endings_unlabelled cs h.1)

-- ---- what is emitted

then_unlabelled : (a b : Block) → IsWithoutLabels a → IsWithoutLabels b → IsWithoutLabels (block_then a b)
then_unlabelled no_statements b h k = k
then_unlabelled (statement c cs) b h k =
    let first = parted (all_labels_of c) (all_labels_in cs) h.labels in
    let jumps = parted (targets_of c) (targets_in cs) h.targets in
    first_then c (block_then cs b) (record { labels = first.0; targets = jumps.0 })
    (then_unlabelled cs b (record { labels = first.1; targets = jumps.1 }) k)
  where
    parted : (xs ys : List ℕ) → xs ++ ys ≡ [] → (xs ≡ []) × (ys ≡ [])
    parted [] ys e = (refl, e)
    parted (x ∷ xs) ys e = let no : ⊥ = cc in absurd no

conditions_unlabelled : (line : ℕ) (es : List Expression) (c : Statement) → IsUnlabelled c → IsWithoutLabels (guarded_by line es (statement c no_statements))
conditions_unlabelled line [] c h = one c h
conditions_unlabelled line (e ∷ es) c h =
    one (If line (arm (and_all e es) (statement c no_statements) no_arms) no_statements)
    (record { labels = ap (λ (xs : List ℕ). ((xs ++ []) ++ []) ++ []) h.labels; targets = ap (λ (xs : List ℕ). ((xs ++ []) ++ []) ++ []) h.targets })

module _ (n : Nest) where
  abbrev around : ℕ → FormSurroundings
  around s = surroundings_of n (loops_at n s)

  abbrev own : ℕ → Guarded
  own s = (standing_at n s).statement

  mutual
    piece_unlabelled : (k : ℕ) (p : Piece) → IsWithoutLabels (block_of_piece n k p)
    piece_unlabelled k (Kept s) =
        one (kept_statement n s)
        (of_kept IsUnlabelled (own s).line (own s).guard (kept_assignment n s) (record { labels = refl; targets = refl }) (λ e. record { labels = refl; targets = refl }))
    piece_unlabelled k (Formed s) =
        conditions_unlabelled (own s).line (form_tests_of (form_names_of (around s)) (loops_from (around s) k)) (guarded_form (around s) k (own s).line (Some (mark_of n s k)) (own s).guard (own s).left (own s).right)
        (of_form IsUnlabelled (around s) k (own s).line (Some (mark_of n s k)) (own s).guard (own s).left (own s).right
        (record { labels = refl; targets = refl }) (λ e. record { labels = refl; targets = refl }) (λ e. record { labels = refl; targets = refl }))
    piece_unlabelled k (Turning l ps) =
        let inner = pieces_unlabelled (suc k) ps in
        record {
          labels = none_of (all_labels_in (block_of_pieces n (suc k) ps)) [] inner.labels refl;
          targets = none_of (targets_in (block_of_pieces n (suc k) ps)) [] inner.targets refl;
        }

    pieces_unlabelled : (k : ℕ) (ps : Pieces) → IsWithoutLabels (block_of_pieces n k ps)
    pieces_unlabelled k no_pieces = nothing
    pieces_unlabelled k (piece p ps) = then_unlabelled (block_of_piece n k p) (block_of_pieces n k ps) (piece_unlabelled k p) (pieces_unlabelled k ps)

allocation_unlabelled : (line : ℕ) (x : List ℕ) (es : List Expression) (b : Block) → IsWithoutLabels b → IsWithoutLabels (allocation_then line x es b)
allocation_unlabelled line x [] b h = h
allocation_unlabelled line x (e ∷ es) b h = record { labels = h.labels; targets = h.targets }

deallocation_unlabelled : (line : ℕ) (x : List ℕ) (es : List Expression) (b : Block) → IsWithoutLabels b → IsWithoutLabels (deallocation_then line x es b)
deallocation_unlabelled line x [] b h = h
deallocation_unlabelled line x (e ∷ es) b h = record { labels = h.labels; targets = h.targets }

allocations_unlabelled : (line : ℕ) (ms : List Made) (b : Block) → IsWithoutLabels b → IsWithoutLabels (allocations_then line ms b)
allocations_unlabelled line [] b h = h
allocations_unlabelled line (m ∷ ms) b h = allocation_unlabelled line m.name m.extents (allocations_then line ms b) (allocations_unlabelled line ms b h)

deallocations_unlabelled : (line : ℕ) (ms : List Made) → IsWithoutLabels (deallocations line ms)
deallocations_unlabelled line [] = nothing
deallocations_unlabelled line (m ∷ ms) = deallocation_unlabelled line m.name m.extents (deallocations line ms) (deallocations_unlabelled line ms)

pub translation_unlabelled : (n : Nest) (ps : Pieces) → IsWithoutLabels n.after → IsWithoutLabels (translation n ps)
translation_unlabelled n ps h =
    allocations_unlabelled n.line n.made (block_then (block_of_pieces n 1 ps) (block_then n.after (deallocations n.line n.made)))
    (then_unlabelled (block_of_pieces n 1 ps) (block_then n.after (deallocations n.line n.made)) (pieces_unlabelled n 1 ps)
    (then_unlabelled n.after (deallocations n.line n.made) h (deallocations_unlabelled n.line n.made)))
