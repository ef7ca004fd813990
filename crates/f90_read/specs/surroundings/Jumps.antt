-- GO TOs and the labels that stand ahead of them.
use Rattle.std.specs.Prelude.{◌≡◌, ◌≤◌, ℕ, zero, suc, nat_eq, Bool, false, not, ◌||◌, Option, Some, None}
use Rattle.std.specs.Prelude.{List, [], ◌∷◌, length, take, reverse, slice_get, IsSomeAnd}
use Rattle.std.specs.List.{list_any}
use Rattle.indexmap.specs.IndexMap.{get}
use Rattle.f90_laws.specs.blocks.Places.{labels_ahead}
use Rattle.f90_grammar.specs.Blocks.{Placed}
use Rattle.f90_grammar.specs.Forms as forms
use Rattle.f90_grammar.specs.Forms.{Form90}
use Rattle.f90_grammar.specs.Order.{Place90}
use Rattle.f90_grammar.specs.Phrases.{value_of_digits}
use Rattle.f90_read.specs.declared.surroundings.jumping.LabelsAhead.{LabelsAhead}

-- ---- GO TOs

-- the label that a GO TO names
abbrev pub target_of : Form90 → Option ℕ
target_of (forms.Go label) = Some (value_of_digits label)
target_of (forms.Test p f) = target_of f
target_of f = None

-- it is 0, or none of these
abbrev pub leads_wrongly : Option ℕ → List ℕ → Bool
leads_wrongly None ns = false
leads_wrongly (Some n) ns = nat_eq n 0 || not (list_any (nat_eq n) ns)

abbrev pub jumps_wrongly_at : Place90 → Bool
jumps_wrongly_at p = leads_wrongly (target_of p.here.form) (labels_ahead p.after 0)

-- ---- the labels that are held: `at n` are those that may be jumped to from within n blocks that have begun since

-- those that were there before the innermost n blocks, from behind; `starts` are the numbers of labels before each, the
-- innermost first
abbrev pub kept : List ℕ → ℕ → List ℕ → List ℕ
kept labels zero starts = labels
kept labels (suc n) [] = []
kept labels (suc n) (s ∷ starts) = kept (take s labels) n starts

abbrev pub AreStarts : List ℕ → ℕ → Type 0
AreStarts [] n = Unit {0}
AreStarts (s ∷ starts) n = (s ≤ n) × AreStarts starts s

abbrev pub is_there : Option ℕ → ℕ → Bool
is_there None n = false
is_there (Some m) n = nat_eq n m

pub record AreHeld (labels starts : List ℕ) (firsts : ℕ → Option ℕ) (at : ℕ → List ℕ) : Type 0 where
  pub same : (n : ℕ) → reverse (kept labels n starts) ≡ at n
  pub are_starts : AreStarts starts (length labels)
  -- a label that is held is found where it stands first
  pub found : (n j : ℕ) → slice_get labels j ≡ Some n
      → IsSomeAnd (firsts n) (λ i. (i ≤ j) × (slice_get labels i ≡ Some n))

abbrev pub AreLevels : LabelsAhead → (ℕ → List ℕ) → Type 0
AreLevels a at = AreHeld a.labels.items (reverse a.starts.items) (get nat_eq a.firsts) at

abbrev pub AreAhead : LabelsAhead → List Placed → Type 0
AreAhead a ps = AreLevels a (labels_ahead ps)

-- where the innermost block was opened, and the starts of the others
abbrev pub front : List ℕ → ℕ
front [] = 0
front (s ∷ starts) = s

abbrev pub others : List ℕ → List ℕ
others [] = []
others (s ∷ starts) = starts

-- ---- one label more, one block more, one block less

abbrev pub with_first : ℕ → (ℕ → List ℕ) → ℕ → List ℕ
with_first label at zero = label ∷ at zero
with_first label at (suc n) = at (suc n)

abbrev pub entered : (ℕ → List ℕ) → ℕ → List ℕ
entered at zero = at zero
entered at (suc n) = at n

abbrev pub left : (ℕ → List ℕ) → ℕ → List ℕ
left at n = at (suc n)
