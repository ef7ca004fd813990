-- What splitting leaves of a nest, whatever stands behind it.
use Rattle.std.proofs.Common.{◌≡◌, refl, sym, ap, ◌∙◌, subst, ℕ, ◌+◌, Bool, List, [], ◌∷◌, length, Option, Some, None}
use Rattle.std.proofs.Common.{◌++◌, append-nil, arith}
use Rattle.std.specs.Option.{option_map}
use Rattle.std.specs.Prelude.{unwrap_or}
use Rattle.dependence_graph.specs.declared.graphs.Graph.{Graph}
use Rattle.dependence_graph.specs.declared.graphs.Place.{Place}
use Rattle.nest.specs.Plain.{Made, Nest}
use Rattle.node_splitting.specs.Split.{if_copied, made_arrays, with_nodes_split}
use Rattle.prepared_passes.proofs.SplitNests.Kept.{splits_with_anything_behind}
use Rattle.prepared_passes.proofs.SplitNests.Places.{last_is}
use Rattle.prepared_passes.specs.splitting.Splits.{nodes_split}
use Rattle.tree.specs.Plain.{Block}
use Rattle.listing.specs.programs.Stages.{IsSplitBy, with_copies_before}

-- ---- what splitting makes

-- it is right for some choice of reads
pub split_so : (n m : Nest) (g h : Graph) (s : IsSplitBy n g m h) → m ≡ nodes_split s.is.may n
split_so n m g h s = s.nest ∙ ap (λ (o : Option Nest). unwrap_or o n) s.is.is

-- ---- whatever stands behind

module _ (may : Place → Bool) (n : Nest) (after : Block) where
  pub split_with_anything_behind :
      nodes_split may (record n { after = after }) ≡ record (nodes_split may n) { after = after }
  split_with_anything_behind =
      ap (λ (o : Option Nest). unwrap_or o (record n { after = after })) (splits_with_anything_behind may n after)
      ∙ by (with_nodes_split may n)
    where
      by : (o : Option Nest)
          → unwrap_or (option_map (λ (k : Nest). record k { after = after }) o) (record n { after = after })
          ≡ record (unwrap_or o n) { after = after }
      by None = refl
      by (Some k) = refl

pub counted_beside : (copies : ℕ) (k c m : Nest) → k ≡ record c { after = k.after } → m ≡ with_copies_before copies k
    → m ≡ record (with_copies_before copies c) { after = m.after }
counted_beside copies k c m same e =
    let is : m ≡ record (with_copies_before copies c) { after = k.after } = e ∙ ap (with_copies_before copies) same in
    subst (λ (z : Nest). z ≡ record (with_copies_before copies c) { after = z.after }) (sym is) refl

pub split_beside : (k c m : Nest) (g h : Graph) → k ≡ record c { after = k.after } → (s : IsSplitBy k g m h)
    → m ≡ record (nodes_split s.is.may c) { after = m.after }
split_beside k c m g h same s =
    let is : m ≡ record (nodes_split s.is.may c) { after = k.after }
    = split_so k m g h s ∙ ap (nodes_split s.is.may) same ∙ split_with_anything_behind s.is.may c k.after in
    subst (λ (z : Nest). z ≡ record (nodes_split s.is.may c) { after = z.after }) (sym is) refl

-- ---- what stays

module _ (may : Place → Bool) (n : Nest) where
  abbrev IsRest : Nest → Type 0
  IsRest m = m ≡ record n { body = m.body; made = m.made; copies = m.copies }

  -- all but statements, what was made and the count of copies
  pub split_rest : IsRest (nodes_split may n)
  unfolding with_nodes_split
  split_rest = by (made_arrays may n)
    where
      by : (as' : List Made) → IsRest (unwrap_or (if_copied may n as') n)
      by [] = refl
      by (a ∷ as') = refl

  -- and how many copies there are behind it
  pub split_copies : (nodes_split may n).copies ≡ n.copies + length (made_arrays may n)
  unfolding with_nodes_split
  split_copies = by (made_arrays may n) refl
    where
      by : (as' : List Made) → made_arrays may n ≡ as'
          → (unwrap_or (if_copied may n as') n).copies ≡ n.copies + length as'
      by [] e = let none : n.copies ≡ n.copies + 0 = omega arith in none
      by (a ∷ as') e = last_is may n ∙ ap (λ (bs : List Made). n.copies + length bs) e

  -- and what was made by then
  pub split_made : (nodes_split may n).made ≡ n.made ++ made_arrays may n
  unfolding with_nodes_split
  split_made = by (made_arrays may n) refl
    where
      by : (as' : List Made) → made_arrays may n ≡ as' → (unwrap_or (if_copied may n as') n).made ≡ n.made ++ as'
      by [] e = sym (append-nil n.made)
      by (a ∷ as') e = refl
