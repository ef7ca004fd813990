-- A nest with loops from 1 by 1 has the number and the declarations of the nest; the one that is expanded has as many
-- masks as the one with masks.
use Rattle.std.proofs.Common.{◌≡◌, refl, ap, ◌∙◌, subst, ℕ, ◌≤◌, ◌^◌, Bool, true, false, cond, List, [], ◌∷◌, Option, Some, None}
use Rattle.std.specs.Option.{option_map}
use Rattle.nest.specs.Plain.{Nest, Part}
use Rattle.normal_loops.specs.Bodies.{normal_part}
use Rattle.normal_loops.specs.Loops.{nested_loops}
use Rattle.normal_loops.specs.Normal.{is_normal}
use Rattle.normal_loops.specs.Normalised.{normalised, only_one, with_body, with_loops}
use Rattle.pass_laws.proofs.NormalMeaning.Made as texts
use Rattle.nest.specs.declared.parts.Trip.{Trip}
use Rattle.statement_passes.specs.Shifted.{with_nest_symbol, with_nest_symbols}
use Rattle.inductions.specs.Found.{inductions_by, outermost_trip}
use Rattle.inductions.specs.Nests.{induction_names, inductions_substituted, substituted_by, with_inductions}
use Rattle.inductions.specs.declared.found.Induction.{Induction}
use Rattle.scalar_rename.specs.Ranges.{webs_of}
use Rattle.scalar_rename.specs.Renamed.{renamed, with_names}
use Rattle.scalar_rename.specs.declared.ranges.Web.{Web}
use Rattle.symbols_anew.specs.Nests.{with_symbols_found}
use Rattle.tree.specs.Plain.{Block}
use Rattle.prepared_passes.proofs.ExpandedNests.Anew.{masks_anew}
use Rattle.prepared_passes.specs.expansion.Unexpanded.{substituted, unexpanded}

pub record IsSame (n m : Nest) : Type 0 where
  pub number : m.number ≡ n.number
  pub declarations : m.declarations ≡ n.declarations

with_body_same : (n : Nest) (more : Block) (q : Part) → IsSame n (with_body n more q)
unfolding with_body
with_body_same n more q = record { number = refl; declarations = refl }

module _ (n m : Nest) where
  from_bodies : (qs : List Part) → option_map (with_body n (texts.behind n)) (only_one qs) ≡ Some m → IsSame n m
  from_bodies [] h = let no : ⊥ = cc in absurd no
  from_bodies (q ∷ []) h =
      let same : with_body n (texts.behind n) q ≡ m = cc in
      subst (IsSame n) same (with_body_same n (texts.behind n) q)
  from_bodies (q ∷ r ∷ qs) h = let no : ⊥ = cc in absurd no

  from_loops : with_loops n (nested_loops n.symbols [] n.body) ≡ Some m → IsSame n m
  unfolding with_loops
  from_loops h = from_bodies (normal_part n (nested_loops n.symbols [] n.body) [] n.body) h

  pub normal_same : normalised n ≡ Some m → IsSame n m
  unfolding normalised
  normal_same h = by (is_normal n.symbols [] n.body) h
    where
      by : (b : Bool) → cond b (with_loops n (nested_loops n.symbols [] n.body)) None ≡ Some m → IsSame n m
      by true g = from_loops g
      by false g = let no : ⊥ = cc in absurd no

-- ---- masks

symbols_masks : (n : Nest) (xs : List (List ℕ)) → (with_nest_symbols n xs).masks ≡ n.masks
symbols_masks n [] = refl
symbols_masks n (x ∷ xs) = symbols_masks (with_nest_symbol n x) xs

with_masks : (n : Nest) (o : List ℕ × Trip) (ds : List Induction) → (with_inductions n o ds).masks ≡ n.masks
with_masks n o [] = refl
with_masks n o (d ∷ ds) = symbols_masks n (induction_names (d ∷ ds))

by_masks : (n : Nest) (o : Option (List ℕ × Trip)) → (substituted_by n o).masks ≡ n.masks
by_masks n None = refl
by_masks n (Some o) = with_masks n o (inductions_by n (Some o))

substituted_masks : (n : Nest) → (inductions_substituted n).masks ≡ n.masks
unfolding inductions_substituted
substituted_masks n = by_masks n (outermost_trip n.body)

named_masks : (n : Nest) (ws : List Web) → (with_names n ws).masks ≡ n.masks
named_masks n [] = refl
named_masks n (w ∷ ws) = refl

renamed_masks : (n : Nest) → (renamed n).masks ≡ n.masks
unfolding renamed
renamed_masks n = named_masks n (webs_of n)

pub masks_unexpanded : (m masked k : Nest) → k ≡ unexpanded m masked → k.masks ≡ masked.masks
masks_unexpanded m masked k anew =
    ap (λ (z : Nest). z.masks) anew
    ∙ (renamed_masks (substituted m masked) ∙ (substituted_masks (with_symbols_found m masked) ∙ masks_anew m masked (with_symbols_found m masked) refl))

-- the nest with masks has as few
pub few_before : (m masked k : Nest) → k ≡ unexpanded m masked → k.masks ≤ 2 ^ 32 → masked.masks ≤ 4294967296
few_before m masked k anew few =
    let most : k.masks ≤ 4294967296 = few in
    subst (λ (i : ℕ). i ≤ 4294967296) (masks_unexpanded m masked k anew) most
