-- A nest that is prepared with its IFs and jumps, by declarations without masks, is prepared with masks in their place.
use Rattle.std.proofs.Common.{◌≡◌, ℕ, All, List, None}
use Rattle.std.proofs.lemmas.List.Elements.{All-map, All-weaker}
use Rattle.tree.specs.Plain.{Declaration}
use Rattle.meaning.specs.Typed.{declared}
use Rattle.nest.specs.Plain.{Made, Nest}
use Rattle.pass_laws.specs.prepared_nests.Made.{IsPreparedMade}
use Rattle.pass_laws.specs.prepared_nests.Nests.{IsBranched}
use Rattle.pass_laws.specs.prepared_nests.Statements.{made_names}
use Rattle.if_convert.specs.Masks.{mask_name}
use Rattle.prepared_passes.specs.conversion.Branching.{IsNoMask}
use Rattle.prepared_passes.specs.conversion.Prepared.{ConvertedBranchedNestIsPrepared}
use Rattle.prepared_passes.proofs.ConvertedNests.Declared.{branched_nest_is_branching, is_there, no_mask}
use Rattle.prepared_passes.proofs.ConvertedNests.Prepared.{converted_nest_is_prepared}

made_are_none : (ds : List Declaration) (around : List (List ℕ)) (deepest : ℕ) (n : Nest) → IsBranched ds around deepest n → ((i : ℕ) → declared ds (mask_name i) ≡ None) → All IsNoMask (made_names n)
made_are_none ds around deepest n b none =
    All-map IsNoMask (λ (a : Made). a.name) n.made
    (All-weaker (IsPreparedMade ds n.symbols deepest) (λ (a : Made). IsNoMask a.name) (λ a h. no_mask ds none a.name (is_there ds (declared ds a.name) _ h.declaration)) n.made b.parts.made)

pub converted_branched_nest_is_prepared : ConvertedBranchedNestIsPrepared
converted_branched_nest_is_prepared ds es around deepest masks n m b none un e few deep c marks =
    converted_nest_is_prepared es around deepest masks n m e few deep (branched_nest_is_branching ds around deepest n b un none) (made_are_none ds around deepest n b none) c marks
