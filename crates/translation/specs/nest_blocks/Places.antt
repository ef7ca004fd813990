-- Lists with places for blocks.
use Rattle.std.specs.Prelude.{◌≡◌, ◌≢◌, ◌≤◌, ℕ, ◌-◌, Option, Some, None, List, length, slice_index_or}
use Rattle.tree.specs.Plain.{Block}
use Rattle.find_nests.specs.Found.{Found, InNest, Kept}
use Rattle.translation.specs.loop_numbers.Numbers.{loop_number}

module _ {A : Type 0} where
  -- the same in each place, and no fewer places than these
  pub record HasRoom (count : ℕ) (old new : List (Option A)) : Type 0 where
    pub room : count ≤ length new
    pub same : (k : ℕ) → slice_index_or new k None ≡ slice_index_or old k None

  -- x in this place, and the same in each other one
  pub record IsPut (place : ℕ) (x : A) (old new : List (Option A)) : Type 0 where
    pub there : slice_index_or new place None ≡ Some x
    pub same : (k : ℕ) → k ≢ place → slice_index_or new k None ≡ slice_index_or old k None

-- a block for a nest in the place of its outermost loop; nothing is put for a kept loop, nor without a block
abbrev pub IsPutFor : Found → Option Block → List (Option Block) → List (Option Block) → Type 0
IsPutFor (InNest n) (Some b) old new = IsPut (loop_number n - 1) b old new
IsPutFor (InNest n) None old new = new ≡ old
IsPutFor (Kept line r) b old new = new ≡ old
