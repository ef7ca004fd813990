-- A part of a loop's body, and the statements under masks that are made for it, from stores that are the same but for
-- masks.
use Rattle.std.proofs.Common.{◌≡◌, refl, sym, ap, subst, ◌∙◌, ◌⊎◌, inl, inr, ℕ, ◌+◌, ◌<◌, ◌≤◌, ◌^◌, Bool, true, false, List, Option, Some, None, arith}
use Rattle.tree.specs.declared.ops.Value.{Value}
use Rattle.tree.specs.declared.ops.Value.TheVariants.{Int, Truth}
use Rattle.meaning.specs.Run.{State, Way, Going, does, does_all}
use Rattle.meaning.specs.Store.{Store}
use Rattle.rewrite.specs.Following.{sequential}
use Rattle.nest.specs.Blocks.{block_of_parts, statement_of_part}
use Rattle.nest.specs.Plain.{Part, parts}
use Rattle.nest_order.specs.orders.Lists.{In}
use Rattle.if_convert.specs.Converted.{converted}
use Rattle.if_convert.specs.Jumps.{jumps_in}
use Rattle.if_convert.specs.Masks.{all_parts_of}
use Rattle.if_convert.specs.declared.points.Jumped.{Jumped}
use Rattle.if_convert.specs.declared.points.MaskPoint.{MaskPoint}
use Rattle.prepared_passes.proofs.ConvertedNests.Bodies.{one_follows}
use Rattle.prepared_passes.proofs.ConvertedNests.Masked.{AreBeside, HasMasks, IsFree, IsJump, IsThere, IsUsed, flag}
use Rattle.prepared_passes.proofs.ConvertedNests.Moments.{IsLoopless, Masks, holds}
use Rattle.prepared_passes.proofs.ConvertedNests.Points.{JumpsAre, Stands}
use Rattle.prepared_passes.proofs.ConvertedNests.Representing.{all_lead}
use Rattle.prepared_passes.proofs.ConvertedNests.Rising.{masks_rise}
use Rattle.prepared_passes.proofs.ConvertedNests.Tops.{IsTop, next_top, top_suits}
use Rattle.prepared_passes.proofs.ConvertedNests.Ways.{IsFine}

abbrev truth_at : Value → Bool
truth_at (Truth b) = b
truth_at (Int z) = false

-- what the masks hold in a store
abbrev pub masks_of : Store → Masks
masks_of t = record { guards = λ i. truth_at (t.held (flag i)); jumps = λ i. truth_at (t.held (flag i)) }

truth_is : (v : Value) (b : Bool) → v ≡ Truth b → v ≡ Truth (truth_at v)
truth_is v b e = subst (λ (w : Value). w ≡ Truth (truth_at w)) (sym e) refl

-- at a point of a loop's body, with nothing known of what masks held before
pub record IsAt (k0 k1 : ℕ) (p : MaskPoint) (s : State) (t : Store) : Type 0 where
  pub beside : AreBeside k0 k1 s.store t
  pub stands : Stands None p s.way (masks_of t)
  pub top : IsTop k0 p

module _ (bits line k0 k1 : ℕ) (few : k1 ≤ 2 ^ 32) where
  has_masks : (low mid : ℕ) (s t : Store) → AreBeside k0 k1 s t → HasMasks k0 k1 low mid s t (masks_of t)
  has_masks low mid s t h = record {
    bounds = h.bounds;
    held = h.held;
    scalars = h.scalars;
    guards = λ i u. truth_is (t.held (flag i)) (h.flags i u.0).0 (h.flags i u.0).1;
    jumps = λ j u. truth_is (t.held (flag j)) (h.flags j u.0).0 (h.flags j u.0).1;
  }

  beside_again : (low mid : ℕ) (s t : Store) (m : Masks) → HasMasks k0 k1 low mid s t m → AreBeside k0 k1 s t
  beside_again low mid s t m h = record {
    bounds = h.bounds;
    held = h.held;
    scalars = h.scalars;
    flags = λ i u. by i u (below_or i mid);
  }
    where
      below_or : (i n : ℕ) → (i < n) ⊎ (n ≤ i)
      below_or i n = grind arith

      by : (i : ℕ) → IsThere k0 k1 low mid i → (i < mid) ⊎ (mid ≤ i) → (b : Bool) × (t.held (flag i) ≡ Truth b)
      by i u (inl l) = (m.jumps i, h.jumps i (u, l))
      by i u (inr g) = (m.guards i, h.guards i (u, inr g))

  same_truth : (v : Value) (b : Bool) → v ≡ Truth b → truth_at v ≡ b
  same_truth v b e = ap truth_at e

  -- the masks that matter hold what they held
  same_guard : (low mid : ℕ) (g : Option ℕ) (s t : Store) (m : Masks) → IsUsed k0 k1 low mid g → HasMasks k0 k1 low mid s t m → holds g (masks_of t) ≡ holds g m
  same_guard low mid None s t m u h = refl
  same_guard low mid (Some i) s t m u h = same_truth (t.held (flag i)) (m.guards i) (h.guards i u)

  same_jumps : (low mid : ℕ) (ls : List Jumped) (j : ℕ) (w : Way) (s t : Store) (m : Masks) → ((l : Jumped) → In l ls → IsJump k0 k1 low mid l.mask) → HasMasks k0 k1 low mid s t m → JumpsAre ls j w m → JumpsAre ls j w (masks_of t)
  same_jumps low mid ls j w s t m u h a = record {
    only = λ l i on. a.only l i (sym (same_truth (t.held (flag l.mask)) (m.jumps l.mask) (h.jumps l.mask (u l i))) ∙ on);
    some = λ q e. some q (a.some q e);
    below = a.below;
  }
    where
      some : (q : ℕ) → ((l : Jumped) × In l ls × (l.label ≡ q) × (m.jumps l.mask ≡ true)) → (l : Jumped) × In l ls × (l.label ≡ q) × ((masks_of t).jumps l.mask ≡ true)
      some q (l, i, e, on) = (l, i, e, same_truth (t.held (flag l.mask)) (m.jumps l.mask) (h.jumps l.mask (u l i)) ∙ on)

  stands_again : (low mid : ℕ) (p : MaskPoint) (w : Way) (s t : Store) (m : Masks) → IsUsed k0 k1 low mid p.guard → ((l : Jumped) → In l p.pending → IsJump k0 k1 low mid l.mask) → HasMasks k0 k1 low mid s t m → Stands None p w m → Stands None p w (masks_of t)
  stands_again low mid p w s t m g j h st = record {
    block = st.block;
    guard = λ e. same_guard low mid p.guard s t m g h ∙ st.guard e;
    skips = st.skips;
    jumps = same_jumps low mid p.pending p.jump w s t m j h st.jumps;
    own_below = tt;
    guard_below = st.guard_below;
  }

  -- both have gone on
  pub record Gone (p : MaskPoint) (s : State) (t : State) : Type 0 where
    pub going : t.way ≡ Going
    pub at : IsAt k0 k1 p s t.store

  pub part_gone : (q : Part) (p : MaskPoint) (s t : State) → IsLoopless q → IsFree q → IsAt k0 k1 p s t.store → t.way ≡ Going → IsFine (does (sequential bits) None (statement_of_part line q) s).way → (converted line false None q p).point.mask ≤ k1
      → Gone (converted line false None q p).point (does (sequential bits) None (statement_of_part line q) s) (does_all (sequential bits) None (block_of_parts line (parts (all_parts_of line (converted line false None q p).made))) t)
  part_gone q p s t h f at going fine top =
      let c = converted line false None q p in
      let n = jumps_in p.skips q in
      let low = p.mask in
      let mid = p.mask + n in
      let rise = masks_rise line false None q p in
      let suits = top_suits line k0 k1 q p h f at.top (omega (arith, rise, top)) top in
      let a = one_follows bits line false None q p s (masks_of t.store) h at.top.ordered at.stands (λ e. cc) fine in
      let u = does (sequential bits) None (statement_of_part line q) s in
      let l = all_lead bits line k0 k1 low mid few (omega arith) c.made (record { store = s.store; masks = masks_of t.store }) (record { store = u.store; masks = a.masks }) t suits.made a.runs_to going (has_masks low mid s.store t.store at.beside) in
      let v = does_all (sequential bits) None (block_of_parts line (parts (all_parts_of line c.made))) t in
      record {
        going = l.way;
        at = record {
          beside = beside_again low mid u.store v.store a.masks l.has;
          stands = stands_again low mid c.point u.way u.store v.store a.masks suits.guard suits.pending l.has a.stands;
          top = next_top line k0 k1 p n c at.top suits;
        };
      }
