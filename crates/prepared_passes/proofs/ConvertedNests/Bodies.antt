-- Bodies without loops.
use Rattle.std.proofs.Common.{◌≡◌, refl, sym, ap, subst, ◌∙◌, ◌⊎◌, inl, inr, ℕ, ◌+◌, ◌≤◌, Bool, true, false, not}
use Rattle.std.proofs.Common.{List, [], ◌∷◌, ◌++◌, append-nil, Option, None, Ok, arith}
use Rattle.meaning.specs.Store.{Store}
use Rattle.meaning.specs.Run.{State, Way, Going, Stopped, Act, does, does_all}
use Rattle.nest_order.specs.orders.Orders.{runs}
use Rattle.nest.specs.Blocks.{block_of_parts, statement_of_part}
use Rattle.nest.specs.Plain.{Part, Run, Turns, Choice, Label, Jump, Parts, no_parts, part, Branches, no_branches, branch}
use Rattle.if_convert.specs.declared.points.Jumped.{Jumped}
use Rattle.prepared_passes.specs.conversion.Branching.{HasArm}
use Rattle.prepared_passes.proofs.ConvertedNests.Moments.{Masks, holds, step, IsLoopless, AreLoopless, BranchesAreLoopless}
use Rattle.rewrite.specs.Following.{sequential}
use Rattle.if_convert.specs.Points.{Converted, entered, rejoined, cleared_for, unless_skipped, numbered_jumps}
use Rattle.if_convert.specs.declared.points.MaskPoint.{MaskPoint}
use Rattle.if_convert.specs.Converted.{converted, converted_parts, converted_branches, around_choice, choice_at, has_parts}
use Rattle.prepared_passes.proofs.ConvertedNests.Runs.{runs-append}
use Rattle.prepared_passes.proofs.ConvertedNests.Ways.{is_going, is_away, IsFine, IsOver, going_or_not, away, one, all, choice_idle, over_choosing, over_all, fine_from}
use Rattle.prepared_passes.proofs.ConvertedNests.Points.{Below, below_more, Framed, framed_none, framed_both, framed_then, holds_kept}
use Rattle.prepared_passes.proofs.ConvertedNests.Points.{IsOrdered, numbered_stands, follows_numbered}
use Rattle.prepared_passes.proofs.ConvertedNests.Points.{JumpsAre, Stands, Follows, AreClear, clears, going_or_jump, jumps_kept, first_jumps, second_jumps, without_jumps}
use Rattle.if_convert.specs.Jumps.{jumps_in_branches, jumps_in_parts}
use Rattle.prepared_passes.proofs.ConvertedNests.Rising.{rises, rises_parts, rejoined_jump, counts_branches}
use Rattle.prepared_passes.proofs.ConvertedNests.Following.{at_moment, run_follows, jump_follows, resumes, stays, going_not_false}
use Rattle.prepared_passes.proofs.ConvertedNests.Labels.{label_follows}
use Rattle.prepared_passes.proofs.ConvertedNests.Arms.{IsAt, ArmsFollow, Behind, ClearFrom, entered_stands, arm_from, branch_follows, away_no_jump}

module _ (bits line : ℕ) where
  -- ---- the jumps of an IF are cleared before the outermost one

  pub record Cleared (deep : Bool) (j j' n k : ℕ) (t : Store) (m : Masks) : Type 0 where
    pub masks : Masks
    pub runs_to : runs (step bits) (cleared_for deep j n) (at_moment t m) ≡ Ok (at_moment t masks)
    pub framed : Framed j k j' k m masks
    pub clear : ClearFrom j j' masks

  clears_for : (deep : Bool) (j j' n k : ℕ) (t : Store) (m : Masks) → j' ≡ j + n → AreClear deep j j' m → Cleared deep j j' n k t m
  clears_for true j j' n k t m h c = record {
    masks = m;
    runs_to = refl;
    framed = record { jumps_rise = omega (arith, h); guards_rise = omega arith; guards = λ i h. refl; below = λ i h. refl; above = λ i h. refl };
    clear = c refl;
  }
  clears_for false j j' n k t m h c =
      let a = clears bits j n k t m in
      let f = a.framed in
      record {
        masks = a.masks;
        runs_to = a.runs_to;
        framed = record { jumps_rise = omega (arith, h); guards_rise = omega arith; guards = f.guards; below = f.below; above = λ i g. f.above i (omega (arith, g, h)) };
        clear = λ i g l. a.clear i g (omega (arith, l, h));
      }

  goes_on : (w : Way) → w ≡ Going → is_going w ≡ not (is_away w)
  goes_on w e = rw e refl

  -- ---- behind an IF

  rejoins : (own : Option ℕ) (p : MaskPoint) (ls : List Jumped) (j k : ℕ) (u : State) (m : Masks) → p.skips ≡ false → holds own m ≡ not (is_away u.way) → IsFine u.way
      → JumpsAre (p.pending ++ ls) j u.way m → (ls ≡ [] → holds p.guard m ≡ is_going u.way) → Below own k → Below p.guard k
      → Follows bits own (rejoined own p ls j k) j k u.store u m
  rejoins own p [] j k u m e b f h g o q = record {
    masks = m;
    runs_to = refl;
    stands = record { block = b; guard = λ e. g refl; skips = λ e. cc; jumps = subst (λ ls. JumpsAre ls j u.way m) (append-nil p.pending) h; own_below = o; guard_below = q };
    framed = framed_none j k m;
  }
  rejoins own p (l ∷ ls) j k u m e b f h g o q = resumes bits line own (p.pending ++ (l ∷ ls)) j k u m b f h o

  assembles : (deep : Bool) (own : Option ℕ) (n : ℕ) (p : MaskPoint) (c : Converted) (t : Store) (u v : State) (w : Way) (m : Masks) (cl : Cleared deep p.jump c.point.jump n p.mask t m)
      (f : ArmsFollow bits c p.jump p.mask t v w cl.masks) → v.store ≡ u.store → p.skips ≡ false → holds own f.masks ≡ not (is_away u.way) → IsFine u.way
      → JumpsAre (p.pending ++ c.point.pending) c.point.jump u.way f.masks → (c.point.pending ≡ [] → holds p.guard f.masks ≡ is_going u.way) → Below own p.mask → Below p.guard p.mask
      → Follows bits own (around_choice deep own n p c) p.jump p.mask t u m
  assembles deep own n p c t u v w m cl f same e b fine h g o q =
      let rise = f.framed.guards_rise in
      let r = rejoins own p c.point.pending c.point.jump c.point.mask u f.masks e b fine h g (below_more own p.mask c.point.mask rise o) (below_more p.guard p.mask c.point.mask rise q) in
      let z = rejoined own p c.point.pending c.point.jump c.point.mask in
      record {
        masks = r.masks;
        runs_to = runs-append (step bits) (cleared_for deep p.jump n ++ c.made) z.made (at_moment t m) (at_moment u.store f.masks) (at_moment u.store r.masks)
            (runs-append (step bits) (cleared_for deep p.jump n) c.made (at_moment t m) (at_moment t cl.masks) (at_moment u.store f.masks) cl.runs_to
            (subst (λ x. runs (step bits) c.made (at_moment t cl.masks) ≡ Ok (at_moment x f.masks)) same f.runs_to))
            r.runs_to;
        stands = r.stands;
        framed = framed_both p.jump p.mask c.point.jump c.point.mask z.point.jump z.point.mask m f.masks r.masks (framed_then p.jump p.mask c.point.jump c.point.mask m cl.masks f.masks cl.framed f.framed) r.framed;
      }

  abbrev else_of : Parts → Option ℕ → ℕ → ℕ → Converted
  else_of other g j k = converted_parts line true g other (entered g j k)

  abbrev arms_from : Branches → Parts → Option ℕ → ℕ → ℕ → Converted
  arms_from bs other = converted_branches line bs (has_parts other) (λ g j m. converted_parts line true g other (entered g j m))

  abbrev arms_of : Branches → Parts → MaskPoint → Converted
  arms_of bs other p = converted_branches line bs (has_parts other) (λ g j m. converted_parts line true g other (entered g j m)) p.guard p.jump p.mask

  abbrev jumps_of : Branches → Parts → ℕ
  jumps_of bs other = jumps_in_branches bs + jumps_in_parts false other

  idle_choice : (bs : Branches) (other : Parts) (s : State) → HasArm bs → (s.way ≡ Going → ⊥) → one bits line (Choice bs other) s ≡ s
  idle_choice no_branches other s h z = absurd h
  idle_choice (branch test ps bs) other s h z = choice_idle bits line test ps bs (all bits line other) s z

  entered_choice : (deep : Bool) (own : Option ℕ) (bs : Branches) (other : Parts) (p : MaskPoint) (s : State) (m : Masks) → HasArm bs → AreLoopless other → p.skips ≡ false → Stands own p s.way m
      → p.jump ≤ (arms_of bs other p).point.jump → AreClear deep p.jump (around_choice deep own (jumps_of bs other) p (arms_of bs other p)).point.jump m → IsFine (one bits line (Choice bs other) s).way
      → Behind bits line bs (has_parts other) (λ g j m. converted_parts line true g other (entered g j m)) (all bits line other)
      → Follows bits own (around_choice deep own (jumps_of bs other) p (arms_of bs other p)) p.jump p.mask s.store (one bits line (Choice bs other) s) m
  entered_choice deep own bs other p s m has lo e st rise clear fine arms = by (going_or_not s.way)
    where
      cl : Cleared deep p.jump (arms_of bs other p).point.jump (jumps_of bs other) p.mask s.store m
      cl = clears_for deep p.jump (arms_of bs other p).point.jump (jumps_of bs other) p.mask s.store m (counts_branches line bs other p.guard p.jump p.mask) (subst (λ n. AreClear deep p.jump n m) (rejoined_jump own p (arms_of bs other p).point.pending (arms_of bs other p).point.jump (arms_of bs other p).point.mask) clear)

      guard_is : holds p.guard cl.masks ≡ is_going s.way
      guard_is = holds_kept p.guard p.jump p.mask (arms_of bs other p).point.jump p.mask m cl.masks st.guard_below cl.framed ∙ st.guard e

      by : (s.way ≡ Going) ⊎ ((s.way ≡ Going → ⊥) × (is_going s.way ≡ false)) → Follows bits own (around_choice deep own (jumps_of bs other) p (arms_of bs other p)) p.jump p.mask s.store (one bits line (Choice bs other) s) m
      by (inl w) =
          let v = one bits line (Choice bs other) s in
          let f = arms p.guard p.jump p.mask s cl.masks (subst IsAt (sym w) tt) guard_is st.guard_below cl.clear fine in
          let fr = framed_then p.jump p.mask (arms_of bs other p).point.jump (arms_of bs other p).point.mask m cl.masks f.masks cl.framed f.framed in
          let own_is = holds_kept own p.jump p.mask (arms_of bs other p).point.jump (arms_of bs other p).point.mask m f.masks st.own_below fr in
          let live = ap not (sym f.live) in
          assembles deep own (jumps_of bs other) p (arms_of bs other p) s.store v v s.way m cl f refl e (own_is ∙ (st.block ∙ live)) fine
          (second_jumps p.pending (arms_of bs other p).point.pending (arms_of bs other p).point.jump s.way v.way f.masks (jumps_kept p.pending p.jump (arms_of bs other p).point.jump s.way m f.masks st.jumps rise fr.below) f.jumps (λ q. going_or_jump s.way q w))
          (λ none. holds_kept p.guard p.jump p.mask (arms_of bs other p).point.jump (arms_of bs other p).point.mask m f.masks st.guard_below fr ∙ (st.guard e ∙ (goes_on s.way w ∙ (live ∙ without_jumps (arms_of bs other p).point.jump v.way f.masks fine (subst (λ ls. JumpsAre ls (arms_of bs other p).point.jump v.way f.masks) none f.jumps)))))
          st.own_below st.guard_below
      by (inr o) =
          let v = away s in
          let stay = over_choosing bits line bs (all bits line other) v (over_all bits line other v lo tt) tt in
          let f = subst (λ (z : State). ArmsFollow bits (arms_of bs other p) p.jump p.mask s.store z Stopped cl.masks) stay
          (arms p.guard p.jump p.mask v cl.masks tt (guard_is ∙ o.1) st.guard_below cl.clear (subst (λ (z : State). IsFine z.way) (sym stay) tt)) in
          let fr = framed_then p.jump p.mask (arms_of bs other p).point.jump (arms_of bs other p).point.mask m cl.masks f.masks cl.framed f.framed in
          let is = idle_choice bs other s has o.0 in
          subst (λ (z : State). Follows bits own (around_choice deep own (jumps_of bs other) p (arms_of bs other p)) p.jump p.mask s.store z m) (sym is)
          (assembles deep own (jumps_of bs other) p (arms_of bs other p) s.store s v Stopped m cl f refl e (holds_kept own p.jump p.mask (arms_of bs other p).point.jump (arms_of bs other p).point.mask m f.masks st.own_below fr ∙ st.block) (subst (λ (z : State). IsFine z.way) is fine)
          (first_jumps p.pending (arms_of bs other p).point.pending (arms_of bs other p).point.jump s.way Stopped f.masks (jumps_kept p.pending p.jump (arms_of bs other p).point.jump s.way m f.masks st.jumps rise fr.below) f.jumps (λ q. away_no_jump Stopped q refl))
          (λ none. holds_kept p.guard p.jump p.mask (arms_of bs other p).point.jump (arms_of bs other p).point.mask m f.masks st.guard_below fr ∙ st.guard e)
          st.own_below st.guard_below)

  clear_arms : (deep : Bool) (own : Option ℕ) (bs : Branches) (other : Parts) (p : MaskPoint) (m : Masks) → AreClear deep p.jump (choice_at deep own (jumps_of bs other) p (arms_from bs other)).point.jump m
      → AreClear deep (numbered_jumps deep (jumps_of bs other) p).jump (around_choice deep own (jumps_of bs other) (numbered_jumps deep (jumps_of bs other) p) (arms_of bs other (numbered_jumps deep (jumps_of bs other) p))).point.jump m
  clear_arms true own bs other p m c = c
  clear_arms false own bs other p m c = λ e. cc

  numbered_skips : (deep : Bool) (n : ℕ) (p : MaskPoint) → (numbered_jumps deep n p).skips ≡ p.skips
  numbered_skips true n p = refl
  numbered_skips false n p = refl

  choice_follows : (deep : Bool) (own : Option ℕ) (bs : Branches) (other : Parts) (p : MaskPoint) (s : State) (m : Masks) → HasArm bs → AreLoopless other → IsOrdered deep p → Stands own p s.way m
      → AreClear deep p.jump (converted line deep own (Choice bs other) p).point.jump m → IsFine (one bits line (Choice bs other) s).way
      → Behind bits line bs (has_parts other) (λ g j m. converted_parts line true g other (entered g j m)) (all bits line other)
      → Follows bits own (converted line deep own (Choice bs other) p) p.jump p.mask s.store (one bits line (Choice bs other) s) m
  choice_follows deep own bs other p s m has lo o st clear fine arms = by p.skips refl clear
    where
      n : ℕ
      n = jumps_of bs other

      q : MaskPoint
      q = numbered_jumps deep (jumps_of bs other) p

      by : (b : Bool) → p.skips ≡ b → AreClear deep p.jump (unless_skipped b p (choice_at deep own (jumps_of bs other) p (arms_from bs other))).point.jump m
          → Follows bits own (unless_skipped b p (choice_at deep own (jumps_of bs other) p (arms_from bs other))) p.jump p.mask s.store (one bits line (Choice bs other) s) m
      by true e c = stays bits line own p s (one bits line (Choice bs other) s) m (idle_choice bs other s has (λ w. going_not_false s.way w (st.skips e))) st
      by false e c =
          let rise : q.jump ≤ (arms_of bs other q).point.jump = (let k = counts_branches line bs other q.guard q.jump q.mask in omega (arith, k)) in
          follows_numbered bits deep n own p (choice_at deep own n p (arms_from bs other)) s.store (one bits line (Choice bs other) s) m o
          (entered_choice deep own bs other q s m has lo (numbered_skips deep n p ∙ e) (numbered_stands deep n own p s.way m o st) rise (clear_arms deep own bs other p m c) fine arms)

  no_else : (other : Parts) (s : State) → has_parts other ≡ false → all bits line other s ≡ s
  no_else no_parts s e = refl
  no_else (part q ps) s e = let z : ⊥ = cc in absurd z

  mutual
    pub one_follows : (deep : Bool) (own : Option ℕ) (q : Part) (p : MaskPoint) (s : State) (m : Masks) → IsLoopless q → IsOrdered deep p → Stands own p s.way m → AreClear deep p.jump (converted line deep own q p).point.jump m
        → IsFine (does (sequential bits) None (statement_of_part line q) s).way → Follows bits own (converted line deep own q p) p.jump p.mask s.store (does (sequential bits) None (statement_of_part line q) s) m
    one_follows deep own (Run g) p s m h o st c f = run_follows bits line deep own g p s m h st f
    one_follows deep own (Turns l ps) p s m h o st c f = absurd h
    one_follows deep own (Choice bs other) p s m h o st c f =
        choice_follows deep own bs other p s m h.0 h.2 o st c f
        (arms_follow bs (has_parts other) (λ g j m. converted_parts line true g other (entered g j m)) (all bits line other) h.1 (λ s e. no_else other s e) (λ s w. over_all bits line other s h.2 (subst (IsOver bits line) (sym w) tt))
        (λ g j m. rises_parts line g other (entered g j m))
        (λ g j k z m at e b c f. arm_from bits line g other j k z m at e b (all_follows g other (entered g j k) z m h.2 (entered_stands g j k z.way m at e b) c f)))
    one_follows deep own (Label k) p s m h o st c f = label_follows bits line deep own k p s m st f
    one_follows deep own (Jump k) p s m h o st c f = jump_follows bits line deep own k p s m o st c

    pub all_follows : (own : Option ℕ) (ps : Parts) (p : MaskPoint) (s : State) (m : Masks) → AreLoopless ps → Stands own p s.way m → ClearFrom p.jump (converted_parts line true own ps p).point.jump m
        → IsFine (does_all (sequential bits) None (block_of_parts line ps) s).way → Follows bits own (converted_parts line true own ps p) p.jump p.mask s.store (does_all (sequential bits) None (block_of_parts line ps) s) m
    all_follows own no_parts p s m h st c f = stays bits line own p s s m refl st
    all_follows own (part q ps) p s m h st c f =
        let p2 = (converted line true own q p).point in
        let up = rises line own q p in
        let up2 = rises_parts line own ps p2 in
        let a = one_follows true own q p s m h.0 tt st (λ e i g l. c i g (omega (arith, l, up2))) (fine_from bits line ps (one bits line q s) h.1 f) in
        let b = all_follows own ps p2 (one bits line q s) a.masks h.1 a.stands (λ i g l. a.framed.above i g ∙ c i (omega (arith, g, up)) l) f in
        let z = converted_parts line true own ps p2 in
        record {
          masks = b.masks;
          runs_to = runs-append (step bits) (converted line true own q p).made z.made (at_moment s.store m) (at_moment (one bits line q s).store a.masks) (at_moment (all bits line ps (one bits line q s)).store b.masks) a.runs_to b.runs_to;
          stands = b.stands;
          framed = framed_both p.jump p.mask p2.jump p2.mask z.point.jump z.point.mask m a.masks b.masks a.framed b.framed;
        }

    pub arms_follow : (bs : Branches) (rest : Bool) (other : Option ℕ → ℕ → ℕ → Converted) (act : Act) → BranchesAreLoopless bs → ((s : State) → rest ≡ false → act s ≡ s) → ((s : State) → s.way ≡ Stopped → act s ≡ s)
        → ((g : Option ℕ) (j k : ℕ) → j ≤ (other g j k).point.jump) → Behind bits line no_branches rest other act → Behind bits line bs rest other act
    arms_follow no_branches rest other act h none over rising base = base
    arms_follow (branch test ps bs) rest other act h none over rising base =
        λ g j k s m at e b c f.
        branch_follows bits line test ps bs rest other act none over rising h.0
        (λ g j k z m at e b c f. arm_from bits line g ps j k z m at e b (all_follows g ps (entered g j k) z m h.0 (entered_stands g j k z.way m at e b) c f))
        (arms_follow bs rest other act h.1 none over rising base) g j k m b c s at e f
