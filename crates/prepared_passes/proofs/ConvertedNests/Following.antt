-- Statements under masks do what the statements do from which they were made.
use Rattle.std.proofs.Common.{◌≡◌, refl, sym, ap, subst, ◌∙◌, ◌⊎◌, inl, inr, ℕ, suc, Bool, true, false, not, ◌&&◌}
use Rattle.std.proofs.Common.{List, [], ◌∷◌, Option, None, Ok, arith}
use Rattle.meaning.specs.Store.{Store}
use Rattle.meaning.specs.Run.{State, Way, Going, Jumping}
use Rattle.nest.specs.Plain.{Run, Jump, Guarded}
use Rattle.if_convert.specs.declared.points.Jumped.{Jumped}
use Rattle.if_convert.specs.Masks.{Unleft, Kept, Asks, Leaves}
use Rattle.prepared_passes.proofs.ConvertedNests.Moments.{Masks, Moment, holds, none_has_left, assigned, step, kept_if, asked_if, left_if, with_guard, with_jump}
use Rattle.if_convert.specs.Points.{resumed, unless_skipped, unchanged, behind_jump, jump_made, numbered_jumps}
use Rattle.if_convert.specs.declared.points.MaskPoint.{MaskPoint}
use Rattle.if_convert.specs.Converted.{converted}
use Rattle.prepared_passes.proofs.ConvertedNests.Runs.{runs-one}
use Rattle.prepared_passes.proofs.ConvertedNests.Ways.{is_going, is_away, IsFine, is_going_true, going_or_not, one}
use Rattle.prepared_passes.proofs.ConvertedNests.Ways.{run_idle, jump_idle, jumped, run_assigns}
use Rattle.prepared_passes.proofs.ConvertedNests.Points.{Below, below_more, guard_new, jump_new, jump_kept, Framed, framed_none, framed_guard, framed_jump, framed_step, framed_same, holds_kept}
use Rattle.prepared_passes.proofs.ConvertedNests.Points.{JumpsAre, Stands, Follows, AreClear, true_not_false, jump_added, jump_unadded, jumps_kept}
use Rattle.prepared_passes.proofs.ConvertedNests.Points.{none_is_going, without_jumps, IsOrdered, numbered_stands, follows_numbered}

abbrev pub at_moment : Store → Masks → Moment
at_moment t m = record { store = t; masks = m }

pub going_not_false : (w : Way) → w ≡ Going → is_going w ≡ false → ⊥
going_not_false w e f = true_not_false (is_going w) (is_going_true w e) f

module _ (bits line : ℕ) where
  -- ---- nothing is made, and nothing is done

  pub stays : (own : Option ℕ) (p : MaskPoint) (s u : State) (m : Masks) → u ≡ s → Stands own p s.way m → Follows bits own (unchanged p) p.jump p.mask s.store u m
  stays own p s u m e h =
      subst (λ (z : State). Follows bits own (unchanged p) p.jump p.mask s.store z m) (sym e)
      (record { masks = m; runs_to = refl; stands = h; framed = framed_none p.jump p.mask m })

  -- ---- statements

  kept_true : (g : Guarded) (b : Bool) (t u : Store) (m : Masks) → b ≡ true → assigned bits g t ≡ Ok u → kept_if bits b g (at_moment t m) ≡ Ok (at_moment u m)
  kept_true g b t u m f e = rw (f, e) refl

  kept_false : (g : Guarded) (b : Bool) (t : Store) (m : Masks) → b ≡ false → kept_if bits b g (at_moment t m) ≡ Ok (at_moment t m)
  kept_false g b t m f = rw f refl

  kept_follows : (own : Option ℕ) (g : Guarded) (p : MaskPoint) (s : State) (m : Masks) → g.guard ≡ None → p.skips ≡ false → Stands own p s.way m → IsFine (one bits line (Run g) s).way
      → Follows bits own (record { made = Kept p.guard g ∷ []; point = p }) p.jump p.mask s.store (one bits line (Run g) s) m
  kept_follows own g p s m n e st f = by (going_or_not s.way)
    where
      by : (s.way ≡ Going) ⊎ ((s.way ≡ Going → ⊥) × (is_going s.way ≡ false)) → Follows bits own (record { made = Kept p.guard g ∷ []; point = p }) p.jump p.mask s.store (one bits line (Run g) s) m
      by (inl w) =
          let a = run_assigns bits line g s n w f in
          record {
            masks = m;
            runs_to = runs-one (step bits) (Kept p.guard g) (at_moment s.store m) (at_moment (one bits line (Run g) s).store m) (kept_true g (holds p.guard m) s.store (one bits line (Run g) s).store m (st.guard e ∙ is_going_true s.way w) a.left);
            stands = subst (λ (z : Way). Stands own p z m) (w ∙ sym a.way) st;
            framed = framed_none p.jump p.mask m;
          }
      by (inr o) =
          subst (λ (z : State). Follows bits own (record { made = Kept p.guard g ∷ []; point = p }) p.jump p.mask s.store z m) (sym (run_idle bits line g s n o.0))
          (record {
            masks = m;
            runs_to = runs-one (step bits) (Kept p.guard g) (at_moment s.store m) (at_moment s.store m) (kept_false g (holds p.guard m) s.store m (st.guard e ∙ o.1));
            stands = st;
            framed = framed_none p.jump p.mask m;
          })

  pub run_follows : (deep : Bool) (own : Option ℕ) (g : Guarded) (p : MaskPoint) (s : State) (m : Masks) → g.guard ≡ None → Stands own p s.way m → IsFine (one bits line (Run g) s).way
      → Follows bits own (converted line deep own (Run g) p) p.jump p.mask s.store (one bits line (Run g) s) m
  run_follows deep own g p s m n st f = by p.skips refl
    where
      by : (b : Bool) → p.skips ≡ b → Follows bits own (unless_skipped b p (record { made = Kept p.guard g ∷ []; point = p })) p.jump p.mask s.store (one bits line (Run g) s) m
      by true e = stays own p s (one bits line (Run g) s) m (run_idle bits line g s n (λ w. going_not_false s.way w (st.skips e))) st
      by false e = kept_follows own g p s m n e st f

  -- ---- jumps

  left_true : (j : ℕ) (b : Bool) (t : Store) (m : Masks) → b ≡ true → left_if bits b j (at_moment t m) ≡ Ok (at_moment t (with_jump j true m))
  left_true j b t m f = rw f refl

  left_false : (j : ℕ) (b : Bool) (t : Store) (m : Masks) → b ≡ false → left_if bits b j (at_moment t m) ≡ Ok (at_moment t m)
  left_false j b t m f = rw f refl

  -- from the masks n, among which that of the jump is false
  leaves_follow : (own : Option ℕ) (k : ℕ) (p : MaskPoint) (s : State) (m n : Masks) → p.skips ≡ false → Stands own p s.way m → Framed p.jump p.mask (suc p.jump) p.mask m n → n.jumps p.jump ≡ false
      → Follows bits own (record { made = Leaves p.guard p.jump ∷ []; point = behind_jump k p }) p.jump p.mask s.store (one bits line (Jump k) s) n
  leaves_follow own k p s m n e st fr z = by (going_or_not s.way)
    where
      guard_is : holds p.guard n ≡ is_going s.way
      guard_is = holds_kept p.guard p.jump p.mask (suc p.jump) p.mask m n st.guard_below fr ∙ st.guard e

      by : (s.way ≡ Going) ⊎ ((s.way ≡ Going → ⊥) × (is_going s.way ≡ false)) → Follows bits own (record { made = Leaves p.guard p.jump ∷ []; point = behind_jump k p }) p.jump p.mask s.store (one bits line (Jump k) s) n
      by (inl w) =
          let o = with_jump p.jump true n in
          subst (λ (z : State). Follows bits own (record { made = Leaves p.guard p.jump ∷ []; point = behind_jump k p }) p.jump p.mask s.store z n) (sym (jumped bits line k s w))
          (record {
            masks = o;
            runs_to = runs-one (step bits) (Leaves p.guard p.jump) (at_moment s.store n) (at_moment s.store o) (left_true p.jump (holds p.guard n) s.store n (guard_is ∙ is_going_true s.way w));
            stands = record {
              block = holds_kept own p.jump p.mask (suc p.jump) p.mask m o st.own_below (framed_same p.jump p.mask (suc p.jump) p.mask m n o fr (framed_jump p.jump p.mask true n)) ∙ (st.block ∙ ap (λ w. not (is_away w)) w);
              guard = λ e. cc;
              skips = λ e. refl;
              jumps = jump_added p.pending p.jump k s.way (Jumping k) m o st.jumps (λ i h. jump_kept p.jump i true n (λ e. omega (arith, h, e)) ∙ fr.below i h) w refl (jump_new p.jump true n);
              own_below = st.own_below;
              guard_below = st.guard_below;
            };
            framed = framed_jump p.jump p.mask true n;
          })
      by (inr o) =
          subst (λ (z : State). Follows bits own (record { made = Leaves p.guard p.jump ∷ []; point = behind_jump k p }) p.jump p.mask s.store z n) (sym (jump_idle bits line k s o.0))
          (record {
            masks = n;
            runs_to = runs-one (step bits) (Leaves p.guard p.jump) (at_moment s.store n) (at_moment s.store n) (left_false p.jump (holds p.guard n) s.store n (guard_is ∙ o.1));
            stands = record {
              block = holds_kept own p.jump p.mask (suc p.jump) p.mask m n st.own_below fr ∙ st.block;
              guard = λ e. cc;
              skips = λ e. o.1;
              jumps = jump_unadded p.pending p.jump k s.way m n st.jumps fr.below z;
              own_below = st.own_below;
              guard_below = st.guard_below;
            };
            framed = framed_step p.jump p.mask n;
          })

  left_follows : (deep : Bool) (own : Option ℕ) (k : ℕ) (p : MaskPoint) (s : State) (m : Masks) → p.skips ≡ false → Stands own p s.way m → AreClear deep p.jump (suc p.jump) m
      → Follows bits own (jump_made deep k p) p.jump p.mask s.store (one bits line (Jump k) s) m
  left_follows true own k p s m e st c = leaves_follow own k p s m m e st (framed_step p.jump p.mask m) (c refl p.jump (omega arith) (omega arith))
  left_follows false own k p s m e st c =
      let n = with_jump p.jump false m in
      let fr = framed_jump p.jump p.mask false m in
      let f = leaves_follow own k p s m n e st fr (jump_new p.jump false m) in
      record { masks = f.masks; runs_to = f.runs_to; stands = f.stands; framed = framed_same p.jump p.mask (suc p.jump) p.mask m n f.masks fr f.framed }

  clear_step : (deep : Bool) (p : MaskPoint) (m : Masks) → AreClear deep p.jump (suc (numbered_jumps deep 1 p).jump) m → AreClear deep (numbered_jumps deep 1 p).jump (suc (numbered_jumps deep 1 p).jump) m
  clear_step true p m c = c
  clear_step false p m c = λ e. cc

  numbered_skips : (deep : Bool) (n : ℕ) (p : MaskPoint) → (numbered_jumps deep n p).skips ≡ p.skips
  numbered_skips true n p = refl
  numbered_skips false n p = refl

  pub jump_follows : (deep : Bool) (own : Option ℕ) (k : ℕ) (p : MaskPoint) (s : State) (m : Masks) → IsOrdered deep p → Stands own p s.way m → AreClear deep p.jump (converted line deep own (Jump k) p).point.jump m
      → Follows bits own (converted line deep own (Jump k) p) p.jump p.mask s.store (one bits line (Jump k) s) m
  jump_follows deep own k p s m o st c = by p.skips refl c
    where
      by : (b : Bool) → p.skips ≡ b → AreClear deep p.jump (unless_skipped b p (jump_made deep k (numbered_jumps deep 1 p))).point.jump m
          → Follows bits own (unless_skipped b p (jump_made deep k (numbered_jumps deep 1 p))) p.jump p.mask s.store (one bits line (Jump k) s) m
      by true e c = stays own p s (one bits line (Jump k) s) m (jump_idle bits line k s (λ w. going_not_false s.way w (st.skips e))) st
      by false e c =
          follows_numbered bits deep 1 own p (jump_made deep k (numbered_jumps deep 1 p)) s.store (one bits line (Jump k) s) m o
          (left_follows deep own k (numbered_jumps deep 1 p) s m (numbered_skips deep 1 p ∙ e) (numbered_stands deep 1 own p s.way m o st) (clear_step deep p m c))

  -- ---- where the block goes on

  asked : (c : Bool) (k : ℕ) (ls : List Jumped) (t : Store) (m : Masks) → asked_if bits c k (Unleft ls) (at_moment t m) ≡ Ok (at_moment t (with_guard k (c && none_has_left ls m) m))
  asked true k ls t m = refl
  asked false k ls t m = refl

  pub resumes : (own : Option ℕ) (ls : List Jumped) (j k : ℕ) (s : State) (m : Masks) → holds own m ≡ not (is_away s.way) → IsFine s.way → JumpsAre ls j s.way m → Below own k
      → Follows bits own (resumed own ls j k) j k s.store s m
  resumes own [] j k s m b f h o = record {
    masks = m;
    runs_to = refl;
    stands = record { block = b; guard = λ e. b ∙ without_jumps j s.way m f h; skips = λ e. cc; jumps = h; own_below = o; guard_below = o };
    framed = framed_none j k m;
  }
  resumes own (l ∷ ls) j k s m b f h o =
      let n = with_guard k (holds own m && none_has_left (l ∷ ls) m) m in
      let fr = framed_guard j k (holds own m && none_has_left (l ∷ ls) m) m in
      record {
        masks = n;
        runs_to = runs-one (step bits) (Asks own k (Unleft (l ∷ ls))) (at_moment s.store m) (at_moment s.store n) (asked (holds own m) k (l ∷ ls) s.store m);
        stands = record {
          block = holds_kept own j k j (suc k) m n o fr ∙ b;
          guard = λ e. guard_new k (holds own m && none_has_left (l ∷ ls) m) m ∙ (ap (λ c. c && none_has_left (l ∷ ls) m) b ∙ none_is_going (l ∷ ls) j s.way m f h);
          skips = λ e. cc;
          jumps = jumps_kept (l ∷ ls) j j s.way m n h (omega arith) (λ i g. refl);
          own_below = below_more own k (suc k) (omega arith) o;
          guard_below = omega arith;
        };
        framed = fr;
      }
