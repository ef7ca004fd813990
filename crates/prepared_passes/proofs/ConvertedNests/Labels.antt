-- Labels.
use Rattle.std.proofs.Common.{◌≡◌, refl, sym, ap, subst, ◌∙◌, ℕ, ◌==◌, Bool, true, false, not, filter, List, Option, eq-eqb, eqb-true}
use Rattle.meaning.specs.Run.{State, Way, Going, Jumping, Stopped, Failed, Cut, arrives}
use Rattle.nest_order.specs.orders.Lists.{In}
use Rattle.nest.specs.Plain.{Label}
use Rattle.if_convert.specs.declared.points.Jumped.{Jumped}
use Rattle.prepared_passes.proofs.ConvertedNests.Moments.{Masks}
use Rattle.if_convert.specs.declared.points.MaskPoint.{MaskPoint}
use Rattle.if_convert.specs.Points.{is_left}
use Rattle.if_convert.specs.Converted.{converted}
use Rattle.prepared_passes.proofs.ConvertedNests.Ways.{is_away, IsFine, one, label_stays, label_met, jumps_same}
use Rattle.prepared_passes.proofs.ConvertedNests.Points.{JumpsAre, Stands, Follows, going_or_jump, true_not_false, in_filter, filter_in}
use Rattle.prepared_passes.proofs.ConvertedNests.Following.{resumes}

arrives_way : (k : ℕ) (w : Way) → arrives k w ≡ true → w ≡ Jumping k
arrives_way k Going e = let z : ⊥ = cc in absurd z
arrives_way k (Jumping j) e = ap Jumping (eqb-true j k e)
arrives_way k Stopped e = let z : ⊥ = cc in absurd z
arrives_way k (Failed f l) e = let z : ⊥ = cc in absurd z
arrives_way k Cut e = let z : ⊥ = cc in absurd z

met_jumps : (k : ℕ) (ls : List Jumped) (j : ℕ) (w : Way) (m : Masks) → w ≡ Jumping k → JumpsAre ls j w m → JumpsAre (filter (is_left k) ls) j Going m
met_jumps k ls j w m e h = record {
  only = λ l i on. (let (i2, f) = in_filter (is_left k) ls l i in absurd (true_not_false (is_left k l) f (ap not (eq-eqb l.label k (jumps_same l.label k (sym (h.only l i2 on) ∙ e))))));
  some = λ q g. absurd (going_or_jump Going q refl g);
  below = λ l i. (let (i2, f) = in_filter (is_left k) ls l i in h.below l i2);
}

unmet_jumps : (k : ℕ) (ls : List Jumped) (j : ℕ) (w : Way) (m : Masks) → arrives k w ≡ false → JumpsAre ls j w m → JumpsAre (filter (is_left k) ls) j w m
unmet_jumps k ls j w m e h = record {
  only = λ l i on. (let (i2, f) = in_filter (is_left k) ls l i in h.only l i2 on);
  some = λ q g. some q g (h.some q g);
  below = λ l i. (let (i2, f) = in_filter (is_left k) ls l i in h.below l i2);
}
  where
    some : (q : ℕ) → w ≡ Jumping q → ((l : Jumped) × In l ls × (l.label ≡ q) × (m.jumps l.mask ≡ true)) → (l : Jumped) × In l (filter (is_left k) ls) × (l.label ≡ q) × (m.jumps l.mask ≡ true)
    some q g (l, i, f, on) = (l, filter_in (is_left k) ls l i (ap not (ap (λ n. n == k) f ∙ (ap (arrives k) (sym g) ∙ e))), f, on)

module _ (bits line : ℕ) where
  pub label_follows : (deep : Bool) (own : Option ℕ) (k : ℕ) (p : MaskPoint) (s : State) (m : Masks) → Stands own p s.way m → IsFine (one bits line (Label k) s).way
      → Follows bits own (converted line deep own (Label k) p) p.jump p.mask s.store (one bits line (Label k) s) m
  label_follows deep own k p s m st f = by (arrives k s.way) refl
    where
      by : (b : Bool) → arrives k s.way ≡ b → Follows bits own (converted line deep own (Label k) p) p.jump p.mask s.store (one bits line (Label k) s) m
      by true e =
          let w = arrives_way k s.way e in
          subst (λ (z : State). Follows bits own (converted line deep own (Label k) p) p.jump p.mask s.store z m) (sym (label_met bits line k s e))
          (resumes bits line own (filter (is_left k) p.pending) p.jump p.mask (record s { way = Going }) m (st.block ∙ ap (λ w. not (is_away w)) w) tt (met_jumps k p.pending p.jump s.way m w st.jumps) st.own_below)
      by false e =
          let same = label_stays bits line k s e in
          subst (λ (z : State). Follows bits own (converted line deep own (Label k) p) p.jump p.mask s.store z m) (sym same)
          (resumes bits line own (filter (is_left k) p.pending) p.jump p.mask s m st.block (subst (λ (z : State). IsFine z.way) same f) (unmet_jumps k p.pending p.jump s.way m e st.jumps) st.own_below)
