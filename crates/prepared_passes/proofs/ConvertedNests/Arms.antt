-- The arms of an IF.
use Rattle.std.proofs.Common.{◌≡◌, refl, sym, ap, subst, ◌∙◌, ◌⊎◌, inl, inr, ℕ, suc, ◌+◌, ◌<◌, ◌≤◌, Bool, true, false, not, ◌&&◌}
use Rattle.std.proofs.Common.{◌++◌, Option, Some, None, Result, Ok, Err, arith}
use Rattle.tree.specs.Plain.{Expression}
use Rattle.tree.specs.declared.ops.Fault.{Fault}
use Rattle.meaning.specs.Store.{Store}
use Rattle.meaning.specs.Run.{State, Way, Going, Jumping, Stopped, Failed, Cut, Act}
use Rattle.meaning.specs.Value.{truth_of}
use Rattle.nest_order.specs.orders.Orders.{runs}
use Rattle.nest.specs.Plain.{Parts, Branches, no_branches, branch}
use Rattle.if_convert.specs.Masks.{Test, Other, Asks}
use Rattle.prepared_passes.proofs.ConvertedNests.Moments.{Masks, holds, step, asked_if, with_guard, AreLoopless}
use Rattle.rewrite.specs.Following.{sequential}
use Rattle.if_convert.specs.Points.{Converted, entered, unchanged}
use Rattle.if_convert.specs.Converted.{converted_parts, converted_branches, rest_if, rest_under, has_rest, first_arm}
use Rattle.prepared_passes.proofs.ConvertedNests.Runs.{runs-append, runs-first}
use Rattle.prepared_passes.proofs.ConvertedNests.Ways.{is_going, is_away, IsFine, IsOver, is_going_true, away, moved, all, choosing, choice_idle, chosen, not_chosen, over_choosing, over_all}
use Rattle.prepared_passes.proofs.ConvertedNests.Points.{Below, below_more, guard_new, Framed, framed_none, framed_both, framed_guard, holds_kept}
use Rattle.prepared_passes.proofs.ConvertedNests.Points.{JumpsAre, Stands, Follows, none_jumps, true_not_false, jumps_kept, first_jumps, second_jumps}
use Rattle.prepared_passes.proofs.ConvertedNests.Rising.{rises_parts, rises_branches, rises_rest}
use Rattle.prepared_passes.proofs.ConvertedNests.Following.{at_moment}

-- a block that is entered, or isn't
abbrev pub IsAt : Way → Type 0
IsAt Going = Unit {0}
IsAt (Jumping k) = ⊥
IsAt Stopped = Unit {0}
IsAt (Failed f l) = ⊥
IsAt Cut = ⊥

pub at_cases : (w : Way) → IsAt w → (w ≡ Going) ⊎ (w ≡ Stopped)
at_cases Going h = inl refl
at_cases (Jumping k) h = absurd h
at_cases Stopped h = inr refl
at_cases (Failed f l) h = absurd h
at_cases Cut h = absurd h

pub at_block : (w : Way) → IsAt w → not (is_away w) ≡ is_going w
at_block Going h = refl
at_block (Jumping k) h = absurd h
at_block Stopped h = refl
at_block (Failed f l) h = absurd h
at_block Cut h = absurd h

pub at_no_jump : (w : Way) (k : ℕ) → IsAt w → w ≡ Jumping k → ⊥
at_no_jump w k h e = subst IsAt e h

pub away_no_jump : (w : Way) (k : ℕ) → is_away w ≡ true → w ≡ Jumping k → ⊥
away_no_jump w k h e = true_not_false (is_away w) h (ap is_away e)

not_same : (a b : Bool) → not a ≡ not b → a ≡ b
not_same true true e = refl
not_same true false e = let z : ⊥ = cc in absurd z
not_same false true e = let z : ⊥ = cc in absurd z
not_same false false e = refl

pub record ArmsFollow (bits : ℕ) (c : Converted) (j k : ℕ) (t : Store) (u : State) (w : Way) (m : Masks) : Type 0 where
  pub masks : Masks
  pub runs_to : runs (step bits) c.made (at_moment t m) ≡ Ok (at_moment u.store masks)
  pub jumps : JumpsAre c.point.pending c.point.jump u.way masks
  pub live : is_away u.way ≡ is_away w
  pub framed : Framed j k c.point.jump c.point.mask m masks

abbrev pub ClearFrom : ℕ → ℕ → Masks → Type 0
ClearFrom j j' m = (i : ℕ) → j ≤ i → i < j' → m.jumps i ≡ false

pub entered_stands : (g : Option ℕ) (j k : ℕ) (w : Way) (m : Masks) → IsAt w → holds g m ≡ is_going w → Below g k → Stands g (entered g j k) w m
entered_stands g j k w m h e b = record {
  block = e ∙ sym (at_block w h);
  guard = λ f. e;
  skips = λ f. cc;
  jumps = none_jumps j w m (λ q f. at_no_jump w q h f);
  own_below = b;
  guard_below = b;
}

away_not_going : (w : Way) → w ≡ Stopped → w ≡ Going → ⊥
away_not_going w e f = let same : ◌≡◌ {A = Way} Stopped Going = sym e ∙ f in cc

module _ (bits line : ℕ) where
  pub arm_from : (g : Option ℕ) (ps : Parts) (j k : ℕ) (z : State) (m : Masks) → IsAt z.way → holds g m ≡ is_going z.way → Below g k
      → Follows bits g (converted_parts line true g ps (entered g j k)) j k z.store (all bits line ps z) m
      → ArmsFollow bits (converted_parts line true g ps (entered g j k)) j k z.store (all bits line ps z) z.way m
  arm_from g ps j k z m h e b f =
      let c = converted_parts line true g ps (entered g j k) in
      record {
        masks = f.masks;
        runs_to = f.runs_to;
        jumps = f.stands.jumps;
        live = not_same (is_away (all bits line ps z).way) (is_away z.way) (sym f.stands.block ∙ (holds_kept g j k c.point.jump c.point.mask m f.masks b f.framed ∙ (e ∙ sym (at_block z.way h))));
        framed = f.framed;
      }

  -- ---- what stands behind an arm

  asked_other : (c : Bool) (r x : ℕ) (t : Store) (m : Masks) → asked_if bits c r (Other x) (at_moment t m) ≡ Ok (at_moment t (with_guard r (c && not (m.guards x)) m))
  asked_other true r x t m = refl
  asked_other false r x t m = refl

  abbrev pub Behind : (bs : Branches) (rest : Bool) (other : Option ℕ → ℕ → ℕ → Converted) (act : Act) → Type 0
  Behind bs rest other act =
      (g : Option ℕ) (j k : ℕ) (s : State) (m : Masks) → IsAt s.way → holds g m ≡ is_going s.way → Below g k
      → ClearFrom j (converted_branches line bs rest other g j k).point.jump m → IsFine (choosing bits line bs act s).way
      → ArmsFollow bits (converted_branches line bs rest other g j k) j k s.store (choosing bits line bs act s) s.way m

  no_rest : (bs : Branches) (rest : Bool) (act : Act) (s : State) → has_rest bs rest ≡ false → (rest ≡ false → act s ≡ s) → choosing bits line bs act s ≡ s
  no_rest no_branches rest act s e h = h e
  no_rest (branch test qs bs) rest act s e h = let z : ⊥ = cc in absurd z

  rest_follows : (bs : Branches) (rest : Bool) (other : Option ℕ → ℕ → ℕ → Converted) (act : Act) (g : Option ℕ) (x j k : ℕ) (s : State) (m : Masks)
      → (rest ≡ false → act s ≡ s) → IsAt s.way → (holds g m && not (m.guards x)) ≡ is_going s.way
      → ClearFrom j (rest_if (has_rest bs rest) j k (rest_under g k x (converted_branches line bs rest other (Some k) j (suc k)))).point.jump m
      → IsFine (choosing bits line bs act s).way → Behind bs rest other act
      → ArmsFollow bits (rest_if (has_rest bs rest) j k (rest_under g k x (converted_branches line bs rest other (Some k) j (suc k)))) j k s.store (choosing bits line bs act s) s.way m
  rest_follows bs rest other act g x j k s m none h e c f more = by (has_rest bs rest) refl c
    where
      by : (b : Bool) → has_rest bs rest ≡ b → ClearFrom j (rest_if b j k (rest_under g k x (converted_branches line bs rest other (Some k) j (suc k)))).point.jump m
          → ArmsFollow bits (rest_if b j k (rest_under g k x (converted_branches line bs rest other (Some k) j (suc k)))) j k s.store (choosing bits line bs act s) s.way m
      by false n c =
          subst (λ (z : State). ArmsFollow bits (unchanged (entered None j k)) j k s.store z s.way m) (sym (no_rest bs rest act s n none))
          (record { masks = m; runs_to = refl; jumps = none_jumps j s.way m (λ q f. at_no_jump s.way q h f); live = refl; framed = framed_none j k m })
      by true n c =
          let b = holds g m && not (m.guards x) in
          let o = with_guard k b m in
          let i = converted_branches line bs rest other (Some k) j (suc k) in
          let a = more (Some k) j (suc k) s o h (guard_new k b m ∙ e) (omega arith) c f in
          record {
            masks = a.masks;
            runs_to = runs-first (step bits) (Asks g k (Other x)) i.made (at_moment s.store m) (at_moment s.store o) (at_moment (choosing bits line bs act s).store a.masks) (asked_other (holds g m) k x s.store m) a.runs_to;
            jumps = a.jumps;
            live = a.live;
            framed = framed_both j k j (suc k) i.point.jump i.point.mask m o a.masks (framed_guard j k b m) a.framed;
          }

  -- ---- an arm, and what stands behind it

  abbrev arm_of : ℕ → Parts → ℕ → Converted
  arm_of k ps j = converted_parts line true (Some k) ps (entered (Some k) j (suc k))

  abbrev rest_of : Option ℕ → ℕ → Converted → Branches → Bool → (Option ℕ → ℕ → ℕ → Converted) → Converted
  rest_of g k arm bs rest other =
      rest_if (has_rest bs rest) arm.point.jump arm.point.mask
      (rest_under g arm.point.mask k (converted_branches line bs rest other (Some arm.point.mask) arm.point.jump (suc arm.point.mask)))

  -- u: where both lead
  both_follow : (g : Option ℕ) (test : Expression) (j k : ℕ) (arm more : Converted) (t : Store) (b : Bool) (u1 u2 u : State) (w1 w2 w : Way) (m : Masks)
      → asked_if bits (holds g m) k (Test test) (at_moment t m) ≡ Ok (at_moment t (with_guard k b m))
      → (a : ArmsFollow bits arm j (suc k) t u1 w1 (with_guard k b m)) (r : ArmsFollow bits more arm.point.jump arm.point.mask u1.store u2 w2 a.masks)
      → u2.store ≡ u.store → is_away u.way ≡ is_away w → JumpsAre (arm.point.pending ++ more.point.pending) more.point.jump u.way r.masks
      → ArmsFollow bits (first_arm g k (Test test) arm more) j k t u w m
  both_follow g test j k arm more t b u1 u2 u w1 w2 w m e a r same l h = record {
    masks = r.masks;
    runs_to = runs-first (step bits) (Asks g k (Test test)) (arm.made ++ more.made) (at_moment t m) (at_moment t (with_guard k b m)) (at_moment u.store r.masks) e
        (subst (λ z. runs (step bits) (arm.made ++ more.made) (at_moment t (with_guard k b m)) ≡ Ok (at_moment z r.masks)) same
        (runs-append (step bits) arm.made more.made (at_moment t (with_guard k b m)) (at_moment u1.store a.masks) (at_moment u2.store r.masks) a.runs_to r.runs_to));
    jumps = h;
    live = l;
    framed =
        framed_both j k j (suc k) more.point.jump more.point.mask m (with_guard k b m) r.masks (framed_guard j k b m)
        (framed_both j (suc k) arm.point.jump arm.point.mask more.point.jump more.point.mask (with_guard k b m) a.masks r.masks a.framed r.framed);
  }

  asked_test : (c : Bool) (k : ℕ) (test : Expression) (t : Store) (m : Masks) (b : Bool) → c ≡ true → truth_of (sequential bits) test t ≡ Ok b
      → asked_if bits c k (Test test) (at_moment t m) ≡ Ok (at_moment t (with_guard k b m))
  asked_test c k test t m b e f = rw (e, f) refl

  asked_not : (c : Bool) (k : ℕ) (test : Expression) (t : Store) (m : Masks) → c ≡ false
      → asked_if bits c k (Test test) (at_moment t m) ≡ Ok (at_moment t (with_guard k false m))
  asked_not c k test t m e = rw e refl

  and_not : (a b : Bool) → b ≡ true → (a && not b) ≡ false
  and_not true b e = ap not e
  and_not false b e = refl

  and_true : (a b : Bool) → a ≡ true → b ≡ false → (a && not b) ≡ true
  and_true a b e f = rw (e, f) refl

  and_false : (a b : Bool) → a ≡ false → (a && b) ≡ false
  and_false a b e = rw e refl

  abbrev pub ArmFollows : Parts → Type 0
  ArmFollows ps =
      (g : Option ℕ) (j k : ℕ) (z : State) (m : Masks) → IsAt z.way → holds g m ≡ is_going z.way → Below g k
      → ClearFrom j (converted_parts line true g ps (entered g j k)).point.jump m → IsFine (all bits line ps z).way
      → ArmsFollow bits (converted_parts line true g ps (entered g j k)) j k z.store (all bits line ps z) z.way m

  module _ (test : Expression) (ps : Parts) (bs : Branches) (rest : Bool) (other : Option ℕ → ℕ → ℕ → Converted) (act : Act)
      (none : (s : State) → rest ≡ false → act s ≡ s) (over : (s : State) → s.way ≡ Stopped → act s ≡ s)
      (rising : (g : Option ℕ) (j k : ℕ) → j ≤ (other g j k).point.jump) (loopless : AreLoopless ps)
      (arm : ArmFollows ps) (behind : Behind bs rest other act)
      (g : Option ℕ) (j k : ℕ) (m : Masks) (below : Below g k)
      (clear : ClearFrom j (converted_branches line (branch test ps bs) rest other g j k).point.jump m) where
    abbrev A : Converted
    A = arm_of k ps j

    abbrev R : Converted
    R = rest_of g k (arm_of k ps j) bs rest other

    arm_rises : j ≤ (arm_of k ps j).point.jump
    arm_rises = rises_parts line (Some k) ps (entered (Some k) j (suc k))

    rest_rises : (arm_of k ps j).point.jump ≤ (rest_of g k (arm_of k ps j) bs rest other).point.jump
    rest_rises = rises_rest line (has_rest bs rest) (arm_of k ps j).point.jump (arm_of k ps j).point.mask 0 (rest_under g (arm_of k ps j).point.mask k (converted_branches line bs rest other (Some (arm_of k ps j).point.mask) (arm_of k ps j).point.jump (suc (arm_of k ps j).point.mask)))
        (rises_branches line bs rest other rising (Some (arm_of k ps j).point.mask) (arm_of k ps j).point.jump (suc (arm_of k ps j).point.mask))

    arm_clear : (b : Bool) → ClearFrom j (arm_of k ps j).point.jump (with_guard k b m)
    arm_clear b i h l = clear i h (let q = rest_rises in omega (arith, l, q))

    rest_clear : (b : Bool) (o : Masks) → Framed j (suc k) (arm_of k ps j).point.jump (arm_of k ps j).point.mask (with_guard k b m) o → ClearFrom (arm_of k ps j).point.jump (rest_of g k (arm_of k ps j) bs rest other).point.jump o
    rest_clear b o f i h l = f.above i h ∙ clear i (let q = arm_rises in omega (arith, h, q)) l

    guard_after : (b : Bool) (o : Masks) → Framed j (suc k) (arm_of k ps j).point.jump (arm_of k ps j).point.mask (with_guard k b m) o → holds g o ≡ holds g m
    guard_after b o f =
        holds_kept g j (suc k) (arm_of k ps j).point.jump (arm_of k ps j).point.mask (with_guard k b m) o (below_more g k (suc k) (omega arith) below) f
        ∙ holds_kept g j k j (suc k) m (with_guard k b m) below (framed_guard j k b m)

    arm_after : (b : Bool) (o : Masks) → Framed j (suc k) (arm_of k ps j).point.jump (arm_of k ps j).point.mask (with_guard k b m) o → o.guards k ≡ b
    arm_after b o f = f.guards k (omega arith) ∙ guard_new k b m

    -- the run takes the arm
    taken : (s : State) → s.way ≡ Going → holds g m ≡ true → truth_of (sequential bits) test s.store ≡ Ok true → IsFine (choosing bits line (branch test ps bs) act s).way
        → ArmsFollow bits (converted_branches line (branch test ps bs) rest other g j k) j k s.store (choosing bits line (branch test ps bs) act s) s.way m
    taken s w e f fine =
        let s1 = moved s (s.steps + 1) s.store in
        let is = chosen bits line test ps bs act s true w f in
        let u = all bits line ps s1 in
        let a = arm (Some k) j (suc k) s1 (with_guard k true m) tt (guard_new k true m) (omega arith) (arm_clear true) (subst (λ (z : State). IsFine z.way) is fine) in
        let v = away u in
        let stay = over_choosing bits line bs act v (over v refl) tt in
        let r = rest_follows bs rest other act g k A.point.jump A.point.mask v a.masks (none v) tt (and_not (holds g a.masks) (a.masks.guards k) (arm_after true a.masks a.framed))
        (rest_clear true a.masks a.framed) (subst (λ (z : State). IsFine z.way) (sym stay) tt) behind in
        subst (λ (z : State). ArmsFollow bits (converted_branches line (branch test ps bs) rest other g j k) j k s.store z s.way m) (sym is)
        (both_follow g test j k A R s.store true u (choosing bits line bs act v) u s1.way v.way s.way m (asked_test (holds g m) k test s.store m true e f) a r (ap (λ (z : State). z.store) stay) (a.live ∙ ap is_away (sym w))
        (first_jumps A.point.pending R.point.pending R.point.jump u.way (choosing bits line bs act v).way r.masks (jumps_kept A.point.pending A.point.jump R.point.jump u.way a.masks r.masks a.jumps rest_rises r.framed.below) r.jumps
        (λ q. away_no_jump (choosing bits line bs act v).way q r.live)))

    -- the run passes over the arm
    passed : (s : State) → s.way ≡ Going → holds g m ≡ true → truth_of (sequential bits) test s.store ≡ Ok false → IsFine (choosing bits line (branch test ps bs) act s).way
        → ArmsFollow bits (converted_branches line (branch test ps bs) rest other g j k) j k s.store (choosing bits line (branch test ps bs) act s) s.way m
    passed s w e f fine =
        let s1 = moved s (s.steps + 1) s.store in
        let is = chosen bits line test ps bs act s false w f in
        let v = away s1 in
        let stay = over_all bits line ps v loopless tt in
        let a = subst (λ (z : State). ArmsFollow bits A j (suc k) s.store z Stopped (with_guard k false m)) stay
        (arm (Some k) j (suc k) v (with_guard k false m) tt (guard_new k false m) (omega arith) (arm_clear false) (subst (λ (z : State). IsFine z.way) (sym stay) tt)) in
        let u = choosing bits line bs act s1 in
        let r = rest_follows bs rest other act g k A.point.jump A.point.mask s1 a.masks (none s1) tt (and_true (holds g a.masks) (a.masks.guards k) (guard_after false a.masks a.framed ∙ e) (arm_after false a.masks a.framed))
        (rest_clear false a.masks a.framed) (subst (λ (z : State). IsFine z.way) is fine) behind in
        subst (λ (z : State). ArmsFollow bits (converted_branches line (branch test ps bs) rest other g j k) j k s.store z s.way m) (sym is)
        (both_follow g test j k A R s.store false v u u Stopped s1.way s.way m (asked_test (holds g m) k test s.store m false e f) a r refl (r.live ∙ ap is_away (sym w))
        (second_jumps A.point.pending R.point.pending R.point.jump Stopped u.way r.masks (jumps_kept A.point.pending A.point.jump R.point.jump Stopped a.masks r.masks a.jumps rest_rises r.framed.below) r.jumps
        (λ q. away_no_jump Stopped q refl)))

    -- the run is elsewhere
    aside : (s : State) → s.way ≡ Stopped → holds g m ≡ false
        → ArmsFollow bits (converted_branches line (branch test ps bs) rest other g j k) j k s.store (choosing bits line (branch test ps bs) act s) s.way m
    aside s w e =
        let at = subst IsAt (sym w) tt in
        let ended = subst (IsOver bits line) (sym w) tt in
        let fine = subst IsFine (sym w) tt in
        let is = choice_idle bits line test ps bs act s (λ h. away_not_going s.way w h) in
        let stay = over_all bits line ps s loopless ended in
        let stay2 = over_choosing bits line bs act s (over s w) ended in
        let not_on : false ≡ is_going s.way = ap is_going (sym w) in
        let a = subst (λ (z : State). ArmsFollow bits A j (suc k) s.store z s.way (with_guard k false m)) stay
        (arm (Some k) j (suc k) s (with_guard k false m) at (guard_new k false m ∙ not_on) (omega arith) (arm_clear false) (subst (λ (z : State). IsFine z.way) (sym stay) fine)) in
        let r = subst (λ (z : State). ArmsFollow bits R A.point.jump A.point.mask s.store z s.way a.masks) stay2
        (rest_follows bs rest other act g k A.point.jump A.point.mask s a.masks (none s) at (and_false (holds g a.masks) (not (a.masks.guards k)) (guard_after false a.masks a.framed ∙ e) ∙ not_on)
        (rest_clear false a.masks a.framed) (subst (λ (z : State). IsFine z.way) (sym stay2) fine) behind) in
        subst (λ (z : State). ArmsFollow bits (converted_branches line (branch test ps bs) rest other g j k) j k s.store z s.way m) (sym is)
        (both_follow g test j k A R s.store false s s s s.way s.way s.way m (asked_not (holds g m) k test s.store m e) a r refl refl
        (second_jumps A.point.pending R.point.pending R.point.jump s.way s.way r.masks (jumps_kept A.point.pending A.point.jump R.point.jump s.way a.masks r.masks a.jumps rest_rises r.framed.below) r.jumps
        (λ q. away_no_jump s.way q (ap is_away w))))

    pub branch_follows : (s : State) → IsAt s.way → holds g m ≡ is_going s.way → IsFine (choosing bits line (branch test ps bs) act s).way
        → ArmsFollow bits (converted_branches line (branch test ps bs) rest other g j k) j k s.store (choosing bits line (branch test ps bs) act s) s.way m
    branch_follows s at e fine = by (at_cases s.way at)
      where
        asks : s.way ≡ Going → (q : Result Bool Fault) → truth_of (sequential bits) test s.store ≡ q
            → ArmsFollow bits (converted_branches line (branch test ps bs) rest other g j k) j k s.store (choosing bits line (branch test ps bs) act s) s.way m
        asks w (Ok true) f = taken s w (e ∙ is_going_true s.way w) f fine
        asks w (Ok false) f = passed s w (e ∙ is_going_true s.way w) f fine
        asks w (Err x) f = absurd (subst IsFine (not_chosen bits line test ps bs act s x w f) fine)

        by : (s.way ≡ Going) ⊎ (s.way ≡ Stopped) → ArmsFollow bits (converted_branches line (branch test ps bs) rest other g j k) j k s.store (choosing bits line (branch test ps bs) act s) s.way m
        by (inl w) = asks w (truth_of (sequential bits) test s.store) refl
        by (inr w) = aside s w (e ∙ ap is_going w)
