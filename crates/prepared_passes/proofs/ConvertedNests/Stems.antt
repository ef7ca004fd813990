-- What is made comes from statements and conditions of the nest.
use Rattle.std.proofs.Common.{sym, subst, ◌⊎◌, inl, inr, ℕ, zero, suc, ◌+◌, ◌≤◌, Bool, true, false, All, List, [], ◌∷◌, ◌++◌, filter, length, length-append, Option, Some, None, arith}
use Rattle.tree.specs.Plain.{Expression}
use Rattle.nest.specs.Bodies.{Standing, statements_in, statements_in_branches, statements_in_parts}
use Rattle.nest.specs.Plain.{Guarded, Loop, Part, Run, Turns, Choice, Label, Jump, Parts, no_parts, part, Branches, no_branches, branch}
use Rattle.nest_order.specs.orders.Lists.{In}
use Rattle.nest_order.proofs.orders.Lists.{In-append}
use Rattle.pass_laws.specs.prepared_nests.Branches.{StandingTest, tests_in_branches, tests_in_parts, tests_under}
use Rattle.if_convert.specs.Converted.{choice_at, converted, converted_branches, converted_parts, has_parts, has_rest, rest_if, rest_under}
use Rattle.if_convert.specs.Jumps.{jumps_in_branches, jumps_in_parts}
use Rattle.if_convert.specs.Masks.{Asks, Clears, Kept, Leaves, Masking, Other, Question, Test, Turned, Unleft}
use Rattle.if_convert.specs.Points.{Converted, cleared, entered, is_left, jump_made, numbered_jumps, rejoined, resumed, unless_skipped}
use Rattle.if_convert.specs.declared.points.Jumped.{Jumped}
use Rattle.if_convert.specs.declared.points.MaskPoint.{MaskPoint}
use Rattle.prepared_passes.proofs.ConvertedNests.Few.{arms, arms_less, fewer, part_less, rejoined_jump, resumed_jump}
use Rattle.prepared_passes.proofs.ConvertedNests.Moments.{AreLoopless, BranchesAreLoopless, IsLoopless}
use Rattle.prepared_passes.proofs.ConvertedNests.Names.{front, rest}
use Rattle.std.proofs.lemmas.List.Elements.{All-head, All-tail}
use Rattle.prepared_passes.proofs.ConvertedNests.Rising.{counts_branches, masks_rise_branches, masks_rise_parts, rejoined_mask, rises_branches, rises_parts, rises_rest}

-- S holds of statements, T of conditions
module _ (line most : ℕ) (S : Guarded → Type 0) (T : Expression → Type 0) where
  abbrev pub Asked : Question → Type 0
  Asked (Test e) = T e
  Asked (Other k) = Unit {0}
  Asked (Unleft ls) = length ls ≤ most

  abbrev pub Comes : Masking → Type 0
  Comes (Kept g c) = S c
  Comes (Asks g i q) = Asked q
  Comes (Clears j) = Unit {0}
  Comes (Leaves g j) = Unit {0}
  Comes (Turned l ps) = Unit {0}

  abbrev mutual
    pub Holds : Part → Type 0
    Holds (Run g) = S g
    Holds (Turns l ps) = Unit {0}
    Holds (Choice bs other) = BranchesHold bs × AllHold other
    Holds (Label k) = Unit {0}
    Holds (Jump k) = Unit {0}

    pub AllHold : Parts → Type 0
    AllHold no_parts = Unit {0}
    AllHold (part p ps) = Holds p × AllHold ps

    pub BranchesHold : Branches → Type 0
    BranchesHold no_branches = Unit {0}
    BranchesHold (branch test ps bs) = T test × AllHold ps × BranchesHold bs

  abbrev pub AllCome : List Masking → Type 0
  AllCome ms = (m : Masking) → In m ms → Comes m

  none_comes : AllCome []
  none_comes m i = absurd i

  one_comes : (x : Masking) → Comes x → AllCome (x ∷ [])
  one_comes x h m (inl e) = subst Comes (sym e) h
  one_comes x h m (inr i) = absurd i

  first_comes : (x : Masking) (xs : List Masking) → Comes x → AllCome xs → AllCome (x ∷ xs)
  first_comes x xs h k m (inl e) = subst Comes (sym e) h
  first_comes x xs h k m (inr i) = k m i

  both_come : (xs ys : List Masking) → AllCome xs → AllCome ys → AllCome (xs ++ ys)
  both_come xs ys h k m i = by (In-append m xs ys i)
    where
      by : In m xs ⊎ In m ys → Comes m
      by (inl i) = h m i
      by (inr i) = k m i

  cleared_come : (n j : ℕ) → AllCome (cleared j n)
  cleared_come zero j m i = absurd i
  cleared_come (suc n) j m (inl e) = subst Comes (sym e) tt
  cleared_come (suc n) j m (inr i) = cleared_come n (suc j) m i

  resumed_comes : (own : Option ℕ) (ls : List Jumped) (j k : ℕ) → length ls ≤ most → AllCome (resumed own ls j k).made
  resumed_comes own [] j k h = none_comes
  resumed_comes own (l ∷ ls) j k h = one_comes (Asks own k (Unleft (l ∷ ls))) h

  rejoined_comes : (own : Option ℕ) (p : MaskPoint) (ls : List Jumped) (j k : ℕ) → length p.pending + length ls ≤ most → AllCome (rejoined own p ls j k).made
  rejoined_comes own p [] j k h = none_comes
  rejoined_comes own p (l ∷ ls) j k h = let e = length-append p.pending (l ∷ ls) in resumed_comes own (p.pending ++ (l ∷ ls)) j k (omega (arith, e, h))

  rest_comes : (b : Bool) (j m : ℕ) (c : Converted) → (c.point.jump ≤ most → AllCome c.made) → (rest_if b j m c).point.jump ≤ most → AllCome (rest_if b j m c).made
  rest_comes false j m c h top = none_comes
  rest_comes true j m c h top = h top

  mutual
    pub part_comes : (own : Option ℕ) (q : Part) (p : MaskPoint) → IsLoopless q → Holds q → length p.pending ≤ p.jump → (converted line true own q p).point.jump ≤ most → AllCome (converted line true own q p).made
    part_comes own (Run g) p h s few top = by p.skips
      where
        by : (b : Bool) → AllCome (unless_skipped b p (record { made = Kept p.guard g ∷ []; point = p })).made
        by true = none_comes
        by false = one_comes (Kept p.guard g) s
    part_comes own (Turns l ps) p h s few top = absurd h
    part_comes own (Choice bs other) p h s few top =
        by p.skips top
        (λ top. come_arms bs (has_parts other) (λ g j m. converted_parts line true g other (entered g j m)) (λ g j m top. parts_come g other (entered g j m) h.2 s.1 (omega arith) top) (λ g j m. rises_parts line g other (entered g j m))
        p.guard p.jump p.mask h.1 s.0 top)
      where
        n : ℕ
        n = jumps_in_branches bs + jumps_in_parts false other

        by : (b : Bool) → (unless_skipped b p (choice_at true own n p (arms line bs other))).point.jump ≤ most → ((arms line bs other p.guard p.jump p.mask).point.jump ≤ most → AllCome (arms line bs other p.guard p.jump p.mask).made)
            → AllCome (unless_skipped b p (choice_at true own n p (arms line bs other))).made
        by true top come = none_comes
        by false top come =
            let c = arms line bs other p.guard p.jump p.mask in
            let jump = rejoined_jump own p c.point.pending c.point.jump c.point.mask in
            let less = arms_less line bs other p.guard p.jump p.mask in
            both_come c.made _ (come (omega (arith, jump, top)))
            (rejoined_comes own p c.point.pending c.point.jump c.point.mask (omega (arith, few, less, jump, top)))
    part_comes own (Label k) p h s few top =
        let l = fewer (is_left k) p.pending in
        let jump = resumed_jump own (filter (is_left k) p.pending) p.jump p.mask in
        resumed_comes own (filter (is_left k) p.pending) p.jump p.mask (omega (arith, l, few, jump, top))
    part_comes own (Jump k) p h s few top = by p.skips
      where
        by : (b : Bool) → AllCome (unless_skipped b p (jump_made true k p)).made
        by true = none_comes
        by false = one_comes (Leaves p.guard p.jump) tt

    pub parts_come : (own : Option ℕ) (ps : Parts) (p : MaskPoint) → AreLoopless ps → AllHold ps → length p.pending ≤ p.jump → (converted_parts line true own ps p).point.jump ≤ most → AllCome (converted_parts line true own ps p).made
    parts_come own no_parts p h s few top = none_comes
    parts_come own (part q ps) p h s few top =
        let c = converted line true own q p in
        let up = rises_parts line own ps c.point in
        let less = part_less line own q p in
        both_come c.made _ (part_comes own q p h.0 s.0 few (omega (arith, up, top))) (parts_come own ps c.point h.1 s.1 (omega (arith, few, less)) top)

    come_arms : (bs : Branches) (behind : Bool) (other : Option ℕ → ℕ → ℕ → Converted) → ((g : Option ℕ) (j m : ℕ) → (other g j m).point.jump ≤ most → AllCome (other g j m).made) → ((g : Option ℕ) (j m : ℕ) → j ≤ (other g j m).point.jump)
        → (g : Option ℕ) (j m : ℕ) → BranchesAreLoopless bs → BranchesHold bs → (converted_branches line bs behind other g j m).point.jump ≤ most → AllCome (converted_branches line bs behind other g j m).made
    come_arms no_branches behind other o r g j m h s top = o g j m top
    come_arms (branch test ps bs) behind other o r g j m h s top =
        let arm = converted_parts line true (Some m) ps (entered (Some m) j (suc m)) in
        let within = converted_branches line bs behind other (Some arm.point.mask) arm.point.jump (suc arm.point.mask) in
        let under = rest_under g arm.point.mask m within in
        let more = rest_if (has_rest bs behind) arm.point.jump arm.point.mask under in
        let up = rises_rest line (has_rest bs behind) arm.point.jump arm.point.mask 0 under (rises_branches line bs behind other r (Some arm.point.mask) arm.point.jump (suc arm.point.mask)) in
        first_comes (Asks g m (Test test)) (arm.made ++ more.made) s.0
        (both_come arm.made more.made (parts_come (Some m) ps (entered (Some m) j (suc m)) h.0 s.1 (omega arith) (omega (arith, up, top)))
        (rest_comes (has_rest bs behind) arm.point.jump arm.point.mask under
        (λ t. first_comes (Asks g arm.point.mask (Other m)) within.made tt (come_arms bs behind other o r (Some arm.point.mask) arm.point.jump (suc arm.point.mask) h.1 s.2 t)) top))

  pub arms_come : (bs : Branches) (other : Parts) (g : Option ℕ) (j m : ℕ) → BranchesAreLoopless bs → AreLoopless other → BranchesHold bs → AllHold other → (arms line bs other g j m).point.jump ≤ most → AllCome (arms line bs other g j m).made
  arms_come bs other g j m h o s t top =
      come_arms bs (has_parts other) (λ g j m. converted_parts line true g other (entered g j m)) (λ g j m top. parts_come g other (entered g j m) o t (omega arith) top) (λ g j m. rises_parts line g other (entered g j m)) g j m h s top

  -- in a loop's body
  pub top_comes : (q : Part) (p : MaskPoint) → IsLoopless q → Holds q → length p.pending ≤ p.mask → (converted line false None q p).point.mask ≤ most → AllCome (converted line false None q p).made
  top_comes (Run g) p h s few top = by p.skips
    where
      by : (b : Bool) → AllCome (unless_skipped b p (record { made = Kept p.guard g ∷ []; point = p })).made
      by true = none_comes
      by false = one_comes (Kept p.guard g) s
  top_comes (Turns l ps) p h s few top = absurd h
  top_comes (Choice bs other) p h s few top = by p.skips top
    where
      n : ℕ
      n = jumps_in_branches bs + jumps_in_parts false other

      by : (b : Bool) → (unless_skipped b p (choice_at false None n p (arms line bs other))).point.mask ≤ most → AllCome (unless_skipped b p (choice_at false None n p (arms line bs other))).made
      by true top = none_comes
      by false top =
          let q = numbered_jumps false n p in
          let c = arms line bs other q.guard q.jump q.mask in
          let less = arms_less line bs other q.guard q.jump q.mask in
          let count = counts_branches line bs other q.guard q.jump q.mask in
          let rise = masks_rise_branches line bs (has_parts other) (λ g j m. converted_parts line true g other (entered g j m)) (λ g j m. masks_rise_parts line true g other (entered g j m)) q.guard q.jump q.mask in
          let up = rejoined_mask line None q c.point.pending c.point.jump c.point.mask in
          both_come (cleared q.jump n ++ c.made) _
          (both_come (cleared q.jump n) c.made (cleared_come n q.jump) (arms_come bs other q.guard q.jump q.mask h.1 h.2 s.0 s.1 (omega (arith, count, rise, up, top))))
          (rejoined_comes None q c.point.pending c.point.jump c.point.mask (omega (arith, few, less, count, rise, up, top)))
  top_comes (Label k) p h s few top =
      let l = fewer (is_left k) p.pending in
      by (filter (is_left k) p.pending) (omega (arith, few, l)) top
    where
      by : (ls : List Jumped) → length ls ≤ p.mask → (resumed None ls p.jump p.mask).point.mask ≤ most → AllCome (resumed None ls p.jump p.mask).made
      by [] e top = none_comes
      by (l ∷ ls) e top = one_comes (Asks None p.mask (Unleft (l ∷ ls))) (omega (arith, e, top))
  top_comes (Jump k) p h s few top = by p.skips
    where
      by : (b : Bool) → AllCome (unless_skipped b p (jump_made false k (numbered_jumps false 1 p))).made
      by true = none_comes
      by false = first_comes (Clears p.mask) (Leaves p.guard p.mask ∷ []) tt (one_comes (Leaves p.guard p.mask) tt)

-- ---- of statements and conditions under these loops

module _ (ls : List Loop) (Q : Standing → Type 0) (R : StandingTest → Type 0) where
  abbrev pub Here : Guarded → Type 0
  Here g = Q (record { loops = ls; statement = g })

  abbrev pub HereTest : Expression → Type 0
  HereTest e = R (record { loops = ls; test = e })

  mutual
    pub part_holds : (line most : ℕ) (q : Part) → All Q (statements_in ls q) → All R (tests_under ls q) → Holds line most Here HereTest q
    part_holds line most (Run g) s t = All-head Q (record { loops = ls; statement = g }) [] s
    part_holds line most (Turns l ps) s t = tt
    part_holds line most (Choice bs other) s t = (
      branches_hold line most bs (front Q (statements_in_branches ls bs) (statements_in_parts ls other) s) (front R (tests_in_branches ls bs) (tests_in_parts ls other) t),
      parts_hold line most other (rest Q (statements_in_branches ls bs) (statements_in_parts ls other) s) (rest R (tests_in_branches ls bs) (tests_in_parts ls other) t),
    )
    part_holds line most (Label k) s t = tt
    part_holds line most (Jump k) s t = tt

    parts_hold : (line most : ℕ) (ps : Parts) → All Q (statements_in_parts ls ps) → All R (tests_in_parts ls ps) → AllHold line most Here HereTest ps
    parts_hold line most no_parts s t = tt
    parts_hold line most (part q ps) s t = (
      part_holds line most q (front Q (statements_in ls q) (statements_in_parts ls ps) s) (front R (tests_under ls q) (tests_in_parts ls ps) t),
      parts_hold line most ps (rest Q (statements_in ls q) (statements_in_parts ls ps) s) (rest R (tests_under ls q) (tests_in_parts ls ps) t),
    )

    branches_hold : (line most : ℕ) (bs : Branches) → All Q (statements_in_branches ls bs) → All R (tests_in_branches ls bs) → BranchesHold line most Here HereTest bs
    branches_hold line most no_branches s t = tt
    branches_hold line most (branch test ps bs) s t =
        let tail = All-tail R (record { loops = ls; test = test }) (tests_in_parts ls ps ++ tests_in_branches ls bs) t in (
          All-head R (record { loops = ls; test = test }) (tests_in_parts ls ps ++ tests_in_branches ls bs) t,
          parts_hold line most ps (front Q (statements_in_parts ls ps) (statements_in_branches ls bs) s) (front R (tests_in_parts ls ps) (tests_in_branches ls bs) tail),
          branches_hold line most bs (rest Q (statements_in_parts ls ps) (statements_in_branches ls bs) s) (rest R (tests_in_parts ls ps) (tests_in_branches ls bs) tail),
        )
