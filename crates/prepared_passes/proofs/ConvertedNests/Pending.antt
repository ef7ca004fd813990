-- Jumps that are under way lead to labels ahead.
use Rattle.std.proofs.Common.{◌≡◌, refl, sym, ap, subst, ◌⊎◌, inl, inr, ℕ, suc, ◌+◌, Bool, true, false, not, List, [], ◌∷◌, ◌++◌, filter, Contains, Option, Some, None, eq-eqb}
use Rattle.meaning_laws.proofs.arrays.Members.{nowhere, cases_of}
use Rattle.nest.specs.Plain.{Part, Run, Turns, Choice, Label, Jump, Parts, no_parts, part, Branches, no_branches, branch}
use Rattle.nest_order.specs.orders.Lists.{In}
use Rattle.nest_order.proofs.orders.Lists.{In-append}
use Rattle.pass_laws.specs.branch_meaning.Jumps.{AllJumpAhead, BranchesJumpAhead, JumpsAhead, labels_ahead, labels_before}
use Rattle.if_convert.specs.Converted.{converted, converted_parts, converted_branches, choice_at, around_loop, rest_if, rest_under, has_rest, has_parts}
use Rattle.if_convert.specs.Jumps.{jumps_in_parts, jumps_in_branches}
use Rattle.if_convert.specs.Masks.{Kept}
use Rattle.if_convert.specs.Points.{Converted, entered, numbered_jumps, resumed, rejoined, is_left, unless_skipped, jump_made}
use Rattle.if_convert.specs.declared.points.Jumped.{Jumped}
use Rattle.if_convert.specs.declared.points.MaskPoint.{MaskPoint}
use Rattle.prepared_passes.proofs.ConvertedNests.Points.{in_filter, true_not_false}

abbrev pub Ahead : List ℕ → List Jumped → Type 0
Ahead later ls = (l : Jumped) → In l ls → Contains later l.label

pub none_ahead : (later : List ℕ) → Ahead later []
none_ahead later l i = absurd i

both_ahead : (later : List ℕ) (xs ys : List Jumped) → Ahead later xs → Ahead later ys → Ahead later (xs ++ ys)
both_ahead later xs ys h k l i = by (In-append l xs ys i)
  where
    by : In l xs ⊎ In l ys → Contains later l.label
    by (inl i) = h l i
    by (inr i) = k l i

resumed_pending : (own : Option ℕ) (ls : List Jumped) (j k : ℕ) → (resumed own ls j k).point.pending ≡ ls
resumed_pending own [] j k = refl
resumed_pending own (l ∷ ls) j k = refl

rejoined_ahead : (later : List ℕ) (own : Option ℕ) (p : MaskPoint) (ls : List Jumped) (j k : ℕ) → Ahead later p.pending → Ahead later ls → Ahead later (rejoined own p ls j k).point.pending
rejoined_ahead later own p [] j k h g = h
rejoined_ahead later own p (l ∷ ls) j k h g = subst (Ahead later) (sym (resumed_pending own (p.pending ++ (l ∷ ls)) j k)) (both_ahead later p.pending (l ∷ ls) h g)

numbered_ahead : (later : List ℕ) (deep : Bool) (n : ℕ) (p : MaskPoint) → Ahead later p.pending → Ahead later (numbered_jumps deep n p).pending
numbered_ahead later true n p h = h
numbered_ahead later false n p h = h

by_skip : (later : List ℕ) (b : Bool) (p : MaskPoint) (c : Converted) → Ahead later p.pending → Ahead later c.point.pending → Ahead later (unless_skipped b p c).point.pending
by_skip later true p c h g = h
by_skip later false p c h g = g

left_ahead : (later : List ℕ) (k : ℕ) (ls : List Jumped) → Ahead (k ∷ later) ls → Ahead later (filter (is_left k) ls)
left_ahead later k ls h l i = let (j, e) = in_filter (is_left k) ls l i in by e (cases_of k later l.label (h l j))
  where
    by : is_left k l ≡ true → (k ≡ l.label) ⊎ Contains later l.label → Contains later l.label
    by e (inl f) = absurd (true_not_false (is_left k l) e (ap not (eq-eqb l.label k (sym f))))
    by e (inr c) = c

module _ (line : ℕ) where
  abbrev arms : Branches → Parts → Option ℕ → ℕ → ℕ → Converted
  arms bs other = converted_branches line bs (has_parts other) (λ g j m. converted_parts line true g other (entered g j m))

  one_ahead : (later : List ℕ) (j k : ℕ) → Contains later k → Ahead later (record { mask = j; label = k } ∷ [])
  one_ahead later j k h l (inl e) = subst (λ (z : Jumped). Contains later z.label) (sym e) h
  one_ahead later j k h l (inr i) = absurd i

  rest_ahead : (b : Bool) (later : List ℕ) (j m : ℕ) (c : Converted) → Ahead later c.point.pending → Ahead later (rest_if b j m c).point.pending
  rest_ahead false later j m c h = none_ahead later
  rest_ahead true later j m c h = h

  mutual
    pub part_ahead : (deep : Bool) (own : Option ℕ) (q : Part) (later : List ℕ) (p : MaskPoint) → JumpsAhead later q → Ahead (labels_before q later) p.pending → Ahead later (converted line deep own q p).point.pending
    part_ahead deep own (Run g) later p h a = by_skip later p.skips p (record { made = Kept p.guard g ∷ []; point = p }) a a
    part_ahead deep own (Turns l ps) later p h a =
        let none : Ahead later p.pending = (λ x i. absurd (nowhere x.label (a x i))) in
        by_skip later p.skips p (around_loop line l p (converted_parts line false None ps (entered None p.mask p.mask))) none none
    part_ahead deep own (Choice bs other) later p h a =
        let n = jumps_in_branches bs + jumps_in_parts false other in
        let q = numbered_jumps deep n p in
        let c = arms bs other q.guard q.jump q.mask in
        by_skip later p.skips p (choice_at deep own n p (arms bs other)) a
        (rejoined_ahead later own q c.point.pending c.point.jump c.point.mask (numbered_ahead later deep n p a)
        (arms_ahead bs (has_parts other) (λ g j m. converted_parts line true g other (entered g j m)) later (λ g j m. parts_ahead true g other later (entered g j m) h.2 (none_ahead (labels_ahead other later))) q.guard q.jump q.mask h.1))
    part_ahead deep own (Label k) later p h a = subst (Ahead later) (sym (resumed_pending own (filter (is_left k) p.pending) p.jump p.mask)) (left_ahead later k p.pending a)
    part_ahead deep own (Jump k) later p h a =
        let q = numbered_jumps deep 1 p in
        by_skip later p.skips p (jump_made deep k q) a
        (both_ahead later q.pending (record { mask = q.jump; label = k } ∷ []) (numbered_ahead later deep 1 p a) (one_ahead later q.jump k h))

    pub parts_ahead : (deep : Bool) (own : Option ℕ) (ps : Parts) (later : List ℕ) (p : MaskPoint) → AllJumpAhead later ps → Ahead (labels_ahead ps later) p.pending → Ahead later (converted_parts line deep own ps p).point.pending
    parts_ahead deep own no_parts later p h a = a
    parts_ahead deep own (part q ps) later p h a =
        parts_ahead deep own ps later (converted line deep own q p).point h.1 (part_ahead deep own q (labels_ahead ps later) p h.0 a)

    arms_ahead : (bs : Branches) (rest : Bool) (other : Option ℕ → ℕ → ℕ → Converted) (later : List ℕ) → ((g : Option ℕ) (j m : ℕ) → Ahead later (other g j m).point.pending) → (g : Option ℕ) (j m : ℕ) → BranchesJumpAhead later bs
        → Ahead later (converted_branches line bs rest other g j m).point.pending
    arms_ahead no_branches rest other later o g j m h = o g j m
    arms_ahead (branch test ps bs) rest other later o g j m h =
        let arm = converted_parts line true (Some m) ps (entered (Some m) j (suc m)) in
        let under = rest_under g arm.point.mask m (converted_branches line bs rest other (Some arm.point.mask) arm.point.jump (suc arm.point.mask)) in
        both_ahead later arm.point.pending (rest_if (has_rest bs rest) arm.point.jump arm.point.mask under).point.pending
        (parts_ahead true (Some m) ps later (entered (Some m) j (suc m)) h.0 (none_ahead (labels_ahead ps later)))
        (rest_ahead (has_rest bs rest) later arm.point.jump arm.point.mask under (arms_ahead bs rest other later o (Some arm.point.mask) arm.point.jump (suc arm.point.mask) h.1))

-- ---- where none is under way statements stand under the block's own mask

pub record IsClean (own : Option ℕ) (p : MaskPoint) : Type 0 where
  pub at : p.pending ≡ [] → (p.guard ≡ own) × (p.skips ≡ false)

pub entered_clean : (g : Option ℕ) (j m : ℕ) → IsClean g (entered g j m)
entered_clean g j m = record { at = λ e. (refl, refl) }

not_empty : {X : Type 0} (xs ys : List X) (y : X) → xs ++ (y ∷ ys) ≡ [] → ⊥
not_empty [] ys y e = cc
not_empty (x ∷ xs) ys y e = cc

resumed_clean : (own : Option ℕ) (ls : List Jumped) (j k : ℕ) → IsClean own (resumed own ls j k).point
resumed_clean own [] j k = record { at = λ e. (refl, refl) }
resumed_clean own (l ∷ ls) j k = record { at = λ e. absurd (not_empty [] ls l e) }

clean_by : (own : Option ℕ) (b : Bool) (p : MaskPoint) (c : Converted) → IsClean own p → IsClean own c.point → IsClean own (unless_skipped b p c).point
clean_by own true p c h g = h
clean_by own false p c h g = g

numbered_clean : (own : Option ℕ) (deep : Bool) (n : ℕ) (p : MaskPoint) → IsClean own p → IsClean own (numbered_jumps deep n p)
numbered_clean own true n p h = h
numbered_clean own false n p h = record { at = h.at }

rejoined_clean : (own : Option ℕ) (p : MaskPoint) (ls : List Jumped) (j k : ℕ) → IsClean own p → IsClean own (rejoined own p ls j k).point
rejoined_clean own p [] j k h = record { at = λ e. ((h.at e).0, refl) }
rejoined_clean own p (l ∷ ls) j k h = resumed_clean own (p.pending ++ (l ∷ ls)) j k

pub part_clean : (line : ℕ) (deep : Bool) (own : Option ℕ) (q : Part) (p : MaskPoint) → IsClean own p → IsClean own (converted line deep own q p).point
part_clean line deep own (Run g) p h = clean_by own p.skips p (record { made = Kept p.guard g ∷ []; point = p }) h h
part_clean line deep own (Turns l ps) p h =
    clean_by own p.skips p (around_loop line l p (converted_parts line false None ps (entered None p.mask p.mask))) h (record { at = h.at })
part_clean line deep own (Choice bs other) p h =
    let n = jumps_in_branches bs + jumps_in_parts false other in
    let q = numbered_jumps deep n p in
    let c = arms line bs other q.guard q.jump q.mask in
    clean_by own p.skips p (choice_at deep own n p (arms line bs other)) h (rejoined_clean own q c.point.pending c.point.jump c.point.mask (numbered_clean own deep n p h))
part_clean line deep own (Label k) p h = resumed_clean own (filter (is_left k) p.pending) p.jump p.mask
part_clean line deep own (Jump k) p h =
    let q = numbered_jumps deep 1 p in
    clean_by own p.skips p (jump_made deep k q) h (record { at = λ e. absurd (not_empty q.pending [] (record { mask = q.jump; label = k }) e) })
