-- No IF, label or jump is left.
use Rattle.std.proofs.Common.{◌≡◌, refl, sym, ap, subst, ℕ, zero, suc, Bool, true, false, true≢false, Option, Some, None, is_some, All, List, [], ◌∷◌, ◌++◌, filter}
use Rattle.std.proofs.lemmas.List.Elements.{All-cons, All-head, All-nil, All-tail}
use Rattle.nest.specs.Bodies.{loops_of, loops_in_parts, loops_in_branches}
use Rattle.nest.specs.Plain.{Nest, Part, Run, Turns, Choice, Label, Jump, Parts, no_parts, part, parts, Branches, no_branches, branch}
use Rattle.nest_order.specs.shapes.Shapes.{IsNormal, IsPlain, ArePlain}
use Rattle.if_convert.specs.Converted.{converted, converted_parts, converted_branches, converted_loop, converted_nest, choice_at, around_loop, has_parts, has_rest, rest_if, rest_under}
use Rattle.if_convert.specs.Laws.{ConvertedIsPlain}
use Rattle.if_convert.specs.Jumps.{jumps_in_branches, jumps_in_parts}
use Rattle.if_convert.specs.Masks.{Masking, Kept, Asks, Clears, Leaves, Turned, all_parts_of, masked_parts_of}
use Rattle.if_convert.specs.Points.{Converted, unless_skipped, entered, numbered_jumps, cleared, cleared_for, jump_made, resumed, rejoined, is_left}
use Rattle.if_convert.specs.declared.points.Jumped.{Jumped}
use Rattle.if_convert.specs.declared.points.MaskPoint.{MaskPoint}
use Rattle.std.specs.Prelude.{◌+◌}

front : {X : Type 0} (P : X → Type 0) (xs ys : List X) → All P (xs ++ ys) → All P xs
front P [] ys h = All-nil P
front P (x ∷ xs) ys h = All-cons P x xs (All-head P x (xs ++ ys) h) (front P xs ys (All-tail P x (xs ++ ys) h))

rest : {X : Type 0} (P : X → Type 0) (xs ys : List X) → All P (xs ++ ys) → All P ys
rest P [] ys h = h
rest P (x ∷ xs) ys h = rest P xs ys (All-tail P x (xs ++ ys) h)

abbrev One : Masking → Type 0
One (Kept g c) = Unit {0}
One (Asks g i q) = Unit {0}
One (Clears j) = Unit {0}
One (Leaves g j) = Unit {0}
One (Turned l ps) = IsNormal l × ArePlain ps

abbrev Each : List Masking → Type 0
Each [] = Unit {0}
Each (m ∷ ms) = One m × Each ms

both : (xs ys : List Masking) → Each xs → Each ys → Each (xs ++ ys)
both [] ys h k = k
both (x ∷ xs) ys h k = (h.0, both xs ys h.1 k)

-- as parts of a nest
plain-append : (ps qs : List Part) → ArePlain (parts ps) → ArePlain (parts qs) → ArePlain (parts (ps ++ qs))
plain-append [] qs h k = k
plain-append (p ∷ ps) qs h k = (h.0, plain-append ps qs h.1 k)

module _ (line : ℕ) where
  one-plain : (m : Masking) → One m → ArePlain (parts (masked_parts_of line m))
  one-plain (Kept g c) h = (tt, tt)
  one-plain (Asks None i q) h = (tt, tt)
  one-plain (Asks (Some k) i q) h = (tt, (tt, tt))
  one-plain (Clears j) h = (tt, tt)
  one-plain (Leaves g j) h = (tt, tt)
  one-plain (Turned l ps) h = (h, tt)

  each-plain : (ms : List Masking) → Each ms → ArePlain (parts (all_parts_of line ms))
  each-plain [] h = tt
  each-plain (m ∷ ms) h = plain-append (masked_parts_of line m) (all_parts_of line ms) (one-plain m h.0) (each-plain ms h.1)

  skipped : (b : Bool) (p : MaskPoint) (c : Converted) → Each c.made → Each (unless_skipped b p c).made
  skipped true p c h = tt
  skipped false p c h = h

  of-cleared : (n j : ℕ) → Each (cleared j n)
  of-cleared zero j = tt
  of-cleared (suc n) j = (tt, of-cleared n (suc j))

  of-cleared_for : (deep : Bool) (j n : ℕ) → Each (cleared_for deep j n)
  of-cleared_for true j n = tt
  of-cleared_for false j n = of-cleared n j

  of-resumed : (own : Option ℕ) (ls : List Jumped) (j m : ℕ) → Each (resumed own ls j m).made
  of-resumed own [] j m = tt
  of-resumed own (l ∷ ls) j m = (tt, tt)

  of-rejoined : (own : Option ℕ) (p : MaskPoint) (ls : List Jumped) (j m : ℕ) → Each (rejoined own p ls j m).made
  of-rejoined own p [] j m = tt
  of-rejoined own p (l ∷ ls) j m = of-resumed own (p.pending ++ (l ∷ ls)) j m

  of-jump : (deep : Bool) (k : ℕ) (p : MaskPoint) → Each (jump_made deep k p).made
  of-jump deep k p = both (cleared_for deep p.jump 1) (Leaves p.guard p.jump ∷ []) (of-cleared_for deep p.jump 1) (tt, tt)

  of-choice : (deep : Bool) (own : Option ℕ) (n : ℕ) (p : MaskPoint) (arms : Option ℕ → ℕ → ℕ → Converted) → ((g : Option ℕ) (j m : ℕ) → Each (arms g j m).made) → Each (choice_at deep own n p arms).made
  of-choice deep own n p arms h =
      let q = numbered_jumps deep n p in
      let c = arms q.guard q.jump q.mask in
      both (cleared_for deep q.jump n ++ c.made) (rejoined own q c.point.pending c.point.jump c.point.mask).made (both (cleared_for deep q.jump n) c.made (of-cleared_for deep q.jump n) (h q.guard q.jump q.mask))
      (of-rejoined own q c.point.pending c.point.jump c.point.mask)

  of-rest : (b : Bool) (j m : ℕ) (c : Converted) → Each c.made → Each (rest_if b j m c).made
  of-rest false j m c h = tt
  of-rest true j m c h = h

  mutual
    of-part : (deep : Bool) (own : Option ℕ) (q : Part) (p : MaskPoint) → All IsNormal (loops_of q) → Each (converted line deep own q p).made
    of-part deep own (Run g) p h = skipped p.skips p (record { made = Kept p.guard g ∷ []; point = p }) (tt, tt)
    of-part deep own (Turns l ps) p h =
        let c = converted_parts line false None ps (entered None p.mask p.mask) in
        skipped p.skips p (around_loop line l p c)
        ((All-head IsNormal l (loops_in_parts ps) h, each-plain c.made (of-parts false None ps (entered None p.mask p.mask) (All-tail IsNormal l (loops_in_parts ps) h))), tt)
    of-part deep own (Choice bs other) p h =
        let n = jumps_in_branches bs + jumps_in_parts false other in
        let arms : Option ℕ → ℕ → ℕ → Converted = converted_branches line bs (has_parts other) (λ g j m. converted_parts line true g other (entered g j m)) in
        skipped p.skips p (choice_at deep own n p arms)
        (of-choice deep own n p arms
        (of-branches bs (has_parts other) (λ g j m. converted_parts line true g other (entered g j m)) (λ g j m. of-parts true g other (entered g j m) (rest IsNormal (loops_in_branches bs) (loops_in_parts other) h))
        (front IsNormal (loops_in_branches bs) (loops_in_parts other) h)))
    of-part deep own (Label k) p h = of-resumed own (filter (is_left k) p.pending) p.jump p.mask
    of-part deep own (Jump k) p h = skipped p.skips p (jump_made deep k (numbered_jumps deep 1 p)) (of-jump deep k (numbered_jumps deep 1 p))

    of-parts : (deep : Bool) (own : Option ℕ) (ps : Parts) (p : MaskPoint) → All IsNormal (loops_in_parts ps) → Each (converted_parts line deep own ps p).made
    of-parts deep own no_parts p h = tt
    of-parts deep own (part q ps) p h =
        both (converted line deep own q p).made (converted_parts line deep own ps (converted line deep own q p).point).made (of-part deep own q p (front IsNormal (loops_of q) (loops_in_parts ps) h))
        (of-parts deep own ps (converted line deep own q p).point (rest IsNormal (loops_of q) (loops_in_parts ps) h))

    of-branches : (bs : Branches) (other : Bool) (els : Option ℕ → ℕ → ℕ → Converted) → ((g : Option ℕ) (j m : ℕ) → Each (els g j m).made) → All IsNormal (loops_in_branches bs)
        → (g : Option ℕ) (j m : ℕ) → Each (converted_branches line bs other els g j m).made
    of-branches no_branches other els k h g j m = k g j m
    of-branches (branch test ps bs) other els k h g j m =
        let arm = converted_parts line true (Some m) ps (entered (Some m) j (suc m)) in
        let under = rest_under g arm.point.mask m (converted_branches line bs other els (Some arm.point.mask) arm.point.jump (suc arm.point.mask)) in (
          tt,
          both arm.made (rest_if (has_rest bs other) arm.point.jump arm.point.mask under).made
              (of-parts true (Some m) ps (entered (Some m) j (suc m)) (front IsNormal (loops_in_parts ps) (loops_in_branches bs) h))
              (of-rest (has_rest bs other) arm.point.jump arm.point.mask under
              (tt, of-branches bs other els k (rest IsNormal (loops_in_parts ps) (loops_in_branches bs) h) (Some arm.point.mask) arm.point.jump (suc arm.point.mask))),
        )

-- ---- the nest

some_body : (x m : Nest) → Some x ≡ Some m → IsPlain x.body → IsPlain m.body
some_body x m e h = let same : x ≡ m = cc in subst (λ (n : Nest). IsPlain n.body) same h

pub converted_plain : ConvertedIsPlain
unfolding converted_nest
converted_plain masks n m e h = by n.body refl e
  where
    by : (b : Part) → n.body ≡ b → elim b [
      | Run g ↦ None
      | Turns l ps ↦ Some (converted_loop n masks l ps)
      | Choice bs other ↦ None
      | Label k ↦ None
      | Jump k ↦ None
    ] ≡ Some m → IsPlain m.body
    by (Run g) f e = absurd (true≢false (sym (ap is_some e)))
    by (Turns l ps) f e =
        let loops = subst (λ (b : Part). All IsNormal (loops_of b)) f h in
        some_body (converted_loop n masks l ps) m e
        (All-head IsNormal l (loops_in_parts ps) loops, each-plain n.line (converted_parts n.line false None ps (entered None masks masks)).made (of-parts n.line false None ps (entered None masks masks) (All-tail IsNormal l (loops_in_parts ps) loops)))
    by (Choice bs other) f e = absurd (true≢false (sym (ap is_some e)))
    by (Label k) f e = absurd (true≢false (sym (ap is_some e)))
    by (Jump k) f e = absurd (true≢false (sym (ap is_some e)))
