-- What stands for the parts of a nest, part by part.
use mathlib.Core.Path.{ap₂}
use Rattle.std.proofs.Common.{◌≡◌, refl, sym, ap, ◌∙◌, subst, ℕ, zero, suc, ◌+◌, ◌-◌, ◌<◌, ◌≤◌, Bool, true, false, Option, Some, None, List, [], ◌∷◌, ◌++◌, map, length, drop, get_or, append_assoc, append-nil, OnOk, Result, Ok, Err, arith}
use Rattle.std.proofs.lemmas.List.{map-append}
use Rattle.tree.specs.Plain.{Block, Logic}
use Rattle.nest_rewrite.specs.Assembled.{with_parts}
use Rattle.tree.specs.declared.exprs.Expr.{Expr}
use Rattle.tree.specs.declared.ops.Kind.TheVariants.{Logical}
use Rattle.tree.specs.View.{expression_of}
use Rattle.nest.specs.declared.nests.Made.{Made}
use Rattle.nest.specs.Plain as P
use Rattle.nest.specs.View.{Branch, branch_of, made_of, part_of}
use Rattle.nest.specs.declared.parts.Loop.{Loop}
use Rattle.nest.specs.declared.parts.NestArm.{NestArm, out-NestArm}
use Rattle.nest.specs.declared.parts.Part.{Part}
use Rattle.nest.specs.declared.parts.Part.TheVariants as variants
use Rattle.nest.proofs.Equations.{branch_of-is}
use Rattle.if_convert.specs.Arms.{AreAdded, ArmsLeft, IsAdded, arm_added, arms_from, block_added, converted_arms, converted_list, rest_begun}
use Rattle.if_convert.specs.Converted.{around_loop, choice_at, converted, converted_loop, converted_nest}
use Rattle.if_convert.specs.Masks.{Masking, Kept, Clears, all_parts_of, masked_parts_of, masks_from, made_mask, mask_name, asks, sets, under_mask}
use Rattle.if_convert.specs.Points.{Converted, converted_after, cleared, cleared_for, entered, source_statement, numbered_jumps, rejoined, unless_skipped}
use Rattle.if_convert.specs.declared.points.MaskPoint.{MaskPoint}
use Rattle.if_convert.proofs.JumpLaws.{left-drop}

module _ (line : ℕ) where
  pub parts-append : (xs ys : List Masking) → all_parts_of line (xs ++ ys) ≡ all_parts_of line xs ++ all_parts_of line ys
  parts-append [] ys = refl
  parts-append (x ∷ xs) ys = ap (λ ps. masked_parts_of line x ++ ps) (parts-append xs ys) ∙ sym (append_assoc (masked_parts_of line x) (all_parts_of line xs) (all_parts_of line ys))

  pub two : (ps : List P.Part) (xs ys : List Masking) → (ps ++ all_parts_of line xs) ++ all_parts_of line ys ≡ ps ++ all_parts_of line (xs ++ ys)
  two ps xs ys = append_assoc ps (all_parts_of line xs) (all_parts_of line ys) ∙ ap (λ qs. ps ++ qs) (sym (parts-append xs ys))

  pub three : (ps : List P.Part) (xs ys zs : List Masking) → ((ps ++ all_parts_of line xs) ++ all_parts_of line ys) ++ all_parts_of line zs ≡ ps ++ all_parts_of line (xs ++ (ys ++ zs))
  three ps xs ys zs = two (ps ++ all_parts_of line xs) ys zs ∙ two ps xs (ys ++ zs)

  -- ---- lists of parts

  -- what is left leads to all
  pub record PartsLeft (deep : Bool) (own : Option ℕ) (qs : List P.Part) (p : MaskPoint) (now : List P.Part) (all : Converted) (old : List P.Part) : Type 0 where
    pub point : (converted_list line deep own qs p).point ≡ all.point
    pub made : now ++ all_parts_of line (converted_list line deep own qs p).made ≡ old ++ all_parts_of line all.made

  pub parts-begin : (deep : Bool) (own : Option ℕ) (qs : List P.Part) (p : MaskPoint) (old : List P.Part) → PartsLeft deep own qs p old (converted_list line deep own qs p) old
  parts-begin deep own qs p old = record { point = refl; made = refl }

  one_more : (deep : Bool) (own : Option ℕ) (q : P.Part) (qs : List P.Part) (p : MaskPoint) (made : List P.Part) (all : Converted) (old : List P.Part)
      → PartsLeft deep own (q ∷ qs) p made all old → PartsLeft deep own qs (converted line deep own q p).point (made ++ all_parts_of line (converted line deep own q p).made) all old
  one_more deep own q qs p made all old h = record {
    point = h.point;
    made = two made (converted line deep own q p).made (converted_list line deep own qs (converted line deep own q p).point).made ∙ h.made;
  }

  pub parts-next : (deep : Bool) (own : Option ℕ) (xs : List Part) (i : ℕ) (x : Part) (p r : MaskPoint) (made new : List P.Part) (all : Converted) (old : List P.Part) → i < length xs → x ≡ get_or xs i x
      → PartsLeft deep own (map part_of (drop i xs)) p made all old → IsAdded line (converted line deep own (part_of x) p) r made new
      → PartsLeft deep own (map part_of (drop (i + 1) xs)) r new all old
  parts-next deep own xs i x p r made new all old h e left add =
      subst (λ r. PartsLeft deep own (map part_of (drop (i + 1) xs)) r new all old) (sym add.point)
      (subst (λ new. PartsLeft deep own (map part_of (drop (i + 1) xs)) (converted line deep own (part_of x) p).point new all old) (sym add.made)
      (one_more deep own (part_of x) (map part_of (drop (i + 1) xs)) p made all old
      (subst (λ qs. PartsLeft deep own qs p made all old) (left-drop part_of xs i x h e) left)))

  pub parts-end : (deep : Bool) (own : Option ℕ) (qs : List P.Part) (p : MaskPoint) (made : List P.Part) (all : Converted) (old : List P.Part) → qs ≡ [] → PartsLeft deep own qs p made all old → IsAdded line all p old made
  parts-end deep own qs p made all old e left = by (subst (λ qs. PartsLeft deep own qs p made all old) e left)
    where
      by : PartsLeft deep own [] p made all old → IsAdded line all p old made
      by h = record { point = h.point; made = sym (append-nil made) ∙ h.made }

  -- ---- arms

  begun : (last : Option ℕ) (b : Branch) (bs : List Branch) (other : List P.Part) (p : MaskPoint) (made : List P.Part) (all : Converted) (old : List P.Part) → ArmsLeft line last (b ∷ bs) other p made all old
      → ArmsLeft line (Some (rest_begun last p).point.mask) bs other (arm_added line b (rest_begun last p).point).point
      ((made ++ all_parts_of line (rest_begun last p).made) ++ all_parts_of line (arm_added line b (rest_begun last p).point).made) all old
  begun None b bs other p made all old h =
      let q : MaskPoint = (rest_begun None p).point in
      let a = arm_added line b q in
      let more = arms_from line (Some q.mask) bs other a.point.guard a.point.jump a.point.mask in
      record {
        pending = append_assoc p.pending _ more.point.pending ∙ h.pending;
        jump = h.jump;
        mask = h.mask;
        made = three made (rest_begun None p).made a.made more.made ∙ h.made;
      }
  begun (Some x) b bs other p made all old h =
      let q : MaskPoint = (rest_begun (Some x) p).point in
      let a = arm_added line b q in
      let more = arms_from line (Some q.mask) bs other a.point.guard a.point.jump a.point.mask in
      record {
        pending = append_assoc p.pending _ more.point.pending ∙ h.pending;
        jump = h.jump;
        mask = h.mask;
        made = three made (rest_begun (Some x) p).made a.made more.made ∙ h.made;
      }

  pub arms-begin : (bs : List Branch) (other : List P.Part) (g : Option ℕ) (j m : ℕ) (old : List P.Part)
      → ArmsLeft line None bs other (entered g j m) old (converted_arms line bs other g j m) old
  arms-begin bs other g j m old = record { pending = refl; jump = refl; mask = refl; made = refl }

  pub arms-next : (last : Option ℕ) (xs : List NestArm) (i : ℕ) (x : NestArm) (other : List P.Part) (p q r : MaskPoint) (made middle new : List P.Part) (all : Converted) (old : List P.Part) → i < length xs → x ≡ get_or xs i x
      → ArmsLeft line last (map branch_of (drop i xs)) other p made all old → IsAdded line (rest_begun last p) q made middle → IsAdded line (arm_added line (branch_of x) q) r middle new
      → ArmsLeft line (Some q.mask) (map branch_of (drop (i + 1) xs)) other r new all old
  arms-next last xs i x other p q r made middle new all old h e left rest arm =
      by q middle rest.point rest.made r new arm.point arm.made
    where
      by : (q : MaskPoint) (middle : List P.Part) → q ≡ (rest_begun last p).point → middle ≡ made ++ all_parts_of line (rest_begun last p).made
          → (r : MaskPoint) (new : List P.Part) → r ≡ (arm_added line (branch_of x) q).point → new ≡ middle ++ all_parts_of line (arm_added line (branch_of x) q).made
          → ArmsLeft line (Some q.mask) (map branch_of (drop (i + 1) xs)) other r new all old
      by q middle a b r new c d =
          subst (λ r. ArmsLeft line (Some q.mask) (map branch_of (drop (i + 1) xs)) other r new all old) (sym c)
          (subst (λ new. ArmsLeft line (Some q.mask) (map branch_of (drop (i + 1) xs)) other (arm_added line (branch_of x) q).point new all old) (sym d)
          (subst (λ middle. ArmsLeft line (Some q.mask) (map branch_of (drop (i + 1) xs)) other (arm_added line (branch_of x) q).point (middle ++ all_parts_of line (arm_added line (branch_of x) q).made) all old) (sym b)
          (subst (λ (q : MaskPoint). ArmsLeft line (Some q.mask) (map branch_of (drop (i + 1) xs)) other (arm_added line (branch_of x) q).point
          ((made ++ all_parts_of line (rest_begun last p).made) ++ all_parts_of line (arm_added line (branch_of x) q).made) all old) (sym a)
          (begun last (branch_of x) (map branch_of (drop (i + 1) xs)) other p made all old
          (subst (λ bs. ArmsLeft line last bs other p made all old) (left-drop branch_of xs i x h e) left)))))

  -- no ELSE part
  pub arms-end : (last : Option ℕ) (bs : List Branch) (other : List P.Part) (p : MaskPoint) (made : List P.Part) (all : Converted) (old : List P.Part) → bs ≡ [] → other ≡ []
      → ArmsLeft line last bs other p made all old → AreAdded line all p old made
  arms-end last bs other p made all old e f left =
      by last (subst (λ other. ArmsLeft line last [] other p made all old) f (subst (λ bs. ArmsLeft line last bs other p made all old) e left))
    where
      by : (last : Option ℕ) → ArmsLeft line last [] [] p made all old → AreAdded line all p old made
      by None h = record { pending = sym (append-nil p.pending) ∙ h.pending; jump = h.jump; mask = h.mask; made = sym (append-nil made) ∙ h.made }
      by (Some x) h = record { pending = sym (append-nil p.pending) ∙ h.pending; jump = h.jump; mask = h.mask; made = sym (append-nil made) ∙ h.made }

  ended : (last : Option ℕ) (o : P.Part) (os : List P.Part) (p : MaskPoint) (made : List P.Part) (all : Converted) (old : List P.Part) → ArmsLeft line last [] (o ∷ os) p made all old
      → AreAdded line all (block_added line (rest_begun last p).point.guard (o ∷ os) (rest_begun last p).point).point old
      ((made ++ all_parts_of line (rest_begun last p).made) ++ all_parts_of line (block_added line (rest_begun last p).point.guard (o ∷ os) (rest_begun last p).point).made)
  ended None o os p made all old h = record {
    pending = h.pending;
    jump = h.jump;
    mask = h.mask;
    made = two made (rest_begun None p).made _ ∙ h.made;
  }
  ended (Some x) o os p made all old h = record {
    pending = h.pending;
    jump = h.jump;
    mask = h.mask;
    made = two made (rest_begun (Some x) p).made _ ∙ h.made;
  }

  -- and one
  pub else-end : (last : Option ℕ) (bs : List Branch) (xs : List Part) (p q r : MaskPoint) (made middle new : List P.Part) (all : Converted) (old : List P.Part) → bs ≡ [] → (xs ≡ [] → ⊥)
      → ArmsLeft line last bs (map part_of xs) p made all old → IsAdded line (rest_begun last p) q made middle → IsAdded line (block_added line q.guard (map part_of xs) q) r middle new → AreAdded line all r old new
  else-end last bs [] p q r made middle new all old e f left rest block = absurd (f refl)
  else-end last bs (x ∷ xs) p q r made middle new all old e f left rest block =
      by q middle rest.point rest.made r new block.point block.made
    where
      os : List P.Part
      os = part_of x ∷ map part_of xs

      by : (q : MaskPoint) (middle : List P.Part) → q ≡ (rest_begun last p).point → middle ≡ made ++ all_parts_of line (rest_begun last p).made
          → (r : MaskPoint) (new : List P.Part) → r ≡ (block_added line q.guard os q).point → new ≡ middle ++ all_parts_of line (block_added line q.guard os q).made → AreAdded line all r old new
      by q middle a b r new c d =
          subst (λ r. AreAdded line all r old new) (sym c)
          (subst (λ new. AreAdded line all (block_added line q.guard os q).point old new) (sym d)
          (subst (λ middle. AreAdded line all (block_added line q.guard os q).point old (middle ++ all_parts_of line (block_added line q.guard os q).made)) (sym b)
          (subst (λ (q : MaskPoint). AreAdded line all (block_added line q.guard os q).point old ((made ++ all_parts_of line (rest_begun last p).made) ++ all_parts_of line (block_added line q.guard os q).made)) (sym a)
          (ended last (part_of x) (map part_of xs) p made all old (subst (λ bs. ArmsLeft line last bs os p made all old) e left)))))

  -- ---- an IF

  pub choice-added : (deep : Bool) (own : Option ℕ) (n : ℕ) (arms : Option ℕ → ℕ → ℕ → Converted) (p q end r : MaskPoint) (old cleared middle new : List P.Part) → p.skips ≡ false → q ≡ numbered_jumps deep n p
      → cleared ≡ old ++ all_parts_of line (cleared_for deep q.jump n) → AreAdded line (arms q.guard q.jump q.mask) end cleared middle
      → IsAdded line (rejoined own q end.pending end.jump end.mask) r middle new
      → IsAdded line (unless_skipped p.skips p (choice_at deep own n p arms)) r old new
  choice-added deep own n arms p q end r old cleared middle new s e c a h =
      subst (λ b. IsAdded line (unless_skipped b p (choice_at deep own n p arms)) r old new) (sym s) (by q e c a h)
    where
      by : (q : MaskPoint) → q ≡ numbered_jumps deep n p → cleared ≡ old ++ all_parts_of line (cleared_for deep q.jump n) → AreAdded line (arms q.guard q.jump q.mask) end cleared middle
          → IsAdded line (rejoined own q end.pending end.jump end.mask) r middle new → IsAdded line (choice_at deep own n p arms) r old new
      by q e c a h =
          let d = arms q.guard q.jump q.mask in
          let g : IsAdded line (rejoined own q d.point.pending d.point.jump d.point.mask) r middle new
          = subst (λ m. IsAdded line (rejoined own q d.point.pending d.point.jump m) r middle new) a.mask
          (subst (λ j. IsAdded line (rejoined own q d.point.pending j end.mask) r middle new) a.jump
          (subst (λ ls. IsAdded line (rejoined own q ls end.jump end.mask) r middle new) a.pending h)) in
          let z = rejoined own q d.point.pending d.point.jump d.point.mask in
          let all : new ≡ old ++ all_parts_of line ((cleared_for deep q.jump n ++ d.made) ++ z.made)
          = g.made ∙ ap (λ ps. ps ++ all_parts_of line z.made) (a.made ∙ ap (λ ps. ps ++ all_parts_of line d.made) c ∙ two old (cleared_for deep q.jump n) d.made) ∙ two old (cleared_for deep q.jump n ++ d.made) z.made in
          subst (λ (q : MaskPoint). IsAdded line (converted_after (cleared_for deep q.jump n ++ (arms q.guard q.jump q.mask).made)
          (rejoined own q (arms q.guard q.jump q.mask).point.pending (arms q.guard q.jump q.mask).point.jump (arms q.guard q.jump q.mask).point.mask)) r old new) e
          (record { point = g.point; made = all })

-- ---- jumps that are cleared

pub cleared-next : (i e : ℕ) → i < e → cleared i (e - i) ≡ Clears i ∷ cleared (i + 1) (e - (i + 1))
cleared-next i e h = let n : e - i ≡ suc (e - (i + 1)) = omega (arith, h) in ap (cleared i) n ∙ ap (λ k. Clears i ∷ cleared k (e - (i + 1))) (omega arith)

pub masks-next : (i e : ℕ) → i < e → masks_from i (e - i) ≡ made_mask i ∷ masks_from (i + 1) (e - (i + 1))
masks-next i e h = let n : e - i ≡ suc (e - (i + 1)) = omega (arith, h) in ap (masks_from i) n ∙ ap (λ k. made_mask i ∷ masks_from k (e - (i + 1))) (omega arith)

-- ---- what is pushed

pub on_ok : {A E : Type 0} {P Q : Type 0} (r : Result A E) → (P → Q) → OnOk r P → OnOk r Q
on_ok (Ok x) f h = f h
on_ok (Err e) f h = h

pub pushed : (made new : List Part) (x : Part) (q : P.Part) → part_of x ≡ q → new ≡ made ++ x ∷ [] → map part_of new ≡ map part_of made ++ q ∷ []
pushed made new x q e now = ap (map part_of) now ∙ map-append part_of made (x ∷ []) ∙ ap (λ (p : P.Part). map part_of made ++ p ∷ []) e

pub keep-added : (line : ℕ) (g : P.Guarded) (p : MaskPoint) (ps new : List P.Part) → p.skips ≡ false → new ≡ ps ++ P.Run (under_mask p.guard g) ∷ [] → IsAdded line (source_statement g p) p ps new
keep-added line g p ps new s e = subst (λ b. IsAdded line (unless_skipped b p (record { made = Kept p.guard g ∷ []; point = p })) p ps new) (sym s) (record { point = refl; made = e })

pub skip-added : (line : ℕ) (p : MaskPoint) (c : Converted) (ps : List P.Part) → p.skips ≡ true → IsAdded line (unless_skipped p.skips p c) p ps ps
skip-added line p c ps s = subst (λ b. IsAdded line (unless_skipped b p c) p ps ps) (sym s) (record { point = refl; made = sym (append-nil ps) })

pub cleared-step : (line i e : ℕ) (ms new total : List P.Part) → i < e → ms ++ all_parts_of line (cleared i (e - i)) ≡ total → new ≡ ms ++ sets line None i (Logic false) ∷ []
    → new ++ all_parts_of line (cleared (i + 1) (e - (i + 1))) ≡ total
cleared-step line i e ms new total h g now =
    let more = all_parts_of line (cleared (i + 1) (e - (i + 1))) in
    ap (λ qs. qs ++ more) now ∙ append_assoc ms (sets line None i (Logic false) ∷ []) more
    ∙ ap (λ cs. ms ++ all_parts_of line cs) (sym (cleared-next i e h)) ∙ g

pub masks-step : (i e : ℕ) (ms new total : List P.Made) → i < e → ms ++ masks_from i (e - i) ≡ total → new ≡ ms ++ made_mask i ∷ [] → new ++ masks_from (i + 1) (e - (i + 1)) ≡ total
masks-step i e ms new total h g now =
    let more = masks_from (i + 1) (e - (i + 1)) in
    ap (λ qs. qs ++ more) now ∙ append_assoc ms (made_mask i ∷ []) more ∙ ap (λ cs. ms ++ cs) (sym (masks-next i e h)) ∙ g

pub drop_end : {X : Type 0} (xs : List X) (i : ℕ) → length xs ≤ i → drop i xs ≡ []
drop_end [] zero h = refl
drop_end [] (suc i) h = refl
drop_end (x ∷ xs) zero h = absurd (omega (arith, h))
drop_end (x ∷ xs) (suc i) h = drop_end xs i (omega (arith, h))

-- an arm
pub arm-made : (line : ℕ) (a : NestArm) (p : MaskPoint) (next : ℕ) (r : MaskPoint) (ps qs rs : List P.Part) → next ≡ p.mask + 1 → qs ≡ ps ++ asks line p.guard p.mask (expression_of (out-NestArm a).test)
    → IsAdded line (block_added line (Some p.mask) (map part_of (out-NestArm a).body) (record { guard = p.guard; pending = p.pending; skips = p.skips; jump = p.jump; mask = next })) r qs rs
    → IsAdded line (arm_added line (branch_of a) p) r ps rs
arm-made line a p next r ps qs rs e f h =
    subst (λ (b : Branch). IsAdded line (arm_added line b p) r ps rs) (sym (branch_of-is a)) (by next (e ∙ omega arith) h)
  where
    b : Branch
    b = record { test = expression_of (out-NestArm a).test; body = P.parts (map part_of (out-NestArm a).body) }

    by : (next : ℕ) → next ≡ suc p.mask → IsAdded line (block_added line (Some p.mask) (map part_of (out-NestArm a).body) (record { guard = p.guard; pending = p.pending; skips = p.skips; jump = p.jump; mask = next })) r qs rs
        → IsAdded line (arm_added line b p) r ps rs
    by next e h =
        let g = subst (λ n. IsAdded line (block_added line (Some p.mask) (map part_of (out-NestArm a).body) (record { guard = p.guard; pending = p.pending; skips = p.skips; jump = p.jump; mask = n })) r qs rs) e h in
        let ms = (converted_list line true (Some p.mask) (map part_of (out-NestArm a).body) (entered (Some p.mask) p.jump (suc p.mask))).made in
        record {
          point = g.point;
          made = g.made ∙ ap (λ qs. qs ++ all_parts_of line ms) f ∙ append_assoc ps (asks line p.guard p.mask b.test) (all_parts_of line ms);
        }

-- a mask that is pushed
pub pushed_mask : (i : ℕ) (ms new : List Made) (x : List ℕ) (es : List Expr) → x ≡ mask_name i → es ≡ [] → new ≡ ms ++ record { name = x; kind = Logical; extents = es } ∷ [] → map made_of new ≡ map made_of ms ++ made_mask i ∷ []
pushed_mask i ms new x es e f now =
    ap (map made_of) now ∙ map-append made_of ms (record { name = x; kind = Logical; extents = es } ∷ [])
    ∙ ap₂ (λ (x : List ℕ) (es : List Expr). map made_of ms ++ record { name = x; kind = Logical; extents = map expression_of es } ∷ []) e f

-- a loop
pub loop-added : (line : ℕ) (l : P.Loop) (ps : List P.Part) (p inner : MaskPoint) (within made new : List P.Part) → p.skips ≡ false
    → IsAdded line (converted_list line false None ps (entered None p.mask p.mask)) inner [] within → new ≡ made ++ P.Turns l (P.parts within) ∷ []
    → IsAdded line (unless_skipped p.skips p (around_loop line l p (converted_list line false None ps (entered None p.mask p.mask))))
    (record { guard = p.guard; pending = p.pending; skips = p.skips; jump = p.jump; mask = inner.mask }) made new
loop-added line l ps p inner within made new s h e =
    let c = converted_list line false None ps (entered None p.mask p.mask) in
    subst (λ b. IsAdded line (unless_skipped b p (around_loop line l p c)) (record { guard = p.guard; pending = p.pending; skips = p.skips; jump = p.jump; mask = inner.mask }) made new) (sym s)
    (record {
      point = ap (λ m. let r : MaskPoint = record { guard = p.guard; pending = p.pending; skips = p.skips; jump = p.jump; mask = m } in r) (ap (λ (q : MaskPoint). q.mask) h.point);
      made = e ∙ ap (λ ws. made ++ P.Turns l (P.parts ws) ∷ []) h.made;
    })

-- a nest
pub nest-converted : (n new : P.Nest) (masks : ℕ) (l : P.Loop) (ps within : List P.Part) (p : MaskPoint) (made : List P.Made) (after : Block) → IsAdded n.line (converted_list n.line false None ps (entered None masks masks)) p [] within
    → made ≡ n.made ++ masks_from masks (p.mask - masks) → after ≡ n.after → new ≡ with_parts n (P.Turns l (P.parts within)) made after
    → record new { masks = p.mask } ≡ converted_loop n masks l (P.parts ps)
unfolding with_parts
nest-converted n new masks l ps within p made after h e f g =
    let c = converted_list n.line false None ps (entered None masks masks) in
    let mask : p.mask ≡ c.point.mask = ap (λ (q : MaskPoint). q.mask) h.point in
    ap (λ (x : P.Nest). record x { masks = p.mask }) g
    ∙ (λ i. record n { body = P.Turns l (P.parts (h.made i)); made = (e ∙ ap (λ k. n.made ++ masks_from masks (k - masks)) mask) i; after = f i; masks = mask i })

pub turns-converted : (masks : ℕ) (n : P.Nest) (l : P.Loop) (ps : P.Parts) → n.body ≡ P.Turns l ps → converted_nest masks n ≡ Some (converted_loop n masks l ps)
unfolding converted_nest
turns-converted masks n l ps e = ap (λ (b : P.Part). elim b [
  | P.Run g ↦ None
  | P.Turns l ps ↦ Some (converted_loop n masks l ps)
  | P.Choice bs other ↦ None
  | P.Label k ↦ None
  | P.Jump k ↦ None
]) e

abbrev pub IsNoLoop : P.Part → Type 0
IsNoLoop (P.Run g) = Unit {0}
IsNoLoop (P.Turns l ps) = ⊥
IsNoLoop (P.Choice bs other) = Unit {0}
IsNoLoop (P.Label k) = Unit {0}
IsNoLoop (P.Jump k) = Unit {0}

pub none-converted : (masks : ℕ) (n : P.Nest) → IsNoLoop n.body → converted_nest masks n ≡ None
unfolding converted_nest
none-converted masks n h = by n.body h
  where
    by : (b : P.Part) → IsNoLoop b → ◌≡◌ {A = Option P.Nest} (elim b [
      | P.Run g ↦ None
      | P.Turns l ps ↦ Some (converted_loop n masks l ps)
      | P.Choice bs other ↦ None
      | P.Label k ↦ None
      | P.Jump k ↦ None
    ]) None
    by (P.Run g) h = refl
    by (P.Turns l ps) h = absurd h
    by (P.Choice bs other) h = refl
    by (P.Label k) h = refl
    by (P.Jump k) h = refl
