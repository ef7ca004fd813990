-- Statements under masks do as statements of a program what they do by their masks.
use mathlib.Core.Path.{ap₂}
use Rattle.std.proofs.Common.{◌≡◌, refl, sym, ap, subst, ◌∙◌, ◌⊎◌, inl, inr, ℕ, zero, suc, ◌<◌, ◌≤◌, ◌^◌, ◌==◌, Bool, true, false, not, ◌&&◌, cond, List, [], ◌∷◌, ◌++◌, take, drop, length, Option, Some, None, Result, Ok, Err, arith, eq-eqb, eqb-true}
use Rattle.std.specs.List.{AllByRecursion}
use Rattle.tree.specs.Operators.{apply, as_truth}
use Rattle.tree.specs.Plain.{Expression, Logic, Unary}
use Rattle.tree.specs.Steps.{◌>>=◌}
use Rattle.tree.specs.declared.ops.Fault.{Fault}
use Rattle.tree.specs.declared.ops.Fault.TheVariants.{Overflow}
use Rattle.tree.specs.declared.ops.Op.TheVariants.{Not, And}
use Rattle.tree.specs.declared.ops.Value.{Value}
use Rattle.tree.specs.declared.ops.Value.TheVariants.{Int, Truth}
use Rattle.meaning.specs.Reads.{names_in, names_in_subscripts}
use Rattle.meaning.specs.Run.{State, Going, does, does_all}
use Rattle.meaning.specs.Store.{Store, Cell, put, same_cell, cell_at}
use Rattle.meaning.specs.Value.{value_of, cell_named, subscript_values, is_in_range}
use Rattle.meaning.proofs.Exchanges.{unread}
use Rattle.meaning_laws.specs.arrays.Instances.{after}
use Rattle.rewrite.specs.Following.{sequential}
use Rattle.nest.specs.Blocks.{block_of_parts, guarded_statement}
use Rattle.nest.specs.Plain.{Guarded, Part, parts}
use Rattle.nest_order.specs.orders.Lists.{In}
use Rattle.nest_order.specs.orders.Orders.{and_then, runs}
use Rattle.nest_order.specs.runs.Blocks as order_blocks
use Rattle.nest_order.specs.runs.Guarded as order_guarded
use Rattle.nest_order.specs.runs.Guarded.{assigned_if, effect, guard_holds}
use Rattle.nest_order.proofs.orders.Lists.{In-right}
use Rattle.nest_order.proofs.runs.Alike.{Alike, effect_alike, value_alike}
use Rattle.nest_order.proofs.runs.Going.{Went, guarded_went}
use Rattle.nest_order.proofs.runs.Results.{ok_same, both_ok, each_of}
use Rattle.nest_order.proofs.runs.Variables.{place_of, put_there, cell_name}
use Rattle.nest_steps.proofs.Mapped.{does_joined}
use Rattle.if_convert.specs.Masks.{Question, Test, Other, Unleft, Masking, Kept, Asks, Clears, Leaves, Turned, all_parts_of, asked, first_half, mask, mask_name, none_left, none_of, masked_parts_of, mask_scalar, under_mask}
use Rattle.if_convert.specs.declared.points.Jumped.{Jumped}
use Rattle.if_convert.proofs.Halves.{front_fits, rest_fits}
use Rattle.prepared_passes.proofs.ConvertedNests.Masked.{AsksOthers, HasMasks, IsGuard, IsJump, IsNewGuard, IsNewJump, IsNotAsked, IsOther, IsSuited, IsUsed, NamesOthers, flag, mask_same}
use Rattle.prepared_passes.proofs.ConvertedNests.Moments.{Masks, Moment, none_has_left, holds, step, assigned, kept_if, asked_if, left_if, answer_to, with_guard, with_jump}
use Rattle.prepared_passes.proofs.ConvertedNests.Points.{true_not_false}

other_number : (n m : ℕ) → ¬ (n ≡ m) → (n == m) ≡ false
other_number n m h = grind arith

-- a statement of a nest is one of a list of instances
abbrev plain : Guarded → order_guarded.GuardedAssignment
plain g = record { guard = g.guard; left = g.left; right = g.right }

module _ (bits line k0 k1 low mid : ℕ) (few : k1 ≤ 2 ^ 32) (order : low ≤ mid) where
  abbrev Has : Store → Store → Masks → Type 0
  Has s t m = HasMasks k0 k1 low mid s t m

  same_flag : (i k : ℕ) → i < k1 → k < k1 → flag i ≡ flag k → i ≡ k
  same_flag i k h l e = mask_same i k (omega (arith, h, few)) (omega (arith, l, few)) (ap (λ (d : Cell). d.name) e)

  -- ---- what a flag holds

  flag_value : (i : ℕ) (t : Store) (b : Bool) → t.bounds (mask_name i) ≡ Some [] → t.held (flag i) ≡ Truth b → value_of (sequential bits) (mask i) t ≡ Ok (Truth b)
  flag_value i t b e f = ap (λ (r : Result Cell Fault). do c ← r; Ok (t.held c)) (place_of (mask_name i) t e) ∙ ap Ok f

  guard_value : (i : ℕ) (s t : Store) (m : Masks) → IsGuard k0 k1 low mid i → Has s t m → value_of (sequential bits) (mask i) t ≡ Ok (Truth (m.guards i))
  guard_value i s t m u h = flag_value i t (m.guards i) (h.scalars i u.0) (h.guards i u)

  jump_value : (j : ℕ) (s t : Store) (m : Masks) → IsJump k0 k1 low mid j → Has s t m → value_of (sequential bits) (mask j) t ≡ Ok (Truth (m.jumps j))
  jump_value j s t m u h = flag_value j t (m.jumps j) (h.scalars j u.0) (h.jumps j u)

  abbrev guard_text : Option ℕ → Option Expression
  guard_text None = None
  guard_text (Some i) = Some (mask i)

  under_holds : (g : Option ℕ) (s t : Store) (m : Masks) → IsUsed k0 k1 low mid g → Has s t m → guard_holds (sequential bits) (guard_text g) t ≡ Ok (holds g m)
  under_holds None s t m u h = refl
  under_holds (Some i) s t m u h = ap (λ (r : Result Value Fault). do v ← r; as_truth v) (guard_value i s t m u h)

  -- ---- names that both stores have

  alike : (ys : List (List ℕ)) (s t : Store) (m : Masks) → NamesOthers ys → Has s t m → AllByRecursion (Alike bits t s) ys
  alike ys s t m o h = each_of (Alike bits t s) ys (λ y i. (h.bounds y (o y i), λ is c e. h.held c (subst IsOther (sym (cell_name (t.bounds y) y is c e).0) (o y i))))

  -- ---- stores after a store

  kept_put : (s t : Store) (m : Masks) (c : Cell) (v : Value) → IsOther c.name → Has s t m → Has (put c v s) (put c v t) m
  kept_put s t m c v o h = record {
    bounds = h.bounds;
    held = λ d n. ap (cond (same_cell c d) v) (h.held d n);
    scalars = h.scalars;
    guards = λ i u. sym (unread c (flag i) v t (λ e. o i (ap (λ (d : Cell). d.name) (sym e)))) ∙ h.guards i u;
    jumps = λ j u. sym (unread c (flag j) v t (λ e. o j (ap (λ (d : Cell). d.name) (sym e)))) ∙ h.jumps j u;
  }

  guard_put : (s t : Store) (m : Masks) (i : ℕ) (b : Bool) → IsNewGuard k0 k1 low mid i → Has s t m → Has s (put (flag i) (Truth b) t) (with_guard i b m)
  guard_put s t m i b new h = record {
    bounds = h.bounds;
    held = λ d n. sym (unread (flag i) d (Truth b) t (λ e. n i (ap (λ (d : Cell). d.name) e))) ∙ h.held d n;
    scalars = h.scalars;
    guards = λ k u. by k u (i == k) refl;
    jumps = λ j u. sym (unread (flag i) (flag j) (Truth b) t (λ e. let same = same_flag i j new.0.1 u.0.1 e in omega (arith, same, new.1, u.1))) ∙ h.jumps j u;
  }
    where
      by : (k : ℕ) → IsGuard k0 k1 low mid k → (c : Bool) → (i == k) ≡ c → (put (flag i) (Truth b) t).held (flag k) ≡ Truth (cond c b (m.guards k))
      by k u true e = subst (λ (q : ℕ). (put (flag i) (Truth b) t).held (flag q) ≡ Truth b) (eqb-true i k e) (put_there (flag i) (Truth b) t)
      by k u false e = sym (unread (flag i) (flag k) (Truth b) t (λ q. true_not_false (i == k) (eq-eqb i k (same_flag i k new.0.1 u.0.1 q)) e)) ∙ h.guards k u

  other_guard : (i j : ℕ) → IsGuard k0 k1 low mid i → IsNewJump k0 k1 low mid j → ¬ (j ≡ i)
  other_guard i j u new e = by u.1
    where
      by : (i < low) ⊎ (mid ≤ i) → ⊥
      by (inl l) = omega (arith, l, new.1.0, e)
      by (inr g) = omega (arith, g, new.1.1, e)

  jump_put : (s t : Store) (m : Masks) (j : ℕ) (b : Bool) → IsNewJump k0 k1 low mid j → Has s t m → Has s (put (flag j) (Truth b) t) (with_jump j b m)
  jump_put s t m j b new h = record {
    bounds = h.bounds;
    held = λ d n. sym (unread (flag j) d (Truth b) t (λ e. n j (ap (λ (d : Cell). d.name) e))) ∙ h.held d n;
    scalars = h.scalars;
    guards = λ i u. sym (unread (flag j) (flag i) (Truth b) t (λ e. other_guard i j u new (same_flag j i new.0.1 u.0.1 e))) ∙ h.guards i u;
    jumps = λ k u. by k u (j == k) refl;
  }
    where
      by : (k : ℕ) → IsJump k0 k1 low mid k → (c : Bool) → (j == k) ≡ c → (put (flag j) (Truth b) t).held (flag k) ≡ Truth (cond c b (m.jumps k))
      by k u true e = subst (λ (q : ℕ). (put (flag j) (Truth b) t).held (flag q) ≡ Truth b) (eqb-true j k e) (put_there (flag j) (Truth b) t)
      by k u false e = sym (unread (flag j) (flag k) (Truth b) t (λ q. true_not_false (j == k) (eq-eqb j k (same_flag j k new.0.1 u.0.1 q)) e)) ∙ h.jumps k u

  -- ---- statements that assign masks

  set_effect : (g : Option Expression) (i : ℕ) (e : Expression) (t : Store) (b : Bool) → guard_holds (sequential bits) g t ≡ Ok true → t.bounds (mask_name i) ≡ Some [] → value_of (sequential bits) e t ≡ Ok (Truth b)
      → effect (sequential bits) (record { guard = g; left = mask_scalar (mask_name i); right = e }) t ≡ Ok (Some (flag i, Truth b))
  set_effect g i e t b f n v =
      ap (λ (r : Result Bool Fault). do c ← r; assigned_if (sequential bits) c (mask_scalar (mask_name i)) e t) f
      ∙ ap₂ (λ (r : Result Value Fault) (q : Result Cell Fault). do v ← r; c ← q; cond (is_in_range bits v) (Ok (Some (c, v))) (Err Overflow)) v (place_of (mask_name i) t n)

  unset_effect : (g : Option Expression) (i : ℕ) (e : Expression) (t : Store) → guard_holds (sequential bits) g t ≡ Ok false
      → effect (sequential bits) (record { guard = g; left = mask_scalar (mask_name i); right = e }) t ≡ Ok None
  unset_effect g i e t f = ap (λ (r : Result Bool Fault). do c ← r; assigned_if (sequential bits) c (mask_scalar (mask_name i)) e t) f

  -- what a list of statements leaves
  pub record Leaving (b : Store) (n : Masks) (t : State) : Type 0 where
    pub way : t.way ≡ Going
    pub has : HasMasks k0 k1 low mid b t.store n

  same_statement : (g : Guarded) (t : State) → does (sequential bits) None (guarded_statement g) t ≡ does (sequential bits) None (order_blocks.guarded_statement g.line None (plain g)) t
  same_statement g t = by g.guard
    where
      by : (o : Option Expression) → does (sequential bits) None (guarded_statement (record { line = g.line; guard = o; left = g.left; right = g.right })) t
          ≡ does (sequential bits) None (order_blocks.guarded_statement g.line None (record { guard = o; left = g.left; right = g.right })) t
      by None = refl
      by (Some e) = refl

  went : (g : Guarded) (t : State) (w : Option (Cell × Value)) → t.way ≡ Going → effect (sequential bits) (plain g) t.store ≡ Ok w → Went t (does (sequential bits) None (guarded_statement g) t) w
  went g t w i e = subst (λ (z : State). Went t z w) (sym (same_statement g t)) (guarded_went bits false g.line None (plain g) t w i e)

  leads_from : (b : Store) (n : Masks) (t u : State) (w : Option (Cell × Value)) → Went t u w → Has b (after w t.store) n → Leaving b n u
  leads_from b n t u w h has = record { way = h.way; has = subst (λ (z : Store). Has b z n) (sym h.store) has }

  abbrev does_list : List Part → State → State
  does_list ps t = does_all (sequential bits) None (block_of_parts line (parts ps)) t

  -- ---- what is asked

  truth_is : (r : Result Value Fault) (b : Bool) → (do v ← r; as_truth v) ≡ Ok b → r ≡ Ok (Truth b)
  truth_is (Ok (Truth c)) b e = ap (λ q. let r : Result Value Fault = Ok (Truth q) in r) (ok_same {F = Fault} c b e)
  truth_is (Ok (Int z)) b e = cc
  truth_is (Err f) b e = cc

  none_left_guard : (ls : List Jumped) (i : ℕ) (b : Bool) (m : Masks) → none_has_left ls (with_guard i b m) ≡ none_has_left ls m
  none_left_guard [] i b m = refl
  none_left_guard (l ∷ ls) i b m = ap (λ c. not (m.jumps l.mask) && c) (none_left_guard ls i b m)

  not_value : (b : Bool) → apply Not (Truth b) (Truth b) ≡ Ok (Truth (not b))
  not_value true = refl
  not_value false = refl

  and_value : (a b : Bool) → apply And (Truth a) (Truth b) ≡ Ok (Truth (a && b))
  and_value true true = refl
  and_value true false = refl
  and_value false true = refl
  and_value false false = refl

  -- ---- the text of a list of jumps says that none has left

  and_assoc : (a b c : Bool) → ((a && b) && c) ≡ (a && (b && c))
  and_assoc true b c = refl
  and_assoc false b c = refl

  both_left : (xs ys : List Jumped) (m : Masks) → none_has_left (xs ++ ys) m ≡ (none_has_left xs m && none_has_left ys m)
  both_left [] ys m = refl
  both_left (x ∷ xs) ys m = ap (λ c. not (m.jumps x.mask) && c) (both_left xs ys m) ∙ sym (and_assoc (not (m.jumps x.mask)) (none_has_left xs m) (none_has_left ys m))

  halves : {X : Type 0} (n : ℕ) (xs : List X) → take n xs ++ drop n xs ≡ xs
  halves zero xs = refl
  halves (suc n) [] = refl
  halves (suc n) (x ∷ xs) = ap (λ ys. x ∷ ys) (halves n xs)

  in_take : {X : Type 0} (n : ℕ) (xs : List X) (x : X) → In x (take n xs) → In x xs
  in_take zero xs x i = absurd i
  in_take (suc n) [] x i = absurd i
  in_take (suc n) (y ∷ xs) x (inl e) = inl e
  in_take (suc n) (y ∷ xs) x (inr i) = inr (in_take n xs x i)

  in_drop : {X : Type 0} (n : ℕ) (xs : List X) (x : X) → In x (drop n xs) → In x xs
  in_drop zero xs x i = i
  in_drop (suc n) [] x i = absurd i
  in_drop (suc n) (y ∷ xs) x i = inr (in_drop n xs x i)

  not_one : (l : Jumped) (s t : Store) (m : Masks) → IsJump k0 k1 low mid l.mask → Has s t m → value_of (sequential bits) (Unary Not (mask l.mask)) t ≡ Ok (Truth (not (m.jumps l.mask)))
  not_one l s t m u h = ap (λ (r : Result Value Fault). do v ← r; apply Not v v) (jump_value l.mask s t m u h) ∙ not_value (m.jumps l.mask)

  and_true : (b : Bool) → b ≡ (b && true)
  and_true true = refl
  and_true false = refl

  -- n is enough
  left_value : (n : ℕ) (ls : List Jumped) (s t : Store) (m : Masks) → length ls ≤ n → Has s t m → ((l : Jumped) → In l ls → IsJump k0 k1 low mid l.mask)
      → value_of (sequential bits) (none_of n ls) t ≡ Ok (Truth (none_has_left ls m))
  left_value zero [] s t m e h u = refl
  left_value zero (l ∷ ls) s t m e h u = absurd (omega (arith, e))
  left_value (suc n) [] s t m e h u = refl
  left_value (suc n) (l ∷ []) s t m e h u = not_one l s t m (u l (inl refl)) h ∙ ap (λ q. let r : Result Value Fault = Ok (Truth q) in r) (and_true (not (m.jumps l.mask)))
  left_value (suc n) (l ∷ k ∷ ls) s t m e h u =
      let all : List Jumped = l ∷ k ∷ ls in
      let two : 2 ≤ length all = omega arith in
      let xs = take (first_half all) all in
      let ys = drop (first_half all) all in
      let a = left_value n xs s t m (front_fits all n two e) h (λ q i. u q (in_take (first_half all) all q i)) in
      let b = left_value n ys s t m (rest_fits all n two e) h (λ q i. u q (in_drop (first_half all) all q i)) in
      ap₂ (λ (r q : Result Value Fault). do v ← r; w ← q; apply And v w) a b
      ∙ and_value (none_has_left xs m) (none_has_left ys m)
      ∙ ap (λ q. let r : Result Value Fault = Ok (Truth q) in r) (sym (both_left xs ys m) ∙ ap (λ qs. none_has_left qs m) (halves (first_half all) all))

  left_is_true : (ls : List Jumped) (s t : Store) (m : Masks) → Has s t m → ((l : Jumped) → In l ls → IsJump k0 k1 low mid l.mask)
      → value_of (sequential bits) (none_left ls) t ≡ Ok (Truth (none_has_left ls m))
  unfolding none_left
  left_is_true ls s t m h u = left_value (length ls) ls s t m (omega arith) h u

  asked_value : (q : Question) (s t : Store) (m : Masks) (b : Bool) → AsksOthers k0 k1 low mid q → Has s t m → answer_to bits q (record { store = s; masks = m }) ≡ Ok b
      → value_of (sequential bits) (asked q) t ≡ Ok (Truth b)
  asked_value (Test e) s t m b o h f = value_alike bits t s e (alike (names_in e) s t m o h) ∙ truth_is (value_of (sequential bits) e s) b f
  asked_value (Other i) s t m b o h f =
      ap (λ (r : Result Value Fault). do v ← r; apply Not v v) (guard_value i s t m o h)
      ∙ (not_value (m.guards i) ∙ ap (λ q. let r : Result Value Fault = Ok (Truth q) in r) (ok_same {F = Fault} (not (m.guards i)) b f))
  asked_value (Unleft ls) s t m b o h f = left_is_true ls s t m h o ∙ ap (λ q. let r : Result Value Fault = Ok (Truth q) in r) (ok_same {F = Fault} (none_has_left ls m) b f)

  -- ---- each of them

  under_is : (g : Option ℕ) (c : Guarded) → c.guard ≡ None → plain (under_mask g c) ≡ record { guard = guard_text g; left = c.left; right = c.right }
  under_is None c e = ap (λ (o : Option Expression). let r : order_guarded.GuardedAssignment = record { guard = o; left = c.left; right = c.right } in r) e
  under_is (Some i) c e = refl

  in_range : (q : Bool) (u z : Store) → ◌≡◌ {A = Result Store Fault} (cond q (Ok u) (Err Overflow)) (Ok z) → (q ≡ true) × (u ≡ z)
  in_range true u z e = (refl, ok_same {F = Fault} u z e)
  in_range false u z e = cc

  kept_leads : (c : Guarded) (g : Option ℕ) (a b : Moment) (t : State) → IsSuited k0 k1 low mid (Kept g c) → kept_if bits (holds g a.masks) c a ≡ Ok b → t.way ≡ Going → Has a.store t.store a.masks
      → Leaving b.store b.masks (does (sequential bits) None (guarded_statement (under_mask g c)) t)
  kept_leads c g a b t suited e w h = by (holds g a.masks) (under_holds g a.store t.store a.masks suited.0 h) e
    where
      ys : List (List ℕ)
      ys = names_in c.right ++ (c.left.name ∷ names_in_subscripts c.left.subscripts)

      alone : order_guarded.GuardedAssignment
      alone = record { guard = None; left = c.left; right = c.right }

      l : order_guarded.GuardedAssignment
      l = record { guard = guard_text g; left = c.left; right = c.right }

      u : State
      u = does (sequential bits) None (guarded_statement (under_mask g c)) t

      at_once : (o : Option (Cell × Value)) → effect (sequential bits) l t.store ≡ Ok o → Went t u o
      at_once o f = went (under_mask g c) t o w (ap (λ (x : order_guarded.GuardedAssignment). effect (sequential bits) x t.store) (under_is g c suited.1) ∙ f)

      by : (q : Bool) → guard_holds (sequential bits) (guard_text g) t.store ≡ Ok q → kept_if bits q c a ≡ Ok b → Leaving b.store b.masks u
      by false f e =
          let same : a ≡ b = ok_same {F = Fault} a b e in
          subst (λ (z : Moment). Leaving z.store z.masks u) same
          (leads_from a.store a.masks t u None (at_once None (ap (λ (r : Result Bool Fault). do q ← r; assigned_if (sequential bits) q c.left c.right t.store) f)) h)
      by true f e =
          let p = both_ok (assigned bits c a.store) (λ s. Ok (record { store = s; masks = a.masks })) b e in
          let v = both_ok (value_of (sequential bits) c.right a.store) (λ v. do d ← cell_named (sequential bits) c.left a.store; cond (is_in_range bits v) (Ok (put d v a.store)) (Err Overflow)) p.0 p.1 in
          let d = both_ok (cell_named (sequential bits) c.left a.store) (λ d. cond (is_in_range bits v.0) (Ok (put d v.0 a.store)) (Err Overflow)) p.0 v.2 in
          let range = in_range (is_in_range bits v.0) (put d.0 v.0 a.store) p.0 d.2 in
          let there : effect (sequential bits) alone a.store ≡ Ok (Some (d.0, v.0)) =
          ap₂ (λ (r : Result Value Fault) (q : Result Cell Fault). do v ← r; c ← q; cond (is_in_range bits v) (Ok (Some (c, v))) (Err Overflow)) v.1 d.1
          ∙ ap (λ q. let r : Result (Option (Cell × Value)) Fault = cond q (Ok (Some (d.0, v.0))) (Err Overflow) in r) range.0 in
          let here' : effect (sequential bits) l t.store ≡ Ok (Some (d.0, v.0)) =
          ap (λ (r : Result Bool Fault). do q ← r; assigned_if (sequential bits) q c.left c.right t.store) f
          ∙ (effect_alike bits t.store a.store alone (alike ys a.store t.store a.masks suited.2 h) ∙ there) in
          let is = both_ok (subscript_values (sequential bits) c.left.subscripts a.store) (λ is. cell_at c.left.name is a.store) d.0 d.1 in
          let name = cell_name (a.store.bounds c.left.name) c.left.name is.0 d.0 is.2 in
          let other = subst IsOther (sym name.0) (suited.2 c.left.name (In-right c.left.name (names_in c.right) (c.left.name ∷ names_in_subscripts c.left.subscripts) (inl refl))) in
          subst (λ (z : Moment). Leaving z.store z.masks u) (ok_same {F = Fault} (record { store = p.0; masks = a.masks }) b p.2)
          (subst (λ (z : Store). Leaving z a.masks u) range.1
          (leads_from (put d.0 v.0 a.store) a.masks t u (Some (d.0, v.0)) (at_once (Some (d.0, v.0)) here') (kept_put a.store t.store a.masks d.0 v.0 other h)))

  answer_kept : (q : Question) (i : ℕ) (c : Bool) (s : Store) (m : Masks) → IsNotAsked k0 k1 low mid i q → answer_to bits q (record { store = s; masks = with_guard i c m }) ≡ answer_to bits q (record { store = s; masks = m })
  answer_kept (Test e) i c s m n = refl
  answer_kept (Other k) i c s m n = ap (λ q. let r : Result Bool Fault = Ok (not (cond q c (m.guards k))) in r) (other_number i k n)
  answer_kept (Unleft ls) i c s m n = ap Ok (none_left_guard ls i c m)

  set_twice : (s t : Store) (m : Masks) (i : ℕ) (b c : Bool) → Has s t (with_guard i b (with_guard i c m)) → Has s t (with_guard i b m)
  set_twice s t m i b c h = record {
    bounds = h.bounds;
    held = h.held;
    scalars = h.scalars;
    guards = λ k u. h.guards k u ∙ ap Truth (by k (i == k));
    jumps = h.jumps;
  }
    where
      by : (k : ℕ) (q : Bool) → cond q b (cond q c (m.guards k)) ≡ cond q b (m.guards k)
      by k true = refl
      by k false = refl

  abbrev setting : Option ℕ → ℕ → Expression → Guarded
  setting g i e = record { line = line; guard = guard_text g; left = mask_scalar (mask_name i); right = e }

  -- the second statement, where the mask was set false
  second_leads : (k i : ℕ) (q : Question) (a b : Moment) (u : State) → IsNewGuard k0 k1 low mid i → AsksOthers k0 k1 low mid q → IsNotAsked k0 k1 low mid i q → u.way ≡ Going → Has a.store u.store (with_guard i false a.masks)
      → (c : Bool) → guard_holds (sequential bits) (Some (mask k)) u.store ≡ Ok c → asked_if bits c i q a ≡ Ok b
      → Leaving b.store b.masks (does (sequential bits) None (guarded_statement (setting (Some k) i (asked q))) u)
  second_leads k i q a b u g o n w h false f e =
      let v = does (sequential bits) None (guarded_statement (setting (Some k) i (asked q))) u in
      subst (λ (z : Moment). Leaving z.store z.masks v) (ok_same {F = Fault} (record { store = a.store; masks = with_guard i false a.masks }) b e)
      (leads_from a.store (with_guard i false a.masks) u v None (went (setting (Some k) i (asked q)) u None w (unset_effect (Some (mask k)) i (asked q) u.store f)) h)
  second_leads k i q a b u g o n w h true f e =
      let v = does (sequential bits) None (guarded_statement (setting (Some k) i (asked q))) u in
      let p = both_ok (answer_to bits q a) (λ c. Ok (record { store = a.store; masks = with_guard i c a.masks })) b e in
      let value = asked_value q a.store u.store (with_guard i false a.masks) p.0 o h (answer_kept q i false a.store a.masks n ∙ p.1) in
      subst (λ (z : Moment). Leaving z.store z.masks v) (ok_same {F = Fault} (record { store = a.store; masks = with_guard i p.0 a.masks }) b p.2)
      (leads_from a.store (with_guard i p.0 a.masks) u v (Some (flag i, Truth p.0))
      (went (setting (Some k) i (asked q)) u (Some (flag i, Truth p.0)) w (set_effect (Some (mask k)) i (asked q) u.store p.0 f (h.scalars i g.0) value))
      (set_twice a.store (put (flag i) (Truth p.0) u.store) a.masks i p.0 false (guard_put a.store u.store (with_guard i false a.masks) i p.0 g h)))

  asks_lead : (g : Option ℕ) (i : ℕ) (q : Question) (a b : Moment) (t : State) → IsSuited k0 k1 low mid (Asks g i q) → asked_if bits (holds g a.masks) i q a ≡ Ok b → t.way ≡ Going → Has a.store t.store a.masks
      → Leaving b.store b.masks (does_list (masked_parts_of line (Asks g i q)) t)
  asks_lead None i q a b t suited e w h =
      let p = both_ok (answer_to bits q a) (λ c. Ok (record { store = a.store; masks = with_guard i c a.masks })) b e in
      let same : record { store = a.store; masks = with_guard i p.0 a.masks } ≡ b = ok_same {F = Fault} (record { store = a.store; masks = with_guard i p.0 a.masks }) b p.2 in
      subst (λ (z : Moment). Leaving z.store z.masks (does_list (masked_parts_of line (Asks None i q)) t)) same
      (leads_from a.store (with_guard i p.0 a.masks) t (does_list (masked_parts_of line (Asks None i q)) t) (Some (flag i, Truth p.0))
      (went (setting None i (asked q)) t (Some (flag i, Truth p.0)) w (set_effect None i (asked q) t.store p.0 refl (h.scalars i suited.1.0) (asked_value q a.store t.store a.masks p.0 suited.2 h p.1)))
      (guard_put a.store t.store a.masks i p.0 suited.1 h))
  asks_lead (Some k) i q a b t suited e w h =
      let m = with_guard i false a.masks in
      let u = does (sequential bits) None (guarded_statement (setting None i (Logic false))) t in
      let l = leads_from a.store m t u (Some (flag i, Truth false)) (went (setting None i (Logic false)) t (Some (flag i, Truth false)) w (set_effect None i (Logic false) t.store false refl (h.scalars i suited.1.0) refl)) (guard_put a.store t.store a.masks i false suited.1 h) in
      let kept : m.guards k ≡ a.masks.guards k = ap (λ q. cond q false (a.masks.guards k)) (other_number i k suited.3) in
      second_leads k i q a b u suited.1 suited.2 suited.4 l.way l.has (a.masks.guards k) (under_holds (Some k) a.store u.store m suited.0 l.has ∙ ap Ok kept) e

  clears_lead : (j : ℕ) (a : Moment) (t : State) → IsNewJump k0 k1 low mid j → t.way ≡ Going → Has a.store t.store a.masks → Leaving a.store (with_jump j false a.masks) (does_list (masked_parts_of line (Clears j)) t)
  clears_lead j a t u w h =
      leads_from a.store (with_jump j false a.masks) t (does_list (masked_parts_of line (Clears j)) t) (Some (flag j, Truth false))
      (went (setting None j (Logic false)) t (Some (flag j, Truth false)) w (set_effect None j (Logic false) t.store false refl (h.scalars j u.0) refl))
      (jump_put a.store t.store a.masks j false u h)

  text_is : (g : Option ℕ) (j : ℕ) (e : Expression) (t : State) → does_list (masked_parts_of line (Leaves g j)) t ≡ does (sequential bits) None (guarded_statement (setting g j (Logic true))) t
  text_is None j e t = refl
  text_is (Some k) j e t = refl

  leaves_lead : (g : Option ℕ) (j : ℕ) (a b : Moment) (t : State) → IsSuited k0 k1 low mid (Leaves g j) → left_if bits (holds g a.masks) j a ≡ Ok b → t.way ≡ Going → Has a.store t.store a.masks
      → Leaving b.store b.masks (does_list (masked_parts_of line (Leaves g j)) t)
  leaves_lead g j a b t suited e w h = subst (λ (z : State). Leaving b.store b.masks z) (sym (text_is g j (Logic true) t)) (by (holds g a.masks) (under_holds g a.store t.store a.masks suited.0 h) e)
    where
      u : State
      u = does (sequential bits) None (guarded_statement (setting g j (Logic true))) t

      by : (q : Bool) → guard_holds (sequential bits) (guard_text g) t.store ≡ Ok q → left_if bits q j a ≡ Ok b → Leaving b.store b.masks u
      by false f e =
          subst (λ (z : Moment). Leaving z.store z.masks u) (ok_same {F = Fault} a b e)
          (leads_from a.store a.masks t u None (went (setting g j (Logic true)) t None w (unset_effect (guard_text g) j (Logic true) t.store f)) h)
      by true f e =
          subst (λ (z : Moment). Leaving z.store z.masks u) (ok_same {F = Fault} (record { store = a.store; masks = with_jump j true a.masks }) b e)
          (leads_from a.store (with_jump j true a.masks) t u (Some (flag j, Truth true))
          (went (setting g j (Logic true)) t (Some (flag j, Truth true)) w (set_effect (guard_text g) j (Logic true) t.store true f (h.scalars j suited.1.0) refl)) (jump_put a.store t.store a.masks j true suited.1 h))

  made_leads : (m : Masking) (a b : Moment) (t : State) → IsSuited k0 k1 low mid m → step bits m a ≡ Ok b → t.way ≡ Going → Has a.store t.store a.masks → Leaving b.store b.masks (does_list (masked_parts_of line m) t)
  made_leads (Kept g c) a b t suited e w h = kept_leads c g a b t suited e w h
  made_leads (Asks g i q) a b t suited e w h = asks_lead g i q a b t suited e w h
  made_leads (Clears j) a b t suited e w h =
      subst (λ (z : Moment). Leaving z.store z.masks (does_list (masked_parts_of line (Clears j)) t)) (ok_same {F = Fault} (record { store = a.store; masks = with_jump j false a.masks }) b e) (clears_lead j a t suited w h)
  made_leads (Leaves g j) a b t suited e w h = leaves_lead g j a b t suited e w h
  made_leads (Turned l ps) a b t suited e w h = absurd suited

  pub all_lead : (ms : List Masking) (a b : Moment) (t : State) → ((m : Masking) → In m ms → IsSuited k0 k1 low mid m) → runs (step bits) ms a ≡ Ok b → t.way ≡ Going → HasMasks k0 k1 low mid a.store t.store a.masks
      → Leaving b.store b.masks (does_all (sequential bits) None (block_of_parts line (parts (all_parts_of line ms))) t)
  all_lead [] a b t suited e w h = subst (λ (z : Moment). Leaving z.store z.masks t) (ok_same {F = Fault} a b e) (record { way = w; has = h })
  all_lead (m ∷ ms) a b t suited e w h =
      subst (λ (z : State). Leaving b.store b.masks z) (sym (does_joined bits line (masked_parts_of line m) (all_parts_of line ms) t))
      (by (step bits m a) refl e (λ c f. made_leads m a c t (suited m (inl refl)) f w h) (λ c u f v k. all_lead ms c b u (λ o i. suited o (inr i)) f v k))
    where
      by : (r : Result Moment Fault) → step bits m a ≡ r → and_then r (runs (step bits) ms) ≡ Ok b → ((c : Moment) → step bits m a ≡ Ok c → Leaving c.store c.masks (does_list (masked_parts_of line m) t))
          → ((c : Moment) (u : State) → runs (step bits) ms c ≡ Ok b → u.way ≡ Going → Has c.store u.store c.masks → Leaving b.store b.masks (does_all (sequential bits) None (block_of_parts line (parts (all_parts_of line ms))) u))
          → Leaving b.store b.masks (does_all (sequential bits) None (block_of_parts line (parts (all_parts_of line ms))) (does_list (masked_parts_of line m) t))
      by (Ok c) f e one more = let l = one c f in more c (does_list (masked_parts_of line m) t) e l.way l.has
      by (Err g) f e one more = cc
