-- What holds at a point of a block, and what the statements under masks leave as it was.
use Rattle.std.proofs.Common.{◌≡◌, refl, sym, ap, subst, ◌∙◌, ◌⊎◌, inl, inr, ℕ, zero, suc, ◌+◌, ◌<◌, ◌≤◌, ◌==◌, cond, Bool, true, false, not, ◌&&◌}
use Rattle.std.proofs.Common.{List, [], ◌∷◌, ◌++◌, filter, Option, Some, None, Ok, arith}
use Rattle.meaning.specs.Store.{Store}
use Rattle.meaning.specs.Run.{State, Way, Going, Jumping, Stopped, Failed, Cut}
use Rattle.nest_order.specs.orders.Lists.{In}
use Rattle.nest_order.specs.orders.Orders.{runs}
use Rattle.if_convert.specs.declared.points.Jumped.{Jumped}
use Rattle.prepared_passes.proofs.ConvertedNests.Moments.{Masks, holds, none_has_left, step, with_guard, with_jump}
use Rattle.if_convert.specs.Points.{Converted, cleared, numbered_jumps}
use Rattle.if_convert.specs.declared.points.MaskPoint.{MaskPoint}
use Rattle.nest_order.proofs.orders.Lists.{In-append, In-left, In-right}
use Rattle.prepared_passes.proofs.ConvertedNests.Ways.{is_going, is_away, IsFine, jumps_same}

same_number : (n : ℕ) → (n == n) ≡ true
same_number n = grind arith

other_number : (n m : ℕ) → ¬ (n ≡ m) → (n == m) ≡ false
other_number n m h = grind arith

abbrev pub Below : Option ℕ → ℕ → Type 0
Below None n = Unit {0}
Below (Some i) n = i < n

pub below_more : (g : Option ℕ) (n m : ℕ) → n ≤ m → Below g n → Below g m
below_more None n m h b = tt
below_more (Some i) n m h b = omega (arith, h, b)

-- ---- masks

pub guard_new : (i : ℕ) (b : Bool) (m : Masks) → (with_guard i b m).guards i ≡ b
guard_new i b m = ap (λ c. cond c b (m.guards i)) (same_number i)

pub guard_kept : (i k : ℕ) (b : Bool) (m : Masks) → k < i → (with_guard i b m).guards k ≡ m.guards k
guard_kept i k b m h = ap (λ c. cond c b (m.guards k)) (other_number i k (λ e. omega (arith, h, e)))

pub jump_new : (j : ℕ) (b : Bool) (m : Masks) → (with_jump j b m).jumps j ≡ b
jump_new j b m = ap (λ c. cond c b (m.jumps j)) (same_number j)

pub jump_kept : (j k : ℕ) (b : Bool) (m : Masks) → ¬ (j ≡ k) → (with_jump j b m).jumps k ≡ m.jumps k
jump_kept j k b m h = ap (λ c. cond c b (m.jumps k)) (other_number j k h)

-- ---- what stays as it was: the masks with lesser numbers than those that are next, and jumps' masks with greater ones

pub record Framed (j k j' k' : ℕ) (m n : Masks) : Type 0 where
  pub jumps_rise : j ≤ j'
  pub guards_rise : k ≤ k'
  pub guards : (i : ℕ) → i < k → n.guards i ≡ m.guards i
  pub below : (i : ℕ) → i < j → n.jumps i ≡ m.jumps i
  pub above : (i : ℕ) → j' ≤ i → n.jumps i ≡ m.jumps i

pub framed_none : (j k : ℕ) (m : Masks) → Framed j k j k m m
framed_none j k m = record { jumps_rise = omega arith; guards_rise = omega arith; guards = λ i h. refl; below = λ i h. refl; above = λ i h. refl }

pub framed_both : (j k j' k' j'' k'' : ℕ) (m n o : Masks) → Framed j k j' k' m n → Framed j' k' j'' k'' n o → Framed j k j'' k'' m o
framed_both j k j' k' j'' k'' m n o f g =
    let a = f.jumps_rise in let b = g.jumps_rise in let c = f.guards_rise in let d = g.guards_rise in
    record {
      jumps_rise = omega (arith, a, b);
      guards_rise = omega (arith, c, d);
      guards = λ i h. g.guards i (omega (arith, h, c)) ∙ f.guards i h;
      below = λ i h. g.below i (omega (arith, h, a)) ∙ f.below i h;
      above = λ i h. g.above i h ∙ f.above i (omega (arith, h, b));
    }

pub framed_guard : (j k : ℕ) (b : Bool) (m : Masks) → Framed j k j (suc k) m (with_guard k b m)
framed_guard j k b m = record { jumps_rise = omega arith; guards_rise = omega arith; guards = λ i h. guard_kept k i b m h; below = λ i h. refl; above = λ i h. refl }

pub framed_jump : (j k : ℕ) (b : Bool) (m : Masks) → Framed j k (suc j) k m (with_jump j b m)
framed_jump j k b m = record {
  jumps_rise = omega arith;
  guards_rise = omega arith;
  guards = λ i h. refl;
  below = λ i h. jump_kept j i b m (λ e. omega (arith, h, e));
  above = λ i h. jump_kept j i b m (λ e. omega (arith, h, e));
}

pub framed_step : (j k : ℕ) (m : Masks) → Framed j k (suc j) k m m
framed_step j k m = record { jumps_rise = omega arith; guards_rise = omega arith; guards = λ i h. refl; below = λ i h. refl; above = λ i h. refl }

pub framed_skip : (j k : ℕ) (m : Masks) → Framed j k j (suc k) m m
framed_skip j k m = record { jumps_rise = omega arith; guards_rise = omega arith; guards = λ i h. refl; below = λ i h. refl; above = λ i h. refl }

pub holds_kept : (g : Option ℕ) (j k j' k' : ℕ) (m n : Masks) → Below g k → Framed j k j' k' m n → holds g n ≡ holds g m
holds_kept None j k j' k' m n b f = refl
holds_kept (Some i) j k j' k' m n b f = f.guards i b

-- ---- what the masks of jumps say of the way of a block's run

pub record JumpsAre (ls : List Jumped) (j : ℕ) (w : Way) (m : Masks) : Type 0 where
  pub only : (l : Jumped) → In l ls → m.jumps l.mask ≡ true → w ≡ Jumping l.label
  pub some : (k : ℕ) → w ≡ Jumping k → (l : Jumped) × In l ls × (l.label ≡ k) × (m.jumps l.mask ≡ true)
  pub below : (l : Jumped) → In l ls → l.mask < j

pub record Stands (own : Option ℕ) (p : MaskPoint) (w : Way) (m : Masks) : Type 0 where
  pub block : holds own m ≡ not (is_away w)
  pub guard : p.skips ≡ false → holds p.guard m ≡ is_going w
  pub skips : p.skips ≡ true → is_going w ≡ false
  pub jumps : JumpsAre p.pending p.jump w m
  pub own_below : Below own p.mask
  pub guard_below : Below p.guard p.mask

-- what statements under masks do beside the run of what they were made from
pub record Follows (bits : ℕ) (own : Option ℕ) (c : Converted) (j k : ℕ) (t : Store) (u : State) (m : Masks) : Type 0 where
  pub masks : Masks
  pub runs_to : runs (step bits) c.made (record { store = t; masks = m }) ≡ Ok (record { store = u.store; masks = masks })
  pub stands : Stands own c.point u.way masks
  pub framed : Framed j k c.point.jump c.point.mask m masks

-- jumps that are still to come are not under way
abbrev pub AreClear : Bool → ℕ → ℕ → Masks → Type 0
AreClear deep j j' m = deep ≡ true → (i : ℕ) → j ≤ i → i < j' → m.jumps i ≡ false

-- ---- clearing

pub record Clear (j n k : ℕ) (t : Store) (m : Masks) (bits : ℕ) : Type 0 where
  pub masks : Masks
  pub runs_to : runs (step bits) (cleared j n) (record { store = t; masks = m }) ≡ Ok (record { store = t; masks = masks })
  pub framed : Framed j k (j + n) k m masks
  pub clear : (i : ℕ) → j ≤ i → i < j + n → masks.jumps i ≡ false

equal_or_more : (j i : ℕ) → j ≤ i → (i ≡ j) ⊎ (suc j ≤ i)
equal_or_more zero zero h = inl refl
equal_or_more zero (suc i) h = inr (omega arith)
equal_or_more (suc j) zero h = absurd (omega (arith, h))
equal_or_more (suc j) (suc i) h = by (equal_or_more j i (omega (arith, h)))
  where
    by : (i ≡ j) ⊎ (suc j ≤ i) → (suc i ≡ suc j) ⊎ (suc (suc j) ≤ suc i)
    by (inl e) = inl (ap suc e)
    by (inr l) = inr (omega (arith, l))

pub clears : (bits j n k : ℕ) (t : Store) (m : Masks) → Clear j n k t m bits
clears bits j zero k t m = record {
  masks = m;
  runs_to = refl;
  framed = record { jumps_rise = omega arith; guards_rise = omega arith; guards = λ i h. refl; below = λ i h. refl; above = λ i h. refl };
  clear = λ i a b. absurd (omega (arith, a, b));
}
clears bits j (suc n) k t m =
    let more = clears bits (suc j) n k t (with_jump j false m) in
    let f = more.framed in
    record {
      masks = more.masks;
      runs_to = more.runs_to;
      framed = record {
        jumps_rise = omega arith;
        guards_rise = omega arith;
        guards = λ i h. f.guards i h;
        below = λ i h. f.below i (omega (arith, h)) ∙ jump_kept j i false m (λ e. omega (arith, h, e));
        above = λ i h. f.above i (omega (arith, h)) ∙ jump_kept j i false m (λ e. omega (arith, h, e));
      };
      clear = λ i a b. at more.masks f.below more.clear i b (equal_or_more j i a);
    }
  where
    at : (o : Masks) → ((i : ℕ) → i < suc j → o.jumps i ≡ (with_jump j false m).jumps i) → ((i : ℕ) → suc j ≤ i → i < suc j + n → o.jumps i ≡ false)
        → (i : ℕ) → i < j + suc n → (i ≡ j) ⊎ (suc j ≤ i) → o.jumps i ≡ false
    at o below clear i b (inl e) = ap o.jumps e ∙ (below j (omega arith) ∙ jump_new j false m)
    at o below clear i b (inr l) = clear i l (omega (arith, b))

-- ---- jumps

pub none_jumps : (j : ℕ) (w : Way) (m : Masks) → ((k : ℕ) → w ≡ Jumping k → ⊥) → JumpsAre [] j w m
none_jumps j w m h = record { only = λ l i e. absurd i; some = λ k e. absurd (h k e); below = λ l i. absurd i }

pub going_or_jump : (w : Way) (k : ℕ) → w ≡ Going → w ≡ Jumping k → ⊥
going_or_jump w k e f = let same : ◌≡◌ {A = Way} Going (Jumping k) = sym e ∙ f in cc

pub true_not_false : (b : Bool) → b ≡ true → b ≡ false → ⊥
true_not_false b e f = let same : true ≡ false = sym e ∙ f in cc

abbrev pub next_jump : ℕ → ℕ → Jumped
next_jump j k = record { mask = j; label = k }

-- one more is under way
pub jump_added : (ls : List Jumped) (j k : ℕ) (w v : Way) (m n : Masks) → JumpsAre ls j w m → ((i : ℕ) → i < j → n.jumps i ≡ m.jumps i) → w ≡ Going → v ≡ Jumping k → n.jumps j ≡ true
    → JumpsAre (ls ++ next_jump j k ∷ []) (suc j) v n
jump_added ls j k w v m n h same e f new = record {
  only = λ l i on. only l on (In-append l ls (next_jump j k ∷ []) i);
  some = λ q g. (next_jump j k, In-right (next_jump j k) ls (next_jump j k ∷ []) (inl refl), jumps_same k q (sym f ∙ g), new);
  below = λ l i. below l (In-append l ls (next_jump j k ∷ []) i);
}
  where
    only : (l : Jumped) → n.jumps l.mask ≡ true → In l ls ⊎ In l (next_jump j k ∷ []) → v ≡ Jumping l.label
    only l on (inl i) = absurd (going_or_jump w l.label e (h.only l i (sym (same l.mask (h.below l i)) ∙ on)))
    only l on (inr (inl is)) = f ∙ ap (λ (z : Jumped). Jumping z.label) (sym is)
    only l on (inr (inr never)) = absurd never

    below : (l : Jumped) → In l ls ⊎ In l (next_jump j k ∷ []) → l.mask < suc j
    below l (inl i) = let b = h.below l i in omega (arith, b)
    below l (inr (inl is)) = let b = ap (λ (z : Jumped). z.mask) is in omega (arith, b)
    below l (inr (inr never)) = absurd never

-- one more that isn't
pub jump_unadded : (ls : List Jumped) (j k : ℕ) (w : Way) (m n : Masks) → JumpsAre ls j w m → ((i : ℕ) → i < j → n.jumps i ≡ m.jumps i) → n.jumps j ≡ false
    → JumpsAre (ls ++ next_jump j k ∷ []) (suc j) w n
jump_unadded ls j k w m n h same new = record {
  only = λ l i on. only l on (In-append l ls (next_jump j k ∷ []) i);
  some = λ q g. some q (h.some q g);
  below = λ l i. below l (In-append l ls (next_jump j k ∷ []) i);
}
  where
    only : (l : Jumped) → n.jumps l.mask ≡ true → In l ls ⊎ In l (next_jump j k ∷ []) → w ≡ Jumping l.label
    only l on (inl i) = h.only l i (sym (same l.mask (h.below l i)) ∙ on)
    only l on (inr (inl is)) = absurd (true_not_false (n.jumps l.mask) on (ap (λ (z : Jumped). n.jumps z.mask) is ∙ new))
    only l on (inr (inr never)) = absurd never

    some : (q : ℕ) → ((l : Jumped) × In l ls × (l.label ≡ q) × (m.jumps l.mask ≡ true)) → (l : Jumped) × In l (ls ++ next_jump j k ∷ []) × (l.label ≡ q) × (n.jumps l.mask ≡ true)
    some q (l, i, e, on) = (l, In-left l ls (next_jump j k ∷ []) i, e, same l.mask (h.below l i) ∙ on)

    below : (l : Jumped) → In l ls ⊎ In l (next_jump j k ∷ []) → l.mask < suc j
    below l (inl i) = let b = h.below l i in omega (arith, b)
    below l (inr (inl is)) = let b = ap (λ (z : Jumped). z.mask) is in omega (arith, b)
    below l (inr (inr never)) = absurd never

-- the same masks of jumps
pub jumps_kept : (ls : List Jumped) (j j' : ℕ) (w : Way) (m n : Masks) → JumpsAre ls j w m → j ≤ j' → ((i : ℕ) → i < j → n.jumps i ≡ m.jumps i) → JumpsAre ls j' w n
jumps_kept ls j j' w m n h more same = record {
  only = λ l i on. h.only l i (sym (same l.mask (h.below l i)) ∙ on);
  some = λ q g. some q (h.some q g);
  below = λ l i. (let b = h.below l i in omega (arith, b, more));
}
  where
    some : (q : ℕ) → ((l : Jumped) × In l ls × (l.label ≡ q) × (m.jumps l.mask ≡ true)) → (l : Jumped) × In l ls × (l.label ≡ q) × (n.jumps l.mask ≡ true)
    some q (l, i, e, on) = (l, i, e, same l.mask (h.below l i) ∙ on)

-- those of two blocks of which the run is in the first one, or in the second one
pub first_jumps : (ls os : List Jumped) (j : ℕ) (w v : Way) (m : Masks) → JumpsAre ls j w m → JumpsAre os j v m → ((k : ℕ) → v ≡ Jumping k → ⊥) → JumpsAre (ls ++ os) j w m
first_jumps ls os j w v m h g never = record {
  only = λ l i on. only l on (In-append l ls os i);
  some = λ q e. some q (h.some q e);
  below = λ l i. below l (In-append l ls os i);
}
  where
    only : (l : Jumped) → m.jumps l.mask ≡ true → In l ls ⊎ In l os → w ≡ Jumping l.label
    only l on (inl i) = h.only l i on
    only l on (inr i) = absurd (never l.label (g.only l i on))

    some : (q : ℕ) → ((l : Jumped) × In l ls × (l.label ≡ q) × (m.jumps l.mask ≡ true)) → (l : Jumped) × In l (ls ++ os) × (l.label ≡ q) × (m.jumps l.mask ≡ true)
    some q (l, i, e, on) = (l, In-left l ls os i, e, on)

    below : (l : Jumped) → In l ls ⊎ In l os → l.mask < j
    below l (inl i) = h.below l i
    below l (inr i) = g.below l i

pub second_jumps : (ls os : List Jumped) (j : ℕ) (w v : Way) (m : Masks) → JumpsAre ls j w m → JumpsAre os j v m → ((k : ℕ) → w ≡ Jumping k → ⊥) → JumpsAre (ls ++ os) j v m
second_jumps ls os j w v m h g never = record {
  only = λ l i on. only l on (In-append l ls os i);
  some = λ q e. some q (g.some q e);
  below = λ l i. below l (In-append l ls os i);
}
  where
    only : (l : Jumped) → m.jumps l.mask ≡ true → In l ls ⊎ In l os → v ≡ Jumping l.label
    only l on (inl i) = absurd (never l.label (h.only l i on))
    only l on (inr i) = g.only l i on

    some : (q : ℕ) → ((l : Jumped) × In l os × (l.label ≡ q) × (m.jumps l.mask ≡ true)) → (l : Jumped) × In l (ls ++ os) × (l.label ≡ q) × (m.jumps l.mask ≡ true)
    some q (l, i, e, on) = (l, In-right l ls os i, e, on)

    below : (l : Jumped) → In l ls ⊎ In l os → l.mask < j
    below l (inl i) = h.below l i
    below l (inr i) = g.below l i

-- ---- none is under way

none_true : (ls : List Jumped) (m : Masks) → ((l : Jumped) → In l ls → m.jumps l.mask ≡ true → ⊥) → none_has_left ls m ≡ true
none_true [] m h = refl
none_true (l ∷ ls) m h = by (m.jumps l.mask) refl (none_true ls m (λ o i. h o (inr i)))
  where
    by : (b : Bool) → m.jumps l.mask ≡ b → none_has_left ls m ≡ true → (not b && none_has_left ls m) ≡ true
    by true e more = absurd (h l (inl refl) e)
    by false e more = more

none_false : (ls : List Jumped) (m : Masks) (l : Jumped) → In l ls → m.jumps l.mask ≡ true → none_has_left ls m ≡ false
none_false [] m l i e = absurd i
none_false (o ∷ ls) m l (inl i) e = ap (λ b. not b && none_has_left ls m) (ap (λ (z : Jumped). m.jumps z.mask) (sym i) ∙ e)
none_false (o ∷ ls) m l (inr i) e = by (m.jumps o.mask) (none_false ls m l i e)
  where
    by : (b : Bool) → none_has_left ls m ≡ false → (not b && none_has_left ls m) ≡ false
    by true more = refl
    by false more = more

pub none_is_going : (ls : List Jumped) (j : ℕ) (w : Way) (m : Masks) → IsFine w → JumpsAre ls j w m → (not (is_away w) && none_has_left ls m) ≡ is_going w
none_is_going ls j Going m f h = none_true ls m (λ l i e. going_or_jump Going l.label refl (h.only l i e))
none_is_going ls j (Jumping k) m f h = let (l, i, e, on) = h.some k refl in none_false ls m l i on
none_is_going ls j Stopped m f h = refl
none_is_going ls j (Failed x line) m f h = absurd f
none_is_going ls j Cut m f h = absurd f

-- where no jump is left it goes on or is away
pub without_jumps : (j : ℕ) (w : Way) (m : Masks) → IsFine w → JumpsAre [] j w m → not (is_away w) ≡ is_going w
without_jumps j Going m f h = refl
without_jumps j (Jumping k) m f h = let (l, i, e, on) = h.some k refl in absurd i
without_jumps j Stopped m f h = refl
without_jumps j (Failed x line) m f h = absurd f
without_jumps j Cut m f h = absurd f

-- ---- one step after another

pub framed_same : (j k j' k' : ℕ) (m n o : Masks) → Framed j k j' k' m n → Framed j k j' k' n o → Framed j k j' k' m o
framed_same j k j' k' m n o f g = record {
  jumps_rise = f.jumps_rise;
  guards_rise = f.guards_rise;
  guards = λ i h. g.guards i h ∙ f.guards i h;
  below = λ i h. g.below i h ∙ f.below i h;
  above = λ i h. g.above i h ∙ f.above i h;
}

pub framed_then : (j k j' k' : ℕ) (m n o : Masks) → Framed j k j' k m n → Framed j k j' k' n o → Framed j k j' k' m o
framed_then j k j' k' m n o f g = record {
  jumps_rise = f.jumps_rise;
  guards_rise = g.guards_rise;
  guards = λ i h. g.guards i h ∙ f.guards i h;
  below = λ i h. g.below i h ∙ f.below i h;
  above = λ i h. g.above i h ∙ f.above i h;
}

-- ---- members that are left

pub in_filter : {X : Type 0} (f : X → Bool) (xs : List X) (x : X) → In x (filter f xs) → In x xs × (f x ≡ true)
in_filter {X} f [] x i = absurd i
in_filter {X} f (y ∷ xs) x i = by (f y) refl (in_filter f xs x) i
  where
    by : (b : Bool) → f y ≡ b → (In x (filter f xs) → In x xs × (f x ≡ true)) → In x (cond b (y ∷ filter f xs) (filter f xs)) → In x (y ∷ xs) × (f x ≡ true)
    by true e more (inl s) = (inl s, ap f s ∙ e)
    by true e more (inr i) = let (k, g) = more i in (inr k, g)
    by false e more i = let (k, g) = more i in (inr k, g)

pub filter_in : {X : Type 0} (f : X → Bool) (xs : List X) (x : X) → In x xs → f x ≡ true → In x (filter f xs)
filter_in f [] x i g = absurd i
filter_in {X} f (y ∷ xs) x (inl s) g = subst (λ b. In x (cond b (y ∷ filter f xs) (filter f xs))) (sym (ap f (sym s) ∙ g)) (inl s)
filter_in {X} f (y ∷ xs) x (inr i) g = by (f y) (filter_in f xs x i g)
  where
    by : (b : Bool) → In x (filter f xs) → In x (cond b (y ∷ filter f xs) (filter f xs))
    by true h = inr h
    by false h = h

-- ---- numbers for jumps that aren't in an IF

-- there jumps have lesser numbers than the next mask
abbrev pub IsOrdered : Bool → MaskPoint → Type 0
IsOrdered true p = Unit {0}
IsOrdered false p = p.jump ≤ p.mask

pub numbered_framed : (deep : Bool) (n : ℕ) (p : MaskPoint) (m : Masks) → IsOrdered deep p → Framed p.jump p.mask (numbered_jumps deep n p).jump (numbered_jumps deep n p).mask m m
numbered_framed true n p m h = framed_none p.jump p.mask m
numbered_framed false n p m h = record { jumps_rise = h; guards_rise = omega arith; guards = λ i g. refl; below = λ i g. refl; above = λ i g. refl }

pub numbered_stands : (deep : Bool) (n : ℕ) (own : Option ℕ) (p : MaskPoint) (w : Way) (m : Masks) → IsOrdered deep p → Stands own p w m → Stands own (numbered_jumps deep n p) w m
numbered_stands true n own p w m o h = h
numbered_stands false n own p w m o h = record {
  block = h.block;
  guard = h.guard;
  skips = h.skips;
  jumps = jumps_kept p.pending p.jump p.mask w m m h.jumps o (λ i g. refl);
  own_below = below_more own p.mask (p.mask + n) (omega arith) h.own_below;
  guard_below = below_more p.guard p.mask (p.mask + n) (omega arith) h.guard_below;
}

-- what follows from there follows from before
pub follows_numbered : (bits : ℕ) (deep : Bool) (n : ℕ) (own : Option ℕ) (p : MaskPoint) (c : Converted) (t : Store) (u : State) (m : Masks) → IsOrdered deep p
    → Follows bits own c (numbered_jumps deep n p).jump (numbered_jumps deep n p).mask t u m → Follows bits own c p.jump p.mask t u m
follows_numbered bits deep n own p c t u m o f = record {
  masks = f.masks;
  runs_to = f.runs_to;
  stands = f.stands;
  framed = framed_both p.jump p.mask (numbered_jumps deep n p).jump (numbered_jumps deep n p).mask c.point.jump c.point.mask m m f.masks (numbered_framed deep n p m o) f.framed;
}
