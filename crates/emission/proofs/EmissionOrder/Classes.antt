-- The components of a relation of places are classes of recursive emission.
use Rattle.std.proofs.Common.{◌≡◌, refl, sym, ap, subst, inl, inr, ℕ, nat_le, Bool, true, false, cond, List, [], ◌∷◌, slice_index, arith}
use Rattle.std.specs.List.{concat}
use Rattle.components.specs.Emission.{WalkWithin, ReachesWithin, ArePlaces, statements_of_classes}
use Rattle.components.specs.Emission as given
use Rattle.components.specs.Lists as lists
use Rattle.components.specs.Orders.{NoneBack}
use Rattle.components.proofs.Places.{order_has_components}
use Rattle.nest_order.specs.orders.Emission.{Leap, Walk, Leads, NoneFrom, Components}
use Rattle.nest_order.specs.orders.Lists.{In, Each, Pairwise}
use Rattle.nest_order.specs.orders.Nests.{Level, Carried, Independent, Edge, Remains}
use Rattle.emission.specs.emission_order.Components.{OrderIsComponents}

-- ---- the words on lists are the same in both crates

to_in : {X : Type 0} (x : X) (xs : List X) → lists.IsMember x xs → In x xs
to_in x [] i = i
to_in x (y ∷ xs) (inl e) = inl e
to_in x (y ∷ xs) (inr i) = inr (to_in x xs i)

from_in : {X : Type 0} (x : X) (xs : List X) → In x xs → lists.IsMember x xs
from_in x [] i = i
from_in x (y ∷ xs) (inl e) = inl e
from_in x (y ∷ xs) (inr i) = inr (from_in x xs i)

to_each : {X : Type 0} (P Q : X → Type 0) (xs : List X) → ((x : X) → P x → Q x) → lists.Each P xs → Each Q xs
to_each P Q [] f h = tt
to_each P Q (x ∷ xs) f h = (f x h.0, to_each P Q xs f h.1)

from_each : {X : Type 0} (P : X → Type 0) (xs : List X) → Each P xs → lists.Each P xs
from_each P [] h = tt
from_each P (x ∷ xs) h = (h.0, from_each P xs h.1)

to_pairwise : {X : Type 0} (P Q : X → X → Type 0) (xs : List X) → ((x y : X) → P x y → Q x y) → lists.Pairwise P xs → Pairwise Q xs
to_pairwise P Q [] f h = tt
to_pairwise P Q (x ∷ xs) f h = (to_each (P x) (Q x) xs (f x) h.0, to_pairwise P Q xs f h.1)

from_pairwise : {X : Type 0} (P : X → X → Type 0) (xs : List X) → Pairwise P xs → lists.Pairwise P xs
from_pairwise P [] h = tt
from_pairwise P (x ∷ xs) h = (from_each (P x) xs h.0, from_pairwise P xs h.1)

-- ---- the statements that edges lead from and to

remains : ℕ → Level → Bool
remains d (Carried m) = nat_le d m
remains d Independent = true

remains_so : (d : ℕ) (level : Level) → remains d level ≡ true → Remains d level
unfolding remains
remains_so d (Carried m) e = grind arith
remains_so d Independent e = tt

so_remains : (d : ℕ) (level : Level) → Remains d level → remains d level ≡ true
unfolding remains
so_remains d (Carried m) h = grind arith
so_remains d Independent h = refl

module _ (d : ℕ) where
  abbrev leaps_of : List Edge → List (ℕ × ℕ)
  leaps_of [] = []
  leaps_of (e ∷ es) = cond (remains d e.level) ((e.from, e.to) ∷ leaps_of es) (leaps_of es)

  further : (e : Edge) (es : List Edge) (s r : ℕ) → Leap es d s r → Leap (e ∷ es) d s r
  further e es s r h = (h.0, inr h.1, h.2, h.3, h.4)

  leap_of : (es : List Edge) (s r : ℕ) → lists.IsMember (s, r) (leaps_of es) → Leap es d s r
  leap_of [] s r i = absurd i
  leap_of (e ∷ es) s r i = by (remains d e.level) refl i (leap_of es s r)
    where
      by : (b : Bool) → remains d e.level ≡ b → lists.IsMember (s, r) (cond b ((e.from, e.to) ∷ leaps_of es) (leaps_of es)) → (lists.IsMember (s, r) (leaps_of es) → Leap es d s r) → Leap (e ∷ es) d s r
      by true f (inl g) more = (e, inl refl, ap (λ (p : ℕ × ℕ). p.0) (sym g), ap (λ (p : ℕ × ℕ). p.1) (sym g), remains_so d e.level f)
      by true f (inr j) more = further e es s r (more j)
      by false f j more = further e es s r (more j)

  leap_in : (es : List Edge) (e : Edge) → In e es → Remains d e.level → lists.IsMember (e.from, e.to) (leaps_of es)
  leap_in [] e i h = absurd i
  leap_in (f ∷ es) e (inl g) h = subst (λ b. lists.IsMember (e.from, e.to) (cond b ((f.from, f.to) ∷ leaps_of es) (leaps_of es))) (sym (subst (λ (z : Edge). remains d z.level ≡ true) g (so_remains d e.level h)))
      (inl (subst (λ (z : Edge). ◌≡◌ {A = ℕ × ℕ} (e.from, e.to) (z.from, z.to)) g refl))
  leap_in (f ∷ es) e (inr i) h = by (remains d f.level) (leap_in es e i h)
    where
      by : (b : Bool) → lists.IsMember (e.from, e.to) (leaps_of es) → lists.IsMember (e.from, e.to) (cond b ((f.from, f.to) ∷ leaps_of es) (leaps_of es))
      by true j = inr j
      by false j = j

  in_leaps : (es : List Edge) (s r : ℕ) → Leap es d s r → lists.IsMember (s, r) (leaps_of es)
  in_leaps es s r h = subst (λ z. lists.IsMember (s, z) (leaps_of es)) h.3 (subst (λ z. lists.IsMember (z, h.0.to) (leaps_of es)) h.2 (leap_in es h.0 h.1 h.4))

  -- ---- classes

  walk_of : (es : List Edge) (part over : List ℕ) (s r : ℕ) → WalkWithin part (leaps_of es) s over r → Walk es d part s over r
  walk_of es part [] s r h = h
  walk_of es part (q ∷ over) s r h = (leap_of es s q h.0, to_in q part h.1, walk_of es part over q r h.2)

  none_from : (es : List Edge) (earlier later : List ℕ) → NoneBack (leaps_of es) earlier later → NoneFrom es d earlier later
  none_from es earlier later h e i j k rest = h e.from e.to (from_in e.from later j) (from_in e.to earlier k) (leap_in es e i rest)

  classes_of : (es : List Edge) (part : List ℕ) (cs : List (List ℕ)) → given.Components part (leaps_of es) cs → Components es d part cs
  classes_of es part cs h = record {
    same = λ s. ((λ i. to_in s (concat cs) ((h.same s).0 (from_in s part i))), (λ i. to_in s part ((h.same s).1 (from_in s (concat cs) i))));
    once = to_pairwise (λ x y. ¬ (x ≡ y)) (λ x y. ¬ (x ≡ y)) (concat cs) (λ x y f. f) h.once;
    reachable = to_each (λ c. (s r : ℕ) → lists.IsMember s c → lists.IsMember r c → ReachesWithin part (leaps_of es) s r) (λ c. (s r : ℕ) → In s c → In r c → Leads es d part s r) cs
        (λ c f s r i j. (let a = f s r (from_in s c i) (from_in r c j) in (a.0, walk_of es part a.0 s r a.1))) h.reachable;
    filled = to_each (λ c. ¬ (c ≡ [])) (λ c. ¬ (c ≡ [])) cs (λ c f. f) h.filled;
    forward = to_pairwise (NoneBack (leaps_of es)) (NoneFrom es d) cs (none_from es) h.forward;
  }

pub order_is_components : OrderIsComponents
order_is_components edges d part pairs order once are is = classes_of d edges part (statements_of_classes part order)
    (order_has_components part (leaps_of d edges) pairs order (from_pairwise (λ x y. ¬ (x ≡ y)) part once) places is)
  where
    places : ArePlaces part (leaps_of d edges) pairs
    places i j = (
      (λ h. (let a = (are i j).0 h in (a.0, a.1, in_leaps d edges (slice_index part i) (slice_index part j) a.2))),
      (λ h. (are i j).1 (h.0, h.1, leap_of d edges (slice_index part i) (slice_index part j) h.2)),
    )
