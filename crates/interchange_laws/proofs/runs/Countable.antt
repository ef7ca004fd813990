-- A run that goes on has counted the trips of a chain of loops.
use Rattle.std.proofs.Common.{◌≡◌, refl, sym, ap, ◌∙◌, subst, ◌⊎◌, inl, inr, ℕ, ◌≤◌, ◌^◌, nat_lt, true, ℤ, pos, List, [], ◌∷◌, ◌++◌, Result, Ok, arith, pow_mono}
use Rattle.tree.specs.declared.ops.Fault.{Fault}
use Rattle.tree.specs.declared.ops.Value.TheVariants.{Int}
use Rattle.meaning.specs.Store.{Cell, Store, put}
use Rattle.meaning.specs.Value.{is_in_range, trip_count}
use Rattle.nest_order.specs.orders.Lists.{Distinct, In}
use Rattle.nest_order.specs.orders.Shapes.{loops_of_shape}
use Rattle.nest_order.proofs.orders.Lists.{Each-In, In-append}
use Rattle.nest_order.proofs.orders.Membership.{In-map}
use Rattle.nest_order.specs.runs.Forms.{AreCounted, AreCountedIn, IsCounted}
use Rattle.nest_order.specs.runs.Nests.{AreAt, RunNest}
use Rattle.nest_order.specs.runs.Stores.{HoldsNest, IsNestIn, Setting}
use Rattle.nest_order.proofs.runs.Counting.{statement_counted}
use Rattle.nest_order.proofs.runs.Holding.{variable_inside}
use Rattle.nest_order.proofs.runs.Runs.{nest_lies, outermost}
use Rattle.nest_order.proofs.runs.Variables.{AreAt-more, AreAt-put, Near-same, put_there, var}
use Rattle.interchange_laws.specs.orders.Moves.{inner}
use Rattle.interchange_laws.specs.runs.Counted.{AreCountable, HaveNumbers, IsCountable, RunTripsAreCountable}
use Rattle.interchange_laws.proofs.orders.Chains.{chain_loops}

same_number : (a b : ℤ) → ◌≡◌ {A = Result ℤ Fault} (Ok a) (Ok b) → a ≡ b
same_number a b e = cc

module _ (bits : ℕ) (wide : 31 ≤ bits) (n : RunNest) (w : Setting) (ok : IsNestIn bits n w) (all : List ℕ) (has : HaveNumbers bits n w all) where
  one_in_range : is_in_range bits (Int (pos 1)) ≡ true
  one_in_range =
      let a : 2 ^ 31 ≤ 2 ^ bits = pow_mono wide in
      let b : 2147483648 ≤ 2 ^ bits = a in
      let e : nat_lt 1 (2 ^ bits) ≡ true = grind arith in e

  countable_one : (l : ℕ) (round before : List ℕ) (t : Store) → In l all → IsCounted bits n w l round before → HoldsNest bits n w t → AreAt n round before t → IsCountable has.top has.turns l
  countable_one l round before t i c inside at =
      let e : c.top ≡ has.top l = same_number c.top (has.top l) (sym (c.gives t inside at) ∙ has.gives l t i inside) in
      subst (λ z. trip_count (pos 1) z (pos 1) ≡ Ok (has.turns l)) e (c.counts ∙ ap Ok (has.same l before i))

  countable : (ls ss round before : List ℕ) (t : Store) → HoldsNest bits n w t → AreAt n round before t → ((m : ℕ) → In m ls → In m (loops_of_shape n.shape)) → ((m : ℕ) → In m ls → In m all)
      → ((m k : ℕ) → In m ls → In k round → ¬ (var n m ≡ var n k)) → Distinct ls → AreCountedIn bits n w round before (inner ls ss) → AreCountable has.top has.turns ls
  countable [] ss round before t inside at there known fresh d c = tt
  countable (l ∷ ls) ss round before t inside at there known fresh d c = (
    countable_one l round before t (known l (inl refl)) c.0.0 inside at,
    λ turn.
        let u : Store = put (var n l) (Int (pos 1)) t in
        countable ls ss (round ++ l ∷ []) (before ++ 1 ∷ []) u
        (variable_inside bits n w ok l (there l (inl refl)) (pos 1) t one_in_range inside)
        (AreAt-more n round before l 1 u (AreAt-put n round before (var n l) (Int (pos 1)) t (λ i. (let o = In-map (var n) (var n l) round i in fresh l o.it (inl refl) o.inside o.is)) at) (put_there (var n l) (Int (pos 1)) t))
        (λ m i. there m (inr i)) (λ m i. known m (inr i)) (λ m k i j. later m k i (In-append k round (l ∷ []) j)) d.1
        (c.0.1 1 (omega arith) (subst (λ k. 1 ≤ k) (sym (has.same l before (known l (inl refl)))) turn)),
  )
    where
      later : (m k : ℕ) → In m ls → In k round ⊎ In k (l ∷ []) → ¬ (var n m ≡ var n k)
      later m k i (inl j) f = fresh m k (inr i) j f
      later m k i (inr (inl e)) f =
          Each-In (λ y. ¬ (l ≡ y)) ls d.0 m i
          (sym (ok.text.variables m l (there m (inr i)) (there l (inl refl)) (ap (λ (c : Cell). c.name) (f ∙ ap (var n) e))))
      later m k i (inr (inr none)) f = none

pub run_trips_are_countable : RunTripsAreCountable
run_trips_are_countable bits n w l ls ss y s has wide ok chain inside go =
    let loops_here : loops_of_shape n.shape ≡ l ∷ ls = ap loops_of_shape chain ∙ chain_loops (l ∷ ls) ss (record { first = l; rest = ls; is = refl }) in
    let counted : AreCounted bits n w [] [] n.shape = statement_counted bits n w ok y n.shape [] [] (nest_lies bits n w ok) (outermost bits n w ok) s.store s (Near-same n s.store) tt inside go in
    countable bits wide n w ok (l ∷ ls) has (l ∷ ls) ss [] [] s.store inside tt (λ m i. subst (In m) (sym loops_here) i) (λ m i. i) (λ m k i j. absurd j)
    (subst Distinct loops_here ok.text.nest.single) (subst (AreCounted bits n w [] []) chain counted, tt)
