-- Trips that are counted as they are come to.
use Rattle.std.proofs.Common.{◌≡◌, refl, sym, ap, ◌∙◌, subst, ◌⊎◌, inl, inr, ℕ, ◌≤◌, ℤ, List, [], ◌∷◌, ◌++◌, Ok, arith}
use Rattle.nest_order.specs.orders.Lists.{Each, In}
use Rattle.nest_order.specs.runs.Forms.{AreCounted, AreCountedIn, IsCounted}
use Rattle.nest_order.specs.runs.Nests.{RunNest}
use Rattle.nest_order.specs.runs.Stores.{Setting}
use Rattle.interchange_laws.specs.orders.Moves.{chain_of, inner, singles}
use Rattle.interchange_laws.specs.runs.Counted.{AreCountable, HaveNumbers, IsCountable, MovedTripsAreCounted}

-- ---- in the order of the chain, each loop counted where those round it turn

module _ (top : ℕ → ℤ) (turns : ℕ → ℕ) where
  abbrev C : ℕ → Type 0
  C = IsCountable top turns

  abbrev Chain : List ℕ → Type 0
  Chain = AreCountable top turns

  -- without a loop that turns
  without : (over : List ℕ) (l : ℕ) (rest : List ℕ) → 1 ≤ turns l → Chain (over ++ l ∷ rest) → Chain (over ++ rest)
  without [] l rest t h = h.1 t
  without (x ∷ over) l rest t h = (h.0, λ u. without over l rest t (h.1 u))

  -- behind loops that all turn
  behind : (over : List ℕ) (l : ℕ) (rest : List ℕ) → Each (λ x. C x → 1 ≤ turns x) over → Chain (over ++ l ∷ rest) → C l
  behind [] l rest e h = h.0
  behind (x ∷ over) l rest e h = behind over l rest e.1 (h.1 (e.0 h.0))

  at_front : (over : List ℕ) (l : ℕ) (rest : List ℕ) → C l ⊎ (((x : ℕ) × (ys : List ℕ) × (over ≡ x ∷ ys) × (C x → C l)) ⊎ Each (λ x. C x → 1 ≤ turns x) over) → Chain (over ++ l ∷ rest) → C l
  at_front over l rest (inl c) h = c
  at_front over l rest (inr (inl f)) h = f.3 (subst (λ zs. Chain (zs ++ l ∷ rest)) f.2 h).0
  at_front over l rest (inr (inr e)) h = behind over l rest e h

  pub moved : (outer over : List ℕ) (l : ℕ) (rest : List ℕ) → C l ⊎ (((x : ℕ) × (ys : List ℕ) × (over ≡ x ∷ ys) × (C x → C l)) ⊎ Each (λ x. C x → 1 ≤ turns x) over)
      → Chain (outer ++ (over ++ l ∷ rest)) → Chain (outer ++ (l ∷ (over ++ rest)))
  moved [] over l rest may h = (at_front over l rest may h, λ t. without over l rest t h)
  moved (x ∷ outer) over l rest may h = (h.0, λ t. moved outer over l rest may (h.1 t))

-- ---- the chains of nests

module _ (bits : ℕ) (n : RunNest) (w : Setting) (all : List ℕ) (has : HaveNumbers bits n w all) where
  singles_counted : (ss round before : List ℕ) → AreCountedIn bits n w round before (singles ss)
  singles_counted [] round before = tt
  singles_counted (s ∷ ss) round before = (tt, singles_counted ss round before)

  counted_one : (l : ℕ) (round before : List ℕ) → In l all → IsCountable has.top has.turns l → IsCounted bits n w l round before
  counted_one l round before i c = record {
    top = has.top l;
    counts = c ∙ ap Ok (sym (has.same l before i));
    gives = λ s inside at. has.gives l s i inside;
  }

  counted_in : (ls ss round before : List ℕ) → ((x : ℕ) → In x ls → In x all) → AreCountable has.top has.turns ls → AreCountedIn bits n w round before (inner ls ss)
  counted_in [] ss round before i c = singles_counted ss round before
  counted_in (l ∷ ls) ss round before i c = (
    (counted_one l round before (i l (inl refl)) c.0, λ k a b. counted_in ls ss (round ++ l ∷ []) (before ++ k ∷ []) (λ x j. i x (inr j)) (c.1 (let e : n.turns_of w.values l before ≡ has.turns l = has.same l before (i l (inl refl)) in omega arith))),
    tt,
  )

  pub counted : (ls ss : List ℕ) → ((x : ℕ) → In x ls → In x all) → AreCountable has.top has.turns ls → AreCounted bits n w [] [] (chain_of ls ss)
  counted [] ss i c = tt
  counted (l ∷ ls) ss i c = (
    counted_one l [] [] (i l (inl refl)) c.0,
    λ k a b. counted_in ls ss (l ∷ []) (k ∷ []) (λ x j. i x (inr j)) (c.1 (let e : n.turns_of w.values l [] ≡ has.turns l = has.same l [] (i l (inl refl)) in omega arith)),
  )

pub moved_trips_are_counted : MovedTripsAreCounted
moved_trips_are_counted bits n w outer over rest ss l has may old =
    let new = moved has.top has.turns outer over l rest may old in
    (new, counted bits n w (outer ++ (l ∷ (over ++ rest))) has (outer ++ (l ∷ (over ++ rest))) ss (λ x i. i) new)
