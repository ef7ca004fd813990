-- The order of a chain of loops in another order keeps the vectors that stay in order.
use Rattle.std.proofs.Common.{◌≡◌, refl, sym, ap, ◌∙◌, subst, inl, inr, ℕ, zero, suc, ◌<◌, ◌≤◌, List, [], ◌∷◌, length, arith}
use Rattle.nest_order.specs.orders.Lists.{Distinct, In, Pairwise}
use Rattle.nest_order.specs.orders.Graphs.{Any, Arc, Greater, HasLevel, Just, Less, Same, Sign}
use Rattle.nest_order.specs.orders.Nests.{AreInstances, IsInstance, IsNest, Precedes, common}
use Rattle.nest_order.specs.orders.Shapes.{Instance, LessAt, SameUpTo, Within, common_of, instances}
use Rattle.nest_order.proofs.orders.Common.{statement_stands}
use Rattle.nest_order.proofs.orders.Membership.{In-map, Pairwise-map, map-In}
use Rattle.nest_order.proofs.orders.Theorems.{instances_in_sequence}
use Rattle.interchange_laws.specs.orders.Laws.{IsChainArc, IsRectangular, KeepsVectors, MayBeRearranged, RearrangedOrderKeepsVectors, other_order}
use Rattle.interchange_laws.specs.orders.Moves.{chain_of, rearranged, restored, restored_instance, swapped}
use Rattle.interchange_laws.specs.orders.Vectors.{AllSame, DependsByArcs}
use Rattle.interchange_laws.proofs.orders.Chains.{HasLoop, WithinEach, chain_loops, chain_nest, chain_statements, common_all, each_within, stands_in_chain, still_has_loop, within_each, within_length, within_rearranged, within_restored}
use Rattle.interchange_laws.proofs.orders.Moves.{Distinct_rearranged, In_rearranged, Signed, rearranged_length, rearranged_restored, restored_rearranged, signed_all, signed_rearranged}

-- ---- a vector that stays in order asks for no instance before one that comes earlier

not_back : (ds : List Sign) (is js : List ℕ) → HasLevel ds → Signed ds js is → (m : ℕ) → LessAt m is js → ⊥
not_back [] [] [] level h zero less = less
not_back [] [] [] level h (suc m) less = less
not_back [] [] (j ∷ js) level h m less = h
not_back [] (i ∷ is) [] level h m less = h
not_back [] (i ∷ is) (j ∷ js) level h m less = h
not_back (d ∷ ds) is [] level h m less = h
not_back (d ∷ ds) [] (j ∷ js) level h m less = h
not_back (Just Less ∷ ds) (i ∷ is) (j ∷ js) level h zero less = let a : j < i = h.0 in let b : i < j = less in omega arith
not_back (Just Less ∷ ds) (i ∷ is) (j ∷ js) level h (suc m) less = let a : j < i = h.0 in let b : i ≡ j = less.0 in omega arith
not_back (Just Same ∷ ds) (i ∷ is) (j ∷ js) level h zero less = let a : j ≡ i = h.0 in let b : i < j = less in omega arith
not_back (Just Same ∷ ds) (i ∷ is) (j ∷ js) level h (suc m) less = not_back ds is js level h.1 m less.1
not_back (Just Greater ∷ ds) (i ∷ is) (j ∷ js) level h m less = level
not_back (Any ∷ ds) (i ∷ is) (j ∷ js) level h m less = level

-- at the same iterations of all loops only `=` is there
all_same : (c : ℕ) (ds : List Sign) (is js : List ℕ) → length ds ≤ c → HasLevel ds → Signed ds js is → SameUpTo c is js → AllSame ds
all_same c [] is js le level h same = tt
all_same zero (d ∷ ds) is js le level h same = absurd (let a : suc (length ds) ≤ 0 = le in omega arith)
all_same (suc c) (d ∷ ds) is [] le level h same = absurd h
all_same (suc c) (d ∷ ds) [] (j ∷ js) le level h same = absurd h
all_same (suc c) (Just Less ∷ ds) (i ∷ is) (j ∷ js) le level h same = absurd (let a : j < i = h.0 in let b : i ≡ j = same.0 in omega arith)
all_same (suc c) (Just Same ∷ ds) (i ∷ is) (j ∷ js) le level h same = (refl, all_same c ds is js (let a : suc (length ds) ≤ suc c = le in omega arith) level h.1 same.1)
all_same (suc c) (Just Greater ∷ ds) (i ∷ is) (j ∷ js) le level h same = absurd level
all_same (suc c) (Any ∷ ds) (i ∷ is) (j ∷ js) le level h same = absurd level

same_swapped : (p : ℕ) (ds : List Sign) → AllSame (swapped p ds) → AllSame ds
same_swapped zero [] h = h
same_swapped zero (d ∷ []) h = h
same_swapped zero (d ∷ e ∷ ds) h = (h.1.0, (h.0, h.1.1))
same_swapped (suc p) [] h = h
same_swapped (suc p) (d ∷ ds) h = (h.0, same_swapped p ds h.1)

same_rearranged : (ps : List ℕ) (ds : List Sign) → AllSame (rearranged ps ds) → AllSame ds
same_rearranged [] ds h = h
same_rearranged (p ∷ ps) ds h = same_swapped p ds (same_rearranged ps (swapped p ds) h)

-- ---- the order

module _ (loops_of : ℕ → List ℕ) (trip : ℕ → List ℕ → ℕ) (ls ss ps : List ℕ) (turns : ℕ → ℕ) (arcs : List Arc) (has : HasLoop ls)
    (nest : IsNest loops_of (chain_of ls ss)) (rectangular : IsRectangular trip ls turns)
    (are : (a : Arc) → In a arcs → IsChainArc (length ls) a) (may : MayBeRearranged ps arcs) where
  abbrev ms : List ℕ
  ms = rearranged ps ls

  has_too : HasLoop ms
  has_too = still_has_loop ls ms has (rearranged_length ps ls)

  loops_are : (s : ℕ) → In s ss → loops_of s ≡ ls
  loops_are s i =
      let h = statement_stands (chain_of ls ss) s (subst (In s) (sym (chain_statements ls ss has)) i) in
      nest.fits s h.0 h.1 ∙ sym (stands_in_chain ls ss s h.0 has h.1)

  other_nest : IsNest (λ s. ms) (chain_of ms ss)
  other_nest = chain_nest ms ss has_too (Distinct_rearranged ps ls (subst Distinct (chain_loops ls ss has) nest.single))
      (subst (Pairwise (λ s r. s < r)) (chain_statements ls ss has) nest.rising)

  rectangular_too : IsRectangular trip ms turns
  rectangular_too l before i = rectangular l before (In_rearranged l ps ls i)

  sequence : AreInstances (λ s. ms) trip (chain_of ms ss) (instances trip (chain_of ms ss) []) × Pairwise (Precedes (common (λ s. ms))) (instances trip (chain_of ms ss) [])
  sequence = instances_in_sequence (λ s. ms) trip (chain_of ms ss) other_nest

  -- which instances there are
  is_other : (x : Instance) → In x (instances trip (chain_of ms ss) []) → In x.statement ss × WithinEach turns ms x.iterations
  is_other x i =
      let h = (sequence.0.each x).0 i in
      (subst (In x.statement) (chain_statements ms ss has_too) h.0, within_each turns trip [] ms x.iterations rectangular_too h.1)

  other_is : (x : Instance) → In x.statement ss → WithinEach turns ms x.iterations → In x (instances trip (chain_of ms ss) [])
  other_is x i w = (sequence.0.each x).1 (subst (In x.statement) (sym (chain_statements ms ss has_too)) i, each_within turns trip [] ms x.iterations rectangular_too w)

  back_within : (x : Instance) → WithinEach turns ms x.iterations → WithinEach turns ls (restored ps x.iterations)
  back_within x w = subst (λ zs. WithinEach turns zs (restored ps x.iterations)) (restored_rearranged ps ls) (within_restored turns ps ms x.iterations w)

  into : (x : Instance) → In x (other_order trip ps ls ss) → IsInstance loops_of trip (chain_of ls ss) x
  into x i =
      let o = In-map (restored_instance ps) x (instances trip (chain_of ms ss) []) i in
      let h = is_other o.it o.inside in
      subst (IsInstance loops_of trip (chain_of ls ss)) (sym o.is) (
        subst (In o.it.statement) (sym (chain_statements ls ss has)) h.0,
        subst (λ zs. Within trip [] zs (restored ps o.it.iterations)) (sym (loops_are o.it.statement h.0)) (each_within turns trip [] ls (restored ps o.it.iterations) rectangular (back_within o.it h.1)),
      )

  out : (x : Instance) → IsInstance loops_of trip (chain_of ls ss) x → In x (other_order trip ps ls ss)
  out x h =
      let i : In x.statement ss = subst (In x.statement) (chain_statements ls ss has) h.0 in
      let w : WithinEach turns ls x.iterations = within_each turns trip [] ls x.iterations rectangular (subst (λ zs. Within trip [] zs x.iterations) (loops_are x.statement i) h.1) in
      let y : Instance = record { statement = x.statement; iterations = rearranged ps x.iterations } in
      let e : restored_instance ps y ≡ x = ap (λ zs. let z : Instance = record { statement = x.statement; iterations = zs } in z) (restored_rearranged ps x.iterations) in
      subst (λ z. In z (other_order trip ps ls ss)) e (map-In (restored_instance ps) y (instances trip (chain_of ms ss) []) (other_is y i (within_rearranged turns ps ls x.iterations w)))

  rearranged_instance : Instance → Instance
  rearranged_instance x = record { statement = x.statement; iterations = rearranged ps x.iterations }

  there_and_back : (x : Instance) → rearranged_instance (restored_instance ps x) ≡ x
  unfolding rearranged_instance
  there_and_back x = ap (λ zs. let z : Instance = record { statement = x.statement; iterations = zs } in z) (rearranged_restored ps x.iterations)

  once : Distinct (other_order trip ps ls ss)
  once = Pairwise-map (λ x y. ¬ (x ≡ y)) (λ x y. ¬ (x ≡ y)) (restored_instance ps) (instances trip (chain_of ms ss) [])
      (λ x y a b n e. n (sym (there_and_back x) ∙ (ap rearranged_instance e ∙ there_and_back y))) sequence.0.once

  -- an earlier instance depends on no later one
  in_order : (x y : Instance) → In x (instances trip (chain_of ms ss) []) → In y (instances trip (chain_of ms ss) []) → Precedes (common (λ s. ms)) x y
      → ¬ (DependsByArcs arcs (restored_instance ps y) (restored_instance ps x))
  in_order x y i j before h =
      let a : Arc = h.0 in
      let chain = are a h.1 in
      let wx = is_other x i in
      let wy = is_other y j in
      let nx : length (restored ps x.iterations) ≡ length ls = within_length turns ls (restored ps x.iterations) (back_within x wx.1) in
      let ny : length (restored ps y.iterations) ≡ length ls = within_length turns ls (restored ps y.iterations) (back_within y wy.1) in
      let long : length a.signs ≡ length ls = chain.long in
      let signed = signed_all a.signs (restored ps y.iterations) (restored ps x.iterations) (omega arith) (omega arith) h.2.2 in
      let turned = signed_rearranged ps a.signs (restored ps y.iterations) (restored ps x.iterations) signed in
      let there : Signed (rearranged ps a.signs) y.iterations x.iterations =
      subst (λ zs. Signed (rearranged ps a.signs) zs x.iterations) (rearranged_restored ps y.iterations)
      (subst (λ zs. Signed (rearranged ps a.signs) (rearranged ps (restored ps y.iterations)) zs) (rearranged_restored ps x.iterations) turned) in
      by a (may a h.1) there chain.forward (rearranged_length ps a.signs ∙ (long ∙ sym (rearranged_length ps ls))) h.2.0 h.2.1 before
    where
      by : (a : Arc) → HasLevel (rearranged ps a.signs) → Signed (rearranged ps a.signs) y.iterations x.iterations → (AllSame a.signs → a.from.statement < a.to.statement)
          → length (rearranged ps a.signs) ≡ length ms → a.from.statement ≡ y.statement → a.to.statement ≡ x.statement → Precedes (common (λ s. ms)) x y → ⊥
      by a level signed forward long from to (inl h) = not_back (rearranged ps a.signs) x.iterations y.iterations level signed h.0 h.2
      by a level signed forward long from to (inr h) =
          let c : common_of ms ms ≡ length ms = common_all ms in
          let same = same_rearranged ps a.signs (all_same (common_of ms ms) (rearranged ps a.signs) x.iterations y.iterations (omega arith) level signed h.0) in
          let f : a.from.statement < a.to.statement = forward same in
          let g : x.statement < y.statement = h.1 in
          omega arith

  keeps_vectors : KeepsVectors loops_of trip (chain_of ls ss) arcs (other_order trip ps ls ss)
  keeps_vectors = record {
    instances = record { each = λ x. (into x, out x); once = once };
    keeps = Pairwise-map (Precedes (common (λ s. ms))) (λ x y. ¬ (DependsByArcs arcs y x)) (restored_instance ps) (instances trip (chain_of ms ss) []) in_order sequence.1;
  }

pub rearranged_order_keeps_vectors : RearrangedOrderKeepsVectors
rearranged_order_keeps_vectors loops_of trip l ls ss ps turns arcs nest rectangular are may =
    keeps_vectors loops_of trip (l ∷ ls) ss ps turns arcs (record { first = l; rest = ls; is = refl }) nest rectangular are may
