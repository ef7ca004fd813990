-- What parts of the walk do to what is left to do.
use Rattle.std.proofs.Common.{◌≡◌, refl, sym, ap, ◌∙◌, subst, ◌⊎◌, inl, inr, ℕ, ◌+◌, ◌<◌, ◌≤◌, List, [], ◌∷◌, ◌++◌, length, set, take, arith, get_or-set_same, get_or-set_other}
use Rattle.std.proofs.lemmas.Bool.{cases_eq}
use Rattle.std.proofs.lemmas.List.{length_push, length-append, length-take-le, take_more, same_from_push}
use Rattle.components.specs.Lists.{IsMember, Pairwise}
use Rattle.components.proofs.ListLaws.{In-append, In-left, In-right}
use Rattle.components.specs.declared.walk.NodeState.{NodeState}
use Rattle.components.specs.declared.walk.NodeState.TheVariants.{New, At, Done}
use Rattle.components.specs.Targets.{AreInside, row, leads}
use Rattle.components.specs.Labels.{at}
use Rattle.components.specs.Walking.{cost, mark, weight, without_last, DropsAfter, IsClosed, IsWalk}
use Rattle.components.proofs.Closing.{closed_walk}
use Rattle.components.proofs.Entering.{anywhere, entered_walk}
use Rattle.components.proofs.Joining.{all_before, joined_walk, passed_walk}
use Rattle.components.proofs.Lists.{rising_front}
use Rattle.components.proofs.Popping.{popped}
use Rattle.components.proofs.Leads.{leads-In, In-leads}
use Rattle.components.proofs.Weights.{new_at, new_done, which, weight_set}

abbrev pub IsState : List (List ℕ) → List ℕ → List NodeState → List ℕ → List ℕ → List (ℕ × ℕ) → ℕ → Type 0
IsState rows more marks path work starts count =
    IsWalk (length rows) (leads rows) more marks path work starts count × (weight (λ v. 1) marks + length path + count ≤ length rows)

pub record IsPart (rows : List (List ℕ)) (marks : List NodeState) (most : ℕ) (new : List NodeState) (path work : List ℕ) (starts : List (ℕ × ℕ)) (count : ℕ) : Type 0 where
  pub is : IsState rows [] new path work starts count
  pub keeps : (v : ℕ) → mark new v ≡ New → mark marks v ≡ New
  pub less : weight (cost rows) new + length work + length starts ≤ most

-- ---- a number comes to the path

module _ (rows : List (List ℕ)) (v : ℕ) (marks : List NodeState) (path work : List ℕ) (starts : List (ℕ × ℕ)) (count : ℕ)
    (w : IsState rows (v ∷ []) marks path work starts count) (is : mark marks v ≡ New) (below : v < length rows) where
  abbrev entered_marks : List NodeState
  entered_marks = set marks v (At (length path))

  in_marks : v < length marks
  in_marks = subst (λ z. v < z) (sym w.0.size) below

  entered_here : IsPart rows marks (weight (cost rows) marks + length work + length starts)
      entered_marks (path ++ v ∷ []) (work ++ row rows v) (starts ++ (length path, length work) ∷ []) count
  entered_here = record {
    is = (
      entered_walk (length rows) (leads rows) marks path work v starts count (row rows v) w.0 is below (λ b. (In-leads rows v b, leads-In rows v b)),
      let a = weight_set (λ v. 1) marks v (At (length path)) in_marks is (λ e. new_at (length path) (sym e)) in
          let b = length_push path v in
          let d = w.1 in
          omega arith,
    );
    keeps = λ u e. by u e (cases_eq u v);
    less =
        let a = weight_set (cost rows) marks v (At (length path)) in_marks is (λ e. new_at (length path) (sym e)) in
        let b = length-append work (row rows v) in
        let d = length_push starts (length path, length work) in
        omega arith;
  }
    where
      by : (u : ℕ) → mark entered_marks u ≡ New → (u ≡ v) ⊎ (u ≡ v → ⊥) → mark marks u ≡ New
      by u e (inl f) = ap (mark marks) f ∙ is
      by u e (inr f) = sym (get_or-set_other marks v u (At (length path)) New f) ∙ e

  pub entered_met : (new : List NodeState) → new ≡ entered_marks → mark new v ≡ New → ⊥
  entered_met new m e = new_at (length path) (sym e ∙ (ap (λ z. mark z v) m ∙ get_or-set_same marks v (At (length path)) New in_marks))

  pub entered : (new : List NodeState) (path' work' : List ℕ) (starts' : List (ℕ × ℕ))
      → new ≡ entered_marks → path' ≡ path ++ v ∷ [] → work' ≡ work ++ row rows v → starts' ≡ starts ++ (length path, length work) ∷ []
      → IsPart rows marks (weight (cost rows) marks + length work + length starts) new path' work' starts' count
  entered new path' work' starts' m p x s =
      subst (λ z. Part z path' work' starts') (sym m) (subst (λ z. Part entered_marks z work' starts') (sym p)
      (subst (λ z. Part entered_marks (path ++ v ∷ []) z starts') (sym x) (subst (Part entered_marks (path ++ v ∷ []) (work ++ row rows v)) (sym s) entered_here)))
    where
      Part : List NodeState → List ℕ → List ℕ → List (ℕ × ℕ) → Type 0
      Part new path' work' starts' = IsPart rows marks (weight (cost rows) marks + length work + length starts) new path' work' starts' count

-- ---- a number that is met

module _ (rows : List (List ℕ)) (v : ℕ) (marks : List NodeState) (path work : List ℕ) (starts : List (ℕ × ℕ)) (count : ℕ)
    (w : IsState rows (v ∷ []) marks path work starts count) where
  pub joined : (p : ℕ) (new : List (ℕ × ℕ)) → mark marks v ≡ At p → DropsAfter p starts new
      → IsPart rows marks (weight (cost rows) marks + length work + length starts) marks path work new count
  joined p new is drops = record {
    is = (joined_walk (length rows) (leads rows) marks path work v starts new count p w.0 is drops, w.1);
    keeps = λ u e. e;
    less = let a = drops.fewer in omega arith;
  }

  pub passed : (c : ℕ) → mark marks v ≡ Done c → IsPart rows marks (weight (cost rows) marks + length work + length starts) marks path work starts count
  passed c is = record {
    is = (passed_walk (length rows) (leads rows) marks path work v starts count c w.0 is, w.1);
    keeps = λ u e. e;
    less = omega arith;
  }

-- ---- the last block

module _ (starts : List (ℕ × ℕ)) (last : ℕ × ℕ) (split : starts ≡ without_last starts ++ last ∷ []) where
  pub last-In : IsMember last starts
  last-In = subst (IsMember last) (sym split) (In-right last (without_last starts) (last ∷ []) (inl refl))

  pub fewer_by_one : length (without_last starts) + 1 ≡ length starts
  fewer_by_one = sym (ap length split ∙ length_push (without_last starts) last)

  pub all_up_to : (place : ℕ) → Pairwise (λ b c. b.0 < c.0) starts → last.0 ≤ place → (b : ℕ × ℕ) → IsMember b starts → b.0 ≤ place
  all_up_to place r h b i = all_before place (without_last starts) last (subst (Pairwise (λ b c. b.0 < c.0)) split r) h b (subst (IsMember b) split i)

  pub rising_without : Pairwise (λ b c. b.0 < c.0) starts → Pairwise (λ b c. b.0 < c.0) (without_last starts)
  rising_without r = rising_front (without_last starts) (last ∷ []) (subst (Pairwise (λ b c. b.0 < c.0)) split r)

  pub without-In : (b : ℕ × ℕ) → IsMember b (without_last starts) → IsMember b starts
  without-In b i = subst (IsMember b) (sym split) (In-left b (without_last starts) (last ∷ []) i)

  pub In-without : (b : ℕ × ℕ) → IsMember b starts → b.0 < last.0 → IsMember b (without_last starts)
  In-without b i h = by (In-append b (without_last starts) (last ∷ []) (subst (IsMember b) split i))
    where
      by : IsMember b (without_last starts) ⊎ IsMember b (last ∷ []) → IsMember b (without_last starts)
      by (inl j) = j
      by (inr (inl e)) = absurd (let k : b.0 ≡ last.0 = ap (λ p. p.0) e in omega arith)
      by (inr (inr j)) = absurd j

  module _ (rows : List (List ℕ)) (marks : List NodeState) (path work : List ℕ) (count : ℕ) (w : IsState rows [] marks path work starts count) where
    pub last_inside : last.0 < length path
    last_inside = (w.0.inside last last-In).0

    pub few_classes : count < length marks
    few_classes = let a = w.1 in let b = last_inside in let c = w.0.size in omega arith

    split_walk : IsWalk (length rows) (leads rows) [] marks path work (without_last starts ++ (last.0, last.1) ∷ []) count
    split_walk = subst (λ z. IsWalk (length rows) (leads rows) [] marks path work z count) split w.0

    left_here : length work ≤ last.1 → (new : List NodeState) → IsClosed marks path last.0 count new
        → IsPart rows marks (weight (cost rows) marks + length work + length (without_last starts)) new (take last.0 path) work (without_last starts) (count + 1)
    left_here empty new closed = record {
      is = (
        closed_walk (length rows) (leads rows) marks new path work (without_last starts) last.0 last.1 count split_walk empty closed,
        let a = closed.lighter (λ v. 1) in
            let b = last_inside in
            let c : length (take last.0 path) ≡ last.0 = length-take-le last.0 path (omega arith) in
            let d = w.1 in
            omega arith,
      );
      keeps = λ v e. by v e (which (mark marks v));
      less = let a = closed.lighter (cost rows) in omega arith;
    }
      where
        by : (v : ℕ) → mark new v ≡ New → (mark marks v ≡ New) ⊎ (((i : ℕ) × (mark marks v ≡ At i)) ⊎ ((c : ℕ) × (mark marks v ≡ Done c))) → mark marks v ≡ New
        by v e (inl f) = f
        by v e (inr (inr (c, f))) =
            absurd (new_done c (sym e ∙ (closed.others v (λ i l m g. new_done c (absurd (at_is i c (sym (w.0.placed i m) ∙ (ap (mark marks) g ∙ f))))) ∙ f)))
          where
            at_is : (i c : ℕ) → ◌≡◌ {A = NodeState} (At i) (Done c) → ⊥
            at_is i c e = cc
        by v e (inr (inl (i, f))) = on (Rattle.std.proofs.lemmas.Bool.cases_lt i last.0) (w.0.on_path v i f)
          where
            same : (j : ℕ) → ◌≡◌ {A = NodeState} (At i) (At j) → i ≡ j
            same j e = cc

            on : (i < last.0) ⊎ (last.0 ≤ i) → (i < length path) × (at path i ≡ v) → mark marks v ≡ New
            on (inl h) p =
                absurd (new_at i (sym e ∙ (closed.others v (λ j l m g. let q : i ≡ j = same j (sym f ∙ (ap (mark marks) (sym g) ∙ w.0.placed j m)) in omega arith) ∙ f)))
            on (inr h) p = absurd (new_done count (sym e ∙ (ap (mark new) (sym p.1) ∙ closed.gets i h p.0)))

    pub left_block : length work ≤ last.1 → (new : List NodeState) (path' work' : List ℕ) (starts' : List (ℕ × ℕ)) (count' : ℕ)
        → IsClosed marks path last.0 count new → path' ≡ take last.0 path → work' ≡ work → starts' ≡ without_last starts → count' ≡ count + 1
        → IsPart rows marks (weight (cost rows) marks + length work + length (without_last starts)) new path' work' starts' count'
    left_block empty new path' work' starts' count' closed p x s c =
        subst (λ z. Part z work' starts' count') (sym p) (subst (λ z. Part (take last.0 path) z starts' count') (sym x)
        (subst (λ z. Part (take last.0 path) work z count') (sym s) (subst (Part (take last.0 path) work (without_last starts)) (sym c) (left_here empty new closed))))
      where
        Part : List ℕ → List ℕ → List (ℕ × ℕ) → ℕ → Type 0
        Part path' work' starts' count' = IsPart rows marks (weight (cost rows) marks + length work + length (without_last starts)) new path' work' starts' count'

  -- ---- the next number

  module _ (rows : List (List ℕ)) (marks : List NodeState) (path work before : List ℕ) (count v : ℕ) (w : IsState rows [] marks path before starts count)
      (cut : before ≡ work ++ v ∷ []) where
    pub taken : last.1 < length before → IsState rows (v ∷ []) marks path work starts count
    taken h = (
      subst (λ z. IsWalk (length rows) (leads rows) (v ∷ []) marks path work z count) (sym split)
          (popped (length rows) (leads rows) marks path work v (without_last starts) last.0 last.1 count
          (subst (λ z. IsWalk (length rows) (leads rows) [] marks path (work ++ v ∷ []) z count) split
          (subst (λ z. IsWalk (length rows) (leads rows) [] marks path z starts count) cut w.0))
          (let a = ap length cut ∙ length_push work v in omega arith)),
      w.1,
    )

pub taken_below : (rows : List (List ℕ)) (more : List ℕ) (marks : List NodeState) (path work before : List ℕ) (starts : List (ℕ × ℕ)) (count v : ℕ)
    → AreInside rows → IsState rows more marks path before starts count → before ≡ work ++ v ∷ [] → v < length rows
taken_below rows more marks path work before starts count v inside w cut =
    let size : length before ≡ length work + 1 = ap length cut ∙ length_push work v in
    let source = w.0.sources (length work) (omega arith) in
    let is : at before (length work) ≡ v = ap (λ z. at z (length work)) cut ∙ Rattle.std.proofs.lemmas.List.get_or_push work v 0 (length work) refl in
    subst (λ z. z < length rows) is (inside (at path source.0) (at before (length work)) (leads-In rows (at path source.0) (at before (length work)) source.2))

-- where the path is empty there are no blocks, and the other way round
pub no_blocks : (rows : List (List ℕ)) (more : List ℕ) (marks : List NodeState) (path work : List ℕ) (starts : List (ℕ × ℕ)) (count : ℕ)
    → IsState rows more marks path work starts count → starts ≡ [] → path ≡ []
no_blocks rows more marks [] work starts count w e = refl
no_blocks rows more marks (v ∷ path) work starts count w e = absurd (let h = w.0.first (omega arith) in subst (IsMember (0, h.0)) e h.1)

-- ---- closing

pub shorter : (old new : List ℕ) (x : ℕ) → new ++ x ∷ [] ≡ take (length (new ++ x ∷ [])) old → length (new ++ x ∷ []) ≤ length old
    → (new ≡ take (length new) old) × (x ≡ at old (length new))
shorter old new x e h =
    let size = length_push new x in
    let more : take (length new + 1) old ≡ take (length new) old ++ at old (length new) ∷ [] = take_more old (length new) 0 (omega arith) in
    same_from_push new (take (length new) old) x (at old (length new)) (e ∙ (ap (λ z. take z old) size ∙ more))

-- ---- beginning anywhere

pub started : (rows : List (List ℕ)) (v : ℕ) (marks : List NodeState) (path work : List ℕ) (starts : List (ℕ × ℕ)) (count : ℕ)
    → IsState rows [] marks path work starts count → path ≡ [] → IsState rows (v ∷ []) marks path work starts count
started rows v marks path work starts count w e = (
  subst (λ z. IsWalk (length rows) (leads rows) (v ∷ []) marks z work starts count) (sym e)
      (anywhere (length rows) (leads rows) marks work starts count v (subst (λ z. IsWalk (length rows) (leads rows) [] marks z work starts count) e w.0)),
  w.1,
)

pub met_more : (n : ℕ) (old new : List NodeState) → ((v : ℕ) → mark new v ≡ New → mark old v ≡ New) → ((v : ℕ) → v < n → mark old v ≡ New → ⊥)
    → (mark new n ≡ New → ⊥) → (v : ℕ) → v < n + 1 → mark new v ≡ New → ⊥
met_more n old new keeps met last v h e = by (cases_eq v n)
  where
    by : (v ≡ n) ⊎ (v ≡ n → ⊥) → ⊥
    by (inl f) = last (ap (mark new) (sym f) ∙ e)
    by (inr d) = met v (omega arith) (keeps v e)
