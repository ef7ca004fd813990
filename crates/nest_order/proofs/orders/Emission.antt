-- Recursive emission puts the statements of a nest into their own loops, so that no edge that is at work leads back.
use Rattle.std.specs.List.{concat}
use Rattle.std.proofs.Common.{◌≡◌, refl, sym, ap, ◌∙◌, subst, ◌⊎◌, inl, inr, ℕ, zero, suc, ◌<◌, ◌≤◌, List, [], ◌∷◌, ◌++◌, length, drop, arith, append_assoc}
use Rattle.nest_order.specs.orders.Emission.{AreEmittedFor, Components, HasStatements, HaveStatements, IsEmitted, IsEmittedFor, Leads, Leap, NoneFrom, Walk}
use Rattle.nest_order.specs.orders.Lists.{Distinct, Each, In, Pairwise}
use Rattle.nest_order.specs.orders.Nests.{Carried, Edge, Independent, IsEdge, LeadsInNest, Level, Remains, common}
use Rattle.nest_order.specs.orders.Shapes.{Loop, Shape, Shapes, Single, Stands, StandsIn, common_of, no_shapes, shape, statements, statements_in}
use Rattle.nest_order.proofs.orders.Forward.{Forward, ForwardIn}
use Rattle.nest_order.proofs.orders.Lists.{Each-In, In-left, In-right, In-append, Pairwise-append}
use Rattle.nest_order.proofs.orders.Once.{Pairwise-left, Pairwise-right, Pairwise-across}
use Rattle.nest_order.proofs.orders.Common.{common-sym, common-trans, next_common, statement_stands, statement_stands_in}

dropped : (round rest : List ℕ) → drop (length round) (round ++ rest) ≡ rest
dropped [] rest = refl
dropped (l ∷ round) rest = dropped round rest

pub split_order : (s t : ℕ) → (s < t) ⊎ ((s ≡ t) ⊎ (t < s))
split_order zero zero = inr (inl refl)
split_order zero (suc t) = inl (omega arith)
split_order (suc s) zero = inr (inr (omega arith))
split_order (suc s) (suc t) = by (split_order s t)
  where
    by : (s < t) ⊎ ((s ≡ t) ⊎ (t < s)) → (suc s < suc t) ⊎ ((suc s ≡ suc t) ⊎ (suc t < suc s))
    by (inl h) = inl (omega arith)
    by (inr (inl h)) = inr (inl (ap suc h))
    by (inr (inr h)) = inr (inr (omega arith))

same_rest : (round ls ms : List ℕ) → round ++ ls ≡ round ++ ms → ls ≡ ms
same_rest round ls ms e = sym (dropped round ls) ∙ (ap (drop (length round)) e ∙ dropped round ms)

longer : (round : List ℕ) (l : ℕ) → length (round ++ l ∷ []) ≡ suc (length round)
longer [] l = refl
longer (m ∷ round) l = ap suc (longer round l)

-- what stands in some class
in_class : (s : ℕ) (cs : List (List ℕ)) → In s (concat cs) → (c : List ℕ) × In c cs × In s c
in_class s [] i = absurd i
in_class s (c ∷ cs) i = by (In-append s c (concat cs) i) (in_class s cs)
  where
    by : In s c ⊎ In s (concat cs) → (In s (concat cs) → (b : List ℕ) × In b cs × In s b) → (b : List ℕ) × ((b ≡ c) ⊎ In b cs) × In s b
    by (inl j) f = (c, inl refl, j)
    by (inr j) f = let k = f j in (k.0, inr k.1, k.2)

pub class_in : (s : ℕ) (c : List ℕ) (cs : List (List ℕ)) → In c cs → In s c → In s (concat cs)
class_in s c [] i j = absurd i
class_in s c (b ∷ cs) (inl e) j = In-left s b (concat cs) (subst (In s) e j)
class_in s c (b ∷ cs) (inr i) j = In-right s b (concat cs) (class_in s c cs i j)

pub class_once : (c : List ℕ) (cs : List (List ℕ)) → In c cs → Distinct (concat cs) → Distinct c
class_once c [] i d = absurd i
class_once c (b ∷ cs) (inl e) d = subst Distinct (sym e) (Pairwise-left (λ x y. ¬ (x ≡ y)) b (concat cs) d)
class_once c (b ∷ cs) (inr i) d = class_once c cs i (Pairwise-right (λ x y. ¬ (x ≡ y)) b (concat cs) d)

module _ (loops_of : ℕ → List ℕ) (edges : List Edge) (nest : List ℕ) (may : Each (IsEdge loops_of) edges)
    (between : (s q r : ℕ) → In s nest → In q nest → In r nest → s < q → q < r → common loops_of s r ≤ common loops_of q r) where
  -- ---- a component is one statement, or has its next loop in common

  module _ (d : ℕ) where
    -- the loop of level d in common, or earlier in the text
    abbrev Onward : ℕ → ℕ → Type 0
    Onward s r = (d < common loops_of s r) ⊎ ((s ≡ r) ⊎ (s < r))

    leap_onward : (s r : ℕ) → Leap edges d s r → Onward s r
    leap_onward s r h = by h.0.level (Each-In (IsEdge loops_of) edges may h.0 h.1) h.4
      where
        by : (level : Level) → LeadsInNest loops_of h.0.from h.0.to level → Remains d level → Onward s r
        by (Carried m) a b =
            let c : m < common loops_of s r = subst (λ z. m < common loops_of z r) h.2 (subst (λ z. m < common loops_of h.0.from z) h.3 a) in
            inl (omega arith)
        by Independent a b = inr (inr (subst (λ z. z < r) h.2 (subst (λ z. h.0.from < z) h.3 a)))

    onward-trans : (s q r : ℕ) → In s nest → In q nest → In r nest → Onward s q → Onward q r → Onward s r
    onward-trans s q r i j k (inl a) (inl b) = inl (common-trans (suc d) (loops_of s) (loops_of q) (loops_of r) a b)
    onward-trans s q r i j k a (inr (inl e)) = subst (Onward s) e a
    onward-trans s q r i j k (inr (inl e)) b = subst (λ z. Onward z r) (sym e) b
    onward-trans s q r i j k (inr (inr a)) (inr (inr b)) = inr (inr (omega arith))
    onward-trans s q r i j k (inl a) (inr (inr b)) = by (split_order s r)
      where
        by : (s < r) ⊎ ((s ≡ r) ⊎ (r < s)) → Onward s r
        by (inl h) = inr (inr h)
        by (inr (inl h)) = inr (inl h)
        by (inr (inr h)) =
            let c : d < common loops_of q s = common-sym (suc d) (loops_of s) (loops_of q) a in
            let le : common loops_of q s ≤ common loops_of r s = between q r s j k i b h in
            inl (common-sym (suc d) (loops_of r) (loops_of s) (omega arith))
    onward-trans s q r i j k (inr (inr a)) (inl b) = by (split_order s r)
      where
        by : (s < r) ⊎ ((s ≡ r) ⊎ (r < s)) → Onward s r
        by (inl h) = inr (inr h)
        by (inr (inl h)) = inr (inl h)
        by (inr (inr h)) =
            let c : d < common loops_of r q = common-sym (suc d) (loops_of q) (loops_of r) b in
            let le : common loops_of r q ≤ common loops_of s q = between r s q k i j h a in
            let e : d < common loops_of s q = omega arith in
            inl (common-trans (suc d) (loops_of s) (loops_of q) (loops_of r) e b)

    walk_onward : (whole : List ℕ) → ((s : ℕ) → In s whole → In s nest) → (rs : List ℕ) (s r : ℕ) → In s nest → In r nest → Walk edges d whole s rs r → Onward s r
    walk_onward whole sub [] s r i k h = inr (inl h)
    walk_onward whole sub (q ∷ rs) s r i k h = onward-trans s q r i (sub q h.1) k (leap_onward s q h.0) (walk_onward whole sub rs q r (sub q h.1) k h.2)

    pub in_one_loop : (whole : List ℕ) → ((s : ℕ) → In s whole → In s nest) → (s r : ℕ) → In s nest → In r nest → Leads edges d whole s r → Leads edges d whole r s → (s ≡ r) ⊎ (d < common loops_of s r)
    in_one_loop whole sub s r i j a b = by (walk_onward whole sub a.0 s r i j a.1) (walk_onward whole sub b.0 r s j i b.1)
      where
        by : Onward s r → Onward r s → (s ≡ r) ⊎ (d < common loops_of s r)
        by (inl h) k = inr h
        by (inr (inl h)) k = inl h
        by (inr (inr h)) (inl k) = inr (common-sym (suc d) (loops_of r) (loops_of s) k)
        by (inr (inr h)) (inr (inl k)) = inl (sym k)
        by (inr (inr h)) (inr (inr k)) = absurd (omega arith)

  -- ---- what is emitted

  -- the shapes ts have the statements of whole, each once, in their own loops, and no edge at work leads back
  pub record Sound (round : List ℕ) (whole : List ℕ) (ts : Shapes) : Type 0 where
    pub only : (s : ℕ) (ls : List ℕ) → StandsIn ts s ls → In s whole × (loops_of s ≡ round ++ ls)
    pub all : (s : ℕ) (ls : List ℕ) → In s whole → loops_of s ≡ round ++ ls → StandsIn ts s ls
    pub once : Distinct (statements_in ts)
    pub forward : ForwardIn edges (length round) ts
    pub filled : HaveStatements ts

  pub record SoundOne (round : List ℕ) (whole : List ℕ) (t : Shape) : Type 0 where
    pub only : (s : ℕ) (ls : List ℕ) → Stands t s ls → In s whole × (loops_of s ≡ round ++ ls)
    pub all : (s : ℕ) (ls : List ℕ) → In s whole → loops_of s ≡ round ++ ls → Stands t s ls
    pub once : Distinct (statements t)
    pub forward : Forward edges (length round) t
    pub filled : HasStatements t

  join : (round c : List ℕ) (cs : List (List ℕ)) (t : Shape) (ts : Shapes) → Distinct (c ++ concat cs)
      → Each (NoneFrom edges (length round) c) cs
      → SoundOne round c t → Sound round (concat cs) ts → Sound round (c ++ concat cs) (shape t ts)
  join round c cs t ts once forward g h = record { only = only; all = all; once = apart; forward = (none_back, g.forward, h.forward); filled = (g.filled, h.filled) }
    where
      only : (s : ℕ) (ls : List ℕ) → Stands t s ls ⊎ StandsIn ts s ls → In s (c ++ concat cs) × (loops_of s ≡ round ++ ls)
      only s ls (inl k) = let a = g.only s ls k in (In-left s c (concat cs) a.0, a.1)
      only s ls (inr k) = let a = h.only s ls k in (In-right s c (concat cs) a.0, a.1)

      all : (s : ℕ) (ls : List ℕ) → In s (c ++ concat cs) → loops_of s ≡ round ++ ls → Stands t s ls ⊎ StandsIn ts s ls
      all s ls i e = by (In-append s c (concat cs) i)
        where
          by : In s c ⊎ In s (concat cs) → Stands t s ls ⊎ StandsIn ts s ls
          by (inl k) = inl (g.all s ls k e)
          by (inr k) = inr (h.all s ls k e)

      in_first : (s : ℕ) → In s (statements t) → In s c
      in_first s i = let k = statement_stands t s i in (g.only s k.0 k.1).0

      in_later : (s : ℕ) → In s (statements_in ts) → In s (concat cs)
      in_later s i = let k = statement_stands_in ts s i in (h.only s k.0 k.1).0

      apart : Distinct (statements t ++ statements_in ts)
      apart = Pairwise-append (λ x y. ¬ (x ≡ y)) (statements t) (statements_in ts) g.once h.once (λ x y i j. Pairwise-across (λ x y. ¬ (x ≡ y)) c (concat cs) once x y (in_first x i) (in_later y j))

      none_back : (e : Edge) → In e edges → In e.from (statements_in ts) → In e.to (statements t) → ¬ (Remains (length round) e.level)
      none_back e i j k = let b = in_class e.from cs (in_later e.from j) in Each-In (NoneFrom edges (length round) c) cs forward b.0 b.1 e i b.2 (in_first e.to k)

  -- a statement with no further loop
  alone : (round : List ℕ) (s : ℕ) → loops_of s ≡ round ++ [] → SoundOne round (s ∷ []) (Single s)
  alone round s e = record { only = only; all = all; once = (tt, tt); forward = tt; filled = tt }
    where
      only : (r : ℕ) (ls : List ℕ) → Stands (Single s) r ls → In r (s ∷ []) × (loops_of r ≡ round ++ ls)
      only r [] h = (inl (sym h), ap loops_of (sym h) ∙ e)
      only r (l ∷ ls) h = absurd h

      all : (r : ℕ) (ls : List ℕ) → In r (s ∷ []) → loops_of r ≡ round ++ ls → Stands (Single s) r ls
      all r ls (inl i) f = subst (Stands (Single s) r) (same_rest round [] ls (sym e ∙ (ap loops_of (sym i) ∙ f))) (sym i)
      all r ls (inr i) f = absurd i

  -- statements in one loop
  looped : (round : List ℕ) (l : ℕ) (c : List ℕ) (ts : Shapes) (some : ℕ) → In some c → ((s : ℕ) → In s c → (rest : List ℕ) × (loops_of s ≡ (round ++ l ∷ []) ++ rest)) → Sound (round ++ l ∷ []) c ts → SoundOne round c (Loop l ts)
  looped round l c ts some there next good = record {
    only = only;
    all = all;
    once = good.once;
    forward = subst (λ n. ForwardIn edges n ts) (longer round l) good.forward;
    filled = ((some, (next some there).0, good.all some (next some there).0 there (next some there).1), good.filled);
  }
    where
      only : (r : ℕ) (ls : List ℕ) → Stands (Loop l ts) r ls → In r c × (loops_of r ≡ round ++ ls)
      only r [] h = absurd h
      only r (m ∷ ls) h = let g = good.only r ls h.1 in (g.0, g.1 ∙ (append_assoc round (l ∷ []) ls ∙ ap (λ k. round ++ k ∷ ls) h.0))

      all : (r : ℕ) (ls : List ℕ) → In r c → loops_of r ≡ round ++ ls → Stands (Loop l ts) r ls
      all r ls i f =
          let n = next r i in
          let e : l ∷ n.0 ≡ ls = same_rest round (l ∷ n.0) ls (sym (append_assoc round (l ∷ []) n.0) ∙ (sym n.1 ∙ f)) in
          subst (Stands (Loop l ts) r) e (refl, good.all r n.0 i n.1)

  -- the statements of a part
  over : (round part : List ℕ) (classes : List (List ℕ)) (ts : Shapes) → Components edges (length round) part classes → Sound round (concat classes) ts → Sound round part ts
  over round part classes ts comps g = record {
    only = λ s ls h. (let a = g.only s ls h in ((comps.same s).1 a.0, a.1));
    all = λ s ls i e. g.all s ls ((comps.same s).0 i) e;
    once = g.once;
    forward = g.forward;
    filled = g.filled;
  }

  -- ---- one component

  -- its statements stand in the loops round it, and have more loops in common if they are several
  pub record IsClass (round c : List ℕ) : Type 0 where
    pub once : Distinct c
    pub behind : (s : ℕ) → In s c → (rest : List ℕ) × (loops_of s ≡ round ++ rest)
    pub inside : (s : ℕ) → In s c → In s nest
    pub near : (s r : ℕ) → In s c → In r c → (s ≡ r) ⊎ (length round < common loops_of s r)

  abbrev AreClasses : List ℕ → List (List ℕ) → Type 0
  AreClasses round classes = (c : List ℕ) → In c classes → IsClass round c

  -- what a part's statements have, its classes have
  classes_of_part : (round part : List ℕ) (classes : List (List ℕ)) → ((s : ℕ) → In s part → In s nest) → ((s : ℕ) → In s part → (rest : List ℕ) × (loops_of s ≡ round ++ rest))
      → Components edges (length round) part classes → AreClasses round classes
  classes_of_part round part classes sub behind comps c i =
      let in_part : (s : ℕ) → In s c → In s part = λ s j. (comps.same s).1 (class_in s c classes i j) in
      let reach = Each-In (λ c. (s r : ℕ) → In s c → In r c → Leads edges (length round) part s r) classes comps.reachable c i in
      record {
        once = class_once c classes i comps.once;
        behind = λ s j. behind s (in_part s j);
        inside = λ s j. sub s (in_part s j);
        near = λ s r j k. in_one_loop (length round) part sub s r (sub s (in_part s j)) (sub r (in_part r k)) (reach s r j k) (reach r s k j);
      }

  -- all statements of a class have the next loop of one of them
  next_loop : (round c : List ℕ) (some l : ℕ) (ls : List ℕ) → IsClass round c → In some c → loops_of some ≡ round ++ l ∷ ls → (r : ℕ) → In r c → (rest : List ℕ) × (loops_of r ≡ (round ++ l ∷ []) ++ rest)
  next_loop round c some l ls class there e r i = by (class.near some r there i) (class.behind r i)
    where
      by : (some ≡ r) ⊎ (length round < common loops_of some r) → (rest : List ℕ) × (loops_of r ≡ round ++ rest) → (rest : List ℕ) × (loops_of r ≡ (round ++ l ∷ []) ++ rest)
      by (inl f) b = (ls, (ap loops_of (sym f) ∙ e) ∙ sym (append_assoc round (l ∷ []) ls))
      by (inr f) b =
          let g = next_common round l ls b.0 (subst (λ zs. suc (length round) ≤ common_of (round ++ l ∷ ls) zs) b.1 (subst (λ zs. suc (length round) ≤ common_of zs (loops_of r)) e f)) in
          (g.0, b.1 ∙ (ap (λ zs. round ++ zs) g.1 ∙ sym (append_assoc round (l ∷ []) g.0)))

  -- behind the loops round it
  behind_round : (round rest : List ℕ) (s : ℕ) → loops_of s ≡ round ++ rest → drop (length round) (loops_of s) ≡ rest
  behind_round round rest s e = ap (drop (length round)) e ∙ dropped round rest

  mutual
    one_emitted : (t : Shape) (round c : List ℕ) → IsClass round c → IsEmittedFor loops_of edges (length round) c t → SoundOne round c t
    one_emitted (Single s) round c class h =
        let there : In s c = subst (In s) (sym h.0) (inl refl) in
        let b = class.behind s there in
        let none : b.0 ≡ [] = sym (behind_round round b.0 s b.1) ∙ h.1 in
        subst (λ zs. SoundOne round zs (Single s)) (sym h.0) (alone round s (b.1 ∙ ap (λ zs. round ++ zs) none))
    one_emitted (Loop l ts) round c class h =
        let some = h.0.0 in
        let there = h.0.1 in
        let b = class.behind some there in
        let rest = h.0.2.0 in
        let first : b.0 ≡ l ∷ rest = sym (behind_round round b.0 some b.1) ∙ h.0.2.1 in
        let next = next_loop round c some l rest class there (b.1 ∙ ap (λ zs. round ++ zs) first) in
        let comps : Components edges (length (round ++ l ∷ [])) c h.1.0 = subst (λ n. Components edges n c h.1.0) (sym (longer round l)) h.1.1 in
        looped round l c ts some there next
        (over (round ++ l ∷ []) c h.1.0 ts comps
        (all_emitted ts (round ++ l ∷ []) h.1.0 (classes_of_part (round ++ l ∷ []) c h.1.0 class.inside next comps) comps.once comps.forward
        (subst (λ n. AreEmittedFor loops_of edges n h.1.0 ts) (sym (longer round l)) h.1.2)))

    -- one component after the other
    all_emitted : (ts : Shapes) (round : List ℕ) (classes : List (List ℕ)) → AreClasses round classes → Distinct (concat classes) → Pairwise (NoneFrom edges (length round)) classes
        → AreEmittedFor loops_of edges (length round) classes ts → Sound round (concat classes) ts
    all_emitted no_shapes round [] are once forward h = record { only = λ s ls h. absurd h; all = λ s ls i e. absurd i; once = tt; forward = tt; filled = tt }
    all_emitted no_shapes round (c ∷ cs) are once forward h = absurd h
    all_emitted (shape t ts) round [] are once forward h = absurd h
    all_emitted (shape t ts) round (c ∷ cs) are once forward h = join round c cs t ts once forward.0
        (one_emitted t round c (are c (inl refl)) h.0)
        (all_emitted ts round cs (λ b i. are b (inr i)) (Pairwise-right (λ x y. ¬ (x ≡ y)) c (concat cs) once) forward.1 h.1)

  pub emission : (ts : Shapes) → IsEmitted loops_of edges 0 nest ts → Sound [] nest ts
  emission ts h = over [] nest h.0 ts h.1 (all_emitted ts [] h.0 (classes_of_part [] nest h.0 (λ s i. i) (λ s i. (loops_of s, refl)) h.1) h.1.once h.1.forward h.2)
