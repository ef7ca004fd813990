-- Classes, each of which comes as soon as nothing that is still to come leads to it, are in order.
use Rattle.std.proofs.Common.{◌≡◌, ◌↔◌, refl, sym, ap, ◌∙◌, subst, ◌⊎◌, inl, inr, ℕ, zero, suc, ◌+◌, ◌<◌, ◌≤◌, Bool, true, false, List, [], ◌∷◌, length, set, arith, get_or-set_same, get_or-set_other}
use Rattle.std.specs.List.{concat}
use Rattle.std.proofs.lemmas.Bool.{both_ways, cases_eq, cases_lt}
use Rattle.components.specs.Lists.{IsMember, Each, Pairwise, Distinct, Rises}
use Rattle.components.specs.Reachability.{AreBelow, Walk}
use Rattle.components.specs.Orders.{IsComponent, IsOrder, HasLess, LeastFirst, MayComeNext, NoneBack}
use Rattle.components.proofs.ClassLaws.{In-concat}
use Rattle.components.proofs.ListLaws.{Each-In, Each-from, In-append, In-left, In-right, Pairwise-append, Pairwise-weaker}
use Rattle.components.specs.Labels.{AreLabels, at}
use Rattle.components.specs.Classes.{AreClassRows, IsClass, IsDoneOrLedTo, IsNext, IsPairBetween, flag}

-- classes that come one after the other until all are done
module _ (n count : ℕ) (labels : List ℕ) (rows : List (List ℕ)) where
  abbrev pub Comes : List Bool → List (List ℕ) → Type 0
  Comes done [] = (c : ℕ) → c < count → flag done c ≡ true
  Comes done (k ∷ ks) = (c : ℕ) × IsNext n count labels rows done c × IsClass n labels c k × Comes (set done c true) ks

module _ (n : ℕ) (pairs : List (ℕ × ℕ)) (count : ℕ) (labels : List ℕ) (rows : List (List ℕ)) (below : AreBelow n pairs)
    (are : AreLabels n pairs count labels) (led : AreClassRows pairs labels rows) where
  pub record Orders (done : List Bool) (ks : List (List ℕ)) : Type 0 where
    pub members : (a : ℕ) → IsMember a (concat ks) ↔ ((a < n) × (flag done (at labels a) ≡ false))
    pub once : Distinct (concat ks)
    pub filled : Each (λ k. ¬ (k ≡ [])) ks
    pub rising : Each Rises ks
    pub classes : Each (λ k. (c : ℕ) × IsClass n labels c k) ks
    pub forward : Pairwise (NoneBack pairs) ks
    pub least_first : LeastFirst pairs ks

  ends_below : (a b : ℕ) → IsMember (a, b) pairs → (a < n) × (b < n)
  ends_below a b i = Each-In (λ p. (p.0 < n) × (p.1 < n)) pairs below (a, b) i

  -- along a walk numbers of classes don't rise
  falls : (over : List ℕ) (a b : ℕ) → a < n → Walk pairs a over b → (b < n) × (at labels b ≤ at labels a)
  falls [] a b h w = (subst (λ z. z < n) w h, let e : at labels a ≡ at labels b = ap (at labels) w in omega arith)
  falls (q ∷ over) a b h w =
      let s = are.falling a q h w.0 in
      let r = falls over q b (ends_below a q w.0).1 w.1 in
      (r.0, let t = r.1 in omega arith)

  component : (c : ℕ) (k : List ℕ) → IsClass n labels c k → IsComponent pairs k
  component c k is a b i = (
    λ j. let p = (is.each a).0 i in let q = (is.each b).0 j in
        (are.together a b p.0 q.0 (p.1 ∙ sym q.1), are.together b a q.0 p.0 (q.1 ∙ sym p.1)),
    λ m.
        let p = (is.each a).0 i in
        let there = falls m.0.0 a b p.0 m.0.1 in
        let back = falls m.1.0 b a there.0 m.1.1 in
        (is.each b).1 (there.0, (let x = there.1 in let y = back.1 in let z = p.1 in omega arith)),
  )

  module _ (done : List Bool) (size : length done ≡ count) (c : ℕ) (next : IsNext n count labels rows done c) where
    set_here : flag (set done c true) c ≡ true
    set_here = get_or-set_same done c true false (subst (λ z. c < z) (sym size) next.small)

    set_other : (d : ℕ) → (d ≡ c → ⊥) → flag (set done c true) d ≡ flag done d
    set_other d e = get_or-set_other done c d true false e

    undone_other : (d : ℕ) → flag (set done c true) d ≡ false → (d ≡ c → ⊥) × (flag done d ≡ false)
    undone_other d e = by (cases_eq d c)
      where
        by : (d ≡ c) ⊎ (d ≡ c → ⊥) → (d ≡ c → ⊥) × (flag done d ≡ false)
        by (inl f) = absurd (both_ways (flag (set done c true) d) e (ap (flag (set done c true)) f ∙ set_here))
        by (inr f) = (f, sym (set_other d f) ∙ e)

    module _ (k : List ℕ) (is : IsClass n labels c k) (ks : List (List ℕ)) (o : Orders (set done c true) ks) where
      rest : (a : ℕ) → IsMember a (concat ks) → (a < n) × (at labels a ≡ c → ⊥) × (flag done (at labels a) ≡ false)
      rest a i = let p = (o.members a).0 i in let q = undone_other (at labels a) p.1 in (p.0, q.0, q.1)

      members : (a : ℕ) → IsMember a (concat (k ∷ ks)) ↔ ((a < n) × (flag done (at labels a) ≡ false))
      members a = (λ i. to (In-append a k (concat ks) i), λ h. from h (cases_eq (at labels a) c))
        where
          to : IsMember a k ⊎ IsMember a (concat ks) → (a < n) × (flag done (at labels a) ≡ false)
          to (inl i) = let p = (is.each a).0 i in (p.0, ap (flag done) p.1 ∙ next.undone)
          to (inr i) = let p = rest a i in (p.0, p.2)

          from : (a < n) × (flag done (at labels a) ≡ false) → (at labels a ≡ c) ⊎ (at labels a ≡ c → ⊥) → IsMember a (concat (k ∷ ks))
          from h (inl e) = In-left a k (concat ks) ((is.each a).1 (h.0, e))
          from h (inr e) = In-right a k (concat ks) ((o.members a).1 (h.0, set_other (at labels a) e ∙ h.1))

      none_back : (d : List ℕ) → IsMember d ks → NoneBack pairs k d
      none_back d i a b ia ib p =
          let r = rest a (In-concat a d ks i ia) in
          let q = (is.each b).0 ib in
          next.free (at labels a, (led (at labels a) c).1 (a, b, p, refl, q.1, r.1), r.2)

      less : (d : List ℕ) → IsMember d ks → MayComeNext pairs (k ∷ ks) d → HasLess k d
      less d i may = (next.least, (is.each next.least).1 (next.inside, next.of), Each-from (λ b. next.least < b) d after)
        where
          after : (b : ℕ) → IsMember b d → next.least < b
          after b ib = by (cases_lt next.least b)
            where
              r : (b < n) × (at labels b ≡ c → ⊥) × (flag done (at labels b) ≡ false)
              r = rest b (In-concat b d ks i ib)

              class : (e : ℕ) × IsClass n labels e d
              class = Each-In (λ k. (c : ℕ) × IsClass n labels c k) ks o.classes d i

              by : (next.least < b) ⊎ (b ≤ next.least) → next.least < b
              by (inl h) = h
              by (inr h) = absurd (earlier (next.before b (strict (cases_eq b next.least))))
                where
                  strict : (b ≡ next.least) ⊎ (b ≡ next.least → ⊥) → b < next.least
                  strict (inl e) = absurd (r.1 (ap (at labels) e ∙ next.of))
                  strict (inr e) = omega arith

                  earlier : IsDoneOrLedTo rows done (at labels b) → ⊥
                  earlier (inl e) = both_ways (flag done (at labels b)) r.2 e
                  earlier (inr (e, i, undone)) = from ((led e (at labels b)).0 i)
                    where
                      from : IsPairBetween pairs labels e (at labels b) → ⊥
                      from (x, y, p, lx, ly, apart) =
                          let same : at labels b ≡ class.0 = ((class.1.each b).0 ib).1 in
                          let iy : IsMember y d = (class.1.each y).1 ((ends_below x y p).1, ly ∙ same) in
                          let ix : IsMember x d = may x y ((members x).1 ((ends_below x y p).0, ap (flag done) lx ∙ undone)) iy p in
                          apart (sym lx ∙ (((class.1.each x).0 ix).1 ∙ sym same))

      pub one_more : Orders done (k ∷ ks)
      one_more = record {
        members = members;
        once = Pairwise-append (λ x y. ¬ (x ≡ y)) k (concat ks)
            (Pairwise-weaker (λ x y. x < y) (λ x y. ¬ (x ≡ y)) (λ x y h e. omega arith) k is.rising) o.once
            (λ x y i j e. (rest y j).1 (ap (at labels) (sym e) ∙ ((is.each x).0 i).1));
        filled = (λ e. subst (IsMember next.least) e ((is.each next.least).1 (next.inside, next.of)), o.filled);
        rising = (is.rising, o.rising);
        classes = ((c, is), o.classes);
        forward = (Each-from (NoneBack pairs k) ks none_back, o.forward);
        least_first = (Each-from (λ d. MayComeNext pairs (k ∷ ks) d → HasLess k d) ks less, o.least_first);
      }

  pub orders : (done : List Bool) (ks : List (List ℕ)) → length done ≡ count → Comes n count labels rows done ks → Orders done ks
  orders done [] size all = record {
    members = λ a. (λ i. absurd i, λ h. absurd (both_ways (flag done (at labels a)) h.1 (all (at labels a) (are.below a h.0))));
    once = tt;
    filled = tt;
    rising = tt;
    classes = tt;
    forward = tt;
    least_first = tt;
  }
  orders done (k ∷ ks) size (c, next, is, more) =
      one_more done size c next k is ks (orders (set done c true) ks (Rattle.std.proofs.lemmas.List.length-set done c true ∙ size) more)

  pub is_order : (done : List Bool) (ks : List (List ℕ)) → length done ≡ count → ((c : ℕ) → flag done c ≡ false) → Comes n count labels rows done ks → IsOrder n pairs ks
  is_order done ks size none comes =
      let o = orders done ks size comes in
      record {
        members = λ a. (λ i. ((o.members a).0 i).0, λ h. (o.members a).1 (h, none (at labels a)));
        once = o.once;
        filled = o.filled;
        rising = o.rising;
        components = Each-from (IsComponent pairs) ks (λ k i. let c = Each-In (λ k. (c : ℕ) × IsClass n labels c k) ks o.classes k i in component c.0 k c.1);
        forward = o.forward;
        least_first = o.least_first;
      }

  -- where each class is done or led to, all are done: it is led to by one with a greater number
  pub all_done : (done : List Bool) → ((u : ℕ) → u < n → IsDoneOrLedTo rows done (at labels u)) → (c : ℕ) → c < count → flag done c ≡ true
  all_done done held c h = from count c h (omega arith)
    where
      from : (k c : ℕ) → c < count → count ≤ c + k → flag done c ≡ true
      from zero c h l = absurd (omega arith)
      from (suc k) c h l = let m = are.met c h in by (λ d o. from k d o) (subst (λ z. IsDoneOrLedTo rows done z) m.2 (held m.0 m.1))
        where
          by : ((d : ℕ) → d < count → count ≤ d + k → flag done d ≡ true) → IsDoneOrLedTo rows done c → flag done c ≡ true
          by later (inl e) = e
          by later (inr (e, i, undone)) = led_by ((led e c).0 i)
            where
              led_by : IsPairBetween pairs labels e c → flag done c ≡ true
              led_by (a, b, p, la, lb, apart) = absurd (
                  let ends = ends_below a b p in
                  let fall = are.falling a b ends.0 p in
                  let small : e < count = subst (λ z. z < count) la (are.below a ends.0) in
                  let more : c < e = greater (cases_lt c e) fall in
                  both_ways (flag done e) undone (later e small (omega arith)))
                where
                  greater : (c < e) ⊎ (e ≤ c) → at labels b ≤ at labels a → c < e
                  greater (inl o) f = o
                  greater (inr o) f = absurd (apart (omega arith))
