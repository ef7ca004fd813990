-- The last block of the path is a class.
use Rattle.std.proofs.Common.{◌≡◌, ◌↔◌, refl, sym, ap, ◌∙◌, subst, ◌⊎◌, inl, inr, ℕ, ◌+◌, ◌<◌, ◌≤◌, List, [], ◌∷◌, ◌++◌, length, set, take, arith, get_or-set_same, get_or-set_other}
use Rattle.std.proofs.lemmas.Bool.{cases_eq, cases_lt}
use Rattle.std.proofs.lemmas.List.{length-set, length-take-le, get_or-take}
use Rattle.components.specs.Lists.{IsMember}
use Rattle.components.specs.Reachability.{Reaches}
use Rattle.components.proofs.ListLaws.{In-append, In-left, In-right}
use Rattle.components.specs.declared.walk.NodeState.{NodeState}
use Rattle.components.specs.declared.walk.NodeState.TheVariants.{New, At, Done}
use Rattle.components.specs.Labels.{at}
use Rattle.components.specs.Walking.{mark, Between, IsMet, IsWalk, IsClosed}
use Rattle.components.proofs.Lists.{last_most, rising_front}
use Rattle.components.proofs.Weights.{new_at, at_done, at_same, done_same, which, weight_less}

pub closed_none : (marks : List NodeState) (path : List ℕ) (start class : ℕ) → length path ≤ start → IsClosed marks path start class marks
closed_none marks path start class h = record {
  size = refl;
  gets = λ i k l. absurd (omega arith);
  others = λ v d. refl;
  lighter = λ f. omega arith;
}

-- one number more
module _ (old marks : List NodeState) (path : List ℕ) (k class : ℕ) (c : IsClosed old path (k + 1) class marks) (inside : k < length path) (listed : at path k < length old) where
  here : mark (set marks (at path k) (Done class)) (at path k) ≡ Done class
  here = get_or-set_same marks (at path k) (Done class) New (subst (λ z. at path k < z) (sym c.size) listed)

  other : (v : ℕ) → (v ≡ at path k → ⊥) → mark (set marks (at path k) (Done class)) v ≡ mark marks v
  other v d = get_or-set_other marks (at path k) v (Done class) New d

  pub closed_more : IsClosed old path k class (set marks (at path k) (Done class))
  closed_more = record {
    size = length-set marks (at path k) (Done class) ∙ c.size;
    gets = gets;
    others = λ v d. other v (λ e. d k (omega arith) inside (sym e)) ∙ c.others v (λ i l m e. d i (omega arith) m e);
    lighter = λ f. let a = weight_less f marks (at path k) class in let b = c.lighter f in omega arith;
  }
    where
      gets : (i : ℕ) → k ≤ i → i < length path → mark (set marks (at path k) (Done class)) (at path i) ≡ Done class
      gets i l m = by (cases_eq (at path i) (at path k))
        where
          by : (at path i ≡ at path k) ⊎ (at path i ≡ at path k → ⊥) → mark (set marks (at path k) (Done class)) (at path i) ≡ Done class
          by (inl e) = ap (mark (set marks (at path k) (Done class))) e ∙ here
          by (inr d) = other (at path i) d ∙ c.gets i (later (cases_eq i k)) m
            where
              later : (i ≡ k) ⊎ (i ≡ k → ⊥) → k + 1 ≤ i
              later (inl e) = absurd (d (ap (at path) e))
              later (inr n) = omega arith

module _ (n : ℕ) (pairs : List (ℕ × ℕ)) (marks new : List NodeState) (path work : List ℕ) (starts : List (ℕ × ℕ)) (s t count : ℕ)
    (w : IsWalk n pairs [] marks path work (starts ++ (s, t) ∷ []) count) (empty : length work ≤ t) (c : IsClosed marks path s count new) where
  abbrev front : List ℕ
  front = take s path

  last : IsMember (s, t) (starts ++ (s, t) ∷ [])
  last = In-right (s, t) starts ((s, t) ∷ []) (inl refl)

  s_inside : s < length path
  s_inside = (w.inside (s, t) last).0

  size_front : length front ≡ s
  size_front = length-take-le s path (let h = s_inside in omega arith)

  at_front : (i : ℕ) → i < s → at front i ≡ at path i
  at_front i h = get_or-take s path i 0 h

  whole : (i : ℕ) → i < length front → i < s
  whole i h = subst (λ z. i < z) size_front h

  part : (i : ℕ) → i < s → i < length front
  part i h = subst (λ z. i < z) (sym size_front) h

  earlier : (b : ℕ × ℕ) → IsMember b starts → b.0 < s
  earlier b i = last_most starts (s, t) w.rising b i

  most : (b : ℕ × ℕ) → IsMember b (starts ++ (s, t) ∷ []) → b.0 ≤ s
  most b i = by (In-append b starts ((s, t) ∷ []) i)
    where
      by : IsMember b starts ⊎ IsMember b ((s, t) ∷ []) → b.0 ≤ s
      by (inl j) = let h = earlier b j in omega arith
      by (inr (inl e)) = let h : b.0 ≡ s = ap (λ p. p.0) e in omega arith
      by (inr (inr j)) = absurd j

  -- marks
  kept : (v : ℕ) → ((i : ℕ) → mark marks v ≡ At i → i < s) → mark new v ≡ mark marks v
  kept v h = c.others v (λ i l m e. let k : i < s = h i (ap (mark marks) (sym e) ∙ w.placed i m) in omega arith)

  kept_done : (v d : ℕ) → mark marks v ≡ Done d → mark new v ≡ Done d
  kept_done v d e = kept v (λ i f. absurd (at_done i d (sym f ∙ e))) ∙ e

  kept_at : (i : ℕ) → i < s → mark new (at path i) ≡ At i
  kept_at i h =
      let m : mark marks (at path i) ≡ At i = w.placed i (let k = s_inside in omega arith) in
      kept (at path i) (λ j f. subst (λ z. z < s) (at_same i j (sym m ∙ f)) h) ∙ m

  abbrev IsOfLast : ℕ → ℕ → Type 0
  IsOfLast v d = (d ≡ count) × (i : ℕ) × (s ≤ i) × (i < length path) × (at path i ≡ v)

  known : (v : ℕ) → ((mark new v ≡ mark marks v) × ((i : ℕ) → mark marks v ≡ At i → i < s)) ⊎ ((mark new v ≡ Done count) × (i : ℕ) × (s ≤ i) × (i < length path) × (at path i ≡ v))
  known v = by (which (mark marks v))
    where
      by : (mark marks v ≡ New) ⊎ (((i : ℕ) × (mark marks v ≡ At i)) ⊎ ((c : ℕ) × (mark marks v ≡ Done c)))
          → ((mark new v ≡ mark marks v) × ((i : ℕ) → mark marks v ≡ At i → i < s)) ⊎ ((mark new v ≡ Done count) × (i : ℕ) × (s ≤ i) × (i < length path) × (at path i ≡ v))
      by (inl e) = let h : (i : ℕ) → mark marks v ≡ At i → i < s = λ i f. absurd (new_at i (sym e ∙ f)) in inl (kept v h, h)
      by (inr (inr (d, e))) = let h : (i : ℕ) → mark marks v ≡ At i → i < s = λ i f. absurd (at_done i d (sym f ∙ e)) in inl (kept v h, h)
      by (inr (inl (i, e))) = on (cases_lt i s) (w.on_path v i e)
        where
          on : (i < s) ⊎ (s ≤ i) → (i < length path) × (at path i ≡ v)
              → ((mark new v ≡ mark marks v) × ((i : ℕ) → mark marks v ≡ At i → i < s)) ⊎ ((mark new v ≡ Done count) × (i : ℕ) × (s ≤ i) × (i < length path) × (at path i ≡ v))
          on (inl h) p = let k : (j : ℕ) → mark marks v ≡ At j → j < s = λ j f. subst (λ z. z < s) (at_same i j (sym e ∙ f)) h in inl (kept v k, k)
          on (inr h) p = inr (ap (mark new) (sym p.1) ∙ c.gets i h p.0, i, h, p.0, p.1)

  done_cases : (v d : ℕ) → mark new v ≡ Done d → (mark marks v ≡ Done d) ⊎ IsOfLast v d
  done_cases v d e = by (known v)
    where
      by : ((mark new v ≡ mark marks v) × ((i : ℕ) → mark marks v ≡ At i → i < s)) ⊎ ((mark new v ≡ Done count) × (i : ℕ) × (s ≤ i) × (i < length path) × (at path i ≡ v))
          → (mark marks v ≡ Done d) ⊎ IsOfLast v d
      by (inl k) = inl (sym k.0 ∙ e)
      by (inr k) = inr (done_same d count (sym e ∙ k.0), k.1, k.2, k.3, k.4)

  at_cases : (v i : ℕ) → mark new v ≡ At i → (mark marks v ≡ At i) × (i < s)
  at_cases v i e = by (known v)
    where
      by : ((mark new v ≡ mark marks v) × ((i : ℕ) → mark marks v ≡ At i → i < s)) ⊎ ((mark new v ≡ Done count) × (i : ℕ) × (s ≤ i) × (i < length path) × (at path i ≡ v))
          → (mark marks v ≡ At i) × (i < s)
      by (inl k) = let f : mark marks v ≡ At i = sym k.0 ∙ e in (f, k.1 i f)
      by (inr k) = absurd (at_done i count (sym e ∙ k.0))

  -- the block
  block : (i j : ℕ) → s ≤ i → s ≤ j → i < length path → j < length path → Reaches pairs (at path i) (at path j)
  block i j h k l m = by (cases_lt i j)
    where
      by : (i < j) ⊎ (j ≤ i) → Reaches pairs (at path i) (at path j)
      by (inl o) = w.onward i j (omega arith) m
      by (inr o) = w.joined j i o l (λ b. let z = most b.0 b.1 in let y = b.2 in omega arith)

  pub closed_walk : IsWalk n pairs [] new front work starts (count + 1)
  closed_walk = record {
    size = c.size ∙ w.size;
    placed = λ i h. ap (mark new) (at_front i (whole i h)) ∙ kept_at i (whole i h);
    on_path = λ v i e. let k = at_cases v i e in (part i k.1, at_front i k.1 ∙ (w.on_path v i k.0).1);
    numbered = λ v d e. elim (done_cases v d e) [ inl f ↦ (let h = w.numbered v d f in omega arith) | inr f ↦ (let h = f.0 in omega arith) ];
    met = met;
    together = together;
    closed = closed;
    onward = λ i j h k. subst (λ z. Reaches pairs z (at front j)) (sym (at_front i (let l = whole j k in omega arith)))
        (subst (Reaches pairs (at path i)) (sym (at_front j (whole j k))) (w.onward i j h (let l = whole j k in let m = s_inside in omega arith)));
    joined = λ i j h k none. subst (λ z. Reaches pairs z (at front i)) (sym (at_front j (whole j k)))
        (subst (Reaches pairs (at path j)) (sym (at_front i (let l = whole j k in omega arith)))
        (w.joined i j h (let l = whole j k in let m = s_inside in omega arith) (λ b. none (between i j (whole j k) b))));
    rising = rising_front starts ((s, t) ∷ []) w.rising;
    inside = λ b i. (part b.0 (earlier b i), (w.inside b (In-left b starts ((s, t) ∷ []) i)).1);
    first = λ h. first (whole 0 h);
    sources = sources;
    gone = λ i x h p. inl (gone i x (whole i h) (subst (λ z. IsMember (z, x) pairs) (at_front i (whole i h)) p));
    ahead = λ i x h j. absurd j;
  }
    where
      between : (i j : ℕ) → j < s → Between (starts ++ (s, t) ∷ []) i j → Between starts i j
      between i j h (b, k, l, m) = by (In-append b starts ((s, t) ∷ []) k)
        where
          by : IsMember b starts ⊎ IsMember b ((s, t) ∷ []) → Between starts i j
          by (inl q) = (b, q, l, m)
          by (inr (inl e)) = absurd (let f : b.0 ≡ s = ap (λ p. p.0) e in omega arith)
          by (inr (inr q)) = absurd q

      met : (d : ℕ) → d < count + 1 → (v : ℕ) × (mark new v ≡ Done d)
      met d h = by (cases_eq d count)
        where
          by : (d ≡ count) ⊎ (d ≡ count → ⊥) → (v : ℕ) × (mark new v ≡ Done d)
          by (inl e) = (at path s, c.gets s (omega arith) s_inside ∙ ap Done (sym e))
          by (inr e) = let k = w.met d (omega arith) in (k.0, kept_done k.0 d k.1)

      together : (a b d : ℕ) → mark new a ≡ Done d → mark new b ≡ Done d → Reaches pairs a b
      together a b d e f = by (done_cases a d e) (done_cases b d f)
        where
          by : (mark marks a ≡ Done d) ⊎ IsOfLast a d → (mark marks b ≡ Done d) ⊎ IsOfLast b d → Reaches pairs a b
          by (inl g) (inl h) = w.together a b d g h
          by (inl g) (inr h) = absurd (let k : d < count = w.numbered a d g in let l : d ≡ count = h.0 in omega arith)
          by (inr g) (inl h) = absurd (let k : d < count = w.numbered b d h in let l : d ≡ count = g.0 in omega arith)
          by (inr (_, i, g, gi, ga)) (inr (_, j, h, hi, ha)) = subst (λ z. Reaches pairs z b) ga (subst (Reaches pairs (at path i)) ha (block i j g h gi hi))

      closed : (a b d : ℕ) → IsMember (a, b) pairs → mark new a ≡ Done d → (e : ℕ) × (mark new b ≡ Done e) × (e ≤ d)
      closed a b d p e = by (done_cases a d e)
        where
          by : (mark marks a ≡ Done d) ⊎ IsOfLast a d → (e : ℕ) × (mark new b ≡ Done e) × (e ≤ d)
          by (inl f) = let k = w.closed a b d p f in (k.0, kept_done b k.0 k.1, k.2)
          by (inr (is, i, f, g, h)) = on (w.gone i b g (subst (λ z. IsMember (z, b) pairs) (sym h) p))
            where
              on : IsMet marks path work (starts ++ (s, t) ∷ []) i b ⊎ IsMember b [] → (e : ℕ) × (mark new b ≡ Done e) × (e ≤ d)
              on (inl (inl (x, k))) = (x, kept_done b x k, (let l = w.numbered b x k in omega arith))
              on (inl (inr (inl (j, k, l, m)))) = (count, ap (mark new) (sym l) ∙ c.gets j (after (cases_lt j s)) k, omega arith)
                where
                  after : (j < s) ⊎ (s ≤ j) → s ≤ j
                  after (inl o) = absurd (m ((s, t), last, o, f))
                  after (inr o) = o
              on (inl (inr (inr (k, l, m, o)))) = absurd (let q : t ≤ k = o (s, t) last f in omega arith)
              on (inr j) = absurd j

      first : 0 < s → (u : ℕ) × IsMember (0, u) starts
      first h = let k = w.first (let l = s_inside in omega arith) in by k.0 (In-append (0, k.0) starts ((s, t) ∷ []) k.1)
        where
          by : (u : ℕ) → IsMember (0, u) starts ⊎ IsMember {X = ℕ × ℕ} (0, u) ((s, t) ∷ []) → (u : ℕ) × IsMember (0, u) starts
          by u (inl i) = (u, i)
          by u (inr (inl e)) = absurd (let f : 0 ≡ s = ap (λ p. p.0) e in omega arith)
          by u (inr (inr i)) = absurd i

      sources : (k : ℕ) → k < length work
          → (i : ℕ) × (i < length front) × IsMember (at front i, at work k) pairs × ((b : ℕ × ℕ) → IsMember b starts → (b.1 ≤ k) ↔ (b.0 ≤ i))
      sources k h = by (w.sources k h)
        where
          by : (i : ℕ) × (i < length path) × IsMember (at path i, at work k) pairs × ((b : ℕ × ℕ) → IsMember b (starts ++ (s, t) ∷ []) → (b.1 ≤ k) ↔ (b.0 ≤ i))
              → (i : ℕ) × (i < length front) × IsMember (at front i, at work k) pairs × ((b : ℕ × ℕ) → IsMember b starts → (b.1 ≤ k) ↔ (b.0 ≤ i))
          by (i, l, p, q) =
              let o : i < s = before (cases_lt i s) in
              (i, part i o, subst (λ z. IsMember (z, at work k) pairs) (sym (at_front i o)) p, λ b j. q b (In-left b starts ((s, t) ∷ []) j))
            where
              before : (i < s) ⊎ (s ≤ i) → i < s
              before (inl o) = o
              before (inr o) = absurd (let f : t ≤ k = (q (s, t) last).1 o in omega arith)

      gone : (i x : ℕ) → i < s → IsMember (at path i, x) pairs → IsMet new front work starts i x
      gone i x h p = on (w.gone i x (let l = s_inside in omega arith) p)
        where
          on : IsMet marks path work (starts ++ (s, t) ∷ []) i x ⊎ IsMember x [] → IsMet new front work starts i x
          on (inl (inl (d, k))) = inl (d, kept_done x d k)
          on (inl (inr (inl (j, k, l, m)))) = by (cases_lt j s)
            where
              by : (j < s) ⊎ (s ≤ j) → IsMet new front work starts i x
              by (inl o) = inr (inl (j, part j o, at_front j o ∙ l, λ b. m (b.0, In-left b.0 starts ((s, t) ∷ []) b.1, b.2, b.3)))
              by (inr o) = inl (count, ap (mark new) (sym l) ∙ c.gets j o k)
          on (inl (inr (inr (k, l, m, o)))) = inr (inr (k, l, m, λ b j. o b (In-left b starts ((s, t) ∷ []) j)))
          on (inr j) = absurd j
