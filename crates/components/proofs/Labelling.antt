-- At the end of the walk all numbers have their classes.
use Rattle.std.proofs.Common.{◌≡◌, refl, sym, ap, ◌∙◌, subst, ◌⊎◌, inl, inr, ℕ, zero, suc, ◌<◌, ◌≤◌, List, [], ◌∷◌, length, map, arith}
use Rattle.std.proofs.lemmas.List.{length-map}
use Rattle.components.specs.Lists.{IsMember}
use Rattle.components.specs.Reachability.{AreBelow}
use Rattle.components.proofs.ListLaws.{Each-In}
use Rattle.components.proofs.Walks.{Reaches-others}
use Rattle.components.specs.declared.walk.NodeState.{NodeState}
use Rattle.components.specs.declared.walk.NodeState.TheVariants.{New, At, Done}
use Rattle.components.specs.Labels.{AreLabels, at}
use Rattle.components.specs.Targets.{AreInside, AreTargets, leads}
use Rattle.components.specs.Walking.{mark, label_of}
use Rattle.components.proofs.Parts.{IsState}
use Rattle.components.proofs.Leads.{leads-In, In-leads}
use Rattle.components.proofs.Weights.{listed, new_done, which}

pub inside_of_below : (n : ℕ) (pairs : List (ℕ × ℕ)) (rows : List (List ℕ)) → AreBelow n pairs → AreTargets n pairs rows → AreInside rows
inside_of_below n pairs rows below are a b i =
    subst (λ z. b < z) (sym are.count) (Each-In (λ p. (p.0 < n) × (p.1 < n)) pairs below (a, b) ((are.each a b).0 i)).1

label_at : (marks : List NodeState) (v : ℕ) → at (map label_of marks) v ≡ label_of (mark marks v)
label_at [] v = refl
label_at (m ∷ marks) zero = refl
label_at (m ∷ marks) (suc v) = label_at marks v

module _ (n : ℕ) (pairs : List (ℕ × ℕ)) (rows : List (List ℕ)) (below : AreBelow n pairs) (are : AreTargets n pairs rows)
    (marks : List NodeState) (path work : List ℕ) (starts : List (ℕ × ℕ)) (count : ℕ)
    (w : IsState rows [] marks path work starts count) (empty : path ≡ []) (all : (v : ℕ) → v < n → mark marks v ≡ New → ⊥)
    (labels : List ℕ) (is : labels ≡ map label_of marks) where
  size : length marks ≡ n
  size = w.0.size ∙ are.count

  done : (v : ℕ) → v < n → (c : ℕ) × (mark marks v ≡ Done c)
  done v h = by (which (mark marks v))
    where
      by : (mark marks v ≡ New) ⊎ (((i : ℕ) × (mark marks v ≡ At i)) ⊎ ((c : ℕ) × (mark marks v ≡ Done c))) → (c : ℕ) × (mark marks v ≡ Done c)
      by (inl e) = absurd (all v h e)
      by (inr (inl (i, e))) = absurd (let k = (w.0.on_path v i e).0 in let l = ap length empty in omega arith)
      by (inr (inr d)) = d

  label : (v c : ℕ) → mark marks v ≡ Done c → at labels v ≡ c
  label v c e = ap (λ z. at z v) is ∙ (label_at marks v ∙ ap label_of e)

  has_label : (v : ℕ) → v < n → mark marks v ≡ Done (at labels v)
  has_label v h = let d = done v h in d.1 ∙ ap Done (sym (label v d.0 d.1))

  is_pair : (p : ℕ × ℕ) → IsMember p (leads rows) → IsMember p pairs
  is_pair p i = (are.each p.0 p.1).0 (leads-In rows p.0 p.1 i)

  pub all_labelled : AreLabels n pairs count labels
  all_labelled = record {
    size = ap length is ∙ (length-map marks label_of ∙ size);
    below = λ a h. w.0.numbered a (at labels a) (has_label a h);
    met = λ c h. let k = w.0.met c h in
        (k.0, subst (λ z. k.0 < z) size (listed marks k.0 (λ e. new_done c (sym e ∙ k.1))), label k.0 c k.1);
    falling = λ a b h p. let k = w.0.closed a b (at labels a) (In-leads rows a b ((are.each a b).1 p)) (has_label a h) in
        subst (λ z. z ≤ at labels a) (sym (label b k.0 k.1)) k.2;
    together = λ a b h k e. Reaches-others (leads rows) pairs is_pair a b
        (w.0.together a b (at labels a) (has_label a h) (has_label b k ∙ ap Done (sym e)));
  }
