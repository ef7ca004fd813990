-- Statements among parts.
use Rattle.std.proofs.Common.{◌≡◌, ◌∙◌, refl, sym, ap, arith, ℕ, suc, ◌+◌, Bool, List, [], ◌∷◌, ◌++◌, map, Option, Some, None, Result, Ok, Err, OnOk, append_assoc}
use Rattle.std.proofs.lemmas.List.{map-append}
use Rattle.nest.proofs.Equations.{part_of-run}
use Rattle.nest.specs.Plain.{Guarded, Made, Nest, Part, Run}
use Rattle.dependence_graph.specs.declared.graphs.Place.{Place}
use Rattle.tree.specs.Plain.{Reference}
use Rattle.node_splitting.specs.Reads.{read_copied, copies_of}
use Rattle.node_splitting.specs.Split.{if_copied, made_arrays, with_copy_arrays, with_nodes_split}
use Rattle.nest.specs.View.{guarded_of, part_of}
use Rattle.nest.specs.declared.parts.GuardedStmt.{GuardedStmt}
use Rattle.nest.specs.declared.parts.Part as declared
use Rattle.nest.specs.declared.parts.Part.TheVariants as variants

pub pushed-run : {A E : Type 0} (r : Result A E) (made new : List declared.Part) (s : GuardedStmt) (g : Guarded) → guarded_of s ≡ g
    → OnOk r (new ≡ made ++ variants.Run s ∷ []) → OnOk r (map part_of new ≡ map part_of made ++ Run g ∷ [])
pushed-run (Ok x) made new s g same now =
    ap (map part_of) now ∙ map-append part_of made (variants.Run s ∷ [])
    ∙ ap (λ (p : Part). map part_of made ++ p ∷ []) (part_of-run s ∙ ap (λ (h : Guarded). Run h) same)
pushed-run (Err e) made new s g same now = now

-- one copy more, and then the others
pub copies_added : {A E : Type 0} (r : Result A E) (f : Guarded → Guarded) (e : ℕ → Reference) (g copy : Guarded) (c d : ℕ) (x : Reference) (xs all : List Reference) (old between new : List Part)
    → d ≡ 1 + c → copy ≡ read_copied e g c x → all ≡ x ∷ xs → between ≡ old ++ Run (f copy) ∷ []
    → OnOk r (new ≡ between ++ map Run (map f (copies_of e g d xs))) → OnOk r (new ≡ old ++ map Run (map f (copies_of e g c all)))
copies_added (Ok y) f e g copy c d x xs all old between new h is are b k =
    let next : d ≡ suc c = omega (arith, h) in
    k ∙ (ap (λ zs. zs ++ map Run (map f (copies_of e g d xs))) b
    ∙ (append_assoc old (Run (f copy) ∷ []) (map Run (map f (copies_of e g d xs)))
    ∙ ((λ i. old ++ Run (f (is i)) ∷ map Run (map f (copies_of e g (next i) xs)))
    ∙ ap (λ (rs : List Reference). old ++ map Run (map f (copies_of e g c rs))) (sym are))))
copies_added (Err y) f e g copy c d x xs all old between new h is are b k = k

-- the copies, and then the statement
pub each_added : {A E : Type 0} (r : Result A E) (f : Guarded → Guarded) (gs : List Guarded) (g : Guarded) (old between new : List Part)
    → between ≡ old ++ map Run (map f gs) → OnOk r (new ≡ between ++ Run (f g) ∷ []) → OnOk r (new ≡ old ++ map Run (map f (gs ++ g ∷ [])))
each_added (Ok x) f gs g old between new h k =
    k ∙ (ap (λ zs. zs ++ Run (f g) ∷ []) h
    ∙ (append_assoc old (map Run (map f gs)) (Run (f g) ∷ [])
    ∙ ap (λ zs. old ++ zs) (sym (ap (map Run) (map-append f gs (g ∷ [])) ∙ map-append Run (map f gs) (f g ∷ [])))))
each_added (Err x) f gs g old between new h k = k

-- ---- the nest

module _ (may : Place → Bool) (n : Nest) where
  pub none_split : made_arrays may n ≡ [] → None ≡ with_nodes_split may n
  unfolding with_nodes_split
  none_split e = sym (ap (if_copied may n) e)

  some_arrays : (as' : List Made) → (as' ≡ [] → ⊥) → if_copied may n as' ≡ Some (with_copy_arrays may n as')
  some_arrays [] h = absurd (h refl)
  some_arrays (a ∷ as') h = refl

  pub some_split : (new : Nest) (as' : List Made) → as' ≡ made_arrays may n → (as' ≡ [] → ⊥) → new ≡ with_copy_arrays may n as' → Some new ≡ with_nodes_split may n
  unfolding with_nodes_split
  some_split new as' e h k = ap (λ (m : Nest). Some m) k ∙ (sym (some_arrays as' h) ∙ ap (if_copied may n) e)

pub map_filled : {A B : Type 0} (f : A → B) (xs : List A) → (xs ≡ [] → ⊥) → map f xs ≡ [] → ⊥
map_filled f [] h e = h refl
map_filled f (x ∷ xs) h e = cc

pub ruleset run_laws = (part_of-run, map-append)

pub ruleset copies_laws = (append_assoc)
