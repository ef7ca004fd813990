-- An array assignment that stands for instances stores what they store.
use Rattle.std.proofs.Common.{◌≡◌, refl, sym, ap, ◌∙◌, subst, ◌⊎◌, inl, inr, List, [], ◌∷◌, Result, Ok, Option, Some, None, Contains}
use Rattle.tree.specs.declared.ops.Fault.{Fault}
use Rattle.tree.specs.declared.ops.Value.{Value}
use Rattle.meaning.specs.ArrayValues.{each, positions}
use Rattle.meaning.specs.Sections.{extents_of}
use Rattle.meaning.specs.Store.{Store, Cell}
use Rattle.meaning_laws.specs.arrays.Assignments.{element_assigned, elements_assigned}
use Rattle.meaning_laws.specs.arrays.Forms.{ArrayFormIsInstances}
use Rattle.meaning_laws.specs.arrays.Instances.{Instance, puts, writes_in}
use Rattle.meaning_laws.proofs.arrays.Assignments.{effects_are_writes}
use Rattle.meaning_laws.proofs.arrays.Members.{here, there, nowhere, cases_of, in_map, of_map}
use Rattle.meaning_laws.proofs.arrays.Orders.{writes_in_any_order}
use Rattle.meaning_laws.proofs.arrays.Stages.{bound, same_answer, Split, split, joined}
use Rattle.meaning_laws.proofs.arrays.Turns.{in_turn_is_at_once}

abbrev pub effect_in : Store → Instance → Result (Option (Cell × Value)) Fault
effect_in s x = x.effect s

-- ---- whose effect a write is

-- the effect of each has a member's
pub effect_of : (s : Store) (xs : List Instance) (os : List (Option (Cell × Value))) → each (effect_in s) xs ≡ Ok os → (x : Instance) → Contains xs x → (o : Option (Cell × Value)) × (x.effect s ≡ Ok o) × Contains os o
effect_of s [] os e x c = absurd (nowhere x c)
effect_of s (y ∷ ys) os e x c =
    let p = split (effect_in s) y ys os e in
    by p (cases_of y ys x c) (effect_of s ys p.others p.later x)
  where
    by : (p : Split (effect_in s) y ys os) → (y ≡ x) ⊎ Contains ys x → (Contains ys x → (o : Option (Cell × Value)) × (x.effect s ≡ Ok o) × Contains p.others o) → (o : Option (Cell × Value)) × (x.effect s ≡ Ok o) × Contains os o
    by p (inl q) more = (p.one, ap (effect_in s) (sym q) ∙ p.first, subst (λ zs. Contains zs p.one) p.are (here p.one p.others))
    by p (inr k) more = let o = more k in (o.0, o.1, subst (λ zs. Contains zs o.0) p.are (there p.one p.others o.0 o.2))

-- and each of these is a member's
pub whose_effect : (s : Store) (xs : List Instance) (os : List (Option (Cell × Value))) → each (effect_in s) xs ≡ Ok os → (o : Option (Cell × Value)) → Contains os o → (x : Instance) × Contains xs x × (x.effect s ≡ Ok o)
whose_effect s [] os e o c = absurd (nowhere o (subst (λ zs. Contains zs o) (sym (same_answer [] os e)) c))
whose_effect s (y ∷ ys) os e o c =
    let p = split (effect_in s) y ys os e in
    by p (cases_of p.one p.others o (subst (λ zs. Contains zs o) (sym p.are) c)) (whose_effect s ys p.others p.later o)
  where
    by : (p : Split (effect_in s) y ys os) → (p.one ≡ o) ⊎ Contains p.others o → (Contains p.others o → (x : Instance) × Contains ys x × (x.effect s ≡ Ok o)) → (x : Instance) × Contains (y ∷ ys) x × (x.effect s ≡ Ok o)
    by p (inl q) more = (y, here y ys, p.first ∙ ap Ok q)
    by p (inr k) more = let x = more k in (x.0, there y ys x.0 x.1, x.2)

write_in : (os : List (Option (Cell × Value))) (w : Cell × Value) → Contains os (Some w) → Contains (writes_in os) w
write_in [] w c = absurd (nowhere (Some w) c)
write_in (None ∷ os) w c = by (cases_of None os (Some w) c) (write_in os w)
  where
    by : (None ≡ Some w) ⊎ Contains os (Some w) → (Contains os (Some w) → Contains (writes_in os) w) → Contains (writes_in os) w
    by (inl q) more = absurd cc
    by (inr k) more = more k
write_in (Some u ∷ os) w c = by (cases_of (Some u) os (Some w) c) (write_in os w)
  where
    by : (Some u ≡ Some w) ⊎ Contains os (Some w) → (Contains os (Some w) → Contains (writes_in os) w) → Contains (u ∷ writes_in os) w
    by (inl q) more = let same : u ≡ w = cc in subst (Contains (u ∷ writes_in os)) same (here u (writes_in os))
    by (inr k) more = there u (writes_in os) w (more k)

pub of_write : (os : List (Option (Cell × Value))) (w : Cell × Value) → Contains (writes_in os) w → Contains os (Some w)
of_write [] w c = absurd (nowhere w c)
of_write (None ∷ os) w c = there None os (Some w) (of_write os w c)
of_write (Some u ∷ os) w c = by (cases_of u (writes_in os) w c) (of_write os w)
  where
    by : (u ≡ w) ⊎ Contains (writes_in os) w → (Contains (writes_in os) w → Contains os (Some w)) → Contains (Some u ∷ os) (Some w)
    by (inl q) more = subst (λ v. Contains (Some u ∷ os) (Some v)) q (here (Some u) os)
    by (inr k) more = there (Some u) os (Some w) (more k)

-- ---- all have an effect where each has one

all_known : (s : Store) (xs : List Instance) → ((x : Instance) → Contains xs x → (o : Option (Cell × Value)) × (x.effect s ≡ Ok o)) → (os : List (Option (Cell × Value))) × (each (effect_in s) xs ≡ Ok os)
all_known s [] h = ([], refl)
all_known s (x ∷ xs) h =
    let one = h x (here x xs) in
    let more = all_known s xs (λ y c. h y (there x xs y c)) in
    (one.0 ∷ more.0, joined (effect_in s) x xs one.0 more.0 one.1 more.1)

pub array_form_is_instances : ArrayFormIsInstances
array_form_is_instances d mask right left axes ns xs s t e shape from none run stands apart =
    let js = elements_assigned d mask left right axes in
    let once = sym (in_turn_is_at_once xs s from none) ∙ run in
    let o = bound (each (effect_in s) xs) (λ os. Ok (puts (writes_in os) s)) t once in
    let u = all_known s js (known o.0 o.1) in
    let writes = effects_are_writes d mask right left axes ns s u.0 e shape u.1 in
    (writes_in u.0, writes, writes_in_any_order (writes_in u.0) (writes_in o.0) s (λ w. (into o.0 o.1 u.0 u.1 w, out o.0 o.1 u.0 u.1 w)) (one_value o.0 o.1) ∙ same_answer (puts (writes_in o.0) s) t o.2)
  where
    -- an element's instance
    matched : (j : Instance) → Contains (elements_assigned d mask left right axes) j → (x : Instance) × Contains xs x × (j.effect s ≡ x.effect s)
    matched j c =
        let p = of_map (element_assigned d mask left right) (positions (extents_of axes)) j c in
        let x = stands.instance_of p.0 p.1 in
        (x.0, x.1, ap (effect_in s) (sym p.2) ∙ x.2)

    known : (os : List (Option (Cell × Value))) → each (effect_in s) xs ≡ Ok os → (j : Instance) → Contains (elements_assigned d mask left right axes) j → (o : Option (Cell × Value)) × (j.effect s ≡ Ok o)
    known os h j c = let x = matched j c in let o = effect_of s xs os h x.0 x.1 in (o.0, x.2 ∙ o.1)

    into : (os : List (Option (Cell × Value))) → each (effect_in s) xs ≡ Ok os → (us : List (Option (Cell × Value))) → each (effect_in s) (elements_assigned d mask left right axes) ≡ Ok us → (w : Cell × Value) → Contains (writes_in us) w → Contains (writes_in os) w
    into os h us k w c =
        let j = whose_effect s (elements_assigned d mask left right axes) us k (Some w) (of_write us w c) in
        let x = matched j.0 j.1 in
        let o = effect_of s xs os h x.0 x.1 in
        write_in os w (subst (Contains os) (same_answer o.0 (Some w) (sym o.1 ∙ (sym x.2 ∙ j.2))) o.2)

    out : (os : List (Option (Cell × Value))) → each (effect_in s) xs ≡ Ok os → (us : List (Option (Cell × Value))) → each (effect_in s) (elements_assigned d mask left right axes) ≡ Ok us → (w : Cell × Value) → Contains (writes_in os) w → Contains (writes_in us) w
    out os h us k w c =
        let x = whose_effect s xs os h (Some w) (of_write os w c) in
        let p = stands.position_of x.0 x.1 in
        let u = effect_of s (elements_assigned d mask left right axes) us k (element_assigned d mask left right p.0) (in_map (element_assigned d mask left right) (positions (extents_of axes)) p.0 p.1) in
        write_in us w (subst (Contains us) (same_answer u.0 (Some w) (sym u.1 ∙ (p.2 ∙ x.2))) u.2)

    one_value : (os : List (Option (Cell × Value))) → each (effect_in s) xs ≡ Ok os → (c : Cell) (v w : Value) → Contains (writes_in os) (c, v) → Contains (writes_in os) (c, w) → v ≡ w
    one_value os h c v w i k =
        let x = whose_effect s xs os h (Some (c, v)) (of_write os (c, v) i) in
        let y = whose_effect s xs os h (Some (c, w)) (of_write os (c, w) k) in
        apart x.0 y.0 c v w x.1 y.1 x.2 y.2
