-- What is listed of a nest is what stands for its parts, where each of its loops has a form from 1 by 1.
use Rattle.std.proofs.Common.{◌≡◌, refl, sym, ap, subst, ◌∙◌, Bool, true, false, true≢false, ◌&&◌, cond, is_some, Option, Some, None, List, [], ◌∷◌, ◌++◌, length}
use Rattle.std.specs.Option.{option_map}
use Rattle.tree.specs.Plain.{Block}
use Rattle.nest.specs.Bodies.{loops_of, statements_of}
use Rattle.nest.specs.Plain.{Branches, Choice, Jump, Label, Loop, Nest, Part, Parts, Run, Turns, branch, no_branches, no_parts}
use Rattle.nest.specs.Plain.{part, parts}
use Rattle.last_values.specs.Behind.{stands_behind}
use Rattle.last_values.specs.InPlace.{assigned_part, end_part, first_text, own_trip_text}
use Rattle.last_values.specs.PartsInPlace.{only_where_part, parts_before, parts_behind}
use Rattle.last_values.specs.ValuesBehind.{values_behind}
use Rattle.last_values.specs.normal_forms.NormalLoops.{is_positive, is_known, normal_loop}
use Rattle.last_values.specs.normal_forms.Steps.{◌>>=◌}
use Rattle.last_values.specs.normal_forms.Texts.{at_least_one}
use Rattle.last_values.specs.declared.behind.NestedLoop.{NestedLoop}
use Rattle.last_values.specs.declared.normal_forms.loops.NormalLoop.{NormalLoop}
use Rattle.normal_loops.specs.Bodies.{normal_branches, normal_part, normal_parts, normal_turns, placed_loop}
use Rattle.normal_loops.specs.Counting.{counting}
use Rattle.normal_loops.specs.Listed.{HasNormalLoops, listed_branches, listed_part, listed_parts, with_last_value}
use Rattle.normal_loops.specs.Loops.{nested_loops, with_loop}
use Rattle.normal_loops.specs.Normal.{are_normal, are_normal_branches, is_normal}
use Rattle.normal_loops.specs.Normalised.{normalised, only_one, with_body, with_loops}
use Rattle.normal_loops.specs.Tests.{normal_test}
use Rattle.pass_laws.specs.listed_nests.Laws.{ListedNestIsNormal, ListedNestIsOne, NormalNestIsListed}

nothing_is : {A : Type 0} (x : A) → None ≡ Some x → ⊥
nothing_is x e = let no : ⊥ = cc in no

-- ---- what may have no result

abbrev chosen : {A : Type 0} → Bool → A → Option A
chosen b x = cond b (Some x) None

chosen_is : {A : Type 0} (b : Bool) (x y : A) → chosen b x ≡ Some y → (b ≡ true) × (x ≡ y)
chosen_is true x y e = let same : x ≡ y = cc in (refl, same)
chosen_is false x y e = absurd (nothing_is y e)

one_by_one : {A B C : Type 0} (f : A → B → C) (a b : Bool) (u : A) (v : B)
    → (chosen a u >>= (λ (p : A). chosen b v >>= (λ (q : B). Some (f p q)))) ≡ chosen (a && b) (f u v)
one_by_one f true true u v = refl
one_by_one f true false u v = refl
one_by_one f false b u v = refl

joined : {A B C : Type 0} (f : A → B → C) (a b : Bool) (u : A) (v : B) (x : Option A) (y : Option B) → x ≡ chosen a u → y ≡ chosen b v
    → (x >>= (λ (p : A). y >>= (λ (q : B). Some (f p q)))) ≡ chosen (a && b) (f u v)
joined {A} {B} f a b u v x y e g =
    ap (λ (z : Option A). z >>= (λ (p : A). y >>= (λ (q : B). Some (f p q)))) e
    ∙ ap (λ (z : Option B). chosen a u >>= (λ (p : A). z >>= (λ (q : B). Some (f p q)))) g ∙ one_by_one f a b u v

module _ (n : Nest) where
  abbrev all : List NestedLoop
  all = nested_loops n.symbols [] n.body

  -- ---- a loop with its variable's last value in place

  module _ (round : List NormalLoop) (r : NormalLoop) (p : Part) where
    abbrev first : Part
    first = assigned_part n.line r.variable (first_text n.symbols round r)

    abbrev end : Part
    end = end_part n.symbols n.line round r

    abbrev test : Part
    test = only_where_part (at_least_one (own_trip_text n.symbols round r)) (end ∷ [])

    -- by whether the value stands behind, whether the loop turns, and whether that is known
    abbrev made_by : (b c d : Bool) → List Part
    made_by b c d = cond b (p ∷ []) (cond c [] (first ∷ []) ++ p ∷ cond c (end ∷ []) (cond d [] (test ∷ [])))

    abbrev listed_by : (b c d : Bool) → List Part
    listed_by b c d =
        cond b (p ∷ []) (cond c (p ∷ end ∷ []) (cond d (first ∷ p ∷ []) (first ∷ p ∷ test ∷ [])))

    made_is : placed_loop n all round r p
        ≡ made_by (stands_behind (length n.symbols) all n.body r.variable) (is_positive r.trip) (is_known r.trip)
    unfolding parts_before parts_behind
    made_is = refl

    by_cases : (b c d : Bool) → listed_by b c d ≡ made_by b c d
    by_cases true c d = refl
    by_cases false true d = refl
    by_cases false false true = refl
    by_cases false false false = refl

    placed_is : with_last_value n round r p ≡ placed_loop n all round r p
    placed_is =
        by_cases (stands_behind (length n.symbols) all n.body r.variable) (is_positive r.trip) (is_known r.trip) ∙ sym made_is

  -- ---- what stands for a part is listed

  abbrev AreListedSo : List NormalLoop → Parts → Type 0
  AreListedSo round ps =
      listed_parts n round ps ≡ chosen (are_normal n.symbols round ps) (normal_parts n all round ps)

  abbrev turned : List NormalLoop → Loop → NormalLoop → List Part → Part
  turned round l r qs = Turns (counting n.symbols round l r) (parts qs)

  abbrev then_placed : List NormalLoop → Loop → NormalLoop → List Part → Option (List Part)
  then_placed round l r qs = Some (with_last_value n round r (turned round l r qs))

  abbrev listed_turns : List NormalLoop → Loop → Parts → Option NormalLoop → Option (List Part)
  listed_turns round l ps o = o >>= (λ r. listed_parts n (round ++ r ∷ []) ps >>= then_placed round l r)

  placed_by : (round : List NormalLoop) (l : Loop) (r : NormalLoop) (qs : List Part) (b : Bool)
      → (chosen b qs >>= then_placed round l r) ≡ chosen b (placed_loop n all round r (turned round l r qs))
  placed_by round l r qs true = ap Some (placed_is round r (turned round l r qs))
  placed_by round l r qs false = refl

  turns_listed : (round : List NormalLoop) (l : Loop) (ps : Parts) (o : Option NormalLoop) → ((outer : List NormalLoop) → AreListedSo outer ps)
      → listed_turns round l ps o
      ≡ chosen (is_some o && are_normal n.symbols (with_loop round o) ps) (normal_turns n all round l o (normal_parts n all (with_loop round o) ps))
  turns_listed round l ps None each = refl
  turns_listed round l ps (Some r) each =
      let inner = round ++ r ∷ [] in
      ap (λ (x : Option (List Part)). x >>= then_placed round l r) (each inner)
      ∙ placed_by round l r (normal_parts n all inner ps) (are_normal n.symbols inner ps)

  mutual
    part_listed : (round : List NormalLoop) (p : Part)
        → listed_part n round p ≡ chosen (is_normal n.symbols round p) (normal_part n all round p)
    part_listed round (Run s) = refl
    part_listed round (Turns l ps) =
        turns_listed round l ps (normal_loop n.symbols round l) (λ outer. parts_listed outer ps)
    part_listed round (Choice bs ps) =
        joined (λ (cs : Branches) (qs : List Part). Choice cs (parts qs) ∷ []) (are_normal_branches n.symbols round bs)
        (are_normal n.symbols round ps) (normal_branches n all round bs) (normal_parts n all round ps)
        (listed_branches n round bs) (listed_parts n round ps) (branches_listed round bs) (parts_listed round ps)
    part_listed round (Label k) = refl
    part_listed round (Jump k) = refl

    parts_listed : (round : List NormalLoop) (ps : Parts) → AreListedSo round ps
    parts_listed round no_parts = refl
    parts_listed round (part p ps) =
        joined (λ (qs rs : List Part). qs ++ rs) (is_normal n.symbols round p) (are_normal n.symbols round ps)
        (normal_part n all round p) (normal_parts n all round ps) (listed_part n round p) (listed_parts n round ps)
        (part_listed round p) (parts_listed round ps)

    branches_listed : (round : List NormalLoop) (bs : Branches)
        → listed_branches n round bs ≡ chosen (are_normal_branches n.symbols round bs) (normal_branches n all round bs)
    branches_listed round no_branches = refl
    branches_listed round (branch test ps bs) =
        joined (λ (qs : List Part) (cs : Branches). branch (normal_test n.symbols round test) (parts qs) cs)
        (are_normal n.symbols round ps) (are_normal_branches n.symbols round bs) (normal_parts n all round ps)
        (normal_branches n all round bs) (listed_parts n round ps) (listed_branches n round bs)
        (parts_listed round ps) (branches_listed round bs)

-- ---- the nest

body_is : (n : Nest) (more : Block) (p : Part) → (with_body n more p).body ≡ p
unfolding with_body
body_is n more p = refl

rest_is : (n : Nest) (more : Block) (p : Part)
    → with_body n more p ≡ record n { body = (with_body n more p).body; after = (with_body n more p).after }
unfolding with_body
rest_is n more p = refl

module _ (n m : Nest) where
  abbrev more : Block
  more = values_behind n.symbols n.line (all n) n.body

  listed_with : is_normal n.symbols [] n.body ≡ true → (ps : List Part) → normal_part n (all n) [] n.body ≡ ps
      → option_map (with_body n more) (only_one ps) ≡ Some m → HasNormalLoops n m
  listed_with t [] e h = let no : ⊥ = cc in absurd no
  listed_with t (p ∷ []) e h =
      let same : with_body n more p ≡ m = cc in
      let its : p ∷ [] ≡ m.body ∷ [] = ap (λ (q : Part). q ∷ []) (sym (body_is n more p) ∙ ap (λ (k : Nest). k.body) same) in
      let body : normal_part n (all n) [] n.body ≡ m.body ∷ [] = e ∙ its in
      record {
        body = part_listed n [] n.body ∙ ap (λ (b : Bool). chosen b (normal_part n (all n) [] n.body)) t ∙ ap Some body;
        rest = subst (λ (k : Nest). k ≡ record n { body = k.body; after = k.after }) same (rest_is n more p);
      }
  listed_with t (p ∷ q ∷ ps) e h = let no : ⊥ = cc in absurd no

  by_loops : is_normal n.symbols [] n.body ≡ true → with_loops n (all n) ≡ Some m → HasNormalLoops n m
  unfolding with_loops
  by_loops t h = listed_with t (normal_part n (all n) [] n.body) refl h

  by_forms : (b : Bool) → is_normal n.symbols [] n.body ≡ b → cond b (with_loops n (all n)) None ≡ Some m → HasNormalLoops n m
  by_forms true t h = by_loops t h
  by_forms false t h = absurd (nothing_is m h)

  made_with : (ps : List Part) → ps ≡ m.body ∷ [] → option_map (with_body n more) (only_one ps) ≡ Some (with_body n more m.body)
  made_with ps e = ap (λ (qs : List Part). option_map (with_body n more) (only_one qs)) e

  loops_made : normal_part n (all n) [] n.body ≡ m.body ∷ [] → with_loops n (all n) ≡ Some (with_body n more m.body)
  unfolding with_loops
  loops_made e = made_with (normal_part n (all n) [] n.body) e

  forms_made : (b : Bool) → b ≡ true → with_loops n (all n) ≡ Some (with_body n more m.body)
      → cond b (with_loops n (all n)) None ≡ Some (with_body n more m.body)
  forms_made true t e = e
  forms_made false t e = absurd (true≢false (sym t))

  nest_made : is_normal n.symbols [] n.body ≡ true → normal_part n (all n) [] n.body ≡ m.body ∷ [] → normalised n ≡ Some (with_body n more m.body)
  unfolding normalised
  nest_made t e = forms_made (is_normal n.symbols [] n.body) t (loops_made e)

-- ---- the laws

pub normal_nest_is_listed : NormalNestIsListed
unfolding normalised
normal_nest_is_listed n m e = by_forms n m (is_normal n.symbols [] n.body) refl e

pub listed_nest_is_normal : ListedNestIsNormal
listed_nest_is_normal n m h =
    let it = chosen_is (is_normal n.symbols [] n.body) (normal_part n (all n) [] n.body) (m.body ∷ []) (sym (part_listed n [] n.body) ∙ h.body) in
    record {
      normal = with_body n (more n m) m.body;
      made = nest_made n m it.0 it.1;
      body = sym (body_is n (more n m) m.body);
    }

pub listed_nest_is_one : ListedNestIsOne
listed_nest_is_one n m k h i =
    let both_are : Some (m.body ∷ []) ≡ Some (k.body ∷ []) = sym h.body ∙ i.body in
    let same : m.body ≡ k.body = cc in (ap loops_of same, ap statements_of same)
