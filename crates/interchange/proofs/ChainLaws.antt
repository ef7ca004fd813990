-- The statements of a chain stand in its loops.
use Rattle.std.proofs.Common.{◌≡◌, refl, sym, ap, ◌∙◌, subst, inl, inr, ℕ, suc, ◌≤◌, Bool, true, false, ◌&&◌, ◌==◌, cond, Option, Some, None, Result, Ok, Err, List, [], ◌∷◌, ◌++◌, length, map, arith, append_assoc, append-nil}
use Rattle.std.specs.Prelude.{All, IfOk}
use Rattle.std.specs.Option.{option_map}
use Rattle.std.proofs.lemmas.List.{length-map}
use Rattle.components.specs.Lists.{IsMember}
use Rattle.nest.specs.Bodies.{Standing, nest_statements, statements_in, statements_in_parts}
use Rattle.nest.specs.Plain.{Loop, Nest, Part, Parts, no_parts, part, parts, Run, Turns, Choice, Label, Jump}
use Rattle.nest.specs.View.{loop_of, nest_of, part_of}
use Rattle.nest.specs.declared.nests.Nest as declared_nests
use Rattle.nest.specs.declared.parts.Part as declared_parts
use Rattle.dependence_graph.specs.nest_graph.Ready.{HaveTrips, IsReady, IsReadyStatement}
use Rattle.interchange.specs.declared.chains.Chain as declared
use Rattle.interchange.specs.Chains.{Chain, are_statements, chain_in, chain_of, if_alone, is_statement_part, no_loops, chain_within}
use Rattle.interchange.specs.View as view

in_all : {X : Type 0} (P : X → Type 0) (xs : List X) → All P xs → (x : X) → IsMember x xs → P x
in_all P [] h x i = absurd i
in_all P (y ∷ xs) h x (inl e) = subst P (sym e) (h 0 y (omega arith))
in_all P (y ∷ xs) h x (inr i) = in_all P xs (λ k d g. h (suc k) d (omega arith)) x i

none_some : {A : Type 0} (x : A) → ◌≡◌ {A = Option A} None (Some x) → ⊥
none_some x e = cc

some_same : {A : Type 0} (x y : A) → ◌≡◌ {A = Option A} (Some x) (Some y) → x ≡ y
some_same x y e = cc

In_front : {X : Type 0} (x : X) (xs ys : List X) → IsMember x xs → IsMember x (xs ++ ys)
In_front x [] ys i = absurd i
In_front x (y ∷ xs) ys (inl e) = inl e
In_front x (y ∷ xs) ys (inr i) = inr (In_front x xs ys i)

-- a statement with just these loops round it
pub record StandsUnder (all : List Standing) (loops : List Loop) : Type 0 where
  pub standing : Standing
  pub among : IsMember standing all
  pub round : standing.loops ≡ loops

statement_is : (p : Part) (round : List Loop) → is_statement_part p ≡ true → StandsUnder (statements_in round p) round
statement_is (Run s) round e = record { standing = record { loops = round; statement = s }; among = inl refl; round = refl }
statement_is (Turns l ps) round e = cc
statement_is (Choice bs ps) round e = cc
statement_is (Label n) round e = cc
statement_is (Jump n) round e = cc

and_left : (a b : Bool) → a && b ≡ true → a ≡ true
and_left true b e = refl
and_left false b e = e

within_is : (l : Loop) (o : Option Chain) (c : Chain) → chain_within l o ≡ Some c → (d : Chain) × (o ≡ Some d) × (c.loops ≡ l ∷ d.loops)
within_is l None c e = absurd (none_some c e)
within_is l (Some d) c e = (d, refl, sym (ap (λ (z : Chain). z.loops) (some_same (record { loops = l ∷ d.loops; body = d.body }) c e)))

front : (xs ys : List Standing) (loops : List Loop) → StandsUnder xs loops → StandsUnder (xs ++ ys) loops
front xs ys loops h = record { standing = h.standing; among = In_front h.standing xs ys h.among; round = h.round }

mutual
  chain_stands : (p : Part) (round : List Loop) (c : Chain) → chain_of p ≡ Some c → StandsUnder (statements_in round p) (round ++ c.loops)
  chain_stands (Run s) round c e = absurd (none_some c e)
  chain_stands (Turns l ps) round c e =
      let h = within_is l (chain_in ps) c e in
      subst (StandsUnder (statements_in_parts (round ++ l ∷ []) ps)) (append_assoc round (l ∷ []) h.0.loops ∙ ap (λ zs. round ++ zs) (sym h.2))
      (chain_stands_in ps (round ++ l ∷ []) h.0 h.1)
  chain_stands (Choice bs ps) round c e = absurd (none_some c e)
  chain_stands (Label n) round c e = absurd (none_some c e)
  chain_stands (Jump n) round c e = absurd (none_some c e)

  chain_stands_in : (ps : Parts) (round : List Loop) (c : Chain) → chain_in ps ≡ Some c → StandsUnder (statements_in_parts round ps) (round ++ c.loops)
  chain_stands_in no_parts round c e = absurd (none_some c e)
  chain_stands_in (part p ps) round c e = by (are_statements (part p ps)) refl e (chain_stands p round)
    where
      alone : (ps : Parts) (o : Option Chain) → if_alone ps o ≡ Some c → o ≡ Some c
      alone no_parts o e = e
      alone (part q qs) o e = absurd (none_some c e)

      by : (b : Bool) → are_statements (part p ps) ≡ b → cond b (Some (no_loops (part p ps))) (if_alone ps (chain_of p)) ≡ Some c
          → ((d : Chain) → chain_of p ≡ Some d → StandsUnder (statements_in round p) (round ++ d.loops)) → StandsUnder (statements_in_parts round (part p ps)) (round ++ c.loops)
      by true f e more =
          let none : [] ≡ c.loops = ap (λ (z : Chain). z.loops) (some_same (no_loops (part p ps)) c e) in
          front (statements_in round p) (statements_in_parts round ps) (round ++ c.loops)
          (subst (StandsUnder (statements_in round p)) (sym (append-nil round) ∙ ap (λ zs. round ++ zs) none) (statement_is p round (and_left (is_statement_part p) (are_statements ps) f)))
      by false f e more = front (statements_in round p) (statements_in_parts round ps) (round ++ c.loops) (more c (alone ps (chain_of p) e))

pub chain_statement : (n : Nest) (c : Chain) → chain_of n.body ≡ Some c → StandsUnder (nest_statements n) c.loops
chain_statement n c e = chain_stands n.body [] c e

module _ (n : Nest) (ready : IsReady n) (c : Chain) (e : chain_of n.body ≡ Some c) where
  ready_statement : (s : Standing) → IsMember s (nest_statements n) → IsReadyStatement s
  ready_statement s i = in_all IsReadyStatement (nest_statements n) ready.statements s i

  pub few_loops : length c.loops ≤ 7
  few_loops = let h = chain_statement n c e in subst (λ ls. length ls ≤ 7) h.round (ready_statement h.standing h.among).depth

  pub linear_trips : HaveTrips 0 c.loops
  linear_trips = let h = chain_statement n c e in subst (HaveTrips 0) h.round (ready_statement h.standing h.among).trips

-- ---- for the code

pub ready_few : (n : declared_nests.Nest) (o : Option declared.Chain) (c : declared.Chain) → IsReady (nest_of n) → option_map view.chain_of o ≡ chain_of (part_of n.body) → o ≡ Some c
    → length c.loops ≤ 7
ready_few n o c ready e f = subst (λ k. k ≤ 7) (length-map c.loops loop_of) (few_loops (nest_of n) ready (view.chain_of c) (sym e ∙ ap (option_map view.chain_of) f))

pub ready_trips : (n : declared_nests.Nest) (o : Option declared.Chain) (c : declared.Chain) → IsReady (nest_of n) → option_map view.chain_of o ≡ chain_of (part_of n.body) → o ≡ Some c
    → HaveTrips 0 (map loop_of c.loops)
ready_trips n o c ready e f = linear_trips (nest_of n) ready (view.chain_of c) (sym e ∙ ap (option_map view.chain_of) f)

pub ruleset chain_laws = (ready_few, ready_trips)

abbrev parts_in : List declared_parts.Part → Parts
parts_in ps = parts (map part_of ps)

pub chain_flat : (list all copies rest : List declared_parts.Part) (first : declared_parts.Part) (r : Bool) → list ≡ all → list ≡ first ∷ rest → r ≡ are_statements (parts (map part_of list)) → r ≡ true
    → map part_of copies ≡ map part_of all → ◌≡◌ {A = Option Chain} (Some (record { loops = []; body = parts (map part_of copies) })) (chain_in (parts (map part_of all)))
chain_flat list all copies rest first r e f g t k =
    let flat : are_statements (parts_in (first ∷ rest)) ≡ true = ap (λ ps. are_statements (parts_in ps)) (sym f) ∙ (sym g ∙ t) in
    let same : parts_in copies ≡ parts_in (first ∷ rest) = ap parts k ∙ ap parts_in (sym e ∙ f) in
    ap (λ ps. Some (no_loops ps)) same
    ∙ (sym (ap (λ b. cond b (Some (no_loops (parts_in (first ∷ rest)))) (if_alone (parts_in rest) (chain_of (part_of first)))) flat)
    ∙ ap (λ ps. chain_in (parts_in ps)) (sym f ∙ e))

not_flat : (list all rest : List declared_parts.Part) (first : declared_parts.Part) (r : Bool) → list ≡ all → list ≡ first ∷ rest → r ≡ are_statements (parts (map part_of list)) → r ≡ false
    → if_alone (parts_in rest) (chain_of (part_of first)) ≡ chain_in (parts (map part_of all))
not_flat list all rest first r e f g t =
    let flat : are_statements (parts_in (first ∷ rest)) ≡ false = ap (λ ps. are_statements (parts_in ps)) (sym f) ∙ (sym g ∙ t) in
    sym (ap (λ b. cond b (Some (no_loops (parts_in (first ∷ rest)))) (if_alone (parts_in rest) (chain_of (part_of first)))) flat)
    ∙ ap (λ ps. chain_in (parts_in ps)) (sym f ∙ e)

not_zero : (n : ℕ) → (suc n == 0) ≡ false
not_zero n = grind arith

pub chain_many : (list all rest : List declared_parts.Part) (first : declared_parts.Part) (r b : Bool) → list ≡ all → list ≡ first ∷ rest → r ≡ are_statements (parts (map part_of list)) → r ≡ false
    → b ≡ (length rest == 0) → b ≡ false → None ≡ chain_in (parts (map part_of all))
chain_many list all rest first r b e f g t h n = by rest refl
  where
    by : (ps : List declared_parts.Part) → ps ≡ rest → None ≡ chain_in (parts (map part_of all))
    by [] k = absurd (let x : b ≡ true = h ∙ ap (λ (ps : List declared_parts.Part). length ps == 0) (sym k) in let no : ⊥ = cc in no)
    by (p ∷ ps) k = ap (λ ps. if_alone (parts_in ps) (chain_of (part_of first))) k ∙ not_flat list all rest first r e f g t

pub chain_alone : (list all rest : List declared_parts.Part) (first : declared_parts.Part) (r b : Bool) (o : Option declared.Chain) → list ≡ all → list ≡ first ∷ rest
    → r ≡ are_statements (parts (map part_of list)) → r ≡ false → b ≡ (length rest == 0) → b ≡ true → option_map view.chain_of o ≡ chain_of (part_of first)
    → option_map view.chain_of o ≡ chain_in (parts (map part_of all))
chain_alone list all rest first r b o e f g t h n c = by rest refl
  where
    by : (ps : List declared_parts.Part) → ps ≡ rest → option_map view.chain_of o ≡ chain_in (parts (map part_of all))
    by [] k = c ∙ (ap (λ ps. if_alone (parts_in ps) (chain_of (part_of first))) k ∙ not_flat list all rest first r e f g t)
    by (p ∷ ps) k = absurd (let x : b ≡ false = h ∙ (ap (λ (ps : List declared_parts.Part). length ps == 0) (sym k) ∙ not_zero (length ps)) in let no : ⊥ = cc in no)

pub chain_none : (list all : List declared_parts.Part) → list ≡ all → length list ≡ 0 → None ≡ chain_in (parts (map part_of all))
chain_none [] all e f = ap (λ ps. chain_in (parts_in ps)) e
chain_none (p ∷ ps) all e f = absurd (omega arith)

pub if_ok : {A E : Type 0} (r : Result A E) (P Q : A → Type 0) → ((a : A) → P a → Q a) → IfOk r P → IfOk r Q
if_ok (Ok a) P Q f h = f a h
if_ok (Err e) P Q f h = h

pub ruleset part_laws = (chain_flat, chain_many, chain_alone)
