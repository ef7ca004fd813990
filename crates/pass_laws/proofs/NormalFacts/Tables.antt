-- What stands in the tables of a nest with loops from 1 by 1 for its statements and loops.
use Rattle.std.proofs.Common.{◌≡◌, ◌⊎◌, inl, inr, refl, sym, ap, ap₂, ◌∙◌, subst, ℕ, zero, suc, ◌+◌, ◌<◌, ◌==◌, true}
use Rattle.std.proofs.Common.{false, cond, List, [], ◌∷◌, ◌++◌, length, Some, append-nil, append_assoc, arith}
use Rattle.std.specs.List.{range_with_len}
use Rattle.std.specs.Prelude.{All}
use Rattle.components.specs.Lists as lists
use Rattle.emission.proofs.EmissionPieces.Ordered.{statements_are}
use Rattle.nest_order.proofs.orders.Lists.{Each-In, Each-from, In-append, In-left, In-right}
use Rattle.nest_order.proofs.orders.Membership.{map-In}
use Rattle.nest_order.proofs.orders.Once.{Pairwise-left, Pairwise-right}
use Rattle.nest_order.specs.orders.Lists.{In, Distinct}
use Rattle.nest_order.specs.orders.Shapes.{Shape, Single, Shapes, no_shapes, shape, statements, loops_of_shape, loops_of_shapes}
use Rattle.nest_order.specs.orders.Shapes as shapes
use Rattle.nest_order.proofs.runs.Loops.{outer_loop}
use Rattle.nest_order.specs.runs.Nests.{LoopStands, LoopStandsIn}
use Rattle.nest_order.specs.runs.Touched.{nth_of}
use Rattle.nest_order.specs.shapes.Shapes.{IsPlain, ArePlain, size_of, shape_of, shapes_of, numbers_of, loop_numbered}
use Rattle.nest.specs.Bodies.{Standing, loops_of, loops_in_parts, nest_statements}
use Rattle.nest.specs.Plain.{Loop, Part, Run, Turns, Choice, Label, Jump, Parts, no_parts, part, Nest}
use Rattle.pass_laws.proofs.NormalFacts.LoopWalk.{EachLoop, EachLoopIn}

pub each_in : {A : Type 0} (P : A → Type 0) (xs : List A) → lists.Each P xs → (x : A) → In x xs → P x
each_in P [] h x i = absurd i
each_in P (y ∷ xs) h x (inl e) = subst P (sym e) h.0
each_in P (y ∷ xs) h x (inr i) = each_in P xs h.1 x i

pub each_from : {A : Type 0} (P : A → Type 0) (xs : List A) → ((x : A) → In x xs → P x) → lists.Each P xs
each_from P [] f = tt
each_from P (x ∷ xs) f = (f x (inl refl), each_from P xs (λ y i. f y (inr i)))

pub all_in : {A : Type 0} (P : A → Type 0) (xs : List A) → All P xs → (x : A) → In x xs → P x
all_in P [] h x i = absurd i
all_in P (y ∷ xs) h x (inl e) = subst P (sym e) (h 0 y (omega arith))
all_in P (y ∷ xs) h x (inr i) = all_in P xs (λ k d g. h (suc k) d (omega (arith, g))) x i

-- ---- statements

in_range : (a n s : ℕ) → In s (range_with_len a n) → s < a + n
in_range a zero s i = absurd i
in_range a (suc n) s (inl e) = omega (arith, e)
in_range a (suc n) s (inr i) = let more = in_range (a + 1) n s i in omega (arith, more)

pub record StandsThere (xs : List Standing) (s : ℕ) : Type 0 where
  pub standing : Standing
  pub among : In standing xs
  pub is : nth_of xs s ≡ Some standing

there : (xs : List Standing) (s : ℕ) → s < length xs → StandsThere xs s
there [] s h = absurd (omega (arith, h))
there (x ∷ xs) zero h = record { standing = x; among = inl refl; is = refl }
there (x ∷ xs) (suc s) h = let r = there xs s (omega (arith, h)) in record { standing = r.standing; among = inr r.among; is = r.is }

pub statement_there : (n : Nest) → IsPlain n.body → (s : ℕ) → In s (statements (shape_of 0 n.body)) → StandsThere (nest_statements n) s
statement_there n plain s i =
    let below = in_range 0 (length (nest_statements n)) s (subst (In s) (sym (statements_are n plain)) i) in
    there (nest_statements n) s (omega (arith, below))

-- ---- loops by their numbers

same_number : (n : ℕ) → (n == n) ≡ true
same_number n = grind arith

other_number : (n m : ℕ) → ¬ (n ≡ m) → (n == m) ≡ false
other_number n m h = grind arith

pub loop_there : (ls : List Loop) (l : Loop) → Distinct (numbers_of ls) → In l ls → loop_numbered ls l.number ≡ Some l
loop_there [] l d i = absurd i
loop_there (m ∷ ls) l d (inl e) =
    subst (λ (z : Loop). cond (m.number == z.number) (Some m) (loop_numbered ls z.number) ≡ Some z) (sym e)
    (ap (λ b. cond b (Some m) (loop_numbered ls m.number)) (same_number m.number))
loop_there (m ∷ ls) l d (inr i) =
    let apart = Each-In (λ y. ¬ (m.number ≡ y)) (numbers_of ls) d.0 l.number (map-In (λ (z : Loop). z.number) l ls i) in
    ap (λ b. cond b (Some m) (loop_numbered ls l.number)) (other_number m.number l.number apart) ∙ loop_there ls l d.1 i

numbers_joined : (xs ys : List Loop) → numbers_of (xs ++ ys) ≡ numbers_of xs ++ numbers_of ys
numbers_joined [] ys = refl
numbers_joined (x ∷ xs) ys = ap (λ ks. x.number ∷ ks) (numbers_joined xs ys)

mutual
  pub loops_are : (k : ℕ) (p : Part) → IsPlain p → loops_of_shape (shape_of k p) ≡ numbers_of (loops_of p)
  loops_are k (Run s) plain = refl
  loops_are k (Turns l ps) plain = ap (λ ks. l.number ∷ ks) (loops_are_in k ps plain.1)
  loops_are k (Choice bs ps) plain = absurd plain
  loops_are k (Label n) plain = absurd plain
  loops_are k (Jump n) plain = absurd plain

  loops_are_in : (k : ℕ) (ps : Parts) → ArePlain ps → loops_of_shapes (shapes_of k ps) ≡ numbers_of (loops_in_parts ps)
  loops_are_in k no_parts plain = refl
  loops_are_in k (part p ps) plain =
      ap₂ (λ xs ys. xs ++ ys) (loops_are k p plain.0) (loops_are_in (k + size_of p) ps plain.1) ∙ sym (numbers_joined (loops_of p) (loops_in_parts ps))

pub record IsNumbered (ls : List Loop) (k : ℕ) : Type 0 where
  pub loop : Loop
  pub among : In loop ls
  pub number : k ≡ loop.number

pub numbered : (ls : List Loop) (k : ℕ) → In k (numbers_of ls) → IsNumbered ls k
numbered [] k i = absurd i
numbered (l ∷ ls) k (inl e) = record { loop = l; among = inl refl; number = e }
numbered (l ∷ ls) k (inr i) = let r = numbered ls k i in record { loop = r.loop; among = inr r.among; number = r.number }

-- ---- the loops round a loop

-- none stands twice
mutual
  pub round_once : (t : Shape) (round : List ℕ) (l : ℕ) → LoopStands t round l → Distinct (loops_of_shape t) → Distinct round
  round_once (Single s) round l h d = absurd h
  round_once (shapes.Loop m ts) [] l h d = tt
  round_once (shapes.Loop m ts) (k ∷ round) l h d = (
    Each-from (λ j. ¬ (k ≡ j)) round (λ j i e. Each-In (λ y. ¬ (m ≡ y)) (loops_of_shapes ts) d.0 j (round_in ts round l h.1 d.1 j i) (h.0 ∙ e)),
    round_once_in ts round l h.1 d.1,
  )

  round_once_in : (ts : Shapes) (round : List ℕ) (l : ℕ) → LoopStandsIn ts round l → Distinct (loops_of_shapes ts) → Distinct round
  round_once_in no_shapes round l h d = absurd h
  round_once_in (shape t ts) round l (inl h) d = round_once t round l h (Pairwise-left (λ x y. ¬ (x ≡ y)) (loops_of_shape t) (loops_of_shapes ts) d)
  round_once_in (shape t ts) round l (inr h) d = round_once_in ts round l h (Pairwise-right (λ x y. ¬ (x ≡ y)) (loops_of_shape t) (loops_of_shapes ts) d)

  round_in : (ts : Shapes) (round : List ℕ) (l : ℕ) → LoopStandsIn ts round l → Distinct (loops_of_shapes ts) → (j : ℕ) → In j round → In j (loops_of_shapes ts)
  round_in no_shapes round l h d j i = absurd h
  round_in (shape t ts) round l (inl h) d j i =
      In-left j (loops_of_shape t) (loops_of_shapes ts) (outer_loop t round l j (Pairwise-left (λ x y. ¬ (x ≡ y)) (loops_of_shape t) (loops_of_shapes ts) d) h i).0
  round_in (shape t ts) round l (inr h) d j i =
      In-right j (loops_of_shape t) (loops_of_shapes ts) (round_in ts round l h (Pairwise-right (λ x y. ¬ (x ≡ y)) (loops_of_shape t) (loops_of_shapes ts) d) j i)

module _ (Asked : List Loop → Loop → Type 0) (all : List Loop) where
  -- the loop with the number k stands in the loops ls and then in those of these numbers
  pub record StandsAt (ls : List Loop) (round : List ℕ) (k : ℕ) : Type 0 where
    pub more : List Loop
    pub numbers : numbers_of more ≡ round
    pub inside : (x : Loop) → In x more → In x all
    pub loop : Loop
    pub number : loop.number ≡ k
    pub stands : In loop all
    pub asked : Asked (ls ++ more) loop

  -- each loop of a part is as is asked under some loops
  pub record IsAsked (l : Loop) : Type 0 where
    pub round : List Loop
    pub asked : Asked round l

  mutual
    pub each_asked : (ls : List Loop) (p : Part) → IsPlain p → EachLoop Asked ls p → (l : Loop) → In l (loops_of p) → IsAsked l
    each_asked ls (Run s) plain h l i = absurd i
    each_asked ls (Turns m ps) plain h l (inl e) = record { round = ls; asked = subst (λ (x : Loop). Asked ls x) (sym e) h.0 }
    each_asked ls (Turns m ps) plain h l (inr i) = each_asked_in (ls ++ m ∷ []) ps plain.1 h.1 l i
    each_asked ls (Choice bs ps) plain h l i = absurd plain
    each_asked ls (Label k) plain h l i = absurd i
    each_asked ls (Jump k) plain h l i = absurd i

    each_asked_in : (ls : List Loop) (ps : Parts) → ArePlain ps → EachLoopIn Asked ls ps → (l : Loop) → In l (loops_in_parts ps) → IsAsked l
    each_asked_in ls no_parts plain h l i = absurd i
    each_asked_in ls (part p ps) plain h l i =
        either (λ j. each_asked ls p plain.0 h.0 l j) (λ j. each_asked_in ls ps plain.1 h.1 l j) (In-append l (loops_of p) (loops_in_parts ps) i)
      where
        either : (In l (loops_of p) → IsAsked l) → (In l (loops_in_parts ps) → IsAsked l) → In l (loops_of p) ⊎ In l (loops_in_parts ps) → IsAsked l
        either f g (inl j) = f j
        either f g (inr j) = g j

  inside_more : (l : Loop) (more : List Loop) → In l all → ((x : Loop) → In x more → In x all) → (x : Loop) → In x (l ∷ more) → In x all
  inside_more l more i f x (inl e) = subst (λ (y : Loop). In y all) (sym e) i
  inside_more l more i f x (inr j) = f x j

  mutual
    pub loop_at : (ls : List Loop) (p : Part) (j : ℕ) → IsPlain p → EachLoop Asked ls p → ((x : Loop) → In x (loops_of p) → In x all) → (round : List ℕ) (k : ℕ) → LoopStands (shape_of j p) round k
        → StandsAt ls round k
    loop_at ls (Run s) j plain h w round k i = absurd i
    loop_at ls (Turns l ps) j plain h w [] k i = record {
      more = [];
      numbers = refl;
      inside = λ x e. absurd e;
      loop = l;
      number = i;
      stands = w l (inl refl);
      asked = subst (λ (xs : List Loop). Asked xs l) (sym (append-nil ls)) h.0;
    }
    loop_at ls (Turns l ps) j plain h w (m ∷ round) k i =
        let r = loop_at_in (ls ++ l ∷ []) ps j plain.1 h.1 (λ x e. w x (inr e)) round k i.1 in
        record {
          more = l ∷ r.more;
          numbers = ap₂ (λ a b. a ∷ b) i.0 r.numbers;
          inside = inside_more l r.more (w l (inl refl)) r.inside;
          loop = r.loop;
          number = r.number;
          stands = r.stands;
          asked = subst (λ (xs : List Loop). Asked xs r.loop) (append_assoc ls (l ∷ []) r.more) r.asked;
        }
    loop_at ls (Choice bs ps) j plain h w round k i = absurd plain
    loop_at ls (Label n) j plain h w round k i = absurd plain
    loop_at ls (Jump n) j plain h w round k i = absurd plain

    loop_at_in : (ls : List Loop) (ps : Parts) (j : ℕ) → ArePlain ps → EachLoopIn Asked ls ps → ((x : Loop) → In x (loops_in_parts ps) → In x all) → (round : List ℕ) (k : ℕ)
        → LoopStandsIn (shapes_of j ps) round k → StandsAt ls round k
    loop_at_in ls no_parts j plain h w round k i = absurd i
    loop_at_in ls (part p ps) j plain h w round k (inl i) = loop_at ls p j plain.0 h.0 (λ x e. w x (In-left x (loops_of p) (loops_in_parts ps) e)) round k i
    loop_at_in ls (part p ps) j plain h w round k (inr i) =
        loop_at_in ls ps (j + size_of p) plain.1 h.1 (λ x e. w x (In-right x (loops_of p) (loops_in_parts ps) e)) round k i
