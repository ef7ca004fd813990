-- No two statements bear one mark.
use Rattle.std.proofs.Common.{◌≡◌, refl, sym, ap, subst, ◌∙◌, ℕ, ◌<◌, arith, Bool, true, false, cond}
use Rattle.std.proofs.Common.{Option, List, [], ◌∷◌, map, length, flat_map, Contains}
use Rattle.std.specs.Prelude.{nat_le}
use Rattle.array_form.specs.forms.Statements.{loops_assigned, stand_in_guard}
use Rattle.array_form.specs.holds.Surroundings.{surroundings_of}
use Rattle.components.proofs.ListLaws.{Each-append, Each-In, Pairwise-append}
use Rattle.components.specs.Lists.{Distinct, Each, IsMember, Pairwise}
use Rattle.dependence_graph.specs.declared.graphs.Edge.{Edge}
use Rattle.dependence_graph.specs.declared.graphs.Hold.{Hold}
use Rattle.emission.specs.emission_marks.ByGraph.{AreMarked}
use Rattle.emission.specs.emission_marks.Marks.{Marked, assigned_at, kept_at, marked_at, masked_at}
use Rattle.emission.specs.emission_pieces.Nests.{loops_at, standing_at}
use Rattle.tree.specs.Plain.{Block}
use Rattle.translation.specs.loop_numbers.Numbers.{ComesBefore, loop_number}
use Rattle.nest.specs.Plain.{Nest}
use Rattle.meaning_laws.proofs.profiles.Lists.{here, there}
use Rattle.translation.specs.program_marks.Marks.{mark_numbers_of}
use Rattle.translation.proofs.ProgramMarks.Members.{keys_at}

-- ---- within a nest

by_statement : (xs : List Marked) → Distinct (map (λ (x : Marked). x.mark.stmt) xs) → Distinct (map mark_numbers_of xs)
by_statement [] h = tt
by_statement (x ∷ xs) h = (each xs h.0, by_statement xs h.1)
  where
    each : (ys : List Marked) → Each (λ k. ¬ (x.mark.stmt ≡ k)) (map (λ (y : Marked). y.mark.stmt) ys)
        → Each (λ k. ¬ (mark_numbers_of x ≡ k)) (map mark_numbers_of ys)
    each [] g = tt
    each (y ∷ ys) g = ((λ e. g.0 (ap (λ (k : ℕ × ℕ). k.1) e)), each ys g.1)

nest_of_mark : (m : Nest) (s k : ℕ) → (marked_at m s k).mark.nest ≡ m.number
nest_of_mark m s k =
    let x = (standing_at m s).statement in
    by (nat_le k (length (loops_at m s)))
    (stand_in_guard (loops_assigned (surroundings_of m (loops_at m s)) k x.left) x.guard)
  where
    by : (b c : Bool) → (cond b (cond c (masked_at m s k) (assigned_at m s k)) (kept_at m s)).mark.nest ≡ m.number
    by true true = refl
    by true false = refl
    by false c = refl

abbrev IsOf : ℕ → ℕ × ℕ → Type 0
IsOf number k = k.0 ≡ number

all_of : (number : ℕ) (xs : List Marked) → ((x : Marked) → Contains xs x → x.mark.nest ≡ number)
    → Each (IsOf number) (map mark_numbers_of xs)
all_of number [] h = tt
all_of number (x ∷ xs) h = (h x (here x xs), all_of number xs (λ y c. h y (there x xs y c)))

-- marks with one number of a nest, each statement once
pub record AreKeysOf (number : ℕ) (ks : List (ℕ × ℕ)) : Type 0 where
  pub once : Distinct ks
  pub own : Each (IsOf number) ks

pub keys_of_nest : (m : Nest) (edges : List Edge) (holds : List Hold) (xs : List Marked) → AreMarked m edges holds xs
    → AreKeysOf m.number (map mark_numbers_of xs)
keys_of_nest m edges holds xs h = record {
  once = by_statement xs h.once;
  own = all_of m.number xs of_nest;
}
  where
    of_nest : (x : Marked) → Contains xs x → x.mark.nest ≡ m.number
    of_nest x c = let o = h.only x c in ap (λ (y : Marked). y.mark.nest) o.4 ∙ nest_of_mark m o.0 o.1

-- ---- nest by nest

module _ (blocks : List (Option Block)) where
  abbrev pub HasOwnKeys : Nest → Type 0
  HasOwnKeys n = AreKeysOf n.number (keys_at blocks (loop_number n))

  abbrev keys_of : List Nest → List (ℕ × ℕ)
  keys_of ns = flat_map (keys_at blocks) (map loop_number ns)

  later : (n : Nest) (ns : List Nest) → Each (ComesBefore n) ns → Each HasOwnKeys ns
      → Each (λ (k : ℕ × ℕ). n.number < k.0) (keys_of ns)
  later n [] h g = tt
  later n (m ∷ ns) h g =
      Each-append (λ (k : ℕ × ℕ). n.number < k.0) (keys_at blocks (loop_number m)) (keys_of ns)
      (greater (keys_at blocks (loop_number m)) g.0.own) (later n ns h.1 g.1)
    where
      greater : (ks : List (ℕ × ℕ)) → Each (IsOf m.number) ks → Each (λ (k : ℕ × ℕ). n.number < k.0) ks
      greater [] e = tt
      greater (k ∷ ks) e = (subst (λ j. n.number < j) (sym e.0) h.0.nests, greater ks e.1)

  pub keys_once : (ns : List Nest) → Pairwise ComesBefore ns → Each HasOwnKeys ns → Distinct (keys_of ns)
  keys_once [] h g = tt
  keys_once (n ∷ ns) h g =
      Pairwise-append (λ (x y : ℕ × ℕ). ¬ (x ≡ y)) (keys_at blocks (loop_number n)) (keys_of ns) g.0.once
      (keys_once ns h.1 g.1) apart
    where
      apart : (x y : ℕ × ℕ) → IsMember x (keys_at blocks (loop_number n)) → IsMember y (keys_of ns) → ¬ (x ≡ y)
      apart x y i j e =
          let own = Each-In (IsOf n.number) (keys_at blocks (loop_number n)) g.0.own x i in
          let less = Each-In (λ (k : ℕ × ℕ). n.number < k.0) (keys_of ns) (later n ns h.0 g.1) y j in
          let same = ap (λ (k : ℕ × ℕ). k.0) e in
          omega (arith, own, less, same)
