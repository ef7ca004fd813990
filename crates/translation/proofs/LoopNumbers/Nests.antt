-- The numbers of nests, and of their outermost loops.
use Rattle.std.proofs.Common.{◌≡◌, ◌⊎◌, inl, inr, ap, subst, sym, ℕ, ◌+◌, ◌≤◌, ◌<◌, Bool, Option, Some, None}
use Rattle.std.proofs.Common.{List, [], ◌∷◌, map, filter, Contains, arith}
use Rattle.components.proofs.ListLaws.{Each-In, Each-from, Pairwise-filter, filter-In}
use Rattle.components.specs.Lists.{Each, Pairwise}
use Rattle.find_nests.proofs.FoundLaws.{found_nest_is_loop}
use Rattle.find_nests.specs.Found.{InNest, found_among, found_as, nest_of_loop, nests_with}
use Rattle.find_nests.specs.Loops.{Numbered, SurroundedLoop, loops_in_block}
use Rattle.find_nests.specs.LookedAt.{is_in_no_nest, looked_at, reason_of}
use Rattle.find_nests.specs.declared.reasons.Reason.{Reason}
use Rattle.pass_laws.proofs.FoundSources.Numbers.{next_small}
use Rattle.tree.specs.Plain.{Declaration, Program}
use Rattle.translation.proofs.LoopNumbers.Behind.{next_from_one, next_is}
use Rattle.translation.proofs.LoopNumbers.Order.{IsBelow, IsEarlier, all_between, same_loop}
use Rattle.translation.specs.loop_numbers.Laws.{LoopNumbersCount, LoopsAreNumbered, NestsAreNumbered}
use Rattle.translation.specs.loop_numbers.Numbers.{ComesBefore, loop_number, nests_among}
use Rattle.find_nests.specs.nest_parts.Numbers.{next_loop_number}
use Rattle.nest.specs.Plain.{Nest}
use Rattle.meaning_laws.proofs.profiles.Lists.{cases_of, nowhere}
use Rattle.pass_laws.proofs.ReadyNests.Lists.{Each-weaker}
use Rattle.tree.specs.declared.width.Width.{Width}

-- ---- the loops that are looked at

abbrev IsFrom : ℕ → Numbered → Type 0
IsFrom k l = k ≤ l.before

abbrev IsSmall : Numbered → Type 0
IsSmall l = l.before < 2147483648

abbrev Precedes : Numbered → Numbered → Type 0
Precedes l m = l.before < m.before

abbrev loop_of : SurroundedLoop → Numbered
loop_of l = l.loop

each_looped : (P : Numbered → Type 0) (ls : List SurroundedLoop) → Each (λ (l : SurroundedLoop). P l.loop) ls → Each P (map loop_of ls)
each_looped P [] h = tt
each_looped P (l ∷ ls) h = (h.0, each_looped P ls h.1)

looped_rise : (ls : List SurroundedLoop) → Pairwise IsEarlier ls → Pairwise Precedes (map loop_of ls)
looped_rise [] h = tt
looped_rise (l ∷ ls) h = (each_looped (Precedes l.loop) ls h.0, looped_rise ls h.1)

each_left : (f : SurroundedLoop → Bool) (P : SurroundedLoop → Type 0) (ls : List SurroundedLoop) → Each P ls → Each P (filter f ls)
each_left f P ls h = Each-from P (filter f ls) (λ l i. Each-In P ls h l (filter-In f ls l i).0)

-- loops with these and rising numbers
record AreBehind (n : ℕ) (ls : List Numbered) : Type 0 where
  from : Each (IsFrom n) ls
  small : Each IsSmall ls
  rising : Pairwise Precedes ls

all_behind : (ls : List Numbered) → Each IsSmall ls → Pairwise Precedes ls → AreBehind 0 ls
all_behind ls s r = record { from = Each-weaker IsSmall (IsFrom 0) ls (λ l h. omega arith) s; small = s; rising = r }

-- behind the nest that a loop is, the next number
next_behind : (n : ℕ) (l : Numbered) (ls : List Numbered) → AreBehind n (l ∷ ls) → AreBehind (next_loop_number n) ls
next_behind n l ls h =
    let f : n ≤ l.before = h.from.0 in
    let s : l.before < 2147483648 = h.small.0 in
    let is = next_is n (omega (arith, f, s)) in
    record {
      from = Each-weaker (Precedes l) (IsFrom (next_loop_number n)) ls (after is) h.rising.0;
      small = h.small.1;
      rising = h.rising.1;
    }
  where
    after : next_loop_number n ≡ n + 1 → (m : Numbered) → Precedes l m → IsFrom (next_loop_number n) m
    after is m g =
        let f : n ≤ l.before = h.from.0 in
        let b : l.before < m.before = g in
        omega (arith, b, f, is)

same_behind : (n : ℕ) (l : Numbered) (ls : List Numbered) → AreBehind n (l ∷ ls) → AreBehind n ls
same_behind n l ls h = record { from = h.from.1; small = h.small.1; rising = h.rising.1 }

-- ---- the nests among them

module _ (p : Program) where
  abbrev ds : List Declaration
  ds = p.declarations

  abbrev nests : ℕ → List Numbered → List Nest
  nests n ls = nests_among (found_among p n ls)

  -- where the reason of the first loop is known
  abbrev nests_by : ℕ → Numbered → List Numbered → Option Reason → List Nest
  nests_by n l ls o = nests_among (found_as p n l o ∷ found_among p (nests_with n o) ls)

  each_number : (n : ℕ) (ls : List Numbered) → AreBehind n ls → Each (λ (m : Nest). n < m.number) (nests n ls)
  each_number n [] h = tt
  each_number n (l ∷ ls) h =
      by (reason_of ds l.loop) (each_number (next_loop_number n) ls (next_behind n l ls h))
      (each_number n ls (same_behind n l ls h))
    where
      above : n < next_loop_number n
      above =
          let f : n ≤ l.before = h.from.0 in
          let s : l.before < 2147483648 = h.small.0 in
          let is = next_is n (omega (arith, f, s)) in
          omega (arith, is)

      by : (o : Option Reason) → Each (λ (m : Nest). next_loop_number n < m.number) (nests (next_loop_number n) ls)
          → Each (λ (m : Nest). n < m.number) (nests n ls) → Each (λ (m : Nest). n < m.number) (nests_by n l ls o)
      by None more same = (
        above,
        Each-weaker (λ (m : Nest). next_loop_number n < m.number) (λ (m : Nest). n < m.number) (nests (next_loop_number n) ls)
            (λ m g. let b : next_loop_number n < m.number = g in omega (arith, b, above)) more,
      )
      by (Some r) more same = same

  each_loop : (P : ℕ → Type 0) (n : ℕ) (ls : List Numbered) → Each (λ (l : Numbered). P (next_loop_number l.before)) ls
      → Each (λ (m : Nest). P (loop_number m)) (nests n ls)
  each_loop P n [] h = tt
  each_loop P n (l ∷ ls) h = by (reason_of ds l.loop) (each_loop P (next_loop_number n) ls h.1) (each_loop P n ls h.1)
    where
      by : (o : Option Reason) → Each (λ (m : Nest). P (loop_number m)) (nests (next_loop_number n) ls)
          → Each (λ (m : Nest). P (loop_number m)) (nests n ls)
          → Each (λ (m : Nest). P (loop_number m)) (nests_by n l ls o)
      by None more same = (h.0, more)
      by (Some r) more same = same

  both : (n : Nest) (ms : List Nest) → Each (λ (m : Nest). n.number < m.number) ms
      → Each (λ (m : Nest). loop_number n < loop_number m) ms → Each (ComesBefore n) ms
  both n [] h g = tt
  both n (m ∷ ms) h g = (record { nests = h.0; loops = g.0 }, both n ms h.1 g.1)

  -- the loops behind a loop have greater numbers
  greater : (l : Numbered) (ls : List Numbered) → IsSmall l → Each IsSmall ls → Each (Precedes l) ls
      → Each (λ (m : Numbered). next_loop_number l.before < next_loop_number m.before) ls
  greater l [] s g h = tt
  greater l (m ∷ ls) s g h =
      let own : l.before < 2147483648 = s in
      let small : m.before < 2147483648 = g.0 in
      let less : l.before < m.before = h.0 in
      let i = next_is l.before (omega (arith, own)) in
      let j = next_is m.before (omega (arith, small)) in
      (omega (arith, i, j, less), greater l ls s g.1 h.1)

  in_order : (n : ℕ) (ls : List Numbered) → AreBehind n ls → Pairwise ComesBefore (nests n ls)
  in_order n [] h = tt
  in_order n (l ∷ ls) h =
      by (reason_of ds l.loop) (in_order (next_loop_number n) ls (next_behind n l ls h)) (in_order n ls (same_behind n l ls h))
    where
      first : Nest
      first = nest_of_loop p (next_loop_number n) l

      numbers : Each (λ (m : Nest). next_loop_number n < m.number) (nests (next_loop_number n) ls)
      numbers = each_number (next_loop_number n) ls (next_behind n l ls h)

      loops : Each (λ (m : Nest). next_loop_number l.before < loop_number m) (nests (next_loop_number n) ls)
      loops = each_loop (λ k. next_loop_number l.before < k) (next_loop_number n) ls (greater l ls h.small.0 h.small.1 h.rising.0)

      by : (o : Option Reason) → Pairwise ComesBefore (nests (next_loop_number n) ls) → Pairwise ComesBefore (nests n ls)
          → Pairwise ComesBefore (nests_by n l ls o)
      by None more same = (both (nest_of_loop p (next_loop_number n) l) (nests (next_loop_number n) ls) numbers loops, more)
      by (Some r) more same = same

pub nests_are_numbered : (width : Width) → NestsAreNumbered width
nests_are_numbered width p program =
    let all = loops_in_block 0 [] p.body in
    let between = all_between p.body program.few in
    let f = is_in_no_nest p.declarations in
    let small : Each IsSmall (looked_at p.declarations p.body)
    = each_looped IsSmall (filter f all) (each_left f (IsBelow 2147483648) all between.below) in
    let rising : Pairwise Precedes (looked_at p.declarations p.body)
    = looped_rise (filter f all) (Pairwise-filter f IsEarlier all between.ordered) in
    in_order p 0 (looked_at p.declarations p.body) (all_behind (looked_at p.declarations p.body) small rising)

pub loops_are_numbered : (width : Width) → LoopsAreNumbered width
loops_are_numbered width p l m program c d e = same_loop p.body program.few l m c d e

pub loop_numbers_count : LoopNumbersCount
loop_numbers_count p n h =
    let f = found_nest_is_loop p n h in
    let is : loop_number n ≡ next_loop_number f.loop.loop.before = ap loop_number f.is in
    subst (λ (k : ℕ). 1 ≤ k) (sym is) (next_from_one f.loop.loop.before)

-- ---- the number of a nest

pub nest_number : (p : Program) (n : ℕ) (ls : List Numbered) (m : Nest) → n ≤ 4294967295
    → Contains (found_among p n ls) (InNest m) → m.number ≤ 4294967295
nest_number p n [] m small h = absurd (nowhere (InNest m) h)
nest_number p n (l ∷ ls) m small h =
    let reason = reason_of p.declarations l.loop in
    by reason (cases_of (found_as p n l reason) (found_among p (nests_with n reason) ls) (InNest m) h)
    (λ i. nest_number p (nests_with n reason) ls m (nests_small reason) i)
  where
    nests_small : (o : Option Reason) → nests_with n o ≤ 4294967295
    nests_small None = next_small n small
    nests_small (Some r) = small

    by : (o : Option Reason) → (found_as p n l o ≡ InNest m) ⊎ Contains (found_among p (nests_with n o) ls) (InNest m)
        → (Contains (found_among p (nests_with n o) ls) (InNest m) → m.number ≤ 4294967295) → m.number ≤ 4294967295
    by None (inl e) more =
        let s : nest_of_loop p (next_loop_number n) l ≡ m = cc in
        let same = ap (λ (k : Nest). k.number) s in
        let fits = next_small n small in
        omega (arith, same, fits)
    by (Some r) (inl e) more = let no : ⊥ = cc in absurd no
    by o (inr i) more = more i
