-- The names of counters are longer than those of a program, and each number has its own.
use Rattle.std.proofs.Common.{◌≡◌, sym, ap, ℕ, ◌≤◌, false, List, [], ◌∷◌, ◌++◌, map, length, length-append, arith}
use Rattle.std.specs.Prelude.{codes, decimal}
use Rattle.std.proofs.lemmas.Fmt.{decimal_injective}
use Rattle.std.proofs.lemmas.List.{append_cancel_left}
use Rattle.components.specs.Lists as components
use Rattle.components.specs.Lists.{Each}
use Rattle.nest_order.specs.orders.Lists as order
use Rattle.nest.specs.Plain.{Loop}
use Rattle.last_values.specs.normal_forms.NormalLoops.{counter_name}
use Rattle.pass_laws.specs.ready_nests.Distinct.{numbers_of}
use Rattle.nest.specs.statement_loops.Names.{is_among}
use Rattle.pass_laws.proofs.FoundSources.Lists.{outside}

-- a name of a program
abbrev pub IsShort : List ℕ → Type 0
IsShort x = length x ≤ 6

abbrev pub HasSmallNumber : Loop → Type 0
HasSmallNumber l = l.number ≤ 4294967295

abbrev pub counters_by : List Loop → List (List ℕ)
counters_by ls = map (λ (l : Loop). counter_name l.number) ls

pub no_counter : (k : ℕ) (x : List ℕ) → IsShort x → ¬ (counter_name k ≡ x)
no_counter k x short e =
    let same : length (codes "FV_LOOP_" ++ decimal k) ≡ length x = ap (λ (y : List ℕ). length y) e in
    let long = length-append (codes "FV_LOOP_") (decimal k) in
    absurd (omega (arith, short, same, long))

-- ---- names of both kinds

pub each_counter : (P : List ℕ → Type 0) → ((k : ℕ) → P (counter_name k)) → (ls : List Loop) → Each P (counters_by ls)
each_counter P f [] = tt
each_counter P f (l ∷ ls) = (f l.number, each_counter P f ls)

pub name_outside : (ls : List Loop) (x : List ℕ) → IsShort x → is_among (counters_by ls) x ≡ false
name_outside ls x short =
    outside (λ y. ¬ (y ≡ x)) (counters_by ls) x (λ y h. h) (each_counter (λ y. ¬ (y ≡ x)) (λ k. no_counter k x short) ls)

pub counter_outside : (xs : List (List ℕ)) (k : ℕ) → Each IsShort xs → is_among xs (counter_name k) ≡ false
counter_outside xs k h = outside IsShort xs (counter_name k) (λ x short e. no_counter k x short (sym e)) h

-- ---- each number has its own

same_counter : (j k : ℕ) → j ≤ 4294967295 → k ≤ 4294967295 → counter_name j ≡ counter_name k → j ≡ k
same_counter j k h i e =
    decimal_injective j k (omega (arith, h)) (omega (arith, i)) (append_cancel_left (codes "FV_LOOP_") (decimal j) (decimal k) e)

others : (k : ℕ) (ls : List Loop) → k ≤ 4294967295 → Each HasSmallNumber ls → Each (λ j. ¬ (k ≡ j)) (numbers_of ls)
    → order.Each (λ y. ¬ (counter_name k ≡ y)) (counters_by ls)
others k [] s h d = tt
others k (l ∷ ls) s h d = (λ e. d.0 (same_counter k l.number s h.0 e), others k ls s h.1 d.1)

pub distinct_counters : (ls : List Loop) → Each HasSmallNumber ls → components.Distinct (numbers_of ls)
    → order.Distinct (counters_by ls)
distinct_counters [] h d = tt
distinct_counters (l ∷ ls) h d = (others l.number ls h.0 h.1 d.0, distinct_counters ls h.1 d.1)
