-- A nest leads on as its statements do.
use Rattle.std.proofs.Common.{◌≡◌, refl, sym, subst, ℕ, ◌+◌, ◌≤◌, ◌^◌, ◌<◌, ℤ, pos, List, [], ◌∷◌, ◌++◌, None, arith}
use Rattle.std.proofs.lemmas.Bool.Decides.{Decides-ltb}
use Rattle.std.proofs.Math.Nat.{pow-le-pow_right}
use Rattle.tree.specs.Plain.{Expression, Number, Do}
use Rattle.meaning.specs.Run.{State, nothing, does, does_all}
use Rattle.meaning.specs.Store.{Store}
use Rattle.rewrite.specs.Following.{sequential}
use Rattle.rewrite.proofs.Acts.{Stays-does_all}
use Rattle.nest.specs.Blocks.{block_of_parts, numeral, statement_of_part}
use Rattle.nest.specs.Plain.{Loop, Guarded, Part, Run, Turns, Choice, Label, Jump, Parts, no_parts, part, parts}
use Rattle.nest_steps.specs.Leading.{Led, Leads}
use Rattle.nest_steps.specs.Mapped.{count_of, count_in, mapped_parts_of, mapped_in, LoopLeads, AllLead, AllLeadIn}
use Rattle.nest_steps.proofs.Acts.{Leads-nothing, Leads-then}
use Rattle.nest_steps.proofs.Loops.{Counts, Leads-loops}

power : (m n : ℕ) → m ≤ n → 2 ^ m ≤ 2 ^ n
power m n h = let two : 0 < 2 = omega arith in pow-le-pow_right two h

pub wide_enough : (bits : ℕ) → 31 ≤ bits → Counts bits
wide_enough bits low k h = (
  (Decides-ltb k (2 ^ 127)).1 (omega (arith, h)),
  (Decides-ltb k (2 ^ bits)).1 (let p = power 31 bits low in omega (arith, h, p)),
)

-- one list of parts after the other
pub does_joined : (bits line : ℕ) (xs ys : List Part) (s : State)
    → does_all (sequential bits) None (block_of_parts line (parts (xs ++ ys))) s
    ≡ does_all (sequential bits) None (block_of_parts line (parts ys)) (does_all (sequential bits) None (block_of_parts line (parts xs)) s)
does_joined bits line [] ys s = refl
does_joined bits line (x ∷ xs) ys s = does_joined bits line xs ys (does (sequential bits) None (statement_of_part line x) s)

module _ (each : List Loop → ℕ → Guarded → List Guarded) (bits line : ℕ) (Known : List ℕ → Loop → ℕ → Type 0) (at : List Loop → List ℕ → ℕ → Store → Store → Type 0) (fit : Counts bits) where
  abbrev Run-leads : List Loop → List ℕ → ℕ → Part → Type 0
  Run-leads ls is k p = Leads (at ls is k) (at ls is (k + count_of p)) (does (sequential bits) None (statement_of_part line p)) (does_all (sequential bits) None (block_of_parts line (parts (mapped_parts_of each ls k p))))

  one-loop : (ls : List Loop) (is : List ℕ) (k : ℕ) (l : Loop) (ps : Parts) (qs : List Part) → LoopLeads each bits line Known at ls l is k (count_in ps)
      → ((n : ℕ) → Known is l n → (i : ℕ) → 1 ≤ i → i ≤ n → Leads (at (ls ++ l ∷ []) (is ++ i ∷ []) k) (at (ls ++ l ∷ []) (is ++ i ∷ []) (k + count_in ps)) (does_all (sequential bits) None (block_of_parts line ps)) (does_all (sequential bits) None (block_of_parts line (parts qs))))
      → Leads (at ls is k) (at ls is (k + count_in ps)) (does (sequential bits) None (statement_of_part line (Turns l ps))) (does (sequential bits) None (statement_of_part line (Turns l (parts qs))))
  one-loop ls is k l ps qs h body =
      subst (λ (e : Expression). Leads (at ls is k) (at ls is (k + count_in ps)) (does (sequential bits) None (Do line l.variable e l.last (numeral l.step) (block_of_parts line ps))) (does (sequential bits) None (Do line l.variable e l.last (numeral l.step) (block_of_parts line (parts qs))))) (sym h.first)
      (subst (λ (z : ℤ). Leads (at ls is k) (at ls is (k + count_in ps)) (does (sequential bits) None (Do line l.variable (Number (pos 1)) l.last (numeral z) (block_of_parts line ps))) (does (sequential bits) None (Do line l.variable (Number (pos 1)) l.last (numeral z) (block_of_parts line (parts qs))))) (sym h.step)
      (Leads-loops bits fit l.variable (at ls is k) (at ls is (k + count_in ps)) (λ i. at (ls ++ l ∷ []) (is ++ i ∷ []) k) (λ i. at (ls ++ l ∷ []) (is ++ i ∷ []) (k + count_in ps)) l.last l.last (Known is l)
      (record {
        scalars = h.scalars;
        same = h.same;
        turns_are = h.turns_are;
        begins = h.begins;
        turns = record { scalars = h.scalars_in; first = λ m s u o. (h.variable m s u o).0; second = λ m s u o. (h.variable m s u o).1; next = h.next };
      })
      h.ends line line _ _ body))

  mutual
    pub part-leads : (ls : List Loop) (is : List ℕ) (k : ℕ) (p : Part) → AllLead each bits line Known at ls is k p → Run-leads ls is k p
    part-leads ls is k (Run g) h = h
    part-leads ls is k (Turns l ps) h = one-loop ls is k l ps (mapped_in each (ls ++ l ∷ []) k ps) h.0 (λ n known i p q. parts-lead (ls ++ l ∷ []) (is ++ i ∷ []) k ps (h.1 n known i p q))
    part-leads ls is k (Choice bs ps) h = absurd h
    part-leads ls is k (Label n) h = absurd h
    part-leads ls is k (Jump n) h = absurd h

    pub parts-lead : (ls : List Loop) (is : List ℕ) (k : ℕ) (ps : Parts) → AllLeadIn each bits line Known at ls is k ps
        → Leads (at ls is k) (at ls is (k + count_in ps)) (does_all (sequential bits) None (block_of_parts line ps)) (does_all (sequential bits) None (block_of_parts line (parts (mapped_in each ls k ps))))
    parts-lead ls is k no_parts h = subst (λ m. Leads (at ls is k) (at ls is m) nothing nothing) (omega arith) (Leads-nothing (at ls is k))
    parts-lead ls is k (part p ps) h =
        let one = part-leads ls is k p h.0 in
        let more = parts-lead ls is (k + count_of p) ps h.1 in
        let both = Leads-then (at ls is k) (at ls is (k + count_of p)) (at ls is ((k + count_of p) + count_in ps)) _ _ _ _ one (Stays-does_all (sequential bits) None (block_of_parts line ps)) more in
        let sum : (k + count_of p) + count_in ps ≡ k + (count_of p + count_in ps) = omega arith in
        let joined : Leads (at ls is k) (at ls is ((k + count_of p) + count_in ps)) (does_all (sequential bits) None (block_of_parts line (part p ps)))
        (does_all (sequential bits) None (block_of_parts line (parts (mapped_parts_of each ls k p ++ mapped_in each ls (k + count_of p) ps))))
        = record {
          at = λ s u n i a e. subst (λ (t : State). Led (at ls is ((k + count_of p) + count_in ps)) (does_all (sequential bits) None (block_of_parts line (part p ps)) s) t)
              (sym (does_joined bits line (mapped_parts_of each ls k p) (mapped_in each ls (k + count_of p) ps) (record s { store = u; steps = n }))) (both.at s u n i a e);
        } in
        subst (λ m. Leads (at ls is k) (at ls is m) (does_all (sequential bits) None (block_of_parts line (part p ps)))
        (does_all (sequential bits) None (block_of_parts line (parts (mapped_parts_of each ls k p ++ mapped_in each ls (k + count_of p) ps))))) sum joined

pub mapped_nest_leads : (each : List Loop → ℕ → Guarded → List Guarded) (bits line : ℕ) (Known : List ℕ → Loop → ℕ → Type 0)
    (at : List Loop → List ℕ → ℕ → Store → Store → Type 0) (p : Part) → 31 ≤ bits → AllLead each bits line Known at [] [] 0 p
    → Leads (at [] [] 0) (at [] [] (count_of p)) (does (sequential bits) None (statement_of_part line p)) (does_all (sequential bits) None (block_of_parts line (parts (mapped_parts_of each [] 0 p))))
mapped_nest_leads each bits line Known at p low h =
    let zero-plus : 0 + count_of p ≡ count_of p = omega arith in
    subst (λ m. Leads (at [] [] 0) (at [] [] m) (does (sequential bits) None (statement_of_part line p)) (does_all (sequential bits) None (block_of_parts line (parts (mapped_parts_of each [] 0 p))))) zero-plus
    (part-leads each bits line Known at (wide_enough bits low) [] [] 0 p h)
