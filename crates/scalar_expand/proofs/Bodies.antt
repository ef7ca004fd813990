-- The loops of a nest lead to those of the expanded nest.
use Rattle.std.proofs.lemmas.List.{append-nil}
use Rattle.std.proofs.Common.{append_assoc, ◌≡◌, refl, sym, ap, ap₂, ◌∙◌, ◌⊎◌, inl, inr, subst, ℕ, zero, suc, ◌+◌, ◌≤◌, ℤ, pos, Bool, true, false, not, ◌&&◌, cond, List, [], ◌∷◌, ◌++◌, map, arith, Option, Some, None}
use Rattle.std.specs.Str.{bytes_eq}
use Rattle.std.proofs.lemmas.Bool.{eq-eqb}
use Rattle.std.proofs.lemmas.Slice.Eq.{bytes_eq-Decides}
use Rattle.tree.specs.Plain.{Expression, Number, Do}
use Rattle.tree.specs.declared.ops.Value.TheVariants.{Int}
use Rattle.meaning.specs.Reads.{names_in}
use Rattle.meaning.specs.Store.{Store}
use Rattle.meaning.specs.Value.{is_in_range, numbered}
use Rattle.meaning.specs.Run.{Act, State, nothing, does, does_all}
use Rattle.rewrite.specs.Following.{sequential}
use Rattle.rewrite.proofs.Acts.{Stays-does_all, Stays-nothing}
use Rattle.nest.specs.Blocks.{block_of_parts, guarded_statement, numeral, statement_of_part}
use Rattle.nest.specs.Plain.{Loop, Part, Run, Turns, Choice, Label, Jump, Parts, no_parts, part, parts}
use Rattle.nest_order.specs.orders.Lists.{Each, In}
use Rattle.nest_order.proofs.orders.Lists.{Each-In, In-append, In-left, In-right}
use Rattle.nest_order.proofs.runs.Alike.{Alike, value_alike}
use Rattle.nest_order.proofs.runs.Results.{each_of}
use Rattle.nest_order.proofs.runs.Variables.{cell_name}
use Rattle.nest_steps.specs.Leading.{Led, Leads}
use Rattle.nest_steps.specs.Statements.{cell_of}
use Rattle.nest_steps.proofs.Acts.{Goes, Leads-from, Leads-nothing, Leads-second, Leads-then}
use Rattle.nest_steps.proofs.Loops.{Counts as Counting, Leads-loops}
use Rattle.nest_steps.proofs.Mapped.{does_joined}
use Rattle.nest_steps.proofs.Rounds.{hold_less}
use Rattle.scalar_expand.specs.Expanded.{copied, copies_in, expanded_part, expanded_parts, expanding, has_known_end, is_copied_in, is_innermost, named_private}
use Rattle.scalar_expand.specs.Flow.{AreOfLoop, AreOthers, AreTurns, Counts, CountsAnew, lasts_of, Flows, FlowsIn}
use Rattle.scalar_expand.specs.Privates.{round_loop}
use Rattle.scalar_expand.specs.Stores.{AreApart, AreBeside, AreSo, Begun, IsFront, IsPassed, all_at, arrays, element_cell, numbers}
use Rattle.scalar_expand.specs.declared.privates.Private.{Private}
use Rattle.meaning.specs.Store.{is_within}
use Rattle.scalar_expand.proofs.Changes.{entered, found, left_behind, none_some, one_name}
use Rattle.scalar_expand.proofs.Statements.{begin_leads, begun_at, begun_in, copy_goes, scalars_of, statement_leads, Gone}

-- ---- acts of the second run alone

pub Goes-then : (before middle after : Store → Store → Type 0) (g h : Act) → Goes before middle g → Goes middle after h → Goes before after (λ s. h (g s))
Goes-then before middle after g h f k = record { at = λ s u n w a. by s (g (record s { store = u; steps = n })) w (f.at s u n w a) }
  where
    by : (s t : State) → s.way ≡ Rattle.meaning.specs.Run.Going → Led middle s t → Led after s (h t)
    by s t w m = subst (λ (r : State). Led after s (h r)) (sym m.rest) (k.at s t.store t.steps w m.stores)

pub Goes-to : (before after other : Store → Store → Type 0) (g : Act) → ((s u : Store) → after s u → other s u) → Goes before after g → Goes before other g
Goes-to before after other g less h = record { at = λ s u n w a. let l = h.at s u n w a in record { stores = less s.store _ l.stores; rest = l.rest; going = l.going } }

pub Goes-nothing : (before after : Store → Store → Type 0) → ((s u : Store) → before s u → after s u) → Goes before after nothing
Goes-nothing before after less = record { at = λ s u n w a. record { stores = less s.store u a; rest = refl; going = w } }

-- ---- which have begun

named-in : (ps : List Private) (q : Private) → In q ps → named_private ps q.name ≡ None → ⊥
named-in [] q i e = i
named-in (p ∷ ps) q (inl f) e = by (bytes_eq p.name q.name) ((bytes_eq-Decides p.name q.name).1 (ap (λ (r : Private). r.name) (sym f))) e
  where
    by : (b : Bool) → b ≡ true → cond b (Some p) (named_private ps q.name) ≡ None → ⊥
    by true g h = none_some p (sym h)
    by false g h = cc
named-in (p ∷ ps) q (inr i) e = by (bytes_eq p.name q.name) e (λ h. named-in ps q i h)
  where
    by : (b : Bool) → cond b (Some p) (named_private ps q.name) ≡ None → (named_private ps q.name ≡ None → ⊥) → ⊥
    by true h r = none_some p (sym h)
    by false h r = r h

unnamed-first : (p : Private) (ps : List Private) (x : List ℕ) → named_private (p ∷ ps) x ≡ None → (¬ (p.name ≡ x)) × (named_private ps x ≡ None)
unnamed-first p ps x e = by (bytes_eq p.name x) refl e
  where
    by : (b : Bool) → bytes_eq p.name x ≡ b → cond b (Some p) (named_private ps x) ≡ None → (¬ (p.name ≡ x)) × (named_private ps x ≡ None)
    by true f h = absurd (none_some p (sym h))
    by false f h = ((λ g. (let bad : true ≡ false = sym ((bytes_eq-Decides p.name x).1 g) ∙ f in cc)), h)

-- ---- turns

turns-more : (trip : List ℕ → Loop → ℕ) (done : List ℕ) (ls : List Loop) (is : List ℕ) (l : Loop) (i : ℕ) → AreTurns trip done ls is → 1 ≤ i → i ≤ trip (done ++ is) l → AreTurns trip done (ls ++ l ∷ []) (is ++ i ∷ [])
turns-more trip done [] [] l i h low high = (low, subst (λ js. i ≤ trip js l) (append-nil done) high, tt)
turns-more trip done [] (j ∷ is) l i h low high = absurd h
turns-more trip done (o ∷ ls) [] l i h low high = absurd h
turns-more trip done (o ∷ ls) (j ∷ is) l i h low high =
    (h.0, h.1, turns-more trip (done ++ j ∷ []) ls is l i h.2 low (subst (λ js. i ≤ trip js l) (sym (append_assoc done (j ∷ []) is)) high))

-- ---- what is past

pub tagged : (is : List ℕ) (ps : List Private) (p : Private) → In p ps → In (p, is) (all_at is ps)
tagged is [] p i = i
tagged is (q ∷ ps) p (inl e) = inl (ap (λ (r : Private). (r, is)) e)
tagged is (q ∷ ps) p (inr i) = inr (tagged is ps p i)

pub tagged_at : (is : List ℕ) (ps : List Private) (b : Begun) → In b (all_at is ps) → In b.0 ps × (b.1 ≡ is)
tagged_at is [] b i = absurd i
tagged_at is (q ∷ ps) b (inl e) = (inl (ap (λ (c : Begun). c.0) e), ap (λ (c : Begun). c.1) e)
tagged_at is (q ∷ ps) b (inr i) = let r = tagged_at is ps b i in (inr r.0, r.1)

scalars-tag : (is : List ℕ) (ps : List Private) (E : List Begun) → scalars_of (all_at is ps ++ E) ≡ ps ++ scalars_of E
scalars-tag is [] E = refl
scalars-tag is (p ∷ ps) E = ap (λ qs. p ∷ qs) (scalars-tag is ps E)

tags : (is : List ℕ) (ps qs : List Private) (E : List Begun) → all_at is ps ++ (all_at is qs ++ E) ≡ all_at is (ps ++ qs) ++ E
tags is [] qs E = refl
tags is (p ∷ ps) qs E = ap (λ bs. (p, is) ∷ bs) (tags is ps qs E)

-- ---- last iterations

next-front : (trip : List ℕ → Loop → ℕ) (done : List ℕ) (ls : List Loop) (is : List ℕ) (l : Loop) (more : List Loop) → AreTurns trip done ls is → IsFront is (lasts_of trip done (ls ++ l ∷ more))
    → IsFront (is ++ trip (done ++ is) l ∷ []) (lasts_of trip done (ls ++ l ∷ more)) × In (trip (done ++ is) l) (lasts_of trip done (ls ++ l ∷ more))
next-front trip done [] [] l more h f = let same : trip (done ++ []) l ≡ trip done l = ap (λ js. trip js l) (append-nil done) in ((same, tt), inl same)
next-front trip done [] (i ∷ is) l more h f = absurd h
next-front trip done (o ∷ ls) [] l more h f = absurd h
next-front trip done (o ∷ ls) (i ∷ is) l more h f =
    let r = next-front trip (done ++ i ∷ []) ls is l more h.2 (subst (λ k. IsFront is (lasts_of trip (done ++ k ∷ []) (ls ++ l ∷ more))) (sym f.0) f.1) in
    let at : trip ((done ++ i ∷ []) ++ is) l ≡ trip (done ++ i ∷ is) l = ap (λ js. trip js l) (append_assoc done (i ∷ []) is) in
    let front = subst (λ k. IsFront (is ++ k ∷ []) (lasts_of trip (done ++ i ∷ []) (ls ++ l ∷ more))) at r.0 in
    let stands = subst (λ k. In k (lasts_of trip (done ++ i ∷ []) (ls ++ l ∷ more))) at r.1 in (
      (f.0, subst (λ k. IsFront (is ++ trip (done ++ i ∷ is) l ∷ []) (lasts_of trip (done ++ k ∷ []) (ls ++ l ∷ more))) f.0 front),
      inr (subst (λ k. In (trip (done ++ i ∷ is) l) (lasts_of trip (done ++ k ∷ []) (ls ++ l ∷ more))) f.0 stands),
    )

whole-front : (trip : List ℕ → Loop → ℕ) (done : List ℕ) (ls : List Loop) (is : List ℕ) → AreTurns trip done ls is → IsFront is (lasts_of trip done ls) → lasts_of trip done ls ≡ is
whole-front trip done [] [] h f = refl
whole-front trip done [] (i ∷ is) h f = absurd h
whole-front trip done (o ∷ ls) [] h f = absurd h
whole-front trip done (o ∷ ls) (i ∷ is) h f =
    ap₂ (λ (k : ℕ) (ks : List ℕ). k ∷ ks) (sym f.0)
    (ap (λ k. lasts_of trip (done ++ k ∷ []) ls) (sym f.0) ∙ whole-front trip (done ++ i ∷ []) ls is h.2 (subst (λ k. IsFront is (lasts_of trip (done ++ k ∷ []) ls)) (sym f.0) f.1))

-- ---- the innermost loop

-- trips that are the same in each turn
lasts-low : (trip : List ℕ → Loop → ℕ) (done : List ℕ) (ls : List Loop) (is ends : List ℕ) → AreTurns trip done ls is → ((l : Loop) → In l ls → (a b : List ℕ) → trip a l ≡ trip b l)
    → Each (λ i. 1 ≤ i) (lasts_of trip ends ls)
lasts-low trip done [] is ends h same = tt
lasts-low trip done (l ∷ ls) [] ends h same = absurd h
lasts-low trip done (l ∷ ls) (i ∷ is) ends h same =
    let high : i ≤ trip ends l = subst (λ m. i ≤ m) (same l (inl refl) done ends) h.1 in
    (omega (arith, h.0, high), lasts-low trip (done ++ i ∷ []) ls is (ends ++ trip ends l ∷ []) h.2 (λ k j a b. same k (inr j) a b))

pub innermost : (ls : List Loop) (l : Loop) → is_innermost l.number (map round_loop (ls ++ l ∷ [])) ≡ true
innermost [] l = eq-eqb l.number l.number refl
innermost (o ∷ []) l = innermost [] l
innermost (o ∷ k ∷ ls) l = innermost (k ∷ ls) l

module _ (bits : ℕ) (fit : Counting bits) (line : ℕ) (ps own : List Private) (limits : Private → List (ℤ × ℤ)) (lasts : Private → List ℕ) (symbols : List (List ℕ)) (value : List ℕ → ℤ) (IsCounter : List ℕ → Type 0) where
  -- what keeps its place
  abbrev pub IsOwn : Private → Type 0
  IsOwn p = In p own

  abbrev pub IsKept : Private → Type 0
  IsKept p = In p own × ((has_known_end p ≡ false) ⊎ In 0 (lasts p))

  module _ (names : AreApart bits ps limits lasts symbols value IsCounter IsOwn) (all : (p : Private) → In p own → In p ps) (trip : List ℕ → Loop → ℕ)
      (covers : (p : Private) → In p ps → (ls : List Loop) → p.loops ≡ map round_loop ls → (is : List ℕ) → AreTurns trip [] ls is → is_within (limits p) (numbers is) ≡ true)
      (ends : (p : Private) → In p ps → (os : List Loop) → p.loops ≡ map round_loop os → lasts p ≡ lasts_of trip [] os)
      (steady : (p : Private) → In p ps → has_known_end p ≡ true → (os : List Loop) → p.loops ≡ map round_loop os → (l : Loop) → In l os → (is js : List ℕ) → trip is l ≡ trip js l) where
    abbrev Trips : List ℕ → Loop → ℕ → Type 0
    Trips is l n = trip is l ≡ n

    abbrev Turned : List Loop → List ℕ → Type 0
    Turned = AreTurns trip []

    grows : (ls : List Loop) (is : List ℕ) (l : Loop) (n i : ℕ) → Turned ls is → Trips is l n → 1 ≤ i → i ≤ n → Turned (ls ++ l ∷ []) (is ++ i ∷ [])
    grows ls is l n i h t low high = turns-more trip [] ls is l i h low (subst (λ m. i ≤ m) (sym t) high)

    abbrev lang : Rattle.meaning.specs.Dialect.Dialect
    lang = sequential bits

    abbrev KeptBut : List Begun → Private → Type 0
    KeptBut B q = IsKept q × (named_private (scalars_of B) q.name ≡ None)

    abbrev pub At : List Loop → List ℕ → List Begun → List Begun → Store → Store → Type 0
    At ls is B E = AreSo bits ps limits lasts symbols value IsCounter IsOwn ls is B E (KeptBut B)

    abbrev Countable : List Loop → Type 0
    Countable ls = (l : Loop) → In l ls → IsCounter l.variable

    -- ---- copies

    module _ (ls : List Loop) (counted : Countable ls) (is : List ℕ) (B E : List Begun) (n : ℕ) where
      abbrev So : (Private → Type 0) → Store → Store → Type 0
      So K = AreSo bits ps limits lasts symbols value IsCounter IsOwn ls is B E K

      abbrev Also : List Private → (Private → Type 0) → Private → Type 0
      Also os K q = K q ⊎ (In q os × (is_copied_in n q ≡ true))

      kept_less : (K J : Private → Type 0) → ((q : Private) → J q → K q) → (s u : Store) → So K s u → So J s u
      kept_less K J less s u h = record { beside = h.beside; turned = h.turned; elements = h.elements; passed = h.passed; kept = λ q i k. h.kept q i (less q k) }

      copies_go : (os : List Private) (K : Private → Type 0) → ((p : Private) → In p os → is_copied_in n p ≡ true → In p ps × (In p (scalars_of B) × IsOwn p))
          → Goes (So K) (So (Also os K)) (does_all lang None (block_of_parts line (parts (copies_in line n os))))
      copies_go [] K known = Goes-nothing (So K) (So (Also [] K)) (kept_less K (Also [] K) (λ q k. by q k))
        where
          by : (q : Private) → Also [] K q → K q
          by q (inl k) = k
          by q (inr i) = absurd i.0
      copies_go (p ∷ os) K known = by (is_copied_in n p) refl (λ J. copies_go os J (λ q i c. known q (inr i) c))
        where
          Now : Private → Type 0
          Now q = K q ⊎ (q ≡ p)

          other : is_copied_in n p ≡ false → (q : Private) → Also (p ∷ os) K q → Also os K q
          other f q (inl k) = inl k
          other f q (inr (inl e, c)) = let bad : true ≡ false = sym c ∙ (ap (is_copied_in n) e ∙ f) in cc
          other f q (inr (inr i, c)) = inr (i, c)

          both : (q : Private) → Also (p ∷ os) K q → Also os Now q
          both q (inl k) = inl (inl k)
          both q (inr (inl e, c)) = inl (inr e)
          both q (inr (inr i, c)) = inr (i, c)

          by : (b : Bool) → is_copied_in n p ≡ b → ((J : Private → Type 0) → Goes (So J) (So (Also os J)) (does_all lang None (block_of_parts line (parts (copies_in line n os))))) → Goes (So K) (So (Also (p ∷ os) K)) (does_all lang None (block_of_parts line (parts (cond b (Run (copied line p) ∷ []) [] ++ copies_in line n os))))
          by true e go =
              let k = known p (inl refl) e in
              Goes-then (So K) (So Now) (So (Also (p ∷ os) K)) (does lang None (guarded_statement (copied line p))) (does_all lang None (block_of_parts line (parts (copies_in line n os))))
              (copy_goes bits ps limits lasts symbols value IsCounter IsOwn names ls counted is B E K line p Now k.0 k.1.0 k.1.1 (λ q i j. j))
              (Goes-to (So Now) (So (Also os Now)) (So (Also (p ∷ os) K)) _ (kept_less (Also os Now) (Also (p ∷ os) K) both) (go Now))
          by false e go = Goes-to (So K) (So (Also os K)) (So (Also (p ∷ os) K)) _ (kept_less (Also os K) (Also (p ∷ os) K) (other e)) (go K)

    -- ---- parts

    abbrev Block-leads : (Store → Store → Type 0) → (Store → Store → Type 0) → Parts → List Part → Type 0
    Block-leads before after qs rs = Leads before after (does_all lang None (block_of_parts line qs)) (does_all lang None (block_of_parts line (parts rs)))

    -- what stands behind a part, or parts
    pub record Behind (ls : List Loop) (is : List ℕ) (B E : List Begun) (after behind : List Private) (f g : Act) : Type 0 where
      pub begun : List Begun
      pub are : scalars_of begun ≡ after
      pub more : (b : Begun) → In b B → In b begun
      pub here : (b : Begun) → In b begun → In b B ⊎ (b.1 ≡ is)
      pub past : List Private
      pub pasts : past ++ scalars_of E ≡ behind
      pub leads : Leads (At ls is B E) (At ls is begun (all_at is past ++ E)) f g

    abbrev expand : Part → Part
    expand q = expanded_part line (expanding ps) own q

    abbrev expand_each : Parts → List Part
    expand_each qs = expanded_parts line (expanding ps) own qs

    -- less is known to be past
    forget : (ls : List Loop) (is : List ℕ) (B D E : List Begun) (s u : Store) → At ls is B (D ++ E) s u → At ls is B E s u
    forget ls is B D E s u h = record { beside = h.beside; turned = h.turned; elements = h.elements; passed = λ b i. h.passed b (In-right b D E i); kept = h.kept }

    one-loop : (ls : List Loop) (is : List ℕ) (B E : List Begun) (l : Loop) (qs : Parts) (rs : List Part) (inside : List Private) → Countable ls → Turned ls is → Counts ps symbols IsCounter bits value trip ls l
        → CountsAnew ps symbols IsCounter bits value trip (scalars_of B) l → ((p : Private) → In p inside → In p ps) → ((p : Private) → In p inside → (more : List Loop) × (p.loops ≡ map round_loop (ls ++ l ∷ more)))
        → ((n : ℕ) → Trips is l n → (i : ℕ) → 1 ≤ i → i ≤ n → Block-leads (At (ls ++ l ∷ []) (is ++ i ∷ []) B E) (At (ls ++ l ∷ []) (is ++ i ∷ []) B (all_at (is ++ i ∷ []) inside ++ E)) qs rs)
        → Leads (At ls is B E) (At ls is B (all_at is inside ++ E)) (does lang None (statement_of_part line (Turns l qs))) (does lang None (statement_of_part line (Turns l (parts rs))))
    one-loop ls is B E l qs rs inside counted turned c anew among path body =
        subst (λ (e : Expression). Leads (At ls is B E) Behind-it (does lang None (Do line l.variable e l.last (numeral l.step) (block_of_parts line qs))) (does lang None (Do line l.variable e l.last (numeral l.step) (block_of_parts line (parts rs))))) (sym c.first)
        (subst (λ (z : ℤ). Leads (At ls is B E) Behind-it (does lang None (Do line l.variable (Number (pos 1)) l.last (numeral z) (block_of_parts line qs))) (does lang None (Do line l.variable (Number (pos 1)) l.last (numeral z) (block_of_parts line (parts rs))))) (sym c.step)
        (Leads-loops bits fit l.variable (At ls is B E) Behind-it On Done l.last l.last (Trips is l)
        (record {
          scalars = λ s u h. bounds s u h.beside;
          same = λ s u h z e. ap numbered (sym (value_alike bits s u l.last (each_of (Alike bits s u) (names_in l.last) (λ z i. alike s u h.beside z (c.last z i))))) ∙ e;
          turns_are = λ s u h z n e f. c.turns is s z n (record { counters = h.beside.counters; fixed = h.beside.fixed }) h.turned e f;
          begins = λ s u h. enter E 1 s u h;
          turns = record {
            scalars = λ m s u h. bounds s u h.beside;
            first = λ m s u h. (hold_less l m ls is s h.turned).1;
            second = λ m s u h. h.beside.held (cell_of l.variable) apart.0 apart.1 ∙ (hold_less l m ls is s h.turned).1;
            next = λ m small s u h. goes_on m s u h;
          };
        })
        (λ n known s u h. ended n known s u h) line line _ _
        (λ n known i low high. Leads-from (At (ls ++ l ∷ []) (is ++ i ∷ []) B E) (On i) (Done i) _ _ (λ s u h. forget (ls ++ l ∷ []) (is ++ i ∷ []) B (earlier i) E s u h) (body n known i low high))))
      where
        -- what is past where a turn begins: what the turn before it left
        earlier : ℕ → List Begun
        earlier zero = []
        earlier (suc zero) = []
        earlier (suc (suc k)) = all_at (is ++ suc k ∷ []) inside

        On : ℕ → Store → Store → Type 0
        On i = At (ls ++ l ∷ []) (is ++ i ∷ []) B (earlier i ++ E)

        Done : ℕ → Store → Store → Type 0
        Done i = At (ls ++ l ∷ []) (is ++ i ∷ []) B (all_at (is ++ i ∷ []) inside ++ E)

        Behind-it : Store → Store → Type 0
        Behind-it = At ls is B (all_at is inside ++ E)

        apart : (named_private ps l.variable ≡ None) × (¬ In l.variable (arrays ps))
        apart = names.counters l.variable c.counter

        bounds : (s u : Store) → AreBeside bits ps limits lasts symbols value IsCounter IsOwn s u → (s.bounds l.variable ≡ Some []) × (u.bounds l.variable ≡ Some [])
        bounds s u h = (h.counters l.variable c.counter, h.bounds l.variable apart.0 apart.1 ∙ h.counters l.variable c.counter)

        alike : (s u : Store) → AreBeside bits ps limits lasts symbols value IsCounter IsOwn s u → (z : List ℕ) → (named_private ps z ≡ None) × (¬ In z (arrays ps)) → Alike bits s u z
        alike s u h z n = (
          sym (h.bounds z n.0 n.1),
          λ is d e. let name = (cell_name (s.bounds z) z is d e).0 in sym (h.held d (ap (named_private ps) name ∙ n.0) (λ i. n.1 (subst (λ y. In y (arrays ps)) name i))),
        )

        enter : (D : List Begun) (i : ℕ) (s u : Store) → At ls is B D s u
            → At (ls ++ l ∷ []) (is ++ i ∷ []) B D (Rattle.meaning.specs.Store.put (cell_of l.variable) (Int (pos i)) s) (Rattle.meaning.specs.Store.put (cell_of l.variable) (Int (pos i)) u)
        enter D i s u h = entered bits ps limits lasts symbols value IsCounter IsOwn names ls l is i B D (KeptBut B) s u c.counter c.own (λ b j k m. anew b.0 (begun_in B b j) k m) h

        leave : (D : List Begun) (i : ℕ) (s u : Store) → At (ls ++ l ∷ []) (is ++ i ∷ []) B D s u → At ls is B D s u
        leave D i s u h = left_behind bits ps limits lasts symbols value IsCounter IsOwn names ls l is i B D (KeptBut B) s u h

        goes_on : (m : ℕ) (s u : Store) → Done m s u → On (suc m) (Rattle.meaning.specs.Store.put (cell_of l.variable) (Int (pos (suc m))) s) (Rattle.meaning.specs.Store.put (cell_of l.variable) (Int (pos (suc m))) u)
        goes_on zero s u h = enter E 1 s u (forget ls is B (all_at (is ++ 0 ∷ []) inside) E s u (leave (all_at (is ++ 0 ∷ []) inside ++ E) 0 s u h))
        goes_on (suc k) s u h = enter (all_at (is ++ suc k ∷ []) inside ++ E) (suc (suc k)) s u (leave (all_at (is ++ suc k ∷ []) inside ++ E) (suc k) s u h)

        ended : (n : ℕ) → Trips is l n → (s u : Store) → On (suc n) s u → Behind-it s u
        ended n known s u h = record {
          beside = h.beside;
          turned = (leave (earlier (suc n) ++ E) (suc n) s u h).turned;
          elements = h.elements;
          passed = λ b i. by b (In-append b (all_at is inside) E i);
          kept = h.kept;
        }
          where
            last : (k : ℕ) → n ≡ k → (p : Private) → In p inside → (L : List ℕ) → lasts p ≡ L → IsFront (is ++ n ∷ []) L → In n L → Each (λ i. 1 ≤ i) L
                → (u.held (element_cell p (lasts p)) ≡ s.held (cell_of p.name)) × (is_in_range bits (s.held (cell_of p.name)) ≡ true)
            last zero e p i L f front j r = let low = Each-In (λ i. 1 ≤ i) L r n j in absurd (omega (arith, low, e))
            last (suc k) e p i L f front j r =
                (h.passed (p, is ++ suc k ∷ []) (subst (λ m. In (p, is ++ suc k ∷ []) (earlier (suc m) ++ E)) (sym e) (In-left (p, is ++ suc k ∷ []) (all_at (is ++ suc k ∷ []) inside) E (tagged (is ++ suc k ∷ []) inside p i)))).same
                (subst (IsFront (is ++ suc k ∷ [])) (sym f) (subst (λ m. IsFront (is ++ m ∷ []) L) e front)) (subst (Each (λ i. 1 ≤ i)) (sym f) r)

            by : (b : Begun) → In b (all_at is inside) ⊎ In b E → IsPassed bits ps limits lasts symbols value IsCounter IsOwn b s u
            by b (inr i) = h.passed b (In-right b (earlier (suc n)) E i)
            by b (inl i) =
                let t = tagged_at is inside b i in
                let p = path b.0 t.0 in
                let found' = ends b.0 (among b.0 t.0) (ls ++ l ∷ p.0) p.1 in
                record {
                  among = among b.0 t.0;
                  same = λ f r.
                      let next = next-front trip [] ls is l p.0 turned (subst (IsFront is) found' (subst (λ js. IsFront js (lasts b.0)) t.1 f)) in
                      last n refl b.0 t.0 (lasts_of trip [] (ls ++ l ∷ p.0)) found' (subst (λ m. IsFront (is ++ m ∷ []) (lasts_of trip [] (ls ++ l ∷ p.0))) known next.0)
                      (subst (λ m. In m (lasts_of trip [] (ls ++ l ∷ p.0))) known next.1) (subst (Each (λ i. 1 ≤ i)) found' r);
                }

    -- a body and what the second run does behind it
    joined_leads : (before middle after : Store → Store → Type 0) (qs : Parts) (rs cs : List Part) → Block-leads before middle qs rs → Goes middle after (does_all lang None (block_of_parts line (parts cs)))
        → Block-leads before after qs (rs ++ cs)
    joined_leads before middle after qs rs cs f g =
        let both = Leads-then before middle after (does_all lang None (block_of_parts line qs)) (does_all lang None (block_of_parts line (parts rs))) nothing (does_all lang None (block_of_parts line (parts cs)))
        f Stays-nothing (Leads-second middle after (does_all lang None (block_of_parts line (parts cs))) g) in
        record {
          at = λ s u n i a e. subst (λ (t : State). Led after (does_all lang None (block_of_parts line qs) s) t) (sym (does_joined bits line rs cs (record s { store = u; steps = n }))) (both.at s u n i a e);
        }

    more_counted : (ls : List Loop) (l : Loop) → Countable ls → IsCounter l.variable → Countable (ls ++ l ∷ [])
    more_counted ls l h c o i = by (In-append o ls (l ∷ []) i)
      where
        by : In o ls ⊎ In o (l ∷ []) → IsCounter o.variable
        by (inl j) = h o j
        by (inr (inl e)) = subst (λ (k : Loop). IsCounter k.variable) (sym e) c
        by (inr (inr j)) = absurd j

    -- at the end of a turn what its body has begun is past, and what is copied is kept
    module _ (ls : List Loop) (is : List ℕ) (B E C : List Begun) (news inner past : List Private) (l : Loop) (counted : Countable (ls ++ l ∷ [])) (turned : Turned (ls ++ l ∷ []) is) (are : scalars_of C ≡ news ++ scalars_of B)
        (more : (b : Begun) → In b B → In b C) (here : (b : Begun) → In b C → In b B ⊎ (b.1 ≡ is)) (pasts : past ++ scalars_of E ≡ inner ++ scalars_of E)
        (of' : AreOfLoop ps symbols IsCounter bits value trip ls l (scalars_of B) (scalars_of E) news inner) (known_all : (p : Private) → In p (scalars_of C) → In p ps) where
      abbrev Now : (Private → Type 0) → Store → Store → Type 0
      Now K = AreSo bits ps limits lasts symbols value IsCounter IsOwn (ls ++ l ∷ []) is C (all_at is past ++ E) K

      abbrev AlsoKept : Private → Type 0
      AlsoKept = Also (ls ++ l ∷ []) counted is C (all_at is past ++ E) l.number own (KeptBut C)

      known : (p : Private) → In p own → is_copied_in l.number p ≡ true → In p ps × (In p (scalars_of C) × IsOwn p)
      known p i c =
          let both = split (has_known_end p) (is_innermost l.number p.loops) c in
          (all p i, (subst (In p) (sym are) (In-left p news (scalars_of B) (of'.all p (all p i) both.1)), i))
        where
          split : (a b : Bool) → (not a && b) ≡ true → (a ≡ false) × (b ≡ true)
          split true b e = cc
          split false b e = (refl, e)

      kept : (q : Private) → In q ps → KeptBut B q → AlsoKept q
      kept q i k = by (named_private (scalars_of C) q.name) refl
        where
          by : (o : Option Private) → named_private (scalars_of C) q.name ≡ o → AlsoKept q
          by None e = inl (k.0, e)
          by (Some r) e =
              let at = found (scalars_of C) q.name r e in
              let same : r ≡ q = one_name bits ps limits lasts symbols value IsCounter IsOwn names r q (known_all r at.0) i at.1 in
              by' (In-append q news (scalars_of B) (subst (In q) are (subst (λ (t : Private). In t (scalars_of C)) same at.0)))
            where
              by' : In q news ⊎ In q (scalars_of B) → AlsoKept q
              by' (inl j) = inr (k.0.0, ap₂ (λ a b. not a && b) (unknown (has_known_end q) refl k.0.1) inmost)
                where
                  inmost : is_innermost l.number q.loops ≡ true
                  inmost = ap (is_innermost l.number) (of'.own q j) ∙ innermost ls l

                  -- what is begun has a turn of its loops
                  unknown : (b : Bool) → has_known_end q ≡ b → (has_known_end q ≡ false) ⊎ In 0 (lasts q) → has_known_end q ≡ false
                  unknown false e o = e
                  unknown true e (inl f) = f
                  unknown true e (inr z) =
                      let low = lasts-low trip [] (ls ++ l ∷ []) is [] turned (steady q i e (ls ++ l ∷ []) (of'.own q j)) in
                      let bad : 1 ≤ 0 = Each-In (λ k. 1 ≤ k) (lasts_of trip [] (ls ++ l ∷ [])) low 0 (subst (In 0) (ends q i (ls ++ l ∷ []) (of'.own q j)) z) in
                      absurd (omega (arith, bad))
              by' (inr j) = absurd (named-in (scalars_of B) q j k.1)

      less : (s u : Store) → Now AlsoKept s u → At (ls ++ l ∷ []) is B (all_at is (news ++ inner) ++ E) s u
      less s u h = record {
        beside = h.beside;
        turned = h.turned;
        elements = λ b i. h.elements b (more b i);
        passed = λ b i. by b (In-append b (all_at is (news ++ inner)) E i);
        kept = λ q i k. h.kept q i (kept q i k);
      }
        where
          -- begun in this turn
          begun_here : (p : Private) → In p news → IsPassed bits ps limits lasts symbols value IsCounter IsOwn (p, is) s u
          begun_here p i = at (begun_at C p (subst (In p) (sym are) (In-left p news (scalars_of B) i)))
            where
              chosen : (b : Begun) → In b C → b.0 ≡ p → In b B ⊎ (b.1 ≡ is) → IsPassed bits ps limits lasts symbols value IsCounter IsOwn (p, is) s u
              chosen b j e (inl k) = absurd ((of'.apart p (In-left p news inner i)).0 (subst (λ (r : Private). In r (scalars_of B)) e (begun_in B b k)))
              chosen b j e (inr f) =
                  let el = h.elements b j in
                  record {
                    among = subst (λ (r : Private). In r ps) e el.among;
                    same = λ front r.
                        let lasts_are = ends p (subst (λ (r : Private). In r ps) e el.among) (ls ++ l ∷ []) (of'.own p i) in
                        let whole : lasts p ≡ is = lasts_are ∙ whole-front trip [] (ls ++ l ∷ []) is turned (subst (IsFront is) lasts_are front) in (
                          subst (λ js. u.held (element_cell p js) ≡ s.held (cell_of p.name)) (sym whole)
                              (subst (λ js. u.held (element_cell p js) ≡ s.held (cell_of p.name)) f (subst (λ (r : Private). u.held (element_cell r b.1) ≡ s.held (cell_of r.name)) e el.same)),
                          subst (λ (r : Private). is_in_range bits (s.held (cell_of r.name)) ≡ true) e el.range,
                        );
                  }

              at : ((b : Begun) × In b C × (b.0 ≡ p)) → IsPassed bits ps limits lasts symbols value IsCounter IsOwn (p, is) s u
              at b = chosen b.0 b.1 b.2 (here b.0 b.1)

          -- begun further in
          inside : (p : Private) → In p inner → IsPassed bits ps limits lasts symbols value IsCounter IsOwn (p, is) s u
          inside p i = one (In-append p past (scalars_of E) (subst (In p) (sym pasts) (In-left p inner (scalars_of E) i)))
            where
              one : In p past ⊎ In p (scalars_of E) → IsPassed bits ps limits lasts symbols value IsCounter IsOwn (p, is) s u
              one (inl j) = h.passed (p, is) (In-left (p, is) (all_at is past) E (tagged is past p j))
              one (inr j) = absurd ((of'.apart p (In-right p news inner i)).1 j)

          either : (p : Private) → In p news ⊎ In p inner → IsPassed bits ps limits lasts symbols value IsCounter IsOwn (p, is) s u
          either p (inl i) = begun_here p i
          either p (inr i) = inside p i

          by : (b : Begun) → In b (all_at is (news ++ inner)) ⊎ In b E → IsPassed bits ps limits lasts symbols value IsCounter IsOwn b s u
          by b (inr i) = h.passed b (In-right b (all_at is past) E i)
          by b (inl i) =
              let t = tagged_at is (news ++ inner) b i in
              let whole : (b.0, is) ≡ b = (λ k. (b.0, sym t.1 k)) in
              subst (λ (c : Begun). IsPassed bits ps limits lasts symbols value IsCounter IsOwn c s u) whole (either b.0 (In-append b.0 news inner t.0))

      turn-ends : Goes (At (ls ++ l ∷ []) is C (all_at is past ++ E)) (At (ls ++ l ∷ []) is B (all_at is (news ++ inner) ++ E)) (does_all lang None (block_of_parts line (parts (copies_in line l.number own))))
      turn-ends = Goes-to (At (ls ++ l ∷ []) is C (all_at is past ++ E)) (Now AlsoKept) (At (ls ++ l ∷ []) is B (all_at is (news ++ inner) ++ E)) _ less
          (copies_go (ls ++ l ∷ []) counted is C (all_at is past ++ E) l.number own (KeptBut C) known)

    gone : (ls : List Loop) (counted : Countable ls) (is : List ℕ) (B E : List Begun) → AreOthers ps symbols IsCounter bits value trip (scalars_of B) (scalars_of E) → Gone bits ps limits lasts symbols value IsCounter IsOwn names ls counted is B E (KeptBut B)
    gone ls counted is B E others = record { own = λ q i k. k.0.0; apart = λ q i k j. named-in (scalars_of B) q j k.1; behind = λ b i j. others b.0 j (begun_in E b i) }

    abbrev Among : List Begun → Type 0
    Among B = (p : Private) → In p (scalars_of B) → In p ps

    mutual
      pub part_leads : (ls : List Loop) (is : List ℕ) (B E : List Begun) (q : Part) (after behind : List Private) → Countable ls → Turned ls is → Among B → Flows ps symbols IsCounter bits value trip ls (scalars_of B) (scalars_of E) q after behind
          → Behind ls is B E after behind (does lang None (statement_of_part line q)) (does lang None (statement_of_part line (expand q)))
      part_leads ls is B E (Run g) after behind counted turned among (inl f) = record {
        begun = B;
        are = sym f.2;
        more = λ b i. i;
        here = λ b i. inl i;
        past = [];
        pasts = sym f.3;
        leads = statement_leads bits ps limits lasts symbols value IsCounter IsOwn names ls counted is B E (KeptBut B) g f.0 (gone ls counted is B E f.1);
      }
      part_leads ls is B E (Run g) after behind counted turned among (inr f) = record {
        begun = (f.0, is) ∷ B;
        are = sym f.3;
        more = λ b i. inr i;
        here = here;
        past = [];
        pasts = sym f.4;
        leads = begin_leads bits ps limits lasts symbols value IsCounter IsOwn names ls counted is B E (KeptBut B) g f.0 f.1 (covers f.0 f.1.among ls f.1.loops is turned) (KeptBut ((f.0, is) ∷ B))
            (λ b i e. f.2 (subst (λ (r : Private). In r (scalars_of E)) e (begun_in E b i))) (λ q i k. less q k);
      }
        where
          here : (b : Begun) → In b ((f.0, is) ∷ B) → In b B ⊎ (b.1 ≡ is)
          here b (inl e) = inr (ap (λ (c : Begun). c.1) e)
          here b (inr i) = inl i

          less : (q : Private) → KeptBut ((f.0, is) ∷ B) q → KeptBut B q × (IsOwn q × (¬ (q ≡ f.0)))
          less q k = let n = unnamed-first f.0 (scalars_of B) q.name k.1 in ((k.0, n.1), (k.0.0, λ e. n.0 (ap (λ (r : Private). r.name) (sym e))))
      part_leads ls is B E (Turns l qs) after behind counted turned among f = record {
        begun = B;
        are = sym f.2;
        more = λ b i. i;
        here = λ b i. inl i;
        past = f.3.0 ++ f.3.1;
        pasts = sym f.3.4;
        leads = one-loop ls is B E l qs (expand_each qs ++ copies_in line l.number own) (f.3.0 ++ f.3.1) counted turned f.0 f.1 f.3.3.among f.3.3.path
            (λ n known i low high. turn i (grows ls is l n i turned known low high)
            (parts_lead (ls ++ l ∷ []) (is ++ i ∷ []) B E qs (f.3.0 ++ scalars_of B) (f.3.1 ++ scalars_of E) counted' (grows ls is l n i turned known low high) among f.3.2));
      }
        where
          counted' : Countable (ls ++ l ∷ [])
          counted' = more_counted ls l counted f.0.counter

          turn : (i : ℕ) → Turned (ls ++ l ∷ []) (is ++ i ∷ [])
              → Behind (ls ++ l ∷ []) (is ++ i ∷ []) B E (f.3.0 ++ scalars_of B) (f.3.1 ++ scalars_of E) (does_all lang None (block_of_parts line qs)) (does_all lang None (block_of_parts line (parts (expand_each qs))))
              → Block-leads (At (ls ++ l ∷ []) (is ++ i ∷ []) B E) (At (ls ++ l ∷ []) (is ++ i ∷ []) B (all_at (is ++ i ∷ []) (f.3.0 ++ f.3.1) ++ E)) qs (expand_each qs ++ copies_in line l.number own)
          turn i turned' body =
              let closing = turn-ends ls (is ++ i ∷ []) B E body.begun f.3.0 f.3.1 body.past l counted' turned' body.are body.more body.here body.pasts f.3.3 (λ p j. in_ps p (In-append p f.3.0 (scalars_of B) (subst (In p) body.are j))) in
              joined_leads (At (ls ++ l ∷ []) (is ++ i ∷ []) B E) (At (ls ++ l ∷ []) (is ++ i ∷ []) body.begun (all_at (is ++ i ∷ []) body.past ++ E)) (At (ls ++ l ∷ []) (is ++ i ∷ []) B (all_at (is ++ i ∷ []) (f.3.0 ++ f.3.1) ++ E))
              qs (expand_each qs) (copies_in line l.number own) body.leads closing
            where
              in_ps : (p : Private) → In p f.3.0 ⊎ In p (scalars_of B) → In p ps
              in_ps p (inl j) = f.3.3.among p (In-left p f.3.0 f.3.1 j)
              in_ps p (inr j) = among p j
      part_leads ls is B E (Choice bs qs) after behind counted turned among f = absurd f
      part_leads ls is B E (Label n) after behind counted turned among f = absurd f
      part_leads ls is B E (Jump n) after behind counted turned among f = absurd f

      pub parts_lead : (ls : List Loop) (is : List ℕ) (B E : List Begun) (qs : Parts) (after behind : List Private) → Countable ls → Turned ls is → Among B → FlowsIn ps symbols IsCounter bits value trip ls (scalars_of B) (scalars_of E) qs after behind
          → Behind ls is B E after behind (does_all lang None (block_of_parts line qs)) (does_all lang None (block_of_parts line (parts (expand_each qs))))
      parts_lead ls is B E no_parts after behind counted turned among f = record { begun = B; are = sym f.0; more = λ b i. i; here = λ b i. inl i; past = []; pasts = sym f.1; leads = Leads-nothing (At ls is B E) }
      parts_lead ls is B E (part q qs) after behind counted turned among f =
          let one = part_leads ls is B E q f.0 f.1 counted turned among f.2 in
          let pasts' : scalars_of (all_at is one.past ++ E) ≡ f.1 = scalars-tag is one.past E ∙ one.pasts in
          let rest = parts_lead ls is one.begun (all_at is one.past ++ E) qs after behind counted turned (λ p i. f.4 p (subst (In p) one.are i))
          (subst (λ bs. FlowsIn ps symbols IsCounter bits value trip ls (scalars_of one.begun) bs qs after behind) (sym pasts')
          (subst (λ ms. FlowsIn ps symbols IsCounter bits value trip ls ms f.1 qs after behind) (sym one.are) f.3)) in
          record {
            begun = rest.begun;
            are = rest.are;
            more = λ b i. rest.more b (one.more b i);
            here = λ b i. either one.begun b (rest.here b i) (λ j. one.here b j);
            past = rest.past ++ one.past;
            pasts = append_assoc rest.past one.past (scalars_of E) ∙ (ap (λ bs. rest.past ++ bs) (sym (scalars-tag is one.past E)) ∙ rest.pasts);
            leads = subst (λ D. Leads (At ls is B E) (At ls is rest.begun D) (does_all lang None (block_of_parts line (part q qs))) (does_all lang None (block_of_parts line (parts (expand_each (part q qs)))))) (tags is rest.past one.past E)
                (Leads-then (At ls is B E) (At ls is one.begun (all_at is one.past ++ E)) (At ls is rest.begun (all_at is rest.past ++ (all_at is one.past ++ E))) _ _ _ _ one.leads (Stays-does_all lang None (block_of_parts line qs)) rest.leads);
          }
        where
          either : (C : List Begun) (b : Begun) → In b C ⊎ (b.1 ≡ is) → (In b C → In b B ⊎ (b.1 ≡ is)) → In b B ⊎ (b.1 ≡ is)
          either C b (inl i) g = g i
          either C b (inr e) g = inr e
