-- The expanded loop goes on beside the loop.
use Rattle.std.proofs.Common.{◌≡◌, ◌∙◌, refl, sym, ap, inl, inr, subst, ℕ, ℤ, List, [], ◌∷◌, ◌++◌, Option, Some, None}
use Rattle.tree.specs.Plain.{Declaration}
use Rattle.meaning.specs.Run.{does}
use Rattle.meaning.specs.Store.{Store}
use Rattle.rewrite.specs.Following.{sequential}
use Rattle.nest.specs.Blocks.{statement_of_part}
use Rattle.nest.specs.Bodies.{nest_statements, statements_in}
use Rattle.nest.specs.Plain.{Loop, Nest, Part, Run, Turns, Choice, Label, Jump}
use Rattle.nest_rewrite.specs.Assembled.{with_parts}
use Rattle.nest_order.specs.orders.Lists.{In}
use Rattle.nest_order.proofs.orders.Lists.{In-left}
use Rattle.std.proofs.lemmas.List.{append-nil}
use Rattle.nest_steps.specs.Leading.{Led}
use Rattle.nest_steps.proofs.Acts.{Leads-from, Leads-to}
use Rattle.nest_steps.proofs.Mapped.{wide_enough}
use Rattle.scalar_expand.specs.Expanded.{declared_privates, expanded, expanded_part, expanding, named_private, with_made_arrays}
use Rattle.scalar_expand.specs.Flow.{Flows}
use Rattle.scalar_expand.specs.Privates.{names_written, private_or_none, private_among, private_scalar, private_scalars, privates_named}
use Rattle.scalar_expand.specs.Laws.{AreAlike, ExpandedLoopGoesOn, ExpandedNestGoesOn, IsExpandable, IsKept, own_of}
use Rattle.scalar_expand.specs.Stores.{AreSo, Begun, all_at}
use Rattle.scalar_expand.specs.declared.privates.Private.{Private}
use Rattle.scalar_expand.proofs.Bodies.{part_leads, tagged, tagged_at}
use Rattle.scalar_expand.proofs.Changes.{found}
use Rattle.scalar_expand.proofs.Flowing.{Behind, nest_flows, nest_past}
use Rattle.scalar_expand.proofs.PrivateLaws.{first_begins, has_first}
use Rattle.scalar_expand.proofs.Statements.{scalars_of}

none_begun : (bs : List Begun) → scalars_of bs ≡ [] → bs ≡ []
none_begun [] e = refl
none_begun (b ∷ bs) e = let bad : scalars_of (b ∷ bs) ≡ [] = e in cc

pub expanded_loop_goes_on : ExpandedLoopGoesOn
expanded_loop_goes_on bits line ps own ended limits lasts symbols counters value trip q s u n low names all covers ends steady flows going so sound =
    (Leads-from (At [] []) Before After f g first (Leads-to (At [] []) (At behind.begun (all_at [] behind.past ++ [])) After f g last behind.leads)).at s u n going so sound
  where
    IsCounter : List ℕ → Type 0
    IsCounter z = In z counters

    Before : Store → Store → Type 0
    Before = AreSo bits ps limits lasts symbols value IsCounter (λ p. In p own) [] [] [] [] (IsKept own lasts)

    After : Store → Store → Type 0
    After = AreSo bits ps limits lasts symbols value IsCounter (λ p. In p own) [] [] [] (all_at [] ended) (IsKept own lasts)

    At : List Begun → List Begun → Store → Store → Type 0
    At B E = AreSo bits ps limits lasts symbols value IsCounter (λ p. In p own) [] [] B E (λ p. IsKept own lasts p × (named_private (scalars_of B) p.name ≡ None))

    f : Rattle.meaning.specs.Run.Act
    f = does (sequential bits) None (statement_of_part line q)

    g : Rattle.meaning.specs.Run.Act
    g = does (sequential bits) None (statement_of_part line (expanded_part line (expanding ps) own q))

    behind : Rattle.scalar_expand.proofs.Bodies.Behind bits (wide_enough bits low) line ps own limits lasts symbols value IsCounter names all trip covers ends steady [] [] [] [] [] ended f g
    behind = part_leads bits (wide_enough bits low) line ps own limits lasts symbols value IsCounter names all trip covers ends steady [] [] [] [] q [] ended (λ l i. absurd i) tt (λ p i. absurd i) flows

    first : (s u : Store) → Before s u → At [] [] s u
    first s u h = record { beside = h.beside; turned = h.turned; elements = h.elements; passed = h.passed; kept = λ p i k. h.kept p i k.0 }

    last : (s u : Store) → At behind.begun (all_at [] behind.past ++ []) s u → After s u
    last s u h =
        let none = none_begun behind.begun behind.are in
        let same : behind.past ≡ ended = sym (append-nil behind.past) ∙ behind.pasts in
        record {
          beside = h.beside;
          turned = h.turned;
          elements = λ b i. absurd i;
          passed = λ b i. h.passed b (In-left b (all_at [] behind.past) [] (subst (λ es. In b (all_at [] es)) (sym same) i));
          kept = λ p i k. h.kept p i (k, ap (λ bs. named_private (scalars_of bs) p.name) none);
        }

-- ---- nests

-- those of a list that are private are known as such
pub in_privates : (m : Nest) (xs : List (List ℕ)) (p : Private) → In p (privates_named m xs) → private_scalar m p.name ≡ Some p
in_privates m [] p i = absurd i
in_privates m (x ∷ xs) p i = by (private_scalar m x) refl i (λ j. in_privates m xs p j)
  where
    one : (r : Private) → private_scalar m x ≡ Some r → private_scalar m r.name ≡ Some r
    one r e =
        let f = has_first m x r (nest_statements m) e in
        let o = first_begins m x r f.before f.standing f.behind (ap (private_among m x) (sym f.splits) ∙ e) f.none f.stands in
        ap (private_scalar m) o.1.name ∙ e

    by : (o : Option Private) → private_scalar m x ≡ o → In p (private_or_none o ++ privates_named m xs) → (In p (privates_named m xs) → private_scalar m p.name ≡ Some p) → private_scalar m p.name ≡ Some p
    by None e j r = r j
    by (Some q) e (inl f) r = subst (λ (t : Private). private_scalar m t.name ≡ Some t) (sym f) (one q e)
    by (Some q) e (inr j) r = r j

pub in_declared : (ps : List Private) (ds : List Declaration) (p : Private) → In p (declared_privates ps ds) → In p ps
in_declared ps [] p i = absurd i
in_declared ps (d ∷ ds) p i = by (named_private ps d.name) refl i (λ j. in_declared ps ds p j)
  where
    by : (o : Option Private) → named_private ps d.name ≡ o → In p (private_or_none o ++ declared_privates ps ds) → (In p (declared_privates ps ds) → In p ps) → In p ps
    by None e j r = r j
    by (Some q) e (inl f) r = subst (λ (t : Private). In t ps) (sym f) (found ps d.name q e).0
    by (Some q) e (inr j) r = r j

-- what begins where along the text of the nest
pub nest_flow : (bits : ℕ) (m : Nest) (limits : Private → List (ℤ × ℤ)) (lasts : Private → List ℕ) (counters : List (List ℕ)) (value : List ℕ → ℤ) (trip : List ℕ → Loop → ℕ)
    → IsExpandable bits m limits lasts counters value trip
    → (after : List Private) × (ended : List Private) × Flows (private_scalars m) m.symbols (λ z. In z counters) bits value trip [] [] [] m.body after ended
nest_flow bits m limits lasts counters value trip is =
    let b = nest_flows m (private_scalars m) m.symbols (λ z. In z counters) bits value trip (in_privates m (names_written [] (nest_statements m))) is.names.named is.statements is.loops is.once in
    (b.after, b.behind, b.flows)

expanded-body : (m : Nest) → (expanded m).body ≡ expanded_part m.line (expanding (private_scalars m)) (own_of m) m.body
unfolding with_made_arrays with_parts
expanded-body m = refl

pub expanded_nest_goes_on : ExpandedNestGoesOn
expanded_nest_goes_on bits m limits lasts counters value trip s u n low is going alike sound =
    subst (λ (p : Part). Led (Alike (private_scalars m)) (does (sequential bits) None (statement_of_part m.line m.body) s) (does (sequential bits) None (statement_of_part m.line p) (record s { store = u; steps = n })))
    (sym (expanded-body m))
    (all_ended (expanded_loop_goes_on bits m.line (private_scalars m) (own_of m) behind.behind limits lasts m.symbols counters value trip m.body s u n low is.names (in_declared (private_scalars m) m.declarations) is.cover is.end is.steady
    (whole behind.after behind.behind behind.flows) going alike sound))
  where
    IsCounter : List ℕ → Type 0
    IsCounter z = In z counters

    Alike : List Private → Store → Store → Type 0
    Alike = AreAlike bits m limits lasts counters value

    behind : Behind m (private_scalars m) m.symbols IsCounter bits value trip (in_privates m (names_written [] (nest_statements m))) is.names.named is.statements [] (statements_in [] m.body) [] []
        (Flows (private_scalars m) m.symbols IsCounter bits value trip [] [] [] m.body)
    behind = nest_flows m (private_scalars m) m.symbols IsCounter bits value trip (in_privates m (names_written [] (nest_statements m))) is.names.named is.statements is.loops is.once

    past : (p : Private) → In p (private_scalars m) → In p behind.behind
    past = nest_past m (private_scalars m) m.symbols IsCounter bits value trip (in_privates m (names_written [] (nest_statements m))) is.names.named is.statements is.loop is.body is.turns is.loops behind

    ends : (q : Part) → q ≡ Turns is.loop is.body → (after ended : List Private) → Flows (private_scalars m) m.symbols IsCounter bits value trip [] [] [] q after ended
        → Flows (private_scalars m) m.symbols IsCounter bits value trip [] [] [] q [] ended
    ends (Turns l qs) f after ended h = subst (λ as'. Flows (private_scalars m) m.symbols IsCounter bits value trip [] [] [] (Turns l qs) as' ended) h.2 h
    ends (Run g) f after ended h = cc
    ends (Choice bs qs) f after ended h = absurd h
    ends (Label k) f after ended h = absurd h
    ends (Jump k) f after ended h = absurd h

    whole : (after ended : List Private) → Flows (private_scalars m) m.symbols IsCounter bits value trip [] [] [] m.body after ended → Flows (private_scalars m) m.symbols IsCounter bits value trip [] [] [] m.body [] ended
    whole after ended h = ends m.body is.turns after ended h

    all_ended : {t r : Rattle.meaning.specs.Run.State} → Led (Alike behind.behind) t r → Led (Alike (private_scalars m)) t r
    all_ended l = record {
      stores = record {
        beside = l.stores.beside;
        turned = l.stores.turned;
        elements = l.stores.elements;
        passed = λ b i. (let t = tagged_at [] (private_scalars m) b i in l.stores.passed b (subst (λ (c : Begun). In c (all_at [] behind.behind)) (λ k. (b.0, sym t.1 k)) (tagged [] behind.behind b.0 (past b.0 t.0))));
        kept = l.stores.kept;
      };
      rest = l.rest;
      going = l.going;
    }
