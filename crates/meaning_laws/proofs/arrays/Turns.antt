-- Storing one by one equals storing all at once, where no instance reads what an earlier one has written.
use Rattle.std.proofs.Common.{◌≡◌, refl, sym, ap, ◌∙◌, subst, ◌⊎◌, inl, inr, List, [], ◌∷◌, ◌++◌, Result, Ok, Err, Option, Some, None, Contains}
use Rattle.std.specs.List.{AllByRecursion}
use Rattle.tree.specs.Steps.{◌>>=◌}
use Rattle.tree.specs.declared.ops.Fault.{Fault}
use Rattle.tree.specs.declared.ops.Value.{Value}
use Rattle.meaning.specs.ArrayValues.{each}
use Rattle.meaning.specs.Store.{Store, Cell}
use Rattle.meaning.proofs.Exchanges.{unread}
use Rattle.meaning_laws.specs.arrays.Instances.{Instance, ComesFromReads, after, puts, writes_in, in_turn, cell_of, NoneReadsWritten, Spares, AreApart, InTurnIsAtOnce, ApartIsAtOnce}
use Rattle.meaning_laws.proofs.arrays.Members.{here, there, nowhere, cases_of, each_member}

-- s differs from the store `base` in the cells `written` alone
record But (written : List Cell) (base s : Store) : Type 0 where
  bounds : s.bounds ≡ base.bounds
  held : (c : Cell) → ¬ Contains written c → s.held c ≡ base.held c

But-after : (written : List Cell) (base s : Store) (w : Option (Cell × Value)) → But written base s → But (cell_of w ++ written) base (after w s)
But-after written base s None h = h
But-after written base s (Some w) h = record {
  bounds = h.bounds;
  held = λ c n. sym (unread w.0 c w.1 s (λ e. n (subst (λ d. Contains (w.0 ∷ written) d) e (here w.0 written)))) ∙ h.held c (λ g. n (there w.0 written c g));
}

-- whoever reads no written cell has one effect in both stores
module _ (written : List Cell) (base s : Store) (but : But written base s) (i : Instance) (from : ComesFromReads i) where
  seen_from_here : ((c : Cell) → Contains written c → ¬ Contains (i.reads s) c) → i.effect s ≡ i.effect base
  seen_from_here h = from.same s base but.bounds (each_member (λ c. s.held c ≡ base.held c) (i.reads s) (λ c g. but.held c (λ k. h c k g)))

  seen_from_base : ((c : Cell) → Contains written c → ¬ Contains (i.reads base) c) → i.effect s ≡ i.effect base
  seen_from_base h = sym (from.same base s (sym but.bounds) (each_member (λ c. base.held c ≡ s.held c) (i.reads base) (λ c g. sym (but.held c (λ k. h c k g)))))

-- the effects of all in one store, stored in another
abbrev effects : List Instance → Store → Result (List (Option (Cell × Value))) Fault
effects is base = each (λ (i : Instance). i.effect base) is

abbrev stored_in : Store → Result (List (Option (Cell × Value))) Fault → Result Store Fault
stored_in s r = do
  ws ← r
  Ok (puts (writes_in ws) s)

-- one instance, and those behind it
one_more : (r q : Result (Option (Cell × Value)) Fault) (k : Store → Result Store Fault) (rest : Result (List (Option (Cell × Value))) Fault) (s : Store) → r ≡ q
    → ((w : Option (Cell × Value)) → r ≡ Ok w → k (after w s) ≡ stored_in (after w s) rest)
    → ◌≡◌ {A = Result Store Fault} (do w ← r; k (after w s)) (stored_in s (do w ← q; ws ← rest; Ok (w ∷ ws)))
one_more (Err f) q k rest s e h = ap (λ (p : Result (Option (Cell × Value)) Fault). stored_in s (do w ← p; ws ← rest; Ok (w ∷ ws))) e
one_more (Ok w) q k rest s e h = h w refl ∙ (moved w rest ∙ ap (λ (p : Result (Option (Cell × Value)) Fault). stored_in s (do w ← p; ws ← rest; Ok (w ∷ ws))) e)
  where
    moved : (w : Option (Cell × Value)) (rest : Result (List (Option (Cell × Value))) Fault) → stored_in (after w s) rest ≡ stored_in s (do ws ← rest; Ok (w ∷ ws))
    moved None (Ok ws) = refl
    moved (Some w) (Ok ws) = refl
    moved w (Err f) = refl

turn_by_turn : (is : List Instance) (written : List Cell) (base s : Store) → But written base s → AllByRecursion ComesFromReads is → NoneReadsWritten written is s → in_turn is s ≡ stored_in s (effects is base)
turn_by_turn [] written base s but from none = refl
turn_by_turn (i ∷ is) written base s but from none =
    one_more (i.effect s) (i.effect base) (in_turn is) (effects is base) s (seen_from_here written base s but i from.0 none.0)
    (λ w e. turn_by_turn is (cell_of w ++ written) base (after w s) (But-after written base s w but) from.1 (none.1 w e))

pub in_turn_is_at_once : InTurnIsAtOnce
in_turn_is_at_once is s from none = turn_by_turn is [] s s (record { bounds = refl; held = λ c n. refl }) from none

-- ---- all looked at in the first store

-- in the store `base` none of the instances reads a written cell
abbrev SpareWritten : List Cell → Store → List Instance → Type 0
SpareWritten written base is = AllByRecursion (λ (i : Instance). (c : Cell) → Contains written c → ¬ Contains (i.reads base) c) is

spared_more : (written : List Cell) (base : Store) (i : Instance) (is : List Instance) (w : Option (Cell × Value)) → i.effect base ≡ Ok w → SpareWritten written base is → AllByRecursion (Spares base i) is → SpareWritten (cell_of w ++ written) base is
spared_more written base i is None e h g = h
spared_more written base i [] (Some w) e h g = tt
spared_more written base i (j ∷ is) (Some w) e h g = (λ c k. by c (either_one c k), spared_more written base i is (Some w) e h.1 g.1)
  where
    either_one : (c : Cell) → Contains (w.0 ∷ written) c → (w.0 ≡ c) ⊎ Contains written c
    either_one c k = cases_of w.0 written c k

    by : (c : Cell) → (w.0 ≡ c) ⊎ Contains written c → ¬ Contains (j.reads base) c
    by c (inl q) = subst (λ d. ¬ Contains (j.reads base) d) q (g.0 w.0 w.1 e)
    by c (inr k) = h.0 c k

apart_by_turn : (is : List Instance) (written : List Cell) (base s : Store) → But written base s → AllByRecursion ComesFromReads is → SpareWritten written base is → AreApart base is → in_turn is s ≡ stored_in s (effects is base)
apart_by_turn [] written base s but from spare apart = refl
apart_by_turn (i ∷ is) written base s but from spare apart =
    let same = seen_from_base written base s but i from.0 spare.0 in
    one_more (i.effect s) (i.effect base) (in_turn is) (effects is base) s same
    (λ w e. apart_by_turn is (cell_of w ++ written) base (after w s) (But-after written base s w but) from.1 (spared_more written base i is w (sym same ∙ e) spare.1 apart.0) apart.1)

none_written : (base : Store) (is : List Instance) → SpareWritten [] base is
none_written base [] = tt
none_written base (i ∷ is) = (λ c k. absurd (nowhere c k), none_written base is)

pub apart_is_at_once : ApartIsAtOnce
apart_is_at_once is s from apart = apart_by_turn is [] s s (record { bounds = refl; held = λ c n. refl }) from (none_written s is) apart
