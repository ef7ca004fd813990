-- Statement by statement, from the end: the labels ahead, and the first wrong jump.
use Rattle.std.proofs.Common.{arith, zero, suc, ◌≡◌, ◌+◌, ◌<◌, ◌≤◌, ℕ, Bool, true, false, cond, Option, Some, None, List, [], ◌∷◌, ◌++◌, take, drop, length, get_or, ap, refl, sym, subst, ◌∙◌, add-one}
use Rattle.std.proofs.lemmas.Bool.{true≢false}
use Rattle.std.proofs.lemmas.List.{drop_all}
use Rattle.f90_laws.specs.blocks.Places.{labels_ahead}
use Rattle.f90_grammar.specs.Blocks as grammar
use Rattle.f90_grammar.specs.Forms.{Form90}
use Rattle.f90_grammar.specs.Order.{Place90}
use Rattle.f90_blocks.specs.places.forms.Places.{IsPlacedOf}
use Rattle.f90_blocks.specs.declared.places.forms.placing.Placed.{Placed}
use Rattle.f90_blocks.specs.places.First.{FindsFirst}
use Rattle.f90_statement.specs.Views.{AreOf, IsStatementOf}
use Rattle.f90_read.specs.surroundings.Jumps.{AreAhead, target_of, leads_wrongly, jumps_wrongly_at}
use Rattle.f90_read.specs.declared.surroundings.jumping.LabelsAhead.{LabelsAhead}
use Rattle.f90_read.proofs.OfSurroundings.PlaceLaws.{FindsFrom, meets, of_length, drop_next, found_here, passed, none_behind, from_start}

module _ (ps : List grammar.Placed) where
  abbrev pub Missed : Place90 → Type 0
  Missed p = jumps_wrongly_at p ≡ true

  pub record IsBehind (ahead : LabelsAhead) (found : Option ℕ) (i : ℕ) : Type 0 where
    pub labels : AreAhead ahead (drop i ps)
    pub first : FindsFrom ps Missed i found

  pub start : (text : List Placed) (ahead : LabelsAhead) → AreOf IsPlacedOf text ps → AreAhead ahead [] → IsBehind ahead None (length text)
  start text ahead a h =
      let l : length ps ≤ length text = omega (arith, of_length IsPlacedOf text ps a) in
      record { labels = subst (AreAhead ahead) (sym (drop_all (length text) ps l)) h; first = none_behind ps Missed (length text) l }

  pub stop : (ahead : LabelsAhead) (found : Option ℕ) (i : ℕ) → i ≤ 0 → IsBehind ahead found i → FindsFirst ps Missed found
  stop ahead found zero l h = from_start ps Missed found h.first
  stop ahead found (suc i) l h = absurd (omega arith)

  pub further : (text : List Placed) (i j : ℕ) (x : Placed) (missed : Bool) (ahead now : LabelsAhead) (found then : Option ℕ) → AreOf IsPlacedOf text ps → i ≡ suc j → j < length text
      → get_or text j x ≡ x
      → ((f : Form90) (qs : List grammar.Placed) → IsStatementOf x.statement f → AreAhead ahead qs → missed ≡ leads_wrongly (target_of f) (labels_ahead qs 0))
      → then ≡ cond missed (Some j) found
      → ((p : grammar.Placed) (qs : List grammar.Placed) → IsStatementOf x.statement p.form → AreAhead ahead qs → AreAhead now (p ∷ qs))
      → IsBehind ahead found i → IsBehind now then j
  further text i j x missed ahead now found then a k l g t n s h =
      let m = meets IsPlacedOf text ps j x a l g in
      let e : drop i ps ≡ m.1 = ap (λ (q : ℕ). drop q ps) k ∙ drop_next ps j m.0 m.1 m.2 in
      let b : AreAhead ahead m.1 = subst (AreAhead ahead) e h.labels in
      record {
        labels = subst (AreAhead now) (sym m.2) (s m.0 m.1 m.3.is b);
        first = by m.0 m.1 m.2 missed (t m.0.form m.1 m.3.is b) n;
      }
    where
      next : FindsFrom ps Missed (j + 1) found
      next = subst (λ (q : ℕ). FindsFrom ps Missed q found) (k ∙ sym (add-one j)) h.first

      by : (p : grammar.Placed) (rest : List grammar.Placed) → drop j ps ≡ p ∷ rest → (b : Bool) → b ≡ leads_wrongly (target_of p.form) (labels_ahead rest 0)
          → then ≡ cond b (Some j) found → FindsFrom ps Missed j then
      by p rest e true w n = subst (FindsFrom ps Missed j) (sym n) (found_here ps Missed j p rest e (sym w))
      by p rest e false w n = subst (FindsFrom ps Missed j) (sym n) (passed ps Missed j p rest found e (λ q. true≢false (sym q ∙ sym w)) next)
