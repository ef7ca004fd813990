-- Statement by statement, from the front: what is open, and whether something is wrong.
use Rattle.std.proofs.Common.{arith, zero, suc, ◌≡◌, ◌+◌, ◌<◌, ◌≤◌, ℕ, Bool, true, false, Option, Some, None, List, [], ◌∷◌, ◌++◌, take, drop, map, length, get_or, ap, refl, sym, subst, ◌∙◌, add-one}
use Rattle.std.specs.Prelude.{reverse}
use Rattle.std.proofs.lemmas.Bool.{true≢false}
use Rattle.meaning.specs.Names.{is_among}
use Rattle.f90_laws.specs.blocks.Places.{loop_variables}
use Rattle.f90_grammar.specs.Blocks as grammar
use Rattle.f90_grammar.specs.Forms.{Form90}
use Rattle.f90_grammar.specs.Order.{Place90, Opened, opened_by, opened_behind}
use Rattle.f90_blocks.specs.places.forms.Places.{IsPlacedOf}
use Rattle.f90_blocks.specs.declared.places.forms.placing.Placed.{Placed}
use Rattle.f90_blocks.specs.places.First.{FindsFirst}
use Rattle.f90_statement.specs.Views.{AreOf, IsStatementOf}
use Rattle.f90_read.specs.surroundings.Misuses.{AreOpen, misuses_form, misuses_at}
use Rattle.f90_read.specs.declared.surroundings.looping.OpenBlocks.{OpenBlocks}
use Rattle.f90_read.proofs.OfSurroundings.PlaceLaws.{NoneBefore, Meets, meets, of_length, found_first, none_here, none_at_all, none_yet}

pub opened_next : (ps : List grammar.Placed) (i : ℕ) (p : grammar.Placed) (rest : List grammar.Placed) (os : List Opened) → drop i ps ≡ p ∷ rest
    → opened_behind os (take (suc i) ps) ≡ opened_by p.form (opened_behind os (take i ps))
opened_next [] zero p rest os e = absurd (cc)
opened_next [] (suc i) p rest os e = absurd (cc)
opened_next (q ∷ ps) zero p rest os e = let h : q ≡ p = cc in ap (λ (r : grammar.Placed). opened_by r.form os) h
opened_next (q ∷ ps) (suc i) p rest os e = opened_next ps i p rest (opened_by q.form os) e

module _ (scalar : List ℕ → Bool) (ps : List grammar.Placed) where
  abbrev pub Misused : Place90 → Type 0
  Misused p = misuses_at scalar p ≡ true

  pub record IsPassed (blocks : OpenBlocks) (i : ℕ) : Type 0 where
    pub are_open : AreOpen blocks (opened_behind [] (take i ps))
    pub none : NoneBefore ps Misused i

  pub start : (blocks : OpenBlocks) → AreOpen blocks [] → IsPassed blocks 0
  start blocks o = record { are_open = o; none = none_yet ps Misused }

  pub stop : (text : List Placed) (blocks : OpenBlocks) (i : ℕ) → AreOf IsPlacedOf text ps → length text ≤ i → IsPassed blocks i → FindsFirst ps Misused None
  stop text blocks i a l h = none_at_all ps Misused i (omega (arith, of_length IsPlacedOf text ps a)) h.none

  module _ (text : List Placed) (i : ℕ) (x : Placed) (wrong : Bool) (blocks : OpenBlocks) where
    abbrev pub Tells : Type 0
    Tells = (f : Form90) → IsStatementOf x.statement f → wrong ≡ misuses_form scalar (is_among (reverse blocks.variables.items)) f

    told : (p : grammar.Placed) → IsPlacedOf x p → Tells → IsPassed blocks i → wrong ≡ misuses_form scalar (is_among (loop_variables (opened_behind [] (take i ps)))) p.form
    told p k t h = t p.form k.is ∙ ap (λ (vs : List (List ℕ)). misuses_form scalar (is_among vs) p.form) h.are_open.variables

    pub found : AreOf IsPlacedOf text ps → i < length text → get_or text i x ≡ x → Tells → wrong ≡ true → IsPassed blocks i → FindsFirst ps Misused (Some i)
    found a l g t e h =
        let m = meets IsPlacedOf text ps i x a l g in
        found_first ps Misused i m.0 m.1 h.none m.2 (sym (told m.0 m.3 t h) ∙ e)

    pub further : (now : OpenBlocks) → AreOf IsPlacedOf text ps → i < length text → get_or text i x ≡ x → Tells → wrong ≡ false
        → ((f : Form90) (os : List Opened) → IsStatementOf x.statement f → AreOpen blocks os → AreOpen now (opened_by f os)) → IsPassed blocks i → IsPassed now (i + 1)
    further now a l g t e s h =
        let m = meets IsPlacedOf text ps i x a l g in
        record {
          are_open = subst (AreOpen now) (sym (ap (λ (k : ℕ). opened_behind [] (take k ps)) (add-one i) ∙ opened_next ps i m.0 m.1 [] m.2))
              (s m.0.form (opened_behind [] (take i ps)) m.3.is h.are_open);
          none = none_here ps Misused i m.0 m.1 h.none m.2 (λ w. true≢false (sym w ∙ (sym (told m.0 m.3 t h) ∙ e)));
        }
