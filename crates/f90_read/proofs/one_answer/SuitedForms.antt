-- The statements of a text, where none lacks a form.
use Rattle.std.proofs.Common.{refl, ℕ, Option, List, [], ◌∷◌, Contains}
use Rattle.std.specs.List.{AllByRecursion}
use Rattle.tree.specs.declared.functions.Intrinsic.{Intrinsic}
use Rattle.tree.specs.declared.stmts.Mark.{Mark}
use Rattle.f90_grammar.specs.Blocks.{Placed, placed_form}
use Rattle.f90_grammar.specs.Contents.{SuitsCallsIn}
use Rattle.f90_grammar.specs.FreeForm.{FreeStatement}
use Rattle.f90_grammar.specs.Reading.{HaveForms, takes_mark, last_mark, if_taken, mark_left_over}
use Rattle.f90_grammar.specs.Refusals.{HasNoForm90, functions_but}
use Rattle.f90_laws.proofs.readings.Lists.{here, there}
use Rattle.f90_names.specs.calls.Formless.{HasSuitedForm}
use Rattle.f90_read.proofs.one_answer.DeclaredNames.{AreDeclared}

-- what isn't refuted of any member isn't refuted of all
unless_all : {A : Type 0} → (P : A → Type 0) (xs : List A) → ((x : A) → Contains xs x → (P x → ⊥) → ⊥)
    → (AllByRecursion P xs → ⊥) → ⊥
unless_all P [] h k = k tt
unless_all P (x ∷ xs) h k =
    h x (here x xs) (λ p. unless_all P xs (λ y c. h y (there x xs y c)) (λ ps. k (p, ps)))

pub have_forms : (ss : List FreeStatement) (declared : List (List ℕ)) → AreDeclared ss declared
    → ((s : FreeStatement) → Contains ss s → HasNoForm90 ss s → ⊥)
    → (AllByRecursion (HasSuitedForm (functions_but declared)) ss → ⊥) → ⊥
have_forms ss declared are formed k =
    unless_all (HasSuitedForm (functions_but declared)) ss
    (λ s c n. formed s c (record {
      declared = declared;
      are_declared = are;
      none = λ f o t. n (record { form = f; is = o; suits = t });
    })) k

-- the statements with their forms, lines and marks
pub record HavePlaces (function : List ℕ → Option Intrinsic) (pending : Option Mark) (ss : List FreeStatement)
    : Type 0 where
  pub placed : List Placed
  pub have : HaveForms pending ss placed
  pub calls : AllByRecursion (λ (p : Placed). SuitsCallsIn function p.form) placed

pub places : (function : List ℕ → Option Intrinsic) (pending : Option Mark) (ss : List FreeStatement)
    → AllByRecursion (HasSuitedForm function) ss → HavePlaces function pending ss
places function pending [] h = record { placed = []; have = tt; calls = tt }
places function pending (s ∷ ss) h =
    let mark : Option Mark = last_mark pending s.ahead in
    let more = places function (last_mark (mark_left_over (takes_mark h.0.form) mark) s.within) ss h.1 in
    record {
      placed = placed_form s.line (if_taken (takes_mark h.0.form) mark) h.0.form ∷ more.placed;
      have = (refl, refl, h.0.is, more.have);
      calls = (h.0.suits, more.calls);
    }
