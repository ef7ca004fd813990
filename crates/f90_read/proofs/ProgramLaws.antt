-- The program that statements in order are.
use Rattle.std.proofs.Common.{◌≡◌, inl, inr, ℕ, ◌<◌, ◌≤◌, ◌==◌, Bool, true, false, cond, ◌||◌, Option}
use Rattle.std.proofs.Common.{List, [], ◌∷◌, filter, refl, sym, ap, subst, ◌∙◌}
use Rattle.std.proofs.Common.{arith}
use mathlib.Core.Path.{fun_ext}
use Rattle.std.specs.List.{AllByRecursion}
use Rattle.std.proofs.lemmas.Bool.Decides.{nat_tests}
use Rattle.tree.specs.Causes.{refusal_at}
use Rattle.tree.specs.Plain as tree
use Rattle.tree.specs.Plain.{Declaration, Program, Block}
use Rattle.tree.specs.declared.functions.Intrinsic.{Intrinsic}
use Rattle.tree.specs.declared.refusals.Cause.TheVariants.{Structure, Declared90, Limit90}
use Rattle.meaning.specs.Blocks.{Surroundings}
use Rattle.f90_grammar.specs.Blocks.{Placed, AreBlock90}
use Rattle.f90_grammar.specs.Bounds.PassesLimit.{OfBounds}
use Rattle.f90_grammar.specs.Declared.{declarations_of, functions_in}
use Rattle.f90_grammar.specs.Forms as forms
use Rattle.f90_grammar.specs.Forms.{Form90}
use Rattle.f90_grammar.specs.Order.{Place90, IsPlaceIn, IsInOrder, is_executable90, title_in_text}
use Rattle.f90_grammar.specs.Phrases.{value_of_digits}
use Rattle.f90_grammar.specs.Reading.{AreStatementsOf, is_target_in}
use Rattle.f90_grammar.specs.Programs.{IsProgramOf}
use Rattle.f90_grammar.specs.Surroundings.{AreBody}
use Rattle.f90_grammar.specs.Refusals.HoldsIn.{IsWrongInBlocks}
use Rattle.f90_grammar.specs.Refusals.HasCause90.{InStatements}
use Rattle.f90_grammar.specs.Refusals.IsRefusable.{For}
use Rattle.f90_laws.specs.blocks.Blocks.{goes_to, name_target}
use Rattle.f90_laws.specs.blocks.Places.{SuitsPlace, surroundings_of, IsWrongAt}
use Rattle.f90_laws.proofs.blocks.Bodies.{targets_named}
use Rattle.f90_laws.proofs.blocks.Misplaced.{misplaced_at_place}
use Rattle.f90_blocks.specs.Treed.{MarksAreTaken}
use Rattle.f90_names.specs.kinds.declarations.Declarations.{AreAccepted, AreInOrder}
use Rattle.f90_laws.proofs.readings.PlaceFacts.{each_place}
use Rattle.f90_blocks.specs.statement_trees.Executable.{IsMarked}
use Rattle.f90_read.specs.Checks.{IsClearBelow}
use Rattle.f90_read.proofs.NumberLaws.{holds_nowhere}
use Rattle.f90_read.proofs.StatementLaws.{at_place, marked, in_order, not_true}

-- ---- labels that are named

executables_name : (ps : List Placed) (n : ℕ) → name_target (filter (λ (p : Placed). is_executable90 p.form) ps)
    n ≡ name_target ps n
executables_name [] n = refl
executables_name (p ∷ ps) n = by (is_executable90 p.form) refl (executables_name ps n)
  where
    idle : (f : Form90) → is_executable90 f ≡ false → goes_to n f ≡ false
    idle (forms.Program x) e = refl
    idle forms.ImplicitNone e = refl
    idle (forms.Declare k a es) e = refl
    idle forms.End e = refl
    idle (forms.EndProgram x) e = refl
    idle f e = absurd (cc)

    by : (b : Bool) → is_executable90 p.form ≡ b → name_target (filter (λ (p : Placed). is_executable90 p.form) ps)
        n ≡ name_target ps n
        → name_target (cond b (p ∷ filter (λ (p : Placed). is_executable90 p.form) ps)
        (filter (λ (p : Placed). is_executable90 p.form) ps)) n ≡ name_target (p ∷ ps) n
    by true e h = ap (λ b. goes_to n p.form || b) h
    by false e h = h ∙ sym (ap (λ b. b || name_target ps n) (idle p.form e))

not_zero : (v : ℕ) → (0 == v) ≡ true → 0 < v → ⊥
not_zero v e l = grind (arith, nat_tests)

no_zero : (ds : List Declaration) (function : List ℕ → Option Intrinsic) (f : Form90) (w : Surroundings)
    → goes_to 0 f ≡ true → SuitsPlace ds function f w → ⊥
no_zero ds function (forms.Go label) w e s = not_zero (value_of_digits label) e s.0
no_zero ds function (forms.Test p f) w e s = no_zero ds function f w e s
no_zero ds function f w e s = let k : false ≡ true = e in cc

none_names : (ps : List Placed) → AllByRecursion (λ (p : Placed). goes_to 0 p.form ≡ false) ps
    → name_target ps 0 ≡ false
none_names [] h = refl
none_names (p ∷ ps) h = ap (λ b. b || name_target ps 0) h.0 ∙ none_names ps h.1

-- ---- statements of a text that is clear

module _ (text : List ℕ) (ps : List Placed) (t : AreStatementsOf text ps) (clear : IsClearBelow text 41) where
  below : (n : ℕ) → n ≤ 41 → IsClearBelow text n
  below n l r h = let k = clear r h in omega (arith, k)

  pub order : IsInOrder ps
  order = in_order text ps t (below 38 (omega arith))

  pub accepted : AreAccepted ps
  accepted = record {
    bounds = λ p i h. holds_nowhere text ps 41 Limit90 t clear (omega arith) p i (OfBounds h);
    once = λ p i h. holds_nowhere text ps 41 Declared90 t clear (omega arith) p i (inl h);
  }

  pub marks_taken : MarksAreTaken ps
  marks_taken p i = at_place IsMarked ps p (marked text ps t) i

  not_misplaced : (p : Place90) → IsPlaceIn ps p → IsWrongAt ps p → ⊥
  not_misplaced p i w =
      let m = (misplaced_at_place text ps p.here.line t order).1 (p, i, w, refl) in
      let r = refusal_at Structure p.here.line in
      let k : 41 ≤ 37 = clear r (For r (InStatements ps Structure p.here.line t
      (IsWrongInBlocks p.here.line order m))) in
      omega arith

  pub no_target_zero : name_target ps 0 ≡ false
  no_target_zero = none_names ps (each_place (λ (p : Placed). goes_to 0 p.form ≡ false) ps
      (λ p i. not_true (goes_to 0 p.here.form) (λ e. not_misplaced p i
      (inr (no_zero (declarations_of ps) (functions_in ps) p.here.form (surroundings_of p) e)))))

  module _ (ds : List Declaration) (b : Block) (function : List ℕ → Option Intrinsic)
      (o : AreInOrder (declarations_of ps) ds)
      (same : (x : List ℕ) → function x ≡ functions_in ps x)
      (is_block : AreBlock90 function (name_target ps) (filter (λ (p : Placed). is_executable90 p.form) ps) b) where
    targets_same : name_target ps ≡ is_target_in b
    targets_same = fun_ext (λ n.
        sym (targets_named function (name_target ps) (filter (λ (p : Placed). is_executable90 p.form) ps) b n is_block
        ∙ executables_name ps n))

    are_body : AreBody ps b
    are_body =
        let es = filter (λ (p : Placed). is_executable90 p.form) ps in
        subst (λ g. AreBlock90 g (is_target_in b) es b) (fun_ext same)
        (subst (λ g. AreBlock90 function g es b) targets_same is_block)

    pub is_program : (name : Option (List ℕ)) → name ≡ title_in_text ps
        → IsProgramOf ps (record { name = name; declarations = ds; body = b })
    is_program name e = record {
      in_order = order;
      title = e;
      sorted = o.sorted;
      each = o.each;
      once = o.once;
      body = are_body;
    }
