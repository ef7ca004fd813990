-- What is wrong with jumps and DO variables in the tree is wrong at a place, and the other way round.
use Rattle.std.proofs.Common.{◌≡◌, ◌↔◌, inl, inr, ℕ, ◌||◌, Bool, true, false, Option, List, [], ◌∷◌, ◌++◌, refl, sym}
use Rattle.std.proofs.Common.{ap, subst, ◌∙◌, append_assoc, append-nil}
use Rattle.std.specs.List.{AllByRecursion}
use Rattle.tree.specs.Plain.{Declaration, Block}
use Rattle.tree.specs.declared.functions.Intrinsic.{Intrinsic}
use Rattle.meaning.specs.Blocks.{Surroundings, outermost}
use Rattle.f90_grammar.specs.Forms as forms
use Rattle.f90_grammar.specs.Forms.{Form90}
use Rattle.f90_grammar.specs.Blocks.{Placed}
use Rattle.f90_grammar.specs.Declared.{declarations_of, functions_in}
use Rattle.f90_grammar.specs.Order.{Place90, IsPlaceIn, Opened, opened_by, opened_behind, is_executable90}
use Rattle.f90_grammar.specs.Reading.{is_target_in}
use Rattle.f90_grammar.specs.Surroundings.{StandsIn, line_of, AreBody, IsMisplaced}
use Rattle.f90_grammar.specs.Surroundings.IsMisplaced.{HasWrongLabel, HasWrongSurroundings}
use Rattle.f90_laws.proofs.readings.Counts.{opened-append}
use Rattle.f90_laws.proofs.readings.Lists.{or_right}
use Rattle.f90_laws.specs.blocks.Blocks.{goes_to, name_target}
use Rattle.f90_laws.specs.blocks.Places.{loop_variables, SuitsPlace, surroundings_of, IsWrongAt, MisplacedIsAtPlace}
use Rattle.f90_laws.proofs.blocks.Ways.{same, and_then, along, or_both, without_left}
use Rattle.f90_laws.proofs.blocks.Endings.{executables, kept, place, idle_opens}
use Rattle.f90_laws.proofs.blocks.Bodies.{targets_named, body_forms}
use Rattle.f90_laws.proofs.blocks.Ahead.{alike_same, ahead_kept}
use Rattle.f90_laws.proofs.blocks.Wrong.{around, IsWrong, WrongIn, BadBlock, bad_in, misfit_block, Misfit, IsNamed}
use Rattle.f90_laws.proofs.blocks.Wrong.{block_wrong}

module _ (ds : List Declaration) (function : List ℕ → Option Intrinsic) where
  -- ---- statements that aren't executable suit any place

  idle_suits : (f : Form90) (w : Surroundings) → is_executable90 f ≡ false → SuitsPlace ds function f w
  idle_suits (forms.Program x) w e = tt
  idle_suits forms.ImplicitNone w e = tt
  idle_suits (forms.Declare k a es) w e = tt
  idle_suits forms.End w e = tt
  idle_suits (forms.EndProgram x) w e = tt
  idle_suits f w e = absurd cc

  wrong_kept : (os : List Opened) (ps : List Placed) (line : ℕ)
      → WrongIn ds function os ps [] line ↔ WrongIn ds function os (executables ps) [] line
  wrong_kept os [] line = same
  wrong_kept os (p ∷ ps) line = by (is_executable90 p.form) refl (λ o. wrong_kept o ps line)
    where
      by : (b : Bool) → is_executable90 p.form ≡ b
          → ((o : List Opened) → WrongIn ds function o ps [] line ↔ WrongIn ds function o (executables ps) [] line)
          → WrongIn ds function os (p ∷ ps) [] line ↔ WrongIn ds function os (kept b p (executables ps)) [] line
      by true e next =
          let within : List ℕ → Surroundings = λ ns. record { variables = loop_variables os; ahead = ns } in
          or_both (along (λ ns. (SuitsPlace ds function p.form (within ns) → ⊥) × (line ≡ p.line))
          (sym (ahead_kept ps [] 0)))
          (next (opened_by p.form os))
      by false e next =
          without_left (λ h. h.0 (idle_suits p.form (around os (ps ++ [])) e))
          (and_then (along (λ o. WrongIn ds function o ps [] line) (idle_opens p.form os e)) (next os))

  -- ---- places

  pub record WrongPlace (ps : List Placed) (line : ℕ) : Type 0 where
    pub it : Place90
    pub stands : IsPlaceIn ps it
    pub wrong : SuitsPlace ds function it.here.form (surroundings_of it) → ⊥
    pub at_line : line ≡ it.here.line

  to_place : (front rest : List Placed) (line : ℕ) → WrongIn ds function (opened_behind [] front) rest [] line
      → WrongPlace (front ++ rest) line
  to_place front [] line h = absurd h
  to_place front (p ∷ ps) line (inl h) = record {
    it = place front p ps;
    stands = refl;
    wrong =
        subst (λ back. SuitsPlace ds function p.form (around (opened_behind [] front) back) → ⊥) (append-nil ps) h.0;
    at_line = h.1;
  }
  to_place front (p ∷ ps) line (inr h) =
      subst (λ qs. WrongPlace qs line) (append_assoc front (p ∷ []) ps)
      (to_place (front ++ p ∷ []) ps line
      (subst (λ o. WrongIn ds function o ps [] line) (sym (opened-append [] front (p ∷ []))) h))

  from_place : (os : List Opened) (front : List Placed) (p : Placed) (back : List Placed) (line : ℕ)
      → IsWrong ds function (opened_behind os front) p back line
      → WrongIn ds function os (front ++ p ∷ back) [] line
  from_place os [] p back line h = inl (subst (λ xs. IsWrong ds function os p xs line) (sym (append-nil back)) h)
  from_place os (x ∷ xs) p back line h = inr (from_place (opened_by x.form os) xs p back line h)

-- ---- the GO TOs of a body name its targets

each_named : (ds : List Declaration) (function : List ℕ → Option Intrinsic) (is_target : ℕ → Bool) (ps : List Placed)
    → ((n : ℕ) → name_target ps n ≡ true → is_target n ≡ true)
    → AllByRecursion (IsNamed ds function is_target) ps
each_named ds function is_target [] f = tt
each_named ds function is_target (p ∷ ps) f = (
  λ n t. f n (ap (λ b. b || name_target ps n) t),
  each_named ds function is_target ps (λ n t. f n (or_right (goes_to n p.form) (name_target ps n) t)),
)

module _ (ps : List Placed) where
  abbrev ds : List Declaration
  ds = declarations_of ps

  abbrev function : List ℕ → Option Intrinsic
  function = functions_in ps

  in_body : (b : Block) (line : ℕ) → AreBody ps b → WrongIn ds function [] ps [] line ↔ BadBlock ds b outermost line
  in_body b line h =
      let t = is_target_in b in
      let es = executables ps in
      let named = each_named ds function t es (λ n e. targets_named function t es b n h ∙ e) in
      and_then (wrong_kept ds function [] ps line)
      (block_wrong ds function t es b h [] [] outermost line
      (record { variables = refl; ahead = alike_same function t [] }) named)

  at_place : (line : ℕ) → IsMisplaced ps line → (p : Place90) × IsPlaceIn ps p × IsWrongAt ps p × (line ≡ p.here.line)
  at_place line (HasWrongLabel p i t) = (p, i, inl t, refl)
  at_place line (HasWrongSurroundings b c w h s n) =
      let k = to_place ds function [] ps (line_of c) ((in_body b (line_of c) h).1 (bad_in ds b outermost c w s n)) in
      (k.it, k.stands, inr k.wrong, k.at_line)

  in_tree : (b : Block) (line : ℕ) → AreBody ps b → Misfit ds (StandsIn b outermost) line → IsMisplaced ps line
  in_tree b line h m =
      subst (IsMisplaced ps) (sym m.at_line) (HasWrongSurroundings b m.it m.surroundings h m.stands m.wrong)

  misplaced : (b : Block) (line : ℕ) (p : Place90) → AreBody ps b → IsPlaceIn ps p → line ≡ p.here.line → IsWrongAt ps p
      → IsMisplaced ps line
  misplaced b line p h i e (inl t) = subst (IsMisplaced ps) (sym e) (HasWrongLabel p i t)
  misplaced b line p h i e (inr n) =
      in_tree b line h
      (misfit_block ds b outermost line
      ((in_body b line h).0 (subst (λ qs. WrongIn ds function [] qs [] line) (sym i)
      (from_place ds function [] p.before p.here p.after line (n, e)))))

pub misplaced_at_place : MisplacedIsAtPlace
misplaced_at_place text ps line stands order =
    let body = body_forms text ps stands order in
    (at_place ps line, λ h. misplaced ps body.0 line h.0 body.1 h.1 h.3 h.2)
