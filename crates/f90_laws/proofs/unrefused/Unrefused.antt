-- The text of a printed program isn't refused.
use Rattle.std.proofs.Common.{◌≡◌, ◌⊎◌, inl, inr, refl, sym, ap, ap₂, subst, ◌∙◌, ℕ, ◌+◌, ◌<◌, ◌≤◌, max, arith, Bool, true, ◌&&◌, IsTrue, List, [], ◌∷◌, map, length}
use Rattle.std.specs.Prelude.{nat_le, sum}
use Rattle.std.specs.List.{AllByRecursion}
use Rattle.std.proofs.lemmas.Bool.{leb-true}
use mathlib.Core.Path.{fun_ext}
use Rattle.tree.specs.Limits as limits
use Rattle.tree.specs.Plain as tree
use Rattle.tree.specs.Plain.{Statement, Arms, Block, Declaration, Program}
use Rattle.tree.specs.declared.refusals.Cause.{Cause}
use Rattle.tree.specs.declared.refusals.Cause.TheVariants.{WideLiteral90, Deep90, Structure, Declared90, TypeClash90, Limit90}
use Rattle.meaning.specs.Blocks.{outermost, blocks_of, blocks_in_arms, blocks_in}
use Rattle.meaning.specs.Profile90.{IsProgram90, IsDeclaration}
use Rattle.meaning.specs.Extents.{array_elements}
use Rattle.meaning.specs.Names.{IsInByteOrder}
use Rattle.meaning.specs.Typed.{dimensions}
use Rattle.f90_grammar.specs.PrintedForms.{Printed, printed_program}
use Rattle.f90_grammar.specs.Blocks.{Placed, AreBlock90}
use Rattle.f90_grammar.specs.Reading.{is_target_in, function_by}
use Rattle.f90_grammar.specs.Order.{Place90, IsPlaceIn, blocks_round}
use Rattle.f90_grammar.specs.Phrases.{SuitsCalls}
use Rattle.f90_grammar.specs.Contents.{VariableSuitsCalls, SuitsCallsIn}
use Rattle.f90_grammar.specs.Declared.{declarations_of, declared_names_of, functions_in, declares_again, HasKnownNames}
use Rattle.f90_grammar.specs.Suited.{Suits}
use Rattle.f90_grammar.specs.Surroundings.{AreBody, IsMisplaced, SuitsSurroundings}
use Rattle.f90_grammar.specs.Surroundings.IsMisplaced.{HasWrongLabel, HasWrongSurroundings}
use Rattle.f90_grammar.specs.Bounds.{PassesLimit, opens_block90}
use Rattle.f90_grammar.specs.Bounds.PassesLimit.{OfBlocks, OfBounds, OfElements}
use Rattle.f90_grammar.specs.Refusals.{HoldsAt, HoldsIn}
use Rattle.f90_grammar.specs.Refusals.HoldsIn.{AtPlace, HasNoStatement, IsWrongInBlocks}
use Rattle.f90_laws.specs.printed.ReadBack.{without_numbers, arms_without_numbers, block_without_numbers, SameButNumbers}
use Rattle.f90_laws.proofs.printed.PrintedBlocksPlaced.{ArePlaced}
use Rattle.f90_laws.proofs.printed.PrintedBlocksPlaced.ArePlaced.{next}
use Rattle.f90_laws.proofs.printed.PrintedBlocksBack.{each_readable}
use Rattle.f90_laws.proofs.printed.PrintedBlocksProgram.{program_back}
use Rattle.f90_laws.proofs.printed.PrintedLines.{text_read}
use Rattle.f90_laws.proofs.printed.PrintedLinesTaken.{program_suits}
use Rattle.f90_laws.proofs.printed.PrintedParts.{HasParts}
use Rattle.f90_laws.proofs.printed.PrintedTrees.{typed_reads_back}
use Rattle.f90_laws.proofs.printed.PrintedWords.{printed_is_spelled}
use Rattle.f90_laws.proofs.readings.Counts.{OpensWithin}
use Rattle.f90_laws.proofs.readings.Lists.{all_weaker, left_true, right_true}
use Rattle.f90_laws.specs.unrefused.Unrefused.{CallsSuit, PrintedProgramIsReadWell}
use Rattle.f90_laws.proofs.unrefused.Blocks.{within_at}
use Rattle.f90_laws.proofs.unrefused.Lines.{no_line_cause}
use Rattle.f90_laws.proofs.unrefused.PrintedForms.{program_forms, placed_forms, at_each}
use Rattle.f90_laws.proofs.unrefused.EachPhrase.{HasGoodPhrases}
use Rattle.f90_laws.proofs.unrefused.Literals.{HasNarrowLiterals, narrow_forms}
use Rattle.f90_laws.proofs.unrefused.Depths.{IsShallow, shallow_forms}
use Rattle.f90_laws.proofs.unrefused.Calls.{called_forms}
use Rattle.f90_laws.proofs.unrefused.Suited.{suited_forms}
use Rattle.f90_laws.proofs.unrefused.Names.{known_forms}
use Rattle.f90_laws.proofs.unrefused.Declarations.{declared_once, has_bounds, few_elements}
use Rattle.f90_laws.proofs.unrefused.Order.{in_order, blocks_open, declarations_are, body_is}
use Rattle.f90_laws.proofs.unrefused.ProgramParts.{is_program}
use Rattle.f90_laws.proofs.unrefused.Labels.{labels_right}
use Rattle.f90_laws.proofs.unrefused.UniqueBlocks.{one_block}
use Rattle.f90_laws.proofs.unrefused.NamedLabels.{block_names}
use Rattle.f90_laws.proofs.unrefused.Surrounded.{BlockSuits, block_suits, renumbered_suits, suits_in}

-- ---- how deep blocks stand in each other doesn't depend on the numbers of lines

mutual
  statement-deep : (c : Statement) → blocks_of (without_numbers c) ≡ blocks_of c
  statement-deep (tree.If line arms other) = ap₂ (λ m n. 1 + max m n) (arms-deep arms) (block-deep other)
  statement-deep (tree.Do line x a b c body) = ap (λ n. 1 + n) (block-deep body)
  statement-deep (tree.Assignment line mark left right) = refl
  statement-deep (tree.Where line mark mask left right) = refl
  statement-deep (tree.Label n) = refl
  statement-deep (tree.GoTo line n) = refl
  statement-deep (tree.Stop line) = refl
  statement-deep (tree.Read line is) = refl
  statement-deep (tree.Print line is) = refl
  statement-deep (tree.Allocate line x es) = refl
  statement-deep (tree.Deallocate line x) = refl

  arms-deep : (m : Arms) → blocks_in_arms (arms_without_numbers m) ≡ blocks_in_arms m
  arms-deep tree.no_arms = refl
  arms-deep (tree.arm test body more) = ap₂ (λ m n. max m n) (block-deep body) (arms-deep more)

  block-deep : (b : Block) → blocks_in (block_without_numbers b) ≡ blocks_in b
  block-deep tree.no_statements = refl
  block-deep (tree.statement c cs) = ap₂ (λ m n. max m n) (statement-deep c) (block-deep cs)

same_depth : (b c : Block) → block_without_numbers b ≡ block_without_numbers c → blocks_in c ≡ blocks_in b
same_depth b c e = sym (block-deep c) ∙ (ap blocks_in (sym e) ∙ block-deep b)

some_statement : (s : Printed) (ss : List Printed) (ps : List Placed) → ArePlaced (s ∷ ss) ps → ps ≡ [] → ⊥
some_statement s ss ps (next line t k) e = cc

-- ---- no cause holds in the statements

module _ (p : Program) (h : IsProgram90 p) (ps : List Placed) (q : ArePlaced (printed_program p) ps) (r : Program) (are : HasParts ps r) (same : SameButNumbers p r)
    (declared : are.in_text ≡ p.declarations) where
  all_declarations : declarations_of ps ≡ p.declarations
  all_declarations = declarations_are ps r are ∙ declared

  abbrev HasGoodCalls : Placed → Type 0
  HasGoodCalls s = HasGoodPhrases (SuitsCalls (function_by p.declarations)) (VariableSuitsCalls (function_by p.declarations)) s.form

  pub calls_suit : CallsSuit ps
  calls_suit =
      subst (λ (ds : List Declaration). AllByRecursion (λ (s : Placed). SuitsCallsIn (function_by ds) s.form) ps) (sym all_declarations)
      (all_weaker HasGoodCalls (λ (s : Placed). SuitsCallsIn (function_by p.declarations) s.form) (λ (s : Placed) k. (k.expressions, k.variables)) ps
      (placed_forms (HasGoodPhrases (SuitsCalls (function_by p.declarations)) (VariableSuitsCalls (function_by p.declarations))) (printed_program p) ps q
      (program_forms (HasGoodPhrases (SuitsCalls (function_by p.declarations)) (VariableSuitsCalls (function_by p.declarations))) p.declarations (called_forms p.declarations) p refl h)))

  block_limit : (place : Place90) → IsPlaceIn ps place → IsTrue (opens_block90 place.here.form && nat_le 300 (length (blocks_round place))) → ⊥
  block_limit place e t =
      let deep = h.blocks in
      let d = same_depth p.body r.body same.body in
      let within = blocks_open ps r are 300 (omega arith) in
      let opens : opens_block90 place.here.form ≡ true = left_true (opens_block90 place.here.form) _ t in
      let least : 300 ≤ length (blocks_round place) = leb-true 300 (length (blocks_round place)) (right_true (opens_block90 place.here.form) _ t) in
      let most : length (blocks_round place) < 300 = within_at 300 [] place.before place.here place.after (subst (OpensWithin 300 []) e within) opens in
      omega arith

  limit : (place : Place90) → IsPlaceIn ps place → PassesLimit place → ⊥
  limit place e (OfBlocks t) = block_limit place e t
  limit place e (OfBounds f) = f (has_bounds ps (subst (λ (ds : List Declaration). AllByRecursion IsDeclaration ds) (sym all_declarations) h.declarations.each) place e)
  limit place e (OfElements l) =
      let few = few_elements ps place e in
      let most = subst (λ (ds : List Declaration). sum (map (λ (d : Declaration). array_elements (dimensions d.extent)) ds) ≤ limits.most_array_elements) (sym all_declarations) h.declarations.elements in
      omega arith

  declared_well : (place : Place90) → IsPlaceIn ps place → IsTrue (declares_again place.before place.here.form) ⊎ (HasKnownNames (declarations_of ps) place.here.form → ⊥) → ⊥
  declared_well place e (inl t) =
      let once = declared_once ps (subst (λ (ds : List Declaration). IsInByteOrder (declared_names_of ds)) (sym all_declarations) h.declarations.ordered) place e in
      cc
  declared_well place e (inr f) =
      f (subst (λ (ds : List Declaration). HasKnownNames ds place.here.form) (sym all_declarations) (at_each (HasKnownNames p.declarations) p h ps q (known_forms p.declarations) place e))

  at_place : (c : Cause) (place : Place90) → IsPlaceIn ps place → HoldsAt c ps place → ⊥
  at_place WideLiteral90 place e t = let g = at_each HasNarrowLiterals p h ps q (narrow_forms p.declarations) place e in cc
  at_place Deep90 place e t = let g = at_each IsShallow p h ps q (shallow_forms p.declarations) place e in cc
  at_place Structure place e t = let g = in_order ps r are place e in cc
  at_place Declared90 place e t = declared_well place e t
  at_place TypeClash90 place e t =
      t (subst (λ (ds : List Declaration). Suits ds place.here.form) (sym all_declarations) (at_each (Suits p.declarations) p h ps q (suited_forms p.declarations) place e))
  at_place Limit90 place e t = limit place e t
  at_place c place e t = t

  -- ---- the statements form one block

  same_functions : declarations_of ps ≡ r.declarations
  same_functions = all_declarations ∙ same.declarations

  one_body : (b : Block) → AreBody ps b → r.body ≡ b
  one_body b k =
      let body = subst (λ (ss : List Placed). AreBlock90 (functions_in ps) (is_target_in b) ss b) (body_is ps r are) k in
      let mine = subst (λ (ds : List Declaration). AreBlock90 (function_by ds) (is_target_in r.body) are.body r.body) (sym same_functions) are.block in
      let targets : is_target_in r.body ≡ is_target_in b =
      fun_ext (λ n. block_names (functions_in ps) (is_target_in r.body) n are.body r.body mine ∙ sym (block_names (functions_in ps) (is_target_in b) n are.body b body)) in
      one_block (functions_in ps) (is_target_in b) are.body r.body b (subst (λ (t : ℕ → Bool). AreBlock90 (functions_in ps) t are.body r.body) targets mine) body

  body_suits : BlockSuits p.declarations r.body outermost
  body_suits = renumbered_suits p.declarations p.body r.body outermost same.body (block_suits p.declarations p.body outermost h.statements tt)

  misplaced : (line : ℕ) → IsMisplaced ps line → ⊥
  misplaced line (HasWrongLabel place e t) = let g = labels_right p h ps q place e in cc
  misplaced line (HasWrongSurroundings b c w k stands wrong) =
      wrong (subst (λ (ds : List Declaration). SuitsSurroundings ds c w) (sym all_declarations)
      (suits_in p.declarations b outermost c w stands (subst (λ (d : Block). BlockSuits p.declarations d outermost) (one_body b k) body_suits)))

  pub no_cause : (c : Cause) (line : ℕ) → HoldsIn ps c line → ⊥
  no_cause c line (AtPlace d place e t) = at_place d place e t
  no_cause c line (HasNoStatement e) = some_statement _ _ ps q e
  no_cause c line (IsWrongInBlocks n o m) = misplaced n m

-- ---- the text of a program

pub read_well : PrintedProgramIsReadWell
read_well p notes h good =
    let t = text_read p notes good (each_readable (printed_program p) (printed_is_spelled p h) (program_suits p h)) in
    let r = program_back p h (typed_reads_back p.declarations) t.placed t.places in
    record {
      read_back = record { statements = t.placed; program = r.program; of_text = t.of_text; are = is_program t.placed r.program r.are; title = r.title; same = r.same };
      lines = no_line_cause p notes good h;
      calls = calls_suit p h t.placed t.places r.program r.are r.same r.declared;
      causes = no_cause p h t.placed t.places r.program r.are r.same r.declared;
    }
