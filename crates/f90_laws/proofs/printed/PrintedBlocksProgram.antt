-- The printed statements of a program, on any lines, are that program but for the numbers of lines.
use Rattle.std.proofs.Common.{◌≡◌, refl, subst, ℕ, Bool, Some, None, List, [], ◌∷◌, ◌++◌, map}
use mathlib.Core.Path.{fun_ext}
use Rattle.tree.specs.Plain.{Block, Program}
use Rattle.meaning.specs.Blocks.{outermost}
use Rattle.meaning.specs.Profile90.{IsProgram90}
use Rattle.f90_grammar.specs.Forms as forms
use Rattle.f90_grammar.specs.PrintedForms.{unmarked, printed_title_of, printed_declaration, printed_block, printed_program}
use Rattle.f90_grammar.specs.Blocks.{Placed, placed_form, AreBlock90}
use Rattle.f90_grammar.specs.Reading.{is_target_in, function_by}
use Rattle.f90_laws.specs.printed.ReadBack.{SameButNumbers}
use Rattle.f90_laws.proofs.printed.PrintedBlocksItems.{EachReadsBack}
use Rattle.f90_laws.proofs.printed.PrintedBlocksPlaced.{ArePlaced, IsDivided, divide, ReadBlock}
use Rattle.f90_laws.proofs.printed.PrintedBlocksPlaced.ArePlaced.{none, next}
use Rattle.f90_laws.proofs.printed.PrintedBlocksPlaced.IsDivided.{divided}
use Rattle.f90_laws.proofs.printed.PrintedBlocks.{block_back}
use Rattle.f90_laws.proofs.printed.PrintedBlocksTargets.{same_target, labels_named}
use Rattle.f90_laws.proofs.printed.PrintedBlocksDeclared.{declared_back}
use Rattle.f90_laws.proofs.printed.PrintedParts.{HasParts}
use Rattle.f90_laws.proofs.printed.PrintedParts.IsTitle.{titled}
use Rattle.f90_laws.proofs.printed.PrintedParts.MayBeImplicitNone.{present}
use Rattle.f90_laws.proofs.printed.PrintedParts.IsEnd.{end}

pub record ReadProgram (p : Program) (ps : List Placed) : Type 0 where
  pub program : Program
  pub are : HasParts ps program
  pub declared : are.in_text ≡ p.declarations
  pub title : program.name ≡ Some (printed_title_of p.name)
  pub same : SameButNumbers p program

module _ (p : Program) (h : IsProgram90 p) (back : EachReadsBack p.declarations) where
  body_back : (ps : List Placed) → ArePlaced (printed_block p.body) ps → ReadBlock (function_by p.declarations) (is_target_in p.body) p.body ps
  body_back ps q = block_back p.declarations back (is_target_in p.body) p.body outermost h.statements tt (labels_named p.body h.named) ps q

  abbrev read_as : Block → Program
  read_as b = record { name = Some (printed_title_of p.name); declarations = p.declarations; body = b }

  whole : (m n : ℕ) (ds : List Placed) → ArePlaced (map printed_declaration p.declarations) ds → {ps : List Placed}
      → IsDivided (printed_block p.body) (unmarked forms.End ∷ []) ps
      → ReadProgram p (placed_form m None (forms.Program (printed_title_of p.name)) ∷ placed_form n None forms.ImplicitNone ∷ (ds ++ ps))
  whole m n ds a (divided ps _ b (next k s none)) =
      let x = body_back ps b in
      let same_targets : is_target_in p.body ≡ is_target_in x.block = fun_ext (λ l. same_target l p.body x.block x.same) in
      record {
        program = read_as x.block;
        are = record {
          title = placed_form m None (forms.Program (printed_title_of p.name)) ∷ [];
          implicit = placed_form n None forms.ImplicitNone ∷ [];
          declared = ds;
          body = ps;
          last = placed_form k None forms.End;
          same = refl;
          is_title = titled m (printed_title_of p.name);
          is_implicit = present n;
          is_last = end (Some (printed_title_of p.name));
          in_text = p.declarations;
          are_declared = declared_back p.declarations h.declarations.each ds a;
          sorted = h.declarations.ordered;
          each = λ d. (λ c. c, λ c. c);
          once = refl;
          block = subst (λ (t : ℕ → Bool). AreBlock90 (function_by p.declarations) t ps x.block) same_targets x.are;
        };
        declared = refl;
        title = refl;
        same = record { declarations = refl; body = x.same };
      }

  halves : (m n : ℕ) {ps : List Placed} → IsDivided (map printed_declaration p.declarations) (printed_block p.body ++ unmarked forms.End ∷ []) ps
      → ReadProgram p (placed_form m None (forms.Program (printed_title_of p.name)) ∷ placed_form n None forms.ImplicitNone ∷ ps)
  halves m n (divided ds ps a b) = whole m n ds a (divide (printed_block p.body) (unmarked forms.End ∷ []) b)

  pub program_back : (ps : List Placed) → ArePlaced (printed_program p) ps → ReadProgram p ps
  program_back _ (next m s (next n t q)) =
      halves m n (divide (map printed_declaration p.declarations) (printed_block p.body ++ unmarked forms.End ∷ []) q)
