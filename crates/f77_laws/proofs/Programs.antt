-- What is read of a text is a program of the profile.
use Rattle.std.proofs.Common.{◌≡◌, ℕ, ◌≤◌, IfSome, List, [], ◌∷◌, length, sym, ap, subst, arith, Contains}
use Rattle.std.specs.List.{AllByRecursion}
use Rattle.tree.specs.Plain as tree
use Rattle.tree.specs.Plain.{Declaration}
use Rattle.f77_grammar.specs.Statement77.{Labelled}
use Rattle.meaning.specs.Dialect.{Dialect}
use Rattle.meaning.specs.Store.{Store, names_of}
use Rattle.meaning.specs.Calls.{names_called}
use Rattle.f77_grammar.specs.program.Text.{places}
use Rattle.meaning.specs.SymbolicNames.{IsSymbolicName}
use Rattle.f77_grammar.specs.program.Uses.{Use77, uses_in_text, is_title_role, names_that}
use Rattle.f77_grammar.specs.program.Limits.{constants_of}
use Rattle.f77_grammar.specs.program.Program77.{findings}
use Rattle.meaning.specs.Profile77.{IsProgram77}
use Rattle.f77_grammar.specs.program.Tree.{targets, program_variables_of, first_of_names}
use Rattle.f77_laws.proofs.trees.Trees.{read_tree}
use Rattle.f77_laws.specs.trees.Steps.{Rest, Outermost, InArm, outermost_block, rest_from, tree_of}
use Rattle.f77_laws.specs.Source.{IsSourceCard, AreSourceStatements}
use Rattle.f77_laws.specs.Reading.{HasFewStatements, ReadTextIsProgram}
use Rattle.f77_laws.proofs.Lists.{here, all_at, all_of}
use Rattle.f77_laws.proofs.Places.{last_place}
use Rattle.f77_laws.proofs.Sound.{IsRight, HasValues, right, values}
use Rattle.f77_laws.proofs.Variables.{variable_used}
use Rattle.f77_laws.proofs.Frames.{Base}
use Rattle.f77_laws.proofs.NameKinds.{Knows}
use Rattle.f77_laws.proofs.Blocks.{IsFine, AreFine, whole_block, around}
use Rattle.f77_laws.proofs.Statements.{IsCard, IsAt, fine, named_written}
use Rattle.f77_laws.proofs.LabelCounts.{each_label_once, each_label_named, few_statements}
use Rattle.f77_laws.proofs.Known.{proper_text, knows, declarations}
use Rattle.f77_laws.proofs.SymbolicNames.{names_in_text}
use Rattle.f77_laws.proofs.Declared.{are_declarations, names_again}
use Rattle.f77_laws.proofs.Titles.{no_variable, no_call, title_symbolic}

whole_program : (ds : List Declaration) (r : Rest) → AreFine ds (Base []) r → IsFine ds (outermost_block r) (around [] []) 0
whole_program ds (Outermost ps) h = whole_block ds [] [] 0 ps (omega arith) h
whole_program ds (InArm ps arms other r) h = absurd h

named_well : (names : List (List ℕ)) (P : List ℕ → Type 0) → ((x : List ℕ) → Contains names x → P x) → IfSome (first_of_names names) P
named_well [] P h = tt
named_well (x ∷ xs) P h = h x (here x xs)

module _ (d : Dialect) (x : Labelled) (xs : List Labelled) (small : d.bits ≤ 126) (sound : findings d (x ∷ xs) ≡ []) (source : AreSourceStatements (x ∷ xs)) where
  abbrev text : List Labelled
  text = x ∷ xs

  abbrev us : List Use77
  us = uses_in_text text

  abbrev s : Store
  s = constants_of d text

  abbrev p : tree.Program
  p = tree_of d text

  rights : AllByRecursion (IsRight text) (places text)
  rights = right d text sound

  valued : AllByRecursion (HasValues d text) (places text)
  valued = values d text sound

  known : Knows us s (declarations d text)
  known = knows d text small rights valued (proper_text text source.each)

  is_at : IsAt text s (declarations d text) known [] text
  is_at = record {
    right = rights;
    end = λ j l. absurd (omega (arith, l));
    depth = omega arith;
    scalars = tt;
    cards = all_of (IsCard text s (declarations d text) known) text (λ y c. record { source = all_at IsSourceCard text y source.each c; among = c });
    written = named_written text source.each;
  }

  body : IsFine (declarations d text) p.body (around [] []) 0
  body = whole_program (declarations d text) (rest_from us s (targets text) text) (fine text s (declarations d text) known [] text is_at)

  no_name : (y : List ℕ) → Contains (names_that is_title_role us) y → Contains (names_of p) y → ⊥
  no_name y c m =
      no_variable text y rights (proper_text text source.each) c
      (variable_used us y (subst (λ (ys : List (List ℕ)). Contains ys y) (names_again d text rights valued source.each (program_variables_of us)) m)).variable

  not_called : (y : List ℕ) → Contains (names_that is_title_role us) y → Contains (names_called p) y → ⊥
  not_called y c m = no_call s (targets text) text y rights source.each (proper_text text source.each) c m

  is_program : HasFewStatements text → IsProgram77 d p
  is_program few = record {
    name = named_well (names_that is_title_role us) (λ y. IsSymbolicName y × (Contains (names_of p) y → ⊥) × (Contains (names_called p) y → ⊥))
        (λ y c. (title_symbolic us y (names_in_text text source.each) c, no_name y c, not_called y c));
    declarations = are_declarations d text rights valued source.each (last_place (IsRight text) [] x xs rights) (last_place (HasValues d text) [] x xs valued);
    statements = body.statements;
    blocks = (let m = body.depth in omega (arith, m));
    labels = each_label_once us s text rights;
    named = each_label_named us s text rights;
    few = (let m = few_statements us s text rights source.each in omega (arith, m, few));
  }

pub read_is_program : ReadTextIsProgram
read_is_program d [] p small reads source few = absurd (let e = ap length reads.sound in omega arith)
read_is_program d (x ∷ xs) p small reads source few = subst (IsProgram77 d) (sym (read_tree d (x ∷ xs) p reads)) (is_program d x xs small reads.sound source few)
