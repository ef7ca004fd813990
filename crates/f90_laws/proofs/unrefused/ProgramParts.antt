-- Statements that have the parts of a program are that program.
use Rattle.std.proofs.Common.{◌≡◌, refl, sym, ap, subst, ◌∙◌, ℕ, true, false, Option, None, List, [], ◌∷◌, ◌++◌, length, Contains}
use Rattle.std.specs.Prelude.{◌↔◌}
use Rattle.std.specs.List.{AllByRecursion}
use Rattle.tree.specs.Plain.{Declaration, Program}
use Rattle.f90_grammar.specs.Forms as forms
use Rattle.f90_grammar.specs.Forms.{Form90}
use Rattle.f90_grammar.specs.Blocks.{Placed, AreBlock90}
use Rattle.f90_grammar.specs.Declared.{declarations_of, functions_in}
use Rattle.f90_grammar.specs.Order.{is_executable90, is_nothing90, name_in, title_in_text}
use Rattle.f90_grammar.specs.Programs.{IsProgramOf}
use Rattle.f90_grammar.specs.Reading.{function_by, is_target_in}
use Rattle.f90_grammar.specs.Surroundings.{AreBody}
use Rattle.f90_laws.proofs.printed.PrintedParts.{IsTitle, MayBeImplicitNone, IsEnd, AreDeclared, HasParts}
use Rattle.f90_laws.proofs.printed.PrintedParts.IsTitle.{untitled, titled}
use Rattle.f90_laws.proofs.printed.PrintedParts.MayBeImplicitNone.{absent, present}
use Rattle.f90_laws.proofs.printed.PrintedParts.IsEnd.{end, end_program, end_named}
use Rattle.f90_laws.proofs.printed.PrintedParts.AreDeclared.{none, more}
use Rattle.f90_laws.proofs.readings.Counts.{executable}
use Rattle.f90_laws.proofs.readings.Tables.{both_declare, same_functions}
use Rattle.f90_laws.proofs.unrefused.Order.{in_order, same_last, declarations_are, body_is}

-- ---- the title is the first statement

executable_untitled : (f : Form90) → is_executable90 f ≡ true → name_in f ≡ None
executable_untitled (forms.Program x) h = absurd cc
executable_untitled f h = refl

end_untitled : (f : Form90) (name : Option (List ℕ)) → IsEnd f name → name_in f ≡ None
end_untitled f name (end o) = refl
end_untitled f name (end_program o) = refl
end_untitled f name (end_named x) = refl

title_first : (title rest : List Placed) (name : Option (List ℕ)) → IsTitle title name → title_in_text rest ≡ None → title_in_text (title ++ rest) ≡ name
title_first title rest name untitled e = e
title_first title rest name (titled line x) e = refl

implicit_first : (ps rest : List Placed) → MayBeImplicitNone ps → title_in_text rest ≡ None → title_in_text (ps ++ rest) ≡ None
implicit_first ps rest absent e = e
implicit_first ps rest (present line) e = refl

declared_first : (ps rest : List Placed) (ds : List Declaration) → AreDeclared ps ds → title_in_text rest ≡ None → title_in_text (ps ++ rest) ≡ None
declared_first ps rest ds none e = e
declared_first ps rest ds (more line k a es others others' h) e = refl

body_first : (ps rest : List Placed) → AllByRecursion (λ (p : Placed). is_executable90 p.form ≡ true) ps → title_in_text rest ≡ None
    → title_in_text (ps ++ rest) ≡ None
body_first [] rest h e = e
body_first (p ∷ ps) rest h e = executable_untitled p.form h.0

some_before : (ps : List Placed) (p : Placed) → is_nothing90 (ps ++ p ∷ []) ≡ false
some_before [] p = refl
some_before (q ∷ ps) p = refl

module _ (ps : List Placed) (q : Program) (h : HasParts ps q) where
  title_is : title_in_text ps ≡ q.name
  title_is =
      let last = h.last ∷ [] in
      let body = h.body ++ last in
      let declared = h.declared ++ body in
      ap title_in_text h.same
      ∙ title_first h.title (h.implicit ++ declared) q.name h.is_title
      (implicit_first h.implicit declared h.is_implicit
      (declared_first h.declared body h.in_text h.are_declared
      (body_first h.body last (executable (function_by q.declarations) (is_target_in q.body) h.body q.body h.block)
      (end_untitled h.last.form q.name h.is_last))))

  in_text : (d : Declaration) → Contains (declarations_of ps) d ↔ Contains q.declarations d
  in_text d = subst (λ (ds : List Declaration). Contains ds d ↔ Contains q.declarations d) (sym (declarations_are ps q h)) (h.each d)

  functions_are : functions_in ps ≡ function_by q.declarations
  functions_are =
      same_functions (declarations_of ps) q.declarations
      (λ x. both_declare (declarations_of ps) q.declarations x (λ d. (in_text d).0) (λ d. (in_text d).1) h.sorted)

  are_body : AreBody ps q.body
  are_body =
      subst (λ (es : List Placed). AreBlock90 (functions_in ps) (is_target_in q.body) es q.body) (sym (body_is ps q h))
      (subst (λ f. AreBlock90 f (is_target_in q.body) h.body q.body) (sym functions_are) h.block)

  pub is_program : IsProgramOf ps q
  is_program = record {
    in_order = record {
      some = ap is_nothing90 (same_last ps q h) ∙ some_before (h.title ++ (h.implicit ++ (h.declared ++ h.body))) h.last;
      none = in_order ps q h;
    };
    title = sym title_is;
    sorted = h.sorted;
    each = in_text;
    once = ap length (declarations_are ps q h) ∙ h.once;
    body = are_body;
  }
