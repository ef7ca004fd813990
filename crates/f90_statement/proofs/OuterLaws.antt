-- Statements round the executable ones, and ends of blocks.
use Rattle.std.proofs.Common.{◌≡◌, ℕ, List, [], ◌∷◌, ap, refl, sym, subst, ◌∙◌, Some, None, codes}
use Rattle.std.specs.Prelude.{IsTrue}
use Rattle.f90_grammar.specs.Forms as forms
use Rattle.f90_grammar.specs.Forms.{Form90, IsWritten90, Either, IsNamed}
use Rattle.f90_grammar.specs.Words as words
use Rattle.f90_grammar.specs.Words.{Word90}
use Rattle.f90_statement.specs.Kinds.{is_program, is_end_program, is_bare}
use Rattle.f90_statement.specs.Reading.{IsForm}
use Rattle.f90_statement.specs.Views.{IsStatementOf}
use Rattle.f90_statement.specs.declared.nodes.Statement.TheVariants as statements
use Rattle.f90_statement.proofs.FrontLaws.{one_rest}

-- ---- PROGRAM

pub program_is : (ws us : List Word90) (x : List ℕ) → ws ≡ words.Name (codes "PROGRAM") ∷ us → us ≡ words.Name x ∷ []
    → IsForm IsStatementOf is_program ws (statements.Program x)
program_is ws us x e k = record {
  form = forms.Program x;
  is_of = refl;
  written = e ∙ ap (λ (q : List Word90). words.Name (codes "PROGRAM") ∷ q) k;
  among = refl;
}

pub no_title : (ws us : List Word90) → ws ≡ words.Name (codes "PROGRAM") ∷ us → ((x : List ℕ) → us ≡ words.Name x ∷ [] → ⊥)
    → (f : Form90) → IsWritten90 f ws → IsTrue (is_program f) → ⊥
no_title ws us e o (forms.Program x) w t = o x (behind (words.Name x ∷ []) (sym e ∙ w))
  where
    behind : (vs : List Word90) → words.Name (codes "PROGRAM") ∷ us ≡ words.Name (codes "PROGRAM") ∷ vs → us ≡ vs
    behind vs q = cc
no_title ws us e o f w t = cc

pub no_program : (ws : List Word90) → ((us : List Word90) → ws ≡ words.Name (codes "PROGRAM") ∷ us → ⊥)
    → (f : Form90) → IsWritten90 f ws → IsTrue (is_program f) → ⊥
no_program ws o (forms.Program x) w t = o (words.Name x ∷ []) w
no_program ws o f w t = cc

pub ruleset programs = (program_is, no_title, no_program)

-- ---- END PROGRAM

abbrev Ended : List Word90 → List Word90 → Type 0
Ended us ws = Either (codes "END") (codes "PROGRAM") us ws

pub end_is : (ws us : List Word90) → Ended us ws → us ≡ [] → IsForm IsStatementOf is_end_program ws (statements.EndProgram None)
end_is ws us e k = record {
  form = forms.EndProgram None;
  is_of = refl;
  written = subst (λ (q : List Word90). Ended q ws) k e;
  among = refl;
}

pub named_end_is : (ws us : List Word90) (x : List ℕ) → Ended us ws → us ≡ words.Name x ∷ [] → IsForm IsStatementOf is_end_program ws (statements.EndProgram (Some x))
named_end_is ws us x e k = record {
  form = forms.EndProgram (Some x);
  is_of = refl;
  written = subst (λ (q : List Word90). Ended q ws) k e;
  among = refl;
}

pub other_end : (ws us : List Word90) → Ended us ws → (us ≡ [] → ⊥) → ((x : List ℕ) → us ≡ words.Name x ∷ [] → ⊥)
    → (f : Form90) → IsWritten90 f ws → IsTrue (is_end_program f) → ⊥
other_end ws us e n o (forms.EndProgram None) w t = n (one_rest (codes "END") (codes "PROGRAM") us [] ws (λ q. cc) e w)
other_end ws us e n o (forms.EndProgram (Some x)) w t = o x (one_rest (codes "END") (codes "PROGRAM") us (words.Name x ∷ []) ws (λ q. cc) e w)
other_end ws us e n o f w t = cc

pub no_end : (ws : List Word90) → ((us : List Word90) → Ended us ws → ⊥) → (f : Form90) → IsWritten90 f ws → IsTrue (is_end_program f) → ⊥
no_end ws o (forms.EndProgram x) w t = o (IsNamed x) w
no_end ws o f w t = cc

pub ruleset ends = (end_is, named_end_is, other_end, no_end)

-- ---- words alone

pub else_is : (ws : List Word90) → ws ≡ words.Name (codes "ELSE") ∷ [] → IsForm IsStatementOf is_bare ws statements.Else
else_is ws e = record { form = forms.Else; is_of = tt; written = e; among = refl }

pub plain_end_is : (ws : List Word90) → ws ≡ words.Name (codes "END") ∷ [] → IsForm IsStatementOf is_bare ws statements.End
plain_end_is ws e = record { form = forms.End; is_of = tt; written = e; among = refl }

pub end_if_is : (ws : List Word90) → Either (codes "END") (codes "IF") [] ws → IsForm IsStatementOf is_bare ws statements.EndIf
end_if_is ws e = record { form = forms.EndIf; is_of = tt; written = e; among = refl }

pub end_do_is : (ws : List Word90) → Either (codes "END") (codes "DO") [] ws → IsForm IsStatementOf is_bare ws statements.EndDo
end_do_is ws e = record { form = forms.EndDo; is_of = tt; written = e; among = refl }

abbrev Untyped : List Word90 → Type 0
Untyped ws = ws ≡ words.Name (codes "IMPLICIT") ∷ (words.Name (codes "NONE") ∷ [])

pub implicit_is : (ws : List Word90) → Untyped ws → IsForm IsStatementOf is_bare ws statements.ImplicitNone
implicit_is ws e = record { form = forms.ImplicitNone; is_of = tt; written = e; among = refl }

pub no_bare : (ws : List Word90) → (ws ≡ words.Name (codes "ELSE") ∷ [] → ⊥) → (ws ≡ words.Name (codes "END") ∷ [] → ⊥)
    → (Either (codes "END") (codes "IF") [] ws → ⊥) → (Either (codes "END") (codes "DO") [] ws → ⊥) → (Untyped ws → ⊥)
    → (f : Form90) → IsWritten90 f ws → IsTrue (is_bare f) → ⊥
no_bare ws a b c d e forms.Else w t = a w
no_bare ws a b c d e forms.End w t = b w
no_bare ws a b c d e forms.EndIf w t = c w
no_bare ws a b c d e forms.EndDo w t = d w
no_bare ws a b c d e forms.ImplicitNone w t = e w
no_bare ws a b c d e f w t = cc

pub ruleset bare = (else_is, plain_end_is, end_if_is, end_do_is, implicit_is, no_bare)
