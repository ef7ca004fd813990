-- Decks in fixed form with their statements and refusals, worked out.
use Rattle.std.proofs.Common.{ℕ, List, [], ◌∷◌, ◌++◌, refl, None, Some}
use Rattle.std.specs.Prelude.{codes, replicate}
use Rattle.tree.specs.Causes.{refusal_at}
use Rattle.tree.specs.declared.refusals.Cause.TheVariants as causes
use Rattle.f77_grammar.specs.Cards.{AreCards, HasCardCause, columns_of, is_comment, is_initial, is_label_character, statement_lines_from, label_in_field, card_in}
use Rattle.f77_grammar.specs.Cards.LineCause.{Tab, LineForm}
use Rattle.f77_grammar.specs.Cards.IsWrong.{HoldsTab, HasNoLabel}
use Rattle.f77_grammar.specs.Cards.HasCardCause.{AtLine}

abbrev line : List ℕ → List ℕ → List ℕ
line text rest = text ++ 10 ∷ rest

-- comment lines, a continuation line, a label with a blank in it, and a CR before an LF
abbrev two_statements : List ℕ
two_statements = line (codes "C A COMMENT") (line (codes "      A =") (line (codes "* ANOTHER") (line (codes "     1  1" ++ 13 ∷ []) (line [] (codes " 2 0  STOP")))))

two_cards : AreCards two_statements
    (record { label = None; line = 2; chars = codes "A =" ++ (replicate 63 32 ++ (codes "  1" ++ replicate 63 32)) }
    ∷ record { label = Some 20; line = 6; chars = codes "STOP" ++ replicate 62 32 } ∷ [])
unfolding statement_lines_from columns_of is_comment is_initial label_in_field card_in
two_cards = record {
  statements =
      record { initial = record { number = 2; columns = codes "      A =" ++ replicate 63 32 }; continuations = record { number = 4; columns = codes "     1  1" ++ replicate 63 32 } ∷ [] }
      ∷ record { initial = record { number = 6; columns = codes " 2 0  STOP" ++ replicate 62 32 }; continuations = [] } ∷ [];
  each = refl;
  in_order = refl;
  cards_are = refl;
}

-- comment lines alone, and no bytes, are no statement
comments_alone : AreCards (line (codes "C") (line [] (line (codes "*") (codes "   ")))) []
unfolding statement_lines_from columns_of is_comment
comments_alone = record { statements = []; each = refl; in_order = refl; cards_are = refl }

nothing : AreCards [] []
unfolding statement_lines_from
nothing = record { statements = []; each = refl; in_order = refl; cards_are = refl }

-- a tab among blanks makes no comment line, and is refused at its line
tab_alone : HasCardCause (line [] (line (32 ∷ 9 ∷ []) [])) (refusal_at causes.Tab 2)
unfolding statement_lines_from columns_of is_comment
tab_alone = AtLine Tab [] (record { number = 2; columns = 32 ∷ 9 ∷ replicate 70 32 }) [] refl (HoldsTab refl)

-- an exclamation mark in column 1 begins no comment
exclamation_mark : HasCardCause (codes "! END") (refusal_at causes.LineForm 1)
unfolding statement_lines_from columns_of is_comment is_initial is_label_character
exclamation_mark = AtLine LineForm [] (record { number = 1; columns = codes "! END" ++ replicate 67 32 }) [] refl (HasNoLabel refl refl)
