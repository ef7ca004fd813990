-- A form with a keyword is written as the keyword, with what stands behind it.
use Rattle.std.proofs.Common.{◌≡◌, ℕ, List, [], ◌∷◌, ◌++◌, refl, ap, sym, ◌∙◌, inl, inr, codes, append-nil, subst}
use Rattle.std.specs.Prelude.{Option, Some, None, ◌⊎◌}
use Rattle.std.specs.List.{AllByRecursion}
use Rattle.tree.specs.declared.ops.Kind.{Kind}
use Rattle.tree.specs.declared.ops.Kind.TheVariants as kinds
use Rattle.f77_grammar.specs.expressions.Spelling.{chars77}
use Rattle.f77_grammar.specs.expressions.Squeezing.{Symbol77, Char}
use Rattle.f77_grammar.specs.statements.Items.{ItemPhrases77, AreItems77, written_items77}
use Rattle.f77_grammar.specs.declared.directions.Direction.TheVariants.{Input, Output}
use Rattle.f77_grammar.specs.statements.Forms as forms
use Rattle.f77_grammar.specs.statements.Forms.{Form77, IsWritten77, IsFollowed, EntityForm77, IsEntity77, separated77, written_entity77}
use Rattle.reading.specs.Characters.{keyword_of, IsList}
use Rattle.f77_expressions.specs.Lexing.{strip}
use Rattle.f77_words.specs.keywords.Kinds.{HasKeyword}
use Rattle.f77_words.proofs.keywords.Stripping.{strip_same}
use Rattle.f77_read.proofs.one_answer.Keywords as keywords
use Rattle.f77_read.proofs.one_answer.Keywords.{Keyword, Front, or_else, either, first_of, first_keywords, last_keywords, keyword_at, IsAfter}

-- ---- from the form to its keyword

pub record IsBehindKeyword (text : List Symbol77) (f : Form77) : Type 0 where
  pub front : Front
  pub found : keyword_at text ≡ Some front
  pub after : IsAfter front.keyword front.rest f

behind : (k : Keyword) (whole rest text : List Symbol77) (f : Form77) → keyword_at whole ≡ Some (record { keyword = k; rest = rest }) → text ≡ whole → IsAfter k rest f → IsBehindKeyword text f
behind k whole rest text f found e h = record { front = record { keyword = k; rest = rest }; found = ap keyword_at e ∙ found; after = h }

declared : (k : Kind) (es : List EntityForm77) (text : List Symbol77) → IsFollowed (keyword_of k) (separated77 written_entity77 es) text → IsList IsEntity77 es → IsBehindKeyword text (forms.Declare k es)
declared kinds.Integer es text h l = behind keywords.Integer (chars77 (codes "INTEGER") ++ h.0) h.0 text _ refl h.1 (es, refl, h.2, l)
declared kinds.Logical es text h l = behind keywords.Logical (chars77 (codes "LOGICAL") ++ h.0) h.0 text _ refl h.1 (es, refl, h.2, l)

reads : (is : ItemPhrases77) (text : List Symbol77) → (IsFollowed (codes "READ*,") (written_items77 is) text ⊎ IsFollowed (codes "READ(*,*)") (written_items77 is) text) → AreItems77 Input is → IsBehindKeyword text (forms.Read is)
reads is text (inl h) good = behind keywords.ReadList (chars77 (codes "READ*,") ++ h.0) (Char 44 ∷ h.0) text _ refl h.1 (inr (h.0, refl, (is, refl, h.2, good)))
reads is text (inr h) good = behind keywords.ReadUnit (chars77 (codes "READ(*,*)") ++ h.0) h.0 text _ refl h.1 (inr (is, refl, h.2, good))

reads_nothing : (text : List Symbol77) → ((text ≡ chars77 (codes "READ*")) ⊎ (text ≡ chars77 (codes "READ(*,*)"))) → IsBehindKeyword text forms.ReadNothing
reads_nothing text (inl e) = behind keywords.ReadList (chars77 (codes "READ*")) [] text _ refl e (inl (refl, refl))
reads_nothing text (inr e) = behind keywords.ReadUnit (chars77 (codes "READ(*,*)")) [] text _ refl e (inl (refl, refl))

prints : (is : ItemPhrases77) (text : List Symbol77) → (IsFollowed (codes "PRINT*,") (written_items77 is) text ⊎ IsFollowed (codes "WRITE(*,*)") (written_items77 is) text) → AreItems77 Output is → IsBehindKeyword text (forms.Print is)
prints is text (inl h) good = behind keywords.PrintList (chars77 (codes "PRINT*,") ++ h.0) (Char 44 ∷ h.0) text _ refl h.1 (inr (h.0, refl, (is, refl, h.2, good)))
prints is text (inr h) good = behind keywords.WriteUnit (chars77 (codes "WRITE(*,*)") ++ h.0) h.0 text _ refl h.1 (inr (is, refl, h.2, good))

prints_nothing : (text : List Symbol77) → ((text ≡ chars77 (codes "PRINT*")) ⊎ (text ≡ chars77 (codes "WRITE(*,*)"))) → IsBehindKeyword text forms.PrintNothing
prints_nothing text (inl e) = behind keywords.PrintList (chars77 (codes "PRINT*")) [] text _ refl e (inl (refl, refl))
prints_nothing text (inr e) = behind keywords.WriteUnit (chars77 (codes "WRITE(*,*)")) [] text _ refl e (inl (refl, refl))

pub behind_keyword : (f : Form77) → HasKeyword f → (text : List Symbol77) → IsWritten77 f text → IsBehindKeyword text f
behind_keyword (forms.Program x) k text h = behind keywords.Program (chars77 (codes "PROGRAM") ++ h.0) h.0 text _ refl h.1 (x, refl, h.2)
behind_keyword forms.ImplicitNone k text h = behind keywords.ImplicitNone (chars77 (codes "IMPLICITNONE")) [] text _ refl h (refl, refl)
behind_keyword (forms.Declare t es) k text h = declared t es text h.0 h.1
behind_keyword (forms.Dimension es) k text h = behind keywords.Dimension (chars77 (codes "DIMENSION") ++ h.0.0) h.0.0 text _ refl h.0.1 (es, refl, h.0.2, h.1)
behind_keyword (forms.Constants ds) k text h = behind keywords.Parameter (chars77 (codes "PARAMETER") ++ h.0.0) h.0.0 text _ refl h.0.1 (ds, refl, h.0.2, h.1)
behind_keyword (forms.Go label) k text h = behind keywords.GoTo (chars77 (codes "GOTO" ++ label)) (chars77 label) text _ refl h.0 (label, refl, refl, h.1)
behind_keyword (forms.ElseIf p) k text h =
    behind keywords.ElseIf (chars77 (codes "ELSEIF(") ++ (h.0 ++ chars77 (codes ")THEN"))) (h.0 ++ chars77 (codes ")THEN")) text _ refl h.1 (p, h.0, refl, refl, h.2, h.3)
behind_keyword forms.Else k text h = behind keywords.Else (chars77 (codes "ELSE")) [] text _ refl h (refl, refl)
behind_keyword forms.EndIf k text h = behind keywords.EndIf (chars77 (codes "ENDIF")) [] text _ refl h (refl, refl)
behind_keyword forms.EndDo k text h = behind keywords.EndDo (chars77 (codes "ENDDO")) [] text _ refl h (refl, refl)
behind_keyword forms.Continue k text h = behind keywords.Continue (chars77 (codes "CONTINUE")) [] text _ refl h (refl, refl)
behind_keyword forms.Stop k text h = behind keywords.Stop (chars77 (codes "STOP")) [] text _ refl h (refl, refl)
behind_keyword (forms.Read is) k text h = reads is text h.0 h.1
behind_keyword forms.ReadNothing k text h = reads_nothing text h
behind_keyword (forms.Print is) k text h = prints is text h.0 h.1
behind_keyword forms.PrintNothing k text h = prints_nothing text h
behind_keyword forms.End k text h = behind keywords.End (chars77 (codes "END")) [] text _ refl h (refl, refl)
behind_keyword (forms.Assign l r) k text h = absurd k
behind_keyword (forms.Test p f) k text h = absurd k
behind_keyword (forms.If p) k text h = absurd k
behind_keyword (forms.Do label comma c) k text h = absurd k
behind_keyword (forms.PlainDo c) k text h = absurd k

-- ---- from the keyword to the form

abbrev spelling : Keyword → List ℕ
spelling keywords.Program = codes "PROGRAM"
spelling keywords.ImplicitNone = codes "IMPLICITNONE"
spelling keywords.Integer = codes "INTEGER"
spelling keywords.Logical = codes "LOGICAL"
spelling keywords.Dimension = codes "DIMENSION"
spelling keywords.Parameter = codes "PARAMETER"
spelling keywords.GoTo = codes "GOTO"
spelling keywords.ElseIf = codes "ELSEIF("
spelling keywords.Else = codes "ELSE"
spelling keywords.EndIf = codes "ENDIF"
spelling keywords.EndDo = codes "ENDDO"
spelling keywords.Continue = codes "CONTINUE"
spelling keywords.Stop = codes "STOP"
spelling keywords.End = codes "END"
spelling keywords.ReadUnit = codes "READ(*,*)"
spelling keywords.ReadList = codes "READ*"
spelling keywords.WriteUnit = codes "WRITE(*,*)"
spelling keywords.PrintList = codes "PRINT*"

abbrev IsSpelled : List Symbol77 → Front → Type 0
IsSpelled text f = text ≡ chars77 (spelling f.keyword) ++ f.rest

abbrev IsSpelling : List ℕ × Keyword → Type 0
IsSpelling w = w.0 ≡ spelling w.1

spelled_or : (w : List ℕ) (k : Keyword) (text : List Symbol77) (o : Option (List Symbol77)) (next : Option Front) (f : Front) → strip w text ≡ o → w ≡ spelling k → (next ≡ Some f → IsSpelled text f) → or_else o k next ≡ Some f → IsSpelled text f
spelled_or w k text (Some rest) next f e s more h =
    let same : record { keyword = k; rest = rest } ≡ f = cc in
    subst (IsSpelled text) same (strip_same w text rest e ∙ ap (λ (q : List ℕ). chars77 q ++ rest) s)
spelled_or w k text None next f e s more h = more h

first_spelled : (ws : List (List ℕ × Keyword)) (text : List Symbol77) (f : Front) → AllByRecursion IsSpelling ws → first_of ws text ≡ Some f → IsSpelled text f
first_spelled [] text f a h = cc
first_spelled (w ∷ ws) text f a h = spelled_or w.0 w.1 text (strip w.0 text) (first_of ws text) f refl a.0 (λ e. first_spelled ws text f a.1 e) h

first_are : AllByRecursion IsSpelling first_keywords
first_are = (refl, (refl, (refl, (refl, (refl, (refl, (refl, (refl, (refl, tt)))))))))

last_are : AllByRecursion IsSpelling last_keywords
last_are = (refl, (refl, (refl, (refl, (refl, (refl, (refl, (refl, (refl, tt)))))))))

either_spelled : (text : List Symbol77) (o next : Option Front) (f : Front) → ((g : Front) → o ≡ Some g → IsSpelled text g) → ((g : Front) → next ≡ Some g → IsSpelled text g) → either o next ≡ Some f → IsSpelled text f
either_spelled text (Some g) next f a b h = a f h
either_spelled text None next f a b h = b f h

keyword_spelled : (text : List Symbol77) (f : Front) → keyword_at text ≡ Some f → IsSpelled text f
keyword_spelled text f h =
    either_spelled text (first_of first_keywords text) (first_of last_keywords text) f (λ g e. first_spelled first_keywords text g first_are e) (λ g e. first_spelled last_keywords text g last_are e) h

whole : (front : List ℕ) (text rest : List Symbol77) → text ≡ chars77 front ++ rest → rest ≡ [] → text ≡ chars77 front
whole front text rest e h = e ∙ (ap (λ (q : List Symbol77). chars77 front ++ q) h ∙ append-nil (chars77 front))

reads_unit : (text rest : List Symbol77) (f : Form77) → text ≡ chars77 (codes "READ(*,*)") ++ rest → IsAfter keywords.ReadUnit rest f → IsWritten77 f text
reads_unit text rest f e (inl h) = subst (λ (g : Form77). IsWritten77 g text) (sym h.0) (inr (whole (codes "READ(*,*)") text rest e h.1))
reads_unit text rest f e (inr h) = subst (λ (g : Form77). IsWritten77 g text) (sym h.1) (inr (rest, e, h.2), h.3)

reads_list : (text rest : List Symbol77) (f : Form77) → text ≡ chars77 (codes "READ*") ++ rest → IsAfter keywords.ReadList rest f → IsWritten77 f text
reads_list text rest f e (inl h) = subst (λ (g : Form77). IsWritten77 g text) (sym h.0) (inl (whole (codes "READ*") text rest e h.1))
reads_list text rest f e (inr h) = subst (λ (g : Form77). IsWritten77 g text) (sym h.2.1) (inl (h.0, e ∙ ap (λ (q : List Symbol77). chars77 (codes "READ*") ++ q) h.1, h.2.2), h.2.3)

writes_unit : (text rest : List Symbol77) (f : Form77) → text ≡ chars77 (codes "WRITE(*,*)") ++ rest → IsAfter keywords.WriteUnit rest f → IsWritten77 f text
writes_unit text rest f e (inl h) = subst (λ (g : Form77). IsWritten77 g text) (sym h.0) (inr (whole (codes "WRITE(*,*)") text rest e h.1))
writes_unit text rest f e (inr h) = subst (λ (g : Form77). IsWritten77 g text) (sym h.1) (inr (rest, e, h.2), h.3)

prints_list : (text rest : List Symbol77) (f : Form77) → text ≡ chars77 (codes "PRINT*") ++ rest → IsAfter keywords.PrintList rest f → IsWritten77 f text
prints_list text rest f e (inl h) = subst (λ (g : Form77). IsWritten77 g text) (sym h.0) (inl (whole (codes "PRINT*") text rest e h.1))
prints_list text rest f e (inr h) = subst (λ (g : Form77). IsWritten77 g text) (sym h.2.1) (inl (h.0, e ∙ ap (λ (q : List Symbol77). chars77 (codes "PRINT*") ++ q) h.1, h.2.2), h.2.3)

written : (k : Keyword) (text rest : List Symbol77) (f : Form77) → text ≡ chars77 (spelling k) ++ rest → IsAfter k rest f → IsWritten77 f text
written keywords.Program text rest f e h = subst (λ (g : Form77). IsWritten77 g text) (sym h.1) (rest, e, h.2)
written keywords.ImplicitNone text rest f e h = subst (λ (g : Form77). IsWritten77 g text) (sym h.0) (whole (codes "IMPLICITNONE") text rest e h.1)
written keywords.Integer text rest f e h = subst (λ (g : Form77). IsWritten77 g text) (sym h.1) ((rest, e, h.2), h.3)
written keywords.Logical text rest f e h = subst (λ (g : Form77). IsWritten77 g text) (sym h.1) ((rest, e, h.2), h.3)
written keywords.Dimension text rest f e h = subst (λ (g : Form77). IsWritten77 g text) (sym h.1) ((rest, e, h.2), h.3)
written keywords.Parameter text rest f e h = subst (λ (g : Form77). IsWritten77 g text) (sym h.1) ((rest, e, h.2), h.3)
written keywords.GoTo text rest f e h = subst (λ (g : Form77). IsWritten77 g text) (sym h.1) (e ∙ ap (λ (q : List Symbol77). chars77 (codes "GOTO") ++ q) h.2, h.3)
written keywords.ElseIf text rest f e h = subst (λ (g : Form77). IsWritten77 g text) (sym h.2) (h.1, e ∙ ap (λ (q : List Symbol77). chars77 (codes "ELSEIF(") ++ q) h.3, h.4, h.5)
written keywords.Else text rest f e h = subst (λ (g : Form77). IsWritten77 g text) (sym h.0) (whole (codes "ELSE") text rest e h.1)
written keywords.EndIf text rest f e h = subst (λ (g : Form77). IsWritten77 g text) (sym h.0) (whole (codes "ENDIF") text rest e h.1)
written keywords.EndDo text rest f e h = subst (λ (g : Form77). IsWritten77 g text) (sym h.0) (whole (codes "ENDDO") text rest e h.1)
written keywords.Continue text rest f e h = subst (λ (g : Form77). IsWritten77 g text) (sym h.0) (whole (codes "CONTINUE") text rest e h.1)
written keywords.Stop text rest f e h = subst (λ (g : Form77). IsWritten77 g text) (sym h.0) (whole (codes "STOP") text rest e h.1)
written keywords.End text rest f e h = subst (λ (g : Form77). IsWritten77 g text) (sym h.0) (whole (codes "END") text rest e h.1)
written keywords.ReadUnit text rest f e h = reads_unit text rest f e h
written keywords.ReadList text rest f e h = reads_list text rest f e h
written keywords.WriteUnit text rest f e h = writes_unit text rest f e h
written keywords.PrintList text rest f e h = prints_list text rest f e h

pub keyword_written : (k : Keyword) (text rest : List Symbol77) (f : Form77) → keyword_at text ≡ Some (record { keyword = k; rest = rest }) → IsAfter k rest f → IsWritten77 f text
keyword_written k text rest f e h = written k text rest f (keyword_spelled text _ e) h

same_front : (a b : Front) → Some a ≡ Some b → a ≡ b
same_front a b e = cc

pub after_keyword : (k : Keyword) (text rest : List Symbol77) (f : Form77) → keyword_at text ≡ Some (record { keyword = k; rest = rest }) → HasKeyword f → IsWritten77 f text → IsAfter k rest f
after_keyword k text rest f e w h =
    let b = behind_keyword f w text h in
    let s = same_front b.front (record { keyword = k; rest = rest }) (sym b.found ∙ e) in
    subst (λ (q : Front). IsAfter q.keyword q.rest f) s b.after

pub no_keyword : (text : List Symbol77) (f : Form77) → keyword_at text ≡ None → HasKeyword f → IsWritten77 f text → ⊥
no_keyword text f e w h = (let b = behind_keyword f w text h in let z = sym e ∙ b.found in cc)
