-- The statements of a program are in order.
use Rattle.std.proofs.Common.{◌≡◌, refl, sym, ap, ap₂, subst, ◌∙◌, ℕ, Bool, true, false, not, Option, None, List, [], ◌∷◌, ◌++◌, append_assoc, append-nil, filter, ◌≤◌, arith}
use Rattle.std.specs.List.{AllByRecursion, list_any, list_all}
use Rattle.std.proofs.lemmas.Bool.{cond-true, cond-false}
use Rattle.std.proofs.lemmas.List.Elements.{filter-append}
use Rattle.std.proofs.lemmas.List.Folds.{list_any-append}
use Rattle.std.proofs.lemmas.Slice.Eq.{bytes_eq-Decides}
use Rattle.tree.specs.Plain.{Declaration, Program}
use Rattle.f90_grammar.specs.Forms as forms
use Rattle.f90_grammar.specs.Forms.{Form90}
use Rattle.f90_grammar.specs.Blocks.{Placed, placed_form}
use Rattle.f90_grammar.specs.Reading.{is_target_in, function_by}
use Rattle.f90_grammar.specs.Declared.{declarations_in, declarations_of}
use Rattle.meaning.specs.Blocks.{blocks_in}
use Rattle.f90_grammar.specs.Order.{Place90, IsPlaceIn, is_title, is_end90, is_executable90, title_in_text, is_misnamed, is_late90, ends_wrongly, opened_behind, is_disordered}
use Rattle.f90_laws.proofs.printed.PrintedParts.{IsTitle, MayBeImplicitNone, IsEnd, AreDeclared, HasParts}
use Rattle.f90_laws.proofs.printed.PrintedParts.IsTitle.{untitled, titled}
use Rattle.f90_laws.proofs.printed.PrintedParts.MayBeImplicitNone.{absent, present}
use Rattle.f90_laws.proofs.printed.PrintedParts.IsEnd.{end, end_program, end_named}
use Rattle.f90_laws.proofs.printed.PrintedParts.AreDeclared.{none as nothing, more}
use Rattle.f90_laws.proofs.readings.Counts.{executable, OpensWithin}
use Rattle.f90_laws.proofs.readings.Lists.{both_false, all_right, all_both, all_weaker}
use Rattle.f90_laws.proofs.unrefused.Blocks.{IsQuiet, AreQuiet, Close, AreClosed, close_both, close_at, closed_at, quiet_close, quiet_closed, quiet_within, within_both, block_closes, block_closed, block_within}
use Rattle.f90_laws.proofs.unrefused.Declarations.{DeclareNothing, nothing_declared, all_declared, declared_both}

-- ---- the parts of a program

quiet_title : (x : List ℕ) → IsQuiet (forms.Program x)
quiet_title x = record { opens = λ os. refl; closes = λ os. refl; ends_if = λ more n. refl; ends_do = λ more n. refl; stays = λ ps. refl; block = refl }

quiet_implicit : IsQuiet forms.ImplicitNone
quiet_implicit = record { opens = λ os. refl; closes = λ os. refl; ends_if = λ more n. refl; ends_do = λ more n. refl; stays = λ ps. refl; block = refl }

quiet_declared : (ps : List Placed) (ds : List Declaration) → AreDeclared ps ds → AreQuiet ps
quiet_declared ps ds nothing = tt
quiet_declared ps ds (more line k a es rest others h) =
    (record { opens = λ os. refl; closes = λ os. refl; ends_if = λ more n. refl; ends_do = λ more n. refl; stays = λ ps. refl; block = refl }, quiet_declared rest others h)

quiet_end : (f : Form90) (name : Option (List ℕ)) → IsEnd f name → IsQuiet f
quiet_end f name (end o) = record { opens = λ os. refl; closes = λ os. refl; ends_if = λ more n. refl; ends_do = λ more n. refl; stays = λ ps. refl; block = refl }
quiet_end f name (end_program o) = record { opens = λ os. refl; closes = λ os. refl; ends_if = λ more n. refl; ends_do = λ more n. refl; stays = λ ps. refl; block = refl }
quiet_end f name (end_named x) = record { opens = λ os. refl; closes = λ os. refl; ends_if = λ more n. refl; ends_do = λ more n. refl; stays = λ ps. refl; block = refl }

abbrev IsInside : Placed → Type 0
IsInside p = is_end90 p.form ≡ false

executable_inside : (f : Form90) → is_executable90 f ≡ true → is_end90 f ≡ false
executable_inside forms.End h = sym h
executable_inside (forms.EndProgram x) h = sym h
executable_inside f h = refl

executable_timely : (f : Form90) → is_executable90 f ≡ true → (before : List Placed) → is_late90 f before ≡ false
executable_timely (forms.Program x) h before = absurd cc
executable_timely forms.ImplicitNone h before = absurd cc
executable_timely (forms.Declare k a es) h before = absurd cc
executable_timely f h before = refl

inside_named : (title : Option (List ℕ)) (f : Form90) → is_end90 f ≡ false → is_misnamed title f ≡ false
inside_named title (forms.EndProgram x) h = absurd cc
inside_named title f h = refl

-- ---- what comes late

abbrev AreTimely : List Placed → List Placed → Type 0
AreTimely before [] = Unit {0}
AreTimely before (p ∷ ps) = (is_late90 p.form before ≡ false) × AreTimely (before ++ p ∷ []) ps

timely_at : (front before : List Placed) (here : Placed) (after : List Placed) → AreTimely front (before ++ here ∷ after) → is_late90 here.form (front ++ before) ≡ false
timely_at front [] here after h = ap (λ ps. is_late90 here.form ps) (append-nil front) ∙ h.0
timely_at front (x ∷ before) here after h =
    ap (λ ps. is_late90 here.form ps) (sym (append_assoc front (x ∷ []) before)) ∙ timely_at (front ++ x ∷ []) before here after h.1

all_timely : (front ps : List Placed) → AllByRecursion (λ (p : Placed). (before : List Placed) → is_late90 p.form before ≡ false) ps → AreTimely front ps
all_timely front [] h = tt
all_timely front (p ∷ ps) h = (h.0 front, all_timely (front ++ p ∷ []) ps h.1)

abbrev has_executable : List Placed → Bool
has_executable ps = list_any (λ (p : Placed). is_executable90 p.form) ps

declared_timely : (front ps rest : List Placed) (ds : List Declaration) → AreDeclared ps ds → has_executable front ≡ false
    → ((before : List Placed) → AreTimely before rest) → AreTimely front (ps ++ rest)
declared_timely front ps rest ds nothing h behind = behind front
declared_timely front ps rest ds (more line k a es others xs d) h behind = (
  h,
  declared_timely (front ++ placed_form line None (forms.Declare k a es) ∷ []) others rest xs d
      (list_any-append (λ (p : Placed). is_executable90 p.form) front (placed_form line None (forms.Declare k a es) ∷ []) ∙ both_false (has_executable front) false h refl) behind,
)

implicit_timely : (front ps ds rest : List Placed) (xs : List Declaration) → MayBeImplicitNone ps → AreDeclared ds xs → list_all (λ (p : Placed). is_title p.form) front ≡ true
    → has_executable front ≡ false → ((before : List Placed) → AreTimely before rest) → AreTimely front (ps ++ (ds ++ rest))
implicit_timely front ps ds rest xs absent d t h behind = declared_timely front ds rest xs d h behind
implicit_timely front ps ds rest xs (present line) d t h behind = (
  ap not t,
  declared_timely (front ++ placed_form line None forms.ImplicitNone ∷ []) ds rest xs d
      (list_any-append (λ (p : Placed). is_executable90 p.form) front (placed_form line None forms.ImplicitNone ∷ []) ∙ both_false (has_executable front) false h refl) behind,
)

title_timely : (title ps ds rest : List Placed) (name : Option (List ℕ)) (xs : List Declaration) → IsTitle title name → MayBeImplicitNone ps → AreDeclared ds xs
    → ((before : List Placed) → AreTimely before rest) → AreTimely [] (title ++ (ps ++ (ds ++ rest)))
title_timely title ps ds rest name xs untitled i d behind = implicit_timely [] ps ds rest xs i d refl refl behind
title_timely title ps ds rest name xs (titled line x) i d behind = (refl, implicit_timely (placed_form line None (forms.Program x) ∷ []) ps ds rest xs i d refl refl behind)

-- ---- the last statement alone ends

abbrev EndWell : List Placed → Type 0
EndWell [] = Unit {0}
EndWell (p ∷ ps) = (ends_wrongly p.form ps ≡ false) × EndWell ps

end_at : (before : List Placed) (here : Placed) (after : List Placed) → EndWell (before ++ here ∷ after) → ends_wrongly here.form after ≡ false
end_at [] here after h = h.0
end_at (x ∷ before) here after h = end_at before here after h.1

behind : (f : Form90) (ps : List Placed) (last : Placed) → ends_wrongly f (ps ++ last ∷ []) ≡ is_end90 f
behind f [] last = refl
behind f (p ∷ ps) last = refl

ends_well : (ps : List Placed) (last : Placed) → AllByRecursion IsInside ps → is_end90 last.form ≡ true → EndWell (ps ++ last ∷ [])
ends_well [] last h e = (ap not e, tt)
ends_well (p ∷ ps) last h e = (behind p.form ps last ∙ h.0, ends_well ps last h.1 e)

-- ---- the name at the end

abbrev AreNamed : Option (List ℕ) → List Placed → Type 0
AreNamed title ps = AllByRecursion (λ (p : Placed). is_misnamed title p.form ≡ false) ps

last_named : (f : Form90) (title : List Placed) (name : Option (List ℕ)) (rest : List Placed) → IsEnd f name → IsTitle title name → is_misnamed (title_in_text (title ++ rest)) f ≡ false
last_named f title name rest (end o) t = refl
last_named f title name rest (end_program o) t = refl
last_named f title name rest (end_named x) (titled line y) = ap not ((bytes_eq-Decides x x).1 refl)

last_ends : (f : Form90) (name : Option (List ℕ)) → IsEnd f name → is_end90 f ≡ true
last_ends f name (end o) = refl
last_ends f name (end_program o) = refl
last_ends f name (end_named x) = refl

last_timely : (f : Form90) (name : Option (List ℕ)) → IsEnd f name → (before : List Placed) → is_late90 f before ≡ false
last_timely f name (end o) before = refl
last_timely f name (end_program o) before = refl
last_timely f name (end_named x) before = refl

-- ---- a program's statements

title_inside : (title : List Placed) (name : Option (List ℕ)) → IsTitle title name → AllByRecursion IsInside title
title_inside title name untitled = tt
title_inside title name (titled line x) = (refl, tt)

title_quiet : (title : List Placed) (name : Option (List ℕ)) → IsTitle title name → AreQuiet title
title_quiet title name untitled = tt
title_quiet title name (titled line x) = (quiet_title x, tt)

implicit_inside : (ps : List Placed) → MayBeImplicitNone ps → AllByRecursion IsInside ps
implicit_inside ps absent = tt
implicit_inside ps (present line) = (refl, tt)

implicit_quiet : (ps : List Placed) → MayBeImplicitNone ps → AreQuiet ps
implicit_quiet ps absent = tt
implicit_quiet ps (present line) = (quiet_implicit, tt)

declared_inside : (ps : List Placed) (ds : List Declaration) → AreDeclared ps ds → AllByRecursion IsInside ps
declared_inside ps ds nothing = tt
declared_inside ps ds (more line k a es rest others h) = (refl, declared_inside rest others h)

-- ---- which of them are executable, and which declare

executable_declares : (f : Form90) → is_executable90 f ≡ true → declarations_in f ≡ []
executable_declares (forms.Declare k a es) h = absurd cc
executable_declares f h = refl

title_declares : (title : List Placed) (name : Option (List ℕ)) → IsTitle title name → DeclareNothing title
title_declares title name untitled = tt
title_declares title name (titled line x) = (refl, tt)

implicit_declares : (ps : List Placed) → MayBeImplicitNone ps → DeclareNothing ps
implicit_declares ps absent = tt
implicit_declares ps (present line) = (refl, tt)

last_declares : (f : Form90) (name : Option (List ℕ)) → IsEnd f name → declarations_in f ≡ []
last_declares f name (end o) = refl
last_declares f name (end_program o) = refl
last_declares f name (end_named x) = refl

abbrev is_executed : Placed → Bool
is_executed p = is_executable90 p.form

abbrev NoneExecuted : List Placed → Type 0
NoneExecuted ps = AllByRecursion (λ (p : Placed). is_executable90 p.form ≡ false) ps

title_executed : (title : List Placed) (name : Option (List ℕ)) → IsTitle title name → NoneExecuted title
title_executed title name untitled = tt
title_executed title name (titled line x) = (refl, tt)

implicit_executed : (ps : List Placed) → MayBeImplicitNone ps → NoneExecuted ps
implicit_executed ps absent = tt
implicit_executed ps (present line) = (refl, tt)

declared_executed : (ps : List Placed) (ds : List Declaration) → AreDeclared ps ds → NoneExecuted ps
declared_executed ps ds nothing = tt
declared_executed ps ds (more line k a es rest others h) = (refl, declared_executed rest others h)

last_executed : (f : Form90) (name : Option (List ℕ)) → IsEnd f name → is_executable90 f ≡ false
last_executed f name (end o) = refl
last_executed f name (end_program o) = refl
last_executed f name (end_named x) = refl

none_executed : (ps : List Placed) → NoneExecuted ps → filter is_executed ps ≡ []
none_executed [] h = refl
none_executed (p ∷ ps) h = cond-false (is_executable90 p.form) (p ∷ filter is_executed ps) (filter is_executed ps) h.0 ∙ none_executed ps h.1

all_executed : (ps : List Placed) → AllByRecursion (λ (p : Placed). is_executable90 p.form ≡ true) ps → filter is_executed ps ≡ ps
all_executed [] h = refl
all_executed (p ∷ ps) h = cond-true (is_executable90 p.form) (p ∷ filter is_executed ps) (filter is_executed ps) h.0 ∙ ap (λ qs. p ∷ qs) (all_executed ps h.1)

abbrev IsQuietPlaced : Placed → Type 0
IsQuietPlaced p = IsQuiet p.form

module _ (ps : List Placed) (q : Program) (h : HasParts ps q) where
  -- before its block
  abbrev front : List Placed
  front = h.title ++ (h.implicit ++ h.declared)

  pub front_quiet : AreQuiet (h.title ++ (h.implicit ++ h.declared))
  front_quiet =
      all_both IsQuietPlaced h.title (h.implicit ++ h.declared) (title_quiet h.title q.name h.is_title)
      (all_both IsQuietPlaced h.implicit h.declared (implicit_quiet h.implicit h.is_implicit) (quiet_declared h.declared h.in_text h.are_declared))

  pub last_quiet : IsQuiet h.last.form
  last_quiet = quiet_end h.last.form q.name h.is_last

  body_executable : AllByRecursion (λ (p : Placed). is_executable90 p.form ≡ true) h.body
  body_executable = executable (function_by q.declarations) (is_target_in q.body) h.body q.body h.block

  body_declares : DeclareNothing (h.body ++ h.last ∷ [])
  body_declares =
      all_both (λ (p : Placed). declarations_in p.form ≡ []) h.body (h.last ∷ [])
      (all_weaker (λ (p : Placed). is_executable90 p.form ≡ true) (λ (p : Placed). declarations_in p.form ≡ []) (λ (p : Placed) e. executable_declares p.form e) h.body body_executable)
      (last_declares h.last.form q.name h.is_last, tt)

  all_inside : AllByRecursion IsInside (h.title ++ (h.implicit ++ (h.declared ++ h.body)))
  all_inside =
      all_both IsInside h.title _ (title_inside h.title q.name h.is_title) (all_both IsInside h.implicit _ (implicit_inside h.implicit h.is_implicit)
      (all_both IsInside h.declared h.body (declared_inside h.declared h.in_text h.are_declared)
      (all_weaker (λ (p : Placed). is_executable90 p.form ≡ true) IsInside (λ (p : Placed) e. executable_inside p.form e) h.body body_executable)))

  pub same_front : ps ≡ (h.title ++ (h.implicit ++ h.declared)) ++ (h.body ++ h.last ∷ [])
  same_front =
      h.same ∙ (ap (λ xs. h.title ++ xs) (sym (append_assoc h.implicit h.declared (h.body ++ h.last ∷ []))) ∙ sym (append_assoc h.title (h.implicit ++ h.declared) (h.body ++ h.last ∷ [])))

  pub same_last : ps ≡ (h.title ++ (h.implicit ++ (h.declared ++ h.body))) ++ h.last ∷ []
  same_last =
      h.same ∙ (ap (λ xs. h.title ++ (h.implicit ++ xs)) (sym (append_assoc h.declared h.body (h.last ∷ [])))
      ∙ (ap (λ xs. h.title ++ xs) (sym (append_assoc h.implicit (h.declared ++ h.body) (h.last ∷ []))) ∙ sym (append_assoc h.title (h.implicit ++ (h.declared ++ h.body)) (h.last ∷ []))))

  timely : AreTimely [] ps
  timely =
      subst (AreTimely []) (sym h.same) (title_timely h.title h.implicit h.declared (h.body ++ h.last ∷ []) q.name h.in_text h.is_title h.is_implicit h.are_declared
      (λ before. all_timely before (h.body ++ h.last ∷ [])
      (all_both (λ (p : Placed). (before : List Placed) → is_late90 p.form before ≡ false) h.body (h.last ∷ [])
      (all_weaker (λ (p : Placed). is_executable90 p.form ≡ true) (λ (p : Placed). (before : List Placed) → is_late90 p.form before ≡ false) (λ (p : Placed) e. executable_timely p.form e) h.body body_executable)
      (last_timely h.last.form q.name h.is_last, tt))))

  end_well : EndWell ps
  end_well = subst EndWell (sym same_last) (ends_well (h.title ++ (h.implicit ++ (h.declared ++ h.body))) h.last all_inside (last_ends h.last.form q.name h.is_last))

  named : AreNamed (title_in_text ps) ps
  named =
      subst (AreNamed (title_in_text ps)) (sym same_last)
      (all_both (λ (p : Placed). is_misnamed (title_in_text ps) p.form ≡ false) (h.title ++ (h.implicit ++ (h.declared ++ h.body))) (h.last ∷ [])
      (all_weaker IsInside (λ (p : Placed). is_misnamed (title_in_text ps) p.form ≡ false) (λ (p : Placed) e. inside_named (title_in_text ps) p.form e) (h.title ++ (h.implicit ++ (h.declared ++ h.body))) all_inside)
      (ap (λ xs. is_misnamed (title_in_text xs) h.last.form) h.same ∙ last_named h.last.form h.title q.name _ h.is_last h.is_title, tt))

  closes : Close [] ps
  closes =
      subst (Close []) (sym same_front) (quiet_close [] (h.title ++ (h.implicit ++ h.declared)) (h.body ++ h.last ∷ []) front_quiet
      (close_both [] h.body (h.last ∷ []) (block_closes (function_by q.declarations) (is_target_in q.body) h.body q.body [] h.block)
      (last_quiet.closes (opened_behind [] h.body), tt)))

  closed : AreClosed ps
  closed =
      subst AreClosed (sym same_front) (quiet_closed (h.title ++ (h.implicit ++ h.declared)) (h.body ++ h.last ∷ []) front_quiet
      (block_closed (function_by q.declarations) (is_target_in q.body) h.body q.body h.block (h.last ∷ []) (last_quiet.stays [], tt)))

  pub in_order : (p : Place90) → IsPlaceIn ps p → is_disordered ps p ≡ false
  in_order p e =
      both_false _ _ (both_false _ _ (both_false _ _ (both_false _ _
      (all_right (λ (s : Placed). is_misnamed (title_in_text ps) s.form ≡ false) p.before (p.here ∷ p.after) (subst (AreNamed (title_in_text ps)) e named)).0
      (timely_at [] p.before p.here p.after (subst (AreTimely []) e timely)))
      (end_at p.before p.here p.after (subst EndWell e end_well)))
      (close_at [] p.before p.here p.after (subst (Close []) e closes))) (closed_at p.before p.here p.after (subst AreClosed e closed))

  -- ---- the statements of its block, its declarations, and how deep its blocks stand

  pub blocks_open : (n : ℕ) → blocks_in q.body ≤ n → OpensWithin n [] ps
  blocks_open n l =
      subst (OpensWithin n []) (sym same_front) (quiet_within n [] (h.title ++ (h.implicit ++ h.declared)) (h.body ++ h.last ∷ []) front_quiet
      (within_both n [] h.body (h.last ∷ []) (block_within (function_by q.declarations) (is_target_in q.body) n h.body q.body [] h.block (omega arith))
      (quiet_within n (opened_behind [] h.body) (h.last ∷ []) [] (last_quiet, tt) tt)))

  pub declarations_are : declarations_of ps ≡ h.in_text
  declarations_are =
      ap declarations_of h.same ∙ (declared_both h.title (h.implicit ++ (h.declared ++ (h.body ++ h.last ∷ [])))
      ∙ (ap₂ (λ u v. u ++ v) (nothing_declared h.title (title_declares h.title q.name h.is_title)) (declared_both h.implicit (h.declared ++ (h.body ++ h.last ∷ []))
      ∙ ap₂ (λ u v. u ++ v) (nothing_declared h.implicit (implicit_declares h.implicit h.is_implicit)) (declared_both h.declared (h.body ++ h.last ∷ [])
      ∙ ap₂ (λ u v. u ++ v) (all_declared h.declared h.in_text h.are_declared) (nothing_declared (h.body ++ h.last ∷ []) body_declares)))
      ∙ append-nil h.in_text))

  pub body_is : filter (λ (p : Placed). is_executable90 p.form) ps ≡ h.body
  body_is =
      ap (filter is_executed) h.same ∙ (filter-append is_executed h.title _
      ∙ (ap₂ (λ u v. u ++ v) (none_executed h.title (title_executed h.title q.name h.is_title)) (filter-append is_executed h.implicit _
      ∙ ap₂ (λ u v. u ++ v) (none_executed h.implicit (implicit_executed h.implicit h.is_implicit)) (filter-append is_executed h.declared _
      ∙ ap₂ (λ u v. u ++ v) (none_executed h.declared (declared_executed h.declared h.in_text h.are_declared)) (filter-append is_executed h.body (h.last ∷ [])
      ∙ ap₂ (λ u v. u ++ v) (all_executed h.body body_executable) (none_executed (h.last ∷ []) (last_executed h.last.form q.name h.is_last, tt)))))
      ∙ append-nil h.body))
