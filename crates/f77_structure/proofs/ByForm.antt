-- What is asked of a statement, asked of its form.
use Rattle.std.proofs.Common.{◌≡◌, List, [], ◌∷◌, None, refl}
use Rattle.f77_grammar.specs.Statement77 as S
use Rattle.f77_grammar.specs.Statement77.{Labelled}
use Rattle.f77_grammar.specs.program.Text.{Place77}
use Rattle.f77_grammar.specs.program.Labels.{label_named}
use Rattle.f77_grammar.specs.program.Order.{is_executable77, follows_title, is_late77, is_nothing77, stands_after_more, stands_after_executable, is_ended_wrongly}
use Rattle.f77_structure.specs.Forms.{form_of, label_in, is_executable_form, follows_title_form, is_late_form, is_wrong_end_form}

pub label_named-form : (s : S.Statement77) → label_named s ≡ label_in (form_of s)
label_named-form (S.Go n) = refl
label_named-form s = refl

pub is_executable77-form : (s : S.Statement77) → is_executable77 s ≡ is_executable_form (form_of s)
is_executable77-form S.End = refl
is_executable77-form s = refl

pub follows_title-form : (s : S.Statement77) → follows_title s ≡ follows_title_form (form_of s)
follows_title-form S.End = refl
follows_title-form s = refl

pub is_late77-form : (s : S.Statement77) (p : Place77) → is_late77 s p ≡ is_late_form (form_of s) (is_nothing77 p.before) (stands_after_more p) (stands_after_executable p)
is_late77-form S.End p = refl
is_late77-form s p = refl

wrong_end-form : (s : S.Statement77) (after : List Labelled) → is_ended_wrongly (record { before = []; here = record { label = None; line = 0; statement = s }; after = after }) ≡ is_wrong_end_form (form_of s) (is_nothing77 after)
wrong_end-form S.End [] = refl
wrong_end-form S.End (x ∷ xs) = refl
wrong_end-form s [] = refl
wrong_end-form s (x ∷ xs) = refl

pub is_ended_wrongly-form : (p : Place77) → is_ended_wrongly p ≡ is_wrong_end_form (form_of p.here.statement) (is_nothing77 p.after)
is_ended_wrongly-form p = wrong_end-form p.here.statement p.after
