-- Cards that are read, and cards that are refused.
use Rattle.std.proofs.Common.{◌≡◌, ℕ, ◌<◌, Bool, true, false, List, refl, ap, sym, ◌∙◌, subst, Result, Err, nat_lt, inl, arith}
use Rattle.std.specs.Prelude.{◌⊎◌, Some, None}
use Rattle.std.proofs.lemmas.Bool.Decides.{nat_tests}
use Rattle.tree.specs.Causes.{number_of_cause, refusal_at}
use Rattle.tree.specs.Limits.{expression_depth77}
use Rattle.tree.specs.declared.refusals.Cause.TheVariants as causes
use Rattle.tree.specs.declared.refusals.Refusal.{Refusal}
use Rattle.tree.specs.declared.refusals.Refused.{Refused}
use Rattle.f77_grammar.specs.expressions.Squeezing.{Symbol77, Squeezed}
use Rattle.f77_grammar.specs.statements.Forms.{Form77, IsWritten77, form_depth, has_wide_literal77}
use Rattle.f77_grammar.specs.statements.Reading as reading
use Rattle.f77_grammar.specs.statements.Reading.{IsFormOf77, ReadsStatement, HasNoForm77, HasWordLeftOut, IsRefusedBy}
use Rattle.f77_grammar.specs.statements.Recognition.{HasWord}
use Rattle.f77_grammar.specs.declared.syntax.statements.Stmt77.{Stmt77}
use Rattle.reading.specs.declared.stops.Stop.{Stop}
use Rattle.reading.specs.declared.stops.Stop.TheVariants.{Syntax}
use Rattle.f77_expressions.specs.Symbols.{symbols_of}
use Rattle.f77_expressions.specs.declared.symbols.Symbol.{Symbol as Symbol'}
use Rattle.f77_statement.specs.declared.formed.Formed.{Formed}
use Rattle.f77_statement.specs.Formed.{IsFound}
use Rattle.f77_statement.specs.Parts.{Given, capped, IsFormedOf}
use Rattle.f77_statement.specs.Refusing.{IsFormless, NoWord, Word, limited, limited_by}

-- ---- limits

deep : (n : ℕ) → nat_lt expression_depth77 (capped n) ≡ true → expression_depth77 < n
deep n e = grind (arith, nat_tests)

beyond : (n : ℕ) → expression_depth77 < n → nat_lt expression_depth77 (capped n) ≡ true
beyond n h = grind (arith, nat_tests)

-- that is why
abbrev pub IsWhy : List ℕ → ℕ → Refusal → Type 0
IsWhy chars line r = (r.line ≡ line) × IsRefusedBy chars r.number r.word

abbrev pub refused_with : Refusal → Result Stmt77 Refused
refused_with r = Err (Refused.Refusal r)

the_refusal : (a b : Refusal) → refused_with a ≡ refused_with b → a ≡ b
the_refusal a b e = cc

refused_by : (chars : List ℕ) (f : Form77) (s : Stmt77) (line : ℕ) (wide more : Bool) → IsFormOf77 chars f → wide ≡ has_wide_literal77 f → more ≡ nat_lt expression_depth77 (capped (form_depth f))
    → (r : Refusal) → limited_by wide more s line ≡ Err (Refused.Refusal r) → IsWhy chars line r
refused_by chars f s line true more i w d r e = subst (IsWhy chars line) (the_refusal _ r e) (refl, reading.WideLiteral f i (sym w))
refused_by chars f s line false true i w d r e = subst (IsWhy chars line) (the_refusal _ r e) (refl, reading.Deep f i (sym w) (deep (form_depth f) (sym d)))
refused_by chars f s line false false i w d r e = cc

depth_same : (made : Formed) (f : Form77) → IsFormedOf made f → nat_lt expression_depth77 made.depth ≡ nat_lt expression_depth77 (capped (form_depth f))
depth_same made f h = ap (nat_lt expression_depth77) h.depth

form_of : (chars : List ℕ) (text : List Symbol77) (f : Form77) → Squeezed chars text → IsWritten77 f text → IsFormOf77 chars f
form_of chars text f q h = record { symbols = text; squeezed = q; written = h }

pub refused_limited : (chars : List ℕ) (text : List Symbol77) (line : ℕ) (made : Formed) (r : Result Stmt77 Refused) → r ≡ limited made line → Squeezed chars text → IsFound (λ f. IsWritten77 f text) made
    → (x : Refusal) → r ≡ Err (Refused.Refusal x) → IsWhy chars line x
refused_limited chars text line made r e q h x k =
    refused_by chars h.form made.statement line made.wide (nat_lt expression_depth77 made.depth) (form_of chars text h.form q h.is) h.made_of.wide (depth_same made h.form h.made_of) x (sym e ∙ k)

-- ---- nothing else is answered

abbrev pub IsRefusedAs : ℕ → ℕ → ℕ → Result Stmt77 Refused → Type 0
IsRefusedAs line number word r = (r ≡ Err (Refused.Refusal (record { number = number; line = line; word = word }))) ⊎ (r ≡ Err Refused.Memory)

-- the symbols of the characters are these
abbrev pub IsOnly : List ℕ → List Symbol77 → Type 0
IsOnly chars text = (ss : List Symbol77) → Squeezed chars ss → text ≡ ss

written_here : (chars : List ℕ) (text : List Symbol77) (f : Form77) → IsOnly chars text → IsFormOf77 chars f → IsWritten77 f text
written_here chars text f only i = subst (IsWritten77 f) (sym (only i.symbols i.squeezed)) i.written

word_here : (chars : List ℕ) (text : List Symbol77) (w : ℕ) → IsOnly chars text → HasWordLeftOut chars w → HasWord text w
word_here chars text w only h = subst (λ (q : List Symbol77). HasWord q w) (sym (only h.symbols h.squeezed)) h.has_word

wide_as : (t : Stmt77) (line : ℕ) (wide more : Bool) → wide ≡ true → IsRefusedAs line (number_of_cause causes.WideLiteral) 0 (limited_by wide more t line)
wide_as t line true more w = inl refl
wide_as t line false more w = cc

deep_as : (t : Stmt77) (line : ℕ) (wide more : Bool) → wide ≡ false → more ≡ true → IsRefusedAs line (number_of_cause causes.Deep) 0 (limited_by wide more t line)
deep_as t line true more w d = cc
deep_as t line false true w d = inl refl
deep_as t line false false w d = cc

refused_as : (chars : List ℕ) (text : List Symbol77) (line : ℕ) (made : Formed) (number word : ℕ) → IsOnly chars text → Squeezed chars text → IsFound (λ f. IsWritten77 f text) made
    → ((f : Form77) → IsWritten77 f text → IsFormedOf made f) → IsRefusedBy chars number word → IsRefusedAs line number word (limited made line)
refused_as chars text line made number word only q h m (reading.Syntax never words) = absurd (never h.form (form_of chars text h.form q h.is))
refused_as chars text line made number word only q h m (reading.OutOfProfile w never has) = absurd (never h.form (form_of chars text h.form q h.is))
refused_as chars text line made number word only q h m (reading.WideLiteral f i w) =
    wide_as made.statement line made.wide (nat_lt expression_depth77 made.depth) ((m f (written_here chars text f only i)).wide ∙ w)
refused_as chars text line made number word only q h m (reading.Deep f i w d) =
    let k = m f (written_here chars text f only i) in
    deep_as made.statement line made.wide (nat_lt expression_depth77 made.depth) (k.wide ∙ w) (depth_same made f k ∙ beyond (form_depth f) d)

pub limited_refuses : (chars : List ℕ) (text : List Symbol77) (line : ℕ) (made : Formed) (r : Result Stmt77 Refused) → r ≡ limited made line → IsOnly chars text → Squeezed chars text → IsFound (λ f. IsWritten77 f text) made
    → ((f : Form77) → IsWritten77 f text → IsFormedOf made f) → (number word : ℕ) → IsRefusedBy chars number word → IsRefusedAs line number word r
limited_refuses chars text line made r e only q h m number word b = subst (IsRefusedAs line number word) (sym e) (refused_as chars text line made number word only q h m b)

-- ---- without a form

-- no form was found
abbrev pub IsUnread : List Symbol77 → Type 0
IsUnread text = (f : Form77) → IsWritten77 f text → ⊥

no_form : (chars : List ℕ) (text : List Symbol77) → IsOnly chars text → IsUnread text → HasNoForm77 chars
no_form chars text only never f i = never f (written_here chars text f only i)

formless_refused : (chars : List ℕ) (text : List Symbol77) (number word : ℕ) → Squeezed chars text → IsOnly chars text → IsUnread text → IsFormless text number word → IsRefusedBy chars number word
formless_refused chars text number word q only never (NoWord none) = reading.Syntax (no_form chars text only never) (λ w h. none w (word_here chars text w only h))
formless_refused chars text number word q only never (Word w h) = reading.OutOfProfile w (no_form chars text only never) (record { symbols = text; squeezed = q; has_word = h })

pub refused_formless : (chars : List ℕ) (text : List Symbol77) (line : ℕ) (x : Refusal) → Squeezed chars text → IsOnly chars text → IsUnread text → x.line ≡ line → IsFormless text x.number x.word
    → (r : Refusal) → refused_with x ≡ refused_with r → IsWhy chars line r
refused_formless chars text line x q only never l h r e = subst (IsWhy chars line) (the_refusal x r e) (l, formless_refused chars text x.number x.word q only never h)

formless_is : (chars : List ℕ) (text : List Symbol77) (number word : ℕ) → Squeezed chars text → IsOnly chars text → IsUnread text → IsRefusedBy chars number word → IsFormless text number word
formless_is chars text number word q only never (reading.Syntax n words) = NoWord (λ w h. words w (record { symbols = text; squeezed = q; has_word = h }))
formless_is chars text number word q only never (reading.OutOfProfile w n has) = Word w (word_here chars text w only has)
formless_is chars text number word q only never (reading.WideLiteral f i w) = absurd (never f (written_here chars text f only i))
formless_is chars text number word q only never (reading.Deep f i w d) = absurd (never f (written_here chars text f only i))

same_refusal : (x : Refusal) (line number word : ℕ) → x.line ≡ line → x.number ≡ number → x.word ≡ word → x ≡ record { number = number; line = line; word = word }
same_refusal x line number word l n w =
    ap (λ (q : ℕ). let y : Refusal = record { number = q; line = x.line; word = x.word } in y) n
    ∙ (ap (λ (q : ℕ). let y : Refusal = record { number = number; line = q; word = x.word } in y) l ∙ ap (λ (q : ℕ). let y : Refusal = record { number = number; line = line; word = q } in y) w)

pub formless_refuses : (chars : List ℕ) (text : List Symbol77) (line : ℕ) (x : Refusal) → Squeezed chars text → IsOnly chars text → IsUnread text → x.line ≡ line
    → ((number word : ℕ) → IsFormless text number word → (x.number ≡ number) × (x.word ≡ word)) → (number word : ℕ) → IsRefusedBy chars number word → IsRefusedAs line number word (Err (Refused.Refusal x))
formless_refuses chars text line x q only never l exact number word b =
    let k = exact number word (formless_is chars text number word q only never b) in
    inl (ap refused_with (same_refusal x line number word l k.0 k.1))

pub no_word : (text : List Symbol77) → ((w : ℕ) → HasWord text w → None ≡ Some w) → IsFormless text (number_of_cause causes.Syntax) 0
no_word text only = NoWord (λ w h. none_is_some w (only w h)) where
  none_is_some : (w : ℕ) → None ≡ Some w → ⊥
  none_is_some w e = cc

some_number : (a b : ℕ) → Some a ≡ Some b → a ≡ b
some_number a b e = cc

-- a text with a word is refused for that word alone
pub word_alone : (text : List Symbol77) (r : Refusal) (line w : ℕ) → r ≡ refusal_at (causes.OutOfProfile w) line → HasWord text w → ((v : ℕ) → HasWord text v → Some w ≡ Some v)
    → (number word : ℕ) → IsFormless text number word → (r.number ≡ number) × (r.word ≡ word)
word_alone text r line w e h only number word (NoWord none) = absurd (none w h)
word_alone text r line w e h only number word (Word v k) = (ap (λ (q : Refusal). q.number) e, ap (λ (q : Refusal). q.word) e ∙ some_number w v (only v k))

pub formless_at : (text : List Symbol77) (r q : Refusal) → r ≡ q → IsFormless text q.number q.word → IsFormless text r.number r.word
formless_at text r q e h = subst (λ (x : Refusal). IsFormless text x.number x.word) (sym e) h

-- ---- in the words of the code

pub squeezed_here : (a b : List ℕ) (xs ys : List Symbol') → a ≡ b → xs ≡ ys → Squeezed a (symbols_of ys) → Squeezed b (symbols_of xs)
squeezed_here a b xs ys e s h = subst (λ (q : List ℕ). Squeezed q (symbols_of xs)) e (subst (λ (q : List Symbol'). Squeezed a (symbols_of q)) (sym s) h)

pub only_here : (a b : List ℕ) (xs ys : List Symbol') → a ≡ b → xs ≡ ys → IsOnly a (symbols_of ys) → IsOnly b (symbols_of xs)
only_here a b xs ys e s h = subst (λ (q : List ℕ). IsOnly q (symbols_of xs)) e (subst (λ (q : List Symbol'). IsOnly a (symbols_of q)) (sym s) h)

pub unread_here : (xs ys : List Symbol') → xs ≡ ys → IsUnread (symbols_of ys) → IsUnread (symbols_of xs)
unread_here xs ys s h = subst (λ (q : List Symbol'). IsUnread (symbols_of q)) (sym s) h

pub unread_err : (text : List Symbol77) (e : Stop) → e ≡ Syntax → ((f : Form77) → IsWritten77 f text → Given (Err e) (λ (made : Formed). IsFormedOf made f)) → IsUnread text
unread_err text e s only f h = subst (λ (q : Stop). Given (Err q) (λ (made : Formed). IsFormedOf made f)) s (only f h)
