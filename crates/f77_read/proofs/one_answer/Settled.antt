-- Characters are read as one statement or refused by one cause, and never both.
use Rattle.std.proofs.Common.{◌≡◌, ◌≤◌, ◌<◌, inl, inr, ℕ, List, refl, ap, sym, ◌∙◌, subst, arith, true, false, Bool}
use Rattle.std.specs.Prelude.{◌⊎◌, IsTrue}
use Rattle.tree.specs.Causes.{number_of_cause}
use Rattle.tree.specs.declared.refusals.Cause.TheVariants as causes
use Rattle.f77_grammar.specs.Statement77.{Statement77}
use Rattle.f77_grammar.specs.expressions.Squeezing.{Symbol77}
use Rattle.f77_grammar.specs.statements.Forms.{Form77, IsWritten77, statement_of, form_depth, has_wide_literal77}
use Rattle.f77_grammar.specs.statements.Reading.{IsFormOf77, ReadsStatement, HasNoForm77, HasWordLeftOut, IsRefusedBy}
use Rattle.f77_grammar.specs.statements.Reading.IsRefusedBy.{Syntax, OutOfProfile, WideLiteral, Deep}
use Rattle.f77_grammar.specs.statements.Recognition.{HasWord}
use Rattle.f77_expressions.specs.Reader.{capped}
use Rattle.f77_expressions.specs.Scanning.{scan, Out}
use Rattle.f77_expressions.proofs.ScanningLaws as scanning
use Rattle.f77_read.specs.one_answer.Settled.{AllAreSettled}
use Rattle.f77_read.proofs.one_answer.Symbols.{at_most}
use Rattle.f77_read.proofs.one_answer.LeftOut.{WordOf, word_of}
use Rattle.f77_read.proofs.one_answer.Statements.{IsLike, Decided, statement_in}

module _ (chars : List ℕ) where
  abbrev text : List Symbol77
  text = scan chars Out

  form_here : (f : Form77) → IsWritten77 f text → IsFormOf77 chars f
  form_here f h = record { symbols = text; squeezed = scanning.squeezed chars; written = h }

  written_here : (f : Form77) → IsFormOf77 chars f → IsWritten77 f text
  written_here f h = subst (IsWritten77 f) (sym (scanning.only h.squeezed)) h.written

  word_here : (w : ℕ) → HasWordLeftOut chars w → HasWord text w
  word_here w h = subst (λ q. HasWord q w) (sym (scanning.only h.squeezed)) h.has_word

  word_left_out : (w : ℕ) → HasWord text w → HasWordLeftOut chars w
  word_left_out w h = record { symbols = text; squeezed = scanning.squeezed chars; has_word = h }

  -- what is made of two forms of the characters is the same
  alike_by : Decided (λ f. IsWritten77 f text) → (f g : Form77) → IsFormOf77 chars f → IsFormOf77 chars g → IsLike f g
  alike_by (inl k) f g h i =
      let a = k.only f (written_here f h) in
      let b = k.only g (written_here g i) in
      (sym a.0 ∙ b.0, sym a.1 ∙ b.1, sym a.2 ∙ b.2)
  alike_by (inr never) f g h i = absurd (never f (written_here f h))

  alike : (f g : Form77) → IsFormOf77 chars f → IsFormOf77 chars g → IsLike f g
  alike f g h i = alike_by (statement_in text) f g h i

  one_word_by : WordOf text → (w v : ℕ) → HasWordLeftOut chars w → HasWordLeftOut chars v → w ≡ v
  one_word_by (inl k) w v h i = sym (k.only w (word_here w h)) ∙ k.only v (word_here v i)
  one_word_by (inr none) w v h i = absurd (none w (word_here w h))

  one_word : (w v : ℕ) → HasWordLeftOut chars w → HasWordLeftOut chars v → w ≡ v
  one_word w v h i = one_word_by (word_of text) w v h i

  -- ---- read or refused

  abbrev ReadOrRefused : Type 0
  ReadOrRefused = ((s : Statement77) × ReadsStatement chars s) ⊎ ((number : ℕ) × (word : ℕ) × IsRefusedBy chars number word)

  by_depth : (f : Form77) → IsFormOf77 chars f → has_wide_literal77 f ≡ false → (form_depth f ≤ 400) ⊎ (400 < form_depth f) → ReadOrRefused
  by_depth f h n (inl l) = inl (statement_of f, record { form = f; is_form = h; narrow = n; shallow = l; same = refl })
  by_depth f h n (inr d) = inr (_, 0, Deep f h n d)

  by_wide : (f : Form77) → IsFormOf77 chars f → (b : Bool) → has_wide_literal77 f ≡ b → ReadOrRefused
  by_wide f h true w = inr (_, 0, WideLiteral f h w)
  by_wide f h false n = by_depth f h n (at_most (form_depth f) 400)

  by_word : HasNoForm77 chars → WordOf text → ReadOrRefused
  by_word lacks (inl k) = inr (_, k.number, OutOfProfile k.number lacks (word_left_out k.number k.has))
  by_word lacks (inr none) = inr (_, 0, Syntax lacks (λ w h. none w (word_here w h)))

  by_form : Decided (λ f. IsWritten77 f text) → ReadOrRefused
  by_form (inl k) = by_wide k.form (form_here k.form k.is) (has_wide_literal77 k.form) refl
  by_form (inr never) = by_word (λ f h. never f (written_here f h)) (word_of text)

  -- ---- in one way alone

  opposite : (b : Bool) → b ≡ true → b ≡ false → ⊥
  opposite b t f = (let z : true ≡ false = sym t ∙ f in cc)

  too_deep : (n m : ℕ) → capped n ≡ capped m → n ≤ 400 → 400 < m → ⊥
  too_deep n m e l k = omega arith

  not_both : (s : Statement77) (number word : ℕ) → ReadsStatement chars s → IsRefusedBy chars number word → ⊥
  not_both s number word r (Syntax lacks words) = lacks r.form r.is_form
  not_both s number word r (OutOfProfile w lacks has) = lacks r.form r.is_form
  not_both s number word r (WideLiteral f h w) = opposite (has_wide_literal77 f) w (sym (alike r.form f r.is_form h).1 ∙ r.narrow)
  not_both s number word r (Deep f h n d) = too_deep (form_depth r.form) (form_depth f) (alike r.form f r.is_form h).2 r.shallow d

  one_statement : (s t : Statement77) → ReadsStatement chars s → ReadsStatement chars t → s ≡ t
  one_statement s t a b = a.same ∙ (alike a.form b.form a.is_form b.is_form).0 ∙ sym b.same

  wide_not_narrow : (f g : Form77) → IsFormOf77 chars f → IsFormOf77 chars g → IsTrue (has_wide_literal77 f) → has_wide_literal77 g ≡ false → ⊥
  wide_not_narrow f g h i w n = opposite (has_wide_literal77 f) w ((alike f g h i).1 ∙ n)

  one_cause : (n w m v : ℕ) → IsRefusedBy chars n w → IsRefusedBy chars m v → (n ≡ m) × (w ≡ v)
  one_cause n w m v (Syntax lacks words) (Syntax lacks' words') = (refl, refl)
  one_cause n w m v (Syntax lacks words) (OutOfProfile x lacks' has) = absurd (words x has)
  one_cause n w m v (Syntax lacks words) (WideLiteral f h k) = absurd (lacks f h)
  one_cause n w m v (Syntax lacks words) (Deep f h k d) = absurd (lacks f h)
  one_cause n w m v (OutOfProfile x lacks has) (Syntax lacks' words') = absurd (words' x has)
  one_cause n w m v (OutOfProfile x lacks has) (OutOfProfile y lacks' has') = (let e = one_word x y has has' in (ap (λ q. number_of_cause (causes.OutOfProfile q)) e, e))
  one_cause n w m v (OutOfProfile x lacks has) (WideLiteral f h k) = absurd (lacks f h)
  one_cause n w m v (OutOfProfile x lacks has) (Deep f h k d) = absurd (lacks f h)
  one_cause n w m v (WideLiteral f h k) (Syntax lacks' words') = absurd (lacks' f h)
  one_cause n w m v (WideLiteral f h k) (OutOfProfile y lacks' has') = absurd (lacks' f h)
  one_cause n w m v (WideLiteral f h k) (WideLiteral g i j) = (refl, refl)
  one_cause n w m v (WideLiteral f h k) (Deep g i j d) = absurd (wide_not_narrow f g h i k j)
  one_cause n w m v (Deep f h k d) (Syntax lacks' words') = absurd (lacks' f h)
  one_cause n w m v (Deep f h k d) (OutOfProfile y lacks' has') = absurd (lacks' f h)
  one_cause n w m v (Deep f h k d) (WideLiteral g i j) = absurd (wide_not_narrow g f i h j k)
  one_cause n w m v (Deep f h k d) (Deep g i j e) = (refl, refl)

pub all_settled : AllAreSettled
all_settled chars = record {
  either = by_form chars (statement_in (text chars));
  not_both = not_both chars;
  one_statement = one_statement chars;
  one_number = λ n w m v h i. (one_cause chars n w m v h i).0;
  one_word = λ n w m v h i. (one_cause chars n w m v h i).1;
}
