-- Options read so far, joined with those of the words that are left.
use Rattle.std.proofs.Common.{◌≡◌, ℕ, Bool, true, false, ◌&&◌, ◌||◌, cond, List, [], ◌∷◌, codes, String, string_bytes, refl, ap, sym, ◌∙◌, subst, Option, None, Some}
use Rattle.std.specs.Prelude.{is_some, if◌then◌else◌}
use Rattle.std.specs.Str.{bytes_eq}
use Rattle.std.proofs.lemmas.Bool.{cond-true, cond-false}
use Rattle.std.proofs.lemmas.Slice.Eq.{bytes_eq-Decides}
use Rattle.std.specs.declared.alloc.Global.{Global}
use Rattle.tool.specs.declared.commands.commands.Options.{Options}
use Rattle.tree.specs.declared.width.Width.{Width}
use Rattle.tree.specs.declared.width.Width.TheVariants.{Plain, Wide}
use Rattle.tool.specs.commands.Command.{no_options, is_wide, number_of_word, attached_number, and_wide, and_final, and_steps, and_option, options_of, texts}

abbrev one_of : Option ℕ → Option ℕ → Option ℕ
one_of (Some n) m = Some n
one_of None m = m

abbrev wider_of : Width → Width → Width
wider_of Plain w = w
wider_of Wide w = Wide

-- both options, where none stands in both
abbrev pub joined : Options → Option Options → Option Options
joined o None = None
joined o (Some p) =
    if ((o.final_store && p.final_store) || (is_some o.steps && is_some p.steps)) || (is_wide o.width && is_wide p.width) then None
    else Some (record { width = wider_of o.width p.width; final_store = o.final_store || p.final_store; steps = one_of o.steps p.steps })

abbrev pub joined_if : Option Options → Option Options → Option Options
joined_if None r = None
joined_if (Some o) r = joined o r

pub joined-none : (r : Option Options) → joined no_options r ≡ r
joined-none None = refl
joined-none (Some p) = refl

joined_if-None : (o : Option Options) → joined_if o None ≡ None
joined_if-None None = refl
joined_if-None (Some o) = refl

abbrev pub made : Width → Bool → Option ℕ → Options
made w f s = record { width = w; final_store = f; steps = s }

or_none : (c : Bool) (r : Option Options) → cond (c || true) None r ≡ None
or_none true r = refl
or_none false r = refl

wide_parts : (v u : Width) (f g : Bool) (s t : Option ℕ) → joined (made v f s) (and_wide (Some (made u g t))) ≡ joined_if (and_wide (Some (made v f s))) (Some (made u g t))
wide_parts Plain Plain f g s t = refl
wide_parts Plain Wide f g s t = sym (or_none ((f && g) || (is_some s && is_some t)) _)
wide_parts Wide Plain f g s t = or_none ((f && g) || (is_some s && is_some t)) _
wide_parts Wide Wide f g s t = refl

final_parts : (v u : Width) (f g : Bool) (s t : Option ℕ) → joined (made v f s) (and_final (Some (made u g t))) ≡ joined_if (and_final (Some (made v f s))) (Some (made u g t))
final_parts v u true true s t = refl
final_parts v u true false s t = refl
final_parts v u false true None t = refl
final_parts v u false true (Some n) t = refl
final_parts v u false false s t = refl

steps_parts : (n : ℕ) (v u : Width) (f g : Bool) (s t : Option ℕ)
    → joined (made v f s) (and_steps (Some n) (Some (made u g t))) ≡ joined_if (and_steps (Some n) (Some (made v f s))) (Some (made u g t))
steps_parts n v u true true (Some a) (Some b) = refl
steps_parts n v u true true (Some a) None = refl
steps_parts n v u true true None (Some b) = refl
steps_parts n v u true true None None = refl
steps_parts n v u true false (Some a) (Some b) = refl
steps_parts n v u true false (Some a) None = refl
steps_parts n v u true false None (Some b) = refl
steps_parts n v u true false None None = refl
steps_parts n v u false g (Some a) (Some b) = refl
steps_parts n v u false g (Some a) None = refl
steps_parts n v u false g None (Some b) = refl
steps_parts n v u false g None None = refl

joined-and_final : (o : Options) (r : Option Options) → joined o (and_final r) ≡ joined_if (and_final (Some o)) r
joined-and_final o None = sym (joined_if-None (and_final (Some o)))
joined-and_final o (Some p) = final_parts o.width p.width o.final_store p.final_store o.steps p.steps

joined-and_wide : (o : Options) (r : Option Options) → joined o (and_wide r) ≡ joined_if (and_wide (Some o)) r
joined-and_wide o None = sym (joined_if-None (and_wide (Some o)))
joined-and_wide o (Some p) = wide_parts o.width p.width o.final_store p.final_store o.steps p.steps

pub joined-and_steps : (n : Option ℕ) (o : Options) (r : Option Options) → joined o (and_steps n r) ≡ joined_if (and_steps n (Some o)) r
joined-and_steps None o r = refl
joined-and_steps (Some n) o None = sym (joined_if-None (and_steps (Some n) (Some o)))
joined-and_steps (Some n) o (Some p) = steps_parts n o.width p.width o.final_store p.final_store o.steps p.steps

either : (b w : Bool) (n : Option ℕ) (o : Options) (r : Option Options)
    → joined o (cond b (and_final r) (cond w (and_wide r) (and_steps n r))) ≡ joined_if (cond b (and_final (Some o)) (cond w (and_wide (Some o)) (and_steps n (Some o)))) r
either true w n o r = joined-and_final o r
either false true n o r = joined-and_wide o r
either false false n o r = joined-and_steps n o r

pub joined-and_option : (word : List ℕ) (o : Options) (r : Option Options) → joined o (and_option word r) ≡ joined_if (and_option word (Some o)) r
joined-and_option word o r = either (bytes_eq word (codes "--final")) (bytes_eq word (codes "--wide")) (attached_number word) o r

-- ---- the words that are left

pub options_of-steps : (word n : List ℕ) (words : List (List ℕ)) → bytes_eq word (codes "--steps") ≡ true
    → options_of (word ∷ n ∷ words) ≡ and_steps (number_of_word n) (options_of words)
options_of-steps word n words e = cond-true (bytes_eq word (codes "--steps")) _ _ e

pub options_of-alone : (word : List ℕ) → bytes_eq word (codes "--steps") ≡ true → options_of (word ∷ []) ≡ None
options_of-alone word e =
    let P : List ℕ → Type 0 = λ w. options_of (w ∷ []) ≡ None in
    subst P (sym ((bytes_eq-Decides word (codes "--steps")).0 e)) refl

pub options_of-option : (word : List ℕ) (words : List (List ℕ)) → bytes_eq word (codes "--steps") ≡ false
    → options_of (word ∷ words) ≡ and_option word (options_of words)
options_of-option word [] e = refl
options_of-option word (n ∷ words) e = cond-false (bytes_eq word (codes "--steps")) _ _ e

-- ---- a turn of the loop

test_of : (name : List ℕ) (word : String Global) (b : Bool) → name ≡ string_bytes word → b ≡ bytes_eq name (codes "--steps")
    → bytes_eq (string_bytes word) (codes "--steps") ≡ b
test_of name word b e test = ap (λ text. bytes_eq text (codes "--steps")) (sym e) ∙ sym test

-- the word `--steps` and its number are read
pub turn-steps : (o : Options) (rest after more : List (String Global)) (word digits : String Global) (name number : List ℕ)
    (n : ℕ) (found all : Option Options)
    → rest ≡ word ∷ after → after ≡ digits ∷ more → name ≡ string_bytes word → true ≡ bytes_eq name (codes "--steps")
    → number ≡ string_bytes digits → Some n ≡ number_of_word number → found ≡ and_steps (Some n) (Some o)
    → joined o (options_of (texts rest)) ≡ all → joined_if found (options_of (texts more)) ≡ all
turn-steps o rest after more word digits name number n found all e f named test numbered read is h =
    let left : List (String Global) → Option Options = λ words. joined o (options_of (texts words)) in
    let value : Some n ≡ number_of_word (string_bytes digits) = read ∙ ap number_of_word numbered in
    ap (λ x. joined_if x (options_of (texts more))) (is ∙ ap (λ x. and_steps x (Some o)) value)
    ∙ sym (joined-and_steps (number_of_word (string_bytes digits)) o (options_of (texts more)))
    ∙ ap (joined o) (sym (options_of-steps (string_bytes word) (string_bytes digits) (texts more) (test_of name word true named test)))
    ∙ sym (ap left e ∙ ap (λ words. left (word ∷ words)) f) ∙ h

-- another word is read
pub turn-option : (o : Options) (rest after : List (String Global)) (word : String Global) (name text : List ℕ) (found all : Option Options)
    → rest ≡ word ∷ after → name ≡ string_bytes word → false ≡ bytes_eq name (codes "--steps")
    → text ≡ string_bytes word → found ≡ and_option text (Some o)
    → joined o (options_of (texts rest)) ≡ all → joined_if found (options_of (texts after)) ≡ all
turn-option o rest after word name text found all e named test again is h =
    let left : List (String Global) → Option Options = λ words. joined o (options_of (texts words)) in
    ap (λ x. joined_if x (options_of (texts after))) (is ∙ ap (λ x. and_option x (Some o)) again)
    ∙ sym (joined-and_option (string_bytes word) o (options_of (texts after)))
    ∙ ap (joined o) (sym (options_of-option (string_bytes word) (texts after) (test_of name word false named test))) ∙ sym (ap left e) ∙ h
