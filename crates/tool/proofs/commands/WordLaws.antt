-- Words that are the same command, and how many words a command has.
use Rattle.std.proofs.Common.{◌≡◌, ◌≤◌, ◌+◌, ℕ, zero, suc, Bool, true, false, cond, List, [], ◌∷◌, ◌++◌, length, codes, refl, ap, sym, ◌∙◌, arith, Option, None, Some}
use Rattle.std.specs.Prelude.{is_some, ◌==◌}
use Rattle.std.specs.Option.{option_map}
use Rattle.std.specs.Str.{bytes_eq}
use Rattle.std.proofs.Math.Dec.{eqb-suc-zero}
use Rattle.tool.specs.declared.commands.commands.Options.{Options}
use Rattle.tool.specs.declared.commands.commands.Command.{Command}
use Rattle.tool.specs.declared.commands.commands.Command.TheVariants.{Vectorise, Graph, Run77, Run90}
use Rattle.tool.specs.declared.commands.commands.Request.{Request}
use Rattle.tool.specs.declared.commands.commands.Request.TheVariants.{OnDeck, Make}
use Rattle.tool.specs.commands.Command.{number_of_word, attached_number, is_wide, and_wide, and_final, and_steps, and_option, options_of, width_of, command_of, few_nests, nests_asked_for, request_of}
use Rattle.tool.proofs.commands.Joined.{made, options_of-option}
use Rattle.tree.specs.declared.width.Width.{Width}
use Rattle.tree.specs.declared.width.Width.TheVariants.{Plain, Wide}

cond_both : {A : Type 0} (t : Bool) (x y v w : A) → x ≡ y → v ≡ w → cond t x v ≡ cond t y w
cond_both t x y v w e f = cc

-- words that are no number and begin the same options do so after any words
options_of-append : (a b : List ℕ) (more others : List (List ℕ)) → number_of_word a ≡ None → number_of_word b ≡ None
    → options_of (a ∷ more) ≡ options_of (b ∷ others)
    → (front : List (List ℕ)) → options_of (front ++ (a ∷ more)) ≡ options_of (front ++ (b ∷ others))
options_of-append a b more others x y e [] = e
options_of-append a b more others x y e (w ∷ []) =
    cond_both (bytes_eq w (codes "--steps")) _ _ _ _
    (ap (λ n. and_steps n (options_of more)) x ∙ sym (ap (λ n. and_steps n (options_of others)) y)) (ap (and_option w) e)
options_of-append a b more others x y e (w ∷ n ∷ front) =
    cond_both (bytes_eq w (codes "--steps")) _ _ _ _
    (ap (and_steps (number_of_word n)) (options_of-append a b more others x y e front))
    (ap (and_option w) (options_of-append a b more others x y e (n ∷ front)))

some_more : (front more : List (List ℕ)) (a : List ℕ) → (length (front ++ (a ∷ more)) == 0) ≡ false
some_more [] more a = eqb-suc-zero (length more)
some_more (w ∷ front) more a = eqb-suc-zero (length (front ++ (a ∷ more)))

-- `--wide` is the one word that may stand behind `vectorise` and `graph`, and it stands there alone
width_of-append : (a b : List ℕ) (more others : List (List ℕ)) → width_of (a ∷ more) ≡ width_of (b ∷ others)
    → (front : List (List ℕ)) → width_of (front ++ (a ∷ more)) ≡ width_of (front ++ (b ∷ others))
width_of-append a b more others g [] = g
width_of-append a b more others g (w ∷ front) =
    ap (λ t. cond t (cond (bytes_eq w (codes "--wide")) (Some Wide) None) None) (some_more front more a ∙ sym (some_more front others b))

two_words : (a b : List ℕ) (words : List (List ℕ)) → width_of (a ∷ b ∷ words) ≡ None
two_words a b words = ap (λ t. cond t (cond (bytes_eq a (codes "--wide")) (Some Wide) None) None) (eqb-suc-zero (length words))

no_width : (t : Bool) → ◌≡◌ {A = Option Width} (cond t None None) None
no_width true = refl
no_width false = refl

command_of-append : (a b : List ℕ) (more others : List (List ℕ)) → number_of_word a ≡ None → number_of_word b ≡ None
    → options_of (a ∷ more) ≡ options_of (b ∷ others) → width_of (a ∷ more) ≡ width_of (b ∷ others) → command_of (a ∷ more) ≡ command_of (b ∷ others)
    → (front : List (List ℕ)) → command_of (front ++ (a ∷ more)) ≡ command_of (front ++ (b ∷ others))
command_of-append a b more others x y e g f [] = f
command_of-append a b more others x y e g f (w ∷ front) =
    cond_both (bytes_eq w (codes "vectorise")) _ _ _ _
    (ap (option_map Vectorise) (width_of-append a b more others g front))
    (cond_both (bytes_eq w (codes "graph")) _ _ _ _
    (ap (option_map Graph) (width_of-append a b more others g front))
    (ap (λ o. cond (bytes_eq w (codes "run77")) (option_map Run77 o)
    (cond (bytes_eq w (codes "run90")) (option_map Run90 o) None)) (options_of-append a b more others x y e front)))

-- words that are no number don't stand behind `make`
nests_asked_for-append : (a b : List ℕ) (more others : List (List ℕ)) → number_of_word a ≡ None → number_of_word b ≡ None
    → (front : List (List ℕ)) → nests_asked_for (front ++ (a ∷ more)) ≡ nests_asked_for (front ++ (b ∷ others))
nests_asked_for-append a b more others x y [] = none (length more == 0) a x ∙ sym (none (length others == 0) b y)
  where
    none : (t : Bool) (word : List ℕ) → number_of_word word ≡ None → cond t (few_nests (number_of_word word)) None ≡ None
    none true word z = ap few_nests z
    none false word z = refl
nests_asked_for-append a b more others x y (w ∷ front) =
    ap (λ t. cond t (few_nests (number_of_word w)) None) (some_more front more a ∙ sym (some_more front others b))

request_of-append : (a b : List ℕ) (more others : List (List ℕ)) → number_of_word a ≡ None → number_of_word b ≡ None
    → options_of (a ∷ more) ≡ options_of (b ∷ others) → width_of (a ∷ more) ≡ width_of (b ∷ others) → command_of (a ∷ more) ≡ command_of (b ∷ others)
    → bytes_eq a (codes "make") ≡ false → bytes_eq b (codes "make") ≡ false
    → (front : List (List ℕ)) → request_of (front ++ (a ∷ more)) ≡ request_of (front ++ (b ∷ others))
request_of-append a b more others x y e g f k l [] =
    ap (λ t. cond t (option_map Make (nests_asked_for more)) (option_map OnDeck (command_of (a ∷ more)))) k
    ∙ (ap (option_map OnDeck) f
    ∙ sym (ap (λ t. cond t (option_map Make (nests_asked_for others)) (option_map OnDeck (command_of (b ∷ others)))) l))
request_of-append a b more others x y e g f k l (w ∷ front) =
    cond_both (bytes_eq w (codes "make")) _ _ _ _
    (ap (option_map Make) (nests_asked_for-append a b more others x y front))
    (ap (option_map OnDeck) (command_of-append a b more others x y e g f (w ∷ front)))

pub request_of-attached : (front words : List (List ℕ)) (number : List ℕ)
    → request_of (front ++ ((codes "--steps=" ++ number) ∷ words)) ≡ request_of (front ++ (codes "--steps" ∷ number ∷ words))
request_of-attached front words number =
    request_of-append (codes "--steps=" ++ number) (codes "--steps") words (number ∷ words) refl refl
    (options_of-option (codes "--steps=" ++ number) words refl)
    (no_width (length words == 0) ∙ sym (two_words (codes "--steps") number words)) refl refl refl front

final_and_steps : (n : Option ℕ) (r : Option Options) → and_final (and_steps n r) ≡ and_steps n (and_final r)
final_and_steps None r = refl
final_and_steps (Some n) None = refl
final_and_steps (Some n) (Some o) = parts n o.width o.final_store o.steps
  where
    parts : (n : ℕ) (w : Width) (f : Bool) (s : Option ℕ) → and_final (and_steps (Some n) (Some (made w f s))) ≡ and_steps (Some n) (and_final (Some (made w f s)))
    parts n w true None = refl
    parts n w true (Some m) = refl
    parts n w false None = refl
    parts n w false (Some m) = refl

wide_and_steps : (n : Option ℕ) (r : Option Options) → and_wide (and_steps n r) ≡ and_steps n (and_wide r)
wide_and_steps None r = refl
wide_and_steps (Some n) None = refl
wide_and_steps (Some n) (Some o) = parts n o.width o.final_store o.steps
  where
    parts : (n : ℕ) (w : Width) (f : Bool) (s : Option ℕ) → and_wide (and_steps (Some n) (Some (made w f s))) ≡ and_steps (Some n) (and_wide (Some (made w f s)))
    parts n Plain f None = refl
    parts n Plain f (Some m) = refl
    parts n Wide f None = refl
    parts n Wide f (Some m) = refl

wide_and_final : (r : Option Options) → and_wide (and_final r) ≡ and_final (and_wide r)
wide_and_final None = refl
wide_and_final (Some o) = parts o.width o.final_store o.steps
  where
    parts : (w : Width) (f : Bool) (s : Option ℕ) → and_wide (and_final (Some (made w f s))) ≡ and_final (and_wide (Some (made w f s)))
    parts Plain true s = refl
    parts Plain false s = refl
    parts Wide true s = refl
    parts Wide false s = refl

pub request_of-order : (front words : List (List ℕ)) (number : List ℕ)
    → request_of (front ++ (codes "--final" ∷ codes "--steps" ∷ number ∷ words))
    ≡ request_of (front ++ (codes "--steps" ∷ number ∷ codes "--final" ∷ words))
request_of-order front words number =
    request_of-append (codes "--final") (codes "--steps") (codes "--steps" ∷ number ∷ words) (number ∷ codes "--final" ∷ words) refl refl
    (final_and_steps (number_of_word number) (options_of words)
    ∙ ap (and_steps (number_of_word number)) (sym (options_of-option (codes "--final") words refl)))
    (two_words (codes "--final") (codes "--steps") (number ∷ words) ∙ sym (two_words (codes "--steps") number (codes "--final" ∷ words))) refl refl refl front

pub request_of-wide_steps : (front words : List (List ℕ)) (number : List ℕ)
    → request_of (front ++ (codes "--wide" ∷ codes "--steps" ∷ number ∷ words))
    ≡ request_of (front ++ (codes "--steps" ∷ number ∷ codes "--wide" ∷ words))
request_of-wide_steps front words number =
    request_of-append (codes "--wide") (codes "--steps") (codes "--steps" ∷ number ∷ words) (number ∷ codes "--wide" ∷ words) refl refl
    (wide_and_steps (number_of_word number) (options_of words)
    ∙ ap (and_steps (number_of_word number)) (sym (options_of-option (codes "--wide") words refl)))
    (two_words (codes "--wide") (codes "--steps") (number ∷ words) ∙ sym (two_words (codes "--steps") number (codes "--wide" ∷ words))) refl refl refl front

pub request_of-wide_final : (front words : List (List ℕ))
    → request_of (front ++ (codes "--wide" ∷ codes "--final" ∷ words))
    ≡ request_of (front ++ (codes "--final" ∷ codes "--wide" ∷ words))
request_of-wide_final front words =
    request_of-append (codes "--wide") (codes "--final") (codes "--final" ∷ words) (codes "--wide" ∷ words) refl refl
    (ap and_wide (options_of-option (codes "--final") words refl)
    ∙ wide_and_final (options_of words)
    ∙ ap and_final (sym (options_of-option (codes "--wide") words refl)))
    (two_words (codes "--wide") (codes "--final") words ∙ sym (two_words (codes "--final") (codes "--wide") words)) refl refl refl front

-- ---- how many words a command has

-- the words that options take
words_of : Options → ℕ
words_of o = cond (is_wide o.width) 1 0 + (cond o.final_store 1 0 + cond (is_some o.steps) 2 0)

abbrev TakeAtLeast : ℕ → Option Options → Type 0
TakeAtLeast k None = Unit {0}
TakeAtLeast k (Some o) = k ≤ words_of o

with_wide : (k : ℕ) (w : Width) (f : Bool) (s : Option ℕ) → k ≤ words_of (made w f s) → TakeAtLeast (k + 1) (and_wide (Some (made w f s)))
unfolding words_of
with_wide k Wide f s h = tt
with_wide k Plain f s h = omega arith

with_final : (k : ℕ) (w : Width) (f : Bool) (s : Option ℕ) → k ≤ words_of (made w f s) → TakeAtLeast (k + 1) (and_final (Some (made w f s)))
unfolding words_of
with_final k w true s h = tt
with_final k w false s h = omega arith

with_steps : (k n : ℕ) (w : Width) (f : Bool) (s : Option ℕ) → k ≤ words_of (made w f s) → TakeAtLeast (k + 2) (and_steps (Some n) (Some (made w f s)))
unfolding words_of
with_steps k n w f (Some m) h = tt
with_steps k n w f None h = omega arith

take_wide : (k : ℕ) (r : Option Options) → TakeAtLeast k r → TakeAtLeast (k + 1) (and_wide r)
take_wide k None h = tt
take_wide k (Some o) h = with_wide k o.width o.final_store o.steps h

take_final : (k : ℕ) (r : Option Options) → TakeAtLeast k r → TakeAtLeast (k + 1) (and_final r)
take_final k None h = tt
take_final k (Some o) h = with_final k o.width o.final_store o.steps h

take_steps : (k : ℕ) (n : Option ℕ) (r : Option Options) → TakeAtLeast k r → TakeAtLeast (k + 2) (and_steps n r)
take_steps k None r h = tt
take_steps k (Some n) None h = tt
take_steps k (Some n) (Some o) h = with_steps k n o.width o.final_store o.steps h

take_less : (k j : ℕ) (r : Option Options) → j ≤ k → TakeAtLeast k r → TakeAtLeast j r
take_less k j None l h = tt
take_less k j (Some o) l h = omega arith

take_either : (t u : Bool) (k : ℕ) (n : Option ℕ) (r : Option Options) → TakeAtLeast k r → TakeAtLeast (k + 1) (cond t (and_final r) (cond u (and_wide r) (and_steps n r)))
take_either true u k n r h = take_final k r h
take_either false true k n r h = take_wide k r h
take_either false false k n r h = take_less (k + 2) (k + 1) (and_steps n r) (omega arith) (take_steps k n r h)

take_option : (word : List ℕ) (k : ℕ) (r : Option Options) → TakeAtLeast k r → TakeAtLeast (k + 1) (and_option word r)
take_option word k r h = take_either (bytes_eq word (codes "--final")) (bytes_eq word (codes "--wide")) k (attached_number word) r h

either_take : (t : Bool) (j k : ℕ) (r s : Option Options) → j ≤ k → TakeAtLeast k r → TakeAtLeast k s → TakeAtLeast j (cond t r s)
either_take true j k r s l h i = take_less k j r l h
either_take false j k r s l h i = take_less k j s l i

take_all : (words : List (List ℕ)) → TakeAtLeast (length words) (options_of words)
take_all [] = omega arith
take_all (w ∷ []) = take_less 1 (length (w ∷ [])) (and_option w (options_of [])) (omega arith) (take_option w 0 (options_of []) (omega arith))
take_all (w ∷ n ∷ words) =
    either_take (bytes_eq w (codes "--steps")) (length (w ∷ n ∷ words)) (length words + 2)
    (and_steps (number_of_word n) (options_of words)) (and_option w (options_of (n ∷ words)))
    (omega arith) (take_steps (length words) (number_of_word n) (options_of words) (take_all words))
    (take_less (length (n ∷ words) + 1) (length words + 2) (and_option w (options_of (n ∷ words))) (omega arith)
    (take_option w (length (n ∷ words)) (options_of (n ∷ words)) (take_all (n ∷ words))))

few_words : (o : Options) → words_of o ≤ 4
unfolding words_of
few_words o = parts (is_wide o.width) o.final_store (is_some o.steps)
  where
    parts : (w f s : Bool) → cond w 1 0 + (cond f 1 0 + cond s 2 0) ≤ 4
    parts true true true = omega arith
    parts true true false = omega arith
    parts true false true = omega arith
    parts true false false = omega arith
    parts false true true = omega arith
    parts false true false = omega arith
    parts false false true = omega arith
    parts false false false = omega arith

few_options : (run : Options → Command) (k : ℕ) (r : Option Options) (c : Command) → TakeAtLeast k r
    → option_map run r ≡ Some c → k ≤ 4
few_options run k None c h e = absurd (cc)
few_options run k (Some o) c h e = omega (arith, few_words o)

-- at most one word stands behind a command that runs nothing
one_follows : (of_width : Width → Command) (words : List (List ℕ)) (c : Command) → option_map of_width (width_of words) ≡ Some c → length words ≤ 4
one_follows of_width [] c e = omega arith
one_follows of_width (w ∷ words) c e = by (length words) (cond (bytes_eq w (codes "--wide")) (Some Wide) None) e
  where
    by : (k : ℕ) (o : Option Width) → option_map of_width (cond (k == 0) o None) ≡ Some c → suc k ≤ 4
    by zero o e = omega arith
    by (suc k) o e =
        let none : ◌≡◌ {A = Option Command} None (Some c) = ap (λ (t : Bool). option_map of_width (cond t o None)) (sym (eqb-suc-zero k)) ∙ e in
        absurd (cc)

command-length : (a g b d : Bool) (words : List (List ℕ)) (r : Option Options) (c : Command) → TakeAtLeast (length words) r
    → cond a (option_map Vectorise (width_of words)) (cond g (option_map Graph (width_of words))
    (cond b (option_map Run77 r) (cond d (option_map Run90 r) None))) ≡ Some c → length words ≤ 4
command-length true g b d words r c h e = one_follows Vectorise words c e
command-length false true b d words r c h e = one_follows Graph words c e
command-length false false true d words r c h e = few_options Run77 (length words) r c h e
command-length false false false true words r c h e = few_options Run90 (length words) r c h e
command-length false false false false words r c h e = absurd (cc)

length-command : (words : List (List ℕ)) (c : Command) → command_of words ≡ Some c → length words ≤ 5
length-command [] c e = omega arith
length-command (w ∷ words) c e =
    let vectorises = bytes_eq w (codes "vectorise") in
    let lists = bytes_eq w (codes "graph") in
    let runs = bytes_eq w (codes "run77") in
    let runs_later = bytes_eq w (codes "run90") in
    let k : length words ≤ 4 =
    command-length vectorises lists runs runs_later words (options_of words) c (take_all words) e in
    omega arith

-- `make` has one word behind it
length-numbers : (words : List (List ℕ)) (r : Request) → option_map Make (nests_asked_for words) ≡ Some r → length words ≤ 3
length-numbers [] r e = omega arith
length-numbers (word ∷ words) r e = by (length words) (few_nests (number_of_word word)) e
  where
    by : (k : ℕ) (n : Option ℕ) → option_map Make (cond (k == 0) n None) ≡ Some r → suc k ≤ 3
    by zero n e = omega arith
    by (suc k) n e =
        let none : ◌≡◌ {A = Option Request} None (Some r) = ap (λ (t : Bool). option_map Make (cond t n None)) (sym (eqb-suc-zero k)) ∙ e in
        absurd (cc)

on_deck : (o : Option Command) (r : Request) → option_map OnDeck o ≡ Some r → (c : Command) × (o ≡ Some c)
on_deck None r e = absurd (cc)
on_deck (Some c) r e = (c, refl)

pub length-request : (words : List (List ℕ)) (r : Request) → request_of words ≡ Some r → length words ≤ 5
length-request [] r e = omega arith
length-request (w ∷ words) r e = by (bytes_eq w (codes "make")) e
  where
    by : (t : Bool) → cond t (option_map Make (nests_asked_for words)) (option_map OnDeck (command_of (w ∷ words))) ≡ Some r → length (w ∷ words) ≤ 5
    by true e = let k = length-numbers words r e in omega arith
    by false e = let d = on_deck (command_of (w ∷ words)) r e in length-command (w ∷ words) d.0 d.1
