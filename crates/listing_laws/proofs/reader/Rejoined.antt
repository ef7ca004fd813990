-- The lines of a text are one text again.
use Rattle.std.proofs.Common.{◌≡◌, ℕ, zero, suc, ◌==◌, true, false, ◌&&◌, if◌then◌else◌, Some, List, [], ◌∷◌, ◌++◌, map, take, drop, codes, refl, sym, ap, ◌∙◌, append_assoc}
use Rattle.std.proofs.lemmas.List.{append-nil, take-append-drop}
use Rattle.std.specs.List.{AllByRecursion}
use Rattle.listing.specs.graphs.Lines.{Entry, NestEntry, LoopEntry, StatementEntry, EdgeEntry, DropEntry, HoldEntry, CycleEntry, KeepEntry, entry_text}
use Rattle.listing.specs.graphs.Listing.{line_pieces, lines_from, lines_of_entry, lines_of_entries}
use Rattle.listing_laws.specs.reader.Laws.{ListingIsRead}
use Rattle.listing_laws.specs.reader.Listable.{IsListable}
use Rattle.listing_laws.specs.reader.Reader.{more_of, texts_of, read_entry}
use Rattle.listing_laws.proofs.reader.Entries.{entry-is-read}

more-further : (n : ℕ) (t : List ℕ) (rest : List (List ℕ)) → more_of (line_pieces (codes "!G + ") n t ++ rest) ≡ t ++ more_of rest
more-further zero t rest = refl
more-further (suc n) t rest =
    ap (λ u. take 120 t ++ u) (more-further n (drop 120 t) rest) ∙ sym (append_assoc (take 120 t) (drop 120 t) (more_of rest))
    ∙ ap (λ u. u ++ more_of rest) (take-append-drop 120 t)

texts-further : (n : ℕ) (t : List ℕ) (rest : List (List ℕ)) → texts_of (line_pieces (codes "!G + ") n t ++ rest) ≡ texts_of rest
texts-further zero t rest = refl
texts-further (suc n) t rest = texts-further n (drop 120 t) rest

-- a text that begins with another sign
first-text : (c : ℕ) (u : List ℕ) (n : ℕ) (rest : List (List ℕ)) → (c == 43) ≡ false → more_of rest ≡ []
    → texts_of (line_pieces (codes "!G ") n (c ∷ u) ++ rest) ≡ (c ∷ u) ∷ texts_of rest
first-text c u zero rest h k =
    ap (λ b. if (b && true) then texts_of rest else ((c ∷ u) ++ more_of rest) ∷ texts_of rest) h
    ∙ ap (λ m. ((c ∷ u) ++ m) ∷ texts_of rest) k ∙ ap (λ t. t ∷ texts_of rest) (append-nil (c ∷ u))
first-text c u (suc n) rest h k =
    let others = line_pieces (codes "!G + ") n (drop 120 (c ∷ u)) ++ rest in
    ap (λ b. if (b && true) then texts_of others else (take 120 (c ∷ u) ++ more_of others) ∷ texts_of others) h
    ∙ ap (λ m. (take 120 (c ∷ u) ++ m) ∷ texts_of others) (more-further n (drop 120 (c ∷ u)) rest ∙ ap (λ m. drop 120 (c ∷ u) ++ m) k)
    ∙ ap (λ m. (take 120 (c ∷ u) ++ m) ∷ texts_of others) (append-nil (drop 120 (c ∷ u)))
    ∙ ap (λ t. t ∷ texts_of others) (take-append-drop 120 (c ∷ u))
    ∙ ap (λ ts. (c ∷ u) ∷ ts) (texts-further n (drop 120 (c ∷ u)) rest)

first-adds-nothing : (c : ℕ) (u : List ℕ) (n : ℕ) (rest : List (List ℕ)) → (c == 43) ≡ false
    → more_of (line_pieces (codes "!G ") n (c ∷ u) ++ rest) ≡ []
first-adds-nothing c u zero rest h = ap (λ b. if (b && true) then drop 2 (c ∷ u) ++ more_of rest else []) h
first-adds-nothing c u (suc n) rest h =
    ap (λ b. if (b && true) then drop 2 (take 120 (c ∷ u)) ++ more_of (line_pieces (codes "!G + ") n (drop 120 (c ∷ u)) ++ rest) else []) h

-- ---- entries begin with a letter

entry-text : (e : Entry) (rest : List (List ℕ)) → more_of rest ≡ [] → texts_of (lines_of_entry e ++ rest) ≡ entry_text e ∷ texts_of rest
unfolding entry_text lines_from
entry-text (NestEntry n line) rest k = first-text 78 _ _ rest refl k
entry-text (LoopEntry n x trip outer) rest k = first-text 76 _ _ rest refl k
entry-text (StatementEntry s loops text) rest k = first-text 83 _ _ rest refl k
entry-text (EdgeEntry d level test pair) rest k = first-text 69 _ _ rest refl k
entry-text (DropEntry d test) rest k = first-text 68 _ _ rest refl k
entry-text (HoldEntry h) rest k = first-text 72 _ _ rest refl k
entry-text (CycleEntry level ss) rest k = first-text 67 _ _ rest refl k
entry-text (KeepEntry line reason) rest k = first-text 75 _ _ rest refl k

entry-adds-nothing : (e : Entry) (rest : List (List ℕ)) → more_of (lines_of_entry e ++ rest) ≡ []
unfolding entry_text lines_from
entry-adds-nothing (NestEntry n line) rest = first-adds-nothing 78 _ _ rest refl
entry-adds-nothing (LoopEntry n x trip outer) rest = first-adds-nothing 76 _ _ rest refl
entry-adds-nothing (StatementEntry s loops text) rest = first-adds-nothing 83 _ _ rest refl
entry-adds-nothing (EdgeEntry d level test pair) rest = first-adds-nothing 69 _ _ rest refl
entry-adds-nothing (DropEntry d test) rest = first-adds-nothing 68 _ _ rest refl
entry-adds-nothing (HoldEntry h) rest = first-adds-nothing 72 _ _ rest refl
entry-adds-nothing (CycleEntry level ss) rest = first-adds-nothing 67 _ _ rest refl
entry-adds-nothing (KeepEntry line reason) rest = first-adds-nothing 75 _ _ rest refl

adds-nothing : (es : List Entry) → more_of (lines_of_entries es) ≡ []
adds-nothing [] = refl
adds-nothing (e ∷ es) = entry-adds-nothing e (lines_of_entries es)

texts-are : (es : List Entry) → texts_of (lines_of_entries es) ≡ map entry_text es
texts-are [] = refl
texts-are (e ∷ es) = entry-text e (lines_of_entries es) (adds-nothing es) ∙ ap (λ ts. entry_text e ∷ ts) (texts-are es)

each-read : (es : List Entry) → AllByRecursion IsListable es → map read_entry (map entry_text es) ≡ map Some es
each-read [] hs = refl
each-read (e ∷ es) hs = ap (λ o. o ∷ map read_entry (map entry_text es)) (entry-is-read e hs.0) ∙ ap (λ os. Some e ∷ os) (each-read es hs.1)

pub listing-is-read : ListingIsRead
listing-is-read es hs = ap (map read_entry) (texts-are es) ∙ each-read es hs
