-- The lines of statements, one more at a time.
use Rattle.std.proofs.Common.{◌≡◌, ℕ, suc, ◌+◌, ◌<◌, List, [], ◌∷◌, ◌++◌, map, take, length, get_or, sym, ap, ◌∙◌, append_assoc, arith}
use Rattle.std.proofs.lemmas.List.{append-nil, length-map, length-take-le, map-append}
use Rattle.nest.specs.Bodies as plain
use Rattle.nest.specs.declared.statement_loops.standings.Standing.{Standing}
use Rattle.nest.specs.statement_loops.Standings.{standing_of}
use Rattle.listing.specs.graphs.Lines.{entry_text}
use Rattle.listing.specs.graphs.Listing.{lines_of_entries, listing_lines_of, statement_entries, statement_entry}
use Rattle.listing.proofs.graphs.LoopLines.{entries-append, one_more}

entries-last : (n : ℕ) (ts : List plain.Standing) (t : plain.Standing)
    → statement_entries n (ts ++ t ∷ []) ≡ statement_entries n ts ++ statement_entry (length ts + n) t ∷ []
entries-last n [] t = let e : n ≡ length {A = plain.Standing} [] + n = omega arith in ap (λ m. statement_entry m t ∷ []) e
entries-last n (u ∷ ts) t =
    let e : length ts + suc n ≡ suc (length ts) + n = omega arith in
    ap (λ es. statement_entry n u ∷ es) (entries-last (suc n) ts t)
    ∙ ap (λ m. statement_entry n u ∷ (statement_entries (suc n) ts ++ statement_entry m t ∷ [])) e

abbrev lines_to : List Standing → ℕ → List (List ℕ)
lines_to list i = lines_of_entries (statement_entries 1 (map standing_of (take i list)))

pub statements-more : (list : List Standing) (i : ℕ) (x : Standing) (text items : List ℕ) (first old new : List (List ℕ))
    → i < length list → x ≡ get_or list i x → text ≡ items → items ≡ entry_text (statement_entry (i + 1) (standing_of x))
    → old ≡ first ++ lines_to list i → new ≡ old ++ listing_lines_of text → new ≡ first ++ lines_to list (i + 1)
statements-more list i x text items first old new h is v w so a =
    let size : length (map standing_of (take i list)) ≡ i = length-map (take i list) standing_of ∙ length-take-le i list (omega arith) in
    let number : length (map standing_of (take i list)) + 1 ≡ i + 1 = ap (λ n. n + 1) size in
    let entries : statement_entries 1 (map standing_of (take (i + 1) list))
    ≡ statement_entries 1 (map standing_of (take i list)) ++ statement_entry (i + 1) (standing_of x) ∷ [] =
    ap (λ us. statement_entries 1 (map standing_of us)) (one_more list i x h is)
    ∙ ap (statement_entries 1) (map-append standing_of (take i list) (x ∷ []))
    ∙ entries-last 1 (map standing_of (take i list)) (standing_of x)
    ∙ ap (λ n. statement_entries 1 (map standing_of (take i list)) ++ statement_entry n (standing_of x) ∷ []) number in
    a ∙ ap (λ u. old ++ listing_lines_of u) (v ∙ w) ∙ ap (λ us. us ++ listing_lines_of (entry_text (statement_entry (i + 1) (standing_of x)))) so
    ∙ append_assoc first (lines_to list i) (listing_lines_of (entry_text (statement_entry (i + 1) (standing_of x))))
    ∙ ap (λ us. first ++ (lines_to list i ++ us)) (sym (append-nil (listing_lines_of (entry_text (statement_entry (i + 1) (standing_of x))))))
    ∙ ap (λ us. first ++ us) (sym (entries-append (statement_entries 1 (map standing_of (take i list))) (statement_entry (i + 1) (standing_of x) ∷ [])))
    ∙ ap (λ es. first ++ lines_of_entries es) (sym entries)
