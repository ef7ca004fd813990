-- Reading by steps, in the words of the definitions.
use Rattle.std.proofs.Common.{◌≡◌, List, [], ◌∷◌, ap, sym, ◌∙◌, subst, Result, Ok, Err}
use Rattle.std.specs.Prelude.{IfOk}
use Rattle.f77_grammar.specs.expressions.Words.{Word77}
use Rattle.f77_grammar.specs.statements.Items.{ItemPhrases77, AreItems77, written_items77}
use Rattle.f77_grammar.specs.declared.directions.Direction.{Direction}
use Rattle.reading.specs.declared.stops.Stop.{Stop}
use Rattle.reading.specs.declared.stops.Stop.TheVariants.{Syntax, Memory}
use Rattle.f77_words.specs.declared.lists.lists.ItemList.{ItemList}
use Rattle.f77_words.specs.lists.Reader as reader
use Rattle.f77_words.specs.lists.Reader.{Frame, State, Done, Step, none, step, start, Path, Reaches}
use Rattle.f77_words.specs.lists.Reading.{IsMadeOf, Is, Gives}
use Rattle.f77_words.specs.lists.Views.{frame_of, Runs}
use Rattle.f77_words.proofs.lists.Complete.{filled, filled_none, list_is_read}
use Rattle.f77_words.proofs.lists.Paths.{IsLast, ends_alike}
use Rattle.f77_words.proofs.lists.Sound.{list_found}

made : (l : ItemList) (is : ItemPhrases77) → frame_of l ≡ filled is none → IsMadeOf l is
made l is e =
    let k = e ∙ filled_none is in record { trees = ap (λ (f : Frame). f.items) k; depth = ap (λ (f : Frame). f.depth) k }

pub found : (d : Direction) (ws : List Word77) (r : Result ItemList Stop) → Runs r d ws → IfOk r (Is d ws)
found d ws (Ok l) h =
    let f = list_found d ws h.state (frame_of l) h.path h.ends in
    record { phrases = f.phrases; good = f.good; is = made l f.phrases f.frame_is; same = f.same }
found d ws (Err e) h = tt

-- steps end where the whole list has been read
pub end_is : (d : Direction) (ws : List Word77) (end : Step) (is : ItemPhrases77) → Reaches d ws end → IsLast end → AreItems77 d is → ws ≡ written_items77 is → end ≡ reader.Stop (filled is none)
end_is d ws end is h l g e =
    let last = Done (filled is none ∷ []) [] in
    let p : Path d (start ws) last = subst (λ (q : List Word77). Path d (start q) last) (sym e) (list_is_read d is g) in
    let same : h.state ≡ last = ends_alike d (start ws) h.state last h.path p (subst IsLast (sym h.ends) l) tt in
    sym h.ends ∙ ap (step d) same

pub only : (d : Direction) (ws : List Word77) (r : Result ItemList Stop) → Runs r d ws → (is : ItemPhrases77) → AreItems77 d is → ws ≡ written_items77 is → Gives r is
only d ws (Ok l) h is g e =
    let k : reader.Stop (frame_of l) ≡ reader.Stop (filled is none) = end_is d ws _ is h tt g e in
    let q : frame_of l ≡ filled is none = cc in
    made l is q
only d ws (Err Syntax) h is g e =
    let k : reader.Fail ≡ reader.Stop (filled is none) = end_is d ws _ is h tt g e in cc
only d ws (Err Memory) h is g e = tt

pub ruleset listing = (found, only)
