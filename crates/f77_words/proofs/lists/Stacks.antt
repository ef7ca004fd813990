-- The lists that the code holds.
use Rattle.std.proofs.Common.{◌≡◌, List, [], ◌∷◌, ◌++◌, map, ap, ◌∙◌}
use Rattle.std.specs.Prelude.{reverse}
use Rattle.std.proofs.lemmas.List.{map_push, reverse-append}
use Rattle.tree.specs.View.{item_of}
use Rattle.tree.specs.declared.stmts.Item as stmts
use Rattle.f77_words.specs.declared.lists.lists.ItemList.{ItemList}
use Rattle.f77_words.specs.lists.Reader as R
use Rattle.f77_words.specs.lists.Views.{frame_of, stack}

pub items_push : (is : List stmts.Item) (i : stmts.Item) → map item_of (is ++ i ∷ []) ≡ map item_of is ++ item_of i ∷ []
items_push is i = map_push item_of is i

pub stack_push : (lists : List ItemList) (l : ItemList) → stack (lists ++ l ∷ []) ≡ frame_of l ∷ stack lists
stack_push lists l = ap (reverse {A = R.Frame}) (map_push frame_of lists l) ∙ reverse-append (map frame_of lists) (frame_of l ∷ [])

pub ruleset lists = (items_push)

pub ruleset stacks = (stack_push)

-- one list without items
pub first_stack : (lists before : List ItemList) (l : ItemList) → lists ≡ before ++ l ∷ [] → before ≡ [] → frame_of l ≡ R.none → stack lists ≡ R.none ∷ []
first_stack lists before l e b h =
    ap stack e ∙ (stack_push before l ∙ (ap (λ (f : R.Frame). f ∷ stack before) h ∙ ap (λ (q : List ItemList). R.none ∷ stack q) b))
