-- Statements that may stand in a logical IF.
use Rattle.std.proofs.Common.{arith, ◌≡◌, ℕ, List, [], ◌∷◌, refl, subst, Some, None, Err, codes}
use Rattle.std.specs.Prelude.{IsTrue}
use Rattle.f90_grammar.specs.Forms as forms
use Rattle.f90_grammar.specs.Forms.{Form90, IsWritten90, Either, IsTransfer, IsEmptyTransfer, IsLabel90, IsInner90}
use Rattle.f90_grammar.specs.Items.{ItemPhrases90, Input, Output, AreItems90, written_items90}
use Rattle.f90_grammar.specs.Words as words
use Rattle.f90_grammar.specs.Words.{Word90}
use Rattle.reading.specs.declared.stops.Stop.{Stop}
use Rattle.reading.specs.declared.stops.Stop.TheVariants.{Syntax, Memory}
use Rattle.f90_expressions.specs.declared.nodes.Expression.{Expression}
use Rattle.f90_statement.specs.items.Reading as listing
use Rattle.f90_statement.specs.declared.items.nodes.ItemList.{ItemList}
use Rattle.f90_statement.specs.Fronts.{IsTheLabel}
use Rattle.f90_statement.specs.Kinds.{is_assignment, is_go, is_read, is_print, is_bare_action, is_action}
use Rattle.f90_statement.specs.Reading.{IsForm, ReadsAction, HasSides, ReadsSides}
use Rattle.f90_statement.specs.Views.{IsActionOf}
use Rattle.f90_statement.specs.declared.nodes.Action.TheVariants as actions
use Rattle.f90_statement.proofs.FrontLaws.{one_rest, one_list}

-- ---- assignments

pub assigned : (ws : List Word90) (l r : Expression) → HasSides ws (l, r) → IsForm IsActionOf is_assignment ws (actions.Assign l r)
assigned ws l r h = record {
  form = forms.Assign h.left h.right;
  is_of = (h.is_left, h.is_right);
  written = (h.are.same, h.are.reference, h.are.left, h.are.right);
  among = refl;
}

no_sides : (ws : List Word90) → ReadsSides ws (Err Syntax) → (f : Form90) → IsWritten90 f ws → IsTrue (is_assignment f) → ⊥
no_sides ws o (forms.Assign l r) w t = o l r (record { same = w.0; reference = w.1; left = w.2; right = w.3 })
no_sides ws o f w t = cc

pub unassigned : (ws : List Word90) (stop : Stop) → ReadsSides ws (Err stop) → ReadsAction is_assignment ws (Err stop)
unassigned ws Syntax o = no_sides ws o
unassigned ws Memory o = tt

pub ruleset assignments = (assigned, unassigned)

-- ---- GO TO

abbrev Jump : List Word90 → List Word90 → Type 0
Jump us ws = Either (codes "GO") (codes "TO") us ws

pub jumped : (ws us : List Word90) (n : ℕ) → Jump us ws → IsTheLabel n us → IsForm IsActionOf is_go ws (actions.Go n)
jumped ws us n e h = record {
  form = forms.Go h.label;
  is_of = h.value;
  written = (subst (λ (q : List Word90). Jump q ws) h.same e, h.few);
  among = refl;
}

pub no_jump_label : (ws us : List Word90) → Jump us ws → ((label : List ℕ) → IsLabel90 label → us ≡ words.Digits label ∷ [] → ⊥)
    → (f : Form90) → IsWritten90 f ws → IsTrue (is_go f) → ⊥
no_jump_label ws us e o (forms.Go label) w t = o label w.1 (one_rest (codes "GO") (codes "TO") us (words.Digits label ∷ []) ws (λ q. cc) e w.0)
no_jump_label ws us e o f w t = cc

pub no_jump : (ws : List Word90) → ((us : List Word90) → Jump us ws → ⊥) → (f : Form90) → IsWritten90 f ws → IsTrue (is_go f) → ⊥
no_jump ws o (forms.Go label) w t = o (words.Digits label ∷ []) w.0
no_jump ws o f w t = cc

pub ruleset jumps = (jumped, no_jump_label, no_jump)

-- ---- READ and PRINT

abbrev Reading : List Word90 → List Word90 → Type 0
Reading us ws = IsTransfer (codes "READ") (codes "READ") us ws

abbrev Printing : List Word90 → List Word90 → Type 0
Printing us ws = IsTransfer (codes "PRINT") (codes "WRITE") us ws

pub read_is : (ws us : List Word90) (list : ItemList) → Reading us ws → listing.AreList Input us list → IsForm IsActionOf is_read ws (actions.Read (Some list))
read_is ws us list e h = record {
  form = forms.Read h.phrases;
  is_of = h.is;
  written = (subst (λ (q : List Word90). Reading q ws) h.same e, h.good);
  among = refl;
}

no_inputs : (ws us : List Word90) → Reading us ws → ((is : ItemPhrases90) → AreItems90 Input is → us ≡ written_items90 is → ⊥)
    → (f : Form90) → IsWritten90 f ws → IsTrue (is_read f) → ⊥
no_inputs ws us e o (forms.Read is) w t = o is w.1 (one_list (codes "READ") (codes "READ") us (written_items90 is) ws e w.0)
no_inputs ws us e o f w t = cc

pub read_err : (ws us : List Word90) (stop : Stop) → Reading us ws
    → ((is : ItemPhrases90) → AreItems90 Input is → us ≡ written_items90 is → listing.Gives (Err stop) is) → ReadsAction is_read ws (Err stop)
read_err ws us Syntax e o = no_inputs ws us e o
read_err ws us Memory e o = tt

pub no_read : (ws : List Word90) → ((us : List Word90) → Reading us ws → ⊥) → (f : Form90) → IsWritten90 f ws → IsTrue (is_read f) → ⊥
no_read ws o (forms.Read is) w t = o (written_items90 is) w.0
no_read ws o f w t = cc

pub ruleset reads = (read_is, read_err, no_read)

pub print_is : (ws us : List Word90) (list : ItemList) → Printing us ws → listing.AreList Output us list → IsForm IsActionOf is_print ws (actions.Print (Some list))
print_is ws us list e h = record {
  form = forms.Print h.phrases;
  is_of = h.is;
  written = (subst (λ (q : List Word90). Printing q ws) h.same e, h.good);
  among = refl;
}

no_items : (ws us : List Word90) → Printing us ws → ((is : ItemPhrases90) → AreItems90 Output is → us ≡ written_items90 is → ⊥)
    → (f : Form90) → IsWritten90 f ws → IsTrue (is_print f) → ⊥
no_items ws us e o (forms.Print is) w t = o is w.1 (one_list (codes "PRINT") (codes "WRITE") us (written_items90 is) ws e w.0)
no_items ws us e o f w t = cc

pub print_err : (ws us : List Word90) (stop : Stop) → Printing us ws
    → ((is : ItemPhrases90) → AreItems90 Output is → us ≡ written_items90 is → listing.Gives (Err stop) is) → ReadsAction is_print ws (Err stop)
print_err ws us Syntax e o = no_items ws us e o
print_err ws us Memory e o = tt

pub no_print : (ws : List Word90) → ((us : List Word90) → Printing us ws → ⊥) → (f : Form90) → IsWritten90 f ws → IsTrue (is_print f) → ⊥
no_print ws o (forms.Print is) w t = o (written_items90 is) w.0
no_print ws o f w t = cc

pub ruleset prints = (print_is, print_err, no_print)

-- ---- words alone

pub continues : (ws : List Word90) → ws ≡ words.Name (codes "CONTINUE") ∷ [] → IsForm IsActionOf is_bare_action ws actions.Continue
continues ws e = record { form = forms.Continue []; is_of = tt; written = (e, omega arith); among = refl }

pub stops : (ws : List Word90) → ws ≡ words.Name (codes "STOP") ∷ [] → IsForm IsActionOf is_bare_action ws actions.Stop
stops ws e = record { form = forms.Stop; is_of = tt; written = e; among = refl }

pub reads_nothing : (ws : List Word90) → IsEmptyTransfer (codes "READ") (codes "READ") ws → IsForm IsActionOf is_bare_action ws (actions.Read None)
reads_nothing ws e = record { form = forms.ReadNothing; is_of = tt; written = e; among = refl }

pub prints_nothing : (ws : List Word90) → IsEmptyTransfer (codes "PRINT") (codes "WRITE") ws → IsForm IsActionOf is_bare_action ws (actions.Print None)
prints_nothing ws e = record { form = forms.PrintNothing; is_of = tt; written = e; among = refl }

pub no_bare_action : (ws : List Word90) → (ws ≡ words.Name (codes "CONTINUE") ∷ [] → ⊥) → (ws ≡ words.Name (codes "STOP") ∷ [] → ⊥)
    → (IsEmptyTransfer (codes "READ") (codes "READ") ws → ⊥) → (IsEmptyTransfer (codes "PRINT") (codes "WRITE") ws → ⊥)
    → (f : Form90) → IsWritten90 f ws → IsTrue (is_bare_action f) → ⊥
no_bare_action ws a b c d (forms.Continue []) w t = a w.0
no_bare_action ws a b c d forms.Stop w t = b w
no_bare_action ws a b c d forms.ReadNothing w t = c w
no_bare_action ws a b c d forms.PrintNothing w t = d w
no_bare_action ws a b c d f w t = cc

pub ruleset bare = (continues, stops, reads_nothing, prints_nothing, no_bare_action)

-- ---- they are those that may stand in a logical IF

pub inner_of : (f : Form90) → IsTrue (is_action f) → IsInner90 f
inner_of (forms.Assign l r) t = tt
inner_of (forms.Go label) t = tt
inner_of (forms.Continue []) t = refl
inner_of forms.Stop t = tt
inner_of (forms.Read is) t = tt
inner_of forms.ReadNothing t = tt
inner_of (forms.Print is) t = tt
inner_of forms.PrintNothing t = tt
inner_of f t = absurd (cc)

pub action_of : (f : Form90) → IsInner90 f → IsTrue (is_action f)
action_of (forms.Assign l r) i = refl
action_of (forms.Go label) i = refl
action_of (forms.Continue []) i = refl
action_of (forms.Continue (d ∷ ds)) i = absurd (cc)
action_of forms.Stop i = refl
action_of (forms.Read is) i = refl
action_of forms.ReadNothing i = refl
action_of (forms.Print is) i = refl
action_of forms.PrintNothing i = refl
action_of f i = absurd i
