-- What a moment's ghost field says is a proposition.
use Rattle.std.proofs.Common.{◌≡◌, refl, Bool, true, false, List}
use Rattle.std.specs.Coded.{Coded, Coded-set, coded_bool, coded_option, code_by}
use Rattle.tree.specs.Plain.{Declaration}
use Rattle.tree.specs.declared.ops.Kind.{Kind}
use Rattle.tree.specs.declared.ops.Kind.TheVariants.{Integer, Logical}
use Rattle.array_values.specs.declared.storage.slots.Slot.{Slot}
use Rattle.array_values.specs.storage.Opening.{KindsAreDeclared}

abbrev is_logical : Kind → Bool
is_logical Integer = false
is_logical Logical = true

abbrev kind_from : Bool → Kind
kind_from true = Logical
kind_from false = Integer

kind_back : (k : Kind) → kind_from (is_logical k) ≡ k
kind_back Integer = refl
kind_back Logical = refl

coded_kind : Coded Kind
coded_kind = code_by Bool coded_bool is_logical kind_from kind_back

pub KindsAreDeclared-prop : (ds : List Declaration) (vs : List Slot) → IsProp (KindsAreDeclared ds vs)
KindsAreDeclared-prop ds vs = let set = Coded-set (coded_option coded_kind) in hlevel set
