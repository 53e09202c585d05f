-- Histories whose items fit the sites that take them.
use Rattle.std.specs.Prelude.{◌≡◌, false, List, Contains}
use Rattle.e3_types.specs.declared.entries.Entry.{Entry}
use Rattle.e3_types.specs.declared.entries.Input.{Input}
use Rattle.e3_world.specs.Items.{inputs_of, is_delivery}
use Rattle.e3_laws.specs.agreement.Rows.{MayTake}

-- each input of an entry that is no delivery is one that its site may take
abbrev pub ItemsFit : Entry → Type 0
ItemsFit e = (i : Input) → Contains (inputs_of e.act) i → is_delivery i ≡ false → MayTake e.owner i

-- all entries are such
abbrev pub AllFit : List Entry → Type 0
AllFit h = (e : Entry) → Contains h e → ItemsFit e
