-- Changes of a history, each at one place, counted from 0.
use Rattle.std.specs.Prelude.{◌++◌, ◌∷◌, [], ℕ, suc, List, Option, Some, take, drop}
use Rattle.e3_judge.specs.declared.breach.Breach.{Breach}
use Rattle.e3_judge.specs.declared.breach.Guard as rule
use Rattle.e3_types.specs.declared.entries.Act.{Act}
use Rattle.e3_types.specs.declared.entries.Act.TheVariants.{Step, Fall}
use Rattle.e3_types.specs.declared.entries.Entry.{Entry}
use Rattle.e3_types.specs.declared.entries.Input.{Input}
use Rattle.e3_types.specs.declared.entries.Told.{Told}
use Rattle.e3_types.specs.declared.messages.Packet.{Packet}
use Rattle.e3_types.specs.declared.records.Record.{Record}
use Rattle.e3_types.specs.declared.entries.Why.{Why}

-- the breach of this guard by the entry at this place
abbrev pub breach_at : ℕ → rule.Guard → Option Breach
breach_at at guard = Some (record { at = at; guard = guard })

-- the entry at the place is left out
abbrev pub left_out : ℕ → List Entry → List Entry
left_out at history = take at history ++ drop (suc at) history

-- one more entry is put in at the place
abbrev pub put_in : ℕ → Entry → List Entry → List Entry
put_in at e history = take at history ++ e ∷ drop at history

-- the entry at the place stands twice
abbrev pub twice : ℕ → List Entry → List Entry
twice at history = take (suc at) history ++ drop at history

-- the first two entries are swapped
abbrev pub first_swapped : List Entry → List Entry
first_swapped (e ∷ f ∷ rest) = f ∷ e ∷ rest
first_swapped few = few

-- the entry at the place and the one behind it are swapped
abbrev pub swapped : ℕ → List Entry → List Entry
swapped at history = take at history ++ first_swapped (drop at history)

-- the first entry is changed
abbrev pub first_changed : (Entry → Entry) → List Entry → List Entry
first_changed change [] = []
first_changed change (e ∷ rest) = change e ∷ rest

-- the entry at the place has this owner
abbrev pub owned : ℕ → ℕ → List Entry → List Entry
owned at owner history = take at history ++ first_changed (λ e. record e { owner = owner }) (drop at history)

-- the act of the entry at the place is changed
abbrev pub acted : ℕ → (Act → Act) → List Entry → List Entry
acted at change history = take at history ++ first_changed (λ e. record e { act = change e.act }) (drop at history)

-- a step or a fall has this input in place of its own
abbrev pub with_input : Input → Act → Act
with_input i (Step j records outs events) = Step i records outs events
with_input i (Fall inputs records why) = Fall (i ∷ []) records why
with_input i act = act

-- a fall has this cause in place of its own
abbrev pub with_why : Why → Act → Act
with_why why (Fall inputs records other) = Fall inputs records why
with_why why act = act

-- a fall has these inputs in place of its own
abbrev pub with_inputs : List Input → Act → Act
with_inputs inputs (Fall others records why) = Fall inputs records why
with_inputs inputs act = act

-- a step or a fall has these records in place of its own
abbrev pub with_records : List Record → Act → Act
with_records records (Step i others outs events) = Step i records outs events
with_records records (Fall inputs others why) = Fall inputs records why
with_records records act = act

-- a step has these packets in place of its own
abbrev pub with_outs : List Packet → Act → Act
with_outs outs (Step i records others events) = Step i records outs events
with_outs outs act = act

-- a step tells these events in place of its own
abbrev pub with_told : List Told → Act → Act
with_told events (Step i records outs others) = Step i records outs events
with_told events act = act
