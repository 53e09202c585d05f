-- The scenario that bytes spell, or the first fault that they have.
use Rattle.std.specs.Prelude.{ℕ, ◌+◌, nat_le, not, List, [], ◌∷◌, length, codes, Option, Some, None, Result, Ok, Err, if◌then◌else◌}
use Rattle.toml.specs.Data.{Data, Members}
use Rattle.e3_types.specs.declared.scenarios.KeyRow.{KeyRow}
use Rattle.e3_types.specs.declared.scenarios.Scenario.{Scenario}
use Rattle.e3_world.specs.Given.{ItemsSoFar, rows_differ}
use Rattle.e3_world.specs.Packets.{sites_to, all_sites}
use Rattle.e3_scenario.specs.declared.faults.Field.{Field}
use Rattle.e3_scenario.specs.declared.faults.Field.TheVariants as field
use Rattle.e3_scenario.specs.declared.faults.ScenarioFault.{ScenarioFault}
use Rattle.e3_scenario.specs.declared.faults.ScenarioFault.TheVariants as fault
use Rattle.e3_scenario.specs.Documents.{document, keys_known, kind_fault, weights_of, more_rows, share_at, luck_at, values_at, steps_fit}
use Rattle.e3_scenario.specs.Steps.{and_read, steps_read}

-- what is out of its range, the first field first
abbrev pub or_range : {A : Type 0} → Field → Option A → Result A ScenarioFault
or_range f None = Err (fault.Range f)
or_range f (Some x) = Ok x

-- loss and repeat, together at most a hundred
abbrev pub repeat_with : ℕ → Option ℕ → Option ℕ
repeat_with loss None = None
repeat_with loss (Some repeat) = if nat_le (loss + repeat) 100 then Some repeat else None

-- the scenario of these weights and rows, without its steps
abbrev pub numbers_in : Members → List ℕ → List KeyRow → Result Scenario ScenarioFault
numbers_in members weights rows =
    and_read (or_range field.Loss (share_at members (codes "loss"))) (λ loss.
    and_read (or_range field.Repeat (repeat_with loss (share_at members (codes "repeat")))) (λ repeat.
    and_read (or_range field.Luck (luck_at members)) (λ luck.
    Ok (record { weights = weights; rows = rows; loss = loss; repeat = repeat; luck = luck; steps = [] }))))

-- the scenario without its steps
abbrev pub base_in : Members → Result Scenario ScenarioFault
base_in members =
    and_read (or_range field.Weights (weights_of (values_at members (codes "weights")))) (λ weights.
    and_read (or_range field.Rows (more_rows (sites_to (length weights)) [] (values_at members (codes "rows")))) (λ rows.
    numbers_in members weights rows))

-- before the first item: no name is begun, and all sites are one part
abbrev pub no_items_yet : List ℕ → ItemsSoFar
no_items_yet all = record { earlier = []; fresh = []; ops = []; parts = all ∷ [] }

-- the scenario with the steps that these values spell
abbrev pub steps_in : List Data → Scenario → Result Scenario ScenarioFault
steps_in values sc =
    and_read (steps_read (all_sites sc) 1 (no_items_yet (all_sites sc)) [] values) (λ steps. Ok (record sc { steps = steps }))

-- A document's scenario or fault, where its keys are known and of their kinds: first the ranges, then the rows, then
-- the steps.
abbrev pub fields_in : Members → Result Scenario ScenarioFault
fields_in members =
    and_read (base_in members) (λ sc.
    if not (steps_fit (values_at members (codes "steps"))) then Err (fault.Range field.Steps)
    else if not (rows_differ sc.rows) then Err fault.RowTwice
    else steps_in (values_at members (codes "steps")) sc)

-- the fault of a field's kind comes before those of its values
abbrev pub by_kind : Members → Option Field → Result Scenario ScenarioFault
by_kind ms None = fields_in ms
by_kind ms (Some f) = Err (fault.Kind f)

-- a document's scenario or fault
abbrev pub scenario_in : Members → Result Scenario ScenarioFault
scenario_in members = if keys_known members then by_kind members (kind_fault members) else Err fault.UnknownKey

-- the scenario or fault of a document, where there is one
abbrev pub by_document : Option Members → Result Scenario ScenarioFault
by_document None = Err fault.NotToml
by_document (Some ms) = scenario_in ms

-- the scenario that at most 4,194,304 bytes spell, or the first fault
abbrev pub scenario_of : List ℕ → Result Scenario ScenarioFault
scenario_of bytes = if nat_le (length bytes) 4194304 then by_document (document bytes) else Err fault.TooLong
