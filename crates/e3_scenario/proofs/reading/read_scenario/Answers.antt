use Rattle.std.proofs.Common.{◌≤◌, length, arith, inr}
use Rattle.e3_scenario.proofs.Results.{document-some, document-none, spelled_some, spelled_none, read_ok, read_given, read_fault}
use Rattle.e3_scenario.proofs.reading.read_scenario.Goals as goal

pub returns-in-Ok-table_scenario-clause-ok : goal.returns-in-Ok-table_scenario-clause-ok
returns-in-Ok-table_scenario-clause-ok c =
    let read = document-some c.args.bytes.now _ c.in-Ok.ensures.ok.0 c.in-Ok.ensures.ok.1 in
    let short : length c.args.bytes.now ≤ 4194304 = omega arith in
    read_ok _ _ (spelled_some c.args.bytes.now _ _ short read c.in-Ok-table_scenario.ensures)

pub returns-in-Ok-table_scenario-clause-given : goal.returns-in-Ok-table_scenario-clause-given
returns-in-Ok-table_scenario-clause-given c =
    let read = document-some c.args.bytes.now _ c.in-Ok.ensures.ok.0 c.in-Ok.ensures.ok.1 in
    let short : length c.args.bytes.now ≤ 4194304 = omega arith in
    read_given c.args.bytes.now _ (spelled_some c.args.bytes.now _ _ short read c.in-Ok-table_scenario.ensures)

pub returns-in-Ok-table_scenario-clause-fault : goal.returns-in-Ok-table_scenario-clause-fault
returns-in-Ok-table_scenario-clause-fault c =
    let read = document-some c.args.bytes.now _ c.in-Ok.ensures.ok.0 c.in-Ok.ensures.ok.1 in
    let short : length c.args.bytes.now ≤ 4194304 = omega arith in
    read_fault c.args.bytes.now _ (spelled_some c.args.bytes.now _ _ short read c.in-Ok-table_scenario.ensures)

pub returns-clause-fault : goal.returns-clause-fault
returns-clause-fault c =
    let read = document-none c.args.bytes.now (λ u. c.in-Err.ensures.refused (λ m. let t = c.if-is_memory.ensures.1 m in let f = c.if-is_memory.false in cc) u) in
    let short : length c.args.bytes.now ≤ 4194304 = omega arith in
    inr (spelled_none c.args.bytes.now short read)
