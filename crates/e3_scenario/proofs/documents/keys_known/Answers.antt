use Rattle.std.proofs.Common.{sym, ◌∙◌}
use Rattle.e3_scenario.proofs.Values.{keys_known_keys}
use Rattle.e3_scenario.proofs.documents.keys_known.Goals as goal

pub returns : goal.returns
returns c = c.all_known.ensures ∙ sym (keys_known_keys c.args.table.now.entries)
