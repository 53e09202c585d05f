-- none is missing exactly where all came
use Rattle.std.proofs.Common.{◌∙◌, ap, sym}
use Rattle.e3_types.specs.Sets.{others}
use Rattle.e3_readings.specs.Gathering.{are_complete}
use Rattle.e3_readings.proofs.Missing.{all_came}
use Rattle.e3_readings.proofs.votes.have_every_yes.Goals as goal

pub returns-in-Some-clause-rule : goal.returns-in-Some-clause-rule
returns-in-Some-clause-rule c = λ site t came is. c.are_complete.ensures ∙ ap are_complete (sym c.in-Some.is) ∙ ap are_complete is ∙ all_came (others site t.sites) came
