use Rattle.std.proofs.Common.{ap, ◌∙◌}
use Rattle.e3_types.specs.declared.transactions.State.{State}
use Rattle.e3_types.specs.declared.transactions.State.TheVariants.{Q}
use Rattle.e3_types.specs.Same.{same_state}
use Rattle.e3_cards.specs.Seeing.{seen_state}
use Rattle.e3_cards.proofs.Arrivals.{state_seen}
use Rattle.e3_site.proofs.order.is_quiet.Goals as goal

pub returns : goal.returns
returns c = λ t log is.
    c.is_same.ensures ∙ ap (λ (s : State). same_state s Q) (c.seen_state.ensures ∙ ap seen_state is ∙ state_seen t log)
