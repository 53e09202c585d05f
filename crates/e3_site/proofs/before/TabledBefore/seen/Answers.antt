use Rattle.std.proofs.Common.{[], ap, ◌∙◌}
use Rattle.e3_types.specs.declared.entries.Input.TheVariants.{Begin}
use Rattle.e3_cards.specs.Seeing.{seen_of}
use Rattle.e3_cards.specs.Noting.{unstepped}
use Rattle.e3_site.proofs.before.TabledBefore.seen.Goals as goal

pub returns : goal.returns
returns c =
    c.seen.ensures (record {
      weights = [];
      site = c.self.inside.site;
      life = unstepped c.self.inside.rising c.self.inside.records.now;
      input = Begin [];
    }) c.self.invariant.stand.cards_stand
    ∙ ap (seen_of c.args.t.now) c.self.view_is
