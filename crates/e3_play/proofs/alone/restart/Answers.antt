use Rattle.std.proofs.Common.{◌∙◌, List, sym, subst}
use Rattle.e3_types.specs.declared.entries.Entry.{Entry}
use Rattle.e3_types.specs.declared.scenarios.Scenario.{Scenario}
use Rattle.e3_world.specs.Legal.{IsLegal}
use Rattle.e3_play.specs.Delivered.{IsFull}
use Rattle.e3_play.specs.declared.sites.RunFault.TheVariants.{HistoryFull}
use Rattle.e3_play.proofs.SameSteps.{stays_kept, stays_none}
use Rattle.e3_play.proofs.Answered.{of_both, of_err, on_ok}
use Rattle.e3_play.proofs.Entries.{rise_stays}
use Rattle.e3_play.proofs.Settling.{restart_full, rise_settles}
use Rattle.e3_play.proofs.alone.restart.Goals as goal

pub returns-else-is_up-clause-settles : goal.returns-else-is_up-clause-settles
returns-else-is_up-clause-settles g c =
    let S = g.S.Sites in
    let start = c.args.sites.now in
    let P : Scenario → Type 0 = λ sc. IsLegal sc (S.entries c.rise.new.self) in
    let legal : IsLegal (S.scenario start) (S.entries c.rise.new.self) = subst P c.rise.ensures.on.scenario (g.met.S.Sites.is_legal c.rise.new.self c.rise.ensures.on.stands) in
    on_ok c.rise.result (rise_settles (S.scenario start) (S.entries start) (S.entries c.rise.new.self) c.args.site c.requires.fresh legal) c.rise.ensures.rose

pub returns-else-is_up-clause-full : goal.returns-else-is_up-clause-full
returns-else-is_up-clause-full g c = λ is.
    let S = g.S.Sites in
    let sites = c.args.sites.now in
    let P : List Entry → Type 0 = λ h. IsFull (S.scenario sites) h (S.most sites) in
    subst P (sym (of_err c.rise.result HistoryFull is c.rise.ensures.kept))
    (restart_full (S.scenario sites) (S.entries sites) c.args.site (S.most sites) c.requires.fresh c.requires.exists (sym c.is_up.ensures ∙ c.if-is_up.false) (g.met.S.Sites.within sites c.requires.standing) (c.rise.ensures.full is))

pub returns-else-is_up-clause-grown : goal.returns-else-is_up-clause-grown
returns-else-is_up-clause-grown g c =
    let S = g.S.Sites in
    let start = S.entries c.args.sites.now in
    let more = S.entries c.rise.new.self in
    of_both c.rise.result (rise_stays (S.scenario c.args.sites.now) start more c.args.site) (stays_kept start more) c.rise.ensures.rose c.rise.ensures.kept

pub returns-then-is_up-clause-grown : goal.returns-then-is_up-clause-grown
returns-then-is_up-clause-grown g c = stays_none (g.S.Sites.entries c.args.sites.now)
