use Rattle.std.proofs.Common.{◌∙◌, List, refl, sym, subst}
use Rattle.e3_types.specs.declared.entries.Entry.{Entry}
use Rattle.e3_types.specs.declared.scenarios.Scenario.{Scenario}
use Rattle.e3_world.specs.Legal.{IsLegal}
use Rattle.e3_play.specs.Delivered.{IsFull}
use Rattle.e3_play.specs.declared.sites.RunFault.TheVariants.{HistoryFull}
use Rattle.e3_types.specs.declared.entries.Act.TheVariants as act
use Rattle.e3_play.proofs.SameSteps.{stays_kept, stays_none, stays_one}
use Rattle.e3_play.proofs.Answered.{of_both, of_err, on_ok}
use Rattle.e3_play.proofs.Settling.{crash_full, cut_settles}
use Rattle.e3_play.proofs.alone.crash.Goals as goal

pub returns-then-is_up-clause-settles : goal.returns-then-is_up-clause-settles
returns-then-is_up-clause-settles g c =
    let S = g.S.Sites in
    let start = c.args.sites.now in
    let P : Scenario → Type 0 = λ sc. IsLegal sc (S.entries c.cut.new.self) in
    let legal : IsLegal (S.scenario start) (S.entries c.cut.new.self) = subst P c.cut.ensures.on.scenario (g.met.S.Sites.is_legal c.cut.new.self c.cut.ensures.on.stands) in
    on_ok c.cut.result (cut_settles (S.scenario start) (S.entries start) (S.entries c.cut.new.self) c.args.site c.requires.fresh legal) c.cut.ensures.entered

pub returns-then-is_up-clause-full : goal.returns-then-is_up-clause-full
returns-then-is_up-clause-full g c = λ is.
    let S = g.S.Sites in
    let sites = c.args.sites.now in
    let P : List Entry → Type 0 = λ h. IsFull (S.scenario sites) h (S.most sites) in
    subst P (sym (of_err c.cut.result HistoryFull is c.cut.ensures.kept))
    (crash_full (S.scenario sites) (S.entries sites) c.args.site (S.most sites) c.requires.fresh (sym c.is_up.ensures ∙ c.if-is_up.true) (g.met.S.Sites.within sites c.requires.standing) (c.cut.ensures.full is))

pub returns-then-is_up-clause-grown : goal.returns-then-is_up-clause-grown
returns-then-is_up-clause-grown g c =
    let S = g.S.Sites in
    let start = S.entries c.args.sites.now in
    let more = S.entries c.cut.new.self in
    of_both c.cut.result (λ entered. stays_one start more (record { owner = c.args.site; act = act.Cut }) entered refl) (stays_kept start more)
    c.cut.ensures.entered c.cut.ensures.kept

pub returns-else-is_up-clause-grown : goal.returns-else-is_up-clause-grown
returns-else-is_up-clause-grown g c = stays_none (g.S.Sites.entries c.args.sites.now)
