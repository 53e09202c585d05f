use Rattle.std.proofs.Common.{◌≡◌, ◌≤◌, ◌∙◌, ◌+◌, ◌∷◌, [], suc, ℕ, Err, refl, sym, subst, ap, length, arith, List}
use Rattle.e3_play.specs.Delivered.{IsFull}
use Rattle.std.proofs.lemmas.List.Sums.{count_by-le-length}
use Rattle.e3_types.specs.declared.entries.Entry.{Entry}
use Rattle.e3_types.specs.declared.scenarios.Item.{Item}
use Rattle.e3_types.specs.declared.scenarios.Item.TheVariants as item
use Rattle.e3_types.specs.declared.scenarios.Scenario.{Scenario}
use Rattle.e3_world.specs.Legal.{IsLine}
use Rattle.e3_world.specs.Packets.{is_line, lines, step_items}
use Rattle.e3_types.specs.declared.entries.Act.TheVariants as act
use Rattle.e3_play.specs.Played.{IsFresh, IsReady, IsSettled, IsStep}
use Rattle.e3_play.specs.declared.sites.RunFault.TheVariants.{HistoryFull}
use Rattle.e3_play.proofs.Answered.{err_is, fails, if_fails}
use Rattle.e3_play.proofs.DueRises.{line_full}
use Rattle.e3_play.proofs.Forms.{alone_is, crash_is, exchange_asks, no_stop, recovery_is, restart_exists, restart_is, step_is_given, stop_is}
use Rattle.e3_play.proofs.Knowing.{knows_line, knows_more}
use Rattle.e3_play.proofs.Onward.{goes_on}
use Rattle.e3_play.proofs.Settling.{IsBegun, line_begins, stop_settles}
use Rattle.e3_play.proofs.Steps.{next_is_line}
use Rattle.e3_play.proofs.playing.begin_step.Goals as goal

full_here : {sc now : Scenario} {h : List Entry} {most bound : ℕ} → sc ≡ now → most ≡ bound → IsFull sc h most → IsFull now h bound
full_here {now = now} {h = h} {most = most} played same full = subst (λ (n : ℕ). IsFull now h n) same (subst (λ (s : Scenario). IsFull s h most) played full)

-- the next line may come, also by the number that the driver counts
line_due : (sc now : Scenario) (h : List Entry) (k number : ℕ) → number ≡ suc k → now ≡ sc → IsSettled sc h k → suc k ≤ length sc.steps → IsLine now h number
line_due sc now h k number counted played was more =
    subst (λ (s : Scenario). IsLine s h number) (sym played) (subst (λ (n : ℕ). IsLine sc h n) (sym counted) (next_is_line sc h k was more))

-- the history has a line for each step that is through
pub overflow_add-number : goal.overflow_add-number
overflow_add-number g c =
    let S = g.S.Sites in
    let sites = c.args.sites.now in
    let through : lines (S.entries sites) ≡ c.args.done = c.requires.settled.at in
    let each : lines (S.entries sites) ≤ length (S.entries sites) = count_by-le-length is_line (S.entries sites) in
    let within : length (S.entries sites) ≤ S.most sites = g.met.S.Sites.within sites c.requires.standing in
    let few : S.most sites ≤ 2000000 = c.requires.most in
    omega (arith, through, each, within, few)

pub stop-requires-clause-some : goal.stop-requires-clause-some
stop-requires-clause-some g c =
    let items : List Item = c.step_items-items.result.now in
    let next : c.args.done + 1 ≡ suc c.args.done = omega arith in
    let step : IsStep c.args.scenario.now items = subst (λ l. IsStep c.args.scenario.now l) (sym (c.step_items-items.ensures ∙ ap (step_items c.args.scenario.now) next)) (step_is_given c.args.scenario.now c.args.done c.requires.given) in
    (alone_is c.args.scenario.now items c.in-Stop.site c.in-Stop.calls c.in-Stop.leave (stop_is items c.in-Stop.site c.in-Stop.calls c.in-Stop.leave (sym c.kind_of.ensures ∙ c.in-Stop.is)) step).0

pub stop-requires-clause-least : goal.stop-requires-clause-least
stop-requires-clause-least g c =
    let items : List Item = c.step_items-items.result.now in
    let next : c.args.done + 1 ≡ suc c.args.done = omega arith in
    let step : IsStep c.args.scenario.now items = subst (λ l. IsStep c.args.scenario.now l) (sym (c.step_items-items.ensures ∙ ap (step_items c.args.scenario.now) next)) (step_is_given c.args.scenario.now c.args.done c.requires.given) in
    (alone_is c.args.scenario.now items c.in-Stop.site c.in-Stop.calls c.in-Stop.leave (stop_is items c.in-Stop.site c.in-Stop.calls c.in-Stop.leave (sym c.kind_of.ensures ∙ c.in-Stop.is)) step).1

pub stop-requires-clause-exists : goal.stop-requires-clause-exists
stop-requires-clause-exists g c =
    let items : List Item = c.step_items-items.result.now in
    let next : c.args.done + 1 ≡ suc c.args.done = omega arith in
    let step : IsStep c.args.scenario.now items = subst (λ l. IsStep c.args.scenario.now l) (sym (c.step_items-items.ensures ∙ ap (step_items c.args.scenario.now) next)) (step_is_given c.args.scenario.now c.args.done c.requires.given) in
    subst (λ (sc : Scenario). c.in-Stop.site ≤ length sc.weights) (sym c.requires.played)
    (alone_is c.args.scenario.now items c.in-Stop.site c.in-Stop.calls c.in-Stop.leave (stop_is items c.in-Stop.site c.in-Stop.calls c.in-Stop.leave (sym c.kind_of.ensures ∙ c.in-Stop.is)) step).2

pub crash-requires-clause-fresh : goal.crash-requires-clause-fresh
crash-requires-clause-fresh g c =
    let S = g.S.Sites in
    let sc = c.args.scenario.now in
    let next : c.args.done + 1 ≡ suc c.args.done = omega arith in
    let begun : IsBegun sc (S.entries c.line.new.self) c.args.done =
    line_begins sc (S.entries c.args.sites.now) (S.entries c.line.new.self) c.args.done (c.args.done + 1) next c.requires.settled c.requires.more c.in_ok-line-in-Crash.ensures.entered in
    let items : c.step_items-items.result.now ≡ item.Crash c.in-Crash.site ∷ [] = crash_is c.step_items-items.result.now c.in-Crash.site (sym c.kind_of.ensures ∙ c.in-Crash.is) in
    let fresh : IsFresh sc (S.entries c.line.new.self) (item.Crash c.in-Crash.site ∷ []) =
    subst (λ l. IsFresh sc (S.entries c.line.new.self) l) (sym (c.step_items-items.ensures ∙ ap (step_items sc) next) ∙ items) begun.fresh in
    subst (λ it. IsFresh it (S.entries c.line.new.self) (item.Crash c.in-Crash.site ∷ [])) (sym (c.in_ok-line-in-Crash.ensures.on.scenario ∙ c.requires.played)) fresh

pub restart-requires-clause-fresh : goal.restart-requires-clause-fresh
restart-requires-clause-fresh g c =
    let S = g.S.Sites in
    let sc = c.args.scenario.now in
    let next : c.args.done + 1 ≡ suc c.args.done = omega arith in
    let begun : IsBegun sc (S.entries c.line-in-Restart.new.self) c.args.done =
    line_begins sc (S.entries c.args.sites.now) (S.entries c.line-in-Restart.new.self) c.args.done (c.args.done + 1) next c.requires.settled c.requires.more c.in_ok-line-in-Restart.ensures.entered in
    let items : c.step_items-items.result.now ≡ item.Restart c.in-Restart.site ∷ [] = restart_is c.step_items-items.result.now c.in-Restart.site (sym c.kind_of.ensures ∙ c.in-Restart.is) in
    let fresh : IsFresh sc (S.entries c.line-in-Restart.new.self) (item.Restart c.in-Restart.site ∷ []) =
    subst (λ l. IsFresh sc (S.entries c.line-in-Restart.new.self) l) (sym (c.step_items-items.ensures ∙ ap (step_items sc) next) ∙ items) begun.fresh in
    subst (λ it. IsFresh it (S.entries c.line-in-Restart.new.self) (item.Restart c.in-Restart.site ∷ [])) (sym (c.in_ok-line-in-Restart.ensures.on.scenario ∙ c.requires.played)) fresh

pub restart-requires-clause-least : goal.restart-requires-clause-least
restart-requires-clause-least g c =
    let items : List Item = c.step_items-items.result.now in
    let next : c.args.done + 1 ≡ suc c.args.done = omega arith in
    let step : IsStep c.args.scenario.now items = subst (λ l. IsStep c.args.scenario.now l) (sym (c.step_items-items.ensures ∙ ap (step_items c.args.scenario.now) next)) (step_is_given c.args.scenario.now c.args.done c.requires.given) in
    (restart_exists c.args.scenario.now items c.in-Restart.site (restart_is items c.in-Restart.site (sym c.kind_of.ensures ∙ c.in-Restart.is)) step).0

pub restart-requires-clause-exists : goal.restart-requires-clause-exists
restart-requires-clause-exists g c =
    let items : List Item = c.step_items-items.result.now in
    let next : c.args.done + 1 ≡ suc c.args.done = omega arith in
    let step : IsStep c.args.scenario.now items = subst (λ l. IsStep c.args.scenario.now l) (sym (c.step_items-items.ensures ∙ ap (step_items c.args.scenario.now) next)) (step_is_given c.args.scenario.now c.args.done c.requires.given) in
    subst (λ (sc : Scenario). c.in-Restart.site ≤ length sc.weights) (sym (c.in_ok-line-in-Restart.ensures.on.scenario ∙ c.requires.played))
    (restart_exists c.args.scenario.now items c.in-Restart.site (restart_is items c.in-Restart.site (sym c.kind_of.ensures ∙ c.in-Restart.is)) step).1

pub recovery-requires-clause-fresh : goal.recovery-requires-clause-fresh
recovery-requires-clause-fresh g c =
    let S = g.S.Sites in
    let sc = c.args.scenario.now in
    let next : c.args.done + 1 ≡ suc c.args.done = omega arith in
    let begun : IsBegun sc (S.entries c.line-in-Recovery.new.self) c.args.done =
    line_begins sc (S.entries c.args.sites.now) (S.entries c.line-in-Recovery.new.self) c.args.done (c.args.done + 1) next c.requires.settled c.requires.more c.in_ok-line-in-Recovery.ensures.entered in
    let items : c.step_items-items.result.now ≡ item.Recover c.in-Recovery.group ∷ [] = recovery_is c.step_items-items.result.now c.in-Recovery.group (sym c.kind_of.ensures ∙ c.in-Recovery.is) in
    let fresh : IsFresh sc (S.entries c.line-in-Recovery.new.self) (item.Recover c.in-Recovery.group ∷ []) =
    subst (λ l. IsFresh sc (S.entries c.line-in-Recovery.new.self) l) (sym (c.step_items-items.ensures ∙ ap (step_items sc) next) ∙ items) begun.fresh in
    subst (λ it. IsFresh it (S.entries c.line-in-Recovery.new.self) (item.Recover c.in-Recovery.group ∷ [])) (sym (c.in_ok-line-in-Recovery.ensures.on.scenario ∙ c.requires.played)) fresh

pub line-requires-in-Exchange-clause-no_stop : goal.line-requires-in-Exchange-clause-no_stop
line-requires-in-Exchange-clause-no_stop g c = λ site calls leave more is.
    let sc = c.args.scenario.now in
    let items : List Item = c.step_items-items.result.now in
    let next : c.args.done + 1 ≡ suc c.args.done = omega arith in
    let step : IsStep sc items = subst (λ l. IsStep sc l) (sym (c.step_items-items.ensures ∙ ap (step_items sc) next)) (step_is_given sc c.args.done c.requires.given) in
    no_stop items (sym c.kind_of.ensures ∙ c.in-Exchange.is) sc step site calls leave more
    (c.step_items-items.ensures ∙ ap (λ (it : Scenario). step_items it (c.args.done + 1)) (sym c.requires.played) ∙ is)

pub exchange-requires-clause-form : goal.exchange-requires-clause-form
exchange-requires-clause-form g c =
    let sc = c.args.scenario.now in
    let items : List Item = c.step_items-items.result.now in
    let next : c.args.done + 1 ≡ suc c.args.done = omega arith in
    let step : IsStep sc items = subst (λ l. IsStep sc l) (sym (c.step_items-items.ensures ∙ ap (step_items sc) next)) (step_is_given sc c.args.done c.requires.given) in
    exchange_asks sc items step (sym c.kind_of.ensures ∙ c.in-Exchange.is)

pub exchange-requires-clause-fresh : goal.exchange-requires-clause-fresh
exchange-requires-clause-fresh g c =
    let S = g.S.Sites in
    let sc = c.args.scenario.now in
    let next : c.args.done + 1 ≡ suc c.args.done = omega arith in
    let begun : IsBegun sc (S.entries c.line-in-Exchange.new.self) c.args.done =
    line_begins sc (S.entries c.args.sites.now) (S.entries c.line-in-Exchange.new.self) c.args.done (c.args.done + 1) next c.requires.settled c.requires.more c.in_ok-line-in-Exchange.ensures.entered in
    subst (λ l. IsFresh sc (S.entries c.line-in-Exchange.new.self) l) (sym (c.step_items-items.ensures ∙ ap (step_items sc) next)) begun.fresh

pub exchange-requires-clause-known : goal.exchange-requires-clause-known
exchange-requires-clause-known g c =
    let S = g.S.Sites in
    knows_more c.args.scenario.now (S.entries c.args.sites.now) (S.entries c.line-in-Exchange.new.self) (record { owner = 0; act = act.Line (c.args.done + 1) } ∷ []) c.args.names.now
    c.requires.known c.in_ok-line-in-Exchange.ensures.entered

pub returns-in_ok-stop-in-Stop-clause-begun : goal.returns-in_ok-stop-in-Stop-clause-begun
returns-in_ok-stop-in-Stop-clause-begun g c =
    let S = g.S.Sites in
    let sc = c.args.scenario.now in
    let next : c.args.done + 1 ≡ suc c.args.done = omega arith in
    let items : c.step_items-items.result.now ≡ item.Stop c.in-Stop.site c.in-Stop.calls c.in-Stop.leave ∷ [] =
    stop_is c.step_items-items.result.now c.in-Stop.site c.in-Stop.calls c.in-Stop.leave (sym c.kind_of.ensures ∙ c.in-Stop.is) in
    let begun : IsBegun sc (S.entries c.stop.new.self) c.args.done =
    line_begins sc (S.entries c.args.sites.now) (S.entries c.stop.new.self) c.args.done (c.args.done + 1) next c.requires.settled c.requires.more c.in_ok-stop-in-Stop.ensures.entered in
    let fresh : IsFresh sc (S.entries c.stop.new.self) (item.Stop c.in-Stop.site c.in-Stop.calls c.in-Stop.leave ∷ []) =
    subst (λ l. IsFresh sc (S.entries c.stop.new.self) l) (sym (c.step_items-items.ensures ∙ ap (step_items sc) next) ∙ items) begun.fresh in
    subst (λ n. IsSettled sc (S.entries c.stop.new.self) n) begun.at (stop_settles sc (S.entries c.stop.new.self) c.in-Stop.site c.in-Stop.calls c.in-Stop.leave fresh)

pub returns-in_err-line-in-Crash-clause-full : goal.returns-in_err-line-in-Crash-clause-full
returns-in_err-line-in-Crash-clause-full g c = λ is.
    let S = g.S.Sites in
    let sites = c.args.sites.now in
    let many : S.most sites ≤ length (S.entries sites) =
    c.in_err-line-in-Crash.ensures.full (ap Err (err_is c.from_residual-in_err-line-in-Crash.result c.in_err-line-in-Crash.field-0.0 HistoryFull c.from_residual-in_err-line-in-Crash.ensures.1 is)) in
    let P : List Entry → Type 0 = λ h. IsFull c.args.scenario.now h (S.most sites) in
    subst P (sym c.in_err-line-in-Crash.ensures.kept)
    (line_full c.args.scenario.now (S.entries sites) c.args.done (S.most sites) c.requires.settled c.requires.more (g.met.S.Sites.within sites c.requires.standing) many)

pub returns-in_err-line-in-Restart-clause-full : goal.returns-in_err-line-in-Restart-clause-full
returns-in_err-line-in-Restart-clause-full g c = λ is.
    let S = g.S.Sites in
    let sites = c.args.sites.now in
    let many : S.most sites ≤ length (S.entries sites) =
    c.in_err-line-in-Restart.ensures.full (ap Err (err_is c.from_residual-in_err-line-in-Restart.result c.in_err-line-in-Restart.field-0.0 HistoryFull c.from_residual-in_err-line-in-Restart.ensures.1 is)) in
    let P : List Entry → Type 0 = λ h. IsFull c.args.scenario.now h (S.most sites) in
    subst P (sym c.in_err-line-in-Restart.ensures.kept)
    (line_full c.args.scenario.now (S.entries sites) c.args.done (S.most sites) c.requires.settled c.requires.more (g.met.S.Sites.within sites c.requires.standing) many)

pub returns-in_err-line-in-Recovery-clause-full : goal.returns-in_err-line-in-Recovery-clause-full
returns-in_err-line-in-Recovery-clause-full g c = λ is.
    let S = g.S.Sites in
    let sites = c.args.sites.now in
    let many : S.most sites ≤ length (S.entries sites) =
    c.in_err-line-in-Recovery.ensures.full (ap Err (err_is c.from_residual-in_err-line-in-Recovery.result c.in_err-line-in-Recovery.field-0.0 HistoryFull c.from_residual-in_err-line-in-Recovery.ensures.1 is)) in
    let P : List Entry → Type 0 = λ h. IsFull c.args.scenario.now h (S.most sites) in
    subst P (sym c.in_err-line-in-Recovery.ensures.kept)
    (line_full c.args.scenario.now (S.entries sites) c.args.done (S.most sites) c.requires.settled c.requires.more (g.met.S.Sites.within sites c.requires.standing) many)

pub returns-in_err-line-in-Exchange-clause-full : goal.returns-in_err-line-in-Exchange-clause-full
returns-in_err-line-in-Exchange-clause-full g c = λ is.
    let S = g.S.Sites in
    let sites = c.args.sites.now in
    let many : S.most sites ≤ length (S.entries sites) =
    c.in_err-line-in-Exchange.ensures.full (ap Err (err_is c.from_residual-in_err-line-in-Exchange.result c.in_err-line-in-Exchange.field-0.0 HistoryFull c.from_residual-in_err-line-in-Exchange.ensures.1 is)) in
    let P : List Entry → Type 0 = λ h. IsFull c.args.scenario.now h (S.most sites) in
    subst P (sym c.in_err-line-in-Exchange.ensures.kept)
    (line_full c.args.scenario.now (S.entries sites) c.args.done (S.most sites) c.requires.settled c.requires.more (g.met.S.Sites.within sites c.requires.standing) many)

pub returns-in_err-stop-in-Stop-clause-full : goal.returns-in_err-stop-in-Stop-clause-full
returns-in_err-stop-in-Stop-clause-full g c = λ is.
    let S = g.S.Sites in
    let sites = c.args.sites.now in
    let many : S.most sites ≤ length (S.entries sites) =
    c.in_err-stop-in-Stop.ensures.full (ap Err (err_is c.from_residual.result c.in_err-stop-in-Stop.field-0.0 HistoryFull c.from_residual.ensures.1 is)) in
    let P : List Entry → Type 0 = λ h. IsFull c.args.scenario.now h (S.most sites) in
    subst P (sym c.in_err-stop-in-Stop.ensures.kept)
    (line_full c.args.scenario.now (S.entries sites) c.args.done (S.most sites) c.requires.settled c.requires.more (g.met.S.Sites.within sites c.requires.standing) many)

pub returns-in_ok-crash-in-Crash-clause-known : goal.returns-in_ok-crash-in-Crash-clause-known
returns-in_ok-crash-in-Crash-clause-known g c =
    let S = g.S.Sites in
    knows_line c.args.scenario.now (S.entries c.args.sites.now) (S.entries c.line.new.self) (S.entries c.crash.new.sites)
    (record { owner = 0; act = act.Line (c.args.done + 1) }) c.args.names.now c.requires.known c.in_ok-line-in-Crash.ensures.entered c.crash.ensures.grown

pub returns-in_ok-restart-in-Restart-clause-known : goal.returns-in_ok-restart-in-Restart-clause-known
returns-in_ok-restart-in-Restart-clause-known g c =
    let S = g.S.Sites in
    knows_line c.args.scenario.now (S.entries c.args.sites.now) (S.entries c.line-in-Restart.new.self) (S.entries c.restart.new.sites)
    (record { owner = 0; act = act.Line (c.args.done + 1) }) c.args.names.now c.requires.known c.in_ok-line-in-Restart.ensures.entered c.restart.ensures.grown

pub returns-in_ok-recovery-in-Recovery-clause-known : goal.returns-in_ok-recovery-in-Recovery-clause-known
returns-in_ok-recovery-in-Recovery-clause-known g c =
    let S = g.S.Sites in
    knows_line c.args.scenario.now (S.entries c.args.sites.now) (S.entries c.line-in-Recovery.new.self) (S.entries c.recovery.new.sites)
    (record { owner = 0; act = act.Line (c.args.done + 1) }) c.args.names.now c.requires.known c.in_ok-line-in-Recovery.ensures.entered c.recovery.ensures.grown

pub returns-in_ok-stop-in-Stop-clause-known : goal.returns-in_ok-stop-in-Stop-clause-known
returns-in_ok-stop-in-Stop-clause-known g c =
    let S = g.S.Sites in
    knows_more c.args.scenario.now (S.entries c.args.sites.now) (S.entries c.stop.new.self)
    (record { owner = 0; act = act.Line (c.args.done + 1) } ∷ []) c.args.names.now c.requires.known c.in_ok-stop-in-Stop.ensures.entered

pub returns-in_err-stop-in-Stop-clause-on : goal.returns-in_err-stop-in-Stop-clause-on
returns-in_err-stop-in-Stop-clause-on g c = c.stop.ensures.on

pub returns-in_err-stop-in-Stop-clause-known : goal.returns-in_err-stop-in-Stop-clause-known
returns-in_err-stop-in-Stop-clause-known g c = fails _ _ c.from_residual.result c.from_residual.ensures.1

pub returns-in_err-stop-in-Stop-clause-begun : goal.returns-in_err-stop-in-Stop-clause-begun
returns-in_err-stop-in-Stop-clause-begun g c = if_fails _ _ c.from_residual.result c.from_residual.ensures.1

pub returns-in_ok-stop-in-Stop-clause-on : goal.returns-in_ok-stop-in-Stop-clause-on
returns-in_ok-stop-in-Stop-clause-on g c = c.stop.ensures.on

pub stop-requires-clause-standing : goal.stop-requires-clause-standing
stop-requires-clause-standing g c = c.requires.standing

pub stop-requires-clause-due : goal.stop-requires-clause-due
stop-requires-clause-due g c =
    let S = g.S.Sites in
    let next : c.args.done + 1 ≡ suc c.args.done = omega arith in
    let sites = c.args.sites.now in
    line_due c.args.scenario.now (S.scenario sites) (S.entries sites) c.args.done (c.args.done + 1) next c.requires.played c.requires.settled c.requires.more

pub returns-in_err-line-in-Crash-clause-on : goal.returns-in_err-line-in-Crash-clause-on
returns-in_err-line-in-Crash-clause-on g c = c.line.ensures.on

pub returns-in_err-line-in-Crash-clause-known : goal.returns-in_err-line-in-Crash-clause-known
returns-in_err-line-in-Crash-clause-known g c = fails _ _ c.from_residual-in_err-line-in-Crash.result c.from_residual-in_err-line-in-Crash.ensures.1

pub returns-in_err-line-in-Crash-clause-begun : goal.returns-in_err-line-in-Crash-clause-begun
returns-in_err-line-in-Crash-clause-begun g c = if_fails _ _ c.from_residual-in_err-line-in-Crash.result c.from_residual-in_err-line-in-Crash.ensures.1

pub line-requires-clause-standing : goal.line-requires-clause-standing
line-requires-clause-standing g c = c.requires.standing

pub line-requires-clause-due : goal.line-requires-clause-due
line-requires-clause-due g c =
    let S = g.S.Sites in
    let next : c.args.done + 1 ≡ suc c.args.done = omega arith in
    let sites = c.args.sites.now in
    line_due c.args.scenario.now (S.scenario sites) (S.entries sites) c.args.done (c.args.done + 1) next c.requires.played c.requires.settled c.requires.more

pub returns-in_err-line-in-Restart-clause-on : goal.returns-in_err-line-in-Restart-clause-on
returns-in_err-line-in-Restart-clause-on g c = c.line-in-Restart.ensures.on

pub returns-in_err-line-in-Restart-clause-known : goal.returns-in_err-line-in-Restart-clause-known
returns-in_err-line-in-Restart-clause-known g c = fails _ _ c.from_residual-in_err-line-in-Restart.result c.from_residual-in_err-line-in-Restart.ensures.1

pub returns-in_err-line-in-Restart-clause-begun : goal.returns-in_err-line-in-Restart-clause-begun
returns-in_err-line-in-Restart-clause-begun g c = if_fails _ _ c.from_residual-in_err-line-in-Restart.result c.from_residual-in_err-line-in-Restart.ensures.1

pub line-requires-in-Restart-clause-standing : goal.line-requires-in-Restart-clause-standing
line-requires-in-Restart-clause-standing g c = c.requires.standing

pub line-requires-in-Restart-clause-due : goal.line-requires-in-Restart-clause-due
line-requires-in-Restart-clause-due g c =
    let S = g.S.Sites in
    let next : c.args.done + 1 ≡ suc c.args.done = omega arith in
    let sites = c.args.sites.now in
    line_due c.args.scenario.now (S.scenario sites) (S.entries sites) c.args.done (c.args.done + 1) next c.requires.played c.requires.settled c.requires.more

pub returns-in_err-line-in-Recovery-clause-on : goal.returns-in_err-line-in-Recovery-clause-on
returns-in_err-line-in-Recovery-clause-on g c = c.line-in-Recovery.ensures.on

pub returns-in_err-line-in-Recovery-clause-known : goal.returns-in_err-line-in-Recovery-clause-known
returns-in_err-line-in-Recovery-clause-known g c = fails _ _ c.from_residual-in_err-line-in-Recovery.result c.from_residual-in_err-line-in-Recovery.ensures.1

pub returns-in_err-line-in-Recovery-clause-begun : goal.returns-in_err-line-in-Recovery-clause-begun
returns-in_err-line-in-Recovery-clause-begun g c = if_fails _ _ c.from_residual-in_err-line-in-Recovery.result c.from_residual-in_err-line-in-Recovery.ensures.1

pub line-requires-in-Recovery-clause-standing : goal.line-requires-in-Recovery-clause-standing
line-requires-in-Recovery-clause-standing g c = c.requires.standing

pub line-requires-in-Recovery-clause-due : goal.line-requires-in-Recovery-clause-due
line-requires-in-Recovery-clause-due g c =
    let S = g.S.Sites in
    let next : c.args.done + 1 ≡ suc c.args.done = omega arith in
    let sites = c.args.sites.now in
    line_due c.args.scenario.now (S.scenario sites) (S.entries sites) c.args.done (c.args.done + 1) next c.requires.played c.requires.settled c.requires.more

pub returns-in_err-line-in-Exchange-clause-on : goal.returns-in_err-line-in-Exchange-clause-on
returns-in_err-line-in-Exchange-clause-on g c = c.line-in-Exchange.ensures.on

pub returns-in_err-line-in-Exchange-clause-known : goal.returns-in_err-line-in-Exchange-clause-known
returns-in_err-line-in-Exchange-clause-known g c = fails _ _ c.from_residual-in_err-line-in-Exchange.result c.from_residual-in_err-line-in-Exchange.ensures.1

pub returns-in_err-line-in-Exchange-clause-begun : goal.returns-in_err-line-in-Exchange-clause-begun
returns-in_err-line-in-Exchange-clause-begun g c = if_fails _ _ c.from_residual-in_err-line-in-Exchange.result c.from_residual-in_err-line-in-Exchange.ensures.1

pub line-requires-in-Exchange-clause-standing : goal.line-requires-in-Exchange-clause-standing
line-requires-in-Exchange-clause-standing g c = c.requires.standing

pub line-requires-in-Exchange-clause-due : goal.line-requires-in-Exchange-clause-due
line-requires-in-Exchange-clause-due g c =
    let S = g.S.Sites in
    let next : c.args.done + 1 ≡ suc c.args.done = omega arith in
    let sites = c.args.sites.now in
    line_due c.args.scenario.now (S.scenario sites) (S.entries sites) c.args.done (c.args.done + 1) next c.requires.played c.requires.settled c.requires.more

pub returns-in_err-crash-in-Crash-clause-on : goal.returns-in_err-crash-in-Crash-clause-on
returns-in_err-crash-in-Crash-clause-on g c = goes_on c.line.ensures.on c.crash.ensures.on

pub returns-in_err-crash-in-Crash-clause-known : goal.returns-in_err-crash-in-Crash-clause-known
returns-in_err-crash-in-Crash-clause-known g c = fails _ _ c.from_residual-in_err-crash-in-Crash.result c.from_residual-in_err-crash-in-Crash.ensures.1

pub returns-in_err-crash-in-Crash-clause-begun : goal.returns-in_err-crash-in-Crash-clause-begun
returns-in_err-crash-in-Crash-clause-begun g c = if_fails _ _ c.from_residual-in_err-crash-in-Crash.result c.from_residual-in_err-crash-in-Crash.ensures.1

pub returns-in_err-crash-in-Crash-clause-full : goal.returns-in_err-crash-in-Crash-clause-full
returns-in_err-crash-in-Crash-clause-full g c = λ is.
    full_here (c.line.ensures.on.scenario ∙ c.requires.played) c.line.ensures.on.most (c.in_err-crash-in-Crash.ensures.full (ap Err (err_is c.from_residual-in_err-crash-in-Crash.result c.in_err-crash-in-Crash.field-0.0 HistoryFull c.from_residual-in_err-crash-in-Crash.ensures.1 is)))

pub returns-in_ok-crash-in-Crash-clause-on : goal.returns-in_ok-crash-in-Crash-clause-on
returns-in_ok-crash-in-Crash-clause-on g c = goes_on c.line.ensures.on c.crash.ensures.on

pub returns-in_ok-crash-in-Crash-clause-begun : goal.returns-in_ok-crash-in-Crash-clause-begun
returns-in_ok-crash-in-Crash-clause-begun g c =
    let S = g.S.Sites in
    let sc = c.args.scenario.now in
    let next : c.args.done + 1 ≡ suc c.args.done = omega arith in
    let begun : IsBegun sc (S.entries c.line.new.self) c.args.done =
    line_begins sc (S.entries c.args.sites.now) (S.entries c.line.new.self) c.args.done (c.args.done + 1) next c.requires.settled c.requires.more c.in_ok-line-in-Crash.ensures.entered in
    let h = S.entries c.crash.new.sites in
    let settled : IsSettled sc h (lines (S.entries c.line.new.self)) =
    subst (λ (now : Scenario). IsSettled now h (lines (S.entries c.line.new.self))) (c.line.ensures.on.scenario ∙ c.requires.played) c.in_ok-crash-in-Crash.ensures.settles in
    subst (λ (n : ℕ). IsSettled sc h n) begun.at settled

pub crash-requires-clause-standing : goal.crash-requires-clause-standing
crash-requires-clause-standing g c = c.line.ensures.on.stands

pub returns-in_err-restart-in-Restart-clause-on : goal.returns-in_err-restart-in-Restart-clause-on
returns-in_err-restart-in-Restart-clause-on g c = goes_on c.line-in-Restart.ensures.on c.restart.ensures.on

pub returns-in_err-restart-in-Restart-clause-known : goal.returns-in_err-restart-in-Restart-clause-known
returns-in_err-restart-in-Restart-clause-known g c = fails _ _ c.from_residual-in_err-restart-in-Restart.result c.from_residual-in_err-restart-in-Restart.ensures.1

pub returns-in_err-restart-in-Restart-clause-begun : goal.returns-in_err-restart-in-Restart-clause-begun
returns-in_err-restart-in-Restart-clause-begun g c = if_fails _ _ c.from_residual-in_err-restart-in-Restart.result c.from_residual-in_err-restart-in-Restart.ensures.1

pub returns-in_err-restart-in-Restart-clause-full : goal.returns-in_err-restart-in-Restart-clause-full
returns-in_err-restart-in-Restart-clause-full g c = λ is.
    full_here (c.line-in-Restart.ensures.on.scenario ∙ c.requires.played) c.line-in-Restart.ensures.on.most (c.in_err-restart-in-Restart.ensures.full (ap Err (err_is c.from_residual-in_err-restart-in-Restart.result c.in_err-restart-in-Restart.field-0.0 HistoryFull c.from_residual-in_err-restart-in-Restart.ensures.1 is)))

pub returns-in_ok-restart-in-Restart-clause-on : goal.returns-in_ok-restart-in-Restart-clause-on
returns-in_ok-restart-in-Restart-clause-on g c = goes_on c.line-in-Restart.ensures.on c.restart.ensures.on

pub returns-in_ok-restart-in-Restart-clause-begun : goal.returns-in_ok-restart-in-Restart-clause-begun
returns-in_ok-restart-in-Restart-clause-begun g c =
    let S = g.S.Sites in
    let sc = c.args.scenario.now in
    let next : c.args.done + 1 ≡ suc c.args.done = omega arith in
    let begun : IsBegun sc (S.entries c.line-in-Restart.new.self) c.args.done =
    line_begins sc (S.entries c.args.sites.now) (S.entries c.line-in-Restart.new.self) c.args.done (c.args.done + 1) next c.requires.settled c.requires.more c.in_ok-line-in-Restart.ensures.entered in
    let h = S.entries c.restart.new.sites in
    let settled : IsSettled sc h (lines (S.entries c.line-in-Restart.new.self)) =
    subst (λ (now : Scenario). IsSettled now h (lines (S.entries c.line-in-Restart.new.self))) (c.line-in-Restart.ensures.on.scenario ∙ c.requires.played) c.in_ok-restart-in-Restart.ensures.settles in
    subst (λ (n : ℕ). IsSettled sc h n) begun.at settled

pub restart-requires-clause-standing : goal.restart-requires-clause-standing
restart-requires-clause-standing g c = c.line-in-Restart.ensures.on.stands

pub returns-in_err-recovery-in-Recovery-clause-on : goal.returns-in_err-recovery-in-Recovery-clause-on
returns-in_err-recovery-in-Recovery-clause-on g c = goes_on c.line-in-Recovery.ensures.on c.recovery.ensures.on

pub returns-in_err-recovery-in-Recovery-clause-known : goal.returns-in_err-recovery-in-Recovery-clause-known
returns-in_err-recovery-in-Recovery-clause-known g c = fails _ _ c.from_residual-in_err-recovery-in-Recovery.result c.from_residual-in_err-recovery-in-Recovery.ensures.1

pub returns-in_err-recovery-in-Recovery-clause-begun : goal.returns-in_err-recovery-in-Recovery-clause-begun
returns-in_err-recovery-in-Recovery-clause-begun g c = if_fails _ _ c.from_residual-in_err-recovery-in-Recovery.result c.from_residual-in_err-recovery-in-Recovery.ensures.1

pub returns-in_err-recovery-in-Recovery-clause-full : goal.returns-in_err-recovery-in-Recovery-clause-full
returns-in_err-recovery-in-Recovery-clause-full g c = λ is.
    full_here (c.line-in-Recovery.ensures.on.scenario ∙ c.requires.played) c.line-in-Recovery.ensures.on.most (c.in_err-recovery-in-Recovery.ensures.full (ap Err (err_is c.from_residual-in_err-recovery-in-Recovery.result c.in_err-recovery-in-Recovery.field-0.0 HistoryFull c.from_residual-in_err-recovery-in-Recovery.ensures.1 is)))

pub returns-in_ok-recovery-in-Recovery-clause-on : goal.returns-in_ok-recovery-in-Recovery-clause-on
returns-in_ok-recovery-in-Recovery-clause-on g c = goes_on c.line-in-Recovery.ensures.on c.recovery.ensures.on

pub returns-in_ok-recovery-in-Recovery-clause-begun : goal.returns-in_ok-recovery-in-Recovery-clause-begun
returns-in_ok-recovery-in-Recovery-clause-begun g c =
    let S = g.S.Sites in
    let sc = c.args.scenario.now in
    let next : c.args.done + 1 ≡ suc c.args.done = omega arith in
    let begun : IsBegun sc (S.entries c.line-in-Recovery.new.self) c.args.done =
    line_begins sc (S.entries c.args.sites.now) (S.entries c.line-in-Recovery.new.self) c.args.done (c.args.done + 1) next c.requires.settled c.requires.more c.in_ok-line-in-Recovery.ensures.entered in
    let h = S.entries c.recovery.new.sites in
    let settled : IsSettled sc h (lines (S.entries c.line-in-Recovery.new.self)) =
    subst (λ (now : Scenario). IsSettled now h (lines (S.entries c.line-in-Recovery.new.self))) (c.line-in-Recovery.ensures.on.scenario ∙ c.requires.played) c.in_ok-recovery-in-Recovery.ensures.settles in
    subst (λ (n : ℕ). IsSettled sc h n) begun.at settled

pub recovery-requires-clause-standing : goal.recovery-requires-clause-standing
recovery-requires-clause-standing g c = c.line-in-Recovery.ensures.on.stands

pub returns-in_err-inputs-in-Exchange-clause-on : goal.returns-in_err-inputs-in-Exchange-clause-on
returns-in_err-inputs-in-Exchange-clause-on g c = goes_on c.line-in-Exchange.ensures.on c.exchange.ensures.on

pub returns-in_err-inputs-in-Exchange-clause-known : goal.returns-in_err-inputs-in-Exchange-clause-known
returns-in_err-inputs-in-Exchange-clause-known g c = fails _ _ c.from_residual-in_err-inputs-in-Exchange.result c.from_residual-in_err-inputs-in-Exchange.ensures.1

pub returns-in_err-inputs-in-Exchange-clause-begun : goal.returns-in_err-inputs-in-Exchange-clause-begun
returns-in_err-inputs-in-Exchange-clause-begun g c = if_fails _ _ c.from_residual-in_err-inputs-in-Exchange.result c.from_residual-in_err-inputs-in-Exchange.ensures.1

pub returns-in_err-inputs-in-Exchange-clause-full : goal.returns-in_err-inputs-in-Exchange-clause-full
returns-in_err-inputs-in-Exchange-clause-full g c = λ is.
    full_here refl c.line-in-Exchange.ensures.on.most (c.in_err-inputs-in-Exchange.ensures.full (ap Err (err_is c.from_residual-in_err-inputs-in-Exchange.result c.in_err-inputs-in-Exchange.field-0.0 HistoryFull c.from_residual-in_err-inputs-in-Exchange.ensures.1 is)))

pub returns-in_ok-inputs-in-Exchange-clause-on : goal.returns-in_ok-inputs-in-Exchange-clause-on
returns-in_ok-inputs-in-Exchange-clause-on g c = goes_on c.line-in-Exchange.ensures.on c.exchange.ensures.on

pub returns-in_ok-inputs-in-Exchange-clause-known : goal.returns-in_ok-inputs-in-Exchange-clause-known
returns-in_ok-inputs-in-Exchange-clause-known g c = c.in_ok-inputs-in-Exchange.ensures.known

pub returns-in_ok-inputs-in-Exchange-clause-begun : goal.returns-in_ok-inputs-in-Exchange-clause-begun
returns-in_ok-inputs-in-Exchange-clause-begun g c =
    let S = g.S.Sites in
    let sc = c.args.scenario.now in
    let next : c.args.done + 1 ≡ suc c.args.done = omega arith in
    let begun : IsBegun sc (S.entries c.line-in-Exchange.new.self) c.args.done =
    line_begins sc (S.entries c.args.sites.now) (S.entries c.line-in-Exchange.new.self) c.args.done (c.args.done + 1) next c.requires.settled c.requires.more c.in_ok-line-in-Exchange.ensures.entered in
    subst (λ (n : ℕ). IsReady sc n (S.entries c.exchange.new.sites) c.in_ok-inputs-in-Exchange.inputs) begun.at c.in_ok-inputs-in-Exchange.ensures.ready

pub exchange-requires-clause-standing : goal.exchange-requires-clause-standing
exchange-requires-clause-standing g c = c.line-in-Exchange.ensures.on.stands

pub stop-requires-clause-step : goal.stop-requires-clause-step
stop-requires-clause-step g c =
    let items : List Item = c.step_items-items.result.now in
    ap (λ (it : Scenario). step_items it (c.args.done + 1)) c.requires.played ∙ sym c.step_items-items.ensures
    ∙ stop_is items c.in-Stop.site c.in-Stop.calls c.in-Stop.leave (sym c.kind_of.ensures ∙ c.in-Stop.is)

pub line-requires-clause-no_stop : goal.line-requires-clause-no_stop
line-requires-clause-no_stop g c = λ site calls leave more is.
    let items : List Item = c.step_items-items.result.now in
    let no : item.Crash c.in-Crash.site ∷ [] ≡ item.Stop site calls leave ∷ more =
    sym (crash_is items c.in-Crash.site (sym c.kind_of.ensures ∙ c.in-Crash.is)) ∙ c.step_items-items.ensures
    ∙ ap (λ (it : Scenario). step_items it (c.args.done + 1)) (sym c.requires.played) ∙ is in
    cc

pub line-requires-in-Restart-clause-no_stop : goal.line-requires-in-Restart-clause-no_stop
line-requires-in-Restart-clause-no_stop g c = λ site calls leave more is.
    let items : List Item = c.step_items-items.result.now in
    let no : item.Restart c.in-Restart.site ∷ [] ≡ item.Stop site calls leave ∷ more =
    sym (restart_is items c.in-Restart.site (sym c.kind_of.ensures ∙ c.in-Restart.is)) ∙ c.step_items-items.ensures
    ∙ ap (λ (it : Scenario). step_items it (c.args.done + 1)) (sym c.requires.played) ∙ is in
    cc

pub line-requires-in-Recovery-clause-no_stop : goal.line-requires-in-Recovery-clause-no_stop
line-requires-in-Recovery-clause-no_stop g c = λ site calls leave more is.
    let items : List Item = c.step_items-items.result.now in
    let no : item.Recover c.in-Recovery.group ∷ [] ≡ item.Stop site calls leave ∷ more =
    sym (recovery_is items c.in-Recovery.group (sym c.kind_of.ensures ∙ c.in-Recovery.is)) ∙ c.step_items-items.ensures
    ∙ ap (λ (it : Scenario). step_items it (c.args.done + 1)) (sym c.requires.played) ∙ is in
    cc

pub recovery-requires-clause-few : goal.recovery-requires-clause-few
recovery-requires-clause-few g c = subst (λ (most : ℕ). most ≤ 2000000) (sym c.line-in-Recovery.ensures.on.most) c.requires.most

pub exchange-requires-clause-played : goal.exchange-requires-clause-played
exchange-requires-clause-played g c = c.line-in-Exchange.ensures.on.scenario ∙ c.requires.played

pub exchange-requires-clause-given : goal.exchange-requires-clause-given
exchange-requires-clause-given g c = c.requires.given
