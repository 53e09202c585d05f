use Rattle.std.proofs.Common.{◌≡◌, ◌≤◌, ◌∙◌, ℕ, List, Result, Ok, Err, OnOk, length, arith}
use Rattle.std.proofs.lemmas.List.Sums.{count_by-le-length}
use Rattle.e3_fleet.specs.Settling.{history_in, most_in}
use Rattle.e3_fleet.proofs.playing.play.Goals as goal
use Rattle.e3_play.specs.Played.{IsSettled}
use Rattle.e3_types.specs.declared.entries.Entry.{Entry}
use Rattle.e3_types.specs.declared.scenarios.Scenario.{Scenario}
use Rattle.e3_world.specs.Legal.{IsWhole}
use Rattle.e3_world.specs.Packets.{is_line, lines}

-- each step that is through has a line
few_steps : (sc : Scenario) (h : List Entry) (done : ℕ) → IsSettled sc h done → length h ≤ 2000000 → done ≤ 2000000
few_steps sc h done settled few =
    let through : lines h ≡ done = settled.at in
    let each : lines h ≤ length h = count_by-le-length is_line h in
    omega (arith, through, each, few)

-- all steps are through
all_through : {done : ℕ} (sc : Scenario) (h : List Entry) → IsSettled sc h done → length h ≤ 2000000 → (done ≤ 2000000 → done ≡ length sc.steps) → IsWhole sc h
all_through {done} sc h settled few all =
    record { legal = settled.legal; last = settled.at ∙ all (few_steps sc h done settled few); through = settled.through }

-- the same, where the answer says so
all_answered : {T E : Type 0} {done : ℕ} (sc : Scenario) (h : List Entry) (answer : Result T E) → OnOk answer (IsSettled sc h done) →
    length h ≤ 2000000 → (done ≤ 2000000 → done ≡ length sc.steps) → OnOk answer (IsWhole sc h)
all_answered sc h (Ok t) settled few all = all_through sc h settled few all
all_answered sc h (Err e) settled few all = tt

pub returns-clause-whole : goal.returns-clause-whole
returns-clause-whole g c =
    let on = c.play_first.ensures.on in
    let within : length (history_in c.play_first.new.fleet) ≤ most_in c.play_first.new.fleet = on.stands.fleet.shared_stands.within in
    let same : most_in c.play_first.new.fleet ≡ most_in c.args.fleet.now = on.most in
    let most : most_in c.args.fleet.now ≤ 2000000 = c.requires.most in
    all_answered c.args.scenario.now (history_in c.play_first.new.fleet) c.play_first.result c.play_first.ensures.settled (omega (arith, within, same, most)) (λ few. omega arith)
