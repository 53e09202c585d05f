-- one more entry
use Rattle.e3_report.proofs.Passing.{names_one, ups_one, text_one}
use Rattle.e3_report.proofs.steps.push_steps.Goals as goal

pub loop-at-preserved : goal.loop-at-preserved
loop-at-preserved c =
    let names = names_one c.args.scenario.now c.args.history.now c.loop-at.at c.index-history-at.result c.loop-at.known.names c.enter.new.self
    c.loop-at-test.true c.index-history-at.is c.loop-at.invariant.names c.in_ok-enter.ensures in
    let ups = ups_one c.args.history.now c.loop-at.at c.index-history-at.result c.loop-at.known.ups.keys c.enter_up.new.ups.keys
    c.loop-at-test.true c.index-history-at.is c.loop-at.invariant.ups c.in_ok-enter_up.ensures in
    record {
      names = names;
      ups = ups;
      text = λ whole.
          let added = c.in_ok-push_by_line.ensures whole in
          let was = c.loop-at.invariant.text added.0 in (
            was.0,
            text_one c.args.scenario.now c.args.history.now c.loop-at.at c.index-history-at.result c.enter.new.self
                c.enter_up.new.ups.keys c.loop-at.page.text c.push_by_line.new.page.text _ c.loop-at-test.true c.index-history-at.is names
                ups added.1 was.1,
          );
    }
