-- what came of the run, for each end of what is prepared
use Rattle.std.proofs.Common.{◌≡◌, Err, arith, inl, inr, refl, rules}
use Rattle.e3_top.specs.declared.preparing.Stop.TheVariants as stop
use Rattle.e3_top.specs.Ends.{IsPrepared}
use Rattle.e3_top.specs.Words.{MayEnd}
use Rattle.e3_top.proofs.Ran.{ran_alike, ran_to_the_sink, ran_without_text}
use Rattle.e3_top.proofs.Runs.{of_ok}
use Rattle.e3_top.proofs.Statuses.{may_lose, may_want}
use Rattle.e3_top.proofs.running.run_within.Goals as goal

pub returns-in-Ok : goal.returns-in-Ok
returns-in-Ok g c = record {
  ran =
      ran_alike g.D.Disk.meaning g.S.Source.left g.S.Source.faults g.K.Sink.written g.K.Sink.faults c.args.words.now c.args.most
      (record { disks = c.args.disks.items; source = c.args.source.now; sink = c.args.sink.now }) c.prepare-due.new.source c.finish.new.sink
      c.prepare-due.result.disks.items c.finish.result.disks.items c.finish.result.status c.prepare-due.result.history.entries c.finish.result.history.entries
      c.finish.ensures.disks c.finish.ensures.history
      (ran_to_the_sink g.D.Disk.meaning g.S.Source.left g.S.Source.faults g.K.Sink.written g.K.Sink.faults c.args.words.now c.args.most
      (record { disks = c.args.disks.items; source = c.args.source.now; sink = c.args.sink.now })
      (record { disks = c.prepare-due.result.disks.items; source = c.prepare-due.new.source; sink = c.finish.new.sink })
      c.in-Ok.due.status c.finish.result.status c.prepare-due.result.history.entries c.in-Ok.due.text
      (of_ok (λ due. IsPrepared g.D.Disk.meaning c.args.disks.items c.prepare-due.result.disks.items c.args.words.now (g.S.Source.left c.args.source.now)
      (g.S.Source.left c.prepare-due.new.source) c.args.most due.status c.prepare-due.result.history.entries due.text)
      c.prepare-due.result.due c.in-Ok.is c.prepare-due.ensures.ready.prepared)
      (of_ok (λ due. MayEnd c.args.words.now due.status) c.prepare-due.result.due c.in-Ok.is c.prepare-due.ensures.ready.status)
      c.finish.ensures.written c.finish.ensures.failed c.finish.ensures.known c.finish.ensures.status
      c.prepare-due.ensures.told c.prepare-due.ensures.untouched c.prepare-due.ensures.unread c.prepare-due.ensures.ready.never_falls c.finish.ensures.counts);
}

pub returns-in-Err-SourceFailed : goal.returns-in-Err-SourceFailed
returns-in-Err-SourceFailed g c =
    let failed : c.prepare-due.result.due ≡ Err stop.SourceFailed = search rules in record {
      ran =
          ran_without_text g.D.Disk.meaning g.S.Source.left g.S.Source.faults g.K.Sink.written g.K.Sink.faults c.args.words.now c.args.most
          (record { disks = c.args.disks.items; source = c.args.source.now; sink = c.args.sink.now })
          (record { disks = c.prepare-due.result.disks.items; source = c.prepare-due.new.source; sink = c.args.sink.now })
          3 c.prepare-due.result.history.entries (inl refl)
          (may_lose c.args.words.now (c.prepare-due.ensures.ready.source_failed failed).reads)
          (λ e. c.prepare-due.ensures.ready.source_failed failed) (λ e. absurd (omega (arith, e))) refl
          c.prepare-due.ensures.told c.prepare-due.ensures.untouched c.prepare-due.ensures.unread c.prepare-due.ensures.ready.never_falls;
    }

pub returns-in-Err-NoMemory : goal.returns-in-Err-NoMemory
returns-in-Err-NoMemory g c =
    let lacked : c.prepare-due.result.due ≡ Err stop.NoMemory = search rules in record {
      ran =
          ran_without_text g.D.Disk.meaning g.S.Source.left g.S.Source.faults g.K.Sink.written g.K.Sink.faults c.args.words.now c.args.most
          (record { disks = c.args.disks.items; source = c.args.source.now; sink = c.args.sink.now })
          (record { disks = c.prepare-due.result.disks.items; source = c.prepare-due.new.source; sink = c.args.sink.now })
          5 c.prepare-due.result.history.entries (inr refl) (may_want c.args.words.now)
          (λ e. absurd (omega (arith, e))) (λ e. c.prepare-due.ensures.ready.no_memory lacked) refl
          c.prepare-due.ensures.told c.prepare-due.ensures.untouched c.prepare-due.ensures.unread c.prepare-due.ensures.ready.never_falls;
    }
