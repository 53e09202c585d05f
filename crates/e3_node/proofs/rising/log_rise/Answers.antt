use Rattle.std.proofs.Common.{◌++◌, ◌+◌, ◌∙◌, ℕ, ap, sym, subst, length, List}
use Rattle.e3_codec.specs.Fields.{AllCanBeReadBack}
use Rattle.e3_world.specs.Orderly.{IsOrderly}
use Rattle.e3_node.specs.Bodies.{entries_at, log_with}
use Rattle.e3_node.specs.Rising.{HasNotRaised}
use Rattle.e3_node.specs.site_log.Bodies.{IsLogged, ReadsLeft}
use Rattle.e3_node.specs.site_log.Ends.{HasRoomUnlessShort, IsReason, size_of}
use Rattle.e3_types.specs.declared.records.Record.{Record}
use Rattle.e3_node.proofs.Rises.{may_follow, not_raised, raised, was_logged}
use Rattle.e3_node.proofs.rising.log_rise.Goals as goal

pub returns-in-Ok-clause-makes : goal.returns-in-Ok-clause-makes
returns-in-Ok-clause-makes g c = λ sc h wish logged bodies may is stands tells is_short due.
    let at = g.met.D.Disk.reads_an_image c.args.log.disk in
    let l = log_with sc h wish.site c.args.rise.kept in
    let was = was_logged g.D.Disk.meaning c.logs_are_sound.ensures.orderly c.logs_are_sound.ensures.sets c.logs_are_sound.ensures.sound sc h wish logged bodies c.args.rise c.args.log may is stands tells at in
    let follow = may_follow g.D.Disk.meaning c.logs_are_sound.ensures.orderly c.logs_are_sound.ensures.sets c.logs_are_sound.ensures.sound sc h wish logged bodies c.args.rise c.args.log may is stands tells at in
    let wrote = c.in-Ok.ensures.logged wish.site (entries_at h wish.site) l was is_short
    (subst (λ (rs : List Record). IsOrderly wish.site (l ++ rs)) (sym c.as_slice-records.ensures) follow)
    (subst (λ (rs : List Record). AllCanBeReadBack wish.site rs) (sym c.as_slice-records.ensures) is.fits) in
    raised g.D.Disk.meaning c.logs_are_sound.ensures.orderly c.logs_are_sound.ensures.sets c.logs_are_sound.ensures.sound sc h wish logged bodies c.args.rise c.args.log may is stands tells at c.write.new.logged c.write.new.log
    (subst (λ (rs : List Record). IsLogged g.D.Disk.meaning wish.site (entries_at h wish.site + 1) (l ++ rs) c.write.new.logged c.write.new.log) c.as_slice-records.ensures wrote)
    c.in-Ok.ensures.lit

pub returns-clause-makes : goal.returns-clause-makes
returns-clause-makes g c = λ sc h wish logged bodies may is stands tells is_short due.
    let at = g.met.D.Disk.reads_an_image c.args.log.disk in
    let l = log_with sc h wish.site c.args.rise.kept in
    let old = g.D.Disk.meaning.meters c.args.log.disk in
    let new = g.D.Disk.meaning.meters c.write.new.log.disk in
    let was = was_logged g.D.Disk.meaning c.logs_are_sound.ensures.orderly c.logs_are_sound.ensures.sets c.logs_are_sound.ensures.sound sc h wish logged bodies c.args.rise c.args.log may is stands tells at in
    let follow = may_follow g.D.Disk.meaning c.logs_are_sound.ensures.orderly c.logs_are_sound.ensures.sets c.logs_are_sound.ensures.sound sc h wish logged bodies c.args.rise c.args.log may is stands tells at in
    let left = c.in-Err.ensures.left wish.site (entries_at h wish.site) l was is_short
    (subst (λ (rs : List Record). IsOrderly wish.site (l ++ rs)) (sym c.as_slice-records.ensures) follow)
    (subst (λ (rs : List Record). AllCanBeReadBack wish.site rs) (sym c.as_slice-records.ensures) is.fits) in
    let size = ap length c.requires.spelled ∙ sym (ap size_of c.as_slice-records.ensures) in
    let fits : HasRoomUnlessShort g.D.Disk.meaning.meters c.args.log l c.args.short (size_of c.as_slice-records.result.now) = subst (λ (n : ℕ). HasRoomUnlessShort g.D.Disk.meaning.meters c.args.log l c.args.short n) size due in
    let reason = c.in-Err.ensures.reason wish.site (entries_at h wish.site) l was is_short fits in
    subst (λ (d : _). HasNotRaised g.D.Disk.meaning sc h wish.site c.args.log.disk d c.write.new.logged c.args.rise.kept c.args.rise.inc c.in-Err.why)
    (sym c.into_disk.ensures)
    (not_raised g.D.Disk.meaning c.logs_are_sound.ensures.orderly c.logs_are_sound.ensures.sets c.logs_are_sound.ensures.sound sc h wish logged bodies c.args.rise c.args.log may is stands tells at c.write.new.logged c.write.new.log c.in-Err.why
    (λ bytes there. subst (λ (rs : List Record). ReadsLeft wish.site new.capacity (entries_at h wish.site + 1) l rs c.write.new.logged c.in-Err.why bytes)
    c.as_slice-records.ensures (left bytes there))
    (subst (λ (rs : List Record). IsReason c.in-Err.why l rs old new) c.as_slice-records.ensures reason))
