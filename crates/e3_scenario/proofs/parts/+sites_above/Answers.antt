use Rattle.std.proofs.Common.{◌≡◌, Some, sym}
use Rattle.e3_scenario.specs.Parts.{site_of}
use Rattle.e3_scenario.specs.Words.{before}
use Rattle.e3_report.specs.lines.Marks.{comma}
use Rattle.e3_scenario.proofs.Pieces.{low_site}
use Rattle.e3_scenario.proofs.parts.+sites_above.Goals as goal

pub returns-then-site-low : goal.returns-then-site-low
returns-then-site-low t c =
    let spelled : site_of (before comma c.args.text.now) ≡ Some c.in_ok-site.site = cc (c.in_ok-site.ensures.value, c.before-2.ensures) in
    sym (low_site c.args.low c.args.sites c.args.text.now c.in_ok-site.site spelled c.if-site-low.true)
