use Rattle.std.proofs.Common.{◌≡◌, ◌≤◌, ◌∙◌, inl, inr, ℕ, List, length, take, refl, ap, sym, subst, arith}
use Rattle.std.proofs.lemmas.List.{length-take-le}
use Rattle.std.specs.Prelude.{Ok}
use Rattle.e3_world.specs.Brief.{brief}
use Rattle.e3_laws.proofs.brief.Laws.{are_some}
use Rattle.e3_node.specs.Briefing.{IsReadBrief}
use Rattle.e3_node.specs.site_log.Ends.{HasRoom}
use Rattle.e3_types.specs.declared.records.Record.{Record}
use Rattle.e3_node.proofs.Briefs.{due_short, read_none, read_some}
use Rattle.e3_node.proofs.briefing.shorten_read.Goals as goal
use Rattle.e3_node.proofs.briefing.shorten_read.Goals.{then-rise-eq0-via-then-rise-eq0, then-rise-eq0-via-else-rise-eq0+then-fits}

pub returns-then-rise-eq0-clause-due : goal.returns-then-rise-eq0-clause-due
returns-then-rise-eq0-clause-due g c = λ l is sound.
    let rise = c.args.rise.now in
    elim c.then-rise-eq0.branch [
      | then-rise-eq0-via-then-rise-eq0 w ↦ inr (read_none c.args.wish.now.site (take rise.read rise.rose) l is (ap (λ (n : ℕ). take n rise.rose) w.if-rise-eq0.true))
      | then-rise-eq0-via-else-rise-eq0+then-fits w ↦
          inl (subst (λ (n : ℕ). HasRoom g.D.Disk.meaning.meters c.args.log.now n) w.len.ensures (w.if-fits.ensures.0 refl))
    ]

pub returns-clause-short : goal.returns-clause-short
returns-clause-short g c = λ l is.
    let rise = c.args.rise.now in
    let site = c.args.wish.now.site in
    let few : rise.read ≤ length rise.rose = c.requires in
    let long : length (take rise.read rise.rose) ≡ rise.read = length-take-le rise.read rise.rose few in
    let told : c.in_ok-records.records ≡ brief l =
    c.in_ok-records.ensures.brief l (subst (λ (x : List Record). IsReadBrief site (take rise.read x) l) (sym c.as_slice.ensures) is) in
    c.in_ok-short_of.ensures.short site l (c.as_slice-2.ensures ∙ told) (read_some site (take rise.read rise.rose) l is (omega (arith, long))) is.of_site

pub returns-clause-due : goal.returns-clause-due
returns-clause-due g c = λ l is sound.
    let rise = c.args.rise.now in
    let site = c.args.wish.now.site in
    let told : c.in_ok-records.records ≡ brief l =
    c.in_ok-records.ensures.brief l (subst (λ (x : List Record). IsReadBrief site (take rise.read x) l) (sym c.as_slice.ensures) is) in
    due_short g.D.Disk.meaning.meters c.args.log.now l c.as_slice-2.result.now (length rise.body) (Ok c.in_ok-short_of.field-0) c.in_ok-short_of.ensures.none
    (λ none. are_some site l is.log_orderly (sym (c.as_slice-2.ensures ∙ told) ∙ none))
