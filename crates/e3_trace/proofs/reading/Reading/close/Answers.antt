use Rattle.std.proofs.Common.{ap, sym, ◌∙◌, ◌++◌, ◌∷◌, []}
use Rattle.e3_trace.proofs.Knowing.{closing}
use Rattle.e3_trace.proofs.reading.Reading.close.Goals as goal

pub returns-in_ok-grown-in-Some : goal.returns-in_ok-grown-in-Some
returns-in_ok-grown-in-Some c =
    closing c.args.self.now c.self.inside.known c.self.inside.past c.replace.new.dest c.self.inside.draft c.take.new.self
    c.in-Some.draft c.in_ok-entry-in-Some.entry
    c.self.view_is (sym c.take.ensures.value ∙ c.in-Some.is) c.in_ok-entry-in-Some.ensures
    (c.replace.ensures.after ∙ c.in_ok-grown-in-Some.ensures ∙ ap (λ h. h ++ c.in_ok-entry-in-Some.entry ∷ []) c.replace-past.ensures.value)
    c.take.ensures.after
