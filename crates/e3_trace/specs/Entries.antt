-- The first line of an entry: `OWNER FORM`.
use Rattle.std.specs.Prelude.{ℕ, Bool, true, false, List, codes, bytes_eq, Option, Some, None, option_map, option_and_then, if◌then◌else◌}
use Rattle.e3_types.specs.declared.entries.Act.{Act}
use Rattle.e3_types.specs.declared.entries.Act.TheVariants as act
use Rattle.e3_types.specs.declared.entries.Why.{Why}
use Rattle.e3_types.specs.declared.entries.Why.TheVariants.{Fault, Full}
use Rattle.e3_trace.specs.declared.drafts.Draft.{Draft}
use Rattle.e3_trace.specs.declared.drafts.Head.TheVariants as head
use Rattle.e3_trace.specs.Cuts.{cut, Form, made_of, pair_of, behind, begins}
use Rattle.e3_report.specs.lines.Marks.{space}
use Rattle.e3_trace.specs.Drafts.{draft_of}
use Rattle.e3_trace.specs.Events.{of_of}
use Rattle.e3_trace.specs.Fields.{Known, u32_of, u64_of, parts_of}
use Rattle.e3_trace.specs.Inputs.{input_of}

-- a fall for want of room
abbrev pub full_from : ℕ × ℕ → Why
full_from p = Full p.0 p.1

-- a fall for want of room, and a value behind: `full NEED of ROOM VALUE`
abbrev pub full_and : {A : Type 0} → Form A → Form (Why × A)
full_and value text =
    made_of (λ p. (Full p.0 p.1.0, p.1.1)) (behind (codes "full") (pair_of space u64_of (behind (codes "of") (pair_of space u64_of value)))) text

-- a fall for a failing disk, and a value behind: `fault VALUE`
abbrev pub fault_and : {A : Type 0} → Form A → Form (Why × A)
fault_and value text = made_of (λ x. (Fault, x)) (behind (codes "fault") value) text

-- why a site fell, and a value behind
abbrev pub why_and : {A : Type 0} → Form A → Form (Why × A)
why_and value text = if begins (codes "fault") text then fault_and value text else full_and value text

-- why a site fell: `fault`, or `full NEED of ROOM`
unfoldable pub why_of : Form Why
why_of text = if bytes_eq text (codes "fault") then Some Fault else made_of full_from (behind (codes "full") of_of) text

-- the word `kept`
abbrev pub kept_of : Form Bool
kept_of text = if bytes_eq text (codes "kept") then Some true else None

-- a rise: `INC`, and ` kept` where an open frame was kept
unfoldable pub rise_of : Form Act
rise_of text = by (cut space text)
  where
    by : Option (List ℕ × List ℕ) → Option Act
    by None = option_map (act.Rise false) (u32_of text)
    by (Some p) = option_and_then (λ kept. option_map (act.Rise kept) (u32_of p.0)) (kept_of p.1)

-- why a rise failed, and ` kept` where an open frame was kept
unfoldable pub kept_why_of : Form (Bool × Why)
kept_why_of text = by (why_of text)
  where
    by : Option Why → Option (Bool × Why)
    by (Some why) = Some (false, why)
    by None = made_of (λ p. (p.1, p.0)) (why_and kept_of) text

-- a failed rise: `INC WHY`, and ` kept` where an open frame was kept
unfoldable pub failed_rise_of : Form Act
failed_rise_of text = made_of (λ p. act.RiseFall p.1.0 p.0 p.1.1) (pair_of space u32_of kept_why_of) text

-- a fall: `WHY COUNT`
unfoldable pub fall_of : Form (Why × ℕ)
fall_of text = why_and u64_of text

-- an entry of one line
abbrev pub whole_of : ℕ → Act → Draft
whole_of owner a = draft_of owner (head.Whole a) 0

-- a step
abbrev pub step_of : Known → ℕ → Form Draft
step_of known owner text = option_map (λ i. draft_of owner (head.Step i) 0) (input_of known text)

-- an entry of more words than one, of this verb
unfoldable pub act_by : List ℕ → Form Act
act_by verb text =
    if bytes_eq verb (codes "line") then made_of act.Line u32_of text
    else if bytes_eq verb (codes "parts") then made_of act.Parts parts_of text
    else if bytes_eq verb (codes "drop") then made_of act.Drop u64_of text
    else if bytes_eq verb (codes "rise") then rise_of text
    else if bytes_eq verb (codes "risefall") then failed_rise_of text
    else None

-- an entry of more words than one
unfoldable pub draft_by : Known → ℕ → List ℕ → Form Draft
draft_by known owner verb text =
    if bytes_eq verb (codes "step") then step_of known owner text
    else if bytes_eq verb (codes "fall") then made_of (λ p. draft_of owner (head.Fall p.0) p.1) fall_of text
    else made_of (whole_of owner) (act_by verb) text

-- the form of an entry of the owner
unfoldable pub form_of : Known → ℕ → Form Draft
form_of known owner text =
    if bytes_eq text (codes "miss") then Some (whole_of owner act.Miss)
    else if bytes_eq text (codes "cut") then Some (whole_of owner act.Cut)
    else option_and_then (λ p. draft_by known owner p.0 p.1) (cut space text)
