use Rattle.std.proofs.Common.{ℕ, ◌≡◌, ◌⊎◌, inl, inr, refl, ap, sym, subst, ◌∙◌, List, IfOk, Result, Ok, Err}
use Rattle.std.specs.Prelude.{MatchResult}
use Rattle.e3_types.specs.declared.records.Record.{Record}
use Rattle.e3_types.specs.Spelling.{spelling}
use Rattle.e3_codec.specs.declared.faults.RecordFault.{RecordFault}
use Rattle.e3_codec.specs.declared.faults.RecordFault.TheVariants.{Bad, NoMemory}
use Rattle.e3_codec.specs.Fields.{AllCanBeReadBack}
use Rattle.e3_codec.specs.Places.{FirstBad}
use Rattle.e3_codec.proofs.Records.{one_list, never_bad, one_place}
use Rattle.e3_codec.proofs.readers.read_records.Goals as goal

exactly : (site : ℕ) (bytes : List ℕ) (records : List Record) (r : Result (List Record) RecordFault) → AllCanBeReadBack site records → bytes ≡ spelling records →
    IfOk r (λ rs. AllCanBeReadBack site rs × (bytes ≡ spelling rs)) → ((at : ℕ) → r ≡ Err (Bad at) → FirstBad site bytes at) →
    MatchResult r (λ rs. rs ≡ records) (λ e. e ≡ NoMemory)
exactly site bytes records (Ok rs) fits is found bad = one_list site rs records found.0 fits (sym found.1 ∙ is)
exactly site bytes records (Err (Bad at)) fits is found bad = absurd (never_bad site records at fits (subst (λ (b : List ℕ). FirstBad site b at) is (bad at refl)))
exactly site bytes records (Err NoMemory) fits is found bad = refl

badly : (site : ℕ) (bytes : List ℕ) (at : ℕ) (r : Result (List Record) RecordFault) → FirstBad site bytes at →
    IfOk r (λ rs. AllCanBeReadBack site rs × (bytes ≡ spelling rs)) → ((place : ℕ) → r ≡ Err (Bad place) → FirstBad site bytes place) →
    MatchResult r (λ rs. ⊥) (λ e. (e ≡ Bad at) ⊎ (e ≡ NoMemory))
badly site bytes at (Ok rs) first found bad = never_bad site rs at found.0 (subst (λ (b : List ℕ). FirstBad site b at) found.1 first)
badly site bytes at (Err (Bad place)) first found bad = inl (ap Bad (one_place site bytes place at (bad place refl) first))
badly site bytes at (Err NoMemory) first found bad = inr refl

pub returns-clause-exact : goal.returns-clause-exact
returns-clause-exact c = λ records fits is. exactly c.args.site c.args.bytes.now records c.all_records.result fits is c.all_records.ensures.found c.all_records.ensures.bad

pub returns-clause-only_bad : goal.returns-clause-only_bad
returns-clause-only_bad c = λ at first. badly c.args.site c.args.bytes.now at c.all_records.result first c.all_records.ensures.found c.all_records.ensures.bad
