-- What the bytes spell, by what is read.
use Rattle.std.proofs.Common.{◌≡◌, ℕ, ◌≤◌, Bool, true, false, List, length, Some, None, Result, Ok, Err, IfOk, IfErr, ◌⊎◌, inr, if◌then◌else◌, le-leb, refl, sym}
use Rattle.std.specs.Str.{IsUtf8, is_utf8}
use Rattle.std.proofs.lemmas.Str.{is_utf8-from_IsUtf8, IsUtf8-from_is_utf8}
use Rattle.toml.specs.Data.{Members}
use Rattle.toml.specs.Parse.{parse_document}
use Rattle.e3_types.specs.declared.scenarios.Scenario.{Scenario}
use Rattle.e3_world.specs.Given.{IsGiven}
use Rattle.e3_scenario.specs.Documents.{document}
use Rattle.e3_scenario.specs.Scenarios.{scenario_in, scenario_of}
use Rattle.e3_scenario.specs.declared.faults.ScenarioFault.{ScenarioFault}
use Rattle.e3_scenario.specs.declared.faults.ScenarioFault.TheVariants as fault
use Rattle.e3_scenario.proofs.GivenLaws.{given_scenario}

pub document-some : (bytes : List ℕ) (read : Members) → IsUtf8 bytes → parse_document bytes ≡ Some read → document bytes ≡ Some read
document-some bytes read text parsed = rw (is_utf8-from_IsUtf8 bytes text) parsed

pub document-none : (bytes : List ℕ) → (IsUtf8 bytes → parse_document bytes ≡ None) → document bytes ≡ None
document-none bytes none = by (is_utf8 bytes) refl
  where
    by : (b : Bool) → is_utf8 bytes ≡ b → (if b then parse_document bytes else None) ≡ None
    by true is = none (IsUtf8-from_is_utf8 bytes is)
    by false is = refl

pub spelled_some : (bytes : List ℕ) (spelled : Members) (read : Result Scenario ScenarioFault) → length bytes ≤ 4194304 → document bytes ≡ Some spelled
    → read ≡ scenario_in spelled → scenario_of bytes ≡ read
spelled_some bytes spelled read short is same = rw (le-leb (length bytes) 4194304 short, is) (sym same)

pub spelled_none : (bytes : List ℕ) → length bytes ≤ 4194304 → document bytes ≡ None → scenario_of bytes ≡ Err fault.NotToml
spelled_none bytes short is = rw (le-leb (length bytes) 4194304 short, is) refl

pub read_ok : (bytes : List ℕ) (read : Result Scenario ScenarioFault) → scenario_of bytes ≡ read → IfOk read (λ sc. scenario_of bytes ≡ Ok sc)
read_ok bytes (Ok sc) is = is
read_ok bytes (Err f) is = tt

pub read_given : (bytes : List ℕ) (read : Result Scenario ScenarioFault) → scenario_of bytes ≡ read → IfOk read IsGiven
read_given bytes (Ok sc) is = given_scenario bytes sc is
read_given bytes (Err f) is = tt

pub read_fault : (bytes : List ℕ) (read : Result Scenario ScenarioFault) → scenario_of bytes ≡ read
    → IfErr read (λ f. (f ≡ fault.NoMemory) ⊎ (scenario_of bytes ≡ Err f))
read_fault bytes (Ok sc) is = tt
read_fault bytes (Err f) is = inr is
